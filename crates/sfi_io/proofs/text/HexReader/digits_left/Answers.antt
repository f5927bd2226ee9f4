use Rattle.sfi_io.proofs.Prelude.{arith, ahead}
use Rattle.sfi_io.proofs.Ahead.{counts_all, counts_filled}
use Rattle.sfi_io.proofs.text.HexReader.digits_left.Goals as goal

pub returns-in-Ok-eq0-clause-left : goal.returns-in-Ok-eq0-clause-left
returns-in-Ok-eq0-clause-left g c =
    let held = c.loop-stop.self.held in
    counts_all (ahead g.R.Read.remaining c.args.self.now) (ahead g.R.Read.remaining c.fill.new.self) c.fill.new.self.held.high _
    (counts_filled (ahead g.R.Read.remaining c.args.self.now) held.read held.made held.high _ held.at held.end held.piece (g.R.Read.remaining c.loop-stop.self.reader.now) c.loop-stop.count _ (ahead g.R.Read.remaining c.fill.new.self)
    c.loop-stop.invariant.0 c.digits_in-count.ensures.count c.in-Ok-eq0.ensures.same c.in-Ok-eq0.ensures.high)
    (c.in-Ok-eq0.ensures.over c.in-Ok-eq0.field-0-test)

pub loop-stop-preserved : goal.loop-stop-preserved
loop-stop-preserved g c =
    let held = c.loop-stop.self.held in (
      counts_filled (ahead g.R.Read.remaining c.args.self.now) held.read held.made held.high _ held.at held.end held.piece (g.R.Read.remaining c.loop-stop.self.reader.now) c.loop-stop.count _ (ahead g.R.Read.remaining c.fill.new.self)
          c.loop-stop.invariant.0 c.digits_in-count.ensures.count c.in-Ok.ensures.same c.in-Ok.ensures.high,
      omega (arith, c.in-Ok.ensures.read, c.in-Ok.ensures.held, c.loop-stop.invariant.1, c.digits_in-count.ensures.most),
    )
