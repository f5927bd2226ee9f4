use Rattle.sfi_io.proofs.Prelude.{rules, ◌≡◌, ◌-◌, ℕ, ap, arith, take, drop}
use Rattle.sfi_io.proofs.Ahead.{filled, over, too_large}
use Rattle.sfi_io.proofs.text.HexReader.fill.Goals as goal

pub returns-clause-same : goal.returns-clause-same
returns-clause-same g c =
    let held = c.args.self.now.held in
    let none : held.end - held.at ≡ 0 = omega (arith, c.requires) in
    filled held.read held.made held.high (take (held.end - held.at) (drop held.at held.piece)) c.read.new.buf c.in-Ok.count (g.R.Read.remaining c.args.self.now.reader.now) (g.R.Read.remaining c.read.new.self)
    (ap (λ (n : ℕ). take n (drop held.at held.piece)) none) c.in-Ok.ensures.bound.0 c.in-Ok.ensures.bytes.0

pub returns-clause-over : goal.returns-clause-over
returns-clause-over g c none =
    let held = c.args.self.now.held in
    over held.read held.made held.high c.read.new.buf c.in-Ok.count (g.R.Read.remaining c.read.new.self) none (omega (arith, c.if-count-self.false, held.fewer)) (c.in-Ok.ensures.bytes.1 none (search rules))

pub returns-then-count-self-clause-stop : goal.returns-then-count-self-clause-stop
returns-then-count-self-clause-stop g c =
    let held = c.args.self.now.held in
    too_large held.read held.made held.high (take (held.end - held.at) (drop held.at held.piece)) c.read.new.buf c.in-Ok.count (g.R.Read.remaining c.args.self.now.reader.now) (g.R.Read.remaining c.read.new.self)
    c.in-Ok.ensures.bound.0 c.if-count-self.true c.in-Ok.ensures.bytes.0
