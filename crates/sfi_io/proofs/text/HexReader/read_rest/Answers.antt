use Rattle.sfi_io.proofs.Prelude.{◌++◌, ◌∙◌, take}
use Rattle.sfi_io.specs.Pieces.{to_come}
use Rattle.sfi_io.proofs.Leads.{leads_more}
use Rattle.sfi_io.proofs.text.HexReader.read_rest.Goals as goal

pub loop-stop-preserved : goal.loop-stop-preserved
loop-stop-preserved g c =
    let before = c.loop-stop.invariant in (
      (before.0.0 ++ take c.in-Ok.field-0 c.read_bytes.new.buf, leads_more (to_come g.R.Read.remaining c.args.self.now) _ _ before.0.0 _ before.0.1 c.in-Ok.ensures.bytes),
      c.in-Ok.ensures.size ∙ before.1,
    )
