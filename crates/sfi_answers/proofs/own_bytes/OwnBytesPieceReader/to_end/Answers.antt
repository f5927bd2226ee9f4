use Rattle.std.proofs.Common.{◌++◌, ◌∙◌, take}
use Rattle.sfi_io.proofs.Leads.{leads_more}
use Rattle.sfi_answers.specs.private.{own_to_come}
use Rattle.sfi_answers.proofs.own_bytes.OwnBytesPieceReader.to_end.Goals as goal

pub loop-stop-preserved : goal.loop-stop-preserved
loop-stop-preserved g c =
    let before = c.loop-stop.invariant in (
      (before.0.0 ++ take c.in-Ok.field-0 c.next_bytes.new.buf, leads_more (own_to_come c.args.self.now.read (g.R.Read.remaining c.args.self.now.reader.now)) _ _ before.0.0 _ before.0.1 c.in-Ok.ensures.bytes),
      c.in-Ok.ensures.size ∙ before.1,
    )
