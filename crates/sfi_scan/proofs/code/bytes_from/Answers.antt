use Rattle.sfi_scan.proofs.Prelude.{◌∙◌, take, ap}
use Rattle.sfi_scan.proofs.Readings.{tail_is}
use Rattle.sfi_scan.proofs.code.bytes_from.Goals as goal

pub returns : goal.returns
returns g c =
    let chunk = c.in-Some.ensures.cases in
    chunk.same ∙ ap (take g.row.N) (tail_is c.args.start c.args.code.now)
