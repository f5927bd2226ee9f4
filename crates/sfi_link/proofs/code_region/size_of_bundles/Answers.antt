use Rattle.std.proofs.Common.{arith}
use Rattle.sfi_link.proofs.Bytes.{all_but_last}
use Rattle.sfi_link.proofs.code_region.size_of_bundles.Goals as goal

pub returns-in-Some : goal.returns-in-Some
returns-in-Some c =
    let a = all_but_last c.args.bundles.now c.in-Some.full.now c.in-Some.last.now c.requires.full c.in-Some.ensures.cases.0 in
    omega arith
