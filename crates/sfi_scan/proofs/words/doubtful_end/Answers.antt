use Rattle.sfi_scan.proofs.Prelude.{arith}
use Rattle.sfi_scan.proofs.Fronts.{below_end}
use Rattle.sfi_scan.proofs.words.doubtful_end.Goals as goal

pub returns-in-None-clause-inside : goal.returns-in-None-clause-inside
returns-in-None-clause-inside g c = let enough = (below_end c.args.place.now c.args.code.now c.requires.0 c.args.at c.requires.1 c.requires.2 c.requires.3 c.requires.4).1 in omega (arith, enough)
