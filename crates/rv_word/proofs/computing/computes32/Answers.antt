use Rattle.std.proofs.Common.{refl}
use Rattle.rv_word.proofs.Tables.{found, only, only_low}
use Rattle.rv_word.proofs.computing.computes32.Goals as goal

pub returns-then-parts-eq3-clause-found : goal.returns-then-parts-eq3-clause-found
returns-then-parts-eq3-clause-found c = found c.args.word c.from_word-parts.result c.from_word-parts.ensures.sum c.from_word-parts.ensures.fits c.if-parts-eq3.true _ refl

pub returns-then-parts-eq3-clause-only : goal.returns-then-parts-eq3-clause-only
returns-then-parts-eq3-clause-only c = only c.args.word c.from_word-parts.result c.from_word-parts.ensures.sum c.from_word-parts.ensures.fits

pub returns-else-parts-eq3-clause-only : goal.returns-else-parts-eq3-clause-only
returns-else-parts-eq3-clause-only c = only_low c.args.word c.from_word-parts.result c.from_word-parts.ensures.sum c.from_word-parts.ensures.fits
