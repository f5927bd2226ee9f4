use Rattle.rv_mem.proofs.Prelude.{◌+◌, arith}
use Rattle.std.proofs.lemmas.List.{get_or_past}
use Rattle.rv_mem.proofs.cells.zero_chunks.Goals as goal

pub returns-then-from-front-clause-zeros : goal.returns-then-from-front-clause-zeros
returns-then-from-front-clause-zeros c j h = get_or_past c.args.front.now (c.args.from + j) 0 (omega (arith, c.if-from-front.true))
