use Rattle.std.proofs.Common.{arith}
use Rattle.rv_word.proofs.Cut.{no_opcode}
use Rattle.rv_word.proofs.word_fields.WordFields.outline.Goals as goal

pub returns-in_default-clause-none : goal.returns-in_default-clause-none
returns-in_default-clause-none c = no_opcode c.args.self c.requires
    (omega arith) (omega arith) (omega arith) (omega arith) (omega arith) (omega arith) (omega arith) (omega arith) (omega arith) (omega arith) (omega arith)
