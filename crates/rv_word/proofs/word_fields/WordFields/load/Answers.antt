use Rattle.rv_word.proofs.Cut.{no_load, if_none}
use Rattle.rv_word.proofs.word_fields.WordFields.load.Goals as goal

pub returns-in_err-from_funct3-clause-none : goal.returns-in_err-from_funct3-clause-none
returns-in_err-from_funct3-clause-none c = if_none _ _ (no_load c.args.self c.requires.fits c.requires.opcode c.in_err-from_funct3.ensures.none)
