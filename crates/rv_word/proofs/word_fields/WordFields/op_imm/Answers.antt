use Rattle.rv_word.proofs.Cut.{no_imm, if_none}
use Rattle.rv_word.proofs.word_fields.WordFields.op_imm.Goals as goal

pub returns-in_err-shift_of-clause-none : goal.returns-in_err-shift_of-clause-none
returns-in_err-shift_of-clause-none c = if_none _ _ (no_imm c.args.self c.requires.fits c.requires.opcode c.in_default.ensures.none c.in_err-shift_of.ensures.none)
