use Rattle.rv_word.proofs.Cut.{no_op, if_none}
use Rattle.rv_word.proofs.word_fields.WordFields.op.Goals as goal

pub returns-in_err-from_functs-clause-none : goal.returns-in_err-from_functs-clause-none
returns-in_err-from_functs-clause-none c = if_none _ _ (no_op c.args.self c.requires.fits c.requires.opcode c.in_err-from_functs.ensures.none)
