use Rattle.sfi_scan.proofs.Prelude.{sym}
use Rattle.sfi_scan.proofs.FirstLook.{zero_of}
use Rattle.sfi_scan.proofs.WordLook.{jump_plain}
use Rattle.sfi_scan.proofs.words.look.is_clean_indirect_jump_in_words.Goals as goal

pub returns : goal.returns
returns c = jump_plain c.args.rd c.args.base c.number.result c.args.imm (zero_of c.args.imm c.if-imm-ne0.false (record { sfits = c.ranges.imm.sfits })) (sym c.if-is_reserved_or_typed.ensures) c.number.ensures.value
