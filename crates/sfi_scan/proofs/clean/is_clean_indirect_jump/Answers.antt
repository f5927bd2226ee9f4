use Rattle.sfi_scan.proofs.Prelude.{sym}
use Rattle.sfi_scan.proofs.FirstLook.{jump_told, zero_of}
use Rattle.sfi_scan.proofs.clean.is_clean_indirect_jump.Goals as goal

pub returns : goal.returns
returns c earlier are = jump_told c.args.place.now earlier c.args.rd c.args.base c.args.imm (zero_of c.args.imm c.if-imm-ne0.false (record { sfits = c.ranges.imm.sfits })) (sym (c.if-is_protected.ensures c.args.place.now c.requires)) _ (c.is_pair.ensures earlier are)
