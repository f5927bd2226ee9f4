use Rattle.sfi_scan.proofs.TableEntries.{free_told, no_stack, other_register}
use Rattle.sfi_scan.proofs.tables.is_free_half.Goals as goal

pub returns-then-not-stack : goal.returns-then-not-stack
returns-then-not-stack c b is = free_told c.args.halfword c.ranges.halfword.fits c.if-halfword-place-eq0.false b c.args.stack is _ (no_stack c.args.stack _)

pub returns-else-not-stack : goal.returns-else-not-stack
returns-else-not-stack c b is = free_told c.args.halfword c.ranges.halfword.fits c.if-halfword-place-eq0.false b c.args.stack is _ (other_register c.args.stack c.args.halfword)
