use Rattle.sfi_host.proofs.Prelude.{List, subst, sym, ◌+◌, arith, Sandbox}
use Rattle.sfi_host.specs.Modules.{part_of}
use Rattle.sfi_host.proofs.Entered.{AreLoaded, right_part, one_more}
use Rattle.sfi_host.proofs.loading.load_parts.Goals as goal

pub add_part-requires : goal.add_part-requires
add_part-requires g c = (c.args.format, right_part (part_of c.args.format) c.args.parts.now c.loop-part.part-index c.part-item.result c.requires (omega arith) c.part-item.is)

pub first_sandbox-requires : goal.first_sandbox-requires
first_sandbox-requires g c = right_part (part_of c.args.format) c.args.parts.now c.loop-part.part-index c.part-item.result c.requires (omega arith) c.part-item.is

pub loop-part-preserved : goal.loop-part-preserved
loop-part-preserved g c =
    subst (λ (l : List Sandbox). AreLoaded c.args.format (g.M.Memory.bytes c.args.memory.now) c.args.parts.now (c.loop-part.part-index + 1) l (g.M.Memory.bytes c.add_part.new.memory)) (sym c.in_ok-push.ensures.items)
    (one_more c.args.format _ _ _ c.args.parts.now c.loop-part.part-index c.part-item.result c.loop-part.sandboxes.items c.in_ok-first_sandbox.field-0 (omega arith) c.part-item.is
    c.loop-part.invariant c.in_ok-first_sandbox.ensures (c.in_ok-add_part.ensures c.args.format))
