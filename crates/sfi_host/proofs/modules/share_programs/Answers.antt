use Rattle.std.specs.Arc.{arc_value}
use Rattle.std.specs.Global.{Global}
use Rattle.std.specs.declared.sync.Arc.{Arc}
use Rattle.sfi_host.proofs.Prelude.{◌≡◌, ◌+◌, ◌++◌, List, map, drop, sym, subst, arith, Program}
use Rattle.sfi_host.specs.Modules.{program_in}
use Rattle.sfi_host.specs.Modules.{programs_of}
use Rattle.sfi_host.proofs.Entered.{next_made, all_made}
use Rattle.sfi_host.proofs.modules.share_programs.Goals as goal

pub loop-part-preserved : goal.loop-part-preserved
loop-part-preserved c =
    subst (λ (l : List (Arc Program Global)). programs_of l ++ map program_in (drop (c.loop-part.part-index + 1) c.args.parts.now) ≡ map program_in c.args.parts.now) (sym c.in_ok-push.ensures.items)
    (next_made program_in arc_value c.args.parts.now c.loop-part.part-index c.part-item.result c.loop-part.all.items c.in_ok-try_clone.field-0 (omega arith) c.part-item.is c.loop-part.invariant c.in_ok-try_clone.ensures)

pub returns : goal.returns
returns c = all_made program_in arc_value c.args.parts.now c.loop-part.part-index c.loop-part.all.items (omega arith) c.loop-part.invariant
