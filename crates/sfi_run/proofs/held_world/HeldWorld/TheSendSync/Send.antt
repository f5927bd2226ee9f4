-- A held world may cross threads: no other thread writes what is in its box,
-- but for counts of owners, which are atomic, and any thread may free the block.
use Rattle.std.proofs.Common.{Option, Some, None}
use mir.Raw.{raw}
use base.Fraction.{full_share}
use base.Shift.{Keyless}
use denote.Exit.{Exit, unchanged, leaves, hidden, under}
use denote.Memory.{lone}
use denote.RattleType.{RattleType}
use denote.RawPtr.{Ptr, block_ptr, null_ptr, lies_at}
use denote.Param.Send.{IsSend, AllSend, Quiet, part_keyless, owning_send, struct_send, sendable}
use denote.Struct.Struct.{exits_of}
use denote.Struct.Owning.{shape, fields, to}
use Rattle.std.specs.Global.{Global}
use Rattle.std.proofs.Crossing.{frees}
use Rattle.std.proofs.alloc.Global.TheSendSync as handle
use Rattle.rv_mem.specs.contracts.pages.Pages as Pages
use Rattle.rv_mem.specs.contracts.pages.PagesMemory.TheImpl.{ghosts}
use Rattle.rv_mem.proofs.pages.Pages.TheSendSync as pages
use Rattle.sfi_host.specs.Worlds.{Sandboxes}
use Rattle.sfi_host.proofs.world.World.TheSendSync as world
use Rattle.sfi_run.specs.Held.{world_row, held_owns}
use Rattle.sfi_run.specs.contracts.held_world.HeldWorld.{the_row, the_type}

world_send : IsSend world_row
world_send = world.the_send Pages.the_row ghosts pages.the_send

-- what lies at a pointer
lies : (R : RattleType) → IsSend R → (p : Ptr) (x : R.Denot) → Keyless (lies_at R full_share p x)
lies R s (block_ptr b o) x = part_keyless R s full_share x b o
lies R s null_ptr x = tt

keyless : (alloc : Global) (p : Ptr) (o : Option Sandboxes) → Keyless (held_owns alloc p o)
keyless alloc p None = tt
keyless alloc p (Some w) = (lies world_row world_send p w, frees.frees alloc (raw (lone world_row.mir)) p)

quiet : {D X : Type 0} (to : D → X) (e : Exit X) → Quiet e → Quiet (hidden (under to e))
quiet to unchanged q = λ x w. tt
quiet to (leaves L l S s r₀) q = λ d. q (to d)

pub send : IsSend the_row
send =
    let all : AllSend (fields the_type) = (search sendable, (handle.the_field_send, tt)) in
    owning_send the_type all (λ d. keyless d.alloc d.at d.world) (λ k. quiet (to the_type) (exits_of k (fields the_type)) ((struct_send (shape the_type) all).leaving k))
