-- A held module may cross threads: no other thread writes what is in its box,
-- but for counts of owners, which are atomic, and any thread may free the block.
use Rattle.std.proofs.Common.{List, Option, Some, None}
use mir.Raw.{raw}
use base.Fraction.{full_share}
use base.Shift.{Keyless}
use denote.Exit.{Exit, unchanged, leaves, hidden, under}
use denote.Memory.{lone}
use denote.RattleType.{RattleType}
use denote.RawPtr.{Ptr, block_ptr, null_ptr, lies_at}
use denote.Param.Send.{IsSend, AllSend, Quiet, part_keyless, owning_send, struct_send, sendable}
use denote.Struct.Struct.{exits_of}
use denote.Struct.Owning.{shape, fields, to}
use Rattle.std.specs.Global.{Global}
use Rattle.std.proofs.Crossing.{frees}
use Rattle.std.proofs.alloc.Global.TheSendSync as handle
use Rattle.sfi_image.specs.Spelling.{Part}
use Rattle.sfi_host.proofs.modules.Module.TheSendSync as modules
use Rattle.sfi_run.specs.Held.{module_row, module_owns}
use Rattle.sfi_run.specs.contracts.held_module.HeldModule.{the_row, the_type}

module_send : IsSend module_row
module_send = modules.the_send

-- what lies at a pointer
lies : (R : RattleType) → IsSend R → (p : Ptr) (x : R.Denot) → Keyless (lies_at R full_share p x)
lies R s (block_ptr b o) x = part_keyless R s full_share x b o
lies R s null_ptr x = tt

keyless : (alloc : Global) (p : Ptr) (o : Option (List Part)) → Keyless (module_owns alloc p o)
keyless alloc p None = tt
keyless alloc p (Some c) = (lies module_row module_send p c, frees.frees alloc (raw (lone module_row.mir)) p)

quiet : {D X : Type 0} (to : D → X) (e : Exit X) → Quiet e → Quiet (hidden (under to e))
quiet to unchanged q = λ x w. tt
quiet to (leaves L l S s r₀) q = λ d. q (to d)

pub send : IsSend the_row
send =
    let all : AllSend (fields the_type) = (search sendable, (handle.the_field_send, tt)) in
    owning_send the_type all (λ d. keyless d.alloc d.at d.parts) (λ k. quiet (to the_type) (exits_of k (fields the_type)) ((struct_send (shape the_type) all).leaving k))
