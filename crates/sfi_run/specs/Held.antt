-- What C holds: worlds, consoles and modules, what they own, and how they are made.
use Rattle.std.specs.Prelude.{ℕ, List, map, Option, Some, None}
use Rattle.std.specs.FinMap.{empty}
use Rattle.sfi_image.specs.declared.fault.LayoutFault.{LayoutFault}
use Rattle.sfi_image.specs.Faults.{IsFault}
use Rattle.sfi_image.specs.Spelling.{Part}
use Rattle.sfi_rules.specs.declared.finding.Finding.{Finding}
use Rattle.sfi_check.specs.Verdict.{HasFindings}
use Rattle.sfi_safety.specs.Clean.{IsAccepted}
use Rattle.sfi_host.specs.Loading.{first_seat, with_parts}
use Rattle.sfi_host.specs.Worlds.{Sandboxes}
use Rattle.sfi_host.specs.declared.world.adding.AddError.{AddError}
use Rattle.sfi_host.specs.declared.world.adding.AddError.TheVariants.{Meets, Full}
use Rattle.sfi_host.specs.declared.world.adding.AddError.TheVariants as add
use Rattle.sfi_host.specs.declared.world.removing.RemoveError.{RemoveError}
use Rattle.sfi_host.specs.declared.world.removing.RemoveError.TheVariants.{Missing}
use Rattle.sfi_host.specs.declared.world.removing.RemoveError.TheVariants as remove
use Rattle.sfi_run.specs.declared.worlds.LoadFault.{LoadFault}
use Rattle.sfi_run.specs.declared.worlds.LoadFault.TheVariants.{Refused, NoImage, Memory}
use base.Fml.{Fml, ftrue}
use base.Stored.{Coded}
use denote.RattleType.{RattleType}
use denote.RawPtr.{Ptr}
use Rattle.std.specs.Box.Ownership.{box_owns}
use Rattle.std.specs.Coded.{coded_option}
use Rattle.std.specs.Global.{Global}
use Rattle.std.specs.contracts.impls.GlobalAllocator.TheImpl.{ghosts}
use Rattle.rv_mem.specs.contracts.pages.Pages as pages
use Rattle.rv_mem.specs.contracts.pages.PagesMemory.TheImpl as impl
use Rattle.sfi_host.specs.contracts.world.World as world
use Rattle.sfi_host.specs.contracts.console.Console as console
use Rattle.sfi_host.specs.Consoles.{ConsoleState}
use Rattle.sfi_host.specs.contracts.modules.Module as modules

-- ==== What loading comes to.

-- the world of an image, before any turn
abbrev pub first_world : List Part → Sandboxes
first_world ps = record { bytes = with_parts empty ps; seats = map first_seat ps }

-- the number by which C knows it; 0 is none
abbrev pub fault_number : LoadFault → ℕ
fault_number Refused = 1
fault_number NoImage = 2
fault_number Memory = 3

-- what a fault says of the bytes
abbrev pub Means : List ℕ → LoadFault → Type 0
Means bytes Refused = (found : List Finding) × HasFindings bytes found
Means bytes NoImage = (k : LayoutFault) × IsFault bytes k
Means bytes Memory = (ps : List Part) × IsAccepted bytes ps

-- ==== The numbers by which C knows why a world got or lost no sandbox; 0 is none.

abbrev pub no_world_number : ℕ
no_world_number = 1

abbrev pub no_module_number : ℕ
no_module_number = 2

abbrev pub remove_number : RemoveError → ℕ
remove_number Missing = 3
remove_number remove.Memory = 6

abbrev pub add_number : AddError → ℕ
add_number Meets = 4
add_number Full = 5
add_number add.Memory = 6

-- ==== What a held world owns, and whether there is one, as a number.

-- a world over pages
abbrev pub world_row : RattleType
world_row = world.the_row pages.the_row impl.ghosts

-- a world at the pointer and the right to free its block, or nothing
abbrev pub held_owns : Global → Ptr → Option Sandboxes → Fml
held_owns alloc p None = ftrue
held_owns alloc p (Some w) = box_owns (ghosts.dealloc_token alloc) world_row p w

abbrev pub held_coded : Coded (Option Sandboxes)
held_coded = coded_option world_row.coded

abbrev pub flag_of : {A : Type 0} → Option A → ℕ
flag_of None = 0
flag_of (Some x) = 1

-- ==== What a held console owns.

abbrev pub console_row : RattleType
console_row = console.the_row

-- a console at the pointer and the right to free its block, or nothing
abbrev pub console_owns : Global → Ptr → Option ConsoleState → Fml
console_owns alloc p None = ftrue
console_owns alloc p (Some c) = box_owns (ghosts.dealloc_token alloc) console_row p c

abbrev pub console_coded : Coded (Option ConsoleState)
console_coded = coded_option console_row.coded

-- ==== What a held module owns.

abbrev pub module_row : RattleType
module_row = modules.the_row

-- a module at the pointer and the right to free its block, or nothing
abbrev pub module_owns : Global → Ptr → Option (List Part) → Fml
module_owns alloc p None = ftrue
module_owns alloc p (Some ps) = box_owns (ghosts.dealloc_token alloc) module_row p ps

abbrev pub module_coded : Coded (Option (List Part))
module_coded = coded_option module_row.coded
