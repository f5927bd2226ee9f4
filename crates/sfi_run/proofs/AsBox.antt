-- A held world owns what a box of it owns.
use Rattle.sfi_run.proofs.Prelude.{[], plain, Bx}
use mir.Syntax.{impl, tnil, dnil}
use denote.Signature.{Slot}
use Rattle.std.specs.contracts.alloc.Global as Heap
use Rattle.std.specs.contracts.impls.GlobalAllocator.TheImpl.{ghosts, dict}
use Rattle.std.proofs.alloc.Global.TheLaws as heap
use Rattle.rv_mem.specs.contracts.pages.Pages as Pages
use Rattle.rv_mem.specs.contracts.pages.PagesMemory.TheImpl as pages_memory
use Rattle.rv_mem.proofs.pages.Pages.TheLaws as pages
use Rattle.sfi_host.proofs.world.World.TheLaws as world
use Rattle.sfi_run.specs.Held.{world_row}
use Rattle.sfi_run.specs.contracts.box_parts.BoxParts as BoxParts
use Rattle.sfi_run.specs.contracts.held_world.HeldWorld as Held

abbrev pub E : Bx
E = record { row = world_row; laws = world.the_row_laws Pages.the_row pages_memory.ghosts pages.the_row_laws; al = record { row = Heap.the_row; laws = heap.the_row_laws; g = ghosts; d = dict; drops = impl [] tnil dnil } }

abbrev pub FromParts : Slot 0
FromParts = plain (λ _. BoxParts.the_row world_row Heap.the_row ghosts)

abbrev pub FromHeld : Slot 0
FromHeld = plain (λ _. Held.the_row)
