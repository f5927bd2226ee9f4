-- A held console owns what a box of it owns.
use Rattle.sfi_run.proofs.Prelude.{[], plain, Bx}
use mir.Syntax.{impl, tnil, dnil}
use denote.Signature.{Slot}
use Rattle.std.specs.contracts.alloc.Global as Heap
use Rattle.std.specs.contracts.impls.GlobalAllocator.TheImpl.{ghosts, dict}
use Rattle.std.proofs.alloc.Global.TheLaws as heap
use Rattle.sfi_host.proofs.console.Console.TheLaws as console
use Rattle.sfi_run.specs.Held.{console_row}
use Rattle.sfi_run.specs.contracts.box_parts.BoxParts as BoxParts
use Rattle.sfi_run.specs.contracts.held_console.HeldConsole as Held

abbrev pub E : Bx
E = record { row = console_row; laws = console.the_row_laws; al = record { row = Heap.the_row; laws = heap.the_row_laws; g = ghosts; d = dict; drops = impl [] tnil dnil } }

abbrev pub FromParts : Slot 0
FromParts = plain (λ _. BoxParts.the_row console_row Heap.the_row ghosts)

abbrev pub FromHeld : Slot 0
FromHeld = plain (λ _. Held.the_row)
