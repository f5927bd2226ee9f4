use Rattle.std.proofs.Common.{◌≡◌, ℕ, ◌*◌, List, length}
use Rattle.sfi_image.specs.Spelling.{view}
use Rattle.sfi_translate.specs.Lines.{Line}
use Rattle.sfi_native.specs.Entries.{unit_address}
use Rattle.sfi_native.specs.Lines.{AreMeasured}
use Rattle.sfi_native.specs.Places.{size_of_all}
use Rattle.sfi_native.proofs.Entered.{HasEntries}
use Rattle.sfi_native.proofs.entries.entries.Given as goal

abbrev pub invariant-loop : goal.invariant-loop
invariant-loop l = record {
  count : length l.table.items ≡ 2 * l.counter;
  place : l.at ≡ unit_address (view l.fn.format l.part) l.counter;
  entries : (code : List Line) (bytes : List ℕ) → AreMeasured l.plan code bytes l.labels → l.all ≡ size_of_all l.plan code → HasEntries l.plan (view l.fn.format l.part) code l.counter l.table.items;
}
