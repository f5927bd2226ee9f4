-- Words that private contracts and proofs alone cite: no public statement rests on them.
use Rattle.std.specs.Prelude.{◌≡◌, ◌+◌, ◌*◌, ◌<◌, ◌≤◌, ◌++◌, ℕ, Bool, List, length, replicate, slice_index, ◌%◌, [], ◌∷◌, true, false, Option, Some, None, take, drop}
use Rattle.std.specs.List.{All}
use Rattle.sfi_formats.specs.Limits.{bundle_size}
use Rattle.sfi_formats.specs.declared.format.Format.{Format}
use Rattle.sfi_formats.specs.declared.format.Format.TheVariants.{Sfi2}
use Rattle.sfi_formats.specs.Formats.{built_code_most, has_words}
use Rattle.sfi_source.specs.declared.item.Item.{Item}
use Rattle.sfi_source.specs.declared.item.Named.{Named}
use Rattle.sfi_source.specs.declared.item.Named.TheVariants.{Gate, Code, Data, Unknown}
use Rattle.sfi_source.specs.Source.{IsBody}
use Rattle.sfi_rewrite.specs.declared.slot.BundleSlot.{BundleSlot}
use Rattle.sfi_rewrite.specs.Expansion.{size_of, slots_of, c_nop}
use Rattle.sfi_rewrite.specs.declared.placed.PlacedName.{PlacedName}
use Rattle.sfi_rewrite.specs.declared.placed.PlacedName.TheVariants as placed
use Rattle.sfi_rewrite.specs.Placement.{IsNext, FillsEndIn, AreBundles, IsLabelAt}
use Rattle.sfi_rewrite.specs.declared.fault.RewriteFault.{RewriteFault}
use Rattle.sfi_rewrite.specs.declared.fault.RewriteFault.TheVariants.{TooLarge}
use Rattle.rv_comp.specs.Table.{expansion}
use Rattle.rv_comp.specs.declared.form.Form16.{Form16}
use Rattle.sfi_rewrite.specs.declared.slot.BundleSlot.TheVariants.{Wide, Short}
use Rattle.sfi_rewrite.specs.words.Expansion.{IsExpansion, Marked, marked, in_words, AreExpanded}

-- ==== Bundles while they are filled, and what is known of items and labels while they are laid.

-- the most bytes of a sandbox's code in any format, its gates' stubs not counted
abbrev pub largest : ℕ
largest = built_code_most Sfi2

-- the slots have as many bytes as a bundle
abbrev pub IsFull : List BundleSlot → Type 0
IsFull bundle = size_of bundle ≡ bundle_size

-- what the bundles keep; `end` is the number of bytes of all
pub record IsFilled (bundles : List (List BundleSlot)) (end : ℕ) : Type 0 where
  pub are_bundles : AreBundles bundles
  pub end_is : end ≡ size_of (slots_of bundles)

-- the new slots are the old ones with the item's c.nops and expansion after them, and a sandbox may
-- have as many
pub record HasNext (f : Format) (old : List BundleSlot) (x : Item) (new : List BundleSlot) : Type 0 where
  pub nops : ℕ
  pub expanded : List BundleSlot
  pub next : IsNext f (size_of old) x nops expanded
  pub slots : new ≡ old ++ (replicate nops c_nop ++ expanded)
  pub fits : size_of new ≤ built_code_most f

-- the body of each item is one of a source
abbrev pub HaveBodies : List Item → Type 0
HaveBodies items = All (λ x. (count : ℕ) × IsBody count x.body) items

-- after `end` the item's expansion would begin a bundle beyond the last, and this is the fault of
-- that
pub record IsTooLarge (f : Format) (sandbox end : ℕ) (x : Item) (fault : RewriteFault) : Type 0 where
  pub nops : ℕ
  pub expanded : List BundleSlot
  pub next : IsNext f end x nops expanded
  pub beyond : built_code_most f ≤ end + 2 * nops
  pub fault_is : fault ≡ TooLarge sandbox

-- the places that labels name: one before each item, and last one at the end of the code
pub record AreLabels (in_words : Bool) (f : Format) (items : List Item)
    (labels : List ℕ) : Type 0 where
  pub count : length labels ≡ length items + 1
  pub each : (k : ℕ) → k ≤ length items → IsLabelAt in_words f items k (slice_index labels k)

-- where the name is that of a place before an item, it is one of the `count` places that are known
abbrev pub HasLabel : ℕ → Named → Type 0
HasLabel count (Gate k) = Unit {0}
HasLabel count (Code k) = k < count
HasLabel count (Data offset) = Unit {0}
HasLabel count Unknown = Unit {0}

-- what the name names, by the places of the labels
abbrev pub placed_of : List ℕ → Named → PlacedName
placed_of labels (Gate k) = placed.Gate k
placed_of labels (Code k) = placed.Code (slice_index labels k)
placed_of labels (Data offset) = placed.Data offset
placed_of labels Unknown = placed.Unknown

-- the slots with c.nops after them: in bundles, up to the bundle start of a label at the end
pub record HasEnd (f : Format) (old : List BundleSlot) (labelled : Type 0) (new : List BundleSlot) : Type 0 where
  pub nops : ℕ
  pub end : FillsEndIn (has_words f) (size_of old) labelled nops
  pub slots : new ≡ old ++ replicate nops c_nop

-- ==== Words while they are filled.

-- words, and a 16-bit form that waits for a second one
pub record WordsSoFar : Type 0 where
  pub words : List BundleSlot
  pub waiting : Option Form16

abbrev pub so_far : List BundleSlot → Option Form16 → WordsSoFar
so_far words waiting = record { words = words; waiting = waiting }

-- the bytes of a word for the form that waits, if one does
abbrev pub waiting_size : Option Form16 → ℕ
waiting_size None = 0
waiting_size (Some f) = 4

-- how many bytes the words take, if nothing more comes
abbrev pub bytes_of : WordsSoFar → ℕ
bytes_of w = size_of w.words + waiting_size w.waiting

-- how many bytes more the words take with this slot
abbrev pub more_for : Option Form16 → BundleSlot → ℕ
more_for (Some f) (Short g) = 0
more_for waiting s = 4

-- the words when no second form joins the one that waits: it stands alone in its word, in 32 bits
abbrev pub ended : List BundleSlot → Option Form16 → WordsSoFar
ended words None = so_far words None
ended words (Some f) = so_far (words ++ Wide (expansion f) ∷ []) None

-- the words with one more slot
abbrev pub with_slot : List BundleSlot → Option Form16 → BundleSlot → WordsSoFar
with_slot words (Some f) (Short g) = so_far (words ++ Short f ∷ Short g ∷ []) None
with_slot words None (Short g) = so_far words (Some g)
with_slot words waiting s = so_far ((ended words waiting).words ++ s ∷ []) None

-- the words with these slots after them, where no label stands before any but the first slot
abbrev pub with_slots : WordsSoFar → List BundleSlot → WordsSoFar
with_slots w [] = w
with_slots w (s ∷ slots) = with_slots (with_slot w.words w.waiting s) slots

-- the form that waits, as a slot
abbrev pub waits : Option Form16 → List Marked
waits None = []
waits (Some f) = (false, Short f) ∷ []

-- what the words become with more slots after them
abbrev pub with_more : WordsSoFar → List Marked → List BundleSlot
with_more w more = w.words ++ in_words (waits w.waiting ++ more)

-- the old words with these slots after them come to the new words, whatever comes after
abbrev pub LeadsTo : WordsSoFar → List Marked → WordsSoFar → Type 0
LeadsTo old slots new = (more : List Marked) → with_more old (slots ++ more) ≡ with_more new more

-- the words are whole
abbrev pub AreWords : WordsSoFar → Type 0
AreWords w = size_of w.words % 4 ≡ 0

-- the words are whole, and a code region has room for them
pub record HaveRoom (f : Format) (w : WordsSoFar) : Type 0 where
  pub aligned : AreWords w
  pub fits : bytes_of w ≤ built_code_most f

-- the words before what may be a label: where one comes, the form that waits stands alone in its word
abbrev pub before_label : Bool → List BundleSlot → Option Form16 → WordsSoFar
before_label false words waiting = so_far words waiting
before_label true words waiting = ended words waiting

-- the new words are the old ones with the slots of item `x` after them, where `later` comes after
-- the item
pub record AreWith (f : Format) (x : Item) (later : List Item) (old new : WordsSoFar) : Type 0 where
  pub expanded : List BundleSlot
  pub is_expansion : IsExpansion f x later expanded
  pub lead : LeadsTo old (marked x.labelled expanded) new

-- no code region has room for the words, and this is the fault of that
pub record IsBeyond (f : Format) (sandbox : ℕ) (w : WordsSoFar) (fault : RewriteFault) : Type 0 where
  pub beyond : built_code_most f < bytes_of w
  pub fault_is : fault ≡ TooLarge sandbox

-- no code region has room for the words with the item's slots after them, and this is the fault of
-- that
pub record HasNoRoom (f : Format) (sandbox : ℕ) (x : Item) (later : List Item) (old : WordsSoFar)
    (fault : RewriteFault) : Type 0 where
  pub new : WordsSoFar
  pub are_with : AreWith f x later old new
  pub is_beyond : IsBeyond f sandbox new fault

-- the words of the first k of the items
pub record AreOfFirst (f : Format) (k : ℕ) (items : List Item) (w : WordsSoFar) : Type 0 where
  pub expanded : List Marked
  pub are_expanded : AreExpanded f (take k items) (drop k items) expanded
  pub lead : LeadsTo (so_far [] None) expanded w
