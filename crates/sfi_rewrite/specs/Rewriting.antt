-- What `rewrite` answers, and the faults of a source.
use Rattle.std.specs.Prelude.{◌≡◌, ◌+◌, ◌<◌, ◌≤◌, ◌&&◌, ℕ, List, Bool, true, false, take, drop, slice_get, Some, length, ◌⊎◌, Result, Ok, Err}
use Rattle.std.specs.List.{All, AllZip}
use Rattle.sfi_formats.specs.declared.format.Format.{Format}
use Rattle.sfi_formats.specs.Formats.{built_code_most, has_words}
use Rattle.sfi_source.specs.declared.item.Body.{Body}
use Rattle.sfi_source.specs.declared.item.Item.{Item}
use Rattle.sfi_rewrite.specs.declared.slot.BundleSlot.{BundleSlot}
use Rattle.sfi_rewrite.specs.declared.fault.RewriteFault.{RewriteFault}
use Rattle.sfi_rewrite.specs.declared.fault.RewriteFault.TheVariants.{ReservedRegister, Ecall, TooLarge, Memory, StackWrite, Jump}
use Rattle.sfi_rewrite.specs.Expansion.{item_names_withheld, is_ecall, size_of, is_stack_write}
use Rattle.sfi_rewrite.specs.words.Expansion as words
use Rattle.sfi_rewrite.specs.Placement.{AreLaidIn, Placement, IsPlacement}
use Rattle.sfi_source.specs.Source.{Sandbox}

-- ==== The faults of an item, and those of a sandbox, in the order of its text.

-- the number of a fault
abbrev pub number_of : RewriteFault → ℕ
number_of (ReservedRegister line) = 1
number_of (Ecall line) = 2
number_of (TooLarge sandbox) = 3
number_of Memory = 4
number_of (StackWrite line) = 5
number_of (Jump line) = 6

-- the item is a jump that code in words can't have
abbrev pub is_barred_jump : Format → Body → Bool
is_barred_jump f x = has_words f && words.is_barred_jump x

-- the item has none of the faults of an instruction
pub record IsPermitted (f : Format) (x : Item) : Type 0 where
  pub operands : item_names_withheld f x.body ≡ false
  pub no_ecall : is_ecall x.body ≡ false
  pub no_stack_write : is_stack_write f x.body ≡ false
  pub no_barred_jump : is_barred_jump f x.body ≡ false

-- the first k items, in words or in bundles, have no fault, and these are their slots, for which a
-- code region has room
pub record AreFaultless (in_words : Bool) (f : Format) (k : ℕ) (items : List Item)
    (slots : List BundleSlot) : Type 0 where
  pub permitted : All (IsPermitted f) (take k items)
  pub laid : AreLaidIn in_words f (take k items) (drop k items) slots
  pub fits : size_of slots ≤ built_code_most f

-- no code region has room for the slots of the first k items; in bundles the last of these items
-- would begin a bundle beyond the region's last, since an expansion lies in one bundle
abbrev pub AreTooLarge : Bool → Format → ℕ → List Item → Type 0
AreTooLarge in_words f k items =
    (slots : List BundleSlot) × AreLaidIn in_words f (take k items) (drop k items) slots
    × (built_code_most f < size_of slots)

-- the first of the faults that the item has wherever it stands, in the order of these four lines
abbrev pub HasItemFault : Format → Item → RewriteFault → Type 0
HasItemFault f x (ReservedRegister line) = (item_names_withheld f x.body ≡ true) × (line ≡ x.line)
HasItemFault f x (Ecall line) =
    (item_names_withheld f x.body ≡ false) × (is_ecall x.body ≡ true) × (line ≡ x.line)
HasItemFault f x (StackWrite line) =
    (item_names_withheld f x.body ≡ false) × (is_ecall x.body ≡ false)
    × (is_stack_write f x.body ≡ true) × (line ≡ x.line)
HasItemFault f x (Jump line) =
    (item_names_withheld f x.body ≡ false) × (is_ecall x.body ≡ false)
    × (is_stack_write f x.body ≡ false) × (is_barred_jump f x.body ≡ true) × (line ≡ x.line)
HasItemFault f x (TooLarge sandbox) = ⊥
HasItemFault f x Memory = ⊥

-- the first fault of item k, in the sandbox of that number
abbrev pub HasFault : Bool → Format → ℕ → List Item → ℕ → Item → RewriteFault → Type 0
HasFault in_words f sandbox items k x (TooLarge number) =
    IsPermitted f x × AreTooLarge in_words f (k + 1) items × (number ≡ sandbox)
HasFault in_words f sandbox items k x fault = HasItemFault f x fault

-- what holds of a fault, where that isn't want of memory
abbrev pub UnlessMemory : (RewriteFault → Type 0) → RewriteFault → Type 0
UnlessMemory P Memory = Unit {0}
UnlessMemory P f = P f

-- this is the fault of the first item that has one
pub record IsItemFault (in_words : Bool) (format : Format) (sandbox : ℕ) (items : List Item)
    (f : RewriteFault) : Type 0 where
  pub index : ℕ
  pub item : Item
  pub at : slice_get items index ≡ Some item
  pub before : List BundleSlot
  pub faultless : AreFaultless in_words format index items before
  pub has : HasFault in_words format sandbox items index item f

-- ==== The faults of a source, in the order of its text.

-- no item of the sandbox has a fault
abbrev pub IsFaultless : Sandbox → Type 0
IsFaultless s =
    (slots : List BundleSlot)
    × AreFaultless (has_words s.format) s.format (length s.items) s.items slots

-- this is the fault of the first item that has one, in sandbox `number`
abbrev pub IsSandboxFault : ℕ → Sandbox → RewriteFault → Type 0
IsSandboxFault number s f = IsItemFault (has_words s.format) s.format number s.items f

-- this is the fault of the first item of the source that has one
pub record IsSourceFault (source : List Sandbox) (f : RewriteFault) : Type 0 where
  pub number : ℕ
  pub sandbox : Sandbox
  pub at : slice_get source number ≡ Some sandbox
  pub before : All IsFaultless (take number source)
  pub has : IsSandboxFault number sandbox f

-- ==== What `rewrite` answers.

-- no item of the sandbox has a fault, and this is its placement
pub record IsRewritten (s : Sandbox) (p : Placement) : Type 0 where
  pub faultless : IsFaultless s
  pub placement : IsPlacement s p

-- each sandbox of the source is rewritten, in order
abbrev pub AreRewritten : List Sandbox → List Placement → Type 0
AreRewritten source placed = AllZip IsRewritten source placed

-- the answer is these placements, or memory ran out
abbrev pub AnswersPlaced : List Placement → Result (List Placement) RewriteFault → Type 0
AnswersPlaced placed answer = (answer ≡ Ok placed) ⊎ (answer ≡ Err Memory)

-- the answer is this fault, or memory ran out
abbrev pub AnswersFault : RewriteFault → Result (List Placement) RewriteFault → Type 0
AnswersFault f answer = (answer ≡ Err f) ⊎ (answer ≡ Err Memory)
