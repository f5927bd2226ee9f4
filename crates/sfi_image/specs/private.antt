-- Words that private contracts and proofs alone cite: no public statement rests on them.
use Rattle.std.specs.Prelude.{◌≡◌, ℕ, List, ◌++◌, length, Result, Ok, Err, suc, nat_lt, ◌+◌, ◌-◌, ◌≤◌, ◌==◌, ◌⊎◌, Bool, false, [], ◌∷◌, cond, Option, Some, None, nat_le, if◌then◌else◌}
use Rattle.sfi_image.specs.declared.fault.LayoutFault.{LayoutFault}
use Rattle.sfi_image.specs.declared.cursor.ImageCursor.{ImageCursor}
use Rattle.sfi_image.specs.Keeping.{HasRead, unread, HasStopped, Leads, LayoutReader, StandsFor}
use Rattle.sfi_image.specs.Prefixes.{ImagePrefix, Follows, prefix_bytes, AreBundlesWithin, HasFaultWhateverFollows}
use Rattle.sfi_image.specs.declared.fields.Fields.{Fields}
use Rattle.sfi_image.specs.declared.want.Want.{Want}
use Rattle.sfi_image.specs.declared.want.Want.TheVariants as wants
use Rattle.sfi_image.specs.declared.want.OtherWant.{OtherWant}
use Rattle.sfi_image.specs.declared.want.OtherWant.TheVariants as others
use Rattle.sfi_image.specs.declared.want.Stage.{Stage}
use Rattle.sfi_image.specs.declared.want.Stage.TheVariants as stage
use Rattle.sfi_image.specs.Spelling.{Part, fields_of, spans_of}
use Rattle.sfi_image.specs.Parts.{IsRightPart}
use Rattle.sfi_image.specs.FieldTests.{AreApartWith}
use Rattle.sfi_image.specs.declared.fields.OwnSpans.{OwnSpans}
use Rattle.sfi_image.specs.Numbers.{magic_bytes, number_bytes, fields_bytes, gate_bytes}
use Rattle.sfi_image.specs.declared.fault.ImageFault.{ImageFault}
use Rattle.sfi_image.specs.Faults.{IfLayout}

-- ==== A sandbox after others.

-- the sandbox is right and lies apart from these, and its spans are those kept of it
pub record FitsAfter (before : List Part) (p : Part) (own : OwnSpans) : Type 0 where
  pub own_are : (own.code ∷ own.guarded ∷ []) ≡ spans_of (fields_of p)
  pub right : IsRightPart p
  pub lies : AreApartWith before (fields_of p)

-- ==== What a cursor reads.

-- the result is a value for which `Found` holds, or a fault for which `Faulty` holds
abbrev pub Gives :
    {X : Type 0} → (X → Type 0) → (LayoutFault → Type 0) → Result X LayoutFault → Type 0
Gives Found Faulty (Ok x) = Found x
Gives Found Faulty (Err k) = Faulty k

-- the next `len` bytes, `s`, were read: the cursor has now read the prefix that follows `x` with
-- them
pub record LeadsOn (bytes : List ℕ) (x : ImagePrefix) (len : ℕ) (s : List ℕ) (old new : ImageCursor)
    : Type 0 where
  pub len_is : length s ≡ len
  pub taken : unread old ≡ s ++ unread new
  pub to : ImagePrefix
  pub follows : Follows x s to
  pub read : HasRead bytes to new

-- ==== What the reader of a layout keeps.

-- what is wanted, where that is no bundle
abbrev pub as_want : OtherWant → Want
as_want (others.Field n) = wants.Field n
as_want (others.Init n) = wants.Init n
as_want others.End = wants.End
as_want others.Nothing = wants.Nothing

-- the first of the addresses is `at`
abbrev pub is_first : List ℕ → ℕ → Bool
is_first [] at = false
is_first (a ∷ more) at = a == at

-- the first of the addresses, or `other` where there is none
abbrev pub first_or : ℕ → List ℕ → ℕ
first_or other [] = other
first_or other (a ∷ more) = a

-- how many addresses at the front of the list are below `end`
abbrev pub count_below : ℕ → List ℕ → ℕ
count_below end [] = 0
count_below end (a ∷ more) = cond (nat_lt a end) (suc (count_below end more)) 0

-- what comes next after `begun` sandboxes of `count`
abbrev pub stage_after_part : ℕ → ℕ → Stage
stage_after_part begun count = cond (begun == count) stage.End stage.Fields

-- what comes next after `read` first data bytes of `len`
abbrev pub stage_after_init : ℕ → ℕ → ℕ → ℕ → Stage
stage_after_init read len begun count = cond (read == len) (stage_after_part begun count) stage.Init

-- what comes next after `read` bytes of code of `size`
abbrev pub stage_after_code : ℕ → ℕ → ℕ → ℕ → ℕ → Stage
stage_after_code read size len begun count = cond (read == size) (stage_after_init 0 len begun count) stage.Code

-- what comes next after `read` gates of `gate_count`
abbrev pub stage_after_gates : ℕ → ℕ → Stage
stage_after_gates read gate_count = cond (read == gate_count) stage.Code stage.Gate

-- `len` bytes may be taken, where this comes next for a sandbox with fields `f` of which `code`
-- bytes of code and `init` first data bytes are read
abbrev pub TakesLength : Stage → Fields → ℕ → ℕ → ℕ → Type 0
TakesLength stage.Magic f code init len = len ≡ magic_bytes
TakesLength stage.Count f code init len = len ≡ number_bytes
TakesLength stage.Fields f code init len = len ≡ fields_bytes
TakesLength stage.Gate f code init len = len ≡ gate_bytes
TakesLength stage.Code f code init len = AreBundlesWithin (f.code_size - code) len
TakesLength stage.Init f code init len = (1 ≤ len) × (len + init ≤ f.init_len)
TakesLength stage.End f code init len = ⊥
TakesLength stage.Nothing f code init len = ⊥

-- a reader that was handed bytes from the start stands for a prefix, or has met a fault
abbrev pub IsReader : LayoutReader → Type 0
IsReader r = HasStopped r ⊎ ((x : ImagePrefix) × StandsFor r x)

-- `len` bytes may be taken in this state
abbrev pub MayTake : LayoutReader → ℕ → Type 0
MayTake r len = IsReader r × TakesLength r.next r.fields r.code_read r.init_read len

-- With no fault, the new reader stands for each prefix that the old one stood for, with these bytes
-- after it. With a fault, each of those prefixes has that fault with these bytes, whatever follows.
abbrev pub Takes : LayoutReader → List ℕ → LayoutReader → Option LayoutFault → Type 0
Takes old s new None = (x : ImagePrefix) → StandsFor old x → Leads x s new
Takes old s new (Some k) =
    HasStopped new × ((x : ImagePrefix) → StandsFor old x → HasFaultWhateverFollows (prefix_bytes x ++ s) k)

-- ==== What a read of part of an image answers.

-- the value that was read meets `Found`, or the layout fault meets `Faulty`, or memory ran out
abbrev pub Reads :
    {X : Type 0} → (X → Type 0) → (LayoutFault → Type 0) → Result X ImageFault → Type 0
Reads Found Faulty (Ok x) = Found x
Reads Found Faulty (Err e) = IfLayout e Faulty

-- ==== What is written of an image.

-- the number, or the greatest of 32 bits where it has more
abbrev pub capped : ℕ → ℕ
capped n = if nat_le n 0xffffffff then n else 0xffffffff

-- the seven fields, with lengths that fit
abbrev pub capped_fields : Part → Fields
capped_fields p = record (fields_of p) {
  code_size = capped (length p.code);
  gate_count = capped (length p.gates);
  init_len = capped (length p.init);
}
