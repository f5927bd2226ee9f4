-- Words that private contracts and proofs alone cite: no public statement rests on them.
use Rattle.std.specs.Prelude.{◌≡◌, ◌↔◌, ℕ, ◌<◌, List, length, Result, Ok, Err, [], ◌++◌, min}
use Rattle.sfi_image.specs.declared.fault.LayoutFault.{LayoutFault}
use Rattle.sfi_image.specs.Spelling.{Part}
use Rattle.sfi_image.specs.Faults.{IsFault}
use Rattle.sfi_c.specs.declared.looking.Lookup.{Lookup}
use Rattle.sfi_c.specs.declared.looking.Lookup.TheVariants.{Found, Beyond, NoImage}
use Rattle.sfi_image.specs.Keeping.{IsSandboxOf}
use Rattle.sfi_places.specs.declared.moving.MoveFault.{MoveFault}
use Rattle.sfi_places.specs.declared.moving.MoveFault.TheVariants as faults
use Rattle.sfi_c.specs.declared.moving.MoveAnswer.{MoveAnswer}
use Rattle.sfi_c.specs.declared.moving.MoveAnswer.TheVariants as moves
use Rattle.sfi_c.specs.Parts.{with_findings}
use Rattle.std.proofs.Common.{sym, subst, append_assoc}
use Rattle.std.proofs.lemmas.List.{append-nil}
use Rattle.sfi_rules.specs.declared.finding.Finding.{Finding}
use Rattle.sfi_check.specs.declared.for_c.SfiFinding.{SfiFinding}

-- ---- what a look-up says, and of which bytes

-- the bytes are an image with a sandbox `number`
abbrev pub HasPart : List ℕ → ℕ → Type 0
HasPart bytes number = (p : Part) × IsSandboxOf bytes number p

-- the bytes are an image with a sandbox `number`, which has a gate of that index
abbrev pub HasGate : List ℕ → ℕ → ℕ → Type 0
HasGate bytes number index = (p : Part) × IsSandboxOf bytes number p × (index < length p.gates)

-- the bytes are no image
abbrev pub HasFault : List ℕ → Type 0
HasFault bytes = (k : LayoutFault) × IsFault bytes k

-- `said` is Found exactly where what is asked for is there, Beyond where the image has fewer, and
-- NoImage where the bytes are no image
pub record IsSaid (there further fault : Type 0) (said : Lookup) : Type 0 where
  pub found : (said ≡ Found) ↔ there
  pub beyond : (said ≡ Beyond) ↔ further
  pub layout : (said ≡ NoImage) ↔ fault

-- what is said of the result of a look-up
abbrev pub said_by : {X : Type 0} → Result X Lookup → Lookup
said_by (Ok x) = Found
said_by (Err l) = l

-- ---- what is said of a sandbox that was to be moved

-- what is said of a move by its answer
abbrev pub move_said_of : Result (Unit {0}) MoveFault → MoveAnswer
move_said_of (Ok done) = moves.Moved
move_said_of (Err faults.NoSandbox) = moves.Beyond
move_said_of (Err (faults.NoImage k)) = moves.NoImage
move_said_of (Err faults.NoPlace) = moves.NoPlace

-- ---- arrays

-- the array, which was `first`, has these findings at its front, as far as they fit: `written` of
-- them
pub record Has (first : List SfiFinding) (found : List Finding) (array : List SfiFinding)
    (written : ℕ) : Type 0 where
  pub array_is : array ≡ with_findings found first
  pub written_is : written ≡ min (length found) (length first)

-- whatever findings the array had, it then has the new ones after them
abbrev pub Takes : List SfiFinding → ℕ → List Finding → List SfiFinding → ℕ → Type 0
Takes array written found after written_after =
    (first : List SfiFinding) (before : List Finding) → Has first before array written
    → Has first (before ++ found) after written_after

pub takes_none : (array : List SfiFinding) (n : ℕ) → Takes array n [] array n
takes_none array n = λ first before has.
    subst (λ (l : List Finding). Has first l array n) (sym (append-nil before)) has

pub takes_more : (array : List SfiFinding) (n : ℕ) (xs : List Finding) (then : List SfiFinding)
    (m : ℕ) (ys : List Finding) (after : List SfiFinding) (k : ℕ) → Takes array n xs then m
    → Takes then m ys after k → Takes array n (xs ++ ys) after k
takes_more array n xs then m ys after k one two = λ first before has.
    subst (λ (l : List Finding). Has first l after k) (append_assoc before xs ys)
    (two first (before ++ xs) (one first before has))
