-- A world gets the sandboxes of another accepted image, or loses a sandbox, between plans.
use Rattle.std.specs.Prelude.{◌≡◌, ◌≢◌, ◌⊎◌, ◌||◌, ℕ, ◌+◌, ◌-◌, ◌^◌, ◌<◌, nat_lt, cond, Bool, true, false, List, [], ◌∷◌, ◌++◌, length, map, Option, None, Some, slice_get}
use Rattle.std.specs.FinMap.{retain_keys}
use Rattle.std.specs.List.{remove}
use Rattle.rv_mem.specs.Bytes.{Bytes}
use Rattle.sfi_formats.specs.Formats.{has_single_mask}
use Rattle.sfi_image.specs.Spelling.{Part, Holds, with_guards, InZoneAtZero}
use Rattle.sfi_safe_runs.specs.Runs.{IsChange}
use Rattle.sfi_host.specs.Loading.{first_seat, with_parts}
use Rattle.sfi_host.specs.Slots.{Bounds, bounds_of, is_own}
use Rattle.sfi_host.specs.Worlds.{Seat, Sandboxes, slots_of, state_in}

-- ==== A world gets the sandboxes of another image.

-- the address lies in its code, its data or a guard zone of these
abbrev pub TakesUp : Bounds → ℕ → Type 0
TakesUp b a = Holds b.code a ⊎ Holds (with_guards b.data) a

-- two sandboxes take up an address both
abbrev pub ShareAddress : Bounds → Bounds → Type 0
ShareAddress b c = (a : ℕ) × TakesUp b a × TakesUp c a

-- the second one's format has a zone at zero, and the first one takes up an address there
abbrev pub ReachesZoneOf : Bounds → Bounds → Type 0
ReachesZoneOf b c =
    (has_single_mask c.format ≡ true) × ((a : ℕ) × TakesUp b a × InZoneAtZero c.data.size a)

-- Two sandboxes take up an address both, or one of them reaches the other's zone at zero. Their zones at
-- zero may overlap: nobody is there.
abbrev pub Meet : Bounds → Bounds → Type 0
Meet b c = ShareAddress b c ⊎ (ReachesZoneOf b c ⊎ ReachesZoneOf c b)

-- a sandbox of the world and one of these parts meet
pub record MeetsSome (w : Sandboxes) (ps : List Part) : Type 0 where
  pub number : ℕ
  pub seat : Seat
  pub there : slice_get w.seats number ≡ Some seat
  pub other : ℕ
  pub part : Part
  pub among : slice_get ps other ≡ Some part
  pub meet : Meet seat.bounds (bounds_of part)

-- with these parts there would be more sandboxes than numbers of 32 bits
abbrev pub AreTooMany : Sandboxes → List Part → Type 0
AreTooMany w ps = 2 ^ 32 < length w.seats + length ps

-- the world with the sandboxes of these parts after its own, each as `World::load` makes it
abbrev pub with_image : Sandboxes → List Part → Sandboxes
with_image w ps =
    record { bytes = with_parts w.bytes ps; seats = w.seats ++ map first_seat ps }

-- each sandbox that was there is what it was, at its number
abbrev pub EarlierAreSame : Sandboxes → Sandboxes → Type 0
EarlierAreSame w n =
    (i : ℕ) → i < length w.seats → slice_get (slots_of n) i ≡ slice_get (slots_of w) i

-- ==== A world loses a sandbox.

-- the address lies in the code or in the data of one of these
abbrev pub is_own_of : List Seat → ℕ → Bool
is_own_of [] a = false
is_own_of (s ∷ seats) a = is_own s.bounds a || is_own_of seats a

-- the bytes of a memory that are the code and data of these
abbrev pub bytes_of : List Seat → Bytes → Bytes
bytes_of seats m = retain_keys m (is_own_of seats)

-- the world without sandbox `i`: each later one has a number less by one then, and of
-- the bytes those of the others are left; the same where there is no such sandbox
abbrev pub without_of : Sandboxes → ℕ → Option Seat → Sandboxes
without_of w i None = w
without_of w i (Some s) =
    record { bytes = bytes_of (remove w.seats i) w.bytes; seats = remove w.seats i }

abbrev pub without : Sandboxes → ℕ → Sandboxes
without w i = without_of w i (slice_get w.seats i)

-- the number of sandbox j once sandbox i, another one, is gone
abbrev pub number_without : ℕ → ℕ → ℕ
number_without i j = cond (nat_lt j i) j (j - 1)

-- each sandbox but that of number i is what it was, at its number then
abbrev pub RestIsSame : Sandboxes → ℕ → Sandboxes → Type 0
RestIsSame w i n =
    (j : ℕ) → j ≢ i → slice_get (slots_of n) (number_without i j) ≡ slice_get (slots_of w) j

-- each sandbox but that of number i is still there, and to each this is a change by others: its pc,
-- registers, code and empty guard zones are what they were
abbrev pub AreChangesToRest : Sandboxes → ℕ → Sandboxes → Type 0
AreChangesToRest w i n =
    (j : ℕ) (s : Seat) (p : Part) → j ≢ i → slice_get w.seats j ≡ Some s → s.bounds ≡ bounds_of p
    → (t : Seat) × (slice_get n.seats (number_without i j) ≡ Some t)
    × IsChange p (state_in w.bytes s) (state_in n.bytes t)
