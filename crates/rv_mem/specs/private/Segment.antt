-- Words of private contracts and proofs: where a memory of segments has values.
use Rattle.std.specs.Prelude.{◌≡◌, ℕ, ◌<◌, ◌≤◌, Option, None, IsSome, ◌-◌, ◌==◌, List, [], ◌∷◌, Some, nat_lt, slice_get, if◌then◌else◌}
use Rattle.std.specs.Option.{option_or}
use Rattle.rv_mem.specs.declared.segment.Segment.{Segment}

-- ==== Where a partial function has values.

-- the function has a value at a number from the first up to the second, which isn't included
abbrev pub HasIn : (ℕ → Option ℕ) → ℕ → ℕ → Type 0
HasIn f from to = (q : ℕ) × (from ≤ q) × (q < to) × IsSome (f q)

-- the function has no value at a number from the first up to the second
abbrev pub HasNone : (ℕ → Option ℕ) → ℕ → ℕ → Type 0
HasNone f from to = (q : ℕ) → from ≤ q → q < to → f q ≡ None

-- ==== What segments have at an address.

-- what bytes from an address on have at q
abbrev pub byte_in : ℕ → List ℕ → ℕ → Option ℕ
byte_in base bs q = if nat_lt q base then None else slice_get bs (q - base)

-- what the first segment that has the address q has there
abbrev pub byte_among : List Segment → ℕ → Option ℕ
byte_among [] q = None
byte_among (s ∷ ss) q = option_or (byte_in s.base s.bytes.items q) (byte_among ss q)

-- from old to new the address at got the byte b, and no other address changed
abbrev pub Puts : (ℕ → Option ℕ) → (ℕ → Option ℕ) → ℕ → ℕ → Type 0
Puts old new at b = (q : ℕ) → new q ≡ (if q == at then Some b else old q)
