-- Words of private contracts and proofs: bytes that are copied from one memory to another.
use Rattle.std.specs.Prelude.{◌≡◌, ◌≢◌, ◌⊎◌, ℕ, ◌<◌, List, Some, None, slice_get}
use Rattle.rv_mem.specs.Bytes.{Bytes, byte_at}
use Rattle.sfi_image.specs.declared.span.Span.{Span}
use Rattle.sfi_image.specs.Spelling.{Holds}
use Rattle.sfi_host.specs.Worlds.{Seat}

-- from old to new a memory got the region's bytes of another one, and no other address changed
pub record CopiesRegion (region : Span) (from old new : Bytes) : Type 0 where
  pub inside : (a : ℕ) → Holds region a → byte_at new a ≡ byte_at from a
  pub outside : (a : ℕ) → (Holds region a → ⊥) → byte_at new a ≡ byte_at old a

-- from old to new a memory got the code and data bytes of a sandbox, as another one has them, and no
-- other address changed
pub record CopiesSeat (s : Seat) (from old new : Bytes) : Type 0 where
  pub inside : (a : ℕ) → Holds s.bounds.code a ⊎ Holds s.bounds.data a
      → byte_at new a ≡ byte_at from a
  pub outside : (a : ℕ) → (Holds s.bounds.code a ⊎ Holds s.bounds.data a → ⊥)
      → byte_at new a ≡ byte_at old a

-- the memory has the code and data bytes of the first n seats but seat `but`, as the other one has them,
-- and no other byte
pub record HasCopies (from : Bytes) (seats : List Seat) (n but : ℕ) (to : Bytes) : Type 0 where
  pub there : (i : ℕ) (s : Seat) → i < n → i ≢ but → slice_get seats i ≡ Some s → (a : ℕ)
      → Holds s.bounds.code a ⊎ Holds s.bounds.data a → byte_at to a ≡ byte_at from a
  pub none_left : (a : ℕ)
      → ((i : ℕ) (s : Seat) → i < n → i ≢ but → slice_get seats i ≡ Some s
      → Holds s.bounds.code a ⊎ Holds s.bounds.data a → ⊥)
      → byte_at to a ≡ None
