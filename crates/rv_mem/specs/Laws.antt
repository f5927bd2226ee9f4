-- What holds of every read and write.
use Rattle.std.specs.Prelude.{◌≡◌, ℕ, ◌+◌, ◌^◌, ◌<◌, ◌≤◌, ◌↔◌, List, length, Some, slice_index, Contains}
use Rattle.std.specs.FinMap.{insert}
use Rattle.rv_mem.specs.Bytes.{Bytes, IsMemory, byte_at, address_after, addresses, bytes_at, with_bytes}

-- the addresses of an access lie k after its first, for k below n
abbrev pub AddressesAreThese : Type 0
AddressesAreThese =
    (at n a : ℕ) → Contains (addresses at n) a ↔ ((k : ℕ) × (k < n) × (a ≡ address_after at k))

-- at each of the n addresses from at on is one of the bytes, in their order
pub record Holds (m : Bytes) (at n : ℕ) (bytes : List ℕ) : Type 0 where
  pub count : length bytes ≡ n
  pub each : (k : ℕ) → k < n → byte_at m (address_after at k) ≡ Some (slice_index bytes k)

-- what is read is what the memory holds
abbrev pub ReadIsHeld : Type 0
ReadIsHeld = (m : Bytes) (at n : ℕ) (bytes : List ℕ)
    → (bytes_at m (addresses at n) ≡ Some bytes) ↔ Holds m at n bytes

-- a write changes no other address
abbrev pub OthersStay : Type 0
OthersStay = (m : Bytes) (at bytes : List ℕ) (a : ℕ) → (Contains at a → ⊥)
    → byte_at (with_bytes m at bytes) a ≡ byte_at m a

-- bytes that are written from an address on, up to the last one at most, are there
abbrev pub WrittenIsThere : Type 0
WrittenIsThere =
    (m : Bytes) (at : ℕ) (bytes : List ℕ) (k : ℕ) → at + length bytes ≤ 2 ^ 32 → k < length bytes
    → byte_at (with_bytes m (addresses at (length bytes)) bytes) (at + k)
    ≡ Some (slice_index bytes k)

-- a memory stays one when a byte is written at an address
abbrev pub WriteKeepsMemory : Type 0
WriteKeepsMemory =
    (m : Bytes) (a b : ℕ) → IsMemory m → a < 2 ^ 32 → b < 256 → IsMemory (insert m a b)
