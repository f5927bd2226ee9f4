-- A memory, as a finite map from address to byte.
use Rattle.std.specs.Prelude.{◌≡◌, ℕ, ◌+◌, ◌*◌, ◌%◌, ◌-◌, ◌^◌, ◌<◌, List, [], ◌∷◌, ◌++◌, Option, Some, None, IsSome, length, map, replicate}
use Rattle.std.specs.Ordering.{nat_cmp}
use Rattle.std.specs.FinMap.{FinMap, get, insert}
use Rattle.std.specs.Int.{bytes_low_first}
use Rattle.std.specs.List.{range_with_len}
use Rattle.std.specs.Option.{option_map}
use Rattle.rv_mem.specs.declared.memory.Width.{Width}
use Rattle.rv_mem.specs.declared.memory.Width.TheVariants.{One, Two, Four}

-- the bytes of a memory, by address
abbrev pub Bytes : Type 0
Bytes = FinMap nat_cmp ℕ

-- the byte at an address, if one is there
abbrev pub byte_at : Bytes → ℕ → Option ℕ
byte_at m a = get m a

-- an address has 32 bits, and a byte 8
pub record IsMemory (m : Bytes) : Type 0 where
  pub addresses : (a b : ℕ) → byte_at m a ≡ Some b → a < 2 ^ 32
  pub bytes : (a b : ℕ) → byte_at m a ≡ Some b → b < 256

-- how many bytes an access has
abbrev pub count_of : Width → ℕ
count_of One = 1
count_of Two = 2
count_of Four = 4

-- the address that lies k after at: after the last comes the first
abbrev pub address_after : ℕ → ℕ → ℕ
address_after at k = (at + k) % 2 ^ 32

-- the n addresses from at on
abbrev pub addresses : ℕ → ℕ → List ℕ
addresses at n = map (address_after at) (range_with_len 0 n)

-- a byte in front of others, where all are there
abbrev pub in_front : Option ℕ → Option (List ℕ) → Option (List ℕ)
in_front None bs = None
in_front (Some b) None = None
in_front (Some b) (Some bs) = Some (b ∷ bs)

-- the bytes at the addresses; None where one is missing
abbrev pub bytes_at : Bytes → List ℕ → Option (List ℕ)
bytes_at m [] = Some []
bytes_at m (a ∷ more) = in_front (byte_at m a) (bytes_at m more)

-- the memory with these bytes at these addresses
abbrev pub with_bytes : Bytes → List ℕ → List ℕ → Bytes
with_bytes m [] bs = m
with_bytes m (a ∷ more) [] = m
with_bytes m (a ∷ more) (b ∷ bs) = with_bytes (insert m a b) more bs

-- the number that the bytes make, the lowest first
abbrev pub number_of : List ℕ → ℕ
number_of [] = 0
number_of (b ∷ bs) = b + 256 * number_of bs

-- what a load of n bytes answers
abbrev pub loaded : Bytes → ℕ → ℕ → Option ℕ
loaded m at n = option_map number_of (bytes_at m (addresses at n))

-- all bytes of an access are there
abbrev pub IsThere : Bytes → ℕ → ℕ → Type 0
IsThere m at n = IsSome (bytes_at m (addresses at n))

-- the memory after a store of the n low bytes of a value
abbrev pub stored : Bytes → ℕ → ℕ → ℕ → Bytes
stored m at n value = with_bytes m (addresses at n) (bytes_low_first 0 n value)

-- one of the size addresses from base on is there
abbrev pub Overlaps : Bytes → ℕ → ℕ → Type 0
Overlaps m base size = (k : ℕ) × (k < size) × IsSome (byte_at m (address_after base k))

-- none of the size addresses from base on is there
abbrev pub IsFree : Bytes → ℕ → ℕ → Type 0
IsFree m base size = (k : ℕ) → k < size → byte_at m (address_after base k) ≡ None

-- the memory with `size` bytes more, from base on: those of front, and then zeros
abbrev pub added : Bytes → ℕ → ℕ → List ℕ → Bytes
added m base size front =
    with_bytes m (addresses base size) (front ++ replicate (size - length front) 0)
