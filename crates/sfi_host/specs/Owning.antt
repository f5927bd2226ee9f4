-- Which bytes a world has.
use Rattle.std.specs.Prelude.{◌≡◌, ◌⊎◌, ℕ, IsSome, Some, slice_get}
use Rattle.rv_mem.specs.Bytes.{byte_at}
use Rattle.sfi_image.specs.Spelling.{Holds}
use Rattle.sfi_host.specs.Worlds.{Seat, Sandboxes}

-- the address lies in the code or in the data of a sandbox of the world
abbrev pub IsOwned : Sandboxes → ℕ → Type 0
IsOwned w a =
    (i : ℕ) × (s : Seat) × (slice_get w.seats i ≡ Some s)
    × (Holds s.bounds.code a ⊎ Holds s.bounds.data a)

-- each byte of the memory is a code or data byte of a sandbox
abbrev pub AreOwned : Sandboxes → Type 0
AreOwned w = (a : ℕ) → IsSome (byte_at w.bytes a) → IsOwned w a
