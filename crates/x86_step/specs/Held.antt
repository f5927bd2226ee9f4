-- What a `Core` of the code stands for.
use Rattle.std.specs.Prelude.{◌≡◌, ℕ, ◌+◌, ◌-◌, nat_le, nat_lt, ◌&&◌, Bool, List, length, Option, Some, None, Result, Ok, Err, slice_index, if◌then◌else◌}
use Rattle.x86_step.specs.declared.machine.Stop.{Stop}
use Rattle.x86_step.specs.declared.machine.Core as held
use Rattle.x86_step.specs.State.{Core, Machine}

-- bytes from an address on
abbrev pub bytes_from : ℕ → List ℕ → ℕ → Option ℕ
bytes_from base bytes a = if nat_le base a && nat_lt a (base + length bytes) then Some (slice_index bytes (a - base)) else None

abbrev pub has_byte : ℕ → List ℕ → ℕ → Bool
has_byte base bytes a = nat_le base a && nat_lt a (base + length bytes)

abbrev pub core_of : held.Core → Core
core_of c = record {
  registers = λ r. slice_index c.registers r;
  flags = c.flags;
  memory = bytes_from c.memory.base c.memory.bytes.items;
  writable = has_byte c.memory.base c.memory.bytes.items;
}

-- what a method answers and leaves is what the definitions come to
abbrev pub Leaves : {A : Type 0} → Result A Stop → held.Core → Result Core Stop → Type 0
Leaves (Ok u) new expected = expected ≡ Ok (core_of new)
Leaves (Err e) new expected = expected ≡ Err e

abbrev pub Comes : Result ℕ Stop → held.Core → Result Machine Stop → Type 0
Comes (Ok to) new expected = expected ≡ Ok (record { rip = to; core = core_of new })
Comes (Err e) new expected = expected ≡ Err e
