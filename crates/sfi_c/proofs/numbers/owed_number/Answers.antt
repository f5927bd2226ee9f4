use Rattle.sfi_c.proofs.Prelude.{◌≡◌, ◌∙◌, ℕ, ◌+◌, ◌*◌, ◌<◌, sym, arith}
use Rattle.std.proofs.Common.{◌/◌, ◌%◌, ap₂}
use Rattle.sfi_c.specs.Streams.{owed_by, owed_of}
use Rattle.sfi_c.proofs.numbers.owed_number.Goals as goal

-- what is owed, back from its number
owed_back : (kind register : ℕ) → kind < 8 → register < 256 → owed_of (8 * register + kind) ≡ owed_by kind register
owed_back kind register low small = ap₂ owed_by (let e : (8 * register + kind) % 8 ≡ kind = omega arith in e) (let e : (8 * register + kind) / 8 % 256 ≡ register = omega arith in e)

pub returns-in-Mask : goal.returns-in-Mask
returns-in-Mask c = owed_back 2 c.in-Mask.register (omega arith) (omega arith) ∙ sym c.in-Mask.is

pub returns-in-PlaceOnly : goal.returns-in-PlaceOnly
returns-in-PlaceOnly c = owed_back 3 c.in-PlaceOnly.register (omega arith) (omega arith) ∙ sym c.in-PlaceOnly.is

pub returns-in-MaskOrUse : goal.returns-in-MaskOrUse
returns-in-MaskOrUse c = owed_back 4 c.in-MaskOrUse.register (omega arith) (omega arith) ∙ sym c.in-MaskOrUse.is
