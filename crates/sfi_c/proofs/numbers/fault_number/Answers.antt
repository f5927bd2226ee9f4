use Rattle.sfi_c.proofs.Prelude.{◌≡◌, ◌∙◌, sym}
use Rattle.std.proofs.Common.{ap, refl, Some}
use Rattle.sfi_image.specs.Faults.{number_of}
use Rattle.sfi_image.specs.declared.fault.LayoutFault.{LayoutFault}
use Rattle.sfi_image.specs.declared.fault.LayoutFault.TheVariants.{Magic, Count, Short, Code, Data, GuardRoom, Start, Gates, Init, Overlap, Trailing}
use Rattle.sfi_c.specs.Streams.{fault_of}
use Rattle.sfi_c.proofs.numbers.fault_number.Goals as goal

-- a fault, back from its number
fault_back : (k : LayoutFault) → fault_of (number_of k) ≡ Some k
fault_back Magic = refl
fault_back Count = refl
fault_back Short = refl
fault_back Code = refl
fault_back Data = refl
fault_back GuardRoom = refl
fault_back Start = refl
fault_back Gates = refl
fault_back Init = refl
fault_back Overlap = refl
fault_back Trailing = refl

pub returns-in-Some : goal.returns-in-Some
returns-in-Some c = ap fault_of c.number.ensures ∙ fault_back c.in-Some.fault ∙ sym c.in-Some.is
