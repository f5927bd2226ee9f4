-- What holds of all that is placed.
use Rattle.std.specs.Prelude.{◌≡◌, ◌⊎◌, ℕ, ◌+◌, ◌<◌, ◌≤◌, List, [], length, true, Some}
use Rattle.sfi_image.specs.Spelling.{Part, Holds, IsWord}
use Rattle.sfi_image.specs.declared.span.Span.{Span}
use Rattle.sfi_image.specs.Parts.{IsRightLayout, IsMaskedBase}
use Rattle.sfi_formats.specs.declared.place.Place.{Place}
use Rattle.sfi_formats.specs.Formats.{code_base_register, data_base_register, has_single_mask}
use Rattle.sfi_formats.specs.declared.format.Format.{Format}
use Rattle.sfi_rules.specs.Findings.{AreFindings}
use Rattle.sfi_rewrite.specs.Placement.{Placement}
use Rattle.sfi_rewrite.specs.Placed.{IsPlacedPart, IsPlaced, format_of}
use Rattle.sfi_rewrite.specs.Transparency.{AreRegions}
use Rattle.sfi_rewrite.specs.words.Transparency.{masked_in}
use Rattle.rv_word.specs.declared.instr.RegOp.TheVariants.{Add}
use Rattle.rv_step.specs.Step.{result_of}
use Rattle.sfi_link.specs.Code.{bases_of, base_at, value_at, address_at}
use Rattle.sfi_link.specs.declared.fault.LinkFault.{LinkFault}
use Rattle.sfi_link.specs.declared.fault.LinkFault.TheVariants as fault
use Rattle.sfi_link.specs.Linked.{IsLinkedCode, IsLinked, AreLinked, IsLinkedImage, HaveUsualPlaces}
use Rattle.sfi_formats.specs.Limits.{sandboxes_most}
use Rattle.sfi_link.specs.Faults.{IsLinkFault}

-- what is made of a placed sandbox breaks no rule
abbrev pub LinkedIsClean : Type 0
LinkedIsClean = (given : List Place) (number : ℕ) (p : Placement) (q : Part) → IsPlacedPart p
    → IsLinked given number p q → AreFindings number q []

-- what is made of as many placed sandboxes as an image may have has a right layout
abbrev pub LinkedIsRight : Type 0
LinkedIsRight = (given : List Place) (placed : List Placement) (parts : List Part) → IsPlaced placed
    → length placed ≤ sandboxes_most → AreLinked given placed parts → IsRightLayout parts

-- one list of sandboxes is made of what is placed
abbrev pub OneLinking : Type 0
OneLinking = (given : List Place) (placed : List Placement) (parts others : List Part)
    → AreLinked given placed parts → AreLinked given placed others → parts ≡ others

-- A sandbox that is built to be moved has the same code at each place. Its gates and its start lie as far
-- from the code's base, and its first data bytes are the same, by `part_with`: so what is linked there is
-- what was linked elsewhere, and moved. A table of names, which a build puts into the data after that, has
-- the addresses of one place.
abbrev pub MovableCodeIsPlaceless : Type 0
MovableCodeIsPlaceless =
    (given others : List Place) (number : ℕ) (p : Placement) (code : List ℕ) → p.movable ≡ true
    → IsLinkedCode given number p code → IsLinkedCode others number p code

-- In such a sandbox the number that the lui and addi of `la` hold of a name, and what the register that its
-- add names holds, where x24 and x26 hold the bases, add up to the name's address. (That lui and addi put
-- the number together is `ConstantsAddUp` of sfi_text.)
abbrev pub MovableAddressesAddUp : Type 0
MovableAddressesAddUp =
    (given : List Place) (number : ℕ) (p : Placement) (place : ℕ) (held : ℕ → ℕ) (base value : ℕ)
    → p.movable ≡ true → held code_base_register ≡ (bases_of given number p).code
    → held data_base_register ≡ (bases_of given number p).«data»
    → base_at p.names place ≡ Some base
    → value_at (bases_of given number p) p.names place ≡ Some value
    → address_at (bases_of given number p) p.names place ≡ Some (held base + value)

-- In the stack pointer of the second format and in data registers a mask follows each of the three. They
-- leave the name's address, too, if that lies in the data region, and, where masks are single, what the
-- lui leaves and what the addi leaves lie below the data's size.
abbrev pub MaskedAddressesAddUp : Type 0
MaskedAddressesAddUp =
    (f : Format) (given : List Place) (number : ℕ) (p : Placement) (place : ℕ) (held : ℕ → ℕ)
    (base value upper lower address : ℕ) (code_at data_at : Span)
    → p.movable ≡ true → held code_base_register ≡ (bases_of given number p).code
    → held data_base_register ≡ (bases_of given number p).«data»
    → base_at p.names place ≡ Some base
    → value_at (bases_of given number p) p.names place ≡ Some value
    → result_of Add upper lower ≡ value
    → address_at (bases_of given number p) p.names place ≡ Some address
    → AreRegions code_at data_at → IsMaskedBase f data_at.base data_at.size
    → (has_single_mask f ≡ true → (upper < data_at.size) × (value < data_at.size))
    → Holds data_at address → IsWord address
    → masked_in f data_at (result_of Add
    (masked_in f data_at (result_of Add (masked_in f data_at upper) lower)) (held base)) ≡ address

-- what is placed has at most one image
abbrev pub OneImage : Type 0
OneImage = (given : List Place) (placed : List Placement) (bytes others : List ℕ)
    → IsLinkedImage given placed bytes → IsLinkedImage given placed others → bytes ≡ others

-- what is placed has at most one fault
abbrev pub OneFault : Type 0
OneFault = (given : List Place) (placed : List Placement) (f g : LinkFault)
    → IsLinkFault given placed f → IsLinkFault given placed g → f ≡ g

-- what has an image has no fault
abbrev pub ImageHasNoFault : Type 0
ImageHasNoFault = (given : List Place) (placed : List Placement) (bytes : List ℕ) (f : LinkFault)
    → IsLinkedImage given placed bytes → IsLinkFault given placed f → ⊥

-- of as many placed sandboxes as an image may have, with a fault no image is made
abbrev pub NeverBoth : Type 0
NeverBoth =
    (given : List Place) (placed : List Placement) (parts : List Part) (f : LinkFault)
    → length placed ≤ sandboxes_most → AreLinked given placed parts → IsLinkFault given placed f → ⊥

-- what is placed has an image or a fault
abbrev pub SomeLinking : Type 0
SomeLinking = (given : List Place) (placed : List Placement) → IsPlaced placed
    → ((bytes : List ℕ) × IsLinkedImage given placed bytes)
    ⊎ ((f : LinkFault) × IsLinkFault given placed f)

-- where no place is given, and there is a usual one for each, no sandbox has a fault of its place
abbrev pub UsualPlacesAreFree : Type 0
UsualPlacesAreFree = (placed : List Placement) (sandbox : ℕ) → IsPlaced placed
    → HaveUsualPlaces (format_of placed) (length placed) → IsLinkFault [] placed (fault.Place sandbox) → ⊥
