-- What holds of what is built and then moved.
use Rattle.std.specs.Prelude.{◌≡◌, ◌<◌, ℕ, List, true, length, Some}
use Rattle.sfi_formats.specs.declared.place.Place.{Place}
use Rattle.sfi_formats.specs.Places.{place_of}
use Rattle.sfi_image.specs.Spelling.{Part, AreApart, fields_of, code_region, guarded_region}
use Rattle.sfi_places.specs.Moving.{moved, address_there}
use Rattle.sfi_rewrite.specs.Placement.{Placement}
use Rattle.sfi_rewrite.specs.Placed.{IsPlacedPart}
use Rattle.sfi_link.specs.Code.{bases_of, address_at}
use Rattle.sfi_link.specs.Linked.{IsRightPlace, IsLinked}

-- what is made of a placed sandbox that can be moved, and is then moved to another place where it may
-- lie, is what is made of it there: code, start, gates and first data bytes. (A table of names comes
-- into the data after that, and a move rewrites it.)
abbrev pub MovedIsLinked : Type 0
MovedIsLinked =
    (given others : List Place) (number : ℕ) (p : Placement) (q : Part) → p.movable ≡ true
    → IsLinked given number p q → IsRightPlace p (length q.code) (place_of others p.format number)
    → IsLinked others number p
    (moved (place_of others p.format number).code_base (place_of others p.format number).data_base q)

-- in a sandbox whose data have room for a table of names, an address that a name stands for is, where it
-- is moved to another place, the one that the name stands for where the sandbox is made at that place
abbrev pub NamesGoAlong : Type 0
NamesGoAlong =
    (given others : List Place) (number : ℕ) (p : Placement) (q : Part) (name at : ℕ) → IsPlacedPart p
    → IsLinked given number p q → AreApart (code_region q) (guarded_region q)
    → length p.bytes < p.data_size → address_at (bases_of given number p) p.names name ≡ Some at
    → address_at (bases_of others number p) p.names name
    ≡ Some (address_there (fields_of q) (place_of others p.format number) at)
