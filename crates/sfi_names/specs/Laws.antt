-- What holds of the definitions themselves.
use Rattle.std.specs.Prelude.{◌≡◌, ℕ, List, [], ◌∷◌, ◌++◌}
use Rattle.std.specs.List.{All}
use Rattle.sfi_names.specs.Tables.{Named, Table, IsNamed, entry, entries, HasTable}
use Rattle.sfi_names.specs.Rooms.{room_name, room_of}

-- bytes end in one table at most
abbrev pub OneTable : Type 0
OneTable = (bytes : List ℕ) (t u : Table) → HasTable bytes t → HasTable bytes u → t ≡ u

-- the entry with which entries begin is the first of them, and the others follow it
pub record FollowsFirst (es : List Named) (e : Named) (rest : List ℕ) : Type 0 where
  pub others : List Named
  pub named : All IsNamed others
  pub all : es ≡ e ∷ others
  pub rest_is : rest ≡ entries others

abbrev pub OneFirst : Type 0
OneFirst = (es : List Named) (e : Named) (rest : List ℕ) → All IsNamed es → IsNamed e
    → entries es ≡ entry e ++ rest → FollowsFirst es e rest

-- the room that bytes ask for is what the last import of their table stands for, if that has the
-- room's name
abbrev pub RoomIsLastImport : Type 0
RoomIsLastImport = (bytes : List ℕ) (t : Table) (es : List Named) (e : Named) → HasTable bytes t
    → t.imports ≡ es ++ e ∷ [] → e.name ≡ room_name → room_of bytes ≡ e.address
