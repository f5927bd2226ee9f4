-- The room that code asks for above the stack of a function that its host calls.
use Rattle.std.specs.Prelude.{ℕ, ◌-◌, List, [], ◌∷◌, length, take, drop, cond, Bool, nat_lt, ◌&&◌}
use Rattle.std.specs.Int.{w32, from_le_bytes}
use Rattle.std.specs.Str.{bytes_eq}
use Rattle.sfi_names.specs.Tables.{magic}

-- It is the number that the last import of a table has in the place of an address, if its name is
-- `.room`. So it stands at a fixed place, and is read there, whatever else the table is: in the last
-- 26 bytes, which are the number in four bytes, the length of the name, the name, the three numbers of
-- the footer, and the magic.

-- the name: .room
abbrev pub room_name : List ℕ
room_name = 46 ∷ 114 ∷ 111 ∷ 111 ∷ 109 ∷ []

-- these 26 bytes have the room's name and the magic in their places
abbrev pub ends_with_room : List ℕ → Bool
ends_with_room last = bytes_eq (take 6 (drop 4 last)) (length room_name ∷ room_name) && bytes_eq (take 4 (drop 22 last)) magic

-- the room that these 26 bytes ask for; 0 where they have not
abbrev pub room_in : List ℕ → ℕ
room_in last = cond (ends_with_room last) (from_le_bytes w32 (take 4 last)) 0

-- the room that the bytes ask for at their end
unfoldable pub room_of : List ℕ → ℕ
room_of bytes = cond (nat_lt (length bytes) 26) 0 (room_in (drop (length bytes - 26) bytes))
