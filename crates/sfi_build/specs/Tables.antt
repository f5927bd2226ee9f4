-- The tables of names for which a text asks, and the source whose first data bytes end in them.
use Rattle.std.specs.Prelude.{◌+◌, ◌-◌, ◌++◌, ◌==◌, ◌&&◌, ℕ, List, [], ◌∷◌, Bool, length, map, slice_get, nat_lt, if◌then◌else◌, Option, None, Some, Result, Ok, Err}
use Rattle.sfi_formats.specs.declared.place.Place.{Place}
use Rattle.sfi_names.specs.Tables.{Named, Table, spelling}
use Rattle.sfi_source.specs.Source.{Sandbox}
use Rattle.sfi_text.specs.declared.source_text.Listed.{Listed}
use Rattle.sfi_text.specs.SoFar.{SharedNames}
use Rattle.sfi_rewrite.specs.Placement.{Placement}
use Rattle.sfi_link.specs.Code.{address_at, bases_of}
use Rattle.sfi_build.specs.declared.table_fault.TableFault.{TableFault}
use Rattle.sfi_build.specs.declared.table_fault.TableFault.TheVariants.{Unknown, NoRoom}

-- ==== The table of a sandbox.

-- the number of a fault
abbrev pub number_of : TableFault → ℕ
number_of (Unknown line) = 1
number_of (NoRoom sandbox) = 2

-- what `f` makes of it, or its fault
abbrev pub on_ok : {X Y : Type 0} → Result X TableFault → (X → Result Y TableFault) → Result Y TableFault
on_ok (Ok x) f = f x
on_ok (Err fault) f = Err fault

-- the address of the name at that place among the names of what is placed as sandbox `number`
abbrev pub address_in : List Place → ℕ → Option Placement → ℕ → Option ℕ
address_in given number None place = None
address_in given number (Some p) place = address_at (bases_of given number p) p.names place

-- a name with its address; none where one of these is missing
abbrev pub entry_with : Option (List ℕ) → Option ℕ → Option Named
entry_with (Some name) (Some address) = Some (record { address = address; name = name })
entry_with _ _ = None

-- the entry before others; or the fault of its line, if there is none
abbrev pub entry_before : Option Named → ℕ → Result (List Named) TableFault → Result (List Named) TableFault
entry_before (Some e) line rest = on_ok rest (λ es. Ok (e ∷ es))
entry_before None line rest = Err (Unknown line)

-- the entries of what is listed, in order, or the fault of the first that has none: `texts` are a
-- sandbox's names, and `address_of` gives the address of each by its place among them
abbrev pub entries_of : (ℕ → Option ℕ) → List (List ℕ) → List Listed → Result (List Named) TableFault
entries_of address_of texts [] = Ok []
entries_of address_of texts (l ∷ listed) =
    entry_before (entry_with (slice_get texts l.name) (address_of l.name)) l.line
    (entries_of address_of texts listed)

-- the table of all that is listed, for version 0 of the host's interface
abbrev pub table_of : (ℕ → Option ℕ) → List (List ℕ) → SharedNames → Result Table TableFault
table_of address_of texts shared =
    on_ok (entries_of address_of texts shared.exports) (λ exports.
    on_ok (entries_of address_of texts shared.imports) (λ imports.
    Ok (record { version = 0; exports = exports; imports = imports })))

-- the bytes of a table, where `room` bytes of the sandbox's data are left
abbrev pub bytes_within : ℕ → ℕ → Table → Result (List ℕ) TableFault
bytes_within sandbox room t =
    if nat_lt room (length (spelling t)) then Err (NoRoom sandbox) else Ok (spelling t)

-- nothing is listed
abbrev pub is_unlisted : SharedNames → Bool
is_unlisted shared = (length shared.exports == 0) && (length shared.imports == 0)

-- how many bytes of its data a sandbox leaves
abbrev pub room_of : Sandbox → ℕ
room_of s = s.data_size - length s.bytes

-- the bytes of the table of sandbox `number`; none where nothing is listed
abbrev pub tail_of : (ℕ → Option ℕ) → ℕ → SharedNames → Sandbox → Result (List ℕ) TableFault
tail_of address_of number shared s =
    if is_unlisted shared then Ok []
    else on_ok (table_of address_of (map (λ e. e.0) s.names) shared) (bytes_within number (room_of s))

-- ==== The tables of a source.

-- those of its sandboxes, the first of which has that number, or the first fault: the addresses are
-- those that the names have in the image of what is placed
abbrev pub tails_from : List Place → List Placement → ℕ → List SharedNames → List Sandbox
    → Result (List (List ℕ)) TableFault
tails_from given placed number (l ∷ shared) (s ∷ source) =
    on_ok (tail_of (address_in given number (slice_get placed number)) number l s) (λ t.
    on_ok (tails_from given placed (number + 1) shared source) (λ tails. Ok (t ∷ tails)))
tails_from given placed number _ _ = Ok []

-- the sandbox whose first data bytes end in the tail
abbrev pub sandbox_with : List ℕ → Sandbox → Sandbox
sandbox_with t s = record s { bytes = s.bytes ++ t }
