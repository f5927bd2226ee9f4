-- A table of names: what it says, its bytes, and what a name stands for.
use Rattle.std.specs.Prelude.{ℕ, ◌≤◌, List, [], ◌∷◌, ◌++◌, length, ◌≡◌, Option, Some, None, if◌then◌else◌}
use Rattle.std.specs.List.{All, flat_map}
use Rattle.sfi_image.specs.Spelling.{number, IsWord}
use Rattle.sfi_names.specs.declared.entry.NameEntry.{NameEntry}
use Rattle.sfi_names.specs.declared.names.Names.{Names}
use Rattle.std.specs.Str.{bytes_eq}

-- ==== What a table of names says, and its bytes.

-- a name, and the address that it stands for
pub record Named : Type 0 where
  pub address : ℕ
  pub name : List ℕ

-- what a table says
pub record Table : Type 0 where
  pub version : ℕ  -- of the host's interface, for which the code is made
  pub exports : List Named  -- functions that a host may call, and objects of the data that it may use
  pub imports : List Named  -- gates that the code calls, and as the last the room (Rooms)

-- ---- bytes

-- the four bytes in which a table ends: SFIN
abbrev pub magic : List ℕ
magic = 83 ∷ 70 ∷ 73 ∷ 78 ∷ []

-- a name with its address: the address, how many bytes the name has, and these
unfoldable pub entry : Named → List ℕ
entry e = number e.address ++ (length e.name ∷ e.name)

-- names with their addresses, one after another
abbrev pub entries : List Named → List ℕ
entries es = flat_map entry es

-- the three numbers before the magic: the version, how many bytes the exports have, and the imports
unfoldable pub footer : Table → List ℕ
footer t = number t.version ++ (number (length (entries t.exports)) ++ number (length (entries t.imports)))

-- a table: the exports, the imports, the three numbers, the magic
unfoldable pub spelling : Table → List ℕ
spelling t = entries t.exports ++ (entries t.imports ++ (footer t ++ magic))

-- ---- which tables there are

-- a name has 1 to 255 bytes, each of them a visible character of ASCII
pub record IsName (name : List ℕ) : Type 0 where
  pub at_least : 1 ≤ length name
  pub at_most : length name ≤ 255
  pub visible : All (λ b. (33 ≤ b) × (b ≤ 126)) name

-- and an address has 32 bits
pub record IsNamed (e : Named) : Type 0 where
  pub address : IsWord e.address
  pub name : IsName e.name

-- each name of the table is one, and each of its three numbers has 32 bits
pub record IsTable (t : Table) : Type 0 where
  pub exports : All IsNamed t.exports
  pub imports : All IsNamed t.imports
  pub version : IsWord t.version
  pub exports_bytes : IsWord (length (entries t.exports))
  pub imports_bytes : IsWord (length (entries t.imports))

-- ==== Bytes that end in a table of names, and the table as a reader hands it out.

-- the bytes end in these
abbrev pub EndsIn : List ℕ → List ℕ → Type 0
EndsIn bytes end = (before : List ℕ) × (bytes ≡ before ++ end)

-- the bytes end in this table
pub record HasTable (bytes : List ℕ) (t : Table) : Type 0 where
  pub table : IsTable t
  pub ends : EndsIn bytes (spelling t)

-- the reader's value stands for this table: its version, and the bytes of its exports and imports
pub record IsNamesOf (n : Names) (t : Table) : Type 0 where
  pub table : IsTable t
  pub version_is : n.version ≡ t.version
  pub exports_are : n.exports.now ≡ entries t.exports
  pub imports_are : n.imports.now ≡ entries t.imports

-- the name and the address that the reader's value stands for
abbrev pub named : NameEntry → Named
named e = record { address = e.address; name = e.name.now }

-- ==== What a name stands for.

-- the address of the first entry of that name
abbrev pub address_of : List ℕ → List Named → Option ℕ
address_of name [] = None
address_of name (e ∷ es) = if bytes_eq e.name name then Some e.address else address_of name es
