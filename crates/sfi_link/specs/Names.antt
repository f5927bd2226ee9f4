-- The map of a source: the addresses of its gates and labels in the image that is linked.
use Rattle.std.specs.Prelude.{◌≡◌, ℕ, ◌+◌, ◌%◌, List, [], ◌∷◌, ◌++◌, map, slice_get, Option, Some, None}
use Rattle.sfi_source.specs.Source.{Sandbox}
use Rattle.sfi_formats.specs.declared.place.Place.{Place}
use Rattle.sfi_formats.specs.Formats.{unit}
use Rattle.sfi_image.specs.Spelling.{Part, Holds, code_region}
use Rattle.sfi_rewrite.specs.declared.placed.PlacedName.{PlacedName}
use Rattle.sfi_rewrite.specs.declared.placed.PlacedName.TheVariants.{Gate, Code, Data, Unknown}
use Rattle.sfi_rewrite.specs.Placement.{Placement}
use Rattle.sfi_link.specs.declared.bases.Bases.{Bases}
use Rattle.sfi_link.specs.declared.names.NameKind.{NameKind}
use Rattle.sfi_link.specs.declared.names.NameKind.TheVariants as kind
use Rattle.sfi_link.specs.Code.{address_of, bases_of}
use Rattle.sfi_link.specs.Linked.{IsLinkedImage}

-- a gate or a label in an image: the number of its sandbox, counted from 0, its name, which of them
-- it is, and the address that stands for it
pub record MapEntry : Type 0 where
  pub sandbox : ℕ
  pub name : List ℕ
  pub kind : NameKind
  pub address : ℕ

-- what a name stands for: a gate, or a label in the code or in the data; none of these where the
-- text only uses the name and never says what it names
abbrev pub kind_of : PlacedName → Option NameKind
kind_of (Gate k) = Some kind.Gate
kind_of (Code place) = Some kind.Code
kind_of (Data offset) = Some kind.Data
kind_of Unknown = None

-- the entry of a name with that text, of that kind and with that address, in the sandbox of that
-- number; none where one of the three is missing: a name that is neither a gate nor a label has no kind
abbrev pub entry_of : ℕ → Option (List ℕ) → Option NameKind → Option ℕ → List MapEntry
entry_of number (Some name) (Some kind) (Some address) =
    record { sandbox = number; name = name; kind = kind; address = address } ∷ []
entry_of number _ _ _ = []

-- the gates and labels among what was placed of a sandbox's names, from name k on, in the order in
-- which names are first seen; `texts` are those of all its names
abbrev pub entries_of : ℕ → Bases → List (List ℕ) → ℕ → List PlacedName → List MapEntry
entries_of number at texts k [] = []
entries_of number at texts k (p ∷ placed) =
    entry_of number (slice_get texts k) (kind_of p) (address_of at p)
    ++ entries_of number at texts (k + 1) placed

-- the gates and labels of all names of the sandbox, if the source has it
abbrev pub entries_in : ℕ → Bases → Option Sandbox → List PlacedName → List MapEntry
entries_in number at None placed = []
entries_in number at (Some s) placed = entries_of number at (map (λ e. e.0) s.names) 0 placed

-- the gates and labels of the source's sandboxes from that number on, by what was placed of each of these
abbrev pub map_from : List Place → ℕ → List Sandbox → List Placement → List MapEntry
map_from given number source [] = []
map_from given number source (p ∷ placed) =
    entries_in number (bases_of given number p) (slice_get source number) p.names
    ++ map_from given (number + 1) source placed

-- What was placed of the source has an image at the given places, and these are the source's gates
-- and labels, with the addresses that they have there. (That it was placed of this source is for
-- who uses this to say: the two are matched by their order, and what has no match is left out.)
pub record IsLinkedMap (given : List Place) (source : List Sandbox) (placed : List Placement)
    (entries : List MapEntry) : Type 0 where
  pub bytes : List ℕ
  pub image : IsLinkedImage given placed bytes
  pub entries_are : entries ≡ map_from given 0 source placed

-- where it is a label in the code, a unit of its sandbox's code, a bundle or a word, begins at its
-- address in the image of these sandboxes: there the sandbox may be entered
abbrev pub BeginsUnit : List Part → MapEntry → Type 0
BeginsUnit parts e = e.kind ≡ kind.Code
    → (q : Part) × (slice_get parts e.sandbox ≡ Some q) × Holds (code_region q) e.address
    × (e.address % unit q.format ≡ 0)
