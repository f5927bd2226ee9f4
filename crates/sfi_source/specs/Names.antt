-- The names of a source, and the table that keeps them.
use Rattle.std.specs.Prelude.{ℕ, ◌≤◌, Bool, false, ◌||◌, ◌==◌, List, [], ◌∷◌, length, IsTrue, ◌+◌, if◌then◌else◌}
use Rattle.std.specs.List.{AllByRecursion}
use Rattle.std.specs.Char.{is_ascii_alphabetic, is_ascii_digit}
use Rattle.sfi_formats.specs.Limits.{name_most}
use Rattle.std.specs.Str.{bytes_eq}
use Rattle.std.specs.declared.string.String.{String}
use Rattle.std.specs.String.{string_bytes}
use Rattle.sfi_source.specs.declared.item.Named.{Named}
use Rattle.sfi_source.specs.declared.item.Named.TheVariants.{Unknown}

-- ==== The names that a text gives to labels and gates, and that its instructions cite.

-- the byte is a letter, `_` or `.`
abbrev pub begins_name : ℕ → Bool
begins_name c = is_ascii_alphabetic c || ((c == 95) || (c == 46))

-- the byte is a letter, `_`, `.` or a digit
abbrev pub continues_name : ℕ → Bool
continues_name c = begins_name c || is_ascii_digit c

-- a letter, `_` or `.`, then letters, digits, `_` and `.`
abbrev pub IsName : List ℕ → Type 0
IsName [] = ⊥
IsName (c ∷ cs) = IsTrue (begins_name c) × AllByRecursion (λ b. IsTrue (continues_name b)) cs

-- a letter or `_` stands at the front
abbrev pub begins_label : List ℕ → Bool
begins_label [] = false
begins_label (c ∷ cs) = is_ascii_alphabetic c || (c == 95)

-- the name of a label, a gate or a target: a name that begins with no point
abbrev pub IsLabel : List ℕ → Type 0
IsLabel text = IsName text × IsTrue (begins_label text)

-- the name of a label, a gate or a target, of as many bytes as a name may have
abbrev pub IsShortLabel : List ℕ → Type 0
IsShortLabel text = IsLabel text × (length text ≤ name_most)

-- ==== The names of a sandbox: each text with what it names, in the order in which they are first
-- seen.

-- a key and its value as a clause sees them: the name's text, and what it names
abbrev pub entry_of : {A : Type 0} → String A × Named → List ℕ × Named
entry_of e = (string_bytes e.0, e.1)

-- what the name names; nothing where it isn't there
abbrev pub meaning : List (List ℕ × Named) → List ℕ → Named
meaning [] name = Unknown
meaning (e ∷ es) name = if bytes_eq name e.0 then e.1 else meaning es name

-- the place of the name; where it isn't there, the place after the last
abbrev pub place_of : List (List ℕ × Named) → List ℕ → ℕ
place_of [] name = 0
place_of (e ∷ es) name = if bytes_eq name e.0 then 0 else 1 + place_of es name

-- the names, where this one names `what`: it keeps its place, or goes last where it is new
abbrev pub placed : List (List ℕ × Named) → List ℕ → Named → List (List ℕ × Named)
placed [] name what = (name, what) ∷ []
placed (e ∷ es) name what = if bytes_eq name e.0 then (name, what) ∷ es else e ∷ placed es name what

-- the names, with this one among them: where it is new it goes last and names nothing
abbrev pub met : List (List ℕ × Named) → List ℕ → List (List ℕ × Named)
met names name = placed names name (meaning names name)
