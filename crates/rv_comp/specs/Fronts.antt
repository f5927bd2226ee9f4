-- Halfwords of the 16-bit forms, and what bytes spell.
use Rattle.std.specs.Prelude.{◌≡◌, ◌≤◌, ℕ, IsTrue, ◌<◌, ◌⊎◌, List, length, take}
use Rattle.rv_word.specs.declared.instr.Instr.{Instr}
use Rattle.rv_word.specs.declared.outline.Outline.{Outline}
use Rattle.rv_word.specs.Outlines.{outline}
use Rattle.rv_comp.specs.Table.{number_after, row, allowed, fields_of, expansion, place}
use Rattle.rv_comp.specs.declared.form.Form16.{Form16}
use Rattle.std.specs.Int.{w16, w32, from_le_bytes}
use Rattle.rv_word.specs.declared.length.Length.TheVariants.{Wide}
use Rattle.rv_word.specs.Spelling.{length_of, IsWordOf}
use Rattle.rv_comp.specs.declared.front.Front.{Front}
use Rattle.rv_comp.specs.declared.front.Front.TheVariants.{Read, Short, Bad}

-- ==== The halfword of a form, and which halfwords and instructions belong to one another.

-- the halfword that a form's bits make
abbrev pub halfword_of : Form16 → ℕ
halfword_of f = number_after 0 (fields_of f) (row f)

-- the row of f allows its fields, and gives the halfword h for them
pub record IsHalfwordOf (h : ℕ) (f : Form16) : Type 0 where
  pub meets : IsTrue (allowed f)
  pub spelled : h ≡ halfword_of f

-- a row gives h for field values that expand to i
pub record IsShortSpelling (h : ℕ) (i : Instr) : Type 0 where
  pub form : Form16
  pub gives : IsHalfwordOf h form
  pub expands : expansion form ≡ i

-- a row gives h for field values that expand to an instruction with this outline
pub record IsHalfwordThat (h : ℕ) (o : Outline) : Type 0 where
  pub instr : Instr
  pub spelled : IsShortSpelling h instr
  pub does : outline instr ≡ o

-- f's row is the first one of which a value expands to i, and f is that value
pub record IsFirst (i : Instr) (f : Form16) : Type 0 where
  pub meets : IsTrue (allowed f)
  pub expands : expansion f ≡ i
  pub first : (g : Form16) → IsTrue (allowed g) → expansion g ≡ i → place f ≤ place g

-- ==== Bytes that spell an instruction, low byte first, and what stands at the front of a list of
-- bytes.

-- the two bytes are the halfword of a form that expands to i
pub record SpellsShort (bytes : List ℕ) (i : Instr) (n : ℕ) : Type 0 where
  pub size : n ≡ 2
  pub all : length bytes ≡ 2
  pub spelled : IsShortSpelling (from_le_bytes w16 bytes) i

-- the four bytes are the word of i
pub record SpellsWide (bytes : List ℕ) (i : Instr) (n : ℕ) : Type 0 where
  pub size : n ≡ 4
  pub all : length bytes ≡ 4
  pub spelled : IsWordOf (from_le_bytes w32 bytes) i

-- the bytes spell i with length n
abbrev pub Spells : List ℕ → Instr → ℕ → Type 0
Spells bytes i n = SpellsShort bytes i n ⊎ SpellsWide bytes i n

-- fewer than two bytes, or fewer than four where the first halfword begins a 32-bit instruction
abbrev pub IsCutShort : List ℕ → Type 0
IsCutShort bytes = (length bytes < 2)
    ⊎ ((length bytes < 4) × (length_of (from_le_bytes w16 (take 2 bytes)) ≡ Wide))

-- there are enough bytes, and none of their beginnings spells an instruction
pub record SpellsNothing (bytes : List ℕ) : Type 0 where
  pub enough : IsCutShort bytes → ⊥
  pub unspelled : (i : Instr) (n : ℕ) → Spells (take n bytes) i n → ⊥

-- what stands at the front of the bytes
abbrev pub IsFront : List ℕ → Front → Type 0
IsFront bytes (Read i n) = Spells (take n bytes) i n
IsFront bytes Short = IsCutShort bytes
IsFront bytes Bad = SpellsNothing bytes
