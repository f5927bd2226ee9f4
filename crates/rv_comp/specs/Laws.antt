-- What holds of every spelling.
use Rattle.std.specs.Prelude.{◌≡◌, ◌≢◌, ℕ, ◌<◌, ◌^◌, ◌⊎◌, List, slice_index, IfSome, Some, IsTrue}
use Rattle.rv_word.specs.declared.instr.Instr.{Instr}
use Rattle.rv_word.specs.declared.instr.Instr.TheVariants.{Ecall}
use Rattle.rv_word.specs.Outlines.{outline}
use Rattle.rv_word.specs.Spelling.{InRange}
use Rattle.rv_comp.specs.Fronts.{Spells, IsFront, IsFirst, IsShortSpelling, IsHalfwordThat}
use Rattle.rv_comp.specs.Table.{allowed, expansion}
use Rattle.rv_comp.specs.mirror.{outlined}
use Rattle.rv_comp.specs.declared.form.Form16.{Form16}
use Rattle.rv_comp.specs.declared.front.Front.{Front}

-- two lists of bytes that agree as far as both spellings go spell one instruction, with one length
abbrev pub OneSpelling : Type 0
OneSpelling =
    (bytes others : List ℕ) (i j : Instr) (m n : ℕ) → Spells bytes i m → Spells others j n
    → ((k : ℕ) → k < m → k < n → slice_index bytes k ≡ slice_index others k)
    → (i ≡ j) × (m ≡ n)

-- an instruction has two bytes or four
abbrev pub TwoLengths : Type 0
TwoLengths = (bytes : List ℕ) (i : Instr) (n : ℕ) → Spells bytes i n → (n ≡ 2) ⊎ (n ≡ 4)

-- an ecall has four bytes
abbrev pub EcallIsWide : Type 0
EcallIsWide = (bytes : List ℕ) (n : ℕ) → Spells bytes Ecall n → n ≡ 4

-- the fields of what is spelled are in range; so the offset of a branch or a jump is even
abbrev pub SpelledInRange : Type 0
SpelledInRange = (bytes : List ℕ) (i : Instr) (n : ℕ) → Spells bytes i n → InRange i

-- a list of bytes has one front at most
abbrev pub OneFront : Type 0
OneFront =
    (bytes : List ℕ) (front other : Front) → IsFront bytes front
    → IsFront bytes other → front ≡ other

-- each list of bytes has a front
abbrev pub SomeFront : Type 0
SomeFront = (bytes : List ℕ) → (front : Front) × IsFront bytes front

-- an instruction has one first form at most
abbrev pub OneFirstForm : Type 0
OneFirstForm = (i : Instr) (form other : Form16) → IsFirst i form → IsFirst i other → form ≡ other

-- an instruction has a first form, or no form expands to it
abbrev pub SomeFirstForm : Type 0
SomeFirstForm = (i : Instr) → ((form : Form16) × IsFirst i form)
    ⊎ ((form : Form16) → IsTrue (allowed form) → expansion form ≢ i)

-- `outlined` is the outline of each halfword that spells an instruction, and of no other halfword
abbrev pub HalfwordsAreOutlined : Type 0
HalfwordsAreOutlined =
    (h : ℕ) → h < 2 ^ 16 → IfSome (outlined h) (IsHalfwordThat h)
    × ((i : Instr) → IsShortSpelling h i → outlined h ≡ Some (outline i))
