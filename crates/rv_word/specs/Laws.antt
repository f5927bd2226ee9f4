-- Laws of the spelling.
use Rattle.std.specs.Prelude.{◌≡◌, ℕ, ◌%◌, ◌^◌, ◌<◌, ◌⊎◌}
use Rattle.rv_word.specs.declared.instr.Instr.{Instr}
use Rattle.rv_word.specs.declared.length.Length.TheVariants.{Wide}
use Rattle.rv_word.specs.Spelling.{length_of, IsWordOf}

-- a word spells one instruction at most
abbrev pub OneSpelling : Type 0
OneSpelling = (word : ℕ) (i j : Instr) → IsWordOf word i → IsWordOf word j → i ≡ j

-- a word that spells an instruction has 32 bits, and its first halfword tells so
abbrev pub SpellingsAreWide : Type 0
SpellingsAreWide =
    (word : ℕ) (i : Instr) → IsWordOf word i → (word < 2 ^ 32) × (length_of (word % 2 ^ 16) ≡ Wide)

-- each number spells an instruction or spells none
abbrev pub WordIsDecided : Type 0
WordIsDecided = (word : ℕ) → ((i : Instr) × IsWordOf word i) ⊎ ((i : Instr) → IsWordOf word i → ⊥)
