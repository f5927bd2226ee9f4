-- Words that private contracts and proofs alone cite: no public statement rests on them.
use Rattle.std.specs.Prelude.{ℕ, ◌<◌, ◌==◌, ◌&&◌, ◌||◌, not, nat_lt, Bool, if◌then◌else◌}
use Rattle.rv_word.specs.declared.word_fields.WordFields.{WordFields}
use Rattle.rv_word.specs.declared.instr.Instr.{Instr}
use Rattle.rv_word.specs.Spelling.{r_format, IsWordOf}

-- ==== A word cut at the borders of the R format, for the contracts inside the decoder.

-- the word that these parts make
abbrev pub word_of : WordFields → ℕ
word_of p = r_format p.funct7 p.rs2 p.rs1 p.funct3 p.rd p.opcode

-- each part is one that its bits can hold
pub record Fits (p : WordFields) : Type 0 where
  pub opcode : p.opcode < 128
  pub rd : p.rd < 32
  pub funct3 : p.funct3 < 8
  pub rs1 : p.rs1 < 32
  pub rs2 : p.rs2 < 32
  pub funct7 : p.funct7 < 128

-- the word spells no instruction
abbrev pub SpellsNone : ℕ → Type 0
SpellsNone word = (i : Instr) → IsWordOf word i → ⊥

-- an opcode and a funct3 are those of a load or a store
abbrev pub is_access : ℕ → ℕ → Bool
is_access opcode funct3 =
    ((opcode == 0b0000011) || (opcode == 0b0100011))
    && (nat_lt funct3 (if opcode == 0b0100011 then 3 else 6) && not (funct3 == 3))
