-- A law of the spelling.
use Rattle.std.specs.Prelude.{◌≡◌, ℕ, List, ◌++◌, Some}
use Rattle.x86_instr.specs.declared.instr.Instr.{Instr}
use Rattle.x86_instr.specs.Spelling.{spelling}
use Rattle.x86_instr.specs.Decoding.{decode}

-- what spells an instruction decodes to it, whatever follows
abbrev pub SpellingDecodes : Type 0
SpellingDecodes =
    (i : Instr) (rest : List ℕ) → decode (spelling i ++ rest) ≡ Some (record { instr = i; rest = rest })
