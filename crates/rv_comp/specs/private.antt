-- Words that private contracts and proofs alone cite: no public statement rests on them.
use Rattle.std.specs.Prelude.{◌≡◌, ℕ}
use Rattle.rv_word.specs.declared.instr.Instr.{Instr}
use Rattle.rv_comp.specs.declared.front.Front.{Front}
use Rattle.rv_comp.specs.declared.front.Front.TheVariants.{Read, Short, Bad}

-- ==== What the bytes of one spelling are.

-- what the n bytes of a halfword or a word alone spell
abbrev pub IsOnlyFront : (Instr → Type 0) → ℕ → Front → Type 0
IsOnlyFront spell n (Read i m) = (m ≡ n) × spell i
IsOnlyFront spell n Short = ⊥
IsOnlyFront spell n Bad = (i : Instr) → spell i → ⊥
