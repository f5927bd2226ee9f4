-- Words that private contracts and proofs alone cite: no public statement rests on them.
use Rattle.std.specs.Prelude.{◌≡◌, ℕ}
use Rattle.rv_word.specs.declared.instr.Instr.{Instr}
use Rattle.rv_mem.specs.Bytes.{Bytes}
use Rattle.rv_step.specs.declared.outcome.Outcome.{Outcome}
use Rattle.rv_step.specs.State.{Hart, with_pc}
use Rattle.rv_step.specs.Step.{effect}
use Rattle.rv_step.specs.Apart.{stepped_at}

-- wherever the instruction stands, what it does is what a step comes to
abbrev pub IsEffectApart : Instr → Hart → Bytes → Outcome → Hart → Bytes → Type 0
IsEffectApart i h m o k w =
    (pc n : ℕ)
    → stepped_at pc n (record { outcome = o; state = record { hart = k; memory = w } })
    ≡ effect i n (with_pc h pc) m
