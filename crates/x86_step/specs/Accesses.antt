-- An instruction accesses no other addresses than its definition says, and code on its way out only such as it needs.
use Rattle.std.specs.Prelude.{◌≡◌, ◌⊎◌, ℕ, ◌+◌, length, Option, None, Result, Ok, Err}
use Rattle.x86_instr.specs.declared.instr.Instr.{Instr}
use Rattle.x86_step.specs.declared.machine.Stop.{Stop}
use Rattle.x86_step.specs.State.{Core, IsIn, Machine, Text, with_memory}
use Rattle.x86_step.specs.Step.{LiesIn, Reaches, accessed, effect, next_access}

-- two memories have the same bytes at these addresses, or both none
abbrev pub Agree : (ℕ → Type 0) → (ℕ → Option ℕ) → (ℕ → Option ℕ) → Type 0
Agree there m k = (a : ℕ) → there a → k a ≡ m a

-- From two machines came the same, but for memory at other addresses, which stayed as it was in each.
pub record AreSame (there : ℕ → Type 0) (m k : Core) (n o : Machine) : Type 0 where
  pub rip : o.rip ≡ n.rip
  pub registers : o.core.registers ≡ n.core.registers
  pub flags : o.core.flags ≡ n.core.flags
  pub memory : Agree there n.core.memory o.core.memory
  pub first_stays : (a : ℕ) → (there a → ⊥) → n.core.memory a ≡ m.memory a
  pub second_stays : (a : ℕ) → (there a → ⊥) → o.core.memory a ≡ k.memory a

-- both are done, or stop alike
abbrev pub ComeToTheSame : (ℕ → Type 0) → Core → Core → Result Machine Stop → Result Machine Stop → Type 0
ComeToTheSame there m k (Ok n) (Ok o) = AreSame there m k n o
ComeToTheSame there m k (Err s) (Err e) = e ≡ s
ComeToTheSame there m k _ _ = ⊥

-- An instruction reads and writes at no other addresses than those of its access.
abbrev pub AccessesAreAll : Type 1
AccessesAreAll =
    (there : ℕ → Type 0) (i : Instr) (after : ℕ) (c : Core) (memory : ℕ → Option ℕ)
    → LiesIn there (accessed i c) → Agree there c.memory memory
    → ComeToTheSame there c (with_memory c memory) (effect i after c) (effect i after (with_memory c memory))

-- Wherever steps lead from there, what the next instruction accesses lies at these addresses.
abbrev pub AccessesLieIn : (ℕ → Type 0) → Text → Machine → Type 0
AccessesLieIn there t m = (most : ℕ) (k : Machine) → Reaches t most m k → LiesIn there (next_access t k)

-- a memory has bytes at no other addresses
abbrev pub HasNoOthers : (ℕ → Type 0) → (ℕ → Option ℕ) → Type 0
HasNoOthers there memory = (a : ℕ) → there a ⊎ (memory a ≡ None)

-- Code that comes out at the end of its text where memory has bytes at some addresses alone accesses no others, whatever bytes are
-- there. Those where faults are handled are among them.
abbrev pub WaysOutAccessNoOthers : Type 1
WaysOutAccessNoOthers =
    (there : ℕ → Type 0) (t : Text) (most : ℕ) (m out : Machine) (memory : ℕ → Option ℕ)
    → Reaches t most m out → out.rip ≡ t.base + length t.bytes
    → HasNoOthers there m.core.memory → ((a : ℕ) → IsIn t.handled a → there a) → Agree there m.core.memory memory
    → AccessesLieIn there t (record { rip = m.rip; core = with_memory m.core memory })
