-- What holds of every step.
use Rattle.std.specs.Prelude.{◌≡◌, ◌≢◌, ◌↔◌, ℕ, ◌<◌, Some, IsSome, [], ◌∷◌, bit_and, bit_or}
use Rattle.rv_word.specs.declared.instr.Instr.{Instr}
use Rattle.rv_word.specs.declared.instr.RegOp.TheVariants.{And, Or}
use Rattle.rv_word.specs.declared.instr.Instr.TheVariants.{Op, Ecall}
use Rattle.rv_word.specs.Outlines.{written}
use Rattle.rv_comp.specs.declared.front.Front.{Front}
use Rattle.rv_comp.specs.Fronts.{IsFront}
use Rattle.rv_mem.specs.Bytes.{byte_at, address_after}
use Rattle.rv_step.specs.declared.outcome.Outcome.TheVariants.{Next, Call}
use Rattle.rv_step.specs.Step.{Accesses, Stepped, Stands, effect, bytes_at_pc, IsAtPc, IsStep}
use Rattle.rv_step.specs.Rows.{StandInRow, LeadTo}
use Rattle.rv_step.specs.State.{State, IsState, register, with_register, past}

-- one instruction at most stands at pc
abbrev pub OneInstruction : Type 0
OneInstruction =
    (s : State) (i j : Instr) (m n : ℕ) → Stands s i m → Stands s j n → (i ≡ j) × (m ≡ n)

-- what is at pc is the front of the bytes from pc on
abbrev pub AtPcIsFront : Type 0
AtPcIsFront = (s : State) (front : Front) → (IsAtPc s front ↔ IsFront (bytes_at_pc s) front)

-- from a state a step comes to one thing at most
abbrev pub OneStep : Type 0
OneStep = (s : State) (r q : Stepped) → IsStep s r → IsStep s q → r ≡ q

-- from each state a step comes to something
abbrev pub SomeStep : Type 0
SomeStep = (s : State) → (r : Stepped) × IsStep s r

-- a step does what the instruction at pc does
abbrev pub StepIsEffect : Type 0
StepIsEffect =
    (s : State) (i : Instr) (n : ℕ) (r : Stepped) → Stands s i n → IsStep s r
    → r ≡ effect i n s.hart s.memory

-- a step leads from a state to a state
abbrev pub StepKeepsState : Type 0
StepKeepsState = (s : State) (r : Stepped) → IsState s → IsStep s r → IsState r.state

-- a step that isn't done leaves the state as it was
abbrev pub StoppedStays : Type 0
StoppedStays = (s : State) (r : Stepped) → IsStep s r → r.outcome ≢ Next → r.state ≡ s

-- a step changes no byte that its instruction doesn't access
abbrev pub OtherBytesStay : Type 0
OtherBytesStay =
    (s : State) (i : Instr) (n : ℕ) (r : Stepped) (a : ℕ) → Stands s i n → IsStep s r
    → (Accesses i s.hart a → ⊥) → byte_at r.state.memory a ≡ byte_at s.memory a

-- a step changes no register but the one that its instruction writes
abbrev pub OtherRegistersStay : Type 0
OtherRegistersStay =
    (s : State) (i : Instr) (n : ℕ) (r : Stepped) (x : ℕ) → Stands s i n → IsStep s r
    → written i ≢ Some x → register r.state.hart x ≡ register s.hart x

-- a step that is done found every byte that its instruction accesses
abbrev pub AccessedIsThere : Type 0
AccessedIsThere =
    (s : State) (i : Instr) (n : ℕ) (r : Stepped) (a : ℕ) → Stands s i n → IsStep s r
    → r.outcome ≡ Next → Accesses i s.hart a → IsSome (byte_at s.memory a)

-- a step takes no byte away
abbrev pub NoByteGoes : Type 0
NoByteGoes = (s : State) (r : Stepped) (a : ℕ) → IsStep s r → IsSome (byte_at s.memory a)
    → IsSome (byte_at r.state.memory a)

-- a step that calls is at an ecall
abbrev pub CallsAreEcalls : Type 0
CallsAreEcalls =
    (s : State) (r : Stepped) → IsStep s r → r.outcome ≡ Call → (n : ℕ) × Stands s Ecall n

-- ---- two memories

-- the memories have the same at the address: one byte, or none
abbrev pub AgreeAt : State → State → ℕ → Type 0
AgreeAt s t a = byte_at t.memory a ≡ byte_at s.memory a

-- two states of one hart, whose memories agree at each byte of the instruction at pc,
-- and at each byte that it accesses
pub record AgreeHere (s t : State) (i : Instr) (n : ℕ) : Type 0 where
  pub stands : Stands s i n
  pub hart : t.hart ≡ s.hart
  pub instruction : (k : ℕ) → k < n → AgreeAt s t (address_after s.hart.pc k)
  pub access : (a : ℕ) → Accesses i s.hart a → AgreeAt s t a

-- that instruction stands at the pc of the second too
abbrev pub AgreeingStandsToo : Type 0
AgreeingStandsToo = (s t : State) (i : Instr) (n : ℕ) → AgreeHere s t i n → Stands t i n

-- The steps come to one outcome and one hart, and their memories still agree wherever they did. So
-- they wrote the same bytes.
pub record IsSameStep (s t : State) (r q : Stepped) : Type 0 where
  pub outcome : q.outcome ≡ r.outcome
  pub hart : q.state.hart ≡ r.state.hart
  pub bytes : (a : ℕ) → AgreeAt s t a → AgreeAt r.state q.state a

-- what a step does depends only on its hart,
-- and on the bytes of its instruction and of that one's access
abbrev pub AgreeingStepsAreSame : Type 0
AgreeingStepsAreSame =
    (s t : State) (i : Instr) (n : ℕ) (r q : Stepped) → AgreeHere s t i n → IsStep s r
    → IsStep t q → IsSameStep s t r q

-- ---- a pair

-- `and t, a, mask` and `or t, t, base` are done, wherever they stand, and leave in t the value of
-- a, masked, with the bits of base. No other register changes, nor does memory.
abbrev pub PairLeaves : Type 0
PairLeaves =
    (s : State) (t a mask base : ℕ) → IsState s → t ≢ 0 → base ≢ t
    → StandInRow s (Op And t a mask ∷ Op Or t t base ∷ [])
    → LeadTo 2 s (record {
      hart = with_register (past s.hart 8) t
          (bit_or (bit_and (register s.hart a) (register s.hart mask)) (register s.hart base));
      memory = s.memory;
    })
