-- What holds of every step.
use Rattle.std.specs.Prelude.{◌≡◌, ℕ, ◌+◌, true, List, length, Some, Ok, Err}
use Rattle.x86_instr.specs.declared.instr.Instr.{Instr}
use Rattle.x86_instr.specs.Spelling.{spelling}
use Rattle.x86_step.specs.declared.machine.Stop.TheVariants.{Fault}
use Rattle.x86_step.specs.State.{Core, Fixup, IsFixed, Machine, Text}
use Rattle.x86_step.specs.Step.{IsHandled, Reaches, accessed, effect, next_access, resumed, step}
use Rattle.x86_step.specs.Running.{HasAt, are_straight, exec, spellings}

-- code that is fixed stays so
abbrev pub FixedStays : Type 0
FixedStays = (t : Text) (most : ℕ) (m k : Machine) → Reaches t most m k → IsFixed t k.core

-- steps, and steps from there
abbrev pub StepsJoin : Type 0
StepsJoin = (t : Text) (first more : ℕ) (m n k : Machine) → Reaches t first m n → Reaches t more n k → Reaches t (first + more) m k

-- at the bytes that spell an instruction, the step does what it does
abbrev pub SpelledSteps : Type 0
SpelledSteps =
    (t : Text) (at : ℕ) (i : Instr) (c : Core) → HasAt t at (spelling i)
    → step t (record { rip = at; core = c }) ≡ effect i (at + length (spelling i)) c

-- and accesses what it does
abbrev pub SpelledAccesses : Type 0
SpelledAccesses =
    (t : Text) (at : ℕ) (i : Instr) (c : Core) → HasAt t at (spelling i) → next_access t (record { rip = at; core = c }) ≡ accessed i c

-- where that faults, it goes on by the fixup, if the host has one there, and handles faults of that access
abbrev pub FaultsResume : Type 0
FaultsResume =
    (t : Text) (at : ℕ) (i : Instr) (c : Core) (f : Fixup) → IsFixed t c → HasAt t at (spelling i)
    → effect i (at + length (spelling i)) c ≡ Err Fault → t.fixups at ≡ Some f → IsHandled t.handled (accessed i c)
    → Reaches t 1 (record { rip = at; core = c }) (resumed f c)

-- the bytes that spell straight instructions run as these do, one after another up to their end
abbrev pub SpelledRun : Type 0
SpelledRun =
    (t : Text) (at : ℕ) (is : List Instr) (c d : Core) → IsFixed t c → are_straight is ≡ true
    → HasAt t at (spellings is) → exec is c ≡ Ok d
    → Reaches t (length is) (record { rip = at; core = c }) (record { rip = at + length (spellings is); core = d })
