-- Where the code of lines accesses the data, and where the host goes on where that faults.
use Rattle.std.specs.Prelude.{◌≡◌, ℕ, ◌+◌, ◌==◌, ◌<◌, ◌≤◌, List, [], ◌∷◌, ◌++◌, length, Option, Some, None, if◌then◌else◌}
use Rattle.rv_word.specs.declared.instr.Instr.{Instr}
use Rattle.rv_word.specs.declared.instr.Instr.TheVariants.{Load, Store}
use Rattle.sfi_translate.specs.Lines.{Line, Does}
use Rattle.x86_instr.specs.declared.operand.Register.TheVariants.{Rax, Rcx}
use Rattle.x86_instr.specs.declared.instr.Instr.{Instr as Native}
use Rattle.x86_step.specs.Running.{spellings}
use Rattle.x86_step.specs.State.{Fixup, Text}
use Rattle.sfi_native.specs.declared.plan.Plan.{Plan}
use Rattle.sfi_native.specs.declared.faults.Access.{Access}
use Rattle.sfi_native.specs.Code.{read}
use Rattle.sfi_native.specs.Registers.{assigned, nop, owed}
use Rattle.sfi_native.specs.Places.{exit_of, nop_code, start}

-- what stands before the one instruction of a line that accesses the data
abbrev pub front_of : Plan → Instr → List Native
front_of plan (Load kind rd rs1 imm) = read (assigned plan rs1) Rax rs1
front_of plan (Store width rs1 rs2 imm) = read (assigned plan rs1) Rax rs1 ++ read (assigned plan rs2) Rcx rs2
front_of plan i = []

-- the access of an instruction at an address, behind its nop and its front, with what is owed there
abbrev pub access_at : Plan → ℕ → Instr → Access
access_at plan at i = record { offset = length (spellings (nop_code (nop plan at) ++ front_of plan i)); pc = at; owed = owed plan at }

-- a line's access, if it has one, by how far behind the line's start it is
abbrev pub access_in : Plan → Line → Option Access
access_in plan (Does at n (Load kind rd rs1 imm)) = Some (access_at plan at (Load kind rd rs1 imm))
access_in plan (Does at n (Store width rs1 rs2 imm)) = Some (access_at plan at (Store width rs1 rs2 imm))
access_in plan line = None

-- the access of a line that starts there, before others
abbrev pub with_access : ℕ → Option Access → List Access → List Access
with_access from None others = others
with_access from (Some a) others = record { offset = from + a.offset; pc = a.pc; owed = a.owed } ∷ others

-- The table of a code: the accesses of its last lines, by how far behind the code's start they are.
abbrev pub accesses_of : Plan → List Line → List Line → List Access
accesses_of plan code [] = []
accesses_of plan code (line ∷ rest) = with_access (start plan code (line ∷ rest)) (access_in plan line) (accesses_of plan code rest)

-- what a handler makes of a fault of that access: it goes out, with the line's address in rdx, and owes nothing
abbrev pub fixup_of : ℕ → Access → Fixup
fixup_of out a = record { to = out; rdx = a.pc; subtracted = a.owed }

-- what it makes of a fault at an address, where the code is at `base`
abbrev pub fixup_by : List Access → ℕ → ℕ → ℕ → Option Fixup
fixup_by [] base exit at = None
fixup_by (a ∷ others) base exit at =
    if base + a.offset == at then Some (fixup_of (base + exit) a) else fixup_by others base exit at

-- The host has the fixups of the code's table.
abbrev pub HasFixups : Plan → Text → ℕ → List Line → Type 0
HasFixups plan t base code =
    (at : ℕ) → base ≤ at → at < base + exit_of plan code → t.fixups at ≡ fixup_by (accesses_of plan code code) base (exit_of plan code) at
