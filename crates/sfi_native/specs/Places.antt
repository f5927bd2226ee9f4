-- Where the code of lines stands: each line's behind the one before, from the first line on.
use Rattle.std.specs.Prelude.{◌≡◌, ℕ, ◌+◌, ◌-◌, ◌%◌, ◌^◌, List, [], ◌∷◌, ◌++◌, length, Option, Some, None}
use Rattle.rv_word.specs.declared.instr.Instr.{Instr}
use Rattle.rv_word.specs.declared.instr.Instr.TheVariants.{Load, Store, Branch, Jal, Jalr, Ecall, Ebreak}
use Rattle.rv_word.specs.Spelling.{offset_by}
use Rattle.rv_mem.specs.Bytes.{address_after}
use Rattle.rv_step.specs.Step.{word}
use Rattle.sfi_image.specs.Spelling.{Part}
use Rattle.sfi_translate.specs.Lines.{Line, Head, Does}
use Rattle.sfi_translate.specs.Machine.{ControlPoint, Before, Lost, Going, label}
use Rattle.x86_instr.specs.declared.instr.NopSize.{NopSize}
use Rattle.x86_instr.specs.declared.instr.Instr.{Instr as Native}
use Rattle.x86_instr.specs.declared.instr.Instr.TheVariants.{Nop}
use Rattle.x86_step.specs.State.{Machine}
use Rattle.x86_step.specs.Running.{spellings}
use Rattle.sfi_native.specs.declared.plan.Plan.{Plan}
use Rattle.sfi_native.specs.declared.jump.Jump.{Jump}
use Rattle.sfi_native.specs.Following.{address_of}
use Rattle.sfi_native.specs.Layout.{owing}
use Rattle.sfi_native.specs.Registers.{nop, owed}
use Rattle.sfi_native.specs.Code.{branch_line, computing_line, end_code, end_size, head_line, indirect_jump_size, jal_line, jalr_line, leave_line, load_line, store_line}

-- a jump between two addresses
abbrev pub jump_of : Plan → (ℕ → ℕ) → ℕ → ℕ → ℕ → Jump
jump_of plan distance out at to = record { from = at; to = to; label = distance to; exit = out; label_owed = owed plan to }

-- how many steps are owed behind the instruction of n bytes at that address
abbrev pub owed_behind : Plan → ℕ → ℕ → ℕ
owed_behind plan at n = owed plan (address_after at n)

-- how far the indirect jump is, which stands before the way out
abbrev pub shared_jump : ℕ → ℕ
shared_jump out = (out + (2 ^ 32 - indirect_jump_size)) % 2 ^ 32

-- The instruction of n bytes at that address: `distance` tells how far labels are from the line's end, `out` how far the
-- way out is.
abbrev pub instruction_code : Plan → (ℕ → ℕ) → ℕ → ℕ → ℕ → Instr → List Native
instruction_code plan distance out at n (Branch cond rs1 rs2 offset) =
    branch_line plan (owed plan at) (owed_behind plan at n) cond rs1 rs2 (jump_of plan distance out at (offset_by at offset))
instruction_code plan distance out at n (Jal rd offset) =
    jal_line plan (owed plan at) rd (address_after at n) (jump_of plan distance out at (offset_by at offset))
instruction_code plan distance out at n (Load kind rd rs1 imm) = load_line plan (owed plan at) (owed_behind plan at n) kind rd rs1 (word imm)
instruction_code plan distance out at n (Store width rs1 rs2 imm) = store_line plan (owed plan at) (owed_behind plan at n) width rs1 rs2 (word imm)
instruction_code plan distance out at n (Jalr rd rs1 imm) = jalr_line plan (owed plan at) rd rs1 (word imm) (address_after at n) (shared_jump out)
instruction_code plan distance out at n Ecall = leave_line at (owed plan at) out
instruction_code plan distance out at n Ebreak = leave_line at (owed plan at) out
instruction_code plan distance out at n i = computing_line plan at (owed plan at) (owed_behind plan at n) i

-- the code of a line without padding
abbrev pub bare_code : Plan → (ℕ → ℕ) → ℕ → Line → List Native
bare_code plan distance out (Does at n i) = instruction_code plan distance out at n i
bare_code plan distance out (Head at) = head_line at (owed plan at) out
bare_code plan distance out line = []

-- a nop, if one stands there
abbrev pub nop_code : Option NopSize → List Native
nop_code None = []
nop_code (Some size) = Nop size ∷ []

-- what stands before it
abbrev pub padding : Plan → Line → List Native
padding plan (Does at n i) = nop_code (nop plan at)
padding plan line = []

-- the code of a line
abbrev pub line_code : Plan → (ℕ → ℕ) → ℕ → Line → List Native
line_code plan distance out line = padding plan line ++ bare_code plan distance out line

-- how many bytes a line has, whatever its distances are
abbrev pub size_of : Plan → Line → ℕ
size_of plan line = length (spellings (line_code plan (λ to. 0) 0 line))

abbrev pub size_of_all : Plan → List Line → ℕ
size_of_all plan [] = 0
size_of_all plan (line ∷ lines) = size_of plan line + size_of_all plan lines

-- where the last lines of the code begin
abbrev pub start : Plan → List Line → List Line → ℕ
start plan code rest = size_of_all plan code - size_of_all plan rest

abbrev pub start_or_end : Plan → List Line → Option (List Line) → ℕ
start_or_end plan code (Some rest) = start plan code rest
start_or_end plan code None = size_of_all plan code

-- from a place to another, in 32 bits
abbrev pub distance : ℕ → ℕ → ℕ
distance from to = (to + (2 ^ 32 - from)) % 2 ^ 32

-- from where the rest begins to the label of an address
abbrev pub distances : Plan → List Line → List Line → ℕ → ℕ
distances plan code rest to = distance (start plan code rest) (start_or_end plan code (label to code))

-- The way out is behind the end's code.
abbrev pub exit_of : Plan → List Line → ℕ
exit_of plan code = size_of_all plan code + end_size

-- to it
abbrev pub distance_out : Plan → List Line → List Line → ℕ
distance_out plan code rest = distance (start plan code rest) (exit_of plan code)

-- the code of the line before the rest, without padding
abbrev pub placed_bare : Plan → List Line → List Line → Line → List Native
placed_bare plan code rest line = bare_code plan (distances plan code rest) (distance_out plan code rest) line

-- and with it
abbrev pub placed : Plan → List Line → List Line → Line → List Native
placed plan code rest line = line_code plan (distances plan code rest) (distance_out plan code rest) line

-- the code of these last lines of all the code
abbrev pub code_of : Plan → List Line → List Line → List Native
code_of plan code [] = []
code_of plan code (line ∷ rest) = placed plan code rest line ++ code_of plan code rest

-- the code of all lines, and of that end
abbrev pub whole_code : Plan → ℕ → List Line → List Native
whole_code plan end code = code_of plan code code ++ end_code end (owed plan end)

-- the address behind a sandbox's code
abbrev pub end_address : Part → ℕ
end_address p = (p.code_base + length p.code) % 2 ^ 32

-- how many steps are owed before these last lines of the code
abbrev pub owed_before : Plan → Part → List Line → ℕ
owed_before plan p [] = owed plan (end_address p)
owed_before plan p (line ∷ rest) = owed plan (address_of line)

-- how many are owed there: outside of code none
abbrev pub owed_there : Plan → Part → ControlPoint → ℕ
owed_there plan p (Before rest) = owed_before plan p rest
owed_there plan p place = 0

-- the turn, its steps left with those owed there, as r14 has them
abbrev pub with_owed : Plan → Part → Going → Going
with_owed plan p g = owing (owed_there plan p g.place) g

-- these are the last lines of the code
pub record AreLast (code rest : List Line) : Type 0 where
  pub front : List Line
  pub is : code ≡ front ++ rest

-- where a processor is: at the lines of the turn, which are last ones of the code, or out, with the pc in edx (2)
abbrev pub IsAtPlace : Plan → ℕ → List Line → ControlPoint → ℕ → Machine → Type 0
IsAtPlace plan base code (Before rest) pc m = (m.rip ≡ base + start plan code rest) × AreLast code rest
IsAtPlace plan base code Lost pc m = ⊥
IsAtPlace plan base code place pc m = (m.rip ≡ base + exit_of plan code) × (m.core.registers 2 ≡ pc)

-- a processor is where the turn is, or out where it is over
abbrev pub IsAt : Plan → ℕ → List Line → Going → Machine → Type 0
IsAt plan base code g m = IsAtPlace plan base code g.place g.state.hart.pc m
