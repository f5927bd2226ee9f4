-- What the lines of a sandbox's translation do, by who reads them.
use Rattle.std.specs.Prelude.{◌≡◌, ℕ, zero, suc, ◌+◌, ◌-◌, ◌/◌, ◌%◌, ◌^◌, ◌<◌, ◌==◌, nat_le, nat_lt, ◌||◌, ◌&&◌, not, Bool, true, false, List, [], ◌∷◌, Option, Some, None, length, slice_set, if◌then◌else◌}
use Rattle.rv_word.specs.declared.instr.Instr.{Instr}
use Rattle.rv_word.specs.declared.instr.Instr.TheVariants.{Load, Store, Branch, Jal, Jalr, Ecall, Ebreak}
use Rattle.rv_word.specs.Spelling.{offset_by}
use Rattle.rv_step.specs.declared.outcome.Outcome.{Outcome}
use Rattle.rv_step.specs.declared.outcome.Outcome.TheVariants.{Next, Call, Trap}
use Rattle.rv_step.specs.declared.outcome.Cause.TheVariants as cause
use Rattle.rv_step.specs.State.{Hart, State, register, with_pc, even_of}
use Rattle.rv_step.specs.Step.{Stepped, effect, unchanged, load_size, store_size, is_taken}
use Rattle.sfi_formats.specs.Formats.{unit, data_base_register, has_single_mask}
use Rattle.sfi_image.specs.Parts.{data_mask_of}
use Rattle.sfi_image.specs.Spelling.{Part, data_region}
use Rattle.sfi_translate.specs.Lines.{Line, Function, End, Entry, Head, Does, is_far, head_bytes}

-- ---- who reads the lines

-- C (include/sfi_native.h), whose functions end and are entered where the text says; or assembly, of which
-- `sfi_native` is the machine code, in which all code of a sandbox is one function, entered at each unit
pub data Target : Type 0 where
  C : Target
  Assembly : Target

-- a jump leaves its function
abbrev pub leaves : Target → ℕ → ℕ → Bool
leaves C at to = is_far at to
leaves Assembly at to = false

-- ---- where a turn is

-- before the first of these lines, which are the rest of the code's; before a step of `sfi_step`; in the
-- loop of `sfi_turn`, where it has ended if no step is left; ended by a call or a trap; or at a label or a
-- row that no line has: such a text is no program, or SFI_FETCH ends the turn
pub data ControlPoint : Type 0 where
  Before : List Line → ControlPoint
  Slow : ControlPoint
  Loop : ControlPoint
  Stopped : Outcome → ControlPoint
  Lost : ControlPoint

-- a turn that is there, its sandbox's state (before a line C keeps the pc as the line alone), and the
-- steps left
pub record Going : Type 0 where
  pub place : ControlPoint
  pub state : State
  pub left : ℕ

-- the same turn, elsewhere
abbrev pub goes : Going → ControlPoint → Going
goes g place = record { place = place; state = g.state; left = g.left }

-- the same turn, elsewhere, with its pc at that address
abbrev pub goes_with : Going → ControlPoint → ℕ → Going
goes_with g place pc = record {
  place = place;
  state = record { hart = with_pc g.state.hart pc; memory = g.state.memory };
  left = g.left;
}

-- the fewest steps left with which a head lets a turn go on: one for each line up to the next head, and
-- one for a slow step there
abbrev pub most : ℕ
most = head_bytes / 2 + 1

-- the steps left as the code counts them: that of assembly keeps bit 31 apart
abbrev pub counted : Target → ℕ → ℕ
counted C left = left
counted Assembly left = left % 2 ^ 31

-- too few are left for a head
abbrev pub is_short : Target → ℕ → Bool
is_short t left = nat_lt (counted t left) most

-- one step less, in 32 bits
abbrev pub one_less : ℕ → ℕ
one_less left = (left + (2 ^ 32 - 1)) % 2 ^ 32

-- ---- where it goes on

-- the lines from the label of that address on
abbrev pub label : ℕ → List Line → Option (List Line)
label to [] = None
label to (Does at n i ∷ lines) = if at == to then Some (Does at n i ∷ lines) else label to lines
label to (line ∷ lines) = label to lines

-- the lines from the entry of that address on
abbrev pub entry : ℕ → List Line → Option (List Line)
entry to [] = None
entry to (Entry at ∷ lines) = if at == to then Some lines else entry to lines
entry to (line ∷ lines) = entry to lines

-- before these lines, or there, if there are none
abbrev pub before_or : ControlPoint → Option (List Line) → ControlPoint
before_or other None = other
before_or other (Some lines) = Before lines

-- there, if the test of a head lets it
abbrev pub at_head : Target → ℕ → ControlPoint → ControlPoint
at_head t left place = if is_short t left then Slow else place

-- by a jump: into another function through the loop; backwards, or past a head, with its test
abbrev pub jumps : Target → List Line → ℕ → ℕ → ℕ → ControlPoint
jumps t code at to left =
    if leaves t at to then Loop
    else if nat_le to at || not ((at / head_bytes) == (to / head_bytes))
    then at_head t left (before_or Lost (label to code))
    else before_or Lost (label to code)

-- where a unit is entered
abbrev pub entered : Target → List Line → ℕ → Option (List Line)
entered C code to = entry to code
entered Assembly code to = label to code

-- to an address that no line names, from the function that `at` belongs to
abbrev pub enters : Target → Part → List Line → ℕ → ℕ → ControlPoint
enters t p code at to =
    if not (to % unit p.format == 0) then Slow
    else if leaves t at to then Loop
    else before_or Slow (entered t code to)

-- after the line of that instruction, which a hart has done from its pc on, and these lines follow
abbrev pub after_line : Target → Part → List Line → Instr → Hart → List Line → ℕ → ControlPoint
after_line t p code (Branch cond rs1 rs2 offset) h rest left =
    if is_taken cond (register h rs1) (register h rs2)
    then jumps t code h.pc (offset_by h.pc offset) left else Before rest
after_line t p code (Jal rd offset) h rest left = jumps t code h.pc (offset_by h.pc offset) left
after_line t p code (Jalr rd rs1 imm) h rest left =
    at_head t left (enters t p code h.pc (even_of (offset_by (register h rs1) imm)))
after_line t p code i h rest left = Before rest

-- from the loop, which tests all that is left; assembly then tests what it counts, and C nothing, where
-- `at_head` adds nothing
abbrev pub from_loop : Target → Part → List Line → ℕ → ℕ → ControlPoint
from_loop t p code pc left =
    if nat_le most left && (nat_le p.code_base pc && nat_lt pc (p.code_base + length p.code))
    then at_head t left (enters t p code pc pc) else Slow

-- ---- what is done

-- an access of `size` bytes at the address lies in the data
abbrev pub is_tested : Part → ℕ → ℕ → Bool
is_tested p at size = nat_le ((at + (2 ^ 32 - p.data_base)) % 2 ^ 32) (p.data_size - size)

-- a line does its instruction, and doesn't leave it to a slow step
abbrev pub is_done : Part → Instr → Hart → Bool
is_done p (Load kind rd rs1 imm) h = is_tested p (offset_by (register h rs1) imm) (load_size kind)
is_done p (Store width rs1 rs2 imm) h = is_tested p (offset_by (register h rs1) imm) (store_size width)
is_done p Ecall h = false
is_done p Ebreak h = false
is_done p i h = true

-- x26 has the data base, unless it is a data register
abbrev pub with_data_base : Part → List ℕ → List ℕ
with_data_base p registers =
    if has_single_mask p.format then registers else slice_set registers data_base_register p.data_base

-- x0 and the reserved registers have one value for lines, whatever is written there
abbrev pub fixed : Part → Hart → Hart
fixed p h = record {
  pc = h.pc;
  registers =
      slice_set (with_data_base p (slice_set (slice_set (slice_set h.registers 0 0)
      24 p.code_base) 25 (length p.code - unit p.format))) 27 (data_mask_of p.format (data_region p));
}

-- the line of that instruction, of n bytes, at that address, before these lines
abbrev pub line_done : Target → Part → List Line → ℕ → ℕ → Instr → List Line → Going → Going
line_done t p code at n i rest g =
    let h = with_pc (fixed p g.state.hart) at in
    let after = (effect i n h g.state.memory).state in
    if is_done p i h then (record {
      place = after_line t p code i h rest (one_less g.left);
      state = record { hart = fixed p after.hart; memory = after.memory };
      left = one_less g.left;
    }) else goes_with g Slow at

-- From before these lines. Where there are none the last function ends: assembly goes from there to a slow
-- step, and so does the loop, since that pc is never in the code.
abbrev pub line_step : Target → Part → List Line → List Line → Going → Going
line_step t p code [] g = goes_with g Loop ((p.code_base + length p.code) % 2 ^ 32)
line_step t p code (Function sandbox at ∷ rest) g = goes g (Before rest)
line_step C p code (End at ∷ rest) g = goes_with g Loop at
line_step Assembly p code (End at ∷ rest) g = goes g (Before rest)
line_step t p code (Entry at ∷ rest) g = goes g (Before rest)
line_step t p code (Head at ∷ rest) g =
    if is_short t g.left then goes_with g Slow at else goes g (Before rest)
line_step t p code (Does at n i ∷ rest) g = line_done t p code at n i rest g

-- what the row of an instruction in `sfi_step` does: an access that doesn't pass its test traps
abbrev pub row_step : Part → Instr → ℕ → State → Stepped
row_step p (Load kind rd rs1 imm) n s =
    let at = offset_by (register s.hart rs1) imm in
    if is_tested p at (load_size kind) then effect (Load kind rd rs1 imm) n s.hart s.memory
    else unchanged (Trap cause.Load at) s.hart s.memory
row_step p (Store width rs1 rs2 imm) n s =
    let at = offset_by (register s.hart rs1) imm in
    if is_tested p at (store_size width) then effect (Store width rs1 rs2 imm) n s.hart s.memory
    else unchanged (Trap cause.Store at) s.hart s.memory
row_step p i n s = effect i n s.hart s.memory

-- a slow step that came to this
abbrev pub step_done : Outcome → State → ℕ → Going
step_done Next s left = record { place = Loop; state = s; left = one_less left }
step_done Call s left = record { place = Stopped Call; state = s; left = left }
step_done (Trap cause at) s left =
    record { place = Stopped (Trap cause at); state = s; left = left }

-- a slow step at the first of these lines
abbrev pub slow_step : Part → Option (List Line) → Going → Going
slow_step p (Some (Does at n i ∷ rest)) g =
    let r = row_step p i n g.state in step_done r.outcome r.state g.left
slow_step p lines g = goes g Lost

-- ---- a step of translated code

-- What may follow at that place. Within the code, and before a slow step, nothing does where no step is
-- counted: TurnsGoOn says that one always is, so that no count goes below 0, or takes from bit 31.
abbrev pub IsTranslatedStepAt : ControlPoint → Target → Part → List Line → Going → Going → Type 0
IsTranslatedStepAt (Before lines) t p code g k =
    (0 < counted t g.left) × (k ≡ line_step t p code lines g)
IsTranslatedStepAt Slow t p code g k =
    (0 < g.left) × (k ≡ slow_step p (label g.state.hart.pc code) g)
IsTranslatedStepAt Loop t p code g k =
    (0 < g.left) × (k ≡ goes g (from_loop t p code g.state.hart.pc g.left))
IsTranslatedStepAt (Stopped o) t p code g k = ⊥
IsTranslatedStepAt Lost t p code g k = ⊥

-- one such step, by these lines
abbrev pub IsTranslatedStep : Target → Part → List Line → Going → Going → Type 0
IsTranslatedStep t p code g k = IsTranslatedStepAt g.place t p code g k

-- some such steps, one after another
abbrev pub AreTranslatedSteps : Target → Part → List Line → ℕ → Going → Going → Type 0
AreTranslatedSteps t p code zero g k = k ≡ g
AreTranslatedSteps t p code (suc n) g k =
    (between : Going) × IsTranslatedStep t p code g between × AreTranslatedSteps t p code n between k
