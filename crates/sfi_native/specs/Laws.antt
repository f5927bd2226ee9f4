-- What holds of the code of lines.
use Rattle.std.specs.Prelude.{[], zero, suc, ◌&&◌, Bool, ◌≤◌, ℤ, pos, int_le, ◌+ℤ◌, if◌then◌else◌, ◌≡◌, ◌⊎◌, Option, Some, ℕ, ◌+◌, ◌*◌, ◌-◌, ◌^◌, ◌<◌, true, false, List, ◌∷◌, length}
use Rattle.rv_word.specs.declared.instr.Cond.{Cond}
use Rattle.rv_word.specs.declared.instr.Instr.{Instr}
use Rattle.rv_word.specs.declared.instr.Instr.TheVariants.{Branch, Jal, Jalr, Load, Store}
use Rattle.rv_word.specs.declared.instr.StoreWidth.{StoreWidth}
use Rattle.rv_word.specs.declared.instr.LoadKind.{LoadKind}
use Rattle.rv_word.specs.Spelling.{InRange, offset_by}
use Rattle.rv_mem.specs.Bytes.{IsMemory, IsThere, address_after}
use Rattle.rv_step.specs.State.{even_of}
use Rattle.rv_step.specs.Step.{is_taken, load_size, store_size, word}
use Rattle.sfi_image.specs.Parts.{HasGuardRoom}
use Rattle.sfi_image.specs.Spelling.{Part}
use Rattle.sfi_translate.specs.Lines.{Line, Does}
use Rattle.sfi_translate.specs.Machine.{Target, Assembly, ControlPoint, Before, Loop, Slow, Going, IsTranslatedStep, is_short, is_tested, label, line_step, one_less}
use Rattle.x86_step.specs.State.{Core, Fixup, IsFixed, Machine, Text}
use Rattle.x86_instr.specs.declared.instr.Instr.{Instr as Native}
use Rattle.x86_step.specs.Step.{Reaches, is_canonical, jumped}
use Rattle.x86_step.specs.Running.{HasAt, spellings}
use Rattle.sfi_native.specs.declared.plan.Plan.{Plan}
use Rattle.sfi_native.specs.declared.jump.Jump.{Jump}
use Rattle.sfi_native.specs.declared.layout.Layout.{Layout}
use Rattle.sfi_native.specs.Layout.{DoNotMeet, IsClosed, IsLayout, IsRelated, OthersStay, closed_above, closed_below, frame_size, owing, value, window}
use Rattle.sfi_native.specs.Code.{branch_line, computing_line, does_compute, has_test, indirect_jump, jal_line, jalr_line, load_line, store_line, leave_line_size}
use Rattle.sfi_native.specs.Faults.{HasFixups, front_of}
use Rattle.sfi_native.specs.Places.{AreLast, IsAt, code_of, end_address, exit_of, instruction_code, placed, start, whole_code, with_owed}
use Rattle.sfi_native.specs.Entries.{AreEntries, entry_of, owed_at_entry}
use Rattle.sfi_native.specs.Registers.{owed}
use Rattle.sfi_native.specs.Table.{HasTable, LieInCode, is_unit_start, table_size}

-- the most instructions that a line makes
abbrev pub line_most : ℕ
line_most = 19

-- and with the nop before it
abbrev pub placed_most : ℕ
placed_most = line_most + 1

-- From a state of the processor at an address, a line's code leads to another address, and to the turn's next state.
pub record LeadsTo (t : Text) (at to : ℕ) (p : Part) (l : Layout) (c : Core) (next : Going) : Type 0 where
  pub after : Core
  pub reached : Reaches t line_most (record { rip = at; core = c }) (record { rip = to; core = after })
  pub related : IsRelated p l next after
  pub others : OthersStay p l c after

-- where a line's bytes end
abbrev pub end_of : ℕ → List Native → ℕ
end_of at is = at + length (spellings is)

-- A text of the canonical addresses below 2^47, where processes have their code: no jump within it faults.
abbrev pub IsLow : Text → Type 0
IsLow t = t.base + length t.bytes < 2 ^ 47

-- The processor is before code that stands in a fixed text, and has the turn's state. Faults are handled in the window.
pub record IsBefore (is : List Native) (t : Text) (at : ℕ) (p : Part) (l : Layout) (g : Going) (c : Core) : Type 0 where
  pub layout : IsLayout p l
  pub text_is_fixed : IsFixed t c
  pub text_is_low : IsLow t
  pub faults_are_handled : t.handled ≡ window p l
  pub stands : HasAt t at (spellings is)
  pub related : IsRelated p l g c
  pub closed : IsClosed p l c

-- For each code, apart from frame and data, there is a processor that is before it, in a text that is nothing else, with any
-- fixups.
abbrev pub EachCodeCanBeRun : Type 0
EachCodeCanBeRun =
    (is : List Native) (fixups : ℕ → Option Fixup) (at : ℕ) (p : Part) (l : Layout) (g : Going) → IsLayout p l
    → length g.state.hart.registers ≡ 32 → ((r : ℕ) → value p g r < 2 ^ 32) → g.left < 2 ^ 32
    → end_of at is < 2 ^ 47 → DoNotMeet at (length (spellings is)) l.frame frame_size
    → DoNotMeet at (length (spellings is)) l.data_start p.data_size
    → (c : Core) × IsBefore is (record { base = at; bytes = spellings is; fixups = fixups; handled = window p l }) at p l g c

-- A processor that is before code can have each table of entries, anywhere apart from frame and window.
abbrev pub EachTableCanBeHeld : Type 0
EachTableCanBeHeld =
    (p : Part) (l : Layout) (base : ℕ) (code : List Line) (table : List ℕ) (at : ℕ) (is : List Native) (t : Text) (from : ℕ)
    (g : Going) (c : Core) → AreEntries l.plan p code table → exit_of l.plan code < 2 ^ 32 → base < 2 ^ 64 → at + table_size p ≤ 2 ^ 64
    → DoNotMeet at (table_size p) l.frame frame_size
    → DoNotMeet at (table_size p) (window p l).at (window p l).size
    → IsBefore is t from p l g c
    → (d : Core) × IsBefore is t from p l g d × (it : HasTable p l base code d) × (it.at ≡ at)

-- An access of n bytes lies in the data, around which guard zones have room.
pub record IsInData (p : Part) (at n : ℕ) : Type 0 where
  pub room : HasGuardRoom p.data_base p.data_size
  pub fits : n ≤ p.data_size
  pub tested : is_tested p at n ≡ true

-- An access of n bytes at an offset from a register's value stays in the window, without wrapping, and isn't wholly in the data.
pub record LeavesData (p : Part) (value : ℕ) (offset : ℤ) (n : ℕ) : Type 0 where
  pub room : HasGuardRoom p.data_base p.data_size
  pub fits : n ≤ p.data_size
  pub low : int_le (pos p.data_base) (pos value +ℤ offset +ℤ pos (closed_below p)) ≡ true
  pub high : int_le (pos value +ℤ offset +ℤ pos n) (pos (p.data_base + p.data_size + closed_above p)) ≡ true
  pub tested : is_tested p (offset_by value offset) n ≡ false

-- Some steps are left, fewer than 2^31, and few are owed before and behind a line.
pub record CountsBelow (g : Going) (owed next : ℕ) : Type 0 where
  pub some : 0 < g.left
  pub left : g.left < 2 ^ 31
  pub few : owed < 63
  pub few_behind : next < 63

-- Wherever the bytes of a computing line stand, they do what the line does, by which its step is counted, or owed.
abbrev pub ComputingLinesRun : Type 0
ComputingLinesRun =
    (target : Target) (p : Part) (code rest : List Line) (address size owed next : ℕ) (i : Instr) (l : Layout) (t : Text) (at : ℕ)
    (g : Going) (c : Core)
    → let line = computing_line l.plan address owed next i in
    does_compute i ≡ true → InRange i → CountsBelow g owed next → IsBefore line t at p l (owing owed g) c
    → LeadsTo t at (end_of at line) p l c (owing next (line_step target p code (Does address size i ∷ rest) g))

-- A tested jump goes out where too few steps are left.
abbrev pub is_slow : Jump → ℕ → Bool
is_slow j left = has_test j && is_short Assembly left

-- From that end of its line a jump goes out or to its label.
abbrev pub jump_place : ℕ → Jump → ℕ → ℕ
jump_place end j left = jumped end (if is_slow j left then j.exit else j.label)

-- and so many steps are owed there
abbrev pub jump_owed : Jump → ℕ → ℕ
jump_owed j left = if is_slow j left then 0 else j.label_owed

-- Where it may go is canonical, the label isn't too far ahead to be reached from before the way out, and few steps are owed there.
pub record IsJump (end : ℕ) (j : Jump) : Type 0 where
  pub few : j.label_owed < 63
  pub fits : j.label < 2 ^ 32
  pub near : (j.label + leave_line_size j.label_owed < 2 ^ 31) ⊎ (2 ^ 31 ≤ j.label)
  pub exit : is_canonical (jumped end j.exit) ≡ true
  pub label : is_canonical (jumped end j.label) ≡ true

-- A branch that is taken jumps, with its target in edx where it goes out; one that isn't goes to its end.
abbrev pub BranchLinesRun : Type 0
BranchLinesRun =
    (target : Target) (p : Part) (code rest : List Line) (address size owed next : ℕ) (cond : Cond) (rs1 rs2 : ℕ) (offset : ℤ) (j : Jump)
    (l : Layout) (t : Text) (at : ℕ) (g : Going) (c : Core)
    → let line = branch_line l.plan owed next cond rs1 rs2 j in
    let end = end_of at line in
    let left = one_less g.left in
    let taken = is_taken cond (value p g rs1) (value p g rs2) in
    InRange (Branch cond rs1 rs2 offset) → CountsBelow g owed next → IsJump end j → IsBefore line t at p l (owing owed g) c
    → (it : LeadsTo t at (if taken then jump_place end j left else end) p l c
    (owing (if taken then jump_owed j left else next) (line_step target p code (Does address size (Branch cond rs1 rs2 offset) ∷ rest) g)))
    × (taken ≡ true → is_slow j left ≡ true → it.after.registers 2 ≡ j.to)

-- a jal jumps so
abbrev pub JalLinesRun : Type 0
JalLinesRun =
    (target : Target) (p : Part) (code rest : List Line) (address size owed rd : ℕ) (offset : ℤ) (j : Jump) (l : Layout) (t : Text)
    (at : ℕ) (g : Going) (c : Core)
    → let line = jal_line l.plan owed rd (address_after address size) j in
    let left = one_less g.left in
    InRange (Jal rd offset) → CountsBelow g owed 0 → IsJump (end_of at line) j → IsBefore line t at p l (owing owed g) c
    → (it : LeadsTo t at (jump_place (end_of at line) j left) p l c
    (owing (jump_owed j left) (line_step target p code (Does address size (Jal rd offset) ∷ rest) g)))
    × (is_slow j left ≡ true → it.after.registers 2 ≡ j.to)

-- From the indirect jump, which ends there, a jalr goes to its target's entry, or out.
abbrev pub jalr_place : Plan → Part → List Line → ℕ → ℕ → ℕ → ℕ → ℕ → ℕ
jalr_place plan p code base end distance to left =
    if is_short Assembly left then jumped end distance
    else if is_unit_start p to then base + entry_of plan code (label to code)
    else jumped end distance

-- and so many steps are owed there
abbrev pub jalr_owed : Plan → Part → List Line → ℕ → ℕ → ℕ
jalr_owed plan p code to left =
    if is_short Assembly left then 0 else if is_unit_start p to then owed_at_entry plan p (label to code) else 0

-- Over the distance a jalr goes to the indirect jump, and jumps so, with its target in edx.
abbrev pub JalrLinesRun : Type 0
JalrLinesRun =
    (target : Target) (p : Part) (code rest : List Line) (address size owed rd rs1 : ℕ) (imm : ℤ) (distance base shared : ℕ)
    (l : Layout) (t : Text) (at : ℕ) (g : Going) (c : Core)
    → let line = jalr_line l.plan owed rd rs1 (word imm) (address_after address size) distance in
    let end = end_of shared (indirect_jump 0) in
    let to = even_of (offset_by (value p g rs1) imm) in
    let left = one_less g.left in
    InRange (Jalr rd rs1 imm) → CountsBelow g owed 0 → jumped (end_of at line) distance ≡ shared → is_canonical shared ≡ true
    → HasAt t shared (spellings (indirect_jump 0)) → is_canonical (jumped end 0) ≡ true → base + exit_of l.plan code < 2 ^ 47
    → LieInCode p code → HasTable p l base code c → IsBefore line t at p l (owing owed g) c
    → (it : LeadsTo t at (jalr_place l.plan p code base end 0 to left) p l c
    (owing (jalr_owed l.plan p code to left) (line_step target p code (Does address size (Jalr rd rs1 imm) ∷ rest) g)))
    × (it.after.registers 2 ≡ to)

-- a load from the data, of which each byte is there
abbrev pub LoadLinesRun : Type 0
LoadLinesRun =
    (target : Target) (p : Part) (code rest : List Line) (address size owed next : ℕ) (kind : LoadKind) (rd rs1 : ℕ) (imm : ℤ)
    (l : Layout) (t : Text) (at : ℕ) (g : Going) (c : Core)
    → let line = load_line l.plan owed next kind rd rs1 (word imm) in
    let from = offset_by (value p g rs1) imm in
    InRange (Load kind rd rs1 imm) → CountsBelow g owed next → IsInData p from (load_size kind) → IsMemory g.state.memory
    → IsThere g.state.memory from (load_size kind) → IsBefore line t at p l (owing owed g) c
    → LeadsTo t at (end_of at line) p l c (owing next (line_step target p code (Does address size (Load kind rd rs1 imm) ∷ rest) g))

-- a store to the data, of which each byte is there
abbrev pub StoreLinesRun : Type 0
StoreLinesRun =
    (target : Target) (p : Part) (code rest : List Line) (address size owed next : ℕ) (width : StoreWidth) (rs1 rs2 : ℕ) (imm : ℤ)
    (l : Layout) (t : Text) (at : ℕ) (g : Going) (c : Core)
    → let line = store_line l.plan owed next width rs1 rs2 (word imm) in
    let to = offset_by (value p g rs1) imm in
    InRange (Store width rs1 rs2 imm) → CountsBelow g owed next → IsInData p to (store_size width)
    → IsThere g.state.memory to (store_size width) → IsBefore line t at p l (owing owed g) c
    → LeadsTo t at (end_of at line) p l c (owing next (line_step target p code (Does address size (Store width rs1 rs2 imm) ∷ rest) g))

-- the instruction is an access that isn't wholly in the data
abbrev pub Faults : Part → Going → Instr → Type 0
Faults p g (Load kind rd rs1 imm) = LeavesData p (value p g rs1) imm (load_size kind)
Faults p g (Store width rs1 rs2 imm) = LeavesData p (value p g rs1) imm (store_size width)
Faults p g i = ⊥

-- Such a line goes on where its fixup says, which subtracts what is owed, and leaves its instruction to a slow step.
abbrev pub FaultingLinesRun : Type 0
FaultingLinesRun =
    (target : Target) (p : Part) (code rest : List Line) (address size : ℕ) (i : Instr) (distance : ℕ → ℕ) (out : ℕ) (f : Fixup)
    (l : Layout) (t : Text) (at : ℕ) (g : Going) (c : Core)
    → InRange i → CountsBelow g (owed l.plan address) 0 → Faults p g i
    → IsBefore (instruction_code l.plan distance out address size i) t at p l (owing (owed l.plan address) g) c
    → t.fixups (end_of at (front_of l.plan i)) ≡ Some f → f.subtracted ≡ owed l.plan address
    → (it : LeadsTo t at f.to p l c (line_step target p code (Does address size i ∷ rest) g)) × (it.after.registers 2 ≡ f.rdx)

-- ==== Lines among all lines of the code.

-- Where all lines' code stands, each line's stands where it starts.
abbrev pub LinesStand : Type 0
LinesStand =
    (plan : Plan) (t : Text) (base : ℕ) (code rest : List Line) (line : Line)
    → HasAt t base (spellings (code_of plan code code)) → AreLast code (line ∷ rest)
    → HasAt t (base + start plan code (line ∷ rest)) (spellings (placed plan code rest line))

-- a load is from the data, of which each byte is there
abbrev pub Loads : Part → Going → ℕ → ℕ → Type 0
Loads p g from n = IsInData p from n × IsMemory g.state.memory × IsThere g.state.memory from n

-- so is a store
abbrev pub Stores : Part → Going → ℕ → ℕ → Type 0
Stores p g to n = IsInData p to n × IsThere g.state.memory to n

-- an access is done or faults
abbrev pub Accesses : Part → Going → Instr → Type 0
Accesses p g (Load kind rd rs1 imm) =
    Loads p g (offset_by (value p g rs1) imm) (load_size kind) ⊎ Faults p g (Load kind rd rs1 imm)
Accesses p g (Store width rs1 rs2 imm) =
    Stores p g (offset_by (value p g rs1) imm) (store_size width) ⊎ Faults p g (Store width rs1 rs2 imm)
Accesses p g i = Unit {0}

-- an access is wholly in the data or not
abbrev pub IsReady : Part → Going → Line → Type 0
IsReady p g (Does at n i) = InRange i × Accesses p g i
IsReady p g line = Unit {0}

-- the places a line leads to: other lines, a slow step, the loop
abbrev pub IsCovered : ControlPoint → Type 0
IsCovered (Before to) = Unit {0}
IsCovered Slow = Unit {0}
IsCovered Loop = Unit {0}
IsCovered place = ⊥

-- The processor is where the turn is, and has its state.
pub record IsAlike (p : Part) (l : Layout) (base : ℕ) (code : List Line) (g : Going) (m : Machine) : Type 0 where
  pub related : IsRelated p l (with_owed l.plan p g) m.core
  pub is_at : IsAt l.plan base code g m

-- From there the processor leads to the turn's next state, by at most so many instructions.
pub record Follows (t : Text) (most : ℕ) (p : Part) (l : Layout) (base : ℕ) (code : List Line) (m : Machine) (next : Going) : Type 0 where
  pub after : Machine
  pub reached : Reaches t most m after
  pub alike : IsAlike p l base code next after
  pub others : OthersStay p l m.core after.core

-- the line that the turn is before is ready, if there is one
abbrev pub IsReadyAt : Part → Going → ControlPoint → Type 0
IsReadyAt p g (Before (line ∷ rest)) = IsReady p g line
IsReadyAt p g (Before []) = Unit {0}
IsReadyAt p g place = ⊥

-- Where all code stands, that of a line, or of the end, leads on as its step does. Tests compare all 32 bits of the steps
-- left, of which the machine counts 31.
abbrev pub PlacedLinesRun : Type 0
PlacedLinesRun =
    (p : Part) (code rest : List Line) (l : Layout) (t : Text) (base : ℕ) (g : Going) (m : Machine)
    → let next = line_step Assembly p code rest g in
    IsBefore (whole_code l.plan (end_address p) code) t base p l (with_owed l.plan p g) m.core → exit_of l.plan code < 2 ^ 31
    → HasFixups l.plan t base code → LieInCode p code → HasTable p l base code m.core → g.place ≡ Before rest → IsAt l.plan base code g m → 0 < g.left
    → g.left < 2 ^ 31 → IsReadyAt p g (Before rest) → IsCovered next.place
    → Follows t placed_most p l base code m next

-- so many steps of such lines, one after another
abbrev pub ArePlacedSteps : Part → List Line → ℕ → Going → Going → Type 0
ArePlacedSteps p code zero g k = k ≡ g
ArePlacedSteps p code (suc n) g k =
    (between : Going) × IsTranslatedStep Assembly p code g between × IsReadyAt p g g.place × IsCovered between.place
    × ArePlacedSteps p code n between k

-- The processor follows any number of them.
abbrev pub PlacedStepsRun : Type 0
PlacedStepsRun =
    (n : ℕ) (p : Part) (code : List Line) (l : Layout) (t : Text) (base : ℕ) (g k : Going) (m : Machine)
    → IsBefore (whole_code l.plan (end_address p) code) t base p l (with_owed l.plan p g) m.core → exit_of l.plan code < 2 ^ 31
    → HasFixups l.plan t base code → LieInCode p code → HasTable p l base code m.core → IsAt l.plan base code g m → g.left < 2 ^ 31 → ArePlacedSteps p code n g k
    → Follows t (placed_most * n) p l base code m k
