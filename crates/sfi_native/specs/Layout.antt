-- Where a sandbox's state lies in a processor, and when both have the same state.
use Rattle.std.specs.Prelude.{◌≡◌, ℕ, ◌+◌, ◌-◌, ◌*◌, ◌%◌, ◌^◌, ◌<◌, ◌≤◌, ◌⊎◌, true, length, Option, Some, None, if◌then◌else◌}
use Rattle.rv_mem.specs.Bytes.{byte_at}
use Rattle.rv_step.specs.State.{register}
use Rattle.sfi_formats.specs.Formats.{has_single_mask}
use Rattle.sfi_formats.specs.Limits.{guard}
use Rattle.sfi_image.specs.Spelling.{Part}
use Rattle.sfi_translate.specs.Machine.{Going, fixed}
use Rattle.x86_step.specs.State.{Core, IsIn, Span, number_at}
use Rattle.x86_instr.specs.declared.operand.Register.{Register}
use Rattle.x86_instr.specs.Spelling.{number}
use Rattle.sfi_native.specs.declared.layout.Layout.{Layout}
use Rattle.sfi_native.specs.Registers.{IsAssigned, IsRightPlan, assigned}

-- the frame has four bytes for each of the 32 registers
abbrev pub slots_size : ℕ
slots_size = 128

-- and behind them 16 more, which code doesn't write: where the table of entries and where code begins (specs/Table.antt)
abbrev pub frame_size : ℕ
frame_size = 144

-- m bytes from a on and n bytes from b on have no address in common
abbrev pub DoNotMeet : ℕ → ℕ → ℕ → ℕ → Type 0
DoNotMeet a m b n = (a + m ≤ b) ⊎ (b + n ≤ a)

-- what a processor maps at once
abbrev pub page_size : ℕ
page_size = 4096

-- How many bytes are closed below the data: a guard zone. Where masks are single an access may also lie near 0: there all 2^32
-- addresses but the data are closed, and a guard zone on each side of them.
unfoldable pub closed_below : Part → ℕ
closed_below p = if has_single_mask p.format then p.data_base + guard else guard

-- and how many above them
unfoldable pub closed_above : Part → ℕ
closed_above p = if has_single_mask p.format then 2 ^ 32 - (p.data_base + p.data_size) + guard else guard

-- where accesses go: the data, with what is closed on each side
abbrev pub window : Part → Layout → Span
window p l = record { at = l.data_start - closed_below p; size = closed_below p + p.data_size + closed_above p }

-- The plan is right, and one for the sandbox's format. A host can leave what is closed in the window unmapped, since the data are
-- whole pages. Window and frame don't meet, and lie below 2^47, where a process has its memory.
pub record IsLayout (p : Part) (l : Layout) : Type 0 where
  pub plan_is_right : IsRightPlan l.plan
  pub format_is : l.plan.format ≡ p.format
  pub frame_ends : l.frame + frame_size ≤ 2 ^ 47
  pub window_begins : closed_below p ≤ l.data_start
  pub window_ends : l.data_start + p.data_size + closed_above p ≤ 2 ^ 47
  pub is_page : l.data_start % page_size ≡ 0
  pub are_pages : p.data_size % page_size ≡ 0
  pub apart : DoNotMeet l.frame frame_size (window p l).at (window p l).size

-- the host's address of the sandbox's address 0, of which r15 holds 64 bits
abbrev pub origin : ℕ → Layout → ℕ
origin data_base l = (l.data_start + (2 ^ 64 - data_base)) % 2 ^ 64

-- the value of register r, as lines take it
abbrev pub value : Part → Going → ℕ → ℕ
value p g r = register (fixed p g.state.hart) r

-- the value lies in the register that register r lies in, or else in the frame
abbrev pub Holds : Layout → Core → ℕ → Option Register → ℕ → Type 0
Holds l c r (Some q) v = c.registers (number q) ≡ v
Holds l c r None v = number_at c.memory 4 (l.frame + 4 * r) ≡ Some v

-- the turn with n more steps left, as r14 has it where n are owed
abbrev pub owing : ℕ → Going → Going
owing n g = record { place = g.place; state = g.state; left = g.left + n }

-- The processor has the turn's state: rsp (4) leads to the frame, r14 (14) has the turn's `left` (in code with what is owed: `with_owed`), r15 (15) the origin of
-- the data. Where the turn is, rip says, which isn't part of it.
pub record IsRelated (p : Part) (l : Layout) (g : Going) (c : Core) : Type 0 where
  pub register_count : length g.state.hart.registers ≡ 32
  pub words : (r : ℕ) → value p g r < 2 ^ 32
  pub registers : (r : ℕ) → r < 32 → Holds l c r (assigned l.plan r) (value p g r)
  pub frame : c.registers 4 ≡ l.frame
  pub frame_is_written : (k : ℕ) → k < slots_size → c.writable (l.frame + k) ≡ true
  pub few : g.left < 2 ^ 32
  pub left : c.registers 14 ≡ g.left
  pub bytes : (k : ℕ) → k < p.data_size → c.memory (l.data_start + k) ≡ byte_at g.state.memory (p.data_base + k)
  pub bytes_are_written : (k : ℕ) → k < p.data_size → c.writable (l.data_start + k) ≡ true
  pub origin_is : c.registers 15 ≡ origin p.data_base l

-- the address is none of n from a on
abbrev pub IsOutside : ℕ → ℕ → ℕ → Type 0
IsOutside at a n = (at < a) ⊎ (a + n ≤ at)

-- No byte is in the window but the data's, so that an access elsewhere in it faults.
abbrev pub IsClosed : Part → Layout → Core → Type 0
IsClosed p l c = (a : ℕ) → IsIn (window p l) a → IsOutside a l.data_start p.data_size → c.memory a ≡ None

-- From one state of the processor to the other, eax, ecx, edx (0 to 2), r14 (14), registers in which the sandbox's lie, and
-- flags may change, and memory in the frame's registers and in data; all else stays.
pub record OthersStay (p : Part) (l : Layout) (c d : Core) : Type 0 where
  pub others : (k : ℕ) → 2 < k → (k ≡ 14 → ⊥) → (IsAssigned l.plan k → ⊥) → d.registers k ≡ c.registers k
  pub elsewhere : (a : ℕ) → IsOutside a l.frame slots_size → IsOutside a l.data_start p.data_size → d.memory a ≡ c.memory a
  pub writable : d.writable ≡ c.writable
