-- The state of a sandbox: its pc, the instruction there, and its registers.
use Rattle.std.specs.Prelude.{◌≡◌, ℕ, zero, suc, ◌+◌, ◌-◌, ◌%◌, ◌==◌, nat_lt, cond, if◌then◌else◌, List, [], ◌++◌, take, drop, codes, decimal}
use Rattle.rv_comp.specs.Fronts.{IsFront}
use Rattle.rv_comp.specs.declared.front.Front.{Front}
use Rattle.rv_comp.specs.declared.front.Front.TheVariants.{Read, Short, Bad}
use Rattle.rv_step.specs.State.{Hart, register}
use Rattle.sfi_image.specs.Spelling.{Part}
use Rattle.sfi_report.specs.Listing.{hex_digits, line_end, instruction_line}

-- ---- the pc

-- the code from an address on; none where the address lies outside the code
abbrev pub code_from : Part → ℕ → List ℕ
code_from p at = cond (nat_lt at p.code_base) [] (drop (at - p.code_base) p.code)

-- the line of an address where no instruction is
abbrev pub empty_line : ℕ → List ℕ
empty_line at = hex_digits 8 at ++ codes " --" ++ line_end

-- the line of an address by what the code has there: an instruction as in a listing, or none
abbrev pub place_line : ℕ → List ℕ → Front → List ℕ
place_line at code (Read i n) = instruction_line at (take n code) i
place_line at code Short = empty_line at
place_line at code Bad = empty_line at

-- ---- the registers

-- what follows a register: the end of its line after x7, x15, x23 and x31, and else a space
abbrev pub after_register : ℕ → List ℕ
after_register r = if r % 8 == 7 then line_end else codes " "

-- a register with its value
abbrev pub register_text : ℕ → ℕ → List ℕ
register_text r value =
    codes "x" ++ decimal r ++ codes "=" ++ hex_digits 8 value ++ after_register r

-- the first n registers after x0, in order
abbrev pub registers_text : Hart → ℕ → List ℕ
registers_text h zero = []
registers_text h (suc n) = registers_text h n ++ register_text (n + 1) (register h (n + 1))

-- ---- a sandbox

-- how the text of sandbox `sandbox` begins
abbrev pub state_front : ℕ → List ℕ
state_front sandbox = codes "sandbox=" ++ decimal sandbox ++ codes " pc="

-- of sandbox `sandbox`, with this part of the image: a line with its pc and what the code
-- has there, and four lines with its registers x1 to x31
pub record IsStateText (sandbox : ℕ) (p : Part) (h : Hart) (text : List ℕ) : Type 0 where
  pub front : Front
  pub front_is : IsFront (code_from p h.pc) front
  pub text_is : text
      ≡ state_front sandbox ++ place_line h.pc (code_from p h.pc) front ++ registers_text h 31
