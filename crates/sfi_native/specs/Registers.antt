-- Which of the sandbox's registers lie in registers of the processor, the others in a frame in memory; how many steps code owes
-- where; and where nops stand.
use Rattle.std.specs.Prelude.{[], ◌≡◌, ℕ, ◌+◌, ◌-◌, ◌/◌, ◌%◌, ◌^◌, ◌==◌, ◌||◌, Bool, true, false, get_or, length, Option, Some, None}
use Rattle.sfi_formats.specs.declared.format.Format.{Format}
use Rattle.sfi_formats.specs.Formats.{is_reserved_in}
use Rattle.x86_instr.specs.declared.operand.Register.{Register}
use Rattle.x86_instr.specs.declared.operand.Register.TheVariants.{Rbx, Rbp, Rsi, Rdi, R8, R9, R10, R11, R12, R13}
use Rattle.x86_instr.specs.Spelling.{number}
use Rattle.x86_instr.specs.declared.instr.NopSize.{NopSize}
use Rattle.sfi_native.specs.declared.plan.Plan.{Plan}

-- x0 and the reserved registers of the format have one value for lines, so that none writes them
abbrev pub is_fixed : Format → ℕ → Bool
is_fixed f r = (r == 0) || is_reserved_in f r

-- the registers of the processor that code has no other use for
abbrev pub is_assignable : Register → Bool
is_assignable Rbx = true
is_assignable Rbp = true
is_assignable Rsi = true
is_assignable Rdi = true
is_assignable R8 = true
is_assignable R9 = true
is_assignable R10 = true
is_assignable R11 = true
is_assignable R12 = true
is_assignable R13 = true
is_assignable q = false

-- the register of the processor that register r lies in, if it lies in one
abbrev pub assigned : Plan → ℕ → Option Register
assigned plan r = get_or plan.assigned r None

-- Each lies in one that code has no other use for, and no two in the same; those that none writes lie in the frame. What is owed
-- and padded is free.
pub record IsRightPlan (plan : Plan) : Type 0 where
  pub count : length plan.assigned ≡ 32
  pub in_frame : (r : ℕ) → is_fixed plan.format r ≡ true → assigned plan r ≡ None
  pub assignable : (r : ℕ) (q : Register) → assigned plan r ≡ Some q → is_assignable q ≡ true
  pub apart : (r s : ℕ) (q : Register) → assigned plan r ≡ Some q → assigned plan s ≡ Some q → r ≡ s

-- the place of an address in the lists of a plan, which have something for each two bytes
abbrev pub half_word : Plan → ℕ → ℕ
half_word plan at = (at + (2 ^ 32 - plan.code_base)) % 2 ^ 32 / 2

-- how many steps, below 63, are done and not yet counted before the instruction at that address
abbrev pub owed : Plan → ℕ → ℕ
owed plan at = get_or plan.owed.items (half_word plan at) 0 % 63

-- the nop before it, if one stands there
abbrev pub nop : Plan → ℕ → Option NopSize
nop plan at = get_or plan.padding.items (half_word plan at) None

-- no nops stand anywhere
abbrev pub IsUnpadded : Plan → Type 0
IsUnpadded plan = plan.padding.items ≡ []

-- a register of the processor, by its number, in which one of the sandbox's lies
abbrev pub IsAssigned : Plan → ℕ → Type 0
IsAssigned plan k = (r : ℕ) × (q : Register) × (assigned plan r ≡ Some q) × (number q ≡ k)
