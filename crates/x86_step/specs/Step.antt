-- One step of a processor, at the instructions of `x86_instr`. Intel 64 and IA-32 Architectures Software Developer's
-- Manual, volume 1, "General-Purpose Registers in 64-Bit Mode" (a result of 32 bits clears the upper half of a register),
-- "EFLAGS Register", "EFLAGS Cross-Reference" and "EFLAGS Condition Codes"; volume 2, the pages of the instructions.
use Rattle.std.specs.Prelude.{zero, suc, ◌<◌, ◌≤◌, ◌≡◌, ℕ, ◌+◌, ◌-◌, ◌*◌, ◌/◌, ◌%◌, ◌^◌, ◌==◌, nat_lt, nat_le, ◌&&◌, ◌||◌, not, Bool, true, false, ℤ, pos, neg_ℤ, ◌+ℤ◌, ◌-ℤ◌, ◌*ℤ◌, int_le, int_lt, int_div, int_rem, bit_and, bit_or, bit_xor, List, length, drop, Option, Some, None, Result, Ok, Err, if◌then◌else◌}
use Rattle.std.specs.Int.{w32, w64, cast_signed, cast_unsigned, from_bool}
use Rattle.std.specs.Option.{option_map}
use Rattle.x86_instr.specs.declared.operand.Register.{Register}
use Rattle.x86_instr.specs.declared.operand.Address.{Address}
use Rattle.x86_instr.specs.declared.operand.Operand.{Operand}
use Rattle.x86_instr.specs.declared.operand.Operand.TheVariants.{Reg, Mem}
use Rattle.x86_instr.specs.declared.instr.Width.{Width}
use Rattle.x86_instr.specs.declared.instr.Width.TheVariants.{Dword, Qword}
use Rattle.x86_instr.specs.declared.instr.Narrow.{Narrow}
use Rattle.x86_instr.specs.declared.instr.Narrow.TheVariants.{Byte, Word}
use Rattle.x86_instr.specs.declared.instr.Extension.{Extension}
use Rattle.x86_instr.specs.declared.instr.Extension.TheVariants.{Zero, Sign}
use Rattle.x86_instr.specs.declared.instr.AluOp.{AluOp}
use Rattle.x86_instr.specs.declared.instr.AluOp.TheVariants.{Add, Or, And, Sub, Xor, Cmp}
use Rattle.x86_instr.specs.declared.instr.UnaryOp.{UnaryOp}
use Rattle.x86_instr.specs.declared.instr.UnaryOp.TheVariants.{Neg}
use Rattle.x86_instr.specs.declared.instr.ShiftOp.{ShiftOp}
use Rattle.x86_instr.specs.declared.instr.ShiftOp.TheVariants.{Shl, Shr, Sar}
use Rattle.x86_instr.specs.declared.instr.DivideOp.{DivideOp}
use Rattle.x86_instr.specs.declared.instr.DivideOp.TheVariants.{Div, Idiv}
use Rattle.x86_instr.specs.declared.instr.Condition.{Condition}
use Rattle.x86_instr.specs.declared.instr.Condition.TheVariants.{Below, AboveOrEqual, Equal, NotEqual, BelowOrEqual, Above, Less, GreaterOrEqual, LessOrEqual, Greater}
use Rattle.x86_instr.specs.declared.instr.Instr.{Instr}
use Rattle.x86_instr.specs.declared.instr.Instr.TheVariants.{Mov, MovStore, MovStoreByte, MovStoreWord, MovImm, MovExtended, Movsxd, Alu, AluImm, Test, Unary, ShiftImm, ShiftCl, Imul, Divide, Cdq, Setcc, Jcc, Jmp, JmpTo, Nop}
use Rattle.x86_instr.specs.Spelling.{number, scale_number}
use Rattle.x86_instr.specs.Decoding.{Decoded, decode}
use Rattle.x86_step.specs.declared.machine.Flags.{Flags}
use Rattle.x86_step.specs.declared.machine.Computed.{Computed}
use Rattle.x86_step.specs.declared.machine.Stop.{Stop}
use Rattle.x86_step.specs.declared.machine.Stop.TheVariants.{Fault, DivideError, UnknownFlag, NoInstruction}
use Rattle.x86_step.specs.State.{Core, Fixup, IsIn, Machine, Span, Text, IsFixed, with_register, with_flags, with_memory, number_at, may_write, written}

-- what may stop, and then what comes next
infixl 10 ◌>>=◌
abbrev pub ◌>>=◌ : {A B : Type 0} → Result A Stop → (A → Result B Stop) → Result B Stop
(Ok x) >>= f = f x
(Err e) >>= f = Err e

-- ==== Numbers of a width.

abbrev pub bits_of : Width → ℕ
bits_of Dword = 32
bits_of Qword = 64

abbrev pub bytes_of : Width → ℕ
bytes_of Dword = 4
bytes_of Qword = 8

-- what the width holds of a number
abbrev pub low : Width → ℕ → ℕ
low w n = n % 2 ^ bits_of w

-- the sign bit
abbrev pub is_negative : Width → ℕ → Bool
is_negative w n = nat_le (2 ^ (bits_of w - 1)) n

-- the number that the bits stand for as two's complement
abbrev pub signed : Width → ℕ → ℤ
signed Dword n = cast_signed w32 n
signed Qword n = cast_signed w64 n

-- the width holds a signed number
abbrev pub fits : Width → ℤ → Bool
fits w z = int_le (neg_ℤ (pos (2 ^ (bits_of w - 1)))) z && int_lt z (pos (2 ^ (bits_of w - 1)))

-- 32 bits with their sign, in 64
abbrev pub sign_extended : ℕ → ℕ
sign_extended n = if nat_lt n (2 ^ 31) then n else n + (2 ^ 64 - 2 ^ 32)

abbrev pub immediate : Width → ℕ → ℕ
immediate Dword n = n
immediate Qword n = sign_extended n

-- 8 or 16 bits, in 32
abbrev pub extended : Extension → Narrow → ℕ → ℕ
extended Zero from n = n
extended Sign Byte n = if nat_lt n (2 ^ 7) then n else n + (2 ^ 32 - 2 ^ 8)
extended Sign Word n = if nat_lt n (2 ^ 15) then n else n + (2 ^ 32 - 2 ^ 16)

-- ==== Operands.

abbrev pub register : Core → Register → ℕ
register c r = c.registers (number r)

-- rsp is no index
abbrev pub indexed : Core → Address → ℕ
indexed c a = if number a.index == 4 then 0 else register c a.index * 2 ^ scale_number a.scale

abbrev pub address : Core → Address → ℕ
address c a = (register c a.base + indexed c a + sign_extended a.displacement) % 2 ^ 64

-- a number that is there
abbrev pub found : Option ℕ → Result ℕ Stop
found None = Err Fault
found (Some n) = Ok n

-- of n bytes, none of them beyond the last address
abbrev pub loaded : Core → ℕ → ℕ → Result ℕ Stop
loaded c n at = if nat_le (at + n) (2 ^ 64) then found (number_at c.memory n at) else Err Fault

-- into n bytes that are there and may be written
abbrev pub stored : Core → ℕ → ℕ → ℕ → Result Core Stop
stored c n at v =
    loaded c n at >>= λ old. if may_write c.writable n at then Ok (with_memory c (written c.memory n at v)) else Err Fault

-- an operand's value
abbrev pub value : Core → Width → Operand → Result ℕ Stop
value c w (Reg r) = Ok (low w (register c r))
value c w (Mem a) = loaded c (bytes_of w) (address c a)

abbrev pub narrow_value : Core → Narrow → Operand → Result ℕ Stop
narrow_value c Byte (Reg r) = Ok (register c r % 2 ^ 8)
narrow_value c Word (Reg r) = Ok (register c r % 2 ^ 16)
narrow_value c Byte (Mem a) = loaded c 1 (address c a)
narrow_value c Word (Mem a) = loaded c 2 (address c a)

-- a result into an operand, at the addresses before the instruction
abbrev pub put : Core → Width → Operand → ℕ → Result Core Stop
put c w (Reg r) v = Ok (with_register c (number r) v)
put c w (Mem a) v = stored c (bytes_of w) (address c a) v

-- ==== What instructions compute: a result and flags.

-- carry and overflow, zero and sign by the result
abbrev pub flagged : Width → Option Bool → Option Bool → ℕ → Computed
flagged w carry overflow v = record {
  result = v;
  flags = record { carry = carry; zero = Some (v == 0); sign = Some (is_negative w v); overflow = overflow };
}

abbrev pub unknown : Flags
unknown = record { carry = None; zero = None; sign = None; overflow = None }

-- two signs are one
abbrev pub same : Bool → Bool → Bool
same true b = b
same false b = not b

-- The carry says that the number doesn't fit without a sign, the overflow that it doesn't with one (volume 1, "Status Flags").
abbrev pub sum : Width → ℕ → ℕ → Computed
sum w a b =
    flagged w (Some (nat_le (2 ^ bits_of w) (a + b))) (Some (not (fits w (signed w a +ℤ signed w b)))) (low w (a + b))

abbrev pub difference : Width → ℕ → ℕ → Computed
difference w a b =
    flagged w (Some (nat_lt a b)) (Some (not (fits w (signed w a -ℤ signed w b)))) (low w (a + (2 ^ bits_of w - b)))

abbrev pub logical : Width → ℕ → Computed
logical w r = flagged w (Some false) (Some false) r

-- a op b: a is the first operand, in which the result goes, b the second (volume 2, ADD, OR, AND, SUB, XOR
-- and CMP). Sub and cmp both are a - b with the flags of the difference, and cmp writes no result
-- (`alu_finished`). Or, and and xor clear carry and overflow. Zero and sign are the result's.
abbrev pub alu : AluOp → Width → ℕ → ℕ → Computed
alu Add w a b = sum w a b
alu Or w a b = logical w (bit_or a b)
alu And w a b = logical w (bit_and a b)
alu Sub w a b = difference w a b
alu Xor w a b = logical w (bit_xor a b)
alu Cmp w a b = difference w a b

-- by n, below the width
abbrev pub shifted : ShiftOp → Width → ℕ → ℕ → ℕ
shifted Shl w a n = low w (a * 2 ^ n)
shifted Shr w a n = a / 2 ^ n
shifted Sar w a n = if is_negative w a then a / 2 ^ n + (2 ^ bits_of w - 2 ^ (bits_of w - n)) else a / 2 ^ n

-- the last bit that was shifted out, where n isn't 0
abbrev pub shifted_out : ShiftOp → Width → ℕ → ℕ → Bool
shifted_out Shl w a n = a / 2 ^ (bits_of w - n) % 2 == 1
shifted_out op w a n = a / 2 ^ (n - 1) % 2 == 1

-- where n is 1
abbrev pub shift_overflow : ShiftOp → Width → ℕ → Bool
shift_overflow Shl w a = not (same (is_negative w a) (is_negative w (low w (a * 2))))
shift_overflow Shr w a = is_negative w a
shift_overflow Sar w a = false

-- At 0 flags stay. A register of 32 bits loses its upper half also then: processors do so, where SHL's page doesn't say.
abbrev pub shift_by : ShiftOp → Width → ℕ → ℕ → Flags → Computed
shift_by op w a n f =
    if n == 0 then record { result = a; flags = f }
    else flagged w (Some (shifted_out op w a n)) (if n == 1 then Some (shift_overflow op w a) else None) (shifted op w a n)

-- the count is taken modulo the width
abbrev pub shift : ShiftOp → Width → ℕ → ℕ → Flags → Computed
shift op w a n f = shift_by op w a (n % bits_of w) f

abbrev pub unary : UnaryOp → ℕ → Computed
unary Neg a = difference Dword 0 a

-- carry and overflow say that the signed product doesn't fit
abbrev pub product : Width → ℕ → ℕ → Computed
product w a b =
    let lost = not (fits w (signed w a *ℤ signed w b)) in
    record { result = low w (a * b); flags = record { carry = Some lost; zero = None; sign = None; overflow = Some lost } }

-- ==== Conditions (volume 1, "EFLAGS Condition Codes").

abbrev pub on_both : (Bool → Bool → Bool) → Option Bool → Option Bool → Option Bool
on_both f (Some a) (Some b) = Some (f a b)
on_both f _ _ = None

abbrev pub less : Flags → Option Bool
less f = option_map not (on_both same f.sign f.overflow)

abbrev pub less_or_equal : Flags → Option Bool
less_or_equal f = on_both ◌||◌ f.zero (less f)

abbrev pub is_met : Condition → Flags → Option Bool
is_met Below f = f.carry
is_met AboveOrEqual f = option_map not f.carry
is_met Equal f = f.zero
is_met NotEqual f = option_map not f.zero
is_met BelowOrEqual f = on_both ◌||◌ f.carry f.zero
is_met Above f = option_map not (on_both ◌||◌ f.carry f.zero)
is_met Less f = less f
is_met GreaterOrEqual f = option_map not (less f)
is_met LessOrEqual f = less_or_equal f
is_met Greater f = option_map not (less_or_equal f)

-- a condition on flags that are known
abbrev pub known : Option Bool → Result Bool Stop
known None = Err UnknownFlag
known (Some b) = Ok b

-- ==== Instructions.

-- the core after a result is put, with its flags
abbrev pub finished : Core → Width → Operand → Computed → Result Core Stop
finished c w m r = put c w m r.result >>= λ d. Ok (with_flags d r.flags)

-- the same of an operation, of which cmp writes flags alone
abbrev pub alu_finished : AluOp → Core → Width → Operand → Computed → Result Core Stop
alu_finished Cmp c w m r = Ok (with_flags c r.flags)
alu_finished op c w m r = finished c w m r

abbrev pub signed_quotient : ℤ → ℤ → Option (ℕ × ℕ)
signed_quotient a b =
    if fits Dword (int_div a b) then Some (cast_unsigned w32 (int_div a b), cast_unsigned w32 (int_rem a b)) else None

abbrev pub quotient : DivideOp → ℕ → ℕ → Option (ℕ × ℕ)
quotient Div a b = if nat_lt (a / b) (2 ^ 32) then Some (a / b, a % b) else None
quotient Idiv a b = signed_quotient (signed Qword a) (signed Dword b)

-- quotient and remainder of 64 bits by 32, where the quotient fits and the divisor isn't 0
abbrev pub parts : DivideOp → ℕ → ℕ → Option (ℕ × ℕ)
parts op a b = if b == 0 then None else quotient op a b

-- eax and edx have them; every flag is undefined
abbrev pub divided : Core → Option (ℕ × ℕ) → Result Core Stop
divided c None = Err DivideError
divided c (Some p) = Ok (with_flags (with_register (with_register c 0 p.0) 2 p.1) unknown)

-- what an instruction does with registers, flags and memory
unfoldable pub computes : Instr → Core → Result Core Stop
computes (Mov w dst src) c = value c w src >>= λ v. Ok (with_register c (number dst) v)
computes (MovStore w dst src) c = stored c (bytes_of w) (address c dst) (register c src)
computes (MovStoreByte dst src) c = stored c 1 (address c dst) (register c src)
computes (MovStoreWord dst src) c = stored c 2 (address c dst) (register c src)
computes (MovImm dst imm) c = Ok (with_register c (number dst) imm)
computes (MovExtended e from dst src) c = narrow_value c from src >>= λ v. Ok (with_register c (number dst) (extended e from v))
computes (Movsxd dst src) c = value c Dword src >>= λ v. Ok (with_register c (number dst) (sign_extended v))
computes (Alu op w dst src) c = value c w src >>= λ b. alu_finished op c w (Reg dst) (alu op w (low w (register c dst)) b)
computes (AluImm op w dst imm) c = value c w dst >>= λ a. alu_finished op c w dst (alu op w a (immediate w imm))
computes (Test a b) c = Ok (with_flags c (logical Dword (bit_and (low Dword (register c a)) (low Dword (register c b)))).flags)
computes (Unary op dst) c = value c Dword dst >>= λ a. finished c Dword dst (unary op a)
computes (ShiftImm op w dst amount) c = value c w dst >>= λ a. finished c w dst (shift op w a amount c.flags)
computes (ShiftCl op dst) c =
    finished c Dword (Reg dst) (shift op Dword (low Dword (register c dst)) (c.registers 1 % 2 ^ 8) c.flags)
computes (Imul w dst src) c = value c w src >>= λ b. finished c w (Reg dst) (product w (low w (register c dst)) b)
computes (Divide op src) c =
    let dividend = low Dword (c.registers 2) * 2 ^ 32 + low Dword (c.registers 0) in
    divided c (parts op dividend (low Dword (register c src)))
computes Cdq c = Ok (with_register c 2 (if is_negative Dword (low Dword (c.registers 0)) then 2 ^ 32 - 1 else 0))
computes (Setcc condition dst) c =
    known (is_met condition c.flags)
    >>= λ b. Ok (with_register c (number dst) (register c dst - register c dst % 2 ^ 8 + from_bool b))
computes (Jcc condition distance) c = Ok c
computes (Jmp distance) c = Ok c
computes (JmpTo target) c = Ok c
computes (Nop size) c = Ok c

-- where a jump goes, from the instruction's end
abbrev pub jumped : ℕ → ℕ → ℕ
jumped after distance = (after + sign_extended distance) % 2 ^ 64

-- bits 63 to 47 of an address are equal, as a jump asks of its target
abbrev pub is_canonical : ℕ → Bool
is_canonical a = nat_lt a (2 ^ 47) || nat_le (2 ^ 64 - 2 ^ 47) a

abbrev pub landed : ℕ → Result ℕ Stop
landed to = if is_canonical to then Ok to else Err Fault

-- the address of the instruction after it, where `after` is its end
abbrev pub goes_to : Instr → ℕ → Core → Result ℕ Stop
goes_to (Jcc condition distance) after c =
    known (is_met condition c.flags) >>= λ b. if b then landed (jumped after distance) else Ok after
goes_to (Jmp distance) after c = landed (jumped after distance)
goes_to (JmpTo target) after c = value c Qword target >>= landed
goes_to i after c = Ok after

abbrev pub effect : Instr → ℕ → Core → Result Machine Stop
effect i after c = goes_to i after c >>= λ to. computes i c >>= λ d. Ok (record { rip = to; core = d })

-- ==== What an instruction accesses in memory.

-- an operand's
abbrev pub operand_access : Core → ℕ → Operand → Option Span
operand_access c n (Reg r) = None
operand_access c n (Mem a) = Some (record { at = address c a; size = n })

abbrev pub narrow_bytes : Narrow → ℕ
narrow_bytes Byte = 1
narrow_bytes Word = 2

-- the access of an instruction, if it has one
unfoldable pub accessed : Instr → Core → Option Span
accessed (Mov w dst src) c = operand_access c (bytes_of w) src
accessed (MovStore w dst src) c = operand_access c (bytes_of w) (Mem dst)
accessed (MovStoreByte dst src) c = operand_access c 1 (Mem dst)
accessed (MovStoreWord dst src) c = operand_access c 2 (Mem dst)
accessed (MovExtended e from dst src) c = operand_access c (narrow_bytes from) src
accessed (Movsxd dst src) c = operand_access c 4 src
accessed (Alu op w dst src) c = operand_access c (bytes_of w) src
accessed (AluImm op w dst imm) c = operand_access c (bytes_of w) dst
accessed (Unary op dst) c = operand_access c 4 dst
accessed (ShiftImm op w dst amount) c = operand_access c (bytes_of w) dst
accessed (Imul w dst src) c = operand_access c (bytes_of w) src
accessed (JmpTo target) c = operand_access c 8 target
accessed i c = None

-- its addresses are among these
abbrev pub LiesIn : (ℕ → Type 0) → Option Span → Type 0
LiesIn there None = Unit {0}
LiesIn there (Some access) = (a : ℕ) → access.at ≤ a → a < access.at + access.size → there a

-- the host handles its faults: there is an access, whose addresses are all in that span
abbrev pub IsHandled : Span → Option Span → Type 0
IsHandled span None = ⊥
IsHandled span (Some access) = LiesIn (IsIn span) (Some access)

-- ==== A step.

abbrev pub done : Option Decoded → ℕ → Machine → Result Machine Stop
done None n m = Err NoInstruction
done (Some d) n m = effect d.instr (m.rip + (n - length d.rest)) m.core

-- the instruction at rip, of n bytes of text from there on
abbrev pub stepped : List ℕ → Machine → Result Machine Stop
stepped bytes m = done (decode bytes) (length bytes) m

unfoldable pub step : Text → Machine → Result Machine Stop
step t m = if nat_le t.base m.rip then stepped (drop (m.rip - t.base) t.bytes) m else Err NoInstruction

-- the access of an instruction that was read
abbrev pub access_of : Option Decoded → Core → Option Span
access_of None c = None
access_of (Some d) c = accessed d.instr c

-- the access of the instruction at rip, which is the next step's
unfoldable pub next_access : Text → Machine → Option Span
next_access t m = if nat_le t.base m.rip then access_of (decode (drop (m.rip - t.base) t.bytes)) m.core else None

-- A fault leaves all as it was before the instruction (volume 3A, "Exception Classifications"; "Guaranteed Atomic
-- Operations" excepts only stores of more than 8 bytes), also where a part of what a store writes could be written, as is
-- tested on processors; its fixup says where the host goes on.
abbrev pub resumed : Fixup → Core → Machine
resumed f c = record { rip = f.to; core = with_register (with_register c 2 f.rdx) 14 ((c.registers 14 + (2 ^ 32 - f.subtracted)) % 2 ^ 32) }

-- so many steps, one after another: instructions that are done, or whose fault the host handles
pub data Steps (t : Text) : ℕ → Machine → Machine → Type 0 where
  stay : (m : Machine) → Steps t zero m m
  go : (steps : ℕ) (m n k : Machine) → step t m ≡ Ok n → Steps t steps n k → Steps t (suc steps) m k
  resume : (steps : ℕ) (m k : Machine) (f : Fixup) → step t m ≡ Err Fault → t.fixups m.rip ≡ Some f → IsHandled t.handled (next_access t m)
      → Steps t steps (resumed f m.core) k → Steps t (suc steps) m k

-- at most so many steps of fixed code lead from one state to another
pub record Reaches (t : Text) (most : ℕ) (m k : Machine) : Type 0 where
  pub fixed : IsFixed t m.core
  pub count : ℕ
  pub few : count ≤ most
  pub steps : Steps t count m k
