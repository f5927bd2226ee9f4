-- Fields that an `|` puts side by side are added.
use Rattle.std.proofs.Common.{◌≡◌, ℕ, ◌+◌, ◌*◌, ◌^◌, ◌<◌, ◌≤◌, ◌%◌, arith, bit_or, bit_and, ◌∙◌, refl}
use Rattle.rv_word.specs.Spelling.{r_format, u_format}
use Rattle.std.proofs.lemmas.Nat.{or_shifted, and_mask, shl_whole}

-- high | low, where low has k bits and high none of them
or_above : (high low k m whole : ℕ) → high ≡ m * 2 ^ k → low < 2 ^ k → m * 2 ^ k + low ≡ whole → bit_or high low ≡ whole
or_above high low k m whole e h sum = rw e (or_shifted m k low h ∙ sum)

pub r_or : (funct7 rs2 rs1 funct3 rd opcode : ℕ) → funct7 < 128 → rs2 < 32 → rs1 < 32 → funct3 < 8 → rd < 32 → opcode < 128 →
    bit_or (bit_or (bit_or (bit_or (bit_or (funct7 * 33554432 % 4294967296) (rs2 * 1048576 % 4294967296)) (rs1 * 32768 % 4294967296)) (funct3 * 4096 % 4294967296)) (rd * 128 % 4294967296)) opcode
    ≡ r_format funct7 rs2 rs1 funct3 rd opcode
r_or funct7 rs2 rs1 funct3 rd opcode funct7_fits rs2_fits rs1_fits funct3_fits rd_fits opcode_fits =
    let e1 : bit_or (funct7 * 33554432 % 4294967296) (rs2 * 1048576 % 4294967296) ≡ (funct7 * 32 + rs2) * 1048576 =
    or_above (funct7 * 33554432 % 4294967296) (rs2 * 1048576 % 4294967296) 25 funct7 ((funct7 * 32 + rs2) * 1048576) (omega arith) (omega arith) (omega arith) in
    let e2 : bit_or ((funct7 * 32 + rs2) * 1048576) (rs1 * 32768 % 4294967296) ≡ ((funct7 * 32 + rs2) * 32 + rs1) * 32768 =
    or_above ((funct7 * 32 + rs2) * 1048576) (rs1 * 32768 % 4294967296) 20 (funct7 * 32 + rs2) (((funct7 * 32 + rs2) * 32 + rs1) * 32768) (omega arith) (omega arith) (omega arith) in
    let e3 : bit_or (((funct7 * 32 + rs2) * 32 + rs1) * 32768) (funct3 * 4096 % 4294967296) ≡ (((funct7 * 32 + rs2) * 32 + rs1) * 8 + funct3) * 4096 =
    or_above (((funct7 * 32 + rs2) * 32 + rs1) * 32768) (funct3 * 4096 % 4294967296) 15 ((funct7 * 32 + rs2) * 32 + rs1) ((((funct7 * 32 + rs2) * 32 + rs1) * 8 + funct3) * 4096) (omega arith) (omega arith) (omega arith) in
    let e4 : bit_or ((((funct7 * 32 + rs2) * 32 + rs1) * 8 + funct3) * 4096) (rd * 128 % 4294967296) ≡ ((((funct7 * 32 + rs2) * 32 + rs1) * 8 + funct3) * 32 + rd) * 128 =
    or_above ((((funct7 * 32 + rs2) * 32 + rs1) * 8 + funct3) * 4096) (rd * 128 % 4294967296) 12 (((funct7 * 32 + rs2) * 32 + rs1) * 8 + funct3) (((((funct7 * 32 + rs2) * 32 + rs1) * 8 + funct3) * 32 + rd) * 128) (omega arith) (omega arith) (omega arith) in
    let e5 : bit_or (((((funct7 * 32 + rs2) * 32 + rs1) * 8 + funct3) * 32 + rd) * 128) opcode ≡ r_format funct7 rs2 rs1 funct3 rd opcode =
    or_above (((((funct7 * 32 + rs2) * 32 + rs1) * 8 + funct3) * 32 + rd) * 128) opcode 7 ((((funct7 * 32 + rs2) * 32 + rs1) * 8 + funct3) * 32 + rd) (r_format funct7 rs2 rs1 funct3 rd opcode) (omega arith) (omega arith) (omega arith) in
    rw (e1, e2, e3, e4, e5) refl

pub u_or : (imm rd opcode : ℕ) → imm < 1048576 → rd < 32 → opcode < 128 →
    bit_or (bit_or (imm * 4096 % 4294967296) (rd * 128 % 4294967296)) opcode ≡ u_format imm rd opcode
u_or imm rd opcode imm_fits rd_fits opcode_fits =
    let e1 : bit_or (imm * 4096 % 4294967296) (rd * 128 % 4294967296) ≡ (imm * 32 + rd) * 128 =
    or_above (imm * 4096 % 4294967296) (rd * 128 % 4294967296) 12 imm ((imm * 32 + rd) * 128) (omega arith) (omega arith) (omega arith) in
    let e2 : bit_or ((imm * 32 + rd) * 128) opcode ≡ u_format imm rd opcode =
    or_above ((imm * 32 + rd) * 128) opcode 7 (imm * 32 + rd) (u_format imm rd opcode) (omega arith) (omega arith) (omega arith) in
    rw (e1, e2) refl

-- the low bits of a number, by a mask
pub mask1 : (n : ℕ) → bit_and n 1 ≡ n % 2
mask1 n = and_mask n 1

pub mask2 : (n : ℕ) → bit_and n 3 ≡ n % 4
mask2 n = and_mask n 2

pub mask3 : (n : ℕ) → bit_and n 7 ≡ n % 8
mask3 n = and_mask n 3

pub mask4 : (n : ℕ) → bit_and n 15 ≡ n % 16
mask4 n = and_mask n 4

pub mask5 : (n : ℕ) → bit_and n 31 ≡ n % 32
mask5 n = and_mask n 5

pub mask6 : (n : ℕ) → bit_and n 63 ≡ n % 64
mask6 n = and_mask n 6

pub mask7 : (n : ℕ) → bit_and n 127 ≡ n % 128
mask7 n = and_mask n 7

pub mask8 : (n : ℕ) → bit_and n 255 ≡ n % 256
mask8 n = and_mask n 8

pub mask10 : (n : ℕ) → bit_and n 1023 ≡ n % 1024
mask10 n = and_mask n 10

pub ruleset masks = (mask1, mask2, mask3, mask4, mask5, mask6, mask7, mask8, mask10)

-- two fields side by side
pub or_two : (high width low : ℕ) → high < 2 ^ 20 → width ≤ 12 → low < 2 ^ width →
    bit_or (high * 2 ^ width % 4294967296) low ≡ high * 2 ^ width + low
or_two high width low high_fits width_fits low_fits =
    rw (shl_whole high 20 width 32 high_fits (omega arith)) (or_shifted high width low low_fits)
