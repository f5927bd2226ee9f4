-- Where masked numbers and accesses on them fall.
use Rattle.std.proofs.Common.{◌*◌}
use Rattle.std.proofs.lemmas.Nat.{and_mask, or_shifted, or_comm, or_block, mod_below, pow_pos}
use Rattle.std.specs.Int.Bits.{bit_and, bit_or, or_self, or_zero_r}
use Rattle.sfi_image.specs.Parts.{IsRegion, reserved_of}
use Rattle.sfi_image.proofs.Facts.{masked_unit}
use Rattle.std.proofs.lemmas.Bool.{cond-false, ne_eqb}
use Rattle.std.proofs.lemmas.List.{get_or-set_same}
use Rattle.rv_word.specs.declared.instr.RegOp.TheVariants.{Add}
use Rattle.rv_step.specs.Step.{result_of}
use Rattle.sfi_formats.specs.Formats.{is_reserved}
use Rattle.std.proofs.lemmas.List.FromFn.{length-range_with_len, get_or-map-range_with_len}
use Rattle.sfi_safe_runs.proofs.Prelude.{◌≡◌, ◌≢◌, ℕ, suc, ◌+◌, ◌-◌, ◌%◌, ◌^◌, ◌<◌, ◌≤◌, ◌⊎◌, List, length, get_or, set, false, ◌||◌, ◌==◌, refl, sym, ap, ◌∙◌, subst, inl, inr, ⊎_elim, arith, cases_lt, or_parts, eqb-false, cond_both, get_or-set_other, length-set, ℤ, pos, negsuc, ◌+ℤ◌, ints, slice_index, Contains, range_with_len, length-map, offset_by, IsImm12, InRange, Load, Store, LoadKind, Lb, Lh, Lw, Lbu, Lhu, StoreWidth, Sb, Sh, Sw, address_after, addresses, Hart, register, with_register, word, load_size, store_size, Part, HasGuardRoom, InData, InGuard, HasReserved, IsNear}
use Rattle.sfi_image.specs.Spelling.{data_region}

-- ==== What the masks leave: an offset, an address of a region, a unit's start.

-- a number below 2 ^ k, put into a block of 2 ^ k
in_block : (q k r : ℕ) → r < 2 ^ k → bit_or r (q * 2 ^ k) ≡ q * 2 ^ k + r
in_block q k r h = or_comm r (q * 2 ^ k) ∙ or_shifted q k r h

pub record IsPlaced (base size a : ℕ) : Type 0 where
  pub from : base ≤ a
  pub below : a < base + size

-- the mask of the data size less 1 leaves an offset
pub offset_below : (base size least most x : ℕ) → IsRegion base size least most → bit_and x (size - 1) < size
offset_below base size least most x region =
    let k = region.power in
    let size_is : size ≡ 2 ^ k = region.size_is in
    let below : x % 2 ^ k < 2 ^ k = mod_below x (2 ^ k) (pow_pos k) in
    let value : bit_and x (size - 1) ≡ x % 2 ^ k = ap (λ n. bit_and x (n - 1)) region.size_is ∙ and_mask x k in
    omega arith

-- the base's bits put an offset into the region
pub placed : (base size least most x : ℕ) → IsRegion base size least most → x < size → IsPlaced base size (bit_or x base)
placed base size least most x region below =
    let k = region.power in
    let q = region.multiple in
    let size_is : size ≡ 2 ^ k = region.size_is in
    let base_is : base ≡ q * 2 ^ k = region.base_is ∙ ap (λ n. q * n) region.size_is in
    let value : bit_or x base ≡ q * 2 ^ k + x = ap (λ n. bit_or x n) base_is ∙ in_block q k x (omega arith) in
    record { from = omega arith; below = omega arith }

-- and leave an address of the region as it is
pub placed_again : (base size least most a : ℕ) → IsRegion base size least most → IsPlaced base size a → bit_or a base ≡ a
placed_again base size least most a region h =
    let k = region.power in
    let q = region.multiple in
    let size_is : size ≡ 2 ^ k = region.size_is in
    let base_is : base ≡ q * 2 ^ k = region.base_is ∙ ap (λ n. q * n) region.size_is in
    let from : base ≤ a = h.from in
    let below : a < base + size = h.below in
    let r = a - base in
    let a_is : a ≡ q * 2 ^ k + r = omega arith in
    let base_is' : base ≡ q * 2 ^ k + 0 = omega arith in
    let value : bit_or (q * 2 ^ k + r) (q * 2 ^ k + 0) ≡ bit_or q q * 2 ^ k + bit_or r 0 = or_block k q q r 0 (omega arith) (pow_pos k) in
    ap (λ n. bit_or n base) a_is ∙ ap (λ n. bit_or (q * 2 ^ k + r) n) base_is' ∙ value ∙ ap (λ n. n * 2 ^ k + bit_or r 0) (or_self q) ∙ ap (λ n. q * 2 ^ k + n) (or_zero_r r) ∙ sym a_is

-- the mask of the data size less 1, and then the base's bits, leave an address of the region
pub masked_data : (base size least most x : ℕ) → IsRegion base size least most → IsPlaced base size (bit_or (bit_and x (size - 1)) base)
masked_data base size least most x region = placed base size least most (bit_and x (size - 1)) region (offset_below base size least most x region)

-- the mask of the code size less a unit of 2 ^ u, and then the base's bits, leave a unit's start
pub masked_code : (base size most u x : ℕ) → u ≤ 8 → IsRegion base size 256 most
    → IsPlaced base size (bit_or (bit_and x (size - 2 ^ u)) base) × (bit_or (bit_and x (size - 2 ^ u)) base % 2 ^ u ≡ 0)
masked_code base size most u x small region =
    let unit = masked_unit u base size most x small region in
    (record { from = unit.0; below = unit.1 }, unit.2)

-- ==== Where an access on a register in or near the data falls, what it tells of the register where it was done, and which registers a write leaves alone.

-- ---- sums

back : (v n : ℕ) (w : ℤ) → w ≡ pos v +ℤ negsuc n → suc n ≤ v → v < 2 ^ 32 → word w ≡ v - suc n
back v n (pos k) e h fits = omega (arith, ints)
back v n (negsuc k) e h fits = absurd (omega (arith, ints))

plus_pos : (v n : ℕ) → offset_by v (pos n) ≡ (v + n) % 2 ^ 32
plus_pos v n = refl

plus_neg : (v n : ℕ) → suc n ≤ v → v < 2 ^ 32 → offset_by v (negsuc n) ≡ v - suc n
plus_neg v n h fits = back v n (pos v +ℤ negsuc n) refl h fits

-- from -far to far
abbrev pub IsWithin : ℕ → ℤ → Type 0
IsWithin far (pos n) = n ≤ far
IsWithin far (negsuc n) = n < far

pub imm12_within : (z : ℤ) → IsImm12 z → IsWithin 2048 z
imm12_within (pos n) (low, high) = omega (arith, ints)
imm12_within (negsuc n) (low, high) = omega (arith, ints)

module _ (p : Part) (room : HasGuardRoom p.data_base p.data_size) where
  -- ---- where an access falls

  near : (a : ℕ) → p.data_base ≤ a + 4096 → a < p.data_base + p.data_size + 4096 → InData p a ⊎ InGuard p a
  near a low high =
      let below : 4096 ≤ p.data_base = room.below in
      ⊎_elim
      (λ (less : a < p.data_base). inr (inl (inl (omega arith, omega arith))))
      (λ (more : p.data_base ≤ a). ⊎_elim
      (λ (less : a < p.data_base + p.data_size). inl (more, less))
      (λ (more : p.data_base + p.data_size ≤ a). inr (inl (inr (more, omega arith))))
      (cases_lt a (p.data_base + p.data_size)))
      (cases_lt a p.data_base)

  -- a register so far from the data, an offset that reaches so far and up to four bytes
  near_address : (v far reach : ℕ) (imm : ℤ) (k : ℕ) → IsNear (data_region p) far v → IsWithin reach imm → far + reach + 3 ≤ 4096 → k < 4 → InData p (address_after (offset_by v imm) k) ⊎ InGuard p (address_after (offset_by v imm) k)
  near_address v far reach (pos n) k lies within fits few =
      let above : p.data_base + p.data_size + 4096 ≤ 2 ^ 32 = room.above in
      let low : p.data_base ≤ v + far = lies.low in
      let high : v < p.data_base + p.data_size + far = lies.high in
      let e : address_after (offset_by v (pos n)) k ≡ v + n + k = omega (arith, plus_pos v n) in
      near (address_after (offset_by v (pos n)) k) (omega arith) (omega arith)
  near_address v far reach (negsuc n) k lies within fits few =
      let above : p.data_base + p.data_size + 4096 ≤ 2 ^ 32 = room.above in
      let below : 4096 ≤ p.data_base = room.below in
      let low : p.data_base ≤ v + far = lies.low in
      let high : v < p.data_base + p.data_size + far = lies.high in
      let back' = plus_neg v n (omega arith) (omega arith) in
      let e : address_after (offset_by v (negsuc n)) k ≡ v - suc n + k = omega (arith, back') in
      near (address_after (offset_by v (negsuc n)) k) (omega arith) (omega arith)

  pub one_address : (at n a : ℕ) → Contains (addresses at n) a → (k : ℕ) × (k < n) × (a ≡ address_after at k)
  one_address at n a (k, below, is) =
      let within : k < n = omega (arith, below, length-map (range_with_len 0 n) (address_after at), length-range_with_len 0 n) in
      (k, within, sym is ∙ get_or-map-range_with_len (address_after at) 0 n k k _ within (omega arith))

  pub near_access : (v far reach : ℕ) (imm : ℤ) (n a : ℕ) → IsNear (data_region p) far v → IsWithin reach imm → far + reach + 3 ≤ 4096 → n ≤ 4 → Contains (addresses (offset_by v imm) n) a → InData p a ⊎ InGuard p a
  near_access v far reach imm n a lies within fits few has =
      let one = one_address (offset_by v imm) n a has in
      subst (λ (x : ℕ). InData p x ⊎ InGuard p x) (sym one.2) (near_address v far reach imm one.0 lies within fits (omega (arith, one.1)))

  -- ---- what a step and an access make of what is known

  -- after a step it lies so much further
  pub stepped : (v : ℕ) (imm : ℤ) → IsNear (data_region p) 1020 v → IsWithin 2048 imm → IsNear (data_region p) (1020 + 2048) (result_of Add v (word imm))
  stepped v (pos n) lies within =
      let above : p.data_base + p.data_size + 4096 ≤ 2 ^ 32 = room.above in
      let low : p.data_base ≤ v + 1020 = lies.low in
      let high : v < p.data_base + p.data_size + 1020 = lies.high in
      let e : result_of Add v (word (pos n)) ≡ v + n = omega arith in
      record { low = omega arith; high = omega arith }
  stepped v (negsuc n) lies within =
      let above : p.data_base + p.data_size + 4096 ≤ 2 ^ 32 = room.above in
      let below : 4096 ≤ p.data_base = room.below in
      let low : p.data_base ≤ v + 1020 = lies.low in
      let high : v < p.data_base + p.data_size + 1020 = lies.high in
      let e : result_of Add v (word (negsuc n)) ≡ v - suc n = omega arith in
      record { low = omega arith; high = omega arith }

  -- where an access at a small offset fell into the data, it lies near them again
  pub used : (v : ℕ) (imm : ℤ) → IsNear (data_region p) (1020 + 2048) v → IsWithin 1020 imm → InData p (address_after (offset_by v imm) 0) → IsNear (data_region p) 1020 v
  used v (pos n) lies within (from, below) =
      let above : p.data_base + p.data_size + 4096 ≤ 2 ^ 32 = room.above in
      let low : p.data_base ≤ v + (1020 + 2048) = lies.low in
      let high : v < p.data_base + p.data_size + (1020 + 2048) = lies.high in
      let e : address_after (offset_by v (pos n)) 0 ≡ v + n = omega (arith, plus_pos v n) in
      record { low = omega arith; high = omega arith }
  used v (negsuc n) lies within (from, below) =
      let above : p.data_base + p.data_size + 4096 ≤ 2 ^ 32 = room.above in
      let room' : 4096 ≤ p.data_base = room.below in
      let low : p.data_base ≤ v + (1020 + 2048) = lies.low in
      let high : v < p.data_base + p.data_size + (1020 + 2048) = lies.high in
      let back' = plus_neg v n (omega arith) (omega arith) in
      let e : address_after (offset_by v (negsuc n)) 0 ≡ v - suc n = omega (arith, back') in
      record { low = omega arith; high = omega arith }

-- the first address is one of them
pub first_address : (at n : ℕ) → 0 < n → Contains (addresses at n) (address_after at 0)
first_address at n some =
    let within : 0 < length (addresses at n) = omega (arith, some, length-map (range_with_len 0 n) (address_after at), length-range_with_len 0 n) in
    (0, within, get_or-map-range_with_len (address_after at) 0 n 0 0 _ some refl)

pub record IsSize (n : ℕ) : Type 0 where
  pub some : 0 < n
  pub most : n ≤ 4

pub load_sized : (kind : LoadKind) → IsSize (load_size kind)
load_sized Lb = record { some = omega arith; most = omega arith }
load_sized Lh = record { some = omega arith; most = omega arith }
load_sized Lw = record { some = omega arith; most = omega arith }
load_sized Lbu = record { some = omega arith; most = omega arith }
load_sized Lhu = record { some = omega arith; most = omega arith }

pub store_sized : (width : StoreWidth) → IsSize (store_size width)
store_sized Sb = record { some = omega arith; most = omega arith }
store_sized Sh = record { some = omega arith; most = omega arith }
store_sized Sw = record { some = omega arith; most = omega arith }

pub load_range : (kind : LoadKind) (rd rs1 : ℕ) (imm : ℤ) → InRange (Load kind rd rs1 imm) → IsImm12 imm
unfolding InRange
load_range kind rd rs1 imm h = h.2

pub store_range : (width : StoreWidth) (rs1 rs2 : ℕ) (imm : ℤ) → InRange (Store width rs1 rs2 imm) → IsImm12 imm
unfolding InRange
store_range width rs1 rs2 imm h = h.2

-- ---- registers

pub kept : (r value j : ℕ) (h : Hart) → j ≢ r → slice_index (with_register h r value).registers j ≡ slice_index h.registers j
kept r value j h ne =
    cond_both (r == 0) h.registers (set h.registers r value) (λ (l : List ℕ). get_or l j 0 ≡ get_or h.registers j 0)
    (λ e. refl)
    (λ e. get_or-set_other h.registers r j value 0 ne)

-- and it leaves its value in its own register
pub written : (r value : ℕ) (h : Hart) → r ≢ 0 → r < length h.registers → register (with_register h r value) r ≡ value
written r value h ne within =
    ap (λ (l : List ℕ). get_or l r 0) (cond-false (r == 0) h.registers (set h.registers r value) (ne_eqb r 0 ne)) ∙ get_or-set_same h.registers r value 0 within

pub count_kept : (r value : ℕ) (h : Hart) → length (with_register h r value).registers ≡ length h.registers
count_kept r value h =
    cond_both (r == 0) h.registers (set h.registers r value) (λ (l : List ℕ). length l ≡ length h.registers) (λ e. refl) (λ e. length-set h.registers r value)

pub reserved_kept : (p : Part) (r value : ℕ) (h : Hart) → is_reserved r ≡ false → HasReserved p.format (reserved_of p) h.registers → HasReserved p.format (reserved_of p) (with_register h r value).registers
reserved_kept p r value h free has =
    let a = or_parts ((r == 24) || (r == 25) || (r == 26)) (r == 27) free in
    let b = or_parts ((r == 24) || (r == 25)) (r == 26) a.0 in
    let c = or_parts (r == 24) (r == 25) b.0 in
    record {
      code_base = kept r value 24 h (λ e. eqb-false r 24 c.0 (sym e)) ∙ has.code_base;
      code_mask = kept r value 25 h (λ e. eqb-false r 25 c.1 (sym e)) ∙ has.code_mask;
      data_base = λ two. kept r value 26 h (λ e. eqb-false r 26 b.1 (sym e)) ∙ has.data_base two;
      data_mask = kept r value 27 h (λ e. eqb-false r 27 a.1 (sym e)) ∙ has.data_mask;
    }
