-- Where a single mask leads, and where an access on a register beside the data falls.
use Rattle.std.specs.Int.Bits.{bit_and, and_zero_r}
use Rattle.std.proofs.Common.{◌*◌}
use Rattle.std.specs.Prelude.{◌/◌}
use Rattle.std.proofs.lemmas.Nat.{and_mask, and_block, mod_below, pow_pos, pow-add, div-add-mod'}
use Rattle.std.proofs.Math.Pow.{pow-lt}
use Rattle.sfi_formats.specs.Formats.{has_single_mask}
use Rattle.rv_word.specs.declared.instr.RegOp.TheVariants.{Add}
use Rattle.rv_step.specs.Step.{result_of}
use Rattle.sfi_image.specs.Parts.{IsRegion, IsOneBit}
use Rattle.sfi_image.specs.Spelling.{data_region, IsNearZero, InZoneAtZero, IsNearIn}
use Rattle.sfi_safe_runs.proofs.Accessing.{IsPlaced, IsWithin, near_access, one_address, stepped}
use Rattle.sfi_safe_runs.proofs.Prelude.{◌≡◌, ℕ, suc, ◌+◌, ◌-◌, ◌%◌, ◌^◌, ◌<◌, ◌≤◌, ◌⊎◌, true, refl, sym, ap, ◌∙◌, subst, inl, inr, ⊎_elim, arith, cases_lt, ℤ, pos, negsuc, ◌+ℤ◌, ints, Contains, offset_by, address_after, addresses, word, Part, HasGuardRoom, IsRightPart, InData, InGuard, IsNear}

-- ==== What a single mask leaves: an address of the data, or one below their size.

-- of a number a single bit is left, or none
single_bit : (x m : ℕ) → (bit_and x (2 ^ m) ≡ 0) ⊎ (bit_and x (2 ^ m) ≡ 2 ^ m)
single_bit x m =
    let low : x % 2 ^ m < 2 ^ m = mod_below x (2 ^ m) (pow_pos m) in
    let block : bit_and (x / 2 ^ m * 2 ^ m + x % 2 ^ m) (1 * 2 ^ m + 0) ≡ bit_and (x / 2 ^ m) 1 * 2 ^ m + bit_and (x % 2 ^ m) 0 = and_block m (x / 2 ^ m) 1 (x % 2 ^ m) 0 low (pow_pos m) in
    let bit : bit_and (x / 2 ^ m) 1 ≡ x / 2 ^ m % 2 = and_mask (x / 2 ^ m) 1 in
    let none : bit_and (x % 2 ^ m) 0 ≡ 0 = and_zero_r (x % 2 ^ m) in
    let one : 1 * 2 ^ m + 0 ≡ 2 ^ m = omega arith in
    let value : bit_and x (2 ^ m) ≡ x / 2 ^ m % 2 * 2 ^ m =
    ap (λ n. bit_and n (2 ^ m)) (sym (div-add-mod' x (2 ^ m))) ∙ ap (λ n. bit_and (x / 2 ^ m * 2 ^ m + x % 2 ^ m) n) (sym one) ∙ block
    ∙ ap (λ n. n * 2 ^ m + bit_and (x % 2 ^ m) 0) bit ∙ ap (λ n. x / 2 ^ m % 2 * 2 ^ m + n) none ∙ (let e : x / 2 ^ m % 2 * 2 ^ m + 0 ≡ x / 2 ^ m % 2 * 2 ^ m = omega arith in e) in
    ⊎_elim
    (λ (even : x / 2 ^ m % 2 < 1). let e : x / 2 ^ m % 2 ≡ 0 = omega arith in inl (value ∙ ap (λ n. n * 2 ^ m) e ∙ (let z : 0 * 2 ^ m ≡ 0 = omega arith in z)))
    (λ (odd : 1 ≤ x / 2 ^ m % 2). let e : x / 2 ^ m % 2 ≡ 1 = omega arith in inr (value ∙ ap (λ n. n * 2 ^ m) e ∙ (let z : 1 * 2 ^ m ≡ 2 ^ m = omega arith in z)))
    (cases_lt (x / 2 ^ m % 2) 1)

-- the mask is a single bit with all bits below the size
mask_leaves : (m k x : ℕ) → (bit_and x (2 ^ m * 2 ^ k + (2 ^ k - 1)) < 2 ^ k)
    ⊎ IsPlaced (2 ^ m * 2 ^ k) (2 ^ k) (bit_and x (2 ^ m * 2 ^ k + (2 ^ k - 1)))
mask_leaves m k x =
    let some : 0 < 2 ^ k = pow_pos k in
    let low : x % 2 ^ k < 2 ^ k = mod_below x (2 ^ k) some in
    let block : bit_and (x / 2 ^ k * 2 ^ k + x % 2 ^ k) (2 ^ m * 2 ^ k + (2 ^ k - 1)) ≡ bit_and (x / 2 ^ k) (2 ^ m) * 2 ^ k + bit_and (x % 2 ^ k) (2 ^ k - 1) = and_block k (x / 2 ^ k) (2 ^ m) (x % 2 ^ k) (2 ^ k - 1) low (omega arith) in
    let rest : bit_and (x % 2 ^ k) (2 ^ k - 1) ≡ x % 2 ^ k % 2 ^ k = and_mask (x % 2 ^ k) k in
    let below : x % 2 ^ k % 2 ^ k < 2 ^ k = mod_below (x % 2 ^ k) (2 ^ k) some in
    let value : bit_and x (2 ^ m * 2 ^ k + (2 ^ k - 1)) ≡ bit_and (x / 2 ^ k) (2 ^ m) * 2 ^ k + x % 2 ^ k % 2 ^ k =
    ap (λ n. bit_and n (2 ^ m * 2 ^ k + (2 ^ k - 1))) (sym (div-add-mod' x (2 ^ k))) ∙ block ∙ ap (λ n. bit_and (x / 2 ^ k) (2 ^ m) * 2 ^ k + n) rest in
    ⊎_elim
    (λ (none : bit_and (x / 2 ^ k) (2 ^ m) ≡ 0).
    let e : bit_and x (2 ^ m * 2 ^ k + (2 ^ k - 1)) ≡ 0 * 2 ^ k + x % 2 ^ k % 2 ^ k = value ∙ ap (λ n. n * 2 ^ k + x % 2 ^ k % 2 ^ k) none in
    inl (omega arith))
    (λ (bit : bit_and (x / 2 ^ k) (2 ^ m) ≡ 2 ^ m).
    let e : bit_and x (2 ^ m * 2 ^ k + (2 ^ k - 1)) ≡ 2 ^ m * 2 ^ k + x % 2 ^ k % 2 ^ k = value ∙ ap (λ n. n * 2 ^ k + x % 2 ^ k % 2 ^ k) bit in
    inr (record { from = omega arith; below = omega arith }))
    (single_bit (x / 2 ^ k) m)

-- the single mask leads below the size or into the data
pub one_step_masked : (base size least most x : ℕ) → IsRegion base size least most → IsOneBit base size
    → (bit_and x (base + size - 1) < size) ⊎ IsPlaced base size (bit_and x (base + size - 1))
one_step_masked base size least most x region bit =
    let j = bit.power in
    let k = region.power in
    let size_is : size ≡ 2 ^ k = region.size_is in
    let base_is : base ≡ 2 ^ j = bit.base_is in
    let no_lower : size ≤ base = bit.no_lower in
    let some : 0 < 2 ^ k = pow_pos k in
    ⊎_elim
    (λ (less : j < k). absurd (let more : 2 ^ j < 2 ^ k = pow-lt less in omega arith))
    (λ (more : k ≤ j).
    let m = j - k in
    let sum : j ≡ m + k = omega arith in
    let base_is' : base ≡ 2 ^ m * 2 ^ k = base_is ∙ ap (λ n. 2 ^ n) sum ∙ pow-add 2 m k in
    let mask_is : base + size - 1 ≡ 2 ^ m * 2 ^ k + (2 ^ k - 1) = omega arith in
    ⊎_elim
    (λ (below : bit_and x (2 ^ m * 2 ^ k + (2 ^ k - 1)) < 2 ^ k). inl (let e : bit_and x (base + size - 1) ≡ bit_and x (2 ^ m * 2 ^ k + (2 ^ k - 1)) = ap (bit_and x) mask_is in omega arith))
    (λ (lies : IsPlaced (2 ^ m * 2 ^ k) (2 ^ k) (bit_and x (2 ^ m * 2 ^ k + (2 ^ k - 1)))).
    let e : bit_and x (base + size - 1) ≡ bit_and x (2 ^ m * 2 ^ k + (2 ^ k - 1)) = ap (bit_and x) mask_is in
    let from : 2 ^ m * 2 ^ k ≤ bit_and x (2 ^ m * 2 ^ k + (2 ^ k - 1)) = lies.from in
    let below : bit_and x (2 ^ m * 2 ^ k + (2 ^ k - 1)) < 2 ^ m * 2 ^ k + 2 ^ k = lies.below in
    inr (record { from = omega arith; below = omega arith }))
    (mask_leaves m k x))
    (cases_lt j k)

-- so it leads beside the data
pub one_step_placed : (p : Part) (x far : ℕ) → IsRightPart p → has_single_mask p.format ≡ true → IsNearIn p.format (data_region p) far (bit_and x (p.data_base + p.data_size - 1))
one_step_placed p x far right one =
    ⊎_elim
    (λ (below : bit_and x (p.data_base + p.data_size - 1) < p.data_size). inr (one, inl (omega arith)))
    (λ (lies : IsPlaced p.data_base p.data_size (bit_and x (p.data_base + p.data_size - 1))).
    let from : p.data_base ≤ bit_and x (p.data_base + p.data_size - 1) = lies.from in
    let below : bit_and x (p.data_base + p.data_size - 1) < p.data_base + p.data_size = lies.below in
    inl (record { low = omega arith; high = omega arith }))
    (one_step_masked p.data_base p.data_size _ _ x right.data_placed (right.one_bit one))

-- ==== Numbers near zero, modulo 2 ^ 32, and what is added to them.

-- ---- sums with signed numbers

wrapped : (v n : ℕ) (w : ℤ) → w ≡ pos v +ℤ negsuc n → v < 2 ^ 32 → n < 2 ^ 32 → word w ≡ (v + word (negsuc n)) % 2 ^ 32
wrapped v n (pos k) e fits few = omega (arith, ints)
wrapped v n (negsuc k) e fits few = omega (arith, ints)

sum_is : (v : ℕ) (imm : ℤ) → v < 2 ^ 32 → IsWithin 4096 imm → offset_by v imm ≡ (v + word imm) % 2 ^ 32
sum_is v (pos n) fits within = omega arith
sum_is v (negsuc n) fits within = wrapped v n (pos v +ℤ negsuc n) refl fits (omega arith)

pub within_more : (near far : ℕ) (imm : ℤ) → near ≤ far → IsWithin near imm → IsWithin far imm
within_more near far (pos n) more within = omega arith
within_more near far (negsuc n) more within = omega arith

-- ---- numbers near zero

wider : (size far more at : ℕ) → far ≤ more → IsNearZero size far at → IsNearZero size more at
wider size far more at h (inl low) = inl (omega arith)
wider size far more at h (inr (high, fits)) = inr (omega arith, fits)

zero_fits : (size far at : ℕ) → size + far ≤ 2 ^ 32 → IsNearZero size far at → at < 2 ^ 32
zero_fits size far at fits (inl low) = omega arith
zero_fits size far at fits (inr (high, word)) = word

-- a sum lies so much further
moved : (size far reach v : ℕ) (imm : ℤ) → size + far + reach ≤ 2 ^ 32 → reach ≤ 4096 → IsNearZero size far v → IsWithin reach imm → IsNearZero size (far + reach) ((v + word imm) % 2 ^ 32)
moved size far reach v (pos n) fits few (inl low) within = inl (omega arith)
moved size far reach v (pos n) fits few (inr (high, word)) within =
    ⊎_elim
    (λ (less : v + n < 2 ^ 32). inr (omega arith, omega arith))
    (λ (more : 2 ^ 32 ≤ v + n). inl (omega arith))
    (cases_lt (v + n) (2 ^ 32))
moved size far reach v (negsuc n) fits few (inl low) within =
    ⊎_elim
    (λ (less : v < suc n). inr (omega arith, omega arith))
    (λ (more : suc n ≤ v). inl (omega arith))
    (cases_lt v (suc n))
moved size far reach v (negsuc n) fits few (inr (high, word)) within = inr (omega arith, omega arith)

-- ==== Registers beside the data.

module _ (p : Part) (room : HasGuardRoom p.data_base p.data_size) where
  -- ---- where an access falls

  zero_address : (v far reach : ℕ) (imm : ℤ) (k : ℕ) → IsNearZero p.data_size far v → IsWithin reach imm → far + reach + 3 ≤ 4096 → k < 4 → InZoneAtZero p.data_size (address_after (offset_by v imm) k)
  zero_address v far reach imm k lies within fits few =
      let above : p.data_base + p.data_size + 4096 ≤ 2 ^ 32 = room.above in
      let below : 4096 ≤ p.data_base = room.below in
      let there : IsNearZero p.data_size (far + reach) ((v + word imm) % 2 ^ 32) = moved p.data_size far reach v imm (omega arith) (omega arith) lies within in
      let sum = sum_is v imm (zero_fits p.data_size far v (omega arith) lies) (within_more reach 4096 imm (omega arith) within) in
      let there' : IsNearZero p.data_size (far + reach) (offset_by v imm) = subst (λ (a : ℕ). IsNearZero p.data_size (far + reach) a) (sym sum) there in
      let on : IsNearZero p.data_size (far + reach + 3) ((offset_by v imm + word (pos k)) % 2 ^ 32) = moved p.data_size (far + reach) 3 (offset_by v imm) (pos k) (omega arith) (omega arith) there' (omega arith) in
      let same : (offset_by v imm + word (pos k)) % 2 ^ 32 ≡ address_after (offset_by v imm) k = omega arith in
      wider p.data_size (far + reach + 3) 4096 (address_after (offset_by v imm) k) fits (subst (λ (a : ℕ). IsNearZero p.data_size (far + reach + 3) a) same on)

  pub beside_access : (v far reach : ℕ) (imm : ℤ) (n a : ℕ) → IsNearIn p.format (data_region p) far v → IsWithin reach imm → far + reach + 3 ≤ 4096 → n ≤ 4 → Contains (addresses (offset_by v imm) n) a → InData p a ⊎ InGuard p a
  beside_access v far reach imm n a (inl near) within fits few has = near_access p room v far reach imm n a near within fits few has
  beside_access v far reach imm n a (inr (one, zero)) within fits few has =
      let at = one_address p room (offset_by v imm) n a has in
      inr (inr (one, subst (λ (x : ℕ). InZoneAtZero p.data_size x) (sym at.2) (zero_address v far reach imm at.0 zero within fits (omega (arith, at.1)))))

  -- ---- what a step and an access make of what is known

  -- after a step it lies so much further
  pub beside_stepped : (v : ℕ) (imm : ℤ) → IsNearIn p.format (data_region p) 1020 v → IsWithin 2048 imm → IsNearIn p.format (data_region p) (1020 + 2048) (result_of Add v (word imm))
  beside_stepped v imm (inl near) within = inl (stepped p room v imm near within)
  beside_stepped v imm (inr (one, zero)) within =
      let above : p.data_base + p.data_size + 4096 ≤ 2 ^ 32 = room.above in
      let below : 4096 ≤ p.data_base = room.below in
      inr (one, moved p.data_size 1020 2048 v imm (omega arith) (omega arith) zero within)

  fits_beside : (v far : ℕ) → far ≤ 4096 → IsNearIn p.format (data_region p) far v → v < 2 ^ 32
  fits_beside v far few (inl near) =
      let above : p.data_base + p.data_size + 4096 ≤ 2 ^ 32 = room.above in
      let high : v < p.data_base + p.data_size + far = near.high in
      omega arith
  fits_beside v far few (inr (one, zero)) =
      let above : p.data_base + p.data_size + 4096 ≤ 2 ^ 32 = room.above in
      let below : 4096 ≤ p.data_base = room.below in
      zero_fits p.data_size far v (omega arith) zero

  back_near : (v : ℕ) (imm : ℤ) → v < 2 ^ 32 → IsWithin 1020 imm → InData p ((v + word imm) % 2 ^ 32) → IsNear (data_region p) 1020 v
  back_near v (pos n) fits within (from, below) =
      let above : p.data_base + p.data_size + 4096 ≤ 2 ^ 32 = room.above in
      let room' : 4096 ≤ p.data_base = room.below in
      record { low = omega arith; high = omega arith }
  back_near v (negsuc n) fits within (from, below) =
      let above : p.data_base + p.data_size + 4096 ≤ 2 ^ 32 = room.above in
      let room' : 4096 ≤ p.data_base = room.below in
      record { low = omega arith; high = omega arith }

  -- where an access at a small offset fell into the data, it lies near them
  pub beside_used : (v : ℕ) (imm : ℤ) → IsNearIn p.format (data_region p) (1020 + 2048) v → IsWithin 1020 imm → InData p (address_after (offset_by v imm) 0) → IsNear (data_region p) 1020 v
  beside_used v imm lies within inside =
      let fits = fits_beside v (1020 + 2048) (omega arith) lies in
      let sum = sum_is v imm fits (within_more 1020 4096 imm (omega arith) within) in
      let same : address_after (offset_by v imm) 0 ≡ (v + word imm) % 2 ^ 32 = omega (arith, sum) in
      back_near v imm fits within (subst (λ (a : ℕ). InData p a) same inside)
