-- What the masks make of a number: a data mask the address of the region with its offset.
use Rattle.sfi_rewrite.proofs.Prelude.{◌≡◌, ℕ, ◌+◌, ◌-◌, ◌*◌, ◌/◌, ◌%◌, ◌^◌, ◌<◌, ◌≤◌, sym, ap, ◌∙◌, arith, bit_and, bit_or, code_most, data_most, Hart, register, AreRegions, HasReserved, Add, Holds, Span, masked}
use Rattle.std.proofs.Common.{mul_assoc}
use Rattle.std.proofs.lemmas.Nat.{and_mask, and_block, pow_pos, div-add-mod', mod_low, pow-add, or_shifted, or_comm, mod-mul-add}
use Rattle.rv_step.specs.Step.{result_of}
use Rattle.std.proofs.Common.{true, false, refl, Bool, ◌⊎◌, inl, inr, ⊎_elim}
use Rattle.std.proofs.lemmas.Bool.{cases_lt, false≢true}
use Rattle.std.proofs.Math.Nat.{mod-eq_of_lt}
use Rattle.std.proofs.Math.Pow.{pow-lt}
use Rattle.std.specs.Prelude.{if◌then◌else◌}
use Rattle.std.specs.Int.Bits.{and_self, and_zero_l}
use Rattle.sfi_formats.specs.declared.format.Format.{Format}
use Rattle.sfi_formats.specs.Formats.{has_single_mask, unit}
use Rattle.sfi_image.specs.Parts.{IsRegion, IsOneBit, IsMaskedBase, data_mask_of, reserved_for}
use Rattle.sfi_image.proofs.Formats.{data_at_most}
use Rattle.sfi_image.proofs.Regions.{exponent_le}
use Rattle.sfi_image.proofs.Facts.{masked_unit}
use Rattle.sfi_rewrite.specs.Laws.{MasksCompose}
use Rattle.sfi_rewrite.specs.words.Transparency.{masked_in}

-- ---- a number under a mask

pub in_block : (q k r : ℕ) → r < 2 ^ k → bit_or r (q * 2 ^ k) ≡ q * 2 ^ k + r
in_block q k r h = or_comm r (q * 2 ^ k) ∙ or_shifted q k r h

-- a number in the block of that many is its rest
pub rest_of : (q b x : ℕ) → q * b ≤ x → x < q * b + b → x % b ≡ x - q * b
rest_of q b x from below =
    let r = x - q * b in
    let is : x ≡ q * b + r = omega arith in
    ap (λ n. n % b) is ∙ mod-mul-add q b r (omega arith)

-- under the mask of the size less a unit of at most 256 bytes, where the number is a multiple of the unit
pub unmoved : (u base size most x : ℕ) → u ≤ 8 → IsRegion base size 256 most → base ≤ x → x < base + size → x % 2 ^ u ≡ 0 → bit_or (bit_and x (size - 2 ^ u)) base ≡ x
unmoved u base size most x short region from below aligned = (masked_unit u base size most x short region).3 from below aligned

-- under the mask of size less 1 and the base's bits a number becomes an address of the region
moved_data : (base size most x : ℕ) → IsRegion base size 256 most → bit_or (bit_and x (size - 1)) base ≡ base + x % size
moved_data base size most x region =
    let k = region.power in
    let q = region.multiple in
    let size_is : size ≡ 2 ^ k = region.size_is in
    let at_least : 256 ≤ size = region.at_least in
    let low_part : bit_and x (size - 1) ≡ x % 2 ^ k = ap (λ n. bit_and x (n - 1)) region.size_is ∙ and_mask x k in
    let base_is : base ≡ q * 2 ^ k = region.base_is ∙ ap (λ n. q * n) region.size_is in
    let below : x % 2 ^ k < 2 ^ k = omega arith in
    ap (λ n. bit_or n base) low_part ∙ ap (λ n. bit_or (x % 2 ^ k) n) base_is ∙ in_block q k (x % 2 ^ k) below
    ∙ ap (λ n. n + x % 2 ^ k) (sym base_is) ∙ ap (λ n. base + x % n) (sym region.size_is)

-- masked by x27 and x26, while a sandbox of these regions runs, a number becomes an address of the
-- data region, where masks have two steps
pub masked_data : (f : Format) → has_single_mask f ≡ false → (c d : Span) (h : Hart) (x : ℕ) → AreRegions c d → HasReserved f (reserved_for f c d) h.registers → bit_or (bit_and x (register h 27)) (register h 26) ≡ masked d x
masked_data f two c d h x regions reserved =
    let mask : data_mask_of f d ≡ d.size - 1 = rw two refl in
    ap (λ n. bit_or (bit_and x n) (register h 26)) (reserved.data_mask ∙ mask) ∙ ap (λ n. bit_or (bit_and x (d.size - 1)) n) (reserved.data_base two)
    ∙ moved_data d.base d.size (data_most regions.format) x regions.data_placed

-- what lies in the region is its own address there
masked_held : (c d : Span) (x : ℕ) → AreRegions c d → Holds d x → masked d x ≡ x
masked_held c d x regions held =
    let region = regions.data_placed in
    let q = region.multiple in
    let base_is : d.base ≡ q * d.size = region.base_is in
    let from : d.base ≤ x = held.0 in
    let below : x < d.base + d.size = held.1 in
    let rest : x % d.size ≡ x - q * d.size = rest_of q d.size x (omega arith) (omega arith) in
    omega arith

pub unmasked_data : (f : Format) → has_single_mask f ≡ false → (c d : Span) (h : Hart) (x : ℕ) → AreRegions c d → HasReserved f (reserved_for f c d) h.registers → Holds d x → bit_or (bit_and x (register h 27)) (register h 26) ≡ x
unmasked_data f two c d h x regions reserved held = masked_data f two c d h x regions reserved ∙ masked_held c d x regions held

-- a unit's start that lies in the code stays as it is under x25 and x24
pub unmasked_code : (f : Format) (u : ℕ) → unit f ≡ 2 ^ u → (c d : Span) (h : Hart) (x : ℕ) → u ≤ 8 → AreRegions c d → HasReserved f (reserved_for f c d) h.registers → Holds c x → x % 2 ^ u ≡ 0
    → bit_or (bit_and x (register h 25)) (register h 24) ≡ x
unmasked_code f u is c d h x short regions reserved held aligned =
    ap (λ n. bit_or (bit_and x n) (register h 24)) (reserved.code_mask ∙ ap (λ n. c.size - n) is) ∙ ap (λ n. bit_or (bit_and x (c.size - 2 ^ u)) n) reserved.code_base
    ∙ unmoved u c.base c.size (code_most regions.format) x short regions.code_placed held.0 held.1 aligned

-- ---- sums

-- a multiple of the size changes no offset
mod_more : (c k x : ℕ) → 0 < 2 ^ k → (c * 2 ^ k + x) % 2 ^ k ≡ x % 2 ^ k
mod_more c k x some =
    let y = x / 2 ^ k in
    let parts : y * 2 ^ k + x % 2 ^ k ≡ x = div-add-mod' x (2 ^ k) in
    let both : c * 2 ^ k + x ≡ (c + y) * 2 ^ k + x % 2 ^ k = omega arith in
    ap (λ n. n % 2 ^ k) both ∙ mod_low (c + y) k (x % 2 ^ k) (omega arith)

-- the bits of a number beyond 32 change no offset
mod_word : (k x : ℕ) → k ≤ 32 → 0 < 2 ^ k → x % 2 ^ 32 % 2 ^ k ≡ x % 2 ^ k
mod_word k x narrow some =
    let j = 32 - k in
    let power : 2 ^ 32 ≡ 2 ^ j * 2 ^ k = ap (λ n. 2 ^ n) (let e : 32 ≡ j + k = omega arith in e) ∙ pow-add 2 j k in
    let y = x / 2 ^ 32 in
    let parts : y * 2 ^ 32 + x % 2 ^ 32 ≡ x = div-add-mod' x (2 ^ 32) in
    let block : y * 2 ^ 32 ≡ (y * 2 ^ j) * 2 ^ k = ap (λ n. y * n) power ∙ sym (mul_assoc y (2 ^ j) (2 ^ k)) in
    let is : (y * 2 ^ j) * 2 ^ k + x % 2 ^ 32 ≡ x = omega arith in
    sym (mod_more (y * 2 ^ j) k (x % 2 ^ 32) some) ∙ ap (λ n. n % 2 ^ k) is

mod_sum : (q k v w : ℕ) → k ≤ 32 → 0 < 2 ^ k → (q * 2 ^ k + v % 2 ^ k + w) % 2 ^ 32 % 2 ^ k ≡ (v + w) % 2 ^ 32 % 2 ^ k
mod_sum q k v w narrow some =
    let y = v / 2 ^ k in
    let parts : y * 2 ^ k + v % 2 ^ k ≡ v = div-add-mod' v (2 ^ k) in
    let left : q * 2 ^ k + v % 2 ^ k + w ≡ q * 2 ^ k + (v % 2 ^ k + w) = omega arith in
    let right : y * 2 ^ k + (v % 2 ^ k + w) ≡ v + w = omega arith in
    mod_word k (q * 2 ^ k + v % 2 ^ k + w) narrow some ∙ ap (λ n. n % 2 ^ k) left ∙ mod_more q k (v % 2 ^ k + w) some
    ∙ sym (mod_more y k (v % 2 ^ k + w) some) ∙ ap (λ n. n % 2 ^ k) right ∙ sym (mod_word k (v + w) narrow some)

masked_sum : (c d : Span) (v w : ℕ) → AreRegions c d → masked d (result_of Add (masked d v) w) ≡ masked d (result_of Add v w)
masked_sum c d v w regions =
    let region = regions.data_placed in
    let k = region.power in
    let q = region.multiple in
    let size_is : d.size ≡ 2 ^ k = region.size_is in
    let at_least : 256 ≤ d.size = region.at_least in
    let at_most : d.size ≤ 2 ^ 30 = omega (arith, region.at_most, data_at_most regions.format) in
    let narrow : k ≤ 32 = exponent_le k 32 (omega arith) in
    let base_is : d.base ≡ q * 2 ^ k = region.base_is ∙ ap (λ n. q * n) region.size_is in
    let sum = mod_sum q k v w narrow (omega arith) in
    ap (λ n. d.base + (d.base + v % n + w) % 2 ^ 32 % n) size_is ∙ ap (λ n. d.base + (n + v % 2 ^ k + w) % 2 ^ 32 % 2 ^ k) base_is
    ∙ ap (λ n. d.base + n) sum ∙ ap (λ n. d.base + (v + w) % 2 ^ 32 % n) (sym size_is)

-- ---- a single mask

-- a number in a block of 2 ^ k, whose place has no other bit than 2 ^ m
one_block : (m k q r : ℕ) → bit_and q (2 ^ m) ≡ q → r < 2 ^ k → bit_and (q * 2 ^ k + r) (2 ^ m * 2 ^ k + (2 ^ k - 1)) ≡ q * 2 ^ k + r
one_block m k q r same low =
    let some : 0 < 2 ^ k = pow_pos k in
    let rest : r % 2 ^ k ≡ r = mod-eq_of_lt low in
    and_block k q (2 ^ m) r (2 ^ k - 1) low (omega arith)
    ∙ ap (λ n. n * 2 ^ k + bit_and r (2 ^ k - 1)) same ∙ ap (λ n. q * 2 ^ k + n) (and_mask r k ∙ rest)

-- the base as a block of as many as the size
record IsBlock (base size : ℕ) : Type 0 where
  m : ℕ
  k : ℕ
  size_is : size ≡ 2 ^ k
  base_is : base ≡ 2 ^ m * 2 ^ k

is_block : (base size least most : ℕ) → IsRegion base size least most → IsOneBit base size → IsBlock base size
is_block base size least most region bit =
    let j = bit.power in
    let k = region.power in
    let size_is : size ≡ 2 ^ k = region.size_is in
    let base_is : base ≡ 2 ^ j = bit.base_is in
    let no_lower : size ≤ base = bit.no_lower in
    ⊎_elim
    (λ (less : j < k). absurd (let more : 2 ^ j < 2 ^ k = pow-lt less in omega arith))
    (λ (more : k ≤ j).
    let m = j - k in
    let sum : j ≡ m + k = omega arith in
    record { m = m; k = k; size_is = size_is; base_is = base_is ∙ ap (λ n. 2 ^ n) sum ∙ pow-add 2 m k })
    (cases_lt j k)

-- what lies in the data region, or below its size, has no bit beside the mask's
uncut : (base size least most x : ℕ) → IsRegion base size least most → IsOneBit base size → (x < size) ⊎ ((base ≤ x) × (x < base + size)) → bit_and x (base + size - 1) ≡ x
uncut base size least most x region bit lies =
    let b = is_block base size least most region bit in
    let size_is : size ≡ 2 ^ b.k = b.size_is in
    let base_is : base ≡ 2 ^ b.m * 2 ^ b.k = b.base_is in
    let some : 0 < 2 ^ b.k = pow_pos b.k in
    let mask : base + size - 1 ≡ 2 ^ b.m * 2 ^ b.k + (2 ^ b.k - 1) = omega arith in
    ap (bit_and x) mask
    ∙ ⊎_elim
    (λ (low : x < size).
    let is : x ≡ 0 * 2 ^ b.k + x = omega arith in
    ap (λ n. bit_and n (2 ^ b.m * 2 ^ b.k + (2 ^ b.k - 1))) is ∙ one_block b.m b.k 0 x (and_zero_l (2 ^ b.m)) (omega arith) ∙ sym is)
    (λ (held : (base ≤ x) × (x < base + size)).
    let from : base ≤ x = held.0 in
    let below : x < base + size = held.1 in
    let r = x - base in
    let is : x ≡ 2 ^ b.m * 2 ^ b.k + r = omega arith in
    ap (λ n. bit_and n (2 ^ b.m * 2 ^ b.k + (2 ^ b.k - 1))) is ∙ one_block b.m b.k (2 ^ b.m) r (and_self (2 ^ b.m)) (omega arith) ∙ sym is)
    lies

-- ---- the mask of a format

one_mask : (f : Format) (d : Span) → has_single_mask f ≡ true → data_mask_of f d ≡ d.base + d.size - 1
one_mask f d one = rw one refl

pub held_stays : (f : Format) (c d : Span) (x : ℕ) → AreRegions c d → IsMaskedBase f d.base d.size → Holds d x → masked_in f d x ≡ x
held_stays f c d x regions bit held = by (has_single_mask f) refl
  where
    by : (one : Bool) → has_single_mask f ≡ one → (if one then bit_and x (data_mask_of f d) else masked d x) ≡ x
    by true e = ap (bit_and x) (one_mask f d e) ∙ uncut d.base d.size 256 (data_most regions.format) x regions.data_placed (bit e) (inr (held.0, held.1))
    by false e = masked_held c d x regions held

two_sum : (f : Format) (c d : Span) (v w : ℕ) → AreRegions c d → has_single_mask f ≡ false → masked_in f d (result_of Add (masked_in f d v) w) ≡ masked_in f d (result_of Add v w)
two_sum f c d v w regions two = rw two (masked_sum c d v w regions)

low_stays : (f : Format) (c d : Span) (x : ℕ) → AreRegions c d → IsMaskedBase f d.base d.size → has_single_mask f ≡ true → x < d.size → masked_in f d x ≡ x
low_stays f c d x regions bit one low = by (has_single_mask f) one
  where
    by : (step : Bool) → step ≡ true → (if step then bit_and x (data_mask_of f d) else masked d x) ≡ x
    by true e = ap (bit_and x) (one_mask f d one) ∙ uncut d.base d.size 256 (data_most regions.format) x regions.data_placed (bit one) (inl low)
    by false e = absurd (false≢true e)

pub masks_compose : MasksCompose
masks_compose f c d v w regions bit = (λ held. held_stays f c d v regions bit held, λ two. two_sum f c d v w regions two, λ one low. low_stays f c d v regions bit one low)
