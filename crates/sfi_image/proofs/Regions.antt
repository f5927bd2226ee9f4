-- Regions: powers of two and spans, whole bundles, and masks of their sizes.
use Rattle.std.proofs.Math.Nat.{pow-suc, div-add-mod', mul-mod_left}
use Rattle.std.specs.Int.{IsPowerOfTwo}
use Rattle.std.specs.Int.Count.{ones_step, ones, ones_in}
use Rattle.sfi_image.proofs.Formats.{code_at_most, data_at_most}
use Rattle.std.proofs.Math.Arith.{mod-mul}
use Rattle.std.proofs.lemmas.Nat.{mod_below, mod_low, mod-mul-add, or_comm, or_shifted, pow_pos}
use Rattle.std.proofs.lemmas.Nat.Bits.{and_high}
use Rattle.std.specs.Int.Bits.{bit_and, bit_or}
use Rattle.sfi_image.proofs.Prelude.{◌≡◌, ℕ, zero, suc, ◌/◌, ◌%◌, ◌^◌, ◌<◌, ◌≤◌, refl, ap, ◌∙◌, arith, ◌⊎◌, inl, inr, eqb, IsTrue, ◌↔◌, ◌≢◌, count_ones, zero_from_ones, ones_le_self, cases_lt, eqb-true, eq-eqb, IsRegion, ◌+◌, ◌-◌, ◌*◌, length, ⊎_elim, pow-add, pow_below, Format, code_most, bundle_size, Part, AreWords, IsCodeRegion, IsOneBit, IsRightPart}

-- ==== Powers of two, multiples and spans.

power_by : (d n : ℕ) → n ≤ d → count_ones n ≡ 1 → IsPowerOfTwo n
power_by zero n le e = absurd (omega (arith, ones_le_self n))
power_by (suc d) n le e =
    elim (cases_lt (n % 2) 1) [
      | inl even ↦
          let half = power_by d (n / 2) (omega arith) (omega (arith, ones_step n)) in
          (suc half.0, omega (arith, half.1, pow-suc 2 half.0))
      | inr odd ↦ let none = zero_from_ones (n / 2) (omega (arith, ones_step n)) in (0, omega arith)
    ]

-- a number with one bit set is a power of two
power_of_ones : (n : ℕ) → count_ones n ≡ 1 → IsPowerOfTwo n
power_of_ones n e = power_by n n (omega arith) e

one_of_one : count_ones 1 ≡ 1
unfolding ones ones_in
one_of_one = refl

-- and the other way round
ones_of_power : (k : ℕ) → count_ones (2 ^ k) ≡ 1
ones_of_power zero = one_of_one
ones_of_power (suc k) =
    let half : 2 ^ suc k / 2 ≡ 2 ^ k = omega (arith, pow-suc 2 k) in
    let even : 2 ^ suc k % 2 ≡ 0 = omega (arith, pow-suc 2 k) in
    omega (arith, ones_step (2 ^ suc k), ones_of_power k, ap count_ones half)

-- a base is tested by its rest, where the size is tested already
pub region_test : (base size least most : ℕ) → count_ones size ≡ 1 → least ≤ size → size ≤ most → IsTrue (eqb (base % size) 0) ↔ IsRegion base size least most
region_test base size least most ones low high =
    let power = power_of_ones size ones in (
      λ t. record { power = power.0; size_is = power.1; at_least = low; at_most = high; multiple = base / size; base_is = omega (arith, div-add-mod' base size, eqb-true _ _ t) },
      λ r. eq-eqb _ _ (ap (λ (b : ℕ). b % size) r.base_is ∙ mul-mod_left r.multiple size),
    )

-- the first tests refuse what is no region
pub not_region : (base size least most : ℕ) → (count_ones size ≢ 1) ⊎ ((size < least) ⊎ (most < size)) → IsRegion base size least most → ⊥
not_region base size least most (inl bad) r = bad (ap count_ones r.size_is ∙ ones_of_power r.power)
not_region base size least most (inr (inl low)) r = omega (arith, r.at_least)
not_region base size least most (inr (inr high)) r = omega (arith, r.at_most)

-- a single bit is tested by its count
pub one_bit_test : (base size : ℕ) → ((count_ones base ≡ 1) × (size ≤ base)) ↔ IsOneBit base size
one_bit_test base size = (
  λ both. let power = power_of_ones base both.0 in record { power = power.0; base_is = power.1; no_lower = both.1 },
  λ one. (ap count_ones one.base_is ∙ ones_of_power one.power, one.no_lower),
)

-- ==== Code regions are whole bundles, and end within the addresses; so each number of a right sandbox has 32 bits.

-- powers of two in the order of their exponents
pub exponent_le : (k j : ℕ) → 2 ^ k ≤ 2 ^ j → k ≤ j
exponent_le k j h = ⊎_elim (λ less. let below : 2 ^ j < 2 ^ k = pow_below j k less in omega arith) (λ more. more) (cases_lt j k)

-- a code region ends at or below 2 ^ 32
region_end : (format : Format) (base size : ℕ) → base < 2 ^ 32 → IsCodeRegion format base size → base + size ≤ 2 ^ 32
region_end format base size address region =
    let limit = code_at_most format in
    let k = region.power in
    let q = region.multiple in
    let size_is : size ≡ 2 ^ k = region.size_is in
    let at_most : size ≤ code_most format = region.at_most in
    let narrow : k ≤ 32 = exponent_le k 32 (omega arith) in
    let j = 32 - k in
    let j_is : 32 ≡ j + k = omega arith in
    let power : 2 ^ 32 ≡ 2 ^ j * 2 ^ k = ap (λ n. 2 ^ n) j_is ∙ pow-add 2 j k in
    let base_is : base ≡ q * 2 ^ k = region.base_is ∙ ap (λ n. q * n) region.size_is in
    ⊎_elim
    (λ less. let grown : (q + 1) * 2 ^ k ≤ 2 ^ j * 2 ^ k = le_times (q + 1) (2 ^ j) (2 ^ k) (omega arith) in omega arith)
    (λ more. let grown : 2 ^ j * 2 ^ k ≤ q * 2 ^ k = le_times (2 ^ j) q (2 ^ k) more in omega arith)
    (cases_lt q (2 ^ j))
  where
    le_times : (a b c : ℕ) → a ≤ b → a * c ≤ b * c
    le_times a b c h = grind arith

-- its size and its base are whole bundles
bundles_of : (format : Format) (base size : ℕ) → IsCodeRegion format base size → (n : ℕ) × (m : ℕ) × (size ≡ bundle_size * n) × (base ≡ bundle_size * m)
bundles_of format base size region =
    let k = region.power in
    let q = region.multiple in
    let size_is : size ≡ 2 ^ k = region.size_is in
    let at_least : 256 ≤ size = region.at_least in
    let wide : 8 ≤ k = exponent_le 8 k (omega arith) in
    let j = k - 4 in
    let k_is : k ≡ j + 4 = omega arith in
    let power : 2 ^ k ≡ 2 ^ j * 16 = ap (λ n. 2 ^ n) k_is ∙ pow-add 2 j 4 in
    let base_is : base ≡ q * (16 * 2 ^ j) = region.base_is ∙ ap (λ n. q * n) (let e : size ≡ 16 * 2 ^ j = omega arith in e) in
    (2 ^ j, q * 2 ^ j, omega arith, omega arith)

-- a code region is whole bundles, at a multiple of a bundle's size, and ends at or below 2 ^ 32
pub whole_bundles : (format : Format) (base size : ℕ) → base < 2 ^ 32 → IsCodeRegion format base size
    → (n : ℕ) × (m : ℕ) × (size ≡ bundle_size * n) × (base ≡ bundle_size * m) × (base + size ≤ 2 ^ 32)
whole_bundles format base size address region =
    let whole = bundles_of format base size region in
    (whole.0, whole.1, whole.2, whole.3, region_end format base size address region)

-- a sandbox's code region ends within the addresses
pub code_ends : (p : Part) → IsRightPart p → p.code_base + length p.code ≤ 2 ^ 32
code_ends p right = region_end p.format p.code_base _ right.code_base right.code_placed

-- each number of a right sandbox has 32 bits
pub right_words : (p : Part) → IsRightPart p → AreWords p
right_words p right =
    let code_end = code_ends p right in
    let code_most = right.code_placed.at_most in
    let format_most = code_at_most p.format in
    let data_most = right.data_placed.at_most in
    let format_data_most = data_at_most p.format in
    let data_end = right.guard_room.above in
    let start = right.start.held.1 in
    let few_gates = right.gate_count in
    let few_init = right.init_len in
    record {
      fields = record {
        code_base = right.code_base;
        code_size = omega arith;
        data_base = omega arith;
        data_size = omega arith;
        start = omega arith;
        gate_count = omega arith;
        init_len = omega arith;
      };
      gates = λ k d within. let at = (right.gates.starts k d within).held.1 in let service = right.gates.services k d within in record { address = omega arith; service = omega arith };
    }

-- ==== What the mask of a region's size and the base's bits make of a number. Crates above cite this.

-- offset `y`, in units of 2 ^ u bytes, lies in a region of 2 ^ j units, and is a multiple of a unit
units_placed : (q j u y : ℕ) → y < 2 ^ j → (y * 2 ^ u < 2 ^ j * 2 ^ u) × (q * (2 ^ j * 2 ^ u) + y * 2 ^ u ≡ (q * 2 ^ j + y) * 2 ^ u + 0)
units_placed q j u y below =
    let some : 0 < 2 ^ u = pow_pos u in
    let more : (y + 1) * 2 ^ u ≤ 2 ^ j * 2 ^ u = le_times (y + 1) (2 ^ j) (2 ^ u) (omega arith) in
    (omega arith, grind arith)
  where
    le_times : (a b c : ℕ) → a ≤ b → a * c ≤ b * c
    le_times a b c h = grind arith

-- a number in a block of b is its rest there
rest_of : (q b x : ℕ) → q * b ≤ x → x < q * b + b → x % b ≡ x - q * b
rest_of q b x from below =
    let r = x - q * b in
    let is : x ≡ q * b + r = omega arith in
    ap (λ n. n % b) is ∙ mod-mul-add q b r (omega arith)

-- The mask of the size less a unit of 2 ^ u bytes, and then the base's bits, make of a number an
-- address of the region at which a unit begins. Such an address stays as it is.
pub masked_unit : (u base size most x : ℕ) → u ≤ 8 → IsRegion base size 256 most
    → (base ≤ bit_or (bit_and x (size - 2 ^ u)) base) × (bit_or (bit_and x (size - 2 ^ u)) base < base + size)
    × (bit_or (bit_and x (size - 2 ^ u)) base % 2 ^ u ≡ 0)
    × (base ≤ x → x < base + size → x % 2 ^ u ≡ 0 → bit_or (bit_and x (size - 2 ^ u)) base ≡ x)
masked_unit u base size most x short region =
    let k = region.power in
    let q = region.multiple in
    let size_is : size ≡ 2 ^ k = region.size_is in
    let at_least : 256 ≤ size = region.at_least in
    let wide : 8 ≤ k = exponent_le 8 k (omega arith) in
    let j = k - u in
    let k_is : k ≡ j + u = omega arith in
    let power : 2 ^ k ≡ 2 ^ j * 2 ^ u = ap (λ n. 2 ^ n) k_is ∙ pow-add 2 j u in
    let base_is : base ≡ q * 2 ^ k = region.base_is ∙ ap (λ n. q * n) region.size_is in
    let mask_is : size - 2 ^ u ≡ 2 ^ (j + u) - 2 ^ u = ap (λ n. n - 2 ^ u) (region.size_is ∙ ap (λ n. 2 ^ n) k_is) in
    by q j k (x / 2 ^ u % 2 ^ j) (mod_below (x / 2 ^ u) (2 ^ j) (pow_pos j)) size_is power base_is (ap (λ n. bit_and x n) mask_is ∙ and_high x j u)
    (ap (λ n. x % n) power ∙ mod-mul x (pow_pos j) (pow_pos u))
  where
    by : (q j k y : ℕ) → y < 2 ^ j → size ≡ 2 ^ k → 2 ^ k ≡ 2 ^ j * 2 ^ u → base ≡ q * 2 ^ k → bit_and x (size - 2 ^ u) ≡ y * 2 ^ u → x % 2 ^ k ≡ y * 2 ^ u + x % 2 ^ u
        → (base ≤ bit_or (bit_and x (size - 2 ^ u)) base) × (bit_or (bit_and x (size - 2 ^ u)) base < base + size)
        × (bit_or (bit_and x (size - 2 ^ u)) base % 2 ^ u ≡ 0)
        × (base ≤ x → x < base + size → x % 2 ^ u ≡ 0 → bit_or (bit_and x (size - 2 ^ u)) base ≡ x)
    by q j k y below size_is power base_is masked digits =
        let units = units_placed q j u y below in
        let fits : y * 2 ^ u < 2 ^ k = omega (arith, units.0, power) in
        let value : bit_or (bit_and x (size - 2 ^ u)) base ≡ q * 2 ^ k + y * 2 ^ u =
        ap (λ n. bit_or n base) masked ∙ ap (λ n. bit_or (y * 2 ^ u) n) base_is ∙ or_comm (y * 2 ^ u) (q * 2 ^ k) ∙ or_shifted q k (y * 2 ^ u) fits in
        let value' : bit_or (bit_and x (size - 2 ^ u)) base ≡ (q * 2 ^ j + y) * 2 ^ u + 0 = value ∙ ap (λ n. q * n + y * 2 ^ u) power ∙ units.1 in (
          omega arith,
          omega arith,
          ap (λ n. n % 2 ^ u) value' ∙ mod_low (q * 2 ^ j + y) u 0 (pow_pos u),
          λ from high aligned. let rest : x % 2 ^ k ≡ x - q * 2 ^ k = rest_of q (2 ^ k) x (omega arith) (omega arith) in omega arith,
        )
