-- The lines that a turn comes to are ready: an access lies in the window, wholly in the data or not.
use Rattle.std.proofs.Common.{if◌then◌else◌, ◌≡◌, ℕ, ◌+◌, ◌-◌, ◌%◌, ◌^◌, ◌<◌, ◌≤◌, ◌⊎◌, Bool, true, false, refl, sym, ap, subst, arith, inl, inr, ◌∙◌}
use Rattle.sfi_formats.specs.Formats.{has_single_mask}
use Rattle.std.proofs.lemmas.Bool.{false≢true}
use Rattle.std.specs.Prelude.{ℤ, pos, negsuc, int_le, ◌+ℤ◌}
use Rattle.std.proofs.lemmas.Int.{ints}
use Rattle.rv_word.specs.Spelling.{IsImm12, offset_by}
use Rattle.rv_mem.specs.Bytes.{address_after}
use Rattle.std.specs.List.{Contains}
use Rattle.rv_word.specs.declared.instr.Instr.{Instr}
use Rattle.rv_word.specs.declared.instr.Instr.TheVariants.{Op, OpImm, Load, Store, Branch, Jal, Jalr, Lui, Auipc, Fence, Ecall, Ebreak}
use Rattle.rv_word.specs.Spelling.{InRange}
use Rattle.rv_mem.specs.Bytes.{IsMemory, IsThere, addresses}
use Rattle.rv_mem.proofs.Facts.{addresses_are_these}
use Rattle.rv_step.specs.State.{Hart, register}
use Rattle.rv_step.specs.Step.{load_size, store_size}
use Rattle.sfi_image.specs.Spelling.{Part, IsNear, IsNearIn, data_region}
use Rattle.sfi_image.specs.Parts.{HasGuardRoom, IsRightPart}
use Rattle.sfi_image.proofs.Formats.{data_at_most}
use Rattle.sfi_safe_runs.specs.Runs.{InData, InGuard}
use Rattle.sfi_safe_runs.proofs.Accessing.{load_range, load_sized, store_range, store_sized}
use Rattle.sfi_translate.specs.Machine.{Going, fixed, is_tested}
use Rattle.sfi_translate.specs.Ready.{AccessesSafely, IsSafeAccess}
unfoldable use Rattle.sfi_native.specs.Layout.{closed_above, closed_below}
use Rattle.sfi_native.specs.Layout.{value}
use Rattle.sfi_native.specs.Laws.{Accesses, IsInData, LeavesData}
use Rattle.sfi_native.proofs.Accessing.{negative_small, positive_small}

-- ==== An access near the data, or anywhere in 32 bits, stays in a window.

-- the access lies where so many bytes are closed below the data, and so many above
abbrev Stays : ℕ → ℕ → ℕ → ℕ → ℕ → ℕ → ℤ → Type 0
Stays base size below above n value offset =
    (int_le (pos base) (pos value +ℤ offset +ℤ pos below) ≡ true) × (int_le (pos value +ℤ offset +ℤ pos n) (pos (base + size + above)) ≡ true)

-- the address lies in the data or in a guard zone
abbrev IsAround : ℕ → ℕ → ℕ → Type 0
IsAround base size a = (base ≤ a + 4096) × (a < base + size + 4096)

by_cases : (t : Bool) → (t ≡ false → ⊥) → t ≡ true
by_cases true wrong = refl
by_cases false wrong = absurd (wrong refl)

module _ (base size value n : ℕ) (low : 4096 ≤ base) (high : base + size + 4096 ≤ 2 ^ 32) (some : 0 < n) (few : n ≤ 4) where
  -- near the data it doesn't wrap
  pub near : (offset : ℤ) → size ≤ 2 ^ 30 → IsAround base size value → IsImm12 offset
      → IsAround base size (address_after (offset_by value offset) 0) → IsAround base size (address_after (offset_by value offset) (n - 1))
      → Stays base size 4096 4096 n value offset
  near (pos k) most lies range first last =
      let small = positive_small k range in
      let at_is : offset_by value (pos k) ≡ (value + k) % 2 ^ 32 = refl in
      let whole : offset_by value (pos k) ≡ value + k = omega (arith, at_is, small, lies.0, lies.1, first.0, first.1, high, most) in
      let end : value + k + n ≤ base + size + 4096 = omega (arith, whole, first.0, first.1, last.0, last.1, high, most, some, few) in (
        by_cases (int_le (pos base) (pos value +ℤ pos k +ℤ pos 4096)) (λ e. omega (arith, ints, whole, first.0, e)),
        by_cases (int_le (pos value +ℤ pos k +ℤ pos n) (pos (base + size + 4096))) (λ e. omega (arith, ints, end, e)),
      )
  near (negsuc k) most lies range first last =
      let small = negative_small k range in
      let at_is : offset_by value (negsuc k) ≡ (value + (2 ^ 32 - 1 - k)) % 2 ^ 32 = grind (arith, ints) in
      let whole : offset_by value (negsuc k) + 1 + k ≡ value = omega (arith, at_is, small, lies.0, lies.1, first.0, first.1, high, low, most) in
      let end : value + n ≤ base + size + 4096 + k + 1 = omega (arith, whole, first.0, first.1, last.0, last.1, high, most, some, few) in (
        by_cases (int_le (pos base) (pos value +ℤ negsuc k +ℤ pos 4096)) (λ e. omega (arith, ints, whole, first.0, low, e)),
        by_cases (int_le (pos value +ℤ negsuc k +ℤ pos n) (pos (base + size + 4096))) (λ e. omega (arith, ints, end, e)),
      )

  -- a number of 32 bits and an offset lead less than a guard zone beyond all addresses
  pub wide : (offset : ℤ) → value < 2 ^ 32 → IsImm12 offset → Stays base size (base + 4096) (2 ^ 32 - (base + size) + 4096) n value offset
  wide (pos k) fits range =
      let small = positive_small k range in
      let end : value + k + n ≤ base + size + (2 ^ 32 - (base + size) + 4096) = omega (arith, small, fits, high, few) in (
        by_cases (int_le (pos base) (pos value +ℤ pos k +ℤ pos (base + 4096))) (λ e. omega (arith, ints, e)),
        by_cases (int_le (pos value +ℤ pos k +ℤ pos n) (pos (base + size + (2 ^ 32 - (base + size) + 4096)))) (λ e. omega (arith, ints, end, e)),
      )
  wide (negsuc k) fits range =
      let small = negative_small k range in
      let end : value + n ≤ base + size + (2 ^ 32 - (base + size) + 4096) + k + 1 = omega (arith, fits, high, few) in (
        by_cases (int_le (pos base) (pos value +ℤ negsuc k +ℤ pos (base + 4096))) (λ e. omega (arith, ints, small, e)),
        by_cases (int_le (pos value +ℤ negsuc k +ℤ pos n) (pos (base + size + (2 ^ 32 - (base + size) + 4096)))) (λ e. omega (arith, ints, end, e)),
      )

-- ==== What a turn has before a line is what the line's code asks for.

-- where a mask has two steps, a byte of an access lies around the data
around : (p : Part) (a : ℕ) → has_single_mask p.format ≡ false → IsRightPart p → InData p a ⊎ InGuard p a → IsAround p.data_base p.data_size a
around p a two right (inl (from, below)) = (omega (arith, from), omega (arith, below))
around p a two right (inr (inl (inl (from, below)))) = (omega (arith, from, right.guard_room.below), omega (arith, below))
around p a two right (inr (inl (inr (from, below)))) = (omega (arith, from), omega (arith, below))
around p a two right (inr (inr zone)) = absurd (false≢true (sym two ∙ zone.0))

-- and a base near them
near_data : (p : Part) (a : ℕ) → has_single_mask p.format ≡ false → IsNearIn p.format (data_region p) 4096 a → IsNear (data_region p) 4096 a
near_data p a two (inl lies) = lies
near_data p a two (inr zero) = absurd (false≢true (sym two ∙ zero.0))

-- in each format a base has 32 bits
near_fits : (p : Part) (a : ℕ) → p.data_size ≤ 2 ^ 30 → HasGuardRoom p.data_base p.data_size → IsNearIn p.format (data_region p) 4096 a → a < 2 ^ 32
near_fits p a most room (inl lies) = omega (arith, lies.high, room.above)
near_fits p a most room (inr (single, inl below)) = omega (arith, below, most)
near_fits p a most room (inr (single, inr above)) = above.1

module _ (p : Part) (g : Going) (right : IsRightPart p) (same : fixed p g.state.hart ≡ g.state.hart) where
  -- an access to the data, or one that isn't wholly in them
  abbrev Does : ℕ → ℤ → ℕ → Type 0
  Does v offset n = (IsInData p (offset_by v offset) n × IsThere g.state.memory (offset_by v offset) n) ⊎ LeavesData p v offset n

  module _ (rs1 : ℕ) (offset : ℤ) (n : ℕ) (some : 0 < n) (few : n ≤ 4) (range : IsImm12 offset) (safe : IsSafeAccess p g.state.memory (register g.state.hart rs1) offset n) where
    abbrev v : ℕ
    v = register g.state.hart rs1

    fits : n ≤ p.data_size
    fits = let least : 256 ≤ p.data_size = right.data_placed.at_least in omega (arith, few, least)

    most : p.data_size ≤ 2 ^ 30
    most = omega (arith, right.data_placed.at_most, data_at_most p.format)

    at_number : has_single_mask p.format ≡ false → (k : ℕ) → k < n → IsAround p.data_base p.data_size (address_after (offset_by v offset) k)
    at_number two k below = around p _ two right (safe.0.each (address_after (offset_by v offset) k) ((addresses_are_these (offset_by v offset) n (address_after (offset_by v offset) k)).1 (k, below, refl)))

    stays_in : (single : Bool) → has_single_mask p.format ≡ single
        → Stays p.data_base p.data_size (if single then p.data_base + 4096 else 4096) (if single then 2 ^ 32 - (p.data_base + p.data_size) + 4096 else 4096) n v offset
    stays_in true one =
        wide p.data_base p.data_size v n right.guard_room.below right.guard_room.above some few offset (near_fits p v most right.guard_room safe.0.from) range
    stays_in false two =
        let from = near_data p v two safe.0.from in
        near p.data_base p.data_size v n right.guard_room.below right.guard_room.above some few offset most (from.low, from.high) range
        (at_number two 0 some) (at_number two (n - 1) (omega (arith, some)))

    stays : Stays p.data_base p.data_size (closed_below p) (closed_above p) n v offset
    unfolding closed_below closed_above
    stays = stays_in (has_single_mask p.format) refl

    here : Does v offset n
    here = by safe.1
      where
        by : ((is_tested p (offset_by v offset) n ≡ true) × IsThere g.state.memory (offset_by v offset) n) ⊎ ((is_tested p (offset_by v offset) n ≡ false) × ((a : ℕ) × Contains (addresses (offset_by v offset) n) a × InGuard p a)) → Does v offset n
        by (inl (tested, there)) = inl (record { room = right.guard_room; fits = fits; tested = tested }, there)
        by (inr (failed, one)) = inr (record { room = right.guard_room; fits = fits; low = stays.0; high = stays.1; tested = failed })

    pub does_access : Does (value p g rs1) offset n
    does_access = subst (λ w. Does w offset n) (sym (ap (λ (h : Hart). register h rs1) same)) here

  pub accesses : (i : Instr) → IsMemory g.state.memory → InRange i → AccessesSafely p g.state i → Accesses p g i
  accesses (Load kind rd rs1 imm) memory range safe =
      by (does_access rs1 imm (load_size kind) (load_sized kind).some (load_sized kind).most (load_range kind rd rs1 imm range) safe)
    where
      by : Does (value p g rs1) imm (load_size kind) → Accesses p g (Load kind rd rs1 imm)
      by (inl (inside, there)) = inl (inside, memory, there)
      by (inr touches) = inr touches
  accesses (Store width rs1 rs2 imm) memory range safe = does_access rs1 imm (store_size width) (store_sized width).some (store_sized width).most (store_range width rs1 rs2 imm range) safe
  accesses (Op op rd rs1 rs2) memory range safe = tt
  accesses (OpImm op rd rs1 imm) memory range safe = tt
  accesses (Branch cond rs1 rs2 offset) memory range safe = tt
  accesses (Jal rd offset) memory range safe = tt
  accesses (Jalr rd rs1 imm) memory range safe = tt
  accesses (Lui rd imm) memory range safe = tt
  accesses (Auipc rd imm) memory range safe = tt
  accesses (Fence imm rd rs1) memory range safe = tt
  accesses Ecall memory range safe = tt
  accesses Ebreak memory range safe = tt
