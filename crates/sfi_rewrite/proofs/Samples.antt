-- States in which the expansions of a load, of an indirect jump and of writes of the stack pointer stand.
use Rattle.sfi_rewrite.proofs.Prelude.{◌≡◌, ℕ, zero, suc, ◌+◌, ◌-◌, ◌%◌, ◌^◌, ◌<◌, ◌≤◌, List, [], ◌∷◌, ◌++◌, length, take, drop, replicate, true, false, Option, Some, None, refl, sym, ap, subst, ◌∙◌, ⊎_elim, arith, get_or-drop, slice_index, nat_lt, Contains, pos, flat_map, list_all, and_parts, ltb-true, cases_lt, And, Or, Instr, Op, Load, Jalr, Bytes, IsMemory, byte_at, bytes_at, addresses, address_after, with_bytes, number_of, Hart, IsHart, Stands, effect, after_load, Wide, State, AreRegions, IsAskedOf, TransparencyCanBeMet, Next, Trap, spelling, Lw, Span, Sfi2, ints, get_or-take, BundleSlot}
use Rattle.sfi_formats.specs.declared.format.Format.{Format}
use Rattle.sfi_formats.specs.declared.format.Format.TheVariants.{Sfi1}
use Rattle.sfi_formats.specs.Formats.{unit}
use Rattle.rv_word.specs.Spelling.{InRange}
use Rattle.sfi_image.specs.Parts.{data_mask_of}
use Rattle.rv_comp.specs.Fronts.{Spells}
use Rattle.rv_mem.specs.Bytes.{in_front}
use Rattle.rv_step.specs.declared.outcome.Cause.TheVariants as cause
use Rattle.rv_word.specs.declared.instr.RegOp.{RegOp}
use Rattle.sfi_rewrite.specs.Expansion.{IsPlainExpansion}
use Rattle.sfi_rewrite.specs.Samples.{Meets, MeetsExpansion, MeetsTransparent, MeetsInside, MeetsOutside, MeetsStop, sample_load, sample_jump, sample_push, sample_upper, sample_pop}
use Rattle.std.specs.FinMap.{empty, get-empty}
use Rattle.std.specs.Int.{w32, to_le_bytes}
use Rattle.std.specs.Option.{option_map}
use Rattle.std.specs.Ordering.{nat_cmp}
use Rattle.rv_comp.proofs.Facts.{word_spells}
use Rattle.rv_mem.proofs.Facts.{addresses_are_these, others_stay, read_is_held, written_is_there}

-- ---- the regions and the registers

abbrev pub code_at : Span
code_at = record { base = 0x01000000; size = 256 }

abbrev pub data_at : Span
data_at = record { base = 0x02000000; size = 256 }

pub regions : AreRegions code_at data_at
regions = record {
  format = Sfi2;
  code_placed = record { power = 8; size_is = refl; at_least = omega arith; at_most = omega arith; multiple = 65536; base_is = refl };
  data_placed = record { power = 8; size_is = refl; at_least = omega arith; at_most = omega arith; multiple = 131072; base_is = refl };
}

-- x2 and x11 point into the data, x12 to a bundle start of the code, the reserved registers have
-- their values in this format, and all others are 0
abbrev pub hart_of : Format → ℕ → Hart
hart_of f pc = record {
  pc = pc;
  registers = 0 ∷ 0 ∷ 0x02000080 ∷ replicate 8 0 ++ (0x02000010 ∷ 0x01000010 ∷ (replicate 11 0 ++ (0x01000000 ∷ (256 - unit f) ∷ 0x02000000 ∷ data_mask_of f data_at ∷ 0 ∷ 0 ∷ 0 ∷ 0 ∷ [])));
}

pub each_below : (n : ℕ) (xs : List ℕ) → 0 < n → list_all (λ x. nat_lt x n) xs ≡ true → (k : ℕ) → slice_index xs k < n
each_below n [] some h k = some
each_below n (x ∷ xs) some h zero = ltb-true x n (and_parts (nat_lt x n) (list_all (λ y. nat_lt y n) xs) h).0
each_below n (x ∷ xs) some h (suc k) = each_below n xs some (and_parts (nat_lt x n) (list_all (λ y. nat_lt y n) xs) h).1 k

pub is_hart : (f : Format) → list_all (λ x. nat_lt x (2 ^ 32)) (hart_of f 0x01000000).registers ≡ true → IsHart (hart_of f 0x01000000)
is_hart f small = record {
  even = refl;
  address = omega arith;
  count = refl;
  words = each_below (2 ^ 32) (hart_of f 0x01000000).registers (omega arith) small;
  zero = refl;
}

-- ---- the words

abbrev pub IsSpelled : Instr → Type 0
IsSpelled i = Spells (to_le_bytes w32 (spelling i)) i 4

abbrev pub words_of : List Instr → List ℕ
words_of is = flat_map (λ i. to_le_bytes w32 (spelling i)) is

pub op_spelled : (op : RegOp) (rd a b : ℕ) → rd < 32 → a < 32 → b < 32 → IsSpelled (Op op rd a b)
unfolding InRange
op_spelled op rd a b d g h = word_spells (Op op rd a b) (d, g, h)

pub load_spelled : (rd a n : ℕ) → rd < 32 → a < 32 → n < 2048 → IsSpelled (Load Lw rd a (pos n))
unfolding InRange
load_spelled rd a n d h g = word_spells (Load Lw rd a (pos n)) (d, h, (omega (arith, ints), omega (arith, ints)))

pub jump_spelled : (a : ℕ) → a < 32 → IsSpelled (Jalr 1 a (pos 0))
unfolding InRange
jump_spelled a h = word_spells (Jalr 1 a (pos 0)) (omega arith, h, (omega (arith, ints), omega (arith, ints)))

pub push_spelled : IsSpelled sample_push
unfolding InRange
push_spelled = word_spells sample_push (omega arith, omega arith, (omega (arith, ints), omega (arith, ints)))

pub upper_spelled : IsSpelled sample_upper
unfolding InRange
upper_spelled = word_spells sample_upper (omega arith, omega arith)

pub pop_spelled : IsSpelled sample_pop
pop_spelled = load_spelled 2 2 1000 (omega arith) (omega arith) (omega arith)

words_small : (is : List Instr) (k : ℕ) → slice_index (words_of is) k < 256
words_small [] k = omega arith
words_small (i ∷ is) zero = omega arith
words_small (i ∷ is) (suc zero) = omega arith
words_small (i ∷ is) (suc (suc zero)) = omega arith
words_small (i ∷ is) (suc (suc (suc zero))) = omega arith
words_small (i ∷ is) (suc (suc (suc (suc k)))) = words_small is k

-- ---- the memory

-- the memory with more bytes, from base on
pub placed : Bytes → ℕ → List ℕ → Bytes
placed m base bytes = with_bytes m (addresses base (length bytes)) bytes

module _ (m : Bytes) (base : ℕ) (bytes : List ℕ) (fits : base + length bytes ≤ 2 ^ 32) where
  there : (k : ℕ) → k < length bytes → byte_at (placed m base bytes) (base + k) ≡ Some (slice_index bytes k)
  unfolding placed
  there k below = written_is_there m base bytes k fits below

  elsewhere : (a : ℕ) → (base ≤ a → a < base + length bytes → ⊥) → byte_at (placed m base bytes) a ≡ byte_at m a
  unfolding placed
  elsewhere a out = others_stay m (addresses base (length bytes)) bytes a not_there
    where
      not_there : Contains (addresses base (length bytes)) a → ⊥
      not_there c =
          let x = (addresses_are_these base (length bytes) a).0 c in
          let k = x.0 in
          let below : k < length bytes = x.1 in
          let is : a ≡ (base + k) % 2 ^ 32 = x.2 in
          let end = fits in
          out (omega arith) (omega arith)

  found : IsMemory m → ((k : ℕ) → slice_index bytes k < 256) → (a b : ℕ) → byte_at (placed m base bytes) a ≡ Some b → (a < 2 ^ 32) × (b < 256)
  found is small a b e =
      ⊎_elim
      (λ (less : a < base). outside (λ from below. omega arith))
      (λ (more : base ≤ a). ⊎_elim (λ (less : a < base + length bytes). inside more less) (λ (past : base + length bytes ≤ a). outside (λ from below. omega arith)) (cases_lt a (base + length bytes)))
      (cases_lt a base)
    where
      outside : (base ≤ a → a < base + length bytes → ⊥) → (a < 2 ^ 32) × (b < 256)
      outside out = let before : byte_at m a ≡ Some b = sym (elsewhere a out) ∙ e in (is.addresses a b before, is.bytes a b before)

      inside : base ≤ a → a < base + length bytes → (a < 2 ^ 32) × (b < 256)
      inside more less =
          let k = a - base in
          let end = fits in
          let at : base + k ≡ a = omega arith in
          let same : Some (slice_index bytes k) ≡ Some b = sym (there k (omega arith)) ∙ ap (byte_at (placed m base bytes)) at ∙ e in
          let value : slice_index bytes k ≡ b = cc in
          (omega arith, subst (λ (n : ℕ). n < 256) value (small k))

  placed_is : IsMemory m → ((k : ℕ) → slice_index bytes k < 256) → IsMemory (placed m base bytes)
  placed_is is small = record { addresses = λ a b e. (found is small a b e).0; bytes = λ a b e. (found is small a b e).1 }

empty_is : IsMemory empty
empty_is = record {
  addresses = λ a b e. absurd (let none : None ≡ Some b = sym (get-empty nat_cmp a) ∙ e in cc);
  bytes = λ a b e. absurd (let none : None ≡ Some b = sym (get-empty nat_cmp a) ∙ e in cc);
}

-- four bytes of data where x11 points, and the bytes of code from the code base on
abbrev pub four_zeros : List ℕ
four_zeros = 0 ∷ 0 ∷ 0 ∷ 0 ∷ []

abbrev pub with_data : Bytes
with_data = placed empty 0x02000010 four_zeros

abbrev pub with_code : List ℕ → Bytes
with_code bytes = placed with_data 0x01000000 bytes

module _ (bytes : List ℕ) (size : length bytes ≡ 12) where
  fits : 0x01000000 + length bytes ≤ 2 ^ 32
  fits = omega (arith, size)

  pub is_memory : ((k : ℕ) → slice_index bytes k < 256) → IsMemory (with_code bytes)
  is_memory small =
      placed_is with_data 0x01000000 bytes fits
      (placed_is empty 0x02000010 four_zeros (omega arith) empty_is (each_below 256 four_zeros (omega arith) refl))
      small

  pub stands : (f : Format) (at : ℕ) (i : Instr) → at + 4 ≤ 12 → length (take 4 (drop at bytes)) ≡ 4 → Spells (take 4 (drop at bytes)) i 4
      → Stands (record { hart = hart_of f (0x01000000 + at); memory = with_code bytes }) i 4
  stands f at i within four spelled = record {
    bytes = take 4 (drop at bytes);
    there = (read_is_held (with_code bytes) (0x01000000 + at) 4 (take 4 (drop at bytes))).1 (record { count = four; each = each });
    spelled = spelled;
  }
    where
      each : (k : ℕ) → k < 4 → byte_at (with_code bytes) (address_after (0x01000000 + at) k) ≡ Some (slice_index (take 4 (drop at bytes)) k)
      each k few =
          let e : (0x01000000 + at + k) % 2 ^ 32 ≡ 0x01000000 + (at + k) = omega arith in
          ap (byte_at (with_code bytes)) e ∙ there with_data 0x01000000 bytes fits (at + k) (omega (arith, size))
          ∙ ap Some (sym (get_or-take 4 (drop at bytes) k 0 few ∙ get_or-drop at bytes k 0))

  -- the four bytes of data are there
  has_data : bytes_at (with_code bytes) (addresses 0x02000010 4) ≡ Some four_zeros
  has_data = (read_is_held (with_code bytes) 0x02000010 4 four_zeros).1 (record { count = refl; each = each })
    where
      each : (k : ℕ) → k < 4 → byte_at (with_code bytes) (address_after 0x02000010 k) ≡ Some (slice_index four_zeros k)
      each k few =
          let e : (0x02000010 + k) % 2 ^ 32 ≡ 0x02000010 + k = omega arith in
          ap (byte_at (with_code bytes)) e
          ∙ elsewhere with_data 0x01000000 bytes fits (0x02000010 + k) (λ from below. omega (arith, size))
          ∙ there empty 0x02000010 four_zeros (omega arith) k few

  -- beyond them nothing is
  no_data : bytes_at (with_code bytes) (addresses 0x02000468 4) ≡ None
  no_data =
      ap (λ (o : Option ℕ). in_front o (bytes_at (with_code bytes) (0x02000469 ∷ 0x0200046a ∷ 0x0200046b ∷ [])))
      (elsewhere with_data 0x01000000 bytes fits 0x02000468 (λ from below. omega (arith, size))
      ∙ elsewhere empty 0x02000010 four_zeros (omega arith) 0x02000468 (λ from below. omega arith)
      ∙ get-empty nat_cmp 0x02000468)

  pub load_stops : (f : Format) → (effect sample_pop 4 (hart_of f 0x01000000) (with_code bytes)).outcome ≡ Trap cause.Load 0x02000468
  load_stops f = ap (λ (o : Option (List ℕ)). (after_load (option_map number_of o) Lw 2 0x02000468 4 (hart_of f 0x01000000) (with_code bytes)).outcome) no_data

  pub load_done : (f : Format) → (effect sample_load 4 (hart_of f 0x01000000) (with_code bytes)).outcome ≡ Next
  load_done f = ap (λ (o : Option (List ℕ)). (after_load (option_map number_of o) Lw 10 0x02000010 4 (hart_of f 0x01000000) (with_code bytes)).outcome) has_data

-- the state in which these words stand at the code base
abbrev pub state_of : Format → List ℕ → State
state_of f words = record { hart = hart_of f 0x01000000; memory = with_code words }

-- three instructions that stand at the code base, for one
pub asked_of : (f : Format) → list_all (λ x. nat_lt x (2 ^ 32)) (hart_of f 0x01000000).registers ≡ true
    → (i j k l : Instr) → IsSpelled j → IsSpelled k → IsSpelled l
    → IsAskedOf f i (Wide j ∷ Wide k ∷ Wide l ∷ []) code_at data_at (state_of f (words_of (j ∷ k ∷ l ∷ [])))
asked_of f masks i j k l first second third =
    let words = words_of (j ∷ k ∷ l ∷ []) in record {
      regions = regions;
      masked_base = λ one. record { power = 25; base_is = refl; no_lower = omega arith };
      is_state = record { hart = is_hart f masks; memory = is_memory words refl (words_small (j ∷ k ∷ l ∷ [])) };
      reserved = record { code_base = refl; code_mask = refl; data_base = λ _. refl; data_mask = refl };
      stand = (
        stands words refl f 0 j (omega arith) refl first,
        (stands words refl f 4 k (omega arith) refl second, (stands words refl f 8 l (omega arith) refl third, tt)),
      );
    }

-- slots that are an expansion in that state
abbrev pub meets : (f : Format) (i : Instr) (IsExpanded : List BundleSlot → Type 0) (slots : List BundleSlot) (words : List ℕ) → IsExpanded slots
    → IsAskedOf f i slots code_at data_at (state_of f words) → Meets f i IsExpanded
meets f i IsExpanded slots words expansion asked =
    record { slots = slots; expansion = expansion; code_at = code_at; data_at = data_at; state = state_of f words; asked = asked }

-- ---- the samples

-- the three instructions are the expansion
abbrev three_meet : (i j k l : Instr) → IsSpelled j → IsSpelled k → IsSpelled l → IsPlainExpansion Sfi2 false i (Wide j ∷ Wide k ∷ Wide l ∷ []) → MeetsExpansion Sfi2 i
three_meet i j k l first second third expansion =
    meets Sfi1 i (IsPlainExpansion Sfi2 false i) (Wide j ∷ Wide k ∷ Wide l ∷ []) (words_of (j ∷ k ∷ l ∷ [])) expansion (asked_of Sfi1 refl i j k l first second third)

load_met : MeetsTransparent Sfi2 sample_load
load_met = (
  three_meet sample_load (Op And 31 11 27) (Op Or 31 31 26) (Load Lw 10 31 (pos 0)) (op_spelled And 31 11 27 (omega arith) (omega arith) (omega arith))
      (op_spelled Or 31 31 26 (omega arith) (omega arith) (omega arith)) (load_spelled 10 31 0 (omega arith) (omega arith) (omega arith)) refl,
  refl,
  (omega arith, omega arith),
  load_done (words_of (Op And 31 11 27 ∷ Op Or 31 31 26 ∷ Load Lw 10 31 (pos 0) ∷ [])) refl Sfi1,
)

jump_met : MeetsTransparent Sfi2 sample_jump
jump_met = (
  three_meet sample_jump (Op And 31 12 25) (Op Or 31 31 24) (Jalr 1 31 (pos 0)) (op_spelled And 31 12 25 (omega arith) (omega arith) (omega arith))
      (op_spelled Or 31 31 24 (omega arith) (omega arith) (omega arith)) (jump_spelled 31 (omega arith)) refl,
  refl,
  record { held = (omega arith, omega arith); aligned = refl },
  refl,
)

-- what writes x2, and the pair
abbrev written_met : (i : Instr) → IsPlainExpansion Sfi2 false i (Wide i ∷ Wide (Op And 2 2 27) ∷ Wide (Op Or 2 2 26) ∷ []) → IsSpelled i → MeetsExpansion Sfi2 i
written_met i expansion spelled =
    three_meet i i (Op And 2 2 27) (Op Or 2 2 26) spelled (op_spelled And 2 2 27 (omega arith) (omega arith) (omega arith)) (op_spelled Or 2 2 26 (omega arith) (omega arith) (omega arith)) expansion

push_met : MeetsInside Sfi2 sample_push
push_met = (written_met sample_push refl push_spelled, refl, (refl, (omega arith, omega arith)))

upper_met : MeetsOutside Sfi2 sample_upper
upper_met = (written_met sample_upper refl upper_spelled, refl, (refl, λ held. let above = held.0 in omega arith))

pop_met : MeetsStop Sfi2 sample_pop
pop_met = (
  written_met sample_pop refl pop_spelled,
  refl,
  λ done. let e = sym (load_stops (words_of (sample_pop ∷ Op And 2 2 27 ∷ Op Or 2 2 26 ∷ [])) refl Sfi1) ∙ done in cc,
)

pub met : TransparencyCanBeMet
met = (load_met, jump_met, push_met, upper_met, pop_met)
