-- What the registers hold after a pair, and where the stack pointer lies.
use Rattle.sfi_rules.specs.Readings.{follows_pair, writes_stack, is_stack_pair, begins_pair, ends_pair, precedes_pair, is_jump}
use Rattle.std.specs.Prelude.{bit_and, bit_or}
use Rattle.sfi_safe_runs.proofs.Entries.{bundles as bundle_unit, bundles_two_steps, two_step_mask}
use Rattle.sfi_image.specs.Spelling.{data_region}
use Rattle.sfi_safe_runs.proofs.Accessing.{written, masked_data, masked_code}
use Rattle.sfi_pairs.proofs.Facts.{masking_is, placing_is}
use Rattle.sfi_safety.proofs.Prelude.{◌≡◌, ◌≢◌, ℕ, ◌-◌, ◌<◌, List, [], ◌∷◌, length, true, not, ◌&&◌, ◌==◌, sym, ap, ◌∙◌, subst, arith, slice_index, and_parts, and_from, not-true, false≢true, eqb-false, And, Or, Instr, Op, InRange, code_most, data_most, Hart, register, result_of, Part, code_region, IsBundleStart, InData, Leaves, follows_mask, WritesResult, InstructionLeaves, RegOp, is_masking, is_placing, is_reserved, false, Bool, ◌||◌, refl, inl, inr, ⊎_elim, cases_Bool, or_cases, or_left, or_right, not-false, Jal, Jalr, has_stack, BundlePlace, Piece, InstrInBundle, may_write_stack, breaks_stack, StackInData, StackInDataBefore, follows_data_pair}

-- ==== After an instruction the registers hold what it and the one before it leave: of a pair, an address of its region.

-- ---- the two instructions of a pair

-- the `or` is directly before, the `and` before it, and the target is not x0
record IsPair (mask base t : ℕ) (i : Instr) (earlier : List Instr) : Type 0 where
  placing : is_placing base t i ≡ true
  mask_before : follows_mask mask t earlier ≡ true
  target : t ≢ 0

pair_parts : (mask base t : ℕ) (i : Instr) (earlier : List Instr) → follows_pair mask base t (i ∷ earlier) ≡ true → IsPair mask base t i earlier
pair_parts mask base t i [] h = absurd (false≢true h)
pair_parts mask base t i (first ∷ earlier) h =
    let a = and_parts (is_masking mask t first && is_placing base t i && not (t == 0)) (not (is_reserved t)) h in
    let b = and_parts (is_masking mask t first && is_placing base t i) (not (t == 0)) a.0 in
    let c = and_parts (is_masking mask t first) (is_placing base t i) b.0 in
    record {
      placing = c.1;
      mask_before = and_from (is_masking mask t first) (not (t == 0)) c.0 b.1;
      target = eqb-false t 0 (not-true (t == 0) b.1);
    }

mask_parts : (mask t : ℕ) (first : Instr) (earlier : List Instr) → follows_mask mask t (first ∷ earlier) ≡ true → (is_masking mask t first ≡ true) × (t ≢ 0)
mask_parts mask t first earlier h =
    let a = and_parts (is_masking mask t first) (not (t == 0)) h in
    (a.0, eqb-false t 0 (not-true (t == 0) a.1))

-- ---- what they write

target_in_range : (op : RegOp) (t a b : ℕ) → InRange (Op op t a b) → t < 32
unfolding InRange
target_in_range op t a b h = h.0

result_there : (op : RegOp) (t a b : ℕ) (i : Instr) (before after : Hart) → i ≡ Op op t a b → t ≢ 0 → length before.registers ≡ 32 → InRange i → WritesResult i before after → register after t ≡ result_of op (register before a) (register before b)
result_there op t a b i before after e ne count range writes =
    let r = target_in_range op t a b (subst (λ (j : Instr). InRange j) e range) in
    let w = subst (λ (j : Instr). WritesResult j before after) e writes in
    ap (λ (l : List ℕ). slice_index l t) w ∙ written t _ before ne (omega (arith, r, count))

-- an `and t, a, mask` leaves its mask of something
after_mask : (mask t : ℕ) (i : Instr) (before after : Hart) → is_masking mask t i ≡ true → t ≢ 0 → length before.registers ≡ 32 → InRange i → WritesResult i before after → (x : ℕ) × (register after t ≡ bit_and x (register before mask))
after_mask mask t i before after h ne count range writes =
    let m = masking_is mask t i h in
    (register before m.0, result_there And t m.0 mask i before after m.1 ne count range writes)

after_placing : (base t : ℕ) (i : Instr) (before after : Hart) → is_placing base t i ≡ true → t ≢ 0 → length before.registers ≡ 32 → InRange i → WritesResult i before after → register after t ≡ bit_or (register before t) (register before base)
after_placing base t i before after h ne count range writes = result_there Or t t base i before after (placing_is base t i h) ne count range writes

-- ---- what is left

pub leaves_nothing : (p : Part) (registers : List ℕ) → Leaves p [] registers
leaves_nothing p registers = record {
  data_pair = λ t h. absurd (false≢true h);
  code_pair = λ t h. absurd (false≢true h);
  data_mask = λ t h. absurd (false≢true h);
  code_mask = λ t h. absurd (false≢true h);
}

pub leaves_after : InstructionLeaves
leaves_after p before after i earlier right bundles count reserved range writes had = record {
  data_pair = λ t h.
      let pair = pair_parts 27 26 t i earlier h in
      let x = had.data_mask t pair.mask_before in
      let value = after_placing 26 t i before after pair.placing pair.target count range writes in
      let two = bundles_two_steps p.format bundles in
      let masked : register before t ≡ bit_and x.0 (p.data_size - 1) = x.1 ∙ ap (λ n. bit_and x.0 n) (two_step_mask p.format (data_region p) two) in
      let value' : register after t ≡ bit_or (bit_and x.0 (p.data_size - 1)) p.data_base = value ∙ ap (λ n. bit_or n (register before 26)) masked ∙ ap (λ n. bit_or (bit_and x.0 (p.data_size - 1)) n) (reserved.data_base two) in
      let placed = masked_data p.data_base p.data_size 256 (data_most p.format) x.0 right.data_placed in
      subst (λ n. InData p n) (sym value') (placed.from, placed.below);
  code_pair = λ t h.
      let pair = pair_parts 25 24 t i earlier h in
      let x = had.code_mask t pair.mask_before in
      let value = after_placing 24 t i before after pair.placing pair.target count range writes in
      let value' : register after t ≡ bit_or (bit_and x.0 (length p.code - 16)) p.code_base = value ∙ ap (λ n. bit_or n (register before 24)) (x.1 ∙ ap (λ u. bit_and x.0 (length p.code - u)) (bundle_unit p.format bundles)) ∙ ap (λ n. bit_or (bit_and x.0 (length p.code - 16)) n) reserved.code_base in
      let placed = masked_code p.code_base (length p.code) (code_most p.format) 4 x.0 (omega arith) right.code_placed in
      subst (λ n. IsBundleStart (code_region p) n) (sym value') (record { held = (placed.0.from, placed.0.below); aligned = placed.1 });
  data_mask = λ t h.
      let parts = mask_parts 27 t i earlier h in
      let x = after_mask 27 t i before after parts.0 parts.1 count range writes in
      (x.0, x.1 ∙ ap (λ n. bit_and x.0 n) reserved.data_mask);
  code_mask = λ t h.
      let parts = mask_parts 25 t i earlier h in
      let x = after_mask 25 t i before after parts.0 parts.1 count range writes in
      (x.0, x.1 ∙ ap (λ n. bit_and x.0 n) reserved.code_mask);
}

-- ==== Where a format has a stack pointer, it lies in the data region, or is put there.

-- the instruction is one of the pair's two
abbrev pub is_of_pair : Instr → Bool
is_of_pair i = is_masking 27 2 i || is_placing 26 2 i

begins_of : (i : Instr) (later : List Piece) → begins_pair i later ≡ true → is_of_pair i ≡ true
begins_of i [] h = absurd (false≢true h)
begins_of i (y ∷ later) h = or_left (is_masking 27 2 i) (is_placing 26 2 i) (and_parts (is_masking 27 2 i) (is_placing 26 2 y.instr) h).0

ends_of : (earlier : List Instr) (i : Instr) → ends_pair earlier i ≡ true → is_of_pair i ≡ true
ends_of [] i h = absurd (false≢true h)
ends_of (b ∷ earlier) i h = or_right (is_masking 27 2 i) (is_placing 26 2 i) (and_parts (is_masking 27 2 b) (is_placing 26 2 i) h).1

met_of : (earlier : List Instr) (i : Instr) (later : List Piece) → (begins_pair i later || ends_pair earlier i) ≡ true → is_of_pair i ≡ true
met_of earlier i later h =
    ⊎_elim
    (λ (e : begins_pair i later ≡ true). begins_of i later e)
    (λ (e : ends_pair earlier i ≡ true). ends_of earlier i e)
    (or_cases (begins_pair i later) (ends_pair earlier i) h)

-- the pair writes x2
pair_writes : (b : BundlePlace) (i : Instr) → has_stack b.format ≡ true → is_of_pair i ≡ true → writes_stack b i ≡ true
pair_writes b (Op And rd rs1 rs2) has h =
    let two = or_cases ((rd == 2) && (rs2 == 27)) false h in
    and_from (has_stack b.format) (rd == 2) has (⊎_elim (λ (e : ((rd == 2) && (rs2 == 27)) ≡ true). (and_parts (rd == 2) (rs2 == 27) e).0) (λ (e : false ≡ true). absurd (false≢true e)) two)
pair_writes b (Op Or rd rs1 rs2) has h =
    let a = and_parts ((rd == 2) && (rs1 == 2)) (rs2 == 26) h in
    and_from (has_stack b.format) (rd == 2) has (and_parts (rd == 2) (rs1 == 2) a.0).0
pair_writes b _ has h = absurd (false≢true h)

-- what is neither of the pair's two stands where x2 lies in the data
pub stack_here : (p : Part) (earlier : List Instr) (here : Piece) (later : List Piece) (registers : List ℕ) → is_of_pair here.instr ≡ false
    → StackInDataBefore p earlier (here ∷ later) registers → StackInData p registers
stack_here p earlier here later registers other lies = λ has.
    ⊎_elim
    (λ inside. inside)
    (λ met. absurd (false≢true (sym other ∙ met_of earlier here.instr later met)))
    (lies has)

-- where x2 lies in the data it does so whatever comes
pub stack_lies : (p : Part) (earlier : List Instr) (later : List Piece) (registers : List ℕ) → StackInData p registers → StackInDataBefore p earlier later registers
stack_lies p earlier [] registers lies = lies
stack_lies p earlier (y ∷ later) registers lies = λ has. inl (lies has)

-- ---- after an instruction

-- the pair after it has begun, or begins
after_begun : (p : Part) (earlier : List Instr) (i : Instr) (later : List Piece) (registers : List ℕ) → begins_pair i later ≡ true → StackInDataBefore p (i ∷ earlier) later registers
after_begun p earlier i [] registers h = absurd (false≢true h)
after_begun p earlier i (y ∷ later) registers h = λ has. inr (or_right (begins_pair y.instr later) (is_stack_pair i y.instr) h)

after_preceding : (p : Part) (earlier : List Instr) (later : List Piece) (registers : List ℕ) → precedes_pair later ≡ true → StackInDataBefore p earlier later registers
after_preceding p earlier [] registers h = absurd (false≢true h)
after_preceding p earlier (y ∷ later) registers h = λ has. inr (or_left (begins_pair y.instr later) (ends_pair earlier y.instr) h)

-- the pair on x2 is a data pair
data_pair : (earlier : List Instr) (i : Instr) → ends_pair earlier i ≡ true → follows_data_pair 2 (i ∷ earlier) ≡ true
data_pair [] i h = absurd (false≢true h)
data_pair (b ∷ earlier) i h = rw h refl

-- after an instruction that breaks no rule, and from which control runs on
pub stack_after : (p : Part) (x : InstrInBundle) (i : Instr) (size : ℕ) (before after : List ℕ) → has_stack x.bundle.format ≡ has_stack p.format → breaks_stack x i ≡ false
    → (has_stack x.bundle.format ≡ true → writes_stack x.bundle i ≡ false → slice_index after 2 ≡ slice_index before 2)
    → Leaves p (i ∷ x.earlier) after
    → StackInDataBefore p x.earlier (record { instr = i; size = size } ∷ x.later) before
    → StackInDataBefore p (i ∷ x.earlier) x.later after
stack_after p x i size before after format free keeps leaves lies =
    ⊎_elim written kept (cases_Bool (writes_stack x.bundle i))
  where
    in_data : StackInData p after → StackInDataBefore p (i ∷ x.earlier) x.later after
    in_data inside = stack_lies p (i ∷ x.earlier) x.later after inside

    kept : writes_stack x.bundle i ≡ false → StackInDataBefore p (i ∷ x.earlier) x.later after
    kept none = in_data (λ has.
        ⊎_elim
        (λ (inside : InData p (slice_index before 2)). subst (λ (a : ℕ). InData p a) (sym (keeps (format ∙ has) none)) inside)
        (λ met. absurd (false≢true (sym none ∙ pair_writes x.bundle i (format ∙ has) (met_of x.earlier i x.later met))))
        (lies has))

    written : writes_stack x.bundle i ≡ true → StackInDataBefore p (i ∷ x.earlier) x.later after
    written some =
        let may : may_write_stack x i ≡ true = not-false _ (rw some at free) in
        ⊎_elim
        (λ (pair : (begins_pair i x.later || ends_pair x.earlier i) ≡ true). ⊎_elim
        (λ (e : begins_pair i x.later ≡ true). after_begun p x.earlier i x.later after e)
        (λ (e : ends_pair x.earlier i ≡ true). in_data (λ has. leaves.data_pair 2 (data_pair x.earlier i e)))
        (or_cases (begins_pair i x.later) (ends_pair x.earlier i) pair))
        (λ (e : (not (is_jump i) && precedes_pair x.later) ≡ true). after_preceding p (i ∷ x.earlier) x.later after (and_parts (not (is_jump i)) (precedes_pair x.later) e).1)
        (or_cases (begins_pair i x.later || ends_pair x.earlier i) (not (is_jump i) && precedes_pair x.later) may)

jump_other : (i : Instr) → is_jump i ≡ true → is_of_pair i ≡ false
jump_other (Jal rd offset) jump = refl
jump_other (Jalr rd rs1 imm) jump = refl
jump_other other jump = absurd (false≢true jump)

-- a jump that breaks no rule does not write it
pub jump_keeps : (x : InstrInBundle) (i : Instr) → is_jump i ≡ true → breaks_stack x i ≡ false → writes_stack x.bundle i ≡ false
jump_keeps x i jump free = ⊎_elim (λ some. absurd (none_may (not-false _ (rw some at free)))) (λ none. none) (cases_Bool (writes_stack x.bundle i))
  where
    none_may : may_write_stack x i ≡ true → ⊥
    none_may may =
        ⊎_elim
        (λ (pair : (begins_pair i x.later || ends_pair x.earlier i) ≡ true). false≢true (sym (jump_other i jump) ∙ met_of x.earlier i x.later pair))
        (λ (e : (not (is_jump i) && precedes_pair x.later) ≡ true). false≢true (rw jump at (and_parts (not (is_jump i)) (precedes_pair x.later) e).0))
        (or_cases (begins_pair i x.later || ends_pair x.earlier i) (not (is_jump i) && precedes_pair x.later) may)
