-- What of a block of code in words breaks no rule and leaves nothing owed.
use Rattle.sfi_scan.proofs.Prelude.{◌≡◌, ℕ, ◌+◌, ◌*◌, ◌/◌, ◌%◌, ◌<◌, Bool, true, false, not, ◌&&◌, ◌||◌, ◌==◌, ◌⊎◌, List, length, take, drop, refl, sym, ap, ◌∙◌, subst, inl, inr, arith, w16, w32, from_le_bytes, and_parts, length-take, length-drop, take-take, drop-drop, drop-take, Instr, Op, And, outline, IsWordOf, is_reserved, BundlePlace, bundle_at, IsWithinBlock, OnTrue, half_at, word_at as word_from, and_from, Outline, Computes, Loads, IsShortSpelling, is_data_register, Owed, Nothing, MaskOrUse, Code, IsCleanWord, IsSteppedWord, IsPairAt, is_reserved_or_typed, is_clean_alone, IsBeforeEnd, IsQuiet, IsQuietThere}
use Rattle.rv_word.specs.declared.outline.Outline.TheVariants.{Stores, Orders, Stops}
use Rattle.rv_word.proofs.Facts.{one_spelling}
use Rattle.sfi_masks.specs.Masks.{half_at as block_half, word_at, may_write_in_words, may_be_on_in_words, is_free_by, IsFreeHalfBy, IsFreeWordBy, IsSingleMask}
use Rattle.sfi_rules.specs.words.Rules.{may_access}
use Rattle.sfi_scan.specs.private.Words.{bytes_at, IsQuietWord, IsMasking, IsPlacing, IsPair, IsStepOf, IsUseOf, IsUsedStep, IsCleanHalfAlone}
use Rattle.sfi_formats.specs.declared.format.Format.{Format}
use Rattle.sfi_formats.specs.Formats.{has_single_mask, is_data_register_in}
use Rattle.sfi_scan.proofs.WordLook.{quiet_word, found_wide, found_halves, masking, placing, placing_code, masked, placed, single, single_alone, stepping, code_owed, owing, plain, used}

-- ---- what the masks tell to be free is plain

unkept : (r : ℕ) → may_write_in_words r ≡ true → not (is_reserved_or_typed r) ≡ true
unkept r may = sym (none_of (is_reserved r) (is_data_register r) (r == 30) (r == 31)) ∙ may
  where
    none_of : (p q r s : Bool) → (not p && not (q || r || s)) ≡ not (p || q || r || s)
    none_of true q r s = refl
    none_of false q r s = refl

-- an access on the register needs nothing beside it, in code in words of this format
abbrev on : Format → ℕ → Bool
on f r = may_be_on_in_words (has_single_mask f) r

on_base : (f : Format) (base : ℕ) → on f base ≡ true → may_access f base ≡ true
on_base f base h = by (is_data_register base) (base == 26) (base == 31) (has_single_mask f) h
  where
    by : (p q r s : Bool) → (p || q || (s && r)) ≡ true → (p || ((q || r) && s) || q) ≡ true
    by true q r s h = refl
    by false true r true h = refl
    by false true r false h = refl
    by false false true true h = refl
    by false false false true h = absurd cc
    by false false r false h = absurd cc

free_plain : (b : BundlePlace) (at : ℕ) (o : Outline) → is_free_by may_write_in_words (on b.format) o ≡ true → is_clean_alone b at o ≡ true
free_plain b at (Computes rd) h = unkept rd h
free_plain b at (Loads rd base) h =
    let both = and_parts (may_write_in_words rd) (on b.format base) h in
    and_from (not (is_reserved_or_typed rd)) (may_access b.format base) (unkept rd both.0) (on_base b.format base both.1)
free_plain b at (Stores base) h = on_base b.format base h
free_plain b at Orders h = refl
free_plain b at Stops h = refl
free_plain b at o h = absurd cc

half_plain : (b : BundlePlace) (at half there : ℕ) → half ≡ there → IsFreeHalfBy may_write_in_words (on b.format) half → IsCleanHalfAlone b at there
half_plain b at half there e x = record { instr = x.instr; spelled = subst (λ (h : ℕ). IsShortSpelling h x.instr) e x.spelled; plain = free_plain b at (outline x.instr) x.free }

-- ---- the words of a block

module _ (b : BundlePlace) (within : IsWithinBlock b) (block : List ℕ) (long : length block ≡ 128) (i : ℕ) (even : i % 2 ≡ 0) (below : i < 64) where
  whole : length (bytes_at block i) ≡ 4
  whole = omega (arith, length-take 4 (drop (2 * i) block), length-drop (2 * i) block, long, even, below)

  -- what is told of the word
  there_clean : (word : ℕ) (o next : Owed) → word ≡ word_at block i → IsQuietThere (bundle_at b (i / 8)) (b.address + 2 * i) o word next → IsCleanWord b block i o next
  there_clean word o next is quiet =
      let same : word_at block i ≡ word_from (bytes_at block i) 0 = ap (from_le_bytes w32) (sym (take-take 4 4 (drop (2 * i) block) (omega arith))) in
      found_wide (bundle_at b (i / 8)) (b.address + 2 * i) o (bytes_at block i) next whole
      (subst (λ (w : ℕ). IsQuietThere (bundle_at b (i / 8)) (b.address + 2 * i) o w next) (is ∙ same) quiet)

  -- the bundle of the word, and the word's address
  abbrev word_bundle : BundlePlace
  word_bundle = bundle_at b (i / 8)

  abbrev word_address : ℕ
  word_address = b.address + 2 * i

  before : IsBeforeEnd word_bundle word_address 4
  before = let end = within.end in omega (arith, end, below)

  word_leads : (o next : Owed) (x : Instr) → IsWordOf (word_at block i) x → IsQuiet word_bundle word_address 4 o x next → IsCleanWord b block i o next
  word_leads o next x spelled quiet = there_clean (word_at block i) o next refl (quiet_word word_bundle word_address o (word_at block i) x next spelled quiet)

  pub step_clean : (d : ℕ) → is_data_register_in b.format d ≡ true → IsStepOf d (word_at block i) → IsCleanWord b block i Nothing (MaskOrUse d)
  step_clean d h s = word_leads Nothing (MaskOrUse d) s.0 s.1 (stepping word_bundle word_address 4 before d s.0 h s.2)

  pub use_clean : (d : ℕ) → IsUseOf d (word_at block i) → IsFreeWordBy may_write_in_words (on b.format) (word_at block i) → IsCleanWord b block i (MaskOrUse d) Nothing
  use_clean d u f =
      let same : u.0 ≡ f.instr = one_spelling (word_at block i) u.0 f.instr u.1 f.spelled in
      word_leads (MaskOrUse d) Nothing u.0 u.1 (used word_bundle word_address 4 d u.0 before u.2 (ap (λ (x : Instr). is_clean_alone word_bundle word_address (outline x)) same ∙ free_plain word_bundle word_address (outline f.instr) f.free))

  pub code_masking_clean : (a : ℕ) → IsWordOf (word_at block i) (Op And 30 a 25) → IsCleanWord b block i Nothing Code
  code_masking_clean a is = word_leads Nothing Code (Op And 30 a 25) is (owing word_bundle word_address 4 before 30 (Op And 30 a 25) Code refl refl refl)

  pub code_placing_clean : IsWordOf (word_at block i) placing_code → IsCleanWord b block i Code Nothing
  code_placing_clean is = word_leads Code Nothing placing_code is (code_owed word_bundle word_address 4 before)

  pub code_placing_quiet : IsWordOf (word_at block i) placing_code → IsQuietWord b block i
  code_placing_quiet is = word_leads Nothing Nothing placing_code is (owing word_bundle word_address 4 before 30 placing_code Nothing refl refl refl)

  pub free_word_quiet : IsFreeWordBy may_write_in_words (on b.format) (word_at block i) → IsQuietWord b block i
  free_word_quiet f = word_leads Nothing Nothing f.instr f.spelled (plain word_bundle word_address 4 f.instr before (free_plain word_bundle word_address (outline f.instr) f.free))

  pub single_mask_quiet : has_single_mask b.format ≡ true → IsSingleMask (word_at block i) → IsQuietWord b block i
  single_mask_quiet one m =
      let d = m.register in
      let has : is_data_register_in b.format d ≡ true = ap (λ s. is_data_register d || (((d == 26) || (d == 31)) && s)) one ∙ m.is_data in
      word_leads Nothing Nothing (single d m.operand) m.spelled (single_alone word_bundle word_address 4 before d m.operand one has)

  pub masking_quiet : IsMasking (word_at block i) → IsQuietWord b block i
  masking_quiet m = word_leads Nothing Nothing (masking m.0) m.1 (masked word_bundle word_address 4 before m.0)

  pub placing_quiet : has_single_mask b.format ≡ false → IsPlacing (word_at block i) → IsQuietWord b block i
  placing_quiet two p = word_leads Nothing Nothing (placing p.0) p.2 (placed word_bundle word_address 4 before p.0 two p.1)

  first_half : block_half block i ≡ half_at (bytes_at block i) 0
  first_half = ap (from_le_bytes w16) (sym (take-take 2 4 (drop (2 * i) block) (omega arith)))

  second_half : block_half block (i + 1) ≡ half_at (bytes_at block i) 2
  second_half =
      ap (from_le_bytes w16) (sym (ap (take 2) (drop-take 2 2 (drop (2 * i) block)) ∙ take-take 2 2 (drop 2 (drop (2 * i) block)) (omega arith)
      ∙ ap (take 2) (drop-drop 2 (2 * i) block ∙ ap (λ (k : ℕ). drop k block) (let e : 2 * i + 2 ≡ 2 * (i + 1) = omega arith in e))))

  pub free_halves_quiet : IsFreeHalfBy may_write_in_words (on b.format) (block_half block i) → IsFreeHalfBy may_write_in_words (on b.format) (block_half block (i + 1)) → IsQuietWord b block i
  free_halves_quiet x y = found_halves word_bundle word_address (bytes_at block i) whole before (half_plain word_bundle word_address _ _ first_half x) (half_plain word_bundle (word_address + 2) _ _ second_half y)

-- ---- pairs

module _ (b : BundlePlace) (within : IsWithinBlock b) (block : List ℕ) (i : ℕ) (long : length block ≡ 128) (p : IsPairAt b.format block i) where
  low : i < 64
  low = let below = p.below in omega (arith, below)

  second_even : (i + 2) % 2 ≡ 0
  second_even = let here = p.even in omega (arith, here)

  -- the first word of a pair is quiet, or is seen with the second
  pub first_of_pair : IsQuietWord b block i ⊎ IsSteppedWord b block i
  first_of_pair = elim p.pair [
    | inl of_data ↦ inl (masking_quiet b within block long i p.even low of_data.1)
    | inr of_code ↦ inr (record {
      below = p.below;
      between = Code;
      step = code_masking_clean b within block long i p.even low of_code.0.0 of_code.0.1;
      used = code_placing_clean b within block long (i + 2) second_even p.below of_code.1;
    })
  ]

  pub second_of_pair : IsQuietWord b block (i + 2)
  second_of_pair = elim p.pair [
    | inl of_data ↦ placing_quiet b within block long (i + 2) second_even p.below of_data.0 of_data.2
    | inr of_code ↦ code_placing_quiet b within block long (i + 2) second_even p.below of_code.1
  ]

-- a step and its use
pub stepped : (b : BundlePlace) → IsWithinBlock b → (block : List ℕ) (i word next : ℕ) → length block ≡ 128 → i % 2 ≡ 0 → i + 2 < 64 → word ≡ word_at block i → next ≡ word_at block (i + 2) → IsFreeWordBy may_write_in_words (on b.format) (word_at block (i + 2)) → IsUsedStep b.format word next → IsSteppedWord b block i
stepped b within block i word next long even below first second f h = record {
  below = below;
  between = MaskOrUse h.register;
  step = step_clean b within block long i even (omega (arith, below)) h.register h.is_data (subst (IsStepOf h.register) first h.step);
  used = use_clean b within block long (i + 2) (omega (arith, even)) below h.register (subst (IsUseOf h.register) second h.used) f;
}

-- the next word
pub next_is : (block : List ℕ) (i : ℕ) → word_from block (2 * i + 4) ≡ word_at block (i + 2)
next_is block i = ap (λ (k : ℕ). word_from block k) (let e : 2 * i + 4 ≡ 2 * (i + 2) = omega arith in e)

-- a pair that is told there
pub pair_at : (f : Format) (block : List ℕ) (i first second : ℕ) → i % 2 ≡ 0 → i + 2 < 64 → first ≡ word_at block i → second ≡ word_at block (i + 2) → IsPair f first second → IsPairAt f block i
pair_at f block i first second even below one other h = record {
  below = below;
  even = even;
  pair = subst (λ (n : ℕ). IsPair f (word_at block i) n) other (subst (λ (n : ℕ). IsPair f n second) one h);
}

-- a word that a look tells to be clean
pub clean_at_bundle : (block : List ℕ) (i : ℕ) → length block ≡ 128 → i % 2 ≡ 0 → i < 64 → (b bundle : BundlePlace) → bundle ≡ bundle_at b (i / 8) → (word : ℕ) → IsWithinBlock b → word ≡ word_at block i
    → (r : Bool) → OnTrue r (IsQuietThere bundle (b.address + 2 * i) Nothing word Nothing) → OnTrue r (IsCleanWord b block i Nothing Nothing)
clean_at_bundle block i long even below b bundle at word within is false h = tt
clean_at_bundle block i long even below b bundle at word within is true h =
    there_clean b within block long i even below word Nothing Nothing is (subst (λ (x : BundlePlace). IsQuietThere x (b.address + 2 * i) Nothing word Nothing) at h)
