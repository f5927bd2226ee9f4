-- The first look walks as the scan does, and finds nothing.
use Rattle.sfi_scan.proofs.Prelude.{◌≡◌, ℕ, ◌+◌, ◌<◌, ◌≤◌, false, true, List, [], ◌∷◌, length, take, drop, Some, None, refl, sym, ap, ◌∙◌, subst, inl, inr, arith, length-drop, length-take, drop-drop, Instr, outline, IsWordOf, Spells, has_stack, Before, BundlePlace, near, InstrInBundle, is_last_bundle, lowest, all_rules, Op, And, Or, Piece, IsLongestReading, half_at, word_at, AreWordsFrom, IsCleanOne, is_clean, IsStackWrite, AreStackPair, IsShortSpelling}
use Rattle.sfi_rules.specs.Readings.{begins_pair, precedes_pair}
use Rattle.sfi_scan.proofs.Readings.{Begins, begins}
use Rattle.sfi_scan.proofs.FirstLook.{clean_is, kind_of, write_quiet, masking_quiet, placing_quiet, masking_before}
use Rattle.sfi_scan.proofs.Walk.{Leads, next, at_first}

-- at this place, with nothing found, and with words from another place on
pub record Looks (b : BundlePlace) (bytes : List ℕ) (at from : ℕ) : Type 0 where
  pub before : Before
  pub so_far : Leads b bytes at before []
  pub words_are : AreWordsFrom bytes at from before
  pub order : from ≤ at

-- no word stands between a place and itself
none_from : (bytes : List ℕ) (at : ℕ) (before : Before) → AreWordsFrom bytes at at before
none_from bytes at before = record { first = λ k f e. absurd (omega (arith, f, e)); second = λ k f e. absurd (omega (arith, f, e)) }

-- a word more
word_more : (bytes : List ℕ) (at from : ℕ) (before : Before) (i : Instr) → AreWordsFrom bytes at from before → IsWordOf (word_at bytes at) i
    → AreWordsFrom bytes (at + 4) from (record { first = before.second; second = Some i })
word_more bytes at from before i are is = record {
  first = λ k f e. are.second k f (omega (arith, e));
  second = λ k f e. let same : k ≡ at = omega (arith, e) in inr (subst (λ m. IsWordOf (word_at bytes m) i) (sym same) is);
}

pub looks_first : (b : BundlePlace) (bytes : List ℕ) → Looks b bytes 0 0
looks_first b bytes = record {
  before = near [];
  so_far = at_first b bytes;
  words_are = none_from bytes 0 (near []);
  order = omega arith;
}

near_step : (i : Instr) (earlier : List Instr) → near (i ∷ earlier) ≡ record { first = (near earlier).second; second = Some i }
near_step i [] = refl
near_step i (a ∷ []) = refl
near_step i (a ∷ b ∷ earlier) = refl

-- after an instruction of n bytes that breaks no rule
looks_quiet : (b : BundlePlace) (bytes : List ℕ) (at n from after_from : ℕ) (i : Instr)
    → length bytes ≡ 16 → (l : Looks b bytes at from)
    → Spells (take n (drop at bytes)) i n
    → ((x : InstrInBundle) → x.bundle ≡ b → x.address ≡ b.address + at → near x.earlier ≡ l.before → x.instr ≡ i → IsLongestReading (drop (at + n) bytes) x.later → lowest x all_rules ≡ [])
    → AreWordsFrom bytes (at + n) after_from (record { first = l.before.second; second = Some i }) → after_from ≤ at + n
    → (after_it : Looks b bytes (at + n) after_from) × (after_it.before.second ≡ Some i)
looks_quiet b bytes at n from after_from i count l spelled quiet words order =
    let after_it : Before = record { first = l.before.second; second = Some i } in (
      record {
        before = after_it;
        so_far = next b bytes at n l.before after_it [] i None count l.so_far spelled
            (λ x place address near_is instr whole longest. quiet x place address near_is instr longest)
            (λ earlier h. sym (near_step i earlier ∙ ap (λ (y : Before). record { first = y.second; second = Some i }) h));
        words_are = words;
        order = order;
      },
      refl,
    )

-- so is one that the look knows
looks_after : (b : BundlePlace) (bytes : List ℕ) (at n from after_from : ℕ) (i : Instr)
    → length bytes ≡ 16 → is_last_bundle b ≡ false → (l : Looks b bytes at from)
    → Spells (take n (drop at bytes)) i n
    → ((earlier : List Instr) → AreWordsFrom bytes at from (near earlier) → is_clean b (b.address + at) earlier (outline i) ≡ true)
    → AreWordsFrom bytes (at + n) after_from (record { first = l.before.second; second = Some i }) → after_from ≤ at + n
    → Looks b bytes (at + n) after_from
looks_after b bytes at n from after_from i count last l spelled clean words order =
    (looks_quiet b bytes at n from after_from i count l spelled
    (λ x place address near_is instr longest.
    clean_is x (ap is_last_bundle place ∙ last)
    (ap (λ (y : BundlePlace). is_clean y x.address x.earlier (outline x.instr)) place
    ∙ ap (λ a. is_clean b a x.earlier (outline x.instr)) address
    ∙ ap (λ (j : Instr). is_clean b (b.address + at) x.earlier (outline j)) instr
    ∙ clean x.earlier (subst (λ (y : Before). AreWordsFrom bytes at from y) (sym near_is) l.words_are)))
    words order).0

-- after a halfword
pub looks_half : (b : BundlePlace) (bytes : List ℕ) (at from half : ℕ)
    → length bytes ≡ 16 → at < 16 → is_last_bundle b ≡ false → Looks b bytes at from
    → half ≡ half_at bytes at → IsCleanOne b (b.address + at) (AreWordsFrom bytes at from) (IsShortSpelling half)
    → Looks b bytes (at + 2) (at + 2)
looks_half b bytes at from half count below last l half_is one =
    let even = l.so_far.even in
    let long : 2 ≤ length (drop at bytes) = omega (arith, length-drop at bytes) in
    let spelled : Spells (take 2 (drop at bytes)) one.instr 2 = inl (record { size = refl; all = omega (arith, length-take 2 (drop at bytes)); spelled = subst (λ h. IsShortSpelling h one.instr) half_is one.spelled }) in
    looks_after b bytes at 2 from (at + 2) one.instr count last l spelled one.clean (none_from bytes (at + 2) _) (omega arith)

-- the word at a place spells its instruction there
spelled_at : (bytes : List ℕ) (at : ℕ) (i : Instr) → length bytes ≡ 16 → at ≤ 12 → IsWordOf (word_at bytes at) i → Spells (take 4 (drop at bytes)) i 4
spelled_at bytes at i count below is =
    let long : 4 ≤ length (drop at bytes) = omega (arith, length-drop at bytes) in
    inr (record { size = refl; all = omega (arith, length-take 4 (drop at bytes)); spelled = is })

-- after a word
pub looks_word : (b : BundlePlace) (bytes : List ℕ) (at from word : ℕ)
    → length bytes ≡ 16 → at ≤ 12 → is_last_bundle b ≡ false → Looks b bytes at from
    → word ≡ word_at bytes at → IsCleanOne b (b.address + at) (AreWordsFrom bytes at from) (IsWordOf word)
    → Looks b bytes (at + 4) from
looks_word b bytes at from word count below last l word_is one =
    let order = l.order in
    let is = subst (λ h. IsWordOf h one.instr) word_is one.spelled in
    looks_after b bytes at 4 from from one.instr count last l (spelled_at bytes at one.instr count below is) one.clean
    (word_more bytes at from l.before one.instr l.words_are is) (omega arith)

-- ---- the stack pointer written, and put back

-- a word that stands where it may write the stack pointer
looks_as : (b : BundlePlace) (bytes : List ℕ) (at from : ℕ) (i : Instr) → length bytes ≡ 16 → at ≤ 12 → (l : Looks b bytes at from) → IsWordOf (word_at bytes at) i
    → ((x : InstrInBundle) → x.bundle ≡ b → near x.earlier ≡ l.before → x.instr ≡ i → IsLongestReading (drop (at + 4) bytes) x.later → lowest x all_rules ≡ [])
    → Looks b bytes (at + 4) from
looks_as b bytes at from i count below l is quiet =
    let order = l.order in
    (looks_quiet b bytes at 4 from from i count l (spelled_at bytes at i count below is)
    (λ x place address near_is instr longest. quiet x place near_is instr longest)
    (word_more bytes at from l.before i l.words_are is) (omega arith)).0

-- what the rest of the bytes begins with, where a word stands there
ahead_is : (bytes : List ℕ) (at : ℕ) (i : Instr) → length bytes ≡ 16 → at ≤ 12 → IsWordOf (word_at bytes at) i → (later : List Piece) → IsLongestReading (drop at bytes) later → Begins (drop at bytes) i 4 later
ahead_is bytes at i count below is later longest = begins (drop at bytes) i 4 (spelled_at bytes at i count below is) later longest

abbrev masking : ℕ → Instr
masking any = Op And 2 any 27

abbrev placing : Instr
placing = Op Or 2 2 26

-- where the pair's second word comes next, it is begun
begins_there : (bytes : List ℕ) (at any : ℕ) → length bytes ≡ 16 → at ≤ 12 → IsWordOf (word_at bytes at) placing → (later : List Piece) → IsLongestReading (drop at bytes) later → begins_pair (masking any) later ≡ true
begins_there bytes at any count below is later longest = ap (begins_pair (masking any)) (ahead_is bytes at placing count below is later longest).is

in_place : (b : BundlePlace) (x : InstrInBundle) → is_last_bundle b ≡ false → has_stack b.format ≡ true → x.bundle ≡ b → (is_last_bundle x.bundle ≡ false) × (has_stack x.bundle.format ≡ true)
in_place b x last has place = (ap is_last_bundle place ∙ last, ap (λ (y : BundlePlace). has_stack y.format) place ∙ has)

pub looks_write : (b : BundlePlace) (bytes : List ℕ) (at from : ℕ) → length bytes ≡ 16 → at ≤ 4 → is_last_bundle b ≡ false → has_stack b.format ≡ true → Looks b bytes at from
    → IsStackWrite (word_at bytes at) → AreStackPair (word_at bytes (at + 4)) (word_at bytes (at + 8)) → Looks b bytes (at + 4) from
looks_write b bytes at from count below last has l write pair =
    let eight : at + 8 ≡ at + 4 + 4 = omega arith in
    let second : IsWordOf (word_at bytes (at + 4 + 4)) placing = subst (λ k. IsWordOf (word_at bytes k) placing) eight pair.placing in
    looks_as b bytes at from write.instr count (omega arith) l write.spelled
    (λ x place near_is instr longest.
    let y = ahead_is bytes (at + 4) (masking pair.any) count (omega arith) pair.masking x.later longest in
    let rest = subst (λ (r : List ℕ). IsLongestReading r y.rest) (drop-drop 4 (at + 4) bytes) y.longest in
    let there = in_place b x last has place in
    write_quiet x there.0 there.1 (kind_of x.instr write.instr instr write.kind) (ap precedes_pair y.is ∙ begins_there bytes (at + 4 + 4) pair.any count (omega arith) second y.rest rest))

pub looks_masking : (b : BundlePlace) (bytes : List ℕ) (at from : ℕ) → length bytes ≡ 16 → at ≤ 8 → is_last_bundle b ≡ false → has_stack b.format ≡ true → Looks b bytes at from
    → AreStackPair (word_at bytes at) (word_at bytes (at + 4)) → Looks b bytes (at + 4) from
looks_masking b bytes at from count below last has l pair =
    looks_as b bytes at from (masking pair.any) count (omega arith) l pair.masking
    (λ x place near_is instr longest.
    let there = in_place b x last has place in
    masking_quiet x pair.any there.0 there.1 instr (begins_there bytes (at + 4) pair.any count (omega arith) pair.placing x.later longest))

pub looks_placing : (b : BundlePlace) (bytes : List ℕ) (at from : ℕ) → length bytes ≡ 16 → at + 4 ≤ 12 → is_last_bundle b ≡ false → has_stack b.format ≡ true → from ≤ at → Looks b bytes (at + 4) from
    → AreStackPair (word_at bytes at) (word_at bytes (at + 4)) → Looks b bytes (at + 4 + 4) from
looks_placing b bytes at from count below last has order l pair =
    let before = masking_before (word_at bytes at) pair.any l.before.second pair.masking (l.words_are.second at order (omega arith)) in
    looks_as b bytes (at + 4) from placing count below l pair.placing
    (λ x place near_is instr longest.
    let there = in_place b x last has place in
    placing_quiet x pair.any there.0 there.1 instr (ap (λ (y : Before). y.second) near_is ∙ before))

pub looks_written : (b : BundlePlace) (bytes : List ℕ) (at from : ℕ)
    → length bytes ≡ 16 → at ≤ 4 → is_last_bundle b ≡ false → has_stack b.format ≡ true → Looks b bytes at from
    → IsStackWrite (word_at bytes at) → AreStackPair (word_at bytes (at + 4)) (word_at bytes (at + 8))
    → Looks b bytes (at + 12) from
looks_written b bytes at from count below last has l write pair =
    let order = l.order in
    let eight : at + 8 ≡ at + 4 + 4 = omega arith in
    let twelve : at + 4 + 4 + 4 ≡ at + 12 = omega arith in
    let both : AreStackPair (word_at bytes (at + 4)) (word_at bytes (at + 4 + 4)) = subst (λ k. AreStackPair (word_at bytes (at + 4)) (word_at bytes k)) eight pair in
    let one = looks_write b bytes at from count below last has l write pair in
    let two = looks_masking b bytes (at + 4) from count (omega arith) last has one both in
    let three = looks_placing b bytes (at + 4) from count (omega arith) last has (omega arith) two both in
    subst (λ k. Looks b bytes k from) twelve three
