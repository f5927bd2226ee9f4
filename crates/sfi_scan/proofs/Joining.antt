-- The bundles of a block are read from start to start, and what begins at each breaks no rule.
use Rattle.sfi_scan.proofs.Prelude.{◌≡◌, ℕ, zero, suc, ◌+◌, ◌-◌, ◌*◌, ◌/◌, ◌%◌, ◌<◌, ◌≤◌, Bool, true, false, not, cond, List, [], length, take, drop, ◌⊎◌, inl, inr, refl, sym, ap, ◌∙◌, subst, arith, length-drop, cases_order, ne_eqb, length-take, drop-take, take-take, drop-drop, Instr, has_stack, is_in, BundlePlace, IsWithinBlock, bundle_at, block_bundle, AreReadingFindings, is_last_bundle, AreStarts, AreAfterTwo, offset, words_from, IsSpelledAt, IsCleanIn, IsCleanAt, IsWritten, IsOfWrite, word_at, AreWordsFrom, IsCleanOne, IsStackWrite, AreStackPair, both_ways, false_from_ne_true}
use Rattle.sfi_scan.proofs.Look.{Looks, looks_first, looks_half, looks_word, looks_write, looks_masking, looks_placing}
use Rattle.sfi_scan.proofs.Walk.{at_last}

-- ---- the bytes of a bundle are bytes of the block

cut : (block : List ℕ) (k at n : ℕ) → at + n ≤ 16 → take n (drop at (take 16 (drop (16 * k) block))) ≡ take n (drop (16 * k + at) block)
cut block k at n h =
    let e : at + (16 - at) ≡ 16 = omega (arith, h) in
    ap (λ m. take n (drop at (take m (drop (16 * k) block)))) (sym e)
    ∙ ap (take n) (drop-take at (16 - at) (drop (16 * k) block))
    ∙ take-take n (16 - at) (drop at (drop (16 * k) block)) (omega (arith, h))
    ∙ ap (take n) (drop-drop at (16 * k) block)

cut_at : (block : List ℕ) (i n : ℕ) → offset i + n ≤ 16 → take n (drop (2 * i) block) ≡ take n (drop (offset i) (block_bundle block (i / 8)))
cut_at block i n h =
    let e : 2 * i ≡ 16 * (i / 8) + 2 * (i % 8) = omega arith in
    ap (λ m. take n (drop m block)) e ∙ sym (cut block (i / 8) (offset i) n h)

pub half_cut : (block : List ℕ) (i : ℕ) → take 2 (drop (2 * i) block) ≡ take 2 (drop (offset i) (block_bundle block (i / 8)))
half_cut block i = cut_at block i 2 (omega arith)

pub word_cut : (block : List ℕ) (i : ℕ) → i % 8 < 7 → take 4 (drop (2 * i) block) ≡ take 4 (drop (offset i) (block_bundle block (i / 8)))
word_cut block i h = cut_at block i 4 (omega (arith, h))

count_of : (block : List ℕ) (k : ℕ) → length block ≡ 128 → k < 8 → length (block_bundle block k) ≡ 16
count_of block k count below = omega (arith, length-take 16 (drop (16 * k) block), length-drop (16 * k) block, count, below)

-- ---- from start to start

-- where fewer bytes are known to be words, what is clean is so where more are
loosen : (b : BundlePlace) (a : ℕ) (bytes : List ℕ) (at from known : ℕ) (spell : Instr → Type 0) → from ≤ known → IsCleanOne b a (AreWordsFrom bytes at known) spell → IsCleanOne b a (AreWordsFrom bytes at from) spell
loosen b a bytes at from known spell le one = record {
  instr = one.instr;
  spelled = one.spelled;
  clean = λ earlier are. one.clean earlier (record {
    first = λ k f e. are.first k (omega (arith, le, f)) e;
    second = λ k f e. are.second k (omega (arith, le, f)) e;
  });
}

not_last : (b : BundlePlace) (k : ℕ) → IsWithinBlock b → k < 8 → is_last_bundle (bundle_at b k) ≡ false
not_last b k within below = let end = within.end in ne_eqb _ _ (λ e. omega (arith, end, e, below))

-- halfword j of the bundle of that number is reached: where words stand directly before it, they are known
record Reached (b : BundlePlace) (bytes : List ℕ) (words k j : ℕ) : Type 0 where
  from : ℕ
  looks : Looks b bytes (2 * j) from
  one : (m : ℕ) → m + 2 ≡ j → is_in words (8 * k + m) ≡ true → from + 4 ≤ 2 * j
  two : (m : ℕ) → m + 4 ≡ j → is_in words (8 * k + m) ≡ true → is_in words (8 * k + (m + 2)) ≡ true → from + 8 ≤ 2 * j

reached_first : (b : BundlePlace) (bytes : List ℕ) (words k : ℕ) → Reached b bytes words k 0
reached_first b bytes words k = record {
  from = 0;
  looks = looks_first b bytes;
  one = λ m e w. absurd (omega (arith, e));
  two = λ m e w v. absurd (omega (arith, e));
}

-- what follows a word's first half is no start
no_start : (starts words : ℕ) → AreStarts starts words → (i : ℕ) → i < 63 → is_in words i ≡ true → is_in starts (i + 1) ≡ false
no_start starts words marks i h is = marks.next i h ∙ ap not is

no_word : (starts words : ℕ) → AreStarts starts words → (i : ℕ) → is_in starts i ≡ false → is_in words i ≡ false
no_word starts words marks i out = false_from_ne_true (is_in words i) (λ is. both_ways (is_in starts i) out (marks.only i is))

-- what the rest of the walk needs of a place that is reached
record NextPlace (b : BundlePlace) (bytes : List ℕ) (starts words k j : ℕ) : Type 0 where
  place : ℕ
  further : j < place
  within : place ≤ 8
  start : place < 8 → is_in starts (8 * k + place) ≡ true
  reached : Reached b bytes words k place

after_half : (b : BundlePlace) (block : List ℕ) (starts words after k j : ℕ) → length block ≡ 128 → k < 8 → is_last_bundle (bundle_at b k) ≡ false → AreStarts starts words
    → j < 8 → is_in starts (8 * k + j) ≡ true → is_in words (8 * k + j) ≡ false → (r : Reached (bundle_at b k) (block_bundle block k) words k j)
    → IsCleanOne (bundle_at b k) ((bundle_at b k).address + 2 * j) (AreWordsFrom (block_bundle block k) (2 * j) r.from) (IsSpelledAt false (block_bundle block k) (2 * j))
    → NextPlace (bundle_at b k) (block_bundle block k) starts words k j
after_half b block starts words after k j count below last marks lt start short r one =
    let c = bundle_at b k in
    let bytes = block_bundle block k in
    let on = looks_half c bytes (2 * j) r.from _ (count_of block k count below) (omega (arith, lt)) last r.looks refl one in
    let e : 2 * j + 2 ≡ 2 * (j + 1) = omega arith in
    let stuck : (m : ℕ) → m + 1 ≡ j → is_in words (8 * k + m) ≡ true → ⊥ =
    λ m same w.
    let f : 8 * k + m + 1 ≡ 8 * k + j = omega (arith, same) in
    both_ways (is_in starts (8 * k + j)) (ap (is_in starts) (sym f) ∙ no_start starts words marks (8 * k + m) (omega (arith, same, lt, below)) w) start in
    record {
      place = j + 1;
      further = omega arith;
      within = omega (arith, lt);
      start = λ more.
          let f : 8 * k + (j + 1) ≡ 8 * k + j + 1 = omega arith in
          ap (is_in starts) f ∙ marks.next (8 * k + j) (omega (arith, more, below)) ∙ ap not short;
      reached = record {
        from = 2 * (j + 1);
        looks = subst (λ at. Looks c bytes at (2 * (j + 1))) e (subst (λ from. Looks c bytes (2 * j + 2) from) e on);
        one = λ m same w. absurd (stuck m (omega (arith, same)) w);
        two = λ m same w v. absurd (stuck (m + 2) (omega (arith, same)) v);
      };
    }

after_word : (b : BundlePlace) (block : List ℕ) (starts words k j : ℕ) → k < 8 → AreStarts starts words
    → j < 7 → is_in words (8 * k + j) ≡ true → (r : Reached (bundle_at b k) (block_bundle block k) words k j)
    → Looks (bundle_at b k) (block_bundle block k) (2 * j + 4) r.from
    → NextPlace (bundle_at b k) (block_bundle block k) starts words k j
after_word b block starts words k j below marks lt wide r on =
    let c = bundle_at b k in
    let bytes = block_bundle block k in
    let e : 2 * j + 4 ≡ 2 * (j + 2) = omega arith in
    let order = r.looks.order in
    let second = no_start starts words marks (8 * k + j) (omega (arith, lt, below)) wide in
    record {
      place = j + 2;
      further = omega arith;
      within = omega (arith, lt);
      start = λ more.
          let f : 8 * k + (j + 2) ≡ 8 * k + j + 1 + 1 = omega arith in
          ap (is_in starts) f ∙ marks.next (8 * k + j + 1) (omega (arith, more, below)) ∙ ap not (no_word starts words marks (8 * k + j + 1) second);
      reached = record {
        from = r.from;
        looks = subst (λ at. Looks c bytes at r.from) e on;
        one = λ m same w. omega (arith, order);
        two = λ m same w v. let near = r.one m (omega (arith, same)) w in omega (arith, near);
      };
    }

-- as far back as the mask tells, words are known
known_from : (b : BundlePlace) (bytes : List ℕ) (words after k j : ℕ) → k < 8 → j < 8 → AreAfterTwo words after → (r : Reached b bytes words k j) → r.from ≤ words_from after (8 * k + j) (2 * j)
known_from b bytes words after k j below lt two r = by (is_in after (8 * k + j)) refl
  where
    by : (a : Bool) → is_in after (8 * k + j) ≡ a → r.from ≤ cond a (2 * j - 8) (2 * j)
    by false e = r.looks.order
    by true e =
        let i = 8 * k + j in
        let h : i < 64 = omega (arith, below, lt) in
        let high = two.high i h e in
        let place : i % 8 ≡ j = omega (arith, lt) in
        let f : i - 4 ≡ 8 * k + (j - 4) = omega (arith, high, place) in
        let g : i - 2 ≡ 8 * k + (j - 4 + 2) = omega (arith, high, place) in
        let far = r.two (j - 4) (omega (arith, high, place)) (ap (is_in words) (sym f) ∙ two.first i h e) (ap (is_in words) (sym g) ∙ two.second i h e) in
        omega (arith, far)

-- a halfword of the block is one of a bundle
clean_in : (b : BundlePlace) (block : List ℕ) (wide : Bool) (after k j : ℕ) → j < 8 → IsCleanAt b block wide after (8 * k + j) → IsCleanIn b block wide after (8 * k + j) k (2 * j)
clean_in b block wide after k j lt clean =
    let i = 8 * k + j in
    let e : i / 8 ≡ k = omega (arith, lt) in
    let f : i % 8 ≡ j = omega (arith, lt) in
    subst (λ m. IsCleanIn b block wide after i k (2 * m)) f (subst (λ m. IsCleanIn b block wide after i m (offset i)) e clean)

after_clean : (b : BundlePlace) (block : List ℕ) (starts words after k j : ℕ) → length block ≡ 128 → k < 8 → is_last_bundle (bundle_at b k) ≡ false → AreStarts starts words → AreAfterTwo words after
    → j < 8 → is_in starts (8 * k + j) ≡ true → IsCleanAt b block (is_in words (8 * k + j)) after (8 * k + j)
    → Reached (bundle_at b k) (block_bundle block k) words k j → NextPlace (bundle_at b k) (block_bundle block k) starts words k j
after_clean b block starts words after k j count below last marks two lt start clean r =
    by (is_in words (8 * k + j)) refl (clean_in b block (is_in words (8 * k + j)) after k j lt clean)
  where
    by : (w : Bool) → is_in words (8 * k + j) ≡ w → IsCleanIn b block w after (8 * k + j) k (2 * j) → NextPlace (bundle_at b k) (block_bundle block k) starts words k j
    by false e one =
        after_half b block starts words after k j count below last marks lt start e r
        (loosen (bundle_at b k) _ (block_bundle block k) (2 * j) r.from _ (IsSpelledAt false (block_bundle block k) (2 * j)) (known_from (bundle_at b k) (block_bundle block k) words after k j below lt two r) one)
    by true e one =
        let inside = marks.inside (8 * k + j) (omega (arith, below, lt)) e in
        let known = loosen (bundle_at b k) _ (block_bundle block k) (2 * j) r.from _ (IsSpelledAt true (block_bundle block k) (2 * j)) (known_from (bundle_at b k) (block_bundle block k) words after k j below lt two r) one in
        after_word b block starts words k j below marks (omega (arith, inside, lt)) e r
        (looks_word (bundle_at b k) (block_bundle block k) (2 * j) r.from _ (count_of block k count below) (omega (arith, inside, lt)) last r.looks refl known)

-- ---- the stack pointer written, and put back

-- the words of a write, from this place of the bundle on
record WritesFrom (bytes : List ℕ) (at : ℕ) : Type 0 where
  low : at ≤ 4
  write : IsStackWrite (word_at bytes at)
  pair : AreStackPair (word_at bytes (at + 4)) (word_at bytes (at + 8))

writes_from : (block : List ℕ) (words i k at : ℕ) → i / 8 ≡ k → offset i ≡ at → IsWritten block words i → WritesFrom (block_bundle block k) at
writes_from block words i k at e f w = subst (λ n. WritesFrom (block_bundle block n) at) e (subst (λ n. WritesFrom (block_bundle block (i / 8)) n) f (record { low = let low = w.low in omega (arith, low); write = w.write; pair = w.pair }))

after_write : (b : BundlePlace) (block : List ℕ) (starts words k j : ℕ) → length block ≡ 128 → k < 8 → is_last_bundle (bundle_at b k) ≡ false → has_stack b.format ≡ true
    → AreStarts starts words → j < 8 → IsOfWrite block words (8 * k + j)
    → Reached (bundle_at b k) (block_bundle block k) words k j → NextPlace (bundle_at b k) (block_bundle block k) starts words k j
after_write b block starts words k j count below last has marks lt (i, w, inl e) r =
    let c = bundle_at b k in
    let bytes = block_bundle block k in
    let low = w.low in
    let x = writes_from block words i k (2 * j) (omega (arith, e, lt)) (omega (arith, e, lt)) w in
    after_word b block starts words k j below marks (omega (arith, low, e, lt)) (ap (is_in words) e ∙ w.first) r
    (looks_write c bytes (2 * j) r.from (count_of block k count below) x.low last has r.looks x.write x.pair)
after_write b block starts words k j count below last has marks lt (i, w, inr (inl e)) r =
    let c = bundle_at b k in
    let bytes = block_bundle block k in
    let low = w.low in
    let x = writes_from block words i k (2 * (j - 2)) (omega (arith, e, lt, low)) (omega (arith, e, lt, low)) w in
    let f : 2 * (j - 2) + 4 ≡ 2 * j = omega (arith, e, lt, low) in
    let g : 2 * (j - 2) + 8 ≡ 2 * j + 4 = omega (arith, e, lt, low) in
    let pair = subst (λ m. AreStackPair (word_at bytes (2 * j)) (word_at bytes m)) g (subst (λ m. AreStackPair (word_at bytes m) (word_at bytes (2 * (j - 2) + 8))) f x.pair) in
    after_word b block starts words k j below marks (omega (arith, low, e, lt)) (ap (is_in words) e ∙ w.second) r
    (looks_masking c bytes (2 * j) r.from (count_of block k count below) (omega (arith, low, e, lt)) last has r.looks pair)
after_write b block starts words k j count below last has marks lt (i, w, inr (inr e)) r =
    let c = bundle_at b k in
    let bytes = block_bundle block k in
    let low = w.low in
    let at = 2 * (j - 2) in
    let x = writes_from block words i k (2 * (j - 4)) (omega (arith, e, lt, low)) (omega (arith, e, lt, low)) w in
    let f : 2 * (j - 4) + 4 ≡ at = omega (arith, e, lt, low) in
    let g : 2 * (j - 4) + 8 ≡ at + 4 = omega (arith, e, lt, low) in
    let h : at + 4 ≡ 2 * j = omega (arith, e, lt, low) in
    let pair = subst (λ m. AreStackPair (word_at bytes at) (word_at bytes m)) g (subst (λ m. AreStackPair (word_at bytes m) (word_at bytes (2 * (j - 4) + 8))) f x.pair) in
    let before : 8 * k + (j - 2) ≡ i + 2 = omega (arith, e, lt, low) in
    let near = r.one (j - 2) (omega (arith, e, lt, low)) (ap (is_in words) before ∙ w.second) in
    let here = subst (λ m. Looks c bytes m r.from) (sym h) r.looks in
    after_word b block starts words k j below marks (omega (arith, low, e, lt)) (ap (is_in words) e ∙ w.third) r
    (subst (λ m. Looks c bytes (m + 4) r.from) h (looks_placing c bytes at r.from (count_of block k count below) (omega (arith, low, e, lt)) last has (omega (arith, near, h)) here pair))

-- ---- a bundle

-- what begins there breaks no rule, or it is one of the words that write the stack pointer
abbrev pub IsQuietAt : BundlePlace → List ℕ → ℕ → ℕ → ℕ → Type 0
IsQuietAt b block words after i = IsCleanAt b block (is_in words i) after i ⊎ ((has_stack b.format ≡ true) × IsOfWrite block words i)

advance : (b : BundlePlace) (block : List ℕ) (starts words after k j : ℕ) → length block ≡ 128 → k < 8 → is_last_bundle (bundle_at b k) ≡ false → AreStarts starts words → AreAfterTwo words after
    → j < 8 → is_in starts (8 * k + j) ≡ true → IsQuietAt b block words after (8 * k + j)
    → Reached (bundle_at b k) (block_bundle block k) words k j → NextPlace (bundle_at b k) (block_bundle block k) starts words k j
advance b block starts words after k j count below last marks two lt start (inl clean) r = after_clean b block starts words after k j count below last marks two lt start clean r
advance b block starts words after k j count below last marks two lt start (inr write) r = after_write b block starts words k j count below last write.0 marks lt write.1 r

-- a bundle with nothing else at its starts has no findings
pub joined : (b : BundlePlace) (block : List ℕ) (starts words after k : ℕ) → length block ≡ 128 → k < 8 → IsWithinBlock b → AreStarts starts words → AreAfterTwo words after
    → ((j : ℕ) → j < 8 → is_in starts (8 * k + j) ≡ true → IsQuietAt b block words after (8 * k + j))
    → AreReadingFindings (bundle_at b k) (block_bundle block k) []
joined b block starts words after k count below within marks two clean =
    let e : 8 * k % 8 ≡ 0 = omega arith in
    walk 8 0 (omega arith) (omega arith) (λ lt. let f : 8 * k + 0 ≡ 8 * k = omega arith in ap (is_in starts) f ∙ marks.first (8 * k) (omega (arith, below)) e) (reached_first (bundle_at b k) (block_bundle block k) words k)
  where
    done : (j : ℕ) → 8 ≤ j → Reached (bundle_at b k) (block_bundle block k) words k j → AreReadingFindings (bundle_at b k) (block_bundle block k) []
    done j over r = at_last (bundle_at b k) (block_bundle block k) (2 * j) r.looks.before [] (count_of block k count below) (omega (arith, over)) r.looks.so_far

    walk : (n j : ℕ) → 8 ≤ n + j → j ≤ 8 → (j < 8 → is_in starts (8 * k + j) ≡ true) → Reached (bundle_at b k) (block_bundle block k) words k j → AreReadingFindings (bundle_at b k) (block_bundle block k) []
    walk zero j enough le start r = done j (omega (arith, enough)) r
    walk (suc n) j enough le start r = by (λ m. walk n m) (cases_order j 8)
      where
        by : ((m : ℕ) → 8 ≤ n + m → m ≤ 8 → (m < 8 → is_in starts (8 * k + m) ≡ true) → Reached (bundle_at b k) (block_bundle block k) words k m → AreReadingFindings (bundle_at b k) (block_bundle block k) [])
            → (j ≡ 8) ⊎ ((j < 8) ⊎ (8 < j)) → AreReadingFindings (bundle_at b k) (block_bundle block k) []
        by rest (inl e) = done j (omega (arith, e)) r
        by rest (inr (inr g)) = done j (omega (arith, g)) r
        by rest (inr (inl lt)) =
            let on = advance b block starts words after k j count below (not_last b k within below) marks two lt (start lt) (clean j lt (start lt)) r in
            rest on.place (omega (arith, enough, on.further)) on.within on.start on.reached
