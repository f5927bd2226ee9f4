-- Stretches of code in words: their findings, and the clean words of a block.
use Rattle.sfi_scan.proofs.Prelude.{◌≡◌, ℕ, zero, suc, ◌+◌, ◌<◌, ◌≤◌, Bool, true, false, List, [], ◌++◌, length, length-append, take_all, refl, sym, ap, ◌∙◌, subst, arith, append-nil, append_assoc, BundlePlace, Finding, Part, block_bundle, bundle_bytes, bundle_place, AreFindingsOfFirst, Owed, Nothing, AreFoundUpTo, stretch_place, AreStretchFindings, AreWordStretchFindings, IsWordCodeScanned, ◌-◌, ◌*◌, ◌/◌, take, drop, take-take, drop-drop, drop-take, bundle_at, IsWordFound, IsCleanWord, AreCleanWords}
use Rattle.std.specs.Prelude.{MatchBool}
use Rattle.sfi_formats.specs.Formats.{has_words}
use Rattle.sfi_rules.specs.words.Findings.{AreFoundInBundle, AreFoundOfFirst}
use Rattle.sfi_scan.specs.Stretches.{AreFoundInStretch}
use Rattle.sfi_scan.proofs.Stretches.{stretch_in_part, place_in_block, rest_bundle}
use Rattle.sfi_scan.specs.private.Scanning.{IsBlockStart, IsRunClean, AreBundlesTo, AreSomeBundlesTo}
use Rattle.sfi_scan.specs.private.Words.{bytes_at}
use Rattle.sfi_scan.proofs.Fronts.{block_front, walk_at, walk_on}

-- ==== Stretches of code in words: the findings of one after another, and those of a stretch in a part.

-- one bundle more
pub words_push : (b : BundlePlace) (owed : Owed) (xs : List ℕ) (n : ℕ) (front last : List Finding) (between next : Owed) → AreWordStretchFindings b owed xs n front between
    → AreFoundInBundle (stretch_place b n) between (block_bundle xs n) last next → AreWordStretchFindings b owed xs (n + 1) (front ++ last) next
words_push b owed xs n front last between next are one =
    subst (λ (m : ℕ). AreWordStretchFindings b owed xs m (front ++ last) next) (let e : suc n ≡ n + 1 = omega arith in e) (front, last, between, are, one, refl)

-- the findings of the first `k` bundles, followed by those of the next `n`, are those of `k + n`
pub words_more : (b c : BundlePlace) (owed : Owed) (xs ys : List ℕ) (k n : ℕ) (front found : List Finding) (between next : Owed)
    → ((i : ℕ) → i < n → stretch_place b i ≡ stretch_place c (k + i)) → ((i : ℕ) → i < n → block_bundle xs i ≡ block_bundle ys (k + i))
    → AreWordStretchFindings c owed ys k front between → AreWordStretchFindings b between xs n found next → AreWordStretchFindings c owed ys (k + n) (front ++ found) next
words_more b c owed xs ys k zero front found between next places bytes before none =
    rw (none.0, none.1, append-nil front) (subst (λ (m : ℕ). AreWordStretchFindings c owed ys m front between) (let e : k ≡ k + 0 = omega arith in e) before)
words_more b c owed xs ys k (suc n) front found between next places bytes before are =
    let more = words_more b c owed xs ys k n front are.0 between are.2 (λ i less. places i (omega arith)) (λ i less. bytes i (omega arith)) before are.3 in
    let one = subst (λ (x : BundlePlace). AreFoundInBundle x are.2 (block_bundle ys (k + n)) are.1 next) (places n (omega arith))
    (subst (λ (x : List ℕ). AreFoundInBundle (stretch_place b n) are.2 x are.1 next) (bytes n (omega arith)) are.4) in
    let found_is = ap (λ (l : List Finding). front ++ l) are.5 ∙ sym (append_assoc front are.0 are.1) in
    subst (λ (m : ℕ). AreWordStretchFindings c owed ys m (front ++ found) next) (let e : suc (k + n) ≡ k + suc n = omega arith in e) (front ++ are.0, are.1, are.2, more, one, found_is)

-- the findings are the same for other bytes with the same bundles
pub words_same : (b : BundlePlace) (owed : Owed) (xs ys : List ℕ) (n : ℕ) (found : List Finding) (next : Owed) → ((i : ℕ) → i < n → block_bundle xs i ≡ block_bundle ys i)
    → AreWordStretchFindings b owed xs n found next → AreWordStretchFindings b owed ys n found next
words_same b owed xs ys zero found next bytes none = none
words_same b owed xs ys (suc n) found next bytes are =
    (are.0, are.1, are.2, words_same b owed xs ys n are.0 are.2 (λ i less. bytes i (omega arith)) are.3, subst (λ (x : List ℕ). AreFoundInBundle (stretch_place b n) are.2 x are.1 next) (bytes n (omega arith)) are.4, are.5)

-- ---- what a sink took

module _ {F : Type 0} (takes : F → List Finding → F → Type 0) where
  -- of bundles without a finding it takes nothing
  pub words_clean : {b : BundlePlace} {owed : Owed} {xs : List ℕ} {n : ℕ} {next : Owed} (s : F) → takes s [] s → AreWordStretchFindings b owed xs n [] next → IsWordCodeScanned takes b owed xs n next s s
  words_clean s none are = record { found = []; found_are = are; few = omega arith; handed = none }

  pub words_scanned_none : (b : BundlePlace) (owed : Owed) (xs : List ℕ) (s : F) → takes s [] s → IsWordCodeScanned takes b owed xs 0 owed s s
  words_scanned_none b owed xs s none = words_clean s none (refl, refl)

  -- one bundle is a stretch of its own
  pub words_scanned_one : (b : BundlePlace) (owed : Owed) (bundle : List ℕ) (last : List Finding) (next : Owed) (s t : F) → length bundle ≡ 16 → AreFoundInBundle b owed bundle last next → length last ≤ 8 → takes s last t → IsWordCodeScanned takes b owed bundle 1 next s t
  words_scanned_one b owed bundle last next s t long one few handed = record {
    found = last;
    found_are = ([], last, owed, (refl, refl), subst (λ (l : List ℕ). AreFoundInBundle b owed l last next) (sym (take_all 16 bundle (omega (arith, long)))) one, refl);
    few = omega (arith, few);
    handed = handed;
  }

  pub words_scanned_same : (b : BundlePlace) (owed : Owed) (xs ys : List ℕ) (n : ℕ) (next : Owed) (s t : F) → ((i : ℕ) → i < n → block_bundle xs i ≡ block_bundle ys i)
      → IsWordCodeScanned takes b owed xs n next s t → IsWordCodeScanned takes b owed ys n next s t
  words_scanned_same b owed xs ys n next s t bytes h = record { found = h.found; found_are = words_same b owed xs ys n h.found next bytes h.found_are; few = h.few; handed = h.handed }

  pub words_scanned_more : ((s t u : F) (xs ys : List Finding) → takes s xs t → takes t ys u → takes s (xs ++ ys) u)
      → (b c : BundlePlace) (owed : Owed) (xs ys : List ℕ) (k n : ℕ) (between next : Owed) (s t u : F)
      → ((i : ℕ) → i < n → stretch_place b i ≡ stretch_place c (k + i)) → ((i : ℕ) → i < n → block_bundle xs i ≡ block_bundle ys (k + i))
      → IsWordCodeScanned takes c owed ys k between s t → IsWordCodeScanned takes b between xs n next t u → IsWordCodeScanned takes c owed ys (k + n) next s u
  words_scanned_more more b c owed xs ys k n between next s t u places bytes one two = record {
    found = one.found ++ two.found;
    found_are = words_more b c owed xs ys k n one.found two.found between next places bytes one.found_are two.found_are;
    few = omega (arith, one.few, two.few, length-append one.found two.found);
    handed = more s t u one.found two.found one.handed two.handed;
  }

  -- a walk over a stretch, and bundles without a finding up to byte `end`
  pub words_skipped : ((s t u : F) (xs ys : List Finding) → takes s xs t → takes t ys u → takes s (xs ++ ys) u)
      → (b : BundlePlace) (owed between next : Owed) (code : List ℕ) (at end : ℕ) (s t : F) → takes t [] t
      → (w : AreBundlesTo code 0 at (λ n. IsWordCodeScanned takes b owed code n between s t)) → IsRunClean b between code w.bundles end next
      → AreBundlesTo code 0 end (λ n. IsWordCodeScanned takes b owed code n next s t)
  words_skipped more b owed between next code at end s t none w run =
      walk_on b w (walk_at w) run
      (λ i places bytes told. words_scanned_more more (stretch_place b w.bundles) b owed (drop (16 * w.bundles) code) code w.bundles i between next s t t places bytes w.told (words_clean t none told))

-- ---- in a part

-- the findings of a part's first `k` bundles, followed by those of a stretch that lies after them
pub words_in_part : (sandbox : ℕ) (p : Part) (b : BundlePlace) (xs : List ℕ) (k n : ℕ) (front found : List Finding) (between next : Owed)
    → ((i : ℕ) → i < n → stretch_place b i ≡ bundle_place sandbox p (k + i)) → ((i : ℕ) → i < n → block_bundle xs i ≡ bundle_bytes p (k + i))
    → AreFoundOfFirst sandbox p k front between → AreWordStretchFindings b between xs n found next → AreFoundOfFirst sandbox p (k + n) (front ++ found) next
words_in_part sandbox p b xs k zero front found between next places bytes before none =
    rw (none.0, none.1, append-nil front) (subst (λ (m : ℕ). AreFoundOfFirst sandbox p m front between) (let e : k ≡ k + 0 = omega arith in e) before)
words_in_part sandbox p b xs k (suc n) front found between next places bytes before are =
    let more = words_in_part sandbox p b xs k n front are.0 between are.2 (λ i less. places i (omega arith)) (λ i less. bytes i (omega arith)) before are.3 in
    let one = subst (λ (x : BundlePlace). AreFoundInBundle x are.2 (bundle_bytes p (k + n)) are.1 next) (places n (omega arith))
    (subst (λ (x : List ℕ). AreFoundInBundle (stretch_place b n) are.2 x are.1 next) (bytes n (omega arith)) are.4) in
    let found_is = ap (λ (l : List Finding). front ++ l) are.5 ∙ sym (append_assoc front are.0 are.1) in
    subst (λ (m : ℕ). AreFoundOfFirst sandbox p m (front ++ found) next) (let e : suc (k + n) ≡ k + suc n = omega arith in e) (front ++ are.0, are.1, are.2, more, one, found_is)

-- the findings of a part's first `k` bundles, followed by those of a stretch that lies after them,
pub same_format : (b : BundlePlace) (n : ℕ) → (stretch_place b n).format ≡ b.format
same_format b zero = refl
same_format b (suc n) = refl

-- in any format
pub found_in_part : (sandbox : ℕ) (p : Part) (b : BundlePlace) (xs : List ℕ) (k n : ℕ) (front found : List Finding) (between next : Owed) → b.format ≡ p.format
    → ((i : ℕ) → i < n → stretch_place b i ≡ bundle_place sandbox p (k + i)) → ((i : ℕ) → i < n → block_bundle xs i ≡ bundle_bytes p (k + i))
    → AreFoundUpTo sandbox p k front between → AreFoundInStretch b between xs n found next → AreFoundUpTo sandbox p (k + n) (front ++ found) next
found_in_part sandbox p b xs k n front found between next format places bytes before are =
    by (has_words p.format) before (subst (λ (w : Bool). MatchBool w (AreWordStretchFindings b between xs n found next) (AreStretchFindings b xs n found × (next ≡ Nothing))) (ap has_words format) are)
  where
    by : (w : Bool) → MatchBool w (AreFoundOfFirst sandbox p k front between) (AreFindingsOfFirst sandbox p k front × (between ≡ Nothing))
        → MatchBool w (AreWordStretchFindings b between xs n found next) (AreStretchFindings b xs n found × (next ≡ Nothing))
        → MatchBool w (AreFoundOfFirst sandbox p (k + n) (front ++ found) next) (AreFindingsOfFirst sandbox p (k + n) (front ++ found) × (next ≡ Nothing))
    by true one more = words_in_part sandbox p b xs k n front found between next places bytes one more
    by false one more = (stretch_in_part sandbox p b xs k n front found places bytes one.0 more.0, more.1)

-- ==== The clean words of a block as the bundles of a stretch without findings.

-- word n of bundle k
bytes_are : (block : List ℕ) (m k n : ℕ) → m ≡ 4 * k + n → n < 4 → bytes_at block (2 * m) ≡ take 4 (drop (4 * n) (block_bundle block k))
bytes_are block m k n is less =
    let left = 16 - 4 * n in
    let sum : 4 * n + left ≡ 16 = omega arith in
    let there : 16 * k + 4 * n ≡ 2 * (2 * m) = omega (arith, is) in
    sym (ap (λ (j : ℕ). take 4 (drop (4 * n) (take j (drop (16 * k) block)))) (sym sum)
    ∙ ap (take 4) (drop-take (4 * n) left (drop (16 * k) block)) ∙ take-take 4 left (drop (4 * n) (drop (16 * k) block)) (omega (arith, less))
    ∙ ap (take 4) (drop-drop (4 * n) (16 * k) block ∙ ap (λ (j : ℕ). drop j block) there))

word_in_bundle : (b : BundlePlace) (block : List ℕ) (m k n : ℕ) (owed next : Owed) → m ≡ 4 * k + n → n < 4 → IsCleanWord b block (2 * m) owed next
    → IsWordFound (bundle_at b k) ((bundle_at b k).address + 4 * n) owed (take 4 (drop (4 * n) (block_bundle block k))) [] next
word_in_bundle b block m k n owed next is less h =
    let place : 2 * m / 8 ≡ k = omega (arith, is, less) in
    let address : b.address + 2 * (2 * m) ≡ b.address + 16 * k + 4 * n = omega (arith, is) in
    subst (λ (l : List ℕ). IsWordFound (bundle_at b k) (b.address + 16 * k + 4 * n) owed l [] next) (bytes_are block m k n is less)
    (subst (λ (a : ℕ). IsWordFound (bundle_at b k) a owed (bytes_at block (2 * m)) [] next) address
    (subst (λ (j : ℕ). IsWordFound (bundle_at b j) (b.address + 2 * (2 * m)) owed (bytes_at block (2 * m)) [] next) place h))

-- four words of a block from its bundle k on
bundle_found : (b : BundlePlace) (owed next : Owed) (block : List ℕ) (from k m : ℕ) → m ≡ 4 * k → (w : ℕ) → 4 * from + w ≡ m → AreCleanWords b owed block (4 * from) (suc (suc (suc (suc w)))) next
    → (before : Owed) × AreCleanWords b owed block (4 * from) w before × AreFoundInBundle (bundle_at b k) before (block_bundle block k) [] next
bundle_found b owed next block from k m is w at four =
    let three = four.1 in
    let two = three.1 in
    let one = two.1 in
    let word3 = word_in_bundle b block (4 * from + suc (suc (suc w))) k 3 four.0 next (omega (arith, is, at)) (omega arith) four.2 in
    let word2 = word_in_bundle b block (4 * from + suc (suc w)) k 2 three.0 four.0 (omega (arith, is, at)) (omega arith) three.2 in
    let word1 = word_in_bundle b block (4 * from + suc w) k 1 two.0 three.0 (omega (arith, is, at)) (omega arith) two.2 in
    let word0 = word_in_bundle b block (4 * from + w) k 0 one.0 two.0 (omega (arith, is, at)) (omega arith) one.2 in
    (one.0, one.1, ([], [], four.0, ([], [], three.0, ([], [], two.0, ([], [], one.0, (refl, refl), word0, refl), word1, refl), word2, refl), word3, refl))

-- the clean words from a bundle on, as a stretch that begins there
pub clean_stretch : (b : BundlePlace) (owed : Owed) (block : List ℕ) (from : ℕ) → b.listed ≡ false → (k : ℕ) (next : Owed) → AreCleanWords b owed block (4 * from) (4 * k) next
    → AreWordStretchFindings (stretch_place b from) owed (drop (16 * from) block) k [] next
clean_stretch b owed block from plain zero next h = (refl, h)
clean_stretch b owed block from plain (suc k) next h =
    let four = subst (λ (m : ℕ). AreCleanWords b owed block (4 * from) m next) (let e : 4 * suc k ≡ suc (suc (suc (suc (4 * k)))) = omega arith in e) h in
    let last = bundle_found b owed next block from (from + k) (4 * (from + k)) refl (4 * k) (omega arith) four in
    let place = place_in_block b from k plain in (
      [],
      [],
      last.0,
      clean_stretch b owed block from plain k last.0 last.1,
      subst (λ (c : BundlePlace). AreFoundInBundle c last.0 (block_bundle (drop (16 * from) block) k) [] next) place
          (subst (λ (l : List ℕ). AreFoundInBundle (bundle_at b (from + k)) last.0 l [] next) (sym (rest_bundle from k block)) last.2),
      refl,
    )

-- what a look at a block of a stretch tells, from bundle k of it on
pub block_seen : (b : BundlePlace) (owed next : Owed) (code : List ℕ) (k start : ℕ) (s : IsBlockStart b code k start)
    → AreCleanWords (stretch_place b s.first) owed (take 128 (drop (16 * s.first) code)) (4 * s.before) (4 * (8 - s.before)) next
    → AreSomeBundlesTo code k (start + 128) (λ n. AreWordStretchFindings (stretch_place b k) owed (drop (16 * k) code) n [] next)
block_seen b owed next code k start s h =
    block_front (λ (c : BundlePlace) (l : List ℕ) (n : ℕ). AreWordStretchFindings c owed l n [] next) (λ c xs ys n. words_same c owed xs ys n [] next) b code k start s
    (clean_stretch (stretch_place b s.first) owed (take 128 (drop (16 * s.first) code)) s.before s.plain (8 - s.before) next h)
