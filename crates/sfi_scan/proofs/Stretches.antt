-- Stretches of bundles: their parts, and the findings of one after another.
use Rattle.std.specs.Simd.{first_chunks}
use Rattle.sfi_scan.proofs.Prelude.{get_or, ◌≡◌, ℕ, zero, suc, ◌+◌, ◌-◌, ◌*◌, ◌<◌, false, List, [], ◌++◌, take, drop, refl, sym, ap, ◌∙◌, subst, arith, append-nil, append_assoc, length-append, drop-drop, drop-take, take-take, inr, BundlePlace, Finding, Part, bundle_at, block_bundle, bundle_bytes, bundle_place, AreBundleFindings, AreReadingFindings, AreFindingsOfFirst, IsScanned, stretch_place, AreStretchFindings}

-- ---- places

pub place_address : (b : BundlePlace) (n : ℕ) → (stretch_place b n).address ≡ b.address + 16 * n
place_address b zero = omega arith
place_address b (suc n) = refl

pub place_base : (b : BundlePlace) (n : ℕ) → (stretch_place b n).code_base ≡ b.code_base
place_base b zero = refl
place_base b (suc n) = refl

pub place_size : (b : BundlePlace) (n : ℕ) → (stretch_place b n).code_size ≡ b.code_size
place_size b zero = refl
place_size b (suc n) = refl

-- a stretch's place where the stretch goes on
pub place_on : (b : BundlePlace) (k i : ℕ) → stretch_place (stretch_place b k) i ≡ stretch_place b (k + i)
place_on b zero i = ap (stretch_place b) (let e : i ≡ 0 + i = omega arith in e)
place_on b (suc k) zero = ap (stretch_place b) (let e : suc k ≡ suc k + 0 = omega arith in e)
place_on b (suc k) (suc i) = ap (λ (a : ℕ). record b { address = a; listed = false }) (let e : b.address + 16 * suc k + 16 * suc i ≡ b.address + 16 * suc (k + suc i) = omega arith in e) ∙ ap (stretch_place b) (let e : suc (k + suc i) ≡ suc k + suc i = omega arith in e)

-- a plain block's places are those of a stretch
pub plain_place : (b : BundlePlace) (i : ℕ) → b.listed ≡ false → stretch_place b i ≡ bundle_at b i
plain_place b zero e = rw (← e) (ap (λ (a : ℕ). record b { address = a; listed = b.listed }) (let e : b.address ≡ b.address + 16 * 0 = omega arith in e))
plain_place b (suc i) e = refl

-- ---- findings

-- the findings of the first `k` bundles, followed by those of the next `n`, are those of `k + n`
pub stretch_more : (b c : BundlePlace) (xs ys : List ℕ) (k n : ℕ) (front found : List Finding)
    → ((i : ℕ) → i < n → stretch_place b i ≡ stretch_place c (k + i)) → ((i : ℕ) → i < n → block_bundle xs i ≡ block_bundle ys (k + i))
    → AreStretchFindings c ys k front → AreStretchFindings b xs n found → AreStretchFindings c ys (k + n) (front ++ found)
stretch_more b c xs ys k zero front found places bytes before none = rw none (subst (λ (l : List Finding). AreStretchFindings c ys (k + 0) l) (sym (append-nil front)) (subst (λ (m : ℕ). AreStretchFindings c ys m front) (let e : k ≡ k + 0 = omega arith in e) before))
stretch_more b c xs ys k (suc n) front found places bytes before are =
    let more = stretch_more b c xs ys k n front are.0 (λ i less. places i (omega arith)) (λ i less. bytes i (omega arith)) before are.2 in
    let one = subst (λ (x : BundlePlace). AreBundleFindings x (block_bundle ys (k + n)) are.1) (places n (omega arith)) (subst (λ (x : List ℕ). AreBundleFindings (stretch_place b n) x are.1) (bytes n (omega arith)) are.3) in
    let found_is = ap (λ (l : List Finding). front ++ l) are.4 ∙ sym (append_assoc front are.0 are.1) in
    subst (λ (m : ℕ). AreStretchFindings c ys m (front ++ found)) (let e : suc (k + n) ≡ k + suc n = omega arith in e) (front ++ are.0, are.1, more, one, found_is)

-- the findings of a part's first `k` bundles, followed by those of a stretch that lies after them
pub stretch_in_part : (sandbox : ℕ) (p : Part) (b : BundlePlace) (xs : List ℕ) (k n : ℕ) (front found : List Finding)
    → ((i : ℕ) → i < n → stretch_place b i ≡ bundle_place sandbox p (k + i)) → ((i : ℕ) → i < n → block_bundle xs i ≡ bundle_bytes p (k + i))
    → AreFindingsOfFirst sandbox p k front → AreStretchFindings b xs n found → AreFindingsOfFirst sandbox p (k + n) (front ++ found)
stretch_in_part sandbox p b xs k zero front found places bytes before none = rw none (subst (λ (l : List Finding). AreFindingsOfFirst sandbox p (k + 0) l) (sym (append-nil front)) (subst (λ (m : ℕ). AreFindingsOfFirst sandbox p m front) (let e : k ≡ k + 0 = omega arith in e) before))
stretch_in_part sandbox p b xs k (suc n) front found places bytes before are =
    let more = stretch_in_part sandbox p b xs k n front are.0 (λ i less. places i (omega arith)) (λ i less. bytes i (omega arith)) before are.2 in
    let one = subst (λ (x : BundlePlace). AreBundleFindings x (bundle_bytes p (k + n)) are.1) (places n (omega arith)) (subst (λ (x : List ℕ). AreBundleFindings (stretch_place b n) x are.1) (bytes n (omega arith)) are.3) in
    let found_is = ap (λ (l : List Finding). front ++ l) are.4 ∙ sym (append_assoc front are.0 are.1) in
    subst (λ (m : ℕ). AreFindingsOfFirst sandbox p m (front ++ found)) (let e : suc (k + n) ≡ k + suc n = omega arith in e) (front ++ are.0, are.1, more, one, found_is)

-- where no bundle has a finding
pub stretch_clean : (b : BundlePlace) (xs : List ℕ) (n : ℕ) → ((i : ℕ) → i < n → AreBundleFindings (stretch_place b i) (block_bundle xs i) []) → AreStretchFindings b xs n []
stretch_clean b xs zero clean = refl
stretch_clean b xs (suc n) clean = ([], [], stretch_clean b xs n (λ i less. clean i (omega arith)), clean n (omega arith), refl)

-- one bundle more
pub stretch_push : (b : BundlePlace) (xs : List ℕ) (n : ℕ) (front last : List Finding) → AreStretchFindings b xs n front → AreBundleFindings (stretch_place b n) (block_bundle xs n) last → AreStretchFindings b xs (n + 1) (front ++ last)
stretch_push b xs n front last are one = subst (λ (m : ℕ). AreStretchFindings b xs m (front ++ last)) (let e : suc n ≡ n + 1 = omega arith in e) (front, last, are, one, refl)

-- the findings are the same for other bytes with the same bundles
pub stretch_same : (b : BundlePlace) (xs ys : List ℕ) (n : ℕ) (found : List Finding) → ((i : ℕ) → i < n → block_bundle xs i ≡ block_bundle ys i) → AreStretchFindings b xs n found → AreStretchFindings b ys n found
stretch_same b xs ys zero found bytes none = none
stretch_same b xs ys (suc n) found bytes are =
    (are.0, are.1, stretch_same b xs ys n are.0 (λ i less. bytes i (omega arith)) are.2, subst (λ (x : List ℕ). AreBundleFindings (stretch_place b n) x are.1) (bytes n (omega arith)) are.3, are.4)

-- ---- what a sink took

module _ {F : Type 0} (takes : F → List Finding → F → Type 0) where
  pub scanned_none : (b : BundlePlace) (xs : List ℕ) (s : F) → takes s [] s → IsScanned takes b xs 0 s s
  scanned_none b xs s none = record { found = []; found_are = refl; few = omega arith; handed = none }

  pub scanned_same : (b : BundlePlace) (xs ys : List ℕ) (n : ℕ) (s t : F) → ((i : ℕ) → i < n → block_bundle xs i ≡ block_bundle ys i) → IsScanned takes b xs n s t → IsScanned takes b ys n s t
  scanned_same b xs ys n s t bytes h = record { found = h.found; found_are = stretch_same b xs ys n h.found bytes h.found_are; few = h.few; handed = h.handed }

  pub scanned_more : ((s t u : F) (xs ys : List Finding) → takes s xs t → takes t ys u → takes s (xs ++ ys) u)
      → (b c : BundlePlace) (xs ys : List ℕ) (k n : ℕ) (s t u : F)
      → ((i : ℕ) → i < n → stretch_place b i ≡ stretch_place c (k + i)) → ((i : ℕ) → i < n → block_bundle xs i ≡ block_bundle ys (k + i))
      → IsScanned takes c ys k s t → IsScanned takes b xs n t u → IsScanned takes c ys (k + n) s u
  scanned_more more b c xs ys k n s t u places bytes one two = record {
    found = one.found ++ two.found;
    found_are = stretch_more b c xs ys k n one.found two.found places bytes one.found_are two.found_are;
    few = omega (arith, one.few, two.few, length-append one.found two.found);
    handed = more s t u one.found two.found one.handed two.handed;
  }

-- ---- bytes

-- a bundle among the first ones
pub front_bundle : (n i : ℕ) (xs : List ℕ) → i < n → block_bundle (take (16 * n) xs) i ≡ block_bundle xs i
front_bundle n i xs less =
    let m = 16 * n - 16 * i - 16 in
    let e : 16 * i + (16 + m) ≡ 16 * n = omega arith in
    ap (λ (k : ℕ). take 16 (drop (16 * i) (take k xs))) (sym e) ∙ ap (take 16) (drop-take (16 * i) (16 + m) xs) ∙ take-take 16 (16 + m) (drop (16 * i) xs) (omega arith)

-- and among those that follow the first ones
pub rest_bundle : (from i : ℕ) (xs : List ℕ) → block_bundle (drop (16 * from) xs) i ≡ block_bundle xs (from + i)
rest_bundle from i xs =
    let at : 16 * from + 16 * i ≡ 16 * (from + i) = omega arith in
    ap (take 16) (drop-drop (16 * i) (16 * from) xs ∙ ap (λ (k : ℕ). drop k xs) at)

-- one bundle is a stretch of its own
pub first_bundle : (i : ℕ) (xs : List ℕ) → block_bundle (block_bundle xs i) 0 ≡ block_bundle xs (i + 0)
first_bundle i xs = take-take 16 16 (drop (16 * i) xs) (omega arith) ∙ ap (block_bundle xs) (let e : i ≡ i + 0 = omega arith in e)

-- a plain bundle that is read
pub plain_found : (b : BundlePlace) (i : ℕ) (bytes : List ℕ) (found : List Finding) → b.listed ≡ false → AreReadingFindings (bundle_at b i) bytes found → AreBundleFindings (stretch_place b i) bytes found
plain_found b i bytes found plain h = rw (plain_place b i plain) (inr (λ e. absurd cc, h))

-- ---- blocks

-- the places of a plain block's bundles from one on are those of a stretch
pub place_in_block : (b : BundlePlace) (from i : ℕ) → b.listed ≡ false → bundle_at b (from + i) ≡ stretch_place (stretch_place b from) i
place_in_block b from i plain = sym (place_on b from i ∙ plain_place b (from + i) plain)

-- a bundle of a block that is seen clean has no findings among them
pub clean_in_block : (b : BundlePlace) (block : List ℕ) (from k i : ℕ) → k ≡ from + i → b.listed ≡ false → AreReadingFindings (bundle_at b k) (block_bundle block k) []
    → AreBundleFindings (stretch_place (stretch_place b from) i) (block_bundle (drop (16 * from) block) i) []
clean_in_block b block from k i is plain h =
    subst (λ (l : List ℕ). AreBundleFindings (stretch_place (stretch_place b from) i) l []) (ap (block_bundle block) is ∙ sym (rest_bundle from i block))
    (subst (λ (c : BundlePlace). AreBundleFindings c (block_bundle block k) []) (ap (stretch_place b) is ∙ sym (place_on b from i)) (plain_found b k (block_bundle block k) [] plain h))

pub block_clean : (b : BundlePlace) (block : List ℕ) (from : ℕ) → b.listed ≡ false → ((i : ℕ) → i < 8 → AreReadingFindings (bundle_at b i) (block_bundle block i) [])
    → AreStretchFindings (stretch_place b from) (drop (16 * from) block) (8 - from) []
block_clean b block from plain clean = stretch_clean (stretch_place b from) (drop (16 * from) block) (8 - from) (λ i less. clean_in_block b block from (from + i) i refl plain (clean (from + i) (omega (arith, less))))

-- a bundle of the chunks
pub chunk_at : (count k : ℕ) (xs : List ℕ) → k < count → get_or (first_chunks 16 count xs) k [] ≡ block_bundle xs k
chunk_at zero k xs h = absurd (omega arith)
chunk_at (suc count) zero xs h = refl
chunk_at (suc count) (suc k) xs h =
    chunk_at count k (drop 16 xs) (omega arith) ∙ ap (take 16) (drop-drop (16 * k) 16 xs ∙ ap (λ n. drop n xs) (let e : 16 + 16 * k ≡ 16 * suc k = omega arith in e))
