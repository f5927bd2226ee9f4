-- The walk over a stretch, front by front. What is told of the bundles of a stretch is a parameter: a
-- relation of the first one's place, the bytes and how many they are.
use Rattle.sfi_scan.proofs.Prelude.{◌≡◌, ℕ, ◌+◌, ◌-◌, ◌*◌, ◌^◌, ◌<◌, ◌≤◌, List, length, take, drop, min, sym, ap, ◌∙◌, subst, arith, BundlePlace, block_bundle, IsWithin, stretch_place, AreBundlesTo}
use Rattle.sfi_scan.specs.Stretches.{IsStretch}
use Rattle.sfi_scan.specs.private.Scanning.{IsBlockStart, AreSomeBundlesTo}
use Rattle.sfi_scan.proofs.Stretches.{place_on, place_address, place_base, place_size, front_bundle, rest_bundle}

-- a bundle of a stretch lies in its region
pub within_stretch : (b : BundlePlace) (code : List ℕ) (n k : ℕ) → IsStretch b code n → k < n → IsWithin (stretch_place b k)
within_stretch b code n k run less =
    let whole = run.whole in
    let base = run.base in
    let end = run.end in
    record {
      base = omega (arith, base, place_base b k, place_address b k);
      end = omega (arith, end, whole, less, place_base b k, place_address b k, place_size b k);
      addresses = omega (arith, run.addresses, place_base b k, place_size b k);
    }

-- where the block begins that a stretch of n bundles is looked at by, from bundle k on
pub record IsStart (n k start len : ℕ) : Type 0 where
  pub first : ℕ
  pub before : ℕ
  pub is : k ≡ first + before
  pub inside : before < 8
  pub below : first < n
  pub start_is : start ≡ 16 * first
  pub whole : start + 128 ≤ len

pub start_at : (n k at start len : ℕ) → len ≡ 16 * n → at ≡ 16 * k → k < n → 128 ≤ len → start ≡ min at (len - 128) → IsStart n k start len
start_at n k at start len whole is less room here = record {
  first = min k (n - 8);
  before = k - min k (n - 8);
  is = omega arith;
  inside = omega (arith, whole, less, room);
  below = omega (arith, whole, less, room);
  start_is = omega (arith, whole, is, room, here);
  whole = omega (arith, whole, is, room, here);
}

-- the bytes of a stretch are numbered below 2 ^ 32
pub below_end : (b : BundlePlace) (code : List ℕ) (n at k : ℕ) → IsStretch b code n → at ≡ 16 * k → k < n → (b.address + at < 2 ^ 32) × (at + 16 ≤ length code)
below_end b code n at k run is less =
    let whole = run.whole in
    let end = run.end in
    (omega (arith, whole, end, run.addresses, is, less), omega (arith, whole, is, less))

-- ---- what is told at a front

-- `R` depends on the bundles' bytes and places alone
abbrev pub IsOfBundles : (BundlePlace → List ℕ → ℕ → Type 0) → Type 0
IsOfBundles R = (b : BundlePlace) (xs ys : List ℕ) (n : ℕ) → ((i : ℕ) → i < n → block_bundle xs i ≡ block_bundle ys i) → R b xs n → R b ys n

-- what is told of a block's bundles is told of the stretch's
pub block_front : (R : BundlePlace → List ℕ → ℕ → Type 0) → IsOfBundles R → (b : BundlePlace) (code : List ℕ) (k start : ℕ) (s : IsBlockStart b code k start)
    → R (stretch_place (stretch_place b s.first) s.before) (drop (16 * s.before) (take 128 (drop (16 * s.first) code))) (8 - s.before)
    → AreSomeBundlesTo code k (start + 128) (R (stretch_place b k) (drop (16 * k) code))
block_front R same b code k start s h =
    let is = s.is in
    let inside = s.inside in
    let start_is = s.start_is in
    let whole = s.whole in
    let block = take 128 (drop (16 * s.first) code) in
    let place : stretch_place (stretch_place b s.first) s.before ≡ stretch_place b k = place_on b s.first s.before ∙ ap (stretch_place b) (sym is) in
    record {
      bundles = 8 - s.before;
      end_is = omega (arith, is, inside, start_is);
      inside = omega (arith, whole);
      told = (
        omega (arith, inside),
        same (stretch_place b k) (drop (16 * s.before) block) (drop (16 * k) code) (8 - s.before)
            (λ i less. rest_bundle s.before i block ∙ front_bundle 8 (s.before + i) (drop (16 * s.first) code) (omega (arith, less)) ∙ rest_bundle s.first (s.before + i) code
            ∙ ap (block_bundle code) (let e : s.first + (s.before + i) ≡ k + i = omega (arith, is) in e) ∙ sym (rest_bundle k i code))
            (subst (λ (c : BundlePlace). R c (drop (16 * s.before) block) (8 - s.before)) place h),
      );
    }

-- and so it is of one bundle
pub bundle_front : (R : BundlePlace → List ℕ → ℕ → Type 0) → IsOfBundles R → (b c : BundlePlace) (code bundle : List ℕ) (at k : ℕ) → at ≡ 16 * k → c ≡ stretch_place b k
    → bundle ≡ take 16 (drop at code) → at + 16 ≤ length code → R c bundle 1 → AreSomeBundlesTo code k (at + 16) (R (stretch_place b k) (drop (16 * k) code))
bundle_front R same b c code bundle at k is place bytes enough h = record {
  bundles = 1;
  end_is = omega (arith, is);
  inside = enough;
  told = (
    omega arith,
    same (stretch_place b k) bundle (drop (16 * k) code) 1
        (λ i less. ap (λ (l : List ℕ). block_bundle l i) (bytes ∙ ap (λ (a : ℕ). take 16 (drop a code)) is) ∙ front_bundle 1 i (drop (16 * k) code) less)
        (subst (λ (x : BundlePlace). R x bundle 1) place h),
  );
}

-- ---- the walk

-- a walk begins where no bundle has been passed yet
pub run_none : {code : List ℕ} {holds : ℕ → Type 0} (at k : ℕ) → at ≡ 16 * k → at ≤ length code → holds 0 → AreBundlesTo code k at holds
run_none at k is inside none = record {
  bundles = 0;
  end_is = omega (arith, is);
  inside = inside;
  told = none;
}

-- what a scan of a front is to be given
pub front_ahead : {b : BundlePlace} {code : List ℕ} {n k at : ℕ} {holds : ℕ → Type 0} (w : AreBundlesTo code k at holds) → IsStretch b code n → at < length code
    → (m : ℕ) × (j : ℕ) × IsStretch b code m × (at ≡ 16 * j) × (j < m)
front_ahead {n = n} {k = k} w run less =
    let whole = run.whole in
    let at_is = w.end_is in
    (n, k + w.bundles, run, at_is, omega (arith, whole, at_is, less))

-- and a scan of one bundle
pub bundle_ahead : {b : BundlePlace} {code : List ℕ} {n k at : ℕ} {holds : ℕ → Type 0} (w : AreBundlesTo code k at holds) → IsStretch b code n → at < length code
    → (b.address + at < 2 ^ 32) × (at + 16 ≤ length code) × IsWithin (stretch_place b (k + w.bundles))
bundle_ahead {b = b} {code = code} {n = n} {k = k} {at = at} w run less =
    let whole = run.whole in
    let at_is = w.end_is in
    let among : k + w.bundles < n = omega (arith, whole, at_is, less) in
    let below = below_end b code n at (k + w.bundles) run at_is among in
    (below.0, below.1, within_stretch b code n (k + w.bundles) run among)

pub walk_nearer : {code : List ℕ} {k at end : ℕ} {told : ℕ → Type 0} → at ≡ 16 * k → AreSomeBundlesTo code k end told → length code - end < length code - at
walk_nearer at_is front =
    let some = front.told.0 in
    omega (arith, at_is, front.end_is, some, front.inside)

-- a walk goes on over more bundles, from bundle m on
pub walk_on : {code : List ℕ} {k m at end : ℕ} {holds told after : ℕ → Type 0} (b : BundlePlace) (w : AreBundlesTo code k at holds) → at ≡ 16 * m → AreBundlesTo code m end told
    → ((n : ℕ) → ((i : ℕ) → i < n → stretch_place (stretch_place b m) i ≡ stretch_place (stretch_place b k) (w.bundles + i))
    → ((i : ℕ) → i < n → block_bundle (drop (16 * m) code) i ≡ block_bundle (drop (16 * k) code) (w.bundles + i)) → told n → after (w.bundles + n))
    → AreBundlesTo code k end after
walk_on {code = code} {k = k} {m = m} b w at_is more on =
    let end_is = more.end_is in
    let so_far = w.end_is in
    let there : m ≡ k + w.bundles = omega (arith, at_is, so_far) in
    record {
      bundles = w.bundles + more.bundles;
      end_is = omega (arith, end_is, there);
      inside = more.inside;
      told = on more.bundles
          (λ i less. place_on b m i ∙ ap (stretch_place b) (let e : m + i ≡ k + (w.bundles + i) = omega (arith, there) in e) ∙ sym (place_on b k (w.bundles + i)))
          (λ i less. rest_bundle m i code ∙ ap (block_bundle code) (let e : m + i ≡ k + (w.bundles + i) = omega (arith, there) in e) ∙ sym (rest_bundle k (w.bundles + i) code))
          more.told;
    }

pub walk_at : {code : List ℕ} {at : ℕ} {holds : ℕ → Type 0} (w : AreBundlesTo code 0 at holds) → at ≡ 16 * w.bundles
walk_at w =
    let at_is = w.end_is in
    omega (arith, at_is)

-- at its end it has come over the whole stretch
pub walk_over : {b : BundlePlace} {code : List ℕ} {n at : ℕ} (holds : ℕ → Type 0) → AreBundlesTo code 0 at holds → IsStretch b code n → length code ≤ at → holds n
walk_over {code = code} {n = n} {at = at} holds w run over =
    let whole = run.whole in
    let at_is = w.end_is in
    let inside = w.inside in
    subst holds (let all : w.bundles ≡ n = omega (arith, whole, at_is, inside, over) in all) w.told
