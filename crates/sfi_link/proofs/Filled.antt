-- What is placed, filled up with c.ebreaks, is full bundles.
use Rattle.sfi_link.proofs.Prelude.{◌≡◌, ℕ, zero, suc, ◌+◌, ◌-◌, ◌*◌, ◌/◌, ◌<◌, List, [], ◌∷◌, ◌++◌, length, get_or, true, refl, sym, ap, ◌∙◌, arith, append_assoc, append-nil, replicate, All, length-replicate, get_or-replicate, replicate-append-replicate, All-head, All-tail, All-cons, All-replicate, Format, BundleSlot, size_of, slots_of, AreBundles, AreWhole, nothing, c_ebreak}
use Rattle.sfi_rewrite.proofs.Sizes.{size_of-append, size_even}
use Rattle.sfi_link.proofs.Bytes.{size_fill}
use Rattle.sfi_link.proofs.CleanPlaces.{ends_slots}
use Rattle.sfi_link.proofs.Region.{IsFull}

-- ---- c.ebreaks

-- a bundle of c.ebreaks
abbrev eight : List BundleSlot
eight = replicate 8 c_ebreak

eights : (m : ℕ) → slots_of (replicate m eight) ≡ replicate (8 * m) c_ebreak
eights zero = refl
eights (suc m) =
    ap (λ l. eight ++ l) (eights m) ∙ replicate-append-replicate 8 (8 * m) c_ebreak ∙ ap (λ k. replicate k c_ebreak) (let e : 8 + 8 * m ≡ 8 * suc m = omega arith in e)

eights_full : (f : Format) (c m : ℕ) → All (IsFull f c) (replicate m eight)
eights_full f c m = All-replicate (IsFull f c) m eight (record { size = size_fill 8; front = []; fill = 8; shape = refl; whole = nothing })

ends_fill : (xs : List BundleSlot) (n : ℕ) → 0 < n → ends_slots (xs ++ replicate n c_ebreak) ≡ true
ends_fill xs zero h = absurd (omega arith)
ends_fill [] (suc zero) h = refl
ends_fill [] (suc (suc n)) h = ends_fill [] (suc n) (omega arith)
ends_fill (x ∷ []) (suc n) h = ends_fill [] (suc n) h
ends_fill (x ∷ y ∷ xs) (suc n) h = ends_fill (y ∷ xs) (suc n) h

-- ---- bundles

-- these bundles and `fill` c.ebreaks after them are `n` full bundles, the last of which ends in one
pub record AreFilled (f : Format) (c : ℕ) (bundles : List (List BundleSlot)) (fill n : ℕ) : Type 0 where
  pub full : List (List BundleSlot)
  pub slots : slots_of full ≡ slots_of bundles ++ replicate fill c_ebreak
  pub all : All (IsFull f c) full
  pub count : length full ≡ n
  pub ends : (k : ℕ) → k + 1 ≡ n → ends_slots (get_or full k []) ≡ true

-- the last bundle and the c.ebreaks
filled_one : (f : Format) (c : ℕ) (b : List BundleSlot) → AreWhole f c b → (j m fill n : ℕ) → size_of b + 2 * j ≡ 16 → fill ≡ j + 8 * m → n ≡ suc m → 0 < fill → AreFilled f c (b ∷ []) fill n
filled_one f c b w j m fill n size sum count some =
    let first : List BundleSlot = b ++ replicate j c_ebreak in
    let sized = size_of-append b (replicate j c_ebreak) in
    let filled = size_fill j in
    let flat : slots_of (first ∷ replicate m eight) ≡ slots_of (b ∷ []) ++ replicate fill c_ebreak =
    append_assoc b (replicate j c_ebreak) (slots_of (replicate m eight))
    ∙ ap (λ l. b ++ (replicate j c_ebreak ++ l)) (eights m)
    ∙ ap (λ l. b ++ l) ((replicate-append-replicate j (8 * m) c_ebreak) ∙ ap (λ k. replicate k c_ebreak) (sym sum))
    ∙ ap (λ l. l ++ replicate fill c_ebreak) (sym (append-nil b)) in
    let many = length-replicate m eight in
    record {
      full = first ∷ replicate m eight;
      slots = flat;
      all = All-cons (IsFull f c) first (replicate m eight) (record { size = omega arith; front = b; fill = j; shape = refl; whole = w }) (eights_full f c m);
      count = omega arith;
      ends = ends_of first m (λ zero_m. ends_fill b j (omega arith)) n count;
    }
  where
    ends_of : (first : List BundleSlot) (m : ℕ) → (m ≡ 0 → ends_slots first ≡ true) → (n : ℕ) → n ≡ suc m → (k : ℕ) → k + 1 ≡ n → ends_slots (get_or (first ∷ replicate m eight) k []) ≡ true
    ends_of first m one n count zero e = one (omega arith)
    ends_of first m one n count (suc k) e = ap ends_slots (get_or-replicate m k eight [] (omega arith))

pub filled : (f : Format) (k : ℕ) (bundles : List (List BundleSlot)) → AreBundles bundles → All (AreWhole f k) bundles → (fill n : ℕ) → size_of (slots_of bundles) + 2 * fill ≡ 16 * n → 0 < fill → AreFilled f k bundles fill n
filled f k [] are whole fill n size some =
    let e : 8 * n ≡ fill = omega arith in
    let many = length-replicate n eight in
    record {
      full = replicate n eight;
      slots = eights n ∙ ap (λ m. replicate m c_ebreak) e;
      all = eights_full f k n;
      count = many;
      ends = λ m h. ap ends_slots (get_or-replicate n m eight [] (omega arith));
    }
filled f k (b ∷ []) are whole fill n size some =
    let even = size_even b in
    let most = are.1 in
    let same = ap size_of (append-nil b) in
    filled_one f k b (All-head (AreWhole f k) b [] whole) ((16 - size_of b) / 2) (n - 1) fill n (omega arith) (omega arith) (omega arith) some
filled f k (b ∷ c ∷ bundles) are whole fill n size some =
    let first = are.0 in
    let e = size_of-append b (slots_of (c ∷ bundles)) in
    let one : AreFilled f k (c ∷ bundles) fill (n - 1) = filled f k (c ∷ bundles) are.1 (All-tail (AreWhole f k) b (c ∷ bundles) whole) fill (n - 1) (omega arith) some in
    let n_some : 0 < n = omega arith in
    record {
      full = b ∷ one.full;
      slots = ap (λ l. b ++ l) one.slots ∙ sym (append_assoc b (slots_of (c ∷ bundles)) (replicate fill c_ebreak));
      all = All-cons (IsFull f k) b one.full (record { size = first; front = b; fill = 0; shape = sym (append-nil b); whole = All-head (AreWhole f k) b (c ∷ bundles) whole }) one.all;
      count = omega arith;
      ends = ends_of b one.full (n - 1) n (omega arith) (size_positive (c ∷ bundles) fill (n - 1) (omega arith) some) one.ends;
    }
  where
    size_positive : (bs : List (List BundleSlot)) (fill m : ℕ) → size_of (slots_of bs) + 2 * fill ≡ 16 * m → 0 < fill → 0 < m
    size_positive bs fill m e h = omega arith

    ends_of : (b : List BundleSlot) (full : List (List BundleSlot)) (m n : ℕ) → n ≡ m + 1 → 0 < m → ((k : ℕ) → k + 1 ≡ m → ends_slots (get_or full k []) ≡ true) → (k : ℕ) → k + 1 ≡ n → ends_slots (get_or (b ∷ full) k []) ≡ true
    ends_of b full m n e h ends zero g = absurd (omega arith)
    ends_of b full m n e h ends (suc k) g = ends k (omega arith)
