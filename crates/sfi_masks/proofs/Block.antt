-- The masks of a block from those of its quarters.
use Rattle.std.proofs.Common.{◌≡◌, ℕ, ◌+◌, ◌*◌, ◌/◌, ◌%◌, ◌<◌, Bool, true, false, ◌==◌, not, List, take, drop, get_or, refl, sym, ap, ap₂, ◌∙◌, subst, inl, inr, arith}
use Rattle.std.specs.Prelude.{slice_index}
use Rattle.std.proofs.lemmas.Bool.{cases_eq}
use Rattle.std.proofs.lemmas.List.{get_or-take, get_or-drop}
use Rattle.sfi_masks.specs.declared.masks.Masks.{Masks}
use Rattle.sfi_masks.specs.Masks.{half_at, is_in, AreMasksBy, IsFreeHalfBy, IsFreeWordBy, IsFreeAccessBy}
use Rattle.sfi_masks.specs.private.{Code, may_of, on_of, AreSeen, of_four, free_classes, access_classes}
use Rattle.sfi_masks.proofs.Told.{half_is, word_is, free_half, free_word, free_access}

-- the same of bytes that are the same
moved : (code : Code) (f g : ℕ → ℕ) (m : Masks) → ((k : ℕ) → k < 32 → f k ≡ g k) → AreSeen code f m → AreSeen code g m
moved code f g m same p = record {
  long_small = p.long_small;
  free_small = p.free_small;
  access_small = p.access_small;
  long = λ i h. p.long i h ∙ ap (λ b. b % 4 == 3) (same (2 * i) (omega arith));
  free = λ i h.
      p.free i h ∙ ap₂ (λ a b. not (free_classes code a b (f (2 * ((i + 1) % 16))) (f (2 * ((i + 1) % 16) + 1)) == 0)) (same (2 * i) (omega arith)) (same (2 * i + 1) (omega arith))
      ∙ ap₂ (λ m n. not (free_classes code (g (2 * i)) (g (2 * i + 1)) m n == 0)) (same (2 * ((i + 1) % 16)) (omega arith)) (same (2 * ((i + 1) % 16) + 1) (omega arith));
  access = λ i h.
      p.access i h ∙ ap₂ (λ a b. not (access_classes code a b (f (2 * ((i + 1) % 16) + 1)) == 0)) (same (2 * i) (omega arith)) (same (2 * i + 1) (omega arith))
      ∙ ap (λ n. not (access_classes code (g (2 * i)) (g (2 * i + 1)) n == 0)) (same (2 * ((i + 1) % 16) + 1) (omega arith));
}

pub not_false : (b : Bool) → not b ≡ true → b ≡ false
not_false true e = cc
not_false false e = refl

module _ (code : Code) (block : List ℕ) (first second third fourth : Masks) where
  abbrev byte : ℕ → ℕ
  byte k = slice_index block k

  abbrev IsQuarter : ℕ → Masks → Type 0
  IsQuarter q m = AreSeen code (λ k. byte (32 * q + k)) m

  abbrev of_quarters : (Masks → ℕ) → ℕ → ℕ
  of_quarters mask q = of_four (mask first) (mask second) (mask third) (mask fourth) q

  -- the masks of quarter q
  pub record Quarter (q : ℕ) : Type 0 where
    pub masks : Masks
    pub are : IsQuarter q masks
    pub long : of_quarters (λ m. m.long) q ≡ masks.long
    pub free : of_quarters (λ m. m.free) q ≡ masks.free
    pub access : of_quarters (λ m. m.access) q ≡ masks.access

  quarter : IsQuarter 0 first → IsQuarter 1 second → IsQuarter 2 third → IsQuarter 3 fourth → (q : ℕ) → q < 4 → Quarter q
  quarter a b c d q lt = elim (cases_eq q 0) [
    | inl e ↦ subst Quarter (sym e) (record { masks = first; are = a; long = refl; free = refl; access = refl })
    | inr x ↦ elim (cases_eq q 1) [
      | inl e ↦ subst Quarter (sym e) (record { masks = second; are = b; long = refl; free = refl; access = refl })
      | inr y ↦ elim (cases_eq q 2) [
        | inl e ↦ subst Quarter (sym e) (record { masks = third; are = c; long = refl; free = refl; access = refl })
        | inr z ↦ (let e : q ≡ 3 = omega arith in subst Quarter (sym e) (record { masks = fourth; are = d; long = refl; free = refl; access = refl }))
      ]
    ]
  ]

  pub are_quarters : AreSeen code (λ k. slice_index (take 32 block) k) first
      → AreSeen code (λ k. slice_index (take 32 (drop 32 block)) k) second
      → AreSeen code (λ k. slice_index (take 32 (drop 64 block)) k) third
      → AreSeen code (λ k. slice_index (take 32 (drop 96 block)) k) fourth
      → (q : ℕ) → q < 4 → Quarter q
  are_quarters a b c d = quarter
      (moved code _ _ first (λ k h. get_or-take 32 block k 0 h ∙ ap (λ n. get_or block n 0) (let e : k ≡ 32 * 0 + k = omega arith in e)) a)
      (moved code _ _ second (λ k h. get_or-take 32 (drop 32 block) k 0 h ∙ get_or-drop 32 block k 0) b)
      (moved code _ _ third (λ k h. get_or-take 32 (drop 64 block) k 0 h ∙ get_or-drop 64 block k 0) c)
      (moved code _ _ fourth (λ k h. get_or-take 32 (drop 96 block) k 0 h ∙ get_or-drop 96 block k 0) d)

  module _ (fits : (k : ℕ) → byte k < 256) (quarter_at : (q : ℕ) → q < 4 → Quarter q) (m : Masks)
      (long_is : (i : ℕ) → i < 64 → is_in m.long i ≡ is_in (of_quarters (λ x. x.long) (i / 16)) (i % 16))
      (free_is : (i : ℕ) → i < 64 → is_in m.free i ≡ is_in (of_quarters (λ x. x.free) (i / 16)) (i % 16))
      (access_is : (i : ℕ) → i < 64 → is_in m.access i ≡ is_in (of_quarters (λ x. x.access) (i / 16)) (i % 16)) where
    -- the bytes that the vectors take for those of the next halfword
    abbrev next_low : ℕ → ℕ
    next_low i = byte (32 * (i / 16) + 2 * ((i % 16 + 1) % 16))

    abbrev next : ℕ → ℕ
    next i = byte (32 * (i / 16) + (2 * ((i % 16 + 1) % 16) + 1))

    at_quarter : (i : ℕ) → i < 64 → Quarter (i / 16)
    at_quarter i h = quarter_at (i / 16) (omega arith)

    place : (i : ℕ) → byte (32 * (i / 16) + 2 * (i % 16)) ≡ byte (2 * i)
    place i = ap byte (let e : 32 * (i / 16) + 2 * (i % 16) ≡ 2 * i = omega arith in e)

    place_high : (i : ℕ) → byte (32 * (i / 16) + (2 * (i % 16) + 1)) ≡ byte (2 * i + 1)
    place_high i = ap byte (let e : 32 * (i / 16) + (2 * (i % 16) + 1) ≡ 2 * i + 1 = omega arith in e)

    place_next_low : (i : ℕ) → i % 8 < 7 → next_low i ≡ byte (2 * i + 2)
    place_next_low i h = ap byte (let e : 32 * (i / 16) + 2 * ((i % 16 + 1) % 16) ≡ 2 * i + 2 = omega arith in e)

    place_next : (i : ℕ) → i % 8 < 7 → next i ≡ byte (2 * i + 3)
    place_next i h = ap byte (let e : 32 * (i / 16) + (2 * ((i % 16 + 1) % 16) + 1) ≡ 2 * i + 3 = omega arith in e)

    long_at : (i : ℕ) → i < 64 → is_in m.long i ≡ (byte (2 * i) % 4 == 3)
    long_at i h =
        let q = at_quarter i h in
        long_is i h ∙ ap (λ n. is_in n (i % 16)) q.long ∙ q.are.long (i % 16) (omega arith) ∙ ap (λ b. b % 4 == 3) (place i)

    free_at : (i : ℕ) → i < 64 → is_in m.free i ≡ not (free_classes code (byte (2 * i)) (byte (2 * i + 1)) (next_low i) (next i) == 0)
    free_at i h =
        let q = at_quarter i h in
        free_is i h ∙ ap (λ n. is_in n (i % 16)) q.free ∙ q.are.free (i % 16) (omega arith)
        ∙ ap₂ (λ a b. not (free_classes code a b (next_low i) (next i) == 0)) (place i) (place_high i)

    access_at : (i : ℕ) → i < 64 → is_in m.access i ≡ not (access_classes code (byte (2 * i)) (byte (2 * i + 1)) (next i) == 0)
    access_at i h =
        let q = at_quarter i h in
        access_is i h ∙ ap (λ n. is_in n (i % 16)) q.access ∙ q.are.access (i % 16) (omega arith)
        ∙ ap₂ (λ a b. not (access_classes code a b (next i) == 0)) (place i) (place_high i)

    pub are_masks : AreMasksBy (may_of code) (on_of code) block m
    are_masks = record {
      long = λ i h.
          let half = half_is block i in
          let low : byte (2 * i) % 4 ≡ half_at block i % 4 = omega arith in
          long_at i h ∙ ap (λ n. n == 3) low;
      short = λ i h free long. subst (IsFreeHalfBy (may_of code) (on_of code)) (sym (half_is block i))
          (free_half code (byte (2 * i)) (byte (2 * i + 1)) (next_low i) (next i) (fits (2 * i)) (fits (2 * i + 1)) (fits _) (sym (long_at i h) ∙ long) (not_false _ (sym (free_at i h) ∙ free)));
      word = λ i inside h free long. subst (IsFreeWordBy (may_of code) (on_of code)) (sym (word_is block i))
          (free_word code (byte (2 * i)) (byte (2 * i + 1)) (byte (2 * i + 2)) (byte (2 * i + 3)) (fits (2 * i)) (fits (2 * i + 1)) (fits (2 * i + 2)) (fits (2 * i + 3)) (sym (long_at i h) ∙ long)
          (ap₂ (λ m n. free_classes code (byte (2 * i)) (byte (2 * i + 1)) m n == 0) (sym (place_next_low i inside)) (sym (place_next i inside)) ∙ not_false _ (sym (free_at i h) ∙ free)));
      access = λ i inside h access. subst (IsFreeAccessBy (may_of code)) (sym (word_is block i))
          (free_access code (byte (2 * i)) (byte (2 * i + 1)) (byte (2 * i + 2)) (byte (2 * i + 3)) (fits (2 * i)) (fits (2 * i + 1)) (fits (2 * i + 2)) (fits (2 * i + 3))
          (ap (λ n. access_classes code (byte (2 * i)) (byte (2 * i + 1)) n == 0) (sym (place_next i inside)) ∙ not_false _ (sym (access_at i h) ∙ access)));
    }
