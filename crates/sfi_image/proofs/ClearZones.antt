-- Where zones at zero end, by the spans that a reader keeps, and which spans lie clear of them.
use Rattle.sfi_image.proofs.Prelude.{◌≡◌, ℕ, zero, suc, ◌+◌, ◌-◌, ◌*◌, ◌/◌, ◌<◌, ◌≤◌, ◌↔◌, true, false, List, [], ◌∷◌, ◌++◌, length, get_or, refl, sym, ap, ◌∙◌, subst, arith, All, All-nil, All-cons, All-push, All-head, All-tail, All-append, cases_lt, inl, inr, has_single_mask, Format, Fields, Span, Part, fields_of, spans, spans_of, code_span, guarded_span, AreOf, IsClear, AreClear, AreRight, zone_end, zone_ends_of, zone_ends, length_push}
use Rattle.std.specs.Prelude.{max, cond}
use Rattle.std.proofs.Math.Nat.{le-max_left, le-max_right, max-le, max-eq_left, max-eq_right}
use Rattle.std.specs.Ordering.{ord_max, nat_cmp, is_lt}
use Rattle.std.specs.declared.cmp.Ordering.{Ordering}
use Rattle.std.specs.Cmp.{nat_cmp_is}
use Rattle.std.specs.declared.cmp.Ordering.TheVariants.{Less, Equal, Greater}
use Rattle.sfi_image.specs.Spelling.{ends_below}
use Rattle.sfi_image.proofs.Tests.{All-front}

-- the elements at the end have what all have
pub All-rest : {X : Type 0} (P : X → Type 0) (xs ys : List X) → All P (xs ++ ys) → All P ys
All-rest P [] ys all = all
All-rest P (x ∷ xs) ys all = All-rest P xs ys (All-tail P x (xs ++ ys) all)

-- ---- by the spans of sandboxes

pub length_ends : (ss : List Span) → length (ends_below ss) ≡ length ss / 2
length_ends [] = refl
length_ends (code ∷ []) = refl
length_ends (code ∷ guarded ∷ more) = omega (arith, length_ends more)

-- the end at a place is that of the second span of the pair there
pub end_at : (ss : List Span) (i e : ℕ) (d : Span) → 2 * i + 1 < length ss → get_or (ends_below ss) i e ≡ (get_or ss (2 * i + 1) d).size - 4096
end_at [] i e d lt = absurd (omega arith)
end_at (code ∷ []) i e d lt = absurd (omega arith)
end_at (code ∷ guarded ∷ more) zero e d lt = refl
end_at (code ∷ guarded ∷ more) (suc i) e d lt =
    let on : suc (suc (2 * i + 1)) ≡ 2 * suc i + 1 = omega arith in
    end_at more i e d (omega arith) ∙ ap (λ (k : ℕ). (get_or (code ∷ guarded ∷ more) k d).size - 4096) on

-- ---- the largest

-- the larger of two, as the code says it
pub larger : (a b : ℕ) → ord_max nat_cmp a b ≡ max a b
larger a b =
    elim (cases_lt b a) [
      | inl less ↦ ap (λ (o : Ordering). cond (is_lt o) a b) (sym (nat_cmp_is b a Less less)) ∙ sym (max-eq_left (omega arith))
      | inr from ↦ elim (cases_lt a b) [
        | inl more ↦ ap (λ (o : Ordering). cond (is_lt o) a b) (sym (nat_cmp_is b a Greater more)) ∙ sym (max-eq_right (omega arith))
        | inr to ↦ let same : b ≡ a = omega arith in ap (λ (o : Ordering). cond (is_lt o) a b) (sym (nat_cmp_is b a Equal same)) ∙ sym (max-eq_right (omega arith))
      ]
    ]

-- the number is at most as large as each that all of these are
abbrev pub IsLeast : ℕ → List ℕ → Type 0
IsLeast largest ends = (most : ℕ) → (largest ≤ most) ↔ All (λ end. end ≤ most) ends

pub no_end : IsLeast 0 []
no_end most = (λ le. All-nil _, λ all. omega arith)

-- with one more
pub one_end : (ends : List ℕ) (largest end : ℕ) → IsLeast largest ends → IsLeast (max largest end) (ends ++ end ∷ [])
one_end ends largest end is most = (
  λ le.
      let low : largest ≤ most = omega (arith, le, le-max_left largest end) in
      let high : end ≤ most = omega (arith, le, le-max_right largest end) in
      All-push (λ e. e ≤ most) ends end ((is most).0 low) high,
  λ all. max-le ((is most).1 (All-front (λ e. e ≤ most) ends (end ∷ []) all)) (last ends all),
)
  where
    last : (ends : List ℕ) → All (λ e. e ≤ most) (ends ++ end ∷ []) → end ≤ most
    last [] all = All-head (λ e. e ≤ most) end [] all
    last (x ∷ xs) all = last xs (All-tail (λ e. e ≤ most) x (xs ++ end ∷ []) all)

-- the span lies clear of the zones with these ends
abbrev Lies : List ℕ → Span → Type 0
Lies ends s = All (λ end. IsClear end s) ends

-- a span lies clear of zones where it does of the largest
of_largest : (ends : List ℕ) (end largest : ℕ) (s : Span) → IsLeast largest (ends ++ end ∷ []) → IsClear largest s ↔ Lies (ends ++ end ∷ []) s
of_largest ends end largest s is = (
  λ clear k d lt. record { above = (is s.base).0 clear.above k d lt; below = clear.below },
  λ all. record {
    above = (is s.base).1 (λ k d lt. (all k d lt).above);
    below = (all (length ends) 0 (omega (arith, length_push ends end))).below;
  },
)

-- so do spans
pub clear_of_largest : (ends : List ℕ) (end largest : ℕ) (before : List Span) (code guarded : Span) → IsLeast largest (ends ++ end ∷ [])
    → All (λ s. IsClear largest s) before → IsClear largest code → IsClear largest guarded → AreClear (ends ++ end ∷ []) (before ++ code ∷ guarded ∷ [])
clear_of_largest ends end largest before code guarded is all one other =
    let P = Lies (ends ++ end ∷ []) in
    All-append P before (code ∷ guarded ∷ []) (λ k d lt. (of_largest ends end largest (get_or before k d) is).0 (all k d lt))
    (All-cons P code (guarded ∷ []) ((of_largest ends end largest code is).0 one) (All-cons P guarded [] ((of_largest ends end largest guarded is).0 other) (All-nil P)))

-- and the other way round
pub largest_clear : (ends : List ℕ) (end largest : ℕ) (before : List Span) (code guarded : Span) → IsLeast largest (ends ++ end ∷ [])
    → AreClear (ends ++ end ∷ []) (before ++ code ∷ guarded ∷ []) → All (λ s. IsClear largest s) before × IsClear largest code × IsClear largest guarded
largest_clear ends end largest before code guarded is clear =
    let P = Lies (ends ++ end ∷ []) in
    let rest = All-rest P before (code ∷ guarded ∷ []) clear in (
      λ k d lt. (of_largest ends end largest (get_or before k d) is).1 (All-front P before (code ∷ guarded ∷ []) clear k d lt),
      (of_largest ends end largest code is).1 (All-head P code (guarded ∷ []) rest),
      (of_largest ends end largest guarded is).1 (All-head P guarded [] (All-tail P code (guarded ∷ []) rest)),
    )

-- ---- by formats

-- where the format has single masks, the zones end where the spans say
pub ends_are : (format : Format) (ps : List Part) → has_single_mask format ≡ true → AreOf format ps → zone_ends ps ≡ ends_below (spans ps)
ends_are format [] one_step of = refl
ends_are format (p ∷ ps) one_step of =
    let here : has_single_mask p.format ≡ true = ap has_single_mask (All-head (λ (q : Part). q.format ≡ format) p ps of) ∙ one_step in
    let size : zone_end p.data_size ≡ (guarded_span (fields_of p)).size - 4096 = omega arith in
    rw (here) (ap (λ (n : ℕ). n ∷ zone_ends ps) size ∙ ap (λ (t : List ℕ). ((guarded_span (fields_of p)).size - 4096) ∷ t) (ends_are format ps one_step (All-tail (λ (q : Part). q.format ≡ format) p ps of)))

-- and those of one with these fields
pub own_end_is : (f : Fields) → has_single_mask f.format ≡ true → zone_ends_of f ≡ ((guarded_span f).size - 4096) ∷ []
own_end_is f one_step =
    let size : zone_end f.data_size ≡ (guarded_span f).size - 4096 = omega arith in
    rw (one_step) (ap (λ (n : ℕ). n ∷ []) size)

-- and those of both
pub all_ends_are : (ps : List Part) (f : Fields) (before : List Span) (guarded : Span) → has_single_mask f.format ≡ true → AreOf f.format ps → before ≡ spans ps → guarded ≡ guarded_span f
    → (ends_below before ++ (guarded.size - 4096) ∷ []) ≡ zone_ends ps ++ zone_ends_of f
all_ends_are ps f before guarded one_step of is own =
    ap (λ (t : List Span). ends_below t ++ (guarded.size - 4096) ∷ []) is ∙ ap (λ (g : Span). ends_below (spans ps) ++ (g.size - 4096) ∷ []) own
    ∙ ap (λ (t : List ℕ). t ++ ((guarded_span f).size - 4096) ∷ []) (sym (ends_are f.format ps one_step of)) ∙ ap (λ (t : List ℕ). zone_ends ps ++ t) (sym (own_end_is f one_step))

-- the spans of both
pub all_spans_are : (ps : List Part) (f : Fields) (before : List Span) (code guarded : Span) → before ≡ spans ps → code ≡ code_span f → guarded ≡ guarded_span f
    → (before ++ code ∷ guarded ∷ []) ≡ spans ps ++ spans_of f
all_spans_are ps f before code guarded is one other =
    ap (λ (t : List Span). t ++ code ∷ guarded ∷ []) is ∙ ap (λ (c : Span). spans ps ++ c ∷ guarded ∷ []) one ∙ ap (λ (g : Span). spans ps ++ code_span f ∷ g ∷ []) other

-- where it has not, there are none
pub no_ends : (format : Format) (ps : List Part) → has_single_mask format ≡ false → AreOf format ps → zone_ends ps ≡ []
no_ends format [] two_steps of = refl
no_ends format (p ∷ ps) two_steps of =
    let here : has_single_mask p.format ≡ false = ap has_single_mask (All-head (λ (q : Part). q.format ≡ format) p ps of) ∙ two_steps in
    rw (here) (no_ends format ps two_steps (All-tail (λ (q : Part). q.format ≡ format) p ps of))

-- so all spans lie clear of them
pub clear_of_none : (ps : List Part) (f : Fields) (ss : List Span) → has_single_mask f.format ≡ false → AreOf f.format ps → AreClear (zone_ends ps ++ zone_ends_of f) ss
clear_of_none ps f ss two_steps of =
    let none : zone_ends ps ++ zone_ends_of f ≡ [] = rw (no_ends f.format ps two_steps of, two_steps) refl in
    subst (λ (ends : List ℕ). AreClear ends ss) (sym none) (λ k d lt. All-nil _)

-- ---- lists of both

-- spans clear of two lists of zones
pub clear_of_both : (es fs : List ℕ) (ss : List Span) → AreClear es ss → AreClear fs ss → AreClear (es ++ fs) ss
clear_of_both es fs ss one other k d lt = All-append (λ end. IsClear end (get_or ss k d)) es fs (one k d lt) (other k d lt)

-- of those at the front, and of those at the end
pub clear_of_front : (es fs : List ℕ) (ss : List Span) → AreClear (es ++ fs) ss → AreClear es ss
clear_of_front es fs ss clear k d lt = All-front (λ end. IsClear end (get_or ss k d)) es fs (clear k d lt)

pub clear_of_rest : (es fs : List ℕ) (ss : List Span) → AreClear (es ++ fs) ss → AreClear fs ss
clear_of_rest es fs ss clear k d lt = All-rest (λ end. IsClear end (get_or ss k d)) es fs (clear k d lt)

-- two lists of spans
pub both_clear : (es : List ℕ) (ss ts : List Span) → AreClear es ss → AreClear es ts → AreClear es (ss ++ ts)
both_clear es ss ts one other = All-append (Lies es) ss ts one other

-- the other sandboxes of right ones are right
pub others_right : (p : Part) (ps : List Part) → AreRight (p ∷ ps) → AreRight ps
others_right p ps right = record {
  each = λ k d lt. right.each (suc k) d (omega (arith, lt));
  apart = λ i j d less lt. right.apart (suc (suc i)) (suc (suc j)) d (omega (arith, less)) (omega (arith, lt));
  clear = clear_of_rest (zone_ends_of (fields_of p)) (zone_ends ps) (spans ps) (All-rest (Lies (zone_ends (p ∷ ps))) (spans_of (fields_of p)) (spans ps) right.clear);
}
