-- The findings of a part, the lowest rule broken at a place, and what is owed there.
use Rattle.sfi_rules.proofs.Prelude.{◌≡◌, ℕ, Bool, true, false, not, ◌&&◌, ◌==◌, cond, refl, sym, ap, ◌∙◌, and_parts, eqb-true, Instr, Option, Some, None, Owed, ◌*◌, List, [], length, subst, Part, Finding, has_words, AreFindingsInBundles, AreFindingsOfFirst, AreFindings, MatchBool, Nothing, AreFoundOfFirst, AreFindingsInWords, ◌-◌, ◌<◌, ◌∷◌, arith, get_or, All, Rule, InstrInBundle, breaks, broken, lowest, all_rules, V1}
use Rattle.std.proofs.lemmas.Bool.{false≢true}
use Rattle.rv_word.specs.declared.instr.Instr.TheVariants.{Op}
use Rattle.rv_word.specs.declared.instr.RegOp.TheVariants.{And}
use Rattle.sfi_formats.specs.declared.format.Format.{Format}
use Rattle.sfi_formats.specs.Formats.{code_base_register, code_register, data_mask_register, offset_register, has_single_mask}
use Rattle.sfi_pairs.specs.Pairs.{is_masking, is_placing, uses}
use Rattle.sfi_rules.specs.declared.owed.Owed.TheVariants.{Mask, PlaceOnly, MaskOrUse, Code}
use Rattle.sfi_rules.specs.words.Rules.{is_and, masks, places, owed_by, or_nothing, joined, owed_next}
use Rattle.sfi_rules.specs.Laws.{OwedIsOfTwo, owed_after_two}
use Rattle.sfi_rules.specs.Findings.{AreFoundUpTo}
use Rattle.sfi_rules.specs.Rules.{number_of}
use Rattle.std.proofs.lemmas.List.Elements.{All-cons, All-get_or, All-nil}

-- ==== What is owed after two instructions depends on these alone.

pub and_is : (rd a b : ℕ) (i : Instr) → is_and rd a b i ≡ true → i ≡ Op And rd a b
and_is rd a b (Op And x y z) h =
    let outer = and_parts ((x == rd) && (y == a)) (z == b) h in
    let inner = and_parts (x == rd) (y == a) outer.0 in
    let e1 = eqb-true x rd inner.0 in
    let e2 = eqb-true y a inner.1 in
    let e3 = eqb-true z b outer.1 in
    cc
and_is rd a b _ h = absurd (false≢true h)

-- what is the last of a debt leaves only what the instruction asks itself, whether it comes or not
last : (t : Bool) (own : Option Owed) → joined (cond t (Some Nothing) None) own ≡ or_nothing own
last true own = refl
last false own = refl

-- the first step of a mask that was owed leaves its last, where it has two
masked : (t one : Bool) (d : ℕ) (own : Option Owed) → joined (cond t (Some (cond one Nothing (PlaceOnly d))) None) own ≡ cond (t && not one) (PlaceOnly d) (or_nothing own)
masked true true d own = refl
masked true false d own = refl
masked false one d own = refl

masked_or_used : (t u one : Bool) (d : ℕ) (own : Option Owed) → joined (cond t (Some (cond one Nothing (PlaceOnly d))) (cond u (Some Nothing) None)) own ≡ cond (t && not one) (PlaceOnly d) (or_nothing own)
masked_or_used true u true d own = refl
masked_or_used true u false d own = refl
masked_or_used false true one d own = refl
masked_or_used false false one d own = refl

module _ (f : Format) where
  -- after an instruction that asked this, before which nothing was owed
  settled : (asked : Option Owed) (m : Instr) → owed_next f (or_nothing asked) m ≡ owed_after_two f asked m
  settled None m = refl
  settled (Some Nothing) m = refl
  settled (Some (Mask d)) m = masked (masks f d m) (has_single_mask f) d (owed_by f m)
  settled (Some (PlaceOnly d)) m = last (places f d m) (owed_by f m)
  settled (Some (MaskOrUse d)) m = masked_or_used (masks f d m) (uses d m) (has_single_mask f) d (owed_by f m)
  settled (Some Code) m = last (is_placing code_base_register code_register m) (owed_by f m)

  -- the first of two steps is the masking
  masking_is : (one : Bool) (d : ℕ) (w : Instr) → (cond one (is_masking data_mask_register d w) (is_and offset_register d data_mask_register w) && not one) ≡ true → w ≡ Op And 31 d 27
  masking_is true d w e = absurd (false≢true (sym (and_false (is_masking data_mask_register d w)) ∙ e))
    where
      and_false : (b : Bool) → (b && false) ≡ false
      and_false true = refl
      and_false false = refl
  masking_is false d w e = and_is 31 d 27 w (and_parts (is_and offset_register d data_mask_register w) true e).0

  owes_none : (one : Bool) → has_single_mask f ≡ one → (d : ℕ) → owed_by f (Op And 31 d 27) ≡ Some Nothing
  owes_none true e d = rw e refl
  owes_none false e d = rw e refl

  -- a masking asks nothing itself, and what it leaves doesn't outlast the next instruction
  after_masking : (t : Bool) (d : ℕ) (w m : Instr) → (masks f d w && not (has_single_mask f)) ≡ t → owed_next f (cond t (PlaceOnly d) (or_nothing (owed_by f w))) m ≡ owed_after_two f (owed_by f w) m
  after_masking true d w m e =
      last (places f d m) (owed_by f m)
      ∙ ap (λ (o : Option Owed). owed_after_two f o m) (sym (owes_none (has_single_mask f) refl d))
      ∙ ap (λ (i : Instr). owed_after_two f (owed_by f i) m) (sym (masking_is (has_single_mask f) d w e))
  after_masking false d w m e = settled (owed_by f w) m

pub of_two : OwedIsOfTwo
of_two f Nothing w m = settled f (owed_by f w) m
of_two f (Mask d) w m = ap (λ (o : Owed). owed_next f o m) (masked (masks f d w) (has_single_mask f) d (owed_by f w)) ∙ after_masking f (masks f d w && not (has_single_mask f)) d w m refl
of_two f (PlaceOnly d) w m = ap (λ (o : Owed). owed_next f o m) (last (places f d w) (owed_by f w)) ∙ settled f (owed_by f w) m
of_two f (MaskOrUse d) w m = ap (λ (o : Owed). owed_next f o m) (masked_or_used (masks f d w) (uses d w) (has_single_mask f) d (owed_by f w)) ∙ after_masking f (masks f d w && not (has_single_mask f)) d w m refl
of_two f Code w m = ap (λ (o : Owed). owed_next f o m) (last (is_placing code_base_register code_register w) (owed_by f w)) ∙ settled f (owed_by f w) m

-- ==== The findings of a part whose code is in bundles, or in words. Crates above cite this, too.

pub in_bundles : (sandbox : ℕ) (p : Part) (found : List Finding) → has_words p.format ≡ false → AreFindings sandbox p found → AreFindingsInBundles sandbox p found
in_bundles sandbox p found none h = subst (λ (b : Bool). MatchBool b (AreFindingsInWords sandbox p found) (AreFindingsInBundles sandbox p found)) none h

pub of_bundles : (sandbox : ℕ) (p : Part) (found : List Finding) → has_words p.format ≡ false → AreFindingsInBundles sandbox p found → AreFindings sandbox p found
of_bundles sandbox p found none h = subst (λ (b : Bool). MatchBool b (AreFindingsInWords sandbox p found) (AreFindingsInBundles sandbox p found)) (sym none) h

pub in_words : (sandbox : ℕ) (p : Part) (found : List Finding) → has_words p.format ≡ true → AreFindings sandbox p found → AreFindingsInWords sandbox p found
in_words sandbox p found has h = subst (λ (b : Bool). MatchBool b (AreFindingsInWords sandbox p found) (AreFindingsInBundles sandbox p found)) has h

pub of_words : (sandbox : ℕ) (p : Part) (found : List Finding) → has_words p.format ≡ true → AreFindingsInWords sandbox p found → AreFindings sandbox p found
of_words sandbox p found has h = subst (λ (b : Bool). MatchBool b (AreFindingsInWords sandbox p found) (AreFindingsInBundles sandbox p found)) (sym has) h

-- the findings of all bundles are those of the part
pub all_found : (sandbox : ℕ) (p : Part) (n : ℕ) (found : List Finding) (owed : Owed) → length p.code ≡ 16 * n → AreFoundUpTo sandbox p n found owed → AreFindings sandbox p found
all_found sandbox p n found owed whole = by (has_words p.format)
  where
    by : (w : Bool) → MatchBool w (AreFoundOfFirst sandbox p n found owed) (AreFindingsOfFirst sandbox p n found × (owed ≡ Nothing)) → MatchBool w (AreFindingsInWords sandbox p found) (AreFindingsInBundles sandbox p found)
    by true h = (n, owed, whole, h)
    by false h = (n, whole, h.0)

-- in no code nothing is found, and nothing is owed after it
pub none_found : (sandbox : ℕ) (p : Part) → AreFoundUpTo sandbox p 0 [] Nothing
none_found sandbox p = by (has_words p.format)
  where
    by : (w : Bool) → MatchBool w (AreFoundOfFirst sandbox p 0 [] Nothing) (AreFindingsOfFirst sandbox p 0 [] × (Nothing ≡ Nothing))
    by true = (refl, refl)
    by false = (refl, refl)

-- ==== The lowest rule that is broken at a place. Crates above cite this, too.

-- what holds of the finding of each rule that is broken holds of the lowest one's
pub lowest_is : (P : Finding → Type 0) (x : InstrInBundle) (rules : List Rule) → ((rule : Rule) → breaks x rule ≡ true → P (broken x.bundle x.address rule)) → All P (lowest x rules)
lowest_is P x [] each = All-nil P
lowest_is P x (rule ∷ rules) each = pick (breaks x rule) (each rule) (lowest_is P x rules each)
  where
    pick : (b : Bool) → (b ≡ true → P (broken x.bundle x.address rule)) → All P (lowest x rules) → All P (cond b (broken x.bundle x.address rule ∷ []) (lowest x rules))
    pick true one more = All-cons P (broken x.bundle x.address rule) [] (one refl) (All-nil P)
    pick false one more = more

-- where there is none, each of the rules is kept
all_kept : (x : InstrInBundle) (rules : List Rule) → lowest x rules ≡ [] → All (λ rule. breaks x rule ≡ false) rules
all_kept x [] none = All-nil (λ rule. breaks x rule ≡ false)
all_kept x (rule ∷ rules) none = split (breaks x rule) refl (all_kept x rules) none
  where
    split : (b : Bool) → breaks x rule ≡ b → (lowest x rules ≡ [] → All (λ r. breaks x r ≡ false) rules)
        → cond b (broken x.bundle x.address rule ∷ []) (lowest x rules) ≡ [] → All (λ r. breaks x r ≡ false) (rule ∷ rules)
    split true e rest some = absurd cc
    split false e rest more = All-cons (λ r. breaks x r ≡ false) rule rules e (rest more)

listed : (rule : Rule) → get_or all_rules (number_of rule - 1) rule ≡ rule
listed V1 = refl
listed _ = refl

counted : (rule : Rule) → number_of rule - 1 < length all_rules
counted V1 = omega arith
counted _ = omega arith

pub kept : (x : InstrInBundle) → lowest x all_rules ≡ [] → (rule : Rule) → breaks x rule ≡ false
kept x none rule =
    subst (λ r. breaks x r ≡ false) (listed rule)
    (All-get_or (λ r. breaks x r ≡ false) all_rules (number_of rule - 1) rule (counted rule) (all_kept x all_rules none))
