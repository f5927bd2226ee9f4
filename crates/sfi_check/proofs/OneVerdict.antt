-- Bytes have one verdict.
use Rattle.sfi_check.proofs.Prelude.{◌≡◌, ◌≢◌, ℕ, List, [], ◌∷◌, ◌++◌, Bool, true, length, Some, Result, Ok, Err, refl, sym, ap, ◌∙◌, subst, inl, inr, ◌⊎◌, slice_get, append-nil, Part, IsFault, HasFaultWhateverFollows, Finding, AreImageFindings, StreamAnswer, AllRunSafely, IsAccepted, HasFindings, bundle_count, IsVerdictOn, AreCounted, Refusal, IsImage, LayoutFault}
use Rattle.sfi_check.specs.OneVerdict.{Answers, IsReadOf, SaysSame, OneListOfFindings, NeverAcceptedWithFindings, VerdictIsOnAll, OneVerdict, StreamSaysSame}
use Rattle.sfi_check.specs.declared.refusal.Refusal.TheVariants.{Layout, Findings, Memory}
use Rattle.sfi_check.specs.declared.stream_answer.StreamAnswer.TheVariants as answers
use Rattle.sfi_image.proofs.Facts.{one_image, one_fault}
use Rattle.sfi_image.proofs.Facts as image_facts
use Rattle.sfi_rules.proofs.Facts.{one_image_list}

-- ---- findings

-- the findings are those of the one list of parts that the bytes have
on_one_image : (bytes : List ℕ) (ps : List Part) (found : List Finding) → IsImage bytes ps → HasFindings bytes found → AreImageFindings ps found
on_one_image bytes ps found image h =
    subst (λ (qs : List Part). AreImageFindings qs found) (one_image bytes h.parts ps h.image image) h.found_are

pub one_list : OneListOfFindings
one_list bytes found others h g = one_image_list h.parts found others h.found_are (on_one_image bytes h.parts others h.image g)

pub never_both : NeverAcceptedWithFindings
never_both bytes ps found ok h = h.some (one_image_list ps found [] (on_one_image bytes ps found ok.image h) ok.none_found)

-- ---- the verdict, by what the bytes are

module _ (bytes : List ℕ) where
  pub on_fault : (k : LayoutFault) → IsFault bytes k → IsVerdictOn bytes true (answers.Layout k)
  on_fault k wrong = record {
    layout = inl (refl, wrong);
    findings = tt;
    accepted = tt;
    only_layout = λ _ j bad. ap (λ (i : LayoutFault). answers.Layout i) (one_fault bytes k j wrong bad);
    only_findings = λ _ found has first is. absurd (image_facts.never_both bytes has.parts k has.image wrong);
    only_accepted = λ _ ps ok. absurd (image_facts.never_both bytes ps k ok.image wrong);
  }

  pub on_accepted : (ps : List Part) (sandboxes bundles : ℕ) → IsAccepted bytes ps → sandboxes ≡ length ps → bundles ≡ bundle_count ps → AllRunSafely ps
      → IsVerdictOn bytes true (answers.Accepted sandboxes bundles)
  on_accepted ps sandboxes bundles ok s b safe = record {
    layout = tt;
    findings = tt;
    accepted = (refl, ps, ok, s, b, safe);
    only_layout = λ _ k wrong. absurd (image_facts.never_both bytes ps k ok.image wrong);
    only_findings = λ _ found has first is. absurd (never_both bytes ps found ok has);
    only_accepted = λ _ qs fine.
        let same = one_image bytes ps qs ok.image fine.image in
        rw (s, b, same) refl;
  }

  pub on_findings : (found : List Finding) (count : ℕ) (first : Finding) → HasFindings bytes found → AreCounted count first found → IsVerdictOn bytes true (answers.Findings count first)
  on_findings found count first has counted = record {
    layout = tt;
    findings = (refl, found, has, counted);
    accepted = tt;
    only_layout = λ _ k wrong. absurd (image_facts.never_both bytes has.parts k has.image wrong);
    only_findings = λ _ others have other is.
        let same = one_list bytes found others has have in
        let here : Some first ≡ Some other = sym counted.first_is ∙ ap (λ (l : List Finding). slice_get l 0) same ∙ is in
        let head : first ≡ other = cc in
        let n : count ≡ length others = counted.count_is ∙ ap length same in
        rw (n, head) refl;
    only_accepted = λ _ ps ok. absurd (never_both bytes ps found ok has);
  }

-- ---- after a beginning of the bytes

module _ (bytes read : List ℕ) (ends : Bool) (of : IsReadOf bytes read ends) where
  whole : ends ≡ true → read ≡ bytes
  whole e = sym (of.bytes_are ∙ ap (λ (more : List ℕ). read ++ more) (of.all_read e) ∙ append-nil read)

  fault : (k : LayoutFault) → ((ends ≡ true) × IsFault read k) ⊎ HasFaultWhateverFollows read k → IsFault bytes k
  fault k (inl (e, h)) = subst (λ (l : List ℕ). IsFault l k) (whole e) h
  fault k (inr h) = subst (λ (l : List ℕ). IsFault l k) (sym of.bytes_are) (h of.unread)

  on_all : (said : StreamAnswer) → IsVerdictOn read ends said → said ≢ answers.ReadFault → IsVerdictOn bytes true said
  on_all (answers.Accepted sandboxes bundles) h came =
      let a = h.accepted in on_accepted bytes a.1 sandboxes bundles (subst (λ (l : List ℕ). IsAccepted l a.1) (whole a.0) a.2) a.3 a.4 a.5
  on_all (answers.Layout k) h came = on_fault bytes k (fault k h.layout)
  on_all (answers.Findings count first) h came =
      let f = h.findings in on_findings bytes f.1 count first (subst (λ (l : List ℕ). HasFindings l f.1) (whole f.0) f.2) f.3
  on_all answers.ReadFault h came = absurd (came refl)

pub verdict_is_on_all : VerdictIsOnAll
verdict_is_on_all bytes read ends said of h came = on_all bytes read ends of said h came

-- ---- so there is one

module _ (bytes : List ℕ) where
  one : (said again : StreamAnswer) → IsVerdictOn bytes true said → IsVerdictOn bytes true again → said ≢ answers.ReadFault → said ≡ again
  one (answers.Accepted sandboxes bundles) again h g came = let a = h.accepted in rw (a.3, a.4) (sym (g.only_accepted refl a.1 a.2))
  one (answers.Layout k) again h g came =
      let all : IsReadOf bytes bytes true = record { unread = []; bytes_are = sym (append-nil bytes); all_read = λ e. refl } in
      sym (g.only_layout refl k (fault bytes bytes true all k h.layout))
  one (answers.Findings count first) again h g came =
      let f = h.findings in
      ap (λ (n : ℕ). answers.Findings n first) f.3.count_is ∙ sym (g.only_findings refl f.1 f.2 first f.3.first_is)
  one answers.ReadFault again h g came = absurd (came refl)

  same : (answer : Result (List Part) Refusal) (said : StreamAnswer) → Answers bytes answer → IsVerdictOn bytes true said → SaysSame answer said
  same (Ok ps) said h g = g.only_accepted refl ps h.accepted
  same (Err (Layout k)) said h g = g.only_layout refl k h.layout
  same (Err (Findings found)) said h g = by found.items refl h.findings
    where
      by : (items : List Finding) → found.items ≡ items → HasFindings bytes found.items → SaysSame (Err (Findings found)) said
      by [] e has = absurd (has.some e)
      by (x ∷ xs) e has =
          let head : slice_get found.items 0 ≡ Some x = ap (λ (l : List Finding). slice_get l 0) e in
          (x, head, g.only_findings refl found.items has x head)
  same (Err Memory) said h g = tt

pub one_verdict : OneVerdict
one_verdict bytes read others ends stops said again of other h g came arrived =
    one bytes said again (verdict_is_on_all bytes read ends said of h came) (verdict_is_on_all bytes others stops again other g arrived) came

pub stream_says_same : StreamSaysSame
stream_says_same bytes read ends answer said h of g came = same bytes answer said h (verdict_is_on_all bytes read ends said of g came)
