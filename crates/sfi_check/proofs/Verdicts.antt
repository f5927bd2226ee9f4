-- What verdicts and refusals say of bytes, for C too.
use Rattle.sfi_check.proofs.Prelude.{◌≡◌, ◌≢◌, ◌⊎◌, ◌≤◌, ℕ, List, [], ◌∷◌, Some, true, refl, ap, subst, inl, inr, arith, append-nil, Finding, IsFault, LayoutFault, HasFaultWhateverFollows, StreamAnswer, HasFindings, IsVerdictOn, AreCounted, Err, Part}
use Rattle.sfi_check.specs.declared.stream_answer.StreamAnswer.TheVariants.{Accepted, Layout, Findings, ReadFault}
use Rattle.sfi_check.specs.ForC.{refusal, IsAcceptance, IsRefusal, IsLayoutFault, IsVerdictForC}
use Rattle.sfi_check.specs.private.{verdict_for_c}
use Rattle.sfi_check.specs.OneVerdict.{refusal_of}
use Rattle.sfi_image.specs.Faults.{IfLayout}
use Rattle.sfi_image.specs.declared.fault.ImageFault.{ImageFault}
use Rattle.sfi_check.specs.Verdict.{AnswersLayout}
use Rattle.sfi_image.specs.declared.fault.ImageFault.TheVariants as image

-- ==== What a verdict for C means, where the answer is right of the bytes.

accepted : (bytes : List ℕ) (a : StreamAnswer) → IsVerdictOn bytes true a → (verdict_for_c a).status ≡ 0 → IsAcceptance bytes (verdict_for_c a)
accepted bytes (Accepted sandboxes bundles) v e =
    let h = v.accepted in record { parts = h.1; accepted = h.2; safe = h.5; verdict_is = rw (h.3, h.4) refl }
accepted bytes _ v e = absurd cc

counted : (bytes : List ℕ) (count : ℕ) (first : Finding) (found : List Finding) → HasFindings bytes found → AreCounted count first found
    → (head : Finding) × (rest : List Finding) × IsRefusal bytes head rest (refusal count first)
counted bytes count first [] h c = absurd (h.some refl)
counted bytes count first (x ∷ xs) h c =
    let is : Some x ≡ Some first = c.first_is in
    let head : first ≡ x = cc in
    (x, xs, record { found = h; verdict_is = rw (c.count_is, head) refl })

refused : (bytes : List ℕ) (a : StreamAnswer) → IsVerdictOn bytes true a → (verdict_for_c a).status ≡ 1
    → (first : Finding) × (rest : List Finding) × IsRefusal bytes first rest (verdict_for_c a)
refused bytes (Findings count first) v e = let f = v.findings in counted bytes count first f.1 f.2 f.3
refused bytes _ v e = absurd cc

-- a fault whatever follows is one of the bytes
fault : (bytes : List ℕ) (k : LayoutFault) → ((true ≡ true) × IsFault bytes k) ⊎ HasFaultWhateverFollows bytes k → IsFault bytes k
fault bytes k (inl (all, h)) = h
fault bytes k (inr h) = subst (λ (l : List ℕ). IsFault l k) (append-nil bytes) (h [])

layout : (bytes : List ℕ) (a : StreamAnswer) → IsVerdictOn bytes true a → (verdict_for_c a).status ≡ 2 → IsLayoutFault bytes (verdict_for_c a)
layout bytes (Layout k) v e = record { fault = k; is = fault bytes k v.layout; verdict_is = refl }
layout bytes _ v e = absurd cc

known : (a : StreamAnswer) → a ≢ ReadFault → (verdict_for_c a).status ≤ 2
known (Accepted sandboxes bundles) came = omega arith
known (Layout k) came = omega arith
known (Findings count first) came = omega arith
known ReadFault came = absurd (came refl)

pub means : (bytes : List ℕ) (a : StreamAnswer) → a ≢ ReadFault → IsVerdictOn bytes true a → IsVerdictForC bytes (verdict_for_c a)
means bytes a came v = record {
  known = known a came;
  accepted = accepted bytes a v;
  refused = refused bytes a v;
  layout = layout bytes a v;
  only_accepted = λ ps ok. ap verdict_for_c (v.only_accepted refl ps ok);
  only_refused = λ first rest h. ap verdict_for_c (v.only_findings refl (first ∷ rest) h first refl);
  only_layout = λ k wrong. ap verdict_for_c (v.only_layout refl k wrong);
}

-- ==== What the refusal of bytes with a fault says, and what no refusal says of an image.

pub fault_layout : (bytes : List ℕ) (f : ImageFault) → ((j k : LayoutFault) → IsFault bytes j → IsFault bytes k → j ≡ k) → IfLayout f (λ k. IsFault bytes k)
    → (k : LayoutFault) → IsFault bytes k → AnswersLayout {A = List Part} k (Err (refusal_of f))
fault_layout bytes (image.Layout j) one h k is = one j k h is
fault_layout bytes image.Memory one h k is = tt
