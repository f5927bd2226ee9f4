-- Each status of loading is that of the bytes, and of no others.
use Rattle.std.proofs.Common.{◌≡◌, ◌⊎◌, ◌↔◌, ℕ, List, [], inl, inr, true, refl, subst}
use Rattle.std.proofs.lemmas.List.{append-nil}
use Rattle.sfi_image.specs.declared.fault.LayoutFault.{LayoutFault}
use Rattle.sfi_image.specs.Spelling.{Part}
use Rattle.sfi_image.specs.Faults.{IsFault}
use Rattle.sfi_image.specs.Prefixes.{HasFaultWhateverFollows}
use Rattle.sfi_image.proofs.Facts as image
use Rattle.sfi_rules.specs.declared.finding.Finding.{Finding}
use Rattle.sfi_safety.specs.Clean.{IsAccepted}
use Rattle.sfi_check.specs.declared.stream_answer.StreamAnswer.{StreamAnswer}
use Rattle.sfi_check.specs.declared.stream_answer.StreamAnswer.TheVariants as answers
use Rattle.sfi_check.specs.Verdict.{HasFindings, IsVerdictOn}
use Rattle.sfi_check.proofs.Facts.{never_both}
use Rattle.sfi_run.specs.Held.{Means, fault_number}
use Rattle.sfi_run.specs.declared.worlds.LoadFault.{LoadFault}
use Rattle.sfi_run.specs.declared.worlds.LoadFault.TheVariants.{Refused, NoImage, Memory}

-- ---- by the verdict

pub accepted_by : (bytes : List ℕ) (a : StreamAnswer) (sandboxes bundles : ℕ) → IsVerdictOn bytes true a → a ≡ answers.Accepted sandboxes bundles → (ps : List Part) × IsAccepted bytes ps
accepted_by bytes a sandboxes bundles v is = let h = subst (λ x. IsVerdictOn bytes true x) is v in (h.accepted.1, h.accepted.2)

pub refused_by : (bytes : List ℕ) (a : StreamAnswer) (count : ℕ) (first : Finding) → IsVerdictOn bytes true a → a ≡ answers.Findings count first → Means bytes Refused
refused_by bytes a count first v is = let h = subst (λ x. IsVerdictOn bytes true x) is v in (h.findings.1, h.findings.2)

fault_of : (bytes : List ℕ) (k : LayoutFault) → ((true ≡ true) × IsFault bytes k) ⊎ HasFaultWhateverFollows bytes k → Means bytes NoImage
fault_of bytes k (inl (all, h)) = (k, h)
fault_of bytes k (inr h) = (k, subst (λ (l : List ℕ). IsFault l k) (append-nil bytes) (h []))

pub no_image_by : (bytes : List ℕ) (a : StreamAnswer) (k : LayoutFault) → IsVerdictOn bytes true a → a ≡ answers.Layout k → Means bytes NoImage
no_image_by bytes a k v is = let h = subst (λ x. IsVerdictOn bytes true x) is v in fault_of bytes k h.layout

-- ---- of a world that is there

module _ (bytes : List ℕ) (ps : List Part) (ok : IsAccepted bytes ps) where
  pub not_refused : (0 ≡ fault_number Refused) ↔ ((found : List Finding) × HasFindings bytes found)
  not_refused = (λ e. absurd cc, λ h. absurd (never_both bytes ps h.0 ok h.1))

  pub not_no_image : (0 ≡ fault_number NoImage) ↔ ((k : LayoutFault) × IsFault bytes k)
  not_no_image = (λ e. absurd cc, λ h. absurd (image.never_both bytes ps h.0 ok.image h.1))

-- ---- where there is none

module _ (bytes : List ℕ) where
  pub refused : (f : LoadFault) → Means bytes f → (fault_number f ≡ fault_number Refused) ↔ ((found : List Finding) × HasFindings bytes found)
  refused Refused m = (λ e. m, λ h. refl)
  refused NoImage m = (λ e. absurd cc, λ h. absurd (image.never_both bytes h.1.parts m.0 h.1.image m.1))
  refused Memory m = (λ e. absurd cc, λ h. absurd (never_both bytes m.0 h.0 m.1 h.1))

  pub no_image : (f : LoadFault) → Means bytes f → (fault_number f ≡ fault_number NoImage) ↔ ((k : LayoutFault) × IsFault bytes k)
  no_image Refused m = (λ e. absurd cc, λ h. absurd (image.never_both bytes m.1.parts h.0 m.1.image h.1))
  no_image NoImage m = (λ e. m, λ h. refl)
  no_image Memory m = (λ e. absurd cc, λ h. absurd (image.never_both bytes m.0 h.0 m.1.image h.1))

  pub memory : (f : LoadFault) → Means bytes f → fault_number f ≡ fault_number Memory → (ps : List Part) × IsAccepted bytes ps
  memory Refused m e = absurd cc
  memory NoImage m e = absurd cc
  memory Memory m e = m

  pub only_memory : (f : LoadFault) → Means bytes f → (ps : List Part) → IsAccepted bytes ps → (fault_number f ≡ 0) ⊎ (fault_number f ≡ fault_number Memory)
  only_memory Refused m ps ok = absurd (never_both bytes ps m.0 ok m.1)
  only_memory NoImage m ps ok = absurd (image.never_both bytes ps m.0 ok.image m.1)
  only_memory Memory m ps ok = inr refl
