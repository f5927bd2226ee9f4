use Rattle.sfi_run.proofs.Prelude.{◌≡◌, ◌↔◌, List, Some, ap, ◌∙◌, same_Some, subst, Sandboxes}
use Rattle.sfi_image.specs.Spelling.{Part}
use Rattle.sfi_host.specs.Adding.{MeetsSome, AreTooMany}
use Rattle.sfi_run.proofs.changes.sfi_run_add.Goals as goal

pub returns-clause-meets : goal.returns-clause-meets
returns-clause-meets c w ps e f =
    let world : c.deref_mut.result.now ≡ w = same_Some c.deref_mut.result.now w (ap Some c.deref_mut.ensures.value ∙ c.in-Some.ensures.taken ∙ e) in
    let parts : c.deref-2.result.now ≡ ps = same_Some c.deref-2.result.now ps (ap Some c.deref-2.ensures ∙ c.in-Some-take.ensures.taken ∙ f) in
    let both = c.add_module-added.ensures.meets in
    subst (λ (x : Sandboxes × List Part). (c.status_of_add.result ≡ 4) ↔ MeetsSome x.0 x.1) (λ k. (world k, parts k)) (
      λ h. both.0 (c.status_of_add.ensures.meets.0 h),
      λ m. c.status_of_add.ensures.meets.1 (both.1 m),
    )

pub returns-clause-full : goal.returns-clause-full
returns-clause-full c w ps e f =
    let world : c.deref_mut.result.now ≡ w = same_Some c.deref_mut.result.now w (ap Some c.deref_mut.ensures.value ∙ c.in-Some.ensures.taken ∙ e) in
    let parts : c.deref-2.result.now ≡ ps = same_Some c.deref-2.result.now ps (ap Some c.deref-2.ensures ∙ c.in-Some-take.ensures.taken ∙ f) in
    let both = c.add_module-added.ensures.full in
    subst (λ (x : Sandboxes × List Part). (c.status_of_add.result ≡ 5) ↔ ((MeetsSome x.0 x.1 → ⊥) × AreTooMany x.0 x.1)) (λ k. (world k, parts k)) (
      λ h. both.0 (c.status_of_add.ensures.full.0 h),
      λ m. c.status_of_add.ensures.full.1 (both.1 m),
    )
