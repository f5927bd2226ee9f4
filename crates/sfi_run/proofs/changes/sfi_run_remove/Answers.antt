use Rattle.sfi_run.proofs.Prelude.{◌≡◌, ◌↔◌, Some, ap, ◌∙◌, same_Some, subst, Sandboxes, slots_of}
use Rattle.std.proofs.Common.{None, slice_get}
use Rattle.sfi_run.proofs.changes.sfi_run_remove.Goals as goal

pub returns-clause-missing : goal.returns-clause-missing
returns-clause-missing c w e =
    let same : c.deref_mut.result.now ≡ w = same_Some c.deref_mut.result.now w (ap Some c.deref_mut.ensures.value ∙ c.in-Some.ensures.taken ∙ e) in
    let both = c.remove_sandbox-removed.ensures.missing in
    subst (λ (x : Sandboxes). (c.status_of_remove.result ≡ 3) ↔ (slice_get (slots_of x) c.args.sandbox ≡ None)) same (
      λ h. both.0 (c.status_of_remove.ensures.missing.0 h),
      λ m. c.status_of_remove.ensures.missing.1 (both.1 m),
    )
