-- What is told of a sandbox, and of one sandbox more.
use Rattle.sfi_tool.proofs.Prelude.{◌≡◌, ℕ, List, refl, sym, ap, ◌∙◌, subst, arith, inl, slice_get, Result, Part, view, views, AreStates, Adds}
use Rattle.std.proofs.Common.{◌⊎◌, suc, ◌+◌, [], ◌++◌, Option, Some, None, append_assoc, inr}
use Rattle.std.specs.Prelude.{Ok, Err, OnOk, if◌then◌else◌}
use Rattle.std.specs.Result.{is_ok}
use Rattle.std.specs.Option.{option_map}
use Rattle.std.proofs.lemmas.Option.{slice_get-map}
use Rattle.rv_step.specs.declared.outcome.Cause.{Cause}
use Rattle.rv_step.specs.State.{Hart}
use Rattle.sfi_formats.specs.declared.format.Format.{Format}
use Rattle.sfi_image.specs.declared.part.SandboxPart.{SandboxPart}
use Rattle.sfi_report.specs.State.{IsStateText}
use Rattle.sfi_host.specs.Slots.{Slot}
use Rattle.sfi_host.specs.declared.status.Status.{Status}
use Rattle.sfi_host.specs.declared.status.Status.TheVariants.{Ready, Exited, Trapped, Stopped}
use Rattle.sfi_tool.specs.Running.{IsStateUnlessExited, IsStateOfSandbox}

-- it has exited
pub exited : (sandbox : ℕ) (p : Part) (o : Option Slot) (n : ℕ) → Some (Exited n) ≡ option_map (λ (s : Slot). s.status) o → IsStateOfSandbox sandbox (Some p) o []
exited sandbox p None n e = absurd (cc)
exited sandbox p (Some s) n e =
    let status : Exited n ≡ s.status = cc in
    subst (λ (x : Status). IsStateUnlessExited sandbox p s.hart x []) status refl

-- what is told of its status and its hart is told of it
pub told : (sandbox : ℕ) (p : Part) (o : Option Slot) (status : Status) (hart : Hart) (text : List ℕ)
    → Some status ≡ option_map (λ (s : Slot). s.status) o → Some hart ≡ option_map (λ (s : Slot). s.hart) o
    → IsStateUnlessExited sandbox p hart status text → IsStateOfSandbox sandbox (Some p) o text
told sandbox p None status hart text e f h = absurd (cc)
told sandbox p (Some s) status hart text e f h =
    let same : status ≡ s.status = cc in
    let there : hart ≡ s.hart = cc in
    subst (λ (x : Status). IsStateUnlessExited sandbox p s.hart x text) same (subst (λ (x : Hart). IsStateUnlessExited sandbox p x status text) there h)

pub adds_state : (sandbox : ℕ) (p : Part) (o : Option Slot) (status : Status) (hart : Hart) (old new : List ℕ)
    → Some status ≡ option_map (λ (s : Slot). s.status) o → Some hart ≡ option_map (λ (s : Slot). s.hart) o
    → Adds old new (IsStateUnlessExited sandbox p hart status) → Adds old new (IsStateOfSandbox sandbox (Some p) o)
adds_state sandbox p o status hart old new e f h = record { text = h.text; text_is = told sandbox p o status hart h.text e f h.text_is; new_is = h.new_is }

-- of one that has not exited, its state is told
pub not_exited : (sandbox : ℕ) (p : Part) (status : Status) (hart : Hart) (old new : List ℕ)
    → (status ≡ Ready) ⊎ (((cause : Cause) × (at : ℕ) × (status ≡ Trapped cause at)) ⊎ (status ≡ Stopped)) → Adds old new (IsStateText sandbox p hart)
    → Adds old new (IsStateUnlessExited sandbox p hart status)
not_exited sandbox p status hart old new (inl e) h = subst (λ (x : Status). Adds old new (IsStateUnlessExited sandbox p hart x)) (sym e) h
not_exited sandbox p status hart old new (inr (inl e)) h = subst (λ (x : Status). Adds old new (IsStateUnlessExited sandbox p hart x)) (sym e.2) h
not_exited sandbox p status hart old new (inr (inr e)) h = subst (λ (x : Status). Adds old new (IsStateUnlessExited sandbox p hart x)) (sym e) h

-- a text was appended, if that succeeded
pub adds_text : {A E : Type 0} (r : Result A E) (old new text seen : List ℕ) (is : List ℕ → Type 0) → is text → seen ≡ text
    → new ≡ (if is_ok r then old ++ seen else old) → OnOk r (Adds old new is)
adds_text (Ok a) old new text seen is h same e = record { text = text; text_is = h; new_is = e ∙ ap (λ (l : List ℕ). old ++ l) same }
adds_text (Err x) old new text seen is h same e = tt

-- the part of that number
pub part_state : (format : Format) (sandbox : ℕ) (items : List SandboxPart) (part : SandboxPart) (o : Option Slot) (old new : List ℕ) → slice_get items sandbox ≡ Some part
    → Adds old new (IsStateOfSandbox sandbox (Some (view format part)) o) → Adds old new (IsStateOfSandbox sandbox (slice_get (views format items) sandbox) o)
part_state format sandbox items part o old new e h =
    subst (λ (x : Option Part). Adds old new (IsStateOfSandbox sandbox x o)) (sym (slice_get-map (view format) items sandbox ∙ ap (option_map (view format)) e)) h

-- one sandbox more
pub one_more_state : (n : ℕ) (ps : List Part) (slots : List Slot) (old mid new : List ℕ) → Adds old mid (AreStates n ps slots)
    → Adds mid new (IsStateOfSandbox n (slice_get ps n) (slice_get slots n)) → Adds old new (AreStates (n + 1) ps slots)
one_more_state n ps slots old mid new before here =
    let text = before.text ++ here.text in
    let told : AreStates (suc n) ps slots text = (before.text, here.text, before.text_is, here.text_is, refl) in
    record {
      text = text;
      text_is = subst (λ k. AreStates k ps slots text) (let k : suc n ≡ n + 1 = omega arith in k) told;
      new_is = here.new_is ∙ ap (λ (t : List ℕ). t ++ here.text) before.new_is ∙ append_assoc old before.text here.text;
    }
