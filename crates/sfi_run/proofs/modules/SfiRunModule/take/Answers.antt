use Rattle.sfi_run.proofs.Prelude.{◌≡◌, Some}
use Rattle.std.proofs.Common.{◌≢◌, ℕ, Option, None, refl}
use Rattle.sfi_run.specs.Held.{flag_of}
use Rattle.sfi_run.proofs.modules.SfiRunModule.take.Goals as goal

-- where the flag says so, there is a module
some_held : {A : Type 0} (o : Option A) (n : ℕ) → n ≡ flag_of o → n ≢ 0 → (x : A) × (o ≡ Some x)
some_held None n e not = absurd (not e)
some_held (Some x) n e not = (x, refl)

pub into_box-requires : goal.into_box-requires
into_box-requires c = some_held c.replace-held.result.inner.parts c.replace-held.result.held c.replace-held.result.flag c.if-held-eq0.false
