use Rattle.sfi_host.proofs.Prelude.{◌≡◌, ◌∙◌, List, ap, sym, subst, Format, Part, views}
use Rattle.sfi_safety.specs.Clean.{MayRun}
use Rattle.sfi_host.specs.Modules.{parts_of}
use Rattle.sfi_host.proofs.modules.Module.from_accepted.Goals as goal

pub invariant_of-result : goal.invariant_of-result
invariant_of-result c =
    let same : parts_of c.format.result c.in_ok-parts.parts.items ≡ c.args.accepted.now =
    c.in_ok-parts.ensures.parts c.format.result ∙ ap (λ (f : Format). views f c.parts.result.now) c.format.ensures ∙ c.parts.ensures.parts ∙ c.image-image.ensures.image in
    let runs : MayRun c.args.accepted.now = record { clean = c.image-image.ensures.clean; safe = c.image-image.ensures.safe; calls = c.image-image.ensures.calls } in
    record { runs = subst (λ (ps : List Part). MayRun ps) (sym same) runs; programs = c.in_ok-parts.ensures.programs c.format.result }
