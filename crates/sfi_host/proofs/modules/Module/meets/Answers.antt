use Rattle.sfi_host.proofs.Prelude.{◌↔◌, IsTrue, List, ap, ◌∙◌, subst, Part, world_of}
use Rattle.sfi_host.specs.Adding.{MeetsSome}
use Rattle.sfi_host.specs.Modules.{parts_of}
use Rattle.sfi_host.specs.declared.modules.ModulePart.{ModulePart}
use Rattle.sfi_host.proofs.modules.Module.meets.Goals as goal

pub returns : goal.returns
returns c m =
    subst (λ (ps : List Part). IsTrue c.some_meet.result ↔ MeetsSome (world_of m c.args.sandboxes.now) ps)
    (ap (λ (l : List ModulePart). parts_of c.self.inside.format l) c.deref.ensures.value ∙ c.self.view_is) (c.some_meet.ensures m)
