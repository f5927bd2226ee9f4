use Rattle.sfi_host.proofs.Prelude.{List, map, sym, ap, ◌∙◌, subst, Part, Program, AreProgramsOf}
use Rattle.std.proofs.lemmas.Result.{IfOk-weaker}
use Rattle.sfi_host.specs.Modules.{program_in}
use Rattle.sfi_host.specs.Modules.{programs_of}
use Rattle.sfi_host.specs.declared.modules.ModulePart.{ModulePart}
use Rattle.sfi_host.proofs.Decoded.{programs_are}
use Rattle.sfi_host.proofs.modules.Module.programs.Goals as goal

pub returns : goal.returns
returns c =
    IfOk-weaker c.share_programs.result _ (λ all. AreProgramsOf c.args.self.now (programs_of all.items))
    (λ all made. subst (λ (x : List Part × List Program). AreProgramsOf x.0 x.1)
    (λ k. (c.self.view_is k, sym (made ∙ ap (λ (l : List ModulePart). map program_in l) c.deref.ensures.value) k))
    (programs_are c.self.inside.format c.self.inside.parts.items c.self.invariant.programs)) c.share_programs.ensures
