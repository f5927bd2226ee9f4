use Rattle.sfi_host.proofs.Prelude.{sym, subst, view, Program}
use Rattle.sfi_decoded.specs.Programs.{IsProgramOf}
use Rattle.sfi_host.proofs.modules.ModulePart.from_part.Goals as goal

pub returns-clause-program : goal.returns-clause-program
returns-clause-program c format =
    subst (λ (p : Program). IsProgramOf (view format c.args.part.now) p) (sym c.in_ok-program.ensures.ok) (c.in_ok-decoded.ensures format)
