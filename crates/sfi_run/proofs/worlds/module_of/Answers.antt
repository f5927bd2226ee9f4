use Rattle.sfi_run.proofs.Loaded.{accepted_by, refused_by, no_image_by}
use Rattle.sfi_run.proofs.worlds.module_of.Goals as goal

pub boxed-requires : goal.boxed-requires
boxed-requires c = accepted_by c.args.image.now c.args.answer _ _ c.requires.judged c.in-Accepted.is

pub returns-in-Findings-clause-fault : goal.returns-in-Findings-clause-fault
returns-in-Findings-clause-fault c = refused_by c.args.image.now c.args.answer _ _ c.requires.judged c.in-Findings.is

pub returns-in-Layout-clause-fault : goal.returns-in-Layout-clause-fault
returns-in-Layout-clause-fault c = no_image_by c.args.image.now c.args.answer _ c.requires.judged c.in-Layout.is
