use Rattle.sfi_host.proofs.Prelude.{◌≡◌, ◌+◌, ◌++◌, List, drop, sym, subst, arith, view, views, Part}
use Rattle.sfi_host.specs.Modules.{part_of, parts_of, program_in, HavePrograms}
use Rattle.sfi_decoded.specs.Programs.{IsProgramOf}
use Rattle.sfi_host.specs.declared.modules.ModulePart.{ModulePart}
use Rattle.sfi_host.proofs.Decoded.{pushed}
use Rattle.sfi_host.proofs.Entered.{right_part, next_made, all_made}
use Rattle.sfi_host.proofs.modules.copy_parts.Goals as goal

pub from_part-requires : goal.from_part-requires
from_part-requires c = (c.requires.0, right_part (view c.requires.0) c.args.parts.now c.loop-part.part-index c.part-item.result c.requires.1 (omega arith) c.part-item.is)

pub loop-part-preserved : goal.loop-part-preserved
loop-part-preserved c =
    let xs = c.args.parts.now in
    let k = c.loop-part.part-index in
    let p = c.in_ok-from_part.field-0 in
    record {
      parts = λ format. subst (λ (l : List ModulePart). parts_of format l ++ views format (drop (k + 1) xs) ≡ views format xs) (sym c.in_ok-push.ensures.items)
          (next_made (view format) (part_of format) xs k c.part-item.result c.loop-part.all.items p (omega arith) c.part-item.is (c.loop-part.invariant.parts format) (c.in_ok-from_part.ensures.part format));
      programs = λ format. subst (λ (l : List ModulePart). HavePrograms format l) (sym c.in_ok-push.ensures.items)
          (pushed (λ i q. IsProgramOf (part_of format q) (program_in q)) c.loop-part.all.items p (c.loop-part.invariant.programs format)
          (subst (λ (x : Part). IsProgramOf x (program_in p)) (sym (c.in_ok-from_part.ensures.part format)) (c.in_ok-from_part.ensures.program format)));
    }

pub returns-clause-parts : goal.returns-clause-parts
returns-clause-parts c format = all_made (view format) (part_of format) c.args.parts.now c.loop-part.part-index c.loop-part.all.items (omega arith) (c.loop-part.invariant.parts format)
