use Rattle.std.proofs.Common.{arith, map, rules, inl, inr}
use Rattle.std.proofs.lemmas.Bool.{cases_Bool}
use Rattle.sfi_image.specs.Spelling.{view}
use Rattle.sfi_translate.specs.Lines.{AreLines}
use Rattle.sfi_native.specs.declared.plan.Plan.{Plan}
use Rattle.sfi_native.specs.Lines.{line_of}
use Rattle.sfi_native.proofs.CodeSizes.{code_is_small}
use Rattle.sfi_native.proofs.file.push_sandbox.Goals as goal

-- without nops all code is small
pub returns-clause-always : goal.returns-clause-always
returns-clause-always c =
    let p = view c.args.format c.args.part.now in
    let lines = map line_of c.deref-3.result.now in
    let are : AreLines c.args.sandbox p lines = search rules in
    let first = c.in_ok-plan.plan in
    let plan : Plan = record { format = first.format; assigned = first.assigned; code_base = first.code_base; owed = first.owed; padding = c.clear.new.self } in
    elim (cases_Bool c.in_ok-small.small) [
      | inl e ↦ e
      | inr e ↦
          let large = (c.in_ok-small.ensures.many e).0 in
          absurd (omega (arith, large, code_is_small plan c.args.sandbox p lines c.clear.ensures.items c.requires are))
    ]
