use Rattle.std.proofs.Common.{◌++◌, map, ap, ◌∙◌}
use Rattle.sfi_image.specs.Spelling.{view}
use Rattle.x86_step.specs.Running.{spellings}
use Rattle.sfi_native.specs.Code.{end_code}
use Rattle.sfi_native.specs.Lines.{line_of}
use Rattle.sfi_native.specs.Registers.{owed}
use Rattle.sfi_native.specs.Places.{code_of, end_address}
use Rattle.sfi_native.proofs.Lists.{whole_parts}
use Rattle.sfi_native.proofs.compilation.compile.Goals as goal

pub returns-clause-bytes : goal.returns-clause-bytes
returns-clause-bytes c =
    let code = map line_of c.args.lines.now in
    c.in_ok-put_end.ensures
    ∙ ap (λ x. x ++ spellings (end_code c.end_of-end.result c.owed.result)) c.in_ok-place.ensures.bytes
    ∙ ap (λ n. spellings (code_of c.args.plan.now code code) ++ spellings (end_code c.end_of-end.result n)) c.owed.ensures.is
    ∙ ap (λ a. spellings (code_of c.args.plan.now code code) ++ spellings (end_code a (owed c.args.plan.now a))) (c.end_of-end.ensures c.args.format)
    ∙ whole_parts c.args.plan.now code (end_address (view c.args.format c.args.part.now))
