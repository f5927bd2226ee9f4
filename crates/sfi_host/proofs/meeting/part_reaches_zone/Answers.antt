use Rattle.sfi_host.proofs.Prelude.{◌≡◌, true, sym, ◌∙◌}
use Rattle.sfi_formats.specs.Formats.{has_single_mask}
use Rattle.sfi_host.specs.Modules.{part_of}
use Rattle.sfi_host.proofs.Meetings.{code_bounded}
use Rattle.sfi_host.proofs.meeting.part_reaches_zone.Goals as goal

pub reach_zone-requires-clause-code : goal.reach_zone-requires-clause-code
reach_zone-requires-clause-code c = code_bounded (part_of c.args.format c.args.part.now) c.code_of-code.result c.requires.right (c.code_of-code.ensures c.args.format)

pub returns : goal.returns
returns c =
    let no = c.if-not-has_single_mask.false in
    let one : has_single_mask c.args.sandbox.now.format ≡ true = sym c.has_single_mask.ensures ∙ cc in
    let both = rw (c.code_of-code.ensures c.args.format, c.with_guards-guarded.ensures) at c.reach_zone.ensures in
    (λ t. (one, both.0 t), λ reaches. both.1 reaches.1)
