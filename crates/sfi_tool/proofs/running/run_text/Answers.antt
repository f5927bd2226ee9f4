use Rattle.sfi_tool.proofs.Prelude.{◌∙◌, List, length, ap, subst, arith, string_bytes, slots_of, Part, view, AreStates, Adds}
use Rattle.std.proofs.lemmas.List.{length-map}
use Rattle.sfi_image.specs.Spelling.{format_of}
use Rattle.sfi_tool.proofs.Turns.{lines_and_states}
use Rattle.sfi_tool.proofs.running.run_text.Goals as goal

pub push_states-requires : goal.push_states-requires
push_states-requires g c =
    omega (arith, c.requires, c.ranges.count, length-map c.parts.result.now (view (format_of c.image.result.now)), ap length (c.parts.ensures.parts ∙ c.image.ensures.image))

pub returns : goal.returns
returns g c =
    lines_and_states c.args.report c.args.accepted.now (slots_of c.args.world.now) c.args.console.now c.args.count (string_bytes c.in_ok-text.text) (string_bytes c.push_states.new.out)
    (cc) c.requires c.in_ok-text.ensures
    (subst (λ (ps : List Part). Adds (string_bytes c.in_ok-text.text) (string_bytes c.push_states.new.out) (AreStates (length ps) ps (slots_of c.args.world.now))) (c.parts.ensures.parts ∙ c.image.ensures.image)
    (c.in_ok-push_states.ensures (format_of c.image.result.now)))
