use Rattle.sfi_tool.proofs.Prelude.{string_bytes, slots_of, length, arith}
use Rattle.std.proofs.lemmas.List.{length-map}
use Rattle.sfi_image.specs.Spelling.{view, views}
use Rattle.sfi_tool.proofs.Calls.{stop_text_is}
use Rattle.sfi_tool.proofs.stopping.stop_text.Goals as goal

pub returns : goal.returns
returns g c = λ format.
    stop_text_is (views format c.args.parts.now) (slots_of c.args.world.now) (length c.args.parts.now) (string_bytes c.in_ok-text.text) (string_bytes c.push_states.new.out)
    (omega (arith, length-map c.args.parts.now (view format))) c.in_ok-text.ensures (c.in_ok-push_states.ensures format)
