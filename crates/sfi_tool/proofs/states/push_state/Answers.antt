use Rattle.sfi_tool.proofs.Prelude.{string_bytes, view}
use Rattle.sfi_report.specs.State.{IsStateText}
use Rattle.sfi_tool.proofs.StateTexts.{adds_text}
use Rattle.sfi_tool.proofs.states.push_state.Goals as goal

pub returns : goal.returns
returns c = λ format.
    adds_text c.push_str.result (string_bytes c.args.out.now) (string_bytes c.push_str.new.self) (string_bytes c.in_ok-state.state) c.as_str.result.now
    (IsStateText c.args.sandbox (view format c.args.part.now) c.args.cpu.now) (c.in_ok-state.ensures.text format) c.as_str.ensures.value c.push_str.ensures.bytes
