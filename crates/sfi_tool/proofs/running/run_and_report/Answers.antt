use Rattle.sfi_tool.proofs.Prelude.{◌∙◌, ap, string_bytes}
use Rattle.sfi_host.specs.Consoles.{new_console}
use Rattle.std.proofs.lemmas.Result.{IfOk-weaker}
use Rattle.sfi_tool.proofs.Turns.{said_of_run}
use Rattle.sfi_tool.proofs.running.run_and_report.Goals as goal

pub returns : goal.returns
returns c =
    IfOk-weaker c.run_text.result _ _
    (λ text h machine is. said_of_run c.args.options.now machine c.args.accepted.now c.sandbox_count-count.result c.in_ok-world.world c.in_ok-console.console _ _ (string_bytes text)
    c.sandbox_count-count.ensures.count c.in_ok-world.ensures.seats c.in_ok-world.ensures.bytes (c.in_ok-console.ensures ∙ ap (new_console c.sandbox_count-count.result) c.deref.ensures.value)
    (c.in_ok-take_rounds.ensures machine is) h)
    c.run_text.ensures
