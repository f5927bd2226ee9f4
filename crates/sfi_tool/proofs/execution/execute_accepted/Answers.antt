use Rattle.std.proofs.Common.{map}
use Rattle.sfi_image.specs.Spelling.{format_of}
use Rattle.sfi_tool.specs.Executing.{Begins, IsStopText, IsTold}
use Rattle.sfi_tool.proofs.Prelude.{◌∙◌, ℕ, List, Part, string_bytes, slots_of, subst, sym}
use Rattle.sfi_host.specs.Worlds.{Seat, slot_of}
use Rattle.sfi_tool.specs.private.{AreWithin}
use Rattle.sfi_tool.proofs.Budgets.{first_within}
use Rattle.sfi_tool.proofs.Calls.{if_err}
use Rattle.sfi_tool.proofs.Jobs.{begins_after, begins_none, ran_of, told_is}
use Rattle.sfi_tool.proofs.Turns.{keeps_same}
use Rattle.sfi_tool.proofs.execution.execute_accepted.Given as given
use Rattle.sfi_tool.proofs.execution.execute_accepted.Goals.{Start, After-flush_output}
use Rattle.sfi_tool.proofs.execution.execute_accepted.Goals as goal

pub execute_sandboxes-ran-requires-clause-within : goal.execute_sandboxes-ran-requires-clause-within
execute_sandboxes-ran-requires-clause-within g c =
    let w = c.in_ok-world.world in
    subst (λ (seats : List Seat). AreWithin c.args.budget (map (slot_of w.bytes) seats)) (sym c.in_ok-world.ensures.seats) (first_within c.args.budget w.bytes c.args.accepted.now)

nothing_written : (g : given.Over) (c : Start g) → let out = g.W.Write.contents c.args.writer.now in Begins c.args.budget c.args.accepted.now (g.R.Read.remaining c.args.reader.now) out out
nothing_written g c = begins_none c.args.budget c.args.accepted.now _ _ _ (keeps_same (g.W.Write.contents c.args.writer.now))

beginning_written : (g : given.Over) (c : After-flush_output g) → Begins c.args.budget c.args.accepted.now (g.R.Read.remaining c.args.reader.now) (g.W.Write.contents c.args.writer.now) (g.W.Write.contents c.flush_output.new.writer)
beginning_written g c =
    begins_after c.args.budget c.args.accepted.now c.sandbox_count-count.result c.in_ok-world.world (slots_of c.execute_sandboxes-ran.new.world) c.in_ok-console.console c.execute_sandboxes-ran.new.console
    c.sandbox_count-count.ensures.count c.in_ok-world.ensures.seats c.in_ok-world.ensures.bytes c.in_ok-console.ensures c.execute_sandboxes-ran.result
    (g.R.Read.remaining c.args.reader.now) (g.R.Read.remaining c.execute_sandboxes-ran.new.reader) (g.W.Write.contents c.args.writer.now) (g.W.Write.contents c.execute_sandboxes-ran.new.writer)
    (g.W.Write.contents c.flush_output.new.writer) c.execute_sandboxes-ran.ensures.streamed c.execute_sandboxes-ran.ensures.within c.execute_sandboxes-ran.ensures.cut c.flush_output.ensures

pub returns-in_err-world-clause-begins : goal.returns-in_err-world-clause-begins
returns-in_err-world-clause-begins g c = if_err _ _ (nothing_written g (goal.at.returns-in_err-world-clause-begins g c).Start)

pub returns-in_err-console-clause-begins : goal.returns-in_err-console-clause-begins
returns-in_err-console-clause-begins g c = if_err _ _ (nothing_written g (goal.at.returns-in_err-console-clause-begins g c).Start)

pub returns-in_err-buffer-clause-begins : goal.returns-in_err-buffer-clause-begins
returns-in_err-buffer-clause-begins g c = if_err _ _ (nothing_written g (goal.at.returns-in_err-buffer-clause-begins g c).Start)

pub returns-in_err-flush_output-clause-begins : goal.returns-in_err-flush_output-clause-begins
returns-in_err-flush_output-clause-begins g c = if_err _ _ (beginning_written g (goal.at.returns-in_err-flush_output-clause-begins g c).After-flush_output)

pub returns-in_err-ran-clause-begins : goal.returns-in_err-ran-clause-begins
returns-in_err-ran-clause-begins g c = if_err _ _ (beginning_written g (goal.at.returns-in_err-ran-clause-begins g c).After-flush_output)

pub returns-in_err-text-clause-begins : goal.returns-in_err-text-clause-begins
returns-in_err-text-clause-begins g c = if_err _ _ (beginning_written g (goal.at.returns-in_err-text-clause-begins g c).After-flush_output)

pub returns-clause-ran : goal.returns-clause-ran
returns-clause-ran g c =
    ran_of c.args.budget c.args.accepted.now c.sandbox_count-count.result c.in_ok-world.world (slots_of c.execute_sandboxes-ran.new.world) c.in_ok-console.console c.execute_sandboxes-ran.new.console
    c.sandbox_count-count.ensures.count c.in_ok-world.ensures.seats c.in_ok-world.ensures.bytes c.in_ok-console.ensures
    (g.R.Read.remaining c.args.reader.now) (g.R.Read.remaining c.execute_sandboxes-ran.new.reader) (g.W.Write.contents c.args.writer.now) (g.W.Write.contents c.execute_sandboxes-ran.new.writer)
    (g.W.Write.contents c.flush_output.new.writer) (g.E.Write.contents c.args.errors.now) (g.E.Write.contents c.write_out-told.new.writer) (string_bytes c.in_ok-text.text)
    (record { status = c.first_nonzero_status-status.result; told = c.write_out-told.result }) c.in_ok-ran.ensures.streamed c.flush_output.ensures
    (subst (λ (ps : List Part). IsStopText ps (slots_of c.execute_sandboxes-ran.new.world) (string_bytes c.in_ok-text.text)) (c.parts.ensures.parts ∙ c.image.ensures.image)
    (c.in_ok-text.ensures (format_of c.image.result.now)))
    (subst (λ (text : List ℕ). IsTold c.write_out-told.result (g.E.Write.contents c.args.errors.now) (g.E.Write.contents c.write_out-told.new.writer) text) c.as_bytes.ensures.value
    (told_is c.write_out-told.result (g.E.Write.contents c.args.errors.now) (g.E.Write.contents c.write_out-told.new.writer) _ c.write_out-told.ensures.whole c.write_out-told.ensures.part)) c.first_nonzero_status-status.ensures
