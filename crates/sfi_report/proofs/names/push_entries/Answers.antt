use Rattle.sfi_report.proofs.Prelude.{string_bytes}
use Rattle.sfi_names.specs.Tables.{named}
use Rattle.sfi_report.proofs.Lines.{one_written, all_written}
use Rattle.sfi_report.proofs.names.push_entries.Goals as goal

pub loop-entry-preserved : goal.loop-entry-preserved
loop-entry-preserved c = λ es fits e.
    let f = c.in-Some.ensures.found in
    one_written c.args.kind c.loop-entry.rest.now c.in-Some.more.now (string_bytes c.args.out.now) (string_bytes c.loop-entry.out) (string_bytes c.push_name_line.new.out) (named c.in-Some.entry) es f.0 f.1 c.in_ok-push_name_line.ensures (c.loop-entry.invariant es fits e)

pub returns : goal.returns
returns c = λ es fits e. all_written c.args.kind c.loop-entry.rest.now (string_bytes c.args.out.now) (string_bytes c.loop-entry.out) es c.in_default.ensures.none (c.loop-entry.invariant es fits e)
