use Rattle.std.proofs.Common.{◌∙◌, ◌++◌, ap}
use Rattle.sfi_text.specs.Statement.{printed}
use Rattle.sfi_text.proofs.RoundTrip.{printed_means}
use Rattle.sfi_text.proofs.print.print_instr.Goals as goal

pub returns-clause-reads_back : goal.returns-clause-reads_back
returns-clause-reads_back c =
    printed_means _ c.args.instr.now (c.in_ok-push_instr.ensures ∙ ap (λ t. t ++ printed c.args.instr.now) c.new-out.ensures.bytes)
