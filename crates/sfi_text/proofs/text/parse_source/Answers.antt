use Rattle.std.proofs.Common.{Err}
use Rattle.sfi_text.proofs.OneSource.{one_source}
use Rattle.sfi_text.proofs.TextLines.{listed_means, only_source}
use Rattle.sfi_text.proofs.text.parse_source.Goals as goal

pub returns-in-Ok-clause-only_source : goal.returns-in-Ok-clause-only_source
returns-in-Ok-clause-only_source c = λ s h.
    one_source c.args.text.now c.in-Ok.meaning.source s (listed_means c.args.text.now c.in-Ok.meaning.source c.in-Ok.meaning.shared.items c.in-Ok.ensures.meaning) h

pub returns-in-Err-clause-only_source : goal.returns-in-Err-clause-only_source
returns-in-Err-clause-only_source c = only_source c.args.text.now (Err c.in-Err.fault) tt c.in-Err.ensures.fault
