use Rattle.std.proofs.Common.{arith}
use Rattle.clap.specs.Matches.{found_of}
use Rattle.sfi_command.proofs.Words.{count_is, out_of_range, no_number, no_text}
use Rattle.sfi_command.proofs.options.count_of.Goals as goal

pub returns-in_err-text-clause-none : goal.returns-in_err-text-clause-none
returns-in_err-text-clause-none c none = no_text (found_of c.args.found.now) c.args.option.now c.args.least c.args.most c.in_err-text.ensures

pub returns-in-Ok-clause-some : goal.returns-in-Ok-clause-some
returns-in-Ok-clause-some c =
    count_is (found_of c.args.found.now) c.args.option.now c.in_ok-text.text.now c.args.least c.args.most c.in-Ok.count c.in_ok-text.ensures c.in-Ok.ensures.value.0
    c.if-least-count.true c.if-count-most.true

pub returns-in_default-clause-none : goal.returns-in_default-clause-none
returns-in_default-clause-none c none =
    out_of_range (found_of c.args.found.now) c.args.option.now c.in_ok-text.text.now c.args.least c.args.most c.in-Ok.count c.in_ok-text.ensures
    c.in-Ok.ensures.value.0 (λ low high. absurd (omega arith))

pub returns-in_default-2-clause-none : goal.returns-in_default-2-clause-none
returns-in_default-2-clause-none c none =
    out_of_range (found_of c.args.found.now) c.args.option.now c.in_ok-text.text.now c.args.least c.args.most c.in-Ok.count c.in_ok-text.ensures
    c.in-Ok.ensures.value.0 (λ low high. absurd (omega arith))

pub returns-in_default-3-clause-none : goal.returns-in_default-3-clause-none
returns-in_default-3-clause-none c none =
    no_number (found_of c.args.found.now) c.args.option.now c.in_ok-text.text.now c.args.least c.args.most (omega arith) c.in_ok-text.ensures
    c.in_default.ensures.value.0
