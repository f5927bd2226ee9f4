use Rattle.std.proofs.Common.{◌≡◌, ◌+◌, ◌++◌, length, ap, ◌∙◌, arith, rules}
use Rattle.x86_step.specs.Running.{spellings}
use Rattle.sfi_native.specs.Lines.{line_of}
use Rattle.sfi_native.specs.Places.{line_code, size_of}
use Rattle.sfi_native.proofs.Compiled.{line_placed}
use Rattle.sfi_native.proofs.compilation.place_line.Goals as goal

pub returns : goal.returns
returns c = λ code rest bytes measured all_is last old_is.
    let line = line_of c.args.line in
    let size = length c.push_line.new.out.items in
    let size_is : size ≡ size_of c.args.plan.now line = ap length (c.in_ok-push_line.ensures ∙ ap (λ x. x ++ spellings (line_code c.args.plan.now (λ to. 0) 0 line)) c.clear.ensures.items) in
    let before : c.len.result ≡ length c.args.out.now.items = search rules in
    let own : c.len-2.result ≡ size = search rules in
    let end = c.len.result + c.len-2.result in
    let end_is : end ≡ length c.args.out.now.items + size = omega (arith, before, own) in
    c.in_ok-push_line-2.ensures
    ∙ ap (λ x. c.args.out.now.items ++ spellings (line_code c.args.plan.now (λ to. c.label_distance-label.result) x line)) c.distance.ensures
    ∙ line_placed c.args.plan.now code rest line c.args.out.now.items size c.label_distance-label.result c.args.all end all_is last old_is size_is end_is
    (λ here to target. c.label_distance-label.ensures c.args.plan.now code rest bytes to measured all_is here target)
