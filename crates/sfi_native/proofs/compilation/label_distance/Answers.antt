use Rattle.std.proofs.Common.{◌≡◌, Some, sym, ap, ◌∙◌}
use Rattle.std.specs.BTreeMap.{get}
use Rattle.std.specs.Ordering.{nat_cmp}
use Rattle.sfi_native.specs.Places.{distances}
use Rattle.sfi_native.proofs.Compiled.{label_far}
use Rattle.sfi_native.proofs.compilation.label_distance.Goals as goal

pub returns : goal.returns
returns c = λ plan code rest bytes to measured all_is end_is target_is.
    let same : c.in-Some.to ≡ to = cc in
    let left = c.in-Some-get.left.now in
    let held : get nat_cmp c.args.labels.now c.in-Some.to ≡ Some left = sym c.in-Some-get.ensures.value in
    c.distance-2.ensures ∙ label_far plan code rest bytes c.args.labels.now c.in-Some.to left c.args.all c.args.end measured all_is end_is held ∙ ap (λ a. distances plan code rest a) same
