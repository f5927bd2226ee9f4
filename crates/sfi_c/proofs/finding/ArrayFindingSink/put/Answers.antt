use Rattle.sfi_c.proofs.Prelude.{◌≡◌, ◌∙◌, List, [], ℕ, ◌-◌, ◌++◌, length, take, drop, ap, refl, arith, min, with_findings}
use Rattle.std.proofs.Common.{◌≤◌}
use Rattle.std.proofs.Math.ListN.{drop_of_length-le}
use Rattle.std.proofs.lemmas.List.{append-nil, length-drop, take_all}
use Rattle.sfi_check.specs.declared.for_c.SfiFinding.{SfiFinding}
use Rattle.sfi_c.proofs.Writing.{filled}
use Rattle.sfi_c.proofs.finding.ArrayFindingSink.put.Goals as goal

pub returns : goal.returns
returns c = (
  refl,
  λ first before has.
      let array = c.args.self.now.elements.now in
      let from = c.min-from.result in
      let inside : from ≤ length array = omega (arith, c.min-from.ensures) in
      let room : take (length array - from) (drop from array) ≡ drop from array = take_all (length array - from) (drop from array) (omega (arith, length-drop from array)) in
      let none : drop (length array - from) (drop from array) ≡ [] = drop_of_length-le (drop from array) (omega (arith, length-drop from array)) in
      let written = c.write_findings.ensures ∙ ap (λ (l : List SfiFinding). with_findings c.args.found.now l) room in
      let long : length (take (length array - from) (drop from array)) ≡ length array - from = ap length room ∙ length-drop from array in
      filled first before c.args.found.now array _ c.args.self.now.written from c.min-count.result has
      c.min-from.ensures
      (ap (λ (l : List SfiFinding). take from array ++ (l ++ drop (length array - from) (drop from array))) written
      ∙ ap (λ (l : List SfiFinding). take from array ++ (with_findings c.args.found.now (drop from array) ++ l)) none
      ∙ ap (λ (l : List SfiFinding). take from array ++ l) (append-nil (with_findings c.args.found.now (drop from array))))
      (c.min-count.ensures ∙ ap (λ (k : ℕ). min k (length (take (length array - from) (drop from array)))) c.count.ensures.value ∙ ap (λ (k : ℕ). min (length c.args.found.now) k) long),
)
