use Rattle.sfi_translate.proofs.Prelude.{◌≡◌, ◌+◌, ◌-◌, ◌≤◌, length, take, drop, subst, arith, length-take, string_bytes, view, Adds, IsUnitText}
use Rattle.std.proofs.Common.{◌^◌, length-drop}
use Rattle.sfi_report.proofs.Texts.{unit_fits}
use Rattle.sfi_translate.proofs.Text.{one_unit_more, whole_code}
use Rattle.sfi_translate.proofs.translation.push_code_lines.Goals as goal

pub overflow_add-here : goal.overflow_add-here
overflow_add-here c =
    let fits = unit_fits (view c.args.format c.args.part.now) c.unit-unit.result c.loop-at.at c.loop-at.invariant.units c.requires c.unit-unit.ensures c.loop-at.invariant.at_is c.loop-at-test.true in
    let end : c.args.part.now.code_base + length c.args.part.now.code.now ≤ 2 ^ 32 = fits.2 in
    let less = c.loop-at-test.true in
    omega arith

pub slice_bounds-push_unit_lines-end : goal.slice_bounds-push_unit_lines-end
slice_bounds-push_unit_lines-end c =
    let fits = unit_fits (view c.args.format c.args.part.now) c.unit-unit.result c.loop-at.at c.loop-at.invariant.units c.requires c.unit-unit.ensures c.loop-at.invariant.at_is c.loop-at-test.true in
    let within : c.loop-at.at + c.unit-unit.result ≤ length c.args.part.now.code.now = fits.0 in
    omega (arith, within, length-drop c.loop-at.at c.args.part.now.code.now)

pub push_unit_lines-requires : goal.push_unit_lines-requires
push_unit_lines-requires c =
    let at = c.loop-at.at in
    let code = c.args.part.now.code.now in
    let size = c.unit-unit.result in
    let fits = unit_fits (view c.args.format c.args.part.now) size at c.loop-at.invariant.units c.requires c.unit-unit.ensures c.loop-at.invariant.at_is c.loop-at-test.true in
    let end : c.args.part.now.code_base + length code ≤ 2 ^ 32 = fits.2 in
    let less = c.loop-at-test.true in
    omega (arith, end, less, length-take (at + size - at) (drop at code), length-drop at code)

pub loop-at-preserved : goal.loop-at-preserved
loop-at-preserved c =
    let at = c.loop-at.at in
    let part = c.args.part.now in
    let size = c.unit-unit.result in
    let old = string_bytes c.loop-at.out in
    let new = string_bytes c.push_unit_lines.new.out in
    let cut : at + size - at ≡ size = omega arith in
    let here = subst (λ n. Adds old new (IsUnitText c.args.sandbox at (part.code_base + at) (take n (drop at part.code.now)))) cut c.in_ok-push_unit_lines.ensures in
    one_unit_more c.args.sandbox (view c.args.format part) size at (string_bytes c.args.out.now) old new c.requires c.unit-unit.ensures c.loop-at-test.true c.loop-at.invariant here

pub returns : goal.returns
returns c = whole_code c.args.sandbox (view c.args.format c.args.part.now) c.loop-at.at (string_bytes c.args.out.now) (string_bytes c.loop-at.out) c.loop-at-test.false c.loop-at.invariant
