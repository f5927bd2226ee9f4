use Rattle.sfi_report.proofs.Prelude.{◌≡◌, ◌+◌, ◌-◌, ◌≤◌, length, take, drop, subst, arith, length-take, string_bytes, view, Adds, IsUnitListing}
use Rattle.std.proofs.Common.{◌^◌, length-drop}
use Rattle.sfi_report.proofs.Texts.{unit_fits, one_unit_more}
use Rattle.sfi_report.proofs.listing.list_code.Goals as goal

pub overflow_add-part : goal.overflow_add-part
overflow_add-part c =
    let fits = unit_fits (view c.args.format c.args.part.now) c.unit-unit.result c.loop-at.at c.loop-at.invariant.units c.requires c.unit-unit.ensures c.loop-at.invariant.at_is c.loop-at-test.true in
    let end : c.args.part.now.code_base + length c.args.part.now.code.now ≤ 2 ^ 32 = fits.2 in
    let less = c.loop-at-test.true in
    omega arith

pub slice_bounds-list_unit-end : goal.slice_bounds-list_unit-end
slice_bounds-list_unit-end c =
    let fits = unit_fits (view c.args.format c.args.part.now) c.unit-unit.result c.loop-at.at c.loop-at.invariant.units c.requires c.unit-unit.ensures c.loop-at.invariant.at_is c.loop-at-test.true in
    let within : c.loop-at.at + c.unit-unit.result ≤ length c.args.part.now.code.now = fits.0 in
    omega (arith, within, length-drop c.loop-at.at c.args.part.now.code.now)

pub list_unit-requires : goal.list_unit-requires
list_unit-requires c =
    let at = c.loop-at.at in
    let code = c.args.part.now.code.now in
    let size = c.unit-unit.result in
    let fits = unit_fits (view c.args.format c.args.part.now) size at c.loop-at.invariant.units c.requires c.unit-unit.ensures c.loop-at.invariant.at_is c.loop-at-test.true in
    let end : c.args.part.now.code_base + length code ≤ 2 ^ 32 = fits.2 in
    let less = c.loop-at-test.true in
    omega (arith, end, less, length-take (at + size - at) (drop at code), length-drop at code)

pub loop-at-preserved : goal.loop-at-preserved
loop-at-preserved c =
    let at = c.loop-at.at in
    let part = c.args.part.now in
    let size = c.unit-unit.result in
    let old = string_bytes c.loop-at.out in
    let new = string_bytes c.list_unit.new.out in
    let cut : at + size - at ≡ size = omega arith in
    let here = subst (λ n. Adds old new (IsUnitListing (part.code_base + at) (take n (drop at part.code.now)))) cut c.in_ok-list_unit.ensures in
    one_unit_more (view c.args.format part) size at (string_bytes c.args.out.now) old new c.requires c.unit-unit.ensures c.loop-at-test.true c.loop-at.invariant here
