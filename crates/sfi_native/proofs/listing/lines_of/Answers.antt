use Rattle.std.proofs.Common.{◌≡◌, ◌+◌, ◌-◌, ◌^◌, ◌≤◌, length, take, drop, arith, length-drop, length-take, subst}
use Rattle.sfi_image.specs.Spelling.{view}
use Rattle.sfi_report.proofs.Texts.{unit_fits}
use Rattle.sfi_translate.specs.Lines.{AreUnitLines}
use Rattle.sfi_native.specs.private.{AddsLines}
use Rattle.sfi_native.proofs.Listed.{all_units, one_unit_more}
use Rattle.sfi_native.proofs.listing.lines_of.Goals as goal

pub overflow_add-at : goal.overflow_add-at
overflow_add-at c =
    let fits = unit_fits (view c.args.format c.args.part.now) c.unit-unit.result c.loop-offset.offset c.loop-offset.invariant.units c.requires c.unit-unit.ensures c.loop-offset.invariant.at_is c.loop-offset-test.true in
    let end : c.args.part.now.code_base + length c.args.part.now.code.now ≤ 2 ^ 32 = fits.2 in
    let less = c.loop-offset-test.true in
    omega arith

pub slice_bounds-push_unit-end : goal.slice_bounds-push_unit-end
slice_bounds-push_unit-end c =
    let fits = unit_fits (view c.args.format c.args.part.now) c.unit-unit.result c.loop-offset.offset c.loop-offset.invariant.units c.requires c.unit-unit.ensures c.loop-offset.invariant.at_is c.loop-offset-test.true in
    let within : c.loop-offset.offset + c.unit-unit.result ≤ length c.args.part.now.code.now = fits.0 in
    omega (arith, within, length-drop c.loop-offset.offset c.args.part.now.code.now)

pub push_unit-requires : goal.push_unit-requires
push_unit-requires c =
    let at = c.loop-offset.offset in
    let code = c.args.part.now.code.now in
    let size = c.unit-unit.result in
    let fits = unit_fits (view c.args.format c.args.part.now) size at c.loop-offset.invariant.units c.requires c.unit-unit.ensures c.loop-offset.invariant.at_is c.loop-offset-test.true in
    let end : c.args.part.now.code_base + length code ≤ 2 ^ 32 = fits.2 in
    let less = c.loop-offset-test.true in
    omega (arith, end, less, length-take (at + size - at) (drop at code), length-drop at code)

pub loop-offset-preserved : goal.loop-offset-preserved
loop-offset-preserved c =
    let at = c.loop-offset.offset in
    let part = c.args.part.now in
    let size = c.unit-unit.result in
    let old = c.loop-offset.lines.items in
    let new = c.push_unit.new.out.items in
    let cut : at + size - at ≡ size = omega arith in
    let here = subst (λ n. AddsLines old new (AreUnitLines c.args.sandbox at (part.code_base + at) (take n (drop at part.code.now)))) cut c.in_ok-push_unit.ensures in
    one_unit_more c.args.sandbox (view c.args.format part) size at old new c.requires c.unit-unit.ensures c.loop-offset-test.true c.loop-offset.invariant here

pub returns : goal.returns
returns c = all_units c.args.sandbox (view c.args.format c.args.part.now) c.loop-offset.offset c.loop-offset.lines.items c.loop-offset-test.false c.loop-offset.invariant
