use Rattle.sfi_scan.proofs.Prelude.{◌+◌, ◌-◌, ◌/◌, List, Bool, false, [], length, refl, sym, subst, arith, BundlePlace, Finding, view, bundle_place, Nothing, AreFoundUpTo}
use Rattle.std.proofs.Common.{Result, Ok, Err}
use Rattle.std.specs.Prelude.{IfOk}
use Rattle.sfi_rules.proofs.Facts.{all_found}
use Rattle.sfi_scan.proofs.Gates.{IsAtGate, at_first, at_next, next_end, next_found, next_gate, next_stretch}
use Rattle.sfi_scan.proofs.part.scan_part_as.Goals as goal

pub loop-gate-init : goal.loop-gate-init
loop-gate-init c =
    let p = view c.args.format c.args.part.now in
    let place : BundlePlace = record (bundle_place c.args.sandbox p 0) { address = c.args.part.now.code_base; listed = false } in
    subst (λ (l : List Finding). IsAtGate c.args.sandbox p 0 place 0 l Nothing c.new-found.result.lacks_memory) (sym c.new-found.ensures.empty)
    (subst (λ (b : Bool). IsAtGate c.args.sandbox p 0 place 0 [] Nothing b) (sym c.new-found.ensures.memory) (at_first c.args.sandbox p c.requires))

pub slice_bounds-scan_stretch-count : goal.slice_bounds-scan_stretch-count
slice_bounds-scan_stretch-count c = let gate = next_gate c.requires c.loop-gate.invariant c.deref-gate-items.ensures.value c.loop-gate-test.true in let low = gate.low in let high = gate.high in omega arith

pub overflow_sub-end : goal.overflow_sub-end
overflow_sub-end c = let gate = next_gate c.requires c.loop-gate.invariant c.deref-gate-items.ensures.value c.loop-gate-test.true in let low = gate.low in omega arith

pub slice_bounds-scan_stretch-start : goal.slice_bounds-scan_stretch-start
slice_bounds-scan_stretch-start c = let gate = next_gate c.requires c.loop-gate.invariant c.deref-gate-items.ensures.value c.loop-gate-test.true in let low = gate.low in omega arith

pub scan_stretch-owed-requires : goal.scan_stretch-owed-requires
scan_stretch-owed-requires c =
    let gate = next_gate c.requires c.loop-gate.invariant c.deref-gate-items.ensures.value c.loop-gate-test.true in
    (_, next_stretch c.requires c.loop-gate.invariant gate.next)

pub loop-gate-preserved : goal.loop-gate-preserved
loop-gate-preserved c =
    let same = c.deref-gate-items.ensures.value in
    let gate = next_gate c.requires c.loop-gate.invariant same c.loop-gate-test.true in
    let scanned = c.scan_stretch-owed.ensures _ (next_stretch c.requires c.loop-gate.invariant gate.next) in
    at_next c.requires c.loop-gate.invariant same scanned.found c.loop-gate-test.true refl refl refl scanned.found_are scanned.handed

pub scan_stretch-requires : goal.scan_stretch-requires
scan_stretch-requires c = (_, next_stretch c.requires c.loop-gate.invariant (next_end c.requires c.loop-gate.invariant c.deref-gate-items.ensures.value c.loop-gate-test.false))

pub returns : goal.returns
returns c =
    let p = view c.args.format c.args.part.now in
    let inv = c.loop-gate.invariant in
    let next = next_end c.requires inv c.deref-gate-items.ensures.value c.loop-gate-test.false in
    let n = (length p.code - c.loop-gate.at) / 16 in
    let scanned = c.scan_stretch.ensures n (next_stretch c.requires inv next) in
    let at_is = inv.at_is in
    let end_is = next.end_is in
    if_ok c.into_result.result (λ v old. all_found c.args.sandbox p (inv.bundles + n) v.items c.scan_stretch.result (omega arith)
    (subst (λ (l : List Finding). AreFoundUpTo c.args.sandbox p (inv.bundles + n) l c.scan_stretch.result) (sym old.1) (next_found c.requires inv next scanned.found c.scan_stretch.result scanned.found_are scanned.handed old.0))) c.into_result.ensures
  where
    if_ok : {X E : Type 0} (r : Result X E) {P Q : X → Type 0} → ((x : X) → P x → Q x) → IfOk r P → IfOk r Q
    if_ok (Ok x) f h = f x h
    if_ok (Err e) f h = tt
