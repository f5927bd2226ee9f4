use Rattle.sfi_link.proofs.Prelude.{◌≡◌, inl, length, refl, sym, subst, arith, repeat, OnTrue_at, OnFalse_at, err_from_is_err_and, HasRoom, IsCodeSize, LiesBeside, ends_in, needed, place_of, stub_of}
use Rattle.sfi_link.proofs.Parts.{start_fits}
use Rattle.sfi_link.proofs.Linking.{stubs_pushed, near_of, code_room, place_refused, may_lie, part_refused, code_beside, written_within, linked_code}
use Rattle.sfi_link.proofs.code_region.linked_code.Goals.{In-Some, Else-not-branch, In_ok-push_copies}
use Rattle.sfi_link.proofs.code_region.linked_code.Goals as goal

sized : (c : In-Some) → IsCodeSize c.args.part.now.format (needed c.args.part.now) c.in-Some.size
sized c = rw (c.needed.ensures, c.format-format.ensures) at c.in-Some.ensures.least

lies : (c : Else-not-branch) → let p = c.args.part.now in let old = c.args.spans.now.items in
    LiesBeside p c.in-Some.size (place_of c.args.given.now p.format c.args.number) (ends_in p.format old) old c.lies_beside.new.spans.items
lies c = rw (c.place_of.ensures.is, c.format-format.ensures) at (OnTrue_at c.if-not-branch.false c.in_ok-lies_beside.ensures.lies)

stubs : (c : In_ok-push_copies) → c.push_copies.new.code.items ≡ repeat (length c.args.part.now.gates) (stub_of c.args.part.now.format)
stubs c = stubs_pushed c.args.part.now _ _ _ _ _ c.in_ok-push_copies.ensures c.in_ok-code.ensures.items c.gates.ensures c.stub_of.ensures c.format-format.ensures

pub returns-in_default : goal.returns-in_default
returns-in_default c =
    inl (λ size h. c.in_default.ensures.none size (subst (λ f. HasRoom f c.needed.result size) (sym c.format-format.ensures) (subst (λ n. HasRoom c.args.part.now.format n size) (sym c.needed.ensures) h)), refl)

pub returns-then-not-branch : goal.returns-then-not-branch
returns-then-not-branch c =
    let wrong = rw (c.place_of.ensures.is, c.format-format.ensures) at (OnFalse_at c.if-not-branch.true c.in_ok-lies_beside.ensures.wrong) in
    place_refused c.args.given.now c.args.number c.args.part.now c.in-Some.size _ c.args.spans.now.items (sized (goal.at.returns-then-not-branch c).In-Some) wrong

pub bases_of-at-requires-clause-fits : goal.bases_of-at-requires-clause-fits
bases_of-at-requires-clause-fits c =
    let at = goal.at.bases_of-at-requires-clause-fits c in
    start_fits c.args.given.now c.args.number _ _ (sized at.In-Some).has_room (lies at.Else-not-branch).right

pub push_bundles-requires-clause-near : goal.push_bundles-requires-clause-near
push_bundles-requires-clause-near c =
    let at = goal.at.push_bundles-requires-clause-near c in
    rw (c.names.ensures, c.bases_of-at.ensures.is) (near_of c.args.given.now c.args.number _ _ c.requires.right (sized at.In-Some).has_room (lies at.Else-not-branch).right)

pub push_bundles-requires-clause-room : goal.push_bundles-requires-clause-room
push_bundles-requires-clause-room c =
    let at = goal.at.push_bundles-requires-clause-room c in
    rw c.bundles.ensures (code_room c.args.given.now c.args.number c.args.part.now _ _ _ (sized at.In-Some).has_room (lies at.Else-not-branch).right c.bases_of-at.ensures.is (stubs at.In_ok-push_copies))

pub returns-in_err-push_bundles : goal.returns-in_err-push_bundles
returns-in_err-push_bundles c =
    let at = goal.at.returns-in_err-push_bundles c in
    let e = err_from_is_err_and c.from_residual-in_err-push_bundles.result c.from_residual-in_err-push_bundles.ensures.1 in
    let h = rw (c.names.ensures, c.bundles.ensures) at c.in_err-push_bundles.ensures in
    let may = may_lie c.args.given.now c.args.number c.args.part.now c.in-Some.size _ _ _ (sized at.In-Some) (lies at.Else-not-branch) in
    rw (e.1, e.2) (part_refused c.args.given.now c.args.number c.args.part.now _ _ c.bases_of-at.result c.push_copies.new.code.items c.in_err-push_bundles.field-0.0 c.bases_of-at.ensures.is may (stubs at.In_ok-push_copies) h)

pub overflow_sub-fill : goal.overflow_sub-fill
overflow_sub-fill c =
    let at = goal.at.overflow_sub-fill c in
    let w = rw (c.names.ensures, c.bundles.ensures) at c.in_ok-push_bundles.ensures in
    let h = written_within c.args.part.now c.bases_of-at.result c.in-Some.size c.push_copies.new.code.items c.push_bundles.new.code.items (sized at.In-Some) (stubs at.In_ok-push_copies) w in
    omega arith

pub returns : goal.returns
returns c =
    let at = goal.at.returns c in
    let w = rw (c.names.ensures, c.bundles.ensures) at c.in_ok-push_bundles.ensures in
    let sized = sized at.In-Some in
    let made = linked_code c.args.given.now c.args.number c.args.part.now c.bases_of-at.result c.in-Some.size _ c.push_copies.new.code.items c.push_bundles.new.code.items c.push_copies-2.new.code.items c.bases_of-at.ensures.is sized (stubs at.In_ok-push_copies) w
    (omega arith) c.in_ok-push_copies-2.ensures in
    code_beside c.args.given.now c.args.number c.args.part.now _ c.in-Some.size _ _ _ sized made (lies at.Else-not-branch)
