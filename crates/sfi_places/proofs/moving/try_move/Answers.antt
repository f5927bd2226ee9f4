use Rattle.std.proofs.Common.{◌≡◌, List, refl, length}
use Rattle.std.proofs.lemmas.Option.{slice_get_within}
use Rattle.std.proofs.lemmas.Result.{err_from_is_err_and}
use Rattle.sfi_image.specs.Spelling.{Part, spelling}
use Rattle.sfi_image.specs.Parts.{IsRightPart, IsImage}
use Rattle.sfi_image.proofs.Facts.{never_both}
use Rattle.sfi_image.proofs.Seeking.{sandbox_lies}
use Rattle.sfi_places.specs.Moving.{moved_one, moved}
use Rattle.sfi_places.specs.private.{CanMove}
use Rattle.sfi_places.proofs.Moves.{own_place, can_move, can_move_back, moved_back, right_one, the_one, written_there, written_back, lies_there, layout_there}
use Rattle.sfi_places.proofs.Renamed.{NamesThere, names_there}
use Rattle.sfi_places.proofs.moving.try_move.Goals.{Else-not-is_region, After-write_place}
use Rattle.sfi_places.proofs.moving.try_move.Goals as goal

pub returns-in_err-fields-clause-fault : goal.returns-in_err-fields-clause-fault
returns-in_err-fields-clause-fault c =
    let p = err_from_is_err_and c.from_residual.result c.from_residual.ensures.1 in
    rw (p.1, p.2) (c.in_err-fields.ensures.missing (record { code_base = c.args.code_base; data_base = c.args.data_base }))

pub returns-then-not-is_region-clause-fault : goal.returns-then-not-is_region-clause-fault
returns-then-not-is_region-clause-fault c =
    let f = c.in_ok-fields.ensures.found in
    let h = f.1 in (
      h.parts,
      h.image,
      slice_get_within h.parts c.args.number f.0 h.sandbox_is,
      λ layout.
          let there = the_one IsRightPart c.args.number (record { code_base = c.args.code_base; data_base = c.args.data_base }) h.parts f.0 h.sandbox_is layout.right.each in
          let no = c.if-not-is_region.ensures.1 (rw (c.code_most-most.ensures, f.2) there.code_placed) in
          absurd cc,
    )

-- ---- the sandbox at the place

can : (c : Else-not-is_region) → let p = c.in_ok-fields.ensures.found.0 in CanMove (own_place p) (record { code_base = c.args.code_base; data_base = c.args.data_base }) (length p.gates) p
can c =
    let f = c.in_ok-fields.ensures.found in
    let region = rw (c.code_most-most.ensures, f.2) at (c.if-not-is_region.ensures.0 refl) in
    can_move f.0 _ (right_one f.1) c.ranges.code_base.fits c.ranges.data_base.fits region

written : (c : After-write_place) → c.write_place.new.image ≡ spelling (moved_one c.args.number (record { code_base = c.args.code_base; data_base = c.args.data_base }) c.in_ok-fields.ensures.found.1.parts)
written c =
    let f = c.in_ok-fields.ensures.found in
    written_there _ _ _ f.1.sandbox_is _ _ _ _ f.1.image f.3 (c.write_place.ensures f.0 (rw (f.2) (can c.before.before)))

-- its names, where that is an image
names : (c : After-write_place) → (qs : List Part) × IsImage c.write_place.new.image qs → NamesThere c.args.image.now c.write_place.new.image c.args.number c.in_ok-fields.ensures.found.0 (record { code_base = c.args.code_base; data_base = c.args.data_base }) c.in_ok-fields.fields c.in_ok-fields.end
names c found =
    let f = c.in_ok-fields.ensures.found in
    let layout = layout_there _ f.1.image.layout _ _ f.1.sandbox_is _ _ (can c.before.before) _ found.0 (written c) found.1 in
    names_there _ _ _ f.0 f.1 _ (record { bytes_are = written c; layout = layout }) _ _ f.2 f.4

pub write_place-requires : goal.write_place-requires
write_place-requires c =
    let f = c.in_ok-fields.ensures.found in
    (f.0, rw (f.2) (can (goal.at.write_place-requires c).Else-not-is_region), rw (f.3) (sandbox_lies f.1))

pub overflow_sub-end : goal.overflow_sub-end
overflow_sub-end c = (names (goal.at.overflow_sub-end c).After-write_place c.if-is_image.ensures.image).fit

pub write_names-requires-clause-room : goal.write_names-requires-clause-room
write_names-requires-clause-room c = (names (goal.at.write_names-requires-clause-room c).After-write_place c.if-is_image.ensures.image).room

pub write_names-requires-clause-lies : goal.write_names-requires-clause-lies
write_names-requires-clause-lies c =
    let n = names (goal.at.write_names-requires-clause-lies c).After-write_place c.if-is_image.ensures.image in
    (c.in_ok-fields.ensures.found.0.init, n.lie, n.end_is)

pub returns-then-is_image-clause-moved : goal.returns-then-is_image-clause-moved
returns-then-is_image-clause-moved c =
    let n = names (goal.at.returns-then-is_image-clause-moved c).After-write_place c.if-is_image.ensures.image in
    n.moved c.write_names.new.image (c.write_names.ensures c.in_ok-fields.ensures.found.0.init n.lie n.end_is)

pub returns-clause-fault : goal.returns-clause-fault
returns-clause-fault c =
    let h = c.in_ok-fields.ensures.found.1 in
    let is = written (goal.at.returns-clause-fault c).After-write_place in
    let fault = c.if-is_image.ensures.fault in
    (h.parts, h.image, slice_get_within h.parts c.args.number _ h.sandbox_is, λ layout. never_both c.write_place.new.image _ fault.0 (record { bytes_are = is; layout = layout }) fault.1)

-- ---- and back

pub write_place-requires-2 : goal.write_place-requires-2
write_place-requires-2 c =
    let f = c.in_ok-fields.ensures.found in
    let at = goal.at.write_place-requires-2 c in
    (moved c.args.code_base c.args.data_base f.0, rw (f.2) (can_move_back f.0 _ _ (can at.Else-not-is_region)), lies_there _ _ f.0 f.1.sandbox_is _ _ _ f.3 (written at.After-write_place))

pub returns-clause-unmoved : goal.returns-clause-unmoved
returns-clause-unmoved c =
    let f = c.in_ok-fields.ensures.found in
    let at = goal.at.returns-clause-unmoved c in
    let can = can at.Else-not-is_region in
    written_back _ _ f.0 f.1.sandbox_is _ _ _ _ _ f.1.image f.3 (written at.After-write_place) _ (rw (f.2) (moved_back f.0 _ _ can))
    (c.write_place-2.ensures (moved c.args.code_base c.args.data_base f.0) (rw (f.2) (can_move_back f.0 _ _ can)))
