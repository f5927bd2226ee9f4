use Rattle.sfi_link.proofs.Prelude.{◌≡◌, ◌+◌, ◌<◌, ◌≤◌, ◌++◌, ◌∙◌, sym, ap, subst, refl, Ok, inl, inr, length, map, slice_get, arith, cases_lt, err_from_is_err_and, ◌^◌}
use Rattle.std.proofs.lemmas.Bool.{false≢true}
use Rattle.std.proofs.Common.{rules}
use Rattle.std.specs.Prelude.{IfErr}
use Rattle.sfi_names.specs.Tables.{IsNamesOf, entries, spelling}
use Rattle.sfi_build.specs.Tables.{address_in, entries_of, room_of, tail_of}
use Rattle.sfi_build.specs.private.{IsTableStop}
use Rattle.sfi_build.specs.declared.table_fault.TableFault.TheVariants.{NoRoom}
use Rattle.sfi_build.proofs.Fitting.{length_spelling}
use Rattle.sfi_build.proofs.Making.{carried, table_with, wrong_import, full, fits, is_table}
use Rattle.sfi_build.proofs.tables.init_with_table.Goals.{In_ok-exports, After-deref-2, After-deref-4}
use Rattle.sfi_build.proofs.tables.init_with_table.Goals as goal

-- ---- what is listed

exports : (c : In_ok-exports) → entries_of (address_in c.args.places.now c.args.sandbox (slice_get c.args.placed.now c.args.sandbox)) (map (λ e. e.0) c.args.part.now.names) c.args.shared.now.exports ≡ Ok c.in_ok-exports.ensures.entries.0
exports c =
    let f = address_in c.args.places.now c.args.sandbox (slice_get c.args.placed.now c.args.sandbox) in
    let listed : c.deref.result.now ≡ c.args.shared.now.exports = search rules in
    (λ i. entries_of f (map (λ e. e.0) (sym c.names-names.ensures i)) (sym listed i)) ∙ c.in_ok-exports.ensures.entries.3

-- the imports that are due are those of what is read
imports_due : (c : After-deref-2) → let f = address_in c.args.places.now c.args.sandbox (slice_get c.args.placed.now c.args.sandbox) in
    entries_of f (map (λ e. e.0) c.args.part.now.names) c.args.shared.now.imports ≡ entries_of f (map (λ e. e.0) c.names-names.result.now) c.deref-2.result.now
imports_due c =
    let listed : c.deref-2.result.now ≡ c.args.shared.now.imports = search rules in
    λ i. entries_of (address_in c.args.places.now c.args.sandbox (slice_get c.args.placed.now c.args.sandbox)) (map (λ e. e.0) (sym c.names-names.ensures i)) (sym listed i)

-- a table has room for both
names_of_both : (c : After-deref-4) → IsNamesOf (record { version = 0; exports = c.deref-3.result; imports = c.deref-4.result }) (table_with c.in_ok-exports.ensures.entries.0 c.in_ok-imports.ensures.entries.0)
names_of_both c =
    let (es, all_es, es_are, exports) = c.in_ok-exports.ensures.entries in
    let (fs, all_fs, fs_are, imports) = c.in_ok-imports.ensures.entries in
    let room = c.if-not-has_room.ensures.0 refl in
    let small = c.requires.right.data_size.at_most in
    let few : length (entries es) + length (entries fs) < 2 ^ 32 = omega (arith, room, small, ap length es_are, ap length fs_are, c.data_size.ensures) in
    record { table = is_table es fs all_es all_fs few; version_is = refl; exports_are = c.deref-3.ensures.value ∙ es_are; imports_are = c.deref-4.ensures.value ∙ fs_are }

-- ---- what comes of it

pub returns-in_err-imports-clause-fault : goal.returns-in_err-imports-clause-fault
returns-in_err-imports-clause-fault c =
    let at = goal.at.returns-in_err-imports-clause-fault c in
    let k = c.args.sandbox in
    let shared = c.args.shared.now in
    let s = c.args.part.now in
    let f = address_in c.args.places.now k (slice_get c.args.placed.now k) in
    let p = err_from_is_err_and c.from_residual-in_err-imports.result c.from_residual-in_err-imports.ensures.1 in
    let stop : IsTableStop (tail_of f k shared s) c.in_err-imports.field-0.0 =
    carried _ (tail_of f k shared s) c.in_err-imports.field-0.0 (λ g wrong. wrong_import f k shared s (sym c.if-is_unlisted.ensures) _ g (exports at.In_ok-exports) (imports_due at.After-deref-2 ∙ wrong)) c.in_err-imports.ensures.fault in
    subst (λ r. IfErr r (IsTableStop (tail_of f k shared s))) (sym p.1) (subst (IsTableStop (tail_of f k shared s)) (let same = p.2 in cc) stop)

pub returns-then-not-has_room-clause-fault : goal.returns-then-not-has_room-clause-fault
returns-then-not-has_room-clause-fault c =
    let at = goal.at.returns-then-not-has_room-clause-fault c in
    let k = c.args.sandbox in
    let s = c.args.part.now in
    let (es, all_es, es_are, own) = c.in_ok-exports.ensures.entries in
    let (fs, all_fs, fs_are, own_too) = c.in_ok-imports.ensures.entries in
    let count = length_spelling (table_with es fs) in
    elim (cases_lt (room_of s) (length (spelling (table_with es fs)))) [
      | inl more ↦ inr (NoRoom k, refl, full _ k c.args.shared.now s (sym c.if-is_unlisted.ensures) es fs (exports at.In_ok-exports) (imports_due at.After-deref-2 ∙ own_too) more)
      | inr le ↦ absurd (false≢true (c.if-not-has_room.ensures.1 (omega (arith, le, count, ap length es_are, ap length fs_are, ap length c.bytes-2.ensures, c.data_size.ensures, c.len.ensures, c.len-2.ensures))))
    ]

pub push-requires : goal.push-requires
push-requires c = (table_with c.in_ok-exports.ensures.entries.0 c.in_ok-imports.ensures.entries.0, names_of_both (goal.at.push-requires c).After-deref-4)

pub returns-clause-init : goal.returns-clause-init
returns-clause-init c =
    let at = goal.at.returns-clause-init c in
    let s = c.args.part.now in
    let (es, all_es, es_are, exports_own) = c.in_ok-exports.ensures.entries in
    let (fs, all_fs, fs_are, imports_own) = c.in_ok-imports.ensures.entries in
    let t = table_with es fs in
    let count = length_spelling t in
    let room = c.if-not-has_room.ensures.0 refl in
    let written : c.push.new.bytes.items ≡ c.extend_from_slice.new.self.items ++ spelling t = c.in_ok-push.ensures t (names_of_both at.After-deref-4) in
    let first : c.extend_from_slice.new.self.items ≡ s.bytes = search rules in
    let enough : length (spelling t) ≤ room_of s = omega (arith, room, count, ap length es_are, ap length fs_are, ap length c.bytes-2.ensures, c.data_size.ensures, c.len.ensures, c.len-2.ensures) in
    (spelling t, written ∙ ap (λ b. b ++ spelling t) first, fits _ c.args.sandbox c.args.shared.now s (sym c.if-is_unlisted.ensures) es fs (exports at.In_ok-exports) (imports_due at.After-deref-2 ∙ imports_own) enough)
