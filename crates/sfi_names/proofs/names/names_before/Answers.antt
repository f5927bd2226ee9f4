use Rattle.std.proofs.Common.{◌≡◌, refl, true}
use Rattle.sfi_names.proofs.Ends.{no_footer, no_imports, no_exports, wrong_exports, wrong_imports, found, IsCut, IsCutIn, joined}
use Rattle.sfi_names.proofs.names.names_before.Goals.{In_ok-footer, In_ok-exports}
use Rattle.sfi_names.proofs.names.names_before.Goals as goal

cut : (c : In_ok-footer) → let f = c.in_ok-footer.footer in IsCut c.args.bytes.now f.before.now f.version f.exports_bytes f.imports_bytes
cut c =
    let words = c.in_ok-footer.ensures.words in
    record { bytes_are = c.in_ok-footer.ensures.found; version = words.0; exports = words.1; imports = words.2 }

parts : (c : In_ok-exports) → let f = c.in_ok-footer.footer in
    IsCutIn f.before.now c.in_ok-exports.field-0-0.now c.in_ok-exports.exports.now c.in_ok-before.imports.now f.exports_bytes f.imports_bytes
parts c = joined _ _ _ _ _ _ _ c.in_ok-before.ensures.found c.in_ok-exports.ensures.found

pub returns-in_err-footer-clause-none : goal.returns-in_err-footer-clause-none
returns-in_err-footer-clause-none c = rw (c.from_residual.ensures) (no_footer c.args.bytes.now c.in_err-footer.ensures.none)

pub returns-in_err-before-clause-none : goal.returns-in_err-before-clause-none
returns-in_err-before-clause-none c =
    let at = goal.at.returns-in_err-before-clause-none c in
    rw (c.from_residual-in_err-before.ensures) (no_imports _ _ _ _ _ (cut at.In_ok-footer) c.in_err-before.ensures.none)

pub returns-in_err-exports-clause-none : goal.returns-in_err-exports-clause-none
returns-in_err-exports-clause-none c =
    let at = goal.at.returns-in_err-exports-clause-none c in
    let imports = c.in_ok-before.ensures.found in
    rw (c.from_residual-in_err-exports.ensures) (no_exports _ _ _ _ _ (cut at.In_ok-footer) c.in_ok-before.before.now c.in_ok-before.imports.now imports.0 imports.1 c.in_err-exports.ensures.none)

pub returns-then-not-are_name_entries-clause-none : goal.returns-then-not-are_name_entries-clause-none
returns-then-not-are_name_entries-clause-none c =
    let at = goal.at.returns-then-not-are_name_entries-clause-none c in
    wrong_exports _ _ _ _ _ (cut at.In_ok-footer) _ _ _ (parts at.In_ok-exports)
    (λ are. let yes : c.are_name_entries.result ≡ true = c.are_name_entries.ensures.1 are in let no = c.if-not-are_name_entries.true in absurd cc)

pub returns-then-not-are_name_entries-2-clause-none : goal.returns-then-not-are_name_entries-2-clause-none
returns-then-not-are_name_entries-2-clause-none c =
    let at = goal.at.returns-then-not-are_name_entries-2-clause-none c in
    wrong_imports _ _ _ _ _ (cut at.In_ok-footer) _ _ _ (parts at.In_ok-exports)
    (λ are. let yes : c.are_name_entries-2.result ≡ true = c.are_name_entries-2.ensures.1 are in let no = c.if-not-are_name_entries-2.true in absurd cc)

pub returns-clause-found : goal.returns-clause-found
returns-clause-found c =
    let at = goal.at.returns-clause-found c in
    found _ _ _ _ _ (cut at.In_ok-footer) _ _ _ (parts at.In_ok-exports) _ refl refl refl
    (c.are_name_entries.ensures.0 c.if-not-are_name_entries.false) (c.are_name_entries-2.ensures.0 c.if-not-are_name_entries-2.false)
