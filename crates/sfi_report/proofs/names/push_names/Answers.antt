use Rattle.sfi_report.proofs.Prelude.{◌≡◌, ◌++◌, ◌∙◌, ap, ℕ, string_bytes, on_ok_weaker}
use Rattle.sfi_report.specs.Listing.{interface_line}
use Rattle.sfi_report.proofs.Lines.{no_table, whole_table}
use Rattle.sfi_report.proofs.names.push_names.Goals as goal

pub returns-in_default : goal.returns-in_default
returns-in_default c = no_table c.args.init.now (string_bytes c.args.out.now) c.in_default.ensures.only_found

pub returns : goal.returns
returns c =
    let old = string_bytes c.args.out.now in
    let found = c.in-Ok.ensures.found in
    let names = found.2 in
    let first : string_bytes c.push_interface_line.new.out ≡ old ++ interface_line found.0.version =
    c.in_ok-push_interface_line.ensures ∙ ap (λ (n : ℕ). old ++ interface_line n) names.version_is in
    let exports = c.in_ok-push_entries.ensures found.0.exports names.table.exports names.exports_are in
    on_ok_weaker c.push_entries-2.result
    (λ imports. whole_table c.args.init.now old (string_bytes c.push_interface_line.new.out) (string_bytes c.push_entries.new.out) (string_bytes c.push_entries-2.new.out) found.0 found.1 first exports imports)
    (c.push_entries-2.ensures found.0.imports names.table.imports names.imports_are)
