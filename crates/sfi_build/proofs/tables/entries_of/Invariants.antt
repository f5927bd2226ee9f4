use Rattle.sfi_link.proofs.Prelude.{◌≡◌, List, map, drop, slice_get, All}
use Rattle.sfi_names.specs.Tables.{Named, IsNamed, entries}
use Rattle.sfi_build.specs.Tables.{address_in, entries_of}
use Rattle.sfi_build.proofs.Making.{after}
use Rattle.sfi_build.proofs.tables.entries_of.Given as goal

-- some entries are written, and those of what is left follow them
abbrev pub invariant-loop-one : goal.invariant-loop-one
invariant-loop-one l =
    let address_of = address_in l.places l.sandbox (slice_get l.placed l.sandbox) in
    let texts = map (λ e. e.0) l.names in
    (es : List Named) × All IsNamed es × (l.bytes.items ≡ entries es)
    × (entries_of address_of texts l.listed ≡ after es (entries_of address_of texts (drop l.one-index l.listed)))
