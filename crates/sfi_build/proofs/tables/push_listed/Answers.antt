use Rattle.sfi_link.proofs.Prelude.{◌≡◌, ◌∙◌, sym, ap, Some, map, slice_get}
use Rattle.std.proofs.Common.{rules}
use Rattle.std.specs.Option.{option_copied}
use Rattle.sfi_image.specs.Spelling.{IsWord}
use Rattle.sfi_names.specs.Tables.{Named}
use Rattle.sfi_build.specs.Tables.{address_in, entry_with}
use Rattle.sfi_build.proofs.Fitting.{at_place, label_named}
use Rattle.sfi_build.proofs.Making.{names_short}
use Rattle.sfi_build.proofs.tables.push_listed.Goals as goal

pub push-requires : goal.push-requires
push-requires c =
    let f = address_in c.args.places.now c.args.sandbox (slice_get c.args.placed.now c.args.sandbox) in
    let texts = map (λ e. e.0) c.args.names.now in
    let place = c.args.one.now.name in
    let name = c.as_bytes.result.now in
    let at : slice_get texts place ≡ Some name =
    sym c.text-name.ensures ∙ ap option_copied c.in-Some-Some.is-0 ∙ ap (λ n. Some n) (sym c.as_bytes.ensures.value) in
    let right = label_named name (at_place texts place name (names_short c.args.names.now c.requires.names) at) in
    right

pub returns-clause-pushed : goal.returns-clause-pushed
returns-clause-pushed c =
    let f = address_in c.args.places.now c.args.sandbox (slice_get c.args.placed.now c.args.sandbox) in
    let texts = map (λ e. e.0) c.args.names.now in
    let place = c.args.one.now.name in
    let name = c.as_bytes.result.now in
    let at : slice_get texts place ≡ Some name =
    sym c.text-name.ensures ∙ ap option_copied c.in-Some-Some.is-0 ∙ ap (λ n. Some n) (sym c.as_bytes.ensures.value) in
    let right = label_named name (at_place texts place name (names_short c.args.names.now c.requires.names) at) in
    let to : f place ≡ Some c.in-Some-Some.address = sym c.placed_address-address.ensures ∙ c.in-Some-Some.is-1 in
    let e : Named = record { address = c.in-Some-Some.address; name = name } in
    let is : entry_with (slice_get texts place) (f place) ≡ Some e = λ i. entry_with (at i) (to i) in
    let word : IsWord c.in-Some-Some.address = search rules in
    (e, record { address = word; name = right }, is, c.in_ok-push.ensures)
