use Rattle.std.proofs.Common.{◌∙◌, ℕ, ◌+◌, ◌-◌, ◌++◌, ap, arith}
use Rattle.sfi_image.specs.Spelling.{number}
use Rattle.sfi_places.proofs.addresses.write_address.Goals as goal

pub read_number-address-requires : goal.read_number-address-requires
read_number-address-requires c = (c.requires.0, c.requires.1.here, c.requires.2)

pub overflow_sub-address : goal.overflow_sub-address
overflow_sub-address c =
    let low = c.requires.1.above in
    let same = c.read_number-address.ensures c.requires.0 c.requires.1.here c.requires.2 in
    omega (arith, low, same)

pub overflow_add-to : goal.overflow_add-to
overflow_add-to c =
    let there = c.requires.1.there in
    let same = c.read_number-address.ensures c.requires.0 c.requires.1.here c.requires.2 in
    omega (arith, there, same)

pub write_number-requires : goal.write_number-requires
write_number-requires c = (c.requires.0, c.requires.2)

pub returns : goal.returns
returns c = λ at go before after e is.
    let same = c.read_number-address.ensures at go.here (record { before = before; after = after; bytes_are = is; offset_is = e }) in
    c.write_number.ensures at before after e is ∙ ap (λ (k : ℕ). before ++ (number (c.args.to + (k - c.args.from)) ++ after)) same
