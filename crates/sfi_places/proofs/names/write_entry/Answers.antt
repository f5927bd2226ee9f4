use Rattle.std.proofs.Common.{◌∙◌, ◌+◌, ◌++◌, ℕ, sym, ap, arith}
use Rattle.sfi_image.specs.Keeping.{LiesAt}
use Rattle.sfi_names.specs.Tables.{Named, entry}
use Rattle.sfi_places.specs.Moving.{address_there}
use Rattle.sfi_places.proofs.Naming.{entry_ends, entry_length, length_is, number_lies, written_there, kept_there}
use Rattle.sfi_places.proofs.names.write_entry.Goals as goal
use Rattle.sfi_places.proofs.names.write_entry.Goals.{then-image-at-ne46, else-image-at-ne46}

pub bounds-image-at : goal.bounds-image-at
bounds-image-at c =
    let l = c.requires.lies in
    omega (arith, entry_ends c.args.image.now c.args.at l.0 l.2, entry_length c.args.image.now c.args.at l.0 l.2)

pub bounds-image-at-2 : goal.bounds-image-at-2
bounds-image-at-2 c =
    let l = c.requires.lies in
    let some = l.1.name.at_least in
    omega (arith, some, entry_ends c.args.image.now c.args.at l.0 l.2, entry_length c.args.image.now c.args.at l.0 l.2)

pub read_number-address-requires : goal.read_number-address-requires
read_number-address-requires c =
    let l = c.requires.lies in
    (l.0.address, l.1.address, number_lies c.args.image.now c.args.at l.0 l.2)

pub write_number-requires : goal.write_number-requires
write_number-requires c =
    let l = c.requires.lies in
    (l.0.address, number_lies c.args.image.now c.args.at l.0 l.2)

pub returns-clause-len : goal.returns-clause-len
returns-clause-len c = λ e named lies.
    ap (λ (n : ℕ). 5 + n) (length_is c.args.image.now c.args.at e lies) ∙ sym (entry_length c.args.image.now c.args.at e lies)

pub returns-clause-written : goal.returns-clause-written
returns-clause-written c = λ e named before after offset are.
    let lies : LiesAt c.args.image.now c.args.at (entry e) = record { before = before; after = after; bytes_are = are; offset_is = offset } in
    elim c.if-image-at-ne46.branch [
      | then-image-at-ne46 w ↦ w.image-is
          ∙ written_there c.args.fields.now c.args.to c.args.image.now w.write_number.new.image c.args.at w.address_there.result e named lies w.if-image-at-ne46.true
          (w.address_there.ensures ∙ ap (address_there c.args.fields.now c.args.to) (w.read_number-address.ensures e.address named.address (number_lies c.args.image.now c.args.at e lies)))
          (w.write_number.ensures e.address) before after offset are
      | else-image-at-ne46 w ↦ w.image-is ∙ are
          ∙ ap (λ (x : Named). before ++ (entry x ++ after)) (sym (kept_there c.args.fields.now c.args.to c.args.image.now c.args.at e named lies w.if-image-at-ne46.false))
    ]
