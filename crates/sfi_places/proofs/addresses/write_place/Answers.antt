use Rattle.std.proofs.Common.{◌∙◌, ℕ, List, ◌++◌, ap}
use Rattle.sfi_places.proofs.Placing.{code_lies, one, data_lies, two, start_lies, three, gates_lie, four, placed}
use Rattle.sfi_places.proofs.addresses.write_place.Goals as goal

pub write_address-requires : goal.write_address-requires
write_address-requires c =
    let p = c.requires.0 in
    let lies = c.requires.2 in
    (p.code_base, c.requires.1.code, code_lies p c.args.from.code_base c.args.from.data_base c.args.to.code_base c.args.to.data_base c.args.offset lies.before lies.after lies.offset_is c.args.image.now lies.bytes_are)

pub write_address-requires-2 : goal.write_address-requires-2
write_address-requires-2 c =
    let p = c.requires.0 in
    let can = c.requires.1 in
    let lies = c.requires.2 in
    let first = one p c.args.from.code_base c.args.from.data_base c.args.to.code_base c.args.to.data_base c.args.offset lies.before lies.after lies.offset_is c.args.image.now lies.bytes_are c.write_address.new.image (c.write_address.ensures p.code_base can.code) in
    (p.data_base, can.data_goes, data_lies p c.args.from.code_base c.args.from.data_base c.args.to.code_base c.args.to.data_base c.args.offset lies.before lies.after lies.offset_is c.write_address.new.image first)

pub write_address-requires-3 : goal.write_address-requires-3
write_address-requires-3 c =
    let p = c.requires.0 in
    let can = c.requires.1 in
    let lies = c.requires.2 in
    let first = one p c.args.from.code_base c.args.from.data_base c.args.to.code_base c.args.to.data_base c.args.offset lies.before lies.after lies.offset_is c.args.image.now lies.bytes_are c.write_address.new.image (c.write_address.ensures p.code_base can.code) in
    let second = two p c.args.from.code_base c.args.from.data_base c.args.to.code_base c.args.to.data_base c.args.offset lies.before lies.after lies.offset_is c.write_address.new.image first c.write_address-2.new.image (c.write_address-2.ensures p.data_base can.data_goes) in
    (p.start, can.start, start_lies p c.args.from.code_base c.args.from.data_base c.args.to.code_base c.args.to.data_base c.args.offset lies.before lies.after lies.offset_is c.write_address-2.new.image second)

pub move_gates-requires : goal.move_gates-requires
move_gates-requires c =
    let p = c.requires.0 in
    let can = c.requires.1 in
    let lies = c.requires.2 in
    let first = one p c.args.from.code_base c.args.from.data_base c.args.to.code_base c.args.to.data_base c.args.offset lies.before lies.after lies.offset_is c.args.image.now lies.bytes_are c.write_address.new.image (c.write_address.ensures p.code_base can.code) in
    let second = two p c.args.from.code_base c.args.from.data_base c.args.to.code_base c.args.to.data_base c.args.offset lies.before lies.after lies.offset_is c.write_address.new.image first c.write_address-2.new.image (c.write_address-2.ensures p.data_base can.data_goes) in
    let third = three p c.args.from.code_base c.args.from.data_base c.args.to.code_base c.args.to.data_base c.args.offset lies.before lies.after lies.offset_is c.write_address-2.new.image second c.write_address-3.new.image (c.write_address-3.ensures p.start can.start) in
    (p.gates, can.count_is, can.gates, gates_lie p c.args.from.code_base c.args.from.data_base c.args.to.code_base c.args.to.data_base c.args.offset lies.before lies.after lies.offset_is c.write_address-3.new.image third)

pub returns : goal.returns
returns c = λ p can before after e is.
    let first = one p c.args.from.code_base c.args.from.data_base c.args.to.code_base c.args.to.data_base c.args.offset before after e c.args.image.now is c.write_address.new.image (c.write_address.ensures p.code_base can.code) in
    let second = two p c.args.from.code_base c.args.from.data_base c.args.to.code_base c.args.to.data_base c.args.offset before after e c.write_address.new.image first c.write_address-2.new.image (c.write_address-2.ensures p.data_base can.data_goes) in
    let third = three p c.args.from.code_base c.args.from.data_base c.args.to.code_base c.args.to.data_base c.args.offset before after e c.write_address-2.new.image second c.write_address-3.new.image (c.write_address-3.ensures p.start can.start) in
    four p c.args.from.code_base c.args.from.data_base c.args.to.code_base c.args.to.data_base c.args.offset before after e c.write_address-3.new.image third c.move_gates.new.image (c.move_gates.ensures p.gates can.count_is can.gates)
    ∙ ap (λ (l : List ℕ). before ++ l) (placed p c.args.from.code_base c.args.from.data_base c.args.to.code_base c.args.to.data_base c.args.offset before after e can.code_is can.data_is)
