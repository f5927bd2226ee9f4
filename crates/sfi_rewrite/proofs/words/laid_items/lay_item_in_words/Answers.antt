use Rattle.sfi_rewrite.proofs.WordItems.{begun_room, item_laid, item_refused}
use Rattle.sfi_rewrite.proofs.words.laid_items.lay_item_in_words.Goals as goal

pub fill_slots-requires : goal.fill_slots-requires
fill_slots-requires c = begun_room c.args.format c.args.item.now.labelled c.args.code.now c.end_before.new.code c.requires c.in_ok-end_before.ensures

pub returns-clause-laid : goal.returns-clause-laid
returns-clause-laid c =
    item_laid c.args.format c.fill_slots.result c.args.item.now c.args.later.now c.args.code.now c.end_before.new.code c.fill_slots.new.code c.expand_in_words-expansion.result c.slots.result.now
    c.expand_in_words-expansion.ensures c.slots.ensures.slots c.in_ok-end_before.ensures c.fill_slots.ensures.pushed

pub returns-clause-refused : goal.returns-clause-refused
returns-clause-refused c =
    item_refused c.args.format c.fill_slots.result c.args.sandbox c.args.item.now c.args.later.now c.args.code.now c.end_before.new.code c.expand_in_words-expansion.result c.slots.result.now
    c.expand_in_words-expansion.ensures c.slots.ensures.slots c.in_ok-end_before.ensures c.fill_slots.ensures.refused
