use Rattle.sfi_scan.proofs.Prelude.{Bool, inl, subst, arith, OnTrue_at}
use Rattle.sfi_masks.specs.Masks.{word_at, may_write_in_words, may_be_on_in_words, IsFreeWordBy}
use Rattle.sfi_scan.proofs.Marks.{in_rest, in_rest_other}
use Rattle.sfi_scan.proofs.WordMarks.{all_seen, told_or_mask}
use Rattle.sfi_scan.proofs.words.block.look_at_block.Goals as goal

pub doubtful_words-left-requires-clause-words : goal.doubtful_words-left-requires-clause-words
doubtful_words-left-requires-clause-words g c i lt h = c.not_free.ensures.words i lt (c.without_single_masks-words.ensures.words i lt h)

pub doubtful_words-left-requires-clause-quiet : goal.doubtful_words-left-requires-clause-quiet
doubtful_words-left-requires-clause-quiet g c n lt none =
    let m = c.word_masks_of-masks in
    told_or_mask c.args.place.now c.requires.within _ c.requires.single c.args.block.now m.result c.not_free.result c.without_single_masks-words.result n c.told-block m.ensures
    c.without_single_masks-words.ensures.masks c.not_free.ensures.free lt none

pub doubtful_words-left-requires-clause-free : goal.doubtful_words-left-requires-clause-free
doubtful_words-left-requires-clause-free g c i lt even h =
    let m = c.word_masks_of-masks.result in
    subst (λ (s : Bool). IsFreeWordBy may_write_in_words (may_be_on_in_words s) (word_at c.args.block.now i)) c.requires.single
    (c.word_masks_of-masks.ensures.word i (omega (arith, even)) lt (in_rest m.free m.long i h) (in_rest_other m.free m.long i h))

pub returns-then-is_nothing : goal.returns-then-is_nothing
returns-then-is_nothing g c =
    let m = c.word_masks_of-masks in
    all_seen c.args.place.now c.args.block.now c.args.owed c.without_single_masks-words.result c.args.from c.requires.inside c.requires.within
    (λ n lt none. inl (told_or_mask c.args.place.now c.requires.within _ c.requires.single c.args.block.now m.result c.not_free.result c.without_single_masks-words.result n c.told-block m.ensures
    c.without_single_masks-words.ensures.masks c.not_free.ensures.free lt none))
    c.if-words-eq0.true (OnTrue_at c.if-is_nothing.true c.is_nothing.ensures)
