use Rattle.sfi_scan.proofs.WordMarks.{left_seen, stays_in}
use Rattle.sfi_scan.proofs.words.block.doubtful_words.Goals as goal

pub used_steps-requires-clause-words : goal.used_steps-requires-clause-words
used_steps-requires-clause-words c i lt h = c.requires.words i lt (stays_in c.args.words _ c.bits_without-others.result i c.bits_without-others.ensures lt h)

pub clean_jumps-requires-clause-words : goal.clean_jumps-requires-clause-words
clean_jumps-requires-clause-words c i lt h =
    c.requires.words i lt (stays_in c.args.words _ c.bits_without-others.result i c.bits_without-others.ensures lt
    (stays_in c.bits_without-others.result c.used_steps.result c.bits_without-rest.result i c.bits_without-rest.ensures lt h))

pub returns-clause-words : goal.returns-clause-words
returns-clause-words c i lt h =
    c.requires.words i lt (stays_in c.args.words _ c.bits_without-others.result i c.bits_without-others.ensures lt
    (stays_in c.bits_without-others.result c.used_steps.result c.bits_without-rest.result i c.bits_without-rest.ensures lt
    (stays_in c.bits_without-rest.result c.clean_jumps.result c.bits_without.result i c.bits_without.ensures lt h)))

pub returns-clause-others : goal.returns-clause-others
returns-clause-others c =
    left_seen c.args.place.now c.args.block.now c.args.words c.pairs_in-pairs.result c.bits_without-others.result c.used_steps.result c.bits_without-rest.result c.clean_jumps.result c.bits_without.result
    c.requires.within c.told-block c.requires.quiet c.bits_without-others.ensures c.bits_without-rest.ensures c.bits_without.ensures
    c.pairs_in-pairs.ensures c.used_steps.ensures.stepped c.used_steps.ensures.apart c.clean_jumps.ensures
