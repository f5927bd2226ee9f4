use Rattle.sfi_scan.proofs.Prelude.{◌/◌, ◌∙◌, ap, bit_and, bundle_at}
use Rattle.sfi_scan.proofs.Starts.{access_clean}
use Rattle.sfi_scan.proofs.block.is_clean_access_at.Goals as goal

pub returns : goal.returns
returns c b is =
    access_clean b c.args.block.now c.args.stack c.args.after c.args.i c.numbered-base.result c.words_before_half.result c.requires.inside is c.requires.access
    (c.numbered-base.ensures ∙ ap (λ w. bit_and (w / 32768) 31) c.word_of.ensures.in_block)
    c.words_before_half.ensures c.may_access.result (λ earlier before. c.may_access.ensures (bundle_at b (c.args.i / 8)) earlier is before)
