use Rattle.sfi_link.proofs.Prelude.{◌++◌, ◌∙◌, ap, sym, append_assoc, repeat}
use Rattle.sfi_link.proofs.Pushed.{repeat_more}
use Rattle.sfi_link.proofs.code_region.push_copies.Goals as goal

pub loop-preserved : goal.loop-preserved
loop-preserved c =
    let copied = c.args.copied.now in
    c.in_ok-extend_from_slice.ensures.items ∙ ap (λ l. l ++ copied) c.loop.invariant ∙ append_assoc c.args.code.now.items (repeat c.loop.counter copied) copied
    ∙ ap (λ l. c.args.code.now.items ++ l) (sym (repeat_more c.loop.counter copied))
