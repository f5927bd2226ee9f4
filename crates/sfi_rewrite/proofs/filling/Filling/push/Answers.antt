use Rattle.sfi_rewrite.proofs.Prelude.{List, set, sym, ap, ◌-◌, ◌+◌, ◌∙◌, subst, BundleSlot, slots_of, IsFilled}
use Rattle.sfi_rewrite.proofs.Bundles.{filled_begun, filled_grown}
use Rattle.sfi_rewrite.proofs.filling.Filling.push.Goals as goal

pub invariant_of-self-then-self-eq0 : goal.invariant_of-self-then-self-eq0
invariant_of-self-then-self-eq0 c =
    filled_begun c.self.inside.bundles.items c.push.new.self.items c.args.self.now c.new.result c.args.slots.now c.self.inside.end c.args.size c.self.invariant c.self.view_is
    c.if-self-eq0.true c.requires.size c.requires.some c.requires.fits c.in_ok-push.ensures.items c.new.ensures

pub push-requires-2 : goal.push-requires-2
push-requires-2 c =
    (filled_grown c.self.inside.bundles.items c.args.self.now c.index_mut.result.now c.args.slots.now c.len-last.result c.self.inside.end c.args.size c.self.invariant c.self.view_is
    c.if-self-eq0.false c.requires.size c.requires.fits (c.len-last.ensures ∙ c.self.inside.bundles.ok.0) c.index_mut.ensures.value).room

pub invariant_of-self-2 : goal.invariant_of-self-2
invariant_of-self-2 c =
    let items = c.self.inside.bundles.items in
    let g = filled_grown items c.args.self.now c.index_mut.result.now c.args.slots.now c.len-last.result c.self.inside.end c.args.size c.self.invariant c.self.view_is
    c.if-self-eq0.false c.requires.size c.requires.fits (c.len-last.ensures ∙ c.self.inside.bundles.ok.0) c.index_mut.ensures.value in
    subst (λ (l : List BundleSlot). IsFilled (set items (c.len-last.result - 1) l) (c.self.inside.end + c.args.size)) (sym c.push-2.ensures) g.filled

pub returns : goal.returns
returns c =
    let items = c.self.inside.bundles.items in
    let g = filled_grown items c.args.self.now c.index_mut.result.now c.args.slots.now c.len-last.result c.self.inside.end c.args.size c.self.invariant c.self.view_is
    c.if-self-eq0.false c.requires.size c.requires.fits (c.len-last.ensures ∙ c.self.inside.bundles.ok.0) c.index_mut.ensures.value in
    ap (λ (l : List BundleSlot). slots_of (set items (c.len-last.result - 1) l)) c.push-2.ensures ∙ g.slots
