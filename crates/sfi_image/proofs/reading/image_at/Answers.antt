use Rattle.sfi_image.proofs.Prelude.{◌≡◌, ◌++◌, ◌∷◌, [], ◌∙◌, List, sym, ap, subst, map_push, Part, view, views}
use Rattle.sfi_image.specs.Keeping.{HasPassed}
use Rattle.sfi_image.proofs.CursorSteps.{last_format}
use Rattle.sfi_image.proofs.reading.image_at.Goals as goal

pub part_of_view-requires : goal.part_of_view-requires
part_of_view-requires c =
    let i = c.loop-parts.invariant in
    let f = c.format-format.result in
    let t = (rw c.in-Some.is at c.in_ok-view.ensures.part) c.args.bytes.now f i.0 (views f c.loop-parts.parts.items) i.1 in
    (t.0, t.1)

pub loop-parts-preserved : goal.loop-parts-preserved
loop-parts-preserved c =
    let i = c.loop-parts.invariant in
    let f = c.format-format.result in
    let ps = views f c.loop-parts.parts.items in
    let t = (rw c.in-Some.is at c.in_ok-view.ensures.part) c.args.bytes.now f i.0 ps i.1 in
    let same : view f c.in_ok-part.part ≡ t.0 = subst (λ g. view g c.in_ok-part.part ≡ t.0) (last_format c.args.bytes.now f i.0 ps t.0 c.next_part.new.self t.2) (c.in_ok-part.ensures.part t.0 t.1) in
    let all : views f c.push.new.self.items ≡ ps ++ t.0 ∷ [] = ap (views f) c.in_ok-push.ensures.items ∙ map_push (view f) c.loop-parts.parts.items c.in_ok-part.part ∙ ap (λ (q : Part). ps ++ q ∷ []) same in
    (i.0, subst (λ (qs : List Part). HasPassed c.args.bytes.now f i.0 qs c.next_part.new.self) (sym all) t.2)

pub new-requires-2 : goal.new-requires-2
new-requires-2 c =
    let i = c.loop-parts.invariant in
    let f = c.format-format.result in
    ((rw c.in_default.is at c.in_ok-view.ensures.end) c.args.bytes.now f i.0 (views f c.loop-parts.parts.items) i.1).layout
