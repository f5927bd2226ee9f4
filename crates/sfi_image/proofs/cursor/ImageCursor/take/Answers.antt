use Rattle.sfi_image.proofs.Prelude.{◌∙◌, ◌++◌, List, ℕ, drop, sym, ap, take-append-drop}
use Rattle.sfi_image.proofs.CursorSteps.{short, faulty}
use Rattle.sfi_image.proofs.cursor.ImageCursor.take.Goals as goal

pub returns-then-self-len : goal.returns-then-self-len
returns-then-self-len c = λ bytes x h. short bytes x c.args.self.now c.args.len h c.requires c.if-self-len.true

pub returns-in-Some : goal.returns-in-Some
returns-in-Some c = λ bytes x h.
    let rest = c.args.self.now.rest.now in
    faulty bytes x c.args.self.now c.split_at.result.0.now (drop c.args.len rest) c.in-Some.fault h
    (sym (take-append-drop c.args.len rest) ∙ ap (λ (l : List ℕ). l ++ drop c.args.len rest) (sym c.split_at.ensures.front)) (c.in-Some.ensures.takes.1 x h.stands)
