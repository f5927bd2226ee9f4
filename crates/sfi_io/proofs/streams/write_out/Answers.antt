use Rattle.sfi_io.proofs.Prelude.{◌≡◌, ◌++◌, ◌∙◌, List, ℕ, Option, Some, None, take, drop, sym, ap, append_assoc, take-append-drop}
use Rattle.std.specs.Io.KnownBytes.{Appends}
use Rattle.sfi_io.proofs.streams.write_out.Goals as goal

-- bytes that a writer tells, piece by piece
appends_more : (a b d : Option (List ℕ)) (xs ys : List ℕ) → Appends a b xs → Appends b d ys → Appends a d (xs ++ ys)
appends_more None b d xs ys h k = tt
appends_more (Some x) None d xs ys h k = absurd h
appends_more (Some x) (Some y) None xs ys h k = absurd k
appends_more (Some x) (Some y) (Some z) xs ys h k = k ∙ ap (λ (t : List ℕ). t ++ ys) h ∙ append_assoc x xs ys

split : (text front rest after : List ℕ) (n : ℕ) → text ≡ front ++ rest → after ≡ drop n rest → text ≡ (front ++ take n rest) ++ after
split text front rest after n e b = e ∙ ap (λ (t : List ℕ). front ++ t) (sym (take-append-drop n rest)) ∙ sym (append_assoc front (take n rest) (drop n rest)) ∙ ap (λ (t : List ℕ). (front ++ take n rest) ++ t) (sym b)

pub loop-rest-preserved : goal.loop-rest-preserved
loop-rest-preserved g c =
    let w = c.loop-rest.invariant in
    (w.0 ++ take c.in-Ok.count c.loop-rest.rest.now, split c.args.text.now w.0 c.loop-rest.rest.now c.split_at.result.1.now c.in-Ok.count w.1 c.split_at.ensures.back, appends_more (g.W.Write.contents c.args.writer.now) (g.W.Write.contents c.loop-rest.writer) _ w.0 (take c.in-Ok.count c.loop-rest.rest.now) w.2 c.in-Ok.ensures.bytes)
