use Rattle.sfi_tool.proofs.Prelude.{◌≡◌, ◌∙◌, ℕ, length, slice_get, sym, ap, subst, arith, string_bytes, slots_of, view, views, AreStates, Adds}
use Rattle.std.proofs.Common.{Some}
use Rattle.std.proofs.lemmas.List.{length-map}
use Rattle.std.proofs.lemmas.Option.{slice_get-get_or}
use Rattle.sfi_tool.proofs.StateTexts.{part_state, one_more_state}
use Rattle.sfi_tool.proofs.states.push_states.Goals as goal

pub loop-sandbox-preserved : goal.loop-sandbox-preserved
loop-sandbox-preserved g c = λ format.
    let parts = c.args.parts.now in
    let k = c.loop-sandbox.sandbox in
    let part = c.index-parts-sandbox.result in
    one_more_state k (views format parts) (slots_of c.args.world.now) (string_bytes c.args.out.now) (string_bytes c.loop-sandbox.out) (string_bytes c.push_state_unless_exited.new.out)
    (c.loop-sandbox.invariant format)
    (part_state format k parts part (slice_get (slots_of c.args.world.now) k) (string_bytes c.loop-sandbox.out) (string_bytes c.push_state_unless_exited.new.out)
    (slice_get-get_or parts k part c.loop-sandbox-test.true ∙ ap Some (sym c.index-parts-sandbox.is)) (c.in_ok-push_state_unless_exited.ensures format))

pub returns : goal.returns
returns g c = λ format.
    let parts = c.args.parts.now in
    let all : c.loop-sandbox.sandbox ≡ length (views format parts) =
    let over = c.loop-sandbox-test.false in let most = c.loop-sandbox.auto.sandbox-end in omega (arith, length-map parts (view format)) in
    subst (λ (n : ℕ). Adds (string_bytes c.args.out.now) (string_bytes c.loop-sandbox.out) (AreStates n (views format parts) (slots_of c.args.world.now))) all
    (c.loop-sandbox.invariant format)
