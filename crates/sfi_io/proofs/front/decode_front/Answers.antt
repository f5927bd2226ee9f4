use Rattle.sfi_io.proofs.Prelude.{◌≡◌, ◌+◌, ◌∙◌, ℕ, rules, inr, ap, sym, subst, slice_index}
use Rattle.sfi_io.specs.private.{IsBadPair}
use Rattle.sfi_io.proofs.Fronts.{stands_first, stands_step, left_is, first_left}
use Rattle.sfi_io.proofs.front.decode_front.Goals as goal

pub loop-taken-init : goal.loop-taken-init
loop-taken-init c = stands_first c.args.text.now c.args.out.now c.args.high

pub loop-taken-preserved : goal.loop-taken-preserved
loop-taken-preserved c =
    let front = c.decode_next-front in
    stands_step c.args.text.now _ c.loop-taken.out front.new.out _ c.args.high c.loop-taken.taken c.loop-taken.made _ c.loop-taken.high front.result.taken front.result.made front.result.high
    (left_is c.args.text.now c.loop-taken.taken) front.ensures.taken front.ensures.made front.ensures.room (search rules) front.ensures.spells c.loop-taken.invariant

pub returns-then-front-eq0-clause-spells : goal.returns-then-front-eq0-clause-spells
returns-then-front-eq0-clause-spells c =
    let front = c.decode_next-front in
    (stands_step c.args.text.now _ c.loop-taken.out front.new.out _ c.args.high c.loop-taken.taken c.loop-taken.made _ c.loop-taken.high front.result.taken front.result.made front.result.high
    (left_is c.args.text.now c.loop-taken.taken) front.ensures.taken front.ensures.made front.ensures.room (search rules) front.ensures.spells c.loop-taken.invariant).spells

pub returns-then-front-eq0-clause-stops : goal.returns-then-front-eq0-clause-stops
returns-then-front-eq0-clause-stops c _ =
    let front = c.decode_next-front in
    let none = c.if-front-eq0.true in
    let same : c.loop-taken.taken + 0 ≡ c.loop-taken.taken + front.result.taken = ap (λ (n : ℕ). c.loop-taken.taken + n) (sym none) in
    inr (subst (λ (b : ℕ). IsBadPair front.result.high b) (first_left c.args.text.now c.loop-taken.taken ∙ ap (λ (n : ℕ). slice_index c.args.text.now n) same) (front.ensures.stops none))
