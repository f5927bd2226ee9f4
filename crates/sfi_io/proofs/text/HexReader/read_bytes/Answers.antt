use Rattle.sfi_io.proofs.Prelude.{◌≡◌, ℕ, [], arith, inl, inr, refl, sym, ◌∙◌, subst, length, take, nat_tests, ahead, GoesOn}
use Rattle.std.proofs.Common.{◌≢◌}
use Rattle.std.proofs.lemmas.Result.{IfOk-weaker, IfErr-weaker}
use Rattle.sfi_io.proofs.Ahead.{goes_more, goes_nowhere, leads, made_nothing, read_stop, stop_before, stops_after}
use Rattle.sfi_io.proofs.text.HexReader.read_bytes.Goals as goal

pub loop-buf-init : goal.loop-buf-init
loop-buf-init g c = (goes_nowhere (ahead g.R.Read.remaining c.args.self.now), refl, refl)

pub returns-then-count-gt0-clause-bytes : goal.returns-then-count-gt0-clause-bytes
returns-then-count-gt0-clause-bytes g c =
    let first = ahead g.R.Read.remaining c.args.self.now in
    leads first _ _ (goes_more first _ _ [] _ c.loop-buf.invariant.0 c.decode_held-count.ensures.on)

pub fault-requires : goal.fault-requires
fault-requires g c =
    let some : length c.decode_held-count.new.buf ≢ 0 = grind (arith, nat_tests, c.if-is_empty.ensures) in
    elim (c.decode_held-count.ensures.stops c.if-self.true) [
      | inl full ↦ absurd (some (omega (arith, full, c.if-count-gt0.false)))
      | inr bad ↦ bad
    ]

pub returns-then-self-clause-stop : goal.returns-then-self-clause-stop
returns-then-self-clause-stop g c =
    stops_after (ahead g.R.Read.remaining c.args.self.now) _ _ _ c.fault.result c.loop-buf.invariant.0 c.decode_held-count.ensures.on c.fault.ensures

pub returns-in-Ok-eq0-clause-bytes : goal.returns-in-Ok-eq0-clause-bytes
returns-in-Ok-eq0-clause-bytes g c =
    let buf = c.decode_held-count.new.buf in
    let first = ahead g.R.Read.remaining c.args.self.now in
    let filled = ahead g.R.Read.remaining c.fill.new.self in
    let on = made_nothing first _ _ filled c.decode_held-count.result buf (omega (arith, c.if-count-gt0.false)) c.loop-buf.invariant.0 c.decode_held-count.ensures.on c.in-Ok-eq0.ensures.same in
    IfOk-weaker c.end.result (λ n. n ≡ 0) _ (λ n none. leads first filled _ (subst (λ (k : ℕ). GoesOn first filled (take k buf)) (sym none) on)) c.end.ensures.none

pub returns-in-Ok-eq0-clause-stop : goal.returns-in-Ok-eq0-clause-stop
returns-in-Ok-eq0-clause-stop g c =
    let held = ahead g.R.Read.remaining c.decode_held-count.new.self in
    let filled = ahead g.R.Read.remaining c.fill.new.self in
    IfErr-weaker c.end.result _ _ (λ stop is. stops_after (ahead g.R.Read.remaining c.args.self.now) _ held _ stop c.loop-buf.invariant.0 c.decode_held-count.ensures.on (stop_before held filled [] stop c.in-Ok-eq0.ensures.same is)) c.end.ensures.stop

pub returns-in-Err-clause-stop : goal.returns-in-Err-clause-stop
returns-in-Err-clause-stop g c =
    stops_after (ahead g.R.Read.remaining c.args.self.now) _ _ _ _ c.loop-buf.invariant.0 c.decode_held-count.ensures.on (read_stop _ _ c.in-Err.ensures.stop)

pub loop-buf-preserved : goal.loop-buf-preserved
loop-buf-preserved g c =
    let step = c.decode_held-count.ensures in (
      made_nothing (ahead g.R.Read.remaining c.args.self.now) _ _ (ahead g.R.Read.remaining c.fill.new.self) c.decode_held-count.result c.decode_held-count.new.buf (omega (arith, c.if-count-gt0.false)) c.loop-buf.invariant.0 step.on c.in-Ok.ensures.same,
      omega (arith, c.in-Ok.ensures.made, step.made, c.if-count-gt0.false, c.loop-buf.invariant.1),
      step.size ∙ c.loop-buf.invariant.2,
    )
