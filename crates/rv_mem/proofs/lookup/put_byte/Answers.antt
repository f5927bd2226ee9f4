use Rattle.rv_mem.proofs.Prelude.{ap, ◌∙◌, cond, ◌==◌, Some, rules, arith, ◌<◌, length, byte_among}
use Rattle.rv_mem.proofs.Lookups.{none_more, among_at, puts_at}
use Rattle.rv_mem.proofs.lookup.put_byte.Goals as goal

pub returns-then-has-clause-there : goal.returns-then-has-clause-there
returns-then-has-clause-there c =
    let h : c.loop-i.i < length c.loop-i.segments = omega arith in
    (λ _. rw (← c.loop-i.invariant.same) (among_at c.loop-i.segments c.loop-i.i _ c.index-segments-i.result h c.loop-i.invariant.none (search rules)), λ _. search rules)

pub returns-then-has-clause-done : goal.returns-then-has-clause-done
returns-then-has-clause-done c =
    let h : c.loop-i.i < length c.loop-i.segments = omega arith in
    let p = puts_at c.loop-i.segments c.loop-i.i _ _ c.index-segments-i-then-has.result c.put.new.self h c.loop-i.invariant.none c.put.ensures in
    λ q. p q ∙ ap (λ ss. cond (q == c.args.at) (Some c.args.byte) (byte_among ss q)) c.loop-i.invariant.same

pub loop-i-preserved : goal.loop-i-preserved
loop-i-preserved c =
    let h : c.loop-i.i < length c.loop-i.segments = omega arith in
    record {
      same = c.loop-i.invariant.same;
      none = none_more c.loop-i.segments c.loop-i.i _ c.index-segments-i.result h c.loop-i.invariant.none (search rules);
    }
