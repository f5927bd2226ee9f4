use Rattle.sfi_check.proofs.Prelude.{[]}
use Rattle.sfi_check.proofs.Feeding.{from_nothing, fed_weaker, listed}
use Rattle.sfi_check.proofs.verdict.check_into.Goals as goal

pub feed_into-requires : goal.feed_into-requires
feed_into-requires g c = (c.args.sink.now, [], from_nothing g.F.FindingSink.takes c.args.sink.now c.new-feed.result (g.met.F.FindingSink.none c.args.sink.now) c.new-feed.ensures.none_found)

pub answer-requires : goal.answer-requires
answer-requires g c =
    let fed = c.feed_into.ensures.fed c.args.sink.now [] (from_nothing g.F.FindingSink.takes c.args.sink.now c.new-feed.result (g.met.F.FindingSink.none c.args.sink.now) c.new-feed.ensures.none_found) in
    (c.args.bytes.now, fed_weaker c.feed_into.new.self c.args.bytes.now (λ found holds. tt) fed)

pub returns-clause-judged : goal.returns-clause-judged
returns-clause-judged g c =
    let fed = c.feed_into.ensures.fed c.args.sink.now [] (from_nothing g.F.FindingSink.takes c.args.sink.now c.new-feed.result (g.met.F.FindingSink.none c.args.sink.now) c.new-feed.ensures.none_found) in
    c.answer.ensures.judged c.args.bytes.now (fed_weaker c.feed_into.new.self c.args.bytes.now (λ found holds. tt) fed)

pub returns-clause-handed : goal.returns-clause-handed
returns-clause-handed g c =
    let fed = c.feed_into.ensures.fed c.args.sink.now [] (from_nothing g.F.FindingSink.takes c.args.sink.now c.new-feed.result (g.met.F.FindingSink.none c.args.sink.now) c.new-feed.ensures.none_found) in
    let l = listed c.feed_into.new.self c.args.bytes.now fed in
    (l.0, l.1, c.answer.ensures.handed c.args.bytes.now l.0 l.2)
