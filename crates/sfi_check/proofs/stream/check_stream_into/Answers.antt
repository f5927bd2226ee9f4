use Rattle.sfi_check.proofs.Prelude.{◌∙◌, ◌<◌, ◌-◌, ℕ, [], take, length, subst, arith, Some, length-take}
use Rattle.sfi_check.proofs.Feeding.{from_nothing, fed_weaker, fed_held, few_held}
use Rattle.sfi_check.proofs.Pieces.{no_reads, fails, faulty, ends_here, reads_on}
use Rattle.sfi_check.proofs.stream.check_stream_into.Goals as goal

pub loop-feed-init : goal.loop-feed-init
loop-feed-init g c = record {
  between = record {
    bytes = [];
    fed = from_nothing g.F.FindingSink.takes c.args.sink.now c.new-feed.result (g.met.F.FindingSink.none c.args.sink.now) c.new-feed.ensures.none_found;
    streams = no_reads g.S.ByteSource.reads c.args.source.now;
  };
  live = c.requires;
}

pub returns-in-Some-clause-judged : goal.returns-in-Some-clause-judged
returns-in-Some-clause-judged g c = faulty c.loop-feed.invariant.between c.in-Some.fault c.in-Some.is

pub answer-requires : goal.answer-requires
answer-requires g c = let i = c.loop-feed.invariant.between in (i.bytes, fed_weaker c.loop-feed.feed i.bytes (λ found holds. tt) i.fed)

pub returns-in-Ok-eq0-clause-judged : goal.returns-in-Ok-eq0-clause-judged
returns-in-Ok-eq0-clause-judged g c =
    let i = c.loop-feed.invariant.between in
    let most = 4096 - c.loop-feed.feed.count in
    let few = few_held c.loop-feed.feed i.bytes (fed_held c.loop-feed.feed i.bytes c.in_default.is i.fed) in
    let read : g.S.ByteSource.reads c.loop-feed.source most (Some []) c.read_next_bytes.new.source =
    subst (λ (k : ℕ). g.S.ByteSource.reads c.loop-feed.source most (Some (take k c.read_next_bytes.new.piece)) c.read_next_bytes.new.source) c.in-Ok-eq0.field-0-test c.in-Ok-eq0.ensures.some in
    ends_here i c.read_next_bytes.new.source most c.answer.result read (omega arith) (omega arith) c.answer.ensures.judged c.answer.ensures.handed

pub feed_into-requires : goal.feed_into-requires
feed_into-requires g c = let i = c.loop-feed.invariant.between in (c.args.sink.now, i.bytes, i.fed)

pub loop-feed-preserved : goal.loop-feed-preserved
loop-feed-preserved g c =
    let i = c.loop-feed.invariant.between in
    let most = 4096 - c.loop-feed.feed.count in
    let more = take c.in-Ok.count c.read_next_bytes.new.piece in
    let bound = c.in-Ok.ensures.bound in
    let not_zero = c.in-Ok.count-test.1 in
    let some : 0 < length more = omega (arith, length-take c.in-Ok.count c.read_next_bytes.new.piece, c.read_next_bytes.array_long) in
    record {
      between = reads_on i c.read_next_bytes.new.source most more c.feed_into.new.self c.in-Ok.ensures.some (omega arith) some (c.feed_into.ensures.fed c.args.sink.now i.bytes i.fed);
      live = g.met.S.ByteSource.stays c.loop-feed.source c.read_next_bytes.new.source most more c.in-Ok.ensures.some ∙ c.loop-feed.invariant.live;
    }

pub returns-in-Err-clause-judged : goal.returns-in-Err-clause-judged
returns-in-Err-clause-judged g c = fails c.loop-feed.invariant.between c.read_next_bytes.new.source (4096 - c.loop-feed.feed.count) c.in-Err.ensures.fault (omega arith)
