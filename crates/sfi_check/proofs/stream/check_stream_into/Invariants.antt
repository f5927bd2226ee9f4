use Rattle.sfi_check.proofs.Prelude.{◌≡◌, false, left_to_feed}
use Rattle.sfi_check.proofs.Pieces.{IsBetween}
use Rattle.sfi_check.proofs.stream.check_stream_into.Given as goal

abbrev pub invariant-loop-feed : goal.invariant-loop-feed
invariant-loop-feed g l = record {
  between : IsBetween g.S.ByteSource.reads (λ found. g.F.FindingSink.takes l.initial.sink found l.sink) l.initial.source l.source l.feed;
  live : g.S.ByteSource.has_failed l.source ≡ false;
}

abbrev pub decreases-loop-feed : goal.decreases-loop-feed
decreases-loop-feed g l = left_to_feed l.feed
