use Rattle.sfi_check.proofs.Prelude.{◌≡◌, ◌⊎◌, ◌<◌, ◌≤◌, ◌-◌, length, take, None, left_to_feed}
use Rattle.sfi_check.specs.private.{IsFedOn}
use Rattle.sfi_check.proofs.feed.Feed.feed_into.Given as goal

-- the first `at` bytes of the piece are fed
abbrev pub invariant-loop-at : goal.invariant-loop-at
invariant-loop-at g l = record {
  inside : l.at ≤ length l.bytes;
  fed : IsFedOn g.F.FindingSink.takes l.initial.sink l.sink l.initial.self l.self (take l.at l.bytes);
  falls : l.initial.self.fault ≡ None → ((l.at ≡ 0) × (l.self.fault ≡ None) × (left_to_feed l.self ≤ left_to_feed l.initial.self)) ⊎ (left_to_feed l.self < left_to_feed l.initial.self);
}

abbrev pub decreases-loop-at : goal.decreases-loop-at
decreases-loop-at g l = length l.bytes - l.at
