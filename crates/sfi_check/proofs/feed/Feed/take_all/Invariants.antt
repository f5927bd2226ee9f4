use Rattle.sfi_check.proofs.Prelude.{◌≡◌, ◌⊎◌, ◌<◌, ◌≤◌, length, take, None, left, LeadsOn}
use Rattle.sfi_check.proofs.feed.Feed.take_all.Given as goal

abbrev pub invariant-loop-len : goal.invariant-loop-len
invariant-loop-len g l = record {
  inside : l.at ≤ length l.bytes;
  so_far : LeadsOn g.F.FindingSink.takes l.initial.sink l.sink l.initial.self.reader l.self.reader l.initial.self.tally l.self.tally (take l.at l.bytes);
  falls : (left l.self.reader < left l.initial.self.reader) ⊎ ((l.at ≡ 0) × (left l.self.reader ≤ left l.initial.self.reader));
  fault : l.self.fault ≡ None;
  long : length l.self.held ≡ 64;
}

abbrev pub decreases-loop-len : goal.decreases-loop-len
decreases-loop-len g l = left l.self.reader
