use Rattle.std.proofs.Common.{◌≡◌, ℕ, ◌+◌, ◌/◌, ◌^◌, length}
use Rattle.x86_step.specs.Held.{bytes_from}
use Rattle.x86_step.specs.State.{written}
use Rattle.x86_step.proofs.machine.Region.put_number.Given as goal

abbrev pub invariant-loop-k : goal.invariant-loop-k
invariant-loop-k l = record {
  base_is : l.self.base ≡ l.fn.self.base;
  size : length l.self.bytes.items ≡ length l.fn.self.bytes.items;
  same : (q : ℕ) → bytes_from l.fn.self.base l.self.bytes.items q ≡ written (bytes_from l.fn.self.base l.fn.self.bytes.items) l.k (l.fn.self.base + l.place) l.n q;
  rest_is : l.rest ≡ l.n / 256 ^ l.k;
}
