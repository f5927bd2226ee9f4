use Rattle.sfi_host.proofs.Prelude.{◌≡◌, ◌+◌, ◌≤◌, ◌++◌, Some, ℕ, List, range_with_len, Bytes, bytes_at, asked}
use Rattle.std.specs.Vec.{vec_len, vec_capacity}
use Rattle.sfi_host.proofs.handover.append.Given as goal

-- the first k bytes are appended, and there is room for the others
pub record HasAppended (m : Bytes) (at count k : ℕ) (before now : List ℕ) (len capacity : ℕ) : Type 0 where
  pub done : List ℕ
  pub read : bytes_at m (range_with_len at k) ≡ Some done
  pub appended : now ≡ before ++ done
  pub room : len + count ≤ capacity + k

abbrev pub invariant-loop-k : goal.invariant-loop-k
invariant-loop-k g l =
    HasAppended (asked g.M.Memory.bytes l.guest).bytes l.at l.count l.k l.fn.output.items l.output.items (vec_len l.output) (vec_capacity l.output)
