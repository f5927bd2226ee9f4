use Rattle.sfi_check.proofs.Prelude.{◌≡◌, ◌*◌, ◌^◌, ◌≤◌, take, Format, views, bundle_count}
use Rattle.sfi_check.proofs.accepted.bundle_count.Given as goal

-- the bundles of the parts so far, of which each has at most 2 ^ 20
abbrev pub invariant-loop-part : goal.invariant-loop-part
invariant-loop-part l = record {
  so_far : (format : Format) → l.bundles ≡ bundle_count (take l.part-index (views format l.parts));
  few : l.bundles ≤ 2 ^ 20 * l.part-index;
}
