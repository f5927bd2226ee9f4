use Rattle.sfi_image.proofs.Prelude.{ℕ, ◌<◌, slice_index_or, Span, IsClear}
use Rattle.sfi_image.proofs.zones.are_clear.Given as goal

abbrev pub invariant-loop-span : goal.invariant-loop-span
invariant-loop-span l = (k : ℕ) (d : Span) → k < l.span-index → IsClear l.end (slice_index_or l.spans k d)
