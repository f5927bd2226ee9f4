use Rattle.sfi_image.proofs.Prelude.{ℕ, ◌<◌, slice_index_or, Span, AreApart}
use Rattle.sfi_image.proofs.span.is_apart_from_all.Given as goal

abbrev pub invariant-loop-other : goal.invariant-loop-other
invariant-loop-other l = (k : ℕ) (d : Span) → k < l.other-index → AreApart (slice_index_or l.others k d) l.one
