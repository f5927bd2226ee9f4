use Rattle.std.proofs.Common.{refl}
use Rattle.sfi_image.proofs.Tests.{pairs_of_two, two_of_pairs}
use Rattle.sfi_image.proofs.span.are_all_apart.Goals as goal

pub returns-then-not-is_apart_from_all : goal.returns-then-not-is_apart_from_all
returns-then-not-is_apart_from_all c = (λ f. absurd cc, λ pairs. c.if-not-is_apart_from_all.ensures.1 (two_of_pairs _ _ _ pairs).0)

pub returns-then-not-is_apart_from_all-2 : goal.returns-then-not-is_apart_from_all-2
returns-then-not-is_apart_from_all-2 c = (λ f. absurd cc, λ pairs. c.if-not-is_apart_from_all-2.ensures.1 (two_of_pairs _ _ _ pairs).1)

pub returns : goal.returns
returns c = (
  λ t. pairs_of_two _ _ _ c.requires.apart (c.if-not-is_apart_from_all.ensures.0 refl) (c.if-not-is_apart_from_all-2.ensures.0 refl) (c.are_apart.ensures.0 t),
  λ pairs. c.are_apart.ensures.1 (two_of_pairs _ _ _ pairs).2,
)
