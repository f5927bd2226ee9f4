use Rattle.std.proofs.Common.{refl}
use Rattle.sfi_image.proofs.bounds.are_regions_apart.Goals as goal

pub returns-then-not-are_apart_or_empty : goal.returns-then-not-are_apart_or_empty
returns-then-not-are_apart_or_empty c = (λ f. absurd cc, λ a. c.if-not-are_apart_or_empty.ensures.1 (rw (c.code_of-code.ensures.is, c.code_of-other_code.ensures.is) a.code_code))

pub returns : goal.returns
returns c =
    let is = c.code_of-code.ensures.is in
    let guarded = c.guarded_data_of-guarded.ensures.is in
    let other = c.code_of-other_code.ensures.is in
    let other_guarded = c.guarded_data_of-other_guarded.ensures.is in (
      λ t. record {
        code_code = rw (is, other) at (c.if-not-are_apart_or_empty.ensures.0 refl);
        code_guarded = rw (is, other_guarded) at (c.if-not-are_apart_or_empty-2.ensures.0 refl);
        guarded_code = rw (guarded, other) at (c.if-not-are_apart_or_empty-3.ensures.0 refl);
        guarded_guarded = rw (guarded, other_guarded) at (c.are_apart_or_empty-4.ensures.0 t);
      },
      λ a. c.are_apart_or_empty-4.ensures.1 (rw (guarded, other_guarded) a.guarded_guarded),
    )
