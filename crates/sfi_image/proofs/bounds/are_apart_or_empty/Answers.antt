use Rattle.std.proofs.Common.{inl, inr, arith}
use Rattle.std.proofs.lemmas.Bool.{cases_lt, leb-true, le-leb}
use Rattle.sfi_image.proofs.bounds.are_apart_or_empty.Goals as goal

pub returns : goal.returns
returns c =
    let end = c.min-end.result in
    let first = c.max.result in (
      λ tells. let le = leb-true end first tells in λ at a b. omega (arith, le, c.min-end.ensures, c.max.ensures, a.0, a.1, b.0, b.1),
      λ apart. elim (cases_lt first end) [
        | inl less ↦ absurd (apart first (omega (arith, less, c.min-end.ensures, c.max.ensures), omega (arith, less, c.min-end.ensures, c.max.ensures)) (omega (arith, less, c.min-end.ensures, c.max.ensures), omega (arith, less, c.min-end.ensures, c.max.ensures)))
        | inr le ↦ le-leb end first le
      ],
    )
