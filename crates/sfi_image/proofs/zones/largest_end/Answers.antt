use Rattle.sfi_image.proofs.Prelude.{◌≡◌, ℕ, ◌<◌, ◌/◌, length, get_or, take, ap, sym, ◌∙◌, subst, subst₂, arith, take_more, take_all}
use Rattle.std.specs.Prelude.{max}
use Rattle.sfi_image.specs.Spelling.{ends_below}
use Rattle.sfi_image.proofs.ClearZones.{IsLeast, length_ends, end_at, larger, one_end}
use Rattle.sfi_image.proofs.zones.largest_end.Goals as goal

pub loop-number-preserved : goal.loop-number-preserved
loop-number-preserved c =
    let ss = c.args.spans.now in
    let i = c.loop-number.number in
    let lt : i < length ss / 2 = c.loop-number-test.true in
    let more = take_more (ends_below ss) i 0 (omega (arith, length_ends ss)) in
    let here : get_or (ends_below ss) i 0 ≡ c.zone_end_of.result = end_at ss i 0 _ (omega arith) ∙ sym c.zone_end_of.ensures in
    subst₂ IsLeast (ap (λ (n : ℕ). max c.loop-number.largest n) here ∙ sym (larger c.loop-number.largest c.zone_end_of.result) ∙ sym c.max-largest.ensures) (sym more)
    (one_end (take i (ends_below ss)) c.loop-number.largest (get_or (ends_below ss) i 0) c.loop-number.invariant)

pub returns : goal.returns
returns c =
    let ss = c.args.spans.now in
    subst (IsLeast c.loop-number.largest) (take_all c.loop-number.number (ends_below ss) (omega (arith, length_ends ss))) c.loop-number.invariant
