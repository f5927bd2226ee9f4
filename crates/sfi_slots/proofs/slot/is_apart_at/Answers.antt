use Rattle.std.proofs.Common.{refl, subst, sym, ◌∙◌}
use Rattle.std.proofs.lemmas.Option.{same_Some}
use Rattle.sfi_slots.specs.Slots.{IsApartFromSlot}
use Rattle.sfi_slots.proofs.slot.is_apart_at.Goals as goal

pub returns-in-Some : goal.returns-in-Some
returns-in-Some c =
    let there = sym c.slot_at.ensures ∙ c.in-Some.is in (
      λ t s at other. subst (IsApartFromSlot c.args.bounds.now) (same_Some c.in-Some.slot s (sym there ∙ at)) (c.is_apart_from_slot.ensures.0 t),
      λ all. c.is_apart_from_slot.ensures.1 (all c.in-Some.slot there c.if-i-number.false),
    )

pub returns-in-None : goal.returns-in-None
returns-in-None c = (λ t s at other. absurd cc, λ all. refl)
