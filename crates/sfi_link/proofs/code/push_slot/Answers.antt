use Rattle.sfi_link.proofs.Prelude.{◌≡◌, ◌+◌, ◌++◌, ℕ, List, length, refl, sym, subst, expansion, IsPushed, IsSlot, Bases, PlacedName, BundleSlot, Encodes}
use Rattle.sfi_link.proofs.Pushed.{high_in_range, low_in_range, base_in_range, is_register, upper_slot, lower_slot, region_slot}
use Rattle.sfi_link.proofs.code.push_slot.Goals as goal

pushed : (at : Bases) (names : List PlacedName) (s t : BundleSlot) (old new bytes : List ℕ) → s ≡ t → new ≡ old ++ bytes → IsSlot at names (at.code + length old) t bytes → IsPushed at names s old new
pushed at names s t old new bytes is e one = (bytes, e, subst (λ (x : BundleSlot). IsSlot at names (at.code + length old) x bytes) (sym is) one)

pub returns-in_ok-push_short-in-Short : goal.returns-in_ok-push_short-in-Short
returns-in_ok-push_short-in-Short c =
    let ok = subst Encodes c.in-Short.is c.requires.encodes in
    pushed _ _ _ _ _ _ _ c.in-Short.is c.in_ok-push_short-in-Short.ensures (record { instr = expansion c.in-Short.form; resolves = refl; spelled = (ok, refl) })

pub push_wide-requires-in-Upper : goal.push_wide-requires-in-Upper
push_wide-requires-in-Upper c = rw c.upper_immediate-imm.ensures.is (high_in_range c.in-Upper.rd c.in_ok-known_value-in-Upper.field-0 (subst Encodes c.in-Upper.is c.requires.encodes))

pub push_wide-requires-in-Lower : goal.push_wide-requires-in-Lower
push_wide-requires-in-Lower c = rw c.add_lower.ensures (low_in_range c.in-Lower.rd c.in_ok-value-in-Lower.value (subst Encodes c.in-Lower.is c.requires.encodes))

pub returns-in_ok-push_wide-in-Upper : goal.returns-in_ok-push_wide-in-Upper
returns-in_ok-push_wide-in-Upper c =
    pushed _ _ _ _ _ _ _ c.in-Upper.is (rw c.upper_immediate-imm.ensures.is at c.in_ok-push_wide-in-Upper.ensures)
    (upper_slot _ _ _ c.in-Upper.rd _ _ c.in_ok-known_value-in-Upper.field-0 c.in_ok-known_value-in-Upper.ensures.ok (subst Encodes c.in-Upper.is c.requires.encodes))

pub returns-in_ok-push_wide-in-Lower : goal.returns-in_ok-push_wide-in-Lower
returns-in_ok-push_wide-in-Lower c =
    pushed _ _ _ _ _ _ _ c.in-Lower.is (rw c.add_lower.ensures at c.in_ok-push_wide-in-Lower.ensures)
    (lower_slot _ _ _ c.in-Lower.rd _ _ c.in_ok-value-in-Lower.value c.in_ok-value-in-Lower.ensures.ok (subst Encodes c.in-Lower.is c.requires.encodes))

pub push_wide-requires-in-Region : goal.push_wide-requires-in-Region
push_wide-requires-in-Region c =
    rw c.add_base_instr.ensures (base_in_range c.in-Region.rd c.in_ok-base-in-Region.base (subst Encodes c.in-Region.is c.requires.encodes) (is_register c.args.names.now c.in-Region.name c.in_ok-base-in-Region.base c.in_ok-base-in-Region.ensures.ok))

pub returns-in_ok-push_wide-in-Region : goal.returns-in_ok-push_wide-in-Region
returns-in_ok-push_wide-in-Region c =
    pushed _ _ _ _ _ _ _ c.in-Region.is (rw c.add_base_instr.ensures at c.in_ok-push_wide-in-Region.ensures)
    (region_slot _ _ _ c.in-Region.rd _ _ c.in_ok-base-in-Region.base c.in_ok-base-in-Region.ensures.ok (subst Encodes c.in-Region.is c.requires.encodes))
