-- A text's end is reached in one way.
use Rattle.std.proofs.Common.{zero, suc, ◌≡◌, ℕ, ◌+◌, Some, length, refl, sym, ◌∙◌, subst}
use Rattle.std.specs.Prelude.{Ok, Err}
use Rattle.x86_step.specs.declared.machine.Stop.{Stop}
use Rattle.x86_step.specs.declared.machine.Stop.TheVariants.{Fault, NoInstruction}
use Rattle.x86_step.specs.State.{Fixup, Machine, Text}
use Rattle.x86_step.specs.Step.{Steps, go, resume, resumed, stay}
unfoldable use Rattle.x86_step.specs.Step.{step}
use Rattle.x86_step.proofs.Ways.{stops}
use Rattle.sfi_native.specs.Host.{OneWayOut}

module _ (t : Text) where
  abbrev out : ℕ
  out = t.base + length t.bytes

  same_next : (m n k : Machine) → step t m ≡ Ok n → step t m ≡ Ok k → n ≡ k
  same_next m n k one two = let e : Ok n ≡ Ok k = sym one ∙ two in cc

  same_fixup : (m : Machine) (f h : Fixup) → t.fixups m.rip ≡ Some f → t.fixups m.rip ≡ Some h → f ≡ h
  same_fixup m f h one two = let e : Some f ≡ Some h = sym one ∙ two in cc

  not_both : (m n : Machine) (stop : Stop) → step t m ≡ Ok n → step t m ≡ Err stop → ⊥
  not_both m n stop one two = let e : Ok n ≡ Err stop = sym one ∙ two in cc

  no_fault : (m : Machine) → step t m ≡ Err NoInstruction → step t m ≡ Err Fault → ⊥
  no_fault m one two = let e : Err NoInstruction ≡ Err Fault = sym one ∙ two in cc

  one_way : (a b : ℕ) (m n k : Machine) → Steps t a m n → Steps t b m k → n.rip ≡ out → k.rip ≡ out → n ≡ k
  one_way zero zero m n k (stay _) (stay _) at there = refl
  one_way zero (suc b) m n k (stay _) (go _ _ i _ does more) at there = absurd (not_both m i NoInstruction does (stops t m at))
  one_way zero (suc b) m n k (stay _) (resume _ _ _ f faults is lies more) at there = absurd (no_fault m (stops t m at) faults)
  one_way (suc a) zero m n k (go _ _ i _ does more) (stay _) at there = absurd (not_both m i NoInstruction does (stops t m there))
  one_way (suc a) zero m n k (resume _ _ _ f faults is lies more) (stay _) at there = absurd (no_fault m (stops t m there) faults)
  one_way (suc a) (suc b) m n k (go _ _ i _ does more) (go _ _ j _ too others) at there =
      one_way a b i n k more (subst (λ x. Steps t b x k) (same_next m j i too does) others) at there
  one_way (suc a) (suc b) m n k (go _ _ i _ does more) (resume _ _ _ f faults is lies others) at there = absurd (not_both m i Fault does faults)
  one_way (suc a) (suc b) m n k (resume _ _ _ f faults is lies more) (go _ _ j _ too others) at there = absurd (not_both m j Fault too faults)
  one_way (suc a) (suc b) m n k (resume _ _ _ f faults is lies more) (resume _ _ _ h too was lie others) at there =
      one_way a b (resumed f m.core) n k more (subst (λ x. Steps t b (resumed x m.core) k) (same_fixup m h f was is) others) at there

pub one_way_out : OneWayOut
one_way_out t a b m n k one two at there = one_way t one.count two.count m n k one.steps two.steps at there
