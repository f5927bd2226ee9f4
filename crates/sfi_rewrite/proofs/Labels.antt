-- Labels in bundles: from a label's place c.nops lead to the item that it names.
use Rattle.sfi_rewrite.proofs.Prelude.{◌≡◌, ℕ, zero, suc, ◌+◌, ◌*◌, ◌-◌, ◌/◌, refl, sym, ap, ◌∙◌, subst, arith, append_assoc, replicate, take, State, IsState, SlotStands, SlotsStand, c_nop, further, LeadsTo, LeadTo, Instr, size_of, next_bundle, BundleSlot, List, ◌++◌}
use Rattle.std.proofs.lemmas.List.{replicate-append-replicate}
use Rattle.rv_comp.specs.declared.front.Front.TheVariants.{Read}
use Rattle.sfi_rewrite.specs.Laws.{LabelsLeadToItems}
use Rattle.sfi_rewrite.proofs.Laid.{laid_one_way}
use Rattle.sfi_rewrite.proofs.Sizes.{size_of-append, size_nops, size_even}

further_twice : (s : State) (a b : ℕ) → further (further s a) b ≡ further s (a + b)
further_twice s a b =
    ap (λ (pc : ℕ). record { hart = record { pc = pc; registers = s.hart.registers }; memory = s.memory }) (omega arith)

nop_leads : (i : Instr) (s : State) → SlotStands i s c_nop → LeadsTo s (further s 2)
nop_leads i s stand = record { front = Read _ 2; at_pc = stand; result = refl }

-- c.nops lead from there to what stands behind them
nops_lead : (n : ℕ) (i : Instr) (s : State) (k : ℕ) (rest : List BundleSlot) → SlotsStand i (further s k) (replicate n c_nop ++ rest)
    → LeadTo n (further s k) (further s (k + 2 * n)) × SlotsStand i (further s (k + 2 * n)) rest
nops_lead zero i s k rest stand =
    let same : k ≡ k + 2 * 0 = omega arith in
    (ap (further s) (sym same), subst (λ (m : ℕ). SlotsStand i (further s m) rest) same stand)
nops_lead (suc n) i s k rest stand =
    let next = further_twice s k 2 in
    let same : k + 2 + 2 * n ≡ k + 2 * suc n = omega arith in
    let led = nops_lead n i s (k + 2) rest (subst (λ (t : State). SlotsStand i t (replicate n c_nop ++ rest)) next stand.1) in (
      (
        further s (k + 2),
        subst (λ (t : State). LeadsTo (further s k) t) next (nop_leads i (further s k) stand.0),
        subst (λ (m : ℕ). LeadTo n (further s (k + 2)) (further s m)) same led.0,
      ),
      subst (λ (m : ℕ). SlotsStand i (further s m) rest) same led.1,
    )

further_none : (s : State) → IsState s → further s 0 ≡ s
further_none s is =
    ap (λ (pc : ℕ). record { hart = record { pc = pc; registers = s.hart.registers }; memory = s.memory }) (omega (arith, is.hart.address))

pub labels_lead_to_items : LabelsLeadToItems
labels_lead_to_items f items p k x place labelled label stands =
    let before = stands.before in
    let end = size_of before in
    let one : label.0 ≡ before = laid_one_way f 0 (take k items) label.0 before label.1 stands.laid in
    let is_place : place ≡ next_bundle end = label.2 ∙ ap (λ (v : List BundleSlot). next_bundle (size_of v)) one in
    let there = stands.next.gap.stands.at_label labelled in
    let even = size_even before in
    let n = (end + 2 * stands.nops - next_bundle end) / 2 in
    let m = stands.nops - n in
    let parts : stands.nops ≡ m + n = omega (arith, there, even) in
    let own = stands.expanded ++ stands.after in (
      before ++ replicate m c_nop,
      n,
      (let a = size_of-append before (replicate m c_nop) in let b = size_nops m in omega (arith, there, even, a, b, is_place)),
      stands.placed
          ∙ ap (λ (v : List BundleSlot). before ++ (v ++ own)) (ap (λ (j : ℕ). replicate j c_nop) parts ∙ sym (replicate-append-replicate m n c_nop))
          ∙ ap (λ (v : List BundleSlot). before ++ v) (append_assoc (replicate m c_nop) (replicate n c_nop) own)
          ∙ sym (append_assoc before (replicate m c_nop) (replicate n c_nop ++ own)),
      λ i s is stand.
          let from = further_none s is in
          let led = nops_lead n i s 0 stands.expanded (subst (λ (t : State). SlotsStand i t (replicate n c_nop ++ stands.expanded)) (sym from) stand) in
          let none : 0 + 2 * n ≡ 2 * n = omega arith in (
            subst (λ (k : ℕ). LeadTo n s (further s k)) none (subst (λ (t : State). LeadTo n t (further s (0 + 2 * n))) from led.0),
            subst (λ (k : ℕ). SlotsStand i (further s k) stands.expanded) none led.1,
          ),
    )
