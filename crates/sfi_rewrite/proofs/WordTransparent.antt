-- Each expansion in words does what its instruction does.
use Rattle.sfi_rewrite.proofs.Prelude.{◌≡◌, ◌≢◌, ℕ, ◌^◌, ◌<◌, ◌==◌, ◌||◌, List, [], ◌∷◌, ◌++◌, length, length-set, Bool, true, false, MatchBool, inl, inr, refl, sym, ap, ◌∙◌, subst, arith, ℤ, pos, bit_and, bit_or, And, Or, LoadKind, Instr, Op, Load, Store, Jalr, address_after, Hart, State, IsState, register, with_register, with_pc, past, Stands, effect, Format, has_words, has_single_mask, BundleSlot, Wide, Short, slot_size, size_of, IsAlone, AreRegions, HasReserved, SlotStands, IsSameAside, DoesAs, if◌then◌else◌, expansion, is_made_on_x26, is_data_register, false≢true, eqb-true, further, LeadTo, offset_by, StoreWidth, Holds, Span, masked, SlotsStand, data_mask}
use Rattle.rv_step.proofs.Pairs.{written_here, written_elsewhere, written_list}
use Rattle.std.specs.Int.Bits.{and_zero_l}
use Rattle.std.proofs.lemmas.Bool.{not-false}
use Rattle.sfi_rewrite.specs.words.Transparency.{is_own, KeepsTo, meant_base, meant, masked_in, IsTransparent}
use Rattle.sfi_image.specs.Parts.{IsWordStart, IsMaskedBase, data_mask_of, reserved_for}
use Rattle.sfi_rewrite.proofs.Sizes.{size_of-cons}
use Rattle.sfi_rewrite.proofs.Transparent.{stands_at, does, DoesFor, after_pair, one_does}
use Rattle.sfi_rewrite.proofs.Masks.{masked_data, held_stays, unmasked_code}
use Rattle.sfi_rewrite.proofs.Aside.{Aside, plus_zero, loads_same, stores_same, jumps_same}
use Rattle.sfi_rewrite.proofs.WordLaid.{word_unit}

-- ---- slots that stand

abbrev at_pc : State → ℕ → State
at_pc s pc = record { hart = with_pc s.hart pc; memory = s.memory }

no_further : (s : State) (i : Instr) (slots : List BundleSlot) → s.hart.pc < 2 ^ 32 → SlotsStand i s slots → SlotsStand i (further s 0) slots
no_further s i slots small st =
    let e : s.hart.pc ≡ address_after s.hart.pc 0 = omega arith in
    subst (λ (p : ℕ). SlotsStand i (at_pc s p) slots) e st

-- what stands after others
pub stand_after : (i : Instr) (s : State) (front back : List BundleSlot) → s.hart.pc < 2 ^ 32 → SlotsStand i s (front ++ back) → SlotsStand i (further s (size_of front)) back
stand_after i s [] back small st = no_further s i back small st
stand_after i s (x ∷ front) back small st =
    let size = size_of-cons x front in
    let rest = stand_after i (further s (slot_size x)) front back (let z : address_after s.hart.pc (slot_size x) < 2 ^ 32 = omega arith in z) st.1 in
    let e : address_after (address_after s.hart.pc (slot_size x)) (size_of front) ≡ address_after s.hart.pc (size_of (x ∷ front)) = omega arith in
    subst (λ (p : ℕ). SlotsStand i (at_pc s p) back) e rest

pub stand_before : (i : Instr) (s : State) (front back : List BundleSlot) → SlotsStand i s (front ++ back) → SlotsStand i s front
stand_before i s [] back st = tt
stand_before i s (x ∷ front) back st = (st.0, stand_before i (further s (slot_size x)) front back st.1)

slot_same : (i : Instr) (s t : State) (x : BundleSlot) → t.hart.pc ≡ s.hart.pc → t.memory ≡ s.memory → SlotStands i s x → SlotStands i t x
slot_same i s t (Wide j) e m st = stands_at s t j 4 e m st
slot_same i s t (Short g) e m st = stands_at s t (expansion g) 2 e m st
slot_same i s t other e m st = stands_at s t i 4 e m st

-- what stands there is told by pc and memory
pub stand_same : (i : Instr) (s t : State) (slots : List BundleSlot) → t.hart.pc ≡ s.hart.pc → t.memory ≡ s.memory → SlotsStand i s slots → SlotsStand i t slots
stand_same i s t [] e m st = tt
stand_same i s t (x ∷ slots) e m st =
    (slot_same i s t x e m st.0, stand_same i (further s (slot_size x)) (further t (slot_size x)) slots (ap (λ p. address_after p (slot_size x)) e) m st.1)

-- ---- the mask

-- the mask of a into d, single or in two steps
abbrev mask_by : Bool → ℕ → ℕ → List BundleSlot
mask_by one d a = if one then Wide (Op And d a 27) ∷ [] else Wide (Op And 31 a 27) ∷ Wide (Op Or d 31 26) ∷ []

-- what it makes of a's value
abbrev value_by : Bool → Hart → ℕ → ℕ
value_by one h a = if one then bit_and (register h a) (register h 27) else bit_or (bit_and (register h a) (register h 27)) (register h 26)

-- the state after the mask: d has that value, and no other register but x31 differs
pub record IsAfterMask (one : Bool) (d a : ℕ) (s end : State) : Type 0 where
  pub leads : LeadTo (length (mask_by one d a)) s end
  pub pc : end.hart.pc ≡ address_after s.hart.pc (size_of (mask_by one d a))
  pub count : length end.hart.registers ≡ length s.hart.registers
  pub value : register end.hart d ≡ value_by one s.hart a
  pub others : (x : ℕ) → x ≢ d → x ≢ 31 → register end.hart x ≡ register s.hart x
  pub memory : end.memory ≡ s.memory

-- `op` into d
abbrev written : State → ℕ → ℕ → State
written s d v = record { hart = with_register (past s.hart 4) d v; memory = s.memory }

written_count : (s : State) (d v : ℕ) → d ≢ 0 → length (written s d v).hart.registers ≡ length s.hart.registers
written_count s d v some = ap (λ (l : List ℕ). length l) (written_list (past s.hart 4) d v some) ∙ length-set s.hart.registers d v

mask_leads : (one : Bool) (i : Instr) (s : State) (d a : ℕ) → IsState s → d ≢ 0 → d < 32 → SlotsStand i s (mask_by one d a) → (end : State) × IsAfterMask one d a s end
mask_leads true i s d a is some small st =
    let n = is.hart.count in
    let v = bit_and (register s.hart a) (register s.hart 27) in (
      written s d v,
      record {
        leads = (written s d v, does s (Op And d a 27) 4 st.0, refl);
        pc = refl;
        count = written_count s d v some;
        value = written_here (past s.hart 4) d v some (omega arith);
        others = λ x other apart. written_elsewhere (past s.hart 4) d v x some other;
        memory = refl;
      },
    )
mask_leads false i s d a is some small st =
    let n = is.hart.count in
    let v = bit_and (register s.hart a) (register s.hart 27) in
    let one = written s 31 v in
    let w = bit_or (register one.hart 31) (register one.hart 26) in
    let kept : register one.hart 31 ≡ v = written_here (past s.hart 4) 31 v (λ e. omega arith) (omega arith) in
    let base : register one.hart 26 ≡ register s.hart 26 = written_elsewhere (past s.hart 4) 31 v 26 (λ e. omega arith) (λ e. omega arith) in
    let count = written_count s 31 v (λ e. omega arith) in (
      written one d w,
      record {
        leads = (one, does s (Op And 31 a 27) 4 st.0, (written one d w, does one (Op Or d 31 26) 4 (stands_at (further s 4) one (Op Or d 31 26) 4 refl refl st.1.0), refl));
        pc = (let z : address_after (address_after s.hart.pc 4) 4 ≡ address_after s.hart.pc 8 = omega arith in z);
        count = written_count one d w some ∙ count;
        value = written_here (past one.hart 4) d w some (omega arith) ∙ ap (λ x. bit_or x (register one.hart 26)) kept ∙ ap (λ x. bit_or v x) base;
        others = λ x other apart. written_elsewhere (past one.hart 4) d w x some other ∙ written_elsewhere (past s.hart 4) 31 v x (λ e. omega arith) apart;
        memory = refl;
      },
    )

-- the mask of the format
pub masks : (f : Format) (i : Instr) (s : State) (d a : ℕ) → IsState s → d ≢ 0 → d < 32 → SlotsStand i s (data_mask f d a) → (end : State) × IsAfterMask (has_single_mask f) d a s end
masks f i s d a is some small st = mask_leads (has_single_mask f) i s d a is some small st

abbrev pub mask_value : Format → Hart → ℕ → ℕ
mask_value f h a = value_by (has_single_mask f) h a

-- while a sandbox of these regions runs, that is an address of the data region
value_masked : (f : Format) (c d : Span) (h : Hart) (a : ℕ) → AreRegions c d → HasReserved f (reserved_for f c d) h.registers → mask_value f h a ≡ masked_in f d (register h a)
value_masked f c d h a regions reserved = by (has_single_mask f) refl
  where
    by : (one : Bool) → has_single_mask f ≡ one → value_by one h a ≡ (if one then bit_and (register h a) (data_mask_of f d) else masked d (register h a))
    by true e = ap (bit_and (register h a)) reserved.data_mask
    by false e = masked_data f e c d h (register h a) regions reserved

-- of x0 a single mask leaves 0
zero_stays : (f : Format) (s : State) (a : ℕ) → IsState s → (a == 0) ≡ true → has_single_mask f ≡ true → mask_value f s.hart a ≡ register s.hart a
zero_stays f s a is z one =
    let none : register s.hart a ≡ 0 = ap (register s.hart) (eqb-true a 0 z) ∙ is.hart.zero in
    rw one (ap (λ n. bit_and n (register s.hart 27)) none ∙ and_zero_l (register s.hart 27) ∙ sym none)

-- the base of an access that gets a mask stays
base_stays : (f : Format) (typed none : Bool) (c d : Span) (s : State) (a : ℕ) → typed ≡ false → (a == 0) ≡ none → is_made_on_x26 f a ≡ false → AreRegions c d → IsMaskedBase f d.base d.size → IsState s → HasReserved f (reserved_for f c d) s.hart.registers
    → MatchBool (typed || none) (Unit {0}) (Holds d (register s.hart a)) → mask_value f s.hart a ≡ register s.hart a
base_stays f true none c d s a t z made regions bit is reserved based = absurd (false≢true (sym t))
base_stays f false true c d s a t z made regions bit is reserved based = zero_stays f s a is z (not-false (has_single_mask f) (rw z at made))
base_stays f false false c d s a t z made regions bit is reserved based = value_masked f c d s.hart a regions reserved ∙ held_stays f c d (register s.hart a) regions bit based

own_differs : (x r : ℕ) → is_own x ≡ false → is_own r ≡ true → x ≢ r
own_differs x r other own e = let z = ap is_own e in cc

pub not_31 : (x : ℕ) → is_own x ≡ false → x ≢ 31
not_31 x e = own_differs x 31 e refl

-- of x29 the mask changes no register but those of the expansions
mask_aside : (one : Bool) (s end : State) (a : ℕ) → IsAfterMask one 29 a s end → Aside is_own end.hart (with_pc s.hart end.hart.pc)
mask_aside one s end a m = record { pc = refl; count = m.count; registers = λ x other. m.others x (own_differs x 29 other refl) (not_31 x other) }

-- ---- one slot for an instruction

-- the slots are one alone, which stands for i, and in which j stands
pub record IsOneFor (i j : Instr) (slots : List BundleSlot) : Type 0 where
  pub slot : BundleSlot
  pub are : slots ≡ slot ∷ []
  pub stands : (s : State) → SlotStands i s slot → Stands s j (slot_size slot)

pub one_for : (rvc : Bool) (i j : Instr) (slots : List BundleSlot) → IsAlone rvc j slots → IsOneFor i j slots
one_for false i j slots e = record { slot = Wide j; are = e; stands = λ s st. st }
one_for true i j slots (inl f) = record { slot = Short f.0; are = f.2; stands = λ s st. subst (λ (k : Instr). Stands s k 2) f.1.expands st }
one_for true i j slots (inr w) = record { slot = Wide j; are = w.1; stands = λ s st. st }

-- ---- an access after the mask

after_base : (f : Format) (s : State) (i j : Instr) (a v : ℕ) (slot : BundleSlot) → IsState s → SlotsStand i s (data_mask f 29 a) → Stands (further s (size_of (data_mask f 29 a))) j (slot_size slot)
    → mask_value f s.hart a ≡ v → DoesFor is_own s (meant f i) j (slot_size slot) 29 v → DoesAs is_own s (meant f i) (data_mask f 29 a) slot
after_base f s i j a v slot is mask access e same =
    let m = masks f i s 29 a is (λ z. omega arith) (omega arith) mask in
    let there = m.0 in
    let n = slot_size slot in
    record {
      there = there;
      leads = m.1.leads;
      place = m.1.pc;
      result = effect j n there.hart there.memory;
      step = does there j n (stands_at (further s (size_of (data_mask f 29 a))) there j n m.1.pc m.1.memory access);
      same =
          subst (λ memory. IsSameAside is_own (effect j n there.hart memory) (effect (meant f i) n (with_pc s.hart there.hart.pc) s.memory)) (sym m.1.memory)
          (same there.hart (mask_aside (has_single_mask f) s there a m.1) (m.1.value ∙ e));
    }

-- ---- the expansions

-- the base of i, a, stays under its mask wherever i keeps to its sandbox
abbrev Stays : Format → Instr → ℕ → Type 0
Stays f i a = (c d : Span) (s : State) → AreRegions c d → IsMaskedBase f d.base d.size → IsState s → HasReserved f (reserved_for f c d) s.hart.registers → KeepsTo c d s.hart i → mask_value f s.hart a ≡ register s.hart a

-- the access on x29 after the mask
based_transparent : (f : Format) (i j : Instr) (a : ℕ) (slots : List BundleSlot) → IsOneFor i j slots → Stays f i a
    → ((s : State) (n : ℕ) → DoesFor is_own s (meant f i) j n 29 (register s.hart a)) → IsTransparent f i (data_mask f 29 a ++ slots)
based_transparent f i j a slots one stays same = record {
  before = data_mask f 29 a;
  last = one.slot;
  slots_are = ap (λ v. data_mask f 29 a ++ v) one.are;
  does = λ c d s asked keeps.
      let mask = data_mask f 29 a in
      let there = further s (size_of mask) in
      let stand : SlotsStand i there (one.slot ∷ []) = subst (λ (v : List BundleSlot). SlotsStand i there v) one.are (stand_after i s mask slots asked.is_state.hart.address asked.stand) in
      after_base f s i j a (register s.hart a) one.slot asked.is_state (stand_before i s mask slots asked.stand) (one.stands there stand.0)
      (stays c d s asked.regions asked.masked_base asked.is_state asked.reserved keeps) (same s (slot_size one.slot));
}

-- an access that isn't made on x26 means itself
load_meant : (f : Format) (kind : LoadKind) (rd a : ℕ) (imm : ℤ) → is_made_on_x26 f a ≡ false → meant f (Load kind rd a imm) ≡ Load kind rd a imm
load_meant f kind rd a imm made = ap (λ (b : Bool). Load kind rd (if b then 26 else a) imm) made

store_meant : (f : Format) (width : StoreWidth) (a rs2 : ℕ) (imm : ℤ) → is_made_on_x26 f a ≡ false → meant f (Store width a rs2 imm) ≡ Store width a rs2 imm
store_meant f width a rs2 imm made = ap (λ (b : Bool). Store width (if b then 26 else a) rs2 imm) made

pub load_transparent : (f : Format) (rvc : Bool) (kind : LoadKind) (rd a : ℕ) (imm : ℤ) (slots : List BundleSlot) → IsAlone rvc (Load kind rd 29 imm) slots → is_data_register a ≡ false → is_made_on_x26 f a ≡ false
    → IsTransparent f (Load kind rd a imm) (data_mask f 29 a ++ slots)
load_transparent f rvc kind rd a imm slots is typed made =
    based_transparent f (Load kind rd a imm) (Load kind rd 29 imm) a slots (one_for rvc (Load kind rd a imm) (Load kind rd 29 imm) slots is)
    (λ c d s regions bit is_state reserved keeps. base_stays f (is_data_register a) (a == 0) c d s a typed refl made regions bit is_state reserved keeps)
    (λ s n h aside e.
    subst (λ (k : Instr). IsSameAside is_own (effect (Load kind rd 29 imm) n h s.memory) (effect k n (with_pc s.hart h.pc) s.memory)) (sym (load_meant f kind rd a imm made))
    (loads_same is_own kind rd 29 a imm n h (with_pc s.hart h.pc) s.memory aside e))

pub store_transparent : (f : Format) (rvc : Bool) (width : StoreWidth) (a rs2 : ℕ) (imm : ℤ) (slots : List BundleSlot) → IsAlone rvc (Store width 29 rs2 imm) slots → is_own rs2 ≡ false → is_data_register a ≡ false → is_made_on_x26 f a ≡ false
    → IsTransparent f (Store width a rs2 imm) (data_mask f 29 a ++ slots)
store_transparent f rvc width a rs2 imm slots is other typed made =
    based_transparent f (Store width a rs2 imm) (Store width 29 rs2 imm) a slots (one_for rvc (Store width a rs2 imm) (Store width 29 rs2 imm) slots is)
    (λ c d s regions bit is_state reserved keeps. base_stays f (is_data_register a) (a == 0) c d s a typed refl made regions bit is_state reserved keeps)
    (λ s n h aside e.
    subst (λ (k : Instr). IsSameAside is_own (effect (Store width 29 rs2 imm) n h s.memory) (effect k n (with_pc s.hart h.pc) s.memory)) (sym (store_meant f width a rs2 imm made))
    (stores_same is_own width 29 a rs2 imm n h (with_pc s.hart h.pc) s.memory aside e other))

-- one slot, in which stands what the instruction means
abbrev pub one_transparent : (f : Format) (i j : Instr) (slots : List BundleSlot) → IsOneFor i j slots → meant f i ≡ j → IsTransparent f i slots
one_transparent f i j slots one means = record {
  before = [];
  last = one.slot;
  slots_are = one.are;
  does = λ c d s asked keeps.
      let stand : SlotsStand i s (one.slot ∷ []) = subst (λ (v : List BundleSlot). SlotsStand i s v) one.are asked.stand in
      subst (λ (k : Instr). DoesAs is_own s k [] one.slot) (sym means) (one_does is_own s j one.slot asked.is_state (one.stands s stand.0));
}

pub load_alone : (f : Format) (rvc : Bool) (kind : LoadKind) (rd a : ℕ) (imm : ℤ) (slots : List BundleSlot) → IsAlone rvc (Load kind rd (meant_base f a) imm) slots → IsTransparent f (Load kind rd a imm) slots
load_alone f rvc kind rd a imm slots is =
    one_transparent f (Load kind rd a imm) (Load kind rd (meant_base f a) imm) slots (one_for rvc (Load kind rd a imm) (Load kind rd (meant_base f a) imm) slots is) refl

pub store_alone : (f : Format) (rvc : Bool) (width : StoreWidth) (a rs2 : ℕ) (imm : ℤ) (slots : List BundleSlot) → IsAlone rvc (Store width (meant_base f a) rs2 imm) slots → IsTransparent f (Store width a rs2 imm) slots
store_alone f rvc width a rs2 imm slots is =
    one_transparent f (Store width a rs2 imm) (Store width (meant_base f a) rs2 imm) slots (one_for rvc (Store width a rs2 imm) (Store width (meant_base f a) rs2 imm) slots is) refl

pub jump_transparent : (f : Format) (rd a : ℕ) → has_words f ≡ true → IsTransparent f (Jalr rd a (pos 0)) (Wide (Op And 30 a 25) ∷ Wide (Op Or 30 30 24) ∷ Wide (Jalr rd 30 (pos 0)) ∷ [])
jump_transparent f rd a is_in_words = record {
  before = Wide (Op And 30 a 25) ∷ Wide (Op Or 30 30 24) ∷ [];
  last = Wide (Jalr rd 30 (pos 0));
  slots_are = refl;
  does = λ c d s asked keeps.
      let v = register s.hart a in
      let start = subst (λ (n : ℕ). IsWordStart c n) (plus_zero v (asked.is_state.hart.words a)) keeps in
      after_pair is_own 30 s (Jalr rd a (pos 0)) (Jalr rd 30 (pos 0)) a 25 24 v (λ z. omega arith) (omega arith) refl asked.is_state (λ z. omega arith) asked.stand.0 asked.stand.1.0 asked.stand.1.1.0
      (unmasked_code f 2 (word_unit f is_in_words) c d s.hart v (omega arith) asked.regions asked.reserved start.held start.aligned)
      (λ h aside e. jumps_same is_own rd 30 a (pos 0) h (with_pc s.hart h.pc) s.memory aside (ap (λ n. offset_by n (pos 0)) e));
}

-- ---- the mask after a write of a data register

-- it leaves the address that a masks to
pub mask_leaves : (f : Format) (c d_at : Span) (s end : State) (d a : ℕ) → AreRegions c d_at → HasReserved f (reserved_for f c d_at) s.hart.registers → IsAfterMask (has_single_mask f) d a s end
    → register end.hart d ≡ masked_in f d_at (register s.hart a)
mask_leaves f c d_at s end d a regions reserved m = m.value ∙ value_masked f c d_at s.hart a regions reserved
