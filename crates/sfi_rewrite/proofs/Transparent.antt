-- Each expansion does what its instruction does.
use Rattle.sfi_rewrite.proofs.Prelude.{◌≡◌, ◌≢◌, ℕ, zero, suc, ◌^◌, ◌<◌, List, [], ◌∷◌, ◌++◌, Bool, true, false, refl, sym, ap, ◌∙◌, subst, arith, inl, inr, ℤ, pos, negsuc, bit_and, bit_or, or_parts, And, Or, LoadKind, Instr, Op, OpImm, Load, Store, Jalr, address_after, Hart, State, IsState, register, with_register, with_pc, Stands, effect, IsStep, BundleSlot, Wide, Short, slot_size, data_pair_slots, code_pair_slots, jump_to_x31, jump_slots, IsAlone, IsMasked, SlotStands, IsSameAside, DoesAs, IsTransparent, expansion, Form16, further, StandInRow, LeadsTo, LeadTo, offset_by, Addi, StoreWidth, Format, Sfi1, Sfi2, Sfiw, Sfis, is_withheld, names_withheld}
use Rattle.rv_comp.specs.declared.front.Front.TheVariants.{Read}
use Rattle.std.proofs.lemmas.Bool.{ne_eqb}
use Rattle.sfi_image.specs.Parts.{IsBundleStart}
use Rattle.sfi_rewrite.specs.Transparency.{is_scratch}
use Rattle.rv_step.proofs.Facts.{pair_leaves, step_keeps_state}
use Rattle.rv_step.proofs.Pairs.{written_here}
use Rattle.sfi_rewrite.proofs.Masks.{unmasked_data, unmasked_code}
use Rattle.sfi_rewrite.proofs.Aside.{Aside, aside_own, loads_same, stores_same, jumps_same, plus_zero, added, plus_fits}

-- ---- what stands at a pc

-- the state at this pc, with this value in the register t
abbrev written_at : State → (t pc v : ℕ) → State
written_at s t pc v = record { hart = with_register (with_pc s.hart pc) t v; memory = s.memory }

abbrev scratched : State → ℕ → ℕ → State
scratched s pc v = written_at s 31 pc v

-- what stands there is told by pc and memory
pub stands_at : (s t : State) (i : Instr) (n : ℕ) → t.hart.pc ≡ s.hart.pc → t.memory ≡ s.memory → Stands s i n → Stands t i n
stands_at s t i n e f st = record { bytes = st.bytes; there = rw (e, f) st.there; spelled = st.spelled }

pub does : (s : State) (i : Instr) (n : ℕ) → Stands s i n → IsStep s (effect i n s.hart s.memory)
does s i n st = record { front = Read i n; at_pc = st; result = refl }

not_withheld : (f : Format) (r : ℕ) → is_withheld f r ≡ false → r ≢ 31
not_withheld Sfi1 r h = λ e. cc
not_withheld Sfi2 r h = λ e. cc
not_withheld Sfiw r h = λ e. cc
not_withheld Sfis r h = λ e. cc

-- ---- a pair at pc

-- after a pair on t whose masked value is v
pair_to : (t : ℕ) (s : State) (a mask base v : ℕ) → IsState s → t ≢ 0 → base ≢ t → StandInRow s (Op And t a mask ∷ Op Or t t base ∷ [])
    → bit_or (bit_and (register s.hart a) (register s.hart mask)) (register s.hart base) ≡ v → LeadTo 2 s (written_at s t (address_after s.hart.pc 8) v)
pair_to t s a mask base v is some apart stand e =
    subst (λ (n : ℕ). LeadTo 2 s (written_at s t (address_after s.hart.pc 8) n)) e (pair_leaves s t a mask base is some apart stand)

pub eight : (pc : ℕ) → address_after (address_after pc 4) 4 ≡ address_after pc 8
eight pc = omega arith

pub twelve : (pc : ℕ) → address_after (address_after pc 4) 8 ≡ address_after pc 12
twelve pc = omega arith

value_is : (t : ℕ) (s : State) (pc v : ℕ) → IsState s → t ≢ 0 → t < 32 → register (written_at s t pc v).hart t ≡ v
value_is t s pc v is some small = let n = is.hart.count in written_here (with_pc s.hart pc) t v some (omega arith)

scratch_is : (s : State) (pc v : ℕ) → IsState s → register (scratched s pc v).hart 31 ≡ v
scratch_is s pc v is = value_is 31 s pc v is (λ e. omega arith) (omega arith)

-- ---- a pair and what stands after it

-- from harts with v in the register b, and else the registers of s, j does what i does from these
abbrev pub DoesFor : (is_own : ℕ → Bool) (s : State) (i j : Instr) (n b v : ℕ) → Type 0
DoesFor is_own s i j n b v =
    (h : Hart) → Aside is_own h (with_pc s.hart h.pc) → register h b ≡ v → IsSameAside is_own (effect j n h s.memory) (effect i n (with_pc s.hart h.pc) s.memory)

-- x31 was written
aside_scratch : (h : Hart) (v pc : ℕ) → Aside is_scratch (with_register (with_pc h pc) 31 v) (with_pc h pc)
aside_scratch h v pc = aside_own is_scratch (with_pc h pc) 31 v (λ e. omega arith) refl

-- three slots: the last does from after the pair on t what i does
pub after_pair : (is_own : ℕ → Bool) (t : ℕ) (s : State) (i j : Instr) (a mask base v : ℕ) → t ≢ 0 → t < 32 → is_own t ≡ true → IsState s → base ≢ t
    → Stands s (Op And t a mask) 4 → Stands (further s 4) (Op Or t t base) 4 → Stands (further (further s 4) 4) j 4
    → bit_or (bit_and (register s.hart a) (register s.hart mask)) (register s.hart base) ≡ v
    → DoesFor is_own s i j 4 t v
    → DoesAs is_own s i (Wide (Op And t a mask) ∷ Wide (Op Or t t base) ∷ []) (Wide j)
after_pair is_own t s i j a mask base v some small own is apart first second third e same =
    let pc = address_after s.hart.pc 8 in
    let there = written_at s t pc v in
    record {
      there = there;
      leads = pair_to t s a mask base v is some apart (first, (second, tt)) e;
      place = refl;
      result = effect j 4 there.hart s.memory;
      step = does there j 4 (stands_at (further (further s 4) 4) there j 4 (sym (eight s.hart.pc)) refl third);
      same = same there.hart (aside_own is_own (with_pc s.hart pc) t v some own) (value_is t s pc v is some small);
    }

-- x31 was written twice
aside_twice : (s : State) (p q v w : ℕ) → Aside is_scratch (scratched (scratched s p v) q w).hart (with_pc s.hart q)
aside_twice s p q v w =
    let one = aside_scratch s.hart v p in
    let two = aside_scratch (scratched s p v).hart w q in
    record { pc = refl; count = two.count ∙ one.count; registers = λ x ne. two.registers x ne ∙ one.registers x ne }

-- four slots: the sum goes before the pair
after_sum : (s : State) (i j : Instr) (a mask base : ℕ) (imm : ℤ) → IsState s → mask ≢ 31 → base ≢ 31
    → Stands s (OpImm Addi 31 a imm) 4 → Stands (further s 4) (Op And 31 31 mask) 4 → Stands (further (further s 4) 4) (Op Or 31 31 base) 4 → Stands (further (further (further s 4) 4) 4) j 4
    → bit_or (bit_and (offset_by (register s.hart a) imm) (register s.hart mask)) (register s.hart base) ≡ offset_by (register s.hart a) imm
    → DoesFor is_scratch s i j 4 31 (offset_by (register s.hart a) imm)
    → DoesAs is_scratch s i (Wide (OpImm Addi 31 a imm) ∷ Wide (Op And 31 31 mask) ∷ Wide (Op Or 31 31 base) ∷ []) (Wide j)
after_sum s i j a mask base imm is ne apart first second third fourth e same =
    let v = offset_by (register s.hart a) imm in
    let p = address_after s.hart.pc 4 in
    let q = address_after p 8 in
    let one = scratched s p v in
    let there = scratched one q v in
    let step : LeadsTo s one = subst (λ (n : ℕ). LeadsTo s (scratched s p n)) (added (register s.hart a) imm) (does s (OpImm Addi 31 a imm) 4 first) in
    let is_one : IsState one = step_keeps_state s _ is step in
    let aside = aside_scratch s.hart v p in
    let value : bit_or (bit_and (register one.hart 31) (register one.hart mask)) (register one.hart base) ≡ v =
    ap (λ n. bit_or (bit_and n (register one.hart mask)) (register one.hart base)) (scratch_is s p v is)
    ∙ ap (λ n. bit_or (bit_and v n) (register one.hart base)) (aside.registers mask (ne_eqb mask 31 ne))
    ∙ ap (λ n. bit_or (bit_and v (register s.hart mask)) n) (aside.registers base (ne_eqb base 31 apart))
    ∙ e in
    let row : StandInRow one (Op And 31 31 mask ∷ Op Or 31 31 base ∷ []) =
    (stands_at (further s 4) one (Op And 31 31 mask) 4 refl refl second, (stands_at (further (further s 4) 4) (further one 4) (Op Or 31 31 base) 4 refl refl third, tt)) in
    record {
      there = there;
      leads = (one, step, pair_to 31 one 31 mask base v is_one (λ z. omega arith) apart row value);
      place = twelve s.hart.pc;
      result = effect j 4 there.hart s.memory;
      step = does there j 4 (stands_at (further (further (further s 4) 4) 4) there j 4 (sym (eight p)) refl fourth);
      same = same there.hart (aside_twice s p q v v) (scratch_is one q v is_one);
    }

-- ---- the expansions

load_transparent : (kind : LoadKind) (rd a : ℕ) (imm : ℤ) → IsTransparent (Load kind rd a imm) (data_pair_slots a ++ Wide (Load kind rd 31 imm) ∷ [])
load_transparent kind rd a imm = record {
  before = data_pair_slots a;
  last = Wide (Load kind rd 31 imm);
  slots_are = refl;
  does = λ c d s asked keeps.
      let regions = asked.regions in let is = asked.is_state in let reserved = asked.reserved in let stand = asked.stand in
      after_pair is_scratch 31 s (Load kind rd a imm) (Load kind rd 31 imm) a 27 26 (register s.hart a) (λ z. omega arith) (omega arith) refl is (λ z. omega arith) stand.0 stand.1.0 stand.1.1.0
      (unmasked_data Sfi1 refl c d s.hart (register s.hart a) regions reserved keeps)
      (λ h aside e. loads_same is_scratch kind rd 31 a imm 4 h (with_pc s.hart h.pc) s.memory aside e);
}

store_transparent : (width : StoreWidth) (a rs2 : ℕ) (imm : ℤ) → rs2 ≢ 31 → IsTransparent (Store width a rs2 imm) (data_pair_slots a ++ Wide (Store width 31 rs2 imm) ∷ [])
store_transparent width a rs2 imm ne = record {
  before = data_pair_slots a;
  last = Wide (Store width 31 rs2 imm);
  slots_are = refl;
  does = λ c d s asked keeps.
      let regions = asked.regions in let is = asked.is_state in let reserved = asked.reserved in let stand = asked.stand in
      after_pair is_scratch 31 s (Store width a rs2 imm) (Store width 31 rs2 imm) a 27 26 (register s.hart a) (λ z. omega arith) (omega arith) refl is (λ z. omega arith) stand.0 stand.1.0 stand.1.1.0
      (unmasked_data Sfi1 refl c d s.hart (register s.hart a) regions reserved keeps)
      (λ h aside e. stores_same is_scratch width 31 a rs2 imm 4 h (with_pc s.hart h.pc) s.memory aside e (ne_eqb rs2 31 ne));
}

-- a jump's offset is 0
jump_transparent : (rd a : ℕ) → IsTransparent (Jalr rd a (pos 0)) (code_pair_slots a ++ jump_to_x31 rd ∷ [])
jump_transparent rd a = record {
  before = code_pair_slots a;
  last = jump_to_x31 rd;
  slots_are = refl;
  does = λ c d s asked keeps.
      let regions = asked.regions in let is = asked.is_state in let reserved = asked.reserved in let stand = asked.stand in
      let v = register s.hart a in
      let to = plus_zero v (is.hart.words a) in
      after_pair is_scratch 31 s (Jalr rd a (pos 0)) (Jalr rd 31 (pos 0)) a 25 24 v (λ z. omega arith) (omega arith) refl is (λ z. omega arith) stand.0 stand.1.0 stand.1.1.0
      (let start = subst (λ (n : ℕ). IsBundleStart c n) to keeps in unmasked_code Sfi1 4 refl c d s.hart v (omega arith) regions reserved start.held start.aligned)
      (λ h aside e. jumps_same is_scratch rd 31 a (pos 0) h (with_pc s.hart h.pc) s.memory aside (ap (λ n. offset_by n (pos 0)) e));
}

-- a jump's offset isn't 0
sum_transparent : (rd a : ℕ) (imm : ℤ) → IsTransparent (Jalr rd a imm) (Wide (OpImm Addi 31 a imm) ∷ (code_pair_slots 31 ++ jump_to_x31 rd ∷ []))
sum_transparent rd a imm = record {
  before = Wide (OpImm Addi 31 a imm) ∷ code_pair_slots 31;
  last = jump_to_x31 rd;
  slots_are = refl;
  does = λ c d s asked keep.
      let regions = asked.regions in let is = asked.is_state in let reserved = asked.reserved in let stand = asked.stand in
      let v = offset_by (register s.hart a) imm in
      after_sum s (Jalr rd a imm) (Jalr rd 31 (pos 0)) a 25 24 imm is (λ z. omega arith) (λ z. omega arith) stand.0 stand.1.0 stand.1.1.0 stand.1.1.1.0
      (unmasked_code Sfi1 4 refl c d s.hart v (omega arith) regions reserved keep.held keep.aligned)
      (λ h aside e. jumps_same is_scratch rd 31 a imm h (with_pc s.hart h.pc) s.memory aside (ap (λ n. offset_by n (pos 0)) e ∙ plus_zero v (plus_fits (register s.hart a) imm)));
}

jumps_transparent : (rd a : ℕ) (imm : ℤ) → IsTransparent (Jalr rd a imm) (jump_slots rd a imm)
jumps_transparent rd a (pos zero) = jump_transparent rd a
jumps_transparent rd a (pos (suc n)) = sum_transparent rd a (pos (suc n))
jumps_transparent rd a (negsuc n) = sum_transparent rd a (negsuc n)

-- ---- an instruction that is its own expansion

stays_there : (pc : ℕ) → pc < 2 ^ 32 → pc ≡ address_after pc 0
stays_there pc h = omega arith

-- what stands for an instruction does it
pub one_does : (is_own : ℕ → Bool) (s : State) (i : Instr) (x : BundleSlot) → IsState s → Stands s i (slot_size x) → DoesAs is_own s i [] x
one_does is_own s i x is stand = record {
  there = s;
  leads = refl;
  place = stays_there s.hart.pc is.hart.address;
  result = effect i (slot_size x) s.hart s.memory;
  step = does s i (slot_size x) stand;
  same = record { outcome = refl; pc = refl; registers = λ r other. refl; memory = refl };
}

-- one slot, which stands for the instruction
one_transparent : (i : Instr) (x : BundleSlot) → ((s : State) → SlotStands i s x → Stands s i (slot_size x)) → IsTransparent i (x ∷ [])
one_transparent i x stands = record { before = []; last = x; slots_are = refl; does = λ c d s asked keeps. one_does is_scratch s i x asked.is_state (stands s asked.stand.0) }

wide_transparent : (i : Instr) → IsTransparent i (Wide i ∷ [])
wide_transparent i = one_transparent i (Wide i) (λ s stand. stand)

short_transparent : (i : Instr) (f : Form16) → expansion f ≡ i → IsTransparent i (Short f ∷ [])
short_transparent i f e = one_transparent i (Short f) (λ s stand. subst (λ (j : Instr). Stands s j 2) e stand)

pub alone_transparent : (rvc : Bool) (i : Instr) (slots : List BundleSlot) → IsAlone rvc i slots → IsTransparent i slots
alone_transparent false i slots e = subst (λ (l : List BundleSlot). IsTransparent i l) (sym e) (wide_transparent i)
alone_transparent true i slots (inl s) = subst (λ (l : List BundleSlot). IsTransparent i l) (sym s.2) (short_transparent i s.0 s.1.expands)
alone_transparent true i slots (inr w) = subst (λ (l : List BundleSlot). IsTransparent i l) (sym w.1) (wide_transparent i)

-- a slot that waits for its name
pub named_transparent : (i : Instr) (x : BundleSlot) → slot_size x ≡ 4 → ((s : State) → SlotStands i s x → Stands s i 4) → IsTransparent i (x ∷ [])
named_transparent i x size stands = one_transparent i x (λ s stand. subst (λ (n : ℕ). Stands s i n) (sym size) (stands s stand))

-- ---- any expansion

pub of_masked : (f : Format) (rvc : Bool) (i : Instr) (slots : List BundleSlot)
    → names_withheld f i ≡ false → IsMasked rvc i slots → IsTransparent i slots
of_masked f rvc (Load kind rd a imm) slots n e = subst (λ (l : List BundleSlot). IsTransparent (Load kind rd a imm) l) (sym e) (load_transparent kind rd a imm)
of_masked f rvc (Store width a rs2 imm) slots n e =
    let h = or_parts (is_withheld f a) (is_withheld f rs2) n in
    subst (λ (l : List BundleSlot). IsTransparent (Store width a rs2 imm) l) (sym e) (store_transparent width a rs2 imm (not_withheld f rs2 h.1))
of_masked f rvc (Jalr rd a imm) slots n e = subst (λ (l : List BundleSlot). IsTransparent (Jalr rd a imm) l) (sym e) (jumps_transparent rd a imm)
of_masked f rvc other slots n e = alone_transparent rvc other slots e
