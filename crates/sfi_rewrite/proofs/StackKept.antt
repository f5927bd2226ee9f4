-- What each expansion does.
use Rattle.sfi_rewrite.proofs.Prelude.{◌≡◌, ◌≢◌, ℕ, ◌+◌, ◌*◌, ◌%◌, ◌^◌, next, ◌==◌, ◌&&◌, List, [], ◌∷◌, Bool, true, false, Option, Some, None, inl, inr, refl, sym, ap, ◌∙◌, subst, arith, bit_and, bit_or, MatchBool, eqb-true, true≢false, and_parts, and_right, And, Or, LoadKind, Instr, Op, OpImm, Load, Branch, Jal, Jalr, Lui, Auipc, Format, has_stack, is_stack, Bytes, address_after, loaded, Hart, State, IsState, register, with_register, with_pc, past, Stepped, Stands, after_load, effect, IsStep, Body, Plain, To, High, Low, Base, BundleSlot, Wide, Jump, Upper, Lower, Region, slot_size, IsAlone, IsMasked, IsExpansionOf, writes_stack, is_on_stack, is_stack_write, jumps_or_loads_x2, stack_pair, put_back, ExpansionsAreTransparent, AreRegions, HasReserved, SlotStands, IsTransparent, put_back_at, KeepsStack, ActsAs, IsAimed, MayBe, further, StandInRow, LeadsTo, LeadTo, load_size, Next, offset_by, Addi, Add, Span, names_withheld, item_names_withheld, masked}
use Rattle.sfi_formats.specs.declared.format.Format.TheVariants.{Sfi1}
use Rattle.rv_word.specs.Outlines.{writes_register, is_register, destination}
use Rattle.rv_step.proofs.Facts.{pair_leaves, step_keeps_state}
use Rattle.rv_step.proofs.Pairs.{written_elsewhere}
use Rattle.sfi_rewrite.proofs.Masks.{masked_data}
use Rattle.sfi_rewrite.proofs.Transparent.{stands_at, does, twelve, alone_transparent, named_transparent, of_masked}
use Rattle.sfi_image.specs.Parts.{reserved_for}

abbrev pub is_jump : Instr → Bool
is_jump (Jal rd offset) = true
is_jump (Jalr rd rs1 imm) = true
is_jump _ = false

-- ---- what an instruction writes

abbrev pub is_auipc : Instr → Bool
is_auipc (Auipc rd imm) = true
is_auipc _ = false

-- at the pc p with k bytes i writes what it writes with n bytes at the hart's own, in d alone
pub record Writes (i : Instr) (n k p d : ℕ) (h : Hart) (m : Bytes) : Type 0 where
  pub value : ℕ
  pub here : effect i n h m ≡ next (with_register (past h n) d value) m
  pub there : effect i k (with_pc h p) m ≡ next (with_register (past (with_pc h p) k) d value) m

load_writes : (o : Option ℕ) (kind : LoadKind) (rd at n k p : ℕ) (h : Hart) (m : Bytes) → (after_load o kind rd at n h m).outcome ≡ Next
    → (v : ℕ) × (after_load o kind rd at n h m ≡ next (with_register (past h n) rd v) m) × (after_load o kind rd at k (with_pc h p) m ≡ next (with_register (past (with_pc h p) k) rd v) m)
load_writes None kind rd at n k p h m done = absurd (cc)
load_writes (Some v) kind rd at n k p h m done = (_, refl, refl)

-- of a jump nothing is said, and of auipc where the pc is the same
pub writes : (i : Instr) (n k p d : ℕ) (h : Hart) (m : Bytes) → destination i ≡ Some d → is_jump i ≡ false → (is_auipc i ≡ true → p ≡ h.pc) → (effect i n h m).outcome ≡ Next → Writes i n k p d h m
writes (Op op rd a b) n k p d h m e j u done = let same : rd ≡ d = cc in subst (λ r. Writes (Op op rd a b) n k p r h m) same (record { value = _; here = refl; there = refl })
writes (OpImm op rd a imm) n k p d h m e j u done = let same : rd ≡ d = cc in subst (λ r. Writes (OpImm op rd a imm) n k p r h m) same (record { value = _; here = refl; there = refl })
writes (Load kind rd a imm) n k p d h m e j u done =
    let same : rd ≡ d = cc in
    let w = load_writes (loaded m (offset_by (register h a) imm) (load_size kind)) kind rd (offset_by (register h a) imm) n k p h m done in
    subst (λ r. Writes (Load kind rd a imm) n k p r h m) same (record { value = w.0; here = w.1; there = w.2 })
writes (Lui rd imm) n k p d h m e j u done = let same : rd ≡ d = cc in subst (λ r. Writes (Lui rd imm) n k p r h m) same (record { value = _; here = refl; there = refl })
writes (Auipc rd imm) n k p d h m e j u done =
    let same : rd ≡ d = cc in
    let at = u refl in
    subst (λ r. Writes (Auipc rd imm) n k p r h m) same
    (record { value = (h.pc + imm * 4096) % 2 ^ 32; here = refl; there = ap (λ (q : ℕ). next (with_register (past (with_pc h p) k) rd ((q + imm * 4096) % 2 ^ 32)) m) at })
writes (Jal rd offset) n k p d h m e j u done = absurd (true≢false j)
writes (Jalr rd a imm) n k p d h m e j u done = absurd (true≢false j)
writes other n k p d h m e j u done = absurd (cc)

-- the register that it writes
destined : (o : Option ℕ) (r : ℕ) → is_register r o ≡ true → o ≡ Some r
destined None r h = absurd (true≢false (sym h))
destined (Some d) r h = ap Some (eqb-true d r h)

-- ---- the pair after it

-- from the state after i, of which we know that it is s with x2 written
from_there : (c d : Span) (s one : State) (v : ℕ) → AreRegions c d → IsState one → HasReserved Sfi1 (reserved_for Sfi1 c d) s.hart.registers
    → one ≡ record { hart = with_register (past s.hart 4) 2 v; memory = s.memory }
    → Stands (further s 4) (Op And 2 2 27) 4 → Stands (further (further s 4) 4) (Op Or 2 2 26) 4
    → LeadTo 2 one (put_back_at d one (address_after s.hart.pc 12))
from_there c d s one v regions is reserved e second third =
    let h = one.hart in
    let pc : h.pc ≡ address_after s.hart.pc 4 = ap (λ (x : State). x.hart.pc) e in
    let memory : one.memory ≡ s.memory = ap (λ (x : State). x.memory) e in
    let other : (r : ℕ) → r ≢ 2 → register h r ≡ register s.hart r =
    λ r ne. ap (λ (x : State). register x.hart r) e ∙ written_elsewhere (past s.hart 4) 2 v r (λ z. omega arith) ne in
    let now : HasReserved Sfi1 (reserved_for Sfi1 c d) h.registers =
    record {
      code_base = other 24 (λ z. omega arith) ∙ reserved.code_base;
      code_mask = other 25 (λ z. omega arith) ∙ reserved.code_mask;
      data_base = λ two. other 26 (λ z. omega arith) ∙ reserved.data_base two;
      data_mask = other 27 (λ z. omega arith) ∙ reserved.data_mask;
    } in
    let row : StandInRow one (Op And 2 2 27 ∷ Op Or 2 2 26 ∷ []) = (
      stands_at (further s 4) one (Op And 2 2 27) 4 pc memory second,
      (stands_at (further (further s 4) 4) (further one 4) (Op Or 2 2 26) 4 (ap (λ p. address_after p 4) pc) memory third, tt),
    ) in
    let left = pair_leaves one 2 2 27 26 is (λ z. omega arith) (λ z. omega arith) row in
    let value = masked_data Sfi1 refl c d h (register h 2) regions now in
    let end : address_after h.pc 8 ≡ address_after s.hart.pc 12 = ap (λ p. address_after p 8) pc ∙ twelve s.hart.pc in
    let state : with_register (past h 8) 2 (bit_or (bit_and (register h 2) (register h 27)) (register h 26)) ≡ with_register (with_pc h (address_after s.hart.pc 12)) 2 (masked d (register h 2)) =
    ap (λ n. with_register (past h 8) 2 n) value ∙ ap (λ p. with_register (with_pc h p) 2 (masked d (register h 2))) end in
    subst (λ (k : Hart). LeadTo 2 one (record { hart = k; memory = one.memory })) state left

pub done_is : (x : Stepped) → x.outcome ≡ Next → x ≡ record { outcome = Next; state = x.state }
done_is x e = ap (λ o. let y : Stepped = record { outcome = o; state = x.state } in y) e

-- i and the pair
keeps_stack : (i : Instr) (x : BundleSlot) → writes_register 2 i ≡ true → is_jump i ≡ false → slot_size x ≡ 4 → ((s : State) → SlotStands i s x → Stands s i 4)
    → KeepsStack i (x ∷ stack_pair)
keeps_stack i x writer no_jump size stands = record {
  does = λ c d s asked done.
      let regions = asked.regions in let is = asked.is_state in let reserved = asked.reserved in let stand = asked.stand in
      let r = effect i 4 s.hart s.memory in
      let step : LeadsTo s r.state = subst (λ (y : Stepped). IsStep s y) (done_is r done) (does s i 4 (stands s stand.0)) in
      let only = writes i 4 4 s.hart.pc 2 s.hart s.memory (destined (destination i) 2 writer) no_jump (λ u. refl) done in
      let second : Stands (further s 4) (Op And 2 2 27) 4 = subst (λ (n : ℕ). Stands (further s n) (Op And 2 2 27) 4) size stand.1.0 in
      let third : Stands (further (further s 4) 4) (Op Or 2 2 26) 4 = subst (λ (n : ℕ). Stands (further (further s n) 4) (Op Or 2 2 26) 4) size stand.1.1.0 in
      let end : 12 ≡ 0 + slot_size x + 4 + 4 = omega arith in
      subst (λ (n : ℕ). LeadTo 3 s (put_back_at d r.state (address_after s.hart.pc n))) end
      (r.state, step, from_there c d s r.state only.value regions (step_keeps_state s _ is step) reserved (ap (λ (y : Stepped). y.state) only.here) second third);
  stops = λ c d s asked stop. does s i 4 (stands s asked.stand.0);
}

-- ---- the expansions

-- an instruction: it writes the stack pointer, is an access on it, or neither
of_plain : (f : Format) (writes on rvc : Bool) (i : Instr) (slots : List BundleSlot) → (writes ≡ true → (writes_register 2 i ≡ true) × (is_jump i ≡ false)) → names_withheld f i ≡ false
    → MatchBool writes (slots ≡ Wide i ∷ stack_pair) (MatchBool on (IsAlone rvc i slots) (IsMasked rvc i slots)) → MatchBool writes (KeepsStack i slots) (IsTransparent i slots)
of_plain f true on rvc i slots w n h =
    subst (λ (l : List BundleSlot). KeepsStack i l) (sym h) (keeps_stack i (Wide i) (w refl).0 (w refl).1 refl (λ s st. st))
of_plain f false true rvc i slots w n h = alone_transparent rvc i slots h
of_plain f false false rvc i slots w n h = of_masked f rvc i slots n h

no_jump_writes : (i : Instr) → jumps_or_loads_x2 (Plain i) ≡ false → writes_register 2 i ≡ true → is_jump i ≡ false
no_jump_writes (Jal rd offset) h w = absurd (true≢false (sym w ∙ h))
no_jump_writes (Jalr rd rs1 imm) h w = absurd (true≢false (sym w ∙ h))
no_jump_writes _ h w = refl

-- where the format has a stack pointer that i writes, and which i may write, i is no jump
writer : (has : Bool) (i : Instr) → (has && jumps_or_loads_x2 (Plain i)) ≡ false → (has && writes_register 2 i) ≡ true → (writes_register 2 i ≡ true) × (is_jump i ≡ false)
writer true i h w = (w, no_jump_writes i h w)
writer false i h w = cc

-- a half of an address, to the stack pointer or to another register
at_half : (has : Bool) (i : Instr) (rd : ℕ) (x : BundleSlot) (slots : List BundleSlot) → writes_register 2 i ≡ (rd == 2) → is_jump i ≡ false → slot_size x ≡ 4
    → ((s : State) → SlotStands i s x → Stands s i 4) → slots ≡ x ∷ put_back (has && (rd == 2)) → MatchBool (has && writes_register 2 i) (KeepsStack i slots) (IsTransparent i slots)
at_half has i rd x slots e no_jump size stands h =
    subst (λ (b : Bool). MatchBool (has && b) (KeepsStack i slots) (IsTransparent i slots)) (sym e) (cases (has && (rd == 2)) (λ both. e ∙ (and_parts has (rd == 2) both).1) h)
  where
    cases : (b : Bool) → (b ≡ true → writes_register 2 i ≡ true) → slots ≡ x ∷ put_back b → MatchBool b (KeepsStack i slots) (IsTransparent i slots)
    cases true w z = subst (λ (l : List BundleSlot). KeepsStack i l) (sym z) (keeps_stack i x (w refl) no_jump size stands)
    cases false w z = subst (λ (l : List BundleSlot). IsTransparent i l) (sym z) (named_transparent i x size stands)

-- a jump or a branch to a name doesn't write the stack pointer
aimed : (b : Bool) (j i : Instr) (name line : ℕ) (slots : List BundleSlot) → b ≡ false → slots ≡ Jump j name line ∷ [] → MatchBool b (KeepsStack i slots) (IsTransparent i slots)
aimed true j i name line slots f h = absurd (true≢false f)
aimed false j i name line slots f h = subst (λ (l : List BundleSlot). IsTransparent i l) (sym h) (named_transparent i (Jump j name line) refl (λ s st. st))

to_name : (f : Format) (j i : Instr) (name line : ℕ) (slots : List BundleSlot) → IsAimed j i → is_stack_write f (To j name) ≡ false → slots ≡ Jump j name line ∷ [] → ActsAs f i slots
to_name f (Jal rd offset) i name line slots a w h =
    subst (λ (k : Instr). ActsAs f k slots) (sym a.1) (aimed (is_stack f rd) (Jal rd offset) (Jal rd a.0) name line slots w h)
to_name f (Branch cond rs1 rs2 offset) i name line slots a w h =
    subst (λ (k : Instr). ActsAs f k slots) (sym a.1)
    (aimed (writes_stack f (Branch cond rs1 rs2 a.0)) (Branch cond rs1 rs2 offset) (Branch cond rs1 rs2 a.0) name line slots (and_right (has_stack f) false refl) h)
to_name f _ i name line slots a w h = absurd a

of_body : (f : Format) (line : ℕ) (rvc : Bool) (body : Body) (i : Instr) (slots : List BundleSlot) → MayBe body i → item_names_withheld f body ≡ false
    → is_stack_write f body ≡ false → IsExpansionOf f line rvc body slots → ActsAs f i slots
of_body f line rvc (Plain j) i slots be n w h =
    subst (λ (k : Instr). ActsAs f k slots) (sym be) (of_plain f (writes_stack f j) (is_on_stack f j) rvc j slots (writer (has_stack f) j w) n h)
of_body f line rvc (To j name) i slots be n w h = to_name f j i name line slots be w h
of_body f line rvc (High rd name) i slots be n w h =
    subst (λ (k : Instr). ActsAs f k slots) (sym be.1)
    (at_half (has_stack f) (Lui rd be.0) rd (Upper rd name line) slots refl refl refl (λ s st. st) h)
of_body f line rvc (Low rd name) i slots be n w h =
    subst (λ (k : Instr). ActsAs f k slots) (sym be.1)
    (at_half (has_stack f) (OpImm Addi rd rd be.0) rd (Lower rd name line) slots refl refl refl (λ s st. st) h)
of_body f line rvc (Base rd name) i slots be n w h =
    elim be [ inl e ↦ adds 26 e | inr e ↦ adds 24 e ]
  where
    adds : (base : ℕ) → i ≡ Op Add rd rd base → ActsAs f i slots
    adds base e = subst (λ (k : Instr). ActsAs f k slots) (sym e) (at_half (has_stack f) (Op Add rd rd base) rd (Region rd name line) slots refl refl refl (λ s st. st) h)

pub all_transparent : ExpansionsAreTransparent
all_transparent f x i slots be p h = of_body f x.line x.rvc x.body i slots be p.operands p.no_stack_write h
