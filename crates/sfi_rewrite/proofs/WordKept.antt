-- The expansion in words acts as its instruction: what writes a data register keeps what that leaves.
use Rattle.sfi_rewrite.proofs.Prelude.{◌≡◌, ◌≢◌, ℕ, zero, suc, ◌+◌, ◌%◌, ◌^◌, ◌<◌, ◌==◌, ◌&&◌, List, [], ◌∷◌, ◌++◌, length, Bool, true, false, MatchBool, Option, Some, None, inl, inr, refl, sym, ap, ◌∙◌, subst, arith, length-append, append_assoc, append-nil, eqb-true, true≢false, and_parts, or_parts, ℤ, pos, negsuc, And, Or, LoadKind, Instr, Op, OpImm, Load, Store, Jal, Jalr, Branch, Lui, Auipc, Bytes, address_after, Hart, State, IsState, register, with_register, past, Stepped, Stands, next, effect, IsStep, Item, Body, Plain, To, High, Low, Base, BundleSlot, Wide, Jump, Upper, Lower, Region, slot_size, size_of, IsAlone, HasReserved, SlotStands, IsAskedOf, IsAimed, MayBe, not, ◌||◌, if◌then◌else◌, destination, Addi, StoreWidth, Add, further, LeadsTo, LeadTo, Next, Format, has_words, has_single_mask, IsPermitted, is_data_register, Span, SlotsStand, is_withheld, names_withheld, item_names_withheld}
use Rattle.sfi_rewrite.specs.Laws.{WordExpansionsAreTransparent}
use Rattle.sfi_rewrite.specs.words.Expansion.{is_made_on_x26, IsConfined, IsAround, IsExpansionOf, before, after, data_mask, mask_after, is_move, moved, is_step_before_use, is_step_to, is_zero, is_barred_jump}
use Rattle.sfi_rewrite.specs.words.Transparency.{is_own, meant, masked_in, IsTransparent, KeepsData, ActsBy, ActsAs}
use Rattle.rv_step.proofs.Facts.{step_keeps_state}
use Rattle.rv_step.proofs.Pairs.{written_here, written_elsewhere}
use Rattle.sfi_rewrite.proofs.Sizes.{size_of-append, size_of-cons}
use Rattle.sfi_formats.specs.Formats.{is_reserved}
use Rattle.sfi_formats.specs.Formats as policy
use Rattle.sfi_rewrite.proofs.StackKept.{is_jump, is_auipc, writes, done_is}
use Rattle.sfi_rewrite.proofs.Aside.{added, plus_zero}
use Rattle.sfi_rewrite.proofs.WordTransparent.{stand_before, stand_after, stand_same, IsOneFor, one_for, masks, mask_leaves, not_31, one_transparent, load_transparent, store_transparent, load_alone, store_alone, jump_transparent}
use Rattle.sfi_image.specs.Parts.{reserved_for}

-- ---- what an instruction writes

-- what an instruction means writes what it writes, and jumps where it does
meant_writes : (f : Format) (i : Instr) → destination (meant f i) ≡ destination i
meant_writes f (Load kind rd a imm) = refl
meant_writes f (Store width a rs2 imm) = refl
meant_writes f other = refl

meant_jumps : (f : Format) (i : Instr) → is_jump (meant f i) ≡ is_jump i
meant_jumps f (Load kind rd a imm) = refl
meant_jumps f (Store width a rs2 imm) = refl
meant_jumps f other = refl

meant_auipc : (f : Format) (i : Instr) → is_auipc (meant f i) ≡ is_auipc i
meant_auipc f (Load kind rd a imm) = refl
meant_auipc f (Store width a rs2 imm) = refl
meant_auipc f other = refl

-- ---- the register that is written

-- a data register that a source names
named_by : (a b c e : Bool) (d : ℕ) → (d == 2) ≡ a → (d == 3) ≡ b → (d == 4) ≡ c → (d == 29) ≡ e → (a || b || c || e) ≡ true → is_own d ≡ false → d < 5
named_by true b c e d p q r s any own = let z = eqb-true d 2 p in omega arith
named_by false true c e d p q r s any own = let z = eqb-true d 3 q in omega arith
named_by false false true e d p q r s any own = let z = eqb-true d 4 r in omega arith
named_by false false false true d p q r s any own = absurd (let z : d ≡ 29 = eqb-true d 29 s in true≢false (sym (ap is_own z) ∙ own))
named_by false false false false d p q r s any own = absurd (true≢false (sym any))

low : (d : ℕ) → is_data_register d ≡ true → is_own d ≡ false → d < 5
low d typed own = named_by (d == 2) (d == 3) (d == 4) (d == 29) d refl refl refl refl typed own

not_zero : (d : ℕ) → is_data_register d ≡ true → d ≢ 0
not_zero d typed e = let z = ap is_data_register e in cc

-- what isn't withheld is none of the expansions' own
own_of : (reserved a b c : Bool) → (reserved || a || b || c) ≡ false → (a || b || c) ≡ false
own_of true a b c h = absurd (true≢false h)
own_of false a b c h = h

pub withheld_in_words : (f : Format) (r : ℕ) → has_words f ≡ true → is_withheld f r ≡ false → (is_reserved r || (r == 29) || (r == 30) || (r == 31)) ≡ false
withheld_in_words f r is_in_words h = sym (ap (λ (w : Bool). if w then is_reserved r || (r == 29) || (r == 30) || (r == 31) else policy.is_withheld r) is_in_words) ∙ h

not_own : (f : Format) (r : ℕ) → has_words f ≡ true → is_withheld f r ≡ false → is_own r ≡ false
not_own f r is_in_words h = own_of (is_reserved r) (r == 29) (r == 30) (r == 31) (withheld_in_words f r is_in_words h)

-- in words a permitted item is no barred jump
pub unbarred : (f : Format) (x : Item) → has_words f ≡ true → IsPermitted f x → is_barred_jump x.body ≡ false
unbarred f x is_in_words p = sym (ap (λ w. w && is_barred_jump x.body) is_in_words) ∙ p.no_barred_jump

pub written_free : (f : Format) (i : Instr) (d : ℕ) → destination i ≡ Some d → names_withheld f i ≡ false → is_withheld f d ≡ false
written_free f (Op op rd a b) d e n = let same : rd ≡ d = cc in subst (λ r. is_withheld f r ≡ false) same (or_parts (is_withheld f rd) (is_withheld f a) (or_parts (is_withheld f rd || is_withheld f a) (is_withheld f b) n).0).0
written_free f (OpImm op rd a imm) d e n = let same : rd ≡ d = cc in subst (λ r. is_withheld f r ≡ false) same (or_parts (is_withheld f rd) (is_withheld f a) n).0
written_free f (Load kind rd a imm) d e n = let same : rd ≡ d = cc in subst (λ r. is_withheld f r ≡ false) same (or_parts (is_withheld f rd) (is_withheld f a) n).0
written_free f (Jal rd offset) d e n = let same : rd ≡ d = cc in subst (λ r. is_withheld f r ≡ false) same n
written_free f (Jalr rd a imm) d e n = let same : rd ≡ d = cc in subst (λ r. is_withheld f r ≡ false) same (or_parts (is_withheld f rd) (is_withheld f a) n).0
written_free f (Lui rd imm) d e n = let same : rd ≡ d = cc in subst (λ r. is_withheld f r ≡ false) same n
written_free f (Auipc rd imm) d e n = let same : rd ≡ d = cc in subst (λ r. is_withheld f r ≡ false) same n
written_free f other d e n = absurd (cc)

-- ---- the steps one after another

led_through : (n m : ℕ) (s t u : State) → LeadTo n s t → LeadTo m t u → LeadTo (n + m) s u
led_through zero m s t u a b =
    let e : m ≡ zero + m = omega arith in
    subst (λ (k : ℕ). LeadTo k s u) e (subst (λ (v : State). LeadTo m v u) a b)
led_through (suc n) m s t u a b =
    let e : suc (n + m) ≡ suc n + m = omega arith in
    subst (λ (k : ℕ). LeadTo k s u) e (a.0, a.1, led_through n m a.0 t u a.2 b)

led_state : (n : ℕ) (s t : State) → LeadTo n s t → IsState s → IsState t
led_state zero s t a is = subst IsState (sym a) is
led_state (suc n) s t a is = led_state n a.0 t a.2 (step_keeps_state s (record { outcome = Next; state = a.0 }) is a.1)

one_step : (s t : State) → LeadsTo s t → LeadTo 1 s t
one_step s t a = (t, a, refl)

-- ---- the mask after a write

-- the reserved registers where d alone was written, and the expansions' own
reserved_still : (f : Format) (c d_at : Span) (s t : State) (d : ℕ) → d < 5 → HasReserved f (reserved_for f c d_at) s.hart.registers
    → ((x : ℕ) → is_own x ≡ false → x ≢ d → register t.hart x ≡ register s.hart x) → HasReserved f (reserved_for f c d_at) t.hart.registers
reserved_still f c d_at s t d small reserved same = record {
  code_base = same 24 refl (λ e. omega arith) ∙ reserved.code_base;
  code_mask = same 25 refl (λ e. omega arith) ∙ reserved.code_mask;
  data_base = λ two. same 26 refl (λ e. omega arith) ∙ reserved.data_base two;
  data_mask = same 27 refl (λ e. omega arith) ∙ reserved.data_mask;
}

-- slots that are transparent to i, which writes d, and the mask of d
masked_keeps : (f : Format) (i : Instr) (d : ℕ) (slots : List BundleSlot) → destination i ≡ Some d → is_jump i ≡ false → is_data_register d ≡ true → is_own d ≡ false
    → (t : IsTransparent f i slots) → (is_auipc i ≡ true → t.before ≡ []) → KeepsData f d i (slots ++ data_mask f d d)
masked_keeps f i d slots writer no_jump typed own t first = record {
  does = λ c d_at s asked keeps done.
      let mask = data_mask f d d in
      let small = low d typed own in
      let some = not_zero d typed in
      let pc_small = asked.is_state.hart.address in
      let size = ap size_of t.slots_are ∙ size_of-append t.before (t.last ∷ []) in
      let last_size = size_of-cons t.last [] in
      let all_size = size_of-append slots mask in
      let no_size : size_of [] ≡ 0 = refl in
      let r = t.does c d_at s (asked_before c d_at s asked) keeps in
      let there = r.there in
      let n = slot_size t.last in
      let p = there.hart.pc in
      let w = writes (meant f i) 4 n p d s.hart s.memory (meant_writes f i ∙ writer) (meant_jumps f i ∙ no_jump)
      (λ is. r.place ∙ ap (λ v. address_after s.hart.pc (size_of v)) (first (sym (meant_auipc f i) ∙ is)) ∙ (let z : address_after s.hart.pc 0 ≡ s.hart.pc = omega arith in z)) done in
      let one = r.result.state in
      let outcome : r.result.outcome ≡ Next = r.same.outcome ∙ ap (λ (x : Stepped). x.outcome) w.there in
      let step : LeadsTo there one = subst (λ (x : Stepped). IsStep there x) (done_is r.result outcome) r.step in
      let memory : one.memory ≡ s.memory = r.same.memory ∙ ap (λ (x : Stepped). x.state.memory) w.there in
      let pc : one.hart.pc ≡ address_after s.hart.pc (size_of slots) =
      r.same.pc ∙ ap (λ (x : Stepped). x.state.hart.pc) w.there ∙ ap (λ v. address_after v n) r.place ∙ omega arith in
      -- registers after it, but those of the expansions
      let left : (x : ℕ) → is_own x ≡ false → register one.hart x ≡ register (effect (meant f i) 4 s.hart s.memory).state.hart x =
      λ x other. r.same.registers x other ∙ ap (λ (y : Stepped). register y.state.hart x) w.there ∙ sym (ap (λ (y : Stepped). register y.state.hart x) w.here) in
      let elsewhere : (x : ℕ) → is_own x ≡ false → x ≢ d → register one.hart x ≡ register s.hart x =
      λ x other ne. left x other ∙ ap (λ (y : Stepped). register y.state.hart x) w.here ∙ written_elsewhere (past s.hart 4) d w.value x some ne in
      let is_one : IsState one = led_state (length t.before + 1) s one (led_through (length t.before) 1 s there one r.leads (one_step there one step)) asked.is_state in
      let stands : SlotsStand i one mask = stand_same i (further s (size_of slots)) one mask pc memory (stand_after i s slots mask pc_small asked.stand) in
      let m = masks f i one d d is_one some (let z = small in omega arith) stands in
      let end = m.0 in
      let value = mask_leaves f c d_at one end d d asked.regions (reserved_still f c d_at s one d small asked.reserved elsewhere) m.1 in
      let count : length t.before + (1 + length mask) ≡ length (slots ++ mask) = slots_count t.before t.last slots mask t.slots_are in (
        end,
        subst (λ (v : ℕ). LeadTo v s end) count
            (led_through (length t.before) (1 + length mask) s there end r.leads (led_through 1 (length mask) there one end (one_step there one step) m.1.leads)),
        record {
          pc = m.1.pc ∙ ap (λ v. address_after v (size_of mask)) pc ∙ omega arith;
          value = value ∙ ap (masked_in f d_at) (left d own);
          others = λ x other ne. m.1.others x ne (not_31 x other) ∙ left x other;
          memory = m.1.memory ∙ memory ∙ sym (ap (λ (y : Stepped). y.state.memory) w.here);
        },
      );
  stops = λ c d_at s asked keeps stop. record {
    before = t.before;
    last = t.last;
    rest = data_mask f d d;
    slots_are = ap (λ v. v ++ data_mask f d d) t.slots_are ∙ append_assoc t.before (t.last ∷ []) (data_mask f d d);
    does = t.does c d_at s (asked_before c d_at s asked) keeps;
  };
}
  where
    asked_before : (c d_at : Span) (s : State) → IsAskedOf f i (slots ++ data_mask f d d) c d_at s → IsAskedOf f i slots c d_at s
    asked_before c d_at s asked = record {
      regions = asked.regions;
      masked_base = asked.masked_base;
      is_state = asked.is_state;
      reserved = asked.reserved;
      stand = stand_before i s slots (data_mask f d d) asked.stand;
    }

    slots_count : (front : List BundleSlot) (last : BundleSlot) (all mask : List BundleSlot) → all ≡ front ++ last ∷ [] → length front + (1 + length mask) ≡ length (all ++ mask)
    slots_count front last all mask e =
        let a = ap (λ v. length (v ++ mask)) e in
        let b : length ((front ++ last ∷ []) ++ mask) ≡ length (front ++ last ∷ mask) = ap length (append_assoc front (last ∷ []) mask) in
        let c = length-append front (last ∷ mask) in
        let one : length (last ∷ mask) ≡ 1 + length mask = omega arith in
        omega arith

-- ---- a move to a data register, by the mask alone

-- what i leaves is a's value in d
move_keeps : (f : Format) (i : Instr) (d a : ℕ) → is_data_register d ≡ true → is_own d ≡ false
    → ((h : Hart) (m : Bytes) → IsState (record { hart = h; memory = m }) → effect (meant f i) 4 h m ≡ next (with_register (past h 4) d (register h a)) m) → KeepsData f d i (data_mask f d a)
move_keeps f i d a typed own moves = record {
  does = λ c d_at s asked keeps done.
      let small = low d typed own in
      let some = not_zero d typed in
      let is = asked.is_state in
      let e = moves s.hart s.memory is in
      let count = is.hart.count in
      let now : register (effect (meant f i) 4 s.hart s.memory).state.hart d ≡ register s.hart a =
      ap (λ (y : Stepped). register y.state.hart d) e ∙ written_here (past s.hart 4) d (register s.hart a) some (omega arith) in
      let m = masks f i s d a is some (let z = small in omega arith) asked.stand in (
        m.0,
        m.1.leads,
        record {
          pc = m.1.pc;
          value = mask_leaves f c d_at s m.0 d a asked.regions asked.reserved m.1 ∙ ap (masked_in f d_at) (sym now);
          others = λ x other ne.
              m.1.others x ne (not_31 x other)
              ∙ sym (ap (λ (y : Stepped). register y.state.hart x) e ∙ written_elsewhere (past s.hart 4) d (register s.hart a) x some ne);
          memory = m.1.memory ∙ sym (ap (λ (y : Stepped). y.state.memory) e);
        },
      );
  stops = λ c d_at s asked keeps stop. absurd (stop (ap (λ (y : Stepped). y.outcome) (moves s.hart s.memory asked.is_state)));
}

-- ---- an instruction on the register that it goes by

-- what stands before it and it are transparent to it; before auipc nothing stands
record IsBefore (f : Format) (i : Instr) (slots : List BundleSlot) : Type 0 where
  transparent : IsTransparent f i slots
  first : is_auipc i ≡ true → transparent.before ≡ []

load_before : (f : Format) (typed made rvc : Bool) (kind : LoadKind) (rd a : ℕ) (imm : ℤ) (slots : List BundleSlot) → is_data_register a ≡ typed → is_made_on_x26 f a ≡ made
    → IsAlone rvc (Load kind rd (if typed then a else if made then 26 else 29) imm) slots → IsTransparent f (Load kind rd a imm) ((if typed || made then [] else data_mask f 29 a) ++ slots)
load_before f true true rvc kind rd a imm slots d z e = absurd (not_zero a d (eqb-true a 0 (and_parts (a == 0) (not (has_single_mask f)) z).0))
load_before f true false rvc kind rd a imm slots d z e = load_alone f rvc kind rd a imm slots (subst (λ (b : Bool). IsAlone rvc (Load kind rd (if b then 26 else a) imm) slots) (sym z) e)
load_before f false true rvc kind rd a imm slots d z e = load_alone f rvc kind rd a imm slots (subst (λ (b : Bool). IsAlone rvc (Load kind rd (if b then 26 else a) imm) slots) (sym z) e)
load_before f false false rvc kind rd a imm slots d z e = load_transparent f rvc kind rd a imm slots e d z

store_before : (f : Format) (typed made rvc : Bool) (width : StoreWidth) (a rs2 : ℕ) (imm : ℤ) (slots : List BundleSlot) → is_own rs2 ≡ false → is_data_register a ≡ typed → is_made_on_x26 f a ≡ made
    → IsAlone rvc (Store width (if typed then a else if made then 26 else 29) rs2 imm) slots → IsTransparent f (Store width a rs2 imm) ((if typed || made then [] else data_mask f 29 a) ++ slots)
store_before f true true rvc width a rs2 imm slots own d z e = absurd (not_zero a d (eqb-true a 0 (and_parts (a == 0) (not (has_single_mask f)) z).0))
store_before f true false rvc width a rs2 imm slots own d z e = store_alone f rvc width a rs2 imm slots (subst (λ (b : Bool). IsAlone rvc (Store width (if b then 26 else a) rs2 imm) slots) (sym z) e)
store_before f false true rvc width a rs2 imm slots own d z e = store_alone f rvc width a rs2 imm slots (subst (λ (b : Bool). IsAlone rvc (Store width (if b then 26 else a) rs2 imm) slots) (sym z) e)
store_before f false false rvc width a rs2 imm slots own d z e = store_transparent f rvc width a rs2 imm slots e own d z

not_false : (b : Bool) → not b ≡ false → b ≡ true
not_false true h = refl
not_false false h = absurd (true≢false h)

jump_before : (f : Format) (rd a : ℕ) (imm : ℤ) (slots : List BundleSlot) → has_words f ≡ true → (is_data_register rd || not (is_zero imm)) ≡ false → slots ≡ Wide (Jalr rd 30 imm) ∷ []
    → IsTransparent f (Jalr rd a imm) (Wide (Op And 30 a 25) ∷ Wide (Op Or 30 30 24) ∷ slots)
jump_before f rd a (pos zero) slots is_in_words b e = subst (λ (v : List BundleSlot). IsTransparent f (Jalr rd a (pos 0)) (Wide (Op And 30 a 25) ∷ Wide (Op Or 30 30 24) ∷ v)) (sym e) (jump_transparent f rd a is_in_words)
jump_before f rd a (pos (suc n)) slots is_in_words b e = absurd (let z : suc n ≡ 0 = eqb-true (suc n) 0 (not_false (suc n == 0) (or_parts (is_data_register rd) (not (suc n == 0)) b).1) in omega arith)
jump_before f rd a (negsuc n) slots is_in_words b e = absurd (true≢false (or_parts (is_data_register rd) true b).1)

confined_before : (f : Format) (rvc : Bool) (i : Instr) (slots : List BundleSlot) → has_words f ≡ true → names_withheld f i ≡ false → is_barred_jump (Plain i) ≡ false → IsConfined f rvc i slots → IsBefore f i (before f i ++ slots)
confined_before f rvc (Load kind rd a imm) slots is_in_words n b e =
    record { transparent = load_before f (is_data_register a) (is_made_on_x26 f a) rvc kind rd a imm slots refl refl e; first = λ is. absurd (true≢false (sym is)) }
confined_before f rvc (Store width a rs2 imm) slots is_in_words n b e = record {
  transparent = store_before f (is_data_register a) (is_made_on_x26 f a) rvc width a rs2 imm slots (not_own f rs2 is_in_words (or_parts (is_withheld f a) (is_withheld f rs2) n).1) refl refl e;
  first = λ is. absurd (true≢false (sym is));
}
confined_before f rvc (Jalr rd a imm) slots is_in_words n b e = record { transparent = jump_before f rd a imm slots is_in_words b e; first = λ is. absurd (true≢false (sym is)) }
confined_before f rvc other slots is_in_words n b e = record { transparent = one_transparent f other other slots (one_for rvc other other slots e) refl; first = λ is. refl }

-- ---- any instruction

no_jump : (i : Instr) (d : ℕ) → destination i ≡ Some d → is_data_register d ≡ true → is_barred_jump (Plain i) ≡ false → is_jump i ≡ false
no_jump (Jal rd offset) d e typed b = let same : rd ≡ d = cc in absurd (true≢false (sym typed ∙ sym (ap is_data_register same) ∙ b))
no_jump (Jalr rd a imm) d e typed b = let same : rd ≡ d = cc in absurd (true≢false (sym typed ∙ sym (ap is_data_register same) ∙ (or_parts (is_data_register rd) (not (is_zero imm)) b).0))
no_jump other d e typed b = refl

-- after what stands before it and it, the mask of what it writes, unless it is a step
acts : (f : Format) (typed step : Bool) (i : Instr) (d : ℕ) (front slots : List BundleSlot) → is_data_register d ≡ typed → destination i ≡ Some d → is_own d ≡ false → (is_data_register d ≡ true → is_jump i ≡ false)
    → IsBefore f i front → slots ≡ front ++ (if step then [] else if typed then data_mask f d d else []) → MatchBool (typed && not step) (KeepsData f d i slots) (IsTransparent f i slots)
acts f true true i d front slots is e own j t h = subst (λ (v : List BundleSlot). IsTransparent f i v) (sym (h ∙ append-nil front)) t.transparent
acts f true false i d front slots is e own j t h = subst (λ (v : List BundleSlot). KeepsData f d i v) (sym h) (masked_keeps f i d front e (j is) is own t.transparent t.first)
acts f false true i d front slots is e own j t h = subst (λ (v : List BundleSlot). IsTransparent f i v) (sym (h ∙ append-nil front)) t.transparent
acts f false false i d front slots is e own j t h = subst (λ (v : List BundleSlot). IsTransparent f i v) (sym (h ∙ append-nil front)) t.transparent

acts_by : (f : Format) (to : Option ℕ) (step : Bool) (i : Instr) (front slots : List BundleSlot) → destination i ≡ to → ((d : ℕ) → to ≡ Some d → is_own d ≡ false)
    → ((d : ℕ) → to ≡ Some d → is_data_register d ≡ true → is_jump i ≡ false) → IsBefore f i front → slots ≡ front ++ (if step then [] else mask_after f to) → ActsBy f to step i slots
acts_by f None true i front slots e own j t h = subst (λ (v : List BundleSlot). IsTransparent f i v) (sym (h ∙ append-nil front)) t.transparent
acts_by f None false i front slots e own j t h = subst (λ (v : List BundleSlot). IsTransparent f i v) (sym (h ∙ append-nil front)) t.transparent
acts_by f (Some d) step i front slots e own j t h = acts f (is_data_register d) step i d front slots refl e (own d refl) (j d refl) t h

around_acts : (f : Format) (rvc step : Bool) (i : Instr) (slots : List BundleSlot) → has_words f ≡ true → names_withheld f i ≡ false → is_barred_jump (Plain i) ≡ false → IsAround f rvc step i slots → ActsAs f step i slots
around_acts f rvc step i slots is_in_words n b h =
    acts_by f (destination i) step i (before f i ++ h.0) slots refl (λ d e. not_own f d is_in_words (written_free f i d e n)) (λ d e typed. no_jump i d e typed b)
    (confined_before f rvc i h.0 is_in_words n b h.1) (h.2 ∙ sym (append_assoc (before f i) h.0 (after f step i)))

-- a move by the mask alone
zero_is : (imm : ℤ) → is_zero imm ≡ true → imm ≡ pos 0
zero_is (pos n) h = ap pos (eqb-true n 0 h)
zero_is (negsuc n) h = absurd (true≢false (sym h))

moved_kept : (f : Format) (i j : Instr) (d a : ℕ) → is_data_register d ≡ true → is_own d ≡ false → i ≡ j
    → ((h : Hart) (m : Bytes) → IsState (record { hart = h; memory = m }) → effect (meant f j) 4 h m ≡ next (with_register (past h 4) d (register h a)) m) → KeepsData f d i (data_mask f d a)
moved_kept f i j d a typed own e moves = subst (λ k. KeepsData f d k (data_mask f d a)) (sym e) (move_keeps f j d a typed own moves)

move_acts : (f : Format) (i : Instr) → has_words f ≡ true → names_withheld f i ≡ false → is_move i ≡ true → ActsAs f false i (moved f i)
move_acts f (OpImm Addi d a imm) is_in_words n h =
    let both = and_parts (is_data_register d) (is_zero imm) h in
    let own = not_own f d is_in_words (or_parts (is_withheld f d) (is_withheld f a) n).0 in
    subst (λ (b : Bool). MatchBool (b && true) (KeepsData f d (OpImm Addi d a imm) (data_mask f d a)) (IsTransparent f (OpImm Addi d a imm) (data_mask f d a))) (sym both.0)
    (moved_kept f (OpImm Addi d a imm) (OpImm Addi d a (pos 0)) d a both.0 own (ap (λ z. OpImm Addi d a z) (zero_is imm both.1))
    (λ g m is. ap (λ v. next (with_register (past g 4) d v) m) (added (register g a) (pos 0) ∙ plus_zero (register g a) (is.hart.words a))))
move_acts f (Op Add d b a) is_in_words n h =
    let both = and_parts (is_data_register d) (b == 0) h in
    let own = not_own f d is_in_words (or_parts (is_withheld f d) (is_withheld f b) (or_parts (is_withheld f d || is_withheld f b) (is_withheld f a) n).0).0 in
    subst (λ (t : Bool). MatchBool (t && true) (KeepsData f d (Op Add d b a) (data_mask f d a)) (IsTransparent f (Op Add d b a) (data_mask f d a))) (sym both.0)
    (moved_kept f (Op Add d b a) (Op Add d 0 a) d a both.0 own (ap (λ z. Op Add d z a) (eqb-true b 0 both.1))
    (λ g m is. let z = is.hart.zero in let w = is.hart.words a in ap (λ v. next (with_register (past g 4) d v) m) (let e : (register g 0 + register g a) % 2 ^ 32 ≡ register g a = omega arith in e)))
move_acts f other is_in_words n h = absurd (true≢false (sym h))

plain_acts : (f : Format) (moves step rvc : Bool) (i : Instr) (slots : List BundleSlot) → (is_move i && not step) ≡ moves → has_words f ≡ true → names_withheld f i ≡ false → is_barred_jump (Plain i) ≡ false
    → MatchBool moves (slots ≡ moved f i) (IsAround f rvc step i slots) → ActsAs f step i slots
plain_acts f true true rvc i slots m is_in_words n b h = absurd (true≢false (sym (and_parts (is_move i) false m).1))
plain_acts f true false rvc i slots m is_in_words n b h = subst (λ (v : List BundleSlot). ActsAs f false i v) (sym h) (move_acts f i is_in_words n (and_parts (is_move i) true m).0)
plain_acts f false step rvc i slots m is_in_words n b h = around_acts f rvc step i slots is_in_words n b h

-- ---- items

waits_for : (f : Format) (i : Instr) (slot : BundleSlot) → meant f i ≡ i → slot_size slot ≡ 4 → ((s : State) → SlotStands i s slot → Stands s i 4) → IsBefore f i (slot ∷ [])
waits_for f i slot means size stands =
    let one : IsOneFor i i (slot ∷ []) = record { slot = slot; are = refl; stands = λ s st. subst (λ (n : ℕ). Stands s i n) (sym size) (stands s st) } in
    record { transparent = one_transparent f i i (slot ∷ []) one means; first = λ is. refl }

aimed_acts : (f : Format) (j i : Instr) (name line : ℕ) (step : Bool) (slots : List BundleSlot) → IsAimed j i → is_barred_jump (To j name) ≡ false → slots ≡ Jump j name line ∷ [] → ActsAs f step i slots
aimed_acts f (Jal rd offset) i name line step slots a b h =
    let one = (waits_for f (Jal rd a.0) (Jump (Jal rd offset) name line) refl refl (λ s st. st)).transparent in
    subst (λ (k : Instr). ActsAs f step k slots) (sym a.1)
    (subst (λ (t : Bool). MatchBool (t && not step) (KeepsData f rd (Jal rd a.0) slots) (IsTransparent f (Jal rd a.0) slots)) (sym b)
    (subst (λ (v : List BundleSlot). IsTransparent f (Jal rd a.0) v) (sym h) one))
aimed_acts f (Branch cond rs1 rs2 offset) i name line step slots a b h =
    let one = (waits_for f (Branch cond rs1 rs2 a.0) (Jump (Branch cond rs1 rs2 offset) name line) refl refl (λ s st. st)).transparent in
    subst (λ (k : Instr). ActsAs f step k slots) (sym a.1) (subst (λ (v : List BundleSlot). IsTransparent f (Branch cond rs1 rs2 a.0) v) (sym h) one)
aimed_acts f _ i name line step slots a b h = absurd a

half_acts : (f : Format) (i : Instr) (slot : BundleSlot) (rd : ℕ) (slots : List BundleSlot) → destination i ≡ Some rd → is_jump i ≡ false → has_words f ≡ true → is_withheld f rd ≡ false → IsBefore f i (slot ∷ [])
    → slots ≡ slot ∷ mask_after f (Some rd) → ActsBy f (Some rd) false i slots
half_acts f i slot rd slots e j is_in_words free t h = acts f (is_data_register rd) false i rd (slot ∷ []) slots refl e (not_own f rd is_in_words free) (λ typed. j) t h

abbrev is_plain : Body → Bool
is_plain (Plain i) = true
is_plain _ = false

pub body_acts : (f : Format) (line : ℕ) (rvc step : Bool) (body : Body) (i : Instr) (slots : List BundleSlot) → has_words f ≡ true → MayBe body i → item_names_withheld f body ≡ false → is_barred_jump body ≡ false
    → (is_plain body ≡ false → step ≡ false) → IsExpansionOf f line rvc step body slots → ActsAs f step i slots
body_acts f line rvc step (Plain j) i slots is_in_words be n b p h =
    subst (λ (k : Instr). ActsAs f step k slots) (sym be) (plain_acts f (is_move j && not step) step rvc j slots refl is_in_words n b h)
body_acts f line rvc step (To j name) i slots is_in_words be n b p h = aimed_acts f j i name line step slots be b h
body_acts f line rvc step (High rd name) i slots is_in_words be n b p h =
    subst (λ (t : Bool). ActsAs f t i slots) (sym (p refl))
    (subst (λ (k : Instr). ActsAs f false k slots) (sym be.1)
    (half_acts f (Lui rd be.0) (Upper rd name line) rd slots refl refl is_in_words n (waits_for f (Lui rd be.0) (Upper rd name line) refl refl (λ s st. st)) h))
body_acts f line rvc step (Low rd name) i slots is_in_words be n b p h =
    subst (λ (t : Bool). ActsAs f t i slots) (sym (p refl))
    (subst (λ (k : Instr). ActsAs f false k slots) (sym be.1)
    (half_acts f (OpImm Addi rd rd be.0) (Lower rd name line) rd slots refl refl is_in_words n (waits_for f (OpImm Addi rd rd be.0) (Lower rd name line) refl refl (λ s st. st)) h))
body_acts f line rvc step (Base rd name) i slots is_in_words be n b p h =
    elim be [ inl e ↦ adds 26 e | inr e ↦ adds 24 e ]
  where
    adds : (base : ℕ) → i ≡ Op Add rd rd base → ActsAs f step i slots
    adds base e =
        subst (λ (t : Bool). ActsAs f t i slots) (sym (p refl))
        (subst (λ (k : Instr). ActsAs f false k slots) (sym e)
        (half_acts f (Op Add rd rd base) (Region rd name line) rd slots refl refl is_in_words n (waits_for f (Op Add rd rd base) (Region rd name line) refl refl (λ s st. st)) h))

-- a step is an instruction that names nothing
no_step : (labelled : Bool) (body other : Body) → is_plain body ≡ false → (not labelled && is_step_to body other) ≡ false
no_step labelled (Plain i) other h = absurd (true≢false h)
no_step true (To i name) other h = refl
no_step false (To i name) other h = refl
no_step true (High rd name) other h = refl
no_step false (High rd name) other h = refl
no_step true (Low rd name) other h = refl
no_step false (Low rd name) other h = refl
no_step true (Base rd name) other h = refl
no_step false (Base rd name) other h = refl

pub plain_steps : (x : Item) (later : List Item) → is_plain x.body ≡ false → is_step_before_use x later ≡ false
plain_steps x [] h = refl
plain_steps x (y ∷ later) h = no_step y.labelled x.body y.body h

pub word_expansions_are_transparent : WordExpansionsAreTransparent
word_expansions_are_transparent f x later i slots is_in_words be p h =
    body_acts f x.line x.rvc (is_step_before_use x later) x.body i slots is_in_words be p.operands (unbarred f x is_in_words p) (plain_steps x later) h
