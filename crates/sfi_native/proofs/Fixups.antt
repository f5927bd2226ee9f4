-- The table of a code has each of its accesses.
use Rattle.std.proofs.Common.{◌≡◌, ℕ, ◌+◌, ◌<◌, ◌==◌, true, false, List, [], ◌∷◌, ◌++◌, length, Option, Some, None, refl, sym, ap, ◌∙◌, subst, arith, append_assoc, append-nil, length-append, nat_lt, ◌*◌, ◌%◌}
use Rattle.std.proofs.lemmas.Bool.{lt-ltb, ne_eqb}
use Rattle.rv_word.specs.declared.instr.Instr.{Instr}
use Rattle.rv_word.specs.declared.instr.Instr.TheVariants.{Load, Store}
use Rattle.rv_step.specs.Step.{word}
use Rattle.sfi_translate.specs.Lines.{Line, Does}
use Rattle.x86_instr.specs.declared.instr.NopSize.{NopSize}
use Rattle.x86_instr.specs.Spelling.{nop_bytes}
use Rattle.x86_instr.specs.declared.operand.Register.{Register}
use Rattle.x86_instr.specs.declared.operand.Register.TheVariants.{Rax, Rcx}
unfoldable use Rattle.x86_instr.specs.Spelling.{memory, rex, spelling}
use Rattle.x86_step.specs.Running.{spellings}
use Rattle.x86_step.proofs.Running.{spellings_append}
use Rattle.x86_instr.specs.declared.instr.Instr.TheVariants.{Mov}
use Rattle.x86_instr.specs.declared.instr.Width.TheVariants.{Dword}
use Rattle.x86_instr.specs.declared.operand.Operand.TheVariants.{Mem}
use Rattle.sfi_native.specs.Registers.{assigned, nop, owed}
use Rattle.sfi_native.specs.declared.plan.Plan.{Plan}
use Rattle.sfi_native.specs.declared.faults.Access.{Access}
use Rattle.sfi_native.specs.Code.{count, data_address, load_from, read, register_or, result_in, settle, slot, store_to}
use Rattle.sfi_native.specs.Faults.{access_at, access_in, accesses_of, fixup_by, fixup_of, with_access}
use Rattle.sfi_native.specs.Places.{AreLast, nop_code, owed_behind, size_of, size_of_all, start}
use Rattle.sfi_native.proofs.Fronts.{front_ends, load_parts, load_some, store_parts, store_some}
use Rattle.sfi_native.proofs.Places.{sizes_append}
use Rattle.x86_instr.specs.declared.instr.Instr.{Instr as Native}

-- an access is within its line
pub front_below : (front back : List Native) → length (spellings front) + length (spellings back) ≡ length (spellings (front ++ back))
front_below front back = omega (arith, ap length (spellings_append front back), length-append (spellings front) (spellings back))

same_access : (x y : Access) → Some x ≡ Some y → x ≡ y
same_access x y e = cc

-- behind a nop, too
padded_below : (nops front line : List Native) → length (spellings front) < length (spellings line) → length (spellings (nops ++ front)) < length (spellings (nops ++ line))
padded_below nops front line below = omega (arith, below, front_below nops front, front_below nops line)

pub within_line : (plan : Plan) (line : Line) (a : Access) → access_in plan line ≡ Some a → a.offset < size_of plan line
within_line plan (Does at n (Load kind rd rs1 imm)) a is =
    let base = assigned plan rs1 in
    let place = assigned plan rd in
    let load = load_from kind (result_in place) (data_address (register_or base Rax) (word imm)) in
    let front = read base Rax rs1 in
    let last = count (owed plan at + 1) (owed_behind plan at n) in
    subst (λ x. x.offset < size_of plan (Does at n (Load kind rd rs1 imm))) (same_access _ _ is)
    (padded_below (nop_code (nop plan at)) front _
    (subst (λ line. length (spellings front) < length (spellings line)) (load_parts front (settle plan place rd) last load)
    (front_ends front (settle plan place rd ++ last) load (load_some kind (result_in place) (data_address (register_or base Rax) (word imm))))))
within_line plan (Does at n (Store width rs1 rs2 imm)) a is =
    let base = assigned plan rs1 in
    let stored = assigned plan rs2 in
    let one = read base Rax rs1 in
    let two = read stored Rcx rs2 in
    let store = store_to width (data_address (register_or base Rax) (word imm)) (register_or stored Rcx) in
    let last = count (owed plan at + 1) (owed_behind plan at n) in
    subst (λ x. x.offset < size_of plan (Does at n (Store width rs1 rs2 imm))) (same_access _ _ is)
    (padded_below (nop_code (nop plan at)) (one ++ two) _
    (subst (λ line. length (spellings (one ++ two)) < length (spellings line)) (store_parts one two last store)
    (front_ends (one ++ two) last store (store_some width (data_address (register_or base Rax) (word imm)) (register_or stored Rcx)))))
within_line plan line a is = absurd (cc)

-- it stands behind its front, and what is owed there is what it has
pub access_is : (plan : Plan) (address n : ℕ) (i : Instr) (a : Access) → access_in plan (Does address n i) ≡ Some a → a ≡ access_at plan address i
access_is plan address n (Load kind rd rs1 imm) a is = sym (same_access _ _ is)
access_is plan address n (Store width rs1 rs2 imm) a is = sym (same_access _ _ is)
access_is plan address n i a is = absurd (cc)

module _ (plan : Plan) (base exit : ℕ) where
  -- one that is elsewhere isn't found
  passed : (from at : ℕ) (o : Option Access) (others : List Access) → ((a : Access) → o ≡ Some a → base + (from + a.offset) ≡ at → ⊥)
      → fixup_by (with_access from o others) base exit at ≡ fixup_by others base exit at
  passed from at None others apart = refl
  passed from at (Some a) others apart = rw (ne_eqb (base + (from + a.offset)) at (apart a refl)) refl

  module _ (code rest : List Line) (line : Line) (a : Access) (has : access_in plan line ≡ Some a) where
    abbrev at : ℕ
    at = base + (start plan code (line ∷ rest) + a.offset)

    -- among the last lines
    found_in : (front lines : List Line) → code ≡ lines ++ (front ++ (line ∷ rest))
        → fixup_by (accesses_of plan code (front ++ (line ∷ rest))) base exit at ≡ Some (fixup_of (base + exit) a)
    found_in [] lines is =
        let same : at == at ≡ true = grind arith in
        ap (λ o. fixup_by (with_access (start plan code (line ∷ rest)) o (accesses_of plan code rest)) base exit at) has ∙ (rw same refl)
    found_in (x ∷ front) lines is =
        let behind = front ++ (line ∷ rest) in
        let all : size_of_all plan code ≡ size_of_all plan lines + (size_of plan x + size_of_all plan behind) = omega (arith, ap (size_of_all plan) is, sizes_append plan lines (x ∷ behind)) in
        let more : size_of_all plan behind ≡ size_of_all plan front + size_of_all plan (line ∷ rest) = sizes_append plan front (line ∷ rest) in
        passed (start plan code (x ∷ behind)) at (access_in plan x) (accesses_of plan code behind)
        (λ y e same. omega (arith, within_line plan x y e, same, all, more))
        ∙ found_in front (lines ++ (x ∷ [])) (is ∙ sym (append_assoc lines (x ∷ []) behind))

    pub access_found : AreLast code (line ∷ rest) → fixup_by (accesses_of plan code code) base exit at ≡ Some (fixup_of (base + exit) a)
    access_found last =
        ap (λ lines. fixup_by (accesses_of plan code lines) base exit at) last.is ∙ found_in last.front [] last.is

-- ==== The table that is written.

slot_size : (m r : ℕ) → r < 32 → (r ≡ 0 → ⊥) → length (memory m (slot r)) ≡ 3
unfolding memory
slot_size m r small some =
    let first : 4 * r == 0 ≡ false = ne_eqb (4 * r) 0 (λ e. some (omega (arith, e))) in
    let low : 4 * r % 256 ≡ 4 * r = omega (arith, small) in
    let short : nat_lt (4 * r) 128 ≡ true = lt-ltb (4 * r) 128 (omega (arith, small)) in
    let same : 4 * r == 4 * r ≡ true = grind arith in
    rw (first, low, short, same) refl

-- ---- a nop

pub nop_some : (o : Option NopSize) (size : NopSize) → o ≡ Some size → length (nop_bytes size) ≡ length (spellings (nop_code o))
unfolding spelling
nop_some o size is = subst (λ x. length (nop_bytes size) ≡ length (spellings (nop_code x))) (sym is) (sym (ap length (append-nil (nop_bytes size))))

pub nop_none : (o : Option NopSize) → o ≡ None → 0 ≡ length (spellings (nop_code o))
nop_none o is = subst (λ x. 0 ≡ length (spellings (nop_code x))) (sym is) refl

-- ---- from the frame

pub eax_zero : (plan : Plan) (r : ℕ) (o : Option Register) → r ≡ 0 → o ≡ assigned plan r → o ≡ None → 3 ≡ length (spellings (read (assigned plan r) Rax r))
unfolding spelling rex memory
eax_zero plan r o zero is none = subst (λ x. 3 ≡ length (spellings (read x Rax r))) (sym none ∙ is) (rw zero refl)

pub ecx_zero : (plan : Plan) (r : ℕ) (o : Option Register) → r ≡ 0 → o ≡ assigned plan r → o ≡ None → 3 ≡ length (spellings (read (assigned plan r) Rcx r))
unfolding spelling rex memory
ecx_zero plan r o zero is none = subst (λ x. 3 ≡ length (spellings (read x Rcx r))) (sym none ∙ is) (rw zero refl)

pub eax_some : (plan : Plan) (r : ℕ) (o : Option Register) → r < 32 → (r ≡ 0 → ⊥) → o ≡ assigned plan r → o ≡ None → 4 ≡ length (spellings (read (assigned plan r) Rax r))
unfolding spelling rex
eax_some plan r o small some is none =
    let size : 4 ≡ length (spellings (Mov Dword Rax (Mem (slot r)) ∷ [])) = omega (arith, slot_size 0 r small some, ap length (append-nil (memory 0 (slot r)))) in
    subst (λ x. 4 ≡ length (spellings (read x Rax r))) (sym none ∙ is) size

pub ecx_some : (plan : Plan) (r : ℕ) (o : Option Register) → r < 32 → (r ≡ 0 → ⊥) → o ≡ assigned plan r → o ≡ None → 4 ≡ length (spellings (read (assigned plan r) Rcx r))
unfolding spelling rex
ecx_some plan r o small some is none =
    let size : 4 ≡ length (spellings (Mov Dword Rcx (Mem (slot r)) ∷ [])) = omega (arith, slot_size 1 r small some, ap length (append-nil (memory 1 (slot r)))) in
    subst (λ x. 4 ≡ length (spellings (read x Rcx r))) (sym none ∙ is) size

-- ---- where it lies in a register

pub eax_lies : (plan : Plan) (r : ℕ) (q : Register) (o : Option Register) → o ≡ assigned plan r → o ≡ Some q → 0 ≡ length (spellings (read (assigned plan r) Rax r))
eax_lies plan r q o is own = subst (λ x. 0 ≡ length (spellings (read x Rax r))) (sym own ∙ is) refl

pub ecx_lies : (plan : Plan) (r : ℕ) (q : Register) (o : Option Register) → o ≡ assigned plan r → o ≡ Some q → 0 ≡ length (spellings (read (assigned plan r) Rcx r))
ecx_lies plan r q o is own = subst (λ x. 0 ≡ length (spellings (read x Rcx r))) (sym own ∙ is) refl

access_behind : (from : ℕ) (o : Option Access) (others : List Access) → with_access from o others ≡ with_access from o [] ++ others
access_behind from None others = refl
access_behind from (Some a) others = refl

-- a line's access behind those before it
pub next_accesses : (plan : Plan) (code rest : List Line) (line : Line) (old more all : List Access) (from : ℕ) → from ≡ start plan code (line ∷ rest)
    → old ++ accesses_of plan code (line ∷ rest) ≡ all → more ≡ old ++ with_access from (access_in plan line) [] → more ++ accesses_of plan code rest ≡ all
next_accesses plan code rest line old more all from here is next =
    ap (λ x. x ++ accesses_of plan code rest) next ∙ append_assoc old (with_access from (access_in plan line) []) (accesses_of plan code rest)
    ∙ ap (λ x. old ++ x) (sym (access_behind from (access_in plan line) (accesses_of plan code rest)))
    ∙ ap (λ f. old ++ with_access f (access_in plan line) (accesses_of plan code rest)) here ∙ is
