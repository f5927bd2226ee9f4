-- Bytes of instructions behind others.
use Rattle.std.proofs.Common.{◌≡◌, ℕ, ◌+◌, ◌-◌, ◌%◌, ◌^◌, ◌<◌, ◌≤◌, inl, inr, Bool, true, false, length, refl, if◌then◌else◌, List, [], ◌∷◌, ◌++◌, Option, sym, ap, ◌∙◌, arith, append_assoc, append-nil, length-append}
use Rattle.std.specs.Prelude.{◌==◌, nat_lt}
use Rattle.std.proofs.lemmas.Bool.{cases_eq, cases_lt, cond_both, eq-eqb, le-ltb, lt-ltb, ne_eqb}
use Rattle.rv_word.specs.declared.instr.ImmOp.{ImmOp}
use Rattle.rv_word.specs.declared.instr.RegOp.{RegOp}
use Rattle.x86_instr.specs.declared.operand.Register.{Register}
use Rattle.x86_instr.specs.declared.operand.Register.TheVariants.{Rax, Rcx, Rdx, R14}
use Rattle.x86_instr.specs.declared.instr.Instr.{Instr}
unfoldable use Rattle.x86_instr.specs.Spelling.{memory, rex, spelling}
use Rattle.x86_instr.specs.Spelling.{byte_extended, is_short}
use Rattle.x86_step.specs.Running.{spellings}
use Rattle.x86_step.proofs.Running.{spellings_append}
use Rattle.x86_instr.specs.declared.instr.Instr.TheVariants.{Alu, AluImm, Jcc, Jmp, JmpTo, Mov, MovImm, Unary}
use Rattle.x86_instr.specs.declared.instr.AluOp.TheVariants as alu
use Rattle.x86_instr.specs.declared.instr.UnaryOp.TheVariants.{Neg}
use Rattle.x86_instr.specs.declared.instr.Condition.TheVariants.{Equal, NotEqual}
use Rattle.x86_instr.specs.declared.instr.Width.TheVariants.{Dword, Qword}
use Rattle.x86_instr.specs.declared.operand.Operand.TheVariants.{Mem, Reg}
use Rattle.rv_word.specs.declared.instr.Cond.{Cond}
use Rattle.rv_word.specs.declared.instr.LoadKind.{LoadKind}
use Rattle.rv_word.specs.declared.instr.StoreWidth.{StoreWidth}
use Rattle.sfi_translate.specs.Lines.{Line}
use Rattle.sfi_native.specs.declared.plan.Plan.{Plan}
use Rattle.sfi_native.specs.Places.{code_of, whole_code}
use Rattle.sfi_native.specs.declared.jump.Jump.{Jump}
use Rattle.sfi_native.specs.Registers.{assigned, owed as owed_at}
use Rattle.sfi_native.specs.Code.{avoid_minus_one, avoid_zero, branch_jump, branch_line, code_slot, is_bare, met_by, bring, combine, ecx_code, operand_of, place_code, read, register_or, result_in, settle, compare_code, compare_divisor, compute, compute_imm, count, count_size, data_address, divide_by_one, divide_signed, divide_unsigned, end_code, enter_code, enter_size, fetch, imm_code, indirect_jump, indirect_jump_size, has_test, jal_line, jalr_line, leave_code, load_code, load_from, number_code, opposite, remainder, slot, start_code, start_size, steps_code, store_code, store_to, table_entry, table_owed, table_slot, test_code, target_code, test_divisor, tested_jump, write, leap, leave_size, leave_line, leave_line_size, tested}
use Rattle.sfi_translate.specs.Machine.{most}

pub no_part : (old : List ℕ) → old ≡ old ++ spellings []
no_part old = sym (append-nil old)

pub one_part : (old : List ℕ) (i : Instr) → old ++ spelling i ≡ old ++ spellings (i ∷ [])
one_part old i = ap (λ x. old ++ x) (sym (append-nil (spelling i)))

pub two_parts : (old : List ℕ) (a b : List Instr) → (old ++ spellings a) ++ spellings b ≡ old ++ spellings (a ++ b)
two_parts old a b = append_assoc old (spellings a) (spellings b) ∙ ap (λ x. old ++ x) (sym (spellings_append a b))

pub three_parts : (old : List ℕ) (a b c : List Instr) → ((old ++ spellings a) ++ spellings b) ++ spellings c ≡ old ++ spellings (a ++ (b ++ c))
three_parts old a b c = two_parts (old ++ spellings a) b c ∙ two_parts old a (b ++ c)

pub four_parts : (old : List ℕ) (a b c d : List Instr) → (((old ++ spellings a) ++ spellings b) ++ spellings c) ++ spellings d ≡ old ++ spellings (a ++ (b ++ (c ++ d)))
four_parts old a b c d = three_parts (old ++ spellings a) b c d ∙ two_parts old a (b ++ (c ++ d))

pub ecx_parts : (plan : Plan) (old : List ℕ) (op : RegOp) (rd rs1 rs2 : ℕ)
    → (((old ++ spellings (fetch plan Rax rs1)) ++ spellings (fetch plan Rcx rs2)) ++ spellings (compute op Rax (Reg Rcx))) ++ spellings (write plan rd) ≡ old ++ spellings (ecx_code plan op rd rs1 rs2)
ecx_parts plan old op rd rs1 rs2 = four_parts old (fetch plan Rax rs1) (fetch plan Rcx rs2) (compute op Rax (Reg Rcx)) (write plan rd)

pub place_parts : (plan : Plan) (old : List ℕ) (o : Option Register) (op : RegOp) (rd rs1 rs2 : ℕ)
    → ((old ++ spellings (bring plan (result_in o) rs1)) ++ spellings (combine plan op (result_in o) rs2)) ++ spellings (settle plan o rd) ≡ old ++ spellings (place_code plan o op rd rs1 rs2)
place_parts plan old o op rd rs1 rs2 = three_parts old (bring plan (result_in o) rs1) (combine plan op (result_in o) rs2) (settle plan o rd)

pub imm_parts : (plan : Plan) (old : List ℕ) (op : ImmOp) (rd rs1 n : ℕ)
    → ((old ++ spellings (bring plan (result_in (assigned plan rd)) rs1)) ++ spellings (compute_imm op (result_in (assigned plan rd)) n)) ++ spellings (settle plan (assigned plan rd) rd) ≡ old ++ spellings (imm_code plan op rd rs1 n)
imm_parts plan old op rd rs1 n =
    let o = assigned plan rd in
    three_parts old (bring plan (result_in o) rs1) (compute_imm op (result_in o) n) (settle plan o rd)

pub jal_parts : (plan : Plan) (old : List ℕ) (owed rd behind : ℕ) (j : Jump)
    → (old ++ spellings (number_code plan rd behind)) ++ spellings (tested_jump (owed + 1) j) ≡ old ++ spellings (jal_line plan owed rd behind j)
jal_parts plan old owed rd behind j = two_parts old (number_code plan rd behind) (tested_jump (owed + 1) j)

-- ==== What counts steps.

pub nothing_counted : (old : List ℕ) (owed next : ℕ) → owed ≡ next → old ≡ old ++ spellings (count owed next)
nothing_counted old owed next same = rw (eq-eqb owed next same) (no_part old)

pub steps_counted : (old : List ℕ) (owed next : ℕ) → (owed ≡ next → ⊥)
    → old ++ spellings (AluImm alu.Sub Dword (Reg R14) ((owed + (2 ^ 32 - next)) % 2 ^ 32) ∷ []) ≡ old ++ spellings (count owed next)
steps_counted old owed next other = rw (ne_eqb owed next other) refl

-- a number of fewer than 128, or its negative, in two's complement
short_of : (n low : ℕ) (small : Bool) → n % 256 ≡ low → nat_lt low 128 ≡ small → (if small then low else low + (2 ^ 32 - 256)) ≡ n → is_short n ≡ true
short_of n low small low_is small_is is =
    ap (λ b. byte_extended b == n) low_is ∙ ap (λ t. (if t then low else low + (2 ^ 32 - 256)) == n) small_is ∙ eq-eqb _ n is

counted_short : (owed next : ℕ) → owed < 128 → next < 128 → is_short ((owed + (2 ^ 32 - next)) % 2 ^ 32) ≡ true
counted_short owed next a b = elim (cases_lt owed next) [
  | inl less ↦
      let low = owed + 256 - next in
      short_of _ low false (omega (arith, less, b)) (le-ltb low 128 (omega (arith, less, b))) (omega (arith, less, b))
  | inr more ↦
      let low = owed - next in
      short_of _ low true (omega (arith, more, a)) (lt-ltb low 128 (omega (arith, more, a))) (omega (arith, more, a))
]

pub few_short : (n : ℕ) → n < 128 → is_short n ≡ true
few_short n few = short_of n n true (omega (arith, few)) (lt-ltb n 128 few) refl

pub counted_four : (n : ℕ) → is_short n ≡ true → length (spellings (AluImm alu.Sub Dword (Reg R14) n ∷ [])) ≡ 4
unfolding spelling rex
counted_four n short = rw short refl

-- fewer than 128 are owed
pub count_bytes : (owed next : ℕ) → owed < 128 → next < 128 → length (spellings (count owed next)) ≡ count_size owed next
count_bytes owed next a b = elim (cases_eq owed next) [
  | inl same ↦ rw (eq-eqb owed next same) refl
  | inr other ↦ rw (ne_eqb owed next other) (counted_four ((owed + (2 ^ 32 - next)) % 2 ^ 32) (counted_short owed next a b))
]

pub count_few : (owed next : ℕ) → owed < 128 → next < 128 → length (spellings (count owed next)) ≤ 4
count_few owed next a b =
    omega (arith, count_bytes owed next a b, cond_both (owed == next) 0 4 (λ (n : ℕ). n ≤ 4) (λ e. omega arith) (λ e. omega arith))

pub compare_parts : (plan : Plan) (old : List ℕ) (owed next rs1 rs2 : ℕ)
    → ((old ++ spellings (read (assigned plan rs1) Rax rs1)) ++ spellings (count (owed + 1) next)) ++ spellings (Alu alu.Cmp Dword (register_or (assigned plan rs1) Rax) (operand_of (assigned plan rs2) rs2) ∷ []) ≡ old ++ spellings (compare_code plan owed next rs1 rs2)
compare_parts plan old owed next rs1 rs2 =
    let o = assigned plan rs1 in
    three_parts old (read o Rax rs1) (count (owed + 1) next) (Alu alu.Cmp Dword (register_or o Rax) (operand_of (assigned plan rs2) rs2) ∷ [])

both : (a b : List Instr) → length (spellings (a ++ b)) ≡ length (spellings a) + length (spellings b)
both a b = ap length (spellings_append a b) ∙ length-append (spellings a) (spellings b)

-- so few that 8 bits have the number that steps are compared with
compared_short : (owed : ℕ) → owed < 63 → is_short (most + owed) ≡ true
compared_short owed few = let n = most + owed in eq-eqb _ n (rw (lt-ltb (n % 256) 128 (omega (arith, few))) (omega (arith, few)))

test_bytes : (owed label : ℕ) → owed < 63 → length (spellings (test_code owed label)) ≡ 10
unfolding spelling rex
test_bytes owed label few = rw (compared_short owed few) refl

leave_bytes : (at distance : ℕ) → length (spellings (leave_code at distance)) ≡ leave_size
unfolding spelling rex
leave_bytes at distance = refl

pub leave_line_bytes : (at owed distance : ℕ) → owed < 63 → length (spellings (leave_line at owed distance)) ≡ leave_line_size owed
leave_line_bytes at owed distance few =
    omega (arith, both (count owed 0) (leave_code at distance), count_bytes owed 0 (omega (arith, few)) (omega arith), leave_bytes at distance)

pub tested_bytes : (at owed label exit : ℕ) → owed < 63 → length (spellings (tested at owed label exit)) ≡ 10 + leave_line_size owed
tested_bytes at owed label exit few = omega (arith, both (test_code owed label) (leave_line at owed exit), test_bytes owed label few, leave_line_bytes at owed exit few)

leap_bytes : (tested : Bool) (j : Jump) → j.label_owed < 63 → length (spellings (leap tested j)) ≡ (if tested then 10 + leave_line_size j.label_owed else 5)
unfolding spelling
leap_bytes true j few = tested_bytes j.to j.label_owed j.label j.exit few
leap_bytes false j few = refl

-- where few are owed
pub tested_size : (owed : ℕ) (j : Jump) → owed < 128 → j.label_owed < 63 → length (spellings (tested_jump owed j)) ≡ count_size owed j.label_owed + (if has_test j then 10 + leave_line_size j.label_owed else 5)
tested_size owed j a b =
    omega (arith, both (count owed j.label_owed) (leap (has_test j) j), count_bytes owed j.label_owed a (omega (arith, b)), leap_bytes (has_test j) j b)

pub size_with_test : (owed : ℕ) (j : Jump) → owed < 128 → j.label_owed < 63 → has_test j ≡ true → count_size owed j.label_owed + 10 + leave_line_size j.label_owed ≡ length (spellings (tested_jump owed j))
size_with_test owed j a b is = omega (arith, tested_size owed j a b, ap {B = ℕ} (λ (t : Bool). if t then 10 + leave_line_size j.label_owed else 5) is)

pub size_without_test : (owed : ℕ) (j : Jump) → owed < 128 → j.label_owed < 63 → has_test j ≡ false → count_size owed j.label_owed + 5 ≡ length (spellings (tested_jump owed j))
size_without_test owed j a b is = omega (arith, tested_size owed j a b, ap {B = ℕ} (λ (t : Bool). if t then 10 + leave_line_size j.label_owed else 5) is)

pub enter_bytes : length (spellings enter_code) ≡ enter_size
unfolding spelling rex memory
enter_bytes = refl

pub start_bytes : (distance : ℕ) → length (spellings (start_code distance)) ≡ start_size
unfolding spelling rex memory
start_bytes distance = refl

pub indirect_size : (distance : ℕ) → length (spellings (indirect_jump distance)) ≡ indirect_jump_size
unfolding spelling rex memory
indirect_size distance = refl

pub with_test : (old : List ℕ) (j : Jump) → has_test j ≡ true → old ++ spellings (tested j.to j.label_owed j.label j.exit) ≡ old ++ spellings (leap (has_test j) j)
with_test old j is = ap (λ t. old ++ spellings (leap t j)) (sym is)

pub without_test : (old : List ℕ) (j : Jump) → has_test j ≡ false → old ++ spellings (Jmp j.label ∷ []) ≡ old ++ spellings (leap (has_test j) j)
without_test old j is = ap (λ t. old ++ spellings (leap t j)) (sym is)

pub bare_parts : (plan : Plan) (old : List ℕ) (owed next : ℕ) (cond : Cond) (rs1 rs2 : ℕ) (j : Jump) → is_bare next j ≡ true
    → (old ++ spellings (compare_code plan owed next rs1 rs2)) ++ spellings (Jcc (met_by cond) j.label ∷ []) ≡ old ++ spellings (branch_line plan owed next cond rs1 rs2 j)
bare_parts plan old owed next cond rs1 rs2 j bare =
    let compare = compare_code plan owed next rs1 rs2 in
    two_parts old compare (Jcc (met_by cond) j.label ∷ []) ∙ ap (λ t. old ++ spellings (compare ++ branch_jump t cond next j)) (sym bare)

pub branch_parts : (plan : Plan) (old : List ℕ) (owed next : ℕ) (cond : Cond) (rs1 rs2 n : ℕ) (j : Jump) → is_bare next j ≡ false → n ≡ length (spellings (tested_jump next j))
    → ((old ++ spellings (compare_code plan owed next rs1 rs2)) ++ spellings (Jcc (opposite cond) n ∷ [])) ++ spellings (tested_jump next j) ≡ old ++ spellings (branch_line plan owed next cond rs1 rs2 j)
branch_parts plan old owed next cond rs1 rs2 n j bare is =
    let compare = compare_code plan owed next rs1 rs2 in
    ap (λ k. ((old ++ spellings compare) ++ spellings (Jcc (opposite cond) k ∷ [])) ++ spellings (tested_jump next j)) is
    ∙ three_parts old compare (Jcc (opposite cond) (length (spellings (tested_jump next j))) ∷ []) (tested_jump next j)
    ∙ ap (λ t. old ++ spellings (compare ++ branch_jump t cond next j)) (sym bare)

pub end_parts : (old : List ℕ) (at owed : ℕ)
    → ((old ++ spellings (AluImm alu.Sub Dword (Reg R14) owed ∷ [])) ++ spellings (leave_code at indirect_jump_size)) ++ spellings (indirect_jump 0) ≡ old ++ spellings (end_code at owed)
end_parts old at owed = three_parts old (AluImm alu.Sub Dword (Reg R14) owed ∷ []) (leave_code at indirect_jump_size) (indirect_jump 0)

pub target_parts : (plan : Plan) (old : List ℕ) (rs1 displacement : ℕ)
    → ((old ++ spellings (fetch plan Rdx rs1)) ++ spellings (AluImm alu.Add Dword (Reg Rdx) displacement ∷ [])) ++ spellings (AluImm alu.And Dword (Reg Rdx) (2 ^ 32 - 2) ∷ []) ≡ old ++ spellings (target_code plan rs1 displacement)
target_parts plan old rs1 displacement = three_parts old (fetch plan Rdx rs1) (AluImm alu.Add Dword (Reg Rdx) displacement ∷ []) (AluImm alu.And Dword (Reg Rdx) (2 ^ 32 - 2) ∷ [])

pub start_parts : (old : List ℕ) (distance : ℕ)
    → ((((old ++ spellings (Mov Dword Rax (Reg Rdx) ∷ [])) ++ spellings (Alu alu.And Dword Rax (Mem (slot 25)) ∷ [])) ++ spellings (Alu alu.Or Dword Rax (Mem (slot 24)) ∷ []))
    ++ spellings (Alu alu.Cmp Dword Rax (Reg Rdx) ∷ [])) ++ spellings (Jcc NotEqual ((distance + enter_size) % 2 ^ 32) ∷ []) ≡ old ++ spellings (start_code distance)
start_parts old distance =
    let front = Mov Dword Rax (Reg Rdx) ∷ Alu alu.And Dword Rax (Mem (slot 25)) ∷ Alu alu.Or Dword Rax (Mem (slot 24)) ∷ Alu alu.Cmp Dword Rax (Reg Rdx) ∷ [] in
    let last = Jcc NotEqual ((distance + enter_size) % 2 ^ 32) ∷ [] in
    ap (λ x. x ++ spellings last) (four_parts old (Mov Dword Rax (Reg Rdx) ∷ []) (Alu alu.And Dword Rax (Mem (slot 25)) ∷ []) (Alu alu.Or Dword Rax (Mem (slot 24)) ∷ []) (Alu alu.Cmp Dword Rax (Reg Rdx) ∷ []))
    ∙ two_parts old front last

pub indirect_parts : (old : List ℕ) (distance : ℕ)
    → ((old ++ spellings (steps_code distance)) ++ spellings (start_code distance)) ++ spellings enter_code ≡ old ++ spellings (indirect_jump distance)
indirect_parts old distance = three_parts old (steps_code distance) (start_code distance) enter_code

pub enter_parts : (old : List ℕ)
    → ((((old ++ spellings (Mov Qword Rax (Mem table_slot) ∷ [])) ++ spellings (Alu alu.Add Dword R14 (Mem table_owed) ∷ [])) ++ spellings (Mov Dword Rax (Mem table_entry) ∷ []))
    ++ spellings (Alu alu.Add Qword Rax (Mem code_slot) ∷ [])) ++ spellings (JmpTo (Reg Rax) ∷ []) ≡ old ++ spellings enter_code
enter_parts old =
    let front = Mov Qword Rax (Mem table_slot) ∷ Alu alu.Add Dword R14 (Mem table_owed) ∷ Mov Dword Rax (Mem table_entry) ∷ Alu alu.Add Qword Rax (Mem code_slot) ∷ [] in
    let last = JmpTo (Reg Rax) ∷ [] in
    ap (λ x. x ++ spellings last) (four_parts old (Mov Qword Rax (Mem table_slot) ∷ []) (Alu alu.Add Dword R14 (Mem table_owed) ∷ []) (Mov Dword Rax (Mem table_entry) ∷ []) (Alu alu.Add Qword Rax (Mem code_slot) ∷ []))
    ∙ two_parts old front last

pub jalr_parts : (plan : Plan) (old : List ℕ) (owed rd rs1 displacement behind distance : ℕ)
    → (((old ++ spellings (target_code plan rs1 displacement)) ++ spellings (number_code plan rd behind)) ++ spellings (count (owed + 1) 0)) ++ spellings (Jmp distance ∷ []) ≡ old ++ spellings (jalr_line plan owed rd rs1 displacement behind distance)
jalr_parts plan old owed rd rs1 displacement behind distance =
    let counted = count (owed + 1) 0 in
    ap (λ x. x ++ spellings (Jmp distance ∷ [])) (three_parts old (target_code plan rs1 displacement) (number_code plan rd behind) counted)
    ∙ two_parts old (target_code plan rs1 displacement ++ (number_code plan rd behind ++ counted)) (Jmp distance ∷ [])

pub whole_parts : (plan : Plan) (code : List Line) (end : ℕ) → spellings (code_of plan code code) ++ spellings (end_code end (owed_at plan end)) ≡ spellings (whole_code plan end code)
whole_parts plan code end = sym (spellings_append (code_of plan code code) (end_code end (owed_at plan end)))

pub load_parts : (plan : Plan) (old : List ℕ) (kind : LoadKind) (rd rs1 displacement : ℕ)
    → ((old ++ spellings (read (assigned plan rs1) Rax rs1)) ++ spellings (load_from kind (result_in (assigned plan rd)) (data_address (register_or (assigned plan rs1) Rax) displacement) ∷ [])) ++ spellings (settle plan (assigned plan rd) rd) ≡ old ++ spellings (load_code plan kind rd rs1 displacement)
load_parts plan old kind rd rs1 displacement =
    let base = assigned plan rs1 in
    let place = assigned plan rd in
    three_parts old (read base Rax rs1) (load_from kind (result_in place) (data_address (register_or base Rax) displacement) ∷ []) (settle plan place rd)

pub store_parts : (plan : Plan) (old : List ℕ) (width : StoreWidth) (rs1 rs2 displacement : ℕ)
    → ((old ++ spellings (read (assigned plan rs1) Rax rs1)) ++ spellings (read (assigned plan rs2) Rcx rs2)) ++ spellings (store_to width (data_address (register_or (assigned plan rs1) Rax) displacement) (register_or (assigned plan rs2) Rcx) ∷ []) ≡ old ++ spellings (store_code plan width rs1 rs2 displacement)
store_parts plan old width rs1 rs2 displacement =
    let base = assigned plan rs1 in
    let stored = assigned plan rs2 in
    three_parts old (read base Rax rs1) (read stored Rcx rs2) (store_to width (data_address (register_or base Rax) displacement) (register_or stored Rcx) ∷ [])

-- ==== Divisions: distances are sizes of what is skipped.

pub avoid_zero_parts : (old : List ℕ)
    → (((old ++ spellings (test_divisor ∷ [])) ++ spellings (Jcc NotEqual 10 ∷ [])) ++ spellings (MovImm Rax (2 ^ 32 - 1) ∷ [])) ++ spellings (MovImm Rcx 1 ∷ []) ≡ old ++ spellings avoid_zero
unfolding spelling rex
avoid_zero_parts old = four_parts old (test_divisor ∷ []) (Jcc NotEqual 10 ∷ []) (MovImm Rax (2 ^ 32 - 1) ∷ []) (MovImm Rcx 1 ∷ [])

pub avoid_minus_one_parts : (old : List ℕ)
    → (((old ++ spellings (compare_divisor ∷ [])) ++ spellings (Jcc NotEqual 7 ∷ [])) ++ spellings (Unary Neg (Reg Rax) ∷ [])) ++ spellings (MovImm Rcx 1 ∷ []) ≡ old ++ spellings avoid_minus_one
unfolding spelling rex
avoid_minus_one_parts old = four_parts old (compare_divisor ∷ []) (Jcc NotEqual 7 ∷ []) (Unary Neg (Reg Rax) ∷ []) (MovImm Rcx 1 ∷ [])

pub divide_by_one_parts : (old : List ℕ)
    → ((old ++ spellings (compare_divisor ∷ [])) ++ spellings (Jcc NotEqual 5 ∷ [])) ++ spellings (MovImm Rcx 1 ∷ []) ≡ old ++ spellings divide_by_one
unfolding spelling rex
divide_by_one_parts old = three_parts old (compare_divisor ∷ []) (Jcc NotEqual 5 ∷ []) (MovImm Rcx 1 ∷ [])

pub signed_remainder_parts : (old : List ℕ)
    → (((old ++ spellings (test_divisor ∷ [])) ++ spellings (Jcc Equal 5 ∷ [])) ++ spellings divide_signed) ++ spellings (Mov Dword Rax (Reg Rdx) ∷ []) ≡ old ++ spellings (remainder divide_signed)
unfolding spelling rex
signed_remainder_parts old = four_parts old (test_divisor ∷ []) (Jcc Equal 5 ∷ []) divide_signed (Mov Dword Rax (Reg Rdx) ∷ [])

pub unsigned_remainder_parts : (old : List ℕ)
    → (((old ++ spellings (test_divisor ∷ [])) ++ spellings (Jcc Equal 9 ∷ [])) ++ spellings divide_unsigned) ++ spellings (Mov Dword Rax (Reg Rdx) ∷ []) ≡ old ++ spellings (remainder divide_unsigned)
unfolding spelling rex
unsigned_remainder_parts old = four_parts old (test_divisor ∷ []) (Jcc Equal 9 ∷ []) divide_unsigned (Mov Dword Rax (Reg Rdx) ∷ [])
