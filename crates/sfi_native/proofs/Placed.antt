-- Lines among all lines of the code, from where each begins to where the next does.
use Rattle.std.proofs.Common.{◌++◌, length, length-append, ◌%◌, ◌≤◌, ◌⊎◌, inl, inr, ◌≡◌, ℕ, ◌+◌, ◌^◌, ◌<◌, Bool, true, false, List, [], ◌∷◌, Some, refl, sym, ap, ◌∙◌, subst, arith, if◌then◌else◌, nat_lt, ◌==◌, Option, None}
use Rattle.std.proofs.lemmas.Bool.{cases_lt, and_parts, cases_Bool, eq-eqb, false≢true, le-leb, lt-ltb}
use Rattle.rv_word.specs.declared.instr.Instr.{Instr}
use Rattle.rv_mem.specs.Bytes.{address_after}
use Rattle.rv_step.specs.State.{even_of, past, with_pc}
use Rattle.rv_word.specs.declared.instr.Instr.TheVariants.{Op, OpImm, Load, Store, Branch, Jal, Jalr, Lui, Auipc, Fence, Ecall, Ebreak}
use Rattle.rv_word.specs.Spelling.{InRange, offset_by}
use Rattle.rv_step.specs.Step.{is_taken}
use Rattle.sfi_formats.specs.Formats.{unit}
use Rattle.sfi_image.specs.Spelling.{Part}
use Rattle.sfi_translate.specs.Lines.{Line, Function, End, Entry, Head, Does}
use Rattle.sfi_translate.specs.Machine.{Assembly, Before, ControlPoint, Going, Loop, fixed, Slow, at_head, enters, goes, goes_with, is_short, jumps, label, line_step, one_less}
use Rattle.x86_step.specs.State.{Core, Machine, Text}
use Rattle.x86_instr.specs.declared.instr.NopSize.{NopSize}
use Rattle.x86_instr.specs.declared.instr.Instr.{Instr as Native}
unfoldable use Rattle.x86_step.specs.Step.{computes}
use Rattle.x86_instr.specs.declared.instr.Instr.TheVariants.{AluImm, Nop}
use Rattle.x86_instr.specs.declared.instr.AluOp.TheVariants as alu
use Rattle.x86_instr.specs.declared.operand.Register.TheVariants.{R14}
use Rattle.x86_instr.specs.declared.operand.Operand.TheVariants.{Reg}
use Rattle.x86_instr.specs.declared.instr.Width.TheVariants.{Dword}
use Rattle.x86_step.proofs.Running.{has_back, has_front, spellings_append, in_more, stays}
unfoldable use Rattle.x86_instr.specs.Spelling.{rex, spelling}
use Rattle.x86_step.specs.Step.{Reaches, is_canonical, jumped}
use Rattle.x86_step.specs.Running.{HasAt, spellings}
use Rattle.sfi_native.specs.declared.plan.Plan.{Plan}
use Rattle.sfi_native.specs.declared.layout.Layout.{Layout}
use Rattle.sfi_native.specs.Following.{address_of, next_address}
use Rattle.sfi_native.specs.Layout.{IsRelated, owing, value}
use Rattle.sfi_native.specs.Registers.{owed, nop}
use Rattle.sfi_native.specs.Table.{HasTable, LieInCode, is_unit_start}
use Rattle.sfi_native.specs.Laws.{Accesses, CountsBelow, Faults, Follows, IsAlike, IsBefore, IsCovered, IsJump, IsReady, is_slow, jalr_owed, jalr_place, jump_owed, jump_place, LeadsTo, PlacedLinesRun, end_of, line_most, placed_most}
use Rattle.sfi_native.specs.Faults.{HasFixups, access_in, fixup_of, front_of}
use Rattle.sfi_native.specs.declared.faults.Access.{Access}
use Rattle.sfi_native.proofs.Fixups.{access_found, access_is, within_line, front_below}
use Rattle.sfi_native.proofs.Guarding.{faulting_lines_run}
use Rattle.sfi_native.specs.Places.{AreLast, IsAtPlace, code_of, distance_out, distances, end_address, exit_of, jump_of, owed_before, owed_behind, owed_there, shared_jump, size_of, size_of_all, start, start_or_end, whole_code, nop_code, padding, placed_bare}
use Rattle.sfi_native.specs.Code.{count_size, end_code, end_size, has_test, head_line, indirect_jump, indirect_jump_size, leave_code, leave_line, leave_size}
use Rattle.sfi_native.proofs.Counted.{size_most}
use Rattle.sfi_native.proofs.Counting.{related_as}
use Rattle.sfi_native.proofs.Heads.{end_line_runs, leave_line_runs}
use Rattle.sfi_native.proofs.OwedSteps.{branch_owes, by_line, enter_owes, jump_owes, next_owed, owed_few, owed_mod}
use Rattle.sfi_native.proofs.Indirect.{jalr_lines_run}
use Rattle.sfi_native.proofs.Jumps.{branch_lines_run, jal_lines_run}
use Rattle.sfi_native.proofs.Kept.{others_same}
use Rattle.sfi_native.proofs.Fetching.{related_goes}
use Rattle.sfi_native.proofs.Lists.{indirect_size}
use Rattle.sfi_native.proofs.Tested.{CanLead, Tests, tests}
use Rattle.sfi_native.proofs.Lines.{computing_lines_run}
use Rattle.sfi_native.proofs.Loads.{load_lines_run}
use Rattle.sfi_native.proofs.Places.{place_below, code_size, label_canonical, exit_reached, label_last, label_reached, shared_reached, last_below, line_ends, line_stands}
use Rattle.sfi_native.proofs.Runs.{bytes_end, low_canonical, Runs, back_stands, end_append, straight_runs, then_reaches}
use Rattle.sfi_native.proofs.Stores.{store_lines_run}
use Rattle.sfi_native.proofs.Arriving.{same_lines, jump_at, entered_at, of_done, not_before, not_slow, is_jump_line, slow_result, no_loop, tail_last}

-- ==== A line.

leave_length : (at distance : ℕ) → length (spellings (leave_code at distance)) ≡ leave_size
unfolding spelling rex
leave_length at distance = refl

subtract_length : (owed : ℕ) → owed < 63 → length (spellings (AluImm alu.Sub Dword (Reg R14) owed ∷ [])) ≡ 4
unfolding spelling rex
subtract_length owed few =
    let low : nat_lt (owed % 256) 128 ≡ true = lt-ltb (owed % 256) 128 (omega (arith, few)) in
    let same : owed % 256 == owed ≡ true = eq-eqb (owed % 256) owed (omega (arith, few)) in
    rw (low, same) refl

front_length : (at owed : ℕ) → owed < 63 → length (spellings (AluImm alu.Sub Dword (Reg R14) owed ∷ leave_code at indirect_jump_size)) ≡ 4 + leave_size
front_length at owed few =
    let one = AluImm alu.Sub Dword (Reg R14) owed ∷ [] in
    omega (arith, subtract_length owed few, leave_length at indirect_jump_size, ap length (spellings_append one (leave_code at indirect_jump_size)), length-append (spellings one) (spellings (leave_code at indirect_jump_size)))

end_length : (at owed : ℕ) → owed < 63 → length (spellings (end_code at owed)) ≡ end_size
end_length at owed few =
    let line = AluImm alu.Sub Dword (Reg R14) owed ∷ leave_code at indirect_jump_size in
    omega (arith, front_length at owed few, indirect_size 0, ap length (spellings_append line (indirect_jump 0)), length-append (spellings line) (spellings (indirect_jump 0)))

long_behind : (n : ℕ) (front back : List Native) → n ≤ length (spellings back) → n ≤ length (spellings (front ++ back))
long_behind n front back long = omega (arith, long, ap length (spellings_append front back), length-append (spellings front) (spellings back))

-- where a line begins behind its nop, if it has one
abbrev bare_start : Plan → ℕ → List Line → List Line → Line → ℕ
bare_start plan base code rest line = end_of (base + start plan code (line ∷ rest)) (padding plan line)

nop_runs : (o : Option NopSize) (c : Core) → Runs (nop_code o) c c
unfolding computes
nop_runs None c = straight_runs [] c c refl refl
nop_runs (Some size) c = straight_runs (Nop size ∷ []) c c refl refl

padding_runs : (plan : Plan) (line : Line) (c : Core) → Runs (padding plan line) c c
padding_runs plan (Does at n i) c = nop_runs (nop plan at) c
padding_runs plan (Function sandbox at) c = nop_runs None c
padding_runs plan (End at) c = nop_runs None c
padding_runs plan (Entry at) c = nop_runs None c
padding_runs plan (Head at) c = nop_runs None c

nop_one : (o : Option NopSize) → length (nop_code o) ≤ 1
nop_one None = omega arith
nop_one (Some size) = omega arith

padding_one : (plan : Plan) (line : Line) → length (padding plan line) ≤ 1
padding_one plan (Does at n i) = nop_one (nop plan at)
padding_one plan (Function sandbox at) = omega arith
padding_one plan (End at) = omega arith
padding_one plan (Entry at) = omega arith
padding_one plan (Head at) = omega arith

-- labels are before the end's code, which has more bytes than a way out
label_near : (plan : Plan) (code rest : List Line) (target : ℕ) → exit_of plan code < 2 ^ 31 → (distances plan code rest target + (count_size (owed plan target) 0 + leave_size) < 2 ^ 31) ⊎ (2 ^ 31 ≤ distances plan code rest target)
label_near plan code rest target few =
    let from = start plan code rest in
    let to = start_or_end plan code (label target code) in
    let within = place_below plan code (label target code) in
    let most = size_most (owed plan target) 0 in
    elim (cases_lt to from) [
      | inl back ↦ inr (omega (arith, back, within, few))
      | inr ahead ↦ inl (omega (arith, ahead, within, few, most))
    ]

module _ (p : Part) (code rest to : List Line) (l : Layout) (t : Text) (base owes : ℕ) (g : Going) (c : Core) (here : IsBefore (whole_code l.plan (end_address p) code) t base p l (owing owes g) c) (below : g.left < 2 ^ 31) (few : exit_of l.plan code < 2 ^ 31) (fixups : HasFixups l.plan t base code) (lie : LieInCode p code) (has : HasTable p l base code c) where
  abbrev end_owed : ℕ
  end_owed = owed l.plan (end_address p)

  whole_size : length (spellings (whole_code l.plan (end_address p) code)) ≡ exit_of l.plan code
  whole_size =
      omega (arith, end_length (end_address p) end_owed (owed_few l.plan (end_address p)), code_size l.plan code code, ap length (spellings_append (code_of l.plan code code) (end_code (end_address p) end_owed)), length-append (spellings (code_of l.plan code code)) (spellings (end_code (end_address p) end_owed)))

  parts : HasAt t base (spellings (code_of l.plan code code) ++ spellings (end_code (end_address p) end_owed))
  parts = subst (λ bytes. HasAt t base bytes) (spellings_append (code_of l.plan code code) (end_code (end_address p) end_owed)) here.stands

  -- the end's code, which begins there
  abbrev behind : ℕ
  behind = base + size_of_all l.plan code

  abbrev leave : List Native
  leave = AluImm alu.Sub Dword (Reg R14) end_owed ∷ leave_code (end_address p) indirect_jump_size

  end_stands : HasAt t behind (spellings leave ++ spellings (indirect_jump 0))
  end_stands =
      let from : base + length (spellings (code_of l.plan code code)) ≡ behind = ap (λ n. base + n) (code_size l.plan code code) in
      subst (λ bytes. HasAt t behind bytes) (spellings_append leave (indirect_jump 0))
      (subst (λ a. HasAt t a (spellings (end_code (end_address p) end_owed))) from (has_back t base (spellings (code_of l.plan code code)) (spellings (end_code (end_address p) end_owed)) parts))

  -- the indirect jump that lines share
  abbrev shared : ℕ
  shared = behind + (4 + leave_size)

  shared_stands : HasAt t shared (spellings (indirect_jump 0))
  shared_stands = subst (λ n. HasAt t (behind + n) (spellings (indirect_jump 0))) (front_length (end_address p) end_owed (owed_few l.plan (end_address p))) (has_back t behind (spellings leave) (spellings (indirect_jump 0)) end_stands)

  lines_stand : HasAt t base (spellings (code_of l.plan code code))
  lines_stand = has_front t base (spellings (code_of l.plan code code)) (spellings (end_code (end_address p) end_owed)) parts

  few_lines : size_of_all l.plan code < 2 ^ 31
  few_lines = omega (arith, few)

  low_end : base + exit_of l.plan code < 2 ^ 47
  low_end = omega (arith, here.text_is_low, bytes_end t base (spellings (whole_code l.plan (end_address p) code)) here.stands, whole_size)

  -- its end is the way out
  shared_out : jumped (end_of shared (indirect_jump 0)) 0 ≡ base + exit_of l.plan code
  shared_out = omega (arith, low_end, indirect_size 0)

  low_lines : base + size_of_all l.plan code < 2 ^ 47
  low_lines = omega (arith, low_end)

  module _ (line : Line) (last : AreLast code (line ∷ rest)) (same : owes ≡ owed l.plan (address_of line)) where
    abbrev place : ℕ
    place = bare_start l.plan base code rest line

    own : IsBefore (placed_bare l.plan code rest line) t place p l (owing (owed l.plan (address_of line)) g) c
    own = record {
      layout = here.layout;
      text_is_fixed = here.text_is_fixed;
      text_is_low = here.text_is_low;
      faults_are_handled = here.faults_are_handled;
      stands = back_stands t (base + start l.plan code (line ∷ rest)) (padding l.plan line) (placed_bare l.plan code rest line) c c here.text_is_fixed here.text_is_low
          (line_stands l.plan t code base lines_stand line rest last) (padding_runs l.plan line c);
      related = subst (λ n. IsRelated p l (owing n g) c) same here.related;
      closed = here.closed;
    }

    ends : end_of place (placed_bare l.plan code rest line) ≡ base + start l.plan code rest
    ends = end_append (base + start l.plan code (line ∷ rest)) (padding l.plan line) (placed_bare l.plan code rest line) ∙ line_ends l.plan t code base lines_stand line rest last

    -- to the next line
    on : (k : Going) → LeadsTo t place (end_of place (placed_bare l.plan code rest line)) p l c k → Before rest ≡ Before to → LeadsTo t place (base + start l.plan code to) p l c k × AreLast code to
    on k leads e =
        (subst (λ a. LeadsTo t place a p l c k) (ends ∙ ap (λ r. base + start l.plan code r) (sym (same_lines rest to e))) leads, subst (λ r. AreLast code r) (sym (same_lines rest to e)) (tail_last code rest line last))

    abbrev line_end : ℕ
    line_end = end_of place (placed_bare l.plan code rest line)

    label_is : (target : ℕ) → jumped line_end (distances l.plan code rest target) ≡ base + start_or_end l.plan code (label target code)
    label_is target = ap (λ a. jumped a (distances l.plan code rest target)) ends ∙ label_reached l.plan base code rest target few_lines low_lines

    exit_is : jumped line_end (distance_out l.plan code rest) ≡ base + exit_of l.plan code
    exit_is = ap (λ a. jumped a (distance_out l.plan code rest)) ends ∙ exit_reached l.plan base code rest few low_end

    -- a jump
    is_jump : (address target : ℕ) → IsJump line_end (jump_of l.plan (distances l.plan code rest) (distance_out l.plan code rest) address target)
    is_jump address target = record {
      few = owed_few l.plan target;
      fits = omega arith;
      near = label_near l.plan code rest target few;
      exit = ap is_canonical exit_is ∙ low_canonical (base + exit_of l.plan code) low_end;
      label = ap (λ a. is_canonical (jumped a (distances l.plan code rest target))) ends ∙ label_canonical l.plan base code rest target few_lines low_lines;
    }

    jump_arrives : (address target : ℕ) (pc left : ℕ) (after : Core)
        → (is_slow (jump_of l.plan (distances l.plan code rest) (distance_out l.plan code rest) address target) left ≡ true → after.registers 2 ≡ target) → target ≡ pc
        → IsCovered (jumps Assembly code address target left)
        → IsAtPlace l.plan base code (jumps Assembly code address target left) pc (record { rip = jump_place line_end (jump_of l.plan (distances l.plan code rest) (distance_out l.plan code rest) address target) left; core = after })
    jump_arrives address target pc left after edx pc_is covered =
        let j = jump_of l.plan (distances l.plan code rest) (distance_out l.plan code rest) address target in
        jump_at l.plan base code pc (record { rip = jump_place line_end j left; core = after }) line_end j.exit j.label (has_test j) (is_short Assembly left) (label target code) target
        (λ lines e. label_last target code lines e) (label_is target) exit_is refl edx pc_is covered

    -- a branch, taken or not
    branch_arrives : (taken : Bool) (address n target : ℕ) (left : ℕ) (after : Core)
        → (taken ≡ true → is_slow (jump_of l.plan (distances l.plan code rest) (distance_out l.plan code rest) address target) left ≡ true → after.registers 2 ≡ target)
        → IsCovered (if taken then jumps Assembly code address target left else Before rest)
        → IsAtPlace l.plan base code (if taken then jumps Assembly code address target left else Before rest)
        (if taken then with_pc (with_pc (fixed p g.state.hart) address) target else past (with_pc (fixed p g.state.hart) address) n).pc
        (record { rip = if taken then jump_place line_end (jump_of l.plan (distances l.plan code rest) (distance_out l.plan code rest) address target) left else line_end; core = after })
    branch_arrives true address n target left after edx covered = jump_arrives address target target left after (edx refl) refl covered
    branch_arrives false address n target left after edx covered = (ends, tail_last code rest line last)

    -- a jalr, to its entry or out
    jalr_arrives : (address to left : ℕ) (after : Core) → after.registers 2 ≡ to → LieInCode p code
        → IsAtPlace l.plan base code (at_head Assembly left (enters Assembly p code address to)) to
        (record { rip = jalr_place l.plan p code base (end_of shared (indirect_jump 0)) 0 to left; core = after })
    jalr_arrives address to left after edx lie = entered_at l.plan base code to (record { rip = jalr_place l.plan p code base (end_of shared (indirect_jump 0)) 0 to left; core = after }) (end_of shared (indirect_jump 0)) 0 (is_short Assembly left) (to % unit p.format == 0) (is_unit_start p to) (label to code)
        (λ lines e. label_last to code lines e) shared_out refl edx
        (λ is. (and_parts _ _ (and_parts _ _ is).1).1)
        (λ whole other lines e. let at = lie.labels to lines e in false≢true (sym other ∙ (rw (le-leb p.code_base to at.0, lt-ltb to (p.code_base + length p.code) at.1, whole) refl)))

    -- a line without code
    nothing : placed_bare l.plan code rest line ≡ [] → LeadsTo t place (base + start l.plan code rest) p l c (owing (owed l.plan (address_of line)) (goes g (Before rest)))
    nothing none =
        let z : place ≡ base + start l.plan code rest = sym (ap (end_of place) none ∙ omega arith) ∙ ends in
        subst (λ a. LeadsTo t place a p l c (owing (owed l.plan (address_of line)) (goes g (Before rest)))) z (record {
          after = c;
          reached = in_more t 0 line_most _ _ (omega arith) (stays t _ here.text_is_fixed);
          related = related_as p l (owing (owed l.plan (address_of line)) g) c (Before rest) (g.left + owed l.plan (address_of line)) own.related refl;
          others = others_same p l c;
        })

    -- so many steps are owed behind it
    owed_next : owed l.plan (next_address line) ≡ owed_before l.plan p rest
    owed_next = sym (next_owed l.plan p code rest line lie last)

  -- the end's code
  end_runs : owes ≡ end_owed → Follows t line_most p l base code (record { rip = behind; core = c }) (goes_with g Loop (end_address p))
  end_runs same =
      let before : IsBefore leave t behind p l (owing end_owed g) c = record {
        layout = here.layout;
        text_is_fixed = here.text_is_fixed;
        text_is_low = here.text_is_low;
        stands = has_front t behind (spellings leave) (spellings (indirect_jump 0)) end_stands;
        related = subst (λ n. IsRelated p l (owing n g) c) same here.related;
        closed = here.closed;
        faults_are_handled = here.faults_are_handled;
      } in
      let out : jumped (end_of behind leave) indirect_jump_size ≡ base + exit_of l.plan code = omega (arith, low_end, front_length (end_address p) end_owed (owed_few l.plan (end_address p))) in
      let it = end_line_runs p l t behind (end_address p) end_owed indirect_jump_size (owed_few l.plan (end_address p)) g below c before (ap is_canonical out ∙ low_canonical (base + exit_of l.plan code) low_end) in
      record {
        after = record { rip = jumped (end_of behind leave) indirect_jump_size; core = it.after };
        reached = in_more t 3 line_most _ _ (omega arith) it.reached;
        alike = record { related = related_goes p l (owing 0 g) it.after Loop (end_address p) it.related; is_at = (out, it.edx) };
        others = it.others;
      }

  counts_below : (address n : ℕ) → 0 < g.left → CountsBelow g (owed l.plan address) (owed_behind l.plan address n)
  counts_below address n some = record { some = some; left = below; few = owed_few l.plan address; few_behind = owed_few l.plan (address_after address n) }

  counts_all : (address : ℕ) → 0 < g.left → CountsBelow g (owed l.plan address) 0
  counts_all address some = record { some = some; left = below; few = owed_few l.plan address; few_behind = omega arith }

  instruction : (address n : ℕ) (i : Instr) → AreLast code (Does address n i ∷ rest) → owes ≡ owed l.plan address → 0 < g.left → InRange i → Accesses p g i → is_jump_line i ≡ false
      → (line_step Assembly p code (Does address n i ∷ rest) g).place ≡ Before to
      → LeadsTo t (bare_start l.plan base code rest (Does address n i)) (base + start l.plan code to) p l c (owing (owed_behind l.plan address n) (line_step Assembly p code (Does address n i ∷ rest) g)) × AreLast code to
  instruction address n (Op op rd rs1 rs2) last same some range asked moves e =
      on (Does address n (Op op rd rs1 rs2)) last same _ (computing_lines_run Assembly p code rest address n (owed l.plan address) (owed_behind l.plan address n) (Op op rd rs1 rs2) l t _ g c refl range (counts_below address n some) (own (Does address n (Op op rd rs1 rs2)) last same)) e
  instruction address n (OpImm op rd rs1 imm) last same some range asked moves e =
      on (Does address n (OpImm op rd rs1 imm)) last same _ (computing_lines_run Assembly p code rest address n (owed l.plan address) (owed_behind l.plan address n) (OpImm op rd rs1 imm) l t _ g c refl range (counts_below address n some) (own (Does address n (OpImm op rd rs1 imm)) last same)) e
  instruction address n (Lui rd imm) last same some range asked moves e =
      on (Does address n (Lui rd imm)) last same _ (computing_lines_run Assembly p code rest address n (owed l.plan address) (owed_behind l.plan address n) (Lui rd imm) l t _ g c refl range (counts_below address n some) (own (Does address n (Lui rd imm)) last same)) e
  instruction address n (Auipc rd imm) last same some range asked moves e =
      on (Does address n (Auipc rd imm)) last same _ (computing_lines_run Assembly p code rest address n (owed l.plan address) (owed_behind l.plan address n) (Auipc rd imm) l t _ g c refl range (counts_below address n some) (own (Does address n (Auipc rd imm)) last same)) e
  instruction address n (Fence imm rd rs1) last same some range asked moves e =
      on (Does address n (Fence imm rd rs1)) last same _ (computing_lines_run Assembly p code rest address n (owed l.plan address) (owed_behind l.plan address n) (Fence imm rd rs1) l t _ g c refl range (counts_below address n some) (own (Does address n (Fence imm rd rs1)) last same)) e
  instruction address n (Load kind rd rs1 imm) last same some range (inl asked) moves e =
      on (Does address n (Load kind rd rs1 imm)) last same _
      (load_lines_run Assembly p code rest address n (owed l.plan address) (owed_behind l.plan address n) kind rd rs1 imm l t _ g c range (counts_below address n some) asked.0 asked.1 asked.2 (own (Does address n (Load kind rd rs1 imm)) last same))
      (of_done _ _ _ to asked.0.tested e)
  instruction address n (Load kind rd rs1 imm) last same some range (inr faults) moves e = absurd (not_before _ _ _ to faults.tested refl e)
  instruction address n (Store width rs1 rs2 imm) last same some range (inl asked) moves e =
      on (Does address n (Store width rs1 rs2 imm)) last same _
      (store_lines_run Assembly p code rest address n (owed l.plan address) (owed_behind l.plan address n) width rs1 rs2 imm l t _ g c range (counts_below address n some) asked.0 asked.1 (own (Does address n (Store width rs1 rs2 imm)) last same))
      (of_done _ _ _ to asked.0.tested e)
  instruction address n (Store width rs1 rs2 imm) last same some range (inr faults) moves e = absurd (not_before _ _ _ to faults.tested refl e)
  instruction address n (Branch cond rs1 rs2 offset) last same some range asked moves e = absurd (false≢true (sym moves))
  instruction address n (Jal rd offset) last same some range asked moves e = absurd (false≢true (sym moves))
  instruction address n Ecall last same some range asked moves e = absurd (cc)
  instruction address n Ebreak last same some range asked moves e = absurd (cc)
  instruction address n (Jalr rd rs1 imm) last same some range asked moves e = absurd (false≢true (sym moves))

  -- a jump, to a label or out
  jump_runs : (address n : ℕ) (i : Instr) → AreLast code (Does address n i ∷ rest) → owes ≡ owed l.plan address → 0 < g.left → InRange i → is_jump_line i ≡ true
      → IsCovered (line_step Assembly p code (Does address n i ∷ rest) g).place
      → Follows t line_most p l base code (record { rip = bare_start l.plan base code rest (Does address n i); core = c }) (line_step Assembly p code (Does address n i ∷ rest) g)
  jump_runs address n (Branch cond rs1 rs2 offset) last same some range is covered =
      let line = Does address n (Branch cond rs1 rs2 offset) in
      let target = offset_by address offset in
      let j = jump_of l.plan (distances l.plan code rest) (distance_out l.plan code rest) address target in
      let here_owed = owed l.plan address in
      let next = owed_behind l.plan address n in
      let taken = is_taken cond (value p g rs1) (value p g rs2) in
      let leads = branch_lines_run Assembly p code rest address n here_owed next cond rs1 rs2 offset j l t _ g c range (counts_below address n some) (is_jump line last same address target) (own line last same) in
      let k = line_step Assembly p code (line ∷ rest) g in
      let owed_is : (if taken then jump_owed j (one_less g.left) else next) ≡ owed_there l.plan p k.place =
      branch_owes l.plan p code taken target (one_less g.left) (has_test j) rest next (owed_mod l.plan (address + n) ∙ owed_next line last same) covered in
      record {
        after = record { rip = _; core = leads.0.after };
        reached = leads.0.reached;
        alike = record {
          related = subst (λ o. IsRelated p l (owing o k) leads.0.after) owed_is leads.0.related;
          is_at = branch_arrives line last same taken address n target (one_less g.left) leads.0.after leads.1 covered;
        };
        others = leads.0.others;
      }
  jump_runs address n (Jal rd offset) last same some range is covered =
      let line = Does address n (Jal rd offset) in
      let target = offset_by address offset in
      let j = jump_of l.plan (distances l.plan code rest) (distance_out l.plan code rest) address target in
      let here_owed = owed l.plan address in
      let leads = jal_lines_run Assembly p code rest address n here_owed rd offset j l t _ g c range (counts_all address some) (is_jump line last same address target) (own line last same) in
      let k = line_step Assembly p code (line ∷ rest) g in
      let owed_is : jump_owed j (one_less g.left) ≡ owed_there l.plan p k.place =
      jump_owes l.plan p code target (has_test j) (is_short Assembly (one_less g.left)) (label target code) refl covered in
      record {
        after = record { rip = _; core = leads.0.after };
        reached = leads.0.reached;
        alike = record {
          related = subst (λ o. IsRelated p l (owing o k) leads.0.after) owed_is leads.0.related;
          is_at = jump_arrives line last same address target target (one_less g.left) leads.0.after leads.1 refl covered;
        };
        others = leads.0.others;
      }
  jump_runs address n (Jalr rd rs1 imm) last same some range is covered =
      let line = Does address n (Jalr rd rs1 imm) in
      let to = even_of (offset_by (value p g rs1) imm) in
      let here_owed = owed l.plan address in
      let distance = shared_jump (distance_out l.plan code rest) in
      let arrives : jumped (line_end line last same) distance ≡ shared = ap (λ a. jumped a distance) (ends line last same) ∙ shared_reached l.plan base code rest few low_end in
      let canonical : is_canonical (jumped (end_of shared (indirect_jump 0)) 0) ≡ true = ap is_canonical shared_out ∙ low_canonical (base + exit_of l.plan code) low_end in
      let leads = jalr_lines_run Assembly p code rest address n here_owed rd rs1 imm distance base shared l t _ g c range (counts_all address some) arrives (low_canonical shared (omega (arith, low_end))) shared_stands canonical low_end lie has (own line last same) in
      let k = line_step Assembly p code (line ∷ rest) g in
      let owed_is : jalr_owed l.plan p code to (one_less g.left) ≡ owed_there l.plan p k.place =
      enter_owes l.plan p (is_short Assembly (one_less g.left)) (to % unit p.format == 0) (is_unit_start p to) (label to code)
      (λ is. (and_parts _ _ (and_parts _ _ is).1).1)
      (λ whole other lines e. let at = lie.labels to lines e in false≢true (sym other ∙ (rw (le-leb p.code_base to at.0, lt-ltb to (p.code_base + length p.code) at.1, whole) refl))) in
      record {
        after = record { rip = _; core = leads.0.after };
        reached = leads.0.reached;
        alike = record {
          related = subst (λ o. IsRelated p l (owing o k) leads.0.after) owed_is leads.0.related;
          is_at = jalr_arrives line last same address to (one_less g.left) leads.0.after leads.1 lie;
        };
        others = leads.0.others;
      }
  jump_runs address n i last same some range is covered = absurd (false≢true is)

  -- a line that goes out
  left_by : (address : ℕ) (line : Line) → AreLast code (line ∷ rest) → owes ≡ owed l.plan (address_of line) → address_of line ≡ address
      → placed_bare l.plan code rest line ≡ leave_line address (owed l.plan address) (distance_out l.plan code rest)
      → Follows t line_most p l base code (record { rip = bare_start l.plan base code rest line; core = c }) (goes_with g Slow address)
  left_by address line last same at is =
      let from = bare_start l.plan base code rest line in
      let out = distance_out l.plan code rest in
      let n = owed l.plan address in
      let out_is : jumped (end_of from (leave_line address n out)) out ≡ base + exit_of l.plan code =
      ap (λ is. jumped (end_of from is) out) (sym is) ∙ ap (λ a. jumped a out) (ends line last same) ∙ exit_reached l.plan base code rest few low_end in
      let before : IsBefore (leave_line address n out) t from p l (owing n g) c =
      subst (λ a. IsBefore (leave_line address n out) t from p l (owing (owed l.plan a) g) c) at (subst (λ is. IsBefore is t from p l (owing (owed l.plan (address_of line)) g) c) is (own line last same)) in
      let it = leave_line_runs p l t from address n out (owed_few l.plan address) g below c before (ap is_canonical out_is ∙ low_canonical (base + exit_of l.plan code) low_end) in
      record { after = _; reached = in_more t 3 line_most _ _ (omega arith) it.reached; alike = record { related = related_goes p l (owing 0 g) it.after Slow address it.related; is_at = (out_is, it.edx) }; others = it.others }

  -- an access that faults
  by_fixup : (address n : ℕ) (i : Instr) (a : Access) → AreLast code (Does address n i ∷ rest) → owes ≡ owed l.plan address → 0 < g.left → InRange i → Faults p g i
      → access_in l.plan (Does address n i) ≡ Some a → (line_step Assembly p code (Does address n i ∷ rest) g ≡ goes_with g Slow a.pc)
      → Follows t line_most p l base code (record { rip = bare_start l.plan base code rest (Does address n i); core = c }) (line_step Assembly p code (Does address n i ∷ rest) g)
  by_fixup address n i a last same some range faults has goes =
      let line = Does address n i in
      let from = bare_start l.plan base code rest line in
      let f = fixup_of (base + exit_of l.plan code) a in
      let a_is = access_is l.plan address n i a has in
      let inside : a.offset < size_of l.plan line = within_line l.plan line a has in
      let at : base + (start l.plan code (line ∷ rest) + a.offset) ≡ end_of from (front_of l.plan i) =
      ap (λ x. base + (start l.plan code (line ∷ rest) + x.offset)) a_is ∙ omega (arith, front_below (nop_code (nop l.plan address)) (front_of l.plan i)) in
      let there : t.fixups (end_of from (front_of l.plan i)) ≡ Some f =
      ap t.fixups (sym at) ∙ fixups _ (omega arith) (omega (arith, inside, last_below l.plan code (line ∷ rest) last)) ∙ access_found l.plan base (exit_of l.plan code) code rest line a has last in
      let it = faulting_lines_run Assembly p code rest address n i (distances l.plan code rest) (distance_out l.plan code rest) f l t from g c range (counts_all address some) faults (own line last same) there (ap (λ x. x.owed) a_is) in
      let slow = goes_with g Slow a.pc in
      let related : IsRelated p l slow it.0.after = subst (λ k. IsRelated p l k it.0.after) goes it.0.related in
      let m : Machine = record { rip = base + exit_of l.plan code; core = it.0.after } in
      record {
        after = m;
        reached = it.0.reached;
        alike = subst (λ k. IsAlike p l base code k m) (sym goes) (record {
          related = related_as p l slow it.0.after Slow (g.left + 0) related (omega arith);
          is_at = (refl, it.1);
        });
        others = it.0.others;
      }

  -- a line that isn't a jump and leads to a slow step
  slow_instruction : (address n : ℕ) (i : Instr) → AreLast code (Does address n i ∷ rest) → owes ≡ owed l.plan address → 0 < g.left → InRange i → Accesses p g i → is_jump_line i ≡ false
      → (line_step Assembly p code (Does address n i ∷ rest) g).place ≡ Slow
      → Follows t line_most p l base code (record { rip = bare_start l.plan base code rest (Does address n i); core = c }) (line_step Assembly p code (Does address n i ∷ rest) g)
  slow_instruction address n Ecall last same some range asked none e = left_by address (Does address n Ecall) last same refl refl
  slow_instruction address n Ebreak last same some range asked none e = left_by address (Does address n Ebreak) last same refl refl
  slow_instruction address n (Load kind rd rs1 imm) last same some range (inl asked) none e = absurd (not_slow _ _ _ rest asked.0.tested refl e)
  slow_instruction address n (Load kind rd rs1 imm) last same some range (inr faults) none e =
      by_fixup address n (Load kind rd rs1 imm) _ last same some range faults refl (slow_result _ _ _ faults.tested)
  slow_instruction address n (Store width rs1 rs2 imm) last same some range (inl asked) none e = absurd (not_slow _ _ _ rest asked.0.tested refl e)
  slow_instruction address n (Store width rs1 rs2 imm) last same some range (inr faults) none e =
      by_fixup address n (Store width rs1 rs2 imm) _ last same some range faults refl (slow_result _ _ _ faults.tested)
  slow_instruction address n (Jalr rd rs1 imm) last same some range asked none e = absurd (false≢true (sym none))
  slow_instruction address n (Branch cond rs1 rs2 offset) last same some range asked none e = absurd (false≢true (sym none))
  slow_instruction address n (Jal rd offset) last same some range asked none e = absurd (false≢true (sym none))
  slow_instruction address n (Op op rd rs1 rs2) last same some range asked none e = absurd (cc)
  slow_instruction address n (OpImm op rd rs1 imm) last same some range asked none e = absurd (cc)
  slow_instruction address n (Lui rd imm) last same some range asked none e = absurd (cc)
  slow_instruction address n (Auipc rd imm) last same some range asked none e = absurd (cc)
  slow_instruction address n (Fence imm rd rs1) last same some range asked none e = absurd (cc)

  -- a head, by the outcome of its test
  module _ (address : ℕ) (last : AreLast code (Head address ∷ rest)) (same : owes ≡ owed l.plan address) where
    abbrev from : ℕ
    from = bare_start l.plan base code rest (Head address)

    abbrev out : ℕ
    out = distance_out l.plan code rest

    abbrev n : ℕ
    n = owed l.plan address

    out_is : jumped (end_of from (head_line address n out)) out ≡ base + exit_of l.plan code
    out_is = ap (λ a. jumped a out) (ends (Head address) last same) ∙ exit_reached l.plan base code rest few low_end

    -- the label is the line's end
    end_is : jumped (end_of from (head_line address n out)) 0 ≡ base + start l.plan code rest
    end_is = ap (λ a. jumped a 0) (ends (Head address) last same) ∙ omega (arith, low_end)

    can_lead : CanLead (end_of from (head_line address n out)) n 0 out
    can_lead = record {
      fits = omega arith;
      near = inl (omega (arith, size_most n 0));
      label_is = ap is_canonical end_is ∙ low_canonical (base + start l.plan code rest) (omega (arith, low_end));
      exit_is = ap is_canonical out_is ∙ low_canonical (base + exit_of l.plan code) low_end;
    }

    abbrev HeadTests : Bool → Type 0
    HeadTests short = Tests t p l address n 0 out (owed_few l.plan address) g below from c short

    head_tests : HeadTests (is_short Assembly g.left)
    head_tests = tests t p l address n 0 out (owed_few l.plan address) g below from c (own (Head address) last same) can_lead

    head : (short : Bool) → HeadTests short
        → Follows t line_most p l base code (record { rip = from; core = c }) (if short then goes_with g Slow address else goes g (Before rest))
    head true it = record { after = _; reached = in_more t 5 line_most _ _ (omega arith) it.leads.reached; alike = record { related = related_goes p l (owing 0 g) it.leads.after Slow address it.leads.related; is_at = (out_is, it.edx refl) }; others = it.leads.others }
    head false it =
        let next : n ≡ owed_before l.plan p rest = owed_next (Head address) last same in
        record {
          after = _;
          reached = in_more t 5 line_most _ _ (omega arith) it.leads.reached;
          alike = record {
            related = related_as p l (owing n g) it.leads.after (Before rest) (g.left + owed_before l.plan p rest) it.leads.related (ap (λ o. g.left + o) (sym next));
            is_at = (end_is, tail_last code rest (Head address) last);
          };
          others = it.leads.others;
        }

-- ==== As the turn goes.

-- where a step of a line leads
led : (comes : ControlPoint) → IsCovered comes → ((to : List Line) × (comes ≡ Before to)) ⊎ ((comes ≡ Slow) ⊎ (comes ≡ Loop))
led (Before to) covered = inl (to, refl)
led Slow covered = inr (inl refl)
led Loop covered = inr (inr refl)
led _ covered = absurd covered

module _ (p : Part) (code rest : List Line) (l : Layout) (t : Text) (base owes : ℕ) (g : Going) (m : Machine) (here : IsBefore (whole_code l.plan (end_address p) code) t base p l (owing owes g) m.core) (below : g.left < 2 ^ 31) (few : exit_of l.plan code < 2 ^ 31) (fixups : HasFixups l.plan t base code) (lie : LieInCode p code) (has : HasTable p l base code m.core) where
  abbrev start_of : Line → Machine
  start_of line = record { rip = bare_start l.plan base code rest line; core = m.core }

  -- what leads to lines leads on
  leads_on : (line : Line) (to : List Line) (k : Going) (n : ℕ) → k.place ≡ Before to → n ≡ owed_before l.plan p to
      → LeadsTo t (bare_start l.plan base code rest line) (base + start l.plan code to) p l m.core (owing n k) × AreLast code to
      → Follows t line_most p l base code (start_of line) k
  leads_on line to k n e owed_is leads =
      let after : Machine = record { rip = base + start l.plan code to; core = leads.0.after } in
      let there : n ≡ owed_there l.plan p k.place = owed_is ∙ ap (owed_there l.plan p) (sym e) in
      record {
        after = after;
        reached = leads.0.reached;
        alike = record {
          related = subst (λ o. IsRelated p l (owing o k) leads.0.after) there leads.0.related;
          is_at = subst (λ place. IsAtPlace l.plan base code place k.state.hart.pc after) (sym e) (refl, leads.1);
        };
        others = leads.0.others;
      }

  -- a line without code
  passes : (line : Line) → AreLast code (line ∷ rest) → owes ≡ owed l.plan (address_of line) → placed_bare l.plan code rest line ≡ [] → next_address line ≡ address_of line
      → Follows t line_most p l base code (start_of line) (goes g (Before rest))
  passes line last same none still =
      leads_on line rest (goes g (Before rest)) (owed l.plan (address_of line)) refl
      (ap (owed l.plan) (sym still) ∙ owed_next p code rest rest l t base owes g m.core here below few fixups lie has line last same)
      (nothing p code rest rest l t base owes g m.core here below few fixups lie has line last same none, tail_last code rest line last)

  line_runs : (line : Line) → AreLast code (line ∷ rest) → owes ≡ owed l.plan (address_of line) → 0 < g.left → IsReady p g line → IsCovered (line_step Assembly p code (line ∷ rest) g).place
      → Follows t line_most p l base code (start_of line) (line_step Assembly p code (line ∷ rest) g)
  line_runs (Function sandbox at) last same some ready covered = passes (Function sandbox at) last same refl refl
  line_runs (End at) last same some ready covered = passes (End at) last same refl refl
  line_runs (Entry at) last same some ready covered = passes (Entry at) last same refl refl
  line_runs (Head at) last same some ready covered =
      head p code rest rest l t base owes g m.core here below few fixups lie has at last same (is_short Assembly g.left) (head_tests p code rest rest l t base owes g m.core here below few fixups lie has at last same)
  line_runs (Does at n i) last same some ready covered = elim (cases_Bool (is_jump_line i)) [
    | inl jump ↦ jump_runs p code rest rest l t base owes g m.core here below few fixups lie has at n i last same some ready.0 jump covered
    | inr none ↦ elim (led (line_step Assembly p code (Does at n i ∷ rest) g).place covered) [
      | inl to ↦
          let it = instruction p code rest to.0 l t base owes g m.core here below few fixups lie has at n i last same some ready.0 ready.1 none to.1 in
          let behind : owed_behind l.plan at n ≡ owed_before l.plan p to.0 =
          owed_mod l.plan (at + n) ∙ owed_next p code rest rest l t base owes g m.core here below few fixups lie has (Does at n i) last same
          ∙ ap (owed_before l.plan p) (sym (by_line p code rest at n i none g to.0 to.1)) in
          leads_on (Does at n i) to.0 _ (owed_behind l.plan at n) to.1 behind it
      | inr (inl slow) ↦ slow_instruction p code rest rest l t base owes g m.core here below few fixups lie has at n i last same some ready.0 ready.1 none slow
      | inr (inr loop) ↦ absurd (no_loop p code rest g at n i none loop)
    ]
  ]

-- the end's code, from its place
ended : (p : Part) (code : List Line) (l : Layout) (t : Text) (base : ℕ) (g : Going) (m : Machine) → IsBefore (whole_code l.plan (end_address p) code) t base p l (owing (owed l.plan (end_address p)) g) m.core → g.left < 2 ^ 31
    → exit_of l.plan code < 2 ^ 31 → HasFixups l.plan t base code → LieInCode p code → HasTable p l base code m.core
    → m.rip ≡ base + start l.plan code [] → Follows t placed_most p l base code m (line_step Assembly p code [] g)
ended p code l t base g m here below few fixups lie has rip =
    let leads = end_runs p code [] [] l t base (owed l.plan (end_address p)) g m.core here below few fixups lie has refl in
    let from : base + size_of_all l.plan code ≡ m.rip = omega (arith, rip) in
    record {
      after = leads.after;
      reached = subst (λ a. Reaches t placed_most (record { rip = a; core = m.core }) leads.after) from (in_more t line_most placed_most _ _ (omega arith) leads.reached);
      alike = leads.alike;
      others = leads.others;
    }

pub placed_lines_run : PlacedLinesRun
placed_lines_run p code [] l t base g m here few fixups lie has place is_at some below ready covered =
    let at : (m.rip ≡ base + start l.plan code []) × AreLast code [] = subst (λ q. IsAtPlace l.plan base code q g.state.hart.pc m) place is_at in
    let own = subst (λ q. IsBefore (whole_code l.plan (end_address p) code) t base p l (owing (owed_there l.plan p q) g) m.core) place here in
    ended p code l t base g m own below few fixups lie has at.0
placed_lines_run p code (line ∷ rest) l t base g m here few fixups lie has place is_at some below ready covered =
    let at : (m.rip ≡ base + start l.plan code (line ∷ rest)) × AreLast code (line ∷ rest) = subst (λ q. IsAtPlace l.plan base code q g.state.hart.pc m) place is_at in
    let own = subst (λ q. IsBefore (whole_code l.plan (end_address p) code) t base p l (owing (owed_there l.plan p q) g) m.core) place here in
    let leads = line_runs p code rest l t base (owed l.plan (address_of line)) g m own below few fixups lie has line at.1 refl some ready covered in
    let from = base + start l.plan code (line ∷ rest) in
    let before = padding l.plan line in
    let stands = line_stands l.plan t code base (lines_stand p code rest rest l t base (owed l.plan (address_of line)) g m.core own below few fixups lie has) line rest at.1 in
    record {
      after = leads.after;
      reached = subst (λ a. Reaches t placed_most (record { rip = a; core = m.core }) leads.after) (sym at.0)
          (in_more t (length before + line_most) placed_most _ _ (omega (arith, padding_one l.plan line))
          (then_reaches t from before (placed_bare l.plan code rest line) m.core m.core own.text_is_fixed own.text_is_low stands (padding_runs l.plan line m.core) line_most leads.after leads.reached));
      alike = leads.alike;
      others = leads.others;
    }
