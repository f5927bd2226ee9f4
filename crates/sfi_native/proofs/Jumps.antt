-- The code of branches and jal, from its first instruction to where it leads.
use Rattle.std.proofs.Common.{◌≡◌, ℕ, ◌+◌, ◌*◌, ◌^◌, ◌<◌, Bool, true, false, Some, List, [], ◌∷◌, ◌++◌, length, refl, sym, ap, ◌∙◌, append_assoc, nat_lt, subst, arith, if◌then◌else◌, length-append}
use Rattle.std.specs.Prelude.{Ok, not, ◌==◌, ◌&&◌}
use Rattle.std.proofs.lemmas.Bool.{and_parts, eqb-true, false≢true, lt-ltb}
unfoldable use Rattle.rv_word.specs.Spelling.{InRange}
use Rattle.rv_word.specs.Spelling.{offset_by}
use Rattle.rv_word.specs.declared.instr.Cond.{Cond}
use Rattle.rv_mem.specs.Bytes.{Bytes, address_after}
use Rattle.rv_step.specs.Step.{is_taken}
use Rattle.rv_step.specs.State.{past, with_pc}
use Rattle.sfi_image.specs.Spelling.{Part}
use Rattle.rv_word.specs.declared.instr.Instr.TheVariants.{Jal}
use Rattle.sfi_translate.specs.Lines.{Does}
use Rattle.sfi_translate.specs.Machine.{ControlPoint, Going, fixed, jumps, Assembly, is_short, line_step, one_less}
use Rattle.x86_instr.specs.declared.operand.Register.TheVariants.{Rax}
use Rattle.x86_instr.specs.Spelling.{number}
use Rattle.x86_instr.specs.declared.instr.Width.TheVariants.{Dword}
use Rattle.x86_instr.specs.declared.instr.Condition.{Condition}
use Rattle.x86_instr.specs.declared.instr.Instr.{Instr as Native}
use Rattle.x86_instr.specs.declared.instr.Instr.TheVariants.{Alu, Jcc}
use Rattle.x86_instr.specs.declared.instr.AluOp.TheVariants as alu
use Rattle.x86_step.specs.State.{Core, Text, number_at, with_flags}
use Rattle.x86_step.specs.Step.{Reaches, jumped, difference, is_met, low, value as operand_value}
unfoldable use Rattle.x86_step.specs.Step.{computes}
use Rattle.x86_step.specs.Running.{HasAt, spellings}
use Rattle.x86_step.proofs.Running.{in_more}
use Rattle.sfi_native.specs.declared.jump.Jump.{Jump}
use Rattle.sfi_native.specs.declared.layout.Layout.{Layout}
use Rattle.sfi_native.specs.Layout.{IsLayout, IsRelated, OthersStay, owing, value}
use Rattle.sfi_native.specs.Laws.{BranchLinesRun, CountsBelow, IsBefore, IsJump, JalLinesRun, end_of, is_slow, jump_owed, jump_place, line_most}
use Rattle.sfi_native.specs.Code.{branch_jump, compare_code, count, has_test, is_bare, jal_line, met_by, number_code, operand_of, opposite, read, register_or, tested_jump, unless}
use Rattle.sfi_native.specs.Registers.{assigned}
use Rattle.sfi_native.proofs.Assigned.{free, holds_on, not_left}
use Rattle.sfi_native.proofs.Arithmetic.{low_is, met_is, unmet_is}
use Rattle.sfi_native.proofs.Kept.{closed_kept, kept_flags, others_join, others_kept, others_same}
use Rattle.sfi_native.proofs.Counting.{counts, related_as}
use Rattle.sfi_native.proofs.Runs.{Runs, back_fixed, back_stands, branch_effect, end_append, falls, jumps_to, runs_join, skipped, straight_runs, then_reaches}
use Rattle.sfi_native.proofs.Tested.{jumps_by_test, tested_few}
use Rattle.sfi_native.proofs.Fetching.{operand_is, reads, related_kept}
use Rattle.sfi_native.proofs.Lines.{none_comes, number_comes}
use Rattle.sfi_native.proofs.Lengths.{branch_few, compare_few, number_few}

-- ==== A branch.

module _ (p : Part) (l : Layout) (layout : IsLayout p l) where
  -- where the turn is doesn't matter
  replaced : (registers : List ℕ) (m : Bytes) (left from to : ℕ) (place next : ControlPoint) (d : Core)
      → IsRelated p l (record { place = place; state = record { hart = fixed p (record { pc = from; registers = registers }); memory = m }; left = left }) d
      → IsRelated p l (record { place = next; state = record { hart = fixed p (record { pc = to; registers = registers }); memory = m }; left = left }) d
  replaced registers m left from to place next d is = record {
    register_count = is.register_count;
    words = is.words;
    registers = is.registers;
    frame = is.frame;
    frame_is_written = is.frame_is_written;
    few = is.few;
    left = is.left;
    bytes = is.bytes;
    bytes_are_written = is.bytes_are_written;
    origin_is = is.origin_is;
  }

  module _ (g : Going) (owed next : ℕ) (below : CountsBelow g owed next) (c : Core) (is : IsRelated p l (owing owed g) c) where
    abbrev moved : ControlPoint → ℕ → Going
    moved place pc = record {
      place = place;
      state = record { hart = fixed p (record { pc = pc; registers = (fixed p g.state.hart).registers }); memory = g.state.memory };
      left = one_less g.left;
    }

    -- the flags are those of the comparison
    pub record Compares (rs1 rs2 : ℕ) : Type 0 where
      pub core : Core
      pub runs : Runs (compare_code l.plan owed next rs1 rs2) c core
      pub related : (place : ControlPoint) (pc : ℕ) → IsRelated p l (owing next (moved place pc)) core
      pub others : OthersStay p l c core
      pub flags : core.flags ≡ (difference Dword (value p g rs1) (value p g rs2)).flags

    pub compares : (rs1 rs2 : ℕ) → rs1 < 32 → rs2 < 32 → Compares rs1 rs2
    unfolding computes
    compares rs1 rs2 f1 f2 =
        let a = value p g rs1 in
        let b = value p g rs2 in
        let o1 = assigned l.plan rs1 in
        let o2 = assigned l.plan rs2 in
        let x = register_or o1 Rax in
        let src = operand_of o2 rs2 in
        let compare = Alu alu.Cmp Dword x src ∷ [] in
        let right = layout.plan_is_right in
        let first = reads p l layout (owing owed g) c Rax (omega arith) rs1 f1 is in
        let c1 = first.core in
        let is1 = related_kept p l layout (owing owed g) c c1 is first.kept in
        let still = none_comes p l layout (owing owed g) c1 is1 g.place 0 in
        let left : g.left + owed ≡ one_less g.left + (owed + 1) = omega (arith, below.some, below.left) in
        let n = counts p l layout _ c1 still (owed + 1) next (one_less g.left) left (omega (arith, below.some, below.left, below.few_behind)) (omega (arith, below.few)) (omega (arith, below.few_behind)) in
        let in_x : low Dword (n.core.registers (number x)) ≡ a = ap (low Dword) (n.others (number x) (not_left l.plan right rs1 o1 refl Rax (omega arith)) ∙ first.result) ∙ low_is a (is.words rs1) in
        let holds = holds_on l c1 n.core rs2 b o2 (λ e. ap (λ m. number_at m 4 (l.frame + 4 * rs2)) n.memory) (λ k lies. n.others (number k) (λ e. omega (arith, e, (free l.plan right rs2 k lies).below))) (is1.registers rs2 f2) in
        let there : operand_value n.core Dword src ≡ Ok b = operand_is p l layout n.core rs2 b f2 (is.words rs2) (n.others 4 (λ e. omega (arith, e)) ∙ is1.frame) o2 holds in
        let f = (difference Dword (low Dword (n.core.registers (number x))) b).flags in
        let counting = count (owed + 1) next in
        record {
          core = with_flags n.core f;
          runs = runs_join (read o1 Rax rs1) (counting ++ compare) c c1 (with_flags n.core f) (straight_runs (read o1 Rax rs1) c c1 first.straight first.runs)
              (runs_join counting compare c1 n.core (with_flags n.core f) (straight_runs counting c1 n.core n.straight n.runs) (straight_runs compare n.core (with_flags n.core f) refl (rw there refl)));
          related = λ place pc. replaced (fixed p g.state.hart).registers g.state.memory (one_less g.left + next) 0 pc g.place place (with_flags n.core f)
              (related_kept p l layout _ n.core (with_flags n.core f) n.related (kept_flags n.core f));
          others = others_join p l c c1 (with_flags n.core f) (others_kept p l c c1 first.kept)
              (others_join p l c1 n.core (with_flags n.core f) n.stay (others_kept p l n.core (with_flags n.core f) (kept_flags n.core f)));
          flags = ap (λ y. (difference Dword y b).flags) in_x;
        }

    -- taken or not
    by_branch : (t : Bool) (place : ControlPoint) (at n to o : ℕ) (d : Core) → ((place : ControlPoint) (pc : ℕ) → IsRelated p l (owing o (moved place pc)) d)
        → IsRelated p l (owing o (record {
          place = place;
          state = record { hart = fixed p (if t then with_pc (with_pc (fixed p g.state.hart) at) to else past (with_pc (fixed p g.state.hart) at) n); memory = g.state.memory };
          left = one_less g.left;
        })) d
    by_branch true place at n to o d related = related place to
    by_branch false place at n to o d related = related place (address_after at n)

-- a branch leads there, from its first instruction on, where so many steps are owed behind it
pub record Branches (p : Part) (l : Layout) (t : Text) (at most : ℕ) (is : List Native) (j : Jump) (owed : ℕ) (k : Going) (c d : Core) (taken : Bool) : Type 0 where
  pub after : Core
  pub reached : Reaches t most (record { rip = at; core = c }) (record { rip = if taken then jump_place (end_of at is) j k.left else end_of at is; core = after })
  pub related : IsRelated p l (owing (if taken then jump_owed j k.left else owed) k) after
  pub others : OthersStay p l d after
  pub edx : taken ≡ true → is_slow j k.left ≡ true → after.registers 2 ≡ j.to

not_true : (t : Bool) → not t ≡ true → t ≡ false
not_true true e = sym e
not_true false e = refl

either : (taken : Bool) (m n : ℕ) → m ≡ n → m ≡ (if taken then n else m)
either true m n same = same
either false m n same = refl

-- by one instruction
bare_branch : (p : Part) (l : Layout) (t : Text) (at : ℕ) (front : List Native) (condition : Condition) (j : Jump) (owed : ℕ) (g k : Going) (c d : Core)
    → IsBefore (front ++ (Jcc condition j.label ∷ [])) t at p l g c → Runs front c d → IsRelated p l (owing owed k) d → IsJump (end_of at (front ++ (Jcc condition j.label ∷ []))) j → is_bare owed j ≡ true
    → (taken : Bool) → is_met condition d.flags ≡ Some taken → Branches p l t at (length front + 7) (front ++ (Jcc condition j.label ∷ [])) j owed k c d taken
bare_branch p l t at front condition j owed g k c d here runs is jump bare taken met =
    let end = end_of at (front ++ (Jcc condition j.label ∷ [])) in
    let parts = and_parts (not (has_test j)) (owed == j.label_owed) bare in
    let untested : has_test j ≡ false = not_true (has_test j) parts.0 in
    let same : owed ≡ jump_owed j k.left = eqb-true owed j.label_owed parts.1 ∙ ap (λ t. if t && is_short Assembly k.left then 0 else j.label_owed) (sym untested) in
    let place : jumped end j.label ≡ jump_place end j k.left = ap (λ t. jumped end (if t && is_short Assembly k.left then j.exit else j.label)) (sym untested) in
    let reached = jumps_to t at front (Jcc condition j.label) c d here.text_is_fixed here.text_is_low here.stands runs (if taken then jumped end j.label else end)
    (λ after e. branch_effect condition j.label after end d taken e met jump.label) in
    record {
      after = d;
      reached = in_more t _ (length front + 7) _ _ (omega arith)
          (subst (λ a. Reaches t (length front + 1) (record { rip = at; core = c }) (record { rip = if taken then a else end; core = d })) place reached);
      related = subst (λ n. IsRelated p l (owing n k) d) (either taken owed (jump_owed j k.left) same) is;
      others = others_same p l d;
      edx = λ e slow. absurd (false≢true (ap (λ t. t && is_short Assembly k.left) (sym untested) ∙ slow));
    }

-- by several, by whether it is taken
module _ (p : Part) (l : Layout) (t : Text) (at : ℕ) (front : List Native) (condition : Condition) (j : Jump) (owed : ℕ) (few : owed < 63) (g k : Going) (below : k.left < 2 ^ 31) (c d : Core)
    (here : IsBefore (front ++ unless condition (tested_jump owed j)) t at p l g c) (runs : Runs front c d) (stay : OthersStay p l c d) (is : IsRelated p l (owing owed k) d)
    (jump : IsJump (end_of at (front ++ unless condition (tested_jump owed j))) j) where
  abbrev end : ℕ
  end = end_of at (front ++ unless condition (tested_jump owed j))

  abbrev skip : Native
  skip = Jcc condition (length (spellings (tested_jump owed j)))

  abbrev fewer : ℕ
  fewer = length (spellings (tested_jump owed j))

  pub branches : (taken : Bool) → is_met condition d.flags ≡ Some (not taken) → Branches p l t at (length front + 7) (front ++ unless condition (tested_jump owed j)) j owed k c d taken
  branches false met =
      let few_bytes : nat_lt fewer (2 ^ 31) ≡ true = lt-ltb fewer (2 ^ 31) (tested_few owed j (omega (arith, few)) jump.few) in
      record {
        after = d;
        reached = in_more t _ (length front + 7) _ _ (branch_few front condition owed j) (runs_join front (unless condition (tested_jump owed j)) c d d runs (skipped condition (tested_jump owed j) d few_bytes met) t at here.text_is_fixed here.text_is_low here.stands);
        related = is;
        others = others_same p l d;
        edx = λ e. absurd (false≢true e);
      }
  branches true met =
      let to_jump = runs_join front (skip ∷ []) c d d runs (falls condition (tested_jump owed j) d met) in
      let whole : HasAt t at (spellings ((front ++ (skip ∷ [])) ++ tested_jump owed j)) = subst (λ is. HasAt t at (spellings is)) (sym (append_assoc front (skip ∷ []) (tested_jump owed j))) here.stands in
      let from = end_of at (front ++ (skip ∷ [])) in
      let end_is : end_of from (tested_jump owed j) ≡ end = end_append at (front ++ (skip ∷ [])) (tested_jump owed j) ∙ ap (end_of at) (append_assoc front (skip ∷ []) (tested_jump owed j)) in
      let own : IsBefore (tested_jump owed j) t from p l (owing owed k) d = record {
        layout = here.layout;
        text_is_fixed = back_fixed t at (front ++ (skip ∷ [])) (tested_jump owed j) c d here.text_is_fixed here.text_is_low whole to_jump;
        text_is_low = here.text_is_low;
        faults_are_handled = here.faults_are_handled;
        stands = back_stands t at (front ++ (skip ∷ [])) (tested_jump owed j) c d here.text_is_fixed here.text_is_low whole to_jump;
        related = is;
        closed = closed_kept p l here.layout c d stay here.closed;
      } in
      let it = jumps_by_test t p l j k below from owed (omega (arith, few)) d own (subst (λ a. IsJump a j) (sym end_is) jump) in
      record {
        after = it.leads.after;
        reached = in_more t (length (front ++ (skip ∷ [])) + 6) (length front + 7) _ _ (omega (arith, length-append front (skip ∷ [])))
            (then_reaches t at (front ++ (skip ∷ [])) (tested_jump owed j) c d here.text_is_fixed here.text_is_low whole to_jump 6 (record { rip = jump_place end j k.left; core = it.leads.after })
            (subst (λ a. Reaches t 6 (record { rip = from; core = d }) (record { rip = jump_place a j k.left; core = it.leads.after })) end_is it.leads.reached));
        related = it.leads.related;
        others = it.leads.others;
        edx = λ e. it.edx;
      }

by_jump : (p : Part) (l : Layout) (t : Text) (at : ℕ) (front : List Native) (cond : Cond) (j : Jump) (owed : ℕ) → owed < 63 → (g k : Going) → k.left < 2 ^ 31 → (c d : Core) → Runs front c d → OthersStay p l c d
    → IsRelated p l (owing owed k) d → (taken : Bool) → is_met (met_by cond) d.flags ≡ Some taken → is_met (opposite cond) d.flags ≡ Some (not taken) → (bare : Bool) → is_bare owed j ≡ bare
    → IsBefore (front ++ branch_jump bare cond owed j) t at p l g c → IsJump (end_of at (front ++ branch_jump bare cond owed j)) j
    → Branches p l t at (length front + 7) (front ++ branch_jump bare cond owed j) j owed k c d taken
by_jump p l t at front cond j owed few g k below c d runs stay is taken met unmet true bare here jump = bare_branch p l t at front (met_by cond) j owed g k c d here runs is jump bare taken met
by_jump p l t at front cond j owed few g k below c d runs stay is taken met unmet false bare here jump = branches p l t at front (opposite cond) j owed few g k below c d here runs stay is jump taken unmet

pub branch_lines_run : BranchLinesRun
unfolding InRange
branch_lines_run target p code rest address size owed next cond rs1 rs2 offset j l t at g c range below jump here =
    let a = value p g rs1 in
    let b = value p g rs2 in
    let taken = is_taken cond a b in
    let done = compares p l here.layout g owed next below c here.related rs1 rs2 range.0 range.1 in
    let met : is_met (opposite cond) done.core.flags ≡ Some (not taken) =
    ap (is_met (opposite cond)) done.flags ∙ unmet_is cond a b (here.related.words rs1) (here.related.words rs2) in
    let left : one_less g.left < 2 ^ 31 = omega (arith, below.some, below.left) in
    let k = moved p l here.layout g owed next below c here.related g.place 0 in
    let it = by_jump p l t at (compare_code l.plan owed next rs1 rs2) cond j next below.few_behind (owing owed g) k left c done.core done.runs done.others (done.related g.place 0) taken
    (ap (is_met (met_by cond)) done.flags ∙ met_is cond a b (here.related.words rs1) (here.related.words rs2)) met (is_bare next j) refl here jump in (
      record {
        after = it.after;
        reached = in_more t _ line_most _ _ (omega (arith, compare_few l.plan owed next rs1 rs2)) it.reached;
        related = by_branch p l here.layout g owed next below c here.related taken _ address size (offset_by address offset) (if taken then jump_owed j (one_less g.left) else next) it.after
            (λ place pc. replaced p l here.layout (fixed p g.state.hart).registers g.state.memory (one_less g.left + (if taken then jump_owed j (one_less g.left) else next)) 0 pc g.place place it.after it.related);
        others = others_join p l c done.core it.after done.others it.others;
      },
      it.edx,
    )

-- ==== A jal.

pub jal_lines_run : JalLinesRun
unfolding InRange
jal_lines_run target p code rest address size owed rd offset j l t at g c range below jump here =
    let v = address_after address size in
    let front = number_code l.plan rd v in
    let line = jal_line l.plan owed rd v j in
    let left : one_less g.left < 2 ^ 31 = omega (arith, below.some, below.left) in
    let number = number_comes p l here.layout (owing owed g) c here.related (jumps target code address (offset_by address offset) (one_less g.left)) (offset_by address offset) rd v range.0 (omega arith) in
    let k : Going = record { place = jumps target code address (offset_by address offset) (one_less g.left); state = (line_step target p code (Does address size (Jal rd offset) ∷ rest) g).state; left = one_less g.left } in
    let done = number.core in
    let from = end_of at front in
    let end_is : end_of from (tested_jump (owed + 1) j) ≡ end_of at line = end_append at front (tested_jump (owed + 1) j) in
    let same : one_less g.left + (owed + 1) ≡ g.left + owed = omega (arith, below.some, below.left) in
    let own : IsBefore (tested_jump (owed + 1) j) t from p l (owing (owed + 1) k) done = record {
      layout = here.layout;
      text_is_fixed = back_fixed t at front (tested_jump (owed + 1) j) c done here.text_is_fixed here.text_is_low here.stands number.runs;
      text_is_low = here.text_is_low;
      faults_are_handled = here.faults_are_handled;
      stands = back_stands t at front (tested_jump (owed + 1) j) c done here.text_is_fixed here.text_is_low here.stands number.runs;
      related = related_as p l _ done k.place (one_less g.left + (owed + 1)) number.related same;
      closed = closed_kept p l here.layout c done number.others here.closed;
    } in
    let it = jumps_by_test t p l j k left from (owed + 1) (omega (arith, below.few)) done own (subst (λ a. IsJump a j) (sym end_is) jump) in (
      record {
        after = it.leads.after;
        reached = in_more t (length front + 6) line_most _ _ (omega (arith, number_few l.plan rd v))
            (then_reaches t at front (tested_jump (owed + 1) j) c done here.text_is_fixed here.text_is_low here.stands number.runs 6 (record { rip = jump_place (end_of at line) j (one_less g.left); core = it.leads.after })
            (subst (λ a. Reaches t 6 (record { rip = from; core = done }) (record { rip = jump_place a j (one_less g.left); core = it.leads.after })) end_is it.leads.reached));
        related = it.leads.related;
        others = others_join p l c done it.leads.after number.others it.leads.others;
      },
      it.edx,
    )
