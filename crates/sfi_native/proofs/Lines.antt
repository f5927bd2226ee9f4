-- The code of a computing line, from its first instruction to its last.
use Rattle.std.proofs.Common.{◌≡◌, ℕ, ◌+◌, ◌*◌, ◌%◌, ◌^◌, ◌<◌, Bool, true, false, List, [], ◌∷◌, ◌++◌, ◌==◌, ◌∙◌, Option, Some, None, if◌then◌else◌, refl, sym, ap, subst, append_assoc, arith, inl, inr}
use Rattle.std.specs.Prelude.{Ok, ℤ}
use Rattle.std.proofs.lemmas.Bool.{cases_Bool, eq-eqb, eqb-true, false≢true}
use Rattle.std.proofs.lemmas.Nat.{and_comm, or_comm, xor_comm}
use Rattle.std.proofs.Math.Nat.{add_comm, mul_comm}
use Rattle.std.specs.Prelude.{◌&&◌, ◌||◌}
use Rattle.std.specs.Int.Bits.{or_zero_r, xor_zero_r}
use Rattle.rv_word.specs.declared.instr.RegOp.{RegOp}
use Rattle.rv_word.specs.declared.instr.RegOp.TheVariants.{Add, Xor, Or, And, Mul}
use Rattle.rv_word.specs.declared.instr.ImmOp.{ImmOp}
use Rattle.rv_word.specs.declared.instr.ImmOp.TheVariants.{Addi}
use Rattle.rv_word.specs.declared.instr.Instr.{Instr}
use Rattle.rv_word.specs.declared.instr.Instr.TheVariants.{Op, OpImm, Lui, Auipc, Fence}
unfoldable use Rattle.rv_word.specs.Spelling.{InRange}
use Rattle.rv_mem.specs.Bytes.{address_after}
use Rattle.rv_step.specs.Step.{register_op, result_of, word}
use Rattle.rv_step.specs.State.{Hart, with_pc, with_register as with_value}
use Rattle.rv_step.proofs.States.{result_fits, word_fits}
use Rattle.sfi_image.specs.Spelling.{Part}
use Rattle.sfi_translate.specs.Lines.{Line, Does}
use Rattle.sfi_translate.specs.Machine.{Before, ControlPoint, Going, Target, fixed, line_step, one_less}
use Rattle.x86_instr.specs.declared.operand.Register.{Register}
use Rattle.x86_instr.specs.declared.operand.Register.TheVariants.{Rax, Rcx}
use Rattle.x86_instr.specs.declared.instr.Instr.{Instr as Native}
use Rattle.x86_instr.specs.declared.instr.Instr.TheVariants.{MovImm}
use Rattle.x86_instr.specs.declared.operand.Operand.TheVariants.{Reg}
use Rattle.x86_instr.specs.declared.instr.Width.TheVariants.{Dword}
use Rattle.x86_instr.specs.Spelling.{number}
use Rattle.x86_step.specs.State.{Core, number_at, with_register}
use Rattle.x86_step.specs.Step.{value as operand_value}
unfoldable use Rattle.x86_step.specs.Step.{computes}
use Rattle.x86_step.specs.Running.{are_straight}
use Rattle.sfi_native.specs.declared.plan.Plan.{Plan}
use Rattle.sfi_native.specs.declared.layout.Layout.{Layout}
use Rattle.sfi_native.specs.Layout.{IsLayout, IsRelated, OthersStay, owing, value}
use Rattle.sfi_native.specs.Laws.{ComputingLinesRun, CountsBelow, line_most}
use Rattle.sfi_native.specs.Code.{are_exchanged, beside_code, combine, is_commutative, is_number, keeps_beside_zero, bring, computing_line, count, does_compute, ecx_code, fetch, imm_code, needs_ecx, number_code, op_code, op_imm_code, operand_of, place_beside, place_code, result_in, settle, store_eax, write}
use Rattle.sfi_native.specs.Registers.{assigned, is_fixed}
unfoldable use Rattle.sfi_native.specs.Code.{computation, compute, compute_imm}
use Rattle.sfi_native.proofs.Assigned.{free, holds_on, same_register, updated_same}
use Rattle.sfi_native.proofs.Computing.{computed, computed_imm, computed_there}
use Rattle.sfi_native.proofs.Kept.{Computed, KeptBut, Leaves, behind, but_register, but_same, kept_register, leaves_in_eax, leaves_join, others_join, others_kept, others_same, updated_other}
use Rattle.sfi_native.proofs.Counting.{counts, having}
use Rattle.sfi_native.proofs.Fixed.{fixed_at}
use Rattle.sfi_native.proofs.Runs.{Runs, runs_join, straight_runs}
use Rattle.sfi_native.proofs.Fetching.{brought, fetched, hart_written, moved, moved_stay, operand_is, related_kept, unwritten, wrote}
use Rattle.x86_step.proofs.Running.{in_more}
use Rattle.sfi_native.proofs.Lengths.{computing_few}

store_straight : (o : Option Register) (rd : ℕ) → are_straight (store_eax o rd ∷ []) ≡ true
store_straight None rd = refl
store_straight (Some q) rd = refl

pub write_straight : (plan : Plan) (rd : ℕ) → are_straight (write plan rd) ≡ true
write_straight plan rd = elim (cases_Bool (is_fixed plan.format rd)) [ inl e ↦ rw e refl | inr e ↦ rw e (store_straight (assigned plan rd) rd) ]

first_true : (a b : Bool) → a && b ≡ true → a ≡ true
first_true true b both = refl
first_true false b both = both

second_true : (a b : Bool) → a && b ≡ true → b ≡ true
second_true true b both = both
second_true false b both = absurd (false≢true both)

-- ==== What the instructions come to.

-- the instructions lead to a core that has the turn's state
pub record Comes (is : List Native) (p : Part) (l : Layout) (c : Core) (g : Going) : Type 0 where
  pub core : Core
  pub runs : Runs is c core
  pub related : IsRelated p l g core
  pub others : OthersStay p l c core

-- one behind another
pub comes_join : (p : Part) (l : Layout) (c : Core) (is js : List Native) (g k : Going) (one : Comes is p l c g) → Comes js p l one.core k → Comes (is ++ js) p l c k
comes_join p l c is js g k one two = record {
  core = two.core;
  runs = runs_join is js c one.core two.core one.runs two.runs;
  related = two.related;
  others = others_join p l c one.core two.core one.others two.others;
}

-- steps are counted
pub count_comes : (p : Part) (l : Layout) → IsLayout p l → (c : Core) (g : Going) (owed next left : ℕ) → g.left ≡ left + owed → left + next < 2 ^ 32 → owed < 2 ^ 31 → next < 2 ^ 31
    → IsRelated p l g c → Comes (count owed next) p l c (having (left + next) g)
count_comes p l layout c g owed next left has fits few few_next is =
    let it = counts p l layout g c is owed next left has fits few few_next in
    record { core = it.core; runs = straight_runs (count owed next) c it.core it.straight it.runs; related = it.related; others = it.stay }

pub then_count : (p : Part) (l : Layout) → IsLayout p l → (c : Core) (is : List Native) (g : Going) (owed next left : ℕ) → g.left ≡ left + owed → left + next < 2 ^ 32 → owed < 2 ^ 31 → next < 2 ^ 31
    → Comes is p l c g → Comes (is ++ count owed next) p l c (having (left + next) g)
then_count p l layout c is g owed next left has fits few few_next come =
    comes_join p l c is (count owed next) g (having (left + next) g) come (count_comes p l layout come.core g owed next left has fits few few_next come.related)

module _ (p : Part) (l : Layout) (layout : IsLayout p l) (g : Going) (c : Core) (is : IsRelated p l g c) (place : ControlPoint) (pc : ℕ) where
  -- the hart after a value goes to rd
  abbrev pub hart_with : ℕ → ℕ → Hart
  hart_with rd v = fixed p (with_value (with_pc (fixed p g.state.hart) pc) rd v)

  abbrev pub turn_with : ℕ → ℕ → ℕ → Going
  turn_with rd v left = record { place = place; state = record { hart = hart_with rd v; memory = g.state.memory }; left = left }

  -- a value that was computed goes to rd, and the step is counted
  pub finish : (front : List Native) (rd v : ℕ) → rd < 32 → v < 2 ^ 32 → Computed front c v → Comes (front ++ write l.plan rd) p l c (turn_with rd v g.left)
  finish front rd v small fits done =
      let kept = related_kept p l layout g c done.after is done.kept in
      let w = wrote p l layout g done.after kept place rd v (hart_with rd v) small fits (hart_written p g is.register_count pc rd v small) done.result in
      record { core = w.0; runs = runs_join front (write l.plan rd) c done.after w.0 done.runs (straight_runs (write l.plan rd) done.after w.0 (write_straight l.plan rd) w.1); related = w.2; others = others_join p l c done.after w.0 (others_kept p l c done.after done.kept) w.3 }

  -- a result that was computed where rd lies, or in eax, goes to rd
  pub settled : (front : List Native) (o : Option Register) (rd v : ℕ) → rd < 32 → v < 2 ^ 32 → ((q : Register) → o ≡ Some q → assigned l.plan rd ≡ Some q)
      → Leaves (number (result_in o)) front c v → Comes (front ++ settle l.plan o rd) p l c (turn_with rd v g.left)
  settled front None rd v small fits own done = finish front rd v small fits (leaves_in_eax front c v done)
  settled front (Some q) rd v small fits own done =
      let w = hart_written p g is.register_count pc rd v small in
      record {
        core = done.after;
        runs = runs_join front [] c done.after done.after done.runs (straight_runs [] done.after done.after refl refl);
        related = moved p l layout g c is place rd v (hart_with rd v) small fits w q (own q refl) done.after done.result done.kept;
        others = moved_stay p l layout g c is place rd v (hart_with rd v) small fits w q (own q refl) done.after done.result done.kept;
      }

  ecx_comes : (op : RegOp) (rd rs1 rs2 : ℕ) → needs_ecx op ≡ true → rd < 32 → rs1 < 32 → rs2 < 32
      → Comes (ecx_code l.plan op rd rs1 rs2) p l c (turn_with rd (result_of op (value p g rs1) (value p g rs2)) g.left)
  ecx_comes op rd rs1 rs2 needs fd f1 f2 =
      let a = value p g rs1 in
      let b = value p g rs2 in
      let c1 = with_register c 0 a in
      let c2 = with_register c1 1 b in
      let k1 = kept_register c 0 a (omega arith) in
      let does = compute op Rax (Reg Rcx) in
      let second = behind c1 c2 (fetch l.plan Rcx rs2) does (result_of op a b) (straight_runs (fetch l.plan Rcx rs2) c1 c2 refl (fetched p l layout g c1 Rcx rs2 f2 (related_kept p l layout g c c1 is k1))) (kept_register c1 1 b (omega arith))
      (computed op c2 needs (is.words rs1) (is.words rs2)) in
      let done = behind c c1 (fetch l.plan Rax rs1) (fetch l.plan Rcx rs2 ++ does) (result_of op a b) (straight_runs (fetch l.plan Rax rs1) c c1 refl (fetched p l layout g c Rax rs1 f1 is)) k1 second in
      finish (fetch l.plan Rax rs1 ++ (fetch l.plan Rcx rs2 ++ does)) rd (result_of op a b) fd (result_fits op a b (is.words rs1) (is.words rs2)) done

  -- ---- x0

  zero_is : (r : ℕ) → r == 0 ≡ true → value p g r ≡ 0
  zero_is r e = ap (value p g) (eqb-true r 0 e) ∙ fixed_at p g.state.hart 0 is.register_count

  keeps : (op : RegOp) (a : ℕ) → keeps_beside_zero op ≡ true → a < 2 ^ 32 → result_of op a 0 ≡ a
  keeps Add a may fits = omega (arith, fits)
  keeps Xor a may fits = xor_zero_r a
  keeps Or a may fits = or_zero_r a
  keeps op a may fits = absurd (false≢true may)

  combined : (d : Register) (k : Core) (rs2 : ℕ) → k.registers (number d) < 2 ^ 32
      → operand_value k Dword (operand_of (assigned l.plan rs2) rs2) ≡ Ok (value p g rs2) → (op : RegOp) → needs_ecx op ≡ false
      → Leaves (number d) (combine l.plan op d rs2) k (result_of op (k.registers (number d)) (value p g rs2))
  combined d k rs2 fits has op plain =
      let a = k.registers (number d) in
      let v = result_of op a (value p g rs2) in
      let src = operand_of (assigned l.plan rs2) rs2 in
      let none = keeps_beside_zero op && (rs2 == 0) in
      elim (cases_Bool none) [
        | inl e ↦ subst (λ t. Leaves (number d) (if t then [] else compute op d src) k v) (sym e) (record {
          after = k;
          runs = straight_runs [] k k refl refl;
          result = sym (ap (result_of op a) (zero_is rs2 (second_true (keeps_beside_zero op) (rs2 == 0) e)) ∙ keeps op a (first_true (keeps_beside_zero op) (rs2 == 0) e) fits);
          kept = but_same (number d) k;
        })
        | inr e ↦ subst (λ t. Leaves (number d) (if t then [] else compute op d src) k v) (sym e)
            (computed_there d src k (value p g rs2) fits (is.words rs2) has op plain)
      ]

  -- ---- an operation on rs2 where it lies, which isn't where the result is computed

  module _ (o : Option Register) (rd rs2 : ℕ) (f2 : rs2 < 32) (own : (q : Register) → o ≡ Some q → (assigned l.plan rd ≡ Some q) × (rd ≡ rs2 → ⊥)) where
    no_frame : (x : Option Register) → o ≡ x → 4 ≡ number (result_in x) → ⊥
    no_frame None e same = omega (arith, same)
    no_frame (Some q) e same = (free l.plan layout.plan_is_right rd q (own q e).0).no_frame (sym same)

    apart : (x : Option Register) → o ≡ x → (k : Register) → assigned l.plan rs2 ≡ Some k → number k ≡ number (result_in x) → ⊥
    apart None e k lies same = omega (arith, same, (free l.plan layout.plan_is_right rs2 k lies).above)
    apart (Some q) e k lies same = (own q e).1 (layout.plan_is_right.apart rd rs2 q (own q e).0 (lies ∙ ap Some (same_register k q same)))

    operand_stays : (d : Core) → KeptBut (number (result_in o)) c d → operand_value d Dword (operand_of (assigned l.plan rs2) rs2) ≡ Ok (value p g rs2)
    operand_stays d kept =
        let v = value p g rs2 in
        let holds = holds_on l c d rs2 v (assigned l.plan rs2) (λ e. ap (λ m. number_at m 4 (l.frame + 4 * rs2)) kept.memory)
        (λ k lies. kept.registers (number k) (free l.plan layout.plan_is_right rs2 k lies).above (apart o refl k lies)) (is.registers rs2 f2) in
        operand_is p l layout d rs2 v f2 (is.words rs2) (kept.registers 4 (omega arith) (no_frame o refl) ∙ is.frame) (assigned l.plan rs2) holds

    place_comes : (op : RegOp) (rs1 : ℕ) → needs_ecx op ≡ false → rd < 32 → rs1 < 32
        → Comes (place_code l.plan o op rd rs1 rs2) p l c (turn_with rd (result_of op (value p g rs1) (value p g rs2)) g.left)
    place_comes op rs1 plain fd f1 =
        let d = result_in o in
        let a = value p g rs1 in
        let b = value p g rs2 in
        let does = combine l.plan op d rs2 in
        let first = brought p l layout g c d rs1 f1 is in
        let fits = subst (λ x. x < 2 ^ 32) (sym first.result) (is.words rs1) in
        let next = subst (λ x. Leaves (number d) does first.after (result_of op x b)) first.result
        (combined d first.after rs2 fits (operand_stays first.after first.kept) op plain) in
        let both = leaves_join (number d) (bring l.plan d rs1) does c a (result_of op a b) first next in
        subst (λ is. Comes is p l c (turn_with rd (result_of op a b) g.left)) (append_assoc (bring l.plan d rs1) does (settle l.plan o rd))
        (settled (bring l.plan d rs1 ++ does) o rd (result_of op a b) fd (result_fits op a b (is.words rs1) (is.words rs2)) (λ q e. (own q e).0) both)

  -- nothing is written before rs2 is read where both are one
  beside_own : (rd rs2 : ℕ) (q : Register) → place_beside l.plan rd rs2 ≡ Some q → (assigned l.plan rd ≡ Some q) × (rd ≡ rs2 → ⊥)
  beside_own rd rs2 q lies = elim (cases_Bool (rd == rs2)) [
    | inl e ↦ let clash : None ≡ Some q = ap (λ t. if t then None else assigned l.plan rd) (sym e) ∙ lies in cc
    | inr e ↦ (
      ap (λ t. if t then None else assigned l.plan rd) (sym e) ∙ lies,
      λ same. false≢true (sym e ∙ eq-eqb rd rs2 same),
    )
  ]

  beside_comes : (op : RegOp) (rd rs1 rs2 : ℕ) → needs_ecx op ≡ false → rd < 32 → rs1 < 32 → rs2 < 32
      → Comes (beside_code l.plan op rd rs1 rs2) p l c (turn_with rd (result_of op (value p g rs1) (value p g rs2)) g.left)
  beside_comes op rd rs1 rs2 plain fd f1 f2 = place_comes (place_beside l.plan rd rs2) rd rs2 f2 (beside_own rd rs2) op rs1 plain fd f1

  commutes : (op : RegOp) (a b : ℕ) → is_commutative op ≡ true → result_of op a b ≡ result_of op b a
  commutes Add a b may = ap (λ x. x % 2 ^ 32) (add_comm a b)
  commutes Xor a b may = xor_comm a b
  commutes Or a b may = or_comm a b
  commutes And a b may = and_comm a b
  commutes Mul a b may = ap (λ x. x % 2 ^ 32) (mul_comm a b)
  commutes op a b may = absurd (false≢true may)

  exchanged_comes : (op : RegOp) (rd rs1 rs2 : ℕ) → needs_ecx op ≡ false → rd < 32 → rs1 < 32 → rs2 < 32 → (exchanged : Bool) → (exchanged ≡ true → is_commutative op ≡ true)
      → Comes (if exchanged then beside_code l.plan op rd rs2 rs1 else beside_code l.plan op rd rs1 rs2) p l c (turn_with rd (result_of op (value p g rs1) (value p g rs2)) g.left)
  exchanged_comes op rd rs1 rs2 plain fd f1 f2 true may =
      subst (λ v. Comes (beside_code l.plan op rd rs2 rs1) p l c (turn_with rd v g.left)) (commutes op (value p g rs2) (value p g rs1) (may refl)) (beside_comes op rd rs2 rs1 plain fd f2 f1)
  exchanged_comes op rd rs1 rs2 plain fd f1 f2 false may = beside_comes op rd rs1 rs2 plain fd f1 f2

  op_comes : (op : RegOp) (rd rs1 rs2 : ℕ) → rd < 32 → rs1 < 32 → rs2 < 32
      → Comes (op_code l.plan op rd rs1 rs2) p l c (turn_with rd (result_of op (value p g rs1) (value p g rs2)) g.left)
  op_comes op rd rs1 rs2 fd f1 f2 =
      let exchanged = are_exchanged op rd rs1 rs2 in
      let beside : List Native = if exchanged then beside_code l.plan op rd rs2 rs1 else beside_code l.plan op rd rs1 rs2 in
      let by : Bool → List Native = λ t. if t then ecx_code l.plan op rd rs1 rs2 else beside in
      elim (cases_Bool (needs_ecx op)) [
        | inl e ↦ subst (λ t. Comes (by t) p l c (turn_with rd (result_of op (value p g rs1) (value p g rs2)) g.left)) (sym e) (ecx_comes op rd rs1 rs2 e fd f1 f2)
        | inr e ↦ subst (λ t. Comes (by t) p l c (turn_with rd (result_of op (value p g rs1) (value p g rs2)) g.left)) (sym e)
            (exchanged_comes op rd rs1 rs2 e fd f1 f2 exchanged (first_true (is_commutative op) ((rd == rs2) || (rs1 == 0))))
      ]

  imm_comes : (op : ImmOp) (rd rs1 : ℕ) (imm : ℤ) → rd < 32 → rs1 < 32
      → Comes (imm_code l.plan op rd rs1 (word imm)) p l c (turn_with rd (result_of (register_op op) (value p g rs1) (word imm)) g.left)
  imm_comes op rd rs1 imm fd f1 =
      let o = assigned l.plan rd in
      let d = result_in o in
      let a = value p g rs1 in
      let n = word imm in
      let v = result_of (register_op op) a n in
      let first = brought p l layout g c d rs1 f1 is in
      let fits = subst (λ x. x < 2 ^ 32) (sym first.result) (is.words rs1) in
      let next = subst (λ x. Leaves (number d) (compute_imm op d n) first.after (result_of (register_op op) x n)) first.result (computed_imm d n first.after fits (word_fits imm) op) in
      let both = leaves_join (number d) (bring l.plan d rs1) (compute_imm op d n) c a v first next in
      subst (λ is. Comes is p l c (turn_with rd v g.left)) (append_assoc (bring l.plan d rs1) (compute_imm op d n) (settle l.plan o rd))
      (settled (bring l.plan d rs1 ++ compute_imm op d n) o rd v fd (result_fits (register_op op) a n (is.words rs1) (word_fits imm)) (λ q e. e) both)

  -- edx stays
  abbrev pub NumberComes : Option Register → ℕ → ℕ → Type 0
  NumberComes o rd v = (it : Comes (MovImm (result_in o) v ∷ settle l.plan o rd) p l c (turn_with rd v g.left)) × (it.core.registers 2 ≡ c.registers 2)

  number_by : (o : Option Register) (rd v : ℕ) → rd < 32 → v < 2 ^ 32 → assigned l.plan rd ≡ o → NumberComes o rd v
  unfolding computes
  number_by None rd v small fits own =
      let d = with_register c 0 v in
      let k = kept_register c 0 v (omega arith) in
      let w = wrote p l layout g d (related_kept p l layout g c d is k) place rd v (hart_with rd v) small fits (hart_written p g is.register_count pc rd v small) refl in (
        record {
          core = w.0;
          runs = runs_join (MovImm Rax v ∷ []) (write l.plan rd) c d w.0 (straight_runs (MovImm Rax v ∷ []) c d refl refl) (straight_runs (write l.plan rd) d w.0 (write_straight l.plan rd) w.1);
          related = w.2;
          others = others_join p l c d w.0 (others_kept p l c d k) w.3;
        },
        w.4 2 (omega arith),
      )
  number_by (Some q) rd v small fits own =
      let d = with_register c (number q) v in
      let w = hart_written p g is.register_count pc rd v small in
      let result = updated_same c.registers (number q) v in
      let k = but_register c (number q) v in (
        record {
          core = d;
          runs = straight_runs (MovImm q v ∷ []) c d refl refl;
          related = moved p l layout g c is place rd v (hart_with rd v) small fits w q own d result k;
          others = moved_stay p l layout g c is place rd v (hart_with rd v) small fits w q own d result k;
        },
        updated_other c.registers (number q) v 2 (λ e. omega (arith, e, (free l.plan layout.plan_is_right rd q own).above)),
      )

  pub number_written : (rd v : ℕ) → rd < 32 → v < 2 ^ 32 → NumberComes (assigned l.plan rd) rd v
  number_written rd v small fits = number_by (assigned l.plan rd) rd v small fits refl

  pub number_comes : (rd v : ℕ) → rd < 32 → v < 2 ^ 32 → Comes (number_code l.plan rd v) p l c (turn_with rd v g.left)
  number_comes rd v small fits = (number_written rd v small fits).0

  number_is : (op : ImmOp) (rs1 n : ℕ) → is_number op rs1 ≡ true → n < 2 ^ 32 → result_of (register_op op) (value p g rs1) n ≡ n
  number_is Addi rs1 n added fits = omega (arith, zero_is rs1 added, fits)
  number_is op rs1 n added fits = absurd (false≢true added)

  op_imm_comes : (op : ImmOp) (rd rs1 : ℕ) (imm : ℤ) → rd < 32 → rs1 < 32
      → Comes (op_imm_code l.plan op rd rs1 (word imm)) p l c (turn_with rd (result_of (register_op op) (value p g rs1) (word imm)) g.left)
  op_imm_comes op rd rs1 imm fd f1 =
      let n = word imm in
      let v = result_of (register_op op) (value p g rs1) n in
      let by : Bool → List Native = λ t. if t then number_code l.plan rd n else imm_code l.plan op rd rs1 n in
      elim (cases_Bool (is_number op rs1)) [
        | inl e ↦ subst (λ t. Comes (by t) p l c (turn_with rd v g.left)) (sym e)
            (subst (λ x. Comes (number_code l.plan rd n) p l c (turn_with rd x g.left)) (sym (number_is op rs1 n e (word_fits imm))) (number_comes rd n fd (word_fits imm)))
        | inr e ↦ subst (λ t. Comes (by t) p l c (turn_with rd v g.left)) (sym e) (imm_comes op rd rs1 imm fd f1)
      ]

  -- no register changes
  pub none_comes : IsRelated p l (turn_with 0 0 g.left) c
  none_comes = unwritten p l layout g c place 0 0 (hart_with 0 0) is (hart_written p g is.register_count pc 0 0 (omega arith)) refl

module _ (target : Target) (p : Part) (code rest : List Line) (at n owed next : ℕ) (l : Layout) (layout : IsLayout p l) (g : Going) (below : CountsBelow g owed next) (c : Core) (is : IsRelated p l (owing owed g) c) where
  -- the step that is done counts with those that are owed
  pub then_counted : (by : List Native) (k : Going) → k.left ≡ g.left + owed → Comes by p l c k → Comes (by ++ count (owed + 1) next) p l c (having (one_less g.left + next) k)
  then_counted by k same come =
      then_count p l layout c by k (owed + 1) next (one_less g.left) (omega (arith, same, below.some, below.left)) (omega (arith, below.left, below.some, below.few_behind)) (omega (arith, below.few)) (omega (arith, below.few_behind)) come

  computation_comes : (i : Instr) → does_compute i ≡ true → InRange i → Comes (computing_line l.plan at owed next i) p l c (owing next (line_step target p code (Does at n i ∷ rest) g))
  unfolding computation InRange
  computation_comes (Op op rd rs1 rs2) has range =
      then_counted (op_code l.plan op rd rs1 rs2) _ refl (op_comes p l layout (owing owed g) c is (Before rest) (address_after at n) op rd rs1 rs2 range.0 range.1 range.2)
  computation_comes (OpImm op rd rs1 imm) has range =
      then_counted (op_imm_code l.plan op rd rs1 (word imm)) _ refl (op_imm_comes p l layout (owing owed g) c is (Before rest) (address_after at n) op rd rs1 imm range.0 range.1)
  computation_comes (Lui rd imm) has range =
      let v = (imm * 4096) % 2 ^ 32 in
      then_counted (number_code l.plan rd v) _ refl (number_comes p l layout (owing owed g) c is (Before rest) (address_after at n) rd v range.0 (omega arith))
  computation_comes (Auipc rd imm) has range =
      let v = (at + imm * 4096) % 2 ^ 32 in
      then_counted (number_code l.plan rd v) _ refl (number_comes p l layout (owing owed g) c is (Before rest) (address_after at n) rd v range.0 (omega arith))
  computation_comes (Fence imm rd rs1) has range =
      then_counted [] _ refl (record { core = c; runs = straight_runs [] c c refl refl; related = none_comes p l layout (owing owed g) c is (Before rest) (address_after at n); others = others_same p l c })
  computation_comes i has range = absurd (false≢true has)

-- wherever its bytes stand
pub computing_lines_run : ComputingLinesRun
computing_lines_run target p code rest address size owed next i l t at g c has range below here =
    let line = computation_comes target p code rest address size owed next l here.layout g below c here.related i has range in
    record {
      after = line.core;
      reached = in_more t _ line_most _ _ (computing_few l.plan address owed next i) (line.runs t at here.text_is_fixed here.text_is_low here.stands);
      related = line.related;
      others = line.others;
    }
