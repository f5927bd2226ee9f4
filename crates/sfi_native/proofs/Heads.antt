-- The code of lines that lead to a slow step.
use Rattle.std.proofs.Common.{◌≡◌, ℕ, ◌+◌, ◌^◌, ◌<◌, true, List, [], ◌∷◌, refl, ap, subst, ◌∙◌, arith}
use Rattle.sfi_image.specs.Spelling.{Part}
use Rattle.sfi_translate.specs.Machine.{Going}
use Rattle.x86_instr.specs.declared.operand.Register.TheVariants.{Rdx, R14}
use Rattle.x86_instr.specs.declared.operand.Operand.TheVariants.{Reg}
use Rattle.x86_instr.specs.declared.instr.AluOp.TheVariants as alu
use Rattle.x86_instr.specs.declared.instr.Width.TheVariants.{Dword}
use Rattle.x86_instr.specs.declared.instr.Instr.{Instr as Native}
use Rattle.x86_instr.specs.declared.instr.Instr.TheVariants.{AluImm, Jmp, MovImm}
use Rattle.x86_step.specs.State.{Core, Text, with_register}
use Rattle.x86_step.specs.Step.{Reaches, difference, is_canonical, jumped, low}
unfoldable use Rattle.x86_step.specs.Step.{computes}
use Rattle.sfi_native.specs.declared.layout.Layout.{Layout}
use Rattle.sfi_native.specs.Layout.{IsRelated, OthersStay, owing}
use Rattle.sfi_native.specs.Laws.{IsBefore, end_of}
use Rattle.sfi_native.specs.Code.{count, leave_code, leave_line}
use Rattle.sfi_native.proofs.Fetching.{related_kept}
use Rattle.sfi_native.proofs.Counted.{before, behind as reaches_behind, ends, it, none_few}
use Rattle.sfi_native.proofs.Counting.{counted_core, counted_related, counted_stay}
use Rattle.sfi_native.proofs.Kept.{closed_kept, kept_register, others_join, others_kept}
use Rattle.sfi_native.proofs.Runs.{back_fixed, back_stands, end_append, jal_effect, jumps_to, straight_runs, then_reaches}

-- A line that goes out always.
pub record Leaves (p : Part) (l : Layout) (t : Text) (from at out : ℕ) (g : Going) (c : Core) : Type 0 where
  pub after : Core
  pub reached : Reaches t 2 (record { rip = from; core = c }) (record { rip = jumped (end_of from (leave_code at out)) out; core = after })
  pub related : IsRelated p l g after
  pub others : OthersStay p l c after
  pub edx : after.registers 2 ≡ at

pub leaves : (p : Part) (l : Layout) (t : Text) (from at out : ℕ) (g : Going) (c : Core) → IsBefore (leave_code at out) t from p l g c
    → is_canonical (jumped (end_of from (leave_code at out)) out) ≡ true → Leaves p l t from at out g c
unfolding computes
leaves p l t from at out g c here canonical =
    let front = MovImm Rdx at ∷ [] in
    let d = with_register c 2 at in
    let end = end_of from (leave_code at out) in
    record {
      after = d;
      reached = jumps_to t from front (Jmp out) c d here.text_is_fixed here.text_is_low here.stands (straight_runs front c d refl refl)
          (jumped end out) (λ after e. jal_effect out after end d e canonical);
      related = related_kept p l here.layout g c d here.related (kept_register c 2 at (omega arith));
      others = others_kept p l c d (kept_register c 2 at (omega arith));
      edx = refl;
    }

-- ==== With what is owed.

-- from there it goes out, and nothing is owed
pub record GoesOut (p : Part) (l : Layout) (t : Text) (most from to at : ℕ) (g : Going) (c : Core) : Type 0 where
  pub after : Core
  pub reached : Reaches t most (record { rip = from; core = c }) (record { rip = to; core = after })
  pub related : IsRelated p l (owing 0 g) after
  pub others : OthersStay p l c after
  pub edx : after.registers 2 ≡ at

module _ (p : Part) (l : Layout) (t : Text) (from at owed out : ℕ) (few : owed < 63) (g : Going) (below : g.left < 2 ^ 31) (c : Core) where
  fits : g.left + 0 < 2 ^ 32
  fits = omega (arith, below)

  few_owed : owed < 2 ^ 31
  few_owed = omega (arith, few)

  -- an ecall or an ebreak
  pub leave_line_runs : IsBefore (leave_line at owed out) t from p l (owing owed g) c → is_canonical (jumped (end_of from (leave_line at owed out)) out) ≡ true
      → GoesOut p l t 3 from (jumped (end_of from (leave_line at owed out)) out) at g c
  leave_line_runs here canonical =
      let js = leave_code at out in
      let counted = it t from p l (owing owed g) c owed 0 g.left refl fits few_owed none_few js here in
      let own = before t from p l (owing owed g) c owed 0 g.left refl fits few_owed none_few js here in
      let end = ends t from p l (owing owed g) c owed 0 g.left refl fits few_owed none_few js here in
      let place = end_of from (count owed 0) in
      let last = leaves p l t place at out (owing 0 g) counted.core own (ap (λ a. is_canonical (jumped a out)) end ∙ canonical) in
      let to = jumped (end_of from (leave_line at owed out)) out in
      record {
        after = last.after;
        reached = reaches_behind t from p l (owing owed g) c owed 0 g.left refl fits few_owed none_few js here 2 (record { rip = to; core = last.after })
            (subst (λ a. Reaches t 2 (record { rip = place; core = counted.core }) (record { rip = jumped a out; core = last.after })) end last.reached);
        related = last.related;
        others = others_join p l c counted.core last.after counted.stay last.others;
        edx = last.edx;
      }

  -- behind the last line
  abbrev subtract : Native
  subtract = AluImm alu.Sub Dword (Reg R14) owed

  abbrev end_line : List Native
  end_line = subtract ∷ leave_code at out

  pub end_line_runs : IsBefore end_line t from p l (owing owed g) c → is_canonical (jumped (end_of from end_line) out) ≡ true → GoesOut p l t 3 from (jumped (end_of from end_line) out) at g c
  unfolding computes
  end_line_runs here canonical =
      let r = difference Dword (low Dword (c.registers 14)) owed in
      let less : r.result ≡ g.left + 0 = omega (arith, here.related.left, below, few) in
      let d = counted_core c r.result r.flags in
      let stay = counted_stay p l here.layout (owing owed g) c here.related (g.left + 0) r.result r.flags less fits in
      let front = subtract ∷ [] in
      let runs = straight_runs front c d refl refl in
      let place = end_of from front in
      let own : IsBefore (leave_code at out) t place p l (owing 0 g) d = record {
        layout = here.layout;
        text_is_fixed = back_fixed t from front (leave_code at out) c d here.text_is_fixed here.text_is_low here.stands runs;
        text_is_low = here.text_is_low;
        faults_are_handled = here.faults_are_handled;
        stands = back_stands t from front (leave_code at out) c d here.text_is_fixed here.text_is_low here.stands runs;
        related = counted_related p l here.layout (owing owed g) c here.related (g.left + 0) r.result r.flags less fits;
        closed = closed_kept p l here.layout c d stay here.closed;
      } in
      let end : end_of place (leave_code at out) ≡ end_of from end_line = end_append from front (leave_code at out) in
      let last = leaves p l t place at out (owing 0 g) d own (ap (λ a. is_canonical (jumped a out)) end ∙ canonical) in
      let to = jumped (end_of from end_line) out in
      record {
        after = last.after;
        reached = then_reaches t from front (leave_code at out) c d here.text_is_fixed here.text_is_low here.stands runs 2 (record { rip = to; core = last.after })
            (subst (λ a. Reaches t 2 (record { rip = place; core = d }) (record { rip = jumped a out; core = last.after })) end last.reached);
        related = last.related;
        others = others_join p l c d last.after stay last.others;
        edx = last.edx;
      }
