-- Many steps of lines, one after another.
use Rattle.std.proofs.Common.{◌≡◌, ℕ, zero, suc, ◌^◌, ◌<◌, Bool, true, false, List, [], ◌∷◌, refl, sym, subst, arith, if◌then◌else◌, ◌+◌, ◌*◌}
use Rattle.rv_step.specs.State.{with_pc}
use Rattle.sfi_image.specs.Spelling.{Part}
use Rattle.sfi_translate.specs.Lines.{Line, Head, Does}
use Rattle.sfi_translate.specs.Machine.{Assembly, Before, ControlPoint, Going, IsTranslatedStepAt, Lost, Loop, Slow, Stopped, fixed, is_done, is_short, line_step}
use Rattle.x86_step.specs.State.{Machine, Text}
use Rattle.x86_step.proofs.Facts.{fixed_stays, steps_join}
use Rattle.sfi_native.specs.declared.layout.Layout.{Layout}
use Rattle.sfi_native.specs.Laws.{ArePlacedSteps, Follows, IsBefore, IsCovered, IsReadyAt, PlacedStepsRun, placed_most}
use Rattle.sfi_native.specs.Faults.{HasFixups}
use Rattle.sfi_native.specs.Table.{HasTable, LieInCode}
use Rattle.sfi_native.specs.Places.{IsAt, end_address, exit_of, whole_code, with_owed}
use Rattle.sfi_native.proofs.Kept.{closed_kept, others_join, others_same}
use Rattle.sfi_native.proofs.Placed.{placed_lines_run}
use Rattle.sfi_native.proofs.Table.{table_stays}
use Rattle.x86_step.proofs.Running.{in_more, stays}

-- ==== The steps left.

left_if : (t : Bool) (a b : Going) → a.left < 2 ^ 31 → b.left < 2 ^ 31 → (if t then a else b).left < 2 ^ 31
left_if true a b fa fb = fa
left_if false a b fa fb = fb

left_below : (p : Part) (code rest : List Line) (g : Going) (line : Line) → 0 < g.left → g.left < 2 ^ 31 → (line_step Assembly p code (line ∷ rest) g).left < 2 ^ 31
left_below p code rest g (Does at n i) some below = left_if (is_done p i (with_pc (fixed p g.state.hart) at)) _ _ (omega (arith, some, below)) below
left_below p code rest g (Head at) some below = left_if (is_short Assembly g.left) _ _ below below
left_below p code rest g line some below = below

-- ==== Steps.

module _ (p : Part) (code : List Line) (l : Layout) (t : Text) (base : ℕ) (few : exit_of l.plan code < 2 ^ 31) (fixups : HasFixups l.plan t base code) (lie : LieInCode p code) where
  abbrev pub Stands : Going → Machine → Type 0
  Stands g m = IsBefore (whole_code l.plan (end_address p) code) t base p l (with_owed l.plan p g) m.core

  pub one : (g k : Going) (m : Machine) → Stands g m → HasTable p l base code m.core → IsAt l.plan base code g m → g.left < 2 ^ 31 → (place : ControlPoint) → g.place ≡ place
      → IsTranslatedStepAt place Assembly p code g k → IsReadyAt p g place → IsCovered k.place → Follows t placed_most p l base code m k × (k.left < 2 ^ 31)
  one g k m here has at below (Before (line ∷ rest)) place step ready covered =
      let some : 0 < g.left = omega (arith, step.0, below) in
      let next = line_step Assembly p code (line ∷ rest) g in
      let follows = placed_lines_run p code (line ∷ rest) l t base g m here few fixups lie has place at some below ready (subst (λ x. IsCovered x.place) step.1 covered) in
      (subst (λ x. Follows t placed_most p l base code m x) (sym step.1) follows, subst (λ x. x.left < 2 ^ 31) (sym step.1) (left_below p code rest g line some below))
  one g k m here has at below (Before []) place step ready covered =
      let some : 0 < g.left = omega (arith, step.0, below) in
      let follows = placed_lines_run p code [] l t base g m here few fixups lie has place at some below ready (subst (λ x. IsCovered x.place) step.1 covered) in
      (subst (λ x. Follows t placed_most p l base code m x) (sym step.1) follows, subst (λ x. x.left < 2 ^ 31) (sym step.1) below)
  one g k m here has at below Slow place step ready covered = absurd ready
  one g k m here has at below Loop place step ready covered = absurd ready
  one g k m here has at below (Stopped o) place step ready covered = absurd ready
  one g k m here has at below Lost place step ready covered = absurd ready

  pub stands_on : (g k : Going) (m : Machine) → Stands g m → (f : Follows t placed_most p l base code m k) → Stands k f.after
  stands_on g k m here f = record {
    layout = here.layout;
    text_is_fixed = fixed_stays t placed_most m f.after f.reached;
    text_is_low = here.text_is_low;
    faults_are_handled = here.faults_are_handled;
    stands = here.stands;
    related = f.alike.related;
    closed = closed_kept p l here.layout m.core f.after.core f.others here.closed;
  }

  many : (n : ℕ) (g k : Going) (m : Machine) → Stands g m → HasTable p l base code m.core → IsAt l.plan base code g m → g.left < 2 ^ 31 → ArePlacedSteps p code n g k → Follows t (placed_most * n) p l base code m k
  many zero g k m here has at below same = subst (λ x. Follows t (placed_most * zero) p l base code m x) (sym same) (record {
    after = m;
    reached = stays t m here.text_is_fixed;
    alike = record { related = here.related; is_at = at };
    others = others_same p l m.core;
  })
  many (suc n) g k m here has at below (between, step, ready, covered, more) =
      let first = one g between m here has at below g.place refl step ready covered in
      let f = first.0 in
      let rest = many n between k f.after (stands_on g between m here f) (table_stays p l here.layout base code m.core f.after.core f.others has) f.alike.is_at first.1 more in
      record {
        after = rest.after;
        reached = in_more t (placed_most + placed_most * n) (placed_most * suc n) m rest.after (omega arith) (steps_join t placed_most (placed_most * n) m f.after rest.after f.reached rest.reached);
        alike = rest.alike;
        others = others_join p l m.core f.after.core rest.after.core f.others rest.others;
      }

pub placed_steps_run : PlacedStepsRun
placed_steps_run n p code l t base g k m here few fixups lie has at below steps = many p code l t base few fixups lie n g k m here has at below steps
