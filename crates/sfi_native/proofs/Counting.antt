-- The steps left, and those that are owed.
use Rattle.std.proofs.Common.{◌≡◌, ℕ, ◌+◌, ◌-◌, ◌%◌, ◌^◌, ◌<◌, ◌==◌, true, List, [], ◌∷◌, if◌then◌else◌, refl, sym, subst, ◌∙◌, arith, inl, inr}
use Rattle.std.specs.Prelude.{Ok}
use Rattle.std.proofs.lemmas.Bool.{cases_Bool, eqb-true}
use Rattle.sfi_image.specs.Spelling.{Part}
use Rattle.sfi_translate.specs.Machine.{ControlPoint, Going}
use Rattle.x86_instr.specs.declared.operand.Register.TheVariants.{R14}
use Rattle.x86_instr.specs.declared.operand.Operand.TheVariants.{Reg}
use Rattle.x86_instr.specs.declared.instr.AluOp.TheVariants as alu
use Rattle.x86_instr.specs.declared.instr.Instr.{Instr as Native}
use Rattle.x86_instr.specs.declared.instr.Instr.TheVariants.{AluImm}
use Rattle.x86_instr.specs.Spelling.{number}
use Rattle.x86_instr.specs.declared.instr.Width.TheVariants.{Dword}
use Rattle.x86_step.specs.declared.machine.Flags.{Flags}
use Rattle.x86_step.specs.State.{Core, with_flags, with_register}
use Rattle.x86_step.specs.Step.{difference, low}
unfoldable use Rattle.x86_step.specs.Step.{computes}
use Rattle.x86_step.specs.Running.{are_straight, exec}
use Rattle.sfi_native.specs.declared.layout.Layout.{Layout}
use Rattle.sfi_native.specs.Layout.{IsLayout, IsRelated, OthersStay, value}
use Rattle.sfi_native.specs.Registers.{assigned}
use Rattle.sfi_native.specs.Code.{count}
use Rattle.sfi_native.proofs.Assigned.{free, holds_on}
use Rattle.sfi_native.proofs.Kept.{others_same, updated_other}

-- the turn with so many steps left
abbrev pub having : ℕ → Going → Going
having n g = record { place = g.place; state = g.state; left = n }

abbrev pub counted_core : Core → ℕ → Flags → Core
counted_core c n f = with_flags (with_register c 14 n) f

-- neither the place nor how the steps left are said matters
pub related_as : (p : Part) (l : Layout) (g : Going) (c : Core) (place : ControlPoint) (n : ℕ) → IsRelated p l g c → n ≡ g.left
    → IsRelated p l (record { place = place; state = g.state; left = n }) c
related_as p l g c place n is same = record {
  register_count = is.register_count;
  words = is.words;
  registers = is.registers;
  frame = is.frame;
  frame_is_written = is.frame_is_written;
  few = omega (arith, same, is.few);
  left = omega (arith, same, is.left);
  bytes = is.bytes;
  bytes_are_written = is.bytes_are_written;
  origin_is = is.origin_is;
}

module _ (p : Part) (l : Layout) (layout : IsLayout p l) (g : Going) (c : Core) (is : IsRelated p l g c) where
  -- r14 gets a number
  module _ (n m : ℕ) (f : Flags) (same : m ≡ n) (fits : n < 2 ^ 32) where
    pub counted_related : IsRelated p l (having n g) (counted_core c m f)
    counted_related = record {
      register_count = is.register_count;
      words = is.words;
      registers = λ r small. holds_on l c (counted_core c m f) r (value p g r) (assigned l.plan r) (λ e. refl)
          (λ q own. updated_other c.registers 14 m (number q) (λ e. omega (arith, e, (free l.plan layout.plan_is_right r q own).below))) (is.registers r small);
      frame = updated_other c.registers 14 m 4 (λ e. omega (arith, e)) ∙ is.frame;
      frame_is_written = is.frame_is_written;
      few = fits;
      left = same;
      bytes = is.bytes;
      bytes_are_written = is.bytes_are_written;
      origin_is = updated_other c.registers 14 m 15 (λ e. omega (arith, e)) ∙ is.origin_is;
    }

    pub counted_stay : OthersStay p l c (counted_core c m f)
    counted_stay = record { others = λ k more other apart. updated_other c.registers 14 m k other; elsewhere = λ a by_frame by_data. refl; writable = refl }

  module _ (owed next left : ℕ) (has : g.left ≡ left + owed) (fits : left + next < 2 ^ 32) (few : owed < 2 ^ 31) (few_next : next < 2 ^ 31) where
    less_is : low Dword (low Dword (c.registers 14) + (2 ^ 32 - (owed + (2 ^ 32 - next)) % 2 ^ 32)) ≡ left + next
    less_is = omega (arith, is.left, is.few, has, fits, few, few_next)

    -- registers but r14 stay
    pub record Counts (by : List Native) : Type 0 where
      pub core : Core
      pub straight : are_straight by ≡ true
      pub runs : exec by c ≡ Ok core
      pub related : IsRelated p l (having (left + next) g) core
      pub others : (k : ℕ) → (k ≡ 14 → ⊥) → core.registers k ≡ c.registers k
      pub memory : core.memory ≡ c.memory
      pub stay : OthersStay p l c core

    abbrev subtract : List Native
    subtract = AluImm alu.Sub Dword (Reg R14) ((owed + (2 ^ 32 - next)) % 2 ^ 32) ∷ []

    pub counts : Counts (count owed next)
    unfolding computes
    counts =
        let r = difference Dword (low Dword (c.registers 14)) ((owed + (2 ^ 32 - next)) % 2 ^ 32) in
        elim (cases_Bool (owed == next)) [
          | inl e ↦ subst (λ t. Counts (if t then [] else subtract)) (sym e) (record {
            core = c;
            straight = refl;
            runs = refl;
            related = related_as p l g c g.place (left + next) is (omega (arith, has, eqb-true owed next e));
            others = λ k other. refl;
            memory = refl;
            stay = others_same p l c;
          })
          | inr e ↦ subst (λ t. Counts (if t then [] else subtract)) (sym e) (record {
            core = counted_core c r.result r.flags;
            straight = refl;
            runs = refl;
            related = counted_related (left + next) r.result r.flags less_is fits;
            others = λ k other. updated_other c.registers 14 r.result k other;
            memory = refl;
            stay = counted_stay (left + next) r.result r.flags less_is fits;
          })
        ]
