-- That the premises of transparency can be met: an expansion stands in some state, and all that is
-- asked of its regions and that state holds at once.
use Rattle.std.specs.Prelude.{◌≡◌, ◌≢◌, ℕ, List, pos, true, false}
use Rattle.rv_word.specs.declared.instr.ImmOp.TheVariants.{Addi}
use Rattle.rv_word.specs.declared.instr.LoadKind.TheVariants.{Lw}
use Rattle.rv_word.specs.declared.instr.Instr.{Instr}
use Rattle.rv_word.specs.declared.instr.Instr.TheVariants.{Load, Jalr, OpImm, Lui}
use Rattle.rv_word.specs.Spelling.{minus}
use Rattle.sfi_formats.specs.declared.format.Format.{Format}
use Rattle.sfi_formats.specs.declared.format.Format.TheVariants.{Sfi1}
use Rattle.rv_step.specs.declared.outcome.Outcome.TheVariants.{Next}
use Rattle.rv_step.specs.State.{State, register}
use Rattle.rv_step.specs.Step.{Stepped}
use Rattle.sfi_formats.specs.Formats.{stack_pointer}
use Rattle.sfi_image.specs.declared.span.Span.{Span}
use Rattle.sfi_image.specs.Spelling.{Holds}
use Rattle.sfi_rewrite.specs.declared.slot.BundleSlot.{BundleSlot}
use Rattle.sfi_rewrite.specs.Expansion.{writes_stack, IsPlainExpansion}
use Rattle.sfi_rewrite.specs.Transparency.{KeepsTo, IsAskedOf, effect_in}

-- an expansion, and regions and a state for which all holds that is asked where its slots stand for i,
-- in code of this format
pub record Meets (f : Format) (i : Instr) (IsExpanded : List BundleSlot → Type 0) : Type 0 where
  pub slots : List BundleSlot
  pub expansion : IsExpanded slots
  pub code_at : Span
  pub data_at : Span
  pub state : State
  pub asked : IsAskedOf f i slots code_at data_at state

-- the step is done, and leaves the register in the data region
abbrev pub LeavesInside : Span → ℕ → Stepped → Type 0
LeavesInside data_at d r = (r.outcome ≡ Next) × Holds data_at (register r.state.hart d)

-- the step is done, and leaves the register outside of the data region
abbrev pub LeavesOutside : Span → ℕ → Stepped → Type 0
LeavesOutside data_at d r = (r.outcome ≡ Next) × (Holds data_at (register r.state.hart d) → ⊥)

-- `Meets` for the expansion of i in 32-bit slots
abbrev pub MeetsExpansion : Format → Instr → Type 0
MeetsExpansion f i = Meets Sfi1 i (IsPlainExpansion f false i)

-- all that IsTransparent asks holds in some state, and there i is done
abbrev pub MeetsTransparent : Format → Instr → Type 0
MeetsTransparent f i = (m : MeetsExpansion f i) × (writes_stack f i ≡ false)
    × KeepsTo m.code_at m.data_at m.state.hart i × ((effect_in m.state i).outcome ≡ Next)

-- all that KeepsStack asks of an instruction that writes the stack pointer holds in some state;
-- there i is done, and leaves the stack pointer in the data region
abbrev pub MeetsInside : Format → Instr → Type 0
MeetsInside f i = (m : MeetsExpansion f i) × (writes_stack f i ≡ true)
    × LeavesInside m.data_at stack_pointer (effect_in m.state i)

-- all that KeepsStack asks holds in some state; there i is done, and leaves the stack pointer
-- outside of the data region
abbrev pub MeetsOutside : Format → Instr → Type 0
MeetsOutside f i = (m : MeetsExpansion f i) × (writes_stack f i ≡ true)
    × LeavesOutside m.data_at stack_pointer (effect_in m.state i)

-- all that KeepsStack asks holds in some state, and there i isn't done
abbrev pub MeetsStop : Format → Instr → Type 0
MeetsStop f i = (m : MeetsExpansion f i) × (writes_stack f i ≡ true)
    × ((effect_in m.state i).outcome ≢ Next)

-- ---- the samples

-- `lw x10, 0(x11)`
abbrev pub sample_load : Instr
sample_load = Load Lw 10 11 (pos 0)

-- `jalr x1, 0(x12)`
abbrev pub sample_jump : Instr
sample_jump = Jalr 1 12 (pos 0)

-- `addi x2, x2, -16`
abbrev pub sample_push : Instr
sample_push = OpImm Addi stack_pointer stack_pointer (minus 16)

-- `lui x2, 0x1801`
abbrev pub sample_upper : Instr
sample_upper = Lui stack_pointer 0x1801

-- `lw x2, 1000(x2)`
abbrev pub sample_pop : Instr
sample_pop = Load Lw stack_pointer stack_pointer (pos 1000)
