-- That the premises of transparency in words can be met: an expansion stands in some state, and all
-- that is asked of its regions and that state holds at once.
use Rattle.std.specs.Prelude.{◌≡◌, ◌≢◌, ℕ, List, [], pos, true, false, Some}
use Rattle.rv_word.specs.declared.instr.ImmOp.TheVariants.{Addi}
use Rattle.rv_word.specs.declared.instr.LoadKind.TheVariants.{Lw}
use Rattle.rv_word.specs.declared.instr.StoreWidth.TheVariants.{Sw}
use Rattle.rv_word.specs.declared.instr.Instr.{Instr}
use Rattle.rv_word.specs.declared.instr.Instr.TheVariants.{OpImm, Load, Store}
use Rattle.rv_word.specs.Outlines.{destination}
use Rattle.rv_step.specs.declared.outcome.Outcome.TheVariants.{Next}
use Rattle.sfi_source.specs.declared.item.Body.TheVariants.{Plain}
use Rattle.sfi_source.specs.declared.item.Item.{Item}
use Rattle.sfi_formats.specs.Formats.{is_data_register, stack_pointer}
use Rattle.sfi_formats.specs.declared.format.Format.{Format}
use Rattle.sfi_rewrite.specs.Samples.{Meets, LeavesInside, LeavesOutside, sample_push}
use Rattle.sfi_rewrite.specs.words.Expansion.{mask_after, is_step_before_use, IsPlainExpansion, IsExpansion}
use Rattle.sfi_rewrite.specs.words.Transparency.{KeepsTo, effect_in}

-- the expansion of i, which is no step, in 32-bit slots of code of this format
abbrev pub MeetsExpansion : Format → Instr → Type 0
MeetsExpansion f i = Meets f i (IsPlainExpansion f false false i)

-- all that IsTransparent asks where i writes no data register, and i is done
abbrev pub MeetsTransparent : Format → Instr → Type 0
MeetsTransparent f i = (m : MeetsExpansion f i) × (mask_after f (destination i) ≡ [])
    × KeepsTo m.code_at m.data_at m.state.hart i × ((effect_in f m.state i).outcome ≡ Next)

-- all that IsTransparent asks of the instruction of an item that is a step, which the first item of
-- `later` uses, holds in some state
abbrev pub MeetsStep : Format → Item → List Item → Instr → Type 0
MeetsStep f x later i = (m : Meets f i (IsExpansion f x later)) × (x.body ≡ Plain i)
    × (is_step_before_use x later ≡ true) × KeepsTo m.code_at m.data_at m.state.hart i
    × ((effect_in f m.state i).outcome ≡ Next)

-- i writes the data register, and keeps to its sandbox
abbrev pub WritesData : (f : Format) (d : ℕ) (i : Instr) → MeetsExpansion f i → Type 0
WritesData f d i m = (destination i ≡ Some d) × (is_data_register d ≡ true)
    × KeepsTo m.code_at m.data_at m.state.hart i

-- all that KeepsData asks of an instruction that writes data register d holds in some state; there
-- i is done, and leaves d in the data region
abbrev pub MeetsInside : Format → ℕ → Instr → Type 0
MeetsInside f d i = (m : MeetsExpansion f i) × WritesData f d i m
    × LeavesInside m.data_at d (effect_in f m.state i)

-- all that KeepsData asks holds in some state; there i is done, and leaves d outside of the data
-- region
abbrev pub MeetsOutside : Format → ℕ → Instr → Type 0
MeetsOutside f d i = (m : MeetsExpansion f i) × WritesData f d i m
    × LeavesOutside m.data_at d (effect_in f m.state i)

-- all that KeepsData asks holds in some state, and there i isn't done
abbrev pub MeetsStop : Format → ℕ → Instr → Type 0
MeetsStop f d i = (m : MeetsExpansion f i) × WritesData f d i m × ((effect_in f m.state i).outcome ≢ Next)

-- ---- the samples

-- `lw x10, 16(x0)`
abbrev pub sample_low : Instr
sample_low = Load Lw 10 0 (pos 16)

-- `addi x2, x11, 0`
abbrev pub sample_move : Instr
sample_move = OpImm Addi stack_pointer 11 (pos 0)

-- `addi x2, x2, -16`, and `sw x1, 12(x2)` to stand after it
abbrev pub sample_step : Item
sample_step = record { line = 1; labelled = false; rvc = false; body = Plain sample_push }

abbrev pub sample_use : Item
sample_use = record {
  line = 2;
  labelled = false;
  rvc = false;
  body = Plain (Store Sw stack_pointer 1 (pos 12));
}
