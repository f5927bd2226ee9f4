-- What code keeps that computes a value.
use Rattle.std.proofs.Common.{◌≡◌, ℕ, ◌+◌, ◌<◌, ◌≤◌, List, ◌++◌, refl, ap, ◌∙◌, arith, inl, inr}
use Rattle.std.proofs.lemmas.Bool.{ne_eqb}
use Rattle.sfi_image.specs.Spelling.{Part}
use Rattle.x86_instr.specs.declared.instr.Instr.{Instr as Native}
use Rattle.x86_step.specs.declared.machine.Flags.{Flags}
use Rattle.x86_step.specs.State.{Core, IsIn, updated, with_flags, with_register}
use Rattle.sfi_native.specs.declared.layout.Layout.{Layout}
use Rattle.sfi_native.specs.Layout.{IsClosed, IsLayout, IsOutside, OthersStay, frame_size, slots_size, window}
use Rattle.sfi_native.proofs.Runs.{Runs, runs_join}

-- eax, ecx, edx and the flags may differ
pub record Kept (c d : Core) : Type 0 where
  pub registers : (k : ℕ) → 2 < k → d.registers k ≡ c.registers k
  pub memory : d.memory ≡ c.memory
  pub writable : d.writable ≡ c.writable

-- what is no part of the frame is none of its registers
pub outside_slots : (a frame : ℕ) → IsOutside a frame frame_size → IsOutside a frame slots_size
outside_slots a frame (inl below) = inl below
outside_slots a frame (inr above) = inr (omega (arith, above))

module _ (p : Part) (l : Layout) where
  pub others_kept : (c d : Core) → Kept c d → OthersStay p l c d
  others_kept c d k = record { others = λ r more not_left apart. k.registers r more; elsewhere = λ a by_frame by_data. ap (λ m. m a) k.memory; writable = k.writable }

  pub others_join : (c d e : Core) → OthersStay p l c d → OthersStay p l d e → OthersStay p l c e
  others_join c d e a b = record {
    others = λ k more not_left apart. b.others k more not_left apart ∙ a.others k more not_left apart;
    elsewhere = λ at by_frame by_data. b.elsewhere at by_frame by_data ∙ a.elsewhere at by_frame by_data;
    writable = b.writable ∙ a.writable;
  }

  pub others_same : (c : Core) → OthersStay p l c c
  others_same c = record { others = λ k more not_left apart. refl; elsewhere = λ a by_frame by_data. refl; writable = refl }

  pub beside_frame : IsLayout p l → (a : ℕ) → IsIn (window p l) a → IsOutside a l.frame frame_size
  beside_frame layout a is = elim layout.apart [
    | inl above ↦ let low = is.0 in inr (omega (arith, above, low))
    | inr under ↦ let high = is.1 in inl (omega (arith, under, high))
  ]

  pub closed_kept : IsLayout p l → (c d : Core) → OthersStay p l c d → IsClosed p l c → IsClosed p l d
  closed_kept layout c d stay closed a is outside = stay.elsewhere a (outside_slots a l.frame (beside_frame layout a is)) outside ∙ closed a is outside

  -- what lies behind the frame's registers is no data, and stays
  pub behind_slots : IsLayout p l → (k : ℕ) → k < frame_size → IsOutside (l.frame + k) l.data_start p.data_size
  behind_slots layout k small = elim layout.apart [
    | inl above ↦ inl (omega (arith, above, small, layout.window_begins))
    | inr under ↦ inr (omega (arith, under, layout.window_begins))
  ]

  pub pointers_stay : IsLayout p l → (c d : Core) → OthersStay p l c d → (k : ℕ) → slots_size ≤ k → k < frame_size → d.memory (l.frame + k) ≡ c.memory (l.frame + k)
  pointers_stay layout c d stay k behind small = stay.elsewhere (l.frame + k) (inr (omega (arith, behind))) (behind_slots layout k small)

pub kept_join : (c d e : Core) → Kept c d → Kept d e → Kept c e
kept_join c d e a b = record {
  registers = λ k more. b.registers k more ∙ a.registers k more;
  memory = b.memory ∙ a.memory;
  writable = b.writable ∙ a.writable;
}

pub updated_other : (f : ℕ → ℕ) (r v k : ℕ) → (k ≡ r → ⊥) → updated f r v k ≡ f k
updated_other f r v k other = rw (ne_eqb k r other) refl

pub kept_register : (c : Core) (r v : ℕ) → r ≤ 2 → Kept c (with_register c r v)
kept_register c r v free = record { registers = λ k more. updated_other c.registers r v k (λ e. omega (arith, e, more, free)); memory = refl; writable = refl }

pub kept_flags : (c : Core) (f : Flags) → Kept c (with_flags c f)
kept_flags c f = record { registers = λ k more. refl; memory = refl; writable = refl }

pub kept_result : (c : Core) (r v : ℕ) (f : Flags) → r ≤ 2 → Kept c (with_flags (with_register c r v) f)
kept_result c r v f free = kept_join c (with_register c r v) (with_flags (with_register c r v) f) (kept_register c r v free) (kept_flags (with_register c r v) f)

-- the instructions leave v in eax
pub record Computed (is : List Native) (c : Core) (v : ℕ) : Type 0 where
  pub after : Core
  pub runs : Runs is c after
  pub result : after.registers 0 ≡ v
  pub kept : Kept c after

-- instructions in front that only change free registers
pub behind : (c d : Core) (one more : List Native) (v : ℕ) → Runs one c d → Kept c d → Computed more d v → Computed (one ++ more) c v
behind c d one more v runs kept done = record {
  after = done.after;
  runs = runs_join one more c d done.after runs done.runs;
  result = done.result;
  kept = kept_join c d done.after kept done.kept;
}

-- ==== Results in any register.

-- eax, ecx, edx, the flags and the register of that number may differ
pub record KeptBut (r : ℕ) (c d : Core) : Type 0 where
  pub registers : (k : ℕ) → 2 < k → (k ≡ r → ⊥) → d.registers k ≡ c.registers k
  pub memory : d.memory ≡ c.memory
  pub writable : d.writable ≡ c.writable

pub kept_but : (r : ℕ) (c d : Core) → Kept c d → KeptBut r c d
kept_but r c d k = record { registers = λ j more other. k.registers j more; memory = k.memory; writable = k.writable }

pub but_join : (r : ℕ) (c d e : Core) → KeptBut r c d → KeptBut r d e → KeptBut r c e
but_join r c d e a b = record {
  registers = λ k more other. b.registers k more other ∙ a.registers k more other;
  memory = b.memory ∙ a.memory;
  writable = b.writable ∙ a.writable;
}

pub but_same : (r : ℕ) (c : Core) → KeptBut r c c
but_same r c = record { registers = λ k more other. refl; memory = refl; writable = refl }

pub but_flags : (r : ℕ) (c : Core) (f : Flags) → KeptBut r c (with_flags c f)
but_flags r c f = record { registers = λ k more other. refl; memory = refl; writable = refl }

pub but_register : (c : Core) (r v : ℕ) → KeptBut r c (with_register c r v)
but_register c r v = record { registers = λ k more other. updated_other c.registers r v k other; memory = refl; writable = refl }

-- the instructions leave v in the register of that number
pub record Leaves (r : ℕ) (is : List Native) (c : Core) (v : ℕ) : Type 0 where
  pub after : Core
  pub runs : Runs is c after
  pub result : after.registers r ≡ v
  pub kept : KeptBut r c after

pub leaves_in_eax : (is : List Native) (c : Core) (v : ℕ) → Leaves 0 is c v → Computed is c v
leaves_in_eax is c v done = record {
  after = done.after;
  runs = done.runs;
  result = done.result;
  kept = record { registers = λ k more. done.kept.registers k more (λ e. omega (arith, e, more)); memory = done.kept.memory; writable = done.kept.writable };
}

-- one after another
pub leaves_join : (r : ℕ) (one more : List Native) (c : Core) (v w : ℕ) (done : Leaves r one c v) → Leaves r more done.after w → Leaves r (one ++ more) c w
leaves_join r one more c v w done next = record {
  after = next.after;
  runs = runs_join one more c done.after next.after done.runs next.runs;
  result = next.result;
  kept = but_join r c done.after next.after done.kept next.kept;
}
