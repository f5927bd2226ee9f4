-- A processor after a host's moves.
use Rattle.std.proofs.Common.{◌≡◌, ℕ, ◌+◌, ◌-◌, ◌*◌, ◌/◌, ◌%◌, ◌^◌, ◌<◌, ◌≤◌, ◌==◌, Bool, true, false, List, [], ◌∷◌, Option, Some, None, ◌⊎◌, inl, inr, ⊎_elim, refl, sym, ap, ◌∙◌, subst, arith, if◌then◌else◌, not}
use Rattle.rv_mem.specs.Bytes.{byte_at}
use Rattle.rv_step.specs.declared.outcome.Outcome.{Outcome}
use Rattle.rv_step.specs.declared.outcome.Outcome.TheVariants.{Next, Call, Trap}
use Rattle.rv_step.specs.State.{State, register}
use Rattle.sfi_formats.specs.Formats.{unit}
use Rattle.sfi_image.specs.Spelling.{Part}
use Rattle.sfi_translate.specs.Lines.{Line, Function, End, Entry, Head, Does}
use Rattle.sfi_translate.specs.Machine.{Assembly, Before, ControlPoint, Going, IsTranslatedStepAt, Lost, Loop, Slow, Stopped, before_or, is_short, label, row_step, slow_step, step_done}
use Rattle.x86_step.specs.State.{Core, updated}
use Rattle.sfi_native.specs.declared.layout.Layout.{Layout}
use Rattle.sfi_translate.specs.Laws.{IsOver}
use Rattle.sfi_native.specs.Host.{EachWorkCanBeDone, HostMoves, IsHosts, IsInCode, IsProper, Spares, arrives, makes}
use Rattle.sfi_native.specs.Layout.{Holds, IsLayout, IsOutside, IsRelated, frame_size, slots_size, value}
use Rattle.sfi_native.specs.Places.{AreLast, IsAtPlace, exit_of, start, with_owed}
use Rattle.sfi_native.proofs.OwedSteps.{there_few}
use Rattle.sfi_native.proofs.Held.{apart, data_has, data_lacks, frame_byte, frame_has, frame_lacks, in_data, in_frame}
use Rattle.sfi_native.proofs.Kept.{behind_slots, outside_slots}
use Rattle.sfi_native.proofs.Memory.{number_of_bytes}
use Rattle.sfi_native.proofs.Places.{label_last}
use Rattle.x86_instr.specs.declared.operand.Register.{Register}
use Rattle.sfi_native.specs.declared.plan.Plan.{Plan}
use Rattle.sfi_native.specs.Registers.{IsRightPlan, assigned}
use Rattle.sfi_native.proofs.Assigned.{has_value, not_assigned, other_register as unassigned, with_values}

-- ==== The state.

module _ (p : Part) (l : Layout) (g k : Going) (layout : IsLayout p l) (c : Core) (was : IsRelated p l g c) (proper : IsProper p k.state) (few : k.left < 2 ^ 32) where
  -- frame and data as the turn has them
  abbrev bytes : ℕ → Option ℕ
  bytes a =
      if in_frame p l k layout a then Some (frame_byte p l k layout (a - l.frame))
      else if in_data p l k layout a then byte_at k.state.memory (p.data_base + (a - l.data_start))
      else c.memory a

  abbrev base_registers : ℕ → ℕ
  base_registers = updated (updated c.registers 2 k.state.hart.pc) 14 k.left

  abbrev registers : ℕ → ℕ
  registers = with_values l.plan (value p k) 32 base_registers

  abbrev served : Core
  served = record { registers = registers; flags = c.flags; memory = bytes; writable = c.writable }

  word_is : (r : ℕ) → value p k r < 2 ^ 32
  word_is r = subst (λ h. register h r < 2 ^ 32) (sym proper.fixed_is) (proper.state.hart.words r)

  byte_is : (j a : ℕ) → j < slots_size → a ≡ l.frame + j → bytes a ≡ Some (frame_byte p l k layout j)
  byte_is j a small is =
      let place : l.frame + j - l.frame ≡ j = omega arith in
      let there : bytes (l.frame + j) ≡ Some (frame_byte p l k layout j) = rw (frame_has p l k layout j small, place) refl in
      ap bytes is ∙ there

  slot_byte : (r j : ℕ) → r < 32 → j < 4 → bytes (l.frame + 4 * r + j) ≡ Some (value p k r / 256 ^ j % 256)
  slot_byte r j small less =
      let quotient : (4 * r + j) / 4 ≡ r = omega (arith, less) in
      let rest : (4 * r + j) % 4 ≡ j = omega (arith, less) in
      byte_is (4 * r + j) (l.frame + 4 * r + j) (omega (arith, small, less)) (omega arith)
      ∙ ap (λ q. Some (value p k q / 256 ^ ((4 * r + j) % 4) % 256)) quotient ∙ ap (λ i. Some (value p k r / 256 ^ i % 256)) rest

  right : IsRightPlan l.plan
  right = layout.plan_is_right

  holds : (r : ℕ) → r < 32 → (o : Option Register) → assigned l.plan r ≡ o → Holds l served r o (value p k r)
  holds r small None e = number_of_bytes bytes (l.frame + 4 * r) (value p k r) (word_is r) (λ j less. slot_byte r j small less)
  holds r small (Some q) e = has_value l.plan right (value p k) base_registers 32 r q small e

  own_register : (r : ℕ) → (r < 3) ⊎ ((13 < r) ⊎ (r ≡ 4)) → registers r ≡ base_registers r
  own_register r own = unassigned l.plan right (value p k) base_registers 32 r (not_assigned l.plan right r own)

  pub pc_is : registers 2 ≡ k.state.hart.pc
  pc_is = own_register 2 (inl (omega arith))

  data_is : (j : ℕ) → j < p.data_size → bytes (l.data_start + j) ≡ byte_at k.state.memory (p.data_base + j)
  data_is j small =
      let place : l.data_start + j - l.data_start ≡ j = omega arith in
      rw (apart p l k layout j small, data_has p l k layout j small, place) refl

  pub served_related : IsRelated p l k served
  served_related = record {
    register_count = proper.state.hart.count;
    words = word_is;
    registers = λ r small. holds r small (assigned l.plan r) refl;
    frame = own_register 4 (inr (inr refl)) ∙ was.frame;
    frame_is_written = was.frame_is_written;
    few = few;
    left = own_register 14 (inr (inl (omega arith)));
    bytes = data_is;
    bytes_are_written = was.bytes_are_written;
    origin_is = own_register 15 (inr (inl (omega arith))) ∙ was.origin_is;
  }

  elsewhere : (a : ℕ) → IsOutside a l.frame frame_size → IsOutside a l.data_start p.data_size → bytes a ≡ c.memory a
  elsewhere a by_frame by_data = rw (frame_lacks p l k layout a (outside_slots a l.frame by_frame), data_lacks p l k layout a by_data) refl

  pointers : (n : ℕ) → slots_size ≤ n → n < frame_size → bytes (l.frame + n) ≡ c.memory (l.frame + n)
  pointers n behind small = rw (frame_lacks p l k layout (l.frame + n) (inr (omega (arith, behind))), data_lacks p l k layout (l.frame + n) (behind_slots p l layout n small)) refl

  pub served_spares : (own : ℕ → Type 0) → Spares p l own c served
  served_spares own = record {
    pointers = pointers;
    memory = record { elsewhere = λ a not_own by_frame by_data. elsewhere a by_frame by_data; writable = λ a not_own. refl };
  }

-- ==== The place.

-- a processor may be there
pub record HasPlace (plan : Plan) (base : ℕ) (code : List Line) (place : ControlPoint) (pc : ℕ) : Type 0 where
  pub rip : ℕ
  pub is_there : (c : Core) → c.registers 2 ≡ pc → IsAtPlace plan base code place pc (record { rip = rip; core = c })

-- before lines, if these are last ones of the code; a turn is never lost
pub has_place : (plan : Plan) (base : ℕ) (code : List Line) (place : ControlPoint) (pc : ℕ) → ((rest : List Line) → place ≡ Before rest → AreLast code rest) → (place ≡ Lost → ⊥) → HasPlace plan base code place pc
has_place plan base code (Before rest) pc last found = record { rip = base + start plan code rest; is_there = λ c edx. (refl, last rest refl) }
has_place plan base code Slow pc last found = record { rip = base + exit_of plan code; is_there = λ c edx. (refl, edx) }
has_place plan base code Loop pc last found = record { rip = base + exit_of plan code; is_there = λ c edx. (refl, edx) }
has_place plan base code (Stopped o) pc last found = record { rip = base + exit_of plan code; is_there = λ c edx. (refl, edx) }
has_place plan base code Lost pc last found = absurd (found refl)

done_not_before : (o : Outcome) (s : State) (left : ℕ) (rest : List Line) → (step_done o s left).place ≡ Before rest → ⊥
done_not_before Next s left rest e = cc
done_not_before Call s left rest e = cc
done_not_before (Trap cause at) s left rest e = cc

slow_not_before : (p : Part) (o : Option (List Line)) (g : Going) (rest : List Line) → (slow_step p o g).place ≡ Before rest → ⊥
slow_not_before p (Some (Does at n i ∷ more)) g rest e = done_not_before (row_step p i n g.state).outcome (row_step p i n g.state).state g.left rest e
slow_not_before p None g rest e = cc
slow_not_before p (Some []) g rest e = cc
slow_not_before p (Some (Function sandbox at ∷ more)) g rest e = cc
slow_not_before p (Some (End at ∷ more)) g rest e = cc
slow_not_before p (Some (Entry at ∷ more)) g rest e = cc
slow_not_before p (Some (Head at ∷ more)) g rest e = cc

-- by tests to a label or to a slow step
entered_last : (in_code whole short : Bool) (code : List Line) (pc : ℕ) (rest : List Line)
    → (if in_code then (if short then Slow else (if whole then Slow else before_or Slow (label pc code))) else Slow) ≡ Before rest → AreLast code rest
entered_last true false false code pc rest e = by (label pc code) refl e
  where
    by : (o : Option (List Line)) → label pc code ≡ o → before_or Slow o ≡ Before rest → AreLast code rest
    by None is before = absurd (cc)
    by (Some lines) is before = label_last pc code rest (is ∙ ap Some (same lines before))
      where
        same : (lines : List Line) → Before lines ≡ Before rest → lines ≡ rest
        same lines e = cc
entered_last true true false code pc rest e = absurd (cc)
entered_last true whole true code pc rest e = absurd (cc)
entered_last false whole short code pc rest e = absurd (cc)

-- ==== A move.

pub record IsMade (p : Part) (code : List Line) (k : Going) : Type 0 where
  pub last : (rest : List Line) → k.place ≡ Before rest → AreLast code rest
  pub few : k.left < 2 ^ 31

done_left : (most : ℕ) → most ≤ 2 ^ 32 → (o : Outcome) (s : State) (left : ℕ) → 0 < left → left < most → (step_done o s left).left < most
done_left most fits Next s left some below = omega (arith, fits, some, below)
done_left most fits Call s left some below = below
done_left most fits (Trap cause at) s left some below = below

-- a slow step leaves no more steps
pub slow_left : (most : ℕ) → most ≤ 2 ^ 32 → (p : Part) (o : Option (List Line)) (g : Going) → 0 < g.left → g.left < most → (slow_step p o g).left < most
slow_left most fits p (Some (Does at n i ∷ more)) g some below = done_left most fits (row_step p i n g.state).outcome (row_step p i n g.state).state g.left some below
slow_left most fits p None g some below = below
slow_left most fits p (Some []) g some below = below
slow_left most fits p (Some (Function sandbox at ∷ more)) g some below = below
slow_left most fits p (Some (End at ∷ more)) g some below = below
slow_left most fits p (Some (Entry at ∷ more)) g some below = below
slow_left most fits p (Some (Head at ∷ more)) g some below = below

made : (p : Part) (code : List Line) (g k : Going) (place : ControlPoint) → IsHosts place → g.left < 2 ^ 31 → IsTranslatedStepAt place Assembly p code g k → IsMade p code k
made p code g k Slow is below step =
    subst (λ x. IsMade p code x) (sym step.1) (record {
      last = λ rest e. absurd (slow_not_before p (label g.state.hart.pc code) g rest e);
      few = slow_left (2 ^ 31) (omega arith) p (label g.state.hart.pc code) g step.0 below;
    })
made p code g k Loop is below step =
    let pc = g.state.hart.pc in
    subst (λ x. IsMade p code x) (sym step.1) (record {
      last = λ rest e. entered_last _ (not (pc % unit p.format == 0)) (is_short Assembly g.left) code pc rest e;
      few = below;
    })
made p code g k place is below step = absurd is

-- ==== All moves.

pub all_made : (p : Part) (code : List Line) (g k : Going) → HostMoves p code g k → ((rest : List Line) → g.place ≡ Before rest → AreLast code rest) → g.left < 2 ^ 31 → IsMade p code k
all_made p code g k (arrives _ handed) last few = record { last = last; few = few }
all_made p code g k (makes _ h _ is step more) last few =
    let it = made p code g h g.place is few step in
    all_made p code h k more it.last it.few

not_lost : (place : ControlPoint) (k : Going) → k.place ≡ place → IsInCode place ⊎ IsOver k → place ≡ Lost → ⊥
not_lost Lost k is (inl inside) e = inside
not_lost Lost k is (inr over) e = ⊎_elim (λ one. let clash : Lost ≡ Stopped one.0 = sym is ∙ one.1 in cc) (λ one. let clash : Lost ≡ Loop = sym is ∙ one.0 in cc) over
not_lost (Before rest) k is handed e = cc
not_lost Slow k is handed e = cc
not_lost Loop k is handed e = cc
not_lost (Stopped o) k is handed e = cc

pub handed_over : (p : Part) (code : List Line) (g k : Going) → HostMoves p code g k → IsInCode k.place ⊎ IsOver k
handed_over p code g k (arrives _ handed) = handed
handed_over p code g k (makes _ h _ is step more) = handed_over p code h k more

pub never_lost : (p : Part) (code : List Line) (g k : Going) → HostMoves p code g k → k.place ≡ Lost → ⊥
never_lost p code g k leads e = not_lost k.place k refl (handed_over p code g k leads) e

pub each_work_can_be_done : EachWorkCanBeDone
each_work_can_be_done p l base code own g k m layout proper is below related leads =
    let it = all_made p code g k leads (λ rest e. absurd (subst IsHosts e is)) below in
    let place = has_place l.plan base code k.place k.state.hart.pc it.last (never_lost p code g k leads) in
    let owes = with_owed l.plan p k in
    let fits : owes.left < 2 ^ 32 = omega (arith, it.few, there_few l.plan p k.place) in
    let core = served p l g owes layout m.core related proper fits in (
      record { rip = place.rip; core = core },
      record {
        related = served_related p l g owes layout m.core related proper fits;
        is_at = place.is_there core (pc_is p l g owes layout m.core related proper fits);
        spares = served_spares p l g owes layout m.core related proper fits own;
      },
    )
