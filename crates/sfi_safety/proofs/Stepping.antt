-- One step, each turn and each run keep a good state, by what stands at a place.
use Rattle.sfi_safety.proofs.Places.{pc_in_code, present, at_start, safe_here, place_here, rules_kept, goes_on}
use Rattle.sfi_safety.proofs.Effects.{Here, accesses_near, Leads, leads}
use Rattle.sfi_safety.proofs.Registers.{leaves_after, is_of_pair, stack_here, stack_lies}
use Rattle.rv_comp.proofs.Facts.{spelled_in_range, ecall_is_wide}
use Rattle.rv_step.proofs.Facts.{one_instruction, stopped_stays}
use Rattle.sfi_safe_runs.proofs.Entries.{of_stack, to_bundle}
use Rattle.sfi_safe_runs.proofs.Stepping.{gate_of}
use Rattle.sfi_image.proofs.Facts.{code_ends}
use Rattle.sfi_rules.proofs.Facts.{same_bundle_starts}
use Rattle.sfi_safe_runs.proofs.Stepping as steps
use Rattle.sfi_safe_runs.proofs.SafeRuns.{entry_keeps, reply_keeps, change_keeps, turn_safe, runs_safely, calls_typed}
use Rattle.sfi_safety.proofs.Prelude.{◌≡◌, ℕ, ◌+◌, ◌*◌, ◌^◌, ◌<◌, ◌≤◌, ◌⊎◌, List, [], ◌∷◌, length, true, refl, sym, ap, ◌∙◌, subst, arith, add-zero, false≢true, false, Instr, Ecall, InRange, Accesses, address_after, Hart, State, Stands, Part, bundle_place, is_empty, ends_region, InData, InGuard, IsGate, HasReserved, HasCode, IsTyped, Leaves, StackInDataBefore, AreCleanBundles, IsAtPlace, Next, Call, Trap, Stepped, IsStep, effect, after_step, Outcome, Turn, Steps, Replies, Changes, after_turn, IsSafeState, EntryIsGood, TurnKeeps, Option}
use Rattle.std.specs.Prelude.{IfSome}
use Rattle.sfi_safe_runs.specs.Runs.{Zones, Empty, by_ecall, IsEntryAs, IsReplyAs, IsChangeAs, IsTurnAs}
use Rattle.sfi_safe_runs.specs.Safety.{IsSafeStepAs, IsSafeTurnAs, RunsSafelyAs}
use Rattle.sfi_safe_runs.specs.Calling.{CallsTypedAs}
use Rattle.sfi_safety.specs.Places.{IsGoodAs}
use Rattle.sfi_image.specs.Parts.{reserved_of}

-- ==== What stands at a place: one instruction, whose accesses fall into the data and the guards; and where a reply and a change by others lead from there.

no_earlier : {A : Type 0} (xs : List A) → is_empty xs ≡ true → xs ≡ []
no_earlier [] h = refl
no_earlier (x ∷ xs) h = absurd (false≢true h)

ecall_in_range : InRange Ecall
unfolding InRange
ecall_in_range = tt

module _ (sandbox : ℕ) (p : Part) (s : State) (clean : AreCleanBundles sandbox p) (at : IsAtPlace sandbox p s.hart) (code : HasCode p s.memory) where
  pub stands_here : Stands s at.here.instr at.here.size
  stands_here = present sandbox p s.hart clean at s.memory code

  pub only : (i : Instr) (n : ℕ) → Stands s i n → (i ≡ at.here.instr) × (n ≡ at.here.size)
  only i n stands = one_instruction s i at.here.instr n at.here.size stands stands_here

  pub here : Here sandbox p s.hart at.here.instr at.here.size
  here =
      let rules = rules_kept sandbox p s.hart at in
      let inside = pc_in_code sandbox p s.hart clean at in
      let end : p.code_base + length p.code ≤ 2 ^ 32 = code_ends p clean.right in
      let below : s.hart.pc < p.code_base + length p.code = inside.1 in
      record {
        place = place_here sandbox p s.hart at;
        address = sym at.pc;
        pc = omega arith;
        end = end;
        range = spelled_in_range stands_here.bytes at.here.instr at.here.size stands_here.spelled;
        leaves = at.leaves;
        ecall = rules.ecall;
        reserved = rules.reserved;
        access = rules.access;
        jump = rules.jump;
        target = rules.target;
        writing = rules.stack;
        format = refl;
        stack = at.stack;
        gate = λ e listed.
            let first : p.code_base + 16 * at.number ≡ s.hart.pc = sym (at.pc ∙ ap (λ (n : ℕ). p.code_base + 16 * at.number + n) (at.first (no_earlier at.earlier e)) ∙ add-zero (p.code_base + 16 * at.number)) in
            subst (λ (a : ℕ). IsGate p a) first (gate_of p.gates (p.code_base + 16 * at.number) listed);
        is_start = λ a is. (same_bundle_starts (bundle_place sandbox p at.number) a).0 is;
        goes = λ h' pc goes leaves stack. goes_on sandbox p s.hart h' clean at pc goes leaves stack;
        start = λ h' start stack. at_start sandbox p h' clean start stack;
      }

  pub near_here : (a : ℕ) → Accesses at.here.instr s.hart a → InData p a ⊎ InGuard p a
  near_here a has = accesses_near sandbox p s.hart at.here.instr at.here.size clean.right here a has

  -- at an ecall here the typed registers hold what their types say
  pub typed_at_ecall : (n : ℕ) → Stands s Ecall n → IsTyped p s.hart.registers
  typed_at_ecall n asked = of_stack p s.hart.registers clean.bundles (stack_here p at.earlier at.here at.later s.hart.registers (sym (ap is_of_pair (only Ecall n asked).0)) at.stack)

  -- a reply to an ecall here leads to the place after it
  pub place_replied : length s.hart.registers ≡ 32 → HasReserved p.format (reserved_of p) s.hart.registers → (after : Hart) (n : ℕ) → Stands s Ecall n → after.pc ≡ address_after s.hart.pc 4 → IsTyped p after.registers → IsAtPlace sandbox p after
  place_replied count reserved after n asked pc typed =
      let e = only Ecall n asked in
      let four : n ≡ 4 = ecall_is_wide asked.bytes n asked.spelled in
      let goes : ends_region at.here.instr ≡ false = ap ends_region (sym e.0) in
      let left : Leaves p (Ecall ∷ at.earlier) after.registers = leaves_after p s.hart after Ecall at.earlier clean.right clean.bundles count reserved ecall_in_range tt at.leaves in
      goes_on sandbox p s.hart after clean at (pc ∙ ap (λ (k : ℕ). address_after s.hart.pc k) (sym four ∙ e.1)) goes
      (subst (λ (i : Instr). Leaves p (i ∷ at.earlier) after.registers) e.0 left)
      (stack_lies p (at.here.instr ∷ at.earlier) at.later after.registers typed.stack)

-- a hart of the same pc and registers is at the same place
pub place_unchanged : (sandbox : ℕ) (p : Part) (h h' : Hart) → IsAtPlace sandbox p h → h'.pc ≡ h.pc → h'.registers ≡ h.registers → IsAtPlace sandbox p h'
place_unchanged sandbox p h h' at pc registers = record {
  number = at.number;
  within = at.within;
  offset = at.offset;
  earlier = at.earlier;
  here = at.here;
  later = at.later;
  reading = at.reading;
  whole = at.whole;
  clean = at.clean;
  pc = pc ∙ at.pc;
  first = at.first;
  leaves = subst (λ (l : List ℕ). Leaves p at.earlier l) (sym registers) at.leaves;
  stack = subst (λ (l : List ℕ). StackInDataBefore p at.earlier (at.here ∷ at.later) l) (sym registers) at.stack;
}

-- ==== One step from a good state is safe, and leads to a good state.

-- the state is good, if the run goes on
abbrev GoodIf : Zones → ℕ → Part → Option State → Type 0
GoodIf zones sandbox p o = IfSome o (λ s. IsGoodAs zones sandbox p s)

module _ (zones : Zones) (sandbox : ℕ) (p : Part) (s : State) (clean : AreCleanBundles sandbox p) (good : IsGoodAs zones sandbox p s) where
  stands_good : Stands s good.place.here.instr good.place.here.size
  stands_good = stands_here sandbox p s clean good.place good.kept.code

  near_good : (a : ℕ) → Accesses good.place.here.instr s.hart a → InData p a ⊎ InGuard p a
  near_good = near_here sandbox p s clean good.place good.kept.code

  module _ (r : Stepped) (step : IsStep s r) where
    -- a step has the effect of the instruction that the reading has there
    step_is : r ≡ effect good.place.here.instr good.place.here.size s.hart s.memory
    step_is = steps.step_is p clean.right clean.apart zones s good.kept good.place.here.instr good.place.here.size stands_good near_good r step

    pub step_leads : Leads sandbox p s.hart good.place.here.size r.outcome r.state.hart
    step_leads =
        subst (λ (x : Stepped). Leads sandbox p s.hart good.place.here.size x.outcome x.state.hart) (sym step_is)
        (leads sandbox p s.hart s.memory clean.right clean.bundles good.kept.count good.kept.reserved good.place.here.instr good.place.here.size
        (here sandbox p s clean good.place good.kept.code))

    by_outcome : (o : Outcome) → r.outcome ≡ o → Leads sandbox p s.hart good.place.here.size o r.state.hart → GoodIf zones sandbox p (after_step o r.state)
    by_outcome Next e (there, goes) = record {
      kept = record { count = there.count; reserved = there.reserved; code = steps.code_stays p clean.right clean.apart zones s good.kept good.place.here.instr good.place.here.size stands_good near_good r step; guards = steps.guards_stay p clean.right clean.apart zones s good.kept good.place.here.instr good.place.here.size stands_good near_good r step e };
      place = there.place;
    }
    by_outcome Call e led = subst (λ (x : State). IsGoodAs zones sandbox p x) (sym (stopped_stays s r step (λ done. let clash : Next ≡ Call = sym done ∙ e in cc))) good
    by_outcome (Trap cause at) e led = tt

    pub step_good : GoodIf zones sandbox p (after_step r.outcome r.state)
    step_good = by_outcome r.outcome refl step_leads

    pub step_safe : IsSafeStepAs zones p s r
    step_safe =
        steps.step_safe p clean.right clean.apart zones s good.kept good.place.here.instr good.place.here.size stands_good near_good r step (steps.bundles_may_be zones p clean.bundles)
        (λ e. subst (λ (o : Outcome). Leads sandbox p s.hart good.place.here.size o r.state.hart) e step_leads)

-- ==== Each turn keeps a good state, and so does each run.

module _ (zones : Zones) (sandbox : ℕ) (p : Part) (clean : AreCleanBundles sandbox p) where
  -- ---- what is not a step

  module _ (s : State) (good : IsGoodAs zones sandbox p s) where
    reply_good : (after : State) → IsReplyAs (by_ecall zones) p s after → IsGoodAs zones sandbox p after
    reply_good after r = record {
      kept = reply_keeps zones p s after good.kept r;
      place = place_replied sandbox p s clean good.place good.kept.code good.kept.count good.kept.reserved after.hart r.size r.asked r.pc r.typed;
    }

    change_good : (after : State) → IsChangeAs (by_ecall zones) p s after → IsGoodAs zones sandbox p after
    change_good after c = record {
      kept = change_keeps zones p s after good.kept c;
      place = place_unchanged sandbox p s.hart after.hart good.place c.pc c.registers;
    }

    turn_good : (turn : Turn) → IsTurnAs (by_ecall zones) p s turn → GoodIf zones sandbox p (after_turn turn)
    turn_good (Steps r) h = step_good zones sandbox p s clean good r h
    turn_good (Replies after) h = reply_good after h
    turn_good (Changes after) h = change_good after h

    pub keeps : (turn : Turn) → IsTurnAs (by_ecall zones) p s turn → IsSafeState p s × IsSafeTurnAs zones p s turn × GoodIf zones sandbox p (after_turn turn)
    keeps turn h =
        (safe_here sandbox p s.hart clean good.place s.memory good.kept.code, turn_safe zones p s (step_safe zones sandbox p s clean good) turn h, turn_good turn h)

    pub calls : (n : ℕ) → Stands s Ecall n → IsTyped p s.hart.registers
    calls n stands = typed_at_ecall sandbox p s clean good.place good.kept.code n stands

  -- ---- runs

  pub enters : (s : State) → IsEntryAs (by_ecall zones) p s → IsGoodAs zones sandbox p s
  enters s entry = record {
    kept = entry_keeps zones p s entry;
    place = at_start sandbox p s.hart clean (to_bundle p s.hart.pc clean.bundles entry.start) entry.typed.stack;
  }

  pub bundles_run : RunsSafelyAs (by_ecall zones) p
  bundles_run = runs_safely zones p (IsGoodAs zones sandbox p) (λ s turn good h. keeps s good turn h) enters

  pub bundles_call : CallsTypedAs (by_ecall zones) p
  bundles_call = calls_typed zones p (IsGoodAs zones sandbox p) (λ s turn good h. keeps s good turn h) enters (λ s n good stands. calls s good n stands)

pub turn_keeps : TurnKeeps
turn_keeps sandbox p s turn clean good h = keeps Empty sandbox p clean s good turn h

pub entry_good : EntryIsGood
entry_good sandbox p s clean entry = enters Empty sandbox p clean s entry
