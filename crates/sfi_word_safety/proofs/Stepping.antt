-- One step, each turn and each run keep a good state.
use Rattle.sfi_safe_runs.specs.Runs.{Empty}
use Rattle.sfi_word_safety.proofs.Prelude.{◌≡◌, ℕ, ◌⊎◌, false, refl, sym, ◌∙◌, subst, inl, inr, length, Instr, Accesses, State, Stepped, Stands, IsStep, effect, Outcome, Next, Call, Trap, Part, is_gate_of, InData, InGuard, AreWordsTyped, breaks_ecall, breaks_target, after_step, IsSafeStep, IsCleanInWords, AreKnown, IsAtPlaceInWords, IsGoodInWords, IsGoodInWordsIf, List, ◌∷◌, ap, Ecall, address_after, Hart, ends_region, IsReply, IsChange, Turn, Steps, Replies, Changes, IsTurn, after_turn, EntryIsGoodInWords, TurnKeepsInWords, CleanWordsRunSafely}
use Rattle.rv_comp.proofs.Facts.{spelled_in_range, ecall_is_wide}
use Rattle.rv_step.proofs.Facts.{one_instruction, stopped_stays}
use Rattle.sfi_image.proofs.Facts.{code_ends}
use Rattle.sfi_safe_runs.proofs.Stepping as steps
use Rattle.sfi_word_safety.proofs.Effects.{Writes, Leads, leads, writes, count_stays, reserved_stay}
use Rattle.sfi_word_safety.proofs.Known.{code_at_flow, accesses_near, known_after, typed_after, typed_known, typed_at_ecall}
use Rattle.sfi_word_safety.proofs.Places.{at_start, goes_on, present, safe_here}
use Rattle.sfi_safe_runs.specs.Runs.{IsTyped}
use Rattle.sfi_safe_runs.proofs.Entries.{to_word, of_words_typed}
use Rattle.sfi_safe_runs.proofs.SafeRuns.{entry_keeps, reply_keeps, change_keeps, turn_safe, runs_safely, calls_typed}
use Rattle.sfi_word_safety.specs.Laws.{CleanWordsCallTyped}
use Rattle.sfi_image.specs.Spelling.{code_region, data_region}

-- ==== One step from a good state is safe, and leads to a good state.

module _ (p : Part) (s : State) (clean : IsCleanInWords p) (good : IsGoodInWords p s) where
  abbrev i : Instr
  i = good.place.place.here.instr

  abbrev n : ℕ
  n = good.place.place.here.size

  pub stands_here : Stands s good.place.place.here.instr good.place.place.here.size
  stands_here = present p clean s.hart good.place s.memory good.kept.code

  pub only : (j : Instr) (k : ℕ) → Stands s j k → (j ≡ good.place.place.here.instr) × (k ≡ good.place.place.here.size)
  only j k stands = one_instruction s j i k n stands stands_here

  near_here : (a : ℕ) → Accesses good.place.place.here.instr s.hart a → InData p a ⊎ InGuard p a
  near_here a has =
      accesses_near p clean.words clean.right s.hart good.kept.reserved i n good.place.place.later (spelled_in_range stands_here.bytes i n stands_here.spelled) good.place.place.none.0.access good.place.known a has

  -- what the effect leads to
  leads_here : Leads p i n s.hart (effect i n s.hart s.memory).outcome (effect i n s.hart s.memory).state.hart
  leads_here =
      let none = good.place.place.none.0 in
      let pc = sym good.place.pc in
      leads p s.hart s.memory (code_ends p clean.right) i n
      (subst (λ (a : ℕ). breaks_ecall (is_gate_of p.gates a) i ≡ false) pc none.ecall) none.jump
      (subst (λ (a : ℕ). breaks_target p.code_base (length p.code) a i ≡ false) pc none.target)
      (λ flow. code_at_flow p s.hart.registers good.place.place.here good.place.place.later flow good.place.known)

  module _ (r : Stepped) (step : IsStep s r) where
    step_is : r ≡ effect good.place.place.here.instr good.place.place.here.size s.hart s.memory
    step_is = steps.step_is p clean.right clean.apart Empty s good.kept i n stands_here near_here r step

    pub step_leads : Leads p good.place.place.here.instr good.place.place.here.size s.hart r.outcome r.state.hart
    step_leads = subst (λ (x : Stepped). Leads p i n s.hart x.outcome x.state.hart) (sym step_is) leads_here

    in_data : r.outcome ≡ Next → (a : ℕ) → Accesses good.place.place.here.instr s.hart a → InData p a
    in_data = steps.in_data p clean.right clean.apart Empty s good.kept i n stands_here near_here r step good.kept.guards

    -- the place that a step that is done leads to
    place_after : r.outcome ≡ Next → Leads p good.place.place.here.instr good.place.place.here.size s.hart Next r.state.hart → IsAtPlaceInWords p r.state.hart
    place_after done (inl (pc, goes)) =
        let none = good.place.place.none.0 in
        goes_on p clean s.hart good.place r.state.hart pc goes
        (subst (λ (x : Stepped). AreKnown p x.state.hart.registers good.place.place.later) (sym step_is)
        (known_after p clean.words clean.right s.hart good.kept.reserved good.place.place.here good.place.place.later s.memory good.kept.count (spelled_in_range stands_here.bytes i n stands_here.spelled) good.place.known none.data_write none.code_write none.offset_write (in_data done)))
    place_after done (inr (start, flow)) =
        let none = good.place.place.none.0 in
        at_start p clean r.state.hart start
        (subst (λ (x : Stepped). AreWordsTyped p.format (code_region p) (data_region p) x.state.hart.registers) (sym step_is)
        (typed_after p clean.words clean.right s.hart good.kept.reserved good.place.place.here good.place.place.later s.memory good.kept.count (spelled_in_range stands_here.bytes i n stands_here.spelled) good.place.known flow none.data_write none.code_write none.offset_write))

    by_outcome : (o : Outcome) → r.outcome ≡ o → Leads p good.place.place.here.instr good.place.place.here.size s.hart o r.state.hart → IsGoodInWordsIf p (after_step o r.state)
    by_outcome Next e led =
        let w = subst (λ (x : Stepped). Writes i s.hart x.state.hart) (sym step_is) (writes i n s.hart s.memory) in
        record {
          kept = record {
            count = count_stays i s.hart r.state.hart w ∙ good.kept.count;
            reserved = reserved_stay p i s.hart r.state.hart w good.place.place.none.0.reserved good.kept.reserved;
            code = steps.code_stays p clean.right clean.apart Empty s good.kept i n stands_here near_here r step;
            guards = steps.guards_stay p clean.right clean.apart Empty s good.kept i n stands_here near_here r step e;
          };
          place = place_after e led;
        }
    by_outcome Call e led = subst (λ (x : State). IsGoodInWords p x) (sym (stopped_stays s r step (λ done. let clash : Next ≡ Call = sym done ∙ e in cc))) good
    by_outcome (Trap cause at) e led = tt

    pub step_good : IsGoodInWordsIf p (after_step r.outcome r.state)
    step_good = by_outcome r.outcome refl step_leads

    pub step_safe : IsSafeStep p s r
    step_safe =
        steps.step_safe p clean.right clean.apart Empty s good.kept i n stands_here near_here r step tt
        (λ e. subst (λ (o : Outcome). Leads p i n s.hart o r.state.hart) e step_leads)

-- ==== Each turn keeps a good state, and so does each run.

module _ (p : Part) (clean : IsCleanInWords p) where
  module _ (s : State) (good : IsGoodInWords p s) where
    -- a reply to an ecall leads to the place after it
    pub place_replied : (after : Hart) (n : ℕ) → Stands s Ecall n → after.pc ≡ address_after s.hart.pc 4 → IsTyped p after.registers → IsAtPlaceInWords p after
    place_replied after n asked pc typed =
        let e = only p s clean good Ecall n asked in
        let four : n ≡ 4 = ecall_is_wide asked.bytes n asked.spelled in
        goes_on p clean s.hart good.place after (pc ∙ ap (λ (k : ℕ). address_after s.hart.pc k) (sym four ∙ e.1)) (ap ends_region (sym e.0))
        (typed_known p after.registers good.place.place.later (typed.words clean.words))

    reply_good : (after : State) → IsReply p s after → IsGoodInWords p after
    reply_good after r = record { kept = reply_keeps Empty p s after good.kept r; place = place_replied after.hart r.size r.asked r.pc r.typed }

    change_good : (after : State) → IsChange p s after → IsGoodInWords p after
    change_good after c = record {
      kept = change_keeps Empty p s after good.kept c;
      place = record {
        offset = good.place.offset;
        place = good.place.place;
        pc = c.pc ∙ good.place.pc;
        even = good.place.even;
        known = subst (λ (l : List ℕ). AreKnown p l (good.place.place.here ∷ good.place.place.later)) (sym c.registers) good.place.known;
      };
    }

    turn_good : (turn : Turn) → IsTurn p s turn → IsGoodInWordsIf p (after_turn turn)
    turn_good (Steps r) h = step_good p s clean good r h
    turn_good (Replies after) h = reply_good after h
    turn_good (Changes after) h = change_good after h

pub turn_keeps : TurnKeepsInWords
turn_keeps p s turn clean good h = (safe_here p clean s.hart good.place s.memory good.kept.code, turn_safe Empty p s (step_safe p s clean good) turn h, turn_good p clean s good turn h)

-- ---- runs

pub entry_good : EntryIsGoodInWords
entry_good p s clean entry = record {
  kept = entry_keeps Empty p s entry;
  place = at_start p clean s.hart (to_word p s.hart.pc clean.words entry.start) (entry.typed.words clean.words);
}

pub clean_runs : CleanWordsRunSafely
clean_runs p clean = runs_safely Empty p (IsGoodInWords p) (λ s turn good h. turn_keeps p s turn clean good h) (λ s entry. entry_good p s clean entry)

-- at an ecall the typed registers hold what their types say
pub good_calls : (p : Part) (s : State) (n : ℕ) → IsCleanInWords p → IsGoodInWords p s → Stands s Ecall n → IsTyped p s.hart.registers
good_calls p s n clean good stands =
    let here = good.place.place in
    of_words_typed p s.hart.registers clean.words (typed_at_ecall p s.hart.registers here.here here.later (only p s clean good Ecall n stands).0 good.place.known)

pub clean_calls : CleanWordsCallTyped
clean_calls p clean = calls_typed Empty p (IsGoodInWords p) (λ s turn good h. turn_keeps p s turn clean good h) (λ s entry. entry_good p s clean entry) (λ s n good stands. good_calls p s n clean good stands)
