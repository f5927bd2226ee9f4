-- Runs with direct gates are as runs of the image's own code, in a memory in which the springboards' bytes are the image's: each turn is one there.
use Rattle.sfi_safety.proofs.Prelude.{◌≡◌, ℕ, zero, suc, ◌+◌, ◌-◌, ◌%◌, ◌^◌, ◌<◌, ◌≤◌, ◌⊎◌, List, [], ◌∷◌, length, refl, sym, ap, ◌∙◌, subst, inl, inr, ⊎_elim, cases_lt, arith, Option, Some, None, All, unit, Format, Sfi1, Sfi2, Sfiw, Sfis, Instr, Ecall, Next, Call, Trap, Outcome, Accesses, address_after, Hart, State, Stepped, Stands, IsStep, unchanged, Part, Gate, IsRightPart, IsBundleStart, AreApart, code_region, guarded_region, InData, InGuard, InCode, IsGate, IsUnitStart, HasCode, IsTyped, Bytes, byte_at, Turn, Steps, Replies, Changes, after_step, after_turn, after_turns, IsSafeState}
use Rattle.std.specs.Prelude.{IfSome, slice_get}
use Rattle.rv_step.specs.Laws.{AgreeHere, IsSameStep}
use Rattle.rv_comp.specs.declared.front.Front.TheVariants.{Read}
use Rattle.rv_step.proofs.Facts.{one_instruction, stopped_stays, some_step, agreeing_stands_too, agreeing_steps_are_same, other_bytes_stay}
use Rattle.sfi_image.specs.declared.span.Span.{Span}
use Rattle.sfi_image.proofs.Facts.{code_ends}
use Rattle.sfi_safe_runs.specs.Safety.{IsTrap, TrapsIn, writable_region, IsSafeStateAs, IsSafeStepAs, IsSafeTurnAs, IsSafeRunAs, RunsSafelyAs}
use Rattle.sfi_safe_runs.specs.Calling.{KeepsAllAs, IsCalling, CallsTypedAs}
use Rattle.sfi_safe_runs.specs.Runs.{KeepsReserved, Zones, Empty, Padded, Direct, Setting, by_ecall, IsDirect, IsInBoard, HasEcall, HasCodeAs, HasGuards, KeepsGuards, KeepsBytesAs, StaysOutside, IsEntryAs, IsReplyAs, IsChangeAs, IsTurnAs, IsRunAs}
use Rattle.sfi_safe_runs.proofs.Entries.{bytes_over, there, elsewhere}
use Rattle.sfi_safe_runs.proofs.Stepping.{MayBePadded, stands_there, guarded, data_alone, not_code}
use Rattle.sfi_safe_runs.proofs.SafeRuns.{no_change}
use Rattle.sfi_word_safety.proofs.Places.{bundles_whole}

-- ---- units of code

unit_is : (f : Format) → (unit f ≡ 16) ⊎ (unit f ≡ 4)
unit_is Sfi1 = inl refl
unit_is Sfi2 = inl refl
unit_is Sfiw = inr refl
unit_is Sfis = inr refl

-- what is less than a unit past pc, in pc's own, lies in no unit that begins after pc
same_unit : (u pc k gate : ℕ) → (u ≡ 16) ⊎ (u ≡ 4) → gate % u ≡ 0 → pc % u + k < u → gate ≤ pc + k → pc + k < gate + 4 → gate ≤ pc
same_unit u pc k gate (inl e) aligned within from below = let a : gate % 16 ≡ 0 = subst (λ (n : ℕ). gate % n ≡ 0) e aligned in let w : pc % 16 + k < 16 = subst (λ (n : ℕ). pc % n + k < n) e within in omega arith
same_unit u pc k gate (inr e) aligned within from below = let a : gate % 4 ≡ 0 = subst (λ (n : ℕ). gate % n ≡ 0) e aligned in let w : pc % 4 + k < 4 = subst (λ (n : ℕ). pc % n + k < n) e within in omega arith

-- nor does what is a unit past pc's own start, past the start of another
next_unit : (u pc n gate : ℕ) → (u ≡ 16) ⊎ (u ≡ 4) → gate % u ≡ 0 → pc % u + n ≤ u → gate < pc + n → pc + n < gate + 4 → gate ≤ pc
next_unit u pc n gate (inl e) aligned within from below = let a : gate % 16 ≡ 0 = subst (λ (m : ℕ). gate % m ≡ 0) e aligned in let w : pc % 16 + n ≤ 16 = subst (λ (m : ℕ). pc % m + n ≤ m) e within in omega arith
next_unit u pc n gate (inr e) aligned within from below = let a : gate % 4 ≡ 0 = subst (λ (m : ℕ). gate % m ≡ 0) e aligned in let w : pc % 4 + n ≤ 4 = subst (λ (m : ℕ). pc % m + n ≤ m) e within in omega arith

-- a start past a gate is in another unit than the gate
other_start : (u start gate : ℕ) → (u ≡ 16) ⊎ (u ≡ 4) → gate % u ≡ 0 → start % u ≡ 0 → gate < start → start < gate + 4 → ⊥
other_start u start gate (inl e) aligned is from below = let a : gate % 16 ≡ 0 = subst (λ (n : ℕ). gate % n ≡ 0) e aligned in let w : start % 16 ≡ 0 = subst (λ (n : ℕ). start % n ≡ 0) e is in omega arith
other_start u start gate (inr e) aligned is from below = let a : gate % 4 ≡ 0 = subst (λ (n : ℕ). gate % n ≡ 0) e aligned in let w : start % 4 ≡ 0 = subst (λ (n : ℕ). start % n ≡ 0) e is in omega arith

-- pc's unit ends in a region of whole bundles
unit_ends : (u pc n base size : ℕ) → (u ≡ 16) ⊎ (u ≡ 4) → base % 16 ≡ 0 → size % 16 ≡ 0 → base ≤ pc → pc < base + size → pc % u + n ≤ u → pc + n ≤ base + size
unit_ends u pc n base size (inl e) a b from below within = let w : pc % 16 + n ≤ 16 = subst (λ (m : ℕ). pc % m + n ≤ m) e within in omega arith
unit_ends u pc n base size (inr e) a b from below within = let w : pc % 4 + n ≤ 4 = subst (λ (m : ℕ). pc % m + n ≤ m) e within in omega arith

-- ---- springboards

gate_start : (gates : List Gate) (region : Span) → All (λ g. IsBundleStart region g.address) gates → (k : ℕ) (g : Gate) → slice_get gates k ≡ Some g → IsBundleStart region g.address
gate_start [] region all k g e = absurd cc
gate_start (x ∷ gates) region all zero g e = let same : x ≡ g = cc in subst (λ (y : Gate). IsBundleStart region y.address) same (all 0 x (omega arith))
gate_start (x ∷ gates) region all (suc k) g e = gate_start gates region (λ j d below. all (suc j) d (omega (arith, below))) k g e

module _ (p : Part) (right : IsRightPart p) (direct : List ℕ) where
  gate_is : (a : ℕ) → IsGate p a → IsBundleStart (code_region p) a
  gate_is a gate = subst (λ (x : ℕ). IsBundleStart (code_region p) x) gate.3 (gate_start p.gates (code_region p) right.gates.starts gate.0 gate.1 gate.2)

  aligned : (a : ℕ) → IsGate p a → a % unit p.format ≡ 0
  aligned a gate = by (unit_is p.format)
    where
      by : (unit p.format ≡ 16) ⊎ (unit p.format ≡ 4) → a % unit p.format ≡ 0
      by (inl e) = ap (λ (n : ℕ). a % n) e ∙ (gate_is a gate).aligned
      by (inr e) = ap (λ (n : ℕ). a % n) e ∙ (let x : a % 16 ≡ 0 = (gate_is a gate).aligned in let y : a % 4 ≡ 0 = omega arith in y)

  in_code : (a : ℕ) → IsInBoard p direct a → InCode p a
  in_code a board =
      let start = gate_is board.gate board.made.0 in
      let whole = bundles_whole p right in
      let base : p.code_base % 16 ≡ 0 = whole.0 in
      let size : length p.code % 16 ≡ 0 = whole.1 in
      let low : p.code_base ≤ board.gate = start.held.0 in
      let high : board.gate < p.code_base + length p.code = start.held.1 in
      let multiple : board.gate % 16 ≡ 0 = start.aligned in
      let from : board.gate ≤ a = board.from in
      let below : a < board.gate + 4 = board.below in
      (omega arith, omega arith)

  -- a start that is in a springboard is its gate
  start_front : (a : ℕ) → IsUnitStart p a → IsInBoard p direct a → IsDirect p direct a
  start_front a start board =
      let from : board.gate ≤ a = board.from in
      ⊎_elim
      (λ (past : board.gate < a). absurd (other_start (unit p.format) a board.gate (unit_is p.format) (aligned board.gate board.made.0) start.aligned past board.below))
      (λ (up : a ≤ board.gate). let same : board.gate ≡ a = omega arith in subst (λ (x : ℕ). IsDirect p direct x) same board.made)
      (cases_lt board.gate a)

  -- ---- the memory with the image's code

  abbrev whole : Bytes → Bytes
  whole m = bytes_over m p.code_base p.code

  whole_code : (m : Bytes) → HasCode p (whole m)
  whole_code m k below = there m p.code_base p.code k below

  -- an address is in the code or not
  in_or_out : (a : ℕ) → InCode p a ⊎ ((a < p.code_base) ⊎ (p.code_base + length p.code ≤ a))
  in_or_out a =
      ⊎_elim
      (λ (less : a < p.code_base). inr (inl less))
      (λ (more : p.code_base ≤ a). ⊎_elim (λ (below : a < p.code_base + length p.code). inl (more, below)) (λ (past : p.code_base + length p.code ≤ a). inr (inr past)) (cases_lt a (p.code_base + length p.code)))
      (cases_lt a p.code_base)

  -- it is the memory itself, but in springboards
  whole_same : (m : Bytes) → HasCodeAs (Direct direct) p m → (a : ℕ) → (IsInBoard p direct a → ⊥) → byte_at (whole m) a ≡ byte_at m a
  whole_same m code a out = by (in_or_out a)
    where
      by : InCode p a ⊎ ((a < p.code_base) ⊎ (p.code_base + length p.code ≤ a)) → byte_at (whole m) a ≡ byte_at m a
      by (inr off) = elsewhere m p.code_base p.code a off
      by (inl (from, below)) = at_offset (a - p.code_base) (omega arith) (omega arith)
        where
          at_offset : (k : ℕ) → a ≡ p.code_base + k → k < length p.code → byte_at (whole m) a ≡ byte_at m a
          at_offset k e less =
              ap (byte_at (whole m)) e ∙ whole_code m k less
              ∙ sym (code k less (λ board. out (subst (λ (x : ℕ). IsInBoard p direct x) (sym e) board)))
              ∙ ap (byte_at m) (sym e)

  module _ (apart : AreApart (code_region p) (guarded_region p)) where
    -- data and guard zones are in no springboard
    near_out : (a : ℕ) → InData p a ⊎ InGuard p a → IsInBoard p direct a → ⊥
    near_out a near board = not_code p a right apart near (in_code a board)

    whole_guards : (z : Zones) (m : Bytes) → HasCodeAs (Direct direct) p m → HasGuards z p m → HasGuards z p (whole m)
    whole_guards Empty m code empty = λ a guard. whole_same m code a (near_out a (inr guard)) ∙ empty a guard
    whole_guards Padded m code any = tt

    -- ---- good states

    -- states of the image's own runs are good, if an entry is good, a turn from a good state is safe and
    -- leads to a good one, so does a reply whatever its memory, the instruction there fits into its unit, a step goes on after it or to
    -- a start, and the typed registers hold what their types say at an ecall
    module _ (zones : Zones) (may : MayBePadded zones p) (IsGood : State → Type 0)
        (enters : (s : State) → KeepsAllAs zones p s → IsUnitStart p s.hart.pc → IsTyped p s.hart.registers → IsGood s)
        (keeps : (s : State) (turn : Turn) → IsGood s → IsTurnAs (by_ecall zones) p s turn → IsSafeState p s × IsSafeTurnAs zones p s turn × IfSome (after_turn turn) IsGood)
        (replies : (s after : State) (n : ℕ) → IsGood s → Stands s Ecall n → after.hart.pc ≡ address_after s.hart.pc 4 → length after.hart.registers ≡ 32 → KeepsReserved p.format s.hart after.hart → IsTyped p after.hart.registers → KeepsBytesAs (by_ecall zones) p s.memory after.memory → IsGood after)
        (fits : (s : State) (i : Instr) (n : ℕ) → IsGood s → Stands s i n → s.hart.pc % unit p.format + n ≤ unit p.format)
        (goes : (s : State) (i : Instr) (n : ℕ) (r : Stepped) → IsGood s → Stands s i n → IsStep s r → r.outcome ≡ Next → (r.state.hart.pc ≡ address_after s.hart.pc n) ⊎ IsUnitStart p r.state.hart.pc)
        (typed : (s : State) (n : ℕ) → IsGood s → Stands s Ecall n → IsTyped p s.hart.registers) where
      abbrev t : Setting
      t = record { zones = zones; calls = Direct direct }

      -- with another memory, which has the image's bytes in the springboards, the state is good
      record IsHeld (s : State) : Type 0 where
        there : Bytes
        good : IsGood (record { hart = s.hart; memory = there })
        same : (a : ℕ) → (IsInBoard p direct a → ⊥) → byte_at there a ≡ byte_at s.memory a
        front : IsInBoard p direct s.hart.pc → IsDirect p direct s.hart.pc

      entry_held : (s : State) → IsEntryAs t p s → IsHeld s
      entry_held s entry = record {
        there = whole s.memory;
        good = enters (record { hart = s.hart; memory = whole s.memory })
            (record { count = entry.state.hart.count; reserved = entry.reserved; code = whole_code s.memory; guards = whole_guards zones s.memory entry.code entry.guards })
            entry.start entry.typed;
        same = whole_same s.memory entry.code;
        front = start_front s.hart.pc entry.start;
      }

      module _ (s : State) (held : IsHeld s) where
        -- the state of the image's own run
        abbrev own : State
        own = record { hart = s.hart; memory = held.there }

        own_safe : IsSafeState p own
        own_safe = (keeps own (Changes own) held.good (no_change zones p own)).0

        code_here : HasCodeAs (Direct direct) p s.memory
        code_here k below out = sym (held.same (p.code_base + k) out) ∙ own_safe.code k below

        -- ---- where no gate is

        module _ (away : IsDirect p direct s.hart.pc → ⊥) where
          abbrev i : Instr
          i = own_safe.present.instr

          abbrev n : ℕ
          n = own_safe.present.size

          fits_here : s.hart.pc % unit p.format + own_safe.present.size ≤ unit p.format
          fits_here = fits own i n held.good own_safe.present.stands

          ends_here : (k : ℕ) → k ≤ own_safe.present.size → s.hart.pc + k ≤ p.code_base + length p.code
          ends_here k few =
              let within : s.hart.pc % unit p.format + n ≤ unit p.format = fits_here in
              let whole = bundles_whole p right in
              let pc = own_safe.pc in
              unit_ends (unit p.format) s.hart.pc k p.code_base (length p.code) (unit_is p.format) whole.0 whole.1 pc.0 pc.1 (omega arith)

          address_is : (k : ℕ) → k < own_safe.present.size → address_after s.hart.pc k ≡ s.hart.pc + k
          address_is k below =
              let end : p.code_base + length p.code ≤ 2 ^ 32 = code_ends p right in
              let last : s.hart.pc + (k + 1) ≤ p.code_base + length p.code = ends_here (k + 1) (omega arith) in
              omega arith

          -- no byte of the instruction is in a springboard
          free : (k : ℕ) → k < own_safe.present.size → IsInBoard p direct (address_after s.hart.pc k) → ⊥
          free k below board =
              let e : address_after s.hart.pc k ≡ s.hart.pc + k = address_is k below in
              let within : s.hart.pc % unit p.format + n ≤ unit p.format = fits_here in
              let from : board.gate ≤ s.hart.pc + k = subst (λ (a : ℕ). board.gate ≤ a) e board.from in
              let under : s.hart.pc + k < board.gate + 4 = subst (λ (a : ℕ). a < board.gate + 4) e board.below in
              let low : board.gate ≤ s.hart.pc = same_unit (unit p.format) s.hart.pc k board.gate (unit_is p.format) (aligned board.gate board.made.0) (omega arith) from under in
              away (held.front (record { gate = board.gate; made = board.made; from = low; below = omega arith }))

          -- the step of the image's own run
          q : (r : Stepped) × IsStep own r
          q = some_step own

          kept : IsSafeState p own × IsSafeStepAs zones p own q.0 × IfSome (after_step q.0.outcome q.0.state) IsGood
          kept = keeps own (Steps q.0) held.good q.1

          agree : AgreeHere own s own_safe.present.instr own_safe.present.size
          agree = record {
            stands = own_safe.present.stands;
            hart = refl;
            instruction = λ k below. sym (held.same (address_after s.hart.pc k) (free k below));
            access = λ a has. sym (held.same a (near_out a (kept.1.within i n own_safe.present.stands a has)));
          }

          stands_here : Stands s own_safe.present.instr own_safe.present.size
          stands_here = agreeing_stands_too own s i n agree

          only : (j : Instr) (k : ℕ) → Stands s j k → (j ≡ own_safe.present.instr) × (k ≡ own_safe.present.size)
          only j k stands = one_instruction s j i k n stands stands_here

          instruction_here : (j : Instr) (m : ℕ) → Stands s j m → (k : ℕ) → k < m → InCode p (address_after s.hart.pc k) × (IsInBoard p direct (address_after s.hart.pc k) → ⊥)
          instruction_here j m stands k below =
              let few : k < n = subst (λ (x : ℕ). k < x) (only j m stands).1 below in
              (own_safe.instruction i n own_safe.present.stands k few, free k few)

          -- what comes after it is in no springboard but at its first address, if it is a start or directly after it
          front_after : (pc : ℕ) → (pc ≡ address_after s.hart.pc own_safe.present.size) ⊎ IsUnitStart p pc → IsInBoard p direct pc → IsDirect p direct pc
          front_after pc (inr start) board = start_front pc start board
          front_after pc (inl on) board =
              let from : board.gate ≤ pc = board.from in
              ⊎_elim
              (λ (past : board.gate < pc).
              let end : p.code_base + length p.code ≤ 2 ^ 32 = code_ends p right in
              let last : s.hart.pc + n ≤ p.code_base + length p.code = ends_here n (omega arith) in
              let on' : pc ≡ address_after s.hart.pc n = on in
              let sum : pc ≡ s.hart.pc + n = omega arith in
              let under : s.hart.pc + n < board.gate + 4 = subst (λ (a : ℕ). a < board.gate + 4) sum board.below in
              let low : board.gate ≤ s.hart.pc = next_unit (unit p.format) s.hart.pc n board.gate (unit_is p.format) (aligned board.gate board.made.0) fits_here (omega arith) under in
              absurd (away (held.front (record { gate = board.gate; made = board.made; from = low; below = omega arith }))))
              (λ (up : pc ≤ board.gate). let same : board.gate ≡ pc = omega arith in subst (λ (x : ℕ). IsDirect p direct x) same board.made)
              (cases_lt board.gate pc)

          -- ---- a step

          module _ (r : Stepped) (step : IsStep s r) where
            same_step : IsSameStep own s q.0 r
            same_step = agreeing_steps_are_same own s i n q.0 r agree q.1 step

            near : (a : ℕ) → Accesses own_safe.present.instr s.hart a → InData p a ⊎ InGuard p a
            near a has = kept.1.within i n own_safe.present.stands a has

            trapped : (z : Zones) → TrapsIn z p own q.0 → TrapsIn z p s r
            trapped Empty traps = λ j k stands a has guard.
                subst (λ (o : Outcome). IsTrap o) (sym same_step.outcome)
                (traps i n own_safe.present.stands a (subst (λ (x : Instr). Accesses x s.hart a) (only j k stands).0 has) guard)
            trapped Padded any = tt

            stays : (z : Zones) → MayBePadded z p → TrapsIn z p own q.0 → StaysOutside (writable_region z p) s.memory r.state.memory
            stays Empty none traps = data_alone p s i n r stands_here step near (λ a has guard. subst (λ (o : Outcome). IsTrap o) (sym same_step.outcome) (traps i n own_safe.present.stands a has guard))
            stays Padded two_steps any = λ a out. other_bytes_stay s i n r a stands_here step (λ has. out (guarded p a two_steps right (near a has)))

            step_safe : IsSafeStepAs zones p s r
            step_safe = record {
              within = λ j k stands a has. near a (subst (λ (x : Instr). Accesses x s.hart a) (only j k stands).0 has);
              trapped = trapped zones kept.1.trapped;
              stays = stays zones may kept.1.trapped;
              called = λ e. kept.1.called (sym same_step.outcome ∙ e);
            }

            -- where it is done
            module _ (done : r.outcome ≡ Next) where
              own_done : q.0.outcome ≡ Next
              own_done = sym same_step.outcome ∙ done

              own_good : IsGood q.0.state
              own_good = subst (λ (o : Outcome). IfSome (after_step o q.0.state) IsGood) own_done kept.2

              step_held : IsHeld r.state
              step_held = record {
                there = q.0.state.memory;
                good = subst (λ (h : Hart). IsGood (record { hart = h; memory = q.0.state.memory })) (sym same_step.hart) own_good;
                same = λ a out. sym (same_step.bytes a (sym (held.same a out)));
                front = subst (λ (h : Hart). IsInBoard p direct h.pc → IsDirect p direct h.pc) (sym same_step.hart) (front_after q.0.state.hart.pc (goes own i n q.0 held.good own_safe.present.stands q.1 own_done));
              }

            by_outcome : (o : Outcome) → r.outcome ≡ o → IfSome (after_step o r.state) (λ x. IsHeld x)
            by_outcome Next e = step_held e
            by_outcome Call e = subst (λ (x : State). IsHeld x) (sym (stopped_stays s r step (λ done. let clash : Next ≡ Call = sym done ∙ e in cc))) held
            by_outcome (Trap cause at) e = tt

            after_held : IfSome (after_step r.outcome r.state) (λ x. IsHeld x)
            after_held = by_outcome r.outcome refl

        -- ---- the state

        state_safe : IsSafeStateAs (Direct direct) p s
        state_safe = record {
          code = code_here;
          pc = (own_safe.pc, held.front);
          present = λ away. record { instr = own_safe.present.instr; size = own_safe.present.size; stands = stands_here away };
          instruction = instruction_here;
        }

        -- ---- what is not a step

        module _ (after : Bytes) (keep : KeepsBytesAs t p s.memory after) where
          code_after : HasCodeAs (Direct direct) p after
          code_after k below out = keep.code (p.code_base + k) ((omega arith, omega (arith, below)), out) ∙ code_here k below out

          own_guards : (z : Zones) → KeepsGuards z p s.memory after → KeepsGuards z p held.there (whole after)
          own_guards Empty keeps_none = λ a guard none.
              whole_same after code_after a (near_out a (inr guard))
              ∙ keeps_none a guard (sym (held.same a (near_out a (inr guard))) ∙ none)
          own_guards Padded any = tt

          own_keeps : KeepsBytesAs (by_ecall zones) p held.there (whole after)
          own_keeps = record { code = in_it; guards = own_guards zones keep.guards }
            where
              in_it : (a : ℕ) → InCode p a → byte_at (whole after) a ≡ byte_at held.there a
              in_it a (from, below) = at_offset (a - p.code_base) (omega arith) (omega arith)
                where
                  at_offset : (k : ℕ) → a ≡ p.code_base + k → k < length p.code → byte_at (whole after) a ≡ byte_at held.there a
                  at_offset k e less = ap (byte_at (whole after)) e ∙ whole_code after k less ∙ sym (own_safe.code k less) ∙ ap (byte_at held.there) (sym e)

        change_held : (after : State) → IsChangeAs t p s after → IsHeld after
        change_held after c = record {
          there = whole after.memory;
          good = (keeps own (Changes (record { hart = after.hart; memory = whole after.memory })) held.good (record { pc = c.pc; registers = c.registers; bytes = own_keeps after.memory c.bytes })).2;
          same = whole_same after.memory (code_after after.memory c.bytes);
          front = subst (λ (pc : ℕ). IsInBoard p direct pc → IsDirect p direct pc) (sym c.pc) held.front;
        }

        -- an ecall that the image has at pc stands there in its own run
        module _ (e : HasEcall p s.hart.pc) where
          own_ecall : Stands own Ecall 4
          own_ecall = stands_there p right s.hart e.offset 4 e.address e.within held.there Ecall own_safe.code e.spelled

          own_gate : IsGate p s.hart.pc
          own_gate = (keeps own (Steps (unchanged Call s.hart held.there)) held.good (record { front = Read Ecall 4; at_pc = own_ecall; result = refl })).1.called refl

          -- what is after it is in no springboard but at its first address
          front_replied : (pc : ℕ) → pc ≡ address_after s.hart.pc 4 → IsInBoard p direct pc → IsDirect p direct pc
          front_replied pc on board =
              let from : board.gate ≤ pc = board.from in
              ⊎_elim
              (λ (past : board.gate < pc).
              let end : p.code_base + length p.code ≤ 2 ^ 32 = code_ends p right in
              let at : s.hart.pc ≡ p.code_base + e.offset = e.address in
              let inside : e.offset + 4 ≤ length p.code = e.within in
              let on' : pc ≡ address_after s.hart.pc 4 = on in
              let sum : pc ≡ s.hart.pc + 4 = omega arith in
              let under : s.hart.pc + 4 < board.gate + 4 = subst (λ (a : ℕ). a < board.gate + 4) sum board.below in
              let low : board.gate ≤ s.hart.pc = next_unit (unit p.format) s.hart.pc 4 board.gate (unit_is p.format) (aligned board.gate board.made.0) (fits own Ecall 4 held.good own_ecall) (omega arith) under in
              absurd (omega arith))
              (λ (up : pc ≤ board.gate). let same : board.gate ≡ pc = omega arith in subst (λ (x : ℕ). IsDirect p direct x) same board.made)
              (cases_lt board.gate pc)

        reply_held : (after : State) → IsReplyAs t p s after → IsHeld after
        reply_held after r = record {
          there = whole after.memory;
          good = replies own (record { hart = after.hart; memory = whole after.memory }) 4 held.good (own_ecall r.asked.0) r.pc r.state.hart.count r.reserved r.typed (own_keeps after.memory r.bytes);
          same = whole_same after.memory (code_after after.memory r.bytes);
          front = front_replied r.asked.0 after.hart.pc r.pc;
        }

        turn_held : (turn : Turn) → IsTurnAs t p s turn → IfSome (after_turn turn) (λ x. IsHeld x)
        turn_held (Steps r) h = after_held h.0 r h.1
        turn_held (Replies after) h = reply_held after h
        turn_held (Changes after) h = change_held after h

        turn_safe : (turn : Turn) → IsTurnAs t p s turn → IsSafeTurnAs zones p s turn
        turn_safe (Steps r) h = step_safe h.0 r h.1
        turn_safe (Replies after) h = own_gate h.asked.0
        turn_safe (Changes after) h = tt

      run_safe : (turns : List Turn) (o : Option State) → IfSome o (λ x. IsHeld x) → IsRunAs t p o turns → IsSafeRunAs t p o turns
      run_safe [] None held run = tt
      run_safe [] (Some s) held run = state_safe s held
      run_safe (turn ∷ turns) None held run = tt
      run_safe (turn ∷ turns) (Some s) held run = (
        state_safe s held,
        turn_safe s held turn run.0,
        run_safe turns (after_turn turn) (turn_held s held turn run.0) run.1,
      )

      -- ---- calls

      run_held : (turns : List Turn) (o : Option State) → IfSome o (λ x. IsHeld x) → IsRunAs t p o turns → IfSome (after_turns o turns) (λ x. IsHeld x)
      run_held [] o held run = held
      run_held (turn ∷ turns) None held run = tt
      run_held (turn ∷ turns) (Some s) held run = run_held turns (after_turn turn) (turn_held s held turn run.0) run.1

      call_typed : (s : State) (n : ℕ) → IsHeld s → IsCalling (Direct direct) p s n → IsTyped p s.hart.registers
      call_typed s n held (inl (asked, four)) = typed (own s held) 4 held.good (own_ecall s held asked)
      call_typed s n held (inr (stands, away)) =
          let here = (own_safe s held).present in
          typed (own s held) here.size held.good (subst (λ (x : Instr). Stands (own s held) x here.size) (sym (only s held away Ecall n stands).0) here.stands)

      pub runs_and_calls : RunsSafelyAs t p × CallsTypedAs t p
      runs_and_calls = (
        record { from = λ s entry. record { safe = λ turns run. run_safe turns (Some s) (entry_held s entry) run } },
        record {
          from = λ s entry. record {
            typed = λ turns at n run after calls.
                call_typed at n (subst (λ (o : Option State). IfSome o (λ x. IsHeld x)) after (run_held turns (Some s) (entry_held s entry) run)) calls;
          };
        },
      )
