-- That some rules are stricter than safety asks: code that stops at each bundle start is safe, whatever stands after that.
use Rattle.sfi_safety.proofs.Prelude.{false, has_words, ◌≡◌, ℕ, zero, suc, ◌+◌, ◌-◌, ◌*◌, ◌/◌, ◌<◌, List, [], ◌∷◌, take, drop, Some, refl, sym, ap, ◌∙◌, subst, arith, Instr, Ecall, Ebreak, spelling, Spells, Sfi1, Accesses, State, Stepped, Stands, IsStep, effect, Call, Trap, Finding, bundle_place, bundle_bytes, HasCode, Turn, Steps, Replies, Changes, IsRun, IsEntry, after_step, IsSafeState, IsSafeStep, IsSafeRun, RunsSafely, IsStricter, ⊎_elim, cases_lt, ◌≤◌, V1, V2, V3, V8}
use Rattle.sfi_safety.specs.Samples.{Sample, sandbox, nop, undecodable_after_ebreak, crossing_after_ebreak, ecall_after_ebreak, nops_after_ebreak}
use Rattle.rv_step.specs.declared.outcome.Cause.TheVariants as cause
use Rattle.sfi_safety.proofs.Readings.{ebreak_spelled, read_bundle, four_words, code_findings, all_findings, quiet, none_listed, wide, ecall_spelled, ones_begin_nothing}
use Rattle.sfi_safety.proofs.Samples.{IsSample, without_gates, size, refused, stands}
use Rattle.sfi_safety.proofs.Needed.{nop_spelled, short_nop, half_begins_nothing}
use Rattle.rv_step.proofs.Facts.{one_instruction, step_is_effect, other_bytes_stay}
use Rattle.sfi_safe_runs.proofs.Entries.{to_bundle}

-- an ebreak stands at that offset of the code
abbrev StopsAt : Sample → ℕ → Type 0
StopsAt s n = Spells (take 4 (drop (16 * n) (sandbox s).code)) Ebreak 4

module _ (s : Sample) (is : IsSample s) (bundles : has_words s.format ≡ false) (stops : (n : ℕ) → n < 16 → StopsAt s n) where
  -- the sandbox stands at the start of a bundle, with the code as it was
  record IsStopped (t : State) : Type 0 where
    code : HasCode (sandbox s) t.memory
    number : ℕ
    few : number < 16
    pc : t.hart.pc ≡ 0x01000000 + 16 * number

  ebreak_here : (t : State) → IsStopped t → Stands t Ebreak 4
  ebreak_here t h = let few = h.few in stands s is t.memory h.code t.hart (16 * h.number) 4 Ebreak h.pc (omega (arith, few)) (stops h.number h.few)

  only : (t : State) (i : Instr) (n : ℕ) → IsStopped t → Stands t i n → (i ≡ Ebreak) × (n ≡ 4)
  only t i n h there = one_instruction t i Ebreak n 4 there (ebreak_here t h)

  state_safe : (t : State) → IsStopped t → IsSafeState (sandbox s) t
  state_safe t h =
      let size = size s is in
      let few = h.few in
      let pc = h.pc in
      record {
        code = h.code;
        present = record { instr = Ebreak; size = 4; stands = ebreak_here t h };
        pc = (omega (arith, pc), omega (arith, pc, few, size));
        instruction = λ i n there k below. let four = (only t i n h there).1 in (omega (arith, pc, few, four, below), omega (arith, pc, few, size, four, below));
      }

  no_access : (t : State) (i : Instr) (n a : ℕ) → IsStopped t → Stands t i n → Accesses i t.hart a → ⊥
  no_access t i n a h there has =
      let none : Accesses Ebreak t.hart a = subst (λ (j : Instr). Accesses j t.hart a) (only t i n h there).0 has in
      let below = none.1 in
      omega (arith, below)

  step_stops : (t : State) (r : Stepped) → IsStopped t → IsStep t r → r ≡ effect Ebreak 4 t.hart t.memory
  step_stops t r h step = step_is_effect t Ebreak 4 r (ebreak_here t h) step

  step_safe : (t : State) (r : Stepped) → IsStopped t → IsStep t r → IsSafeStep (sandbox s) t r
  step_safe t r h step = record {
    within = λ i n there a has. absurd (no_access t i n a h there has);
    trapped = λ i n there a has guard. absurd (no_access t i n a h there has);
    stays = λ a out. other_bytes_stay t Ebreak 4 r a (ebreak_here t h) step (λ has. no_access t Ebreak 4 a h (ebreak_here t h) has);
    called = λ call. absurd (let same : Trap cause.Break t.hart.pc ≡ Call = sym (ap (λ (q : Stepped). q.outcome) (step_stops t r h step)) ∙ call in cc);
  }

  run_safe : (t : State) (turns : List Turn) → IsStopped t → IsRun (sandbox s) (Some t) turns → IsSafeRun (sandbox s) (Some t) turns
  run_safe t [] h run = state_safe t h
  run_safe t (Steps r ∷ turns) h (step, rest) =
      (state_safe t h, step_safe t r h step, subst (λ (q : Stepped). IsSafeRun (sandbox s) (after_step q.outcome q.state) turns) (sym (step_stops t r h step)) tt)
  run_safe t (Replies after ∷ turns) h (reply, rest) = absurd (let e : Ecall ≡ Ebreak = (only t Ecall reply.size h reply.asked).0 in cc)
  run_safe t (Changes after ∷ turns) h (change, rest) = (state_safe t h, tt, run_safe after turns goes rest)
    where
      goes : IsStopped after
      goes =
          let size = size s is in
          record {
            code = λ k below. change.bytes.code (0x01000000 + k) (omega arith, omega (arith, below)) ∙ h.code k below;
            number = h.number;
            few = h.few;
            pc = change.pc ∙ h.pc;
          }

  at_entry : (t : State) → IsEntry (sandbox s) t → IsStopped t
  at_entry t entry =
      let size = size s is in
      let from = entry.start.held.0 in
      let below = entry.start.held.1 in
      let aligned = (to_bundle (sandbox s) t.hart.pc bundles entry.start).aligned in
      record {
        code = entry.code;
        number = (t.hart.pc - 0x01000000) / 16;
        few = omega (arith, size, from, below);
        pc = omega (arith, from, aligned);
      }

  pub stopping_is_safe : RunsSafely (sandbox s)
  stopping_is_safe = record { from = λ t entry. record { safe = λ turns run. run_safe t turns (at_entry t entry) run } }

-- ---- samples that stop

-- of each number below n
AllBelow : (ℕ → Type 0) → ℕ → Type 0
AllBelow P zero = Unit {0}
AllBelow P (suc n) = AllBelow P n × P n

one_below : (P : ℕ → Type 0) (n k : ℕ) → AllBelow P n → k < n → P k
unfolding AllBelow
one_below P zero k all below = absurd (omega arith)
one_below P (suc n) k all below = ⊎_elim (λ (less : k < n). one_below P n k all.0 less) (λ (more : n ≤ k). let e : n ≡ k = omega arith in subst P e all.1) (cases_lt k n)

abbrev brk : ℕ
brk = spelling Ebreak

module _ (b c d f g h j k l : ℕ) where
  abbrev stopping : Sample
  stopping = record { format = Sfi1; gates = []; first_words = brk ∷ b ∷ c ∷ d ∷ brk ∷ f ∷ g ∷ h ∷ []; last_words = brk ∷ j ∷ k ∷ l ∷ [] }

  stops : (n : ℕ) → n < 16 → StopsAt stopping n
  unfolding AllBelow
  stops n below = let e = ebreak_spelled in one_below (StopsAt stopping) 16 n ((((((((((((((((tt, e), e), e), e), e), e), e), e), e), e), e), e), e), e), e), e) below

pub undecodable_stricter : IsStricter V1 0x01000004 (sandbox undecodable_after_ebreak)
undecodable_stricter =
    let s = undecodable_after_ebreak in
    let is : IsSample s = without_gates s refl refl refl in
    let x : Finding = record { sandbox = 0; address = 0x01000004; rule = V1 } in
    let bytes = bundle_bytes (sandbox s) 0 in
    record {
      refused = refused s is x
          (all_findings Sfi1 [] brk 0xffffffff brk brk brk brk brk brk brk brk brk brk none_listed (x ∷ []) [] []
          (read_bundle (bundle_place 0 (sandbox s) 0) bytes (wide Ebreak ∷ []) (drop 4 bytes) (x ∷ []) refl (ebreak_spelled, tt) refl (ones_begin_nothing (drop 8 bytes)) refl)
          (quiet Sfi1 [] brk 0xffffffff brk brk brk brk brk brk brk brk brk brk none_listed 0 refl refl refl refl)
          (quiet Sfi1 [] brk 0xffffffff brk brk brk brk brk brk brk brk brk brk none_listed 14 refl refl refl refl));
      safe = stopping_is_safe s is refl (stops 0xffffffff brk brk brk brk brk brk brk brk);
    }

pub crossing_stricter : IsStricter V2 0x0100000e (sandbox crossing_after_ebreak)
crossing_stricter =
    let s = crossing_after_ebreak in
    let is : IsSample s = without_gates s refl refl refl in
    let x : Finding = record { sandbox = 0; address = 0x0100000e; rule = V2 } in
    let n = spelling nop in
    record {
      refused = refused s is x
          (all_findings Sfi1 [] brk n n 0x20230001 brk brk brk brk brk brk brk brk none_listed (x ∷ []) [] []
          (read_bundle (bundle_place 0 (sandbox s) 0) (bundle_bytes (sandbox s) 0) (wide Ebreak ∷ wide nop ∷ wide nop ∷ record { instr = nop; size = 2 } ∷ []) (0x23 ∷ 0x20 ∷ []) (x ∷ []) refl
          (ebreak_spelled, (nop_spelled, (nop_spelled, (short_nop, tt)))) refl (half_begins_nothing) refl)
          (quiet Sfi1 [] brk n n 0x20230001 brk brk brk brk brk brk brk brk none_listed 0 refl refl refl refl)
          (quiet Sfi1 [] brk n n 0x20230001 brk brk brk brk brk brk brk brk none_listed 14 refl refl refl refl));
      safe = stopping_is_safe s is refl (stops n n 0x20230001 brk brk brk brk brk brk);
    }

pub ecall_stricter : IsStricter V3 0x01000004 (sandbox ecall_after_ebreak)
ecall_stricter =
    let s = ecall_after_ebreak in
    let is : IsSample s = without_gates s refl refl refl in
    let x : Finding = record { sandbox = 0; address = 0x01000004; rule = V3 } in
    record {
      refused = refused s is x
          (code_findings Sfi1 Ebreak Ecall Ebreak Ebreak Ebreak Ebreak Ebreak Ebreak (x ∷ []) [] ebreak_spelled ecall_spelled ebreak_spelled ebreak_spelled ebreak_spelled ebreak_spelled ebreak_spelled ebreak_spelled refl refl);
      safe = stopping_is_safe s is refl (stops (spelling Ecall) brk brk brk brk brk brk brk brk);
    }

pub nops_stricter : IsStricter V8 0x010000fc (sandbox nops_after_ebreak)
nops_stricter =
    let s = nops_after_ebreak in
    let is : IsSample s = without_gates s refl refl refl in
    let x : Finding = record { sandbox = 0; address = 0x010000fc; rule = V8 } in
    let n = spelling nop in
    record {
      refused = refused s is x
          (all_findings Sfi1 [] brk brk brk brk brk brk brk brk brk n n n none_listed [] [] (x ∷ [])
          (four_words (bundle_place 0 (sandbox s) 0) (bundle_bytes (sandbox s) 0) Ebreak Ebreak Ebreak Ebreak [] refl refl ebreak_spelled ebreak_spelled ebreak_spelled ebreak_spelled refl)
          (quiet Sfi1 [] brk brk brk brk brk brk brk brk brk n n n none_listed 0 refl refl refl refl)
          (four_words (bundle_place 0 (sandbox s) 15) (bundle_bytes (sandbox s) 15) Ebreak nop nop nop (x ∷ []) refl refl ebreak_spelled nop_spelled nop_spelled nop_spelled refl));
      safe = stopping_is_safe s is refl (stops brk brk brk brk brk brk n n n);
    }
