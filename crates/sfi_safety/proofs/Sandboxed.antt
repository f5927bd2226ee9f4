-- The accepted samples: no rule is broken in them, and each stores a byte.
use Rattle.sfi_safety.specs.Samples.{Sample, sandboxed_store}
use Rattle.std.specs.FinMap.{insert}
use Rattle.rv_step.specs.declared.outcome.Cause.TheVariants as cause
use Rattle.sfi_image.specs.Spelling as image
use Rattle.sfi_safe_runs.proofs.Entries.{inserted_here, inserted_elsewhere}
use Rattle.rv_comp.proofs.Facts.{word_spells}
use Rattle.sfi_safety.proofs.Readings.{IsSpelled, op_spelled, store_spelled, ebreak_spelled, code_findings}
use Rattle.sfi_safety.proofs.Samples.{IsSample, without_gates, size, right_layout, hart, first, enters, step_at}
use Rattle.sfi_safety.specs.WordSamples.{in_words, stored_in_words}
use Rattle.sfi_safety.proofs.Needed.{nop_spelled}
use Rattle.sfi_safety.proofs.WordSamples.{typed_hart, at_word, enters_word, code_found}
use Rattle.sfi_safety.proofs.Prelude.{◌≡◌, ◌≢◌, ℕ, ◌+◌, [], ◌∷◌, cond, Some, None, refl, ap, ◌∙◌, inl, inr, arith, pos, is_some, ints, And, Or, Sb, Op, Store, Jal, Ebreak, minus, InRange, Sfi1, Bytes, byte_at, in_front, stored, Trap, past, Stepped, effect, next, unchanged, Part, AreFindings, InGuard, HasCode, KeepsBytes, StoresByte, IsAcceptedAndRuns, IsAccepted, Nothing, sandbox, subst, false≢true, true, has_words, Format, Sfi2, Sfiw, Sfis, Instr, State, IsStep, nop}

-- ==== The accepted sample: no rule is broken in it, and it stores a byte.

-- ---- the sample

abbrev pub p : Part
p = sandbox sandboxed_store

is_sample : IsSample sandboxed_store
is_sample = without_gates sandboxed_store refl refl refl

pub jump_there : IsSpelled (Jal 0 (minus 12))
unfolding InRange
jump_there = word_spells (Jal 0 (minus 12)) (omega arith, ((omega (arith, ints), omega (arith, ints)), refl))

no_finding : AreFindings 0 p []
no_finding =
    code_findings Sfi1 (Op And 31 10 27) (Op Or 31 31 26) (Store Sb 31 10 (pos 0)) (Jal 0 (minus 12)) Ebreak Ebreak Ebreak Ebreak [] []
    (op_spelled And 31 10 27 refl) (op_spelled Or 31 31 26 refl) (store_spelled Sb 31 10 refl) jump_there ebreak_spelled ebreak_spelled ebreak_spelled ebreak_spelled refl refl

-- ---- the image

pub accepted : IsAccepted (image.spelling (p ∷ [])) (p ∷ [])
accepted = record {
  image = record { bytes_are = refl; layout = right_layout sandboxed_store is_sample };
  none_found = ([], [], no_finding, refl, refl);
}

-- ---- the run

module _ (s : Sample) (is : IsSample s) (m : Bytes) (code : HasCode (sandbox s) m) (guards : (a : ℕ) → InGuard (sandbox s) a → byte_at m a ≡ None) where
  -- others put a 0 at the address that is stored to
  pub changed : Bytes
  changed = insert m 0x020000f0 0

  in_data : (a : ℕ) → a ≢ 0x020000f0 → byte_at changed a ≡ byte_at m a
  unfolding changed
  in_data a ne = inserted_elsewhere m 0x020000f0 0 a ne

  pub there : byte_at changed 0x020000f0 ≡ Some 0
  unfolding changed
  there = inserted_here m 0x020000f0 0 0x020000f0 refl

  pub keeps : KeepsBytes (sandbox s) m changed
  keeps =
      let size = size s is in
      record {
        code = λ a inside. in_data a (λ same. let below = inside.1 in omega arith);
        guards = λ a guard none. in_data a (λ same. not_guard a guard same) ∙ none;
      }
    where
      not_guard : (a : ℕ) → InGuard (sandbox s) a → a ≡ 0x020000f0 → ⊥
      not_guard a (inl (inl (from, below))) same = omega arith
      not_guard a (inl (inr (from, below))) same = omega arith
      not_guard a (inr (one_step, inl low)) same = omega arith
      not_guard a (inr (one_step, inr (high, word))) same = omega arith

  pub changed_code : HasCode (sandbox s) changed
  changed_code k below = let size = size s is in in_data (0x01000000 + k) (λ same. omega arith) ∙ code k below

  pub store_is : byte_at (stored changed 0x020000f0 1 240) 0x020000f0 ≡ Some 240
  store_is = inserted_here changed 0x020000f0 240 0x020000f0 refl

-- where a byte is there, the store is done
store_done : (w : Bytes) → byte_at w 0x020000f0 ≡ Some 0 → effect (Store Sb 31 10 (pos 0)) 4 (hart 0x01000008 0x02000000 0x020000f0) w ≡ next (past (hart 0x01000008 0x02000000 0x020000f0) 4) (stored w 0x020000f0 1 240)
store_done w there = ap (λ o. cond (is_some (in_front o (Some []))) (next (past (hart 0x01000008 0x02000000 0x020000f0) 4) (stored w 0x020000f0 1 240)) (unchanged (Trap cause.Store 0x020000f0) (hart 0x01000008 0x02000000 0x020000f0) w)) there

stores : StoresByte p
stores =
    let e = enters sandboxed_store is_sample refl 0 (omega arith) in
    let w = changed sandboxed_store is_sample e.0 e.1.code e.1.guards in
    let step = step_at sandboxed_store is_sample w (changed_code sandboxed_store is_sample e.0 e.1.code e.1.guards) in
    let before = there sandboxed_store is_sample e.0 e.1.code e.1.guards in
    let done = store_done w before in
    record {
      entry = first 0x01000000 e.0;
      is_entry = e.1;
      changed = first 0x01000000 w;
      masked = effect (Op And 31 10 27) 4 (hart 0x01000000 0x02000000 0) w;
      placed = effect (Op Or 31 31 26) 4 (hart 0x01000004 0x02000000 240) w;
      stored = effect (Store Sb 31 10 (pos 0)) 4 (hart 0x01000008 0x02000000 0x020000f0) w;
      run = (
        record { pc = refl; registers = refl; bytes = keeps sandboxed_store is_sample e.0 e.1.code e.1.guards },
        (
          step (hart 0x01000000 0x02000000 0) 0 4 (Op And 31 10 27) refl (omega arith) (op_spelled And 31 10 27 refl),
          (
            step (hart 0x01000004 0x02000000 240) 4 4 (Op Or 31 31 26) refl (omega arith) (op_spelled Or 31 31 26 refl),
            (step (hart 0x01000008 0x02000000 0x020000f0) 8 4 (Store Sb 31 10 (pos 0)) refl (omega arith) (store_spelled Sb 31 10 refl), tt),
          ),
        ),
      );
      done = ap (λ (r : Stepped). r.outcome) done;
      address = 0x020000f0;
      inside = (omega arith, omega arith);
      before = before;
      after = ap (λ (r : Stepped). byte_at r.state.memory 0x020000f0) done ∙ store_is sandboxed_store is_sample e.0 e.1.code e.1.guards;
    }

pub accepted_and_runs : IsAcceptedAndRuns p
accepted_and_runs = record { bytes = image.spelling (p ∷ []); accepted = accepted; stores = stores }

-- ==== The accepted sample in words: no rule is broken in it, and it stores a byte.

-- where a byte is there, the store is done
word_store_done : (f : Format) (x31 : ℕ) (w : Bytes) → byte_at w 0x020000f0 ≡ Some 0 → effect (Store Sb 2 10 (pos 0)) 4 (typed_hart f 0x01000008 0x020000f0 0x01000000 0x010000fc x31) w
    ≡ next (past (typed_hart f 0x01000008 0x020000f0 0x01000000 0x010000fc x31) 4) (stored w 0x020000f0 1 240)
word_store_done f x31 w there =
    let h = typed_hart f 0x01000008 0x020000f0 0x01000000 0x010000fc x31 in
    ap (λ o. cond (is_some (in_front o (Some []))) (next (past h 4) (stored w 0x020000f0 1 240)) (unchanged (Trap cause.Store 0x020000f0) h w)) there

-- where two instructions leave the address of that byte in x2, the first with this in x2 and x31
module _ (f : Format) (has : has_words f ≡ true) (a b : Instr) (sa : IsSpelled a) (sb : IsSpelled b) (x2 x31 : ℕ)
    (masked : (m : Bytes) → effect a 4 (at_word f 0x01000000) m ≡ next (typed_hart f 0x01000004 x2 0x01000000 0x010000fc x31) m)
    (placed : (m : Bytes) → effect b 4 (typed_hart f 0x01000004 x2 0x01000000 0x010000fc x31) m ≡ next (typed_hart f 0x01000008 0x020000f0 0x01000000 0x010000fc x31) m) where
  abbrev sample : Sample
  sample = in_words f (a ∷ b ∷ Store Sb 2 10 (pos 0) ∷ Jal 0 (minus 12) ∷ [])

  is_word_sample : IsSample sample
  is_word_sample = without_gates sample refl refl refl

  words_store : StoresByte (sandbox sample)
  words_store =
      let e = enters_word sample is_word_sample has 0 (omega arith) in
      let w = changed sample is_word_sample e.0 e.1.code e.1.guards in
      let step = step_at sample is_word_sample w (changed_code sample is_word_sample e.0 e.1.code e.1.guards) in
      let before = there sample is_word_sample e.0 e.1.code e.1.guards in
      let done = word_store_done f x31 w before in
      let h1 = typed_hart f 0x01000004 x2 0x01000000 0x010000fc x31 in
      let h2 = typed_hart f 0x01000008 0x020000f0 0x01000000 0x010000fc x31 in
      let s0 : State = record { hart = at_word f 0x01000000; memory = w } in
      let s1 : State = record { hart = h1; memory = w } in
      record {
        entry = record { hart = at_word f 0x01000000; memory = e.0 };
        is_entry = e.1;
        changed = s0;
        masked = next h1 w;
        placed = next h2 w;
        stored = effect (Store Sb 2 10 (pos 0)) 4 h2 w;
        run = (
          record { pc = refl; registers = refl; bytes = keeps sample is_word_sample e.0 e.1.code e.1.guards },
          (
            subst (λ (r : Stepped). IsStep s0 r) (masked w) (step (at_word f 0x01000000) 0 4 a refl (omega arith) sa),
            (
              subst (λ (r : Stepped). IsStep s1 r) (placed w) (step h1 4 4 b refl (omega arith) sb),
              (step h2 8 4 (Store Sb 2 10 (pos 0)) refl (omega arith) (store_spelled Sb 2 10 refl), tt),
            ),
          ),
        );
        done = ap (λ (r : Stepped). r.outcome) done;
        address = 0x020000f0;
        inside = (omega arith, omega arith);
        before = before;
        after = ap (λ (r : Stepped). byte_at r.state.memory 0x020000f0) done ∙ store_is sample is_word_sample e.0 e.1.code e.1.guards;
      }

  words_run : AreFindings 0 (sandbox sample) [] → IsAcceptedAndRuns (sandbox sample)
  words_run none = record {
    bytes = image.spelling (sandbox sample ∷ []);
    accepted = record {
      image = record { bytes_are = refl; layout = right_layout sample is_word_sample };
      none_found = ([], [], none, refl, refl);
    };
    stores = words_store;
  }

pub accepted_words_run : (f : Format) → has_words f ≡ true → IsAcceptedAndRuns (sandbox (stored_in_words f))
accepted_words_run Sfi1 has = absurd (false≢true has)
accepted_words_run Sfi2 has = absurd (false≢true has)
accepted_words_run Sfiw has =
    let a = Op And 31 10 27 in
    let b = Op Or 2 31 26 in
    words_run Sfiw refl a b (op_spelled And 31 10 27 refl) (op_spelled Or 2 31 26 refl) 0x02000000 240 (λ m. refl) (λ m. refl)
    (code_found Sfiw a b (Store Sb 2 10 (pos 0)) (Jal 0 (minus 12)) (op_spelled And 31 10 27 refl) (op_spelled Or 2 31 26 refl) (store_spelled Sb 2 10 refl) jump_there Nothing Nothing Nothing [] [] [] []
    refl refl refl refl refl refl refl refl)
accepted_words_run Sfis has =
    let a = Op And 2 10 27 in
    words_run Sfis refl a nop (op_spelled And 2 10 27 refl) nop_spelled 0x020000f0 0 (λ m. refl) (λ m. refl)
    (code_found Sfis a nop (Store Sb 2 10 (pos 0)) (Jal 0 (minus 12)) (op_spelled And 2 10 27 refl) nop_spelled (store_spelled Sb 2 10 refl) jump_there Nothing Nothing Nothing [] [] [] []
    refl refl refl refl refl refl refl refl)
