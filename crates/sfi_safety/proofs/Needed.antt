-- The rules that the samples break are needed, and so is each.
use Rattle.sfi_safety.proofs.Prelude.{◌≡◌, ◌≢◌, ℕ, zero, suc, ◌+◌, ◌*◌, ◌<◌, ◌≤◌, ◌==◌, ◌||◌, List, [], ◌∷◌, length, take, drop, Some, false, refl, sym, ap, ◌∙◌, subst, inl, inr, arith, get_or-take, pos, slice_index, All, ints, Instr, And, Or, Sw, Op, Store, Jalr, Ecall, Ebreak, spelling, InRange, Spells, Bytes, Stands, unchanged, Call, is_gate_of, IsBundleStart, AreGateWords, bundle_place, bundle_bytes, HasCode, Steps, Replies, IsReply, IsEntry, IsNeeded, HasUnsafeRun, Hart, Finding, Format, has_words, CAddi, Sample, sandbox, nop, undecodable, crossing_store, running_off_the_end, gate_comes_back_elsewhere, V1, V2, V8, V9, add-zero, OpImm, Jal, minus, Sfi1, Sfi2, Piece, IsGate, BreaksAloneInBundle, EachRuleIsNeeded, Sfiw, Sfis, false≢true, Addi, BreaksAlone, Rule, V3, V4, V5, V6, V7, V10, V11, V12}
use Rattle.sfi_formats.specs.Limits.{service_most}
use Rattle.sfi_safe_runs.proofs.Stepping.{two_steps_in_bundles}
use Rattle.sfi_pairs.specs.Pairs.{stub}
use Rattle.sfi_safety.proofs.Readings.{read_in_both, BrokenIn, IsSpelled, BeginsNothing, op_spelled, nothing_begins, ebreak_spelled, four, read_bundle, four_longest, wide, all_findings, quiet, none_listed, ecall_spelled, jalr_past, store_spelled, addi_x2, code_findings, found_in_both, ones_begin_nothing}
use Rattle.sfi_safety.proofs.Samples.{IsSample, without_gates, hart, is_hart, first, bytes_there, stands, then_turn, step_at, then_step, reaches, has_left, past_end, needed, of_both, breaks_alone, stack_hart, calls_elsewhere, InBoth}
use Rattle.rv_comp.proofs.Facts.{one_spelling, word_spells}
use Rattle.sfi_safety.specs.Samples.{words_of, bytes_of, ecall_at_no_gate, written_rd_forgotten, pair_on_x0, pair_across_bundles, jalr_offset_ignored, jump_to_any_start, stack_not_put_back}

-- the word of an ebreak
abbrev brk : ℕ
brk = spelling Ebreak

pub nop_spelled : IsSpelled nop
unfolding InRange
nop_spelled = word_spells nop (omega arith, omega arith, (omega (arith, ints), omega (arith, ints)))

-- ---- a word that spells no instruction

-- a run at a word of ones at the start of the code stands at no instruction
pub undecodable_runs : (s : Sample) → IsSample s → (m : Bytes) → HasCode (sandbox s) m → (h : Hart) → h.pc ≡ 0x01000000 → (rest : List ℕ) → (sandbox s).code ≡ 255 ∷ 255 ∷ 255 ∷ 255 ∷ rest → HasUnsafeRun (sandbox s) (record { hart = h; memory = m })
undecodable_runs s is m code h pc rest begins = record { turns = []; run = tt; unsafe = λ safe. ones_stand safe.present.instr safe.present.size safe.present.stands }
  where
    ones_stand : (i : Instr) (n : ℕ) → Stands (record { hart = h; memory = m }) i n → ⊥
    ones_stand i n st = by st.spelled
      where
        here : n ≤ 256 → ⊥
        here few =
            let there = bytes_there s is m code h 0 n pc (omega (arith, few)) in
            let both : Some (take n (sandbox s).code) ≡ Some st.bytes = sym there ∙ st.there in
            let same : take n (sandbox s).code ≡ st.bytes = cc in
            let ones : take n (255 ∷ 255 ∷ 255 ∷ 255 ∷ rest) ≡ st.bytes = ap (take n) (sym begins) ∙ same in
            ones_begin_nothing rest (record { instr = i; size = n }) (subst (λ (bytes : List ℕ). Spells bytes i n) (sym ones) st.spelled)

        by : Spells st.bytes i n → ⊥
        by (inl s) = let size = s.size in here (omega (arith, size))
        by (inr s) = let size = s.size in here (omega (arith, size))

pub undecodable_unsafe : (f : Format) → has_words f ≡ false → IsNeeded V1 0x01000000 (sandbox (undecodable f))
undecodable_unsafe f bundles =
    let p = sandbox (undecodable f) in
    let bytes = bundle_bytes p 0 in
    let x : List Finding = record { sandbox = 0; address = 0x01000000; rule = V1 } ∷ [] in
    needed (undecodable f) is V1 0x01000000 0 bundles (omega arith)
    (all_findings f [] 0xffffffff brk brk brk brk brk brk brk brk brk brk brk none_listed x [] []
    (read_bundle (bundle_place 0 p 0) bytes [] bytes x refl tt refl (ones_begin_nothing (drop 4 bytes)) refl)
    (quiet f [] 0xffffffff brk brk brk brk brk brk brk brk brk brk brk none_listed 0 refl refl refl refl)
    (quiet f [] 0xffffffff brk brk brk brk brk brk brk brk brk brk brk none_listed 14 refl refl refl refl))
    tt
    (λ m entry. undecodable_runs (undecodable f) is m entry.code (hart 0x01000000 0x02000000 0) refl (drop 4 (sandbox (undecodable f)).code) refl)
  where
    is : IsSample (undecodable f)
    is = without_gates (undecodable f) refl refl refl

-- ---- a store that crosses a bundle's end

pub short_nop : Spells (0x01 ∷ 0x00 ∷ []) nop 2
short_nop = inl (record { size = refl; all = refl; spelled = record { form = CAddi 0 (pos 0); gives = record { meets = refl; spelled = refl }; expands = refl } })

-- the store's bytes, in both bundles
pub store_across : Spells (0x23 ∷ 0x20 ∷ 0x13 ∷ 0x00 ∷ []) (Store Sw 6 1 (pos 0)) 4
unfolding spelling InRange
store_across = inr (record { size = refl; all = refl; spelled = ((omega arith, omega arith, (omega (arith, ints), omega (arith, ints))), refl) })

pub nop_next : Spells (0x13 ∷ 0x00 ∷ 0x00 ∷ 0x00 ∷ []) nop 4
unfolding spelling InRange
nop_next = inr (record { size = refl; all = refl; spelled = ((omega arith, omega arith, (omega (arith, ints), omega (arith, ints))), refl) })

-- its first two alone begin no instruction, since the four spell one of four bytes
pub half_begins_nothing : BeginsNothing (0x23 ∷ 0x20 ∷ [])
half_begins_nothing y (inl s) =
    let two = s.size in
    let one = one_spelling (take y.size (0x23 ∷ 0x20 ∷ [])) (0x23 ∷ 0x20 ∷ 0x13 ∷ 0x00 ∷ []) y.instr (Store Sw 6 1 (pos 0)) y.size 4 (inl s) store_across (λ k h g. get_or-take y.size (0x23 ∷ 0x20 ∷ []) k 0 h ∙ agree k (omega (arith, two, h))) in
    let four = one.1 in
    omega (arith, two, four)
  where
    agree : (k : ℕ) → k < 2 → slice_index (0x23 ∷ 0x20 ∷ []) k ≡ slice_index (0x23 ∷ 0x20 ∷ 0x13 ∷ 0x00 ∷ []) k
    agree zero h = refl
    agree (suc zero) h = refl
    agree (suc (suc k)) h = absurd (omega arith)
half_begins_nothing y (inr s) =
    let all : length {A = ℕ} (take 4 (0x23 ∷ 0x20 ∷ [])) ≡ 4 = subst (λ (n : ℕ). length {A = ℕ} (take n (0x23 ∷ 0x20 ∷ [])) ≡ 4) s.size s.all in
    absurd (omega (arith, all))

pub crossing_store_unsafe : (f : Format) → has_words f ≡ false → IsNeeded V2 0x0100000e (sandbox (crossing_store f))
crossing_store_unsafe f bundles =
    let s = crossing_store f in
    let is : IsSample s = without_gates s refl refl refl in
    let x : List Finding = record { sandbox = 0; address = 0x0100000e; rule = V2 } ∷ [] in
    let n = spelling nop in
    needed s is V2 0x0100000e 0 bundles (omega arith)
    (all_findings f [] n n n 0x20230001 0x00000013 brk brk brk brk brk brk brk none_listed x [] []
    (read_in_both s 0 (wide nop ∷ wide nop ∷ wide nop ∷ record { instr = nop; size = 2 } ∷ []) (0x23 ∷ 0x20 ∷ []) x bundles refl (nop_spelled, (nop_spelled, (nop_spelled, (short_nop, tt)))) refl half_begins_nothing (refl, refl))
    (read_in_both s 1 (four nop Ebreak Ebreak Ebreak) [] [] bundles refl (nop_next, (ebreak_spelled, (ebreak_spelled, (ebreak_spelled, tt)))) refl (nothing_begins [] refl) (refl, refl))
    (quiet f [] n n n 0x20230001 0x00000013 brk brk brk brk brk brk brk none_listed 14 refl refl refl refl))
    tt
    (λ m entry.
    then_step s is m entry.code (hart 0x01000000 0x02000000 0) 0 4 nop refl (omega arith) nop_spelled (hart 0x01000004 0x02000000 0) refl (
    then_step s is m entry.code (hart 0x01000004 0x02000000 0) 4 4 nop refl (omega arith) nop_spelled (hart 0x01000008 0x02000000 0) refl (
    then_step s is m entry.code (hart 0x01000008 0x02000000 0) 8 4 nop refl (omega arith) nop_spelled (hart 0x0100000c 0x02000000 0) refl (
    then_step s is m entry.code (hart 0x0100000c 0x02000000 0) 12 2 nop refl (omega arith) short_nop (hart 0x0100000e 0x02000000 0) refl (
    reaches s is m entry.code (hart 0x0100000e 0x02000000 0) 14 4 (Store Sw 6 1 (pos 0)) refl (omega arith) store_across 0 (0, omega arith, refl) (omega arith) (two_steps_in_bundles f bundles))))))

-- ---- a region's end without a jump

pub running_off_the_end_unsafe : (f : Format) → has_words f ≡ false → IsNeeded V8 0x010000fc (sandbox (running_off_the_end f))
running_off_the_end_unsafe f bundles =
    let s = running_off_the_end f in
    let is : IsSample s = without_gates s refl refl refl in
    let x : List Finding = record { sandbox = 0; address = 0x010000fc; rule = V8 } ∷ [] in
    let n = spelling nop in
    needed s is V8 0x010000fc 15 bundles (omega arith)
    (all_findings f [] brk brk brk brk brk brk brk brk n n n n none_listed [] [] x
    (read_in_both s 0 (four Ebreak Ebreak Ebreak Ebreak) [] [] bundles refl (ebreak_spelled, (ebreak_spelled, (ebreak_spelled, (ebreak_spelled, tt)))) refl (nothing_begins [] refl) (refl, refl))
    (quiet f [] brk brk brk brk brk brk brk brk n n n n none_listed 0 refl refl refl refl)
    (read_in_both s 15 (four nop nop nop nop) [] x bundles refl (nop_spelled, (nop_spelled, (nop_spelled, (nop_spelled, tt)))) refl (nothing_begins [] refl) (refl, refl)))
    (breaks_alone V8 0x010000fc (sandbox s) bundles (record {
      number = 15;
      earlier = wide nop ∷ wide nop ∷ wide nop ∷ [];
      here = wide nop;
      later = [];
      longest = four_longest (bundle_bytes (sandbox s) 15) nop nop nop nop refl nop_spelled nop_spelled nop_spelled nop_spelled;
      address_is = refl;
      broken = of_both (BrokenIn s 15 (four nop nop nop nop) V8 0x010000fc (nop ∷ nop ∷ nop ∷ []) nop []) (refl, refl) f bundles;
    }))
    (λ m entry.
    then_step s is m entry.code (hart 0x010000f0 0x02000000 0) 240 4 nop refl (omega arith) nop_spelled (hart 0x010000f4 0x02000000 0) refl (
    then_step s is m entry.code (hart 0x010000f4 0x02000000 0) 244 4 nop refl (omega arith) nop_spelled (hart 0x010000f8 0x02000000 0) refl (
    then_step s is m entry.code (hart 0x010000f8 0x02000000 0) 248 4 nop refl (omega arith) nop_spelled (hart 0x010000fc 0x02000000 0) refl (
    then_step s is m entry.code (hart 0x010000fc 0x02000000 0) 252 4 nop refl (omega arith) nop_spelled (hart 0x01000100 0x02000000 0) refl (
    has_left (sandbox s) m (hart 0x01000100 0x02000000 0) (past_end s is))))))

-- ---- a gate that comes back elsewhere

module _ (f : Format) where
  abbrev gate : Sample
  gate = gate_comes_back_elsewhere f

  gate_sample : IsSample gate
  gate_sample = record {
    first_words = refl;
    last_words = refl;
    words = words;
    few = omega arith;
    gates = record { starts = starts; services = services; ascending = λ i j d less below. absurd (omega arith) };
  }
    where
      words : All AreGateWords gate.gates
      words zero d below = record { address = omega arith; service = omega arith }
      words (suc k) d below = absurd (omega arith)

      starts : All (λ g. IsBundleStart (record { base = 0x01000000; size = 256 }) g.address) gate.gates
      starts zero d below = record { held = (omega arith, omega arith); aligned = refl }
      starts (suc k) d below = absurd (omega arith)

      services : All (λ g. g.service ≤ service_most) gate.gates
      services zero d below = omega arith
      services (suc k) d below = absurd (omega arith)

  others_unlisted : (n : ℕ) → is_gate_of gate.gates (0x01000000 + 16 * suc n) ≡ false
  others_unlisted n = let e : (0x01000000 == 0x01000000 + 16 * suc n) ≡ false = grind arith in ap (λ b. b || false) e

  not_stub : bundle_bytes (sandbox gate) 0 ≢ stub
  unfolding spelling
  not_stub e = let last : 1 ≡ 0 = ap (λ (bytes : List ℕ). slice_index bytes 15) e in absurd (omega (arith, last))

  -- the host answers nothing, and goes on after the ecall
  silent_reply : (m : Bytes) → IsEntry (sandbox gate) (first 0x01000000 m) → IsReply (sandbox gate) (first 0x01000000 m) (first 0x01000004 m)
  silent_reply m entry = record {
    size = 4;
    asked = stands gate gate_sample m entry.code (hart 0x01000000 0x02000000 0) 0 4 Ecall refl (omega arith) ecall_spelled;
    state = record { hart = is_hart 0x01000004 refl (omega arith); memory = entry.state.memory };
    pc = refl;
    reserved = record { code_base = refl; code_mask = refl; data_base = λ two. refl; data_mask = refl };
    typed = entry.typed;
    bytes = record { code = λ a inside. refl; guards = λ a guard none. none };
  }

  pub gate_comes_back_elsewhere_unsafe : has_words f ≡ false → IsNeeded V9 0x01000000 (sandbox gate)
  gate_comes_back_elsewhere_unsafe bundles =
      let s = gate in
      let p = sandbox s in
      let and_back = spelling (Op And 31 1 25) in
      let or_back = spelling (Op Or 31 31 24) in
      let jump = spelling (Jalr 0 31 (pos 16)) in
      needed s gate_sample V9 0x01000000 0 bundles (omega arith)
      (all_findings f s.gates (spelling Ecall) and_back or_back jump brk brk brk brk brk brk brk brk others_unlisted (record { sandbox = 0; address = 0x01000000; rule = V9 } ∷ []) [] []
      (inl (refl, not_stub, refl))
      (quiet f s.gates (spelling Ecall) and_back or_back jump brk brk brk brk brk brk brk brk others_unlisted 0 refl refl refl refl)
      (quiet f s.gates (spelling Ecall) and_back or_back jump brk brk brk brk brk brk brk brk others_unlisted 14 refl refl refl refl))
      tt
      (λ m entry.
      then_turn p (first 0x01000000 m) (first 0x01000000 m) (Steps (unchanged Call (hart 0x01000000 0x02000000 0) m)) (step_at s gate_sample m entry.code (hart 0x01000000 0x02000000 0) 0 4 Ecall refl (omega arith) ecall_spelled) refl (
      then_turn p (first 0x01000000 m) (first 0x01000004 m) (Replies (first 0x01000004 m)) (silent_reply m entry) refl (
      then_step s gate_sample m entry.code (hart 0x01000004 0x02000000 0) 4 4 (Op And 31 1 25) refl (omega arith) (op_spelled And 31 1 25 refl) (hart 0x01000008 0x02000000 240) refl (
      then_step s gate_sample m entry.code (hart 0x01000008 0x02000000 240) 8 4 (Op Or 31 31 24) refl (omega arith) (op_spelled Or 31 31 24 refl) (hart 0x0100000c 0x02000000 0x010000f0) refl (
      then_step s gate_sample m entry.code (hart 0x0100000c 0x02000000 0x010000f0) 12 4 (Jalr 0 31 (pos 16)) refl (omega arith) jalr_past (hart 0x01000100 0x02000000 0x010000f0) refl (
      has_left p m (hart 0x01000100 0x02000000 0x010000f0) (past_end s gate_sample)))))))

-- ---- the words

jal_x26 : IsSpelled (Jal 26 (pos 16))
unfolding InRange
jal_x26 = word_spells (Jal 26 (pos 16)) (omega arith, ((omega (arith, ints), omega (arith, ints)), refl))

jal_back : IsSpelled (Jal 0 (minus 8))
unfolding InRange
jal_back = word_spells (Jal 0 (minus 8)) (omega arith, ((omega (arith, ints), omega (arith, ints)), refl))

-- ---- the one rule that is broken in a bundle of four words

module _ (s : Sample) (rule : Rule) (number : ℕ) (a b c d : Instr) (bytes : bytes_of (words_of (a ∷ b ∷ c ∷ d ∷ [])) ≡ bundle_bytes (sandbox s) number)
    (sa : IsSpelled a) (sb : IsSpelled b) (sc : IsSpelled c) (sd : IsSpelled d) where
  -- this rule alone is broken at one of the four, in that format
  abbrev Broken : ℕ → List Instr → Instr → List Piece → Format → Type 0
  Broken = BrokenIn s number (four a b c d) rule

  -- at the first of them
  pub first_alone : Broken (0x01000000 + 16 * number) [] a (wide b ∷ wide c ∷ wide d ∷ []) s.format → BreaksAloneInBundle rule (0x01000000 + 16 * number) (sandbox s)
  first_alone broken = record {
    number = number;
    earlier = [];
    here = wide a;
    later = wide b ∷ wide c ∷ wide d ∷ [];
    longest = four_longest (bundle_bytes (sandbox s) number) a b c d bytes sa sb sc sd;
    address_is = sym (add-zero (0x01000000 + 16 * number));
    broken = broken;
  }

  -- in either format whose code is in bundles
  module _ (bundles : has_words s.format ≡ false) where
    pub first_in_both : InBoth (Broken (0x01000000 + 16 * number) [] a (wide b ∷ wide c ∷ wide d ∷ [])) → BreaksAlone rule (0x01000000 + 16 * number) (sandbox s)
    first_in_both broken = breaks_alone rule (0x01000000 + 16 * number) (sandbox s) bundles (first_alone (of_both (Broken (0x01000000 + 16 * number) [] a (wide b ∷ wide c ∷ wide d ∷ [])) broken s.format bundles))

    -- at the third
    pub third_in_both : InBoth (Broken (0x01000000 + 16 * number + 8) (b ∷ a ∷ []) c (wide d ∷ [])) → BreaksAlone rule (0x01000000 + 16 * number + 8) (sandbox s)
    third_in_both broken = breaks_alone rule (0x01000000 + 16 * number + 8) (sandbox s) bundles (record {
      number = number;
      earlier = wide b ∷ wide a ∷ [];
      here = wide c;
      later = wide d ∷ [];
      longest = four_longest (bundle_bytes (sandbox s) number) a b c d bytes sa sb sc sd;
      address_is = refl;
      broken = of_both (Broken (0x01000000 + 16 * number + 8) (b ∷ a ∷ []) c (wide d ∷ [])) broken s.format bundles;
    })

-- ---- an ecall at no gate

pub ecall_at_no_gate_unsafe : (f : Format) → has_words f ≡ false → IsNeeded V3 0x01000000 (sandbox (ecall_at_no_gate f))
ecall_at_no_gate_unsafe f bundles =
    let s = ecall_at_no_gate f in
    let is : IsSample s = without_gates s refl refl refl in
    needed s is V3 0x01000000 0 bundles (omega arith)
    (found_in_both f Ecall Ebreak Ebreak Ebreak Ebreak Ebreak Ebreak Ebreak bundles (record { sandbox = 0; address = 0x01000000; rule = V3 } ∷ []) []
    ecall_spelled ebreak_spelled ebreak_spelled ebreak_spelled ebreak_spelled ebreak_spelled ebreak_spelled ebreak_spelled (refl, refl) (refl, refl))
    (first_in_both s V3 0 Ecall Ebreak Ebreak Ebreak refl ecall_spelled ebreak_spelled ebreak_spelled ebreak_spelled bundles (refl, refl))
    (λ m entry. calls_elsewhere s is m entry.code (hart 0x01000000 0x02000000 0) 0 4 Ecall refl (omega arith) ecall_spelled refl (λ (gate : IsGate (sandbox s) 0x01000000). let none = gate.2 in absurd cc))

-- ---- a written reserved register

pub written_rd_forgotten_unsafe : (f : Format) → has_words f ≡ false → IsNeeded V4 0x01000000 (sandbox (written_rd_forgotten f))
written_rd_forgotten_unsafe f bundles =
    let s = written_rd_forgotten f in
    let is : IsSample s = without_gates s refl refl refl in
    needed s is V4 0x01000000 0 bundles (omega arith)
    (found_in_both f (Jal 26 (pos 16)) Ebreak Ebreak Ebreak (Op And 31 10 27) (Op Or 31 31 26) (Store Sw 31 11 (pos 0)) Ebreak bundles (record { sandbox = 0; address = 0x01000000; rule = V4 } ∷ []) []
    jal_x26 ebreak_spelled ebreak_spelled ebreak_spelled (op_spelled And 31 10 27 refl) (op_spelled Or 31 31 26 refl) (store_spelled Sw 31 11 refl) ebreak_spelled (refl, refl) (refl, refl))
    (first_in_both s V4 0 (Jal 26 (pos 16)) Ebreak Ebreak Ebreak refl jal_x26 ebreak_spelled ebreak_spelled ebreak_spelled bundles (refl, refl))
    (λ m entry.
    then_step s is m entry.code (hart 0x01000000 0x02000000 0) 0 4 (Jal 26 (pos 16)) refl (omega arith) jal_x26 (hart 0x01000010 0x01000004 0) refl (
    then_step s is m entry.code (hart 0x01000010 0x01000004 0) 16 4 (Op And 31 10 27) refl (omega arith) (op_spelled And 31 10 27 refl) (hart 0x01000014 0x01000004 240) refl (
    then_step s is m entry.code (hart 0x01000014 0x01000004 240) 20 4 (Op Or 31 31 26) refl (omega arith) (op_spelled Or 31 31 26 refl) (hart 0x01000018 0x01000004 0x010000f4) refl (
    reaches s is m entry.code (hart 0x01000018 0x01000004 0x010000f4) 24 4 (Store Sw 31 11 (pos 0)) refl (omega arith) (store_spelled Sw 31 11 refl) 0x010000f4 (0, omega arith, refl) (omega arith) (two_steps_in_bundles f bundles)))))

-- ---- a pair on x0

pub pair_on_x0_unsafe : (f : Format) → has_words f ≡ false → IsNeeded V5 0x01000008 (sandbox (pair_on_x0 f))
pair_on_x0_unsafe f bundles =
    let s = pair_on_x0 f in
    let is : IsSample s = without_gates s refl refl refl in
    needed s is V5 0x01000008 0 bundles (omega arith)
    (found_in_both f (Op And 0 10 27) (Op Or 0 0 26) (Store Sw 0 11 (pos 0)) Ebreak Ebreak Ebreak Ebreak Ebreak bundles (record { sandbox = 0; address = 0x01000008; rule = V5 } ∷ []) []
    (op_spelled And 0 10 27 refl) (op_spelled Or 0 0 26 refl) (store_spelled Sw 0 11 refl) ebreak_spelled ebreak_spelled ebreak_spelled ebreak_spelled ebreak_spelled (refl, refl) (refl, refl))
    (third_in_both s V5 0 (Op And 0 10 27) (Op Or 0 0 26) (Store Sw 0 11 (pos 0)) Ebreak refl (op_spelled And 0 10 27 refl) (op_spelled Or 0 0 26 refl) (store_spelled Sw 0 11 refl) ebreak_spelled bundles (refl, refl))
    (λ m entry.
    then_step s is m entry.code (hart 0x01000000 0x02000000 0) 0 4 (Op And 0 10 27) refl (omega arith) (op_spelled And 0 10 27 refl) (hart 0x01000004 0x02000000 0) refl (
    then_step s is m entry.code (hart 0x01000004 0x02000000 0) 4 4 (Op Or 0 0 26) refl (omega arith) (op_spelled Or 0 0 26 refl) (hart 0x01000008 0x02000000 0) refl (
    reaches s is m entry.code (hart 0x01000008 0x02000000 0) 8 4 (Store Sw 0 11 (pos 0)) refl (omega arith) (store_spelled Sw 0 11 refl) 0 (0, omega arith, refl) (omega arith) (two_steps_in_bundles f bundles))))

-- ---- a pair across bundles

pub pair_across_bundles_unsafe : (f : Format) → has_words f ≡ false → IsNeeded V5 0x01000010 (sandbox (pair_across_bundles f))
pair_across_bundles_unsafe f bundles =
    let s = pair_across_bundles f in
    let is : IsSample s = without_gates s refl refl refl in
    needed s is V5 0x01000010 1 bundles (omega arith)
    (found_in_both f Ebreak Ebreak (Op And 31 10 27) (Op Or 31 31 26) (Store Sw 31 11 (pos 0)) Ebreak Ebreak Ebreak bundles [] (record { sandbox = 0; address = 0x01000010; rule = V5 } ∷ [])
    ebreak_spelled ebreak_spelled (op_spelled And 31 10 27 refl) (op_spelled Or 31 31 26 refl) (store_spelled Sw 31 11 refl) ebreak_spelled ebreak_spelled ebreak_spelled (refl, refl) (refl, refl))
    (first_in_both s V5 1 (Store Sw 31 11 (pos 0)) Ebreak Ebreak Ebreak refl (store_spelled Sw 31 11 refl) ebreak_spelled ebreak_spelled ebreak_spelled bundles (refl, refl))
    (λ m entry. reaches s is m entry.code (hart 0x01000010 0x02000000 0) 16 4 (Store Sw 31 11 (pos 0)) refl (omega arith) (store_spelled Sw 31 11 refl) 0 (0, omega arith, refl) (omega arith) (two_steps_in_bundles f bundles))

-- ---- a jalr with an offset

pub jalr_offset_ignored_unsafe : (f : Format) → has_words f ≡ false → IsNeeded V6 0x01000008 (sandbox (jalr_offset_ignored f))
jalr_offset_ignored_unsafe f bundles =
    let s = jalr_offset_ignored f in
    let is : IsSample s = without_gates s refl refl refl in
    needed s is V6 0x01000008 0 bundles (omega arith)
    (found_in_both f (Op And 31 10 25) (Op Or 31 31 24) (Jalr 0 31 (pos 16)) Ebreak Ebreak Ebreak Ebreak Ebreak bundles (record { sandbox = 0; address = 0x01000008; rule = V6 } ∷ []) []
    (op_spelled And 31 10 25 refl) (op_spelled Or 31 31 24 refl) jalr_past ebreak_spelled ebreak_spelled ebreak_spelled ebreak_spelled ebreak_spelled (refl, refl) (refl, refl))
    (third_in_both s V6 0 (Op And 31 10 25) (Op Or 31 31 24) (Jalr 0 31 (pos 16)) Ebreak refl (op_spelled And 31 10 25 refl) (op_spelled Or 31 31 24 refl) jalr_past ebreak_spelled bundles (refl, refl))
    (λ m entry.
    then_step s is m entry.code (hart 0x01000000 0x02000000 0) 0 4 (Op And 31 10 25) refl (omega arith) (op_spelled And 31 10 25 refl) (hart 0x01000004 0x02000000 240) refl (
    then_step s is m entry.code (hart 0x01000004 0x02000000 240) 4 4 (Op Or 31 31 24) refl (omega arith) (op_spelled Or 31 31 24 refl) (hart 0x01000008 0x02000000 0x010000f0) refl (
    then_step s is m entry.code (hart 0x01000008 0x02000000 0x010000f0) 8 4 (Jalr 0 31 (pos 16)) refl (omega arith) jalr_past (hart 0x01000100 0x02000000 0x010000f0) refl (
    has_left (sandbox s) m (hart 0x01000100 0x02000000 0x010000f0) (past_end s is)))))

-- ---- a jump to any start

pub jump_to_any_start_unsafe : (f : Format) → has_words f ≡ false → IsNeeded V7 0x01000010 (sandbox (jump_to_any_start f))
jump_to_any_start_unsafe f bundles =
    let s = jump_to_any_start f in
    let is : IsSample s = without_gates s refl refl refl in
    needed s is V7 0x01000010 1 bundles (omega arith)
    (found_in_both f (Op And 31 10 27) (Op Or 31 31 26) (Store Sw 31 11 (pos 0)) Ebreak (Jal 0 (minus 8)) Ebreak Ebreak Ebreak bundles [] (record { sandbox = 0; address = 0x01000010; rule = V7 } ∷ [])
    (op_spelled And 31 10 27 refl) (op_spelled Or 31 31 26 refl) (store_spelled Sw 31 11 refl) ebreak_spelled jal_back ebreak_spelled ebreak_spelled ebreak_spelled (refl, refl) (refl, refl))
    (first_in_both s V7 1 (Jal 0 (minus 8)) Ebreak Ebreak Ebreak refl jal_back ebreak_spelled ebreak_spelled ebreak_spelled bundles (refl, refl))
    (λ m entry.
    then_step s is m entry.code (hart 0x01000010 0x02000000 0) 16 4 (Jal 0 (minus 8)) refl (omega arith) jal_back (hart 0x01000008 0x02000000 0) refl (
    reaches s is m entry.code (hart 0x01000008 0x02000000 0) 8 4 (Store Sw 31 11 (pos 0)) refl (omega arith) (store_spelled Sw 31 11 refl) 0 (0, omega arith, refl) (omega arith) (two_steps_in_bundles f bundles)))

-- ---- a stack pointer that is written and not put back

pub stack_not_put_back_unsafe : IsNeeded V10 0x01000000 (sandbox stack_not_put_back)
stack_not_put_back_unsafe =
    let s = stack_not_put_back in
    let is : IsSample s = without_gates s refl refl refl in
    needed s is V10 0x01000000 0 refl (omega arith)
    (code_findings Sfi2 (OpImm Addi 2 0 (pos 0)) (Store Sw 2 11 (pos 0)) Ebreak Ebreak Ebreak Ebreak Ebreak Ebreak (record { sandbox = 0; address = 0x01000000; rule = V10 } ∷ []) []
    addi_x2 (store_spelled Sw 2 11 refl) ebreak_spelled ebreak_spelled ebreak_spelled ebreak_spelled ebreak_spelled ebreak_spelled refl refl)
    (first_alone s V10 0 (OpImm Addi 2 0 (pos 0)) (Store Sw 2 11 (pos 0)) Ebreak Ebreak refl addi_x2 (store_spelled Sw 2 11 refl) ebreak_spelled ebreak_spelled refl)
    (λ m entry.
    then_step s is m entry.code (hart 0x01000000 0x02000000 0) 0 4 (OpImm Addi 2 0 (pos 0)) refl (omega arith) addi_x2 (stack_hart 0 0x01000004 0x02000000 0) refl (
    reaches s is m entry.code (stack_hart 0 0x01000004 0x02000000 0) 4 4 (Store Sw 2 11 (pos 0)) refl (omega arith) (store_spelled Sw 2 11 refl) 0 (0, omega arith, refl) (omega arith) refl))

-- ---- all ten

pub each_rule : EachRuleIsNeeded
each_rule f bundles V1 below stack = (0x01000000, sandbox (undecodable f), refl, undecodable_unsafe f bundles)
each_rule f bundles V2 below stack = (0x0100000e, sandbox (crossing_store f), refl, crossing_store_unsafe f bundles)
each_rule f bundles V3 below stack = (0x01000000, sandbox (ecall_at_no_gate f), refl, ecall_at_no_gate_unsafe f bundles)
each_rule f bundles V4 below stack = (0x01000000, sandbox (written_rd_forgotten f), refl, written_rd_forgotten_unsafe f bundles)
each_rule f bundles V5 below stack = (0x01000008, sandbox (pair_on_x0 f), refl, pair_on_x0_unsafe f bundles)
each_rule f bundles V6 below stack = (0x01000008, sandbox (jalr_offset_ignored f), refl, jalr_offset_ignored_unsafe f bundles)
each_rule f bundles V7 below stack = (0x01000010, sandbox (jump_to_any_start f), refl, jump_to_any_start_unsafe f bundles)
each_rule f bundles V8 below stack = (0x010000fc, sandbox (running_off_the_end f), refl, running_off_the_end_unsafe f bundles)
each_rule f bundles V9 below stack = (0x01000000, sandbox (gate_comes_back_elsewhere f), refl, gate_comes_back_elsewhere_unsafe f bundles)
each_rule Sfi1 bundles V10 below stack = absurd (false≢true (stack refl))
each_rule Sfi2 bundles V10 below stack = (0x01000000, sandbox stack_not_put_back, refl, stack_not_put_back_unsafe)
each_rule Sfiw bundles V10 below stack = absurd (false≢true (stack refl))
each_rule Sfis bundles V10 below stack = absurd (false≢true (stack refl))
each_rule f bundles V11 below stack = absurd (omega (arith, below))
each_rule f bundles V12 below stack = absurd (omega (arith, below))
