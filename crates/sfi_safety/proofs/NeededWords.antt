-- The rules that the samples in words break are needed, and so is each, in each format of such code.
use Rattle.sfi_safety.proofs.Prelude.{◌≡◌, ℕ, List, [], ◌∷◌, drop, filter, refl, arith, true, sym, false≢true, pos, ints, Or, Sw, Op, OpImm, Lui, Store, Jal, Jalr, Ecall, Ebreak, Instr, spelling, minus, InRange, BundlePlace, bundle_place, all_rules, IsGate, IsNeeded, Finding, Addi, Rule, V1, V2, V3, V4, V5, V6, V7, V8, V9, V10, V11, V12, InCode, Sample, sandbox, nop, Format, Sfi1, Sfi2, Sfiw, Sfis, has_words}
use Rattle.rv_comp.proofs.Facts.{word_spells}
use Rattle.sfi_rules.specs.declared.owed.Owed.TheVariants.{Nothing, Mask}
use Rattle.sfi_rules.specs.words.Rules.{owed_next}
use Rattle.sfi_rules.specs.words.Findings.{breaks, found_from}
use Rattle.sfi_safety.specs.Needed.{IsOwedBefore, EachRuleOfWordsIsNeeded}
use Rattle.sfi_safety.specs.WordSamples.{undecodable_word, crossing_words, ecall_in_words, code_base_written, untyped_base, jump_past_its_register, jump_out, nop_at_the_end, data_register_not_put_back, code_register_not_put_back, offset_not_masked}
use Rattle.sfi_safety.proofs.Readings.{IsSpelled, op_spelled, store_spelled, ebreak_spelled, ecall_spelled, nothing_begins, wide, ones_begin_nothing}
use Rattle.sfi_safety.proofs.Samples.{IsSample, without_gates, size, then_step, reaches, reaches_between, calls_elsewhere, has_left, past_end}
use Rattle.sfi_safety.proofs.Needed.{undecodable_runs, nop_spelled, short_nop, store_across, nop_next, half_begins_nothing}
use Rattle.sfi_safety.proofs.WordSamples.{of_both_of_words, typed_hart, at_word, needed_at, read_word, one_word, ebreak_found, alone, four_found, ebreaks_found, brk, before_last, all_found, first_found, code_found}

-- ---- the words

lui_x24 : IsSpelled (Lui 24 0x2000)
unfolding InRange
lui_x24 = word_spells (Lui 24 0x2000) (omega arith, omega arith)

jalr_next : IsSpelled (Jalr 0 30 (pos 4))
unfolding InRange
jalr_next = word_spells (Jalr 0 30 (pos 4)) (omega arith, omega arith, (omega (arith, ints), omega (arith, ints)))

jalr_x30 : IsSpelled (Jalr 0 30 (pos 0))
unfolding InRange
jalr_x30 = word_spells (Jalr 0 30 (pos 0)) (omega arith, omega arith, (omega (arith, ints), omega (arith, ints)))

jal_out : IsSpelled (Jal 0 (pos 256))
unfolding InRange
jal_out = word_spells (Jal 0 (pos 256)) (omega arith, ((omega (arith, ints), omega (arith, ints)), refl))

addi_x2_x24 : IsSpelled (OpImm Addi 2 24 (pos 0))
unfolding InRange
addi_x2_x24 = word_spells (OpImm Addi 2 24 (pos 0)) (omega arith, omega arith, (omega (arith, ints), omega (arith, ints)))

addi_x30 : IsSpelled (OpImm Addi 30 0 (pos 0))
unfolding InRange
addi_x30 = word_spells (OpImm Addi 30 0 (pos 0)) (omega arith, omega arith, (omega (arith, ints), omega (arith, ints)))

addi_x31 : IsSpelled (OpImm Addi 31 0 (minus 1))
unfolding InRange
addi_x31 = word_spells (OpImm Addi 31 0 (minus 1)) (omega arith, omega arith, (omega (arith, ints), omega (arith, ints)))

-- nothing is owed before the first word
at_first : (s : Sample) → IsOwedBefore (sandbox s) 0 0 Nothing
at_first s = record { front = []; between = Nothing; front_found = (refl, refl); found = []; words_found = (refl, refl) }

abbrev found : ℕ → Rule → List Finding
found address rule = record { sandbox = 0; address = address; rule = rule } ∷ []

module _ (f : Format) (has : has_words f ≡ true) where
  -- ---- what is read

  pub undecodable_word_unsafe : IsNeeded V1 0x01000000 (sandbox (undecodable_word f))
  undecodable_word_unsafe =
      let s = undecodable_word f in
      let is : IsSample s = without_gates s refl refl refl in
      let b = bundle_place 0 (sandbox s) 0 in
      needed_at s is has V1 0x01000000 0 (omega arith)
      (first_found f 0xffffffff brk brk brk (found 0x01000000 V1)
      (four_found b Nothing Nothing Nothing Nothing Nothing 0xffffffff brk brk brk (found 0x01000000 V1) [] [] []
      (read_word b 0x01000000 Nothing Nothing (255 ∷ 255 ∷ 255 ∷ 255 ∷ []) [] (255 ∷ 255 ∷ 255 ∷ 255 ∷ []) (found 0x01000000 V1) tt refl (ones_begin_nothing []) refl refl)
      (ebreak_found b 0x01000004) (ebreak_found b 0x01000008) (ebreak_found b 0x0100000c)))
      tt
      (λ m entry. undecodable_runs s is m entry.code (at_word f 0x01000000) refl (drop 4 (sandbox s).code) refl)

  pub crossing_words_unsafe : IsNeeded V2 0x01000002 (sandbox (crossing_words f))
  crossing_words_unsafe =
      let s = crossing_words f in
      let is : IsSample s = without_gates s refl refl refl in
      let b = bundle_place 0 (sandbox s) 0 in
      needed_at s is has V2 0x01000002 0 (omega arith)
      (first_found f 0x20230001 0x00000013 brk brk (found 0x01000002 V2)
      (four_found b Nothing Nothing Nothing Nothing Nothing 0x20230001 0x00000013 brk brk (found 0x01000002 V2) [] [] []
      (read_word b 0x01000000 Nothing Nothing (0x01 ∷ 0x00 ∷ 0x23 ∷ 0x20 ∷ []) (record { instr = nop; size = 2 } ∷ []) (0x23 ∷ 0x20 ∷ []) (found 0x01000002 V2) (short_nop, tt) refl half_begins_nothing refl refl)
      (read_word b 0x01000004 Nothing Nothing (0x13 ∷ 0x00 ∷ 0x00 ∷ 0x00 ∷ []) (wide nop ∷ []) [] [] (nop_next, tt) refl (nothing_begins [] refl) refl refl)
      (ebreak_found b 0x01000008) (ebreak_found b 0x0100000c)))
      tt
      (λ m entry.
      then_step s is m entry.code (at_word f 0x01000000) 0 2 nop refl (omega arith) short_nop (at_word f 0x01000002) refl (
      reaches_between s is m entry.code (at_word f 0x01000002) 2 4 (Store Sw 6 1 (pos 0)) refl (omega arith) store_across 0x01000000 (0, omega arith, refl) (omega arith) (omega arith)))

  -- ---- an ecall at no gate

  pub ecall_in_words_unsafe : IsNeeded V3 0x01000000 (sandbox (ecall_in_words f))
  ecall_in_words_unsafe =
      let s = ecall_in_words f in
      let is : IsSample s = without_gates s refl refl refl in
      needed_at s is has V3 0x01000000 0 (omega arith)
      (code_found f Ecall Ebreak Ebreak Ebreak ecall_spelled ebreak_spelled ebreak_spelled ebreak_spelled Nothing Nothing Nothing (found 0x01000000 V3) [] [] [] refl refl refl refl refl refl refl refl)
      (alone s has 0 0 Nothing Ecall ecall_spelled refl (at_first s) V3 refl)
      (λ m entry. calls_elsewhere s is m entry.code (at_word f 0x01000000) 0 4 Ecall refl (omega arith) ecall_spelled refl (λ (gate : IsGate (sandbox s) 0x01000000). let none = gate.2 in absurd cc))

  -- ---- reserved registers and bases

  pub code_base_written_unsafe : IsNeeded V4 0x01000000 (sandbox (code_base_written f))
  code_base_written_unsafe =
      let s = code_base_written f in
      let is : IsSample s = without_gates s refl refl refl in
      let lui = Lui 24 0x2000 in
      let place = Op Or 30 30 24 in
      let jump = Jalr 0 30 (pos 0) in
      let h = typed_hart f 0x01000004 0x02000000 0x02000000 0x010000fc 0 in
      let g = typed_hart f 0x01000008 0x02000000 0x02000000 0x030000fc 0 in
      let out = typed_hart f 0x030000fc 0x02000000 0x02000000 0x030000fc 0 in
      needed_at s is has V4 0x01000000 0 (omega arith)
      (code_found f lui place jump Ebreak lui_x24 (op_spelled Or 30 30 24 refl) jalr_x30 ebreak_spelled Nothing Nothing Nothing (found 0x01000000 V4) [] [] [] refl refl refl refl refl refl refl refl)
      (alone s has 0 0 Nothing lui lui_x24 refl (at_first s) V4 refl)
      (λ m entry.
      then_step s is m entry.code (at_word f 0x01000000) 0 4 lui refl (omega arith) lui_x24 h refl (
      then_step s is m entry.code h 4 4 place refl (omega arith) (op_spelled Or 30 30 24 refl) g refl (
      then_step s is m entry.code g 8 4 jump refl (omega arith) jalr_x30 out refl (
      has_left (sandbox s) m out (λ (inside : InCode (sandbox s) 0x030000fc). let all = size s is in let below = inside.1 in omega (arith, all, below))))))

  pub untyped_base_unsafe : IsNeeded V5 0x01000000 (sandbox (untyped_base f))
  untyped_base_unsafe =
      let s = untyped_base f in
      let is : IsSample s = without_gates s refl refl refl in
      let store = Store Sw 24 11 (pos 0) in
      needed_at s is has V5 0x01000000 0 (omega arith)
      (code_found f store Ebreak Ebreak Ebreak (store_spelled Sw 24 11 refl) ebreak_spelled ebreak_spelled ebreak_spelled Nothing Nothing Nothing (found 0x01000000 V5) [] [] [] refl refl refl refl refl refl refl refl)
      (alone s has 0 0 Nothing store (store_spelled Sw 24 11 refl) refl (at_first s) V5 refl)
      (λ m entry. reaches_between s is m entry.code (at_word f 0x01000000) 0 4 store refl (omega arith) (store_spelled Sw 24 11 refl) 0x01000000 (0, omega arith, refl) (omega arith) (omega arith))

  -- ---- ways out of the code

  pub jump_past_its_register_unsafe : IsNeeded V6 0x01000000 (sandbox (jump_past_its_register f))
  jump_past_its_register_unsafe =
      let s = jump_past_its_register f in
      let is : IsSample s = without_gates s refl refl refl in
      needed_at s is has V6 0x01000000 0 (omega arith)
      (code_found f (Jalr 0 30 (pos 4)) Ebreak Ebreak Ebreak jalr_next ebreak_spelled ebreak_spelled ebreak_spelled Nothing Nothing Nothing (found 0x01000000 V6) [] [] [] refl refl refl refl refl refl refl refl)
      (alone s has 0 0 Nothing (Jalr 0 30 (pos 4)) jalr_next refl (at_first s) V6 refl)
      (λ m entry.
      then_step s is m entry.code (at_word f 0x01000000) 0 4 (Jalr 0 30 (pos 4)) refl (omega arith) jalr_next (at_word f 0x01000100) refl (
      has_left (sandbox s) m (at_word f 0x01000100) (past_end s is)))

  pub jump_out_unsafe : IsNeeded V7 0x01000000 (sandbox (jump_out f))
  jump_out_unsafe =
      let s = jump_out f in
      let is : IsSample s = without_gates s refl refl refl in
      needed_at s is has V7 0x01000000 0 (omega arith)
      (code_found f (Jal 0 (pos 256)) Ebreak Ebreak Ebreak jal_out ebreak_spelled ebreak_spelled ebreak_spelled Nothing Nothing Nothing (found 0x01000000 V7) [] [] [] refl refl refl refl refl refl refl refl)
      (alone s has 0 0 Nothing (Jal 0 (pos 256)) jal_out refl (at_first s) V7 refl)
      (λ m entry.
      then_step s is m entry.code (at_word f 0x01000000) 0 4 (Jal 0 (pos 256)) refl (omega arith) jal_out (at_word f 0x01000100) refl (
      has_left (sandbox s) m (at_word f 0x01000100) (past_end s is)))

  pub nop_at_the_end_unsafe : IsNeeded V8 0x010000fc (sandbox (nop_at_the_end f))
  nop_at_the_end_unsafe =
      let s = nop_at_the_end f in
      let is : IsSample s = without_gates s refl refl refl in
      let b = bundle_place 0 (sandbox s) in
      let n = spelling nop in
      let quiet = ebreaks_found (b 0) in
      let e1 = ebreak_found (b 15) 0x010000f0 in
      let e2 = ebreak_found (b 15) 0x010000f4 in
      let e3 = ebreak_found (b 15) 0x010000f8 in
      needed_at s is has V8 0x010000fc 63 (omega arith)
      (all_found f brk brk brk brk brk brk brk n [] (found 0x010000fc V8) Nothing quiet
      (four_found (b 15) Nothing Nothing Nothing Nothing Nothing brk brk brk n [] [] [] (found 0x010000fc V8) e1 e2 e3 (one_word (b 15) 0x010000fc Nothing Nothing nop (found 0x010000fc V8) nop_spelled refl refl)))
      (alone s has 15 3 Nothing nop nop_spelled refl (record {
        front = [];
        between = Nothing;
        front_found = before_last f brk brk brk brk brk brk brk n [] quiet;
        found = [];
        words_found = ([], [], Nothing, ([], [], Nothing, ([], [], Nothing, (refl, refl), e1, refl), e2, refl), e3, refl);
      }) V8 refl)
      (λ m entry.
      then_step s is m entry.code (at_word f 0x010000fc) 252 4 nop refl (omega arith) nop_spelled (at_word f 0x01000100) refl (
      has_left (sandbox s) m (at_word f 0x01000100) (past_end s is)))

  -- ---- typed registers that are written and not put back

  pub code_register_not_put_back_unsafe : IsNeeded V11 0x01000000 (sandbox (code_register_not_put_back f))
  code_register_not_put_back_unsafe =
      let s = code_register_not_put_back f in
      let is : IsSample s = without_gates s refl refl refl in
      let zero_x30 = OpImm Addi 30 0 (pos 0) in
      let h = typed_hart f 0x01000004 0x02000000 0x01000000 0 0 in
      let out = typed_hart f 0 0x02000000 0x01000000 0 0 in
      needed_at s is has V11 0x01000000 0 (omega arith)
      (code_found f zero_x30 (Jalr 0 30 (pos 0)) Ebreak Ebreak addi_x30 jalr_x30 ebreak_spelled ebreak_spelled Nothing Nothing Nothing (found 0x01000000 V11) [] [] [] refl refl refl refl refl refl refl refl)
      (alone s has 0 0 Nothing zero_x30 addi_x30 refl (at_first s) V11 refl)
      (λ m entry.
      then_step s is m entry.code (at_word f 0x01000000) 0 4 zero_x30 refl (omega arith) addi_x30 h refl (
      then_step s is m entry.code h 4 4 (Jalr 0 30 (pos 0)) refl (omega arith) jalr_x30 out refl (
      has_left (sandbox s) m out (λ (inside : InCode (sandbox s) 0). let from = inside.0 in omega (arith, from)))))

-- a write of x2, and a store on it
abbrev pointed : Instr
pointed = OpImm Addi 2 24 (pos 0)

abbrev store : Instr
store = Store Sw 2 11 (pos 0)

-- what is found of these and owed after them, and which rule the store breaks
abbrev IsFoundAtStore : Format → Type 0
IsFoundAtStore f =
    let b : BundlePlace = bundle_place 0 (sandbox (data_register_not_put_back f)) 0 in
    (found_from b 0x01000000 Nothing (wide pointed ∷ []) ≡ []) × (owed_next f Nothing pointed ≡ Mask 2)
    × (found_from b 0x01000004 (Mask 2) (wide store ∷ []) ≡ found 0x01000004 V10) × (owed_next f (Mask 2) store ≡ Nothing)
    × (filter (λ r. breaks (record { bundle = b; address = 0x01000004; owed = Mask 2; instr = store; size = 4 }) r) all_rules ≡ V10 ∷ [])

pub data_register_not_put_back_unsafe : (f : Format) → has_words f ≡ true → IsNeeded V10 0x01000004 (sandbox (data_register_not_put_back f))
data_register_not_put_back_unsafe f has =
    let s = data_register_not_put_back f in
    let is : IsSample s = without_gates s refl refl refl in
    let h = typed_hart f 0x01000004 0x01000000 0x01000000 0x010000fc 0 in
    let e : IsFoundAtStore f = of_both_of_words IsFoundAtStore ((refl, refl, refl, refl, refl), (refl, refl, refl, refl, refl)) f has in
    needed_at s is has V10 0x01000004 0 (omega arith)
    (code_found f pointed store Ebreak Ebreak addi_x2_x24 (store_spelled Sw 2 11 refl) ebreak_spelled ebreak_spelled (Mask 2) Nothing Nothing [] (found 0x01000004 V10) [] [] e.0 e.1 e.2 e.3 refl refl refl refl)
    (alone s has 0 1 (Mask 2) store (store_spelled Sw 2 11 refl) refl (record {
      front = [];
      between = Nothing;
      front_found = (refl, refl);
      found = [];
      words_found = ([], [], Nothing, (refl, refl), one_word (bundle_place 0 (sandbox s) 0) 0x01000000 Nothing (Mask 2) pointed [] addi_x2_x24 e.0 e.1, refl);
    }) V10 e.4)
    (λ m entry.
    then_step s is m entry.code (at_word f 0x01000000) 0 4 pointed refl (omega arith) addi_x2_x24 h refl (
    reaches_between s is m entry.code h 4 4 store refl (omega arith) (store_spelled Sw 2 11 refl) 0x01000000 (0, omega arith, refl) (omega arith) (omega arith)))

pub offset_not_masked_unsafe : IsNeeded V12 0x01000000 (sandbox offset_not_masked)
offset_not_masked_unsafe =
    let s = offset_not_masked in
    let is : IsSample s = without_gates s refl refl refl in
    let ones = OpImm Addi 31 0 (minus 1) in
    let h = typed_hart Sfiw 0x01000004 0x02000000 0x01000000 0x010000fc 0xffffffff in
    let g = typed_hart Sfiw 0x01000008 0xffffffff 0x01000000 0x010000fc 0xffffffff in
    needed_at s is refl V12 0x01000000 0 (omega arith)
    (code_found Sfiw ones (Op Or 2 31 26) store Ebreak addi_x31 (op_spelled Or 2 31 26 refl) (store_spelled Sw 2 11 refl) ebreak_spelled Nothing Nothing Nothing (found 0x01000000 V12) [] [] [] refl refl refl refl refl refl refl refl)
    (alone s refl 0 0 Nothing ones addi_x31 refl (at_first s) V12 refl)
    (λ m entry.
    then_step s is m entry.code (at_word Sfiw 0x01000000) 0 4 ones refl (omega arith) addi_x31 h refl (
    then_step s is m entry.code h 4 4 (Op Or 2 31 26) refl (omega arith) (op_spelled Or 2 31 26 refl) g refl (
    reaches s is m entry.code g 8 4 store refl (omega arith) (store_spelled Sw 2 11 refl) 0 (1, omega arith, refl) (omega arith) refl)))

-- ---- all of them

pub each_rule_of_words : EachRuleOfWordsIsNeeded
each_rule_of_words f has V1 other two = (0x01000000, sandbox (undecodable_word f), refl, undecodable_word_unsafe f has)
each_rule_of_words f has V2 other two = (0x01000002, sandbox (crossing_words f), refl, crossing_words_unsafe f has)
each_rule_of_words f has V3 other two = (0x01000000, sandbox (ecall_in_words f), refl, ecall_in_words_unsafe f has)
each_rule_of_words f has V4 other two = (0x01000000, sandbox (code_base_written f), refl, code_base_written_unsafe f has)
each_rule_of_words f has V5 other two = (0x01000000, sandbox (untyped_base f), refl, untyped_base_unsafe f has)
each_rule_of_words f has V6 other two = (0x01000000, sandbox (jump_past_its_register f), refl, jump_past_its_register_unsafe f has)
each_rule_of_words f has V7 other two = (0x01000000, sandbox (jump_out f), refl, jump_out_unsafe f has)
each_rule_of_words f has V8 other two = (0x010000fc, sandbox (nop_at_the_end f), refl, nop_at_the_end_unsafe f has)
each_rule_of_words f has V9 other two = absurd (other refl)
each_rule_of_words f has V10 other two = (0x01000004, sandbox (data_register_not_put_back f), refl, data_register_not_put_back_unsafe f has)
each_rule_of_words f has V11 other two = (0x01000000, sandbox (code_register_not_put_back f), refl, code_register_not_put_back_unsafe f has)
each_rule_of_words Sfi1 has V12 other two = absurd (false≢true has)
each_rule_of_words Sfi2 has V12 other two = absurd (false≢true has)
each_rule_of_words Sfiw has V12 other two = (0x01000000, sandbox offset_not_masked, refl, offset_not_masked_unsafe)
each_rule_of_words Sfis has V12 other two = absurd (false≢true (sym (two refl)))
