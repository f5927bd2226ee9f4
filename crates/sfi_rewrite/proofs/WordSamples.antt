-- States in which the expansions in words of a load, of an indirect jump, of a step, and of writes of the stack pointer stand.
use Rattle.sfi_rewrite.proofs.Prelude.{◌≡◌, ◌^◌, List, [], ◌∷◌, refl, sym, ◌∙◌, arith, true, false, nat_lt, list_all, pos, And, Or, Instr, Op, Load, Jalr, State, BundleSlot, Wide, IsAskedOf, Lw, sample_load, sample_jump, sample_push, sample_upper, sample_pop}
use Rattle.std.proofs.lemmas.Bool.{false≢true}
use Rattle.sfi_formats.specs.Formats.{has_words}
use Rattle.sfi_formats.specs.declared.format.Format.{Format}
use Rattle.sfi_formats.specs.declared.format.Format.TheVariants.{Sfi1, Sfi2, Sfiw, Sfis}
use Rattle.sfi_rewrite.specs.Laws.{WordTransparencyCanBeMet}
use Rattle.sfi_rewrite.specs.words.Samples.{MeetsExpansion, MeetsTransparent, MeetsStep, MeetsInside, MeetsOutside, MeetsStop, sample_low, sample_move, sample_step, sample_use}
use Rattle.sfi_rewrite.specs.Samples.{Meets}
use Rattle.sfi_rewrite.specs.words.Expansion.{IsPlainExpansion, IsExpansion}
use Rattle.sfi_rewrite.proofs.Samples.{code_at, data_at, hart_of, IsSpelled, words_of, op_spelled, load_spelled, jump_spelled, push_spelled, upper_spelled, pop_spelled, state_of, asked_of, meets, load_done, load_stops}

-- the two instructions of a mask of x2, and the one of a single mask
mask_and : IsSpelled (Op And 31 2 27)
mask_and = op_spelled And 31 2 27 (omega arith) (omega arith) (omega arith)

mask_or : IsSpelled (Op Or 2 31 26)
mask_or = op_spelled Or 2 31 26 (omega arith) (omega arith) (omega arith)

mask_single : IsSpelled (Op And 2 2 27)
mask_single = op_spelled And 2 2 27 (omega arith) (omega arith) (omega arith)

-- ---- where the expansion stands

module _ (f : Format) (masks : list_all (λ x. nat_lt x (2 ^ 32)) (hart_of f 0x01000000).registers ≡ true) where
  -- three instructions that are the expansion
  abbrev three_meet : (i j k l : Instr) → IsSpelled j → IsSpelled k → IsSpelled l → IsPlainExpansion f false false i (Wide j ∷ Wide k ∷ Wide l ∷ []) → MeetsExpansion f i
  three_meet i j k l first second third expansion =
      meets f i (IsPlainExpansion f false false i) (Wide j ∷ Wide k ∷ Wide l ∷ []) (words_of (j ∷ k ∷ l ∷ [])) expansion (asked_of f masks i j k l first second third)

  -- what is asked of the first of the slots, or of the first two, where all three stand
  first_asked : (i : Instr) (s t u : BundleSlot) (state : State) → IsAskedOf f i (s ∷ t ∷ u ∷ []) code_at data_at state → IsAskedOf f i (s ∷ []) code_at data_at state
  first_asked i s t u state three = record { regions = three.regions; masked_base = three.masked_base; is_state = three.is_state; reserved = three.reserved; stand = (three.stand.0, tt) }

  two_asked : (i : Instr) (s t u : BundleSlot) (state : State) → IsAskedOf f i (s ∷ t ∷ u ∷ []) code_at data_at state → IsAskedOf f i (s ∷ t ∷ []) code_at data_at state
  two_asked i s t u state three =
      record { regions = three.regions; masked_base = three.masked_base; is_state = three.is_state; reserved = three.reserved; stand = (three.stand.0, (three.stand.1.0, tt)) }

  -- the one instruction is the expansion; the two words after it don't matter
  abbrev one_meets : (i j : Instr) (IsExpanded : List BundleSlot → Type 0) → IsSpelled j → IsExpanded (Wide j ∷ []) → Meets f i IsExpanded
  one_meets i j IsExpanded spelled expansion =
      let words = words_of (j ∷ Op Or 2 31 26 ∷ Op Or 2 31 26 ∷ []) in
      meets f i IsExpanded (Wide j ∷ []) words expansion
      (first_asked i (Wide j) (Wide (Op Or 2 31 26)) (Wide (Op Or 2 31 26)) (state_of f words) (asked_of f masks i j (Op Or 2 31 26) (Op Or 2 31 26) spelled mask_or mask_or))

  -- the two are; the word after them doesn't matter
  abbrev two_meet : (i j k : Instr) → IsSpelled j → IsSpelled k → IsPlainExpansion f false false i (Wide j ∷ Wide k ∷ []) → MeetsExpansion f i
  two_meet i j k first second expansion =
      let words = words_of (j ∷ k ∷ Op Or 2 31 26 ∷ []) in
      meets f i (IsPlainExpansion f false false i) (Wide j ∷ Wide k ∷ []) words expansion
      (two_asked i (Wide j) (Wide k) (Wide (Op Or 2 31 26)) (state_of f words) (asked_of f masks i j k (Op Or 2 31 26) first second mask_or))

  -- ---- what is the same however many steps masks have

  jump_met : MeetsTransparent f sample_jump
  jump_met = (
    three_meet sample_jump (Op And 30 12 25) (Op Or 30 30 24) (Jalr 1 30 (pos 0)) (op_spelled And 30 12 25 (omega arith) (omega arith) (omega arith))
        (op_spelled Or 30 30 24 (omega arith) (omega arith) (omega arith)) (jump_spelled 30 (omega arith)) (Wide (Jalr 1 30 (pos 0)) ∷ [], refl, refl),
    refl,
    record { held = (omega arith, omega arith); aligned = refl },
    refl,
  )

  step_met : MeetsStep f sample_step (sample_use ∷ []) sample_push
  step_met = (one_meets sample_push sample_push (IsExpansion f sample_step (sample_use ∷ [])) push_spelled (Wide sample_push ∷ [], refl, refl), refl, refl, tt, refl)

-- ---- where masks have two steps

load_met : MeetsTransparent Sfiw sample_load
load_met = (
  three_meet Sfiw refl sample_load (Op And 31 11 27) (Op Or 29 31 26) (Load Lw 10 29 (pos 0)) (op_spelled And 31 11 27 (omega arith) (omega arith) (omega arith))
      (op_spelled Or 29 31 26 (omega arith) (omega arith) (omega arith)) (load_spelled 10 29 0 (omega arith) (omega arith) (omega arith)) (Wide (Load Lw 10 29 (pos 0)) ∷ [], refl, refl),
  refl,
  (omega arith, omega arith),
  load_done (words_of (Op And 31 11 27 ∷ Op Or 29 31 26 ∷ Load Lw 10 29 (pos 0) ∷ [])) refl Sfiw,
)

low_met : MeetsTransparent Sfiw sample_low
low_met = (
  one_meets Sfiw refl sample_low (Load Lw 10 26 (pos 16)) (IsPlainExpansion Sfiw false false sample_low) (load_spelled 10 26 16 (omega arith) (omega arith) (omega arith)) (Wide (Load Lw 10 26 (pos 16)) ∷ [], refl, refl),
  refl,
  tt,
  load_done (words_of (Load Lw 10 26 (pos 16) ∷ Op Or 2 31 26 ∷ Op Or 2 31 26 ∷ [])) refl Sfiw,
)

-- what writes x2, and its mask
abbrev written_met : (i : Instr) → IsPlainExpansion Sfiw false false i (Wide i ∷ Wide (Op And 31 2 27) ∷ Wide (Op Or 2 31 26) ∷ []) → IsSpelled i → MeetsExpansion Sfiw i
written_met i expansion spelled = three_meet Sfiw refl i i (Op And 31 2 27) (Op Or 2 31 26) spelled mask_and mask_or expansion

push_met : MeetsInside Sfiw 2 sample_push
push_met = (written_met sample_push (Wide sample_push ∷ [], refl, refl) push_spelled, (refl, refl, tt), (refl, (omega arith, omega arith)))

upper_met : MeetsOutside Sfiw 2 sample_upper
upper_met = (written_met sample_upper (Wide sample_upper ∷ [], refl, refl) upper_spelled, (refl, refl, tt), (refl, λ held. let above = held.0 in omega arith))

pop_met : MeetsStop Sfiw 2 sample_pop
pop_met = (
  written_met sample_pop (Wide sample_pop ∷ [], refl, refl) pop_spelled,
  (refl, refl, tt),
  λ done. let e = sym (load_stops (words_of (sample_pop ∷ Op And 31 2 27 ∷ Op Or 2 31 26 ∷ [])) refl Sfiw) ∙ done in cc,
)

move_met : MeetsInside Sfiw 2 sample_move
move_met = (
  two_meet Sfiw refl sample_move (Op And 31 11 27) (Op Or 2 31 26) (op_spelled And 31 11 27 (omega arith) (omega arith) (omega arith)) mask_or refl,
  (refl, refl, tt),
  (refl, (omega arith, omega arith)),
)

-- ---- where they are single

single_load_met : MeetsTransparent Sfis sample_load
single_load_met = (
  two_meet Sfis refl sample_load (Op And 29 11 27) (Load Lw 10 29 (pos 0)) (op_spelled And 29 11 27 (omega arith) (omega arith) (omega arith))
      (load_spelled 10 29 0 (omega arith) (omega arith) (omega arith)) (Wide (Load Lw 10 29 (pos 0)) ∷ [], refl, refl),
  refl,
  (omega arith, omega arith),
  load_done (words_of (Op And 29 11 27 ∷ Load Lw 10 29 (pos 0) ∷ Op Or 2 31 26 ∷ [])) refl Sfis,
)

abbrev single_written : (i : Instr) → IsPlainExpansion Sfis false false i (Wide i ∷ Wide (Op And 2 2 27) ∷ []) → IsSpelled i → MeetsExpansion Sfis i
single_written i expansion spelled = two_meet Sfis refl i i (Op And 2 2 27) spelled mask_single expansion

single_push_met : MeetsInside Sfis 2 sample_push
single_push_met = (single_written sample_push (Wide sample_push ∷ [], refl, refl) push_spelled, (refl, refl, tt), (refl, (omega arith, omega arith)))

single_upper_met : MeetsOutside Sfis 2 sample_upper
single_upper_met = (single_written sample_upper (Wide sample_upper ∷ [], refl, refl) upper_spelled, (refl, refl, tt), (refl, λ held. let above = held.0 in omega arith))

single_pop_met : MeetsStop Sfis 2 sample_pop
single_pop_met = (
  single_written sample_pop (Wide sample_pop ∷ [], refl, refl) pop_spelled,
  (refl, refl, tt),
  λ done. let e = sym (load_stops (words_of (sample_pop ∷ Op And 2 2 27 ∷ Op Or 2 31 26 ∷ [])) refl Sfis) ∙ done in cc,
)

single_move_met : MeetsInside Sfis 2 sample_move
single_move_met = (
  one_meets Sfis refl sample_move (Op And 2 11 27) (IsPlainExpansion Sfis false false sample_move) (op_spelled And 2 11 27 (omega arith) (omega arith) (omega arith)) refl,
  (refl, refl, tt),
  (refl, (omega arith, omega arith)),
)

pub met_in_words : WordTransparencyCanBeMet
met_in_words = (low_met, each)
  where
    each : (f : Format) → has_words f ≡ true
        → MeetsTransparent f sample_load × MeetsTransparent f sample_jump × MeetsStep f sample_step (sample_use ∷ []) sample_push × MeetsInside f 2 sample_push × MeetsInside f 2 sample_move × MeetsOutside f 2 sample_upper × MeetsStop f 2 sample_pop
    each Sfi1 words = absurd (false≢true words)
    each Sfi2 words = absurd (false≢true words)
    each Sfiw words = (load_met, jump_met Sfiw refl, step_met Sfiw refl, push_met, move_met, upper_met, pop_met)
    each Sfis words = (single_load_met, jump_met Sfis refl, step_met Sfis refl, single_push_met, single_move_met, single_upper_met, single_pop_met)
