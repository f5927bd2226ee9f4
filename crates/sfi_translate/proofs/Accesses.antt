-- Where the accesses of a sandbox without a finding fall, and from which bases.
use Rattle.sfi_translate.proofs.Prelude.{◌≡◌, ℕ, ◌+◌, ◌≤◌, ◌∷◌, refl, sym, ap, ◌∙◌, subst, arith, inl, inr, Part}
use Rattle.std.proofs.Common.{true, false, ◌==◌, ⊎_elim}
use Rattle.std.specs.Prelude.{◌||◌, Bool, if◌then◌else◌}
use Rattle.std.proofs.lemmas.Bool.{and_parts, or_cases, eqb-true, not-false, false≢true}
use Rattle.rv_word.specs.declared.instr.Instr.{Instr}
use Rattle.rv_word.specs.declared.instr.Instr.TheVariants.{Op, OpImm, Load, Store, Branch, Jal, Jalr, Lui, Auipc, Fence, Ecall, Ebreak}
use Rattle.rv_step.specs.State.{State, register}
use Rattle.rv_step.specs.Step.{Stands}
use Rattle.sfi_formats.specs.Formats.{has_single_mask, has_stack, is_stack, is_data_register_in}
use Rattle.sfi_image.specs.Spelling.{IsNear, IsNearIn, IsNearZero, data_region}
use Rattle.sfi_rules.specs.Readings.{Piece, follows_data_pair}
use Rattle.sfi_rules.specs.Rules as bundle_rules
use Rattle.sfi_rules.specs.words.Rules as word_rules
use Rattle.sfi_safe_runs.specs.Runs.{InData, StackInData}
use Rattle.sfi_safety.specs.Places.{AreCleanBundles, IsGood}
use Rattle.sfi_safety.proofs.Effects.{Here}
use Rattle.sfi_safety.proofs.Registers.{is_of_pair, stack_here}
use Rattle.sfi_safety.proofs.Stepping as bundles
use Rattle.sfi_word_safety.specs.Code.{IsCleanInWords, IsGoodInWords, IsKnown}
use Rattle.sfi_word_safety.proofs.Stepping as words

-- the base of an access
abbrev pub IsBased : Part → State → Instr → Type 0
IsBased p s (Load kind rd rs1 imm) = IsNearIn p.format (data_region p) 4096 (register s.hart rs1)
IsBased p s (Store width rs1 rs2 imm) = IsNearIn p.format (data_region p) 4096 (register s.hart rs1)
IsBased p s i = Unit {0}

nearer : (p : Part) (far a : ℕ) → far ≤ 4096 → IsNear (data_region p) far a → IsNear (data_region p) 4096 a
nearer p far a less lies = let low = lies.low in let high = lies.high in record { low = omega (arith, less, low); high = omega (arith, less, high) }

nearer_zero : (size far a : ℕ) → far ≤ 4096 → IsNearZero size far a → IsNearZero size 4096 a
nearer_zero size far a less (inl below) = inl (omega (arith, less, below))
nearer_zero size far a less (inr (above, fits)) = inr (omega (arith, less, above), fits)

-- what is typed lies near the data, or where masks are single near the first addresses
near_in : (p : Part) (far a : ℕ) → far ≤ 4096 → IsNearIn p.format (data_region p) far a → IsNearIn p.format (data_region p) 4096 a
near_in p far a less (inl lies) = inl (nearer p far a less lies)
near_in p far a less (inr (one, zero)) = inr (one, nearer_zero p.data_size far a less zero)

inside : (p : Part) (a : ℕ) → InData p a → IsNearIn p.format (data_region p) 4096 a
inside p a (from, below) = inl (record { low = omega (arith, from); high = omega (arith, below) })

-- ---- in bundles

module _ (sandbox : ℕ) (p : Part) (s : State) (i : Instr) (n : ℕ) (here : Here sandbox p s.hart i n) where
  in_bundle : is_of_pair i ≡ false → (base : ℕ) → bundle_rules.may_access here.place.bundle base here.place.earlier ≡ true → IsNearIn p.format (data_region p) 4096 (register s.hart base)
  in_bundle other base may =
      ⊎_elim
      (λ (on : is_stack here.place.bundle.format base ≡ true).
      let parts = and_parts (has_stack here.place.bundle.format) (base == 2) on in
      let stack : StackInData p s.hart.registers = stack_here p here.place.earlier (record { instr = i; size = n }) here.place.later s.hart.registers other here.stack in
      inside p _ (subst (λ (r : ℕ). InData p (register s.hart r)) (sym (eqb-true base 2 parts.1)) (stack (sym here.format ∙ parts.0))))
      (λ (pair : follows_data_pair base here.place.earlier ≡ true). inside p _ (here.leaves.data_pair base pair))
      (or_cases (is_stack here.place.bundle.format base) (follows_data_pair base here.place.earlier) may)

bundle_based : (sandbox : ℕ) (p : Part) (s : State) (i : Instr) (n : ℕ) → Here sandbox p s.hart i n → IsBased p s i
bundle_based sandbox p s (Load kind rd rs1 imm) n here = in_bundle sandbox p s (Load kind rd rs1 imm) n here refl rs1 (not-false _ here.access)
bundle_based sandbox p s (Store width rs1 rs2 imm) n here = in_bundle sandbox p s (Store width rs1 rs2 imm) n here refl rs1 (not-false _ here.access)
bundle_based sandbox p s (Op op rd rs1 rs2) n here = tt
bundle_based sandbox p s (OpImm op rd rs1 imm) n here = tt
bundle_based sandbox p s (Branch cond rs1 rs2 offset) n here = tt
bundle_based sandbox p s (Jal rd offset) n here = tt
bundle_based sandbox p s (Jalr rd rs1 imm) n here = tt
bundle_based sandbox p s (Lui rd imm) n here = tt
bundle_based sandbox p s (Auipc rd imm) n here = tt
bundle_based sandbox p s (Fence imm rd rs1) n here = tt
bundle_based sandbox p s Ecall n here = tt
bundle_based sandbox p s Ebreak n here = tt

pub bundles_based : (sandbox : ℕ) (p : Part) (s : State) (i : Instr) (n : ℕ) → AreCleanBundles sandbox p → IsGood sandbox p s → Stands s i n → IsBased p s i
bundles_based sandbox p s i n clean good stands =
    let same = bundles.only sandbox p s clean good.place good.kept.code i n stands in
    subst (λ (j : Instr). IsBased p s j) (sym same.0) (bundle_based sandbox p s good.place.here.instr good.place.here.size (bundles.here sandbox p s clean good.place good.kept.code))

-- ---- in words

-- an access is no step of a mask, whether that has one step or two
neither : (one_step : Bool) → (if one_step then false else false) ≡ false
neither true = refl
neither false = refl

module _ (p : Part) (s : State) (clean : IsCleanInWords p) (good : IsGoodInWords p s) where
  in_word : (x : Piece) (base : ℕ) → ((d : ℕ) → word_rules.places p.format d x.instr ≡ false) → ((d : ℕ) → word_rules.masks p.format d x.instr ≡ false)
      → IsKnown p base (register s.hart base) (x ∷ good.place.place.later) → IsNearIn p.format (data_region p) 4096 (register s.hart base)
  in_word x base none none' (inl lies) = near_in p 1020 _ (omega arith) lies
  in_word x base none none' (inr (inl e)) = absurd (false≢true (sym (none base) ∙ e))
  in_word x base none none' (inr (inr (inl e))) = absurd (false≢true (sym (none' base) ∙ (and_parts (word_rules.masks p.format base x.instr) (has_single_mask p.format || word_rules.begins_placing p.format base good.place.place.later) e).0))
  in_word x base none none' (inr (inr (inr (lies, used)))) = near_in p (1020 + 2048) _ (omega arith) lies

  of_base : (base : ℕ) → word_rules.may_access p.format base ≡ true → ((d : ℕ) → word_rules.places p.format d good.place.place.here.instr ≡ false) → ((d : ℕ) → word_rules.masks p.format d good.place.place.here.instr ≡ false)
      → IsNearIn p.format (data_region p) 4096 (register s.hart base)
  of_base base may none none' =
      ⊎_elim typed (on_base (has_single_mask p.format) refl) (or_cases (is_data_register_in p.format base) (base == 26) may)
    where
      typed : is_data_register_in p.format base ≡ true → IsNearIn p.format (data_region p) 4096 (register s.hart base)
      typed is = in_word good.place.place.here base none none' (good.place.known.each_data base is)

      on_base : (o : Bool) → has_single_mask p.format ≡ o → (base == 26) ≡ true → IsNearIn p.format (data_region p) 4096 (register s.hart base)
      on_base true one is = typed (subst (λ (r : ℕ). is_data_register_in p.format r ≡ true) (sym (eqb-true base 26 is)) one)
      on_base false two is =
          let e : register s.hart base ≡ p.data_base = ap (λ (r : ℕ). register s.hart r) (eqb-true base 26 is) ∙ good.kept.reserved.data_base two in
          let some : 256 ≤ p.data_size = clean.right.data_placed.at_least in
          inl (record { low = omega (arith, e); high = omega (arith, e, some) })

  word_based : (i : Instr) → good.place.place.here.instr ≡ i → word_rules.breaks_access p.format i ≡ false → IsBased p s i
  word_based (Load kind rd rs1 imm) e free = of_base rs1 (not-false _ free) (λ d. ap (word_rules.places p.format d) e ∙ neither (has_single_mask p.format)) (λ d. ap (word_rules.masks p.format d) e ∙ neither (has_single_mask p.format))
  word_based (Store width rs1 rs2 imm) e free = of_base rs1 (not-false _ free) (λ d. ap (word_rules.places p.format d) e ∙ neither (has_single_mask p.format)) (λ d. ap (word_rules.masks p.format d) e ∙ neither (has_single_mask p.format))
  word_based (Op op rd rs1 rs2) e free = tt
  word_based (OpImm op rd rs1 imm) e free = tt
  word_based (Branch cond rs1 rs2 offset) e free = tt
  word_based (Jal rd offset) e free = tt
  word_based (Jalr rd rs1 imm) e free = tt
  word_based (Lui rd imm) e free = tt
  word_based (Auipc rd imm) e free = tt
  word_based (Fence imm rd rs1) e free = tt
  word_based Ecall e free = tt
  word_based Ebreak e free = tt

pub words_based : (p : Part) (s : State) (i : Instr) (n : ℕ) → IsCleanInWords p → IsGoodInWords p s → Stands s i n → IsBased p s i
words_based p s i n clean good stands =
    let same = words.only p s clean good i n stands in
    word_based p s clean good i (sym same.0) (subst (λ (j : Instr). word_rules.breaks_access p.format j ≡ false) (sym same.0) good.place.place.none.0.access)
