-- What holds wherever a run comes, of registers and accesses.
use Rattle.sfi_translate.proofs.Prelude.{◌≡◌, ℕ, zero, suc, ◌≤◌, refl, sym, ◌∙◌, subst, arith, inl, inr, Part}
use Rattle.std.proofs.Common.{◌<◌, ◌⊎◌, true, false, Option, Some, ⊎_elim}
use Rattle.std.specs.Prelude.{ℤ, IfSome}
use Rattle.std.specs.List.{Contains}
use Rattle.std.proofs.lemmas.Bool.{cases_Bool, cases_lt, false≢true}
use Rattle.rv_word.specs.declared.instr.Instr.{Instr}
use Rattle.rv_word.specs.declared.instr.Instr.TheVariants.{Op, OpImm, Load, Store, Branch, Jal, Jalr, Lui, Auipc, Fence, Ecall, Ebreak}
use Rattle.rv_word.specs.Spelling.{offset_by}
use Rattle.rv_mem.specs.Bytes.{addresses, address_after}
use Rattle.rv_mem.proofs.Facts.{addresses_are_these}
use Rattle.rv_step.specs.State.{State, register}
use Rattle.rv_step.specs.Step.{Accesses, IsStep, Stands, effect, load_size, store_size}
use Rattle.rv_comp.specs.declared.front.Front.TheVariants.{Read}
use Rattle.sfi_image.specs.Parts.{IsRightPart}
use Rattle.sfi_image.specs.Spelling.{AreApart, IsNearIn, code_region, data_region, guarded_region}
use Rattle.sfi_safe_runs.specs.Runs.{InData, InGuard, Turn, Steps, IsTurn, after_turn}
use Rattle.sfi_safe_runs.specs.Safety.{IsSafeState, IsSafeTurn}
use Rattle.sfi_safe_runs.specs.Calling.{KeepsAll}
use Rattle.sfi_safe_runs.proofs.Accessing.{load_sized, store_sized}
use Rattle.sfi_translate.specs.Machine.{fixed, is_tested}
use Rattle.sfi_translate.specs.Laws.{IsReached}
use Rattle.sfi_translate.specs.Ready.{AccessesSafely, IsSafeAccess}
use Rattle.sfi_translate.proofs.Accesses.{IsBased}
use Rattle.sfi_translate.proofs.LineSteps.{access_there, fixed_is, tested_of}
use Rattle.sfi_translate.proofs.Moves.{run_good}

module _ (p : Part) (s : State) (reached : IsReached p s) (Good : State → Type 0) (keeps : (u : State) (one : Turn) → Good u → IsTurn p u one → IsSafeState p u × IsSafeTurn p u one × IfSome (after_turn one) Good)
    (kept : (u : State) → Good u → KeepsAll p u) (first : Good reached.first) where
  good_here : Good s
  good_here = subst (λ (o : Option State). IfSome o Good) reached.after (run_good p Good keeps reached.turns (Some reached.first) first reached.run)

  pub fixed_here : fixed p s.hart ≡ s.hart
  fixed_here = fixed_is p s.hart reached.state.hart.zero (kept s good_here).reserved

  -- ---- accesses

  -- those of a state without a byte in a guard zone lie in the data
  all_or_one : (at n : ℕ) → ((k : ℕ) → k < n → InData p (address_after at k) ⊎ InGuard p (address_after at k)) → ((k : ℕ) → k < n → InData p (address_after at k)) ⊎ ((k : ℕ) × (k < n) × InGuard p (address_after at k))
  all_or_one at zero each = inl (λ k below. absurd (omega (arith, below)))
  all_or_one at (suc n) each =
      ⊎_elim
      (λ (here : InData p (address_after at n)).
      ⊎_elim
      (λ (all : (k : ℕ) → k < n → InData p (address_after at k)). inl (λ k below. ⊎_elim (λ (less : k < n). all k less) (λ (more : n ≤ k). let e : n ≡ k = omega (arith, below, more) in subst (λ j. InData p (address_after at j)) e here) (cases_lt k n)))
      (λ (one : (k : ℕ) × (k < n) × InGuard p (address_after at k)). let below = one.1 in inr (one.0, omega (arith, below), one.2))
      (all_or_one at n (λ k below. each k (omega (arith, below)))))
      (λ (there : InGuard p (address_after at n)). inr (n, omega arith, there))
      (each n (omega arith))

  module _ (right : IsRightPart p) (apart : AreApart (code_region p) (guarded_region p)) (base : ℕ) (offset : ℤ) (n : ℕ) (some : 0 < n) (few : n ≤ 4) (near : IsNearIn p.format (data_region p) 4096 base)
      (each : (a : ℕ) → Contains (addresses (offset_by base offset) n) a → InData p a ⊎ InGuard p a) where
    abbrev at : ℕ
    at = offset_by base offset

    by_number : (k : ℕ) → k < n → InData p (address_after at k) ⊎ InGuard p (address_after at k)
    by_number k below = each (address_after at k) ((addresses_are_these at n (address_after at k)).1 (k, below, refl))

    all_in : ((k : ℕ) → k < n → InData p (address_after at k)) → (a : ℕ) → Contains (addresses at n) a → InData p a
    all_in all a has = let one = (addresses_are_these at n a).0 has in subst (λ (x : ℕ). InData p x) (sym one.2) (all one.0 one.1)

    fails : is_tested p at n ≡ false → (a : ℕ) × Contains (addresses at n) a × InGuard p a
    fails none =
        ⊎_elim
        (λ (all : (k : ℕ) → k < n → InData p (address_after at k)). absurd (false≢true (sym none ∙ tested_of p right apart s (kept s good_here) at n some few (all_in all))))
        (λ (one : (k : ℕ) × (k < n) × InGuard p (address_after at k)). (address_after at one.0, (addresses_are_these at n (address_after at one.0)).1 (one.0, one.1, refl), one.2))
        (all_or_one at n by_number)

    safe : IsSafeAccess p s.memory base offset n
    safe = (
      record { from = near; each = each },
      ⊎_elim
          (λ (e : is_tested p at n ≡ true). inl (e, access_there p right s.memory reached.has_data at n few e))
          (λ (e : is_tested p at n ≡ false). inr (e, fails e))
          (cases_Bool (is_tested p at n)),
    )

  module _ (right : IsRightPart p) (apart : AreApart (code_region p) (guarded_region p)) where
    by_instruction : (i : Instr) → IsBased p s i → ((a : ℕ) → Accesses i s.hart a → InData p a ⊎ InGuard p a) → AccessesSafely p s i
    by_instruction (Load kind rd rs1 imm) based near = safe right apart (register s.hart rs1) imm (load_size kind) (load_sized kind).some (load_sized kind).most based near
    by_instruction (Store width rs1 rs2 imm) based near = safe right apart (register s.hart rs1) imm (store_size width) (store_sized width).some (store_sized width).most based near
    by_instruction (Op op rd rs1 rs2) based near = tt
    by_instruction (OpImm op rd rs1 imm) based near = tt
    by_instruction (Branch cond rs1 rs2 offset) based near = tt
    by_instruction (Jal rd offset) based near = tt
    by_instruction (Jalr rd rs1 imm) based near = tt
    by_instruction (Lui rd imm) based near = tt
    by_instruction (Auipc rd imm) based near = tt
    by_instruction (Fence imm rd rs1) based near = tt
    by_instruction Ecall based near = tt
    by_instruction Ebreak based near = tt

    pub accesses_here : ((u : State) (i : Instr) (n : ℕ) → Good u → Stands u i n → IsBased p u i) → (i : Instr) (n : ℕ) → Stands s i n → AccessesSafely p s i
    accesses_here based i n stands =
        let step : IsStep s (effect i n s.hart s.memory) = record { front = Read i n; at_pc = stands; result = refl } in
        let safe_step = (keeps s (Steps (effect i n s.hart s.memory)) good_here step).1 in
        by_instruction i (based s i n good_here stands) (λ a has. safe_step.within i n stands a has)
