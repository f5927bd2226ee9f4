-- A run comes to a state that has all data: from an entry, by a change that brings them.
use Rattle.sfi_translate.proofs.Prelude.{◌≡◌, ℕ, zero, suc, ◌+◌, ◌≤◌, List, [], ◌∷◌, ◌++◌, refl, sym, ap, ◌∙◌, subst, arith, inl, inr, Part}
use Rattle.std.proofs.Common.{◌^◌, ◌<◌, ◌⊎◌, Option, Some, None, ⊎_elim}
use Rattle.std.specs.FinMap.{insert}
use Rattle.std.specs.Prelude.{is_some}
use Rattle.std.proofs.lemmas.Bool.{cases_lt}
use Rattle.rv_mem.specs.Bytes.{Bytes, IsMemory, byte_at}
use Rattle.rv_step.specs.declared.outcome.Outcome.TheVariants.{Next}
use Rattle.rv_step.specs.State.{State, IsState}
use Rattle.rv_step.specs.Rows.{LeadTo}
use Rattle.sfi_safe_runs.specs.Runs.{InGuard, InCode, Turn, Steps, Changes, IsTurn, IsRun, after_turn}
use Rattle.sfi_safe_runs.specs.Calling.{after_turns}
use Rattle.sfi_safe_runs.proofs.Entries.{insert_is, inserted_here, inserted_elsewhere}
use Rattle.sfi_safe_runs.proofs.Facts.{has_entries}
use Rattle.sfi_translate.specs.Laws.{HasData, HasReached, IsReached}
use Rattle.sfi_translate.specs.Ready.{EntriesAreReached, ReachedGoOn}

-- the memory with zeros at n addresses
zeros : Bytes → ℕ → ℕ → Bytes
zeros m at zero = m
zeros m at (suc n) = insert (zeros m (at + 1) n) at 0

zeros_are : (m : Bytes) (at n : ℕ) → IsMemory m → at + n ≤ 2 ^ 32 → IsMemory (zeros m at n)
unfolding zeros
zeros_are m at zero is fits = is
zeros_are m at (suc n) is fits = insert_is (zeros m (at + 1) n) at 0 (zeros_are m (at + 1) n is (omega (arith, fits))) (omega (arith, fits)) (omega arith)

zero_there : (m : Bytes) (at n a : ℕ) → at ≤ a → a < at + n → byte_at (zeros m at n) a ≡ Some 0
unfolding zeros
zero_there m at zero a from below = absurd (omega (arith, from, below))
zero_there m at (suc n) a from below =
    ⊎_elim
    (λ (later : at < a). inserted_elsewhere (zeros m (at + 1) n) at 0 a (λ same. omega (arith, later, same)) ∙ zero_there m (at + 1) n a (omega (arith, later)) (omega (arith, below)))
    (λ (here : a ≤ at). inserted_here (zeros m (at + 1) n) at 0 a (omega (arith, from, here)))
    (cases_lt at a)

same_elsewhere : (m : Bytes) (at n a : ℕ) → (a < at) ⊎ (at + n ≤ a) → byte_at (zeros m at n) a ≡ byte_at m a
unfolding zeros
same_elsewhere m at zero a out = refl
same_elsewhere m at (suc n) a (inl less) = inserted_elsewhere (zeros m (at + 1) n) at 0 a (λ same. omega (arith, less, same)) ∙ same_elsewhere m (at + 1) n a (inl (omega (arith, less)))
same_elsewhere m at (suc n) a (inr more) = inserted_elsewhere (zeros m (at + 1) n) at 0 a (λ same. omega (arith, more, same)) ∙ same_elsewhere m (at + 1) n a (inr (omega (arith, more)))

pub reached : HasReached
reached p at right apart small start =
    let entry = has_entries p at right apart small start in
    let s = entry.0 in
    let m : Bytes = zeros s.memory p.data_base p.data_size in
    let after : State = record { hart = s.hart; memory = m } in
    let above : p.data_base + p.data_size + 4096 ≤ 2 ^ 32 = right.guard_room.above in
    let below : 4096 ≤ p.data_base = right.guard_room.below in (
      after,
      entry.1,
      record {
        first = s;
        entry = entry.2;
        turns = Changes after ∷ [];
        run = (record { pc = refl; registers = refl; bytes = record { code = λ a inside. same_elsewhere s.memory p.data_base p.data_size a (out_of_code a inside); guards = λ a guard none. same_elsewhere s.memory p.data_base p.data_size a (out_of_guards a guard) ∙ none } }, tt);
        after = refl;
        state = record { hart = entry.2.state.hart; memory = zeros_are s.memory p.data_base p.data_size entry.2.state.memory (omega (arith, above)) };
        has_data = λ a inside. ap is_some (zero_there s.memory p.data_base p.data_size a inside.0 inside.1);
      },
    )
  where
    out_of_code : (a : ℕ) → InCode p a → (a < p.data_base) ⊎ (p.data_base + p.data_size ≤ a)
    out_of_code a inside =
        ⊎_elim
        (λ (less : a < p.data_base). inl less)
        (λ (from : p.data_base ≤ a). ⊎_elim
        (λ (less : a < p.data_base + p.data_size). absurd (apart a inside (omega (arith, from), omega (arith, less, right.guard_room.below))))
        (λ (more : p.data_base + p.data_size ≤ a). inr more)
        (cases_lt a (p.data_base + p.data_size)))
        (cases_lt a p.data_base)

    out_of_guards : (a : ℕ) → InGuard p a → (a < p.data_base) ⊎ (p.data_base + p.data_size ≤ a)
    out_of_guards a (inl (inl (from, less))) = inl (omega (arith, less, right.guard_room.below))
    out_of_guards a (inl (inr (from, less))) = inr from
    out_of_guards a (inr (one_step, inl low)) = let clear = (right.zone_room one_step).data_above in inl (omega arith)
    out_of_guards a (inr (one_step, inr (high, word))) = let room = right.guard_room.above in inr (omega arith)

-- ---- from a state that a run comes to, steps lead to one

run_further : (p : Part) (turns : List Turn) (turn : Turn) (a : State) (o : Option State) → IsRun p o turns → after_turns o turns ≡ Some a → IsTurn p a turn
    → IsRun p o (turns ++ (turn ∷ [])) × (after_turns o (turns ++ (turn ∷ [])) ≡ after_turn turn)
run_further p [] turn a None run after is = absurd (cc)
run_further p [] turn a (Some s) run after is = let e : s ≡ a = cc in ((subst (λ (x : State). IsTurn p x turn) (sym e) is, tt), refl)
run_further p (x ∷ turns) turn a None run after is = absurd run
run_further p (x ∷ turns) turn a (Some s) run after is = let rest = run_further p turns turn a (after_turn x) run.1 after is in ((run.0, rest.0), rest.1)

run_leads : (p : Part) (first : State) (k : ℕ) (turns : List Turn) (s g : State) → IsRun p (Some first) turns → after_turns (Some first) turns ≡ Some s → LeadTo k s g
    → (more : List Turn) × IsRun p (Some first) more × (after_turns (Some first) more ≡ Some g)
run_leads p first zero turns s g run after lead = (turns, run, after ∙ ap (λ (x : State). Some x) (sym lead))
run_leads p first (suc k) turns s g run after lead =
    let step = Steps (record { outcome = Next; state = lead.0 }) in
    let one = run_further p turns step s (Some first) run after lead.1 in
    run_leads p first k (turns ++ (step ∷ [])) lead.0 g one.0 one.1 lead.2

pub reached_on : (p : Part) (s g : State) (k : ℕ) → IsReached p s → LeadTo k s g → IsState g → HasData p g.memory → IsReached p g
reached_on p s g k from lead state has =
    let to = run_leads p from.first k from.turns s g from.run from.after lead in
    record { first = from.first; entry = from.entry; turns = to.0; run = to.1; after = to.2; state = state; has_data = has }

-- ---- from one turn to the next

pub entries_are_reached : EntriesAreReached
entries_are_reached p s entry has = record { first = s; entry = entry; turns = []; run = tt; after = refl; state = entry.state; has_data = has }

pub reached_go_on : ReachedGoOn
reached_go_on p s u turn from is next state has =
    let more = run_further p from.turns turn s (Some from.first) from.run from.after is in
    record { first = from.first; entry = from.entry; turns = from.turns ++ (turn ∷ []); run = more.0; after = more.1 ∙ next; state = state; has_data = has }
