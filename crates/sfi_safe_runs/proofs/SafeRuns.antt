-- Runs that are safe: what follows from it, and what it follows from.
use Rattle.sfi_safe_runs.proofs.Prelude.{ℕ, [], ◌∷◌, Option, Some, None, Bool, true, false, cond, sym, ap, ◌∙◌, subst, is_some, offset_by, Instr, Load, Store, LoadKind, Bytes, bytes_at, addresses, loaded, Next, Call, Trap, Outcome, Hart, State, register, Stepped, IsStep, effect, after_load, next, unchanged, load_size, store_size, Part, IsRun, after_turns, IsSafeRun, RunsSafelyFrom, SafeTurns, SafeStaysSafe, SafeFetches, GoesOnSafely, ◌+◌, List, length, refl, arith, Ecall, Stands, HasReserved, HasCode, IsTyped, Turn, Changes, after_turn, IsSafeState, Steps, Replies}
use Rattle.rv_step.specs.declared.outcome.Cause.TheVariants as cause
use Rattle.rv_step.proofs.Facts.{step_is_effect}
use Rattle.std.specs.Prelude.{◌≡◌, IfSome}
use Rattle.sfi_safe_runs.specs.Runs.{KeepsReserved, Zones, Empty, Padded, plain, by_ecall, HasGuards, KeepsGuards, KeepsBytesAs, IsEntryAs, IsReplyAs, IsChangeAs, IsTurnAs, IsRunAs}
use Rattle.sfi_safe_runs.specs.Laws.{SafeTurnsAs}
use Rattle.sfi_safe_runs.specs.Safety.{IsSafeStepAs, IsSafeTurnAs, IsSafeRunAs, RunsSafelyAs}
use Rattle.sfi_safe_runs.specs.Calling.{KeepsAllAs, CallsTypedAs}
use Rattle.rv_comp.specs.declared.front.Front.TheVariants.{Read}
use Rattle.sfi_image.specs.Parts.{reserved_of}

-- ==== What follows from that every run is safe.

-- ---- from a state on

pub turns_safe_as : SafeTurnsAs
turns_safe_as t p s turn from h = let run = from.safe (turn ∷ []) (h, tt) in (run.0, run.1)

pub turns_safe : SafeTurns
turns_safe = turns_safe_as plain

pub stays_safe : SafeStaysSafe
stays_safe p s after turn from h e = record {
  safe = λ turns run.
      let whole = from.safe (turn ∷ turns) (h, subst (λ (o : Option State). IsRun p o turns) (sym e) run) in
      subst (λ (o : Option State). IsSafeRun p o turns) e whole.2;
}

-- a step of an instruction traps at an access or an ebreak alone
abbrev IsFetch : Outcome → Type 0
IsFetch Next = ⊥
IsFetch Call = ⊥
IsFetch (Trap cause.Fetch at) = Unit {0}
IsFetch (Trap cause.Illegal at) = Unit {0}
IsFetch (Trap cause.Break at) = ⊥
IsFetch (Trap cause.Load at) = ⊥
IsFetch (Trap cause.Store at) = ⊥

load_fetch : (o : Option ℕ) (kind : LoadKind) (rd at n : ℕ) (h : Hart) (m : Bytes) → IsFetch (after_load o kind rd at n h m).outcome → ⊥
load_fetch None kind rd at n h m f = f
load_fetch (Some v) kind rd at n h m f = f

store_fetch : (b : Bool) (at : ℕ) (k : Hart) (w : Bytes) (h : Hart) (m : Bytes) → IsFetch (cond b (next k w) (unchanged (Trap cause.Store at) h m)).outcome → ⊥
store_fetch true at k w h m f = f
store_fetch false at k w h m f = f

effect_fetch : (i : Instr) (n : ℕ) (h : Hart) (m : Bytes) → IsFetch (effect i n h m).outcome → ⊥
effect_fetch (Load kind rd rs1 imm) n h m f = load_fetch (loaded m (offset_by (register h rs1) imm) (load_size kind)) kind rd _ n h m f
effect_fetch (Store width rs1 rs2 imm) n h m f = store_fetch (is_some (bytes_at m (addresses (offset_by (register h rs1) imm) (store_size width)))) _ _ _ h m f
effect_fetch other n h m f = f

never : (p : Part) (s : State) (r : Stepped) → RunsSafelyFrom p s → IsStep s r → IsFetch r.outcome → ⊥
never p s r from step f =
    let at = (from.safe [] tt).present in
    effect_fetch at.instr at.size s.hart s.memory (subst (λ (x : Stepped). IsFetch x.outcome) (step_is_effect s at.instr at.size r at.stands step) f)

pub fetches : SafeFetches
fetches p s r at from step = (
  λ e. never p s r from step (subst (λ (o : Outcome). IsFetch o) (sym e) tt),
  λ e. never p s r from step (subst (λ (o : Outcome). IsFetch o) (sym e) tt),
)

pub goes_on : GoesOnSafely
goes_on p s after turn from h e = record {
  safe = stays_safe p s after turn from.safe h e;
  calls = record {
    typed = λ turns at n run is stands.
        from.calls.typed (turn ∷ turns) at n (h, subst (λ (o : Option State). IsRun p o turns) (sym e) run) (ap (λ (o : Option State). after_turns o turns) e ∙ is) stands;
  };
}

-- ==== What a reply and a change by others keep, and that runs are safe where each turn keeps a good state.

-- ---- what is kept

code_kept : (z : Zones) (p : Part) (before after : Bytes) → KeepsBytesAs (by_ecall z) p before after → HasCode p before → HasCode p after
code_kept z p before after keeps has k below = keeps.code (p.code_base + k) (omega arith, omega (arith, below)) ∙ has k below

guards_kept : (z : Zones) (p : Part) (before after : Bytes) → KeepsGuards z p before after → HasGuards z p before → HasGuards z p after
guards_kept Empty p before after keeps has = λ a guard. keeps a guard (has a guard)
guards_kept Padded p before after keeps has = tt

pub entry_keeps : (z : Zones) (p : Part) (s : State) → IsEntryAs (by_ecall z) p s → KeepsAllAs z p s
entry_keeps z p s entry = record { count = entry.state.hart.count; reserved = entry.reserved; code = entry.code; guards = entry.guards }

-- what a reply keeps, of which only this is asked
pub kept_after : (z : Zones) (p : Part) (s after : State) → KeepsAllAs z p s → length after.hart.registers ≡ 32 → KeepsReserved p.format s.hart after.hart → KeepsBytesAs (by_ecall z) p s.memory after.memory → KeepsAllAs z p after
kept_after z p s after kept count reserved bytes = record {
  count = count;
  reserved = record {
    code_base = reserved.code_base ∙ kept.reserved.code_base;
    code_mask = reserved.code_mask ∙ kept.reserved.code_mask;
    data_base = λ two. reserved.data_base two ∙ kept.reserved.data_base two;
    data_mask = reserved.data_mask ∙ kept.reserved.data_mask;
  };
  code = code_kept z p s.memory after.memory bytes kept.code;
  guards = guards_kept z p s.memory after.memory bytes.guards kept.guards;
}

pub reply_keeps : (z : Zones) (p : Part) (s after : State) → KeepsAllAs z p s → IsReplyAs (by_ecall z) p s after → KeepsAllAs z p after
reply_keeps z p s after kept r = kept_after z p s after kept r.state.hart.count r.reserved r.bytes

pub change_keeps : (z : Zones) (p : Part) (s after : State) → KeepsAllAs z p s → IsChangeAs (by_ecall z) p s after → KeepsAllAs z p after
change_keeps z p s after kept c = record {
  count = ap length c.registers ∙ kept.count;
  reserved = subst (λ (l : List ℕ). HasReserved p.format (reserved_of p) l) (sym c.registers) kept.reserved;
  code = code_kept z p s.memory after.memory c.bytes kept.code;
  guards = guards_kept z p s.memory after.memory c.bytes.guards kept.guards;
}

-- a step at an ecall comes to a call
call_step : (s : State) (n : ℕ) → Stands s Ecall n → IsStep s (unchanged Call s.hart s.memory)
call_step s n stands = record { front = Read Ecall n; at_pc = stands; result = refl }

-- a turn is safe where each step is
pub turn_safe : (z : Zones) (p : Part) (s : State) → ((r : Stepped) → IsStep s r → IsSafeStepAs z p s r) → (turn : Turn) → IsTurnAs (by_ecall z) p s turn → IsSafeTurnAs z p s turn
turn_safe z p s steps (Steps r) h = steps r h
turn_safe z p s steps (Replies after) h = (steps (unchanged Call s.hart s.memory) (call_step s h.size h.asked)).called refl
turn_safe z p s steps (Changes after) h = tt

-- ---- runs

pub keeps_guards : (z : Zones) (p : Part) (m : Bytes) → KeepsGuards z p m m
keeps_guards Empty p m = λ a guard e. e
keeps_guards Padded p m = tt

-- a change that changes nothing
pub no_change : (z : Zones) (p : Part) (s : State) → IsChangeAs (by_ecall z) p s s
no_change z p s = record { pc = refl; registers = refl; bytes = record { code = λ a inside. refl; guards = keeps_guards z p s.memory } }

-- states are good, if an entry is good, and a turn from a good state is safe and leads to a good one
module _ (z : Zones) (p : Part) (IsGood : State → Type 0)
    (keeps : (s : State) (turn : Turn) → IsGood s → IsTurnAs (by_ecall z) p s turn → IsSafeState p s × IsSafeTurnAs z p s turn × IfSome (after_turn turn) IsGood)
    (enters : (s : State) → IsEntryAs (by_ecall z) p s → IsGood s) where
  run_safe : (turns : List Turn) (o : Option State) → IfSome o IsGood → IsRunAs (by_ecall z) p o turns → IsSafeRunAs (by_ecall z) p o turns
  run_safe [] None good run = tt
  run_safe [] (Some s) good run = (keeps s (Changes s) good (no_change z p s)).0
  run_safe (turn ∷ turns) None good run = tt
  run_safe (turn ∷ turns) (Some s) good run =
      let kept = keeps s turn good run.0 in
      (kept.0, kept.1, run_safe turns (after_turn turn) kept.2 run.1)

  pub runs_safely : RunsSafelyAs (by_ecall z) p
  runs_safely = record { from = λ s entry. record { safe = λ turns run. run_safe turns (Some s) (enters s entry) run } }

  run_good : (turns : List Turn) (o : Option State) → IfSome o IsGood → IsRunAs (by_ecall z) p o turns → IfSome (after_turns o turns) IsGood
  run_good [] o good run = good
  run_good (turn ∷ turns) None good run = tt
  run_good (turn ∷ turns) (Some s) good run = run_good turns (after_turn turn) (keeps s turn good run.0).2 run.1

  -- and the typed registers hold what their types say at each call, if they do in a good state
  pub calls_typed : ((s : State) (n : ℕ) → IsGood s → Stands s Ecall n → IsTyped p s.hart.registers) → CallsTypedAs (by_ecall z) p
  calls_typed typed = record {
    from = λ s entry. record {
      typed = λ turns at n run after stands.
          typed at n (subst (λ (o : Option State). IfSome o IsGood) after (run_good turns (Some s) (enters s entry) run)) stands;
    };
  }
