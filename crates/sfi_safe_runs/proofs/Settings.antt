-- Every setting has entries, with all that it allows in memory, and replies.
use Rattle.sfi_safe_runs.proofs.Prelude.{◌≡◌, ℕ, ◌+◌, ◌%◌, ◌^◌, ◌<◌, ◌≤◌, refl, ◌∙◌, arith, length, Ecall, Bytes, byte_at, Hart, IsHart, State, Part, IsRightPart, InGuard, HasCode}
use Rattle.rv_step.specs.State.{past}
use Rattle.sfi_image.proofs.Facts.{code_ends}
use Rattle.sfi_safe_runs.specs.Laws.{EntersAnyway, ChangesAnyway, GuardsHoldAnything, BoardsHoldAnything, RepliesAnyway}
use Rattle.sfi_safe_runs.specs.Runs.{Zones, Empty, Padded, Calls, ByEcall, Direct, IsOwnCode, HasEcall, HasCodeAs, HasEmptyGuards, HasGuards, KeepsGuards, InCode, Asks}
use Rattle.sfi_safe_runs.proofs.Stepping.{stands_there}
use Rattle.sfi_safe_runs.proofs.SafeRuns.{keeps_guards}

-- ---- entries

code_anyway : (c : Calls) (p : Part) (m : Bytes) → HasCode p m → HasCodeAs c p m
code_anyway ByEcall p m code = code
code_anyway (Direct direct) p m code = λ k below off. code k below

guards_anyway : (z : Zones) (p : Part) (m : Bytes) → HasEmptyGuards p m → HasGuards z p m
guards_anyway Empty p m empty = empty
guards_anyway Padded p m empty = tt

pub enters_anyway : EntersAnyway
enters_anyway t p s entry = record {
  state = entry.state;
  start = entry.start;
  reserved = entry.reserved;
  typed = entry.typed;
  code = code_anyway t.calls p s.memory entry.code;
  guards = guards_anyway t.zones p s.memory entry.guards;
}

-- code that stays where it is the sandbox's own is still the image's
code_holds : (c : Calls) (p : Part) (before after : Bytes) → ((k : ℕ) → k < length p.code → byte_at after (p.code_base + k) ≡ byte_at before (p.code_base + k)) → HasCodeAs c p before → HasCodeAs c p after
code_holds ByEcall p before after same code = λ k below. same k below ∙ code k below
code_holds (Direct direct) p before after same code = λ k below off. same k below ∙ code k below off

pub guards_hold_anything : GuardsHoldAnything
guards_hold_anything calls p s m right apart entry is stays = record {
  state = record { hart = entry.state.hart; memory = is };
  start = entry.start;
  reserved = entry.reserved;
  typed = entry.typed;
  code = code_holds calls p s.memory m (λ k below. stays (p.code_base + k) (λ guarded. apart (p.code_base + k) (omega arith, omega (arith, below)) guarded)) entry.code;
  guards = tt;
}

guards_hold : (z : Zones) (p : Part) (before after : Bytes) → ((a : ℕ) → InGuard p a → byte_at after a ≡ byte_at before a) → HasGuards z p before → HasGuards z p after
guards_hold Empty p before after same empty = λ a guard. same a guard ∙ empty a guard
guards_hold Padded p before after same any = tt

pub boards_hold_anything : BoardsHoldAnything
boards_hold_anything zones direct p s m is stays guards entry = record {
  state = record { hart = entry.state.hart; memory = is };
  start = entry.start;
  reserved = entry.reserved;
  typed = entry.typed;
  code = λ k below off. stays (p.code_base + k) off ∙ entry.code k below off;
  guards = guards_hold zones p s.memory m guards entry.guards;
}

-- ---- changes

own_in_code : (c : Calls) (p : Part) (a : ℕ) → IsOwnCode c p a → InCode p a
own_in_code ByEcall p a own = own
own_in_code (Direct direct) p a own = own.0

guards_change : (z : Zones) (p : Part) (before after : Bytes) → KeepsGuards Empty p before after → KeepsGuards z p before after
guards_change Empty p before after keeps = keeps
guards_change Padded p before after keeps = tt

pub changes_anyway : ChangesAnyway
changes_anyway t p s after c = record {
  pc = c.pc;
  registers = c.registers;
  bytes = record { code = λ a own. c.bytes.code a (own_in_code t.calls p a own); guards = guards_change t.zones p s.memory after.memory c.bytes.guards };
}

-- ---- replies

asks : (c : Calls) (p : Part) (s : State) → IsRightPart p → HasCodeAs c p s.memory → HasEcall p s.hart.pc → Asks c p s 4
asks ByEcall p s right code e = stands_there p right s.hart e.offset 4 e.address e.within s.memory Ecall code e.spelled
asks (Direct direct) p s right code e = (e, refl)

goes_on : (p : Part) (h : Hart) → IsRightPart p → HasEcall p h.pc → IsHart h → IsHart (past h 4)
goes_on p h right e is =
    let end : p.code_base + length p.code ≤ 2 ^ 32 = code_ends p right in
    let at : h.pc ≡ p.code_base + e.offset = e.address in
    let inside : e.offset + 4 ≤ length p.code = e.within in
    let even : h.pc % 2 ≡ 0 = is.even in
    record { even = omega arith; address = omega arith; count = is.count; words = is.words; zero = is.zero }

pub replies_anyway : RepliesAnyway
replies_anyway t p s right state code typed e = (
  record { hart = past s.hart 4; memory = s.memory },
  record {
    size = 4;
    asked = asks t.calls p s right code e;
    state = record { hart = goes_on p s.hart right e state.hart; memory = state.memory };
    pc = refl;
    reserved = record { code_base = refl; code_mask = refl; data_base = λ two. refl; data_mask = refl };
    typed = typed;
    bytes = record { code = λ a own. refl; guards = keeps_guards t.zones p s.memory };
  },
)
