-- What leaves a sandbox safe.
use Rattle.sfi_host.proofs.Prelude.{◌≡◌, ◌≢◌, ◌⊎◌, ℕ, ◌+◌, ◌^◌, ◌<◌, List, [], length, true, refl, sym, ap, ◌∙◌, subst, arith, get_or-set_other, slice_index, slice_set, Ecall, Bytes, IsMemory, byte_at, address_after, Hart, IsHart, IsState, past, Stands, Part, Holds, InZones, AreApart, with_guards, code_region, guarded_region, InCode, InData, InGuard, IsEntry, Replies, Changes, KeepsBytes, KeepsReserved, IsReply, GoesSafelyFrom, Ready, IsEnterable, IsWhole, Bounds, bounds_of, one_more, Way, Replied, Exit, word, with_arguments, after_way, status_after, Seat, state_in, IsSafeSeat, StaysOutside, StaysSafe}
use Rattle.sfi_host.specs.Hosts.{a0_register, a1_register}
use Rattle.sfi_host.specs.Laws.{CallsAreTyped, AnswersAreReplies}
use Rattle.sfi_host.specs.Worlds.{StoppedItself}
use Rattle.sfi_formats.specs.Formats.{has_stack, has_words, has_single_mask, is_data_register_in}
use Rattle.sfi_safe_runs.specs.Runs.{IsTyped}
use Rattle.sfi_image.specs.Parts.{IsWordStart}
use Rattle.sfi_formats.specs.declared.format.Format.{Format}
use Rattle.sfi_image.specs.Spelling.{IsNearIn, data_region}
use Rattle.rv_step.proofs.States.{register_is, after_is}
use Rattle.sfi_safe_runs.proofs.Facts.{goes_on_safely}
use Rattle.sfi_host.proofs.Entered as parts
use Rattle.sfi_host.proofs.Stops.{at_gate, at_gate_still, stopped_still}

-- ---- one change after another

pub stays_itself : (m : Bytes) (s : Seat) → IsSafeSeat m s → StaysSafe m s m s
stays_itself m s seat = record { bounds = refl; safe = seat; others = λ a out. refl }

pub stays_on : (m n w : Bytes) (s t u : Seat) → StaysSafe m s n t → StaysSafe n t w u → StaysSafe m s w u
stays_on m n w s t u first second = record {
  bounds = second.bounds ∙ first.bounds;
  safe = second.safe;
  others = λ a out. second.others a (λ h. out (subst (λ (b : Bounds). Holds b.data a) first.bounds h)) ∙ first.others a out;
}

-- ---- the code of a part

pub code_at : (p : Part) (k : ℕ) → k < length p.code → InCode p (p.code_base + k)
code_at p k below = (omega arith, omega arith)

-- ---- the regions of one sandbox

-- all registers but a0 and a1 stay
abbrev pub KeepsOthers : Hart → Hart → Type 0
KeepsOthers before after = (r : ℕ) → r ≢ a0_register → r ≢ a1_register → slice_index after.registers r ≡ slice_index before.registers r

-- a0 and a1 are none of the reserved registers
reserved_kept : (f : Format) (before after : Hart) → KeepsOthers before after → KeepsReserved f before after
reserved_kept f before after kept = record {
  code_base = kept 24 (λ e. cc) (λ e. cc);
  code_mask = kept 25 (λ e. cc) (λ e. cc);
  data_base = λ two. kept 26 (λ e. cc) (λ e. cc);
  data_mask = kept 27 (λ e. cc) (λ e. cc);
}

module _ (m : Bytes) (s : Seat) (seat : IsSafeSeat m s) where
  -- the data are among the addresses that are guarded
  pub data_guarded : (a : ℕ) → Holds s.bounds.data a → Holds (with_guards s.bounds.data) a
  data_guarded a h = subst (λ (b : Bounds). Holds (with_guards b.data) a) (sym seat.bounds) (parts.data_guarded seat.part a seat.right (subst (λ (b : Bounds). Holds b.data a) seat.bounds h))

  apart : AreApart s.bounds.code (with_guards s.bounds.data)
  apart = subst (λ (b : Bounds). AreApart b.code (with_guards b.data)) (sym seat.bounds) seat.apart

  -- an address of a zone lies beside the data or in the zone at zero
  pub zones_in : (a : ℕ) → InZones s.bounds.format s.bounds.data a → Holds (with_guards s.bounds.data) a ⊎ parts.InZone s.bounds.format s.bounds.data.size a
  zones_in a zone = subst (λ (b : Bounds). Holds (with_guards b.data) a ⊎ parts.InZone b.format b.data.size a) (sym seat.bounds)
      (parts.guard_in seat.part a seat.right (subst (λ (b : Bounds). InZones b.format b.data a) seat.bounds zone))

  -- ---- for a part that lies there

  module _ (p : Part) (is : s.bounds ≡ bounds_of p) where
    pub code_in : (a : ℕ) → InCode p a → Holds s.bounds.code a
    code_in a inside = subst (λ (b : Bounds). Holds b.code a) (sym is) inside

    pub guard_mine : (a : ℕ) → InGuard p a → InGuard seat.part a
    guard_mine a guard = subst (λ (b : Bounds). InZones b.format b.data a) (sym is ∙ seat.bounds) guard

    pub guard_zones : (a : ℕ) → InGuard p a → InZones s.bounds.format s.bounds.data a
    guard_zones a guard = subst (λ (b : Bounds). InZones b.format b.data a) (sym is) guard

    pub guard_not_data : (a : ℕ) → InGuard p a → Holds s.bounds.data a → ⊥
    guard_not_data a guard h = parts.guard_not_data seat.part a seat.right (guard_mine a guard) (subst (λ (b : Bounds). Holds b.data a) seat.bounds h)

    pub guard_not_code : (a : ℕ) → InGuard p a → Holds s.bounds.code a → ⊥
    guard_not_code a guard inside = parts.guard_not_code seat.part a seat.right seat.apart (guard_mine a guard) (subst (λ (b : Bounds). Holds b.code a) seat.bounds inside)

    pub code_not_data : (a : ℕ) → InCode p a → Holds s.bounds.data a → ⊥
    code_not_data a inside h = apart a (code_in a inside) (data_guarded a h)

    -- its own data alone may have changed
    pub own_kept : (n : Bytes) → StaysOutside s.bounds.data m n → KeepsBytes p m n
    own_kept n stays = record {
      code = λ a inside. stays a (code_not_data a inside);
      guards = λ a guard empty. stays a (guard_not_data a guard) ∙ empty;
    }

    -- what is typed of registers rests on where the sandbox lies alone
    typed_too : (q : Part) → bounds_of q ≡ bounds_of p → (registers : List ℕ) → IsTyped q registers → IsTyped p registers
    typed_too q same registers typed = record {
      stack = λ has. subst (λ (b : Bounds). Holds b.data (slice_index registers 2)) same (typed.stack (ap (λ (b : Bounds). has_stack b.format) same ∙ has));
      words = λ has.
          let w = typed.words (ap (λ (b : Bounds). has_words b.format) same ∙ has) in
          record {
            each_data = λ d is.
                subst (λ (b : Bounds). IsNearIn b.format b.data 1020 (slice_index registers d)) same (w.each_data d (ap (λ (b : Bounds). is_data_register_in b.format d) same ∙ is));
            code = record { held = subst (λ (b : Bounds). Holds b.code (slice_index registers 30)) same w.code.held; aligned = w.code.aligned };
            offset = λ two. subst (λ (b : Bounds). slice_index registers 31 < b.data.size) same (w.offset (ap (λ (b : Bounds). has_single_mask b.format) same ∙ two));
          };
    }

    -- the typed registers of a ready sandbox that stands at an ecall hold what their types say
    pub typed_lies : s.status ≡ Ready → (size : ℕ) → Stands (state_in m s) Ecall size → IsTyped p s.hart.registers
    typed_lies ready size stands = typed_too seat.part (sym seat.bounds ∙ is) s.hart.registers ((seat.safe ready).calls.typed [] (state_in m s) size tt refl stands)

    -- what they hold at a call they hold after it, where all registers but a0 and a1 stay
    typed_kept : (h : Hart) → KeepsOthers s.hart h → IsTyped p s.hart.registers → IsTyped p h.registers
    typed_kept h kept typed = record {
      stack = λ has. subst (λ (a : ℕ). InData p a) (sym (kept 2 (λ e. cc) (λ e. cc))) (typed.stack has);
      words = λ has.
          let w = typed.words has in
          record {
            each_data = λ d is.
                subst (λ (a : ℕ). IsNearIn p.format (data_region p) 1020 a)
                (sym (kept d (λ e. let z : is_data_register_in p.format 10 ≡ true = subst (λ (r : ℕ). is_data_register_in p.format r ≡ true) e is in cc) (λ e. let z : is_data_register_in p.format 11 ≡ true = subst (λ (r : ℕ). is_data_register_in p.format r ≡ true) e is in cc)))
                (w.each_data d is);
            code = subst (IsWordStart (code_region p)) (sym (kept 30 (λ e. cc) (λ e. cc))) w.code;
            offset = λ two. subst (λ (a : ℕ). a < p.data_size) (sym (kept 31 (λ e. cc) (λ e. cc))) (w.offset two);
          };
    }

    -- a hart that goes on after the ecall
    pub is_reply : (size : ℕ) → Stands (state_in m s) Ecall size → (n : Bytes) (h : Hart) → StaysOutside s.bounds.data m n → IsState (record { hart = h; memory = n })
        → h.pc ≡ address_after s.hart.pc 4 → KeepsOthers s.hart h → IsTyped p s.hart.registers → IsReply p (state_in m s) (record { hart = h; memory = n })
    is_reply size stands n h stays state pc kept typed =
        record { size = size; asked = stands; state = state; pc = pc; reserved = reserved_kept p.format s.hart h kept; typed = typed_kept h kept typed; bytes = own_kept n stays }

  -- where code and guard zones are kept it is safe, if it goes on safely or has stopped itself
  pub again : (n : Bytes) (t : Seat) → t.bounds ≡ s.bounds → IsState (state_in n t) → KeepsBytes seat.part m n → IsWhole s.bounds.data n
      → (t.status ≡ Ready → GoesSafelyFrom seat.part (state_in n t)) → StoppedItself s.bounds (state_in n t) t.status → IsSafeSeat n t
  again n t same state keeps whole safe stopped = record {
    part = seat.part;
    bounds = same ∙ seat.bounds;
    right = seat.right;
    state = state;
    apart = seat.apart;
    code = λ k below. keeps.code (seat.part.code_base + k) (code_at seat.part k below) ∙ seat.code k below;
    guards = λ a guard. keeps.guards a guard (seat.guards a guard);
    has_data = subst (λ (b : Bounds). IsWhole b.data n) (sym same) whole;
    safe = safe;
    stopped = subst (λ (b : Bounds). StoppedItself b (state_in n t) t.status) (sym same) stopped;
  }

  -- ---- a change by others

  pub changed : (n : Bytes) → IsMemory n → KeepsBytes seat.part m n → IsWhole s.bounds.data n → IsSafeSeat n s
  changed n memory keeps whole = again n s refl (record { hart = seat.state.hart; memory = memory }) keeps whole
      (λ ready. goes_on_safely seat.part (state_in m s) (state_in n s) (Changes (state_in n s)) (seat.safe ready) (record { pc = refl; registers = refl; bytes = keeps }) refl)
      (stopped_still s.bounds m n (λ a inside. keeps.code a (subst (λ (b : Bounds). Holds b.code a) seat.bounds inside)) s.hart s.status seat.stopped)

  -- a safe sandbox stays safe where all memory but its own data is left as it was
  pub own_changed : (n : Bytes) → IsMemory n → StaysOutside s.bounds.data m n → IsWhole s.bounds.data n → IsSafeSeat n s
  own_changed n memory stays whole = changed n memory (own_kept seat.part seat.bounds n stays) whole

  -- ---- after a reply

  replied : s.status ≡ Ready → (size : ℕ) → Stands (state_in m s) Ecall size
      → (n : Bytes) (h : Hart) (steps : ℕ) → IsMemory n → StaysOutside s.bounds.data m n → IsWhole s.bounds.data n
      → IsHart h → h.pc ≡ address_after s.hart.pc 4 → KeepsOthers s.hart h
      → IsSafeSeat n (record { bounds = s.bounds; hart = h; status = Ready; steps = steps })
  replied ready size stands n h steps memory stays whole hart pc kept =
      again n _ refl (record { hart = hart; memory = memory }) (own_kept seat.part seat.bounds n stays) whole
      (λ still. goes_on_safely seat.part (state_in m s) (record { hart = h; memory = n }) (Replies (record { hart = h; memory = n })) (seat.safe ready)
      (is_reply seat.part seat.bounds size stands n h stays (record { hart = hart; memory = memory }) pc kept (typed_lies seat.part seat.bounds ready size stands)) refl) tt

  -- the code where its own data alone may have changed
  pub code_same : (n : Bytes) → StaysOutside s.bounds.data m n → (a : ℕ) → Holds s.bounds.code a → byte_at n a ≡ byte_at m a
  code_same n stays a inside = (own_kept seat.part seat.bounds n stays).code a (subst (λ (b : Bounds). Holds b.code a) seat.bounds inside)

  -- one that has stopped itself is safe, whatever its registers hold
  pub halted : (n : Bytes) (t : Seat) → IsState (state_in n t) → t.bounds ≡ s.bounds → t.status ≢ Ready → StoppedItself s.bounds (state_in n t) t.status → StaysOutside s.bounds.data m n → IsWhole s.bounds.data n → IsSafeSeat n t
  halted n t state same not_ready stopped stays whole = again n t same state (own_kept seat.part seat.bounds n stays) whole (λ ready. absurd (not_ready ready)) stopped

-- an answer's values leave the other registers
arguments_keep : (h : Hart) (a0 a1 : ℕ) → KeepsOthers h (past (with_arguments h a0 a1) 4)
arguments_keep h a0 a1 = λ r n k. get_or-set_other (slice_set h.registers a0_register a0) a1_register r a1 0 k ∙ get_or-set_other h.registers a0_register r a0 0 n

-- ---- an answer

arguments_are : (h : Hart) (a0 a1 : ℕ) → IsHart h → a0 < 2 ^ 32 → a1 < 2 ^ 32 → IsHart (with_arguments h a0 a1)
arguments_are h a0 a1 is f g = register_is _ 11 a1 (register_is h 10 a0 is f) g

pub answered_is : (w : Way) (h : Hart) (a0 a1 : ℕ) → IsHart h → a0 < 2 ^ 32 → a1 < 2 ^ 32 → IsHart (after_way w (with_arguments h a0 a1))
answered_is (Exit n) h a0 a1 is f g = arguments_are h a0 a1 is f g
answered_is w h a0 a1 is f g = after_is _ 4 (arguments_are h a0 a1 is f g) refl

-- a ready sandbox is safe after the answer to its call
pub answered_safe : (m : Bytes) (s : Seat) → IsSafeSeat m s → s.status ≡ Ready → (size : ℕ) → Stands (state_in m s) Ecall size
    → (n : Bytes) → IsMemory n → StaysOutside s.bounds.data m n → IsWhole s.bounds.data n → (a0 a1 : ℕ) → a0 < 2 ^ 32 → a1 < 2 ^ 32
    → (w : Way) → IsSafeSeat n (record { bounds = s.bounds; hart = after_way w (with_arguments s.hart a0 a1); status = status_after w; steps = one_more s.steps })
answered_safe m s seat ready size stands n memory stays whole a0 a1 f g (Exit k) =
    halted m s seat n _ (record { hart = arguments_are s.hart a0 a1 seat.state.hart f g; memory = memory }) refl (λ e. cc)
    (at_gate_still s.bounds m n (code_same m s seat n stays) s.hart (with_arguments s.hart a0 a1) refl (at_gate m s seat ready size stands)) stays whole
answered_safe m s seat ready size stands n memory stays whole a0 a1 f g w =
    replied m s seat ready size stands n _ _ memory stays whole (answered_is Replied s.hart a0 a1 seat.state.hart f g) refl (arguments_keep s.hart a0 a1)

-- ---- a reply in the words of runs

goes_past : (w : Way) (h : Hart) → status_after w ≡ Ready → after_way w h ≡ past h 4
goes_past (Exit n) h goes_on = absurd (cc)
goes_past w h goes_on = refl

pub answers_are : AnswersAreReplies
answers_are m s r after size p seat is typed stands goes_on state hart stays =
    let a0 = word r.a0 in
    let a1 = word r.a1 in
    let now : after.hart ≡ past (with_arguments s.hart a0 a1) 4 = hart ∙ goes_past r.way (with_arguments s.hart a0 a1) goes_on in
    is_reply m s seat p is size stands after.memory after.hart stays state (ap (λ (h : Hart). h.pc) now)
    (subst (λ (h : Hart). KeepsOthers s.hart h) (sym now) (arguments_keep s.hart a0 a1)) typed

-- one that is ready at an entry, where every run from that is safe
pub ready_safe : (m : Bytes) (b : Bounds) (h : Hart) (steps : ℕ) (e : IsEnterable m b) → IsEntry e.part (record { hart = h; memory = m }) → AreApart (code_region e.part) (guarded_region e.part) → IsWhole b.data m
    → IsSafeSeat m (record { bounds = b; hart = h; status = Ready; steps = steps })
ready_safe m b h steps e entry apart whole = record {
  part = e.part;
  bounds = e.bounds;
  right = e.right;
  state = entry.state;
  apart = apart;
  code = e.code;
  guards = entry.guards;
  has_data = whole;
  safe = λ ready. record { safe = e.runs.from _ entry; calls = e.calls.from _ entry };
  stopped = tt;
}

pub calls_typed : CallsAreTyped
calls_typed m s size p seat is ready stands = typed_lies m s seat p is ready size stands
