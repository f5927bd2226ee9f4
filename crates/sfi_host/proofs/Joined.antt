-- What the joint run does from a safe world is a list of moves.
use Rattle.sfi_host.proofs.Prelude.{◌≡◌, ◌≢◌, ◌⊎◌, inl, inr, IsSome, is_some, ℕ, zero, suc, ◌<◌, ◌≤◌, ◌^◌, ◌||◌, ◌&&◌, Bool, true, false, cond, List, [], ◌∷◌, ◌++◌, length, take, Option, Some, None, slice_get, set, set-set, refl, sym, ap, ◌∙◌, subst, arith, append_assoc, append-nil, All, option_map, option_or, slice_get-map, map-append, take_all, Bytes, IsMemory, byte_at, Ecall, Outcome, State, Stepped, Stands, IsStep, Part, IsReply, IsTurn, Status, Ready, Trapped, StepResult, Continue, TurnEnds, RunEnds, Way, Exit, Reply, Answer, Host, limited, replay, is_in, IsWhole, Bounds, Slot, bounds_of, one_more, is_own, own, Machine, IsMachine, word, is_byte, with_arguments, with_data, after_way, status_after, replied, Moved, moved, still, after_answer, slot_after_step, after_replies, and_more, turned, Given, given, Joined, joined, joined_after_turn, and_plan, turn_and, call_of, Seat, Sandboxes, slot_of, slots_of, state_in, IsSafeSeat, IsSafeWorld, StaysOutside}
use Rattle.sfi_host.specs.WorldSteps.{StepsAlone, WorldStep, after_world_step, IsTurnsShare, AreShares, all_of, given_in, ComeTo, HaveRun, JoinedWorldSteps, JointWorldSteps}
use Rattle.sfi_host.specs.Worlds.{IsOwnStep}
use Rattle.std.proofs.lemmas.List.Elements.{All-cons, All-nil}
use Rattle.sfi_safe_runs.specs.Runs.{after_step as step_to, after_turn as goes_to}
use Rattle.sfi_host.specs.declared.turn.Turn.{Turn as PlanTurn}
use Rattle.rv_step.specs.declared.outcome.Outcome.TheVariants as outcome
use Rattle.sfi_host.proofs.Continuing.{way_goes}
use Rattle.sfi_host.proofs.AfterCalls.{get_with_data}
use Rattle.sfi_host.proofs.WorldSteps.{turn_of, Taken, IsTaken, AreTaken, are_world_steps, taken_follow, safe_after, slots_after, are_runs, safe_runs}
use Rattle.sfi_decoded.proofs.Lists.{get_set_same, set_itself}
use Rattle.sfi_host.proofs.OwnSteps.{steps_own}
use Rattle.sfi_host.proofs.Plans.{joined_nil, joined_cons}
use Rattle.sfi_host.proofs.RegionBytes.{get_kept, same_bytes, is_in-true}
use Rattle.sfi_host.proofs.Runs.{there_below}
use Rattle.sfi_host.proofs.SafeSeats as keep
use Rattle.sfi_host.proofs.WorldBytes.{get_map}
use Rattle.sfi_host.proofs.SlotSteps.{moved_by, not_moved, next_safe, trap_safe, seat_with}

given_append : (first second : List WorldStep) → given_in (first ++ second) ≡ given_in first ++ given_in second
given_append [] second = refl
given_append (v ∷ first) second =
    ap (λ (l : List Given). given v.number v.replies ++ l) (given_append first second) ∙ sym (append_assoc (given v.number v.replies) (given_in first) (given_in second))

-- ---- shares

no_share : (t : PlanTurn) → IsTurnsShare t []
no_share t = record { only = All-nil (λ (v : WorldStep). v.number ≡ t.sandbox); count = omega arith }

none_of : List PlanTurn → List (List WorldStep)
none_of [] = []
none_of (t ∷ plan) = [] ∷ none_of plan

no_shares : (plan : List PlanTurn) → AreShares plan (none_of plan)
unfolding none_of
no_shares [] = refl
no_shares (t ∷ plan) = (no_share t, no_shares plan)

no_moves : (k : ℕ) (plan : List PlanTurn) → all_of (take k (none_of plan)) ≡ []
unfolding none_of
no_moves (suc k) (t ∷ plan) = no_moves k plan
no_moves k plan = refl

as_many : (plan : List PlanTurn) (shares : List (List WorldStep)) → AreShares plan shares → length shares ≡ length plan
as_many [] shares are = ap length are
as_many (t ∷ plan) [] are = absurd are
as_many (t ∷ plan) (share ∷ shares) are = ap suc (as_many plan shares are.1)

-- ---- a memory with other data

or_right : (o p : Option ℕ) → IsSome p → IsSome (option_or o p)
or_right None p h = h
or_right (Some x) p h = refl

own_at : (c d t : Bool) (o y : Option ℕ) → cond (c || d) (option_or (cond (d && t) o None) y) None ≡ option_or (cond (d && t) o None) (cond (c || d) y None)
own_at true d t o y = refl
own_at false true t o y = refl
own_at false false t o y = refl

left_at : (d t : Bool) (o y : Option ℕ) → (d ≡ true → ⊥) → option_or (cond (d && t) o None) y ≡ y
left_at true t o y out = absurd (out refl)
left_at false t o y out = refl

-- a byte is one that is taken, or was there
with_case : (d t : Bool) (o y : Option ℕ) (v : ℕ) → option_or (cond (d && t) o None) y ≡ Some v → ((d ≡ true) × (t ≡ true) × (o ≡ Some v)) ⊎ (y ≡ Some v)
with_case true true (Some x) y v e = inl (refl, refl, e)
with_case d t o y v e = inr e

below : (o : Option ℕ) (v : ℕ) → is_byte o ≡ true → o ≡ Some v → v < 256
below None v t e = absurd (cc)
below (Some x) v t e = let same : x ≡ v = cc in grind arith

module _ (b : Bounds) (m others : Bytes) where
  own_with : own b (with_data b m others) ≡ with_data b (own b m) others
  own_with = same_bytes _ _ (λ q.
      get_kept (with_data b m others) (is_own b) q
      ∙ ap (λ (o : Option ℕ). cond (is_own b q) o None) (get_with_data b m others q)
      ∙ own_at (is_in b.code q) (is_in b.data q) (is_byte (byte_at others q)) (byte_at others q) (byte_at m q)
      ∙ sym (get_with_data b (own b m) others q ∙ ap (λ (o : Option ℕ). option_or (cond (is_in b.data q && is_byte (byte_at others q)) (byte_at others q) None) o) (get_kept m (is_own b) q)))

  others_with : StaysOutside b.data m (with_data b m others)
  others_with a out = get_with_data b m others a ∙ left_at (is_in b.data a) (is_byte (byte_at others a)) (byte_at others a) (byte_at m a) (λ t. out (is_in-true b.data a t))

  whole_with : IsWhole b.data m → IsWhole b.data (with_data b m others)
  whole_with whole a h = ap is_some (get_with_data b m others a) ∙ or_right _ _ (whole a h)

  memory_with : IsMemory m → IsWhole b.data m → IsMemory (with_data b m others)
  memory_with old whole =
      let either = λ (a v : ℕ) (e : byte_at (with_data b m others) a ≡ Some v). with_case (is_in b.data a) (is_byte (byte_at others a)) (byte_at others a) (byte_at m a) v (sym (get_with_data b m others a) ∙ e) in
      record {
        addresses = λ a v e. elim (either a v e) [ inl x ↦ there_below m a old (byte_at m a) refl (whole a (is_in-true b.data a x.0)) | inr f ↦ old.addresses a v f ];
        bytes = λ a v e. elim (either a v e) [ inl x ↦ below (byte_at others a) v x.1 x.2 | inr f ↦ old.bytes a v f ];
      }

-- ---- one step

-- a move of the sandbox of that number, which comes to that
record MovesTo {S : Type 0} (machine : Machine) (i : ℕ) (m : Bytes) (s : Seat) (mv : Moved S) : Type 0 where
  n : Bytes
  t : Seat
  taken : Taken machine i m s mv.replies n t
  slot : slot_of n t ≡ mv.slot

-- nothing happens
record Rests {S : Type 0} (m : Bytes) (s : Seat) (mv : Moved S) : Type 0 where
  same : mv.slot ≡ slot_of m s
  none : mv.replies ≡ []
  ends : mv.next ≢ Continue

low : (n : ℕ) → word n < 2 ^ 32
low n = omega arith

module _ (machine : Machine) (is : IsMachine machine) where
  -- the sandbox moves, or rests
  abbrev Does : {S : Type 0} → ℕ → Bytes → Seat → Moved S → Type 0
  Does i m s mv = ((s.status ≡ Ready) × MovesTo machine i m s mv) ⊎ Rests m s mv

  module _ (m : Bytes) (s : Seat) (i : ℕ) (seat : IsSafeSeat m s) (ready : s.status ≡ Ready) where
    abbrev r : Stepped
    r = machine (state_in m s)

    step : IsStep (state_in m s) r
    step = is.steps (state_in m s)

    alone : IsOwnStep m s r
    alone = steps_own m s r seat ready step

    abbrev after : State
    after = record { hart = r.state.hart; memory = own s.bounds r.state.memory }

    by : {S : Type 0} (host : Host S) (x : S) (out : Outcome) → r.outcome ≡ out → moved machine host i (slot_of m s) x ≡ slot_after_step host i (slot_of m s) x out after
    by host x out e = moved_by machine host i (slot_of m s) s.bounds r x out ready (alone.alone machine is) e

    -- what it comes to with these replies is its step alone
    steps_alone : (replies : List Reply) (out : Outcome) → r.outcome ≡ out → (t : Slot) → (slot_after_step replay i (slot_of m s) replies out after).slot ≡ t
        → (slot_after_step replay i (slot_of m s) replies out after).replies ≡ replies → (slot_after_step replay i (slot_of m s) replies out after).next ≢ RunEnds
        → StepsAlone machine i (slot_of m s) replies t
    steps_alone replies out e t slot got answered =
        let q = by replay replies out e in
        record {
          slot = ap (λ (x : Moved _). x.slot) q ∙ slot;
          got = ap (λ (x : Moved _). x.replies) q ∙ got;
          answered = λ f. answered (sym (ap (λ (x : Moved _). x.next) q) ∙ f);
        }

    next_moves : {S : Type 0} (host : Host S) (x : S) → r.outcome ≡ outcome.Next → MovesTo machine i m s (slot_after_step host i (slot_of m s) x outcome.Next after)
    next_moves host x e = record {
      n = r.state.memory;
      t = seat_with s r.state.hart s.status (one_more s.steps);
      taken = record {
        alone = steps_alone [] outcome.Next e _ refl refl (λ f. cc);
        step = λ none. refl;
        stays = record { bounds = refl; safe = next_safe m s r seat ready step e (one_more s.steps); others = alone.others };
        is_turn = λ p here. step;
        leads = λ still. ap (λ (o : Outcome). step_to o r.state) e;
      };
      slot = refl;
    }

    trap_moves : {S : Type 0} (host : Host S) (x : S) (cause : _) (at : ℕ) → r.outcome ≡ outcome.Trap cause at → MovesTo machine i m s (slot_after_step host i (slot_of m s) x (outcome.Trap cause at) after)
    trap_moves host x cause at e = record {
      n = m;
      t = seat_with s s.hart (Trapped cause at) s.steps;
      taken = record {
        alone = steps_alone [] (outcome.Trap cause at) e _ refl refl (λ f. cc);
        step = λ none. sym (alone.stopped (λ f. let z : outcome.Trap cause at ≡ outcome.Next = sym e ∙ f in cc));
        stays = record { bounds = refl; safe = trap_safe m s r seat ready step cause at e s.steps; others = λ a out. refl };
        is_turn = λ p here. step;
        leads = λ still. absurd (cc);
      };
      slot = refl;
    }

    -- ---- a reply

    module _ {S : Type 0} (a : Answer S) (e : r.outcome ≡ outcome.Call) where
      abbrev n : Bytes
      n = with_data s.bounds m a.reply.bytes

      abbrev t : Way → Seat
      t w = seat_with s (after_way w (with_arguments s.hart (word a.reply.a0) (word a.reply.a1))) (status_after w) (one_more s.steps)

      stands : (size : ℕ) × Stands (state_in m s) Ecall size
      stands = alone.called e

      others : StaysOutside s.bounds.data m n
      others = others_with s.bounds m a.reply.bytes

      whole : IsWhole s.bounds.data n
      whole = whole_with s.bounds m a.reply.bytes seat.has_data

      memory : IsMemory n
      memory = memory_with s.bounds m a.reply.bytes seat.state.memory seat.has_data

      slot_after : slot_of n (t a.reply.way) ≡ replied (slot_of m s) a.reply
      slot_after = ap (λ (x : Bytes). let y : Slot = record { bounds = s.bounds; hart = (t a.reply.way).hart; status = status_after a.reply.way; steps = one_more s.steps; bytes = x } in y)
          (own_with s.bounds m a.reply.bytes)

      -- the turn that it is, if that is right and leads there
      taken_by : (w : Way) → a.reply.way ≡ w
          → ((p : Part) → s.bounds ≡ bounds_of p → IsTurn p (state_in m s) (turn_of machine m s (a.reply ∷ []) n (t w)))
          → ((t w).status ≡ Ready → goes_to (turn_of machine m s (a.reply ∷ []) n (t w)) ≡ Some (state_in n (t w)))
          → Taken machine i m s (a.reply ∷ []) n (t w)
      taken_by w way is_turn leads = record {
        alone = steps_alone (a.reply ∷ []) outcome.Call e _ (sym slot_after ∙ ap (λ (y : Way). slot_of n (t y)) way) refl (way_goes a.reply.way);
        step = λ none. absurd (cc);
        stays = record { bounds = refl; safe = keep.answered_safe m s seat ready stands.0 stands.1 n memory others whole (word a.reply.a0) (word a.reply.a1) (low a.reply.a0) (low a.reply.a1) w; others = others };
        is_turn = is_turn;
        leads = leads;
      }

      is_reply : (w : Way) → a.reply.way ≡ w → status_after w ≡ Ready → (p : Part) → s.bounds ≡ bounds_of p → IsReply p (state_in m s) (state_in n (t w))
      is_reply w way goes_on p here = keep.answers_are m s a.reply (state_in n (t w)) stands.0 p seat here (keep.typed_lies m s seat p here ready stands.0 stands.1) stands.1
          (ap status_after way ∙ goes_on)
          (record { hart = keep.answered_is w s.hart (word a.reply.a0) (word a.reply.a1) seat.state.hart (low a.reply.a0) (low a.reply.a1); memory = memory })
          (ap (λ (y : Way). (t y).hart) (sym way)) others

      by_way : (w : Way) → a.reply.way ≡ w → Taken machine i m s (a.reply ∷ []) n (t w)
      by_way (Exit code) way = taken_by (Exit code) way (λ p here. step) (λ still. absurd (cc))
      by_way w way = taken_by w way (is_reply w way refl) (λ still. refl)

      reply_moves : MovesTo machine i m s (after_answer (slot_of m s) a.host (Some a))
      reply_moves = record { n = n; t = t a.reply.way; taken = by_way a.reply.way refl; slot = slot_after }

    outcome_moves : {S : Type 0} (host : Host S) (x : S) (out : Outcome) → r.outcome ≡ out → Does i m s (slot_after_step host i (slot_of m s) x out after)
    outcome_moves host x outcome.Next e = inl (ready, next_moves host x e)
    outcome_moves host x (outcome.Trap cause at) e = inl (ready, trap_moves host x cause at e)
    outcome_moves host x outcome.Call e = elim (host x (call_of i (slot_of m s))) as (λ o. Does i m s (after_answer (slot_of m s) x o)) [
      | None ↦ inr (record { same = refl; none = refl; ends = λ f. cc })
      | Some a ↦ inl (ready, reply_moves a e)
    ]

  any_does : {S : Type 0} (host : Host S) (i : ℕ) (m : Bytes) (s : Seat) (x : S) → IsSafeSeat m s → (status : Status) → s.status ≡ status → Does i m s (moved machine host i (slot_of m s) x)
  any_does {S} host i m s x seat Ready e = let out = (machine (state_in m s)).outcome in subst (λ (mv : Moved S). Does i m s mv) (sym (by m s i seat e host x out refl)) (outcome_moves m s i seat e host x out refl)
  any_does {S} host i m s x seat status e =
      subst (λ (mv : Moved S). Does i m s mv) (sym (not_moved machine host i (slot_of m s) x status (λ f. cc) e)) (inr (record { same = refl; none = refl; ends = λ f. cc }))

  -- ---- a turn

  -- moves of that sandbox alone, no more than that, come to that
  record TurnMoves {S : Type 0} (i k : ℕ) (w : Sandboxes) (mv : Moved S) : Type 0 where
    moves : List WorldStep
    n : Sandboxes
    only : All (λ (v : WorldStep). v.number ≡ i) moves
    count : length moves ≤ k
    taken : AreTaken machine w moves n
    slots : slots_of n ≡ set (slots_of w) i mv.slot
    replies : given_in moves ≡ given i mv.replies

  module _ (i : ℕ) (w : Sandboxes) (s : Seat) (world : IsSafeWorld w) (at : slice_get w.seats i ≡ Some s) where
    none_moves : {S : Type 0} (k : ℕ) (mv : Moved S) → Rests w.bytes s mv → TurnMoves i k w mv
    none_moves k mv rests = record {
      moves = [];
      n = w;
      only = All-nil (λ (v : WorldStep). v.number ≡ i);
      count = omega arith;
      taken = refl;
      slots = sym (ap (λ (x : Slot). set (slots_of w) i x) rests.same ∙ set_itself (slots_of w) i (slot_of w.bytes s) (get_map (slot_of w.bytes) w.seats i s at));
      replies = ap (given i) (sym rests.none);
    }

    module _ {S : Type 0} (mv : Moved S) (ready : s.status ≡ Ready) (to : MovesTo machine i w.bytes s mv) where
      abbrev v : WorldStep
      v = record { number = i; replies = mv.replies; bytes = to.n; seat = to.t }

      one : IsTaken machine w v
      one = record { seat = s; there = at; ready = ready; taken = to.taken }

      next_slots : slots_of (after_world_step w v) ≡ set (slots_of w) i mv.slot
      next_slots = slots_after machine w v world one ∙ ap (λ (x : Slot). set (slots_of w) i x) to.slot

      one_moves : (k : ℕ) → TurnMoves i (suc k) w mv
      one_moves k = record {
        moves = v ∷ [];
        n = after_world_step w v;
        only = All-cons (λ (x : WorldStep). x.number ≡ i) v [] refl (All-nil (λ (x : WorldStep). x.number ≡ i));
        count = omega arith;
        taken = (one, refl);
        slots = next_slots;
        replies = append-nil (given i mv.replies);
      }

      more_moves : (k : ℕ) (rest : Slot → S → Moved S) → ((w : Sandboxes) (s : Seat) (x : S) → IsSafeWorld w → slice_get w.seats i ≡ Some s → TurnMoves i k w (rest (slot_of w.bytes s) x))
          → TurnMoves i (suc k) w (after_replies mv.replies (rest mv.slot mv.host))
      more_moves k rest goal =
          let more : TurnMoves i k (after_world_step w v) (rest mv.slot mv.host) = subst (λ (y : Slot). TurnMoves i k (after_world_step w v) (rest y mv.host)) to.slot
          (goal (after_world_step w v) to.t mv.host (safe_after machine w v world one) (get_set_same w.seats i s to.t at)) in
          let last = rest mv.slot mv.host in
          record {
            moves = v ∷ more.moves;
            n = more.n;
            only = All-cons (λ (x : WorldStep). x.number ≡ i) v more.moves refl more.only;
            count = let c = more.count in omega arith;
            taken = (one, more.taken);
            slots = more.slots ∙ ap (λ (l : List Slot). set l i last.slot) next_slots ∙ set-set (slots_of w) i mv.slot last.slot;
            replies = ap (λ (l : List Given). given i mv.replies ++ l) more.replies ∙ sym (map-append (λ (r : Reply). let g : Given = record { to = i; reply = r } in g) mv.replies last.replies);
          }

    by_next : {S : Type 0} (k : ℕ) (mv : Moved S) (rest : Slot → S → Moved S) → ((w : Sandboxes) (s : Seat) (x : S) → IsSafeWorld w → slice_get w.seats i ≡ Some s → TurnMoves i k w (rest (slot_of w.bytes s) x))
        → (next : StepResult) → mv.next ≡ next → Does i w.bytes s mv → TurnMoves i (suc k) w (and_more next mv rest)
    by_next k mv rest goal Continue e (inl x) = more_moves mv x.0 x.1 k rest goal
    by_next k mv rest goal Continue e (inr x) = absurd (x.ends e)
    by_next k mv rest goal next e (inl x) = one_moves mv x.0 x.1 k
    by_next k mv rest goal next e (inr x) = none_moves (suc k) mv x

  turn_moves : {S : Type 0} (host : Host S) (i k : ℕ) (w : Sandboxes) (s : Seat) (x : S) → IsSafeWorld w → slice_get w.seats i ≡ Some s → TurnMoves i k w (turned machine host i k (slot_of w.bytes s) x)
  unfolding turned
  turn_moves host i zero w s x world at = none_moves i w s world at 0 (still (slot_of w.bytes s) x TurnEnds) (record { same = refl; none = refl; ends = λ f. cc })
  turn_moves host i (suc k) w s x world at =
      let mv = moved machine host i (slot_of w.bytes s) x in
      by_next i w s world at k mv (turned machine host i k) (turn_moves host i k) mv.next refl (any_does host i w.bytes s x (world.each i s at) s.status refl)

  -- ---- a plan

  record LeadTo {S : Type 0} (w : Sandboxes) (moves : List WorldStep) (all : Joined S) : Type 0 where
    n : Sandboxes
    taken : AreTaken machine w moves n
    slots : slots_of n ≡ all.slots
    replies : given_in moves ≡ all.replies

  -- a plan's moves, shared out among its turns; those of the first `k` turns come to `first k`
  abbrev PlanMoves : {S : Type 0} → List PlanTurn → Sandboxes → (ℕ → Joined S) → Type 0
  PlanMoves plan w first = (shares : List (List WorldStep)) × AreShares plan shares × ((k : ℕ) → LeadTo w (all_of (take k shares)) (first k))

  module _ {S : Type 0} (host : Host S) where
    abbrev first_turns : List PlanTurn → List Slot → S → ℕ → Joined S
    first_turns plan slots x k = joined machine host (take k plan) slots x

    abbrev PlanGoal : List PlanTurn → Type 0
    PlanGoal plan = (w : Sandboxes) (x : S) → IsSafeWorld w → PlanMoves plan w (first_turns plan (slots_of w) x)

    no_turns : (w : Sandboxes) (x : S) → LeadTo w [] (joined machine host [] (slots_of w) x)
    no_turns w x = subst (λ (j : Joined S). LeadTo w [] j) (sym (joined_nil machine host (slots_of w) x)) (record { n = w; taken = refl; slots = refl; replies = refl })

    module _ (t : PlanTurn) (plan : List PlanTurn) (w : Sandboxes) (world : IsSafeWorld w) (x : S) (goal : PlanGoal plan) where
      -- a turn's share, and those of the turns after it
      abbrev After : List WorldStep → (List PlanTurn → Joined S) → Type 0
      After share with_rest = (later : List (List WorldStep)) × AreShares plan later × ((k : ℕ) → LeadTo w (share ++ all_of (take k later)) (with_rest (take k plan)))

      and_rest : (share : List WorldStep) → IsTurnsShare t share → (found : Option Slot) → slice_get (slots_of w) t.sandbox ≡ found
          → After share (λ rest. turn_and machine host t (slots_of w) x found (joined machine host rest)) → PlanMoves (t ∷ plan) w (first_turns (t ∷ plan) (slots_of w) x)
      and_rest share is found e after = (share ∷ after.0, (is, after.1), by_count)
        where
          by_count : (k : ℕ) → LeadTo w (all_of (take k (share ∷ after.0))) (first_turns (t ∷ plan) (slots_of w) x k)
          by_count zero = no_turns w x
          by_count (suc k) = subst (λ (j : Joined S). LeadTo w (share ++ all_of (take k after.0)) j) (sym (joined_cons machine host t (take k plan) (slots_of w) x found e)) (after.2 k)

      -- a turn that names none
      names_none : After [] (λ rest. joined_after_turn [] (joined machine host rest (slots_of w) x))
      names_none = let later = goal w x world in (later.0, later.1, λ k. let l = later.2 k in record { n = l.n; taken = l.taken; slots = l.slots; replies = l.replies })

      module _ (mv : Moved S) (first : TurnMoves t.sandbox t.steps w mv) where
        goes_on : After first.moves (λ rest. joined_after_turn (given t.sandbox mv.replies) (joined machine host rest (set (slots_of w) t.sandbox mv.slot) mv.host))
        goes_on =
            let later : PlanMoves plan first.n (first_turns plan (set (slots_of w) t.sandbox mv.slot) mv.host) =
            subst (λ (l : List Slot). PlanMoves plan first.n (first_turns plan l mv.host)) first.slots (goal first.n mv.host (are_runs machine first.moves w first.n world first.taken).safe_world) in (
              later.0,
              later.1,
              λ k.
                  let l = later.2 k in
                  let moves = all_of (take k later.0) in
                  record {
                    n = l.n;
                    taken = taken_follow machine first.moves moves w first.n l.n first.taken l.taken;
                    slots = l.slots;
                    replies = given_append first.moves moves ∙ ap (λ (g : List Given). g ++ given_in moves) first.replies ∙ ap (λ (g : List Given). given t.sandbox mv.replies ++ g) l.replies;
                  },
            )

        by_end : (next : StepResult) → After first.moves (λ rest. and_plan next t.sandbox mv (slots_of w) (joined machine host rest))
        by_end RunEnds = (
          none_of plan,
          no_shares plan,
          λ k. subst (λ (moves : List WorldStep). LeadTo w moves (and_plan RunEnds t.sandbox mv (slots_of w) (joined machine host (take k plan))))
              (sym (ap (λ (l : List WorldStep). first.moves ++ l) (no_moves k plan) ∙ append-nil first.moves))
              (record { n = first.n; taken = first.taken; slots = first.slots; replies = first.replies }),
        )
        by_end next = goes_on

      by_found : (found : Option Seat) → slice_get w.seats t.sandbox ≡ found → PlanMoves (t ∷ plan) w (first_turns (t ∷ plan) (slots_of w) x)
      by_found None e = and_rest [] (no_share t) None (slice_get-map (slot_of w.bytes) w.seats t.sandbox ∙ ap (option_map (slot_of w.bytes)) e) names_none
      by_found (Some s) e =
          let mv = turned machine host t.sandbox t.steps (slot_of w.bytes s) x in
          let first = turn_moves host t.sandbox t.steps w s x world e in
          and_rest first.moves (record { only = first.only; count = first.count }) (Some (slot_of w.bytes s)) (get_map (slot_of w.bytes) w.seats t.sandbox s e) (by_end mv first mv.next)

    plan_moves : (plan : List PlanTurn) → PlanGoal plan
    plan_moves [] w x world = ([], refl, none)
      where
        none : (k : ℕ) → LeadTo w (all_of (take k [])) (first_turns [] (slots_of w) x k)
        none zero = no_turns w x
        none (suc k) = no_turns w x
    plan_moves (t ∷ plan) w x world = by_found t plan w world x (plan_moves plan) (slice_get w.seats t.sandbox) refl

-- ---- the law

module _ {S : Type 0} (machine : Machine) (host : Host S) (plan : List PlanTurn) (w : Sandboxes) (s : S) (is : IsMachine machine) (world : IsSafeWorld w) where
  abbrev Leads : List WorldStep → List PlanTurn → Type 0
  Leads moves part = LeadTo machine is w moves (joined machine host part (slots_of w) s)

  come : (moves : List WorldStep) (part : List PlanTurn) (l : Leads moves part) → ComeTo machine w moves l.n (joined machine host part (slots_of w) s)
  come moves part l = record { lead = are_world_steps machine moves w l.n world l.taken; slots = l.slots; replies = l.replies }

  are_joined : (n : Sandboxes) × HaveRun machine plan w n (λ part. joined machine host part (slots_of w) s)
  are_joined =
      let p = plan_moves machine is host plan w s world in
      let moves = all_of p.0 in
      let all : Leads moves plan = subst (λ (l : List (List WorldStep)). Leads (all_of l) plan) (take_all (length plan) p.0 (omega (arith, as_many plan p.0 p.1)))
      (subst (λ (part : List PlanTurn). Leads (all_of (take (length plan) p.0)) part) (take_all (length plan) plan (omega arith)) (p.2 (length plan))) in
      let runs = are_runs machine moves w all.n world all.taken in (
        all.n,
        record {
          shares = p.0;
          order = p.1;
          first = λ k. let l = p.2 k in (l.n, come (all_of (take k p.0)) (take k plan) l);
          whole = come moves plan all;
          runs = runs;
          safe_runs = safe_runs machine moves w all.n world runs;
        },
      )

pub joined_are : {S : Type 0} → JoinedWorldSteps S
joined_are machine host plan w s is world = are_joined machine host plan w s is world

pub joint_are : {S : Type 0} → JointWorldSteps S
joint_are machine answer plan w s limit = joined_are machine (limited answer) plan w (record { host = s; left = limit })
