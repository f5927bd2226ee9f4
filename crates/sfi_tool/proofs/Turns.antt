-- Rounds of turns, and turns under the host of `exec`.
use Rattle.std.proofs.Common.{suc, ◌+◌, [], ◌++◌, map, true, None, ◌≢◌, ◌-◌, ◌≤◌, ◌∷◌, false, Option, Some, append_assoc}
use Rattle.sfi_host.specs.Hosts.{Call, Answer, call_by, Reply}
use Rattle.sfi_host.specs.Joint.{Machine, joined, joint, IsMachine, replied}
use Rattle.sfi_host.specs.Plans.{IsJoint}
use Rattle.sfi_host.specs.Slots.{Slot, bytes_in}
use Rattle.sfi_tool.specs.Running.{plan_of, first_slots, run_of, run_lines, IsRunTextOf}
use Rattle.sfi_command.specs.declared.job.RunOptions.{RunOptions}
use Rattle.std.specs.FinMap.{empty}
use Rattle.rv_mem.specs.Bytes.{Bytes}
use Rattle.sfi_host.specs.Consoles.{ConsoleState, console, new_console}
use Rattle.sfi_host.specs.Loading.{first_seat, with_parts}
use Rattle.sfi_host.specs.Worlds.{Sandboxes, Seat}
use Rattle.std.specs.Prelude.{IfSome, slice_set}
use Rattle.std.specs.Io.KnownBytes.{Appends, Keeps}
use Rattle.sfi_host.proofs.Facts.{plans_follow}
use Rattle.sfi_host.proofs.LaterReplies.{reply_is_answer, to_call_is_joint}
use Rattle.sfi_host.specs.Waiting.{Waits, to_call}
use Rattle.sfi_host.specs.declared.guest.Request.{Request}
use Rattle.sfi_host.specs.declared.status.Status.{Status}
use Rattle.sfi_host.specs.declared.status.Status.TheVariants.{Ready}
use Rattle.sfi_host.specs.declared.turn.Turn.{Turn}
use Rattle.std.proofs.lemmas.List.{map-append}
use Rattle.std.proofs.lemmas.Option.{same_Some}
use Rattle.sfi_tool.specs.Executing.{AreExecuted, IsBegun, IsExecuted, Streams, streams, taken, taken_by, turn_of, turns_of, IfKnown}
use Rattle.sfi_tool.specs.private.{AreCut, AreStreamed, AreWithin, IsAsked, IsCutTurn, IsStreamed, Streamed, TakesTurns, kept, left_by, left_of}
use Rattle.sfi_tool.proofs.Prelude.{◌≡◌, ℕ, List, refl, ap, arith, length, Bool, sym, ◌∙◌, subst, round_of, AreStates, Part, slots_of, Adds, slice_get}

-- ==== Rounds of turns, one after another, and what is said of the sandboxes after all of them.

-- where no turn is to be taken, nothing changes
pub no_turn : {S : Type 0} (machine : Machine) (answer : S → Call → Answer S) (slots : List Slot) (host : S)
    → IsJoint machine answer [] slots host slots host
unfolding joined
no_turn machine answer slots host = record { slots = refl; host = refl; turns = refl }

pub one_more_round : (k quantum count : ℕ) → plan_of k quantum count ++ round_of quantum count ≡ plan_of (k + 1) quantum count
one_more_round k quantum count =
    let e : suc k ≡ k + 1 = omega arith in ap (λ (n : ℕ). plan_of n quantum count) e

-- ---- what is said

pub said_of_run : (options : RunOptions) (machine : Machine) (ps : List Part) (count : ℕ) (w : Sandboxes) (c : ConsoleState) (slots : List Slot) (host : ConsoleState) (text : List ℕ)
    → count ≡ length ps → w.seats ≡ map first_seat ps → w.bytes ≡ with_parts empty ps → c ≡ new_console count options.input.items
    → IsJoint machine console (plan_of options.rounds options.quantum count) (slots_of w) c slots host
    → IsRunTextOf options.report ps slots host text
    → IsRunTextOf options.report ps (run_of machine options ps).slots (run_of machine options ps).host.host text
said_of_run options machine ps count w c slots host text e seats bytes begins j h =
    let rounds = plan_of options.rounds options.quantum in
    let first : slots_of w ≡ first_slots ps =
    ap (λ (b : Bytes). slots_of (record { bytes = b; seats = w.seats })) bytes
    ∙ ap (λ (s : List Seat). slots_of (record { bytes = with_parts empty ps; seats = s })) seats in
    let same : joint machine console (rounds count) (slots_of w) c None ≡ run_of machine options ps =
    ap (λ (x : List Slot). joint machine console (rounds count) x c None) first
    ∙ ap (λ (x : ConsoleState). joint machine console (rounds count) (first_slots ps) x None) begins
    ∙ ap (λ (n : ℕ). joint machine console (rounds n) (first_slots ps) (new_console n options.input.items) None) e in
    subst (λ (x : List Slot). IsRunTextOf options.report ps x (run_of machine options ps).host.host text) (j.slots ∙ ap (λ r. r.slots) same)
    (subst (λ (x : ConsoleState). IsRunTextOf options.report ps slots x text) (j.host ∙ ap (λ r. r.host.host) same) h)

-- the lines with what is told
pub lines_and_states : (report : Bool) (ps : List Part) (slots : List Slot) (host : ConsoleState) (count : ℕ) (lines text : List ℕ) → report ≡ true → count ≡ length ps
    → lines ≡ run_lines count slots host → Adds lines text (AreStates (length ps) ps slots) → IsRunTextOf report ps slots host text
lines_and_states report ps slots host count lines text is e h a =
    subst (λ (r : Bool). IsRunTextOf r ps slots host text) (sym is)
    (a.text, a.text_is, a.new_is ∙ ap (λ (l : List ℕ). l ++ a.text) (h ∙ ap (λ n. run_lines n slots host) e))

-- ==== Turns under the host of `exec`: what one comes to, and several, one after another.

-- ---- what is appended

append_none : (xs : List ℕ) → xs ≡ xs ++ []
append_none [] = refl
append_none (x ∷ xs) = ap (λ (l : List ℕ). x ∷ l) (append_none xs)

pub appends_none : (out : Option (List ℕ)) → Appends out out []
appends_none None = tt
appends_none (Some xs) = append_none xs

pub appends_both : (a b c : Option (List ℕ)) (xs ys : List ℕ) → Appends a b xs → Appends b c ys → Appends a c (xs ++ ys)
appends_both None b c xs ys first second = tt
appends_both (Some x) None c xs ys first second = absurd first
appends_both (Some x) (Some y) None xs ys first second = absurd second
appends_both (Some x) (Some y) (Some z) xs ys first second = second ∙ ap (λ (l : List ℕ). l ++ ys) first ∙ append_assoc x xs ys

pub keeps_appends : (a b : Option (List ℕ)) → Keeps a b → Appends a b []
keeps_appends None b keeps = tt
keeps_appends (Some x) None keeps = absurd keeps
keeps_appends (Some x) (Some y) keeps = keeps ∙ append_none x

pub keeps_same : (a : Option (List ℕ)) → Keeps a a
keeps_same None = tt
keeps_same (Some x) = refl

pub appends_kept : (a b c : Option (List ℕ)) (xs : List ℕ) → Appends a b xs → Keeps b c → Appends a c xs
appends_kept None b c xs first keeps = tt
appends_kept (Some x) None c xs first keeps = absurd first
appends_kept (Some x) (Some y) None xs first keeps = absurd keeps
appends_kept (Some x) (Some y) (Some z) xs first keeps = keeps ∙ first

-- ---- what is known

pub known_same : (o : Option (List ℕ)) (holds : List ℕ → List ℕ → Type 0) → ((x : List ℕ) → holds x x) → IfKnown o o holds
known_same None holds h = tt
known_same (Some x) holds h = h x

pub known_both : (a b c : Option (List ℕ)) (p q r : List ℕ → List ℕ → Type 0) → IfKnown a b p → IfKnown b c q
    → ((x y z : List ℕ) → p x y → q y z → r x z) → IfKnown a c r
known_both None b c p q r first second h = tt
known_both (Some x) None c p q r first second h = absurd first
known_both (Some x) (Some y) None p q r first second h = absurd second
known_both (Some x) (Some y) (Some z) p q r first second h = h x y z first second

pub some_same : (o : Option (List ℕ)) (holds : List ℕ → Type 0) → ((x : List ℕ) → holds x) → IfSome o holds
some_same None holds h = tt
some_same (Some x) holds h = h x

-- ---- turns, one after another

module _ (machine : Machine) (i : ℕ) where
  pub no_turns : (slots : List Slot) (c : ConsoleState) (x : List ℕ) → IsStreamed machine i slots c slots c [] x x
  no_turns slots c x = record {
    cuts = [];
    turns = λ rest out. subst (λ (put : List ℕ). TakesTurns machine i slots (kept x rest out c) slots (kept x rest put c)) (append_none out)
        (record { turns = []; joint = no_turn machine streams slots (kept x rest out c) });
  }

  two_plans : (old mid new : List Slot) (r s t : Streams) → TakesTurns machine i old r mid s → TakesTurns machine i mid s new t → TakesTurns machine i old r new t
  two_plans old mid new r s t first second = record {
    turns = first.turns ++ second.turns;
    joint = subst (λ (plan : List Turn). IsJoint machine streams plan old r new t) (sym (map-append (turn_of i) first.turns second.turns))
        (plans_follow machine streams (turns_of i first.turns) (turns_of i second.turns) old mid new r s t first.joint second.joint);
  }

  pub turns_follow : (old mid new : List Slot) (c d e : ConsoleState) (v w x y z : List ℕ) → IsStreamed machine i old c mid d v x y → IsStreamed machine i mid d new e w y z
      → IsStreamed machine i old c new e (v ++ w) x z
  turns_follow old mid new c d e v w x y z first second = record {
    cuts = first.cuts ++ second.cuts;
    turns = λ rest out.
        subst (λ (cuts : List ℕ). TakesTurns machine i old (kept x cuts out c) new (kept z rest (out ++ (v ++ w)) e)) (sym (append_assoc first.cuts second.cuts rest))
        (subst (λ (put : List ℕ). TakesTurns machine i old (kept x (first.cuts ++ (second.cuts ++ rest)) out c) new (kept z rest put e)) (append_assoc out v w)
        (two_plans old mid new (kept x (first.cuts ++ (second.cuts ++ rest)) out c) (kept y (second.cuts ++ rest) (out ++ v) d) (kept z rest ((out ++ v) ++ w) e)
        (first.turns (second.cuts ++ rest) out) (second.turns rest (out ++ v))));
  }

pub streamed_none : (i : ℕ) (slots : List Slot) (c : ConsoleState) (input out : Option (List ℕ)) → Streamed i slots c slots c input input out out
streamed_none i slots c input out = record {
  written = [];
  writes = appends_none out;
  ran = known_same input (λ x y. (machine : Machine) → IsMachine machine → IsStreamed machine i slots c slots c [] x y) (λ x machine is. no_turns machine i slots c x);
}

-- what was held back of what was put is written after a turn
pub streamed_flushed : (i : ℕ) (old new : List Slot) (c d : ConsoleState) (input left out mid outs : Option (List ℕ)) → Streamed i old c new d input left out mid → Keeps mid outs
    → Streamed i old c new d input left out outs
streamed_flushed i old new c d input left out mid outs turn keeps = record {
  written = turn.written;
  writes = appends_kept out mid outs turn.written turn.writes keeps;
  ran = turn.ran;
}

pub streamed_both : (i : ℕ) (old mid new : List Slot) (c d e : ConsoleState) (p q r u v w : Option (List ℕ)) → Streamed i old c mid d p q u v → Streamed i mid d new e q r v w
    → Streamed i old c new e p r u w
streamed_both i old mid new c d e p q r u v w first second = record {
  written = first.written ++ second.written;
  writes = appends_both u v w first.written second.written first.writes second.writes;
  ran = known_both p q r (λ x y. (machine : Machine) → IsMachine machine → IsStreamed machine i old c mid d first.written x y)
      (λ x y. (machine : Machine) → IsMachine machine → IsStreamed machine i mid d new e second.written x y)
      (λ x y. (machine : Machine) → IsMachine machine → IsStreamed machine i old c new e (first.written ++ second.written) x y)
      first.ran second.ran (λ x y z one two machine is. turns_follow machine i old mid new c d e first.written second.written x y z (one machine is) (two machine is));
}

-- what was written is a beginning of what turns put, after others that were written whole
pub cut_after : (budget i : ℕ) (old mid : List Slot) (c d : ConsoleState) (p q u v w : Option (List ℕ)) → Streamed i old c mid d p q u v → IsCutTurn budget i mid d q v w
    → IsCutTurn budget i old c p u w
cut_after budget i old mid c d p q u v w first cut = record {
  new = cut.new;
  d = cut.d;
  written = first.written ++ cut.written;
  rest = cut.rest;
  writes = appends_both u v w first.written cut.written first.writes cut.writes;
  within = cut.within;
  ran = by p q first.ran cut.ran;
}
  where
    by : (p q : Option (List ℕ)) → IfKnown p q (λ x y. (machine : Machine) → IsMachine machine → IsStreamed machine i old c mid d first.written x y)
        → IfSome q (λ y. (z : List ℕ) × ((machine : Machine) → IsMachine machine → IsStreamed machine i mid d cut.new cut.d (cut.written ++ cut.rest) y z))
        → IfSome p (λ x. (z : List ℕ) × ((machine : Machine) → IsMachine machine → IsStreamed machine i old c cut.new cut.d ((first.written ++ cut.written) ++ cut.rest) x z))
    by None q a b = tt
    by (Some x) None a b = absurd a
    by (Some x) (Some y) a b = (
      b.0,
      λ machine is.
          subst (λ (put : List ℕ). IsStreamed machine i old c cut.new cut.d put x b.0) (sym (append_assoc first.written cut.written cut.rest))
          (turns_follow machine i old mid cut.new c d cut.d first.written (cut.written ++ cut.rest) x y b.0 (a machine is) (b.1 machine is)),
    )

-- no turn, and nothing that is written
cut_none : (budget i : ℕ) (slots : List Slot) (c : ConsoleState) (input out outs : Option (List ℕ)) → AreWithin budget slots → Keeps out outs → IsCutTurn budget i slots c input out outs
cut_none budget i slots c input out outs within keeps = record {
  new = slots;
  d = c;
  written = [];
  rest = [];
  writes = keeps_appends out outs keeps;
  within = within;
  ran = some_same input _ (λ x. (x, λ machine is. no_turns machine i slots c x));
}

-- turns after which nothing more was written
pub cut_at : (budget i : ℕ) (old new : List Slot) (c d : ConsoleState) (input left out mid outs : Option (List ℕ)) → Streamed i old c new d input left out mid → AreWithin budget new → Keeps mid outs
    → IsCutTurn budget i old c input out outs
cut_at budget i old new c d input left out mid outs first within keeps =
    cut_after budget i old new c d input left out mid outs first (cut_none budget i new d left mid outs within keeps)

-- ---- a turn up to a call

module _ (machine : Machine) (t : Turn) (old : List Slot) (s : Streams) where
  go : (ended : Bool) → (to_call machine (t ∷ []) old).is_ended ≡ ended → TakesTurns machine t.sandbox old s (to_call machine (t ∷ []) old).slots s
  go false e = record { turns = t.steps ∷ []; joint = (to_call_is_joint machine streams t old s).0 e }
  go true e =
      let k = (to_call_is_joint machine streams t old s).1 e in
      record { turns = k.0 ∷ []; joint = k.2 }

  to_call_turns : TakesTurns machine t.sandbox old s (to_call machine (t ∷ []) old).slots s
  to_call_turns = go (to_call machine (t ∷ []) old).is_ended refl

pub to_call_streamed : (t : Turn) (old new : List Slot) (c : ConsoleState) (input out : Option (List ℕ))
    → ((machine : Machine) → IsMachine machine → new ≡ (to_call machine (t ∷ []) old).slots) → Streamed t.sandbox old c new c input input out out
to_call_streamed t old new c input out ran = record {
  written = [];
  writes = appends_none out;
  ran = known_same input (λ x y. (machine : Machine) → IsMachine machine → IsStreamed machine t.sandbox old c new c [] x y) (λ x machine is. record {
    cuts = [];
    turns = λ rest put.
        subst (λ (n : List Slot). TakesTurns machine t.sandbox old (kept x rest put c) n (kept x rest (put ++ []) c)) (sym (ran machine is))
        (subst (λ (p : List ℕ). TakesTurns machine t.sandbox old (kept x rest put c) (to_call machine (t ∷ []) old).slots (kept x rest p c)) (append_none put)
        (to_call_turns machine t old (kept x rest put c)));
  });
}

-- ---- a call that is answered

-- the call of a sandbox that waits
abbrev pub asked_by : (slots : List Slot) (i : ℕ) (q : Request) → Waits slots i q → Call
asked_by slots i q waits = call_by q (bytes_in waits.at.slot.bounds.data waits.at.slot.bytes)

pub answered_turns : (machine : Machine) → IsMachine machine → (i : ℕ) (old new : List Slot) (q : Request) (waits : Waits old i q) (r : Reply) (s after : Streams)
    → streams s (asked_by old i q waits) ≡ record { reply = r; host = after } → new ≡ slice_set old i (replied waits.at.slot r)
    → TakesTurns machine i old s new after
answered_turns machine is i old new q waits r s after gives slots = record {
  turns = 1 ∷ [];
  joint = subst (λ (n : List Slot). IsJoint machine streams (record { sandbox = i; steps = 1 } ∷ []) old s n after) (sym slots)
      (reply_is_answer machine is streams i old q r s after waits (ap (streams s) (sym waits.asks) ∙ gives));
}

-- what is asked is asked by who waits
pub asked_is : (budget : ℕ) (slots : List Slot) (i : ℕ) (q : Request) → Waits slots i q → left_of budget (slice_get slots i) ≢ 0 → IsAsked budget i slots q
asked_is budget slots i q waits left =
    let by : q.sandbox ≡ i = ap (λ (c : Call). c.caller) waits.asks in
    record { by = by; waits = subst (λ (n : ℕ). Waits slots n q) (sym by) waits; left = left }

-- ---- sandboxes, one after another

-- none that is left to do is a sandbox that has stopped, or did all
over : (budget : ℕ) (o : Option Slot) (slot : Slot) → left_of budget o ≡ 0 → taken slot ≤ budget → o ≡ Some slot → slot.status ≡ Ready → slot.steps ≡ budget
over budget None slot none fits there ready = absurd (cc)
over budget (Some s) slot none fits there ready =
    let same : s ≡ slot = same_Some s slot there in
    let left : left_by budget slot.status slot.steps ≡ 0 = subst (λ (x : Slot). left_by budget x.status x.steps ≡ 0) same none in
    let spare : budget - slot.steps ≡ 0 = subst (λ (x : Status). left_by budget x slot.steps ≡ 0) ready left in
    let most : slot.steps ≤ budget = subst (λ (x : Status). taken_by x slot.steps ≤ budget) ready fits in
    omega (arith, spare, most)

pub none_ran : (budget : ℕ) (slots : List Slot) (c : ConsoleState) (input out : Option (List ℕ)) → AreStreamed budget 0 slots c slots c input input out out
none_ran budget slots c input out = record {
  written = [];
  writes = appends_none out;
  ran = known_same input (λ x y. (machine : Machine) → IsMachine machine → (cuts : List ℕ) × ((rest put : List ℕ) → AreExecuted machine budget 0 slots (kept x (cuts ++ rest) put c) slots (kept y rest (put ++ []) c)))
      (λ x machine is. ([], λ rest put. (refl, ap (λ (p : List ℕ). kept x rest p c) (sym (append_none put)))));
}

pub one_more_ran : (budget n : ℕ) (old mid new : List Slot) (c d e : ConsoleState) (p q r u v w : Option (List ℕ)) → AreStreamed budget n old c mid d p q u v → Streamed n mid d new e q r v w
    → left_of budget (slice_get new n) ≡ 0 → AreWithin budget new → AreStreamed budget (n + 1) old c new e p r u w
one_more_ran budget n old mid new c d e p q r u v w first second none within = record {
  written = first.written ++ second.written;
  writes = appends_both u v w first.written second.written first.writes second.writes;
  ran = known_both p q r _ _ (λ x z. (machine : Machine) → IsMachine machine → (cuts : List ℕ) × ((rest put : List ℕ)
      → AreExecuted machine budget (n + 1) old (kept x (cuts ++ rest) put c) new (kept z rest (put ++ (first.written ++ second.written)) e)))
      first.ran second.ran (λ x y z one two machine is.
      let a = one machine is in
      let b = two machine is in (
        a.0 ++ b.cuts,
        λ rest put.
            let turns = b.turns rest (put ++ first.written) in
            let this : IsExecuted machine budget n mid (kept y (b.cuts ++ rest) (put ++ first.written) d) new (kept z rest ((put ++ first.written) ++ second.written) e) =
            record { turns = turns.turns; joint = turns.joint; within = within n; ended = λ slot there ready. over budget (slice_get new n) slot none (within n slot there) there ready } in
            let all : AreExecuted machine budget (suc n) old (kept x (a.0 ++ (b.cuts ++ rest)) put c) new (kept z rest ((put ++ first.written) ++ second.written) e) =
            (mid, kept y (b.cuts ++ rest) (put ++ first.written) d, a.1 (b.cuts ++ rest) put, this) in
            subst (λ (k : ℕ). AreExecuted machine budget k old (kept x ((a.0 ++ b.cuts) ++ rest) put c) new (kept z rest (put ++ (first.written ++ second.written)) e)) (let k : suc n ≡ n + 1 = omega arith in k)
            (subst (λ (cuts : List ℕ). AreExecuted machine budget (suc n) old (kept x cuts put c) new (kept z rest (put ++ (first.written ++ second.written)) e)) (sym (append_assoc a.0 b.cuts rest))
            (subst (λ (o : List ℕ). AreExecuted machine budget (suc n) old (kept x (a.0 ++ (b.cuts ++ rest)) put c) new (kept z rest o e)) (append_assoc put first.written second.written) all)),
      ));
}

-- what was written is a beginning of what one of them put, after others that were executed
pub cut_after_all : (budget n : ℕ) (old mid : List Slot) (c d : ConsoleState) (p q u v w : Option (List ℕ)) → AreStreamed budget n old c mid d p q u v → IsCutTurn budget n mid d q v w
    → AreCut budget old c p u w
cut_after_all budget n old mid c d p q u v w first cut = record {
  written = first.written ++ cut.written;
  writes = appends_both u v w first.written cut.written first.writes cut.writes;
  begun = by p q first.ran cut.ran;
}
  where
    by : (p q : Option (List ℕ))
        → IfKnown p q (λ x y. (machine : Machine) → IsMachine machine → (cuts : List ℕ) × ((rest put : List ℕ)
        → AreExecuted machine budget n old (kept x (cuts ++ rest) put c) mid (kept y rest (put ++ first.written) d)))
        → IfSome q (λ y. (z : List ℕ) × ((machine : Machine) → IsMachine machine → IsStreamed machine n mid d cut.new cut.d (cut.written ++ cut.rest) y z))
        → IfSome p (λ x. (machine : Machine) → IsMachine machine → (cuts : List ℕ) × IsBegun machine budget old (kept x cuts [] c) (first.written ++ cut.written))
    by None q a b = tt
    by (Some x) None a b = absurd a
    by (Some x) (Some y) a b = λ machine is.
        let e = a machine is in
        let s = b.1 machine is in
        let t = s.turns [] first.written in (
          e.0 ++ (s.cuts ++ []),
          record {
            done = n;
            mid = mid;
            between = kept y (s.cuts ++ []) first.written d;
            ran = e.1 (s.cuts ++ []) [];
            turns = t.turns;
            new = cut.new;
            after = kept b.0 [] (first.written ++ (cut.written ++ cut.rest)) cut.d;
            joint = t.joint;
            within = cut.within n;
            rest = cut.rest;
            output_is = sym (append_assoc first.written cut.written cut.rest);
          },
        )

-- those that were all executed, and after which nothing more was written
pub cut_at_end : (budget n : ℕ) (old new : List Slot) (c d : ConsoleState) (input left out mid outs : Option (List ℕ)) → AreStreamed budget n old c new d input left out mid → AreWithin budget new
    → Keeps mid outs → AreCut budget old c input out outs
cut_at_end budget n old new c d input left out mid outs first within keeps =
    cut_after_all budget n old new c d input left out mid outs first (cut_none budget n new d left mid outs within keeps)

-- what was cut off, and after which nothing more was written
pub cut_kept : (budget : ℕ) (old : List Slot) (c : ConsoleState) (input out mid outs : Option (List ℕ)) → AreCut budget old c input out mid → Keeps mid outs → AreCut budget old c input out outs
cut_kept budget old c input out mid outs cut keeps = record { written = cut.written; writes = appends_kept out mid outs cut.written cut.writes keeps; begun = cut.begun }
