-- A sandbox after a call: its own bytes, and its slot.
use Rattle.sfi_host.proofs.Prelude.{◌≡◌, ℕ, ◌<◌, ◌||◌, ◌&&◌, IsSome, Bool, true, false, not, cond, List, [], ◌∷◌, ◌++◌, Option, Some, None, refl, sym, ap, ◌∙◌, arith, option_or, find, retain_keys, entries, get-from_entries, get-entries, Bytes, IsMemory, byte_at, Span, is_in, bytes_in, bytes_outside, IsWhole, Bounds, is_own, own, both, is_byte, with_data, StaysOutside, ◌≢◌, ◌^◌, subst, Ecall, past, Stands, Status, Ready, Sandbox, StepResult, Continue, RunEnds, call_by, Call, Way, Replied, Exit, Reply, Answer, one_more, word, call_of, with_arguments, after_way, status_after, replied, next_after, seat_of, IsReplied, IsNotReplied, request_by, IsAnswerOf, IsNotAnswered, after_ecall, after_host_answer, next_after_answer, slot_of, state_in, IsSafeSeat}
use Rattle.std.specs.Cmp.{nat_cmp_total}
use Rattle.std.specs.Ordering.{nat_cmp, eq_by_cmp}
use Rattle.sfi_host.proofs.RegionBytes.{get_kept, same_bytes, byte_in, is_in-true, is_in-Holds}
use Rattle.sfi_host.proofs.OwnSteps.{own_there, own_missing, same_own, true_false}
use Rattle.sfi_host.specs.Hosts.{spoken}
use Rattle.sfi_host.specs.declared.calls.HostAnswer.{HostAnswer}
use Rattle.sfi_host.specs.declared.gates.GateAnswer.{GateAnswer}
use Rattle.sfi_host.specs.declared.guest.Request.{Request}
use Rattle.sfi_host.specs.declared.gates.GateAnswer.TheVariants as gate
use Rattle.sfi_host.proofs.SafeSeats as keep

-- ==== A sandbox's own bytes after a call.

-- ---- two memories in one

or_cond : (b : Bool) (v : ℕ) (x y : Option ℕ) → cond b (Some v) (option_or x y) ≡ option_or (cond b (Some v) x) y
or_cond true v x y = refl
or_cond false v x y = refl

find_both : (q : ℕ) (xs ys : List (ℕ × ℕ)) → find nat_cmp q (xs ++ ys) ≡ option_or (find nat_cmp q xs) (find nat_cmp q ys)
find_both q [] ys = refl
find_both q (x ∷ xs) ys = ap (cond (eq_by_cmp nat_cmp q x.0) (Some x.1)) (find_both q xs ys) ∙ or_cond (eq_by_cmp nat_cmp q x.0) x.1 _ _

pub get_both : (m w : Bytes) (q : ℕ) → byte_at (both m w) q ≡ option_or (byte_at m q) (byte_at w q)
get_both m w q =
    get-from_entries nat_cmp_total (entries m ++ entries w) q
    ∙ find_both q (entries m) (entries w)
    ∙ (λ k. option_or (sym (get-entries m q) k) (sym (get-entries w q) k))

-- the addresses at which a reply's bytes are taken
abbrev taken : Bounds → Bytes → ℕ → Bool
taken b others q = is_in b.data q && is_byte (byte_at others q)

pub get_with_data : (b : Bounds) (m others : Bytes) (q : ℕ) → byte_at (with_data b m others) q ≡ option_or (cond (is_in b.data q && is_byte (byte_at others q)) (byte_at others q) None) (byte_at m q)
get_with_data b m others q =
    get_both (retain_keys others (taken b others)) m q
    ∙ ap (λ (o : Option ℕ). option_or o (byte_at m q)) (get_kept others (taken b others) q)

-- ---- the data among the own bytes

own_data : (c d : Bool) (o : Option ℕ) → cond d (cond (c || d) o None) None ≡ cond d o None
own_data true d o = refl
own_data false true o = refl
own_data false false o = refl

pub data_of_own : (b : Bounds) (m : Bytes) → bytes_in b.data (own b m) ≡ bytes_in b.data m
data_of_own b m = same_bytes _ _ (λ q.
    get_kept (own b m) (is_in b.data) q
    ∙ ap (λ (o : Option ℕ). cond (is_in b.data q) o None) (get_kept m (is_own b) q)
    ∙ own_data (is_in b.code q) (is_in b.data q) (byte_at m q)
    ∙ sym (get_kept m (is_in b.data) q))

-- ---- what a call leaves

byte_test : (o : Option ℕ) → IsSome o → ((v : ℕ) → o ≡ Some v → v < 256) → is_byte o ≡ true
byte_test None h g = absurd (cc)
byte_test (Some v) h g = let l = g v refl in grind arith

or_taken : (o y : Option ℕ) → IsSome o → o ≡ option_or o y
or_taken None y h = absurd (cc)
or_taken (Some v) y h = refl

-- by an address: in the data, where there is a byte, or left
put_back_at : (c d t : Bool) (x y o : Option ℕ) → (d ≡ true → (o ≡ x) × (IsSome x) × (t ≡ true)) → (d ≡ false → x ≡ y) → cond (c || d) x None ≡ option_or (cond (d && t) o None) (cond (c || d) y None)
put_back_at true false t x y o there left = left refl
put_back_at false false t x y o there left = refl
put_back_at c d t x y o there left = let h = there refl in or_taken x y h.1 ∙ (λ k. option_or (cond (sym h.2 k) (sym h.0 k) None) y)

-- the own bytes, where all but the data is left
pub put_back : (b : Bounds) (m n others : Bytes) → StaysOutside b.data m n → IsMemory n → IsWhole b.data n → bytes_in b.data n ≡ others → own b n ≡ with_data b (own b m) others
put_back b m n others stays memory whole f = same_bytes _ _ (λ q.
    let now : is_in b.data q ≡ true → byte_at others q ≡ byte_at n q = λ e. sym (ap (λ (w : Bytes). byte_at w q) f) ∙ byte_in b.data n q e in
    get_kept n (is_own b) q
    ∙ put_back_at (is_in b.code q) (is_in b.data q) (is_byte (byte_at others q)) (byte_at n q) (byte_at m q) (byte_at others q)
    (λ e. (now e, whole q (is_in-true b.data q e), ap is_byte (now e) ∙ byte_test (byte_at n q) (whole q (is_in-true b.data q e)) (λ v g. memory.bytes q v g)))
    (λ e. stays q (λ h. true_false (is_in b.data q) (is_in-Holds b.data q h) e))
    ∙ sym (get_with_data b (own b m) others q ∙ ap (λ (o : Option ℕ). option_or (cond (taken b others q) (byte_at others q) None) o) (get_kept m (is_own b) q)))

-- where the data too are as before, all is
pub own_left : (b : Bounds) (m n : Bytes) → StaysOutside b.data m n → bytes_in b.data n ≡ bytes_in b.data m → own b n ≡ own b m
own_left b m n stays f = same_own b (own b n) m
    (λ a e. own_there b n a e ∙ elim (is_in b.data a) as (λ d. is_in b.data a ≡ d → byte_at n a ≡ byte_at m a) [
      | true ↦ λ d. sym (byte_in b.data n a d) ∙ ap (λ (w : Bytes). byte_at w a) f ∙ byte_in b.data m a d
      | false ↦ λ d. stays a (λ h. true_false (is_in b.data a) (is_in-Holds b.data a h) d)
    ] refl)
    (λ a e. own_missing b n a e)

left_at : (t : Bool) (x y : Option ℕ) → (t ≡ true → ⊥) → cond (not t) x None ≡ cond (not t) y None → x ≡ y
left_at true x y out e = absurd (out refl)
left_at false x y out e = e

pub stays_outside : (region : Span) (m n : Bytes) → bytes_outside region n ≡ bytes_outside region m → StaysOutside region m n
stays_outside region m n e a out =
    left_at (is_in region a) (byte_at n a) (byte_at m a) (λ t. out (is_in-true region a t))
    (sym (get_kept n (λ q. not (is_in region q)) a) ∙ ap (λ (w : Bytes). byte_at w a) e ∙ get_kept m (λ q. not (is_in region q)) a)

-- a region is whole in a memory exactly where it is in the bytes there
pub whole_in : (region : Span) (m : Bytes) → IsWhole region m → IsWhole region (bytes_in region m)
whole_in region m whole a h = ap Rattle.std.proofs.Common.is_some (byte_in region m a (is_in-Holds region a h)) ∙ whole a h

pub whole_of : (region : Span) (m : Bytes) → IsWhole region (bytes_in region m) → IsWhole region m
whole_of region m whole a h = ap Rattle.std.proofs.Common.is_some (sym (byte_in region m a (is_in-Holds region a h))) ∙ whole a h

-- ==== A sandbox after an answered call is the slot that the definition makes.

word_is : (a b : ℕ) → a < 2 ^ 32 → a ≡ b → a ≡ word b
word_is a b fits e = omega arith

-- what is asked of the memory of all is what the sandbox asks alone
pub asked_is : (number : ℕ) (r : Request) (m : Bytes) (s : Sandbox) → r ≡ request_by number s → call_by r (bytes_in (seat_of s).bounds.data m) ≡ call_of number (slot_of m (seat_of s))
asked_is number r m s e =
    ap (λ (q : Request). call_by q (bytes_in (seat_of s).bounds.data m)) e
    ∙ ap (λ (w : Bytes). call_by (request_by number s) w) (sym (data_of_own (seat_of s).bounds m))

by_way : (m n : Bytes) (s : Sandbox) (t : HostAnswer) (r : Reply) (w : Way) → s.status ≡ Ready → t.a0 ≡ word r.a0 → t.a1 ≡ word r.a1 → own (seat_of s).bounds n ≡ with_data (seat_of s).bounds (own (seat_of s).bounds m) r.bytes
    → slot_of n (seat_of (after_host_answer (spoken w) s t)) ≡ replied (slot_of m (seat_of s)) (record { way = w; a0 = r.a0; a1 = r.a1; bytes = r.bytes })
by_way m n s t r (Exit k) ready x y b = λ j. record { bounds = (seat_of s).bounds; hart = with_arguments s.cpu (x j) (y j); status = status_after (Exit k); steps = one_more s.steps; bytes = b j }
by_way m n s t r w ready x y b = λ j. record { bounds = (seat_of s).bounds; hart = past (with_arguments s.cpu (x j) (y j)) 4; status = ready j; steps = one_more s.steps; bytes = b j }

next_way : (w : Way) → next_after_answer (spoken w) ≡ next_after w
next_way Replied = refl
next_way w = refl

refused_answer : (a : GateAnswer) → next_after_answer a ≡ RunEnds → a ≡ gate.Memory
refused_answer gate.Memory e = refl
refused_answer a e = absurd (cc)

-- ---- the two ways in which a call ends

module _ {S : Type 0} (m n : Bytes) (s : Sandbox) (t : HostAnswer) (call : Call) (number : ℕ) (before after : S) (result : StepResult)
    (is : call ≡ call_of number (slot_of m (seat_of s))) (out : StaysOutside (seat_of s).bounds.data m n)
    (goes : result ≡ next_after_answer t.answer) where
  pub replies : (answer : S → Call → Answer S) → s.status ≡ Ready → t.a0 < 2 ^ 32 → t.a1 < 2 ^ 32 → IsMemory n → IsWhole (seat_of s).bounds.data n
      → (t.answer ≢ gate.Memory → IsAnswerOf (answer before call) (bytes_in (seat_of s).bounds.data n) after t) → result ≢ RunEnds
      → IsReplied answer number (slot_of m (seat_of s)) before (slot_of n (seat_of (after_host_answer t.answer s t))) after result
  replies answer ready a0 a1 memory whole told_if goes_on =
      let host_answer : IsAnswerOf (answer before call) (bytes_in (seat_of s).bounds.data n) after t = told_if (λ e. goes_on (goes ∙ ap next_after_answer e)) in
      let r = answer before call in
      let same : answer before call ≡ answer before (call_of number (slot_of m (seat_of s))) = ap (λ (c : Call). answer before c) is in
      let back : own (seat_of s).bounds n ≡ with_data (seat_of s).bounds (own (seat_of s).bounds m) r.reply.bytes = put_back (seat_of s).bounds m n r.reply.bytes out memory whole host_answer.data_bytes in
      record {
        slot = ap (λ (a : GateAnswer). slot_of n (seat_of (after_host_answer a s t))) host_answer.way ∙ by_way m n s t r.reply r.reply.way ready (word_is t.a0 r.reply.a0 a0 host_answer.a0) (word_is t.a1 r.reply.a1 a1 host_answer.a1) back ∙ ap (λ (x : Answer S). replied (slot_of m (seat_of s)) x.reply) same;
        host = host_answer.state ∙ ap (λ (x : Answer S). x.host) same;
        next_is = goes ∙ ap next_after_answer host_answer.way ∙ next_way r.reply.way ∙ ap (λ (x : Answer S). next_after x.reply.way) same;
      }

  pub refuses : (may_refuse : S → Call → Bool)
      → (t.answer ≡ gate.Memory → IsNotAnswered (may_refuse before) call (bytes_in (seat_of s).bounds.data n) before after) → result ≡ RunEnds
      → IsNotReplied may_refuse number (slot_of m (seat_of s)) before (slot_of n (seat_of (after_host_answer t.answer s t))) after
  refuses may_refuse not_told ends =
      let e : t.answer ≡ gate.Memory = refused_answer t.answer (sym goes ∙ ends) in
      let b : IsNotAnswered (may_refuse before) call (bytes_in (seat_of s).bounds.data n) before after = not_told e in
      let same : own (seat_of s).bounds n ≡ own (seat_of s).bounds m =
      own_left (seat_of s).bounds m n out (b.data_bytes ∙ ap (λ (x : Call). x.bytes) is ∙ data_of_own (seat_of s).bounds m) in
      record {
        test = ap (may_refuse before) (sym is) ∙ b.test;
        slot = ap (λ (a : GateAnswer). slot_of n (seat_of (after_host_answer a s t))) e ∙ (λ j. record { bounds = (seat_of s).bounds; hart = s.cpu; status = s.status; steps = s.steps; bytes = same j });
        host = b.state;
      }

-- ---- the sandbox afterwards

pub bounds_after : (a : GateAnswer) (s : Sandbox) (t : HostAnswer) → (seat_of (after_host_answer a s t)).bounds ≡ (seat_of s).bounds
bounds_after gate.Memory s t = refl
bounds_after a s t = refl

-- where its turn goes on, a sandbox is ready as before
pub still_ready : (a : GateAnswer) (s : Sandbox) (t : HostAnswer) (goes : StepResult) → goes ≡ next_after_answer a → goes ≡ Continue → s.status ≡ Ready → (after_host_answer a s t).status ≡ Ready
still_ready gate.Replied s t goes e more ready = ready
still_ready a s t goes e more ready = absurd (cc)

pub safe_after : (m n : Bytes) (s : Sandbox) (t : HostAnswer) (a : GateAnswer) (size : ℕ) → IsSafeSeat m (seat_of s) → s.status ≡ Ready → Stands (state_in m (seat_of s)) Ecall size
    → IsMemory n → StaysOutside (seat_of s).bounds.data m n → IsWhole (seat_of s).bounds.data n → t.a0 < 2 ^ 32 → t.a1 < 2 ^ 32
    → IsSafeSeat n (seat_of (after_host_answer a s t))
safe_after m n s t a size seat ready stands memory stays whole f g = by_answer a
  where
    after : (w : Way) → IsSafeSeat n (record { bounds = (seat_of s).bounds; hart = after_way w (with_arguments s.cpu t.a0 t.a1); status = status_after w; steps = one_more s.steps })
    after = keep.answered_safe m (seat_of s) seat ready size stands n memory stays whole t.a0 t.a1 f g

    goes_on : IsSafeSeat n (seat_of (after_ecall s t))
    goes_on = subst (λ (x : Status). IsSafeSeat n (record { bounds = (seat_of s).bounds; hart = past (with_arguments s.cpu t.a0 t.a1) 4; status = x; steps = one_more s.steps })) (sym ready) (after Replied)

    by_answer : (a : GateAnswer) → IsSafeSeat n (seat_of (after_host_answer a s t))
    by_answer (gate.Exit k) = after (Exit k)
    by_answer gate.Memory = keep.own_changed m (seat_of s) seat n memory stays whole
    by_answer a = goes_on
