-- A console's answers: to a caller that has a session, to one that posts a word, and to one that it doesn't know.
use Rattle.sfi_host.proofs.Prelude.{slice_set, ◌≡◌, ◌≢◌, ℕ, List, Some, sym, ap, subst, ◌∙◌, arith, ◌↔◌, IsTrue, ◌<◌, ◌≤◌, Bool, true, false, if◌then◌else◌, length, get_or, None, refl, Bytes, asked, with_a0, Call, Answer, SessionState, ConsoleState, with_session, serve, serve_own, console, may_want, may_want_if, console_may_refuse, new_session, failed, most_messages, posted, mailbox_full, message_of, with_message, post_to, post, ltb_from_iff, slice_get-get_or, slice_get_past, OnTrue, OnFalse}
use Rattle.sfi_host.specs.Hosts.{IsGiven, IsRefusal}
use Rattle.sfi_host.specs.Consoles.{Message, exit_service, yield_service, post_service, replied}
use Rattle.sfi_host.specs.declared.gates.GateAnswer.{GateAnswer}
use Rattle.sfi_host.specs.declared.guest.Guest.{Guest}
use Rattle.std.specs.List.{slice_get}
use Rattle.sfi_decoded.proofs.Lists.{set_itself}
use Rattle.sfi_host.specs.declared.gates.GateAnswer.TheVariants as gate

-- ---- a session

-- what a caller is answered that has a session
answer_is : (s : ConsoleState) (c : Call) (x : SessionState) → c.service ≢ exit_service → c.service ≢ yield_service → c.service ≢ post_service → slice_get s.sessions c.caller ≡ Some x
    → serve_own s c x ≡ console s c
answer_is s c x h k p e = grind (arith, h, k, p, e)

-- its answer is the console's
pub given_at : {M : Type 0} (bytes : M → Bytes) (s self : ConsoleState) (old new : Guest M) (x after : SessionState) (i : ℕ) (input : List ℕ) (result : GateAnswer)
    → s ≡ self → i ≡ (asked bytes old).caller → input ≡ s.input → slice_get s.sessions i ≡ Some x
    → (asked bytes old).service ≢ exit_service → (asked bytes old).service ≢ yield_service → (asked bytes old).service ≢ post_service
    → IsGiven bytes (serve input x (asked bytes old)) new after result
    → IsGiven bytes (console self (asked bytes old)) new (with_session s i after) result
given_at bytes s self old new x after i input result e f n there h k p g =
    let call = asked bytes old in
    let is = answer_is s call x h k p (ap (slice_get s.sessions) (sym f) ∙ there) ∙ ap (λ t. console t call) e in
    let own = subst (λ t. IsGiven bytes (serve t x call) new after result) n g in
    subst (λ a. IsGiven bytes a new (with_session s i after) result) is
    (record { way = own.way; a0 = own.a0; a1 = own.a1; data_bytes = own.data_bytes; state = ap (λ j. with_session s j after) f ∙ ap (with_session s call.caller) own.state })

-- its want of memory is the console's
pub refusal_at : {M : Type 0} (bytes : M → Bytes) (s self : ConsoleState) (old new : Guest M) (x after : SessionState) (i : ℕ)
    → s ≡ self → i ≡ (asked bytes old).caller → slice_get s.sessions i ≡ Some x
    → IsRefusal (may_want x) bytes old new x after
    → IsRefusal (console_may_refuse self) bytes old new self (with_session s i after)
refusal_at bytes s self old new x after i e f there r =
    subst (λ t. IsRefusal (console_may_refuse t) bytes old new t (with_session s i after)) e
    (record {
      test = ap (may_want_if (asked bytes old)) (ap (slice_get s.sessions) (sym f) ∙ there) ∙ r.test;
      asked_same = r.asked_same;
      state = ap (with_session s i) r.state ∙ ap (λ xs. record s { sessions = xs }) (set_itself s.sessions i x there);
    })

-- ---- posts

-- a reply that changes a0 alone
given_replied : {M : Type 0} (bytes : M → Bytes) (answer : Answer ConsoleState) (old new : Guest M) (a0 : ℕ) (host : ConsoleState)
    → answer ≡ replied (asked bytes old) a0 host → asked bytes new ≡ with_a0 (asked bytes old) a0 → IsGiven bytes answer new host gate.Replied
given_replied bytes answer old new a0 host e f =
    subst (λ a. IsGiven bytes a new host gate.Replied) (sym e)
    (record { way = refl; a0 = ap (λ (c : Call). c.a0) f; a1 = ap (λ (c : Call). c.a1) f; data_bytes = ap (λ (c : Call). c.bytes) f; state = refl })

-- what a post is answered, where there is a session of that number
by_room : (s : ConsoleState) (c : Call) (x : SessionState) (i : ℕ) (room : Bool) → i ≡ c.a0 → slice_get s.sessions i ≡ Some x → (IsTrue room ↔ (length x.mailbox < most_messages))
    → post s c ≡ (if room then replied c posted (with_session s c.a0 (with_message x (message_of c))) else replied c mailbox_full s)
by_room s c x i room f there r =
    ap (λ j. post_to s c (slice_get s.sessions j)) (sym f)
    ∙ ap (post_to s c) there
    ∙ ap (λ b. if b then replied c posted (with_session s c.a0 (with_message x (message_of c))) else replied c mailbox_full s) (sym (ltb_from_iff r))

post_value : (s : ConsoleState) (c : Call) (x after : SessionState) (i a0 : ℕ) (m : Message) (room : Bool)
    → i ≡ c.a0 → slice_get s.sessions i ≡ Some x → m ≡ message_of c → (IsTrue room ↔ (length x.mailbox < most_messages))
    → OnTrue room (after ≡ with_message x m) → OnFalse room (after ≡ x) → a0 ≡ (if room then posted else mailbox_full)
    → post s c ≡ replied c a0 (with_session s i after)
post_value s c x after i a0 m true f there n r sent full z =
    by_room s c x i true f there r
    ∙ (λ k. replied c (sym z k) (with_session s (sym f k) ((ap (with_message x) (sym n) ∙ sym sent) k)))
post_value s c x after i a0 m false f there n r sent full z =
    by_room s c x i false f there r
    ∙ (λ k. replied c (sym z k) (record s { sessions = (sym (set_itself s.sessions i x there) ∙ ap (slice_set s.sessions i) (sym full)) k }))

pub posted_at : {M : Type 0} (bytes : M → Bytes) (s self : ConsoleState) (old new : Guest M) (x after : SessionState) (i a0 : ℕ) (m : Message) (room : Bool)
    → s ≡ self → i ≡ (asked bytes old).a0 → slice_get s.sessions i ≡ Some x → m ≡ message_of (asked bytes old)
    → (IsTrue room ↔ (length x.mailbox < most_messages)) → OnTrue room (after ≡ with_message x m) → OnFalse room (after ≡ x) → a0 ≡ (if room then posted else mailbox_full)
    → asked bytes new ≡ with_a0 (asked bytes old) a0
    → IsGiven bytes (post self (asked bytes old)) new (with_session s i after) gate.Replied
posted_at bytes s self old new x after i a0 m room e f there n r sent full z w =
    given_replied bytes (post self (asked bytes old)) old new a0 (with_session s i after)
    (ap (λ t. post t (asked bytes old)) (sym e) ∙ post_value s (asked bytes old) x after i a0 m room f there n r sent full z) w

-- ---- callers

-- a caller below the count that posts is answered so
pub posts_at : {M : Type 0} (bytes : M → Bytes) (self host : ConsoleState) (old new : Guest M) (result : GateAnswer) → (asked bytes old).service ≡ post_service → (asked bytes old).caller < length self.sessions
    → IsGiven bytes (post self (asked bytes old)) new host result → IsGiven bytes (console self (asked bytes old)) new host result
posts_at bytes self host old new result p l g =
    let there : slice_get self.sessions (asked bytes old).caller ≡ Some (get_or self.sessions (asked bytes old).caller new_session) = slice_get-get_or self.sessions (asked bytes old).caller new_session l in
    let is : post self (asked bytes old) ≡ console self (asked bytes old) = grind (arith, p, there) in
    subst (λ a. IsGiven bytes a new host result) is g

-- a caller that isn't below the count is refused all but exit and yield
pub unknown_at : {M : Type 0} (bytes : M → Bytes) (self : ConsoleState) (old new : Guest M) (result : GateAnswer)
    → (asked bytes old).service ≢ exit_service → (asked bytes old).service ≢ yield_service → length self.sessions ≤ (asked bytes old).caller
    → result ≡ gate.Replied → asked bytes new ≡ with_a0 (asked bytes old) failed → IsGiven bytes (console self (asked bytes old)) new self result
unknown_at bytes self old new result h k l e w =
    let none : slice_get self.sessions (asked bytes old).caller ≡ None = slice_get_past self.sessions (asked bytes old).caller l in
    let is : console self (asked bytes old) ≡ replied (asked bytes old) failed self = grind (arith, h, k, none) in
    subst (λ r. IsGiven bytes (console self (asked bytes old)) new self r) (sym e) (given_replied bytes (console self (asked bytes old)) old new failed self is w)
