-- What put and get do, as the host of `exec` answers them.
use Rattle.sfi_tool.proofs.Prelude.{◌≡◌, ◌∙◌, ℕ, List, Bool, refl, sym, ap, subst, arith, length, inl, Part, AreStates, Adds}
use Rattle.std.proofs.Common.{◌≢◌, ◌⊎◌, ⊎_elim, inr, suc, zero, ◌^◌, ◌≤◌, [], ◌∷◌, ◌++◌, true, false, Option, Some, None, IsSome, is_some, take, drop, min}
use Rattle.std.specs.Bool.{OnTrue, OnFalse}
use Rattle.std.specs.Prelude.{Result, Ok, Err, IfErr, IfOk, IsTrue, ◌↔◌, ◌%◌, slice_set, if◌then◌else◌, nat_le, ◌==◌}
use Rattle.std.specs.List.{range_with_len}
use Rattle.std.specs.Io.KnownBytes.{Appends, Keeps}
use Rattle.std.proofs.lemmas.Bool.Decides.{nat_tests}
use Rattle.std.proofs.lemmas.List.{length-take-le, take-append-le}
use Rattle.rv_mem.specs.Bytes.{Bytes, bytes_at, with_bytes}
use Rattle.std.proofs.lemmas.Option.{same_Some}
use Rattle.sfi_host.proofs.Facts.{some_machine}
use Rattle.sfi_host.proofs.LaterReplies.{reply_is_answer}
use Rattle.sfi_host.proofs.Runs.{fewer_there}
use Rattle.sfi_host.specs.Plans.{IsJoint}
use Rattle.sfi_host.specs.Changing.{data_bytes_of}
use Rattle.sfi_host.specs.Consoles.{ConsoleState, console, failed, handed, most_handed, get_service, put_service}
use Rattle.sfi_host.specs.Hosts.{data_from, with_a0, with_bytes_at, Answer, Call, Reply, Replied}
use Rattle.sfi_host.specs.Joint.{Machine, IsMachine, call_of, replied}
use Rattle.sfi_host.specs.Slots.{Slot}
use Rattle.sfi_host.specs.Waiting.{Waits, later_reply}
use Rattle.sfi_host.specs.declared.guest.Request.{Request}
use Rattle.sfi_tool.specs.declared.piece.Piece.{Piece}
use Rattle.sfi_tool.specs.Executing.{IsStopText, Streams, get_if, other, piece_of, put_if, stop_lines, streams, IfKnown}
use Rattle.sfi_tool.specs.private.{AreWithin, GoesOnWith, IsAnsweredBy, IsAsked, IsCut, IsCutTurn, piece_answer, piece_bytes, IsPiece, IsReplyTo, IsServed, IsStreamed, Streamed, TakesTurns, handed_by, kept}
use Rattle.sfi_tool.proofs.Turns.{answered_turns, appends_none, asked_by, cut_after, keeps_appends, known_same, no_turns, some_same, streamed_both}
use Rattle.sfi_tool.proofs.Budgets.{reply_within}

put_none : (xs : List ℕ) → xs ≡ xs ++ []
put_none [] = refl
put_none (x ∷ xs) = ap (λ (l : List ℕ). x ∷ l) (put_none xs)

-- ---- what is asked

-- by service
pub put_asked : (s : Streams) (c : Call) → c.service ≡ put_service → streams s c ≡ put_if s c (handed c)
put_asked s c e = ap (λ (n : ℕ). if n == put_service then put_if s c (handed c) else if n == get_service then get_if s c (handed c) else other s c) e

pub get_asked : (s : Streams) (c : Call) → c.service ≡ get_service → streams s c ≡ get_if s c (handed c)
get_asked s c e = ap (λ (n : ℕ). if n == put_service then put_if s c (handed c) else if n == get_service then get_if s c (handed c) else other s c) e

pub other_asked : (s : Streams) (c : Call) → c.service ≢ put_service → c.service ≢ get_service → streams s c ≡ other s c
other_asked s c put get =
    let first : (c.service == put_service) ≡ false = grind (arith, nat_tests) in
    let second : (c.service == get_service) ≡ false = grind (arith, nat_tests) in
    ap (λ (b : Bool). if b then put_if s c (handed c) else if c.service == get_service then get_if s c (handed c) else other s c) first
    ∙ ap (λ (b : Bool). if b then get_if s c (handed c) else other s c) second

-- what is handed over
module _ (old : List Slot) (q : Request) (waits : Waits old q.sandbox q) where
  pub handed_is : handed (asked_by old q.sandbox q waits) ≡ handed_by old q
  handed_is = ap (λ (o : Option Slot). if nat_le q.a1 most_handed then data_bytes_of o q.a0 q.a1 else None) (sym waits.at.there)

  -- the reply that the caller got
  went_on : (a0 : ℕ) (new : List Slot) → GoesOnWith q a0 old new
      → new ≡ slice_set old q.sandbox (replied waits.at.slot (record { way = Replied; a0 = a0; a1 = q.a1; bytes = (asked_by old q.sandbox q waits).bytes }))
  went_on a0 new goes = goes waits.at.slot waits.at.there

  pub replies_to : (a0 : ℕ) (new : List Slot) → GoesOnWith q a0 old new → IsReplyTo q.sandbox old new
  replies_to a0 new goes = record {
    slot = waits.at.slot;
    there = waits.at.there;
    reply = record { way = Replied; a0 = a0; a1 = q.a1; bytes = (asked_by old q.sandbox q waits).bytes };
    slots = went_on a0 new goes;
  }

  -- one that got nothing else, and after which the host keeps what it kept
  module _ (c : ConsoleState) (new : List Slot) (goes : GoesOnWith q failed old new) (refused : handed_by old q ≡ None) where
    refused_turns : (gives : (s : Streams) → streams s (asked_by old q.sandbox q waits)
        ≡ record { reply = record { way = Replied; a0 = failed; a1 = q.a1; bytes = (asked_by old q.sandbox q waits).bytes }; host = s }) → (input out : Option (List ℕ))
        → IsServed q.sandbox old c new c input input out out
    refused_turns gives input out = record {
      replies = replies_to failed new goes;
      streamed = record {
        written = [];
        writes = appends_none out;
        ran = known_same input (λ x y. (machine : Machine) → IsMachine machine → IsStreamed machine q.sandbox old c new c [] x y) (λ x machine is. record {
          cuts = [];
          turns = λ rest put. subst (λ (p : List ℕ). TakesTurns machine q.sandbox old (kept x rest put c) new (kept x rest p c)) (put_none put)
              (answered_turns machine is q.sandbox old new q waits _ (kept x rest put c) (kept x rest put c) (gives (kept x rest put c)) (went_on failed new goes));
        });
      };
    }

    pub put_refused : q.service ≡ put_service → (input out : Option (List ℕ)) → IsServed q.sandbox old c new c input input out out
    put_refused service = refused_turns (λ s. put_asked s _ service ∙ ap (put_if s (asked_by old q.sandbox q waits)) (handed_is ∙ refused))

    pub get_refused : q.service ≡ get_service → (input out : Option (List ℕ)) → IsServed q.sandbox old c new c input input out out
    get_refused service = refused_turns (λ s. get_asked s _ service ∙ ap (get_if s (asked_by old q.sandbox q waits)) (handed_is ∙ refused))

  -- a put
  put_streamed : (c : ConsoleState) (new : List Slot) (bytes x : List ℕ) → q.service ≡ put_service → handed_by old q ≡ Some bytes → GoesOnWith q q.a1 old new
      → (machine : Machine) → IsMachine machine → IsStreamed machine q.sandbox old c new c bytes x x
  put_streamed c new bytes x service given goes machine is = record {
    cuts = [];
    turns = λ rest put.
        answered_turns machine is q.sandbox old new q waits _ (kept x rest put c) (kept x rest (put ++ bytes) c)
        (put_asked (kept x rest put c) _ service ∙ ap (put_if (kept x rest put c) (asked_by old q.sandbox q waits)) (handed_is ∙ given)) (went_on q.a1 new goes);
  }

  pub put_served : (c : ConsoleState) (new : List Slot) (bytes : List ℕ) (input out outs : Option (List ℕ)) → q.service ≡ put_service → handed_by old q ≡ Some bytes
      → GoesOnWith q q.a1 old new → Appends out outs bytes → IsServed q.sandbox old c new c input input out outs
  put_served c new bytes input out outs service given goes writes = record {
    replies = replies_to q.a1 new goes;
    streamed = record {
      written = bytes;
      writes = writes;
      ran = known_same input (λ x y. (machine : Machine) → IsMachine machine → IsStreamed machine q.sandbox old c new c bytes x y)
          (λ x machine is. put_streamed c new bytes x service given goes machine is);
    };
  }

  -- the sandboxes after a put that is answered
  abbrev after_put : List Slot
  after_put = slice_set old q.sandbox (replied waits.at.slot (later_reply (record { a0 = q.a1; a1 = q.a1; exit = None }) (call_of q.sandbox waits.at.slot)))

  goes_there : GoesOnWith q q.a1 old after_put
  goes_there slot there =
      ap (λ (s : Slot). slice_set old q.sandbox (replied s (later_reply (record { a0 = q.a1; a1 = q.a1; exit = None }) (call_of q.sandbox s))))
      (same_Some waits.at.slot slot (sym waits.at.there ∙ there))

  -- a put of which a beginning was written
  pub put_cut : (c : ConsoleState) (bytes written rest : List ℕ) (out outs : Option (List ℕ)) → q.service ≡ put_service → handed_by old q ≡ Some bytes → bytes ≡ written ++ rest
      → Appends out outs written → IsCut q.sandbox old c out outs
  put_cut c bytes written rest out outs service given same writes = record {
    new = after_put;
    written = written;
    rest = rest;
    writes = writes;
    replies = inr (replies_to q.a1 after_put goes_there);
    ran = λ x machine is. subst (λ (b : List ℕ). IsStreamed machine q.sandbox old c after_put c b x x) same (put_streamed c after_put bytes x service given goes_there machine is);
  }

  -- one that was written whole
  pub put_whole : (c : ConsoleState) (bytes : List ℕ) (out outs : Option (List ℕ)) → q.service ≡ put_service → handed_by old q ≡ Some bytes → Appends out outs bytes → IsCut q.sandbox old c out outs
  put_whole c bytes out outs service given writes = put_cut c bytes bytes [] out outs service given (put_none bytes) writes

-- what holds holds of an error
pub if_err : {A E : Type 0} (r : Result A E) (P : Type 0) → P → IfErr r (λ e. P)
if_err (Ok x) P h = tt
if_err (Err e) P h = h

pub if_ok : {A E : Type 0} (r : Result A E) (P : Type 0) → P → IfOk r (λ x. P)
if_ok (Ok x) P h = h
if_ok (Err e) P h = tt

-- a call before which nothing was written
pub nothing_cut : (i : ℕ) (slots : List Slot) (c : ConsoleState) (out outs : Option (List ℕ)) → Keeps out outs → IsCut i slots c out outs
nothing_cut i slots c out outs keeps = record {
  new = slots;
  written = [];
  rest = [];
  writes = keeps_appends out outs keeps;
  replies = inl refl;
  ran = λ x machine is. no_turns machine i slots c x;
}

-- ---- a piece of the input

-- the cut that lets a piece of that length through
abbrev cut_of : ℕ → ℕ
cut_of zero = zero
cut_of (suc n) = n

take_front : (piece rest : List ℕ) → take (length piece) (piece ++ rest) ≡ piece
take_front [] rest = refl
take_front (b ∷ bs) rest = ap (λ (l : List ℕ). b ∷ l) (take_front bs rest)

drop_front : (piece rest : List ℕ) → drop (length piece) (piece ++ rest) ≡ rest
drop_front [] rest = refl
drop_front (b ∷ bs) rest = drop_front bs rest

take_none : (n : ℕ) → take {A = ℕ} n [] ≡ []
take_none zero = refl
take_none (suc n) = refl

-- what a get is given, where that was read
module _ (n : ℕ) (piece y put rest : List ℕ) (c : ConsoleState) (few : length piece ≤ n) (none : length piece ≡ 0 → (n ≡ 0) ⊎ (y ≡ [])) where
  before : Streams
  before = kept (piece ++ y) (cut_of (length piece) ∷ rest) put c

  given_is : (p : List ℕ) → p ≡ piece → take (min n (suc (cut_of (length p)))) (p ++ y) ≡ p
  given_is [] e =
      let empty : length piece ≡ 0 = ap length (sym e) in
      ⊎_elim (λ (z : n ≡ 0). ap (λ (k : ℕ). take (min k 1) y) z) (λ (z : y ≡ []). ap (take (min n 1)) z ∙ take_none (min n 1)) (none empty)
  given_is (b ∷ bs) e =
      let long : suc (length bs) ≤ n = subst (λ (p : List ℕ). length p ≤ n) (sym e) few in
      let most : min n (suc (length bs)) ≡ suc (length bs) = omega (arith, long) in
      ap (λ (k : ℕ). take k (b ∷ (bs ++ y))) most ∙ take_front (b ∷ bs) y

  pub piece_is : piece_of n (kept (piece ++ y) (cut_of (length piece) ∷ rest) put c) ≡ piece
  piece_is = given_is piece refl

  pub left_is : drop (length (piece_of n (kept (piece ++ y) (cut_of (length piece) ∷ rest) put c))) (piece ++ y) ≡ y
  left_is = ap (λ (p : List ℕ). drop (length p) (piece ++ y)) piece_is ∙ drop_front piece y

  pub gets : (q : Call) (old : List ℕ) → q.a1 ≡ n → get_if (kept (piece ++ y) (cut_of (length piece) ∷ rest) put c) q (Some old)
      ≡ record {
        reply = record { way = Replied; a0 = length piece; a1 = q.a1; bytes = with_bytes q.bytes (range_with_len q.a0 (length piece)) piece };
        host = kept y rest put c;
      }
  gets q old e = λ i. record {
    reply = record {
      way = Replied;
      a0 = length (given i);
      a1 = q.a1;
      bytes = with_bytes q.bytes (range_with_len q.a0 (length (given i))) (given i);
    };
    host = kept (left i) rest put c;
  }
    where
      given : piece_of q.a1 (kept (piece ++ y) (cut_of (length piece) ∷ rest) put c) ≡ piece
      given = ap (λ (k : ℕ). piece_of k (kept (piece ++ y) (cut_of (length piece) ∷ rest) put c)) e ∙ piece_is

      left : drop (length (piece_of q.a1 (kept (piece ++ y) (cut_of (length piece) ∷ rest) put c))) (piece ++ y) ≡ y
      left = ap (λ (p : List ℕ). drop (length p) (piece ++ y)) given ∙ drop_front piece y

-- the reply to a get, where its bytes have room
some_bytes : (c : Call) (piece : List ℕ) (o : Option (List ℕ)) → IsSome o → piece_bytes c piece o ≡ with_bytes c.bytes (range_with_len c.a0 (length piece)) piece
some_bytes c piece None there = absurd (cc)
some_bytes c piece (Some old) there = refl

some_there : {A : Type 0} (o : Option A) (x : A) → o ≡ Some x → IsSome o
some_there o x e = ap is_some e

none_left : (n : ℕ) (x y piece : List ℕ) → IsPiece n (Some x) (Some y) piece → length piece ≡ 0 → (n ≡ 0) ⊎ (y ≡ [])
none_left n x y piece is e = is.none e

module _ (old : List Slot) (q : Request) (waits : Waits old q.sandbox q) (c : ConsoleState) (new : List Slot) (p after : Piece) (taken : List ℕ) (service : q.service ≡ get_service)
    (small : q.a1 ≤ 65536) (given : handed_by old q ≡ Some taken) (few : length p.bytes.now ≤ q.a1)
    (answered : IsAnsweredBy piece_answer q old p new after) where
  abbrev call : Call
  call = asked_by old q.sandbox q waits

  room : IsSome (bytes_at call.bytes (range_with_len q.a0 (length p.bytes.now)))
  room =
      let le : nat_le q.a1 most_handed ≡ true = grind arith in
      let whole : bytes_at call.bytes (range_with_len q.a0 q.a1) ≡ Some taken =
      ap (λ (b : Bool). if b then bytes_at call.bytes (range_with_len q.a0 q.a1) else None) (sym le) ∙ handed_is old q waits ∙ given in
      fewer_there call.bytes q.a0 q.a1 (length p.bytes.now) (some_there _ taken whole) few

  abbrev given_reply : Reply
  given_reply = record {
    way = Replied;
    a0 = length p.bytes.now;
    a1 = q.a1;
    bytes = with_bytes (asked_by old q.sandbox q waits).bytes (range_with_len q.a0 (length p.bytes.now)) p.bytes.now;
  }

  reply_is : (piece_answer p (call_of q.sandbox waits.at.slot)).reply ≡ given_reply
  reply_is =
      let short : length p.bytes.now % 2 ^ 32 ≡ length p.bytes.now = omega (arith, few, small) in
      ap (λ (k : Call). (piece_answer p k).reply) (sym waits.asks)
      ∙ (λ i. record { way = Replied; a0 = short i; a1 = q.a1; bytes = some_bytes call p.bytes.now (bytes_at call.bytes (range_with_len q.a0 (length p.bytes.now))) room i })

  slots_is : new ≡ slice_set old q.sandbox (replied waits.at.slot given_reply)
  slots_is = (answered waits.at.slot waits.at.there).0 ∙ ap (λ (r : Reply). slice_set old q.sandbox (replied waits.at.slot r)) reply_is

  streamed_piece : (x y : List ℕ) → IsPiece q.a1 (Some x) (Some y) p.bytes.now → (machine : Machine) → IsMachine machine → IsStreamed machine q.sandbox old c new c [] x y
  streamed_piece x y is machine means = record {
    cuts = cut_of (length p.bytes.now) ∷ [];
    turns = λ rest put.
        subst (λ (o : List ℕ). TakesTurns machine q.sandbox old (kept x (cut_of (length p.bytes.now) ∷ rest) put c) new (kept y rest o c)) (put_none put)
        (subst (λ (i : List ℕ). TakesTurns machine q.sandbox old (kept i (cut_of (length p.bytes.now) ∷ rest) put c) new (kept y rest put c)) (sym is.consumes)
        (answered_turns machine means q.sandbox old new q waits given_reply _ (kept y rest put c)
        (get_asked _ call service ∙ ap (get_if (kept (p.bytes.now ++ y) (cut_of (length p.bytes.now) ∷ rest) put c) call) (handed_is old q waits ∙ given)
        ∙ gets q.a1 p.bytes.now y put rest c few (none_left q.a1 x y p.bytes.now is) call taken refl) slots_is));
  }

  pub get_served : (input left out outs : Option (List ℕ)) → IsPiece q.a1 input left p.bytes.now → Keeps out outs → IsServed q.sandbox old c new c input left out outs
  get_served input left out outs is keeps = record {
    replies = record { slot = waits.at.slot; there = waits.at.there; reply = given_reply; slots = slots_is };
    streamed = record { written = []; writes = keeps_appends out outs keeps; ran = known input left is };
  }
    where
      known : (input left : Option (List ℕ)) → IsPiece q.a1 input left p.bytes.now
          → IfKnown input left (λ x y. (machine : Machine) → IsMachine machine → IsStreamed machine q.sandbox old c new c [] x y)
      known None left is = tt
      known (Some x) None is = absurd is.consumes
      known (Some x) (Some y) is = streamed_piece x y is

-- what was read into the front of a buffer, and the front of that
pub piece_read : (n count : ℕ) (buffer piece rest : List ℕ) (input left : Option (List ℕ)) → n ≤ 65536 → length buffer ≡ 65536 → length piece ≡ length (take n buffer)
    → count ≤ length (take n buffer) → IsPiece (length (take n buffer)) input left (take count piece) → IsPiece n input left (take count (piece ++ rest))
piece_read n count buffer piece rest input left few whole long least is =
    let long_is : length (take n buffer) ≡ n = length-take-le n buffer (omega (arith, few, whole)) in
    let front : take count (piece ++ rest) ≡ take count piece = take-append-le count piece rest (omega (arith, long, least)) in
    subst (λ (p : List ℕ). IsPiece n input left p) (sym front) (subst (λ (k : ℕ). IsPiece k input left (take count piece)) long_is is)

-- ---- all other calls

pub other_served : (old new : List Slot) (q : Request) (waits : Waits old q.sandbox q) (c d : ConsoleState) → q.service ≢ put_service → q.service ≢ get_service
    → IsAnsweredBy console q old c new d → (input out outs : Option (List ℕ)) → Keeps out outs → IsServed q.sandbox old c new d input input out outs
other_served old new q waits c d put get answered input out outs keeps = record {
  replies = record { slot = waits.at.slot; there = waits.at.there; reply = (console c (asked_by old q.sandbox q waits)).reply; slots = slots };
  streamed = record {
    written = [];
    writes = keeps_appends out outs keeps;
    ran = known_same input (λ x y. (machine : Machine) → IsMachine machine → IsStreamed machine q.sandbox old c new d [] x y) (λ x machine is. record {
      cuts = [];
      turns = λ rest out.
          subst (λ (o : List ℕ). TakesTurns machine q.sandbox old (kept x rest out c) new (kept x rest o d)) (put_none out)
          (subst (λ (e : ConsoleState). TakesTurns machine q.sandbox old (kept x rest out c) new (kept x rest out e)) (sym host)
          (answered_turns machine is q.sandbox old new q waits (console c (asked_by old q.sandbox q waits)).reply (kept x rest out c) (kept x rest out (console c (asked_by old q.sandbox q waits)).host)
          (other_asked (kept x rest out c) (asked_by old q.sandbox q waits) put get) slots));
    });
  };
}
  where
    slots : new ≡ slice_set old q.sandbox (replied waits.at.slot (console c (asked_by old q.sandbox q waits)).reply)
    slots = (answered waits.at.slot waits.at.there).0 ∙ ap (λ (k : Call). slice_set old q.sandbox (replied waits.at.slot (console c k).reply)) (sym waits.asks)

    host : d ≡ (console c (asked_by old q.sandbox q waits)).host
    host = (answered waits.at.slot waits.at.there).1 ∙ ap (λ (k : Call). (console c k).host) (sym waits.asks)

-- ---- a call after a turn up to it

-- the turn, and then the answer
pub served_on : (budget i : ℕ) (old mid new : List Slot) (q : Request) (c d : ConsoleState) (input left out outs : Option (List ℕ)) → Streamed i old c mid c input input out out → IsAsked budget i mid q
    → IsServed q.sandbox mid c new d input left out outs → Streamed i old c new d input left out outs
served_on budget i old mid new q c d input left out outs first asked served =
    streamed_both i old mid new c c d input input left out out outs first (subst (λ (k : ℕ). Streamed k mid c new d input left out outs) asked.by served.streamed)

pub served_within : (budget i : ℕ) (mid new : List Slot) (q : Request) (c d : ConsoleState) (input left out outs : Option (List ℕ)) → IsAsked budget i mid q → IsServed q.sandbox mid c new d input left out outs
    → AreWithin budget mid → AreWithin budget new
served_within budget i mid new q c d input left out outs asked served within =
    reply_within budget i mid new (subst (λ (k : ℕ). IsReplyTo k mid new) asked.by served.replies) asked.left within

-- a turn up to a call, and a beginning of what the answer puts
pub cut_on : (budget i : ℕ) (old mid : List Slot) (q : Request) (c : ConsoleState) (input out outs : Option (List ℕ)) → Streamed i old c mid c input input out out → IsAsked budget i mid q
    → AreWithin budget mid → IsCut q.sandbox mid c out outs → IsCutTurn budget i old c input out outs
cut_on budget i old mid q c input out outs first asked within cut =
    let replies : (cut.new ≡ mid) ⊎ IsReplyTo i mid cut.new = subst (λ (k : ℕ). (cut.new ≡ mid) ⊎ IsReplyTo k mid cut.new) asked.by cut.replies in
    cut_after budget i old mid c c input input out out outs first (record {
      new = cut.new;
      d = c;
      written = cut.written;
      rest = cut.rest;
      writes = cut.writes;
      within = ⊎_elim (λ (same : cut.new ≡ mid). subst (AreWithin budget) (sym same) within) (λ (r : IsReplyTo i mid cut.new). reply_within budget i mid cut.new r asked.left within) replies;
      ran = some_same input _ (λ x. (x, λ machine is. subst (λ (k : ℕ). IsStreamed machine k mid c cut.new c (cut.written ++ cut.rest) x x) asked.by (cut.ran x machine is)));
    })

-- ---- the answer of a host, as its plan of one step says

pub answered_by : {S : Type 0} (answer : S → Call → Answer S) (old new : List Slot) (q : Request) → Waits old q.sandbox q → (s after : S)
    → ((machine : Machine) → IsMachine machine → IsJoint machine answer (record { sandbox = q.sandbox; steps = 1 } ∷ []) old s new after) → IsAnsweredBy answer q old s new after
answered_by answer old new q waits s after joint slot there =
    let m = some_machine in
    let at : waits.at.slot ≡ slot = same_Some waits.at.slot slot (sym waits.at.there ∙ there) in
    let a = answer s (call_of q.sandbox waits.at.slot) in
    let one = reply_is_answer m.0 m.1 answer q.sandbox old q a.reply s a.host waits refl in
    let two = joint m.0 m.1 in (
      two.slots ∙ sym one.slots ∙ ap (λ (x : Slot). slice_set old q.sandbox (replied x (answer s (call_of q.sandbox x)).reply)) at,
      two.host ∙ sym one.host ∙ ap (λ (x : Slot). (answer s (call_of q.sandbox x)).host) at,
    )

-- what a guest is after its bytes are written, if they have room, and a0 is set
pub given_piece : (old mid new : Call) (p : Piece) (at : ℕ) (t : Bool) → at ≡ old.a0 → (IsTrue t ↔ IsSome (data_from old at (length p.bytes.now)))
    → OnTrue t (mid ≡ with_bytes_at old at p.bytes.now) → OnFalse t (mid ≡ old) → new ≡ with_a0 mid (length p.bytes.now % 2 ^ 32)
    → new ≡ record { caller = old.caller; service = old.service; a0 = length p.bytes.now % 2 ^ 32; a1 = old.a1; bytes = piece_bytes old p.bytes.now (data_from old old.a0 (length p.bytes.now)) }
given_piece old mid new p at true here there done refused is =
    let some : IsSome (data_from old old.a0 (length p.bytes.now)) = subst (λ (k : ℕ). IsSome (data_from old k (length p.bytes.now))) here (there.0 refl) in
    let bytes : with_bytes old.bytes (range_with_len at (length p.bytes.now)) p.bytes.now ≡ piece_bytes old p.bytes.now (data_from old old.a0 (length p.bytes.now)) =
    ap (λ (k : ℕ). with_bytes old.bytes (range_with_len k (length p.bytes.now)) p.bytes.now) here ∙ sym (some_bytes old p.bytes.now _ some) in
    is ∙ ap (λ (c : Call). with_a0 c (length p.bytes.now % 2 ^ 32)) done
    ∙ ap (λ (b : Bytes). record { caller = old.caller; service = old.service; a0 = length p.bytes.now % 2 ^ 32; a1 = old.a1; bytes = b }) bytes
given_piece old mid new p at false here there done refused is =
    let none : piece_bytes old p.bytes.now (data_from old old.a0 (length p.bytes.now)) ≡ old.bytes = no_bytes (data_from old old.a0 (length p.bytes.now))
    (λ some. let wrong = there.1 (subst (λ (k : ℕ). IsSome (data_from old k (length p.bytes.now))) (sym here) some) in absurd (cc)) in
    is ∙ ap (λ (c : Call). with_a0 c (length p.bytes.now % 2 ^ 32)) refused
    ∙ ap (λ (b : Bytes). record { caller = old.caller; service = old.service; a0 = length p.bytes.now % 2 ^ 32; a1 = old.a1; bytes = b }) (sym none)
  where
    no_bytes : (o : Option (List ℕ)) → (IsSome o → ⊥) → piece_bytes old p.bytes.now o ≡ old.bytes
    no_bytes None none = refl
    no_bytes (Some x) none = absurd (none refl)

-- ---- what is said

-- the lines with what is told
pub stop_text_is : (ps : List Part) (slots : List Slot) (count : ℕ) (lines text : List ℕ) → count ≡ length ps → lines ≡ stop_lines count slots
    → Adds lines text (AreStates (length ps) ps slots) → IsStopText ps slots text
stop_text_is ps slots count lines text e h a = (a.text, a.text_is, a.new_is ∙ ap (λ (l : List ℕ). l ++ a.text) (h ∙ ap (λ n. stop_lines n slots) e))
