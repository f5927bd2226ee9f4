-- What is known of a text that is read in pieces.
use Rattle.sfi_io.proofs.Prelude.{◌≡◌, inl, inr, ℕ, ◌+◌, ◌-◌, ◌*◌, ◌%◌, ◌<◌, ◌≤◌, ◌==◌, Bool, true, false, List, [], ◌∷◌, ◌++◌, length, take, drop, Option, Some, None, Result, Ok, Err, refl, sym, ap, ◌∙◌, subst, arith, append_assoc, nat_tests, length-drop, length-take-le, take-append-drop, filter, nat_lt, slice_index, if◌then◌else◌, decode_of, decode_pairs, digit_or_error, hex_digit_value, FromHexError, OddLength, InvalidHexCharacter, InvalidStringLength, OutOfMemory, Fault, TooLarge, is_kept, limit, Leads, or_fault, outcome, prepend, waiting, GoesOn, SpellsFront}
use Rattle.std.proofs.Common.{◌≢◌, length-append, IfSome, append-nil}
use Rattle.std.proofs.lemmas.List.{drop_all, length-take, drop-drop, drop-take}
use Rattle.std.proofs.lemmas.List.Elements.{filter-append}
use Rattle.std.proofs.lemmas.List.Sums.{count_by-le-length, length-filter}
use Rattle.std.specs.Prelude.{is_some, option_map}
use Rattle.hex.specs.Hex.{value_at}
use Rattle.sfi_io.specs.declared.hexadecimal.HexFault.{HexFault}
use Rattle.sfi_io.specs.declared.hexadecimal.HexFault.TheVariants.{Odd, Digit}
use Rattle.sfi_io.specs.declared.text.TextStop.{TextStop}
use Rattle.sfi_io.specs.declared.text.TextStop.TheVariants.{Failed}
use Rattle.std.specs.Io.KnownBytes.{Consumes, IsAtEnd}
use Rattle.sfi_io.specs.Hexadecimal.{IsHexFault}
use Rattle.sfi_io.specs.Pieces.{Ahead, ahead_of, decode_from}
use Rattle.sfi_io.specs.private.{AreLeft, ComesNoPair, IsAfter, IsBadPair, IsErrorOf, IsNoPair, IsOver, IsReadStop, IsStopOf, IsWrongPlace}
use Rattle.sfi_io.proofs.Leads.{leads_by}
use Rattle.sfi_io.proofs.Fronts.{at_kept, no_pair, spells_nothing, spells_more, pairs_before, pairs_twice}

-- how many digits wait
abbrev pub waits : Option ℕ → ℕ
waits None = 0
waits (Some v) = 1

-- of the digits to come, as many as these were counted
abbrev pub Counts : Option Ahead → Option Ahead → Option ℕ → ℕ → Type 0
Counts None now high count = Unit {0}
Counts (Some first) None high count = ⊥
Counts (Some first) (Some now) high count =
    (now.whole ≡ first.whole) × (length first.digits + waits high ≡ count + length now.digits)

pub goes_nowhere : (a : Option Ahead) → GoesOn a a []
goes_nowhere None = tt
goes_nowhere (Some a) = record { whole = refl; place = omega arith; spells = spells_nothing a.digits }

pub goes_more : (a b c : Option Ahead) (first then_ : List ℕ) → GoesOn a b first → GoesOn b c then_ → GoesOn a c (first ++ then_)
goes_more None b c first then_ p q = tt
goes_more (Some a) None c first then_ p q = absurd p
goes_more (Some a) (Some b) None first then_ p q = absurd q
goes_more (Some a) (Some b) (Some c) first then_ p q = record {
  whole = q.whole ∙ p.whole;
  place = omega (arith, p.place, q.place, length-append first then_);
  spells = spells_more a.digits b.digits c.digits first then_ p.spells q.spells;
}

-- the next of a text is read
pub filled : (read made : ℕ) (high : Option ℕ) (held piece : List ℕ) (count : ℕ) (known new : Option (List ℕ)) → held ≡ [] → count ≤ length piece → Consumes known new (take count piece)
    → GoesOn (ahead_of read made high held known) (ahead_of (read + count) made high (take (count - 0) (drop 0 piece)) new) []
filled read made high held piece count None new none inside took = tt
filled read made high held piece count (Some bytes) None none inside took = absurd took
filled read made high held piece count (Some bytes) (Some rest) none inside took =
    let same : take (count - 0) (drop 0 piece) ≡ take count piece = ap (λ (n : ℕ). take n piece) (omega arith) in
    let all : held ++ bytes ≡ take (count - 0) (drop 0 piece) ++ rest = ap (λ (l : List ℕ). l ++ bytes) none ∙ took ∙ ap (λ (l : List ℕ). l ++ rest) (sym same) in
    record {
      whole = omega (arith, ap length took, length-append (take count piece) rest, length-take-le count piece inside);
      place = omega arith;
      spells = subst (λ (l : List ℕ). SpellsFront (waiting high (filter is_kept (held ++ bytes))) (waiting high (filter is_kept l)) []) all (spells_nothing _);
    }

-- the text is over
pub over : (read made : ℕ) (high : Option ℕ) (piece : List ℕ) (count : ℕ) (new : Option (List ℕ)) → count ≡ 0 → read + count ≤ limit → IsAtEnd new
    → IsOver (ahead_of (read + count) made high (take (count - 0) (drop 0 piece)) new) high
over read made high piece count None none few end = tt
over read made high piece count (Some rest) none few end =
    let held : take (count - 0) (drop 0 piece) ≡ [] = ap (λ (n : ℕ). take (n - 0) piece) none in
    (ap (λ (l : List ℕ). waiting high (filter is_kept (l ++ rest))) held ∙ ap (λ (l : List ℕ). waiting high (filter is_kept l)) end, omega (arith, few, ap length end))

-- the text is too large
pub too_large : (read made : ℕ) (high : Option ℕ) (held piece : List ℕ) (count : ℕ) (known new : Option (List ℕ)) → count ≤ length piece → limit - read < count → Consumes known new (take count piece)
    → IfSome (ahead_of read made high held known) (IsReadStop TooLarge)
too_large read made high held piece count None new inside over took = tt
too_large read made high held piece count (Some bytes) None inside over took = absurd took
too_large read made high held piece count (Some bytes) (Some rest) inside over took =
    omega (arith, over, ap length took, length-append (take count piece) rest, length-take-le count piece inside)

-- ---- what is held is decoded

waiting_append : (high : Option ℕ) (digits others : List ℕ) → waiting high digits ++ others ≡ waiting high (digits ++ others)
waiting_append None digits others = refl
waiting_append (Some h) digits others = refl

spells_further : (high next : Option ℕ) (held left rest bytes : List ℕ) → SpellsFront (waiting high (filter is_kept held)) (waiting next (filter is_kept left)) bytes
    → SpellsFront (waiting high (filter is_kept (held ++ rest))) (waiting next (filter is_kept (left ++ rest))) bytes
spells_further high next held left rest bytes s = record {
  front = s.front;
  digits_are = ap (waiting high) (filter-append is_kept held rest) ∙ sym (waiting_append high (filter is_kept held) (filter is_kept rest)) ∙ ap (λ (l : List ℕ). l ++ filter is_kept rest) s.digits_are
      ∙ append_assoc s.front (waiting next (filter is_kept left)) (filter is_kept rest) ∙ ap (λ (l : List ℕ). s.front ++ l) (waiting_append next (filter is_kept left) (filter is_kept rest) ∙ ap (waiting next) (sym (filter-append is_kept left rest)));
  spelled = s.spelled;
}

decoded_on : (read made m : ℕ) (high next : Option ℕ) (held left bytes : List ℕ) (known : Option (List ℕ)) → length bytes ≡ m → SpellsFront (waiting high (filter is_kept held)) (waiting next (filter is_kept left)) bytes
    → GoesOn (ahead_of read made high held known) (ahead_of read (made + m) next left known) bytes
decoded_on read made m high next held left bytes None count s = tt
decoded_on read made m high next held left bytes (Some rest) count s = record {
  whole = refl;
  place = omega (arith, count);
  spells = spells_further high next held left rest bytes s;
}

-- ---- what is left is counted

length_waiting : (high : Option ℕ) (digits : List ℕ) → length (waiting high digits) ≡ waits high + length digits
length_waiting None digits = omega arith
length_waiting (Some h) digits = omega arith

none_spelled : (digits others : List ℕ) → SpellsFront digits others [] → digits ≡ others
none_spelled digits others s = by s.front (pairs_twice 0 s.front [] (s.spelled 0)) s.digits_are
  where
    by : (front : List ℕ) → length front ≡ 0 → digits ≡ front ++ others → digits ≡ others
    by [] count e = e
    by (x ∷ front) count e = absurd (omega (arith, count))

-- what is held is counted
counts_held : (first : Option Ahead) (read made : ℕ) (high : Option ℕ) (held : List ℕ) (known : Option (List ℕ)) (count : ℕ) → Counts first (ahead_of read made high held known) high count
    → Counts first (ahead_of read made high [] known) high (count + length (filter is_kept held))
counts_held None read made high held known count h = tt
counts_held (Some first) read made high held None count h = absurd h
counts_held (Some first) read made high held (Some rest) count h =
    (h.0, omega (arith, h.1, length_waiting high (filter is_kept (held ++ rest)), length_waiting high (filter is_kept rest), ap length (filter-append is_kept held rest), length-append (filter is_kept held) (filter is_kept rest)))

-- and then the next is read
pub counts_filled : (first : Option Ahead) (read made : ℕ) (high after : Option ℕ) (at end : ℕ) (piece : List ℕ) (known : Option (List ℕ)) (count more : ℕ) (filled : Option Ahead)
    → Counts first (ahead_of read made high (take (end - at) (drop at piece)) known) high count → more ≡ length (filter is_kept (take (end - at) (drop at piece)))
    → GoesOn (ahead_of read made high (take (end - end) (drop end piece)) known) filled [] → after ≡ high → Counts first filled after (count + more)
counts_filled first read made high after at end piece known count more filled h is on same =
    let none : end - end ≡ 0 = omega arith in
    rw (same, is) (counts_on first (ahead_of read made high [] known) filled high _ (counts_held first read made high (take (end - at) (drop at piece)) known count h)
    (subst (λ (n : ℕ). GoesOn (ahead_of read made high (take n (drop end piece)) known) filled []) none on))
  where
    counts_on : (first now next : Option Ahead) (high : Option ℕ) (count : ℕ) → Counts first now high count → GoesOn now next [] → Counts first next high count
    counts_on None now next high count h on = tt
    counts_on (Some first) None next high count h on = absurd h
    counts_on (Some first) (Some now) None high count h on = absurd on
    counts_on (Some first) (Some now) (Some next) high count h on =
        (on.whole ∙ h.0, omega (arith, h.1, ap length (none_spelled now.digits next.digits on.spells)))

-- all is counted
pub counts_all : (first now : Option Ahead) (high : Option ℕ) (count : ℕ) → Counts first now high count → IsOver now high → AreLeft first count
counts_all None now high count h over = tt
counts_all (Some first) None high count h over = absurd h
counts_all (Some first) (Some now) high count h over =
    (omega (arith, h.1, ap length over.0, length_nothing high), omega (arith, h.0, over.1))
  where
    length_nothing : (high : Option ℕ) → length (waiting high []) ≡ waits high
    length_nothing None = refl
    length_nothing (Some h) = refl

-- ---- what comes of a text

err_or : {E : Type 0} (b : Bool) (e : E) (bytes : List ℕ) (x y : Result (List ℕ) E) → x ≡ prepend bytes y
    → (if b then Err e else x) ≡ prepend bytes (if b then Err e else y)
err_or true e bytes x y h = refl
err_or false e bytes x y h = h

pub decode_on : (place : ℕ) (digits others bytes : List ℕ) → SpellsFront digits others bytes → decode_from place digits ≡ prepend bytes (decode_from (place + 2 * length bytes) others)
decode_on place digits others bytes s =
    let twice = pairs_twice 0 s.front bytes (s.spelled 0) in
    let same : length digits % 2 ≡ length others % 2 = omega (arith, twice, ap length s.digits_are, length-append s.front others) in
    let pairs : decode_pairs place digits ≡ prepend bytes (decode_pairs (place + 2 * length bytes) others) =
    ap (decode_pairs place) s.digits_are ∙ pairs_before place s.front bytes others (s.spelled place) ∙ ap (λ (n : ℕ). prepend bytes (decode_pairs (place + n) others)) twice in
    ap (λ (n : ℕ). if n == 1 then Err OddLength else decode_pairs place digits) same
    ∙ err_or (length others % 2 == 1) OddLength bytes (decode_pairs place digits) (decode_pairs (place + 2 * length bytes) others) pairs

fault_on : (bytes : List ℕ) (r : Result (List ℕ) FromHexError) → or_fault (prepend bytes r) ≡ prepend bytes (or_fault r)
fault_on bytes (Ok others) = refl
fault_on bytes (Err (InvalidHexCharacter byte place)) = refl
fault_on bytes (Err OddLength) = refl
fault_on bytes (Err InvalidStringLength) = refl
fault_on bytes (Err OutOfMemory) = refl

outcome_on : (a b : Ahead) (bytes : List ℕ) → IsAfter a b bytes → outcome a ≡ prepend bytes (outcome b)
outcome_on a b bytes on =
    let decoded : decode_from a.place a.digits ≡ prepend bytes (decode_from b.place b.digits) =
    decode_on a.place a.digits b.digits bytes on.spells ∙ ap (λ (n : ℕ). prepend bytes (decode_from n b.digits)) (sym on.place) in
    ap (λ (n : ℕ). if nat_lt limit n then Err TooLarge else or_fault (decode_from a.place a.digits)) (sym on.whole)
    ∙ err_or (nat_lt limit b.whole) TooLarge bytes (or_fault (decode_from a.place a.digits)) (or_fault (decode_from b.place b.digits)) (ap or_fault decoded ∙ fault_on bytes _)

pub leads : (a b : Option Ahead) (bytes : List ℕ) → GoesOn a b bytes → Leads (option_map outcome a) (option_map outcome b) bytes
leads None b bytes on = tt
leads (Some a) None bytes on = absurd on
leads (Some a) (Some b) bytes on = leads_by (outcome a) (outcome b) bytes (outcome_on a b bytes on)

-- ---- stops

pub keeps_limit : (a : Ahead) → a.whole ≤ limit → outcome a ≡ or_fault (decode_from a.place a.digits)
keeps_limit a few =
    let small : nat_lt limit a.whole ≡ false = grind (arith, nat_tests, few) in
    ap (λ (b : Bool). if b then Err TooLarge else or_fault (decode_from a.place a.digits)) small

-- a stop, as what comes
pub stops : (a : Option Ahead) (stop : TextStop) → IfSome a (IsStopOf stop) → Leads (option_map outcome a) (Some (Err stop)) []
stops None stop is = tt
stops (Some a) (Fault f) is = is
stops (Some a) TooLarge is = is
stops (Some a) Failed is = tt

pub read_stop : (a : Option Ahead) (stop : TextStop) → IfSome a (IsReadStop stop) → IfSome a (IsStopOf stop)
read_stop None stop is = tt
read_stop (Some a) (Fault f) is = absurd is
read_stop (Some a) TooLarge is =
    let large : nat_lt limit a.whole ≡ true = grind (arith, nat_tests, is) in
    ap (λ (b : Bool). if b then Err TooLarge else or_fault (decode_from a.place a.digits)) large
read_stop (Some a) Failed is = tt

-- a stop further on is one of the text
pub stop_before : (a b : Option Ahead) (bytes : List ℕ) (stop : TextStop) → GoesOn a b bytes → IfSome b (IsStopOf stop) → IfSome a (IsStopOf stop)
stop_before None b bytes stop on is = tt
stop_before (Some a) None bytes stop on is = absurd on
stop_before (Some a) (Some b) bytes Failed on is = tt
stop_before (Some a) (Some b) bytes TooLarge on is = outcome_on a b bytes on ∙ ap (prepend bytes) is
stop_before (Some a) (Some b) bytes (Fault f) on is = outcome_on a b bytes on ∙ ap (prepend bytes) is

pub stops_after : (a b c : Option Ahead) (bytes : List ℕ) (stop : TextStop) → GoesOn a b [] → GoesOn b c bytes → IfSome c (IsStopOf stop) → Leads (option_map outcome a) (Some (Err stop)) []
stops_after a b c bytes stop p q is = stops a stop (stop_before a b [] stop p (stop_before b c bytes stop q is))

-- a pair that isn't two digits
found_first : (i high low : ℕ) (others : List ℕ) → hex_digit_value high ≡ None → decode_pairs i (high ∷ low ∷ others) ≡ Err (InvalidHexCharacter high i)
unfolding decode_pairs
found_first i high low others e = let bad : value_at high i ≡ Err (InvalidHexCharacter high i) = ap (digit_or_error high i) e in rw bad refl

found_second : (i high low v : ℕ) (others : List ℕ) → hex_digit_value high ≡ Some v → hex_digit_value low ≡ None → decode_pairs i (high ∷ low ∷ others) ≡ Err (InvalidHexCharacter low (i + 1))
unfolding decode_pairs
found_second i high low v others f e =
    let good : value_at high i ≡ Ok v = ap (digit_or_error high i) f in
    let bad : value_at low (i + 1) ≡ Err (InvalidHexCharacter low (i + 1)) = ap (digit_or_error low (i + 1)) e in
    rw (good, bad) refl

found : (high low made place : ℕ) (others : List ℕ) (value : Option ℕ) → hex_digit_value high ≡ value → IsNoPair high low → IsWrongPlace (Some high) made place
    → (byte : ℕ) × (decode_pairs (2 * made) (high ∷ low ∷ others) ≡ Err (InvalidHexCharacter byte place))
found high low made place others None e wrong at = (high, found_first (2 * made) high low others e ∙ ap (λ (n : ℕ). Err (InvalidHexCharacter high n)) (sym (at.0 e)))
found high low made place others (Some v) e wrong at =
    let none : hex_digit_value low ≡ None = elim wrong.wrong [
      | inl first ↦ absurd (no_both (sym e ∙ first))
      | inr second ↦ second
    ] in
    (low, found_second (2 * made) high low v others e none ∙ ap (λ (n : ℕ). Err (InvalidHexCharacter low n)) (sym (at.1 v e)))
  where
    no_both : Some v ≡ None → ⊥
    no_both h = cc h

-- the fault that is named at such a pair
pub pair_error : (high : Option ℕ) (first low made left : ℕ) (others : List ℕ) (fault : HexFault) → high ≡ Some first → IsNoPair first low → left ≡ length (first ∷ low ∷ others)
    → (left % 2 ≡ 1 → fault ≡ Odd) → (left % 2 ≡ 0 → (place : ℕ) × (fault ≡ Digit place) × IsWrongPlace high made place)
    → IsErrorOf fault (decode_from (2 * made) (first ∷ low ∷ others))
pair_error high first low made left others fault waits_ wrong count odd digit = by (length (first ∷ low ∷ others) % 2 == 1) refl
  where
    by : (b : Bool) → (length (first ∷ low ∷ others) % 2 == 1) ≡ b → IsErrorOf fault (decode_from (2 * made) (first ∷ low ∷ others))
    by true e =
        let is_odd : length (first ∷ low ∷ others) % 2 ≡ 1 = grind (arith, nat_tests, e) in
        subst (λ (f : HexFault). IsErrorOf f (decode_from (2 * made) (first ∷ low ∷ others))) (sym (odd (omega (arith, is_odd, count))))
        (ap (λ (b : Bool). if b then Err OddLength else decode_pairs (2 * made) (first ∷ low ∷ others)) e)
    by false e =
        let even : length (first ∷ low ∷ others) % 2 ≢ 1 = grind (arith, nat_tests, e) in
        let named = digit (omega (arith, even, count)) in
        let fault_ = found first low made named.0 others _ refl wrong (subst (λ (h : Option ℕ). IsWrongPlace h made named.0) waits_ named.2) in
        subst (λ (f : HexFault). IsErrorOf f (decode_from (2 * made) (first ∷ low ∷ others))) (sym named.1)
        (fault_.0, ap (λ (b : Bool). if b then Err OddLength else decode_pairs (2 * made) (first ∷ low ∷ others)) e ∙ fault_.1)

pub error_comes : (a : Ahead) (fault : HexFault) → a.whole ≤ limit → IsErrorOf fault (decode_from a.place a.digits) → outcome a ≡ Err (Fault fault)
error_comes a Odd few is = keeps_limit a few ∙ ap or_fault is
error_comes a (Digit place) few is = keeps_limit a few ∙ ap or_fault is.1

pub digit_fault : (read made count : ℕ) (high : Option ℕ) (first low : ℕ) (held : List ℕ) (known : Option (List ℕ)) (fault : HexFault) → high ≡ Some first → ComesNoPair (ahead_of read made high held known) first low
    → AreLeft (ahead_of read made high held known) count → (count % 2 ≡ 1 → fault ≡ Odd) → (count % 2 ≡ 0 → (place : ℕ) × (fault ≡ Digit place) × IsWrongPlace high made place)
    → IfSome (ahead_of read made high held known) (IsStopOf (Fault fault))
digit_fault read made count high first low held None fault is comes left odd digit = tt
digit_fault read made count high first low held (Some rest) fault is comes left odd digit =
    let error = pair_error high first low made count comes.0 fault is comes.2 (sym left.0 ∙ ap length comes.1) odd digit in
    error_comes (record { whole = read + length rest; place = 2 * made; digits = waiting high (filter is_kept (held ++ rest)) }) fault left.1
    (subst (λ (l : List ℕ). IsErrorOf fault (decode_from (2 * made) l)) (sym comes.1) error)

pub text_end : (a : Option Ahead) (high : Option ℕ) → high ≡ None → IsOver a high → IfSome (option_map outcome a) (λ r. r ≡ Ok [])
text_end None high is over = tt
text_end (Some a) high is over =
    keeps_limit a over.1 ∙ ap (λ (l : List ℕ). or_fault (decode_from a.place l)) (over.0 ∙ ap (λ (h : Option ℕ). waiting h []) is) ∙ ap or_fault (no_pair a.place)

-- ---- a step over what is held

left_after : (piece : List ℕ) (at end taken : ℕ) → at + taken ≤ end → drop taken (take (end - at) (drop at piece)) ≡ take (end - (at + taken)) (drop (at + taken) piece)
left_after piece at end taken inside =
    let parts : end - at ≡ taken + (end - (at + taken)) = omega (arith, inside) in
    ap (λ (n : ℕ). drop taken (take n (drop at piece))) parts ∙ drop-take taken (end - (at + taken)) (drop at piece) ∙ ap (take (end - (at + taken))) (drop-drop taken at piece)

pub advanced : (read made m at end taken : ℕ) (high next : Option ℕ) (piece buf : List ℕ) (known : Option (List ℕ)) → at ≤ end → taken ≤ length (take (end - at) (drop at piece)) → m ≤ length buf
    → SpellsFront (waiting high (filter is_kept (take (end - at) (drop at piece)))) (waiting next (filter is_kept (drop taken (take (end - at) (drop at piece))))) (take m buf)
    → GoesOn (ahead_of read made high (take (end - at) (drop at piece)) known) (ahead_of read (made + m) next (take (end - (at + taken)) (drop (at + taken) piece)) known) (take m buf)
advanced read made m at end taken high next piece buf known start most room spells =
    let inside : at + taken ≤ end = omega (arith, start, most, length-take (end - at) (drop at piece)) in
    let step = decoded_on read made m high next (take (end - at) (drop at piece)) (drop taken (take (end - at) (drop at piece))) (take m buf) known (length-take-le m buf room) spells in
    subst (λ (l : List ℕ). GoesOn (ahead_of read made high (take (end - at) (drop at piece)) known) (ahead_of read (made + m) next l known) (take m buf)) (left_after piece at end taken inside) step

-- where it made nothing, before and after which the text goes on
pub made_nothing : (a b c d : Option Ahead) (made : ℕ) (buf : List ℕ) → made ≡ 0 → GoesOn a b [] → GoesOn b c (take made buf) → GoesOn c d [] → GoesOn a d []
made_nothing a b c d made buf none p q r = goes_more a b d [] [] p (goes_more b c d [] [] (subst (λ (n : ℕ). GoesOn b c (take n buf)) none q) r)

-- what comes is no pair
pub comes : (read made at end taken : ℕ) (next : Option ℕ) (piece : List ℕ) (known : Option (List ℕ)) → at + taken < end → end ≤ length piece → IsBadPair next (slice_index (take (end - at) (drop at piece)) taken)
    → (high : ℕ) × (low : ℕ) × (next ≡ Some high) × ComesNoPair (ahead_of read made next (take (end - (at + taken)) (drop (at + taken) piece)) known) high low
comes read made at end taken None piece known inside few bad = absurd bad
comes read made at end taken (Some high) piece known inside few bad = (high, slice_index (take (end - at) (drop at piece)) taken, refl, by known)
  where
    held : List ℕ
    held = take (end - at) (drop at piece)

    left : List ℕ
    left = take (end - (at + taken)) (drop (at + taken) piece)

    by : (known : Option (List ℕ)) → ComesNoPair (ahead_of read made (Some high) left known) high (slice_index held taken)
    by None = tt
    by (Some rest) =
        let same : drop taken held ≡ left = left_after piece at end taken (omega (arith, inside)) in
        let count : taken < length held = omega (arith, inside, few, length-take-le (end - at) (drop at piece) (omega (arith, few, length-drop at piece))) in
        let first : filter is_kept left ≡ slice_index held taken ∷ filter is_kept (drop (taken + 1) held) = ap (filter is_kept) (sym same) ∙ at_kept held taken count bad.low_kept in (
          filter is_kept (drop (taken + 1) held) ++ filter is_kept rest,
          ap (λ (l : List ℕ). high ∷ l) (filter-append is_kept left rest ∙ ap (λ (l : List ℕ). l ++ filter is_kept rest) first),
          bad,
        )

-- ---- a text that is whole

-- decoded up to a place, it comes to what is left there
pub text_on : (text bytes : List ℕ) (at : ℕ) (high : Option ℕ) → SpellsFront (filter is_kept text) (waiting high (filter is_kept (drop at text))) bytes
    → decode_of (filter is_kept text) ≡ prepend bytes (decode_from (2 * length bytes) (waiting high (filter is_kept (drop at text))))
text_on text bytes at high s =
    let place : 0 + 2 * length bytes ≡ 2 * length bytes = omega arith in
    decode_on 0 (filter is_kept text) (waiting high (filter is_kept (drop at text))) bytes s
    ∙ ap (λ (n : ℕ). prepend bytes (decode_from n (waiting high (filter is_kept (drop at text))))) place

kept_fewer : (xs : List ℕ) → length (filter is_kept xs) ≤ length xs
kept_fewer xs = rw (length-filter is_kept xs) (count_by-le-length is_kept xs)

-- a text makes at most half as many bytes as it has
pub half : (text bytes : List ℕ) (at : ℕ) (high : Option ℕ) → at ≤ length text → SpellsFront (filter is_kept text) (waiting high (filter is_kept (drop at text))) bytes → 2 * length bytes + waits high ≤ at
half text bytes at high inside s =
    let both = ap length (sym (filter-append is_kept (take at text) (drop at text)) ∙ ap (filter is_kept) (take-append-drop at text)) in
    omega (
      arith,
      pairs_twice 0 s.front bytes (s.spelled 0),
      ap length s.digits_are,
      length-append s.front (waiting high (filter is_kept (drop at text))),
      length_waiting high (filter is_kept (drop at text)),
      both,
      length-append (filter is_kept (take at text)) (filter is_kept (drop at text)),
      kept_fewer (take at text),
      length-take-le at text inside,
    )

error_before : (bytes : List ℕ) (fault : HexFault) (r : Result (List ℕ) FromHexError) → IsErrorOf fault r → IsErrorOf fault (prepend bytes r)
error_before bytes Odd r is = ap (prepend bytes) is
error_before bytes (Digit place) r is = (is.0, ap (prepend bytes) is.1)

-- where it stops, its fault is that of what stands there
pub text_fault : (text bytes : List ℕ) (at made left : ℕ) (high : Option ℕ) (fault : HexFault) → at < length text → length bytes ≡ made → IsBadPair high (slice_index text at)
    → left ≡ 1 + length (filter is_kept (drop at text)) → SpellsFront (filter is_kept text) (waiting high (filter is_kept (drop at text))) bytes
    → (left % 2 ≡ 1 → fault ≡ Odd) → (left % 2 ≡ 0 → (place : ℕ) × (fault ≡ Digit place) × IsWrongPlace high made place)
    → IsHexFault text fault
text_fault text bytes at made left None fault inside count bad many s odd digit = absurd bad
text_fault text bytes at made left (Some first) fault inside count bad many s odd digit =
    let there = at_kept text at inside bad.low_kept in
    let error = pair_error (Some first) first (slice_index text at) made left (filter is_kept (drop (at + 1) text)) fault refl bad (omega (arith, many, ap length there)) odd digit in
    let here = subst (λ (l : List ℕ). IsErrorOf fault (decode_from (2 * made) (first ∷ l))) (sym there) error in
    let whole = error_before bytes fault _ (subst (λ (n : ℕ). IsErrorOf fault (decode_from (2 * n) (first ∷ filter is_kept (drop at text)))) (sym count) here) in
    is_fault text fault (subst (IsErrorOf fault) (sym (text_on text bytes at (Some first) s)) whole)
  where
    is_fault : (text : List ℕ) (fault : HexFault) → IsErrorOf fault (decode_of (filter is_kept text)) → IsHexFault text fault
    is_fault text Odd is = is
    is_fault text (Digit place) is = is

-- at its end
pub text_odd : (text bytes : List ℕ) (at : ℕ) (high : Option ℕ) → length text ≤ at → true ≡ is_some high → SpellsFront (filter is_kept text) (waiting high (filter is_kept (drop at text))) bytes → IsHexFault text Odd
text_odd text bytes at None over some s = absurd (cc)
text_odd text bytes at (Some first) over some s =
    text_on text bytes at (Some first) s ∙ ap (λ (l : List ℕ). prepend bytes (decode_from (2 * length bytes) (first ∷ filter is_kept l))) (drop_all at text over)

pub text_whole : (text bytes : List ℕ) (at : ℕ) (high : Option ℕ) → length text ≤ at → false ≡ is_some high → SpellsFront (filter is_kept text) (waiting high (filter is_kept (drop at text))) bytes → decode_of (filter is_kept text) ≡ Ok bytes
text_whole text bytes at (Some first) over none s = absurd (cc)
text_whole text bytes at None over none s =
    text_on text bytes at None s ∙ ap (λ (l : List ℕ). prepend bytes (decode_from (2 * length bytes) (filter is_kept l))) (drop_all at text over)
    ∙ ap (prepend bytes) (no_pair (2 * length bytes)) ∙ ap Ok (append-nil bytes)
