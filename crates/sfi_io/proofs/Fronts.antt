-- The front of a text, decoded from place to place.
use Rattle.sfi_io.proofs.Prelude.{◌≡◌, ℕ, ◌+◌, ◌-◌, ◌*◌, ◌<◌, ◌≤◌, Bool, true, false, List, [], ◌∷◌, ◌++◌, length, take, drop, Option, Some, Result, Ok, Err, refl, sym, ap, ◌∙◌, subst, arith, append_assoc, length-drop, length-take-le, take_all, not, filter, slice_index, decode_pairs, FromHexError, is_kept, prepend, waiting, IsByteOf, SpellsFront}
use Rattle.std.proofs.Common.{zero, suc, length-append}
use Rattle.std.proofs.lemmas.List.{drop_more, take_more, get_or-take, take-append-le, drop-drop, get_or-drop}
use Rattle.std.proofs.Math.Seq.{take-append-add}
use borrow.Rule.Slice.PartMut.{put_mid, post_of}
use Rattle.std.specs.Prelude.{slice_set}
use Rattle.hex.specs.Hex.{pair_value, ◌>>=◌}

-- ---- what counts of a text from a place on

pub at_white : (text : List ℕ) (k : ℕ) → k < length text → is_kept (slice_index text k) ≡ false → filter is_kept (drop k text) ≡ filter is_kept (drop (k + 1) text)
at_white text k h e = rw (drop_more text k 0 h) (rw e refl)

pub at_kept : (text : List ℕ) (k : ℕ) → k < length text → is_kept (slice_index text k) ≡ true → filter is_kept (drop k text) ≡ slice_index text k ∷ filter is_kept (drop (k + 1) text)
at_kept text k h e = rw (drop_more text k 0 h) (rw e refl)

-- ---- pairs of digits, one list after another

-- what an `Ok` after `>>=` shows
bind_ok : {A B : Type 0} (r : Result A FromHexError) (f : A → Result B FromHexError) (y : B)
    → (r >>= f) ≡ Ok y → (x : A) × (r ≡ Ok x) × (f x ≡ Ok y)
bind_ok (Ok x) f y h = (x, refl, h)
bind_ok (Err e) f y h = cc h

prepend_nothing : (r : Result (List ℕ) FromHexError) → prepend [] r ≡ r
prepend_nothing (Ok rest) = refl
prepend_nothing (Err e) = refl

prepend_one : (byte : ℕ) (bytes : List ℕ) (r : Result (List ℕ) FromHexError) → (prepend bytes r >>= (λ others. Ok (byte ∷ others))) ≡ prepend (byte ∷ bytes) r
prepend_one byte bytes (Ok rest) = refl
prepend_one byte bytes (Err e) = refl

pairs_step : (i a b byte : ℕ) (rest more others : List ℕ) → pair_value a b i ≡ Ok byte → decode_pairs (i + 2) (rest ++ others) ≡ prepend more (decode_pairs (i + 2 + length rest) others)
    → decode_pairs i (a ∷ b ∷ (rest ++ others)) ≡ prepend (byte ∷ more) (decode_pairs (i + 2 + length rest) others)
unfolding decode_pairs
pairs_step i a b byte rest more others e ih = rw (e, ih) (prepend_one byte more (decode_pairs (i + 2 + length rest) others))

pub pairs_before : (i : ℕ) (front bytes others : List ℕ) → decode_pairs i front ≡ Ok bytes → decode_pairs i (front ++ others) ≡ prepend bytes (decode_pairs (i + length front) others)
unfolding decode_pairs
pairs_before i [] bytes others e =
    let none : [] ≡ bytes = cc in
    let here : i ≡ i + 0 = omega arith in
    sym (prepend_nothing (decode_pairs i others)) ∙ ap (λ (n : ℕ). prepend [] (decode_pairs n others)) here ∙ ap (λ (l : List ℕ). prepend l (decode_pairs (i + 0) others)) none
pairs_before i (a ∷ []) bytes others e = absurd (cc)
pairs_before i (a ∷ b ∷ rest) bytes others e =
    let byte = bind_ok (pair_value a b i) _ bytes e in
    let more = bind_ok (decode_pairs (i + 2) rest) _ bytes byte.2 in
    let both : byte.0 ∷ more.0 ≡ bytes = cc in
    let place : i + 2 + length rest ≡ i + length (a ∷ b ∷ rest) = omega arith in
    let ih = pairs_before (i + 2) rest more.0 others more.1 in
    let here = pairs_step i a b byte.0 rest more.0 others byte.1 ih in
    here ∙ ap (λ (n : ℕ). prepend (byte.0 ∷ more.0) (decode_pairs n others)) place ∙ ap (λ (l : List ℕ). prepend l (decode_pairs (i + length (a ∷ b ∷ rest)) others)) both

pub pairs_twice : (i : ℕ) (front bytes : List ℕ) → decode_pairs i front ≡ Ok bytes → length front ≡ 2 * length bytes
unfolding decode_pairs
pairs_twice i [] bytes e = let none : [] ≡ bytes = cc in omega (arith, ap length none)
pairs_twice i (a ∷ []) bytes e = absurd (cc)
pairs_twice i (a ∷ b ∷ rest) bytes e =
    let byte = bind_ok (pair_value a b i) _ bytes e in
    let more = bind_ok (decode_pairs (i + 2) rest) _ bytes byte.2 in
    let both : byte.0 ∷ more.0 ≡ bytes = cc in
    let ih = pairs_twice (i + 2) rest more.0 more.1 in
    omega (arith, ih, ap length both)

one_pair : (i a b byte : ℕ) → pair_value a b i ≡ Ok byte → decode_pairs i (a ∷ b ∷ []) ≡ Ok (byte ∷ [])
unfolding decode_pairs
one_pair i a b byte e = rw e refl

pub no_pair : (i : ℕ) → decode_pairs i [] ≡ Ok []
unfolding decode_pairs
no_pair i = refl

-- ---- the front grows

pub spells_nothing : (digits : List ℕ) → SpellsFront digits digits []
spells_nothing digits = record { front = []; digits_are = refl; spelled = no_pair }

pub spells_more : (digits mid others first then_ : List ℕ) → SpellsFront digits mid first → SpellsFront mid others then_ → SpellsFront digits others (first ++ then_)
spells_more digits mid others first then_ p q = record {
  front = p.front ++ q.front;
  digits_are = p.digits_are ∙ ap (λ (l : List ℕ). p.front ++ l) q.digits_are ∙ sym (append_assoc p.front q.front others);
  spelled = λ i. pairs_before i p.front first q.front (p.spelled i) ∙ ap (prepend first) (q.spelled (i + length p.front));
}

spells_pair : (a b byte : ℕ) (others : List ℕ) → ((i : ℕ) → pair_value a b i ≡ Ok byte) → SpellsFront (a ∷ b ∷ others) others (byte ∷ [])
spells_pair a b byte others e = record { front = a ∷ b ∷ []; digits_are = refl; spelled = λ i. one_pair i a b byte (e i) }

-- what is known of the place where the decoding stands
pub record Stands (text out : List ℕ) (size : ℕ) (first : Option ℕ) (taken made : ℕ) (high : Option ℕ) : Type 0 where
  pub inside : taken ≤ length text
  pub fewer : made ≤ taken
  pub room : made ≤ length out
  pub same_size : length out ≡ size
  pub spells : SpellsFront (waiting first (filter is_kept text)) (waiting high (filter is_kept (drop taken text))) (take made out)

pub stands_first : (text out : List ℕ) (first : Option ℕ) → Stands text out (length out) first 0 0 first
stands_first text out first = record { inside = omega arith; fewer = omega arith; room = omega arith; same_size = refl; spells = spells_nothing _ }

put_items : (out part : List ℕ) (a k m : ℕ) → a ≤ length out → m ≤ length part → take (a + m) (put_mid a k out part) ≡ take a out ++ take m part
put_items out part a k m inside few =
    let count : length (take a out) ≡ a = length-take-le a out inside in
    ap (λ (n : ℕ). take (n + m) (put_mid a k out part)) (sym count)
    ∙ take-append-add (take a out) (part ++ post_of a k out) m
    ∙ ap (λ (l : List ℕ). take a out ++ l) (take-append-le m part (post_of a k out) few)

-- a step on what is left of the text and of the room
pub stands_step : (text rest out part : List ℕ) (size : ℕ) (first : Option ℕ) (taken made k : ℕ) (high : Option ℕ) (t m : ℕ) (next : Option ℕ) → rest ≡ drop taken text
    → t ≤ length rest → m ≤ t → m ≤ length part → length (put_mid made k out part) ≡ length out
    → SpellsFront (waiting high (filter is_kept rest)) (waiting next (filter is_kept (drop t rest))) (take m part)
    → Stands text out size first taken made high → Stands text (put_mid made k out part) size first (taken + t) (made + m) next
stands_step text rest out part size first taken made k high t m next is inside fewer room same spells s =
    let here = subst (λ (l : List ℕ). SpellsFront (waiting high (filter is_kept l)) (waiting next (filter is_kept (drop t l))) (take m part)) is spells in
    let there = subst (λ (l : List ℕ). SpellsFront (waiting high (filter is_kept (drop taken text))) (waiting next (filter is_kept l)) (take m part)) (drop-drop t taken text) here in
    let left : length rest ≡ length text - taken = ap length is ∙ length-drop taken text in
    let items = put_items out part made k m s.room room in
    let count : length (put_mid made k out part) ≡ length (take made out) + length (part ++ post_of made k out) = length-append (take made out) (part ++ post_of made k out) in
    let parts : length (part ++ post_of made k out) ≡ length part + length (post_of made k out) = length-append part (post_of made k out) in
    record {
      inside = omega (arith, inside, left, s.inside);
      fewer = omega (arith, fewer, s.fewer);
      room = omega (arith, count, parts, room, length-take-le made out s.room);
      same_size = same ∙ s.same_size;
      spells = subst (λ (l : List ℕ). SpellsFront (waiting first (filter is_kept text)) (waiting next (filter is_kept (drop (taken + t) text))) l) (sym items)
          (spells_more _ _ _ _ _ s.spells there);
    }

-- ---- one step

kept_is : (b : Bool) → false ≡ not b → b ≡ true
kept_is true e = refl
kept_is false e = e

pub white_is : (b : Bool) → true ≡ not b → b ≡ false
white_is true e = cc e
white_is false e = refl

pub next_kept : (text : List ℕ) → false ≡ not (is_kept (slice_index text 0)) → is_kept (slice_index text 0) ≡ true
next_kept text e = kept_is (is_kept (slice_index text 0)) e

pub spells_white : (text : List ℕ) (high : Option ℕ) → 0 < length text → true ≡ not (is_kept (slice_index text 0)) → SpellsFront (waiting high (filter is_kept text)) (waiting high (filter is_kept (drop 1 text))) []
spells_white text high some white =
    subst (λ (l : List ℕ). SpellsFront (waiting high (filter is_kept text)) (waiting high l) []) (at_white text 0 some (white_is (is_kept (slice_index text 0)) white)) (spells_nothing _)

pub spells_high : (text : List ℕ) → 0 < length text → is_kept (slice_index text 0) ≡ true → SpellsFront (filter is_kept text) (slice_index text 0 ∷ filter is_kept (drop 1 text)) []
spells_high text some kept =
    subst (λ (l : List ℕ). SpellsFront (filter is_kept text) l []) (at_kept text 0 some kept) (spells_nothing _)

pub spells_low : (text : List ℕ) (high byte : ℕ) → 0 < length text → false ≡ not (is_kept (slice_index text 0)) → ((i : ℕ) → pair_value high (slice_index text 0) i ≡ Ok byte)
    → SpellsFront (high ∷ filter is_kept text) (filter is_kept (drop 1 text)) (byte ∷ [])
spells_low text high byte some kept pair =
    subst (λ (l : List ℕ). SpellsFront (high ∷ l) (filter is_kept (drop 1 text)) (byte ∷ [])) (sym (at_kept text 0 some (next_kept text kept))) (spells_pair high (slice_index text 0) byte _ pair)

pub first_put : (out : List ℕ) (byte : ℕ) → 0 < length out → take 1 (slice_set out 0 byte) ≡ byte ∷ []
first_put [] byte some = absurd (omega (arith, some))
first_put (x ∷ out) byte some = refl

-- ---- a block

two : (n : ℕ) → n + 1 + 1 ≡ n + 2
two n = omega arith

spells_two : (text : List ℕ) (at byte : ℕ) → at + 1 < length text → IsByteOf (slice_index text at) (slice_index text (at + 1)) byte
    → SpellsFront (filter is_kept (drop at text)) (filter is_kept (drop (at + 2) text)) (byte ∷ [])
spells_two text at byte h is =
    let low : filter is_kept (drop (at + 1) text) ≡ slice_index text (at + 1) ∷ filter is_kept (drop (at + 2) text) =
    at_kept text (at + 1) h is.low_kept ∙ ap (λ (n : ℕ). slice_index text (at + 1) ∷ filter is_kept (drop n text)) (two at) in
    let both : filter is_kept (drop at text) ≡ slice_index text at ∷ slice_index text (at + 1) ∷ filter is_kept (drop (at + 2) text) =
    at_kept text at (omega (arith, h)) is.high_kept ∙ ap (λ (t : List ℕ). slice_index text at ∷ t) low in
    subst (λ (l : List ℕ). SpellsFront l (filter is_kept (drop (at + 2) text)) (byte ∷ [])) (sym both) (spells_pair _ _ byte _ is.pair)

spells_block : (text block : List ℕ) (at n : ℕ) → n ≤ length block → at + 2 * n ≤ length text
    → ((k : ℕ) → k < n → IsByteOf (slice_index text (at + 2 * k)) (slice_index text (at + (2 * k + 1))) (slice_index block k))
    → SpellsFront (filter is_kept (drop at text)) (filter is_kept (drop (at + 2 * n) text)) (take n block)
spells_block text block at zero h l each =
    let here : at ≡ at + 2 * 0 = omega arith in
    subst (λ (m : ℕ). SpellsFront (filter is_kept (drop at text)) (filter is_kept (drop m text)) []) here (spells_nothing _)
spells_block text block at (suc n) h l each =
    let before = spells_block text block at n (omega (arith, h)) (omega (arith, l)) (λ k lt. each k (omega (arith, lt))) in
    let place : at + (2 * n + 1) ≡ at + 2 * n + 1 = omega arith in
    let is = subst (λ (m : ℕ). IsByteOf (slice_index text (at + 2 * n)) (slice_index text m) (slice_index block n)) place (each n (omega arith)) in
    let after = spells_two text (at + 2 * n) (slice_index block n) (omega (arith, l)) is in
    let next : at + 2 * n + 2 ≡ at + 2 * suc n = omega arith in
    let more : n + 1 ≡ suc n = omega arith in
    let items : take n block ++ slice_index block n ∷ [] ≡ take (suc n) block = sym (take_more block n 0 (omega (arith, h))) ∙ ap (λ (m : ℕ). take m block) more in
    subst (λ (b : List ℕ). SpellsFront (filter is_kept (drop at text)) (filter is_kept (drop (at + 2 * suc n) text)) b) items
    (subst (λ (m : ℕ). SpellsFront (filter is_kept (drop at text)) (filter is_kept (drop m text)) (take n block ++ slice_index block n ∷ [])) next (spells_more _ _ _ _ _ before after))

pub spells_pairs : (text part after : List ℕ) (pairs : ℕ) → 64 ≤ length text → pairs ≤ 32 → length part ≡ 32
    → ((k : ℕ) → k < pairs → IsByteOf (slice_index (take 64 text) (2 * k)) (slice_index (take 64 text) (2 * k + 1)) (slice_index part k))
    → SpellsFront (filter is_kept text) (filter is_kept (drop (2 * pairs) text)) (take pairs (part ++ after))
spells_pairs text part after pairs h most count each =
    let front : (k : ℕ) → k < pairs → IsByteOf (slice_index text (2 * k)) (slice_index text (2 * k + 1)) (slice_index part k) =
    λ k lt. subst (λ (x : ℕ). IsByteOf x (slice_index text (2 * k + 1)) (slice_index part k)) (get_or-take 64 text (2 * k) 0 (omega (arith, lt, most)))
    (subst (λ (y : ℕ). IsByteOf (slice_index (take 64 text) (2 * k)) y (slice_index part k)) (get_or-take 64 text (2 * k + 1) 0 (omega (arith, lt, most))) (each k lt)) in
    let there : (k : ℕ) → k < pairs → IsByteOf (slice_index text (0 + 2 * k)) (slice_index text (0 + (2 * k + 1))) (slice_index part k) =
    λ k lt. (let same : 2 * k ≡ 0 + 2 * k = omega arith in
    let next : 2 * k + 1 ≡ 0 + (2 * k + 1) = omega arith in
    subst (λ (n : ℕ). IsByteOf (slice_index text n) (slice_index text (0 + (2 * k + 1))) (slice_index part k)) same
    (subst (λ (n : ℕ). IsByteOf (slice_index text (2 * k)) (slice_index text n) (slice_index part k)) next (front k lt))) in
    let end : 0 + 2 * pairs ≡ 2 * pairs = omega arith in
    let spells = subst (λ (n : ℕ). SpellsFront (filter is_kept text) (filter is_kept (drop n text)) (take pairs part)) end
    (spells_block text part 0 pairs (omega (arith, most, count)) (omega (arith, h, most)) there) in
    subst (λ (l : List ℕ). SpellsFront (filter is_kept text) (filter is_kept (drop (2 * pairs) text)) l) (sym (take-append-le pairs part after (omega (arith, most, count)))) spells

-- what is left of a text, as a slice
pub left_is : (text : List ℕ) (at : ℕ) → take (length text - at) (drop at text) ≡ drop at text
left_is text at = take_all (length text - at) (drop at text) (omega (arith, length-drop at text))

pub first_left : (text : List ℕ) (at : ℕ) → slice_index (take (length text - at) (drop at text)) 0 ≡ slice_index text (at + 0)
first_left text at = ap (λ (l : List ℕ). slice_index l 0) (left_is text at) ∙ get_or-drop at text 0 0

-- where a first digit waits
pub spells_waiting : (digits others bytes : List ℕ) (high : Option ℕ) (first : ℕ) → high ≡ Some first → SpellsFront (first ∷ digits) others bytes → SpellsFront (waiting high digits) others bytes
spells_waiting digits others bytes high first is s = subst (λ (h : Option ℕ). SpellsFront (waiting h digits) others bytes) (sym is) s
