-- Slots in words: one after another, with more after them, and as in_words makes them.
use Rattle.sfi_rewrite.proofs.Prelude.{◌≡◌, Bool, true, false, List, [], ◌∷◌, ◌++◌, Option, Some, None, refl, sym, ap, ◌∙◌, append_assoc, append-nil, IsTrue, BundleSlot, Short, Form16, Marked, in_words, ℕ, ◌+◌, ◌%◌, ◌^◌, ◌<◌, ◌≤◌, Fits, w64, rules, arith, true≢false, Wide, size_of, expansion, marked, map, inl, inr, All, All-nil, All-cons, All-head, All-tail, slot_size, alone, AreAsLaid, largest}
use Rattle.sfi_rewrite.specs.private.{so_far, ended, with_slot, with_more, LeadsTo, WordsSoFar, bytes_of, waiting_size, more_for, with_slots, waits, before_label}
use Rattle.sfi_rewrite.proofs.Sizes.{size_of-append}

-- ==== Slots in words, one after another.

-- whether a label stands before the first slot changes nothing
head_label : (l m : Bool) (s : BundleSlot) (slots : List Marked) → in_words ((l, s) ∷ slots) ≡ in_words ((m, s) ∷ slots)
head_label l m (Short f) [] = refl
head_label l m (Short f) ((false, Short g) ∷ slots) = refl
head_label l m (Short f) ((true, Short g) ∷ slots) = refl
head_label l m (Short f) ((false, _) ∷ slots) = refl
head_label l m (Short f) ((true, _) ∷ slots) = refl
head_label l m _ slots = refl

-- a slot of 32 bits has a word alone
abbrev IsNoForm : BundleSlot → Type 0
IsNoForm (Short f) = ⊥
IsNoForm _ = Unit {0}

wide_alone : (l : Bool) (s : BundleSlot) (slots : List Marked) → IsNoForm s → in_words ((l, s) ∷ slots) ≡ s ∷ in_words slots
wide_alone l (Short f) slots h = absurd h
wide_alone l _ slots h = refl

after_form : (f : Form16) (l : Bool) (s : BundleSlot) (slots : List Marked) → IsNoForm s → in_words ((false, Short f) ∷ (l, s) ∷ slots) ≡ in_words ((false, Short f) ∷ []) ++ s ∷ in_words slots
after_form f l (Short g) slots h = absurd h
after_form f false _ slots h = refl
after_form f true _ slots h = refl

cut_at_label : (f : Form16) (s : BundleSlot) (slots : List Marked) → in_words ((false, Short f) ∷ (true, s) ∷ slots) ≡ in_words ((false, Short f) ∷ []) ++ in_words ((true, s) ∷ slots)
cut_at_label f (Short g) slots = refl
cut_at_label f _ slots = refl

-- what waits before a label, or at the end, has a word alone
pub ended_leads : (words : List BundleSlot) (waiting : Option Form16) (s : BundleSlot) (more : List Marked) → with_more (so_far words waiting) ((true, s) ∷ more) ≡ with_more (ended words waiting) ((true, s) ∷ more)
ended_leads words None s more = refl
ended_leads words (Some f) s more = ap (λ v. words ++ v) (cut_at_label f s more) ∙ sym (append_assoc words _ _)

pub ended_last : (words : List BundleSlot) (waiting : Option Form16) → with_more (so_far words waiting) [] ≡ (ended words waiting).words
ended_last words None = append-nil words
ended_last words (Some f) = refl

wide_leads : (words : List BundleSlot) (waiting : Option Form16) (l : Bool) (s : BundleSlot) → IsNoForm s → (more : List Marked)
    → with_more (so_far words waiting) ((l, s) ∷ more) ≡ ((ended words waiting).words ++ s ∷ []) ++ in_words more
wide_leads words None l s h more = ap (λ v. words ++ v) (wide_alone l s more h) ∙ sym (append_assoc words (s ∷ []) _)
wide_leads words (Some f) l s h more =
    ap (λ v. words ++ v) (after_form f l s more h) ∙ sym (append_assoc words _ _) ∙ sym (append_assoc (words ++ in_words ((false, Short f) ∷ [])) (s ∷ []) _)

-- the words with another slot, which has no label before it where a form waits
pub slot_leads : (words : List BundleSlot) (waiting : Option Form16) (l : Bool) (s : BundleSlot) → (IsTrue l → waiting ≡ None) → LeadsTo (so_far words waiting) ((l, s) ∷ []) (with_slot words waiting s)
slot_leads words None l (Short g) h more = ap (λ v. words ++ v) (head_label l false (Short g) more)
slot_leads words (Some f) false (Short g) h more = sym (append_assoc words _ _)
slot_leads words (Some f) true (Short g) h more = let none = h refl in cc
slot_leads words None l s h more = wide_leads words None l s tt more
slot_leads words (Some f) l s h more = wide_leads words (Some f) l s tt more

-- ==== Words with more slots after them: how many bytes they take, and what they lead to.

-- ---- bytes

pub one_more : (words : List BundleSlot) (s : BundleSlot) → size_of (s ∷ []) ≡ 4 → size_of (words ++ s ∷ []) ≡ size_of words + 4
one_more words s e = size_of-append words (s ∷ []) ∙ ap (λ n. size_of words + n) e

two_more : (words : List BundleSlot) (r s : BundleSlot) → size_of (r ∷ []) ≡ 4 → size_of (s ∷ []) ≡ 4 → size_of ((words ++ r ∷ []) ++ s ∷ []) ≡ size_of words + 4 + 4
two_more words r s e f = one_more (words ++ r ∷ []) s f ∙ ap (λ n. n + 4) (one_more words r e)

pub slot_bytes : (words : List BundleSlot) (waiting : Option Form16) (s : BundleSlot) → bytes_of (with_slot words waiting s) ≡ size_of words + waiting_size waiting + more_for waiting s
slot_bytes words None (Short g) = omega arith
slot_bytes words (Some f) (Short g) = let z = size_of-append words (Short f ∷ Short g ∷ []) in omega arith
slot_bytes words None s = let z = one_more words s refl in omega arith
slot_bytes words (Some f) s = let z = two_more words (Wide (expansion f)) s refl refl in omega arith

-- words stay whole
pub slot_aligned : (words : List BundleSlot) (waiting : Option Form16) (s : BundleSlot) → size_of words % 4 ≡ 0 → size_of (with_slot words waiting s).words % 4 ≡ 0
slot_aligned words None (Short g) a = a
slot_aligned words (Some f) (Short g) a = let z = size_of-append words (Short f ∷ Short g ∷ []) in omega arith
slot_aligned words None s a = let z = one_more words s refl in omega arith
slot_aligned words (Some f) s a = let z = two_more words (Wide (expansion f)) s refl refl in omega arith

-- a form alone in its word
pub ended_bytes : (words : List BundleSlot) (waiting : Option Form16) → size_of (ended words waiting).words ≡ size_of words + waiting_size waiting
ended_bytes words None = omega arith
ended_bytes words (Some f) = one_more words (Wide (expansion f)) refl

pub ended_aligned : (words : List BundleSlot) (waiting : Option Form16) → size_of words % 4 ≡ 0 → size_of (ended words waiting).words % 4 ≡ 0
ended_aligned words None a = a
ended_aligned words (Some f) a = let z = one_more words (Wide (expansion f)) refl in omega arith

pub ended_none : (words : List BundleSlot) (waiting : Option Form16) → (ended words waiting).waiting ≡ None
ended_none words None = refl
ended_none words (Some f) = refl

-- a word more is a number of 64 bits
pub fits_more : (now : WordsSoFar) (n : ℕ) → bytes_of now ≤ largest → n ≡ bytes_of now → Fits w64 (n + 4)
fits_more now n h e = let f : n + 4 < 2 ^ 64 = omega arith in search (rules, f)

pub fits_four : (w now : WordsSoFar) (n : ℕ) → w ≡ now → bytes_of now ≤ largest → n ≡ size_of w.words → Fits w64 (n + 4)
fits_four w now n same h e =
    let size = ap bytes_of same in
    let f : n + 4 < 2 ^ 64 = omega arith in
    search (rules, f)

-- slots take no bytes away
pub slots_more : (w : WordsSoFar) (slots : List BundleSlot) → bytes_of w ≤ bytes_of (with_slots w slots)
slots_more w [] = omega arith
slots_more w (s ∷ slots) =
    let first = slot_bytes w.words w.waiting s in
    let rest = slots_more (with_slot w.words w.waiting s) slots in
    omega arith

-- ---- one after another

pub slots_append : (w : WordsSoFar) (front back : List BundleSlot) → with_slots w (front ++ back) ≡ with_slots (with_slots w front) back
slots_append w [] back = refl
slots_append w (s ∷ front) back = slots_append (with_slot w.words w.waiting s) front back

pub slots_push : (w : WordsSoFar) (front : List BundleSlot) (s : BundleSlot) → with_slots w (front ++ s ∷ []) ≡ with_slot (with_slots w front).words (with_slots w front).waiting s
slots_push w [] s = refl
slots_push w (x ∷ front) s = slots_push (with_slot w.words w.waiting x) front s

-- slots of an item, with a label before the first where no form waits
pub slots_lead : (w : WordsSoFar) (labelled : Bool) (slots : List BundleSlot) → (IsTrue labelled → w.waiting ≡ None) → LeadsTo w (marked labelled slots) (with_slots w slots)
slots_lead w labelled [] h more = refl
slots_lead w labelled (s ∷ slots) h more =
    slot_leads w.words w.waiting labelled s h (marked false slots ++ more)
    ∙ slots_lead (with_slot w.words w.waiting s) false slots (λ none. absurd (true≢false (sym none))) more

-- ==== What in_words makes of slots: one slot or two of them to a word, and how many bytes that takes.

-- ---- word by word

-- the second slots are the first in words: two forms, or a slot alone, to each
pub data InWords : List Marked → List BundleSlot → Type 0 where
  no_word : InWords [] []
  two_forms : (l : Bool) (f g : Form16) (slots : List Marked) (words : List BundleSlot) → InWords slots words → InWords ((l, Short f) ∷ (false, Short g) ∷ slots) (Short f ∷ Short g ∷ words)
  one_slot : (l : Bool) (s : BundleSlot) (slots : List Marked) (words : List BundleSlot) → slot_size (alone s) ≡ 4 → InWords slots words → InWords ((l, s) ∷ slots) (alone s ∷ words)

pub view : (slots : List Marked) → InWords slots (in_words slots)
view [] = no_word
view ((l, Short f) ∷ []) = one_slot l (Short f) [] [] refl no_word
view ((l, Short f) ∷ (false, Short g) ∷ slots) = two_forms l f g slots (in_words slots) (view slots)
view ((l, Short f) ∷ (false, s) ∷ slots) = one_slot l (Short f) ((false, s) ∷ slots) (in_words ((false, s) ∷ slots)) refl (view ((false, s) ∷ slots))
view ((l, Short f) ∷ (true, s) ∷ slots) = one_slot l (Short f) ((true, s) ∷ slots) (in_words ((true, s) ∷ slots)) refl (view ((true, s) ∷ slots))
view ((l, s) ∷ slots) = one_slot l s slots (in_words slots) refl (view slots)

pub as_laid : (slots : List Marked) (words : List BundleSlot) → InWords slots words → AreAsLaid (map (λ m. m.1) slots) words
as_laid _ _ no_word = tt
as_laid _ _ (two_forms l f g slots words w) = (inl refl, (inl refl, as_laid slots words w))
as_laid _ _ (one_slot l s slots words size w) = (inr refl, as_laid slots words w)

-- what is so of each slot, also alone in its word, is so of each in words
pub all_in_words : (P : BundleSlot → Type 0) (slots : List Marked) (words : List BundleSlot) → InWords slots words → All (λ m. P m.1 × P (alone m.1)) slots → All P words
all_in_words P _ _ no_word h = All-nil P
all_in_words P _ _ (two_forms l f g slots words w) h =
    let Q : Marked → Type 0 = λ m. P m.1 × P (alone m.1) in
    let rest = All-tail Q (l, Short f) ((false, Short g) ∷ slots) h in
    All-cons P (Short f) (Short g ∷ words) (All-head Q (l, Short f) ((false, Short g) ∷ slots) h).0
    (All-cons P (Short g) words (All-head Q (false, Short g) slots rest).0 (all_in_words P slots words w (All-tail Q (false, Short g) slots rest)))
all_in_words P _ _ (one_slot l s slots words size w) h =
    let Q : Marked → Type 0 = λ m. P m.1 × P (alone m.1) in
    All-cons P (alone s) words (All-head Q (l, s) slots h).1 (all_in_words P slots words w (All-tail Q (l, s) slots h))

-- ---- bytes

-- the words with these slots after them
abbrev fill : WordsSoFar → List Marked → WordsSoFar
fill w [] = w
fill w ((l, s) ∷ slots) = fill (with_slot (before_label l w.words w.waiting).words (before_label l w.words w.waiting).waiting s) slots

one_leads : (w : WordsSoFar) (l : Bool) (s : BundleSlot) (more : List Marked)
    → with_more w ((l, s) ∷ more) ≡ with_more (with_slot (before_label l w.words w.waiting).words (before_label l w.words w.waiting).waiting s) more
one_leads w false s more = slot_leads w.words w.waiting false s (λ t. absurd (true≢false (sym t))) more
one_leads w true s more =
    let e = ended w.words w.waiting in
    ended_leads w.words w.waiting s more ∙ slot_leads e.words e.waiting true s (λ t. ended_none w.words w.waiting) more

fill_leads : (w : WordsSoFar) (slots more : List Marked) → with_more w (slots ++ more) ≡ with_more (fill w slots) more
fill_leads w [] more = refl
fill_leads w ((l, s) ∷ slots) more = one_leads w l s (slots ++ more) ∙ fill_leads (with_slot (before_label l w.words w.waiting).words (before_label l w.words w.waiting).waiting s) slots more

begun_bytes : (w : WordsSoFar) (l : Bool) → bytes_of (before_label l w.words w.waiting) ≡ bytes_of w
begun_bytes w false = refl
begun_bytes w true =
    let e = ended_bytes w.words w.waiting in
    let none = ap waiting_size (ended_none w.words w.waiting) in
    omega arith

begun_aligned : (w : WordsSoFar) (l : Bool) → size_of w.words % 4 ≡ 0 → size_of (before_label l w.words w.waiting).words % 4 ≡ 0
begun_aligned w false a = a
begun_aligned w true a = ended_aligned w.words w.waiting a

fill_more : (w : WordsSoFar) (slots : List Marked) → bytes_of w ≤ bytes_of (fill w slots)
fill_more w [] = omega arith
fill_more w ((l, s) ∷ slots) =
    let b = before_label l w.words w.waiting in
    let begun = begun_bytes w l in
    let first = slot_bytes b.words b.waiting s in
    let rest = fill_more (with_slot b.words b.waiting s) slots in
    omega arith

fill_aligned : (w : WordsSoFar) (slots : List Marked) → size_of w.words % 4 ≡ 0 → size_of (fill w slots).words % 4 ≡ 0
fill_aligned w [] a = a
fill_aligned w ((l, s) ∷ slots) a =
    let b = before_label l w.words w.waiting in
    fill_aligned (with_slot b.words b.waiting s) slots (slot_aligned b.words b.waiting s (begun_aligned w l a))

fill_append : (w : WordsSoFar) (xs ys : List Marked) → fill w (xs ++ ys) ≡ fill (fill w xs) ys
fill_append w [] ys = refl
fill_append w ((l, s) ∷ xs) ys = fill_append (with_slot (before_label l w.words w.waiting).words (before_label l w.words w.waiting).waiting s) xs ys

abbrev nothing : WordsSoFar
nothing = so_far [] None

filled : (slots : List Marked) → in_words slots ≡ (ended (fill nothing slots).words (fill nothing slots).waiting).words
filled slots =
    let w = fill nothing slots in
    ap (λ v. in_words v) (sym (append-nil slots)) ∙ fill_leads nothing slots [] ∙ ended_last w.words w.waiting

-- a label begins a word: the words before it are those of the slots before it
pub words_at_label : (front : List Marked) (s : BundleSlot) (back : List Marked) → in_words (front ++ (true, s) ∷ back) ≡ in_words front ++ in_words ((true, s) ∷ back)
words_at_label front s back =
    let w = fill nothing front in
    let e = ended w.words w.waiting in
    fill_leads nothing front ((true, s) ∷ back) ∙ ended_leads w.words w.waiting s back ∙ ap (λ o. e.words ++ in_words (waits o ++ (true, s) ∷ back)) (ended_none w.words w.waiting)
    ∙ ap (λ v. v ++ in_words ((true, s) ∷ back)) (sym (filled front))

word_bytes : (slots : List Marked) → size_of (in_words slots) ≡ bytes_of (fill nothing slots)
word_bytes slots = ap size_of (filled slots) ∙ ended_bytes (fill nothing slots).words (fill nothing slots).waiting

pub word_aligned : (slots : List Marked) → size_of (in_words slots) % 4 ≡ 0
word_aligned slots =
    let w = fill nothing slots in
    let e = ap size_of (filled slots) in
    let a = ended_aligned w.words w.waiting (fill_aligned nothing slots refl) in
    omega arith

-- more slots take no bytes away
pub words_more : (xs ys : List Marked) → size_of (in_words xs) ≤ size_of (in_words (xs ++ ys))
words_more xs ys =
    let a = word_bytes xs in
    let b = word_bytes (xs ++ ys) in
    let c = ap bytes_of (fill_append nothing xs ys) in
    let d = fill_more (fill nothing xs) ys in
    omega arith
