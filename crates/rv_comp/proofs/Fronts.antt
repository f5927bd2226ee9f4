-- What stands at the front of a list of bytes: one front, and always one.
use Rattle.rv_comp.proofs.Prelude.{◌≡◌, ℕ, ◌<◌, ◌≤◌, refl, ap, subst, sym, ◌∙◌, List, length, take, arith, inl, inr, slice_index, w16, w32, from_le_bytes, Instr, IsWordOf, IsShortSpelling, Spells, IsCutShort, SpellsNothing, IsFront, OneFront, ◌⊎◌, Bool, true, false, Option, Some, None, cases_lt, cases_eq, cases_Bool, allowed, expansion, halfword_of, IsHalfwordOf, SomeFront, decoded, Form16}
use Rattle.rv_comp.specs.declared.front.Front.{Front}
use Rattle.rv_comp.specs.declared.front.Front.TheVariants.{Read, Short, Bad}
use Rattle.rv_comp.specs.private.{IsOnlyFront}
use Rattle.rv_word.specs.Spelling.{length_of}
use Rattle.std.proofs.lemmas.List.{get_or-take}
use Rattle.rv_word.specs.declared.length.Length.TheVariants as lengths
use Rattle.rv_comp.proofs.Spellings.{first_two, first_four, two_bytes, four_bytes, short_long, wide_long, short_at, wide_at, wide_first, short_length, not_both, not_short_longer, not_wide_longer, spelled_one, none_some, some_one}
use Rattle.rv_word.specs.declared.length.Length.{Length}
use Rattle.rv_comp.proofs.Exact.{decoded_only}
use Rattle.rv_word.proofs.Facts.{word_is_decided}

-- ==== What stands at the front of a list of bytes: one front, and the one that its first halfword leads to.

-- ---- one front

-- what is spelled isn't cut short
whole : (bs : List ℕ) (i : Instr) (n : ℕ) → Spells (take n bs) i n → IsCutShort bs → ⊥
whole bs i n (inl s) (inl few) = let long = short_long bs n i s in omega arith
whole bs i n (inl s) (inr cut) =
    let spelled : IsShortSpelling (from_le_bytes w16 (take 2 bs)) i = subst (λ (k : ℕ). IsShortSpelling (from_le_bytes w16 (take k bs)) i) s.size s.spelled in
    not_both _ (short_length _ i spelled) cut.1
whole bs i n (inr s) (inl few) = let long = wide_long bs n i s in omega arith
whole bs i n (inr s) (inr cut) = let long = wide_long bs n i s in let few = cut.0 in omega arith

take_at : (bs : List ℕ) (m n k : ℕ) → k < m → k < n → slice_index (take m bs) k ≡ slice_index (take n bs) k
take_at bs m n k a b = get_or-take m bs k 0 a ∙ sym (get_or-take n bs k 0 b)

same_read : (i j : Instr) (m n : ℕ) → (i ≡ j) × (m ≡ n) → Read i m ≡ Read j n
same_read i j m n (same, size) = cc

pub front_one : OneFront
front_one bs (Read i m) (Read j n) s t = same_read i j m n (spelled_one (take m bs) (take n bs) i j m n s t (take_at bs m n))
front_one bs (Read i m) Short s t = absurd (whole bs i m s t)
front_one bs (Read i m) Bad s t = absurd (t.unspelled i m s)
front_one bs Short (Read j n) s t = absurd (whole bs j n t s)
front_one bs Short Short s t = refl
front_one bs Short Bad s t = absurd (t.enough s)
front_one bs Bad (Read j n) s t = absurd (s.unspelled j n t)
front_one bs Bad Short s t = absurd (s.enough t)
front_one bs Bad Bad s t = refl

-- ---- the front by its first halfword

-- where the first halfword doesn't begin a 32-bit instruction, or four bytes are there, nothing is cut short
uncut : (bs : List ℕ) (first : ℕ) → 2 ≤ length bs → first ≡ from_le_bytes w16 (first_two bs) → (length bs < 4 → length_of first ≡ lengths.Wide → ⊥) → IsCutShort bs → ⊥
uncut bs first long e h (inl few) = omega arith
uncut bs first long e h (inr cut) = h cut.0 (ap length_of (e ∙ ap (from_le_bytes w16) (sym (two_bytes bs long))) ∙ cut.1)

pub halfword_front : (bs : List ℕ) (first : ℕ) (front : Front) → 2 ≤ length bs → first ≡ from_le_bytes w16 (first_two bs) → length_of first ≡ lengths.Short → IsOnlyFront (λ i. IsShortSpelling first i) 2 front → IsFront bs front
halfword_front bs first (Read i n) long e is (size, spelled) =
    let t : take n bs ≡ first_two bs = ap (λ (k : ℕ). take k bs) size ∙ two_bytes bs long in
    inl (record {
      size = size;
      all = ap length t;
      spelled = subst (λ (h : ℕ). IsShortSpelling h i) (e ∙ ap (from_le_bytes w16) (sym t)) spelled;
    })
halfword_front bs first Short long e is never = absurd never
halfword_front bs first Bad long e is none =
    record {
      enough = uncut bs first long e (λ few wide. not_both _ is wide);
      unspelled = unspelled;
    }
  where
    unspelled : (i : Instr) (n : ℕ) → Spells (take n bs) i n → ⊥
    unspelled i n (inl s) = none i (short_at bs n first i long e s)
    unspelled i n (inr s) = not_both _ is (wide_first bs n first i e s)

pub word_front : (bs : List ℕ) (first word : ℕ) (front : Front) → 4 ≤ length bs → first ≡ from_le_bytes w16 (first_two bs) → word ≡ from_le_bytes w32 (first_four bs) → length_of first ≡ lengths.Wide → IsOnlyFront (λ i. IsWordOf word i) 4 front → IsFront bs front
word_front bs first word (Read i n) long e f is (size, spelled) =
    let t : take n bs ≡ first_four bs = ap (λ (k : ℕ). take k bs) size ∙ four_bytes bs long in
    inr (record {
      size = size;
      all = ap length t;
      spelled = subst (λ (w : ℕ). IsWordOf w i) (f ∙ ap (from_le_bytes w32) (sym t)) spelled;
    })
word_front bs first word Short long e f is never = absurd never
word_front bs first word Bad long e f is none =
    record {
      enough = uncut bs first (omega arith) e (λ few wide. omega arith);
      unspelled = unspelled;
    }
  where
    unspelled : (i : Instr) (n : ℕ) → Spells (take n bs) i n → ⊥
    unspelled i n (inl s) = not_both _ (short_length first i (short_at bs n first i (omega arith) e s)) is
    unspelled i n (inr s) = none i (subst (λ (w : ℕ). IsWordOf w i) (sym f) (wide_at bs n i s))

pub longer_front : (bs : List ℕ) (first : ℕ) → 2 ≤ length bs → first ≡ from_le_bytes w16 (first_two bs) → length_of first ≡ lengths.Longer → SpellsNothing bs
longer_front bs first long e is =
    record {
      enough = uncut bs first long e (λ few wide. not_wide_longer _ wide is);
      unspelled = unspelled;
    }
  where
    unspelled : (i : Instr) (n : ℕ) → Spells (take n bs) i n → ⊥
    unspelled i n (inl s) = not_short_longer _ (short_length first i (short_at bs n first i long e s)) is
    unspelled i n (inr s) = not_wide_longer _ (wide_first bs n first i e s) is

pub cut_front : (bs : List ℕ) (first : ℕ) → 2 ≤ length bs → length bs < 4 → first ≡ from_le_bytes w16 (first_two bs) → length_of first ≡ lengths.Wide → IsCutShort bs
cut_front bs first long few e is = inr (few, ap length_of (ap (from_le_bytes w16) (two_bytes bs long) ∙ sym e) ∙ is)

-- ==== Each list of bytes has a front: a halfword and a word spell something or nothing.

-- ---- what a halfword or a word alone spells

-- the front of the n bytes that spell by this relation
abbrev OnlyFront : (Instr → Type 0) → ℕ → Type 0
OnlyFront spell n = (front : Front) × IsOnlyFront spell n front

only_front : (spell : Instr → Type 0) (n : ℕ) → ((i : Instr) × spell i) ⊎ ((i : Instr) → spell i → ⊥) → OnlyFront spell n
only_front spell n (inl some) = (Read some.0 n, (refl, some.1))
only_front spell n (inr none) = (Bad, none)

-- the form that the halfword decodes to spells it, or none does
form_decides : (h : ℕ) (o : Option Form16) → decoded h ≡ o → ((i : Instr) × IsShortSpelling h i) ⊎ ((i : Instr) → IsShortSpelling h i → ⊥)
form_decides h None e = inr (λ i s. none_some s.form (decoded h) e (decoded_only h s.form s.gives))
form_decides h (Some f) e =
    elim (cases_Bool (allowed f)) [
      | inl meets ↦ elim (cases_eq h (halfword_of f)) [
        | inl is ↦ inl (expansion f, record { form = f; gives = record { meets = meets; spelled = is }; expands = refl })
        | inr other ↦ inr (λ i s. other (given i s).spelled)
      ]
      | inr fails ↦ inr (λ i s. differ (allowed f) (given i s).meets fails)
    ]
  where
    given : (i : Instr) → IsShortSpelling h i → IsHalfwordOf h f
    given i s = subst (IsHalfwordOf h) (some_one (decoded h) s.form f (decoded_only h s.form s.gives) e) s.gives

    differ : (b : Bool) → b ≡ true → b ≡ false → ⊥
    differ b t u = cc

-- ---- the front of the bytes

abbrev Found : List ℕ → Type 0
Found bs = (front : Front) × IsFront bs front

-- by the length that the first halfword tells
by_first : (bs : List ℕ) (l : Length) → 2 ≤ length bs → length_of (from_le_bytes w16 (first_two bs)) ≡ l → Found bs
by_first bs lengths.Short long is =
    let first = from_le_bytes w16 (first_two bs) in
    let only = only_front (IsShortSpelling first) 2 (form_decides first (decoded first) refl) in
    (only.0, halfword_front bs first only.0 long refl is only.1)
by_first bs lengths.Wide long is =
    let first = from_le_bytes w16 (first_two bs) in
    let word = from_le_bytes w32 (first_four bs) in
    let only = only_front (IsWordOf word) 4 (word_is_decided word) in
    elim (cases_lt (length bs) 4) [
      | inl few ↦ (Short, cut_front bs first long few refl is)
      | inr enough ↦ (only.0, word_front bs first word only.0 enough refl refl is only.1)
    ]
by_first bs lengths.Longer long is =
    (Bad, longer_front bs (from_le_bytes w16 (first_two bs)) long refl is)

pub some_front : SomeFront
some_front bs = elim (cases_lt (length bs) 2) [
  | inl few ↦ (Short, inl few)
  | inr long ↦ by_first bs (length_of (from_le_bytes w16 (first_two bs))) long refl
]
