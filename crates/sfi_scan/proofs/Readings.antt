-- Longest readings of bundles and of words, and what is found in a word's.
use Rattle.sfi_scan.proofs.Prelude.{◌≡◌, ◌⊎◌, ◌-◌, ℕ, suc, ◌≤◌, List, [], ◌∷◌, length, length-drop, take, take_all, drop, Option, Some, refl, sym, ap, ◌∙◌, subst, inl, inr, arith, Instr, Spells, Read, Short, Piece, IsReading, IsLongestReading, ahead, append_assoc, None, ◌+◌, ◌<◌, ◌++◌, cond, w16, from_le_bytes, length-append, append-nil, IsCutShort, SpellsNothing, BundlePlace, rest_of, is_empty, Finding, Owed, Rule, V1, V2, IsWordFound}
use Rattle.rv_comp.specs.declared.front.Front.{Front}
use Rattle.rv_comp.specs.declared.front.Front.TheVariants.{Bad}
use Rattle.rv_comp.specs.Fronts.{IsFront}
use Rattle.sfi_rules.proofs.OneList.{IsStuck, front_one, spelled_within}
use Rattle.rv_word.specs.declared.length.Length.{Length}
use Rattle.rv_word.specs.declared.length.Length.TheVariants.{Wide}
use Rattle.rv_word.specs.declared.length.Length.TheVariants as lengths
use Rattle.rv_word.specs.Spelling.{length_of}
use Rattle.sfi_rules.specs.declared.owed.Owed.TheVariants as kind
use Rattle.sfi_rules.specs.words.Rules.{owed_next}
use Rattle.sfi_rules.specs.words.Findings.{lowest, found_at, found_from, owed_past}
use Rattle.sfi_rules.specs.Rules.{rest_finding, rule_of_length, broken}

-- ==== Longest readings, and the pieces after a place, which are those that are read there.

-- all of a slice from there on
pub tail_is : (at : ℕ) (xs : List ℕ) → take (length xs - at) (drop at xs) ≡ drop at xs
tail_is at xs = take_all (length xs - at) (drop at xs) (omega (arith, length-drop at xs))

-- ---- longest readings

pub longest_none : (bytes : List ℕ) → IsStuck bytes → IsLongestReading bytes []
longest_none bytes stuck = record { is_reading = tt; longest = most }
  where
    most : (other : List Piece) → IsReading bytes other → length other ≤ 0
    most [] r = omega arith
    most (x ∷ other) r = absurd (stuck x.instr x.size r.0)

pub longest_more : (bytes : List ℕ) (x : Piece) (later : List Piece) → Spells (take x.size bytes) x.instr x.size → IsLongestReading (drop x.size bytes) later → IsLongestReading bytes (x ∷ later)
longest_more bytes x later s h = record { is_reading = (s, h.is_reading); longest = most }
  where
    most : (other : List Piece) → IsReading bytes other → length other ≤ length (x ∷ later)
    most [] r = omega arith
    most (y ∷ other) r =
        let same = front_one bytes y x r.0 s in
        let k = h.longest other (subst (λ (z : Piece). IsReading (drop z.size bytes) other) same r.1) in
        omega arith

pub no_bytes_left : (bytes : List ℕ) → length bytes ≡ 0 → IsStuck bytes
no_bytes_left bytes e i n s = let w = spelled_within bytes i n s in omega (arith, w.0, w.1, e)

-- what isn't read spells nothing
pub stuck_of : (bytes : List ℕ) (front : Front) → (front ≡ Short) ⊎ (front ≡ Bad) → ((other : Front) → IsFront bytes other → front ≡ other) → IsStuck bytes
stuck_of bytes front (inl e) only i n s = let f : Short ≡ Read i n = sym e ∙ only (Read i n) s in cc
stuck_of bytes front (inr e) only i n s = let f : Bad ≡ Read i n = sym e ∙ only (Read i n) s in cc

-- a longest reading begins with it, and goes on with a longest reading of what follows
pub record Begins (bytes : List ℕ) (i : Instr) (n : ℕ) (later : List Piece) : Type 0 where
  pub rest : List Piece
  pub is : later ≡ record { instr = i; size = n } ∷ rest
  pub longest : IsLongestReading (drop n bytes) rest

pub begins : (bytes : List ℕ) (i : Instr) (n : ℕ) → Spells (take n bytes) i n → (later : List Piece) → IsLongestReading bytes later → Begins bytes i n later
begins bytes i n s [] h = absurd (let more : 1 ≤ 0 = h.longest (record { instr = i; size = n } ∷ []) (s, tt) in omega (arith, more))
begins bytes i n s (x ∷ rest) h =
    let same = front_one bytes x (record { instr = i; size = n }) h.is_reading.0 s in
    record {
      rest = rest;
      is = ap (λ (y : Piece). y ∷ rest) same;
      longest = record {
        is_reading = subst (λ (y : Piece). IsReading (drop y.size bytes) rest) same h.is_reading.1;
        longest = λ other g. let more : suc (length other) ≤ suc (length rest) = h.longest (record { instr = i; size = n } ∷ other) (s, g) in omega (arith, more);
      };
    }

pub none_there : (bytes : List ℕ) → IsStuck bytes → (later : List Piece) → IsLongestReading bytes later → later ≡ []
none_there bytes stuck [] h = refl
none_there bytes stuck (x ∷ rest) h = absurd (stuck x.instr x.size h.is_reading.0)

pub first_ahead : (x : Piece) (rest : List Piece) → (ahead (x ∷ rest)).first ≡ Some x.instr
first_ahead x [] = refl
first_ahead x (y ∷ rest) = refl

pub both_ahead : (x : Piece) (rest : List Piece) → ahead (x ∷ rest) ≡ record { first = Some x.instr; second = (ahead rest).first }
both_ahead x [] = refl
both_ahead x (y ∷ []) = refl
both_ahead x (y ∷ z ∷ rest) = refl

-- the first of what is read
pub first_read : (bytes : List ℕ) (i : Instr) (n : ℕ) → Spells (take n bytes) i n → (later : List Piece) → IsLongestReading bytes later → Some i ≡ (ahead later).first
first_read bytes i n s later h =
    let b = begins bytes i n s later h in
    sym (ap (λ (l : List Piece). (ahead l).first) b.is ∙ first_ahead (record { instr = i; size = n }) b.rest)

-- and both, where the second is known of what is after the first
pub both_read : (bytes : List ℕ) (i : Instr) (n : ℕ) (o : Option Instr) → Spells (take n bytes) i n
    → ((later : List Piece) → IsLongestReading (drop n bytes) later → o ≡ (ahead later).first)
    → (later : List Piece) → IsLongestReading bytes later → record { first = Some i; second = o } ≡ ahead later
both_read bytes i n o s second later h =
    let b = begins bytes i n s later h in
    ap (λ (p : Option Instr). record { first = Some i; second = p }) (second b.rest b.longest)
    ∙ sym (ap ahead b.is ∙ both_ahead (record { instr = i; size = n }) b.rest)

pub none_read : (bytes : List ℕ) → IsStuck bytes → (later : List Piece) → IsLongestReading bytes later → ahead [] ≡ ahead later
none_read bytes stuck later h = sym (ap ahead (none_there bytes stuck later h))

-- ==== The longest reading of a word, and what is found in it.

pub empty_list : {A : Type 0} (xs : List A) → length xs ≡ 0 → xs ≡ []
empty_list [] e = refl
empty_list (x ∷ xs) e = absurd (omega arith)

-- ---- sizes

pub two_of : (bytes : List ℕ) (i : Instr) (n : ℕ) → Spells (take n bytes) i n → (n ≡ 4 → ⊥) → n ≡ 2
two_of bytes i n (inl s) unlike = s.size
two_of bytes i n (inr s) unlike = absurd (unlike s.size)

pub two_in : (bytes : List ℕ) (i : Instr) (n : ℕ) → Spells (take n bytes) i n → length bytes < 4 → n ≡ 2
two_in bytes i n s few = two_of bytes i n s (λ e. let w = spelled_within bytes i n s in omega (arith, w.1, e, few))

-- ---- a word

found_as : (b : BundlePlace) (at : ℕ) (owed : Owed) (word : List ℕ) (found : List Finding) (next : Owed) (reading : List Piece) (rest : List ℕ) → IsLongestReading word reading → rest_of word reading ≡ rest
    → found ≡ found_from b at owed reading ++ rest_finding b (at + (4 - length rest)) rest → next ≡ cond (is_empty rest) (owed_past b.format owed reading) kind.Nothing → IsWordFound b at owed word found next
found_as b at owed word found next reading rest longest e found_is next_is = record {
  reading = reading;
  longest = longest;
  found_is = found_is ∙ ap (λ (r : List ℕ). found_from b at owed reading ++ rest_finding b (at + (4 - length r)) r) (sym e);
  next_is = next_is ∙ ap (λ (r : List ℕ). cond (is_empty r) (owed_past b.format owed reading) kind.Nothing) (sym e);
}

module _ (b : BundlePlace) (at : ℕ) (owed : Owed) (word : List ℕ) (whole : length word ≡ 4) where
  -- nothing is read
  pub word_bad : IsStuck word → IsWordFound b at owed word (broken b at V1 ∷ []) kind.Nothing
  word_bad stuck = by word whole stuck
    where
      by : (w : List ℕ) → length w ≡ 4 → IsStuck w → IsWordFound b at owed w (broken b at V1 ∷ []) kind.Nothing
      by (k ∷ l ∷ m ∷ n ∷ []) e stuck =
          found_as b at owed (k ∷ l ∷ m ∷ n ∷ []) (broken b at V1 ∷ []) kind.Nothing [] (k ∷ l ∷ m ∷ n ∷ []) (longest_none _ stuck) refl (ap (λ (a : ℕ). broken b a V1 ∷ []) (let sum : at ≡ at + 0 = omega arith in sum)) refl
      by w e stuck = absurd (omega arith)

  module _ (i : Instr) (n : ℕ) (s : Spells (take n word) i n) where
    abbrev pub first : List Finding
    first = found_at b at (lowest (record { bundle = b; address = at; owed = owed; instr = i; size = n }))

    -- an instruction of 32 bits
    pub word_wide : n ≡ 4 → IsWordFound b at owed word first (owed_next b.format owed i)
    word_wide e =
        let none : length (drop n word) ≡ 0 = omega (arith, length-drop n word, e, whole) in
        found_as b at owed word first (owed_next b.format owed i) (record { instr = i; size = n } ∷ []) []
        (longest_more word (record { instr = i; size = n }) [] s (longest_none (drop n word) (no_bytes_left (drop n word) none)))
        (empty_list (drop n word) none) (sym (append-nil (first ++ []) ∙ append-nil first)) refl

    module _ (two : n ≡ 2) where
      left_two : length (drop n word) ≡ 2
      left_two = omega (arith, length-drop n word, two, whole)

      abbrev pub second_at : Instr → ℕ → List Finding
      second_at j m = found_at b (at + n) (lowest (record { bundle = b; address = at + n; owed = owed_next b.format owed i; instr = j; size = m }))

      -- two of 16
      pub word_two : (j : Instr) (m : ℕ) → Spells (take m (drop n word)) j m → IsWordFound b at owed word (first ++ second_at j m) (owed_next b.format (owed_next b.format owed i) j)
      word_two j m t =
          let f = two_in (drop n word) j m t (let l = left_two in omega arith) in
          let none : length (drop m (drop n word)) ≡ 0 = (let l = left_two in omega (arith, length-drop m (drop n word), f)) in
          found_as b at owed word (first ++ second_at j m) (owed_next b.format (owed_next b.format owed i) j) (record { instr = i; size = n } ∷ record { instr = j; size = m } ∷ []) []
          (longest_more word (record { instr = i; size = n }) _ s (longest_more (drop n word) (record { instr = j; size = m }) [] t (longest_none _ (no_bytes_left (drop m (drop n word)) none))))
          (empty_list (drop m (drop n word)) none) (sym (append-nil (first ++ (second_at j m ++ [])) ∙ ap (λ (l : List Finding). first ++ l) (append-nil (second_at j m)))) refl

      -- what follows one of 16 isn't read
      pub word_rest : (length_is : Length) → length_of (from_le_bytes w16 (drop n word)) ≡ length_is → IsStuck (drop n word) → IsWordFound b at owed word (first ++ broken b (at + 2) (rule_of_length length_is) ∷ []) kind.Nothing
      word_rest length_is e stuck =
          let l = rest_is (drop n word) left_two e in
          found_as b at owed word (first ++ broken b (at + 2) (rule_of_length length_is) ∷ []) kind.Nothing (record { instr = i; size = n } ∷ []) (drop n word)
          (longest_more word (record { instr = i; size = n }) [] s (longest_none (drop n word) stuck)) refl
          (sym (ap (λ (f : List Finding). f ++ rest_finding b (at + (4 - length (drop n word))) (drop n word)) (append-nil first) ∙ ap (λ (f : List Finding). first ++ f) l.0)) (sym l.1)
        where
          rest_is : (rest : List ℕ) → length rest ≡ 2 → length_of (from_le_bytes w16 rest) ≡ length_is → (rest_finding b (at + (4 - length rest)) rest ≡ broken b (at + 2) (rule_of_length length_is) ∷ []) × (cond (is_empty rest) (owed_past b.format owed (record { instr = i; size = n } ∷ [])) kind.Nothing ≡ kind.Nothing)
          rest_is (low ∷ high ∷ []) f g = (ap (λ (k : Length). broken b (at + 2) (rule_of_length k) ∷ []) g, refl)
          rest_is rest f g = absurd (omega arith)

-- ---- the length that two bytes tell, where they are no instruction

pub cut_wide : (bytes : List ℕ) → length bytes ≡ 2 → IsCutShort bytes → length_of (from_le_bytes w16 bytes) ≡ Wide
cut_wide bytes e (inl few) = absurd (omega arith)
cut_wide bytes e (inr (few, wide)) = ap (λ (l : List ℕ). length_of (from_le_bytes w16 l)) (sym (take_all 2 bytes (omega arith))) ∙ wide

pub not_wide : (bytes : List ℕ) → length bytes ≡ 2 → (IsCutShort bytes → ⊥) → rule_of_length (length_of (from_le_bytes w16 bytes)) ≡ V1
not_wide bytes e enough = by (length_of (from_le_bytes w16 bytes)) refl
  where
    by : (k : Length) → length_of (from_le_bytes w16 bytes) ≡ k → rule_of_length k ≡ V1
    by lengths.Wide f = absurd (enough (inr (omega arith, ap (λ (l : List ℕ). length_of (from_le_bytes w16 l)) (take_all 2 bytes (omega arith)) ∙ f)))
    by k f = refl

-- ---- what the scan of a word adds

pub found_one : (b : BundlePlace) (at : ℕ) (o : Option Rule) → length (found_at b at o) ≤ 1
found_one b at None = omega arith
found_one b at (Some rule) = omega arith

-- these are added to the findings, and are those of the word
abbrev pub Adds : BundlePlace → ℕ → Owed → List ℕ → List Finding → List Finding → Owed → Type 0
Adds b at owed word old new next = (here : List Finding) × (new ≡ old ++ here) × (length here ≤ 2) × IsWordFound b at owed word here next

module _ (b : BundlePlace) (at : ℕ) (owed : Owed) (word : List ℕ) (whole : length word ≡ 4) (old : List Finding) where
  module _ (i : Instr) (n : ℕ) (s : Spells (take n word) i n) (mid : List Finding) (next : Owed) (mid_is : mid ≡ old ++ found_at b at (lowest (record { bundle = b; address = at; owed = owed; instr = i; size = n }))) (next_is : next ≡ owed_next b.format owed i) where
    pub adds_wide : n ≡ 4 → Adds b at owed word old mid next
    adds_wide four =
        (first b at owed word whole i n s, mid_is, (let one = found_one b at (lowest (record { bundle = b; address = at; owed = owed; instr = i; size = n })) in omega arith), subst (λ (o : Owed). IsWordFound b at owed word (first b at owed word whole i n s) o) (sym next_is) (word_wide b at owed word whole i n s four))

    module _ (two : n ≡ 2) where
      rest_is : drop n word ≡ drop 2 word
      rest_is = ap (λ (k : ℕ). drop k word) two

      slice_is : take (length word - 2) (drop 2 word) ≡ drop n word
      slice_is = tail_is 2 word ∙ sym rest_is

      pub adds_two : (j : Instr) (m : ℕ) (new : List Finding) (last : Owed) → Spells (take m (take (length word - 2) (drop 2 word))) j m
          → new ≡ mid ++ found_at b (at + 2) (lowest (record { bundle = b; address = at + 2; owed = next; instr = j; size = m })) → last ≡ owed_next b.format next j → Adds b at owed word old new last
      adds_two j m new last t new_is last_is =
          let t' = subst (λ (l : List ℕ). Spells (take m l) j m) slice_is t in
          let second : found_at b (at + 2) (lowest (record { bundle = b; address = at + 2; owed = next; instr = j; size = m })) ≡ found_at b (at + n) (lowest (record { bundle = b; address = at + n; owed = owed_next b.format owed i; instr = j; size = m }))
          = ap (λ (k : ℕ). found_at b (at + k) (lowest (record { bundle = b; address = at + k; owed = next; instr = j; size = m }))) (sym two) ∙ ap (λ (o : Owed). found_at b (at + n) (lowest (record { bundle = b; address = at + n; owed = o; instr = j; size = m }))) next_is in
          let a = found_one b at (lowest (record { bundle = b; address = at; owed = owed; instr = i; size = n })) in
          let c = found_one b (at + n) (lowest (record { bundle = b; address = at + n; owed = owed_next b.format owed i; instr = j; size = m })) in
          let here : List Finding = first b at owed word whole i n s ++ found_at b (at + n) (lowest (record { bundle = b; address = at + n; owed = owed_next b.format owed i; instr = j; size = m })) in (
            here,
            new_is ∙ ap (λ (l : List Finding). l ++ found_at b (at + 2) (lowest (record { bundle = b; address = at + 2; owed = next; instr = j; size = m }))) mid_is ∙ append_assoc old _ _ ∙ ap (λ (l : List Finding). old ++ (first b at owed word whole i n s ++ l)) second,
            omega (arith, a, c, length-append (first b at owed word whole i n s) (found_at b (at + n) (lowest (record { bundle = b; address = at + n; owed = owed_next b.format owed i; instr = j; size = m })))),
            subst (λ (o : Owed). IsWordFound b at owed word here o) (sym (last_is ∙ ap (λ (o : Owed). owed_next b.format o j) next_is)) (word_two b at owed word whole i n s two j m t'),
          )

      adds_rest : (k : Length) (rule : Rule) (new : List Finding) → length_of (from_le_bytes w16 (drop n word)) ≡ k → rule_of_length k ≡ rule → IsStuck (drop n word) → new ≡ mid ++ found_at b (at + 2) (Some rule) → Adds b at owed word old new kind.Nothing
      adds_rest k rule new e f stuck new_is =
          let a = found_one b at (lowest (record { bundle = b; address = at; owed = owed; instr = i; size = n })) in (
            first b at owed word whole i n s ++ found_at b (at + 2) (Some rule),
            new_is ∙ ap (λ (l : List Finding). l ++ found_at b (at + 2) (Some rule)) mid_is ∙ append_assoc old _ _,
            omega (arith, a, length-append (first b at owed word whole i n s) (found_at b (at + 2) (Some rule))),
            subst (λ (r : Rule). IsWordFound b at owed word (first b at owed word whole i n s ++ broken b (at + 2) r ∷ []) kind.Nothing) f (word_rest b at owed word whole i n s two k e stuck),
          )

      two_left : length (drop n word) ≡ 2
      two_left = omega (arith, length-drop n word, two, whole)

      pub adds_cut : (new : List Finding) → IsStuck (take (length word - 2) (drop 2 word)) → IsCutShort (take (length word - 2) (drop 2 word)) → new ≡ mid ++ found_at b (at + 2) (Some V2) → Adds b at owed word old new kind.Nothing
      adds_cut new stuck cut new_is = adds_rest Wide V2 new (cut_wide (drop n word) two_left (subst IsCutShort slice_is cut)) refl (subst IsStuck slice_is stuck) new_is

      pub adds_bad : (new : List Finding) → SpellsNothing (take (length word - 2) (drop 2 word)) → new ≡ mid ++ found_at b (at + 2) (Some V1) → Adds b at owed word old new kind.Nothing
      adds_bad new nothing new_is =
          let none = subst SpellsNothing slice_is nothing in
          adds_rest (length_of (from_le_bytes w16 (drop n word))) V1 new refl (not_wide (drop n word) two_left none.enough) none.unspelled new_is
