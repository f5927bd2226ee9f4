-- Bytes have one longest reading; a bundle, a part and an image one list of findings.
use Rattle.std.proofs.lemmas.List.{length-take}
use Rattle.rv_comp.proofs.Facts.{one_spelling, spelled_length, spelled_some}
use Rattle.sfi_rules.specs.declared.owed.Owed.TheVariants as kind
use Rattle.sfi_rules.specs.words.Findings.{found_from, owed_past, IsWordFound, AreFoundInWords, AreFoundInBundle, AreFoundOfFirst}
use Rattle.sfi_rules.proofs.Prelude.{◌≡◌, ℕ, ◌<◌, ◌≤◌, Instr, List, [], ◌∷◌, length, take, drop, refl, sym, ap, ◌∙◌, subst, arith, get_or-take, Spells, Piece, IsReading, IsLongestReading, zero, suc, ◌+◌, ◌-◌, ◌*◌, ◌++◌, cond, Part, BundlePlace, Finding, bundle_place, bundle_bytes, rest_of, is_empty, rest_finding, Owed, inl, inr, findings_from, AreReadingFindings, AreBundleFindings, AreFindingsOfFirst, AreFindingsInBundles, AreFindings, AreFindingsFrom, has_words, Bool, true, false, MatchBool, AreFindingsInWords}

-- ==== A list of bytes has one longest reading.

-- the front of a list of bytes spells one instruction at most
pub front_one : (bytes : List ℕ) (x y : Piece) → Spells (take x.size bytes) x.instr x.size → Spells (take y.size bytes) y.instr y.size → x ≡ y
front_one bytes x y a b =
    let e = one_spelling (take x.size bytes) (take y.size bytes) x.instr y.instr x.size y.size a b (λ k h g. get_or-take x.size bytes k 0 h ∙ sym (get_or-take y.size bytes k 0 g)) in
    same x y e.0 e.1
  where
    same : (x y : Piece) → x.instr ≡ y.instr → x.size ≡ y.size → x ≡ y
    same x y e f = λ i. record { instr = e i; size = f i }

-- two readings with as many pieces are one
same_length : (bytes : List ℕ) (xs ys : List Piece) → IsReading bytes xs → IsReading bytes ys → length xs ≡ length ys → xs ≡ ys
same_length bytes [] [] a b e = refl
same_length bytes [] (y ∷ ys) a b e = absurd (omega arith)
same_length bytes (x ∷ xs) [] a b e = absurd (omega arith)
same_length bytes (x ∷ xs) (y ∷ ys) a b e =
    let f = front_one bytes x y a.0 b.0 in
    let n : drop y.size bytes ≡ drop x.size bytes = ap (λ (z : Piece). drop z.size bytes) (sym f) in
    let g = same_length (drop x.size bytes) xs ys a.1 (subst (λ (l : List ℕ). IsReading l ys) n b.1) (omega arith) in
    cc

pub longest_one : (bytes : List ℕ) (xs ys : List Piece) → IsLongestReading bytes xs → IsLongestReading bytes ys → xs ≡ ys
longest_one bytes xs ys a b =
    let low = a.longest ys b.is_reading in
    let high = b.longest xs a.is_reading in
    same_length bytes xs ys a.is_reading b.is_reading (omega arith)

-- no instruction's bytes begin these
abbrev pub IsStuck : List ℕ → Type 0
IsStuck bytes = (i : Instr) (n : ℕ) → Spells (take n bytes) i n → ⊥

-- one that does lies within them
pub spelled_within : (bytes : List ℕ) (i : Instr) (n : ℕ) → Spells (take n bytes) i n → (0 < n) × (n ≤ length bytes)
spelled_within bytes i n s =
    let cut = length-take n bytes in
    let all : length (take n bytes) ≡ n = spelled_length (take n bytes) i n s in
    (spelled_some (take n bytes) i n s, omega (arith, cut, all))

-- ==== A part of code in words has one list of findings.

pub record IsSame (found found' : List Finding) (next next' : Owed) : Type 0 where
  pub found_same : found ≡ found'
  pub next_same : next ≡ next'

judged_in_words : BundlePlace → ℕ → Owed → List ℕ → List Piece → List Finding
judged_in_words b at owed word reading = found_from b at owed reading ++ rest_finding b (at + (4 - length (rest_of word reading))) (rest_of word reading)

left_by : BundlePlace → Owed → List ℕ → List Piece → Owed
left_by b owed word reading = cond (is_empty (rest_of word reading)) (owed_past b.format owed reading) kind.Nothing

one_word : (b : BundlePlace) (at : ℕ) (owed : Owed) (word : List ℕ) (xs ys : List Finding) (n m : Owed) → IsWordFound b at owed word xs n → IsWordFound b at owed word ys m → IsSame xs ys n m
unfolding judged_in_words left_by
one_word b at owed word xs ys n m x y =
    let same = longest_one word x.reading y.reading x.longest y.longest in
    let f : judged_in_words b at owed word x.reading ≡ judged_in_words b at owed word y.reading = ap (judged_in_words b at owed word) same in
    let g : left_by b owed word x.reading ≡ left_by b owed word y.reading = ap (left_by b owed word) same in
    record { found_same = x.found_is ∙ f ∙ sym y.found_is; next_same = x.next_is ∙ g ∙ sym y.next_is }

one_words : (b : BundlePlace) (owed : Owed) (bytes : List ℕ) (k : ℕ) (xs ys : List Finding) (n m : Owed) → AreFoundInWords b owed bytes k xs n → AreFoundInWords b owed bytes k ys m → IsSame xs ys n m
one_words b owed bytes zero xs ys n m x y = record { found_same = x.0 ∙ sym y.0; next_same = x.1 ∙ sym y.1 }
one_words b owed bytes (suc k) xs ys n m x y =
    let front = one_words b owed bytes k x.0 y.0 x.2 y.2 x.3 y.3 in
    let word = take 4 (drop (4 * k) bytes) in
    let last = one_word b (b.address + 4 * k) y.2 word x.1 y.1 n m (subst (λ (o : Owed). IsWordFound b (b.address + 4 * k) o word x.1 n) front.next_same x.4) y.4 in
    record { found_same = x.5 ∙ ap (λ l. l ++ x.1) front.found_same ∙ ap (λ l. y.0 ++ l) last.found_same ∙ sym y.5; next_same = last.next_same }

one_first : (sandbox : ℕ) (p : Part) (k : ℕ) (xs ys : List Finding) (n m : Owed) → AreFoundOfFirst sandbox p k xs n → AreFoundOfFirst sandbox p k ys m → IsSame xs ys n m
one_first sandbox p zero xs ys n m x y = record { found_same = x.0 ∙ sym y.0; next_same = x.1 ∙ sym y.1 }
one_first sandbox p (suc k) xs ys n m x y =
    let front = one_first sandbox p k x.0 y.0 x.2 y.2 x.3 y.3 in
    let last = one_words (bundle_place sandbox p k) y.2 (bundle_bytes p k) 4 x.1 y.1 n m (subst (λ (o : Owed). AreFoundInBundle (bundle_place sandbox p k) o (bundle_bytes p k) x.1 n) front.next_same x.4) y.4 in
    record { found_same = x.5 ∙ ap (λ l. l ++ x.1) front.found_same ∙ ap (λ l. y.0 ++ l) last.found_same ∙ sym y.5; next_same = last.next_same }

pub one_list_in_words : (sandbox : ℕ) (p : Part) (xs ys : List Finding) → AreFindingsInWords sandbox p xs → AreFindingsInWords sandbox p ys → xs ≡ ys
one_list_in_words sandbox p xs ys x y =
    let same : x.0 ≡ y.0 = let e = x.2 in let f = y.2 in omega arith in
    (one_first sandbox p y.0 xs ys x.1 y.1 (subst (λ k. AreFoundOfFirst sandbox p k xs x.1) same x.3) y.3).found_same

-- ==== A bundle, a part and an image each have one list of findings.

-- the findings of a reading
judged : BundlePlace → List ℕ → List Piece → List Finding
judged b bytes reading =
    findings_from b (is_empty (rest_of bytes reading)) b.address [] reading
    ++ rest_finding b (b.address + (length bytes - length (rest_of bytes reading))) (rest_of bytes reading)

one_reading : (b : BundlePlace) (bytes : List ℕ) (xs ys : List Finding) → AreReadingFindings b bytes xs → AreReadingFindings b bytes ys → xs ≡ ys
unfolding judged
one_reading b bytes xs ys x y =
    let same = longest_one bytes x.reading y.reading x.longest y.longest in
    let e : judged b bytes x.reading ≡ judged b bytes y.reading = ap (judged b bytes) same in
    x.found_is ∙ e ∙ sym y.found_is

pub one_bundle_list : (b : BundlePlace) (bytes : List ℕ) (xs ys : List Finding) → AreBundleFindings b bytes xs → AreBundleFindings b bytes ys → xs ≡ ys
one_bundle_list b bytes xs ys (inl x) (inl y) = x.2 ∙ sym y.2
one_bundle_list b bytes xs ys (inl x) (inr y) = absurd (x.1 (y.0 x.0))
one_bundle_list b bytes xs ys (inr x) (inl y) = absurd (y.1 (x.0 y.0))
one_bundle_list b bytes xs ys (inr x) (inr y) = one_reading b bytes xs ys x.1 y.1

one_of_first : (sandbox : ℕ) (p : Part) (n : ℕ) (xs ys : List Finding) → AreFindingsOfFirst sandbox p n xs → AreFindingsOfFirst sandbox p n ys → xs ≡ ys
one_of_first sandbox p zero xs ys x y = x ∙ sym y
one_of_first sandbox p (suc n) xs ys x y =
    let front = one_of_first sandbox p n x.0 y.0 x.2 y.2 in
    let last = one_bundle_list (bundle_place sandbox p n) (bundle_bytes p n) x.1 y.1 x.3 y.3 in
    x.4 ∙ ap (λ l. l ++ x.1) front ∙ ap (λ l. y.0 ++ l) last ∙ sym y.4

in_bundles : (sandbox : ℕ) (p : Part) (xs ys : List Finding) → AreFindingsInBundles sandbox p xs → AreFindingsInBundles sandbox p ys → xs ≡ ys
in_bundles sandbox p xs ys x y =
    let same : x.0 ≡ y.0 = let e = x.1 in let f = y.1 in omega arith in
    one_of_first sandbox p y.0 xs ys (subst (λ n. AreFindingsOfFirst sandbox p n xs) same x.2) y.2

pub one_list : (sandbox : ℕ) (p : Part) (xs ys : List Finding) → AreFindings sandbox p xs → AreFindings sandbox p ys → xs ≡ ys
one_list sandbox p xs ys = by (has_words p.format)
  where
    by : (b : Bool) → MatchBool b (AreFindingsInWords sandbox p xs) (AreFindingsInBundles sandbox p xs) → MatchBool b (AreFindingsInWords sandbox p ys) (AreFindingsInBundles sandbox p ys) → xs ≡ ys
    by true x y = one_list_in_words sandbox p xs ys x y
    by false x y = in_bundles sandbox p xs ys x y

pub one_image_list : (sandbox : ℕ) (ps : List Part) (xs ys : List Finding) → AreFindingsFrom sandbox ps xs → AreFindingsFrom sandbox ps ys → xs ≡ ys
one_image_list sandbox [] xs ys x y = x ∙ sym y
one_image_list sandbox (p ∷ ps) xs ys x y =
    let front = one_list sandbox p x.0 y.0 x.2 y.2 in
    let rest = one_image_list (sandbox + 1) ps x.1 y.1 x.3 y.3 in
    x.4 ∙ ap (λ l. l ++ x.1) front ∙ ap (λ l. y.0 ++ l) rest ∙ sym y.4
