-- Where each word of the code is quiet, nothing is found.
use Rattle.sfi_link.proofs.Prelude.{◌≡◌, ℕ, suc, ◌+◌, ◌-◌, ◌*◌, ◌/◌, ◌<◌, List, [], ◌∷◌, ◌++◌, length, take, drop, refl, sym, ap, ◌∙◌, subst, arith, inl, inr, append_assoc, length-append, cases_eq, Part, Piece, IsReading, rest_of}
use Rattle.std.specs.Prelude.{cond}
use Rattle.std.proofs.lemmas.List.{drop-drop, drop-take, take-take}
use Rattle.std.proofs.Math.Seq.{take-append_seam, drop-append_seam}
use Rattle.sfi_image.specs.declared.bundle.BundlePlace.{BundlePlace}
use Rattle.sfi_rules.specs.declared.owed.Owed.{Owed}
use Rattle.sfi_rules.specs.declared.owed.Owed.TheVariants.{Nothing}
use Rattle.sfi_rules.specs.Rules.{rest_finding, is_empty}
use Rattle.sfi_rules.specs.Readings.{bundle_place, bundle_bytes}
use Rattle.sfi_rules.specs.words.Findings.{found_from, owed_past, IsWordFound, AreFoundInWords, AreFoundOfFirst, AreFindingsInWords}
use Rattle.sfi_link.proofs.CleanPlaces.{whole_is_longest}
use Rattle.sfi_link.proofs.Bytes.{join}

-- ---- one word

-- The word, which stands at this address after what is owed, is read whole and without a finding,
-- and that is owed after it.
pub record IsQuiet (b : BundlePlace) (at : ℕ) (owed : Owed) (word : List ℕ) (next : Owed) : Type 0 where
  pub size : length word ≡ 4
  pub reading : List Piece
  pub is_reading : IsReading word reading
  pub whole : rest_of word reading ≡ []
  pub none : found_from b at owed reading ≡ []
  pub left : next ≡ owed_past b.format owed reading

quiet_found : (b : BundlePlace) (at : ℕ) (owed : Owed) (word : List ℕ) (next : Owed) → IsQuiet b at owed word next → IsWordFound b at owed word [] next
quiet_found b at owed word next q = record {
  reading = q.reading;
  longest = whole_is_longest word q.reading q.is_reading q.whole;
  found_is = subst (λ (l : List ℕ). [] ≡ found_from b at owed q.reading ++ rest_finding b (at + (4 - length l)) l) (sym q.whole) (let e = q.none in rw e refl);
  next_is = subst (λ (l : List ℕ). next ≡ cond (is_empty l) (owed_past b.format owed q.reading) Nothing) (sym q.whole) q.left;
}

-- ---- one after another

-- words one after another are quiet, the first of which is the code's word of that number
abbrev pub AreQuiet : ℕ → Part → ℕ → Owed → List (List ℕ) → Owed → Type 0
AreQuiet sandbox p n owed [] next = next ≡ owed
AreQuiet sandbox p n owed (w ∷ words) next =
    (between : Owed) × IsQuiet (bundle_place sandbox p (n / 4)) (p.code_base + 4 * n) owed w between × AreQuiet sandbox p (n + 1) between words next

pub quiet_append : (sandbox : ℕ) (p : Part) (n m : ℕ) (owed between next : Owed) (xs ys : List (List ℕ)) → m ≡ n + length xs → AreQuiet sandbox p n owed xs between → AreQuiet sandbox p m between ys next
    → AreQuiet sandbox p n owed (xs ++ ys) next
quiet_append sandbox p n m owed between next [] ys e a b =
    let same : m ≡ n = omega arith in
    subst (λ k. AreQuiet sandbox p k owed ys next) same (subst (λ o. AreQuiet sandbox p m o ys next) a b)
quiet_append sandbox p n m owed between next (x ∷ xs) ys e a b = (a.0, a.1, quiet_append sandbox p (n + 1) m a.0 between next xs ys (omega arith) a.2 b)

-- nothing is found in the first `n` words of the code
record FoundTo (sandbox : ℕ) (p : Part) (n : ℕ) (owed : Owed) : Type 0 where
  bundles : ℕ
  words : ℕ
  number : n ≡ 4 * bundles + words
  few : words < 4
  between : Owed
  before : AreFoundOfFirst sandbox p bundles [] between
  own : AreFoundInWords (bundle_place sandbox p bundles) between (bundle_bytes p bundles) words [] owed

none_yet : (sandbox : ℕ) (p : Part) → FoundTo sandbox p 0 Nothing
none_yet sandbox p = record { bundles = 0; words = 0; number = refl; few = omega arith; between = Nothing; before = (refl, refl); own = (refl, refl) }

-- a word of a bundle is one of the code
word_of : (code : List ℕ) (n k : ℕ) → k < 4 → take 4 (drop (4 * k) (take 16 (drop (16 * n) code))) ≡ take 4 (drop (4 * (4 * n + k)) code)
word_of code n k below =
    let room : 4 * k + (16 - 4 * k) ≡ 16 = omega arith in
    let cut : drop (4 * k) (take 16 (drop (16 * n) code)) ≡ take (16 - 4 * k) (drop (4 * k) (drop (16 * n) code)) =
    ap (λ (m : ℕ). drop (4 * k) (take m (drop (16 * n) code))) (sym room) ∙ drop-take (4 * k) (16 - 4 * k) (drop (16 * n) code) in
    ap (take 4) cut ∙ take-take 4 (16 - 4 * k) (drop (4 * k) (drop (16 * n) code)) (omega arith) ∙ ap (take 4) (drop-drop (4 * k) (16 * n) code)
    ∙ ap (λ m. take 4 (drop m code)) (let e : 16 * n + 4 * k ≡ 4 * (4 * n + k) = omega arith in e)

one_more : (sandbox : ℕ) (p : Part) (n : ℕ) (owed next : Owed) (word : List ℕ) → FoundTo sandbox p n owed → take 4 (drop (4 * n) p.code) ≡ word
    → IsQuiet (bundle_place sandbox p (n / 4)) (p.code_base + 4 * n) owed word next → FoundTo sandbox p (n + 1) next
one_more sandbox p n owed next word f is q =
    let k = f.bundles in
    let w = f.words in
    let few = f.few in
    let number = f.number in
    let same : n / 4 ≡ k = omega arith in
    let address : p.code_base + 4 * n ≡ p.code_base + 16 * k + 4 * w = omega arith in
    let bytes : word ≡ take 4 (drop (4 * w) (bundle_bytes p k)) = sym is ∙ ap (λ m. take 4 (drop (4 * m) p.code)) number ∙ sym (word_of p.code k w few) in
    let here : IsWordFound (bundle_place sandbox p k) (p.code_base + 16 * k + 4 * w) owed (take 4 (drop (4 * w) (bundle_bytes p k))) [] next =
    subst (λ l. IsWordFound (bundle_place sandbox p k) (p.code_base + 16 * k + 4 * w) owed l [] next) bytes
    (subst (λ a. IsWordFound (bundle_place sandbox p k) a owed word [] next) address
    (subst (λ m. IsWordFound (bundle_place sandbox p m) (p.code_base + 4 * n) owed word [] next) same (quiet_found _ _ owed word next q))) in
    let more : AreFoundInWords (bundle_place sandbox p k) f.between (bundle_bytes p k) (suc w) [] next = ([], [], owed, f.own, here, refl) in
    elim (cases_eq w 3) [
      | inl last ↦ record {
        bundles = suc k;
        words = 0;
        number = omega arith;
        few = omega arith;
        between = next;
        before = ([], [], f.between, f.before, subst (λ m. AreFoundInWords (bundle_place sandbox p k) f.between (bundle_bytes p k) (suc m) [] next) last more, refl);
        own = (refl, refl);
      }
      | inr inside ↦ record { bundles = k; words = suc w; number = omega arith; few = omega arith; between = f.between; before = f.before; own = more }
    ]

-- the code's word at the end of what comes before it
word_there : (code before word after : List ℕ) (n : ℕ) → code ≡ before ++ (word ++ after) → length before ≡ 4 * n → length word ≡ 4 → take 4 (drop (4 * n) code) ≡ word
word_there code before word after n e count size =
    ap (λ m. take 4 (drop m code)) (sym count) ∙ ap (λ l. take 4 (drop (length before) l)) e ∙ ap (take 4) (drop-append_seam before (word ++ after))
    ∙ ap (λ m. take m (word ++ after)) (sym size) ∙ take-append_seam word after

all_more : (sandbox : ℕ) (p : Part) (n : ℕ) (owed next : Owed) (before : List ℕ) (words : List (List ℕ)) → p.code ≡ before ++ join words → length before ≡ 4 * n → FoundTo sandbox p n owed → AreQuiet sandbox p n owed words next
    → FoundTo sandbox p (n + length words) next
all_more sandbox p n owed next before [] e count f q =
    let same : n ≡ n + 0 = omega arith in
    subst (λ m. FoundTo sandbox p m next) same (subst (λ o. FoundTo sandbox p n o) (sym q) f)
all_more sandbox p n owed next before (w ∷ words) e count f q =
    let size = q.1.size in
    let there = word_there p.code before w (join words) n e count size in
    let one = one_more sandbox p n owed q.0 w f there q.1 in
    let long = length-append before w in
    let rest = all_more sandbox p (n + 1) q.0 next (before ++ w) words (e ∙ sym (append_assoc before w (join words))) (omega arith) one q.2 in
    subst (λ m. FoundTo sandbox p m next) (let s : n + 1 + length words ≡ n + length (w ∷ words) = omega arith in s) rest

pub length_join : (sandbox : ℕ) (p : Part) (n : ℕ) (owed next : Owed) (words : List (List ℕ)) → AreQuiet sandbox p n owed words next → length (join words) ≡ 4 * length words
length_join sandbox p n owed next [] q = refl
length_join sandbox p n owed next (w ∷ words) q =
    let size = q.1.size in
    let rest = length_join sandbox p (n + 1) q.0 next words q.2 in
    let long = length-append w (join words) in
    omega arith

-- code that is quiet words, whole bundles of them, has no finding
pub quiet_is_clean : (sandbox : ℕ) (p : Part) (count : ℕ) (words : List (List ℕ)) (next : Owed) → p.code ≡ join words → length p.code ≡ 16 * count → AreQuiet sandbox p 0 Nothing words next
    → AreFindingsInWords sandbox p []
quiet_is_clean sandbox p count words next e long q =
    let size = length_join sandbox p 0 Nothing next words q in
    let full = ap length e in
    let f = all_more sandbox p 0 Nothing next [] words e refl (none_yet sandbox p) q in
    let same : f.bundles ≡ count = omega arith in
    (count, f.between, long, subst (λ m. AreFoundOfFirst sandbox p m [] f.between) same f.before)
