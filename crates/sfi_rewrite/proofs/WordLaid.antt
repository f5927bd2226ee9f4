-- What is laid in words, and in either kind of code: that there is one way, and a beginning of the items.
use Rattle.sfi_rewrite.proofs.Prelude.{◌≡◌, ℕ, zero, suc, ◌%◌, ◌≤◌, List, [], ◌∷◌, ◌++◌, length, take, drop, refl, sym, ap, ◌∙◌, subst, arith, append_assoc, take_all, take-take, All, MatchBool, Format, Item, BundleSlot, size_of, IsPermitted, AreFaultless, AreLaidFrom, Bool, true, false, ◌&&◌, Instr, Load, Store, Jalr, Body, Plain, Sfi1, Sfi2, Sfiw, Sfis, take-append-drop, drop_all, AreLaidIn, not, built_code_most, has_words, Marked, marked, in_words, AreExpanded, AreLaidBefore}
use Rattle.sfi_rewrite.specs.words.Expansion.{IsExpansion, before, after, base_of, IsConfined, IsAround, IsExpansionOf, is_step_before_use, is_move, moved}
use Rattle.sfi_rewrite.proofs.Laid.{laid_one_way, alone_one_way, laid_split}
use Rattle.sfi_rewrite.proofs.WordLaying.{words_more, word_aligned}
use Rattle.sfi_formats.specs.Formats.{unit}
use Rattle.sfi_rewrite.specs.Laws.{OneWordExpansion}
use Rattle.sfi_rewrite.proofs.Sizes.{size_of-append}

-- ---- an item has one expansion, before the items after it

confined_one_way : (f : Format) (rvc : Bool) (i : Instr) (a b : List BundleSlot) → IsConfined f rvc i a → IsConfined f rvc i b → a ≡ b
confined_one_way f rvc (Load kind rd rs1 imm) a b x y = alone_one_way rvc (Load kind rd (base_of f rs1) imm) a b x y
confined_one_way f rvc (Store width rs1 rs2 imm) a b x y = alone_one_way rvc (Store width (base_of f rs1) rs2 imm) a b x y
confined_one_way f rvc (Jalr rd rs1 imm) a b x y = x ∙ sym y
confined_one_way f rvc other a b x y = alone_one_way rvc other a b x y

around_one_way : (f : Format) (rvc step : Bool) (i : Instr) (a b : List BundleSlot) → IsAround f rvc step i a → IsAround f rvc step i b → a ≡ b
around_one_way f rvc step i a b (x, confined, is) (y, other, same) =
    is ∙ ap (λ v. before f i ++ (v ++ after f step i)) (confined_one_way f rvc i x y confined other) ∙ sym same

plain_one_way : (f : Format) (moves rvc step : Bool) (i : Instr) (a b : List BundleSlot)
    → MatchBool moves (a ≡ moved f i) (IsAround f rvc step i a) → MatchBool moves (b ≡ moved f i) (IsAround f rvc step i b) → a ≡ b
plain_one_way f true rvc step i a b x y = x ∙ sym y
plain_one_way f false rvc step i a b x y = around_one_way f rvc step i a b x y

expansion_of_one_way : (f : Format) (line : ℕ) (rvc step : Bool) (body : Body) (a b : List BundleSlot) → IsExpansionOf f line rvc step body a → IsExpansionOf f line rvc step body b → a ≡ b
expansion_of_one_way f line rvc step (Plain i) a b x y = plain_one_way f (is_move i && not step) rvc step i a b x y
expansion_of_one_way f line rvc step other a b x y = x ∙ sym y

pub one_word_expansion : OneWordExpansion
one_word_expansion f x later a b h g = expansion_of_one_way f x.line x.rvc (is_step_before_use x later) x.body a b h g

-- ---- one way

pub expanded_one_way : (f : Format) (items later : List Item) (a b : List Marked) → AreExpanded f items later a → AreExpanded f items later b → a ≡ b
expanded_one_way f [] later a b x y = x ∙ sym y
expanded_one_way f (i ∷ items) later a b x y =
    x.3
    ∙ ap (λ v. marked i.labelled v ++ x.1) (one_word_expansion f i (items ++ later) x.0 y.0 x.2 y.2)
    ∙ ap (λ v. marked i.labelled y.0 ++ v) (expanded_one_way f items later x.1 y.1 x.4 y.4)
    ∙ sym y.3

pub words_one_way : (f : Format) (later items : List Item) (a b : List BundleSlot) → AreLaidBefore f items later a → AreLaidBefore f items later b → a ≡ b
words_one_way f later items a b x y = x.2 ∙ ap (λ v. in_words v) (expanded_one_way f items later x.0 y.0 x.1 y.1) ∙ sym y.2

-- ---- the first of the items

-- the slots of some items, and of those after them
pub record Split (f : Format) (items rest later : List Item) (slots : List Marked) : Type 0 where
  pub front : List Marked
  pub back : List Marked
  pub both : slots ≡ front ++ back
  pub before : AreExpanded f items (rest ++ later) front
  pub after : AreExpanded f rest later back

pub expanded_split : (f : Format) (items rest later : List Item) (slots : List Marked) → AreExpanded f (items ++ rest) later slots → Split f items rest later slots
expanded_split f [] rest later slots e = record { front = []; back = slots; both = refl; before = refl; after = e }
expanded_split f (x ∷ items) rest later slots e =
    let s = expanded_split f items rest later e.1 e.4 in
    let first = marked x.labelled e.0 in
    record {
      front = first ++ s.front;
      back = s.back;
      both = e.3 ∙ ap (λ v. first ++ v) s.both ∙ sym (append_assoc first s.front s.back);
      before = (e.0, s.front, subst (λ v. IsExpansion f x v e.0) (append_assoc items rest later) e.2, refl, s.before);
      after = s.after;
    }

pub later_same : (m j : ℕ) (items : List Item) → m ≤ j → drop m (take j items) ++ drop j items ≡ drop m items
later_same zero j items h = take-append-drop j items
later_same (suc m) zero items h = absurd (omega arith)
later_same (suc m) (suc j) [] h = refl
later_same (suc m) (suc j) (x ∷ items) h = later_same m j items (omega arith)

-- the slots of the first m of the first j items
pub first_split : (f : Format) (items : List Item) (m j : ℕ) (slots : List Marked) → m ≤ j → AreExpanded f (take j items) (drop j items) slots
    → Split f (take m items) (drop m (take j items)) (drop j items) slots
first_split f items m j slots h e =
    let parts : take j items ≡ take m items ++ drop m (take j items) = sym (take-append-drop m (take j items)) ∙ ap (λ v. v ++ drop m (take j items)) (take-take m j items h) in
    expanded_split f (take m items) (drop m (take j items)) (drop j items) slots (subst (λ v. AreExpanded f v (drop j items) slots) parts e)

pub laid_aligned : (f : Format) (later items : List Item) (slots : List BundleSlot) → AreLaidBefore f items later slots → size_of slots % 4 ≡ 0
laid_aligned f later items slots l = let e = ap size_of l.2 in let a = word_aligned l.0 in omega arith

-- ---- in words or in bundles

-- a word has 4 bytes
pub word_unit : (f : Format) → has_words f ≡ true → unit f ≡ 4
word_unit Sfi1 h = absurd cc
word_unit Sfi2 h = absurd cc
word_unit Sfiw h = refl
word_unit Sfis h = refl

-- a bundle has 16
pub bundle_unit : (f : Format) → has_words f ≡ false → unit f ≡ 16
bundle_unit Sfi1 h = refl
bundle_unit Sfi2 h = refl
bundle_unit Sfiw h = absurd cc
bundle_unit Sfis h = absurd cc

pub laid_in_one_way : (w : Bool) (f : Format) (items later : List Item) (a b : List BundleSlot) → AreLaidIn w f items later a → AreLaidIn w f items later b → a ≡ b
laid_in_one_way false f items later a b x y = laid_one_way f 0 items a b x y
laid_in_one_way true f items later a b x y = words_one_way f later items a b x y

-- the first m items take no more bytes than the first j
pub first_fits : (w : Bool) (f : Format) (items : List Item) (m j : ℕ) (front slots : List BundleSlot) → m ≤ j
    → AreLaidIn w f (take m items) (drop m items) front → AreLaidIn w f (take j items) (drop j items) slots → size_of front ≤ size_of slots
first_fits false f items m j front slots h x y =
    let s = laid_split f 0 (take j items) m slots y in
    let same = ap size_of (laid_one_way f 0 (take m items) s.front front (subst (λ v. AreLaidFrom f 0 v s.front) (take-take m j items h) s.before) x) in
    let all = ap size_of s.both ∙ size_of-append s.front s.back in
    omega arith
first_fits true f items m j front slots h x y =
    let s = first_split f items m j y.0 h y.1 in
    let before : AreExpanded f (take m items) (drop m items) s.front = subst (λ v. AreExpanded f (take m items) v s.front) (later_same m j items h) s.before in
    let same : front ≡ in_words s.front = words_one_way f (drop m items) (take m items) front (in_words s.front) x (s.front, before, refl) in
    let more = words_more s.front s.back in
    let a = ap size_of same in
    let b = ap size_of (y.2 ∙ ap (λ v. in_words v) s.both) in
    omega arith

-- all the items are the first of them
pub all_first : (w : Bool) (f : Format) (items : List Item) (slots : List BundleSlot) → AreLaidIn w f items [] slots → AreLaidIn w f (take (length items) items) (drop (length items) items) slots
all_first w f items slots l =
    subst (λ v. AreLaidIn w f v (drop (length items) items) slots) (sym (take_all (length items) items (omega arith)))
    (subst (λ v. AreLaidIn w f items v slots) (sym (drop_all (length items) items (omega arith))) l)

pub laid_of : (w : Bool) (f : Format) (items : List Item) (slots : List BundleSlot) → AreFaultless w f (length items) items slots → AreLaidIn w f items [] slots
laid_of w f items slots h =
    subst (λ v. AreLaidIn w f v [] slots) (take_all (length items) items (omega arith))
    (subst (λ v. AreLaidIn w f (take (length items) items) v slots) (drop_all (length items) items (omega arith)) h.laid)

-- what is laid of items without a fault
pub record Fits (f : Format) (items : List Item) (slots : List BundleSlot) : Type 0 where
  pub permitted : All (IsPermitted f) items
  pub fits : size_of slots ≤ built_code_most f

pub all_fit : (w : Bool) (f : Format) (items : List Item) (slots : List BundleSlot) → AreLaidIn w f items [] slots → (all : List BundleSlot) × AreFaultless w f (length items) items all → Fits f items slots
all_fit w f items slots l a =
    let same = ap size_of (laid_in_one_way w f items [] slots a.0 l (laid_of w f items a.0 a.1)) in
    let fits = a.1.fits in
    record { permitted = subst (All (IsPermitted f)) (take_all (length items) items (omega arith)) a.1.permitted; fits = omega arith }
