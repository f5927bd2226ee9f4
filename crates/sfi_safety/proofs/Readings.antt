-- What the samples' bundles are read as, a word of ones too, and what is found.
use Rattle.rv_word.specs.declared.instr.StoreWidth.{StoreWidth}
use Rattle.sfi_safety.specs.Samples.{Sample, sandbox, words_of, bytes_of, code_as}
use Rattle.sfi_safety.proofs.Samples.{InBoth, of_both}
use Rattle.rv_comp.proofs.Facts.{one_spelling, word_spells, spelled_length, spelled_some}
use Rattle.rv_comp.specs.Fronts.{IsShortSpelling}
use Rattle.rv_comp.specs.Table.{row, fields_of, Fields, Bit, is as bit_is, bit_value, number_after}
use Rattle.rv_comp.specs.declared.form.Form16.{Form16}
use Rattle.rv_comp.specs.declared.form.Form16.TheVariants.{CAddi4spn, CLw, CSw, CSlli, CLwsp, CJr, CJalr, CMv, CAdd, CEbreak, CSwsp}
use Rattle.rv_word.specs.declared.length.Length.TheVariants.{Wide, Longer}
use Rattle.std.specs.Int.{w16, from_le_bytes}
use Rattle.std.proofs.Common.{take-append-drop}
use Rattle.rv_word.proofs.Facts.{spellings_are_wide}
use Rattle.sfi_safety.proofs.Prelude.{Format, Sfi1, Sfi2, Sfiw, Sfis, Gate, is_gate_of, ◌≡◌, ℕ, suc, ◌+◌, ◌-◌, ◌*◌, ◌≤◌, List, [], ◌∷◌, ◌++◌, length, take, drop, true, false, refl, sym, ap, ◌∙◌, subst, inr, arith, get_or-take, false≢true, append-nil, Instr, Ebreak, spelling, InRange, Spells, OpImm, BundlePlace, Finding, bundle_place, bundle_bytes, Piece, IsReading, IsLongestReading, rest_of, is_empty, findings_from, rest_finding, AreBundleFindings, AreFindingsOfFirst, AreFindingsInBundles, Op, Store, pos, nat_lt, ◌&&◌, and_parts, ltb-true, ints, Ecall, Jalr, has_words, filter, breaks, all_rules, Addi, RegOp, Rule, w32, to_le_bytes, length-take, ◌<◌, inl, IsWordOf}

-- ==== What the samples' bundles are read as, and the findings of a sample.

-- nothing is spelled by no bytes
none_spelled : (bytes : List ℕ) (y : Piece) → bytes ≡ [] → Spells (take y.size bytes) y.instr y.size → ⊥
none_spelled bytes y e s =
    let some = spelled_some (take y.size bytes) y.instr y.size s in
    let long = spelled_length (take y.size bytes) y.instr y.size s in
    let short : length (take y.size bytes) ≡ length (take y.size []) = ap (λ (l : List ℕ). length (take y.size l)) e in
    let none = length-take {A = ℕ} y.size [] in
    omega (arith, some, long, short, none)

-- no instruction's bytes begin these
abbrev pub BeginsNothing : List ℕ → Type 0
BeginsNothing bytes = (y : Piece) → Spells (take y.size bytes) y.instr y.size → ⊥

pub nothing_begins : (bytes : List ℕ) → bytes ≡ [] → BeginsNothing bytes
nothing_begins bytes e = λ y s. none_spelled bytes y e s

-- no reading has more pieces than one after which no instruction begins
most : (bytes : List ℕ) (xs ys : List Piece) → IsReading bytes xs → BeginsNothing (rest_of bytes xs) → IsReading bytes ys → length ys ≤ length xs
most bytes [] [] a end b = omega arith
most bytes [] (y ∷ ys) a end b = absurd (end y b.0)
most bytes (x ∷ xs) [] a end b = omega arith
most bytes (x ∷ xs) (y ∷ ys) a end b =
    let e = one_spelling (take x.size bytes) (take y.size bytes) x.instr y.instr x.size y.size a.0 b.0 (λ k h g. get_or-take x.size bytes k 0 h ∙ sym (get_or-take y.size bytes k 0 g)) in
    let rest = most (drop x.size bytes) xs ys a.1 end (subst (λ (n : ℕ). IsReading (drop n bytes) ys) (sym e.1) b.1) in
    omega (arith, rest)

-- a reading after which no instruction begins is the longest
pub longest_of : (bytes : List ℕ) (reading : List Piece) → IsReading bytes reading → BeginsNothing (rest_of bytes reading) → IsLongestReading bytes reading
longest_of bytes reading is end = record { is_reading = is; longest = λ other h. most bytes reading other is end h }

-- a bundle that is no gate's has the findings of its reading and of what that leaves
pub read_bundle : (b : BundlePlace) (bytes : List ℕ) (reading : List Piece) (rest : List ℕ) (found : List Finding) → b.listed ≡ false → IsReading bytes reading → rest_of bytes reading ≡ rest → BeginsNothing rest
    → findings_from b (is_empty rest) b.address [] reading ++ rest_finding b (b.address + (length bytes - length rest)) rest ≡ found → AreBundleFindings b bytes found
read_bundle b bytes reading rest found unlisted is left end e = inr (
  (λ listed. absurd (false≢true (sym unlisted ∙ listed))),
  record {
    reading = reading;
    longest = longest_of bytes reading is (subst BeginsNothing (sym left) end);
    found_is = sym (subst (λ (rest : List ℕ). findings_from b (is_empty rest) b.address [] reading ++ rest_finding b (b.address + (length bytes - length rest)) rest ≡ found) (sym left) e);
  },
)

-- ---- in either format whose code is in bundles

-- this is found in the bundle of that number, by its reading and what that leaves, in that format
abbrev pub FoundIn : Sample → ℕ → List Piece → List ℕ → List Finding → Format → Type 0
FoundIn s n reading rest found f =
    let b = bundle_place 0 (sandbox (record s { format = f })) n in
    findings_from b (is_empty rest) b.address [] reading ++ rest_finding b (b.address + (length (bundle_bytes (sandbox s) n) - length rest)) rest ≡ found

pub read_in_both : (s : Sample) (n : ℕ) (reading : List Piece) (rest : List ℕ) (found : List Finding) → has_words s.format ≡ false → (bundle_place 0 (sandbox s) n).listed ≡ false
    → IsReading (bundle_bytes (sandbox s) n) reading → rest_of (bundle_bytes (sandbox s) n) reading ≡ rest → BeginsNothing rest → InBoth (FoundIn s n reading rest found) → AreBundleFindings (bundle_place 0 (sandbox s) n) (bundle_bytes (sandbox s) n) found
read_in_both s n reading rest found bundles unlisted is left end each =
    read_bundle (bundle_place 0 (sandbox s) n) (bundle_bytes (sandbox s) n) reading rest found unlisted is left end (of_both (FoundIn s n reading rest found) each s.format bundles)

-- of the rules this alone is broken in it, after the instructions earlier, in that format
abbrev pub BrokenIn : Sample → ℕ → List Piece → Rule → ℕ → List Instr → Instr → List Piece → Format → Type 0
BrokenIn s n reading rule address earlier i later f =
    filter (λ r. breaks (record {
      bundle = bundle_place 0 (sandbox (record s { format = f })) n;
      address = address;
      earlier = earlier;
      instr = i;
      later = later;
      whole = is_empty (rest_of (bundle_bytes (sandbox s) n) reading);
    }) r) all_rules ≡ rule ∷ []

-- ---- bundles of four words

-- the word of an instruction spells it
abbrev pub IsSpelled : Instr → Type 0
IsSpelled i = Spells (to_le_bytes w32 (spelling i)) i 4

pub op_spelled : (op : RegOp) (rd a b : ℕ) → (nat_lt rd 32 && (nat_lt a 32 && nat_lt b 32)) ≡ true → IsSpelled (Op op rd a b)
unfolding InRange
op_spelled op rd a b e =
    let x = and_parts (nat_lt rd 32) (nat_lt a 32 && nat_lt b 32) e in
    let y = and_parts (nat_lt a 32) (nat_lt b 32) x.1 in
    word_spells (Op op rd a b) (ltb-true rd 32 x.0, ltb-true a 32 y.0, ltb-true b 32 y.1)

pub store_spelled : (width : StoreWidth) (a b : ℕ) → (nat_lt a 32 && nat_lt b 32) ≡ true → IsSpelled (Store width a b (pos 0))
unfolding InRange
store_spelled width a b e = let x = and_parts (nat_lt a 32) (nat_lt b 32) e in word_spells (Store width a b (pos 0)) (ltb-true a 32 x.0, ltb-true b 32 x.1, (omega (arith, ints), omega (arith, ints)))

pub addi_x2 : IsSpelled (OpImm Addi 2 0 (pos 0))
unfolding InRange
addi_x2 = word_spells (OpImm Addi 2 0 (pos 0)) (omega arith, omega arith, (omega (arith, ints), omega (arith, ints)))

pub ebreak_spelled : IsSpelled Ebreak
unfolding InRange
ebreak_spelled = word_spells Ebreak tt

pub ecall_spelled : IsSpelled Ecall
unfolding InRange
ecall_spelled = word_spells Ecall tt

pub jalr_past : IsSpelled (Jalr 0 31 (pos 16))
unfolding InRange
jalr_past = word_spells (Jalr 0 31 (pos 16)) (omega arith, omega arith, (omega (arith, ints), omega (arith, ints)))

abbrev pub four : Instr → Instr → Instr → Instr → List Piece
four a b c d =
    record { instr = a; size = 4 } ∷ record { instr = b; size = 4 } ∷ record { instr = c; size = 4 } ∷ record { instr = d; size = 4 } ∷ []

pub four_words : (place : BundlePlace) (bytes : List ℕ) (a b c d : Instr) (found : List Finding) → place.listed ≡ false → bytes_of (words_of (a ∷ b ∷ c ∷ d ∷ [])) ≡ bytes
    → IsSpelled a → IsSpelled b → IsSpelled c → IsSpelled d → findings_from place true place.address [] (four a b c d) ≡ found → AreBundleFindings place bytes found
four_words place bytes a b c d found unlisted is sa sb sc sd e =
    subst (λ (l : List ℕ). AreBundleFindings place l found) is
    (read_bundle place (bytes_of (words_of (a ∷ b ∷ c ∷ d ∷ []))) (four a b c d) [] found unlisted (sa, (sb, (sc, (sd, tt)))) refl (nothing_begins [] refl) (append-nil (findings_from place true place.address [] (four a b c d)) ∙ e))

-- a bundle of the words of four instructions is read as these four
pub four_longest : (bytes : List ℕ) (a b c d : Instr) → bytes_of (words_of (a ∷ b ∷ c ∷ d ∷ [])) ≡ bytes → IsSpelled a → IsSpelled b → IsSpelled c → IsSpelled d → IsLongestReading bytes (four a b c d)
four_longest bytes a b c d is sa sb sc sd =
    subst (λ (l : List ℕ). IsLongestReading l (four a b c d)) is
    (longest_of (bytes_of (words_of (a ∷ b ∷ c ∷ d ∷ []))) (four a b c d) (sa, (sb, (sc, (sd, tt)))) (nothing_begins [] refl))

abbrev pub wide : Instr → Piece
wide i = record { instr = i; size = 4 }

-- ---- samples

module _ (format : Format) (gates : List Gate) (a b c d e f g h i j k l : ℕ) (unlisted : (n : ℕ) → is_gate_of gates (0x01000000 + 16 * suc n) ≡ false) where
  abbrev s : Sample
  s = record { format = format; gates = gates; first_words = a ∷ b ∷ c ∷ d ∷ e ∷ f ∷ g ∷ h ∷ []; last_words = i ∷ j ∷ k ∷ l ∷ [] }

  -- a bundle of ebreaks there has no finding
  abbrev IsQuiet : ℕ → Format → Type 0
  IsQuiet n x = findings_from (bundle_place 0 (sandbox (record s { format = x })) n) true (0x01000000 + 16 * n) [] (four Ebreak Ebreak Ebreak Ebreak) ≡ []

  in_each : (n : ℕ) (x : Format) → IsQuiet n Sfi1 → IsQuiet n Sfi2 → IsQuiet n Sfiw → IsQuiet n x
  in_each n Sfi1 one two three = one
  in_each n Sfi2 one two three = two
  in_each n Sfiw one two three = three
  in_each n Sfis one two three = three

  pub quiet : (n : ℕ) → bytes_of (words_of (Ebreak ∷ Ebreak ∷ Ebreak ∷ Ebreak ∷ [])) ≡ bundle_bytes (sandbox s) (suc n) → IsQuiet (suc n) Sfi1 → IsQuiet (suc n) Sfi2 → IsQuiet (suc n) Sfiw
      → AreBundleFindings (bundle_place 0 (sandbox s) (suc n)) (bundle_bytes (sandbox s) (suc n)) []
  quiet n bytes one two three =
      four_words (bundle_place 0 (sandbox s) (suc n)) (bundle_bytes (sandbox s) (suc n)) Ebreak Ebreak Ebreak Ebreak [] (unlisted n) bytes ebreak_spelled ebreak_spelled ebreak_spelled ebreak_spelled (in_each (suc n) format one two three)

  -- one bundle of ebreaks more
  more : (n : ℕ) (found : List Finding) → bytes_of (words_of (Ebreak ∷ Ebreak ∷ Ebreak ∷ Ebreak ∷ [])) ≡ bundle_bytes (sandbox s) (suc n) → IsQuiet (suc n) Sfi1 → IsQuiet (suc n) Sfi2 → IsQuiet (suc n) Sfiw
      → AreFindingsOfFirst 0 (sandbox s) (suc n) found → AreFindingsOfFirst 0 (sandbox s) (suc (suc n)) found
  more n found bytes one two three before = (found, [], before, quiet n bytes one two three, sym (append-nil found))

  -- the findings of a sample are those of its first two bundles and of its last one
  pub all_findings : (x y z : List Finding) → AreBundleFindings (bundle_place 0 (sandbox s) 0) (bundle_bytes (sandbox s) 0) x → AreBundleFindings (bundle_place 0 (sandbox s) 1) (bundle_bytes (sandbox s) 1) y
      → AreBundleFindings (bundle_place 0 (sandbox s) 15) (bundle_bytes (sandbox s) 15) z → AreFindingsInBundles 0 (sandbox s) ((x ++ y) ++ z)
  all_findings x y z first second last =
      let at2 : AreFindingsOfFirst 0 (sandbox s) 2 (x ++ y) = (x, y, ([], x, refl, first, refl), second, refl) in
      let at4 = more 2 (x ++ y) refl refl refl refl (more 1 (x ++ y) refl refl refl refl at2) in
      let at8 = more 6 (x ++ y) refl refl refl refl (more 5 (x ++ y) refl refl refl refl (more 4 (x ++ y) refl refl refl refl (more 3 (x ++ y) refl refl refl refl at4))) in
      let at12 = more 10 (x ++ y) refl refl refl refl (more 9 (x ++ y) refl refl refl refl (more 8 (x ++ y) refl refl refl refl (more 7 (x ++ y) refl refl refl refl at8))) in
      let at15 = more 13 (x ++ y) refl refl refl refl (more 12 (x ++ y) refl refl refl refl (more 11 (x ++ y) refl refl refl refl at12)) in
      (16, refl, (x ++ y, z, at15, last, refl))

pub none_listed : (n : ℕ) → is_gate_of [] (0x01000000 + 16 * suc n) ≡ false
none_listed n = refl

-- where it is 8 instructions and then ebreaks, they are those of the two bundles of the 8
module _ (format : Format) (a b c d e f g h : Instr) where
  abbrev is : Sample
  is = code_as format (a ∷ b ∷ c ∷ d ∷ e ∷ f ∷ g ∷ h ∷ [])

  pub code_findings : (x y : List Finding) → IsSpelled a → IsSpelled b → IsSpelled c → IsSpelled d → IsSpelled e → IsSpelled f → IsSpelled g → IsSpelled h
      → findings_from (bundle_place 0 (sandbox is) 0) true 0x01000000 [] (four a b c d) ≡ x → findings_from (bundle_place 0 (sandbox is) 1) true 0x01000010 [] (four e f g h) ≡ y → AreFindingsInBundles 0 (sandbox is) (x ++ y)
  code_findings x y sa sb sc sd se sf sg sh first second =
      let last = spelling Ebreak in
      subst (AreFindingsInBundles 0 (sandbox is)) (append-nil (x ++ y))
      (all_findings format [] (spelling a) (spelling b) (spelling c) (spelling d) (spelling e) (spelling f) (spelling g) (spelling h) last last last last none_listed x y []
      (four_words (bundle_place 0 (sandbox is) 0) (bundle_bytes (sandbox is) 0) a b c d x refl refl sa sb sc sd first)
      (four_words (bundle_place 0 (sandbox is) 1) (bundle_bytes (sandbox is) 1) e f g h y refl refl se sf sg sh second)
      (quiet format [] (spelling a) (spelling b) (spelling c) (spelling d) (spelling e) (spelling f) (spelling g) (spelling h) last last last last none_listed 14 refl refl refl refl))

  -- the first bundle's, or the second's, in that format
  abbrev First : List Finding → Format → Type 0
  First x u = findings_from (bundle_place 0 (sandbox (record is { format = u })) 0) true 0x01000000 [] (four a b c d) ≡ x

  abbrev Second : List Finding → Format → Type 0
  Second y u = findings_from (bundle_place 0 (sandbox (record is { format = u })) 1) true 0x01000010 [] (four e f g h) ≡ y

  -- in either format whose code is in bundles
  pub found_in_both : has_words format ≡ false → (x y : List Finding) → IsSpelled a → IsSpelled b → IsSpelled c → IsSpelled d → IsSpelled e → IsSpelled f → IsSpelled g → IsSpelled h
      → InBoth (First x) → InBoth (Second y) → AreFindingsInBundles 0 (sandbox is) (x ++ y)
  found_in_both bundles x y sa sb sc sd se sf sg sh first second =
      code_findings x y sa sb sc sd se sf sg sh (of_both (First x) first format bundles) (of_both (Second y) second format bundles)

-- ==== A word of ones spells no instruction, nor does its first halfword.

-- a row's last two bits, which are not both 1
record Ending (f : Form16) : Type 0 where
  high : ℕ
  low : ℕ
  ends : drop 14 (row f) ≡ bit_is high ∷ bit_is low ∷ []
  less : 2 * high + low < 3

ending : (f : Form16) → Ending f
ending (CAddi4spn d i) = record { high = 0; low = 0; ends = refl; less = omega arith }
ending (CLw d s i) = record { high = 0; low = 0; ends = refl; less = omega arith }
ending (CSw s t i) = record { high = 0; low = 0; ends = refl; less = omega arith }
ending (CSlli d i) = record { high = 1; low = 0; ends = refl; less = omega arith }
ending (CLwsp d i) = record { high = 1; low = 0; ends = refl; less = omega arith }
ending (CJr s) = record { high = 1; low = 0; ends = refl; less = omega arith }
ending (CJalr s) = record { high = 1; low = 0; ends = refl; less = omega arith }
ending (CMv d t) = record { high = 1; low = 0; ends = refl; less = omega arith }
ending (CAdd d t) = record { high = 1; low = 0; ends = refl; less = omega arith }
ending CEbreak = record { high = 1; low = 0; ends = refl; less = omega arith }
ending (CSwsp t i) = record { high = 1; low = 0; ends = refl; less = omega arith }
ending _ = record { high = 0; low = 1; ends = refl; less = omega arith }

last_two : (n : ℕ) (v : Fields) (bs : List Bit) (high low : ℕ) → number_after n v (bs ++ (bit_is high ∷ bit_is low ∷ [])) ≡ 2 * (2 * number_after n v bs + high) + low
last_two n v [] high low = refl
last_two n v (b ∷ bs) high low = last_two (2 * n + bit_value v b) v bs high low

halfword_of_ones : (i : Instr) → IsShortSpelling 0xffff i → ⊥
halfword_of_ones i s =
    let f = s.form in
    let end = ending f in
    let whole : take 14 (row f) ++ (bit_is end.high ∷ bit_is end.low ∷ []) ≡ row f = ap (λ (bs : List Bit). take 14 (row f) ++ bs) (sym end.ends) ∙ take-append-drop 14 (row f) in
    let number = s.gives.spelled ∙ ap (number_after 0 (fields_of f)) (sym whole) ∙ last_two 0 (fields_of f) (take 14 (row f)) end.high end.low in
    let less = end.less in
    omega (arith, number, less)

word_of_ones : (i : Instr) → IsWordOf 0xffffffff i → ⊥
word_of_ones i s = let wide : Longer ≡ Wide = (spellings_are_wide 0xffffffff i s).1 in cc

pub ones_begin_nothing : (rest : List ℕ) → BeginsNothing (255 ∷ 255 ∷ 255 ∷ 255 ∷ rest)
ones_begin_nothing rest y (inl s) = halfword_of_ones y.instr (subst (λ (n : ℕ). IsShortSpelling (from_le_bytes w16 (take n (255 ∷ 255 ∷ 255 ∷ 255 ∷ rest))) y.instr) s.size s.spelled)
ones_begin_nothing rest y (inr s) = word_of_ones y.instr (subst (λ (n : ℕ). IsWordOf (from_le_bytes w32 (take n (255 ∷ 255 ∷ 255 ∷ 255 ∷ rest))) y.instr) s.size s.spelled)
