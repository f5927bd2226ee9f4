-- Each token is what a part of a statement asks for, or isn't.
use Rattle.sfi_text.proofs.Prelude.{◌≡◌, ℕ, Bool, true, false, List, [], ◌∷◌, length, take, drop, ◌⊎◌, inl, inr, refl, sym, ap, ◌∙◌, subst, arith, ℤ, pos, negsuc, codes, ◌≤ℤ◌, cases_lt, cases_eq, false≢true, bytes_eq, bytes_eq-Decides, ints, modulo, IsBetween, IsDataSize, NumberKind, BranchOffset, JumpOffset, DataSize, OperandPart, Rd, Rs1, Rs2, Number, Name, Mode, ImageFormat, Comma, Open, Close, Keyword, IsBlank, is_mark, IsMark, IsNumber, IsToken, Takes, IsStuck, begins_name, IsName, begins_label, IsLabel, IsNumberOf, keyword_name, OperandValues, Stands, SaysFormat, mode_name, body_of, token_len, operands}
use Rattle.sfi_text.specs.private.Reading.{candidate, IsInReach}
use Rattle.sfi_formats.specs.Limits.{source_data_most}
use Rattle.sfi_formats.specs.declared.format.Format.{Format}
use Rattle.sfi_formats.specs.declared.format.Format.TheVariants.{Sfi1, Sfi2, Sfiw, Sfis}
use Rattle.std.specs.Int.{is_power_of_two}
use Rattle.sfi_text.proofs.NameTables.{none_of_other, register_or_not}
use Rattle.sfi_text.proofs.Decided.{Decided, decided_both, decided_le, decided_bit, decided_same}
use Rattle.sfi_text.proofs.Lexing.{digit_first, digit_begins_no_name, mark_begins_no_name}
use Rattle.sfi_text.proofs.Numbers.{number_unique, power_test}
use Rattle.sfi_text.proofs.Taking.{takes_found, body_blank, stuck}

decided_between : (low high z : ℤ) → Decided (IsBetween low high z)
decided_between low high z = decided_both (le low z) (le z high)
  where
    le : (a b : ℤ) → Decided (a ≤ℤ b)
    le (pos m) (pos n) = elim (cases_lt n m) [ inl more ↦ inr (λ h. omega (arith, ints)) | inr less ↦ inl (omega (arith, ints)) ]
    le (pos m) (negsuc n) = inr (λ h. omega (arith, ints))
    le (negsuc m) (pos n) = inl (omega (arith, ints))
    le (negsuc m) (negsuc n) = elim (cases_lt m n) [ inl more ↦ inr (λ h. omega (arith, ints)) | inr less ↦ inl (omega (arith, ints)) ]

-- ---- the front of a text

pub next : (text : List ℕ) → ((token : List ℕ) × (rest : List ℕ) × Takes text token rest) ⊎ (IsBlank text ⊎ IsStuck text)
next text =
    let body = body_of text in
    elim (cases_lt 0 (token_len body)) [
      | inl some ↦ inl (take (token_len body) body, drop (token_len body) body, takes_found text (take (token_len body) body) (drop (token_len body) body) some refl refl)
      | inr none ↦ elim (cases_lt 0 (length body)) [
        | inl more ↦ inr (inr (stuck text (omega arith) more))
        | inr empty ↦ inr (inl (body_blank text (omega arith)))
      ]
    ]

-- ---- names

pub number_no_name : (text : List ℕ) (z : ℤ) → IsNumber text z → IsName text → ⊥
number_no_name [] z h name = name
number_no_name (c ∷ cs) z (inl (n, h, e)) name = false≢true (sym (digit_begins_no_name c (digit_first c cs n h)).0 ∙ name.0)
number_no_name (c ∷ cs) z (inr (n, ds, e, h, v)) name = let first : c ≡ 45 = cc in false≢true (subst (λ x. begins_name x ≡ true) first name.0)

mark_no_name : (text : List ℕ) → IsMark text → IsName text → ⊥
mark_no_name [] m name = name
mark_no_name (c ∷ cs) (d, mark, e) name = let same : c ≡ d = cc in false≢true (sym (mark_begins_no_name d mark) ∙ subst (λ x. begins_name x ≡ true) same name.0)

mark_no_number : (text : List ℕ) (z : ℤ) → IsMark text → IsNumber text z → ⊥
mark_no_number [] z (d, mark, e) h = cc
mark_no_number (c ∷ cs) z (d, mark, e) (inl (n, h, v)) =
    let same : d ≡ c = cc in false≢true (sym (digit_begins_no_name c (digit_first c cs n h)).1 ∙ subst (λ x. is_mark x ≡ true) same mark)
mark_no_number (c ∷ cs) z (d, mark, e) (inr (n, ds, f, h, v)) = let first : d ≡ 45 = cc in false≢true (subst (λ x. is_mark x ≡ true) first mark)

pub name_or_not : (token : List ℕ) → IsToken token → Decided (IsName token)
name_or_not token (inl name) = inl name
name_or_not token (inr (inl (z, number))) = inr (number_no_name token z number)
name_or_not token (inr (inr mark)) = inr (mark_no_name token mark)

pub label_or_not : (token : List ℕ) → IsToken token → Decided (IsLabel token)
label_or_not token is_token = decided_both (name_or_not token is_token) (decided_bit (begins_label token) true)

pub keyword_or_not : (text : List ℕ) → ((k : Keyword) × (keyword_name k ≡ text)) ⊎ ((k : Keyword) → keyword_name k ≡ text → ⊥)
keyword_or_not text =
    elim (decided_same (keyword_name (candidate text)) text) [
      | inl named ↦ inl (candidate text, named)
      | inr other ↦ inr (none_of_other text (candidate text) refl other)
    ]

-- ---- numbers

number_or_not : (token : List ℕ) → IsToken token → ((z : ℤ) × IsNumber token z) ⊎ ((z : ℤ) → IsNumber token z → ⊥)
number_or_not token (inl name) = inr (λ z h. number_no_name token z h name)
number_or_not token (inr (inl number)) = inl number
number_or_not token (inr (inr mark)) = inr (λ z h. mark_no_number token z mark h)

size_or_not : (n : ℕ) → Decided (IsDataSize n)
size_or_not n =
    let test = power_test (is_power_of_two n) n refl in
    elim (decided_both (decided_both (decided_le 256 n) (decided_le n source_data_most)) (decided_bit (is_power_of_two n) true)) [
      | inl h ↦ let power = test.0 h.1 in inl (record { power = power.0; size_is = power.1; at_least = h.0.0; at_most = h.0.1 })
      | inr not ↦ inr (λ s. not ((s.at_least, s.at_most), test.1 (s.power, s.size_is)))
    ]

data_size_or_not : (z : ℤ) → Decided ((size : ℕ) × (z ≡ pos size) × IsDataSize size)
data_size_or_not (negsuc n) = inr (λ h. let e = h.1 in cc)
data_size_or_not (pos n) =
    elim (size_or_not n) [
      | inl is ↦ inl (n, refl, is)
      | inr not ↦ inr (λ h. let e = h.1 in let same : h.0 ≡ n = cc in not (subst IsDataSize same h.2))
    ]

kind_or_not : (kind : NumberKind) (z : ℤ) → Decided (IsNumberOf kind z)
kind_or_not BranchOffset z = decided_both (decided_between _ _ z) (cases_eq (modulo 1 z) 0)
kind_or_not JumpOffset z = decided_both (decided_between _ _ z) (cases_eq (modulo 1 z) 0)
kind_or_not DataSize z = data_size_or_not z
kind_or_not _ z = decided_between _ _ z

-- the token writes a number of this kind
pub written_or_not : (kind : NumberKind) (token : List ℕ) → IsToken token → ((z : ℤ) × (IsNumber token z × IsNumberOf kind z)) ⊎ ((z : ℤ) → IsNumber token z → IsNumberOf kind z → ⊥)
written_or_not kind token is_token =
    elim (number_or_not token is_token) [
      | inr none ↦ inr (λ z h k. none z h)
      | inl found ↦ elim (kind_or_not kind found.0) [
        | inl of ↦ inl (found.0, (found.1, of))
        | inr other ↦ inr (λ z h k. other (subst (IsNumberOf kind) (number_unique token z found.0 h found.1) k))
      ]
    ]

-- ---- parts

abbrev StandsOrNot : OperandPart → List ℕ → Type 0
StandsOrNot part token = ((o : OperandValues) × Stands o part token) ⊎ ((o : OperandValues) → Stands o part token → ⊥)

no_mode : (token : List ℕ) → (token ≡ mode_name true → ⊥) → (token ≡ mode_name false → ⊥) → (rvc : Bool) → token ≡ mode_name rvc → ⊥
no_mode token rvc norvc true is = rvc is
no_mode token rvc norvc false is = norvc is

mode_or_not : (token : List ℕ) → StandsOrNot Mode token
mode_or_not token =
    elim (decided_same token (mode_name true)) [
      | inl rvc ↦ inl (record (operands 0 0 0 (pos 0)) { compressed = true }, rvc)
      | inr not_rvc ↦ elim (decided_same token (mode_name false)) [
        | inl norvc ↦ inl (operands 0 0 0 (pos 0), norvc)
        | inr not_norvc ↦ inr (λ o. no_mode token not_rvc not_norvc o.compressed)
      ]
    ]

no_format : (token : List ℕ) → (token ≡ codes "words" → ⊥) → (token ≡ codes "single" → ⊥) → (IsNumber token (pos 1) → ⊥) → (IsNumber token (pos 2) → ⊥) → (f : Format) → SaysFormat token f → ⊥
no_format token words single one two Sfi1 h = one h
no_format token words single one two Sfi2 h = two h
no_format token words single one two Sfiw h = words h
no_format token words single one two Sfis h = single h

pub none_says : (token : List ℕ) → false ≡ bytes_eq token (codes "words") → false ≡ bytes_eq token (codes "single") → ((z : ℤ) → IsNumber token z → IsInReach z → ⊥) → (f : Format) → SaysFormat token f → ⊥
none_says token words single none f h =
    no_format token (λ is. false≢true (words ∙ (bytes_eq-Decides token (codes "words")).1 is)) (λ is. false≢true (single ∙ (bytes_eq-Decides token (codes "single")).1 is)) (λ is. none (pos 1) is (omega (arith, ints), omega (arith, ints))) (λ is. none (pos 2) is (omega (arith, ints), omega (arith, ints))) f h

integer_or_not : (z : ℤ) (n : ℕ) → Decided (z ≡ pos n)
integer_or_not (pos m) n = elim (cases_eq m n) [ inl e ↦ inl (ap pos e) | inr not ↦ inr (λ h. let e = h in not cc) ]
integer_or_not (negsuc m) n = inr (λ h. let e = h in cc)

is_or_not : (token : List ℕ) → IsToken token → (n : ℕ) → Decided (IsNumber token (pos n))
is_or_not token is_token n =
    elim (number_or_not token is_token) [
      | inr none ↦ inr (none (pos n))
      | inl found ↦ elim (integer_or_not found.0 n) [
        | inl same ↦ inl (subst (IsNumber token) same found.1)
        | inr differs ↦ inr (λ h. differs (number_unique token found.0 (pos n) found.1 h))
      ]
    ]

format_or_not : (token : List ℕ) → IsToken token → StandsOrNot ImageFormat token
format_or_not token is_token =
    elim (decided_same token (codes "words")) [
      | inl words ↦ inl (record (operands 0 0 0 (pos 0)) { format = Sfiw }, words)
      | inr no_words ↦ elim (decided_same token (codes "single")) [
        | inl single ↦ inl (record (operands 0 0 0 (pos 0)) { format = Sfis }, single)
        | inr no_single ↦ elim (is_or_not token is_token 1) [
          | inl one ↦ inl (record (operands 0 0 0 (pos 0)) { format = Sfi1 }, one)
          | inr no_one ↦ elim (is_or_not token is_token 2) [
            | inl two ↦ inl (record (operands 0 0 0 (pos 0)) { format = Sfi2 }, two)
            | inr no_two ↦ inr (λ o. no_format token no_words no_single no_one no_two o.format)
          ]
        ]
      ]
    ]

text_or_not : (text token : List ℕ) → ((o : OperandValues) × (token ≡ text)) ⊎ ((o : OperandValues) → token ≡ text → ⊥)
text_or_not text token = elim (decided_same token text) [ inl is ↦ inl (operands 0 0 0 (pos 0), is) | inr not ↦ inr (λ o h. not h) ]

pub stands_or_not : (part : OperandPart) (token : List ℕ) → IsToken token → StandsOrNot part token
stands_or_not Rd token is_token =
    elim (register_or_not token) [
      | inl found ↦ inl (operands found.0 0 0 (pos 0), found.1)
      | inr none ↦ inr (λ o. none o.rd)
    ]
stands_or_not Rs1 token is_token =
    elim (register_or_not token) [
      | inl found ↦ inl (operands 0 found.0 0 (pos 0), found.1)
      | inr none ↦ inr (λ o. none o.rs1)
    ]
stands_or_not Rs2 token is_token =
    elim (register_or_not token) [
      | inl found ↦ inl (operands 0 0 found.0 (pos 0), found.1)
      | inr none ↦ inr (λ o. none o.rs2)
    ]
stands_or_not (Number kind) token is_token =
    elim (written_or_not kind token is_token) [
      | inl found ↦ inl (operands 0 0 0 found.0, found.1)
      | inr none ↦ inr (λ o h. none o.number h.0 h.1)
    ]
stands_or_not Name token is_token =
    elim (decided_both (label_or_not token is_token) (decided_le (length token) 64)) [
      | inl is ↦ inl (record (operands 0 0 0 (pos 0)) { name = token }, (is.0, is.1, refl))
      | inr not ↦ inr (λ o h. not (h.0, h.1))
    ]
stands_or_not Mode token is_token = mode_or_not token
stands_or_not ImageFormat token is_token = format_or_not token is_token
stands_or_not Comma token is_token = text_or_not (codes ",") token
stands_or_not Open token is_token = text_or_not (codes "(") token
stands_or_not Close token is_token = text_or_not (codes ")") token
