-- The table of the forms: rows that differ, each halfword, and the rows that the code has.
use Rattle.rv_comp.specs.Table.{Fields}
use Rattle.rv_comp.specs.mirror.{row_of, jump, jump_or_stop, outlined}
use Rattle.rv_word.specs.Outlines.{outline}
use Rattle.rv_word.specs.declared.outline.Outline.{Outline}
use Rattle.rv_word.specs.declared.outline.Outline.TheVariants.{Computes, Loads, Stores, Branches, Jumps, JumpsTo, Stops}
use Rattle.std.specs.Option.{option_map}
use Rattle.rv_comp.specs.declared.encode.rows.TheConstants.{ROWS}
use Rattle.std.proofs.Math.Nat.{pow-suc}
use Rattle.std.proofs.Math.Pow.{pow_mono}
use Rattle.std.proofs.Math.Seq.{drop-cons, drop-length}
use Rattle.rv_comp.specs.declared.encode.FormFields.{FormFields as CodedFields}
use Rattle.rv_comp.specs.Table as table
use Rattle.rv_comp.specs.declared.encode.rows.Bit as coded
use Rattle.rv_comp.proofs.Prelude.{◌≡◌, ℕ, Bool, true, false, cond, ◌&&◌, eqb, refl, ap, ap₂, sym, ◌∙◌, pos, negsuc, ℤ, eqb-true, and_parts, fields_of, place, Form16, CAddi4spn, CLw, CSw, CAddi, CJal, CLi, CAddi16sp, CLui, CSrli, CSrai, CAndi, CSub, CXor, COr, CAnd, CJ, CBeqz, CBnez, CSlli, CLwsp, CJr, CJalr, CMv, CAdd, CEbreak, CSwsp, ◌+◌, ◌-◌, ◌^◌, ◌<◌, ◌==◌, arith, inl, inr, Option, Some, None, agree_below, agree_below_at, cases_lt, halfword_of, allowed, expansion, decoded, quadrant0, quadrant1, quadrant2, arithmetic, upper, jump_or_move, extended, word_offset, six, jump_offset, branch_offset, stack_step, stack_address, load_offset, store_offset, ◌*◌, subst, List, ◌∷◌, ◌≤◌, map, drop, suc, slice_index_or, length, row, row_bit, row_fields, row_number, is_low, AreLow}

-- ==== Two forms with one row and the same fields are one form.

-- the form of the row at this place with these fields
abbrev pub form : ℕ → Fields → Form16
form p v =
    cond (eqb p 0) (CAddi4spn v.rd v.imm) (
    cond (eqb p 1) (CLw v.rd v.rs1 v.imm) (
    cond (eqb p 2) (CSw v.rs1 v.rs2 v.imm) (
    cond (eqb p 3) (CAddi v.rd v.imm) (
    cond (eqb p 4) (CJal v.imm) (
    cond (eqb p 5) (CLi v.rd v.imm) (
    cond (eqb p 6) (CAddi16sp v.imm) (
    cond (eqb p 7) (CLui v.rd v.imm) (
    cond (eqb p 8) (CSrli v.rd v.imm) (
    cond (eqb p 9) (CSrai v.rd v.imm) (
    cond (eqb p 10) (CAndi v.rd v.imm) (
    cond (eqb p 11) (CSub v.rd v.rs2) (
    cond (eqb p 12) (CXor v.rd v.rs2) (
    cond (eqb p 13) (COr v.rd v.rs2) (
    cond (eqb p 14) (CAnd v.rd v.rs2) (
    cond (eqb p 15) (CJ v.imm) (
    cond (eqb p 16) (CBeqz v.rs1 v.imm) (
    cond (eqb p 17) (CBnez v.rs1 v.imm) (
    cond (eqb p 18) (CSlli v.rd v.imm) (
    cond (eqb p 19) (CLwsp v.rd v.imm) (
    cond (eqb p 20) (CJr v.rs1) (
    cond (eqb p 21) (CJalr v.rs1) (
    cond (eqb p 22) (CMv v.rd v.rs2) (
    cond (eqb p 23) (CAdd v.rd v.rs2) (
    cond (eqb p 24) CEbreak (
    CSwsp v.rs2 v.imm)))))))))))))))))))))))))

form_again : (f : Form16) → form (place f) (fields_of f) ≡ f
form_again CEbreak = refl
form_again _ = refl

unfoldable pub same_int : ℤ → ℤ → Bool
same_int (pos a) (pos b) = eqb a b
same_int (negsuc a) (negsuc b) = eqb a b
same_int _ _ = false

pub same_int-true : (a b : ℤ) → same_int a b ≡ true → a ≡ b
unfolding same_int
same_int-true (pos a) (pos b) h = ap pos (eqb-true a b h)
same_int-true (negsuc a) (negsuc b) h = ap negsuc (eqb-true a b h)
same_int-true (pos a) (negsuc b) h = cc
same_int-true (negsuc a) (pos b) h = cc

unfoldable pub same : Form16 → Form16 → Bool
same f g = eqb (place f) (place g) && (eqb (fields_of f).rd (fields_of g).rd && (eqb (fields_of f).rs1 (fields_of g).rs1 && (eqb (fields_of f).rs2 (fields_of g).rs2 && same_int (fields_of f).imm (fields_of g).imm)))

fields_eq : (v w : Fields) → v.rd ≡ w.rd → v.rs1 ≡ w.rs1 → v.rs2 ≡ w.rs2 → v.imm ≡ w.imm → v ≡ w
fields_eq v w a b c d = λ i. record { rd = a i; rs1 = b i; rs2 = c i; imm = d i }

together : (p q : ℕ) (v w : Fields) → p ≡ q → v.rd ≡ w.rd → v.rs1 ≡ w.rs1 → v.rs2 ≡ w.rs2 → v.imm ≡ w.imm → form p v ≡ form q w
together p q v w a b c d e =
    let same_fields : v ≡ w = fields_eq v w b c d e in
    ap₂ form a same_fields

pub same-true : (f g : Form16) → same f g ≡ true → f ≡ g
unfolding same
same-true f g h =
    let a = and_parts (eqb (place f) (place g)) _ h in
    let b = and_parts (eqb (fields_of f).rd (fields_of g).rd) _ a.1 in
    let c = and_parts (eqb (fields_of f).rs1 (fields_of g).rs1) _ b.1 in
    let d = and_parts (eqb (fields_of f).rs2 (fields_of g).rs2) _ c.1 in
    sym (form_again f) ∙ together (place f) (place g) (fields_of f) (fields_of g) (eqb-true _ _ a.0) (eqb-true _ _ b.0) (eqb-true _ _ c.0) (eqb-true _ _ d.0) (same_int-true _ _ d.1) ∙ form_again g

-- ==== The whole table, by computation: each halfword that decodes is that of its form, and its outline is what the form's expansion does.

-- each number below n passes
unfoldable pub all_below : (ℕ → Bool) → ℕ → Bool
all_below p n = agree_below p (λ k. true) n

pub all_below_at : (p : ℕ → Bool) (n k : ℕ) → all_below p n ≡ true → k < n → p k ≡ true
unfolding all_below
all_below_at p n k h lt = agree_below_at p (λ k. true) n k h lt

-- the 16-bit numbers, in two halves: a declaration can compute with one
pub in_halves : (p : ℕ → Bool) → all_below (λ k. p k) 32768 ≡ true → all_below (λ k. p (32768 + k)) 32768 ≡ true → (h : ℕ) → h < 2 ^ 16 → p h ≡ true
in_halves p first second h lt =
    elim (cases_lt h 32768) [
      | inl low ↦ all_below_at (λ k. p k) 32768 h first low
      | inr high ↦ ap p (let e : h ≡ 32768 + (h - 32768) = omega arith in e) ∙ all_below_at (λ k. p (32768 + k)) 32768 (h - 32768) second (omega arith)
    ]

-- two outlines are one
unfoldable same_outline : Option Outline → Option Outline → Bool
same_outline None None = true
same_outline (Some (Computes d)) (Some (Computes e)) = d == e
same_outline (Some (Loads d b)) (Some (Loads e c)) = (d == e) && (b == c)
same_outline (Some (Stores b)) (Some (Stores c)) = b == c
same_outline (Some (Branches i)) (Some (Branches j)) = same_int i j
same_outline (Some (Jumps d i)) (Some (Jumps e j)) = (d == e) && same_int i j
same_outline (Some (JumpsTo d b i)) (Some (JumpsTo e c j)) = (d == e) && ((b == c) && same_int i j)
same_outline (Some Stops) (Some Stops) = true
same_outline _ _ = false

same_outline-true : (p q : Option Outline) → same_outline p q ≡ true → p ≡ q
unfolding same_outline
same_outline-true None None h = refl
same_outline-true (Some (Computes d)) (Some (Computes e)) h = let r = eqb-true d e h in cc
same_outline-true (Some (Loads d b)) (Some (Loads e c)) h =
    let p = and_parts (d == e) _ h in let r = eqb-true d e p.0 in let s = eqb-true b c p.1 in cc
same_outline-true (Some (Stores b)) (Some (Stores c)) h = let r = eqb-true b c h in cc
same_outline-true (Some (Branches i)) (Some (Branches j)) h = let r = same_int-true i j h in cc
same_outline-true (Some (Jumps d i)) (Some (Jumps e j)) h =
    let p = and_parts (d == e) _ h in let r = eqb-true d e p.0 in let s = same_int-true i j p.1 in cc
same_outline-true (Some (JumpsTo d b i)) (Some (JumpsTo e c j)) h =
    let p = and_parts (d == e) _ h in
    let q = and_parts (b == c) _ p.1 in
    let r = eqb-true d e p.0 in let s = eqb-true b c q.0 in let t = same_int-true i j q.1 in cc
same_outline-true (Some Stops) (Some Stops) h = refl
same_outline-true _ _ h = cc

abbrev pub does : Form16 → Outline
does f = outline (expansion f)

-- h decodes to nothing, or to a form that spells it
unfoldable pub spells : ℕ → Option Form16 → Bool
spells h None = true
spells h (Some f) = allowed f && (h == halfword_of f)

-- the same_outline, and the outline of the form is this
unfoldable passes : ℕ → Option Outline → Option Form16 → Bool
passes h o f = spells h f && same_outline o (option_map does f)

unfoldable reads : ℕ → Bool
reads h = passes h (outlined h) (decoded h)

-- one name to unfold where a proof computes with the decoder
unfoldable pub tables : Unit {0}
unfolding all_below spells reads decoded quadrant0 quadrant1 quadrant2 arithmetic upper jump_or_move extended word_offset six jump_offset branch_offset stack_step stack_address load_offset store_offset
tables = tt

unfoldable outlines : Unit {0}
unfolding tables passes same_outline same_int row_of jump jump_or_stop outlined
outlines = tt

first_half : all_below (λ k. reads k) 32768 ≡ true
unfolding outlines
first_half = refl

second_half : all_below (λ k. reads (32768 + k)) 32768 ≡ true
unfolding outlines
second_half = refl

pub record IsRead (h : ℕ) : Type 0 where
  pub spelled : spells h (decoded h) ≡ true
  pub does_so : outlined h ≡ option_map does (decoded h)

pub all_read : (h : ℕ) → h < 2 ^ 16 → IsRead h
unfolding reads passes
all_read h lt =
    let p = and_parts (spells h (decoded h)) (same_outline (outlined h) (option_map does (decoded h))) (in_halves reads first_half second_half h lt) in
    record { spelled = p.0; does_so = same_outline-true (outlined h) (option_map does (decoded h)) p.1 }

-- ==== The rows that the code has are those of the table.

-- ---- a row's number, bit by bit

abbrev pub rest_of : CodedFields → List coded.Bit → ℕ → ℕ → ℕ
rest_of v row k h = table.number_after h (row_fields v) (map row_bit (drop k row))

pub one_more : (v : CodedFields) (row : List coded.Bit) (k h : ℕ) (b : coded.Bit) → k < length row → ((other : coded.Bit) → b ≡ slice_index_or row k other) → rest_of v row k h ≡ rest_of v row (suc k) (2 * h + table.bit_value (row_fields v) (row_bit b))
one_more v row k h b lt e = ap (λ (bs : List coded.Bit). table.number_after h (row_fields v) (map row_bit bs)) (drop-cons row k b lt ∙ ap (λ c. c ∷ drop (suc k) row) (sym (e b)))

pub none_left : (v : CodedFields) (row : List coded.Bit) (k h : ℕ) → k ≡ length row → rest_of v row k h ≡ h
none_left v row k h e = ap (λ (bs : List coded.Bit). table.number_after h (row_fields v) (map row_bit bs)) (ap (λ n. drop n row) e ∙ drop-length row)

pub doubled : (h b k : ℕ) → h < 2 ^ k → b < 2 → 2 * h + b < 2 ^ suc k
doubled h b k lt small = rw pow-suc (omega arith)

pub fits : (h k : ℕ) → k < 16 → h < 2 ^ k → 2 * h + 1 < 2 ^ 16
fits h k lt small = let high : 2 ^ k ≤ 2 ^ 15 = pow_mono (let l : k ≤ 15 = omega arith in l) in omega arith

-- ---- the table's rows

row_is : (f : Form16) (other : List coded.Bit) → map row_bit (slice_index_or ROWS (place f) other) ≡ row f
row_is CEbreak other = refl
row_is _ other = refl

place_below : (f : Form16) → place f < 26
place_below CEbreak = omega arith
place_below _ = omega arith

pub row_below : (f : Form16) (n : ℕ) → n ≡ place f → n < 26
row_below f n e = subst (λ (k : ℕ). k < 26) (sym e) (place_below f)

all_low : (others : List coded.Bit) (other : coded.Bit) → all_below (λ p. all_below (λ k. is_low (slice_index_or (slice_index_or ROWS p others) k other)) 16) 26 ≡ true
unfolding all_below
all_low others other = refl

pub rows_low : (p : ℕ) (others : List coded.Bit) → p < 26 → AreLow (slice_index_or ROWS p others)
rows_low p others lt k other less =
    all_below_at (λ k. is_low (slice_index_or (slice_index_or ROWS p others) k other)) 16 k
    (all_below_at (λ p. all_below (λ k. is_low (slice_index_or (slice_index_or ROWS p others) k other)) 16) 26 p (all_low others other) lt) less

pub halfword_is : (f : Form16) (v : CodedFields) (n : ℕ) (others : List coded.Bit) → n ≡ place f → row_fields v ≡ fields_of f → row_number (row_fields v) (map row_bit (slice_index_or ROWS n others)) ≡ halfword_of f
unfolding row_number
halfword_is f v n others p e = ap₂ row_number e (ap (λ q. map row_bit (slice_index_or ROWS q others)) p ∙ row_is f others)
