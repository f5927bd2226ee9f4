-- The lines of a unit and of names, and numbers padded with zeros.
use Rattle.std.proofs.Common.{false, ◌%◌, length-drop}
use Rattle.std.specs.Fmt.{padded_integral, char_count, format_spec, digits}
use Rattle.sfi_report.specs.Listing.{hex_digits, instruction_line, rest_line, name_line, interface_line, table_lines, IsNamesText}
use Rattle.rv_word.specs.declared.instr.Instr.{Instr}
use Rattle.rv_comp.specs.Fronts.{Spells}
use Rattle.sfi_rules.specs.Readings.{Piece, IsReading, IsLongestReading}
use Rattle.std.specs.List.{All}
use Rattle.std.proofs.lemmas.List.Elements.{All-head}
use Rattle.sfi_names.specs.declared.image.Kind.{Kind}
use Rattle.sfi_names.specs.declared.image.Kind.TheVariants.{Exports, Imports}
use Rattle.sfi_names.specs.Tables.{Named, Table, entry, entries, IsNamed, HasTable}
use Rattle.sfi_names.proofs.Facts.{one_first, one_table}
use Rattle.sfi_report.proofs.Prelude.{◌≡◌, ◌-◌, ℕ, [], length, arith, ◌+◌, ◌≤◌, List, ◌∷◌, ◌++◌, take, drop, refl, sym, ap, ◌∙◌, subst, inl, inr, append_assoc, length-take, append-nil, drop-drop, Read, IsUnitListing, Adds, flat_map}

-- ==== What a number's text is, padded with zeros.

-- up to a width, zeros stand before the digits
pub padding_is_zeros : (width : ℕ) (n : ℕ) → padded_integral (format_spec 32 0 4 width 18446744073709551615) false [] (digits 16 false n) ≡ hex_digits width n
unfolding padded_integral char_count hex_digits
padding_is_zeros width n =
    let same : width - length (digits 16 false n) - 0 - 0 ≡ width - length (digits 16 false n) = omega arith in
    simp (append-nil, same)

-- ==== The lines of a unit: each instruction goes before the lines of what is after it.

-- ---- spellings

-- a spelling has two bytes or four
pub spell_size : (bytes : List ℕ) (i : Instr) (n : ℕ) → Spells bytes i n → (n ≡ length bytes) × (2 ≤ n) × (n ≤ 4)
spell_size bytes i n (inl s) = let size = s.size in let all = s.all in (omega arith, omega arith, omega arith)
spell_size bytes i n (inr s) = let size = s.size in let all = s.all in (omega arith, omega arith, omega arith)

pub spell_even : (bytes : List ℕ) (i : Instr) (n : ℕ) → Spells bytes i n → n % 2 ≡ 0
spell_even bytes i n (inl s) = rw s.size refl
spell_even bytes i n (inr s) = rw s.size refl

-- what is spelled at the front is there whole
pub spell_fits : (bytes : List ℕ) (i : Instr) (n : ℕ) → Spells (take n bytes) i n → (2 ≤ n) × (n ≤ length bytes)
spell_fits bytes i n s = let size = spell_size (take n bytes) i n s in let cut = length-take n bytes in (size.1, omega (arith, size.0, cut))

-- ---- longest readings

same_piece : (i j : Instr) (m n : ℕ) → Read i n ≡ Read j m → (i ≡ j) × (n ≡ m)
same_piece i j m n e = (cc, cc)

-- the only piece that can stand at the front, and a longest reading after it
pub longer : (bytes : List ℕ) (i : Instr) (n : ℕ) (later : List Piece) → Spells (take n bytes) i n
    → ((j : Instr) (m : ℕ) → Spells (take m bytes) j m → Read i n ≡ Read j m)
    → IsLongestReading (drop n bytes) later → IsLongestReading bytes (record { instr = i; size = n } ∷ later)
longer bytes i n later s only h = record { is_reading = (s, h.is_reading); longest = most }
  where
    most : (other : List Piece) → IsReading bytes other → length other ≤ length (record { instr = i; size = n } ∷ later)
    most [] g = omega arith
    most (y ∷ other) g =
        let e = same_piece i y.instr y.size n (only y.instr y.size g.0) in
        let k = h.longest other (subst (λ m. IsReading (drop m bytes) other) (sym e.1) g.1) in
        omega arith

-- where nothing is spelled, the longest reading has no pieces
pub longest_of_stuck : (bytes : List ℕ) → ((i : Instr) (n : ℕ) → Spells (take n bytes) i n → ⊥) → IsLongestReading bytes []
longest_of_stuck bytes stuck = record { is_reading = tt; longest = most }
  where
    most : (other : List Piece) → IsReading bytes other → length other ≤ 0
    most [] h = omega arith
    most (x ∷ other) h = absurd (stuck x.instr x.size h.0)

-- ---- lines

pub line_then : (at : ℕ) (bytes : List ℕ) (i : Instr) (n : ℕ) (rest : List ℕ) → Spells (take n bytes) i n
    → ((j : Instr) (m : ℕ) → Spells (take m bytes) j m → Read i n ≡ Read j m)
    → IsUnitListing (at + n) (drop n bytes) rest → IsUnitListing at bytes (instruction_line at (take n bytes) i ++ rest)
line_then at bytes i n rest s only h =
    record {
      reading = record { instr = i; size = n } ∷ h.reading;
      longest = longer bytes i n h.reading s only h.longest;
      text_is = ap (λ t. instruction_line at (take n bytes) i ++ t) h.text_is;
    }

pub stuck_lines : (at : ℕ) (bytes : List ℕ) → ((i : Instr) (n : ℕ) → Spells (take n bytes) i n → ⊥) → IsUnitListing at bytes (rest_line at bytes)
stuck_lines at bytes stuck = record { reading = []; longest = longest_of_stuck bytes stuck; text_is = refl }

pub no_lines : (at : ℕ) → IsUnitListing at [] []
no_lines at = stuck_lines at [] (λ i n s. let fits = spell_fits [] i n s in omega arith)

-- ==== The lines of names, one entry after another.

-- of these entries some are written, and the others are left
pub record IsWrittenTo (kind : Kind) (rest : List ℕ) (es : List Named) (old new : List ℕ) : Type 0 where
  pub left : List Named
  pub named : All IsNamed left
  pub rest_is : rest ≡ entries left
  pub lines : new ++ flat_map (name_line kind) left ≡ old ++ flat_map (name_line kind) es

abbrev pub AreWrittenTo : Kind → List ℕ → List ℕ → List ℕ → List ℕ → Type 0
AreWrittenTo kind bytes rest old new =
    (es : List Named) → All IsNamed es → bytes ≡ entries es → IsWrittenTo kind rest es old new

pub one_written : (kind : Kind) (rest more old text new : List ℕ) (e : Named) (es : List Named) → IsNamed e → rest ≡ entry e ++ more
    → new ≡ text ++ name_line kind e → IsWrittenTo kind rest es old text → IsWrittenTo kind more es old new
one_written kind rest more old text new e es fits g written h =
    let f = one_first h.left e more h.named fits (sym h.rest_is ∙ g) in
    record {
      left = f.others;
      named = f.named;
      rest_is = f.rest_is;
      lines = ap (λ (t : List ℕ). t ++ flat_map (name_line kind) f.others) written
          ∙ append_assoc text (name_line kind e) (flat_map (name_line kind) f.others)
          ∙ ap (λ (l : List Named). text ++ flat_map (name_line kind) l) (sym f.all)
          ∙ h.lines;
    }

pub all_written : (kind : Kind) (rest old new : List ℕ) (es : List Named) → ((e : Named) (r : List ℕ) → IsNamed e → rest ≡ entry e ++ r → ⊥)
    → IsWrittenTo kind rest es old new → new ≡ old ++ flat_map (name_line kind) es
all_written kind rest old new es none h = ends h.left h.named h.rest_is h.lines
  where
    ends : (left : List Named) → All IsNamed left → rest ≡ entries left → new ++ flat_map (name_line kind) left ≡ old ++ flat_map (name_line kind) es → new ≡ old ++ flat_map (name_line kind) es
    ends [] all r lines = sym (append-nil new) ∙ lines
    ends (x ∷ xs) all r lines = absurd (none x (entries xs) (All-head IsNamed x xs all) r)

-- all that a table says is written
pub whole_table : (bytes old one two new : List ℕ) (t : Table) → HasTable bytes t → one ≡ old ++ interface_line t.version
    → two ≡ one ++ flat_map (name_line Exports) t.exports → new ≡ two ++ flat_map (name_line Imports) t.imports
    → Adds old new (IsNamesText bytes)
whole_table bytes old one two new t h e f g = record {
  text = table_lines t;
  text_is = inl (t, h, refl);
  new_is = g ∙ ap (λ (x : List ℕ). x ++ flat_map (name_line Imports) t.imports) (f ∙ ap (λ (x : List ℕ). x ++ flat_map (name_line Exports) t.exports) e)
      ∙ regroup old (interface_line t.version) (flat_map (name_line Exports) t.exports) (flat_map (name_line Imports) t.imports);
}
  where
    regroup : (a b c d : List ℕ) → ((a ++ b) ++ c) ++ d ≡ a ++ ((b ++ c) ++ d)
    regroup a b c d = simp append_assoc

pub no_table : (bytes old : List ℕ) → ((t : Table) → ¬ HasTable bytes t) → Adds old old (IsNamesText bytes)
no_table bytes old none = record { text = []; text_is = inr (none, refl); new_is = sym (append-nil old) }

-- bytes have one text of their names
pub one_names_text : (bytes text other : List ℕ) → IsNamesText bytes text → IsNamesText bytes other → text ≡ other
one_names_text bytes text other (inl a) (inl b) = a.2 ∙ ap table_lines (one_table bytes a.0 b.0 a.1 b.1) ∙ sym b.2
one_names_text bytes text other (inl a) (inr b) = absurd (b.0 a.0 a.1)
one_names_text bytes text other (inr a) (inl b) = absurd (a.0 b.0 b.1)
one_names_text bytes text other (inr a) (inr b) = a.1 ∙ sym b.1
