-- The text of readings, of sandboxes and of an image.
use Rattle.sfi_translate.proofs.Prelude.{◌≡◌, ℕ, ◌+◌, ◌≤◌, List, [], ◌∷◌, ◌++◌, length, take, drop, sym, ap, ◌∙◌, subst, refl, arith, append_assoc, append-nil, Read, Adds, IsReadingText, Line, Does, spell, spelled, reading_lines, AreUnitLines, suc, ◌*◌, get_or, flat_map, take_all, length-take, Format, SandboxPart, Part, view, gate_line, IsUnitText, IsCodeText, IsSandboxText}
use Rattle.std.proofs.Common.{◌<◌, add-zero, Bool}
use Rattle.std.proofs.lemmas.Grind.{flat_map-append}
use Rattle.std.proofs.lemmas.List.{take_more, length-map, get_or-map}
use Rattle.rv_word.specs.declared.instr.Instr.{Instr}
use Rattle.rv_comp.specs.Fronts.{Spells}
use Rattle.sfi_report.proofs.Lines.{spell_fits, longer, longest_of_stuck}
use Rattle.sfi_formats.specs.Formats.{unit}
use Rattle.sfi_image.specs.Spelling.{views}
use Rattle.sfi_image.specs.Parts.{IsRightPart}
use Rattle.sfi_report.proofs.Texts.{unit_fits}
use Rattle.sfi_translate.specs.Lines.{function_lines, entry_lines, head_lines, AreLinesOfFirst}
use Rattle.sfi_translate.specs.Translation.{sandbox_line, data_line, last_line, IsTranslationFrom, IsTranslation}

-- ==== The lines of a reading: each instruction goes before the lines of what is after it.

-- ---- lines

pub line_then : (at : ℕ) (bytes : List ℕ) (i : Instr) (n : ℕ) (rest : List ℕ) → Spells (take n bytes) i n
    → ((j : Instr) (m : ℕ) → Spells (take m bytes) j m → Read i n ≡ Read j m)
    → IsReadingText (at + n) (drop n bytes) rest → IsReadingText at bytes (spell (Does at n i) ++ rest)
line_then at bytes i n rest s only h =
    record {
      reading = record { instr = i; size = n } ∷ h.reading;
      longest = longer bytes i n h.reading s only h.longest;
      text_is = ap (λ t. spell (Does at n i) ++ t) h.text_is;
    }

pub stuck_lines : (at : ℕ) (bytes : List ℕ) → ((i : Instr) (n : ℕ) → Spells (take n bytes) i n → ⊥) → IsReadingText at bytes []
stuck_lines at bytes stuck = record { reading = []; longest = longest_of_stuck bytes stuck; text_is = refl }

pub no_lines : (at : ℕ) → IsReadingText at [] []
no_lines at = stuck_lines at [] (λ i n s. let fits = spell_fits [] i n s in omega arith)

-- ==== The text of sandboxes and of an image, one unit and one sandbox more.

spelled_both : (front last : List Line) → spelled (front ++ last) ≡ spelled front ++ spelled last
spelled_both front last = flat_map-append spell front last

-- the text of the units before this offset after the old one
pub record IsWrittenTo (sandbox : ℕ) (p : Part) (at : ℕ) (old new : List ℕ) : Type 0 where
  pub units : ℕ
  pub at_is : at ≡ unit p.format * units
  pub within : at ≤ length p.code
  pub lines : List Line
  pub lines_are : AreLinesOfFirst sandbox p units lines
  pub new_is : new ≡ old ++ spelled lines

pub one_unit_more : (sandbox : ℕ) (p : Part) (size at : ℕ) (old new more : List ℕ) → IsRightPart p → size ≡ unit p.format → at < length p.code → IsWrittenTo sandbox p at old new
    → Adds new more (IsUnitText sandbox at (p.code_base + at) (take size (drop at p.code))) → IsWrittenTo sandbox p (at + size) old more
one_unit_more sandbox p size at old new more right is less so_far here =
    let fits = unit_fits p size at so_far.units right is so_far.at_is less in
    let last = here.text_is.lines in
    let sized = subst (λ n. AreUnitLines sandbox at (p.code_base + at) (take n (drop at p.code)) last) is here.text_is.lines_are in
    let placed = subst (λ k. AreUnitLines sandbox k (p.code_base + k) (take (unit p.format) (drop k p.code)) last) so_far.at_is sized in
    record {
      units = suc so_far.units;
      at_is = fits.1;
      within = fits.0;
      lines = so_far.lines ++ last;
      lines_are = (so_far.lines, last, so_far.lines_are, placed, refl);
      new_is = here.new_is ∙ ap (λ t. t ++ here.text) so_far.new_is ∙ append_assoc old (spelled so_far.lines) here.text
          ∙ ap (λ t. old ++ (spelled so_far.lines ++ t)) here.text_is.text_is ∙ ap (λ t. old ++ t) (sym (spelled_both so_far.lines last));
    }

-- a unit's text: what stands before its lines, and its lines
pub whole_unit : (sandbox offset at : ℕ) (bytes old first second third new : List ℕ) (chosen : Bool)
    → first ≡ old ++ spelled (function_lines sandbox offset at) → second ≡ first ++ spelled (entry_lines chosen at) → third ≡ second ++ spelled (head_lines at)
    → Adds third new (IsReadingText at bytes) → Adds old new (IsUnitText sandbox offset at bytes)
whole_unit sandbox offset at bytes old first second third new chosen e f g h =
    let a = function_lines sandbox offset at in
    let b = entry_lines chosen at in
    let c = head_lines at in
    let d = reading_lines at h.text_is.reading in
    let text = ((spelled a ++ spelled b) ++ spelled c) ++ h.text in
    record {
      text = text;
      text_is = record {
        lines = ((a ++ b) ++ c) ++ d;
        lines_are = record { chosen = chosen; reading = h.text_is.reading; longest = h.text_is.longest; lines_are = refl };
        text_is = ap (λ t. ((spelled a ++ spelled b) ++ spelled c) ++ t) h.text_is.text_is
            ∙ ap (λ t. (t ++ spelled c) ++ spelled d) (sym (spelled_both a b)) ∙ ap (λ t. t ++ spelled d) (sym (spelled_both (a ++ b) c)) ∙ sym (spelled_both ((a ++ b) ++ c) d);
      };
      new_is = h.new_is ∙ ap (λ t. t ++ h.text) (g ∙ ap (λ t. t ++ spelled c) (f ∙ ap (λ t. t ++ spelled b) e))
          ∙ regroup old (spelled a) (spelled b) (spelled c) h.text;
    }
  where
    regroup : (a b c d e : List ℕ) → (((a ++ b) ++ c) ++ d) ++ e ≡ a ++ (((b ++ c) ++ d) ++ e)
    regroup a b c d e = simp append_assoc

-- a sandbox's code, all of whose units are written
pub whole_code : (sandbox : ℕ) (p : Part) (at : ℕ) (old new : List ℕ) → length p.code ≤ at → IsWrittenTo sandbox p at old new → Adds old new (IsCodeText sandbox p)
whole_code sandbox p at old new over so_far = record {
  text = spelled so_far.lines;
  text_is = record {
    lines = so_far.lines;
    lines_are = record { units = so_far.units; whole = let within = so_far.within in let is = so_far.at_is in let same : length p.code ≡ at = omega (arith, over, within) in same ∙ is; lines_are = so_far.lines_are };
    text_is = refl;
  };
  new_is = so_far.new_is;
}

-- a sandbox's text: its fields, gates and first data, its code, and the last line
pub whole_sandbox : (sandbox : ℕ) (p : Part) (old fields gates filled code new : List ℕ)
    → fields ≡ old ++ sandbox_line sandbox p → gates ≡ fields ++ flat_map gate_line p.gates → filled ≡ gates ++ data_line sandbox p.init
    → Adds filled code (IsCodeText sandbox p) → new ≡ code ++ last_line → Adds old new (IsSandboxText sandbox p)
whole_sandbox sandbox p old fields gates filled code new e f g h i =
    record {
      text = sandbox_line sandbox p ++ flat_map gate_line p.gates ++ data_line sandbox p.init ++ h.text ++ last_line;
      text_is = record { code = h.text; code_is = h.text_is; text_is = refl };
      new_is = i ∙ ap (λ t. t ++ last_line) (h.new_is ∙ ap (λ t. t ++ h.text) (g ∙ ap (λ t. t ++ data_line sandbox p.init) (f ∙ ap (λ t. t ++ flat_map gate_line p.gates) e)))
          ∙ regroup old (sandbox_line sandbox p) (flat_map gate_line p.gates) (data_line sandbox p.init) h.text last_line;
    }
  where
    regroup : (a b c d e f : List ℕ) → ((((a ++ b) ++ c) ++ d) ++ e) ++ f ≡ a ++ ((((b ++ c) ++ d) ++ e) ++ f)
    regroup a b c d e f = simp append_assoc

text_append : (n m : ℕ) (parts : List Part) (p : Part) (text last : List ℕ) → IsTranslationFrom n parts text → IsSandboxText m p last → m ≡ n + length parts → IsTranslationFrom n (parts ++ p ∷ []) (text ++ last)
text_append n m [] p text last h here e =
    let at : m ≡ n = e ∙ add-zero n in
    (last, [], subst (λ k. IsSandboxText k p last) at here, refl, ap (λ (l : List ℕ). l ++ last) h ∙ sym (append-nil last))
text_append n m (q ∷ parts) p text last h here e =
    let rest = text_append (n + 1) m parts p h.1 last h.3 here (omega arith) in
    (h.0, h.1 ++ last, h.2, rest, ap (λ (l : List ℕ). l ++ last) h.4 ∙ append_assoc h.0 h.1 last)

-- the text of the first sandboxes
pub no_sandboxes : (image : List Part) → IsTranslationFrom 0 (take 0 image) []
no_sandboxes image = refl

pub one_sandbox_more : (format : Format) (image : List Part) (items : List SandboxPart) (i : ℕ) (d : SandboxPart) (text more : List ℕ) → views format items ≡ image → i < length items
    → IsTranslationFrom 0 (take i image) text → Adds text more (IsSandboxText i (view format (get_or items i d))) → IsTranslationFrom 0 (take (i + 1) image) more
one_sandbox_more format image items i d text more e h before here =
    let within : i < length (views format items) = omega (arith, length-map items (view format)) in
    let longer : take (i + 1) (views format items) ≡ take i (views format items) ++ view format (get_or items i d) ∷ [] =
    take_more (views format items) i (view format d) within ∙ ap (λ (p : Part). take i (views format items) ++ p ∷ []) (get_or-map (view format) items i d (view format d) h) in
    let count : i ≡ 0 + length (take i (views format items)) = omega (arith, length-take i (views format items)) in
    let before' = subst (λ (l : List Part). IsTranslationFrom 0 (take i l) text) (sym e) before in
    let written = text_append 0 i (take i (views format items)) (view format (get_or items i d)) text here.text before' here.text_is count in
    let all = subst (λ (l : List Part). IsTranslationFrom 0 l (text ++ here.text)) (sym longer ∙ ap (take (i + 1)) e) written in
    subst (λ (t : List ℕ). IsTranslationFrom 0 (take (i + 1) image) t) (sym here.new_is) all

pub all_sandboxes : (format : Format) (image : List Part) (items : List SandboxPart) (i : ℕ) (text : List ℕ) → views format items ≡ image → length items ≤ i
    → IsTranslationFrom 0 (take i image) text → IsTranslation image text
all_sandboxes format image items i text e h before =
    let all : length image ≤ i = omega (arith, length-map items (view format), ap length e) in
    subst (λ (l : List Part). IsTranslationFrom 0 l text) (take_all i image all) before
