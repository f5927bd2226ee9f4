-- Lines that are added to others.
use Rattle.std.proofs.Common.{◌≡◌, ℕ, false, suc, ◌+◌, ◌*◌, ◌<◌, ◌≤◌, List, [], ◌∷◌, ◌++◌, length, map, take, drop, refl, sym, ap, ◌∙◌, subst, arith, append_assoc, append-nil, length-drop}
use Rattle.std.proofs.lemmas.List.{drop_all, drop-drop}
use Rattle.rv_word.specs.declared.instr.Instr.{Instr}
use Rattle.rv_comp.specs.Fronts.{Spells}
use Rattle.rv_comp.specs.declared.front.Front.TheVariants.{Read}
use Rattle.sfi_formats.specs.Formats.{unit}
use Rattle.sfi_image.specs.Spelling.{Part}
use Rattle.sfi_image.specs.Parts.{IsRightPart}
use Rattle.sfi_report.proofs.Lines.{spell_fits, longer, longest_of_stuck}
use Rattle.sfi_report.proofs.Texts.{unit_fits}
use Rattle.sfi_translate.specs.Lines.{Line, Does, AreLines, AreLinesOfFirst, AreUnitLines, entry_lines, function_lines, head_lines}
use Rattle.sfi_native.specs.declared.line.Line.{Line as Held}
use Rattle.sfi_native.specs.Lines.{line_of}
use Rattle.sfi_native.specs.private.{AddsLines, AreReadingLines}

-- ==== The lines of a reading.

line_then : (at : ℕ) (bytes : List ℕ) (i : Instr) (n : ℕ) (rest : List Line) → Spells (take n bytes) i n
    → ((j : Instr) (m : ℕ) → Spells (take m bytes) j m → Read i n ≡ Read j m)
    → AreReadingLines (at + n) (drop n bytes) rest → AreReadingLines at bytes (Does at n i ∷ rest)
line_then at bytes i n rest s only h = record {
  reading = record { instr = i; size = n } ∷ h.reading;
  longest = longer bytes i n h.reading s only h.longest;
  lines_are = ap (λ t. Does at n i ∷ t) h.lines_are;
}

stuck_lines : (at : ℕ) (bytes : List ℕ) → ((i : Instr) (n : ℕ) → Spells (take n bytes) i n → ⊥) → AreReadingLines at bytes []
stuck_lines at bytes stuck = record { reading = []; longest = longest_of_stuck bytes stuck; lines_are = refl }

-- at this place of the bytes, with these lines so far
pub record Leads (address : ℕ) (bytes : List ℕ) (at : ℕ) (old new : List Held) : Type 0 where
  pub lines : List Line
  pub new_is : map line_of new ≡ map line_of old ++ lines
  pub within : at ≤ length bytes
  pub leads : (rest : List Line) → AreReadingLines (address + at) (drop at bytes) rest → AreReadingLines address bytes (lines ++ rest)

pub at_first : (address : ℕ) (bytes : List ℕ) (old : List Held) → Leads address bytes 0 old old
at_first address bytes old = record {
  lines = [];
  new_is = sym (append-nil (map line_of old));
  within = omega arith;
  leads = λ rest h. subst (λ a. AreReadingLines a bytes rest) (let same : address + 0 ≡ address = omega arith in same) h;
}

pub next : (address : ℕ) (bytes : List ℕ) (at n : ℕ) (i : Instr) (rest : List ℕ) (old new more : List Held) → rest ≡ drop at bytes → Leads address bytes at old new
    → Spells (take n rest) i n → ((j : Instr) (m : ℕ) → Spells (take m rest) j m → Read i n ≡ Read j m)
    → map line_of more ≡ map line_of new ++ (Does (address + at) n i ∷ []) → Leads address bytes (at + n) old more
next address bytes at n i rest old new more is so_far s only e =
    let line = Does (address + at) n i ∷ [] in
    record {
      lines = so_far.lines ++ line;
      new_is = e ∙ ap (λ t. t ++ line) so_far.new_is ∙ append_assoc (map line_of old) so_far.lines line;
      within = omega (arith, spell_fits rest i n s, ap length is, length-drop at bytes, so_far.within);
      leads = λ later h.
          let moved = subst (λ a. AreReadingLines a (drop (at + n) bytes) later) (let same : address + (at + n) ≡ address + at + n = omega arith in same) h in
          let left : drop (at + n) bytes ≡ drop n rest = sym (drop-drop n at bytes) ∙ ap (drop n) (sym is) in
          let here = subst (λ (b : List ℕ). AreReadingLines (address + at + n) b later) left moved in
          let lines = line_then (address + at) rest i n later s only here in
          let lines' = subst (λ (b : List ℕ). AreReadingLines (address + at) b (line ++ later)) is lines in
          subst (λ (t : List Line). AreReadingLines address bytes t) (sym (append_assoc so_far.lines line later)) (so_far.leads (line ++ later) lines');
    }

-- where nothing is spelled
pub at_rest : (address : ℕ) (bytes : List ℕ) (at : ℕ) (rest : List ℕ) (old new : List Held) → rest ≡ drop at bytes → Leads address bytes at old new
    → ((i : Instr) (n : ℕ) → Spells (take n rest) i n → ⊥) → AddsLines old new (AreReadingLines address bytes)
at_rest address bytes at rest old new is so_far stuck =
    let none = subst (λ (b : List ℕ). AreReadingLines (address + at) b []) is (stuck_lines (address + at) rest stuck) in
    record {
      lines = so_far.lines ++ [];
      holds_of = so_far.leads [] none;
      new_is = so_far.new_is ∙ ap (λ t. map line_of old ++ t) (sym (append-nil so_far.lines));
    }

-- after the last byte
pub at_last : (address : ℕ) (bytes : List ℕ) (at : ℕ) (old new : List Held) → length bytes ≤ at → Leads address bytes at old new → AddsLines old new (AreReadingLines address bytes)
at_last address bytes at old new over so_far =
    let none : [] ≡ drop at bytes = sym (drop_all at bytes over) in
    at_rest address bytes at [] old new none so_far (λ i n s. let fits = spell_fits [] i n s in omega arith)

-- ==== The lines of units.

-- a unit's lines: how a function begins, a head, and its instructions
pub whole_unit : (sandbox offset at : ℕ) (bytes : List ℕ) (old first second new : List Held) → map line_of first ≡ map line_of old ++ function_lines sandbox offset at
    → map line_of second ≡ map line_of first ++ head_lines at → AddsLines second new (AreReadingLines at bytes) → AddsLines old new (AreUnitLines sandbox offset at bytes)
whole_unit sandbox offset at bytes old first second new e f h =
    let a = function_lines sandbox offset at in
    let b = head_lines at in
    let c = entry_lines false at in
    record {
      lines = ((a ++ c) ++ b) ++ h.lines;
      holds_of = record { chosen = false; reading = h.holds_of.reading; longest = h.holds_of.longest; lines_are = ap (λ t. ((a ++ c) ++ b) ++ t) h.holds_of.lines_are };
      new_is = h.new_is ∙ ap (λ t. t ++ h.lines) (f ∙ ap (λ t. t ++ b) e) ∙ regroup (map line_of old) a b h.lines ∙ ap (λ t. map line_of old ++ ((t ++ b) ++ h.lines)) (sym (append-nil a));
    }
  where
    regroup : (a b c d : List Line) → ((a ++ b) ++ c) ++ d ≡ a ++ ((b ++ c) ++ d)
    regroup a b c d = simp append_assoc

-- the units before this offset are there
pub record AreThere (sandbox : ℕ) (p : Part) (at : ℕ) (new : List Held) : Type 0 where
  pub units : ℕ
  pub at_is : at ≡ unit p.format * units
  pub within : at ≤ length p.code
  pub lines_are : AreLinesOfFirst sandbox p units (map line_of new)

pub one_unit_more : (sandbox : ℕ) (p : Part) (size at : ℕ) (new more : List Held) → IsRightPart p → size ≡ unit p.format → at < length p.code → AreThere sandbox p at new
    → AddsLines new more (AreUnitLines sandbox at (p.code_base + at) (take size (drop at p.code))) → AreThere sandbox p (at + size) more
one_unit_more sandbox p size at new more right is less so_far here =
    let fits = unit_fits p size at so_far.units right is so_far.at_is less in
    let last = here.lines in
    let sized = subst (λ n. AreUnitLines sandbox at (p.code_base + at) (take n (drop at p.code)) last) is here.holds_of in
    let placed = subst (λ k. AreUnitLines sandbox k (p.code_base + k) (take (unit p.format) (drop k p.code)) last) so_far.at_is sized in
    record { units = suc so_far.units; at_is = fits.1; within = fits.0; lines_are = (map line_of new, last, so_far.lines_are, placed, here.new_is) }

-- all units
pub all_units : (sandbox : ℕ) (p : Part) (at : ℕ) (new : List Held) → length p.code ≤ at → AreThere sandbox p at new → AreLines sandbox p (map line_of new)
all_units sandbox p at new over so_far = record {
  units = so_far.units;
  whole = let within = so_far.within in let is = so_far.at_is in let same : length p.code ≡ at = omega (arith, over, within) in same ∙ is;
  lines_are = so_far.lines_are;
}
