-- What stands at a line's address.
use Rattle.sfi_translate.proofs.Prelude.{◌≡◌, ℕ, ◌+◌, ◌-◌, ◌*◌, ◌≤◌, List, [], ◌∷◌, ◌++◌, length, take, drop, ap, ◌∙◌, subst, refl, arith, inl, inr, length-take, drop-drop, Part}
use Rattle.std.proofs.Common.{◌%◌, ◌^◌, ◌<◌, ◌⊎◌, length-drop}
use Rattle.std.proofs.lemmas.List.{take-take, drop-take}
use Rattle.rv_word.specs.declared.instr.Instr.{Instr}
use Rattle.rv_comp.specs.Fronts.{Spells}
use Rattle.rv_comp.proofs.Facts.{two_lengths}
use Rattle.rv_mem.specs.Bytes.{Bytes}
use Rattle.rv_step.specs.State.{Hart}
use Rattle.rv_step.specs.Step.{Stands}
use Rattle.sfi_formats.specs.declared.format.Format.{Format}
use Rattle.sfi_formats.specs.declared.format.Format.TheVariants.{Sfi1, Sfi2, Sfiw, Sfis}
use Rattle.sfi_formats.specs.Formats.{unit}
use Rattle.sfi_image.specs.Parts.{IsRightPart}
use Rattle.sfi_image.proofs.Facts.{whole_bundles, code_ends}
use Rattle.sfi_rules.specs.Readings.{Piece, IsReading, IsLongestReading}
use Rattle.sfi_rules.proofs.OneList.{spelled_within}
use Rattle.sfi_report.specs.Listing.{unit_bytes}
use Rattle.sfi_safe_runs.specs.Runs.{HasCode}
use Rattle.sfi_safe_runs.proofs.Stepping.{stands_there}

-- how many bytes the pieces have
abbrev pub bytes_of : List Piece → ℕ
bytes_of [] = 0
bytes_of (x ∷ pieces) = x.size + bytes_of pieces

-- a unit's reading has that instruction, of n bytes, at the address
pub record IsLine (p : Part) (at : ℕ) (i : Instr) (n : ℕ) : Type 0 where
  pub number : ℕ
  pub within : unit p.format * number + unit p.format ≤ length p.code
  pub before : List Piece
  pub after : List Piece
  pub longest : IsLongestReading (unit_bytes p number) (before ++ (record { instr = i; size = n } ∷ after))
  pub at_is : at ≡ p.code_base + unit p.format * number + bytes_of before

-- ==== The instruction of a line stands at its address, and no head's address lies within it.

-- ---- in its unit

spelled_in : (bytes : List ℕ) (before : List Piece) (x : Piece) (after : List Piece) → IsReading bytes (before ++ (x ∷ after)) → Spells (take x.size (drop (bytes_of before) bytes)) x.instr x.size
spelled_in bytes [] x after is = is.0
spelled_in bytes (y ∷ before) x after is =
    subst (λ (l : List ℕ). Spells (take x.size l) x.instr x.size) (drop-drop (bytes_of before) y.size bytes) (spelled_in (drop y.size bytes) before x after is.1)

cut_length : (code : List ℕ) (at u : ℕ) → at + u ≤ length code → length (take u (drop at code)) ≡ u
cut_length code at u within = simp (length-take, length-drop) (omega arith)

-- a unit's bytes
pub unit_length : (p : Part) (k : ℕ) → unit p.format * k + unit p.format ≤ length p.code → length (unit_bytes p k) ≡ unit p.format
unit_length p k within = cut_length p.code (unit p.format * k) (unit p.format) within

-- what is cut from a unit is cut from the code
cut_again : (code : List ℕ) (at u o n : ℕ) → o + n ≤ u → take n (drop o (take u (drop at code))) ≡ take n (drop (at + o) code)
cut_again code at u o n within =
    let m = u - o in
    let whole : u ≡ o + m = omega arith in
    ap (λ (k : ℕ). take n (drop o (take k (drop at code)))) whole ∙ ap (take n) (drop-take o m (drop at code))
    ∙ take-take n m (drop o (drop at code)) (omega arith) ∙ ap (take n) (drop-drop o at code)

fits_in : (bytes : List ℕ) (o n u : ℕ) → 0 < n → n ≤ length (drop o bytes) → length bytes ≡ u → o + n ≤ u
fits_in bytes o n u some fits all = omega (arith, length-drop o bytes, fits, all)

regrouped : (a b c : ℕ) → a + b + c ≡ a + (b + c)
regrouped a b c = omega arith

inside_of : (s o n u l : ℕ) → o + n ≤ u → s + u ≤ l → s + o + n ≤ l
inside_of s o n u l a b = omega arith

pub units : (f : Format) → (unit f ≡ 16) ⊎ (unit f ≡ 4)
units Sfi1 = inl refl
units Sfi2 = inl refl
units Sfiw = inr refl
units Sfis = inr refl

-- a unit lies between two heads
in_block : (base u k o n at : ℕ) → base % 16 ≡ 0 → (u ≡ 16) ⊎ (u ≡ 4) → o + n ≤ u → at ≡ base + u * k + o → at % 128 + n ≤ 128
in_block base u k o n at whole (inl e) fits is = let at_is : at ≡ base + 16 * k + o = subst (λ (v : ℕ). at ≡ base + v * k + o) e is in omega (arith, whole, e, fits, at_is)
in_block base u k o n at whole (inr e) fits is = let at_is : at ≡ base + 4 * k + o = subst (λ (v : ℕ). at ≡ base + v * k + o) e is in omega (arith, whole, e, fits, at_is)

-- ---- in the code

module _ (p : Part) (at : ℕ) (i : Instr) (n : ℕ) (line : IsLine p at i n) where
  spelled : Spells (take n (drop (bytes_of line.before) (unit_bytes p line.number))) i n
  spelled = spelled_in (unit_bytes p line.number) line.before (record { instr = i; size = n }) line.after line.longest.is_reading

  pub fits : bytes_of line.before + n ≤ unit p.format
  fits =
      let w = spelled_within (drop (bytes_of line.before) (unit_bytes p line.number)) i n spelled in
      fits_in (unit_bytes p line.number) (bytes_of line.before) n (unit p.format) w.0 w.1 (cut_length p.code (unit p.format * line.number) (unit p.format) line.within)

  pub line_some : 0 < n
  line_some = (spelled_within (drop (bytes_of line.before) (unit_bytes p line.number)) i n spelled).0

  pub two_or_four : (n ≡ 2) ⊎ (n ≡ 4)
  two_or_four = two_lengths (take n (drop (bytes_of line.before) (unit_bytes p line.number))) i n spelled

  pub stands : IsRightPart p → (h : Hart) (m : Bytes) → h.pc ≡ at → HasCode p m → Stands (record { hart = h; memory = m }) i n
  stands right h m e code =
      stands_there p right h (unit p.format * line.number + bytes_of line.before) n
      (e ∙ line.at_is ∙ regrouped p.code_base (unit p.format * line.number) (bytes_of line.before))
      (inside_of (unit p.format * line.number) (bytes_of line.before) n (unit p.format) (length p.code) fits line.within)
      m i code
      (subst (λ (l : List ℕ). Spells l i n) (cut_again p.code (unit p.format * line.number) (unit p.format) (bytes_of line.before) n fits) spelled)

  pub between_heads : IsRightPart p → at % 128 + n ≤ 128
  between_heads right =
      let bundles = whole_bundles p.format p.code_base (length p.code) right.code_base right.code_placed in
      let base : p.code_base ≡ 16 * bundles.1 = bundles.3 in
      in_block p.code_base (unit p.format) line.number (bytes_of line.before) n at (omega (arith, base)) (units p.format) fits line.at_is

  pub line_below : IsRightPart p → at < 2 ^ 32
  line_below right =
      let end : p.code_base + length p.code ≤ 2 ^ 32 = code_ends p right in
      let is = line.at_is in
      let within = line.within in
      let fit = fits in
      let some = line_some in
      omega (arith, end, is, within, fit, some)
