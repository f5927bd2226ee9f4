-- How many bytes a sandbox's code has.
use Rattle.std.proofs.Common.{◌≡◌, ℕ, suc, zero, ◌+◌, ◌-◌, ◌*◌, ◌/◌, ◌%◌, ◌^◌, ◌<◌, ◌≤◌, if◌then◌else◌, ◌⊎◌, Bool, true, false, List, [], ◌∷◌, ◌++◌, length, drop, take, refl, sym, ap, ◌∙◌, subst, arith, inl, inr, length-drop}
use Rattle.std.specs.Prelude.{◌==◌}
use Rattle.std.proofs.lemmas.Bool.{cases_Bool, cond_both, eqb-true}
use Rattle.sfi_formats.specs.Formats.{unit}
use Rattle.sfi_image.proofs.Formats.{code_at_most}
use Rattle.sfi_image.specs.Parts.{IsRightPart}
use Rattle.sfi_image.specs.Spelling.{Part}
use Rattle.sfi_rules.specs.Readings.{Piece, IsReading}
use Rattle.sfi_rules.proofs.OneList.{spelled_within}
use Rattle.sfi_report.specs.Listing.{unit_bytes}
use Rattle.sfi_translate.specs.Lines.{Line, AreLines, AreLinesOfFirst, AreUnitLines, entry_lines, function_lines, function_most, head_bytes, head_lines, reading_lines}
use Rattle.sfi_translate.proofs.LinesStand.{unit_length, units}
use Rattle.sfi_native.specs.declared.plan.Plan.{Plan}
use Rattle.sfi_native.specs.Registers.{owed}
use Rattle.sfi_native.specs.Sizes.{CodeIsSmall, EachCodeFits}
use Rattle.sfi_native.specs.Places.{code_of, exit_of, size_of_all, whole_code}
use Rattle.sfi_native.specs.Code.{end_code}
use Rattle.sfi_native.proofs.Sizes.{both, bytes, end_is, head_most, owed_few, MayPad, per, per_add, piece_most}
use Rattle.sfi_native.proofs.Places.{code_size, sizes_append}

reading_most : (padded : Bool) (plan : Plan) → MayPad padded plan → (at : ℕ) (own : List ℕ) (reading : List Piece) → IsReading own reading → size_of_all plan (reading_lines at reading) ≤ per padded (length own)
reading_most padded plan may at own [] is = omega arith
reading_most padded plan may at own (x ∷ reading) is =
    let within = spelled_within own x.instr x.size is.0 in
    let rest = drop x.size own in
    let parts : length own ≡ x.size + length rest = omega (arith, within.1, length-drop x.size own) in
    omega (arith, ap (per padded) parts, per_add padded x.size (length rest), piece_most padded plan may at x.size x.instr (take x.size own) is.0, reading_most padded plan may (at + x.size) rest reading is.1)

function_none : (plan : Plan) (sandbox offset at : ℕ) → size_of_all plan (function_lines sandbox offset at) ≡ 0
function_none plan sandbox offset at =
    cond_both (offset == 0) _ _ (λ (l : List Line). size_of_all plan l ≡ 0) (λ e. refl) (λ e. cond_both (offset % function_most == 0) _ _ (λ (l : List Line). size_of_all plan l ≡ 0) (λ f. refl) (λ f. refl))

entry_none : (plan : Plan) (chosen : Bool) (at : ℕ) → size_of_all plan (entry_lines chosen at) ≡ 0
entry_none plan true at = refl
entry_none plan false at = refl

-- of a head at that address
abbrev head_bytes_most : ℕ → ℕ
head_bytes_most at = if at % head_bytes == 0 then 24 else 0

heads_most : (plan : Plan) (at : ℕ) → size_of_all plan (head_lines at) ≤ head_bytes_most at
heads_most plan at = elim (cases_Bool (at % head_bytes == 0)) [
  | inl e ↦ rw e (omega (arith, head_most at (owed plan at) 0 (owed_few plan at)))
  | inr e ↦ rw e (omega arith)
]

unit_most : (padded : Bool) (plan : Plan) → MayPad padded plan → (sandbox offset at : ℕ) (own : List ℕ) (lines : List Line) → AreUnitLines sandbox offset at own lines → size_of_all plan lines ≤ head_bytes_most at + per padded (length own)
unit_most padded plan may sandbox offset at own lines are =
    let before = function_lines sandbox offset at in
    let entry = entry_lines are.chosen at in
    let head = head_lines at in
    let reading = reading_lines at are.reading in
    omega (
      arith,
      ap (size_of_all plan) are.lines_are,
      sizes_append plan ((before ++ entry) ++ head) reading,
      sizes_append plan (before ++ entry) head,
      sizes_append plan before entry,
      function_none plan sandbox offset at,
      entry_none plan are.chosen at,
      heads_most plan at,
      reading_most padded plan may at own are.reading are.longest.is_reading,
    )

-- how many heads there are at most from one address to another
abbrev heads_between : ℕ → ℕ → ℕ
heads_between from to = (to + 127) / 128 - (from + 127) / 128

-- with a unit more, of u bytes, behind m
one_more : (padded : Bool) (u m base size front last : ℕ) → 0 < u → size ≡ front + last → front ≤ per padded m + 24 * heads_between base (base + m) → last ≤ head_bytes_most (base + m) + per padded u
    → size ≤ per padded (m + u) + 24 * heads_between base (base + (m + u))
one_more padded u m base size front last some sum a b = elim (cases_Bool ((base + m) % 128 == 0)) [
  | inl e ↦
      let most : last ≤ 24 + per padded u = subst (λ (t : Bool). last ≤ (if t then 24 else 0) + per padded u) e b in
      omega (arith, per_add padded m u, some, sum, a, most, eqb-true ((base + m) % 128) 0 e)
  | inr e ↦
      let most : last ≤ 0 + per padded u = subst (λ (t : Bool). last ≤ (if t then 24 else 0) + per padded u) e b in
      omega (arith, per_add padded m u, some, sum, a, most)
]

unit_some : (u : ℕ) → (u ≡ 16) ⊎ (u ≡ 4) → 0 < u
unit_some u (inl e) = omega (arith, e)
unit_some u (inr e) = omega (arith, e)

first_most : (padded : Bool) (plan : Plan) → MayPad padded plan → (sandbox : ℕ) (p : Part) (n : ℕ) (lines : List Line) → AreLinesOfFirst sandbox p n lines → unit p.format * n ≤ length p.code
    → size_of_all plan lines ≤ per padded (unit p.format * n) + 24 * heads_between p.code_base (p.code_base + unit p.format * n)
first_most padded plan may sandbox p zero lines are within = omega (arith, ap (size_of_all plan) are)
first_most padded plan may sandbox p (suc n) lines are within =
    let u = unit p.format in
    let m = u * n in
    let more : u * suc n ≡ m + u = omega arith in
    let fewer : m + u ≤ length p.code = omega (arith, within) in
    let last : size_of_all plan are.1 ≤ head_bytes_most (p.code_base + m) + per padded u =
    omega (arith, unit_most padded plan may sandbox m (p.code_base + m) (unit_bytes p n) are.1 are.3, unit_length p n fewer, ap (per padded) (unit_length p n fewer)) in
    subst (λ v. size_of_all plan lines ≤ per padded v + 24 * heads_between p.code_base (p.code_base + v)) (sym more)
    (one_more padded u m p.code_base (size_of_all plan lines) (size_of_all plan are.0) (size_of_all plan are.1) (unit_some u (units p.format))
    (ap (size_of_all plan) are.4 ∙ sizes_append plan are.0 are.1) (first_most padded plan may sandbox p n are.0 are.2 (omega (arith, fewer))) last)

-- a head for each 128 bytes is less than one byte more for each
abbrev with_heads : Bool → ℕ → ℕ
with_heads true n = 29 * n
with_heads false n = 24 * n

few_heads : (padded : Bool) (base len size : ℕ) → 256 ≤ len → size ≤ per padded len + 24 * heads_between base (base + len) → size ≤ with_heads padded len
few_heads true base len size least most = omega (arith, least, most)
few_heads false base len size least most = omega (arith, least, most)

code_most_bytes : (padded : Bool) (plan : Plan) → MayPad padded plan → (sandbox : ℕ) (p : Part) (code : List Line) → IsRightPart p → AreLines sandbox p code → size_of_all plan code ≤ with_heads padded (length p.code)
code_most_bytes padded plan may sandbox p code right are =
    let e = are.whole in
    let n = unit p.format * are.units in
    let most : size_of_all plan code ≤ per padded n + 24 * heads_between p.code_base (p.code_base + n) = first_most padded plan may sandbox p are.units code are.lines_are (omega (arith, e)) in
    few_heads padded p.code_base (length p.code) (size_of_all plan code) right.code_placed.at_least
    (subst (λ v. size_of_all plan code ≤ per padded v + 24 * heads_between p.code_base (p.code_base + v)) (sym e) most)

pub code_is_small : CodeIsSmall
code_is_small plan sandbox p code unpadded right are = code_most_bytes false plan unpadded sandbox p code right are

pub code_few : (p : Part) → IsRightPart p → length p.code ≤ 2 ^ 24
code_few p right = omega (arith, right.code_placed.at_most, code_at_most p.format)

pub each_code_fits : EachCodeFits
each_code_fits plan sandbox p code right are = omega (arith, code_most_bytes true plan tt sandbox p code right are, right.code_placed.at_most, code_at_most p.format)

-- with the end's code
pub whole_size : (plan : Plan) (end : ℕ) (code : List Line) → bytes (whole_code plan end code) ≡ exit_of plan code
whole_size plan end code = omega (arith, both (code_of plan code code) (end_code end (owed plan end)), code_size plan code code, end_is end (owed plan end) (omega (arith, owed_few plan end)))
