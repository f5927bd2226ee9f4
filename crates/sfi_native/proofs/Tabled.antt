-- A processor that has a table of entries.
use Rattle.std.proofs.Common.{◌≡◌, ℕ, ◌+◌, ◌-◌, ◌*◌, ◌/◌, ◌%◌, ◌^◌, ◌<◌, ◌≤◌, ◌&&◌, ◌⊎◌, inl, inr, Bool, true, List, length, Option, Some, refl, sym, ap, ◌∙◌, subst, arith, if◌then◌else◌, nat_lt}
use Rattle.std.specs.Prelude.{nat_le, slice_index}
use Rattle.std.proofs.lemmas.Bool.{cases_Bool, le-leb, le-ltb, lt-leb, lt-ltb}
use Rattle.sfi_formats.specs.Formats.{unit}
use Rattle.sfi_image.specs.Spelling.{Part}
use Rattle.sfi_translate.specs.Lines.{Line}
use Rattle.sfi_translate.specs.Machine.{Going, label}
use Rattle.sfi_translate.proofs.LinesStand.{units}
use Rattle.x86_step.specs.State.{Core, IsIn, number_at, with_memory, written}
use Rattle.sfi_native.specs.Registers.{assigned}
use Rattle.sfi_native.proofs.Assigned.{holds_on}
use Rattle.sfi_native.specs.declared.layout.Layout.{Layout}
use Rattle.sfi_native.specs.Entries.{AreEntries, unit_address}
use Rattle.sfi_native.specs.Laws.{EachTableCanBeHeld}
use Rattle.sfi_native.specs.Layout.{DoNotMeet, IsClosed, IsLayout, IsRelated, frame_size, slots_size, value, window}
use Rattle.sfi_native.specs.Places.{exit_of}
use Rattle.sfi_native.specs.Table.{HasTable, table_size}
use Rattle.sfi_native.proofs.Memory.{long_number_of_bytes, number_elsewhere, number_of_bytes, written_elsewhere, written_here}
use Rattle.sfi_native.proofs.Entering.{entry_few}
use Rattle.sfi_native.proofs.Table.{entry_below, number_same, unit_within}

-- the byte at an offset of a table that has two numbers, and so many bytes, for a unit
abbrev table_byte : ℕ → List ℕ → ℕ → ℕ
table_byte size table offset =
    let place = offset % (2 * size) in
    slice_index table (2 * (offset / (2 * size)) + place / 4) / 256 ^ (place % 4) % 256

offset_is : (size number j : ℕ) → (size ≡ 16) ⊎ (size ≡ 4) → j < 8 → ((2 * (size * number) + j) / (2 * size) ≡ number) × ((2 * (size * number) + j) % (2 * size) ≡ j)
offset_is size number j (inl e) few =
    (subst (λ s. (2 * (s * number) + j) / (2 * s) ≡ number) (sym e) (omega (arith, few)), subst (λ s. (2 * (s * number) + j) % (2 * s) ≡ j) (sym e) (omega (arith, few)))
offset_is size number j (inr e) few =
    (subst (λ s. (2 * (s * number) + j) / (2 * s) ≡ number) (sym e) (omega (arith, few)), subst (λ s. (2 * (s * number) + j) % (2 * s) ≡ j) (sym e) (omega (arith, few)))

row_byte : (size : ℕ) (table : List ℕ) (number c j : ℕ) → (size ≡ 16) ⊎ (size ≡ 4) → c < 2 → j < 4
    → table_byte size table (2 * (size * number) + (4 * c + j)) ≡ slice_index table (2 * number + c) / 256 ^ j % 256
row_byte size table number c j units one few =
    let parts = offset_is size number (4 * c + j) units (omega (arith, one, few)) in
    let column : (4 * c + j) / 4 ≡ c = omega (arith, few) in
    let byte : (4 * c + j) % 4 ≡ j = omega (arith, few) in
    ap (λ n. slice_index table (2 * n + (2 * (size * number) + (4 * c + j)) % (2 * size) / 4) / 256 ^ ((2 * (size * number) + (4 * c + j)) % (2 * size) % 4) % 256) parts.0
    ∙ ap (λ n. slice_index table (2 * number + n / 4) / 256 ^ (n % 4) % 256) parts.1
    ∙ ap (λ n. slice_index table (2 * number + n) / 256 ^ ((4 * c + j) % 4) % 256) column
    ∙ ap (λ n. slice_index table (2 * number + c) / 256 ^ n % 256) byte

beside : (at n b m a : ℕ) → DoNotMeet at n b m → b ≤ a → a < b + m → (a < at) ⊎ (at + n ≤ a)
beside at n b m a (inl before) low high = inr (omega (arith, before, low))
beside at n b m a (inr after) low high = inl (omega (arith, after, high))

module _ (p : Part) (l : Layout) (base : ℕ) (table : List ℕ) (at : ℕ) (c : Core) (ends : at + table_size p ≤ 2 ^ 64) where
  abbrev in_table : ℕ → Bool
  in_table a = nat_le at a && nat_lt a (at + table_size p)

  -- the bytes with the table
  abbrev rows : ℕ → Option ℕ
  rows a = if in_table a then Some (table_byte (unit p.format) table (a - at)) else c.memory a

  abbrev origin : ℕ
  origin = (at + (2 ^ 64 - 2 * p.code_base)) % 2 ^ 64

  -- and with what the frame has behind its registers
  abbrev with_origin : ℕ → Option ℕ
  with_origin = written rows 8 (l.frame + slots_size) origin

  abbrev memory : ℕ → Option ℕ
  memory = written with_origin 8 (l.frame + (slots_size + 8)) base

  abbrev tabled : Core
  tabled = with_memory c memory

  table_lacks : (a : ℕ) → (a < at) ⊎ (at + table_size p ≤ a) → rows a ≡ c.memory a
  table_lacks a (inl below) = rw (lt-leb at a below) refl
  table_lacks a (inr above) = elim (cases_Bool (nat_le at a)) [
    | inl e ↦ rw (e, le-ltb a (at + table_size p) above) refl
    | inr e ↦ rw e refl
  ]

  table_has : (offset : ℕ) → offset < table_size p → rows (at + offset) ≡ Some (table_byte (unit p.format) table offset)
  table_has offset small =
      let low : nat_le at (at + offset) ≡ true = le-leb at (at + offset) (omega arith) in
      let high : nat_lt (at + offset) (at + table_size p) ≡ true = lt-ltb (at + offset) (at + table_size p) (omega (arith, small)) in
      let place : at + offset - at ≡ offset = omega arith in
      rw (low, high, place) refl

  pointers_lack : (a : ℕ) → (a < l.frame + slots_size) ⊎ (l.frame + frame_size ≤ a) → memory a ≡ rows a
  pointers_lack a (inl below) =
      written_elsewhere with_origin 8 (l.frame + (slots_size + 8)) base a (inl (omega (arith, below))) ∙ written_elsewhere rows 8 (l.frame + slots_size) origin a (inl below)
  pointers_lack a (inr above) =
      written_elsewhere with_origin 8 (l.frame + (slots_size + 8)) base a (inr (omega (arith, above))) ∙ written_elsewhere rows 8 (l.frame + slots_size) origin a (inr (omega (arith, above)))

  number_there : (b : ℕ) → (b + 4 ≤ l.frame + slots_size) ⊎ (l.frame + frame_size ≤ b) → number_at memory 4 b ≡ number_at rows 4 b
  number_there b (inl below) =
      number_elsewhere with_origin 8 (l.frame + (slots_size + 8)) base 4 b (inl (omega (arith, below))) ∙ number_elsewhere rows 8 (l.frame + slots_size) origin 4 b (inl below)
  number_there b (inr above) =
      number_elsewhere with_origin 8 (l.frame + (slots_size + 8)) base 4 b (inr (omega (arith, above))) ∙ number_elsewhere rows 8 (l.frame + slots_size) origin 4 b (inr (omega (arith, above)))

  -- a number of the table is apart from the frame
  row_apart : DoNotMeet at (table_size p) l.frame frame_size → (n : ℕ) → n + 4 ≤ table_size p → (at + n + 4 ≤ l.frame + slots_size) ⊎ (l.frame + frame_size ≤ at + n)
  row_apart (inl before) n fits = inl (omega (arith, before, fits))
  row_apart (inr after) n fits = inr (omega (arith, after))

  apart : (b n : ℕ) → DoNotMeet at (table_size p) b n → (j : ℕ) → j < n → rows (b + j) ≡ c.memory (b + j)
  apart b n (inl before) j small = table_lacks (b + j) (inr (omega (arith, before)))
  apart b n (inr after) j small = table_lacks (b + j) (inl (omega (arith, after, small)))

  -- the window lies apart from the frame
  window_apart : IsLayout p l → (a : ℕ) → IsIn (window p l) a → memory a ≡ rows a
  window_apart layout a is = pointers_lack a (elim layout.apart [
    | inl above ↦ let low = is.0 in inr (omega (arith, above, low))
    | inr below ↦ let high = is.1 in inl (omega (arith, below, high))
  ])

  tabled_related : (g : Going) → IsLayout p l → DoNotMeet at (table_size p) l.frame frame_size → DoNotMeet at (table_size p) l.data_start p.data_size → IsRelated p l g c → IsRelated p l g tabled
  tabled_related g layout by_frame by_data is = record {
    register_count = is.register_count;
    words = is.words;
    registers = λ r small. holds_on l c tabled r (value p g r) (assigned l.plan r)
        (λ none. number_same c.memory memory 4 (l.frame + 4 * r) (λ j few.
        let e : l.frame + (4 * r + j) ≡ l.frame + 4 * r + j = omega arith in
        subst (λ a. memory a ≡ c.memory a) e (pointers_lack (l.frame + (4 * r + j)) (inl (omega (arith, small, few))) ∙ apart l.frame frame_size by_frame (4 * r + j) (omega (arith, small, few)))))
        (λ q own. refl)
        (is.registers r small);
    frame = is.frame;
    frame_is_written = is.frame_is_written;
    few = is.few;
    left = is.left;
    bytes = λ k small. window_apart layout (l.data_start + k) (omega arith, omega (arith, small)) ∙ apart l.data_start p.data_size by_data k small ∙ is.bytes k small;
    bytes_are_written = is.bytes_are_written;
    origin_is = is.origin_is;
  }

  closed_stays : IsLayout p l → DoNotMeet at (table_size p) (window p l).at (window p l).size → IsClosed p l c → IsClosed p l tabled
  closed_stays layout by_window closed a is outside =
      window_apart layout a is ∙ table_lacks a (beside at (table_size p) (window p l).at (window p l).size a by_window is.0 is.1) ∙ closed a is outside

  -- a row's number
  row_there : (number c j place : ℕ) → place ≡ at + (2 * (unit p.format * number) + (4 * c + j)) → number < length p.code / unit p.format → c < 2 → j < 4
      → rows place ≡ Some (slice_index table (2 * number + c) / 256 ^ j % 256)
  row_there number c j place is below one less =
      let within = unit_within (unit p.format) (length p.code) number (units p.format) below in
      ap rows is ∙ table_has (2 * (unit p.format * number) + (4 * c + j)) (omega (arith, within, one, less)) ∙ ap Some (row_byte (unit p.format) table number c j (units p.format) one less)

  abbrev has_table : (code : List Line) → AreEntries l.plan p code table → exit_of l.plan code < 2 ^ 32 → base < 2 ^ 64 → DoNotMeet at (table_size p) l.frame frame_size → DoNotMeet at (table_size p) l.data_start p.data_size
      → HasTable p l base code tabled
  has_table code entries few low by_frame by_data = record {
    table = table;
    entries = entries;
    at = at;
    ends = ends;
    frame_apart = by_frame;
    data_apart = by_data;
    holds = λ number below.
        let v = slice_index table (2 * number) in
        let fits : v < 2 ^ 32 = omega (arith, entries.entries number below, entry_below l.plan code (label (unit_address p number) code), few) in
        let none : 2 * number + 0 ≡ 2 * number = omega arith in
        let within = unit_within (unit p.format) (length p.code) number (units p.format) below in
        number_there (at + 2 * (unit p.format * number)) (row_apart by_frame (2 * (unit p.format * number)) (omega (arith, within)))
        ∙ number_of_bytes rows (at + 2 * (unit p.format * number)) v fits (λ j less.
        row_there number 0 j (at + 2 * (unit p.format * number) + j) (omega arith) below (omega arith) less ∙ ap (λ n. Some (slice_index table n / 256 ^ j % 256)) none);
    holds_owed = λ number below.
        let v = slice_index table (2 * number + 1) in
        let fits : v < 2 ^ 32 = omega (arith, entries.owed number below, entry_few l.plan p (label (unit_address p number) code)) in
        let within = unit_within (unit p.format) (length p.code) number (units p.format) below in
        let place : at + (2 * (unit p.format * number) + 4) ≡ at + 2 * (unit p.format * number) + 4 = omega arith in
        subst (λ b. number_at memory 4 b ≡ number_at rows 4 b) place (number_there (at + (2 * (unit p.format * number) + 4)) (row_apart by_frame (2 * (unit p.format * number) + 4) (omega (arith, within))))
        ∙ number_of_bytes rows (at + 2 * (unit p.format * number) + 4) v fits (λ j less. row_there number 1 j (at + 2 * (unit p.format * number) + 4 + j) (omega arith) below (omega arith) less);
    origin_is = number_elsewhere with_origin 8 (l.frame + (slots_size + 8)) base 8 (l.frame + slots_size) (inl (omega arith))
        ∙ long_number_of_bytes with_origin 8 (l.frame + slots_size) origin (omega arith) (written_here rows 8 (l.frame + slots_size) origin);
    code_is = long_number_of_bytes memory 8 (l.frame + (slots_size + 8)) base low (written_here with_origin 8 (l.frame + (slots_size + 8)) base);
  }

-- so many bytes beside the window are beside the data
pub of_window : (p : Part) (l : Layout) (from n : ℕ) → DoNotMeet from n (window p l).at (window p l).size → DoNotMeet from n l.data_start p.data_size
of_window p l from n (inl before) = inl (omega (arith, before))
of_window p l from n (inr after) = inr (omega (arith, after))

pub each_table_can_be_held : EachTableCanBeHeld
each_table_can_be_held p l base code table at is t from g c entries few low ends by_frame by_window before =
    let by_data = of_window p l at (table_size p) by_window in (
      tabled p l base table at c ends,
      record {
        layout = before.layout;
        text_is_fixed = record { ends = before.text_is_fixed.ends; apart = before.text_is_fixed.apart };
        text_is_low = before.text_is_low;
        faults_are_handled = before.faults_are_handled;
        stands = before.stands;
        related = tabled_related p l base table at c ends g before.layout by_frame by_data before.related;
        closed = closed_stays p l base table at c ends before.layout by_window before.closed;
      },
      has_table p l base table at c ends code entries few low by_frame by_data,
      refl,
    )
