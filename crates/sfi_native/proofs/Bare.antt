-- A processor that has the bytes of frame, table and data alone.
use Rattle.std.proofs.Common.{◌/◌, ◌≡◌, ℕ, ◌+◌, ◌*◌, ◌<◌, ◌≤◌, ◌&&◌, ◌⊎◌, inl, inr, Bool, true, false, List, length, Option, None, refl, sym, ap, ◌∙◌, subst, arith, nat_lt}
use Rattle.std.specs.Prelude.{nat_le}
use Rattle.std.proofs.lemmas.Bool.{and_parts, cases_lt, le-leb, leb-true, lt-ltb, ltb-true}
use Rattle.sfi_formats.specs.Formats.{unit}
use Rattle.sfi_image.specs.Spelling.{Part}
use Rattle.sfi_translate.specs.Lines.{Line}
use Rattle.sfi_translate.specs.Machine.{Going}
use Rattle.sfi_translate.proofs.LinesStand.{units}
use Rattle.x86_instr.specs.declared.instr.Instr.{Instr as Native}
use Rattle.x86_step.specs.Accesses.{Agree, HasNoOthers}
use Rattle.x86_step.specs.State.{Core, IsIn, Span, Text, number_at, with_memory}
use Rattle.sfi_native.specs.declared.layout.Layout.{Layout}
use Rattle.sfi_native.specs.Registers.{assigned}
use Rattle.sfi_native.specs.Laws.{IsBefore}
use Rattle.sfi_native.specs.Layout.{IsClosed, IsRelated, frame_size, window, slots_size, value}
use Rattle.sfi_native.specs.Table.{HasTable, table_size}
use Rattle.sfi_native.specs.Whole.{IsAccessed, frame_span, table_span}
use Rattle.sfi_native.proofs.Assigned.{holds_on}
use Rattle.sfi_native.proofs.Table.{number_same, unit_within}

-- ==== Whether an address is there.

abbrev in_span : Span → ℕ → Bool
in_span span a = nat_le span.at a && nat_lt a (span.at + span.size)

span_has : (span : Span) (a : ℕ) → IsIn span a → in_span span a ≡ true
span_has span a is =
    let low : nat_le span.at a ≡ true = le-leb span.at a is.0 in
    let high : nat_lt a (span.at + span.size) ≡ true = lt-ltb a (span.at + span.size) is.1 in
    rw (low, high) refl

span_is : (span : Span) (a : ℕ) → in_span span a ≡ true → IsIn span a
span_is span a is =
    let parts = and_parts (nat_le span.at a) (nat_lt a (span.at + span.size)) is in
    (leb-true span.at a parts.0, ltb-true a (span.at + span.size) parts.1)

-- what is in one of three places, or else none
abbrev where_one : Bool → Bool → Bool → Option ℕ → Option ℕ
where_one true y z v = v
where_one false true z v = v
where_one false false true v = v
where_one false false false v = None

second_has : (x z : Bool) (v : Option ℕ) → where_one x true z v ≡ v
second_has true z v = refl
second_has false z v = refl

third_has : (x y : Bool) (v : Option ℕ) → where_one x y true v ≡ v
third_has true y v = refl
third_has false true v = refl
third_has false false v = refl

none_is : (x y z : Bool) → where_one x y z None ≡ None
none_is true y z = refl
none_is false true z = refl
none_is false false true = refl
none_is false false false = refl

one_or_none : (P : Type 0) (x y z : Bool) (v : Option ℕ) → (x ≡ true → P) → (y ≡ true → P) → (z ≡ true → P) → P ⊎ (where_one x y z v ≡ None)
one_or_none P true y z v first second third = inl (first refl)
one_or_none P false true z v first second third = inl (second refl)
one_or_none P false false true v first second third = inl (third refl)
one_or_none P false false false v first second third = inr refl

-- ==== Its memory.

module _ (p : Part) (l : Layout) (table_at : ℕ) (c : Core) where
  abbrev data_span : Span
  data_span = record { at = l.data_start; size = p.data_size }

  abbrev pub bytes : ℕ → Option ℕ
  bytes a = where_one (in_span (frame_span l) a) (in_span (table_span p table_at) a) (in_span data_span a) (c.memory a)

  abbrev pub bare : Core
  bare = with_memory c bytes

  in_frame : (a : ℕ) → IsIn (frame_span l) a → bytes a ≡ c.memory a
  in_frame a is = ap (λ x. where_one x (in_span (table_span p table_at) a) (in_span data_span a) (c.memory a)) (span_has (frame_span l) a is)

  in_table : (a : ℕ) → IsIn (table_span p table_at) a → bytes a ≡ c.memory a
  in_table a is =
      ap (λ y. where_one (in_span (frame_span l) a) y (in_span data_span a) (c.memory a)) (span_has (table_span p table_at) a is)
      ∙ second_has (in_span (frame_span l) a) (in_span data_span a) (c.memory a)

  in_data : (a : ℕ) → IsIn data_span a → bytes a ≡ c.memory a
  in_data a is =
      ap (λ z. where_one (in_span (frame_span l) a) (in_span (table_span p table_at) a) z (c.memory a)) (span_has data_span a is)
      ∙ third_has (in_span (frame_span l) a) (in_span (table_span p table_at) a) (c.memory a)

  missing : (a : ℕ) → c.memory a ≡ None → bytes a ≡ None
  missing a none =
      ap (where_one (in_span (frame_span l) a) (in_span (table_span p table_at) a) (in_span data_span a)) none
      ∙ none_is (in_span (frame_span l) a) (in_span (table_span p table_at) a) (in_span data_span a)

  pub has_no_others : HasNoOthers (IsAccessed p l table_at) bytes
  has_no_others a =
      one_or_none (IsAccessed p l table_at a) (in_span (frame_span l) a) (in_span (table_span p table_at) a) (in_span data_span a) (c.memory a)
      (λ is. inl (span_is (frame_span l) a is))
      (λ is. inr (inl (span_is (table_span p table_at) a is)))
      (λ is. inr (inr (let inside = span_is data_span a is in (omega (arith, inside.0), omega (arith, inside.1)))))

  -- in the window it has what was there
  in_window : IsClosed p l c → (a : ℕ) → IsIn (window p l) a → c.memory a ≡ bytes a
  in_window closed a is = elim (cases_lt a l.data_start) [
    | inl before ↦ let none = closed a is (inl before) in none ∙ sym (missing a none)
    | inr from ↦ elim (cases_lt a (l.data_start + p.data_size)) [
      | inl inside ↦ sym (in_data a (from, inside))
      | inr behind ↦ let none = closed a is (inr behind) in none ∙ sym (missing a none)
    ]
  ]

  pub agree : IsClosed p l c → Agree (IsAccessed p l table_at) bytes c.memory
  agree closed a (inl is) = sym (in_frame a is)
  agree closed a (inr (inl is)) = sym (in_table a is)
  agree closed a (inr (inr is)) = in_window closed a is

  -- ==== It has the turn's state, and its table.

  bare_related : (g : Going) → IsRelated p l g c → IsRelated p l g bare
  bare_related g is = record {
    register_count = is.register_count;
    words = is.words;
    registers = λ r small. holds_on l c bare r (value p g r) (assigned l.plan r)
        (λ none. number_same c.memory bytes 4 (l.frame + 4 * r) (λ j few. in_frame (l.frame + 4 * r + j) (omega arith, omega (arith, small, few))))
        (λ q own. refl) (is.registers r small);
    frame = is.frame;
    frame_is_written = is.frame_is_written;
    few = is.few;
    left = is.left;
    bytes = λ k small. in_data (l.data_start + k) (omega arith, omega (arith, small)) ∙ is.bytes k small;
    bytes_are_written = is.bytes_are_written;
    origin_is = is.origin_is;
  }

  pub bare_before : (is : List Native) (t : Text) (at : ℕ) (g : Going) → IsBefore is t at p l g c → IsBefore is t at p l g bare
  bare_before is t at g here = record {
    layout = here.layout;
    text_is_fixed = record { ends = here.text_is_fixed.ends; apart = here.text_is_fixed.apart };
    text_is_low = here.text_is_low;
    faults_are_handled = here.faults_are_handled;
    stands = here.stands;
    related = bare_related g here.related;
    closed = λ a is outside. missing a (here.closed a is outside);
  }

pub bare_table : (p : Part) (l : Layout) (base : ℕ) (code : List Line) (c : Core) (has : HasTable p l base code c) → HasTable p l base code (bare p l has.at c)
bare_table p l base code c has =
    let same_there = λ (n : ℕ) (fits : n + 4 ≤ table_size p). number_same c.memory (bytes p l has.at c) 4 (has.at + n)
    (λ j few. in_table p l has.at c (has.at + n + j) (omega arith, omega (arith, fits, few))) in
    let pointer_there = λ (n : ℕ) (fits : n + 8 ≤ frame_size). number_same c.memory (bytes p l has.at c) 8 (l.frame + n)
    (λ j few. in_frame p l has.at c (l.frame + n + j) (omega arith, omega (arith, fits, few))) in
    let within = λ (number : ℕ) (below : number < length p.code / unit p.format). unit_within (unit p.format) (length p.code) number (units p.format) below in
    record {
      table = has.table;
      entries = has.entries;
      at = has.at;
      ends = has.ends;
      frame_apart = has.frame_apart;
      data_apart = has.data_apart;
      holds = λ number below. same_there (2 * (unit p.format * number)) (omega (arith, within number below)) ∙ has.holds number below;
      holds_owed = λ number below.
          let at : has.at + (2 * (unit p.format * number) + 4) ≡ has.at + 2 * (unit p.format * number) + 4 = omega arith in
          subst (λ a. number_at (bytes p l has.at c) 4 a ≡ number_at c.memory 4 a) at (same_there (2 * (unit p.format * number) + 4) (omega (arith, within number below))) ∙ has.holds_owed number below;
      origin_is = pointer_there slots_size (omega arith) ∙ has.origin_is;
      code_is = pointer_there (slots_size + 8) (omega arith) ∙ has.code_is;
    }
