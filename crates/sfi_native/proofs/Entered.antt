-- Where units are entered.
use Rattle.std.proofs.Common.{◌≡◌, ℕ, ◌+◌, ◌-◌, ◌*◌, ◌%◌, ◌^◌, ◌<◌, inl, inr, Bool, true, false, if◌then◌else◌, List, [], ◌∷◌, ◌++◌, length, slice_index, Option, Some, None, refl, sym, ap, ◌∙◌, arith}
use Rattle.std.proofs.lemmas.Bool.{cases_lt, eqb-true}
use Rattle.std.specs.Prelude.{◌==◌}
use Rattle.std.proofs.lemmas.List.{get_or-append-add, get_or_append_left}
use Rattle.std.proofs.lemmas.Option.{same_Some}
use Rattle.std.specs.BTreeMap.{BTreeMap, get}
use Rattle.std.specs.Ordering.{nat_cmp}
use Rattle.std.specs.Option.{option_map}
use Rattle.sfi_formats.specs.Formats.{unit}
use Rattle.sfi_image.specs.Spelling.{Part}
use Rattle.rv_word.specs.declared.instr.Instr.{Instr}
use Rattle.sfi_translate.specs.Lines.{Line, Function, End, Entry, Head, Does}
use Rattle.sfi_translate.specs.Machine.{label}
use Rattle.sfi_native.specs.declared.plan.Plan.{Plan}
use Rattle.sfi_native.specs.Registers.{owed}
use Rattle.sfi_native.specs.Entries.{entry_of, owed_at_entry, unit_address}
use Rattle.sfi_native.specs.Lines.{AreMeasured}
use Rattle.sfi_native.specs.Places.{owed_before, size_of_all}
use Rattle.sfi_native.proofs.Places.{label_last, last_below}

of_label : (plan : Plan) (code : List Line) (to left all : ℕ) (o : Option (List Line)) → label to code ≡ o → option_map (size_of_all plan) o ≡ Some left → all ≡ size_of_all plan code → size_of_all plan code < 2 ^ 31
    → (all + (2 ^ 32 - left)) % 2 ^ 32 ≡ entry_of plan code o
of_label plan code to left all None is e all_is few = absurd (cc)
of_label plan code to left all (Some rest) is e all_is few =
    let same : size_of_all plan rest ≡ left = cc in
    omega (arith, last_below plan code rest (label_last to code rest is), same, all_is, few)

of_none : (plan : Plan) (code : List Line) (all : ℕ) (o : Option (List Line)) → option_map (size_of_all plan) o ≡ None → all ≡ size_of_all plan code → size_of_all plan code < 2 ^ 31
    → (all + 68) % 2 ^ 32 ≡ entry_of plan code o
of_none plan code all None e all_is few = omega (arith, all_is, few)
of_none plan code all (Some rest) e all_is few = absurd (cc)

-- a label's place
pub entered : (plan : Plan) (code : List Line) (bytes : List ℕ) (labels : BTreeMap ℕ ℕ) (to left all : ℕ) → AreMeasured plan code bytes labels → all ≡ size_of_all plan code → get nat_cmp labels to ≡ Some left
    → (all + (2 ^ 32 - left)) % 2 ^ 32 ≡ entry_of plan code (label to code)
entered plan code bytes labels to left all measured all_is held = of_label plan code to left all (label to code) refl (sym (measured.left to) ∙ held) all_is measured.few

-- and the way out, where there is none
pub not_entered : (plan : Plan) (code : List Line) (bytes : List ℕ) (labels : BTreeMap ℕ ℕ) (to all : ℕ) → AreMeasured plan code bytes labels → all ≡ size_of_all plan code → get nat_cmp labels to ≡ None
    → (all + 68) % 2 ^ 32 ≡ entry_of plan code (label to code)
not_entered plan code bytes labels to all measured all_is held = of_none plan code all (label to code) (sym (measured.left to) ∙ held) all_is measured.few

-- what a label's lines begin with
found_owed : (t : Bool) (plan : Plan) (p : Part) (to at n : ℕ) (i : Instr) (lines rest : List Line) (o : Option (List Line)) → (at == to) ≡ t
    → (o ≡ Some rest → owed_before plan p rest ≡ owed plan to) → (if t then Some (Does at n i ∷ lines) else o) ≡ Some rest → owed_before plan p rest ≡ owed plan to
found_owed true plan p to at n i lines rest o is later e = ap (owed_before plan p) (sym (same_Some _ _ e)) ∙ ap (owed plan) (eqb-true at to is)
found_owed false plan p to at n i lines rest o is later e = later e

owed_of_label : (plan : Plan) (p : Part) (to : ℕ) (code rest : List Line) → label to code ≡ Some rest → owed_before plan p rest ≡ owed plan to
owed_of_label plan p to [] rest e = absurd (cc)
owed_of_label plan p to (Does at n i ∷ lines) rest e = found_owed (at == to) plan p to at n i lines rest (label to lines) refl (owed_of_label plan p to lines rest) e
owed_of_label plan p to (Function sandbox at ∷ lines) rest e = owed_of_label plan p to lines rest e
owed_of_label plan p to (End at ∷ lines) rest e = owed_of_label plan p to lines rest e
owed_of_label plan p to (Entry at ∷ lines) rest e = owed_of_label plan p to lines rest e
owed_of_label plan p to (Head at ∷ lines) rest e = owed_of_label plan p to lines rest e

owed_by : (plan : Plan) (p : Part) (code : List Line) (to left : ℕ) (o : Option (List Line)) → label to code ≡ o → option_map (size_of_all plan) o ≡ Some left → owed plan to ≡ owed_at_entry plan p o
owed_by plan p code to left None is e = absurd (cc)
owed_by plan p code to left (Some rest) is e = sym (owed_of_label plan p to code rest is)

none_by : (plan : Plan) (p : Part) (o : Option (List Line)) → option_map (size_of_all plan) o ≡ None → 0 ≡ owed_at_entry plan p o
none_by plan p None e = refl
none_by plan p (Some rest) e = absurd (cc)

-- how many steps are owed at a label
pub owed_entered : (plan : Plan) (p : Part) (code : List Line) (bytes : List ℕ) (labels : BTreeMap ℕ ℕ) (to left : ℕ) → AreMeasured plan code bytes labels → get nat_cmp labels to ≡ Some left
    → owed plan to ≡ owed_at_entry plan p (label to code)
owed_entered plan p code bytes labels to left measured held = owed_by plan p code to left (label to code) refl (sym (measured.left to) ∙ held)

-- and where there is none
pub owed_not_entered : (plan : Plan) (p : Part) (code : List Line) (bytes : List ℕ) (labels : BTreeMap ℕ ℕ) (to : ℕ) → AreMeasured plan code bytes labels → get nat_cmp labels to ≡ None
    → 0 ≡ owed_at_entry plan p (label to code)
owed_not_entered plan p code bytes labels to measured held = none_by plan p (label to code) (sym (measured.left to) ∙ held)

-- each place of a table is that of its unit
pub record HasEntries (plan : Plan) (p : Part) (code : List Line) (count : ℕ) (table : List ℕ) : Type 0 where
  pub entries : (number : ℕ) → number < count → slice_index table (2 * number) ≡ entry_of plan code (label (unit_address p number) code)
  pub owed : (number : ℕ) → number < count → slice_index table (2 * number + 1) ≡ owed_at_entry plan p (label (unit_address p number) code)

pub no_entries : (plan : Plan) (p : Part) (code : List Line) → HasEntries plan p code 0 []
no_entries plan p code = record { entries = λ number below. absurd (omega (arith, below)); owed = λ number below. absurd (omega (arith, below)) }

-- two numbers behind an even count of them
of_two : (table : List ℕ) (count a b : ℕ) → length table ≡ 2 * count → (slice_index (table ++ a ∷ b ∷ []) (2 * count) ≡ a) × (slice_index (table ++ a ∷ b ∷ []) (2 * count + 1) ≡ b)
of_two table count a b is =
    let all = table ++ a ∷ b ∷ [] in
    let first : 2 * count ≡ length table + 0 = omega (arith, is) in
    let second : 2 * count + 1 ≡ length table + 1 = omega (arith, is) in
    (ap (slice_index all) first ∙ get_or-append-add table (a ∷ b ∷ []) 0 0, ap (slice_index all) second ∙ get_or-append-add table (a ∷ b ∷ []) 1 0)

pub one_more_entry : (plan : Plan) (p : Part) (code : List Line) (table : List ℕ) (count entry n : ℕ) → length table ≡ 2 * count → HasEntries plan p code count table
    → entry ≡ entry_of plan code (label (unit_address p count) code) → n ≡ owed_at_entry plan p (label (unit_address p count) code) → HasEntries plan p code (count + 1) (table ++ entry ∷ n ∷ [])
one_more_entry plan p code table count entry n count_is held own owes = record {
  entries = λ number below. elim (cases_lt number count) [
    | inl before ↦ get_or_append_left table (entry ∷ n ∷ []) 0 (2 * number) (omega (arith, before, count_is)) ∙ held.entries number before
    | inr behind ↦
        let last : number ≡ count = omega (arith, below, behind) in
        ap (λ k. slice_index (table ++ entry ∷ n ∷ []) (2 * k)) last ∙ (of_two table count entry n count_is).0 ∙ own ∙ ap (λ k. entry_of plan code (label (unit_address p k) code)) (sym last)
  ];
  owed = λ number below. elim (cases_lt number count) [
    | inl before ↦ get_or_append_left table (entry ∷ n ∷ []) 0 (2 * number + 1) (omega (arith, before, count_is)) ∙ held.owed number before
    | inr behind ↦
        let last : number ≡ count = omega (arith, below, behind) in
        ap (λ k. slice_index (table ++ entry ∷ n ∷ []) (2 * k + 1)) last ∙ (of_two table count entry n count_is).1 ∙ owes ∙ ap (λ k. owed_at_entry plan p (label (unit_address p k) code)) (sym last)
  ];
}

-- the address of the unit behind one
pub next_address : (p : Part) (number at step : ℕ) → at ≡ unit_address p number → step ≡ unit p.format → (at + step) % 2 ^ 32 ≡ unit_address p (number + 1)
next_address p number at step at_is step_is =
    let more : unit p.format * (number + 1) ≡ unit p.format * number + unit p.format = omega arith in
    omega (arith, at_is, step_is, more)
