-- Code behind a count of steps.
use Rattle.std.proofs.Common.{◌≡◌, ℕ, suc, ◌+◌, ◌-◌, ◌%◌, ◌^◌, ◌<◌, ◌≤◌, ◌==◌, true, List, ◌++◌, length, refl, arith, inl, inr}
use Rattle.std.proofs.lemmas.Bool.{cases_Bool, cases_lt, eq-eqb, le-ltb, lt-ltb}
use Rattle.sfi_image.specs.Spelling.{Part}
use Rattle.sfi_translate.specs.Machine.{Going}
use Rattle.x86_instr.specs.declared.instr.Instr.{Instr as Native}
use Rattle.x86_instr.specs.Spelling.{is_short}
unfoldable use Rattle.x86_instr.specs.Spelling.{rex, spelling}
use Rattle.x86_step.specs.State.{Core, Machine, Text}
use Rattle.x86_step.specs.Step.{Reaches}
use Rattle.x86_step.specs.Running.{spellings}
use Rattle.x86_step.proofs.Running.{in_more}
use Rattle.sfi_native.specs.declared.layout.Layout.{Layout}
use Rattle.sfi_native.specs.Laws.{IsBefore, end_of}
use Rattle.sfi_native.specs.Code.{count, count_size}
use Rattle.sfi_native.proofs.Counting.{Counts, counts, having}
use Rattle.sfi_native.proofs.Kept.{closed_kept}
use Rattle.sfi_native.proofs.Runs.{Runs, back_fixed, back_stands, end_append, straight_runs, then_reaches}

-- ==== Its bytes.

small_short : (owed next : ℕ) → owed < 65 → next < 65 → is_short ((owed + (2 ^ 32 - next)) % 2 ^ 32) ≡ true
small_short owed next few few_next =
    let n = (owed + (2 ^ 32 - next)) % 2 ^ 32 in
    elim (cases_lt owed next) [
      | inl more ↦ eq-eqb _ n (rw (le-ltb (n % 256) 128 (omega (arith, more, few_next))) (omega (arith, more, few_next)))
      | inr fewer ↦ eq-eqb _ n (rw (lt-ltb (n % 256) 128 (omega (arith, fewer, few))) (omega (arith, fewer, few)))
    ]

pub count_bytes : (owed next : ℕ) → owed < 65 → next < 65 → length (spellings (count owed next)) ≡ count_size owed next
unfolding spelling rex
count_bytes owed next few few_next = elim (cases_Bool (owed == next)) [
  | inl e ↦ rw e refl
  | inr e ↦ rw (e, small_short owed next few few_next) refl
]

pub size_most : (owed next : ℕ) → count_size owed next ≤ 4
size_most owed next = elim (cases_Bool (owed == next)) [ inl e ↦ rw e (omega arith) | inr e ↦ rw e (omega arith) ]

pub count_one : (owed next : ℕ) → length (count owed next) ≤ 1
count_one owed next = elim (cases_Bool (owed == next)) [ inl e ↦ rw e (omega arith) | inr e ↦ rw e (omega arith) ]

-- none are few
pub none_few : 0 < 2 ^ 31
none_few = omega arith

-- ==== What stands behind.

module _ (t : Text) (at : ℕ) (p : Part) (l : Layout) (g : Going) (c : Core) (owed next left : ℕ) (has : g.left ≡ left + owed) (fits : left + next < 2 ^ 32) (few : owed < 2 ^ 31) (few_next : next < 2 ^ 31)
    (js : List Native) (here : IsBefore (count owed next ++ js) t at p l g c) where
  pub it : Counts p l here.layout g c here.related owed next left has fits few few_next (count owed next)
  it = counts p l here.layout g c here.related owed next left has fits few few_next

  runs : Runs (count owed next) c it.core
  runs = straight_runs (count owed next) c it.core it.straight it.runs

  abbrev pub from : ℕ
  from = end_of at (count owed next)

  pub before : IsBefore js t from p l (having (left + next) g) it.core
  before = record {
    layout = here.layout;
    text_is_fixed = back_fixed t at (count owed next) js c it.core here.text_is_fixed here.text_is_low here.stands runs;
    text_is_low = here.text_is_low;
    faults_are_handled = here.faults_are_handled;
    stands = back_stands t at (count owed next) js c it.core here.text_is_fixed here.text_is_low here.stands runs;
    related = it.related;
    closed = closed_kept p l here.layout c it.core it.stay here.closed;
  }

  pub ends : end_of from js ≡ end_of at (count owed next ++ js)
  ends = end_append at (count owed next) js

  pub behind : (most : ℕ) (k : Machine) → Reaches t most (record { rip = from; core = it.core }) k → Reaches t (suc most) (record { rip = at; core = c }) k
  behind most k more =
      in_more t (length (count owed next) + most) (suc most) _ _ (omega (arith, count_one owed next))
      (then_reaches t at (count owed next) js c it.core here.text_is_fixed here.text_is_low here.stands runs most k more)
