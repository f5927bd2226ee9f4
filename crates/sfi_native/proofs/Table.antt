-- The table of entries, and lines that lie in the sandbox's code.
use Rattle.std.proofs.Common.{◌≡◌, ℕ, zero, suc, ◌+◌, ◌*◌, ◌/◌, ◌<◌, ◌≤◌, ◌⊎◌, inl, inr, List, [], ◌∷◌, length, Option, Some, None, refl, sym, ◌∙◌, subst, arith}
use Rattle.sfi_formats.specs.Formats.{unit}
use Rattle.sfi_image.specs.Spelling.{Part}
use Rattle.sfi_image.proofs.Facts.{code_ends}
use Rattle.sfi_translate.specs.Lines.{Line, Function, End, Entry, Head, Does}
use Rattle.sfi_translate.proofs.Facts.{units_are_whole}
use Rattle.sfi_translate.proofs.Following.{Follow, code_follows, label_follows}
use Rattle.sfi_translate.proofs.LinesStand.{fits, line_some, units}
use Rattle.x86_step.specs.State.{Core, number_at}
use Rattle.sfi_native.specs.declared.plan.Plan.{Plan}
use Rattle.sfi_native.specs.declared.layout.Layout.{Layout}
use Rattle.sfi_native.specs.Layout.{IsLayout, DoNotMeet, IsOutside, OthersStay, frame_size, slots_size}
use Rattle.sfi_native.specs.Entries.{entry_of}
use Rattle.sfi_native.specs.Places.{exit_of}
use Rattle.sfi_native.specs.Table.{HasTable, LinesLieInCode, table_size}
use Rattle.sfi_native.proofs.Following.{lines_follow_on}
use Rattle.sfi_native.proofs.Kept.{Kept, others_kept, outside_slots, pointers_stay}

-- ==== The table stays.

-- a number whose bytes stay
pub number_same : (m w : ℕ → Option ℕ) (n at : ℕ) → ((j : ℕ) → j < n → w (at + j) ≡ m (at + j)) → number_at w n at ≡ number_at m n at
number_same m w zero at each = refl
number_same m w (suc n) at each =
    let z : at + 0 ≡ at = omega arith in
    let here : w at ≡ m at = subst (λ a. w a ≡ m a) z (each 0 (omega arith)) in
    let rest = number_same m w n (at + 1) (λ j below. let next : at + suc j ≡ at + 1 + j = omega arith in subst (λ a. w a ≡ m a) next (each (suc j) (omega (arith, below)))) in
    rw (here, rest) refl

-- where what lies behind the frame's registers stays, so does a number there
pub pointer_same : (l : Layout) (m w : ℕ → Option ℕ) → ((k : ℕ) → slots_size ≤ k → k < frame_size → w (l.frame + k) ≡ m (l.frame + k)) → (n : ℕ) → slots_size ≤ n → n + 8 ≤ frame_size
    → number_at w 8 (l.frame + n) ≡ number_at m 8 (l.frame + n)
pointer_same l m w each n behind fits = number_same m w 8 (l.frame + n) (λ j few.
    let e : l.frame + (n + j) ≡ l.frame + n + j = omega arith in
    subst (λ a. w a ≡ m a) e (each (n + j) (omega (arith, behind)) (omega (arith, fits, few))))

-- four bytes of a unit, of 16 or 4
pub unit_within : (u len number : ℕ) → (u ≡ 16) ⊎ (u ≡ 4) → number < len / u → u * number + 4 ≤ len
unit_within u len number (inl e) below =
    let less : number < len / 16 = subst (λ v. number < len / v) e below in
    subst (λ v. v * number + 4 ≤ len) (sym e) (omega (arith, less))
unit_within u len number (inr e) below =
    let less : number < len / 4 = subst (λ v. number < len / v) e below in
    subst (λ v. v * number + 4 ≤ len) (sym e) (omega (arith, less))

pub outside : (at n b m a : ℕ) → DoNotMeet at n b m → at ≤ a → a < at + n → IsOutside a b m
outside at n b m a (inl before) low high = inl (omega (arith, before, high))
outside at n b m a (inr after) low high = inr (omega (arith, after, low))

module _ (p : Part) (l : Layout) (layout : IsLayout p l) (base : ℕ) (code : List Line) (c d : Core) where
  pub table_stays : OthersStay p l c d → HasTable p l base code c → HasTable p l base code d
  table_stays stay has =
      let same_there = λ (n : ℕ) (fits : n + 4 ≤ table_size p). number_same c.memory d.memory 4 (has.at + n) (λ j few.
      let a = has.at + n + j in
      stay.elsewhere a (outside_slots a l.frame (outside has.at (table_size p) l.frame frame_size a has.frame_apart (omega arith) (omega (arith, fits, few))))
      (outside has.at (table_size p) l.data_start p.data_size a has.data_apart (omega arith) (omega (arith, fits, few)))) in
      let within = λ (number : ℕ) (below : number < length p.code / unit p.format). unit_within (unit p.format) (length p.code) number (units p.format) below in
      record {
        table = has.table;
        entries = has.entries;
        at = has.at;
        ends = has.ends;
        frame_apart = has.frame_apart;
        data_apart = has.data_apart;
        holds = λ number below. same_there (2 * (unit p.format * number)) (omega (arith, within number below)) ∙ has.holds number below;
        holds_owed = λ number below.
            let at : has.at + (2 * (unit p.format * number) + 4) ≡ has.at + 2 * (unit p.format * number) + 4 = omega arith in
            subst (λ a. number_at d.memory 4 a ≡ number_at c.memory 4 a) at (same_there (2 * (unit p.format * number) + 4) (omega (arith, within number below))) ∙ has.holds_owed number below;
        origin_is = pointer_same l c.memory d.memory (pointers_stay p l layout c d stay) slots_size (omega arith) (omega arith) ∙ has.origin_is;
        code_is = pointer_same l c.memory d.memory (pointers_stay p l layout c d stay) (slots_size + 8) (omega arith) (omega arith) ∙ has.code_is;
      }

  pub table_kept : Kept c d → HasTable p l base code c → HasTable p l base code d
  table_kept k has = table_stays (others_kept p l c d k) has

-- ==== Entries and labels.

pub entry_below : (plan : Plan) (code : List Line) (o : Option (List Line)) → entry_of plan code o ≤ exit_of plan code
entry_below plan code None = omega arith
entry_below plan code (Some rest) = omega arith

followed : (p : Part) (at : ℕ) (rest : List Line) → Follow p 4 at rest → (p.code_base ≤ at) × (at < p.code_base + length p.code)
followed p at [] f = absurd (omega (arith, f.0))
followed p at (Function sandbox x ∷ rest) f = absurd (omega (arith, f.0))
followed p at (End x ∷ rest) f = absurd (omega (arith, f.2))
followed p at (Entry x ∷ rest) f = absurd (omega (arith, f.1))
followed p at (Head x ∷ rest) f = absurd (omega (arith, f.2))
followed p at (Does x n i ∷ rest) f =
    let line = f.1 in
    (omega (arith, line.at_is), omega (arith, line.at_is, line.within, fits p at i n line, line_some p at i n line))

pub lines_lie_in_code : LinesLieInCode
lines_lie_in_code sandbox p code clean lines =
    let follow = code_follows sandbox p clean.right (λ number reading within longest. units_are_whole sandbox p number reading clean within longest) code lines in
    record {
      region = clean.right.code_placed;
      ends = code_ends p clean.right;
      labels = λ at rest is. followed p at rest (label_follows p at code rest 0 p.code_base follow is);
      follow = lines_follow_on sandbox p code clean lines;
    }
