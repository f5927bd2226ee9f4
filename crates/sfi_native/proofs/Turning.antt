-- The moves of a turn of a sandbox without a finding: code's up to a slow step, then the host's.
use Rattle.std.proofs.Common.{◌≡◌, ℕ, zero, suc, ◌+◌, ◌/◌, ◌%◌, ◌^◌, ◌<◌, ◌≤◌, ◌⊎◌, inl, inr, ◌&&◌, Bool, true, false, List, [], ◌∷◌, length, Option, Some, None, refl, sym, ap, ◌∙◌, subst, arith, ⊎_elim, if◌then◌else◌, nat_lt, ◌*◌}
use Rattle.std.specs.Prelude.{◌==◌, ◌||◌, nat_le, not}
use Rattle.std.proofs.lemmas.Bool.{cond_both, leb-true, ltb-true}
use Rattle.rv_word.specs.declared.instr.Instr.{Instr}
use Rattle.rv_word.specs.declared.instr.Instr.TheVariants.{Op, OpImm, Load, Store, Branch, Jal, Jalr, Lui, Auipc, Fence, Ecall, Ebreak}
use Rattle.rv_word.specs.Spelling.{offset_by}
use Rattle.rv_step.specs.State.{Hart, State, even_of, register, with_pc}
use Rattle.rv_step.specs.Step.{is_taken}
use Rattle.sfi_formats.specs.Formats.{unit}
use Rattle.sfi_image.specs.Spelling.{Part}
use Rattle.sfi_image.proofs.Formats.{code_at_most}
use Rattle.sfi_translate.specs.Lines.{Line, Function, End, Entry, Head, Does, head_bytes}
use Rattle.sfi_translate.specs.Machine.{Assembly, AreTranslatedSteps, Before, ControlPoint, Going, IsTranslatedStep, IsTranslatedStepAt, Loop, Lost, Slow, Stopped, after_line, at_head, before_or, enters, fixed, from_loop, goes, is_done, is_short, jumps, label, line_step, most, one_less}
use Rattle.sfi_translate.specs.Laws.{IsOver, IsTurnTo}
use Rattle.sfi_translate.proofs.Facts.{reached_harts_are_fixed, translated_runs_as_image, turns_are_ready, turns_go_on}
use Rattle.sfi_translate.proofs.Turns.{turn_more}
use Rattle.sfi_native.specs.Host.{HostMoves, IsHosts, IsInCode, IsProper, arrives, makes}
use Rattle.sfi_native.specs.Laws.{Follows, IsAlike, IsBefore, IsCovered, IsReadyAt, placed_most}
use Rattle.x86_step.specs.State.{Machine, Text}
use Rattle.x86_step.specs.Step.{Reaches}
use Rattle.x86_step.proofs.Facts.{steps_join}
use Rattle.sfi_native.specs.declared.layout.Layout.{Layout}
use Rattle.sfi_native.specs.Faults.{HasFixups}
use Rattle.sfi_native.specs.Layout.{IsRelated, OthersStay, owing}
use Rattle.sfi_native.specs.Places.{IsAt, IsAtPlace, end_address, exit_of, owed_there, whole_code, with_owed}
use Rattle.sfi_native.specs.Table.{HasTable, LieInCode}
use Rattle.sfi_native.proofs.Counting.{related_as}
use Rattle.sfi_native.proofs.Kept.{others_join}
use Rattle.sfi_native.proofs.Ready.{accesses}
use Rattle.sfi_native.proofs.Steps.{one, stands_on}
use Rattle.sfi_native.proofs.Table.{table_stays}

-- ==== A line leads to lines or to a slow step.

abbrev IsNoEnd : ControlPoint → Type 0
IsNoEnd (Stopped o) = ⊥
IsNoEnd Loop = ⊥
IsNoEnd place = Unit {0}

or_goes : (other : ControlPoint) (o : Option (List Line)) → IsNoEnd other → IsNoEnd (before_or other o)
or_goes other None is = is
or_goes other (Some lines) is = tt

head_goes : (left : ℕ) (place : ControlPoint) → IsNoEnd place → IsNoEnd (at_head Assembly left place)
head_goes left place is = cond_both (is_short Assembly left) Slow place IsNoEnd (λ e. tt) (λ e. is)

jump_goes : (code : List Line) (at to left : ℕ) → IsNoEnd (jumps Assembly code at to left)
jump_goes code at to left =
    cond_both (nat_le to at || not ((at / head_bytes) == (to / head_bytes))) (at_head Assembly left (before_or Lost (label to code))) (before_or Lost (label to code)) IsNoEnd
    (λ e. head_goes left (before_or Lost (label to code)) (or_goes Lost (label to code) tt))
    (λ e. or_goes Lost (label to code) tt)

after_goes : (p : Part) (code : List Line) (i : Instr) (h : Hart) (rest : List Line) (left : ℕ) → IsNoEnd (after_line Assembly p code i h rest left)
after_goes p code (Branch cond rs1 rs2 offset) h rest left =
    cond_both (is_taken cond (register h rs1) (register h rs2)) (jumps Assembly code h.pc (offset_by h.pc offset) left) (Before rest) IsNoEnd (λ e. jump_goes code h.pc (offset_by h.pc offset) left) (λ e. tt)
after_goes p code (Jal rd offset) h rest left = jump_goes code h.pc (offset_by h.pc offset) left
after_goes p code (Jalr rd rs1 imm) h rest left =
    let to = even_of (offset_by (register h rs1) imm) in
    head_goes left (enters Assembly p code h.pc to)
    (cond_both (not (to % unit p.format == 0)) Slow (before_or Slow (label to code)) IsNoEnd (λ e. tt) (λ e. or_goes Slow (label to code) tt))
after_goes p code (Op op rd rs1 rs2) h rest left = tt
after_goes p code (OpImm op rd rs1 imm) h rest left = tt
after_goes p code (Load kind rd rs1 imm) h rest left = tt
after_goes p code (Store width rs1 rs2 imm) h rest left = tt
after_goes p code (Lui rd imm) h rest left = tt
after_goes p code (Auipc rd imm) h rest left = tt
after_goes p code (Fence imm rd rs1) h rest left = tt
after_goes p code Ecall h rest left = tt
after_goes p code Ebreak h rest left = tt

either_goes : (t : Bool) (one other : Going) → IsNoEnd one.place → IsNoEnd other.place → IsNoEnd (if t then one else other).place
either_goes true one other a b = a
either_goes false one other a b = b

line_goes : (p : Part) (code rest : List Line) (line : Line) (g : Going) → IsNoEnd (line_step Assembly p code (line ∷ rest) g).place
line_goes p code rest (Function sandbox at) g = tt
line_goes p code rest (End at) g = tt
line_goes p code rest (Entry at) g = tt
line_goes p code rest (Head at) g = either_goes (is_short Assembly g.left) _ _ tt tt
line_goes p code rest (Does at n i) g =
    let h = with_pc (fixed p g.state.hart) at in
    either_goes (is_done p i h) _ _ (after_goes p code i h rest (one_less g.left)) tt

-- Behind the last line the loop goes to a slow step: that pc is never in the code.
by_tests : (enough low high : Bool) (place : ControlPoint) → (low ≡ true → high ≡ true → ⊥) → (if enough && (low && high) then place else Slow) ≡ Slow
by_tests true true true place outside = absurd (outside refl refl)
by_tests true true false place outside = refl
by_tests true false high place outside = refl
by_tests false low high place outside = refl

end_goes : (p : Part) (code : List Line) (left : ℕ) → LieInCode p code → from_loop Assembly p code (end_address p) left ≡ Slow
end_goes p code left lie =
    by_tests (nat_le most left) (nat_le p.code_base (end_address p)) (nat_lt (end_address p) (p.code_base + length p.code)) _
    (λ low high.
    let least = lie.region.at_most in
    let format_most = code_at_most p.format in
    let ends = lie.ends in
    let above = leb-true p.code_base (end_address p) low in
    let below = ltb-true (end_address p) (p.code_base + length p.code) high in
    omega (arith, least, format_most, ends, above, below))

-- ==== What holds of a turn.

module _ (sandbox : ℕ) (p : Part) (code : List Line) (s : State) (left : ℕ) where
  abbrev pub Turns : ℕ → Going → Type 0
  Turns moves g = IsTurnTo Assembly sandbox p code s left moves g

  pub proper : (moves : ℕ) (g : Going) → Turns moves g → IsProper p g.state
  proper moves g turn =
      let reached = (translated_runs_as_image Assembly sandbox p code s left moves g turn).reached in
      record { state = reached.state; fixed_is = reached_harts_are_fixed sandbox p g.state turn.clean reached }

  ready : (moves : ℕ) (g : Going) → Turns moves g → (lines : List Line) → g.place ≡ Before lines → IsReadyAt p g (Before lines)
  ready moves g turn [] e = tt
  ready moves g turn (Function n at ∷ rest) e = tt
  ready moves g turn (End at ∷ rest) e = tt
  ready moves g turn (Entry at ∷ rest) e = tt
  ready moves g turn (Head at ∷ rest) e = tt
  ready moves g turn (Does at n i ∷ rest) e =
      let it = turns_are_ready Assembly sandbox p code rest s left moves g at n i turn e in
      let here = proper moves g turn in
      (it.in_range, accesses p g turn.clean.right here.fixed_is i here.state.memory it.in_range it.access)

  -- a turn is never lost
  found : (moves : ℕ) (g : Going) → Turns moves g → g.place ≡ Lost → ⊥
  found moves g turn e =
      ⊎_elim
      (λ (over : IsOver g). ⊎_elim (λ one. let clash : Lost ≡ Stopped one.0 = sym e ∙ one.1 in cc) (λ one. let clash : Lost ≡ Loop = sym e ∙ one.0 in cc) over)
      (λ (on : (k : Going) × IsTranslatedStep Assembly p code g k). subst (λ q. IsTranslatedStepAt q Assembly p code g on.0) e on.1)
      (turns_go_on Assembly sandbox p code s left moves g turn)

  -- it has no more steps left than at first
  pub few_left : (moves : ℕ) (g : Going) → left < 2 ^ 31 → Turns moves g → g.left < 2 ^ 31
  few_left moves g few turn = let counted = (translated_runs_as_image Assembly sandbox p code s left moves g turn).counted in omega (arith, counted, few)

  not_over : (g : Going) (place : ControlPoint) → g.place ≡ place → (IsInCode place ⊎ (place ≡ Slow)) → IsOver g → ⊥
  not_over g (Before lines) e is over = ⊎_elim (λ one. let clash : Before lines ≡ Stopped one.0 = sym e ∙ one.1 in cc) (λ one. let clash : Before lines ≡ Loop = sym e ∙ one.0 in cc) over
  not_over g Slow e is over = ⊎_elim (λ one. let clash : Slow ≡ Stopped one.0 = sym e ∙ one.1 in cc) (λ one. let clash : Slow ≡ Loop = sym e ∙ one.0 in cc) over
  not_over g Loop e (inl inside) over = inside
  not_over g Loop e (inr clash) over = cc
  not_over g (Stopped o) e (inl inside) over = inside
  not_over g (Stopped o) e (inr clash) over = cc
  not_over g Lost e (inl inside) over = inside
  not_over g Lost e (inr clash) over = cc

  -- ==== The host's part of a round.

  pub record HostPart (n : ℕ) (g last : Going) : Type 0 where
    pub next : Going
    pub leads : HostMoves p code g next
    pub rest : ℕ
    pub fewer : rest ≤ n
    pub moved : ℕ
    pub turn : Turns moved next
    pub steps : AreTranslatedSteps Assembly p code rest next last

  pub host_part : (n moves : ℕ) (g last : Going) → Turns moves g → AreTranslatedSteps Assembly p code n g last → IsOver last → HostPart n g last
  host_part zero moved g last turn steps over = record {
    next = g;
    leads = arrives g (inr (subst IsOver steps over));
    rest = zero;
    fewer = omega arith;
    moved = moved;
    turn = turn;
    steps = steps;
  }
  host_part (suc n) moved g last turn (between, step, more) over =
      by (host_part n (suc moved) between last (turn_more Assembly sandbox p code s left moved g between turn step) more over) g.place refl
    where
      on : HostPart n between last → IsHosts g.place → HostPart (suc n) g last
      on it is =
          let few = it.fewer in
          record {
            next = it.next;
            leads = makes g between it.next is step it.leads;
            rest = it.rest;
            fewer = omega (arith, few);
            moved = it.moved;
            turn = it.turn;
            steps = it.steps;
          }

      by : HostPart n between last → (place : ControlPoint) → g.place ≡ place → HostPart (suc n) g last
      by it (Before lines) e = record {
        next = g;
        leads = arrives g (inl (subst IsInCode (sym e) tt));
        rest = suc n;
        fewer = omega arith;
        moved = moved;
        turn = turn;
        steps = (between, step, more);
      }
      by it Slow e = on it (subst IsHosts (sym e) tt)
      by it Loop e = on it (subst IsHosts (sym e) tt)
      by it (Stopped o) e = absurd (subst (λ q. IsTranslatedStepAt q Assembly p code g between) e step)
      by it Lost e = absurd (subst (λ q. IsTranslatedStepAt q Assembly p code g between) e step)

  -- ==== Code's part of a round.

  module _ (l : Layout) (t : Text) (base : ℕ) (few : left < 2 ^ 31) (fits : exit_of l.plan code < 2 ^ 31) (fixups : HasFixups l.plan t base code) (lie : LieInCode p code) where
    abbrev Stands : Going → Machine → Type 0
    Stands g m = IsBefore (whole_code l.plan (end_address p) code) t base p l (with_owed l.plan p g) m.core

    pub record CodePart (n : ℕ) (m : Machine) (last : Going) : Type 0 where
      pub slow : Going
      pub is_slow : slow.place ≡ Slow
      pub out : Machine
      pub made : ℕ
      pub reached : Reaches t made m out
      pub alike : IsAlike p l base code slow out
      pub others : OthersStay p l m.core out.core
      pub rest : ℕ
      pub fewer : rest < n
      pub as_many : made + placed_most * rest ≤ placed_most * n
      pub moved : ℕ
      pub turn : Turns moved slow
      pub steps : AreTranslatedSteps Assembly p code rest slow last

    -- after a line
    behind : (n all : ℕ) (m k : Machine) (last : Going) → n < all → Reaches t placed_most m k → OthersStay p l m.core k.core → CodePart n k last → CodePart all m last
    behind n all m k last more reached others it =
        let less = it.fewer in
        let as_many = it.as_many in
        record {
          slow = it.slow;
          is_slow = it.is_slow;
          out = it.out;
          made = placed_most + it.made;
          reached = steps_join t placed_most it.made m k it.out reached it.reached;
          alike = it.alike;
          others = others_join p l m.core k.core it.out.core others it.others;
          rest = it.rest;
          fewer = omega (arith, less, more);
          as_many = omega (arith, as_many, more);
          moved = it.moved;
          turn = it.turn;
          steps = it.steps;
        }

    -- where a line has led to a slow step, or the end's code into the loop, code has come out
    at_slow : (n all moves : ℕ) (g last : Going) (m k : Machine) → n < all → Reaches t placed_most m k → OthersStay p l m.core k.core → Turns moves g → g.place ≡ Slow → IsAlike p l base code g k → AreTranslatedSteps Assembly p code n g last → CodePart all m last
    at_slow n all moves g last m k fewer reached others turn e alike steps = record {
      slow = g;
      is_slow = e;
      out = k;
      made = placed_most;
      reached = reached;
      alike = alike;
      others = others;
      rest = n;
      fewer = fewer;
      as_many = omega (arith, fewer);
      moved = moves;
      turn = turn;
      steps = steps;
    }

    at_loop : (n all moves : ℕ) (g last : Going) (m k : Machine) → n < all → Reaches t placed_most m k → OthersStay p l m.core k.core → Turns moves g → g.place ≡ Loop → g.state.hart.pc ≡ end_address p → 0 < g.left → IsAlike p l base code g k → AreTranslatedSteps Assembly p code n g last → IsOver last → CodePart all m last
    at_loop zero all moves g last m k fewer reached others turn e pc some alike steps over =
        absurd (⊎_elim (λ one. let clash : Loop ≡ Stopped one.0 = sym e ∙ one.1 in cc) (λ one. let none = one.1 in omega (arith, none, some)) (subst IsOver steps over))
    at_loop (suc n) all moves g last m k fewer reached others turn e pc some alike (between, step, more) over =
        let own = subst (λ q. IsTranslatedStepAt q Assembly p code g between) e step in
        let place : from_loop Assembly p code g.state.hart.pc g.left ≡ Slow = ap (λ a. from_loop Assembly p code a g.left) pc ∙ end_goes p code g.left lie in
        let is : between ≡ goes g Slow = own.1 ∙ ap (goes g) place in
        let next = turn_more Assembly sandbox p code s left moves g between turn step in
        let out = subst (λ q. IsAtPlace l.plan base code q g.state.hart.pc k) e alike.is_at in
        at_slow n all (suc moves) (goes g Slow) last m k (omega (arith, fewer)) reached others (subst (Turns (suc moves)) is next) refl
        (record { related = related_as p l (owing 0 g) k.core Slow (g.left + 0) (subst (λ q. IsRelated p l (owing (owed_there l.plan p q) g) k.core) e alike.related) refl; is_at = out })
        (subst (λ x. AreTranslatedSteps Assembly p code n x last) is more)

    -- a line's step leads to lines or out
    pub code_part : (n moves : ℕ) (g last : Going) (m : Machine) → Stands g m → HasTable p l base code m.core → IsAt l.plan base code g m → (lines : List Line) → g.place ≡ Before lines → Turns moves g
        → AreTranslatedSteps Assembly p code n g last → IsOver last → CodePart n m last
    code_part zero moves g last m here has at lines e turn steps over = absurd (not_over g (Before lines) e (inl tt) (subst IsOver steps over))
    code_part (suc n) moves g last m here has at [] e turn (between, step, more) over =
        let own = subst (λ q. IsTranslatedStepAt q Assembly p code g between) e step in
        let next = turn_more Assembly sandbox p code s left moves g between turn step in
        let looped : between.place ≡ Loop = ap (λ x. x.place) own.1 in
        let f = (one p code l t base fits fixups lie g between m here has at (few_left moves g few turn) (Before []) e own tt (subst IsCovered (sym looped) tt)).0 in
        let some = own.0 in
        let same : between.left ≡ g.left = ap (λ x. x.left) own.1 in
        let below = few_left moves g few turn in
        at_loop n (suc n) (suc moves) between last m f.after (omega arith) f.reached f.others next looped (ap (λ x. x.state.hart.pc) own.1) (omega (arith, some, same, below)) f.alike more over
    code_part (suc n) moves g last m here has at (line ∷ rest) e turn (between, step, more) over =
        by (λ lines is f. code_part n (suc moves) between last f.after (stands_on p code l t base fits fixups lie g between m here f) (table_stays p l here.layout base code m.core f.after.core f.others has) f.alike.is_at lines is next more over)
        between.place refl (subst (λ x. IsNoEnd x.place) (sym own.1) (line_goes p code rest line g))
      where
        own : IsTranslatedStepAt (Before (line ∷ rest)) Assembly p code g between
        own = subst (λ q. IsTranslatedStepAt q Assembly p code g between) e step

        next : Turns (suc moves) between
        next = turn_more Assembly sandbox p code s left moves g between turn step

        followed : IsCovered between.place → Follows t placed_most p l base code m between
        followed covered = (one p code l t base fits fixups lie g between m here has at (few_left moves g few turn) (Before (line ∷ rest)) e own (ready moves g turn (line ∷ rest) e) covered).0

        by : ((lines : List Line) → between.place ≡ Before lines → (f : Follows t placed_most p l base code m between) → CodePart n f.after last) → (place : ControlPoint) → between.place ≡ place → IsNoEnd place → CodePart (suc n) m last
        by on (Before lines) is goes_on =
            let f = followed (subst IsCovered (sym is) tt) in
            behind n (suc n) m f.after last (omega arith) f.reached f.others (on lines is f)
        by on Slow is goes_on =
            let f = followed (subst IsCovered (sym is) tt) in
            at_slow n (suc n) (suc moves) between last m f.after (omega arith) f.reached f.others next is f.alike more
        by on Loop is goes_on = absurd goes_on
        by on (Stopped o) is goes_on = absurd goes_on
        by on Lost is goes_on = absurd (found (suc moves) between next is)
