-- Each move of a translated sandbox is a step of the machine, or none, and counts it.
use Rattle.sfi_translate.proofs.Prelude.{◌≡◌, ℕ, zero, suc, ◌+◌, ◌*◌, List, [], ◌∷◌, refl, sym, ap, ◌∙◌, subst, arith, inl, inr, length, Part, Line, Function, End, Entry, Head, Does}
use Rattle.std.proofs.Common.{◌≢◌, ◌%◌, ◌/◌, ◌^◌, ◌<◌, ◌≤◌, ◌⊎◌, Bool, true, false, cond, Option, Some, None}
use Rattle.std.specs.Prelude.{IfSome}
use Rattle.std.proofs.lemmas.Bool.{cond_both, ltb-false}
use Rattle.rv_word.specs.declared.instr.Instr.{Instr}
use Rattle.rv_comp.specs.declared.front.Front.TheVariants.{Read}
use Rattle.rv_step.specs.declared.outcome.Outcome.{Outcome}
use Rattle.rv_step.specs.declared.outcome.Outcome.TheVariants.{Next, Call, Trap}
use Rattle.rv_step.specs.State.{Hart, State, IsState}
use Rattle.rv_step.specs.Step.{Stepped, IsStep, Stands, effect}
use Rattle.rv_step.specs.Rows.{LeadsTo, LeadTo}
use Rattle.rv_step.proofs.Facts.{step_keeps_state, stopped_stays, no_byte_goes}
use Rattle.sfi_image.specs.Parts.{IsRightPart}
use Rattle.sfi_image.specs.Spelling.{AreApart, code_region, guarded_region}
use Rattle.sfi_safe_runs.specs.Runs.{Turn, Steps, IsTurn, IsRun, after_step, after_turn}
use Rattle.sfi_safe_runs.specs.Safety.{IsSafeState, IsSafeTurn}
use Rattle.sfi_safe_runs.specs.Calling.{after_turns, KeepsAll}
use Rattle.sfi_translate.specs.Machine.{Target, C, Assembly, ControlPoint, Before, Slow, Loop, Stopped, Lost, Going, goes, goes_with, counted, is_short, one_less, label, after_line, is_done, fixed, line_done, line_step, row_step, step_done, slow_step, from_loop, IsTranslatedStepAt, IsTranslatedStep, AreTranslatedSteps}
use Rattle.sfi_translate.specs.Laws.{HasData, IsReached, IsAsImage, IsOver}
use Rattle.sfi_translate.proofs.OnLines.{HasLine}
use Rattle.sfi_translate.proofs.Reached.{reached_on}
use Rattle.sfi_translate.proofs.LinesStand.{IsLine, stands, two_or_four, between_heads, line_below}
use Rattle.sfi_translate.proofs.Following.{Follow, label_follows}
use Rattle.sfi_translate.proofs.Counting.{IsBefore, IsEnough, counted_some, loop_enough, line_enough, no_line}
use Rattle.sfi_translate.proofs.LineSteps.{done_next, fixed_is, row_is_step}

-- ---- steps

-- one step more
lead_more : (k : ℕ) (a b c : State) → LeadTo k a b → LeadsTo b c → LeadTo (suc k) a c
lead_more zero a b c e last = (c, subst (λ (x : State). LeadsTo x c) e last, refl)
lead_more (suc k) a b c h last = (h.0, h.1, lead_more k h.0 b c h.2 last)

less_is : (left : ℕ) → 0 < left → left < 2 ^ 32 → one_less left + 1 ≡ left
less_is left some fits = omega (arith, some, fits)

-- ---- where moves have led

-- the state is good, and the turn has come to it as the machine does; what is left suffices
pub record IsSoFar (t : Target) (p : Part) (IsGood : State → Type 0) (s : State) (left budget : ℕ) (g : Going) : Type 0 where
  pub good : IsGood g.state
  pub state : IsState g.state
  pub has_data : HasData p g.state.memory
  pub steps : ℕ
  pub lead : LeadTo steps s g.state
  pub counted : g.left + steps ≡ left
  pub enough : IsEnough t p g.place g.state g.left budget

one_fewer : (n : ℕ) → 0 < n → (b : ℕ) × (n ≡ suc b)
one_fewer zero some = absurd (omega (arith, some))
one_fewer (suc b) some = (b, refl)

module _ (t : Target) (p : Part) (code : List Line) (follows : Follow p 0 p.code_base code) (right : IsRightPart p) (apart : AreApart (code_region p) (guarded_region p)) (IsGood : State → Type 0)
    (keeps : (s : State) (turn : Turn) → IsGood s → IsTurn p s turn → IsSafeState p s × IsSafeTurn p s turn × IfSome (after_turn turn) IsGood)
    (kept : (s : State) → IsGood s → KeepsAll p s) (s : State) (left : ℕ) (fits : left < 2 ^ 32) where
  abbrev SoFar : ℕ → Going → Type 0
  SoFar budget g = IsSoFar t p IsGood s left budget g

  bound : (budget : ℕ) (g : Going) → SoFar budget g → g.left < 2 ^ 32
  bound budget g so = let e = so.counted in omega (arith, e, fits)

  -- a step that is done
  stepped : (budget b : ℕ) (g : Going) (so : SoFar budget g) (r : Stepped) → IsStep g.state r → r.outcome ≡ Next → 0 < g.left → (q : ControlPoint) → IsEnough t p q r.state (one_less g.left) b → SoFar b (record { place = q; state = r.state; left = one_less g.left })
  stepped budget b g so r step done some q enough =
      let less = less_is g.left some (bound budget g so) in
      let count = so.counted in
      record {
        good = subst (λ (o : Outcome). IfSome (after_step o r.state) IsGood) done (keeps g.state (Steps r) so.good step).2;
        state = step_keeps_state g.state r so.state step;
        has_data = λ a inside. no_byte_goes g.state r a step (so.has_data a inside);
        steps = suc so.steps;
        lead = lead_more so.steps s g.state r.state so.lead (subst (λ (o : Outcome). IsStep g.state (record { outcome = o; state = r.state })) done step);
        counted = omega (arith, less, count);
        enough = enough;
      }

  -- no step
  moved : (budget b : ℕ) (g : Going) (so : SoFar budget g) (q : ControlPoint) → IsEnough t p q g.state g.left b → SoFar b (goes g q)
  moved budget b g so q enough = record { good = so.good; state = so.state; has_data = so.has_data; steps = so.steps; lead = so.lead; counted = so.counted; enough = enough }

  -- no step, to a place with that pc
  moved_with : (budget b : ℕ) (g : Going) (so : SoFar budget g) (q : ControlPoint) (at : ℕ) → g.state.hart.pc ≡ at → IsEnough t p q g.state g.left b → SoFar b (goes_with g q at)
  moved_with budget b g so q at is enough = subst (λ (a : ℕ). SoFar b (goes_with g q a)) is (moved budget b g so q enough)

  -- ---- a line

  taken_as : (u : State) → IsGood u → IsState u → fixed p u.hart ≡ u.hart
  taken_as u good state = fixed_is p u.hart state.hart.zero (kept u good).reserved

  module _ (budget b : ℕ) (g : Going) (so : SoFar budget g) (enough : 65 ≤ counted t g.left + g.state.hart.pc % 128 / 2) (i : Instr) (n : ℕ) (line : IsLine p g.state.hart.pc i n)
      (rest : List Line) (follow : Follow p 0 (g.state.hart.pc + n) rest) (room : 5 * g.left ≤ b) where
    abbrev after : Stepped
    after = effect i n g.state.hart g.state.memory

    step_here : IsStep g.state after
    step_here = record { front = Read i n; at_pc = stands p g.state.hart.pc i n line right g.state.hart g.state.memory refl (kept g.state so.good).code; result = refl }

    some_here : 0 < g.left
    some_here = let even = so.state.hart.even in counted_some t g.left (omega (arith, even, enough))

    -- as a hart does the line
    abbrev done_by : Hart → Going
    done_by h = record { place = after_line t p code i h rest (one_less g.left); state = record { hart = fixed p (effect i n h g.state.memory).state.hart; memory = (effect i n h g.state.memory).state.memory }; left = one_less g.left }

    done_here : is_done p i g.state.hart ≡ true → SoFar b (done_by g.state.hart)
    done_here done =
        let next = done_next p right g.state.memory so.has_data i n g.state.hart done in
        let less = less_is g.left some_here (bound budget g so) in
        let state = step_keeps_state g.state after so.state step_here in
        let k = stepped budget b g so after step_here next some_here (after_line t p code i g.state.hart rest (one_less g.left))
        (line_enough t p code follows n g.state.hart rest follow g.left (one_less g.left) b (two_or_four p g.state.hart.pc i n line) so.state.hart.even (between_heads p g.state.hart.pc i n line right) enough less (omega (arith, less, room))
        i g.state.memory next state.hart.address state.hart.even) in
        subst (λ (h : Hart). SoFar b (record { place = after_line t p code i g.state.hart rest (one_less g.left); state = record { hart = h; memory = after.state.memory }; left = one_less g.left }))
        (sym (taken_as after.state k.good state)) k

    by_test : (d : Bool) → is_done p i g.state.hart ≡ d → SoFar b (cond d (done_by g.state.hart) (goes g Slow))
    by_test true e = done_here e
    by_test false e = moved budget b g so Slow (some_here, room)

    line_here : SoFar b (line_done t p code g.state.hart.pc n i rest g)
    line_here =
        subst (λ (h : Hart). SoFar b (cond (is_done p i h) (done_by h) (goes g Slow)))
        (sym (taken_as g.state so.good so.state)) (by_test (is_done p i g.state.hart) refl)

  -- ---- before lines

  line_moves : (budget b : ℕ) → budget ≡ suc b → (g : Going) (so : SoFar budget g) (x n : ℕ) (i : Instr) (rest : List Line) → IsBefore t p (Does x n i ∷ rest) g.state g.left budget → SoFar b (line_done t p code x n i rest g)
  line_moves budget b e g so x n i rest before =
      let at = before.at in
      let follow = before.follow in
      let here : at ≡ g.state.hart.pc = low_is at (line_below p at i n follow.1 right) ∙ sym before.pc in
      let many = before.enough follow.2 in
      let room = before.room in
      let low = before.low in
      subst (λ (a : ℕ). SoFar b (line_done t p code a n i rest g)) (sym (follow.0 ∙ here))
      (line_here budget b g so (subst (λ (a : ℕ). 65 ≤ counted t g.left + a % 128 / 2) here many) i n (subst (λ (a : ℕ). IsLine p a i n) here follow.1) rest (subst (λ (a : ℕ). Follow p 0 (a + n) rest) here follow.3) (omega (arith, e, room, low)))
    where
      low_is : (a : ℕ) → a < 2 ^ 32 → a ≡ a % 2 ^ 32
      low_is a small = omega (arith, small)

  -- past a line that does nothing
  passes : (budget b : ℕ) → budget ≡ suc b → (g : Going) (so : SoFar budget g) (lines rest : List Line) (before : IsBefore t p lines g.state g.left budget) → (rank : ℕ) → before.rank < rank → rank < 4 → Follow p rank before.at rest → SoFar b (goes g (Before rest))
  passes budget b e g so lines rest before rank more low follow =
      let room = before.room in
      moved budget b g so (Before rest) (record {
        rank = rank;
        at = before.at;
        follow = follow;
        pc = before.pc;
        low = omega (arith, low);
        some = before.some;
        enough = λ off. before.enough (λ c. off low);
        room = omega (arith, e, room, more);
      })

  ends : (budget b : ℕ) → budget ≡ suc b → (g : Going) (so : SoFar budget g) (lines rest : List Line) (before : IsBefore t p lines g.state g.left budget) → (x : ℕ) → x ≡ before.at → before.at < 2 ^ 32 → before.rank ≡ 0 → SoFar b (goes_with g Loop x)
  ends budget b e g so lines rest before x is small none =
      let pc = before.pc in
      let room = before.room in
      let here : g.state.hart.pc ≡ x = omega (arith, is, small, pc) in
      moved_with budget b g so Loop x here (omega (arith, e, room, none))

  head_moves : (budget b : ℕ) → budget ≡ suc b → (g : Going) (so : SoFar budget g) (x : ℕ) (rest : List Line) → IsBefore t p (Head x ∷ rest) g.state g.left budget → SoFar b (cond (is_short t g.left) (goes_with g Slow x) (goes g (Before rest)))
  head_moves budget b e g so x rest before =
      let follow = before.follow in
      let pc = before.pc in
      let room = before.room in
      let is = follow.0 in
      let small = follow.1 in
      let low = follow.2 in
      let here : g.state.hart.pc ≡ x = omega (arith, is, small, pc) in
      cond_both (is_short t g.left) (goes_with g Slow x) (goes g (Before rest)) (λ (k : Going). SoFar b k)
      (λ f. moved_with budget b g so Slow x here (counted_some t g.left before.some, omega (arith, e, room, low)))
      (λ f.
      let many : 65 ≤ counted t g.left = ltb-false (counted t g.left) 65 f in
      moved budget b g so (Before rest) (record {
        rank = 4;
        at = before.at;
        follow = follow.3;
        pc = pc;
        low = omega arith;
        some = before.some;
        enough = λ off. omega (arith, many);
        room = omega (arith, e, room, low);
      }))

  before_moves : (budget b : ℕ) → budget ≡ suc b → (u : Target) → u ≡ t → (g : Going) (so : SoFar budget g) (lines : List Line) → IsBefore t p lines g.state g.left budget → SoFar b (line_step u p code lines g)
  before_moves budget b e u v g so [] before =
      let room = before.room in
      let none = before.follow.0 in
      moved_with budget b g so Loop ((p.code_base + length p.code) % 2 ^ 32) (before.pc ∙ ap (λ (a : ℕ). a % 2 ^ 32) before.follow.1) (omega (arith, e, room, none))
  before_moves budget b e u v g so (Function sandbox x ∷ rest) before = passes budget b e g so (Function sandbox x ∷ rest) rest before 2 before.follow.0 (omega arith) before.follow.1
  before_moves budget b e C v g so (End x ∷ rest) before = ends budget b e g so (End x ∷ rest) rest before x before.follow.0 before.follow.1 before.follow.2
  before_moves budget b e Assembly v g so (End x ∷ rest) before = let none = before.follow.2 in passes budget b e g so (End x ∷ rest) rest before 1 (omega (arith, none)) (omega arith) before.follow.3
  before_moves budget b e u v g so (Entry x ∷ rest) before = passes budget b e g so (Entry x ∷ rest) rest before 3 before.follow.1 (omega arith) before.follow.2
  before_moves budget b e u v g so (Head x ∷ rest) before = subst (λ (w : Target). SoFar b (cond (is_short w g.left) (goes_with g Slow x) (goes g (Before rest)))) (sym v) (head_moves budget b e g so x rest before)
  before_moves budget b e u v g so (Does x n i ∷ rest) before = subst (λ (w : Target). SoFar b (line_done w p code x n i rest g)) (sym v) (line_moves budget b e g so x n i rest before)

  -- ---- a slow step

  row_here : (budget : ℕ) (g : Going) (so : SoFar budget g) (i : Instr) (n : ℕ) → IsLine p g.state.hart.pc i n → IsStep g.state (row_step p i n g.state)
  row_here budget g so i n line =
      let stands' = stands p g.state.hart.pc i n line right g.state.hart g.state.memory refl (kept g.state so.good).code in
      let safe = (keeps g.state (Steps (effect i n g.state.hart g.state.memory)) so.good (record { front = Read i n; at_pc = stands'; result = refl })).1 in
      row_is_step p right apart g.state (kept g.state so.good) i n stands' (λ a has. safe.within i n stands' a has)

  stops : (budget b : ℕ) (g : Going) (so : SoFar budget g) (r : Stepped) → IsStep g.state r → (o : Outcome) → r.outcome ≡ o → o ≢ Next → SoFar b (record { place = Stopped o; state = r.state; left = g.left })
  stops budget b g so r step o is ends =
      let same = stopped_stays g.state r step (λ e. ends (sym is ∙ e)) in
      subst (λ (u : State). SoFar b (record { place = Stopped o; state = u; left = g.left })) (sym same)
      (moved budget b g so (Stopped o) (ends, subst (λ (x : Stepped). IsStep g.state x) (λ j. record { outcome = is j; state = same j }) step))

  row_moves : (budget b : ℕ) → budget ≡ suc b → (g : Going) (so : SoFar budget g) → 0 < g.left → 5 * g.left ≤ budget → (r : Stepped) → IsStep g.state r → (o : Outcome) → r.outcome ≡ o → SoFar b (step_done o r.state g.left)
  row_moves budget b e g so some room r step Next is = let less = less_is g.left some (bound budget g so) in stepped budget b g so r step is some Loop (omega (arith, e, room, less))
  row_moves budget b e g so some room r step Call is = stops budget b g so r step Call is (λ c. cc)
  row_moves budget b e g so some room r step (Trap cause at) is = stops budget b g so r step (Trap cause at) is (λ c. cc)

  slow_moves : (budget b : ℕ) → budget ≡ suc b → (g : Going) (so : SoFar budget g) → 0 < g.left → 5 * g.left ≤ budget → (o : Option (List Line)) → label g.state.hart.pc code ≡ o → SoFar b (slow_step p o g)
  slow_moves budget b e g so some room None is = moved budget b g so Lost (no_line p code follows g.state g.left b some so.state.hart.address g.state.hart.pc refl is)
  slow_moves budget b e g so some room (Some lines) is = at_lines lines (label_follows p g.state.hart.pc code lines 0 p.code_base follows is)
    where
      at_lines : (l : List Line) → Follow p 4 g.state.hart.pc l → SoFar b (slow_step p (Some l) g)
      at_lines [] f = absurd (let z = f.0 in omega (arith, z))
      at_lines (Function sandbox x ∷ l) f = absurd (let z = f.0 in omega (arith, z))
      at_lines (End x ∷ l) f = absurd (let z = f.2 in omega (arith, z))
      at_lines (Entry x ∷ l) f = absurd (let z = f.1 in omega (arith, z))
      at_lines (Head x ∷ l) f = absurd (let z = f.2 in omega (arith, z))
      at_lines (Does x n i ∷ l) f = row_moves budget b e g so some room (row_step p i n g.state) (row_here budget g so i n f.1) (row_step p i n g.state).outcome refl

  -- ---- any move

  one_move : (budget : ℕ) (g k : Going) (so : SoFar budget g) (q : ControlPoint) → g.place ≡ q → IsTranslatedStepAt q t p code g k → (b : ℕ) × (budget ≡ suc b) × SoFar b k
  one_move budget g k so (Before lines) e move =
      let here : IsBefore t p lines g.state g.left budget = subst (λ (q : ControlPoint). IsEnough t p q g.state g.left budget) e so.enough in
      let room = here.room in
      let low = here.low in
      let fewer = one_fewer budget (omega (arith, room, low)) in
      (fewer.0, fewer.1, subst (SoFar fewer.0) (sym move.1) (before_moves budget fewer.0 fewer.1 t refl g so lines here))
  one_move budget g k so Slow e move =
      let here : (0 < g.left) × (5 * g.left ≤ budget) = subst (λ (q : ControlPoint). IsEnough t p q g.state g.left budget) e so.enough in
      let some = here.0 in
      let room = here.1 in
      let fewer = one_fewer budget (omega (arith, some, room)) in
      (fewer.0, fewer.1, subst (SoFar fewer.0) (sym move.1) (slow_moves budget fewer.0 fewer.1 g so some room (label g.state.hart.pc code) refl))
  one_move budget g k so Loop e move =
      let here : 5 * g.left + 4 ≤ budget = subst (λ (q : ControlPoint). IsEnough t p q g.state g.left budget) e so.enough in
      let fewer = one_fewer budget (omega (arith, here)) in
      let is = fewer.1 in
      (fewer.0, is, subst (SoFar fewer.0) (sym move.1) (moved budget fewer.0 g so (from_loop t p code g.state.hart.pc g.left) (loop_enough p code follows g.state g.left fewer.0 move.0 so.state.hart.address t (omega (arith, is, here)))))
  one_move budget g k so (Stopped o) e move = absurd move
  one_move budget g k so Lost e move = absurd move

  pub after_moves : (n budget : ℕ) (g k : Going) → SoFar budget g → AreTranslatedSteps t p code n g k → (b : ℕ) × (b + n ≡ budget) × SoFar b k
  after_moves zero budget g k so h = (budget, omega arith, subst (SoFar budget) (sym h) so)
  after_moves (suc n) budget g k so h =
      let one = one_move budget g h.0 so g.place refl h.1 in
      let rest = after_moves n one.0 h.0 k one.2 h.2 in
      let fewer = one.1 in
      let count = rest.1 in
      (rest.0, omega (arith, fewer, count), rest.2)

  pub turn_so_far : (n : ℕ) (g : Going) → IsGood s → IsState s → HasData p s.memory → AreTranslatedSteps t p code n (record { place = Loop; state = s; left = left }) g → (b : ℕ) × (b + n ≡ 5 * left + 4) × SoFar b g
  turn_so_far n g good state has moves =
      after_moves n (5 * left + 4) _ g (record { good = good; state = state; has_data = has; steps = 0; lead = refl; counted = omega arith; enough = omega arith }) moves

  pub as_image : IsReached p s → (b : ℕ) (g : Going) → SoFar b g → IsAsImage p s left g
  as_image reached b g so = record { steps = so.steps; lead = so.lead; counted = so.counted; reached = reached_on p s g.state so.steps reached so.lead so.state so.has_data; stopped = λ o e. subst (λ (q : ControlPoint). IsEnough t p q g.state g.left b) e so.enough }

  -- before a line of an instruction it stands at pc
  pub before_line : (b : ℕ) (g : Going) → SoFar b g → (at n : ℕ) (i : Instr) (rest : List Line) → g.place ≡ Before (Does at n i ∷ rest) → (g.state.hart.pc ≡ at) × Stands g.state i n
  before_line b g so at n i rest e =
      let here : IsBefore t p (Does at n i ∷ rest) g.state g.left b = subst (λ (q : ControlPoint). IsEnough t p q g.state g.left b) e so.enough in
      let line = here.follow.1 in
      let pc : g.state.hart.pc ≡ here.at = let is = here.pc in omega (arith, is, line_below p here.at i n line right) in
      (pc ∙ sym here.follow.0, stands p here.at i n line right g.state.hart g.state.memory pc (kept g.state so.good).code)

  -- where it goes on from a line, it goes on
  pub goes_on : ((u : State) → IsGood u → HasLine p u.hart.pc) → (b : ℕ) (g : Going) → SoFar b g → IsOver g ⊎ ((k : Going) × IsTranslatedStep t p code g k)
  goes_on on_line b g so = by g.place refl
    where
      follow_on : (q : ControlPoint) → g.place ≡ q → (k : Going) → IsTranslatedStepAt q t p code g k → IsOver g ⊎ ((k : Going) × IsTranslatedStep t p code g k)
      follow_on q e k move = inr (k, subst (λ (c : ControlPoint). IsTranslatedStepAt c t p code g k) (sym e) move)

      in_loop : (n : ℕ) → g.left ≡ n → g.place ≡ Loop → IsOver g ⊎ ((k : Going) × IsTranslatedStep t p code g k)
      in_loop zero none e = inl (inr (e, none))
      in_loop (suc n) some e = follow_on Loop e (goes g (from_loop t p code g.state.hart.pc g.left)) (omega (arith, some), refl)

      by : (q : ControlPoint) → g.place ≡ q → IsOver g ⊎ ((k : Going) × IsTranslatedStep t p code g k)
      by (Before lines) e =
          let here : IsBefore t p lines g.state g.left b = subst (λ (q : ControlPoint). IsEnough t p q g.state g.left b) e so.enough in
          follow_on (Before lines) e (line_step t p code lines g) (here.some, refl)
      by Slow e =
          let here : (0 < g.left) × (5 * g.left ≤ b) = subst (λ (q : ControlPoint). IsEnough t p q g.state g.left b) e so.enough in
          follow_on Slow e (slow_step p (label g.state.hart.pc code) g) (here.0, refl)
      by Loop e = in_loop g.left refl e
      by (Stopped o) e = inl (inl (o, e))
      by Lost e =
          let has = on_line g.state so.good in
          absurd (subst (λ (q : ControlPoint). IsEnough t p q g.state g.left b) e so.enough has.instr has.size has.line)

-- ---- the states that a run comes to

pub run_good : (p : Part) (IsGood : State → Type 0) → ((s : State) (turn : Turn) → IsGood s → IsTurn p s turn → IsSafeState p s × IsSafeTurn p s turn × IfSome (after_turn turn) IsGood)
    → (turns : List Turn) (o : Option State) → IfSome o IsGood → IsRun p o turns → IfSome (after_turns o turns) IsGood
run_good p IsGood keeps [] o good run = good
run_good p IsGood keeps (turn ∷ turns) None good run = tt
run_good p IsGood keeps (turn ∷ turns) (Some s) good run = run_good p IsGood keeps turns (after_turn turn) (keeps s turn good run.0).2 run.1
