-- Wherever a run of a sandbox without a finding comes, pc is at a line.
use Rattle.sfi_translate.proofs.Prelude.{◌≡◌, ℕ, zero, suc, ◌+◌, ◌-◌, ◌*◌, ◌≤◌, List, [], ◌∷◌, ◌++◌, length, refl, sym, ap, ◌∙◌, subst, arith, inl, inr, append_assoc, Part, Line, AreLines}
use Rattle.std.proofs.Common.{◌%◌, ◌/◌, ◌^◌, ◌<◌, ◌⊎◌, ⊎_elim}
use Rattle.std.specs.Prelude.{IfSome}
use Rattle.std.proofs.lemmas.Bool.{cases_lt}
use Rattle.rv_word.specs.declared.instr.Instr.{Instr}
use Rattle.rv_word.specs.declared.instr.Instr.TheVariants.{Ecall}
use Rattle.rv_comp.proofs.Facts.{ecall_is_wide}
use Rattle.rv_mem.specs.Bytes.{address_after}
use Rattle.rv_step.specs.declared.outcome.Outcome.{Outcome}
use Rattle.rv_step.specs.declared.outcome.Outcome.TheVariants.{Next, Call, Trap}
use Rattle.rv_step.specs.State.{State}
use Rattle.rv_step.specs.Step.{Stepped, Stands, IsStep}
use Rattle.rv_step.proofs.Facts.{one_instruction, stopped_stays}
use Rattle.sfi_formats.specs.Formats.{unit}
use Rattle.sfi_image.proofs.Formats.{code_at_most}
use Rattle.sfi_image.specs.Parts.{IsRightPart}
use Rattle.sfi_image.proofs.Facts.{code_ends}
use Rattle.sfi_rules.specs.Readings.{Piece, IsLongestReading, rest_of}
use Rattle.sfi_report.specs.Listing.{unit_bytes}
use Rattle.sfi_safe_runs.specs.Runs.{Turn, Steps, Replies, Changes, IsTurn, IsUnitStart, IsReply, InCode, after_step, after_turn}
use Rattle.sfi_safe_runs.specs.Safety.{IsSafeState, IsSafeTurn}
use Rattle.sfi_safe_runs.specs.Calling.{KeepsAll}
use Rattle.sfi_translate.specs.Lines.{AreLinesOfFirst}
use Rattle.sfi_translate.proofs.LinesStand.{IsLine, bytes_of, units, unit_length, fits, stands}
use Rattle.sfi_translate.proofs.Following.{bytes_both, all_bytes, base_whole, unit_more, unit_some}

-- a line is at the address
pub record HasLine (p : Part) (at : ℕ) : Type 0 where
  pub instr : Instr
  pub size : ℕ
  pub line : IsLine p at instr size

-- ---- where a step goes

abbrev pub GoesOn : Part → State → ℕ → Stepped → Type 0
GoesOn p s n r = (r.state.hart.pc ≡ address_after s.hart.pc n) ⊎ IsUnitStart p r.state.hart.pc

-- ---- units

start_is : (u base len many a : ℕ) → (u ≡ 16) ⊎ (u ≡ 4) → base % 16 ≡ 0 → len ≡ u * many → base ≤ a → a < base + len → a % u ≡ 0 → (k : ℕ) × (a ≡ base + u * k) × (u * k + u ≤ len)
start_is u base len many a (inl e) whole all from below aligned =
    let k = (a - base) / 16 in
    let all' : len ≡ 16 * many = subst (λ (v : ℕ). len ≡ v * many) e all in
    let aligned' : a % 16 ≡ 0 = subst (λ (v : ℕ). a % v ≡ 0) e aligned in
    let is : a ≡ base + 16 * k = omega (arith, whole, from, aligned') in
    (k, subst (λ (v : ℕ). a ≡ base + v * k) (sym e) is, subst (λ (v : ℕ). v * k + v ≤ len) (sym e) (omega (arith, is, all', below)))
start_is u base len many a (inr e) whole all from below aligned =
    let k = (a - base) / 4 in
    let all' : len ≡ 4 * many = subst (λ (v : ℕ). len ≡ v * many) e all in
    let aligned' : a % 4 ≡ 0 = subst (λ (v : ℕ). a % v ≡ 0) e aligned in
    let is : a ≡ base + 4 * k = omega (arith, whole, from, aligned') in
    (k, subst (λ (v : ℕ). a ≡ base + v * k) (sym e) is, subst (λ (v : ℕ). v * k + v ≤ len) (sym e) (omega (arith, is, all', below)))

next_fits : (u k many len : ℕ) → (u ≡ 16) ⊎ (u ≡ 4) → len ≡ u * many → u * suc k < len → u * suc k + u ≤ len
next_fits u k many len (inl e) all below =
    let all' : len ≡ 16 * many = subst (λ (v : ℕ). len ≡ v * many) e all in
    let below' : 16 * suc k < len = subst (λ (v : ℕ). v * suc k < len) e below in
    subst (λ (v : ℕ). v * suc k + v ≤ len) (sym e) (omega (arith, all', below'))
next_fits u k many len (inr e) all below =
    let all' : len ≡ 4 * many = subst (λ (v : ℕ). len ≡ v * many) e all in
    let below' : 4 * suc k < len = subst (λ (v : ℕ). v * suc k < len) e below in
    subst (λ (v : ℕ). v * suc k + v ≤ len) (sym e) (omega (arith, all', below'))

number_below : (u k many len : ℕ) → (u ≡ 16) ⊎ (u ≡ 4) → len ≡ u * many → u * k + u ≤ len → k < many
number_below u k many len (inl e) all within =
    let all' : len ≡ 16 * many = subst (λ (v : ℕ). len ≡ v * many) e all in
    let within' : 16 * k + 16 ≤ len = subst (λ (v : ℕ). v * k + v ≤ len) e within in
    omega (arith, all', within')
number_below u k many len (inr e) all within =
    let all' : len ≡ 4 * many = subst (λ (v : ℕ). len ≡ v * many) e all in
    let within' : 4 * k + 4 ≤ len = subst (λ (v : ℕ). v * k + v ≤ len) e within in
    omega (arith, all', within')

module _ (sandbox : ℕ) (p : Part) (right : IsRightPart p) (code : List Line) (lines : AreLines sandbox p code)
    (whole : (number : ℕ) (reading : List Piece) → unit p.format * number + unit p.format ≤ length p.code → IsLongestReading (unit_bytes p number) reading → rest_of (unit_bytes p number) reading ≡ []) where
  unit_reading : (many : ℕ) (l : List Line) → AreLinesOfFirst sandbox p many l → (k : ℕ) → k < many → (reading : List Piece) × IsLongestReading (unit_bytes p k) reading
  unit_reading zero l are k below = absurd (omega (arith, below))
  unit_reading (suc many) l are k below =
      ⊎_elim
      (λ (less : k < many). unit_reading many are.0 are.2 k less)
      (λ (more : many ≤ k).
      let same : many ≡ k = omega (arith, below, more) in
      (are.3.reading, subst (λ (m : ℕ). IsLongestReading (unit_bytes p m) are.3.reading) same are.3.longest))
      (cases_lt k many)

  unit_line : (k : ℕ) → unit p.format * k + unit p.format ≤ length p.code → HasLine p (p.code_base + unit p.format * k)
  unit_line k within = of it.0 it.1
    where
      it : (reading : List Piece) × IsLongestReading (unit_bytes p k) reading
      it = unit_reading lines.units code lines.lines_are k (number_below (unit p.format) k lines.units (length p.code) (units p.format) lines.whole within)

      of : (l : List Piece) → IsLongestReading (unit_bytes p k) l → HasLine p (p.code_base + unit p.format * k)
      of [] longest =
          let all = all_bytes (unit_bytes p k) [] longest.is_reading (whole k [] within longest) in
          let size = unit_length p k within in
          let some = unit_some (unit p.format) (units p.format) in
          absurd (omega (arith, all, size, some))
      of (x ∷ after) longest = record { instr = x.instr; size = x.size; line = record { number = k; within = within; before = []; after = after; longest = longest; at_is = omega arith } }

  pub start_line : (a : ℕ) → IsUnitStart p a → HasLine p a
  start_line a start =
      let base = base_whole sandbox p right whole in
      let k = start_is (unit p.format) p.code_base (length p.code) lines.units a (units p.format) base lines.whole start.held.0 start.held.1 start.aligned in
      subst (λ (b : ℕ). HasLine p b) (sym k.1) (unit_line k.0 k.2)

  next_line : (at : ℕ) (i : Instr) (n : ℕ) (line : IsLine p at i n) → at + n < p.code_base + length p.code → HasLine p (at + n)
  next_line at i n line below = of line.after refl
    where
      x : Piece
      x = record { instr = i; size = n }

      of : (l : List Piece) → line.after ≡ l → HasLine p (at + n)
      of [] e =
          let all = all_bytes (unit_bytes p line.number) (line.before ++ (x ∷ line.after)) line.longest.is_reading (whole line.number (line.before ++ (x ∷ line.after)) line.within line.longest) in
          let size = unit_length p line.number line.within in
          let both = bytes_both line.before (x ∷ line.after) in
          let last : bytes_of line.after ≡ 0 = ap bytes_of e in
          let is = line.at_is in
          let more = unit_more p.code_base (unit p.format) line.number in
          let there : at + n ≡ p.code_base + unit p.format * suc line.number = omega (arith, all, size, both, last, is, more) in
          let less : unit p.format * suc line.number < length p.code = omega (arith, there, below) in
          subst (λ (b : ℕ). HasLine p b) (sym there) (unit_line (suc line.number) (next_fits (unit p.format) line.number lines.units (length p.code) (units p.format) lines.whole less))
      of (y ∷ ys) e =
          let both = bytes_both line.before (x ∷ []) in
          let is = line.at_is in
          let split : line.before ++ (x ∷ line.after) ≡ (line.before ++ (x ∷ [])) ++ (y ∷ ys) = ap (λ (l : List Piece). line.before ++ (x ∷ l)) e ∙ sym (append_assoc line.before (x ∷ []) (y ∷ ys)) in
          record {
            instr = y.instr;
            size = y.size;
            line = record {
              number = line.number;
              within = line.within;
              before = line.before ++ (x ∷ []);
              after = ys;
              longest = subst (λ (l : List Piece). IsLongestReading (unit_bytes p line.number) l) split line.longest;
              at_is = omega (arith, is, both);
            };
          }

  -- ---- turns

  module _ (Good : State → Type 0) (keeps : (s : State) (turn : Turn) → Good s → IsTurn p s turn → IsSafeState p s × IsSafeTurn p s turn × IfSome (after_turn turn) Good) (kept : (s : State) → Good s → KeepsAll p s)
      (goes : (s : State) (i : Instr) (n : ℕ) → Good s → Stands s i n → (r : Stepped) → IsStep s r → r.outcome ≡ Next → GoesOn p s n r) where
    abbrev pub OnLine : State → Type 0
    OnLine s = Good s × HasLine p s.hart.pc

    in_code : (s : State) → Good s → InCode p s.hart.pc
    in_code s good = (keeps s (Changes s) good (record { pc = refl; registers = refl; bytes = record { code = λ a own. refl; guards = λ a in_guard none. none } })).0.pc

    on : (s : State) (has : HasLine p s.hart.pc) (after : State) → Good after → after.hart.pc ≡ address_after s.hart.pc has.size → HasLine p after.hart.pc
    on s has after good is =
        let inside = in_code after good in
        let end : p.code_base + length p.code ≤ 2 ^ 32 = code_ends p right in
        let at = has.line.at_is in
        let within = has.line.within in
        let fit = fits p s.hart.pc has.instr has.size has.line in
        let from : p.code_base ≤ after.hart.pc = inside.0 in
        let below : after.hart.pc < p.code_base + length p.code = inside.1 in
        let most : length p.code ≤ 2 ^ 24 = omega (arith, right.code_placed.at_most, code_at_most p.format) in
        let next : after.hart.pc ≡ s.hart.pc + has.size = omega (arith, is, from, below, end, at, within, fit, most) in
        subst (λ (a : ℕ). HasLine p a) (sym next) (next_line s.hart.pc has.instr has.size has.line (subst (λ (a : ℕ). a < p.code_base + length p.code) next below))

    stands_at : (s : State) → Good s → (has : HasLine p s.hart.pc) → Stands s has.instr has.size
    stands_at s good has = stands p s.hart.pc has.instr has.size has.line right s.hart s.memory refl (kept s good).code

    stepped : (s : State) (good : Good s) (has : HasLine p s.hart.pc) (r : Stepped) → IsStep s r → (o : Outcome) → r.outcome ≡ o → IfSome (after_step o r.state) Good → IfSome (after_step o r.state) OnLine
    stepped s good has r step Next is then = (
      then,
      ⊎_elim
          (λ (e : r.state.hart.pc ≡ address_after s.hart.pc has.size). on s has r.state then e)
          (λ (start : IsUnitStart p r.state.hart.pc). start_line r.state.hart.pc start)
          (goes s has.instr has.size good (stands_at s good has) r step is),
    )
    stepped s good has r step Call is then = (then, subst (λ (u : State). HasLine p u.hart.pc) (sym (stopped_stays s r step (λ done. let clash : Next ≡ Call = sym done ∙ is in cc))) has)
    stepped s good has r step (Trap cause at) is then = tt

    replied : (s : State) (good : Good s) (has : HasLine p s.hart.pc) (after : State) → IsReply p s after → Good after → HasLine p after.hart.pc
    replied s good has after reply good' =
        let same = one_instruction s Ecall has.instr reply.size has.size reply.asked (stands_at s good has) in
        let four : reply.size ≡ 4 = ecall_is_wide reply.asked.bytes reply.size reply.asked.spelled in
        on s has after good' (reply.pc ∙ ap (λ (k : ℕ). address_after s.hart.pc k) (sym four ∙ same.1))

    then_good : (s : State) (turn : Turn) → (on_line : OnLine s) → IsTurn p s turn → IfSome (after_turn turn) Good → IfSome (after_turn turn) OnLine
    then_good s (Steps r) (good, has) h then = stepped s good has r h r.outcome refl then
    then_good s (Replies after) (good, has) h then = (then, replied s good has after h then)
    then_good s (Changes after) (good, has) h then = (then, subst (λ (a : ℕ). HasLine p a) (sym h.pc) has)

    pub keeps_lines : (s : State) (turn : Turn) → OnLine s → IsTurn p s turn → IsSafeState p s × IsSafeTurn p s turn × IfSome (after_turn turn) OnLine
    keeps_lines s turn on_line h =
        let it = keeps s turn on_line.0 h in
        (it.0, it.1, then_good s turn on_line h it.2)
