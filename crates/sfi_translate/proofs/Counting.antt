-- The steps that are left suffice for the lines up to the next head, and for one step more.
use Rattle.sfi_translate.proofs.Prelude.{◌≡◌, ℕ, ◌+◌, ◌*◌, ◌≤◌, refl, sym, ap, ◌∙◌, arith, inl, inr, subst, List, Part, Line}
use Rattle.std.proofs.Common.{◌≢◌, ◌%◌, ◌/◌, ◌^◌, ◌<◌, ◌⊎◌, ◌==◌, Bool, true, false, cond, Option, Some, None}
use Rattle.std.specs.Prelude.{nat_le, not, ◌||◌, ◌&&◌, is_some}
use Rattle.std.proofs.lemmas.Bool.{cond_both, eqb-true, eq-eqb, ltb-false, leb-false, or_parts, not-false, false≢true}
use Rattle.rv_word.specs.declared.instr.Instr.{Instr}
use Rattle.rv_word.specs.declared.instr.Instr.TheVariants.{Op, OpImm, Load, Store, Branch, Jal, Jalr, Lui, Auipc, Fence, Ecall, Ebreak}
use Rattle.rv_word.specs.declared.instr.LoadKind.{LoadKind}
use Rattle.rv_word.specs.Spelling.{offset_by}
use Rattle.rv_mem.specs.Bytes.{Bytes, bytes_at, loaded, addresses, address_after}
use Rattle.rv_step.specs.declared.outcome.Outcome.TheVariants.{Next, Trap}
use Rattle.rv_step.specs.declared.outcome.Cause.TheVariants as cause
use Rattle.rv_step.specs.State.{Hart, State, register, past, with_pc, even_of}
use Rattle.rv_step.specs.Step.{IsStep, effect, after_load, next, unchanged, load_size, store_size, is_taken}
use Rattle.sfi_formats.specs.Formats.{unit}
use Rattle.sfi_translate.specs.Machine.{Target, C, Assembly, leaves, ControlPoint, Before, Slow, Loop, Stopped, Lost, label, entry, entered, before_or, counted, is_short, at_head, jumps, enters, after_line, from_loop}
use Rattle.sfi_translate.proofs.LinesStand.{IsLine}
use Rattle.sfi_translate.proofs.Following.{Follow, label_follows, entry_follows, has_label}

-- Before these lines, which are those from pc on, there are, as lines count, 65 steps less one for each two bytes since the last head, unless one stands
-- there still. The budget is how many moves more the turn may make.
pub record IsBefore (t : Target) (p : Part) (lines : List Line) (s : State) (left budget : ℕ) : Type 0 where
  pub rank : ℕ
  pub at : ℕ
  pub follow : Follow p rank at lines
  pub pc : s.hart.pc ≡ at % 2 ^ 32
  pub low : rank ≤ 4
  pub some : 0 < counted t left
  pub enough : (rank < 4 → (at % 128) ≢ 0) → 65 ≤ counted t left + at % 128 / 2
  pub room : 5 * left + 5 ≤ budget + rank

-- before a slow step is a step; where a turn is lost is no line
abbrev pub IsEnough : Target → Part → ControlPoint → State → ℕ → ℕ → Type 0
IsEnough t p (Before lines) s left budget = IsBefore t p lines s left budget
IsEnough t p Slow s left budget = (0 < left) × (5 * left ≤ budget)
IsEnough t p Loop s left budget = 5 * left + 4 ≤ budget
IsEnough t p (Stopped o) s left budget = (o ≢ Next) × IsStep s (record { outcome = o; state = s })
IsEnough t p Lost s left budget = (i : Instr) (n : ℕ) → IsLine p s.hart.pc i n → ⊥

pub counted_some : (t : Target) (left : ℕ) → 0 < counted t left → 0 < left
counted_some C left some = some
counted_some Assembly left some = omega (arith, some)

counted_less : (t : Target) (fewer left : ℕ) → fewer + 1 ≡ left → 0 < counted t left → counted t fewer + 1 ≡ counted t left
counted_less C fewer left less some = less
counted_less Assembly fewer left less some = omega (arith, less, some)

-- a line's address has 32 bits
small : (to : ℕ) → to < 2 ^ 32 → to ≡ to % 2 ^ 32
small to fits = omega (arith, fits)

from_base : (base k o at : ℕ) → at ≡ base + k + o → base ≤ at
from_base base k o at is = omega (arith, is)

module _ (p : Part) (code : List Line) (goes : Follow p 0 p.code_base code) (s : State) (left budget : ℕ) (some : 0 < left) (fits : s.hart.pc < 2 ^ 32) where
  abbrev Enough : Target → ControlPoint → Type 0
  Enough t q = IsEnough t p q s left budget

  pub no_line : (to : ℕ) → s.hart.pc ≡ to → label to code ≡ None → (i : Instr) (n : ℕ) → IsLine p s.hart.pc i n → ⊥
  no_line to is none i n line =
      let there : IsLine p to i n = subst (λ (a : ℕ). IsLine p a i n) is line in
      has_label p to i n there code 0 p.code_base goes (from_base p.code_base _ _ to there.at_is) none

  -- at the label, or the entry, of pc
  there : (t : Target) (rank to : ℕ) (lines : List Line) → Follow p rank to lines → rank ≤ 4 → s.hart.pc ≡ to → 65 ≤ counted t left + to % 128 / 2 → 5 * left + 5 ≤ budget + rank → IsBefore t p lines s left budget
  there t rank to lines follow low is many room = record {
    rank = rank;
    at = to;
    follow = follow;
    pc = is ∙ small to (subst (λ (a : ℕ). a < 2 ^ 32) is fits);
    low = low;
    some = omega (arith, many);
    enough = λ off. many;
    room = room;
  }

  label_enough : (t : Target) (to : ℕ) → s.hart.pc ≡ to → 65 ≤ counted t left + to % 128 / 2 → 5 * left + 1 ≤ budget → (other : ControlPoint) → (label to code ≡ None → Enough t other) → (o : Option (List Line)) → label to code ≡ o → Enough t (before_or other o)
  label_enough t to is many room other else_ None none = else_ none
  label_enough t to is many room other else_ (Some lines) found = there t 4 to lines (label_follows p to code lines 0 p.code_base goes found) (omega arith) is many (omega (arith, room))

  entry_enough : (t : Target) (to : ℕ) → s.hart.pc ≡ to → 65 ≤ counted t left → 5 * left + 2 ≤ budget → (o : Option (List Line)) → entry to code ≡ o → Enough t (before_or Slow o)
  entry_enough t to is many room None none = (some, omega (arith, room))
  entry_enough t to is many room (Some lines) found = there t 3 to lines (entry_follows p to code lines 0 p.code_base goes found) (omega arith) is (omega (arith, many)) (omega (arith, room))

  head_enough : (t : Target) (place : ControlPoint) → 5 * left ≤ budget → (65 ≤ counted t left → Enough t place) → Enough t (at_head t left place)
  head_enough t place room ok = cond_both (is_short t left) Slow place (Enough t) (λ e. (some, room)) (λ e. ok (ltb-false (counted t left) 65 e))

  jumps_enough : (t : Target) (from to : ℕ) → s.hart.pc ≡ to → (from < to → from / 128 ≡ to / 128 → 65 ≤ counted t left + to % 128 / 2) → 5 * left + 4 ≤ budget → Enough t (jumps t code from to left)
  jumps_enough t from to is other room =
      let tested = nat_le to from || not ((from / 128) == (to / 128)) in
      let place = before_or Lost (label to code) in
      let at_label = λ (many : 65 ≤ counted t left + to % 128 / 2). label_enough t to is many (omega (arith, room)) Lost (no_line to is) (label to code) refl in
      cond_both (leaves t from to) Loop _ (Enough t) (λ e. room)
      (λ e. cond_both tested (at_head t left place) place (Enough t) (λ f. head_enough t place (omega (arith, room)) (λ many. at_label (omega (arith, many))))
      (λ f.
      let both = or_parts (nat_le to from) (not ((from / 128) == (to / 128))) f in
      at_label (other (leb-false to from both.0) (eqb-true (from / 128) (to / 128) (not-false ((from / 128) == (to / 128)) both.1)))))

  entered_enough : (t : Target) (to : ℕ) → s.hart.pc ≡ to → 65 ≤ counted t left → 5 * left + 2 ≤ budget → Enough t (before_or Slow (entered t code to))
  entered_enough C to is many room = entry_enough C to is many room (entry to code) refl
  entered_enough Assembly to is many room = label_enough Assembly to is (omega (arith, many)) (omega (arith, room)) Slow (λ e. (some, omega (arith, room))) (label to code) refl

  enters_enough : (t : Target) (from to : ℕ) → s.hart.pc ≡ to → 65 ≤ counted t left → 5 * left + 2 ≤ budget → (leaves t from to ≡ true → 5 * left + 4 ≤ budget) → Enough t (enters t p code from to)
  enters_enough t from to is many room far =
      cond_both (not (to % unit p.format == 0)) Slow _ (Enough t) (λ e. (some, omega (arith, room)))
      (λ e. cond_both (leaves t from to) Loop _ (Enough t) far (λ f. entered_enough t to is many room))

  never_leaves : (t : Target) (at : ℕ) → leaves t at at ≡ false
  never_leaves C at = ap not (eq-eqb (at / 16384) (at / 16384) refl)
  never_leaves Assembly at = refl

  pub loop_enough : (t : Target) → 5 * left + 3 ≤ budget → Enough t (from_loop t p code s.hart.pc left)
  loop_enough t room =
      cond_both (nat_le 65 left && _) (at_head t left (enters t p code s.hart.pc s.hart.pc)) Slow (Enough t)
      (λ e. head_enough t (enters t p code s.hart.pc s.hart.pc) (omega (arith, room))
      (λ many. enters_enough t s.hart.pc s.hart.pc refl many (omega (arith, room)) (λ out. absurd (false≢true (sym (never_leaves t s.hart.pc) ∙ out)))))
      (λ e. (some, omega (arith, room)))

-- ---- after a line

-- a line of n bytes, before these lines, is done at an even pc, between two heads
module _ (t : Target) (p : Part) (code : List Line) (goes : Follow p 0 p.code_base code) (n : ℕ) (h : Hart) (rest : List Line) (follow : Follow p 0 (h.pc + n) rest) (left fewer budget : ℕ)
    (size : (n ≡ 2) ⊎ (n ≡ 4)) (even : h.pc % 2 ≡ 0) (between : h.pc % 128 + n ≤ 128)
    (enough : 65 ≤ counted t left + h.pc % 128 / 2) (less : fewer + 1 ≡ left) (room : 5 * fewer + 5 ≤ budget) where
  counts : counted t fewer + 1 ≡ counted t left
  counts = counted_less t fewer left less (omega (arith, even, enough))

  some_counted : 0 < counted t fewer
  some_counted = omega (arith, even, enough, counts)

  some_left : 0 < fewer
  some_left = counted_some t fewer some_counted

  further : ((h.pc + n) % 128) ≢ 0 → 65 ≤ counted t fewer + (h.pc + n) % 128 / 2
  further off = of size
    where
      of : (n ≡ 2) ⊎ (n ≡ 4) → 65 ≤ counted t fewer + (h.pc + n) % 128 / 2
      of (inl e) = omega (arith, off, e, even, between, enough, counts)
      of (inr e) = omega (arith, off, e, even, between, enough, counts)

  falls_on : (s : State) → s.hart.pc ≡ address_after h.pc n → IsEnough t p (Before rest) s fewer budget
  falls_on s is = record { rank = 0; at = h.pc + n; follow = follow; pc = is; low = omega arith; some = some_counted; enough = λ off. further (off (omega arith)); room = omega (arith, room) }

  forward : (to : ℕ) → to % 2 ≡ 0 → h.pc < to → h.pc / 128 ≡ to / 128 → 65 ≤ counted t fewer + to % 128 / 2
  forward to even_to later same = omega (arith, even_to, later, same, even, enough, counts)

  jumps_on : (s : State) (to : ℕ) → s.hart.pc ≡ to → s.hart.pc < 2 ^ 32 → s.hart.pc % 2 ≡ 0 → IsEnough t p (jumps t code h.pc to fewer) s fewer budget
  jumps_on s to is fits even_to = jumps_enough p code goes s fewer budget some_left fits t h.pc to is (forward to (subst (λ (a : ℕ). a % 2 ≡ 0) is even_to)) (omega (arith, room))

  load_on : (m : Bytes) (o : Option ℕ) (kind : LoadKind) (rd at : ℕ) → (after_load o kind rd at n h m).outcome ≡ Next → IsEnough t p (Before rest) (after_load o kind rd at n h m).state fewer budget
  load_on m None kind rd at done = absurd (cc)
  load_on m (Some v) kind rd at done = falls_on _ refl

  store_on : (m w : Bytes) (b : Bool) (at : ℕ) → (cond b (next (past h n) w) (unchanged (Trap cause.Store at) h m)).outcome ≡ Next
      → IsEnough t p (Before rest) (cond b (next (past h n) w) (unchanged (Trap cause.Store at) h m)).state fewer budget
  store_on m w true at done = falls_on _ refl
  store_on m w false at done = absurd (cc)

  branch_on : (m : Bytes) (b : Bool) (to : ℕ) → (cond b (with_pc h to) (past h n)).pc < 2 ^ 32 → (cond b (with_pc h to) (past h n)).pc % 2 ≡ 0
      → IsEnough t p (cond b (jumps t code h.pc to fewer) (Before rest)) (record { hart = cond b (with_pc h to) (past h n); memory = m }) fewer budget
  branch_on m true to fits even_to = jumps_on _ to refl fits even_to
  branch_on m false to fits even_to = falls_on _ refl

  jalr_on : (s : State) (to : ℕ) → s.hart.pc ≡ to → s.hart.pc < 2 ^ 32 → IsEnough t p (at_head t fewer (enters t p code h.pc to)) s fewer budget
  jalr_on s to is fits =
      head_enough p code goes s fewer budget some_left fits t (enters t p code h.pc to) (omega (arith, room))
      (λ many. enters_enough p code goes s fewer budget some_left fits t h.pc to is many (omega (arith, room)) (λ e. omega (arith, room)))

  pub line_enough : (i : Instr) (m : Bytes) → (effect i n h m).outcome ≡ Next → (effect i n h m).state.hart.pc < 2 ^ 32 → (effect i n h m).state.hart.pc % 2 ≡ 0
      → IsEnough t p (after_line t p code i h rest fewer) (effect i n h m).state fewer budget
  line_enough (Op op rd rs1 rs2) m done fits even_to = falls_on _ refl
  line_enough (OpImm op rd rs1 imm) m done fits even_to = falls_on _ refl
  line_enough (Load kind rd rs1 imm) m done fits even_to = load_on m (loaded m (offset_by (register h rs1) imm) (load_size kind)) kind rd _ done
  line_enough (Store width rs1 rs2 imm) m done fits even_to = store_on m _ (is_some (bytes_at m (addresses (offset_by (register h rs1) imm) (store_size width)))) _ done
  line_enough (Branch c rs1 rs2 offset) m done fits even_to = branch_on m (is_taken c (register h rs1) (register h rs2)) (offset_by h.pc offset) fits even_to
  line_enough (Jal rd offset) m done fits even_to = jumps_on _ (offset_by h.pc offset) refl fits even_to
  line_enough (Jalr rd rs1 imm) m done fits even_to = jalr_on _ (even_of (offset_by (register h rs1) imm)) refl fits
  line_enough (Lui rd imm) m done fits even_to = falls_on _ refl
  line_enough (Auipc rd imm) m done fits even_to = falls_on _ refl
  line_enough (Fence imm rd rs1) m done fits even_to = falls_on _ refl
  line_enough Ecall m done fits even_to = absurd (cc)
  line_enough Ebreak m done fits even_to = absurd (cc)
