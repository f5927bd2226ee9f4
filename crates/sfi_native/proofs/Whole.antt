-- A turn of a sandbox without a finding as a whole, round by round.
use Rattle.std.proofs.Common.{◌≡◌, ℕ, zero, suc, ◌+◌, ◌-◌, ◌*◌, ◌^◌, ◌<◌, ◌≤◌, ◌⊎◌, inl, inr, List, length, Some, None, refl, sym, ap, ◌∙◌, subst, arith, ⊎_elim}
use Rattle.rv_step.specs.declared.outcome.Outcome.{Outcome}
use Rattle.rv_step.specs.declared.outcome.Outcome.TheVariants.{Next}
use Rattle.rv_step.specs.State.{Hart, State, register}
use Rattle.sfi_image.specs.Spelling.{Part}
use Rattle.sfi_translate.specs.Lines.{Line}
use Rattle.sfi_translate.specs.Machine.{Assembly, AreTranslatedSteps, Before, ControlPoint, Going, Loop, Lost, Slow, Stopped}
use Rattle.sfi_translate.specs.Laws.{IsOver, IsReached, IsTurnTo}
use Rattle.sfi_translate.specs.Lines.{AreLines}
use Rattle.sfi_safety.specs.Places.{IsCleanPart}
use Rattle.sfi_native.specs.Entries.{AreEntries}
use Rattle.sfi_translate.proofs.Facts.{each_turn_ends, reached_harts_are_fixed, translated_runs_as_image, turns_end}
use Rattle.sfi_native.specs.Host.{Answers, Ending, EndsWithin, Host, HostMoves, IsHost, IsInCode, Serves, Spares, Works, answer_of, host_of}
use Rattle.sfi_native.specs.Laws.{IsBefore, placed_most}
use Rattle.x86_instr.specs.declared.instr.Instr.{Instr as Native}
use Rattle.x86_step.specs.Accesses.{AccessesLieIn}
use Rattle.x86_step.specs.State.{Core, IsIn, Machine, Text, with_register}
use Rattle.x86_step.proofs.Facts.{ways_out_access_no_others}
use Rattle.x86_step.specs.Running.{spellings}
use Rattle.x86_step.specs.Step.{Reaches}
use Rattle.sfi_native.specs.declared.layout.Layout.{Layout}
use Rattle.sfi_native.specs.Faults.{HasFixups, accesses_of, fixup_by}
use Rattle.sfi_native.specs.Layout.{DoNotMeet, IsLayout, frame_size, window}
use Rattle.sfi_native.specs.Places.{IsAt, IsAtPlace, end_address, exit_of, whole_code, with_owed}
use Rattle.sfi_native.specs.Table.{HasTable, LieInCode, table_size}
use Rattle.sfi_native.proofs.OwedSteps.{there_few}
use Rattle.sfi_native.specs.Whole.{AreApart, EachTurnCanBegin, EachTurnGoesOn, EndsAsImage, IsAccessed, IsEntered, NativeTurnsEnd, begun}
use Rattle.sfi_native.proofs.Bare.{agree, bare, bare_before, bare_table, has_no_others}
use Rattle.sfi_native.proofs.Kept.{kept_register}
use Rattle.sfi_native.proofs.Fetching.{related_kept}
use Rattle.sfi_native.proofs.Held.{each_code_can_be_run}
use Rattle.sfi_native.proofs.Hosts.{Ready, one_way, ready_on, memory_join, spares_join, spares_others, spares_same}
use Rattle.sfi_native.proofs.Served.{all_made, handed_over, has_place, never_lost}
use Rattle.sfi_native.proofs.CodeSizes.{each_code_fits, whole_size}
use Rattle.sfi_native.proofs.Table.{lines_lie_in_code}
use Rattle.sfi_native.proofs.Tabled.{each_table_can_be_held, of_window}
use Rattle.sfi_native.proofs.Ways.{one_way_out}
use Rattle.sfi_native.proofs.Turning.{CodePart, HostPart, Turns, code_part, few_left, host_part, proper}

-- ==== Rounds.

module _ (sandbox : ℕ) (p : Part) (code : List Line) (s : State) (left : ℕ) (l : Layout) (t : Text) (base : ℕ) (few : left < 2 ^ 31) (fits : exit_of l.plan code < 2 ^ 31) (fixups : HasFixups l.plan t base code) (lie : LieInCode p code)
    (host : Host) (works : IsHost p l base code host) (begins : t.base ≡ base) (size : length t.bytes ≡ exit_of l.plan code) (table_at : ℕ) (entry : Machine) where
  abbrev Ended : Ending → Machine → Type 0
  Ended e n = EndsAsImage p code l base host s left entry e n

  -- an answer ends the turn where it is over, and enters code elsewhere
  ended : (k : Going) (o : Outcome) → Some o ≡ answer_of k.place → IsInCode k.place ⊎ IsOver k → IsOver k
  ended k o right (inr over) = over
  ended k o right (inl inside) = absurd (by k.place right inside)
    where
      by : (place : ControlPoint) → Some o ≡ answer_of place → IsInCode place → ⊥
      by (Before lines) right inside = cc
      by Slow right inside = inside
      by Loop right inside = inside
      by (Stopped o) right inside = inside
      by Lost right inside = inside

  entered : (k : Going) → None ≡ answer_of k.place → IsInCode k.place ⊎ IsOver k → IsInCode k.place
  entered k right (inl inside) = inside
  entered k right (inr over) =
      absurd (⊎_elim (λ one. let clash : None ≡ Some one.0 = right ∙ ap answer_of one.1 in cc) (λ one. let clash : None ≡ Some Next = right ∙ ap answer_of one.0 in cc) over)

  before : (place : ControlPoint) → IsInCode place → (lines : List Line) × (place ≡ Before lines)
  before (Before lines) is = (lines, refl)
  before Slow is = absurd is
  before Loop is = absurd is
  before (Stopped o) is = absurd is
  before Lost is = absurd is

  -- code's part and the host's, from a state of the turn in which code has been entered
  module _ (n moved : ℕ) (g last : Going) (m : Machine) (here : Ready p code l t base table_at host g m) (inside : IsInCode g.place) (turn : Turns sandbox p code s left moved g) (steps : AreTranslatedSteps Assembly p code n g last) (over : IsOver last) where
    lines : (lines : List Line) × (g.place ≡ Before lines)
    lines = before g.place inside

    code_does : CodePart sandbox p code s left l t base few fits fixups lie n m last
    code_does = code_part sandbox p code s left l t base few fits fixups lie n moved g last m here.stands here.table here.is_at lines.0 lines.1 turn steps over

    host_does : HostPart sandbox p code s left code_does.rest code_does.slow last
    host_does = host_part sandbox p code s left code_does.rest code_does.moved code_does.slow last code_does.turn code_does.steps over

    handed : IsInCode host_does.next.place ⊎ IsOver host_does.next
    handed = handed_over p code code_does.slow host_does.next host_does.leads

    done : Works p l base code host host_does.next code_does.out
    done =
        works.works code_does.slow host_does.next code_does.out code_does.is_slow (few_left sandbox p code s left code_does.moved code_does.slow few code_does.turn) (proper sandbox p code s left code_does.moved code_does.slow code_does.turn)
        (translated_runs_as_image Assembly sandbox p code s left code_does.moved code_does.slow code_does.turn).reached.has_data (proper sandbox p code s left host_does.moved host_does.next host_does.turn) code_does.alike
        (works.kept m.core code_does.out.core code_does.others here.relies) host_does.leads

    -- from before code to behind the host's work
    all : (k : Machine) → Serves p l base code host.own host_does.next code_does.out k → Serves p l base code host.own host_does.next m k
    all k it = record {
      related = it.related;
      is_at = it.is_at;
      spares = spares_join p l host.own m.core code_does.out.core k.core (spares_others p l host.own here.stands.layout m.core code_does.out.core code_does.others) it.spares;
    }

    comes_out : (k : Machine) (c : CodePart sandbox p code s left l t base few fits fixups lie n k last) → c.out.rip ≡ t.base + length t.bytes
    comes_out k c =
        let at = subst (λ q. IsAtPlace l.plan base code q c.slow.state.hart.pc c.out) c.is_slow c.alike.is_at in
        let rip = at.0 in
        omega (arith, rip, begins, size)

    is_out : code_does.out.rip ≡ t.base + length t.bytes
    is_out = comes_out m code_does

    -- Code comes out, too, where memory has nothing but frame, table and data.
    abbrev bare_machine : Machine
    bare_machine = record { rip = m.rip; core = bare p l here.table.at m.core }

    bare_at : IsAt l.plan base code g bare_machine
    bare_at =
        let at : IsAtPlace l.plan base code (Before lines.0) g.state.hart.pc m = subst (λ q. IsAtPlace l.plan base code q g.state.hart.pc m) lines.1 here.is_at in
        subst (λ q. IsAtPlace l.plan base code q g.state.hart.pc bare_machine) (sym lines.1) at

    bare_does : CodePart sandbox p code s left l t base few fits fixups lie n bare_machine last
    bare_does =
        code_part sandbox p code s left l t base few fits fixups lie n moved g last bare_machine
        (bare_before p l here.table.at m.core (whole_code l.plan (end_address p) code) t base (with_owed l.plan p g) here.stands)
        (bare_table p l base code m.core here.table) bare_at lines.0 lines.1 turn steps over

    accesses : AccessesLieIn (IsAccessed p l table_at) t m
    accesses =
        subst (λ at. AccessesLieIn (IsAccessed p l at) t m) here.table_is
        (ways_out_access_no_others (IsAccessed p l here.table.at) t bare_does.made bare_machine bare_does.out m.core.memory bare_does.reached (comes_out bare_machine bare_does)
        (has_no_others p l here.table.at m.core)
        (λ a is. inr (inr (subst (λ span. IsIn span a) here.stands.faults_are_handled is)))
        (agree p l here.table.at m.core here.stands.closed))

    only : (most : ℕ) (k : Machine) → Reaches t most m k → k.rip ≡ t.base + length t.bytes → k ≡ code_does.out
    only most k reached e = one_way_out t most code_does.made m k code_does.out reached code_does.reached e is_out

    ends : Spares p l host.own entry.core m.core → (e : Ending) (k : Machine) → host.does code_does.out (Some e) k → Ended e k
    ends spares e k did =
        let it : Answers p l base code host.own host_does.next code_does.out (Some e) k = done.right (Some e) k did in
        let by_code = spares_others p l host.own here.stands.layout m.core code_does.out.core code_does.others in
        record {
          last = host_does.next;
          is_over = ended host_does.next e.outcome it.outcome handed;
          as_image = translated_runs_as_image Assembly sandbox p code s left host_does.moved host_does.next host_does.turn;
          ends = record {
            outcome = it.outcome;
            hart = it.hart;
            left = it.left;
            bytes = it.bytes;
            spares = memory_join p l host.own entry.core m.core k.core spares.memory (memory_join p l host.own m.core code_does.out.core k.core by_code.memory it.spares);
          };
        }

    right : (k : Machine) → host.does code_does.out None k → Answers p l base code host.own host_does.next code_does.out None k
    right k did = done.right None k did

    ready_again : (k : Machine) → host.does code_does.out None k → Ready p code l t base table_at host host_does.next k
    ready_again k did = ready_on p code l t base table_at host begins size g host_does.next m k here (all k (right k did).1) (done.relies k did)

  rounds : (room n moves : ℕ) (g last : Going) (m : Machine) → n ≤ room → Ready p code l t base table_at host g m → Spares p l host.own entry.core m.core → IsInCode g.place → Turns sandbox p code s left moves g
      → AreTranslatedSteps Assembly p code n g last → IsOver last → EndsWithin room (placed_most * n) t p l (IsAccessed p l table_at) host Ended m
  rounds zero n moved g last m fits_in here spares inside turn steps over =
      let fewer = (code_does n moved g last m here inside turn steps over).fewer in
      absurd (omega (arith, fewer, fits_in))
  rounds (suc room) n moved g last m fits_in here spares inside turn steps over =
      let c = code_does n moved g last m here inside turn steps over in
      let h = host_does n moved g last m here inside turn steps over in
      let work = done n moved g last m here inside turn steps over in
      let as_many = c.as_many in
      let later = h.fewer in
      record {
        out = c.out;
        made = c.made;
        rest = placed_most * h.rest;
        as_many = omega (arith, as_many, later);
        comes_out = c.reached;
        is_out = is_out n moved g last m here inside turn steps over;
        only = only n moved g last m here inside turn steps over;
        accesses = accesses n moved g last m here inside turn steps over;
        others = c.others;
        answers = work.answers;
        ends = ends n moved g last m here inside turn steps over spares;
        enters = λ k did.
            let as_asked = right n moved g last m here inside turn steps over k did in
            let it = all n moved g last m here inside turn steps over k as_asked.1 in
            let less = c.fewer in
            let fewer = h.fewer in
            rounds room h.rest h.moved h.next last k (omega (arith, less, fewer, fits_in)) (ready_again n moved g last m here inside turn steps over k did)
            (spares_join p l host.own entry.core m.core k.core spares it.spares) (entered h.next as_asked.0 (handed n moved g last m here inside turn steps over)) h.turn h.steps over;
      }

-- ==== The whole.

pub native_turns_end : NativeTurnsEnd
native_turns_end sandbox p code l t base host s left m works here =
    let few = here.few in
    let end = each_turn_ends Assembly sandbox p code s left here.clean here.lines here.reached (omega (arith, few)) in
    let first : IsTurnTo Assembly sandbox p code s left 0 (begun s left) = record { clean = here.clean; lines = here.lines; reached = here.reached; fits = omega (arith, few); moved = refl } in
    let begins = host_part sandbox p code s left end.0 0 (begun s left) end.1 first end.2.moved end.3 in
    let same = one_way p code (begun s left) begins.next here.first begins.leads here.begins in
    let fewer = begins.fewer in
    let moves = turns_end Assembly sandbox p code s left end.0 end.1 end.2 in
    let ready : Ready p code l t base here.table.at host here.first m = record { is_at = here.is_at; stands = here.stands; table = here.table; table_is = refl; apart = here.apart; relies = here.relies } in
    record {
      rounds = end.0;
      few = moves;
      instructions = placed_most * begins.rest;
      as_many = omega (arith, moves, fewer);
      ends = rounds sandbox p code s left l t base few (each_code_fits l.plan sandbox p code here.clean.right here.lines) here.fixups (lines_lie_in_code sandbox p code here.clean here.lines)
          host works here.text_begins here.text_size here.table.at m end.0 begins.rest begins.moved here.first end.1 m (omega (arith, fewer)) ready (spares_same p l host.own m.core) here.in_code
          (subst (IsTurnTo Assembly sandbox p code s left begins.moved) same begins.turn) (subst (λ x. AreTranslatedSteps Assembly p code begins.rest x end.1) same begins.steps) end.3;
    }

pub each_turn_goes_on : EachTurnGoesOn
each_turn_goes_on sandbox p code l t base host s u left next_left first m n here reached few begins inside it relies =
    let ready : Ready p code l t base here.table.at host here.first m = record { is_at = here.is_at; stands = here.stands; table = here.table; table_is = refl; apart = here.apart; relies = here.relies } in
    let next = ready_on p code l t base here.table.at host here.text_begins here.text_size here.first first m n ready it relies in
    record {
      clean = here.clean;
      lines = here.lines;
      reached = reached;
      few = few;
      first = first;
      begins = begins;
      in_code = inside;
      is_at = next.is_at;
      stands = next.stands;
      text_begins = here.text_begins;
      text_size = here.text_size;
      fixups = here.fixups;
      table = next.table;
      apart = next.apart;
      relies = relies;
    }

-- ==== It can begin.

-- with the pc in edx, which is free
with_pc_in_edx : (is : List Native) (t : Text) (at : ℕ) (p : Part) (l : Layout) (g : Going) (c : Core) (pc : ℕ) → IsBefore is t at p l g c → IsBefore is t at p l g (with_register c 2 pc)
with_pc_in_edx is t at p l g c pc here = record {
  layout = here.layout;
  text_is_fixed = record { ends = here.text_is_fixed.ends; apart = here.text_is_fixed.apart };
  text_is_low = here.text_is_low;
  faults_are_handled = here.faults_are_handled;
  stands = here.stands;
  related = related_kept p l here.layout g c (with_register c 2 pc) here.related (kept_register c 2 pc (omega arith));
  closed = here.closed;
}

-- which the table doesn't use
table_with_pc : (p : Part) (l : Layout) (base : ℕ) (code : List Line) (c : Core) (pc : ℕ) (has : HasTable p l base code c) → (it : HasTable p l base code (with_register c 2 pc)) × (it.at ≡ has.at)
table_with_pc p l base code c pc has = (
  record {
    table = has.table;
    entries = has.entries;
    at = has.at;
    ends = has.ends;
    frame_apart = has.frame_apart;
    data_apart = has.data_apart;
    holds = has.holds;
    holds_owed = has.holds_owed;
    origin_is = has.origin_is;
    code_is = has.code_is;
  },
  refl,
)

module _ (sandbox : ℕ) (p : Part) (code : List Line) (l : Layout) (base : ℕ) (table : List ℕ) (table_at : ℕ) (host : Host) (s : State) (left : ℕ) where
  -- a processor before that line
  entered_there : IsCleanPart sandbox p → AreLines sandbox p code → AreEntries l.plan p code table → IsReached p s → left < 2 ^ 31 → IsLayout p l → base + exit_of l.plan code < 2 ^ 47 → table_at + table_size p ≤ 2 ^ 47
      → AreApart p l base code table_at host.own → ((c : Core) → host.relies c) → (first : Going) → HostMoves p code (begun s left) first → IsInCode first.place → IsReached p first.state → first.left < 2 ^ 31
      → (t : Text) × (m : Machine) × IsEntered sandbox p code l t base host s left m
  entered_there clean are_lines entries reached few layout low table_low apart relies first begins inside comes first_few =
      let is = whole_code l.plan (end_address p) code in
      let size = whole_size l.plan (end_address p) code in
      let fits = each_code_fits l.plan sandbox p code clean.right are_lines in
      let same = reached_harts_are_fixed sandbox p first.state clean comes in
      let fixups = fixup_by (accesses_of l.plan code code) base (exit_of l.plan code) in
      let text : Text = record { base = base; bytes = spellings is; fixups = fixups; handled = window p l } in
      let owes = with_owed l.plan p first in
      let owes_fit : owes.left < 2 ^ 32 = omega (arith, first_few, there_few l.plan p first.place) in
      let it = each_code_can_be_run is fixups base p l owes layout comes.state.hart.count
      (subst (λ (h : Hart). (r : ℕ) → register h r < 2 ^ 32) (sym same) comes.state.hart.words) owes_fit (omega (arith, low, size))
      (subst (λ n. DoNotMeet base n l.frame frame_size) (sym size) apart.text.from_frame) (subst (λ n. DoNotMeet base n l.data_start p.data_size) (sym size) (of_window p l base (exit_of l.plan code) apart.text.from_window)) in
      let held = each_table_can_be_held p l base code table table_at is text base owes it.0 entries (omega (arith, fits)) (omega (arith, low)) (omega (arith, table_low)) apart.table.from_frame apart.table.from_window it.1 in
      let made = all_made p code (begun s left) first begins (λ rest e. let clash : Loop ≡ Before rest = e in cc) (omega (arith, few)) in
      let place = has_place l.plan base code first.place first.state.hart.pc made.last (never_lost p code (begun s left) first begins) in
      let core = with_register held.0 2 first.state.hart.pc in
      let tabled = table_with_pc p l base code held.0 first.state.hart.pc held.2 in (
        text,
        record { rip = place.rip; core = core },
        record {
          clean = clean;
          lines = are_lines;
          reached = reached;
          few = few;
          first = first;
          begins = begins;
          in_code = inside;
          is_at = place.is_there core refl;
          stands = with_pc_in_edx is text base p l owes held.0 first.state.hart.pc held.1;
          text_begins = refl;
          text_size = size;
          fixups = λ at from below. refl;
          table = tabled.0;
          apart = subst (λ at. AreApart p l base code at host.own) (sym (tabled.1 ∙ held.3)) apart;
          relies = relies core;
        },
      )

pub each_turn_can_begin : EachTurnCanBegin
each_turn_can_begin sandbox p code l base table table_at does own s left clean lines entries reached few layout low table_low apart =
    let end = each_turn_ends Assembly sandbox p code s left clean lines reached (omega (arith, few)) in
    let first : IsTurnTo Assembly sandbox p code s left 0 (begun s left) = record { clean = clean; lines = lines; reached = reached; fits = omega (arith, few); moved = refl } in
    let it = host_part sandbox p code s left end.0 0 (begun s left) end.1 first end.2.moved end.3 in
    let below = few_left sandbox p code s left it.moved it.next few it.turn in
    record {
      first = it.next;
      begins = it.leads;
      leads = ⊎_elim
          (λ (inside : IsInCode it.next.place).
          inr (entered_there sandbox p code l base table table_at (host_of does own) s left clean lines entries reached few layout low table_low apart (λ c. tt) it.next it.leads inside
          (translated_runs_as_image Assembly sandbox p code s left it.moved it.next it.turn).reached below))
          (λ (over : IsOver it.next). inl over)
          (handed_over p code (begun s left) it.next it.leads);
    }
