-- What holds of translations: the laws, for proofs here and in the crates above.
use Rattle.sfi_translate.proofs.Prelude.{◌≡◌, ℕ, ◌+◌, ◌*◌, ◌≤◌, List, [], ◌∷◌, refl, subst, arith, Part, Line, Does}
use Rattle.std.proofs.Common.{◌⊎◌, Bool, true, false, Option, Some, length}
use Rattle.std.specs.Prelude.{IfSome}
use Rattle.rv_word.specs.declared.instr.Instr.{Instr}
use Rattle.rv_comp.proofs.Facts.{spelled_in_range}
use Rattle.rv_step.specs.declared.outcome.Outcome.TheVariants.{Next}
use Rattle.rv_step.specs.State.{State}
use Rattle.rv_step.specs.Step.{Stepped, Stands, IsStep}
use Rattle.sfi_formats.specs.Formats.{unit, has_words}
use Rattle.sfi_safe_runs.specs.Runs.{Empty, Turn, IsTurn, after_turn}
use Rattle.sfi_safe_runs.specs.Safety.{IsSafeState, IsSafeTurn}
use Rattle.sfi_safe_runs.specs.Calling.{KeepsAll}
use Rattle.sfi_rules.specs.Readings.{Piece, IsLongestReading, rest_of}
use Rattle.sfi_rules.proofs.Facts.{in_bundles, in_words}
use Rattle.sfi_report.specs.Listing.{unit_bytes}
use Rattle.sfi_safety.specs.Places.{IsCleanPart, AreCleanBundles, IsGood}
use Rattle.sfi_safety.proofs.Facts as bundles
use Rattle.sfi_word_safety.specs.Code.{IsCleanInWords, IsGoodInWords}
use Rattle.sfi_word_safety.proofs.Facts as words
use Rattle.sfi_translate.specs.Machine.{Target, Before, Going, IsTranslatedStep, fixed}
use Rattle.sfi_translate.proofs.Reached.{reached}
use Rattle.sfi_translate.proofs.Reached as reaching
use Rattle.sfi_translate.specs.Laws.{UnitsAreWhole, HasReached, IsTurnTo, IsAsImage, IsOver, TranslatedRunsAsImage, TurnsGoOn, TurnsEnd}
use Rattle.sfi_translate.specs.Ready.{AccessesSafely, EachTurnEnds, EntriesAreReached, ReachedAccessesAreSafe, ReachedGoOn, ReachedHartsAreFixed, TurnsAddUp, TurnsAreReady}
use Rattle.sfi_translate.specs.Samples.{FormsAreSpelled}
use Rattle.sfi_translate.proofs.Samples.{spelled_forms}
use Rattle.sfi_translate.proofs.Following.{Follow, code_follows}
use Rattle.sfi_safety.proofs.Safe.{goes, word_goes}
use Rattle.sfi_translate.proofs.OnLines.{HasLine, GoesOn, start_line, keeps_lines}
use Rattle.sfi_translate.proofs.Accesses.{bundles_based, words_based}
use Rattle.sfi_translate.proofs.Ready.{accesses_here, fixed_here}
use Rattle.sfi_translate.proofs.Moves.{turn_so_far, as_image, before_line, goes_on, run_good}
use Rattle.sfi_translate.proofs.Turns as turns
use Rattle.sfi_translate.proofs.Whole.{bundles_whole, words_whole}

pub has_reached : HasReached
has_reached = reached

pub entries_are_reached : EntriesAreReached
entries_are_reached = reaching.entries_are_reached

pub reached_go_on : ReachedGoOn
reached_go_on = reaching.reached_go_on

pub forms_are_spelled : FormsAreSpelled
forms_are_spelled = spelled_forms

-- ---- by format

-- what holds in bundles and in words holds of each sandbox without a finding
in_any : (sandbox : ℕ) (p : Part) (Q : Type 0) → IsCleanPart sandbox p → (AreCleanBundles sandbox p → Q) → (IsCleanInWords p → Q) → Q
in_any sandbox p Q clean of_bundles of_words = by (has_words p.format) refl
  where
    by : (b : Bool) → has_words p.format ≡ b → Q
    by true has = of_words (record {
      words = has;
      right = clean.right;
      apart = clean.apart;
      clean = (words.finds_what_is_broken sandbox p [] clean.right (in_words sandbox p [] has clean.none_found)).0 refl;
    })
    by false none = of_bundles (record { bundles = none; right = clean.right; apart = clean.apart; none_found = in_bundles sandbox p [] none clean.none_found })

pub units_are_whole : UnitsAreWhole
units_are_whole sandbox p number reading clean within longest =
    in_any sandbox p (rest_of (unit_bytes p number) reading ≡ []) clean
    (λ each. bundles_whole p number reading sandbox each within longest) (λ each. words_whole p number reading each within longest)

-- ---- what a run comes to

pub reached_harts_are_fixed : ReachedHartsAreFixed
reached_harts_are_fixed sandbox p s clean from =
    in_any sandbox p (fixed p s.hart ≡ s.hart) clean
    (λ each. fixed_here p s from (IsGood sandbox p) (λ u one good h. bundles.turn_keeps sandbox p u one each good h) (λ u good. good.kept) (bundles.entry_is_good sandbox p from.first each from.entry))
    (λ each. fixed_here p s from (IsGoodInWords p) (λ u one good h. words.turn_keeps p u one each good h) (λ u good. good.kept) (words.entry_is_good p from.first each from.entry))

pub reached_accesses_are_safe : ReachedAccessesAreSafe
reached_accesses_are_safe sandbox p s i n clean from stands =
    in_any sandbox p (AccessesSafely p s i) clean
    (λ each.
    accesses_here p s from (IsGood sandbox p) (λ u one good h. bundles.turn_keeps sandbox p u one each good h) (λ u good. good.kept) (bundles.entry_is_good sandbox p from.first each from.entry)
    clean.right clean.apart (λ u j k good there. bundles_based sandbox p u j k each good there) i n stands)
    (λ each.
    accesses_here p s from (IsGoodInWords p) (λ u one good h. words.turn_keeps p u one each good h) (λ u good. good.kept) (words.entry_is_good p from.first each from.entry)
    clean.right clean.apart (λ u j k good there. words_based p u j k each good there) i n stands)

-- ---- a turn

module _ (t : Target) (sandbox : ℕ) (p : Part) (code : List Line) (s : State) (left moves : ℕ) (g : Going) (turn : IsTurnTo t sandbox p code s left moves g) where
  whole : (number : ℕ) (reading : List Piece) → unit p.format * number + unit p.format ≤ length p.code → IsLongestReading (unit_bytes p number) reading → rest_of (unit_bytes p number) reading ≡ []
  whole number reading within longest = units_are_whole sandbox p number reading turn.clean within longest

  follow : Follow p 0 p.code_base code
  follow = code_follows sandbox p turn.clean.right whole code turn.lines

  -- what is said of the turn
  record Comes : Type 0 where
    image : IsAsImage p s left g
    most : moves ≤ 5 * left + 4
    on : IsOver g ⊎ ((k : Going) × IsTranslatedStep t p code g k)
    before : (at n : ℕ) (i : Instr) (rest : List Line) → g.place ≡ Before (Does at n i ∷ rest) → (g.state.hart.pc ≡ at) × Stands g.state i n

  of_good : (Good : State → Type 0) → ((u : State) (one : Turn) → Good u → IsTurn p u one → IsSafeState p u × IsSafeTurn p u one × IfSome (after_turn one) Good) → ((u : State) → Good u → KeepsAll p u)
      → ((u : State) (i : Instr) (n : ℕ) → Good u → Stands u i n → (r : Stepped) → IsStep u r → r.outcome ≡ Next → GoesOn p u n r) → Good turn.reached.first → Comes
  of_good Good keeps kept goes first =
      let OnLine' : State → Type 0 = λ (u : State). Good u × HasLine p u.hart.pc in
      let keeps' = keeps_lines sandbox p turn.clean.right code turn.lines whole Good keeps kept goes in
      let kept' = λ (u : State) (on : OnLine' u). kept u on.0 in
      let on_first : OnLine' turn.reached.first = (first, start_line sandbox p turn.clean.right code turn.lines whole turn.reached.first.hart.pc turn.reached.entry.start) in
      let good = run_good p OnLine' keeps' turn.reached.turns (Some turn.reached.first) on_first turn.reached.run in
      let here : OnLine' s = subst (λ (o : Option State). IfSome o OnLine') turn.reached.after good in
      let so = turn_so_far t p code follow turn.clean.right turn.clean.apart OnLine' keeps' kept' s left turn.fits moves g here turn.reached.state turn.reached.has_data turn.moved in
      let count = so.1 in
      record {
        image = as_image t p code follow turn.clean.right turn.clean.apart OnLine' keeps' kept' s left turn.fits turn.reached so.0 g so.2;
        most = omega (arith, count);
        on = goes_on t p code follow turn.clean.right turn.clean.apart OnLine' keeps' kept' s left turn.fits (λ u on. on.1) so.0 g so.2;
        before = λ at n i rest e. before_line t p code follow turn.clean.right turn.clean.apart OnLine' keeps' kept' s left turn.fits so.0 g so.2 at n i rest e;
      }

  in_bundles_as : AreCleanBundles sandbox p → Comes
  in_bundles_as each =
      of_good (IsGood sandbox p) (λ u one good h. bundles.turn_keeps sandbox p u one each good h) (λ u good. good.kept) (λ u i n good here r step done. goes Empty sandbox p each u i n good here r step done)
      (bundles.entry_is_good sandbox p turn.reached.first each turn.reached.entry)

  in_words_as : IsCleanInWords p → Comes
  in_words_as each =
      of_good (IsGoodInWords p) (λ u one good h. words.turn_keeps p u one each good h) (λ u good. good.kept) (λ u i n good here r step done. word_goes p each u i n good here r step done)
      (words.entry_is_good p turn.reached.first each turn.reached.entry)

  comes : Comes
  comes = in_any sandbox p Comes turn.clean in_bundles_as in_words_as

pub translated_runs_as_image : TranslatedRunsAsImage
translated_runs_as_image t sandbox p code s left moves g turn = (comes t sandbox p code s left moves g turn).image

pub turns_go_on : TurnsGoOn
turns_go_on t sandbox p code s left moves g turn = (comes t sandbox p code s left moves g turn).on

pub turns_end : TurnsEnd
turns_end t sandbox p code s left moves g turn = let most = (comes t sandbox p code s left moves g turn).most in omega (arith, most)

pub turns_are_ready : TurnsAreReady
turns_are_ready t sandbox p code rest s left moves g at n i turn e =
    let all = comes t sandbox p code s left moves g turn in
    let before = all.before at n i rest e in
    record {
      pc = before.0;
      stands = before.1;
      in_range = spelled_in_range before.1.bytes i n before.1.spelled;
      access = reached_accesses_are_safe sandbox p g.state i n turn.clean all.image.reached before.1;
    }

pub each_turn_ends : EachTurnEnds
each_turn_ends = turns.turn_ends turns_go_on turns_end

pub turns_add_up : TurnsAddUp
turns_add_up = turns.turns_add_up
