-- What a job answers on a text, and what `exec` does.
use Rattle.sfi_tool.proofs.Prelude.{◌≡◌, ◌∙◌, ℕ, List, refl, ap, subst, length, slots_of, Part, Result, sym, inl, arith, Bool}
use Rattle.std.proofs.Common.{⊎_elim}
use Rattle.std.proofs.lemmas.Bool.{cases_eq}
use Rattle.std.proofs.Common.{[], ◌++◌, Option, Some, None, map, Vec, Global, ◌≢◌, Ok, Err, ◌⊎◌, inr, ◌≤◌, true, false, ◌<◌}
use Rattle.std.specs.FinMap.{empty}
use Rattle.std.specs.Io.KnownBytes.{Appends, Keeps}
use Rattle.rv_mem.specs.Bytes.{Bytes}
use Rattle.sfi_answers.specs.Answers.{GivesImageThat, stop_of, IsAcceptedImage, IsLayoutFault, IsNoImage, Meaning, check, on_image, Answers, AnswersStatus, IsStop, SaysVerdict, SaysNative, SaysRefused, SaysTranslation}
use Rattle.sfi_answers.specs.FaultTexts.{IsFaultLine, stop_text}
use Rattle.sfi_answers.specs.declared.fault.InputFault.TheVariants.{Hex, TooLarge}
use Rattle.sfi_answers.specs.declared.fault.Stop.TheVariants as stop
use Rattle.sfi_io.specs.Hexadecimal.{WritesPart, GivesBytes, IsInput, IsHexFault, IsHexStop, IsNoHexadecimal, GivesImage, GivesNoImage, limit}
use Rattle.sfi_io.specs.declared.hexadecimal.HexStop.{HexStop}
use Rattle.sfi_io.specs.declared.hexadecimal.HexStop.TheVariants as hex
use Rattle.sfi_tool.specs.declared.execution.ExecFault.{ExecFault}
use Rattle.sfi_tool.specs.declared.execution.ExecFault.TheVariants.{NotAccepted, Image, Interrupted}
use Rattle.sfi_tool.specs.declared.serving.Interruption.TheVariants.{Memory, Read, Write}
use Rattle.sfi_io.specs.declared.streams.Input.TheVariants.{Whole}
use Rattle.sfi_io.specs.declared.streams.Input.TheVariants as inputs
use Rattle.sfi_host.specs.Consoles.{ConsoleState, new_console}
use Rattle.sfi_host.specs.Joint.{Machine, IsMachine}
use Rattle.sfi_host.specs.Loading.{first_seat, with_parts}
use Rattle.sfi_host.specs.Slots.{Slot}
use Rattle.sfi_host.specs.Worlds.{Sandboxes, Seat}
use Rattle.std.specs.Bool.{OnTrue, OnFalse}
use Rattle.sfi_tool.specs.declared.execution.Ended.{Ended}
use Rattle.sfi_tool.specs.Executing.{AreExecuted, Begins, Executes, HaveExecuted, IfKnown, IsBegun, IsRefusalLine, IsStopText, IsTextAccepted, IsTold, Tells, TellsOf, first_streams, status_among, streams}
use Rattle.sfi_tool.specs.Running.{first_slots, SaysRun}
use Rattle.sfi_command.specs.declared.job.RunOptions.{RunOptions}
use Rattle.sfi_tool.specs.private.{AreCut, AreStreamed, AreWithin, Runs, kept}
use Rattle.sfi_answers.proofs.Images.{of_stop}
use Rattle.sfi_tool.proofs.Budgets.{first_within}
use Rattle.sfi_tool.proofs.Turns.{appends_kept, cut_at_end, cut_kept, keeps_appends, no_turn, some_same}
use Rattle.std.specs.Prelude.{IfErr, IfOk, IfSome, IsErr, IsErrAnd}
use Rattle.std.proofs.lemmas.Result.{IfOk-weaker, IfErr-weaker}
use Rattle.sfi_io.specs.declared.hexadecimal.HexFault.{HexFault}
use Rattle.sfi_io.specs.declared.hexadecimal.HexFault.TheVariants.{Odd, Digit}
use Rattle.sfi_answers.specs.declared.fault.Stop.{Stop}
use Rattle.sfi_answers.specs.declared.verdict.Answer.{Answer}
use Rattle.sfi_tool.specs.declared.serving.Interruption.{Interruption}
use Rattle.sfi_tool.specs.Says.{OnlyAppends, Says, HasInputFault, IsDone, IsRefused, meaning_of}
use Rattle.sfi_formats.specs.declared.place.Place.{Place}
use Rattle.sfi_answers.specs.Building.{SaysConversion}
use Rattle.sfi_answers.specs.Moving.{SaysMoved}
use Rattle.sfi_command.specs.declared.job.Job.{Job}
use Rattle.sfi_command.specs.declared.job.Job.TheVariants.{Check, Dis, Build, Map, Run, Exec, Convert, Move, Native, Translate}
use Rattle.sfi_command.specs.Command.{is_raw}

-- ==== From what the parts of `exec` ensure to what it does.

known_weaker : (a b : Option (List ℕ)) (p q : List ℕ → List ℕ → Type 0) → IfKnown a b p → ((x y : List ℕ) → p x y → q x y) → IfKnown a b q
known_weaker None b p q h w = tt
known_weaker (Some x) None p q h w = absurd h
known_weaker (Some x) (Some y) p q h w = w x y h

module _ (budget : ℕ) (ps : List Part) (count : ℕ) (w : Sandboxes) (slots : List Slot) (c d : ConsoleState) (same : count ≡ length ps) (seats : w.seats ≡ map first_seat ps) (bytes : w.bytes ≡ with_parts empty ps)
    (begins : c ≡ new_console count []) where
  first : slots_of w ≡ first_slots ps
  first = ap (λ (b : Bytes). slots_of (record { bytes = b; seats = w.seats })) bytes ∙ ap (λ (s : List Seat). slots_of (record { bytes = with_parts empty ps; seats = s })) seats

  executed : (machine : Machine) (written said x y : List ℕ) (status : ℕ)
      → ((cuts : List ℕ) × ((rest put : List ℕ) → AreExecuted machine budget count (slots_of w) (kept x (cuts ++ rest) put c) slots (kept y rest (put ++ written) d)))
      → IsStopText ps slots said → status ≡ status_among count slots → HaveExecuted machine budget ps x y written said status
  executed machine written said x y status ran text is = record {
    cuts = ran.0 ++ [];
    slots = slots;
    after = kept y [] written d;
    ran = subst (λ (n : ℕ). AreExecuted machine budget n (first_slots ps) (first_streams x (ran.0 ++ []) n) slots (kept y [] written d)) same
        (subst (λ (e : ConsoleState). AreExecuted machine budget count (first_slots ps) (kept x (ran.0 ++ []) [] e) slots (kept y [] written d)) begins
        (subst (λ (s : List Slot). AreExecuted machine budget count s (kept x (ran.0 ++ []) [] c) slots (kept y [] written d)) first (ran.1 [] [])));
    left_is = refl;
    written_is = refl;
    said_is = text;
    status_is = is ∙ ap (λ (n : ℕ). status_among n slots) same;
  }

  pub ran_of : (input left out outs outf err errs : Option (List ℕ)) (said : List ℕ) (ended : Ended) → AreStreamed budget count (slots_of w) c slots d input left out outs → Keeps outs outf
      → IsStopText ps slots said → IsTold ended.told err errs said → ended.status ≡ status_among count slots → Executes budget ps input left out outf err errs ended
  ran_of input left out outs outf err errs said ended are keeps text says is = record {
    written = are.written;
    said = said;
    writes = appends_kept out outs outf are.written are.writes keeps;
    says = says;
    ran = known_weaker input left _ (λ x y. (machine : Machine) → IsMachine machine → HaveExecuted machine budget ps x y are.written said ended.status) are.ran
        (λ x y h machine means. executed machine are.written said x y ended.status (h machine means) text is);
  }

  -- what was written is a beginning of what they put
  pub begins_of : (input out outs : Option (List ℕ)) → AreCut budget (slots_of w) c input out outs → Begins budget ps input out outs
  begins_of input out outs cut = record { written = cut.written; writes = cut.writes; begun = by input cut.begun }
    where
      by : (input : Option (List ℕ)) → IfSome input (λ x. (machine : Machine) → IsMachine machine → (cuts : List ℕ) × IsBegun machine budget (slots_of w) (kept x cuts [] c) cut.written)
          → IfSome input (λ x. (machine : Machine) → IsMachine machine → (cuts : List ℕ) × IsBegun machine budget (first_slots ps) (first_streams x cuts (length ps)) cut.written)
      by None begun = tt
      by (Some x) begun = λ machine is.
          let b = begun machine is in (
            b.0,
            subst (λ (n : ℕ). IsBegun machine budget (first_slots ps) (first_streams x b.0 n) cut.written) same
                (subst (λ (e : ConsoleState). IsBegun machine budget (first_slots ps) (kept x b.0 [] e) cut.written) begins
                (subst (λ (s : List Slot). IsBegun machine budget s (kept x b.0 [] c) cut.written) first b.1)),
          )

  -- what was written of what they put, if anything was that was held back
  pub begins_after : (r : Result (Unit {0}) Interruption) (input left out outs outf : Option (List ℕ)) → IfOk r (λ u. AreStreamed budget count (slots_of w) c slots d input left out outs)
      → IfOk r (λ u. AreWithin budget slots) → IfErr r (λ e. AreCut budget (slots_of w) c input out outs) → Keeps outs outf → Begins budget ps input out outf
  begins_after (Ok u) input left out outs outf are within cut keeps =
      begins_of input out outf (cut_at_end budget count (slots_of w) slots c d input left out outs outf are within keeps)
  begins_after (Err e) input left out outs outf are within cut keeps = begins_of input out outf (cut_kept budget (slots_of w) c input out outs outf cut keeps)

-- nothing was written
pub begins_none : (budget : ℕ) (ps : List Part) (input out outs : Option (List ℕ)) → Keeps out outs → Begins budget ps input out outs
begins_none budget ps input out outs keeps = record {
  written = [];
  writes = keeps_appends out outs keeps;
  begun = some_same input _ (λ x machine is. (
    [],
    record {
      done = 0;
      mid = first_slots ps;
      between = first_streams x [] (length ps);
      ran = (refl, refl);
      turns = [];
      new = first_slots ps;
      after = first_streams x [] (length ps);
      joint = no_turn machine streams (first_slots ps) (first_streams x [] (length ps));
      within = first_within budget (with_parts empty ps) ps 0;
      rest = [];
      output_is = refl;
    },
  ));
}

-- what is told, by whether all of it was written
pub told_is : (told : Bool) (err errs : Option (List ℕ)) (said : List ℕ) → OnTrue told (Appends err errs said) → OnFalse told (WritesPart err errs said) → IsTold told err errs said
told_is true err errs said whole part = whole
told_is false err errs said whole part = part

-- what holds of the bytes, if nothing else does, holds of the text that spells them
pub or_image : (A : Type 0) (P : List ℕ → Type 0) (text bytes read : List ℕ) → GivesImage text bytes → read ≡ bytes → A ⊎ P read → A ⊎ GivesImageThat P text
or_image A P text bytes read gives same (inl a) = inl a
or_image A P text bytes read gives same (inr p) = inr (bytes, gives, subst P same p)

-- ---- a refusal

-- what gives an image keeps the limit
pub keeps_limit : (input bytes : List ℕ) → GivesImage input bytes → length input ≤ limit
keeps_limit input bytes (inl own) = own.short
keeps_limit input bytes (inr spells) = spells.short

-- the verdict with findings
pub as_first : (bytes : List ℕ) (status : ℕ) (text : List ℕ) → SaysRefused false bytes status text → SaysRefused false bytes 1 text
as_first bytes status text says = record { found = says.found; refused = says.refused; status_is = refl; text_is = says.text_is }

-- where a command stops, and memory sufficed, no status is due
pub not_answered : (status : ℕ) (s : Stop) → AnswersStatus status (Err s) → s ≢ stop.Memory → ⊥
not_answered status (stop.Input fault) is other = is
not_answered status (stop.Layout fault) is other = is
not_answered status (stop.Build fault) is other = is
not_answered status stop.Memory is other = absurd (other refl)

-- the line for the bytes is that for the text that spells them
refusal_on_image : (command : Meaning) (text bytes read line : List ℕ) → GivesImage text bytes → read ≡ bytes → IsRefusalLine command read line → IsRefusalLine (on_image command) text line
refusal_on_image command text bytes read line gives same (inl says) = inl (bytes, gives, subst (λ (b : List ℕ). command.says b 1 line) same says)
refusal_on_image command text bytes read line gives same (inr (fault, why, is)) = inr (fault, inr (bytes, gives, subst (λ (b : List ℕ). command.why b fault) same why), is)

-- the line where it spells none
refusal_of_digits : (command : Meaning) (text : List ℕ) (why : HexStop) (line : List ℕ) → length text ≤ limit → IsHexStop text why
    → ((bytes : List ℕ) → GivesImage text bytes → GivesBytes {Z = Global} bytes (Err why)) → stop_of why ≢ stop.Memory → line ≡ stop_text (stop_of why)
    → IsRefusalLine (on_image command) text line
refusal_of_digits command text (hex.Fault fault) line short is only some said =
    inr (stop.Input (Hex fault), inl (short, λ begins. only text (inl (record { begins = begins; short = short; same = refl })), is), said)
refusal_of_digits command text hex.Memory line short is only some said = absurd (some refl)

-- text that spells no bytes, where memory sufficed, gives none
no_bytes : (why : HexStop) (bytes : List ℕ) → stop_of why ≢ stop.Memory → GivesBytes {Z = Global} bytes (Err why) → ⊥
no_bytes (hex.Fault fault) bytes some gives = gives
no_bytes hex.Memory bytes some gives = absurd (some refl)

-- ---- what is said with an error

-- of another that is accepted, and by lines of which something else holds
module _ (A B : Type 0) (P Q : List ℕ → Type 0) (same : Type 0) (err errs : Option (List ℕ)) (accepted : A → B) (refused : (line : List ℕ) → P line → Q line) where
  pub tells_more : (fault : ExecFault) → Tells A P same err errs fault → Tells B Q same err errs fault
  tells_more NotAccepted told = (told.0, refused told.0 told.1, told.2)
  tells_more Image told = absurd told
  tells_more (Interrupted Memory) told = told
  tells_more (Interrupted Read) told = (accepted told.0, told.1)
  tells_more (Interrupted Write) (inl told) = inl (told.0, refused told.0 told.1, told.2)
  tells_more (Interrupted Write) (inr told) = inr (accepted told.0, told.1)

-- of what is accepted
pub tells_nothing : (A : Type 0) (P : List ℕ → Type 0) (same : Type 0) (err errs : Option (List ℕ)) (interruption : Interruption) → A → same → Tells A P same err errs (Interrupted interruption)
tells_nothing A P same err errs Memory accepted stays = stays
tells_nothing A P same err errs Read accepted stays = (accepted, stays)
tells_nothing A P same err errs Write accepted stays = inr (accepted, stays)

-- a run that is broken off
pub interrupted : (r : Result Ended ExecFault) (interruption : Interruption) (P : ExecFault → Type 0) → IsErrAnd r (λ fault. fault ≡ Interrupted interruption) → P (Interrupted interruption) → IfErr r P
interrupted (Ok ended) interruption P is holds = tt
interrupted (Err fault) interruption P is holds = subst P (sym is) holds

abbrev RefusesBytes : List ℕ → List ℕ → Type 0
RefusesBytes bytes line = (¬ IsAcceptedImage bytes) × IsRefusalLine (check false) bytes line

abbrev RefusesText : List ℕ → List ℕ → Type 0
RefusesText text line = (¬ IsTextAccepted text) × IsRefusalLine (on_image (check false)) text line

module _ (same : Type 0) (err errs : Option (List ℕ)) (fault : ExecFault) where
  -- the line of a fault
  pub tells_stop : (s : Stop) (text : List ℕ) → s ≢ stop.Memory → text ≡ stop_text s → Tells ⊥ (λ line. line ≡ text) same err errs fault
      → Tells ⊥ (λ line. (s ≢ stop.Memory) × (line ≡ stop_text s)) same err errs fault
  tells_stop s text some is = tells_more ⊥ ⊥ (λ line. line ≡ text) (λ line. (s ≢ stop.Memory) × (line ≡ stop_text s)) same err errs (λ none. none) (λ line same_text. (some, same_text ∙ is)) fault

  -- the verdict on bytes
  pub tells_verdict : (bytes text : List ℕ) (status : ℕ) → (IsAcceptedImage bytes → status ≡ 0) → SaysRefused false bytes status text → Tells ⊥ (λ line. line ≡ text) same err errs fault
      → Tells ⊥ (RefusesBytes bytes) same err errs fault
  tells_verdict bytes text status done says = tells_more ⊥ ⊥ (λ line. line ≡ text) (RefusesBytes bytes) same err errs (λ none. none) (λ line is. (
    (λ accepted. let e = done accepted in absurd (omega (arith, e, says.status_is))),
    inl (inr (subst (λ (t : List ℕ). SaysRefused false bytes 1 t) (sym is) (as_first bytes status text says))),
  )) fault

  -- the fault of bytes
  pub tells_fault : (bytes : List ℕ) (s : Stop) → (IsAcceptedImage bytes → AnswersStatus 0 (Err s)) → IsStop (IsLayoutFault bytes) s
      → Tells ⊥ (λ line. (s ≢ stop.Memory) × (line ≡ stop_text s)) same err errs fault → Tells ⊥ (RefusesBytes bytes) same err errs fault
  tells_fault bytes s done which = tells_more ⊥ ⊥ (λ line. (s ≢ stop.Memory) × (line ≡ stop_text s)) (RefusesBytes bytes) same err errs (λ none. none) (λ line said. (
    (λ accepted. not_answered 0 s (done accepted) said.0),
    inr (s, of_stop (IsLayoutFault bytes) s which said.0, said.1),
  )) fault

  -- of bytes that may be accepted
  pub tells_refused : (A : Type 0) (P : List ℕ → Type 0) → Tells ⊥ P same err errs fault → Tells A P same err errs fault
  tells_refused A P = tells_more ⊥ A P P same err errs (λ none. absurd none) (λ line is. is) fault

  -- what is said of bytes is said of the text that spells them
  pub tells_of_text : (text bytes read : List ℕ) → GivesImage text bytes → ((b : List ℕ) → GivesImage text b → bytes ≡ b) → read ≡ bytes
      → Tells (IsAcceptedImage read) (RefusesBytes read) same err errs fault → TellsOf same err errs fault text
  tells_of_text text bytes read gives one is = tells_more (IsAcceptedImage read) (IsTextAccepted text) (RefusesBytes read) (RefusesText text) same err errs
      (λ accepted. (bytes, gives, subst IsAcceptedImage is accepted))
      (λ line refused. (
        (λ h. refused.0 (subst IsAcceptedImage (sym (is ∙ one h.0 h.1)) h.2)),
        refusal_on_image (check false) text bytes read line gives is refused.1,
      )) fault

  -- of a text that spells none
  pub tells_of_digits : (text : List ℕ) (why : HexStop) (given : Stop) → length text ≤ limit → IsHexStop text why
      → ((bytes : List ℕ) → GivesImage text bytes → GivesBytes {Z = Global} bytes (Err why)) → given ≡ stop_of why
      → Tells ⊥ (λ line. (given ≢ stop.Memory) × (line ≡ stop_text given)) same err errs fault → TellsOf same err errs fault text
  tells_of_digits text why given short stops only is = tells_more ⊥ (IsTextAccepted text) (λ line. (given ≢ stop.Memory) × (line ≡ stop_text given)) (RefusesText text) same err errs
      (λ none. absurd none)
      (λ line said.
      let some : stop_of why ≢ stop.Memory = λ m. said.0 (is ∙ m) in (
        (λ h. no_bytes why h.0 some (only h.0 h.1)),
        refusal_of_digits (check false) text why line short stops only some (said.1 ∙ ap stop_text is),
      )) fault

  -- and of one above its limit
  pub tells_of_large : (text : List ℕ) → limit < length text → Tells ⊥ (λ line. line ≡ stop_text (stop.Input TooLarge)) same err errs fault → TellsOf same err errs fault text
  tells_of_large text over = tells_more ⊥ (IsTextAccepted text) (λ line. line ≡ stop_text (stop.Input TooLarge)) (RefusesText text) same err errs
      (λ none. absurd none)
      (λ line is. ((λ h. absurd (omega (arith, over, keeps_limit text h.0 h.1))), inr (stop.Input TooLarge, inl over, is))) fault

-- ==== What a job answers on a text: by the bytes that it spells, with which statuses, and above the limit.

-- a fault that follows from another
stops_more : (P Q : Stop → Type 0) → ((s : Stop) → P s → Q s) → (s : Stop) → IsStop P s → IsStop Q s
stops_more P Q follows (stop.Input fault) is = follows (stop.Input fault) is
stops_more P Q follows (stop.Layout fault) is = follows (stop.Layout fault) is
stops_more P Q follows (stop.Build fault) is = follows (stop.Build fault) is
stops_more P Q follows stop.Memory is = tt

-- digits with a fault spell no bytes
pub no_digits : (input : List ℕ) (fault : HexFault) → IsHexFault input fault → IsNoHexadecimal input
no_digits input Odd is = subst IsErr (sym is) refl
no_digits input (Digit place) is = subst IsErr (sym is.1) refl

none_given : (input : List ℕ) (fault : Stop) → IsNoImage input fault → GivesNoImage input
none_given input (stop.Input TooLarge) over = inl over
none_given input (stop.Input (Hex fault)) wrong = inr (wrong.1, no_digits input fault wrong.2)
none_given input _ none = absurd none

pub on_bytes : (command : Meaning) (text bytes read : List ℕ) (r : Result Answer Stop) → GivesImage text bytes
    → ((b : List ℕ) → GivesImage text b → bytes ≡ b) → (¬ GivesNoImage text) → read ≡ bytes → Answers command read r → Answers (on_image command) text r
on_bytes command text bytes read r spells one readable same read_says = record {
  says = IfOk-weaker r _ _ (λ x h. (bytes, spells, h)) a.says;
  which = IfErr-weaker r _ _ (stops_more (command.why bytes) ((on_image command).why text) (λ fault h. inr (bytes, spells, h))) a.which;
  only_done = λ h. a.only_done (subst command.is_done (sym (one h.0 h.1)) h.2);
  only_refused = λ h. a.only_refused (subst command.is_refused (sym (one h.0 h.1)) h.2);
  only_fault = fault;
}
  where
    a : Answers command bytes r
    a = subst (λ (b : List ℕ). Answers command b r) same read_says

    fault : (why : Stop) → (on_image command).why text why → IsErr r
    fault why (inl unreadable) = absurd (readable (none_given text why unreadable))
    fault why (inr h) = a.only_fault why (subst (λ (b : List ℕ). command.why b why) (sym (one h.0 h.1)) h.2)

-- where the input gives no image, or memory ran out, each command stops
pub on_no_bytes : (command : Meaning) (input : List ℕ) (why : HexStop) (r : Result Answer Stop) → length input ≤ limit → IsHexStop input why
    → ((bytes : List ℕ) → GivesImage input bytes → GivesBytes {Z = Global} bytes (Err why)) → IsErrAnd r (λ (s : Stop). s ≡ stop_of why) → Answers (on_image command) input r
on_no_bytes command input why (Ok a) short is only stops = absurd stops
on_no_bytes command input (hex.Fault fault) (Err s) short is only stops =
    subst (λ (x : Stop). Answers (on_image command) input (Err x)) (sym stops) (record {
      says = tt;
      which = inl (short, λ begins. only input (inl (record { begins = begins; short = short; same = refl })), is);
      only_done = λ h. absurd (only h.0 h.1);
      only_refused = λ h. absurd (only h.0 h.1);
      only_fault = λ _ _. refl;
    })
on_no_bytes command input hex.Memory (Err s) short is only stops =
    subst (λ (x : Stop). Answers (on_image command) input (Err x)) (sym stops) (record {
      says = tt;
      which = tt;
      only_done = λ _. tt;
      only_refused = λ _. tt;
      only_fault = λ _ _. refl;
    })

-- ---- statuses

of_verdict : (report : Bool) (bytes : List ℕ) (status : ℕ) (text : List ℕ) → SaysVerdict report bytes status text → status ≤ 1
of_verdict report bytes status text (inl accepted) = omega (arith, accepted.status_is)
of_verdict report bytes status text (inr refused) = omega (arith, refused.status_is)

of_run : (options : RunOptions) (bytes : List ℕ) (status : ℕ) (text : List ℕ) → SaysRun options bytes status text → status ≤ 1
of_run options bytes status text (inl ran) = omega (arith, ran.status_is)
of_run options bytes status text (inr refused) = omega (arith, refused.status_is)

of_conversion : (raw : Bool) (bytes : List ℕ) (status : ℕ) (text : List ℕ) → SaysConversion raw bytes status text → status ≤ 1
of_conversion raw bytes status text (inl converted) = omega (arith, converted.status_is)
of_conversion raw bytes status text (inr (inl refused)) = omega (arith, refused.1.status_is)
of_conversion raw bytes status text (inr (inr stack)) = omega (arith, stack.status_is)

of_move : (raw : Bool) (sandbox : ℕ) (place : Place) (bytes : List ℕ) (status : ℕ) (text : List ℕ) → SaysMoved raw sandbox place bytes status text ⊎ SaysRefused false bytes status text → status ≤ 1
of_move raw sandbox place bytes status text (inl moved) = omega (arith, moved.status_is)
of_move raw sandbox place bytes status text (inr refused) = omega (arith, refused.status_is)

of_translation : (whole : Bool) (bytes : List ℕ) (status : ℕ) (text : List ℕ) → SaysTranslation whole bytes status text → status ≤ 1
of_translation whole bytes status text (inl translated) = omega (arith, translated.status_is)
of_translation whole bytes status text (inr refused) = omega (arith, refused.status_is)

of_native : (bytes : List ℕ) (status : ℕ) (text : List ℕ) → SaysNative bytes status text → status ≤ 1
of_native bytes status text (inl written) = omega (arith, written.status_is)
of_native bytes status text (inr refused) = omega (arith, refused.status_is)

pub status_of_answer : (job : Job) (input : List ℕ) (status : ℕ) (text : List ℕ) → Says job input status text → status ≤ 1
status_of_answer (Check true report) input status text says = of_verdict report input status text says
status_of_answer (Check false report) input status text says = of_verdict report says.0 status text says.2
status_of_answer Dis input status text says = omega (arith, says.2.status_is)
status_of_answer (Build raw places) input status text says = omega (arith, says.status_is)
status_of_answer (Map places) input status text says = omega (arith, says.status_is)
status_of_answer (Run options) input status text says = of_run options says.0 status text says.2
status_of_answer (Exec image budget) input status text says = absurd says
status_of_answer (Convert raw) input status text says = of_conversion raw says.0 status text says.2
status_of_answer (Move raw sandbox place) input status text says = of_move raw sandbox place says.0 status text says.2
status_of_answer (Translate whole) input status text says = of_translation whole says.0 status text says.2
status_of_answer Native input status text says = of_native says.0 status text says.2

-- ---- a text above its limit

-- is a fault to each job that reads a text
too_large : (job : Job) (text : List ℕ) → is_raw job ≡ false → limit < length text → HasInputFault job text (stop.Input TooLarge)
too_large (Check true report) text read over = absurd (cc)
too_large (Build raw places) text read over = over
too_large (Map places) text read over = over
too_large (Exec image budget) text read over = over
too_large _ text read over = inl over

-- which is answered with its line
pub too_large_line : {E : Type 0} (job : Job) (text : List ℕ) (r : Result Answer E) → is_raw job ≡ false → limit < length text → IfOk r (λ a. a.output.items ≡ stop_text (stop.Input TooLarge))
    → IfOk r (λ a. a.status ≡ 2 → IsFaultLine (meaning_of job) text a.output.items)
too_large_line job text (Ok a) read over is = λ _. (stop.Input TooLarge, too_large job text read over, is)
too_large_line job text (Err e) read over is = tt

-- no such job is done on it
pub not_done : (job : Job) (text : List ℕ) → is_raw job ≡ false → limit < length text → IsDone job text → ⊥
not_done (Check true report) text read over done = absurd (cc)
not_done (Build raw places) text read over done = absurd (omega (arith, over, done.1.short))
not_done (Map places) text read over done = absurd (omega (arith, over, done.1.short))
not_done (Exec image budget) text read over done = done
not_done _ text read over done = absurd (omega (arith, over, keeps_limit text done.0 done.1))

-- nor refused
pub not_refused : (job : Job) (text : List ℕ) → is_raw job ≡ false → limit < length text → IsRefused job text → ⊥
not_refused (Check true report) text read over refused = absurd (cc)
not_refused Dis text read over refused = absurd refused.2
not_refused (Build raw places) text read over refused = absurd refused
not_refused (Map places) text read over refused = absurd refused
not_refused (Exec image budget) text read over refused = refused
not_refused _ text read over refused = absurd (omega (arith, over, keeps_limit text refused.0 refused.1))

-- ==== A job whose answer is made while its input is read.

on_input : (input : Option (List ℕ)) {P Q : List ℕ → Type 0} → ((bytes : List ℕ) → P bytes → Q bytes) → IfSome input P → IfSome input Q
on_input None to has = tt
on_input (Some bytes) to has = to bytes has

-- the status that is given is the answer's, unless a write failed
pub ran_streamed : (job : Job) (input old new : Option (List ℕ)) (told given : ℕ) (text written : List ℕ) → written ≡ text → told ≤ 2
    → (told < 2 → IfSome input (λ bytes. Says job bytes told text)) → (told ≡ 2 → IfSome input (λ bytes. IsFaultLine (meaning_of job) bytes text))
    → (given ≢ 5 → given ≡ told) → (given ≢ 5 → Appends old new written) → OnlyAppends old new → Runs job input old new given
ran_streamed job input old new told given text written is_text few says line same whole_written appends =
    let whole : given ≢ 5 → Appends old new text = λ other. subst (λ (t : List ℕ). Appends old new t) is_text (whole_written other) in record {
      statuses = ⊎_elim (λ (five : given ≡ 5). omega arith) (λ (other : given ≢ 5). let e = same other in omega (arith, e, few)) (cases_eq given 5);
      says = λ less.
          let other : given ≢ 5 = λ five. absurd (omega (arith, five, less)) in
          let e : given ≡ told = same other in
          subst (λ (s : ℕ). IfSome input (λ bytes. (t : List ℕ) × Says job bytes s t × Appends old new t)) (sym e)
          (on_input input (λ bytes is. (text, is, whole other)) (says (omega (arith, e, less))));
      line = λ two.
          let other : given ≢ 5 = λ five. absurd (omega (arith, five, two)) in
          let e : given ≡ told = same other in
          on_input input (λ bytes is. (text, is, whole other)) (line (sym e ∙ two));
      usage = λ three.
          let other : given ≢ 5 = λ five. absurd (omega (arith, five, three)) in
          let e = same other in absurd (omega (arith, e, three, few));
      appends = appends;
    }

-- what a job comes to on a text that was read whole
pub ran_read : (job : Job) (told old new : Option (List ℕ)) {status : ℕ} (text : Vec ℕ Global) (read : List ℕ) → read ≡ text.items → IsInput told (Whole text)
    → Runs job (Some read) old new status → Runs job told old new status
ran_read job None old new text read same is ran = record { statuses = ran.statuses; says = λ less. tt; line = λ two. tt; usage = ran.usage; appends = ran.appends }
ran_read job (Some bytes) old new {status} text read same is ran = subst (λ (b : List ℕ). Runs job (Some b) old new status) (same ∙ is.0) ran

-- and on one that is too large
pub ran_too_large : (job : Job) (told old new : Option (List ℕ)) {given : ℕ} (text : List ℕ) → is_raw job ≡ false → IsInput told inputs.TooLarge → text ≡ stop_text (stop.Input TooLarge)
    → (given ≢ 5 → given ≡ 2) → (given ≢ 5 → Appends old new text) → OnlyAppends old new → Runs job told old new given
ran_too_large job told old new text read large is same whole appends =
    ran_streamed job told old new 2 _ text text refl (omega arith) (λ less. absurd (omega (arith, less))) (λ two. lines told large) same whole appends
  where
    lines : (told : Option (List ℕ)) → IsInput told inputs.TooLarge → IfSome told (λ bytes. IsFaultLine (meaning_of job) bytes text)
    lines None over = tt
    lines (Some bytes) over = (stop.Input TooLarge, too_large job bytes read over, is)
