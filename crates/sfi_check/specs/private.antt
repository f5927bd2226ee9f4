-- Words that private contracts and proofs alone cite: no public statement rests on them.
use Rattle.std.specs.Prelude.{◌≢◌, ℕ, List, [], Result, Vec, IfOk, IfErr, slice_get, ◌-◌, Option, Some, None, take}
use Rattle.std.specs.Global.{Global}
use Rattle.sfi_formats.specs.declared.format.Format.TheVariants.{Sfi2}
use Rattle.sfi_image.specs.Spelling.{Part}
use Rattle.sfi_image.specs.Numbers.{all_in_format}
use Rattle.sfi_rules.specs.Findings.{AreImageFindings}
use Rattle.sfi_check.specs.declared.conversion.ConvertFault.{ConvertFault}
use Rattle.sfi_check.specs.declared.conversion.ConvertFault.TheVariants.{Refused, NotOld, Stack, Memory, Words}
use Rattle.sfi_safety.specs.Clean.{IsAccepted}
use Rattle.std.proofs.Common.{◌≡◌, ◌+◌, ◌*◌, ◌^◌, ◌<◌, ◌≤◌, ◌++◌, length, refl, sym, ap, ◌∙◌, arith, append_assoc, length-append}
use Rattle.std.proofs.lemmas.List.{append-nil}
use Rattle.sfi_rules.specs.declared.finding.Finding.{Finding}
use Rattle.sfi_check.specs.declared.tally.Tally.{Tally}
use Rattle.sfi_image.specs.Faults.{number_of as fault_number}
use Rattle.sfi_check.specs.declared.for_c.SfiVerdict.{SfiVerdict}
use Rattle.sfi_check.specs.declared.stream_answer.StreamAnswer.{StreamAnswer}
use Rattle.sfi_check.specs.declared.stream_answer.StreamAnswer.TheVariants.{Accepted, Layout, Findings, ReadFault}
use Rattle.sfi_check.specs.ForC.{no_finding, acceptance, refusal, no_image}
use Rattle.sfi_image.specs.declared.fault.LayoutFault.{LayoutFault}
use Rattle.sfi_image.specs.Keeping.{left, StandsFor, Leads}
use Rattle.sfi_check.specs.declared.feed.Feed.{Feed}
use Rattle.sfi_check.specs.Feeds.{IsFedFinding, IsSoFar, IsCut}
use Rattle.sfi_image.specs.declared.want.Stage.TheVariants as stage
use Rattle.sfi_image.specs.Prefixes.{ImagePrefix, prefix_bytes, HasFaultWhateverFollows}
use Rattle.sfi_image.specs.declared.layout_reader.LayoutReader.{LayoutReader}
use Rattle.sfi_check.specs.declared.stream_answer.StreamAnswer.TheVariants as answers
use Rattle.sfi_check.specs.declared.piece.FeedEnd.{FeedEnd}
use Rattle.sfi_check.specs.declared.piece.FeedEnd.TheVariants as steps

-- ==== What a conversion answers.

-- the fault is the findings of these sandboxes, of which there is at least one, or want of memory
abbrev pub IsStackOf : List Part → ConvertFault → Type 0
IsStackOf ps (Refused r) = ⊥
IsStackOf ps NotOld = ⊥
IsStackOf ps (Stack found) = AreImageFindings ps found.items × (found.items ≢ [])
IsStackOf ps Memory = Unit {0}
IsStackOf ps Words = ⊥

-- these sandboxes break no rule of the second format, or the fault says which they break
pub record ChecksStack (ps : List Part) (answer : Result (Unit {0}) ConvertFault) : Type 0 where
  pub clean : IfOk answer (λ done. AreImageFindings ps [])
  pub fault : IfErr answer (IsStackOf ps)

-- the answer on the accepted image of these sandboxes
pub record Converts (ps : List Part) (answer : Result (Vec ℕ Global) ConvertFault) : Type 0 where
  pub converted : IfOk answer (λ new. IsAccepted new.items (all_in_format Sfi2 ps))
  pub fault : IfErr answer (IsStackOf (all_in_format Sfi2 ps))

-- ==== A tally as a sink of findings.

-- the second tally is the first with these findings added
pub record AddsFindings (old new : Tally) (found : List Finding) : Type 0 where
  pub sandboxes : new.sandboxes ≡ old.sandboxes
  pub bundles : new.bundles ≡ old.bundles
  pub count : new.count ≡ old.count + length found
  pub first :
      (before : List Finding) → old.first ≡ slice_get before 0
      → new.first ≡ slice_get (before ++ found) 0
  pub owed : new.owed ≡ old.owed

-- the second tally is the first with these findings added, where 32 bits have room for their number
abbrev pub Counts : Tally → Tally → List Finding → Type 0
Counts old new found = old.count + length found < 2 ^ 32 → AddsFindings old new found

pub counts_none : (t : Tally) → Counts t t []
counts_none t = λ room. record {
  sandboxes = refl;
  bundles = refl;
  count = omega arith;
  first = λ before is. is ∙ ap (λ (l : List Finding). slice_get l 0) (sym (append-nil before));
  owed = refl;
}

pub counts_more : (t u v : Tally) (xs ys : List Finding) → Counts t u xs → Counts u v ys
    → Counts t v (xs ++ ys)
counts_more t u v xs ys one two = λ room.
    let both = length-append xs ys in
    let a = one (omega arith) in
    let counted = a.count in
    let b = two (omega arith) in
    record {
      sandboxes = b.sandboxes ∙ a.sandboxes;
      bundles = b.bundles ∙ a.bundles;
      count = omega (arith, a.count, b.count, both);
      first = λ before is. b.first (before ++ xs) (a.first before is)
          ∙ ap (λ (l : List Finding). slice_get l 0) (append_assoc before xs ys);
      owed = b.owed ∙ a.owed;
    }

-- ==== The verdict for C, by the answer.

-- the verdict that says what the answer says; no read fails
abbrev pub verdict_for_c : StreamAnswer → SfiVerdict
verdict_for_c (Accepted sandboxes bundles) = acceptance sandboxes bundles
verdict_for_c (Layout k) = no_image (fault_number k)
verdict_for_c (Findings count first) = refusal count first
verdict_for_c ReadFault = record {
  status = 3;
  layout_fault = 0;
  sandboxes = 0;
  bundles = 0;
  findings = 0;
  first = no_finding;
}

-- ==== How a feed goes on.

-- whatever bytes the feed was fed, it then was fed these bytes, too, and the sink took the findings
-- in them
abbrev pub IsFedOn : {F : Type 0} → (F → List Finding → F → Type 0) → F → F → Feed → Feed → List ℕ
    → Type 0
IsFedOn {F} takes sink after old new bytes = (first : F) (before : List ℕ)
    → IsFedFinding (λ found. takes first found sink) old before
    → IsFedFinding (λ found. takes first found after) new (before ++ bytes)

abbrev pub left_by : Option LayoutFault → Feed → ℕ
left_by None f = left f.reader * 28 + (27 - f.count) + 1
left_by (Some k) f = 0

-- a number that falls with each piece that is fed, down to 0 at a fault
abbrev pub left_to_feed : Feed → ℕ
left_to_feed f = left_by f.fault f

-- ==== One step and more of a reader with its tally.

-- `holds` is true of some findings
abbrev pub HoldsOfSome : (List Finding → Type 0) → Type 0
HoldsOfSome holds = (found : List Finding) × holds found

-- the reader took these bytes, or they have a fault with all before them
abbrev pub IsTakenOff : LayoutReader → LayoutReader → List ℕ → FeedEnd → Type 0
IsTakenOff old new bytes (steps.Took n) =
    (n ≡ length bytes) × ((x : ImagePrefix) → StandsFor old x → Leads x bytes new) × (left new < left old)
IsTakenOff old new bytes (steps.Fault k) =
    (x : ImagePrefix) → StandsFor old x → HasFaultWhateverFollows (prefix_bytes x ++ bytes) k
IsTakenOff old new bytes steps.Short = ⊥
IsTakenOff old new bytes steps.Whole = ⊥

-- one step on the bytes that follow those so far
abbrev pub Steps : (List Finding → Type 0) → LayoutReader → LayoutReader → Tally → List ℕ → List ℕ
    → FeedEnd → Type 0
Steps holds old new t so_far rest (steps.Took n) =
    (1 ≤ n) × (n ≤ length rest) × IsSoFar holds new t (so_far ++ take n rest) × (left new < left old)
Steps holds old new t so_far rest steps.Short =
    IsSoFar holds new t so_far × IsCut new (length rest) × (left new ≤ left old)
Steps holds old new t so_far rest steps.Whole = IsSoFar holds new t so_far × (new.next ≡ stage.End)
Steps holds old new t so_far rest (steps.Fault k) =
    HasFaultWhateverFollows (so_far ++ rest) k × HoldsOfSome holds

-- from the bytes so far a piece leads on, whatever the sink was first
abbrev pub LeadsOn : {F : Type 0} → (F → List Finding → F → Type 0) → F → F → LayoutReader
    → LayoutReader → Tally → Tally → List ℕ → Type 0
LeadsOn {F} takes sink after r s t u piece = (first : F) (so_far : List ℕ)
    → IsSoFar (λ found. takes first found sink) r t so_far
    → IsSoFar (λ found. takes first found after) s u (so_far ++ piece)

-- the answer on a whole image with that tally
abbrev pub verdict_by : Option Finding → Tally → StreamAnswer
verdict_by None t = answers.Accepted t.sandboxes t.bundles
verdict_by (Some first) t = answers.Findings t.count first

abbrev pub verdict_of : Tally → StreamAnswer
verdict_of t = verdict_by t.first t
