-- What a text means is right: by its lines, from nothing.
use Rattle.sfi_text.proofs.Prelude.{◌≡◌, ◌≤◌, refl, sym, ap, subst, ◌∙◌, ℕ, ◌+◌, inl, inr, Bool, true, List, [], ◌∷◌, ◌++◌, Option, None, Some, map, length, length-append, arith, All, AllByRecursion, same_Some, none-some, Instr, InRange, Keyword, Takes, IsLabel, OperandPart, Name, Number, OperandValues, IsRow, AreTokens, position_of_keyword, makes_gate, directive_states, StatesAfter, Stated, format, sandbox, within, StatedWithin, gate, exported, imported, movable, compressed, data_part, bytes, plain, jump, address, IsRightWithin, IsRightStatement, position_of_stated, meaning, place_of, met, IsStraight, Sandbox, IsBody, IsSandbox, AreOf, format_of, Begun, SharedNames, SoFar, format_or_sfi1, with_label, with_names, with_gate, with_export, with_import, nothing, last_sandbox, sandboxes, IsFree, Labels, Fits, MayCome, GoesOn, Does, with_stated, BeginsWithName, LabelsLead, IsTaken, LeadsAfter, RestLeads, Leads, uncommented, lines, LinesLead, MeansSource, with_bodies, address_bodies, address_count, IsShortLabel, false}
use Rattle.rv_word.specs.Spelling.{IsReg}
use Rattle.sfi_source.specs.declared.item.Body.TheVariants.{Plain, To}
use Rattle.sfi_formats.specs.declared.format.Format.{Format}
use Rattle.std.proofs.lemmas.List.{length-map}
use Rattle.std.proofs.lemmas.List.Elements.{All-from_recursion, recursion_from_All}
use Rattle.sfi_source.specs.Source.{IsSource}
use Rattle.sfi_text.specs.declared.keyword.Directive.TheVariants as directive
use Rattle.sfi_text.specs.declared.keyword.Keyword.TheVariants as keyword
use Rattle.sfi_text.specs.declared.statement.Position.TheVariants as position
use Rattle.sfi_text.specs.declared.form.NumberKind.TheVariants.{Service}
use Rattle.sfi_text.proofs.Placing.{place_among}
use Rattle.sfi_text.proofs.TextLines.{few_sandboxes}
use Rattle.sfi_text.proofs.LabelReading.{free_or_not}
use Rattle.sfi_text.proofs.Right.{after_right, after_place}
use Rattle.sfi_text.proofs.RightSources.{IsDraft, all_append, finished, begun_right, movable_right, label_right, met_right, bodies_right, bytes_right, gate_right}

-- the sandbox is of the format that the text has said, or of SFI1
abbrev IsOf : Option Format → Sandbox → Type 0
IsOf said s = s.format ≡ format_or_sfi1 said

-- each sandbox so far is right and of the format, and before the first one begins none is finished
record IsRightSoFar (s : SoFar) : Type 0 where
  finished : AllByRecursion IsSandbox s.finished
  begun : (b : Begun) → s.begun ≡ Some b → IsDraft b
  finished_format : AllByRecursion (IsOf s.format) s.finished
  begun_format : (b : Begun) → s.begun ≡ Some b → IsOf s.format b.sandbox
  first : s.begun ≡ None → s.finished ≡ []

begun_is : (old : SoFar) (c : Begun) → IsRightSoFar old → IsDraft c → IsOf old.format c.sandbox → IsRightSoFar (record old { begun = Some c })
begun_is old c right draft format_is = record {
  finished = right.finished;
  begun = λ b e. subst IsDraft (same_Some _ _ e) draft;
  finished_format = right.finished_format;
  begun_format = λ b e. subst (λ x. IsOf old.format x.sandbox) (same_Some _ _ e) format_is;
  first = λ e. absurd (none-some c (sym e));
}

label_leads : (name : List ℕ) (old new : SoFar) → IsLabel name → Labels name old new → IsRightSoFar old → IsRightSoFar new
label_leads name old new label (b, is, short, free, new_is) right =
    subst IsRightSoFar (sym new_is) (begun_is old (with_label name b) right (label_right b (right.begun b is) name free (label, short)) (right.begun_format b is))

labels_lead : (names : List (List ℕ)) (old new : SoFar) (text rest : List ℕ) → LabelsLead names old text new rest → IsRightSoFar old → IsRightSoFar new
labels_lead [] old new text rest (same, at) right = subst IsRightSoFar (sym same) right
labels_lead (name ∷ names) old new text rest (next, after, (after_name, begins, colon), labels, more) right =
    labels_lead names next new after rest more (label_leads name old next begins.1 labels right)

-- bodies of instructions that go nowhere by a name
plain_bodies : (n : ℕ) (instrs : List Instr) → AllByRecursion (λ i. InRange i × IsStraight i) instrs → AllByRecursion (IsBody n) (map Plain instrs)
plain_bodies n [] h = tt
plain_bodies n (i ∷ instrs) h = (h.0, plain_bodies n instrs h.1)

-- whether its data follow, whether 16-bit forms are taken, and what its table is to have leave a sandbox right
flags_right : (b : Begun) (in_data rvc : Bool) (shared : SharedNames) → IsDraft b → IsDraft (record b { in_data = in_data; rvc = rvc; shared = shared })
flags_right b in_data rvc shared d =
    record { data_size = d.data_size; gate_count = d.gate_count; gates = d.gates; names = d.names; differ = d.differ; item_count = d.item_count; items = d.items; labelled = d.labelled; byte_count = d.byte_count; bytes = d.bytes }

-- the name of a gate that the statement adds
abbrev gate_of : StatedWithin → Option (List ℕ)
gate_of (gate name service) = Some name
gate_of (imported name service) = Some name
gate_of _ = None

-- the instructions that put an address into a register leave it right
address_right : (moves : Bool) (line rd : ℕ) (name : List ℕ) (b : Begun) → IsReg rd → IsShortLabel name → length b.sandbox.items + address_count moves ≤ 65536
    → IsDraft b → IsDraft (with_bodies line (address_bodies moves rd (place_of b.sandbox.names name)) (with_names (met b.sandbox.names name) b))
address_right false line rd name b reg label fits d =
    let among = place_among b.sandbox.names name (meaning b.sandbox.names name) in
    bodies_right line (address_bodies false rd (place_of b.sandbox.names name)) (with_names (met b.sandbox.names name) b) (met_right b d name label)
    ((reg, among), ((reg, among), tt)) (omega arith) fits
address_right true line rd name b reg label fits d =
    let among = place_among b.sandbox.names name (meaning b.sandbox.names name) in
    bodies_right line (address_bodies true rd (place_of b.sandbox.names name)) (with_names (met b.sandbox.names name) b) (met_right b d name label)
    ((reg, among), ((reg, among), ((reg, among), tt))) (omega arith) fits

-- each sandbox after a statement is right
goes_right : (line : ℕ) (s : StatedWithin) (b : Begun) → IsRightWithin s → ((name : List ℕ) → gate_of s ≡ Some name → IsFree name b)
    → Fits s b → IsDraft b → IsDraft (with_stated line s b)
goes_right line (gate name service) b right free fits d =
    gate_right name service b d (free name refl) right.0 right.1 fits
goes_right line (exported name) b right free fits d =
    flags_right (with_names (met b.sandbox.names name) b) b.in_data b.rvc (with_export line name b).shared (met_right b d name right)
goes_right line (imported name service) b right free fits d =
    flags_right (with_gate name service b) b.in_data b.rvc (with_import line name service b).shared (gate_right name service b d (free name refl) right.0 right.1 fits)
goes_right line movable b right free fits d = movable_right b d
goes_right line (compressed rvc) b right free fits d = flags_right b b.in_data rvc b.shared d
goes_right line data_part b right free fits d = flags_right b true b.rvc b.shared d
goes_right line (bytes values) b right free fits d = bytes_right values b d (recursion_from_All _ values right) fits
goes_right line (plain instrs) b right free fits d =
    bodies_right line (map Plain instrs) b d (plain_bodies _ instrs (recursion_from_All _ instrs right.1))
    (omega (arith, right.0, length-map instrs Plain)) (omega (arith, fits, length-map instrs Plain))
goes_right line (jump i name) b right free fits d =
    bodies_right line (To i (place_of b.sandbox.names name) ∷ []) (with_names (met b.sandbox.names name) b) (met_right b d name right.2)
    ((right.0, right.1, place_among b.sandbox.names name (meaning b.sandbox.names name)), tt) (omega arith) fits
goes_right line (address rd name) b right free fits d = address_right b.sandbox.movable line rd name b right.0 right.1 fits d

-- a statement leaves the sandbox's format
stays_of : (line : ℕ) (s : StatedWithin) (b : Begun) (said : Option Format) → IsOf said b.sandbox → IsOf said (with_stated line s b).sandbox
stays_of line (gate name service) b said h = h
stays_of line (exported name) b said h = h
stays_of line (imported name service) b said h = h
stays_of line movable b said h = h
stays_of line _ b said h = h

goes_on : (line : ℕ) (s : StatedWithin) (old new : SoFar) → IsRightWithin s
    → ((b : Begun) (name : List ℕ) → old.begun ≡ Some b → gate_of s ≡ Some name → IsFree name b)
    → GoesOn line s old new → IsRightSoFar old → IsRightSoFar new
goes_on line s old new right free (b, is, fits, new_is) so_far =
    subst IsRightSoFar (sym new_is) (begun_is old (with_stated line s b) so_far (goes_right line s b right (λ name e. free b name is e) fits (so_far.begun b is)) (stays_of line s b old.format (so_far.begun_format b is)))

last_right : (s : SoFar) (b : Option Begun) → s.begun ≡ b → IsRightSoFar s → AllByRecursion IsSandbox (last_sandbox b)
last_right s None is right = tt
last_right s (Some b) is right = (finished b (right.begun b is), tt)

sandboxes_right : (s : SoFar) → IsRightSoFar s → AllByRecursion IsSandbox (sandboxes s)
sandboxes_right s right = all_append IsSandbox s.finished (last_sandbox s.begun) right.finished (last_right s s.begun refl right)

last_format : (s : SoFar) (b : Option Begun) → s.begun ≡ b → IsRightSoFar s → AllByRecursion (IsOf s.format) (last_sandbox b)
last_format s None is right = tt
last_format s (Some b) is right = (right.begun_format b is, tt)

sandboxes_format : (s : SoFar) → IsRightSoFar s → AllByRecursion (IsOf s.format) (sandboxes s)
sandboxes_format s right = all_append (IsOf s.format) s.finished (last_sandbox s.begun) right.finished_format (last_format s s.begun refl right)

-- before the first sandbox the format may be said
format_said : (value : Format) (old : SoFar) → old.begun ≡ None → IsRightSoFar old → IsRightSoFar (record old { format = Some value })
format_said value old none right = record {
  finished = right.finished;
  begun = right.begun;
  finished_format = subst (λ v. AllByRecursion (IsOf (Some value)) v) (sym (right.first none)) tt;
  begun_format = λ b e. absurd (none-some b (sym none ∙ e));
  first = right.first;
}

-- the name of a gate that a line adds
abbrev gate_in : Stated → Option (List ℕ)
gate_in (within what) = gate_of what
gate_in _ = None

does_right : (line : ℕ) (s : Stated) (old new : SoFar) → IsRightStatement s
    → ((b : Begun) (name : List ℕ) → old.begun ≡ Some b → gate_in s ≡ Some name → IsFree name b)
    → MayCome (position_of_stated s) old → Does line s old new → IsRightSoFar old → IsRightSoFar new
does_right line (format value) old new right free may does so_far = subst IsRightSoFar (sym does) (format_said value old may.1 so_far)
does_right line (sandbox size) old new right free may does so_far =
    subst IsRightSoFar (sym does) (record {
      finished = sandboxes_right old so_far;
      begun = λ b e. subst IsDraft (same_Some _ _ e) (begun_right (format_or_sfi1 old.format) size right);
      finished_format = sandboxes_format old so_far;
      begun_format = λ b e. subst (λ x. IsOf old.format x.sandbox) (same_Some _ _ e) refl;
      first = λ e. absurd (none-some _ (sym e));
    })
does_right line (within what) old new right free may does so_far =
    goes_on line what old new right free does so_far

-- where a line adds a gate, its statement stands where gates do
gate_place : (s : Stated) (name : List ℕ) → gate_in s ≡ Some name → position_of_stated s ≡ position.Gates
gate_place (within (gate n service)) name h = refl
gate_place (within (imported n service)) name h = refl
gate_place (within (exported n)) name h = absurd (none-some name h)
gate_place (within movable) name h = absurd (none-some name h)
gate_place (within (compressed rvc)) name h = absurd (none-some name h)
gate_place (within data_part) name h = absurd (none-some name h)
gate_place (within (bytes values)) name h = absurd (none-some name h)
gate_place (within (plain instrs)) name h = absurd (none-some name h)
gate_place (within (jump i n)) name h = absurd (none-some name h)
gate_place (within (address rd n)) name h = absurd (none-some name h)
gate_place (format value) name h = absurd (none-some name h)
gate_place (sandbox size) name h = absurd (none-some name h)

-- the tokens of operands of which a name is the first begin with it
name_begins : (form : List OperandPart) (states : OperandValues → Stated) (text name : List ℕ) (s : Stated) (tokens : List (List ℕ))
    → ((o : OperandValues) → gate_in (states o) ≡ Some o.name) → AreTokens text tokens → IsRow (Name ∷ form) states tokens s → gate_in s ≡ Some name
    → (rest : List ℕ) × BeginsWithName text name rest
name_begins form states text name s [] names are (o, has, is) h = absurd has
name_begins form states text name s (token ∷ tokens) names (last, (after, takes, leads), blank) (o, has, is) h =
    let same = has.0.2 ∙ same_Some _ _ (sym (names o) ∙ sym (ap gate_in is) ∙ h) in
    (after, (subst (λ t. Takes text t after) same takes, subst IsLabel same has.0.0))

-- the keyword of a line that adds a gate says so, and the gate's name follows it
gate_begins : (k : Keyword) (text name : List ℕ) (s : Stated) → position_of_keyword k ≡ position.Gates → StatesAfter k text s → gate_in s ≡ Some name
    → (makes_gate k ≡ true) × ((rest : List ℕ) × BeginsWithName text name rest)
gate_begins (keyword.Directive directive.Gate) text name s at (tokens, are, row) h =
    (refl, name_begins (Number Service ∷ []) (directive_states directive.Gate) text name s tokens (λ o. refl) are row h)
gate_begins (keyword.Directive directive.Import) text name s at (tokens, are, row) h =
    (refl, name_begins (Number Service ∷ []) (directive_states directive.Import) text name s tokens (λ o. refl) are row h)
gate_begins (keyword.Directive directive.Export) text name s at (tokens, are, (o, has, is)) h =
    absurd (none-some name (sym (ap gate_in is) ∙ h))
gate_begins (keyword.Directive directive.Movable) text name s at (tokens, are, (o, has, is)) h =
    absurd (none-some name (sym (ap gate_in is) ∙ h))
gate_begins _ text name s at states h = cc

-- a name that isn't taken is free
not_taken : (b : Begun) (text name rest : List ℕ) → BeginsWithName text name rest → (IsTaken b text → ⊥) → IsFree name b
not_taken b text name rest begins none =
    elim (free_or_not name b) [ inl free ↦ free | inr not ↦ absurd (none (name, rest, begins, not)) ]

after_leads : (k : Keyword) (line : ℕ) (old new : SoFar) (text : List ℕ) → LeadsAfter k line old text new → IsRightSoFar old → IsRightSoFar new
after_leads k line old new text (known, stands, once, (s, (tokens, are, after_k), does)) so_far =
    does_right line s old new (after_right k tokens s after_k) free (subst (λ p. MayCome p old) (after_place k tokens s after_k) stands) does so_far
  where
    free : (b : Begun) (name : List ℕ) → old.begun ≡ Some b → gate_in s ≡ Some name → IsFree name b
    free b name is gate_is =
        let at : position_of_keyword k ≡ position.Gates = after_place k tokens s after_k ∙ gate_place s name gate_is in
        let begins = gate_begins k text name s at (tokens, are, after_k) gate_is in
        not_taken b text name begins.1.0 begins.1.1 (λ t. once (begins.0, (b, is, t)))

rest_leads : (line : ℕ) (old new : SoFar) (text : List ℕ) → RestLeads line old text new → IsRightSoFar old → IsRightSoFar new
rest_leads line old new text (inl (blank, same)) so_far = subst IsRightSoFar (sym same) so_far
rest_leads line old new text (inr (k, rest, takes, leads)) so_far = after_leads k line old new rest leads so_far

line_leads : (line : ℕ) (old new : SoFar) (text : List ℕ) → Leads line old text new → IsRightSoFar old → IsRightSoFar new
line_leads line old new text (next, rest, passes, leads) so_far =
    rest_leads line next new rest leads (labels_lead passes.names old next text rest passes.lead so_far)

lines_lead : (line : ℕ) (old new : SoFar) (texts : List (List ℕ)) → LinesLead line old texts new → IsRightSoFar old → IsRightSoFar new
lines_lead line old new [] same so_far = subst IsRightSoFar (sym same) so_far
lines_lead line old new (text ∷ texts) (next, leads, more) so_far =
    lines_lead (line + 1) next new texts more (line_leads line old next (uncommented text) leads so_far)

-- sandboxes of one format have the first one's
all_one : (parts : List Sandbox) (f : Format) → AreOf f parts → AreOf (format_of parts) parts
all_one [] f h = λ k d l. absurd (omega (arith, l))
all_one (s ∷ rest) f h = subst (λ (g : Format). AreOf g (s ∷ rest)) (sym (h 0 s (omega arith))) h

-- the source that a text means
pub sources_are_right : (text : List ℕ) (parts : List Sandbox) → MeansSource text parts → IsSource parts
sources_are_right text parts (new, last, leads, begun, parts_are) =
    let right = lines_lead 1 nothing new (lines text) leads.lead (record { finished = tt; begun = λ b e. absurd (none-some b e); finished_format = tt; begun_format = λ b e. absurd (none-some b e); first = λ e. refl }) in
    let shape : parts ≡ new.finished ++ last.sandbox ∷ [] = parts_are ∙ ap (λ b. new.finished ++ last_sandbox b) begun in
    record {
      at_least_one = omega (arith, ap length shape, length-append new.finished (last.sandbox ∷ []));
      numbered = omega (arith, ap length parts_are, few_sandboxes text new leads);
      each = subst (λ ps. All IsSandbox ps) (sym parts_are) (All-from_recursion IsSandbox (sandboxes new) (sandboxes_right new right));
      one_format = all_one parts (format_or_sfi1 new.format) (subst (λ ps. AreOf (format_or_sfi1 new.format) ps) (sym parts_are) (All-from_recursion (IsOf new.format) (sandboxes new) (sandboxes_format new right)));
    }
