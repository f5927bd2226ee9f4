-- A text by its lines: how many, and read one by one.
use Rattle.sfi_text.proofs.Prelude.{◌≡◌, sym, ap, ◌∙◌, ℕ, ◌+◌, ◌^◌, ◌≤◌, inl, inr, List, [], ◌∷◌, ◌++◌, Option, Some, length, length-append, ◌==◌, arith, count_by-le-length, Begun, SoFar, nothing, begin, format_or_sfi1, last_sandbox, sandboxes, Stated, format, sandbox, within, Does, LabelsLead, RestLeads, uncommented, lines, LinesLead, LeadsFromNothing, subst, ◌⊎◌, None, Bor, Result, Ok, Err, IfOk, IfErr, MatchOption, MatchResult, before_first, after_first, fails_before_first, split_at_first, TextCause, Sandbox, LineRefused, LineFault, FirstRefused, MeansSource, MeansText, SharedNames, IsFault}
use Rattle.std.proofs.lemmas.List.Splits.{length-slice_split, slice_split_none, slice_split_first}
use Rattle.sfi_text.specs.Tokens.{memory}
use Rattle.sfi_text.specs.declared.fault.TextFault.{TextFault}
use Rattle.sfi_text.specs.private.Lines.{BeginsWithLine}
use Rattle.std.proofs.lemmas.Str.Pattern.{IsSplitOnceResult, split_once_first}
use Rattle.sfi_text.specs.declared.cause.TextCause.TheVariants as cause
use Rattle.sfi_text.proofs.OneSource.{one_source, one_text, one_fault, meant_has_no_fault}

-- ==== A text has no more sandboxes than lines.

-- how many sandboxes have been begun
abbrev count : SoFar → ℕ
count s = length (sandboxes s)

-- how many there are where one has been begun
count_begun : (s : SoFar) (b : Begun) → s.begun ≡ Some b → count s ≡ length s.finished + 1
count_begun s b is = ap (λ (x : Option Begun). length (s.finished ++ last_sandbox x)) is ∙ length-append s.finished (b.sandbox ∷ [])

-- going on with the sandbox begun last begins none
same_count : (old new : SoFar) (b c : Begun) → old.begun ≡ Some b → new ≡ record old { begun = Some c } → count new ≡ count old
same_count old new b c is new_is =
    ap count new_is ∙ length-append old.finished (c.sandbox ∷ []) ∙ sym (count_begun old b is)

does_count : (line : ℕ) (s : Stated) (old new : SoFar) → Does line s old new → count new ≤ count old + 1
does_count line (format value) old new new_is = omega (arith, ap count new_is)
does_count line (sandbox size) old new new_is = omega (arith, ap count new_is, length-append (sandboxes old) ((begin (format_or_sfi1 old.format) size).sandbox ∷ []))
does_count line (within what) old new (b, is, fits, new_is) = omega (arith, same_count old new b _ is new_is)

labels_count : (names : List (List ℕ)) (old new : SoFar) (text rest : List ℕ) → LabelsLead names old text new rest → count new ≡ count old
labels_count [] old new text rest h = ap count h.0
labels_count (name ∷ names) old new text rest (next, after, begins, (b, is, short, free, next_is), more) =
    labels_count names next new after rest more ∙ same_count old next b _ is next_is

rest_count : (line : ℕ) (old new : SoFar) (text : List ℕ) → RestLeads line old text new → count new ≤ count old + 1
rest_count line old new text (inl (blank, same)) = omega (arith, ap count same)
rest_count line old new text (inr (k, rest, takes, (known, may, once, (s, states, does)))) = does_count line s old new does

lines_count : (line : ℕ) (old new : SoFar) (texts : List (List ℕ)) → LinesLead line old texts new → count new ≤ count old + length texts
lines_count line old new [] same = omega (arith, ap count same)
lines_count line old new (text ∷ texts) (next, (labelled, rest, passes, leads), more) =
    omega (
      arith,
      lines_count (line + 1) next new texts more,
      rest_count line labelled next rest leads,
      labels_count passes.names old labelled (uncommented text) rest passes.lead,
    )

-- the sandboxes of a text: a text within its limit has fewer lines than 32 bits number
pub few_sandboxes : (text : List ℕ) (new : SoFar) → LeadsFromNothing text new → count new ≤ 2 ^ 32
few_sandboxes text new leads =
    omega (
      arith,
      lines_count 1 nothing new (lines text) leads.lead,
      length-slice_split (λ c. c == 10) text,
      count_by-le-length (λ c. c == 10) text,
      leads.within,
    )

-- ==== Reading a text line by line.

-- what the lines that are left lead to, all lines lead to from the first source so far; and so with their fault
pub record Carries (first : SoFar) (all : List ℕ) (number : ℕ) (now : SoFar) (rest : List ℕ) : Type 0 where
  pub leads : (new : SoFar) → LinesLead number now (lines rest) new → LinesLead 1 first (lines all) new
  pub faults : (f : TextFault) → FirstRefused number now (lines rest) f → FirstRefused 1 first (lines all) f

-- where the next line is refused
pub carries_fault : {first now : SoFar} {all line rest : List ℕ} {texts : List (List ℕ)} {number : ℕ} {f : TextFault} → Carries first all number now rest → lines rest ≡ line ∷ texts
    → (f ≡ memory) ⊎ LineFault number now line f → (f ≡ memory) ⊎ FirstRefused 1 first (lines all) f
carries_fault {first} {now} {all} {line} {rest} {texts} {number} {f} c split (inl is) = inl is
carries_fault {first} {now} {all} {line} {rest} {texts} {number} {f} c split (inr refused) =
    inr (c.faults f (subst (λ ls. FirstRefused number now ls f) (sym split) (inl refused)))

-- what a cut at the first line feed gives
pub cut_line : (text : List ℕ) (r : Option (Bor (List ℕ) × Bor (List ℕ))) → IsSplitOnceResult 10 text r
    → MatchOption r (lines text ≡ text ∷ []) (λ x. BeginsWithLine text x.0.now x.1.now)
cut_line text None split =
    let none = split_once_first 10 text None split (omega arith) in
    slice_split_none (λ c. c == 10) text (λ k d within. fails_before_first (λ c. c == 10) text k d (omega (arith, within, none)))
cut_line text (Some x) split =
    let (inside, front, back) = split_once_first 10 text (Some x) split (omega arith) in
    let cut = slice_split_first (λ c. c == 10) text 0 inside in
    let whole = split_at_first (λ c. c == 10) text 0 inside in
    record {
      first = cut ∙ (λ i. sym front i ∷ lines (sym back i));
      shorter = omega (arith, ap length whole, length-append (before_first (λ c. c == 10) text) (Rattle.std.proofs.Common.get_or text (Rattle.std.specs.List.position_or_len (λ c. c == 10) text) 0 ∷ after_first (λ c. c == 10) text), ap length back);
    }

-- the fault of a line
pub line_fault : (number : ℕ) (now : SoFar) (line code : List ℕ) (e : TextCause) (f : TextFault) → code ≡ uncommented line
    → (e ≡ cause.Memory) ⊎ LineRefused now code e
    → ((e ≡ cause.Memory) × (f ≡ memory)) ⊎ ((e ≡ cause.Memory → ⊥) × (f.cause ≡ e) × (f.line ≡ number))
    → (f ≡ memory) ⊎ LineFault number now line f
line_fault number now line code e f is refused (inl m) = inl m.1
line_fault number now line code e f is (inl m) (inr (other, same, at)) = absurd (other m)
line_fault number now line code e f is (inr refused) (inr (other, same, at)) =
    inr (subst (λ c. LineRefused now c f.cause) is (subst (λ c. LineRefused now code c) (sym same) refused), at)

-- a text that means a source is read as that, unless memory was refused
pub only_source : (text : List ℕ) (r : Result (List Sandbox) TextFault) → IfOk r (λ s. MeansSource text s) → IfErr r (λ f. (f ≡ memory) ⊎ IsFault text f)
    → (s : List Sandbox) → MeansSource text s → MatchResult r (λ t. t ≡ s) (λ f. f ≡ memory)
only_source text (Ok t) means fault s h = one_source text t s means h
only_source text (Err f) means fault s h = unless fault
  where
    unless : (f ≡ memory) ⊎ IsFault text f → f ≡ memory
    unless (inl is) = is
    unless (inr bad) = absurd (meant_has_no_fault text s f h bad)

-- a text that means a source with its tables of names means the source
pub listed_means : (text : List ℕ) (s : List Sandbox) (t : List SharedNames) → MeansText text s t → MeansSource text s
listed_means text s t (new, last, leads, begun, is, shared_is) = (new, last, leads, begun, is)

-- with what each table is to have
pub only_meaning : {L : Type 0} (source : L → List Sandbox) (shared : L → List SharedNames) (text : List ℕ) (r : Result L TextFault)
    → IfOk r (λ l. MeansText text (source l) (shared l)) → IfErr r (λ f. (f ≡ memory) ⊎ IsFault text f)
    → (s : List Sandbox) (t : List SharedNames) → MeansText text s t → MatchResult r (λ l. (source l ≡ s) × (shared l ≡ t)) (λ f. f ≡ memory)
only_meaning source shared text (Ok l) means fault s t h = one_text text (source l) s (shared l) t means h
only_meaning source shared text (Err f) means fault s t h = unless fault
  where
    unless : (f ≡ memory) ⊎ IsFault text f → f ≡ memory
    unless (inl is) = is
    unless (inr bad) = absurd (meant_has_no_fault text s f (listed_means text s t h) bad)

-- and one with a fault is refused with that
pub only_fault : {L : Type 0} (source : L → List Sandbox) (text : List ℕ) (r : Result L TextFault) → IfOk r (λ l. MeansSource text (source l)) → IfErr r (λ f. (f ≡ memory) ⊎ IsFault text f)
    → (f : TextFault) → IsFault text f → MatchResult r (λ _. ⊥) (λ g. (g ≡ f) ⊎ (g ≡ memory))
only_fault source text (Ok t) means fault f h = meant_has_no_fault text (source t) f means h
only_fault source text (Err g) means fault f h = which fault
  where
    which : (g ≡ memory) ⊎ IsFault text g → (g ≡ f) ⊎ (g ≡ memory)
    which (inl is) = inr is
    which (inr bad) = inl (one_fault text g f bad h)
