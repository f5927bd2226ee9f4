-- A text means an instruction or is refused; a text means a source or has a fault.
use Rattle.sfi_text.proofs.Prelude.{◌≡◌, ℕ, zero, suc, ◌+◌, ◌≤◌, Bool, true, not, ◌||◌, List, [], ◌∷◌, ◌++◌, length, ◌⊎◌, inl, inr, refl, sym, ◌∙◌, subst, arith, Option, Some, None, codes, cases_lt, same_Some, none-some, TextCause, Keyword, Mnemonic, Takes, name_of, keyword_name, position_of_keyword, is_added, makes_gate, Stated, StatedWithin, format, sandbox, within, gate, exported, imported, movable, compressed, data_part, IsRightStatement, position_within, position_of_stated, Begun, SoFar, nothing, sandboxes, tables, has_tables, begin, format_or_sfi1, with_label, IsFree, Labels, RefusesLabel, MayCome, Fits, with_stated, Does, HasNoRoom, BeginsWithName, BeginsWithLabel, HasNoLabel, LabelsLead, PassesLabels, IsTaken, IsGateTwice, IsKnown, LeadsAfter, RestLeads, Leads, LabelRefused, RefusedAfter, StatementRefused, LineRefused, most_bytes, lines, uncommented, LinesLead, FirstRefused, first_line, SomeMeaning, SomeSource}
use Rattle.sfi_text.specs.declared.fault.TextFault.{TextFault}
use Rattle.sfi_text.specs.declared.statement.Position.{Position}
use Rattle.std.specs.Option.{IsSomeAnd}
use Rattle.sfi_text.specs.declared.cause.TextCause.TheVariants as cause
use Rattle.sfi_text.specs.declared.keyword.Keyword.TheVariants as keyword
use Rattle.sfi_text.specs.declared.statement.Position.TheVariants as position
use Rattle.sfi_text.proofs.NameTables.{no_mnemonic_of_name}
use Rattle.sfi_text.proofs.LabelReading.{other_name, no_colon, free_or_not, one_more, label_shortens}
use Rattle.sfi_text.proofs.Meaning.{means}
use Rattle.sfi_text.proofs.Right.{after_right, after_place}
use Rattle.sfi_text.proofs.Taking.{takes_unique, blank_takes_none}
use Rattle.sfi_text.proofs.Decided.{Decided, decided_both, decided_le, decided_bit, decided_same}
use Rattle.sfi_text.proofs.Deciding.{next, name_or_not, label_or_not, keyword_or_not}
use Rattle.sfi_text.proofs.SomeStatement.{follows_or_departs, states_or_refused}

-- ---- one instruction

mnemonic_or_not : (token : List ℕ) → ((m : Mnemonic) × (name_of m ≡ token)) ⊎ ((m : Mnemonic) → name_of m ≡ token → ⊥)
mnemonic_or_not token =
    elim (keyword_or_not token) [
      | inr none ↦ inr (λ m. none (keyword.Instr m))
      | inl (k, named) ↦ of_keyword k named
    ]
  where
    of_keyword : (k : Keyword) → keyword_name k ≡ token → ((m : Mnemonic) × (name_of m ≡ token)) ⊎ ((m : Mnemonic) → name_of m ≡ token → ⊥)
    of_keyword (keyword.Instr m) named = inl (m, named)
    of_keyword other named = inr (no_mnemonic_of_name token other None refl named)

pub some_meaning : SomeMeaning
some_meaning text =
    elim (next text) [
      | inr (inl blank) ↦ inr (cause.Operands, inr (inl (blank, refl)))
      | inr (inr stuck) ↦ inr (cause.Word, inl (stuck, refl))
      | inl (token, rest, takes) ↦ elim (mnemonic_or_not token) [
        | inr none ↦ elim (name_or_not token takes.is_token) [
          | inl is ↦ inr (cause.Word, inr (inr (token, rest, takes, inr (inl ((is, none), refl)))))
          | inr not ↦ inr (cause.Operands, inr (inr (token, rest, takes, inl (not, refl))))
        ]
        | inl (m, named) ↦ elim (follows_or_departs m rest) [
          | inr (e, departs) ↦ inr (e, inr (inr (token, rest, takes, inr (inr (m, named, departs)))))
          | inl (i, beyond) ↦ inl (i, means text token rest i takes (subst (λ n. name_of n ≡ token) (sym beyond.0) named, beyond.1))
        ]
      ]
    ]

-- ---- what may come

none_or_some : {X : Type 0} (o : Option X) → (o ≡ None) ⊎ ((x : X) × (o ≡ Some x))
none_or_some None = inl refl
none_or_some (Some x) = inr (x, refl)

none_or_not : {X : Type 0} (o : Option X) → Decided (o ≡ None)
none_or_not None = inl refl
none_or_not (Some x) = inr (λ e. cc)

begun_and : (o : Option Begun) (test : Begun → Bool) (b : Bool) → Decided (IsSomeAnd o (λ x. test x ≡ b))
begun_and None test b = inr (λ h. h)
begun_and (Some x) test b = decided_bit (test x) b

may_or_not : (p : Position) (s : SoFar) → Decided (MayCome p s)
may_or_not position.Head s = decided_both (none_or_not s.format) (none_or_not s.begun)
may_or_not position.Outside s = inl tt
may_or_not position.Gates s = begun_and s.begun (λ b. b.opened) _
may_or_not position.Code s = begun_and s.begun (λ b. b.in_data) _
may_or_not position.Data s = begun_and s.begun (λ b. b.in_data) _

-- ---- labels

name_or_none : (text : List ℕ) → ((name : List ℕ) × (rest : List ℕ) × BeginsWithName text name rest) ⊎ ((name rest : List ℕ) → BeginsWithName text name rest → ⊥)
name_or_none text =
    elim (next text) [
      | inr (inl blank) ↦ inr (λ name rest begins. blank_takes_none text name rest blank begins.0)
      | inr (inr stuck) ↦ inr (λ name rest begins. stuck.nothing name rest begins.0)
      | inl (token, rest, takes) ↦ elim (label_or_not token takes.is_token) [
        | inl is ↦ inl (token, rest, (takes, is))
        | inr not ↦ inr (other_name text token rest takes not)
      ]
    ]

colon_or_none : (text : List ℕ) → ((rest : List ℕ) × Takes text (codes ":") rest) ⊎ ((rest : List ℕ) → Takes text (codes ":") rest → ⊥)
colon_or_none text =
    elim (next text) [
      | inr (inl blank) ↦ inr (λ rest takes. blank_takes_none text (codes ":") rest blank takes)
      | inr (inr stuck) ↦ inr (λ rest takes. stuck.nothing (codes ":") rest takes)
      | inl (token, rest, takes) ↦ elim (decided_same token (codes ":")) [
        | inl is ↦ inl (rest, subst (λ t. Takes text t rest) is takes)
        | inr not ↦ inr (λ other taken. not (takes_unique takes taken).0)
      ]
    ]

label_or_none : (text : List ℕ) → ((name : List ℕ) × (rest : List ℕ) × BeginsWithLabel text name rest) ⊎ HasNoLabel text
label_or_none text =
    elim (name_or_none text) [
      | inr none ↦ inr (λ name rest begins. none name begins.0 begins.1)
      | inl (name, after, begins) ↦ elim (colon_or_none after) [
        | inl (rest, colon) ↦ inl (name, rest, (after, begins, colon))
        | inr none ↦ inr (no_colon text name after begins none)
      ]
    ]

labels_or_refuses : (name : List ℕ) (s : SoFar) → ((new : SoFar) × Labels name s new) ⊎ ((e : TextCause) × RefusesLabel name s e)
labels_or_refuses name s =
    elim (none_or_some s.begun) [
      | inl none ↦ inr (cause.Directive, inl (none, refl))
      | inr (b, is) ↦ elim (cases_lt 64 (length name)) [
        | inl long ↦ inr (cause.Limit, inr (b, is, inl (long, refl)))
        | inr short ↦ elim (free_or_not name b) [
          | inl free ↦ inl (record s { begun = Some (with_label name b) }, (b, is, short, free, refl))
          | inr taken ↦ inr (cause.LabelTwice, inr (b, is, inr (short, taken, refl)))
        ]
      ]
    ]

-- `rest`, which is left of the line after some labels, has at most `n` bytes
labels_on : (n : ℕ) (old now : SoFar) (text rest : List ℕ) (names : List (List ℕ)) → LabelsLead names old text now rest → length rest ≤ n
    → ((new : SoFar) × (last : List ℕ) × PassesLabels old text new last) ⊎ ((e : TextCause) × LabelRefused old text e)
labels_on zero old now text rest names lead short =
    inl (now, rest, record { names = names; lead = lead; all = λ name after begins. let less = label_shortens rest name after begins in omega arith })
labels_on (suc n) old now text rest names lead short =
    elim (label_or_none rest) [
      | inr none ↦ inl (now, rest, record { names = names; lead = lead; all = none })
      | inl (name, after, begins) ↦ elim (labels_or_refuses name now) [
        | inr (e, refused) ↦ inr (e, (names, now, rest, name, after, lead, begins, refused))
        | inl (new, labels) ↦
            let less = label_shortens rest name after begins in
            labels_on n old new text after (names ++ name ∷ []) (one_more names old now new text rest after name lead begins labels) (omega arith)
      ]
    ]

passes_or_refused : (old : SoFar) (text : List ℕ) → ((new : SoFar) × (last : List ℕ) × PassesLabels old text new last) ⊎ ((e : TextCause) × LabelRefused old text e)
passes_or_refused old text = labels_on (length text) old old text text [] (refl, refl) (omega arith)

-- ---- a statement

taken_or_not : (b : Begun) (text : List ℕ) → Decided (IsTaken b text)
taken_or_not b text =
    elim (name_or_none text) [
      | inr none ↦ inr (λ t. none t.0 t.1 t.2)
      | inl (name, rest, begins) ↦ elim (free_or_not name b) [
        | inl free ↦ inr (λ t. t.3 (subst (λ n. IsFree n b) (takes_unique begins.0 t.2.0).0 free))
        | inr not ↦ inl (name, rest, begins, not)
      ]
    ]

begun_or_not : (s : SoFar) (text : List ℕ) → Decided ((b : Begun) × (s.begun ≡ Some b) × IsTaken b text)
begun_or_not s text =
    elim (none_or_some s.begun) [
      | inl none ↦ inr (λ h. none-some h.0 (sym none ∙ h.1))
      | inr (b, is) ↦ elim (taken_or_not b text) [
        | inl taken ↦ inl (b, is, taken)
        | inr not ↦ inr (λ h. not (subst (λ c. IsTaken c text) (same_Some h.0 b (sym h.1 ∙ is)) h.2))
      ]
    ]

twice_or_not : (k : Keyword) (s : SoFar) (text : List ℕ) → Decided (IsGateTwice k s text)
twice_or_not k s text = decided_both (decided_bit (makes_gate k) true) (begun_or_not s text)

known_or_not : (k : Keyword) (s : SoFar) → Decided (IsKnown k s)
known_or_not k s = decided_bit (not (is_added k) || has_tables (format_or_sfi1 s.format)) true

fits_or_not : (what : StatedWithin) (b : Begun) → Decided (Fits what b)
fits_or_not (compressed rvc) b = inl tt
fits_or_not data_part b = inl tt
fits_or_not (exported name) b = inl tt
fits_or_not movable b = inl tt
fits_or_not _ b = decided_le _ _

-- within a sandbox there is one begun last
begun_of : (o : Option Begun) (P : Begun → Type 0) → IsSomeAnd o P → (b : Begun) × (o ≡ Some b)
begun_of None P h = absurd h
begun_of (Some b) P h = (b, refl)

begun_within : (what : StatedWithin) (s : SoFar) → MayCome (position_within what) s → (b : Begun) × (s.begun ≡ Some b)
begun_within (gate name service) s may = begun_of s.begun _ may
begun_within (exported name) s may = begun_of s.begun _ may
begun_within movable s may = begun_of s.begun _ may
begun_within (imported name service) s may = begun_of s.begun _ may
begun_within _ s may = begun_of s.begun _ may

does_or_full : (line : ℕ) (st : Stated) (s : SoFar) → IsRightStatement st → MayCome (position_of_stated st) s → ((new : SoFar) × Does line st s new) ⊎ HasNoRoom st s
does_or_full line (format value) s right may = inl (record s { format = Some value }, refl)
does_or_full line (sandbox size) s right may =
    inl (record { format = s.format; finished = sandboxes s; shared = tables s; begun = Some (begin (format_or_sfi1 s.format) size) }, refl)
does_or_full line (within what) s right may =
    let begun = begun_within what s may in
    elim (fits_or_not what begun.0) [
      | inl fits ↦ inl (record s { begun = Some (with_stated line what begun.0) }, (begun.0, begun.1, fits, refl))
      | inr not ↦ inr (begun.0, begun.1, not)
    ]

after_or_refused : (k : Keyword) (line : ℕ) (s : SoFar) (text : List ℕ) → ((new : SoFar) × LeadsAfter k line s text new) ⊎ ((e : TextCause) × RefusedAfter k s text e)
after_or_refused k line s text =
    elim (known_or_not k s) [
      | inr not ↦ inr (cause.Word, inl (not, refl))
      | inl known ↦ elim (may_or_not (position_of_keyword k) s) [
        | inr not ↦ inr (cause.Directive, inr (known, inl (not, refl)))
        | inl may ↦ elim (twice_or_not k s text) [
          | inl twice ↦ inr (cause.LabelTwice, inr (known, inr (may, inl (twice, refl))))
          | inr once ↦ elim (states_or_refused k text) [
            | inr (e, refused) ↦ inr (e, inr (known, inr (may, inr (once, inl refused))))
            | inl (st, states) ↦ elim (does_or_full line st s (after_right k states.0 st states.2) (subst (λ p. MayCome p s) (after_place k states.0 st states.2) may)) [
              | inl (new, does) ↦ inl (new, (known, may, once, (st, states, does)))
              | inr full ↦ inr (cause.Limit, inr (known, inr (may, inr (once, inr ((st, states, full), refl)))))
            ]
          ]
        ]
      ]
    ]

rest_or_refused : (line : ℕ) (s : SoFar) (text : List ℕ) → ((new : SoFar) × RestLeads line s text new) ⊎ ((e : TextCause) × StatementRefused s text e)
rest_or_refused line s text =
    elim (next text) [
      | inr (inl blank) ↦ inl (s, inl (blank, refl))
      | inr (inr stuck) ↦ inr (cause.Word, inl (stuck, refl))
      | inl (token, rest, takes) ↦ elim (keyword_or_not token) [
        | inr none ↦ elim (name_or_not token takes.is_token) [
          | inl is ↦ inr (cause.Word, inr (token, rest, takes, inl (inr ((is, none), refl))))
          | inr not ↦ inr (cause.Operands, inr (token, rest, takes, inl (inl (not, refl))))
        ]
        | inl (k, named) ↦ elim (after_or_refused k line s rest) [
          | inl (new, leads) ↦ inl (new, inr (k, rest, subst (λ t. Takes text t rest) (sym named) takes, leads))
          | inr (e, refused) ↦ inr (e, inr (token, rest, takes, inr (k, named, refused)))
        ]
      ]
    ]

-- ---- lines

line_or_refused : (line : ℕ) (old : SoFar) (text : List ℕ) → ((new : SoFar) × Leads line old text new) ⊎ ((e : TextCause) × LineRefused old text e)
line_or_refused line old text =
    elim (passes_or_refused old text) [
      | inr (e, refused) ↦ inr (e, inl refused)
      | inl (middle, rest, passes) ↦ elim (rest_or_refused line middle rest) [
        | inr (e, refused) ↦ inr (e, inr (middle, rest, passes, refused))
        | inl (new, leads) ↦ inl (new, (middle, rest, passes, leads))
      ]
    ]

lines_or_fault : (line : ℕ) (old : SoFar) (texts : List (List ℕ)) → ((new : SoFar) × LinesLead line old texts new) ⊎ ((f : TextFault) × FirstRefused line old texts f)
lines_or_fault line old [] = inl (old, refl)
lines_or_fault line old (text ∷ texts) =
    elim (line_or_refused line old (uncommented text)) [
      | inr (e, refused) ↦ inr (record { line = line; cause = e }, inl (refused, refl))
      | inl (middle, leads) ↦ elim (lines_or_fault (line + 1) middle texts) [
        | inl (new, more) ↦ inl (new, (middle, leads, more))
        | inr (f, first) ↦ inr (f, inr (middle, leads, first))
      ]
    ]

pub some_source : SomeSource
some_source text =
    elim (cases_lt most_bytes (length text)) [
      | inl long ↦ inr (first_line cause.Limit, inl (long, refl))
      | inr short ↦ elim (lines_or_fault 1 nothing (lines text)) [
        | inr (f, first) ↦ inr (f, inr (inl (short, first)))
        | inl (new, lead) ↦ elim (none_or_some new.begun) [
          | inl none ↦ inr (first_line cause.Directive, inr (inr (new, record { within = short; lead = lead }, none, refl)))
          | inr (last, is) ↦ inl (sandboxes new, (new, last, record { within = short; lead = lead }, is, refl))
        ]
      ]
    ]
