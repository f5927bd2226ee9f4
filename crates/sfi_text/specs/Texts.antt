-- What a text means, line by line, and for what cause it is refused.
use Rattle.std.specs.Prelude.{◌≡◌, ℕ, ◌⊎◌, List, [], ◌∷◌, Some, codes, ◌+◌, ◌<◌, ◌≤◌, ◌==◌, length, None, IsTrue, not, ◌||◌}
use Rattle.sfi_text.specs.declared.cause.TextCause.{TextCause}
use Rattle.sfi_text.specs.declared.cause.TextCause.TheVariants as cause
use Rattle.sfi_text.specs.declared.keyword.Keyword.{Keyword}
use Rattle.sfi_text.specs.Tokens.{Takes, IsBlank}
use Rattle.sfi_source.specs.Names.{IsLabel}
use Rattle.sfi_text.specs.Operands.{Unformed}
use Rattle.sfi_text.specs.Keywords.{keyword_name, position_of_keyword, is_added, makes_gate}
use Rattle.sfi_text.specs.Lines.{StatesAfter, RefusedWith, NameRefused}
use Rattle.sfi_text.specs.SoFar.{Stated, Begun, SharedNames, SoFar, nothing, sandboxes, tables, has_tables, format_or_sfi1, IsFree, Labels, RefusesLabel, MayCome, Does, HasNoRoom}
use Rattle.std.specs.List.{slice_split, before_first}
use Rattle.sfi_text.specs.declared.fault.TextFault.{TextFault}
use Rattle.sfi_source.specs.Source.{Sandbox}

-- ==== What a line of a text does to the source so far: its labels, then its statement; and for
-- what cause it is refused.

-- `text` begins with `name`, which a label or a gate may have, and `rest` follows it
abbrev pub BeginsWithName : List ℕ → List ℕ → List ℕ → Type 0
BeginsWithName text name rest = Takes text name rest × IsLabel name

-- `text` begins with a label, which is `name` and a colon, and `rest` follows it
abbrev pub BeginsWithLabel : List ℕ → List ℕ → List ℕ → Type 0
BeginsWithLabel text name rest =
    (after : List ℕ) × BeginsWithName text name after × Takes after (codes ":") rest

-- `text` begins with no label
abbrev pub HasNoLabel : List ℕ → Type 0
HasNoLabel text = (name rest : List ℕ) → BeginsWithLabel text name rest → ⊥

-- `text` begins with labels of these names, which change the source so far from `old` to `new`,
-- and `rest` follows them
abbrev pub LabelsLead : List (List ℕ) → SoFar → List ℕ → SoFar → List ℕ → Type 0
LabelsLead [] old text new rest = (new ≡ old) × (rest ≡ text)
LabelsLead (name ∷ names) old text new rest =
    (next : SoFar) × (after : List ℕ) × BeginsWithLabel text name after × Labels name old next
    × LabelsLead names next after new rest

-- the labels at the front of `text` change the source so far from `old` to `new`, and `rest`,
-- which begins with no label, follows them
pub record PassesLabels (old : SoFar) (text : List ℕ) (new : SoFar) (rest : List ℕ) : Type 0 where
  pub names : List (List ℕ)
  pub lead : LabelsLead names old text new rest
  pub all : HasNoLabel rest

-- `text` begins with a name that a label or a gate of `b` has
abbrev pub IsTaken : Begun → List ℕ → Type 0
IsTaken b text =
    (name : List ℕ) × (rest : List ℕ) × BeginsWithName text name rest × (IsFree name b → ⊥)

-- `k` adds a gate, and the name after it is one that a label or a gate of the sandbox begun last has
abbrev pub IsGateTwice : Keyword → SoFar → List ℕ → Type 0
IsGateTwice k s text =
    IsTrue (makes_gate k) × ((b : Begun) × (s.begun ≡ Some b) × IsTaken b text)

-- `k` is a keyword of the language of the format
abbrev pub IsKnown : Keyword → SoFar → Type 0
IsKnown k s = IsTrue (not (is_added k) || has_tables (format_or_sfi1 s.format))

-- the statement of keyword `k` and the text after it may come after `old`, and on this line changes
-- it to `new`
abbrev pub LeadsAfter : Keyword → ℕ → SoFar → List ℕ → SoFar → Type 0
LeadsAfter k line old text new =
    IsKnown k old × MayCome (position_of_keyword k) old × (IsGateTwice k old text → ⊥)
    × ((s : Stated) × StatesAfter k text s × Does line s old new)

-- `text` is a statement, which on this line changes the source so far from `old` to `new`
abbrev pub StatementLeads : ℕ → SoFar → List ℕ → SoFar → Type 0
StatementLeads line old text new =
    (k : Keyword) × (rest : List ℕ) × Takes text (keyword_name k) rest
    × LeadsAfter k line old rest new

-- `text`, which follows the labels of a line, is blank and changes nothing, or is a statement
abbrev pub RestLeads : ℕ → SoFar → List ℕ → SoFar → Type 0
RestLeads line old text new = (IsBlank text × (new ≡ old)) ⊎ StatementLeads line old text new

-- the line `text` changes the source so far from `old` to `new`: by its labels, and then by its
-- statement, if it has one
abbrev pub Leads : ℕ → SoFar → List ℕ → SoFar → Type 0
Leads line old text new =
    (next : SoFar) × (rest : List ℕ) × PassesLabels old text next rest
    × RestLeads line next rest new

-- `text` begins with labels, of which the last is refused for cause `e`, and none before it
abbrev pub LabelRefused : SoFar → List ℕ → TextCause → Type 0
LabelRefused old text e =
    (names : List (List ℕ)) × (next : SoFar) × (rest : List ℕ) × (name : List ℕ) × (after : List ℕ)
    × LabelsLead names old text next rest × BeginsWithLabel rest name after
    × RefusesLabel name next e

-- keyword `k` and the text after it state what the sandbox begun last has no room for
abbrev pub PassesLimit : Keyword → SoFar → List ℕ → Type 0
PassesLimit k s text =
    (st : Stated) × StatesAfter k text st × HasNoRoom st s

-- the text after keyword `k`, which may come after `s`, is refused for cause `e`
abbrev pub OperandsRefused : Keyword → SoFar → List ℕ → TextCause → Type 0
OperandsRefused k s text e =
    (IsGateTwice k s text × (e ≡ cause.LabelTwice))
    ⊎ ((IsGateTwice k s text → ⊥)
    × (RefusedWith k text e ⊎ (PassesLimit k s text × (e ≡ cause.Limit))))

-- the statement of keyword `k`, which the language has, and the text after it is refused for cause `e`
abbrev pub KnownRefused : Keyword → SoFar → List ℕ → TextCause → Type 0
KnownRefused k s text e =
    ((MayCome (position_of_keyword k) s → ⊥) × (e ≡ cause.Directive))
    ⊎ (MayCome (position_of_keyword k) s × OperandsRefused k s text e)

-- the statement of keyword `k` and the text after it is refused for cause `e`
abbrev pub RefusedAfter : Keyword → SoFar → List ℕ → TextCause → Type 0
RefusedAfter k s text e =
    ((IsKnown k s → ⊥) × (e ≡ cause.Word)) ⊎ (IsKnown k s × KnownRefused k s text e)

-- the statement of `token` and the rest after it is refused for cause `e`
abbrev pub RefusedFrom : SoFar → List ℕ → List ℕ → TextCause → Type 0
RefusedFrom s token rest e =
    NameRefused token e
    ⊎ ((k : Keyword) × (keyword_name k ≡ token) × RefusedAfter k s rest e)

-- `text`, which follows the labels of a line, is no statement that may come after `s`: `e` is the
-- cause of its first token that departs from one
abbrev pub StatementRefused : SoFar → List ℕ → TextCause → Type 0
StatementRefused s text e =
    Unformed text e
    ⊎ ((token : List ℕ) × (rest : List ℕ) × Takes text token rest × RefusedFrom s token rest e)

-- the line `text` is refused after `old`: `e` is the cause of its first token that departs
abbrev pub LineRefused : SoFar → List ℕ → TextCause → Type 0
LineRefused old text e =
    LabelRefused old text e
    ⊎ ((next : SoFar) × (rest : List ℕ) × PassesLabels old text next rest
    × StatementRefused next rest e)

-- ==== What a text of the assembler means, and what its fault is.

-- the most bytes of a text
abbrev pub most_bytes : ℕ
most_bytes = 1048576

-- the lines of `text`, which line feeds divide; after a last line feed comes an empty line
abbrev pub lines : List ℕ → List (List ℕ)
lines text = slice_split (λ c. c == 10) text

-- a line without its comment, which begins with `#`
abbrev pub uncommented : List ℕ → List ℕ
uncommented line = before_first (λ c. c == 35) line

-- lines, of which the first has number `line`, change the source so far from `old` to `new`
abbrev pub LinesLead : ℕ → SoFar → List (List ℕ) → SoFar → Type 0
LinesLead line old [] new = new ≡ old
LinesLead line old (text ∷ texts) new =
    (next : SoFar) × Leads line old (uncommented text) next × LinesLead (line + 1) next texts new

-- `text` is within its limit, and its lines change the source so far from nothing to `new`
pub record LeadsFromNothing (text : List ℕ) (new : SoFar) : Type 0 where
  pub within : length text ≤ most_bytes
  pub lead : LinesLead 1 nothing (lines text) new

-- `text` means the sandboxes `parts`: its lines make them, and begin one at least
abbrev pub MeansSource : List ℕ → List Sandbox → Type 0
MeansSource text parts =
    (new : SoFar) × (last : Begun)
    × LeadsFromNothing text new × (new.begun ≡ Some last) × (parts ≡ sandboxes new)

-- `text` means these sandboxes, and this is what the table of names of each is to have
abbrev pub MeansText : List ℕ → List Sandbox → List SharedNames → Type 0
MeansText text parts shared =
    (new : SoFar) × (last : Begun) × LeadsFromNothing text new × (new.begun ≡ Some last)
    × (parts ≡ sandboxes new) × (shared ≡ tables new)

-- `text`, as the line of this number, is refused with fault `f`
abbrev pub LineFault : ℕ → SoFar → List ℕ → TextFault → Type 0
LineFault line old text f = LineRefused old (uncommented text) f.cause × (f.line ≡ line)

-- one of the lines is refused with fault `f`, and none before it; `line` is the first one's number
abbrev pub FirstRefused : ℕ → SoFar → List (List ℕ) → TextFault → Type 0
FirstRefused line old [] f = ⊥
FirstRefused line old (text ∷ texts) f =
    LineFault line old text f
    ⊎ ((next : SoFar) × Leads line old (uncommented text) next
    × FirstRefused (line + 1) next texts f)

-- the fault of line 1 for cause `e`
abbrev pub first_line : TextCause → TextFault
first_line e = record { line = 1; cause = e }

-- the fault of `text` is `f`: it is above its limit, a line is refused, or none begins a sandbox
abbrev pub IsFault : List ℕ → TextFault → Type 0
IsFault text f =
    ((most_bytes < length text) × (f ≡ first_line cause.Limit))
    ⊎ (((length text ≤ most_bytes) × FirstRefused 1 nothing (lines text) f)
    ⊎ ((new : SoFar) × LeadsFromNothing text new × (new.begun ≡ None)
    × (f ≡ first_line cause.Directive)))
