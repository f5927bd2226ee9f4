-- Words of private contracts and proofs: how lines and lists are read, and what they make.
use Rattle.std.specs.Prelude.{◌≡◌, ℕ, List, [], ◌++◌, ℤ, ◌∷◌, Option, None, Some, codes, ◌<◌, ◌≤◌, length, replicate, ◌⊎◌, Result, MatchResult}
use Rattle.std.specs.List.{flat_map, All}
use Rattle.sfi_text.specs.declared.form.NumberKind.{NumberKind}
use Rattle.sfi_text.specs.declared.keyword.DataWidth.{DataWidth}
use Rattle.sfi_text.specs.Tokens.{Takes, IsBlank}
use Rattle.sfi_text.specs.Keywords.{data_kind, directive_form, directive_states, pseudo_form, pseudo_states, branch_form, branch_states, jal_form, jal_states, keyword_name}
use Rattle.sfi_text.specs.SoFar.{data_bytes, Stated, within, bytes, plain, StatedWithin, address, compressed, data_part, exported, format, gate, imported, movable, jump, sandbox, Begun, SoFar}
use Rattle.sfi_text.specs.Lines.{Writes, LeadsByMore, MoreDeparts}
use Rattle.sfi_text.specs.declared.cause.TextCause.{TextCause}
use Rattle.sfi_text.specs.declared.form.OperandPart.{OperandPart}
use Rattle.sfi_text.specs.declared.keyword.Keyword.{Keyword}
use Rattle.sfi_text.specs.declared.mnemonic.Mnemonic.{Mnemonic}
use Rattle.rv_word.specs.declared.instr.Instr.{Instr}
use Rattle.sfi_text.specs.Operands.{OperandValues}
use Rattle.sfi_text.specs.private.Reading.{Reads, FollowsName, IsNext}
use Rattle.sfi_text.specs.declared.keyword.Keyword.TheVariants as keyword
use Rattle.sfi_text.specs.declared.mnemonic.Mnemonic.TheVariants as mnemonic
use Rattle.sfi_formats.specs.Limits.{service_most}
use Rattle.rv_word.specs.Spelling.{IsReg, InRange}
use Rattle.sfi_source.specs.Names.{IsShortLabel}
use Rattle.sfi_source.specs.Source.{IsDataSize, IsStraight, IsOpen}
use Rattle.sfi_text.specs.declared.statement.Statement.{Statement}
use Rattle.sfi_text.specs.declared.statement.Statement.TheVariants as statement
use Rattle.sfi_text.specs.declared.statement.SandboxStatement.{SandboxStatement}
use Rattle.sfi_text.specs.declared.statement.SandboxStatement.TheVariants as within_sandbox
use Rattle.sfi_text.specs.declared.statement.Position.{Position}
use Rattle.sfi_text.specs.declared.statement.Position.TheVariants as position
use Rattle.sfi_text.specs.declared.cause.TextCause.TheVariants as cause
use Rattle.sfi_text.specs.declared.lexer.NextToken.{NextToken}
use Rattle.sfi_text.specs.declared.progress.LineStart.{LineStart}
use Rattle.sfi_text.specs.declared.progress.LineStart.TheVariants.{Label, Other}
use Rattle.sfi_text.specs.Texts.{BeginsWithLabel, HasNoLabel, PassesLabels, LeadsAfter, lines}

-- ==== How a list of data, and what a keyword states, is read off its text.

-- `text` begins with a token that writes `z`, a number of this kind, and `rest` follows it
abbrev pub ReadsNumber : NumberKind → List ℕ → ℤ → List ℕ → Type 0
ReadsNumber kind text z rest = (token : List ℕ) × Takes text token rest × Writes kind token z

-- `text` is numbers, each after a comma; `new` is `old` and then their bytes
abbrev pub ReadsMore : DataWidth → List ℕ → List ℕ → List ℕ → Type 0
ReadsMore width old new text =
    (numbers : List ℤ) × (last : List ℕ) × LeadsByMore (data_kind width) numbers text last
    × IsBlank last × (new ≡ old ++ flat_map (data_bytes width) numbers)

-- `text` is a list of numbers, whose bytes are `values`
abbrev pub ReadsList : DataWidth → List ℕ → List ℕ → Type 0
ReadsList width text values =
    (z : ℤ) × (rest : List ℕ) × ReadsNumber (data_kind width) text z rest
    × ReadsMore width (data_bytes width z) values rest

-- `text` begins with a number, and `rest` follows it; `new` is `old` and then the number's bytes
abbrev pub ReadsOne : DataWidth → List ℕ → List ℕ → List ℕ → List ℕ → Type 0
ReadsOne width old new text rest =
    (z : ℤ) × ReadsNumber (data_kind width) text z rest × (new ≡ old ++ data_bytes width z)

-- `text` begins with a comma and a number, as in `ReadsOne`, or is blank and adds nothing
abbrev pub ReadsAnother : DataWidth → List ℕ → List ℕ → List ℕ → Option (List ℕ) → Type 0
ReadsAnother width old new text None = IsBlank text × (new ≡ old)
ReadsAnother width old new text (Some rest) =
    (comma : List ℕ) × (after : List ℕ) × Takes text comma after × (comma ≡ codes ",")
    × ReadsOne width old new after rest

-- `text` begins with numbers, each after a comma, and then departs from a list for cause `e`
abbrev pub MoreDepartsAfter : NumberKind → List ℕ → TextCause → Type 0
MoreDepartsAfter kind text e =
    (numbers : List ℤ) × (last : List ℕ) × LeadsByMore kind numbers text last
    × MoreDeparts kind last e

-- `text` gives the operands of `form`, which state `s`
abbrev pub ReadsRow : List OperandPart → (OperandValues → Stated) → List ℕ → Stated → Type 0
ReadsRow form states text s = (o : OperandValues) × Reads o form text × (s ≡ states o)

-- an instruction's name with `text` after it states `s`: a branch and a jal go to a name, and any
-- other has the operands that it has in the text of one instruction
abbrev pub ReadsInstr : Mnemonic → List ℕ → Stated → Type 0
ReadsInstr (mnemonic.Branch cond) text s = ReadsRow branch_form (branch_states cond) text s
ReadsInstr mnemonic.Jal text s = ReadsRow jal_form jal_states text s
ReadsInstr name text s = (i : Instr) × FollowsName text name i × (s ≡ within (plain (i ∷ [])))

-- a keyword with `text` after it states `s`
abbrev pub ReadsAfter : Keyword → List ℕ → Stated → Type 0
ReadsAfter (keyword.Instr name) text s = ReadsInstr name text s
ReadsAfter (keyword.Pseudo name) text s = ReadsRow (pseudo_form name) (pseudo_states name) text s
ReadsAfter (keyword.Directive name) text s =
    ReadsRow (directive_form name) (directive_states name) text s
ReadsAfter (keyword.Numbers width) text s =
    (b : List ℕ) × ReadsList width text b × (s ≡ within (bytes b))

-- ==== What the code's statements state, where they may come, and what holds of them.

-- what a statement within a sandbox states
abbrev pub stated_within : SandboxStatement → StatedWithin
stated_within (within_sandbox.Gate name service) = gate name.now service
stated_within (within_sandbox.Export name) = exported name.now
stated_within (within_sandbox.Import name service) = imported name.now service
stated_within within_sandbox.Movable = movable
stated_within (within_sandbox.Compressed rvc) = compressed rvc
stated_within within_sandbox.Data = data_part
stated_within (within_sandbox.Bytes values) = bytes values.items
stated_within (within_sandbox.Zeros count) = bytes (replicate count 0)
stated_within (within_sandbox.One i) = plain (i ∷ [])
stated_within (within_sandbox.Two i j) = plain (i ∷ j ∷ [])
stated_within (within_sandbox.Jump i name) = jump i name.now
stated_within (within_sandbox.Address rd name) = address rd name.now

-- what a statement states
abbrev pub stated : Statement → Stated
stated (statement.Format value) = format value
stated (statement.Sandbox size) = sandbox size
stated (statement.Within what) = within (stated_within what)

-- each number, name and instruction is in range; a jump or a branch goes to a name, with offset 0
abbrev pub IsRightWithin : StatedWithin → Type 0
IsRightWithin (gate name service) = IsShortLabel name × (service ≤ service_most)
IsRightWithin (exported name) = IsShortLabel name
IsRightWithin (imported name service) = IsShortLabel name × (service ≤ service_most)
IsRightWithin (bytes values) = All (λ b. b < 256) values
IsRightWithin (plain instrs) = (1 ≤ length instrs) × All (λ i. InRange i × IsStraight i) instrs
IsRightWithin (jump i name) = InRange i × IsOpen i × IsShortLabel name
IsRightWithin (address rd name) = IsReg rd × IsShortLabel name
IsRightWithin _ = Unit {0}

-- a sandbox begins with a number of data bytes that it may have
abbrev pub IsRightStatement : Stated → Type 0
IsRightStatement (format value) = Unit {0}
IsRightStatement (sandbox size) = IsDataSize size
IsRightStatement (within what) = IsRightWithin what

-- where each statement within a sandbox may come
abbrev pub position_within : StatedWithin → Position
position_within (gate name service) = position.Gates
position_within (exported name) = position.Gates
position_within (imported name service) = position.Gates
position_within movable = position.Gates
position_within (bytes values) = position.Data
position_within _ = position.Code

-- where each statement may come
abbrev pub position_of_stated : Stated → Position
position_of_stated (format value) = position.Head
position_of_stated (sandbox size) = position.Outside
position_of_stated (within what) = position_within what

-- ==== What adding to the sandbox begun last does.

-- where `count` is at most `most`, the sandbox becomes `after`, unless memory is refused;
-- where it is more, the limit is the cause
abbrev pub AddsUpTo : {T : Type 0} → ℕ → ℕ → Result T TextCause → Begun → Begun → Type 0
AddsUpTo most count result new after =
    MatchResult result (λ _. (count ≤ most) × (new ≡ after))
    (λ e. (e ≡ cause.Memory) ⊎ ((most < count) × (e ≡ cause.Limit)))

-- ==== How a line is read, for the contracts inside the parser.

-- `text` begins with a label, and `rest` follows its colon; or with something else, which is `next`
abbrev pub IsLineStart : List ℕ → LineStart → Type 0
IsLineStart text (Label name rest) = BeginsWithLabel text name.now rest.now
IsLineStart text (Other next) = HasNoLabel text × IsNext text next

-- the labels at the front of `text` change the source so far from `old` to `new`, and `next` stands
-- after them
abbrev pub PassesTo : SoFar → List ℕ → SoFar → NextToken → Type 0
PassesTo old text new next = (rest : List ℕ) × PassesLabels old text new rest × IsNext rest next

-- the statement of `token` and the rest after it changes the source so far from `old` to `new`
abbrev pub LeadsFrom : ℕ → List ℕ → List ℕ → SoFar → SoFar → Type 0
LeadsFrom line token rest old new =
    (k : Keyword) × (keyword_name k ≡ token) × LeadsAfter k line old rest new

-- ==== Beside Texts.

-- `text` begins with `line` and a line feed, and `rest` follows them
pub record BeginsWithLine (text line rest : List ℕ) : Type 0 where
  pub first : lines text ≡ line ∷ lines rest
  pub shorter : length rest < length text
