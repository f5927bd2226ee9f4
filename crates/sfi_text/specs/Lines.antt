-- What the tokens of a line after its labels state, and for what cause they state nothing.
use Rattle.std.specs.Prelude.{◌≡◌, ℕ, ◌⊎◌, List, [], ◌∷◌, ℤ, codes}
use Rattle.std.specs.List.{flat_map}
use Rattle.rv_word.specs.declared.instr.Instr.{Instr}
use Rattle.sfi_text.specs.declared.cause.TextCause.{TextCause}
use Rattle.sfi_text.specs.declared.cause.TextCause.TheVariants as cause
use Rattle.sfi_text.specs.declared.mnemonic.Mnemonic.{Mnemonic}
use Rattle.sfi_text.specs.declared.mnemonic.Mnemonic.TheVariants as mnemonic
use Rattle.sfi_text.specs.declared.form.NumberKind.{NumberKind}
use Rattle.sfi_text.specs.declared.form.OperandPart.{OperandPart}
use Rattle.sfi_text.specs.declared.form.OperandPart.TheVariants.{Number, Comma}
use Rattle.sfi_text.specs.declared.keyword.DataWidth.{DataWidth}
use Rattle.sfi_text.specs.declared.keyword.Keyword.{Keyword}
use Rattle.sfi_text.specs.declared.keyword.Keyword.TheVariants as keyword
use Rattle.sfi_text.specs.Tokens.{IsNumber, Takes, AreTokens}
use Rattle.sfi_source.specs.Names.{IsName}
use Rattle.sfi_text.specs.Operands.{name_of, IsNumberOf, OperandValues, HasForm, Unformed, Missing, Differs, Departs}
use Rattle.sfi_text.specs.Statement.{Spells, OperandsDepart}
use Rattle.sfi_text.specs.SoFar.{data_bytes, Stated, within, bytes, plain}
use Rattle.sfi_text.specs.Keywords.{directive_form, directive_states, pseudo_form, pseudo_states, branch_form, branch_states, jal_form, jal_states, data_kind, keyword_name}

-- `tokens` stand at the parts of `form`, and their operands state `s`
abbrev pub IsRow : List OperandPart → (OperandValues → Stated) → List (List ℕ) → Stated → Type 0
IsRow form states tokens s = (o : OperandValues) × HasForm o form tokens × (s ≡ states o)

-- an instruction's name with `tokens` after it states `s`: a branch and a jal go to a name, and any
-- other has the operands that it has in the text of one instruction
abbrev pub IsInstr : Mnemonic → List (List ℕ) → Stated → Type 0
IsInstr (mnemonic.Branch cond) tokens s = IsRow branch_form (branch_states cond) tokens s
IsInstr mnemonic.Jal tokens s = IsRow jal_form jal_states tokens s
IsInstr name tokens s =
    (i : Instr) × Spells i (name_of name ∷ tokens) × (s ≡ within (plain (i ∷ [])))

-- `token` writes `z`, a number of this kind
abbrev pub Writes : NumberKind → List ℕ → ℤ → Type 0
Writes kind token z = IsNumber token z × IsNumberOf kind z

-- `tokens` write `numbers`, which are of this kind, each after a comma
abbrev pub AreMore : NumberKind → List ℤ → List (List ℕ) → Type 0
AreMore kind [] [] = Unit {0}
AreMore kind (z ∷ numbers) (comma ∷ token ∷ tokens) =
    (comma ≡ codes ",") × Writes kind token z × AreMore kind numbers tokens
AreMore kind _ _ = ⊥

-- `tokens` write `numbers`, which are of this kind, with commas between: one number at least
abbrev pub AreNumbers : NumberKind → List ℤ → List (List ℕ) → Type 0
AreNumbers kind (z ∷ numbers) (token ∷ tokens) = Writes kind token z × AreMore kind numbers tokens
AreNumbers kind _ _ = ⊥

-- `tokens` are a list of data of this width, which states `s`
abbrev pub IsData : DataWidth → List (List ℕ) → Stated → Type 0
IsData width tokens s =
    (numbers : List ℤ) × AreNumbers (data_kind width) numbers tokens
    × (s ≡ within (bytes (flat_map (data_bytes width) numbers)))

-- keyword `k` with `tokens` after it is a statement, which states `s`
abbrev pub After : Keyword → List (List ℕ) → Stated → Type 0
After (keyword.Instr name) tokens s = IsInstr name tokens s
After (keyword.Pseudo name) tokens s = IsRow (pseudo_form name) (pseudo_states name) tokens s
After (keyword.Directive name) tokens s =
    IsRow (directive_form name) (directive_states name) tokens s
After (keyword.Numbers width) tokens s = IsData width tokens s

-- keyword `k` with `text` after it states `s`
abbrev pub StatesAfter : Keyword → List ℕ → Stated → Type 0
StatesAfter k text s = (tokens : List (List ℕ)) × AreTokens text tokens × After k tokens s

-- `text` begins with no number of this kind, and `e` is the cause
abbrev pub NumberDeparts : NumberKind → List ℕ → TextCause → Type 0
NumberDeparts kind text e =
    Unformed text e
    ⊎ (Missing text e
    ⊎ ((token : List ℕ) × (rest : List ℕ) × Takes text token rest × Differs (Number kind) token e))

-- `text` isn't blank and doesn't begin with a comma and a number of this kind; `e` is the cause
abbrev pub MoreDeparts : NumberKind → List ℕ → TextCause → Type 0
MoreDeparts kind text e =
    Unformed text e
    ⊎ ((token : List ℕ) × (rest : List ℕ) × Takes text token rest
    × (Differs Comma token e ⊎ ((token ≡ codes ",") × NumberDeparts kind rest e)))

-- `text` begins with `numbers`, which are of this kind, each after a comma, and `rest` follows them
abbrev pub LeadsByMore : NumberKind → List ℤ → List ℕ → List ℕ → Type 0
LeadsByMore kind [] text rest = text ≡ rest
LeadsByMore kind (z ∷ numbers) text rest =
    (comma : List ℕ) × (after : List ℕ) × (token : List ℕ) × (next : List ℕ)
    × Takes text comma after × (comma ≡ codes ",")
    × Takes after token next × Writes kind token z × LeadsByMore kind numbers next rest

-- `text` is no list of numbers of this kind: `e` is the cause of its first token that departs
abbrev pub ListDeparts : NumberKind → List ℕ → TextCause → Type 0
ListDeparts kind text e =
    NumberDeparts kind text e
    ⊎ ((token : List ℕ) × (rest : List ℕ) × (z : ℤ) × Takes text token rest × Writes kind token z
    × ((numbers : List ℤ) × (last : List ℕ) × LeadsByMore kind numbers rest last
    × MoreDeparts kind last e))

-- `text` doesn't give the operands of an instruction, where a branch and a jal go to a name: `e` is
-- the cause of its first token that departs
abbrev pub InstrDeparts : Mnemonic → List ℕ → TextCause → Type 0
InstrDeparts (mnemonic.Branch cond) text e = Departs branch_form text e
InstrDeparts mnemonic.Jal text e = Departs jal_form text e
InstrDeparts name text e = OperandsDepart name text e

-- keyword `k` with `text` after it states nothing: `e` is the cause of the first token that departs
abbrev pub RefusedWith : Keyword → List ℕ → TextCause → Type 0
RefusedWith (keyword.Instr name) text e = InstrDeparts name text e
RefusedWith (keyword.Pseudo name) text e = Departs (pseudo_form name) text e
RefusedWith (keyword.Directive name) text e = Departs (directive_form name) text e
RefusedWith (keyword.Numbers width) text e = ListDeparts (data_kind width) text e

-- `token` is a name, and no keyword
abbrev pub IsNoKeyword : List ℕ → Type 0
IsNoKeyword token = IsName token × ((k : Keyword) → keyword_name k ≡ token → ⊥)

-- `token`, with which a statement begins, is no keyword, and `e` is the cause
abbrev pub NameRefused : List ℕ → TextCause → Type 0
NameRefused token e =
    ((IsName token → ⊥) × (e ≡ cause.Operands)) ⊎ (IsNoKeyword token × (e ≡ cause.Word))
