-- Words of private contracts and proofs: how the lexer and the parser read a line.
use Rattle.std.specs.Prelude.{ℕ, List, ℤ, pos, negsuc, ◌≤ℤ◌, [], drop, ◌+◌, Bool, ◌&&◌, ◌==◌, ◌∷◌, slice_index, if◌then◌else◌, ◌*◌, ◌%◌, ◌++◌, codes, map, get_or, slice_index_or, fold, Option, Some, None, ◌≡◌, ◌<◌, ◌≤◌, ◌⊎◌, ◌||◌, nat_lt, not, true, length, ◌≢◌}
use Rattle.sfi_text.specs.declared.lexer.NextToken.{NextToken}
use Rattle.sfi_text.specs.declared.lexer.NextToken.TheVariants.{Token, End, Stuck}
use Rattle.sfi_text.specs.Tokens.{Takes, IsBlank, IsStuck, is_space, is_mark, abi_names, x_name}
use Rattle.std.specs.List.{prefix_len, range_with_len, AllByRecursion, list_all}
use Rattle.std.specs.Char.{is_ascii_digit, is_ascii_hexdigit}
use Rattle.sfi_source.specs.Names.{begins_name, continues_name, IsLabel}
use Rattle.sfi_text.specs.declared.register.TheConstants as registers
use Rattle.sfi_text.specs.declared.keyword.TheConstants.{ALL, PLACES}
use Rattle.sfi_text.specs.declared.keyword.Keyword.{Keyword}
use Rattle.sfi_text.specs.declared.keyword.Keyword.TheVariants as keyword
use Rattle.sfi_text.specs.declared.mnemonic.Mnemonic.{Mnemonic}
use Rattle.sfi_text.specs.declared.mnemonic.Mnemonic.TheVariants.{Jal}
use Rattle.sfi_text.specs.declared.operands.Operands.{Operands}
use Rattle.sfi_text.specs.Operands.{OperandValues, Stands, IsNumberOf, operand_parts, name_of}
use Rattle.sfi_formats.specs.Limits.{name_most}
use Rattle.rv_word.specs.declared.instr.Instr.{Instr}
use Rattle.sfi_text.specs.declared.form.OperandPart.{OperandPart}
use Rattle.sfi_text.specs.declared.form.OperandPart.TheVariants.{Rd, Rs1, Rs2, Number, Name, Mode, ImageFormat, Comma, Open, Close}
use Rattle.sfi_text.specs.Statement.{mnemonic_of, operands_of, full_fence}

-- ==== What the lexer's answer says of the front of a text.

-- a token and what follows it, the text's end, or that no token can be formed
abbrev pub IsNext : List ℕ → NextToken → Type 0
IsNext text (Token token rest) = Takes text token.now rest.now
IsNext text End = IsBlank text
IsNext text Stuck = IsStuck text

-- ==== Which numbers the code reads.

-- what 32 bits can hold, with or without a sign
abbrev pub IsInReach : ℤ → Type 0
IsInReach z = (negsuc 2147483647 ≤ℤ z) × (z ≤ℤ pos 4294967295)

-- ==== How long the token at the front of a text is.

-- the text after its leading spaces
unfoldable pub body_of : List ℕ → List ℕ
body_of text = drop (prefix_len is_space text) text

-- `text` begins with `0x` and a hexadecimal digit
abbrev pub begins_hex : List ℕ → Bool
begins_hex text =
    (slice_index text 0 == 48)
    && ((slice_index text 1 == 120) && is_ascii_hexdigit (slice_index text 2))

-- the length of the longest magnitude with which `text` begins; 0 where it begins with none
unfoldable pub magnitude_len : List ℕ → ℕ
magnitude_len text =
    if begins_hex text then 2 + prefix_len is_ascii_hexdigit (drop 2 text)
    else prefix_len is_ascii_digit text

-- the length of a minus and a magnitude of length `n`; 0 where there is no magnitude
abbrev pub after_sign : ℕ → ℕ
after_sign n = if n == 0 then 0 else n + 1

-- the length of the longest token with which a text begins; 0 where it begins with none
unfoldable pub token_len : List ℕ → ℕ
token_len [] = 0
token_len (c ∷ cs) =
    if begins_name c then 1 + prefix_len continues_name cs
    else (if is_mark c then 1
    else (if c == 45 then after_sign (magnitude_len cs)
    else magnitude_len (c ∷ cs)))

-- ==== What the code's look-ups of names give for a text, for the contracts inside them.

-- the hash of a name, by two numbers
unfoldable pub hash : ℕ → ℕ → List ℕ → ℕ
hash seed factor text = fold (λ h c. (h * factor + c) % 256) seed text

-- the place among the names of registers that alone can have this name
unfoldable pub name_place : List ℕ → ℕ
name_place text = slice_index registers.PLACES.now (hash 0 37 text)

-- the names of the registers, in the order of the table
abbrev pub register_names : List (List ℕ)
register_names = map x_name (range_with_len 0 32) ++ (abi_names ++ codes "fp" ∷ [])

-- the name at a place
abbrev pub name_at : ℕ → List ℕ
name_at place = get_or register_names place []

-- the register of the name at a place: x0 to x31 twice, and fp
abbrev pub register_at : ℕ → ℕ
register_at place = if place == 64 then 8 else place % 32

-- the keyword that alone can have this name
unfoldable pub candidate : List ℕ → Keyword
candidate text = slice_index_or ALL.now (slice_index PLACES.now (hash 57 103 text)) (keyword.Instr Jal)

-- the mnemonic that a keyword is
abbrev pub mnemonic_in : Keyword → Option Mnemonic
mnemonic_in (keyword.Instr m) = Some m
mnemonic_in _ = None

-- ==== The operands that the code keeps, as values.

-- the operands that the code keeps
abbrev pub values_of : Operands → OperandValues
values_of o =
    record {
      rd = o.rd;
      rs1 = o.rs1;
      rs2 = o.rs2;
      number = o.number;
      name = o.name.now;
      compressed = o.compressed;
      format = o.format;
    }

-- ==== How the parser reads a statement part by part.

-- the tokens of `text` stand at the parts of `form`, one at each
abbrev pub Reads : OperandValues → List OperandPart → List ℕ → Type 0
Reads o [] text = IsBlank text
Reads o (part ∷ form) text =
    (token : List ℕ) × (rest : List ℕ) × Takes text token rest
    × Stands o part token × Reads o form rest

-- `a` and `b` agree in the operand of this part; a mark has none
abbrev pub SameAt : OperandPart → OperandValues → OperandValues → Type 0
SameAt Rd a b = a.rd ≡ b.rd
SameAt Rs1 a b = a.rs1 ≡ b.rs1
SameAt Rs2 a b = a.rs2 ≡ b.rs2
SameAt (Number kind) a b = a.number ≡ b.number
SameAt Name a b = a.name ≡ b.name
SameAt Mode a b = a.compressed ≡ b.compressed
SameAt ImageFormat a b = a.format ≡ b.format
SameAt _ a b = Unit {0}

-- `a` and `b` agree in the operands of `form`
abbrev pub AgreesOn : List OperandPart → OperandValues → OperandValues → Type 0
AgreesOn form a b = AllByRecursion (λ part. SameAt part a b) form

-- which operand a part gives, by number; marks, which give none, come after 6
abbrev pub slot : OperandPart → ℕ
slot Rd = 0
slot Rs1 = 1
slot Rs2 = 2
slot (Number kind) = 3
slot Name = 4
slot Mode = 5
slot ImageFormat = 6
slot Comma = 7
slot Open = 8
slot Close = 9

-- the operand of `o` at this part is one that can stand there
abbrev pub Suits : OperandValues → OperandPart → Type 0
Suits o Rd = o.rd < 32
Suits o Rs1 = o.rs1 < 32
Suits o Rs2 = o.rs2 < 32
Suits o (Number kind) = IsNumberOf kind o.number
Suits o Name = IsLabel o.name × (length o.name ≤ name_most)
Suits o _ = Unit {0}

-- each operand that the form names is one that can stand there
abbrev pub AllSuit : OperandValues → List OperandPart → Type 0
AllSuit o form = AllByRecursion (λ part. Suits o part) form

-- the part's operand is not among those of the form
abbrev pub is_fresh : OperandPart → List OperandPart → Bool
is_fresh part form = list_all (λ p. not (slot p == slot part)) form

-- no operand stands at two parts of the form
abbrev pub has_no_repeat : List OperandPart → Bool
has_no_repeat [] = true
has_no_repeat (part ∷ form) = (nat_lt 6 (slot part) || is_fresh part form) && has_no_repeat form

-- `rest`, after the name of `i`, gives its operands; after the name of a fence it may be blank
abbrev pub Follows : List ℕ → Instr → Type 0
Follows rest i =
    Reads (operands_of i) (operand_parts (mnemonic_of i)) rest ⊎ ((i ≡ full_fence) × IsBlank rest)

-- the instruction `i` has this name, and `rest` gives its operands
abbrev pub FollowsName : List ℕ → Mnemonic → Instr → Type 0
FollowsName rest name i = (mnemonic_of i ≡ name) × Follows rest i

-- `new` has the operands of `old`, but for the operand of this part
abbrev pub KeepsOthers : OperandPart → OperandValues → OperandValues → Type 0
KeepsOthers part old new = (p : OperandPart) → slot p ≢ slot part → SameAt p new old

-- the name of the instruction `i` is `token`, and `rest` gives its operands
abbrev pub FollowsToken : List ℕ → List ℕ → Instr → Type 0
FollowsToken token rest i = (name_of (mnemonic_of i) ≡ token) × Follows rest i
