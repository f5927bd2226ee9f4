-- The tokens of a line, the names of the registers, and the causes of refusals by number.
use Rattle.std.specs.Prelude.{ℕ, ◌≡◌, ◌≤◌, ◌⊎◌, Bool, ◌||◌, ◌==◌, List, [], ◌∷◌, ◌++◌, length, ℤ, pos, neg_ℤ, IsTrue, codes, ◌&&◌, nat_lt, ◌<◌, Some, slice_get}
use Rattle.sfi_text.specs.declared.cause.TextCause.{TextCause}
use Rattle.sfi_text.specs.declared.fault.TextFault.{TextFault}
use Rattle.sfi_text.specs.declared.cause.TextCause.TheVariants.{Word, Register, Number, Operands, LabelTwice, Directive, Limit, Memory}
use Rattle.std.specs.List.{AllByRecursion}
use Rattle.std.specs.Str.Parse.{IsNumeral, digits_value}
use Rattle.sfi_formats.specs.Limits.{name_most}
use Rattle.sfi_source.specs.Names.{IsName, begins_label}
use Rattle.std.specs.Fmt.{decimal}

-- ==== The numbers of the causes for which a text is refused.

-- the number by which a cause is told
abbrev pub cause_number : TextCause → ℕ
cause_number Word = 1
cause_number Register = 2
cause_number Number = 3
cause_number Operands = 4
cause_number LabelTwice = 5
cause_number Directive = 6
cause_number Limit = 7
cause_number Memory = 8

-- memory was refused; nothing is known of the text
abbrev pub memory : TextFault
memory = record { line = 0; cause = Memory }

-- ==== The tokens of a line of source. A text is the list of its UTF-8 bytes, and a token is its
-- text.

-- space, tab and carriage return stand between tokens
abbrev pub is_space : ℕ → Bool
is_space c = (c == 32) || ((c == 9) || (c == 13))

-- `text` has nothing but spaces, tabs and carriage returns
abbrev pub IsBlank : List ℕ → Type 0
IsBlank text = AllByRecursion (λ c. IsTrue (is_space c)) text

-- `text` begins as a label's name does, and has more bytes than a name may have
abbrev pub is_too_long : List ℕ → Bool
is_too_long text = begins_label text && nat_lt name_most (length text)

-- `text` writes `n` in decimal digits, or in hexadecimal digits after `0x`
abbrev pub IsMagnitude : List ℕ → ℕ → Type 0
IsMagnitude text n =
    (IsNumeral 10 text × (n ≡ digits_value 10 text))
    ⊎ ((digits : List ℕ) × (text ≡ codes "0x" ++ digits)
    × IsNumeral 16 digits × (n ≡ digits_value 16 digits))

-- `text` writes `z`: a magnitude, with or without a minus before it
abbrev pub IsNumber : List ℕ → ℤ → Type 0
IsNumber text z =
    ((n : ℕ) × IsMagnitude text n × (z ≡ pos n))
    ⊎ ((n : ℕ) × (digits : List ℕ) × (text ≡ codes "-" ++ digits)
    × IsMagnitude digits n × (z ≡ neg_ℤ (pos n)))

-- `,`, `:`, `(` or `)`
abbrev pub is_mark : ℕ → Bool
is_mark c = (c == 44) || ((c == 58) || ((c == 40) || (c == 41)))

-- `text` is one mark
abbrev pub IsMark : List ℕ → Type 0
IsMark text = (c : ℕ) × IsTrue (is_mark c) × (text ≡ c ∷ [])

-- `text` is a name, a number or a mark
abbrev pub IsToken : List ℕ → Type 0
IsToken text = IsName text ⊎ (((z : ℤ) × IsNumber text z) ⊎ IsMark text)

-- the first token of `text` is `token`, the longest that stands there, and `rest` follows it
pub record Takes (text token rest : List ℕ) : Type 0 where
  pub gap : List ℕ
  pub blank : IsBlank gap
  pub whole : text ≡ gap ++ (token ++ rest)
  pub is_token : IsToken token
  pub longest : (other more : List ℕ)
      → token ++ rest ≡ other ++ more → IsToken other → length other ≤ length token

-- `text` begins with `tokens`, in their order, and `rest` follows them
abbrev pub LeadsTo : List ℕ → List (List ℕ) → List ℕ → Type 0
LeadsTo text [] rest = text ≡ rest
LeadsTo text (token ∷ tokens) rest =
    (after : List ℕ) × Takes text token after × LeadsTo after tokens rest

-- `tokens` are all the tokens of `text`
abbrev pub AreTokens : List ℕ → List (List ℕ) → Type 0
AreTokens text tokens = (rest : List ℕ) × LeadsTo text tokens rest × IsBlank rest

-- `text` is not blank, and no token can be formed at its front
pub record IsStuck (text : List ℕ) : Type 0 where
  pub nothing : (token rest : List ℕ) → Takes text token rest → ⊥
  pub something : IsBlank text → ⊥

-- ==== The names of the registers. RISC-V ABIs Specification, "Register Convention"; ISA manual,
-- "RISC-V Assembly Programmer's Handbook".

-- the second names of x0 to x31, in order
abbrev pub abi_names : List (List ℕ)
abi_names =
    codes "zero" ∷ codes "ra" ∷ codes "sp" ∷ codes "gp" ∷ codes "tp" ∷ codes "t0"
    ∷ codes "t1" ∷ codes "t2"
    ∷ codes "s0" ∷ codes "s1" ∷ codes "a0" ∷ codes "a1" ∷ codes "a2" ∷ codes "a3"
    ∷ codes "a4" ∷ codes "a5"
    ∷ codes "a6" ∷ codes "a7" ∷ codes "s2" ∷ codes "s3" ∷ codes "s4" ∷ codes "s5"
    ∷ codes "s6" ∷ codes "s7"
    ∷ codes "s8" ∷ codes "s9" ∷ codes "s10" ∷ codes "s11" ∷ codes "t3" ∷ codes "t4"
    ∷ codes "t5" ∷ codes "t6" ∷ []

-- x and the number
abbrev pub x_name : ℕ → List ℕ
x_name r = codes "x" ++ decimal r

-- a name of register r; fp is a third name of x8
abbrev pub IsRegister : List ℕ → ℕ → Type 0
IsRegister text r =
    (r < 32)
    × ((text ≡ x_name r) ⊎ ((slice_get abi_names r ≡ Some text) ⊎ ((text ≡ codes "fp") × (r ≡ 8))))
