-- The text after a keyword states something, or is refused.
use Rattle.sfi_text.proofs.Prelude.{◌≡◌, ◌≢◌, ℕ, zero, suc, ◌≤◌, true, List, [], ◌∷◌, length, ◌⊎◌, inl, inr, refl, sym, arith, rules, ℤ, pos, negsuc, IsTrue, codes, flat_map, ints, Instr, IsBetween, TextCause, Mnemonic, NumberKind, OperandPart, Rd, Rs1, Rs2, Number, Name, Mode, ImageFormat, Comma, Open, Close, Nop, DataWidth, Keyword, IsBlank, operand_parts, data_bytes, OperandValues, Departs, part_cause, mnemonic_of, operands, operands_of, full_fence, IsBareFence, OperandsDepart, Reads, SameAt, AgreesOn, AllSuit, FollowsName, slot, is_fresh, has_no_repeat, directive_form, directive_states, pseudo_form, pseudo_states, branch_form, branch_states, jal_form, jal_states, data_kind, StatesAfter, LeadsByMore, NumberDeparts, ListDeparts, InstrDeparts, RefusedWith, Stated, within, plain, bytes}
use Rattle.sfi_text.specs.declared.keyword.Directive.{Directive}
use Rattle.sfi_text.specs.declared.keyword.Pseudo.{Pseudo}
use Rattle.sfi_text.specs.private.Lines.{ReadsNumber, ReadsList, MoreDepartsAfter, ReadsRow, ReadsInstr, ReadsAfter}
use Rattle.sfi_text.specs.declared.cause.TextCause.TheVariants as cause
use Rattle.sfi_text.specs.declared.mnemonic.Mnemonic.TheVariants as mnemonic
use Rattle.sfi_text.specs.declared.keyword.Directive.TheVariants as directive
use Rattle.sfi_text.specs.declared.keyword.Keyword.TheVariants as keyword
use Rattle.sfi_text.proofs.Forms.{stands_by_operand, reads_part, more_has_no_repeat, keeps_part, reads_fit}
use Rattle.sfi_text.proofs.Lines.{reads_states}
use Rattle.sfi_text.proofs.Meaning.{follows, natural, made}
use Rattle.sfi_text.proofs.Taking.{takes_shorter, blank_takes_none}
use Rattle.sfi_text.proofs.Decided.{Decided, decided_both, decided_same}
use Rattle.sfi_text.proofs.Deciding.{next, written_or_not, stands_or_not}

-- ---- the operands of a form

-- the operands, with the first's at this part
abbrev put : OperandPart → OperandValues → OperandValues → OperandValues
put Rd first o = record o { rd = first.rd }
put Rs1 first o = record o { rs1 = first.rs1 }
put Rs2 first o = record o { rs2 = first.rs2 }
put (Number kind) first o = record o { number = first.number }
put Name first o = record o { name = first.name }
put Mode first o = record o { compressed = first.compressed }
put ImageFormat first o = record o { format = first.format }
put _ first o = o

put_same : (part : OperandPart) (first o : OperandValues) → SameAt part (put part first o) first
put_same Comma first o = tt
put_same Open first o = tt
put_same Close first o = tt
put_same _ first o = refl

put_others : (part p : OperandPart) (first o : OperandValues) → slot p ≢ slot part → SameAt p (put part first o) o
put_others part Comma first o h = tt
put_others part Open first o h = tt
put_others part Close first o h = tt
put_others Rd Rd first o h = absurd (h refl)
put_others Rs1 Rs1 first o h = absurd (h refl)
put_others Rs2 Rs2 first o h = absurd (h refl)
put_others (Number kind) (Number other) first o h = absurd (h refl)
put_others Name Name first o h = absurd (h refl)
put_others Mode Mode first o h = absurd (h refl)
put_others ImageFormat ImageFormat first o h = absurd (h refl)
put_others _ _ first o h = refl

same_self : (part : OperandPart) (o : OperandValues) → SameAt part o o
same_self Comma o = tt
same_self Open o = tt
same_self Close o = tt
same_self _ o = refl

-- the operands that the text gives at the form, which keep the old ones elsewhere
record Filled (old : OperandValues) (form : List OperandPart) (text : List ℕ) : Type 0 where
  all : OperandValues
  reads : Reads all form text
  keeps : (p : OperandPart) → IsTrue (is_fresh p form) → SameAt p all old

fill_or_depart : (old : OperandValues) (form : List OperandPart) (text : List ℕ) → has_no_repeat form ≡ true → Filled old form text ⊎ ((e : TextCause) × Departs form text e)
fill_or_depart old [] text fresh =
    elim (next text) [
      | inl (token, rest, takes) ↦ inr (cause.Operands, inr (token, rest, takes, refl))
      | inr (inl blank) ↦ inl (record { all = old; reads = blank; keeps = λ p f. same_self p old })
      | inr (inr stuck) ↦ inr (cause.Word, inl (stuck, refl))
    ]
fill_or_depart old (part ∷ form) text fresh =
    elim (next text) [
      | inr (inl blank) ↦ inr (cause.Operands, inr (inl (blank, refl)))
      | inr (inr stuck) ↦ inr (cause.Word, inl (stuck, refl))
      | inl (token, rest, takes) ↦ elim (stands_or_not part token takes.is_token) [
        | inr none ↦ inr (part_cause part token, inr (inr (token, rest, takes, inl (none, refl))))
        | inl (one, stands) ↦
            let first = put part one old in
            elim (fill_or_depart first form rest (more_has_no_repeat part form fresh)) [
              | inr (e, departs) ↦ inr (e, inr (inr (token, rest, takes, inr (one, stands, departs))))
              | inl filled ↦
                  inl (record {
                    all = filled.all;
                    reads = reads_part first filled.all part form text token rest fresh takes (stands_by_operand first one part token (put_same part one old) stands) filled.reads filled.keeps;
                    keeps = keeps_part old first filled.all part form (λ p differs. put_others part p one old differs) filled.keeps;
                  })
            ]
      ]
    ]

read_or_depart : (form : List OperandPart) (text : List ℕ) → has_no_repeat form ≡ true → ((o : OperandValues) × Reads o form text) ⊎ ((e : TextCause) × Departs form text e)
read_or_depart form text fresh =
    elim (fill_or_depart (operands 0 0 0 (pos 0)) form text fresh) [
      | inl filled ↦ inl (filled.all, filled.reads)
      | inr departs ↦ inr departs
    ]

row_or_depart : (form : List OperandPart) (states : OperandValues → Stated) (text : List ℕ) → has_no_repeat form ≡ true → ((s : Stated) × ReadsRow form states text s) ⊎ ((e : TextCause) × Departs form text e)
row_or_depart form states text fresh =
    elim (read_or_depart form text fresh) [
      | inl (o, reads) ↦ inl (states o, (o, reads, refl))
      | inr departs ↦ inr departs
    ]

-- ---- an instruction

-- the instruction of a name with operands that fit its form
natural_is : (most z : ℤ) → IsBetween (pos 0) most z → pos (natural z) ≡ z
natural_is most (pos n) h = refl
natural_is most (negsuc n) h = let low = h.0 in absurd (omega (arith, ints))

made_named : (name : Mnemonic) (o : OperandValues) → mnemonic_of (made name o) ≡ name
made_named (mnemonic.Op op) o = refl
made_named _ o = refl

made_fits : (name : Mnemonic) (o : OperandValues) → AllSuit o (operand_parts name) → AgreesOn (operand_parts name) (operands_of (made name o)) o
made_fits mnemonic.Lui o h = (refl, (tt, (natural_is _ o.number h.1.1.0, tt)))
made_fits mnemonic.Auipc o h = (refl, (tt, (natural_is _ o.number h.1.1.0, tt)))
made_fits mnemonic.Fence o h = (natural_is _ o.number h.0, (tt, (refl, (tt, (refl, tt)))))
made_fits _ o h = search rules

no_repeat : (name : Mnemonic) → has_no_repeat (operand_parts name) ≡ true
no_repeat (mnemonic.Op op) = refl
no_repeat _ = refl

fence_or_not : (name : Mnemonic) → Decided (name ≡ mnemonic.Fence)
fence_or_not mnemonic.Fence = inl refl
fence_or_not _ = inr (λ e. cc)

bare_or_not : (name : Mnemonic) (text : List ℕ) → Decided (IsBareFence name text)
bare_or_not name text = decided_both (fence_or_not name) (elim (next text) as (λ _. Decided (IsBlank text)) [
  | inl (token, rest, takes) ↦ inr (λ blank. blank_takes_none text token rest blank takes)
  | inr (inl blank) ↦ inl blank
  | inr (inr stuck) ↦ inr stuck.something
])

-- the text after a name gives its operands, or departs from them
pub follows_or_departs : (name : Mnemonic) (text : List ℕ) → ((i : Instr) × FollowsName text name i) ⊎ ((e : TextCause) × OperandsDepart name text e)
follows_or_departs name text =
    elim (bare_or_not name text) [
      | inl bare ↦ inl (full_fence, (sym bare.0, inr (refl, bare.1)))
      | inr other ↦ elim (read_or_depart (operand_parts name) text (no_repeat name)) [
        | inr (e, departs) ↦ inr (e, (other, departs))
        | inl (o, reads) ↦ inl (made name o, follows text name o (made name o) reads (made_named name o) (made_fits name o (reads_fit o (operand_parts name) text reads)))
      ]
    ]

-- an instruction that goes to no name
plain_or_departs : (name : Mnemonic) (text : List ℕ) → ((s : Stated) × ((i : Instr) × FollowsName text name i × (s ≡ within (plain (i ∷ []))))) ⊎ ((e : TextCause) × OperandsDepart name text e)
plain_or_departs name text =
    elim (follows_or_departs name text) [
      | inl (i, beyond) ↦ inl (within (plain (i ∷ [])), (i, beyond, refl))
      | inr departs ↦ inr departs
    ]

instr_or_departs : (name : Mnemonic) (text : List ℕ) → ((s : Stated) × ReadsInstr name text s) ⊎ ((e : TextCause) × InstrDeparts name text e)
instr_or_departs (mnemonic.Branch cond) text = row_or_depart branch_form (branch_states cond) text refl
instr_or_departs mnemonic.Jal text = row_or_depart jal_form jal_states text refl
instr_or_departs other text = plain_or_departs other text

-- ---- a list of data

number_or_departs : (kind : NumberKind) (text : List ℕ) → ((z : ℤ) × (rest : List ℕ) × ReadsNumber kind text z rest) ⊎ ((e : TextCause) × NumberDeparts kind text e)
number_or_departs kind text =
    elim (next text) [
      | inr (inl blank) ↦ inr (cause.Operands, inr (inl (blank, refl)))
      | inr (inr stuck) ↦ inr (cause.Word, inl (stuck, refl))
      | inl (token, rest, takes) ↦ elim (written_or_not kind token takes.is_token) [
        | inl (z, writes) ↦ inl (z, rest, (token, takes, writes))
        | inr none ↦ inr (cause.Number, inr (inr (token, rest, takes, (λ o h. none o.number h.0 h.1, refl))))
      ]
    ]

-- numbers, each after a comma, up to the text's end
abbrev MoreRead : NumberKind → List ℕ → Type 0
MoreRead kind text = (numbers : List ℤ) × (last : List ℕ) × LeadsByMore kind numbers text last × IsBlank last

more_or_departs : (n : ℕ) (kind : NumberKind) (text : List ℕ) → length text ≤ n → MoreRead kind text ⊎ ((e : TextCause) × MoreDepartsAfter kind text e)
more_or_departs zero kind [] short = inl ([], [], refl, tt)
more_or_departs zero kind (c ∷ cs) short = absurd (omega arith)
more_or_departs (suc n) kind text short =
    elim (next text) [
      | inr (inl blank) ↦ inl ([], text, refl, blank)
      | inr (inr stuck) ↦ inr (cause.Word, ([], text, refl, inl (stuck, refl)))
      | inl (comma, after, takes) ↦ elim (decided_same comma (codes ",")) [
        | inr other ↦ inr (cause.Operands, ([], text, refl, inr (comma, after, takes, inl (λ o h. other h, refl))))
        | inl is ↦ elim (number_or_departs kind after) [
          | inr (e, departs) ↦ inr (e, ([], text, refl, inr (comma, after, takes, inr (is, departs))))
          | inl (z, rest, (token, taken, writes)) ↦
              let one = takes_shorter takes in
              let two = takes_shorter taken in
              elim (more_or_departs n kind rest (omega arith)) [
                | inl (numbers, last, leads, blank) ↦ inl (z ∷ numbers, last, (comma, after, token, rest, takes, is, taken, writes, leads), blank)
                | inr (e, (numbers, last, leads, departs)) ↦ inr (e, (z ∷ numbers, last, (comma, after, token, rest, takes, is, taken, writes, leads), departs))
              ]
        ]
      ]
    ]

list_or_departs : (width : DataWidth) (text : List ℕ) → ((b : List ℕ) × ReadsList width text b) ⊎ ((e : TextCause) × ListDeparts (data_kind width) text e)
list_or_departs width text =
    elim (number_or_departs (data_kind width) text) [
      | inr (e, departs) ↦ inr (e, inl departs)
      | inl (z, rest, (token, takes, writes)) ↦ elim (more_or_departs (length rest) (data_kind width) rest (omega arith)) [
        | inr (e, more) ↦ inr (e, inr (token, rest, z, takes, writes, more))
        | inl (numbers, last, leads, blank) ↦
            inl (flat_map (data_bytes width) (z ∷ numbers), (z, rest, (token, takes, writes), (numbers, last, leads, blank, refl)))
      ]
    ]

-- ---- a keyword

pseudo_no_repeat : (name : Pseudo) → has_no_repeat (pseudo_form name) ≡ true
pseudo_no_repeat Nop = refl
pseudo_no_repeat _ = refl

directive_no_repeat : (name : Directive) → has_no_repeat (directive_form name) ≡ true
directive_no_repeat directive.Format = refl
directive_no_repeat _ = refl

reads_or_refused : (k : Keyword) (text : List ℕ) → ((s : Stated) × ReadsAfter k text s) ⊎ ((e : TextCause) × RefusedWith k text e)
reads_or_refused (keyword.Instr name) text = instr_or_departs name text
reads_or_refused (keyword.Pseudo name) text = row_or_depart (pseudo_form name) (pseudo_states name) text (pseudo_no_repeat name)
reads_or_refused (keyword.Directive name) text = row_or_depart (directive_form name) (directive_states name) text (directive_no_repeat name)
reads_or_refused (keyword.Numbers width) text =
    elim (list_or_departs width text) [
      | inl (b, reads) ↦ inl (within (bytes b), (b, reads, refl))
      | inr departs ↦ inr departs
    ]

-- the text after a keyword states something with it, or is refused
pub states_or_refused : (k : Keyword) (text : List ℕ) → ((s : Stated) × StatesAfter k text s) ⊎ ((e : TextCause) × RefusedWith k text e)
states_or_refused k text =
    elim (reads_or_refused k text) [
      | inl (s, reads) ↦ inl (s, reads_states k text s reads)
      | inr refused ↦ inr refused
    ]
