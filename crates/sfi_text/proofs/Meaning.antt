-- What a text means: one instruction in range at most, or one cause of a refusal.
use Rattle.sfi_text.proofs.Prelude.{◌≡◌, ℕ, List, [], ◌∷◌, inl, inr, refl, sym, ap, ◌∙◌, subst, ℤ, pos, codes, IsNumber, Bool, true, false, Result, IfOk, IfOk-weaker, Instr, TextCause, Mnemonic, OperandPart, Rd, Rs1, Rs2, Number, Name, Mode, ImageFormat, SaysFormat, Takes, IsBlank, LeadsTo, AreTokens, name_of, operand_parts, OperandValues, Stands, HasForm, mode_name, Reads, SameAt, AgreesOn, FollowsName, FollowsToken, mnemonic_of, operands_of, Means, negsuc, InRange, Follows, OneMeaning, MeaningsAreInRange, ◌⊎◌, Ok, Err, IfErr, IsName, Refused, Differs, Departs, OperandsDepart, RefusedAt, OneCause, MeantIsNotRefused}
use Rattle.sfi_text.proofs.NameTables.{register_unique, name_unique, name_is_name}
use Rattle.sfi_text.proofs.Numbers.{number_unique}
use Rattle.sfi_text.proofs.Taking.{takes_unique, blank_takes_none, One, either_one, fixed_one, token_one, front_at, front_one}
use Rattle.sfi_text.proofs.Forms.{stands_by_operand, reads_fit, fits_in_range, full_fence_in_range}
use Rattle.sfi_text.proofs.Deciding.{number_no_name}
use Rattle.sfi_formats.specs.declared.format.Format.{Format}
use Rattle.sfi_formats.specs.declared.format.Format.TheVariants.{Sfi1, Sfi2, Sfiw, Sfis}
use Rattle.rv_word.specs.declared.instr.Instr.TheVariants as instr
use Rattle.sfi_text.specs.declared.mnemonic.Mnemonic.TheVariants as mnemonic
use Rattle.sfi_text.specs.declared.cause.TextCause.TheVariants as cause

-- ==== What the text after an instruction's name has to do with what the whole text means.

mode_unique : (a b : Bool) → mode_name a ≡ mode_name b → a ≡ b
mode_unique true true h = refl
mode_unique true false h = cc
mode_unique false true h = cc
mode_unique false false h = refl

words_no_number : (token : List ℕ) (z : ℤ) → token ≡ codes "words" → IsNumber token z → ⊥
words_no_number token z is h = number_no_name (codes "words") z (subst (λ t. IsNumber t z) is h) (refl, (refl, (refl, (refl, (refl, tt)))))

single_no_number : (token : List ℕ) (z : ℤ) → token ≡ codes "single" → IsNumber token z → ⊥
single_no_number token z is h = number_no_name (codes "single") z (subst (λ t. IsNumber t z) is h) (refl, (refl, (refl, (refl, (refl, (refl, tt))))))

words_no_single : (token : List ℕ) → token ≡ codes "words" → token ≡ codes "single" → ⊥
words_no_single token words single = let e : codes "words" ≡ codes "single" = sym words ∙ single in cc

format_unique : (token : List ℕ) (f g : Format) → SaysFormat token f → SaysFormat token g → f ≡ g
format_unique token Sfi1 Sfi1 h k = refl
format_unique token Sfi2 Sfi2 h k = refl
format_unique token Sfiw Sfiw h k = refl
format_unique token Sfi1 Sfi2 h k = let e = number_unique token (pos 1) (pos 2) h k in cc
format_unique token Sfi2 Sfi1 h k = let e = number_unique token (pos 2) (pos 1) h k in cc
format_unique token Sfi1 Sfiw h k = absurd (words_no_number token (pos 1) k h)
format_unique token Sfi2 Sfiw h k = absurd (words_no_number token (pos 2) k h)
format_unique token Sfiw Sfi1 h k = absurd (words_no_number token (pos 1) h k)
format_unique token Sfiw Sfi2 h k = absurd (words_no_number token (pos 2) h k)
format_unique token Sfi1 Sfis h k = absurd (single_no_number token (pos 1) k h)
format_unique token Sfi2 Sfis h k = absurd (single_no_number token (pos 2) k h)
format_unique token Sfis Sfi1 h k = absurd (single_no_number token (pos 1) h k)
format_unique token Sfis Sfi2 h k = absurd (single_no_number token (pos 2) h k)
format_unique token Sfiw Sfis h k = absurd (words_no_single token h k)
format_unique token Sfis Sfiw h k = absurd (words_no_single token k h)
format_unique token Sfis Sfis h k = refl

-- a token gives one operand
operand_unique : (a b : OperandValues) (part : OperandPart) (token : List ℕ) → Stands a part token → Stands b part token → SameAt part a b
operand_unique a b Rd token h k = register_unique token _ _ h k
operand_unique a b Rs1 token h k = register_unique token _ _ h k
operand_unique a b Rs2 token h k = register_unique token _ _ h k
operand_unique a b (Number kind) token h k = number_unique token _ _ h.0 k.0
operand_unique a b Name token h k = sym h.2 ∙ k.2
operand_unique a b Mode token h k = mode_unique a.compressed b.compressed (sym h ∙ k)
operand_unique a b ImageFormat token h k = format_unique token a.format b.format h k
operand_unique a b _ token h k = tt

-- two statements that are read off one text have the same operands
pub agree : (a b : OperandValues) (form : List OperandPart) (text : List ℕ) → Reads a form text → Reads b form text → AgreesOn form a b
agree a b [] text h k = tt
agree a b (part ∷ form) text (t, r, takes, stands, reads) (u, s, other, stood, read) =
    let same = takes_unique other takes in
    (operand_unique a b part t stands (subst (Stands b part) same.0 stood), agree a b form r reads (subst (Reads b form) same.1 read))

reads_by : (a b : OperandValues) (form : List OperandPart) (text : List ℕ) → AgreesOn form a b → Reads b form text → Reads a form text
reads_by a b [] text e h = h
reads_by a b (part ∷ form) text e (t, r, takes, stands, reads) = (t, r, takes, stands_by_operand a b part t e.0 stands, reads_by a b form r e.1 reads)

-- the tokens that are read, and what is read from the tokens
pub tokens_of : (o : OperandValues) (form : List OperandPart) (text : List ℕ) → Reads o form text → (tokens : List (List ℕ)) × AreTokens text tokens × HasForm o form tokens
tokens_of o [] text h = ([], (text, refl, h), tt)
tokens_of o (part ∷ form) text (t, r, takes, stands, reads) =
    let more = tokens_of o form r reads in
    (t ∷ more.0, (more.1.0, (r, takes, more.1.1), more.1.2), (stands, more.2))

pub from_tokens : (o : OperandValues) (form : List OperandPart) (tokens : List (List ℕ)) (text : List ℕ) → AreTokens text tokens → HasForm o form tokens → Reads o form text
from_tokens o [] [] text (rest, leads, blank) h = subst IsBlank (sym leads) blank
from_tokens o [] (t ∷ tokens) text leads h = absurd h
from_tokens o (part ∷ form) [] text leads h = absurd h
from_tokens o (part ∷ form) (t ∷ tokens) text (rest, (after, takes, leads), blank) h =
    (t, after, takes, h.0, from_tokens o form tokens after (rest, leads, blank) h.1)

-- a text means an instruction by its first token and what follows it
pub means : (text token rest : List ℕ) (i : Instr) → Takes text token rest → FollowsToken token rest i → Means text i
means text token rest i takes (named, inl reads) =
    let tokens = tokens_of (operands_of i) (operand_parts (mnemonic_of i)) rest reads in
    (token ∷ tokens.0, (tokens.1.0, (rest, takes, tokens.1.1), tokens.1.2), (sym named, inl tokens.2))
means text token rest i takes (named, inr (fence, blank)) = (token ∷ [], (rest, (rest, takes, refl), blank), (sym named, inr (fence, refl)))

pub meant : (text token rest : List ℕ) (i : Instr) → Takes text token rest → Means text i → FollowsToken token rest i
meant text token rest i takes ([], leads, spells) = absurd spells
meant text token rest i takes (t ∷ tokens, (last, (after, other, leads), blank), (named, inl form)) =
    let same = takes_unique other takes in
    (sym named ∙ same.0, inl (subst (Reads (operands_of i) (operand_parts (mnemonic_of i))) same.1 (from_tokens (operands_of i) (operand_parts (mnemonic_of i)) tokens after (last, leads, blank) form)))
meant text token rest i takes (t ∷ tokens, (last, (after, other, leads), blank), (named, inr (fence, none))) =
    let same = takes_unique other takes in
    let ends : LeadsTo after [] last = subst (λ ts. LeadsTo after ts last) none leads in
    (sym named ∙ same.0, inr (fence, subst IsBlank (sym ends ∙ same.1) blank))

-- a text that means an instruction has a first token
pub first_token : (text : List ℕ) (i : Instr) → Means text i → (token : List ℕ) × (rest : List ℕ) × Takes text token rest
first_token text i ([], leads, spells) = absurd spells
first_token text i (t ∷ tokens, (last, (after, other, leads), blank), spells) = (t, after, other)

-- the operands that were read are those of the instruction that was made
pub follows : (rest : List ℕ) (name : Mnemonic) (o : OperandValues) (i : Instr) → Reads o (operand_parts name) rest → mnemonic_of i ≡ name → AgreesOn (operand_parts name) (operands_of i) o → FollowsName rest name i
follows rest name o i reads same agrees =
    (same, inl (subst (λ m. Reads (operands_of i) (operand_parts m) rest) (sym same) (reads_by (operands_of i) o (operand_parts name) rest agrees reads)))

-- what has the name of a mnemonic has the token
pub token_follows : (r : Result Instr TextCause) (token rest : List ℕ) (name : Mnemonic) → name_of name ≡ token → IfOk r (λ i. FollowsName rest name i) → IfOk r (λ i. FollowsToken token rest i)
token_follows r token rest name named h = IfOk-weaker r _ _ (λ i h. (ap name_of h.0 ∙ named, h.1)) h

-- ==== A text means one instruction at most, and that is in range.

-- an instruction is what its mnemonic and its operands make
abbrev pub natural : ℤ → ℕ
natural (pos n) = n
natural (negsuc n) = 0

abbrev pub made : Mnemonic → OperandValues → Instr
made (mnemonic.Op op) o = instr.Op op o.rd o.rs1 o.rs2
made (mnemonic.OpImm op) o = instr.OpImm op o.rd o.rs1 o.number
made (mnemonic.Load kind) o = instr.Load kind o.rd o.rs1 o.number
made (mnemonic.Store width) o = instr.Store width o.rs1 o.rs2 o.number
made (mnemonic.Branch cond) o = instr.Branch cond o.rs1 o.rs2 o.number
made mnemonic.Jal o = instr.Jal o.rd o.number
made mnemonic.Jalr o = instr.Jalr o.rd o.rs1 o.number
made mnemonic.Lui o = instr.Lui o.rd (natural o.number)
made mnemonic.Auipc o = instr.Auipc o.rd (natural o.number)
made mnemonic.Fence o = instr.Fence (natural o.number) o.rd o.rs1
made mnemonic.Ecall o = instr.Ecall
made mnemonic.Ebreak o = instr.Ebreak

made_own : (i : Instr) → made (mnemonic_of i) (operands_of i) ≡ i
made_own (instr.Op op rd rs1 rs2) = refl
made_own _ = refl

made_agrees : (m : Mnemonic) (a b : OperandValues) → AgreesOn (operand_parts m) a b → made m a ≡ made m b
made_agrees mnemonic.Ecall a b h = refl
made_agrees mnemonic.Ebreak a b h = refl
made_agrees _ a b h = cc

same_instr : (i j : Instr) → mnemonic_of j ≡ mnemonic_of i → AgreesOn (operand_parts (mnemonic_of i)) (operands_of i) (operands_of j) → i ≡ j
same_instr i j same h =
    sym (made_own i) ∙ made_agrees (mnemonic_of i) (operands_of i) (operands_of j) h ∙ ap (λ m. made m (operands_of j)) (sym same) ∙ made_own j

-- a fence with operands isn't one without
no_bare : (o : OperandValues) (rest : List ℕ) (m : Mnemonic) → mnemonic.Fence ≡ m → IsBlank rest → Reads o (operand_parts m) rest → ⊥
no_bare o rest m fence blank reads =
    let (t, r, takes, stands, more) = subst (λ x. Reads o (operand_parts x) rest) (sym fence) reads in
    blank_takes_none rest t r blank takes

pub follows_one : (rest : List ℕ) (i j : Instr) → mnemonic_of j ≡ mnemonic_of i → Follows rest i → Follows rest j → i ≡ j
follows_one rest i j same (inl h) (inl k) = same_instr i j same (agree (operands_of i) (operands_of j) (operand_parts (mnemonic_of i)) rest h (subst (λ m. Reads (operands_of j) (operand_parts m) rest) same k))
follows_one rest i j same (inl h) (inr (fence, blank)) = absurd (no_bare (operands_of i) rest (mnemonic_of i) (sym (ap mnemonic_of fence) ∙ same) blank h)
follows_one rest i j same (inr (fence, blank)) (inl k) = absurd (no_bare (operands_of j) rest (mnemonic_of j) (sym (ap mnemonic_of fence) ∙ sym same) blank k)
follows_one rest i j same (inr (fence, blank)) (inr (other, nothing)) = fence ∙ sym other

pub one_meaning : OneMeaning
one_meaning text i j h k =
    let (token, rest, takes) = first_token text i h in
    let m = meant text token rest i takes h in
    let n = meant text token rest j takes k in
    follows_one rest i j (name_unique (mnemonic_of j) (mnemonic_of i) (n.0 ∙ sym m.0)) m.1 n.1

-- what follows the name is in range
pub follows_in_range : (rest : List ℕ) (i : Instr) → Follows rest i → InRange i
follows_in_range rest i (inl h) = fits_in_range i (reads_fit (operands_of i) (operand_parts (mnemonic_of i)) rest h)
follows_in_range rest i (inr (fence, blank)) = subst InRange (sym fence) full_fence_in_range

pub in_range : MeaningsAreInRange
in_range text i h =
    let (token, rest, takes) = first_token text i h in
    follows_in_range rest i (meant text token rest i takes h).1

-- ==== A text is refused for one cause at most, and for none where it means an instruction; what an answer says of it.

-- the first token can't stand at this part, or what follows departs from the others
abbrev AtPart : OperandPart → List OperandPart → List ℕ → List ℕ → TextCause → Type 0
AtPart part form token rest e = Differs part token e ⊎ ((o : OperandValues) × Stands o part token × Departs form rest e)

part_one : (part : OperandPart) (form : List OperandPart) → ((text : List ℕ) → One (Departs form text)) → (token rest : List ℕ) → One (AtPart part form token rest)
part_one part form one token rest =
    either_one _ _ (λ e f h k. h.1 ∙ sym k.1) (λ e f h k. one rest e f h.2 k.2) (λ e f differs h. differs.0 h.0 h.1)

-- a text departs from a form for one cause
pub departs_one : (form : List OperandPart) (text : List ℕ) → One (Departs form text)
departs_one [] text = token_one text (λ token rest e. e ≡ cause.Operands) (λ token rest e f h k. h ∙ sym k)
departs_one (part ∷ form) text = front_one text (AtPart part form) (part_one part form (λ rest. departs_one form rest))

-- and one whose tokens stand at the form for none
pub departs_reads : (form : List OperandPart) (text : List ℕ) (e : TextCause) (o : OperandValues) → Departs form text e → Reads o form text → ⊥
departs_reads [] text e o (inl s) blank = s.0.something blank
departs_reads [] text e o (inr (t, r, takes, d)) blank = blank_takes_none text t r blank takes
departs_reads (part ∷ form) text e o (inl s) (t, r, takes, stands, reads) = s.0.nothing t r takes
departs_reads (part ∷ form) text e o (inr (inl m)) (t, r, takes, stands, reads) = blank_takes_none text t r m.0 takes
departs_reads (part ∷ form) text e o (inr (inr (u, v, other, inl d))) (t, r, takes, stands, reads) = d.0 o (subst (Stands o part) (takes_unique takes other).0 stands)
departs_reads (part ∷ form) text e o (inr (inr (u, v, other, inr (p, stood, d)))) (t, r, takes, stands, reads) = departs_reads form v e o d (subst (Reads o form) (takes_unique takes other).1 reads)

pub named : (m : Mnemonic) (token : List ℕ) → name_of m ≡ token → IsName token
named m token e = subst IsName e (name_is_name m)

mnemonic_one : (token rest : List ℕ) → One (λ e. (m : Mnemonic) × (name_of m ≡ token) × OperandsDepart m rest e)
mnemonic_one token rest e f (m, is, (bare, d)) (n, same, (other, c)) =
    departs_one (operand_parts m) rest e f d (subst (λ k. Departs (operand_parts k) rest f) (name_unique n m (same ∙ sym is)) c)

at_one : (token rest : List ℕ) → One (RefusedAt token rest)
at_one token rest =
    either_one _ _ (fixed_one _ _)
    (either_one _ _ (fixed_one _ _) (mnemonic_one token rest) (λ e f unknown h. unknown.0.1 h.0 h.1))
    (λ e f no_name h. elim h [ inl unknown ↦ no_name.0 unknown.0.0 | inr (m, is, d) ↦ no_name.0 (named m token is) ])

pub one_cause : OneCause
one_cause text = front_one text RefusedAt at_one

at_none : (token rest : List ℕ) (e : TextCause) (i : Instr) → RefusedAt token rest e → FollowsToken token rest i → ⊥
at_none token rest e i (inl n) h = n.0 (named (mnemonic_of i) token h.0)
at_none token rest e i (inr (inl k)) h = k.0.1 (mnemonic_of i) h.0
at_none token rest e i (inr (inr (m, is, (bare, d)))) (has, inl reads) =
    departs_reads (operand_parts m) rest e (operands_of i) d (subst (λ k. Reads (operands_of i) (operand_parts k) rest) (name_unique (mnemonic_of i) m (has ∙ sym is)) reads)
at_none token rest e i (inr (inr (m, is, (bare, d)))) (has, inr (fence, blank)) =
    bare (name_unique m (mnemonic_of i) (is ∙ sym has) ∙ ap mnemonic_of fence, blank)

pub meant_is_not_refused : MeantIsNotRefused
meant_is_not_refused text i e h refused =
    let (token, rest, takes) = first_token text i h in
    at_none token rest e i (front_at text RefusedAt token rest e takes refused) (meant text token rest i takes h)

-- what an answer says of a text where it means the instruction, or is refused for the cause
module _ (text token rest : List ℕ) (takes : Takes text token rest) where
  pub token_means : (r : Result Instr TextCause) → IfOk r (λ i. FollowsToken token rest i) → IfOk r (λ i. Means text i)
  token_means r h = IfOk-weaker r _ _ (λ i. means text token rest i takes) h

  pub token_cause : (r : Result Instr TextCause) → IfErr r (λ e. RefusedAt token rest e) → IfErr r (λ e. Refused text e)
  token_cause (Ok i) h = tt
  token_cause (Err e) h = inr (inr (token, rest, takes, h))

module _ (text : List ℕ) where
  pub only : (r : Result Instr TextCause) → IfOk r (λ i. Means text i) → IfErr r (λ e. Refused text e) → (i : Instr) → Means text i → r ≡ Ok i
  only (Ok i) h k j m = ap Ok (one_meaning text i j h m)
  only (Err e) h k j m = absurd (meant_is_not_refused text j e m k)

  pub only_cause : (r : Result Instr TextCause) → IfOk r (λ i. Means text i) → IfErr r (λ e. Refused text e) → (e : TextCause) → Refused text e → r ≡ Err e
  only_cause (Ok i) h k f refused = absurd (meant_is_not_refused text i f h refused)
  only_cause (Err e) h k f refused = ap Err (one_cause text e f k refused)

  pub means_in_range : (r : Result Instr TextCause) → IfOk r (λ i. Means text i) → IfOk r (λ i. InRange i)
  means_in_range r h = IfOk-weaker r _ _ (in_range text) h
