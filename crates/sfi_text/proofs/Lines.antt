-- A line states one thing, or nothing for one cause.
use Rattle.sfi_text.proofs.Prelude.{◌≡◌, ℕ, List, [], ◌∷◌, ◌⊎◌, inl, inr, refl, sym, ap, ◌∙◌, subst, ℤ, Result, Ok, Err, IfOk, IfErr, MatchResult, flat_map, IfOk-weaker, Instr, TextCause, Mnemonic, OperandPart, Nop, Ret, DataWidth, Keyword, IsBlank, AreTokens, LeadsTo, name_of, operand_parts, OperandValues, Departs, mnemonic_of, operands_of, Spells, OperandsDepart, Reads, AgreesOn, FollowsName, directive_form, directive_states, pseudo_form, pseudo_states, branch_form, branch_states, jal_form, jal_states, data_kind, data_bytes, Writes, AreMore, IsRow, IsData, StatesAfter, InstrDeparts, RefusedWith, Stated, within, bytes, plain, stated, IsRightStatement}
use Rattle.sfi_text.specs.declared.keyword.Directive.{Directive}
use Rattle.sfi_text.specs.declared.keyword.Pseudo.{Pseudo}
use Rattle.sfi_text.specs.declared.statement.Statement.{Statement}
use Rattle.sfi_text.specs.private.Lines.{ReadsRow, ReadsInstr, ReadsAfter, ReadsList}
use Rattle.rv_word.specs.declared.instr.Cond.{Cond}
use Rattle.sfi_text.specs.declared.cause.TextCause.TheVariants as cause
use Rattle.sfi_text.specs.declared.mnemonic.Mnemonic.TheVariants as mnemonic
use Rattle.sfi_text.specs.declared.keyword.Directive.TheVariants as directive
use Rattle.sfi_text.specs.declared.keyword.Keyword.TheVariants as keyword
use Rattle.sfi_text.proofs.NameTables.{name_unique}
use Rattle.sfi_text.proofs.Meaning.{tokens_of, from_tokens, agree, follows_one, departs_one, departs_reads}
use Rattle.sfi_text.proofs.Right.{after_right}
use Rattle.sfi_text.proofs.Lists.{departs_list_one, more_tokens, more_leads, list_one, list_not_refused}

-- an instruction that goes to no name, by itself
abbrev ReadsPlain : Mnemonic → List ℕ → Stated → Type 0
ReadsPlain name text s = (i : Instr) × FollowsName text name i × (s ≡ within (plain (i ∷ [])))

abbrev IsPlain : Mnemonic → List (List ℕ) → Stated → Type 0
IsPlain name tokens s = (i : Instr) × Spells i (name_of name ∷ tokens) × (s ≡ within (plain (i ∷ [])))

-- an instruction that goes to no name
abbrev GoesNowhere : Mnemonic → Type 0
GoesNowhere name = ((cond : Cond) → name ≡ mnemonic.Branch cond → ⊥) × (name ≡ mnemonic.Jal → ⊥)

pub plain_reads : (name : Mnemonic) (text : List ℕ) (s : Stated) → GoesNowhere name → ReadsPlain name text s → ReadsInstr name text s
plain_reads (mnemonic.Branch cond) text s (no_branch, no_jal) h = absurd (no_branch cond refl)
plain_reads mnemonic.Jal text s (no_branch, no_jal) h = absurd (no_jal refl)
plain_reads name text s nowhere h = h

pub plain_departs : (name : Mnemonic) (text : List ℕ) (e : TextCause) → GoesNowhere name → OperandsDepart name text e → InstrDeparts name text e
plain_departs (mnemonic.Branch cond) text e (no_branch, no_jal) h = absurd (no_branch cond refl)
plain_departs mnemonic.Jal text e (no_branch, no_jal) h = absurd (no_jal refl)
plain_departs name text e nowhere h = h

-- what is read off a text is what its tokens state, and the other way round
module _ (form : List OperandPart) (states : OperandValues → Stated) (text : List ℕ) (s : Stated) where
  row_states : ReadsRow form states text s → (tokens : List (List ℕ)) × AreTokens text tokens × IsRow form states tokens s
  row_states (o, reads, e) = let t = tokens_of o form text reads in (t.0, t.1, (o, t.2, e))

  row_reads : (tokens : List (List ℕ)) → AreTokens text tokens → IsRow form states tokens s → ReadsRow form states text s
  row_reads tokens are (o, form_is, e) = (o, from_tokens o form tokens text are form_is, e)

module _ (name : Mnemonic) (text : List ℕ) (s : Stated) where
  plain_states : ReadsPlain name text s → (tokens : List (List ℕ)) × AreTokens text tokens × IsPlain name tokens s
  plain_states (i, (same, inl reads), e) =
      let t = tokens_of (operands_of i) (operand_parts (mnemonic_of i)) text reads in
      (t.0, t.1, (i, (ap name_of (sym same), inl t.2), e))
  plain_states (i, (same, inr (fence, blank)), e) = ([], (text, refl, blank), (i, (ap name_of (sym same), inr (fence, refl)), e))

  plain_read : (tokens : List (List ℕ)) → AreTokens text tokens → IsPlain name tokens s → ReadsPlain name text s
  plain_read tokens are (i, (named, inl form), e) = (i, (name_unique (mnemonic_of i) name (sym named), inl (from_tokens (operands_of i) (operand_parts (mnemonic_of i)) tokens text are form)), e)
  plain_read tokens (last, leads, blank) (i, (named, inr (fence, none)), e) =
      let ends : text ≡ last = subst (λ ts. LeadsTo text ts last) none leads in
      (i, (name_unique (mnemonic_of i) name (sym named), inr (fence, subst IsBlank (sym ends) blank)), e)

list_states : (width : DataWidth) (text b : List ℕ) → ReadsList width text b → (tokens : List (List ℕ)) × AreTokens text tokens × IsData width tokens (within (bytes b))
list_states width text b (z, rest, (t, takes, writes), (ns, last, leads, blank, e)) =
    let more = more_tokens (data_kind width) ns rest last leads blank in
    (t ∷ more.0, (more.1.0, (rest, takes, more.1.1), more.1.2), (z ∷ ns, (writes, more.2), ap (λ v. within (bytes v)) e))

list_read : (width : DataWidth) (t : List ℕ) (tokens : List (List ℕ)) (text : List ℕ) (s : Stated) (z : ℤ) (ns : List ℤ) → AreTokens text (t ∷ tokens) → Writes (data_kind width) t z → AreMore (data_kind width) ns tokens → s ≡ within (bytes (flat_map (data_bytes width) (z ∷ ns))) → (b : List ℕ) × ReadsList width text b × (s ≡ within (bytes b))
list_read width t tokens text s z ns (last, (rest, takes, leads), blank) writes more e =
    let m = more_leads (data_kind width) ns tokens rest (last, leads, blank) more in
    (flat_map (data_bytes width) (z ∷ ns), (z, rest, (t, takes, writes), (ns, m.0, m.1, m.2, refl)), e)

list_reads : (width : DataWidth) (tokens : List (List ℕ)) (text : List ℕ) (s : Stated) → AreTokens text tokens → IsData width tokens s → (b : List ℕ) × ReadsList width text b × (s ≡ within (bytes b))
list_reads width [] text s are ([], none, e) = absurd none
list_reads width [] text s are (z ∷ ns, none, e) = absurd none
list_reads width (t ∷ tokens) text s are ([], none, e) = absurd none
list_reads width (t ∷ tokens) text s are (z ∷ ns, (writes, more), e) = list_read width t tokens text s z ns are writes more e

pub reads_states : (k : Keyword) (text : List ℕ) (s : Stated) → ReadsAfter k text s → StatesAfter k text s
reads_states (keyword.Instr (mnemonic.Branch cond)) text s h = row_states branch_form (branch_states cond) text s h
reads_states (keyword.Instr mnemonic.Jal) text s h = row_states jal_form jal_states text s h
reads_states (keyword.Instr name) text s h = plain_states name text s h
reads_states (keyword.Pseudo name) text s h = row_states (pseudo_form name) (pseudo_states name) text s h
reads_states (keyword.Directive name) text s h = row_states (directive_form name) (directive_states name) text s h
reads_states (keyword.Numbers width) text s (b, reads, e) =
    let t = list_states width text b reads in
    (t.0, t.1, subst (IsData width t.0) (sym e) t.2)

pub states_reads : (k : Keyword) (text : List ℕ) (s : Stated) → StatesAfter k text s → ReadsAfter k text s
states_reads (keyword.Instr (mnemonic.Branch cond)) text s (ts, are, h) = row_reads branch_form (branch_states cond) text s ts are h
states_reads (keyword.Instr mnemonic.Jal) text s (ts, are, h) = row_reads jal_form jal_states text s ts are h
states_reads (keyword.Instr name) text s (ts, are, h) = plain_read name text s ts are h
states_reads (keyword.Pseudo name) text s (ts, are, h) = row_reads (pseudo_form name) (pseudo_states name) text s ts are h
states_reads (keyword.Directive name) text s (ts, are, h) = row_reads (directive_form name) (directive_states name) text s ts are h
states_reads (keyword.Numbers width) text s (ts, are, h) = list_reads width ts text s are h

-- what a row states is by the operands of its form alone
directive_agrees : (d : Directive) (a b : OperandValues) → AgreesOn (directive_form d) a b → directive_states d a ≡ directive_states d b
directive_agrees directive.Data a b h = refl
directive_agrees _ a b h = cc

pseudo_agrees : (p : Pseudo) (a b : OperandValues) → AgreesOn (pseudo_form p) a b → pseudo_states p a ≡ pseudo_states p b
pseudo_agrees Nop a b h = refl
pseudo_agrees Ret a b h = refl
pseudo_agrees _ a b h = cc

branch_agrees : (cond : Cond) (a b : OperandValues) → AgreesOn branch_form a b → branch_states cond a ≡ branch_states cond b
branch_agrees cond a b h = cc

jal_agrees : (a b : OperandValues) → AgreesOn jal_form a b → jal_states a ≡ jal_states b
jal_agrees a b h = cc

row_one : (form : List OperandPart) (states : OperandValues → Stated) → ((a b : OperandValues) → AgreesOn form a b → states a ≡ states b) → (text : List ℕ) (s t : Stated) → ReadsRow form states text s → ReadsRow form states text t → s ≡ t
row_one form states agrees text s t (o, reads, e) (p, read, f) = e ∙ agrees o p (agree o p form text reads read) ∙ sym f

plain_one : (name : Mnemonic) (text : List ℕ) (s t : Stated) → ReadsPlain name text s → ReadsPlain name text t → s ≡ t
plain_one name text s t (i, h, e) (j, k, f) = e ∙ ap (λ x. within (plain (x ∷ []))) (follows_one text i j (k.0 ∙ sym h.0) h.1 k.1) ∙ sym f

-- a text after a keyword states one thing
pub reads_one : (k : Keyword) (text : List ℕ) (s t : Stated) → ReadsAfter k text s → ReadsAfter k text t → s ≡ t
reads_one (keyword.Instr (mnemonic.Branch cond)) text s t h j = row_one branch_form (branch_states cond) (branch_agrees cond) text s t h j
reads_one (keyword.Instr mnemonic.Jal) text s t h j = row_one jal_form jal_states jal_agrees text s t h j
reads_one (keyword.Instr name) text s t h j = plain_one name text s t h j
reads_one (keyword.Pseudo name) text s t h j = row_one (pseudo_form name) (pseudo_states name) (pseudo_agrees name) text s t h j
reads_one (keyword.Directive name) text s t h j = row_one (directive_form name) (directive_states name) (directive_agrees name) text s t h j
reads_one (keyword.Numbers width) text s t (b, h, e) (c, j, f) = e ∙ ap (λ v. within (bytes v)) (list_one width text b c h j) ∙ sym f

row_not : (form : List OperandPart) (states : OperandValues → Stated) (text : List ℕ) (s : Stated) (e : TextCause) → ReadsRow form states text s → Departs form text e → ⊥
row_not form states text s e (o, reads, is) departs = departs_reads form text e o departs reads

plain_not : (name : Mnemonic) (text : List ℕ) (s : Stated) (e : TextCause) → ReadsPlain name text s → OperandsDepart name text e → ⊥
plain_not name text s e (i, (same, inl reads), is) refused =
    departs_reads (operand_parts name) text e (operands_of i) refused.1 (subst (λ m. Reads (operands_of i) (operand_parts m) text) same reads)
plain_not name text s e (i, (same, inr (fence, blank)), is) refused = refused.0 (sym same ∙ ap mnemonic_of fence, blank)

-- and is refused for no cause then
pub reads_not : (k : Keyword) (text : List ℕ) (s : Stated) (e : TextCause) → ReadsAfter k text s → RefusedWith k text e → ⊥
reads_not (keyword.Instr (mnemonic.Branch cond)) text s e h r = row_not branch_form (branch_states cond) text s e h r
reads_not (keyword.Instr mnemonic.Jal) text s e h r = row_not jal_form jal_states text s e h r
reads_not (keyword.Instr name) text s e h r = plain_not name text s e h r
reads_not (keyword.Pseudo name) text s e h r = row_not (pseudo_form name) (pseudo_states name) text s e h r
reads_not (keyword.Directive name) text s e h r = row_not (directive_form name) (directive_states name) text s e h r
reads_not (keyword.Numbers width) text s e (b, h, is) r = list_not_refused width text b e h r

plain_cause : (name : Mnemonic) (text : List ℕ) (e f : TextCause) → OperandsDepart name text e → OperandsDepart name text f → e ≡ f
plain_cause name text e f h j = departs_one (operand_parts name) text e f h.1 j.1

-- and for one cause else
pub refused_one : (k : Keyword) (text : List ℕ) (e f : TextCause) → RefusedWith k text e → RefusedWith k text f → e ≡ f
refused_one (keyword.Instr (mnemonic.Branch cond)) text e f h j = departs_one branch_form text e f h j
refused_one (keyword.Instr mnemonic.Jal) text e f h j = departs_one jal_form text e f h j
refused_one (keyword.Instr name) text e f h j = plain_cause name text e f h j
refused_one (keyword.Pseudo name) text e f h j = departs_one (pseudo_form name) text e f h j
refused_one (keyword.Directive name) text e f h j = departs_one (directive_form name) text e f h j
refused_one (keyword.Numbers width) text e f h j = departs_list_one (data_kind width) text e f h j

-- a keyword and its text state one thing at most
pub states_one : (k : Keyword) (text : List ℕ) (s t : Stated) → StatesAfter k text s → StatesAfter k text t → s ≡ t
states_one k text s t h j = reads_one k text s t (states_reads k text s h) (states_reads k text t j)

pub states_not : (k : Keyword) (text : List ℕ) (s : Stated) (e : TextCause) → StatesAfter k text s → RefusedWith k text e → ⊥
states_not k text s e h r = reads_not k text s e (states_reads k text s h) r

-- what the code's answer says of the text after a keyword
module _ (k : Keyword) (text : List ℕ) where
  pub answer_states : (r : Result Statement TextCause) → IfOk r (λ s. ReadsAfter k text (stated s)) → IfOk r (λ s. StatesAfter k text (stated s))
  answer_states r h = IfOk-weaker r _ _ (λ s. reads_states k text (stated s)) h

  pub answer_right : (r : Result Statement TextCause) → IfOk r (λ s. ReadsAfter k text (stated s)) → IfOk r (λ s. IsRightStatement (stated s))
  answer_right r h = IfOk-weaker r _ _ (λ s h. let states = reads_states k text (stated s) h in after_right k states.0 (stated s) states.2) h

  pub answer_only : (r : Result Statement TextCause) → IfOk r (λ s. ReadsAfter k text (stated s)) → IfErr r (λ e. (e ≡ cause.Memory) ⊎ RefusedWith k text e) → (s : Stated) → StatesAfter k text s → MatchResult r (λ t. stated t ≡ s) (λ e. e ≡ cause.Memory)
  answer_only (Ok t) h c s states = reads_one k text (stated t) s h (states_reads k text s states)
  answer_only (Err e) h (inl memory) s states = memory
  answer_only (Err e) h (inr refused) s states = absurd (reads_not k text s e (states_reads k text s states) refused)

  pub answer_cause : (r : Result Statement TextCause) → IfOk r (λ s. ReadsAfter k text (stated s)) → IfErr r (λ e. (e ≡ cause.Memory) ⊎ RefusedWith k text e) → (e : TextCause) → RefusedWith k text e → MatchResult r (λ _. ⊥) (λ f. (f ≡ e) ⊎ (f ≡ cause.Memory))
  answer_cause (Ok t) h c e refused = reads_not k text (stated t) e h refused
  answer_cause (Err f) h (inl memory) e refused = inr memory
  answer_cause (Err f) h (inr other) e refused = inl (refused_one k text f e other refused)
