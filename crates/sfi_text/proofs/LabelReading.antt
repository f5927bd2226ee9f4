-- What is read of labels at the front of a line.
use Rattle.sfi_text.proofs.Prelude.{◌≡◌, ◌↔◌, refl, sym, ap, subst, ℕ, Bool, true, false, not, IsTrue, List, [], ◌∷◌, ◌++◌, true≢false, codes, length, arith, ◌<◌, ◌⊎◌, inl, inr, ◌∙◌, take, drop, Option, Some, None, Bor, MatchOption, Takes, IsLabel, Begun, SoFar, IsFree, Labels, RefusesLabel, BeginsWithName, BeginsWithLabel, HasNoLabel, LabelsLead, IsTaken, LabelRefused, TextCause, Named, Unknown, meaning, body_of, token_len}
use Rattle.sfi_text.specs.declared.cause.TextCause.TheVariants as cause
use Rattle.sfi_text.proofs.Decided.{Decided}
use Rattle.sfi_text.proofs.Taking.{takes_unique, takes_body, takes_found, takes_shorter}
use Rattle.sfi_text.proofs.Lexing.{token_at_mark}

-- a colon after the spaces is the first token, and no other token is one
colon_found : (text rest : List ℕ) → body_of text ≡ 58 ∷ rest → Takes text (codes ":") rest
colon_found text rest e =
    let one : token_len (body_of text) ≡ 1 = ap token_len e ∙ token_at_mark 58 rest refl in
    takes_found text (codes ":") rest (omega (arith, one))
    (sym (ap (λ k. take k (body_of text)) one ∙ ap (λ t. take 1 t) e))
    (sym (ap (λ k. drop k (body_of text)) one ∙ ap (λ t. drop 1 t) e))

pub colon : (text body : List ℕ) (r : Option (Bor (List ℕ))) → body ≡ body_of text
    → MatchOption r ((rest : List ℕ) → body ≡ codes ":" ++ rest → ⊥) (λ rest. body ≡ codes ":" ++ rest.now)
    → MatchOption r ((rest : List ℕ) → Takes text (codes ":") rest → ⊥) (λ rest. Takes text (codes ":") rest.now)
colon text body None is none = λ rest takes. none rest (is ∙ takes_body takes)
colon text body (Some rest) is found = colon_found text rest.now (sym is ∙ found)

-- the token at the front is no name
pub other_name : (text token after : List ℕ) → Takes text token after → (IsLabel token → ⊥)
    → (name rest : List ℕ) → BeginsWithName text name rest → ⊥
other_name text token after takes other name rest begins =
    other (subst IsLabel (sym (takes_unique takes begins.0).0) begins.1)

-- a name with no colon after it is no label
pub no_colon : (text name after : List ℕ) → BeginsWithName text name after → ((rest : List ℕ) → Takes after (codes ":") rest → ⊥) → HasNoLabel text
no_colon text name after begins none other rest (a, begun, colon) =
    none rest (subst (λ t. Takes t (codes ":") rest) (sym (takes_unique begins.0 begun.0).1) colon)

-- a colon after a label's name
pub colon_after : (token after : List ℕ) (r : Option (Bor (List ℕ))) → IsLabel token
    → MatchOption r ((rest : List ℕ) → Takes after (codes ":") rest → ⊥) (λ rest. Takes after (codes ":") rest.now)
    → MatchOption r ((rest : List ℕ) → IsLabel token → Takes after (codes ":") rest → ⊥)
    (λ rest. IsLabel token × Takes after (codes ":") rest.now)
colon_after token after None label none = λ rest again takes. none rest takes
colon_after token after (Some rest) label found = (label, found)

-- a first token that is no name, or has no colon after it, is no label
pub no_label : (text token after : List ℕ) → Takes text token after
    → ((rest : List ℕ) → IsLabel token → Takes after (codes ":") rest → ⊥) → HasNoLabel text
no_label text token after takes none name rest (a, begun, colon) =
    let same = takes_unique begun.0 takes in
    none rest (subst IsLabel same.0 begun.1) (subst (λ t. Takes t (codes ":") rest) same.1 colon)

unknown_or_not : (what : Named) → Decided (what ≡ Unknown)
unknown_or_not Unknown = inl refl
unknown_or_not _ = inr (λ e. cc)

-- a name is free or not
pub free_or_not : (name : List ℕ) (b : Begun) → Decided (IsFree name b)
free_or_not name b = unknown_or_not (meaning b.sandbox.names name)

-- whether the name at the front is there already
pub taken : (b : Begun) (text name rest : List ℕ) (free : Bool) → BeginsWithName text name rest → (IsTrue free ↔ IsFree name b)
    → IsTrue (not free) ↔ IsTaken b text
taken b text name rest true begins free =
    (λ h. absurd (true≢false (sym h)), λ t. absurd (t.3 (subst (λ n. IsFree n b) (takes_unique begins.0 t.2.0).0 (free.0 refl))))
taken b text name rest false begins free =
    (λ h. (name, rest, begins, λ f. true≢false (sym (free.1 f))), λ t. refl)

-- another label after these labels
pub one_more : (names : List (List ℕ)) (old next new : SoFar) (text rest after name : List ℕ)
    → LabelsLead names old text next rest → BeginsWithLabel rest name after → Labels name next new
    → LabelsLead (names ++ name ∷ []) old text new after
one_more [] old next new text rest after name (same, is) begins labels =
    (new, after, subst (λ t. BeginsWithLabel t name after) is begins, subst (λ s. Labels name s new) same labels, (refl, refl))
one_more (n ∷ ns) old next new text rest after name (middle, beyond, begun, labelled, more) begins labels =
    (middle, beyond, begun, labelled, one_more ns middle next new beyond rest after name more begins labels)

-- no name stands at the front, so none that is there already
pub none_taken : (b : Begun) (text : List ℕ) → ((name rest : List ℕ) → BeginsWithName text name rest → ⊥) → IsTrue false ↔ IsTaken b text
none_taken b text none = (λ h. absurd (true≢false (sym h)), λ t. absurd (none t.0 t.1 t.2))

-- the text after a label is shorter
pub label_shortens : (text name rest : List ℕ) → BeginsWithLabel text name rest → length rest < length text
label_shortens text name rest (after, begins, colon) = omega (arith, takes_shorter begins.0, takes_shorter colon)

-- a label that is refused after others that lead on
pub refused_label : (names : List (List ℕ)) (old next : SoFar) (text rest name after : List ℕ) (e : TextCause)
    → LabelsLead names old text next rest → BeginsWithLabel rest name after → (e ≡ cause.Memory) ⊎ RefusesLabel name next e
    → (e ≡ cause.Memory) ⊎ LabelRefused old text e
refused_label names old next text rest name after e lead begins (inl memory) = inl memory
refused_label names old next text rest name after e lead begins (inr refused) =
    inr (names, next, rest, name, after, lead, begins, refused)
