-- A line leads to one source so far at most, or is refused for one cause at most, and never both; so a text has one meaning or one fault at most.
use Rattle.sfi_text.proofs.Prelude.{◌≡◌, refl, sym, ap, subst, subst₂, ◌∙◌, ℕ, ◌+◌, ◌⊎◌, inl, inr, List, [], ◌∷◌, Some, arith, codes, same_Some, none-some, TextCause, Keyword, Takes, IsName, keyword_name, RefusedWith, NameRefused, Stated, format, sandbox, within, StatedWithin, SoFar, with_label, nothing, sandboxes, tables, IsFree, Fits, Labels, RefusesLabel, GoesOn, Does, with_stated, HasNoRoom, BeginsWithLabel, HasNoLabel, LabelsLead, PassesLabels, LeadsAfter, RestLeads, LabelRefused, PassesLimit, OperandsRefused, KnownRefused, RefusedAfter, RefusedFrom, StatementRefused, uncommented, lines, LinesLead, FirstRefused, LeadsOnce, LeadingIsNotRefused, RefusedOnce, OneSource, OneText, OneFault, MeantHasNoFault}
use Rattle.sfi_text.specs.declared.fault.TextFault.{TextFault}
use Rattle.sfi_text.specs.declared.cause.TextCause.TheVariants as cause
use Rattle.sfi_text.proofs.Taking.{takes_unique, blank_takes_none, One, either_one, token_at, token_one}
use Rattle.sfi_text.proofs.NameTables.{keyword_unique, keyword_named}
use Rattle.sfi_text.proofs.Lines.{states_one, states_not, refused_one}

-- Labels.

begins_unique : (text n m r q : List ℕ) → BeginsWithLabel text n r → BeginsWithLabel text m q → (n ≡ m) × (r ≡ q)
begins_unique text n m r q (a, begins, colon) (b, other, more) =
    let same = takes_unique begins.0 other.0 in
    (same.0, (takes_unique (subst (λ t. Takes t (codes ":") r) same.1 colon) more).1)

labels_one : (name : List ℕ) (old a b : SoFar) → Labels name old a → Labels name old b → a ≡ b
labels_one name old a b (x, is, short, free, a_is) (y, other, _, _, b_is) =
    a_is ∙ ap (λ c. record old { begun = Some (with_label name c) }) (same_Some x y (sym is ∙ other)) ∙ sym b_is

labels_not : (name : List ℕ) (old new : SoFar) (e : TextCause) → Labels name old new → RefusesLabel name old e → ⊥
labels_not name old new e (x, is, short, free, new_is) (inl r) = none-some x (sym r.0 ∙ is)
labels_not name old new e (x, is, short, free, new_is) (inr (y, other, inl long)) = omega (arith, short, long.0)
labels_not name old new e (x, is, short, free, new_is) (inr (y, other, inr taken)) =
    taken.1 (subst (λ c. IsFree name c) (same_Some x y (sym is ∙ other)) free)

refuses_one : (name : List ℕ) (old : SoFar) (e f : TextCause) → RefusesLabel name old e → RefusesLabel name old f → e ≡ f
refuses_one name old e f (inl r) (inl s) = r.1 ∙ sym s.1
refuses_one name old e f (inl r) (inr (y, is, s)) = absurd (none-some y (sym r.0 ∙ is))
refuses_one name old e f (inr (x, is, r)) (inl s) = absurd (none-some x (sym s.0 ∙ is))
refuses_one name old e f (inr (x, is, inl r)) (inr (y, other, inl s)) = r.1 ∙ sym s.1
refuses_one name old e f (inr (x, is, inl r)) (inr (y, other, inr s)) = absurd (omega (arith, r.0, s.0))
refuses_one name old e f (inr (x, is, inr r)) (inr (y, other, inl s)) = absurd (omega (arith, r.0, s.0))
refuses_one name old e f (inr (x, is, inr r)) (inr (y, other, inr s)) = r.2 ∙ sym s.2

-- two labels at the front of one text are one, and lead to one source so far
same_label : (text n m r q : List ℕ) (old a b : SoFar) → BeginsWithLabel text n r → Labels n old a → BeginsWithLabel text m q → Labels m old b → (a ≡ b) × (r ≡ q)
same_label text n m r q old a b begins labels other labelled =
    let same = begins_unique text n m r q begins other in
    (labels_one m old a b (subst (λ t. Labels t old a) same.0 labels) labelled, same.1)

-- no label at the front of the text leads on
abbrev Stops : SoFar → List ℕ → Type 0
Stops s text = (name after : List ℕ) (next : SoFar) → BeginsWithLabel text name after → Labels name s next → ⊥

refused_stops : (s : SoFar) (text name after : List ℕ) (e : TextCause) → BeginsWithLabel text name after → RefusesLabel name s e → Stops s text
refused_stops s text name after e begins refuses other beyond next begun labels =
    labels_not name s next e (subst (λ n. Labels n s next) (begins_unique text other name beyond after begun begins).0 labels) refuses

-- labels that lead as far as they can lead to one source so far, and to one rest
ways_one : (ns ms : List (List ℕ)) (old a b : SoFar) (text r q : List ℕ) → LabelsLead ns old text a r → Stops a r → LabelsLead ms old text b q → Stops b q
    → (a ≡ b) × (r ≡ q)
ways_one [] [] old a b text r q (is, at) stops (other, beyond) stopped = (is ∙ sym other, at ∙ sym beyond)
ways_one [] (m ∷ ms) old a b text r q (is, at) stops (next, after, begins, labels, more) stopped =
    absurd (subst₂ Stops is at stops m after next begins labels)
ways_one (n ∷ ns) [] old a b text r q (next, after, begins, labels, more) stops (is, at) stopped =
    absurd (subst₂ Stops is at stopped n after next begins labels)
ways_one (n ∷ ns) (m ∷ ms) old a b text r q (next, after, begins, labels, more) stops (other, beyond, begun, labelled, further) stopped =
    let same = same_label text n m after beyond old next other begins labels begun labelled in
    ways_one ns ms other a b beyond r q (subst₂ (λ s t. LabelsLead ns s t a r) same.0 same.1 more) stops further stopped

passes_one : (old a b : SoFar) (text r q : List ℕ) → PassesLabels old text a r → PassesLabels old text b q → (a ≡ b) × (r ≡ q)
passes_one old a b text r q p o =
    ways_one p.names o.names old a b text r q p.lead (λ name after _ begins _. p.all name after begins) o.lead (λ name after _ begins _. o.all name after begins)

-- and none of them is refused
passes_not : (old a : SoFar) (text r : List ℕ) (e : TextCause) → PassesLabels old text a r → LabelRefused old text e → ⊥
passes_not old a text r e p (ms, b, q, name, after, lead, begins, refuses) =
    let same = ways_one p.names ms old a b text r q p.lead (λ name after _ begins _. p.all name after begins) lead (refused_stops b q name after e begins refuses) in
    subst HasNoLabel same.1 p.all name after begins

-- the first that is refused is so for one cause
label_refused_one : (old : SoFar) (text : List ℕ) → One (LabelRefused old text)
label_refused_one old text e f (ns, a, r, n, after, lead, begins, refuses) (ms, b, q, m, then, led, begun, refused) =
    let same = ways_one ns ms old a b text r q lead (refused_stops a r n after e begins refuses) led (refused_stops b q m then f begun refused) in
    let name = begins_unique q n m after then (subst (λ t. BeginsWithLabel t n after) same.1 begins) begun in
    refuses_one m b e f (subst₂ (λ l s. RefusesLabel l s e) name.0 same.0 refuses) refused

-- Statements.

goes_one : (line : ℕ) (s : StatedWithin) (old a b : SoFar) → GoesOn line s old a → GoesOn line s old b → a ≡ b
goes_one line s old a b (x, is, fits, a_is) (y, other, _, b_is) =
    a_is ∙ ap (λ c. record old { begun = Some (with_stated line s c) }) (same_Some x y (sym is ∙ other)) ∙ sym b_is

does_one : (line : ℕ) (s : Stated) (old a b : SoFar) → Does line s old a → Does line s old b → a ≡ b
does_one line (format value) old a b h k = h ∙ sym k
does_one line (sandbox size) old a b h k = h ∙ sym k
does_one line (within what) old a b h k = goes_one line what old a b h k

goes_fits : (line : ℕ) (s : StatedWithin) (old new : SoFar) → GoesOn line s old new → HasNoRoom (within s) old → ⊥
goes_fits line s old new (x, is, fits, new_is) (y, other, none) =
    none (subst (λ c. Fits s c) (same_Some x y (sym is ∙ other)) fits)

does_fit : (line : ℕ) (s : Stated) (old new : SoFar) → Does line s old new → HasNoRoom s old → ⊥
does_fit line (format value) old new h none = absurd none
does_fit line (sandbox size) old new h none = absurd none
does_fit line (within what) old new h none = goes_fits line what old new h none

after_one : (k : Keyword) (line : ℕ) (old a b : SoFar) (text : List ℕ) → LeadsAfter k line old text a → LeadsAfter k line old text b → a ≡ b
after_one k line old a b text (known, stands, once, (s, states, does)) (_, _, _, (t, stated_too, did)) =
    does_one line t old a b (subst (λ x. Does line x old a) (states_one k text s t states stated_too) does) did

after_not : (k : Keyword) (line : ℕ) (old new : SoFar) (text : List ℕ) (e : TextCause) → LeadsAfter k line old text new → RefusedAfter k old text e → ⊥
after_not k line old new text e (known, stands, once, (s, states, does)) (inl r) = r.0 known
after_not k line old new text e (known, stands, once, (s, states, does)) (inr (_, inl r)) = r.0 stands
after_not k line old new text e (known, stands, once, (s, states, does)) (inr (_, inr (_, inl twice))) = once twice.0
after_not k line old new text e (known, stands, once, (s, states, does)) (inr (_, inr (_, inr (_, inl refused)))) = states_not k text s e states refused
after_not k line old new text e (known, stands, once, (s, states, does)) (inr (_, inr (_, inr (_, inr ((t, stated_too, none), is))))) =
    does_fit line t old new (subst (λ x. Does line x old new) (states_one k text s t states stated_too) does) none

stated_refused_one : (k : Keyword) (old : SoFar) (text : List ℕ) → One (λ e. RefusedWith k text e ⊎ (PassesLimit k old text × (e ≡ cause.Limit)))
stated_refused_one k old text =
    either_one _ _ (refused_one k text) (λ e f h g. h.1 ∙ sym g.1) (λ e f refused limit. states_not k text limit.0.0 e limit.0.1 refused)

operands_refused_one : (k : Keyword) (old : SoFar) (text : List ℕ) → One (OperandsRefused k old text)
operands_refused_one k old text =
    either_one _ _ (λ e f h g. h.1 ∙ sym g.1) (λ e f h g. stated_refused_one k old text e f h.1 g.1) (λ e f twice once. once.0 twice.0)

known_refused_one : (k : Keyword) (old : SoFar) (text : List ℕ) → One (KnownRefused k old text)
known_refused_one k old text =
    either_one _ _ (λ e f h g. h.1 ∙ sym g.1) (λ e f h g. operands_refused_one k old text e f h.1 g.1) (λ e f never may. never.0 may.0)

after_refused_one : (k : Keyword) (old : SoFar) (text : List ℕ) → One (RefusedAfter k old text)
after_refused_one k old text =
    either_one _ _ (λ e f h g. h.1 ∙ sym g.1) (λ e f h g. known_refused_one k old text e f h.1 g.1) (λ e f never known. never.0 known.0)

name_refused_one : (token : List ℕ) → One (NameRefused token)
name_refused_one token = either_one _ _ (λ e f h g. h.1 ∙ sym g.1) (λ e f h g. h.1 ∙ sym g.1) (λ e f no_name unknown. no_name.0 unknown.0.0)

name_not : (token : List ℕ) (k : Keyword) (e : TextCause) → keyword_name k ≡ token → NameRefused token e → ⊥
name_not token k e is (inl r) = r.0 (subst IsName is (keyword_named k))
name_not token k e is (inr r) = r.0.1 k is

keyword_refused_one : (s : SoFar) (token rest : List ℕ) → One (λ e. (k : Keyword) × (keyword_name k ≡ token) × RefusedAfter k s rest e)
keyword_refused_one s token rest e f (k, is, r) (j, other, t) =
    after_refused_one k s rest e f r (subst (λ q. RefusedAfter q s rest f) (keyword_unique j k (other ∙ sym is)) t)

from_one : (s : SoFar) (token rest : List ℕ) → One (RefusedFrom s token rest)
from_one s token rest = either_one _ _ (name_refused_one token) (keyword_refused_one s token rest) (λ e f h g. name_not token g.0 e g.1 h)

statement_refused_one : (s : SoFar) (text : List ℕ) → One (StatementRefused s text)
statement_refused_one s text = token_one text (RefusedFrom s) (from_one s)

rest_one : (line : ℕ) (old a b : SoFar) (text : List ℕ) → RestLeads line old text a → RestLeads line old text b → a ≡ b
rest_one line old a b text (inl h) (inl k) = h.1 ∙ sym k.1
rest_one line old a b text (inl h) (inr (k, rest, takes, leads)) = absurd (blank_takes_none text (keyword_name k) rest h.0 takes)
rest_one line old a b text (inr (k, rest, takes, leads)) (inl h) = absurd (blank_takes_none text (keyword_name k) rest h.0 takes)
rest_one line old a b text (inr (k, rest, takes, leads)) (inr (j, more, taken, led)) =
    let same = takes_unique taken takes in
    after_one k line old a b rest leads (subst (λ q. LeadsAfter q line old rest b) (keyword_unique j k same.0) (subst (λ t. LeadsAfter j line old t b) same.1 led))

rest_not : (line : ℕ) (old new : SoFar) (text : List ℕ) (e : TextCause) → RestLeads line old text new → StatementRefused old text e → ⊥
rest_not line old new text e (inl h) (inl r) = r.0.something h.0
rest_not line old new text e (inl h) (inr (token, rest, takes, r)) = blank_takes_none text token rest h.0 takes
rest_not line old new text e (inr (k, rest, takes, leads)) r =
    elim (token_at text (RefusedFrom old) (keyword_name k) rest e takes r) [
      | inl name ↦ name_not (keyword_name k) k e refl name
      | inr (j, is, refused) ↦ after_not k line old new rest e leads (subst (λ q. RefusedAfter q old rest e) (keyword_unique j k is) refused)
    ]

-- Lines.

pub leads_once : LeadsOnce
leads_once line old a b text (next, rest, passes, leads) (other, more, passed, led) =
    let same = passes_one old next other text rest more passes passed in
    rest_one line other a b more (subst₂ (λ s t. RestLeads line s t a) same.0 same.1 leads) led

pub leading_is_not_refused : LeadingIsNotRefused
leading_is_not_refused line old new text e (next, rest, passes, leads) (inl refused) = passes_not old next text rest e passes refused
leading_is_not_refused line old new text e (next, rest, passes, leads) (inr (other, more, passed, refused)) =
    let same = passes_one old next other text rest more passes passed in
    rest_not line other new more e (subst₂ (λ s t. RestLeads line s t new) same.0 same.1 leads) refused

rest_refused_one : (old : SoFar) (text : List ℕ) → One (λ e. (next : SoFar) × (rest : List ℕ) × PassesLabels old text next rest × StatementRefused next rest e)
rest_refused_one old text e f (next, rest, passes, refused) (other, more, passed, refused_too) =
    let same = passes_one old next other text rest more passes passed in
    statement_refused_one other more e f (subst₂ (λ s t. StatementRefused s t e) same.0 same.1 refused) refused_too

pub refused_once : RefusedOnce
refused_once old text =
    either_one _ _ (label_refused_one old text) (rest_refused_one old text) (λ e f label rest. passes_not old rest.0 text rest.1 e rest.2 label)

lines_once : (line : ℕ) (old a b : SoFar) (texts : List (List ℕ)) → LinesLead line old texts a → LinesLead line old texts b → a ≡ b
lines_once line old a b [] h k = h ∙ sym k
lines_once line old a b (text ∷ texts) (next, leads, more) (other, led, further) =
    lines_once (line + 1) other a b texts (subst (λ s. LinesLead (line + 1) s texts a) (leads_once line old next other (uncommented text) leads led) more) further

lines_not : (line : ℕ) (old new : SoFar) (texts : List (List ℕ)) (f : TextFault) → LinesLead line old texts new → FirstRefused line old texts f → ⊥
lines_not line old new [] f h refused = refused
lines_not line old new (text ∷ texts) f (next, leads, more) (inl refused) = leading_is_not_refused line old next (uncommented text) f.cause leads refused.0
lines_not line old new (text ∷ texts) f (next, leads, more) (inr (other, led, refused)) =
    lines_not (line + 1) other new texts f (subst (λ s. LinesLead (line + 1) s texts new) (leads_once line old next other (uncommented text) leads led) more) refused

first_once : (line : ℕ) (old : SoFar) (texts : List (List ℕ)) (f g : TextFault) → FirstRefused line old texts f → FirstRefused line old texts g → f ≡ g
first_once line old [] f g h k = absurd h
first_once line old (text ∷ texts) f g (inl r) (inl s) =
    let cause = refused_once old (uncommented text) f.cause g.cause r.0 s.0 in
    let number = r.1 ∙ sym s.1 in
    λ i. record { line = number i; cause = cause i }
first_once line old (text ∷ texts) f g (inl r) (inr (next, leads, s)) = absurd (leading_is_not_refused line old next (uncommented text) f.cause leads r.0)
first_once line old (text ∷ texts) f g (inr (next, leads, r)) (inl s) = absurd (leading_is_not_refused line old next (uncommented text) g.cause leads s.0)
first_once line old (text ∷ texts) f g (inr (next, leads, r)) (inr (other, led, s)) =
    first_once (line + 1) other texts f g (subst (λ x. FirstRefused (line + 1) x texts f) (leads_once line old next other (uncommented text) leads led) r) s

-- Texts.

pub one_source : OneSource
one_source text p q (a, x, leads, is, p_is) (b, y, led, other, q_is) =
    p_is ∙ ap sandboxes (lines_once 1 nothing a b (lines text) leads.lead led.lead) ∙ sym q_is

pub one_text : OneText
one_text text p q s t (a, x, leads, is, p_is, s_is) (b, y, led, other, q_is, t_is) =
    let same = lines_once 1 nothing a b (lines text) leads.lead led.lead in
    (p_is ∙ ap sandboxes same ∙ sym q_is, s_is ∙ ap tables same ∙ sym t_is)

pub meant_has_no_fault : MeantHasNoFault
meant_has_no_fault text p f (a, x, leads, is, p_is) (inl long) = omega (arith, leads.within, long.0)
meant_has_no_fault text p f (a, x, leads, is, p_is) (inr (inl (short, refused))) = lines_not 1 nothing a (lines text) f leads.lead refused
meant_has_no_fault text p f (a, x, leads, is, p_is) (inr (inr (b, led, none, f_is))) =
    none-some x (sym none ∙ ap (λ s. s.begun) (lines_once 1 nothing b a (lines text) led.lead leads.lead) ∙ is)

pub one_fault : OneFault
one_fault text f g (inl long) (inl too) = long.1 ∙ sym too.1
one_fault text f g (inl long) (inr (inl (short, refused))) = absurd (omega (arith, long.0, short))
one_fault text f g (inl long) (inr (inr (b, led, none, g_is))) = absurd (omega (arith, long.0, led.within))
one_fault text f g (inr (inl (short, refused))) (inl long) = absurd (omega (arith, long.0, short))
one_fault text f g (inr (inl (short, refused))) (inr (inl (_, refused_too))) = first_once 1 nothing (lines text) f g refused refused_too
one_fault text f g (inr (inl (short, refused))) (inr (inr (b, led, none, g_is))) = absurd (lines_not 1 nothing b (lines text) f led.lead refused)
one_fault text f g (inr (inr (a, leads, none, f_is))) (inl long) = absurd (omega (arith, long.0, leads.within))
one_fault text f g (inr (inr (a, leads, none, f_is))) (inr (inl (short, refused))) = absurd (lines_not 1 nothing a (lines text) g leads.lead refused)
one_fault text f g (inr (inr (a, leads, none, f_is))) (inr (inr (b, led, empty, g_is))) = f_is ∙ sym g_is
