-- A source, one sandbox after another: the places of its names, and its one fault.
use Rattle.sfi_rewrite.proofs.Prelude.{◌≡◌, ℕ, ◌+◌, ◌<◌, List, [], ◌∷◌, ◌++◌, length, map, take, get_or, refl, sym, ap, ◌∙◌, subst, arith, Some, None, Option, slice_get, slice_index, All, AllZip, length-map, take_more, All-map, slice_get-get_or, Named, Code, Unknown, Sandbox, IsSandbox, IsThere, named, PlacedName, IsPlacedName, HasLabel, placed_of, AreLabels, has_words, zero, suc, ◌≤◌, inl, inr, ◌⊎◌, Bool, true, false, cases_order, get_or-take, length-take-le, slice_get_within, get_or_from_slice_get, Format, Item, BundleSlot, RewriteFault, Placement, IsPermitted, AreFaultless, HasItemFault, HasFault, IsItemFault, IsFaultless, IsSourceFault, IsRewritten, IsSandboxFault, item_names_withheld, is_ecall, is_stack_write, true≢false, Err, All-cons, All-head, All-tail, IsSource, IsPlacedPart, IsPlaced, AreOf, format_of, UnlessMemory, AnswersFault, Memory, AllZip-long}
use Rattle.sfi_rewrite.specs.declared.fault.RewriteFault.TheVariants.{ReservedRegister, TooLarge, StackWrite, Jump, Ecall}
use Rattle.sfi_rewrite.proofs.WordLaid.{first_fits}
use Rattle.sfi_source.specs.Source as text
use Rattle.sfi_rewrite.proofs.OneByOne.{unless_weaker}

-- ==== What names name, by the places of the labels.

pub zip_push : {A B : Type 0} (R : A → B → Type 0) (xs : List A) (ys : List B) (x : A) (y : B) → AllZip R xs ys → R x y → AllZip R (xs ++ x ∷ []) (ys ++ y ∷ [])
zip_push R [] [] x y z r = (r, tt)
zip_push R [] (b ∷ ys) x y z r = absurd z
zip_push R (a ∷ xs) [] x y z r = absurd z
zip_push R (a ∷ xs) (b ∷ ys) x y z r = (z.0, zip_push R xs ys x y z.1 r)

-- what a look-up among a sandbox's names found
pub asked : (s : Sandbox) (names : List (List ℕ × Named)) (count k : ℕ) (found : Option Named)
    → names ≡ s.names → count ≡ length names → k < count → found ≡ slice_get (map (λ e. e.1) names) k
    → (k < length (named s)) × (found ≡ slice_get (named s) k)
asked s names count k found same counted within is =
    (omega (arith, counted, within, ap length same, length-map s.names (λ e. e.1)), is ∙ ap (λ l. slice_get (map (λ e. e.1) l) k) same)

-- what a look-up found stands at its place
pub name_at : (names : List Named) (k : ℕ) (n : Named) (found : Option Named) → k < length names → found ≡ slice_get names k → found ≡ Some n → n ≡ get_or names k n
name_at names k n found h e f = let g : Some n ≡ Some (get_or names k n) = sym f ∙ e ∙ slice_get-get_or names k n h in cc

pub none_at : (names : List Named) (k : ℕ) (found : Option Named) → k < length names → found ≡ slice_get names k → found ≡ None → ⊥
none_at names k found h e f = let g : None ≡ Some (get_or names k Unknown) = sym f ∙ e ∙ slice_get-get_or names k Unknown h in cc

pub each_there : (s : Sandbox) → IsSandbox s → All (IsThere s) (named s)
each_there s h = All-map (IsThere s) (λ e. e.1) s.names (λ k d l. (h.names k d l).there)

pub there_at : (s : Sandbox) (k : ℕ) (n : Named) → IsSandbox s → k < length (named s) → n ≡ get_or (named s) k n → IsThere s n
there_at s k n h l e = subst (λ (m : Named). IsThere s m) (sym e) (each_there s h k n l)

has_label : (s : Sandbox) (labels : List ℕ) (n : Named) → AreLabels (has_words s.format) s.format s.items labels → IsThere s n → HasLabel (length labels) n
has_label s labels (Code k) a t = let c = a.count in omega arith
has_label s labels _ a t = tt

pub label_at : (s : Sandbox) (labels : List ℕ) (k : ℕ) (n : Named) (found : Option Named)
    → IsSandbox s → AreLabels (has_words s.format) s.format s.items labels → k < length (named s) → found ≡ slice_get (named s) k → found ≡ Some n → HasLabel (length labels) n
label_at s labels k n found h a l e f = has_label s labels n a (there_at s k n h l (name_at (named s) k n found l e f))

is_placed_name : (s : Sandbox) (labels : List ℕ) (n : Named) → AreLabels (has_words s.format) s.format s.items labels → IsThere s n → IsPlacedName s.format s.items n (placed_of labels n)
is_placed_name s labels (Code k) a t = (slice_index labels k, a.each k t, refl)
is_placed_name s labels _ a t = refl

-- the placed names with another one at the end
pub names_push : (s : Sandbox) (labels : List ℕ) (k : ℕ) (n : Named) (found : Option Named) (names now : List PlacedName) (name : PlacedName)
    → IsSandbox s → AreLabels (has_words s.format) s.format s.items labels → k < length (named s) → found ≡ slice_get (named s) k → found ≡ Some n
    → AllZip (IsPlacedName s.format s.items) (take k (named s)) names → name ≡ placed_of labels n → now ≡ names ++ name ∷ []
    → AllZip (IsPlacedName s.format s.items) (take (k + 1) (named s)) now
names_push s labels k n found names now name h a l e f z g w =
    let at = name_at (named s) k n found l e f in
    let more : take (k + 1) (named s) ≡ take k (named s) ++ n ∷ [] = take_more (named s) k n l ∙ ap (λ m. take k (named s) ++ m ∷ []) (sym at) in
    let is : IsPlacedName s.format s.items n name = subst (λ (m : PlacedName). IsPlacedName s.format s.items n m) (sym g) (is_placed_name s labels n a (there_at s k n h l at)) in
    rw (more, w) (zip_push (IsPlacedName s.format s.items) (take k (named s)) names n name z is)

-- ==== A source has one fault, or is rewritten.

-- ---- items

-- what is permitted has none of the faults of an instruction
not_permitted : (format : Format) (x : Item) (f : RewriteFault) → HasItemFault format x f → IsPermitted format x → ⊥
not_permitted format x (ReservedRegister line) h p = true≢false (sym h.0 ∙ p.operands)
not_permitted format x (Ecall line) h p = true≢false (sym h.1 ∙ p.no_ecall)
not_permitted format x (StackWrite line) h p = true≢false (sym h.2 ∙ p.no_stack_write)
not_permitted format x (Jump line) h p = true≢false (sym h.3 ∙ p.no_barred_jump)
not_permitted format x (TooLarge number) h p = h
not_permitted format x Memory h p = h

-- which fault the item on the line has, where it has one, by the first three tests
abbrev first_fault : (names calls writes : Bool) → ℕ → RewriteFault
first_fault true calls writes line = ReservedRegister line
first_fault false true writes line = Ecall line
first_fault false false true line = StackWrite line
first_fault false false false line = Jump line

is_first : (format : Format) (x : Item) (f : RewriteFault) → HasItemFault format x f → f ≡ first_fault (item_names_withheld format x.body) (is_ecall x.body) (is_stack_write format x.body) x.line
is_first format x (ReservedRegister line) h = rw (h.0) (ap ReservedRegister h.1)
is_first format x (Ecall line) h = rw (h.0, h.1) (ap Ecall h.2)
is_first format x (StackWrite line) h = rw (h.0, h.1, h.2) (ap StackWrite h.3)
is_first format x (Jump line) h = rw (h.0, h.1, h.2) (ap Jump h.4)
is_first format x (TooLarge number) h = absurd h
is_first format x Memory h = absurd h

-- the item has a fault of an instruction, or is permitted and too large
abbrev IsEither : Format → ℕ → Item → RewriteFault → Type 0
IsEither format sandbox x f = HasItemFault format x f ⊎ (IsPermitted format x × (f ≡ TooLarge sandbox))

either_one_way : (format : Format) (sandbox : ℕ) (x : Item) (f g : RewriteFault) → IsEither format sandbox x f → IsEither format sandbox x g → f ≡ g
either_one_way format sandbox x f g (inl h) (inl k) = is_first format x f h ∙ sym (is_first format x g k)
either_one_way format sandbox x f g (inl h) (inr k) = absurd (not_permitted format x f h k.0)
either_one_way format sandbox x f g (inr h) (inl k) = absurd (not_permitted format x g k h.0)
either_one_way format sandbox x f g (inr h) (inr k) = h.1 ∙ sym k.1

either : (w : Bool) (format : Format) (sandbox : ℕ) (items : List Item) (k : ℕ) (x : Item) (f : RewriteFault) → HasFault w format sandbox items k x f → IsEither format sandbox x f
either w format sandbox items k x (TooLarge number) h = inr (h.0, ap TooLarge h.2)
either w format sandbox items k x _ h = inl h

-- none of the first j has a fault, where these have none
large : (w : Bool) (format : Format) (sandbox : ℕ) (items : List Item) (j k : ℕ) (x : Item) (slots : List BundleSlot) → AreFaultless w format j items slots → k < j → HasFault w format sandbox items k x (TooLarge sandbox) → ⊥
large w format sandbox items j k x slots g low h =
    let fits = first_fits w format items (k + 1) j h.1.0 slots (omega arith) h.1.1 g.laid in
    let over = h.1.2 in
    let room = g.fits in
    omega arith

none : (w : Bool) (format : Format) (sandbox : ℕ) (items : List Item) (j k : ℕ) (x : Item) (slots : List BundleSlot) (f : RewriteFault)
    → AreFaultless w format j items slots → k < j → IsPermitted format x → HasFault w format sandbox items k x f → IsEither format sandbox x f → ⊥
none w format sandbox items j k x slots f g low p has (inl h) = not_permitted format x f h p
none w format sandbox items j k x slots f g low p has (inr h) = large w format sandbox items j k x slots g low (subst (λ e. HasFault w format sandbox items k x e) h.1 has)

item_before : (w : Bool) (format : Format) (sandbox : ℕ) (items : List Item) (f : RewriteFault) (j : ℕ) (slots : List BundleSlot)
    → (a : IsItemFault w format sandbox items f) → AreFaultless w format j items slots → a.index < j → j ≤ length items → ⊥
item_before w format sandbox items f j slots a g low high =
    let l = length-take-le j items high in
    let at = get_or-take j items a.index a.item low ∙ get_or_from_slice_get items a.index a.item a.item a.at in
    none w format sandbox items j a.index a.item slots f g low (subst (IsPermitted format) at (g.permitted a.index a.item (omega arith))) a.has (either w format sandbox items a.index a.item f a.has)

-- two elements of a list are one, where neither can stand before the other
one_place : {A : Type 0} (xs : List A) (i j : ℕ) (x y : A) → slice_get xs i ≡ Some x → slice_get xs j ≡ Some y
    → (i < j → j ≤ length xs → ⊥) → (j < i → i ≤ length xs → ⊥) → (i ≡ j) × (x ≡ y)
one_place xs i j x y at there before after =
    elim (cases_order i j) [
      | inl e ↦ (e, let same : Some x ≡ Some y = sym at ∙ ap (λ (k : ℕ). slice_get xs k) e ∙ there in cc)
      | inr other ↦
          let m = slice_get_within xs i x at in
          let n = slice_get_within xs j y there in
          elim other [ inl low ↦ absurd (before low (omega arith)) | inr low ↦ absurd (after low (omega arith)) ]
    ]

item_fault_one_way : (w : Bool) (format : Format) (sandbox : ℕ) (items : List Item) (f g : RewriteFault) → IsItemFault w format sandbox items f → IsItemFault w format sandbox items g → f ≡ g
item_fault_one_way w format sandbox items f g a b =
    let one =
    one_place items a.index b.index a.item b.item a.at b.at (item_before w format sandbox items f b.index b.before a b.faultless) (item_before w format sandbox items g a.index a.before b a.faultless) in
    either_one_way format sandbox b.item f g
    (subst (λ (x : Item). IsEither format sandbox x f) one.1 (either w format sandbox items a.index a.item f a.has)) (either w format sandbox items b.index b.item g b.has)

faultless_has_none : (sandbox : ℕ) (s : Sandbox) (f : RewriteFault) → IsFaultless s → IsSandboxFault sandbox s f → ⊥
faultless_has_none sandbox s f l a =
    item_before (has_words s.format) s.format sandbox s.items f (length s.items) l.0 a l.1 (slice_get_within s.items a.index a.item a.at) (omega arith)

-- ---- sandboxes

sandbox_before : (source : List Sandbox) (f : RewriteFault) (j : ℕ) → (a : IsSourceFault source f) → All IsFaultless (take j source) → a.number < j → j ≤ length source → ⊥
sandbox_before source f j a g low high =
    let l = length-take-le j source high in
    let at = get_or-take j source a.number a.sandbox low ∙ get_or_from_slice_get source a.number a.sandbox a.sandbox a.at in
    faultless_has_none a.number a.sandbox f (subst (λ (s : Sandbox). IsFaultless s) at (g a.number a.sandbox (omega arith))) a.has

pub source_fault_one_way : (source : List Sandbox) (f g : RewriteFault) → IsSourceFault source f → IsSourceFault source g → f ≡ g
source_fault_one_way source f g a b =
    let one = one_place source a.number b.number a.sandbox b.sandbox a.at b.at (sandbox_before source f b.number a b.before) (sandbox_before source g a.number b a.before) in
    item_fault_one_way (has_words b.sandbox.format) b.sandbox.format b.number b.sandbox.items f g
    (subst (λ (n : ℕ). IsSandboxFault n b.sandbox f) one.0 (subst (λ (v : Sandbox). IsSandboxFault a.number v f) one.1 a.has)) b.has

-- ---- a source that is rewritten

pub each_faultless : (source : List Sandbox) (placed : List Placement) → AllZip IsRewritten source placed → All IsFaultless source
each_faultless [] placed z k d h = absurd (omega arith)
each_faultless (s ∷ source) [] z k d h = absurd z
each_faultless (s ∷ source) (p ∷ placed) z zero d h = z.0.faultless
each_faultless (s ∷ source) (p ∷ placed) z (suc k) d h = each_faultless source placed z.1 k d (omega arith)

pub rewritten_has_none : (source : List Sandbox) (placed : List Placement) (f : RewriteFault) → AllZip IsRewritten source placed → IsSourceFault source f → ⊥
rewritten_has_none source placed f z a =
    let at = get_or_from_slice_get source a.number a.sandbox a.sandbox a.at in
    let l = slice_get_within source a.number a.sandbox a.at in
    faultless_has_none a.number a.sandbox f (subst (λ (s : Sandbox). IsFaultless s) at (each_faultless source placed z a.number a.sandbox l)) a.has

-- ==== One sandbox after another.

pub faulty : (source : List Sandbox) (k n : ℕ) (s : Sandbox) (placed : List Placement) (f : RewriteFault)
    → k < length source → s ≡ get_or source k s → AllZip IsRewritten (take k source) placed → n ≡ k → IsSandboxFault n s f → IsSourceFault source f
faulty source k n s placed f h e z m is = record {
  number = k;
  sandbox = s;
  at = slice_get-get_or source k s h ∙ ap Some (sym e);
  before = each_faultless (take k source) placed z;
  has = subst (λ (i : ℕ). IsSandboxFault i s f) m is;
}

pub source_fault : (source : List Sandbox) (k n : ℕ) (s : Sandbox) (placed : List Placement) (f : RewriteFault)
    → k < length source → s ≡ get_or source k s → AllZip IsRewritten (take k source) placed → n ≡ k
    → UnlessMemory (IsSandboxFault n s) f → UnlessMemory (IsSourceFault source) f
source_fault source k n s placed f h e z m is = unless_weaker (IsSandboxFault n s) (IsSourceFault source) f (λ g. faulty source k n s placed g h e z m) is

pub parts_push : (source : List Sandbox) (k : ℕ) (s : Sandbox) (placed now : List Placement) (p : Placement)
    → k < length source → s ≡ get_or source k s → AllZip IsRewritten (take k source) placed → IsRewritten s p → now ≡ placed ++ p ∷ [] → AllZip IsRewritten (take (k + 1) source) now
parts_push source k s placed now p h e z r w =
    let more : take (k + 1) source ≡ take k source ++ s ∷ [] = take_more source k s h ∙ ap (λ v. take k source ++ v ∷ []) (sym e) in
    rw (more, w) (zip_push IsRewritten (take k source) placed s p z r)

-- what is placed has the formats of the source
all_placed : (f : Format) (source : List Sandbox) (placed : List Placement) → text.AreOf f source → AllZip IsRewritten source placed → AreOf f placed
all_placed f [] [] h z = λ k d l. absurd (omega (arith, l))
all_placed f [] (p ∷ placed) h z = absurd z
all_placed f (s ∷ rest) [] h z = absurd z
all_placed f (s ∷ rest) (p ∷ placed) h z =
    All-cons (λ q. q.format ≡ f) p placed (z.0.placement.format ∙ All-head (λ t. t.format ≡ f) s rest h) (all_placed f rest placed (All-tail (λ t. t.format ≡ f) s rest h) z.1)

-- sandboxes of one format have the first one's
all_one : (f : Format) (placed : List Placement) → AreOf f placed → AreOf (format_of placed) placed
all_one f [] h = λ k d l. absurd (omega (arith, l))
all_one f (p ∷ rest) h = subst (λ (g : Format). AreOf g (p ∷ rest)) (sym (All-head (λ q. q.format ≡ f) p rest h)) h

pub is_placed : (source : List Sandbox) (placed : List Placement) → IsSource source → AllZip IsRewritten source placed → All IsPlacedPart placed → IsPlaced placed
is_placed source placed s z a =
    let l = AllZip-long IsRewritten source placed z in
    let one = s.at_least_one in
    record { at_least_one = omega arith; each = a; one_format = all_one (text.format_of source) placed (all_placed (text.format_of source) source placed s.one_format z) }

pub fault_answered : (source : List Sandbox) (f e : RewriteFault) → UnlessMemory (IsSourceFault source) e → IsSourceFault source f → AnswersFault f (Err e)
fault_answered source f Memory h g = inr refl
fault_answered source f other h g = inl (ap Err (source_fault_one_way source other f h g))
