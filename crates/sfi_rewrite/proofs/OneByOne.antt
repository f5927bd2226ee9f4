-- One item after another.
use Rattle.sfi_rewrite.proofs.Prelude.{◌≡◌, ℕ, ◌+◌, ◌*◌, ◌%◌, ◌<◌, ◌≤◌, List, [], ◌∷◌, ◌++◌, length, take, drop, get_or, replicate, refl, sym, ap, ◌∙◌, subst, arith, Some, append_assoc, inl, inr, length-append, Bool, slice_get, take_more, drop_more, get_or_append_left, get_or_push, All-push, cases_lt, slice_get-get_or, Format, built_code_most, Item, IsBody, BundleSlot, RewriteFault, size_of, c_nop, IsExpansion, is_call, next_bundle, FillsGap, IsNext, IsLabelAt, HasNext, HaveBodies, AreLabels, largest, IsPermitted, AreFaultless, IsTooLarge, HasItemFault, UnlessMemory, IsItemFault, Sfi1, Sfi2, Sfiw, Sfis, TooLarge, Memory, All, AreLaid, AreTooLarge, false}
use Rattle.sfi_rewrite.proofs.Sizes.{size_of-append, size_even, size_nops, IsOne, expansion_one}
use Rattle.sfi_rewrite.proofs.Laid.{laid_push}

-- ---- the room of a format

pub some_room : (f : Format) → 0 ≤ built_code_most f
some_room f = omega arith

pub most_of_any : (f : Format) (n : ℕ) → n ≤ built_code_most f → n ≤ largest
most_of_any Sfi1 n h = omega arith
most_of_any Sfi2 n h = omega arith
most_of_any Sfiw n h = omega arith
most_of_any Sfis n h = omega arith

-- a code region ends at a bundle's end
pub whole_bundles : (f : Format) → built_code_most f % 16 ≡ 0
whole_bundles Sfi1 = refl
whole_bundles Sfi2 = refl
whole_bundles Sfiw = refl
whole_bundles Sfis = refl

-- ---- one item

pub even_size : (size : ℕ) (slots : List BundleSlot) → size ≡ size_of slots → size % 2 ≡ 0
even_size size slots e = let h = size_even slots in omega arith

pub is_some : (size : ℕ) (slots : List BundleSlot) → size ≡ size_of slots → IsOne slots → 0 < size
is_some size slots e o = let h = o.some in omega arith

pub is_few : (size : ℕ) (slots : List BundleSlot) → size ≡ size_of slots → IsOne slots → size ≤ 16
is_few size slots e o = let h = o.few in omega arith

pub item_one : (f : Format) (x : Item) (expanded slots : List BundleSlot) → IsExpansion f x expanded → slots ≡ expanded → IsOne slots
item_one f x expanded slots e s = rw s (expansion_one f x expanded e)

pub next_is : (f : Format) (x : Item) (code expanded slots : List BundleSlot) (call : Bool) (end size nops : ℕ)
    → IsExpansion f x expanded → slots ≡ expanded → end ≡ size_of code → call ≡ is_call x.body → size ≡ size_of slots
    → FillsGap end x.labelled call size nops → IsNext f (size_of code) x nops expanded
next_is f x code expanded slots call end size nops e s n c z g =
    record {
      expansion = e;
      gap =
          subst (λ (m : ℕ). FillsGap m x.labelled (is_call x.body) (size_of expanded) nops) n
          (subst (λ (b : Bool). FillsGap end x.labelled b (size_of expanded) nops) c
          (subst (λ (m : ℕ). FillsGap end x.labelled call m nops) (z ∙ ap size_of s) g));
    }

pub too_large : (f : Format) (sandbox : ℕ) (x : Item) (code expanded slots : List BundleSlot) (call : Bool) (end size nops : ℕ)
    → IsExpansion f x expanded → slots ≡ expanded → end ≡ size_of code → call ≡ is_call x.body → size ≡ size_of slots
    → FillsGap end x.labelled call size nops → built_code_most f ≤ end + 2 * nops → IsTooLarge f sandbox (size_of code) x (TooLarge sandbox)
too_large f sandbox x code expanded slots call end size nops e s n c z g h =
    record { nops = nops; expanded = expanded; next = next_is f x code expanded slots call end size nops e s n c z g; beyond = omega arith; fault_is = refl }

pub fits_bundle : (code then : List BundleSlot) (labelled call : Bool) (end size nops : ℕ)
    → end ≡ size_of code → FillsGap end labelled call size nops → then ≡ code ++ replicate nops c_nop → size_of then % 16 + size ≤ 16
fits_bundle code then labelled call end size nops e g t =
    let a = ap size_of t ∙ size_of-append code (replicate nops c_nop) in
    let b = size_nops nops in
    let h = g.stands.in_bundle in
    omega arith

pub fits_code : (f : Format) (code then : List BundleSlot) (labelled call : Bool) (end size nops : ℕ)
    → end ≡ size_of code → FillsGap end labelled call size nops → then ≡ code ++ replicate nops c_nop → end + 2 * nops < built_code_most f → size_of then + size ≤ built_code_most f
fits_code f code then labelled call end size nops e g t l =
    let most = whole_bundles f in
    let a = ap size_of t ∙ size_of-append code (replicate nops c_nop) in
    let b = size_nops nops in
    let h = g.stands.in_bundle in
    omega arith

pub has_next : (f : Format) (x : Item) (code then now expanded slots : List BundleSlot) (call : Bool) (end size nops : ℕ)
    → IsExpansion f x expanded → slots ≡ expanded → end ≡ size_of code → call ≡ is_call x.body → size ≡ size_of slots
    → FillsGap end x.labelled call size nops → then ≡ code ++ replicate nops c_nop → now ≡ then ++ slots → end + 2 * nops < built_code_most f → HasNext f code x now
has_next f x code then now expanded slots call end size nops e s n c z g t w l =
    let within = fits_code f code then x.labelled call end size nops n g t l in
    let a = ap size_of w ∙ size_of-append then slots in
    record {
      nops = nops;
      expanded = expanded;
      next = next_is f x code expanded slots call end size nops e s n c z g;
      slots = w ∙ ap (λ v. v ++ slots) t ∙ append_assoc code (replicate nops c_nop) slots ∙ ap (λ v. code ++ (replicate nops c_nop ++ v)) s;
      fits = omega arith;
    }

-- ---- all items

-- the item that stands at the place
pub record StandsAt (items : List Item) (k : ℕ) (x : Item) : Type 0 where
  pub more : take (k + 1) items ≡ take k items ++ x ∷ []
  pub from : drop k items ≡ x ∷ drop (k + 1) items
  pub at : slice_get items k ≡ Some x

pub stands_at : (items : List Item) (k : ℕ) (x : Item) → k < length items → x ≡ get_or items k x → StandsAt items k x
stands_at items k x h e = record {
  more = take_more items k x h ∙ ap (λ y. take k items ++ y ∷ []) (sym e);
  from = drop_more items k x h ∙ ap (λ y. y ∷ drop (k + 1) items) (sym e);
  at = slice_get-get_or items k x h ∙ ap Some (sym e);
}

pub next_permitted : (f : Format) (items : List Item) (k : ℕ) (x : Item) → StandsAt items k x → All (IsPermitted f) (take k items) → IsPermitted f x → All (IsPermitted f) (take (k + 1) items)
next_permitted f items k x at p is = subst (All (IsPermitted f)) (sym at.more) (All-push (IsPermitted f) (take k items) x p is)

laid_more : (f : Format) (items : List Item) (k : ℕ) (x : Item) (code : List BundleSlot) (nops : ℕ) (expanded : List BundleSlot)
    → StandsAt items k x → AreLaid f (take k items) code → IsNext f (size_of code) x nops expanded → AreLaid f (take (k + 1) items) (code ++ (replicate nops c_nop ++ expanded))
laid_more f items k x code nops expanded at l n =
    subst (λ v. AreLaid f v (code ++ (replicate nops c_nop ++ expanded))) (sym at.more)
    (laid_push f 0 (take k items) code x nops expanded l (subst (λ (m : ℕ). IsNext f m x nops expanded) (let z : size_of code ≡ 0 + size_of code = omega arith in z) n))

pub one_more : (f : Format) (items : List Item) (k : ℕ) (x : Item) (code now : List BundleSlot)
    → k < length items → x ≡ get_or items k x → AreFaultless false f k items code → IsPermitted f x → HasNext f code x now → AreFaultless false f (k + 1) items now
one_more f items k x code now h e l p n =
    let at = stands_at items k x h e in
    rw (n.slots) (record {
      permitted = next_permitted f items k x at l.permitted p;
      laid = laid_more f items k x code n.nops n.expanded at l.laid n.next;
      fits = subst (λ v. size_of v ≤ built_code_most f) n.slots n.fits;
    })

pub label_here : (f : Format) (items : List Item) (k end place : ℕ) (code : List BundleSlot) → AreFaultless false f k items code → end ≡ size_of code → place ≡ next_bundle end → IsLabelAt false f items k place
label_here f items k end place code l e p = (code, l.laid, p ∙ ap next_bundle e)

-- ---- labels

-- the labels with another one at the end
pub label_push : (w : Bool) (f : Format) (items : List Item) (labels now : List ℕ) (n place : ℕ)
    → length labels ≡ n → ((k : ℕ) → k < n → IsLabelAt w f items k (get_or labels k 0)) → IsLabelAt w f items n place → now ≡ labels ++ place ∷ []
    → (k : ℕ) → k < n + 1 → IsLabelAt w f items k (get_or now k 0)
label_push w f items labels now n place l each here e k h =
    let P : ℕ → ℕ → Type 0 = λ i p. IsLabelAt w f items i p in
    elim (cases_lt k n) [
      | inl b ↦
          let same : get_or now k 0 ≡ get_or labels k 0 =
          ap (λ v. get_or v k 0) e ∙ get_or_append_left labels (place ∷ []) 0 k (let z : k < length labels = omega arith in z) in
          subst (P k) (sym same) (each k b)
      | inr b ↦
          let at : n ≡ k = omega arith in
          let same : get_or now n 0 ≡ place = ap (λ v. get_or v n 0) e ∙ get_or_push labels place 0 n l in
          subst (λ (m : ℕ). P m (get_or now m 0)) at (subst (P n) (sym same) here)
    ]

pub label_count : (labels now : List ℕ) (n place : ℕ) → length labels ≡ n → now ≡ labels ++ place ∷ [] → length now ≡ n + 1
label_count labels now n place l e = ap length e ∙ length-append labels (place ∷ []) ∙ (omega arith)

pub all_labels : (w : Bool) (f : Format) (items : List Item) (labels now : List ℕ) (n place : ℕ)
    → length items ≤ n → n ≤ length items → length labels ≡ n → ((k : ℕ) → k < n → IsLabelAt w f items k (get_or labels k 0)) → IsLabelAt w f items n place → now ≡ labels ++ place ∷ []
    → AreLabels w f items now
all_labels w f items labels now n place low high l each here e =
    record {
      count = label_count labels now n place l e ∙ (omega arith);
      each = λ k h. label_push w f items labels now n place l each here e k (omega arith);
    }

-- ---- faults

pub unless_weaker : (P Q : RewriteFault → Type 0) (f : RewriteFault) → ((g : RewriteFault) → P g → Q g) → UnlessMemory P f → UnlessMemory Q f
unless_weaker P Q Memory h p = tt
unless_weaker P Q f h p = h f p

pub unless_is : (P : RewriteFault → Type 0) (f : RewriteFault) → P f → UnlessMemory P f
unless_is P Memory h = tt
unless_is P f h = h

-- a fault that the item there has wherever it stands
pub item_fault : (w : Bool) (format : Format) (sandbox : ℕ) (items : List Item) (k : ℕ) (x : Item) (code : List BundleSlot) (f : RewriteFault)
    → StandsAt items k x → AreFaultless w format k items code → HasItemFault format x f → IsItemFault w format sandbox items f
item_fault w format sandbox items k x code Memory at l h = absurd h
item_fault w format sandbox items k x code (TooLarge number) at l h = absurd h
item_fault w format sandbox items k x code _ at l h = record { index = k; item = x; at = at.at; before = code; faultless = l; has = h }

-- or there is no room for it
pub room_fault : (w : Bool) (format : Format) (sandbox : ℕ) (items : List Item) (k : ℕ) (x : Item) (code : List BundleSlot)
    → StandsAt items k x → AreFaultless w format k items code → IsPermitted format x → AreTooLarge w format (k + 1) items → IsItemFault w format sandbox items (TooLarge sandbox)
room_fault w format sandbox items k x code at l p large = record { index = k; item = x; at = at.at; before = code; faultless = l; has = (p, large, refl) }

pub place_fault : (format : Format) (sandbox : ℕ) (items : List Item) (k : ℕ) (x : Item) (code : List BundleSlot) (f : RewriteFault)
    → StandsAt items k x → AreFaultless false format k items code → IsPermitted format x → IsTooLarge format sandbox (size_of code) x f → IsItemFault false format sandbox items f
place_fault format sandbox items k x code f at l p t =
    let more = replicate t.nops c_nop ++ t.expanded in
    let size = size_of-append code more in
    let parts = size_of-append (replicate t.nops c_nop) t.expanded in
    let nops = size_nops t.nops in
    let some = (expansion_one format x t.expanded t.next.expansion).some in
    let beyond = t.beyond in
    subst (λ g. IsItemFault false format sandbox items g) (sym t.fault_is)
    (room_fault false format sandbox items k x code at l p (code ++ more, laid_more format items k x code t.nops t.expanded at l.laid t.next, omega arith))

pub body_at : (items : List Item) (k : ℕ) (x : Item) → k < length items → x ≡ get_or items k x → HaveBodies items → (count : ℕ) × IsBody count x.body
body_at items k x h e b = subst (λ (y : Item). (count : ℕ) × IsBody count y.body) (sym e) (b k x h)
