-- A sandbox has one placement.
use Rattle.sfi_rewrite.proofs.Prelude.{◌≡◌, ℕ, ◌<◌, ◌≤◌, List, [], ◌∷◌, ◌++◌, take, replicate, refl, sym, ap, ◌∙◌, subst, arith, append-nil, drop, AllZip, Format, Item, Named, Code, Sandbox, named, BundleSlot, PlacedName, size_of, slots_of, c_nop, Placement, IsPlacedName, HasEndLabel, FillsEnd, AreBundles, IsPlacement, IsRewritten, SourceGate, FillsEndIn, Bool, true, false, IsLabelAt, label_place, has_words}
use Rattle.sfi_rewrite.specs.declared.placed.PlacedName.TheVariants as placed
use Rattle.sfi_rewrite.proofs.Sizes.{size_of-append, size_at_least, begins_with}
use Rattle.sfi_rewrite.proofs.WordLaid.{laid_in_one_way}

-- ---- bundles

record SameParts (xs ys us vs : List BundleSlot) : Type 0 where
  front : xs ≡ ys
  back : us ≡ vs

none : (slots : List BundleSlot) → size_of slots ≡ 0 → slots ≡ []
none [] e = refl
none (x ∷ slots) e = absurd (let h = size_at_least x slots in omega arith)

same_front : (xs ys us vs : List BundleSlot) → xs ++ us ≡ ys ++ vs → size_of xs ≡ size_of ys → SameParts xs ys us vs
same_front xs ys us vs e s =
    let r = begins_with ys xs us vs e (omega arith) in
    let size = ap size_of r.front ∙ size_of-append xs r.more in
    let empty = none r.more (omega arith) in
    record { front = sym (r.front ∙ ap (λ v. xs ++ v) empty ∙ append-nil xs); back = r.back ∙ ap (λ v. v ++ vs) empty }

-- what is known of the first of some bundles
record IsFirstBundle (b : List BundleSlot) (rest : List (List BundleSlot)) : Type 0 where
  some : 0 < size_of b
  few : size_of b ≤ 16

first_bundle : (b : List BundleSlot) (rest : List (List BundleSlot)) → AreBundles (b ∷ rest) → IsFirstBundle b rest
first_bundle b [] h = record { some = h.0; few = h.1 }
first_bundle b (c ∷ rest) h = let s = h.0 in record { some = omega arith; few = omega arith }

rest_bundles : (b : List BundleSlot) (rest : List (List BundleSlot)) → AreBundles (b ∷ rest) → AreBundles rest
rest_bundles b [] h = tt
rest_bundles b (c ∷ rest) h = h.1

-- one bundle has fewer slots than two
not_alone : (b c d : List BundleSlot) (cs : List (List BundleSlot)) → AreBundles (b ∷ []) → AreBundles (c ∷ d ∷ cs) → slots_of (b ∷ []) ≡ slots_of (c ∷ d ∷ cs) → ⊥
not_alone b c d cs h g e =
    let a = ap size_of e in
    let x = size_of-append b [] in
    let y = size_of-append c (d ++ slots_of cs) in
    let z = size_of-append d (slots_of cs) in
    let n : size_of [] ≡ 0 = refl in
    let i = (first_bundle b [] h).few in
    let j = (first_bundle d cs (rest_bundles c (d ∷ cs) g)).some in
    let k = g.0 in
    omega arith

first_size : (b c : List BundleSlot) (bs cs : List (List BundleSlot)) → AreBundles (b ∷ bs) → AreBundles (c ∷ cs) → slots_of (b ∷ bs) ≡ slots_of (c ∷ cs) → size_of b ≡ size_of c
first_size b c [] [] h g e =
    let a = ap size_of e in
    let x = size_of-append b [] in
    let y = size_of-append c [] in
    omega arith
first_size b c [] (d ∷ cs) h g e = absurd (not_alone b c d cs h g e)
first_size b c (d ∷ bs) [] h g e = absurd (not_alone c b d bs g h (sym e))
first_size b c (d ∷ bs) (f ∷ cs) h g e = h.0 ∙ sym g.0

-- bundles have slots
not_none : (b : List BundleSlot) (bs : List (List BundleSlot)) → AreBundles (b ∷ bs) → [] ≡ slots_of (b ∷ bs) → ⊥
not_none b bs h e =
    let a = ap size_of e in
    let x = size_of-append b (slots_of bs) in
    let n : size_of [] ≡ 0 = refl in
    let j = (first_bundle b bs h).some in
    omega arith

bundles_one_way : (bs cs : List (List BundleSlot)) → AreBundles bs → AreBundles cs → slots_of bs ≡ slots_of cs → bs ≡ cs
bundles_one_way [] [] h g e = refl
bundles_one_way [] (c ∷ cs) h g e = absurd (not_none c cs g e)
bundles_one_way (b ∷ bs) [] h g e = absurd (not_none b bs h (sym e))
bundles_one_way (b ∷ bs) (c ∷ cs) h g e =
    let same = same_front b c (slots_of bs) (slots_of cs) e (first_size b c bs cs h g e) in
    let rest = bundles_one_way bs cs (rest_bundles b bs h) (rest_bundles c cs g) same.back in
    ap (λ v. v ∷ bs) same.front ∙ ap (λ v. c ∷ v) rest

-- ---- names

label_one_way : (w : Bool) (f : Format) (items : List Item) (k a b : ℕ) → IsLabelAt w f items k a → IsLabelAt w f items k b → a ≡ b
label_one_way w f items k a b x y = x.2 ∙ ap (λ v. label_place w (size_of v)) (laid_in_one_way w f (take k items) (drop k items) x.0 y.0 x.1 y.1) ∙ sym y.2

name_one_way : (f : Format) (items : List Item) (n : Named) (a b : PlacedName) → IsPlacedName f items n a → IsPlacedName f items n b → a ≡ b
name_one_way f items (Code k) a b x y = x.2 ∙ ap placed.Code (label_one_way (has_words f) f items k x.0 y.0 x.1 y.1) ∙ sym y.2
name_one_way f items _ a b x y = x ∙ sym y

names_one_way : (f : Format) (items : List Item) (names : List Named) (a b : List PlacedName) → AllZip (IsPlacedName f items) names a → AllZip (IsPlacedName f items) names b → a ≡ b
names_one_way f items [] [] [] x y = refl
names_one_way f items [] [] (n ∷ b) x y = absurd y
names_one_way f items [] (m ∷ a) b x y = absurd x
names_one_way f items (i ∷ names) [] b x y = absurd x
names_one_way f items (i ∷ names) (m ∷ a) [] x y = absurd y
names_one_way f items (i ∷ names) (m ∷ a) (n ∷ b) x y =
    ap (λ v. v ∷ a) (name_one_way f items i m n x.0 y.0) ∙ ap (λ v. n ∷ v) (names_one_way f items names a b x.1 y.1)

-- ---- placements

end_one_way : (end : ℕ) (labelled : Type 0) (m n : ℕ) → FillsEnd end labelled m → FillsEnd end labelled n → m ≡ n
end_one_way end labelled m n a b =
    let up = a.fewest n b.enough in
    let down = b.fewest m a.enough in
    omega arith

end_in_one_way : (w : Bool) (end : ℕ) (labelled : Type 0) (m n : ℕ) → FillsEndIn w end labelled m → FillsEndIn w end labelled n → m ≡ n
end_in_one_way false end labelled m n a b = end_one_way end labelled m n a b
end_in_one_way true end labelled m n a b = a ∙ sym b

same_placement : (p q : Placement) → p.format ≡ q.format → p.movable ≡ q.movable → p.data_size ≡ q.data_size → p.gates ≡ q.gates → p.names ≡ q.names → p.bytes ≡ q.bytes → p.bundles ≡ q.bundles → p ≡ q
same_placement p q f m d g n b c =
    ap (λ (v : Format). record p { format = v }) f
    ∙ ap (λ (v : Bool). record p { format = q.format; movable = v }) m
    ∙ ap (λ (v : ℕ). record p { format = q.format; movable = q.movable; data_size = v }) d
    ∙ ap (λ (v : List SourceGate). record p { format = q.format; movable = q.movable; data_size = q.data_size; gates = v }) g
    ∙ ap (λ (v : List PlacedName). record p { format = q.format; movable = q.movable; data_size = q.data_size; gates = q.gates; names = v }) n
    ∙ ap (λ (v : List ℕ). record p { format = q.format; movable = q.movable; data_size = q.data_size; gates = q.gates; names = q.names; bytes = v }) b
    ∙ ap (λ (v : List (List BundleSlot)). record q { bundles = v }) c

pub placement_one_way : (s : Sandbox) (p q : Placement) → IsPlacement s p → IsPlacement s q → p ≡ q
placement_one_way s p q a b =
    let slots = laid_in_one_way (has_words s.format) s.format s.items [] a.slots b.slots a.laid b.laid in
    let nops = end_in_one_way (has_words s.format) (size_of b.slots) (HasEndLabel s) a.nops b.nops (subst (λ (v : List BundleSlot). FillsEndIn (has_words s.format) (size_of v) (HasEndLabel s) a.nops) slots a.end) b.end in
    let code = a.code ∙ ap (λ (v : List BundleSlot). v ++ replicate a.nops c_nop) slots ∙ ap (λ (n : ℕ). b.slots ++ replicate n c_nop) nops ∙ sym b.code in
    same_placement p q (a.format ∙ sym b.format) (a.movable ∙ sym b.movable) (a.data_size ∙ sym b.data_size) (a.gates ∙ sym b.gates) (names_one_way s.format s.items (named s) p.names q.names a.names b.names)
    (a.bytes ∙ sym b.bytes) (bundles_one_way p.bundles q.bundles a.bundles b.bundles code)

pub rewriting_one_way : (source : List Sandbox) (a b : List Placement) → AllZip IsRewritten source a → AllZip IsRewritten source b → a ≡ b
rewriting_one_way [] [] [] x y = refl
rewriting_one_way [] [] (q ∷ b) x y = absurd y
rewriting_one_way [] (p ∷ a) b x y = absurd x
rewriting_one_way (s ∷ source) [] b x y = absurd x
rewriting_one_way (s ∷ source) (p ∷ a) [] x y = absurd y
rewriting_one_way (s ∷ source) (p ∷ a) (q ∷ b) x y =
    ap (λ v. v ∷ a) (placement_one_way s p q x.0.placement y.0.placement) ∙ ap (λ v. q ∷ v) (rewriting_one_way source a b x.1 y.1)
