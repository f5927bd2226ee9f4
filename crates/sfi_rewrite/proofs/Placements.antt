-- The placement of a sandbox keeps what the type of what is placed keeps.
use Rattle.sfi_rewrite.proofs.Prelude.{◌≡◌, ℕ, suc, ◌+◌, ◌-◌, ◌*◌, ◌/◌, ◌%◌, ◌<◌, ◌≤◌, List, [], ◌∷◌, ◌++◌, length, take, drop, get_or, replicate, refl, sym, ap, ◌∙◌, subst, arith, Some, None, Option, inl, inr, slice_get, IsTrue, ◌↔◌, Contains, Bool, false, IsPermitted, append-nil, MatchOption, All, AllZip, cases_lt, take_all, length-map, All-nil, All-cons, All-append, All-head, All-tail, All-contains_itself, slice_get-get_or, Ecall, Format, built_code_most, Item, Plain, Named, Gate, Code, Data, Unknown, Sandbox, IsSandbox, IsThere, IsBody, named, BundleSlot, PlacedName, size_of, slots_of, c_nop, next_bundle, AreLaid, AreLaidFrom, IsLabelAt, Placement, IsPlacedName, HasEndLabel, FillsEnd, AreBundles, IsPlacedThere, IsPlacedGate, IsPlacedPart, HaveBodies, HasEnd, IsRewritten, SourceGate, AreLaidIn, FillsEndIn, drop-cons, AreFaultless, true, MatchBool, AreWhole}
use Rattle.sfi_formats.specs.Formats.{unit, has_words}
use Rattle.sfi_rewrite.specs.Placed.{AreWholeIn, AreOfItems}
use Rattle.sfi_rewrite.specs.words.Expansion as words
use Rattle.sfi_rewrite.proofs.WordLaid.{first_fits, all_first, laid_aligned, all_fit, laid_of, word_unit, bundle_unit}
use Rattle.sfi_rewrite.proofs.KnownSlots.{words_known, IsKnown, nops_known, laid_known}
use Rattle.std.proofs.lemmas.Slice.Zip.{AllZip-left, AllZip-long}
use Rattle.std.specs.Option.{IsSomeAnd}
use Rattle.sfi_rewrite.proofs.Sizes.{size_of-append, size_nops, size_even}
use Rattle.sfi_rewrite.proofs.Laid.{laid_split, laid_one_way, size_next, laid_whole}
use Rattle.sfi_rewrite.proofs.OneByOne.{whole_bundles}
use Rattle.sfi_rewrite.proofs.Sources.{each_there}

-- ---- bodies

bodies_in : (s : Sandbox) → IsSandbox s → All (λ x. IsBody (length s.names) x.body) s.items
bodies_in s h k d l = (h.items k (get_or s.items k d) (slice_get-get_or s.items k d l)).body

pub have_bodies : (s : Sandbox) (items : List Item) → items ≡ s.items → IsSandbox s → HaveBodies items
have_bodies s items e h = rw e (λ k d l. (length s.names, bodies_in s h k d l))

-- ---- labels

-- an item for a place past the end
other_item : Item
other_item = record { line = 0; labelled = false; rvc = false; body = Plain Ecall }

record IsWithin (unit_size place size : ℕ) : Type 0 where
  aligned : place % unit_size ≡ 0
  below : place ≤ size

end_size : (slots code : List BundleSlot) (nops : ℕ) → code ≡ slots ++ replicate nops c_nop → size_of code ≡ size_of slots + 2 * nops
end_size slots code nops e =
    let a = ap size_of e ∙ size_of-append slots (replicate nops c_nop) in
    let b = size_nops nops in
    omega arith

-- a label before an item stands no later than its expansion
label_before : (f : Format) (items : List Item) (slots before : List BundleSlot) (k place : ℕ)
    → AreLaid f items slots → k < length items → IsTrue (get_or items k other_item).labelled → AreLaid f (take k items) before → place ≡ next_bundle (size_of before) → IsWithin 16 place (size_of slots)
label_before f items slots before k place l h labelled b p =
    let s = laid_split f 0 items k slots l in
    let same : s.front ≡ before = laid_one_way f 0 (take k items) s.front before s.before b in
    let x = get_or items k other_item in
    let after : AreLaidFrom f (0 + size_of s.front) (x ∷ drop (suc k) items) s.back = subst (λ (v : List Item). AreLaidFrom f (0 + size_of s.front) v s.back) (drop-cons items k other_item h) s.after in
    let starts = after.3.gap.stands.at_label labelled in
    let all = ap size_of s.both ∙ size_of-append s.front s.back in
    let rest = ap size_of after.4 ∙ size_next after.0 after.1 after.2 in
    let g = ap size_of same in
    record { aligned = omega arith; below = omega arith }

-- a label at the end of the code stands no later than the fill
label_last : (f : Format) (s : Sandbox) (slots before : List BundleSlot) (nops k place : ℕ)
    → AreLaid f s.items slots → length s.items ≤ k → k ≤ length s.items → Contains (named s) (Code k) → FillsEnd (size_of slots) (HasEndLabel s) nops
    → AreLaid f (take k s.items) before → place ≡ next_bundle (size_of before) → IsWithin 16 place (size_of slots + 2 * nops)
label_last f s slots before nops k place l low high c end b p =
    let at : k ≡ length s.items = omega arith in
    let has : HasEndLabel s = subst (λ (m : ℕ). Contains (named s) (Code m)) at c in
    let e : take k s.items ≡ s.items = take_all k s.items low in
    let same : before ≡ slots = laid_one_way f 0 s.items before slots (subst (λ (v : List Item). AreLaid f v before) e b) l in
    let z = ap size_of same in
    let enough = end.enough has in
    record { aligned = omega arith; below = omega arith }

label_within : (f : Format) (s : Sandbox) (slots : List BundleSlot) (nops k place : ℕ)
    → IsSandbox s → AreLaid f s.items slots → FillsEnd (size_of slots) (HasEndLabel s) nops → k ≤ length s.items → Contains (named s) (Code k) → IsLabelAt false f s.items k place
    → IsWithin 16 place (size_of slots + 2 * nops)
label_within f s slots nops k place h l end high c at =
    elim (cases_lt k (length s.items)) [
      | inl low ↦
          let x = get_or s.items k other_item in
          let is = h.items k x (slice_get-get_or s.items k other_item low) in
          let w = label_before f s.items slots at.0 k place l low (is.labelled.1 c) at.1 at.2 in
          let b = w.below in
          record { aligned = w.aligned; below = omega arith }
      | inr low ↦ label_last f s slots at.0 nops k place l low high c end at.1 at.2
    ]

label_in_within : (f : Format) (s : Sandbox) (slots : List BundleSlot) (nops k place : ℕ)
    → IsSandbox s → AreLaidIn (has_words f) f s.items [] slots → FillsEndIn (has_words f) (size_of slots) (HasEndLabel s) nops → k ≤ length s.items → Contains (named s) (Code k) → IsLabelAt (has_words f) f s.items k place
    → IsWithin (unit f) place (size_of slots + 2 * nops)
label_in_within f s slots nops k place h l end high c at = by (has_words f) refl l end at
  where
    by : (w : Bool) → has_words f ≡ w → AreLaidIn w f s.items [] slots → FillsEndIn w (size_of slots) (HasEndLabel s) nops → IsLabelAt w f s.items k place → IsWithin (unit f) place (size_of slots + 2 * nops)
    by false e l end at = subst (λ (u : ℕ). IsWithin u place (size_of slots + 2 * nops)) (sym (bundle_unit f e)) (label_within f s slots nops k place h l end high c at)
    by true e l end at =
        let aligned = laid_aligned f (drop k s.items) (take k s.items) at.0 at.1 in
        let few = first_fits true f s.items k (length s.items) at.0 slots high at.1 (all_first true f s.items slots l) in
        let is = at.2 in
        let within : IsWithin 4 place (size_of slots + 2 * nops) = record { aligned = omega arith; below = omega arith } in
        subst (λ (u : ℕ). IsWithin u place (size_of slots + 2 * nops)) (sym (word_unit f e)) within

-- ---- names

record IsNameOf (s : Sandbox) (n : Named) : Type 0 where
  there : IsThere s n
  contained : Contains (named s) n

name_there : (s : Sandbox) (p : Placement) (slots : List BundleSlot) (nops : ℕ) (n : Named) (m : PlacedName)
    → IsSandbox s → AreLaidIn (has_words s.format) s.format s.items [] slots → FillsEndIn (has_words s.format) (size_of slots) (HasEndLabel s) nops → slots_of p.bundles ≡ slots ++ replicate nops c_nop
    → p.format ≡ s.format → p.gates ≡ s.gates → p.bytes ≡ s.bytes → IsNameOf s n → IsPlacedName s.format s.items n m → IsPlacedThere p m
name_there s p slots nops (Gate k) m h l end e f g b n is = rw is (rw g (n.there))
name_there s p slots nops (Code k) m h l end e f g b n is =
    let w = label_in_within s.format s slots nops k is.0 h l end n.there n.contained is.1 in
    let z = end_size slots (slots_of p.bundles) nops e in
    let low = w.below in
    let aligned : is.0 % unit p.format ≡ 0 = subst (λ (g : Format). is.0 % unit g ≡ 0) (sym f) w.aligned in
    let below : is.0 ≤ size_of (slots_of p.bundles) = omega arith in
    subst (λ v. IsPlacedThere p v) (sym is.2) (aligned, below)
name_there s p slots nops (Data offset) m h l end e f g b n is = rw is (rw b (n.there))
name_there s p slots nops Unknown m h l end e f g b n is = rw is tt

zip_all : {A B : Type 0} (R : A → B → Type 0) (P : A → Type 0) (Q : B → Type 0) (xs : List A) (ys : List B)
    → AllZip R xs ys → All P xs → ((x : A) (y : B) → P x → R x y → Q y) → All Q ys
zip_all R P Q [] [] z h f = All-nil Q
zip_all R P Q [] (y ∷ ys) z h f = absurd z
zip_all R P Q (x ∷ xs) [] z h f = absurd z
zip_all R P Q (x ∷ xs) (y ∷ ys) z h f = All-cons Q y ys (f x y (All-head P x xs h) z.0) (zip_all R P Q xs ys z.1 (All-tail P x xs h) f)

names_of : (s : Sandbox) → IsSandbox s → All (IsNameOf s) (named s)
names_of s h k d l = record { there = each_there s h k d l; contained = All-contains_itself (named s) k d l }

-- what stands at a place of the one list stands for what stands there in the other
some_at : {B : Type 0} (o : Option B) (P : B → Type 0) → IsSomeAnd o P → (y : B) × (o ≡ Some y) × P y
some_at None P h = absurd h
some_at (Some y) P h = (y, refl, h)

zip_at : {A B : Type 0} (R : A → B → Type 0) (xs : List A) (ys : List B) (k : ℕ) (x : A) → AllZip R xs ys → slice_get xs k ≡ Some x → (y : B) × (slice_get ys k ≡ Some y) × R x y
zip_at {A} {B} R xs ys k x z e =
    some_at (slice_get ys k) (R x) (subst (λ (o : Option A). MatchOption o (Unit {0}) (λ v. IsSomeAnd (slice_get ys k) (R v))) e (AllZip-left R xs ys z k))

gate_in : (s : Sandbox) (p : Placement) (k : ℕ) (g : SourceGate) → IsSandbox s → AllZip (IsPlacedName s.format s.items) (named s) p.names → slice_get s.gates k ≡ Some g → IsPlacedGate p k g
gate_in s p k g h z e =
    let is = h.gates k g e in
    let at = zip_at (IsPlacedName s.format s.items) (named s) p.names g.name (Gate k) z is.name in
    record { service = is.service; name = at.1 ∙ ap Some at.2 }

-- ---- all of it

end_fits : (format : Format) (slots : List BundleSlot) (labelled : Type 0) (nops : ℕ) → FillsEnd (size_of slots) labelled nops → size_of slots ≤ built_code_most format → size_of slots + 2 * nops ≤ built_code_most format
end_fits format slots labelled nops f h =
    let even = size_even slots in
    let most = whole_bundles format in
    let n = (next_bundle (size_of slots) - size_of slots) / 2 in
    let few = f.fewest n (λ _. omega arith) in
    omega arith

end_in_fits : (w : Bool) (format : Format) (slots : List BundleSlot) (labelled : Type 0) (nops : ℕ) → FillsEndIn w (size_of slots) labelled nops → size_of slots ≤ built_code_most format → size_of slots + 2 * nops ≤ built_code_most format
end_in_fits false format slots labelled nops f h = end_fits format slots labelled nops f h
end_in_fits true format slots labelled nops f h = let z : nops ≡ 0 = f in omega arith

known_in : (w : Bool) (format : Format) (count : ℕ) (items : List Item) (slots : List BundleSlot) → AreLaidIn w format items [] slots → All (λ x. IsBody count x.body) items → All (IsKnown count) slots
known_in false format count items slots l b = laid_known format count 0 items slots l b
known_in true format count items slots l b = words_known format count items [] slots l b

whole_in : (format : Format) (count : ℕ) (items : List Item) (slots : List BundleSlot) (labelled : Type 0) (nops : ℕ) (bundles : List (List BundleSlot))
    → AreLaidIn (has_words format) format items [] slots → All (IsPermitted format) items → All (λ x. IsBody count x.body) items → FillsEndIn (has_words format) (size_of slots) labelled nops
    → slots_of bundles ≡ slots ++ replicate nops c_nop → AreBundles bundles → AreWholeIn format count bundles
whole_in format count items slots labelled nops bundles l p b end code are = by (has_words format) l end
  where
    by : (w : Bool) → AreLaidIn w format items [] slots → FillsEndIn w (size_of slots) labelled nops → MatchBool w (AreOfItems format count (slots_of bundles)) (All (AreWhole format count) bundles)
    by false l end = laid_whole format count items slots nops bundles l p b code are
    by true l end =
        let none : slots ++ replicate nops c_nop ≡ slots = ap (λ n. slots ++ replicate n c_nop) end ∙ append-nil slots in
        record { items = items; permitted = p; bodies = b; laid = subst (λ v. words.AreLaid format items v) (sym (code ∙ none)) l }

pub placed_part : (s : Sandbox) (p : Placement) → IsSandbox s → IsRewritten s p → IsPlacedPart p
placed_part s p h r =
    let is = r.placement in
    let all = all_fit (has_words s.format) s.format s.items is.slots is.laid r.faultless in
    let fits = all.fits in
    let size = end_size is.slots (slots_of p.bundles) is.nops is.code in
    let end = end_in_fits (has_words s.format) s.format is.slots (HasEndLabel s) is.nops is.end fits in
    let count = length p.names in
    let counted : length s.names ≡ count = sym (AllZip-long (IsPlacedName s.format s.items) (named s) p.names is.names ∙ length-map s.names (λ e. e.1)) in
    let bodies : All (λ x. IsBody count x.body) s.items = subst (λ (n : ℕ). All (λ x. IsBody n x.body) s.items) counted (bodies_in s h) in
    let known : All (IsKnown count) (slots_of p.bundles) =
    rw (is.code) (All-append (IsKnown count) is.slots (replicate is.nops c_nop) (known_in (has_words s.format) s.format count s.items is.slots is.laid bodies) (nops_known count is.nops)) in
    record {
      data_size = rw (is.data_size) h.data_size;
      gate_count = rw (is.gates) h.gate_count;
      gates = λ k g e. gate_in s p k g h is.names (ap (λ v. slice_get v k) (sym is.gates) ∙ e);
      names =
          zip_all (IsPlacedName s.format s.items) (IsNameOf s) (IsPlacedThere p) (named s) p.names is.names (names_of s h)
          (λ n m of at. name_there s p is.slots is.nops n m h is.laid is.end is.code is.format is.gates is.bytes of at);
      byte_count = rw (is.bytes, is.data_size) h.byte_count;
      bytes = rw (is.bytes) h.bytes;
      bundles = is.bundles;
      whole =
          subst (λ (f : Format). AreWholeIn f count p.bundles) (sym is.format)
          (whole_in s.format count s.items is.slots (HasEndLabel s) is.nops p.bundles is.laid all.permitted bodies is.end is.code is.bundles);
      fits = subst (λ (f : Format). size_of (slots_of p.bundles) ≤ built_code_most f) (sym is.format) (omega arith);
      encodes = λ k d l. (known k d l).encodes;
      names_known = λ k d l. (known k d l).name;
    }

pub placed_parts : (source : List Sandbox) (placed : List Placement) → All IsSandbox source → AllZip IsRewritten source placed → All IsPlacedPart placed
placed_parts source placed right z = zip_all IsRewritten IsSandbox IsPlacedPart source placed z right (λ s p h r. placed_part s p h r)

-- ---- from the fields of what was placed

end_in : (w : Bool) (end : ℕ) (labelled has : Type 0) (nops : ℕ) → labelled ↔ has → FillsEndIn w end labelled nops → FillsEndIn w end has nops
end_in false end labelled has nops both f = record { enough = λ h. f.enough (both.1 h); fewest = λ n g. f.fewest n (λ t. g (both.0 t)) }
end_in true end labelled has nops both f = f

pub end_of : (s : Sandbox) (f : Format) (labelled : Bool) (slots all : List BundleSlot) → IsTrue labelled ↔ HasEndLabel s → HasEnd f slots (IsTrue labelled) all → HasEnd f slots (HasEndLabel s) all
end_of s f labelled slots all both end = record { nops = end.nops; end = end_in (has_words f) (size_of slots) (IsTrue labelled) (HasEndLabel s) end.nops both end.end; slots = end.slots }

-- what the program made of the sandbox
pub record IsMade (s : Sandbox) (p : Placement) : Type 0 where
  pub slots : List BundleSlot
  pub faultless : AreFaultless (has_words s.format) s.format (length s.items) s.items slots
  pub all : List BundleSlot
  pub end : HasEnd s.format slots (HasEndLabel s) all
  pub code : slots_of p.bundles ≡ all
  pub format : p.format ≡ s.format
  pub movable : p.movable ≡ s.movable
  pub data_size : p.data_size ≡ s.data_size
  pub gates : p.gates ≡ s.gates
  pub bytes : p.bytes ≡ s.bytes
  pub names : AllZip (IsPlacedName s.format s.items) (named s) p.names
  pub bundles : AreBundles p.bundles

pub rewritten : (s : Sandbox) (p : Placement) → IsMade s p → IsRewritten s p
rewritten s p m = record {
  faultless = (m.slots, m.faultless);
  placement = record {
    format = m.format;
    movable = m.movable;
    data_size = m.data_size;
    gates = m.gates;
    bytes = m.bytes;
    names = m.names;
    slots = m.slots;
    laid = laid_of (has_words s.format) s.format s.items m.slots m.faultless;
    nops = m.end.nops;
    end = m.end.end;
    code = m.code ∙ m.end.slots;
    bundles = m.bundles;
  };
}

pub copied : {A : Type 0} (old now xs ys : List A) → now ≡ old ++ xs → old ≡ [] → xs ≡ ys → now ≡ ys
copied old now xs ys e f g = e ∙ ap (λ v. v ++ xs) f ∙ g
