-- What a text means is right: each sandbox is within its limits, and its names, gates and items fit each other.
use Rattle.sfi_text.proofs.Prelude.{◌≡◌, ◌≢◌, ◌↔◌, refl, sym, ap, subst, ◌∙◌, ℕ, zero, suc, ◌+◌, ◌<◌, ◌≤◌, ◌⊎◌, inl, inr, Bool, true, false, not, ◌||◌, IsTrue, true≢false, if◌then◌else◌, List, [], ◌∷◌, ◌++◌, Some, map, slice_get, length, length-append, arith, AllByRecursion, bytes_eq, same_Some, none-some, slice_get_within, cases_lt, bytes_eq-Decides, Named, Gate, Code, Data, Unknown, IsShortLabel, place_of, placed, met, Sandbox, IsDataSize, IsBody, IsThere, IsEntry, IsGate, IsSandbox, Begun, begin, with_names, with_label, with_gate, items_of, with_bodies, with_bytes, IsFree}
use Rattle.sfi_source.specs.declared.item.Body.{Body}
use Rattle.sfi_source.specs.declared.item.Body.TheVariants.{Plain, To, High, Low, Base}
use Rattle.sfi_source.specs.declared.item.Item.{Item}
use Rattle.sfi_source.specs.declared.item.SourceGate.{SourceGate}
use Rattle.sfi_formats.specs.declared.format.Format.{Format}
use Rattle.std.proofs.lemmas.List.Elements.{All-from_recursion}
use Rattle.std.proofs.lemmas.Map.Made.{AllPairs-from_IsDistinct}
use Rattle.std.specs.List.{IsDistinct}
use Rattle.sfi_formats.specs.Limits.{service_most}
use Rattle.sfi_source.proofs.NameTable.{met_there, meaning_new}
use Rattle.sfi_text.proofs.Lexing.{all_by}
use Rattle.sfi_text.proofs.Placing.{Has, has_contained, contained_has, placed_has, placed_keeps, placed_back, placed_at, placed_stays, placed_all, placed_grows, placed_differ}

-- the item of this number fits the names
pub record IsDraftItem (s : Sandbox) (k : ℕ) (i : Item) : Type 0 where
  pub labelled : IsTrue i.labelled ↔ Has s.names (Code k)
  pub body : IsBody (length s.names) i.body

-- the sandbox begun last is right so far
pub record IsDraft (b : Begun) : Type 0 where
  pub data_size : IsDataSize b.sandbox.data_size
  pub gate_count : length b.sandbox.gates ≤ 64
  pub gates : (k : ℕ) (g : SourceGate) → slice_get b.sandbox.gates k ≡ Some g → IsGate b.sandbox k g
  pub names : AllByRecursion (IsEntry b.sandbox) b.sandbox.names
  pub differ : IsDistinct bytes_eq (map (λ e. e.0) b.sandbox.names)
  pub item_count : length b.sandbox.items ≤ 65536
  pub items : (k : ℕ) (i : Item) → slice_get b.sandbox.items k ≡ Some i → IsDraftItem b.sandbox k i
  pub labelled : IsTrue b.labelled ↔ Has b.sandbox.names (Code (length b.sandbox.items))
  pub byte_count : length b.sandbox.bytes ≤ b.sandbox.data_size
  pub bytes : AllByRecursion (λ v. v < 256) b.sandbox.bytes

-- what holds of each of two lists holds of each of both
pub all_append : {X : Type 0} (P : X → Type 0) (xs ys : List X) → AllByRecursion P xs → AllByRecursion P ys → AllByRecursion P (xs ++ ys)
all_append P [] ys h k = k
all_append P (x ∷ xs) ys h k = (h.0, all_append P xs ys h.1 k)

-- an element of two lists after each other is one of the first, or one of the second after as many
split_get : {X : Type 0} (xs ys : List X) (k : ℕ) (x : X) → slice_get (xs ++ ys) k ≡ Some x
    → (slice_get xs k ≡ Some x × (k < length xs)) ⊎ ((j : ℕ) × (k ≡ length xs + j) × (slice_get ys j ≡ Some x))
split_get [] ys k x h = inr (k, omega arith, h)
split_get (y ∷ xs) ys zero x h = inl (h, omega arith)
split_get (y ∷ xs) ys (suc k) x h = up (split_get xs ys k x h)
  where
    up : (slice_get xs k ≡ Some x × (k < length xs)) ⊎ ((j : ℕ) × (k ≡ length xs + j) × (slice_get ys j ≡ Some x))
        → (slice_get (y ∷ xs) (suc k) ≡ Some x × (suc k < length (y ∷ xs))) ⊎ ((j : ℕ) × (suc k ≡ length (y ∷ xs) + j) × (slice_get ys j ≡ Some x))
    up (inl p) = inl (p.0, omega (arith, p.1))
    up (inr p) = inr (p.0, omega (arith, p.1), p.2)

-- what is named stays there where no list gets shorter
there_stays : (s t : Sandbox) (what : Named) → length s.gates ≤ length t.gates → length s.items ≤ length t.items → length s.bytes ≤ length t.bytes
    → IsThere s what → IsThere t what
there_stays s t (Gate k) g i b h = omega (arith, g, h)
there_stays s t (Code k) g i b h = omega (arith, i, h)
there_stays s t (Data o) g i b h = omega (arith, b, h)
there_stays s t Unknown g i b h = tt

entries_stay : (s t : Sandbox) → length s.gates ≤ length t.gates → length s.items ≤ length t.items → length s.bytes ≤ length t.bytes
    → (names : List (List ℕ × Named)) → AllByRecursion (IsEntry s) names → AllByRecursion (IsEntry t) names
entries_stay s t g i b names h =
    all_by (IsEntry s) (IsEntry t) (λ e h. record { name = h.name; there = there_stays s t e.1 g i b h.there }) names h

-- a body's name stays one of them where there are more
body_stays : (n m : ℕ) (body : Body) → n ≤ m → IsBody n body → IsBody m body
body_stays n m (Plain i) more h = h
body_stays n m (To i place) more h = (h.0, h.1, omega (arith, h.2, more))
body_stays n m (High rd place) more h = (h.0, omega (arith, h.1, more))
body_stays n m (Low rd place) more h = (h.0, omega (arith, h.1, more))
body_stays n m (Base rd place) more h = (h.0, omega (arith, h.1, more))

-- what is begun last is right as it stands
pub finished : (b : Begun) → IsDraft b → IsSandbox b.sandbox
finished b d = record {
  data_size = d.data_size;
  gate_count = d.gate_count;
  gates = d.gates;
  names = All-from_recursion (IsEntry b.sandbox) b.sandbox.names d.names;
  differ = AllPairs-from_IsDistinct bytes_eq-Decides _ d.differ;
  item_count = d.item_count;
  items = λ k i at. record {
    labelled = (λ h. has_contained _ _ ((d.items k i at).labelled.0 h), λ h. (d.items k i at).labelled.1 (contained_has _ _ h));
    body = (d.items k i at).body;
  };
  byte_count = d.byte_count;
  bytes = All-from_recursion (λ v. v < 256) b.sandbox.bytes d.bytes;
}

-- no names differ
none_differ : IsDistinct bytes_eq []
unfolding IsDistinct
none_differ = tt

-- a sandbox at its beginning is right
pub begun_right : (format : Format) (size : ℕ) → IsDataSize size → IsDraft (begin format size)
begun_right format size h = record {
  data_size = h;
  gate_count = omega arith;
  gates = λ k g at. absurd (none-some g at);
  names = tt;
  differ = none_differ;
  item_count = omega arith;
  items = λ k i at. absurd (none-some i at);
  labelled = (λ h. absurd (true≢false (sym h)), λ h. absurd h);
  byte_count = omega arith;
  bytes = tt;
}

-- what a name names is there
has_there : (s : Sandbox) (names : List (List ℕ × Named)) (what : Named) → AllByRecursion (IsEntry s) names → Has names what → IsThere s what
has_there s [] what all h = absurd h
has_there s (e ∷ es) what all (inl is) = subst (IsThere s) is all.0.there
has_there s (e ∷ es) what all (inr h) = has_there s es what all.1 h

-- the places of items that names name are the same where a free name is placed that names another thing
code_stays : (b : Begun) (name : List ℕ) (what : Named) (k : ℕ) → IsFree name b → what ≢ Code k → Has b.sandbox.names (Code k) ↔ Has (placed b.sandbox.names name what) (Code k)
code_stays b name what k free apart = (placed_keeps b.sandbox.names name what (Code k) free (λ e. cc), placed_back b.sandbox.names name what (Code k) apart)

through : {A B C : Type 0} → A ↔ B → B ↔ C → A ↔ C
through f g = (λ a. g.0 (f.0 a), λ c. f.1 (g.1 c))

-- a name that is free is placed, where what it names is there and is no item's place
placed_right : (b : Begun) (d : IsDraft b) (name : List ℕ) (what : Named) (labelled opened : Bool)
    → IsFree name b → IsShortLabel name → IsThere b.sandbox what
    → ((k : ℕ) → k < length b.sandbox.items → what ≢ Code k)
    → (IsTrue labelled ↔ Has (placed b.sandbox.names name what) (Code (length b.sandbox.items)))
    → IsDraft (record (with_names (placed b.sandbox.names name what) b) { labelled = labelled; opened = opened })
placed_right b d name what labelled opened free is_label there apart flag =
    let names = placed b.sandbox.names name what in
    let s : Sandbox = record b.sandbox { names = names } in
    record {
      data_size = d.data_size;
      gate_count = d.gate_count;
      gates = λ k g at. record {
        service = (d.gates k g at).service;
        name = placed_stays b.sandbox.names name what (Gate k) g.name free (λ e. cc) (d.gates k g at).name;
      };
      names = placed_all (IsEntry s) b.sandbox.names name what
          (entries_stay b.sandbox s (omega arith) (omega arith) (omega arith) b.sandbox.names d.names)
          (record { name = is_label; there = there_stays b.sandbox s what (omega arith) (omega arith) (omega arith) there });
      differ = placed_differ b.sandbox.names name what d.differ;
      item_count = d.item_count;
      items = λ k i at. record {
        labelled = through (d.items k i at).labelled (code_stays b name what k free (apart k (slice_get_within b.sandbox.items k i at)));
        body = body_stays (length b.sandbox.names) (length names) i.body (placed_grows b.sandbox.names name what) (d.items k i at).body;
      };
      labelled = flag;
      byte_count = d.byte_count;
      bytes = d.bytes;
    }

-- a label after the instructions, or after the data
pub label_right : (b : Begun) (d : IsDraft b) (name : List ℕ) → IsFree name b → IsShortLabel name → IsDraft (with_label name b)
label_right b d name free is_label = by b.in_data
  where
    or_true : (a : Bool) → IsTrue (a || true)
    or_true true = refl
    or_true false = refl

    or_false : (a : Bool) → IsTrue (a || false) ↔ IsTrue a
    or_false true = (λ h. h, λ h. h)
    or_false false = (λ h. h, λ h. h)

    by : (ended : Bool) → IsDraft (record (with_names (placed b.sandbox.names name (if ended then Data (length b.sandbox.bytes) else Code (length b.sandbox.items))) b) { labelled = b.labelled || not ended; opened = true })
    by true = placed_right b d name (Data (length b.sandbox.bytes)) (b.labelled || false) true free is_label (omega arith) (λ k within e. cc)
        (through (or_false b.labelled) (through d.labelled (code_stays b name (Data (length b.sandbox.bytes)) (length b.sandbox.items) free (λ e. cc))))
    by false = placed_right b d name (Code (length b.sandbox.items)) (b.labelled || true) true free is_label (omega arith)
        (λ k within e. let same : length b.sandbox.items ≡ k = cc in omega (arith, within))
        (λ h. placed_has b.sandbox.names name (Code (length b.sandbox.items)), λ h. or_true b.labelled)

-- a name that an instruction goes to
pub met_right : (b : Begun) (d : IsDraft b) (name : List ℕ) → IsShortLabel name → IsDraft (with_names (met b.sandbox.names name) b)
met_right b d name is_label =
    elim (cases_lt (place_of b.sandbox.names name) (length b.sandbox.names)) [
      | inl there ↦ subst (λ names. IsDraft (with_names names b)) (met_there b.sandbox.names name there) d
      | inr none ↦
          let free : IsFree name b = meaning_new b.sandbox.names name none in
          subst (λ what. IsDraft (with_names (placed b.sandbox.names name what) b)) (sym free)
          (placed_right b d name Unknown b.labelled b.opened free is_label tt (λ k within e. cc) (through d.labelled (code_stays b name Unknown (length b.sandbox.items) free (λ e. cc))))
    ]

-- the items of a line's bodies: the first has the label, if there is one
item_at : (n line : ℕ) (rvc labelled : Bool) (bodies : List Body) (j : ℕ) (i : Item) → AllByRecursion (IsBody n) bodies
    → slice_get (items_of line rvc labelled bodies) j ≡ Some i
    → IsBody n i.body × (((j ≡ 0) × (i.labelled ≡ labelled)) ⊎ ((0 < j) × (i.labelled ≡ false)))
item_at n line rvc labelled [] j i all at = absurd (none-some i at)
item_at n line rvc labelled (body ∷ bodies) zero i all at =
    let is = same_Some _ _ at in
    (subst (λ item. IsBody n item.body) is all.0, inl (refl, sym (ap (λ item. item.labelled) is)))
item_at n line rvc labelled (body ∷ bodies) (suc j) i all at = up (item_at n line rvc false bodies j i all.1 at)
  where
    up : IsBody n i.body × (((j ≡ 0) × (i.labelled ≡ false)) ⊎ ((0 < j) × (i.labelled ≡ false)))
        → IsBody n i.body × (((suc j ≡ 0) × (i.labelled ≡ labelled)) ⊎ ((0 < suc j) × (i.labelled ≡ false)))
    up (right, inl p) = (right, inr (omega arith, p.1))
    up (right, inr p) = (right, inr (omega arith, p.1))

length_items_of : (line : ℕ) (rvc labelled : Bool) (bodies : List Body) → length (items_of line rvc labelled bodies) ≡ length bodies
length_items_of line rvc labelled [] = refl
length_items_of line rvc labelled (body ∷ bodies) = ap suc (length_items_of line rvc false bodies)

-- instructions after the others
pub bodies_right : (line : ℕ) (bodies : List Body) (b : Begun) (d : IsDraft b) → AllByRecursion (IsBody (length b.sandbox.names)) bodies
    → 1 ≤ length bodies → length b.sandbox.items + length bodies ≤ 65536 → IsDraft (with_bodies line bodies b)
bodies_right line bodies b d all some fits =
    let more = items_of line b.rvc b.labelled bodies in
    let s : Sandbox = record b.sandbox { items = b.sandbox.items ++ more } in
    let long : length s.items ≡ length b.sandbox.items + length bodies =
    length-append b.sandbox.items more ∙ ap (λ n. length b.sandbox.items + n) (length_items_of line b.rvc b.labelled bodies) in
    record {
      data_size = d.data_size;
      gate_count = d.gate_count;
      gates = λ k g at. record { service = (d.gates k g at).service; name = (d.gates k g at).name };
      names = entries_stay b.sandbox s (omega arith) (omega (arith, long)) (omega arith) b.sandbox.names d.names;
      differ = d.differ;
      item_count = omega (arith, long, fits);
      items = λ k i at. item k i (split_get b.sandbox.items more k i at);
      labelled = (λ h. absurd (true≢false (sym h)), λ h. absurd (omega (arith, long, some, has_there b.sandbox b.sandbox.names (Code (length s.items)) d.names h)));
      byte_count = d.byte_count;
      bytes = d.bytes;
    }
  where
    flag : (k j : ℕ) (i : Item) → k ≡ length b.sandbox.items + j → (((j ≡ 0) × (i.labelled ≡ b.labelled)) ⊎ ((0 < j) × (i.labelled ≡ false)))
        → IsTrue i.labelled ↔ Has b.sandbox.names (Code k)
    flag k j i at (inl p) =
        let here : k ≡ length b.sandbox.items = omega (arith, at, p.0) in (
          λ h. subst (λ n. Has b.sandbox.names (Code n)) (sym here) (d.labelled.0 (sym p.1 ∙ h)),
          λ h. p.1 ∙ d.labelled.1 (subst (λ n. Has b.sandbox.names (Code n)) here h),
        )
    flag k j i at (inr p) = (
      λ h. absurd (true≢false (sym h ∙ p.1)),
      λ h. absurd (omega (arith, at, p.0, has_there b.sandbox b.sandbox.names (Code k) d.names h)),
    )

    item : (k : ℕ) (i : Item)
        → (slice_get b.sandbox.items k ≡ Some i × (k < length b.sandbox.items)) ⊎ ((j : ℕ) × (k ≡ length b.sandbox.items + j) × (slice_get (items_of line b.rvc b.labelled bodies) j ≡ Some i))
        → IsDraftItem (record b.sandbox { items = b.sandbox.items ++ items_of line b.rvc b.labelled bodies }) k i
    item k i (inl p) = record { labelled = (d.items k i p.0).labelled; body = (d.items k i p.0).body }
    item k i (inr (j, at, is)) =
        let found = item_at (length b.sandbox.names) line b.rvc b.labelled bodies j i all is in
        record { labelled = flag k j i at found.1; body = found.0 }

-- that it can be moved leaves a sandbox right
pub movable_right : (b : Begun) → IsDraft b → IsDraft (record b { sandbox = record b.sandbox { movable = true } })
movable_right b d =
    let s : Sandbox = record b.sandbox { movable = true } in
    record {
      data_size = d.data_size;
      gate_count = d.gate_count;
      gates = λ k g at. record { service = (d.gates k g at).service; name = (d.gates k g at).name };
      names = entries_stay b.sandbox s (omega arith) (omega arith) (omega arith) b.sandbox.names d.names;
      differ = d.differ;
      item_count = d.item_count;
      items = λ k i at. record { labelled = (d.items k i at).labelled; body = (d.items k i at).body };
      labelled = d.labelled;
      byte_count = d.byte_count;
      bytes = d.bytes;
    }

-- bytes after the others
pub bytes_right : (values : List ℕ) (b : Begun) (d : IsDraft b) → AllByRecursion (λ v. v < 256) values
    → length b.sandbox.bytes + length values ≤ b.sandbox.data_size → IsDraft (with_bytes values b)
bytes_right values b d all fits =
    let s : Sandbox = record b.sandbox { bytes = b.sandbox.bytes ++ values } in
    let long : length s.bytes ≡ length b.sandbox.bytes + length values = length-append b.sandbox.bytes values in
    record {
      data_size = d.data_size;
      gate_count = d.gate_count;
      gates = λ k g at. record { service = (d.gates k g at).service; name = (d.gates k g at).name };
      names = entries_stay b.sandbox s (omega arith) (omega arith) (omega (arith, long)) b.sandbox.names d.names;
      differ = d.differ;
      item_count = d.item_count;
      items = λ k i at. record { labelled = (d.items k i at).labelled; body = (d.items k i at).body };
      labelled = d.labelled;
      byte_count = omega (arith, long, fits);
      bytes = all_append (λ v. v < 256) b.sandbox.bytes values d.bytes all;
    }

-- the sandbox with another gate
pub gate_right : (name : List ℕ) (service : ℕ) (b : Begun) (d : IsDraft b) → IsFree name b → IsShortLabel name → service ≤ service_most
    → length b.sandbox.gates + 1 ≤ 64 → IsDraft (with_gate name service b)
gate_right name service b d free is_label known_service fits =
    let what = Gate (length b.sandbox.gates) in
    let names = placed b.sandbox.names name what in
    let added : SourceGate = record { name = place_of b.sandbox.names name; service = service } in
    let s : Sandbox = record b.sandbox { names = names; gates = b.sandbox.gates ++ added ∷ [] } in
    let long : length s.gates ≡ length b.sandbox.gates + 1 = length-append b.sandbox.gates (added ∷ []) in
    let stays : (k : ℕ) → Has b.sandbox.names (Code k) ↔ Has names (Code k) = λ k. code_stays b name what k free (λ e. cc) in
    record {
      data_size = d.data_size;
      gate_count = omega (arith, long, fits);
      gates = λ k g at. gate k g (split_get b.sandbox.gates (added ∷ []) k g at);
      names = placed_all (IsEntry s) b.sandbox.names name what
          (entries_stay b.sandbox s (omega (arith, long)) (omega arith) (omega arith) b.sandbox.names d.names)
          (record { name = is_label; there = omega (arith, long) });
      differ = placed_differ b.sandbox.names name what d.differ;
      item_count = d.item_count;
      items = λ k i at. record {
        labelled = through (d.items k i at).labelled (stays k);
        body = body_stays (length b.sandbox.names) (length names) i.body (placed_grows b.sandbox.names name what) (d.items k i at).body;
      };
      labelled = through d.labelled (stays (length b.sandbox.items));
      byte_count = d.byte_count;
      bytes = d.bytes;
    }
  where
    gate : (k : ℕ) (g : SourceGate)
        → (slice_get b.sandbox.gates k ≡ Some g × (k < length b.sandbox.gates))
        ⊎ ((j : ℕ) × (k ≡ length b.sandbox.gates + j) × (slice_get (record { name = place_of b.sandbox.names name; service = service } ∷ []) j ≡ Some g))
        → IsGate (with_gate name service b).sandbox k g
    gate k g (inl p) = record {
      service = (d.gates k g p.0).service;
      name = placed_stays b.sandbox.names name (Gate (length b.sandbox.gates)) (Gate k) g.name free (λ e. cc) (d.gates k g p.0).name;
    }
    gate k g (inr (zero, at, is)) =
        let same = same_Some _ _ is in
        let number : k ≡ length b.sandbox.gates = omega (arith, at) in
        record {
          service = subst (λ x. x.service ≤ service_most) same known_service;
          name = subst (λ x. slice_get (map (λ e. e.1) (placed b.sandbox.names name (Gate (length b.sandbox.gates)))) x.name ≡ Some (Gate k)) same
              (placed_at b.sandbox.names name (Gate (length b.sandbox.gates)) ∙ ap (λ n. Some (Gate n)) (sym number));
        }
    gate k g (inr (suc j, at, is)) = absurd (none-some g is)
