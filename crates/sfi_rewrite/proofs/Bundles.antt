-- Bundles of whole expansions.
use Rattle.sfi_rewrite.proofs.Prelude.{◌≡◌, replicate, ℕ, ◌+◌, ◌-◌, ◌<◌, ◌≤◌, ◌*◌, ◌%◌, List, [], ◌∷◌, ◌++◌, length, refl, sym, ap, ◌∙◌, subst, arith, append_assoc, append-nil, length-append, get_or, set, All, get_or_push, All-push, All-nil, All-cons, All-head, All-tail, BundleSlot, size_of, slots_of, c_nop, AreBundles, IsFull, IsFilled, largest, bundle_size}
use Rattle.std.proofs.Math.Seq.{set-append_seam}
use Rattle.sfi_rewrite.proofs.Sizes.{size_of-append, sizes, size_even, size_nops}

pub slots_of-push : (full : List (List BundleSlot)) (b : List BundleSlot) → slots_of (full ++ b ∷ []) ≡ slots_of full ++ b
slots_of-push [] b = append-nil b
slots_of-push (x ∷ full) b = rw (slots_of-push full b) (sym (append_assoc x (slots_of full) b))

-- the bytes of full bundles
pub full_size : (full : List (List BundleSlot)) → All IsFull full → size_of (slots_of full) ≡ bundle_size * length full
full_size [] h = refl
full_size (x ∷ full) h =
    let e = size_of-append x (slots_of full) in
    let g = full_size full (All-tail IsFull x full h) in
    let f = (All-head IsFull x full h) in
    omega (arith, e, g, f)

-- ---- the last bundle and those before it

-- all but the last are full
record Split (bundles : List (List BundleSlot)) : Type 0 where
  front : List (List BundleSlot)
  last : List BundleSlot
  are : bundles ≡ front ++ last ∷ []
  full : All IsFull front
  some : 0 < size_of last
  few : size_of last ≤ bundle_size

split : (b : List BundleSlot) (bundles : List (List BundleSlot)) → AreBundles (b ∷ bundles) → Split (b ∷ bundles)
split b [] h = record { front = []; last = b; are = refl; full = All-nil IsFull; some = h.0; few = h.1 }
split b (c ∷ bundles) h =
    let r = split c bundles h.1 in
    record { front = b ∷ r.front; last = r.last; are = ap (λ v. b ∷ v) r.are; full = All-cons IsFull b r.front h.0 r.full; some = r.some; few = r.few }

split_size : (bundles : List (List BundleSlot)) (s : Split bundles) → size_of (slots_of bundles) ≡ bundle_size * length s.front + size_of s.last
split_size bundles s =
    let a = ap (λ v. size_of (slots_of v)) s.are ∙ ap size_of (slots_of-push s.front s.last) ∙ size_of-append (slots_of s.front) s.last in
    let b = full_size s.front s.full in
    omega arith

bundles_push : (full : List (List BundleSlot)) (last : List BundleSlot) → All IsFull full → 0 < size_of last → size_of last ≤ 16 → AreBundles (full ++ last ∷ [])
bundles_push [] last h low high = (low, high)
bundles_push (x ∷ []) last h low high = ((All-head IsFull x [] h), (low, high))
bundles_push (x ∷ y ∷ full) last h low high = ((All-head IsFull x (y ∷ full) h), bundles_push (y ∷ full) last (All-tail IsFull x (y ∷ full) h) low high)

-- ---- one more bundle

all_full : (bundles : List (List BundleSlot)) → AreBundles bundles → size_of (slots_of bundles) % bundle_size ≡ 0 → All IsFull bundles
all_full [] h e = All-nil IsFull
all_full (b ∷ bundles) h e =
    let s = split b bundles h in
    let n = split_size (b ∷ bundles) s in
    let low = s.some in
    let high = s.few in
    subst (All IsFull) (sym s.are) (All-push IsFull s.front s.last s.full (omega arith))

-- where the last one has no room
pub begun : (bundles : List (List BundleSlot)) (more : List BundleSlot) → AreBundles bundles → size_of (slots_of bundles) % bundle_size ≡ 0
    → 0 < size_of more → size_of more ≤ bundle_size → AreBundles (bundles ++ more ∷ [])
begun bundles more are e low high = bundles_push bundles more (all_full bundles are e) low high

-- ---- more in the last bundle

-- the bundles with more after the last one's slots
pub record Grown (bundles : List (List BundleSlot)) (more : List BundleSlot) : Type 0 where
  pub front : List (List BundleSlot)
  pub last : List BundleSlot
  pub were : bundles ≡ front ++ last ∷ []
  pub room : size_of last + size_of more ≤ bundle_size
  pub are : AreBundles (front ++ (last ++ more) ∷ [])
  pub slots : slots_of (front ++ (last ++ more) ∷ []) ≡ slots_of bundles ++ more

-- where it has room
pub grown : (bundles : List (List BundleSlot)) (more : List BundleSlot) → AreBundles bundles → 0 < size_of (slots_of bundles) % bundle_size
    → size_of (slots_of bundles) % bundle_size + size_of more ≤ bundle_size → Grown bundles more
grown [] more are some fits = absurd (let z : size_of (slots_of []) ≡ 0 = refl in omega arith)
grown (b ∷ bundles) more are some fits =
    let s = split b bundles are in
    let n = split_size (b ∷ bundles) s in
    let low = s.some in
    let high = s.few in
    let a = size_of-append s.last more in
    record {
      front = s.front;
      last = s.last;
      were = s.are;
      room = omega arith;
      are = bundles_push s.front (s.last ++ more) s.full (omega arith) (omega arith);
      slots =
          slots_of-push s.front (s.last ++ more) ∙ sym (append_assoc (slots_of s.front) s.last more)
          ∙ ap (λ v. v ++ more) (sym (ap slots_of s.are ∙ slots_of-push s.front s.last));
    }

-- ---- at the fields of the code

pub slots_fit : (old more now : List BundleSlot) → now ≡ old → size_of old + size_of more ≤ bundle_size → length now + length more ≤ 8
slots_fit old more now e h =
    let a = (sizes old).least in
    let b = (sizes more).least in
    let c = ap length e in
    omega arith

pub filled_begun : (bundles now : List (List BundleSlot)) (old bundle more : List BundleSlot) (end size : ℕ) → IsFilled bundles end → slots_of bundles ≡ old
    → end % bundle_size ≡ 0 → size ≡ size_of more → 0 < size → size_of old % bundle_size + size ≤ bundle_size
    → now ≡ bundles ++ bundle ∷ [] → bundle ≡ more → IsFilled now (end + size)
filled_begun bundles now old bundle more end size f view none s some fits n b =
    let a = f.end_is in
    let v = ap size_of view in
    let c = ap size_of (slots_of-push bundles more) ∙ size_of-append (slots_of bundles) more in
    rw (n, b) (record { are_bundles = begun bundles more f.are_bundles (omega arith) (omega arith) (omega arith); end_is = omega arith })

-- what holds where the last bundle, at that index, gets more slots
pub record IsGrown (bundles : List (List BundleSlot)) (old last more : List BundleSlot) (index end : ℕ) : Type 0 where
  pub room : size_of last + size_of more ≤ bundle_size
  pub filled : IsFilled (set bundles index (last ++ more)) end
  pub slots : slots_of (set bundles index (last ++ more)) ≡ old ++ more

pub filled_grown : (bundles : List (List BundleSlot)) (old last more : List BundleSlot) (count end size : ℕ) → IsFilled bundles end → slots_of bundles ≡ old
    → ((end % bundle_size ≡ 0) → ⊥) → size ≡ size_of more → size_of old % bundle_size + size ≤ bundle_size
    → count ≡ length bundles → last ≡ get_or bundles (count - 1) last → IsGrown bundles old last more (count - 1) (end + size)
filled_grown bundles old last more count end size f view some s fits c is =
    let a = f.end_is in
    let v = ap size_of view in
    let g = grown bundles more f.are_bundles (let not_zero : 0 < end % bundle_size = omega (arith, some) in omega arith) (omega arith) in
    let long = ap length g.were ∙ length-append g.front (g.last ∷ []) in
    let at : count - 1 ≡ length g.front = omega arith in
    let same : last ≡ g.last = is ∙ ap (λ b. get_or b (count - 1) last) g.were ∙ get_or_push g.front g.last last (count - 1) (sym at) in
    let now : set bundles (count - 1) (last ++ more) ≡ g.front ++ (g.last ++ more) ∷ [] =
    ap (λ b. set b (count - 1) (last ++ more)) g.were ∙ ap (λ k. set (g.front ++ g.last ∷ []) k (last ++ more)) at
    ∙ set-append_seam g.front g.last [] (last ++ more) ∙ ap (λ l. g.front ++ (l ++ more) ∷ []) same in
    let d = ap size_of g.slots ∙ size_of-append (slots_of bundles) more in
    let filled : IsFilled (g.front ++ (g.last ++ more) ∷ []) (end + size) = record { are_bundles = g.are; end_is = omega arith } in
    record {
      room = subst (λ (l : List BundleSlot). size_of l + size_of more ≤ bundle_size) (sym same) g.room;
      filled = subst (λ (b : List (List BundleSlot)). IsFilled b (end + size)) (sym now) filled;
      slots = ap slots_of now ∙ g.slots ∙ ap (λ (l : List BundleSlot). l ++ more) view;
    }

pub nop_fits : (slots : List BundleSlot) → size_of slots % bundle_size + 2 ≤ bundle_size
nop_fits slots = let g = size_even slots in omega arith

pub nops_room : (old now : List BundleSlot) (k nops : ℕ) → now ≡ old ++ replicate k c_nop → k < nops → size_of old + 2 * nops ≤ largest → size_of now + 2 ≤ largest
nops_room old now k nops e h r =
    let a = ap size_of e ∙ size_of-append old (replicate k c_nop) in
    let b = size_nops k in
    omega arith
