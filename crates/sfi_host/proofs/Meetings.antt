-- Which sandboxes meet.
use Rattle.sfi_host.proofs.Prelude.{◌≡◌, ◌↔◌, inl, inr, ⊎_elim, Bool, false, IsTrue, ℕ, ◌+◌, ◌^◌, ◌<◌, ◌≤◌, List, length, get_or, Some, slice_get, slice_get_read, slice_get_within, refl, sym, ap, ◌∙◌, subst, arith, same_Some, cases_eq, length-map, Format, Bytes, Span, Holds, with_guards, code_region, IsRightPart, Part, Bounds, bounds_of, Sandbox, seat_of, seats_of, world_of, Seat, Sandboxes, IsSafeSeat}
use Rattle.sfi_host.specs.Modules.{part_of, parts_of}
use Rattle.sfi_host.specs.declared.modules.ModulePart.{ModulePart}
use Rattle.sfi_image.proofs.Facts.{code_ends}
use Rattle.sfi_host.specs.Adding.{TakesUp, ShareAddress, Meet, MeetsSome}
use Rattle.sfi_host.proofs.WorldBytes.{seat_at, get_map}

-- ---- one sandbox and one part, by their spans

-- an address lies in both
abbrev pub Both : Span → Span → Type 0
Both s t = (a : ℕ) × Holds s a × Holds t a

module _ (b c : Bounds) (k kg l lg : Span) (first : k ≡ b.code) (first_guarded : kg ≡ with_guards b.data) (second : l ≡ c.code) (second_guarded : lg ≡ with_guards c.data) where
  held : (s t : Span) → s ≡ t → (a : ℕ) → Holds s a → Holds t a
  held s t same a h = subst (λ (x : Span). Holds x a) same h

  back : (s t : Span) → s ≡ t → (a : ℕ) → Holds t a → Holds s a
  back s t same a h = subst (λ (x : Span). Holds x a) (sym same) h

  pub by_codes : (Both k l) → ShareAddress b c
  by_codes x = (x.0, inl (held k b.code first x.0 x.1), inl (held l c.code second x.0 x.2))

  pub by_first : (Both k lg) → ShareAddress b c
  by_first x = (x.0, inl (held k b.code first x.0 x.1), inr (held lg (with_guards c.data) second_guarded x.0 x.2))

  pub by_second : (Both kg l) → ShareAddress b c
  by_second x = (x.0, inr (held kg (with_guards b.data) first_guarded x.0 x.1), inl (held l c.code second x.0 x.2))

  pub by_guarded : (Both kg lg) → ShareAddress b c
  by_guarded x = (x.0, inr (held kg (with_guards b.data) first_guarded x.0 x.1), inr (held lg (with_guards c.data) second_guarded x.0 x.2))

  none_by : (Both k l → ⊥) → (Both k lg → ⊥) → (Both kg l → ⊥) → (a : ℕ) → TakesUp b a → TakesUp c a → Both kg lg
  none_by no1 no2 no3 a (inl h) (inl i) = absurd (no1 (a, back k b.code first a h, back l c.code second a i))
  none_by no1 no2 no3 a (inl h) (inr i) = absurd (no2 (a, back k b.code first a h, back lg (with_guards c.data) second_guarded a i))
  none_by no1 no2 no3 a (inr h) (inl i) = absurd (no3 (a, back kg (with_guards b.data) first_guarded a h, back l c.code second a i))
  none_by no1 no2 no3 a (inr h) (inr i) = (a, back kg (with_guards b.data) first_guarded a h, back lg (with_guards c.data) second_guarded a i)

  pub by_last : (r : Bool) → (IsTrue r ↔ Both kg lg) → (Both k l → ⊥) → (Both k lg → ⊥) → (Both kg l → ⊥) → (IsTrue r ↔ ShareAddress b c)
  by_last r last no1 no2 no3 = (λ t. by_guarded (last.0 t), λ m. last.1 (none_by no1 no2 no3 m.0 m.1 m.2))

-- ---- one sandbox and the first n parts

abbrev pub NoneMeets : Bounds → List Part → ℕ → Type 0
NoneMeets b ps n = (j : ℕ) (p : Part) → j < n → slice_get ps j ≡ Some p → Meet b (bounds_of p) → ⊥

module _ (f : Format) (parts : List ModulePart) (k : ℕ) (x : ModulePart) (below : k < length parts) (is : x ≡ get_or parts k x) where
  pub view_at : slice_get (parts_of f parts) k ≡ Some (part_of f x)
  view_at = get_map (part_of f) parts k x (slice_get_read parts (length parts) k x refl below is)

  pub next_none : (b : Bounds) → NoneMeets b (parts_of f parts) k → (Meet b (bounds_of (part_of f x)) → ⊥) → NoneMeets b (parts_of f parts) (k + 1)
  next_none b before misses j p less e m = ⊎_elim
      (λ (same : j ≡ k).
      let one : p ≡ part_of f x = same_Some p (part_of f x) (sym e ∙ ap (slice_get (parts_of f parts)) same ∙ view_at) in
      misses (subst (λ (q : Part). Meet b (bounds_of q)) one m))
      (λ (other : j ≡ k → ⊥). before j p (omega (arith, less, other)) e m)
      (cases_eq j k)

pub none_of_all : (f : Format) (parts : List ModulePart) (n : ℕ) (b : Bounds) → length parts ≤ n → NoneMeets b (parts_of f parts) n
    → (j : ℕ) (p : Part) → slice_get (parts_of f parts) j ≡ Some p → Meet b (bounds_of p) → ⊥
none_of_all f parts n b all none j p e m =
    let within : j < length (parts_of f parts) = slice_get_within (parts_of f parts) j p e in
    let many : length (parts_of f parts) ≡ length parts = length-map parts (part_of f) in
    none j p (omega (arith, all, within, many)) e m

-- ---- the first n sandboxes and all parts

abbrev pub AreClear : List Seat → List Part → ℕ → Type 0
AreClear seats ps n = (i : ℕ) (s : Seat) → i < n → slice_get seats i ≡ Some s → (j : ℕ) (p : Part) → slice_get ps j ≡ Some p → Meet s.bounds (bounds_of p) → ⊥

module _ (sandboxes : List Sandbox) (ps : List Part) (k : ℕ) (x : Sandbox) (below : k < length sandboxes) (is : x ≡ get_or sandboxes k x) where
  pub here : slice_get (seats_of sandboxes) k ≡ Some (seat_of x)
  here = seat_at sandboxes k x (slice_get_read sandboxes (length sandboxes) k x refl below is)

  pub found_one : (m : Bytes) (j : ℕ) (p : Part) → slice_get ps j ≡ Some p → Meet (seat_of x).bounds (bounds_of p) → MeetsSome (world_of m sandboxes) ps
  found_one m j p e meet = record { number = k; seat = seat_of x; there = here; other = j; part = p; among = e; meet = meet }

  pub next_clear : AreClear (seats_of sandboxes) ps k → ((j : ℕ) (p : Part) → slice_get ps j ≡ Some p → Meet (seat_of x).bounds (bounds_of p) → ⊥) → AreClear (seats_of sandboxes) ps (k + 1)
  next_clear before misses i s less e j p f m = ⊎_elim
      (λ (same : i ≡ k).
      let one : s ≡ seat_of x = same_Some s (seat_of x) (sym e ∙ ap (slice_get (seats_of sandboxes)) same ∙ here) in
      misses j p f (subst (λ (t : Seat). Meet t.bounds (bounds_of p)) one m))
      (λ (other : i ≡ k → ⊥). before i s (omega (arith, less, other)) e j p f m)
      (cases_eq i k)

pub all_clear : (sandboxes : List Sandbox) (ps : List Part) (n : ℕ) (m : Bytes) → length sandboxes ≤ n → AreClear (seats_of sandboxes) ps n → MeetsSome (world_of m sandboxes) ps → ⊥
all_clear sandboxes ps n m all clear x =
    let within : x.number < length (seats_of sandboxes) = slice_get_within (seats_of sandboxes) x.number x.seat x.there in
    let many : length (seats_of sandboxes) ≡ length sandboxes = length-map sandboxes seat_of in
    clear x.number x.seat (omega (arith, all, within, many)) x.there x.other x.part x.among x.meet

pub room_of : (m : Bytes) (s : Seat) → IsSafeSeat m s → 4096 ≤ s.bounds.data.base
room_of m s seat = subst (λ (b : Bounds). 4096 ≤ b.data.base) (sym seat.bounds) (let room : 4096 ≤ seat.part.data_base = seat.right.guard_room.below in room)

-- the end of a right part's code has 64 bits
pub code_bounded : (p : Part) (s : Span) → IsRightPart p → s ≡ code_region p → s.base + s.size < 2 ^ 64
code_bounded p s right same = subst (λ (t : Span). t.base + t.size < 2 ^ 64) (sym same) (let end : p.code_base + length p.code ≤ 2 ^ 32 = code_ends p right in omega (arith, end))

-- ---- in the words of a contract

pub not_meeting : (w : Sandboxes) (m : Bytes) (items seen : List Sandbox) (ps : List Part) → (IsTrue false ↔ MeetsSome (world_of m seen) ps) → seen ≡ items → world_of m items ≡ w → MeetsSome w ps → ⊥
not_meeting w m items seen ps both same view meets =
    let back : world_of m seen ≡ w = ap (λ (l : List Sandbox). world_of m l) same ∙ view in
    let e : IsTrue false = both.1 (subst (λ (x : Sandboxes). MeetsSome x ps) (sym back) meets) in
    absurd (cc)
