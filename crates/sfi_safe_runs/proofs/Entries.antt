-- Where sandboxes are entered: what the formats ask, and that a right layout has it.
use Rattle.sfi_formats.specs.Formats.{has_stack, is_data_register, is_data_register_in, has_single_mask}
use Rattle.sfi_formats.proofs.Formats.{single_in_words}
use Rattle.sfi_image.specs.Parts.{IsBundleStart, data_mask_of, reserved_of}
use Rattle.sfi_image.specs.Spelling.{data_region, InZoneAtZero, IsNearIn}
use Rattle.sfi_image.specs.declared.reserved.Reserved.{Reserved}
use Rattle.std.specs.Prelude.{◌&&◌}
use Rattle.std.proofs.lemmas.Bool.{and_parts}
use Rattle.sfi_safe_runs.specs.Runs.{StackInData, AreWordsTyped}
use Rattle.sfi_safe_runs.specs.Laws.{BundlesAskTheSame, WordsAsk, FirstFormatAsksNoStack, HasEntries}
use Rattle.std.specs.Cmp.{nat_cmp_total, unsigned_tied}
use Rattle.std.specs.FinMap.{empty, get-empty, insert, get-insert}
use Rattle.std.specs.Ordering.{nat_cmp}
use Rattle.sfi_image.proofs.Facts.{code_ends}
use Rattle.std.specs.Prelude.{replicate}
use Rattle.rv_step.proofs.States.{register_is}
use Rattle.sfi_formats.specs.Limits.{slack}
use Rattle.sfi_safe_runs.proofs.Prelude.{◌≡◌, ℕ, ◌%◌, List, true, false, refl, sym, ap, ◌∙◌, false≢true, Part, IsUnitStart, IsTyped, Format, Sfi1, Sfi2, Sfiw, Sfis, ◌≢◌, zero, suc, ◌+◌, ◌-◌, ◌^◌, ◌<◌, ◌≤◌, ◌==◌, ◌⊎◌, Bool, cond, [], ◌∷◌, length, Option, Some, None, inl, inr, ⊎_elim, cases_lt, subst, arith, slice_index, Bytes, IsMemory, byte_at, AreApart, code_region, guarded_region, IsRightPart, Hart, IsHart, InGuard, HasReserved, IsEntry, CanBeEntered, ◌||◌, or_cases, eqb-true, with_register, unit, has_words, InData, IsWordStart}
use Rattle.sfi_image.specs.declared.span.Span.{Span}

-- ==== What the formats ask.

-- code that isn't in words is in bundles
pub bundles : (f : Format) → has_words f ≡ false → unit f ≡ 16
bundles Sfi1 none = refl
bundles Sfi2 none = refl
bundles Sfiw none = absurd (false≢true (sym none))
bundles Sfis none = absurd (false≢true (sym none))

-- that in words is in words of 4 bytes, and has no stack pointer
pub words : (f : Format) → has_words f ≡ true → unit f ≡ 4
words Sfi1 has = absurd (false≢true has)
words Sfi2 has = absurd (false≢true has)
words Sfiw has = refl
words Sfis has = refl

no_stack : (f : Format) → has_words f ≡ true → has_stack f ≡ true → ⊥
no_stack Sfi1 has stack = false≢true has
no_stack Sfi2 has stack = false≢true has
no_stack Sfiw has stack = false≢true stack
no_stack Sfis has stack = false≢true stack

pub to_word : (p : Part) (a : ℕ) → has_words p.format ≡ true → IsUnitStart p a → IsWordStart (code_region p) a
to_word p a has start = record { held = start.held; aligned = ap (λ (u : ℕ). a % u) (sym (words p.format has)) ∙ start.aligned }

pub of_word : (p : Part) (a : ℕ) → has_words p.format ≡ true → IsWordStart (code_region p) a → IsUnitStart p a
of_word p a has start = record { held = start.held; aligned = ap (λ (u : ℕ). a % u) (words p.format has) ∙ start.aligned }

pub of_words_typed : (p : Part) (registers : List ℕ) → has_words p.format ≡ true → AreWordsTyped p.format (code_region p) (data_region p) registers → IsTyped p registers
of_words_typed p registers has typed = record { stack = λ stack. absurd (no_stack p.format has stack); words = λ _. typed }

pub to_bundle : (p : Part) (a : ℕ) → has_words p.format ≡ false → IsUnitStart p a → IsBundleStart (code_region p) a
to_bundle p a none start = record { held = start.held; aligned = ap (λ (u : ℕ). a % u) (sym (bundles p.format none)) ∙ start.aligned }

pub of_bundle : (p : Part) (a : ℕ) → has_words p.format ≡ false → IsBundleStart (code_region p) a → IsUnitStart p a
of_bundle p a none start = record { held = start.held; aligned = ap (λ (u : ℕ). a % u) (bundles p.format none) ∙ start.aligned }

pub of_stack : (p : Part) (registers : List ℕ) → has_words p.format ≡ false → StackInData p registers → IsTyped p registers
of_stack p registers none stack = record { stack = stack; words = λ has. absurd (false≢true (sym none ∙ has)) }

-- code in bundles has no single masks
pub bundles_two_steps : (f : Format) → has_words f ≡ false → has_single_mask f ≡ false
bundles_two_steps f none = by (has_single_mask f) refl
  where
    by : (one : Bool) → has_single_mask f ≡ one → has_single_mask f ≡ false
    by true e = absurd (false≢true (sym none ∙ single_in_words f e))
    by false e = e

pub two_step_mask : (f : Format) (s : Span) → has_single_mask f ≡ false → data_mask_of f s ≡ s.size - 1
two_step_mask f s two = rw two refl

pub one_step_mask : (f : Format) (s : Span) → has_single_mask f ≡ true → data_mask_of f s ≡ s.base + s.size - 1
one_step_mask f s one = rw one refl

same_reserved : (p : Part) (u mask : ℕ) → unit p.format ≡ u → data_mask_of p.format (data_region p) ≡ mask
    → reserved_of p ≡ record { code_base = p.code_base; code_mask = length p.code - u; data_base = p.data_base; data_mask = mask }
same_reserved p u mask e m =
    ap (λ (v : ℕ). let r : Reserved = record { code_base = p.code_base; code_mask = length p.code - v; data_base = p.data_base; data_mask = data_mask_of p.format (data_region p) } in r) e
    ∙ ap (λ (v : ℕ). let r : Reserved = record { code_base = p.code_base; code_mask = length p.code - u; data_base = p.data_base; data_mask = v } in r) m

pub bundles_ask : BundlesAskTheSame
bundles_ask p none = (
  λ a. (to_bundle p a none, of_bundle p a none),
  same_reserved p 16 (p.data_size - 1) (bundles p.format none) (two_step_mask p.format (data_region p) (bundles_two_steps p.format none)),
  λ registers. (λ typed. typed.stack, of_stack p registers none),
)

pub words_asks : WordsAsk
words_asks p has = (
  λ a. (to_word p a has, of_word p a has),
  same_reserved p 4 (data_mask_of p.format (data_region p)) (words p.format has) refl,
  λ registers. (λ typed. typed.words has, of_words_typed p registers has),
)

pub first_asks : FirstFormatAsksNoStack
first_asks p registers first = of_stack p registers (ap has_words first) (λ has. absurd (false≢true (sym (ap has_stack first) ∙ has)))

-- ==== A sandbox with a right layout can be entered.

-- a memory with these bytes from an address on
pub bytes_over : Bytes → ℕ → List ℕ → Bytes
bytes_over m at [] = m
bytes_over m at (b ∷ bs) = insert (bytes_over m (at + 1) bs) at b

inserted : (m : Bytes) (a b q : ℕ) → byte_at (insert m a b) q ≡ cond (q == a) (Some b) (byte_at m q)
inserted m a b q = get-insert nat_cmp_total m a b q ∙ ap (λ (t : Bool). cond t (Some b) (byte_at m q)) (unsigned_tied q a)

pub inserted_here : (m : Bytes) (a b q : ℕ) → q ≡ a → byte_at (insert m a b) q ≡ Some b
inserted_here m a b q e = inserted m a b q ∙ (let t : (q == a) ≡ true = grind arith in ap (λ (t : Bool). cond t (Some b) (byte_at m q)) t)

pub inserted_elsewhere : (m : Bytes) (a b q : ℕ) → q ≢ a → byte_at (insert m a b) q ≡ byte_at m q
inserted_elsewhere m a b q ne = inserted m a b q ∙ (let t : (q == a) ≡ false = grind arith in ap (λ (t : Bool). cond t (Some b) (byte_at m q)) t)

-- they are there
pub there : (m : Bytes) (at : ℕ) (bs : List ℕ) (k : ℕ) → k < length bs → byte_at (bytes_over m at bs) (at + k) ≡ Some (slice_index bs k)
unfolding bytes_over
there m at [] k below = absurd (omega arith)
there m at (b ∷ bs) zero below = inserted_here (bytes_over m (at + 1) bs) at b (at + 0) (omega arith)
there m at (b ∷ bs) (suc k) below =
    let e : at + suc k ≡ at + 1 + k = omega arith in
    inserted_elsewhere (bytes_over m (at + 1) bs) at b (at + suc k) (λ same. omega arith)
    ∙ ap (byte_at (bytes_over m (at + 1) bs)) e ∙ there m (at + 1) bs k (omega arith)

-- and elsewhere is what was
pub elsewhere : (m : Bytes) (at : ℕ) (bs : List ℕ) (q : ℕ) → (q < at) ⊎ (at + length bs ≤ q) → byte_at (bytes_over m at bs) q ≡ byte_at m q
unfolding bytes_over
elsewhere m at [] q out = refl
elsewhere m at (b ∷ bs) q (inl less) = inserted_elsewhere (bytes_over m (at + 1) bs) at b q (λ same. omega arith) ∙ elsewhere m (at + 1) bs q (inl (omega arith))
elsewhere m at (b ∷ bs) q (inr more) = inserted_elsewhere (bytes_over m (at + 1) bs) at b q (λ same. omega arith) ∙ elsewhere m (at + 1) bs q (inr (omega arith))

one_of : (P : ℕ → ℕ → Type 0) (q a b c : ℕ) (t : Bool) (o : Option ℕ) → (t ≡ true → q ≡ a) → P a b → ((d : ℕ) → o ≡ Some d → P q d) → cond t (Some b) o ≡ Some c → P q c
one_of P q a b c true o at here others e =
    let same : b ≡ c = cc in
    subst (λ (x : ℕ). P x c) (sym (at refl)) (subst (λ (x : ℕ). P a x) same here)
one_of P q a b c false o at here others e = others c e

pub insert_is : (m : Bytes) (a b : ℕ) → IsMemory m → a < 2 ^ 32 → b < 256 → IsMemory (insert m a b)
insert_is m a b is f g = record {
  addresses = λ q c e. one_of (λ x y. x < 2 ^ 32) q a b c (q == a) (byte_at m q) (λ t. grind arith) f (is.addresses q) (sym (inserted m a b q) ∙ e);
  bytes = λ q c e. one_of (λ x y. y < 256) q a b c (q == a) (byte_at m q) (λ t. grind arith) g (is.bytes q) (sym (inserted m a b q) ∙ e);
}

bytes_are : (at : ℕ) (bs : List ℕ) → at + length bs ≤ 2 ^ 32 → ((k : ℕ) → slice_index bs k < 256) → IsMemory (bytes_over empty at bs)
unfolding bytes_over
bytes_are at [] fits small = record {
  addresses = λ a b e. absurd (let none : None ≡ Some b = sym (get-empty nat_cmp a) ∙ e in cc);
  bytes = λ a b e. absurd (let none : None ≡ Some b = sym (get-empty nat_cmp a) ∙ e in cc);
}
bytes_are at (b ∷ bs) fits small = insert_is (bytes_over empty (at + 1) bs) at b (bytes_are (at + 1) bs (omega arith) (λ k. small (suc k))) (omega arith) (small 0)

-- an address is in a guard or in the code, not in both
outside : (p : Part) (a : ℕ) → IsRightPart p → AreApart (code_region p) (guarded_region p) → InGuard p a → (a < p.code_base) ⊎ (p.code_base + length p.code ≤ a)
outside p a right apart guard = by_order guard
  where
    room : 4096 ≤ p.data_base
    room = right.guard_room.below

    not_in : p.data_base - 4096 ≤ a → a < p.data_base + p.data_size + 4096 → (a < p.code_base) ⊎ (p.code_base + length p.code ≤ a)
    not_in low high =
        let room' = room in
        ⊎_elim
        (λ (less : a < p.code_base). inl less)
        (λ (more : p.code_base ≤ a). ⊎_elim
        (λ (less : a < p.code_base + length p.code). absurd (apart a (more, less) (low, omega arith)))
        (λ (past : p.code_base + length p.code ≤ a). inr past)
        (cases_lt a (p.code_base + length p.code)))
        (cases_lt a p.code_base)

    by_order : InGuard p a → (a < p.code_base) ⊎ (p.code_base + length p.code ≤ a)
    by_order (inl (inl (from, below))) = let room' = room in not_in from (omega arith)
    by_order (inl (inr (from, below))) = not_in (omega arith) below
    by_order (inr zone) = by_zone zone.1
      where
        by_zone : InZoneAtZero p.data_size a → (a < p.code_base) ⊎ (p.code_base + length p.code ≤ a)
        by_zone (inl low) = let code = (right.zone_room zone.0).code_above in inl (omega arith)
        by_zone (inr (high, word)) = let code = (right.zone_room zone.0).code_below in inr (omega arith)

-- where the code is known to end within the addresses
pub entered_at : (p : Part) → p.code_base + length p.code ≤ 2 ^ 32 → (h : Hart) → IsRightPart p → AreApart (code_region p) (guarded_region p) → ((k : ℕ) → slice_index p.code k < 256)
    → IsHart h → IsUnitStart p h.pc → HasReserved p.format (reserved_of p) h.registers → IsTyped p h.registers → (m : Bytes) × IsEntry p (record { hart = h; memory = m })
entered_at p end h right apart small hart start reserved typed = (
  bytes_over empty p.code_base p.code,
  record {
    state = record {
      hart = hart;
      memory = bytes_are p.code_base p.code end small;
    };
    start = start;
    reserved = reserved;
    typed = typed;
    code = there empty p.code_base p.code;
    guards = λ a guard. elsewhere empty p.code_base p.code a (outside p a right apart guard) ∙ get-empty nat_cmp a;
  },
)

pub entered : CanBeEntered
entered p h right = entered_at p (code_ends p right) h right

-- ==== A sandbox with a right layout has an entry at each unit of its code.

pub zero_words : (n r : ℕ) → slice_index (replicate n 0) r < 2 ^ 32
zero_words (suc n) (suc r) = zero_words n r
zero_words n r = omega arith

-- a unit has some bytes
pub some_unit : (f : Format) → 4 ≤ unit f
some_unit Sfi1 = omega arith
some_unit Sfi2 = omega arith
some_unit Sfiw = omega arith
some_unit Sfis = omega arith

-- and begins at an even address
pub even_unit : (f : Format) (a : ℕ) → a % unit f ≡ 0 → a % 2 ≡ 0
even_unit Sfi1 a even = omega arith
even_unit Sfi2 a even = omega arith
even_unit Sfiw a even = omega arith
even_unit Sfis a even = omega arith

-- a data register is one of four, or one of two more where masks are single
pub data_register : (f : Format) (d : ℕ) → is_data_register_in f d ≡ true → (d ≡ 2) ⊎ ((d ≡ 3) ⊎ ((d ≡ 4) ⊎ ((d ≡ 29) ⊎ ((has_single_mask f ≡ true) × ((d ≡ 26) ⊎ (d ≡ 31))))))
data_register f d is =
    ⊎_elim
    (λ (four : is_data_register d ≡ true). ⊎_elim
    (λ (e : ((d == 2) || (d == 3) || (d == 4)) ≡ true). ⊎_elim
    (λ (e : ((d == 2) || (d == 3)) ≡ true). ⊎_elim (λ (g : (d == 2) ≡ true). inl (eqb-true d 2 g)) (λ (g : (d == 3) ≡ true). inr (inl (eqb-true d 3 g))) (or_cases (d == 2) (d == 3) e))
    (λ (e : (d == 4) ≡ true). inr (inr (inl (eqb-true d 4 e))))
    (or_cases ((d == 2) || (d == 3)) (d == 4) e))
    (λ (e : (d == 29) ≡ true). inr (inr (inr (inl (eqb-true d 29 e)))))
    (or_cases ((d == 2) || (d == 3) || (d == 4)) (d == 29) four))
    (λ (two : (((d == 26) || (d == 31)) && has_single_mask f) ≡ true).
    let both = and_parts ((d == 26) || (d == 31)) (has_single_mask f) two in
    inr (inr (inr (inr (both.1, ⊎_elim (λ (e : (d == 26) ≡ true). inl (eqb-true d 26 e)) (λ (e : (d == 31) ≡ true). inr (eqb-true d 31 e)) (or_cases (d == 26) (d == 31) both.0))))))
    (or_cases (is_data_register d) (((d == 26) || (d == 31)) && has_single_mask f) is)

-- where these lie beside the data, each data register does
pub each_beside : (f : Format) (data_at : Span) (registers : List ℕ)
    → IsNearIn f data_at slack (slice_index registers 2) → IsNearIn f data_at slack (slice_index registers 3) → IsNearIn f data_at slack (slice_index registers 4) → IsNearIn f data_at slack (slice_index registers 29)
    → (has_single_mask f ≡ true → IsNearIn f data_at slack (slice_index registers 26)) → (has_single_mask f ≡ true → IsNearIn f data_at slack (slice_index registers 31))
    → (d : ℕ) → is_data_register_in f d ≡ true → IsNearIn f data_at slack (slice_index registers d)
each_beside f data_at registers second third fourth last base offset d is = by (data_register f d is)
  where
    at : {r : ℕ} → d ≡ r → IsNearIn f data_at slack (slice_index registers r) → IsNearIn f data_at slack (slice_index registers d)
    at e beside = subst (λ (x : ℕ). IsNearIn f data_at slack (slice_index registers x)) (sym e) beside

    by : (d ≡ 2) ⊎ ((d ≡ 3) ⊎ ((d ≡ 4) ⊎ ((d ≡ 29) ⊎ ((has_single_mask f ≡ true) × ((d ≡ 26) ⊎ (d ≡ 31)))))) → IsNearIn f data_at slack (slice_index registers d)
    by (inl e) = at e second
    by (inr (inl e)) = at e third
    by (inr (inr (inl e))) = at e fourth
    by (inr (inr (inr (inl e)))) = at e last
    by (inr (inr (inr (inr (one, inl e))))) = at e (base one)
    by (inr (inr (inr (inr (one, inr e))))) = at e (offset one)

at_base : (p : Part) (a : ℕ) → 1 ≤ p.data_size → a ≡ p.data_base → IsNearIn p.format (data_region p) slack a
at_base p a some e = inl (record { low = omega arith; high = omega arith })

-- registers with x2 in the data region, the other data registers at its beginning, x30 at that entry and x31 at 0 are typed
pub typed_when : (p : Part) (at : ℕ) (registers : List ℕ) → 1 ≤ p.data_size → IsUnitStart p at → InData p (slice_index registers 2)
    → (has_words p.format ≡ true → slice_index registers 3 ≡ p.data_base) → (has_words p.format ≡ true → slice_index registers 4 ≡ p.data_base) → (has_words p.format ≡ true → slice_index registers 29 ≡ p.data_base)
    → slice_index registers 26 ≡ p.data_base → (has_words p.format ≡ true → slice_index registers 30 ≡ at) → slice_index registers 31 ≡ 0 → IsTyped p registers
typed_when p at registers some start stack third fourth last base code offset =
    let held : (d : ℕ) → slice_index registers d ≡ p.data_base → IsNearIn p.format (data_region p) slack (slice_index registers d) = λ d is. at_base p (slice_index registers d) some is in
    record {
      stack = λ has. stack;
      words = λ has. record {
        each_data = each_beside p.format (data_region p) registers (inl (record { low = omega (arith, stack.0); high = omega (arith, stack.1) })) (held 3 (third has)) (held 4 (fourth has)) (held 29 (last has))
            (λ one. held 26 base) (λ one. inr (one, inl (omega arith)));
        code = subst (IsWordStart (code_region p)) (sym (code has)) (to_word p at has start);
        offset = λ _. omega arith;
      };
    }

-- the data base in each data register, the place in the code register, what is theirs in the reserved ones, 0 in all others
abbrev entry : Part → ℕ → Hart
entry p at =
    let bare : Hart = record { pc = at; registers = replicate 32 0 } in
    with_register (with_register (with_register (with_register (with_register (with_register (with_register (with_register (with_register bare
    2 p.data_base) 3 p.data_base) 4 p.data_base) 29 p.data_base) 30 at) 24 p.code_base) 25 (length p.code - unit p.format)) 26 p.data_base) 27 (data_mask_of p.format (data_region p))

-- the mask has 32 bits
pub mask_fits : (p : Part) → p.data_base + p.data_size + 4096 ≤ 2 ^ 32 → data_mask_of p.format (data_region p) < 2 ^ 32
mask_fits p above = by (has_single_mask p.format) refl
  where
    by : (one : Bool) → has_single_mask p.format ≡ one → data_mask_of p.format (data_region p) < 2 ^ 32
    by true e = let is = one_step_mask p.format (data_region p) e in omega arith
    by false e = let is = two_step_mask p.format (data_region p) e in omega arith

entry_is : (p : Part) (at : ℕ) → p.code_base + length p.code ≤ 2 ^ 32 → IsRightPart p → IsUnitStart p at → IsHart (entry p at)
entry_is p at end right start =
    let above : p.data_base + p.data_size + 4096 ≤ 2 ^ 32 = right.guard_room.above in
    let here : at < 2 ^ 32 = (let held = start.held.1 in omega arith) in
    let bare : IsHart (record { pc = at; registers = replicate 32 0 }) = record { even = even_unit p.format at start.aligned; address = here; count = refl; words = zero_words 32; zero = refl } in
    let base : p.data_base < 2 ^ 32 = omega arith in
    let mask : length p.code - unit p.format < 2 ^ 32 = (let some = some_unit p.format in omega arith) in
    let data_mask : data_mask_of p.format (data_region p) < 2 ^ 32 = mask_fits p above in
    register_is _ 27 (data_mask_of p.format (data_region p)) (register_is _ 26 p.data_base (register_is _ 25 (length p.code - unit p.format) (register_is _ 24 p.code_base (register_is _ 30 at
    (register_is _ 29 p.data_base (register_is _ 4 p.data_base (register_is _ 3 p.data_base (register_is _ 2 p.data_base bare base) base) base) base) here) right.code_base) mask) base) data_mask

entry_reserved : (p : Part) (at : ℕ) → HasReserved p.format (reserved_of p) (entry p at).registers
entry_reserved p at = record { code_base = refl; code_mask = refl; data_base = λ two. refl; data_mask = refl }

entry_typed : (p : Part) (at : ℕ) → 1 ≤ p.data_size → IsUnitStart p at → IsTyped p (entry p at).registers
entry_typed p at some start = typed_when p at (entry p at).registers some start (omega arith, omega arith) (λ has. refl) (λ has. refl) (λ has. refl) refl (λ has. refl) refl

pub entries : HasEntries
entries p at right apart small start =
    let least : 256 ≤ p.data_size = right.data_placed.at_least in
    let at_entry = entered p (entry p at) right apart small (entry_is p at (code_ends p right) right start) start (entry_reserved p at) (entry_typed p at (omega arith) start) in
    (record { hart = entry p at; memory = at_entry.0 }, refl, at_entry.1)
