-- Instructions and slots of code in words break no rule, one after another.
use Rattle.sfi_link.proofs.Prelude.{◌≡◌, ℕ, ◌+◌, List, [], ◌∷◌, ◌++◌, Some, None, Bool, true, false, refl, sym, ap, ◌∙◌, ◌&&◌, ◌||◌, not, Instr, Piece, ◌⊎◌, Option, subst, arith, inl, inr, MatchBool, Op, BundleSlot, Wide, Short, PlacedName, slot_size, size_of, Bases, resolved}
use Rattle.std.specs.Prelude.{is_some, if◌then◌else◌}
use Rattle.rv_word.specs.Outlines.{destination, writes_register}
use Rattle.sfi_image.specs.declared.bundle.BundlePlace.{BundlePlace}
use Rattle.sfi_rules.specs.declared.owed.Owed.{Owed}
use Rattle.sfi_rules.proofs.Facts.{none_of}
use Rattle.sfi_formats.specs.declared.format.Format.{Format}
use Rattle.sfi_rules.specs.words.Rules.{breaks_ecall, breaks_reserved, breaks_access, breaks_jump, breaks_target, breaks_offset, left, owed_by, joined, owed_next, is_of_data, is_of_code}
use Rattle.sfi_rules.specs.words.Findings.{InstrInWord, is_at_gate, is_data_one, breaks_last, lowest, found_at, found_from, owed_past}
use Rattle.rv_word.specs.declared.instr.RegOp.TheVariants.{And, Or}
use Rattle.sfi_formats.specs.Formats.{is_data_register, has_single_mask}
use Rattle.sfi_rewrite.specs.Expansion.{IsAlone}
use Rattle.sfi_rewrite.specs.words.Expansion.{data_mask, mask_after}
use Rattle.sfi_rules.specs.declared.owed.Owed.TheVariants as kind
use Rattle.sfi_rewrite.proofs.Sizes.{size_of-cons}
use Rattle.sfi_link.proofs.CleanPlaces.{some_same}
use Rattle.sfi_link.proofs.WordOwing.{of_data, IsMaskOwed}

-- ==== No rule is broken at the place of an instruction of code in words, and that is owed after it.

-- ---- what is asked of an instruction

-- the instruction breaks none of the rules that look at it and its address alone
pub record IsLawful (f : Format) (base size at : ℕ) (i : Instr) : Type 0 where
  pub reserved : breaks_reserved f i ≡ false
  pub access : breaks_access f i ≡ false
  pub jump : breaks_jump i ≡ false
  pub target : breaks_target base size at i ≡ false
  pub offset : breaks_offset f i ≡ false

-- it is what was owed, and after it the rest of that is owed, or what it owes itself
pub record Meets (f : Format) (owed : Owed) (i : Instr) (next : Owed) : Type 0 where
  pub rest : Owed
  pub pays : left f owed i ≡ Some rest
  pub own : Owed
  pub owes : owed_by f i ≡ Some own
  pub next_is : joined (Some rest) (Some own) ≡ next

-- what is asked, each by its own proof
pub lawful_by : {f : Format} {base size at : ℕ} {i : Instr} → breaks_reserved f i ≡ false → breaks_access f i ≡ false → breaks_jump i ≡ false → breaks_target base size at i ≡ false → breaks_offset f i ≡ false → IsLawful f base size at i
lawful_by reserved access jump target offset = record { reserved = reserved; access = access; jump = jump; target = target; offset = offset }

pub meets_by : {f : Format} {owed next : Owed} {i : Instr} (rest own : Owed) → left f owed i ≡ Some rest → owed_by f i ≡ Some own → joined (Some rest) (Some own) ≡ next → Meets f owed i next
meets_by rest own pays owes next_is = record { rest = rest; pays = pays; own = own; owes = owes; next_is = next_is }

-- ---- no rule is broken there

-- the place of an instruction of `n` bytes at address `at`
abbrev pub place : BundlePlace → ℕ → Owed → Instr → ℕ → InstrInWord
place b at owed i n = record { bundle = b; address = at; owed = owed; instr = i; size = n }

none_fails : (a b l w : Bool) → l ≡ true → w ≡ true → ((a && not l) || (b && not w)) ≡ false
none_fails true true l w e f = rw (e, f) refl
none_fails true false l w e f = rw e refl
none_fails false true l w e f = rw f refl
none_fails false false l w e f = refl

none_lowest : (b : BundlePlace) (at n : ℕ) (owed next : Owed) (i : Instr) → breaks_ecall (is_at_gate b at) i ≡ false → IsLawful b.format b.code_base b.code_size at i → breaks_last (place b at owed i n) ≡ false → Meets b.format owed i next
    → lowest (place b at owed i n) ≡ None
none_lowest b at n owed next i gate h last m =
    none_of (place b at owed i n)
    (record {
      v3 = gate;
      v4 = h.reserved;
      v5 = h.access;
      v6 = h.jump;
      v7 = h.target;
      v8 = last;
      v10 = none_fails (is_of_data owed) (is_data_one b.format (destination i)) _ _ (ap is_some m.pays) (ap is_some m.owes);
      v11 = none_fails (is_of_code owed) (writes_register 30 i) _ _ (ap is_some m.pays) (ap is_some m.owes);
      v12 = h.offset;
    })

owed_after : (f : Format) (owed next : Owed) (i : Instr) → Meets f owed i next → owed_next f owed i ≡ next
owed_after f owed next i m = ap (λ l. joined l (owed_by f i)) m.pays ∙ ap (λ w. joined (Some m.rest) w) m.owes ∙ m.next_is

-- ---- pieces one after another

-- nothing is found at these pieces, and that is owed after them
pub record IsQuietFrom (b : BundlePlace) (at : ℕ) (owed : Owed) (reading : List Piece) (next : Owed) : Type 0 where
  pub none : found_from b at owed reading ≡ []
  pub left : next ≡ owed_past b.format owed reading

pub quiet_end : (b : BundlePlace) (at : ℕ) (owed : Owed) → IsQuietFrom b at owed [] owed
quiet_end b at owed = record { none = refl; left = refl }

pub quiet_piece : (b : BundlePlace) (at n : ℕ) (owed between next : Owed) (i : Instr) (later : List Piece) → breaks_ecall (is_at_gate b at) i ≡ false → IsLawful b.format b.code_base b.code_size at i
    → breaks_last (place b at owed i n) ≡ false → Meets b.format owed i between → IsQuietFrom b (at + n) between later next → IsQuietFrom b at owed (record { instr = i; size = n } ∷ later) next
quiet_piece b at n owed between next i later gate h last m q =
    let none : lowest (place b at owed i n) ≡ None = none_lowest b at n owed between i gate h last m in
    let after = owed_after b.format owed between i m in
    record {
      none = ap (λ o. found_at b at o ++ found_from b (at + n) (owed_next b.format owed i) later) none ∙ ap (λ o. found_from b (at + n) o later) after ∙ q.none;
      left = q.left ∙ ap (λ o. owed_past b.format o later) (sym after);
    }

-- ==== Slots of code in words: their instructions break no rule, one after another, and pay what is owed.

-- an instruction that is no ecall breaks no rule there, and is what was owed
pub record IsRight (f : Format) (base size here : ℕ) (owed : Owed) (i : Instr) (next : Owed) : Type 0 where
  pub no_ecall : (gate : Bool) → breaks_ecall gate i ≡ false
  pub lawful : IsLawful f base size here i
  pub meets : Meets f owed i next

-- the slots' instructions are, from there on, one after another
abbrev pub AreRight : Format → ℕ → ℕ → Bases → List PlacedName → ℕ → Owed → List BundleSlot → Owed → Type 0
AreRight f base size at names here owed [] next = next ≡ owed
AreRight f base size at names here owed (s ∷ slots) next =
    (i : Instr) → resolved at names here s ≡ Some i → (between : Owed) × IsRight f base size here owed i between × AreRight f base size at names (here + slot_size s) between slots next

pub right_append : (f : Format) (base size : ℕ) (at : Bases) (names : List PlacedName) (here : ℕ) (owed between next : Owed) (xs ys : List BundleSlot) → AreRight f base size at names here owed xs between
    → AreRight f base size at names (here + size_of xs) between ys next → AreRight f base size at names here owed (xs ++ ys) next
right_append f base size at names here owed between next [] ys a b =
    let e : here + 0 ≡ here = omega arith in
    subst (λ n. AreRight f base size at names n owed ys next) e (subst (λ o. AreRight f base size at names (here + 0) o ys next) a b)
right_append f base size at names here owed between next (s ∷ xs) ys a b = λ i r.
    let one = a i r in
    let sized = size_of-cons s xs in
    let e : here + size_of (s ∷ xs) ≡ here + slot_size s + size_of xs = omega arith in
    (one.0, one.1, right_append f base size at names (here + slot_size s) one.0 between next xs ys one.2 (subst (λ n. AreRight f base size at names n between ys next) e b))

-- at an instruction that is known
pub right_known : (f : Format) (base size : ℕ) (at : Bases) (names : List PlacedName) (here : ℕ) (owed between next : Owed) (s : BundleSlot) (i : Instr) (more : List BundleSlot) → resolved at names here s ≡ Some i
    → IsRight f base size here owed i between → AreRight f base size at names (here + slot_size s) between more next → AreRight f base size at names here owed (s ∷ more) next
right_known f base size at names here owed between next s i more e one rest = λ j r.
    (between, subst (λ k. IsRight f base size here owed k between) (some_same i j (sym e ∙ r)) one, rest)

pub right_alone : (f : Format) (base size : ℕ) (at : Bases) (names : List PlacedName) (here : ℕ) (owed next : Owed) (rvc : Bool) (i : Instr) (slots : List BundleSlot) → IsAlone rvc i slots → IsRight f base size here owed i next
    → AreRight f base size at names here owed slots next
right_alone f base size at names here owed next false i slots a one =
    subst (λ v. AreRight f base size at names here owed v next) (sym a) (right_known f base size at names here owed next next (Wide i) i [] refl one refl)
right_alone f base size at names here owed next true i slots (inl g) one =
    subst (λ v. AreRight f base size at names here owed v next) (sym g.2) (right_known f base size at names here owed next next (Short g.0) i [] (ap Some g.1.expands) one refl)
right_alone f base size at names here owed next true i slots (inr w) one =
    subst (λ v. AreRight f base size at names here owed v next) (sym w.1) (right_known f base size at names here owed next next (Wide i) i [] refl one refl)

-- ---- masks

-- the mask of a into d pays for what is owed, in two steps or in one
record MaskMeets (f : Format) (d a : ℕ) (owed : Owed) : Type 0 where
  two : has_single_mask f ≡ false → (between : Owed) × Meets f owed (Op And 31 a 27) between × Meets f between (Op Or d 31 26) kind.Nothing
  one : has_single_mask f ≡ true → Meets f owed (Op And d a 27) kind.Nothing

-- so it does where nothing is owed
free_meets : (f : Format) (d a : ℕ) → is_data_register d ≡ true → MaskMeets f d a kind.Nothing
free_meets f d a typed = record {
  two = λ two. (
    kind.Nothing,
    meets_by kind.Nothing kind.Nothing refl (rw two refl) refl,
    of_data (λ e. Meets f kind.Nothing (Op Or e 31 26) kind.Nothing)
        (meets_by kind.Nothing kind.Nothing refl (rw two refl) refl) (meets_by kind.Nothing kind.Nothing refl (rw two refl) refl)
        (meets_by kind.Nothing kind.Nothing refl (rw two refl) refl) (meets_by kind.Nothing kind.Nothing refl (rw two refl) refl) d typed,
  );
  one = λ one. of_data (λ e. Meets f kind.Nothing (Op And e a 27) kind.Nothing)
      (meets_by kind.Nothing kind.Nothing refl (rw one refl) refl) (meets_by kind.Nothing kind.Nothing refl (rw one refl) refl)
      (meets_by kind.Nothing kind.Nothing refl (rw one refl) refl) (meets_by kind.Nothing kind.Nothing refl (rw one refl) refl) d typed;
}

-- and where the mask of d is, or that or a use
abbrev IsOwedFor : ℕ → Owed → Type 0
IsOwedFor d owed = (owed ≡ kind.Mask d) ⊎ (owed ≡ kind.MaskOrUse d)

-- `or d, x31, x26` where it is owed
put_meets : (f : Format) → has_single_mask f ≡ false → (d : ℕ) → is_data_register d ≡ true → Meets f (kind.PlaceOnly d) (Op Or d 31 26) kind.Nothing
put_meets f two = of_data (λ e. Meets f (kind.PlaceOnly e) (Op Or e 31 26) kind.Nothing)
    (meets_by kind.Nothing kind.Nothing (rw two refl) (rw two refl) refl) (meets_by kind.Nothing kind.Nothing (rw two refl) (rw two refl) refl)
    (meets_by kind.Nothing kind.Nothing (rw two refl) (rw two refl) refl) (meets_by kind.Nothing kind.Nothing (rw two refl) (rw two refl) refl)

first_meets : (f : Format) → has_single_mask f ≡ false → (d : ℕ) → is_data_register d ≡ true
    → Meets f (kind.Mask d) (Op And 31 d 27) (kind.PlaceOnly d) × Meets f (kind.MaskOrUse d) (Op And 31 d 27) (kind.PlaceOnly d)
first_meets f two = of_data (λ e. Meets f (kind.Mask e) (Op And 31 e 27) (kind.PlaceOnly e) × Meets f (kind.MaskOrUse e) (Op And 31 e 27) (kind.PlaceOnly e))
    (meets_by (kind.PlaceOnly 2) kind.Nothing (rw two refl) (rw two refl) refl, meets_by (kind.PlaceOnly 2) kind.Nothing (rw two refl) (rw two refl) refl)
    (meets_by (kind.PlaceOnly 3) kind.Nothing (rw two refl) (rw two refl) refl, meets_by (kind.PlaceOnly 3) kind.Nothing (rw two refl) (rw two refl) refl)
    (meets_by (kind.PlaceOnly 4) kind.Nothing (rw two refl) (rw two refl) refl, meets_by (kind.PlaceOnly 4) kind.Nothing (rw two refl) (rw two refl) refl)
    (meets_by (kind.PlaceOnly 29) kind.Nothing (rw two refl) (rw two refl) refl, meets_by (kind.PlaceOnly 29) kind.Nothing (rw two refl) (rw two refl) refl)

one_meets : (f : Format) → has_single_mask f ≡ true → (d : ℕ) → is_data_register d ≡ true
    → Meets f (kind.Mask d) (Op And d d 27) kind.Nothing × Meets f (kind.MaskOrUse d) (Op And d d 27) kind.Nothing
one_meets f one = of_data (λ e. Meets f (kind.Mask e) (Op And e e 27) kind.Nothing × Meets f (kind.MaskOrUse e) (Op And e e 27) kind.Nothing)
    (meets_by kind.Nothing kind.Nothing (rw one refl) (rw one refl) refl, meets_by kind.Nothing kind.Nothing (rw one refl) (rw one refl) refl)
    (meets_by kind.Nothing kind.Nothing (rw one refl) (rw one refl) refl, meets_by kind.Nothing kind.Nothing (rw one refl) (rw one refl) refl)
    (meets_by kind.Nothing kind.Nothing (rw one refl) (rw one refl) refl, meets_by kind.Nothing kind.Nothing (rw one refl) (rw one refl) refl)
    (meets_by kind.Nothing kind.Nothing (rw one refl) (rw one refl) refl, meets_by kind.Nothing kind.Nothing (rw one refl) (rw one refl) refl)

owed_meets : (f : Format) (d : ℕ) (owed : Owed) → is_data_register d ≡ true → IsOwedFor d owed → MaskMeets f d d owed
owed_meets f d owed typed (inl is) = subst (MaskMeets f d d) (sym is) (record {
  two = λ two. (kind.PlaceOnly d, (first_meets f two d typed).0, put_meets f two d typed);
  one = λ one. (one_meets f one d typed).0;
})
owed_meets f d owed typed (inr is) = subst (MaskMeets f d d) (sym is) (record {
  two = λ two. (kind.PlaceOnly d, (first_meets f two d typed).1, put_meets f two d typed);
  one = λ one. (one_meets f one d typed).1;
})

-- the slots of the mask
mask_then : (f : Format) (base size : ℕ) (at : Bases) (names : List PlacedName) (here d a : ℕ) (owed : Owed) → is_data_register d ≡ true → MaskMeets f d a owed → AreRight f base size at names here owed (data_mask f d a) kind.Nothing
mask_then f base size at names here d a owed typed m = by (has_single_mask f) refl
  where
    put : (there : ℕ) → IsLawful f base size there (Op Or d 31 26)
    put there = of_data (λ e. IsLawful f base size there (Op Or e 31 26)) (lawful_by refl refl refl refl refl) (lawful_by refl refl refl refl refl) (lawful_by refl refl refl refl refl) (lawful_by refl refl refl refl refl) d typed

    by : (one : Bool) → has_single_mask f ≡ one → AreRight f base size at names here owed (if one then Wide (Op And d a 27) ∷ [] else Wide (Op And 31 a 27) ∷ Wide (Op Or d 31 26) ∷ []) kind.Nothing
    by true e =
        right_known f base size at names here owed kind.Nothing kind.Nothing (Wide (Op And d a 27)) (Op And d a 27) [] refl
        (record {
          no_ecall = λ gate. refl;
          lawful = of_data (λ r. IsLawful f base size here (Op And r a 27)) (lawful_by refl refl refl refl refl) (lawful_by refl refl refl refl refl) (lawful_by refl refl refl refl refl) (lawful_by refl refl refl refl refl) d typed;
          meets = m.one e;
        })
        refl
    by false e =
        let t = m.two e in
        right_known f base size at names here owed t.0 kind.Nothing (Wide (Op And 31 a 27)) (Op And 31 a 27) (Wide (Op Or d 31 26) ∷ []) refl
        (record { no_ecall = λ gate. refl; lawful = lawful_by refl refl refl refl (rw e refl); meets = t.1 })
        (right_known f base size at names (here + 4) t.0 kind.Nothing kind.Nothing (Wide (Op Or d 31 26)) (Op Or d 31 26) [] refl
        (record { no_ecall = λ gate. refl; lawful = put (here + 4); meets = t.2 }) refl)

-- where nothing is owed
pub mask_right : (f : Format) (base size : ℕ) (at : Bases) (names : List PlacedName) (here d a : ℕ) → is_data_register d ≡ true → AreRight f base size at names here kind.Nothing (data_mask f d a) kind.Nothing
mask_right f base size at names here d a typed = mask_then f base size at names here d a kind.Nothing typed (free_meets f d a typed)

-- after a write of the register
pub after_right : (f : Format) (base size : ℕ) (at : Bases) (names : List PlacedName) (here : ℕ) (owed : Owed) (to : Option ℕ) → IsMaskOwed owed to → AreRight f base size at names here owed (mask_after f to) kind.Nothing
after_right f base size at names here owed None m = sym m
after_right f base size at names here owed (Some d) m = by (is_data_register d) refl m
  where
    by : (t : Bool) → is_data_register d ≡ t → MatchBool t (IsOwedFor d owed) (owed ≡ kind.Nothing) → AreRight f base size at names here owed (if t then data_mask f d d else []) kind.Nothing
    by false e m = sym m
    by true e m = mask_then f base size at names here d d owed e (owed_meets f d owed e m)
