-- One list of sandboxes is made of what is placed, or it has one fault.
use Rattle.sfi_link.proofs.Prelude.{append_assoc, ◌≡◌, ℕ, ◌+◌, ◌*◌, ◌≤◌, List, [], ◌∷◌, ◌++◌, length, replicate, sym, ap, ◌∙◌, subst, arith, inl, inr, length-append, pos, ◌-ℤ◌, repeat, w32, to_le_bytes, InRange, spelling, Format, Part, fields_of, stub_of, BundleSlot, Wide, Short, Jump, Upper, Lower, Region, PlacedName, slot_size, size_of, slots_of, Placement, Place, Bases, LinkFault, bases_of, value_at, base_at, target_at, with_offset, IsSlot, AreSlots, place_of, spans_at, ends_at, LieApart, Span, spans_of, spans, zone_ends, zone_ends_of, c_ebreak, needed, IsCodeSize, IsLinkedCode, part_with, IsLinked, AreLinkedFrom, AreLinked, HasSlotFault, IsSlotFault, HasPartFault, IsPartFault, IsLinkFault}
use Rattle.std.proofs.lemmas.Option.{none-some}
use Rattle.sfi_image.proofs.Tests.{front_apart, front_clear}
use Rattle.sfi_rewrite.proofs.Sizes.{size_of-append}
use Rattle.sfi_link.proofs.Bytes.{size_fill, length_stubs}
use Rattle.sfi_link.proofs.CleanPlaces.{some_same, made}
use Rattle.sfi_link.proofs.Parts.{slots_length}

-- ---- bytes

one_slot : (at : Bases) (names : List PlacedName) (here : ℕ) (s : BundleSlot) (xs ys : List ℕ) → IsSlot at names here s xs → IsSlot at names here s ys → xs ≡ ys
one_slot at names here (Short f) xs ys a b = a.spelled.1 ∙ sym b.spelled.1
one_slot at names here _ xs ys a b = a.spelled.1 ∙ ap (λ j. to_le_bytes w32 (spelling j)) (some_same a.instr b.instr (sym a.resolves ∙ b.resolves)) ∙ sym b.spelled.1

one_slots : (at : Bases) (names : List PlacedName) (here : ℕ) (slots : List BundleSlot) (xs ys : List ℕ) → AreSlots at names here slots xs → AreSlots at names here slots ys → xs ≡ ys
one_slots at names here [] xs ys a b = a ∙ sym b
one_slots at names here (s ∷ slots) xs ys (f, r, one, others, e) (g, t, two, more, d) =
    e ∙ ap (λ l. l ++ r) (one_slot at names here s f g one two) ∙ ap (λ l. g ++ l) (one_slots at names (here + slot_size s) slots r t others more) ∙ sym d

pub one_size : (f : Format) (bytes m n : ℕ) → IsCodeSize f bytes m → IsCodeSize f bytes n → m ≡ n
one_size f bytes m n a b = let x = a.least n b.has_room in let y = b.least m a.has_room in omega arith

pub code_length : (given : List Place) → (number : ℕ) (p : Placement) (code : List ℕ) (c : IsLinkedCode given number p code) → length code ≡ 16 * length p.gates + (size_of (slots_of p.bundles) + 2 * c.fill)
code_length given number p code c =
    let a = ap length c.code_is ∙ length-append (repeat (length p.gates) (stub_of p.format)) c.bytes in
    let b = length_stubs p.format (length p.gates) in
    let d = slots_length _ _ _ _ c.bytes c.slots in
    let e = size_of-append (slots_of p.bundles) (replicate c.fill c_ebreak) in
    let f = size_fill c.fill in
    omega arith

pub one_code : (given : List Place) → (number : ℕ) (p : Placement) (xs ys : List ℕ) → IsLinkedCode given number p xs → IsLinkedCode given number p ys → xs ≡ ys
one_code given number p xs ys a b =
    let size = one_size p.format (needed p) (length xs) (length ys) a.size b.size in
    let x = code_length given number p xs a in
    let y = code_length given number p ys b in
    let fill : a.fill ≡ b.fill = omega arith in
    let at = bases_of given number p in
    let moved = subst (λ n. AreSlots at p.names at.start (slots_of p.bundles ++ replicate n c_ebreak) a.bytes) fill a.slots in
    a.code_is ∙ ap (λ l. repeat (length p.gates) (stub_of p.format) ++ l) (one_slots at p.names at.start (slots_of p.bundles ++ replicate b.fill c_ebreak) a.bytes b.bytes moved b.slots) ∙ sym b.code_is

-- ---- sandboxes

one_part : (given : List Place) → (number : ℕ) (p : Placement) (q r : Part) → IsLinked given number p q → IsLinked given number p r → q ≡ r
one_part given number p q r a b = a.is ∙ ap (part_with given number p) (one_code given number p q.code r.code a.code b.code) ∙ sym b.is

pub one_linking : (given : List Place) → (number : ℕ) (placed : List Placement) (parts others : List Part) → AreLinkedFrom given number placed parts → AreLinkedFrom given number placed others → parts ≡ others
one_linking given number [] parts others a b = a ∙ sym b
one_linking given number (p ∷ placed) [] others a b = absurd a
one_linking given number (p ∷ placed) (q ∷ parts) [] a b = absurd b
one_linking given number (p ∷ placed) (q ∷ parts) (r ∷ others) a b =
    ap (λ x. x ∷ parts) (one_part given number p q r a.0 b.0) ∙ ap (λ l. r ∷ l) (one_linking given (number + 1) placed parts others a.1 b.1)

-- ---- faults of a slot

-- a slot with a fault has no bytes
never_slot : (at : Bases) (names : List PlacedName) (here : ℕ) (s : BundleSlot) (bytes : List ℕ) (f : LinkFault) → IsSlot at names here s bytes → HasSlotFault at names here s f → ⊥
never_slot at names here (Wide i) bytes f x h = h
never_slot at names here (Short form) bytes f x h = h
never_slot at names here (Jump i k line) bytes f x (inl h) = none-some _ (sym h.0 ∙ (made _ (target_at at names k) x.instr x.resolves).1)
never_slot at names here (Jump i k line) bytes f x (inr h) =
    let aim = λ (to : ℕ). with_offset (pos to -ℤ pos here) i in
    let m = made aim (target_at at names k) x.instr x.resolves in
    h.2 (subst InRange (m.2 ∙ ap aim (some_same m.0 h.0 (sym m.1 ∙ h.1))) x.spelled.0)
never_slot at names here (Upper rd k line) bytes f x h = none-some _ (sym h.0 ∙ (made _ (value_at at names k) x.instr x.resolves).1)
never_slot at names here (Lower rd k line) bytes f x h = none-some _ (sym h.0 ∙ (made _ (value_at at names k) x.instr x.resolves).1)
never_slot at names here (Region rd k line) bytes f x h = none-some _ (sym h.0 ∙ (made _ (base_at names k) x.instr x.resolves).1)

-- a slot has one fault
one_of_slot : (at : Bases) (names : List PlacedName) (here : ℕ) (s : BundleSlot) (f g : LinkFault) → HasSlotFault at names here s f → HasSlotFault at names here s g → f ≡ g
one_of_slot at names here (Wide i) f g a b = absurd a
one_of_slot at names here (Short form) f g a b = absurd a
one_of_slot at names here (Jump i k line) f g (inl a) (inl b) = a.1 ∙ sym b.1
one_of_slot at names here (Jump i k line) f g (inl a) (inr b) = absurd (none-some b.0 (sym a.0 ∙ b.1))
one_of_slot at names here (Jump i k line) f g (inr a) (inl b) = absurd (none-some a.0 (sym b.0 ∙ a.1))
one_of_slot at names here (Jump i k line) f g (inr a) (inr b) = a.3 ∙ sym b.3
one_of_slot at names here _ f g a b = a.1 ∙ sym b.1

-- ---- the first fault

-- slots with bytes have no fault
never_slots : (at : Bases) (names : List PlacedName) (here : ℕ) (slots more : List BundleSlot) (bytes : List ℕ) (f : LinkFault) → AreSlots at names here (slots ++ more) bytes → IsSlotFault at names here slots f → ⊥
never_slots at names here [] more bytes f h x = x
never_slots at names here (s ∷ slots) more bytes f (front, rest, one, others, e) (inl h) = never_slot at names here s front f one h
never_slots at names here (s ∷ slots) more bytes f (front, rest, one, others, e) (inr (b, same, later)) = never_slots at names (here + slot_size s) slots more rest f others later

one_slot_fault : (at : Bases) (names : List PlacedName) (here : ℕ) (slots : List BundleSlot) (f g : LinkFault) → IsSlotFault at names here slots f → IsSlotFault at names here slots g → f ≡ g
one_slot_fault at names here [] f g x y = absurd x
one_slot_fault at names here (s ∷ slots) f g (inl x) (inl y) = one_of_slot at names here s f g x y
one_slot_fault at names here (s ∷ slots) f g (inl x) (inr (b, one, later)) = absurd (never_slot at names here s b f one x)
one_slot_fault at names here (s ∷ slots) f g (inr (b, one, later)) (inl y) = absurd (never_slot at names here s b g one y)
one_slot_fault at names here (s ∷ slots) f g (inr (b, one, later)) (inr (c, two, more)) = one_slot_fault at names (here + slot_size s) slots f g later more

-- ---- of a sandbox

-- its spans are those at its place
pub own_spans : (given : List Place) (number : ℕ) (p : Placement) (q : Part) → IsLinked given number p q → spans_of (fields_of q) ≡ spans_at p (length q.code) (place_of given p.format number)
own_spans given number p q linked = ap (λ (r : Part). spans_of (fields_of r)) linked.is

-- and so is its zone at zero
pub own_ends : (given : List Place) (number : ℕ) (p : Placement) (q : Part) → IsLinked given number p q → zone_ends_of (fields_of q) ≡ ends_at p
own_ends given number p q linked = ap (λ (r : Part). zone_ends_of (fields_of r)) linked.is

-- those at the front lie apart, too
pub front_lies : (es fs : List ℕ) (ss ts : List Span) → LieApart (es ++ fs) (ss ++ ts) → LieApart es ss
front_lies es fs ss ts lie = record { apart = front_apart ss ts lie.apart; clear = front_clear es fs ss ts lie.clear }

never_part : (given : List Place) → (number : ℕ) (p : Placement) (q : Part) (ends : List ℕ) (before : List Span) (f : LinkFault) → IsLinked given number p q → LieApart (ends ++ ends_at p) (before ++ spans_of (fields_of q))
    → HasPartFault given number p ends before f → ⊥
never_part given number p q ends before f linked apart (inl h) = h.0 (length q.code) linked.code.size.has_room
never_part given number p q ends before f linked apart (inr (inl h)) =
    h.1 (record {
      size = length q.code;
      least = linked.code.size;
      right = linked.lies;
      apart = subst (λ (l : List Span). LieApart (ends ++ ends_at p) (before ++ l)) (own_spans given number p q linked) apart;
    })
never_part given number p q ends before f linked apart (inr (inr h)) = never_slots _ _ _ (slots_of p.bundles) (replicate linked.code.fill c_ebreak) linked.code.bytes f linked.code.slots h.1

one_of_part : (given : List Place) → (number : ℕ) (p : Placement) (ends : List ℕ) (before : List Span) (f g : LinkFault) → HasPartFault given number p ends before f → HasPartFault given number p ends before g → f ≡ g
one_of_part given number p ends before f g (inl a) (inl b) = a.1 ∙ sym b.1
one_of_part given number p ends before f g (inl a) (inr (inl b)) = absurd (b.0 a.0)
one_of_part given number p ends before f g (inl a) (inr (inr b)) = absurd (a.0 b.0.size b.0.least.has_room)
one_of_part given number p ends before f g (inr (inl a)) (inl b) = absurd (a.0 b.0)
one_of_part given number p ends before f g (inr (inl a)) (inr (inl b)) = a.2 ∙ sym b.2
one_of_part given number p ends before f g (inr (inl a)) (inr (inr b)) = absurd (a.1 b.0)
one_of_part given number p ends before f g (inr (inr a)) (inl b) = absurd (b.0 a.0.size a.0.least.has_room)
one_of_part given number p ends before f g (inr (inr a)) (inr (inl b)) = absurd (b.1 a.0)
one_of_part given number p ends before f g (inr (inr a)) (inr (inr b)) = one_slot_fault _ _ _ (slots_of p.bundles) f g a.1 b.1

-- ---- of all

-- where sandboxes are linked, and lie apart, none of them has a fault
never_parts : (given : List Place) (number : ℕ) (ends : List ℕ) (before : List Span) (placed : List Placement) (parts : List Part) (f : LinkFault) → AreLinkedFrom given number placed parts
    → LieApart (ends ++ zone_ends parts) (before ++ spans parts) → IsPartFault given number ends before placed f → ⊥
never_parts given number ends before [] parts f linked apart x = x
never_parts given number ends before (p ∷ placed) [] f linked apart x = linked
never_parts given number ends before (p ∷ placed) (q ∷ parts) f linked apart x =
    let own = spans (q ∷ []) in
    let now = ends ++ ends_at p in
    let spelled = sym (append_assoc before own (spans parts)) in
    let ended : ends ++ zone_ends (q ∷ parts) ≡ now ++ zone_ends parts = ap (λ (l : List ℕ). ends ++ (l ++ zone_ends parts)) (own_ends given number p q linked.0) ∙ sym (append_assoc ends (ends_at p) (zone_ends parts)) in
    let split : LieApart (now ++ zone_ends parts) ((before ++ own) ++ spans parts) = subst (LieApart (now ++ zone_ends parts)) spelled (subst (λ (l : List ℕ). LieApart l (before ++ spans (q ∷ parts))) ended apart) in
    elim x [
      | inl h ↦ never_part given number p q ends before f linked.0 (front_lies now (zone_ends parts) (before ++ own) (spans parts) split) h
      | inr (r, one, beside, later) ↦
          let same : r ≡ q = one_part given number p r q one linked.0 in
          never_parts given (number + 1) now (before ++ own) placed parts f linked.1 split (subst (λ (s : Part). IsPartFault given (number + 1) now (before ++ spans (s ∷ [])) placed f) same later)
    ]

one_part_fault : (given : List Place) (number : ℕ) (ends : List ℕ) (before : List Span) (placed : List Placement) (f g : LinkFault) → IsPartFault given number ends before placed f → IsPartFault given number ends before placed g → f ≡ g
one_part_fault given number ends before [] f g x y = absurd x
one_part_fault given number ends before (p ∷ placed) f g (inl x) (inl y) = one_of_part given number p ends before f g x y
one_part_fault given number ends before (p ∷ placed) f g (inl x) (inr (r, two, beside, more)) = absurd (never_part given number p r ends before f two beside x)
one_part_fault given number ends before (p ∷ placed) f g (inr (q, one, apart, later)) (inl y) = absurd (never_part given number p q ends before g one apart y)
one_part_fault given number ends before (p ∷ placed) f g (inr (q, one, apart, later)) (inr (r, two, beside, more)) =
    let same : q ≡ r = one_part given number p q r one two in
    let now = ends ++ ends_at p in
    one_part_fault given (number + 1) now (before ++ spans (r ∷ [])) placed f g (subst (λ (s : Part). IsPartFault given (number + 1) now (before ++ spans (s ∷ [])) placed f) same later) more

pub one_fault : (given : List Place) → (placed : List Placement) (f g : LinkFault) → IsLinkFault given placed f → IsLinkFault given placed g → f ≡ g
one_fault given placed f g (inl a) (inl b) = a.1 ∙ sym b.1
one_fault given placed f g (inl a) (inr (inl b)) = absurd (omega (arith, a.0, b.0))
one_fault given placed f g (inl a) (inr (inr b)) = absurd (omega (arith, a.0, b.0))
one_fault given placed f g (inr (inl a)) (inl b) = absurd (omega (arith, a.0, b.0))
one_fault given placed f g (inr (inl a)) (inr (inl b)) = a.2 ∙ sym b.2
one_fault given placed f g (inr (inl a)) (inr (inr b)) = absurd (omega (arith, a.1, b.1))
one_fault given placed f g (inr (inr a)) (inl b) = absurd (omega (arith, a.0, b.0))
one_fault given placed f g (inr (inr a)) (inr (inl b)) = absurd (omega (arith, a.1, b.1))
one_fault given placed f g (inr (inr a)) (inr (inr b)) = one_part_fault given 0 [] [] placed f g a.2 b.2

pub never_both : (given : List Place) → (placed : List Placement) (parts : List Part) (f : LinkFault) → length placed ≤ 16 → AreLinked given placed parts → IsLinkFault given placed f → ⊥
never_both given placed parts f few linked (inl h) = omega (arith, h.0)
never_both given placed parts f few linked (inr (inl h)) = (let used = linked.used in omega (arith, h.1, used))
never_both given placed parts f few linked (inr (inr h)) = never_parts given 0 [] [] placed parts f linked.each linked.apart h.2
