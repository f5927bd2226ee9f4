-- What is placed has an image, or a fault.
use Rattle.sfi_link.proofs.Prelude.{◌≡◌, ℕ, zero, suc, ◌+◌, ◌-◌, ◌/◌, ◌^◌, ◌<◌, ◌≤◌, List, [], ◌∷◌, ◌++◌, length, Option, Some, None, refl, sym, ap, ◌∙◌, subst, subst₂, arith, inl, inr, ◌⊎◌, ℤ, pos, ◌-ℤ◌, All, repeat, w16, w32, to_le_bytes, cases_lt, cases_eq, ints, All-head, All-tail, Instr, Branch, Jal, InRange, IsReg, spelling, expansion, Format, code_most, data_most, built_code_most, stub_of, BundleSlot, Wide, Short, Jump, Upper, Lower, Region, PlacedName, slot_size, slots_of, Placement, Encodes, IsPlacedPart, Bases, LinkFault, Place, Span, AreApart, spans, zone_ends, place_of, IsRightPlace, spans_at, ends_at, LieApart, bases_of, value_at, base_at, target_at, with_offset, made_of, IsSlot, AreSlots, needed, HasRoom, IsCodeSize, IsLinkedCode, part_with, IsLinked, AreLinkedFrom, AreLinked, AreWritten, MayLie, HasSlotFault, IsSlotFault, HasPartFault, IsPartFault}
use Rattle.rv_comp.specs.Fronts.{halfword_of}
use Rattle.rv_word.specs.Spelling.{modulo, minus, IsBetween}
use Rattle.sfi_link.specs.Laws.{SomeLinking}
use Rattle.std.specs.Prelude.{◌≤ℤ◌}
use Rattle.std.proofs.lemmas.Int.{by_lt_z}
use Rattle.sfi_link.specs.declared.fault.LinkFault.TheVariants.{UnknownName, BranchReach, TooLarge, TooManySandboxes}
use Rattle.std.proofs.Math.Nat.{pow-suc}
use Rattle.std.proofs.lemmas.List.{append-nil, append_assoc}
use Rattle.sfi_image.specs.Spelling as image
use Rattle.sfi_link.specs.declared.fault.LinkFault.TheVariants as named
use Rattle.sfi_image.proofs.Deciding.{Decided, decided_both, decided_lt, decided_pairs, decided_apart, decided_region, decided_guard_room, decided_one_bit, decided_clear, decided_all_clear}
use Rattle.sfi_formats.specs.Formats.{has_single_mask}
use Rattle.std.specs.Prelude.{Bool, true, false}
use Rattle.sfi_link.proofs.OneLinking.{one_size, own_ends}
use Rattle.sfi_link.proofs.Bytes.{length_stubs}
use Rattle.sfi_formats.proofs.Facts.{limits_are_small}
use Rattle.sfi_link.proofs.LinkedClean.{all_are_clean}
use Rattle.sfi_link.proofs.Parts.{linked_is_right}
use Rattle.sfi_link.proofs.Pushed.{upper_slot, lower_slot, region_slot}
use Rattle.sfi_link.proofs.Linking.{small_size, least_size, no_room, linked_code, pair, none_lies}

-- ---- offsets

within : (low high z : ℤ) → Decided (IsBetween low high z)
within low high z = decided_both (le low z) (le z high)
  where
    le : (a b : ℤ) → Decided (a ≤ℤ b)
    le a b = by_lt_z b a (λ lt. inr (λ h. omega (arith, ints))) inl

reaches_or_not : (z : ℤ) (i : Instr) → InRange i → Decided (InRange (with_offset z i))
unfolding InRange
reaches_or_not z (Jal rd offset) h = elim (decided_both (within (minus 1048576) (pos 1048574) z) (cases_eq (modulo 1 z) 0)) [ inl near ↦ inl (h.0, near) | inr far ↦ inr (λ g. far g.1) ]
reaches_or_not z (Branch cond rs1 rs2 offset) h = elim (decided_both (within (minus 4096) (pos 4094) z) (cases_eq (modulo 1 z) 0)) [ inl near ↦ inl (h.0, h.1, near) | inr far ↦ inr (λ g. far g.2) ]
reaches_or_not z _ h = inl h

-- ---- a slot

-- the slot has bytes where it stands, or a fault
abbrev SlotOrFault : Bases → List PlacedName → ℕ → BundleSlot → Type 0
SlotOrFault at names here s = ((bytes : List ℕ) × IsSlot at names here s bytes) ⊎ ((f : LinkFault) × HasSlotFault at names here s f)

jump_slot : (at : Bases) (names : List PlacedName) (here : ℕ) (i : Instr) (name line : ℕ) (to : Option ℕ) → target_at at names name ≡ to → InRange i → SlotOrFault at names here (Jump i name line)
jump_slot at names here i name line None is h = inr (UnknownName line, inl (is, refl))
jump_slot at names here i name line (Some to) is h =
    let made = with_offset (pos to -ℤ pos here) i in
    elim (reaches_or_not (pos to -ℤ pos here) i h) [
      | inl near ↦
          inl (to_le_bytes w32 (spelling made), record { instr = made; resolves = ap (made_of (λ a. with_offset (pos a -ℤ pos here) i)) is; spelled = (near, refl) })
      | inr far ↦ inr (BranchReach line, inr (to, is, far, refl))
    ]

upper_or_fault : (at : Bases) (names : List PlacedName) (here rd name line : ℕ) (address : Option ℕ) → value_at at names name ≡ address → IsReg rd → SlotOrFault at names here (Upper rd name line)
upper_or_fault at names here rd name line None is reg = inr (UnknownName line, (is, refl))
upper_or_fault at names here rd name line (Some a) is reg = inl (_, upper_slot at names here rd name line a is reg)

lower_or_fault : (at : Bases) (names : List PlacedName) (here rd name line : ℕ) (address : Option ℕ) → value_at at names name ≡ address → IsReg rd → SlotOrFault at names here (Lower rd name line)
lower_or_fault at names here rd name line None is reg = inr (UnknownName line, (is, refl))
lower_or_fault at names here rd name line (Some a) is reg = inl (_, lower_slot at names here rd name line a is reg)

region_or_fault : (at : Bases) (names : List PlacedName) (here rd name line : ℕ) (base : Option ℕ) → base_at names name ≡ base → IsReg rd → SlotOrFault at names here (Region rd name line)
region_or_fault at names here rd name line None is reg = inr (UnknownName line, (is, refl))
region_or_fault at names here rd name line (Some base) is reg = inl (_, region_slot at names here rd name line base is reg)

slot_or_fault : (at : Bases) (names : List PlacedName) (here : ℕ) (s : BundleSlot) → Encodes s → SlotOrFault at names here s
slot_or_fault at names here (Wide i) h = inl (to_le_bytes w32 (spelling i), record { instr = i; resolves = refl; spelled = (h, refl) })
slot_or_fault at names here (Short f) h = inl (to_le_bytes w16 (halfword_of f), record { instr = expansion f; resolves = refl; spelled = (h, refl) })
slot_or_fault at names here (Jump i name line) h = jump_slot at names here i name line (target_at at names name) refl h
slot_or_fault at names here (Upper rd name line) h = upper_or_fault at names here rd name line (value_at at names name) refl h
slot_or_fault at names here (Lower rd name line) h = lower_or_fault at names here rd name line (value_at at names name) refl h
slot_or_fault at names here (Region rd name line) h = region_or_fault at names here rd name line (base_at names name) refl h

-- ---- slots

slots_or_fault : (at : Bases) (names : List PlacedName) (here : ℕ) (slots : List BundleSlot) → All Encodes slots
    → ((bytes : List ℕ) × AreSlots at names here slots bytes) ⊎ ((f : LinkFault) × IsSlotFault at names here slots f)
slots_or_fault at names here [] all = inl ([], refl)
slots_or_fault at names here (s ∷ slots) all =
    elim (slot_or_fault at names here s (All-head Encodes s slots all)) [
      | inr wrong ↦ inr (wrong.0, inl wrong.1)
      | inl one ↦ elim (slots_or_fault at names (here + slot_size s) slots (All-tail Encodes s slots all)) [
        | inr wrong ↦ inr (wrong.0, inr (one.0, one.1, wrong.1))
        | inl rest ↦ inl (one.0 ++ rest.0, (one.0, rest.0, one.1, rest.1, refl))
      ]
    ]

-- ---- the code region's size

-- a power of two, the half of which is too few
record NextPower (needed : ℕ) : Type 0 where
  power : ℕ
  enough : needed ≤ 2 ^ power
  half : 2 ^ power / 2 < needed

next_power : (needed d k : ℕ) → 2 ^ k < needed → needed ≤ 2 ^ (k + d) → NextPower needed
next_power needed zero k low high =
    let e : 2 ^ (k + 0) ≡ 2 ^ k = ap (λ n. 2 ^ n) (let z : k + 0 ≡ k = omega arith in z) in
    absurd (omega arith)
next_power needed (suc d) k low high =
    elim (cases_lt (2 ^ suc k) needed) [
      | inl more ↦
          let e : 2 ^ (k + suc d) ≡ 2 ^ (suc k + d) = ap (λ n. 2 ^ n) (let z : k + suc d ≡ suc k + d = omega arith in z) in
          next_power needed d (suc k) more (omega arith)
      | inr enough ↦ let twice = pow-suc 2 k in record { power = suc k; enough = enough; half = omega arith }
    ]

pub size_or_none : (f : Format) (needed : ℕ) → ((size : ℕ) × IsCodeSize f needed size) ⊎ ((size : ℕ) → HasRoom f needed size → ⊥)
size_or_none f needed =
    elim (cases_lt (built_code_most f) needed) [
      | inl large ↦ inr (λ size. no_room f needed size large)
      | inr fits ↦ elim (cases_lt 256 needed) [
        | inr small ↦ inl (256, small_size f needed small)
        | inl more ↦
            let most = (limits_are_small f).2 in
            let next = next_power needed 12 8 more (omega arith) in
            let enough = next.enough in
            inl (2 ^ next.power, least_size f needed (2 ^ next.power) next.power refl enough (omega arith) more fits)
      ]
    ]

-- ---- a sandbox

-- the sandbox is linked after those before, and lies apart
record IsMade (given : List Place) (number : ℕ) (p : Placement) (ends : List ℕ) (before : List Span) : Type 0 where
  part : image.Part
  linked : IsLinked given number p part
  apart : LieApart (ends ++ ends_at p) (before ++ spans (part ∷ []))

part_made : (given : List Place) (number : ℕ) (p : Placement) (ends : List ℕ) (before : List Span) (size : ℕ) (bytes : List ℕ) → IsCodeSize p.format (needed p) size → IsRightPlace p size (place_of given p.format number)
    → LieApart (ends ++ ends_at p) (before ++ spans_at p size (place_of given p.format number)) → AreSlots (bases_of given number p) p.names (bases_of given number p).start (slots_of p.bundles) bytes → IsMade given number p ends before
part_made given number p ends before size bytes sized lies apart slots =
    let at = bases_of given number p in
    let stubs = repeat (length p.gates) (stub_of p.format) in
    let now = stubs ++ bytes in
    let long = length_stubs p.format (length p.gates) in
    let start : at.start ≡ at.code + length stubs = omega arith in
    let written : AreWritten at p.names (slots_of p.bundles) stubs now =
    record { bytes = bytes; appended = refl; spelled = subst (λ n. AreSlots at p.names n (slots_of p.bundles) bytes) start slots } in
    let fill = (size - length now) / 2 in
    let code = now ++ repeat fill pair in
    let linked : IsLinkedCode given number p code = linked_code given number p at size fill stubs now code refl sized refl written refl refl in
    let whole : length code ≡ size = one_size p.format (needed p) (length code) size linked.size sized in
    record {
      part = part_with given number p code;
      linked = record { code = linked; lies = subst (λ n. IsRightPlace p n (place_of given p.format number)) (sym whole) lies; is = refl };
      apart = subst (λ (n : ℕ). LieApart (ends ++ ends_at p) (before ++ spans_at p n (place_of given p.format number))) (sym whole) apart;
    }

-- what is asked under a condition
decided_where : {P : Type 0} (b : Bool) → Decided P → Decided (b ≡ true → P)
decided_where true (inl p) = inl (λ is. p)
decided_where true (inr not) = inr (λ f. not (f refl))
decided_where false d = inl (λ is. absurd cc)

right_place : (p : Placement) (size : ℕ) (place : Place) → Decided (IsRightPlace p size place)
right_place p size place =
    let single = has_single_mask p.format in
    let code_at : Span = record { base = place.code_base; size = size } in
    let data_at : Span = record { base = place.data_base; size = p.data_size } in
    let regions = decided_both (decided_both (decided_lt place.code_base 4294967296) (decided_region place.code_base size 256 (code_most p.format)))
    (decided_both (decided_region place.data_base p.data_size 256 (data_most p.format)) (decided_guard_room place.data_base p.data_size)) in
    let masks = decided_both (decided_where single (decided_one_bit place.data_base p.data_size)) (decided_where single (decided_clear code_at data_at)) in
    elim (decided_both regions masks) [
      | inl all ↦ inl (record { word = all.0.0.0; code = all.0.0.1; «data» = all.0.1.0; one_bit = all.1.0; guard_room = all.0.1.1; zone_room = all.1.1 })
      | inr not ↦ inr (λ r. not (((r.word, r.code), (r.«data», r.guard_room)), (r.one_bit, r.zone_room)))
    ]

-- sandboxes lie apart, or not
apart_or_not : (ends : List ℕ) (ss : List Span) → Decided (LieApart ends ss)
apart_or_not ends ss =
    elim (decided_both (decided_pairs AreApart decided_apart ss) (decided_all_clear ends ss)) [
      | inl both ↦ inl (record { apart = both.0; clear = both.1 })
      | inr not ↦ inr (λ lie. not (lie.apart, lie.clear))
    ]

-- with its code of that size, the sandbox may lie at its place, or not
lies_or_not : (given : List Place) (number : ℕ) (p : Placement) (ends : List ℕ) (before : List Span) (size : ℕ) → IsCodeSize p.format (needed p) size
    → (IsRightPlace p size (place_of given p.format number) × LieApart (ends ++ ends_at p) (before ++ spans_at p size (place_of given p.format number))) ⊎ (MayLie given number p ends before → ⊥)
lies_or_not given number p ends before size sized =
    elim (decided_both (right_place p size (place_of given p.format number)) (apart_or_not (ends ++ ends_at p) (before ++ spans_at p size (place_of given p.format number)))) [
      | inl both ↦ inl both
      | inr not ↦ inr (λ may. let one : may.size ≡ size = one_size p.format (needed p) may.size size may.least sized in
          not (subst (λ n. IsRightPlace p n (place_of given p.format number)) one may.right, subst (λ (n : ℕ). LieApart (ends ++ ends_at p) (before ++ spans_at p n (place_of given p.format number))) one may.apart))
    ]

part_or_fault : (given : List Place) (number : ℕ) (p : Placement) (ends : List ℕ) (before : List Span) → IsPlacedPart p → IsMade given number p ends before ⊎ ((f : LinkFault) × HasPartFault given number p ends before f)
part_or_fault given number p ends before right =
    elim (size_or_none p.format (needed p)) [
      | inr none ↦ inr (TooLarge number, inl (none, refl))
      | inl sized ↦ elim (lies_or_not given number p ends before sized.0 sized.1) [
        | inr nowhere ↦ inr (named.Place number, inr (inl (λ large. large sized.0 sized.1.has_room, nowhere, refl)))
        | inl lies ↦ elim (slots_or_fault (bases_of given number p) p.names (bases_of given number p).start (slots_of p.bundles) right.encodes) [
          | inr wrong ↦ inr (wrong.0, inr (inr (record { size = sized.0; least = sized.1; right = lies.0; apart = lies.1 }, wrong.1)))
          | inl slots ↦ inl (part_made given number p ends before sized.0 slots.0 sized.1 lies.0 lies.1 slots.1)
        ]
      ]
    ]

-- ---- all

-- these are linked, and all lie apart
abbrev LieAll : List Place → ℕ → List ℕ → List Span → List Placement → Type 0
LieAll given number ends before placed = (parts : List image.Part) × AreLinkedFrom given number placed parts × LieApart (ends ++ zone_ends parts) (before ++ spans parts)

-- the first of them, and the others after it
one_more : (given : List Place) (number : ℕ) (p : Placement) (ends : List ℕ) (before : List Span) (placed : List Placement) (made : IsMade given number p ends before)
    → LieAll given (number + 1) (ends ++ ends_at p) (before ++ spans (made.part ∷ [])) placed → LieAll given number ends before (p ∷ placed)
one_more given number p ends before placed made rest =
    let ended : (ends ++ ends_at p) ++ zone_ends rest.0 ≡ ends ++ zone_ends (made.part ∷ rest.0) =
    append_assoc ends (ends_at p) (zone_ends rest.0) ∙ ap (λ (l : List ℕ). ends ++ (l ++ zone_ends rest.0)) (sym (own_ends given number p made.part made.linked)) in
    let spelled = append_assoc before (spans (made.part ∷ [])) (spans rest.0) in
    (made.part ∷ rest.0, (made.linked, rest.1), subst₂ LieApart ended spelled rest.2)

parts_or_fault : (given : List Place) (number : ℕ) (ends : List ℕ) (before : List Span) (placed : List Placement) → All IsPlacedPart placed → LieApart ends before
    → LieAll given number ends before placed ⊎ ((f : LinkFault) × IsPartFault given number ends before placed f)
parts_or_fault given number ends before [] right apart = inl ([], refl, subst₂ LieApart (sym (append-nil ends)) (sym (append-nil before)) apart)
parts_or_fault given number ends before (p ∷ placed) right apart =
    elim (part_or_fault given number p ends before (All-head IsPlacedPart p placed right)) [
      | inr wrong ↦ inr (wrong.0, inl wrong.1)
      | inl made ↦ elim (parts_or_fault given (number + 1) (ends ++ ends_at p) (before ++ spans (made.part ∷ [])) placed (All-tail IsPlacedPart p placed right) made.apart) [
        | inr wrong ↦ inr (wrong.0, inr (made.part, made.linked, made.apart, wrong.1))
        | inl rest ↦ inl (one_more given number p ends before placed made rest)
      ]
    ]

pub some_linking : SomeLinking
some_linking given placed is =
    elim (cases_lt 16 (length placed)) [
      | inl many ↦ inr (TooManySandboxes, inl (many, refl))
      | inr few ↦ elim (cases_lt (length placed) (length given)) [
        | inl unused ↦ inr (named.Place (length placed), inr (inl (few, unused, refl)))
        | inr used ↦ elim (parts_or_fault given 0 [] [] placed is.each none_lies) [
          | inr wrong ↦ inr (wrong.0, inr (inr (few, used, wrong.1)))
          | inl made ↦
              let linked : AreLinked given placed made.0 = record { used = used; each = made.1; apart = made.2 } in
              inl (
                image.spelling made.0,
                record {
                  parts = made.0;
                  linked = linked;
                  image = record { bytes_are = refl; layout = linked_is_right given placed made.0 is few linked };
                  none_found = all_are_clean given 0 placed made.0 is.each made.1;
                },
              )
        ]
      ]
    ]
