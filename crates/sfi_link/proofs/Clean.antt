-- A bundle of whole expansions breaks no rule.
use Rattle.sfi_link.proofs.Prelude.{◌≡◌, ℕ, zero, suc, ◌+◌, ◌^◌, ◌<◌, ◌≤◌, List, [], ◌∷◌, ◌++◌, length, Option, Some, None, Bool, true, false, refl, sym, ap, ◌∙◌, subst, arith, append_assoc, inl, inr, replicate, ℤ, pos, negsuc, ◌-ℤ◌, ◌==◌, ◌&&◌, ◌||◌, not, MatchBool, Addi, Instr, Op, OpImm, Load, Store, Branch, Jal, Jalr, Lui, Fence, Ecall, Ebreak, has_stack, is_stack, IsBody, Piece, upper, lower, BundleSlot, Wide, Short, Jump, Upper, Lower, Region, PlacedName, slot_size, size_of, c_nop, AreWhole, nothing, padding, Bases, target_at, value_at, base_at, with_offset, c_ebreak, resolved, made_of, AreSlots}
use Rattle.sfi_source.specs.declared.item.Body.{Body}
use Rattle.sfi_source.specs.declared.item.Body.TheVariants.{Plain, To, High, Low, Base}
use Rattle.rv_word.specs.Spelling.{offset_by}
use Rattle.rv_word.specs.Outlines.{destination, is_register, writes_register}
use Rattle.rv_word.specs.declared.instr.RegOp.TheVariants.{Add, And, Or}
use Rattle.sfi_formats.specs.Formats.{is_reserved, is_withheld, has_words}
use Rattle.sfi_formats.specs.declared.format.Format.{Format}
use Rattle.sfi_formats.specs.declared.format.Format.TheVariants.{Sfi1, Sfi2, Sfiw, Sfis}
use Rattle.std.proofs.lemmas.Bool.{true≢false}
use Rattle.sfi_rewrite.specs.Expansion.{jump_to_x31, jump_slots, IsAlone, IsMasked, IsExpansionOf, names_withheld, item_names_withheld, is_ecall}
use Rattle.sfi_rules.specs.Readings.{follows_data_pair, writes_stack, begins_pair, ends_pair, precedes_pair, is_jump}
use Rattle.sfi_rules.specs.Rules.{is_bundle_start, breaks_reserved, breaks_stack}
use Rattle.sfi_image.specs.declared.bundle.BundlePlace.{BundlePlace}
use Rattle.sfi_rewrite.specs.Placed.{expansion as whole_expansion}
use Rattle.std.proofs.lemmas.Bool as bool
use Rattle.sfi_rewrite.specs.Expansion as stack
use Rattle.sfi_rewrite.proofs.Sizes.{size_of-cons}
use Rattle.sfi_link.proofs.Bytes.{slot_some}
use Rattle.sfi_link.proofs.CleanPlaces.{AreStarts, IsReadAs, IsCleanFrom, passes, place, or_left, unreserved, is_calm, writes_unreserved, calm, no_write, well_written, pair_read, or_read, second_false, on_stack, lands, direct, PassesBefore, step, some_same, made, slot_spells, lone_ends}

-- ---- slot by slot

-- the bytes of the slots, from there on, are read whole, without a finding
abbrev pub IsCleanly : BundlePlace → Bases → List PlacedName → ℕ → List Instr → List BundleSlot → Type 0
IsCleanly b at names here earlier slots =
    here + size_of slots ≤ 2 ^ 32 → (bytes : List ℕ) → AreSlots at names here slots bytes → IsCleanFrom b here earlier slots bytes

-- the slot's instruction breaks no rule there, and what stands after it none either
record CanStep (b : BundlePlace) (at : Bases) (names : List PlacedName) (here : ℕ) (earlier : List Instr) (x : BundleSlot) (more : List BundleSlot) (i : Instr) : Type 0 where
  own : IsReadAs x (record { instr = i; size = slot_size x })
  passes : PassesBefore b here earlier i more
  rest : IsCleanly b at names (here + slot_size x) (i ∷ earlier) more

slot_step : (b : BundlePlace) (at : Bases) (names : List PlacedName) (here : ℕ) (earlier : List Instr) (x : BundleSlot) (more : List BundleSlot)
    → ((i : Instr) → resolved at names here x ≡ Some i → CanStep b at names here earlier x more i) → IsCleanly b at names here earlier (x ∷ more)
slot_step b at names here earlier x more can room bytes (front, rest, s, others, e) =
    let size = slot_some x in
    let sized = size_of-cons x more in
    let c = can s.instr s.resolves in
    step b here earlier bytes front rest s.instr (slot_size x) (slot_spells at names here x front s) e x more refl c.own (lone_ends at names here x s.instr s.resolves)
    (c.rest (omega arith) rest others) c.passes

-- at an instruction that is known
known : (b : BundlePlace) (at : Bases) (names : List PlacedName) (here : ℕ) (earlier : List Instr) (x : BundleSlot) (i : Instr) (more : List BundleSlot)
    → resolved at names here x ≡ Some i → IsReadAs x (record { instr = i; size = slot_size x }) → PassesBefore b here earlier i more → IsCleanly b at names (here + slot_size x) (i ∷ earlier) more
    → IsCleanly b at names here earlier (x ∷ more)
known b at names here earlier x i more r own passes rest =
    slot_step b at names here earlier x more
    (λ j q. subst (CanStep b at names here earlier x more) (some_same i j (sym r ∙ q)) (record { own = own; passes = passes; rest = rest }))

wide : (b : BundlePlace) (at : Bases) (names : List PlacedName) (here : ℕ) (earlier : List Instr) (i : Instr) (more : List BundleSlot)
    → PassesBefore b here earlier i more → IsCleanly b at names (here + 4) (i ∷ earlier) more → IsCleanly b at names here earlier (Wide i ∷ more)
wide b at names here earlier i more passes rest = known b at names here earlier (Wide i) i more refl refl passes rest

-- what stands after is clean wherever it stands
abbrev IsCleanAfter : BundlePlace → Bases → List PlacedName → List BundleSlot → Type 0
IsCleanAfter b at names more = (here : ℕ) (earlier : List Instr) → IsCleanly b at names here earlier more

-- an instruction as it is
alone : (b : BundlePlace) (at : Bases) (names : List PlacedName) (here : ℕ) (earlier : List Instr) (rvc : Bool) (i : Instr) (expanded more : List BundleSlot)
    → IsAlone rvc i expanded → PassesBefore b here earlier i more → IsCleanAfter b at names more → IsCleanly b at names here earlier (expanded ++ more)
alone b at names here earlier false i expanded more a passes rest =
    subst (λ v. IsCleanly b at names here earlier (v ++ more)) (sym a) (wide b at names here earlier i more passes (rest (here + 4) (i ∷ earlier)))
alone b at names here earlier true i expanded more a passes rest =
    elim a [
      | inl s ↦
          subst (λ v. IsCleanly b at names here earlier (v ++ more)) (sym s.2)
          (known b at names here earlier (Short s.0) i more (ap Some s.1.expands) tt passes (rest (here + 2) (i ∷ earlier)))
      | inr w ↦ subst (λ v. IsCleanly b at names here earlier (v ++ more)) (sym w.1) (wide b at names here earlier i more passes (rest (here + 4) (i ∷ earlier)))
    ]

-- what makes an address in x31
into_x31 : (b : BundlePlace) (here : ℕ) (earlier : List Instr) (i : Instr) (more : List BundleSlot) → is_calm i ≡ true → destination i ≡ Some 31 → PassesBefore b here earlier i more
into_x31 b here earlier i more c d later read e =
    calm b here earlier i later c (ap is_reserved_of d)
    (no_write (place b here earlier i later) i (ap (λ o. has_stack b.format && is_register 2 o) d ∙ bool.and_right (has_stack b.format) false refl)) e
  where
    is_reserved_of : Option ℕ → Bool
    is_reserved_of None = false
    is_reserved_of (Some r) = is_reserved r

-- a pair on x31, and what uses it
pair_then : (b : BundlePlace) (at : Bases) (names : List PlacedName) (here : ℕ) (earlier : List Instr) (a mask base : ℕ) (i : Instr) (more : List BundleSlot)
    → PassesBefore b (here + 4 + 4) (Op Or 31 31 base ∷ Op And 31 a mask ∷ earlier) i more → IsCleanAfter b at names more
    → IsCleanly b at names here earlier (Wide (Op And 31 a mask) ∷ Wide (Op Or 31 31 base) ∷ Wide i ∷ more)
pair_then b at names here earlier a mask base i more passes rest =
    wide b at names here earlier (Op And 31 a mask) (Wide (Op Or 31 31 base) ∷ Wide i ∷ more)
    (into_x31 b here earlier (Op And 31 a mask) (Wide (Op Or 31 31 base) ∷ Wide i ∷ more) refl refl)
    (wide b at names (here + 4) (Op And 31 a mask ∷ earlier) (Op Or 31 31 base) (Wide i ∷ more)
    (into_x31 b (here + 4) (Op And 31 a mask ∷ earlier) (Op Or 31 31 base) (Wide i ∷ more) refl refl)
    (wide b at names (here + 4 + 4) (Op Or 31 31 base ∷ Op And 31 a mask ∷ earlier) i more passes
    (rest (here + 4 + 4 + 4) (i ∷ Op Or 31 31 base ∷ Op And 31 a mask ∷ earlier))))

-- the pair that puts the stack pointer back
stack_pair_then : (b : BundlePlace) (at : Bases) (names : List PlacedName) (here : ℕ) (earlier : List Instr) (more : List BundleSlot)
    → IsCleanAfter b at names more → IsCleanly b at names here earlier (stack.stack_pair ++ more)
stack_pair_then b at names here earlier more rest =
    wide b at names here earlier (Op And 2 2 27) (Wide (Op Or 2 2 26) ∷ more)
    (λ later read e.
    calm b here earlier (Op And 2 2 27) later refl refl
    (well_written (place b here earlier (Op And 2 2 27) later) (Op And 2 2 27) (bool.or_left (begins_pair (Op And 2 2 27) later || ends_pair earlier (Op And 2 2 27)) (precedes_pair later) (bool.or_left (begins_pair (Op And 2 2 27) later) (ends_pair earlier (Op And 2 2 27)) (or_read more later read)))) e)
    (wide b at names (here + 4) (Op And 2 2 27 ∷ earlier) (Op Or 2 2 26) more
    (λ later read e.
    calm b (here + 4) (Op And 2 2 27 ∷ earlier) (Op Or 2 2 26) later refl refl
    (well_written (place b (here + 4) (Op And 2 2 27 ∷ earlier) (Op Or 2 2 26) later) (Op Or 2 2 26) (bool.or_left (begins_pair (Op Or 2 2 26) later || true) (precedes_pair later) (bool.or_right (begins_pair (Op Or 2 2 26) later) true refl))) e)
    (rest (here + 4 + 4) (Op Or 2 2 26 ∷ Op And 2 2 27 ∷ earlier)))

-- ---- the expansion of an instruction

-- V10 of an instruction directly before the pair
before_pair : (b : BundlePlace) (here : ℕ) (earlier : List Instr) (i : Instr) (later : List Piece) → is_jump i ≡ false → precedes_pair later ≡ true → breaks_stack (place b here earlier i later) i ≡ false
before_pair b here earlier i later j p =
    well_written (place b here earlier i later) i (bool.or_right (begins_pair i later || ends_pair earlier i) _ (ap (λ v. not v && precedes_pair later) j ∙ p))

-- what writes the stack pointer
writer_passes : (b : BundlePlace) (here : ℕ) (earlier : List Instr) (i : Instr) (more : List BundleSlot) → names_withheld Sfi1 i ≡ false → has_stack b.format ≡ true → writes_register 2 i ≡ true
    → stack.jumps_or_loads_x2 (Plain i) ≡ false → PassesBefore b here earlier i (stack.stack_pair ++ more)
writer_passes b here earlier (Load kind rd a imm) more h f w j later read e =
    passes _ refl (writes_unreserved (Load kind rd a imm) h) (on_stack b a (follows_data_pair a earlier) (ap (λ v. v && (a == 2)) f ∙ bool.not-false (a == 2) (second_false (rd == 2) (not (a == 2)) w j))) refl refl e (before_pair b here earlier (Load kind rd a imm) later refl (pair_read more later read))
writer_passes b here earlier (Jal rd offset) more h f w j later read e = let z : true ≡ false = sym w ∙ j in cc
writer_passes b here earlier (Jalr rd a imm) more h f w j later read e = let z : true ≡ false = sym w ∙ j in cc
writer_passes b here earlier (Store width a rs2 imm) more h f w j later read e = cc
writer_passes b here earlier (Branch cond rs1 rs2 offset) more h f w j later read e = cc
writer_passes b here earlier (Fence imm rd rs1) more h f w j later read e = cc
writer_passes b here earlier Ecall more h f w j later read e = cc
writer_passes b here earlier Ebreak more h f w j later read e = cc
writer_passes b here earlier i more h f w j later read e = calm b here earlier i later refl (writes_unreserved i h) (before_pair b here earlier i later refl (pair_read more later read)) e

-- an access on the stack pointer that doesn't write it
access_passes : (b : BundlePlace) (here : ℕ) (earlier : List Instr) (i : Instr) (more : List BundleSlot) → names_withheld Sfi1 i ≡ false → has_stack b.format ≡ true → stack.is_on_x2 i ≡ true
    → writes_stack b i ≡ false → PassesBefore b here earlier i more
access_passes b here earlier (Load kind rd a imm) more h f o w later read e =
    passes _ refl (writes_unreserved (Load kind rd a imm) h) (on_stack b a (follows_data_pair a earlier) (ap (λ v. v && (a == 2)) f ∙ o)) refl refl e (no_write (place b here earlier (Load kind rd a imm) later) (Load kind rd a imm) w)
access_passes b here earlier (Store width a rs2 imm) more h f o w later read e =
    let x = place b here earlier (Store width a rs2 imm) later in
    record { v3 = refl; v4 = refl; v5 = on_stack b a (follows_data_pair a earlier) (ap (λ v. v && (a == 2)) f ∙ o); v6 = refl; v7 = refl; v8 = e; v10 = no_write x x.instr w }
access_passes b here earlier _ more h f o w later read e = cc

-- an instruction that stays as it is, and is none of these
calm_passes : (b : BundlePlace) (here : ℕ) (earlier : List Instr) (i : Instr) (more : List BundleSlot) → is_calm i ≡ true → names_withheld Sfi1 i ≡ false → writes_stack b i ≡ false
    → PassesBefore b here earlier i more
calm_passes b here earlier i more c h w later read e = calm b here earlier i later c (writes_unreserved i h) (no_write (place b here earlier i later) i w) e

jump_passes : (b : BundlePlace) (here : ℕ) (earlier : List Instr) (a rd : ℕ) (more : List BundleSlot) → is_withheld rd ≡ false → is_stack b.format rd ≡ false
    → PassesBefore b here (Op Or 31 31 24 ∷ Op And 31 a 25 ∷ earlier) (Jalr rd 31 (pos 0)) more
jump_passes b here earlier a rd more h w later read e =
    passes _ refl (unreserved rd h) refl refl refl e (no_write (place b here (Op Or 31 31 24 ∷ Op And 31 a 25 ∷ earlier) (Jalr rd 31 (pos 0)) later) (Jalr rd 31 (pos 0)) w)

with_sum : (b : BundlePlace) (at : Bases) (names : List PlacedName) (here : ℕ) (earlier : List Instr) (rd a : ℕ) (imm : ℤ) (more : List BundleSlot)
    → is_withheld rd ≡ false → is_stack b.format rd ≡ false → IsCleanAfter b at names more
    → IsCleanly b at names here earlier (Wide (OpImm Addi 31 a imm) ∷ Wide (Op And 31 31 25) ∷ Wide (Op Or 31 31 24) ∷ jump_to_x31 rd ∷ more)
with_sum b at names here earlier rd a imm more h w rest =
    wide b at names here earlier (OpImm Addi 31 a imm) (Wide (Op And 31 31 25) ∷ Wide (Op Or 31 31 24) ∷ jump_to_x31 rd ∷ more)
    (into_x31 b here earlier (OpImm Addi 31 a imm) (Wide (Op And 31 31 25) ∷ Wide (Op Or 31 31 24) ∷ jump_to_x31 rd ∷ more) refl refl)
    (pair_then b at names (here + 4) (OpImm Addi 31 a imm ∷ earlier) 31 25 24 (Jalr rd 31 (pos 0)) more
    (jump_passes b (here + 4 + 4 + 4) (OpImm Addi 31 a imm ∷ earlier) 31 rd more h w) rest)

jump_clean : (b : BundlePlace) (at : Bases) (names : List PlacedName) (here : ℕ) (earlier : List Instr) (rd a : ℕ) (imm : ℤ) (more : List BundleSlot)
    → is_withheld rd ≡ false → is_stack b.format rd ≡ false → IsCleanAfter b at names more → IsCleanly b at names here earlier (jump_slots rd a imm ++ more)
jump_clean b at names here earlier rd a (pos zero) more h w rest =
    pair_then b at names here earlier a 25 24 (Jalr rd 31 (pos 0)) more (jump_passes b (here + 4 + 4) earlier a rd more h w) rest
jump_clean b at names here earlier rd a (pos (suc n)) more h w rest = with_sum b at names here earlier rd a (pos (suc n)) more h w rest
jump_clean b at names here earlier rd a (negsuc n) more h w rest = with_sum b at names here earlier rd a (negsuc n) more h w rest

masked_clean : (b : BundlePlace) (at : Bases) (names : List PlacedName) (here : ℕ) (earlier : List Instr) (rvc : Bool) (i : Instr) (count : ℕ) (expanded more : List BundleSlot)
    → IsMasked rvc i expanded → IsBody count (Plain i) → names_withheld Sfi1 i ≡ false → is_ecall (Plain i) ≡ false → writes_stack b i ≡ false → IsCleanAfter b at names more
    → IsCleanly b at names here earlier (expanded ++ more)
masked_clean b at names here earlier rvc (Load kind rd a imm) count expanded more x body h c w rest =
    subst (λ v. IsCleanly b at names here earlier (v ++ more)) (sym x)
    (pair_then b at names here earlier a 27 26 (Load kind rd 31 imm) more
    (λ later read e. passes _ refl (writes_unreserved (Load kind rd a imm) h) (bool.not_from_true (is_stack b.format 31 || true) (bool.or_right (is_stack b.format 31) true refl)) refl refl e (no_write (place b (here + 4 + 4) (Op Or 31 31 26 ∷ Op And 31 a 27 ∷ earlier) (Load kind rd 31 imm) later) (Load kind rd 31 imm) w))
    rest)
masked_clean b at names here earlier rvc (Store width a rs2 imm) count expanded more x body h c w rest =
    subst (λ v. IsCleanly b at names here earlier (v ++ more)) (sym x)
    (pair_then b at names here earlier a 27 26 (Store width 31 rs2 imm) more
    (λ later read e. passes _ refl refl (bool.not_from_true (is_stack b.format 31 || true) (bool.or_right (is_stack b.format 31) true refl)) refl refl e (no_write (place b (here + 4 + 4) (Op Or 31 31 26 ∷ Op And 31 a 27 ∷ earlier) (Store width 31 rs2 imm) later) (Store width 31 rs2 imm) w))
    rest)
masked_clean b at names here earlier rvc (Jalr rd a imm) count expanded more x body h c w rest =
    subst (λ v. IsCleanly b at names here earlier (v ++ more)) (sym x)
    (jump_clean b at names here earlier rd a imm more (or_left (is_withheld rd) (is_withheld a) h) w rest)
masked_clean b at names here earlier rvc Ecall count expanded more x body h c w rest = absurd (let z : true ≡ false = c in cc)
masked_clean b at names here earlier rvc (Branch cond rs1 rs2 offset) count expanded more x body h c w rest = absurd body.1
masked_clean b at names here earlier rvc (Jal rd offset) count expanded more x body h c w rest = absurd body.1
masked_clean b at names here earlier rvc i count expanded more x body h c w rest =
    alone b at names here earlier rvc i expanded more x (calm_passes b here earlier i more refl h w) rest

-- what writes the stack pointer, an access on it, and any other
plain_clean : (b : BundlePlace) (at : Bases) (names : List PlacedName) (here : ℕ) (earlier : List Instr) (writes on rvc : Bool) (i : Instr) (count : ℕ) (expanded more : List BundleSlot)
    → stack.writes_stack b.format i ≡ writes → stack.is_on_stack b.format i ≡ on
    → MatchBool writes (expanded ≡ Wide i ∷ stack.stack_pair) (MatchBool on (IsAlone rvc i expanded) (IsMasked rvc i expanded))
    → IsBody count (Plain i) → names_withheld Sfi1 i ≡ false → is_ecall (Plain i) ≡ false → stack.is_stack_write b.format (Plain i) ≡ false → IsCleanAfter b at names more
    → IsCleanly b at names here earlier (expanded ++ more)
plain_clean b at names here earlier true on rvc i count expanded more w o x body h c s rest =
    let both = bool.and_parts (has_stack b.format) (writes_register 2 i) w in
    subst (λ v. IsCleanly b at names here earlier (v ++ more)) (sym x)
    (wide b at names here earlier i (stack.stack_pair ++ more)
    (writer_passes b here earlier i more h both.0 both.1 (second_false (has_stack b.format) (stack.jumps_or_loads_x2 (Plain i)) both.0 s))
    (stack_pair_then b at names (here + 4) (i ∷ earlier) more rest))
plain_clean b at names here earlier false true rvc i count expanded more w o x body h c s rest =
    let both = bool.and_parts (has_stack b.format) (stack.is_on_x2 i) o in
    alone b at names here earlier rvc i expanded more x (access_passes b here earlier i more h both.0 both.1 w) rest
plain_clean b at names here earlier false false rvc i count expanded more w o x body h c s rest =
    masked_clean b at names here earlier rvc i count expanded more x body h c w rest

-- an instruction made of a name's address, before the pair if it writes the stack pointer
made_clean : (b : BundlePlace) (at : Bases) (names : List PlacedName) (here : ℕ) (earlier : List Instr) (writes : Bool) (rd : ℕ) (x : BundleSlot) (f : ℕ → Instr) (o : Option ℕ) (more : List BundleSlot)
    → is_stack b.format rd ≡ writes → resolved at names here x ≡ made_of f o → ((a : ℕ) → (is_calm (f a) ≡ true) × (is_jump (f a) ≡ false) × (destination (f a) ≡ Some rd) × (breaks_reserved (f a) ≡ false))
    → ((i : Instr) → IsReadAs x (record { instr = i; size = slot_size x })) → IsCleanAfter b at names more
    → IsCleanly b at names here earlier (x ∷ (stack.put_back writes ++ more))
made_clean b at names here earlier true rd x f o more w r calmly own rest =
    slot_step b at names here earlier x (stack.stack_pair ++ more) (λ i q.
    let m = made f o i (sym r ∙ q) in
    let k = calmly m.0 in
    record {
      own = own i;
      passes = subst (λ j. PassesBefore b here earlier j (stack.stack_pair ++ more)) (sym m.2)
          (λ later read e. calm b here earlier (f m.0) later k.0 k.3 (before_pair b here earlier (f m.0) later k.1 (pair_read more later read)) e);
      rest = stack_pair_then b at names (here + slot_size x) (i ∷ earlier) more rest;
    })
made_clean b at names here earlier false rd x f o more w r calmly own rest =
    slot_step b at names here earlier x more (λ i q.
    let m = made f o i (sym r ∙ q) in
    let k = calmly m.0 in
    record {
      own = own i;
      passes = subst (λ j. PassesBefore b here earlier j more) (sym m.2)
          (λ later read e. calm b here earlier (f m.0) later k.0 k.3 (no_write (place b here earlier (f m.0) later) (f m.0) (ap (λ o. has_stack b.format && is_register 2 o) k.2 ∙ w)) e);
      rest = rest (here + slot_size x) (i ∷ earlier);
    })

body_clean : (b : BundlePlace) (at : Bases) (names : List PlacedName) → AreStarts b at names → (here : ℕ) (earlier : List Instr) (line : ℕ) (rvc : Bool) (body : Body) (count : ℕ)
    (expanded more : List BundleSlot) → item_names_withheld Sfi1 body ≡ false → is_ecall body ≡ false → stack.is_stack_write b.format body ≡ false → IsBody count body → IsExpansionOf b.format line rvc body expanded
    → IsCleanAfter b at names more → IsCleanly b at names here earlier (expanded ++ more)
body_clean b at names starts here earlier line rvc (Plain i) count expanded more h c s is x rest =
    plain_clean b at names here earlier (stack.writes_stack b.format i) (stack.is_on_stack b.format i) rvc i count expanded more refl refl x is h c s rest
body_clean b at names starts here earlier line rvc (To j k) count expanded more h c s is x rest =
    subst (λ v. IsCleanly b at names here earlier (v ++ more)) (sym x) (jump_to b at names starts here earlier j k line count more h s is rest)
  where
    jump_to : (b : BundlePlace) (at : Bases) (names : List PlacedName) → AreStarts b at names → (here : ℕ) (earlier : List Instr) (j : Instr) (k line count : ℕ) (more : List BundleSlot)
        → names_withheld Sfi1 j ≡ false → stack.is_stack_write b.format (To j k) ≡ false → IsBody count (To j k) → IsCleanAfter b at names more → IsCleanly b at names here earlier (Jump j k line ∷ more)
    jump_to b at names starts here earlier j k line count more h s is rest room bytes =
        let sized = size_of-cons (Jump j k line) more in
        let low : here < 2 ^ 32 = omega arith in
        slot_step b at names here earlier (Jump j k line) more (λ i q.
        let m = made (λ to. with_offset (pos to -ℤ pos here) j) (target_at at names k) i q in
        let t = starts k m.0 m.1 in
        let l : offset_by here (pos m.0 -ℤ pos here) ≡ m.0 = lands (pos m.0 -ℤ pos here) here m.0 refl low t.1 in
        record {
          own = tt;
          passes = subst (λ z. PassesBefore b here earlier z more) (sym m.2)
              (λ later read e. direct b here earlier j (pos m.0 -ℤ pos here) later count k is h s (ap (is_bundle_start b) l ∙ t.0) e);
          rest = rest (here + 4) (i ∷ earlier);
        })
        room bytes
body_clean b at names starts here earlier line rvc (High rd k) count expanded more h c s is x rest =
    subst (λ v. IsCleanly b at names here earlier (v ++ more)) (sym x)
    (made_clean b at names here earlier (is_stack b.format rd) rd (Upper rd k line) (λ address. Lui rd (upper (pos address))) (value_at at names k) more refl refl
    (λ a. (refl, refl, refl, unreserved rd h)) (λ i. tt) rest)
body_clean b at names starts here earlier line rvc (Low rd k) count expanded more h c s is x rest =
    subst (λ v. IsCleanly b at names here earlier (v ++ more)) (sym x)
    (made_clean b at names here earlier (is_stack b.format rd) rd (Lower rd k line) (λ address. OpImm Addi rd rd (lower (pos address))) (value_at at names k) more refl refl
    (λ a. (refl, refl, refl, unreserved rd h)) (λ i. tt) rest)
body_clean b at names starts here earlier line rvc (Base rd k) count expanded more h c s is x rest =
    subst (λ v. IsCleanly b at names here earlier (v ++ more)) (sym x)
    (made_clean b at names here earlier (is_stack b.format rd) rd (Region rd k line) (λ r. Op Add rd rd r) (base_at names k) more refl refl
    (λ a. (refl, refl, refl, unreserved rd h)) (λ i. tt) rest)

-- ---- whole expansions

-- formats in bundles withhold the same registers
same_names : (f : Format) (i : Instr) → has_words f ≡ false → names_withheld f i ≡ names_withheld Sfi1 i
same_names Sfi1 i e = refl
same_names Sfi2 (Op op rd rs1 rs2) e = refl
same_names Sfi2 _ e = refl
same_names Sfiw i e = absurd (true≢false e)
same_names Sfis i e = absurd (true≢false e)

same_withheld : (f : Format) (body : Body) → has_words f ≡ false → item_names_withheld f body ≡ item_names_withheld Sfi1 body
same_withheld f (Plain i) e = same_names f i e
same_withheld f (To i name) e = same_names f i e
same_withheld Sfiw body e = absurd (true≢false e)
same_withheld Sfis body e = absurd (true≢false e)
same_withheld Sfi1 _ e = refl
same_withheld Sfi2 _ e = refl

-- slots that are whole expansions, with what is clean after them, are read whole, without a finding
pub clean : (b : BundlePlace) (at : Bases) (names : List PlacedName) → AreStarts b at names → has_words b.format ≡ false → (count : ℕ) (slots more : List BundleSlot)
    → AreWhole b.format count slots → IsCleanAfter b at names more → IsCleanAfter b at names (slots ++ more)
clean b at names starts bundled count _ more nothing rest here earlier = rest here earlier
clean b at names starts bundled count _ more (padding slots w) rest here earlier =
    known b at names here earlier c_nop (OpImm Addi 0 0 (pos 0)) (slots ++ more) refl tt
    (calm_passes b here earlier (OpImm Addi 0 0 (pos 0)) (slots ++ more) refl refl (bool.and_right (has_stack b.format) false refl))
    (clean b at names starts bundled count slots more w rest (here + 2) (OpImm Addi 0 0 (pos 0) ∷ earlier))
clean b at names starts bundled count _ more (whole_expansion x expanded slots p is e w) rest here earlier =
    subst (IsCleanly b at names here earlier) (sym (append_assoc expanded slots more))
    (body_clean b at names starts here earlier x.line x.rvc x.body count expanded (slots ++ more) (sym (same_withheld b.format x.body bundled) ∙ p.operands) p.no_ecall p.no_stack_write is e
    (clean b at names starts bundled count slots more w rest))

-- c.ebreaks are
pub clean_fill : (b : BundlePlace) (at : Bases) (names : List PlacedName) (n : ℕ) → IsCleanAfter b at names (replicate n c_ebreak)
clean_fill b at names zero here earlier room bytes s =
    record { reading = []; is_reading = tt; nothing_left = s; count = refl; read = tt; ending = λ _. refl; length_is = ap length s; found = λ _. refl }
clean_fill b at names (suc n) here earlier room bytes s =
    known b at names here earlier c_ebreak Ebreak (replicate n c_ebreak) refl tt (calm_passes b here earlier Ebreak (replicate n c_ebreak) refl refl (bool.and_right (has_stack b.format) false refl))
    (clean_fill b at names n (here + 2) (Ebreak ∷ earlier)) room bytes s
