-- Slots written one after another, and that they stand in a memory that holds their bytes.
use Rattle.rv_comp.specs.declared.form.Form16.TheVariants.{CEbreak}
use Rattle.rv_word.specs.declared.instr.RegOp.TheVariants.{Add}
use Rattle.sfi_rewrite.specs.declared.placed.PlacedName.TheVariants as name
use Rattle.sfi_link.specs.Code.{base_of, base_at}
use Rattle.sfi_link.specs.Faults.{UnlessMemory}
use Rattle.std.proofs.Math.Seq.{take-append_seam, drop-append_seam}
use Rattle.std.proofs.lemmas.List.{at_drop_more}
use Rattle.std.proofs.lemmas.List.Elements.{All-take, All-drop}
use Rattle.sfi_rewrite.proofs.Sizes.{size_of-cons, size_of-append}
use Rattle.sfi_link.proofs.Parts.{slots_length}
use Rattle.sfi_link.specs.declared.fault.LinkFault.TheVariants.{Memory}
use Rattle.rv_mem.specs.Bytes.{Bytes, byte_at, address_after}
use Rattle.rv_mem.specs.Laws.{Holds}
use Rattle.rv_step.specs.State.{State}
use Rattle.rv_step.specs.Step.{Stands}
use Rattle.rv_step.specs.Rows.{further}
use Rattle.sfi_link.specs.Standing.{IsResolvedTo, AreResolvedTo}
use Rattle.sfi_rewrite.specs.Transparency.{SlotStands, SlotsStand}
use Rattle.rv_mem.proofs.Facts.{read_is_held}
use Rattle.rv_comp.proofs.Facts.{spelled_length}
use Rattle.sfi_link.proofs.CleanPlaces.{slot_spells, some_same}
use Rattle.sfi_link.proofs.Prelude.{◌≡◌, ℕ, zero, suc, ◌+◌, ◌<◌, List, [], ◌∷◌, ◌++◌, length, drop, get_or, replicate, Some, refl, sym, ap, ◌∙◌, subst, arith, append_assoc, append-nil, length-append, inl, inr, ℤ, pos, All, repeat, w32, to_le_bytes, ints, Op, OpImm, Lui, Addi, Option, None, slice_get, of_name, InRange, IsReg, IsImm12, spelling, expansion, upper, lower, BundleSlot, Upper, Lower, Region, PlacedName, slot_size, size_of, Bases, LinkFault, value_at, IsSlot, AreSlots, made_of, c_ebreak, HasRoomFor, IsPushed, AreWritten, HasSlotFault, IsSlotFault, ◌⊎◌, Encodes, slice_index, get_or_append_left, get_or-append-add, Instr, Wide, Short}

-- ==== Slots written one after another.

-- ---- what is said of a fault, unless memory ran out

-- memory ran out, or it holds
pub memory_or : (P : LinkFault → Type 0) (f : LinkFault) → UnlessMemory P f → (f ≡ Memory) ⊎ P f
memory_or P Memory h = inl refl
memory_or P _ h = inr h

-- and what follows from it is said of the fault too
pub then_unless : (P Q : LinkFault → Type 0) → ((f : LinkFault) → P f → Q f) → (f : LinkFault) → UnlessMemory P f → UnlessMemory Q f
then_unless P Q step Memory h = tt
then_unless P Q step f h = step f h

-- ---- slots

pub high_in_range : (rd a : ℕ) → IsReg rd → InRange (Lui rd (upper (pos a)))
unfolding InRange
high_in_range rd a reg = (reg, omega arith)

pub low_in_range : (rd a : ℕ) → IsReg rd → InRange (OpImm Addi rd rd (lower (pos a)))
unfolding InRange
low_in_range rd a reg = (reg, reg, fits (pos a))
  where
    fits : (z : ℤ) → IsImm12 (lower z)
    fits z = (omega (arith, ints), omega (arith, ints))

-- the bytes of a slot whose name has an address
pub upper_slot : (at : Bases) (names : List PlacedName) (here rd place line a : ℕ) → value_at at names place ≡ Some a → IsReg rd → IsSlot at names here (Upper rd place line) (to_le_bytes w32 (spelling (Lui rd (upper (pos a)))))
upper_slot at names here rd place line a there reg =
    record { instr = Lui rd (upper (pos a)); resolves = ap (made_of (λ address. Lui rd (upper (pos address)))) there; spelled = (high_in_range rd a reg, refl) }

pub lower_slot : (at : Bases) (names : List PlacedName) (here rd place line a : ℕ) → value_at at names place ≡ Some a → IsReg rd → IsSlot at names here (Lower rd place line) (to_le_bytes w32 (spelling (OpImm Addi rd rd (lower (pos a)))))
lower_slot at names here rd place line a there reg =
    record { instr = OpImm Addi rd rd (lower (pos a)); resolves = ap (made_of (λ address. OpImm Addi rd rd (lower (pos address)))) there; spelled = (low_in_range rd a reg, refl) }

pub base_in_range : (rd base : ℕ) → IsReg rd → IsReg base → InRange (Op Add rd rd base)
unfolding InRange
base_in_range rd base reg other = (reg, reg, other)

-- a base is one of two registers
pub which_base : (names : List PlacedName) (place base : ℕ) → base_at names place ≡ Some base → (base ≡ 26) ⊎ (base ≡ 24)
which_base names place base e = of (slice_get names place) e
  where
    of : (o : Option PlacedName) → of_name base_of o ≡ Some base → (base ≡ 26) ⊎ (base ≡ 24)
    of None e = absurd cc
    of (Some (name.Gate k)) e = let is : 24 ≡ base = cc in inr (sym is)
    of (Some (name.Code at)) e = let is : 24 ≡ base = cc in inr (sym is)
    of (Some (name.Data offset)) e = let is : 26 ≡ base = cc in inl (sym is)
    of (Some name.Unknown) e = absurd cc

pub is_register : (names : List PlacedName) (place base : ℕ) → base_at names place ≡ Some base → IsReg base
is_register names place base e = elim (which_base names place base e) [ inl d ↦ omega arith | inr c ↦ omega arith ]

pub region_slot : (at : Bases) (names : List PlacedName) (here rd place line base : ℕ) → base_at names place ≡ Some base → IsReg rd → IsSlot at names here (Region rd place line) (to_le_bytes w32 (spelling (Op Add rd rd base)))
region_slot at names here rd place line base there reg =
    record { instr = Op Add rd rd base; resolves = ap (made_of (λ r. Op Add rd rd r)) there; spelled = (base_in_range rd base reg (is_register names place base there), refl) }

-- ---- one list after another

pub slots-append : (at : Bases) (names : List PlacedName) (here : ℕ) (xs ys : List BundleSlot) (f r : List ℕ) → AreSlots at names here xs f → AreSlots at names (here + size_of xs) ys r → AreSlots at names here (xs ++ ys) (f ++ r)
slots-append at names here [] ys f r a b =
    let e : here + size_of [] ≡ here = omega arith in
    subst (λ (l : List ℕ). AreSlots at names here ys (l ++ r)) (sym a) (subst (λ n. AreSlots at names n ys r) e b)
slots-append at names here (x ∷ xs) ys f r (front, rest, one, others, e) b =
    let z = size_of-cons x xs in
    let n : here + size_of (x ∷ xs) ≡ here + slot_size x + size_of xs = omega arith in
    (front, rest ++ r, one, slots-append at names (here + slot_size x) xs ys rest r others (subst (λ m. AreSlots at names m ys r) n b), ap (λ l. l ++ r) e ∙ append_assoc front rest r)

pub written_length : (at : Bases) (names : List PlacedName) (slots : List BundleSlot) (old new : List ℕ) → AreWritten at names slots old new → length new ≡ length old + size_of slots
written_length at names slots old new w =
    let a = slots_length at names (at.code + length old) slots w.bytes w.spelled in
    let b = ap length w.appended ∙ length-append old w.bytes in
    omega arith

pub written-append : (at : Bases) (names : List PlacedName) (xs ys : List BundleSlot) (old now new : List ℕ) → AreWritten at names xs old now → AreWritten at names ys now new → AreWritten at names (xs ++ ys) old new
written-append at names xs ys old now new v w =
    let long = written_length at names xs old now v in
    let n : at.code + length now ≡ at.code + length old + size_of xs = omega arith in
    record {
      bytes = v.bytes ++ w.bytes;
      appended = w.appended ∙ ap (λ l. l ++ w.bytes) v.appended ∙ append_assoc old v.bytes w.bytes;
      spelled = slots-append at names (at.code + length old) xs ys v.bytes w.bytes v.spelled (subst (λ m. AreSlots at names m ys w.bytes) n w.spelled);
    }

pub one_written : (at : Bases) (names : List PlacedName) (s : BundleSlot) (old new : List ℕ) → IsPushed at names s old new → AreWritten at names (s ∷ []) old new
one_written at names s old new (bytes, e, one) = record { bytes = bytes; appended = e; spelled = (bytes, [], one, refl, sym (append-nil bytes)) }

-- ---- the first fault after what is written

fault_before : (at : Bases) (names : List PlacedName) (here : ℕ) (ys zs : List BundleSlot) (f : LinkFault) → IsSlotFault at names here ys f → IsSlotFault at names here (ys ++ zs) f
fault_before at names here [] zs f x = absurd x
fault_before at names here (s ∷ ys) zs f (inl h) = inl h
fault_before at names here (s ∷ ys) zs f (inr (bytes, one, later)) = inr (bytes, one, fault_before at names (here + slot_size s) ys zs f later)

fault_behind : (at : Bases) (names : List PlacedName) (here : ℕ) (xs ys : List BundleSlot) (bytes : List ℕ) (f : LinkFault) → AreSlots at names here xs bytes → IsSlotFault at names (here + size_of xs) ys f → IsSlotFault at names here (xs ++ ys) f
fault_behind at names here [] ys bytes f none x = let e : here + size_of [] ≡ here = omega arith in subst (λ n. IsSlotFault at names n ys f) e x
fault_behind at names here (s ∷ xs) ys bytes f (front, rest, one, others, e) x =
    let z = size_of-cons s xs in
    let n : here + size_of (s ∷ xs) ≡ here + slot_size s + size_of xs = omega arith in
    inr (front, one, fault_behind at names (here + slot_size s) xs ys rest f others (subst (λ m. IsSlotFault at names m ys f) n x))

-- ---- what is left

-- the next item stands first in what is left of a list
pub left_next : {X : Type 0} (F : List X → Type 0) (xs : List X) (k : ℕ) (x : X) → k < length xs → x ≡ get_or xs k x → F (drop k xs) → F (x ∷ drop (k + 1) xs)
left_next F xs k x lt is h = subst F (at_drop_more (λ l. l) xs k x lt ∙ ap (λ y. y ∷ drop (k + 1) xs) (sym is)) h

pub All-before : {X : Type 0} (P : X → Type 0) (xs ys : List X) → All P (xs ++ ys) → All P xs
All-before P xs ys all = subst (All P) (take-append_seam xs ys) (All-take P (length xs) (xs ++ ys) all)

pub All-behind : {X : Type 0} (P : X → Type 0) (xs ys : List X) → All P (xs ++ ys) → All P ys
All-behind P xs ys all = subst (All P) (drop-append_seam xs ys) (All-drop P (length xs) (xs ++ ys) all)

-- What is left of the slots, after these bytes, completes them all: with its bytes, or with its fault.
pub record AreLeft (at : Bases) (names : List PlacedName) (slots left : List BundleSlot) (old now : List ℕ) : Type 0 where
  pub written : (new : List ℕ) → AreWritten at names left now new → AreWritten at names slots old new
  pub fault : (f : LinkFault) → IsSlotFault at names (at.code + length now) left f → IsSlotFault at names (at.code + length old) slots f
  pub encodes : All Encodes left
  pub room : HasRoomFor at (length now) (size_of left)

pub all_left : (at : Bases) (names : List PlacedName) (slots : List BundleSlot) (old : List ℕ) → All Encodes slots → HasRoomFor at (length old) (size_of slots) → AreLeft at names slots slots old old
all_left at names slots old encodes room = record { written = λ new w. w; fault = λ f x. x; encodes = encodes; room = room }

-- fewer slots are left
pub fewer : (at : Bases) (names : List PlacedName) (slots b left : List BundleSlot) (old now new : List ℕ) → AreLeft at names slots (b ++ left) old now → AreWritten at names b now new → AreLeft at names slots left old new
fewer at names slots b left old now new h w =
    let long = written_length at names b now new w in
    let sized = size_of-append b left in
    let here : at.code + length new ≡ at.code + length now + size_of b = omega arith in
    record {
      written = λ newer v. h.written newer (written-append at names b left now new newer w v);
      fault = λ f x. h.fault f (fault_behind at names (at.code + length now) b left w.bytes f w.spelled (subst (λ n. IsSlotFault at names n left f) here x));
      encodes = All-behind Encodes b left h.encodes;
      room = record { below = omega arith; within = omega arith };
    }

-- the first of those that are left have room
pub front_room : (at : Bases) (names : List PlacedName) (slots b left : List BundleSlot) (old now : List ℕ) → AreLeft at names slots (b ++ left) old now → HasRoomFor at (length now) (size_of b)
front_room at names slots b left old now h =
    let sized = size_of-append b left in
    record { below = omega arith; within = omega arith }

pub slot_refused : (at : Bases) (names : List PlacedName) (slots left : List BundleSlot) (s : BundleSlot) (old now : List ℕ) (f : LinkFault) → AreLeft at names slots (s ∷ left) old now
    → UnlessMemory (HasSlotFault at names (at.code + length now) s) f → UnlessMemory (IsSlotFault at names (at.code + length old) slots) f
slot_refused at names slots left s old now f h wrong =
    then_unless (HasSlotFault at names (at.code + length now) s) (IsSlotFault at names (at.code + length old) slots) (λ g x. h.fault g (inl x)) f wrong

pub refused : (at : Bases) (names : List PlacedName) (slots b left : List BundleSlot) (old now : List ℕ) (f : LinkFault) → AreLeft at names slots (b ++ left) old now
    → UnlessMemory (IsSlotFault at names (at.code + length now) b) f → UnlessMemory (IsSlotFault at names (at.code + length old) slots) f
refused at names slots b left old now f h wrong =
    then_unless (IsSlotFault at names (at.code + length now) b) (IsSlotFault at names (at.code + length old) slots) (λ g x. h.fault g (fault_before at names (at.code + length now) b left g x)) f wrong

pub all_written : (at : Bases) (names : List PlacedName) (slots left : List BundleSlot) (old now : List ℕ) → left ≡ [] → AreLeft at names slots left old now → AreWritten at names slots old now
all_written at names slots left old now none h = h.written now (record { bytes = []; appended = sym (append-nil now); spelled = subst (λ l. AreSlots at names (at.code + length now) l []) (sym none) refl })

-- ---- copies

pub repeat_more : {X : Type 0} (n : ℕ) (xs : List X) → repeat (n + 1) xs ≡ repeat n xs ++ xs
repeat_more zero xs = append-nil xs
repeat_more (suc n) xs =
    ap (λ k. repeat k xs) (let e : suc n + 1 ≡ suc (n + 1) = omega arith in e) ∙ ap (λ l. xs ++ l) (repeat_more n xs) ∙ sym (append_assoc xs (repeat n xs) xs)

-- the bytes of c.ebreaks
pub fill_slots : (at : Bases) (names : List PlacedName) (here n : ℕ) → AreSlots at names here (replicate n c_ebreak) (repeat n (0x02 ∷ 0x90 ∷ []))
fill_slots at names here zero = refl
fill_slots at names here (suc n) =
    (0x02 ∷ 0x90 ∷ [], repeat n (0x02 ∷ 0x90 ∷ []), record { instr = expansion CEbreak; resolves = refl; spelled = (refl, refl) }, fill_slots at names (here + 2) n, refl)

-- ==== Where a memory holds the linker's bytes of slots, the slots stand.

-- ---- memory

-- bytes between others, in a memory that holds all of them
pub held_part : (m : Bytes) (base to : ℕ) (front mid rest all : List ℕ) → ((k : ℕ) → address_after to k ≡ address_after base (length front + k)) → all ≡ front ++ (mid ++ rest) → Holds m base (length all) all → Holds m to (length mid) mid
held_part m base to front mid rest all same e h = record {
  count = refl;
  each = λ k below.
      let size : length all ≡ length front + (length mid + length rest) = ap (λ (l : List ℕ). length l) e ∙ length-append front (mid ++ rest) ∙ ap (λ n. length front + n) (length-append mid rest) in
      let there : slice_index all (length front + k) ≡ slice_index mid k =
      ap (λ (l : List ℕ). slice_index l (length front + k)) e ∙ get_or-append-add front (mid ++ rest) k 0 ∙ get_or_append_left mid rest 0 k below in
      ap (byte_at m) (same k) ∙ h.each (length front + k) (omega arith) ∙ ap Some there;
}

-- ---- one slot

slot_there : (at : Bases) (names : List PlacedName) (here : ℕ) (i : Instr) (x : BundleSlot) (bytes : List ℕ) (s : State) (is : IsSlot at names here x bytes) → IsResolvedTo at names here i x
    → Stands s is.instr (slot_size x) → SlotStands i s x
slot_there at names here i (Wide j) bytes s is goes st = subst (λ (k : Instr). Stands s k 4) (sym (some_same j is.instr is.resolves)) st
slot_there at names here i (Short f) bytes s is goes st = subst (λ (k : Instr). Stands s k 2) (sym (some_same (expansion f) is.instr is.resolves)) st
slot_there at names here i _ bytes s is goes st = subst (λ (k : Instr). Stands s k 4) (some_same is.instr i (sym is.resolves ∙ goes)) st

-- ---- slots

pub slots_there : (at : Bases) (names : List PlacedName) (here : ℕ) (i : Instr) (slots : List BundleSlot) (bytes : List ℕ) (s : State)
    → AreSlots at names here slots bytes → AreResolvedTo at names here i slots → Holds s.memory s.hart.pc (length bytes) bytes → SlotsStand i s slots
slots_there at names here i [] bytes s h goes m = tt
slots_there at names here i (x ∷ slots) bytes s h goes m =
    let front = h.0 in
    let rest = h.1 in
    let spelled = slot_spells at names here x front h.2 in
    let count = spelled_length front h.2.instr (slot_size x) spelled in
    let first = held_part s.memory s.hart.pc s.hart.pc [] front rest bytes (λ k. omega arith) h.4 m in
    let later = held_part s.memory s.hart.pc (address_after s.hart.pc (slot_size x)) front rest [] bytes (λ k. omega arith) (h.4 ∙ ap (λ l. front ++ l) (sym (append-nil rest))) m in (
      slot_there at names here i x front s h.2 goes.0 (record { bytes = front; there = (read_is_held s.memory s.hart.pc (slot_size x) front).1 (subst (λ n. Holds s.memory s.hart.pc n front) count first); spelled = spelled }),
      slots_there at names (here + slot_size x) i slots rest (further s (slot_size x)) h.3 goes.1 later,
    )
