-- No rule is broken at the place of an instruction.
use Rattle.sfi_link.proofs.Prelude.{◌≡◌, ℕ, ◌+◌, ◌^◌, ◌<◌, List, [], ◌∷◌, ◌++◌, length, take, drop, Option, Some, None, Bool, true, false, refl, sym, ap, ◌∙◌, subst, arith, length-append, ℤ, pos, negsuc, ◌+ℤ◌, ◌-ℤ◌, ◌==◌, ◌&&◌, ◌||◌, not, and_right, or_parts, ints, Instr, Op, OpImm, Load, Branch, Jal, Jalr, Lui, Auipc, Fence, Ebreak, Spells, expansion, has_stack, is_stack, IsBody, Piece, IsReading, rest_of, is_masking, is_placing, BundleSlot, Wide, Short, PlacedName, slot_size, size_of, Bases, target_at, with_offset, resolved, made_of, IsSlot, ◌≤◌, length-take, ⊎_elim, IsLongestReading}
use Rattle.rv_comp.specs.declared.form.Form16.TheVariants.{CEbreak}
use Rattle.sfi_source.specs.declared.item.Body.TheVariants.{To}
use Rattle.rv_word.specs.Spelling.{modulo, offset_by}
use Rattle.rv_word.specs.Outlines.{writes_register}
use Rattle.rv_word.specs.declared.instr.RegOp.TheVariants.{And, Or}
use Rattle.sfi_formats.specs.Formats.{is_reserved, is_withheld}
use Rattle.sfi_formats.specs.declared.format.Format.TheVariants.{Sfi1}
use Rattle.sfi_rewrite.specs.Expansion.{names_withheld}
use Rattle.sfi_rules.specs.Findings.{lowest, all_rules, findings_from}
use Rattle.sfi_rules.specs.Rules.{is_empty, is_bundle_start, breaks_ecall, breaks_reserved, breaks_access, breaks_jump, breaks_target, breaks_end, breaks_stack, may_write_stack, ends_region, is_last_bundle, InstrInBundle}
use Rattle.sfi_rules.specs.Readings.{writes_stack, begins_pair, precedes_pair}
use Rattle.sfi_image.specs.declared.bundle.BundlePlace.{BundlePlace}
use Rattle.std.proofs.Math.Seq.{take-append_seam, drop-append_seam}
use Rattle.sfi_rewrite.specs.Expansion as stack
use Rattle.rv_comp.proofs.Facts.{word_spells, spelled_length, two_lengths}
use Rattle.sfi_link.proofs.Bytes.{short_spells}
use Rattle.sfi_rewrite.proofs.Sizes.{size_of-cons}
use Rattle.sfi_rules.proofs.OneList.{front_one}
pub use Rattle.std.proofs.lemmas.Option.{same_Some as some_same}

-- ---- what is asked of names, and what of ends

-- each name to which a jump may lead is a bundle start of the region
abbrev pub AreStarts : BundlePlace → Bases → List PlacedName → Type 0
AreStarts b at names = (place to : ℕ) → target_at at names place ≡ Some to → (is_bundle_start b to ≡ true) × (to < 2 ^ 32)

-- the last piece may end the region
abbrev pub ends_well : List Piece → Bool
ends_well [] = true
ends_well (x ∷ []) = ends_region x.instr
ends_well (x ∷ y ∷ rest) = ends_well (y ∷ rest)

-- the slot is a c.ebreak
abbrev pub is_end : BundleSlot → Bool
is_end (Short CEbreak) = true
is_end _ = false

-- the last slot, if there is one, is a c.ebreak
abbrev pub ends_slots : List BundleSlot → Bool
ends_slots [] = true
ends_slots (s ∷ []) = is_end s
ends_slots (s ∷ t ∷ rest) = ends_slots (t ∷ rest)

-- the bundle isn't the region's last one, or its last piece may end the region
abbrev pub IsEndFine : BundlePlace → List Piece → Type 0
IsEndFine b reading = (is_last_bundle b && not (ends_well reading)) ≡ false

-- a 32-bit instruction that stands as it is was read as it is
abbrev pub IsReadAs : BundleSlot → Piece → Type 0
IsReadAs (Wide i) x = x.instr ≡ i
IsReadAs _ x = Unit {0}

abbrev pub AreReadAs : List BundleSlot → List Piece → Type 0
AreReadAs [] reading = Unit {0}
AreReadAs (s ∷ slots) [] = ⊥
AreReadAs (s ∷ slots) (x ∷ reading) = IsReadAs s x × AreReadAs slots reading

-- the bytes from a place of a bundle on are read whole, without a finding
pub record IsCleanFrom (b : BundlePlace) (here : ℕ) (earlier : List Instr) (slots : List BundleSlot) (bytes : List ℕ) : Type 0 where
  pub reading : List Piece
  pub is_reading : IsReading bytes reading
  pub nothing_left : rest_of bytes reading ≡ []
  pub count : length reading ≡ length slots
  pub read : AreReadAs slots reading
  pub ending : ends_slots slots ≡ true → ends_well reading ≡ true
  pub length_is : length bytes ≡ size_of slots
  pub found : IsEndFine b reading → findings_from b true here earlier reading ≡ []

-- ---- one place

-- no rule is broken at a place
pub record Passes (x : InstrInBundle) : Type 0 where
  pub v3 : breaks_ecall x x.instr ≡ false
  pub v4 : breaks_reserved x.instr ≡ false
  pub v5 : breaks_access x x.instr ≡ false
  pub v6 : breaks_jump x x.instr ≡ false
  pub v7 : breaks_target x x.instr ≡ false
  pub v8 : breaks_end x x.instr ≡ false
  pub v10 : breaks_stack x x.instr ≡ false

pub passes : (x : InstrInBundle) → breaks_ecall x x.instr ≡ false → breaks_reserved x.instr ≡ false → breaks_access x x.instr ≡ false → breaks_jump x x.instr ≡ false → breaks_target x x.instr ≡ false → breaks_end x x.instr ≡ false
    → breaks_stack x x.instr ≡ false → Passes x
passes x ecall reserved access jump target end stack = record { v3 = ecall; v4 = reserved; v5 = access; v6 = jump; v7 = target; v8 = end; v10 = stack }

none_lowest : (x : InstrInBundle) → Passes x → lowest x all_rules ≡ []
none_lowest x h = simp (h.v3, h.v4, h.v5, h.v6, h.v7, h.v8, h.v10)

end_passes : (a : Bool) (x : Piece) (later : List Piece) → (a && not (ends_well (x ∷ later))) ≡ false → (a && (true && is_empty later) && not (ends_region x.instr)) ≡ false
end_passes false x later h = refl
end_passes true x [] h = h
end_passes true x (y ∷ later) h = refl

end_later : (a : Bool) (x : Piece) (later : List Piece) → (a && not (ends_well (x ∷ later))) ≡ false → (a && not (ends_well later)) ≡ false
end_later a x [] h = and_right a false refl
end_later a x (y ∷ later) h = h

-- the place of a piece in a bundle that is read whole
abbrev pub place : BundlePlace → ℕ → List Instr → Instr → List Piece → InstrInBundle
place b here earlier i later = record { bundle = b; address = here; earlier = earlier; instr = i; later = later; whole = true }

pub or_left : (a b : Bool) → (a || b) ≡ false → a ≡ false
or_left a b h = (or_parts a b h).0

pub unreserved : (r : ℕ) → is_withheld r ≡ false → is_reserved r ≡ false
unreserved r h = or_left (is_reserved r) (r == 31) h

-- an instruction that neither accesses memory nor leads anywhere but after itself, or stops
abbrev pub is_calm : Instr → Bool
is_calm (Op op rd rs1 rs2) = true
is_calm (OpImm op rd rs1 imm) = true
is_calm (Lui rd imm) = true
is_calm (Auipc rd imm) = true
is_calm (Fence imm rd rs1) = true
is_calm Ebreak = true
is_calm _ = false

-- an instruction that names no withheld register writes no reserved one
pub writes_unreserved : (i : Instr) → names_withheld Sfi1 i ≡ false → breaks_reserved i ≡ false
writes_unreserved (Op op rd rs1 rs2) h = unreserved rd (or_left (is_withheld rd) (is_withheld rs1) (or_left (is_withheld rd || is_withheld rs1) (is_withheld rs2) h))
writes_unreserved (OpImm op rd rs1 imm) h = unreserved rd (or_left (is_withheld rd) (is_withheld rs1) h)
writes_unreserved (Load kind rd rs1 imm) h = unreserved rd (or_left (is_withheld rd) (is_withheld rs1) h)
writes_unreserved (Jal rd offset) h = unreserved rd h
writes_unreserved (Jalr rd rs1 imm) h = unreserved rd (or_left (is_withheld rd) (is_withheld rs1) h)
writes_unreserved (Lui rd imm) h = unreserved rd h
writes_unreserved (Auipc rd imm) h = unreserved rd h
writes_unreserved _ h = refl

pub calm : (b : BundlePlace) (here : ℕ) (earlier : List Instr) (i : Instr) (later : List Piece) → is_calm i ≡ true → breaks_reserved i ≡ false → breaks_stack (place b here earlier i later) i ≡ false
    → breaks_end (place b here earlier i later) i ≡ false → Passes (place b here earlier i later)
calm b here earlier (Op op rd rs1 rs2) later h r w e = record { v3 = refl; v4 = r; v5 = refl; v6 = refl; v7 = refl; v8 = e; v10 = w }
calm b here earlier (OpImm op rd rs1 imm) later h r w e = record { v3 = refl; v4 = r; v5 = refl; v6 = refl; v7 = refl; v8 = e; v10 = w }
calm b here earlier (Lui rd imm) later h r w e = record { v3 = refl; v4 = r; v5 = refl; v6 = refl; v7 = refl; v8 = e; v10 = w }
calm b here earlier (Auipc rd imm) later h r w e = record { v3 = refl; v4 = r; v5 = refl; v6 = refl; v7 = refl; v8 = e; v10 = w }
calm b here earlier (Fence imm rd rs1) later h r w e = record { v3 = refl; v4 = r; v5 = refl; v6 = refl; v7 = refl; v8 = e; v10 = w }
calm b here earlier Ebreak later h r w e = record { v3 = refl; v4 = r; v5 = refl; v6 = refl; v7 = refl; v8 = e; v10 = w }
calm b here earlier _ later h r w e = cc

-- ---- the stack pointer

-- V10, of what doesn't write it
pub no_write : (x : InstrInBundle) (i : Instr) → writes_stack x.bundle i ≡ false → breaks_stack x i ≡ false
no_write x i h = ap (λ w. w && not (may_write_stack x i)) h

-- above all of what has no rd
unwritten : (x : InstrInBundle) (i : Instr) → writes_register 2 i ≡ false → breaks_stack x i ≡ false
unwritten x i h = no_write x i (ap (λ w. has_stack x.bundle.format && w) h ∙ and_right (has_stack x.bundle.format) false refl)

-- and of what may
pub well_written : (x : InstrInBundle) (i : Instr) → may_write_stack x i ≡ true → breaks_stack x i ≡ false
well_written x i h = ap (λ m. writes_stack x.bundle i && not m) h ∙ and_right (writes_stack x.bundle i) false refl

-- the pair directly after is read
pub pair_read : (more : List BundleSlot) (later : List Piece) → AreReadAs (stack.stack_pair ++ more) later → precedes_pair later ≡ true
pair_read more [] h = absurd h
pair_read more (x ∷ []) h = absurd h.1
pair_read more (x ∷ y ∷ later) h = ap (λ i. is_masking 27 2 i && is_placing 26 2 y.instr) h.0 ∙ ap (λ i. is_placing 26 2 i) h.1.0

-- and its second
pub or_read : (more : List BundleSlot) (later : List Piece) → AreReadAs (Wide (Op Or 2 2 26) ∷ more) later → begins_pair (Op And 2 2 27) later ≡ true
or_read more [] h = absurd h
or_read more (y ∷ later) h = ap (λ i. is_placing 26 2 i) h.0

pub second_false : (a b : Bool) → a ≡ true → (a && b) ≡ false → b ≡ false
second_false true b t h = h
second_false false b t h = cc

-- an access on the stack pointer
pub on_stack : (b : BundlePlace) (a : ℕ) (p : Bool) → is_stack b.format a ≡ true → not (is_stack b.format a || p) ≡ false
on_stack b a p h = ap (λ v. not (v || p)) h

back_to : (n here a : ℕ) (w : ℤ) → negsuc n ≡ pos a -ℤ pos here → w ≡ pos here +ℤ negsuc n → here < 2 ^ 32 → a < 2 ^ 32 → modulo 32 w ≡ a
back_to n here a (pos k) e f h g = omega (arith, ints)
back_to n here a (negsuc k) e f h g = absurd (omega (arith, ints))

-- the distance from here to an address leads there
pub lands : (z : ℤ) (here a : ℕ) → z ≡ pos a -ℤ pos here → here < 2 ^ 32 → a < 2 ^ 32 → offset_by here z ≡ a
lands (pos n) here a e h g = omega (arith, ints)
lands (negsuc n) here a e h g = back_to n here a (pos here +ℤ negsuc n) e refl h g

pub direct : (b : BundlePlace) (here : ℕ) (earlier : List Instr) (j : Instr) (z : ℤ) (later : List Piece) (names : ℕ) (name : ℕ) → IsBody names (To j name)
    → names_withheld Sfi1 j ≡ false → stack.is_stack_write b.format (To j name) ≡ false → is_bundle_start b (offset_by here z) ≡ true
    → breaks_end (place b here earlier (with_offset z j) later) (with_offset z j) ≡ false → Passes (place b here earlier (with_offset z j) later)
direct b here earlier (Jal rd offset) z later names name d h w s e =
    record { v3 = refl; v4 = unreserved rd h; v5 = refl; v6 = refl; v7 = ap not s; v8 = e; v10 = no_write (place b here earlier (Jal rd z) later) (Jal rd z) w }
direct b here earlier (Branch cond rs1 rs2 offset) z later names name d h w s e =
    let x = place b here earlier (Branch cond rs1 rs2 z) later in
    record { v3 = refl; v4 = refl; v5 = refl; v6 = refl; v7 = ap not s; v8 = e; v10 = unwritten x x.instr refl }
direct b here earlier _ z later names name d h w s e = absurd d.1

-- ---- a reading, place by place

ending_step : (x : Piece) (reading : List Piece) (s : BundleSlot) (slots : List BundleSlot) → length reading ≡ length slots → (is_end s ≡ true → ends_region x.instr ≡ true) → (ends_slots slots ≡ true → ends_well reading ≡ true)
    → ends_slots (s ∷ slots) ≡ true → ends_well (x ∷ reading) ≡ true
ending_step x [] s [] n one others h = one h
ending_step x (y ∷ reading) s (t ∷ slots) n one others h = others h
ending_step x [] s (t ∷ slots) n one others h = absurd (omega arith)
ending_step x (y ∷ reading) s [] n one others h = absurd (omega arith)

-- no rule is broken at the place of an instruction after which these slots are read
abbrev pub PassesBefore : BundlePlace → ℕ → List Instr → Instr → List BundleSlot → Type 0
PassesBefore b here earlier i slots =
    (later : List Piece) → AreReadAs slots later → breaks_end (place b here earlier i later) i ≡ false → Passes (place b here earlier i later)

pub step : (b : BundlePlace) (here : ℕ) (earlier : List Instr) (bytes front rest : List ℕ) (i : Instr) (n : ℕ) → Spells front i n → bytes ≡ front ++ rest
    → (x : BundleSlot) (slots : List BundleSlot) → n ≡ slot_size x → IsReadAs x (record { instr = i; size = n }) → (is_end x ≡ true → ends_region i ≡ true)
    → IsCleanFrom b (here + n) (i ∷ earlier) slots rest → PassesBefore b here earlier i slots → IsCleanFrom b here earlier (x ∷ slots) bytes
step b here earlier bytes front rest i n s e x slots same own one c passes =
    let sized = size_of-cons x slots in
    let full = spelled_length front i n s in
    let both : length bytes ≡ length front + length rest = ap length e ∙ length-append front rest in
    let t : take n bytes ≡ front = ap (λ l. take n l) e ∙ ap (λ m. take m (front ++ rest)) (sym full) ∙ take-append_seam front rest in
    let d : drop n bytes ≡ rest = ap (λ l. drop n l) e ∙ ap (λ m. drop m (front ++ rest)) (sym full) ∙ drop-append_seam front rest in
    record {
      reading = record { instr = i; size = n } ∷ c.reading;
      is_reading = (subst (λ (l : List ℕ). Spells l i n) (sym t) s, subst (λ (l : List ℕ). IsReading l c.reading) (sym d) c.is_reading);
      nothing_left = ap (λ l. rest_of l c.reading) d ∙ c.nothing_left;
      count = omega arith;
      read = (own, c.read);
      ending = ending_step (record { instr = i; size = n }) c.reading x slots c.count one c.ending;
      length_is = omega arith;
      found = λ fine.
          let here_none = none_lowest (place b here earlier i c.reading) (passes c.reading c.read (end_passes _ (record { instr = i; size = n }) c.reading fine)) in
          let later_none = c.found (end_later _ (record { instr = i; size = n }) c.reading fine) in
          rw (here_none, later_none) refl;
    }

-- ---- slots

-- an instruction that is made of an address is made of one
pub made : (f : ℕ → Instr) (o : Option ℕ) (i : Instr) → made_of f o ≡ Some i → (a : ℕ) × (o ≡ Some a) × (i ≡ f a)
made f None i e = cc
made f (Some a) i e = (a, refl, sym (some_same (f a) i e))

-- the bytes of a slot spell its instruction
pub slot_spells : (at : Bases) (names : List PlacedName) (here : ℕ) (s : BundleSlot) (bytes : List ℕ) (x : IsSlot at names here s bytes) → Spells bytes x.instr (slot_size s)
slot_spells at names here (Short f) bytes x =
    subst (λ (i : Instr). Spells bytes i 2) (some_same (expansion f) x.instr x.resolves) (subst (λ (l : List ℕ). Spells l (expansion f) 2) (sym x.spelled.1) (short_spells f x.spelled.0))
slot_spells at names here _ bytes x = subst (λ (l : List ℕ). Spells l x.instr 4) (sym x.spelled.1) (word_spells x.instr x.spelled.0)

pub lone_ends : (at : Bases) (names : List PlacedName) (here : ℕ) (s : BundleSlot) (i : Instr) → resolved at names here s ≡ Some i → is_end s ≡ true → ends_region i ≡ true
lone_ends at names here (Short CEbreak) i r h = ap ends_region (sym (some_same Ebreak i r))
lone_ends at names here _ i r h = cc

-- ---- a reading that can't go on is the longest

-- nothing is spelled at the front of no bytes
nothing_there : (x : Piece) → Spells (take x.size []) x.instr x.size → ⊥
nothing_there x h =
    let cut = length-take x.size (none) in
    let all = spelled_length (take x.size none) x.instr x.size h in
    ⊎_elim (λ (e : x.size ≡ 2). omega (arith, cut, all, e)) (λ (e : x.size ≡ 4). omega (arith, cut, all, e)) (two_lengths (take x.size none) x.instr x.size h)
  where
    none : List ℕ
    none = []

-- a reading that leaves nothing is the longest
pub whole_is_longest : (bytes : List ℕ) (reading : List Piece) → IsReading bytes reading → rest_of bytes reading ≡ [] → IsLongestReading bytes reading
whole_is_longest bytes reading is whole = record { is_reading = is; longest = λ other h. no_more bytes reading other is whole h }
  where
    no_more : (bytes : List ℕ) (reading other : List Piece) → IsReading bytes reading → rest_of bytes reading ≡ [] → IsReading bytes other → length other ≤ length reading
    no_more bytes reading [] is whole h = omega arith
    no_more bytes [] (y ∷ other) is whole h = absurd (nothing_there y (subst (λ (l : List ℕ). Spells (take y.size l) y.instr y.size) whole h.0))
    no_more bytes (x ∷ reading) (y ∷ other) is whole h =
        let e = front_one bytes x y is.0 h.0 in
        let n : drop y.size bytes ≡ drop x.size bytes = ap (λ (z : Piece). drop z.size bytes) (sym e) in
        let more = no_more (drop x.size bytes) reading other is.1 whole (subst (λ (l : List ℕ). IsReading l other) n h.1) in
        omega arith
