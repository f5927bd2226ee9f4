-- Bytes of slots, of a gate's stub, and of 16-bit forms.
use Rattle.std.proofs.lemmas.List.Folds.{sum_by-replicate}
use Rattle.sfi_rewrite.proofs.Sizes.{size_of-append}
use Rattle.std.proofs.lemmas.Bool.{true≢false}
use Rattle.sfi_formats.specs.Formats.{has_words}
use Rattle.sfi_formats.specs.declared.format.Format.TheVariants.{Sfiw, Sfis}
use Rattle.rv_comp.specs.Table.{Bit, is, bit_of, Fields, number_after, field_value, fields_of}
use Rattle.rv_comp.specs.Fronts.{halfword_of}
use Rattle.rv_comp.specs.declared.form.Form16.{Form16}
use Rattle.rv_comp.specs.declared.form.Form16.TheVariants.{CAddi4spn}
use Rattle.std.proofs.lemmas.Nat.{from_le_bytes-to_le_bytes_2}
use Rattle.std.proofs.lemmas.Nat.Bits.{bit_at-lt}
use Rattle.sfi_link.proofs.Prelude.{◌≡◌, ℕ, ◌+◌, ◌*◌, ◌<◌, List, [], ◌∷◌, ◌++◌, length, replicate, flat_map, subst, ap, ◌∙◌, arith, BundleSlot, Short, slot_size, size_of, slots_of, AreBundles, c_ebreak, zero, suc, length-append, true, false, refl, sym, repeat, Format, spelling, stub, stub_of, ◌^◌, Bool, inl, IsTrue, ◌&&◌, nat_lt, w16, bit_at, to_le_bytes, and_parts, ltb-true, row, allowed, expansion, Spells}

-- ==== How many bytes slots take, and lists of bytes one after another.

-- bundles that are full, and a last one
full_and_last : (full : List (List BundleSlot)) (last : List BundleSlot) → AreBundles (full ++ last ∷ []) → size_of (slots_of (full ++ last ∷ [])) ≡ 16 * length full + size_of last
full_and_last [] last h = let e = size_of-append last [] in omega arith
full_and_last (b ∷ []) last h =
    let e = size_of-append b (slots_of (last ∷ [])) in
    let f = size_of-append last [] in
    let g = h.0 in
    omega arith
full_and_last (b ∷ c ∷ full) last h =
    let e = size_of-append b (slots_of (c ∷ full ++ last ∷ [])) in
    let f = full_and_last (c ∷ full) last h.1 in
    let g = h.0 in
    omega arith

pub all_but_last : (bundles full : List (List BundleSlot)) (last : List BundleSlot) → AreBundles bundles → bundles ≡ full ++ last ∷ [] → size_of (slots_of bundles) ≡ 16 * length full + size_of last
all_but_last bundles full last h e = ap (λ bs. size_of (slots_of bs)) e ∙ full_and_last full last (subst AreBundles e h)

pub slot_some : (s : BundleSlot) → 0 < slot_size s
slot_some (Short f) = omega arith
slot_some _ = omega arith

pub size_fill : (n : ℕ) → size_of (replicate n c_ebreak) ≡ 2 * n
size_fill n = let e = sum_by-replicate slot_size n c_ebreak in omega arith

-- bytes in pieces, one after another
abbrev pub join : List (List ℕ) → List ℕ
join pieces = flat_map (λ (p : List ℕ). p) pieces

-- ==== A gate's bundle in each format.

-- ---- their bytes

pub bundle_stub : (f : Format) → has_words f ≡ false → stub_of f ≡ stub
unfolding stub_of
bundle_stub Sfiw e = absurd (true≢false e)
bundle_stub Sfis e = absurd (true≢false e)
bundle_stub _ e = refl

pub words_stub : (f : Format) → has_words f ≡ true → 0x73 ∷ 0x00 ∷ 0x00 ∷ 0x00 ∷ 0x33 ∷ 0xff ∷ 0x90 ∷ 0x01 ∷ 0x33 ∷ 0x6f ∷ 0x8f ∷ 0x01 ∷ 0x67 ∷ 0x00 ∷ 0x0f ∷ 0x00 ∷ [] ≡ stub_of f
unfolding stub_of spelling
words_stub Sfiw e = refl
words_stub Sfis e = refl
words_stub _ e = absurd (true≢false (sym e))

-- ---- how long they are

length_stub : (f : Format) → length (stub_of f) ≡ 16
unfolding stub_of spelling
length_stub Sfiw = refl
length_stub Sfis = refl
length_stub _ = refl

pub length_stubs : (f : Format) (n : ℕ) → length (repeat n (stub_of f)) ≡ 16 * n
length_stubs f zero = refl
length_stubs f (suc n) =
    let a = length-append (stub_of f) (repeat n (stub_of f)) in
    let b = length_stub f in
    let c = length_stubs f n in
    omega arith

-- ==== What is written of a 16-bit form spells it.

-- ---- a row of 16 bits makes a number of 16 bits

are_bits : List Bit → Bool
are_bits [] = true
are_bits (is b ∷ bs) = nat_lt b 2 && are_bits bs
are_bits (bit_of f k ∷ bs) = are_bits bs

doubled : ℕ → List Bit → ℕ
doubled m [] = m
doubled m (b ∷ bs) = doubled (2 * m) bs

below : (v : Fields) (bs : List Bit) (n m : ℕ) → n < m → are_bits bs ≡ true → number_after n v bs < doubled m bs
unfolding are_bits doubled
below v [] n m lt t = lt
below v (is b ∷ bs) n m lt t =
    let parts = and_parts (nat_lt b 2) (are_bits bs) t in
    let small : b < 2 = ltb-true b 2 parts.0 in
    below v bs (2 * n + b) (2 * m) (omega arith) parts.1
below v (bit_of f k ∷ bs) n m lt t =
    let small : bit_at (field_value v f) k < 2 = bit_at-lt (field_value v f) k in
    below v bs (2 * n + bit_at (field_value v f) k) (2 * m) (omega arith) t

rows : (f : Form16) → (are_bits (row f) ≡ true) × (doubled 1 (row f) ≡ 65536)
unfolding are_bits doubled
rows (CAddi4spn _ _) = (refl, refl)
rows _ = (refl, refl)

halfword_fits : (f : Form16) → halfword_of f < 2 ^ 16
halfword_fits f =
    let r = rows f in
    let h : halfword_of f < doubled 1 (row f) = below (fields_of f) (row f) 0 1 (omega arith) r.0 in
    subst (λ n. halfword_of f < n) r.1 h

-- ---- spellings

-- the two bytes of a form
pub short_spells : (f : Form16) → IsTrue (allowed f) → Spells (to_le_bytes w16 (halfword_of f)) (expansion f) 2
short_spells f ok = inl (record {
  size = refl;
  all = refl;
  spelled = record {
    form = f;
    gives = record { meets = ok; spelled = from_le_bytes-to_le_bytes_2 (halfword_of f) (halfword_fits f) };
    expands = refl;
  };
})
