-- A code region of words, stubs, slots and c.ebreaks, has no finding.
use Rattle.sfi_link.proofs.Prelude.{◌≡◌, ℕ, zero, suc, ◌+◌, ◌-◌, ◌*◌, ◌/◌, ◌%◌, ◌<◌, ◌≤◌, List, [], ◌∷◌, ◌++◌, length, take, drop, true, false, refl, sym, ap, ◌∙◌, subst, arith, append_assoc, append-nil, length-append, replicate, repeat, ◌==◌, not, pos, and_left, and_right, ne_eqb, eq-eqb, ints, w32, to_le_bytes, InRange, spelling, Instr, Op, Jalr, Ecall, Ebreak, Spells, c_ebreak, stub_of, Part, Piece, IsReading, rest_of, BundleSlot, Short, PlacedName, slot_size, size_of, Bases, AreSlots}
use Rattle.rv_word.specs.declared.instr.RegOp.TheVariants.{And, Or}
use Rattle.sfi_image.specs.Parts.{is_gate_of}
use Rattle.sfi_image.specs.declared.bundle.BundlePlace.{BundlePlace}
use Rattle.sfi_formats.specs.declared.format.Format.{Format}
use Rattle.sfi_formats.specs.Formats.{has_words}
use Rattle.sfi_rewrite.specs.words.Expansion.{Marked, alone}
use Rattle.sfi_rules.specs.declared.owed.Owed.{Owed}
use Rattle.sfi_rules.specs.declared.owed.Owed.TheVariants as kind
use Rattle.sfi_rules.specs.Readings.{bundle_place}
use Rattle.sfi_rules.specs.Rules.{ends_region}
use Rattle.sfi_rules.specs.words.Rules.{breaks_ecall}
use Rattle.sfi_rules.specs.words.Findings.{is_at_gate, breaks_last, AreFindingsInWords}
use Rattle.std.proofs.Math.Seq.{take-append_seam, drop-append_seam}
use Rattle.rv_comp.proofs.Facts.{word_spells, spelled_length}
use Rattle.sfi_rewrite.proofs.Sizes.{size_of-cons}
use Rattle.sfi_rewrite.proofs.WordLaying.{InWords, no_word, two_forms, one_slot}
use Rattle.sfi_link.proofs.CleanPlaces.{slot_spells, some_same}
use Rattle.sfi_link.proofs.Bytes.{length_stubs, join, size_fill}
use Rattle.sfi_link.proofs.Region.{cut}
use Rattle.sfi_link.proofs.Parts.{slots_length}
use Rattle.sfi_link.proofs.WordFound.{IsQuiet, AreQuiet, quiet_append, length_join, quiet_is_clean}
use Rattle.sfi_link.proofs.WordSlots.{IsLawful, Meets, lawful_by, meets_by, place, quiet_end, quiet_piece, IsRight, AreRight}
use Rattle.std.proofs.lemmas.Grind.{flat_map-append}

-- ---- a word

-- bytes that are read whole, one instruction after another
record IsReadWhole (bytes : List ℕ) (reading : List Piece) : Type 0 where
  is : IsReading bytes reading
  whole : rest_of bytes reading ≡ []

read_none : IsReadWhole [] []
read_none = record { is = tt; whole = refl }

read_more : (front rest : List ℕ) (i : Instr) (n : ℕ) (reading : List Piece) → Spells front i n → IsReadWhole rest reading → IsReadWhole (front ++ rest) (record { instr = i; size = n } ∷ reading)
read_more front rest i n reading s r =
    let size = spelled_length front i n s in
    let t : take n (front ++ rest) ≡ front = ap (λ m. take m (front ++ rest)) (sym size) ∙ take-append_seam front rest in
    let d : drop n (front ++ rest) ≡ rest = ap (λ m. drop m (front ++ rest)) (sym size) ∙ drop-append_seam front rest in
    record {
      is = (subst (λ (l : List ℕ). Spells l i n) (sym t) s, subst (λ (l : List ℕ). IsReading l reading) (sym d) r.is);
      whole = ap (λ l. rest_of l reading) d ∙ r.whole;
    }

-- the region goes on after it
goes_on : (b : BundlePlace) (at n : ℕ) (owed : Owed) (i : Instr) → at + n < b.code_base + b.code_size → breaks_last (place b at owed i n) ≡ false
goes_on b at n owed i below = and_left (at + n == b.code_base + b.code_size) (not (ends_region i)) (ne_eqb (at + n) (b.code_base + b.code_size) (λ e. omega arith))

-- one 32-bit instruction
wide_quiet : (b : BundlePlace) (at : ℕ) (owed next : Owed) (i : Instr) (bytes : List ℕ) → Spells bytes i 4 → breaks_ecall (is_at_gate b at) i ≡ false → IsLawful b.format b.code_base b.code_size at i → breaks_last (place b at owed i 4) ≡ false
    → Meets b.format owed i next → IsQuiet b at owed bytes next
wide_quiet b at owed next i bytes s gate lawful last meets =
    let r = subst (λ l. IsReadWhole l (record { instr = i; size = 4 } ∷ [])) (append-nil bytes) (read_more bytes [] i 4 [] s read_none) in
    let q = quiet_piece b at 4 owed next next i [] gate lawful last meets (quiet_end b (at + 4) next) in
    record { size = spelled_length bytes i 4 s; reading = record { instr = i; size = 4 } ∷ []; is_reading = r.is; whole = r.whole; none = q.none; left = q.left }

-- two of 16 bits
two_quiet : (b : BundlePlace) (at : ℕ) (owed between next : Owed) (i j : Instr) (front back : List ℕ) → Spells front i 2 → Spells back j 2 → IsRight b.format b.code_base b.code_size at owed i between → breaks_last (place b at owed i 2) ≡ false
    → IsRight b.format b.code_base b.code_size (at + 2) between j next → breaks_last (place b (at + 2) between j 2) ≡ false → IsQuiet b at owed (front ++ back) next
two_quiet b at owed between next i j front back s t first first_last second second_last =
    let two = subst (λ l. IsReadWhole l (record { instr = j; size = 2 } ∷ [])) (append-nil back) (read_more back [] j 2 [] t read_none) in
    let r = read_more front back i 2 (record { instr = j; size = 2 } ∷ []) s two in
    let q = quiet_piece b at 2 owed between next i (record { instr = j; size = 2 } ∷ []) (first.no_ecall (is_at_gate b at)) first.lawful first_last first.meets
    (quiet_piece b (at + 2) 2 between next next j [] (second.no_ecall (is_at_gate b (at + 2))) second.lawful second_last second.meets (quiet_end b (at + 2 + 2) next)) in
    let one_size = spelled_length front i 2 s in
    let two_size = spelled_length back j 2 t in
    let long = length-append front back in
    record { size = omega arith; reading = record { instr = i; size = 2 } ∷ record { instr = j; size = 2 } ∷ []; is_reading = r.is; whole = r.whole; none = q.none; left = q.left }

-- ---- slots

-- these bytes are words, which are quiet from the word of that number on
pub record AreWordsOf (sandbox : ℕ) (p : Part) (n : ℕ) (owed : Owed) (bytes : List ℕ) (next : Owed) : Type 0 where
  pub words : List (List ℕ)
  pub bytes_are : bytes ≡ join words
  pub quiet : AreQuiet sandbox p n owed words next

one_word : (sandbox : ℕ) (p : Part) (n : ℕ) (owed between next : Owed) (word rest bytes : List ℕ) → bytes ≡ word ++ rest → IsQuiet (bundle_place sandbox p (n / 4)) (p.code_base + 4 * n) owed word between → AreWordsOf sandbox p (n + 1) between rest next
    → AreWordsOf sandbox p n owed bytes next
one_word sandbox p n owed between next word rest bytes e q more =
    record { words = word ∷ more.words; bytes_are = e ∙ ap (λ l. word ++ l) more.bytes_are; quiet = (between, q, more.quiet) }

both_words : (sandbox : ℕ) (p : Part) (n m : ℕ) (owed between next : Owed) (front back bytes : List ℕ) → bytes ≡ front ++ back → length front ≡ 4 * (m - n) → n ≤ m → AreWordsOf sandbox p n owed front between → AreWordsOf sandbox p m between back next
    → AreWordsOf sandbox p n owed bytes next
both_words sandbox p n m owed between next front back bytes e long up a b =
    let count = length_join sandbox p n owed between a.words a.quiet in
    let same = ap length a.bytes_are in
    let all : bytes ≡ join (a.words ++ b.words) = e ∙ ap (λ l. l ++ back) a.bytes_are ∙ ap (λ l. join a.words ++ l) b.bytes_are ∙ sym (flat_map-append (λ w. w) a.words b.words) in
    record { words = a.words ++ b.words; bytes_are = all; quiet = quiet_append sandbox p n m owed between next a.words b.words (omega arith) a.quiet b.quiet }

pub slots_quiet : (sandbox : ℕ) (p : Part) (at : Bases) (names : List PlacedName) (expanded : List Marked) (slots : List BundleSlot) → InWords expanded slots → (n here : ℕ) (owed next : Owed) (bytes : List ℕ) → here ≡ p.code_base + 4 * n
    → here + size_of slots < p.code_base + length p.code → AreRight p.format p.code_base (length p.code) at names here owed slots next → AreSlots at names here slots bytes → AreWordsOf sandbox p n owed bytes next
slots_quiet sandbox p at names _ _ no_word n here owed next bytes e room right slots = record { words = []; bytes_are = slots; quiet = right }
slots_quiet sandbox p at names _ _ (two_forms l f g expanded words w) n here owed next bytes e room right (front, rest, one, (back, others, two, more, d), c) =
    let sized = size_of-cons (Short f) (Short g ∷ words) in
    let sized_more = size_of-cons (Short g) words in
    let first = right one.instr one.resolves in
    let second = first.2 two.instr two.resolves in
    let b = bundle_place sandbox p (n / 4) in
    let here_is : here ≡ p.code_base + 4 * n = e in
    let past : here + 2 + 2 ≡ here + 4 = omega arith in
    let q = two_quiet b here owed first.0 second.0 one.instr two.instr front back (slot_spells at names here (Short f) front one) (slot_spells at names (here + 2) (Short g) back two) first.1 (goes_on b here 2 owed one.instr (omega arith)) second.1
    (goes_on b (here + 2) 2 first.0 two.instr (omega arith)) in
    let rest_quiet = slots_quiet sandbox p at names expanded words w (n + 1) (here + 4) second.0 next others (omega arith) (omega arith) (subst (λ m. AreRight p.format p.code_base (length p.code) at names m second.0 words next) past second.2)
    (subst (λ m. AreSlots at names m words others) past more) in
    one_word sandbox p n owed second.0 next (front ++ back) others bytes (c ∙ ap (λ v. front ++ v) d ∙ sym (append_assoc front back others)) (subst (λ a. IsQuiet b a owed (front ++ back) second.0) here_is q) rest_quiet
slots_quiet sandbox p at names _ _ (one_slot l s expanded words four w) n here owed next bytes e room right (front, rest, one, more, c) =
    let sized = size_of-cons (alone s) words in
    let first = right one.instr one.resolves in
    let b = bundle_place sandbox p (n / 4) in
    let spelled = subst (λ m. Spells front one.instr m) four (slot_spells at names here (alone s) front one) in
    let past : here + slot_size (alone s) ≡ here + 4 = omega arith in
    let q = wide_quiet b here owed first.0 one.instr front spelled (first.1.no_ecall (is_at_gate b here)) first.1.lawful (goes_on b here 4 owed one.instr (omega arith)) first.1.meets in
    let rest_quiet = slots_quiet sandbox p at names expanded words w (n + 1) (here + 4) first.0 next rest (omega arith) (omega arith) (subst (λ m. AreRight p.format p.code_base (length p.code) at names m first.0 words next) past first.2)
    (subst (λ m. AreSlots at names m words rest) past more) in
    one_word sandbox p n owed first.0 next front rest bytes c (subst (λ a. IsQuiet b a owed front first.0) e q) rest_quiet

-- ---- c.ebreaks

end_right : (f : Format) (base size here : ℕ) → IsRight f base size here kind.Nothing Ebreak kind.Nothing
end_right f base size here = record { no_ecall = λ gate. refl; lawful = lawful_by refl refl refl refl refl; meets = meets_by kind.Nothing kind.Nothing refl refl refl }

fill_quiet : (sandbox : ℕ) (p : Part) (at : Bases) (names : List PlacedName) (fill n here : ℕ) (bytes : List ℕ) → fill % 2 ≡ 0 → here ≡ p.code_base + 4 * n → AreSlots at names here (replicate fill c_ebreak) bytes
    → AreWordsOf sandbox p n kind.Nothing bytes kind.Nothing
fill_quiet sandbox p at names zero n here bytes even e slots = record { words = []; bytes_are = slots; quiet = refl }
fill_quiet sandbox p at names (suc zero) n here bytes even e slots = absurd (omega arith)
fill_quiet sandbox p at names (suc (suc fill)) n here bytes even e (front, rest, one, (back, others, two, more, d), c) =
    let b = bundle_place sandbox p (n / 4) in
    let past : here + 2 + 2 ≡ here + 4 = omega arith in
    let is : Ebreak ≡ one.instr = some_same Ebreak one.instr one.resolves in
    let is_too : Ebreak ≡ two.instr = some_same Ebreak two.instr two.resolves in
    let s = subst (λ i. Spells front i 2) (sym is) (slot_spells at names here c_ebreak front one) in
    let t = subst (λ i. Spells back i 2) (sym is_too) (slot_spells at names (here + 2) c_ebreak back two) in
    let q = two_quiet b here kind.Nothing kind.Nothing kind.Nothing Ebreak Ebreak front back s t (end_right b.format b.code_base b.code_size here) (and_right (here + 2 == b.code_base + b.code_size) false refl)
    (end_right b.format b.code_base b.code_size (here + 2)) (and_right (here + 2 + 2 == b.code_base + b.code_size) false refl) in
    let rest_quiet = fill_quiet sandbox p at names fill (n + 1) (here + 4) others (omega arith) (omega arith) (subst (λ m. AreSlots at names m (replicate fill c_ebreak) others) past more) in
    one_word sandbox p n kind.Nothing kind.Nothing kind.Nothing (front ++ back) others bytes (c ∙ ap (λ v. front ++ v) d ∙ sym (append_assoc front back others)) (subst (λ a. IsQuiet b a kind.Nothing (front ++ back) kind.Nothing) e q) rest_quiet

-- ---- stubs

abbrev word : Instr → List ℕ
word i = to_le_bytes w32 (spelling i)

-- the words of a stub
abbrev stub_words : List (List ℕ)
stub_words = word Ecall ∷ word (Op And 30 1 25) ∷ word (Op Or 30 30 24) ∷ word (Jalr 0 30 (pos 0)) ∷ []

stub_is : (f : Format) → has_words f ≡ true → stub_of f ≡ join stub_words
unfolding stub_of
stub_is f is_in_words = rw is_in_words refl

stub_spells : Spells (word Ecall) Ecall 4 × Spells (word (Op And 30 1 25)) (Op And 30 1 25) 4 × Spells (word (Op Or 30 30 24)) (Op Or 30 30 24) 4 × Spells (word (Jalr 0 30 (pos 0))) (Jalr 0 30 (pos 0)) 4
unfolding InRange
stub_spells = (
  word_spells Ecall tt,
  word_spells (Op And 30 1 25) (omega arith, omega arith, omega arith),
  word_spells (Op Or 30 30 24) (omega arith, omega arith, omega arith),
  word_spells (Jalr 0 30 (pos 0)) (omega arith, omega arith, (omega (arith, ints), omega (arith, ints))),
)

-- the ecall is the gate's first instruction
at_gate : (sandbox : ℕ) (p : Part) (k m at : ℕ) → m ≡ k → at ≡ p.code_base + 16 * k → is_gate_of p.gates (p.code_base + 16 * k) ≡ true → breaks_ecall (is_at_gate (bundle_place sandbox p m) at) Ecall ≡ false
at_gate sandbox p k m at e f listed =
    let here : (at == p.code_base + 16 * k) ≡ true = eq-eqb at (p.code_base + 16 * k) f in
    subst (λ j. breaks_ecall (is_at_gate (bundle_place sandbox p j) at) Ecall ≡ false) (sym e) (rw (listed, here) refl)

stub_quiet : (sandbox : ℕ) (p : Part) (k : ℕ) → is_gate_of p.gates (p.code_base + 16 * k) ≡ true → 16 * k + 16 ≤ length p.code → AreQuiet sandbox p (4 * k) kind.Nothing stub_words kind.Nothing
stub_quiet sandbox p k listed room =
    let b : ℕ → BundlePlace = λ n. bundle_place sandbox p (n / 4) in
    let call = wide_quiet (b (4 * k)) (p.code_base + 4 * (4 * k)) kind.Nothing kind.Nothing Ecall (word Ecall) stub_spells.0 (at_gate sandbox p k (4 * k / 4) (p.code_base + 4 * (4 * k)) (omega arith) (omega arith) listed)
    (lawful_by refl refl refl refl refl) (goes_on (b (4 * k)) (p.code_base + 4 * (4 * k)) 4 kind.Nothing Ecall (omega arith))
    (meets_by kind.Nothing kind.Nothing refl refl refl) in
    let mask = wide_quiet (b (4 * k + 1)) (p.code_base + 4 * (4 * k + 1)) kind.Nothing kind.Code (Op And 30 1 25) (word (Op And 30 1 25)) stub_spells.1 refl
    (lawful_by refl refl refl refl refl) (goes_on (b (4 * k + 1)) (p.code_base + 4 * (4 * k + 1)) 4 kind.Nothing (Op And 30 1 25) (omega arith))
    (meets_by kind.Nothing kind.Code refl refl refl) in
    let put = wide_quiet (b (4 * k + 1 + 1)) (p.code_base + 4 * (4 * k + 1 + 1)) kind.Code kind.Nothing (Op Or 30 30 24) (word (Op Or 30 30 24)) stub_spells.2 refl
    (lawful_by refl refl refl refl refl) (goes_on (b (4 * k + 1 + 1)) (p.code_base + 4 * (4 * k + 1 + 1)) 4 kind.Code (Op Or 30 30 24) (omega arith))
    (meets_by kind.Nothing kind.Nothing refl refl refl) in
    let back = wide_quiet (b (4 * k + 1 + 1 + 1)) (p.code_base + 4 * (4 * k + 1 + 1 + 1)) kind.Nothing kind.Nothing (Jalr 0 30 (pos 0)) (word (Jalr 0 30 (pos 0))) stub_spells.3 refl
    (lawful_by refl refl refl refl refl) (and_right (p.code_base + 4 * (4 * k + 1 + 1 + 1) + 4 == p.code_base + length p.code) false refl)
    (meets_by kind.Nothing kind.Nothing refl refl refl) in
    (kind.Nothing, call, (kind.Code, mask, (kind.Nothing, put, (kind.Nothing, back, refl))))

stubs_quiet : (sandbox : ℕ) (p : Part) → has_words p.format ≡ true → (k count : ℕ) → ((j : ℕ) → j < k + count → is_gate_of p.gates (p.code_base + 16 * j) ≡ true) → 16 * (k + count) ≤ length p.code
    → AreWordsOf sandbox p (4 * k) kind.Nothing (repeat count (stub_of p.format)) kind.Nothing
stubs_quiet sandbox p is_in_words k zero listed room = record { words = []; bytes_are = refl; quiet = refl }
stubs_quiet sandbox p is_in_words k (suc count) listed room =
    let one : AreWordsOf sandbox p (4 * k) kind.Nothing (stub_of p.format) kind.Nothing = record { words = stub_words; bytes_are = stub_is p.format is_in_words; quiet = stub_quiet sandbox p k (listed k (omega arith)) (omega arith) } in
    let more = stubs_quiet sandbox p is_in_words (k + 1) count (λ j below. listed j (omega arith)) (omega arith) in
    let long = length_stubs p.format 1 in
    let nil = ap length (append-nil (stub_of p.format)) in
    both_words sandbox p (4 * k) (4 * (k + 1)) kind.Nothing kind.Nothing kind.Nothing (stub_of p.format) (repeat count (stub_of p.format)) (repeat (suc count) (stub_of p.format)) refl (omega arith) (omega arith) one more

-- ---- the whole region

-- the code is stubs, one a gate, slots, and c.ebreaks
pub record IsFilled (p : Part) (at : Bases) (names : List PlacedName) (stubs : ℕ) (expanded : List Marked) (slots : List BundleSlot) : Type 0 where
  pub format : has_words p.format ≡ true
  pub start : at.start ≡ p.code_base + 16 * stubs
  pub bytes : List ℕ
  pub fill : ℕ
  pub code : p.code ≡ repeat stubs (stub_of p.format) ++ bytes
  pub are : AreSlots at names at.start (slots ++ replicate fill c_ebreak) bytes
  pub in_words : InWords expanded slots
  pub aligned : size_of slots % 4 ≡ 0
  pub some : 0 < fill
  pub bundles : ℕ
  pub size : length p.code ≡ 16 * bundles
  pub right : AreRight p.format p.code_base (length p.code) at names at.start kind.Nothing slots kind.Nothing
  pub listed : (k : ℕ) → k < stubs → is_gate_of p.gates (p.code_base + 16 * k) ≡ true

pub filled_is_clean : (sandbox : ℕ) (p : Part) (at : Bases) (names : List PlacedName) (stubs : ℕ) (expanded : List Marked) (slots : List BundleSlot) → IsFilled p at names stubs expanded slots → AreFindingsInWords sandbox p []
filled_is_clean sandbox p at names stubs expanded slots f =
    let c = cut at names at.start slots (replicate f.fill c_ebreak) f.bytes f.are in
    let code_length = ap length f.code ∙ length-append (repeat stubs (stub_of p.format)) f.bytes in
    let stubs_length = length_stubs p.format stubs in
    let bytes_length = ap length c.whole ∙ length-append c.front c.rest in
    let front_length = slots_length at names at.start slots c.front c.first in
    let rest_length = slots_length at names (at.start + size_of slots) (replicate f.fill c_ebreak) c.rest c.second in
    let fill_length = size_fill f.fill in
    let n = 4 * stubs in
    let m = 4 * stubs + size_of slots / 4 in
    let first = stubs_quiet sandbox p f.format 0 stubs (λ j below. f.listed j (omega arith)) (omega arith) in
    let second = slots_quiet sandbox p at names expanded slots f.in_words n at.start kind.Nothing kind.Nothing c.front (omega arith) (omega arith) f.right c.first in
    let third = fill_quiet sandbox p at names f.fill m (at.start + size_of slots) c.rest (omega arith) (omega arith) c.second in
    let after = both_words sandbox p n m kind.Nothing kind.Nothing kind.Nothing c.front c.rest f.bytes c.whole (omega arith) (omega arith) second third in
    let all = both_words sandbox p 0 n kind.Nothing kind.Nothing kind.Nothing (repeat stubs (stub_of p.format)) f.bytes p.code f.code (omega arith) (omega arith) first after in
    quiet_is_clean sandbox p f.bundles all.words kind.Nothing all.bytes_are f.size all.quiet
