-- A region of clean bundles has no finding.
use Rattle.sfi_link.proofs.Prelude.{◌≡◌, ℕ, zero, suc, ◌+◌, ◌-◌, ◌*◌, ◌^◌, ◌<◌, ◌≤◌, List, [], ◌∷◌, ◌++◌, length, take, drop, get_or, Bool, true, false, refl, sym, ap, ◌∙◌, subst, arith, inl, inr, length-append, append_assoc, replicate, ◌==◌, ◌&&◌, not, pos, All, repeat, cases_lt, cases_eq, ne_eqb, and_left, and_right, not_from_true, ints, length-replicate, get_or-replicate, get_or_append_left, get_or-append-add, All-head, All-tail, All-nil, All-cons, All-append, All-replicate, Op, Jalr, Ecall, InRange, spelling, Format, Instr, has_stack, c_ebreak, Part, stub, Piece, IsReading, BundleSlot, PlacedName, slot_size, size_of, slots_of, AreWhole, Bases, AreSlots}
use Rattle.sfi_formats.specs.Formats.{has_words}
use Rattle.rv_word.specs.declared.instr.RegOp.TheVariants.{And, Or}
use Rattle.sfi_image.specs.Parts.{is_gate_of}
use Rattle.sfi_rules.specs.Readings.{bundle_bytes, bundle_place}
use Rattle.sfi_rules.specs.Findings.{AreBundleFindings, AreFindingsOfFirst, AreFindingsInBundles, findings_from, rest_finding}
use Rattle.sfi_rules.specs.Rules.{is_empty, is_last_bundle}
use Rattle.sfi_image.specs.declared.bundle.BundlePlace.{BundlePlace}
use Rattle.std.proofs.Math.Seq.{take-append_seam, drop-append-add}
use Rattle.rv_comp.proofs.Facts.{word_spells}
use Rattle.sfi_rewrite.proofs.Sizes.{size_of-cons}
use Rattle.sfi_link.proofs.CleanPlaces.{AreStarts, ends_slots, ends_well, IsEndFine, IsCleanFrom, whole_is_longest}
use Rattle.sfi_link.proofs.Clean.{IsCleanly, clean, clean_fill}
use Rattle.sfi_link.proofs.Bytes.{join}
use Rattle.std.proofs.lemmas.Grind.{flat_map-append}

-- ---- bundles by their number

abbrev pub IsChunk : List ℕ → Type 0
IsChunk c = length c ≡ 16

-- the chunk of that number
chunk_at : (chunks : List (List ℕ)) → All IsChunk chunks → (k : ℕ) → k < length chunks → take 16 (drop (16 * k) (join chunks)) ≡ get_or chunks k []
chunk_at [] h k l = absurd (omega arith)
chunk_at (c ∷ chunks) h zero l =
    let n : length c ≡ 16 = All-head IsChunk c chunks h in
    subst (λ m. take m (c ++ join chunks) ≡ c) n (take-append_seam c (join chunks))
chunk_at (c ∷ chunks) h (suc k) l =
    let n : length c ≡ 16 = All-head IsChunk c chunks h in
    let m : 16 * suc k ≡ length c + 16 * k = omega arith in
    let less : k < length chunks = omega arith in
    ap (λ n. take 16 (drop n (c ++ join chunks))) m ∙ ap (take 16) (drop-append-add c (join chunks) (16 * k)) ∙ chunk_at chunks (All-tail IsChunk c chunks h) k less

length-join : (chunks : List (List ℕ)) → All IsChunk chunks → length (join chunks) ≡ 16 * length chunks
length-join [] h = refl
length-join (c ∷ chunks) h =
    let n : length c ≡ 16 = All-head IsChunk c chunks h in
    let m = length-join chunks (All-tail IsChunk c chunks h) in
    let e = length-append c (join chunks) in
    omega arith

-- bundles without findings
none_of_first : (sandbox : ℕ) (p : Part) (chunks : List (List ℕ)) → p.code ≡ join chunks → All IsChunk chunks
    → ((k : ℕ) → k < length chunks → AreBundleFindings (bundle_place sandbox p k) (get_or chunks k []) []) → (n : ℕ) → n ≤ length chunks → AreFindingsOfFirst sandbox p n []
none_of_first sandbox p chunks e all each zero h = refl
none_of_first sandbox p chunks e all each (suc n) h =
    let less : n < length chunks = omega arith in
    let b : bundle_bytes p n ≡ get_or chunks n [] = ap (λ l. take 16 (drop (16 * n) l)) e ∙ chunk_at chunks all n less in
    ([], [], none_of_first sandbox p chunks e all each n (omega arith), subst (λ (l : List ℕ). AreBundleFindings (bundle_place sandbox p n) l []) (sym b) (each n less), refl)

none_of_region : (sandbox : ℕ) (p : Part) (chunks : List (List ℕ)) → p.code ≡ join chunks → All IsChunk chunks
    → ((k : ℕ) → k < length chunks → AreBundleFindings (bundle_place sandbox p k) (get_or chunks k []) []) → AreFindingsInBundles sandbox p []
none_of_region sandbox p chunks e all each =
    (length chunks, ap length e ∙ length-join chunks all, none_of_first sandbox p chunks e all each (length chunks) (omega arith))

-- ---- what is spelled, cut at a bundle's end

pub record AreCut (at : Bases) (names : List PlacedName) (here : ℕ) (xs ys : List BundleSlot) (bytes : List ℕ) : Type 0 where
  pub front : List ℕ
  pub rest : List ℕ
  pub whole : bytes ≡ front ++ rest
  pub first : AreSlots at names here xs front
  pub second : AreSlots at names (here + size_of xs) ys rest

pub cut : (at : Bases) (names : List PlacedName) (here : ℕ) (xs ys : List BundleSlot) (bytes : List ℕ) → AreSlots at names here (xs ++ ys) bytes → AreCut at names here xs ys bytes
cut at names here [] ys bytes s =
    let e : here ≡ here + 0 = omega arith in
    record { front = []; rest = bytes; whole = refl; first = refl; second = subst (λ n. AreSlots at names n ys bytes) e s }
cut at names here (x ∷ xs) ys bytes (f, r, one, others, e) =
    let c = cut at names (here + slot_size x) xs ys r others in
    let z = size_of-cons x xs in
    let n : here + slot_size x + size_of xs ≡ here + size_of (x ∷ xs) = omega arith in
    record {
      front = f ++ c.front;
      rest = c.rest;
      whole = e ∙ ap (λ l. f ++ l) c.whole ∙ sym (append_assoc f c.front c.rest);
      first = (f, c.front, one, c.first, refl);
      second = subst (λ m. AreSlots at names m ys c.rest) n c.second;
    }

-- ---- full bundles

-- 16 bytes of whole expansions, and of c.ebreaks after them
pub record IsFull (f : Format) (count : ℕ) (slots : List BundleSlot) : Type 0 where
  pub size : size_of slots ≡ 16
  pub front : List BundleSlot
  pub fill : ℕ
  pub shape : slots ≡ front ++ replicate fill c_ebreak
  pub whole : AreWhole f count front

-- the bundles' bytes, of which each is without findings in its place
pub record AreChunks (b : BundlePlace) (here : ℕ) (full : List (List BundleSlot)) (bytes : List ℕ) : Type 0 where
  pub chunks : List (List ℕ)
  pub whole : bytes ≡ join chunks
  pub count : length chunks ≡ length full
  pub all : All IsChunk chunks
  pub each : (k : ℕ) (listed : Bool) → k < length full → IsCleanFrom (record b { address = here + 16 * k; listed = listed }) (here + 16 * k) [] (get_or full k []) (get_or chunks k [])

full_clean : (b : BundlePlace) (at : Bases) (names : List PlacedName) → AreStarts b at names → has_words b.format ≡ false → (count : ℕ) (x : List BundleSlot) → IsFull b.format count x
    → (here : ℕ) (earlier : List Instr) → IsCleanly b at names here earlier x
full_clean b at names starts bundled count x f here earlier =
    subst (IsCleanly b at names here earlier) (sym f.shape)
    (clean b at names starts bundled count f.front (replicate f.fill c_ebreak) f.whole (clean_fill b at names f.fill) here earlier)

chunked : (b : BundlePlace) (at : Bases) (names : List PlacedName) → AreStarts b at names → has_words b.format ≡ false → (here count : ℕ) (full : List (List BundleSlot)) (bytes : List ℕ) → All (IsFull b.format count) full
    → AreSlots at names here (slots_of full) bytes → here + 16 * length full ≤ 2 ^ 32 → AreChunks b here full bytes
chunked b at names starts bundled here count [] bytes all s room = record { chunks = []; whole = s; count = refl; all = All-nil IsChunk; each = λ k l h. absurd (omega arith) }
chunked b at names starts bundled here count (x ∷ full) bytes all s room =
    let f = All-head (IsFull b.format count) x full all in
    let c = cut at names here x (slots_of full) bytes s in
    let z = f.size in
    let n : here + size_of x ≡ here + 16 = omega arith in
    let more = chunked b at names starts bundled (here + 16) count full c.rest (All-tail (IsFull b.format count) x full all) (subst (λ m. AreSlots at names m (slots_of full) c.rest) n c.second) (omega arith) in
    let one = λ (l : Bool). full_clean (record b { address = here; listed = l }) at names starts bundled count x f here [] (omega arith) c.front c.first in
    record {
      chunks = c.front ∷ more.chunks;
      whole = c.whole ∙ ap (λ l. c.front ++ l) more.whole;
      count = ap suc more.count;
      all = All-cons IsChunk c.front more.chunks ((one true).length_is ∙ z) more.all;
      each = each_of b more one;
    }
  where
    each_of : (b : BundlePlace) {here : ℕ} {x : List BundleSlot} {full : List (List BundleSlot)} {rest front : List ℕ} (more : AreChunks b (here + 16) full rest)
        → ((l : Bool) → IsCleanFrom (record b { address = here; listed = l }) here [] x front)
        → (k : ℕ) (l : Bool) → k < length (x ∷ full) → IsCleanFrom (record b { address = here + 16 * k; listed = l }) (here + 16 * k) [] (get_or (x ∷ full) k []) (get_or (front ∷ more.chunks) k [])
    each_of b {here = here} {x = x} {front = front} more one zero l h =
        let e : here ≡ here + 16 * 0 = omega arith in
        subst (λ m. IsCleanFrom (record b { address = m; listed = l }) m [] x front) e (one l)
    each_of b {here = here} {full = full} more one (suc k) l h =
        let e : here + 16 + 16 * k ≡ here + 16 * suc k = omega arith in
        subst (λ m. IsCleanFrom (record b { address = m; listed = l }) m [] (get_or full k []) (get_or more.chunks k [])) e (more.each k l (omega arith))

-- the findings of a bundle that is read whole without any
clean_bundle : (b : BundlePlace) (slots : List BundleSlot) (bytes : List ℕ) → (b.listed ≡ true → bytes ≡ stub) → (c : IsCleanFrom b b.address [] slots bytes) → IsEndFine b c.reading
    → AreBundleFindings b bytes []
clean_bundle b slots bytes listed c fine =
    let P : List ℕ → Type 0 = λ rest. [] ≡ findings_from b (is_empty rest) b.address [] c.reading ++ rest_finding b (b.address + (length bytes - length rest)) rest in
    inr (
      listed,
      record {
        reading = c.reading;
        longest = whole_is_longest bytes c.reading c.is_reading c.nothing_left;
        found_is = subst P (sym c.nothing_left) (rw (c.found fine) refl);
      },
    )

end_fine : (m n : ℕ) (w : Bool) → (m ≡ n → w ≡ true) → ((m == n) && not w) ≡ false
end_fine m n w f = elim (cases_eq m n) [ inl same ↦ and_right (m == n) (not w) (not_from_true w (f same)) | inr other ↦ and_left (m == n) (not w) (ne_eqb m n other) ]

-- ---- stubs

abbrev stub_pieces : List Piece
stub_pieces = record { instr = Ecall; size = 4 } ∷ record { instr = Op And 31 1 25; size = 4 } ∷ record { instr = Op Or 31 31 24; size = 4 } ∷ record { instr = Jalr 0 31 (pos 0); size = 4 } ∷ []

stub_read : IsReading stub stub_pieces
unfolding spelling InRange
stub_read = (
  word_spells Ecall tt,
  (
    word_spells (Op And 31 1 25) (omega arith, omega arith, omega arith),
    (
      word_spells (Op Or 31 31 24) (omega arith, omega arith, omega arith),
      (word_spells (Jalr 0 31 (pos 0)) (omega arith, omega arith, (omega (arith, ints), omega (arith, ints))), tt),
    ),
  ),
)

stub_clean : (b : BundlePlace) → b.listed ≡ true → (b.address + 16 ≡ b.code_base + b.code_size → ⊥) → AreBundleFindings b stub []
stub_clean b g last =
    let nv : is_last_bundle b ≡ false = ne_eqb (b.address + 16) (b.code_base + b.code_size) last in
    inr (
      λ _. refl,
      record { reading = stub_pieces; longest = whole_is_longest stub stub_pieces (stub_read) refl; found_is = simp (g, nv, and_right (has_stack b.format) false refl) },
    )

-- ---- the whole region

stubs_are : (n : ℕ) → repeat n stub ≡ join (replicate n stub)
stubs_are zero = refl
stubs_are (suc n) = ap (λ l. stub ++ l) (stubs_are n)

-- the code is stubs, one a gate, and then full bundles, the last of which ends in c.ebreak
pub record IsClosed (p : Part) (at : Bases) (names : List PlacedName) (stubs : ℕ) (full : List (List BundleSlot)) : Type 0 where
  pub bundled : has_words p.format ≡ false
  pub starts : (sandbox : ℕ) → AreStarts (bundle_place sandbox p 0) at names
  pub start : at.start ≡ p.code_base + 16 * stubs
  pub room : p.code_base + length p.code ≤ 2 ^ 32
  pub bytes : List ℕ
  pub code : p.code ≡ repeat stubs stub ++ bytes
  pub slots : AreSlots at names at.start (slots_of full) bytes
  pub all : All (IsFull p.format (length names)) full
  pub some : 0 < length full
  pub ends : (k : ℕ) → k + 1 ≡ length full → ends_slots (get_or full k []) ≡ true
  pub listed : (k : ℕ) → ((is_gate_of p.gates (p.code_base + 16 * k) ≡ true) → k < stubs) × (k < stubs → is_gate_of p.gates (p.code_base + 16 * k) ≡ true)

-- the region holds the stubs and the bundles
region_size : (p : Part) (stubs : ℕ) (full : List (List BundleSlot)) (bytes : List ℕ) → p.code ≡ repeat stubs stub ++ bytes → length bytes ≡ 16 * length full → length p.code ≡ 16 * (stubs + length full)
region_size p stubs full bytes e n =
    let a = ap length (e ∙ ap (λ l. l ++ bytes) (stubs_are stubs)) in
    let b = length-append (join (replicate stubs stub)) bytes in
    let c = length-join (replicate stubs stub) (All-replicate IsChunk stubs stub refl) in
    let d = length-replicate stubs stub in
    omega (arith, a, b, c, d, n)

pub closed_is_clean : (sandbox : ℕ) (p : Part) (at : Bases) (names : List PlacedName) (stubs : ℕ) (full : List (List BundleSlot)) → IsClosed p at names stubs full
    → at.start + 16 * length full ≤ 2 ^ 32 → AreFindingsInBundles sandbox p []
closed_is_clean sandbox p at names stubs full h fits =
    let c = chunked (bundle_place sandbox p 0) at names (h.starts sandbox) h.bundled at.start (length names) full h.bytes h.all h.slots fits in
    let count = c.count in
    let joined = length-join c.chunks c.all in
    let long = ap length c.whole in
    let size : length p.code ≡ 16 * (stubs + length full) = region_size p stubs full h.bytes h.code (omega (arith, long, joined, count)) in
    let many : length (replicate stubs stub) ≡ stubs = length-replicate stubs stub in
    let all_many : length (replicate stubs stub ++ c.chunks) ≡ length (replicate stubs stub) + length c.chunks = length-append (replicate stubs stub) c.chunks in
    let code : p.code ≡ join (replicate stubs stub ++ c.chunks) =
    h.code ∙ ap (λ l. repeat stubs stub ++ l) c.whole ∙ ap (λ l. l ++ join c.chunks) (stubs_are stubs) ∙ sym (flat_map-append (λ c. c) (replicate stubs stub) c.chunks) in
    none_of_region sandbox p (replicate stubs stub ++ c.chunks) code (All-append IsChunk (replicate stubs stub) c.chunks (All-replicate IsChunk stubs stub refl) c.all)
    (λ k less. elim (cases_lt k stubs) [
      | inl low ↦
          let e : get_or (replicate stubs stub ++ c.chunks) k [] ≡ stub = get_or_append_left (replicate stubs stub) c.chunks [] k (omega arith) ∙ get_or-replicate stubs k stub [] low in
          subst (λ (l : List ℕ). AreBundleFindings (bundle_place sandbox p k) l []) (sym e) (stub_clean (bundle_place sandbox p k) ((h.listed k).1 low) (λ x. omega arith))
      | inr high ↦
          let j : k ≡ length (replicate stubs stub) + (k - stubs) = omega arith in
          let e : get_or (replicate stubs stub ++ c.chunks) k [] ≡ get_or c.chunks (k - stubs) [] = ap (λ n. get_or (replicate stubs stub ++ c.chunks) n []) j ∙ get_or-append-add (replicate stubs stub) c.chunks (k - stubs) [] in
          let a : at.start + 16 * (k - stubs) ≡ p.code_base + 16 * k = omega arith in
          let inside : k - stubs < length full = omega arith in
          let listed = is_gate_of p.gates (p.code_base + 16 * k) in
          let clean_one : IsCleanFrom (bundle_place sandbox p k) (p.code_base + 16 * k) [] (get_or full (k - stubs) []) (get_or c.chunks (k - stubs) []) =
          subst (λ m. IsCleanFrom (record (bundle_place sandbox p 0) { address = m; listed = listed }) m [] (get_or full (k - stubs) []) (get_or c.chunks (k - stubs) [])) a (c.each (k - stubs) listed inside) in
          let found = clean_bundle (bundle_place sandbox p k) (get_or full (k - stubs) []) (get_or c.chunks (k - stubs) [])
          (λ g. absurd (let low : k < stubs = (h.listed k).0 g in omega arith))
          clean_one
          (end_fine (p.code_base + 16 * k + 16) (p.code_base + length p.code) (ends_well clean_one.reading) (λ x. clean_one.ending (h.ends (k - stubs) (omega arith)))) in
          subst (λ (l : List ℕ). AreBundleFindings (bundle_place sandbox p k) l []) (sym e) found
    ])
