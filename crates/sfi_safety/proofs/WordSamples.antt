-- The samples in words: where they are entered, what they are read as, and what is found.
use Rattle.sfi_safety.proofs.Prelude.{◌≡◌, ℕ, ◌+◌, ◌-◌, ◌*◌, ◌%◌, ◌^◌, ◌<◌, [], ◌∷◌, ◌++◌, length, replicate, true, refl, sym, ap, ◌∙◌, arith, has_words, Bytes, Hart, IsHart, IsEntry, HasReserved, IsUnitStart, IsTyped, IsNeeded, BreaksNoOther, HasUnsafeRun, unit, Rule, Sample, sandbox, suc, ◌==◌, Bool, List, take, drop, filter, cond, Some, None, subst, append-nil, add-zero, Instr, Ebreak, spelling, Format, Sfi1, Sfi2, Sfiw, Sfis, BundlePlace, Finding, bundle_place, bundle_bytes, Piece, IsReading, IsLongestReading, rest_of, is_empty, rest_finding, all_rules, w32, to_le_bytes, Nothing, V8, IsOwedBefore, BreaksAlone, BreaksAloneInWord, BreaksAloneInBundle, words_of, bytes_of, false≢true, list_all, nat_lt, code_region}
use Rattle.std.specs.Prelude.{MatchBool}
use Rattle.sfi_image.specs.Parts.{IsWordStart, reserved_of, data_mask_of}
use Rattle.sfi_image.specs.Spelling.{IsNearIn, data_region}
use Rattle.std.proofs.Common.{inl, inr}
use Rattle.sfi_formats.specs.Formats.{has_single_mask}
use Rattle.sfi_safe_runs.proofs.Entries.{words as word_unit, of_word, of_words_typed, each_beside}
use Rattle.sfi_safety.proofs.Samples.{IsSample, size, each_below, enters_with, needed_from}
use Rattle.std.proofs.Math.Bool.{and-false}
use Rattle.sfi_rules.proofs.Findings.{of_words}
use Rattle.sfi_rules.specs.declared.owed.Owed.{Owed}
use Rattle.sfi_rules.specs.words.Rules.{owed_next}
use Rattle.sfi_rules.specs.words.Findings.{breaks, found_at, found_from, owed_past, IsWordFound, AreFoundInBundle, AreFoundOfFirst, AreFindingsInWords}
use Rattle.sfi_safety.specs.WordSamples.{in_words}
use Rattle.sfi_safety.proofs.Readings.{IsSpelled, BeginsNothing, nothing_begins, longest_of, ebreak_spelled, wide}

-- ==== In either format whose code is in words.

abbrev pub InBothOfWords : (Format → Type 0) → Type 0
InBothOfWords P = P Sfiw × P Sfis

pub of_both_of_words : (P : Format → Type 0) → InBothOfWords P → (f : Format) → has_words f ≡ true → P f
of_both_of_words P both Sfi1 has = absurd (false≢true has)
of_both_of_words P both Sfi2 has = absurd (false≢true has)
of_both_of_words P both Sfiw has = both.0
of_both_of_words P both Sfis has = both.1

-- ==== Where the samples in words are entered.

-- x6 points to the code, x10 to byte 240 of the data, x3, x4, x26 and x29 to byte 0, x25 and x27 have their values, and all others but x2, x24, x30 and x31 are 0
abbrev pub typed_hart : Format → ℕ → ℕ → ℕ → ℕ → ℕ → Hart
typed_hart f pc x2 x24 x30 x31 = record {
  pc = pc;
  registers = 0 ∷ 0 ∷ x2 ∷ 0x02000000 ∷ 0x02000000 ∷ 0 ∷ 0x01000000 ∷ 0 ∷ 0 ∷ 0
      ∷ 0x020000f0 ∷ replicate 13 0 ++ (x24 ∷ 252 ∷ 0x02000000 ∷ data_mask_of f (record { base = 0x02000000; size = 256 }) ∷ 0 ∷ 0x02000000 ∷ x30 ∷ x31 ∷ []);
}

-- x2 points to the data, x24 to the code, and x30 to the last word
abbrev pub at_word : Format → ℕ → Hart
at_word f pc = typed_hart f pc 0x02000000 0x01000000 0x010000fc 0

-- its registers have 32 bits, in each format
small : (f : Format) → list_all (λ x. nat_lt x (2 ^ 32)) (at_word f 0).registers ≡ true
small Sfi1 = refl
small Sfi2 = refl
small Sfiw = refl
small Sfis = refl

is_hart : (f : Format) (pc : ℕ) → pc % 2 ≡ 0 → pc < 2 ^ 32 → IsHart (at_word f pc)
is_hart f pc even fits = record {
  even = even;
  address = fits;
  count = refl;
  words = each_below (2 ^ 32) (at_word f pc).registers (omega arith) (small f);
  zero = refl;
}

module _ (s : Sample) (is : IsSample s) (has : has_words s.format ≡ true) where
  -- a run may begin at the word of that number
  pub enters_word : (n : ℕ) → n < 64 → (m : Bytes) × IsEntry (sandbox s) (record { hart = at_word s.format (0x01000000 + 4 * n); memory = m })
  enters_word n few =
      let size = size s is in
      let at = 0x01000000 + 4 * n in
      let h = at_word s.format at in
      let mask : length (sandbox s).code - unit s.format ≡ 252 = ap (λ (u : ℕ). length (sandbox s).code - u) (word_unit s.format has) ∙ ap (λ (n : ℕ). n - 4) size in
      let start : IsUnitStart (sandbox s) at = of_word (sandbox s) at has (record { held = (omega arith, omega (arith, size, few)); aligned = omega arith }) in
      let reserved : HasReserved (sandbox s).format (reserved_of (sandbox s)) h.registers = record { code_base = refl; code_mask = sym mask; data_base = λ _. refl; data_mask = refl } in
      let base : IsNearIn s.format (data_region (sandbox s)) 1020 0x02000000 = inl (record { low = omega arith; high = omega arith }) in
      let none : has_single_mask s.format ≡ true → IsNearIn s.format (data_region (sandbox s)) 1020 0 = λ one. inr (one, inl (omega arith)) in
      let code : IsWordStart (code_region (sandbox s)) 0x010000fc = record { held = (omega arith, omega (arith, size)); aligned = refl } in
      let typed : IsTyped (sandbox s) h.registers = of_words_typed (sandbox s) h.registers has (record { each_data = each_beside s.format (data_region (sandbox s)) h.registers base base base base (λ one. base) none; code = code; offset = λ _. omega arith }) in
      enters_with s is h (is_hart s.format at (omega arith) (omega (arith, few))) start reserved typed

  -- with that one finding, and a run from the word of that number that is not safe
  pub needed_at : (rule : Rule) (address n : ℕ) → n < 64 → AreFindingsInWords 0 (sandbox s) (record { sandbox = 0; address = address; rule = rule } ∷ []) → BreaksNoOther rule address (sandbox s)
      → ((m : Bytes) → IsEntry (sandbox s) (record { hart = at_word s.format (0x01000000 + 4 * n); memory = m }) → HasUnsafeRun (sandbox s) (record { hart = at_word s.format (0x01000000 + 4 * n); memory = m })) → IsNeeded rule address (sandbox s)
  needed_at rule address n few alone no_other runs =
      let found : List Finding = record { sandbox = 0; address = address; rule = rule } ∷ [] in
      needed_from s is rule address (at_word s.format (0x01000000 + 4 * n)) (enters_word n few) (of_words 0 (sandbox s) found has alone) no_other runs

-- ==== What the words of the samples in words are read as, and the findings of such a sample.

-- ---- a word

-- a word has the findings of its reading and of the bytes that the reading leaves
pub read_word : (b : BundlePlace) (at : ℕ) (owed next : Owed) (word : List ℕ) (reading : List Piece) (rest : List ℕ) (found : List Finding) → IsReading word reading → rest_of word reading ≡ rest → BeginsNothing rest
    → found_from b at owed reading ++ rest_finding b (at + (4 - length rest)) rest ≡ found → cond (is_empty rest) (owed_past b.format owed reading) Nothing ≡ next → IsWordFound b at owed word found next
read_word b at owed next word reading rest found is left end e f = record {
  reading = reading;
  longest = longest_of word reading is (subst BeginsNothing (sym left) end);
  found_is = sym (subst (λ (rest : List ℕ). found_from b at owed reading ++ rest_finding b (at + (4 - length rest)) rest ≡ found) (sym left) e);
  next_is = sym (subst (λ (rest : List ℕ). cond (is_empty rest) (owed_past b.format owed reading) Nothing ≡ next) (sym left) f);
}

-- the findings of a word that is one instruction
pub one_word : (b : BundlePlace) (at : ℕ) (owed next : Owed) (i : Instr) (found : List Finding) → IsSpelled i → found_from b at owed (wide i ∷ []) ≡ found → owed_next b.format owed i ≡ next → IsWordFound b at owed (to_le_bytes w32 (spelling i)) found next
one_word b at owed next i found s e f = read_word b at owed next (to_le_bytes w32 (spelling i)) (wide i ∷ []) [] found (s, tt) refl (nothing_begins [] refl) (append-nil (found_from b at owed (wide i ∷ [])) ∙ e) f

-- an ebreak has no finding where nothing is owed
pub ebreak_found : (b : BundlePlace) (at : ℕ) → IsWordFound b at Nothing (to_le_bytes w32 (spelling Ebreak)) [] Nothing
ebreak_found b at = one_word b at Nothing Nothing Ebreak [] ebreak_spelled (ap (λ (t : Bool). found_at b at (cond t (Some V8) None) ++ []) (and-false (at + 4 == b.code_base + b.code_size))) refl

-- the one rule that is broken at an instruction's word
module _ (s : Sample) (has : has_words s.format ≡ true) (number word : ℕ) (owed : Owed) (i : Instr) (is : IsSpelled i) (there : to_le_bytes w32 (spelling i) ≡ take 4 (drop (4 * word) (bundle_bytes (sandbox s) number))) (before : IsOwedBefore (sandbox s) number word owed) where
  abbrev at : ℕ
  at = 0x01000000 + 16 * number + 4 * word

  pub alone : (rule : Rule) → filter (λ r. breaks (record { bundle = bundle_place 0 (sandbox s) number; address = at; owed = owed; instr = i; size = 4 }) r) all_rules ≡ rule ∷ [] → BreaksAlone rule at (sandbox s)
  alone rule broken =
      let in_word : BreaksAloneInWord rule at (sandbox s) = record {
        number = number;
        word = word;
        owed = owed;
        is_owed = before;
        earlier = [];
        here = wide i;
        later = [];
        longest = subst (λ (bytes : List ℕ). IsLongestReading bytes (wide i ∷ [])) there (longest_of (to_le_bytes w32 (spelling i)) (wide i ∷ []) (is, tt) (nothing_begins [] refl));
        address_is = sym (add-zero at);
        broken = broken;
      } in
      subst (λ (b : Bool). MatchBool b (BreaksAloneInWord rule at (sandbox s)) (BreaksAloneInBundle rule at (sandbox s))) (sym has) in_word

-- ---- a bundle

-- its four words, one after another
pub four_found : (b : BundlePlace) (o n1 n2 n3 n4 : Owed) (w x y z : ℕ) (fw fx fy fz : List Finding) → IsWordFound b (b.address + 4 * 0) o (to_le_bytes w32 w) fw n1 → IsWordFound b (b.address + 4 * 1) n1 (to_le_bytes w32 x) fx n2
    → IsWordFound b (b.address + 4 * 2) n2 (to_le_bytes w32 y) fy n3 → IsWordFound b (b.address + 4 * 3) n3 (to_le_bytes w32 z) fz n4 → AreFoundInBundle b o (bytes_of (w ∷ x ∷ y ∷ z ∷ [])) (((fw ++ fx) ++ fy) ++ fz) n4
four_found b o n1 n2 n3 n4 w x y z fw fx fy fz first second third fourth =
    ((fw ++ fx) ++ fy, fz, n3, (fw ++ fx, fy, n2, (fw, fx, n1, ([], fw, o, (refl, refl), first, refl), second, refl), third, refl), fourth, refl)

pub ebreaks_found : (b : BundlePlace) → AreFoundInBundle b Nothing (bytes_of (words_of (replicate 4 Ebreak))) [] Nothing
ebreaks_found b =
    let brk = spelling Ebreak in
    four_found b Nothing Nothing Nothing Nothing Nothing brk brk brk brk [] [] [] [] (ebreak_found b (b.address + 4 * 0)) (ebreak_found b (b.address + 4 * 1)) (ebreak_found b (b.address + 4 * 2)) (ebreak_found b (b.address + 4 * 3))

-- ---- a sample

abbrev pub brk : ℕ
brk = spelling Ebreak

module _ (f : Format) (a b c d i j k l : ℕ) where
  abbrev s : Sample
  s = record { format = f; gates = []; first_words = a ∷ b ∷ c ∷ d ∷ brk ∷ brk ∷ brk ∷ brk ∷ []; last_words = i ∷ j ∷ k ∷ l ∷ [] }

  -- one bundle of ebreaks more
  more : (n : ℕ) (found : List Finding) → bytes_of (words_of (replicate 4 Ebreak)) ≡ bundle_bytes (sandbox s) n → AreFoundOfFirst 0 (sandbox s) n found Nothing → AreFoundOfFirst 0 (sandbox s) (suc n) found Nothing
  more n found bytes before = (found, [], Nothing, before, subst (λ (l : List ℕ). AreFoundInBundle (bundle_place 0 (sandbox s) n) Nothing l [] Nothing) bytes (ebreaks_found (bundle_place 0 (sandbox s) n)), sym (append-nil found))

  -- all bundles but the last have the findings of the first
  pub before_last : (x : List Finding) → AreFoundInBundle (bundle_place 0 (sandbox s) 0) Nothing (bundle_bytes (sandbox s) 0) x Nothing → AreFoundOfFirst 0 (sandbox s) 15 x Nothing
  before_last x first =
      let at1 : AreFoundOfFirst 0 (sandbox s) 1 x Nothing = ([], x, Nothing, (refl, refl), first, refl) in
      let at4 = more 3 x refl (more 2 x refl (more 1 x refl at1)) in
      let at8 = more 7 x refl (more 6 x refl (more 5 x refl (more 4 x refl at4))) in
      let at12 = more 11 x refl (more 10 x refl (more 9 x refl (more 8 x refl at8))) in
      more 14 x refl (more 13 x refl (more 12 x refl at12))

  -- all bundles together have the findings of the first and of the last
  pub all_found : (x z : List Finding) (next : Owed) → AreFoundInBundle (bundle_place 0 (sandbox s) 0) Nothing (bundle_bytes (sandbox s) 0) x Nothing → AreFoundInBundle (bundle_place 0 (sandbox s) 15) Nothing (bundle_bytes (sandbox s) 15) z next
      → AreFindingsInWords 0 (sandbox s) (x ++ z)
  all_found x z next first last = (16, next, refl, (x, z, Nothing, before_last x first, last, refl))

-- all bundles together have the findings of the first, where the last is ebreaks
pub first_found : (f : Format) (a b c d : ℕ) (x : List Finding) → AreFoundInBundle (bundle_place 0 (sandbox (s f a b c d brk brk brk brk)) 0) Nothing (bundle_bytes (sandbox (s f a b c d brk brk brk brk)) 0) x Nothing → AreFindingsInWords 0 (sandbox (s f a b c d brk brk brk brk)) x
first_found f a b c d x first =
    let p = sandbox (s f a b c d brk brk brk brk) in
    subst (AreFindingsInWords 0 p) (append-nil x) (all_found f a b c d brk brk brk brk x [] Nothing first (ebreaks_found (bundle_place 0 p 15)))

-- where that is of four instructions, they are those at these
module _ (f : Format) (a b c d : Instr) (sa : IsSpelled a) (sb : IsSpelled b) (sc : IsSpelled c) (sd : IsSpelled d) where
  abbrev place : BundlePlace
  place = bundle_place 0 (sandbox (in_words f (a ∷ b ∷ c ∷ d ∷ []))) 0

  pub code_found : (n1 n2 n3 : Owed) (fa fb fc fd : List Finding) → found_from place 0x01000000 Nothing (wide a ∷ []) ≡ fa → owed_next f Nothing a ≡ n1 → found_from place 0x01000004 n1 (wide b ∷ []) ≡ fb → owed_next f n1 b ≡ n2
      → found_from place 0x01000008 n2 (wide c ∷ []) ≡ fc → owed_next f n2 c ≡ n3 → found_from place 0x0100000c n3 (wide d ∷ []) ≡ fd → owed_next f n3 d ≡ Nothing
      → AreFindingsInWords 0 (sandbox (in_words f (a ∷ b ∷ c ∷ d ∷ []))) (((fa ++ fb) ++ fc) ++ fd)
  code_found n1 n2 n3 fa fb fc fd ea oa eb ob ec oc ed od =
      first_found f (spelling a) (spelling b) (spelling c) (spelling d) (((fa ++ fb) ++ fc) ++ fd)
      (four_found place Nothing n1 n2 n3 Nothing (spelling a) (spelling b) (spelling c) (spelling d) fa fb fc fd
      (one_word place 0x01000000 Nothing n1 a fa sa ea oa) (one_word place 0x01000004 n1 n2 b fb sb eb ob) (one_word place 0x01000008 n2 n3 c fc sc ec oc) (one_word place 0x0100000c n3 Nothing d fd sd ed od))
