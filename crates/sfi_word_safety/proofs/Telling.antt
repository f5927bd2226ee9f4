-- What the findings so far tell of a sandbox: it is clean where the rest is, if there are none.
use Rattle.sfi_word_safety.proofs.Prelude.{append_assoc, ◌≡◌, ◌≢◌, ◌↔◌, ℕ, suc, ◌+◌, ◌-◌, ◌%◌, ◌<◌, ◌≤◌, List, [], ◌∷◌, ◌++◌, length, take, drop, Bool, true, false, cond, not, ◌&&◌, ◌==◌, ◌⊎◌, Option, Some, None, refl, sym, ap, ◌∙◌, subst, inl, inr, arith, ⊎_elim, and_from, not-false, eq-eqb, eqb-true, Instr, Spells, Part, is_gate_of, is_empty, ends_region, BreakNone, AreWordsClean, breaks_width, breaks_ecall, breaks_reserved, breaks_access, breaks_offset, fails_data, fails_code, Finding, Owed, Rule, owed_next, Format}
use Rattle.std.proofs.lemmas.List.{length-drop, length-take, drop-drop, drop-take, take-take, append-nil}
use Rattle.sfi_image.specs.declared.bundle.BundlePlace.{BundlePlace}
use Rattle.sfi_rules.specs.Readings.{Piece, IsReading, IsLongestReading, rest_of}
use Rattle.sfi_rules.specs.declared.owed.Owed.TheVariants as kind
use Rattle.sfi_rules.specs.words.Findings.{InstrInWord, is_at_gate, lowest, found_at, found_from, owed_past, IsWordFound}
use Rattle.sfi_rules.specs.Rules.{rest_finding}
use Rattle.sfi_word_safety.proofs.Owing.{is_nothing, owed_after}
use Rattle.sfi_word_safety.proofs.Judging.{after_is_next, ends_owing}
use Rattle.sfi_rules.proofs.Facts.{AreKept, kept_of, none_of}
use Rattle.sfi_word_safety.proofs.Passing.{BreaksNoneHere, IsKeptHere, IsCleanWith, IsSameWith, with_first, with_last, kept_here, goes}
use Rattle.rv_comp.proofs.Facts.{two_lengths}
use Rattle.sfi_rules.proofs.OneList.{IsStuck, spelled_within}

-- this is owed at the offset, after these findings
pub record Tells (p : Part) (at : ℕ) (owed : Owed) (found : List Finding) : Type 0 where
  pub ended : Bool
  pub end : length p.code ≤ at → found ≡ [] → (is_nothing owed && ended) ≡ true
  pub none : found ≡ [] → IsSameWith p at owed ended
  pub some : found ≢ [] → AreWordsClean p → ⊥

pub no_more : (xs ys : List Finding) → xs ++ ys ≡ [] → (xs ≡ []) × (ys ≡ [])
no_more [] ys e = (refl, e)
no_more (x ∷ xs) ys e = absurd cc

pub tells_first : (p : Part) → Tells p 0 kind.Nothing []
tells_first p = record {
  ended = true;
  end = λ past e. refl;
  none = λ e. with_first p;
  some = λ ne. absurd (ne refl);
}

-- at the code's end
pub told : (p : Part) (at : ℕ) (owed : Owed) (found : List Finding) → length p.code ≤ at → Tells p at owed found → (found ≡ []) ↔ AreWordsClean p
told p at owed [] past t = (
  λ e. (t.none refl).1 (with_last p at owed t.ended past (t.end past refl)),
  λ clean. refl,
)
told p at owed (x ∷ found) past t = (
  λ e. absurd cc,
  λ clean. absurd (t.some (λ e. cc) clean),
)

-- ---- an instruction

found_none : (b : BundlePlace) (at : ℕ) (o : Option Rule) → found_at b at o ≡ [] → o ≡ None
found_none b at None e = refl
found_none b at (Some rule) e = absurd cc

none_found : (b : BundlePlace) (at : ℕ) (o : Option Rule) → o ≡ None → found_at b at o ≡ []
none_found b at o e = ap (found_at b at) e

-- what the bundle's place says of the sandbox
pub record IsPlaceIn (p : Part) (b : BundlePlace) : Type 0 where
  pub base : b.code_base ≡ p.code_base
  pub size : b.code_size ≡ length p.code
  pub format : b.format ≡ p.format

module _ (p : Part) (b : BundlePlace) (in_part : IsPlaceIn p b) (at : ℕ) (i : Instr) (n : ℕ) (s : Spells (take n (drop at p.code)) i n) (o : Owed) (found : List Finding)
    (width : breaks_width (p.code_base + at) n ≡ false) (gate : is_at_gate b (p.code_base + at) ≡ is_gate_of p.gates (p.code_base + at)) (t : Tells p at o found) where
  abbrev this : InstrInWord
  this = record { bundle = b; address = p.code_base + at; owed = o; instr = i; size = n }

  fits : at + n ≤ length p.code
  fits = let w = spelled_within (drop at p.code) i n s in omega (arith, w.0, w.1, length-drop at p.code)

  -- the instruction is the region's last where the code ends with it
  last_there : length p.code ≤ at + n → (p.code_base + at + n == b.code_base + b.code_size) ≡ true
  last_there past = let f = fits in let base = in_part.base in let size = in_part.size in eq-eqb (p.code_base + at + n) (b.code_base + b.code_size) (omega arith)

  past_there : (p.code_base + at + n == b.code_base + b.code_size) ≡ true → length p.code ≤ at + n
  past_there e =
      let same = eqb-true (p.code_base + at + n) (b.code_base + b.code_size) e in
      let base = in_part.base in
      let size = in_part.size in
      omega arith

  here_of : AreKept this → BreaksNoneHere p (p.code_base + at) (record { instr = i; size = n })
  here_of k = record {
    width = width;
    ecall = subst (λ (g : Bool). breaks_ecall g i ≡ false) gate k.v3;
    reserved = subst (λ (f : Format). breaks_reserved f i ≡ false) in_part.format k.v4;
    access = subst (λ (f : Format). breaks_access f i ≡ false) in_part.format k.v5;
    jump = k.v6;
    target = rw (in_part.base, in_part.size) at k.v7;
    offset_write = subst (λ (f : Format). breaks_offset f i ≡ false) in_part.format k.v12;
  }

  kept_by : IsKeptHere p at i n s o t.ended → AreKept this
  kept_by k = record {
    v3 = subst (λ (g : Bool). breaks_ecall g i ≡ false) (sym gate) k.here.ecall;
    v4 = subst (λ (f : Format). breaks_reserved f i ≡ false) (sym in_part.format) k.here.reserved;
    v5 = subst (λ (f : Format). breaks_access f i ≡ false) (sym in_part.format) k.here.access;
    v6 = k.here.jump;
    v7 = rw (in_part.base, in_part.size) k.here.target;
    v8 = last_kept (p.code_base + at + n == b.code_base + b.code_size) (λ e. k.end (past_there e));
    v10 = subst (λ (f : Format). fails_data f o i ≡ false) (sym in_part.format) k.data_met;
    v11 = subst (λ (f : Format). fails_code f o i ≡ false) (sym in_part.format) k.code_met;
    v12 = subst (λ (f : Format). breaks_offset f i ≡ false) (sym in_part.format) k.here.offset_write;
  }
    where
      last_kept : (is : Bool) → (is ≡ true → ends_region i ≡ true) → (is && not (ends_region i)) ≡ false
      last_kept true ends = rw (ends refl) refl
      last_kept false ends = refl

  ends_there : AreKept this → length p.code ≤ at + n → ends_region i ≡ true
  ends_there k past = not-false (ends_region i) (rw (last_there past) at k.v8)

  pub tells_next : Tells p (at + n) (owed_next b.format o i) (found ++ found_at b (p.code_base + at) (lowest this))
  tells_next = record {
    ended = ends_region i;
    end = λ past e.
        let two = no_more found _ e in
        let k = kept_of this (found_none b (p.code_base + at) (lowest this) two.1) in
        let ends = ends_there k past in
        and_from _ _ (ends_owing b.format o i ends) ends;
    none = λ e.
        let two = no_more found _ e in
        let k = kept_of this (found_none b (p.code_base + at) (lowest this) two.1) in
        let after = ap (λ (f : Format). owed_after f o i) (sym in_part.format) ∙ after_is_next b.format o i k.v10 k.v11 in
        goes p at i n s o t.ended (owed_next b.format o i) after (here_of k) (t.none two.0);
    some = λ ne clean. ne (none_here found t clean refl);
  }
    where
      none_here : (xs : List Finding) → Tells p at o xs → AreWordsClean p → xs ≡ found → found ++ found_at b (p.code_base + at) (lowest this) ≡ []
      none_here [] u clean e =
          let k = kept_by (kept_here p at i n s o t.ended (t.none (sym e)) clean) in
          rw (sym e) (none_found b (p.code_base + at) (lowest this) (none_of this k))
      none_here (x ∷ xs) u clean e = absurd (u.some (λ e. cc) clean)

-- ---- what isn't read

abbrev pub Code : Part → ℕ → ℕ → List ℕ
Code p at m = take m (drop at p.code)

spelled_more : (p : Part) (at m : ℕ) (i : Instr) (n : ℕ) → n ≤ m → Spells (take n (Code p at m)) i n → Spells (take n (drop at p.code)) i n
spelled_more p at m i n fits s = subst (λ (l : List ℕ). Spells l i n) (take-take n m (drop at p.code) fits) s

spelled_less : (p : Part) (at m : ℕ) (i : Instr) (n : ℕ) → n ≤ m → Spells (take n (drop at p.code)) i n → Spells (take n (Code p at m)) i n
spelled_less p at m i n fits s = subst (λ (l : List ℕ). Spells l i n) (sym (take-take n m (drop at p.code) fits)) s

-- from offset `at` of the code on, `m` bytes are left of a word
pub record IsLeft (p : Part) (at m : ℕ) : Type 0 where
  pub even : at % 2 ≡ 0
  pub ends : (at + m) % 4 ≡ 0
  pub few : m ≤ 4
  pub inside : at + m ≤ length p.code
  pub base : p.code_base % 4 ≡ 0

-- a clean sandbox reads one instruction more of them
not_stuck : (p : Part) (at m : ℕ) (o : Owed) (e : Bool) → IsLeft p at m → 0 < m → IsStuck (Code p at m) → IsCleanWith p at o e → ⊥
not_stuck p at m o e left more stuck c = by c.rest.pieces c.rest.reading c.rest.whole c.rest.none
  where
    sized : (x : Piece) → Spells (take x.size (drop at p.code)) x.instr x.size → breaks_width (p.code_base + at) x.size ≡ false → (x.size ≡ 2) ⊎ (x.size ≡ 4) → ⊥
    sized x s width (inl two) =
        let even = left.even in
        let ends = left.ends in
        stuck x.instr x.size (spelled_less p at m x.instr x.size (omega arith) s)
    sized x s width (inr four) =
        let kept = not-false ((p.code_base + at) % 4 == 0) (subst (λ (n : ℕ). ((n == 4) && not ((p.code_base + at) % 4 == 0)) ≡ false) four width) in
        let aligned = eqb-true ((p.code_base + at) % 4) 0 kept in
        let base = left.base in
        let ends = left.ends in
        stuck x.instr x.size (spelled_less p at m x.instr x.size (omega arith) s)

    by : (pieces : List Piece) → IsReading (drop at p.code) pieces → rest_of (drop at p.code) pieces ≡ [] → BreakNone p (p.code_base + at) pieces → ⊥
    by [] r whole none = let gone : length (drop at p.code) ≡ 0 = ap length whole in let inside = left.inside in omega (arith, gone, length-drop at p.code)
    by (x ∷ pieces) r whole none = sized x r.0 none.0.width (two_lengths (take x.size (drop at p.code)) x.instr x.size r.0)

pub rest_tells : (p : Part) (at m : ℕ) (o next : Owed) (found here : List Finding) → IsLeft p at m → 0 < m → here ≢ [] → IsStuck (Code p at m) → Tells p at o found → Tells p (at + m) next (found ++ here)
rest_tells p at m o next found here left more some stuck t = record {
  ended = true;
  end = λ past e. absurd (some (no_more found here e).1);
  none = λ e. absurd (some (no_more found here e).1);
  some = λ ne clean. by found t refl clean;
}
  where
    by : (xs : List Finding) → Tells p at o xs → xs ≡ found → AreWordsClean p → ⊥
    by [] u e clean = not_stuck p at m o t.ended left more stuck ((t.none (sym e)).0 clean)
    by (x ∷ xs) u e clean = u.some (λ g. absurd cc) clean

-- ---- a word

rest_some : (b : BundlePlace) (at : ℕ) (rest : List ℕ) → 0 < length rest → rest_finding b at rest ≢ []
rest_some b at [] more e = omega arith
rest_some b at (low ∷ []) more e = absurd cc
rest_some b at (low ∷ high ∷ []) more e = absurd cc
rest_some b at (low ∷ high ∷ third ∷ rest) more e = absurd cc

-- the gate of a bundle's place is the sandbox's, at each address from here on up to there
abbrev pub IsGateOf : Part → BundlePlace → ℕ → ℕ → Type 0
IsGateOf p b from to = (at : ℕ) → from ≤ at → at < to → is_at_gate b (p.code_base + at) ≡ is_gate_of p.gates (p.code_base + at)

longest_stuck : (bytes : List ℕ) → IsLongestReading bytes [] → IsStuck bytes
longest_stuck bytes longest i n s = let k = longest.longest (record { instr = i; size = n } ∷ []) (s, tt) in omega (arith, k)

longest_later : (bytes : List ℕ) (x : Piece) (later : List Piece) → IsLongestReading bytes (x ∷ later) → IsLongestReading (drop x.size bytes) later
longest_later bytes x later h = record {
  is_reading = h.is_reading.1;
  longest = λ other r. let k = h.longest (x ∷ other) (h.is_reading.0, r) in omega (arith, k);
}

module _ (p : Part) (b : BundlePlace) (in_part : IsPlaceIn p b) (begin end : ℕ) (gate : IsGateOf p b begin end) where
  walk : (pieces : List Piece) (at m : ℕ) (w : List ℕ) (o : Owed) (found : List Finding) → w ≡ Code p at m → IsLeft p at m → begin ≤ at → at + m ≤ end → IsLongestReading w pieces → Tells p at o found
      → (k : ℕ) → Tells p (at + m) (cond (is_empty (rest_of w pieces)) (owed_past b.format o pieces) kind.Nothing) (found ++ (found_from b (p.code_base + at) o pieces ++ rest_finding b k (rest_of w pieces)))
  walk [] at m w o found e left from below longest t k = by w refl
    where
      by : (v : List ℕ) → w ≡ v → Tells p (at + m) (cond (is_empty v) o kind.Nothing) (found ++ rest_finding b k v)
      by [] f =
          let none : length (Code p at m) ≡ 0 = ap length (sym e ∙ f) in
          let inside = left.inside in
          let cut = length-take m (drop at p.code) in
          let drops = length-drop at p.code in
          let zero : m ≡ 0 = omega (arith, none, cut, drops) in
          subst (λ (q : ℕ). Tells p q o (found ++ [])) (let s : at ≡ at + m = omega arith in s) (subst (λ (l : List Finding). Tells p at o l) (sym (append-nil found)) t)
      by (y ∷ v) f =
          let some : 0 < m = (let cut = length-take m (drop at p.code) in let count : length (Code p at m) ≡ suc (length v) = ap length (sym e ∙ f) in omega (arith, cut, count)) in
          rest_tells p at m o kind.Nothing found (rest_finding b k (y ∷ v)) left some (rest_some b k (y ∷ v) (omega arith)) (subst IsStuck e (longest_stuck w longest)) t
  walk (x ∷ later) at m w o found e left from below longest t k =
      let s = longest.is_reading.0 in
      let within = spelled_within w x.instr x.size s in
      let cut = length-take m (drop at p.code) in
      let count : length w ≡ length (Code p at m) = ap length e in
      let fits : x.size ≤ m = omega (arith, within.1, cut, count) in
      let size = two_lengths (take x.size w) x.instr x.size s in
      let here = spelled_more p at m x.instr x.size fits (subst (λ (l : List ℕ). Spells (take x.size l) x.instr x.size) e s) in
      let rest = m - x.size in
      let sum : x.size + rest ≡ m = omega (arith, fits) in
      let dropped : drop x.size w ≡ Code p (at + x.size) rest
      = ap (drop x.size) e ∙ ap (λ (q : ℕ). drop x.size (take q (drop at p.code))) (sym sum) ∙ drop-take x.size rest (drop at p.code) ∙ ap (take rest) (drop-drop x.size at p.code) in
      let there : at + x.size + rest ≡ at + m = omega (arith, sum) in
      let t' = tells_next p b in_part at x.instr x.size here o found (width_kept x.size left fits size) (gate at from (omega (arith, within.0, fits, below))) t in
      let next = walk later (at + x.size) rest (drop x.size w) (owed_next b.format o x.instr) _ dropped (left_after x.size left fits size there) (omega (arith, from)) (omega (arith, there, below)) (longest_later w x later longest) t' k in
      let first : List Finding = found_at b (p.code_base + at) (lowest (record { bundle = b; address = p.code_base + at; owed = o; instr = x.instr; size = x.size })) in
      let more : List Finding = found_from b (p.code_base + (at + x.size)) (owed_next b.format o x.instr) later in
      let more' : List Finding = found_from b (p.code_base + at + x.size) (owed_next b.format o x.instr) later in
      let last : List Finding = rest_finding b k (rest_of (drop x.size w) later) in
      let is : Owed = cond (is_empty (rest_of (drop x.size w) later)) (owed_past b.format (owed_next b.format o x.instr) later) kind.Nothing in
      subst (λ (l : List Finding). Tells p (at + m) is l)
      (regroup found first more last more' (ap (λ (a : ℕ). found_from b a (owed_next b.format o x.instr) later) (assoc p.code_base at x.size)))
      (subst (λ (q : ℕ). Tells p q is ((found ++ first) ++ (more ++ last))) there next)
    where
      assoc : (a b c : ℕ) → a + (b + c) ≡ a + b + c
      assoc a b c = omega arith

      regroup : (found first more rest more' : List Finding) → more ≡ more' → (found ++ first) ++ (more ++ rest) ≡ found ++ ((first ++ more') ++ rest)
      regroup found first more rest more' e = rw e (simp append_assoc)

      width_kept : (n : ℕ) → IsLeft p at m → n ≤ m → (n ≡ 2) ⊎ (n ≡ 4) → breaks_width (p.code_base + at) n ≡ false
      width_kept n l fits (inl two) = rw two refl
      width_kept n l fits (inr four) =
          let ends = l.ends in
          let few = l.few in
          let base = l.base in
          let aligned : (p.code_base + at) % 4 ≡ 0 = omega arith in
          rw (four, aligned) refl

      left_after : (n : ℕ) → IsLeft p at m → n ≤ m → (n ≡ 2) ⊎ (n ≡ 4) → at + n + (m - n) ≡ at + m → IsLeft p (at + n) (m - n)
      left_after n l fits size there = record {
        even = (let even = l.even in ⊎_elim (λ two. omega arith) (λ four. omega arith) size);
        ends = ap (λ (q : ℕ). q % 4) there ∙ l.ends;
        few = (let few = l.few in omega arith);
        inside = (let inside = l.inside in omega (arith, there));
        base = l.base;
      }

  pub word_tells : (at : ℕ) (o next : Owed) (found here : List Finding) → IsLeft p at 4 → begin ≤ at → at + 4 ≤ end → IsWordFound b (p.code_base + at) o (Code p at 4) here next → Tells p at o found → Tells p (at + 4) next (found ++ here)
  word_tells at o next found here left from below w t =
      let done = walk w.reading at 4 (Code p at 4) o found refl left from below w.longest t (p.code_base + at + (4 - length (rest_of (Code p at 4) w.reading))) in
      subst (λ (l : List Finding). Tells p (at + 4) next (found ++ l)) (sym w.found_is)
      (subst (λ (q : Owed). Tells p (at + 4) q (found ++ (found_from b (p.code_base + at) o w.reading ++ rest_finding b (p.code_base + at + (4 - length (rest_of (Code p at 4) w.reading))) (rest_of (Code p at 4) w.reading)))) (sym w.next_is) done)
