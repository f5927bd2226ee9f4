-- What a scan in one pass keeps: the sandbox is clean where the rest of its code is, and what is owed comes.
use Rattle.sfi_word_safety.proofs.Prelude.{◌≡◌, ◌↔◌, ℕ, ◌+◌, ◌≤◌, List, [], ◌∷◌, length, take, drop, Bool, true, false, not, ◌&&◌, Option, Some, refl, sym, ap, ◌∙◌, subst, arith, add-zero, length-drop, drop-drop, Instr, Spells, Part, Piece, IsReading, rest_of, is_empty, ends_region, is_gate_of, Owed, Nothing, Mask, PlaceOnly, MaskOrUse, Code, fails_data, fails_code, Format}
use Rattle.std.proofs.lemmas.Bool.{and_parts, and_from, not-true, not-false}
use Rattle.sfi_rules.specs.words.Rules.{breaks_width, breaks_ecall, breaks_reserved, breaks_access, breaks_jump, breaks_target, breaks_end, breaks_data, breaks_code, breaks_offset}
use Rattle.sfi_word_safety.specs.Code.{BreaksNone, BreakNone, AreWordsClean}
use Rattle.sfi_rules.proofs.OneList.{IsStuck, spelled_within, front_one}
use Rattle.sfi_word_safety.proofs.Owing.{meets, meets_if, owed_after, is_nothing, keeps, after_is}
use Rattle.sfi_word_safety.proofs.Judging.{none_failing}

-- ---- what comes after a place, where the rest is read whole, is what is read there

-- a whole reading begins with it, and goes on with a whole reading of what follows
record Begins (bytes : List ℕ) (i : Instr) (n : ℕ) (later : List Piece) : Type 0 where
  pub rest : List Piece
  pub is : later ≡ record { instr = i; size = n } ∷ rest
  pub reading : IsReading (drop n bytes) rest
  pub whole : rest_of (drop n bytes) rest ≡ []

begins : (bytes : List ℕ) (i : Instr) (n : ℕ) → Spells (take n bytes) i n → (later : List Piece) → IsReading bytes later → rest_of bytes later ≡ [] → Begins bytes i n later
begins bytes i n s [] h whole = absurd (let w = spelled_within bytes i n s in let none : length bytes ≡ 0 = ap length whole in omega (arith, w.0, w.1))
begins bytes i n s (x ∷ rest) h whole =
    let e = front_one bytes x (record { instr = i; size = n }) h.0 s in
    record {
      rest = rest;
      is = ap (λ (y : Piece). y ∷ rest) e;
      reading = subst (λ (y : Piece). IsReading (drop y.size bytes) rest) e h.1;
      whole = subst (λ (y : Piece). rest_of (drop y.size bytes) rest ≡ []) e whole;
    }

none_there : (bytes : List ℕ) → IsStuck bytes → (later : List Piece) → IsReading bytes later → later ≡ []
none_there bytes stuck [] h = refl
none_there bytes stuck (x ∷ rest) h = absurd (stuck x.instr x.size h.0)

-- ---- the rest of the code

-- from the offset on the code is read whole, and none breaks a rule
pub record IsCleanFrom (p : Part) (at : ℕ) : Type 0 where
  pub pieces : List Piece
  pub reading : IsReading (drop at p.code) pieces
  pub whole : rest_of (drop at p.code) pieces ≡ []
  pub none : BreakNone p (p.code_base + at) pieces

abbrev pub IsSameFrom : Part → ℕ → Type 0
IsSameFrom p at = AreWordsClean p ↔ IsCleanFrom p at

at_first : (p : Part) → IsSameFrom p 0
at_first p = (
  λ c. record { pieces = c.reading; reading = c.is_reading; whole = c.whole; none = subst (λ (a : ℕ). BreakNone p a c.reading) (sym (add-zero p.code_base)) c.none },
  λ c. record { reading = c.pieces; is_reading = c.reading; whole = c.whole; none = subst (λ (a : ℕ). BreakNone p a c.pieces) (add-zero p.code_base) c.none },
)

-- at the code's end nothing is left
at_last : (p : Part) (at : ℕ) → length p.code ≤ at → IsCleanFrom p at
at_last p at past = record {
  pieces = [];
  reading = tt;
  whole = empty (drop at p.code) (omega (arith, length-drop at p.code));
  none = tt;
}
  where
    empty : (l : List ℕ) → length l ≡ 0 → l ≡ []
    empty [] e = refl
    empty (x ∷ l) e = absurd (omega arith)

-- ---- and what is owed

pub record IsCleanWith (p : Part) (at : ℕ) (owed : Owed) (ended : Bool) : Type 0 where
  pub rest : IsCleanFrom p at
  pub met : meets p.format owed rest.pieces ≡ true
  pub end : (is_empty rest.pieces && not ended) ≡ false

-- none of the rules that don't look ahead is broken by the piece at this address
pub record BreaksNoneHere (p : Part) (at : ℕ) (x : Piece) : Type 0 where
  pub width : breaks_width at x.size ≡ false
  pub ecall : breaks_ecall (is_gate_of p.gates at) x.instr ≡ false
  pub reserved : breaks_reserved p.format x.instr ≡ false
  pub access : breaks_access p.format x.instr ≡ false
  pub jump : breaks_jump x.instr ≡ false
  pub target : breaks_target p.code_base (length p.code) at x.instr ≡ false
  pub offset_write : breaks_offset p.format x.instr ≡ false

abbrev pub IsSameWith : Part → ℕ → Owed → Bool → Type 0
IsSameWith p at owed ended = AreWordsClean p ↔ IsCleanWith p at owed ended

no_end : (b : Bool) → (b && false) ≡ false
no_end true = refl
no_end false = refl

pub with_first : (p : Part) → IsSameWith p 0 Nothing true
with_first p = (
  λ c. let r = (at_first p).0 c in record { rest = r; met = refl; end = no_end (is_empty r.pieces) },
  λ c. (at_first p).1 c.rest,
)

nothing_meets : (f : Format) (o : Owed) (later : List Piece) → is_nothing o ≡ true → meets f o later ≡ true
nothing_meets f Nothing later h = refl
nothing_meets f (Mask d) later h = absurd cc
nothing_meets f (PlaceOnly d) later h = absurd cc
nothing_meets f (MaskOrUse d) later h = absurd cc
nothing_meets f Code later h = absurd cc

no_bytes : (p : Part) (at : ℕ) → length p.code ≤ at → IsStuck (drop at p.code)
no_bytes p at past i n s =
    let w = spelled_within (drop at p.code) i n s in
    omega (arith, w.0, w.1, length-drop at p.code)

-- at the code's end
pub with_last : (p : Part) (at : ℕ) (o : Owed) (e : Bool) → length p.code ≤ at → (is_nothing o && e) ≡ true → IsCleanWith p at o e
with_last p at o e past h =
    let both = and_parts (is_nothing o) e h in
    let r = at_last p at past in
    record { rest = r; met = nothing_meets p.format o r.pieces both.0; end = rw both.1 (no_end (is_empty r.pieces)) }

keeps_from : (f : Format) (i : Instr) (later : List Piece) → breaks_data f i later ≡ false → breaks_code i later ≡ false → keeps f i later ≡ true
keeps_from f i later d c = rw (d, c) refl

module _ (p : Part) (at : ℕ) (i : Instr) (n : ℕ) (s : Spells (take n (drop at p.code)) i n) (o : Owed) (e : Bool) where
  abbrev x : Piece
  x = record { instr = i; size = n }

  -- the pieces from here on, and that what is owed comes and no rule is broken
  record Parts : Type 0 where
    pub later : List Piece
    pub reading : IsReading (drop (at + n) p.code) later
    pub whole : rest_of (drop (at + n) p.code) later ≡ []
    pub none : BreaksNone p (p.code_base + at) (record { instr = i; size = n }) later
    pub later_none : BreakNone p (p.code_base + (at + n)) later
    pub met : meets p.format o (record { instr = i; size = n } ∷ later) ≡ true

  parts : IsCleanWith p at o e → Parts
  parts c =
      let b = begins (drop at p.code) i n s c.rest.pieces c.rest.reading c.rest.whole in
      let moved : drop n (drop at p.code) ≡ drop (at + n) p.code = drop-drop n at p.code in
      let none : BreakNone p (p.code_base + at) (record { instr = i; size = n } ∷ b.rest) = subst (λ (l : List Piece). BreakNone p (p.code_base + at) l) b.is c.rest.none in
      let sum : p.code_base + at + n ≡ p.code_base + (at + n) = omega arith in
      record {
        later = b.rest;
        reading = subst (λ (l : List ℕ). IsReading l b.rest) moved b.reading;
        whole = subst (λ (l : List ℕ). rest_of l b.rest ≡ []) moved b.whole;
        none = none.0;
        later_none = subst (λ (a : ℕ). BreakNone p a b.rest) sum none.1;
        met = subst (λ (l : List Piece). meets p.format o l ≡ true) b.is c.met;
      }

  come : (q : Parts) → meets_if p.format (owed_after p.format o i) q.later ≡ true
  come q = sym (after_is p.format o x q.later) ∙ and_from (meets p.format o (x ∷ q.later)) (keeps p.format i q.later) q.met (keeps_from p.format i q.later q.none.data_write q.none.code_write)

  -- what a clean sandbox keeps here
  pub record IsKeptHere : Type 0 where
    pub here : BreaksNoneHere p (p.code_base + at) (record { instr = i; size = n })
    pub data_met : fails_data p.format o i ≡ false
    pub code_met : fails_code p.format o i ≡ false
    pub end : length p.code ≤ at + n → ends_region i ≡ true

  pub kept_here : IsSameWith p at o e → AreWordsClean p → IsKeptHere
  kept_here same c =
      let q = parts (same.0 c) in
      let two = none_failing p.format o (record { instr = i; size = n }) q.later q.met (keeps_from p.format i q.later q.none.data_write q.none.code_write) in
      record {
        here = record { width = q.none.width; ecall = q.none.ecall; reserved = q.none.reserved; access = q.none.access; jump = q.none.jump; target = q.none.target; offset_write = q.none.offset_write };
        data_met = two.0;
        code_met = two.1;
        end = λ past.
            let none = none_there (drop (at + n) p.code) (no_bytes p (at + n) past) q.later q.reading in
            let kept : breaks_end i [] ≡ false = subst (λ (l : List Piece). breaks_end i l ≡ false) none q.none.end in
            not-false (ends_region i) kept;
      }

  pub goes : (next : Owed) → owed_after p.format o i ≡ Some next → BreaksNoneHere p (p.code_base + at) (record { instr = i; size = n }) → IsSameWith p at o e → IsSameWith p (at + n) next (ends_region i)
  goes next after here same = (
    λ c.
        let q = parts (same.0 c) in
        record {
          rest = record { pieces = q.later; reading = q.reading; whole = q.whole; none = q.later_none };
          met = sym (ap (λ (t : Option Owed). meets_if p.format t q.later) after) ∙ come q;
          end = q.none.end;
        },
    λ c. same.1 (joined c),
  )
    where
      joined : IsCleanWith p (at + n) next (ends_region i) → IsCleanWith p at o e
      joined c =
          let later = c.rest.pieces in
          let moved : drop n (drop at p.code) ≡ drop (at + n) p.code = drop-drop n at p.code in
          let sum : p.code_base + at + n ≡ p.code_base + (at + n) = omega arith in
          let come' : meets_if p.format (owed_after p.format o i) later ≡ true = ap (λ (t : Option Owed). meets_if p.format t later) after ∙ c.met in
          let two = and_parts (meets p.format o (x ∷ later)) (keeps p.format i later) (after_is p.format o x later ∙ come') in
          let kept = and_parts (not (breaks_data p.format i later)) (not (breaks_code i later)) two.1 in
          record {
            rest = record {
              pieces = record { instr = i; size = n } ∷ later;
              reading = (s, subst (λ (l : List ℕ). IsReading l later) (sym moved) c.rest.reading);
              whole = subst (λ (l : List ℕ). rest_of l later ≡ []) (sym moved) c.rest.whole;
              none = (
                record {
                  width = here.width;
                  ecall = here.ecall;
                  reserved = here.reserved;
                  access = here.access;
                  jump = here.jump;
                  target = here.target;
                  end = c.end;
                  data_write = not-true _ kept.0;
                  code_write = not-true _ kept.1;
                  offset_write = here.offset_write;
                },
                subst (λ (a : ℕ). BreakNone p a later) (sym sum) c.rest.none,
              );
            };
            met = two.0;
            end = refl;
          }
