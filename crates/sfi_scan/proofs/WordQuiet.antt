-- Which instructions of code in words break no rule, what they write, and what is owed after them.
use Rattle.sfi_scan.proofs.Prelude.{◌≡◌, ℕ, Bool, true, false, both_ways, ◌&&◌, ◌||◌, ◌==◌, not, Option, Some, None, refl, sym, ap, ◌∙◌, subst, or_parts, eqb-true, Instr, is_reserved, destination, is_data_register, Owed, Nothing, owed_by, is_reserved_or_typed, ◌+◌, is_some, ap₂, arith, and_right, ne_eqb, BundlePlace, left, IsQuiet, IsBeforeEnd}
use Rattle.std.proofs.lemmas.Bool.{and_left, or_from}
use Rattle.rv_word.specs.Outlines.{is_register}
use Rattle.sfi_pairs.specs.Pairs.{is_masking}
use Rattle.sfi_rules.specs.Rules.{ends_region}
use Rattle.sfi_rules.specs.words.Rules.{owed_of, breaks_reserved, is_reserved_one, breaks_offset, joined, is_of_data, is_of_code, breaks_ecall, breaks_access, breaks_jump, breaks_target}
use Rattle.sfi_rules.specs.words.Findings.{is_at_gate, is_data_one}
use Rattle.sfi_rules.proofs.Facts.{none_of}
use Rattle.sfi_formats.specs.declared.format.Format.{Format}
use Rattle.sfi_formats.specs.Formats.{has_single_mask, is_data_register_in, is_reserved_in}

-- ==== What an instruction writes: a register that is free, or a typed one and what it then owes.

-- the instruction breaks neither V4 nor V12, and `own` must come after it
pub record IsWrite (f : Format) (i : Instr) (own : Owed) : Type 0 where
  pub reserved : breaks_reserved f i ≡ false
  pub offset : breaks_offset f i ≡ false
  pub own_is : owed_by f i ≡ Some own

not_reserved : (f : Format) (r : ℕ) → is_reserved r ≡ false → is_reserved_in f r ≡ false
not_reserved f r h = and_left (is_reserved r) (not (is_data_register_in f r)) h

-- ---- a register that isn't kept

record IsFree (r : ℕ) : Type 0 where
  reserved : is_reserved r ≡ false
  not_data : is_data_register r ≡ false
  base : (r == 26) ≡ false
  code : (r == 30) ≡ false
  offset : (r == 31) ≡ false

free : (r : ℕ) → is_reserved_or_typed r ≡ false → IsFree r
free r h =
    let one = or_parts (is_reserved r || is_data_register r || (r == 30)) (r == 31) h in
    let two = or_parts (is_reserved r || is_data_register r) (r == 30) one.0 in
    let three = or_parts (is_reserved r) (is_data_register r) two.0 in
    let bases = or_parts ((r == 24) || (r == 25) || (r == 26)) (r == 27) three.0 in
    record {
      reserved = three.0;
      not_data = three.1;
      base = (or_parts ((r == 24) || (r == 25)) (r == 26) bases.0).1;
      code = two.1;
      offset = one.1;
    }

-- it is no data register of any format
no_data : (f : Format) (r : ℕ) → IsFree r → is_data_register_in f r ≡ false
no_data f r free = ap₂ (λ (p q : Bool). p || (q && has_single_mask f)) free.not_data (ap₂ (λ (p q : Bool). p || q) free.base free.offset)

abbrev pub is_reserved_or_typed_one : Option ℕ → Bool
is_reserved_or_typed_one None = false
is_reserved_or_typed_one (Some r) = is_reserved_or_typed r

owes_none : (f : Format) (r : ℕ) (i : Instr) → IsFree r → owed_of f (Some r) i ≡ Some Nothing
owes_none f r i free = rw (no_data f r free, free.code) refl

breaks_offset_of : Format → Instr → Option ℕ → Bool
breaks_offset_of f i d = is_register 31 d && not (has_single_mask f || is_masking 27 31 i)

no_offset : (f : Format) (i : Instr) (r : ℕ) → destination i ≡ Some r → (r == 31) ≡ false → breaks_offset f i ≡ false
unfolding breaks_offset_of
no_offset f i r e other = ap (breaks_offset_of f i) e ∙ and_left (r == 31) (not (has_single_mask f || is_masking 27 31 i)) other

-- an instruction that writes none that is kept owes nothing
pub unkept : (f : Format) (i : Instr) → is_reserved_or_typed_one (destination i) ≡ false → IsWrite f i Nothing
unfolding breaks_offset_of
unkept f i h = by (destination i) refl h
  where
    by : (d : Option ℕ) → destination i ≡ d → is_reserved_or_typed_one d ≡ false → IsWrite f i Nothing
    by None e h = record {
      reserved = ap (is_reserved_one f) e;
      offset = ap (breaks_offset_of f i) e;
      own_is = ap (λ (d : Option ℕ). owed_of f d i) e;
    }
    by (Some r) e h =
        let c = free r h in
        record {
          reserved = ap (is_reserved_one f) e ∙ not_reserved f r c.reserved;
          offset = no_offset f i r e c.offset;
          own_is = ap (λ (d : Option ℕ). owed_of f d i) e ∙ owes_none f r i c;
        }

-- ---- a typed one

record IsTyped (f : Format) (r : ℕ) : Type 0 where
  reserved : is_reserved_in f r ≡ false
  offset : (masking : Bool) → ((r == 31) && not (has_single_mask f || masking)) ≡ false

-- x31 is a data register only where masks are single, and then a write of it asks no mask
data_offset : (f : Format) (r : ℕ) → is_data_register_in f r ≡ true → (masking : Bool) → ((r == 31) && not (has_single_mask f || masking)) ≡ false
data_offset f r h masking = by (r == 31) (has_single_mask f) refl refl
  where
    by : (p o : Bool) → (r == 31) ≡ p → has_single_mask f ≡ o → (p && not (o || masking)) ≡ false
    by false o e g = refl
    by true true e g = refl
    by true false e g = absurd (both_ways (has_single_mask f) g (subst (λ (n : ℕ). is_data_register_in f n ≡ true) (eqb-true r 31 e) h))

data_typed : (f : Format) (r : ℕ) → is_data_register_in f r ≡ true → IsTyped f r
data_typed f r h = record {
  reserved = and_right (is_reserved r) (not (is_data_register_in f r)) (ap not h);
  offset = data_offset f r h;
}

is_typed : (f : Format) (r : ℕ) → (is_data_register_in f r || (r == 30)) ≡ true → IsTyped f r
is_typed f r h = by (is_data_register_in f r) refl h
  where
    by : (a : Bool) → is_data_register_in f r ≡ a → (a || (r == 30)) ≡ true → IsTyped f r
    by true e h = data_typed f r e
    by false e h = subst (IsTyped f) (sym (eqb-true r 30 h)) (record { reserved = refl; offset = λ masking. refl })

pub typed : (f : Format) (i : Instr) (r : ℕ) (own : Owed) → destination i ≡ Some r → (is_data_register_in f r || (r == 30)) ≡ true → owed_by f i ≡ Some own → IsWrite f i own
unfolding breaks_offset_of
typed f i r own e h owes =
    let t = is_typed f r h in
    record {
      reserved = ap (is_reserved_one f) e ∙ t.reserved;
      offset = ap (breaks_offset_of f i) e ∙ t.offset (is_masking 27 31 i);
      own_is = owes;
    }

-- ==== Instructions of code in words that break no rule, and what is owed after them.

-- the instruction breaks none of V3, V5, V6 and V7 at the address
pub record IsSafe (b : BundlePlace) (at : ℕ) (i : Instr) : Type 0 where
  pub ecall : breaks_ecall (is_at_gate b at) i ≡ false
  pub access : breaks_access b.format i ≡ false
  pub jump : breaks_jump i ≡ false
  pub target : breaks_target b.code_base b.code_size at i ≡ false

-- nothing is failed where the debt is met and what is owed can be told
met : (p q : Bool) (o own : Option Owed) → is_some o ≡ true → is_some own ≡ true → ((p && not (is_some o)) || (q && not (is_some own))) ≡ false
met p q o own e f = or_from (p && not (is_some o)) (q && not (is_some own)) (and_right p (not (is_some o)) (ap not e)) (and_right q (not (is_some own)) (ap not f))

module _ (b : BundlePlace) (at size : ℕ) (before : IsBeforeEnd b at size) where
  before_end : (at + size == b.code_base + b.code_size) ≡ false
  before_end = ne_eqb (at + size) (b.code_base + b.code_size) (λ e. omega (arith, e, before))

  -- an instruction that meets what was owed, of which `rest` is left, and after which `own` must
  -- come, is quiet
  pub quiet_where : (o rest own : Owed) (i : Instr) → IsSafe b at i → IsWrite b.format i own → left b.format o i ≡ Some rest → IsQuiet b at size o i (joined (Some rest) (Some own))
  quiet_where o rest own i safe write e =
      let there : is_some (left b.format o i) ≡ true = ap is_some e in
      let owes : is_some (owed_by b.format i) ≡ true = ap is_some write.own_is in
      record {
        none = none_of (record { bundle = b; address = at; owed = o; instr = i; size = size })
            (record {
              v3 = safe.ecall;
              v4 = write.reserved;
              v5 = safe.access;
              v6 = safe.jump;
              v7 = safe.target;
              v8 = and_left (at + size == b.code_base + b.code_size) (not (ends_region i)) before_end;
              v10 = met (is_of_data o) (is_data_one b.format (destination i)) (left b.format o i) (owed_by b.format i) there owes;
              v11 = met (is_of_code o) (is_register 30 (destination i)) (left b.format o i) (owed_by b.format i) there owes;
              v12 = write.offset;
            });
        next_is = sym (ap₂ joined e write.own_is);
      }
