-- What an instruction of code in words writes, and what it leaves owed.
use Rattle.sfi_link.proofs.Prelude.{◌≡◌, ◌⊎◌, ℕ, Option, Some, None, Bool, true, false, refl, sym, ap, ◌∙◌, subst, inl, inr, ◌==◌, ◌&&◌, ◌||◌, not, or_parts, and_left, and_right, eqb-true, MatchBool, Instr, Op, Jal, Jalr}
use Rattle.std.specs.Prelude.{cond, if◌then◌else◌}
use Rattle.std.proofs.lemmas.Bool.{true≢false}
use Rattle.rv_word.specs.declared.instr.RegOp.TheVariants.{And, Or}
use Rattle.rv_word.specs.Outlines.{destination, is_register}
use Rattle.sfi_source.specs.declared.item.Body.TheVariants.{Plain}
use Rattle.sfi_pairs.specs.Pairs.{is_masking}
use Rattle.sfi_formats.specs.declared.format.Format.{Format}
use Rattle.sfi_formats.specs.Formats.{is_reserved, is_data_register, is_data_register_in, has_words, has_single_mask}
use Rattle.sfi_rewrite.specs.Expansion.{is_withheld, names_withheld}
use Rattle.sfi_rewrite.specs.words.Expansion as words
use Rattle.sfi_rules.specs.declared.owed.Owed.{Owed}
use Rattle.sfi_rules.specs.declared.owed.Owed.TheVariants as kind
use Rattle.sfi_rules.specs.Readings.{is_jump}
use Rattle.sfi_rules.specs.words.Rules.{is_reserved_one, places, is_pointer_step, breaks_offset, owed_by_data, owed_by_code, owed_of, owed_by}
use Rattle.sfi_rewrite.proofs.WordKept.{withheld_in_words, written_free}

-- ---- registers

-- what is so of x2, x3, x4 and x29 is so of each data register
pub of_data : (P : ℕ → Type 0) → P 2 → P 3 → P 4 → P 29 → (d : ℕ) → is_data_register d ≡ true → P d
of_data P two three four address d typed = by (d == 2) (d == 3) (d == 4) (d == 29) refl refl refl refl typed
  where
    by : (a b c e : Bool) → (d == 2) ≡ a → (d == 3) ≡ b → (d == 4) ≡ c → (d == 29) ≡ e → (a || b || c || e) ≡ true → P d
    by true b c e p q r s h = subst P (sym (eqb-true d 2 p)) two
    by false true c e p q r s h = subst P (sym (eqb-true d 3 q)) three
    by false false true e p q r s h = subst P (sym (eqb-true d 4 r)) four
    by false false false true p q r s h = subst P (sym (eqb-true d 29 s)) address
    by false false false false p q r s h = absurd (true≢false (sym h))

-- a register that a source may name
pub record IsFree (r : ℕ) : Type 0 where
  pub reserved : is_reserved r ≡ false
  pub address : (r == 29) ≡ false
  pub code : (r == 30) ≡ false
  pub offset : (r == 31) ≡ false

pub free : (f : Format) (r : ℕ) → has_words f ≡ true → is_withheld f r ≡ false → IsFree r
free f r is_in_words h =
    let a = or_parts (is_reserved r || (r == 29) || (r == 30)) (r == 31) (withheld_in_words f r is_in_words h) in
    let b = or_parts (is_reserved r || (r == 29)) (r == 30) a.0 in
    let c = or_parts (is_reserved r) (r == 29) b.0 in
    record { reserved = c.0; address = c.1; code = b.1; offset = a.1 }

-- the register that it writes, if there is one, is free
abbrev pub IsFreeOne : Option ℕ → Type 0
IsFreeOne None = Unit {0}
IsFreeOne (Some d) = IsFree d

pub free_one : (f : Format) (i : Instr) → has_words f ≡ true → names_withheld f i ≡ false → IsFreeOne (destination i)
free_one f i is_in_words n = by (destination i) refl
  where
    by : (to : Option ℕ) → destination i ≡ to → IsFreeOne to
    by None e = tt
    by (Some d) e = free f d is_in_words (written_free f i d e n)

-- a register that is free is no reserved one, and not x31
pub unreserved : (f : Format) (to : Option ℕ) → IsFreeOne to → is_reserved_one f to ≡ false
unreserved f None free = refl
unreserved f (Some d) free = and_left (is_reserved d) (not (is_data_register_in f d)) free.reserved

pub no_offset : (f : Format) (i : Instr) (to : Option ℕ) → destination i ≡ to → IsFreeOne to → breaks_offset f i ≡ false
no_offset f i to e free = and_left _ (not (has_single_mask f || is_masking 27 31 i)) (ap (is_register 31) e ∙ by to free)
  where
    by : (to : Option ℕ) → IsFreeOne to → is_register 31 to ≡ false
    by None free = refl
    by (Some d) free = free.offset

-- of those that are free the format's data registers are those of each format
data_free : (f : Format) (d : ℕ) → IsFree d → is_data_register_in f d ≡ is_data_register d
data_free f d free =
    let base = (or_parts ((d == 24) || (d == 25)) (d == 26) (or_parts ((d == 24) || (d == 25) || (d == 26)) (d == 27) free.reserved).0).1 in
    rw (base, free.offset) (none (is_data_register d))
  where
    none : (b : Bool) → (b || false) ≡ b
    none true = refl
    none false = refl

pub neither : {a b : Bool} (one : Bool) → a ≡ false → b ≡ false → (if one then a else b) ≡ false
neither true e g = e
neither false e g = g

-- an instruction that names no withheld register ends no mask
pub no_place : (f : Format) (i : Instr) (d : ℕ) → has_words f ≡ true → names_withheld f i ≡ false → places f d i ≡ false
no_place f (Op Or rd a b) d is_in_words n = neither (has_single_mask f) refl (and_left ((rd == d) && (a == 31)) (b == 26) (and_right (rd == d) (a == 31) offset))
  where
    offset : (a == 31) ≡ false
    offset = (free f a is_in_words (or_parts (is_withheld f rd) (is_withheld f a) (or_parts (is_withheld f rd || is_withheld f a) (is_withheld f b) n).0).1).offset
no_place f (Op And rd a b) d is_in_words n = neither (has_single_mask f) (and_right (rd == d) (b == 27) mask) refl
  where
    mask : (b == 27) ≡ false
    mask = (or_parts ((b == 24) || (b == 25) || (b == 26)) (b == 27) (free f b is_in_words (or_parts (is_withheld f rd || is_withheld f a) (is_withheld f b) n).1).reserved).1
no_place f _ d is_in_words n = neither (has_single_mask f) refl refl

-- ---- what it leaves owed

-- what is owed after a write of this register, if it is a data register: its mask, or that or a use
abbrev pub IsMaskOwed : Owed → Option ℕ → Type 0
IsMaskOwed own None = own ≡ kind.Nothing
IsMaskOwed own (Some d) = MatchBool (is_data_register d) ((own ≡ kind.Mask d) ⊎ (own ≡ kind.MaskOrUse d)) (own ≡ kind.Nothing)

pub record Owes (f : Format) (i : Instr) (to : Option ℕ) : Type 0 where
  pub own : Owed
  pub owes : owed_by f i ≡ Some own
  pub is : IsMaskOwed own to

-- one that writes what is free, ends no mask, and isn't a jump that writes a data register
abbrev pub IsGoodWrite : Format → Instr → Option ℕ → Type 0
IsGoodWrite f i None = Unit {0}
IsGoodWrite f i (Some d) = IsFree d × (places f d i ≡ false) × (is_data_register d ≡ true → is_jump i ≡ false)

pub owing : (f : Format) (i : Instr) (to : Option ℕ) → destination i ≡ to → IsGoodWrite f i to → Owes f i to
owing f i None e g = record { own = kind.Nothing; owes = ap (λ t. owed_of f t i) e; is = refl }
owing f i (Some d) e g =
    let by = chosen (is_data_register d) (d == 30) (places f d i) (is_jump i) (is_pointer_step d i) (owed_by_code i) g.0.code g.1 g.2 in
    record { own = by.0; owes = ap (λ t. owed_of f t i) e ∙ ap (λ t. cond t (owed_by_data f d i) (cond (d == 30) (owed_by_code i) (Some kind.Nothing))) (data_free f d g.0) ∙ by.1; is = by.2 }
  where
    chosen : (t x p j s : Bool) (c : Option Owed) → x ≡ false → p ≡ false → (t ≡ true → j ≡ false)
        → (own : Owed) × (cond t (cond p (Some kind.Nothing) (cond j None (cond s (Some (kind.MaskOrUse d)) (Some (kind.Mask d))))) (cond x c (Some kind.Nothing)) ≡ Some own)
        × MatchBool t ((own ≡ kind.Mask d) ⊎ (own ≡ kind.MaskOrUse d)) (own ≡ kind.Nothing)
    chosen true x false false true c a b f = (kind.MaskOrUse d, refl, inr refl)
    chosen true x false false false c a b f = (kind.Mask d, refl, inl refl)
    chosen true x false true s c a b f = absurd (true≢false (f refl))
    chosen true x true j s c a b f = absurd (true≢false b)
    chosen false false p j s c a b f = (kind.Nothing, refl, refl)
    chosen false true p j s c a b f = absurd (true≢false a)

-- so of an instruction of a source
pub owing_as_named : (f : Format) (i : Instr) → has_words f ≡ true → names_withheld f i ≡ false → words.is_barred_jump (Plain i) ≡ false → Owes f i (destination i)
owing_as_named f i is_in_words n b = owing f i (destination i) refl (good (destination i) refl)
  where
    no_jump : (i : Instr) (d : ℕ) → destination i ≡ Some d → words.is_barred_jump (Plain i) ≡ false → is_data_register d ≡ true → is_jump i ≡ false
    no_jump (Jal rd offset) d e b typed = let same : rd ≡ d = cc in absurd (true≢false (sym typed ∙ sym (ap is_data_register same) ∙ b))
    no_jump (Jalr rd a imm) d e b typed = let same : rd ≡ d = cc in absurd (true≢false (sym typed ∙ sym (ap is_data_register same) ∙ (or_parts (is_data_register rd) (not (words.is_zero imm)) b).0))
    no_jump other d e b typed = refl

    good : (to : Option ℕ) → destination i ≡ to → IsGoodWrite f i to
    good None e = tt
    good (Some d) e = (free f d is_in_words (written_free f i d e n), no_place f i d is_in_words n, no_jump i d e b)
