-- What the tables tell of a halfword, held to what the halfword spells: at each halfword, before each kind of halfword.
use Rattle.std.proofs.Common.{◌≡◌, ℕ, ◌+◌, ◌*◌, ◌/◌, ◌%◌, ◌<◌, Bool, true, false, cond, ◌&&◌, ◌==◌, refl, sym, ap₂, subst, eqb-true, eq-eqb, Option, Some, None, ◌⊎◌, inl, inr, bit_and, bit_or}
use Rattle.std.specs.Prelude.{if◌then◌else◌}
use Rattle.std.specs.Int.Bits.{and_zero_l}
use Rattle.std.proofs.lemmas.Bool.{agree_below, agree_below_at, and_parts}
use Rattle.rv_word.specs.declared.outline.Outline.{Outline}
use Rattle.rv_comp.specs.mirror.{extended, jump_offset, branch_offset, row_of, jump, jump_or_stop, outlined}
use Rattle.sfi_masks.specs.Masks.{is_free_by}
use Rattle.sfi_masks.specs.declared.tables.TheConstants.{ALONE, FOLLOWED, NEXT, REST, ALL, PLAIN}
use Rattle.sfi_masks.specs.private.{Code, bundles, words, may_of, on_of, is_on_x2, byte_classes, half_classes, followed, kept, kept_in_words, kept_of, rest, classes_with, access_classes}
use Rattle.sfi_masks.proofs.Fields.{computes, accesses, with_each_funct7}

-- ---- the fields of a halfword

abbrev pub opcode : ℕ → ℕ
opcode low = low % 128

abbrev pub rd : ℕ → ℕ → ℕ
rd low high = low / 128 + 2 * (high % 16)

abbrev pub funct3 : ℕ → ℕ
funct3 high = high / 16 % 8

-- ---- what is to be told

abbrev pub is_free_half : Code → Option Outline → Bool
is_free_half code (Some o) = is_free_by (may_of code) (on_of code) o
is_free_half code None = false

abbrev pub is_free_word : Code → ℕ → ℕ → ℕ → Bool
is_free_word code low high funct7 = may_of code (rd low high) && computes (opcode low) (funct3 high) funct7

-- what begins with these bytes is free, where funct7 is that of a word
unfoldable pub begins_free : Code → ℕ → ℕ → ℕ → Bool
begins_free code low high funct7 = elim (low % 4 == 3) [ true ↦ is_free_word code low high funct7 | false ↦ is_free_half code (outlined (low + 256 * high)) ]

unfoldable pub begins_access : Code → ℕ → ℕ → Bool
begins_access code low high = accesses (opcode low) (funct3 high) && may_of code (cond (opcode low == 35) 0 (rd low high))

-- ---- the classes, by those that the halfword has in each table

abbrev mask : Code → ℕ
mask code = if is_on_x2 code then ALL else PLAIN

abbrev free_of : ℕ → ℕ → ℕ → ℕ → ℕ → ℕ → ℕ
free_of alone others following next m keep = bit_and (bit_or (bit_or alone (bit_and others m)) (bit_and (bit_and following next) 63)) keep

abbrev access_of : ℕ → ℕ → ℕ → ℕ
access_of following next keep = bit_and (bit_and (bit_and following next) 192) keep

abbrev free_told : Code → ℕ → ℕ → ℕ → ℕ → ℕ → ℕ → ℕ → ℕ → ℕ → Bool
free_told code low high alone others following next m keep funct7 =
    elim (free_of alone others following next m keep == 0) [ true ↦ true | false ↦ begins_free code low high funct7 ]

abbrev access_told : Code → ℕ → ℕ → ℕ → ℕ → ℕ → Bool
access_told code low high following next keep = elim (access_of following next keep == 0) [ true ↦ true | false ↦ begins_access code low high ]

-- before a halfword whose high byte is `next`
abbrev told : Code → ℕ → ℕ → ℕ → ℕ → ℕ → ℕ → ℕ → ℕ → Bool
told code low high alone others following m keep next =
    free_told code low high alone others following (byte_classes NEXT next) m keep (next / 2) && access_told code low high following (byte_classes NEXT next) keep

-- before each kind of halfword: where it is that of funct7 0, 1, 32 and any other
abbrev told_before_each : Code → ℕ → ℕ → ℕ → ℕ → ℕ → ℕ → ℕ → Bool
told_before_each code low high alone others following m keep =
    told code low high alone others following m keep 0 && (told code low high alone others following m keep 2
    && (told code low high alone others following m keep 64 && told code low high alone others following m keep 4))

abbrev none_of : ℕ → ℕ → ℕ → Bool
none_of alone others following = (alone == 0) && ((others == 0) && (following == 0))

-- before each kind of halfword, in one code; where nothing is told with the halfword after it, the last
-- kind is enough
abbrev told_in : Code → ℕ → ℕ → ℕ → ℕ → ℕ → Bool
told_in code low high alone others following = elim (following == 0) [
  | true ↦ told code low high alone others following (mask code) (kept_of code low high) 4
  | false ↦ told_before_each code low high alone others following (mask code) (kept_of code low high)
]

abbrev told_in_either : (Bool → Code) → ℕ → ℕ → ℕ → ℕ → ℕ → Bool
told_in_either code low high alone others following =
    told_in (code false) low high alone others following && told_in (code true) low high alone others following

-- in bundles, where x2 is a stack pointer or not, and in words, where masks are single or not
abbrev in_each_code : ℕ → ℕ → ℕ → ℕ → ℕ → Bool
in_each_code low high alone others following =
    told_in_either bundles low high alone others following && told_in_either words low high alone others following

unfoldable cell : ℕ → ℕ → ℕ → ℕ → ℕ → Bool
cell low high alone others following =
    elim (none_of alone others following) [ true ↦ true | false ↦ in_each_code low high alone others following ]

unfoldable row : ℕ → ℕ → ℕ → ℕ → Bool
row high alone others following =
    agree_below (λ low. cell low high (bit_and (byte_classes ALONE.low low) alone) (bit_and (byte_classes REST.low low) others) (bit_and (byte_classes FOLLOWED.low low) following)) (λ low. true) 256

abbrev row_at : ℕ → Bool
row_at high = row high (byte_classes ALONE.high high) (byte_classes REST.high high) (byte_classes FOLLOWED.high high)

unfoldable tables : Unit {0}
unfolding row cell kept kept_in_words computes accesses begins_free begins_access row_of jump jump_or_stop outlined extended jump_offset branch_offset
tables = tt

all_rows : agree_below (λ high. row_at high) (λ high. true) 256 ≡ true
unfolding tables
all_rows = refl

cell_at : (low high : ℕ) → low < 256 → high < 256 → cell low high (half_classes ALONE low high) (half_classes REST low high) (half_classes FOLLOWED low high) ≡ true
unfolding row
cell_at low high l h =
    agree_below_at
    (λ n. cell n high (bit_and (byte_classes ALONE.low n) (byte_classes ALONE.high high)) (bit_and (byte_classes REST.low n) (byte_classes REST.high high)) (bit_and (byte_classes FOLLOWED.low n) (byte_classes FOLLOWED.high high)))
    (λ n. true) 256 low (agree_below_at (λ n. row_at n) (λ n. true) 256 high all_rows h) l

-- ---- the kinds of the halfword after it

abbrev kind : Bool → Bool → Bool → ℕ
kind a b c = cond a 0 (cond b 2 (cond c 64 4))

abbrev kind_of : ℕ → ℕ
kind_of next = kind (next / 2 == 0) (next / 2 == 1) (next / 2 == 32)

next_is : (next : ℕ) → next < 256 → byte_classes NEXT next ≡ byte_classes NEXT (kind_of next)
next_is next h = eqb-true _ _ (agree_below_at (λ n. byte_classes NEXT n == byte_classes NEXT (kind_of n)) (λ n. true) 256 next refl h)

begins_with_each : (code : Code) (low high funct7 : ℕ) → begins_free code low high 2 ≡ true → begins_free code low high funct7 ≡ true
unfolding begins_free
begins_with_each code low high funct7 h = by (low % 4 == 3) h
  where
    by : (b : Bool) → (elim b [ true ↦ is_free_word code low high 2 | false ↦ is_free_half code (outlined (low + 256 * high)) ]) ≡ true
        → (elim b [ true ↦ is_free_word code low high funct7 | false ↦ is_free_half code (outlined (low + 256 * high)) ]) ≡ true
    by true h =
        let both = and_parts (may_of code (rd low high)) (computes (opcode low) (funct3 high) 2) h in
        ap₂ (λ a b. a && b) both.0 (with_each_funct7 (opcode low) (funct3 high) funct7 both.1)
    by false h = h

begins_by_kind : (code : Code) (low high next : ℕ) → begins_free code low high (kind_of next / 2) ≡ true → begins_free code low high (next / 2) ≡ true
begins_by_kind code low high next h = by (next / 2 == 0) (next / 2 == 1) (next / 2 == 32) refl refl refl h
  where
    same : (n : ℕ) → (next / 2 == n) ≡ true → begins_free code low high n ≡ true → begins_free code low high (next / 2) ≡ true
    same n e is = subst (λ k. begins_free code low high k ≡ true) (sym (eqb-true (next / 2) n e)) is

    by : (a b c : Bool) → (next / 2 == 0) ≡ a → (next / 2 == 1) ≡ b → (next / 2 == 32) ≡ c → begins_free code low high (kind a b c / 2) ≡ true → begins_free code low high (next / 2) ≡ true
    by true b c p q r h = same 0 p h
    by false true c p q r h = same 1 q h
    by false false true p q r h = same 32 r h
    by false false false p q r h = begins_with_each code low high (next / 2) h

-- ---- what is told is so

-- `c`, of which is known that it holds unless `b` does
pub after : (b c : Bool) → b ≡ false → (elim b [ true ↦ true | false ↦ c ]) ≡ true → c ≡ true
after true c e h = absurd cc
after false c e h = h

module _ (code : Code) (low high : ℕ) (low_fits : low < 256) (high_fits : high < 256) where
  abbrev alone : ℕ
  alone = half_classes ALONE low high

  abbrev others : ℕ
  others = half_classes REST low high

  abbrev following : ℕ
  following = half_classes FOLLOWED low high

  abbrev told_here : ℕ → Bool
  told_here next = told code low high alone others following (mask code) (kept_of code low high) next

  abbrev each_told : Bool
  each_told = told_in code low high alone others following

  of_code : (k : Code) → in_each_code low high alone others following ≡ true → told_in k low high alone others following ≡ true
  of_code (bundles false) h = (and_parts _ _ (and_parts _ _ h).0).0
  of_code (bundles true) h = (and_parts _ _ (and_parts _ _ h).0).1
  of_code (words false) h = (and_parts _ _ (and_parts _ _ h).1).0
  of_code (words true) h = (and_parts _ _ (and_parts _ _ h).1).1

  zero_free : (next m keep : ℕ) → free_of 0 0 0 next m keep ≡ 0
  zero_free next m keep = rw (and_zero_l m, and_zero_l next, and_zero_l keep) refl

  zero_access : (next keep : ℕ) → access_of 0 next keep ≡ 0
  zero_access next keep = rw (and_zero_l next, and_zero_l keep) refl

  told_by_last : following ≡ 0 → told_here 4 ≡ true → (next : ℕ) → told_here next ≡ true
  told_by_last none h next =
      let both = and_parts _ _ h in
      let same : free_of alone others following (byte_classes NEXT 4) (mask code) (kept_of code low high) ≡ free_of alone others following (byte_classes NEXT next) (mask code) (kept_of code low high) =
      rw (none, and_zero_l (byte_classes NEXT 4), and_zero_l (byte_classes NEXT next)) refl in
      let no_access : access_of following (byte_classes NEXT next) (kept_of code low high) ≡ 0 = rw none (zero_access (byte_classes NEXT next) (kept_of code low high)) in
      ap₂ (λ a b. a && b)
      (by (free_of alone others following (byte_classes NEXT next) (mask code) (kept_of code low high) == 0)
      (subst (λ f. (elim (f == 0) [ true ↦ true | false ↦ begins_free code low high 2 ]) ≡ true) same both.0))
      (subst (λ a. (elim (a == 0) [ true ↦ true | false ↦ begins_access code low high ]) ≡ true) (sym no_access) refl)
    where
      by : (b : Bool) → (elim b [ true ↦ true | false ↦ begins_free code low high 2 ]) ≡ true → (elim b [ true ↦ true | false ↦ begins_free code low high (next / 2) ]) ≡ true
      by true is = refl
      by false is = begins_with_each code low high (next / 2) is

  told_by_each : told_before_each code low high alone others following (mask code) (kept_of code low high) ≡ true → (a b c : Bool) → told_here (kind a b c) ≡ true
  told_by_each h =
      let first = and_parts (told_here 0) (told_here 2 && (told_here 64 && told_here 4)) h in
      let second = and_parts (told_here 2) (told_here 64 && told_here 4) first.1 in
      let third = and_parts (told_here 64) (told_here 4) second.1 in
      pick first.0 second.0 third.0 third.1
    where
      pick : told_here 0 ≡ true → told_here 2 ≡ true → told_here 64 ≡ true → told_here 4 ≡ true → (a b c : Bool) → told_here (kind a b c) ≡ true
      pick p q r s true b c = p
      pick p q r s false true c = q
      pick p q r s false false true = r
      pick p q r s false false false = s

  told_by_kind : each_told ≡ true → (a b c : Bool) → told_here (kind a b c) ≡ true
  told_by_kind h a b c = by (following == 0) refl h
    where
      by : (is : Bool) → (following == 0) ≡ is → (elim is [ true ↦ told_here 4 | false ↦ told_before_each code low high alone others following (mask code) (kept_of code low high) ]) ≡ true → told_here (kind a b c) ≡ true
      by true is last = told_by_last (eqb-true following 0 is) last (kind a b c)
      by false is each = told_by_each each a b c

  -- in no class, or told before each kind of halfword
  none_or_told : (b : Bool) → none_of alone others following ≡ b
      → (elim b [ true ↦ true | false ↦ in_each_code low high alone others following ]) ≡ true
      → ((alone ≡ 0) × (others ≡ 0) × (following ≡ 0)) ⊎ (each_told ≡ true)
  none_or_told true is h =
      let first = and_parts (alone == 0) ((others == 0) && (following == 0)) is in
      let second = and_parts (others == 0) (following == 0) first.1 in
      inl (eqb-true alone 0 first.0, eqb-true others 0 second.0, eqb-true following 0 second.1)
  none_or_told false is h = inr (of_code code h)

  cases : ((alone ≡ 0) × (others ≡ 0) × (following ≡ 0)) ⊎ (each_told ≡ true)
  unfolding cell
  cases = none_or_told _ refl (cell_at low high low_fits high_fits)

  told_next : (next : ℕ) → next < 256 → each_told ≡ true
      → (free_told code low high alone others following (byte_classes NEXT next) (mask code) (kept_of code low high) (kind_of next / 2) ≡ true)
      × (access_told code low high following (byte_classes NEXT next) (kept_of code low high) ≡ true)
  told_next next h each =
      let both = and_parts _ _ (told_by_kind each (next / 2 == 0) (next / 2 == 1) (next / 2 == 32)) in
      let same = sym (next_is next h) in (
        subst (λ n. free_told code low high alone others following n (mask code) (kept_of code low high) (kind_of next / 2) ≡ true) same both.0,
        subst (λ n. access_told code low high following n (kept_of code low high) ≡ true) same both.1,
      )

  pub free_begins : (next : ℕ) → next < 256 → (classes_with code low high next 63 == 0) ≡ false → begins_free code low high (next / 2) ≡ true
  unfolding followed rest
  free_begins next h some = elim cases [
    | inl none ↦ absurd (let zero_is : free_of alone others following (byte_classes NEXT next) (mask code) (kept_of code low high) ≡ 0 = rw (none.0, none.1, none.2) (zero_free (byte_classes NEXT next) (mask code) (kept_of code low high)) in let e = eq-eqb _ 0 zero_is in cc)
    | inr each ↦ begins_by_kind code low high next (after _ _ some (told_next next h each).0)
  ]

  pub access_begins : (next : ℕ) → next < 256 → (access_classes code low high next == 0) ≡ false → begins_access code low high ≡ true
  unfolding followed
  access_begins next h some = elim cases [
    | inl none ↦ absurd (let zero_is : access_of following (byte_classes NEXT next) (kept_of code low high) ≡ 0 = rw none.2 (zero_access (byte_classes NEXT next) (kept_of code low high)) in let e = eq-eqb _ 0 zero_is in cc)
    | inr each ↦ after _ _ some (told_next next h each).1
  ]
