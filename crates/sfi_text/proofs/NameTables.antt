-- The tables of keywords and of the names of registers.
use Rattle.sfi_text.specs.Tokens.{abi_names, x_name, IsRegister}
use Rattle.std.proofs.lemmas.List.{get_or-map, length-map}
use Rattle.std.proofs.lemmas.List.FromFn.{length-range_with_len, get_or-range_with_len}
use Rattle.std.specs.Fmt.{digits}
use Rattle.sfi_text.proofs.Decided.{decided_same}
use Rattle.sfi_text.specs.declared.register.TheConstants.{PLACES as REGISTER_PLACES}
use Rattle.sfi_text.specs.private.Reading.{hash, name_place, register_names, name_at, register_at, candidate, mnemonic_in}
use Rattle.sfi_text.specs.declared.keyword.DataWidth.TheVariants.{Word}
use Rattle.sfi_text.specs.declared.keyword.TheConstants.{ALL, PLACES as KEYWORD_PLACES}
use Rattle.sfi_text.specs.declared.mnemonic.Mnemonic.TheVariants.{Op, OpImm, Load, Store, Branch, Jal}
use Rattle.rv_word.specs.declared.instr.Cond.TheVariants.{Beq}
use Rattle.rv_word.specs.declared.instr.ImmOp.TheVariants.{Addi}
use Rattle.rv_word.specs.declared.instr.LoadKind.TheVariants.{Lb}
use Rattle.rv_word.specs.declared.instr.RegOp.TheVariants.{Add}
use Rattle.rv_word.specs.declared.instr.StoreWidth.TheVariants.{Sb}
use Rattle.sfi_text.proofs.Lexing.{Passes}
use Rattle.sfi_text.specs.declared.keyword.Keyword.TheVariants as keyword
use Rattle.sfi_text.specs.declared.keyword.Directive.TheVariants.{Sandbox}
use Rattle.sfi_text.proofs.Prelude.{◌≡◌, ℕ, ◌+◌, ◌*◌, ◌%◌, ◌<◌, Bool, true, ◌&&◌, ◌||◌, List, [], ◌∷◌, map, get_or, slice_index, slice_index_or, length, ◌⊎◌, inl, inr, ⊎_elim, refl, sym, ap, ◌∙◌, subst, subst₂, arith, zero-add, Some, bytes_eq, nat_lt, codes, ◌==◌, list_all, range_with_len, bytes_eq-Decides, AllPass-from_list_all, get_or_from_slice_get, slice_get-get_or, and_parts, ltb-true, eqb-true, or_cases, false, false≢true, begins_name, continues_name, IsName, Option, None, IfSome, IfNone, same_Some, Mnemonic, Keyword, Nop, name_of, keyword_name}

-- ==== The table of the names of registers has just those that the definitions give.

-- a test that passes at each number below a bound by computation
pub below : (n : ℕ) (test : ℕ → Bool) → list_all test (range_with_len 0 n) ≡ true → (r : ℕ) → r < n → test r ≡ true
below n test h r lt = subst (λ k. test k ≡ true) (get_or-range_with_len 0 n r 0 lt ∙ zero-add r) (AllPass-from_list_all test (range_with_len 0 n) h r 0 (omega (arith, length-range_with_len 0 n)))

same : (text other : List ℕ) → bytes_eq text other ≡ true → text ≡ other
same text other h = (bytes_eq-Decides text other).0 h

-- the text is one of the register's names, by computation
abbrev names : List ℕ → ℕ → Bool
names text r =
    nat_lt r 32 && (bytes_eq text (x_name r) || (bytes_eq text (get_or abi_names r []) || (bytes_eq text (codes "fp") && (r == 8))))

names_register : (text : List ℕ) (r : ℕ) → names text r ≡ true → IsRegister text r
names_register text r h =
    let p = and_parts (nat_lt r 32) _ h in
    let lt : r < 32 = ltb-true r 32 p.0 in (
      lt,
      ⊎_elim
          (λ x. inl (same _ _ x))
          (λ q. ⊎_elim
          (λ a. inr (inl (slice_get-get_or abi_names r [] lt ∙ ap Some (sym (same _ _ a)))))
          (λ f. let g = and_parts _ (r == 8) f in inr (inr (same _ _ g.0, eqb-true r 8 g.1)))
          (or_cases (bytes_eq text (get_or abi_names r [])) _ q))
          (or_cases (bytes_eq text (x_name r)) _ p.1),
    )

-- each name of the table is one of its register
named : (p : ℕ) → p < 65 → IsRegister (name_at p) (register_at p)
unfolding digits
named p lt = names_register _ _ (below 65 (λ k. names (name_at k) (register_at k)) refl p lt)

-- and each name of a register is at its place
abbrev Found : List ℕ → ℕ → Type 0
Found text r = (name_at (name_place text) ≡ text) × (register_at (name_place text) ≡ r)

abbrev is_found : List ℕ → ℕ → Bool
is_found text r = bytes_eq (name_at (name_place text)) text && (register_at (name_place text) == r)

found_is : (text : List ℕ) (r : ℕ) → is_found text r ≡ true → Found text r
found_is text r h = let p = and_parts _ _ h in (same _ _ p.0, eqb-true _ r p.1)

found : (text : List ℕ) (r : ℕ) → IsRegister text r → Found text r
unfolding name_place hash digits
found text r (lt, inl e) = subst (λ t. Found t r) (sym e) (found_is _ r (below 32 (λ k. is_found (x_name k) k) refl r lt))
found text r (lt, inr (inl e)) = subst (λ t. Found t r) (get_or_from_slice_get abi_names r text [] e) (found_is _ r (below 32 (λ k. is_found (get_or abi_names k []) k) refl r lt))
found text r (lt, inr (inr (e, f))) = subst (λ t. Found t r) (sym e) (refl, sym f)

pub register_unique : (text : List ℕ) (r s : ℕ) → IsRegister text r → IsRegister text s → r ≡ s
register_unique text r s h k = sym (found text r h).1 ∙ (found text s k).1

-- what the tables give
pub register_place_small : (h : ℕ) → h < 256 → slice_index REGISTER_PLACES.now h < 65
register_place_small h lt = ltb-true _ _ (below 256 (λ k. nat_lt (slice_index REGISTER_PLACES.now k) 65) refl h lt)

pub register_at_hash : (text : List ℕ) (h : ℕ) → h ≡ hash 0 37 text → slice_index REGISTER_PLACES.now h ≡ name_place text
unfolding name_place
register_at_hash text h e = ap (λ n. slice_index REGISTER_PLACES.now n) e

pub at_place : {A : Type 0} (xs : List A) (now : A → List ℕ) (p : ℕ) (d : A) → map now xs ≡ register_names → p < 65 → now (slice_index_or xs p d) ≡ name_at p
at_place xs now p d e lt =
    let within : p < length xs = subst (λ n. p < n) (sym (ap length e) ∙ length-map xs now) lt in
    sym (get_or-map now xs p d [] within) ∙ ap (λ l. get_or l p []) e

pub some_name : (text : List ℕ) (p r : ℕ) → p < 65 → r ≡ register_at p → name_at p ≡ text → IsRegister text r
some_name text p r lt e is = subst₂ IsRegister is (sym e) (named p lt)

pub no_name : (text : List ℕ) (p : ℕ) → p ≡ name_place text → (name_at p ≡ text → ⊥) → (r : ℕ) → IsRegister text r → ⊥
no_name text p at other r h = other (ap name_at at ∙ (found text r h).0)

hash_small : (seed factor : ℕ) (text : List ℕ) → seed < 256 → hash seed factor text < 256
unfolding hash
hash_small seed factor [] lt = lt
hash_small seed factor (c ∷ cs) lt = hash_small ((seed * factor + c) % 256) factor cs (omega arith)

pub register_or_not : (text : List ℕ) → ((r : ℕ) × IsRegister text r) ⊎ ((r : ℕ) → IsRegister text r → ⊥)
unfolding name_place
register_or_not text =
    let p = name_place text in
    elim (decided_same (name_at p) text) [
      | inl is ↦ inl (register_at p, some_name text p (register_at p) (register_place_small _ (hash_small 0 37 text (omega arith))) refl is)
      | inr other ↦ inr (no_name text p refl other)
    ]

-- ==== The table of keywords finds those that the definitions give, and no others; each is a name.

-- each name begins with a letter, and goes on with letters, digits, `_` and `.`
abbrev is_name : List ℕ → Bool
is_name [] = false
is_name (c ∷ cs) = begins_name c && list_all continues_name cs

all_pass : (p : ℕ → Bool) (text : List ℕ) → list_all p text ≡ true → Passes p text
all_pass p [] h = tt
all_pass p (c ∷ cs) h = let parts = and_parts _ _ h in (parts.0, all_pass p cs parts.1)

name_from : (text : List ℕ) → is_name text ≡ true → IsName text
name_from [] h = absurd (false≢true h)
name_from (c ∷ cs) h = let parts = and_parts _ _ h in (parts.0, all_pass continues_name cs parts.1)

-- each keyword is the candidate of its name, which is a name, by computation
keyword_own : (k : Keyword) → (candidate (keyword_name k) ≡ k) × (is_name (keyword_name k) ≡ true)
unfolding candidate hash
keyword_own (keyword.Instr (Op Add)) = (refl, refl)
keyword_own (keyword.Instr (OpImm Addi)) = (refl, refl)
keyword_own (keyword.Instr (Load Lb)) = (refl, refl)
keyword_own (keyword.Instr (Store Sb)) = (refl, refl)
keyword_own (keyword.Instr (Branch Beq)) = (refl, refl)
keyword_own (keyword.Pseudo Nop) = (refl, refl)
keyword_own (keyword.Directive Sandbox) = (refl, refl)
keyword_own (keyword.Numbers Word) = (refl, refl)
keyword_own _ = (refl, refl)

candidate_own : (k : Keyword) → candidate (keyword_name k) ≡ k
candidate_own k = (keyword_own k).0

pub keyword_named : (k : Keyword) → IsName (keyword_name k)
keyword_named k = name_from (keyword_name k) (keyword_own k).1

pub name_is_name : (m : Mnemonic) → IsName (name_of m)
name_is_name m = keyword_named (keyword.Instr m)

-- a name has one keyword
pub keyword_unique : (j k : Keyword) → keyword_name j ≡ keyword_name k → j ≡ k
keyword_unique j k e = sym (candidate_own j) ∙ ap candidate e ∙ candidate_own k

-- and one mnemonic
pub name_unique : (m n : Mnemonic) → name_of m ≡ name_of n → m ≡ n
name_unique m n e =
    let same : keyword.Instr m ≡ keyword.Instr n = keyword_unique (keyword.Instr m) (keyword.Instr n) e in
    cc

-- a text whose candidate has another name is no keyword
pub none_of_other : (text : List ℕ) (found : Keyword) → found ≡ candidate text → (keyword_name found ≡ text → ⊥) → (k : Keyword) → keyword_name k ≡ text → ⊥
none_of_other text found e other k named = other (ap keyword_name (e ∙ ap candidate (sym named) ∙ candidate_own k) ∙ named)

-- what the tables give at the hash
pub keyword_place_small : (h : ℕ) → h < 256 → slice_index KEYWORD_PLACES.now h < 70
keyword_place_small h lt = ltb-true _ _ (below 256 (λ k. nat_lt (slice_index KEYWORD_PLACES.now k) 70) refl h lt)

pub keyword_at_hash : (text : List ℕ) (h : ℕ) (d : Keyword) → h ≡ hash 57 103 text → h < 256 → slice_index_or ALL.now (slice_index KEYWORD_PLACES.now h) d ≡ candidate text
unfolding candidate
keyword_at_hash text h d e lt =
    same_Some _ _ (sym (slice_get-get_or ALL.now _ d (keyword_place_small h lt)) ∙ slice_get-get_or ALL.now _ (keyword.Instr Jal) (keyword_place_small h lt)) ∙ ap (λ n. slice_index_or ALL.now (slice_index KEYWORD_PLACES.now n) (keyword.Instr Jal)) e

-- the mnemonic of this name is the keyword of this name, if that is one
pub mnemonic_of_name : (text : List ℕ) (k : Keyword) (r : Option Mnemonic) → r ≡ mnemonic_in k → keyword_name k ≡ text → IfSome r (λ m. name_of m ≡ text)
mnemonic_of_name text k None e named = tt
mnemonic_of_name text (keyword.Instr n) (Some m) e named = let same : m ≡ n = cc in ap name_of same ∙ named
mnemonic_of_name text _ (Some m) e named = cc

pub no_mnemonic_of_name : (text : List ℕ) (k : Keyword) (r : Option Mnemonic) → r ≡ mnemonic_in k → keyword_name k ≡ text → IfNone r ((m : Mnemonic) → name_of m ≡ text → ⊥)
no_mnemonic_of_name text k (Some m) e named = tt
no_mnemonic_of_name text k None e named = λ m h.
    let some : Some m ≡ mnemonic_in k = ap mnemonic_in (keyword_unique (keyword.Instr m) k (h ∙ sym named)) in cc
