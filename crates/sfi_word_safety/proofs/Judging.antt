-- At a place: which rules are broken where none is found, and what is owed after it then.
use Rattle.sfi_word_safety.proofs.Prelude.{◌≡◌, ℕ, Bool, true, false, cond, not, ◌&&◌, ◌||◌, Option, Some, None, refl, sym, ap, ◌∙◌, List, ◌∷◌, ◌==◌, is_some, Instr, Jal, Jalr, Ebreak, is_placing, destination, is_register, writes_register, Piece, ends_region, Owed, is_data_register_in, masks, places, uses, Format}
use Rattle.std.proofs.lemmas.Bool.{or_parts, not-false}
use Rattle.sfi_rules.specs.declared.owed.Owed.TheVariants as kind
use Rattle.sfi_rules.specs.words.Rules.{left, owed_by_data, owed_by_code, owed_of, owed_by, or_nothing, joined, owed_next, is_of_data, is_of_code}
use Rattle.sfi_rules.specs.words.Findings.{is_data_one, fails_data, fails_code}
use Rattle.sfi_word_safety.proofs.Owing.{meets, meets_if, is_nothing, both, owed_after, keeps, left_is, keeps_is}

-- ---- what is owed after it

is_there : (c : Bool) → (true && not c) ≡ false → c ≡ true
is_there c e = not-false c e

left_there : (f : Format) (o : Owed) (i : Instr) → fails_data f o i ≡ false → fails_code f o i ≡ false → is_some (left f o i) ≡ true
left_there f kind.Nothing i e g = refl
left_there f (kind.Mask d) i e g = is_there _ (or_parts _ _ e).0
left_there f (kind.PlaceOnly d) i e g = is_there _ (or_parts _ _ e).0
left_there f (kind.MaskOrUse d) i e g = is_there _ (or_parts _ _ e).0
left_there f kind.Code i e g = is_there _ (or_parts _ _ g).0

own_of : (f : Format) (t : Option ℕ) (i : Instr) → (is_data_one f t && not (is_some (owed_of f t i))) ≡ false → (is_register 30 t && not (is_some (owed_of f t i))) ≡ false → is_some (owed_of f t i) ≡ true
own_of f None i e g = refl
own_of f (Some d) i e g = by (is_data_register_in f d) (d == 30) (owed_by_data f d i) (owed_by_code i) e g
  where
    by : (isd is30 : Bool) (a b : Option Owed) → (isd && not (is_some (cond isd a (cond is30 b (Some kind.Nothing))))) ≡ false
        → (is30 && not (is_some (cond isd a (cond is30 b (Some kind.Nothing))))) ≡ false → is_some (cond isd a (cond is30 b (Some kind.Nothing))) ≡ true
    by true is30 a b e f = not-false _ e
    by false true a b e f = not-false _ f
    by false false a b e f = refl

own_there : (f : Format) (o : Owed) (i : Instr) → fails_data f o i ≡ false → fails_code f o i ≡ false → is_some (owed_by f i) ≡ true
own_there f o i e g = own_of f (destination i) i (or_parts _ _ e).1 (or_parts _ _ g).1

joined_is : (l w : Option Owed) → is_some l ≡ true → is_some w ≡ true → both l w ≡ Some (joined l w)
joined_is None w e f = absurd cc
joined_is (Some l) None e f = absurd cc
joined_is (Some kind.Nothing) (Some w) e f = refl
joined_is (Some (kind.Mask d)) (Some w) e f = refl
joined_is (Some (kind.PlaceOnly d)) (Some w) e f = refl
joined_is (Some (kind.MaskOrUse d)) (Some w) e f = refl
joined_is (Some kind.Code) (Some w) e f = refl

pub after_is_next : (f : Format) (o : Owed) (i : Instr) → fails_data f o i ≡ false → fails_code f o i ≡ false → owed_after f o i ≡ Some (owed_next f o i)
after_is_next f o i e g = joined_is (left f o i) (owed_by f i) (left_there f o i e g) (own_there f o i e g)

-- where what is owed comes and the instruction keeps both rules that look ahead, neither is found
met_some : (f : Format) (o : Option Owed) (later : List Piece) → meets_if f o later ≡ true → is_some o ≡ true
met_some f (Some o) later h = refl
met_some f None later h = absurd cc

none_fails : (a b l w : Bool) → l ≡ true → w ≡ true → ((a && not l) || (b && not w)) ≡ false
none_fails true true l w e f = rw (e, f) refl
none_fails true false l w e f = rw e refl
none_fails false true l w e f = rw f refl
none_fails false false l w e f = refl

pub none_failing : (f : Format) (o : Owed) (x : Piece) (later : List Piece) → meets f o (x ∷ later) ≡ true → keeps f x.instr later ≡ true → (fails_data f o x.instr ≡ false) × (fails_code f o x.instr ≡ false)
none_failing f o x later m k =
    let l = met_some f (left f o x.instr) later (sym (left_is f o x later) ∙ m) in
    let w = met_some f (owed_by f x.instr) later (sym (keeps_is f x.instr later) ∙ k) in
    (none_fails (is_of_data o) (is_data_one f (destination x.instr)) _ _ l w, none_fails (is_of_code o) (writes_register 30 x.instr) _ _ l w)

-- ---- where a region may end nothing is owed

-- the instruction is none that can be owed
record IsClear (f : Format) (i : Instr) : Type 0 where
  masks : (d : ℕ) → masks f d i ≡ false
  places : (d : ℕ) → places f d i ≡ false
  uses : (d : ℕ) → uses d i ≡ false
  placing : is_placing 24 30 i ≡ false

clear : (f : Format) (i : Instr) → IsClear f i → (o : Owed) (w : Option Owed) → joined (left f o i) w ≡ or_nothing w
clear f i c kind.Nothing w = refl
clear f i c (kind.Mask d) w = let e = c.masks d in rw e refl
clear f i c (kind.PlaceOnly d) w = let e = c.places d in rw e refl
clear f i c (kind.MaskOrUse d) w = let e = c.masks d in let g = c.uses d in rw (e, g) refl
clear f i c kind.Code w = rw c.placing refl

either_false : (b : Bool) → cond b false false ≡ false
either_false true = refl
either_false false = refl

jump_owes : (isd is30 places : Bool) → or_nothing (cond isd (cond places (Some kind.Nothing) None) (cond is30 None (Some kind.Nothing))) ≡ kind.Nothing
jump_owes true is30 true = refl
jump_owes true is30 false = refl
jump_owes false true places = refl
jump_owes false false places = refl

nothing_is : (o : Owed) → o ≡ kind.Nothing → is_nothing o ≡ true
nothing_is o e = ap is_nothing e

pub ends_owing : (f : Format) (o : Owed) (i : Instr) → ends_region i ≡ true → is_nothing (owed_next f o i) ≡ true
ends_owing f o (Jal rd offset) ends =
    nothing_is _ (clear f (Jal rd offset) (record { masks = λ d. either_false _; places = λ d. either_false _; uses = λ d. refl; placing = refl }) o (owed_by f (Jal rd offset)) ∙ jump_owes (is_data_register_in f rd) (rd == 30) (places f rd (Jal rd offset)))
ends_owing f o (Jalr rd rs1 imm) ends =
    nothing_is _ (clear f (Jalr rd rs1 imm) (record { masks = λ d. either_false _; places = λ d. either_false _; uses = λ d. refl; placing = refl }) o (owed_by f (Jalr rd rs1 imm)) ∙ jump_owes (is_data_register_in f rd) (rd == 30) (places f rd (Jalr rd rs1 imm)))
ends_owing f o Ebreak ends = nothing_is _ (clear f Ebreak (record { masks = λ d. either_false _; places = λ d. either_false _; uses = λ d. refl; placing = refl }) o (owed_by f Ebreak))
ends_owing f o _ ends = absurd (let e = ends in cc)
