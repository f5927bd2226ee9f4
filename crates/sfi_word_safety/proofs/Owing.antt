-- What is owed after an instruction is what comes there, where it breaks no rule that looks ahead and what was owed before it comes.
use Rattle.sfi_word_safety.proofs.Prelude.{◌≡◌, ℕ, Bool, true, false, cond, not, ◌&&◌, ◌||◌, ◌==◌, List, ◌∷◌, Option, Some, None, refl, sym, ap, ◌∙◌, subst, destination, Instr, is_masking, is_placing, Piece, is_jump, is_data_register_in, places, masks, begins_placing, begins_masking, is_pointer_step, uses, begins_using, begins_code, may_write_data, breaks_data_of, breaks_data, may_write_code, breaks_code, eqb-true, false≢true, is_register, Owed, Nothing, Mask, PlaceOnly, MaskOrUse, Code, left, owed_by_data, owed_by_code, owed_of, owed_by, Format, has_single_mask, Op, And}
use Rattle.sfi_rules.specs.words.Rules.{owed_by_mask}
use Rattle.sfi_pairs.proofs.Facts.{masking_is}
use Rattle.sfi_rules.proofs.Facts.{and_is}

-- what is owed comes
abbrev pub meets : Format → Owed → List Piece → Bool
meets f Nothing later = true
meets f (Mask d) later = begins_masking f d later
meets f (PlaceOnly d) later = begins_placing f d later
meets f (MaskOrUse d) later = begins_masking f d later || begins_using d later
meets f Code later = begins_code later

abbrev pub meets_if : Format → Option Owed → List Piece → Bool
meets_if f None later = false
meets_if f (Some o) later = meets f o later

-- what is owed after the instruction
abbrev pub both : Option Owed → Option Owed → Option Owed
both None own = None
both (Some Nothing) own = own
both (Some (Mask d)) own = Some (Mask d)
both (Some (PlaceOnly d)) own = Some (PlaceOnly d)
both (Some (MaskOrUse d)) own = Some (MaskOrUse d)
both (Some Code) own = Some Code

abbrev pub owed_after : Format → Owed → Instr → Option Owed
owed_after f o i = both (left f o i) (owed_by f i)

-- nothing is owed
abbrev pub is_nothing : Owed → Bool
is_nothing Nothing = true
is_nothing (Mask d) = false
is_nothing (PlaceOnly d) = false
is_nothing (MaskOrUse d) = false
is_nothing Code = false

-- ---- the first step of a mask

-- of two steps
masks_two : (f : Format) (d : ℕ) (i : Instr) → has_single_mask f ≡ false → masks f d i ≡ true → i ≡ Op And 31 d 27
masks_two f d i two h = and_is 31 d 27 i (rw two at h)

-- it is no use
masks_no_use : (f : Format) (d : ℕ) (i : Instr) → masks f d i ≡ true → uses d i ≡ false
masks_no_use f d i h = by (has_single_mask f) refl
  where
    by : (one : Bool) → has_single_mask f ≡ one → uses d i ≡ false
    by true e = let a = masking_is 27 d i (rw e at h) in ap (uses d) a.1
    by false e = ap (uses d) (masks_two f d i e h)

-- what is owed after it comes where the mask's last step does, if that is another
mask_owed : (f : Format) (d : ℕ) (later : List Piece) (one : Bool) → meets f (cond one Nothing (PlaceOnly d)) later ≡ (one || begins_placing f d later)
mask_owed f d later true = refl
mask_owed f d later false = refl

-- ---- what was owed

one : (f : Format) (m : Bool) (o : Option Owed) (later : List Piece) (b : Bool) → meets_if f o later ≡ b → (m && b) ≡ meets_if f (cond m o None) later
one f true o later b e = sym e
one f false o later b e = refl

last : (f : Format) (m : Bool) (later : List Piece) → m ≡ meets_if f (cond m (Some Nothing) None) later
last f true later = refl
last f false later = refl

either : (f : Format) (m u b : Bool) (o : Owed) (later : List Piece) → (m ≡ true → u ≡ false) → meets f o later ≡ b → ((m && b) || u) ≡ meets_if f (cond m (Some o) (cond u (Some Nothing) None)) later
either f true true b o later apart e = absurd (let h : true ≡ false = apart refl in cc)
either f true false true o later apart e = sym e
either f true false false o later apart e = sym e
either f false true b o later apart e = refl
either f false false b o later apart e = refl

pub left_is : (f : Format) (o : Owed) (x : Piece) (later : List Piece) → meets f o (x ∷ later) ≡ meets_if f (left f o x.instr) later
left_is f Nothing x later = refl
left_is f (Mask d) x later = one f (masks f d x.instr) (Some (owed_by_mask f d)) later (has_single_mask f || begins_placing f d later) (mask_owed f d later (has_single_mask f))
left_is f (PlaceOnly d) x later = last f (places f d x.instr) later
left_is f (MaskOrUse d) x later =
    either f (masks f d x.instr) (uses d x.instr) (has_single_mask f || begins_placing f d later) (owed_by_mask f d) later (λ h. masks_no_use f d x.instr h) (mask_owed f d later (has_single_mask f))
left_is f Code x later = last f (is_placing 24 30 x.instr) later

-- ---- what an instruction owes

data_owed : (f : Format) (p j s m u : Bool) (d : ℕ) (later : List Piece) → begins_masking f d later ≡ m → begins_using d later ≡ u → (j ≡ true → s ≡ false)
    → (p || (not j && m) || (s && u)) ≡ meets_if f (cond p (Some Nothing) (cond j None (cond s (Some (MaskOrUse d)) (Some (Mask d))))) later
data_owed f true j s m u d later e g apart = refl
data_owed f false true true m u d later e g apart = absurd (let h : true ≡ false = apart refl in cc)
data_owed f false true false m u d later e g apart = refl
data_owed f false false true true u d later e g apart = rw e refl
data_owed f false false true false u d later e g apart = rw (e, g) refl
data_owed f false false false true u d later e g apart = rw e refl
data_owed f false false false false u d later e g apart = rw e refl

jump_no_step : (d : ℕ) (i : Instr) → is_jump i ≡ true → is_pointer_step d i ≡ false
jump_no_step d (Rattle.sfi_word_safety.proofs.Prelude.Jal rd offset) h = refl
jump_no_step d (Rattle.sfi_word_safety.proofs.Prelude.Jalr rd rs1 imm) h = refl
jump_no_step d _ h = absurd (false≢true h)

pub data_is : (f : Format) (d : ℕ) (i : Instr) (later : List Piece) → may_write_data f d i later ≡ meets_if f (owed_by_data f d i) later
data_is f d i later = data_owed f (places f d i) (is_jump i) (is_pointer_step d i) (begins_masking f d later) (begins_using d later) d later refl refl (jump_no_step d i)

code_owed : (f : Format) (p m : Bool) (later : List Piece) → (p || (m && begins_code later)) ≡ meets_if f (cond p (Some Nothing) (cond m (Some Code) None)) later
code_owed f true m later = refl
code_owed f false true later = refl
code_owed f false false later = refl

pub code_is : (f : Format) (i : Instr) (later : List Piece) → may_write_code i later ≡ meets_if f (owed_by_code i) later
code_is f i later = code_owed f (is_placing 24 30 i) (is_masking 25 30 i) later

-- neither rule is broken where what the instruction owes comes
abbrev pub keeps : Format → Instr → List Piece → Bool
keeps f i later = not (breaks_data f i later) && not (breaks_code i later)

of_destination : (f : Format) (d : ℕ) (i : Instr) (later : List Piece) (isd is30 mayd mayc : Bool) (o c : Option Owed) → (isd ≡ true → is30 ≡ false) → mayd ≡ meets_if f o later → mayc ≡ meets_if f c later
    → (not (isd && not mayd) && not (is30 && not mayc)) ≡ meets_if f (cond isd o (cond is30 c (Some Nothing))) later
of_destination f d i later true true mayd mayc o c apart e g = absurd (let h : true ≡ false = apart refl in cc)
of_destination f d i later true false true mayc o c apart e g = e
of_destination f d i later true false false mayc o c apart e g = e
of_destination f d i later false true mayd true o c apart e g = g
of_destination f d i later false true mayd false o c apart e g = g
of_destination f d i later false false mayd mayc o c apart e g = refl

not_thirty : (f : Format) (d : ℕ) → is_data_register_in f d ≡ true → (d == 30) ≡ false
not_thirty f d h = by (d == 30) refl
  where
    by : (b : Bool) → (d == 30) ≡ b → b ≡ false
    by false e = refl
    by true e = absurd (let same = eqb-true d 30 e in false≢true (subst (λ (n : ℕ). is_data_register_in f n ≡ true) same h))

owed_is : (f : Format) (o : Option ℕ) (i : Instr) (later : List Piece) → destination i ≡ o → keeps f i later ≡ meets_if f (owed_of f o i) later
owed_is f None i later e = ap (λ (t : Option ℕ). not (breaks_data_of f t i later) && not (is_register 30 t && not (may_write_code i later))) e
owed_is f (Some d) i later e =
    ap (λ (t : Option ℕ). not (breaks_data_of f t i later) && not (is_register 30 t && not (may_write_code i later))) e
    ∙ of_destination f d i later (is_data_register_in f d) (d == 30) (may_write_data f d i later) (may_write_code i later) (owed_by_data f d i) (owed_by_code i) (not_thirty f d) (data_is f d i later) (code_is f i later)

pub keeps_is : (f : Format) (i : Instr) (later : List Piece) → keeps f i later ≡ meets_if f (owed_by f i) later
keeps_is f i later = owed_is f (destination i) i later refl

-- ---- both

and_true : (b : Bool) → (b && true) ≡ b
and_true true = refl
and_true false = refl

-- the first of two steps of a mask owes nothing itself
masking_owes : (f : Format) (d : ℕ) (i : Instr) (later : List Piece) → has_single_mask f ≡ false → masks f d i ≡ true → meets_if f (owed_by f i) later ≡ true
masking_owes f d i later two h = ap (λ (j : Instr). meets_if f (owed_by f j) later) (masks_two f d i two h) ∙ (rw two refl)

-- where the first step of a mask leaves something owed, it owes nothing itself
mask_left : (f : Format) (d : ℕ) (i : Instr) (later : List Piece) (step : Bool) → has_single_mask f ≡ step → masks f d i ≡ true
    → (meets_if f (Some (cond step Nothing (PlaceOnly d))) later && meets_if f (owed_by f i) later) ≡ meets_if f (both (Some (cond step Nothing (PlaceOnly d))) (owed_by f i)) later
mask_left f d i later true e h = refl
mask_left f d i later false e h = rw (masking_owes f d i later e h) (and_true (begins_placing f d later))

-- what an instruction leaves owed, and what it owes itself, both come where what is owed after it does
left_masks : (f : Format) (o : Owed) (i : Instr) (later : List Piece) → (meets_if f (left f o i) later && meets_if f (owed_by f i) later) ≡ meets_if f (both (left f o i) (owed_by f i)) later
left_masks f Nothing i later = refl
left_masks f (Mask d) i later = by (masks f d i) refl
  where
    by : (m : Bool) → masks f d i ≡ m → (meets_if f (cond m (Some (owed_by_mask f d)) None) later && meets_if f (owed_by f i) later) ≡ meets_if f (both (cond m (Some (owed_by_mask f d)) None) (owed_by f i)) later
    by true e = mask_left f d i later (has_single_mask f) refl e
    by false e = refl
left_masks f (PlaceOnly d) i later = by (places f d i)
  where
    by : (m : Bool) → (meets_if f (cond m (Some Nothing) None) later && meets_if f (owed_by f i) later) ≡ meets_if f (both (cond m (Some Nothing) None) (owed_by f i)) later
    by true = refl
    by false = refl
left_masks f (MaskOrUse d) i later = by (masks f d i) (uses d i) refl
  where
    by : (m u : Bool) → masks f d i ≡ m → (meets_if f (cond m (Some (owed_by_mask f d)) (cond u (Some Nothing) None)) later && meets_if f (owed_by f i) later) ≡ meets_if f (both (cond m (Some (owed_by_mask f d)) (cond u (Some Nothing) None)) (owed_by f i)) later
    by true u e = mask_left f d i later (has_single_mask f) refl e
    by false true e = refl
    by false false e = refl
left_masks f Code i later = by (is_placing 24 30 i)
  where
    by : (m : Bool) → (meets_if f (cond m (Some Nothing) None) later && meets_if f (owed_by f i) later) ≡ meets_if f (both (cond m (Some Nothing) None) (owed_by f i)) later
    by true = refl
    by false = refl

-- what was owed comes and no rule is broken, where what is owed after it comes
pub after_is : (f : Format) (o : Owed) (x : Piece) (later : List Piece) → (meets f o (x ∷ later) && keeps f x.instr later) ≡ meets_if f (owed_after f o x.instr) later
after_is f o x later =
    ap (λ (b : Bool). b && keeps f x.instr later) (left_is f o x later) ∙ ap (λ (b : Bool). meets_if f (left f o x.instr) later && b) (keeps_is f x.instr later) ∙ left_masks f o x.instr later
