-- What the look at a word tells of it.
use Rattle.sfi_scan.proofs.Prelude.{◌≡◌, ℕ, ◌==◌, Bool, true, false, ◌&&◌, not, Some, ℤ, pos, negsuc, refl, subst, OnTrue, and_parts, Instr, Op, OpImm, Load, Store, Branch, Jal, Jalr, Lui, Auipc, Ecall, outline, BundlePlace, is_zero, not-true, destination, Computes, uses, left, Nothing, MaskOrUse, is_reserved_or_typed, is_clean_alone, IsQuiet, IsBeforeEnd, ◌||◌, ap, eqb-true, And, Or, eq-eqb, or_left, is_data_register, Owed, Code, owed_by, ◌+◌, ◌≤◌, List, [], ◌++◌, length, take, drop, length-take, length-drop, append-nil, ap₂, Finding, Spells, half_at, word_at, Option, None, sym, ◌∙◌, inl, inr, arith, IfSome, IsWordThat, IsWordOf, and_from, IsHalfwordThat, access, IsAccessOf, Access, Outline, IsWordFound, IsQuietThere}
use Rattle.std.proofs.lemmas.Bool.{not_from_true, not_from_false}
use Rattle.rv_word.specs.Spelling.{offset_by}
use Rattle.sfi_rules.specs.words.Rules.{may_access, is_word_start, is_pointer_step, owed_next}
use Rattle.sfi_scan.proofs.WordQuiet.{is_reserved_or_typed_one, unkept, IsSafe, quiet_where, IsWrite, typed}
use Rattle.rv_word.specs.declared.instr.ImmOp.TheVariants.{Addi}
use Rattle.sfi_rules.specs.declared.owed.Owed.TheVariants.{Mask, PlaceOnly}
use Rattle.rv_word.proofs.Facts.{one_spelling}
use Rattle.sfi_formats.specs.declared.format.Format.{Format}
use Rattle.sfi_formats.specs.Formats.{has_single_mask, is_data_register_in}
use Rattle.sfi_rules.specs.words.Findings.{lowest, found_at}
use Rattle.sfi_scan.specs.private.Words.{IsCleanHalfAlone}
use Rattle.sfi_scan.proofs.Readings.{word_wide, word_two}

-- ==== What an outline tells of an instruction of code in words.

-- what an indirect jump's registers and offset tell
pub jump_plain : (rd base n : ℕ) (z : ℤ) → is_zero z ≡ true → is_reserved_or_typed rd ≡ false → n ≡ base → OnTrue (n == 30) ((not (is_reserved_or_typed rd) && (is_zero z && (base == 30))) ≡ true)
jump_plain rd base n z f g e = subst (λ (m : ℕ). OnTrue (n == 30) ((not (is_reserved_or_typed rd) && (is_zero z && (m == 30))) ≡ true)) e (by (n == 30))
  where
    by : (p : Bool) → OnTrue p ((not (is_reserved_or_typed rd) && (is_zero z && p)) ≡ true)
    by false = tt
    by true = rw (f, g) refl

-- what computes into a register accesses nothing and jumps nowhere
pub record IsComputing (b : BundlePlace) (at : ℕ) (i : Instr) (rd : ℕ) : Type 0 where
  pub safe : IsSafe b at i
  pub writes : destination i ≡ Some rd

pub computing : (b : BundlePlace) (at : ℕ) (i : Instr) (rd : ℕ) → outline i ≡ Computes rd → IsComputing b at i rd
computing b at (Op op r rs1 rs2) rd e = record { safe = record { ecall = refl; access = refl; jump = refl; target = refl }; writes = cc }
computing b at (OpImm op r rs1 imm) rd e = record { safe = record { ecall = refl; access = refl; jump = refl; target = refl }; writes = cc }
computing b at (Lui r imm) rd e = record { safe = record { ecall = refl; access = refl; jump = refl; target = refl }; writes = cc }
computing b at (Auipc r imm) rd e = record { safe = record { ecall = refl; access = refl; jump = refl; target = refl }; writes = cc }
computing b at i rd e = absurd cc

module _ (b : BundlePlace) (at : ℕ) where
  plain_safe : (i : Instr) → is_clean_alone b at (outline i) ≡ true → IsSafe b at i
  plain_safe (Load kind rd rs1 imm) h = record { ecall = refl; access = not_from_true (may_access b.format rs1) (and_parts (not (is_reserved_or_typed rd)) (may_access b.format rs1) h).1; jump = refl; target = refl }
  plain_safe (Store width rs1 rs2 imm) h = record { ecall = refl; access = not_from_true (may_access b.format rs1) h; jump = refl; target = refl }
  plain_safe (Branch cond rs1 rs2 offset) h = record { ecall = refl; access = refl; jump = refl; target = not_from_true (is_word_start b.code_base b.code_size (offset_by at offset)) h }
  plain_safe (Jal rd offset) h =
      record { ecall = refl; access = refl; jump = refl; target = not_from_true (is_word_start b.code_base b.code_size (offset_by at offset)) (and_parts (not (is_reserved_or_typed rd)) (is_word_start b.code_base b.code_size (offset_by at offset)) h).1 }
  plain_safe (Jalr rd rs1 (pos n)) h = record { ecall = refl; access = refl; jump = not_from_true ((n == 0) && (rs1 == 30)) (and_parts (not (is_reserved_or_typed rd)) ((n == 0) && (rs1 == 30)) h).1; target = refl }
  plain_safe (Jalr rd rs1 (negsuc n)) h = absurd (let no = (and_parts (not (is_reserved_or_typed rd)) false h).1 in cc)
  plain_safe Ecall h = absurd cc
  plain_safe i h = record { ecall = refl; access = refl; jump = refl; target = refl }

  plain_unkept : (i : Instr) → is_clean_alone b at (outline i) ≡ true → is_reserved_or_typed_one (destination i) ≡ false
  plain_unkept (Op op rd rs1 rs2) h = not-true (is_reserved_or_typed rd) h
  plain_unkept (OpImm op rd rs1 imm) h = not-true (is_reserved_or_typed rd) h
  plain_unkept (Lui rd imm) h = not-true (is_reserved_or_typed rd) h
  plain_unkept (Auipc rd imm) h = not-true (is_reserved_or_typed rd) h
  plain_unkept (Load kind rd rs1 imm) h = not-true (is_reserved_or_typed rd) (and_parts (not (is_reserved_or_typed rd)) (may_access b.format rs1) h).0
  plain_unkept (Jal rd offset) h = not-true (is_reserved_or_typed rd) (and_parts (not (is_reserved_or_typed rd)) (is_word_start b.code_base b.code_size (offset_by at offset)) h).0
  plain_unkept (Jalr rd rs1 imm) h = not-true (is_reserved_or_typed rd) (and_parts (not (is_reserved_or_typed rd)) (is_zero imm && (rs1 == 30)) h).0
  plain_unkept i h = refl

  pub plain : (size : ℕ) (i : Instr) → IsBeforeEnd b at size → is_clean_alone b at (outline i) ≡ true → IsQuiet b at size Nothing i Nothing
  plain size i before h = quiet_where b at size before Nothing Nothing Nothing i (plain_safe i h) (unkept b.format i (plain_unkept i h)) refl

  -- it uses the register after its step
  left_used : (d : ℕ) (i : Instr) → uses d i ≡ true → left b.format (MaskOrUse d) i ≡ Some Nothing
  left_used d i u = by (has_single_mask b.format) refl i u
    where
      by : (o : Bool) → has_single_mask b.format ≡ o → (i : Instr) → uses d i ≡ true → left b.format (MaskOrUse d) i ≡ Some Nothing
      by true e (Load kind rd rs1 imm) u = rw (e, u) refl
      by true e (Store width rs1 rs2 imm) u = rw (e, u) refl
      by false e (Load kind rd rs1 imm) u = rw (e, u) refl
      by false e (Store width rs1 rs2 imm) u = rw (e, u) refl
      by o e i u = absurd cc

  pub used : (size d : ℕ) (i : Instr) → IsBeforeEnd b at size → uses d i ≡ true → is_clean_alone b at (outline i) ≡ true → IsQuiet b at size (MaskOrUse d) i Nothing
  used size d i before u h = quiet_where b at size before (MaskOrUse d) Nothing Nothing i (plain_safe i h) (unkept b.format i (plain_unkept i h)) (left_used d i u)

-- ==== The words of pairs, and what owes something itself: each breaks no rule where what is owed is met.

-- `and d, a, x27`, `and x31, a, x27` and `or d, x31, x26`
abbrev pub single : ℕ → ℕ → Instr
single d a = Op And d a 27

abbrev pub masking : ℕ → Instr
masking a = single 31 a

abbrev pub placing : ℕ → Instr
placing d = Op Or d 31 26

-- `or x30, x30, x24`
abbrev pub placing_code : Instr
placing_code = Op Or 30 30 24

-- where masks are single, this is one
masking_write : (f : Format) (a : ℕ) → IsWrite f (masking a) Nothing
masking_write f a = by (has_single_mask f) refl
  where
    by : (o : Bool) → has_single_mask f ≡ o → IsWrite f (masking a) Nothing
    by true e = record { reserved = refl; offset = rw e refl; own_is = rw e refl }
    by false e = record { reserved = refl; offset = rw e refl; own_is = rw e refl }

same : (d : ℕ) → (d == d) ≡ true
same d = eq-eqb d d refl

-- a data register of each format is one of this format
pub data_in : (f : Format) (d : ℕ) → is_data_register d ≡ true → is_data_register_in f d ≡ true
data_in f d h = or_left (is_data_register d) (((d == 26) || (d == 31)) && has_single_mask f) h

placing_write : (f : Format) (d : ℕ) → has_single_mask f ≡ false → is_data_register d ≡ true → IsWrite f (placing d) Nothing
placing_write f d two h =
    let has = data_in f d h in
    typed f (placing d) d Nothing refl (or_left (is_data_register_in f d) (d == 30) has) (rw (has, two, same d) refl)

single_write : (f : Format) (d a : ℕ) → has_single_mask f ≡ true → is_data_register_in f d ≡ true → IsWrite f (single d a) Nothing
single_write f d a one has = typed f (single d a) d Nothing refl (or_left (is_data_register_in f d) (d == 30) has) (rw (has, one, same d) refl)

module _ (b : BundlePlace) (at size : ℕ) (before : IsBeforeEnd b at size) where
  pub masked : (a : ℕ) → IsQuiet b at size Nothing (masking a) Nothing
  masked a = quiet_where b at size before Nothing Nothing Nothing (masking a) (computing b at (masking a) 31 refl).safe (masking_write b.format a) refl

  pub masked_owed : (d : ℕ) → has_single_mask b.format ≡ false → IsQuiet b at size (Mask d) (masking d) (PlaceOnly d)
  masked_owed d two = quiet_where b at size before (Mask d) (PlaceOnly d) Nothing (masking d) (computing b at (masking d) 31 refl).safe (masking_write b.format d) (rw (two, same d) refl)

  pub masked_or_used : (d : ℕ) → has_single_mask b.format ≡ false → IsQuiet b at size (MaskOrUse d) (masking d) (PlaceOnly d)
  masked_or_used d two = quiet_where b at size before (MaskOrUse d) (PlaceOnly d) Nothing (masking d) (computing b at (masking d) 31 refl).safe (masking_write b.format d) (rw (two, same d) refl)

  pub placed : (d : ℕ) → has_single_mask b.format ≡ false → is_data_register d ≡ true → IsQuiet b at size Nothing (placing d) Nothing
  placed d two h = quiet_where b at size before Nothing Nothing Nothing (placing d) (computing b at (placing d) d refl).safe (placing_write b.format d two h) refl

  pub placed_owed : (d : ℕ) → has_single_mask b.format ≡ false → is_data_register d ≡ true → IsQuiet b at size (PlaceOnly d) (placing d) Nothing
  placed_owed d two h = quiet_where b at size before (PlaceOnly d) Nothing Nothing (placing d) (computing b at (placing d) d refl).safe (placing_write b.format d two h) (rw (two, same d) refl)

  -- the single mask, whatever of it is owed
  pub single_alone : (d a : ℕ) → has_single_mask b.format ≡ true → is_data_register_in b.format d ≡ true → IsQuiet b at size Nothing (single d a) Nothing
  single_alone d a one h = quiet_where b at size before Nothing Nothing Nothing (single d a) (computing b at (single d a) d refl).safe (single_write b.format d a one h) refl

  pub single_owed : (d a : ℕ) → has_single_mask b.format ≡ true → is_data_register_in b.format d ≡ true → IsQuiet b at size (Mask d) (single d a) Nothing
  single_owed d a one h = quiet_where b at size before (Mask d) Nothing Nothing (single d a) (computing b at (single d a) d refl).safe (single_write b.format d a one h) (rw (one, same d) refl)

  pub single_or_used : (d a : ℕ) → has_single_mask b.format ≡ true → is_data_register_in b.format d ≡ true → IsQuiet b at size (MaskOrUse d) (single d a) Nothing
  single_or_used d a one h = quiet_where b at size before (MaskOrUse d) Nothing Nothing (single d a) (computing b at (single d a) d refl).safe (single_write b.format d a one h) (rw (one, same d) refl)

  pub code_owed : IsQuiet b at size Code placing_code Nothing
  code_owed = quiet_where b at size before Code Nothing Nothing placing_code (computing b at placing_code 30 refl).safe (record { reserved = refl; offset = refl; own_is = refl }) refl

  -- what computes into a typed register, and owes what can be told
  pub owing : (rd : ℕ) (i : Instr) (next : Owed) → outline i ≡ Computes rd → (is_data_register_in b.format rd || (rd == 30)) ≡ true → owed_by b.format i ≡ Some next → IsQuiet b at size Nothing i next
  owing rd i next e h own =
      let c = computing b at i rd e in
      quiet_where b at size before Nothing Nothing next i c.safe (typed b.format i rd next c.writes h own) refl

  -- a step of a data register
  pub stepping : (d : ℕ) (i : Instr) → is_data_register_in b.format d ≡ true → is_pointer_step d i ≡ true → IsQuiet b at size Nothing i (MaskOrUse d)
  stepping d (OpImm Addi rd rs1 imm) has s =
      let both = and_parts (rd == d) (rs1 == d) s in
      let one : rd ≡ d = eqb-true rd d both.0 in
      let two : rs1 ≡ d = eqb-true rs1 d both.1 in
      owing d (OpImm Addi rd rs1 imm) (MaskOrUse d) (ap Computes one) (or_left (is_data_register_in b.format d) (d == 30) has) (owes (has_single_mask b.format) refl one two)
    where
      owes : (o : Bool) → has_single_mask b.format ≡ o → rd ≡ d → rs1 ≡ d → owed_by b.format (OpImm Addi rd rs1 imm) ≡ Some (MaskOrUse d)
      owes true e one two = rw (one, two, has, e, same d) refl
      owes false e one two = rw (one, two, has, e, same d) refl
  stepping d i has s = absurd cc

-- ==== What the look at a word tells, and that a word of which it tells has no findings.

abbrev written_of : Option Access → ℕ
written_of None = 0
written_of (Some a) = a.written

abbrev base_of : Option Access → ℕ
base_of None = 0
base_of (Some a) = a.base

pub quiet_word : (b : BundlePlace) (at : ℕ) (o : Owed) (word : ℕ) (i : Instr) (next : Owed) → IsWordOf word i → IsQuiet b at 4 o i next → IsQuietThere b at o word next
quiet_word b at o word i next is quiet = record { instr = i; spelled = is; quiet = quiet }

-- the same of what was owed, where that is known
pub quiet_owed : (b : BundlePlace) (at : ℕ) (owed o : Owed) (word : ℕ) (i : Instr) (next : Owed) → owed ≡ o → IsWordOf word i → IsQuiet b at 4 o i next → IsQuietThere b at owed word next
quiet_owed b at owed o word i next e is quiet = subst (λ (x : Owed). IsQuietThere b at x word next) (sym e) (quiet_word b at o word i next is quiet)

module _ (b : BundlePlace) (at : ℕ) (before : IsBeforeEnd b at 4) where
  pub plain_told : (word : ℕ) (o : Outline) → IsWordThat word o → is_clean_alone b at o ≡ true → IsQuietThere b at Nothing word Nothing
  plain_told word o that h = record { instr = that.instr; spelled = that.spelled; quiet = plain b at 4 that.instr before (ap (is_clean_alone b at) that.does ∙ h) }

  pub plain_by : (word : ℕ) (o : Outline) (outline : Option Outline) → IfSome outline (IsWordThat word) → outline ≡ Some o → (r : Bool) → OnTrue r (is_clean_alone b at o ≡ true) → OnTrue r (IsQuietThere b at Nothing word Nothing)
  plain_by word o outline that is false h = tt
  plain_by word o outline that is true h = plain_told word o (subst (λ (x : Option Outline). IfSome x (IsWordThat word)) is that) h

  access_plain : (i : Instr) (a : Access) → access i ≡ Some a → is_reserved_or_typed a.written ≡ false → may_access b.format a.base ≡ true → is_clean_alone b at (outline i) ≡ true
  access_plain (Load kind rd rs1 imm) a e f g =
      let written : a.written ≡ rd = ap written_of (sym e) in
      let base : a.base ≡ rs1 = ap base_of (sym e) in
      and_from (not (is_reserved_or_typed rd)) (may_access b.format rs1) (not_from_false (is_reserved_or_typed rd) (subst (λ (r : ℕ). is_reserved_or_typed r ≡ false) written f)) (subst (λ (r : ℕ). may_access b.format r ≡ true) base g)
  access_plain (Store width rs1 rs2 imm) a e f g = let base : a.base ≡ rs1 = ap base_of (sym e) in subst (λ (r : ℕ). may_access b.format r ≡ true) base g
  access_plain i a e f g = absurd cc

  pub access_told : (word : ℕ) (a : Access) → IsAccessOf word a → is_reserved_or_typed a.written ≡ false → may_access b.format a.base ≡ true → IsQuietThere b at Nothing word Nothing
  access_told word a that f g = record { instr = that.instr; spelled = that.spelled; quiet = plain b at 4 that.instr before (access_plain that.instr a that.accesses f g) }

  pub use_told : (word d : ℕ) (i : Instr) → IsWordOf word i → uses d i ≡ true → (o : Outline) → o ≡ outline i → (r : Bool) → OnTrue r (is_clean_alone b at o ≡ true) → OnTrue r (IsQuietThere b at (MaskOrUse d) word Nothing)
  use_told word d i is u o e false h = tt
  use_told word d i is u o e true h = record { instr = i; spelled = is; quiet = used b at 4 d i before u (ap (is_clean_alone b at) (sym e) ∙ h) }

  pub free_told : (word rd : ℕ) → IsWordThat word (Computes rd) → is_reserved_or_typed rd ≡ false → IsQuietThere b at Nothing word Nothing
  free_told word rd that h = plain_told word (Computes rd) that (not_from_false (is_reserved_or_typed rd) h)

  -- a word that computes into a typed register, where what it owes can be told
  pub owing_told : (word rd : ℕ) (i : Instr) → IsWordThat word (Computes rd) → IsWordOf word i → (is_data_register_in b.format rd || (rd == 30)) ≡ true → (own : Option Owed) → own ≡ owed_by b.format i → IfSome own (IsQuietThere b at Nothing word)
  owing_told word rd i that is h None e = tt
  owing_told word rd i that is h (Some next) e =
      let same : i ≡ that.instr = one_spelling word i that.instr is that.spelled in
      record { instr = i; spelled = is; quiet = owing b at 4 before rd i next (ap outline same ∙ that.does) h (sym e) }

pub half_told : (b : BundlePlace) (at half : ℕ) (o : Outline) → IsHalfwordThat half o → (r : Bool) → OnTrue r (is_clean_alone b at o ≡ true) → OnTrue r (IsCleanHalfAlone b at half)
half_told b at half o that false h = tt
half_told b at half o that true h = record { instr = that.instr; spelled = that.spelled; plain = ap (is_clean_alone b at) that.does ∙ h }

-- ---- the findings of a word

abbrev finding : BundlePlace → ℕ → ℕ → Owed → Instr → List Finding
finding b at size owed i = found_at b at (lowest (record { bundle = b; address = at; owed = owed; instr = i; size = size }))

pub found_wide : (b : BundlePlace) (at : ℕ) (owed : Owed) (word : List ℕ) (next : Owed) → length word ≡ 4 → IsQuietThere b at owed (word_at word 0) next → IsWordFound b at owed word [] next
found_wide b at owed word next whole q =
    let spelled : Spells (take 4 word) q.instr 4 = inr (record { size = refl; all = omega (arith, length-take 4 word, whole); spelled = q.spelled }) in
    let found : IsWordFound b at owed word (finding b at 4 owed q.instr) (owed_next b.format owed q.instr) = word_wide b at owed word whole q.instr 4 spelled refl in
    subst (λ (l : List Finding). IsWordFound b at owed word l next) (ap (found_at b at) q.quiet.none)
    (subst (λ (o : Owed). IsWordFound b at owed word (finding b at 4 owed q.instr) o) (sym q.quiet.next_is) found)

pub found_halves : (b : BundlePlace) (at : ℕ) (word : List ℕ) → length word ≡ 4 → IsBeforeEnd b at 4 → IsCleanHalfAlone b at (half_at word 0) → IsCleanHalfAlone b (at + 2) (half_at word 2) → IsWordFound b at Nothing word [] Nothing
found_halves b at word whole before x y =
    let one : IsQuiet b at 2 Nothing x.instr Nothing = plain b at 2 x.instr (omega (arith, before)) x.plain in
    let two : IsQuiet b (at + 2) 2 Nothing y.instr Nothing = plain b (at + 2) 2 y.instr (omega (arith, before)) y.plain in
    let s : Spells (take 2 word) x.instr 2 = inl (record { size = refl; all = omega (arith, length-take 2 word, whole); spelled = x.spelled }) in
    let t : Spells (take 2 (drop 2 word)) y.instr 2 = inl (record { size = refl; all = omega (arith, length-take 2 (drop 2 word), length-drop 2 word, whole); spelled = y.spelled }) in
    let second : finding b (at + 2) 2 (owed_next b.format Nothing x.instr) y.instr ≡ [] = ap (λ (o : Owed). finding b (at + 2) 2 o y.instr) (sym one.next_is) ∙ ap (found_at b (at + 2)) two.none in
    let none : (finding b at 2 Nothing x.instr ++ finding b (at + 2) 2 (owed_next b.format Nothing x.instr) y.instr) ≡ [] = ap₂ (λ (l m : List Finding). l ++ m) (ap (found_at b at) one.none) second in
    let after : Nothing ≡ owed_next b.format (owed_next b.format Nothing x.instr) y.instr = two.next_is ∙ ap (λ (o : Owed). owed_next b.format o y.instr) one.next_is in
    let found : IsWordFound b at Nothing word (finding b at 2 Nothing x.instr ++ finding b (at + 2) 2 (owed_next b.format Nothing x.instr) y.instr) (owed_next b.format (owed_next b.format Nothing x.instr) y.instr) = word_two b at Nothing word whole x.instr 2 s refl y.instr 2 t in
    subst (λ (l : List Finding). IsWordFound b at Nothing word l Nothing) none
    (subst (λ (o : Owed). IsWordFound b at Nothing word (finding b at 2 Nothing x.instr ++ finding b (at + 2) 2 (owed_next b.format Nothing x.instr) y.instr) o) (sym after) found)

pub wide_told : (b : BundlePlace) (at : ℕ) (owed : Owed) (word : List ℕ) (w : ℕ) (r : Option Owed) → length word ≡ 4 → w ≡ word_at word 0 → IfSome r (IsQuietThere b at owed w) → IfSome r (IsWordFound b at owed word [])
wide_told b at owed word w None whole e h = tt
wide_told b at owed word w (Some next) whole e h = found_wide b at owed word next whole (subst (λ (v : ℕ). IsQuietThere b at owed v next) e h)

pub halves_told : (b : BundlePlace) (at : ℕ) (owed : Owed) (word : List ℕ) (x y : ℕ) → owed ≡ Nothing → length word ≡ 4 → IsBeforeEnd b at 4 → x ≡ half_at word 0 → y ≡ half_at word 2
    → IsCleanHalfAlone b at x → IsCleanHalfAlone b (at + 2) y → IsWordFound b at owed word [] Nothing
halves_told b at owed word x y none whole before e f p q =
    subst (λ (o : Owed). IsWordFound b at o word [] Nothing) (sym none) (found_halves b at word whole before (subst (IsCleanHalfAlone b at) e p) (subst (IsCleanHalfAlone b (at + 2)) f q))

-- a look that finds nothing adds nothing
pub adds_none : (b : BundlePlace) (at : ℕ) (owed : Owed) (word : List ℕ) (old : List Finding) (next : Owed) → IsWordFound b at owed word [] next → (here : List Finding) × (old ≡ old ++ here) × (length here ≤ 2) × IsWordFound b at owed word here next
adds_none b at owed word old next found = ([], sym (append-nil old), omega arith, found)
