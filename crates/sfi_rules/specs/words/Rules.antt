-- The rules of code in words, and what is owed by an instruction to the next ones.
use Rattle.std.specs.Prelude.{◌+◌, ◌%◌, ◌==◌, ◌&&◌, ◌||◌, not, ℕ, pos, negsuc, List, [], ◌∷◌, Bool, true, false, Option, Some, None, nat_lt, nat_le, if◌then◌else◌}
use Rattle.rv_word.specs.declared.instr.Instr.{Instr}
use Rattle.rv_word.specs.declared.instr.Instr.TheVariants.{Op, OpImm, Load, Store, Branch, Jal, Jalr, Ecall}
use Rattle.rv_word.specs.declared.instr.RegOp.TheVariants.{And, Or}
use Rattle.rv_word.specs.declared.instr.ImmOp.TheVariants.{Addi}
use Rattle.rv_word.specs.Spelling.{offset_by}
use Rattle.rv_word.specs.Outlines.{destination, writes_register}
use Rattle.sfi_pairs.specs.Pairs.{is_masking, is_placing, uses}
use Rattle.sfi_formats.specs.Limits.{word_size}
use Rattle.sfi_formats.specs.Formats.{code_base_register, code_mask_register, data_base_register, data_mask_register, is_data_register_in, code_register, offset_register, has_single_mask, is_reserved_in}
use Rattle.sfi_formats.specs.declared.format.Format.{Format}
use Rattle.sfi_rules.specs.Readings.{Piece, is_jump}
use Rattle.sfi_rules.specs.Rules.{is_empty, ends_region}
use Rattle.sfi_rules.specs.declared.owed.Owed.{Owed}
use Rattle.sfi_rules.specs.declared.owed.Owed.TheVariants.{Nothing, Mask, PlaceOnly, MaskOrUse, Code}

-- ==== The rules of code in words. Each looks at an instruction and at those after it, two at most,
-- and at none before it.

-- ---- what the rules look for

-- `and rd, a, b`
abbrev pub is_and : ℕ → ℕ → ℕ → Instr → Bool
is_and rd a b (Op And x y z) = (x == rd) && (y == a) && (z == b)
is_and rd a b _ = false

-- `or rd, a, b`
abbrev pub is_or : ℕ → ℕ → ℕ → Instr → Bool
is_or rd a b (Op Or x y z) = (x == rd) && (y == a) && (z == b)
is_or rd a b _ = false

-- The last step of d's mask: `or d, x31, x26`, by which d becomes an address of the data region. Where
-- masks are single: `and d, a, x27`.
abbrev pub places : Format → ℕ → Instr → Bool
places f d i =
    if has_single_mask f then is_masking data_mask_register d i
    else is_or d offset_register data_base_register i

-- The first step of d's mask: `and x31, d, x27`, by which x31 becomes d's offset in the data region.
-- Where masks are single, that one.
abbrev pub masks : Format → ℕ → Instr → Bool
masks f d i =
    if has_single_mask f then is_masking data_mask_register d i
    else is_and offset_register d data_mask_register i

-- the pieces begin with the last step of d's mask
abbrev pub begins_placing : Format → ℕ → List Piece → Bool
begins_placing f d [] = false
begins_placing f d (x ∷ later) = places f d x.instr

-- the pieces begin with d's mask: its first step, and then its last, unless that is the same
abbrev pub begins_masking : Format → ℕ → List Piece → Bool
begins_masking f d [] = false
begins_masking f d (x ∷ later) = masks f d x.instr && (has_single_mask f || begins_placing f d later)

-- `addi d, d, k`: a pointer goes on by k bytes
abbrev pub is_pointer_step : ℕ → Instr → Bool
is_pointer_step d (OpImm Addi rd rs1 imm) = (rd == d) && (rs1 == d)
is_pointer_step d _ = false

-- the pieces begin with a use of d
abbrev pub begins_using : ℕ → List Piece → Bool
begins_using d [] = false
begins_using d (x ∷ later) = uses d x.instr

-- the pieces begin with `or x30, x30, x24`
abbrev pub begins_code : List Piece → Bool
begins_code [] = false
begins_code (x ∷ later) = is_placing code_base_register code_register x.instr

-- ---- the rules, each by an instruction, its address and size, and those after it

-- V2: a 32-bit instruction that isn't at a multiple of 4
abbrev pub breaks_width : ℕ → ℕ → Bool
breaks_width at size = (size == word_size) && not (at % word_size == 0)

-- V3: an ecall that isn't at a listed gate (`gate` says whether one is there)
abbrev pub breaks_ecall : Bool → Instr → Bool
breaks_ecall gate Ecall = not gate
breaks_ecall gate _ = false

-- there is a number, and it is that of a register that nothing may write
abbrev pub is_reserved_one : Format → Option ℕ → Bool
is_reserved_one f None = false
is_reserved_one f (Some r) = is_reserved_in f r

-- V4: it writes such a register
abbrev pub breaks_reserved : Format → Instr → Bool
breaks_reserved f i = is_reserved_one f (destination i)

-- an access may be on this base: a data register or x26
abbrev pub may_access : Format → ℕ → Bool
may_access f base = is_data_register_in f base || (base == data_base_register)

-- V5: a load or store on a register that is neither a data register nor x26
abbrev pub breaks_access : Format → Instr → Bool
breaks_access f (Load kind rd rs1 imm) = not (may_access f rs1)
breaks_access f (Store width rs1 rs2 imm) = not (may_access f rs1)
breaks_access f _ = false

-- V6: a jalr that isn't on x30, or has an offset
abbrev pub breaks_jump : Instr → Bool
breaks_jump (Jalr rd rs1 (pos n)) = not ((n == 0) && (rs1 == code_register))
breaks_jump (Jalr rd rs1 (negsuc n)) = true
breaks_jump _ = false

-- the address is a multiple of 4 in the code region of that base and size
abbrev pub is_word_start : ℕ → ℕ → ℕ → Bool
is_word_start base size a = nat_le base a && nat_lt a (base + size) && (a % word_size == 0)

-- V7: a jal or branch whose target is no word's start of its own code region
abbrev pub breaks_target : ℕ → ℕ → ℕ → Instr → Bool
breaks_target base size at (Jal rd offset) = not (is_word_start base size (offset_by at offset))
breaks_target base size at (Branch condition rs1 rs2 offset) =
    not (is_word_start base size (offset_by at offset))
breaks_target base size at _ = false

-- V8: no instruction comes after this one, and it isn't ebreak, jal or jalr
abbrev pub breaks_end : Instr → List Piece → Bool
breaks_end i later = is_empty later && not (ends_region i)

-- An instruction may write d in three cases: (a) it is the last step of d's mask; or (b) it is no jump,
-- and d's mask comes next; or (c) it is `addi d, d, k`, and the next instruction uses d.
abbrev pub may_write_data : Format → ℕ → Instr → List Piece → Bool
may_write_data f d i later =
    places f d i || (not (is_jump i) && begins_masking f d later)
    || (is_pointer_step d i && begins_using d later)

-- the register that the instruction writes, if it writes one, is a data register, and it may not
-- write that
abbrev pub breaks_data_of : Format → Option ℕ → Instr → List Piece → Bool
breaks_data_of f None i later = false
breaks_data_of f (Some d) i later = is_data_register_in f d && not (may_write_data f d i later)

-- V10: the instruction writes a data register, and may not
abbrev pub breaks_data : Format → Instr → List Piece → Bool
breaks_data f i later = breaks_data_of f (destination i) i later

-- an instruction may write x30 in two cases: it is `or x30, x30, x24`, or `and x30, a, x25`
-- directly before that
abbrev pub may_write_code : Instr → List Piece → Bool
may_write_code i later = is_placing code_base_register code_register i
    || (is_masking code_mask_register code_register i && begins_code later)

-- V11: the instruction writes x30, and may not
abbrev pub breaks_code : Instr → List Piece → Bool
breaks_code i later = writes_register code_register i && not (may_write_code i later)

-- V12: the instruction writes x31, and isn't `and x31, a, x27`. (Where masks are single this is never
-- broken.)
abbrev pub breaks_offset : Format → Instr → Bool
breaks_offset f i = writes_register offset_register i
    && not (has_single_mask f || is_masking data_mask_register offset_register i)

-- ==== What is still owed: what the next one or two instructions must be after a write of a data
-- register or of x30, as a kind and one register.

-- what is owed after the first step of d's mask
abbrev pub owed_by_mask : Format → ℕ → Owed
owed_by_mask f d = if has_single_mask f then Nothing else PlaceOnly d

-- what is still owed after this instruction; None: the instruction isn't one that was owed
abbrev pub left : Format → Owed → Instr → Option Owed
left f Nothing i = Some Nothing
left f (Mask d) i = if masks f d i then Some (owed_by_mask f d) else None
left f (PlaceOnly d) i = if places f d i then Some Nothing else None
left f (MaskOrUse d) i =
    if masks f d i then Some (owed_by_mask f d) else if uses d i then Some Nothing else None
left f Code i = if is_placing code_base_register code_register i then Some Nothing else None

-- what must come after this write of data register d; None: nothing can make it right
abbrev pub owed_by_data : Format → ℕ → Instr → Option Owed
owed_by_data f d i =
    if places f d i then Some Nothing
    else if is_jump i then None else if is_pointer_step d i then Some (MaskOrUse d) else Some (Mask d)

-- what must come after this write of the code register; None: nothing can make it right
abbrev pub owed_by_code : Instr → Option Owed
owed_by_code i =
    if is_placing code_base_register code_register i then Some Nothing
    else if is_masking code_mask_register code_register i then Some Code else None

-- what must come after a write of this register, if one is written: a write of neither a data
-- register nor x30 asks nothing
abbrev pub owed_of : Format → Option ℕ → Instr → Option Owed
owed_of f None i = Some Nothing
owed_of f (Some d) i =
    if is_data_register_in f d then owed_by_data f d i
    else if d == code_register then owed_by_code i else Some Nothing

-- what must come after the instruction, by what it writes; None: nothing can make that right
abbrev pub owed_by : Format → Instr → Option Owed
owed_by f i = owed_of f (destination i) i

-- what is owed; nothing where no next instruction can make the write right (the write itself is
-- found)
abbrev pub or_nothing : Option Owed → Owed
or_nothing None = Nothing
or_nothing (Some o) = o

-- what is still owed after the instruction, or else what must come after it by what it writes (one
-- after which something is still owed writes x31 alone, so by itself it asks nothing)
abbrev pub joined : Option Owed → Option Owed → Owed
joined None own = or_nothing own
joined (Some Nothing) own = or_nothing own
joined (Some (Mask d)) own = Mask d
joined (Some (PlaceOnly d)) own = PlaceOnly d
joined (Some (MaskOrUse d)) own = MaskOrUse d
joined (Some Code) own = Code

-- what is owed after an instruction with `o` owed before it, whether it meets that or not
abbrev pub owed_next : Format → Owed → Instr → Owed
owed_next f o i = joined (left f o i) (owed_by f i)

-- what is owed follows a write of a data register
abbrev pub is_of_data : Owed → Bool
is_of_data Nothing = false
is_of_data (Mask d) = true
is_of_data (PlaceOnly d) = true
is_of_data (MaskOrUse d) = true
is_of_data Code = false

-- what is owed follows a write of the code register
abbrev pub is_of_code : Owed → Bool
is_of_code Nothing = false
is_of_code (Mask d) = false
is_of_code (PlaceOnly d) = false
is_of_code (MaskOrUse d) = false
is_of_code Code = true
