-- The rules of code in bundles, and the finding of a broken rule.
use Rattle.std.specs.Prelude.{◌+◌, ◌%◌, ◌==◌, ◌&&◌, ◌||◌, not, ℕ, pos, negsuc, List, [], ◌∷◌, Bool, true, false, Option, Some, None, nat_lt, nat_le, codes, if◌then◌else◌}
use Rattle.rv_word.specs.declared.instr.Instr.{Instr}
use Rattle.rv_word.specs.declared.instr.Instr.TheVariants.{Load, Store, Branch, Jal, Jalr, Ecall, Ebreak}
use Rattle.rv_word.specs.Spelling.{offset_by, length_of}
use Rattle.rv_word.specs.Outlines.{destination}
use Rattle.sfi_formats.specs.Formats.{is_stack, is_reserved, has_words}
use Rattle.sfi_formats.specs.declared.format.Format.{Format}
use Rattle.sfi_rules.specs.declared.rule.Rule.{Rule}
use Rattle.sfi_rules.specs.declared.rule.Rule.TheVariants.{V1, V2, V3, V4, V5, V6, V7, V8, V9, V10, V11, V12}
use Rattle.sfi_image.specs.declared.bundle.BundlePlace.{BundlePlace}
use Rattle.sfi_formats.specs.Limits.{bundle_size}
use Rattle.sfi_rules.specs.Readings.{follows_data_pair, follows_code_pair, Piece, writes_stack, begins_pair, ends_pair, precedes_pair, is_jump}
use Rattle.std.specs.Int.{w16, from_le_bytes}
use Rattle.rv_word.specs.declared.length.Length.{Length}
use Rattle.rv_word.specs.declared.length.Length.TheVariants.{Short, Wide, Longer}
use Rattle.sfi_rules.specs.declared.finding.Finding.{Finding}
use Rattle.std.specs.List.{find}

-- ==== Which rules an instruction of a bundle breaks, in the formats whose code is in
-- bundles.

-- an instruction of a bundle, and what its rules look at beside it
pub record InstrInBundle : Type 0 where
  pub bundle : BundlePlace
  pub address : ℕ  -- that of the instruction
  pub earlier : List Instr  -- the instructions before it in the bundle, the nearest first
  pub instr : Instr
  pub later : List Piece  -- those after it
  pub whole : Bool  -- the reading leaves nothing of the bundle

-- the list has no elements
abbrev pub is_empty : {A : Type 0} → List A → Bool
is_empty [] = true
is_empty (x ∷ xs) = false

-- the address is a multiple of a bundle's size in the bundle's code region
abbrev pub is_bundle_start : BundlePlace → ℕ → Bool
is_bundle_start b a =
    nat_le b.code_base a && nat_lt a (b.code_base + b.code_size) && (a % bundle_size == 0)

-- V3: an ecall that is not the first instruction of a listed gate
abbrev pub breaks_ecall : InstrInBundle → Instr → Bool
breaks_ecall x Ecall = not (is_empty x.earlier && x.bundle.listed)
breaks_ecall x _ = false

-- there is a number, and it is a reserved register's
abbrev pub is_reserved_one : Option ℕ → Bool
is_reserved_one None = false
is_reserved_one (Some r) = is_reserved r

-- V4: it writes a reserved register
abbrev pub breaks_reserved : Instr → Bool
breaks_reserved i = is_reserved_one (destination i)

-- an access on this base stays in the data and the guards: the two instructions directly before are
-- the data pair on it, or it is the stack pointer of a format that has one
abbrev pub may_access : BundlePlace → ℕ → List Instr → Bool
may_access b base earlier = is_stack b.format base || follows_data_pair base earlier

-- V5: a load or store, and the two instructions directly before it are not the data pair on its
-- base (on the stack pointer of a format that has one it is never broken)
abbrev pub breaks_access : InstrInBundle → Instr → Bool
breaks_access x (Load kind rd rs1 imm) = not (may_access x.bundle rs1 x.earlier)
breaks_access x (Store width rs1 rs2 imm) = not (may_access x.bundle rs1 x.earlier)
breaks_access x _ = false

-- V6: a jalr whose offset is not 0, or before which the two instructions directly before it are not
-- the code pair on its base
abbrev pub breaks_jump : InstrInBundle → Instr → Bool
breaks_jump x (Jalr rd rs1 (pos n)) = not ((n == 0) && follows_code_pair rs1 x.earlier)
breaks_jump x (Jalr rd rs1 (negsuc n)) = true
breaks_jump x _ = false

-- V7: a jal or branch whose target is no bundle start of its own code region
abbrev pub breaks_target : InstrInBundle → Instr → Bool
breaks_target x (Jal rd offset) = not (is_bundle_start x.bundle (offset_by x.address offset))
breaks_target x (Branch condition rs1 rs2 offset) =
    not (is_bundle_start x.bundle (offset_by x.address offset))
breaks_target x _ = false

-- the instruction is an ebreak, jal or jalr, after which control never runs on
abbrev pub ends_region : Instr → Bool
ends_region (Jal rd offset) = true
ends_region (Jalr rd rs1 imm) = true
ends_region Ebreak = true
ends_region _ = false

-- the code region ends after the bundle
abbrev pub is_last_bundle : BundlePlace → Bool
is_last_bundle b = b.address + bundle_size == b.code_base + b.code_size

-- V8: the region's last bundle is read whole and this, its last instruction, is not ebreak,
-- jal or jalr
abbrev pub breaks_end : InstrInBundle → Instr → Bool
breaks_end x i = is_last_bundle x.bundle && (x.whole && is_empty x.later) && not (ends_region i)

-- the instruction is one of the pair on x2, or the pair stands directly after it and control runs
-- on into it
abbrev pub may_write_stack : InstrInBundle → Instr → Bool
may_write_stack x i =
    begins_pair i x.later || ends_pair x.earlier i || (not (is_jump i) && precedes_pair x.later)

-- V10: the instruction writes the stack pointer, and may not. (Where the format has none this is
-- never broken.)
abbrev pub breaks_stack : InstrInBundle → Instr → Bool
breaks_stack x i = writes_stack x.bundle i && not (may_write_stack x i)

-- The rule is broken at the place. (Each test takes the place's instruction again, to go by its
-- cases.) V1 and V2 are broken where no instruction is read, and V9 by a whole bundle,
-- so never at a place; V11 and V12 are rules of code in words.
abbrev pub breaks : InstrInBundle → Rule → Bool
breaks x V3 = breaks_ecall x x.instr
breaks x V4 = breaks_reserved x.instr
breaks x V5 = breaks_access x x.instr
breaks x V6 = breaks_jump x x.instr
breaks x V7 = breaks_target x x.instr
breaks x V8 = breaks_end x x.instr
breaks x V10 = breaks_stack x x.instr
breaks x _ = false

-- ==== The rules in order, and a broken one's finding, at an instruction or where none is read.

-- a rule broken in the bundle, at that address
abbrev pub broken : BundlePlace → ℕ → Rule → Finding
broken b at rule = record { sandbox = b.sandbox; address = at; rule = rule }

-- the rules, from the lowest up
abbrev pub all_rules : List Rule
all_rules = V1 ∷ V2 ∷ V3 ∷ V4 ∷ V5 ∷ V6 ∷ V7 ∷ V8 ∷ V9 ∷ V10 ∷ V11 ∷ V12 ∷ []

-- V2 where the two bytes that are left begin a 32-bit instruction, which crosses the end of its
-- bundle, or of its word
abbrev pub rule_of_length : Length → Rule
rule_of_length Wide = V2
rule_of_length Short = V1
rule_of_length Longer = V1

-- what is found of the bytes that a reading leaves: V2 or else V1 at their address, and nothing of none
abbrev pub rest_finding : BundlePlace → ℕ → List ℕ → List Finding
rest_finding b at [] = []
rest_finding b at (low ∷ high ∷ []) =
    broken b at (rule_of_length (length_of (from_le_bytes w16 (low ∷ high ∷ [])))) ∷ []
rest_finding b at _ = broken b at V1 ∷ []

-- ==== The numbers and the names of the rules.

-- the number by which a rule is known
abbrev pub number_of : Rule → ℕ
number_of V1 = 1
number_of V2 = 2
number_of V3 = 3
number_of V4 = 4
number_of V5 = 5
number_of V6 = 6
number_of V7 = 7
number_of V8 = 8
number_of V9 = 9
number_of V10 = 10
number_of V11 = 11
number_of V12 = 12

-- the rule of that number, if there is one
abbrev pub numbered : ℕ → Option Rule
numbered n = find (λ rule. n == number_of rule) all_rules

-- the name of a rule of the format: V10 is about the data registers in words, else about x2
abbrev pub rule_name : Format → Rule → List ℕ
rule_name format V1 = codes "decode"
rule_name format V2 = codes "cross"
rule_name format V3 = codes "ecall"
rule_name format V4 = codes "reserved"
rule_name format V5 = codes "access"
rule_name format V6 = codes "jump"
rule_name format V7 = codes "target"
rule_name format V8 = codes "end"
rule_name format V9 = codes "gate"
rule_name format V10 = if has_words format then codes "data" else codes "stack"
rule_name format V11 = codes "code"
rule_name format V12 = codes "offset"
