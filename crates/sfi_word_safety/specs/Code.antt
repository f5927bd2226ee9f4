-- Accepted code in words, and the places where its runs stand.
use Rattle.std.specs.Prelude.{◌≡◌, ◌+◌, ℕ, List, [], ◌∷◌, true, false, length, ◌%◌, ◌<◌, ◌⊎◌, Option, IfSome, drop, slice_index, bit_and}
use Rattle.sfi_formats.specs.Formats.{has_words, is_data_register_in, code_register, offset_register, has_single_mask}
use Rattle.sfi_image.specs.Spelling.{Part, AreApart, code_region, data_region, guarded_region, IsNearIn}
use Rattle.sfi_image.specs.Parts.{is_gate_of, IsRightPart, reserved_of, IsWordStart}
use Rattle.sfi_rules.specs.Readings.{Piece, IsReading, rest_of}
use Rattle.sfi_rules.specs.words.Rules.{breaks_width, breaks_ecall, breaks_reserved, breaks_access, breaks_jump, breaks_target, breaks_end, breaks_data, breaks_code, breaks_offset, begins_placing, begins_masking, begins_using, begins_code}
use Rattle.rv_step.specs.State.{Hart, State}
use Rattle.sfi_formats.specs.Limits.{slack}
use Rattle.sfi_safe_runs.specs.Calling.{KeepsAll}

-- ==== Which sandboxes of code in words have a right layout and break no rule.

-- no rule is broken by the piece at this address, with `later` after it
pub record BreaksNone (p : Part) (at : ℕ) (x : Piece) (later : List Piece) : Type 0 where
  pub width : breaks_width at x.size ≡ false
  pub ecall : breaks_ecall (is_gate_of p.gates at) x.instr ≡ false
  pub reserved : breaks_reserved p.format x.instr ≡ false
  pub access : breaks_access p.format x.instr ≡ false
  pub jump : breaks_jump x.instr ≡ false
  pub target : breaks_target p.code_base (length p.code) at x.instr ≡ false
  pub end : breaks_end x.instr later ≡ false
  pub data_write : breaks_data p.format x.instr later ≡ false
  pub code_write : breaks_code x.instr later ≡ false
  pub offset_write : breaks_offset p.format x.instr ≡ false

-- no rule is broken by any of these pieces, the first of which is at this address
abbrev pub BreakNone : Part → ℕ → List Piece → Type 0
BreakNone p at [] = Unit {0}
BreakNone p at (x ∷ later) = BreaksNone p at x later × BreakNone p (at + x.size) later

-- the code is read whole, one instruction after another (V1), and none breaks a rule
pub record AreWordsClean (p : Part) : Type 0 where
  pub reading : List Piece
  pub is_reading : IsReading p.code reading
  pub whole : rest_of p.code reading ≡ []
  pub none : BreakNone p p.code_base reading

-- the sandbox's code is in words, its part has a right layout, its code lies apart from its data
-- and guards, and no rule is broken in it
pub record IsCleanInWords (p : Part) : Type 0 where
  pub words : has_words p.format ≡ true
  pub right : IsRightPart p
  pub apart : AreApart (code_region p) (guarded_region p)
  pub clean : AreWordsClean p

-- ==== Where a run stands: a place of the code's reading, and what the typed registers hold there.

-- What is known of a data register before these pieces. It holds what its type says; or the first piece
-- ends its mask, or they begin with its mask; or it lies a step further, and the first piece uses it.
abbrev pub IsKnown : Part → ℕ → ℕ → List Piece → Type 0
IsKnown p d value pieces =
    IsNearIn p.format (data_region p) slack value
    ⊎ ((begins_placing p.format d pieces ≡ true)
    ⊎ ((begins_masking p.format d pieces ≡ true)
    ⊎ (IsNearIn p.format (data_region p) (slack + 2048) value × (begins_using d pieces ≡ true))))

-- What is known of the code register before these pieces: it is a word's start; or it is masked,
-- and placed by the first piece.
abbrev pub IsCodeKnown : Part → ℕ → List Piece → Type 0
IsCodeKnown p value pieces =
    IsWordStart (code_region p) value
    ⊎ ((begins_code pieces ≡ true) × ((x : ℕ) × (value ≡ bit_and x (reserved_of p).code_mask)))

-- what is known of the typed registers before these pieces
pub record AreKnown (p : Part) (registers : List ℕ) (pieces : List Piece) : Type 0 where
  pub each_data : (d : ℕ) → is_data_register_in p.format d ≡ true → IsKnown p d (slice_index registers d) pieces
  pub code : IsCodeKnown p (slice_index registers code_register) pieces
  pub offset : has_single_mask p.format ≡ false → slice_index registers offset_register < p.data_size

-- from this offset on the rest of the code is read whole, and breaks no rule
pub record IsPlace (p : Part) (offset : ℕ) : Type 0 where
  pub here : Piece
  pub later : List Piece
  pub reading : IsReading (drop offset p.code) (here ∷ later)
  pub whole : rest_of (drop offset p.code) (here ∷ later) ≡ []
  pub none : BreakNone p (p.code_base + offset) (here ∷ later)

-- pc is at such an offset of the code, and the typed registers hold what is known there
pub record IsAtPlaceInWords (p : Part) (h : Hart) : Type 0 where
  pub offset : ℕ
  pub place : IsPlace p offset
  pub pc : h.pc ≡ p.code_base + offset
  pub even : offset % 2 ≡ 0
  pub known : AreKnown p h.registers (place.here ∷ place.later)

-- a good state: it has what all turns keep, and stands at a good place
pub record IsGoodInWords (p : Part) (s : State) : Type 0 where
  pub kept : KeepsAll p s
  pub place : IsAtPlaceInWords p s.hart

-- the state is good, if the run goes on
abbrev pub IsGoodInWordsIf : Part → Option State → Type 0
IsGoodInWordsIf p o = IfSome o (λ s. IsGoodInWords p s)
