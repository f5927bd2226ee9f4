-- Where a run of code in bundles stands, and what the instructions before leave in the registers.
use Rattle.std.specs.Prelude.{◌≡◌, ◌==◌, ◌&&◌, not, ℕ, List, [], ◌∷◌, Bool, true, false, slice_index, bit_and, ◌+◌, ◌*◌, ◌≤◌, ◌⊎◌, ◌||◌, Option, IfSome, length, drop}
use Rattle.rv_word.specs.declared.instr.Instr.{Instr}
use Rattle.rv_word.specs.declared.instr.Instr.TheVariants.{Op}
use Rattle.rv_step.specs.State.{Hart, register, with_register, State}
use Rattle.rv_step.specs.Step.{result_of}
use Rattle.sfi_formats.specs.Formats.{code_mask_register, data_mask_register, stack_pointer, has_stack, has_words}
use Rattle.sfi_image.specs.Spelling.{Part, code_region, AreApart, guarded_region}
use Rattle.sfi_image.specs.Parts.{reserved_of, IsBundleStart, IsRightPart}
use Rattle.sfi_pairs.specs.Pairs.{is_masking}
use Rattle.sfi_rules.specs.Readings.{follows_data_pair, follows_code_pair, bundle_place, bundle_bytes, Piece, IsReading, rest_of, begins_pair, ends_pair}
use Rattle.sfi_safe_runs.specs.Runs.{InData, StackInData, Zones, Empty}
use Rattle.sfi_formats.specs.Limits.{bundle_size}
use Rattle.sfi_rules.specs.Findings.{findings_from, AreFindings, AreFindingsInBundles}
use Rattle.sfi_safe_runs.specs.Calling.{KeepsAllAs}

-- ==== What the one or two instructions directly before a place leave in the registers.

-- The instruction directly before is `and target, a, mask`, and the target is not x0.
-- `earlier` has the instructions before the place in its bundle, the nearest first.
abbrev pub follows_mask : ℕ → ℕ → List Instr → Bool
follows_mask mask target (first ∷ earlier) = is_masking mask target first && not (target == 0)
follows_mask mask target [] = false

-- after a pair its target lies in the data region, or is a bundle start of the code region, and
-- after a mask its target is masked
pub record Leaves (p : Part) (earlier : List Instr) (registers : List ℕ) : Type 0 where
  pub data_pair : (t : ℕ) → follows_data_pair t earlier ≡ true → InData p (slice_index registers t)
  pub code_pair : (t : ℕ) → follows_code_pair t earlier ≡ true
      → IsBundleStart (code_region p) (slice_index registers t)
  pub data_mask : (t : ℕ) → follows_mask data_mask_register t earlier ≡ true
      → (x : ℕ) × (slice_index registers t ≡ bit_and x (reserved_of p).data_mask)
  pub code_mask : (t : ℕ) → follows_mask code_mask_register t earlier ≡ true
      → (x : ℕ) × (slice_index registers t ≡ bit_and x (reserved_of p).code_mask)

-- an operation on registers leaves its result in its register, and the others as they were; of any
-- other instruction nothing is asked, and the registers after it are arbitrary
abbrev pub WritesResult : Instr → Hart → Hart → Type 0
WritesResult (Op op rd rs1 rs2) before after = after.registers
    ≡ (with_register before rd (result_of op (register before rs1) (register before rs2))).registers
WritesResult _ before after = Unit {0}

-- ==== Where a run of code in bundles stands: the place of a bundle's reading, and what the
-- registers hold there.

-- the part of sandbox `sandbox` has a right layout, its code lies apart from its data and
-- guards, and no rule is broken in it
pub record IsCleanPart (sandbox : ℕ) (p : Part) : Type 0 where
  pub right : IsRightPart p
  pub apart : AreApart (code_region p) (guarded_region p)
  pub none_found : AreFindings sandbox p []

-- the part of sandbox `sandbox` is clean, and its code is in bundles
pub record AreCleanBundles (sandbox : ℕ) (p : Part) : Type 0 where
  pub bundles : has_words p.format ≡ false
  pub right : IsRightPart p
  pub apart : AreApart (code_region p) (guarded_region p)
  pub none_found : AreFindingsInBundles sandbox p []

-- A stack pointer lies in the data region at each bundle's end. Before, it lies there, or the pair
-- that puts it there stands here, or has begun directly before.
-- (`later` has the instruction here and those after it.)
abbrev pub StackInDataBefore : Part → List Instr → List Piece → List ℕ → Type 0
StackInDataBefore p earlier [] registers = StackInData p registers
StackInDataBefore p earlier (here ∷ later) registers =
    has_stack p.format ≡ true → InData p (slice_index registers stack_pointer)
    ⊎ ((begins_pair here.instr later || ends_pair earlier here.instr) ≡ true)

-- pc is at an offset of a bundle from which the rest is read whole and has no finding, if `earlier`
-- stood before it. That is any list of instructions, the nearest first, which the bundle need not
-- have: the registers only hold what its first two leave. It is empty at the bundle's start alone.
-- So there are more such places than a run reaches.
pub record IsAtPlace (sandbox : ℕ) (p : Part) (h : Hart) : Type 0 where
  pub number : ℕ
  pub within : bundle_size * number + bundle_size ≤ length p.code
  pub offset : ℕ
  pub earlier : List Instr
  pub here : Piece
  pub later : List Piece
  pub reading : IsReading (drop offset (bundle_bytes p number)) (here ∷ later)
  pub whole : rest_of (drop offset (bundle_bytes p number)) (here ∷ later) ≡ []
  pub clean : findings_from (bundle_place sandbox p number) true
      (p.code_base + bundle_size * number + offset) earlier (here ∷ later) ≡ []
  pub pc : h.pc ≡ p.code_base + bundle_size * number + offset
  pub first : earlier ≡ [] → offset ≡ 0
  pub leaves : Leaves p earlier h.registers
  pub stack : StackInDataBefore p earlier (here ∷ later) h.registers

-- a good state: it has what all turns keep, and stands at a good place
pub record IsGoodAs (zones : Zones) (sandbox : ℕ) (p : Part) (s : State) : Type 0 where
  pub kept : KeepsAllAs zones p s
  pub place : IsAtPlace sandbox p s.hart

-- a good state whose guard zones are empty
abbrev pub IsGood : ℕ → Part → State → Type 0
IsGood = IsGoodAs Empty

-- the state is good, if the run goes on
abbrev pub IsGoodIf : ℕ → Part → Option State → Type 0
IsGoodIf sandbox p o = IfSome o (λ s. IsGood sandbox p s)
