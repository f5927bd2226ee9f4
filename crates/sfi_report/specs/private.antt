-- Words that private contracts and proofs alone cite: no public statement rests on them.
use Rattle.std.specs.Prelude.{◌≡◌, ◌≤◌, ℕ, ◌+◌, List, ◌++◌, Some, length, take, drop, slice_get}
use Rattle.rv_word.specs.declared.instr.Instr.{Instr}
use Rattle.rv_comp.specs.Fronts.{IsFront, Spells}
use Rattle.rv_comp.specs.declared.front.Front.{Front}
use Rattle.sfi_image.specs.Spelling.{Part}
use Rattle.sfi_rules.specs.declared.finding.Finding.{Finding}
use Rattle.sfi_rules.specs.declared.rule.Rule.{Rule}
use Rattle.sfi_report.specs.State.{place_line}
use Rattle.sfi_rules.specs.declared.rule.Rule.TheVariants.{V1, V2, V9}

-- the new text is the old one and some such text
pub record Adds (old new : List ℕ) (is : List ℕ → Type 0) : Type 0 where
  pub text : List ℕ
  pub text_is : is text
  pub new_is : new ≡ old ++ text

-- the first bytes spell an instruction
pub record SpellsFirst (code : List ℕ) : Type 0 where
  pub instr : Instr
  pub size : ℕ
  pub spelled : Spells (take size code) instr size

-- what the code begins with, where the rule is broken
abbrev pub IsPlace : Rule → List ℕ → Type 0
IsPlace V1 code = 2 ≤ length code
IsPlace V2 code = 2 ≤ length code
IsPlace V9 code = Unit {0}
IsPlace _ code = SpellsFirst code

-- the finding stands at a place of one of the parts
pub record Stands (ps : List Part) (f : Finding) : Type 0 where
  pub part : Part
  pub offset : ℕ
  pub part_is : slice_get ps f.sandbox ≡ Some part
  pub address_is : f.address ≡ part.code_base + offset
  pub within : offset ≤ length part.code
  pub place : IsPlace f.rule (drop offset part.code)

-- the line of an address by what this code has there
pub record IsPlaceLine (at : ℕ) (code text : List ℕ) : Type 0 where
  pub front : Front
  pub front_is : IsFront code front
  pub text_is : text ≡ place_line at code front
