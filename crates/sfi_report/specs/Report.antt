-- The report: a line for each finding.
use Rattle.std.specs.Prelude.{◌≡◌, ◌-◌, ℕ, List, [], ◌∷◌, ◌++◌, Some, take, drop, codes, decimal, slice_get}
use Rattle.rv_word.specs.declared.instr.Instr.{Instr}
use Rattle.rv_comp.specs.Fronts.{Spells}
use Rattle.sfi_text.specs.Statement.{printed}
use Rattle.sfi_formats.specs.declared.format.Format.{Format}
use Rattle.sfi_image.specs.Spelling.{Part}
use Rattle.sfi_rules.specs.Rules.{number_of, rule_name}
use Rattle.sfi_rules.specs.declared.finding.Finding.{Finding}
use Rattle.sfi_rules.specs.declared.rule.Rule.{Rule}
use Rattle.sfi_rules.specs.declared.rule.Rule.TheVariants.{V1, V2, V9}
use Rattle.sfi_report.specs.Listing.{hex_digits, line_end, word_digits}

-- ---- what stands where a rule is broken, by the code from there on

-- the first halfword
abbrev pub half_text : List ℕ → List ℕ
half_text code = codes ".half 0x" ++ word_digits (take 2 code)

-- the text is that of the instruction that the first bytes spell
abbrev pub IsInstructionText : List ℕ → List ℕ → Type 0
IsInstructionText code text = (i : Instr) × (n : ℕ) × Spells (take n code) i n × (text ≡ printed i)

-- where the bytes do not decode a halfword, at a gate that is not the stub a note, and else the
-- instruction that breaks the rule
abbrev pub IsPlaceText : Rule → List ℕ → List ℕ → Type 0
IsPlaceText V1 code text = text ≡ half_text code
IsPlaceText V2 code text = text ≡ half_text code
IsPlaceText V9 code text = text ≡ codes "stub expected"
IsPlaceText _ code text = IsInstructionText code text

-- ---- lines

-- the line up to what stands there: sandbox, address, the rule's number and name
abbrev pub line_front : Format → Finding → List ℕ
line_front format f =
    decimal f.sandbox ++ codes " " ++ hex_digits 8 f.address ++ codes " V"
    ++ decimal (number_of f.rule)
    ++ codes " " ++ rule_name format f.rule ++ codes " "

-- the line of a finding in one of the parts
pub record IsFindingLine (ps : List Part) (f : Finding) (line : List ℕ) : Type 0 where
  pub part : Part
  pub place : List ℕ
  pub part_is : slice_get ps f.sandbox ≡ Some part
  pub place_is : IsPlaceText f.rule (drop (f.address - part.code_base) part.code) place
  pub line_is : line ≡ line_front part.format f ++ place ++ line_end

-- the lines of findings, one after another
abbrev pub IsReport : List Part → List Finding → List ℕ → Type 0
IsReport ps [] text = text ≡ []
IsReport ps (f ∷ found) text =
    (line : List ℕ) × (rest : List ℕ) × IsFindingLine ps f line
    × IsReport ps found rest × (text ≡ line ++ rest)
