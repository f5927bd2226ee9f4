-- Lines as the code has them.
use Rattle.std.specs.Prelude.{◌≡◌, ℕ, ◌^◌, ◌<◌, List, length, Option, Some, None}
use Rattle.std.specs.Option.{option_map}
use Rattle.std.specs.BTreeMap.{BTreeMap, get}
use Rattle.std.specs.Ordering.{nat_cmp}
use Rattle.rv_word.specs.declared.instr.Instr.TheVariants.{Branch, Jal}
use Rattle.rv_word.specs.Spelling.{offset_by}
use Rattle.sfi_translate.specs.Lines.{Line, Function, End, Entry, Head, Does}
use Rattle.sfi_translate.specs.Machine.{label}
use Rattle.sfi_native.specs.declared.plan.Plan.{Plan}
use Rattle.sfi_native.specs.declared.line.Line.{Line as Held}
use Rattle.sfi_native.specs.declared.line.Line.TheVariants as held
use Rattle.sfi_native.specs.Places.{size_of_all}

abbrev pub line_of : Held → Line
line_of (held.Function sandbox at) = Function sandbox at
line_of (held.End at) = End at
line_of (held.Entry at) = Entry at
line_of (held.Head at) = Head at
line_of (held.Does at size instr) = Does at size instr

-- the address that it jumps to over a distance, if it does
abbrev pub target_of : Line → Option ℕ
target_of (Does at n (Branch cond rs1 rs2 offset)) = Some (offset_by at offset)
target_of (Does at n (Jal rd offset)) = Some (offset_by at offset)
target_of line = None

-- How many bytes these lines have, below 2^31, and they have from each label on.
pub record AreMeasured (plan : Plan) (lines : List Line) (bytes : List ℕ) (labels : BTreeMap ℕ ℕ) : Type 0 where
  pub size : length bytes ≡ size_of_all plan lines
  pub few : size_of_all plan lines < 2 ^ 31
  pub left : (to : ℕ) → get nat_cmp labels to ≡ option_map (size_of_all plan) (label to lines)
