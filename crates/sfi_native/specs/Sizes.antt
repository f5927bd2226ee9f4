-- How many bytes the code of a sandbox has.
use Rattle.std.specs.Prelude.{◌≡◌, ℕ, ◌*◌, ◌^◌, ◌<◌, ◌≤◌, List, length}
use Rattle.sfi_image.specs.Spelling.{Part}
use Rattle.sfi_image.specs.Parts.{IsRightPart}
use Rattle.sfi_translate.specs.Lines.{Line, AreLines}
use Rattle.sfi_native.specs.declared.plan.Plan.{Plan}
use Rattle.sfi_native.specs.Registers.{IsUnpadded}
use Rattle.sfi_native.specs.Places.{exit_of, size_of_all, whole_code}
use Rattle.x86_step.specs.Running.{spellings}

-- the most bytes for one of the sandbox's
abbrev pub bytes_most : ℕ
bytes_most = 24

-- All code has the bytes that its parts have.
abbrev pub CodeHasItsSize : Type 0
CodeHasItsSize =
    (plan : Plan) (end : ℕ) (code : List Line) → length (spellings (whole_code plan end code)) ≡ exit_of plan code

-- So many bytes the lines of a sandbox's code have at most, whatever the plan, where no nops stand.
abbrev pub CodeIsSmall : Type 0
CodeIsSmall =
    (plan : Plan) (sandbox : ℕ) (p : Part) (code : List Line) → IsUnpadded plan
    → IsRightPart p → AreLines sandbox p code → size_of_all plan code ≤ bytes_most * length p.code

-- With nops, too, it is below 2^31, so that the code of each sandbox of an image can be compiled.
abbrev pub EachCodeFits : Type 0
EachCodeFits =
    (plan : Plan) (sandbox : ℕ) (p : Part) (code : List Line)
    → IsRightPart p → AreLines sandbox p code → exit_of plan code < 2 ^ 31
