-- What the job that was asked for answers on what was read, and what a run of the program writes.
use Rattle.std.specs.Prelude.{ℕ, List, true, false, ◌⊎◌, ◌++◌, ◌<◌, ◌≤◌, Option, IfSome, codes, length}
use Rattle.sfi_command.specs.declared.job.Job.{Job}
use Rattle.sfi_command.specs.declared.job.Job.TheVariants.{Check, Dis, Build, Map, Run, Exec, Convert, Move, Native, Translate}
use Rattle.sfi_io.specs.Hexadecimal.{limit}
use Rattle.sfi_report.specs.Listing.{line_end}
use Rattle.sfi_answers.specs.declared.fault.InputFault.TheVariants.{TooLarge, NoFile}
use Rattle.sfi_answers.specs.declared.fault.Stop.{Stop}
use Rattle.sfi_answers.specs.declared.fault.Stop.TheVariants as stop
use Rattle.sfi_answers.specs.Answers.{Meaning, on_image, check, dis, native, translate}
use Rattle.sfi_answers.specs.FaultTexts.{IsFaultLine}
use Rattle.sfi_answers.specs.Building.{build, map, convert}
use Rattle.sfi_tool.specs.Running.{run}
use Rattle.sfi_answers.specs.Moving.{move}
use Rattle.std.specs.Io.KnownBytes.{Appends}
use Rattle.clap.specs.Walk.{Text}
use Rattle.sfi_command.specs.Command.{Asks, AsksNoInput}

-- `exec` has a fault here whatever was read: it is above its limit, or else no file can be opened
abbrev pub IsNotHere : List ℕ → Stop → Type 0
IsNotHere input (stop.Input TooLarge) = limit < length input
IsNotHere input (stop.Input NoFile) = length input ≤ limit
IsNotHere input _ = ⊥

abbrev pub not_here : Meaning
not_here = record {
  says = λ input status answer. ⊥;
  is_done = λ input. ⊥;
  is_refused = λ input. ⊥;
  why = IsNotHere;
}

-- what is said of each job, by its command, where no file can be opened. All read an image's bytes or hexadecimal text, but for
-- a check of bytes, however they begin, and a build and a map of a source text
abbrev pub meaning_of : Job → Meaning
meaning_of (Check true report) = check report
meaning_of (Check false report) = on_image (check report)
meaning_of Dis = on_image dis
meaning_of (Build raw places) = build raw places.items
meaning_of (Map places) = map places.items
meaning_of (Run options) = on_image (run options)
meaning_of (Exec image budget) = not_here
meaning_of (Convert raw) = on_image (convert raw)
meaning_of (Move raw sandbox place) = on_image (move raw sandbox place)
meaning_of (Translate whole) = on_image (translate whole)
meaning_of Native = on_image native

-- the job's answer, with status 0 or 1, on what was read
abbrev pub Says : Job → List ℕ → ℕ → List ℕ → Type 0
Says job = (meaning_of job).says

-- status 0 is due
abbrev pub IsDone : Job → List ℕ → Type 0
IsDone job = (meaning_of job).is_done

-- status 1 is due
abbrev pub IsRefused : Job → List ℕ → Type 0
IsRefused job = (meaning_of job).is_refused

-- status 2 is due: what was read has this fault
abbrev pub HasInputFault : Job → List ℕ → Stop → Type 0
HasInputFault job = (meaning_of job).why

-- ---- a run of the program, where its reader and writer tell their bytes

-- the words ask for a job, and its answer on the bytes read, with this status, was written
pub record WritesAnswer (words : List Text) (input old new : Option (List ℕ))
    (status : ℕ) : Type 0 where
  pub job : Job
  pub asked : Asks words job
  pub wrote :
      IfSome input (λ bytes. (text : List ℕ) × Says job bytes status text × Appends old new text)

-- the words ask for a job, and the line of the fault that it has on the bytes read was written
pub record WritesInputFault (words : List Text) (input old new : Option (List ℕ)) : Type 0 where
  pub job : Job
  pub asked : Asks words job
  pub wrote : IfSome input
      (λ bytes. (line : List ℕ) × IsFaultLine (meaning_of job) bytes line × Appends old new line)

-- the line where the text of `--input` spells no bytes
abbrev pub hex_line : List ℕ
hex_line = codes "option fault hex" ++ line_end

-- that, or the words ask for a run whose input spells no bytes, and the line of this was written
abbrev pub WritesFault : List Text → Option (List ℕ) → Option (List ℕ) → Option (List ℕ) → Type 0
WritesFault words input old new =
    WritesInputFault words input old new ⊎ (AsksNoInput words × Appends old new hex_line)

-- all that was written before stays as it was, and a text follows it, maybe an empty one
abbrev pub OnlyAppends : Option (List ℕ) → Option (List ℕ) → Type 0
OnlyAppends old new = (text : List ℕ) × Appends old new text
