-- What a run comes to, the lines that say it, and the command `run`, on an image's bytes.
use Rattle.std.specs.Prelude.{◌≡◌, ℕ, zero, suc, Bool, true, false, List, [], ◌∷◌, ◌++◌, Option, Some, None, length, map, slice_get, codes, decimal, ◌⊎◌}
use Rattle.std.specs.FinMap.{empty}
use Rattle.hex.specs.Hex.{encode_lower}
use Rattle.rv_step.specs.declared.outcome.Cause.{Cause}
use Rattle.rv_step.specs.declared.outcome.Cause.TheVariants.{Fetch, Illegal, Break, Load, Store}
use Rattle.rv_step.specs.State.{Hart}
use Rattle.sfi_image.specs.Spelling.{Part}
use Rattle.sfi_report.specs.Listing.{hex_digits, line_end}
use Rattle.sfi_report.specs.State.{IsStateText}
use Rattle.sfi_host.specs.declared.status.Status.{Status}
use Rattle.sfi_host.specs.declared.status.Status.TheVariants.{Ready, Exited, Trapped, Stopped}
use Rattle.sfi_host.specs.declared.turn.Turn.{Turn}
use Rattle.sfi_host.specs.Consoles.{ConsoleState, console, new_console, output_of}
use Rattle.sfi_host.specs.Hosts.{Limited}
use Rattle.sfi_host.specs.Joint.{Machine, IsMachine, Joined, joint}
use Rattle.sfi_host.specs.Loading.{first_seat, with_parts}
use Rattle.sfi_host.specs.Slots.{Slot}
use Rattle.sfi_host.specs.Worlds.{slots_of}
use Rattle.sfi_safety.specs.Clean.{IsAccepted}
use Rattle.sfi_answers.specs.Answers.{Meaning, SaysRefused, on_verdict}
use Rattle.sfi_command.specs.declared.job.RunOptions.{RunOptions}

-- ---- lines

-- the name of a trap's cause
abbrev pub cause_name : Cause → List ℕ
cause_name Fetch = codes "Fetch"
cause_name Illegal = codes "Illegal"
cause_name Break = codes "Break"
cause_name Load = codes "Load"
cause_name Store = codes "Store"

-- what a sandbox may still do: an exit's number is decimal, a trap's address hexadecimal; none that
-- runs under a plan alone is stopped by its host
abbrev pub status_text : Status → List ℕ
status_text Ready = codes "ready"
status_text (Exited n) = codes "exit=" ++ decimal n
status_text (Trapped cause at) = codes "trap=" ++ cause_name cause ++ codes " at=" ++ hex_digits 8 at
status_text Stopped = codes "stopped"

-- the line of sandbox `sandbox`: what it may still do, how many steps it did, and its
-- output in lower hexadecimal digits
abbrev pub run_line : ℕ → Status → ℕ → List ℕ → List ℕ
run_line sandbox status steps output =
    codes "sandbox=" ++ decimal sandbox
    ++ codes " " ++ status_text status
    ++ codes " steps=" ++ decimal steps
    ++ codes " out=" ++ encode_lower output ++ line_end

-- the line of a slot and its output; none where there is no such sandbox
abbrev pub line_of : ℕ → Option Slot → Option (List ℕ) → List ℕ
line_of sandbox None output = []
line_of sandbox (Some slot) None = []
line_of sandbox (Some slot) (Some output) = run_line sandbox slot.status slot.steps output

-- the lines of the first n sandboxes, in order
abbrev pub run_lines : ℕ → List Slot → ConsoleState → List ℕ
run_lines zero slots host = []
run_lines (suc n) slots host =
    run_lines n slots host ++ line_of n (slice_get slots n) (output_of host n)

-- ---- states

-- the text of a sandbox's state after its line: empty for one that has exited, and the state of
-- each other
abbrev pub IsStateUnlessExited : ℕ → Part → Hart → Status → List ℕ → Type 0
IsStateUnlessExited sandbox p h Ready text = IsStateText sandbox p h text
IsStateUnlessExited sandbox p h (Exited n) text = text ≡ []
IsStateUnlessExited sandbox p h (Trapped cause at) text = IsStateText sandbox p h text
IsStateUnlessExited sandbox p h Stopped text = IsStateText sandbox p h text

-- of sandbox `sandbox`, where there is one
abbrev pub IsStateOfSandbox : ℕ → Option Part → Option Slot → List ℕ → Type 0
IsStateOfSandbox sandbox None slot text = text ≡ []
IsStateOfSandbox sandbox (Some p) None text = text ≡ []
IsStateOfSandbox sandbox (Some p) (Some slot) text = IsStateUnlessExited sandbox p slot.hart slot.status text

-- of the first n sandboxes of an image, in order
abbrev pub AreStates : ℕ → List Part → List Slot → List ℕ → Type 0
AreStates zero ps slots text = text ≡ []
AreStates (suc n) ps slots text =
    (front : List ℕ) × (last : List ℕ) × AreStates n ps slots front
    × IsStateOfSandbox n (slice_get ps n) (slice_get slots n) last × (text ≡ front ++ last)

-- ---- the text

-- a line for each sandbox; with a report, the states of those that have not exited follow these
-- lines
abbrev pub IsRunTextOf : Bool → List Part → List Slot → ConsoleState → List ℕ → Type 0
IsRunTextOf false ps slots host text = text ≡ run_lines (length ps) slots host
IsRunTextOf true ps slots host text =
    (states : List ℕ) × AreStates (length ps) ps slots states
    × (text ≡ run_lines (length ps) slots host ++ states)

-- ---- the plan

-- one turn of each of the first n sandboxes, in order
abbrev pub round_of : ℕ → ℕ → List Turn
round_of quantum zero = []
round_of quantum (suc n) = round_of quantum n ++ record { sandbox = n; steps = quantum } ∷ []

-- `rounds` rounds of the first `count` sandboxes
abbrev pub plan_of : ℕ → ℕ → ℕ → List Turn
plan_of zero quantum count = []
plan_of (suc rounds) quantum count = plan_of rounds quantum count ++ round_of quantum count

-- ---- the run

-- the sandboxes of an image before any turn
abbrev pub first_slots : List Part → List Slot
first_slots ps = slots_of (record { bytes = with_parts empty ps; seats = map first_seat ps })

-- the sandboxes and their host, which answers each call, after that plan
abbrev pub run_of : Machine → RunOptions → List Part → Joined (Limited ConsoleState)
run_of machine options ps =
    joint machine console (plan_of options.rounds options.quantum (length ps)) (first_slots ps)
    (new_console (length ps) options.input.items) None

-- the text says what the sandboxes and their outputs are then, with a report or without; what is
-- said holds of the machine, which is one function
abbrev pub IsRunText : RunOptions → List Part → List ℕ → Type 0
IsRunText options ps text =
    (machine : Machine) → IsMachine machine → IsRunTextOf options.report ps
    (run_of machine options ps).slots (run_of machine options ps).host.host text

-- ---- the command

-- the image has no findings: status 0 and the text of a run of its sandboxes, each of which reads
-- the input
pub record SaysRan (options : RunOptions) (bytes : List ℕ) (status : ℕ) (text : List ℕ) : Type 0 where
  pub parts : List Part
  pub accepted : IsAccepted bytes parts
  pub status_is : status ≡ 0
  pub text_is : IsRunText options parts text

-- the text of a run, or the verdict on an image with findings
abbrev pub SaysRun : RunOptions → List ℕ → ℕ → List ℕ → Type 0
SaysRun options bytes status text =
    SaysRan options bytes status text ⊎ SaysRefused false bytes status text

-- `run` with these options: so many rounds of turns of so many steps, where each sandbox reads the
-- input, with a report or without
abbrev pub run : RunOptions → Meaning
run options = on_verdict (SaysRun options)
