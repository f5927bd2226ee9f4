-- The command `exec`: the sandboxes of an image run one after another, each to its end, and their
-- put and get are those of a process.
use Rattle.std.specs.Prelude.{◌≡◌, ◌⊎◌, ◌<◌, ◌≤◌, ◌==◌, ◌+◌, ◌%◌, ◌^◌, ℕ, zero, suc, min, Bool, true, false, if◌then◌else◌, List, [], ◌∷◌, ◌++◌, length, take, drop, map, Option, Some, None, IfSome, slice_get, codes, decimal}
use Rattle.std.specs.List.{range_with_len}
use Rattle.std.specs.Io.KnownBytes.{Appends}
use Rattle.rv_mem.specs.Bytes.{with_bytes}
use Rattle.sfi_image.specs.Spelling.{Part}
use Rattle.sfi_report.specs.Listing.{line_end}
use Rattle.sfi_host.specs.declared.status.Status.{Status}
use Rattle.sfi_host.specs.declared.status.Status.TheVariants.{Ready, Exited, Trapped, Stopped}
use Rattle.sfi_host.specs.declared.turn.Turn.{Turn}
use Rattle.sfi_host.specs.Consoles.{ConsoleState, console, failed, handed, new_console, replied, get_service, put_service}
use Rattle.sfi_host.specs.Hosts.{Answer, Call, Replied}
use Rattle.sfi_host.specs.Joint.{Machine, IsMachine}
use Rattle.sfi_host.specs.Plans.{IsJoint}
use Rattle.sfi_host.specs.Slots.{Slot}
use Rattle.sfi_answers.specs.Answers.{GivesImageThat, IsAcceptedImage, Meaning, check, on_image}
use Rattle.sfi_answers.specs.FaultTexts.{IsFaultLine}
use Rattle.sfi_io.specs.Hexadecimal.{WritesPart, limit}
use Rattle.sfi_io.specs.declared.streams.Input.{Input}
use Rattle.sfi_io.specs.declared.streams.Input.TheVariants.{Whole, TooLarge}
use Rattle.sfi_safety.specs.Clean.{IsAccepted}
use Rattle.sfi_tool.specs.declared.execution.Ended.{Ended}
use Rattle.sfi_tool.specs.declared.execution.ExecFault.{ExecFault}
use Rattle.sfi_tool.specs.declared.execution.ExecFault.TheVariants.{NotAccepted, Image, Interrupted}
use Rattle.sfi_tool.specs.declared.serving.Interruption.TheVariants.{Memory, Read, Write}
use Rattle.sfi_tool.specs.Running.{AreStates, first_slots, status_text}

-- ---- the host

-- What the host keeps: the input that is left; the cuts, one for each read to come; what was put;
-- and a console, which answers all but put and get.
pub record Streams : Type 0 where
  pub input : List ℕ
  pub cuts : List ℕ
  pub output : List ℕ
  pub console : ConsoleState

-- how many of n bytes the next read gives at most: one more than the first cut says; with none
-- left, all that is asked for and there
abbrev pub most_of : ℕ → List ℕ → ℕ
most_of n [] = n
most_of n (k ∷ cuts) = min n (suc k)

-- what a get of at most n bytes is given: a piece of the input, which is empty only where n is 0 or
-- nothing of the input is left
abbrev pub piece_of : ℕ → Streams → List ℕ
piece_of n s = take (most_of n s.cuts) s.input

-- what is kept once that was given
abbrev pub after_piece : ℕ → Streams → Streams
after_piece n s = record {
  input = drop (length (piece_of n s)) s.input;
  cuts = drop 1 s.cuts;
  output = s.output;
  console = s.console;
}

-- get: the next piece of the input is written from a0 on, if the bytes at those a1 addresses could
-- be handed over
abbrev pub get_if : Streams → Call → Option (List ℕ) → Answer Streams
get_if s c None = replied c failed s
get_if s c (Some old) = let next = piece_of c.a1 s in record {
  reply = record {
    way = Replied;
    a0 = length next;
    a1 = c.a1;
    bytes = with_bytes c.bytes (range_with_len c.a0 (length next)) next;
  };
  host = after_piece c.a1 s;
}

-- put: the handed bytes go to the end of the output, which may have any length
abbrev pub put_if : Streams → Call → Option (List ℕ) → Answer Streams
put_if s c None = replied c failed s
put_if s c (Some bytes) = replied c c.a1 (record {
  input = s.input;
  cuts = s.cuts;
  output = s.output ++ bytes;
  console = s.console;
})

-- all else: what the console answers
abbrev pub other : Streams → Call → Answer Streams
other s c = let a = console s.console c in record {
  reply = a.reply;
  host = record { input = s.input; cuts = s.cuts; output = s.output; console = a.host };
}

-- the host
abbrev pub streams : Streams → Call → Answer Streams
streams s c =
    if c.service == put_service then put_if s c (handed c)
    else if c.service == get_service then get_if s c (handed c)
    else other s c

-- before any call: nothing is put, and the console has no input of its own
abbrev pub first_streams : List ℕ → List ℕ → ℕ → Streams
first_streams input cuts count =
    record { input = input; cuts = cuts; output = []; console = new_console count [] }

-- ---- the sandboxes

-- a turn of sandbox `i`, of at most n steps
abbrev pub turn_of : ℕ → ℕ → Turn
turn_of i n = record { sandbox = i; steps = n }

-- such turns, one after another
abbrev pub turns_of : ℕ → List ℕ → List Turn
turns_of i ns = map (turn_of i) ns

-- how many steps of its budget a sandbox took: those that are counted, and the one at which it
-- trapped, which isn't
abbrev pub taken_by : Status → ℕ → ℕ
taken_by Ready steps = steps
taken_by (Exited n) steps = steps
taken_by (Trapped cause at) steps = steps + 1
taken_by Stopped steps = steps

abbrev pub taken : Slot → ℕ
taken slot = taken_by slot.status slot.steps

-- Sandbox `i` took turns, and no other did; the host answered each call. It took no more
-- steps than the budget allows, and if it has not stopped, it did all of them.
pub record IsExecuted (machine : Machine) (budget i : ℕ) (old : List Slot) (before : Streams)
    (new : List Slot) (after : Streams) : Type 0 where
  pub turns : List ℕ
  pub joint : IsJoint machine streams (turns_of i turns) old before new after
  pub within : (slot : Slot) → slice_get new i ≡ Some slot → taken slot ≤ budget
  pub ended : (slot : Slot) → slice_get new i ≡ Some slot → slot.status ≡ Ready
      → slot.steps ≡ budget

-- the first n sandboxes did so, one after another
abbrev pub AreExecuted : Machine → ℕ → ℕ → List Slot → Streams → List Slot → Streams → Type 0
AreExecuted machine budget zero old before new after = (new ≡ old) × (after ≡ before)
AreExecuted machine budget (suc n) old before new after =
    (mid : List Slot) × (between : Streams) × AreExecuted machine budget n old before mid between
    × IsExecuted machine budget n mid between new after

-- ---- the status

-- what a sandbox's end comes to: the low 8 bits of its exit's number; or that its budget was used
-- up, or that it trapped (none is stopped by its host here)
abbrev pub end_status : Status → ℕ
end_status Ready = 124
end_status (Exited n) = n % 2 ^ 8
end_status (Trapped cause at) = 126
end_status Stopped = 124

-- the first of two numbers that isn't 0
abbrev pub first_of : ℕ → ℕ → ℕ
first_of m n = if m == 0 then n else m

-- of a slot; 0 where there is none
abbrev pub status_of : Option Slot → ℕ
status_of None = 0
status_of (Some slot) = end_status slot.status

-- the status of the first of n sandboxes whose status isn't 0, or else 0
abbrev pub status_among : ℕ → List Slot → ℕ
status_among zero slots = 0
status_among (suc n) slots = first_of (status_among n slots) (status_of (slice_get slots n))

-- ---- what is said of those that have not exited

-- the line of one: what became of it, and how many steps it did
abbrev pub stop_line : ℕ → Status → ℕ → List ℕ
stop_line sandbox status steps =
    codes "sandbox=" ++ decimal sandbox
    ++ codes " " ++ status_text status ++ codes " steps=" ++ decimal steps ++ line_end

-- no line of one that has exited
abbrev pub line_by : ℕ → Status → ℕ → List ℕ
line_by sandbox Ready steps = stop_line sandbox Ready steps
line_by sandbox (Exited n) steps = []
line_by sandbox (Trapped cause at) steps = stop_line sandbox (Trapped cause at) steps
line_by sandbox Stopped steps = stop_line sandbox Stopped steps

abbrev pub stop_line_of : ℕ → Option Slot → List ℕ
stop_line_of sandbox None = []
stop_line_of sandbox (Some slot) = line_by sandbox slot.status slot.steps

-- the lines of the first n sandboxes, in order
abbrev pub stop_lines : ℕ → List Slot → List ℕ
stop_lines zero slots = []
stop_lines (suc n) slots = stop_lines n slots ++ stop_line_of n (slice_get slots n)

-- these lines, and then the state of each of these sandboxes
abbrev pub IsStopText : List Part → List Slot → List ℕ → Type 0
IsStopText ps slots text =
    (states : List ℕ) × AreStates (length ps) ps slots states
    × (text ≡ stop_lines (length ps) slots ++ states)

-- ---- the command

-- The sandboxes of an image ran so, with some cuts of the input: what is left of the input, what
-- was put, what is said and the status.
pub record HaveExecuted (machine : Machine) (budget : ℕ) (ps : List Part) (input left : List ℕ)
    (written said : List ℕ) (status : ℕ) : Type 0 where
  pub cuts : List ℕ
  pub slots : List Slot
  pub after : Streams
  pub ran : AreExecuted machine budget (length ps) (first_slots ps)
      (first_streams input cuts (length ps)) slots after
  pub left_is : after.input ≡ left
  pub written_is : after.output ≡ written
  pub said_is : IsStopText ps slots said
  pub status_is : status ≡ status_among (length ps) slots

-- what is to be said was written after what the writer held; or, where it isn't told, a beginning of
-- it, and not all
abbrev pub IsTold : Bool → Option (List ℕ) → Option (List ℕ) → List ℕ → Type 0
IsTold true err errs said = Appends err errs said
IsTold false err errs said = WritesPart err errs said

-- this holds of what a reader told before and tells now, if it tells its bytes
abbrev pub IfKnown : Option (List ℕ) → Option (List ℕ) → (List ℕ → List ℕ → Type 0) → Type 0
IfKnown None left holds = Unit {0}
IfKnown (Some input) None holds = ⊥
IfKnown (Some input) (Some left) holds = holds input left

-- The sandboxes of an image ran: what was put was written after what the writer held, and what is
-- said after what the other one held, all of it, or a beginning where it isn't told. Where the reader
-- of the input tells its bytes, they ran so, and it lost what was read by get. What is said of a run
-- holds of the machine, which is one function.
pub record Executes (budget : ℕ) (ps : List Part) (input left out outs err errs : Option (List ℕ))
    (ended : Ended) : Type 0 where
  pub written : List ℕ
  pub said : List ℕ
  pub writes : Appends out outs written
  pub says : IsTold ended.told err errs said
  pub ran : IfKnown input left (λ x y. (machine : Machine) → IsMachine machine
      → HaveExecuted machine budget ps x y written said ended.status)

-- the bytes are an accepted image, of whose parts this holds
abbrev pub IsAcceptedThat : (List Part → Type 0) → List ℕ → Type 0
IsAcceptedThat holds bytes = (ps : List Part) × IsAccepted bytes ps × holds ps

-- the text is an accepted image or spells one, and its sandboxes ran
abbrev pub HasExecuted : ℕ → Option (List ℕ) → Option (List ℕ) → Option (List ℕ)
    → Option (List ℕ) → Option (List ℕ) → Option (List ℕ) → Ended → List ℕ → Type 0
HasExecuted budget input left out outs err errs ended = GivesImageThat
    (IsAcceptedThat (λ ps. Executes budget ps input left out outs err errs ended))

-- this holds of the text that was read, or of each that is too large, where that is all that is known
abbrev pub OfText : Input → (List ℕ → Type 0) → Type 0
OfText (Whole text) holds = holds text.items
OfText TooLarge holds = (text : List ℕ) → limit < length text → holds text

-- ---- what an error leaves

-- the number of a fault
abbrev pub number_of : ExecFault → ℕ
number_of NotAccepted = 1
number_of Image = 2
number_of (Interrupted Memory) = 3
number_of (Interrupted Read) = 4
number_of (Interrupted Write) = 5

-- An execution was begun: of these sandboxes the first `done` were executed, and then the next took
-- turns, within its budget. What was put by then begins with what was written.
pub record IsBegun (machine : Machine) (budget : ℕ) (old : List Slot) (before : Streams)
    (written : List ℕ) : Type 0 where
  pub done : ℕ
  pub mid : List Slot
  pub between : Streams
  pub ran : AreExecuted machine budget done old before mid between
  pub turns : List ℕ
  pub new : List Slot
  pub after : Streams
  pub joint : IsJoint machine streams (turns_of done turns) mid between new after
  pub within : (slot : Slot) → slice_get new done ≡ Some slot → taken slot ≤ budget
  pub rest : List ℕ
  pub output_is : after.output ≡ written ++ rest

-- What was written after what the writer held is a beginning of what the sandboxes of these parts put
-- on this input, with some cuts.
pub record Begins (budget : ℕ) (ps : List Part) (input out outs : Option (List ℕ)) : Type 0 where
  pub written : List ℕ
  pub writes : Appends out outs written
  pub begun : IfSome input (λ x. (machine : Machine) → IsMachine machine → (cuts : List ℕ)
      × IsBegun machine budget (first_slots ps) (first_streams x cuts (length ps)) written)

-- the text is an accepted image or spells one, and what was written is a beginning of what its
-- sandboxes put
abbrev pub HasBegun :
    ℕ → Option (List ℕ) → Option (List ℕ) → Option (List ℕ) → List ℕ → Type 0
HasBegun budget input out outs =
    GivesImageThat (IsAcceptedThat (λ ps. Begins budget ps input out outs))

-- ---- what is said with an error

-- the text is an image that is accepted, or spells one
abbrev pub IsTextAccepted : List ℕ → Type 0
IsTextAccepted = GivesImageThat IsAcceptedImage

-- a command refuses the input by this line: that of the verdict on an image with findings, or that
-- of a fault
abbrev pub IsRefusalLine : Meaning → List ℕ → List ℕ → Type 0
IsRefusalLine command input line = command.says input 1 line ⊎ IsFaultLine command input line

-- What is written to the writer of errors: of what is refused, a line of which `line` holds, or a
-- beginning and not all of it where it can't be written; and of what is accepted, or where memory
-- runs out, nothing: the writer is the `same`. No fault of another kind comes.
abbrev pub Tells : Type 0 → (List ℕ → Type 0) → Type 0 → Option (List ℕ) → Option (List ℕ)
    → ExecFault → Type 0
Tells accepted line same err errs NotAccepted = (l : List ℕ) × line l × Appends err errs l
Tells accepted line same err errs Image = ⊥
Tells accepted line same err errs (Interrupted Memory) = same
Tells accepted line same err errs (Interrupted Read) = accepted × same
Tells accepted line same err errs (Interrupted Write) =
    ((l : List ℕ) × line l × WritesPart err errs l) ⊎ (accepted × same)

-- so it is of a text, which is refused by the line of `check`
abbrev pub TellsOf : Type 0 → Option (List ℕ) → Option (List ℕ) → ExecFault → List ℕ → Type 0
TellsOf same err errs fault text = Tells (IsTextAccepted text)
    (λ line. (¬ IsTextAccepted text) × IsRefusalLine (on_image (check false)) text line) same err errs
    fault
