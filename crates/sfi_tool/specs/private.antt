-- Words that private contracts and proofs alone cite: no public statement rests on them.
use Rattle.std.specs.Prelude.{◌≡◌, ◌≢◌, ◌⊎◌, ◌<◌, ◌≤◌, ◌-◌, ◌%◌, ◌^◌, ◌++◌, ℕ, List, [], Option, Some, None, IfOk, IfSome, Result, if◌then◌else◌, length, nat_le, slice_get, slice_set}
use Rattle.std.specs.Io.KnownBytes.{Consumes, IsAtEnd, Appends}
use Rattle.std.specs.List.{range_with_len}
use Rattle.sfi_command.specs.declared.job.Job.{Job}
use Rattle.sfi_answers.specs.FaultTexts.{IsFaultLine}
use Rattle.sfi_answers.specs.declared.verdict.Answer.{Answer as Answered}
use Rattle.sfi_io.specs.declared.streams.ReadStop.{ReadStop}
use Rattle.sfi_tool.specs.Says.{OnlyAppends, Says, meaning_of}
use Rattle.sfi_host.specs.Consoles.{ConsoleState, console, most_handed}
use Rattle.sfi_host.specs.Joint.{Machine, IsMachine, call_of, replied}
use Rattle.sfi_host.specs.Plans.{IsJoint}
use Rattle.sfi_host.specs.Changing.{data_bytes_of}
use Rattle.sfi_host.specs.Hosts.{data_from, Answer, Call, Replied, Reply}
use Rattle.rv_mem.specs.Bytes.{Bytes, with_bytes}
use Rattle.sfi_tool.specs.declared.piece.Piece.{Piece}
use Rattle.sfi_host.specs.Slots.{Slot}
use Rattle.sfi_host.specs.Waiting.{Waits, later_reply}
use Rattle.sfi_host.specs.declared.guest.Request.{Request}
use Rattle.sfi_host.specs.declared.status.Status.{Status}
use Rattle.sfi_host.specs.declared.status.Status.TheVariants.{Ready, Exited, Trapped, Stopped}
use Rattle.sfi_tool.specs.Executing.{AreExecuted, IfKnown, IsBegun, Streams, streams, taken, turns_of}
use Rattle.sfi_tool.specs.Running.{plan_of}

-- the answer to the job, if there is one, is right of the input, where that is known
pub record IsAnswered (job : Job) (input : Option (List ℕ)) (answered : Result Answered ReadStop) : Type 0 where
  pub says : IfOk answered (λ a. a.status < 2
      → IfSome input (λ bytes. Says job bytes a.status a.output.items))
  pub line : IfOk answered (λ a. a.status ≡ 2
      → IfSome input (λ bytes. IsFaultLine (meaning_of job) bytes a.output.items))

-- the status of a job's run on what its reader told, and what its writer holds then
pub record Runs (job : Job) (input old new : Option (List ℕ)) (status : ℕ) : Type 0 where
  pub statuses : status ≤ 5
  pub says : status < 2
      → IfSome input (λ bytes. (text : List ℕ) × Says job bytes status text × Appends old new text)
  pub line : status ≡ 2 → IfSome input
      (λ bytes. (text : List ℕ) × IsFaultLine (meaning_of job) bytes text × Appends old new text)
  pub usage : status ≢ 3
  pub appends : OnlyAppends old new

-- sandboxes and console after `rounds` rounds, in each of which the first `count` sandboxes take a
-- turn of `quantum` steps
abbrev pub AreTaken : ℕ → ℕ → ℕ → List Slot → ConsoleState → List Slot → ConsoleState → Type 0
AreTaken rounds quantum count old before new after =
    (machine : Machine) → IsMachine machine
    → IsJoint machine console (plan_of rounds quantum count) old before new after

-- ---- sandboxes whose put and get are those of a process

-- what a call of put or get hands over; None where it is refused
abbrev pub handed_by : List Slot → Request → Option (List ℕ)
handed_by slots q =
    if nat_le q.a1 most_handed then data_bytes_of (slice_get slots q.sandbox) q.a0 q.a1 else None

-- the sandbox has this a0, and goes on after its call
abbrev pub GoesOnWith : Request → ℕ → List Slot → List Slot → Type 0
GoesOnWith q a0 old new =
    (slot : Slot) → slice_get old q.sandbox ≡ Some slot
    → new ≡ slice_set old q.sandbox
    (replied slot (later_reply (record { a0 = a0; a1 = q.a1; exit = None }) (call_of q.sandbox slot)))

-- a host answered the call of a sandbox
abbrev pub IsAnsweredBy : {S : Type 0} → (S → Call → Answer S) → Request → List Slot → S → List Slot
    → S → Type 0
IsAnsweredBy answer q old before new after =
    (slot : Slot) → slice_get old q.sandbox ≡ Some slot
    → let a = answer before (call_of q.sandbox slot) in
    (new ≡ slice_set old q.sandbox (replied slot a.reply)) × (after ≡ a.host)

-- a call is answered by the length of a piece, which is written from a0 on, if it has room there
abbrev pub piece_bytes : Call → List ℕ → Option (List ℕ) → Bytes
piece_bytes c piece None = c.bytes
piece_bytes c piece (Some old) = with_bytes c.bytes (range_with_len c.a0 (length piece)) piece

abbrev pub piece_answer : Piece → Call → Answer Piece
piece_answer p c = record {
  reply = record {
    way = Replied;
    a0 = length p.bytes.now % 2 ^ 32;
    a1 = c.a1;
    bytes = piece_bytes c p.bytes.now (data_from c c.a0 (length p.bytes.now));
  };
  host = p;
}

-- what was read for a get of at most n bytes: none only where n is 0 or nothing was left
pub record IsPiece (n : ℕ) (input left : Option (List ℕ)) (piece : List ℕ) : Type 0 where
  pub consumes : Consumes input left piece
  pub few : length piece ≤ n
  pub none : length piece ≡ 0 → (n ≡ 0) ⊎ IsAtEnd left

-- what the host keeps
abbrev pub kept : List ℕ → List ℕ → List ℕ → ConsoleState → Streams
kept input cuts output c = record { input = input; cuts = cuts; output = output; console = c }

-- turns of sandbox `i` alone lead from there to there
pub record TakesTurns (machine : Machine) (i : ℕ) (old : List Slot) (before : Streams) (new : List Slot)
    (after : Streams) : Type 0 where
  pub turns : List ℕ
  pub joint : IsJoint machine streams (turns_of i turns) old before new after

-- So they do, and reads cut the input as they did, whatever the later ones do, and after whatever
-- was put before.
pub record IsStreamed (machine : Machine) (i : ℕ) (old : List Slot) (c : ConsoleState)
    (new : List Slot) (d : ConsoleState) (written input left : List ℕ) : Type 0 where
  pub cuts : List ℕ
  pub turns : (rest out : List ℕ) → TakesTurns machine i old (kept input (cuts ++ rest) out c)
      new (kept left rest (out ++ written) d)

-- such turns, where the reader tells its bytes; what was put was written
pub record Streamed (i : ℕ) (old : List Slot) (c : ConsoleState) (new : List Slot) (d : ConsoleState)
    (input left out outs : Option (List ℕ)) : Type 0 where
  pub written : List ℕ
  pub writes : Appends out outs written
  pub ran : IfKnown input left (λ x y. (machine : Machine) → IsMachine machine
      → IsStreamed machine i old c new d written x y)

-- a step in which sandbox `i` got a reply
pub record IsReplyTo (i : ℕ) (old new : List Slot) : Type 0 where
  pub slot : Slot
  pub there : slice_get old i ≡ Some slot
  pub reply : Reply
  pub slots : new ≡ slice_set old i (replied slot reply)

-- a call of sandbox `i` was answered
pub record IsServed (i : ℕ) (old : List Slot) (c : ConsoleState) (new : List Slot) (d : ConsoleState)
    (input left out outs : Option (List ℕ)) : Type 0 where
  pub replies : IsReplyTo i old new
  pub streamed : Streamed i old c new d input left out outs

-- how many steps a sandbox may still do
abbrev pub left_by : ℕ → Status → ℕ → ℕ
left_by budget Ready steps = budget - steps
left_by budget (Exited n) steps = 0
left_by budget (Trapped cause at) steps = 0
left_by budget Stopped steps = 0

abbrev pub left_of : ℕ → Option Slot → ℕ
left_of budget None = 0
left_of budget (Some slot) = left_by budget slot.status slot.steps

-- sandbox `i` has fewer steps left than before, if it had any
abbrev pub HasLess : ℕ → ℕ → List Slot → List Slot → Type 0
HasLess budget i old new = left_of budget (slice_get old i) ≢ 0
    → left_of budget (slice_get new i) < left_of budget (slice_get old i)

-- what was asked by sandbox `sandbox`, which waits and may still do a step
pub record IsAsked (budget sandbox : ℕ) (slots : List Slot) (q : Request) : Type 0 where
  pub by : q.sandbox ≡ sandbox
  pub waits : Waits slots q.sandbox q
  pub left : left_of budget (slice_get slots sandbox) ≢ 0

-- A call of sandbox `i` wasn't answered in the end: what was written is a beginning of what the
-- answer puts, after which the sandboxes are these, or nothing.
pub record IsCut (i : ℕ) (old : List Slot) (c : ConsoleState) (out outs : Option (List ℕ))
    : Type 0 where
  pub new : List Slot
  pub written : List ℕ
  pub rest : List ℕ
  pub writes : Appends out outs written
  pub replies : (new ≡ old) ⊎ IsReplyTo i old new
  pub ran : (x : List ℕ) (machine : Machine) → IsMachine machine
      → IsStreamed machine i old c new c (written ++ rest) x x

-- no sandbox took more steps than the budget allows
abbrev pub AreWithin : ℕ → List Slot → Type 0
AreWithin budget slots =
    (i : ℕ) (slot : Slot) → slice_get slots i ≡ Some slot → taken slot ≤ budget

-- Turns of sandbox `i` alone, within its budget, where the reader tells its bytes: what was written
-- is a beginning of what they put.
pub record IsCutTurn (budget i : ℕ) (old : List Slot) (c : ConsoleState)
    (input out outs : Option (List ℕ)) : Type 0 where
  pub new : List Slot
  pub d : ConsoleState
  pub written : List ℕ
  pub rest : List ℕ
  pub writes : Appends out outs written
  pub within : AreWithin budget new
  pub ran : IfSome input (λ x. (y : List ℕ) × ((machine : Machine) → IsMachine machine
      → IsStreamed machine i old c new d (written ++ rest) x y))

-- what was written is a beginning of what these sandboxes put, one after another
pub record AreCut (budget : ℕ) (old : List Slot) (c : ConsoleState)
    (input out outs : Option (List ℕ)) : Type 0 where
  pub written : List ℕ
  pub writes : Appends out outs written
  pub begun : IfSome input (λ x. (machine : Machine) → IsMachine machine → (cuts : List ℕ)
      × IsBegun machine budget old (kept x cuts [] c) written)

-- the first n sandboxes, where the reader tells its bytes
pub record AreStreamed (budget n : ℕ) (old : List Slot) (c : ConsoleState) (new : List Slot)
    (d : ConsoleState) (input left out outs : Option (List ℕ)) : Type 0 where
  pub written : List ℕ
  pub writes : Appends out outs written
  pub ran : IfKnown input left (λ x y. (machine : Machine) → IsMachine machine
      → (cuts : List ℕ) × ((rest put : List ℕ) → AreExecuted machine budget n old
      (kept x (cuts ++ rest) put c) new (kept y rest (put ++ written) d)))
