-- A function of a sandbox, called from outside: a text goes in, and a number and a text come out.
use Rattle.std.specs.Prelude.{ℕ, List, [], ◌∷◌, length, Option, Result, Ok, Err, slice_get}
use Rattle.sfi_host.specs.declared.status.Status.{Status}
use Rattle.sfi_host.specs.declared.status.Status.TheVariants.{Ready, Exited, Trapped, Stopped}
use Rattle.sfi_host.specs.declared.turn.Turn.{Turn}
use Rattle.sfi_host.specs.Changing.{data_bytes_of, with_world_bytes}
use Rattle.sfi_host.specs.Loading.{with_entry, MayEnterAt}
use Rattle.sfi_host.specs.Worlds.{Sandboxes, slots_of}
use Rattle.example_host.specs.declared.function.Function.{Function}
use Rattle.example_host.specs.declared.function.CallError.{CallError}
use Rattle.example_host.specs.declared.function.CallError.TheVariants.{NoRoom, NotEntered, NotReturned, Memory}

-- the n bytes in the place of the function's text; None where there is no such sandbox, or one of
-- their addresses isn't in its data region
abbrev pub text_in : Function → ℕ → Sandboxes → Option (List ℕ)
text_in f n w = data_bytes_of (slice_get (slots_of w) f.sandbox) f.text_address n

-- the function's sandbox may be entered: it has stopped, and a bundle or word of its code begins
-- where the function does
abbrev pub MayEnter : Function → Sandboxes → Type 0
MayEnter f w = MayEnterAt (slots_of w) f.sandbox f.address

-- the world with this text in its place
abbrev pub with_text : Function → List ℕ → Sandboxes → Sandboxes
with_text f text w = with_world_bytes w f.text_address text

-- a0 to a7 of a call: the text's address and its length, and six times 0
abbrev pub arguments : Function → ℕ → List ℕ
arguments f n = f.text_address ∷ n ∷ 0 ∷ 0 ∷ 0 ∷ 0 ∷ 0 ∷ 0 ∷ []

-- the world in which the text is in its place, and the sandbox entered at the function
abbrev pub called : Function → List ℕ → Sandboxes → Sandboxes
called f text w =
    with_entry (with_text f text w) f.sandbox f.address (arguments f (length text))

-- the plan of a call: one turn of its sandbox
abbrev pub plan_of : Function → List Turn
plan_of f = record { sandbox = f.sandbox; steps = f.steps } ∷ []

-- the sandbox's whole turn was taken
abbrev pub HasRun : Result ℕ CallError → Type 0
HasRun (Ok number) = Unit {0}
HasRun (Err (NotReturned status)) = Unit {0}
HasRun (Err NoRoom) = ⊥
HasRun (Err NotEntered) = ⊥
HasRun (Err Memory) = ⊥

-- the error says that the function wasn't begun
abbrev pub IsNotBegun : CallError → Type 0
IsNotBegun NoRoom = Unit {0}
IsNotBegun NotEntered = Unit {0}
IsNotBegun (NotReturned status) = ⊥
IsNotBegun Memory = ⊥

-- the status isn't that of a sandbox which called exit
abbrev pub HasNotExited : Status → Type 0
HasNotExited Ready = Unit {0}
HasNotExited (Exited number) = ⊥
HasNotExited (Trapped cause at) = Unit {0}
HasNotExited Stopped = Unit {0}
