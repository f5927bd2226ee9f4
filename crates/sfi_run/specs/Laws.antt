-- What holds of the calls for C.
use Rattle.std.specs.Prelude.{◌≡◌, ◌⊎◌, ◌≤◌, ℕ, None}
use Rattle.sfi_host.specs.Consoles.{ConsoleState, console}
use Rattle.sfi_host.specs.Hosts.{limited}
use Rattle.sfi_host.specs.Joint.{Machine, IsMachine}
use Rattle.sfi_host.specs.Sessions.{AreActions, IsSoundWorld, plan_actions}
use Rattle.sfi_host.specs.Worlds.{Sandboxes, slots_of}
use Rattle.sfi_run.specs.Changes.{HasServed, HasRunShort, plan_of}

-- A turn whose calls the console answers is a session: that turn, with the console's replies; or a turn of
-- fewer steps, where the console had no memory for a put.
abbrev pub ConsoleTurnsAreSessions : Type 0
ConsoleTurnsAreSessions =
    (machine : Machine) → IsMachine machine → (w n : Sandboxes) (c d : ConsoleState)
    → (sandbox steps : ℕ) → IsSoundWorld w
    → HasServed w n c d sandbox steps ⊎ HasRunShort w n c d sandbox steps
    → (taken : ℕ) × (taken ≤ steps) × AreActions machine w
    (plan_actions machine (limited console) (plan_of sandbox taken) (slots_of w)
    (record { host = c; left = None })) n
