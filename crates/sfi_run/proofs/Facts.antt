-- The laws of this crate.
use Rattle.std.proofs.Common.{◌≡◌, arith, inl, inr, None, ap}
use Rattle.std.proofs.lemmas.Option.{same_Some}
use Rattle.sfi_host.proofs.Continuing.{cut_is_shorter}
use Rattle.sfi_host.proofs.Facts.{plans_are_sessions}
use Rattle.sfi_host.specs.Consoles.{console, console_may_refuse}
use Rattle.sfi_host.specs.Hosts.{limited}
use Rattle.sfi_host.specs.Worlds.{slots_of}
use Rattle.sfi_host.specs.declared.turn.Turn.{Turn}
use Rattle.sfi_run.specs.Changes.{plan_of}
use Rattle.sfi_run.specs.Laws.{ConsoleTurnsAreSessions}

pub console_turns_are_sessions : ConsoleTurnsAreSessions
console_turns_are_sessions machine is w n c d sandbox steps sound (inl served) =
    let joint = served.ran machine is in (
      steps,
      omega arith,
      plans_are_sessions machine is (limited console) (plan_of sandbox steps) w n (record { host = c; left = None }) sound
          (record { slots_are = joint.slots; outside = served.still.outside }),
    )
console_turns_are_sessions machine is w n c d sandbox steps sound (inr short) =
    let cut = cut_is_shorter machine console console_may_refuse (plan_of sandbox steps) (slots_of w) (slots_of n) c d 0 (short.cut machine is) in
    let whole : steps ≡ cut.turn.steps = ap (λ (t : Turn). t.steps) (same_Some (record { sandbox = sandbox; steps = steps }) cut.turn cut.turn_is) in (
      cut.steps,
      omega (arith, cut.fewer, whole),
      plans_are_sessions machine is (limited console) (plan_of sandbox cut.steps) w n (record { host = c; left = None }) sound
          (record { slots_are = cut.joint.slots; outside = short.still.outside }),
    )
