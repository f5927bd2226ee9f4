use Rattle.sfi_host.proofs.Turns.{turn_steps_are_bounded, waits_through_turns, plans_stop_none}
use Rattle.sfi_host.proofs.laws.turns_are_bounded.Goals as goal

pub returns : goal.returns
returns g c = record { bounded = turn_steps_are_bounded; waits = waits_through_turns; stops_none = plans_stop_none }
