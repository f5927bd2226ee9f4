use Rattle.sfi_host.proofs.Prelude.{[], ◌∷◌}
use Rattle.sfi_host.proofs.Joined.{joined_are}
use Rattle.sfi_host.proofs.WorldBytes.{moves_to}
use Rattle.sfi_host.proofs.Stops.{have_stopped}
use Rattle.sfi_host.specs.Waiting.{silent}
use Rattle.sfi_host.proofs.Acted.{run_acts}
use Rattle.sfi_host.proofs.world.World.run_to_call.Goals as goal

pub returns-clause-runs : goal.returns-clause-runs
returns-clause-runs g c machine is =
    let ran = c.take_quiet_turn.ensures in
    moves_to joined_are machine is silent (c.args.turn ∷ []) c.args.self.now c.take_quiet_turn.new.self tt c.stays_safe.ensures ran.bounds ran.outside (ran.ran machine is)

pub returns-clause-stops : goal.returns-clause-stops
returns-clause-stops g c = have_stopped c.take_quiet_turn.new.self c.take_quiet_turn.ensures.safe

pub returns-clause-action : goal.returns-clause-action
returns-clause-action g c =
    let ran = c.take_quiet_turn.ensures in
    run_acts c.args.self.now c.take_quiet_turn.new.self c.args.turn.sandbox c.args.turn.steps ran.safe ran.ran ran.outside
