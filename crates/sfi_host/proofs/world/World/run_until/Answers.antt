use Rattle.sfi_host.proofs.Prelude.{[], ◌∷◌}
use Rattle.sfi_host.proofs.Joined.{joined_are}
use Rattle.sfi_host.proofs.WorldBytes.{moves_to}
use Rattle.sfi_host.proofs.Stops.{have_stopped}
use Rattle.sfi_host.specs.Waiting.{turn_of, silent}
use Rattle.sfi_host.proofs.Acted.{run_acts}
use Rattle.sfi_host.proofs.world.World.run_until.Goals as goal

pub returns-clause-ran : goal.returns-clause-ran
returns-clause-ran g c =
    let ran = c.take_turn_until.ensures in
    record {
      count = ran.until.0;
      is = ran.until.1;
      runs = λ machine is. moves_to joined_are machine is silent (turn_of c.args.turn.sandbox ran.until.0 ∷ []) c.args.self.now c.take_turn_until.new.self tt c.stays_safe.ensures ran.bounds ran.outside (ran.until.1.ran machine is);
    }

pub returns-clause-stops : goal.returns-clause-stops
returns-clause-stops g c = have_stopped c.take_turn_until.new.self c.take_turn_until.ensures.safe

pub returns-clause-action : goal.returns-clause-action
returns-clause-action g c =
    let ran = c.take_turn_until.ensures in
    (ran.until.0, run_acts c.args.self.now c.take_turn_until.new.self c.args.turn.sandbox ran.until.0 ran.safe ran.until.1.ran ran.outside)
