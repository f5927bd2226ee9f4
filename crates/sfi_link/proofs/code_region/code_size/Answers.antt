use Rattle.std.proofs.Common.{arith}
use Rattle.sfi_link.proofs.Linking.{small_size, least_size, no_room}
use Rattle.sfi_link.proofs.code_region.code_size.Goals as goal

pub returns-then-needed-built_code_most-clause-none : goal.returns-then-needed-built_code_most-clause-none
returns-then-needed-built_code_most-clause-none c = λ size h. no_room c.args.format c.args.needed size (omega (arith, c.built_code_most.ensures)) h

pub returns-then-needed-le-REGION_LEAST_BYTES-clause-least : goal.returns-then-needed-le-REGION_LEAST_BYTES-clause-least
returns-then-needed-le-REGION_LEAST_BYTES-clause-least c = small_size c.args.format c.args.needed c.if-needed-le-REGION_LEAST_BYTES.true

pub returns-clause-least : goal.returns-clause-least
returns-clause-least c =
    let power = c.next_power_of_two.ensures.power in
    least_size c.args.format c.args.needed _ power.0 power.1 c.next_power_of_two.ensures.lower_bound c.next_power_of_two.ensures.upper_bound (omega arith) (omega (arith, c.built_code_most.ensures))
