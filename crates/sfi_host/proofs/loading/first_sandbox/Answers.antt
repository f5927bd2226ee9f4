use Rattle.std.proofs.Common.{arith}
use Rattle.sfi_host.proofs.loading.first_sandbox.Goals as goal

pub fresh_cpu-requires : goal.fresh_cpu-requires
fresh_cpu-requires c =
    let right = c.requires in
    let code = right.code_placed.at_least in
    let data_least = right.data_placed.at_least in
    let above = right.guard_room.above in
    let aligned = right.start.aligned in
    record { even = omega arith; code_size = omega arith; data_size = omega arith; data_end = omega arith }
