use Rattle.rv_step.specs.State.{State}
use Rattle.rv_step.proofs.Standing.{no_parcel, told, cut_short, both}
use Rattle.rv_step.proofs.fetch.fetch.Goals as goal

pub returns-in_default : goal.returns-in_default
returns-in_default g c =
    let s : State = record { hart = c.args.cpu.now; memory = g.M.Memory.bytes c.args.memory.now } in
    no_parcel s (rw c.pc-pc.ensures.value at c.in_default.ensures.value)

pub returns-in_default-first : goal.returns-in_default-first
returns-in_default-first g c =
    let s : State = record { hart = c.args.cpu.now; memory = g.M.Memory.bytes c.args.memory.now } in
    told s c.in-Some.low c.read_front-first.result (g.met.M.Memory.in_range c.args.memory.now)
    (rw c.pc-pc.ensures.value at c.in-Some.ensures.value) (rw c.to_le_bytes.ensures at c.read_front-first.ensures.front) c.in_default-first.not-Short

pub returns-in_default-fetch16 : goal.returns-in_default-fetch16
returns-in_default-fetch16 g c =
    let s : State = record { hart = c.args.cpu.now; memory = g.M.Memory.bytes c.args.memory.now } in
    cut_short s c.in-Some.low c.read_front-first.result (g.met.M.Memory.in_range c.args.memory.now)
    (rw c.pc-pc.ensures.value at c.in-Some.ensures.value) c.in-Short.is (rw c.to_le_bytes.ensures at c.read_front-first.ensures.front)
    (rw c.pc-pc.ensures.value at c.in_default-fetch16.ensures.value)

pub returns : goal.returns
returns g c =
    let s : State = record { hart = c.args.cpu.now; memory = g.M.Memory.bytes c.args.memory.now } in
    both s c.in-Some.low c.in-Some-fetch16.high c.read_front.result (g.met.M.Memory.in_range c.args.memory.now)
    (rw c.pc-pc.ensures.value at c.in-Some.ensures.value) (rw c.pc-pc.ensures.value at c.in-Some-fetch16.ensures.value)
    (rw (c.to_le_bytes.ensures, c.to_le_bytes-2.ensures) at c.read_front.ensures.front)
