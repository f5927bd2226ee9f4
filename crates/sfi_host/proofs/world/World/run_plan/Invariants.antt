use Rattle.sfi_host.proofs.Prelude.{◌≡◌, take, Machine, IsMachine, IsJoint, bounds_in, slots_of, IsSafeWorld, StaysOutsideData}
use Rattle.sfi_host.proofs.world.World.run_plan.Given as goal

abbrev pub invariant-loop-place : goal.invariant-loop-place
invariant-loop-place g l = record {
  safe : IsSafeWorld l.self;
  bounds : bounds_in l.self ≡ bounds_in l.fn.self;
  outside : StaysOutsideData l.fn.self l.self.bytes;
  taken : (machine : Machine) → IsMachine machine → IsJoint machine g.G.Gates.answer (take l.place l.plan) (slots_of l.fn.self) l.fn.gates (slots_of l.self) l.gates;
}
