use Rattle.sfi_host.proofs.Prelude.{◌↔◌, IsTrue, Bool, Contains, subst, sym}
use Rattle.sfi_host.proofs.UpToStop.{among}
use Rattle.sfi_host.proofs.until.is_stop.Goals as goal

pub returns : goal.returns
returns c = subst (λ (t : Bool). IsTrue t ↔ Contains c.args.stops.now c.args.pc) (sym c.contains.ensures.value) (among c.args.stops.now c.args.pc)
