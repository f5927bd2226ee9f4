use Rattle.sfi_rewrite.proofs.Prelude.{false≢true}
use Rattle.sfi_rewrite.proofs.Bundles.{slots_fit}
use Rattle.sfi_rewrite.proofs.bundle.Bundle.push.Goals as goal

pub unreachable-requires : goal.unreachable-requires
unreachable-requires c = false≢true (c.in-Err.ensures.variant.1 (slots_fit c.args.self.now c.args.slots.now c.self.inside.slots.items c.self.view_is c.requires))
