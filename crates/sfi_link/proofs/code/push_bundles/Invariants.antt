use Rattle.sfi_link.proofs.Prelude.{drop, slots_of}
use Rattle.sfi_link.proofs.Pushed.{AreLeft}
use Rattle.sfi_link.proofs.code.push_bundles.Given as goal

abbrev pub invariant-loop-bundle : goal.invariant-loop-bundle
invariant-loop-bundle l = AreLeft l.at l.names (slots_of l.bundles) (slots_of (drop l.bundle-index l.bundles)) l.initial.code.items l.code.items
