use Rattle.sfi_host.proofs.Prelude.{◌≤◌, ◌-◌}
use Rattle.sfi_host.specs.private.Copying.{CopiesRegion}
use Rattle.sfi_host.proofs.copying.copy_region.Given as goal

-- the region's first bytes are copied
abbrev pub invariant-loop-done : goal.invariant-loop-done
invariant-loop-done g l = record {
  most : l.done ≤ l.region.size;
  copied : CopiesRegion (record { base = l.region.base; size = l.done }) (g.M.Memory.bytes l.from) (g.M.Memory.bytes l.fn.to) (g.M.Memory.bytes l.to);
}

abbrev pub decreases-loop-done : goal.decreases-loop-done
decreases-loop-done g l = l.region.size - l.done
