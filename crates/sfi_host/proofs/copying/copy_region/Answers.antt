use Rattle.sfi_host.proofs.Prelude.{◌+◌, arith, span_of}
use Rattle.sfi_host.proofs.AfterCalls.{whole_in, whole_of}
use Rattle.sfi_host.proofs.copying.copy_region.Goals as goal

pub copy_piece-requires-clause-whole : goal.copy_piece-requires-clause-whole
copy_piece-requires-clause-whole g c =
    let m = g.M.Memory.bytes c.args.from.now in
    whole_in (record { base = c.args.region.base + c.loop-done.done; size = c.min.result }) m
    (λ a h. whole_of (span_of c.args.region) m c.requires.whole a (omega (arith, h.0), omega (arith, h.1, c.min.ensures, c.loop-done-test.true)))
