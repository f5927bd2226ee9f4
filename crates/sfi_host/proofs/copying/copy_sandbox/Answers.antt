use Rattle.sfi_host.proofs.Prelude.{seat_of}
use Rattle.sfi_host.proofs.Copied.{code_whole, code_end}
use Rattle.sfi_host.proofs.AfterCalls.{whole_in}
use Rattle.sfi_host.proofs.copying.copy_sandbox.Goals as goal

pub copy_region-requires-clause-whole : goal.copy_region-requires-clause-whole
copy_region-requires-clause-whole g c =
    let m = g.M.Memory.bytes c.args.from.now in
    let s = seat_of c.args.sandbox.now in
    whole_in s.bounds.code m (code_whole m s c.requires)

pub copy_region-requires-clause-end : goal.copy_region-requires-clause-end
copy_region-requires-clause-end g c = code_end (g.M.Memory.bytes c.args.from.now) (seat_of c.args.sandbox.now) c.requires

pub copy_region-requires-2-clause-whole : goal.copy_region-requires-2-clause-whole
copy_region-requires-2-clause-whole g c =
    let m = g.M.Memory.bytes c.args.from.now in
    let s = seat_of c.args.sandbox.now in
    whole_in s.bounds.data m c.requires.has_data
