use Rattle.sfi_host.proofs.Prelude.{◌≡◌, true, ◌∙◌, span_of, is_in}
use Rattle.sfi_host.proofs.RegionBytes.{byte_out, load_kept, whole_there}
use Rattle.sfi_host.proofs.region.Region.byte.Goals as goal

pub returns-then-not-holds-clause-value : goal.returns-then-not-holds-clause-value
returns-then-not-holds-clause-value g c = byte_out (span_of c.args.self) (g.M.Memory.bytes c.args.memory.now) c.args.at (cc)

pub returns-in_err-byte : goal.returns-in_err-byte
returns-in_err-byte g c =
    let m = g.M.Memory.bytes c.args.memory.now in
    let within : is_in (span_of c.args.self) c.args.at ≡ true = cc in
    let value = c.from_residual.ensures ∙ load_kept (span_of c.args.self) m c.args.at _ within c.ranges.at.fits c.in_err-byte.ensures.value in
    record { value = value; there = whole_there (span_of c.args.self) m c.args.at c.from_residual.result value }

pub returns-clause-value : goal.returns-clause-value
returns-clause-value g c =
    let within : is_in (span_of c.args.self) c.args.at ≡ true = cc in
    load_kept (span_of c.args.self) (g.M.Memory.bytes c.args.memory.now) c.args.at _ within c.ranges.at.fits c.in_ok-byte.ensures.value
