use Rattle.sfi_host.proofs.Prelude.{is_some, length, ap, sym, ◌∙◌, subst, Bytes, range_with_len, span_of}
use Rattle.sfi_host.proofs.Runs.{IsWrittenIn, read_kept, written_in}
use Rattle.sfi_host.proofs.region.Region.write.Goals as goal

pub copy_in-requires : goal.copy_in-requires
copy_in-requires g c =
    let m = g.M.Memory.bytes c.args.memory.now in
    ap is_some (sym (read_kept (span_of c.args.self) m c.args.at (length c.args.bytes.now) c.requires.there)) ∙ c.requires.there

pub returns : goal.returns
returns g c =
    let m = g.M.Memory.bytes c.args.memory.now in
    let all = range_with_len c.args.at (length c.args.bytes.now) in
    let w = subst (λ (n : Bytes). IsWrittenIn (span_of c.args.self) m n all c.args.bytes.now) (sym c.copy_in.ensures) (written_in (span_of c.args.self) m c.args.at (length c.args.bytes.now) c.args.bytes.now c.requires.there) in
    record { written = c.copy_in.ensures; inside = w.inside; outside = w.outside; whole = w.whole }
