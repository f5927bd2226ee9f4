use Rattle.sfi_host.proofs.Prelude.{is_some, length, ap, refl, sym, ◌∙◌, span_of}
use Rattle.sfi_host.proofs.Runs.{read_kept}
use Rattle.sfi_host.proofs.region.Region.read.Goals as goal

pub copy_out-requires : goal.copy_out-requires
copy_out-requires g c =
    let m = g.M.Memory.bytes c.args.memory.now in
    let there = (c.if-not-covers.ensures.there m c.requires.whole).0 refl in
    ap is_some (sym (read_kept (span_of c.args.self) m c.args.at (length c.args.bytes.now) there)) ∙ there

pub returns-clause-done : goal.returns-clause-done
returns-clause-done g c =
    let m = g.M.Memory.bytes c.args.memory.now in
    read_kept (span_of c.args.self) m c.args.at (length c.args.bytes.now) ((c.if-not-covers.ensures.there m c.requires.whole).0 refl) ∙ c.copy_out.ensures
