use Rattle.sfi_host.proofs.Prelude.{◌+◌, ◌-◌, is_some, ap, sym, ◌∙◌, arith, replicate, subst, Bytes, range_with_len, span_of}
use Rattle.sfi_host.proofs.Runs.{IsWrittenIn, next_there, read_kept, written_in}
use Rattle.sfi_host.proofs.region.Region.clear_from.Goals as goal

pub clear-requires : goal.clear-requires
clear-requires g c =
    let m = g.M.Memory.bytes c.args.memory.now in
    let s = span_of c.args.self in
    let at = c.args.self.base + c.args.from in
    let n = c.args.self.size - c.args.from in
    let room = c.requires.room in
    let there = next_there s m at n c.requires.whole (omega arith) (omega (arith, room)) in
    ap is_some (sym (read_kept s m at n there)) ∙ there

pub returns : goal.returns
returns g c =
    let m = g.M.Memory.bytes c.args.memory.now in
    let s = span_of c.args.self in
    let at = c.args.self.base + c.args.from in
    let n = c.args.self.size - c.args.from in
    let room = c.requires.room in
    let there = next_there s m at n c.requires.whole (omega arith) (omega (arith, room)) in
    let w = subst (λ (b : Bytes). IsWrittenIn s m b (range_with_len at n) (replicate n 0)) (sym c.clear.ensures) (written_in s m at n (replicate n 0) there) in
    record { cleared = c.clear.ensures; outside = w.outside; whole = w.whole c.requires.whole }
