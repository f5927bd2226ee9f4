use Rattle.sfi_host.proofs.Prelude.{ap, ◌∙◌, is_some, drop, length, range_with_len, bytes_at, asked}
use Rattle.sfi_host.proofs.Runs.{fewer_there, few}
use Rattle.sfi_host.proofs.session.Session.get.Goals as goal

pub put_bytes-requires-clause-there : goal.put_bytes-requires-clause-there
put_bytes-requires-clause-there g c =
    let call = asked g.M.Memory.bytes c.args.guest.now in
    let next = c.next_bytes-next.result.now in
    let less = few c.arg1.result call.a1 (drop c.self.inside.input_read c.args.input.now) next c.next_bytes-next.ensures c.arg1.ensures in
    ap (λ a. is_some (bytes_at call.bytes (range_with_len a (length next)))) c.arg0.ensures
    ∙ fewer_there call.bytes call.a0 call.a1 (length next) c.if-not-may_hand.ensures.there less
