use Rattle.sfi_host.proofs.Prelude.{◌++◌, ◌∷◌, [], is_some, ap, sym, ◌∙◌, append_assoc, arith, asked}
use Rattle.sfi_host.proofs.Runs.{each_there, bytes_more}
use Rattle.sfi_host.proofs.handover.append.Goals as goal

pub unwrap-requires : goal.unwrap-requires
unwrap-requires g c =
    ap is_some c.byte.ensures.value ∙ each_there (asked g.M.Memory.bytes c.args.guest.now).bytes c.args.at c.args.count c.loop-k.k c.requires.there c.loop-k-test.true

pub loop-k-preserved : goal.loop-k-preserved
loop-k-preserved g c =
    let i = c.loop-k.invariant in
    let longer = c.in_ok-push.ensures.items in
    let len = c.in_ok-push.ensures.len in
    record {
      done = i.done ++ c.unwrap.result ∷ [];
      read = bytes_more (asked g.M.Memory.bytes c.args.guest.now).bytes c.args.at c.loop-k.k c.unwrap.result i.done i.read (sym c.byte.ensures.value ∙ c.unwrap.ensures);
      appended = longer ∙ ap (λ xs. xs ++ c.unwrap.result ∷ []) i.appended ∙ append_assoc c.args.output.now.items i.done (c.unwrap.result ∷ []);
      room = omega (arith, len, c.in_ok-push.ensures.capacity, i.room);
    }
