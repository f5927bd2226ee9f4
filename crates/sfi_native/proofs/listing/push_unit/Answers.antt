use Rattle.sfi_native.proofs.Listed.{whole_unit}
use Rattle.std.proofs.lemmas.Result.{on_ok_weaker}
use Rattle.sfi_native.proofs.listing.push_unit.Goals as goal

pub returns : goal.returns
returns c =
    on_ok_weaker c.push_reading.result
    (λ h. whole_unit c.args.sandbox c.args.offset c.args.at c.args.bytes.now c.args.out.now.items c.push_function.new.out.items c.push_head.new.out.items c.push_reading.new.out.items
    c.in_ok-push_function.ensures c.in_ok-push_head.ensures h)
    c.push_reading.ensures
