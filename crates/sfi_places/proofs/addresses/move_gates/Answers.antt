use Rattle.std.proofs.Common.{◌<◌, length, arith}
use Rattle.sfi_places.proofs.Writing.{among, next_lies, goes, one_more}
use Rattle.sfi_places.proofs.addresses.move_gates.Goals as goal

pub write_address-requires : goal.write_address-requires
write_address-requires c =
    let gs = c.requires.0 in
    let len = c.requires.1 in
    let lt : c.loop-i.i < length gs = omega (arith, c.loop-i-test.true, len) in (
      (among gs c.loop-i.i lt).here.address,
      goes c.args.from c.args.to gs c.loop-i.i lt c.requires.2,
      next_lies c.args.from c.args.to gs c.loop-i.i lt c.args.image.now c.loop-i.image c.args.offset c.requires.3 (c.loop-i.invariant gs len c.requires.2),
    )

pub loop-i-preserved : goal.loop-i-preserved
loop-i-preserved c = λ gs len go.
    one_more c.args.from c.args.to gs c.loop-i.i (omega (arith, c.loop-i-test.true, len)) c.args.image.now c.loop-i.image c.write_address.new.image c.args.offset go (c.loop-i.invariant gs len go) c.write_address.ensures
