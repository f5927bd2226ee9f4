use Rattle.std.proofs.Common.{◌∙◌, ap}
use Rattle.byteorder.specs.Endian.{little_number}
use Rattle.sfi_places.proofs.Writing.{has_room, is_read, borrowed, long}
use Rattle.sfi_places.proofs.numbers.read_number.Goals as goal

pub read_u32-requires : goal.read_u32-requires
read_u32-requires c = long c.args.image.now c.args.offset (has_room c.args.image.now c.args.offset c.requires.0 c.requires.2)

pub returns : goal.returns
returns c = λ n word lies.
    is_read c.args.image.now lies.before lies.after c.args.offset n c.read_u32.result word lies.offset_is lies.bytes_are (c.read_u32.ensures ∙ ap (little_number 4) (borrowed c.args.image.now c.args.offset))
