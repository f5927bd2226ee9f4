use Rattle.std.proofs.Common.{◌≡◌, ◌∙◌, ℕ, ◌+◌, ◌-◌, List, ◌++◌, length, take, drop, ap, arith}
use Rattle.std.proofs.lemmas.List.{length-drop}
use Rattle.std.proofs.lemmas.Slice.{take-put_mid, drop-put_mid}
use Rattle.byteorder.specs.Endian.{little_bytes}
use Rattle.sfi_places.proofs.Writing.{has_room, is_written, rest_is, length-rest, borrowed, long}
use Rattle.sfi_places.proofs.numbers.write_number.Goals as goal

pub write_u32-requires : goal.write_u32-requires
write_u32-requires c = long c.args.image.now c.args.offset (has_room c.args.image.now c.args.offset c.requires.0 c.requires.1)

pub returns : goal.returns
returns c = λ n before after e is.
    let bytes = c.args.image.now in
    let offset = c.args.offset in
    let rest = take (length bytes - offset) (drop offset bytes) in
    let room = has_room bytes offset n (record { before = before; after = after; bytes_are = is; offset_is = e }) in
    let len : length c.write_u32.new.buf ≡ length bytes - offset = ap length c.write_u32.ensures ∙ length-rest c.args.value rest (long bytes offset room) ∙ ap length (borrowed bytes offset) ∙ length-drop offset bytes in
    rest_is bytes c.write_u32.new.buf _ offset (offset + (length bytes - offset)) (omega (arith, room))
    (take-put_mid offset (length bytes - offset) bytes c.write_u32.new.buf (offset + (length bytes - offset)) (omega (arith, len)) (omega (arith, room)))
    (drop-put_mid offset (length bytes - offset) bytes c.write_u32.new.buf (offset + (length bytes - offset)) (omega arith) (omega (arith, room)) len)
    ∙ ap (λ (l : List ℕ). take offset bytes ++ l) (c.write_u32.ensures ∙ ap (λ (l : List ℕ). little_bytes 4 c.args.value ++ drop 4 l) (borrowed bytes offset))
    ∙ is_written bytes before after offset n c.args.value e is
