use Rattle.std.proofs.Common.{◌≡◌, ◌∙◌, sym, ap, true, take, drop, ◌&&◌, ◌∷◌}
use Rattle.std.specs.Str.{bytes_eq}
use Rattle.sfi_names.specs.Rooms.{room_name}
use Rattle.sfi_names.specs.Tables.{magic}
use Rattle.sfi_names.proofs.room.ends_with_room.Goals as goal

pub returns-then-eq : goal.returns-then-eq
returns-then-eq c =
    let last = c.args.last.now in
    let named : bytes_eq (take 6 (drop 4 last)) (5 ∷ room_name) ≡ true =
    sym (ap (bytes_eq (take 6 (drop 4 last))) c.as_slice.ensures) ∙ sym c.eq.ensures ∙ c.if-eq.true in
    let ends = c.eq-then-eq.ensures ∙ ap (bytes_eq (take 4 (drop 22 last))) c.as_slice-then-eq.ensures in
    ends ∙ sym (ap (λ b. b && bytes_eq (take 4 (drop 22 last)) magic) named)
