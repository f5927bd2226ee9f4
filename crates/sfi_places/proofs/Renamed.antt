-- A moved sandbox whose table of names is written.
use Rattle.std.proofs.Common.{◌≡◌, ℕ, ◌+◌, ◌-◌, ◌≤◌, List, length, ap, subst, arith}
use Rattle.std.proofs.lemmas.List.{length-map}
use Rattle.sfi_formats.specs.declared.place.Place.{Place}
use Rattle.sfi_image.specs.declared.fields.Fields.{Fields}
use Rattle.sfi_image.specs.Spelling.{Part, fields_of, part}
use Rattle.sfi_image.specs.Parts.{IsImage, IsRightPart}
use Rattle.sfi_image.specs.Keeping.{IsSandboxOf, LiesAt, sandbox_offset}
use Rattle.sfi_image.proofs.Seeking.{length-part}
use Rattle.sfi_places.specs.Moving.{moved, moved_one, moved_gate, AreFirstThere, IsMoved}
use Rattle.sfi_places.specs.private.{IsReplaced, HasRoomThere}
use Rattle.sfi_places.proofs.Naming.{same_size}
use Rattle.sfi_places.proofs.FirstData.{one_there, same_offset, has_room, init_lies, rewritten}
use Rattle.sfi_places.proofs.Moves.{the_one}

-- what is known of the table of names before it is written: its bytes are the last of the first data bytes, and what is due once it is
pub record NamesThere (old mid : List ℕ) (n : ℕ) (p : Part) (to : Place) (f : Fields) (end : ℕ) : Type 0 where
  pub fit : f.init_len ≤ end
  pub lie : LiesAt mid (end - f.init_len) p.init
  pub end_is : end ≡ end - f.init_len + length p.init
  pub room : HasRoomThere f to
  pub moved : (new : List ℕ) → (now : List ℕ) × AreFirstThere f to p.init now × IsReplaced mid new (end - f.init_len) p.init now → IsMoved old n to new

module _ (old mid : List ℕ) (n : ℕ) (p : Part) (h : IsSandboxOf old n p) (to : Place) (image : IsImage mid (moved_one n to h.parts)) (f : Fields) (end : ℕ) (f_is : f ≡ fields_of p)
    (end_is : end ≡ sandbox_offset h.parts n + length (part p)) where
  abbrev other : Part
  other = moved to.code_base to.data_base p

  abbrev at : ℕ
  at = end - f.init_len

  count : f.init_len ≡ length p.init
  count = ap (λ (g : Fields). g.init_len) f_is

  at_is : at + length p.init ≡ sandbox_offset (moved_one n to h.parts) n + length (part other)
  at_is = omega (arith, end_is, count, same_offset n to h.parts, length-part p, length-part other, length-map p.gates (moved_gate p.code_base to.code_base))

  has_init : f.init_len ≤ end
  has_init = omega (arith, end_is, count, length-part p)

  names_lie : LiesAt mid at p.init
  names_lie = init_lies mid (moved_one n to h.parts) n other image (one_there n to h.parts p h.sandbox_is) at at_is

  names_end : end ≡ at + length p.init
  names_end = omega (arith, has_init, count)

  room_there : HasRoomThere f to
  room_there = has_room f to p f_is (the_one IsRightPart n to h.parts p h.sandbox_is image.layout.right.each)

  is_moved : (new : List ℕ) → (now : List ℕ) × AreFirstThere f to p.init now × IsReplaced mid new at p.init now → IsMoved old n to new
  is_moved new w = record {
    sandbox = p;
    was = h;
    first = w.0;
    names = subst (λ (g : Fields). AreFirstThere g to p.init w.0) f_is w.1;
    image = rewritten mid (moved_one n to h.parts) n other image (one_there n to h.parts p h.sandbox_is) at at_is new w.0 (same_size f to p.init w.0 w.1) w.2;
  }

  pub names_there : NamesThere old mid n p to f end
  names_there = record { fit = has_init; lie = names_lie; end_is = names_end; room = room_there; moved = is_moved }
