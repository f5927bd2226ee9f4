-- The room is what the last import of a table stands for.
use Rattle.std.proofs.Common.{◌≡◌, ◌∙◌, ◌+◌, ◌-◌, ap, subst, refl, arith, false, suc, ℕ, List, [], ◌∷◌, ◌++◌, length, nat_lt, append_assoc}
use Rattle.std.proofs.lemmas.Bool.{le-ltb}
use Rattle.std.proofs.lemmas.Grind.{flat_map-append}
use Rattle.std.proofs.lemmas.List.{length-append, append-nil}
use Rattle.std.proofs.lemmas.Nat.{from_le_bytes-to_le_bytes_4}
use Rattle.std.proofs.Math.Seq.{drop-append_seam}
use Rattle.std.specs.List.{All}
use Rattle.sfi_image.specs.Spelling.{IsWord}
unfoldable use Rattle.sfi_image.specs.Spelling.{number}
use Rattle.sfi_names.specs.Tables.{Named, Table, magic, entries, IsNamed}
unfoldable use Rattle.sfi_names.specs.Tables.{entry, footer, spelling}
use Rattle.sfi_names.specs.Rooms.{room_name, room_in}
unfoldable use Rattle.sfi_names.specs.Rooms.{room_of}
use Rattle.sfi_names.specs.Laws.{RoomIsLastImport}

-- the last 26 bytes of a table with a room of `a` bytes
abbrev last_of : ℕ → ℕ → ℕ → ℕ → List ℕ
last_of a v x y = number a ++ (length room_name ∷ room_name ++ ((number v ++ (number x ++ number y)) ++ magic))

room_is : (a v x y : ℕ) → IsWord a → room_in (last_of a v x y) ≡ a
unfolding number
room_is a v x y word = from_le_bytes-to_le_bytes_4 a word

last_length : (a v x y : ℕ) → length (last_of a v x y) ≡ 26
unfolding number
last_length a v x y = refl

-- 26 bytes at the end are what is looked at
room_at : (p last : List ℕ) → length last ≡ 26 → room_of (p ++ last) ≡ room_in last
unfolding room_of
room_at p last is =
    let size : length (p ++ last) ≡ length p + 26 = length-append p last ∙ ap (λ n. length p + n) is in
    let less : length p + 26 - 26 ≡ length p = omega arith in
    let more : nat_lt (length p + 26) 26 ≡ false = le-ltb (length p + 26) 26 (omega arith) in
    rw (size, more, less, drop-append_seam p last) refl

-- they end the spelling of the table
ends : (t : Table) (es : List Named) (e : Named) (b : List ℕ) → t.imports ≡ es ++ e ∷ [] → e.name ≡ room_name
    → b ++ spelling t ≡ (b ++ (entries t.exports ++ entries es)) ++ last_of e.address t.version (length (entries t.exports)) (length (entries t.imports))
unfolding spelling footer entry
ends t es e b is name =
    let all : entries t.imports ≡ entries es ++ (number e.address ++ (length room_name ∷ room_name)) =
    ap entries is ∙ flat_map-append entry es (e ∷ []) ∙ ap (λ l. entries es ++ l) (append-nil (entry e) ∙ ap (λ n. number e.address ++ (length n ∷ n)) name) in
    ap (λ l. b ++ (entries t.exports ++ (l ++ (footer t ++ magic)))) all ∙ simp append_assoc

last_named : (es : List Named) (e : Named) → All IsNamed (es ++ e ∷ []) → IsNamed e
last_named [] e all = all 0 e (omega arith)
last_named (x ∷ es) e all = last_named es e (λ k d less. all (suc k) d (omega arith))

pub room_is_last_import : RoomIsLastImport
room_is_last_import bytes t es e has is name =
    let word : IsWord e.address = (last_named es e (subst (All IsNamed) is has.table.imports)).address in
    let x = length (entries t.exports) in
    let y = length (entries t.imports) in
    ap room_of (has.ends.1 ∙ ends t es e has.ends.0 is name)
    ∙ room_at (has.ends.0 ++ (entries t.exports ++ entries es)) (last_of e.address t.version x y) (last_length e.address t.version x y)
    ∙ room_is e.address t.version x y word
