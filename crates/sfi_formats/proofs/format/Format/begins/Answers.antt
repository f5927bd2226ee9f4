use Rattle.std.proofs.Common.{◌≡◌, ◌≤◌, ◌<◌, ℕ, List, take, length, sym, ap, ◌∙◌, eqb, arith, refl}
use Rattle.std.proofs.lemmas.Slice.Eq.{slice_eq-Decides}
use Rattle.std.proofs.lemmas.Bool.Decides.{Decides-eqb}
use Rattle.std.proofs.lemmas.Bool.{leb-true}
use Rattle.sfi_formats.specs.Formats.{magic}
use Rattle.sfi_formats.proofs.Formats.{length_of_magic}
use Rattle.sfi_formats.proofs.format.Format.begins.Goals as goal

pub returns-then-bytes-ge4 : goal.returns-then-bytes-ge4
returns-then-bytes-ge4 c =
    let same = slice_eq-Decides {E = eqb} Decides-eqb _ c.as_slice.result.now c.eq.result c.eq.ensures in
    let bytes : c.as_slice.result.now ≡ magic c.args.self = c.as_slice.ensures ∙ c.magic.ensures in
    (λ t. same.0 t ∙ bytes, λ e. same.1 (e ∙ sym bytes))

too_short : (n : ℕ) (l m : List ℕ) → n < 4 → length l ≡ n → take 4 l ≡ m → length m ≡ 4 → ⊥
too_short n l m few count e four = let a = ap (λ (x : List ℕ). length x) e in let b : length (take 4 l) ≤ length l = grind arith in omega arith

pub returns-else-bytes-ge4 : goal.returns-else-bytes-ge4
returns-else-bytes-ge4 c = (
  λ t. absurd (let z = leb-true 4 (length c.args.bytes.now) t in let few = c.if-bytes-ge4.false in omega arith),
  λ e. absurd (too_short (length c.args.bytes.now) c.args.bytes.now (magic c.args.self) c.if-bytes-ge4.false refl e (length_of_magic c.args.self)),
)
