-- What holds of each format.
use Rattle.std.proofs.Common.{◌≡◌, length, refl, true}
use Rattle.sfi_formats.specs.declared.format.Format.{Format}
use Rattle.sfi_formats.specs.declared.format.Format.TheVariants.{Sfi1, Sfi2, Sfiw, Sfis}
use Rattle.sfi_formats.specs.Formats.{magic, has_words, has_single_mask}

pub length_of_magic : (f : Format) → length (magic f) ≡ 4
unfolding magic
length_of_magic Sfi1 = refl
length_of_magic Sfi2 = refl
length_of_magic Sfiw = refl
length_of_magic Sfis = refl

-- a format with single masks has its code in words
pub single_in_words : (f : Format) → has_single_mask f ≡ true → has_words f ≡ true
single_in_words Sfi1 one = one
single_in_words Sfi2 one = one
single_in_words Sfiw one = refl
single_in_words Sfis one = refl
