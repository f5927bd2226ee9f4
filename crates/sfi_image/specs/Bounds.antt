-- Where a sandbox lies, by its image's format and the bases and sizes of its regions, and that two lie
-- apart, of one image or of two.
use Rattle.std.specs.Prelude.{◌≡◌, true}
use Rattle.sfi_formats.specs.Formats.{has_single_mask}
use Rattle.sfi_image.specs.declared.bounds.Bounds.{Bounds}
use Rattle.sfi_image.specs.declared.span.Span.{Span}
use Rattle.sfi_image.specs.Spelling.{AreApart, with_guards, zone_end, IsClear}

-- the code region
abbrev pub code_of : Bounds → Span
code_of b = record { base = b.code_base; size = b.code_size }

-- the data region with a guard zone on each side
abbrev pub guarded_data_of : Bounds → Span
guarded_data_of b = with_guards (record { base = b.data_base; size = b.data_size })

-- no region or guard zone of `one` has an address in common with one of `other`
pub record AreRegionsApart (one other : Bounds) : Type 0 where
  pub code_code : AreApart (code_of one) (code_of other)
  pub code_guarded : AreApart (code_of one) (guarded_data_of other)
  pub guarded_code : AreApart (guarded_data_of one) (code_of other)
  pub guarded_guarded : AreApart (guarded_data_of one) (guarded_data_of other)

-- where the format of `one` has a zone at zero, the span lies clear of it
abbrev pub IsClearOfZone : Bounds → Span → Type 0
IsClearOfZone one s = has_single_mask one.format ≡ true → IsClear (zone_end one.data_size) s

-- no region or guard zone of `other` meets a zone at zero of `one`
pub record IsClearOf (one other : Bounds) : Type 0 where
  pub code : IsClearOfZone one (code_of other)
  pub guarded : IsClearOfZone one (guarded_data_of other)

-- no region or guard zone of one meets one of the other, nor a zone at zero of the other
pub record AreBoundsApart (one other : Bounds) : Type 0 where
  pub regions : AreRegionsApart one other
  pub clear : IsClearOf one other
  pub other_clear : IsClearOf other one
