-- That each item of a source's sandbox stands transparent in what is placed.
use Rattle.std.specs.Prelude.{◌≡◌, ℕ, List, MatchBool, slice_get, Some}
use Rattle.sfi_source.specs.declared.item.Item.{Item}
use Rattle.sfi_source.specs.Source.{Sandbox}
use Rattle.sfi_formats.specs.declared.format.Format.{Format}
use Rattle.sfi_formats.specs.Formats.{has_words}
use Rattle.sfi_rewrite.specs.Placement.{Placement}
use Rattle.sfi_rewrite.specs.Transparency.{StandsTransparent}
use Rattle.sfi_rewrite.specs.words.Transparency as words

-- the expansion of item k stands transparent among the placed slots, as the format asks
abbrev pub StandsAs : Format → List Item → Placement → ℕ → Item → Type 0
StandsAs f items p k x =
    MatchBool (has_words f) (words.StandsTransparent f items p k x) (StandsTransparent f items p k x)

-- the expansion of each item stands transparent
abbrev pub StandTransparent : Sandbox → Placement → Type 0
StandTransparent s p =
    (k : ℕ) (x : Item) → slice_get s.items k ≡ Some x → StandsAs s.format s.items p k x
