-- What holds of readings, rules and findings: the laws, for proofs here and in the crates above.
use Rattle.sfi_rules.proofs.Prelude.{[], refl, ◌+◌, ◌%◌, ◌==◌, ◌&&◌, nat_le, nat_lt, and_parts, and_from, leb-true, ltb-true, eqb-true, le-leb, lt-ltb, eq-eqb}
use Rattle.sfi_formats.specs.Limits.{bundle_size}
use Rattle.sfi_rules.specs.Laws.{SameBundleStarts, OneLongestReading, OneBundleList, OneList, OneImageList, FirstFormatHasNoStack, FirstFormatFindsNoV10, CleanBreaksStackAlone, OwedIsOfTwo}
use Rattle.sfi_rules.proofs.Findings.{of_two}
pub use Rattle.sfi_rules.proofs.Findings.{and_is, in_bundles, of_bundles, in_words, of_words, all_found, none_found}
use Rattle.sfi_rules.proofs.Formats as first
use Rattle.sfi_rules.proofs.OneList as lists
use Rattle.sfi_rules.proofs.OneList.{longest_one}
use Rattle.sfi_rules.proofs.Formats.{image_of_stack}
pub use Rattle.sfi_rules.proofs.WordRules.{AreKept, kept_of, none_of}

pub same_bundle_starts : SameBundleStarts
same_bundle_starts b at = (
  λ t.
      let x = and_parts (nat_le b.code_base at && nat_lt at (b.code_base + b.code_size)) (at % bundle_size == 0) t in
      let y = and_parts (nat_le b.code_base at) (nat_lt at (b.code_base + b.code_size)) x.0 in
      record { held = (leb-true b.code_base at y.0, ltb-true at (b.code_base + b.code_size) y.1); aligned = eqb-true (at % bundle_size) 0 x.1 },
  λ s.
      and_from _ _
      (and_from _ _ (le-leb b.code_base at s.held.0) (lt-ltb at (b.code_base + b.code_size) s.held.1))
      (eq-eqb (at % bundle_size) 0 s.aligned),
)

pub one_longest_reading : OneLongestReading
one_longest_reading = longest_one

pub one_bundle_list : OneBundleList
one_bundle_list = lists.one_bundle_list

pub one_list : OneList
one_list = lists.one_list

pub one_image_list : OneImageList
one_image_list = lists.one_image_list 0

pub first_format_has_no_stack : FirstFormatHasNoStack
first_format_has_no_stack = first.first_format_has_no_stack

pub first_format_finds_no_v10 : FirstFormatFindsNoV10
first_format_finds_no_v10 = first.first_format_finds_no_v10

pub clean_breaks_stack_alone : CleanBreaksStackAlone
clean_breaks_stack_alone ps found bundles clean second = image_of_stack 0 ps [] found bundles refl clean second

pub owed_is_of_two : OwedIsOfTwo
owed_is_of_two = of_two
