-- The laws of this crate, for proofs here and in the crates above.
use Rattle.sfi_rewrite.specs.Laws.{OneExpansion, OneWordExpansion, OnePlacement, OneRewriting, OneFault, NeverBoth, SomeRewriting, RewrittenIsPlaced, ExpansionsAreTransparent, WordExpansionsAreTransparent, MasksCompose, RewrittenIsTransparent, TransparencyCanBeMet, WordTransparencyCanBeMet, LabelsLeadToItems}
use Rattle.sfi_rewrite.proofs.Labels as labels
use Rattle.sfi_rewrite.proofs.Laid as laid
use Rattle.sfi_rewrite.proofs.Masks as masks
use Rattle.sfi_rewrite.proofs.Sources as faults
use Rattle.sfi_rewrite.proofs.OneWay as way
use Rattle.sfi_rewrite.proofs.Placements.{placed_parts}
use Rattle.sfi_rewrite.proofs.Samples as samples
use Rattle.sfi_rewrite.proofs.SomeRewriting as some
use Rattle.sfi_rewrite.proofs.Sources.{is_placed}
use Rattle.sfi_rewrite.proofs.StackKept as kept
use Rattle.sfi_rewrite.proofs.Standing as standing
use Rattle.sfi_rewrite.proofs.WordKept as word_kept
use Rattle.sfi_rewrite.proofs.WordLaid as word_laid
use Rattle.sfi_rewrite.proofs.WordSamples as word_samples

pub one_expansion : OneExpansion
one_expansion = laid.expansion_one_way

pub one_word_expansion : OneWordExpansion
one_word_expansion = word_laid.one_word_expansion

pub one_placement : OnePlacement
one_placement = way.placement_one_way

pub one_rewriting : OneRewriting
one_rewriting = way.rewriting_one_way

pub one_fault : OneFault
one_fault = faults.source_fault_one_way

pub never_both : NeverBoth
never_both = faults.rewritten_has_none

pub some_rewriting : SomeRewriting
some_rewriting = some.some_rewriting

pub rewritten_is_placed : RewrittenIsPlaced
rewritten_is_placed = λ source placed right z. is_placed source placed right z (placed_parts source placed right.each z)

pub expansions_are_transparent : ExpansionsAreTransparent
expansions_are_transparent = kept.all_transparent

pub word_expansions_are_transparent : WordExpansionsAreTransparent
word_expansions_are_transparent = word_kept.word_expansions_are_transparent

pub masks_compose : MasksCompose
masks_compose = masks.masks_compose

pub rewritten_is_transparent : RewrittenIsTransparent
rewritten_is_transparent = standing.stand_transparent

pub transparency_can_be_met : TransparencyCanBeMet
transparency_can_be_met = samples.met

pub word_transparency_can_be_met : WordTransparencyCanBeMet
word_transparency_can_be_met = word_samples.met_in_words

pub labels_lead_to_items : LabelsLeadToItems
labels_lead_to_items = labels.labels_lead_to_items
