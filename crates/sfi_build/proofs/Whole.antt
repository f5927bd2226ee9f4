-- The image with its tables: a text has one or a fault, and what begins at labels.
use Rattle.sfi_image.specs.Spelling.{spelling}
use Rattle.sfi_link.specs.Names.{MapEntry, BeginsUnit}
use Rattle.sfi_text.specs.SoFar.{SharedNames, tables}
use Rattle.sfi_image.specs.Parts.{IsImage}
use Rattle.sfi_rewrite.specs.Rewriting.{AreRewritten}
use Rattle.sfi_rewrite.proofs.Facts as sources
use Rattle.sfi_link.specs.Linked.{IsLinkedImage}
use Rattle.sfi_formats.specs.Limits.{sandboxes_most}
use Rattle.sfi_link.proofs.Parts.{labels_begin_units}
use Rattle.sfi_link.proofs.Linking.{length-each_with, linked_as, image_of_parts}
use Rattle.sfi_build.specs.Tables.{tails_from, sandbox_with}
use Rattle.sfi_image.proofs.Facts.{one_image}
use Rattle.sfi_build.specs.Texts.{IsPlainBuild, MeansWhole, IsTextBuild, IsTextMap, IsBuildFault, IsWantOfMemory}
use Rattle.sfi_build.specs.private.{IsTableStop}
use Rattle.sfi_build.proofs.Tails.{inits_of, tails_as_inits, rewritten_as, map_as}
use Rattle.sfi_build.proofs.Building.{listed_means, whole_right, one_build}
use Rattle.sfi_build.specs.Laws.{CodeLabelsBeginUnits, SomeBuilding}
use Rattle.std.proofs.Common.{Result, Err, inl, inr, ◌⊎◌}
use Rattle.sfi_text.specs.Texts.{MeansSource, MeansText}
use Rattle.sfi_build.specs.declared.table_fault.TableFault.{TableFault}
use Rattle.sfi_build.specs.declared.fault.BuildFault.{BuildFault}
use Rattle.sfi_build.specs.declared.fault.BuildFault.TheVariants.{Text, Rewrite, Link, Names}
use Rattle.sfi_text.proofs.Facts.{some_source, sources_are_right}
use Rattle.sfi_rewrite.proofs.Facts.{some_rewriting, rewritten_is_placed}
use Rattle.sfi_link.proofs.SomeLinking.{some_linking}
use Rattle.sfi_link.proofs.Prelude.{◌≡◌, refl, sym, ap, subst, ◌∙◌, ℕ, ◌+◌, ◌≤◌, List, [], ◌∷◌, Ok, length, arith, Sandbox, Placement, Place, Part, AreLinkedFrom, AreLinked, IsPlaced, map_from, Some, All, slice_get, with_bytes, each_with, set_init, parts_with, AreLinkedCodes}

-- ==== The image of a source with its tables is that without them, with other first data bytes.

pub rewritten_count : (source : List Sandbox) (placed : List Placement) → AreRewritten source placed → length placed ≡ length source
rewritten_count [] [] h = refl
rewritten_count [] (p ∷ placed) h = absurd h
rewritten_count (s ∷ source) [] h = absurd h
rewritten_count (s ∷ source) (p ∷ placed) h = omega (arith, rewritten_count source placed h.1)

pub linked_count : (given : List Place) (number : ℕ) (placed : List Placement) (parts : List Part) → AreLinkedFrom given number placed parts → length parts ≡ length placed
linked_count given number [] parts h = ap length h
linked_count given number (p ∷ placed) [] h = absurd h
linked_count given number (p ∷ placed) (q ∷ parts) h = omega (arith, linked_count given (number + 1) placed parts h.1)

-- a source of which there is an image has no more sandboxes than an image may have
pub few : (given : List Place) (source : List Sandbox) (placed : List Placement) (bytes : List ℕ) → AreRewritten source placed → IsLinkedImage given placed bytes
    → length source ≤ sandboxes_most
few given source placed bytes rewritten image =
    omega (arith, image.image.layout.at_most, linked_count given 0 placed image.parts image.linked.each, rewritten_count source placed rewritten)

-- code for all that is placed of it
pub plain_build : (given : List Place) (text : List ℕ) (source : List Sandbox) (shared : List SharedNames) (placed : List Placement) (codes : List (List ℕ)) → MeansText text source shared → AreRewritten source placed → AreLinkedCodes given placed codes
    → IsPlainBuild given text source shared placed
plain_build given text source shared placed codes means rewritten h =
    let right = rewritten_is_placed source placed (sources_are_right text source (listed_means text source shared means)) rewritten in
    record { means = means; rewritten = rewritten; bytes = _; image = image_of_parts given placed (parts_with given 0 placed codes) right h.few h.linked }

module _ (given : List Place) (text : List ℕ) (source : List Sandbox) (shared : List SharedNames) (placed : List Placement) (plain : IsPlainBuild given text source shared placed)
    (tails : List (List ℕ)) (tails_are : tails_from given placed 0 shared source ≡ Ok tails) where
  pub means : MeansWhole given text (each_with sandbox_with tails source)
  means = record { source = source; shared = shared; placed = placed; plain = plain; tails = tails; tails_are = tails_are; whole_is = refl }

  abbrev inits : List (List ℕ)
  inits = inits_of (each_with sandbox_with tails source)

  abbrev placed_as : List Placement
  placed_as = each_with with_bytes inits placed

  abbrev parts_as : List Part
  parts_as = each_with set_init inits plain.image.parts

  rewritten : AreRewritten (each_with sandbox_with tails source) placed_as
  rewritten = subst (λ w. AreRewritten w placed_as) (sym (tails_as_inits tails source)) (rewritten_as inits source placed plain.rewritten)

  pub is_placed : IsPlaced placed_as
  is_placed = sources.rewritten_is_placed (each_with sandbox_with tails source) placed_as (whole_right given text (each_with sandbox_with tails source) means) rewritten

  linked : AreLinked given placed_as parts_as
  linked = linked_as given inits placed plain.image.parts plain.image.linked

  -- what is linked of them is an image
  pub image : IsLinkedImage given placed_as (spelling parts_as)
  image =
      image_of_parts given placed_as parts_as is_placed
      (omega (arith, plain.image.image.layout.at_most, linked_count given 0 placed plain.image.parts plain.image.linked.each, length-each_with with_bytes inits placed)) linked

  pub built : (bytes : List ℕ) → IsLinkedImage given placed_as bytes → IsTextBuild given text bytes
  built bytes is = record { source = each_with sandbox_with tails source; means = means; placed = placed_as; rewritten = rewritten; image = is }

  -- a map of the source without its tables is that of the source with them
  pub mapped : (entries : List MapEntry) → entries ≡ map_from given 0 source placed → IsTextMap given text entries
  unfolding built
  mapped entries are = record {
    bytes = spelling parts_as;
    build = built (spelling parts_as) image;
    entries_are = are ∙ sym (ap (λ w. map_from given 0 w placed_as) (tails_as_inits tails source) ∙ map_as given 0 inits source inits placed);
  }

-- what stops tables stops the build
pub table_stop : (given : List Place) (text : List ℕ) (source : List Sandbox) (shared : List SharedNames) (placed : List Placement) → IsPlainBuild given text source shared placed → (due : Result (List (List ℕ)) TableFault) → due ≡ tails_from given placed 0 shared source
    → (f : BuildFault) → IsTableStop due f → IsWantOfMemory f ⊎ IsBuildFault given text f
table_stop given text source shared placed plain due is f (inl memory) = inl memory
table_stop given text source shared placed plain due is f (inr (g, e, h)) = inr (subst (IsBuildFault given text) (sym e) (source, shared, placed, plain, sym is ∙ h))

-- ==== At each label in the code of a text's map a unit of its sandbox's code begins in the text's image.

pub code_labels_begin_units : CodeLabelsBeginUnits
code_labels_begin_units given text bytes entries parts map build image =
    let own = map.build in
    let placed = sources.rewritten_is_placed own.source own.placed (whole_right given text own.source own.means) own.rewritten in
    let same = one_image bytes own.image.parts parts (subst (λ (l : List ℕ). IsImage l own.image.parts) (one_build given text map.bytes bytes own build) own.image.image) image in
    subst (λ es. All (BeginsUnit parts) es) (sym map.entries_are)
    (subst (λ (ps : List Part). All (BeginsUnit ps) (map_from given 0 own.source own.placed)) same (labels_begin_units given 0 own.source own.placed own.image.parts own.image.parts placed.each own.image.linked.each (λ k n q at is. let here : k ≡ n = omega (arith, at) in subst (λ (m : ℕ). slice_get own.image.parts m ≡ Some q) here is)))

-- ==== A text has a build, or a fault.

meaning : (text : List ℕ) (source : List Sandbox) → MeansSource text source → (shared : List SharedNames) × MeansText text source shared
meaning text source (new, last, leads, begun, is) = (tables new, (new, last, leads, begun, is, refl))

-- with its tables, or the fault of one
with_tables : (given : List Place) (text : List ℕ) (source : List Sandbox) (shared : List SharedNames) (placed : List Placement) → IsPlainBuild given text source shared placed
    → (made : Result (List (List ℕ)) TableFault) → tails_from given placed 0 shared source ≡ made
    → ((bytes : List ℕ) × IsTextBuild given text bytes) ⊎ ((f : BuildFault) × IsBuildFault given text f)
with_tables given text source shared placed plain (Err f) is = inr (Names f, (source, shared, placed, plain, is))
with_tables given text source shared placed plain (Ok tails) is =
    inl (_, built given text source shared placed plain tails is _ (image given text source shared placed plain tails is))

pub some_building : SomeBuilding
some_building given text =
    elim (some_source text) [
      | inr (f, wrong) ↦ inr (Text f, wrong)
      | inl (source, means) ↦
          let (shared, lists) = meaning text source means in
          elim (some_rewriting source) [
            | inr (f, wrong) ↦ inr (Rewrite f, (source, shared, lists, wrong))
            | inl (placed, rewritten) ↦ elim (some_linking given placed (rewritten_is_placed source placed (sources_are_right text source means) rewritten)) [
              | inr (f, wrong) ↦ inr (Link f, (source, shared, placed, lists, rewritten, wrong))
              | inl (bytes, image) ↦
                  with_tables given text source shared placed (record { means = lists; rewritten = rewritten; bytes = bytes; image = image })
                  (tails_from given placed 0 shared source) refl
            ]
          ]
    ]
