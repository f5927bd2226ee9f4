use Rattle.sfi_link.proofs.Prelude.{◌≡◌, ◌<◌, ◌∙◌, ◌^◌, ℕ, sym, subst, ap, refl, List, length, get_or, Some, Place, Placement, IsPlaced, IsPlacedPart, bases_of, AreInReach, slice_get}
use Rattle.std.proofs.lemmas.Option.{slice_get_read}
use Rattle.sfi_rewrite.specs.declared.placed.PlacedName.{PlacedName}
use Rattle.sfi_link.specs.declared.bases.Bases.{Bases}
use Rattle.sfi_link.specs.Code.{address_at}
use Rattle.sfi_link.specs.Linked.{IsLinkedImage}
use Rattle.sfi_build.specs.Tables.{address_in}
use Rattle.sfi_build.proofs.Making.{near_at}
use Rattle.sfi_build.proofs.address.placed_address.Goals as goal

-- `near_at` of a list of parts that is what is placed
near_in : (given : List Place) (parts placed : List Placement) (k : ℕ) (p : Placement) → parts ≡ placed → IsPlaced placed → (bytes : List ℕ) → IsLinkedImage given placed bytes → k < length parts → p ≡ get_or parts k p
    → AreInReach (bases_of given k p) p.names × ((bases_of given k p).start < 2 ^ 32)
near_in given parts placed k p same right bytes image less is =
    near_at given parts bytes (subst (λ (ps : List Placement). IsPlaced ps) (sym same) right) (subst (λ (ps : List Placement). IsLinkedImage given ps bytes) (sym same) image) k p less is

pub bases_of-bases-requires-clause-right : goal.bases_of-bases-requires-clause-right
bases_of-bases-requires-clause-right c =
    let there = c.in_ok-part.ensures.lookup in
    let right : IsPlaced c.parts.result.now = subst (λ (ps : List Placement). IsPlaced ps) (sym c.parts.ensures.parts) c.parts.ensures.right in
    subst (λ (p : Placement). IsPlacedPart p) (sym there.1) (right.each c.args.sandbox c.in_ok-part.part.now there.3.0)

pub bases_of-bases-requires-clause-fits : goal.bases_of-bases-requires-clause-fits
bases_of-bases-requires-clause-fits c =
    let there = c.in_ok-part.ensures.lookup in
    let near = near_in c.args.places.now c.parts.result.now c.args.placed.now c.args.sandbox c.in_ok-part.part.now c.parts.ensures.parts c.parts.ensures.right c.requires.linked.0 c.requires.linked.1 there.3.0 there.1 in
    near.1

pub address_at-requires : goal.address_at-requires
address_at-requires c =
    let there = c.in_ok-part.ensures.lookup in
    let near = near_in c.args.places.now c.parts.result.now c.args.placed.now c.args.sandbox c.in_ok-part.part.now c.parts.ensures.parts c.parts.ensures.right c.requires.linked.0 c.requires.linked.1 there.3.0 there.1 in
    subst (λ (b : Bases). AreInReach b c.names.result.now) (sym c.bases_of-bases.ensures.is)
    (subst (λ (l : List PlacedName). AreInReach (bases_of c.args.places.now c.args.sandbox c.in_ok-part.part.now) l) (sym c.names.ensures) near.0)

pub returns : goal.returns
returns c =
    let given = c.args.places.now in
    let k = c.args.sandbox in
    let p = c.in_ok-part.part.now in
    let there = c.in_ok-part.ensures.lookup in
    let part_is : slice_get c.parts.result.now k ≡ Some p = slice_get_read c.parts.result.now _ k p refl there.3.0 there.1 in
    c.address_at.ensures.is ∙ ap (λ b. address_at b c.names.result.now c.args.name) c.bases_of-bases.ensures.is
    ∙ ap (λ l. address_at (bases_of given k p) l c.args.name) c.names.ensures
    ∙ ap (λ o. address_in given k o c.args.name) (sym part_is ∙ ap (λ l. slice_get l k) c.parts.ensures.parts)
