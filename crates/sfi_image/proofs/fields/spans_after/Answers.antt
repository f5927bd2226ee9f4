use Rattle.sfi_image.proofs.Prelude.{◌≡◌, refl, inl, inr, arith, false, true, subst, IsRegion}
use Rattle.sfi_image.proofs.Tests.{at_overlap}
use Rattle.sfi_image.proofs.fields.spans_after.Goals as goal

pub returns-clause-passed : goal.returns-clause-passed
returns-clause-passed c =
    λ ps of is. at_overlap ps _ _ (subst (λ n. IsRegion c.args.fields.now.code_base c.args.fields.now.code_size 256 n) c.code_most.ensures (c.if-not-is_region.ensures.0 refl)) (c.if-not-is_data_region.ensures.0 refl) (c.if-not-has_room.ensures.0 refl) (c.if-not-is_bundle_start.ensures.0 refl) (omega arith) (omega arith)
    (inl ((c.if-not-are_apart_with.ensures ps of is).0 refl, refl))

pub returns-then-not-are_apart_with-clause-fault : goal.returns-then-not-are_apart_with-clause-fault
returns-then-not-are_apart_with-clause-fault c =
    λ ps of is. at_overlap ps _ _ (subst (λ n. IsRegion c.args.fields.now.code_base c.args.fields.now.code_size 256 n) c.code_most.ensures (c.if-not-is_region.ensures.0 refl)) (c.if-not-is_data_region.ensures.0 refl) (c.if-not-has_room.ensures.0 refl) (c.if-not-is_bundle_start.ensures.0 refl) (omega arith) (omega arith)
    (inr (λ lies. let e : false ≡ true = (c.if-not-are_apart_with.ensures ps of is).1 lies in absurd cc, refl))

pub returns-then-not-is_data_region-clause-fault : goal.returns-then-not-is_data_region-clause-fault
returns-then-not-is_data_region-clause-fault c =
    λ ps of is. inl (
      (subst (λ n. IsRegion c.args.fields.now.code_base c.args.fields.now.code_size 256 n) c.code_most.ensures (c.if-not-is_region.ensures.0 refl)),
      inr (λ region. let e : false ≡ true = c.if-not-is_data_region.ensures.1 region in absurd cc, refl),
    )

pub returns-then-not-has_room-clause-fault : goal.returns-then-not-has_room-clause-fault
returns-then-not-has_room-clause-fault c =
    λ ps of is. inl (
      (subst (λ n. IsRegion c.args.fields.now.code_base c.args.fields.now.code_size 256 n) c.code_most.ensures (c.if-not-is_region.ensures.0 refl)),
      inl (
        c.if-not-is_data_region.ensures.0 refl,
        inr (λ room. let e : false ≡ true = c.if-not-has_room.ensures.1 room in absurd cc, refl),
      ),
    )
