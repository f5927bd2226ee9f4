use Rattle.sfi_rewrite.proofs.Prelude.{◌∙◌, sym, ap, subst, AllZip, named, slots_of, IsTrue, IsPlacedName, AreBundles, HasEnd, AreFaultless, length, has_words}
use Rattle.sfi_rewrite.proofs.Placements.{have_bodies, placed_part, rewritten, end_of, copied}
use Rattle.sfi_rewrite.proofs.parts.place_part.Goals as goal

pub lay-requires : goal.lay-requires
lay-requires c = have_bodies c.args.part.now c.items.result.now c.items.ensures c.requires

made : goal.returns-clause-rewritten
made c =
    rewritten c.args.part.now c.new.result (record {
      slots = c.in_ok-laid.laid.code;
      faultless =
          subst (λ f. AreFaultless (has_words f) f (length c.args.part.now.items) c.args.part.now.items c.in_ok-laid.laid.code) c.format.ensures
          (subst (λ v. AreFaultless (has_words c.format.result) c.format.result (length v) v c.in_ok-laid.laid.code) c.items.ensures c.in_ok-laid.ensures.faultless);
      all = c.fill_end.new.code;
      end =
          end_of c.args.part.now c.args.part.now.format c.has_end_label.result c.in_ok-laid.laid.code c.fill_end.new.code c.has_end_label.ensures
          (subst (λ f. HasEnd f c.in_ok-laid.laid.code (IsTrue c.has_end_label.result) c.fill_end.new.code) c.format-2.ensures c.in_ok-fill_end.ensures);
      code = ap slots_of c.new.ensures.bundles ∙ c.into_bundles-bundles.ensures.code;
      format = c.new.ensures.format ∙ c.format-3.ensures;
      movable = c.new.ensures.movable ∙ c.is_movable.ensures;
      data_size = c.new.ensures.data_size ∙ c.data_size.ensures;
      gates = c.new.ensures.gates ∙ copied c.new-gates.result.items c.extend_from_slice.new.self.items c.gates.result.now c.args.part.now.gates c.in_ok-extend_from_slice.ensures.items c.new-gates.ensures.items c.gates.ensures;
      bytes = c.new.ensures.bytes ∙ copied c.new-bytes.result.items c.extend_from_slice-2.new.self.items c.bytes.result.now c.args.part.now.bytes c.in_ok-extend_from_slice-2.ensures.items c.new-bytes.ensures.items c.bytes.ensures;
      names = subst (λ v. AllZip (IsPlacedName c.args.part.now.format c.args.part.now.items) (named c.args.part.now) v) (sym c.new.ensures.names) c.in_ok-names.ensures;
      bundles = subst AreBundles (sym c.new.ensures.bundles) c.into_bundles-bundles.ensures.bundles;
    })

pub returns-clause-rewritten : goal.returns-clause-rewritten
returns-clause-rewritten c = made c

pub returns-clause-right : goal.returns-clause-right
returns-clause-right c = placed_part c.args.part.now c.new.result c.requires (made c)
