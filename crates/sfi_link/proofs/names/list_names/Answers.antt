use Rattle.sfi_link.proofs.Prelude.{◌+◌, ◌++◌, ◌∙◌, map, drop, get_or, sym, ap, append_assoc, kind_of, entry_of, entries_of}
use Rattle.sfi_link.specs.Code.{address_of}
use Rattle.sfi_rewrite.specs.declared.placed.PlacedName.TheVariants.{Gate}
use Rattle.std.proofs.lemmas.List.{at_drop_more}
use Rattle.sfi_link.proofs.names.list_names.Goals as goal

pub loop-place-preserved : goal.loop-place-preserved
loop-place-preserved c =
    let k = c.loop-place.place in
    let texts = map (λ e. e.0) c.args.names.now in
    let named = get_or c.args.placed.now k (Gate 0) in
    let rest = entries_of c.args.number c.args.at texts (k + 1) (drop (k + 1) c.args.placed.now) in
    let next = ap (λ o. entry_of c.args.number o (kind_of named) (address_of c.args.at named) ++ rest) c.in-Some.ensures ∙ sym (at_drop_more (entries_of c.args.number c.args.at texts k) c.args.placed.now k (Gate 0) c.loop-place-test.true) in
    ap (λ l. l ++ rest) c.in_ok-list_name.ensures ∙ append_assoc c.loop-place.listed.items _ rest ∙ ap (λ l. c.loop-place.listed.items ++ l) next ∙ c.loop-place.invariant

pub loop-place-preserved-in_default : goal.loop-place-preserved-in_default
loop-place-preserved-in_default c =
    let k = c.loop-place.place in
    let texts = map (λ e. e.0) c.args.names.now in
    let named = get_or c.args.placed.now k (Gate 0) in
    let rest = entries_of c.args.number c.args.at texts (k + 1) (drop (k + 1) c.args.placed.now) in
    let next = ap (λ o. entry_of c.args.number o (kind_of named) (address_of c.args.at named) ++ rest) c.in_default.ensures ∙ sym (at_drop_more (entries_of c.args.number c.args.at texts k) c.args.placed.now k (Gate 0) c.loop-place-test.true) in
    ap (λ l. c.loop-place.listed.items ++ l) next ∙ c.loop-place.invariant
