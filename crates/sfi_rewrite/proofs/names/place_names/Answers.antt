use Rattle.sfi_rewrite.proofs.Prelude.{named}
use Rattle.sfi_rewrite.proofs.Sources.{asked, label_at, none_at, names_push}
use Rattle.sfi_rewrite.proofs.names.place_names.Goals as goal

pub placed_name-requires : goal.placed_name-requires
placed_name-requires c =
    let found = asked c.args.part.now _ _ c.loop-place.place c.named.result c.names-known.ensures c.len-place-end.ensures.len c.loop-place-test.true c.named.ensures in
    label_at c.args.part.now c.args.labels.now c.loop-place.place c.in-Some.named c.named.result c.requires.sandbox c.requires.labels found.0 found.1 c.in-Some.is

pub unreachable-requires : goal.unreachable-requires
unreachable-requires c =
    let found = asked c.args.part.now _ _ c.loop-place.place c.named.result c.names-known.ensures c.len-place-end.ensures.len c.loop-place-test.true c.named.ensures in
    none_at (named c.args.part.now) c.loop-place.place c.named.result found.0 found.1 c.in-None.is

pub loop-place-preserved : goal.loop-place-preserved
loop-place-preserved c =
    let found = asked c.args.part.now _ _ c.loop-place.place c.named.result c.names-known.ensures c.len-place-end.ensures.len c.loop-place-test.true c.named.ensures in
    names_push c.args.part.now c.args.labels.now c.loop-place.place c.in-Some.named c.named.result c.loop-place.names.items c.push.new.self.items c.placed_name.result
    c.requires.sandbox c.requires.labels found.0 found.1 c.in-Some.is
    c.loop-place.invariant c.placed_name.ensures c.in_ok-push-in-Some.ensures.items
