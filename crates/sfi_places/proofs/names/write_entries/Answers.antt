use Rattle.std.proofs.Common.{◌≡◌, ◌+◌, List, length, arith}
use Rattle.std.specs.List.{All}
use Rattle.sfi_names.specs.Tables.{Named, IsNamed, entries, entry}
use Rattle.sfi_image.specs.Keeping.{LiesAt}
use Rattle.sfi_places.proofs.Naming.{Next, next, next_lies, one_more, all_written, entry_length}
use Rattle.sfi_places.proofs.names.write_entries.Goals.{In-loop-at}
use Rattle.sfi_places.proofs.names.write_entries.Goals as goal

-- the entry at hand
this : (c : In-loop-at) (l : (es : List Named) × All IsNamed es × LiesAt c.args.image.now c.args.begin (entries es) × (c.args.end ≡ c.args.begin + length (entries es)))
    → (n : Next c.args.fields.now c.args.to l.0 c.args.image.now c.loop-at.image c.args.begin c.args.end c.loop-at.at) × LiesAt c.loop-at.image c.loop-at.at (entry n.here)
this c l =
    let n = next c.args.fields.now c.args.to l.0 c.args.image.now c.loop-at.image c.args.begin c.args.end c.loop-at.at l.1 l.3 c.loop-at-test.true (c.loop-at.invariant l.0 l.1 l.3 l.2) in
    (n, next_lies _ _ _ _ _ _ _ _ n l.2)

pub write_entry-at-requires-clause-lies : goal.write_entry-at-requires-clause-lies
write_entry-at-requires-clause-lies c =
    let (n, lies) = this (goal.at.write_entry-at-requires-clause-lies c).In-loop-at c.requires.lies in
    (n.here, n.named, lies)

pub overflow_add-at : goal.overflow_add-at
overflow_add-at c =
    let (n, lies) = this (goal.at.overflow_add-at c).In-loop-at c.requires.lies in
    let ends = n.ends in
    let size = c.write_entry-at.ensures.len n.here n.named lies in
    omega (arith, ends, size, c.ranges.end.fits)

pub loop-at-smaller : goal.loop-at-smaller
loop-at-smaller c =
    let (n, lies) = this (goal.at.loop-at-smaller c).In-loop-at c.requires.lies in
    let size = c.write_entry-at.ensures.len n.here n.named lies in
    omega (arith, c.loop-at-test.true, size, entry_length c.loop-at.image c.loop-at.at n.here lies)

pub loop-at-preserved : goal.loop-at-preserved
loop-at-preserved c = λ es named ends lies.
    let (n, there) = this (goal.at.loop-at-preserved c).In-loop-at (es, named, lies, ends) in
    one_more _ _ _ _ _ _ _ _ n c.write_entry-at.new.image c.write_entry-at.result (c.write_entry-at.ensures.len n.here n.named there) (c.write_entry-at.ensures.written n.here n.named)

pub returns : goal.returns
returns c = λ es named ends before after offset are.
    all_written c.args.fields.now c.args.to es c.args.image.now c.loop-at.image c.args.begin c.args.end c.loop-at.at ends c.loop-at-test.false
    (c.loop-at.invariant es named ends (record { before = before; after = after; bytes_are = are; offset_is = offset })) before after offset are
