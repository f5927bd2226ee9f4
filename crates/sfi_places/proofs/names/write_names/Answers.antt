use Rattle.std.proofs.Common.{ℕ, List, ◌++◌, subst}
use Rattle.sfi_names.specs.Tables.{HasTable}
use Rattle.sfi_places.proofs.Naming.{sliced, has_footer, has_entries, all_named, entries_end, entries_lie, now, are_there, names_written}
use Rattle.sfi_places.proofs.names.write_names.Goals as goal

pub overflow_sub-end : goal.overflow_sub-end
overflow_sub-end c =
    let lies = c.requires.lies in
    let found = c.in-Some.ensures.found in
    let has = subst (λ (l : List ℕ). HasTable l found.0) (sliced c.args.image.now lies.0 c.args.begin c.args.end lies.1 lies.2) found.1 in
    has_footer c.args.fields.now c.args.to c.args.image.now lies.0 c.args.begin c.args.end c.in-Some.len found.0 lies.2 has found.2

pub overflow_sub-end-in-Some : goal.overflow_sub-end-in-Some
overflow_sub-end-in-Some c =
    let lies = c.requires.lies in
    let found = c.in-Some.ensures.found in
    let has = subst (λ (l : List ℕ). HasTable l found.0) (sliced c.args.image.now lies.0 c.args.begin c.args.end lies.1 lies.2) found.1 in
    has_entries c.args.fields.now c.args.to c.args.image.now lies.0 c.args.begin c.args.end c.in-Some.len found.0 lies.2 has found.2

pub write_entries-requires-clause-lies : goal.write_entries-requires-clause-lies
write_entries-requires-clause-lies c =
    let lies = c.requires.lies in
    let found = c.in-Some.ensures.found in
    let has = subst (λ (l : List ℕ). HasTable l found.0) (sliced c.args.image.now lies.0 c.args.begin c.args.end lies.1 lies.2) found.1 in (
      found.0.exports ++ found.0.imports,
      all_named c.args.fields.now c.args.to c.args.image.now lies.0 c.args.begin c.args.end c.in-Some.len found.0 lies.2 has found.2,
      entries_lie c.args.fields.now c.args.to c.args.image.now lies.0 c.args.begin c.args.end c.in-Some.len found.0 lies.2 has found.2 lies.1,
      entries_end c.args.fields.now c.args.to c.args.image.now lies.0 c.args.begin c.args.end c.in-Some.len found.0 lies.2 has found.2,
    )

pub returns-in-Some : goal.returns-in-Some
returns-in-Some c = λ first lies ends.
    let found = c.in-Some.ensures.found in
    let has = subst (λ (l : List ℕ). HasTable l found.0) (sliced c.args.image.now first c.args.begin c.args.end lies ends) found.1 in (
      now c.args.fields.now c.args.to c.args.image.now first c.args.begin c.args.end c.in-Some.len found.0 ends has found.2,
      are_there c.args.fields.now c.args.to c.args.image.now first c.args.begin c.args.end c.in-Some.len found.0 ends has found.2,
      names_written c.args.fields.now c.args.to c.args.image.now first c.args.begin c.args.end c.in-Some.len found.0 ends has found.2 c.write_entries.new.image
          (c.write_entries.ensures (found.0.exports ++ found.0.imports)
          (all_named c.args.fields.now c.args.to c.args.image.now first c.args.begin c.args.end c.in-Some.len found.0 ends has found.2)
          (entries_end c.args.fields.now c.args.to c.args.image.now first c.args.begin c.args.end c.in-Some.len found.0 ends has found.2)),
    )
