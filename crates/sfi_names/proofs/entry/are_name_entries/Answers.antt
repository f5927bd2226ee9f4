use Rattle.std.proofs.Common.{◌≡◌, ◌∙◌, ℕ, ◌<◌, ◌==◌, List, length, sym, arith, false}
use Rattle.std.proofs.lemmas.Bool.Decides.{nat_tests}
use Rattle.sfi_names.specs.Tables.{named}
use Rattle.sfi_names.proofs.Entries.{one_passed, stuck}
use Rattle.sfi_names.proofs.entry.are_name_entries.Goals as goal

some_left : (rest : List ℕ) → (length rest == 0) ≡ false → 0 < length rest
some_left rest e = grind (arith, nat_tests)

pub loop-rest-preserved : goal.loop-rest-preserved
loop-rest-preserved c = let f = c.in-Some.ensures.found in one_passed c.args.bytes.now c.loop-rest.rest.now c.in-Some.more.now (named c.in-Some.field-0-0) c.loop-rest.invariant f.0 f.1

pub returns-in-None : goal.returns-in-None
returns-in-None c = (λ f. absurd cc, λ all. absurd (stuck c.args.bytes.now c.loop-rest.rest.now c.loop-rest.invariant (some_left c.loop-rest.rest.now (sym c.is_empty.ensures ∙ c.loop-rest-test.true)) c.in-None.ensures.none all))
