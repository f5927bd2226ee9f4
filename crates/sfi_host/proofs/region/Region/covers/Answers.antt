use Rattle.sfi_host.proofs.Prelude.{arith, span_of}
use Rattle.sfi_host.proofs.Runs.{covered, not_covered, covered_end}
use Rattle.sfi_host.proofs.region.Region.covers.Goals as goal

pub returns-then-self-at : goal.returns-then-self-at
returns-then-self-at c = record {
  there = λ m whole. covered (span_of c.args.self) m c.args.at c.args.count _ whole c.if-self-at.true (omega arith) (cc);
  end = λ m memory whole. covered_end (span_of c.args.self) m c.args.at c.args.count _ memory whole c.if-self-at.true (omega arith) (cc);
}

pub returns-else-self-at-clause-there : goal.returns-else-self-at-clause-there
returns-else-self-at-clause-there c m whole =
    not_covered (span_of c.args.self) m c.args.at c.args.count c.if-self-at.false (omega arith)
