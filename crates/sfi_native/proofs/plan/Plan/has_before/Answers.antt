use Rattle.std.proofs.Common.{sym, ◌∙◌}
use Rattle.std.proofs.lemmas.Bool.{false≢true}
use Rattle.sfi_native.proofs.Assigned.{none_more}
use Rattle.sfi_native.proofs.plan.Plan.has_before.Goals as goal

pub loop-r-preserved : goal.loop-r-preserved
loop-r-preserved c = record {
  none = none_more c.args.self.now c.loop-r.r c.args.q c.loop-r.invariant.none (λ own. false≢true (sym c.if-lies_in.false ∙ c.lies_in.ensures.1 own));
}
