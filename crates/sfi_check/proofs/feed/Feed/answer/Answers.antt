use Rattle.sfi_check.proofs.Prelude.{◌∙◌, true, sym, subst, List, StreamAnswer, Finding, verdict_of, IsVerdictOn, AreHandedOver}
use Rattle.sfi_check.proofs.Feeding.{answered_fault, answered_whole, answered_short, fed_fault, fed_held}
use Rattle.sfi_check.proofs.feed.Feed.answer.Goals as goal

pub returns-in-Some-clause-judged : goal.returns-in-Some-clause-judged
returns-in-Some-clause-judged c = λ bytes h. answered_fault bytes c.in-Some.fault (fed_fault c.args.self.now bytes c.in-Some.fault c.in-Some.is h).0

pub returns-in-End-clause-judged : goal.returns-in-End-clause-judged
returns-in-End-clause-judged c = λ bytes h.
    subst (λ (a : StreamAnswer). IsVerdictOn bytes true a) (sym c.verdict.ensures)
    (answered_whole c.args.self.now bytes (fed_held c.args.self.now bytes c.in_default.is h) (λ x stands. sym c.in-End.is ∙ c.wants.ensures.want x stands)).1

pub returns-in-End-clause-handed : goal.returns-in-End-clause-handed
returns-in-End-clause-handed c = λ bytes found h.
    let j = answered_whole c.args.self.now bytes (fed_held c.args.self.now bytes c.in_default.is h) (λ x stands. sym c.in-End.is ∙ c.wants.ensures.want x stands) in
    subst (λ (a : StreamAnswer). AreHandedOver bytes found a) (sym c.verdict.ensures)
    (subst (λ (l : List Finding). AreHandedOver bytes l (verdict_of c.args.self.now.tally)) j.2 j.3)

pub returns-in_default-wants-clause-judged : goal.returns-in_default-wants-clause-judged
returns-in_default-wants-clause-judged c = λ bytes h.
    let held = fed_held c.args.self.now bytes c.in_default.is h in
    (answered_short c.args.self.now bytes held (λ w. c.in_default-wants.not-End (c.wants.ensures.want held.at.at held.at.stands ∙ sym w)))
