use Rattle.std.proofs.Common.{◌∙◌, sym, ap, refl}
use Rattle.std.specs.Prelude.{is_some}
use Rattle.std.proofs.lemmas.Bool.{ltb-true, lt-ltb}
use Rattle.sfi_c.specs.Streams.{feed_of}
use Rattle.sfi_c.proofs.Refused.{refused_by_fault, refused_by_count, counted, never_accepted}
use Rattle.sfi_c.proofs.feeding.sfi_c_refused.Goals as goal

pub returns-then-is_some-clause-refused : goal.returns-then-is_some-clause-refused
returns-then-is_some-clause-refused c = λ bytes h.
    let some = ap is_some (sym c.fault_numbered.ensures) ∙ sym c.is_some.ensures ∙ c.if-is_some.true in
    (λ t. refused_by_fault (feed_of c.args.stream.now) bytes some h.fed, λ r. refl)

pub returns-then-is_some-clause-never_accepted : goal.returns-then-is_some-clause-never_accepted
returns-then-is_some-clause-never_accepted c = λ bytes more h t ps ok.
    let some = ap is_some (sym c.fault_numbered.ensures) ∙ sym c.is_some.ensures ∙ c.if-is_some.true in
    never_accepted bytes more ps (refused_by_fault (feed_of c.args.stream.now) bytes some h.fed) ok

pub returns-clause-refused : goal.returns-clause-refused
returns-clause-refused c = λ bytes h.
    let s = c.args.stream.now in
    let none = ap is_some (sym c.fault_numbered.ensures) ∙ sym c.is_some.ensures ∙ c.if-is_some.false in
    (λ t. refused_by_count (feed_of s) bytes none h.fed (ltb-true 0 s.findings t), λ r. lt-ltb 0 s.findings (counted (feed_of s) bytes none h.fed r))

pub returns-clause-never_accepted : goal.returns-clause-never_accepted
returns-clause-never_accepted c = λ bytes more h t ps ok.
    let s = c.args.stream.now in
    let none = ap is_some (sym c.fault_numbered.ensures) ∙ sym c.is_some.ensures ∙ c.if-is_some.false in
    never_accepted bytes more ps (refused_by_count (feed_of s) bytes none h.fed (ltb-true 0 s.findings t)) ok
