use Rattle.sfi_scan.proofs.Prelude.{◌≡◌, ◌+◌, List, ◌++◌, sym, ◌∙◌, subst, refl, inl, Short, Finding, AreReadingFindings, finding_of, V1, V2}
use Rattle.sfi_scan.proofs.Readings.{stuck_of}
use Rattle.sfi_scan.proofs.Walk.{Leads, next_of, at_last, short_end, bad_end, pushed, some_found, none_found}
use Rattle.sfi_scan.proofs.scan.scan_instructions.Goals as goal
use Rattle.sfi_scan.proofs.scan.scan_instructions.Goals.{in-Some, in_default}

pub loop-at-preserved : goal.loop-at-preserved
loop-at-preserved c =
    let b = c.args.place.now in
    let at = c.loop-at.at in
    let go = next_of b c.args.bytes.now at c.in-Read.size c.loop-at.before c.and_then-before.result c.loop-at.findings c.in-Read.instr c.lowest_rule.result c.told-bytes c.loop-at.invariant c.in-Read.ensures.front c.lowest_rule.ensures c.and_then-before.ensures in
    let found : c.match-lowest_rule.findings ≡ c.loop-at.findings ++ finding_of b (b.address + at) c.lowest_rule.result =
    elim c.match-lowest_rule.branch [
      | in-Some w ↦ some_found b (b.address + at) c.lowest_rule.result w.in-Some.rule c.loop-at.findings c.match-lowest_rule.findings (w.findings-is ∙ pushed b (b.address + at) w.in-Some.rule w.finding.result c.loop-at.findings w.push.new.self w.push.ensures w.finding.ensures) w.in-Some.is
      | in_default w ↦ none_found b (b.address + at) c.lowest_rule.result c.loop-at.findings c.match-lowest_rule.findings w.findings-is w.in_default.is
    ] in
    subst (λ (l : List Finding). Leads b c.args.bytes.now (at + c.in-Read.size) c.and_then-before.result l) (sym found) go

pub returns-in-Short : goal.returns-in-Short
returns-in-Short c =
    let b = c.args.place.now in
    let done = short_end b c.args.bytes.now c.loop-at.at c.loop-at.before c.loop-at.findings c.told-bytes c.loop-at-test.true c.loop-at.invariant (stuck_of _ Short (inl refl) c.in-Short.ensures.only) c.in-Short.ensures.front in
    subst (λ (l : List Finding). AreReadingFindings b c.args.bytes.now l) (sym (pushed b (b.address + c.loop-at.at) V2 c.finding-in-Short.result c.loop-at.findings c.push-in-Short.new.self c.push-in-Short.ensures c.finding-in-Short.ensures)) done

pub returns-in-Bad : goal.returns-in-Bad
returns-in-Bad c =
    let b = c.args.place.now in
    let done = bad_end b c.args.bytes.now c.loop-at.at c.loop-at.before c.loop-at.findings c.told-bytes c.loop-at-test.true c.loop-at.invariant c.in-Bad.ensures.front in
    subst (λ (l : List Finding). AreReadingFindings b c.args.bytes.now l) (sym (pushed b (b.address + c.loop-at.at) V1 c.finding-in-Bad.result c.loop-at.findings c.push-in-Bad.new.self c.push-in-Bad.ensures c.finding-in-Bad.ensures)) done

pub returns : goal.returns
returns c = at_last c.args.place.now c.args.bytes.now c.loop-at.at c.loop-at.before c.loop-at.findings c.told-bytes c.loop-at-test.false c.loop-at.invariant
