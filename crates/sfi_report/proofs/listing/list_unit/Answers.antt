use Rattle.sfi_report.proofs.Prelude.{◌+◌, ◌-◌, inl, inr, length, take, drop, string_bytes, on_ok_weaker, Read, IsUnitListing}
use Rattle.std.proofs.lemmas.List.{take_rest}
use Rattle.sfi_report.proofs.Lines.{spell_fits, line_then, stuck_lines, no_lines}
use Rattle.sfi_report.proofs.Walks.{at_first, next, at_last, at_rest}
use Rattle.sfi_report.proofs.listing.list_unit.Goals as goal

pub loop-at-init : goal.loop-at-init
loop-at-init c = at_first IsUnitListing c.args.address c.args.bytes.now (string_bytes c.args.out.now)

pub loop-at-preserved : goal.loop-at-preserved
loop-at-preserved c =
    let at = c.loop-at.at in
    let rest = take (length c.args.bytes.now - at) (drop at c.args.bytes.now) in
    let read = c.in-Read.ensures in
    next IsUnitListing c.args.address c.args.bytes.now at c.in-Read.size rest (string_bytes c.args.out.now) (string_bytes c.loop-at.out) (string_bytes c.push_instruction.new.out) _
    (take_rest c.args.bytes.now at) c.loop-at.invariant (spell_fits rest c.in-Read.instr c.in-Read.size read.front).1
    (λ later h. line_then (c.args.address + at) rest c.in-Read.instr c.in-Read.size later read.front (λ j m s. read.only (Read j m) s) h) c.in_ok-push_instruction-in-Read.ensures

pub returns-in-Short : goal.returns-in-Short
returns-in-Short c =
    let at = c.loop-at.at in
    let rest = take (length c.args.bytes.now - at) (drop at c.args.bytes.now) in
    let stuck = stuck_lines (c.args.address + at) rest (λ i n s. let read = c.read_front.ensures.only (Read i n) s in elim c.in-Short.is [ inl short ↦ cc | inr bad ↦ cc ]) in
    on_ok_weaker c.push_unread_bytes.result
    (λ e. at_rest IsUnitListing c.args.address c.args.bytes.now at rest (string_bytes c.args.out.now) (string_bytes c.loop-at.out) (string_bytes c.push_unread_bytes.new.out) _ (take_rest c.args.bytes.now at) c.loop-at.invariant stuck e)
    c.push_unread_bytes.ensures

pub returns : goal.returns
returns c = at_last IsUnitListing c.args.address c.args.bytes.now c.loop-at.at (string_bytes c.args.out.now) (string_bytes c.loop-at.out) c.loop-at-test.false c.loop-at.invariant (no_lines (c.args.address + c.loop-at.at))
