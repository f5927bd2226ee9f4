use Rattle.sfi_scan.proofs.Prelude.{ℕ, ◌∙◌, sym, refl, inl, subst, List, Short, IsLongestReading}
use Rattle.sfi_scan.proofs.Readings.{both_read, none_read, stuck_of, tail_is}
use Rattle.sfi_scan.proofs.ahead.read_ahead.Goals as goal

pub returns-in-Read : goal.returns-in-Read
returns-in-Read c =
    both_read c.args.bytes.now c.in-Read.instr c.in-Read.size c.first_instr.result c.in-Read.ensures.front
    (λ later h. c.first_instr.ensures later (subst (λ (r : List ℕ). IsLongestReading r later) (sym (tail_is c.in-Read.size c.args.bytes.now)) h))

pub returns-in-Short : goal.returns-in-Short
returns-in-Short c = λ later h. c.none_ahead.ensures ∙ none_read c.args.bytes.now (stuck_of c.args.bytes.now Short (inl refl) c.in-Short.ensures.only) later h

pub returns-in-Bad : goal.returns-in-Bad
returns-in-Bad c = λ later h. c.none_ahead-in-Bad.ensures ∙ none_read c.args.bytes.now c.in-Bad.ensures.front.unspelled later h
