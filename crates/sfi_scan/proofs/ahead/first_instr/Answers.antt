use Rattle.sfi_scan.proofs.Prelude.{ap, refl, inl, Short}
use Rattle.sfi_scan.specs.declared.ahead.Ahead.{Ahead}
use Rattle.sfi_scan.proofs.Readings.{first_read, none_read, stuck_of}
use Rattle.sfi_scan.proofs.ahead.first_instr.Goals as goal

pub returns-in-Read : goal.returns-in-Read
returns-in-Read c = first_read c.args.bytes.now c.in-Read.instr c.in-Read.field-1 c.in-Read.ensures.front

pub returns-in-Short : goal.returns-in-Short
returns-in-Short c = λ later h. ap (λ (a : Ahead). a.first) (none_read c.args.bytes.now (stuck_of c.args.bytes.now Short (inl refl) c.in-Short.ensures.only) later h)

pub returns-in-Bad : goal.returns-in-Bad
returns-in-Bad c = λ later h. ap (λ (a : Ahead). a.first) (none_read c.args.bytes.now c.in-Bad.ensures.front.unspelled later h)
