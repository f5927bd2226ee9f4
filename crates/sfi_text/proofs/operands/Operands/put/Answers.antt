use Rattle.std.proofs.Common.{Result, Ok, Err, OnErr}
use Rattle.sfi_text.specs.Operands.{OperandValues, Stands}
use Rattle.sfi_text.proofs.operands.Operands.put.Goals as goal

-- what holds at all holds where the result is an error
on_err : {T E X : Type 0} (r : Result T E) → X → OnErr r X
on_err (Ok x) holds = tt
on_err (Err e) holds = holds

pub returns-in_err-self-in-Rd-clause-err : goal.returns-in_err-self-in-Rd-clause-err
returns-in_err-self-in-Rd-clause-err c =
    let no : (o : OperandValues) → Stands o c.args.part c.args.token.now → ⊥ = λ o h. c.in_err-self-in-Rd.ensures.err o.rd (rw c.in-Rd.is at h) in
    on_err c.from_residual.result no

pub returns-in_err-self-in-Rs1-clause-err : goal.returns-in_err-self-in-Rs1-clause-err
returns-in_err-self-in-Rs1-clause-err c =
    let no : (o : OperandValues) → Stands o c.args.part c.args.token.now → ⊥ = λ o h. c.in_err-self-in-Rs1.ensures.err o.rs1 (rw c.in-Rs1.is at h) in
    on_err c.from_residual-in_err-self-in-Rs1.result no

pub returns-in_err-self-in-Rs2-clause-err : goal.returns-in_err-self-in-Rs2-clause-err
returns-in_err-self-in-Rs2-clause-err c =
    let no : (o : OperandValues) → Stands o c.args.part c.args.token.now → ⊥ = λ o h. c.in_err-self-in-Rs2.ensures.err o.rs2 (rw c.in-Rs2.is at h) in
    on_err c.from_residual-in_err-self-in-Rs2.result no
