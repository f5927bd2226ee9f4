use Rattle.std.proofs.Common.{false, inr}
use Rattle.sfi_answers.specs.Answers.{IsAcceptedImage, check}
use Rattle.sfi_tool.specs.Executing.{IsRefusalLine, Tells}
use Rattle.sfi_tool.proofs.Prelude.{◌≡◌, List, ℕ}
use Rattle.sfi_tool.proofs.Calls.{if_err}
use Rattle.sfi_tool.proofs.Jobs.{interrupted, tells_nothing, tells_refused}
use Rattle.sfi_tool.proofs.execution.execute_image.Goals as goal

pub returns-in_err-execute_accepted-in-Ok-clause-tells : goal.returns-in_err-execute_accepted-in-Ok-clause-tells
returns-in_err-execute_accepted-in-Ok-clause-tells g c =
    let refuses : List ℕ → Type 0 = λ line. (¬ IsAcceptedImage c.args.bytes.now) × IsRefusalLine (check false) c.args.bytes.now line in
    let same = c.execute_accepted.new.errors ≡ c.args.errors.now in
    let old = g.E.Write.contents c.args.errors.now in
    let new = g.E.Write.contents c.execute_accepted.new.errors in
    let interruption = c.in_err-execute_accepted-in-Ok.field-0.0 in
    interrupted c.from_residual.result interruption (Tells (IsAcceptedImage c.args.bytes.now) refuses same old new) c.from_residual.ensures.1
    (tells_nothing (IsAcceptedImage c.args.bytes.now) refuses same old new interruption (c.in-Ok.accepted, c.in-Ok.ensures.accepted) c.in_err-execute_accepted-in-Ok.ensures.silent)

pub returns-in_err-execute_accepted-in-Ok-clause-begins : goal.returns-in_err-execute_accepted-in-Ok-clause-begins
returns-in_err-execute_accepted-in-Ok-clause-begins g c = if_err _ _ (inr (c.in-Ok.accepted, c.in-Ok.ensures.accepted, c.in_err-execute_accepted-in-Ok.ensures.begins))

pub returns-in-Err-clause-tells : goal.returns-in-Err-clause-tells
returns-in-Err-clause-tells g c = tells_refused (c.say_refusal.new.errors ≡ c.args.errors.now) (g.E.Write.contents c.args.errors.now) (g.E.Write.contents c.say_refusal.new.errors) c.say_refusal.result
    (IsAcceptedImage c.args.bytes.now) (λ line. (¬ IsAcceptedImage c.args.bytes.now) × IsRefusalLine (check false) c.args.bytes.now line) c.say_refusal.ensures
