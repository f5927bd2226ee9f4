use Rattle.std.proofs.lemmas.Result.{IfErr-weaker}
use Rattle.sfi_io.specs.declared.streams.Input.{Input}
use Rattle.sfi_tool.specs.Executing.{OfText, TellsOf}
use Rattle.sfi_tool.proofs.Prelude.{◌≡◌, subst, sym}
use Rattle.sfi_tool.proofs.Jobs.{tells_of_large}
use Rattle.sfi_tool.proofs.execution.exec.Goals as goal

pub returns-in-Whole-clause-tells : goal.returns-in-Whole-clause-tells
returns-in-Whole-clause-tells g c = IfErr-weaker c.execute_text.result _ _ (λ fault tells.
    let of = TellsOf (c.execute_text.new.errors ≡ c.args.errors.now) (g.E.Write.contents c.args.errors.now) (g.E.Write.contents c.execute_text.new.errors) fault in
    subst (λ (i : Input). OfText i of) (sym c.in-Whole.is) (subst of c.deref.ensures.value tells)) c.execute_text.ensures.tells

pub returns-in-TooLarge-clause-tells : goal.returns-in-TooLarge-clause-tells
returns-in-TooLarge-clause-tells g c =
    let of = TellsOf (c.say_too_large.new.errors ≡ c.args.errors.now) (g.E.Write.contents c.args.errors.now) (g.E.Write.contents c.say_too_large.new.errors) c.say_too_large.result in
    subst (λ (i : Input). OfText i of) (sym c.in-TooLarge.is)
    (λ text over. tells_of_large (c.say_too_large.new.errors ≡ c.args.errors.now) (g.E.Write.contents c.args.errors.now) (g.E.Write.contents c.say_too_large.new.errors) c.say_too_large.result text over c.say_too_large.ensures)
