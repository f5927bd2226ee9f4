use Rattle.std.proofs.lemmas.Result.{IfErr-weaker, IfOk-weaker}
use Rattle.std.proofs.Common.{List, subst}
use Rattle.sfi_image.specs.Spelling.{Part}
use Rattle.sfi_tool.specs.Executing.{Begins, Executes, IsAcceptedThat}
use Rattle.sfi_tool.proofs.Prelude.{◌≡◌, arith}
use Rattle.sfi_tool.proofs.Jobs.{or_image, tells_of_digits, tells_of_large, tells_of_text}
use Rattle.sfi_tool.proofs.execution.execute_text.Goals as goal

pub returns-then-text-gt-INPUT_LIMIT-clause-tells : goal.returns-then-text-gt-INPUT_LIMIT-clause-tells
returns-then-text-gt-INPUT_LIMIT-clause-tells g c =
    tells_of_large (c.say_too_large.new.errors ≡ c.args.errors.now) (g.E.Write.contents c.args.errors.now) (g.E.Write.contents c.say_too_large.new.errors) c.say_too_large.result c.args.text.now (omega (arith, c.if-text-gt-INPUT_LIMIT.true)) c.say_too_large.ensures

pub returns-in-Ok-clause-executes : goal.returns-in-Ok-clause-executes
returns-in-Ok-clause-executes g c = IfOk-weaker c.execute_image.result _ _ (λ ended ran. (
  c.in-Ok.bytes.items,
  c.in-Ok.ensures.bytes,
  subst (IsAcceptedThat (λ ps. Executes c.args.budget ps (g.R.Read.remaining c.args.reader.now) (g.R.Read.remaining c.execute_image.new.reader) (g.W.Write.contents c.args.writer.now)
      (g.W.Write.contents c.execute_image.new.writer) (g.E.Write.contents c.args.errors.now) (g.E.Write.contents c.execute_image.new.errors) ended)) c.deref.ensures.value ran,
)) c.execute_image.ensures.ran

pub returns-in-Ok-clause-tells : goal.returns-in-Ok-clause-tells
returns-in-Ok-clause-tells g c = IfErr-weaker c.execute_image.result _ _ (λ fault tells.
    tells_of_text (c.execute_image.new.errors ≡ c.args.errors.now) (g.E.Write.contents c.args.errors.now) (g.E.Write.contents c.execute_image.new.errors) fault c.args.text.now c.in-Ok.bytes.items c.deref.result.now
    c.in-Ok.ensures.bytes c.in-Ok.ensures.only_bytes c.deref.ensures.value tells) c.execute_image.ensures.tells

pub returns-in-Ok-clause-begins : goal.returns-in-Ok-clause-begins
returns-in-Ok-clause-begins g c = IfErr-weaker c.execute_image.result _ _ (λ e begun.
    or_image _ (IsAcceptedThat (λ (ps : List Part). Begins c.args.budget ps (g.R.Read.remaining c.args.reader.now) (g.W.Write.contents c.args.writer.now) (g.W.Write.contents c.execute_image.new.writer)))
    c.args.text.now c.in-Ok.bytes.items c.deref.result.now c.in-Ok.ensures.bytes c.deref.ensures.value begun) c.execute_image.ensures.begins

pub returns-in-Err-clause-tells : goal.returns-in-Err-clause-tells
returns-in-Err-clause-tells g c =
    tells_of_digits (c.say_stop.new.errors ≡ c.args.errors.now) (g.E.Write.contents c.args.errors.now) (g.E.Write.contents c.say_stop.new.errors) c.say_stop.result c.args.text.now c.in-Err.stop c.from.result
    (omega (arith, c.if-text-gt-INPUT_LIMIT.false)) c.in-Err.ensures.stop c.in-Err.ensures.only_bytes c.from.ensures c.say_stop.ensures
