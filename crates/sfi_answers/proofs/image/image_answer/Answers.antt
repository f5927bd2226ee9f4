use Rattle.std.proofs.Common.{ℕ, List, Option, Result, IfSome, false, subst}
use Rattle.std.proofs.lemmas.Result.{IfOk-weaker}
use Rattle.sfi_io.specs.Hexadecimal.{BeginsAsImage}
use Rattle.sfi_io.specs.declared.text.TextStop.{TextStop}
use Rattle.sfi_answers.specs.Answers.{on_image, check}
use Rattle.sfi_answers.specs.FaultTexts.{IsFaultLine}
use Rattle.sfi_answers.specs.private.{IsLineOf, SaysOf}
use Rattle.sfi_answers.proofs.Images.{all_begin, none_begins, of_front}
use Rattle.sfi_answers.proofs.InputPieces.{line_of_own, line_of_text, says_own, says_text}
use Rattle.sfi_answers.proofs.image.image_answer.Goals as goal

pub returns-then-begins_as_image-clause-says : goal.returns-then-begins_as_image-clause-says
returns-then-begins_as_image-clause-says g c =
    IfOk-weaker c.pieces_answer.result _ _
    (λ a h less. of_front (g.R.Read.remaining c.args.reader.now) (g.R.Read.remaining c.read_first_bytes.new.reader) _ c.in_ok-front.front.items c.as_slice.result.now
    BeginsAsImage (λ input. (on_image (check false)).says input a.status a.output.items) c.in_ok-front.ensures.front c.as_slice.ensures.value c.chain-whole.ensures.bytes
    (all_begin (g.R.Read.remaining c.args.reader.now) c.in_ok-front.front.items c.deref.result.now c.begins_as_image.result c.deref.ensures.value c.begins_as_image.ensures c.in_ok-front.ensures.begins c.if-begins_as_image.true)
    (says_own _ a.status a.output.items (subst (λ (o : Option (Result (List ℕ) TextStop)). IfSome o (λ r. SaysOf r a.status a.output.items)) c.new.ensures (h less))))
    c.pieces_answer.ensures.says

pub returns-then-begins_as_image-clause-line : goal.returns-then-begins_as_image-clause-line
returns-then-begins_as_image-clause-line g c =
    IfOk-weaker c.pieces_answer.result _ _
    (λ a h two. of_front (g.R.Read.remaining c.args.reader.now) (g.R.Read.remaining c.read_first_bytes.new.reader) _ c.in_ok-front.front.items c.as_slice.result.now
    BeginsAsImage (λ input. IsFaultLine (on_image (check false)) input a.output.items) c.in_ok-front.ensures.front c.as_slice.ensures.value c.chain-whole.ensures.bytes
    (all_begin (g.R.Read.remaining c.args.reader.now) c.in_ok-front.front.items c.deref.result.now c.begins_as_image.result c.deref.ensures.value c.begins_as_image.ensures c.in_ok-front.ensures.begins c.if-begins_as_image.true)
    (line_of_own _ a.output.items (subst (λ (o : Option (Result (List ℕ) TextStop)). IfSome o (λ r. IsLineOf r a.output.items)) c.new.ensures (h two))))
    c.pieces_answer.ensures.line

pub returns-clause-says : goal.returns-clause-says
returns-clause-says g c =
    IfOk-weaker c.pieces_answer-else-begins_as_image.result _ _
    (λ a h less. of_front (g.R.Read.remaining c.args.reader.now) (g.R.Read.remaining c.read_first_bytes.new.reader) _ c.in_ok-front.front.items c.as_slice.result.now
    (λ input. ¬ BeginsAsImage input) (λ input. (on_image (check false)).says input a.status a.output.items) c.in_ok-front.ensures.front c.as_slice.ensures.value c.chain-whole.ensures.bytes
    (none_begins (g.R.Read.remaining c.args.reader.now) c.in_ok-front.front.items c.deref.result.now c.begins_as_image.result c.deref.ensures.value c.begins_as_image.ensures c.in_ok-front.ensures.begins c.if-begins_as_image.false)
    (says_text _ a.status a.output.items (subst (λ (o : Option (Result (List ℕ) TextStop)). IfSome o (λ r. SaysOf r a.status a.output.items)) c.new-else-begins_as_image.ensures (h less))))
    c.pieces_answer-else-begins_as_image.ensures.says

pub returns-clause-line : goal.returns-clause-line
returns-clause-line g c =
    IfOk-weaker c.pieces_answer-else-begins_as_image.result _ _
    (λ a h two. of_front (g.R.Read.remaining c.args.reader.now) (g.R.Read.remaining c.read_first_bytes.new.reader) _ c.in_ok-front.front.items c.as_slice.result.now
    (λ input. ¬ BeginsAsImage input) (λ input. IsFaultLine (on_image (check false)) input a.output.items) c.in_ok-front.ensures.front c.as_slice.ensures.value c.chain-whole.ensures.bytes
    (none_begins (g.R.Read.remaining c.args.reader.now) c.in_ok-front.front.items c.deref.result.now c.begins_as_image.result c.deref.ensures.value c.begins_as_image.ensures c.in_ok-front.ensures.begins c.if-begins_as_image.false)
    (line_of_text _ a.output.items (subst (λ (o : Option (Result (List ℕ) TextStop)). IfSome o (λ r. IsLineOf r a.output.items)) c.new-else-begins_as_image.ensures (h two))))
    c.pieces_answer-else-begins_as_image.ensures.line
