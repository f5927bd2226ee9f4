use Rattle.std.proofs.Common.{◌≡◌, ◌<◌, sym, ap, ◌∙◌, arith, length, take, drop}
use Rattle.std.proofs.lemmas.Bool.Decides.{nat_tests}
use Rattle.sfi_text.specs.private.Reading.{body_of, token_len}
use Rattle.sfi_text.proofs.Taking.{token_boundary, body_blank, stuck, takes_found}
use Rattle.sfi_text.proofs.lexer.next_token.Goals as goal
use Rattle.sfi_text.proofs.lexer.next_token.Goals.{Else-len-eq0, Else-is_empty, Then-len-eq0}

pub split_at-requires : goal.split_at-requires
split_at-requires c =
    let is_len : c.token_len-len.result ≡ token_len c.body-body.result.now = c.token_len-len.ensures.value ∙ ap token_len c.as_bytes.ensures.value in
    rw is_len (token_boundary c.body-body.result.now c.body-body.utf8 (omega arith))

pub returns-then-is_empty : goal.returns-then-is_empty
returns-then-is_empty c =
    let empty : length c.body-body.result.now ≡ 0 = grind (arith, nat_tests) in
    body_blank c.args.text.now (sym (ap length c.body-body.ensures) ∙ empty)

pub returns-then-len-eq0 : goal.returns-then-len-eq0
returns-then-len-eq0 c =
    let is_len : c.token_len-len.result ≡ token_len (body_of c.args.text.now) = c.token_len-len.ensures.value ∙ ap token_len (c.as_bytes.ensures.value ∙ c.body-body.ensures) in
    let some : 0 < length c.body-body.result.now = grind (arith, nat_tests) in
    stuck c.args.text.now (omega arith) (omega (arith, ap length c.body-body.ensures))

pub returns-else-len-eq0 : goal.returns-else-len-eq0
returns-else-len-eq0 c =
    let is_len : c.token_len-len.result ≡ token_len (body_of c.args.text.now) = c.token_len-len.ensures.value ∙ ap token_len (c.as_bytes.ensures.value ∙ c.body-body.ensures) in
    takes_found c.args.text.now c.split_at.result.0.now c.split_at.result.1.now (omega arith)
    (c.split_at.ensures.front ∙ (λ i. take (is_len i) (c.body-body.ensures i)))
    (c.split_at.ensures.back ∙ (λ i. drop (is_len i) (c.body-body.ensures i)))
