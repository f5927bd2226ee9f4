use Rattle.std.proofs.Common.{inl, inr, refl, Err}
use Rattle.sfi_text.specs.declared.cause.TextCause.TheVariants.{Word, Operands}
use Rattle.sfi_text.proofs.Meaning.{token_means, token_cause, only, only_cause, means_in_range}
use Rattle.sfi_text.proofs.parse.parse_instr.Goals as goal

pub returns-in-End-clause-only : goal.returns-in-End-clause-only
returns-in-End-clause-only c = only c.args.text.now (Err Operands) tt (inr (inl (c.in-End.ensures, refl)))

pub returns-in-End-clause-cause : goal.returns-in-End-clause-cause
returns-in-End-clause-cause c = inr (inl (c.in-End.ensures, refl))

pub returns-in-End-clause-only_cause : goal.returns-in-End-clause-only_cause
returns-in-End-clause-only_cause c = only_cause c.args.text.now (Err Operands) tt (inr (inl (c.in-End.ensures, refl)))

pub returns-in-Stuck-clause-only : goal.returns-in-Stuck-clause-only
returns-in-Stuck-clause-only c = only c.args.text.now (Err Word) tt (inl (c.in-Stuck.ensures, refl))

pub returns-in-Stuck-clause-cause : goal.returns-in-Stuck-clause-cause
returns-in-Stuck-clause-cause c = inl (c.in-Stuck.ensures, refl)

pub returns-in-Stuck-clause-only_cause : goal.returns-in-Stuck-clause-only_cause
returns-in-Stuck-clause-only_cause c = only_cause c.args.text.now (Err Word) tt (inl (c.in-Stuck.ensures, refl))

pub returns-in-Token-clause-means : goal.returns-in-Token-clause-means
returns-in-Token-clause-means c = token_means _ _ _ c.in-Token.ensures c.after_token.result c.after_token.ensures.ok

pub returns-in-Token-clause-only : goal.returns-in-Token-clause-only
returns-in-Token-clause-only c =
    only c.args.text.now c.after_token.result (token_means _ _ _ c.in-Token.ensures c.after_token.result c.after_token.ensures.ok) (token_cause _ _ _ c.in-Token.ensures c.after_token.result c.after_token.ensures.cause)

pub returns-in-Token-clause-in_range : goal.returns-in-Token-clause-in_range
returns-in-Token-clause-in_range c = means_in_range c.args.text.now c.after_token.result (token_means _ _ _ c.in-Token.ensures c.after_token.result c.after_token.ensures.ok)

pub returns-in-Token-clause-cause : goal.returns-in-Token-clause-cause
returns-in-Token-clause-cause c = token_cause _ _ _ c.in-Token.ensures c.after_token.result c.after_token.ensures.cause

pub returns-in-Token-clause-only_cause : goal.returns-in-Token-clause-only_cause
returns-in-Token-clause-only_cause c =
    only_cause c.args.text.now c.after_token.result (token_means _ _ _ c.in-Token.ensures c.after_token.result c.after_token.ensures.ok) (token_cause _ _ _ c.in-Token.ensures c.after_token.result c.after_token.ensures.cause)
