use Rattle.std.proofs.lemmas.Bool.{false≢true}
use Rattle.sfi_text.proofs.Taking.{blank_takes_none}
use Rattle.sfi_text.proofs.parse.is_bare_fence.Goals as goal

pub returns-in-Token : goal.returns-in-Token
returns-in-Token c = (λ h. absurd (false≢true h), λ h. absurd (blank_takes_none _ _ _ h.1 c.in-Token.ensures))
