use Rattle.std.proofs.Common.{ℕ, List, inr, sym, subst, Result, Ok, Err, OnOk}
use Rattle.sfi_text.specs.declared.cause.TextCause.{TextCause}
use Rattle.sfi_text.specs.SoFar.{SoFar}
use Rattle.sfi_text.specs.Tokens.{Takes}
use Rattle.sfi_text.specs.Texts.{PassesLabels, Leads}
use Rattle.sfi_text.specs.private.Lines.{LeadsFrom}
use Rattle.sfi_text.specs.private.Reading.{IsNext}
use Rattle.sfi_text.proofs.progress.Progress.line.Goals as goal

-- a line's labels, and then a statement that begins with this token
statement_leads : {T : Type 0} (r : Result T TextCause) (line : ℕ) (old middle new : SoFar) (text front token rest : List ℕ)
    → PassesLabels old text middle front → Takes front token rest → OnOk r (LeadsFrom line token rest middle new)
    → OnOk r (Leads line old text new)
statement_leads (Ok u) line old middle new text front token rest passes takes (k, named, leads) =
    (middle, front, passes, inr (k, rest, subst (λ t. Takes front t rest) (sym named) takes, leads))
statement_leads (Err e) line old middle new text front token rest passes takes leads = tt

pub returns-in-Token-clause-leads : goal.returns-in-Token-clause-leads
returns-in-Token-clause-leads c =
    let p = c.in_ok-read_labels.ensures.passes in
    statement_leads c.statement.result _ _ c.read_labels.new.self _ _ p.0 _ _ p.1 (subst (λ n. IsNext p.0 n) c.in-Token.is p.2) c.statement.ensures.leads
