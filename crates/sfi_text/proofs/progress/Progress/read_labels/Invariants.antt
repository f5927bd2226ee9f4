use Rattle.std.proofs.Common.{ℕ, List, length}
use denote.Text.{Utf8}
use denote.Shadow.{shadow}
use Rattle.sfi_text.specs.Texts.{LabelsLead}
use Rattle.sfi_text.proofs.progress.Progress.read_labels.Given as goal

abbrev pub invariant-loop-name : goal.invariant-loop-name
invariant-loop-name l = shadow (Utf8 l.text) × ((names : List (List ℕ)) × LabelsLead names l.fn.self l.line l.self l.text)

abbrev pub decreases-loop-name : goal.decreases-loop-name
decreases-loop-name l = length l.text
