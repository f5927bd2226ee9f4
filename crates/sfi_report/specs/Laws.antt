-- What holds of reports and listings.
use Rattle.std.specs.Prelude.{◌≡◌, List, ℕ}
use Rattle.sfi_image.specs.Spelling.{Part}
use Rattle.sfi_rules.specs.declared.finding.Finding.{Finding}
use Rattle.sfi_report.specs.Report.{IsReport}
use Rattle.sfi_report.specs.Listing.{IsListing}
use Rattle.sfi_report.specs.State.{IsStateText}
use Rattle.rv_step.specs.State.{Hart}

-- findings have at most one report
abbrev pub OneReport : Type 0
OneReport = (ps : List Part) (found : List Finding) (text other : List ℕ) → IsReport ps found text
    → IsReport ps found other → text ≡ other

-- an image has at most one listing
abbrev pub OneListing : Type 0
OneListing =
    (ps : List Part) (text other : List ℕ) → IsListing ps text → IsListing ps other → text ≡ other

-- the state of a sandbox has at most one text
abbrev pub OneState : Type 0
OneState = (sandbox : ℕ) (p : Part) (h : Hart) (text other : List ℕ) → IsStateText sandbox p h text
    → IsStateText sandbox p h other → text ≡ other
