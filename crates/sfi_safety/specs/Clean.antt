-- Images without a finding, and that they may run.
use Rattle.std.specs.Prelude.{ℕ, List, []}
use Rattle.sfi_image.specs.Parts.{IsImage, IsRightLayout}
use Rattle.sfi_image.specs.Spelling.{Part}
use Rattle.sfi_rules.specs.Findings.{AreImageFindings}
use Rattle.sfi_safe_runs.specs.Safety.{AllRunSafely}
use Rattle.sfi_safe_runs.specs.Calling.{AllCallTyped}

-- the layout is right, and no rule is broken
pub record IsClean (ps : List Part) : Type 0 where
  pub layout : IsRightLayout ps
  pub none_found : AreImageFindings ps []

-- the layout is right, no rule is broken, every run from every entry of each sandbox is safe, and
-- calls with the typed registers holding what their types say
pub record MayRun (ps : List Part) : Type 0 where
  pub clean : IsClean ps
  pub safe : AllRunSafely ps
  pub calls : AllCallTyped ps

-- the bytes are an image with these parts, in which no rule is broken
pub record IsAccepted (bytes : List ℕ) (ps : List Part) : Type 0 where
  pub image : IsImage bytes ps
  pub none_found : AreImageFindings ps []
