-- What C is told of an image's bytes.
use Rattle.std.specs.Prelude.{◌≡◌, ◌≤◌, ℕ, List, ◌∷◌, length}
use Rattle.sfi_image.specs.declared.fault.LayoutFault.{LayoutFault}
use Rattle.sfi_image.specs.Spelling.{Part}
use Rattle.sfi_image.specs.Faults.{IsFault, number_of as fault_number}
use Rattle.sfi_rules.specs.declared.finding.Finding.{Finding}
use Rattle.sfi_rules.specs.Rules.{number_of as rule_number}
use Rattle.sfi_safe_runs.specs.Safety.{AllRunSafely}
use Rattle.sfi_safety.specs.Clean.{IsAccepted}
use Rattle.sfi_check.specs.Verdict.{HasFindings, bundle_count}
use Rattle.sfi_check.specs.declared.for_c.SfiFinding.{SfiFinding}
use Rattle.sfi_check.specs.declared.for_c.SfiVerdict.{SfiVerdict}
use Rattle.sfi_check.specs.declared.for_c.Status.{Status}
use Rattle.sfi_check.specs.declared.for_c.Status.TheVariants.{Accepted, Refused, NoImage}

-- ---- the numbers of the statuses

abbrev pub number_of : Status → ℕ
number_of Accepted = 0
number_of Refused = 1
number_of NoImage = 2

-- ---- findings

-- a finding, with its rule by number
abbrev pub finding_for_c : Finding → SfiFinding
finding_for_c f = record { sandbox = f.sandbox; address = f.address; rule = rule_number f.rule }

-- no finding: zeros
abbrev pub no_finding : SfiFinding
no_finding = record { sandbox = 0; address = 0; rule = 0 }

-- ---- verdicts: what a status doesn't speak of is 0

-- the verdict on an accepted image with these numbers of sandboxes and bundles
abbrev pub acceptance : ℕ → ℕ → SfiVerdict
acceptance sandboxes bundles = record {
  status = number_of Accepted;
  layout_fault = 0;
  sandboxes = sandboxes;
  bundles = bundles;
  findings = 0;
  first = no_finding;
}

-- the verdict on an image with `count` findings, the first of which is `first`
abbrev pub refusal : ℕ → Finding → SfiVerdict
refusal count first = record {
  status = number_of Refused;
  layout_fault = 0;
  sandboxes = 0;
  bundles = 0;
  findings = count;
  first = finding_for_c first;
}

-- the verdict on bytes that are no image, by the number of the layout's fault
abbrev pub no_image : ℕ → SfiVerdict
no_image fault = record {
  status = number_of NoImage;
  layout_fault = fault;
  sandboxes = 0;
  bundles = 0;
  findings = 0;
  first = no_finding;
}

-- ---- what verdicts say of bytes

-- the bytes are an image in which no rule is broken, and every run of each of its sandboxes is safe
pub record IsAcceptance (bytes : List ℕ) (v : SfiVerdict) : Type 0 where
  pub parts : List Part
  pub accepted : IsAccepted bytes parts
  pub safe : AllRunSafely parts
  pub verdict_is : v ≡ acceptance (length parts) (bundle_count parts)

-- the bytes are an image with findings: `first`, and then `rest`
pub record IsRefusal (bytes : List ℕ) (first : Finding) (rest : List Finding)
    (v : SfiVerdict) : Type 0 where
  pub found : HasFindings bytes (first ∷ rest)
  pub verdict_is : v ≡ refusal (length (first ∷ rest)) first

-- the bytes are no image
pub record IsLayoutFault (bytes : List ℕ) (v : SfiVerdict) : Type 0 where
  pub fault : LayoutFault
  pub is : IsFault bytes fault
  pub verdict_is : v ≡ no_image (fault_number fault)

-- The verdict on the bytes: what each status means, and which bytes get it. Accepted means that
-- every run of each sandbox is safe.
pub record IsVerdictForC (bytes : List ℕ) (v : SfiVerdict) : Type 0 where
  pub known : v.status ≤ 2
  pub accepted : v.status ≡ number_of Accepted → IsAcceptance bytes v
  pub refused : v.status ≡ number_of Refused → (first : Finding) × (rest : List Finding)
      × IsRefusal bytes first rest v
  pub layout : v.status ≡ number_of NoImage → IsLayoutFault bytes v
  pub only_accepted :
      (ps : List Part) → IsAccepted bytes ps → v ≡ acceptance (length ps) (bundle_count ps)
  pub only_refused : (first : Finding) (rest : List Finding) → HasFindings bytes (first ∷ rest)
      → v ≡ refusal (length (first ∷ rest)) first
  pub only_layout : (k : LayoutFault) → IsFault bytes k → v ≡ no_image (fault_number k)
