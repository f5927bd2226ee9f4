-- Two images in one memory: neither need know of the other, and they may be of different formats.
use Rattle.std.specs.Prelude.{◌≡◌, ◌≢◌, ℕ, List, [], ◌∷◌, ◌++◌, Some, slice_get}
use Rattle.std.specs.List.{All}
use Rattle.sfi_image.specs.declared.span.Span.{Span}
use Rattle.sfi_image.specs.Spelling.{Part, Holds, AreApart, AreClear, spans, zone_ends, code_region, guarded_region}
use Rattle.sfi_image.specs.Parts.{AreRight}
use Rattle.rv_mem.specs.Bytes.{Bytes, byte_at}
use Rattle.rv_step.specs.State.{Hart, State}
use Rattle.rv_step.specs.Step.{Stepped}
use Rattle.sfi_safe_runs.specs.Runs.{Setting, Steps, IsTurnAs, IsChange, IsChangeAs}
use Rattle.sfi_safe_runs.specs.Safety.{AllRunSafely, RunsSafelyFromAs}
use Rattle.sfi_safe_runs.specs.Calling.{AllCallTyped}
use Rattle.sfi_safety.specs.Clean.{IsClean}

-- no code region and no data with its guard zones of the first image meets one of the second, nor a
-- zone at zero of the other
pub record AreBeside (ps qs : List Part) : Type 0 where
  pub apart : All (λ (s : Span). All (λ (t : Span). AreApart s t) (spans qs)) (spans ps)
  pub clear : AreClear (zone_ends ps) (spans qs)
  pub other_clear : AreClear (zone_ends qs) (spans ps)

-- all that a world asks of the sandboxes of one clean image holds of those of two clean images that
-- lie beside one another: each passes its tests, no two of all their spans meet, each runs safely,
-- and calls with its typed registers set
abbrev pub BesideIsAsOne : Type 0
BesideIsAsOne =
    (ps qs : List Part) → IsClean ps → IsClean qs → AreBeside ps qs
    → AreRight (ps ++ qs) × AllRunSafely (ps ++ qs) × AllCallTyped (ps ++ qs)

-- two images lie beside one another where each sandbox of the first does with each of the second
abbrev pub BesideByPairs : Type 0
BesideByPairs =
    (ps qs : List Part)
    → All (λ (p : Part). All (λ (q : Part). AreBeside (p ∷ []) (q ∷ [])) qs) ps → AreBeside ps qs

-- two sandboxes of a right layout, as that of one image or of two, lie beside one another
abbrev pub RightAreBeside : Type 0
RightAreBeside =
    (ps : List Part) (i j : ℕ) (p q : Part) → AreRight ps → i ≢ j
    → slice_get ps i ≡ Some p → slice_get ps j ≡ Some q → AreBeside (p ∷ []) (q ∷ [])

-- ==== What one of them does is, to the other, a change by others.

-- Where no byte outside a sandbox's code and its data with their guard zones changes, as by a host's write, by
-- a reply, or where its code is put there, that is a change by others to each sandbox beside it, whatever
-- its registers are.
abbrev pub ChangesBesideAreOthers : Type 0
ChangesBesideAreOthers =
    (p q : Part) (h : Hart) (m n : Bytes) → AreBeside (p ∷ []) (q ∷ [])
    → ((a : ℕ) → (Holds (code_region p) a → ⊥) → (Holds (guarded_region p) a → ⊥)
    → byte_at n a ≡ byte_at m a)
    → IsChange q (record { hart = h; memory = m }) (record { hart = h; memory = n })

-- so is each step of a sandbox from a state from which every run is safe, in whatever settings the two are
abbrev pub StepsBesideAreChanges : Type 0
StepsBesideAreChanges =
    (t u : Setting) (p q : Part) (s : State) (r : Stepped) (h : Hart)
    → AreBeside (p ∷ []) (q ∷ []) → RunsSafelyFromAs t p s → IsTurnAs t p s (Steps r)
    → IsChangeAs u q (record { hart = h; memory = s.memory })
    (record { hart = h; memory = r.state.memory })
