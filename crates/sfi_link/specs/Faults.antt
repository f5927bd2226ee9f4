-- Why what is placed can't be linked, and what a linker answers.
use Rattle.std.specs.Prelude.{◌≡◌, ◌⊎◌, ℕ, ◌+◌, ◌++◌, ◌<◌, ◌≤◌, pos, ◌-ℤ◌, List, [], ◌∷◌, length, Option, Some, None, Result, Ok, Err, Vec}
use Rattle.rv_word.specs.declared.instr.Instr.{Instr}
use Rattle.rv_word.specs.Spelling.{InRange}
use Rattle.sfi_formats.specs.Limits.{sandboxes_most}
use Rattle.sfi_formats.specs.Places.{place_of}
use Rattle.sfi_image.specs.declared.span.Span.{Span}
use Rattle.sfi_image.specs.Spelling.{Part, spans}
use Rattle.sfi_formats.specs.declared.place.Place.{Place}
use Rattle.sfi_rewrite.specs.declared.slot.BundleSlot.{BundleSlot}
use Rattle.sfi_rewrite.specs.declared.slot.BundleSlot.TheVariants.{Wide, Short, Jump, Upper, Lower, Region}
use Rattle.sfi_rewrite.specs.declared.placed.PlacedName.{PlacedName}
use Rattle.sfi_rewrite.specs.Expansion.{slot_size, slots_of}
use Rattle.sfi_rewrite.specs.Placement.{Placement}
use Rattle.sfi_link.specs.declared.bases.Bases.{Bases}
use Rattle.sfi_link.specs.declared.fault.LinkFault.{LinkFault}
use Rattle.sfi_link.specs.declared.fault.LinkFault.TheVariants.{UnknownName, BranchReach, TooLarge, TooManySandboxes, Memory}
use Rattle.sfi_link.specs.declared.fault.LinkFault.TheVariants as fault
use Rattle.sfi_link.specs.Code.{value_at, base_at, target_at, with_offset, bases_of, IsSlot}
use Rattle.sfi_link.specs.Linked.{needed, HasRoom, IsCodeSize, IsLinked, IsRightPlace, spans_at, ends_at, LieApart}
use Rattle.std.specs.Global.{Global}

-- ==== Why what is placed can't be linked.

-- the number of a fault
abbrev pub number_of : LinkFault → ℕ
number_of (UnknownName line) = 1
number_of (BranchReach line) = 2
number_of (TooLarge sandbox) = 3
number_of TooManySandboxes = 4
number_of Memory = 5
number_of (fault.Place sandbox) = 6

-- ---- of a slot

-- the fault of a name on that line that names nothing
abbrev pub IsUnknown : Option ℕ → ℕ → LinkFault → Type 0
IsUnknown address line f = (address ≡ None) × (f ≡ UnknownName line)

-- the fault of a jump on that line that doesn't reach its target from `here`
abbrev pub IsOutOfReach : ℕ → Instr → Option ℕ → ℕ → LinkFault → Type 0
IsOutOfReach here i target line f =
    (to : ℕ) × (target ≡ Some to) × (¬ InRange (with_offset (pos to -ℤ pos here) i))
    × (f ≡ BranchReach line)

-- the fault of the slot that stands at `here`; no jump leads to a name that is neither a gate's nor
-- a place's in the code, so that it counts as unknown
abbrev pub HasSlotFault : Bases → List PlacedName → ℕ → BundleSlot → LinkFault → Type 0
HasSlotFault at names here (Wide i) f = ⊥
HasSlotFault at names here (Short form) f = ⊥
HasSlotFault at names here (Jump i name line) f =
    IsUnknown (target_at at names name) line f
    ⊎ IsOutOfReach here i (target_at at names name) line f
HasSlotFault at names here (Upper rd name line) f = IsUnknown (value_at at names name) line f
HasSlotFault at names here (Lower rd name line) f = IsUnknown (value_at at names name) line f
HasSlotFault at names here (Region rd name line) f = IsUnknown (base_at names name) line f

-- this is the fault of the first slot from `here` on that has one; the slots before it have bytes
abbrev pub IsSlotFault : Bases → List PlacedName → ℕ → List BundleSlot → LinkFault → Type 0
IsSlotFault at names here [] f = ⊥
IsSlotFault at names here (s ∷ slots) f =
    HasSlotFault at names here s f
    ⊎ ((bytes : List ℕ) × IsSlot at names here s bytes
    × IsSlotFault at names (here + slot_size s) slots f)

-- ---- of a sandbox

-- no code region has room for the stubs, the code and one c.ebreak
abbrev pub IsTooLarge : Placement → Type 0
IsTooLarge p = (size : ℕ) → HasRoom p.format (needed p) size → ⊥

-- sandbox `number` may lie at its place, where the sandboxes before it have the spans `before`, and zones
-- at zero that end at `ends`: no two of its own two spans and of those meet, and each lies clear of each
-- zone, its own included
pub record MayLie (given : List Place) (number : ℕ) (p : Placement) (ends : List ℕ)
    (before : List Span) : Type 0 where
  pub size : ℕ
  pub least : IsCodeSize p.format (needed p) size
  pub right : IsRightPlace p size (place_of given p.format number)
  pub apart : LieApart (ends ++ ends_at p)
      (before ++ spans_at p size (place_of given p.format number))

-- The fault of sandbox `number`, where the sandboxes before it have the spans `before`, and zones at zero
-- that end at `ends`: being too large goes first, then its place, then its instructions.
abbrev pub HasPartFault :
    List Place → ℕ → Placement → List ℕ → List Span → LinkFault → Type 0
HasPartFault given number p ends before f =
    (IsTooLarge p × (f ≡ TooLarge number))
    ⊎ ((¬ IsTooLarge p) × (¬ MayLie given number p ends before) × (f ≡ fault.Place number))
    ⊎ (MayLie given number p ends before × IsSlotFault (bases_of given number p) p.names
    (bases_of given number p).start (slots_of p.bundles) f)

-- the first of the sandboxes that has a fault has this one; those before it can be linked, and lie apart,
-- clear of all their zones at zero. The first of all has that number, and comes after others in the
-- list, which have those spans, and zones at zero that end there.
abbrev pub IsPartFault :
    List Place → ℕ → List ℕ → List Span → List Placement → LinkFault → Type 0
IsPartFault given number ends before [] f = ⊥
IsPartFault given number ends before (p ∷ placed) f =
    HasPartFault given number p ends before f
    ⊎ ((q : Part) × IsLinked given number p q
    × LieApart (ends ++ ends_at p) (before ++ spans (q ∷ []))
    × IsPartFault given (number + 1) (ends ++ ends_at p) (before ++ spans (q ∷ [])) placed f)

-- ---- of all that is placed

-- the fault of what is placed: too many sandboxes, or the first place without a sandbox, or that
-- of the first sandbox that has one, in the order of the text
abbrev pub IsLinkFault : List Place → List Placement → LinkFault → Type 0
IsLinkFault given placed f =
    ((sandboxes_most < length placed) × (f ≡ TooManySandboxes))
    ⊎ ((length placed ≤ sandboxes_most) × (length placed < length given)
    × (f ≡ fault.Place (length placed)))
    ⊎ ((length placed ≤ sandboxes_most) × (length given ≤ length placed)
    × IsPartFault given 0 [] [] placed f)

-- ==== What a linker answers, want of memory aside.

-- what holds of a fault, where that isn't want of memory
abbrev pub UnlessMemory : (LinkFault → Type 0) → LinkFault → Type 0
UnlessMemory P Memory = Unit {0}
UnlessMemory P f = P f

-- the answer is a list of these items, or memory ran out
abbrev pub AnswersItems : {X : Type 0} → List X → Result (Vec X Global) LinkFault → Type 0
AnswersItems items (Ok v) = v.items ≡ items
AnswersItems items (Err f) = f ≡ Memory

-- the answer is this fault, or memory ran out
abbrev pub AnswersFault : {X : Type 0} → LinkFault → Result X LinkFault → Type 0
AnswersFault f answer = (answer ≡ Err f) ⊎ (answer ≡ Err Memory)
