-- Words that private contracts and proofs alone cite: no public statement rests on them.
use Rattle.std.specs.Prelude.{◌≡◌, ℕ, ◌+◌, ◌-◌, ◌^◌, ◌≤◌, List, ◌++◌, length}
use Rattle.std.specs.List.{All}
use Rattle.sfi_formats.specs.declared.place.Place.{Place}
use Rattle.sfi_image.specs.declared.fields.Fields.{Fields}
use Rattle.sfi_image.specs.declared.part.Gate.{Gate}
use Rattle.sfi_image.specs.Spelling.{Part, IsWord}

-- ==== Numbers in an image's bytes that move with a region.

-- where the old bytes have the first piece at the offset, the new ones have the second, and all else is
-- the same
abbrev pub IsReplaced : List ℕ → List ℕ → ℕ → List ℕ → List ℕ → Type 0
IsReplaced old new offset piece other =
    (before after : List ℕ) → offset ≡ length before → old ≡ before ++ (piece ++ after)
    → new ≡ before ++ (other ++ after)

-- the address and the one as far from the other base have 32 bits
pub record GoesTo (from to at : ℕ) : Type 0 where
  pub above : from ≤ at
  pub here : IsWord at
  pub there : IsWord (to + (at - from))

-- each gate's does
abbrev pub GatesGo : ℕ → ℕ → List Gate → Type 0
GatesGo from to gs = All (λ (g : Gate). GoesTo from to g.address) gs

-- the sandbox lies at the first place and has `gate_count` gates, and its addresses can go to the
-- second
pub record CanMove (from to : Place) (gate_count : ℕ) (p : Part) : Type 0 where
  pub code_is : p.code_base ≡ from.code_base
  pub data_is : p.data_base ≡ from.data_base
  pub count_is : length p.gates ≡ gate_count
  pub code : GoesTo from.code_base to.code_base p.code_base
  pub data_goes : GoesTo from.data_base to.data_base p.data_base
  pub start : GoesTo from.code_base to.code_base p.start
  pub gates : GatesGo from.code_base to.code_base p.gates

-- the regions of a sandbox with these fields end within 32 bits at that place
pub record HasRoomThere (f : Fields) (to : Place) : Type 0 where
  pub code : to.code_base + f.code_size ≤ 2 ^ 32
  pub data_room : to.data_base + f.data_size ≤ 2 ^ 32
