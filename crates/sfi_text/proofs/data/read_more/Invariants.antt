use Rattle.std.proofs.Common.{◌≡◌, List, ◌++◌, ℤ, length}
use denote.Shadow.{shadow}
use denote.Text.{Utf8}
use Rattle.std.specs.List.{flat_map}
use Rattle.sfi_text.specs.Keywords.{data_kind}
use Rattle.sfi_text.specs.SoFar.{data_bytes}
use Rattle.sfi_text.specs.Lines.{LeadsByMore}
use Rattle.sfi_text.proofs.data.read_more.Given as goal

abbrev pub invariant-loop-next : goal.invariant-loop-next
invariant-loop-next l =
    shadow (Utf8 l.rest)
    × ((numbers : List ℤ) × LeadsByMore (data_kind l.width) numbers l.fn.text l.rest
    × (l.bytes.items ≡ l.fn.bytes.items ++ flat_map (data_bytes l.width) numbers))

abbrev pub decreases-loop-next : goal.decreases-loop-next
decreases-loop-next l = length l.rest
