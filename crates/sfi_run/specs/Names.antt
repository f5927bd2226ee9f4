-- What C is told of a table of names.
use Rattle.std.specs.Prelude.{◌≡◌, ℕ, List, ◌++◌, length, drop}
use Rattle.sfi_names.specs.Tables.{Named}

-- an entry is written: its name to the first bytes of a place, of which the others stay as they were, its length, its address
pub record IsToldEntry (e : Named) (old new : List ℕ) (size address : ℕ) : Type 0 where
  pub name_is : new ≡ e.name ++ drop (length e.name) old
  pub size_is : size ≡ length e.name
  pub address_is : address ≡ e.address
