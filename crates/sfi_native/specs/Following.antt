-- Lines that follow one another by address.
use Rattle.std.specs.Prelude.{◌≡◌, ℕ, ◌+◌, List, [], ◌∷◌}
use Rattle.sfi_translate.specs.Lines.{Line, Function, End, Entry, Head, Does}

-- the address of a line
abbrev pub address_of : Line → ℕ
address_of (Function sandbox at) = at
address_of (End at) = at
address_of (Entry at) = at
address_of (Head at) = at
address_of (Does at n i) = at

-- where what follows a line begins
abbrev pub next_address : Line → ℕ
next_address (Does at n i) = at + n
next_address line = address_of line

-- lines that begin at an address follow one another to an end
abbrev pub FollowFrom : ℕ → ℕ → List Line → Type 0
FollowFrom end at [] = at ≡ end
FollowFrom end at (line ∷ rest) = (address_of line ≡ at) × FollowFrom end (next_address line) rest
