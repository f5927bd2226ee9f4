-- Laws of the pairs and of the stub.
use Rattle.std.specs.Prelude.{◌≡◌, ◌↔◌, ℕ, [], ◌∷◌, true}
use Rattle.std.specs.List.{flat_map}
use Rattle.std.specs.Int.{w32, to_le_bytes}
use Rattle.rv_word.specs.declared.instr.Instr.{Instr}
use Rattle.rv_word.specs.Spelling.{spelling}
use Rattle.sfi_pairs.specs.Pairs.{pair, is_pair, gate_stub, stub}
use Rattle.sfi_pairs.specs.declared.stub.TheConstants.{STUB}

-- the test finds the pairs and nothing else
abbrev pub PairsAreFound : Type 0
PairsAreFound =
    (mask base target : ℕ) (first second : Instr)
    → (is_pair mask base target first second ≡ true)
    ↔ ((a : ℕ) × ((first ∷ second ∷ []) ≡ pair mask base target a))

-- the stub's bytes spell its instructions, each in four bytes
abbrev pub StubIsSpelled : Type 0
StubIsSpelled = stub ≡ flat_map (λ i. to_le_bytes w32 (spelling i)) gate_stub

-- the stub of the code is that of the definitions
abbrev pub StubAgrees : Type 0
StubAgrees = STUB ≡ stub
