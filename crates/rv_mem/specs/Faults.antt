-- The faults of adding bytes.
use Rattle.std.specs.Prelude.{ℕ}
use Rattle.rv_mem.specs.declared.fault.AddFault.{AddFault}
use Rattle.rv_mem.specs.declared.fault.AddFault.TheVariants.{Overlap, End, Memory}

-- the number by which a fault is known: the lowest that applies is answered
abbrev pub number_of : AddFault → ℕ
number_of Overlap = 1
number_of End = 2
number_of Memory = 3
