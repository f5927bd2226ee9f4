use Rattle.std.proofs.Common.{◌≡◌, ◌++◌, take}
use Rattle.std.specs.List.{flat_map}
use Rattle.sfi_native.specs.File.{access_bytes}
use Rattle.sfi_native.proofs.file.push_accesses.Given as goal

-- the accesses so far are written
abbrev pub invariant-loop-one : goal.invariant-loop-one
invariant-loop-one l = l.out.items ≡ l.initial.out.items ++ flat_map access_bytes (take l.one-index l.accesses)
