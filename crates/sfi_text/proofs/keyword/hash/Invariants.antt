use Rattle.std.proofs.Common.{◌≡◌, ◌+◌, ◌*◌, ◌%◌, ◌<◌, fold, take}
use Rattle.sfi_text.proofs.keyword.hash.Given as goal

abbrev pub invariant-loop-byte : goal.invariant-loop-byte
invariant-loop-byte l = (l.hash ≡ fold (λ h c. (h * l.factor + c) % 256) l.fn.seed (take l.byte-index l.name)) × (l.hash < 256)
