-- What holds of every read and write: the laws, for proofs here and in the crates above.
use Rattle.rv_mem.specs.Laws.{AddressesAreThese, ReadIsHeld, OthersStay, WrittenIsThere, WriteKeepsMemory}
use Rattle.rv_mem.proofs.Accesses as accesses

pub addresses_are_these : AddressesAreThese
addresses_are_these = accesses.addresses_these

pub read_is_held : ReadIsHeld
read_is_held = accesses.read_held

pub others_stay : OthersStay
others_stay = accesses.others_stay

pub written_is_there : WrittenIsThere
written_is_there = accesses.written_there

pub write_keeps_memory : WriteKeepsMemory
write_keeps_memory = accesses.written_is
