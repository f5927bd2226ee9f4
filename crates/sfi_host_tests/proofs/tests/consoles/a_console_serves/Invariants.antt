use Rattle.rv_mem.specs.Segments.{bytes_of}
use Rattle.sfi_host.specs.Slots.{bytes_in, IsWhole}
use Rattle.sfi_host_tests.proofs.tests.consoles.a_console_serves.Given as goal

abbrev pub invariant-loop-asked : goal.invariant-loop-asked
invariant-loop-asked g l = IsWhole (record { base = 25165824; size = 256 }) (bytes_in (record { base = 25165824; size = 256 }) (bytes_of l.memory))
