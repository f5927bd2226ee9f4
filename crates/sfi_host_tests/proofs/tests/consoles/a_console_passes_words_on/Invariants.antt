use Rattle.rv_mem.specs.Bytes.{Bytes}
use Rattle.rv_mem.specs.Segments.{bytes_of}
use Rattle.sfi_host.specs.Slots.{bytes_in, IsWhole}
use Rattle.sfi_host_tests.proofs.tests.consoles.a_console_passes_words_on.Given as goal

abbrev HasTestData : Bytes → Type 0
HasTestData m = IsWhole (record { base = 25165824; size = 256 }) (bytes_in (record { base = 25165824; size = 256 }) m)

abbrev pub invariant-loop-asked : goal.invariant-loop-asked
invariant-loop-asked g l = HasTestData (bytes_of l.memory)

abbrev pub invariant-loop-word : goal.invariant-loop-word
invariant-loop-word g l = HasTestData (bytes_of l.memory)

abbrev pub invariant-loop-word-2 : goal.invariant-loop-word-2
invariant-loop-word-2 g l = HasTestData (bytes_of l.memory)
