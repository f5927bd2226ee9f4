use Rattle.sfi_host.proofs.Prelude.{◌≡◌, ◌++◌, map, drop}
use Rattle.sfi_host.specs.Modules.{program_in}
use Rattle.sfi_host.specs.Modules.{programs_of}
use Rattle.sfi_host.proofs.modules.share_programs.Given as goal

abbrev pub invariant-loop-part : goal.invariant-loop-part
invariant-loop-part l = programs_of l.all.items ++ map program_in (drop l.part-index l.parts) ≡ map program_in l.parts
