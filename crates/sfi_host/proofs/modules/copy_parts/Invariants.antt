use Rattle.sfi_host.proofs.Prelude.{◌≡◌, ◌++◌, drop, Format, views}
use Rattle.sfi_host.specs.Modules.{parts_of, HavePrograms}
use Rattle.sfi_host.proofs.modules.copy_parts.Given as goal

abbrev pub invariant-loop-part : goal.invariant-loop-part
invariant-loop-part l = record {
  parts : (format : Format) → parts_of format l.all.items ++ views format (drop l.part-index l.parts) ≡ views format l.parts;
  programs : (format : Format) → HavePrograms format l.all.items;
}
