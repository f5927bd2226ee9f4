use Rattle.std.proofs.Common.{subst, map}
use Rattle.std.specs.List.{IsDistinct}
use Rattle.std.specs.Str.{bytes_eq}
use Rattle.sfi_source.proofs.NameTable.{names_differ}
use Rattle.sfi_source.proofs.names.Names.len.Goals as goal

pub returns-clause-differ : goal.returns-clause-differ
returns-clause-differ c =
    subst (λ names. IsDistinct bytes_eq (map (λ e. e.0) names)) c.self.view_is
    (names_differ _ c.len.ensures.unique)
