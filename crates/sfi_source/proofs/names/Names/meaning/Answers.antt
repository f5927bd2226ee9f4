use Rattle.std.proofs.Common.{ap, ◌∙◌}
use Rattle.std.specs.Option.{unwrap_or}
use Rattle.sfi_source.specs.declared.item.Named.TheVariants.{Unknown}
use Rattle.sfi_source.specs.Names.{meaning}
use Rattle.sfi_source.proofs.NameTable.{looked_up}
use Rattle.sfi_source.proofs.names.Names.meaning.Goals as goal

pub returns-in-Some : goal.returns-in-Some
returns-in-Some c =
    ap (λ v. unwrap_or v Unknown) c.in-Some.ensures.value
    ∙ looked_up c.args.name.now c.self.inside.named.entries
    ∙ ap (λ names. meaning names c.args.name.now) c.self.view_is

pub returns-in-None : goal.returns-in-None
returns-in-None c =
    ap (λ v. unwrap_or v Unknown) c.in-None.ensures.value
    ∙ looked_up c.args.name.now c.self.inside.named.entries
    ∙ ap (λ names. meaning names c.args.name.now) c.self.view_is
