use Rattle.sfi_text.specs.declared.keyword.Keyword.TheVariants.{Instr}
use Rattle.sfi_text.proofs.NameTables.{mnemonic_of_name, no_mnemonic_of_name}
use Rattle.sfi_text.proofs.mnemonic.Mnemonic.from_name.Goals as goal

pub returns-in-Some-clause-some : goal.returns-in-Some-clause-some
returns-in-Some-clause-some c = mnemonic_of_name c.args.name.now c.in-Some.keyword c.mnemonic.result c.mnemonic.ensures c.in-Some.ensures.some

pub returns-in-Some-clause-none : goal.returns-in-Some-clause-none
returns-in-Some-clause-none c = no_mnemonic_of_name c.args.name.now c.in-Some.keyword c.mnemonic.result c.mnemonic.ensures c.in-Some.ensures.some

pub returns-in-None-clause-none : goal.returns-in-None-clause-none
returns-in-None-clause-none c = λ m named. c.in-None.ensures.none (Instr m) named
