use Rattle.sfi_link.proofs.Prelude.{drop, contents}
use Rattle.sfi_link.proofs.Linking.{CodesLeft}
use Rattle.sfi_link.proofs.linker.codes_of.Given as goal

abbrev pub invariant-loop-number : goal.invariant-loop-number
invariant-loop-number l = CodesLeft l.given l.number l.placed (drop l.number l.placed) (contents l.codes.items) l.spans.items
