use Rattle.sfi_link.proofs.Prelude.{◌≡◌, ◌++◌, drop, views, contents, parts_with, each_with, set_init}
use Rattle.sfi_link.proofs.linker.linked_parts.Given as goal

abbrev pub invariant-loop-number : goal.invariant-loop-number
invariant-loop-number l =
    let codes = contents l.codes in
    let inits = contents l.inits in
    views l.fn.format l.parts.items ++ each_with set_init (drop l.number inits) (parts_with l.given l.number (drop l.number l.placed) (drop l.number codes))
    ≡ each_with set_init inits (parts_with l.given 0 l.placed codes)
