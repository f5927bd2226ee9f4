use Rattle.std.proofs.Common.{◌≡◌, ◌+◌, ◌++◌, ◌∷◌, drop, length, map, sym, ap, ◌∙◌, subst, arith, rules}
use Rattle.x86_step.specs.Running.{spellings}
use Rattle.sfi_native.specs.Faults.{accesses_of}
use Rattle.sfi_native.specs.Lines.{line_of}
use Rattle.sfi_native.specs.Places.{AreLast, code_of}
use Rattle.sfi_native.proofs.Compiled.{dropped_is, dropped_last, next_fits, next_placed, placed_length}
use Rattle.sfi_native.proofs.Fixups.{next_accesses}
use Rattle.sfi_native.proofs.compilation.place.Goals as goal

pub push_access-requires : goal.push_access-requires
push_access-requires c =
    let before : c.len.result ≡ length c.loop-n.out.items = search rules in
    omega (arith, before, next_fits c.args.plan.now c.args.lines.now c.loop-n.n c.index-lines-n.result c.loop-n.out.items c.loop-n-test.true c.index-lines-n.is c.requires.measured.1.few c.loop-n.invariant.bytes)

pub place_line-requires : goal.place_line-requires
place_line-requires c = record {
  fits = next_fits c.args.plan.now c.args.lines.now c.loop-n.n c.index-lines-n.result c.loop-n.out.items c.loop-n-test.true c.index-lines-n.is c.requires.measured.1.few c.loop-n.invariant.bytes;
}

pub loop-n-preserved : goal.loop-n-preserved
loop-n-preserved c =
    let lines = c.args.lines.now in
    let n = c.loop-n.n in
    let code = map line_of lines in
    let line = line_of c.index-lines-n.result in
    let rest = map line_of (drop (n + 1) lines) in
    let is = dropped_is lines n c.index-lines-n.result c.loop-n-test.true c.index-lines-n.is in
    let last : AreLast code (line ∷ rest) = subst (λ x. AreLast code x) is (dropped_last lines n) in
    let stands : c.loop-n.out.items ++ spellings (code_of c.args.plan.now code (line ∷ rest)) ≡ spellings (code_of c.args.plan.now code code) =
    ap (λ x. c.loop-n.out.items ++ spellings (code_of c.args.plan.now code x)) (sym is) ∙ c.loop-n.invariant.bytes in
    let noted : c.loop-n.accesses.items ++ accesses_of c.args.plan.now code (line ∷ rest) ≡ accesses_of c.args.plan.now code code =
    ap (λ x. c.loop-n.accesses.items ++ accesses_of c.args.plan.now code x) (sym is) ∙ c.loop-n.invariant.accesses in
    let here = placed_length c.args.plan.now code (line ∷ rest) c.loop-n.out.items stands in
    let before : c.len.result ≡ length c.loop-n.out.items = search rules in
    record {
      bytes = next_placed c.args.plan.now code rest line c.loop-n.out.items c.place_line.new.out.items (spellings (code_of c.args.plan.now code code)) last stands
          (c.in_ok-place_line.ensures code rest c.requires.measured.0 c.requires.measured.1 c.requires.all last here);
      accesses = next_accesses c.args.plan.now code rest line c.loop-n.accesses.items c.push_access.new.accesses.items (accesses_of c.args.plan.now code code) c.len.result (before ∙ here) noted c.in_ok-push_access.ensures;
    }
