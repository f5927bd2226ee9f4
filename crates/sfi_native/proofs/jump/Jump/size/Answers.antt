use Rattle.std.proofs.Common.{sym, ◌∙◌, arith}
use Rattle.sfi_native.proofs.Lists.{size_with_test, size_without_test}
use Rattle.sfi_native.proofs.jump.Jump.size.Goals as goal

pub returns-then-has_test : goal.returns-then-has_test
returns-then-has_test c =
    omega (arith, c.count_size-counted.ensures.is, c.leave_line_size.ensures.is, size_with_test c.args.owed c.args.self.now c.requires.few c.requires.few_at_label (sym c.has_test.ensures ∙ c.if-has_test.true))

pub returns-else-has_test : goal.returns-else-has_test
returns-else-has_test c =
    omega (arith, c.count_size-counted.ensures.is, size_without_test c.args.owed c.args.self.now c.requires.few c.requires.few_at_label (sym c.has_test.ensures ∙ c.if-has_test.false))
