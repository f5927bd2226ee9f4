use Rattle.sfi_scan.proofs.Prelude.{subst, Op, And, Or, IsWordOf}
use Rattle.sfi_scan.proofs.FirstLook.{pair_told}
use Rattle.sfi_scan.proofs.clean.Words.is_pair.Goals as goal

pub returns : goal.returns
returns c = pair_told c.args.self c.args.pair.mask c.args.pair.base c.args.target c.numbered-any.result
    (subst (λ w. IsWordOf w (Op And c.args.target c.numbered-any.result c.args.pair.mask)) c.if-masking-self.false
    (subst (λ m. IsWordOf c.op_word-masking.result (Op And c.args.target c.numbered-any.result m)) c.numbered-mask.ensures c.op_word-masking.ensures))
    (subst (λ w. IsWordOf w (Op Or c.args.target c.args.target c.args.pair.base)) c.if-placing-self.false
    (subst (λ m. IsWordOf c.op_word-placing.result (Op Or c.args.target c.args.target m)) c.numbered-base.ensures c.op_word-placing.ensures))
    _ c.may_be_target.ensures
