use Rattle.std.proofs.Common.{refl}
use Rattle.sfi_text.proofs.Lines.{plain_reads, plain_departs}
use Rattle.sfi_text.proofs.line.read_instr.Goals as goal

pub returns-in-Ok : goal.returns-in-Ok
returns-in-Ok c =
    record {
      ok = plain_reads c.args.name _ _ (c.in_default.not-Branch, c.in_default.not-Jal) (c.in-Ok.instr, c.in-Ok.ensures.ok, refl);
      cause = tt;
    }

pub returns-in-Err : goal.returns-in-Err
returns-in-Err c =
    record {
      ok = tt;
      cause = plain_departs c.args.name _ _ (c.in_default.not-Branch, c.in_default.not-Jal) c.in-Err.ensures.cause;
    }
