use Rattle.sfi_report.proofs.Prelude.{inl, inr, Read}
use Rattle.sfi_report.proofs.report.push_first_instruction.Goals as goal

pub unreachable-requires : goal.unreachable-requires
unreachable-requires c =
    let read = c.read_front.ensures.only (Read c.requires.instr c.requires.size) c.requires.spelled in
    elim c.in-Short.is [ inl short ↦ cc | inr bad ↦ cc ]
