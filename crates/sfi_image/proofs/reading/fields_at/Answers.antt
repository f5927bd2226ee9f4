use Rattle.sfi_image.proofs.Prelude.{append_assoc, fields}
use Rattle.sfi_image.proofs.reading.fields_at.Goals as goal

pub returns-clause-front : goal.returns-clause-front
unfolding fields
returns-clause-front c =
    rw (c.number_at-code_base.ensures.front, c.number_at-code_size.ensures.front, c.number_at-data_base.ensures.front, c.number_at-data_size.ensures.front, c.number_at-start.ensures.front, c.number_at-gate_count.ensures.front, c.number_at-init_len.ensures.front) (simp append_assoc)
