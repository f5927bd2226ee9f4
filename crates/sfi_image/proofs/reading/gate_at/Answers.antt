use Rattle.sfi_image.proofs.Prelude.{append_assoc, gate}
use Rattle.sfi_image.proofs.reading.gate_at.Goals as goal

pub returns-clause-front : goal.returns-clause-front
unfolding gate
returns-clause-front c = rw (c.number_at-address.ensures.front, c.number_at-service.ensures.front) (simp append_assoc)
