use Rattle.rv_comp.proofs.Prelude.{◌≡◌, ◌<◌, ◌^◌, map, row_bit, row_fields, row_number}
use Rattle.rv_comp.proofs.Table.{rest_of}
use Rattle.rv_comp.proofs.encode.FormFields.halfword.Given as goal

-- the number of the bits so far, and what the others add to it
abbrev pub invariant-loop-place : goal.invariant-loop-place
invariant-loop-place l = record { small : l.halfword < 2 ^ l.place; rest : rest_of l.self l.row l.place l.halfword ≡ row_number (row_fields l.self) (map row_bit l.row) }
