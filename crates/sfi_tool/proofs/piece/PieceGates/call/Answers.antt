use Rattle.sfi_tool.proofs.Prelude.{ap, refl}
use Rattle.sfi_host.specs.Hosts.{asked, Call}
use Rattle.sfi_tool.proofs.Calls.{given_piece}
use Rattle.sfi_tool.proofs.piece.PieceGates.call.Goals as goal

pub returns-clause-answered : goal.returns-clause-answered
returns-clause-answered g c _ =
    let bytes = g.M.Memory.bytes in
    let is = given_piece (asked bytes c.args.guest.now) (asked bytes c.write.new.self) (asked bytes c.set0.new.self) c.args.self.now c.arg0.result c.write.result
    c.arg0.ensures c.write.ensures.there c.write.ensures.done c.write.ensures.refused c.set0.ensures.asked in
    record { way = refl; a0 = ap (λ (k : Call). k.a0) is; a1 = ap (λ (k : Call). k.a1) is; data_bytes = ap (λ (k : Call). k.bytes) is; state = refl }
