use Rattle.sfi_io.proofs.Prelude.{take, drop, ◌-◌}
use Rattle.sfi_io.proofs.Ahead.{digit_fault}
use Rattle.sfi_io.proofs.text.HexReader.fault.Goals as goal

pub returns-in-Ok : goal.returns-in-Ok
returns-in-Ok g c =
    let held = c.args.self.now.held in
    let is = c.requires in
    digit_fault held.read held.made c.in-Ok.count held.high is.0 is.1 (take (held.end - held.at) (drop held.at held.piece)) (g.R.Read.remaining c.args.self.now.reader.now)
    _ is.2 is.3 c.in-Ok.ensures.left c.pair_fault.ensures.odd c.pair_fault.ensures.digit
