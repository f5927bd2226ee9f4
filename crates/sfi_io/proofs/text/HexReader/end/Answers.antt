use Rattle.sfi_io.proofs.Prelude.{ahead}
use Rattle.sfi_io.proofs.Ahead.{text_end}
use Rattle.sfi_io.proofs.text.HexReader.end.Goals as goal

pub returns-in-None-clause-end : goal.returns-in-None-clause-end
returns-in-None-clause-end g c = text_end (ahead g.R.Read.remaining c.args.self.now) c.args.self.now.held.high c.in-None.is c.requires
