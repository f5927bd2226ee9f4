use Rattle.sfi_io.proofs.Prelude.{◌+◌, ◌-◌, ◌<◌, ◌≤◌, arith, rules, inl, inr, length, take, drop, length-drop}
use Rattle.std.proofs.lemmas.List.{length-take}
use Rattle.sfi_io.proofs.Ahead.{advanced, comes}
use Rattle.sfi_io.proofs.text.HexReader.decode_held.Goals as goal

pub returns-clause-on : goal.returns-clause-on
returns-clause-on g c =
    let held = c.args.self.now.held in
    let front = c.decode_front-front in
    advanced held.read held.made front.result.made held.at held.end front.result.taken held.high front.result.high held.piece front.new.out (g.R.Read.remaining c.args.self.now.reader.now) held.inside.0 front.ensures.taken front.ensures.room front.ensures.spells

pub returns-clause-stops : goal.returns-clause-stops
returns-clause-stops g c = λ less.
    let held = c.args.self.now.held in
    let front = c.decode_front-front in
    let few : held.end ≤ length held.piece = search rules in
    let held_is : front.result.taken < length (take (held.end - held.at) (drop held.at held.piece)) = omega (arith, less, few, length-take (held.end - held.at) (drop held.at held.piece), length-drop held.at held.piece) in
    elim (front.ensures.stops held_is) [
      | inl full ↦ inl full
      | inr bad ↦ inr (comes held.read (held.made + front.result.made) held.at held.end front.result.taken front.result.high held.piece (g.R.Read.remaining c.args.self.now.reader.now) less few bad)
    ]
