use Rattle.std.proofs.Common.{sym, ◌∙◌, arith}
use Rattle.rv_comp.proofs.Fronts.{halfword_front, longer_front, cut_front}
use Rattle.rv_comp.proofs.front.read_cut_front.Goals as goal

pub returns-in-Short : goal.returns-in-Short
returns-in-Short c =
    halfword_front c.args.bytes.now c.from_le_bytes-first.result c.read_halfword.result (omega arith) c.from_le_bytes-first.ensures (sym c.size_of_first.ensures ∙ c.in-Short.is) c.read_halfword.ensures

pub returns-in-Wide : goal.returns-in-Wide
returns-in-Wide c = cut_front c.args.bytes.now c.from_le_bytes-first.result (omega arith) c.requires c.from_le_bytes-first.ensures (sym c.size_of_first.ensures ∙ c.in-Wide.is)

pub returns-in-Longer : goal.returns-in-Longer
returns-in-Longer c =
    longer_front c.args.bytes.now c.from_le_bytes-first.result (omega arith) c.from_le_bytes-first.ensures (sym c.size_of_first.ensures ∙ c.in-Longer.is)
