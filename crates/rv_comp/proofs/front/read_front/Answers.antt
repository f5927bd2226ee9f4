use Rattle.std.proofs.Common.{sym, ◌∙◌, arith}
use Rattle.rv_comp.proofs.Spellings.{low_half}
use Rattle.rv_comp.proofs.Fronts.{front_one, halfword_front, word_front, longer_front}
use Rattle.rv_comp.proofs.front.read_front.Goals as goal

pub returns-in-Short : goal.returns-in-Short
returns-in-Short c =
    let bs = c.args.bytes.now in
    let first = low_half bs c.from_le_bytes-word.result (λ k. omega (arith, c.type_inv.bytes k)) c.from_le_bytes-word.ensures in
    let is = halfword_front bs _ c.read_halfword.result (omega arith) first (sym c.size_of_first.ensures ∙ c.in-Short.is) c.read_halfword.ensures in
    record { front = is; only = λ other. front_one bs c.read_halfword.result other is }

pub returns-in-Wide : goal.returns-in-Wide
returns-in-Wide c =
    let bs = c.args.bytes.now in
    let first = low_half bs c.from_le_bytes-word.result (λ k. omega (arith, c.type_inv.bytes k)) c.from_le_bytes-word.ensures in
    let is = word_front bs _ c.from_le_bytes-word.result c.read_word.result (omega arith) first c.from_le_bytes-word.ensures (sym c.size_of_first.ensures ∙ c.in-Wide.is) c.read_word.ensures in
    record { front = is; only = λ other. front_one bs c.read_word.result other is }

pub returns-in-Longer : goal.returns-in-Longer
returns-in-Longer c =
    let bs = c.args.bytes.now in
    let first = low_half bs c.from_le_bytes-word.result (λ k. omega (arith, c.type_inv.bytes k)) c.from_le_bytes-word.ensures in
    let is = longer_front bs _ (omega arith) first (sym c.size_of_first.ensures ∙ c.in-Longer.is) in
    record { front = is; only = λ other. front_one bs _ other is }
