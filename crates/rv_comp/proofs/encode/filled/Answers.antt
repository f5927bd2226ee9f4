use Rattle.rv_comp.proofs.Prelude.{◌∙◌, sym, ap, ℤ, row_fields}
use Rattle.rv_comp.specs.Table.{Fields}
use Rattle.std.proofs.lemmas.Int.{to_z-of_z}
use Rattle.std.proofs.Common.{w32}
use Rattle.rv_comp.proofs.Table.{rows_low, row_below, halfword_is}
use Rattle.rv_comp.proofs.encode.filled.Goals as goal

pub halfword-requires : goal.halfword-requires
halfword-requires c = rows_low c.args.row _ (row_below c.args._form.now _ c.requires.row)

pub returns : goal.returns
returns c =
    let with_imm : ℤ → Fields = λ i. record { rd = c.args.rd; rs1 = c.args.rs1; rs2 = c.args.rs2; imm = i } in
    let fields = ap row_fields c.new.ensures ∙ ap with_imm (to_z-of_z w32 c.args.imm c.ranges.imm) ∙ sym c.requires.fields in
    c.halfword.ensures ∙ halfword_is c.args._form.now _ _ _ c.requires.row fields
