use Rattle.sfi_c.proofs.Prelude.{◌≡◌, ◌+◌, ◌-◌, ◌*◌, refl, arith}
use Rattle.sfi_c.proofs.Lookups.{part_is}
use Rattle.sfi_c.proofs.part.part_for_c.Goals as goal

pub overflow_sub-init_offset : goal.overflow_sub-init_offset
overflow_sub-init_offset c =
    let r = c.requires in
    omega (arith, part_is c.args.view.now r.0 r.1 c.args.end r.2 r.3)

pub overflow_sub-result : goal.overflow_sub-result
overflow_sub-result c =
    let r = c.requires in
    omega (arith, part_is c.args.view.now r.0 r.1 c.args.end r.2 r.3)

pub returns : goal.returns
returns c = λ p o h e.
    let f = c.args.view.now.fields in
    let is = part_is c.args.view.now p o c.args.end h e in
    let code : c.args.end - f.init_len - f.code_size ≡ o + 28 + 8 * f.gate_count = omega arith in
    let init : c.args.end - f.init_len ≡ o + 28 + 8 * f.gate_count + f.code_size = omega arith in
    rw (c.number.ensures.is, code, init, h.fields_are) refl
