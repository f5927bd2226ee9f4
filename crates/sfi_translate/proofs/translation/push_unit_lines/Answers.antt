use Rattle.sfi_translate.proofs.Prelude.{string_bytes, on_ok_weaker}
use Rattle.sfi_translate.proofs.Text.{whole_unit}
use Rattle.sfi_translate.proofs.translation.push_unit_lines.Goals as goal

pub returns : goal.returns
returns c =
    on_ok_weaker c.push_reading.result
    (λ h. whole_unit c.args.sandbox c.args.offset c.args.at c.args.bytes.now (string_bytes c.args.out.now) (string_bytes c.push_function.new.out) (string_bytes c.push_entry_line.new.out) (string_bytes c.push_head.new.out) (string_bytes c.push_reading.new.out) c.args.chosen
    c.in_ok-push_function.ensures c.in_ok-push_entry_line.ensures c.in_ok-push_head.ensures h)
    c.push_reading.ensures
