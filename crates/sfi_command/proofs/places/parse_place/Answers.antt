use Rattle.std.proofs.Common.{arith}
use Rattle.sfi_command.proofs.Spelled.{no_code, no_colon, no_data}
use Rattle.sfi_command.proofs.places.parse_place.Goals as goal

pub returns-in_err-code-clause-none : goal.returns-in_err-code-clause-none
returns-in_err-code-clause-none c none place = no_colon c.args.text.now place (c.in_err-code.ensures.byte (omega arith) (λ w o finds. finds))

pub returns-in_err-code_base-clause-none : goal.returns-in_err-code_base-clause-none
returns-in_err-code_base-clause-none c none place =
    no_code c.args.text.now c.in_ok-code.code.now place (c.in_ok-code.ensures.byte (omega arith) (λ w o finds. finds)).0 (c.parse_address.ensures.none c.in_err-code_base.was)

pub returns-in_err-data_base-clause-none : goal.returns-in_err-data_base-clause-none
returns-in_err-data_base-clause-none c none place =
    no_data c.args.text.now c.in_ok-code.data.now place (c.in_ok-code.ensures.byte (omega arith) (λ w o finds. finds)).1 (c.parse_address-2.ensures.none c.in_err-data_base.was)
