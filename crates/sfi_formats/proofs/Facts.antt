-- What holds of limits and registers: the laws, for proofs in the crates above.
use Rattle.std.proofs.Common.{refl, arith}
use Rattle.sfi_formats.specs.declared.format.Format.TheVariants.{Sfi1, Sfi2, Sfiw, Sfis}
use Rattle.sfi_formats.specs.Laws.{LimitsAgree, LimitsHaveRoom, LimitsAreSmall, RegistersAgree}

pub limits_agree : LimitsAgree
limits_agree = (refl, refl, refl, refl, refl, refl, refl, refl, refl, refl, refl, refl, refl, refl, refl, refl, refl)

pub limits_have_room : LimitsHaveRoom
limits_have_room Sfi1 = (omega arith, omega arith, omega arith, omega arith)
limits_have_room Sfi2 = (omega arith, omega arith, omega arith, omega arith)
limits_have_room Sfiw = (omega arith, omega arith, omega arith, omega arith)
limits_have_room Sfis = (omega arith, omega arith, omega arith, omega arith)

pub limits_are_small : LimitsAreSmall
limits_are_small Sfi1 = (omega arith, omega arith, omega arith)
limits_are_small Sfi2 = (omega arith, omega arith, omega arith)
limits_are_small Sfiw = (omega arith, omega arith, omega arith)
limits_are_small Sfis = (omega arith, omega arith, omega arith)

pub registers_agree : RegistersAgree
registers_agree = (refl, refl, refl, refl, refl, refl, refl, refl)
