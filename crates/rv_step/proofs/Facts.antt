-- What holds of every step: the laws, for proofs here and in the crates above.
use Rattle.rv_step.specs.Laws.{OneInstruction, AtPcIsFront, OneStep, SomeStep, StepIsEffect, StepKeepsState, StoppedStays, OtherBytesStay, OtherRegistersStay, AccessedIsThere, NoByteGoes, CallsAreEcalls, AgreeingStandsToo, AgreeingStepsAreSame, PairLeaves}
use Rattle.rv_step.proofs.Agreeing.{agree_same, stands_too}
use Rattle.rv_step.proofs.Calls.{ecall_at, none_goes}
use Rattle.rv_step.proofs.Pairs.{pair_left}
use Rattle.rv_step.proofs.Standing.{instruction_one, at_pc_front}
use Rattle.rv_step.proofs.Steps.{other_registers, effect_of, stays, other_bytes, step_some, step_one, all_found, keeps_state}

pub one_instruction : OneInstruction
one_instruction = instruction_one

pub at_pc_is_front : AtPcIsFront
at_pc_is_front = at_pc_front

pub one_step : OneStep
one_step = step_one

pub some_step : SomeStep
some_step = step_some

pub step_is_effect : StepIsEffect
step_is_effect = effect_of

pub step_keeps_state : StepKeepsState
step_keeps_state = keeps_state

pub stopped_stays : StoppedStays
stopped_stays = stays

pub other_bytes_stay : OtherBytesStay
other_bytes_stay = other_bytes

pub other_registers_stay : OtherRegistersStay
other_registers_stay = other_registers

pub accessed_is_there : AccessedIsThere
accessed_is_there = all_found

pub no_byte_goes : NoByteGoes
no_byte_goes = none_goes

pub calls_are_ecalls : CallsAreEcalls
calls_are_ecalls = ecall_at

pub agreeing_stands_too : AgreeingStandsToo
agreeing_stands_too = stands_too

pub agreeing_steps_are_same : AgreeingStepsAreSame
agreeing_steps_are_same = agree_same

pub pair_leaves : PairLeaves
pair_leaves = pair_left
