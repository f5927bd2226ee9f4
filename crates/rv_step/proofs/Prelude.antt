-- Words of std and of definitions that many proofs of this crate use.
pub use Rattle.std.proofs.Common.{◌≡◌, ℕ, zero, suc, ◌+◌, ◌<◌, ◌==◌, Bool, true, false, cond, List, [], ◌∷◌, map, Option, Some, None, is_some, refl, sym, ap, ◌∙◌, subst, arith, IsSome, ◌*◌, ◌/◌, ◌%◌, ◌^◌, length, take, inl, inr, ◌⊎◌, ◌≢◌, length-set, set, get_or, slice_set, slice_index, ℤ, pos, negsuc, ◌+ℤ◌, replicate, ◌++◌, ◌-◌, rules}
pub use Rattle.std.specs.Prelude.{bit_and, bit_or}
pub use Rattle.std.specs.List.{range_with_len, Contains}
pub use Rattle.std.specs.Option.{option_map}
pub use Rattle.rv_word.specs.Spelling.{offset_by, IsEven}
pub use Rattle.rv_word.specs.declared.instr.Instr.{Instr}
pub use Rattle.rv_word.specs.declared.instr.Instr.TheVariants.{Op, Load, Store, Ecall, Branch, Jal, OpImm, Jalr, Lui, Auipc, Fence, Ebreak}
pub use Rattle.rv_word.specs.declared.instr.LoadKind.{LoadKind}
pub use Rattle.rv_comp.specs.declared.front.Front.{Front}
pub use Rattle.rv_comp.specs.declared.front.Front.TheVariants.{Read, Short, Bad}
pub use Rattle.rv_mem.specs.Bytes.{Bytes, byte_at, bytes_at, address_after, addresses, in_front, with_bytes, number_of, loaded, stored, IsMemory}
pub use Rattle.rv_step.specs.Laws.{AgreeingStandsToo, AgreeingStepsAreSame, NoByteGoes, CallsAreEcalls, PairLeaves, OneInstruction, OtherRegistersStay, AtPcIsFront, OneStep, SomeStep, StepIsEffect, StepKeepsState, StoppedStays, OtherBytesStay, AccessedIsThere}
pub use Rattle.rv_step.specs.State.{Hart, register, past, State, IsHart, with_register, with_pc, IsState}
pub use Rattle.rv_step.specs.Step.{Stepped, next, unchanged, after_load, effect, Stands, IsAtPc, after_front, present_then, present_at, bytes_at_pc, load_size, store_size, word, result_of, extended, is_taken, register_op}
pub use Rattle.rv_step.specs.declared.outcome.Outcome.TheVariants.{Trap, Call, Next}
