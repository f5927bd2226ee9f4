-- Words of std and of definitions that many proofs of this crate use.
pub use Rattle.std.proofs.Common.{◌≡◌, ℕ, ◌↔◌, ◌<◌, List, length, get_or, Option, Some, None, IsSome, slice_get, sym, ap, ◌∙◌, subst, ◌≢◌, ⊎_elim, ◌+◌, set, refl, ◌⊎◌, inl, inr, zero, suc, Bool, true, false, cond, [], ◌∷◌, ◌++◌, take, drop, arith, length-append, ◌-◌, ◌*◌, ◌/◌, ◌%◌, ◌^◌, ◌≤◌, map, length-take, length-drop, get_or-drop, get_or-take, ◌==◌, replicate, IsTrue, get_or-set_other, set-set, slice_set, is_some, ◌||◌, ◌&&◌, append_assoc, append-nil, not, add-one, nat_le, if◌then◌else◌, rules}
pub use Rattle.std.specs.Prelude.{slice_index, ℤ}
pub use Rattle.std.proofs.lemmas.Bool.{cases_eq, cases_lt, eqb-true, eqb-false, or_left, or_right, or_cases, ltb_from_iff}
pub use Rattle.std.proofs.lemmas.List.{map-set, take_more, take-append-drop, length-take-le, length-map, length-set, length-replicate, take_all, map-append, take_more_set}
pub use Rattle.std.proofs.lemmas.Option.{slice_get-get_or, slice_get-map, same_Some, slice_get_within, get_or_from_slice_get, slice_get_past, slice_get_read}
pub use Rattle.std.specs.Bool.{OnTrue, OnFalse}
pub use Rattle.std.specs.FinMap.{empty, get-empty, find, retain_keys, entries, get-from_entries, get-entries, get, insert, get-retain_keys, get-insert, same_map, nat_cmp-IsAntisymmetric}
pub use Rattle.std.specs.List.{range_with_len, Contains, AllPairs, All, filter}
pub use Rattle.std.specs.Option.{option_map, option_or}
pub use Rattle.rv_word.specs.declared.instr.Instr.TheVariants.{Ecall, Load, Store, Ebreak}
pub use Rattle.rv_mem.specs.Bytes.{Bytes, byte_at, bytes_at, IsMemory, address_after, addresses, with_bytes, added, loaded, stored, number_of, in_front, IsThere}
pub use Rattle.rv_step.specs.State.{State, Hart, IsHart, with_register, past, IsState, register}
pub use Rattle.rv_step.specs.Step.{Stands, Stepped, IsStep, next, unchanged, after_load, effect}
pub use Rattle.rv_step.specs.Rows.{LeadTo}
pub use Rattle.rv_step.specs.declared.outcome.Outcome.{Outcome}
pub use Rattle.sfi_formats.specs.declared.format.Format.{Format}
pub use Rattle.sfi_image.specs.Parts.{IsRightPart, IsRightLayout}
pub use Rattle.sfi_image.specs.Spelling.{Holds, code_region, AreApart, guarded_region, spans, with_guards, InZones, Part, view, views}
pub use Rattle.sfi_image.specs.declared.span.Span.{Span}
pub use Rattle.sfi_safe_runs.specs.Runs.{InCode, HasCode, InData, InGuard, StaysOutside, IsGate, IsChange, IsEntry, IsReply, IsTurn, Steps, Replies, Changes, KeepsBytes, IsRun, KeepsReserved}
pub use Rattle.sfi_safe_runs.specs.Safety.{AllRunSafely, IsSafeState, IsSafeTurn, IsSafeRun, IsSafeStep, IsTrap, RunsSafely}
pub use Rattle.sfi_safe_runs.specs.Calling.{AllCallTyped, after_turns, GoesSafelyFrom, CallsTyped}
pub use Rattle.sfi_host.specs.Consoles.{SessionState, ConsoleState, with_session, serve, serve_own, console, may_want, may_want_if, console_may_refuse, new_session, failed, most_messages, posted, mailbox_full, message_of, with_message, post_to, post}
pub use Rattle.sfi_host.specs.Loading.{AreEnterable, MayEnter, MayEnterAt, fresh_hart, with_registers, exit_gate, entered_hart, entry_stack, entered_seat, with_entry_of, with_entry, IsAtEntry, IsEnterable, first_seat, AreEntered, first_data, with_part, with_parts, HaveFirstData, first_hart}
pub use Rattle.sfi_host.specs.Hosts.{call_by, asked, with_a0, data_of, Call, Way, Replied, Answer, Limited, limited, if_left, Exit, Reply, Host, replay}
pub use Rattle.sfi_host.specs.Joint.{Machine, Moved, still, moved_if, slot_after_step, after_answer, call_of, next_after, replied, Joined, joint, IsMachine, word, is_byte, with_arguments, with_data, after_way, status_after, after_replies, and_more, Given, given, joined_after_turn, and_plan, turn_and, both, service_at}
unfoldable pub use Rattle.sfi_host.specs.Joint.{moved, joined, turned}
pub use Rattle.sfi_host.specs.Plans.{IsJoint, IsRefusedIn, IsCutJoint}
pub use Rattle.sfi_host.specs.Slots.{bytes_in, bytes_outside, IsWhole, is_in, span_of, Slot, Bounds, bounds_of, state_of, one_more, is_own, own}
pub use Rattle.sfi_host.specs.Worlds.{seat_of, seats_of, world_of, Sandboxes, slot_of, slots_of, data_byte_of, Seat, IsSafeSeat, IsSafeWorld, StaysOutsideData, state_in, LiesOutside, status_at, HaveStoppedThemselves}
pub use Rattle.sfi_decoded.specs.declared.program.Program.{Program}
pub use Rattle.sfi_host.specs.declared.sandbox.Sandbox.{Sandbox}
pub use Rattle.sfi_host.specs.declared.status.Status.{Status}
pub use Rattle.sfi_host.specs.declared.status.Status.TheVariants.{Ready, Trapped, Exited, Stopped}
pub use Rattle.sfi_host.specs.declared.turn.StepResult.{StepResult}
pub use Rattle.sfi_host.specs.declared.turn.StepResult.TheVariants.{Continue, TurnEnds, RunEnds}
pub use Rattle.sfi_host.specs.declared.turn.Turn.{Turn}
pub use Rattle.sfi_host.specs.private.Turns.{allow, allows, with_left, end_of, limited_step, limited_turn, IsTurnOf, IsStepOf, IsCutTurnOf, IsOnItsWay}
pub use Rattle.sfi_host.specs.private.Sandboxes.{AreProgramsOf, IsSafeWith}
pub use Rattle.sfi_decoded.specs.Programs.{IsProgramOf}
pub use Rattle.sfi_host.specs.private.Sandboxes.{gate_at, bounds_in, StaysSafe, IsReplied, IsNotReplied, request_by, IsAnswerOf, IsNotAnswered, after_ecall, after_host_answer, next_after_answer}
