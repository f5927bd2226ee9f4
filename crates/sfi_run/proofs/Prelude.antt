-- Words of std and of definitions that many proofs of this crate use.
pub use Rattle.std.proofs.Common.{Some, ◌≡◌, ap, ◌∙◌, IsTrue, ◌↔◌}
pub use Rattle.std.proofs.BoxSteps.Form.{B, D, box_typed, word, Bx, P}
pub use Rattle.std.proofs.BoxSteps.Steps.{box_in, box_out}
pub use Rattle.std.proofs.lemmas.Option.{same_Some}
pub use Rattle.sfi_host.specs.Worlds.{Sandboxes, slots_of}
pub use base.Fml.{fsep, ftrue}
pub use base.Logic.{SProp, ent, id⊢}
pub use contract.Monad.{Fun, fact}
pub use contract.Running.{tables}
unfoldable pub use contract.Running.{tables_of}
pub use denote.Exit.{yes}
pub use denote.Signature.{plain, type_at}
pub use denote.Steps.{nothing, heard}
pub use denote.Triple.Spec.{triple_of}
pub use denote.Triple.Table.{entered}
pub use denote.Triple.Walked.{Stays, ends_at, says, stay_dropped, walk_Meets, walk_of, Goes-dropped}
pub use mathlib.Core.List.{[], List, ◌++◌, ◌∷◌}
pub use mathlib.Core.Path.{refl, subst, sym}
pub use mir.Val.{Val}
pub use prog.Memory.{Memory}
pub use prog.Routine.{Routine}
pub use prog.Wp.{Tables, WpFn}
pub use seplogic.Ra.Ura.{Ura}
pub use sound.WpLaws.{WpFn-mono}
pub use types.ByLocal.{alloc_all, free_all, get, look_at, pass_all, sets, get_in}
pub use types.Kit.{ !, Item, by, done, drop, fjoin, fsplit, join, move, qed, raw, split, suffices, use1, ‵, ◌$◌, ◌∵◌, ◌⊛◌, rewrite}
pub use types.Logic.{Logic}
pub use types.Part.{agg, sub, whole}
pub use types.Run.{and_then, enter, no_more, returns, fld, of_opd, stop}
