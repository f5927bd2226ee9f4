-- Words of std and of definitions that many proofs of this crate use.
pub use Rattle.std.proofs.Common.{◌≡◌, ◌≢◌, ℕ, zero, suc, ◌+◌, ◌-◌, ◌^◌, ◌<◌, ◌==◌, Bool, true, false, cond, eqb-true, subst, List, [], ◌∷◌, length, map, Option, Some, None, IsSome, Result, Ok, Err, OnOk, is_some, slice_index, add-zero, refl, sym, ap, ◌∙◌, arith, ◌≤◌, add-one, take, get_or, set, IsTrue, ◌↔◌, ◌++◌, nat_lt, slice_get, ◌*◌, ◌/◌, ◌%◌, ⊎_elim, ◌⊎◌, inl, inr, replicate, length-append, get_or-set_other, get_or-set_same, min, drop, rules, length-take, length-drop, get_or-take, get_or-drop}
pub use Rattle.std.specs.Prelude.{IfSome}
pub use Rattle.std.proofs.lemmas.List.{length-replicate, with_items_is}
pub use Rattle.std.specs.Cmp.{nat_cmp_total, unsigned_tied}
pub use Rattle.std.specs.FinMap.{insert, get-insert, get, find, get-from_entries, same_map, nat_cmp-IsAntisymmetric, empty, get-empty}
pub use Rattle.std.specs.Option.{option_or, option_map}
pub use Rattle.rv_mem.specs.Bytes.{Bytes, byte_at, bytes_at, address_after, addresses, in_front, IsMemory, with_bytes, number_of, loaded, added, Overlaps, IsFree}
pub use Rattle.rv_mem.specs.Frames.{frame_of, cell, cell_at, ArePages, with_entry}
unfoldable pub use Rattle.rv_mem.specs.Frames.{values_of, values_below}
pub use Rattle.rv_mem.specs.Pages.{bytes_of}
pub use Rattle.rv_mem.specs.private.Frames.{run_of, Puts, MarksRun, with_two, with_four}
pub use Rattle.rv_mem.specs.private.Segment.{HasIn, HasNone, byte_in, byte_among}
