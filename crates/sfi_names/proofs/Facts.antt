-- What holds of tables: laws, for proofs in the crates above.
use Rattle.sfi_names.specs.Laws.{OneTable, OneFirst, RoomIsLastImport}
use Rattle.sfi_names.proofs.Ends as ends
use Rattle.sfi_names.proofs.Entries as lookups
use Rattle.sfi_names.proofs.Rooms as rooms

pub one_table : OneTable
one_table = ends.one_table

pub one_first : OneFirst
one_first = lookups.one_first

pub room_is_last_import : RoomIsLastImport
room_is_last_import = rooms.room_is_last_import
