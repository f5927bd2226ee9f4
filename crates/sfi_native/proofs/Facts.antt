-- What holds of the code of lines: laws, for proofs in the crates above.
use Rattle.sfi_native.specs.Laws.{BranchLinesRun, ComputingLinesRun, EachCodeCanBeRun, EachTableCanBeHeld, FaultingLinesRun, JalLinesRun, JalrLinesRun, LinesStand, LoadLinesRun, PlacedLinesRun, PlacedStepsRun, StoreLinesRun}
use Rattle.sfi_native.specs.Sizes.{CodeHasItsSize, CodeIsSmall, EachCodeFits}
use Rattle.sfi_native.proofs.Guarding as guarding
use Rattle.sfi_native.specs.Host.{EachWorkCanBeDone, HostReads, OneWayOut, ThereIsAHost}
use Rattle.sfi_native.specs.Table.{LinesLieInCode}
use Rattle.sfi_native.specs.Whole.{EachTurnCanBegin, EachTurnGoesOn, NativeTurnsEnd}
use Rattle.sfi_native.proofs.Agreeing as agreeing
use Rattle.sfi_native.proofs.Held as held
use Rattle.sfi_native.proofs.Hosts as hosts
use Rattle.sfi_native.proofs.Indirect as indirect
use Rattle.sfi_native.proofs.Jumps as jumps
use Rattle.sfi_native.proofs.Lines as lines
use Rattle.sfi_native.proofs.Loads as loads
use Rattle.sfi_native.proofs.Placed as placed
use Rattle.sfi_native.proofs.Places as places
use Rattle.sfi_native.proofs.CodeSizes as sizes
use Rattle.sfi_native.proofs.Served as served
use Rattle.sfi_native.proofs.Steps as steps
use Rattle.sfi_native.proofs.Table as table
use Rattle.sfi_native.proofs.Tabled as tabled
use Rattle.sfi_native.proofs.Stores as stores
use Rattle.sfi_native.proofs.Whole as whole
use Rattle.sfi_native.proofs.Ways as ways

pub each_code_can_be_run : EachCodeCanBeRun
each_code_can_be_run = held.each_code_can_be_run

pub each_table_can_be_held : EachTableCanBeHeld
each_table_can_be_held = tabled.each_table_can_be_held

pub each_work_can_be_done : EachWorkCanBeDone
each_work_can_be_done = served.each_work_can_be_done

pub computing_lines_run : ComputingLinesRun
computing_lines_run = lines.computing_lines_run

pub branch_lines_run : BranchLinesRun
branch_lines_run = jumps.branch_lines_run

pub jal_lines_run : JalLinesRun
jal_lines_run = jumps.jal_lines_run

pub jalr_lines_run : JalrLinesRun
jalr_lines_run = indirect.jalr_lines_run

pub load_lines_run : LoadLinesRun
load_lines_run = loads.load_lines_run

pub store_lines_run : StoreLinesRun
store_lines_run = stores.store_lines_run

pub faulting_lines_run : FaultingLinesRun
faulting_lines_run = guarding.faulting_lines_run

pub lines_stand : LinesStand
lines_stand plan t base code rest line stands last = places.line_stands plan t code base stands line rest last

pub lines_lie_in_code : LinesLieInCode
lines_lie_in_code = table.lines_lie_in_code

pub placed_lines_run : PlacedLinesRun
placed_lines_run = placed.placed_lines_run

pub placed_steps_run : PlacedStepsRun
placed_steps_run = steps.placed_steps_run

pub code_is_small : CodeIsSmall
code_is_small = sizes.code_is_small

pub code_has_its_size : CodeHasItsSize
code_has_its_size = sizes.whole_size

pub each_code_fits : EachCodeFits
each_code_fits = sizes.each_code_fits

pub one_way_out : OneWayOut
one_way_out = ways.one_way_out

pub host_reads : HostReads
host_reads = hosts.host_reads

pub there_is_a_host : ThereIsAHost
there_is_a_host = agreeing.there_is_a_host

pub native_turns_end : NativeTurnsEnd
native_turns_end = whole.native_turns_end

pub each_turn_goes_on : EachTurnGoesOn
each_turn_goes_on = whole.each_turn_goes_on

pub each_turn_can_begin : EachTurnCanBegin
each_turn_can_begin = whole.each_turn_can_begin
