-- A turn of native code as a whole: code and host by turns come to its end, which is what the image's own steps come to.
use Rattle.std.specs.Prelude.{◌≡◌, ◌⊎◌, ℕ, ◌+◌, ◌-◌, ◌*◌, ◌^◌, ◌<◌, ◌≤◌, List, length, Option}
use Rattle.rv_step.specs.State.{State}
use Rattle.sfi_image.specs.Spelling.{Part}
use Rattle.sfi_safety.specs.Places.{IsCleanPart}
use Rattle.sfi_translate.specs.Lines.{Line, AreLines}
use Rattle.sfi_translate.specs.Machine.{Going, Loop}
use Rattle.sfi_translate.specs.Laws.{IsAsImage, IsOver, IsReached}
use Rattle.x86_step.specs.State.{IsIn, Machine, Span, Text}
use Rattle.sfi_native.specs.declared.layout.Layout.{Layout}
use Rattle.sfi_native.specs.Entries.{AreEntries}
use Rattle.sfi_native.specs.Faults.{HasFixups}
use Rattle.sfi_native.specs.Host.{Ending, EndsWithin, HandsOver, Host, HostMoves, IsHost, IsInCode, Serves, host_of}
use Rattle.sfi_native.specs.Layout.{DoNotMeet, IsLayout, IsOutside, frame_size, window}
use Rattle.sfi_native.specs.Laws.{IsBefore, placed_most}
use Rattle.sfi_native.specs.Places.{IsAt, end_address, exit_of, whole_code, with_owed}
use Rattle.sfi_native.specs.Table.{HasTable, table_size}

-- the turn from that state begins in the host's loop
abbrev pub begun : State → ℕ → Going
begun s left = record { place = Loop; state = s; left = left }

-- so many bytes from an address on lie apart from frame and window
pub record LieApart (p : Part) (l : Layout) (from n : ℕ) : Type 0 where
  pub from_frame : DoNotMeet from n l.frame frame_size
  pub from_window : DoNotMeet from n (window p l).at (window p l).size

-- So lie the text, the table and the host's own memory, and apart from one another.
pub record AreApart (p : Part) (l : Layout) (base : ℕ) (code : List Line) (table_at : ℕ) (own : ℕ → Type 0) : Type 0 where
  pub text : LieApart p l base (exit_of l.plan code)
  pub table : LieApart p l table_at (table_size p)
  pub table_from_text : DoNotMeet table_at (table_size p) base (exit_of l.plan code)
  pub own_from_window : (a : ℕ) → own a → IsOutside a (window p l).at (window p l).size
  pub own_from_frame : (a : ℕ) → own a → IsOutside a l.frame frame_size
  pub own_from_text : (a : ℕ) → own a → IsOutside a base (exit_of l.plan code)
  pub own_from_table : (a : ℕ) → own a → IsOutside a table_at (table_size p)

-- where the frame lies
abbrev pub frame_span : Layout → Span
frame_span l = record { at = l.frame; size = frame_size }

-- where the table of entries lies
abbrev pub table_span : Part → ℕ → Span
table_span p table_at = record { at = table_at; size = table_size p }

-- Code accesses its frame, its table, and its window, where an access that isn't wholly in the data faults.
abbrev pub IsAccessed : Part → Layout → ℕ → ℕ → Type 0
IsAccessed p l table_at a = IsIn (frame_span l) a ⊎ (IsIn (table_span p table_at) a ⊎ IsIn (window p l) a)

-- The code of a sandbox without a finding is a text, which ends at the way out, and has its table of entries and the host's fixups. A turn has begun, from a state that a run comes to and with so many steps left, fewer than 2^31; its host has made the
-- first moves, and has entered code. (The host makes several turns of one with more: `TurnsAddUp`.)
pub record IsEntered (sandbox : ℕ) (p : Part) (code : List Line) (l : Layout) (t : Text) (base : ℕ) (host : Host) (s : State)
    (left : ℕ) (m : Machine) : Type 0 where
  pub clean : IsCleanPart sandbox p
  pub lines : AreLines sandbox p code
  pub reached : IsReached p s
  pub few : left < 2 ^ 31
  pub first : Going
  pub begins : HostMoves p code (begun s left) first
  pub in_code : IsInCode first.place
  pub is_at : IsAt l.plan base code first m
  pub stands : IsBefore (whole_code l.plan (end_address p) code) t base p l (with_owed l.plan p first) m.core
  pub text_begins : t.base ≡ base
  pub text_size : length t.bytes ≡ exit_of l.plan code
  pub fixups : HasFixups l.plan t base code
  pub table : HasTable p l base code m.core
  pub apart : AreApart p l base code table.at host.own
  pub relies : host.relies m.core

-- The host has ended the turn as the image does: pc, registers and data are what the image's own steps make of the first state, up
-- to where the next step has that outcome, or no step is left.
pub record EndsAsImage (p : Part) (code : List Line) (l : Layout) (base : ℕ) (host : Host) (s : State) (left : ℕ) (m : Machine)
    (e : Ending) (n : Machine) : Type 0 where
  pub last : Going
  pub is_over : IsOver last
  pub as_image : IsAsImage p s left last
  pub ends : HandsOver p l host.own last m e n

-- Whatever the host does, the turn ends so, by so many instructions of code at most: five lines for each step left, and five. All
-- that these access lies in frame, table and window.
pub record TurnEnds (p : Part) (code : List Line) (l : Layout) (t : Text) (base table_at : ℕ) (host : Host) (s : State) (left : ℕ)
    (m : Machine) : Type 0 where
  pub rounds : ℕ
  pub few : rounds ≤ 5 * (left + 1)
  pub instructions : ℕ
  pub as_many : instructions ≤ placed_most * (5 * (left + 1))
  pub ends : EndsWithin rounds instructions t p l (IsAccessed p l table_at) host (EndsAsImage p code l base host s left m) m

-- Each turn ends so.
abbrev pub NativeTurnsEnd : Type 1
NativeTurnsEnd =
    (sandbox : ℕ) (p : Part) (code : List Line) (l : Layout) (t : Text) (base : ℕ) (host : Host) (s : State) (left : ℕ) (m : Machine)
    → IsHost p l base code host → (entered : IsEntered sandbox p code l t base host s left m)
    → TurnEnds p code l t base entered.table.at host s left m

-- Where a host enters code again, with its frame where it was, in a state that a run comes to and with steps left, a turn is entered: so each turn's end may
-- lead to a next turn (`IsAsImage`), also after a reply (`ReachedGoOn`).
abbrev pub EachTurnGoesOn : Type 1
EachTurnGoesOn =
    (sandbox : ℕ) (p : Part) (code : List Line) (l : Layout) (t : Text) (base : ℕ) (host : Host) (s u : State) (left next_left : ℕ)
    (first : Going) (m n : Machine)
    → IsEntered sandbox p code l t base host s left m → IsReached p u → next_left < 2 ^ 31
    → HostMoves p code (begun u next_left) first → IsInCode first.place → Serves p l base code host.own first m n
    → host.relies n.core → IsEntered sandbox p code l t base host u next_left n

-- After a host's first moves the turn is over, or there is a processor in which it has entered code.
pub record CanBegin (sandbox : ℕ) (p : Part) (code : List Line) (l : Layout) (base : ℕ) (host : Host) (s : State) (left : ℕ) : Type 0
  where
    pub first : Going
    pub begins : HostMoves p code (begun s left) first
    pub leads : IsOver first ⊎ ((t : Text) × (m : Machine) × IsEntered sandbox p code l t base host s left m)

-- So it is wherever text, table, frame, window and the host's own memory lie apart.
abbrev pub EachTurnCanBegin : Type 1
EachTurnCanBegin =
    (sandbox : ℕ) (p : Part) (code : List Line) (l : Layout) (base : ℕ) (table : List ℕ) (table_at : ℕ)
    (does : Machine → Option Ending → Machine → Type 0) (own : ℕ → Type 0) (s : State) (left : ℕ)
    → IsCleanPart sandbox p → AreLines sandbox p code → AreEntries l.plan p code table → IsReached p s → left < 2 ^ 31
    → IsLayout p l → base + exit_of l.plan code < 2 ^ 47 → table_at + table_size p ≤ 2 ^ 47
    → AreApart p l base code table_at own → CanBegin sandbox p code l base (host_of does own) s left
