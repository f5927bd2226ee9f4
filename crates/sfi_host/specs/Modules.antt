-- An image that was decoded once, for many worlds.
use Rattle.std.specs.Prelude.{◌≡◌, ℕ, List, length, map, Some, slice_get}
use Rattle.std.specs.Arc.{arc_value, arc_slice_items}
use Rattle.std.specs.Global.{Global}
use Rattle.std.specs.declared.sync.Arc.{Arc}
use Rattle.sfi_formats.specs.declared.format.Format.{Format}
use Rattle.sfi_image.specs.Spelling.{Part}
use Rattle.sfi_safety.specs.Clean.{MayRun}
use Rattle.sfi_host.specs.declared.modules.ModulePart.{ModulePart}
use Rattle.sfi_decoded.specs.declared.program.Program.{Program}
use Rattle.sfi_decoded.specs.Programs.{IsDecoded, IsProgramOf}
use Rattle.sfi_host.specs.Worlds.{Seat, Sandboxes}

-- the part that a module's part stands for, in an image of this format
abbrev pub part_of : Format → ModulePart → Part
part_of f p = record {
  format = f;
  code_base = p.code_base;
  data_base = p.data_base;
  data_size = p.data_size;
  start = p.start;
  gates = p.gates.items;
  code = p.code.items;
  init = arc_slice_items p.init;
}

-- the parts that a list of such parts stands for
abbrev pub parts_of : Format → List ModulePart → List Part
parts_of f all = map (part_of f) all

-- the program of a part
abbrev pub program_in : ModulePart → Program
program_in p = arc_value p.program

-- the program of each part is that of its code
abbrev pub HavePrograms : Format → List ModulePart → Type 0
HavePrograms f all =
    (i : ℕ) (p : ModulePart) → slice_get all i ≡ Some p
    → IsProgramOf (part_of f p) (program_in p)

-- the parts are those of an image that may run, and have their programs
pub record IsModule (f : Format) (all : List ModulePart) : Type 0 where
  pub runs : MayRun (parts_of f all)
  pub programs : HavePrograms f all

-- ==== The programs of a world.

-- the programs of a world, each of which other worlds may share
abbrev pub programs_of : List (Arc Program Global) → List Program
programs_of all = map arc_value all

-- each sandbox has a program of its own code
pub record AreDecoded (w : Sandboxes) (programs : List Program) : Type 0 where
  pub count : length programs ≡ length w.seats
  pub each : (i : ℕ) (p : Program) (s : Seat) → slice_get programs i ≡ Some p
      → slice_get w.seats i ≡ Some s → IsDecoded s.bounds.code w.bytes p
