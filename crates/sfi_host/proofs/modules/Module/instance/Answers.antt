use Rattle.sfi_host.proofs.Prelude.{◌≡◌, List, map, sym, ap, ◌∙◌, subst, empty, Bytes, IsMemory, Part, first_seat, with_parts, AreEntered, HaveFirstData, AreProgramsOf, Program, Seat, Sandboxes, seats_of}
use Rattle.sfi_safety.specs.Clean.{MayRun}
use Rattle.sfi_host.specs.Modules.{programs_of}
use Rattle.sfi_host.specs.Sessions.{IsSoundWorld}
use Rattle.sfi_host.proofs.Entries.{IsFirst, is_first}
use Rattle.sfi_host.proofs.modules.Module.instance.Goals as goal

-- what is loaded of an image that may run is its world at first
first : (ps : List Part) (before m : Bytes) (seats : List Seat) (programs : List Program) → MayRun ps → before ≡ empty → IsMemory m → m ≡ with_parts before ps → seats ≡ map first_seat ps → AreProgramsOf ps programs
    → IsFirst ps m seats programs
first ps before m seats programs runs none memory bytes are made =
    is_first ps runs.clean.layout runs.safe runs.calls m seats programs memory (bytes ∙ ap (λ (x : Bytes). with_parts x ps) none) are made

pub of_parts-requires : goal.of_parts-requires
of_parts-requires g c =
    let kept = (first c.args.self.now _ (g.M.Memory.bytes c.load.new.memory) (seats_of c.in_ok-sandboxes.sandboxes.items) (programs_of c.in_ok-programs.programs.items)
    c.load.ensures.runs c.requires (g.met.M.Memory.in_range c.load.new.memory) c.in_ok-sandboxes.ensures.bytes c.in_ok-sandboxes.ensures.seats c.in_ok-programs.ensures).kept in
    record { safe = kept.0; decoded = kept.1; enterable = kept.2; owned = kept.3 }

pub returns-clause-entered : goal.returns-clause-entered
returns-clause-entered g c =
    subst (λ (w : Sandboxes). AreEntered c.args.self.now w.bytes) (sym c.of_parts.ensures)
    (first c.args.self.now _ (g.M.Memory.bytes c.load.new.memory) (seats_of c.in_ok-sandboxes.sandboxes.items) (programs_of c.in_ok-programs.programs.items)
    c.load.ensures.runs c.requires (g.met.M.Memory.in_range c.load.new.memory) c.in_ok-sandboxes.ensures.bytes c.in_ok-sandboxes.ensures.seats c.in_ok-programs.ensures).entered

pub returns-clause-first_data : goal.returns-clause-first_data
returns-clause-first_data g c =
    subst (λ (w : Sandboxes). HaveFirstData c.args.self.now w.bytes) (sym c.of_parts.ensures)
    (first c.args.self.now _ (g.M.Memory.bytes c.load.new.memory) (seats_of c.in_ok-sandboxes.sandboxes.items) (programs_of c.in_ok-programs.programs.items)
    c.load.ensures.runs c.requires (g.met.M.Memory.in_range c.load.new.memory) c.in_ok-sandboxes.ensures.bytes c.in_ok-sandboxes.ensures.seats c.in_ok-programs.ensures).first_data

pub returns-clause-sound : goal.returns-clause-sound
returns-clause-sound g c =
    let kept = of_parts-requires g c.before in
    subst (λ (w : Sandboxes). IsSoundWorld w) (sym c.of_parts.ensures) (record { safe = kept.safe; enterable = kept.enterable; owned = kept.owned })
