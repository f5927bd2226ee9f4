use Rattle.sfi_image.proofs.Prelude.{◌++◌, length, List, ℕ, Option, Some, None, ImagePrefix, prefix_bytes, HasFaultWhateverFollows, LayoutFault, LayoutReader, StandsFor, Leads}
use Rattle.std.specs.Prelude.{IfSome, IfNone}
use Rattle.sfi_image.specs.Keeping.{HasStopped}
use Rattle.sfi_image.specs.private.{Takes}
use Rattle.sfi_image.proofs.Places.{may_take}
use Rattle.sfi_image.proofs.layout_reader.LayoutReader.take.Goals as goal

goes_on : (old new : LayoutReader) (s : List ℕ) (r : Option LayoutFault) → Takes old s new r → IfNone r ((x : ImagePrefix) → StandsFor old x → Leads x s new)
goes_on old new s None t = t
goes_on old new s (Some k) t = tt

fault : (old new : LayoutReader) (s : List ℕ) (r : Option LayoutFault) → Takes old s new r → IfSome r (λ k. (x : ImagePrefix) → StandsFor old x → HasFaultWhateverFollows (prefix_bytes x ++ s) k)
fault old new s None t = tt
fault old new s (Some k) t = t.1

stopped : (old new : LayoutReader) (s : List ℕ) (r : Option LayoutFault) → Takes old s new r → IfSome r (λ k. HasStopped new)
stopped old new s None t = tt
stopped old new s (Some k) t = t.0

pub advance-requires : goal.advance-requires
advance-requires c = may_take c.args.self.now c.requires.0 (length c.args.bytes.now) c.requires.1 c.requires.2

pub returns-clause-goes_on : goal.returns-clause-goes_on
returns-clause-goes_on c = goes_on c.args.self.now c.advance.new.self c.args.bytes.now c.advance.result c.advance.ensures.takes

pub returns-clause-fault : goal.returns-clause-fault
returns-clause-fault c = fault c.args.self.now c.advance.new.self c.args.bytes.now c.advance.result c.advance.ensures.takes

pub returns-clause-stopped : goal.returns-clause-stopped
returns-clause-stopped c = stopped c.args.self.now c.advance.new.self c.args.bytes.now c.advance.result c.advance.ensures.takes
