-- What C keeps of an image that comes in pieces.
use Rattle.std.specs.Prelude.{◌==◌, ◌/◌, ◌%◌, ℕ, List, [], ◌∷◌, cond, take, Option, ◌≡◌, ◌≢◌, ◌⊎◌, ◌++◌, length}
use Rattle.std.specs.List.{find}
use Rattle.std.specs.Option.{option_map}
use Rattle.sfi_formats.specs.Numbers.{format_numbered}
use Rattle.sfi_image.specs.declared.fields.Fields.{Fields}
use Rattle.sfi_image.specs.declared.want.Stage.{Stage}
use Rattle.sfi_image.specs.declared.want.Stage.TheVariants as stage
use Rattle.sfi_image.specs.declared.fault.LayoutFault.{LayoutFault}
use Rattle.sfi_image.specs.declared.fault.LayoutFault.TheVariants as faults
use Rattle.sfi_image.specs.declared.layout_reader.LayoutReader.{LayoutReader}
use Rattle.sfi_image.specs.Faults.{number_of}
use Rattle.sfi_rules.specs.declared.finding.Finding.{Finding}
use Rattle.sfi_rules.specs.Rules.{numbered}
use Rattle.sfi_rules.specs.declared.owed.Owed.{Owed}
use Rattle.sfi_rules.specs.declared.owed.Owed.TheVariants as owed
use Rattle.sfi_check.specs.declared.feed.Feed.{Feed}
use Rattle.sfi_check.specs.declared.tally.Tally.{Tally}
use Rattle.sfi_check.specs.Feeds.{IsFed, AreFrontFindings}
use Rattle.sfi_check.specs.declared.for_c.SfiFinding.{SfiFinding}
use Rattle.sfi_c.specs.declared.stream.SfiStream.{SfiStream}
use Rattle.sfi_image.specs.declared.want.Want.TheVariants as wants
use Rattle.sfi_image.specs.Prefixes.{ImagePrefix, prefix_bytes, want_of, IsRightPrefix, IsLess, HasFaultWhateverFollows}

-- ---- what numbers stand for: `IsStreamOf`, and its parts, which only private contracts name
-- themselves

-- what comes next, by its number
abbrev pub stage_of : ℕ → Stage
stage_of n =
    cond (n == 0) stage.Magic
    (cond (n == 1) stage.Count
    (cond (n == 2) stage.Fields
    (cond (n == 3) stage.Gate
    (cond (n == 4) stage.Code
    (cond (n == 5) stage.Init
    (cond (n == 6) stage.End stage.Nothing))))))

-- what is owed, by its number: one for its kind, plus 8 times its register
abbrev pub owed_by : ℕ → ℕ → Owed
owed_by kind register =
    cond (kind == 1) owed.Code
    (cond (kind == 2) (owed.Mask register)
    (cond (kind == 3) (owed.PlaceOnly register)
    (cond (kind == 4) (owed.MaskOrUse register) owed.Nothing)))

abbrev pub owed_of : ℕ → Owed
owed_of n = owed_by (n % 8) (n / 8 % 256)

-- the first finding, if there is one: zeros are none, since no rule has the number 0
abbrev pub first_finding : SfiFinding → Option Finding
first_finding f =
    option_map (λ rule. record { sandbox = f.sandbox; address = f.address; rule = rule })
    (numbered f.rule)

-- all faults of the layout
abbrev pub all_faults : List LayoutFault
all_faults =
    faults.Magic ∷ faults.Count ∷ faults.Short ∷ faults.Code ∷ faults.Data ∷ faults.GuardRoom
    ∷ faults.Start ∷ faults.Gates ∷ faults.Init ∷ faults.Overlap ∷ faults.Trailing ∷ []

-- a fault of the layout, by its number; 0 is none
abbrev pub fault_of : ℕ → Option LayoutFault
fault_of n = find (λ k. n == number_of k) all_faults

-- ---- a feed, by the numbers of a stream

-- the fields of the last sandbox that the stream keeps
abbrev pub fields_of : SfiStream → Fields
fields_of s = record {
  format = format_numbered s.format;
  code_base = s.code_base;
  code_size = s.code_size;
  data_base = s.data_base;
  data_size = s.data_size;
  start = s.start;
  gate_count = s.gates_listed;
  init_len = s.init_len;
}

-- the reader that the stream keeps: of each array the first elements, as many as its count says
abbrev pub reader_of : SfiStream → LayoutReader
reader_of s = record {
  next = stage_of s.next;
  count = s.count;
  begun = s.begun;
  spans = take s.span_count s.spans;
  fields = fields_of s;
  gates = take s.gate_count s.gates;
  passed = s.passed;
  code_read = s.code_read;
  init_read = s.init_read;
}

-- the tally that the stream keeps
abbrev pub tally_of : SfiStream → Tally
tally_of s = record {
  sandboxes = s.sandboxes;
  bundles = s.bundles;
  count = s.findings;
  first = first_finding s.first;
  owed = owed_of s.owed;
}

-- the feed that the stream keeps
abbrev pub feed_of : SfiStream → Feed
feed_of s = record {
  reader = reader_of s;
  tally = tally_of s;
  held = s.held;
  count = s.held_count;
  fault = fault_of s.fault;
}

-- ---- of which bytes a stream is

-- the numbers are those of a feed that was fed these bytes, in any pieces
pub record IsStreamOf (s : SfiStream) (bytes : List ℕ) : Type 0 where
  pub fed : IsFed (feed_of s) bytes

-- ==== Bytes of an image that are refused before all of them have come.

-- the bytes are those of a right prefix of an image, and then fewer than come next, or none where the
-- image is whole
pub record AreReadTo (bytes : List ℕ) (at : ImagePrefix) : Type 0 where
  pub right : IsRightPrefix at
  pub held : List ℕ
  pub bytes_are : bytes ≡ prefix_bytes at ++ held
  pub rests :
      IsLess (length held) (want_of at) ⊎ ((want_of at ≡ wants.End) × (held ≡ []))

-- the bytes are read to a prefix whose whole sandboxes and whole bundles have these findings
pub record HaveFrontFindings (bytes : List ℕ) (found : List Finding) : Type 0 where
  pub at : ImagePrefix
  pub read : AreReadTo bytes at
  pub owed : Owed
  pub found_are : AreFrontFindings at found owed

-- The bytes are refused already: they have a fault of the layout, whatever follows them, or a rule is
-- broken in the bundles that have come whole.
abbrev pub AreRefusedAlready : List ℕ → Type 0
AreRefusedAlready bytes =
    ((k : LayoutFault) × HasFaultWhateverFollows bytes k)
    ⊎ ((found : List Finding) × (found ≢ []) × HaveFrontFindings bytes found)
