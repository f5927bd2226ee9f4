-- What the build and the map of a text are, and why a text has none.
use Rattle.std.specs.Prelude.{◌≡◌, ◌⊎◌, ℕ, List, [], length, Result, Ok, Err, Vec}
use Rattle.std.specs.Global.{Global}
use Rattle.sfi_text.specs.Tokens.{memory}
use Rattle.sfi_source.specs.Source.{Sandbox, format_of}
use Rattle.sfi_text.specs.SoFar.{SharedNames}
use Rattle.sfi_text.specs.Texts.{MeansText, IsFault}
use Rattle.sfi_image.specs.Spelling.{Part}
use Rattle.sfi_formats.specs.declared.place.Place.{Place}
use Rattle.sfi_image.specs.Parts.{IsImage}
use Rattle.sfi_rules.specs.Findings.{AreImageFindings}
use Rattle.sfi_rewrite.specs.declared.fault.RewriteFault.TheVariants as rewriter
use Rattle.sfi_rewrite.specs.Placement.{Placement}
use Rattle.sfi_rewrite.specs.Rewriting.{IsSourceFault, AreRewritten}
use Rattle.sfi_link.specs.declared.fault.LinkFault.TheVariants as linker
use Rattle.sfi_build.specs.declared.fault.BuildFault.{BuildFault}
use Rattle.sfi_build.specs.declared.fault.BuildFault.TheVariants.{Text, Rewrite, Link, Names}
use Rattle.sfi_build.specs.Tables.{tails_from, sandbox_with}
use Rattle.sfi_link.specs.Linked.{IsLinkedImage, HaveUsualPlaces, each_with}
use Rattle.sfi_link.specs.Faults.{IsLinkFault}
use Rattle.sfi_link.specs.Names.{MapEntry, map_from}

-- the text means a source, of whose placement an image can be made; `shared` is what the tables of
-- names are to have
pub record IsPlainBuild (given : List Place) (text : List ℕ) (source : List Sandbox)
    (shared : List SharedNames) (placed : List Placement) : Type 0 where
  pub means : MeansText text source shared
  pub rewritten : AreRewritten source placed
  pub bytes : List ℕ
  pub image : IsLinkedImage given placed bytes

-- the text means a source without a fault, and `whole` is that source with its tables of names at the
-- ends of the first data bytes
pub record MeansWhole (given : List Place) (text : List ℕ) (whole : List Sandbox) : Type 0 where
  pub source : List Sandbox
  pub shared : List SharedNames
  pub placed : List Placement
  pub plain : IsPlainBuild given text source shared placed
  pub tails : List (List ℕ)
  pub tails_are : tails_from given placed 0 shared source ≡ Ok tails
  pub whole_is : whole ≡ each_with sandbox_with tails source

-- the text means a source, and the bytes are the image of its placement, tables included
pub record IsTextBuild (given : List Place) (text bytes : List ℕ) : Type 0 where
  pub source : List Sandbox
  pub means : MeansWhole given text source
  pub placed : List Placement
  pub rewritten : AreRewritten source placed
  pub image : IsLinkedImage given placed bytes

-- the text has a build at the given places, and these are its gates and labels, with the addresses
-- that they have there
pub record IsTextMap (given : List Place) (text : List ℕ) (entries : List MapEntry)
    : Type 0 where
  pub bytes : List ℕ
  pub build : IsTextBuild given text bytes
  pub entries_are : entries ≡ map_from given 0 build.source build.placed

-- the bytes are an image with a right layout in which no rule is broken: the checker accepts it
pub record IsCleanImage (bytes : List ℕ) : Type 0 where
  pub parts : List Part
  pub image : IsImage bytes parts
  pub none_found : AreImageFindings parts []

-- the fault of the text: it means no source, or its source can't be rewritten,
-- or what is placed can't be linked, or a table of names can't be made
abbrev pub IsBuildFault : List Place → List ℕ → BuildFault → Type 0
IsBuildFault given text (Text f) = IsFault text f
IsBuildFault given text (Rewrite f) =
    (source : List Sandbox) × (shared : List SharedNames) × MeansText text source shared
    × IsSourceFault source f
IsBuildFault given text (Link f) =
    (source : List Sandbox) × (shared : List SharedNames) × (placed : List Placement)
    × MeansText text source shared × AreRewritten source placed × IsLinkFault given placed f
IsBuildFault given text (Names f) =
    (source : List Sandbox) × (shared : List SharedNames) × (placed : List Placement)
    × IsPlainBuild given text source shared placed
    × (tails_from given placed 0 shared source ≡ Err f)

-- There is a usual place for each sandbox of the text, if it means a source. Where masks of data have two
-- steps this asks nothing.
abbrev pub HasUsualPlaces : List ℕ → Type 0
HasUsualPlaces text = (source : List Sandbox) (shared : List SharedNames)
    → MeansText text source shared → HaveUsualPlaces (format_of source) (length source)

-- memory ran out
abbrev pub IsWantOfMemory : BuildFault → Type 0
IsWantOfMemory (Text f) = f ≡ memory
IsWantOfMemory (Rewrite f) = f ≡ rewriter.Memory
IsWantOfMemory (Link f) = f ≡ linker.Memory
IsWantOfMemory (Names f) = ⊥

-- the answer is these, or memory ran out
abbrev pub AnswersBuild : {X : Type 0} → List X → Result (Vec X Global) BuildFault → Type 0
AnswersBuild items (Ok v) = v.items ≡ items
AnswersBuild items (Err f) = IsWantOfMemory f

-- the answer is this fault, or memory ran out
abbrev pub AnswersBuildFault : {X : Type 0} → BuildFault → Result X BuildFault → Type 0
AnswersBuildFault f (Ok v) = ⊥
AnswersBuildFault f (Err g) = (g ≡ f) ⊎ IsWantOfMemory g
