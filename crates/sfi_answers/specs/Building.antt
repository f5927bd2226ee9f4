-- The commands `build`, `map` and `convert`.
use Rattle.std.specs.Prelude.{ℕ, ◌+◌, ◌==◌, List, [], ◌∷◌, ◌++◌, codes, decimal, ◌≡◌, ◌⊎◌, ◌<◌, ◌≤◌, length, IsUtf8, Bool, true, false, if◌then◌else◌}
use Rattle.std.specs.List.{flat_map}
use Rattle.sfi_formats.specs.declared.format.Format.{Format}
use Rattle.sfi_formats.specs.declared.format.Format.TheVariants.{Sfi1, Sfi2, Sfiw, Sfis}
use Rattle.sfi_image.specs.Spelling.{Part}
use Rattle.sfi_image.specs.Parts.{IsImage}
use Rattle.sfi_link.specs.Names.{MapEntry}
use Rattle.sfi_link.specs.declared.names.NameKind.{NameKind}
use Rattle.sfi_link.specs.declared.names.NameKind.TheVariants.{Gate, Code, Data}
use Rattle.sfi_report.specs.Listing.{hex_digits, line_end, IsNamesText}
use Rattle.hex.specs.Hex.{encode_lower}
use Rattle.sfi_build.specs.Texts.{IsTextBuild, IsTextMap, IsBuildFault}
use Rattle.sfi_formats.specs.declared.place.Place.{Place}
use Rattle.sfi_io.specs.Hexadecimal.{limit}
use Rattle.sfi_answers.specs.Answers.{Meaning, refused_line, SaysRefused}
use Rattle.sfi_answers.specs.declared.fault.InputFault.TheVariants.{Utf8, TooLarge, NotOld, Words}
use Rattle.sfi_answers.specs.declared.fault.Stop.{Stop}
use Rattle.sfi_answers.specs.declared.fault.Stop.TheVariants as stop
use Rattle.sfi_check.specs.Converting.{IsSecond, IsConversion, HasStackFindings, IsConvertFault}
use Rattle.sfi_check.specs.declared.conversion.ConvertFault.TheVariants as conversion
use Rattle.sfi_check.specs.declared.refusal.Refusal.TheVariants as refusal
use Rattle.sfi_check.specs.Verdict.{HasFindings}
use Rattle.sfi_rules.specs.declared.finding.Finding.{Finding}

-- ==== The commands `build` and `map`, on a source text.

-- ---- the lines that say the addresses of gates and labels

-- what has the name, in a word
abbrev pub kind_name : NameKind → List ℕ
kind_name Gate = codes "gate"
kind_name Code = codes "code"
kind_name Data = codes "data"

-- the line of a gate or label: its sandbox, counted from 0, what it is, its name and its address
abbrev pub map_line : MapEntry → List ℕ
map_line e =
    codes "sandbox=" ++ decimal e.sandbox
    ++ codes " " ++ kind_name e.kind
    ++ codes " " ++ e.name
    ++ codes " at=" ++ hex_digits 8 e.address ++ line_end

-- the line of a gate or label of sandbox `sandbox`, and nothing of one of another
abbrev pub line_in : ℕ → MapEntry → List ℕ
line_in sandbox e = if e.sandbox == sandbox then map_line e else []

-- the lines of the gates and labels of sandbox `sandbox`, in their order
abbrev pub lines_in : ℕ → List MapEntry → List ℕ
lines_in sandbox entries = flat_map (line_in sandbox) entries

-- ---- the map of an image

-- what a map says of first data bytes: what the table says in which they end; of a table in an
-- image of the first format nothing
abbrev pub IsTableText : Format → List ℕ → List ℕ → Type 0
IsTableText Sfi1 init text = text ≡ []
IsTableText Sfi2 init text = IsNamesText init text
IsTableText Sfiw init text = IsNamesText init text
IsTableText Sfis init text = IsNamesText init text

-- the map of parts, the first of which is that of sandbox `sandbox`: of each the lines of its
-- gates and labels, and then what is said of its first data bytes
abbrev pub IsMapFrom : ℕ → List MapEntry → List Part → List ℕ → Type 0
IsMapFrom sandbox entries [] text = text ≡ []
IsMapFrom sandbox entries (p ∷ parts) text =
    (table : List ℕ) × (rest : List ℕ) × IsTableText p.format p.init table
    × IsMapFrom (sandbox + 1) entries parts rest
    × (text ≡ lines_in sandbox entries ++ table ++ rest)

-- the text has a build at the given places, and this is the map of its image
pub record IsMapText (given : List Place) (source text : List ℕ) : Type 0 where
  pub entries : List MapEntry
  pub map : IsTextMap given source entries
  pub parts : List Part
  pub image : IsImage map.bytes parts
  pub text_is : IsMapFrom 0 entries parts text

-- ---- the commands

-- what was read keeps its limit and is UTF-8
pub record IsSourceText (input : List ℕ) : Type 0 where
  pub short : length input ≤ limit
  pub utf8 : IsUtf8 input

-- why nothing is made of what was read, with the sandboxes of a source at these places: it is above
-- its limit; or it keeps that, and isn't UTF-8; or it is a source text that has this fault
abbrev pub IsNotMade : List Place → List ℕ → Stop → Type 0
IsNotMade places input (stop.Input TooLarge) = limit < length input
IsNotMade places input (stop.Input Utf8) = (length input ≤ limit) × ¬ IsUtf8 input
IsNotMade places input (stop.Build fault) = IsSourceText input × IsBuildFault places input fault
IsNotMade places input _ = ⊥

-- it is a source text of which something is made: status 0 and the text of that
pub record SaysMade {A : Type 0} (is_made : List ℕ → A → Type 0) (text_of : A → List ℕ)
    (input : List ℕ) (status : ℕ) (text : List ℕ) : Type 0 where
  pub made : A
  pub source : IsSourceText input
  pub is : is_made input made
  pub status_is : status ≡ 0
  pub text_is : text ≡ text_of made

-- a command that says what is made of a source text with its sandboxes at these places, and never
-- refuses for findings
abbrev pub of_source : {A : Type 0}
    → (List Place → List ℕ → A → Type 0) → (A → List ℕ) → List Place → Meaning
of_source {A} is_made text_of places = record {
  says = SaysMade (is_made places) text_of;
  is_done = λ input. (made : A) × IsSourceText input × is_made places input made;
  is_refused = λ input. ⊥;
  why = IsNotMade places;
}

-- the bytes in lower-case digits, on one line
abbrev pub digits_line : List ℕ → List ℕ
digits_line bytes = encode_lower bytes ++ line_end

-- an image's bytes as they are, or as such a line
abbrev pub image_output : Bool → List ℕ → List ℕ
image_output true bytes = bytes
image_output false bytes = digits_line bytes

-- `build`, with these places: the build's bytes, or their line
abbrev pub build : Bool → List Place → Meaning
build raw = of_source IsTextBuild (image_output raw)

-- `map`, with these places: the map of the image, with the addresses that it has there; what has no
-- build has no map, and the same fault
abbrev pub map : List Place → Meaning
map = of_source IsMapText (λ text. text)

-- ==== The command `convert`, on an image's bytes.

-- ---- the answer

-- the image has a conversion: status 0 and the new bytes, or one line of their digits
pub record SaysConverted (raw : Bool) (bytes : List ℕ) (status : ℕ) (text : List ℕ) : Type 0 where
  pub new : List ℕ
  pub conversion : IsConversion bytes new
  pub status_is : status ≡ 0
  pub text_is : text ≡ image_output raw new

-- the image has no findings in the first format, and its sandboxes have some in the second: status
-- 1 and the line of the first
pub record SaysStackFindings (bytes : List ℕ) (status : ℕ) (text : List ℕ) : Type 0 where
  pub found : List Finding
  pub refused : HasStackFindings bytes found
  pub status_is : status ≡ 1
  pub text_is : text ≡ refused_line found

-- the conversion, or the verdict on an image of the first format or of code in words with findings, or on one
-- of the first whose sandboxes have findings in the second alone
abbrev pub SaysConversion : Bool → List ℕ → ℕ → List ℕ → Type 0
SaysConversion raw bytes status text =
    SaysConverted raw bytes status text
    ⊎ (((¬ IsSecond bytes) × SaysRefused false bytes status text) ⊎ SaysStackFindings bytes status text)

-- ---- when it is due

-- the bytes are an image of the first format or of code in words with findings, or one of the first whose
-- sandboxes have findings in the second alone
abbrev pub HasFindingsForConvert : List ℕ → Type 0
HasFindingsForConvert bytes =
    (found : List Finding)
    × (((¬ IsSecond bytes) × HasFindings bytes found) ⊎ HasStackFindings bytes found)

-- why the bytes aren't converted: they begin with the magic of the second format, whatever follows;
-- they don't, and this is the fault of their layout; or they are an accepted image of code in words
abbrev pub IsNotConverted : List ℕ → Stop → Type 0
IsNotConverted bytes (stop.Input NotOld) = IsConvertFault bytes conversion.NotOld
IsNotConverted bytes (stop.Layout k) =
    IsConvertFault bytes (conversion.Refused (refusal.Layout k))
IsNotConverted bytes (stop.Input Words) = IsConvertFault bytes conversion.Words
IsNotConverted bytes _ = ⊥

-- ---- the command

-- `convert`
abbrev pub convert : Bool → Meaning
convert raw = record {
  says = SaysConversion raw;
  is_done = λ bytes. (new : List ℕ) × IsConversion bytes new;
  is_refused = HasFindingsForConvert;
  why = IsNotConverted;
}
