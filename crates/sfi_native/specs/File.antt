-- The file of an image's native code. Numbers have four bytes, the lowest first.
use Rattle.std.specs.Prelude.{◌≡◌, ℕ, ◌+◌, ◌*◌, ◌%◌, ◌^◌, ◌≤◌, List, [], ◌∷◌, ◌++◌, codes, length, Option, Some, None}
use Rattle.std.specs.List.{flat_map}
use Rattle.sfi_formats.specs.Formats.{magic}
use Rattle.sfi_image.specs.Spelling.{Part, fields, fields_of, format_of, number}
use Rattle.sfi_translate.specs.Lines.{Line, AreLines}
use Rattle.x86_instr.specs.declared.operand.Register.{Register}
use Rattle.x86_instr.specs.Spelling.{number as register_number}
use Rattle.x86_step.specs.Running.{spellings}
use Rattle.sfi_native.specs.declared.plan.Plan.{Plan}
use Rattle.sfi_native.specs.Registers.{IsRightPlan}
use Rattle.sfi_native.specs.Checksum.{crc32}
use Rattle.sfi_native.specs.Entries.{AreEntries}
use Rattle.sfi_native.specs.Faults.{accesses_of}
use Rattle.sfi_native.specs.declared.faults.Access.{Access}
use Rattle.sfi_native.specs.Places.{end_address, exit_of, whole_code}
use Rattle.sfi_native.specs.Code.{end_size}
use Rattle.sfi_native.specs.Sizes.{bytes_most}

-- a count, of which 32 bits are kept
abbrev pub count : ℕ → List ℕ
count n = number (n % 2 ^ 32)

-- where code accesses the data: how many bytes of it are before, the address of the line, and how many steps are owed there
abbrev pub access_bytes : Access → List ℕ
access_bytes a = number a.offset ++ number a.pc ++ number a.owed

-- where one of the sandbox's registers lies: the number of the processor's register, or 255 for the frame
abbrev pub place_bytes : Option Register → List ℕ
place_bytes (Some q) = register_number q ∷ []
place_bytes None = 255 ∷ []

-- a sandbox: its fields as in the image, where its registers lie, how many bytes of code and accesses there are, where each
-- unit is entered and how many steps are owed there, the accesses, and the code
abbrev pub sandbox_bytes : Plan → Part → List ℕ → List Access → List ℕ → List ℕ
sandbox_bytes plan p entries accesses code =
    fields (fields_of p) ++ flat_map place_bytes plan.assigned ++ count (length code) ++ count (length accesses)
    ++ flat_map number entries ++ flat_map access_bytes accesses ++ code

-- the bytes are those of the sandbox of that number, by some right plan for its format, and few
pub record IsSandboxFile (sandbox : ℕ) (p : Part) (bytes : List ℕ) : Type 0 where
  pub lines : List Line
  pub lines_are : AreLines sandbox p lines
  pub plan : Plan
  pub plan_is_right : IsRightPlan plan
  pub format_is : plan.format ≡ p.format
  pub table : List ℕ
  pub entries : AreEntries plan p lines table
  pub small : exit_of plan lines ≤ bytes_most * length p.code + end_size
  pub bytes_are : bytes ≡
      sandbox_bytes plan p table (accesses_of plan lines lines) (spellings (whole_code plan (end_address p) lines))

-- sandboxes, the first of which has that number
abbrev pub AreSandboxFiles : ℕ → List Part → List ℕ → Type 0
AreSandboxFiles sandbox [] bytes = bytes ≡ []
AreSandboxFiles sandbox (p ∷ ps) bytes =
    (front : List ℕ) × (rest : List ℕ) × IsSandboxFile sandbox p front
    × AreSandboxFiles (sandbox + 1) ps rest × (bytes ≡ front ++ rest)

-- what the file is, its version, the image that it belongs to, and that image's front
abbrev pub front : List ℕ → List Part → List ℕ
front image ps =
    codes "SFIN" ++ number 5 ++ count (length image) ++ number (crc32 image) ++ magic (format_of ps) ++ count (length ps)

-- how many bytes come before, and the checksum of all before
abbrev pub sealed : List ℕ → List ℕ
sealed bytes =
    let counted = bytes ++ count (length bytes) in
    counted ++ number (crc32 counted)

-- the file of the image with these bytes and parts
pub record IsNativeFile (image : List ℕ) (ps : List Part) (file : List ℕ) : Type 0 where
  pub sandboxes : List ℕ
  pub are : AreSandboxFiles 0 ps sandboxes
  pub file_is : file ≡ sealed (front image ps ++ sandboxes)
