-- The formats of images, and the registers that have a part in a sandbox's confinement.
use Rattle.std.specs.Prelude.{◌==◌, ◌||◌, ℕ, Bool, ◌&&◌, not, List, true, false, codes}
use Rattle.sfi_formats.specs.declared.format.Format.{Format}
use Rattle.sfi_formats.specs.declared.format.Format.TheVariants.{Sfi1, Sfi2, Sfiw, Sfis}

-- ==== The registers that have a part in a sandbox's confinement, by their parts.

-- it holds the code base
abbrev pub code_base_register : ℕ
code_base_register = 24

-- it holds the code size less that of a unit of code: the mask of a code address
abbrev pub code_mask_register : ℕ
code_mask_register = 25

-- it holds the data base, unless it is a data register
abbrev pub data_base_register : ℕ
data_base_register = 26

-- it holds the mask of a data address
abbrev pub data_mask_register : ℕ
data_mask_register = 27

-- in it the expansions of code in bundles make addresses
abbrev pub scratch : ℕ
scratch = 31

-- the stack pointer, of a format that has one
abbrev pub stack_pointer : ℕ
stack_pointer = 2

-- ---- the typed registers of code in words

-- A data register of each format in words, x2, x3, x4 or x29: it holds an address in the data region or at
-- most 1020 bytes (`slack`) beside it; where masks are single (`has_single_mask`), or in the first addresses,
-- as many as the data have, or at most 1020 bytes beside these. There x26 and x31 are data registers, too
-- (`is_data_register_in`).
abbrev pub is_data_register : ℕ → Bool
is_data_register r = (r == 2) || (r == 3) || (r == 4) || (r == 29)

-- the one that an indirect jump goes by: it holds a word's start
abbrev pub code_register : ℕ
code_register = 30

-- the one that holds an offset in the data region, where a mask has two steps; a data register where masks
-- are single
abbrev pub offset_register : ℕ
offset_register = 31

-- ---- the return address

-- in it a call leaves where to return to; a gate returns there
abbrev pub return_register : ℕ
return_register = 1

-- one of the four that hold the bounds of the regions: nothing in a sandbox may write it, unless it
-- is a data register
abbrev pub is_reserved : ℕ → Bool
is_reserved r = (r == code_base_register) || (r == code_mask_register) || (r == data_base_register)
    || (r == data_mask_register)

-- one that a source of code in bundles may not name: a reserved one, or that of its expansions
abbrev pub is_withheld : ℕ → Bool
is_withheld r = is_reserved r || (r == scratch)

-- ==== The formats of images, and all that they differ in.

-- the first four bytes
unfoldable pub magic : Format → List ℕ
magic Sfi1 = codes "SFI1"
magic Sfi2 = codes "SFI2"
magic Sfiw = codes "SFIW"
magic Sfis = codes "SFIS"

-- the largest code region
abbrev pub code_most : Format → ℕ
code_most Sfi1 = 65536
code_most Sfi2 = 1048576
code_most Sfiw = 16777216
code_most Sfis = 16777216

-- the largest data region
abbrev pub data_most : Format → ℕ
data_most Sfi1 = 1048576
data_most Sfi2 = 1048576
data_most Sfiw = 1073741824
data_most Sfis = 1073741824

-- the largest code region that is made of a source
abbrev pub built_code_most : Format → ℕ
built_code_most Sfi1 = 65536
built_code_most Sfi2 = 1048576
built_code_most Sfiw = 1048576
built_code_most Sfis = 1048576

-- The bytes of a unit of code, a bundle's or a word's: a sandbox is entered at multiples of it alone,
-- and jumps to no other address.
abbrev pub unit : Format → ℕ
unit Sfi1 = 16
unit Sfi2 = 16
unit Sfiw = 4
unit Sfis = 4

-- Whether x2 is a stack pointer: it lies in the data region wherever a sandbox is entered or
-- replied to, an access on it needs no pair, and what writes it is confined.
abbrev pub has_stack : Format → Bool
has_stack Sfi1 = false
has_stack Sfi2 = true
has_stack Sfiw = false
has_stack Sfis = false

-- Whether code is in words: some registers have types, which say where they lie wherever a sandbox
-- is entered or replied to, and what writes one of them is confined.
abbrev pub has_words : Format → Bool
has_words Sfi1 = false
has_words Sfi2 = false
has_words Sfiw = true
has_words Sfis = true

-- the register of that number is the format's stack pointer
abbrev pub is_stack : Format → ℕ → Bool
is_stack f r = has_stack f && (r == stack_pointer)

-- Whether the mask of a data register, in code in words, is single: `and d, a, x27`. It has two steps
-- else: `and x31, d, x27`, which leaves an offset, and then `or d, x31, x26`.
abbrev pub has_single_mask : Format → Bool
has_single_mask Sfi1 = false
has_single_mask Sfi2 = false
has_single_mask Sfiw = false
has_single_mask Sfis = true

-- a data register of code in words of this format: where masks of data are single, x26 and x31 are
-- such registers, too
abbrev pub is_data_register_in : Format → ℕ → Bool
is_data_register_in f r = is_data_register r
    || (((r == data_base_register) || (r == offset_register)) && has_single_mask f)

-- nothing in a sandbox of code in words of this format may write the register
abbrev pub is_reserved_in : Format → ℕ → Bool
is_reserved_in f r = is_reserved r && not (is_data_register_in f r)
