-- The limits of a source, of a sandbox and of an image.
use Rattle.std.specs.Prelude.{ℕ}

-- the bytes of a bundle
abbrev pub bundle_size : ℕ
bundle_size = 16

-- the bytes of a word of code
abbrev pub word_size : ℕ
word_size = 4

-- how many addresses a guard zone has
abbrev pub guard : ℕ
guard = 4096

-- the least bytes of a region, of code or of data
abbrev pub region_least : ℕ
region_least = 256

-- the most bytes of a data region of a source, in whichever format
abbrev pub source_data_most : ℕ
source_data_most = 1048576

-- the most sandboxes that an image has
abbrev pub sandboxes_most : ℕ
sandboxes_most = 16

-- the most gates that a sandbox may have
abbrev pub gates_most : ℕ
gates_most = 64

-- the highest number of a service that a gate may ask for; the lowest is 0
abbrev pub service_most : ℕ
service_most = 5

-- the most instructions of a sandbox of a source
abbrev pub items_most : ℕ
items_most = 65536

-- the most bytes of a name of a source
abbrev pub name_most : ℕ
name_most = 64

-- how far below its data region's end a sandbox's stack pointer lies at first
abbrev pub first_frame : ℕ
first_frame = 16

-- How many bytes outside its data region the address in a data register of code in words may lie (where
-- masks are single also outside the first addresses, as many as the data have). It is also the largest offset, up or down, of an access that may follow a step of such a
-- register. The sum of 1020 bytes outside the region, 2048 of a step, 1020 of an offset, and 3 more
-- to the last byte of a word is less than a guard zone.
abbrev pub slack : ℕ
slack = 1020
