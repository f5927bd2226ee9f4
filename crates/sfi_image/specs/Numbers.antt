-- The numbers of an image, as its readers and writers take them: how many bytes each has, and which have 32 bits; and the same
-- sandboxes in another format.
use Rattle.std.specs.Prelude.{ℕ, List, map}
use Rattle.std.specs.List.{All}
use Rattle.sfi_formats.specs.declared.format.Format.{Format}
use Rattle.sfi_image.specs.declared.part.Gate.{Gate}
use Rattle.sfi_image.specs.declared.fields.Fields.{Fields}
use Rattle.sfi_image.specs.Spelling.{Part, fields_of, IsWord}

-- ---- bytes

-- how many bytes a magic has
abbrev pub magic_bytes : ℕ
magic_bytes = 4

-- how many bytes a number has
abbrev pub number_bytes : ℕ
number_bytes = 4

-- how many bytes the seven fields have
abbrev pub fields_bytes : ℕ
fields_bytes = 28

-- how many bytes a gate has
abbrev pub gate_bytes : ℕ
gate_bytes = 8

-- ---- what four bytes can hold

-- each of the seven fields has 32 bits
pub record AreFieldWords (f : Fields) : Type 0 where
  pub code_base : IsWord f.code_base
  pub code_size : IsWord f.code_size
  pub data_base : IsWord f.data_base
  pub data_size : IsWord f.data_size
  pub start : IsWord f.start
  pub gate_count : IsWord f.gate_count
  pub init_len : IsWord f.init_len

-- both numbers of a gate have 32 bits
pub record AreGateWords (g : Gate) : Type 0 where
  pub address : IsWord g.address
  pub service : IsWord g.service

-- each number of a sandbox has 32 bits
pub record AreWords (p : Part) : Type 0 where
  pub fields : AreFieldWords (fields_of p)
  pub gates : All AreGateWords p.gates

-- ==== The same sandboxes in an image of another format.

-- the same sandbox in an image of this format
abbrev pub in_format : Format → Part → Part
in_format f p = record p { format = f }

-- the same sandboxes in an image of this format
abbrev pub all_in_format : Format → List Part → List Part
all_in_format f ps = map (in_format f) ps
