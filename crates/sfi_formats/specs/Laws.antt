-- The constants of the code are what the definitions say, and the limits of formats fit one another.
use Rattle.std.specs.Prelude.{◌≡◌, ◌≤◌, ◌^◌}
use Rattle.sfi_formats.specs.Limits.{bundle_size, guard, region_least, source_data_most, sandboxes_most, gates_most, service_most, items_most, name_most, first_frame, slack}
use Rattle.sfi_formats.specs.declared.format.Format.{Format}
use Rattle.sfi_formats.specs.declared.format.Format.TheVariants.{Sfi2}
use Rattle.sfi_formats.specs.Formats.{code_most, data_most, built_code_most, code_base_register, code_mask_register, data_base_register, data_mask_register, scratch, stack_pointer, code_register, offset_register}
use Rattle.sfi_formats.specs.declared.limits.TheConstants.{BUNDLE_SIZE, BUNDLE_BYTES, GUARD, REGION_LEAST, SOURCE_DATA_MOST, SANDBOXES_MOST, GATES_MOST, SERVICE_MOST, ITEMS_MOST, NAME_MOST, FIRST_FRAME, SLACK, REGION_LEAST_BYTES, SANDBOX_COUNT_MOST, GATE_COUNT_MOST, ITEM_COUNT_MOST, NAME_MOST_BYTES}
use Rattle.sfi_formats.specs.declared.registers.TheConstants.{CODE_BASE_REGISTER, CODE_MASK_REGISTER, DATA_BASE_REGISTER, DATA_MASK_REGISTER, SCRATCH, STACK_POINTER, CODE_REGISTER, OFFSET_REGISTER}

-- each limit of the code is that of the definitions
abbrev pub LimitsAgree : Type 0
LimitsAgree =
    (BUNDLE_SIZE ≡ bundle_size) × (BUNDLE_BYTES ≡ bundle_size) × (GUARD ≡ guard)
    × (REGION_LEAST ≡ region_least) × (SOURCE_DATA_MOST ≡ source_data_most)
    × (SANDBOXES_MOST ≡ sandboxes_most) × (GATES_MOST ≡ gates_most)
    × (SERVICE_MOST ≡ service_most) × (ITEMS_MOST ≡ items_most) × (NAME_MOST ≡ name_most)
    × (FIRST_FRAME ≡ first_frame) × (SLACK ≡ slack) × (REGION_LEAST_BYTES ≡ region_least)
    × (SANDBOX_COUNT_MOST ≡ sandboxes_most) × (GATE_COUNT_MOST ≡ gates_most)
    × (ITEM_COUNT_MOST ≡ items_most) × (NAME_MOST_BYTES ≡ name_most)

-- each format has room for the least regions, and for those that are made of a source
abbrev pub LimitsHaveRoom : Type 0
LimitsHaveRoom = (f : Format) →
    (region_least ≤ built_code_most f) × (built_code_most f ≤ code_most f)
    × (region_least ≤ source_data_most) × (source_data_most ≤ data_most f)

-- In each format a region is so small that a sum of a few sizes has 32 bits; made of a source, no
-- format's code is larger than the second's.
abbrev pub LimitsAreSmall : Type 0
LimitsAreSmall = (f : Format) →
    (code_most f ≤ 2 ^ 24) × (data_most f ≤ 2 ^ 30) × (built_code_most f ≤ built_code_most Sfi2)

-- each register of the code is that of the definitions
abbrev pub RegistersAgree : Type 0
RegistersAgree =
    (CODE_BASE_REGISTER ≡ code_base_register) × (CODE_MASK_REGISTER ≡ code_mask_register)
    × (DATA_BASE_REGISTER ≡ data_base_register) × (DATA_MASK_REGISTER ≡ data_mask_register)
    × (SCRATCH ≡ scratch) × (STACK_POINTER ≡ stack_pointer) × (CODE_REGISTER ≡ code_register)
    × (OFFSET_REGISTER ≡ offset_register)
