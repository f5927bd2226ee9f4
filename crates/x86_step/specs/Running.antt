-- Instructions whose bytes stand in a text, and what they do one after another.
use Rattle.std.specs.Prelude.{◌≡◌, ℕ, ◌+◌, Bool, true, false, ◌&&◌, List, [], ◌∷◌, ◌++◌, length, Result, Ok}
use Rattle.x86_instr.specs.declared.instr.Instr.{Instr}
use Rattle.x86_instr.specs.declared.instr.Instr.TheVariants.{Jcc, Jmp, JmpTo}
use Rattle.x86_instr.specs.Spelling.{spelling}
use Rattle.x86_step.specs.declared.machine.Stop.{Stop}
use Rattle.x86_step.specs.State.{Core, Text}
use Rattle.x86_step.specs.Step.{◌>>=◌, computes}

-- the text has these bytes at that address
pub record HasAt (t : Text) (at : ℕ) (bytes : List ℕ) : Type 0 where
  pub before : List ℕ
  pub after : List ℕ
  pub bytes_are : t.bytes ≡ before ++ (bytes ++ after)
  pub at_is : at ≡ t.base + length before

-- the bytes that spell instructions, one after another
abbrev pub spellings : List Instr → List ℕ
spellings [] = []
spellings (i ∷ is) = spelling i ++ spellings is

-- after it comes the one behind it: it is no jump
abbrev pub is_straight : Instr → Bool
is_straight (Jcc condition distance) = false
is_straight (Jmp distance) = false
is_straight (JmpTo target) = false
is_straight i = true

abbrev pub are_straight : List Instr → Bool
are_straight [] = true
are_straight (i ∷ is) = is_straight i && are_straight is

-- what straight instructions do with registers, flags and memory, one after another
abbrev pub exec : List Instr → Core → Result Core Stop
exec [] c = Ok c
exec (i ∷ is) c = computes i c >>= exec is
