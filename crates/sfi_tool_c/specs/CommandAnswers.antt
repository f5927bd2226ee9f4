-- The answer of a command, as C gets it.
use Rattle.std.specs.Prelude.{◌≡◌, ◌≢◌, ℕ, List, [], ◌∷◌, ◌++◌, All, IsUtf8, ◌⊎◌, length, take, drop}
use Rattle.std.specs.List.{flat_map}
use Rattle.clap.specs.Walk.{Text}
use Rattle.sfi_command.specs.declared.job.Job.{Job}
use Rattle.sfi_command.specs.Command.{Asks, AsksNoInput, AsksNothing}
use Rattle.sfi_answers.specs.FaultTexts.{IsFaultLine}
use Rattle.sfi_tool.specs.Says.{Says, hex_line, meaning_of}

-- ==== The words of a command line, as bytes.

-- a word, and the zero byte that ends it
abbrev pub ended : Text → List ℕ
ended word = word ++ 0 ∷ []

-- a word holds no zero byte
abbrev pub HasNoZero : Text → Type 0
HasNoZero word = All (λ (b : ℕ). b ≢ 0) word

-- the bytes are these words, in UTF-8, each with a zero byte after it and none in it
pub record SpellsWords (bytes : List ℕ) (words : List Text) : Type 0 where
  pub bytes_are : bytes ≡ flat_map ended words
  pub unbroken : All HasNoZero words
  pub utf8 : All IsUtf8 words

-- ==== The answer of a command.

-- an array after a text was written to it: at its front as much as it has room for, and then what
-- it held there before
abbrev pub with_text : List ℕ → List ℕ → List ℕ
with_text text array = take (length array) text ++ drop (length text) array

-- the words ask for a job, whose answer on what was read has this status and this output
pub record IsAnswer (words : List ℕ) (input : List ℕ) (status : ℕ) (text : List ℕ) : Type 0 where
  pub spelled : List Text
  pub words_are : SpellsWords words spelled
  pub job : Job
  pub asked : Asks spelled job
  pub says : Says job input status text

-- a text was written to the caller's array; `len` is its length
pub record IsTextWritten (text old new : List ℕ) (len : ℕ) : Type 0 where
  pub length_is : len ≡ length text
  pub output_is : new ≡ with_text text old

-- the answer's text was written to the caller's array; `len` is its length
pub record IsAnswerWritten (words input : List ℕ) (status : ℕ) (old new : List ℕ) (len : ℕ) : Type 0 where
  pub text : List ℕ
  pub answer : IsAnswer words input status text
  pub tells : IsTextWritten text old new len

-- the bytes spell no words, or words that ask for nothing
abbrev pub SpellsNoCommand : List ℕ → Type 0
SpellsNoCommand words = (spelled : List Text) → SpellsWords words spelled → AsksNothing spelled

-- the words ask for a job, and this is the line of the fault that it has on what was read; or they ask
-- for a run whose `--input` spells no bytes, and it is the line of that
pub record IsFaultAnswer (words : List ℕ) (input : List ℕ) (line : List ℕ) : Type 0 where
  pub spelled : List Text
  pub words_are : SpellsWords words spelled
  pub is : ((job : Job) × Asks spelled job × IsFaultLine (meaning_of job) input line)
      ⊎ (AsksNoInput spelled × (line ≡ hex_line))

-- that line was written to the caller's array; `len` is its length
pub record IsFaultWritten (words input : List ℕ) (old new : List ℕ) (len : ℕ) : Type 0 where
  pub line : List ℕ
  pub answer : IsFaultAnswer words input line
  pub tells : IsTextWritten line old new len
