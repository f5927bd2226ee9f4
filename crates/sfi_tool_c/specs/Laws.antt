-- What holds of the definitions themselves.
use Rattle.std.specs.Prelude.{◌≡◌, ℕ, List}
use Rattle.clap.specs.Walk.{Text}
use Rattle.sfi_tool_c.specs.CommandAnswers.{SpellsWords}

-- bytes spell at most one list of words
abbrev pub OneSpelling : Type 0
OneSpelling = (bytes : List ℕ) (words others : List Text)
    → SpellsWords bytes words → SpellsWords bytes others → words ≡ others
