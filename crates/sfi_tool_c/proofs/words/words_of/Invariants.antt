use Rattle.std.proofs.Common.{◌≡◌, ◌≢◌, ℕ, map, string_bytes, ◌≤◌, take}
use Rattle.std.specs.Prelude.{IsUtf8}
use Rattle.std.specs.List.{flat_map, All, AllWithin}
use Rattle.sfi_tool_c.specs.CommandAnswers.{ended, HasNoZero}
use Rattle.sfi_tool_c.proofs.words.words_of.Given as goal

-- the bytes before the word that is read are the words before it, and neither these nor it hold a zero byte; the words before it are in UTF-8
abbrev pub invariant-loop-at : goal.invariant-loop-at
invariant-loop-at l =
    (l.from ≤ l.at) × (take l.from l.bytes ≡ flat_map ended (map string_bytes l.words.items))
    × All HasNoZero (map string_bytes l.words.items) × AllWithin (λ (b : ℕ). b ≢ 0) l.bytes l.from l.at
    × All IsUtf8 (map string_bytes l.words.items)
