-- What the host of letters answers to a call. Of its own state it keeps nothing.
use Rattle.std.specs.Prelude.{ℕ, ◌-◌, ◌^◌, ◌==◌, nat_le, Bool, false, List, map, Option, Some, None, if◌then◌else◌}
use Rattle.std.specs.Char.{to_ascii_uppercase}
use Rattle.sfi_host.specs.Hosts.{data_from, with_a0, with_bytes_at, Call, Way, Replied, Exit, Answer}

-- the caller goes on in this way, with the a0, a1 and data bytes of this call
abbrev pub answered : {S : Type 0} → S → Way → Call → Answer S
answered s way c =
    record { reply = record { way = way; a0 = c.a0; a1 = c.a1; bytes = c.bytes }; host = s }

-- how many bytes a text may have
abbrev pub most_text : ℕ
most_text = 64

-- the caller's text: its a1 bytes from a0 on; None where they are too many,
-- or one of them isn't in its data region
abbrev pub text_of : Call → Option (List ℕ)
text_of c = if nat_le c.a1 most_text then data_from c c.a0 c.a1 else None

-- a0 of a refused call
abbrev pub failed : ℕ
failed = 2 ^ 32 - 1

-- upper: the text gets upper case in its place, and a0 becomes how many bytes it has
abbrev pub upper_of : {S : Type 0} → S → Call → Option (List ℕ) → Answer S
upper_of s c None = answered s Replied (with_a0 c failed)
upper_of s c (Some text) =
    answered s Replied (with_a0 (with_bytes_at c c.a0 (map to_ascii_uppercase text)) c.a1)

abbrev pub upper : {S : Type 0} → S → Call → Answer S
upper s c = upper_of s c (text_of c)

-- the services, by the numbers that a gate asks with
abbrev pub exit_service : ℕ
exit_service = 0

abbrev pub upper_service : ℕ
upper_service = 1

-- what the host answers to each service: exit stops the caller with the number a0, and no other is
-- served
abbrev pub letters : {S : Type 0} → S → Call → Answer S
letters s c =
    if c.service == exit_service then answered s (Exit c.a0) c
    else if c.service == upper_service then upper s c
    else answered s Replied (with_a0 c failed)

-- the host never lacks memory, since it takes none
abbrev pub letters_may_refuse : {S : Type 0} → S → Call → Bool
letters_may_refuse s c = false
