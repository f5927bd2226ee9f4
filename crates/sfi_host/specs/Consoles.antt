-- Consoles: messages, services, and what is answered.
use Rattle.std.specs.Prelude.{ℕ, ◌+◌, ◌-◌, ◌^◌, ◌==◌, nat_le, nat_lt, ◌&&◌, Bool, true, false, List, [], ◌∷◌, ◌++◌, length, take, drop, replicate, Option, Some, None, slice_get, slice_set, if◌then◌else◌}
use Rattle.std.specs.List.{range_with_len}
use Rattle.std.specs.Option.{option_map}
use Rattle.rv_mem.specs.Bytes.{with_bytes}
use Rattle.sfi_host.specs.Hosts.{data_from, Call, Replied, Yield, Exit, Answer}

-- ==== What one sandbox posts to another.

-- a word, and the number of the sandbox that posted it
pub record Message : Type 0 where
  pub sender : ℕ
  pub word : ℕ

-- ==== The services of a console, by the numbers that a gate asks with.

-- the caller stops
abbrev pub exit_service : ℕ
exit_service = 0

-- bytes of the caller go to its output
abbrev pub put_service : ℕ
put_service = 1

-- bytes of the input go to the caller
abbrev pub get_service : ℕ
get_service = 2

-- the caller's turn ends
abbrev pub yield_service : ℕ
yield_service = 3

-- a word goes to a mailbox
abbrev pub post_service : ℕ
post_service = 4

-- a word leaves the caller's mailbox
abbrev pub take_service : ℕ
take_service = 5

-- ==== What a console answers: a function of what it keeps of each sandbox, and of a call.

-- ---- what a console keeps

-- of a sandbox: its output, how many bytes of the input it has read, and the messages in its
-- mailbox, the oldest first
pub record SessionState : Type 0 where
  pub output : List ℕ
  pub input_read : ℕ
  pub mailbox : List Message

-- the input, and of each sandbox, by number, what is kept
pub record ConsoleState : Type 0 where
  pub input : List ℕ
  pub sessions : List SessionState

-- at first nothing is written, read or posted
abbrev pub new_session : SessionState
new_session = record { output = []; input_read = 0; mailbox = [] }

-- the console at first, for a number of sandboxes with this input
abbrev pub new_console : ℕ → List ℕ → ConsoleState
new_console sandboxes input = record { input = input; sessions = replicate sandboxes new_session }

-- the output of a sandbox; None where there is none of that number
abbrev pub output_of : ConsoleState → ℕ → Option (List ℕ)
output_of s i = option_map (λ (x : SessionState). x.output) (slice_get s.sessions i)

-- ---- what put and get have in common

-- a0 of a refused call
abbrev pub failed : ℕ
failed = 2 ^ 32 - 1

-- how many bytes one call may hand over, and how many an output may have
abbrev pub most_handed : ℕ
most_handed = 65536

abbrev pub most_output : ℕ
most_output = 1048576

-- the caller's a1 bytes from a0 on; None where they are too many,
-- or one of them isn't in its data region
abbrev pub handed : Call → Option (List ℕ)
handed c = if nat_le c.a1 most_handed then data_from c c.a0 c.a1 else None

-- the answer after which the caller goes on with this a0; a1 and its data bytes stay
abbrev pub replied : {S : Type 0} → Call → ℕ → S → Answer S
replied c a0 s =
    record { reply = record { way = Replied; a0 = a0; a1 = c.a1; bytes = c.bytes }; host = s }

-- ---- put: the handed bytes go to the end of the caller's output

-- the bytes that a put appends; None where they can't be handed over, or the output would be too
-- long
abbrev pub appended : SessionState → Call → Option (List ℕ)
appended x c = if nat_le (length x.output + c.a1) most_output then handed c else None

abbrev pub put_bytes : SessionState → Call → Option (List ℕ) → Answer SessionState
put_bytes x c None = replied c failed x
put_bytes x c (Some bytes) = replied c c.a1 (record x { output = x.output ++ bytes })

abbrev pub put : SessionState → Call → Answer SessionState
put x c = put_bytes x c (appended x c)

-- whether there are bytes to append, at least one
abbrev pub has_bytes : Option (List ℕ) → Bool
has_bytes None = false
has_bytes (Some []) = false
has_bytes (Some (b ∷ bs)) = true

-- ---- get: the next bytes of the input, a1 at most, are written from a0 on

abbrev pub get_bytes : SessionState → Call → List ℕ → Answer SessionState
get_bytes x c next = record {
  reply = record {
    way = Replied;
    a0 = length next;
    a1 = c.a1;
    bytes = with_bytes c.bytes (range_with_len c.a0 (length next)) next;
  };
  host = record x { input_read = x.input_read + length next };
}

-- the answer to a get: a refusal where its a1 bytes from a0 on couldn't be handed over
abbrev pub get_if : List ℕ → SessionState → Call → Option (List ℕ) → Answer SessionState
get_if input x c None = replied c failed x
get_if input x c (Some old) = get_bytes x c (take c.a1 (drop x.input_read input))

abbrev pub get : List ℕ → SessionState → Call → Answer SessionState
get input x c = get_if input x c (handed c)

-- ---- post: the caller's word goes to the end of the mailbox of the sandbox that a0 names

-- how many messages a mailbox may have
abbrev pub most_messages : ℕ
most_messages = 16

-- the message of a post: a1 and the caller's number
abbrev pub message_of : Call → Message
message_of c = record { sender = c.caller; word = c.a1 }

-- the session with one message more in its mailbox
abbrev pub with_message : SessionState → Message → SessionState
with_message x m = record x { mailbox = x.mailbox ++ m ∷ [] }

-- the console with this session of sandbox `i`
abbrev pub with_session : ConsoleState → ℕ → SessionState → ConsoleState
with_session s i x = record s { sessions = slice_set s.sessions i x }

-- a0 after a post, and after one to a mailbox that is full
abbrev pub posted : ℕ
posted = 0

abbrev pub mailbox_full : ℕ
mailbox_full = 1

-- a0 says whether the message is posted or the mailbox full;
-- where there is no such sandbox the call is refused
abbrev pub post_to : ConsoleState → Call → Option SessionState → Answer ConsoleState
post_to s c None = replied c failed s
post_to s c (Some x) =
    if nat_lt (length x.mailbox) most_messages
    then replied c posted (with_session s c.a0 (with_message x (message_of c)))
    else replied c mailbox_full s

abbrev pub post : ConsoleState → Call → Answer ConsoleState
post s c = post_to s c (slice_get s.sessions c.a0)

-- ---- take: the oldest message leaves the caller's mailbox

-- a0 becomes its word and a1 its sender plus 1, or both 0 where the mailbox is empty
abbrev pub take_oldest : SessionState → Call → List Message → Answer SessionState
take_oldest x c [] =
    record { reply = record { way = Replied; a0 = 0; a1 = 0; bytes = c.bytes }; host = x }
take_oldest x c (m ∷ ms) = record {
  reply = record { way = Replied; a0 = m.word; a1 = m.sender + 1; bytes = c.bytes };
  host = record x { mailbox = ms };
}

abbrev pub take_message : SessionState → Call → Answer SessionState
take_message x c = take_oldest x c x.mailbox

-- ---- all services

-- the answer to a service that needs the caller's session alone: put, get and take; any other is
-- refused
abbrev pub serve : List ℕ → SessionState → Call → Answer SessionState
serve input x c =
    if c.service == put_service then put x c
    else if c.service == get_service then get input x c
    else if c.service == take_service then take_message x c
    else replied c failed x

-- the answer of `serve` as the console's, in which the caller's session goes on
abbrev pub serve_own : ConsoleState → Call → SessionState → Answer ConsoleState
serve_own s c x = let a = serve s.input x c in
    record { reply = a.reply; host = with_session s c.caller a.host }

-- the answer to a post, or that of the caller's session; a caller that has none is refused
abbrev pub serve_if : ConsoleState → Call → Option SessionState → Answer ConsoleState
serve_if s c None = replied c failed s
serve_if s c (Some x) = if c.service == post_service then post s c else serve_own s c x

-- the answer to an exit: the caller has stopped, with a0 as its number
abbrev pub exits : ConsoleState → Call → Answer ConsoleState
exits s c =
    record { reply = record { way = Exit c.a0; a0 = c.a0; a1 = c.a1; bytes = c.bytes }; host = s }

-- the answer to a yield: the caller goes on in its next turn
abbrev pub yields : ConsoleState → Call → Answer ConsoleState
yields s c =
    record { reply = record { way = Yield; a0 = c.a0; a1 = c.a1; bytes = c.bytes }; host = s }

-- what a console answers to a call: exit and yield need no session, and the others do
abbrev pub console : ConsoleState → Call → Answer ConsoleState
console s c =
    if c.service == exit_service then exits s c
    else if c.service == yield_service then yields s c
    else serve_if s c (slice_get s.sessions c.caller)

-- ---- want of memory: only of a put that appends bytes

abbrev pub may_want : SessionState → Call → Bool
may_want x c = (c.service == put_service) && has_bytes (appended x c)

abbrev pub may_want_if : Call → Option SessionState → Bool
may_want_if c None = false
may_want_if c (Some x) = may_want x c

abbrev pub console_may_refuse : ConsoleState → Call → Bool
console_may_refuse s c = may_want_if c (slice_get s.sessions c.caller)
