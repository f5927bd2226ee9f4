-- Hosts: what is asked at a gate, and what is answered.
use Rattle.std.specs.Prelude.{ℕ, List, [], ◌∷◌, Option, Some, None, zero, suc, ◌≡◌, length, ◌≢◌, Bool, true}
use Rattle.rv_mem.specs.Bytes.{Bytes, bytes_at, with_bytes}
use Rattle.std.specs.FinMap.{insert}
use Rattle.std.specs.List.{range_with_len}
use Rattle.std.specs.Borrow.{MutBor}
use Rattle.sfi_image.specs.declared.span.Span.{Span}
use Rattle.sfi_host.specs.declared.guest.Guest.{Guest}
use Rattle.sfi_host.specs.declared.guest.Request.{Request}
use Rattle.sfi_host.specs.Slots.{span_of, bytes_in, bytes_outside, IsWhole}
use Rattle.sfi_host.specs.declared.gates.GateAnswer.{GateAnswer}
use Rattle.sfi_host.specs.declared.gates.GateAnswer.TheVariants as gate

-- ==== The registers in which a sandbox and its host hand each other words: the first two argument
-- registers of the calling convention, in which results come too. RISC-V ABIs Specification (the
-- psABI), "Integer Register Convention".

-- a0 is x10
abbrev pub a0_register : ℕ
a0_register = 10

-- a1 is x11
abbrev pub a1_register : ℕ
a1_register = 11

-- ==== What a host means: which reply it gives, as a function of its state and of what is asked.

-- what is asked at a gate: the caller's number, the service, a0 and a1,
-- and the caller's data bytes by address
pub record Call : Type 0 where
  pub caller : ℕ
  pub service : ℕ
  pub a0 : ℕ
  pub a1 : ℕ
  pub bytes : Bytes

-- how the caller goes on: after the call, after it but in its next turn, or not at all
pub data Way : Type 0 where
  Replied Yield : Way
  Exit : ℕ → Way

-- what the caller gets: how it goes on, a0, a1, and its data bytes
pub record Reply : Type 0 where
  pub way : Way
  pub a0 : ℕ
  pub a1 : ℕ
  pub bytes : Bytes

-- a reply, and the host's state after it
pub record Answer (S : Type 0) : Type 0 where
  pub reply : Reply
  pub host : S

-- a host: to a state and a call it gives an answer, or none
abbrev pub Host : Type 0 → Type 0
Host S = S → Call → Option (Answer S)

-- ---- the host that answers a limited number of calls

-- a host's state, and how many calls it will still answer: None is no limit
pub record Limited (S : Type 0) : Type 0 where
  pub host : S
  pub left : Option ℕ

-- the answer, if there is a call left for it; None: the limit is reached
abbrev pub if_left : {S : Type 0} → Option ℕ → Answer S → Option (Answer (Limited S))
if_left None a = Some (record { reply = a.reply; host = record { host = a.host; left = None } })
if_left (Some zero) a = None
if_left (Some (suc n)) a =
    Some (record { reply = a.reply; host = record { host = a.host; left = Some n } })

-- the host that answers as long as there is a call left
abbrev pub limited : {S : Type 0} → (S → Call → Answer S) → Host (Limited S)
limited answer l call = if_left l.left (answer l.host call)

-- ---- the host that repeats

-- the host whose state is the replies that it has still to give, whatever is asked
abbrev pub replay : Host (List Reply)
replay [] call = None
replay (r ∷ replies) call = Some (record { reply = r; host = replies })

-- ==== What a guest shows of its caller, and of the memory of all.

-- the caller's data region
abbrev pub data_of : {M : Type 0} → Guest M → Span
data_of g = span_of g.region

-- the call of a request by a sandbox with these data bytes
abbrev pub call_by : Request → Bytes → Call
call_by r bytes =
    record { caller = r.sandbox; service = r.service; a0 = r.a0; a1 = r.a1; bytes = bytes }

-- what is asked; `bytes` gives the bytes of a memory
abbrev pub asked : {M : Type 0} → (M → Bytes) → Guest M → Call
asked bytes g = call_by g.request (bytes_in (data_of g) (bytes g.memory.now))

-- all bytes of the memory outside the caller's data region
abbrev pub outside : {M : Type 0} → (M → Bytes) → Guest M → Bytes
outside bytes g = bytes_outside (data_of g) (bytes g.memory.now)

-- each address of the caller's data region has a byte
abbrev pub HasData : {M : Type 0} → (M → Bytes) → Guest M → Type 0
HasData bytes g = IsWhole (data_of g) (asked bytes g).bytes

-- the caller's n data bytes from an address on, which isn't taken modulo 2 ^ 32; None where one of
-- them isn't in its data region
abbrev pub data_from : Call → ℕ → ℕ → Option (List ℕ)
data_from c at n = bytes_at c.bytes (range_with_len at n)

-- the guest borrows the memory by this reference
abbrev pub Borrows : {M : Type 0} → Guest M → MutBor M → Type 0
Borrows g memory = g.memory.ghost_name ≡ memory.ghost_name

-- the guest still borrows the same memory
abbrev pub SameMemory : {M : Type 0} → Guest M → Guest M → Type 0
SameMemory old new = new.memory.ghost_name ≡ old.memory.ghost_name

-- the call with another a0
abbrev pub with_a0 : Call → ℕ → Call
with_a0 c value = record c { a0 = value }

-- the call with another a1
abbrev pub with_a1 : Call → ℕ → Call
with_a1 c value = record c { a1 = value }

-- the call with another data byte at an address
abbrev pub with_byte : Call → ℕ → ℕ → Call
with_byte c at byte = record c { bytes = insert c.bytes at byte }

-- the call with these data bytes from an address on
abbrev pub with_bytes_at : Call → ℕ → List ℕ → Call
with_bytes_at c at bytes =
    record c { bytes = with_bytes c.bytes (range_with_len at (length bytes)) bytes }

-- ==== What a host does at a call.

-- Beside a0, a1 and its data bytes nothing of the caller changed, nor any byte of the memory
-- outside its data region, and each address of its data region still has a byte.
pub record LeavesOthers {M : Type 0} (bytes : M → Bytes) (old new : Guest M) : Type 0 where
  pub caller : (asked bytes new).caller ≡ (asked bytes old).caller
  pub service : (asked bytes new).service ≡ (asked bytes old).service
  pub region : data_of new ≡ data_of old
  pub outside_same : outside bytes new ≡ outside bytes old
  pub has_data : HasData bytes new

-- what a call answers where the caller goes on in this way
abbrev pub spoken : Way → GateAnswer
spoken Replied = gate.Replied
spoken Yield = gate.Yield
spoken (Exit n) = gate.Exit n

-- The answer is given: the caller is told how it goes on, gets a0, a1 and data bytes, and the host
-- is in the answer's state.
pub record IsGiven {S M : Type 0} (bytes : M → Bytes) (answer : Answer S) (new : Guest M) (host : S)
    (result : GateAnswer) : Type 0 where
  pub way : result ≡ spoken answer.reply.way
  pub a0 : (asked bytes new).a0 ≡ answer.reply.a0
  pub a1 : (asked bytes new).a1 ≡ answer.reply.a1
  pub data_bytes : (asked bytes new).bytes ≡ answer.reply.bytes
  pub state : host ≡ answer.host

-- where memory did not run out, the answer of the host's function to what was asked is given
abbrev pub IsAnswered :
    {S M : Type 0} → (Call → Answer S) → (M → Bytes) → Guest M → Guest M → S → GateAnswer → Type 0
IsAnswered answer bytes old new host result =
    result ≢ gate.Memory → IsGiven bytes (answer (asked bytes old)) new host result

-- where memory ran out, the host's test allows it,
-- and neither the caller nor the host's state changed
pub record IsRefusal {S M : Type 0} (may_refuse : Call → Bool) (bytes : M → Bytes)
    (old new : Guest M) (before after : S) : Type 0 where
  pub test : may_refuse (asked bytes old) ≡ true
  pub asked_same : asked bytes new ≡ asked bytes old
  pub state : after ≡ before

abbrev pub IsRefused :
    {S M : Type 0} → (Call → Bool) → (M → Bytes) → Guest M → Guest M → S → S → GateAnswer → Type 0
IsRefused may_refuse bytes old new before after result =
    result ≡ gate.Memory → IsRefusal may_refuse bytes old new before after
