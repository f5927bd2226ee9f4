-- Sources of bytes, and what reads of them hand out.
use Rattle.std.specs.Prelude.{◌+◌, ◌^◌, ◌<◌, ◌≡◌, ℕ, ◌≤◌, Bool, false, cond, ◌||◌, nat_lt, List, [], ◌∷◌, ◌++◌, Option, Some, None, true, length}
use Rattle.sfi_image.specs.declared.span.Span.{Span}
use Rattle.std.specs.List.{All}
use Rattle.std.specs.Io.KnownBytes.{Consumes, IsAtEnd, Keeps}

-- ==== Spans whose ends can be compared in 64 bits.

-- the span holds an address, and its end has 64 bits
pub record IsBounded (s : Span) : Type 0 where
  pub some : 0 < s.size
  pub end : s.base + s.size < 2 ^ 64

-- ==== Reads of a source, one after another, and the bytes that they hand out.

-- one read: the length of its buffer, the bytes that it hands out or None where it fails,
-- and the source after it
pub record OneRead (S : Type 0) : Type 0 where
  pub buffer_length : ℕ
  pub answer : Option (List ℕ)
  pub after : S

-- the reads lead from the first source to the second; `reads` is the source's meaning of one read
abbrev pub IsChain :
    {S : Type 0} → (S → ℕ → Option (List ℕ) → S → Type 0) → S → List (OneRead S) → S → Type 0
IsChain reads s [] t = t ≡ s
IsChain reads s (r ∷ rs) t = reads s r.buffer_length r.answer r.after × IsChain reads r.after rs t

-- the answer is that the source is at its end: no bytes, for a buffer of that length,
-- which isn't empty
abbrev pub is_end : ℕ → Option (List ℕ) → Bool
is_end len None = false
is_end len (Some []) = nat_lt 0 len
is_end len (Some (b ∷ bs)) = false

-- the bytes of an answer
abbrev pub bytes_of : Option (List ℕ) → List ℕ
bytes_of None = []
bytes_of (Some bs) = bs

-- what the reads hand out, up to the first that finds the end
abbrev pub bytes_handed_out : {S : Type 0} → List (OneRead S) → List ℕ
bytes_handed_out [] = []
bytes_handed_out (r ∷ rs) =
    cond (is_end r.buffer_length r.answer) [] (bytes_of r.answer ++ bytes_handed_out rs)

-- whether one of them finds the end
abbrev pub finds_end : {S : Type 0} → List (OneRead S) → Bool
finds_end [] = false
finds_end (r ∷ rs) = is_end r.buffer_length r.answer || finds_end rs

-- A chain of reads leads from the first source to the second, hands out these bytes, and finds the
-- end where `ends` says so. No read has a buffer of more than `most` bytes: that is no part of what
-- a stream is, but what its caller promises of the pieces in which it reads.
pub record Streams {S : Type 0} (reads : S → ℕ → Option (List ℕ) → S → Type 0) (most : ℕ)
    (before after : S) (bytes : List ℕ)
    (ends : Bool) : Type 0 where
  pub chain : List (OneRead S)
  pub is_chain : IsChain reads before chain after
  pub bytes_are : bytes ≡ bytes_handed_out chain
  pub ends_is : ends ≡ finds_end chain
  pub pieces : All (λ r. r.buffer_length ≤ most) chain

-- ==== One read of a reader.

-- A read of known bytes, with what is known before and after it and whether a read has failed: what
-- is handed out is the front of the bytes, and none only at their end; a failure takes none.
abbrev pub ReadsOf : Option (List ℕ) → Bool → ℕ → Option (List ℕ) → Option (List ℕ) → Bool → Type 0
ReadsOf old was n None new is = (is ≡ true) × Keeps old new
ReadsOf old was n (Some bytes) new is =
    (is ≡ was) × Consumes old new bytes × (length bytes ≤ n) × (bytes ≡ [] → 0 < n → IsAtEnd new)
