-- The bytes of a frame make its registers.
use Rattle.std.proofs.Common.{◌≡◌, inl, inr, sym, ℕ, ◌+◌, ◌*◌, ◌/◌, ◌%◌, ◌^◌, ◌<◌, List, length, Some, ap, ◌∙◌, arith}
use Rattle.std.specs.Prelude.{slice_index, slice_set}
use Rattle.std.proofs.lemmas.Bool.{cases_eq}
use Rattle.std.proofs.lemmas.List.{get_or-set_same, get_or-set_other}
use Rattle.x86_step.specs.Held.{bytes_from}
use Rattle.x86_step.specs.State.{number_at}
use Rattle.x86_step.proofs.Bytes.{at_inside}
use Rattle.sfi_native.proofs.Memory.{number_of_bytes}

-- the first n bytes
abbrev pub HasBytes : List ℕ → List ℕ → ℕ → Type 0
HasBytes registers frame n = (k : ℕ) → k < n → slice_index frame k ≡ slice_index registers (k / 4) / 256 ^ (k % 4) % 256

pub frame_more : (registers frame : List ℕ) (n b : ℕ) → length frame ≡ 128 → n < 128 → HasBytes registers frame n → b ≡ slice_index registers (n / 4) / 256 ^ (n % 4) % 256
    → HasBytes registers (slice_set frame n b) (n + 1)
frame_more registers frame n b size small each is k below = elim (cases_eq k n) [
  | inl same ↦
      ap (slice_index (slice_set frame n b)) same ∙ get_or-set_same frame n b 0 (omega (arith, size, small)) ∙ is
      ∙ ap (λ q. slice_index registers (q / 4) / 256 ^ (q % 4) % 256) (sym same)
  | inr other ↦ get_or-set_other frame n k b 0 other ∙ each k (omega (arith, below, other))
]

pub frame_holds : (registers frame : List ℕ) → length frame ≡ 128 → HasBytes registers frame 128
    → ((r : ℕ) → slice_index registers r < 2 ^ 32) → (base r : ℕ) → r < 32 → number_at (bytes_from base frame) 4 (base + 4 * r) ≡ Some (slice_index registers r)
frame_holds registers frame size each words base r small =
    number_of_bytes (bytes_from base frame) (base + 4 * r) (slice_index registers r) (words r) (λ j few.
    let quotient : (4 * r + j) / 4 ≡ r = omega (arith, few) in
    let rest : (4 * r + j) % 4 ≡ j = omega (arith, few) in
    let place : base + 4 * r + j ≡ base + (4 * r + j) = omega arith in
    ap (bytes_from base frame) place
    ∙ at_inside frame base (4 * r + j) (omega (arith, size, small, few))
    ∙ ap Some (each (4 * r + j) (omega (arith, small, few)))
    ∙ ap (λ q. Some (slice_index registers q / 256 ^ ((4 * r + j) % 4) % 256)) quotient
    ∙ ap (λ i. Some (slice_index registers r / 256 ^ i % 256)) rest)
