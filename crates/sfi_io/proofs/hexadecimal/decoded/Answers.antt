use Rattle.sfi_io.proofs.Prelude.{◌≡◌, ◌∙◌, ◌+◌, ◌++◌, ◌≤◌, ℕ, List, Ok, ap, sym, inl, inr, arith, length, take, length-take-le, take_all, filter, is_kept}
use Rattle.std.proofs.lemmas.List.{take-append-le}
use Rattle.sfi_io.proofs.Ahead.{half, text_fault, text_odd, text_whole}
use Rattle.sfi_io.proofs.Fronts.{left_is}
use Rattle.sfi_io.proofs.hexadecimal.decoded.Goals as goal

pub returns-then-front-text-clause-stop : goal.returns-then-front-text-clause-stop
returns-then-front-text-clause-stop c =
    let text = c.args.text.now in
    let front = c.decode_front-front in
    let made : length (take front.result.made front.new.out) ≡ front.result.made = length-take-le front.result.made front.new.out front.ensures.room in
    let few = half text (take front.result.made front.new.out) front.result.taken front.result.high front.ensures.taken front.ensures.spells in
    elim (front.ensures.stops c.if-front-text.true) [
      | inl full ↦ absurd (omega (arith, full, few, made, front.ensures.size, c.deref_mut.ensures.value, c.deref_mut.ensures.len, c.in_ok-bytes.ensures.len))
      | inr bad ↦ text_fault text (take front.result.made front.new.out) front.result.taken front.result.made (1 + c.digits_in-left.result) front.result.high _ c.if-front-text.true made bad
          (ap (λ (n : ℕ). 1 + n) (c.digits_in-left.ensures.count ∙ ap (λ (l : List ℕ). length (filter is_kept l)) (left_is text front.result.taken))) front.ensures.spells c.pair_fault.ensures.odd c.pair_fault.ensures.digit
    ]

pub returns-then-is_some-clause-stop : goal.returns-then-is_some-clause-stop
returns-then-is_some-clause-stop c =
    let front = c.decode_front-front in
    text_odd c.args.text.now (take front.result.made front.new.out) front.result.taken front.result.high c.if-front-text.false c.if-is_some.ensures front.ensures.spells

-- what was made, of all that was written
cut : (made len : ℕ) (out rest : List ℕ) → made ≤ length out → length out ≡ len → take made (take len (out ++ rest)) ≡ take made out
cut made len out rest room all = ap (take made) (take-append-le len out rest (omega (arith, all)) ∙ take_all len out (omega (arith, all)))

pub returns-clause-bytes : goal.returns-clause-bytes
returns-clause-bytes c =
    let front = c.decode_front-front in
    let whole = text_whole c.args.text.now (take front.result.made front.new.out) front.result.taken front.result.high c.if-front-text.false c.if-is_some.ensures front.ensures.spells in
    let all : length front.new.out ≡ c.in_ok-bytes.bytes.len = omega (arith, front.ensures.size, ap length c.deref_mut.ensures.value, c.in_ok-bytes.bytes.ok.0) in
    whole ∙ ap Ok (sym (c.truncate.ensures.items ∙ cut front.result.made c.in_ok-bytes.bytes.len front.new.out _ front.ensures.room all))
