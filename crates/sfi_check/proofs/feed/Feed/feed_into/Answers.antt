use Rattle.sfi_check.proofs.Prelude.{◌≡◌, ◌∙◌, ◌++◌, ◌+◌, ◌-◌, ◌<◌, ◌≤◌, ℕ, List, Finding, rules, take, drop, length, sym, ap, subst, arith, inl, inr, append_assoc, append-nil, take-append-drop, length-append, length-drop, length-take, IsFedFinding}
use Rattle.sfi_check.proofs.Feeding.{joined_is, fed_after_fault, held_without_fault, fault_is_some, cut_held, few_held}
use Rattle.sfi_check.proofs.Leading.{tail_is, take_on}
use Rattle.sfi_check.proofs.feed.Feed.feed_into.Goals as goal

pub returns-then-is_some-clause-fed : goal.returns-then-is_some-clause-fed
returns-then-is_some-clause-fed g c = λ first before h.
    let bytes = c.args.bytes.now in
    let at = c.loop-at.at in
    let holds : List Finding → Type 0 = λ found. g.F.FindingSink.takes first found c.loop-at.sink in
    let fed = fed_after_fault holds c.loop-at.self (before ++ take at bytes) (drop at bytes) (sym c.is_some.ensures ∙ c.if-is_some.true) (c.loop-at.invariant.fed first before h) in
    subst (λ (l : List ℕ). IsFedFinding holds c.loop-at.self l)
    (append_assoc before (take at bytes) (drop at bytes) ∙ ap (λ (l : List ℕ). before ++ l) (take-append-drop at bytes)) fed

pub returns-then-is_some-clause-falls : goal.returns-then-is_some-clause-falls
returns-then-is_some-clause-falls g c = λ none some. elim (c.loop-at.invariant.falls none) [
  | inl z ↦ absurd (fault_is_some c.loop-at.self.fault (sym c.is_some.ensures ∙ c.if-is_some.true) z.1)
  | inr lt ↦ lt
]

pub take_all-requires-clause-long : goal.take_all-requires-clause-long
take_all-requires-clause-long g c = (held_without_fault c.loop-at.self _ c.is_some.ensures c.if-is_some.false (c.loop-at.invariant.fed c.requires.0 c.requires.1 c.requires.2)).long

pub take_all-requires-clause-reading : goal.take_all-requires-clause-reading
take_all-requires-clause-reading g c =
    let held = held_without_fault c.loop-at.self _ c.is_some.ensures c.if-is_some.false (c.loop-at.invariant.fed c.requires.0 c.requires.1 c.requires.2) in
    (c.requires.0, held.so_far, held.at)

pub wanted-requires-clause-front : goal.wanted-requires-clause-front
wanted-requires-clause-front g c =
    let held = held_without_fault c.loop-at.self _ c.is_some.ensures c.if-is_some.false (c.loop-at.invariant.fed c.requires.0 c.requires.1 c.requires.2) in
    (held.at.at, held.at.stands)

pub wanted-requires-clause-cut : goal.wanted-requires-clause-cut
wanted-requires-clause-cut g c =
    cut_held c.loop-at.self _ (held_without_fault c.loop-at.self _ c.is_some.ensures c.if-is_some.false (c.loop-at.invariant.fed c.requires.0 c.requires.1 c.requires.2))
    (λ none. let some = c.if-self-eq0.false in omega arith)

pub slice_bounds-joined-end : goal.slice_bounds-joined-end
slice_bounds-joined-end g c =
    let held = held_without_fault c.loop-at.self _ c.is_some.ensures c.if-is_some.false (c.loop-at.invariant.fed c.requires.0 c.requires.1 c.requires.2) in
    let long = held.long in
    let room = c.wanted.ensures.room in
    omega (arith, long, room, c.min-more.ensures)

pub take_all-requires-in-loop-at-clause-long : goal.take_all-requires-in-loop-at-clause-long
take_all-requires-in-loop-at-clause-long g c = (held_without_fault c.loop-at.self _ c.is_some.ensures c.if-is_some.false (c.loop-at.invariant.fed c.requires.0 c.requires.1 c.requires.2)).long

pub take_all-requires-in-loop-at-clause-reading : goal.take_all-requires-in-loop-at-clause-reading
take_all-requires-in-loop-at-clause-reading g c =
    let held = held_without_fault c.loop-at.self _ c.is_some.ensures c.if-is_some.false (c.loop-at.invariant.fed c.requires.0 c.requires.1 c.requires.2) in
    (c.requires.0, held.so_far, held.at)

pub returns-then-self-eq0-clause-fed : goal.returns-then-self-eq0-clause-fed
returns-then-self-eq0-clause-fed g c = λ first before h.
    let bytes = c.args.bytes.now in
    let at = c.loop-at.at in
    let self = c.loop-at.self in
    let front = before ++ take at bytes in
    let held = held_without_fault self front c.is_some.ensures c.if-is_some.false (c.loop-at.invariant.fed first before h) in
    let zero : self.count ≡ 0 = search rules in
    let none : front ≡ held.so_far = held.bytes_are ∙ ap (λ (k : ℕ). held.so_far ++ take k self.held) zero ∙ append-nil held.so_far in
    let holds : List Finding → Type 0 = λ found. g.F.FindingSink.takes first found c.take_all.new.sink in
    let fed = c.take_all.ensures.fed first held.so_far held.at in
    subst (λ (l : List ℕ). IsFedFinding holds c.take_all.new.self l)
    (ap (λ (l : List ℕ). held.so_far ++ l) (tail_is at bytes) ∙ ap (λ (l : List ℕ). l ++ drop at bytes) (sym none) ∙ append_assoc before (take at bytes) (drop at bytes) ∙ ap (λ (l : List ℕ). before ++ l) (take-append-drop at bytes)) fed

pub returns-then-self-eq0-clause-falls : goal.returns-then-self-eq0-clause-falls
returns-then-self-eq0-clause-falls g c = λ none some.
    let bytes = c.args.bytes.now in
    let at = c.loop-at.at in
    let zero : c.loop-at.self.count ≡ 0 = search rules in
    let less = c.take_all.ensures.falls (omega (arith, zero, c.loop-at-test.true, ap length (tail_is at bytes), length-drop at bytes)) in
    elim (c.loop-at.invariant.falls none) [ inl z ↦ (let le = z.2 in omega arith) | inr lt ↦ omega arith ]

pub loop-at-preserved : goal.loop-at-preserved
loop-at-preserved g c =
    let bytes = c.args.bytes.now in
    let at = c.loop-at.at in
    let self = c.loop-at.self in
    let n = c.min-more.result in
    let rest = drop at bytes in
    let inside : at + n ≤ length bytes = omega (arith, c.min-more.ensures, c.loop-at-test.true) in
    let there = held_without_fault self _ c.is_some.ensures c.if-is_some.false (c.loop-at.invariant.fed c.requires.0 c.requires.1 c.requires.2) in
    let room : self.count ≤ length self.held = let few = few_held self _ there in let long = there.long in omega arith in
    let more = take n rest in
    let enough : n ≤ length rest = omega (arith, inside, length-drop at bytes) in
    let back : at + n - at ≡ n = omega arith in
    let is = joined_is self.count n self.held rest c.copy_from_slice.new.self _ room enough (c.copy_from_slice.ensures.after ∙ ap (λ (k : ℕ). take k rest) back) in
    record {
      inside = inside;
      fed = λ first before h.
          let held = held_without_fault self (before ++ take at bytes) c.is_some.ensures c.if-is_some.false (c.loop-at.invariant.fed first before h) in
          let joined = ap (λ (l : List ℕ). l ++ more) held.bytes_are ∙ append_assoc held.so_far (take self.count self.held) more in
          let fed = c.take_all-in-loop-at.ensures.fed first held.so_far held.at in
          let on : take (at + n) bytes ≡ take at bytes ++ more = take_on at n bytes c.loop-at.invariant.inside in
          subst (λ (l : List ℕ). IsFedFinding (λ found. g.F.FindingSink.takes first found c.take_all-in-loop-at.new.sink) c.take_all-in-loop-at.new.self l)
          (ap (λ (l : List ℕ). held.so_far ++ l) is ∙ sym joined ∙ append_assoc before (take at bytes) more ∙ ap (λ (l : List ℕ). before ++ l) (sym on)) fed;
      falls = λ none.
          let kept = take self.count self.held in
          let long : length (kept ++ more) ≡ self.count + n = omega (arith, length-append kept more, length-take self.count self.held, length-take n rest, room, enough) in
          let some : 1 ≤ n = omega (arith, c.min-more.ensures, c.wanted.ensures.more, c.loop-at-test.true) in
          let less = c.take_all-in-loop-at.ensures.falls (subst (λ (l : List ℕ). self.count < length l) (sym is) (omega (arith, long, some))) in
          inr (elim (c.loop-at.invariant.falls none) [ inl z ↦ (let le = z.2 in omega arith) | inr lt ↦ omega arith ]);
    }
