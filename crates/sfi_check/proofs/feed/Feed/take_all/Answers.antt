use Rattle.sfi_check.proofs.Prelude.{◌≡◌, ◌∙◌, ◌<◌, ◌-◌, ◌++◌, ℕ, List, take, drop, length, refl, sym, ap, subst, arith, inl, inr, append_assoc, append-nil, length-drop, take-append-drop, take_all, left, IsCut}
use Rattle.sfi_check.specs.declared.piece.FeedEnd.TheVariants as steps
use Rattle.sfi_check.proofs.Feeding.{held_fed, at_reader, falls, some_left, trailing}
use Rattle.sfi_check.proofs.Leading.{tail_is, step_at, so_far_on, fault_on}
use Rattle.sfi_image.specs.declared.fault.LayoutFault.TheVariants as faults
use Rattle.sfi_check.proofs.feed.Feed.take_all.Goals as goal

pub feed_next-requires : goal.feed_next-requires
feed_next-requires g c = (c.requires.reading.0, c.requires.reading.1 ++ take c.loop-len.at c.args.bytes.now, c.loop-len.invariant.so_far c.requires.reading.0 c.requires.reading.1 c.requires.reading.2)

pub overflow_add-at : goal.overflow_add-at
overflow_add-at g c =
    let bytes = c.args.bytes.now in
    let at = c.loop-len.at in
    let s = step_at (λ found. g.F.FindingSink.takes c.requires.reading.0 found c.feed_next.new.sink) c.loop-len.self.reader c.feed_next.new.reader c.feed_next.new.tally c.requires.reading.1 at bytes (steps.Took c.in-Took.len) (c.in-Took.ensures c.requires.reading.0 (c.requires.reading.1 ++ take at bytes) (c.loop-len.invariant.so_far c.requires.reading.0 c.requires.reading.1 c.requires.reading.2)) in
    omega (arith, s.1, length-drop at bytes, c.loop-len.invariant.inside)

pub loop-len-smaller : goal.loop-len-smaller
loop-len-smaller g c =
    let bytes = c.args.bytes.now in
    let at = c.loop-len.at in
    let s = step_at (λ found. g.F.FindingSink.takes c.requires.reading.0 found c.feed_next.new.sink) c.loop-len.self.reader c.feed_next.new.reader c.feed_next.new.tally c.requires.reading.1 at bytes (steps.Took c.in-Took.len) (c.in-Took.ensures c.requires.reading.0 (c.requires.reading.1 ++ take at bytes) (c.loop-len.invariant.so_far c.requires.reading.0 c.requires.reading.1 c.requires.reading.2)) in
    s.3

pub loop-len-preserved : goal.loop-len-preserved
loop-len-preserved g c =
    let bytes = c.args.bytes.now in
    let at = c.loop-len.at in
    let s = step_at (λ found. g.F.FindingSink.takes c.requires.reading.0 found c.feed_next.new.sink) c.loop-len.self.reader c.feed_next.new.reader c.feed_next.new.tally c.requires.reading.1 at bytes (steps.Took c.in-Took.len) (c.in-Took.ensures c.requires.reading.0 (c.requires.reading.1 ++ take at bytes) (c.loop-len.invariant.so_far c.requires.reading.0 c.requires.reading.1 c.requires.reading.2)) in
    let less = s.3 in
    record {
      inside = omega (arith, s.1, length-drop at bytes, c.loop-len.invariant.inside);
      so_far = λ first b h. so_far_on c.feed_next.new.reader c.feed_next.new.tally b at c.in-Took.len bytes c.loop-len.invariant.inside (step_at (λ found. g.F.FindingSink.takes first found c.feed_next.new.sink) c.loop-len.self.reader c.feed_next.new.reader c.feed_next.new.tally b at bytes (steps.Took c.in-Took.len) (c.in-Took.ensures first (b ++ take at bytes) (c.loop-len.invariant.so_far first b h))).2;
      falls = inl (elim c.loop-len.invariant.falls [ inl lt ↦ omega arith | inr z ↦ (let le = z.1 in omega arith) ]);
      fault = c.loop-len.invariant.fault;
      long = c.loop-len.invariant.long;
    }

pub hold-requires : goal.hold-requires
hold-requires g c =
    let bytes = c.args.bytes.now in
    let at = c.loop-len.at in
    let s = step_at (λ found. g.F.FindingSink.takes c.requires.reading.0 found c.feed_next.new.sink) c.loop-len.self.reader c.feed_next.new.reader c.feed_next.new.tally c.requires.reading.1 at bytes (steps.Short) (c.in-Short.ensures c.requires.reading.0 (c.requires.reading.1 ++ take at bytes) (c.loop-len.invariant.so_far c.requires.reading.0 c.requires.reading.1 c.requires.reading.2)) in
    let few = s.1.few in
    omega (arith, ap length (tail_is at bytes))

pub returns-in-Short-clause-fed : goal.returns-in-Short-clause-fed
returns-in-Short-clause-fed g c = λ first so_far h.
    let bytes = c.args.bytes.now in
    let at = c.loop-len.at in
    let s = step_at (λ found. g.F.FindingSink.takes first found c.feed_next.new.sink) c.loop-len.self.reader c.feed_next.new.reader c.feed_next.new.tally so_far at bytes (steps.Short) (c.in-Short.ensures first (so_far ++ take at bytes) (c.loop-len.invariant.so_far first so_far h)) in
    let tail = tail_is at bytes in
    let count = c.hold.ensures.count ∙ ap length tail ∙ length-drop at bytes in
    held_fed c.hold.new.self (so_far ++ bytes) (c.hold.ensures.fault ∙ c.loop-len.invariant.fault) (record {
      so_far = so_far ++ take at bytes;
      at = at_reader c.hold.new.self.reader c.feed_next.new.reader c.hold.new.self.tally c.feed_next.new.tally (so_far ++ take at bytes) c.hold.ensures.reader c.hold.ensures.tally s.0;
      bytes_are = ap (λ (l : List ℕ). so_far ++ l) (sym (take-append-drop at bytes)) ∙ sym (append_assoc so_far (take at bytes) (drop at bytes))
          ∙ ap (λ (l : List ℕ). (so_far ++ take at bytes) ++ l) (sym (c.hold.ensures.held ∙ tail));
      rests = rw (c.hold.ensures.reader, count) (inl (subst (λ (n : ℕ). IsCut c.feed_next.new.reader n) (length-drop at bytes) s.1));
      long = c.hold.ensures.long ∙ c.loop-len.invariant.long;
    })

pub returns-in-Short-clause-falls : goal.returns-in-Short-clause-falls
returns-in-Short-clause-falls g c = λ more.
    let bytes = c.args.bytes.now in
    let at = c.loop-len.at in
    let s = step_at (λ found. g.F.FindingSink.takes c.requires.reading.0 found c.feed_next.new.sink) c.loop-len.self.reader c.feed_next.new.reader c.feed_next.new.tally c.requires.reading.1 at bytes (steps.Short) (c.in-Short.ensures c.requires.reading.0 (c.requires.reading.1 ++ take at bytes) (c.loop-len.invariant.so_far c.requires.reading.0 c.requires.reading.1 c.requires.reading.2)) in
    let le = s.2 in
    let few = s.1.few in
    let count : c.hold.new.self.count ≡ length bytes - at = c.hold.ensures.count ∙ ap length (tail_is at bytes) ∙ length-drop at bytes in
    falls c.args.self.now c.hold.new.self (length bytes) c.requires.fault (c.hold.ensures.fault ∙ c.loop-len.invariant.fault) more (omega (arith, length-drop at bytes))
    (rw (c.hold.ensures.reader) (elim c.loop-len.invariant.falls [ inl lt ↦ inl (omega arith) | inr z ↦ (let none = z.0 in let l = z.1 in inr (omega arith, omega arith)) ]))

pub returns-in-Fault-clause-fed : goal.returns-in-Fault-clause-fed
returns-in-Fault-clause-fed g c = λ first so_far h.
    let bytes = c.args.bytes.now in
    let at = c.loop-len.at in
    let s = step_at (λ found. g.F.FindingSink.takes first found c.feed_next.new.sink) c.loop-len.self.reader c.feed_next.new.reader c.feed_next.new.tally so_far at bytes (steps.Fault c.in-Fault.fault) (c.in-Fault.ensures first (so_far ++ take at bytes) (c.loop-len.invariant.so_far first so_far h)) in
    (fault_on so_far at c.in-Fault.fault bytes s.0, s.1)

pub returns-in-Fault-clause-falls : goal.returns-in-Fault-clause-falls
returns-in-Fault-clause-falls g c = λ more. some_left c.args.self.now c.requires.fault

pub returns-then-at-bytes-clause-fed : goal.returns-then-at-bytes-clause-fed
returns-then-at-bytes-clause-fed g c = λ first so_far h.
    let bytes = c.args.bytes.now in
    let at = c.loop-len.at in
    let s = step_at (λ found. g.F.FindingSink.takes first found c.feed_next.new.sink) c.loop-len.self.reader c.feed_next.new.reader c.feed_next.new.tally so_far at bytes (steps.Whole) (c.in-Whole.ensures first (so_far ++ take at bytes) (c.loop-len.invariant.so_far first so_far h)) in
    let some : 0 < length (drop at bytes) = omega (arith, length-drop at bytes) in
    let wrong = fault_on so_far at faults.Trailing bytes (trailing _ _ (so_far ++ take at bytes) (drop at bytes) s.0 s.1 some) in
    (wrong, (s.0.tallies.found, s.0.tallies.found_holds))

pub returns-then-at-bytes-clause-falls : goal.returns-then-at-bytes-clause-falls
returns-then-at-bytes-clause-falls g c = λ more. some_left c.args.self.now c.requires.fault

pub returns-else-at-bytes-clause-fed : goal.returns-else-at-bytes-clause-fed
returns-else-at-bytes-clause-fed g c = λ first so_far h.
    let bytes = c.args.bytes.now in
    let at = c.loop-len.at in
    let s = step_at (λ found. g.F.FindingSink.takes first found c.feed_next.new.sink) c.loop-len.self.reader c.feed_next.new.reader c.feed_next.new.tally so_far at bytes (steps.Whole) (c.in-Whole.ensures first (so_far ++ take at bytes) (c.loop-len.invariant.so_far first so_far h)) in
    let all : take at bytes ≡ bytes = take_all at bytes (omega arith) in
    held_fed _ (so_far ++ bytes) c.loop-len.invariant.fault (record {
      so_far = so_far ++ take at bytes;
      at = s.0;
      bytes_are = ap (λ (l : List ℕ). so_far ++ l) (sym all) ∙ sym (append-nil (so_far ++ take at bytes));
      rests = inr (s.1, refl);
      long = c.loop-len.invariant.long;
    })

pub returns-else-at-bytes-clause-falls : goal.returns-else-at-bytes-clause-falls
returns-else-at-bytes-clause-falls g c = λ more.
    let bytes = c.args.bytes.now in
    let at = c.loop-len.at in
    let s = step_at (λ found. g.F.FindingSink.takes c.requires.reading.0 found c.feed_next.new.sink) c.loop-len.self.reader c.feed_next.new.reader c.feed_next.new.tally c.requires.reading.1 at bytes (steps.Whole) (c.in-Whole.ensures c.requires.reading.0 (c.requires.reading.1 ++ take at bytes) (c.loop-len.invariant.so_far c.requires.reading.0 c.requires.reading.1 c.requires.reading.2)) in
    let none : left c.feed_next.new.reader ≡ 0 = rw (s.1) refl in
    falls c.args.self.now _ (length bytes) c.requires.fault c.loop-len.invariant.fault more (omega arith)
    (elim c.loop-len.invariant.falls [ inl lt ↦ inl (omega arith) | inr z ↦ (let zero = z.0 in inr (omega arith, omega arith)) ])
