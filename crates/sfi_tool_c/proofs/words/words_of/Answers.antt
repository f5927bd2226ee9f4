use Rattle.std.proofs.Common.{map, string_bytes, take, ap, sym, ◌∙◌, arith, ◌≡◌, ◌≢◌, ◌+◌, ◌-◌, ℕ, drop, get_or, length, refl, Global}
use Rattle.std.specs.Prelude.{IsUtf8}
use Rattle.std.proofs.lemmas.List.{take_all}
use Rattle.std.specs.List.{flat_map, AllWithin}
use Rattle.std.proofs.Math.Path.{subst}
use Rattle.std.proofs.lemmas.List.Elements.{All-same, AllWithin-upto}
use Rattle.sfi_tool_c.specs.CommandAnswers.{ended, HasNoZero}
use Rattle.sfi_tool_c.proofs.words.words_of.Goals as goal
use Rattle.sfi_tool_c.proofs.words.words_of.Goals.{then-bytes-at-eq0+in-Ok+in_ok-push_copy, else-bytes-at-eq0}
use Rattle.sfi_tool_c.proofs.Spelling.{between, next_word, unbroken_more, unbroken_word, unbroken_byte, utf8_more, around_zero, spells_none_bad, spells_none_unended}

pub loop-at-preserved : goal.loop-at-preserved
loop-at-preserved c = elim c.if-bytes-at-eq0.branch [
  | then-bytes-at-eq0+in-Ok+in_ok-push_copy w ↦
      let zero : get_or c.args.bytes.now c.loop-at.at 0 ≡ 0 = grind (arith, w.if-bytes-at-eq0.true) in (
        omega (arith, w.from-is),
        next_word c.args.bytes.now c.loop-at.from c.loop-at.at c.if-bytes-at-eq0.from
            (map (string_bytes {Z = Global}) c.loop-at.words.items) (map (string_bytes {Z = Global}) c.if-bytes-at-eq0.words.items) w.in-Ok.word.now
            c.loop-at.invariant.0 (omega (arith, c.loop-at-test.true)) c.loop-at.invariant.1 w.in-Ok.ensures.cases.0 zero w.from-is
            (ap (λ v. map (string_bytes {Z = Global}) v.items) w.words-is ∙ w.in_ok-push_copy.ensures),
        unbroken_more (map (string_bytes {Z = Global}) c.loop-at.words.items) (map (string_bytes {Z = Global}) c.if-bytes-at-eq0.words.items)
            w.in-Ok.word.now _ c.loop-at.invariant.2 (unbroken_word c.args.bytes.now c.loop-at.from c.loop-at.at c.loop-at.invariant.3)
            w.in-Ok.ensures.cases.0 (ap (λ v. map (string_bytes {Z = Global}) v.items) w.words-is ∙ w.in_ok-push_copy.ensures),
        λ k d low high. absurd (omega (arith, low, high, w.from-is)),
        utf8_more (map (string_bytes {Z = Global}) c.loop-at.words.items) (map (string_bytes {Z = Global}) c.if-bytes-at-eq0.words.items)
            w.in-Ok.word.now _ c.loop-at.invariant.4 w.in-Ok.ensures.cases.1
            w.in-Ok.ensures.cases.0 (ap (λ v. map (string_bytes {Z = Global}) v.items) w.words-is ∙ w.in_ok-push_copy.ensures),
      )
  | else-bytes-at-eq0 w ↦ (
    omega (arith, w.from-is, c.loop-at.invariant.0),
    ap (λ n. take n c.args.bytes.now) w.from-is ∙ c.loop-at.invariant.1
        ∙ ap (λ v. flat_map ended (map (string_bytes {Z = Global}) v.items)) (sym w.words-is),
    All-same HasNoZero _ _ (ap (λ v. map (string_bytes {Z = Global}) v.items) w.words-is) c.loop-at.invariant.2,
    subst (λ (n : ℕ). AllWithin (λ (b : ℕ). b ≢ 0) c.args.bytes.now n (c.loop-at.at + 1)) (sym w.from-is)
        (unbroken_byte c.args.bytes.now c.loop-at.from c.loop-at.at (c.loop-at.at + 1) (omega (arith, c.loop-at-test.true)) c.loop-at.invariant.3
        (λ is. w.if-bytes-at-eq0.false (grind (arith, is))) refl),
    All-same IsUtf8 _ _ (ap (λ v. map (string_bytes {Z = Global}) v.items) w.words-is) c.loop-at.invariant.4,
  )
]

pub returns-in_default-clause-none : goal.returns-in_default-clause-none
returns-in_default-clause-none c _ words =
    let bytes = c.args.bytes.now in
    let from = c.loop-at.from in
    let at = c.loop-at.at in
    let zero : get_or bytes at 0 ≡ 0 = grind (arith, c.if-bytes-at-eq0.true) in
    spells_none_bad bytes from at (map (string_bytes {Z = Global}) c.loop-at.words.items) words (take (at - from) (drop from bytes))
    c.loop-at.invariant.1 c.loop-at.invariant.2 (around_zero bytes at (omega (arith, c.loop-at-test.true)) zero) (between bytes from at c.loop-at.invariant.0)
    (unbroken_word bytes from at c.loop-at.invariant.3) c.in_default.ensures.cases.0

pub returns-then-from-bytes-clause-none : goal.returns-then-from-bytes-clause-none
returns-then-from-bytes-clause-none c _ words =
    spells_none_unended c.args.bytes.now c.loop-at.from (map (string_bytes {Z = Global}) c.loop-at.words.items) words
    c.loop-at.invariant.1 c.loop-at.invariant.2 (omega (arith, c.if-from-bytes.true))
    (AllWithin-upto (λ (b : ℕ). b ≢ 0) c.args.bytes.now c.loop-at.from c.loop-at.at (length c.args.bytes.now) (omega (arith, c.loop-at-test.false)) c.loop-at.invariant.3)

pub returns-clause-words : goal.returns-clause-words
returns-clause-words c = record {
  bytes_are = sym (take_all c.loop-at.from c.args.bytes.now (omega (arith, c.if-from-bytes.false))) ∙ c.loop-at.invariant.1;
  unbroken = c.loop-at.invariant.2;
  utf8 = c.loop-at.invariant.4;
}
