use Rattle.sfi_scan.proofs.Prelude.{◌≡◌, ◌∙◌, Bool, refl, sym, subst, Nothing, AreStretchFindings, AreWordStretchFindings}
use Rattle.std.specs.Prelude.{MatchBool}
use Rattle.sfi_scan.proofs.code.scan_stretch.Goals as goal

pub returns-then-has_words : goal.returns-then-has_words
returns-then-has_words g c = λ n run.
    let h = c.scan_words_as.ensures n run in
    let words = sym c.has_words.ensures ∙ c.if-has_words.true in
    record {
      found = h.found;
      found_are = subst (λ (w : Bool). MatchBool w (AreWordStretchFindings c.args.place.now c.args.owed c.args.code.now n h.found c.scan_words_as.result)
          (AreStretchFindings c.args.place.now c.args.code.now n h.found × (c.scan_words_as.result ≡ Nothing))) (sym words) h.found_are;
      few = h.few;
      handed = h.handed;
    }

pub returns-else-has_words : goal.returns-else-has_words
returns-else-has_words g c = λ n run.
    let h = c.scan_code.ensures n run in
    let bundles = sym c.has_words.ensures ∙ c.if-has_words.false in
    record {
      found = h.found;
      found_are = subst (λ (w : Bool). MatchBool w (AreWordStretchFindings c.args.place.now c.args.owed c.args.code.now n h.found Nothing)
          (AreStretchFindings c.args.place.now c.args.code.now n h.found × (Nothing ≡ Nothing))) (sym bundles) (h.found_are, refl);
      few = h.few;
      handed = h.handed;
    }
