-- What a refusal is to a conversion, and which format an image begins with.
use Rattle.sfi_check.proofs.Prelude.{◌≡◌, ℕ, List, [], ◌∷◌, ◌++◌, take, get_or, refl, sym, ap, ◌∙◌, subst, arith, Result, Ok, Err, Vec, IfOk, IfErr, true, false, Format, Sfi1, Sfi2, has_words, magic, IsFault, SandboxPart, Part, view, views, format_of, Finding, AreImageFindings, IsAccepted, HasFindings, IfLayoutFault, Refusal, LayoutFault}
use Rattle.sfi_check.specs.Converting.{IsSecond, IsConversion, IsConvertFault, IfStack, AreOfStack, fault_of, AnswersLayout, AnswersFindings}
use Rattle.sfi_check.specs.OneVerdict.{IfFindings}
use Rattle.sfi_check.specs.declared.conversion.ConvertFault.{ConvertFault}
use Rattle.sfi_check.specs.declared.conversion.ConvertFault.TheVariants.{Stack}
use Rattle.sfi_check.specs.declared.refusal.Refusal.TheVariants.{Layout, Findings, Memory}
use Rattle.sfi_check.specs.private.{IsStackOf, Converts}
use Rattle.sfi_image.specs.Spelling.{spelling}
use Rattle.sfi_image.specs.Numbers.{all_in_format}
use Rattle.std.specs.Global.{Global}
use Rattle.std.specs.Result.{IsErrAnd}
use Rattle.sfi_image.specs.Parts.{AreOf}
use Rattle.sfi_formats.specs.declared.format.Format.TheVariants.{Sfiw, Sfis}
use Rattle.sfi_rules.proofs.Facts.{clean_breaks_stack_alone}
use Rattle.sfi_check.specs.Verdict as verdict
use Rattle.sfi_check.specs.declared.conversion.ConvertFault.TheVariants as convert

-- ---- formats

-- by their last bytes
first_differs : magic Sfi1 ≡ magic Sfi2 → ⊥
unfolding magic
first_differs e = absurd (let no : 49 ≡ 50 = ap (λ (l : List ℕ). get_or l 3 0) e in omega arith)

words_differ : (f : Format) → has_words f ≡ true → magic f ≡ magic Sfi2 → ⊥
unfolding magic
words_differ Sfi1 words e = absurd cc
words_differ Sfi2 words e = absurd cc
words_differ Sfiw words e = absurd (let no : 87 ≡ 50 = ap (λ (l : List ℕ). get_or l 3 0) e in omega arith)
words_differ Sfis words e = absurd (let no : 83 ≡ 50 = ap (λ (l : List ℕ). get_or l 3 0) e in omega arith)

front_of : (f : Format) (rest : List ℕ) → take 4 (magic f ++ rest) ≡ magic f
unfolding magic
front_of Sfi1 rest = refl
front_of Sfi2 rest = refl
front_of Sfiw rest = refl
front_of Sfis rest = refl

begins_with : (bytes : List ℕ) (ps : List Part) → bytes ≡ spelling ps → take 4 bytes ≡ magic (format_of ps)
unfolding spelling
begins_with bytes ps e = ap (take 4) e ∙ front_of (format_of ps) _

-- an accepted image of another format doesn't begin as one of the second
other_not_second : (bytes : List ℕ) (ps : List Part) (f : Format) → (magic f ≡ magic Sfi2 → ⊥) → IsAccepted bytes ps → format_of ps ≡ f → IsSecond bytes → ⊥
other_not_second bytes ps f differs is of second = differs (ap magic (sym of) ∙ sym (begins_with bytes ps is.image.bytes_are) ∙ second)

pub first_not_second : (bytes : List ℕ) (ps : List Part) → IsAccepted bytes ps → format_of ps ≡ Sfi1 → IsSecond bytes → ⊥
first_not_second bytes ps = other_not_second bytes ps Sfi1 first_differs

pub words_not_second : (bytes : List ℕ) (ps : List Part) → IsAccepted bytes ps → has_words (format_of ps) ≡ true → IsSecond bytes → ⊥
words_not_second bytes ps is words = other_not_second bytes ps (format_of ps) (words_differ (format_of ps) words) is refl

of_bundles : (f : Format) (front : List ℕ) → front ≡ magic f → (front ≡ magic Sfi2 → ⊥) → has_words f ≡ false → f ≡ Sfi1
of_bundles Sfi1 front e not bundles = refl
of_bundles Sfi2 front e not bundles = absurd (not e)
of_bundles Sfiw front e not bundles = absurd cc
of_bundles Sfis front e not bundles = absurd cc

pub not_second_first : (bytes : List ℕ) (ps : List Part) → IsAccepted bytes ps → (IsSecond bytes → ⊥) → has_words (format_of ps) ≡ false → format_of ps ≡ Sfi1
not_second_first bytes ps is not bundles = of_bundles (format_of ps) (take 4 bytes) (begins_with bytes ps is.image.bytes_are) not bundles

-- ---- refusals

pub refused_means : (bytes : List ℕ) (r : Refusal) → (IsSecond bytes → ⊥) → IfLayoutFault (IsFault bytes) r → IfFindings (HasFindings bytes) r → IsConvertFault bytes (fault_of r)
refused_means bytes (Layout k) first l f = (first, l)
refused_means bytes (Findings found) first l f = (first, f)
refused_means bytes Memory first l f = tt

pub refused_layout : (k : LayoutFault) (r : Refusal) → verdict.AnswersLayout {A = List Part} k (Err r) → AnswersLayout k (Err (fault_of r))
refused_layout k (Layout j) h = h
refused_layout k (Findings found) h = h
refused_layout k Memory h = h

pub refused_findings : (found : List Finding) (r : Refusal) → verdict.AnswersFindings {A = List Part} found (Err r) → AnswersFindings found (Err (fault_of r))
refused_findings found (Layout j) h = h
refused_findings found (Findings others) h = h
refused_findings found Memory h = h

-- ---- what is accepted

pub seen_as : (f g : Format) (items : List SandboxPart) (ps : List Part) → views f items ≡ ps → views g items ≡ all_in_format g ps
seen_as f g items ps e = in_other items ∙ ap (all_in_format g) e
  where
    in_other : (xs : List SandboxPart) → views g xs ≡ all_in_format g (views f xs)
    in_other [] = refl
    in_other (x ∷ xs) = ap (λ (l : List Part). view g x ∷ l) (in_other xs)

pub converted_means : (bytes : List ℕ) (ps : List Part) (answer : Result (Vec ℕ Global) ConvertFault) → (IsSecond bytes → ⊥) → has_words (format_of ps) ≡ false → IsAccepted bytes ps
    → IfOk answer (λ new. IsAccepted new.items (all_in_format Sfi2 ps)) → IfOk answer (λ new. IsConversion bytes new.items)
converted_means bytes ps (Ok new) not bundles is h = record { parts = ps; first = not_second_first bytes ps is not bundles; accepted = is; converted = h }
converted_means bytes ps (Err e) not bundles is h = tt

pub stack_means : (bytes : List ℕ) (ps : List Part) (answer : Result (Vec ℕ Global) ConvertFault) → (IsSecond bytes → ⊥) → has_words (format_of ps) ≡ false → IsAccepted bytes ps
    → IfErr answer (IsStackOf (all_in_format Sfi2 ps)) → IfErr answer (IsConvertFault bytes)
stack_means bytes ps (Ok new) not bundles is h = tt
stack_means bytes ps (Err (Stack found)) not bundles is h = record { parts = ps; first = not_second_first bytes ps is not bundles; accepted = is; found_are = h.0; some = h.1 }
stack_means bytes ps (Err convert.Memory) not bundles is h = tt
stack_means bytes ps (Err e) not bundles is h = absurd h

pub stack_alone_means : (ps : List Part) (answer : Result (Vec ℕ Global) ConvertFault) → has_words (format_of ps) ≡ false → AreOf (format_of ps) ps → AreImageFindings ps []
    → IfErr answer (IsStackOf (all_in_format Sfi2 ps)) → IfErr answer (IfStack AreOfStack)
stack_alone_means ps (Ok new) bundles one none h = tt
stack_alone_means ps (Err (Stack found)) bundles one none h = clean_breaks_stack_alone ps found.items (λ k d less. ap has_words (one k d less) ∙ bundles) none h.0
stack_alone_means ps (Err convert.Memory) bundles one none h = tt
stack_alone_means ps (Err e) bundles one none h = absurd h

pub fault_converts : (ps : List Part) (fault : ConvertFault) (answer : Result (Vec ℕ Global) ConvertFault) → IsErrAnd answer (λ e. e ≡ fault) → IsStackOf (all_in_format Sfi2 ps) fault → Converts ps answer
fault_converts ps fault (Ok new) h is = absurd h
fault_converts ps fault (Err e) h is = record { converted = tt; fault = subst (IsStackOf (all_in_format Sfi2 ps)) (sym h) is }
