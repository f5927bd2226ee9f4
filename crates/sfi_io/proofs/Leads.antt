-- What is known of input by its front: that it begins as an image, and what comes of a text.
use Rattle.std.proofs.Common.{◌⊎◌, IfSome, ◌↔◌}
use Rattle.std.proofs.lemmas.List.{append-nil, take-append-le}
use Rattle.std.specs.Io.KnownBytes.{Consumes, IsAtEnd}
use Rattle.sfi_formats.specs.declared.format.Format.{Format}
use Rattle.sfi_formats.specs.declared.format.Format.TheVariants.{Sfi1, Sfi2, Sfiw, Sfis}
use Rattle.sfi_formats.specs.Formats.{magic}
use Rattle.sfi_io.specs.Hexadecimal.{BeginsAsImage}
use Rattle.sfi_io.specs.Laws.{TextsBeginAsNone}
use Rattle.sfi_io.specs.declared.text.TextStop.{TextStop}
use Rattle.sfi_io.specs.declared.text.TextStop.TheVariants.{Failed}
use Rattle.sfi_io.proofs.Prelude.{◌≡◌, ◌∙◌, ℕ, ◌≤◌, ◌==◌, ◌%◌, ◌++◌, Bool, true, false, List, [], ◌∷◌, Option, Some, None, Ok, Err, length, take, refl, sym, ap, subst, inl, inr, filter, if◌then◌else◌, decode_of, decode_pairs, OddLength, is_kept, Result, append_assoc, Leads, prepend, Fault, TooLarge}

-- ==== Input that begins as an image.

-- an S is no digit
spells_none : (rest bytes : List ℕ) → decode_of (83 ∷ rest) ≡ Ok bytes → ⊥
unfolding decode_pairs
spells_none rest bytes e = by (length (83 ∷ rest) % 2 == 1) refl
  where
    pairs : (others : List ℕ) → decode_pairs 0 (83 ∷ others) ≡ Ok bytes → ⊥
    pairs [] e = absurd (cc)
    pairs (low ∷ others) e = absurd (cc)

    by : (b : Bool) → (length (83 ∷ rest) % 2 == 1) ≡ b → ⊥
    by true is = let no : Err OddLength ≡ Ok bytes = sym (ap (λ (b : Bool). if b then Err OddLength else decode_pairs 0 (83 ∷ rest)) is) ∙ e in absurd (cc)
    by false is = pairs rest (sym (ap (λ (b : Bool). if b then Err OddLength else decode_pairs 0 (83 ∷ rest)) is) ∙ e)

first_byte : (f : Format) (b : ℕ) (rest : List ℕ) → b ∷ rest ≡ magic f → b ≡ 83
unfolding magic
first_byte Sfi1 b rest e = cc
first_byte Sfi2 b rest e = cc
first_byte Sfiw b rest e = cc
first_byte Sfis b rest e = cc

not_empty : (f : Format) → [] ≡ magic f → ⊥
unfolding magic
not_empty Sfi1 e = absurd (cc)
not_empty Sfi2 e = absurd (cc)
not_empty Sfiw e = absurd (cc)
not_empty Sfis e = absurd (cc)

pub texts_begin_as_none : TextsBeginAsNone
texts_begin_as_none [] bytes spells begins = not_empty begins.0 begins.1
texts_begin_as_none (b ∷ text) bytes spells begins =
    spells_none (filter is_kept text) bytes
    (subst (λ (n : ℕ). decode_of (filter is_kept (n ∷ text)) ≡ Ok bytes) (first_byte begins.0 b (take 3 text) begins.1) spells.digits)

-- four bytes, or all there are, tell how an input begins
pub front_tells : (old new : Option (List ℕ)) (front : List ℕ) → Consumes old new front → (4 ≤ length front) ⊎ IsAtEnd new
    → IfSome old (λ input. BeginsAsImage front ↔ BeginsAsImage input)
front_tells None new front read far = tt
front_tells (Some input) None front read far = absurd read
front_tells (Some input) (Some rest) front read far =
    let same : take 4 input ≡ take 4 front = by far in
    (λ begins. (begins.0, same ∙ begins.1), λ begins. (begins.0, sym same ∙ begins.1))
  where
    by : (4 ≤ length front) ⊎ IsAtEnd (Some rest) → take 4 input ≡ take 4 front
    by (inl long) = ap (take 4) read ∙ take-append-le 4 front rest long
    by (inr none) = ap (take 4) (read ∙ ap (λ (l : List ℕ). front ++ l) none ∙ append-nil front)

-- ==== What is known to come of a text, after some of it. Crates above cite this.

pub leads_by : (first then_ : Result (List ℕ) TextStop) (bytes : List ℕ) → first ≡ prepend bytes then_ → Leads (Some first) (Some then_) bytes
leads_by first (Ok others) bytes h = h
leads_by first (Err (Fault f)) bytes h = h
leads_by first (Err TooLarge) bytes h = h
leads_by first (Err Failed) bytes h = tt

-- unless a read failed, it is what comes of all
pub of_leads : (first then_ : Result (List ℕ) TextStop) (bytes : List ℕ) → Leads (Some first) (Some then_) bytes → (then_ ≡ Err Failed) ⊎ (first ≡ prepend bytes then_)
of_leads first (Ok others) bytes h = inr h
of_leads first (Err (Fault f)) bytes h = inr h
of_leads first (Err TooLarge) bytes h = inr h
of_leads first (Err Failed) bytes h = inl refl

pub leads_nowhere : (a : Option (Result (List ℕ) TextStop)) → Leads a a []
leads_nowhere None = tt
leads_nowhere (Some (Ok bytes)) = refl
leads_nowhere (Some (Err (Fault f))) = refl
leads_nowhere (Some (Err TooLarge)) = refl
leads_nowhere (Some (Err Failed)) = tt

after_failure : (first then_ : Result (List ℕ) TextStop) (bytes : List ℕ) → first ≡ Err Failed → first ≡ prepend bytes then_ → then_ ≡ Err Failed
after_failure first (Ok others) bytes failed h = absurd (cc)
after_failure first (Err e) bytes failed h = cc

prepend_twice : (first others : List ℕ) (r : Result (List ℕ) TextStop) → prepend first (prepend others r) ≡ prepend (first ++ others) r
prepend_twice first others (Ok rest) = ap Ok (sym (append_assoc first others rest))
prepend_twice first others (Err e) = refl

pub failed_leads : (first then_ : Result (List ℕ) TextStop) (bytes : List ℕ) → then_ ≡ Err Failed → Leads (Some first) (Some then_) bytes
failed_leads first then_ bytes failed = subst (λ (r : Result (List ℕ) TextStop). Leads (Some first) (Some r) bytes) (sym failed) tt

pub leads_more : (a b c : Option (Result (List ℕ) TextStop)) (first others : List ℕ) → Leads a b first → Leads b c others → Leads a c (first ++ others)
leads_more None b c first others p q = tt
leads_more (Some a) None c first others p q = absurd p
leads_more (Some a) (Some b) None first others p q = absurd (none b q)
  where
    none : (b : Result (List ℕ) TextStop) → Leads (Some b) None others → ⊥
    none b q = q
leads_more (Some a) (Some b) (Some c) first others p q = elim (of_leads b c others q) [
  | inl failed ↦ failed_leads a c (first ++ others) failed
  | inr same ↦ elim (of_leads a b first p) [
    | inl failed ↦ failed_leads a c (first ++ others) (after_failure b c others failed same)
    | inr is ↦ leads_by a c (first ++ others) (is ∙ ap (prepend first) same ∙ prepend_twice first others c)
  ]
]
