-- A text has one build or one fault, and as many lists as sandboxes.
use Rattle.sfi_text.proofs.Prelude.{◌≡◌, refl, sym, ap, subst, ◌∙◌, ℕ, ◌+◌, inl, inr, List, [], ◌∷◌, ◌++◌, Option, None, Some, length, length-append, arith, Sandbox, Begun, SharedNames, SoFar, nothing, last_sandbox, Stated, format, sandbox, within, Does, LabelsLead, RestLeads, uncommented, lines, LinesLead, MeansText}
use Rattle.sfi_text.specs.SoFar.{last_shared}
use Rattle.sfi_link.proofs.Prelude.{◌⊎◌, Vec, Global, Result, Ok, Err, IfOk, IfErr, Placement, Place, IsLinkFault}
use Rattle.std.specs.Prelude.{◌≢◌}
use Rattle.std.proofs.lemmas.Result.{IfOk-weaker}
use Rattle.sfi_text.specs.Texts.{MeansSource}
use Rattle.sfi_source.specs.Source.{IsSource, IsSandbox, format_of}
use Rattle.std.proofs.lemmas.List.Elements.{recursion_from_All}
use Rattle.sfi_build.specs.Tables.{tails_from, sandbox_with}
use Rattle.sfi_build.proofs.Tails.{source_right}
use Rattle.sfi_build.proofs.Fitting.{tails_fit, same_ok, same_err, ok_not_err}
use Rattle.sfi_link.specs.Linked.{IsLinkedImage, ArePlacements, IsBuild, HaveUsualPlaces, each_with}
use Rattle.sfi_link.specs.Standing.{ImageRunsAs}
use Rattle.sfi_build.specs.Texts.{IsPlainBuild, MeansWhole, IsTextBuild, IsTextMap, IsCleanImage, IsBuildFault, HasUsualPlaces, IsWantOfMemory, AnswersBuild, AnswersBuildFault}
use Rattle.sfi_build.specs.declared.fault.BuildFault.{BuildFault}
use Rattle.sfi_build.specs.declared.fault.BuildFault.TheVariants.{Text, Rewrite, Link, Names}
use Rattle.sfi_rewrite.specs.Rewriting.{IsSourceFault, IsRewritten, AreRewritten}
use Rattle.sfi_rewrite.specs.Placed.{format_of as placements_format}
use Rattle.sfi_formats.specs.Formats.{has_single_mask}
use Rattle.std.proofs.lemmas.Slice.Zip.{AllZip-long}
use Rattle.sfi_rewrite.specs.declared.fault.RewriteFault.{RewriteFault}
use Rattle.sfi_text.proofs.Facts as texts
use Rattle.sfi_rewrite.proofs.Facts as sources
use Rattle.sfi_link.proofs.Linking.{one_bytes, never}
use Rattle.sfi_link.proofs.OneLinking.{one_fault}
use Rattle.sfi_link.proofs.RunsAs.{images_run_as}
use Rattle.sfi_link.proofs.Usual.{usual_places_are_free}
use Rattle.sfi_link.specs.Names.{MapEntry, map_from}
use Rattle.sfi_link.specs.declared.fault.LinkFault.TheVariants as fault

-- ==== A text's lists for tables of names are as many as its sandboxes.

-- each finished sandbox has its list
abbrev IsEven : SoFar → Type 0
IsEven s = length s.shared ≡ length s.finished

all_even : (s : SoFar) (o : Option Begun) → IsEven s → length (s.shared ++ last_shared o) ≡ length (s.finished ++ last_sandbox o)
all_even s None h = omega (arith, h, length-append s.shared [], length-append s.finished [])
all_even s (Some b) h = omega (arith, h, length-append s.shared (b.shared ∷ []), length-append s.finished (b.sandbox ∷ []))

does_even : (line : ℕ) (s : Stated) (old new : SoFar) → Does line s old new → IsEven old → IsEven new
does_even line (format value) old new new_is h = subst IsEven (sym new_is) h
does_even line (sandbox size) old new new_is h = subst IsEven (sym new_is) (all_even old old.begun h)
does_even line (within what) old new (b, is, fits, new_is) h = subst IsEven (sym new_is) h

labels_even : (names : List (List ℕ)) (old new : SoFar) (text rest : List ℕ) → LabelsLead names old text new rest → IsEven old → IsEven new
labels_even [] old new text rest same h = subst IsEven (sym same.0) h
labels_even (name ∷ names) old new text rest (next, after, begins, (b, is, short, free, next_is), more) h =
    labels_even names next new after rest more (subst IsEven (sym next_is) h)

rest_even : (line : ℕ) (old new : SoFar) (text : List ℕ) → RestLeads line old text new → IsEven old → IsEven new
rest_even line old new text (inl (blank, same)) h = subst IsEven (sym same) h
rest_even line old new text (inr (k, rest, takes, (known, may, once, (s, states, does)))) h = does_even line s old new does h

lines_even : (line : ℕ) (old new : SoFar) (line_texts : List (List ℕ)) → LinesLead line old line_texts new → IsEven old → IsEven new
lines_even line old new [] same h = subst IsEven (sym same) h
lines_even line old new (text ∷ line_texts) (next, (labelled, rest, passes, leads), more) h =
    lines_even (line + 1) next new line_texts more (rest_even line labelled next rest leads (labels_even passes.names old labelled (uncommented text) rest passes.lead h))

pub even : (text : List ℕ) (source : List Sandbox) (shared : List SharedNames) → MeansText text source shared → length shared ≡ length source
even text source shared (new, last, leads, begun, source_is, shared_is) =
    ap length shared_is ∙ all_even new new.begun (lines_even 1 nothing new (lines text) leads.lead refl) ∙ sym (ap length source_is)

-- ==== A text has one build or one fault.

-- ---- one build, one fault

-- the fault comes before those of tables
abbrev IsEarly : BuildFault → Type 0
IsEarly (Names f) = ⊥
IsEarly _ = Unit {0}

same_placed : (text : List ℕ) (s t : List Sandbox) (l m : List SharedNames) (p q : List Placement) → MeansText text s l → MeansText text t m → AreRewritten s p → AreRewritten t q → p ≡ q
same_placed text s t l m p q a b x y = sources.one_rewriting t p q (subst (λ u. AreRewritten u p) (texts.one_text text s t l m a b).0 x) y

pub listed_means : (text : List ℕ) (s : List Sandbox) (l : List SharedNames) → MeansText text s l → MeansSource text s
listed_means text s l (new, last, leads, begun, is, shared) = (new, last, leads, begun, is)

-- the tables are the same, and the sandboxes to whose data they belong
same_tails : (given : List Place) (text : List ℕ) (s t : List Sandbox) (l m : List SharedNames) (p q : List Placement) → IsPlainBuild given text s l p → IsPlainBuild given text t m q
    → (tails_from given p 0 l s ≡ tails_from given q 0 m t) × (s ≡ t)
same_tails given text s t l m p q a b =
    let same = texts.one_text text s t l m a.means b.means in
    let placed = same_placed text s t l m p q a.means b.means a.rewritten b.rewritten in
    ((λ i. tails_from given (placed i) 0 (same.1 i) (same.0 i)), same.0)

pub one_whole : (given : List Place) (text : List ℕ) (x y : List Sandbox) → MeansWhole given text x → MeansWhole given text y → x ≡ y
one_whole given text x y a b =
    let same = same_tails given text a.source b.source a.shared b.shared a.placed b.placed a.plain b.plain in
    let tails = same_ok a.tails b.tails (sym a.tails_are ∙ same.0 ∙ b.tails_are) in
    a.whole_is ∙ (λ i. each_with sandbox_with (tails i) (same.1 i)) ∙ sym b.whole_is

pub whole_right : (given : List Place) (text : List ℕ) (whole : List Sandbox) → MeansWhole given text whole → IsSource whole
whole_right given text whole a =
    let right = texts.sources_are_right text a.source (listed_means text a.source a.shared a.plain.means) in
    let fit = tails_fit given a.placed 0 a.shared a.source a.tails (recursion_from_All IsSandbox a.source right.each) a.tails_are in
    subst IsSource (sym a.whole_is) (source_right a.tails a.source fit right)

built_placed : (given : List Place) (text xs ys : List ℕ) (a : IsTextBuild given text xs) (b : IsTextBuild given text ys) → a.placed ≡ b.placed
built_placed given text xs ys a b =
    sources.one_rewriting b.source a.placed b.placed (subst (λ u. AreRewritten u a.placed) (one_whole given text a.source b.source a.means b.means) a.rewritten) b.rewritten

pub one_build : (given : List Place) → (text xs ys : List ℕ) → IsTextBuild given text xs → IsTextBuild given text ys → xs ≡ ys
one_build given text xs ys a b =
    one_bytes given b.placed xs ys (subst (λ p. IsLinkedImage given p xs) (built_placed given text xs ys a b) a.image) b.image

-- where a text's source is placed and linked, there is no fault before its tables
plain_never : (given : List Place) (text : List ℕ) (s : List Sandbox) (l : List SharedNames) (p : List Placement) (f : BuildFault) → IsPlainBuild given text s l p → IsEarly f → IsBuildFault given text f → ⊥
plain_never given text s l p (Text f) a early h = texts.meant_has_no_fault text s f (listed_means text s l a.means) h
plain_never given text s l p (Rewrite f) a early (t, m, means, h) =
    sources.never_both t p f (subst (λ u. AreRewritten u p) (texts.one_text text s t l m a.means means).0 a.rewritten) h
plain_never given text s l p (Link f) a early (t, m, q, means, rewritten, h) =
    never given q a.bytes f (subst (λ u. IsLinkedImage given u a.bytes) (same_placed text s t l m p q a.means means a.rewritten rewritten) a.image) h
plain_never given text s l p (Names f) a early h = absurd early

pub never_built : (given : List Place) → (text bytes : List ℕ) (f : BuildFault) → IsTextBuild given text bytes → IsBuildFault given text f → ⊥
never_built given text bytes (Names f) a (t, m, q, plain, h) =
    let b = a.means in
    let same = same_tails given text b.source t b.shared m b.placed q b.plain plain in
    ok_not_err b.tails f (sym b.tails_are ∙ same.0 ∙ h)
never_built given text bytes (Text f) a h = plain_never given text a.means.source a.means.shared a.means.placed (Text f) a.means.plain tt h
never_built given text bytes (Rewrite f) a h = plain_never given text a.means.source a.means.shared a.means.placed (Rewrite f) a.means.plain tt h
never_built given text bytes (Link f) a h = plain_never given text a.means.source a.means.shared a.means.placed (Link f) a.means.plain tt h

not_rewritten : (text : List ℕ) (s t : List Sandbox) (l m : List SharedNames) (p : List Placement) (f : RewriteFault) → MeansText text s l → MeansText text t m → AreRewritten s p → IsSourceFault t f → ⊥
not_rewritten text s t l m p f a b x h = sources.never_both t p f (subst (λ u. AreRewritten u p) (texts.one_text text s t l m a b).0 x) h

pub one_build_fault : (given : List Place) → (text : List ℕ) (f g : BuildFault) → IsBuildFault given text f → IsBuildFault given text g → f ≡ g
one_build_fault given text (Names f) (Names g) (s, l, p, a, h) (t, m, q, b, k) =
    ap (λ x. Names x) (same_err f g (sym h ∙ (same_tails given text s t l m p q a b).0 ∙ k))
one_build_fault given text (Names f) (Text g) (s, l, p, a, h) k = absurd (plain_never given text s l p (Text g) a tt k)
one_build_fault given text (Names f) (Rewrite g) (s, l, p, a, h) k = absurd (plain_never given text s l p (Rewrite g) a tt k)
one_build_fault given text (Names f) (Link g) (s, l, p, a, h) k = absurd (plain_never given text s l p (Link g) a tt k)
one_build_fault given text (Text f) (Names g) h (s, l, p, a, k) = absurd (plain_never given text s l p (Text f) a tt h)
one_build_fault given text (Rewrite f) (Names g) h (s, l, p, a, k) = absurd (plain_never given text s l p (Rewrite f) a tt h)
one_build_fault given text (Link f) (Names g) h (s, l, p, a, k) = absurd (plain_never given text s l p (Link f) a tt h)
one_build_fault given text (Text f) (Text g) a b = ap (λ x. Text x) (texts.one_fault text f g a b)
one_build_fault given text (Text f) (Rewrite g) a (t, m, means, h) = absurd (texts.meant_has_no_fault text t f (listed_means text t m means) a)
one_build_fault given text (Text f) (Link g) a (t, m, q, means, rewritten, h) = absurd (texts.meant_has_no_fault text t f (listed_means text t m means) a)
one_build_fault given text (Rewrite f) (Text g) (s, l, means, h) b = absurd (texts.meant_has_no_fault text s g (listed_means text s l means) b)
one_build_fault given text (Rewrite f) (Rewrite g) (s, l, means, h) (t, m, other, k) =
    ap (λ x. Rewrite x) (sources.one_fault t f g (subst (λ u. IsSourceFault u f) (texts.one_text text s t l m means other).0 h) k)
one_build_fault given text (Rewrite f) (Link g) (s, l, means, h) (t, m, q, other, rewritten, k) = absurd (not_rewritten text t s m l q f other means rewritten h)
one_build_fault given text (Link f) (Text g) (s, l, p, means, rewritten, h) b = absurd (texts.meant_has_no_fault text s g (listed_means text s l means) b)
one_build_fault given text (Link f) (Rewrite g) (s, l, p, means, rewritten, h) (t, m, other, k) = absurd (not_rewritten text s t l m p g means other rewritten k)
one_build_fault given text (Link f) (Link g) (s, l, p, means, rewritten, h) (t, m, q, other, again, k) =
    ap (λ x. Link x) (one_fault given q f g (subst (λ u. IsLinkFault given u f) (same_placed text s t l m p q means other rewritten again) h) k)

pub one_map : (given : List Place) (text : List ℕ) (xs ys : List MapEntry) → IsTextMap given text xs → IsTextMap given text ys → xs ≡ ys
one_map given text xs ys a b =
    let source = one_whole given text a.build.source b.build.source a.build.means b.build.means in
    let placed = built_placed given text a.bytes b.bytes a.build b.build in
    a.entries_are ∙ ap (λ s. map_from given 0 s a.build.placed) source ∙ ap (λ p. map_from given 0 b.build.source p) placed ∙ sym b.entries_are

-- ---- what is answered that way

-- the answer meets Is, or is the text's fault
abbrev Answers : {X : Type 0} → (List X → Type 0) → List Place → List ℕ → Result (Vec X Global) BuildFault → Type 0
Answers Is given text r = IfOk r (λ v. Is v.items) × IfErr r (λ f. IsWantOfMemory f ⊎ IsBuildFault given text f)

pub only_one : {X : Type 0} (Is : List X → Type 0) (given : List Place) (text : List ℕ) → ((xs ys : List X) → Is xs → Is ys → xs ≡ ys) → ((xs : List X) (f : BuildFault) → Is xs → IsBuildFault given text f → ⊥)
    → (r : Result (Vec X Global) BuildFault) → Answers Is given text r → (xs : List X) → Is xs → AnswersBuild xs r
only_one Is given text one never (Ok v) h xs is = one v.items xs h.0 is
only_one Is given text one never (Err f) (ok, inl h) xs is = h
only_one Is given text one never (Err f) (ok, inr h) xs is = absurd (never xs f is h)

pub only_fault : {X : Type 0} (Is : List X → Type 0) (given : List Place) (text : List ℕ) → ((xs : List X) (f : BuildFault) → Is xs → IsBuildFault given text f → ⊥)
    → (r : Result (Vec X Global) BuildFault) → Answers Is given text r → (f : BuildFault) → IsBuildFault given text f → AnswersBuildFault f r
only_fault Is given text never (Ok v) h f is = absurd (never v.items f h.0 is)
only_fault Is given text never (Err g) (ok, inl h) f is = inr h
only_fault Is given text never (Err g) (ok, inr h) f is = inl (one_build_fault given text g f h is)

-- what is placed of a source has as many sandboxes, and is of its format
have_places : (source : List Sandbox) (placed : List Placement) → AreRewritten source placed → HaveUsualPlaces (format_of source) (length source) → HaveUsualPlaces (placements_format placed) (length placed)
have_places source placed rewritten have single =
    omega (arith, have (ap has_single_mask (sym (same_format source placed rewritten)) ∙ single), AllZip-long IsRewritten source placed rewritten)
  where
    same_format : (source : List Sandbox) (placed : List Placement) → AreRewritten source placed → placements_format placed ≡ format_of source
    same_format [] [] h = refl
    same_format [] (p ∷ placed) h = absurd h
    same_format (s ∷ source) [] h = absurd h
    same_format (s ∷ source) (p ∷ placed) h = h.0.placement.format

-- where no place is given, and there is a usual one for each, no fault is that of a place
pub never_place_built : {X : Type 0} (given : List Place) (text : List ℕ) (r : Result X BuildFault) → IfErr r (λ f. IsWantOfMemory f ⊎ IsBuildFault given text f)
    → given ≡ [] → HasUsualPlaces text → (k : ℕ) → r ≢ Err (Link (fault.Place k))
never_place_built given text r wrong none have k e =
    elim (subst (λ x. IfErr x (λ f. IsWantOfMemory f ⊎ IsBuildFault given text f)) e wrong) [
      | inl memory ↦ cc
      | inr (source, shared, placed, means, rewritten, here) ↦
          usual_places_are_free placed k (sources.rewritten_is_placed source placed (texts.sources_are_right text source (listed_means text source shared means)) rewritten)
          (have_places source placed rewritten (have source shared means)) (subst (λ g. IsLinkFault g placed (fault.Place k)) none here)
    ]

-- ---- what a build is

placements : (source : List Sandbox) (placed : List Placement) → AreRewritten source placed → ArePlacements source placed
placements [] [] h = h
placements [] (p ∷ placed) h = h
placements (s ∷ source) [] h = h
placements (s ∷ source) (p ∷ placed) h = (h.0.placement, placements source placed h.1)

pub text_build : (given : List Place) → (text : List ℕ) (r : Result (Vec ℕ Global) BuildFault) → IfOk r (λ v. IsTextBuild given text v.items) → (source : List Sandbox) → MeansWhole given text source → IfOk r (λ v. IsBuild given source v.items)
text_build given text (Ok v) h source means =
    let same = one_whole given text h.source source h.means means in
    record {
      placed = h.placed;
      placements = placements source h.placed (subst (λ u. AreRewritten u h.placed) same h.rewritten);
      parts = h.image.parts;
      linked = h.image.linked;
      bytes_are = h.image.image.bytes_are;
    }
text_build given text (Err f) h source means = tt

pub means_clean : (given : List Place) → (text : List ℕ) (r : Result (Vec ℕ Global) BuildFault) → IfOk r (λ v. IsTextBuild given text v.items) → IfOk r (λ v. IsCleanImage v.items)
means_clean given text r = IfOk-weaker r (λ (v : Vec ℕ Global). IsTextBuild given text v.items) _ (λ v h. record { parts = h.image.parts; image = h.image.image; none_found = h.image.none_found })

-- the image acts as the source that its text means
pub build_runs_as : (given : List Place) → (text : List ℕ) (r : Result (Vec ℕ Global) BuildFault) → IfOk r (λ v. IsTextBuild given text v.items)
    → (source : List Sandbox) → MeansWhole given text source → IfOk r (λ v. ImageRunsAs given source v.items)
build_runs_as given text (Ok v) h source means =
    let same = one_whole given text h.source source h.means means in
    images_run_as given source h.placed v.items (whole_right given text source means) (subst (λ u. AreRewritten u h.placed) same h.rewritten) h.image
build_runs_as given text (Err f) h source means = tt
