-- What a feed holds, and the answer on a stream.
use Rattle.sfi_check.proofs.Prelude.{◌≡◌, ℕ, ◌<◌, Bool, true, false, List, [], ◌∷◌, ◌++◌, length, Option, None, refl, sym, ap, ◌∙◌, subst, arith, append_assoc, inr, slice_get, Part, IsFault, ImagePrefix, prefix_bytes, HasFaultWhateverFollows, Empty, Whole, LayoutReader, StandsFor, left, Finding, AreImageFindings, StreamAnswer, Tally, Tallies, IsSoFar, IsCut, verdict_by, verdict_of, HasFindings, IsVerdictOn, AreHandedOver, IsImage, LayoutFault, ◌≤◌, ◌+◌, ◌⊎◌, Some, take, inl, is_some, append-nil, length-take, length-append, take-append_seam, want_of, IsLess, HoldsOfSome, IsFedFinding, IsFedBy, IsHeld, left_to_feed}
use Rattle.sfi_image.specs.declared.fault.LayoutFault.TheVariants as faults
use Rattle.sfi_image.specs.declared.want.Stage.TheVariants as stage
use Rattle.sfi_check.specs.declared.stream_answer.StreamAnswer.TheVariants as answers
use Rattle.sfi_check.proofs.OneVerdict.{on_fault, on_accepted, on_findings}
use Rattle.sfi_safety.proofs.Safe.{all_safe}
use Rattle.sfi_image.proofs.Facts.{cut_short, trails, whole_is_image}
use Rattle.sfi_check.specs.declared.feed.Feed.{Feed}
use Rattle.sfi_image.specs.declared.want.Want.{Want}
use Rattle.sfi_image.specs.declared.want.Want.TheVariants as wants

-- ==== The answer on a stream.

-- ---- before the end

pub judged_onwards : (bytes : List ℕ) (k : LayoutFault) → HasFaultWhateverFollows bytes k → IsVerdictOn bytes false (answers.Layout k)
judged_onwards bytes k h = record {
  layout = inr h;
  findings = tt;
  accepted = tt;
  only_layout = λ e. absurd cc;
  only_findings = λ e. absurd cc;
  only_accepted = λ e. absurd cc;
}

pub judged_failed : (bytes : List ℕ) → IsVerdictOn bytes false answers.ReadFault
judged_failed bytes = record {
  layout = tt;
  findings = tt;
  accepted = tt;
  only_layout = λ e. absurd cc;
  only_findings = λ e. absurd cc;
  only_accepted = λ e. absurd cc;
}

-- ---- at the end

-- the verdict on a whole image, and its findings
abbrev pub IsJudgedWhole : (List Finding → Type 0) → List ℕ → StreamAnswer → Type 0
IsJudgedWhole holds bytes answer = (found : List Finding) × IsVerdictOn bytes true answer × holds found × AreHandedOver bytes found answer

pub judged_whole : {T : List Finding → Type 0} → (bytes : List ℕ) (ps : List Part) (t : Tally) → IsImage bytes ps → Tallies T t (Whole ps) → IsJudgedWhole T bytes (verdict_of t)
judged_whole {T} bytes ps t image k = by k.found k.found_holds k.found_are k.count k.first
  where
    by : (found : List Finding) → T found → AreImageFindings ps found → t.count ≡ length found → t.first ≡ slice_get found 0 → IsJudgedWhole T bytes (verdict_of t)
    by [] holds are count first =
        subst (λ (o : Option Finding). IsJudgedWhole T bytes (verdict_by o t)) (sym first) (
          [],
          on_accepted bytes ps t.sandboxes t.bundles (record { image = image; none_found = are }) k.sandboxes k.bundles (all_safe ps (record { layout = image.layout; none_found = are })),
          holds,
          record { findings = tt; accepted = refl },
        )
    by (x ∷ xs) holds are count first =
        let has : HasFindings bytes (x ∷ xs) = record { parts = ps; image = image; found_are = are; some = λ e. absurd cc } in
        subst (λ (o : Option Finding). IsJudgedWhole T bytes (verdict_by o t)) (sym first) (
          x ∷ xs,
          on_findings bytes (x ∷ xs) t.count x has (record { count_is = count; first_is = refl }),
          holds,
          record { findings = has; accepted = tt },
        )

-- ---- the reader's end

at_whole : {T : List Finding → Type 0} (r : LayoutReader) (t : Tally) (bytes : List ℕ) (x : ImagePrefix) → StandsFor r x → bytes ≡ prefix_bytes x → Tallies T t x → r.next ≡ stage.End
    → (ps : List Part) × (bytes ≡ prefix_bytes (Whole ps)) × StandsFor r (Whole ps) × Tallies T t (Whole ps)
at_whole r t bytes (Whole ps) h e k is = (ps, e, h, k)
at_whole r t bytes x h e k is = let n = h.kept.0 in absurd cc

-- the stream ends where the image does
pub ended_whole : {T : List Finding → Type 0} → (r : LayoutReader) (t : Tally) (bytes : List ℕ) → IsSoFar T r t bytes → r.next ≡ stage.End → IsJudgedWhole T bytes (verdict_of t)
ended_whole r t bytes h is =
    let w = at_whole r t bytes h.at h.stands h.bytes_are h.tallies is in
    judged_whole bytes w.0 t (subst (λ (l : List ℕ). IsImage l w.0) (sym w.1) (whole_is_image w.0 w.2.right)) w.3

-- the stream goes on after the image
pub trailing : {T : List Finding → Type 0} → (r : LayoutReader) (t : Tally) (bytes rest : List ℕ) → IsSoFar T r t bytes → r.next ≡ stage.End → 0 < length rest → HasFaultWhateverFollows (bytes ++ rest) faults.Trailing
trailing r t bytes rest h is some =
    let w = at_whole r t bytes h.at h.stands h.bytes_are h.tallies is in
    λ more.
    let regroup : (bytes ++ rest) ++ more ≡ prefix_bytes (Whole w.0) ++ (rest ++ more) = append_assoc bytes rest more ∙ ap (λ (l : List ℕ). l ++ (rest ++ more)) w.1 in
    rw (regroup) (trails w.0 (rest ++ more) w.2.right (longer rest more some))
  where
    longer : (xs ys : List ℕ) → 0 < length xs → 0 < length (xs ++ ys)
    longer [] ys s = absurd (omega arith)
    longer (x ∷ xs) ys s = omega arith

-- the stream ends before what comes next is whole
pub ended_short : {T : List Finding → Type 0} → (r : LayoutReader) (t : Tally) (bytes rest : List ℕ) → IsSoFar T r t bytes → IsCut r (length rest) → IsVerdictOn (bytes ++ rest) true (answers.Layout faults.Short)
ended_short r t bytes rest h cut =
    on_fault (bytes ++ rest) faults.Short (subst (λ (l : List ℕ). IsFault (l ++ rest) faults.Short) (sym h.bytes_are) (cut_short h.at rest h.stands.right (cut.less h.at h.stands)))

-- before the first byte
pub nothing_yet : {T : List Finding → Type 0} (r : LayoutReader) (t : Tally) → StandsFor r Empty → t.sandboxes ≡ 0 → t.bundles ≡ 0 → t.count ≡ 0 → t.first ≡ None → T [] → IsSoFar T r t []
nothing_yet r t stands s b c f holds = record {
  at = Empty;
  stands = stands;
  bytes_are = refl;
  tallies = record { found = []; found_holds = holds; found_are = refl; count = c; first = f; bundles = b; sandboxes = s; few = omega (arith, c) };
  few = omega (arith, b);
}

-- ==== What a feed holds.

-- ---- by the fault that it met, if any

pub held_fed : {T : List Finding → Type 0} (f : Feed) (bytes : List ℕ) → f.fault ≡ None → IsHeld T f bytes → IsFedFinding T f bytes
held_fed {T} f bytes e h = subst (λ (o : Option LayoutFault). IsFedBy T o f bytes) (sym e) h

pub fed_held : {T : List Finding → Type 0} (f : Feed) (bytes : List ℕ) → f.fault ≡ None → IsFedFinding T f bytes → IsHeld T f bytes
fed_held {T} f bytes e h = subst (λ (o : Option LayoutFault). IsFedBy T o f bytes) e h

pub fed_fault : {T : List Finding → Type 0} (f : Feed) (bytes : List ℕ) (k : LayoutFault) → f.fault ≡ Some k → IsFedFinding T f bytes → HasFaultWhateverFollows bytes k × HoldsOfSome T
fed_fault {T} f bytes k e h = subst (λ (o : Option LayoutFault). IsFedBy T o f bytes) e h

-- ---- what else holds of what it found

held_as : {T U : List Finding → Type 0} (f : Feed) (bytes : List ℕ) (h : IsHeld T f bytes) → U h.at.tallies.found → IsHeld U f bytes
held_as f bytes h holds =
    let k = h.at.tallies in
    record {
      so_far = h.so_far;
      at = record {
        at = h.at.at;
        stands = h.at.stands;
        bytes_are = h.at.bytes_are;
        tallies = record { found = k.found; found_holds = holds; found_are = k.found_are; count = k.count; first = k.first; bundles = k.bundles; sandboxes = k.sandboxes; few = k.few };
        few = h.at.few;
      };
      bytes_are = h.bytes_are;
      rests = h.rests;
      long = h.long;
    }

pub fed_weaker : {T U : List Finding → Type 0} (f : Feed) (bytes : List ℕ) → ((found : List Finding) → T found → U found) → IsFedFinding T f bytes → IsFedFinding U f bytes
fed_weaker {T} {U} f bytes on h = by f.fault h
  where
    by : (o : Option LayoutFault) → IsFedBy T o f bytes → IsFedBy U o f bytes
    by None h = held_as f bytes h (on h.at.tallies.found h.at.tallies.found_holds)
    by (Some k) h = (h.0, (h.1.0, on h.1.0 h.1.1))

-- the findings are some list
pub listed : {T : List Finding → Type 0} (f : Feed) (bytes : List ℕ) → IsFedFinding T f bytes → (found : List Finding) × T found × IsFedFinding (λ all. all ≡ found) f bytes
listed {T} f bytes h = by f.fault h
  where
    by : (o : Option LayoutFault) → IsFedBy T o f bytes → (found : List Finding) × T found × IsFedBy (λ all. all ≡ found) o f bytes
    by None h = (h.at.tallies.found, h.at.tallies.found_holds, held_as f bytes h refl)
    by (Some k) h = (h.1.0, h.1.1, (h.0, (h.1.0, refl)))

-- a sink that took nothing took what was found in no byte
pub from_nothing : {S : Type 0} (takes : S → List Finding → S → Type 0) (s : S) (f : Feed) → takes s [] s → IsFedFinding (λ found. found ≡ []) f [] → IsFedFinding (λ found. takes s found s) f []
from_nothing takes s f none h = fed_weaker f [] (λ found is. subst (λ (l : List Finding). takes s l s) (sym is) none) h

-- ---- before the first byte

first_cut : (r : LayoutReader) → StandsFor r Empty → (x : ImagePrefix) → StandsFor r x → IsLess 0 (want_of x)
first_cut r e Empty h = omega arith
first_cut r e x h = let n = h.kept.0 in let m = e.kept.0 in absurd cc

pub nothing_fed : (T : List Finding → Type 0) (f : Feed) → StandsFor f.reader Empty → f.tally.sandboxes ≡ 0 → f.tally.bundles ≡ 0 → f.tally.count ≡ 0 → f.tally.first ≡ None
    → f.count ≡ 0 → f.fault ≡ None → length f.held ≡ 64 → T [] → IsFedFinding T f []
nothing_fed T f stands s b n o none e long holds =
    held_fed f [] e (record {
      so_far = [];
      at = nothing_yet f.reader f.tally stands s b n o holds;
      bytes_are = sym (ap (λ (k : ℕ). take k f.held) none);
      rests = rw (none) (inl (record { less = first_cut f.reader stands; few = omega arith }));
      long = long;
    })

-- ---- what is left to be fed

-- of the piece's bytes, which are more than were held before, some are taken, or all are held
pub falls : (old new : Feed) (len : ℕ) → old.fault ≡ None → new.fault ≡ None → old.count < len → new.count < 28
    → (left new.reader < left old.reader) ⊎ ((len ≡ new.count) × (left new.reader ≤ left old.reader)) → left_to_feed new < left_to_feed old
falls old new len e is more few how =
    rw (e, is) (elim how [ inl lt ↦ omega arith | inr h ↦ (let all = h.0 in let le = h.1 in omega arith) ])

pub some_left : (f : Feed) → f.fault ≡ None → 0 < left_to_feed f
some_left f e = rw (e) (omega arith)

pub fault_more : (bytes more : List ℕ) (k : LayoutFault) → HasFaultWhateverFollows bytes k → HasFaultWhateverFollows (bytes ++ more) k
fault_more bytes more k h = λ tail. subst (λ (l : List ℕ). IsFault l k) (sym (append_assoc bytes more tail)) (h (more ++ tail))

pub at_reader : {T : List Finding → Type 0} (r s : LayoutReader) (t u : Tally) (bytes : List ℕ) → r ≡ s → t ≡ u → IsSoFar T s u bytes → IsSoFar T r t bytes
at_reader r s t u bytes a b h = rw (a, b) h

pub answered_fault : (bytes : List ℕ) (k : LayoutFault) → HasFaultWhateverFollows bytes k → IsVerdictOn bytes true (answers.Layout k)
answered_fault bytes k h = on_fault bytes k (subst (λ (l : List ℕ). IsFault l k) (append-nil bytes) (h []))

is_end : (r : LayoutReader) (x : ImagePrefix) → StandsFor r x → wants.End ≡ want_of x → r.next ≡ stage.End
is_end r (Whole ps) h w = h.kept.0
is_end r x h w = absurd cc

never_less : (x : ImagePrefix) (len : ℕ) → wants.End ≡ want_of x → IsLess len (want_of x) → ⊥
never_less x len w h = subst (λ (v : Want). IsLess len v) (sym w) h

none_held : {T : List Finding → Type 0} (f : Feed) (bytes : List ℕ) (h : IsHeld T f bytes) → wants.End ≡ want_of h.at.at → f.count ≡ 0
none_held f bytes h w = elim h.rests [
  | inl cut ↦ absurd (never_less h.at.at f.count w (cut.less h.at.at h.at.stands))
  | inr end ↦ end.1
]

pub answered_whole : {T : List Finding → Type 0} (f : Feed) (bytes : List ℕ) → IsHeld T f bytes → ((x : ImagePrefix) → StandsFor f.reader x → wants.End ≡ want_of x) → IsJudgedWhole T bytes (verdict_of f.tally)
answered_whole {T} f bytes h want =
    let w = want h.at.at h.at.stands in
    let same : bytes ≡ h.so_far = h.bytes_are ∙ ap (λ (k : ℕ). h.so_far ++ take k f.held) (none_held f bytes h w) ∙ append-nil h.so_far in
    subst (λ (l : List ℕ). IsJudgedWhole T l (verdict_of f.tally)) (sym same) (ended_whole f.reader f.tally h.so_far h.at (is_end f.reader h.at.at h.at.stands w))

is_whole : (r : LayoutReader) (x : ImagePrefix) → StandsFor r x → r.next ≡ stage.End → wants.End ≡ want_of x
is_whole r (Whole ps) h e = refl
is_whole r x h e = let n = h.kept.0 in absurd cc

pub answered_short : {T : List Finding → Type 0} (f : Feed) (bytes : List ℕ) (h : IsHeld T f bytes) → (wants.End ≡ want_of h.at.at → ⊥) → IsVerdictOn bytes true (answers.Layout faults.Short)
answered_short f bytes h never = elim h.rests [
  | inl cut ↦
      (let few = cut.few in
      let long = h.long in
      let len : length (take f.count f.held) ≡ f.count = omega (arith, length-take f.count f.held) in
      subst (λ (l : List ℕ). IsVerdictOn l true (answers.Layout faults.Short)) (sym h.bytes_are)
      (ended_short f.reader f.tally h.so_far (take f.count f.held) h.at (subst (λ (k : ℕ). IsCut f.reader k) (sym len) cut)))
  | inr end ↦ absurd (never (is_whole f.reader h.at.at h.at.stands end.0))
]

after_fault : (T : List Finding → Type 0) (o : Option LayoutFault) (f : Feed) (before more : List ℕ) → is_some o ≡ true → IsFedBy T o f before → IsFedBy T o f (before ++ more)
after_fault T None f before more e h = absurd cc
after_fault T (Some k) f before more e h = (fault_more before more k h.0, h.1)

pub fed_after_fault : (T : List Finding → Type 0) (f : Feed) (before more : List ℕ) → is_some f.fault ≡ true → IsFedFinding T f before → IsFedFinding T f (before ++ more)
fed_after_fault T f before more e h = after_fault T f.fault f before more e h

pub no_fault : (o : Option LayoutFault) → is_some o ≡ false → o ≡ None
no_fault None e = refl
no_fault (Some k) e = absurd cc

-- and what it holds then
pub held_without_fault : {T : List Finding → Type 0} (f : Feed) (bytes : List ℕ) {some : Bool} → some ≡ is_some f.fault → some ≡ false → IsFedFinding T f bytes → IsHeld T f bytes
held_without_fault f bytes told none h = fed_held f bytes (no_fault f.fault (sym told ∙ none)) h

pub fault_is_some : (o : Option LayoutFault) → is_some o ≡ true → o ≡ None → ⊥
fault_is_some None t e = cc
fault_is_some (Some k) t e = cc

pub cut_held : {T : List Finding → Type 0} (f : Feed) (bytes : List ℕ) → IsHeld T f bytes → (f.count ≡ 0 → ⊥) → IsCut f.reader f.count
cut_held f bytes h some = elim h.rests [ inl cut ↦ cut | inr end ↦ absurd (some end.1) ]

pub few_held : {T : List Finding → Type 0} (f : Feed) (bytes : List ℕ) → IsHeld T f bytes → f.count < 28
few_held f bytes h = elim h.rests [ inl cut ↦ cut.few | inr end ↦ (let none = end.1 in omega arith) ]

pub joined_is : (count more : ℕ) (held bytes ys rest : List ℕ) → count ≤ length held → more ≤ length bytes → ys ≡ take more bytes
    → take (count + more) (take count held ++ (ys ++ rest)) ≡ take count held ++ take more bytes
joined_is count more held bytes ys rest room few is =
    let front = take count held ++ take more bytes in
    let len : length front ≡ count + more = omega (arith, length-append (take count held) (take more bytes), length-take count held, length-take more bytes) in
    rw (is) (ap (λ (l : List ℕ). take (count + more) l) (sym (append_assoc (take count held) (take more bytes) rest))
    ∙ ap (λ (k : ℕ). take k (front ++ rest)) (sym len) ∙ take-append_seam front rest)

-- ---- fewer bytes than come next

pub less_field : (x : ImagePrefix) (len count : ℕ) → wants.Field len ≡ want_of x → IsLess count (want_of x) → count < len
less_field x len count w h = subst (λ (v : Want). IsLess count v) (sym w) h

pub less_bundle : (x : ImagePrefix) (w : Want) (count : ℕ) → w ≡ want_of x → IsLess count (want_of x) → IsLess count w
less_bundle x w count e h = subst (λ (v : Want). IsLess count v) (sym e) h
