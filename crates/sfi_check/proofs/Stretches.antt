-- A stretch of bundles more: its findings, and the tally with them.
use Rattle.sfi_check.proofs.Prelude.{◌≡◌, ◌==◌, ℕ, zero, suc, ◌+◌, ◌-◌, ◌*◌, ◌/◌, ◌<◌, ◌≤◌, Bool, false, cond, List, [], ◌∷◌, ◌++◌, length, take, drop, refl, sym, ap, ◌∙◌, subst, arith, eq-eqb, ne_eqb, append_assoc, length-append, length-take, take-append_seam, Gate, is_gate_of, ImagePrefix, IsStretchLength, IsRightPrefix, want_of, Follows, LayoutReader, StandsFor, Leads, BundlePlace, Finding, Tally, part_of, block_bundle, AreFoundUpTo, AddsFindings, Counts, owed_after, AreFindingsSoFar, IsSoFar, IsStretch, AreFoundInStretch, Tallies, findings_most, stretch_place, Fields, Part, All, IsRightPart, bundle_count, Empty, AfterMagic, AfterCount, InGates, InCode, InInit, ◌^◌}
use Rattle.std.specs.Prelude.{min, ◌%◌}
use Rattle.std.proofs.lemmas.List.Elements.{All-head, All-tail}
use Rattle.std.proofs.lemmas.List.Sums.{sum_by-cons}
use Rattle.sfi_image.specs.Prefixes.{IsOpened}
use Rattle.sfi_image.specs.Prefixes.ImagePrefix.{Whole}
use Rattle.sfi_image.proofs.Formats.{code_at_most}
use Rattle.sfi_image.proofs.Standing.{region}
use Rattle.sfi_check.specs.Feeds.{bundles_most, front_bundles}
use Rattle.sfi_image.specs.declared.want.Want.TheVariants as wants
use Rattle.sfi_rules.specs.declared.owed.Owed.{Owed}
use Rattle.sfi_rules.specs.declared.owed.Owed.TheVariants.{Nothing}
use Rattle.sfi_scan.proofs.Stretches.{front_bundle, rest_bundle}
use Rattle.sfi_scan.proofs.WordStretches.{found_in_part}
use Rattle.sfi_check.proofs.Tallying.{Adds, code_tallies}
use Rattle.sfi_check.proofs.Leading.{bundle_within, in_code, joined, place_at}

-- the tally with `n` bundles more, then with their findings, and then with what is owed
pub adds_of : (t u v w : Tally) (sandbox n : ℕ) (found : List Finding) (next : Owed) → u ≡ record t { sandboxes = sandbox + 1; bundles = t.bundles + n } → AddsFindings u v found → w ≡ record v { owed = next } → length found ≤ findings_most * n
    → Adds t w sandbox n found
adds_of t u v w sandbox n found next is a kept few =
    let b = subst (λ (x : Tally). AddsFindings x v found) is a in
    rw kept (record { sandboxes = b.sandboxes; bundles = b.bundles; count = b.count; few = few; first = b.first })

-- ---- what comes next

-- code in some format is so small
stretch_small : (x : ImagePrefix) (most : ℕ) → IsRightPrefix x → IsStretchLength x most → most ≤ 2 ^ 24
stretch_small (InCode n ps f gs code) most right is =
    let inside = is.bundles.inside in
    let size = (region ps f right.0.words right.0.passed).code_size in
    omega (arith, inside, size)
stretch_small Empty most right is = omega (arith, is)
stretch_small (AfterMagic format) most right is = omega (arith, is)
stretch_small (AfterCount format n ps) most right is = omega (arith, is)
stretch_small (InGates n ps f gs) most right is = omega (arith, is)
stretch_small (InInit n ps f gs code init) most right is = omega (arith, is)
stretch_small (Whole ps) most right is = omega (arith, is)

-- ---- how many bundles there are

parts_few : (ps : List Part) → All IsRightPart ps → bundle_count ps ≤ 2 ^ 20 * length ps
parts_few [] right = omega arith
parts_few (p ∷ ps) right =
    let most = (All-head IsRightPart p ps right).code_placed.at_most in
    let limit = code_at_most p.format in
    let one : bundle_count (p ∷ ps) ≡ length p.code / 16 + bundle_count ps = sum_by-cons (λ (q : Part). length q.code / 16) p ps in
    omega (arith, one, most, limit, parts_few ps (All-tail IsRightPart p ps right))

opened_few : (n : ℕ) (ps : List Part) (f : Fields) (gs : List Gate) (code : List ℕ) → IsOpened n ps f gs → length code ≤ f.code_size → bundle_count ps + length code / 16 ≤ bundles_most
opened_few n ps f gs code o le =
    let size = (region ps f o.words o.passed).code_size in
    omega (arith, o.before.at_most, o.more, parts_few ps o.before.right.each, size, le)

front_few : (x : ImagePrefix) → IsRightPrefix x → front_bundles x ≤ bundles_most
front_few Empty right = omega arith
front_few (AfterMagic format) right = omega arith
front_few (AfterCount format n ps) right = omega (arith, right.0.at_most, right.1, parts_few ps right.0.right.each)
front_few (InGates n ps f gs) right = omega (arith, right.0.before.at_most, right.0.more, parts_few ps right.0.before.right.each)
front_few (InCode n ps f gs code) right = opened_few n ps f gs code right.0 (omega (arith, right.3))
front_few (InInit n ps f gs code init) right = opened_few n ps f gs code right.0 (omega (arith, right.2))
front_few (Whole ps) right = omega (arith, right.at_most, parts_few ps right.right.each)

-- the bytes are `n` whole bundles, at most `most` bytes and as many as code has, and a stretch
pub record IsTaken (most : ℕ) (b : BundlePlace) (bytes : List ℕ) (n : ℕ) : Type 0 where
  pub some : 1 ≤ n
  pub le : 16 * n ≤ most
  pub few : n ≤ 2 ^ 20
  pub stretch : IsStretch b bytes n

pub stretch_taken : (x : ImagePrefix) (b : BundlePlace) (most len : ℕ) (rest : List ℕ) → IsRightPrefix x → wants.Bundle b ≡ want_of x → IsStretchLength x most → len ≡ min most (length rest - length rest % 16) → 0 < len
    → IsTaken most b (take len rest) (len / 16)
stretch_taken x b most len rest right w is e some =
    let i = in_code x b w in
    let within = bundle_within x b right w in
    let at = ap (λ (p : BundlePlace). p.address) i.place_is in
    let base = ap (λ (p : BundlePlace). p.code_base) i.place_is in
    let size = ap (λ (p : BundlePlace). p.code_size) i.place_is in
    let long = rw (i.front_is) at is in
    let inside = long.bundles.inside in
    let whole = long.bundles.whole in
    let less = (rw (i.front_is) at right).3 in
    let cut = length-take len rest in
    let low = within.base in
    let limit = within.addresses in
    record {
      some = omega arith;
      le = omega arith;
      few = let small = stretch_small x most right is in omega arith;
      stretch = record { whole = omega arith; base = low; end = omega arith; addresses = limit };
    }

-- ---- findings

-- the place of a stretch's bundle, by the code before it
place_in : (sandbox : ℕ) (f : Fields) (gs : List Gate) (a at m : ℕ) → at ≡ a + 16 * m → (0 < m → is_gate_of gs (a + 16 * m) ≡ false)
    → stretch_place (place_at sandbox f gs a) m ≡ place_at sandbox f gs at
place_in sandbox f gs a at zero e free = let same : at ≡ a = omega arith in rw (same) refl
place_in sandbox f gs a at (suc m) e free = rw (e, free (omega arith)) refl

-- where code begins, nothing is owed
begins : (base len : ℕ) → (base + len == base) ≡ (len == 0)
begins base zero = eq-eqb (base + 0) base (let e : base + 0 ≡ base = omega arith in e)
begins base (suc n) = ne_eqb (base + suc n) base (λ e. omega arith) ∙ sym (ne_eqb (suc n) 0 (λ e. omega arith))

-- after some code, what the tally keeps is owed
some_owed : (code s : List ℕ) (kept : Owed) → 0 < length s → owed_after (code ++ s) kept ≡ kept
some_owed code s kept some = rw (ne_eqb (length (code ++ s)) 0 (λ e. omega (arith, length-append code s))) refl

stretch_more : (sandbox : ℕ) (f : Fields) (gs : List Gate) (code s : List ℕ) (here : List Finding) (kept next : Owed) (n : ℕ) (found : List Finding) → AreFindingsSoFar sandbox f gs code here kept
    → 0 < n → length s ≡ 16 * n → ((i : ℕ) → 0 < i → i < n → is_gate_of gs (f.code_base + length code + 16 * i) ≡ false)
    → AreFoundInStretch (place_at sandbox f gs (f.code_base + length code)) (owed_after code kept) s n found next
    → AreFindingsSoFar sandbox f gs (code ++ s) (here ++ found) next
stretch_more sandbox f gs code s here kept next n found so_far some len plain are = record {
  bundles = so_far.bundles + n;
  len = omega (arith, so_far.len, length-append code s);
  found_are = λ more init size.
      let p = part_of f gs ((code ++ s) ++ more) init in
      let k = so_far.bundles in
      let b = place_at sandbox f gs (f.code_base + length code) in
      let same : code ++ (s ++ more) ≡ (code ++ s) ++ more = sym (append_assoc code s more) in
      let before : AreFoundUpTo sandbox p k here (owed_after code kept) =
      subst (λ (c : List ℕ). AreFoundUpTo sandbox (part_of f gs c init) k here (owed_after code kept)) same (so_far.found_are (s ++ more) init (ap length same ∙ size)) in
      let rest : drop (16 * k) ((code ++ s) ++ more) ≡ s ++ more = ap (drop (16 * k)) (sym same) ∙ ap (λ (m : ℕ). drop m (code ++ (s ++ more))) (sym so_far.len) ∙ drop_seam code (s ++ more) in
      let front : take (16 * n) (s ++ more) ≡ s = ap (λ (m : ℕ). take m (s ++ more)) (sym len) ∙ take-append_seam s more in
      subst (λ (o : Owed). AreFoundUpTo sandbox p (k + n) (here ++ found) o) (sym (some_owed code s next (omega arith)))
      (found_in_part sandbox p b s k n here found (owed_after code kept) next refl
      (λ i less. place_in sandbox f gs (f.code_base + length code) (f.code_base + 16 * (k + i)) i (omega (arith, so_far.len)) (λ first. plain i first less)
      ∙ ap (λ (z : ℕ). record (place_at sandbox f gs (f.code_base + 16 * (k + i))) { code_size = z }) (sym size))
      (λ i less. ap (λ (l : List ℕ). block_bundle l i) (sym front) ∙ front_bundle n i (s ++ more) less ∙ ap (λ (l : List ℕ). block_bundle l i) (sym rest) ∙ rest_bundle k i ((code ++ s) ++ more))
      before are);
}
  where
    drop_seam : (xs ys : List ℕ) → drop (length xs) (xs ++ ys) ≡ ys
    drop_seam [] ys = refl
    drop_seam (x ∷ xs) ys = drop_seam xs ys

-- ---- a step

stretch_tallies : {T U : List Finding → Type 0} (old new : Tally) (x : ImagePrefix) (s : List ℕ) (y : ImagePrefix) (b : BundlePlace) (most n : ℕ) (found : List Finding) (owed : Owed)
    → wants.Bundle b ≡ want_of x → IsStretchLength x most → 16 * n ≤ most → 0 < n → length s ≡ 16 * n → Follows x s y → owed ≡ cond (b.address == b.code_base) Nothing old.owed → AreFoundInStretch b owed s n found new.owed
    → Adds old new b.sandbox n found → ((before : List Finding) → T before → U (before ++ found)) → Tallies T old x → Tallies U new y
stretch_tallies {T = T} old new x s y b most n found owed w is le some len h before are adds on k =
    let i = in_code x b w in
    let ps = i.before in
    let f = i.fields in
    let gs = i.gates in
    let code = i.code in
    let place = place_at (length ps) f gs (f.code_base + length code) in
    let long = subst (λ (z : ImagePrefix). IsStretchLength z most) i.front_is is in
    let begin : (b.address == b.code_base) ≡ (length code == 0) = ap (λ (p : BundlePlace). p.address == p.code_base) i.place_is ∙ begins f.code_base (length code) in
    let before' : owed ≡ owed_after code old.owed = before ∙ ap (λ (z : Bool). cond z Nothing old.owed) begin in
    let are' = subst (λ (o : Owed). AreFoundInStretch place o s n found new.owed) before' (subst (λ (p : BundlePlace). AreFoundInStretch p owed s n found new.owed) i.place_is are) in
    rw (subst (λ (z : ImagePrefix). Follows z s y) i.front_is h) (code_tallies old new i.count ps f gs code s n found some len
    (λ here so_far. stretch_more (length ps) f gs code s here old.owed new.owed n found so_far some len (λ j first less. long.unlisted j first (omega arith)) are')
    (subst (λ (p : BundlePlace). Adds old new p.sandbox n found) i.place_is adds) on (subst (λ (z : ImagePrefix). Tallies T old z) i.front_is k))

pub stretch_step : {T U : List Finding → Type 0} (old new : LayoutReader) (t u v w : Tally) (so_far s : List ℕ) (b : BundlePlace) (most n : ℕ) (found : List Finding) (owed next : Owed)
    → ((x : ImagePrefix) → StandsFor old x → wants.Bundle b ≡ want_of x) → ((x : ImagePrefix) → StandsFor old x → IsStretchLength x most) → 16 * n ≤ most → 0 < n → length s ≡ 16 * n
    → owed ≡ cond (b.address == b.code_base) Nothing t.owed → AreFoundInStretch b owed s n found next → length found ≤ findings_most * n → u ≡ record t { sandboxes = b.sandbox + 1; bundles = t.bundles + n } → Counts u v found → w ≡ record v { owed = next }
    → ((x : ImagePrefix) → StandsFor old x → Leads x s new) → ((before : List Finding) → T before → U (before ++ found)) → IsSoFar T old t so_far → IsSoFar U new w (so_far ++ s)
stretch_step old new t u v w so_far s b most n found owed next wanted stretch le some len before are few is counts kept leads on h =
    let l = leads h.at h.stands in
    let tallied = h.tallies.few in
    let room = h.few in
    let small = stretch_small h.at most h.stands.right (stretch h.at h.stands) in
    let count : u.count ≡ t.count = ap (λ (x : Tally). x.count) is in
    let adds = adds_of t u v w b.sandbox n found next is (counts (omega arith)) kept few in
    let after : w.owed ≡ next = ap (λ (x : Tally). x.owed) kept in
    let tallied_on = stretch_tallies t w h.at s l.to b most n found owed (wanted h.at h.stands) (stretch h.at h.stands) le some len l.follows before (subst (λ (o : Owed). AreFoundInStretch b owed s n found o) (sym after) are) adds on h.tallies in
    record {
      at = l.to;
      stands = l.stands;
      bytes_are = joined so_far h.at s l.to h.bytes_are l.bytes;
      tallies = tallied_on;
      few = omega (arith, tallied_on.bundles, front_few l.to l.stands.right);
    }
