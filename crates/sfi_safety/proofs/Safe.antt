-- Code without a finding runs safely, whatever its format, with direct gates too.
use Rattle.sfi_safety.proofs.Prelude.{◌≡◌, ℕ, ◌+◌, ◌*◌, ◌%◌, ◌≤◌, ◌⊎◌, List, length, sym, ap, ◌∙◌, subst, inl, inr, arith, Instr, Ecall, address_after, Outcome, Next, State, Stepped, Stands, IsStep, unit, Part, IsUnitStart, IsTyped, KeepsBytes, AreCleanBundles, ⊎_elim, drop, zero, suc, [], ◌∷◌, Bool, true, false, refl, All, has_words, AreApart, code_region, guarded_region, AreRight, Finding, AreFindings, AreFindingsFrom, RunsSafely, AllRunSafely, IsCleanPart, CleanRunsSafely, CleanCallsTyped, IsClean, MayRun}
use Rattle.sfi_safe_runs.specs.Runs.{KeepsReserved, Zones, Empty, Padded, Calls, ByEcall, Direct, Setting, plain, by_ecall, KeepsBytesAs}
use Rattle.sfi_safe_runs.specs.Safety.{RunsSafelyAs}
use Rattle.sfi_safe_runs.specs.Calling.{CallsTyped, CallsTypedAs, AllCallTyped}
use Rattle.sfi_safe_runs.proofs.SafeRuns.{kept_after}
use Rattle.sfi_safe_runs.proofs.Stepping.{bundles_may_be}
use Rattle.sfi_safe_runs.proofs.Entries.{bundles, to_bundle, of_bundle, words as unit_is_word, to_word, of_word}
use Rattle.sfi_word_safety.proofs.Places.{bundles_whole, at_start as at_word_start, base_aligned, sized}
use Rattle.sfi_safety.specs.Laws.{MayRunWith, CleanRunsSafelyAs, CleanCallsTypedAs}
use Rattle.sfi_safety.specs.Places.{IsGoodAs}
use Rattle.sfi_safety.proofs.Direct.{runs_and_calls}
use Rattle.sfi_safety.proofs.Effects.{GoesTo, Leads}
use Rattle.sfi_safety.proofs.Places.{at_start, here_within, nothing_before}
use Rattle.sfi_safety.proofs.Stepping as standing
use Rattle.sfi_safety.proofs.Stepping.{step_leads}
use Rattle.sfi_word_safety.specs.Code.{IsCleanInWords, IsGoodInWords}
use Rattle.sfi_word_safety.proofs.Effects.{Leads as WordLeads}
use Rattle.sfi_word_safety.proofs.Facts.{turn_keeps as words_turn_keeps}
use Rattle.sfi_word_safety.proofs.Stepping.{only, step_leads as word_step_leads, place_replied, good_calls as good_words_call}
use Rattle.sfi_rules.proofs.Facts.{in_bundles, in_words}
use Rattle.sfi_image.proofs.ClearZones.{others_right}
use Rattle.sfi_word_safety.specs.Code as words
use Rattle.sfi_word_safety.proofs.Facts as words_facts

-- in this setting every run is safe, and every call made with the typed registers as their types say
abbrev IsSafeAs : Setting → Part → Type 0
IsSafeAs t p = RunsSafelyAs t p × CallsTypedAs t p

-- ==== Code in bundles that breaks no rule runs safely with direct gates.

-- ---- a good state

module _ (zones : Zones) (sandbox : ℕ) (p : Part) (clean : AreCleanBundles sandbox p) (s : State) (i : Instr) (n : ℕ) (good : IsGoodAs zones sandbox p s) (stands : Stands s i n) where
  size_is : n ≡ good.place.here.size
  size_is = (standing.only sandbox p s clean good.place good.kept.code i n stands).1

  -- the instruction fits into its bundle
  fits : s.hart.pc % unit p.format + n ≤ unit p.format
  fits =
      let base : p.code_base % 16 ≡ 0 = (bundles_whole p clean.right).0 in
      let pc : s.hart.pc ≡ p.code_base + 16 * good.place.number + good.place.offset = good.place.pc in
      let within : good.place.offset + good.place.here.size ≤ 16 = here_within sandbox p s.hart clean good.place in
      let size : n ≡ good.place.here.size = size_is in
      let sixteen : s.hart.pc % 16 + n ≤ 16 = omega arith in
      subst (λ (u : ℕ). s.hart.pc % u + n ≤ u) (sym (bundles p.format clean.bundles)) sixteen

  pub goes : (r : Stepped) → IsStep s r → r.outcome ≡ Next → (r.state.hart.pc ≡ address_after s.hart.pc n) ⊎ IsUnitStart p r.state.hart.pc
  goes r step done = by (subst (λ (o : Outcome). Leads sandbox p s.hart good.place.here.size o r.state.hart) done (step_leads zones sandbox p s clean good r step)).1
    where
      by : GoesTo p s.hart good.place.here.size r.state.hart.pc → (r.state.hart.pc ≡ address_after s.hart.pc n) ⊎ IsUnitStart p r.state.hart.pc
      by (inl on) = inl (on ∙ ap (λ (k : ℕ). address_after s.hart.pc k) (sym size_is))
      by (inr start) = inr (of_bundle p r.state.hart.pc clean.bundles start)

-- a reply, whatever its memory but the code and the guard zones
replied : (zones : Zones) (sandbox : ℕ) (p : Part) (clean : AreCleanBundles sandbox p) (s : State) (n : ℕ) → IsGoodAs zones sandbox p s → Stands s Ecall n → (after : State) → after.hart.pc ≡ address_after s.hart.pc 4 → length after.hart.registers ≡ 32 → KeepsReserved p.format s.hart after.hart → IsTyped p after.hart.registers → KeepsBytesAs (by_ecall zones) p s.memory after.memory → IsGoodAs zones sandbox p after
replied zones sandbox p clean s n good asked after pc count reserved typed bytes = record {
  kept = kept_after zones p s after good.kept count reserved bytes;
  place = standing.place_replied sandbox p s clean good.place good.kept.code good.kept.count good.kept.reserved after.hart n asked pc typed;
}

bundles_directly : (zones : Zones) (sandbox : ℕ) (p : Part) → AreCleanBundles sandbox p → (direct : List ℕ) → IsSafeAs (record { zones = zones; calls = Direct direct }) p
bundles_directly zones sandbox p clean direct =
    runs_and_calls p clean.right direct clean.apart zones (bundles_may_be zones p clean.bundles) (IsGoodAs zones sandbox p)
    (λ s kept start typed. record { kept = kept; place = at_start sandbox p s.hart clean (to_bundle p s.hart.pc clean.bundles start) typed.stack })
    (λ s turn good h. standing.keeps zones sandbox p clean s good turn h)
    (λ s after n good asked pc count reserved typed bytes. replied zones sandbox p clean s n good asked after pc count reserved typed bytes)
    (λ s i n good stands. fits zones sandbox p clean s i n good stands)
    (λ s i n r good stands step done. goes zones sandbox p clean s i n good stands r step done)
    (λ s n good stands. standing.calls zones sandbox p clean s good n stands)

-- code in bundles is safe in every setting
bundles_safe : (zones : Zones) (calls : Calls) (sandbox : ℕ) (p : Part) → AreCleanBundles sandbox p → IsSafeAs (record { zones = zones; calls = calls }) p
bundles_safe zones ByEcall sandbox p clean = (standing.bundles_run zones sandbox p clean, standing.bundles_call zones sandbox p clean)
bundles_safe zones (Direct direct) sandbox p clean = bundles_directly zones sandbox p clean direct

-- ==== Code in words that breaks no rule runs safely with direct gates.

module _ (p : Part) (clean : IsCleanInWords p) (s : State) (i : Instr) (n : ℕ) (good : IsGoodInWords p s) (stands : Stands s i n) where
  word_size_is : n ≡ good.place.place.here.size
  word_size_is = (only p s clean good i n stands).1

  -- the instruction word_fits into its word
  word_fits : s.hart.pc % unit p.format + n ≤ unit p.format
  word_fits =
      let at = good.place in
      let base : p.code_base % 4 ≡ 0 = base_aligned p clean in
      let pc : s.hart.pc ≡ p.code_base + at.offset = at.pc in
      let even : at.offset % 2 ≡ 0 = at.even in
      let size : n ≡ at.place.here.size = word_size_is in
      let four : s.hart.pc % 4 + n ≤ 4 =
      ⊎_elim
      (λ (two : at.place.here.size ≡ 2). omega arith)
      (λ (whole : (at.place.here.size ≡ 4) × (at.offset % 4 ≡ 0)). let f = whole.0 in let g = whole.1 in omega arith)
      (sized p (drop at.offset p.code) at.offset at.place.here base at.place.reading.0 at.place.none.0.width) in
      subst (λ (u : ℕ). s.hart.pc % u + n ≤ u) (sym (unit_is_word p.format clean.words)) four

  pub word_goes : (r : Stepped) → IsStep s r → r.outcome ≡ Next → (r.state.hart.pc ≡ address_after s.hart.pc n) ⊎ IsUnitStart p r.state.hart.pc
  word_goes r step done = by (subst (λ (o : Outcome). WordLeads p good.place.place.here.instr good.place.place.here.size s.hart o r.state.hart) done (word_step_leads p s clean good r step))
    where
      by : WordLeads p good.place.place.here.instr good.place.place.here.size s.hart Next r.state.hart → (r.state.hart.pc ≡ address_after s.hart.pc n) ⊎ IsUnitStart p r.state.hart.pc
      by (inl (on, flows)) = inl (on ∙ ap (λ (k : ℕ). address_after s.hart.pc k) (sym word_size_is))
      by (inr (start, flow)) = inr (of_word p r.state.hart.pc clean.words start)

-- a reply, whatever its memory but the code and the guard zones
word_replied : (p : Part) (clean : IsCleanInWords p) (s : State) (n : ℕ) → IsGoodInWords p s → Stands s Ecall n → (after : State) → after.hart.pc ≡ address_after s.hart.pc 4 → length after.hart.registers ≡ 32 → KeepsReserved p.format s.hart after.hart → IsTyped p after.hart.registers → KeepsBytes p s.memory after.memory → IsGoodInWords p after
word_replied p clean s n good asked after pc count reserved typed bytes = record {
  kept = kept_after Empty p s after good.kept count reserved bytes;
  place = place_replied p clean s good after.hart n asked pc typed;
}

words_directly : (p : Part) → IsCleanInWords p → (direct : List ℕ) → IsSafeAs (record { zones = Empty; calls = Direct direct }) p
words_directly p clean direct =
    runs_and_calls p clean.right direct clean.apart Empty tt (IsGoodInWords p)
    (λ s kept start typed. record { kept = kept; place = at_word_start p clean s.hart (to_word p s.hart.pc clean.words start) (typed.words clean.words) })
    (λ s turn good h. words_turn_keeps p s turn clean good h)
    (λ s after n good asked pc count reserved typed bytes. word_replied p clean s n good asked after pc count reserved typed bytes)
    (λ s i n good stands. word_fits p clean s i n good stands)
    (λ s i n r good stands step done. word_goes p clean s i n good stands r step done)
    (λ s n good stands. good_words_call p s n clean good stands)

-- code in words is safe in every setting whose guard zones are empty
words_safe : (calls : Calls) (p : Part) → IsCleanInWords p → IsSafeAs (record { zones = Empty; calls = calls }) p
words_safe ByEcall p clean = (words_facts.clean_runs_safely p clean, words_facts.clean_calls_typed p clean)
words_safe (Direct direct) p clean = words_directly p clean direct

-- ==== Every sandbox without a finding runs safely, whatever its format, and so does each of a clean image.

-- ---- a sandbox

clean_bundles : (sandbox : ℕ) (p : Part) → IsCleanPart sandbox p → has_words p.format ≡ false → AreCleanBundles sandbox p
clean_bundles sandbox p clean none = record { bundles = none; right = clean.right; apart = clean.apart; none_found = in_bundles sandbox p [] none clean.none_found }

clean_words : (sandbox : ℕ) (p : Part) → IsCleanPart sandbox p → has_words p.format ≡ true → words.IsCleanInWords p
clean_words sandbox p clean has = record {
  words = has;
  right = clean.right;
  apart = clean.apart;
  clean = (words_facts.finds_what_is_broken sandbox p [] clean.right (in_words sandbox p [] has clean.none_found)).0 refl;
}

clean_safe : (zones : Zones) (calls : Calls) (sandbox : ℕ) (p : Part) → MayRunWith zones p → IsCleanPart sandbox p → IsSafeAs (record { zones = zones; calls = calls }) p
clean_safe Empty calls sandbox p may clean = by (has_words p.format) refl
  where
    by : (b : Bool) → has_words p.format ≡ b → IsSafeAs (record { zones = Empty; calls = calls }) p
    by true has = words_safe calls p (clean_words sandbox p clean has)
    by false none = bundles_safe Empty calls sandbox p (clean_bundles sandbox p clean none)
clean_safe Padded calls sandbox p none clean = bundles_safe Padded calls sandbox p (clean_bundles sandbox p clean none)

pub clean_runs_as : CleanRunsSafelyAs
clean_runs_as t sandbox p may clean = (clean_safe t.zones t.calls sandbox p may clean).0

pub clean_calls_as : CleanCallsTypedAs
clean_calls_as t sandbox p may clean = (clean_safe t.zones t.calls sandbox p may clean).1

pub clean_runs : CleanRunsSafely
clean_runs sandbox p clean = clean_runs_as plain sandbox p tt clean

pub clean_calls : CleanCallsTyped
clean_calls sandbox p clean = clean_calls_as plain sandbox p tt clean

-- ---- an image

-- the first sandbox's code lies apart from its data and guards, and the others are right too
first_apart : (p : Part) (ps : List Part) → AreRight (p ∷ ps) → AreApart (code_region p) (guarded_region p)
first_apart p ps right = right.apart 0 1 (code_region p) (omega arith) (omega arith)

-- what holds of every sandbox without a finding holds of each
each_clean : (Q : Part → Type 0) → ((sandbox : ℕ) (p : Part) → IsCleanPart sandbox p → Q p) → (sandbox : ℕ) (ps : List Part) (found : List Finding) → AreRight ps → found ≡ [] → AreFindingsFrom sandbox ps found → All Q ps
each_clean Q each sandbox [] found right none h k d below = absurd (omega arith)
each_clean Q each sandbox (p ∷ ps) found right none h zero d below =
    let both = nothing_before h.0 h.1 (sym h.4 ∙ none) in
    each sandbox p (record {
      right = right.each 0 d below;
      apart = first_apart p ps right;
      none_found = subst (λ (l : List Finding). AreFindings sandbox p l) both.0 h.2;
    })
each_clean Q each sandbox (p ∷ ps) found right none h (suc k) d below =
    let both = nothing_before h.0 h.1 (sym h.4 ∙ none) in
    each_clean Q each (sandbox + 1) ps h.1 (others_right p ps right) both.1 h.3 k d (omega (arith, below))

pub all_safe : (ps : List Part) → IsClean ps → AllRunSafely ps
all_safe ps clean = record { each = each_clean RunsSafely clean_runs 0 ps [] clean.layout.right refl clean.none_found }

pub all_call : (ps : List Part) → IsClean ps → AllCallTyped ps
all_call ps clean = record { each = each_clean CallsTyped clean_calls 0 ps [] clean.layout.right refl clean.none_found }

pub may_run : (ps : List Part) → IsClean ps → MayRun ps
may_run ps clean = record { clean = clean; safe = all_safe ps clean; calls = all_call ps clean }
