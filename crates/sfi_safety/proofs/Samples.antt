-- The samples: their layout, their image, where they are entered, and their steps.
use Rattle.sfi_safety.proofs.Prelude.{◌≡◌, ℕ, zero, suc, ◌+◌, ◌-◌, ◌*◌, ◌%◌, ◌^◌, ◌<◌, ◌≤◌, ◌⊎◌, List, [], ◌∷◌, ◌++◌, length, replicate, take, drop, Option, Some, inl, inr, refl, sym, ap, subst, ◌∙◌, arith, get_or, get_or-drop, get_or-take, slice_index, true, false, nat_lt, All, list_all, and_parts, ltb-true, Instr, Ebreak, Spells, Format, Sfi1, Sfi2, Sfiw, Sfis, has_words, code_most, data_most, Bytes, byte_at, bytes_at, addresses, address_after, Accesses, Hart, IsHart, State, Stepped, Stands, IsStep, effect, next, unchanged, Call, AreGates, Part, AreGateWords, AreApart, code_region, guarded_region, IsBundleStart, IsRightPart, IsRightLayout, AreOf, Finding, AreFindings, AreFindingsInBundles, InData, InGuard, IsGate, HasReserved, HasCode, IsUnitStart, IsTyped, Turn, Steps, IsEntry, IsRun, IsTurn, after_turn, after_step, IsSafeRun, HasOneFinding, HasUnsafeRun, IsNeeded, BreaksNoOther, BreaksAloneInBundle, Bool, false≢true, Sample, sandbox, bytes_of, words_of, Rule, InCode, unit, BreaksAlone, BreaksAloneInWord}
use Rattle.sfi_formats.specs.Formats.{has_single_mask}
use Rattle.rv_comp.specs.declared.front.Front.TheVariants.{Read}
use Rattle.sfi_image.specs.declared.span.Span.{Span}
use Rattle.sfi_formats.specs.Limits.{gates_most}
use Rattle.sfi_formats.proofs.Facts.{limits_have_room}
use Rattle.std.proofs.Common.{length-append, length-take, length-drop}
use Rattle.sfi_safe_runs.proofs.Facts.{can_be_entered}
use Rattle.sfi_safe_runs.proofs.Entries.{bundles as bundle_unit, bundles_two_steps, two_step_mask, of_bundle, of_stack}
use Rattle.sfi_safe_runs.proofs.Stepping.{read_all}
use Rattle.sfi_rules.proofs.Findings.{of_bundles}
use Rattle.std.specs.Prelude.{MatchBool}
use Rattle.sfi_image.specs.Parts.{reserved_of}
use Rattle.sfi_image.specs.Spelling.{spans, data_region, zone_end, zone_ends, IsClear, AreClear, InZoneAtZero}
use Rattle.std.proofs.lemmas.List.Elements.{All-nil, All-from_recursion}

-- ---- the samples' layout

-- what is asked of a sample
pub record IsSample (s : Sample) : Type 0 where
  pub first_words : length s.first_words ≡ 8
  pub last_words : length s.last_words ≡ 4
  pub words : All AreGateWords s.gates
  pub few : length s.gates ≤ gates_most
  pub gates : AreGates (record { base = 0x01000000; size = 256 }) s.gates

-- a sample without gates
pub without_gates : (s : Sample) → s.gates ≡ [] → length s.first_words ≡ 8 → length s.last_words ≡ 4 → IsSample s
without_gates s none first last =
    let empty : length s.gates ≡ 0 = ap length none in
    record {
      first_words = first;
      last_words = last;
      words = λ k d below. absurd (omega (arith, empty, below));
      few = omega (arith, empty);
      gates = record {
        starts = λ k d below. absurd (omega (arith, empty, below));
        services = λ k d below. absurd (omega (arith, empty, below));
        ascending = λ i j d less below. absurd (omega (arith, empty, below));
      };
    }

bytes_length : (words : List ℕ) → length (bytes_of words) ≡ 4 * length words
bytes_length [] = refl
bytes_length (w ∷ words) = let rest = bytes_length words in omega (arith, rest)

pub size : (s : Sample) → IsSample s → length (sandbox s).code ≡ 256
size s is =
    let words = s.first_words ++ (words_of (replicate 52 Ebreak) ++ s.last_words) in
    let all = length-append s.first_words (words_of (replicate 52 Ebreak) ++ s.last_words) in
    let bytes = bytes_length words in
    let first = is.first_words in
    let last = is.last_words in
    omega (arith, all, bytes, first, last)

pub bytes_small : (words : List ℕ) (k : ℕ) → slice_index (bytes_of words) k < 256
bytes_small [] k = omega arith
bytes_small (w ∷ words) zero = omega arith
bytes_small (w ∷ words) (suc zero) = omega arith
bytes_small (w ∷ words) (suc (suc zero)) = omega arith
bytes_small (w ∷ words) (suc (suc (suc zero))) = omega arith
bytes_small (w ∷ words) (suc (suc (suc (suc k)))) = bytes_small words k

-- no region need be larger than this
code_at_least : (f : Format) → 256 ≤ code_most f
code_at_least f = let room = limits_have_room f in omega (arith, room.0, room.1)

data_at_least : (f : Format) → 256 ≤ data_most f
data_at_least f = let room = limits_have_room f in omega (arith, room.2, room.3)

module _ (s : Sample) (is : IsSample s) where
  pub right_part : IsRightPart (sandbox s)
  right_part =
      let size = size s is in
      let few = is.few in
      record {
        code_base = omega arith;
        code_placed = record { power = 8; size_is = size; at_least = omega (arith, size); at_most = omega (arith, size, code_at_least s.format); multiple = 65536; base_is = sym (ap (λ (n : ℕ). 65536 * n) size) };
        data_placed = record { power = 8; size_is = refl; at_least = omega arith; at_most = omega (arith, data_at_least s.format); multiple = 131072; base_is = refl };
        one_bit = λ one_step. record { power = 25; base_is = refl; no_lower = omega arith };
        guard_room = record { below = omega arith; above = omega arith };
        zone_room = λ one_step. record { code_above = omega arith; data_above = omega arith; code_below = omega (arith, size) };
        start = record { held = (omega arith, omega (arith, size)); aligned = refl };
        gate_count = few;
        init_len = omega arith;
        gates = subst (λ (n : ℕ). AreGates (record { base = 0x01000000; size = n }) s.gates) (sym size) is.gates;
      }

  pub apart : AreApart (code_region (sandbox s)) (guarded_region (sandbox s))
  apart a (low, high) (from, below) = let size = size s is in omega arith

  pairs_apart : (i j : ℕ) (d : Span) → i < j → j < 2 → AreApart (get_or (code_region (sandbox s) ∷ guarded_region (sandbox s) ∷ []) i d) (get_or (code_region (sandbox s) ∷ guarded_region (sandbox s) ∷ []) j d)
  pairs_apart zero (suc zero) d less below = apart
  pairs_apart zero zero d less below = absurd (omega arith)
  pairs_apart zero (suc (suc j)) d less below = absurd (omega arith)
  pairs_apart (suc i) zero d less below = absurd (omega arith)
  pairs_apart (suc i) (suc j) d less below = absurd (omega arith)

  -- both regions lie above a zone at zero, if its format has one
  clear : AreClear (zone_ends (sandbox s ∷ [])) (spans (sandbox s ∷ []))
  clear = by (has_single_mask s.format) refl
    where
      all_clear : AreClear (zone_end 256 ∷ []) (spans (sandbox s ∷ []))
      all_clear =
          let size = size s is in
          let code : IsClear (zone_end 256) (code_region (sandbox s)) = record { above = omega arith; below = omega (arith, size) } in
          let guarded : IsClear (zone_end 256) (guarded_region (sandbox s)) = record { above = omega arith; below = omega arith } in
          All-from_recursion (λ t. All (λ end. IsClear end t) (zone_end 256 ∷ [])) (spans (sandbox s ∷ []))
          (All-from_recursion (λ end. IsClear end (code_region (sandbox s))) (zone_end 256 ∷ []) (code, tt), (All-from_recursion (λ end. IsClear end (guarded_region (sandbox s))) (zone_end 256 ∷ []) (guarded, tt), tt))

      by : (b : Bool) → has_single_mask s.format ≡ b → AreClear (zone_ends (sandbox s ∷ [])) (spans (sandbox s ∷ []))
      by true one_step = let ends : zone_end 256 ∷ [] ≡ zone_ends (sandbox s ∷ []) = rw (one_step) refl in subst (λ (es : List ℕ). AreClear es (spans (sandbox s ∷ []))) ends all_clear
      by false two_steps = let none : [] ≡ zone_ends (sandbox s ∷ []) = rw (two_steps) refl in subst (λ (es : List ℕ). AreClear es (spans (sandbox s ∷ []))) none (λ k d lt. All-nil _)

  -- the layout of an image of it alone
  pub right_layout : IsRightLayout (sandbox s ∷ [])
  right_layout = record {
    at_least_one = omega arith;
    at_most = omega arith;
    one_format = one;
    right = record { each = only; apart = pairs_apart; clear = clear };
  }
    where
      one : AreOf s.format (sandbox s ∷ [])
      one zero d below = refl
      one (suc k) d below = absurd (omega arith)

      only : All IsRightPart (sandbox s ∷ [])
      only zero d below = right_part
      only (suc k) d below = absurd (omega arith)

  -- that image has the sandbox's one finding
  pub refused : (x : Finding) → AreFindings 0 (sandbox s) (x ∷ []) → HasOneFinding (sandbox s) x
  refused x found = record {
    image = record { bytes_are = refl; layout = right_layout };
    found_are = (x ∷ [], [], found, refl, refl);
  }

-- ---- entries

-- x1 and x10 are 240, the reserved registers but x26 have their values, and all others but x2 and x31 are 0
abbrev pub stack_hart : ℕ → ℕ → ℕ → ℕ → Hart
stack_hart x2 pc x26 x31 = record {
  pc = pc;
  registers = 0 ∷ 240 ∷ x2 ∷ replicate 7 0 ++ (240 ∷ (replicate 13 0 ++ (0x01000000 ∷ 240 ∷ x26 ∷ 255 ∷ 0 ∷ 0 ∷ 0 ∷ x31 ∷ [])));
}

-- x2 points to the data
abbrev pub hart : ℕ → ℕ → ℕ → Hart
hart pc x26 x31 = stack_hart 0x02000000 pc x26 x31

pub each_below : (n : ℕ) (xs : List ℕ) → 0 < n → list_all (λ x. nat_lt x n) xs ≡ true → (k : ℕ) → slice_index xs k < n
each_below n [] some h k = some
each_below n (x ∷ xs) some h zero = ltb-true x n (and_parts (nat_lt x n) (list_all (λ y. nat_lt y n) xs) h).0
each_below n (x ∷ xs) some h (suc k) = each_below n xs some (and_parts (nat_lt x n) (list_all (λ y. nat_lt y n) xs) h).1 k

pub is_hart : (pc : ℕ) → pc % 2 ≡ 0 → pc < 2 ^ 32 → IsHart (hart pc 0x02000000 0)
is_hart pc even fits = record {
  even = even;
  address = fits;
  count = refl;
  words = each_below (2 ^ 32) (hart pc 0x02000000 0).registers (omega arith) refl;
  zero = refl;
}

-- where a run begins
abbrev pub first : ℕ → Bytes → State
first pc m = record { hart = hart pc 0x02000000 0; memory = m }

-- a run may begin with such a hart
pub enters_with : (s : Sample) → IsSample s → (h : Hart) → IsHart h → IsUnitStart (sandbox s) h.pc → HasReserved (sandbox s).format (reserved_of (sandbox s)) h.registers → IsTyped (sandbox s) h.registers → (m : Bytes) × IsEntry (sandbox s) (record { hart = h; memory = m })
enters_with s is h hart start reserved typed = can_be_entered (sandbox s) h (right_part s is) (apart s is) (bytes_small (s.first_words ++ (words_of (replicate 52 Ebreak) ++ s.last_words))) hart start reserved typed

-- in code in bundles, at the bundle of that number
pub enters : (s : Sample) → IsSample s → has_words s.format ≡ false → (n : ℕ) → n < 16 → (m : Bytes) × IsEntry (sandbox s) (first (0x01000000 + 16 * n) m)
enters s is bundles n few =
    let size = size s is in
    let at = 0x01000000 + 16 * n in
    let start : IsBundleStart (code_region (sandbox s)) at = record { held = (omega arith, omega (arith, size)); aligned = omega arith } in
    let mask : length (sandbox s).code - unit s.format ≡ 240 = ap (λ (u : ℕ). length (sandbox s).code - u) (bundle_unit s.format bundles) ∙ ap (λ (n : ℕ). n - 16) size in
    let reserved : HasReserved (sandbox s).format (reserved_of (sandbox s)) (hart at 0x02000000 0).registers = record { code_base = refl; code_mask = sym mask; data_base = λ two. refl; data_mask = sym (two_step_mask s.format (data_region (sandbox s)) (bundles_two_steps s.format bundles)) } in
    enters_with s is (hart at 0x02000000 0) (is_hart at (omega arith) (omega arith)) (of_bundle (sandbox s) at bundles start) reserved (of_stack (sandbox s) (hart at 0x02000000 0).registers bundles (λ has. (omega arith, omega arith)))

-- ---- what stands there

module _ (s : Sample) (is : IsSample s) (m : Bytes) (code : HasCode (sandbox s) m) where
  pub bytes_there : (h : Hart) (at n : ℕ) → h.pc ≡ 0x01000000 + at → at + n ≤ 256 → bytes_at m (addresses h.pc n) ≡ Some (take n (drop at (sandbox s).code))
  bytes_there h at n pc within =
      let bytes = take n (drop at (sandbox s).code) in
      let size = size s is in
      let long : length bytes ≡ n = (let a = length-take n (drop at (sandbox s).code) in let b = length-drop at (sandbox s).code in omega (arith, a, b, size, within)) in
      subst (λ (k : ℕ). bytes_at m (addresses h.pc k) ≡ Some bytes) long (read_all m (address_after h.pc) 0 bytes (λ k below. each k (omega (arith, long, below))))
    where
      each : (k : ℕ) → k < n → byte_at m (address_after h.pc (0 + k)) ≡ Some (slice_index (take n (drop at (sandbox s).code)) k)
      each k few =
          let size = size s is in
          let e : address_after h.pc (0 + k) ≡ 0x01000000 + (at + k) = omega (arith, pc, within, few) in
          ap (byte_at m) e ∙ code (at + k) (omega (arith, within, few, size)) ∙ ap Some (sym (get_or-take n (drop at (sandbox s).code) k 0 few ∙ get_or-drop at (sandbox s).code k 0))

  -- an instruction of n bytes at that offset of the code
  pub stands : (h : Hart) (at n : ℕ) (i : Instr) → h.pc ≡ 0x01000000 + at → at + n ≤ 256 → Spells (take n (drop at (sandbox s).code)) i n → Stands (record { hart = h; memory = m }) i n
  stands h at n i pc within spelled = record { bytes = take n (drop at (sandbox s).code); there = bytes_there h at n pc within; spelled = spelled }

-- ---- runs that are not safe

pub then_turn : (p : Part) (s after : State) (turn : Turn) → IsTurn p s turn → after_turn turn ≡ Some after → HasUnsafeRun p after → HasUnsafeRun p s
then_turn p s after turn is e rest = record {
  turns = turn ∷ rest.turns;
  run = (is, subst (λ (o : Option State). IsRun p o rest.turns) (sym e) rest.run);
  unsafe = λ safe. rest.unsafe (subst (λ (o : Option State). IsSafeRun p o rest.turns) e safe.2);
}

-- where pc has left the code, the run isn't safe
pub has_left : (p : Part) (m : Bytes) (h : Hart) → (InCode p h.pc → ⊥) → HasUnsafeRun p (record { hart = h; memory = m })
has_left p m h out = record { turns = []; run = tt; unsafe = λ safe. out safe.pc }

-- with the code there, at an instruction of n bytes at that offset
module _ (s : Sample) (is : IsSample s) (m : Bytes) (code : HasCode (sandbox s) m) (h : Hart) (at n : ℕ) (i : Instr) (pc : h.pc ≡ 0x01000000 + at) (within : at + n ≤ 256) (spelled : Spells (take n (drop at (sandbox s).code)) i n) where
  pub step_at : IsStep (record { hart = h; memory = m }) (effect i n h m)
  step_at = record { front = Read i n; at_pc = stands s is m code h at n i pc within spelled; result = refl }

  -- the step is done
  pub then_step : (h' : Hart) → effect i n h m ≡ next h' m → HasUnsafeRun (sandbox s) (record { hart = h'; memory = m }) → HasUnsafeRun (sandbox s) (record { hart = h; memory = m })
  then_step h' e rest = then_turn (sandbox s) (record { hart = h; memory = m }) (record { hart = h'; memory = m }) (Steps (effect i n h m)) step_at (ap (λ (r : Stepped). after_step r.outcome r.state) e) rest

  -- where the instruction accesses an address far below the data, and in no zone at zero, the run isn't safe
  reaches_unless : (a : ℕ) → Accesses i h a → a + 4096 < 0x02000000 → ((has_single_mask s.format ≡ true) × InZoneAtZero 256 a → ⊥) → HasUnsafeRun (sandbox s) (record { hart = h; memory = m })
  reaches_unless a has below no_zone = record {
    turns = Steps (effect i n h m) ∷ [];
    run = (step_at, tt);
    unsafe = λ safe. far (safe.1.within i n (stands s is m code h at n i pc within spelled) a has);
  }
    where
      far : InData (sandbox s) a ⊎ InGuard (sandbox s) a → ⊥
      far (inl (from, under)) = omega arith
      far (inr (inl (inl (from, under)))) = omega arith
      far (inr (inl (inr (from, under)))) = omega arith
      far (inr (inr zone)) = no_zone zone

  -- so it is where there is no zone at zero
  pub reaches : (a : ℕ) → Accesses i h a → a + 4096 < 0x02000000 → has_single_mask s.format ≡ false → HasUnsafeRun (sandbox s) (record { hart = h; memory = m })
  reaches a has below two_steps = reaches_unless a has below (λ zone. absurd (false≢true (sym two_steps ∙ zone.0)))

  -- and, in each format, where the address lies above one
  pub reaches_between : (a : ℕ) → Accesses i h a → 256 + 4096 ≤ a → a + 4096 < 0x02000000 → HasUnsafeRun (sandbox s) (record { hart = h; memory = m })
  reaches_between a has above below = reaches_unless a has below (λ zone. outside zone.1)
    where
      outside : InZoneAtZero 256 a → ⊥
      outside (inl low) = omega arith
      outside (inr (high, word)) = omega arith

  -- where the instruction calls at no gate, the run isn't safe
  pub calls_elsewhere : effect i n h m ≡ unchanged Call h m → (IsGate (sandbox s) h.pc → ⊥) → HasUnsafeRun (sandbox s) (record { hart = h; memory = m })
  calls_elsewhere e nowhere = record {
    turns = Steps (effect i n h m) ∷ [];
    run = (step_at, tt);
    unsafe = λ safe. nowhere (safe.1.called (ap (λ (r : Stepped). r.outcome) e));
  }

pub past_end : (s : Sample) → IsSample s → InCode (sandbox s) 0x01000100 → ⊥
past_end s is (from, below) = let size = size s is in omega arith

-- ---- rules that are needed

-- with that one finding, and a run from an entry that is not safe
pub needed_from : (s : Sample) (is : IsSample s) (rule : Rule) (address : ℕ) (h : Hart) → (m : Bytes) × IsEntry (sandbox s) (record { hart = h; memory = m }) → AreFindings 0 (sandbox s) (record { sandbox = 0; address = address; rule = rule } ∷ []) → BreaksNoOther rule address (sandbox s)
    → ((m : Bytes) → IsEntry (sandbox s) (record { hart = h; memory = m }) → HasUnsafeRun (sandbox s) (record { hart = h; memory = m })) → IsNeeded rule address (sandbox s)
needed_from s is rule address h e alone no_other runs = record {
  refused = refused s is (record { sandbox = 0; address = address; rule = rule }) alone;
  no_other = no_other;
  entry = record { hart = h; memory = e.0 };
  is_entry = e.1;
  runs_unsafely = runs e.0 e.1;
}

-- from the bundle of that number
pub needed : (s : Sample) (is : IsSample s) (rule : Rule) (address n : ℕ) → has_words s.format ≡ false → n < 16 → AreFindingsInBundles 0 (sandbox s) (record { sandbox = 0; address = address; rule = rule } ∷ []) → BreaksNoOther rule address (sandbox s)
    → ((m : Bytes) → IsEntry (sandbox s) (first (0x01000000 + 16 * n) m) → HasUnsafeRun (sandbox s) (first (0x01000000 + 16 * n) m)) → IsNeeded rule address (sandbox s)
needed s is rule address n bundles few alone no_other runs =
    needed_from s is rule address (hart (0x01000000 + 16 * n) 0x02000000 0) (enters s is bundles n few) (of_bundles 0 (sandbox s) (record { sandbox = 0; address = address; rule = rule } ∷ []) bundles alone) no_other runs

-- ---- in either format whose code is in bundles

abbrev pub InBoth : (Format → Type 0) → Type 0
InBoth P = P Sfi1 × P Sfi2

pub of_both : (P : Format → Type 0) → InBoth P → (f : Format) → has_words f ≡ false → P f
of_both P both Sfi1 bundles = both.0
of_both P both Sfi2 bundles = both.1
of_both P both Sfiw bundles = absurd (false≢true (sym bundles))
of_both P both Sfis bundles = absurd (false≢true (sym bundles))

-- at an instruction of a bundle
pub breaks_alone : (rule : Rule) (address : ℕ) (p : Part) → has_words p.format ≡ false → BreaksAloneInBundle rule address p → BreaksAlone rule address p
breaks_alone rule address p bundles alone = subst (λ (b : Bool). MatchBool b (BreaksAloneInWord rule address p) (BreaksAloneInBundle rule address p)) (sym bundles) alone
