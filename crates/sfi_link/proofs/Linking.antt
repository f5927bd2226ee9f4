-- From the code of each sandbox to the image.
use Rattle.sfi_link.proofs.Prelude.{◌≡◌, ℕ, zero, suc, ◌+◌, ◌-◌, ◌*◌, ◌/◌, ◌^◌, ◌<◌, ◌≤◌, List, [], ◌∷◌, ◌++◌, length, drop, get_or, replicate, refl, sym, ap, ◌∙◌, subst, subst₂, arith, append_assoc, append-nil, length-append, inl, inr, Vec, Global, max, Result, Ok, Err, IfOk, IfErr, All, AllPairs, repeat, cases_lt, All-nil, All-head, All-tail, Format, built_code_most, Sandbox, Span, Part, stub_of, PlacedName, size_of, slots_of, Placement, IsPlacedPart, IsPlacedThere, Place, Bases, LinkFault, place_of, IsRightPlace, spans_at, ends_at, ends_in, LieApart, AreApart, spans, zone_ends, zone_ends_of, bases_of, AreSlots, c_ebreak, needed, HasRoom, IsCodeSize, gates_from, IsLinkedCode, IsLinked, AreLinkedFrom, AreLinked, MayLie, IsSlotFault, HasPartFault, IsPartFault, IsLinkFault, IsInReach, AreInReach, HasRoomFor, AreWritten, LiesBeside, IsCodeBeside, AreCodes, Links, part_with, parts_with, All-push, with_guards, contents, AreLinkedCodes, IsPlaced, with_bytes, each_with, set_init, spans_of, fields_of}
use Rattle.sfi_source.specs.declared.item.SourceGate.{SourceGate}
use Rattle.sfi_image.specs.Sources.{IsBounded}
use Rattle.sfi_link.specs.Faults.{UnlessMemory, AnswersItems, AnswersFault}
use Rattle.sfi_link.specs.Linked.{IsLinkedImage, ArePlacements, IsBuild}
use Rattle.sfi_formats.specs.declared.format.Format.TheVariants.{Sfi1}
use Rattle.std.proofs.Math.Nat.{pow-suc}
use Rattle.std.proofs.Math.Pow.{pow_mono}
use Rattle.std.proofs.lemmas.List.{at_drop_more, at_drop_all}
use Rattle.sfi_image.specs.Spelling.{spelling, IsClear, AreClear, ends_below}
use Rattle.sfi_image.specs.Parts as parts
use Rattle.sfi_image.proofs.ClearZones.{ends_are, no_ends}
use Rattle.sfi_image.proofs.Tests.{spans_push, zone_ends_push}
use Rattle.sfi_formats.specs.Formats.{has_single_mask}
use Rattle.sfi_rewrite.specs.Placed.{AreOf, format_of}
use Rattle.std.specs.Prelude.{Bool, true, false, cond}
use Rattle.sfi_formats.proofs.Facts.{limits_are_small}
use Rattle.sfi_image.proofs.Formats.{code_at_most}
use Rattle.sfi_rewrite.specs.declared.placed.PlacedName.TheVariants as name
use Rattle.sfi_link.specs.declared.fault.LinkFault.TheVariants as named
use Rattle.sfi_rewrite.proofs.Sizes.{size_even}
use Rattle.sfi_link.proofs.Bytes.{length_stubs}
use Rattle.sfi_link.proofs.LinkedClean.{all_are_clean}
use Rattle.sfi_link.proofs.Parts.{sixteens, well_placed, linked_is_right}
use Rattle.sfi_link.proofs.Pushed.{slots-append, written_length, fill_slots, memory_or, then_unless}
use Rattle.sfi_link.proofs.OneLinking.{one_size, one_linking, one_fault, never_both}

-- ---- the code size

-- the next power of two is the least one
least_power : (needed n k m j : ℕ) → n ≡ 2 ^ k → n / 2 < max 1 needed → 0 < needed → m ≡ 2 ^ j → needed ≤ m → n ≤ m
least_power needed n zero m j is half some mis enough = omega (arith, is)
least_power needed n (suc k) m j is half some mis enough =
    elim (cases_lt j (suc k)) [
      | inl less ↦
          let low : 2 ^ j ≤ 2 ^ k = pow_mono (let e : j ≤ k = omega arith in e) in
          let twice = is ∙ pow-suc 2 k in
          absurd (omega (arith, low, twice, mis, half, enough, some))
      | inr more ↦ let high : 2 ^ suc k ≤ 2 ^ j = pow_mono more in omega (arith, high, is, mis)
    ]

-- the largest code region is a power of two
most_power : (f : Format) → (j : ℕ) × (built_code_most f ≡ 2 ^ j)
most_power Sfi1 = (16, refl)
most_power _ = (20, refl)

pub least_size : (f : Format) (needed n k : ℕ) → n ≡ 2 ^ k → needed ≤ n → n / 2 < max 1 needed → 256 < needed → needed ≤ built_code_most f → IsCodeSize f needed n
least_size f needed n k is enough half low high = record {
  has_room = record { power = k; size_is = is; at_least = omega arith; at_most = least_power needed n k (built_code_most f) (most_power f).0 is half (omega arith) (most_power f).1 high; room = enough };
  least = λ other h. least_power needed n k other h.power is half (omega arith) h.size_is h.room;
}

some_most : (f : Format) → 256 ≤ built_code_most f
some_most Sfi1 = omega arith
some_most _ = omega arith

pub small_size : (f : Format) (needed : ℕ) → needed ≤ 256 → IsCodeSize f needed 256
small_size f needed low = record {
  has_room = record { power = 8; size_is = refl; at_least = omega arith; at_most = some_most f; room = low };
  least = λ other h. h.at_least;
}

-- more bytes than the largest code region has have room nowhere
pub no_room : (f : Format) (needed size : ℕ) → built_code_most f < needed → HasRoom f needed size → ⊥
no_room f needed size large h = let a = h.room in let b = h.at_most in omega arith

-- ---- a sandbox that lies beside others

pub code_bounded : (p : Placement) (size : ℕ) (place : Place) → IsRightPlace p size place → IsBounded (record { base = place.code_base; size = size })
code_bounded p size place lies =
    let bound = code_at_most p.format in
    record { some = omega arith; end = omega arith }

pub guarded_bounded : (p : Placement) (size : ℕ) (place : Place) → IsRightPlace p size place → IsBounded (with_guards (record { base = place.data_base; size = p.data_size }))
guarded_bounded p size place lies = let above = lies.guard_room.above in record { some = omega arith; end = omega arith }

-- ---- where zones at zero end, by spans

pub own_ends_in : (p : Placement) (size : ℕ) (place : Place) → ends_in p.format (spans_at p size place) ≡ ends_at p
own_ends_in p size place =
    let same : 4096 + p.data_size + 4096 - 4096 ≡ p.data_size + 4096 = omega arith in
    ap (λ (n : ℕ). cond (has_single_mask p.format) (n ∷ []) []) same

-- what the code finds of the spans holds of the sandbox at its place
module _ (p : Placement) (size : ℕ) (place : Place) (f : Format) (now old own : List Span) (format : f ≡ p.format) (same : now ≡ old) (is : own ≡ spans_at p size place) where
  ends_there : (ends_in f now ++ ends_in f own) ≡ ends_in p.format old ++ ends_at p
  ends_there = (λ i. ends_in (format i) (same i) ++ ends_in (format i) (is i)) ∙ ap (λ (l : List ℕ). ends_in p.format old ++ l) (own_ends_in p size place)

  pub lie_there : LieApart (ends_in f now ++ ends_in f own) (now ++ own) → LieApart (ends_in p.format old ++ ends_at p) (old ++ spans_at p size place)
  lie_there lie = subst₂ LieApart ends_there (λ i. same i ++ is i) lie

  pub lie_here : LieApart (ends_in p.format old ++ ends_at p) (old ++ spans_at p size place) → LieApart (ends_in f now ++ ends_in f own) (now ++ own)
  lie_here lie = subst₂ LieApart (sym ends_there) (λ i. sym same i ++ sym is i) lie

-- where masks have two steps there are no zones
pub clear_of_none : (f : Format) (before own ss : List Span) → has_single_mask f ≡ false → AreClear (ends_in f before ++ ends_in f own) ss
clear_of_none f before own ss is = rw is (λ k d lt. All-nil _)

-- where they are single
pub ends_single : (f : Format) (before : List Span) (code guarded : Span) → has_single_mask f ≡ true → (ends_in f before ++ ends_in f (code ∷ guarded ∷ [])) ≡ ends_below before ++ (guarded.size - 4096) ∷ []
ends_single f before code guarded is = rw is refl

-- its spans come after the old ones
pub lies_beside : (p : Placement) (size : ℕ) (place : Place) (ends : List ℕ) (old new : List Span) → IsRightPlace p size place → All IsBounded old → LieApart (ends ++ ends_at p) (old ++ spans_at p size place) → new ≡ old ++ spans_at p size place
    → LiesBeside p size place ends old new
lies_beside p size place ends old new right bounded apart is =
    let code : Span = record { base = place.code_base; size = size } in
    let guarded : Span = with_guards (record { base = place.data_base; size = p.data_size }) in
    let both = All-push IsBounded (old ++ code ∷ []) guarded (All-push IsBounded old code bounded (code_bounded p size place right)) (guarded_bounded p size place right) in
    record {
      right = right;
      spans_are = is;
      bounded = subst (All IsBounded) (append_assoc old (code ∷ []) (guarded ∷ []) ∙ sym is) both;
      apart = subst (LieApart (ends ++ ends_at p)) (sym is) apart;
    }

-- ---- what is near

near_name : (given : List Place) (number : ℕ) (p : Placement) (size : ℕ) → IsPlacedPart p → HasRoom p.format (needed p) size → IsRightPlace p size (place_of given p.format number) → (n : PlacedName) → IsPlacedThere p n
    → IsInReach (bases_of given number p) n
near_name given number p size placed room lies (name.Gate k) there =
    let end = (well_placed p size (place_of given p.format number) lies).end in
    let bound = (limits_are_small p.format).2 in
    record { fits = omega arith; within = (omega arith, omega arith) }
near_name given number p size placed room lies (name.Code place) there =
    let end = (well_placed p size (place_of given p.format number) lies).end in
    let bound = (limits_are_small p.format).2 in
    let within = there.1 in
    record { fits = omega arith; within = (omega arith, omega arith) }
near_name given number p size placed room lies (name.Data offset) there =
    record { fits = omega arith; within = tt }
near_name given number p size placed room lies name.Unknown there = record { fits = tt; within = tt }

pub near_of : (given : List Place) (number : ℕ) (p : Placement) (size : ℕ) → IsPlacedPart p → HasRoom p.format (needed p) size → IsRightPlace p size (place_of given p.format number) → AreInReach (bases_of given number p) p.names
near_of given number p size placed room lies = λ k d lt. near_name given number p size placed room lies (get_or p.names k d) (placed.names k d lt)

-- ---- the code of one sandbox

-- the stubs of the gates, in the sandbox's format, come first
pub stubs_pushed : (p : Placement) (code old stub : List ℕ) (gates : List SourceGate) (f : Format) → code ≡ old ++ repeat (length gates) stub → old ≡ [] → gates ≡ p.gates → stub ≡ stub_of f → f ≡ p.format
    → code ≡ repeat (length p.gates) (stub_of p.format)
stubs_pushed p code old stub gates f pushed none same is format =
    pushed ∙ ap (λ l. l ++ repeat (length gates) stub) none ∙ ap (λ gs. repeat (length gs) stub) same ∙ ap (λ b. repeat (length p.gates) b) (is ∙ ap (λ g. stub_of g) format)

-- the bytes of a c.ebreak
abbrev pub pair : List ℕ
pair = 0x02 ∷ 0x90 ∷ []

length_pairs : (n : ℕ) → length (repeat n pair) ≡ 2 * n
length_pairs zero = refl
length_pairs (suc n) = let h = length_pairs n in omega arith

-- the stubs, the slots and then c.ebreaks up to the size are the linked code
pub linked_code : (given : List Place) → (number : ℕ) (p : Placement) (at : Bases) (size fill : ℕ) (stubs now code : List ℕ) → at ≡ bases_of given number p → IsCodeSize p.format (needed p) size
    → stubs ≡ repeat (length p.gates) (stub_of p.format) → AreWritten at p.names (slots_of p.bundles) stubs now → fill ≡ (size - length now) / 2 → code ≡ now ++ repeat fill pair
    → IsLinkedCode given number p code
linked_code given number p at size fill stubs now code is sized stubs_are written count code_is =
    let sixteen = (sixteens p.format (needed p) size sized.has_room).1 in
    let stubs_long : length stubs ≡ 16 * length p.gates = ap length stubs_are ∙ length_stubs p.format (length p.gates) in
    let now_long = written_length at p.names (slots_of p.bundles) stubs now written in
    let even = size_even (slots_of p.bundles) in
    let filled = length_pairs fill in
    let long = ap length code_is ∙ length-append now (repeat fill pair) in
    let whole : length code ≡ size = omega arith in
    let base : at.code ≡ (bases_of given number p).code = ap (λ (b : Bases). b.code) is in
    let start : at.code + length stubs ≡ at.start = omega (arith, base, ap (λ (b : Bases). b.start) is, stubs_long) in
    let slots : AreSlots at p.names at.start (slots_of p.bundles ++ replicate fill c_ebreak) (written.bytes ++ repeat fill pair) =
    subst (λ n. AreSlots at p.names n (slots_of p.bundles ++ replicate fill c_ebreak) (written.bytes ++ repeat fill pair)) start
    (slots-append at p.names (at.code + length stubs) (slots_of p.bundles) (replicate fill c_ebreak) written.bytes (repeat fill pair) written.spelled (fill_slots at p.names _ fill)) in
    record {
      size = subst (IsCodeSize p.format (needed p)) (sym whole) sized;
      fill = fill;
      bytes = written.bytes ++ repeat fill pair;
      slots = subst (λ b. AreSlots b p.names b.start (slots_of p.bundles ++ replicate fill c_ebreak) (written.bytes ++ repeat fill pair)) is slots;
      code_is = code_is ∙ ap (λ l. l ++ repeat fill pair) (written.appended ∙ ap (λ l. l ++ written.bytes) stubs_are) ∙ append_assoc (repeat (length p.gates) (stub_of p.format)) written.bytes (repeat fill pair);
    }

-- what the slots need has room in the region
pub written_within : (p : Placement) (at : Bases) (size : ℕ) (stubs now : List ℕ) → IsCodeSize p.format (needed p) size → stubs ≡ repeat (length p.gates) (stub_of p.format) → AreWritten at p.names (slots_of p.bundles) stubs now → length now ≤ size
written_within p at size stubs now sized stubs_are written =
    let a = ap length stubs_are ∙ length_stubs p.format (length p.gates) in
    let b = written_length at p.names (slots_of p.bundles) stubs now written in
    omega arith

pub code_room : (given : List Place) (number : ℕ) (p : Placement) (at : Bases) (size : ℕ) (stubs : List ℕ) → HasRoom p.format (needed p) size → IsRightPlace p size (place_of given p.format number) → at ≡ bases_of given number p
    → stubs ≡ repeat (length p.gates) (stub_of p.format) → HasRoomFor at (length stubs) (size_of (slots_of p.bundles))
code_room given number p at size stubs room lies is stubs_are =
    let a = ap length stubs_are ∙ length_stubs p.format (length p.gates) in
    let b = ap (λ (b : Bases). b.code) is in
    let end = (well_placed p size (place_of given p.format number) lies).end in
    let bound = (limits_are_small p.format).2 in
    record { below = omega arith; within = omega arith }

pub part_refused : (given : List Place) → (number : ℕ) (p : Placement) (ends : List ℕ) (before : List Span) (at : Bases) (stubs : List ℕ) (f : LinkFault) → at ≡ bases_of given number p → MayLie given number p ends before → stubs ≡ repeat (length p.gates) (stub_of p.format)
    → UnlessMemory (IsSlotFault at p.names (at.code + length stubs) (slots_of p.bundles)) f → UnlessMemory (HasPartFault given number p ends before) f
part_refused given number p ends before at stubs f is may stubs_are h =
    let a : length stubs ≡ 16 * length p.gates = ap length stubs_are ∙ length_stubs p.format (length p.gates) in
    let b = ap (λ (b : Bases). b.code) is in
    let start : at.code + length stubs ≡ (bases_of given number p).start = omega (arith, a, b) in
    let Slots : Bases → ℕ → LinkFault → Type 0 = λ c n g. IsSlotFault c p.names n (slots_of p.bundles) g in
    then_unless (Slots at (at.code + length stubs)) (HasPartFault given number p ends before)
    (λ g x. inr (inr (may, subst (λ (c : Bases). Slots c (bases_of given number p).start g) is (subst (λ n. Slots at n g) start x)))) f h

-- what is known of the sandbox that lies beside those spans, or doesn't
pub place_refused : (given : List Place) (number : ℕ) (p : Placement) (size : ℕ) (ends : List ℕ) (before : List Span) → IsCodeSize p.format (needed p) size
    → (IsRightPlace p size (place_of given p.format number) → ¬ LieApart (ends ++ ends_at p) (before ++ spans_at p size (place_of given p.format number))) → HasPartFault given number p ends before (named.Place number)
place_refused given number p size ends before sized wrong = inr (inl (λ large. large size sized.has_room, not_there, refl))
  where
    not_there : MayLie given number p ends before → ⊥
    not_there may =
        let one : may.size ≡ size = one_size p.format (needed p) may.size size may.least sized in
        wrong (subst (λ n. IsRightPlace p n (place_of given p.format number)) one may.right) (subst (λ (n : ℕ). LieApart (ends ++ ends_at p) (before ++ spans_at p n (place_of given p.format number))) one may.apart)

pub may_lie : (given : List Place) (number : ℕ) (p : Placement) (size : ℕ) (ends : List ℕ) (old new : List Span) → IsCodeSize p.format (needed p) size → LiesBeside p size (place_of given p.format number) ends old new
    → MayLie given number p ends old
may_lie given number p size ends old new sized lies = record { size = size; least = sized; right = lies.right; apart = subst (LieApart (ends ++ ends_at p)) lies.spans_are lies.apart }

pub code_beside : (given : List Place) (number : ℕ) (p : Placement) (c : List ℕ) (size : ℕ) (ends : List ℕ) (old new : List Span) → IsCodeSize p.format (needed p) size → IsLinkedCode given number p c
    → LiesBeside p size (place_of given p.format number) ends old new → IsCodeBeside given number p c ends old new
code_beside given number p c size ends old new sized made lies =
    let one : size ≡ length c = one_size p.format (needed p) size (length c) sized made.size in
    record { code = made; lies = subst (λ (n : ℕ). LiesBeside p n (place_of given p.format number) ends old new) one lies }

-- ---- gates

pub gates_next : (address : ℕ) (gs : List SourceGate) (k : ℕ) (d : SourceGate) → k < length gs
    → gates_from (address + 16 * k) (drop k gs) ≡ record { address = address + 16 * k; service = (get_or gs k d).service } ∷ gates_from (address + 16 * (k + 1)) (drop (k + 1) gs)
gates_next address gs k d lt =
    let past : address + 16 * k + 16 ≡ address + 16 * (k + 1) = omega arith in
    at_drop_more (gates_from (address + 16 * k)) gs k d lt ∙ ap (λ n. record { address = address + 16 * k; service = (get_or gs k d).service } ∷ gates_from n (drop (k + 1) gs)) past

-- ---- lists of sandboxes

pub linked_length : (given : List Place) → (number : ℕ) (ps : List Placement) (qs : List Part) → AreLinkedFrom given number ps qs → length qs ≡ length ps
linked_length given number [] qs none = ap length none
linked_length given number (p ∷ ps) [] all = absurd all
linked_length given number (p ∷ ps) (q ∷ qs) all = ap suc (linked_length given (number + 1) ps qs all.1)

-- there is as much code as placed sandboxes
pub codes_enough : (given : List Place) (number : ℕ) (ps : List Placement) (cs : List (List ℕ)) → AreLinkedFrom given number ps (parts_with given number ps cs) → length ps ≤ length cs
codes_enough given number [] cs h = omega arith
codes_enough given number (p ∷ ps) [] h = absurd h
codes_enough given number (p ∷ ps) (c ∷ cs) h = omega (arith, codes_enough given (number + 1) ps cs h.1)

-- the sandbox with this code
pub linked_with : (given : List Place) (number : ℕ) (p : Placement) (c : List ℕ) (ends : List ℕ) (old new : List Span) → IsCodeBeside given number p c ends old new → IsLinked given number p (part_with given number p c)
linked_with given number p c ends old new one = record { code = one.code; lies = one.lies.right; is = refl }

-- What is left of the sandboxes, after this code of those before and these spans, completes them all:
-- with its code, or with its fault.
pub record CodesLeft (given : List Place) (number : ℕ) (placed left : List Placement) (so_far : List (List ℕ)) (now : List Span) : Type 0 where
  pub before : List Part
  pub spans_are : now ≡ spans before
  pub formats : parts.AreOf (format_of placed) before
  pub left_formats : AreOf (format_of placed) left
  pub codes : (more : List (List ℕ)) → AreCodes given number (zone_ends before) now left more → AreCodes given 0 [] [] placed (so_far ++ more)
  pub fault : (f : LinkFault) → IsPartFault given number (zone_ends before) now left f → IsPartFault given 0 [] [] placed f
  pub bounded : All IsBounded now
  pub apart : AllPairs AreApart now

pub none_lies : LieApart [] []
none_lies = record { apart = λ i j d lt within. absurd (omega arith); clear = All-nil (λ s. All (λ end. IsClear end s) []) }

pub all_left : (given : List Place) (placed : List Placement) → IsPlaced placed → CodesLeft given 0 placed placed [] []
all_left given placed is = record {
  before = [];
  spans_are = refl;
  formats = All-nil (λ (q : Part). q.format ≡ format_of placed);
  left_formats = is.one_format;
  codes = λ more h. h;
  fault = λ f h. h;
  bounded = All-nil IsBounded;
  apart = none_lies.apart;
}

-- where the zones of sandboxes of one format end, by their spans
ends_by_spans : (f : Format) (ps : List Part) (b : Bool) → has_single_mask f ≡ b → parts.AreOf f ps → zone_ends ps ≡ ends_in f (spans ps)
ends_by_spans f ps true is of = rw is (ends_are f ps is of)
ends_by_spans f ps false is of = rw is (no_ends f ps is of)

-- those of the sandboxes before the next one
pub ends_before : (given : List Place) (k : ℕ) (placed left : List Placement) (p : Placement) (so_far : List (List ℕ)) (old : List Span) (h : CodesLeft given k placed (p ∷ left) so_far old)
    → ends_in p.format old ≡ zone_ends h.before
ends_before given k placed left p so_far old h =
    let one : p.format ≡ format_of placed = All-head (λ (x : Placement). x.format ≡ format_of placed) p left h.left_formats in
    (λ i. ends_in (one i) (h.spans_are i)) ∙ sym (ends_by_spans (format_of placed) h.before (has_single_mask (format_of placed)) refl h.formats)

-- one sandbox fewer is left
pub one_fewer : (given : List Place) (k : ℕ) (placed left : List Placement) (p : Placement) (so_far : List (List ℕ)) (c : List ℕ) (old new : List Span) → CodesLeft given k placed (p ∷ left) so_far old
    → IsCodeBeside given k p c (ends_in p.format old) old new → CodesLeft given (k + 1) placed left (so_far ++ c ∷ []) new
one_fewer given k placed left p so_far c old new h beside =
    let q = part_with given k p c in
    let ends = zone_ends h.before in
    let one : IsCodeBeside given k p c ends old new = subst (λ (es : List ℕ). IsCodeBeside given k p c es old new) (ends_before given k placed left p so_far old h) beside in
    let is = one.lies.spans_are in
    let lie = subst (LieApart (ends ++ ends_at p)) is one.lies.apart in
    let ended : zone_ends (h.before ++ q ∷ []) ≡ ends ++ ends_at p = zone_ends_push h.before q in
    let one_format : q.format ≡ format_of placed = All-head (λ (x : Placement). x.format ≡ format_of placed) p left h.left_formats in
    record {
      before = h.before ++ q ∷ [];
      spans_are = is ∙ ap (λ (l : List Span). l ++ spans_of (fields_of q)) h.spans_are ∙ sym (spans_push h.before q);
      formats = All-push (λ (r : Part). r.format ≡ format_of placed) h.before q h.formats one_format;
      left_formats = All-tail (λ (x : Placement). x.format ≡ format_of placed) p left h.left_formats;
      codes = λ more m. subst (AreCodes given 0 [] [] placed) (sym (append_assoc so_far (c ∷ []) more)) (h.codes (c ∷ more) (new, one, subst (λ (es : List ℕ). AreCodes given (k + 1) es new left more) ended m));
      fault = λ f x. h.fault f (inr (q, linked_with given k p c ends old new one, lie, subst₂ (λ (es : List ℕ) (l : List Span). IsPartFault given (k + 1) es l left f) ended is x));
      bounded = one.lies.bounded;
      apart = one.lies.apart.apart;
    }

pub code_refused : (given : List Place) (k : ℕ) (placed left : List Placement) (p : Placement) (so_far : List (List ℕ)) (old : List Span) (f : LinkFault) → CodesLeft given k placed (p ∷ left) so_far old
    → UnlessMemory (HasPartFault given k p (ends_in p.format old) old) f → UnlessMemory (IsPartFault given 0 [] [] placed) f
code_refused given k placed left p so_far old f h wrong =
    let is = ends_before given k placed left p so_far old h in
    then_unless (HasPartFault given k p (ends_in p.format old) old) (IsPartFault given 0 [] [] placed) (λ g x. h.fault g (inl (subst (λ (es : List ℕ). HasPartFault given k p es old g) is x))) f wrong

pub all_coded : (given : List Place) (k : ℕ) (placed left : List Placement) (so_far : List (List ℕ)) (now : List Span) → left ≡ [] → CodesLeft given k placed left so_far now → AreCodes given 0 [] [] placed so_far
all_coded given k placed left so_far now none h =
    subst (AreCodes given 0 [] [] placed) (append-nil so_far) (h.codes [] (subst (λ (l : List Placement). AreCodes given k (zone_ends h.before) now l []) (sym none) refl))

-- the code of the sandbox at a place
pub code_at : (given : List Place) (number k n : ℕ) (ps : List Placement) (cs : List (List ℕ)) (p : Placement) (c : List ℕ) → n ≡ number + k → k < length ps → p ≡ get_or ps k p → c ≡ get_or cs k c
    → AreLinkedFrom given number ps (parts_with given number ps cs) → IsLinkedCode given n p c × IsRightPlace p (length c) (place_of given p.format n)
code_at given number k n [] cs p c e lt ep ec h = absurd (omega arith)
code_at given number k n (r ∷ ps) [] p c e lt ep ec h = absurd h
code_at given number zero n (r ∷ ps) (b ∷ cs) p c e lt ep ec h = let z : n ≡ number = omega arith in rw (z, ep, ec) (h.0.code, h.0.lies)
code_at given number (suc k) n (r ∷ ps) (b ∷ cs) p c e lt ep ec h = code_at given (number + 1) k n ps cs p c (omega arith) (omega arith) ep ec h.1

-- sandboxes with their code are linked, and lie apart
pub codes_linked : (given : List Place) (number : ℕ) (ends : List ℕ) (before : List Span) (ps : List Placement) (cs : List (List ℕ)) → AreCodes given number ends before ps cs → LieApart ends before
    → AreLinkedFrom given number ps (parts_with given number ps cs) × LieApart (ends ++ zone_ends (parts_with given number ps cs)) (before ++ spans (parts_with given number ps cs))
codes_linked given number ends before [] cs h apart = (refl, subst₂ LieApart (sym (append-nil ends)) (sym (append-nil before)) apart)
codes_linked given number ends before (p ∷ ps) [] h apart = absurd h
codes_linked given number ends before (p ∷ ps) (c ∷ cs) (now, one, h) apart =
    let later = parts_with given (number + 1) ps cs in
    let rest = codes_linked given (number + 1) (ends ++ ends_at p) now ps cs h one.lies.apart in
    let spelled = ap (λ (l : List Span). l ++ spans later) one.lies.spans_are ∙ append_assoc before (spans_at p (length c) (place_of given p.format number)) (spans later) in
    ((linked_with given number p c ends before now one, rest.0), subst₂ LieApart (append_assoc ends (ends_at p) (zone_ends later)) spelled rest.1)

pub all_linked : (given : List Place) (ps : List Placement) (cs : List (List ℕ)) → length given ≤ length ps → AreCodes given 0 [] [] ps cs → AreLinked given ps (parts_with given 0 ps cs)
all_linked given ps cs used codes = let all = codes_linked given 0 [] [] ps cs codes none_lies in record { used = used; each = all.0; apart = all.1 }

pub codes_found : (given : List Place) (ps qs : List Placement) → ps ≡ qs → length ps ≤ 16 → length given ≤ length ps → (r : Result (Vec (Vec ℕ Global) Global) LinkFault) → Links (λ v. AreCodes given 0 [] [] ps (contents v.items)) (IsPartFault given 0 [] [] ps) r
    → IfOk r (λ v. AreLinkedCodes given qs (contents v.items)) × IfErr r (UnlessMemory (IsLinkFault given qs))
codes_found given ps qs same few used (Ok v) h = (subst (λ l. AreLinkedCodes given l (contents v.items)) same (record { few = few; linked = all_linked given ps (contents v.items) used h }), tt)
codes_found given ps qs same few used (Err f) h = (tt, then_unless (IsPartFault given 0 [] [] ps) (IsLinkFault given qs) (λ g x. subst (λ l. IsLinkFault given l g) same (inr (inr (few, used, x)))) f h)

-- ---- other first data bytes

pub length-each_with : {X : Type 0} (add : List ℕ → X → X) (bs : List (List ℕ)) (xs : List X) → length (each_with add bs xs) ≡ length xs
length-each_with add [] xs = refl
length-each_with add (b ∷ bs) [] = refl
length-each_with add (b ∷ bs) (x ∷ xs) = omega (arith, length-each_with add bs xs)

pub each_with_none : {X : Type 0} (add : List ℕ → X → X) (bs : List (List ℕ)) → each_with add bs [] ≡ []
each_with_none add [] = refl
each_with_none add (b ∷ bs) = refl

linked_part_as : (given : List Place) (number : ℕ) (b : List ℕ) (p : Placement) (q : Part) → IsLinked given number p q → IsLinked given number (with_bytes b p) (set_init b q)
linked_part_as given number b p q h =
    let c = h.code in
    let l = h.lies in
    let size = c.size in
    record {
      code = record {
        size = record { has_room = record { power = size.has_room.power; size_is = size.has_room.size_is; at_least = size.has_room.at_least; at_most = size.has_room.at_most; room = size.has_room.room }; least = size.least };
        fill = c.fill;
        bytes = c.bytes;
        slots = c.slots;
        code_is = c.code_is;
      };
      lies = record { word = l.word; code = l.code; «data» = l.«data»; one_bit = l.one_bit; guard_room = l.guard_room; zone_room = l.zone_room };
      is = ap (set_init b) h.is;
    }

linked_from_as : (given : List Place) (number : ℕ) (bs : List (List ℕ)) (placed : List Placement) (parts : List Part) → AreLinkedFrom given number placed parts
    → AreLinkedFrom given number (each_with with_bytes bs placed) (each_with set_init bs parts)
linked_from_as given number [] placed parts h = h
linked_from_as given number (b ∷ bs) [] parts h = ap (each_with set_init (b ∷ bs)) h
linked_from_as given number (b ∷ bs) (p ∷ placed) [] h = h
linked_from_as given number (b ∷ bs) (p ∷ placed) (q ∷ parts) h =
    (linked_part_as given number b p q h.0, linked_from_as given (number + 1) bs placed parts h.1)

spans_stay : (bs : List (List ℕ)) (parts : List Part) → spans (each_with set_init bs parts) ≡ spans parts
spans_stay [] parts = refl
spans_stay (b ∷ bs) [] = refl
spans_stay (b ∷ bs) (q ∷ parts) = ap (λ l. spans_of (fields_of q) ++ l) (spans_stay bs parts)

ends_stay : (bs : List (List ℕ)) (parts : List Part) → zone_ends (each_with set_init bs parts) ≡ zone_ends parts
ends_stay [] parts = refl
ends_stay (b ∷ bs) [] = refl
ends_stay (b ∷ bs) (q ∷ parts) = ap (λ (l : List ℕ). zone_ends_of (fields_of q) ++ l) (ends_stay bs parts)

pub linked_as : (given : List Place) (bs : List (List ℕ)) (placed : List Placement) (parts : List Part) → AreLinked given placed parts
    → AreLinked given (each_with with_bytes bs placed) (each_with set_init bs parts)
linked_as given bs placed parts h = record {
  used = omega (arith, h.used, length-each_with with_bytes bs placed);
  each = linked_from_as given 0 bs placed parts h.each;
  apart = subst₂ LieApart (sym (ends_stay bs parts)) (sym (spans_stay bs parts)) h.apart;
}

-- the next sandbox has those of the list, or its own where that ends
pub init_next : (inits : List (List ℕ)) (k : ℕ) (b : List ℕ) (q : Part) (rest : List Part) → (k < length inits → b ≡ get_or inits k b) → (length inits ≤ k → b ≡ q.init)
    → each_with set_init (drop k inits) (q ∷ rest) ≡ set_init b q ∷ each_with set_init (drop (k + 1) inits) rest
init_next inits k b q rest listed own =
    elim (cases_lt k (length inits)) [
      | inl less ↦ at_drop_more (λ l. each_with set_init l (q ∷ rest)) inits k b less ∙ ap (λ x. set_init x q ∷ each_with set_init (drop (k + 1) inits) rest) (sym (listed less))
      | inr past ↦
          at_drop_all (λ l. each_with set_init l (q ∷ rest)) inits k past ∙ ap (λ x. set_init x q ∷ rest) (sym (own past))
          ∙ sym (at_drop_all (λ l. set_init b q ∷ each_with set_init l rest) inits (k + 1) (omega (arith, past)))
    ]

-- the sandboxes with that code and other first data bytes are linked, too
pub linked_with_inits : (given : List Place) (placed ps : List Placement) (codes inits : List (List ℕ)) (parts : List Part) → ps ≡ placed → AreLinkedCodes given placed codes → parts ≡ each_with set_init inits (parts_with given 0 ps codes)
    → AreLinked given (each_with with_bytes inits placed) parts × (length (each_with with_bytes inits placed) ≤ 16)
linked_with_inits given placed ps codes inits parts same h is = (
  subst (λ (l : List Part). AreLinked given (each_with with_bytes inits placed) l) (sym (is ∙ ap (λ l. each_with set_init inits (parts_with given 0 l codes)) same)) (linked_as given inits placed (parts_with given 0 placed codes) h.linked),
  omega (arith, h.few, length-each_with with_bytes inits placed),
)

-- what is linked is an image
pub image_of_parts : (given : List Place) (placed : List Placement) (parts : List Part) → IsPlaced placed → length placed ≤ 16 → AreLinked given placed parts → IsLinkedImage given placed (spelling parts)
image_of_parts given placed parts right few linked = record {
  parts = parts;
  linked = linked;
  image = record { bytes_are = refl; layout = linked_is_right given placed parts right few linked };
  none_found = all_are_clean given 0 placed parts right.each linked.each;
}

-- ---- what a linker answers that way

pub one_bytes : (given : List Place) → (placed : List Placement) (xs ys : List ℕ) → IsLinkedImage given placed xs → IsLinkedImage given placed ys → xs ≡ ys
one_bytes given placed xs ys a b = a.image.bytes_are ∙ ap spelling (one_linking given 0 placed a.parts b.parts a.linked.each b.linked.each) ∙ sym b.image.bytes_are

pub never : (given : List Place) → (placed : List Placement) (bytes : List ℕ) (f : LinkFault) → IsLinkedImage given placed bytes → IsLinkFault given placed f → ⊥
never given placed bytes f image has =
    let count = linked_length given 0 placed image.parts image.linked.each in
    never_both given placed image.parts f (omega arith) image.linked has

pub only_image : (given : List Place) → (placed : List Placement) (r : Result (Vec ℕ Global) LinkFault) → Links (λ v. IsLinkedImage given placed v.items) (IsLinkFault given placed) r → (bytes : List ℕ) → IsLinkedImage given placed bytes → AnswersItems bytes r
only_image given placed (Ok v) h bytes image = one_bytes given placed v.items bytes h image
only_image given placed (Err f) h bytes image = elim (memory_or (IsLinkFault given placed) f h) [ inl memory ↦ memory | inr fault ↦ absurd (never given placed bytes f image fault) ]

pub only_fault : (given : List Place) → (placed : List Placement) (r : Result (Vec ℕ Global) LinkFault) → Links (λ v. IsLinkedImage given placed v.items) (IsLinkFault given placed) r → (f : LinkFault) → IsLinkFault given placed f → AnswersFault f r
only_fault given placed (Ok v) h f fault = absurd (never given placed v.items f h fault)
only_fault given placed (Err g) h f fault =
    elim (memory_or (IsLinkFault given placed) g h) [ inl memory ↦ inr (ap (λ x. Err x) memory) | inr other ↦ inl (ap (λ x. Err x) (one_fault given placed g f other fault)) ]

pub is_build : (given : List Place) → (placed : List Placement) (r : Result (Vec ℕ Global) LinkFault) → Links (λ v. IsLinkedImage given placed v.items) (IsLinkFault given placed) r → (source : List Sandbox) → ArePlacements source placed → IfOk r (λ v. IsBuild given source v.items)
is_build given placed (Ok v) h source are = record { placed = placed; placements = are; parts = h.parts; linked = h.linked; bytes_are = h.image.bytes_are }
is_build given placed (Err f) h source are = tt
