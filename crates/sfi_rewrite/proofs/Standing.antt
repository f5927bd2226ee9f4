-- Each instruction of a source stands transparent in what is placed.
use Rattle.sfi_rewrite.proofs.Prelude.{◌≡◌, ℕ, ◌+◌, ◌<◌, ◌&&◌, arith, true≢false, List, [], ◌∷◌, ◌++◌, Bool, true, false, MatchBool, length, map, take, drop, Option, Some, None, refl, sym, ap, ◌∙◌, subst, inl, inr, ◌⊎◌, append-nil, All, All-get_or, slice_get, drop_more, get_or_from_slice_get, slice_get_within, Instr, Op, OpImm, Load, Store, Jalr, Item, Body, Plain, To, High, Low, Base, BundleSlot, Wide, Short, Jump, Upper, Lower, Region, slots_of, IsAlone, IsPermitted, MayBe, Placement, not, ◌||◌, if◌then◌else◌, destination, is_data_register, replicate, append_assoc, AllZip, Format, HasEndLabel, Sandbox, size_of, c_nop, AreLaidFrom, IsRewritten, RewrittenIsTransparent, StandTransparent, AreLaidIn, FillsEndIn, has_words, And, Or, has_single_mask, is_made_on_x26}
use Rattle.std.proofs.lemmas.List.{take-append-drop, map-append}
use Rattle.sfi_rewrite.specs.words.Expansion.{IsConfined, IsAround, IsExpansionOf, IsExpansion, before, after, base_of, data_mask, mask_after, is_move, moved, is_step_before_use, Marked, marked, alone, in_words, AreExpanded, AreLaid}
use Rattle.sfi_rewrite.specs.words.Transparency.{AreAsLaid, ActsAs, StandsTransparent as StandsTransparentInWords}
use Rattle.sfi_rewrite.proofs.WordLaying.{view, as_laid, words_at_label}
use Rattle.sfi_rewrite.proofs.WordLaid.{expanded_split, all_fit}
use Rattle.sfi_rewrite.proofs.WordItems.{AreSome, expansion_of_some}
use Rattle.sfi_rewrite.proofs.WordKept.{body_acts, plain_steps, unbarred}
use Rattle.sfi_rewrite.specs.Transparency.{StandsTransparent}
use Rattle.sfi_rewrite.specs.Standing.{StandsAs}
use Rattle.sfi_rewrite.proofs.Laid.{laid_split}
use Rattle.sfi_rewrite.proofs.StackKept.{all_transparent}

-- ==== Each item of code in words stands transparent in what is placed.

-- ---- slots as they are laid

-- what is laid for slots one after another
pub record LaidApart (front back laid : List BundleSlot) : Type 0 where
  pub first : List BundleSlot
  pub rest : List BundleSlot
  pub both : laid ≡ first ++ rest
  pub are_first : AreAsLaid front first
  pub are_rest : AreAsLaid back rest

pub apart : (front back laid : List BundleSlot) → AreAsLaid (front ++ back) laid → LaidApart front back laid
apart [] back laid h = record { first = []; rest = laid; both = refl; are_first = tt; are_rest = h }
apart (s ∷ front) back [] h = absurd h
apart (s ∷ front) back (x ∷ laid) h =
    let r = apart front back laid h.1 in
    record { first = x ∷ r.first; rest = r.rest; both = ap (λ v. x ∷ v) r.both; are_first = (h.0, r.are_first); are_rest = r.are_rest }

-- each has 32 bits
abbrev AreWide : List BundleSlot → Type 0
AreWide [] = Unit {0}
AreWide (s ∷ slots) = (alone s ≡ s) × AreWide slots

wide_stays : (slots laid : List BundleSlot) → AreWide slots → AreAsLaid slots laid → laid ≡ slots
wide_stays [] [] w h = refl
wide_stays [] (x ∷ laid) w h = absurd h
wide_stays (s ∷ slots) [] w h = absurd h
wide_stays (s ∷ slots) (x ∷ laid) w h =
    let first : x ≡ s = elim h.0 [ inl e ↦ e | inr e ↦ e ∙ w.0 ] in
    ap (λ y. y ∷ laid) first ∙ ap (λ v. s ∷ v) (wide_stays slots laid w.1 h.1)

mask_wide_by : (one : Bool) (d a : ℕ) → AreWide (if one then Wide (Op And d a 27) ∷ [] else Wide (Op And 31 a 27) ∷ Wide (Op Or d 31 26) ∷ [])
mask_wide_by true d a = (refl, tt)
mask_wide_by false d a = (refl, (refl, tt))

data_mask_wide : (f : Format) (d a : ℕ) → AreWide (data_mask f d a)
data_mask_wide f d a = mask_wide_by (has_single_mask f) d a

made_wide : (f : Format) (none : Bool) (d a : ℕ) → AreWide (if none then [] else data_mask f d a)
made_wide f true d a = tt
made_wide f false d a = data_mask_wide f d a

before_wide : (f : Format) (i : Instr) → AreWide (before f i)
before_wide f (Load kind rd a imm) = made_wide f (is_data_register a || is_made_on_x26 f a) 29 a
before_wide f (Store width a rs2 imm) = made_wide f (is_data_register a || is_made_on_x26 f a) 29 a
before_wide f (Jalr rd a imm) = (refl, (refl, tt))
before_wide f _ = tt

masks_wide : (f : Format) (is : Bool) (d : ℕ) → AreWide (if is then data_mask f d d else [])
masks_wide f true d = data_mask_wide f d d
masks_wide f false d = tt

mask_wide : (f : Format) (to : Option ℕ) → AreWide (mask_after f to)
mask_wide f None = tt
mask_wide f (Some d) = masks_wide f (is_data_register d) d

after_wide : (f : Format) (step : Bool) (i : Instr) → AreWide (after f step i)
after_wide f true i = tt
after_wide f false i = mask_wide f (destination i)

moved_wide : (f : Format) (i : Instr) → AreWide (moved f i)
moved_wide f (OpImm op d a imm) = data_mask_wide f d a
moved_wide f (Op op d b a) = data_mask_wide f d a
moved_wide f _ = tt

-- ---- an expansion as it is laid is one, with or without 16-bit forms

one_laid : (s : BundleSlot) (slots laid : List BundleSlot) → slots ≡ s ∷ [] → AreAsLaid slots laid → (laid ≡ s ∷ []) ⊎ (laid ≡ alone s ∷ [])
one_laid s slots laid e h = cases laid (subst (λ v. AreAsLaid v laid) e h)
  where
    cases : (laid : List BundleSlot) → AreAsLaid (s ∷ []) laid → (laid ≡ s ∷ []) ⊎ (laid ≡ alone s ∷ [])
    cases [] h = absurd h
    cases (x ∷ []) h = elim h.0 [ inl e ↦ inl (ap (λ y. y ∷ []) e) | inr e ↦ inr (ap (λ y. y ∷ []) e) ]
    cases (x ∷ y ∷ laid) h = absurd h.1

alone_laid : (rvc : Bool) (i : Instr) (slots laid : List BundleSlot) → IsAlone rvc i slots → AreAsLaid slots laid → (r : Bool) × IsAlone r i laid
alone_laid false i slots laid e h = elim (one_laid (Wide i) slots laid e h) [ inl l ↦ (false, l) | inr l ↦ (false, l) ]
alone_laid true i slots laid (inl f) h =
    elim (one_laid (Short f.0) slots laid f.2 h) [
      | inl l ↦ (true, inl (f.0, f.1, l))
      | inr l ↦ (false, l ∙ ap (λ j. Wide j ∷ []) f.1.expands)
    ]
alone_laid true i slots laid (inr w) h = elim (one_laid (Wide i) slots laid w.1 h) [ inl l ↦ (false, l) | inr l ↦ (false, l) ]

confined_laid : (f : Format) (rvc : Bool) (i : Instr) (slots laid : List BundleSlot) → IsConfined f rvc i slots → AreAsLaid slots laid → (r : Bool) × IsConfined f r i laid
confined_laid f rvc (Load kind rd a imm) slots laid e h = alone_laid rvc (Load kind rd (base_of f a) imm) slots laid e h
confined_laid f rvc (Store width a rs2 imm) slots laid e h = alone_laid rvc (Store width (base_of f a) rs2 imm) slots laid e h
confined_laid f rvc (Jalr rd a imm) slots laid e h = elim (one_laid (Wide (Jalr rd 30 imm)) slots laid e h) [ inl l ↦ (rvc, l) | inr l ↦ (rvc, l) ]
confined_laid f rvc other slots laid e h = alone_laid rvc other slots laid e h

around_laid : (f : Format) (rvc step : Bool) (i : Instr) (slots laid : List BundleSlot) → IsAround f rvc step i slots → AreAsLaid slots laid → (r : Bool) × IsAround f r step i laid
around_laid f rvc step i slots laid e h =
    let one = apart (before f i) (e.0 ++ after f step i) laid (subst (λ v. AreAsLaid v laid) e.2 h) in
    let two = apart e.0 (after f step i) one.rest one.are_rest in
    let first = wide_stays (before f i) one.first (before_wide f i) one.are_first in
    let last = wide_stays (after f step i) two.rest (after_wide f step i) two.are_rest in
    let mid = confined_laid f rvc i e.0 two.first e.1 two.are_first in
    (mid.0, (two.first, mid.1, one.both ∙ ap (λ v. v ++ one.rest) first ∙ ap (λ v. before f i ++ v) (two.both ∙ ap (λ v. two.first ++ v) last)))

plain_laid : (f : Format) (moves rvc step : Bool) (i : Instr) (slots laid : List BundleSlot) → MatchBool moves (slots ≡ moved f i) (IsAround f rvc step i slots) → AreAsLaid slots laid
    → (r : Bool) × MatchBool moves (laid ≡ moved f i) (IsAround f r step i laid)
plain_laid f true rvc step i slots laid e h = (rvc, wide_stays (moved f i) laid (moved_wide f i) (subst (λ v. AreAsLaid v laid) e h))
plain_laid f false rvc step i slots laid e h = around_laid f rvc step i slots laid e h

pub body_laid : (f : Format) (line : ℕ) (rvc step : Bool) (body : Body) (slots laid : List BundleSlot) → IsExpansionOf f line rvc step body slots → AreAsLaid slots laid → (r : Bool) × IsExpansionOf f line r step body laid
body_laid f line rvc step (Plain i) slots laid e h = plain_laid f (is_move i && not step) rvc step i slots laid e h
body_laid f line rvc step (To i name) slots laid e h = (rvc, wide_stays (Jump i name line ∷ []) laid (refl, tt) (subst (λ v. AreAsLaid v laid) e h))
body_laid f line rvc step (High rd name) slots laid e h =
    (rvc, wide_stays (Upper rd name line ∷ mask_after f (Some rd)) laid (refl, mask_wide f (Some rd)) (subst (λ v. AreAsLaid v laid) e h))
body_laid f line rvc step (Low rd name) slots laid e h =
    (rvc, wide_stays (Lower rd name line ∷ mask_after f (Some rd)) laid (refl, mask_wide f (Some rd)) (subst (λ v. AreAsLaid v laid) e h))
body_laid f line rvc step (Base rd name) slots laid e h =
    (rvc, wide_stays (Region rd name line ∷ mask_after f (Some rd)) laid (refl, mask_wide f (Some rd)) (subst (λ v. AreAsLaid v laid) e h))

laid_acts : (f : Format) (x : Item) (later : List Item) (expanded own : List BundleSlot) (i : Instr) → has_words f ≡ true → MayBe x.body i → IsPermitted f x → IsExpansion f x later expanded → AreAsLaid expanded own → ActsAs f (is_step_before_use x later) i own
laid_acts f x later expanded own i is_in_words be p is h =
    let r = body_laid f x.line x.rvc (is_step_before_use x later) x.body expanded own is h in
    body_acts f x.line r.0 (is_step_before_use x later) x.body i own is_in_words be p.operands (unbarred f x is_in_words p) (plain_steps x later) r.1

-- ---- what stands before a label

same_front : (a b c d : List BundleSlot) → a ++ b ≡ c ++ d → length a ≡ length c → a ≡ c
same_front [] b [] d e l = refl
same_front [] b (y ∷ c) d e l = absurd (omega arith)
same_front (x ∷ a) b [] d e l = absurd (omega arith)
same_front (x ∷ a) b (y ∷ c) d e l =
    let first : x ≡ y = cc in
    let rest : a ++ b ≡ c ++ d = cc in
    ap (λ z. z ∷ a) first ∙ ap (λ v. y ∷ v) (same_front a b c d rest (omega arith))

laid_length : (slots laid : List BundleSlot) → AreAsLaid slots laid → length laid ≡ length slots
laid_length [] [] h = refl
laid_length [] (x ∷ laid) h = absurd h
laid_length (s ∷ slots) [] h = absurd h
laid_length (s ∷ slots) (x ∷ laid) h = let rest = laid_length slots laid h.1 in omega arith

words_before : (front : List Marked) (labelled : Bool) (slots : List BundleSlot) (rest : List Marked) → labelled ≡ true → AreSome slots
    → in_words (front ++ (marked labelled slots ++ rest)) ≡ in_words front ++ in_words (marked labelled slots ++ rest)
words_before front true slots rest l some =
    subst (λ v. in_words (front ++ (marked true v ++ rest)) ≡ in_words front ++ in_words (marked true v ++ rest)) (sym some.are) (words_at_label front some.first (marked false some.rest ++ rest))
words_before front false slots rest l some = absurd (true≢false (sym l))

-- what is laid before a slot with a label are the words of the slots before it
label_words : (front all rest : List Marked) (labelled : Bool) (slots first later : List BundleSlot) → AreSome slots → all ≡ front ++ (marked labelled slots ++ rest) → in_words all ≡ first ++ later
    → AreAsLaid (map (λ m. m.1) front) first → labelled ≡ true → first ≡ in_words front
label_words front all rest labelled slots first later some parts both laid l =
    let lengths : length first ≡ length (in_words front) =
    laid_length (map (λ m. m.1) front) first laid ∙ sym (laid_length (map (λ m. m.1) front) (in_words front) (as_laid front (in_words front) (view front))) in
    let words : first ++ later ≡ in_words front ++ in_words (marked labelled slots ++ rest) = sym both ∙ ap (λ v. in_words v) parts ∙ words_before front labelled slots rest l some in
    same_front first later (in_words front) (in_words (marked labelled slots ++ rest)) words lengths

-- ---- an item among the others

pub slots_of_marked : (labelled : Bool) (slots : List BundleSlot) → map (λ m. m.1) (marked labelled slots) ≡ slots
slots_of_marked labelled [] = refl
slots_of_marked labelled (s ∷ slots) = ap (λ v. s ∷ v) (slots_of_marked false slots)

pub stands_in_words : (f : Format) (items : List Item) (p : Placement) (slots : List BundleSlot) (k : ℕ) (x : Item) → has_words f ≡ true → AreLaid f items slots → slots_of p.bundles ≡ slots → All (IsPermitted f) items
    → slice_get items k ≡ Some x → StandsTransparentInWords f items p k x
stands_in_words f items p slots k x is_in_words l code permitted at =
    let within : k < length items = slice_get_within items k x at in
    let is = get_or_from_slice_get items k x x at in
    let from : drop k items ≡ x ∷ drop (k + 1) items = drop_more items k x within ∙ ap (λ (y : Item). y ∷ drop (k + 1) items) is in
    let parts : items ≡ take k items ++ drop k items = sym (take-append-drop k items) in
    let s = expanded_split f (take k items) (drop k items) [] l.0 (subst (λ v. AreExpanded f v [] l.0) parts l.1) in
    let rest : AreExpanded f (x ∷ drop (k + 1) items) [] s.back = subst (λ v. AreExpanded f v [] s.back) from s.after in
    let expanded = rest.0 in
    let expansion : IsExpansion f x (drop (k + 1) items) expanded = subst (λ v. IsExpansion f x v expanded) (append-nil (drop (k + 1) items)) rest.2 in
    let all : map (λ m. m.1) l.0 ≡ map (λ m. m.1) s.front ++ (expanded ++ map (λ m. m.1) rest.1) =
    ap (λ v. map (λ m. m.1) v) s.both ∙ map-append (λ m. m.1) s.front s.back
    ∙ ap (λ v. map (λ m. m.1) s.front ++ v) (ap (λ v. map (λ m. m.1) v) rest.3 ∙ map-append (λ m. m.1) (marked x.labelled expanded) rest.1 ∙ ap (λ v. v ++ map (λ m. m.1) rest.1) (slots_of_marked x.labelled expanded)) in
    let laid : AreAsLaid (map (λ m. m.1) s.front ++ (expanded ++ map (λ m. m.1) rest.1)) (in_words l.0) = subst (λ v. AreAsLaid v (in_words l.0)) all (as_laid l.0 (in_words l.0) (view l.0)) in
    let one = apart (map (λ m. m.1) s.front) (expanded ++ map (λ m. m.1) rest.1) (in_words l.0) laid in
    let two = apart expanded (map (λ m. m.1) rest.1) one.rest one.are_rest in
    let earlier : AreExpanded f (take k items) (drop k items) s.front = subst (λ v. AreExpanded f (take k items) v s.front) (append-nil (drop k items)) s.before in
    let all_parts : l.0 ≡ s.front ++ (marked x.labelled expanded ++ rest.1) = s.both ∙ ap (λ v. s.front ++ v) rest.3 in
    let some = expansion_of_some f x.line x.rvc (is_step_before_use x (drop (k + 1) items)) x.body expanded expansion in
    let may : IsPermitted f x = subst (IsPermitted f) is (All-get_or (IsPermitted f) items k x within permitted) in
    record {
      before = one.first;
      own = two.first;
      after = two.rest;
      placed = code ∙ l.2 ∙ one.both ∙ ap (λ v. one.first ++ v) two.both;
      earlier = s.front;
      are_earlier = earlier;
      stand_earlier = one.are_first;
      at_label = λ e. (s.front, earlier, label_words s.front l.0 rest.1 x.labelled expanded one.first one.rest some all_parts one.both one.are_first e);
      expanded = expanded;
      is_expansion = expansion;
      stands = two.are_first;
      transparent = λ i be. laid_acts f x (drop (k + 1) items) expanded two.first i is_in_words be may expansion two.are_first;
    }

-- ==== Each instruction of a source stands transparent in what is placed.

regrouped : (front nops expanded rest pad : List BundleSlot) → (front ++ (nops ++ (expanded ++ rest))) ++ pad ≡ front ++ (nops ++ (expanded ++ (rest ++ pad)))
regrouped front nops expanded rest pad =
    append_assoc front (nops ++ (expanded ++ rest)) pad
    ∙ ap (λ v. front ++ v) (append_assoc nops (expanded ++ rest) pad ∙ ap (λ v. nops ++ v) (append_assoc expanded rest pad))

stand_in_bundles : (f : Format) (items : List Item) (p : Placement) (slots : List BundleSlot) (nops : ℕ) (k : ℕ) (x : Item) → AreLaidFrom f 0 items slots
    → slots_of p.bundles ≡ slots ++ replicate nops c_nop → All (IsPermitted f) items → slice_get items k ≡ Some x → StandsTransparent f items p k x
stand_in_bundles f items p slots nops k x laid code permitted at =
    let split = laid_split f 0 items k slots laid in
    let within : k < length items = slice_get_within items k x at in
    let here : drop k items ≡ x ∷ drop (k + 1) items =
    drop_more items k x within ∙ ap (λ (y : Item). y ∷ drop (k + 1) items) (get_or_from_slice_get items k x x at) in
    let from : 0 + size_of split.front ≡ size_of split.front = omega arith in
    let after : AreLaidFrom f (size_of split.front) (x ∷ drop (k + 1) items) split.back =
    subst (λ (l : List Item). AreLaidFrom f (size_of split.front) l split.back) here (subst (λ (n : ℕ). AreLaidFrom f n (drop k items) split.back) from split.after) in
    let is : IsPermitted f x = subst (IsPermitted f) (get_or_from_slice_get items k x x at) (All-get_or (IsPermitted f) items k x within permitted) in
    record {
      before = split.front;
      laid = split.before;
      nops = after.0;
      expanded = after.1;
      next = after.3;
      after = after.2 ++ replicate nops c_nop;
      placed =
          code ∙ ap (λ v. v ++ replicate nops c_nop) (split.both ∙ ap (λ v. split.front ++ v) after.4)
          ∙ regrouped split.front (replicate after.0 c_nop) after.1 after.2 (replicate nops c_nop);
      transparent = λ i be. all_transparent f x i after.1 be is after.3.expansion;
    }

stand_in : (f : Format) (items : List Item) (p : Placement) (slots : List BundleSlot) (labelled : Type 0) (nops : ℕ) (k : ℕ) (x : Item) → AreLaidIn (has_words f) f items [] slots → FillsEndIn (has_words f) (size_of slots) labelled nops
    → slots_of p.bundles ≡ slots ++ replicate nops c_nop → All (IsPermitted f) items → slice_get items k ≡ Some x → StandsAs f items p k x
stand_in f items p slots labelled nops k x l end code permitted at = by (has_words f) refl l end
  where
    by : (w : Bool) → has_words f ≡ w → AreLaidIn w f items [] slots → FillsEndIn w (size_of slots) labelled nops → MatchBool w (StandsTransparentInWords f items p k x) (StandsTransparent f items p k x)
    by true e l end = stands_in_words f items p slots k x e l (code ∙ ap (λ n. slots ++ replicate n c_nop) end ∙ append-nil slots) permitted at
    by false e l end = stand_in_bundles f items p slots nops k x l code permitted at

pub stand_transparent : RewrittenIsTransparent
stand_transparent s p r k x at =
    let q = r.placement in
    stand_in s.format s.items p q.slots (HasEndLabel s) q.nops k x q.laid q.end q.code (all_fit (has_words s.format) s.format s.items q.slots q.laid r.faultless).permitted at

-- each sandbox of the source stands transparent in what is placed
pub all_stand : (source : List Sandbox) (placed : List Placement) → AllZip IsRewritten source placed → AllZip StandTransparent source placed
all_stand [] [] z = z
all_stand [] (p ∷ placed) z = absurd z
all_stand (s ∷ source) [] z = absurd z
all_stand (s ∷ source) (p ∷ placed) z = (stand_transparent s p z.0, all_stand source placed z.1)
