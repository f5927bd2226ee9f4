-- The items of code in words, laid one after another.
use Rattle.sfi_rewrite.proofs.Prelude.{◌≡◌, ℕ, ◌+◌, ◌<◌, ◌≤◌, Bool, true, false, List, [], ◌∷◌, ◌++◌, length, take, drop, get_or, Some, refl, sym, ap, ◌∙◌, subst, arith, append_assoc, append-nil, true≢false, inl, inr, MatchBool, if◌then◌else◌, ◌&&◌, and_parts, take_more, All, Instr, Load, Store, Jalr, Body, Plain, To, High, Low, Base, Item, BundleSlot, Wide, Upper, Lower, Region, Short, Jump, IsAlone, IsPermitted, UnlessMemory, RewriteFault, Op, OpImm, And, Or, built_code_most, Format, has_single_mask, not, take-append-drop, IfOk-weaker, IfErr-weaker, TooLarge, Memory, AreFaultless, IsItemFault, IsLabelAt, Marked, marked, in_words, AreExpanded, AreLaidBefore}
use Rattle.std.specs.Prelude.{Result, IfOk, IfErr}
use Rattle.sfi_rewrite.specs.words.Expansion.{IsConfined, IsAround, IsExpansionOf, IsExpansion, before, after, base_of, is_step_before_use, is_move, moved, mask_after}
use Rattle.sfi_rewrite.specs.private.{WordsSoFar, bytes_of, waiting_size, more_for, ended, before_label, with_slot, with_slots, with_more, LeadsTo, HaveRoom, AreWith, IsBeyond, HasNoRoom, AreOfFirst}
use Rattle.sfi_rewrite.proofs.OneByOne.{StandsAt, room_fault}
use Rattle.sfi_rewrite.proofs.WordLaying.{ended_leads, ended_last, slot_bytes, slot_aligned, ended_bytes, ended_aligned, ended_none, slots_append, slots_push, slots_more, slots_lead}

-- ---- one slot

-- the code with the first k + 1 slots, where they have room
pub next_slots : (old code new : WordsSoFar) (slots : List BundleSlot) (k : ℕ) (s : BundleSlot) → k < length slots → s ≡ get_or slots k s
    → code ≡ with_slots old (take k slots) → new ≡ with_slot code.words code.waiting s → new ≡ with_slots old (take (k + 1) slots)
next_slots old code new slots k s h at e n =
    let more : take (k + 1) slots ≡ take k slots ++ s ∷ [] = take_more slots k s h ∙ ap (λ y. take k slots ++ y ∷ []) (sym at) in
    n ∙ ap (λ w. with_slot w.words w.waiting s) e ∙ sym (slots_push old (take k slots) s) ∙ ap (λ v. with_slots old v) (sym more)

pub next_room : (f : Format) (code new : WordsSoFar) (s : BundleSlot) → HaveRoom f code → bytes_of code + more_for code.waiting s ≤ built_code_most f → new ≡ with_slot code.words code.waiting s → HaveRoom f new
next_room f code new s room h n =
    let bytes = slot_bytes code.words code.waiting s in
    rw n (record { aligned = slot_aligned code.words code.waiting s room.aligned; fits = omega arith })

pub beyond : (f : Format) (sandbox : ℕ) (old code : WordsSoFar) (slots : List BundleSlot) (k : ℕ) (s : BundleSlot) → k < length slots → s ≡ get_or slots k s
    → code ≡ with_slots old (take k slots) → built_code_most f < bytes_of code + more_for code.waiting s → IsBeyond f sandbox (with_slots old slots) (TooLarge sandbox)
beyond f sandbox old code slots k s h at e over =
    let one_more = with_slot code.words code.waiting s in
    let all : with_slots old slots ≡ with_slots one_more (drop (k + 1) slots) =
    ap (λ v. with_slots old v) (sym (take-append-drop (k + 1) slots)) ∙ slots_append old (take (k + 1) slots) (drop (k + 1) slots)
    ∙ ap (λ w. with_slots w (drop (k + 1) slots)) (sym (next_slots old code one_more slots k s h at e refl)) in
    let bytes = slot_bytes code.words code.waiting s in
    let more = slots_more one_more (drop (k + 1) slots) in
    rw all (record { beyond = omega arith; fault_is = refl })

-- ---- an item's slots

-- some slots
pub record AreSome (slots : List BundleSlot) : Type 0 where
  pub first : BundleSlot
  pub rest : List BundleSlot
  pub are : slots ≡ first ∷ rest

alone_some : (rvc : Bool) (i : Instr) (slots : List BundleSlot) → IsAlone rvc i slots → AreSome slots
alone_some false i slots e = record { first = Wide i; rest = []; are = e }
alone_some true i slots (inl s) = record { first = Short s.0; rest = []; are = s.2 }
alone_some true i slots (inr w) = record { first = Wide i; rest = []; are = w.1 }

confined_some : (f : Format) (rvc : Bool) (i : Instr) (slots : List BundleSlot) → IsConfined f rvc i slots → AreSome slots
confined_some f rvc (Load kind rd a imm) slots e = alone_some rvc (Load kind rd (base_of f a) imm) slots e
confined_some f rvc (Store width a rs2 imm) slots e = alone_some rvc (Store width (base_of f a) rs2 imm) slots e
confined_some f rvc (Jalr rd a imm) slots e = record { first = Wide (Jalr rd 30 imm); rest = []; are = e }
confined_some f rvc other slots e = alone_some rvc other slots e

append_some : (xs ys zs : List BundleSlot) → AreSome ys → AreSome (xs ++ (ys ++ zs))
append_some [] ys zs s = record { first = s.first; rest = s.rest ++ zs; are = ap (λ v. v ++ zs) s.are }
append_some (x ∷ xs) ys zs s = record { first = x; rest = xs ++ (ys ++ zs); are = refl }

mask_some : (one : Bool) (d a : ℕ) → AreSome (if one then Wide (Op And d a 27) ∷ [] else Wide (Op And 31 a 27) ∷ Wide (Op Or d 31 26) ∷ [])
mask_some true d a = record { first = Wide (Op And d a 27); rest = []; are = refl }
mask_some false d a = record { first = Wide (Op And 31 a 27); rest = Wide (Op Or d 31 26) ∷ []; are = refl }

moved_some : (f : Format) (i : Instr) → is_move i ≡ true → AreSome (moved f i)
moved_some f (OpImm op d a imm) h = mask_some (has_single_mask f) d a
moved_some f (Op op d b a) h = mask_some (has_single_mask f) d a
moved_some f other h = absurd (true≢false (sym h))

plain_some : (f : Format) (move step rvc : Bool) (i : Instr) (slots : List BundleSlot) → (move ≡ true → is_move i ≡ true) → MatchBool move (slots ≡ moved f i) (IsAround f rvc step i slots) → AreSome slots
plain_some f true step rvc i slots m e = subst AreSome (sym e) (moved_some f i (m refl))
plain_some f false step rvc i slots m e = subst AreSome (sym e.2) (append_some (before f i) e.0 (after f step i) (confined_some f rvc i e.0 e.1))

pub expansion_of_some : (f : Format) (line : ℕ) (rvc step : Bool) (body : Body) (slots : List BundleSlot) → IsExpansionOf f line rvc step body slots → AreSome slots
expansion_of_some f line rvc step (Plain i) slots e = plain_some f (is_move i && not step) step rvc i slots (λ both. (and_parts (is_move i) (not step) both).0) e
expansion_of_some f line rvc step (To i name) slots e = record { first = Jump i name line; rest = []; are = e }
expansion_of_some f line rvc step (High rd name) slots e = record { first = Upper rd name line; rest = mask_after f (Some rd); are = e }
expansion_of_some f line rvc step (Low rd name) slots e = record { first = Lower rd name line; rest = mask_after f (Some rd); are = e }
expansion_of_some f line rvc step (Base rd name) slots e = record { first = Region rd name line; rest = mask_after f (Some rd); are = e }

-- where a label comes, or not
begun_leads : (old : WordsSoFar) (labelled : Bool) (slots : List BundleSlot) → AreSome slots → LeadsTo old (marked labelled slots) (with_slots (before_label labelled old.words old.waiting) slots)
begun_leads old false slots some more = slots_lead old false slots (λ t. absurd (true≢false (sym t))) more
begun_leads old true slots some more =
    let e : with_more old (marked true slots ++ more) ≡ with_more (ended old.words old.waiting) (marked true slots ++ more) =
    subst (λ v. with_more old (marked true v ++ more) ≡ with_more (ended old.words old.waiting) (marked true v ++ more)) (sym some.are)
    (ended_leads old.words old.waiting some.first (marked false some.rest ++ more)) in
    e ∙ slots_lead (ended old.words old.waiting) true slots (λ t. ended_none old.words old.waiting) more

pub with_item : (f : Format) (x : Item) (later : List Item) (old begun new : WordsSoFar) (expanded : List BundleSlot)
    → IsExpansion f x later expanded → begun ≡ before_label x.labelled old.words old.waiting → new ≡ with_slots begun expanded → AreWith f x later old new
with_item f x later old begun new expanded is b n =
    record {
      expanded = expanded;
      is_expansion = is;
      lead =
          rw (n, b)
          (begun_leads old x.labelled expanded (expansion_of_some f x.line x.rvc (is_step_before_use x later) x.body expanded is));
    }

pub begun_room : (f : Format) (label : Bool) (old begun : WordsSoFar) → HaveRoom f old → begun ≡ before_label label old.words old.waiting → HaveRoom f begun
begun_room f false old begun room b = rw b room
begun_room f true old begun room b =
    let bytes = ended_bytes old.words old.waiting in
    let none = ap waiting_size (ended_none old.words old.waiting) in
    let fits = room.fits in
    rw b (record { aligned = ended_aligned old.words old.waiting room.aligned; fits = omega arith })

pub no_room : (f : Format) (sandbox : ℕ) (x : Item) (later : List Item) (old begun : WordsSoFar) (expanded : List BundleSlot) (fault : RewriteFault)
    → IsExpansion f x later expanded → begun ≡ before_label x.labelled old.words old.waiting → UnlessMemory (IsBeyond f sandbox (with_slots begun expanded)) fault
    → UnlessMemory (HasNoRoom f sandbox x later old) fault
no_room f sandbox x later old begun expanded Memory is b h = tt
no_room f sandbox x later old begun expanded other is b h =
    record { new = with_slots begun expanded; are_with = with_item f x later old begun (with_slots begun expanded) expanded is b refl; is_beyond = h }

pub item_laid : (f : Format) {T E : Type 0} (r : Result T E) (x : Item) (later : List Item) (old begun new : WordsSoFar) (expanded slots : List BundleSlot)
    → IsExpansion f x later expanded → slots ≡ expanded → begun ≡ before_label x.labelled old.words old.waiting → IfOk r (λ _. new ≡ with_slots begun slots) → IfOk r (λ _. AreWith f x later old new)
item_laid f r x later old begun new expanded slots is e b h =
    IfOk-weaker r (λ _. new ≡ with_slots begun slots) (λ _. AreWith f x later old new) (λ _ n. with_item f x later old begun new expanded is b (n ∙ ap (λ v. with_slots begun v) e)) h

pub item_refused : (f : Format) {T : Type 0} (r : Result T RewriteFault) (sandbox : ℕ) (x : Item) (later : List Item) (old begun : WordsSoFar) (expanded slots : List BundleSlot)
    → IsExpansion f x later expanded → slots ≡ expanded → begun ≡ before_label x.labelled old.words old.waiting → IfErr r (UnlessMemory (IsBeyond f sandbox (with_slots begun slots)))
    → IfErr r (UnlessMemory (HasNoRoom f sandbox x later old))
item_refused f r sandbox x later old begun expanded slots is e b h =
    IfErr-weaker r (UnlessMemory (IsBeyond f sandbox (with_slots begun slots))) (UnlessMemory (HasNoRoom f sandbox x later old))
    (λ fault wrong. no_room f sandbox x later old begun expanded fault is b (subst (λ v. UnlessMemory (IsBeyond f sandbox (with_slots begun v)) fault) e wrong)) h

-- ---- the first items

-- the expansions with that of another item at the end
expanded_push : (f : Format) (items : List Item) (x : Item) (later : List Item) (slots : List Marked) (expanded : List BundleSlot)
    → AreExpanded f items (x ∷ later) slots → IsExpansion f x later expanded → AreExpanded f (items ++ x ∷ []) later (slots ++ marked x.labelled expanded)
expanded_push f [] x later slots expanded e is =
    (expanded, [], is, ap (λ v. v ++ marked x.labelled expanded) e ∙ sym (append-nil (marked x.labelled expanded)), refl)
expanded_push f (y ∷ items) x later slots expanded e is =
    let same : items ++ x ∷ later ≡ (items ++ x ∷ []) ++ later = sym (append_assoc items (x ∷ []) later) in (
      e.0,
      e.1 ++ marked x.labelled expanded,
      subst (λ v. IsExpansion f y v e.0) same e.2,
      ap (λ v. v ++ marked x.labelled expanded) e.3 ∙ append_assoc (marked y.labelled e.0) e.1 (marked x.labelled expanded),
      expanded_push f items x later e.1 expanded e.4 is,
    )

pub next_first : (f : Format) (items : List Item) (k : ℕ) (x : Item) (later : List Item) (old new : WordsSoFar)
    → StandsAt items k x → later ≡ drop (k + 1) items → AreOfFirst f k items old → AreWith f x later old new → AreOfFirst f (k + 1) items new
next_first f items k x later old new at l first next =
    let expanded = first.expanded ++ marked x.labelled next.expanded in
    record {
      expanded = expanded;
      are_expanded =
          subst (λ v. AreExpanded f v (drop (k + 1) items) expanded) (sym at.more)
          (expanded_push f (take k items) x (drop (k + 1) items) first.expanded next.expanded
          (subst (λ v. AreExpanded f (take k items) v first.expanded) at.from first.are_expanded)
          (subst (λ v. IsExpansion f x v next.expanded) l next.is_expansion));
      lead = λ more.
          ap (λ v. in_words v) (append_assoc first.expanded (marked x.labelled next.expanded) more)
          ∙ first.lead (marked x.labelled next.expanded ++ more) ∙ next.lead more;
    }

-- the slots of the first items
pub first_laid : (f : Format) (items : List Item) (k : ℕ) (w : WordsSoFar) → AreOfFirst f k items w → AreLaidBefore f (take k items) (drop k items) (ended w.words w.waiting).words
first_laid f items k w first =
    (first.expanded, first.are_expanded, sym (ended_last w.words w.waiting) ∙ sym (first.lead []) ∙ ap (λ v. in_words v) (append-nil first.expanded))

pub first_label : (f : Format) (items : List Item) (k place : ℕ) (w : WordsSoFar) → AreOfFirst f k items w → place ≡ bytes_of w → IsLabelAt true f items k place
first_label f items k place w first e = ((ended w.words w.waiting).words, first_laid f items k w first, e ∙ sym (ended_bytes w.words w.waiting))

-- the first k items have no fault
pub first_faultless : (f : Format) (items : List Item) (k : ℕ) (w : WordsSoFar) → All (IsPermitted f) (take k items) → AreOfFirst f k items w → HaveRoom f w → AreFaultless true f k items (ended w.words w.waiting).words
first_faultless f items k w p first room =
    let bytes = ended_bytes w.words w.waiting in
    let fits = room.fits in
    record { permitted = p; laid = first_laid f items k w first; fits = omega arith }

pub no_room_fault : (f : Format) (sandbox : ℕ) (items : List Item) (k : ℕ) (x : Item) (later : List Item) (w : WordsSoFar) (fault : RewriteFault)
    → StandsAt items k x → later ≡ drop (k + 1) items → All (IsPermitted f) (take k items) → IsPermitted f x → AreOfFirst f k items w → HaveRoom f w
    → HasNoRoom f sandbox x later w fault → IsItemFault true f sandbox items fault
no_room_fault f sandbox items k x later w fault at l p permitted first room h =
    let new = h.new in
    let next = next_first f items k x later w new at l first h.are_with in
    let bytes = ended_bytes new.words new.waiting in
    let over = h.is_beyond.beyond in
    subst (λ g. IsItemFault true f sandbox items g) (sym h.is_beyond.fault_is)
    (room_fault true f sandbox items k x (ended w.words w.waiting).words at (first_faultless f items k w p first room) permitted
    ((ended new.words new.waiting).words, first_laid f items (k + 1) new next, omega arith))

pub all_faultless : (f : Format) (items : List Item) (n : ℕ) (w : WordsSoFar) (slots : List BundleSlot) → length items ≤ n → n ≤ length items → All (IsPermitted f) (take n items) → AreOfFirst f n items w → HaveRoom f w
    → slots ≡ (ended w.words w.waiting).words → AreFaultless true f (length items) items slots
all_faultless f items n w slots low high p first room e =
    rw e (subst (λ (m : ℕ). AreFaultless true f m items (ended w.words w.waiting).words) (let z : n ≡ length items = omega arith in z) (first_faultless f items n w p first room))
