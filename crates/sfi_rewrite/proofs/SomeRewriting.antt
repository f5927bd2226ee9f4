-- A source is rewritten, or has a fault.
use Rattle.sfi_rewrite.proofs.Prelude.{◌≡◌, ℕ, zero, suc, ◌+◌, ◌-◌, ◌*◌, ◌/◌, ◌%◌, ◌<◌, ◌≤◌, List, [], ◌∷◌, ◌++◌, length, take, get_or, replicate, refl, sym, ap, ◌∙◌, subst, arith, append_assoc, append-nil, inl, inr, ◌⊎◌, Bool, true, false, MatchBool, Contains, All-nil, Some, drop, ◌&&◌, AllZip, cases_lt, cases_eq, cases_Bool, false≢true, take_all, get_or_default, Contains-append_right, Instr, Load, Store, Jalr, Ecall, Format, built_code_most, is_stack, Item, Body, Plain, To, High, Low, Base, Named, Gate, Code, Data, Unknown, Sandbox, named, BundleSlot, Wide, Short, Jump, Upper, Lower, Region, RewriteFault, PlacedName, size_of, slots_of, c_nop, writes_stack, is_on_stack, is_stack_write, stack_pair, put_back, data_pair_slots, jump_slots, IsAlone, IsMasked, IsExpansionOf, IsExpansion, is_call, next_bundle, FillsGap, Placement, IsPlacedName, HasEndLabel, FillsEnd, AreBundles, IsPermitted, AreFaultless, HasItemFault, IsItemFault, IsSourceFault, IsRewritten, AreRewritten, SomeRewriting, bundle_size, Sfi1, not, AreLaidIn, FillsEndIn, IsConfined, IsAround, base_of, before, after, is_move, moved, mask_after, is_step_before_use, Marked, marked, alone, in_words, AreExpanded, AreLaidBefore, item_names_withheld, is_ecall, AreLaidFrom, IsFaultless, label_place, has_words}
use Rattle.sfi_rewrite.specs.Rewriting.{is_barred_jump}
use Rattle.sfi_rewrite.specs.words.Expansion as words_expansion
use Rattle.sfi_rewrite.proofs.WordLaying.{InWords, no_word, two_forms, one_slot, view}
use Rattle.std.proofs.lemmas.Map.Made.{Contains-tail}
use Rattle.rv_comp.proofs.Facts.{some_first_form}
use Rattle.sfi_rewrite.specs.declared.fault.RewriteFault.TheVariants as fault
use Rattle.sfi_rewrite.specs.declared.placed.PlacedName.TheVariants as placed
use Rattle.sfi_rewrite.proofs.Sizes.{size_even, size_of-append, size_of-cons, expansion_one, size_nops}
use Rattle.sfi_rewrite.proofs.Bundles.{slots_of-push, begun, grown, nop_fits}
use Rattle.sfi_rewrite.proofs.OneByOne.{fits_bundle, item_fault, next_permitted, room_fault, stands_at, some_room}
use Rattle.sfi_rewrite.proofs.Sources.{faulty, parts_push}
use Rattle.sfi_rewrite.proofs.WordLaid.{laid_of}

-- ---- the expansion of an item

some_alone : (rvc : Bool) (i : Instr) → (slots : List BundleSlot) × IsAlone rvc i slots
some_alone false i = (Wide i ∷ [], refl)
some_alone true i =
    elim (some_first_form i) [
      | inl form ↦ (Short form.0 ∷ [], inl (form.0, form.1, refl))
      | inr none ↦ (Wide i ∷ [], inr (none, refl))
    ]

some_masked : (rvc : Bool) (i : Instr) → (slots : List BundleSlot) × IsMasked rvc i slots
some_masked rvc (Load kind rd a imm) = (data_pair_slots a ++ Wide (Load kind rd 31 imm) ∷ [], refl)
some_masked rvc (Store width a rs2 imm) = (data_pair_slots a ++ Wide (Store width 31 rs2 imm) ∷ [], refl)
some_masked rvc (Jalr rd a imm) = (jump_slots rd a imm, refl)
some_masked rvc other = some_alone rvc other

some_plain : (writes on rvc : Bool) (i : Instr)
    → (slots : List BundleSlot) × MatchBool writes (slots ≡ Wide i ∷ stack_pair) (MatchBool on (IsAlone rvc i slots) (IsMasked rvc i slots))
some_plain true on rvc i = (Wide i ∷ stack_pair, refl)
some_plain false true rvc i = some_alone rvc i
some_plain false false rvc i = some_masked rvc i

some_expansion_of : (f : Format) (line : ℕ) (rvc : Bool) (body : Body) → (slots : List BundleSlot) × IsExpansionOf f line rvc body slots
some_expansion_of f line rvc (Plain i) = some_plain (writes_stack f i) (is_on_stack f i) rvc i
some_expansion_of f line rvc (To i name) = (Jump i name line ∷ [], refl)
some_expansion_of f line rvc (High rd name) = (Upper rd name line ∷ put_back (is_stack f rd), refl)
some_expansion_of f line rvc (Low rd name) = (Lower rd name line ∷ put_back (is_stack f rd), refl)
some_expansion_of f line rvc (Base rd name) = (Region rd name line ∷ put_back (is_stack f rd), refl)

some_expansion : (f : Format) (x : Item) → (slots : List BundleSlot) × IsExpansion f x slots
some_expansion f x = some_expansion_of f x.line x.rvc x.body

-- ---- its place

-- where neither a label nor a call asks for more
gap_free : (end size : ℕ) → end % 2 ≡ 0 → size ≤ 16 → (nops : ℕ) × FillsGap end false false size nops
gap_free end size even few =
    elim (cases_lt 16 (end % 16 + size)) [
      | inl over ↦
          let nops = (16 - end % 16) / 2 in
          let at : end + 2 * ((16 - end % 16) / 2) ≡ end - end % 16 + 16 = omega arith in (
            nops,
            record {
              stands = record { after = omega arith; at_label = λ t. absurd (false≢true t); in_bundle = omega arith; returns = λ t. absurd (false≢true t) };
              first = λ here m. let a = m.after in let b = m.in_bundle in omega arith;
            },
          )
      | inr within ↦ (
        0,
        record {
          stands = record { after = omega arith; at_label = λ t. absurd (false≢true t); in_bundle = omega arith; returns = λ t. absurd (false≢true t) };
          first = λ here m. let a = m.after in omega arith;
        },
      )
    ]

gap_call : (end size : ℕ) → end % 2 ≡ 0 → size % 2 ≡ 0 → 0 < size → size ≤ 16 → (nops : ℕ) × FillsGap end false true size nops
gap_call end size even even_size some few =
    let nops = (16 - (end + size) % 16) % 16 / 2 in
    let whole : (end + 2 * nops + size) % 16 ≡ 0 = omega arith in (
      nops,
      record {
        stands = record { after = omega arith; at_label = λ t. absurd (false≢true t); in_bundle = omega arith; returns = λ t. whole };
        first = λ here m. let a = m.after in let c = m.returns refl in omega arith;
      },
    )

-- a label asks for its bundle start first
gap_labelled : (end size nops : ℕ) (call : Bool) → end % 2 ≡ 0 → FillsGap (next_bundle end) false call size nops → FillsGap end true call size ((next_bundle end - end) / 2 + nops)
gap_labelled end size nops call even g =
    let at : next_bundle end + 2 * nops ≡ end + 2 * ((next_bundle end - end) / 2 + nops) = omega arith in record {
      stands = record {
        after = omega arith;
        at_label = λ t. omega arith;
        in_bundle = subst (λ (n : ℕ). n % 16 + size ≤ 16) at g.stands.in_bundle;
        returns = λ t. subst (λ (n : ℕ). (n + size) % 16 ≡ 0) at (g.stands.returns t);
      };
      first = λ here m. let low = g.first here (record { after = m.at_label refl; at_label = λ t. absurd (false≢true t); in_bundle = m.in_bundle; returns = m.returns }) in omega arith;
    }

gap_unlabelled : (end : ℕ) (call : Bool) (size : ℕ) → end % 2 ≡ 0 → size % 2 ≡ 0 → 0 < size → size ≤ 16 → (nops : ℕ) × FillsGap end false call size nops
gap_unlabelled end false size even even_size some few = gap_free end size even few
gap_unlabelled end true size even even_size some few = gap_call end size even even_size some few

some_gap : (end : ℕ) (labelled call : Bool) (size : ℕ) → end % 2 ≡ 0 → size % 2 ≡ 0 → 0 < size → size ≤ 16 → (nops : ℕ) × FillsGap end labelled call size nops
some_gap end false call size even even_size some few = gap_unlabelled end call size even even_size some few
some_gap end true call size even even_size some few =
    let after = gap_unlabelled (next_bundle end) call size (omega arith) even_size some few in
    ((next_bundle end - end) / 2 + after.0, gap_labelled end size after.0 call even after.1)

-- ---- bundles

-- the slots, in bundles
record InBundles (code : List BundleSlot) : Type 0 where
  bundles : List (List BundleSlot)
  whole : slots_of bundles ≡ code
  right : AreBundles bundles

push : (code more : List BundleSlot) → InBundles code → 0 < size_of more → size_of code % bundle_size + size_of more ≤ bundle_size → InBundles (code ++ more)
push code more b some fits =
    let same : size_of (slots_of b.bundles) ≡ size_of code = ap size_of b.whole in
    elim (cases_lt 0 (size_of (slots_of b.bundles) % bundle_size)) [
      | inl used ↦
          let g = grown b.bundles more b.right used (omega arith) in
          record { bundles = g.front ++ (g.last ++ more) ∷ []; whole = g.slots ∙ ap (λ v. v ++ more) b.whole; right = g.are }
      | inr none ↦
          record {
            bundles = b.bundles ++ more ∷ [];
            whole = slots_of-push b.bundles more ∙ ap (λ v. v ++ more) b.whole;
            right = begun b.bundles more b.right (omega arith) some (omega arith);
          }
    ]

push_nops : (nops : ℕ) (code : List BundleSlot) → InBundles code → InBundles (code ++ replicate nops c_nop)
push_nops zero code b = subst InBundles (sym (append-nil code)) b
push_nops (suc n) code b =
    let one = push code (c_nop ∷ []) b (omega arith) (nop_fits code) in
    subst InBundles (append_assoc code (c_nop ∷ []) (replicate n c_nop)) (push_nops n (code ++ c_nop ∷ []) one)

-- ---- an item after others

permitted_or_not : (f : Format) (x : Item) → IsPermitted f x ⊎ ((e : RewriteFault) × HasItemFault f x e)
permitted_or_not f x =
    elim (cases_Bool (item_names_withheld f x.body)) [
      | inl names ↦ inr (fault.ReservedRegister x.line, (names, refl))
      | inr none ↦ elim (cases_Bool (is_ecall x.body)) [
        | inl calls ↦ inr (fault.Ecall x.line, (none, calls, refl))
        | inr quiet ↦ elim (cases_Bool (is_stack_write f x.body)) [
          | inl writes ↦ inr (fault.StackWrite x.line, (none, quiet, writes, refl))
          | inr not ↦ elim (cases_Bool (is_barred_jump f x.body)) [
            | inl jumps ↦ inr (fault.Jump x.line, (none, quiet, not, jumps, refl))
            | inr stays ↦ inl (record { operands = none; no_ecall = quiet; no_stack_write = not; no_barred_jump = stays })
          ]
        ]
      ]
    ]

-- ---- all items

-- in bundles
some_laid : (f : Format) (end : ℕ) (items : List Item) → end % 2 ≡ 0 → (slots : List BundleSlot) × AreLaidFrom f end items slots
some_laid f end [] even = ([], refl)
some_laid f end (x ∷ items) even =
    let made = some_expansion f x in
    let slots = made.0 in
    let one = expansion_one f x slots made.1 in
    let size = size_even slots in
    let gap = some_gap end x.labelled (is_call x.body) (size_of slots) even size one.some one.few in
    let rest = some_laid f (end + 2 * gap.0 + size_of slots) items (omega arith) in
    (replicate gap.0 c_nop ++ (slots ++ rest.0), (gap.0, slots, rest.0, record { expansion = made.1; gap = gap.1 }, refl, rest.1))

laid_bundled : (f : Format) (items : List Item) (code slots : List BundleSlot) → AreLaidFrom f (size_of code) items slots → InBundles code → InBundles (code ++ slots)
laid_bundled f [] code slots l b = subst InBundles (sym (ap (λ v. code ++ v) l ∙ append-nil code)) b
laid_bundled f (x ∷ items) code slots l b =
    let nops = replicate l.0 c_nop in
    let then = code ++ nops in
    let one = expansion_one f x l.1 l.3.expansion in
    let first = size_of-append code nops in
    let second = size_of-append then l.1 in
    let two = size_nops l.0 in
    let end : size_of code + 2 * l.0 + size_of l.1 ≡ size_of (then ++ l.1) = omega arith in
    let now = push then l.1 (push_nops l.0 code b) one.some (fits_bundle code then x.labelled (is_call x.body) (size_of code) (size_of l.1) l.0 refl l.3.gap refl) in
    subst InBundles (append_assoc then l.1 l.2 ∙ append_assoc code nops (l.1 ++ l.2) ∙ ap (λ v. code ++ v) (sym l.4))
    (laid_bundled f items (then ++ l.1) l.2 (subst (λ n. AreLaidFrom f n items l.2) end l.5) now)

-- in words, before the items after them
some_confined : (f : Format) (rvc : Bool) (i : Instr) → (slots : List BundleSlot) × IsConfined f rvc i slots
some_confined f rvc (Load kind rd a imm) = some_alone rvc (Load kind rd (base_of f a) imm)
some_confined f rvc (Store width a rs2 imm) = some_alone rvc (Store width (base_of f a) rs2 imm)
some_confined f rvc (Jalr rd a imm) = (Wide (Jalr rd 30 imm) ∷ [], refl)
some_confined f rvc other = some_alone rvc other

some_moved : (f : Format) (moves rvc step : Bool) (i : Instr) → (slots : List BundleSlot) × MatchBool moves (slots ≡ moved f i) (IsAround f rvc step i slots)
some_moved f true rvc step i = (moved f i, refl)
some_moved f false rvc step i = let one = some_confined f rvc i in (before f i ++ (one.0 ++ after f step i), (one.0, one.1, refl))

some_word_expansion_of : (f : Format) (line : ℕ) (rvc step : Bool) (body : Body) → (slots : List BundleSlot) × words_expansion.IsExpansionOf f line rvc step body slots
some_word_expansion_of f line rvc step (Plain i) = some_moved f (is_move i && not step) rvc step i
some_word_expansion_of f line rvc step (To i name) = (Jump i name line ∷ [], refl)
some_word_expansion_of f line rvc step (High rd name) = (Upper rd name line ∷ mask_after f (Some rd), refl)
some_word_expansion_of f line rvc step (Low rd name) = (Lower rd name line ∷ mask_after f (Some rd), refl)
some_word_expansion_of f line rvc step (Base rd name) = (Region rd name line ∷ mask_after f (Some rd), refl)

some_expanded : (f : Format) (items later : List Item) → (slots : List Marked) × AreExpanded f items later slots
some_expanded f [] later = ([], refl)
some_expanded f (x ∷ items) later =
    let one = some_word_expansion_of f x.line x.rvc (is_step_before_use x (items ++ later)) x.body in
    let rest = some_expanded f items later in
    (marked x.labelled one.0 ++ rest.0, (one.0, rest.0, one.1, refl, rest.1))

some_words : (f : Format) (later items : List Item) → (slots : List BundleSlot) × AreLaidBefore f items later slots
some_words f later items = let e = some_expanded f items later in (in_words e.0, (e.0, e.1, refl))

-- words, in bundles
words_push : (code more : List BundleSlot) → InBundles code → size_of code % 4 ≡ 0 → size_of more ≡ 4 → InBundles (code ++ more)
words_push code more b aligned size = push code more b (omega arith) (omega arith)

words_bundled : (slots : List Marked) (words : List BundleSlot) → InWords slots words → (code : List BundleSlot) → InBundles code → size_of code % 4 ≡ 0 → InBundles (code ++ words)
words_bundled _ _ no_word code b aligned = subst InBundles (sym (append-nil code)) b
words_bundled _ _ (two_forms l f g slots words w) code b aligned =
    let word = Short f ∷ Short g ∷ [] in
    let size = size_of-append code word in
    subst InBundles (append_assoc code word words) (words_bundled slots words w (code ++ word) (words_push code word b aligned refl) (omega arith))
words_bundled _ _ (one_slot l s slots words four w) code b aligned =
    let word = alone s ∷ [] in
    let size = size_of-append code word in
    let is : size_of word ≡ 4 = (let z = size_of-cons (alone s) [] in let n : size_of [] ≡ 0 = refl in omega arith) in
    subst InBundles (append_assoc code word words) (words_bundled slots words w (code ++ word) (words_push code word b aligned is) (omega arith))

-- ---- in words or in bundles

some_laid_in : (w : Bool) (f : Format) (items later : List Item) → (slots : List BundleSlot) × AreLaidIn w f items later slots
some_laid_in false f items later = some_laid f 0 items refl
some_laid_in true f items later = some_words f later items

in_bundles : (w : Bool) (f : Format) (items later : List Item) (slots : List BundleSlot) → AreLaidIn w f items later slots → InBundles slots
in_bundles false f items later slots l = laid_bundled f items [] slots l (record { bundles = []; whole = refl; right = tt })
in_bundles true f items later slots l = subst InBundles (sym l.2) (words_bundled l.0 (in_words l.0) (view l.0) [] (record { bundles = []; whole = refl; right = tt }) refl)

none_laid : (w : Bool) (f : Format) (later : List Item) → AreLaidIn w f [] later []
none_laid false f later = refl
none_laid true f later = ([], refl, refl)

any_item : Item
any_item = record { line = 0; labelled = false; rvc = false; body = Plain Ecall }

items_on : (w : Bool) (f : Format) (sandbox : ℕ) (items : List Item) (d k : ℕ) (slots : List BundleSlot) → k + d ≡ length items → AreFaultless w f k items slots
    → ((all : List BundleSlot) × AreFaultless w f (length items) items all) ⊎ ((e : RewriteFault) × IsItemFault w f sandbox items e)
items_on w f sandbox items zero k slots all l = inl (slots, subst (λ (n : ℕ). AreFaultless w f n items slots) (let z : k ≡ length items = omega arith in z) l)
items_on w f sandbox items (suc d) k slots all l =
    let lt : k < length items = omega arith in
    let x = get_or items k any_item in
    let at = stands_at items k x lt (get_or_default items k any_item x lt) in
    let made = some_laid_in w f (take (k + 1) items) (drop (k + 1) items) in
    elim (permitted_or_not f x) [
      | inr wrong ↦ inr (wrong.0, item_fault w f sandbox items k x slots wrong.0 at l wrong.1)
      | inl right ↦ elim (cases_lt (built_code_most f) (size_of made.0)) [
        | inl over ↦ inr (fault.TooLarge sandbox, room_fault w f sandbox items k x slots at l right (made.0, made.1, over))
        | inr within ↦ items_on w f sandbox items d (k + 1) made.0 (omega arith) (record { permitted = next_permitted f items k x at l.permitted right; laid = made.1; fits = within })
      ]
    ]

faultless_or_fault : (w : Bool) (f : Format) (sandbox : ℕ) (items : List Item) → ((all : List BundleSlot) × AreFaultless w f (length items) items all) ⊎ ((e : RewriteFault) × IsItemFault w f sandbox items e)
faultless_or_fault w f sandbox items =
    items_on w f sandbox items (length items) 0 [] (omega arith) (record { permitted = All-nil (IsPermitted f); laid = none_laid w f items; fits = some_room f })

-- ---- a sandbox

some_name : (f : Format) (items : List Item) (n : Named) → (name : PlacedName) × IsPlacedName f items n name
some_name f items (Gate k) = (placed.Gate k, refl)
some_name f items (Code k) =
    let made = some_laid_in (has_words f) f (take k items) (drop k items) in
    let place = label_place (has_words f) (size_of made.0) in
    (placed.Code place, (place, (made.0, made.1, refl), refl))
some_name f items (Data offset) = (placed.Data offset, refl)
some_name f items Unknown = (placed.Unknown, refl)

some_names : (f : Format) (items : List Item) (names : List Named) → (found : List PlacedName) × AllZip (IsPlacedName f items) names found
some_names f items [] = ([], tt)
some_names f items (n ∷ names) =
    let one = some_name f items n in
    let rest = some_names f items names in
    (one.0 ∷ rest.0, (one.1, rest.1))

is_label : (n : Named) (k : ℕ) → (n ≡ Code k) ⊎ (n ≡ Code k → ⊥)
is_label (Code j) k = elim (cases_eq j k) [ inl e ↦ inl (ap Code e) | inr differ ↦ inr (λ e. differ cc) ]
is_label _ k = inr (λ e. absurd cc)

label_or_none : (names : List Named) (k : ℕ) → Contains names (Code k) ⊎ (Contains names (Code k) → ⊥)
label_or_none [] k = inr (λ c. let lt = c.1 in omega arith)
label_or_none (n ∷ names) k =
    elim (is_label n k) [
      | inl is ↦ inl (0, omega arith, is)
      | inr other ↦ elim (label_or_none names k) [
        | inl later ↦ inl (Contains-append_right (n ∷ []) names (Code k) later)
        | inr none ↦ inr (λ c. none (Contains-tail n names (Code k) other c))
      ]
    ]

some_end : (end : ℕ) (labelled : Type 0) → end % 2 ≡ 0 → labelled ⊎ (labelled → ⊥) → (nops : ℕ) × FillsEnd end labelled nops
some_end end labelled even (inl is) =
    let at : end + 2 * ((next_bundle end - end) / 2) ≡ next_bundle end = omega arith in
    ((next_bundle end - end) / 2, record { enough = λ h. omega arith; fewest = λ n enough. let far = enough is in omega arith })
some_end end labelled even (inr not) = (0, record { enough = λ h. absurd (not h); fewest = λ n enough. omega arith })

some_end_in : (w : Bool) (end : ℕ) (labelled : Type 0) → end % 2 ≡ 0 → labelled ⊎ (labelled → ⊥) → (nops : ℕ) × FillsEndIn w end labelled nops
some_end_in false end labelled even is = some_end end labelled even is
some_end_in true end labelled even is = (0, refl)

part_made : (s : Sandbox) → IsFaultless s → (p : Placement) × IsRewritten s p
part_made s l =
    let w = has_words s.format in
    let laid = laid_of w s.format s.items l.0 l.1 in
    let end = some_end_in w (size_of l.0) (HasEndLabel s) (size_even l.0) (label_or_none (named s) (length s.items)) in
    let whole = push_nops end.0 l.0 (in_bundles w s.format s.items [] l.0 laid) in
    let names = some_names s.format s.items (named s) in (
      record { format = s.format; movable = s.movable; data_size = s.data_size; gates = s.gates; names = names.0; bytes = s.bytes; bundles = whole.bundles },
      record {
        faultless = l;
        placement = record {
          format = refl;
          movable = refl;
          data_size = refl;
          gates = refl;
          bytes = refl;
          names = names.1;
          slots = l.0;
          laid = laid;
          nops = end.0;
          end = end.1;
          code = whole.whole;
          bundles = whole.right;
        };
      },
    )

-- ---- all sandboxes

any_sandbox : Sandbox
any_sandbox = record { format = Sfi1; movable = false; data_size = 0; gates = []; names = []; items = []; bytes = [] }

sandboxes_on : (source : List Sandbox) (d k : ℕ) (placed : List Placement) → k + d ≡ length source → AllZip IsRewritten (take k source) placed
    → ((all : List Placement) × AreRewritten source all) ⊎ ((e : RewriteFault) × IsSourceFault source e)
sandboxes_on source zero k placed all z = inl (placed, subst (λ (v : List Sandbox). AllZip IsRewritten v placed) (take_all k source (omega arith)) z)
sandboxes_on source (suc d) k placed all z =
    let lt : k < length source = omega arith in
    let s = get_or source k any_sandbox in
    let same = get_or_default source k any_sandbox s lt in
    elim (faultless_or_fault (has_words s.format) s.format k s.items) [
      | inr wrong ↦ inr (wrong.0, faulty source k k s placed wrong.0 lt same z refl wrong.1)
      | inl laid ↦
          let made = part_made s laid in
          sandboxes_on source d (k + 1) (placed ++ made.0 ∷ []) (omega arith) (parts_push source k s placed (placed ++ made.0 ∷ []) made.0 lt same z made.1 refl)
    ]

pub some_rewriting : SomeRewriting
some_rewriting source = sandboxes_on source (length source) 0 [] (omega arith) tt
