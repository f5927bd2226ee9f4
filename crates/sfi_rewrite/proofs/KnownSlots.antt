-- What is known of the slots of a sandbox's items, in bundles and in words.
use Rattle.rv_word.specs.Spelling.{InRange, IsImm12}
use Rattle.sfi_rewrite.specs.words.Expansion.{IsConfined, IsAround, IsExpansionOf as IsWordExpansionOf, before, after, base_of, data_mask, mask_after, is_move, moved, is_step_before_use}
use Rattle.sfi_rewrite.proofs.WordLaying.{view, all_in_words}
use Rattle.sfi_rewrite.proofs.Prelude.{◌≡◌, ℕ, zero, suc, ◌+◌, ◌*◌, ◌<◌, List, [], ◌∷◌, ◌++◌, replicate, refl, arith, inl, inr, ℤ, pos, negsuc, Bool, true, false, MatchBool, All, All-nil, All-cons, All-append, All-head, All-tail, All-replicate, Instr, And, Or, Op, OpImm, Load, Store, Jalr, Format, is_stack, Item, Body, Plain, To, High, Low, Base, IsBody, BundleSlot, Wide, Short, Jump, Upper, Lower, Region, size_of, c_nop, writes_stack, is_on_stack, stack_pair, put_back, code_pair_slots, jump_to_x31, jump_slots, IsAlone, IsMasked, IsExpansionOf, AreLaidFrom, Encodes, IsNamedBelow, Addi, ints, alone, subst, sym, ◌&&◌, Some, Jal, Lui, Auipc, not, ◌||◌, if◌then◌else◌, destination, is_data_register, Marked, marked, AreExpanded, AreLaidBefore, has_single_mask, is_made_on_x26}

-- ==== What is known of the slots of a sandbox's items: they encode, and their names are the sandbox's.

pub record IsKnown (count : ℕ) (s : BundleSlot) : Type 0 where
  pub encodes : Encodes s
  pub name : IsNamedBelow count s

-- the slot, and the same alone in a word
abbrev pub IsKnownBoth : ℕ → BundleSlot → Type 0
IsKnownBoth count s = IsKnown count s × IsKnown count (alone s)

pub one : (count : ℕ) (s : BundleSlot) → IsKnownBoth count s → All (IsKnownBoth count) (s ∷ [])
one count s h = All-cons (IsKnownBoth count) s [] h (All-nil (IsKnownBoth count))

pub wide_known : (count : ℕ) (i : Instr) → InRange i → IsKnownBoth count (Wide i)
wide_known count i h = (record { encodes = h; name = tt }, record { encodes = h; name = tt })

pub two_known : (count : ℕ) (i j : Instr) → InRange i → InRange j → All (IsKnownBoth count) (Wide i ∷ Wide j ∷ [])
two_known count i j h g = All-cons (IsKnownBoth count) (Wide i) (Wide j ∷ []) (wide_known count i h) (one count (Wide j) (wide_known count j g))

three_known : (count : ℕ) (i j k : Instr) → InRange i → InRange j → InRange k → All (IsKnownBoth count) (Wide i ∷ Wide j ∷ Wide k ∷ [])
three_known count i j k h g f = All-cons (IsKnownBoth count) (Wide i) (Wide j ∷ Wide k ∷ []) (wide_known count i h) (two_known count j k g f)

pub alone_known : (count : ℕ) (rvc : Bool) (i : Instr) (slots : List BundleSlot) → IsAlone rvc i slots → InRange i → All (IsKnownBoth count) slots
alone_known count false i slots e h = rw e (one count (Wide i) (wide_known count i h))
alone_known count true i slots e h =
    elim e [
      | inl s ↦
          rw (s.2)
          (one count (Short s.0) (record { encodes = s.1.meets; name = tt }, record { encodes = subst (λ j. InRange j) (sym s.1.expands) h; name = tt }))
      | inr w ↦ rw (w.1) (one count (Wide i) (wide_known count i h))
    ]

zero_fits : IsImm12 (pos 0)
zero_fits = (omega (arith, ints), omega (arith, ints))

code_known : (count rd a : ℕ) → rd < 32 → a < 32 → All (IsKnownBoth count) (code_pair_slots a ++ jump_to_x31 rd ∷ [])
unfolding InRange
code_known count rd a d h =
    three_known count (Op And 31 a 25) (Op Or 31 31 24) (Jalr rd 31 (pos 0)) (omega arith, h, omega arith) (omega arith, omega arith, omega arith) (d, omega arith, zero_fits)

jump_known : (count rd a : ℕ) (imm : ℤ) (slots : List BundleSlot) → slots ≡ jump_slots rd a imm → rd < 32 → a < 32 → IsImm12 imm → All (IsKnownBoth count) slots
unfolding InRange
jump_known count rd a (pos zero) slots e d h i = rw e (code_known count rd a d h)
jump_known count rd a (pos (suc n)) slots e d h i =
    rw e (All-cons (IsKnownBoth count) (Wide (OpImm Addi 31 a (pos (suc n)))) (code_pair_slots 31 ++ jump_to_x31 rd ∷ [])
    (wide_known count (OpImm Addi 31 a (pos (suc n))) (omega arith, h, i)) (code_known count rd 31 d (omega arith)))
jump_known count rd a (negsuc n) slots e d h i =
    rw e (All-cons (IsKnownBoth count) (Wide (OpImm Addi 31 a (negsuc n))) (code_pair_slots 31 ++ jump_to_x31 rd ∷ [])
    (wide_known count (OpImm Addi 31 a (negsuc n)) (omega arith, h, i)) (code_known count rd 31 d (omega arith)))

masked_known : (rvc : Bool) (i : Instr) (count : ℕ) (slots : List BundleSlot) → IsMasked rvc i slots → InRange i → All (IsKnownBoth count) slots
unfolding InRange
masked_known rvc (Load kind rd a imm) count slots e b =
    rw e (three_known count (Op And 31 a 27) (Op Or 31 31 26) (Load kind rd 31 imm) (omega arith, b.1, omega arith) (omega arith, omega arith, omega arith) (b.0, omega arith, b.2))
masked_known rvc (Store width a rs2 imm) count slots e b =
    rw e (three_known count (Op And 31 a 27) (Op Or 31 31 26) (Store width 31 rs2 imm) (omega arith, b.0, omega arith) (omega arith, omega arith, omega arith) (omega arith, b.1, b.2))
masked_known rvc (Jalr rd a imm) count slots e b = jump_known count rd a imm slots e b.0 b.1 b.2
masked_known rvc other count slots e b = alone_known count rvc other slots e b

pair_known : (count : ℕ) → All (IsKnownBoth count) stack_pair
unfolding InRange
pair_known count = two_known count (Op And 2 2 27) (Op Or 2 2 26) (omega arith, omega arith, omega arith) (omega arith, omega arith, omega arith)

put_back_known : (count : ℕ) (writes : Bool) → All (IsKnownBoth count) (put_back writes)
put_back_known count false = All-nil (IsKnownBoth count)
put_back_known count true = pair_known count

plain_known : (writes on rvc : Bool) (i : Instr) (count : ℕ) (slots : List BundleSlot)
    → MatchBool writes (slots ≡ Wide i ∷ stack_pair) (MatchBool on (IsAlone rvc i slots) (IsMasked rvc i slots)) → InRange i → All (IsKnownBoth count) slots
plain_known true on rvc i count slots e h = rw e (All-cons (IsKnownBoth count) (Wide i) stack_pair (wide_known count i h) (pair_known count))
plain_known false true rvc i count slots e h = alone_known count rvc i slots e h
plain_known false false rvc i count slots e h = masked_known rvc i count slots e h

-- a slot that waits for its name, and what stands after it
pub named_known : (count : ℕ) (s : BundleSlot) (rest : List BundleSlot) → Encodes s → IsNamedBelow count s → alone s ≡ s → All (IsKnownBoth count) rest → All (IsKnownBoth count) (s ∷ rest)
named_known count s rest e n same h =
    All-cons (IsKnownBoth count) s rest (record { encodes = e; name = n }, subst (IsKnown count) (sym same) (record { encodes = e; name = n })) h

expansion_known : (f : Format) (line : ℕ) (rvc : Bool) (body : Body) (count : ℕ) (slots : List BundleSlot) → IsExpansionOf f line rvc body slots → IsBody count body
    → All (IsKnownBoth count) slots
expansion_known f line rvc (Plain i) count slots e b = plain_known (writes_stack f i) (is_on_stack f i) rvc i count slots e b.0
expansion_known f line rvc (To i name) count slots e b = rw e (named_known count (Jump i name line) [] b.0 b.2 refl (All-nil (IsKnownBoth count)))
expansion_known f line rvc (High rd name) count slots e b =
    rw e (named_known count (Upper rd name line) (put_back (is_stack f rd)) b.0 b.1 refl (put_back_known count (is_stack f rd)))
expansion_known f line rvc (Low rd name) count slots e b =
    rw e (named_known count (Lower rd name line) (put_back (is_stack f rd)) b.0 b.1 refl (put_back_known count (is_stack f rd)))
expansion_known f line rvc (Base rd name) count slots e b =
    rw e (named_known count (Region rd name line) (put_back (is_stack f rd)) b.0 b.1 refl (put_back_known count (is_stack f rd)))

pub nops_known : (count n : ℕ) → All (IsKnown count) (replicate n c_nop)
nops_known count n = All-replicate (IsKnown count) n c_nop (record { encodes = refl; name = tt })

pub laid_known : (f : Format) (count end : ℕ) (items : List Item) (slots : List BundleSlot) → AreLaidFrom f end items slots → All (λ x. IsBody count x.body) items → All (IsKnown count) slots
laid_known f count end [] slots l b = rw l (All-nil (IsKnown count))
laid_known f count end (x ∷ items) slots l b =
    let P : Item → Type 0 = λ x. IsBody count x.body in
    let both = expansion_known f x.line x.rvc x.body count l.1 l.3.expansion (All-head P x items b) in
    let first : All (IsKnown count) l.1 = λ k d h. (both k d h).0 in
    let rest = laid_known f count (end + 2 * l.0 + size_of l.1) items l.2 l.5 (All-tail P x items b) in
    rw (l.4) (All-append (IsKnown count) (replicate l.0 c_nop) (l.1 ++ l.2) (nops_known count l.0) (All-append (IsKnown count) l.1 l.2 first rest))

-- ==== What is known of the slots of a sandbox's items in words: they encode, also alone in a word, and their names are the sandbox's.

mask_known_by : (one_step : Bool) (count d a : ℕ) → d < 32 → a < 32 → All (IsKnownBoth count) (if one_step then Wide (Op And d a 27) ∷ [] else Wide (Op And 31 a 27) ∷ Wide (Op Or d 31 26) ∷ [])
unfolding InRange
mask_known_by true count d a g h = one count (Wide (Op And d a 27)) (wide_known count (Op And d a 27) (g, h, omega arith))
mask_known_by false count d a g h = two_known count (Op And 31 a 27) (Op Or d 31 26) (omega arith, h, omega arith) (g, omega arith, omega arith)

mask_known : (f : Format) (count d a : ℕ) → d < 32 → a < 32 → All (IsKnownBoth count) (data_mask f d a)
mask_known f count d a g h = mask_known_by (has_single_mask f) count d a g h

-- ---- an instruction

chosen_small : (b c : Bool) (a : ℕ) → a < 32 → (if b then a else if c then 26 else 29) < 32
chosen_small true c a h = h
chosen_small false true a h = omega arith
chosen_small false false a h = omega arith

base_small : (f : Format) (a : ℕ) → a < 32 → base_of f a < 32
base_small f a h = chosen_small (is_data_register a) (is_made_on_x26 f a) a h

confined_known : (f : Format) (count : ℕ) (rvc : Bool) (i : Instr) (slots : List BundleSlot) → IsConfined f rvc i slots → InRange i → All (IsKnownBoth count) slots
unfolding InRange
confined_known f count rvc (Load kind rd a imm) slots e h = alone_known count rvc (Load kind rd (base_of f a) imm) slots e (h.0, base_small f a h.1, h.2)
confined_known f count rvc (Store width a rs2 imm) slots e h = alone_known count rvc (Store width (base_of f a) rs2 imm) slots e (base_small f a h.0, h.1, h.2)
confined_known f count rvc (Jalr rd a imm) slots e h = rw e (one count (Wide (Jalr rd 30 imm)) (wide_known count (Jalr rd 30 imm) (h.0, omega arith, h.2)))
confined_known f count rvc other slots e h = alone_known count rvc other slots e h

made_known : (f : Format) (count : ℕ) (none : Bool) (a : ℕ) → a < 32 → All (IsKnownBoth count) (if none then [] else data_mask f 29 a)
made_known f count true a h = All-nil (IsKnownBoth count)
made_known f count false a h = mask_known f count 29 a (omega arith) h

before_known : (f : Format) (count : ℕ) (i : Instr) → InRange i → All (IsKnownBoth count) (before f i)
unfolding InRange
before_known f count (Load kind rd a imm) h = made_known f count (is_data_register a || is_made_on_x26 f a) a h.1
before_known f count (Store width a rs2 imm) h = made_known f count (is_data_register a || is_made_on_x26 f a) a h.0
before_known f count (Jalr rd a imm) h = two_known count (Op And 30 a 25) (Op Or 30 30 24) (omega arith, h.1, omega arith) (omega arith, omega arith, omega arith)
before_known f count _ h = All-nil (IsKnownBoth count)

masks_known : (f : Format) (count : ℕ) (is : Bool) (d : ℕ) → d < 32 → All (IsKnownBoth count) (if is then data_mask f d d else [])
masks_known f count true d h = mask_known f count d d h h
masks_known f count false d h = All-nil (IsKnownBoth count)

mask_after_known : (f : Format) (count d : ℕ) → d < 32 → All (IsKnownBoth count) (mask_after f (Some d))
mask_after_known f count d h = masks_known f count (is_data_register d) d h

written_known : (f : Format) (count : ℕ) (i : Instr) → InRange i → All (IsKnownBoth count) (mask_after f (destination i))
unfolding InRange
written_known f count (Op op rd a b) h = mask_after_known f count rd h.0
written_known f count (OpImm op rd a imm) h = mask_after_known f count rd h.0
written_known f count (Load kind rd a imm) h = mask_after_known f count rd h.0
written_known f count (Jal rd offset) h = mask_after_known f count rd h.0
written_known f count (Jalr rd a imm) h = mask_after_known f count rd h.0
written_known f count (Lui rd imm) h = mask_after_known f count rd h.0
written_known f count (Auipc rd imm) h = mask_after_known f count rd h.0
written_known f count _ h = All-nil (IsKnownBoth count)

after_known : (f : Format) (count : ℕ) (step : Bool) (i : Instr) → InRange i → All (IsKnownBoth count) (after f step i)
after_known f count true i h = All-nil (IsKnownBoth count)
after_known f count false i h = written_known f count i h

moved_known : (f : Format) (count : ℕ) (i : Instr) → InRange i → All (IsKnownBoth count) (moved f i)
unfolding InRange
moved_known f count (OpImm op d a imm) h = mask_known f count d a h.0 h.1
moved_known f count (Op op d b a) h = mask_known f count d a h.0 h.2
moved_known f count _ h = All-nil (IsKnownBoth count)

around_known : (f : Format) (count : ℕ) (rvc step : Bool) (i : Instr) (slots : List BundleSlot) → IsAround f rvc step i slots → InRange i → All (IsKnownBoth count) slots
around_known f count rvc step i slots e h =
    rw (e.2)
    (All-append (IsKnownBoth count) (before f i) (e.0 ++ after f step i) (before_known f count i h)
    (All-append (IsKnownBoth count) e.0 (after f step i) (confined_known f count rvc i e.0 e.1 h) (after_known f count step i h)))

plain_word_known : (f : Format) (count : ℕ) (moves rvc step : Bool) (i : Instr) (slots : List BundleSlot) → MatchBool moves (slots ≡ moved f i) (IsAround f rvc step i slots) → InRange i → All (IsKnownBoth count) slots
plain_word_known f count true rvc step i slots e h = rw e (moved_known f count i h)
plain_word_known f count false rvc step i slots e h = around_known f count rvc step i slots e h

-- ---- items

word_expansion_known : (f : Format) (count line : ℕ) (rvc step : Bool) (body : Body) (slots : List BundleSlot) → IsWordExpansionOf f line rvc step body slots → IsBody count body → All (IsKnownBoth count) slots
word_expansion_known f count line rvc step (Plain i) slots e b = plain_word_known f count (is_move i && not step) rvc step i slots e b.0
word_expansion_known f count line rvc step (To i name) slots e b = rw e (named_known count (Jump i name line) [] b.0 b.2 refl (All-nil (IsKnownBoth count)))
word_expansion_known f count line rvc step (High rd name) slots e b = rw e (named_known count (Upper rd name line) (mask_after f (Some rd)) b.0 b.1 refl (mask_after_known f count rd b.0))
word_expansion_known f count line rvc step (Low rd name) slots e b = rw e (named_known count (Lower rd name line) (mask_after f (Some rd)) b.0 b.1 refl (mask_after_known f count rd b.0))
word_expansion_known f count line rvc step (Base rd name) slots e b = rw e (named_known count (Region rd name line) (mask_after f (Some rd)) b.0 b.1 refl (mask_after_known f count rd b.0))

all_marked : (P : BundleSlot → Type 0) (l : Bool) (slots : List BundleSlot) → All P slots → All (λ m. P m.1) (marked l slots)
all_marked P l [] h = All-nil (λ m. P m.1)
all_marked P l (s ∷ slots) h = All-cons (λ m. P m.1) (l, s) (marked false slots) (All-head P s slots h) (all_marked P false slots (All-tail P s slots h))

expanded_known : (f : Format) (count : ℕ) (items later : List Item) (slots : List Marked) → AreExpanded f items later slots → All (λ x. IsBody count x.body) items → All (λ m. IsKnownBoth count m.1) slots
expanded_known f count [] later slots e b = rw e (All-nil (λ m. IsKnownBoth count m.1))
expanded_known f count (x ∷ items) later slots e b =
    let B : Item → Type 0 = λ y. IsBody count y.body in
    rw (e.3)
    (All-append (λ m. IsKnownBoth count m.1) (marked x.labelled e.0) e.1
    (all_marked (IsKnownBoth count) x.labelled e.0 (word_expansion_known f count x.line x.rvc (is_step_before_use x (items ++ later)) x.body e.0 e.2 (All-head B x items b)))
    (expanded_known f count items later e.1 e.4 (All-tail B x items b)))

pub words_known : (f : Format) (count : ℕ) (items later : List Item) (slots : List BundleSlot) → AreLaidBefore f items later slots → All (λ x. IsBody count x.body) items → All (IsKnown count) slots
words_known f count items later slots l b =
    subst (λ v. All (IsKnown count) v) (sym l.2) (all_in_words (IsKnown count) l.0 _ (view l.0) (expanded_known f count items later l.0 l.1 b))
