-- How many bytes slots take.
use Rattle.sfi_rewrite.proofs.Prelude.{◌≡◌, ℕ, zero, suc, ◌+◌, ◌*◌, ◌%◌, ◌<◌, ◌≤◌, List, [], ◌∷◌, ◌++◌, length, take, get_or, replicate, refl, sym, ap, ◌∙◌, arith, length-take, ◌^◌, Fits, w64, rules, take_more, BundleSlot, Short, slot_size, size_of, c_nop, Bool, true, false, inl, inr, ℤ, pos, negsuc, MatchBool, Instr, Load, Store, Jalr, Format, is_stack, Body, Plain, To, High, Low, Base, Item, Wide, Upper, Lower, Region, writes_stack, is_on_stack, stack_pair, put_back, jump_slots, IsAlone, IsMasked, IsExpansionOf, IsExpansion, bundle_size}
use Rattle.std.proofs.lemmas.List.Sums.{sum_by-append, sum_by-cons}

pub size_of-append : (xs ys : List BundleSlot) → size_of (xs ++ ys) ≡ size_of xs + size_of ys
size_of-append xs ys = sum_by-append slot_size xs ys

pub size_of-cons : (s : BundleSlot) (xs : List BundleSlot) → size_of (s ∷ xs) ≡ slot_size s + size_of xs
size_of-cons s xs = sum_by-cons slot_size s xs

-- `count` slots take `size` bytes, each 2 or 4
pub record AreSizes (count size : ℕ) : Type 0 where
  pub even : size % 2 ≡ 0
  pub least : 2 * count ≤ size
  pub most : size ≤ 4 * count

one_size : (s : BundleSlot) → AreSizes 1 (slot_size s)
one_size (Short f) = record { even = refl; least = omega arith; most = omega arith }
one_size _ = record { even = refl; least = omega arith; most = omega arith }

pub sizes : (xs : List BundleSlot) → AreSizes (length xs) (size_of xs)
sizes [] = record { even = refl; least = omega arith; most = omega arith }
sizes (x ∷ xs) =
    let h = sizes xs in
    let g = one_size x in
    let e = size_of-cons x xs in
    record {
      even = omega (arith, h.even, g.even, e);
      least = omega (arith, h.least, g.least, e);
      most = omega (arith, h.most, g.most, e);
    }

pub size_even : (xs : List BundleSlot) → size_of xs % 2 ≡ 0
size_even xs = (sizes xs).even

pub size_at_least : (x : BundleSlot) (xs : List BundleSlot) → 0 < size_of (x ∷ xs)
size_at_least x xs = omega (arith, (sizes (x ∷ xs)).least)

pub size_nops : (n : ℕ) → size_of (replicate n c_nop) ≡ 2 * n
size_nops zero = refl
size_nops (suc n) =
    let h = size_nops n in
    let e = size_of-cons c_nop (replicate n c_nop) in
    omega (arith, h, e)

pub size_more : (xs : List BundleSlot) (k : ℕ) (d : BundleSlot) → k < length xs → size_of (take (k + 1) xs) ≡ size_of (take k xs) + slot_size (get_or xs k d)
size_more xs k d h =
    let e = take_more xs k d h in
    let g = size_of-append (take k xs) (get_or xs k d ∷ []) in
    let f = size_of-cons (get_or xs k d) [] in
    ap size_of e ∙ g ∙ (omega arith)

-- the size of the first slots with the next one
pub size_step : (xs : List BundleSlot) (k : ℕ) (d : BundleSlot) (n r : ℕ) → k < length xs → n ≡ size_of (take k xs) → r ≡ slot_size (get_or xs k d) → n + r ≡ size_of (take (k + 1) xs)
size_step xs k d n r h e f = let g = size_more xs k d h in omega arith

pub size_fits : (xs : List BundleSlot) (k : ℕ) (d : BundleSlot) (n r : ℕ) → k < length xs → length xs ≤ bundle_size → n ≡ size_of (take k xs) → r ≡ slot_size (get_or xs k d) → Fits w64 (n + r)
size_fits xs k d n r h l e f =
    let g = size_step xs k d n r h e f in
    let a = (sizes (take (k + 1) xs)).most in
    let b = length-take (k + 1) xs in
    let h : n + r < 2 ^ 64 = omega arith in
    search (rules, h)

-- ---- slots that begin with others

-- b is p with more after it, and that more stands before the rest in us
pub record BeginsWith (b p us rest : List BundleSlot) : Type 0 where
  pub more : List BundleSlot
  pub front : b ≡ p ++ more
  pub back : us ≡ more ++ rest

pub begins_with : (b p us rest : List BundleSlot) → p ++ us ≡ b ++ rest → size_of p ≤ size_of b → BeginsWith b p us rest
begins_with b [] us rest e h = record { more = b; front = refl; back = e }
begins_with [] (x ∷ p) us rest e h = absurd (let s = size_at_least x p in let z : size_of [] ≡ 0 = refl in omega arith)
begins_with (y ∷ b) (x ∷ p) us rest e h =
    let first : x ≡ y = cc in
    let tails : p ++ us ≡ b ++ rest = cc in
    let s = size_of-cons x p in
    let t = size_of-cons y b in
    let g = ap slot_size first in
    let r = begins_with b p us rest tails (omega arith) in
    record { more = r.more; front = ap (λ z. z ∷ b) (sym first) ∙ ap (λ v. x ∷ v) r.front; back = r.back }

-- ---- an expansion takes some bytes, and no more than a bundle

-- slots that fit one bundle
pub record IsOne (slots : List BundleSlot) : Type 0 where
  pub some : 0 < size_of slots
  pub few : size_of slots ≤ 16

wide_one : (slots : List BundleSlot) (i : Instr) → slots ≡ Wide i ∷ [] → IsOne slots
wide_one slots i e = rw e (record { some = omega arith; few = omega arith })

alone_one : (rvc : Bool) (i : Instr) (slots : List BundleSlot) → IsAlone rvc i slots → IsOne slots
alone_one false i slots e = wide_one slots i e
alone_one true i slots e =
    elim e [
      | inl s ↦ rw (s.2) (record { some = omega arith; few = omega arith })
      | inr w ↦ wide_one slots i w.1
    ]

jump_one : (rd a : ℕ) (imm : ℤ) (slots : List BundleSlot) → slots ≡ jump_slots rd a imm → IsOne slots
jump_one rd a (pos zero) slots e = rw e (record { some = omega arith; few = omega arith })
jump_one rd a (pos (suc n)) slots e = rw e (record { some = omega arith; few = omega arith })
jump_one rd a (negsuc n) slots e = rw e (record { some = omega arith; few = omega arith })

masked_one : (rvc : Bool) (i : Instr) (slots : List BundleSlot) → IsMasked rvc i slots → IsOne slots
masked_one rvc (Load kind rd a imm) slots e = rw e (record { some = omega arith; few = omega arith })
masked_one rvc (Store width a rs2 imm) slots e = rw e (record { some = omega arith; few = omega arith })
masked_one rvc (Jalr rd a imm) slots e = jump_one rd a imm slots e
masked_one rvc other slots e = alone_one rvc other slots e

-- what writes the stack pointer, an access on it, and any other
plain_one : (writes on rvc : Bool) (i : Instr) (slots : List BundleSlot)
    → MatchBool writes (slots ≡ Wide i ∷ stack_pair) (MatchBool on (IsAlone rvc i slots) (IsMasked rvc i slots)) → IsOne slots
plain_one true on rvc i slots e = rw e (record { some = omega arith; few = omega arith })
plain_one false true rvc i slots e = alone_one rvc i slots e
plain_one false false rvc i slots e = masked_one rvc i slots e

upper_one : (writes : Bool) (rd name line : ℕ) (slots : List BundleSlot) → slots ≡ Upper rd name line ∷ put_back writes → IsOne slots
upper_one false rd name line slots e = rw e (record { some = omega arith; few = omega arith })
upper_one true rd name line slots e = rw e (record { some = omega arith; few = omega arith })

lower_one : (writes : Bool) (rd name line : ℕ) (slots : List BundleSlot) → slots ≡ Lower rd name line ∷ put_back writes → IsOne slots
lower_one false rd name line slots e = rw e (record { some = omega arith; few = omega arith })
lower_one true rd name line slots e = rw e (record { some = omega arith; few = omega arith })

region_one : (writes : Bool) (rd name line : ℕ) (slots : List BundleSlot) → slots ≡ Region rd name line ∷ put_back writes → IsOne slots
region_one false rd name line slots e = rw e (record { some = omega arith; few = omega arith })
region_one true rd name line slots e = rw e (record { some = omega arith; few = omega arith })

expansion_of_one : (f : Format) (line : ℕ) (rvc : Bool) (body : Body) (slots : List BundleSlot) → IsExpansionOf f line rvc body slots → IsOne slots
expansion_of_one f line rvc (Plain i) slots e = plain_one (writes_stack f i) (is_on_stack f i) rvc i slots e
expansion_of_one f line rvc (To i name) slots e = rw e (record { some = omega arith; few = omega arith })
expansion_of_one f line rvc (High rd name) slots e = upper_one (is_stack f rd) rd name line slots e
expansion_of_one f line rvc (Low rd name) slots e = lower_one (is_stack f rd) rd name line slots e
expansion_of_one f line rvc (Base rd name) slots e = region_one (is_stack f rd) rd name line slots e

-- an item's expansion fits one bundle
pub expansion_one : (f : Format) (x : Item) (slots : List BundleSlot) → IsExpansion f x slots → IsOne slots
expansion_one f x slots e = expansion_of_one f x.line x.rvc x.body slots e
