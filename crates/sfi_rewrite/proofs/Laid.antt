-- What is laid from an end on: one way, a beginning of the items, and no expansion cut.
use Rattle.sfi_rewrite.proofs.Prelude.{◌≡◌, ℕ, zero, suc, ◌+◌, ◌*◌, List, [], ◌∷◌, ◌++◌, take, drop, replicate, refl, sym, ap, ◌∙◌, subst, arith, append_assoc, append-nil, inl, inr, Bool, true, false, MatchBool, Instr, Load, Store, Jalr, Format, Item, Body, Plain, BundleSlot, Short, Wide, size_of, c_nop, writes_stack, is_on_stack, stack_pair, IsAlone, IsMasked, IsExpansionOf, IsExpansion, is_call, FillsGap, IsNext, AreLaidFrom, Form16, ◌%◌, ◌<◌, ◌≤◌, All, All-nil, All-cons, All-head, All-tail, IsBody, slots_of, AreBundles, IsPermitted, AreWhole, nothing, padding}
use Rattle.rv_comp.proofs.Facts.{one_first_form}
use Rattle.sfi_rewrite.proofs.Sizes.{size_of-append, size_nops, size_even, size_at_least, begins_with, expansion_one}
use Rattle.sfi_rewrite.specs.Placed.{expansion}

-- ==== What is laid from an end on: one more item, a beginning of the items, and that there is one way.

-- the c.nops and the expansion, and what stands after them
pub size_next : (nops : ℕ) (expanded rest : List BundleSlot) → size_of (replicate nops c_nop ++ (expanded ++ rest)) ≡ 2 * nops + size_of expanded + size_of rest
size_next nops expanded rest =
    let a = size_of-append (replicate nops c_nop) (expanded ++ rest) in
    let b = size_of-append expanded rest in
    let c = size_nops nops in
    omega arith

moved : (f : Format) (end other : ℕ) (x : Item) (nops : ℕ) (expanded : List BundleSlot) → end ≡ other → IsNext f end x nops expanded → IsNext f other x nops expanded
moved f end other x nops expanded e n = subst (λ (m : ℕ). IsNext f m x nops expanded) e n

-- the laid slots with another item at the end
pub laid_push : (f : Format) (end : ℕ) (items : List Item) (slots : List BundleSlot) (x : Item) (nops : ℕ) (expanded : List BundleSlot)
    → AreLaidFrom f end items slots → IsNext f (end + size_of slots) x nops expanded → AreLaidFrom f end (items ++ x ∷ []) (slots ++ (replicate nops c_nop ++ expanded))
laid_push f end [] slots x nops expanded l n =
    let e : end + size_of slots ≡ end = (let z = ap size_of l in omega arith) in
    let g : slots ++ (replicate nops c_nop ++ expanded) ≡ replicate nops c_nop ++ (expanded ++ []) =
    ap (λ s. s ++ (replicate nops c_nop ++ expanded)) l ∙ ap (λ s. replicate nops c_nop ++ s) (sym (append-nil expanded)) in
    (nops, expanded, [], moved f (end + size_of slots) end x nops expanded e n, g, refl)
laid_push f end (y ∷ items) slots x nops expanded l n =
    let k = l.0 in
    let first = l.1 in
    let rest = l.2 in
    let e : end + size_of slots ≡ end + 2 * k + size_of first + size_of rest =
    (let z = ap size_of l.4 ∙ size_next k first rest in omega arith) in
    let tail = laid_push f (end + 2 * k + size_of first) items rest x nops expanded l.5 (moved f _ _ x nops expanded e n) in
    let more = replicate nops c_nop ++ expanded in
    let g : slots ++ more ≡ replicate k c_nop ++ (first ++ (rest ++ more)) =
    ap (λ s. s ++ more) l.4 ∙ append_assoc (replicate k c_nop) (first ++ rest) more ∙ ap (λ s. replicate k c_nop ++ s) (append_assoc first rest more) in
    (k, first, rest ++ more, l.3, g, tail)

-- what stands before item k, and what stands from it on
pub record Split (f : Format) (end : ℕ) (items : List Item) (k : ℕ) (slots : List BundleSlot) : Type 0 where
  pub front : List BundleSlot
  pub back : List BundleSlot
  pub both : slots ≡ front ++ back
  pub before : AreLaidFrom f end (take k items) front
  pub after : AreLaidFrom f (end + size_of front) (drop k items) back

pub laid_split : (f : Format) (end : ℕ) (items : List Item) (k : ℕ) (slots : List BundleSlot) → AreLaidFrom f end items slots → Split f end items k slots
laid_split f end items zero slots l =
    record {
      front = [];
      back = slots;
      both = refl;
      before = refl;
      after = subst (λ (m : ℕ). AreLaidFrom f m items slots) (let z : end ≡ end + size_of [] = omega arith in z) l;
    }
laid_split f end [] (suc k) slots l = record { front = []; back = slots; both = refl; before = refl; after = l }
laid_split f end (x ∷ items) (suc k) slots l =
    let s = laid_split f (end + 2 * l.0 + size_of l.1) items k l.2 l.5 in
    let front = replicate l.0 c_nop ++ (l.1 ++ s.front) in
    let e : end + 2 * l.0 + size_of l.1 + size_of s.front ≡ end + size_of front = (let z = size_next l.0 l.1 s.front in omega arith) in
    record {
      front = front;
      back = s.back;
      both =
          l.4 ∙ ap (λ t. replicate l.0 c_nop ++ (l.1 ++ t)) s.both
          ∙ ap (λ t. replicate l.0 c_nop ++ t) (sym (append_assoc l.1 s.front s.back))
          ∙ sym (append_assoc (replicate l.0 c_nop) (l.1 ++ s.front) s.back);
      before = (l.0, l.1, s.front, l.3, refl, s.before);
      after = subst (λ (m : ℕ). AreLaidFrom f m (drop k items) s.back) e s.after;
    }

-- ---- one way

pub alone_one_way : (rvc : Bool) (i : Instr) (a b : List BundleSlot) → IsAlone rvc i a → IsAlone rvc i b → a ≡ b
alone_one_way false i a b x y = x ∙ sym y
alone_one_way true i a b x y = cases x y
  where
    cases : IsAlone true i a → IsAlone true i b → a ≡ b
    cases (inl x) (inl y) = x.2 ∙ ap (λ (f : Form16). Short f ∷ []) (one_first_form i x.0 y.0 x.1 y.1) ∙ sym y.2
    cases (inl x) (inr y) = absurd (y.0 x.0 x.1.meets x.1.expands)
    cases (inr x) (inl y) = absurd (x.0 y.0 y.1.meets y.1.expands)
    cases (inr x) (inr y) = x.1 ∙ sym y.1

masked_one_way : (rvc : Bool) (i : Instr) (a b : List BundleSlot) → IsMasked rvc i a → IsMasked rvc i b → a ≡ b
masked_one_way rvc (Load kind rd rs1 imm) a b x y = x ∙ sym y
masked_one_way rvc (Store width rs1 rs2 imm) a b x y = x ∙ sym y
masked_one_way rvc (Jalr rd rs1 imm) a b x y = x ∙ sym y
masked_one_way rvc other a b x y = alone_one_way rvc other a b x y

plain_one_way : (writes on rvc : Bool) (i : Instr) (a b : List BundleSlot)
    → MatchBool writes (a ≡ Wide i ∷ stack_pair) (MatchBool on (IsAlone rvc i a) (IsMasked rvc i a))
    → MatchBool writes (b ≡ Wide i ∷ stack_pair) (MatchBool on (IsAlone rvc i b) (IsMasked rvc i b)) → a ≡ b
plain_one_way true on rvc i a b x y = x ∙ sym y
plain_one_way false true rvc i a b x y = alone_one_way rvc i a b x y
plain_one_way false false rvc i a b x y = masked_one_way rvc i a b x y

expansion_of_one_way : (f : Format) (line : ℕ) (rvc : Bool) (body : Body) (a b : List BundleSlot)
    → IsExpansionOf f line rvc body a → IsExpansionOf f line rvc body b → a ≡ b
expansion_of_one_way f line rvc (Plain i) a b x y = plain_one_way (writes_stack f i) (is_on_stack f i) rvc i a b x y
expansion_of_one_way f line rvc _ a b x y = x ∙ sym y

pub expansion_one_way : (f : Format) (x : Item) (a b : List BundleSlot) → IsExpansion f x a → IsExpansion f x b → a ≡ b
expansion_one_way f x a b h g = expansion_of_one_way f x.line x.rvc x.body a b h g

gap_one_way : (end : ℕ) (labelled call : Bool) (size m n : ℕ) → FillsGap end labelled call size m → FillsGap end labelled call size n → m ≡ n
gap_one_way end labelled call size m n a b =
    let up = a.first (end + 2 * n) b.stands in
    let down = b.first (end + 2 * m) a.stands in
    omega arith

-- an item's c.nops and its expansion
pub record SameNext (m n : ℕ) (a b : List BundleSlot) : Type 0 where
  pub nops : m ≡ n
  pub expanded : a ≡ b

pub next_one_way : (f : Format) (end : ℕ) (x : Item) (m n : ℕ) (a b : List BundleSlot) → IsNext f end x m a → IsNext f end x n b → SameNext m n a b
next_one_way f end x m n a b s t =
    let e = expansion_one_way f x a b s.expansion t.expansion in
    record {
      nops = gap_one_way end x.labelled (is_call x.body) (size_of b) m n (subst (λ (c : List BundleSlot). FillsGap end x.labelled (is_call x.body) (size_of c) m) e s.gap) t.gap;
      expanded = e;
    }

pub laid_one_way : (f : Format) (end : ℕ) (items : List Item) (a b : List BundleSlot) → AreLaidFrom f end items a → AreLaidFrom f end items b → a ≡ b
laid_one_way f end [] a b x y = x ∙ sym y
laid_one_way f end (i ∷ items) a b x y =
    let same = next_one_way f end i x.0 y.0 x.1 y.1 x.3 y.3 in
    let e : end + 2 * y.0 + size_of y.1 ≡ end + 2 * x.0 + size_of x.1 = (let h = same.nops in let g = ap size_of same.expanded in omega arith) in
    let rest = laid_one_way f (end + 2 * x.0 + size_of x.1) items x.2 y.2 x.5 (subst (λ (m : ℕ). AreLaidFrom f m items y.2) e y.5) in
    x.4
    ∙ ap (λ (n : ℕ). replicate n c_nop ++ (x.1 ++ x.2)) same.nops
    ∙ ap (λ (s : List BundleSlot). replicate y.0 c_nop ++ (s ++ x.2)) same.expanded
    ∙ ap (λ (s : List BundleSlot). replicate y.0 c_nop ++ (y.1 ++ s)) rest
    ∙ sym y.4

-- ==== The bundles of a placement are whole expansions and c.nops: no expansion was cut.

whole-append : (f : Format) (count : ℕ) (xs ys : List BundleSlot) → AreWhole f count xs → AreWhole f count ys → AreWhole f count (xs ++ ys)
whole-append f count _ ys nothing w = w
whole-append f count _ ys (padding rest r) w = padding (rest ++ ys) (whole-append f count rest ys r w)
whole-append f count _ ys (expansion x one rest p b e r) w =
    subst (AreWhole f count) (sym (append_assoc one rest ys)) (expansion x one (rest ++ ys) p b e (whole-append f count rest ys r w))

-- ---- pieces: an expansion or a c.nop each

-- the piece is whole, takes some bytes, and from `end` on it crosses no bundle's end
record IsPiece (f : Format) (count end : ℕ) (piece : List BundleSlot) : Type 0 where
  whole : AreWhole f count piece
  some : 0 < size_of piece
  inside : end % 16 + size_of piece ≤ 16

abbrev ArePieces : Format → ℕ → ℕ → List (List BundleSlot) → Type 0
ArePieces f count end [] = Unit {0}
ArePieces f count end (p ∷ pieces) = IsPiece f count end p × ArePieces f count (end + size_of p) pieces

-- the slots, from that end on, are such pieces
record InPieces (f : Format) (count end : ℕ) (slots : List BundleSlot) : Type 0 where
  pieces : List (List BundleSlot)
  are : ArePieces f count end pieces
  flat : slots_of pieces ≡ slots

all_whole : (f : Format) (count end : ℕ) (pieces : List (List BundleSlot)) → ArePieces f count end pieces → AreWhole f count (slots_of pieces)
all_whole f count end [] h = nothing
all_whole f count end (p ∷ pieces) h = whole-append f count p (slots_of pieces) h.0.whole (all_whole f count (end + size_of p) pieces h.1)

-- ---- cut at a bundle's end

-- what stands up to the bundle's end is whole, and pieces stand after it
record IsCut (f : Format) (count end : ℕ) (b rest : List BundleSlot) : Type 0 where
  whole : AreWhole f count b
  after : InPieces f count (end + size_of b) rest

cut : (f : Format) (count end : ℕ) (pieces : List (List BundleSlot)) (b rest : List BundleSlot)
    → ArePieces f count end pieces → slots_of pieces ≡ b ++ rest → end % 16 + size_of b ≤ 16 → (end + size_of b) % 16 ≡ 0 → IsCut f count end b rest
cut f count end pieces [] rest h e room up =
    record { whole = nothing; after = subst (λ (n : ℕ). InPieces f count n rest) (let z : size_of [] ≡ 0 = refl in omega arith) (record { pieces = pieces; are = h; flat = e }) }
cut f count end [] (x ∷ b) rest h e room up = cc
cut f count end (p ∷ pieces) (x ∷ b) rest h e room up =
    let s = size_at_least x b in
    let i = h.0.inside in
    let n = h.0.some in
    let g = begins_with (x ∷ b) p (slots_of pieces) rest e (omega arith) in
    let z = ap size_of g.front ∙ size_of-append p g.more in
    let r = cut f count (end + size_of p) pieces g.more rest h.1 g.back (omega arith) (omega arith) in
    record {
      whole = subst (AreWhole f count) (sym g.front) (whole-append f count p g.more h.0.whole r.whole);
      after = subst (λ (m : ℕ). InPieces f count m rest) (omega arith) r.after;
    }

bundles_whole : (f : Format) (count end : ℕ) (bundles pieces : List (List BundleSlot))
    → AreBundles bundles → end % 16 ≡ 0 → ArePieces f count end pieces → slots_of pieces ≡ slots_of bundles → All (AreWhole f count) bundles
bundles_whole f count end [] pieces b z h e = All-nil (AreWhole f count)
bundles_whole f count end (one ∷ []) pieces b z h e =
    All-cons (AreWhole f count) one [] (subst (AreWhole f count) (e ∙ append-nil one) (all_whole f count end pieces h)) (All-nil (AreWhole f count))
bundles_whole f count end (one ∷ two ∷ bundles) pieces b z h e =
    let full = b.0 in
    let c = cut f count end pieces one (slots_of (two ∷ bundles)) h e (omega arith) (omega arith) in
    All-cons (AreWhole f count) one (two ∷ bundles) c.whole
    (bundles_whole f count (end + size_of one) (two ∷ bundles) c.after.pieces b.1 (omega arith) c.after.are c.after.flat)

-- ---- what is laid is pieces

nop_pieces : (f : Format) (count end n : ℕ) (more : List BundleSlot) → end % 2 ≡ 0 → InPieces f count (end + 2 * n) more → InPieces f count end (replicate n c_nop ++ more)
nop_pieces f count end zero more even m = subst (λ (k : ℕ). InPieces f count k more) (omega arith) m
nop_pieces f count end (suc n) more even m =
    let r = nop_pieces f count (end + 2) n more (omega arith) (subst (λ (k : ℕ). InPieces f count k more) (omega arith) m) in
    record {
      pieces = (c_nop ∷ []) ∷ r.pieces;
      are = (record { whole = padding [] nothing; some = omega arith; inside = omega arith }, r.are);
      flat = ap (λ v. c_nop ∷ v) r.flat;
    }

laid_pieces : (f : Format) (count end : ℕ) (items : List Item) (slots more : List BundleSlot)
    → end % 2 ≡ 0 → AreLaidFrom f end items slots → All (IsPermitted f) items → All (λ x. IsBody count x.body) items → InPieces f count (end + size_of slots) more
    → InPieces f count end (slots ++ more)
laid_pieces f count end [] slots more even l p b m =
    subst (λ v. InPieces f count end (v ++ more)) (sym l) (subst (λ (k : ℕ). InPieces f count k more) (let z = ap size_of l in let n : size_of [] ≡ 0 = refl in omega arith) m)
laid_pieces f count end (x ∷ items) slots more even l p b m =
    let B : Item → Type 0 = λ y. IsBody count y.body in
    let nops = l.0 in
    let one = l.1 in
    let rest = l.2 in
    let next = l.3 in
    let s = ap size_of l.4 ∙ size_next nops one rest in
    let o = size_even one in
    let fits = expansion_one f x one next.expansion in
    let r = laid_pieces f count (end + 2 * nops + size_of one) items rest more (omega arith) l.5 (All-tail (IsPermitted f) x items p) (All-tail B x items b)
    (subst (λ (k : ℕ). InPieces f count k more) (omega arith) m) in
    let here : InPieces f count (end + 2 * nops) (one ++ (rest ++ more)) = record {
      pieces = one ∷ r.pieces;
      are = (
        record {
          whole = subst (AreWhole f count) (append-nil one) (expansion x one [] (All-head (IsPermitted f) x items p) (All-head B x items b) next.expansion nothing);
          some = fits.some;
          inside = next.gap.stands.in_bundle;
        },
        r.are,
      );
      flat = ap (λ v. one ++ v) r.flat;
    } in
    let all = nop_pieces f count end nops (one ++ (rest ++ more)) even here in
    let shape : slots ++ more ≡ replicate nops c_nop ++ (one ++ (rest ++ more)) =
    ap (λ v. v ++ more) l.4 ∙ append_assoc (replicate nops c_nop) (one ++ rest) more ∙ ap (λ v. replicate nops c_nop ++ v) (append_assoc one rest more) in
    subst (InPieces f count end) (sym shape) all

-- the bundles of what is laid, with c.nops after it
pub laid_whole : (f : Format) (count : ℕ) (items : List Item) (slots : List BundleSlot) (nops : ℕ) (bundles : List (List BundleSlot))
    → AreLaidFrom f 0 items slots → All (IsPermitted f) items → All (λ x. IsBody count x.body) items → slots_of bundles ≡ slots ++ replicate nops c_nop → AreBundles bundles
    → All (AreWhole f count) bundles
laid_whole f count items slots nops bundles l p b e are =
    let even = size_even slots in
    let empty : InPieces f count (0 + size_of slots + 2 * nops) [] = record { pieces = []; are = tt; flat = refl } in
    let end : InPieces f count (0 + size_of slots) (replicate nops c_nop) =
    subst (InPieces f count (0 + size_of slots)) (append-nil (replicate nops c_nop)) (nop_pieces f count (0 + size_of slots) nops [] (omega arith) empty) in
    let all = laid_pieces f count 0 items slots (replicate nops c_nop) refl l p b end in
    bundles_whole f count 0 bundles all.pieces are refl all.are (all.flat ∙ sym e)
