-- Tables are made step by step: what their bytes are made of.
use Rattle.sfi_link.proofs.Prelude.{◌≡◌, sym, subst, ℕ, ◌+◌, ◌^◌, ◌<◌, List, length, get_or, arith, Place, Placement, IsPlacedPart, IsPlaced, bases_of, AreInReach, refl, ap, ◌∙◌, [], ◌∷◌, ◌++◌, Option, None, Some, Result, Ok, Err, map, slice_get, take, drop, append_assoc, append-nil, Sandbox, inl, inr, ◌≤◌, true, false, take_more, map_push, length-take-le, All, each_with}
use Rattle.sfi_link.specs.Linked.{IsLinkedImage}
use Rattle.sfi_link.proofs.Linking.{near_of}
use Rattle.sfi_link.proofs.Parts.{linked_at, start_fits}
use Rattle.std.proofs.lemmas.List.{at_drop_more}
use Rattle.sfi_names.specs.Tables.{Named, Table, IsNamed, IsTable, entry, entries, spelling}
use Rattle.sfi_text.specs.declared.source_text.Listed.{Listed}
use Rattle.sfi_text.specs.SoFar.{SharedNames}
use Rattle.sfi_build.specs.declared.table_fault.TableFault.{TableFault}
use Rattle.sfi_build.specs.declared.table_fault.TableFault.TheVariants.{Unknown, NoRoom}
use Rattle.sfi_build.specs.Tables.{address_in, on_ok, entry_with, entry_before, entries_of, tail_of, tails_from, sandbox_with, table_of, bytes_within, is_unlisted, room_of}
use Rattle.std.proofs.Common.{cond}
use Rattle.std.specs.List.{AllByRecursion}
use Rattle.std.proofs.lemmas.List.Elements.{recursion_from_All}
use Rattle.std.proofs.lemmas.Bool.{lt-ltb, le-ltb}
use Rattle.std.proofs.lemmas.Grind.{flat_map-append}
use Rattle.sfi_build.specs.declared.fault.BuildFault.{BuildFault}
use Rattle.sfi_build.specs.private.{IsTableStop}
use Rattle.sfi_source.specs.Names.{IsShortLabel}
use Rattle.sfi_source.specs.declared.item.Named.{Named as Meaning}
use Rattle.sfi_build.proofs.Fitting.{AreShort}

-- ==== The addresses of names in an image have 32 bits.

pub near_at : (given : List Place) (placed : List Placement) (bytes : List ℕ) → IsPlaced placed → IsLinkedImage given placed bytes → (k : ℕ) (p : Placement) → k < length placed → p ≡ get_or placed k p
    → AreInReach (bases_of given k p) p.names × ((bases_of given k p).start < 2 ^ 32)
near_at given placed bytes right image k p less is =
    let q = linked_at given 0 k k placed image.parts p (omega arith) less is image.linked.each in
    let room = q.1.code.size.has_room in
    let own : IsPlacedPart p = subst (λ r. IsPlacedPart r) (sym is) (right.each k p less) in
    (near_of given k p _ own room q.1.lies, start_fits given k p _ room q.1.lies)

-- ==== Tables are made step by step: entries of what is listed, and first data bytes of sandboxes.

-- what was made before it, and on_ok what is made of the rest
abbrev pub after : {X : Type 0} → List X → Result (List X) TableFault → Result (List X) TableFault
after made rest = on_ok rest (λ more. Ok (made ++ more))

pub at_first : {X : Type 0} (r : Result (List X) TableFault) → r ≡ after [] r
at_first (Ok x) = refl
at_first (Err f) = refl

pub at_last : {X : Type 0} (made : List X) → after made (Ok []) ≡ Ok made
at_last made = ap (λ l. Ok l) (append-nil made)

pub one_more : {X : Type 0} (made : List X) (x : X) (rest : Result (List X) TableFault) → after made (on_ok rest (λ more. Ok (x ∷ more))) ≡ after (made ++ x ∷ []) rest
one_more made x (Ok more) = ap (λ l. Ok l) (sym (append_assoc made (x ∷ []) more))
one_more made x (Err f) = refl

-- the next of what is listed, if there is one, is its first
pub next : {X : Type 0} (xs : List X) (k : ℕ) (x : X) → k < length xs → x ≡ get_or xs k x → drop k xs ≡ x ∷ drop (k + 1) xs
next xs k x less is = at_drop_more (λ l. l) xs k x less ∙ ap (λ y. y ∷ drop (k + 1) xs) (sym is)

pub each_with_push : {X : Type 0} (add : List ℕ → X → X) (bs : List (List ℕ)) (b : List ℕ) (xs : List X) (x : X) → length bs ≡ length xs
    → each_with add (bs ++ b ∷ []) (xs ++ x ∷ []) ≡ each_with add bs xs ++ add b x ∷ []
each_with_push add [] b [] x same = refl
each_with_push add [] b (y ∷ ys) x same = absurd (omega (arith, same))
each_with_push add (c ∷ bs) b [] x same = absurd (omega (arith, same))
each_with_push add (c ∷ bs) b (y ∷ ys) x same = ap (λ l. add c y ∷ l) (each_with_push add bs b ys x (omega (arith, same)))

-- ==== What the bytes of a table are made of.

each_short : (names : List (List ℕ × Meaning)) → AllByRecursion (λ e. IsShortLabel e.0) names → AreShort (map (λ e. e.0) names)
each_short [] h = tt
each_short (e ∷ names) h = (h.0, each_short names h.1)

pub names_short : (names : List (List ℕ × Meaning)) → All (λ e. IsShortLabel e.0) names → AreShort (map (λ e. e.0) names)
names_short names h = each_short names (recursion_from_All (λ e. IsShortLabel e.0) names h)

-- one entry more is written
pub entries_more : (es : List Named) (e : Named) → entries (es ++ e ∷ []) ≡ entries es ++ entry e
entries_more es e = flat_map-append entry es (e ∷ []) ∙ ap (λ (t : List ℕ). entries es ++ t) (append-nil (entry e))

module _ (f : ℕ → Option ℕ) (texts : List (List ℕ)) where
  -- the first of what is left has an entry
  pub passed : (all left rest : List Listed) (es : List Named) (l : Listed) (e : Named) → entries_of f texts all ≡ after es (entries_of f texts left) → left ≡ l ∷ rest
      → entry_with (slice_get texts l.name) (f l.name) ≡ Some e → entries_of f texts all ≡ after (es ++ e ∷ []) (entries_of f texts rest)
  passed all left rest es l e h first one =
      h ∙ ap (λ x. after es (entries_of f texts x)) first ∙ ap (λ o. after es (entry_before o l.line (entries_of f texts rest))) one ∙ one_more es e (entries_of f texts rest)

  -- it has none
  pub stopped : (all left rest : List Listed) (es : List Named) (l : Listed) → entries_of f texts all ≡ after es (entries_of f texts left) → left ≡ l ∷ rest
      → entry_with (slice_get texts l.name) (f l.name) ≡ None → entries_of f texts all ≡ Err (Unknown l.line)
  stopped all left rest es l h first none =
      h ∙ ap (λ x. after es (entries_of f texts x)) first ∙ ap (λ o. after es (entry_before o l.line (entries_of f texts rest))) none

-- where one step stops, so does another that stops wherever it has a fault
pub carried : {X Y : Type 0} (due : Result X TableFault) (made : Result Y TableFault) (fault : BuildFault) → ((g : TableFault) → due ≡ Err g → made ≡ Err g) → IsTableStop due fault → IsTableStop made fault
carried due made fault h (inl memory) = inl memory
carried due made fault h (inr (g, is, e)) = inr (g, is, h g e)

abbrev pub table_with : List Named → List Named → Table
table_with es fs = record { version = 0; exports = es; imports = fs }

pub is_table : (es fs : List Named) → All IsNamed es → All IsNamed fs → length (entries es) + length (entries fs) < 2 ^ 32 → IsTable (table_with es fs)
is_table es fs all_es all_fs few = record { exports = all_es; imports = all_fs; version = omega arith; exports_bytes = omega (arith, few); imports_bytes = omega (arith, few) }

module _ (f : ℕ → Option ℕ) (number : ℕ) (shared : SharedNames) (s : Sandbox) where
  abbrev texts : List (List ℕ)
  texts = map (λ e. e.0) s.names

  pub unlisted : is_unlisted shared ≡ true → tail_of f number shared s ≡ Ok []
  unlisted h = ap (λ b. cond b (Ok []) (on_ok (table_of f texts shared) (bytes_within number (room_of s)))) h

  listed : is_unlisted shared ≡ false → tail_of f number shared s ≡ on_ok (table_of f texts shared) (bytes_within number (room_of s))
  listed h = ap (λ b. cond b (Ok []) (on_ok (table_of f texts shared) (bytes_within number (room_of s)))) h

  pub wrong_import : is_unlisted shared ≡ false → (es : List Named) (g : TableFault) → entries_of f texts shared.exports ≡ Ok es → entries_of f texts shared.imports ≡ Err g → tail_of f number shared s ≡ Err g
  wrong_import h es g e i =
      listed h ∙ (λ k. on_ok (on_ok (e k) (λ exports. on_ok (i k) (λ imports. Ok (record { version = 0; exports = exports; imports = imports })))) (bytes_within number (room_of s)))

  module _ (h : is_unlisted shared ≡ false) (es fs : List Named) (e : entries_of f texts shared.exports ≡ Ok es) (i : entries_of f texts shared.imports ≡ Ok fs) where
    both : tail_of f number shared s ≡ bytes_within number (room_of s) (table_with es fs)
    both = listed h ∙ (λ k. on_ok (on_ok (e k) (λ exports. on_ok (i k) (λ imports. Ok (record { version = 0; exports = exports; imports = imports })))) (bytes_within number (room_of s)))

    pub full : room_of s < length (spelling (table_with es fs)) → tail_of f number shared s ≡ Err (NoRoom number)
    full less = both ∙ ap (λ b. cond b (Err (NoRoom number)) (Ok (spelling (table_with es fs)))) (lt-ltb (room_of s) (length (spelling (table_with es fs))) less)

    pub fits : length (spelling (table_with es fs)) ≤ room_of s → tail_of f number shared s ≡ Ok (spelling (table_with es fs))
    fits less = both ∙ ap (λ b. cond b (Err (NoRoom number)) (Ok (spelling (table_with es fs)))) (le-ltb (room_of s) (length (spelling (table_with es fs))) less)

-- the tables of sandboxes, one after another: those of what is left are made of the next one's and the rest's
module _ (given : List Place) (placed : List Placement) (shared rest_shared : List SharedNames) (source rest : List Sandbox) (tails : List (List ℕ)) (k : ℕ) (l : SharedNames) (s : Sandbox)
    (one : drop k shared ≡ l ∷ rest_shared) (two : drop k source ≡ s ∷ rest)
    (made : tails_from given placed 0 shared source ≡ after tails (tails_from given placed k (drop k shared) (drop k source))) where
  abbrev tail : Result (List ℕ) TableFault
  tail = tail_of (address_in given k (slice_get placed k)) k l s

  there : tails_from given placed 0 shared source ≡ after tails (on_ok tail (λ t. on_ok (tails_from given placed (k + 1) rest_shared rest) (λ more. Ok (t ∷ more))))
  there = made ∙ (λ i. after tails (tails_from given placed k (one i) (two i)))

  pub tails_stopped : (g : TableFault) → tail ≡ Err g → tails_from given placed 0 shared source ≡ Err g
  tails_stopped g e = there ∙ ap (λ r. after tails (on_ok r (λ t. on_ok (tails_from given placed (k + 1) rest_shared rest) (λ more. Ok (t ∷ more))))) e

  pub tails_passed : (t : List ℕ) → tail ≡ Ok t → tails_from given placed 0 shared source ≡ after (tails ++ t ∷ []) (tails_from given placed (k + 1) rest_shared rest)
  tails_passed t e =
      there ∙ ap (λ r. after tails (on_ok r (λ t. on_ok (tails_from given placed (k + 1) rest_shared rest) (λ more. Ok (t ∷ more))))) e
      ∙ one_more tails t (tails_from given placed (k + 1) rest_shared rest)

-- the first data bytes of one sandbox more
pub inits_more : (tails : List (List ℕ)) (t : List ℕ) (source : List Sandbox) (k : ℕ) (s : Sandbox) → length tails ≡ k → k < length source → s ≡ get_or source k s
    → map (λ x. x.bytes) (each_with sandbox_with (tails ++ t ∷ []) (take (k + 1) source)) ≡ map (λ x. x.bytes) (each_with sandbox_with tails (take k source)) ++ (s.bytes ++ t) ∷ []
inits_more tails t source k s count less is =
    ap (λ l. map (λ x. x.bytes) (each_with sandbox_with (tails ++ t ∷ []) l)) (take_more source k s less ∙ ap (λ x. take k source ++ x ∷ []) (sym is))
    ∙ ap (map (λ x. x.bytes)) (each_with_push sandbox_with tails t (take k source) s (omega (arith, count, length-take-le k source (omega arith))))
    ∙ map_push (λ x. x.bytes) (each_with sandbox_with tails (take k source)) (sandbox_with t s)
