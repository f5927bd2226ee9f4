-- Tables fit: each is bytes, and has room in the data of its sandbox.
use Rattle.sfi_link.proofs.Prelude.{◌≡◌, refl, sym, ap, subst, ℕ, ◌+◌, ◌<◌, ◌≤◌, List, [], ◌∷◌, ◌++◌, Option, None, Some, Result, Ok, Err, true, false, nat_lt, length, length-append, arith, map, slice_get, All, All-nil, All-cons, All-append, Sandbox, IsSandbox, Placement, Place}
use Rattle.std.proofs.Common.{cond, zero, suc}
use Rattle.std.proofs.lemmas.Bool.{ltb-false}
use Rattle.std.proofs.lemmas.Bool.Decides.{nat_tests}
use Rattle.std.proofs.lemmas.Option.{same_Some, none-some}
use Rattle.std.specs.Prelude.{IsTrue}
use Rattle.std.specs.List.{AllByRecursion}
use Rattle.std.proofs.lemmas.List.Elements.{All-from_recursion, recursion_from_All}
unfoldable use Rattle.sfi_image.specs.Spelling.{number}
use Rattle.sfi_names.specs.Tables.{Named, Table, IsName, entries, magic}
unfoldable use Rattle.sfi_names.specs.Tables.{entry, footer, spelling}
use Rattle.sfi_source.specs.Source.{IsEntry}
use Rattle.sfi_source.specs.Names.{IsShortLabel, begins_name, continues_name}
use Rattle.sfi_source.specs.declared.item.Named.{Named as Meaning}
use Rattle.sfi_text.specs.declared.source_text.Listed.{Listed}
use Rattle.sfi_text.specs.SoFar.{SharedNames}
use Rattle.sfi_build.specs.declared.table_fault.TableFault.{TableFault}
use Rattle.sfi_build.specs.declared.table_fault.TableFault.TheVariants.{NoRoom}
use Rattle.sfi_build.specs.Tables.{address_in, on_ok, entry_with, entry_before, entries_of, table_of, bytes_within, is_unlisted, room_of, tail_of, tails_from}
use Rattle.sfi_build.proofs.Tails.{Fit}

abbrev IsByte : ℕ → Type 0
IsByte b = b < 256

-- ---- results

pub ok_of : {X Y : Type 0} (r : Result X TableFault) (f : X → Result Y TableFault) (y : Y) → on_ok r f ≡ Ok y → (x : X) × (r ≡ Ok x) × (f x ≡ Ok y)
ok_of (Ok x) f y h = (x, refl, h)
ok_of (Err g) f y h = cc

abbrev pub Same : {X : Type 0} → Result X TableFault → Result X TableFault → Type 0
Same a b = a ≡ b

pub same_ok : {X : Type 0} (x y : X) → Same {X = X} (Ok x) (Ok y) → x ≡ y
same_ok x y h = cc

pub same_err : {X : Type 0} (f g : TableFault) → Same {X = X} (Err f) (Err g) → f ≡ g
same_err f g h = cc

pub ok_not_err : {X : Type 0} (x : X) (g : TableFault) → Same {X = X} (Ok x) (Err g) → ⊥
ok_not_err x g h = cc

-- ---- a name of a source is one that a table may have

visible : (c : ℕ) → IsTrue (continues_name c) → (33 ≤ c) × (c ≤ 126)
visible c h = (grind (arith, nat_tests), grind (arith, nat_tests))

first_visible : (c : ℕ) → IsTrue (begins_name c) → (33 ≤ c) × (c ≤ 126)
first_visible c h = (grind (arith, nat_tests), grind (arith, nat_tests))

all_visible : (cs : List ℕ) → AllByRecursion (λ b. IsTrue (continues_name b)) cs → AllByRecursion (λ b. (33 ≤ b) × (b ≤ 126)) cs
all_visible [] h = tt
all_visible (c ∷ cs) h = (visible c h.0, all_visible cs h.1)

pub label_named : (name : List ℕ) → IsShortLabel name → IsName name
label_named [] h = absurd h.0.0
label_named (c ∷ cs) h = record {
  at_least = omega arith;
  at_most = omega (arith, h.1);
  visible = All-from_recursion (λ b. (33 ≤ b) × (b ≤ 126)) (c ∷ cs) (first_visible c h.0.0.0, all_visible cs h.0.0.1);
}

-- ---- the bytes of a table

pub number_bytes : (n : ℕ) → All IsByte (number n)
unfolding number
number_bytes n = All-from_recursion IsByte (number n) (omega arith, (omega arith, (omega arith, (omega arith, tt))))

abbrev pub IsNamedRight : Named → Type 0
IsNamedRight e = IsName e.name

entry_bytes : (e : Named) → IsNamedRight e → All IsByte (entry e)
unfolding entry
entry_bytes e h =
    All-append IsByte (number e.address) (length e.name ∷ e.name) (number_bytes e.address)
    (All-cons IsByte (length e.name) e.name (omega (arith, h.at_most)) (λ k d l. omega (arith, (h.visible k d l).1)))

entries_bytes : (es : List Named) → AllByRecursion IsNamedRight es → All IsByte (entries es)
entries_bytes [] h = All-nil IsByte
entries_bytes (e ∷ es) h = All-append IsByte (entry e) (entries es) (entry_bytes e h.0) (entries_bytes es h.1)

magic_bytes : All IsByte magic
magic_bytes = All-from_recursion IsByte magic (omega arith, (omega arith, (omega arith, (omega arith, tt))))

footer_bytes : (t : Table) → All IsByte (footer t)
unfolding footer
footer_bytes t =
    All-append IsByte (number t.version) _ (number_bytes t.version)
    (All-append IsByte (number (length (entries t.exports))) _ (number_bytes (length (entries t.exports))) (number_bytes (length (entries t.imports))))

table_bytes : (t : Table) → AllByRecursion IsNamedRight t.exports → AllByRecursion IsNamedRight t.imports → All IsByte (spelling t)
unfolding spelling
table_bytes t exports imports =
    All-append IsByte (entries t.exports) _ (entries_bytes t.exports exports)
    (All-append IsByte (entries t.imports) _ (entries_bytes t.imports imports)
    (All-append IsByte (footer t) magic (footer_bytes t) magic_bytes))

pub length_spelling : (t : Table) → length (spelling t) ≡ length (entries t.exports) + length (entries t.imports) + 16
unfolding spelling footer number
length_spelling t =
    omega (arith, length-append (entries t.exports) (entries t.imports ++ (footer t ++ magic)), length-append (entries t.imports) (footer t ++ magic))

-- ---- the entries of a sandbox's names

abbrev pub AreShort : List (List ℕ) → Type 0
AreShort texts = AllByRecursion IsShortLabel texts

pub at_place : (texts : List (List ℕ)) (place : ℕ) (name : List ℕ) → AreShort texts → slice_get texts place ≡ Some name → IsShortLabel name
at_place [] place name h at = absurd (none-some name at)
at_place (x ∷ texts) zero name h at = subst IsShortLabel (same_Some _ _ at) h.0
at_place (x ∷ texts) (suc place) name h at = at_place texts place name h.1 at

pub entry_right : (name : Option (List ℕ)) (address : Option ℕ) (e : Named) → ((n : List ℕ) → name ≡ Some n → IsShortLabel n) → entry_with name address ≡ Some e → IsNamedRight e
entry_right (Some n) (Some a) e short h = subst IsNamedRight (same_Some _ _ h) (label_named n (short n refl))
entry_right (Some n) None e short h = absurd (none-some e h)
entry_right None address e short h = absurd (none-some e h)

pub before_ok : (o : Option Named) (line : ℕ) (rest : Result (List Named) TableFault) (es : List Named) → entry_before o line rest ≡ Ok es
    → (e : Named) × (more : List Named) × (o ≡ Some e) × (rest ≡ Ok more) × (es ≡ e ∷ more)
before_ok (Some e) line (Ok more) es h = (e, more, refl, refl, sym (same_ok _ _ h))
before_ok (Some e) line (Err g) es h = cc
before_ok None line rest es h = cc

entries_right : (f : ℕ → Option ℕ) (texts : List (List ℕ)) (listed : List Listed) (es : List Named) → AreShort texts → entries_of f texts listed ≡ Ok es → AllByRecursion IsNamedRight es
entries_right f texts [] es short h = subst (AllByRecursion IsNamedRight) (same_ok _ _ h) tt
entries_right f texts (l ∷ listed) es short h =
    let (e, more, one, rest, is) = before_ok (entry_with (slice_get texts l.name) (f l.name)) l.line (entries_of f texts listed) es h in
    subst (AllByRecursion IsNamedRight) (sym is)
    (entry_right (slice_get texts l.name) (f l.name) e (λ n at. at_place texts l.name n short at) one, entries_right f texts listed more short rest)

-- ---- the table of a sandbox

pub texts_short : (s : Sandbox) → IsSandbox s → AreShort (map (λ e. e.0) s.names)
texts_short s h = each s.names (recursion_from_All (IsEntry s) s.names h.names)
  where
    each : (names : List (List ℕ × Meaning)) → AllByRecursion (IsEntry s) names → AreShort (map (λ e. e.0) names)
    each [] h = tt
    each (e ∷ names) h = (h.0.name, each names h.1)

within : (number room : ℕ) (t : Table) (tail : List ℕ) → bytes_within number room t ≡ Ok tail → (length tail ≤ room) × (tail ≡ spelling t)
within number room t tail h =
    elim (nat_lt room (length (spelling t))) as (λ b. nat_lt room (length (spelling t)) ≡ b → cond b (Err (NoRoom number)) (Ok (spelling t)) ≡ Ok tail → (length tail ≤ room) × (tail ≡ spelling t)) [
      | true ↦ λ e h. cc
      | false ↦ λ e h. let same = sym (same_ok _ _ h) in (omega (arith, ap length same, ltb-false _ _ e), same)
    ] refl h

tail_fits : (f : ℕ → Option ℕ) (number : ℕ) (shared : SharedNames) (s : Sandbox) (tail : List ℕ) → IsSandbox s → tail_of f number shared s ≡ Ok tail
    → (length s.bytes + length tail ≤ s.data_size) × All IsByte tail
tail_fits f number shared s tail right h =
    elim (is_unlisted shared) as (λ b. cond b (Ok []) (on_ok (table_of f texts shared) (bytes_within number (room_of s))) ≡ Ok tail → (length s.bytes + length tail ≤ s.data_size) × All IsByte tail) [
      | true ↦ λ h. subst (λ t. (length s.bytes + length t ≤ s.data_size) × All IsByte t) (same_ok _ _ h) (omega (arith, right.byte_count), All-nil IsByte)
      | false ↦ λ h.
          let (t, table_is, fits) = ok_of (table_of f texts shared) (bytes_within number (room_of s)) tail h in
          let (exports, exports_are, made) = ok_of (entries_of f texts shared.exports) _ t table_is in
          let (imports, imports_are, is) = ok_of (entries_of f texts shared.imports) _ t made in
          let small = within number (room_of s) t tail fits in
          let same = same_ok _ _ is in
          let all = subst (λ (u : Table). All IsByte (spelling u)) same (table_bytes _ (entries_right f texts shared.exports exports short exports_are) (entries_right f texts shared.imports imports short imports_are)) in
          (omega (arith, right.byte_count, small.0), subst (λ x. All IsByte x) (sym small.1) all)
    ] h
  where
    texts : List (List ℕ)
    texts = map (λ e. e.0) s.names

    short : AreShort (map (λ e. e.0) s.names)
    short = texts_short s right

pub tails_fit : (given : List Place) (placed : List Placement) (number : ℕ) (shared : List SharedNames) (source : List Sandbox) (tails : List (List ℕ)) → AllByRecursion IsSandbox source
    → tails_from given placed number shared source ≡ Ok tails → Fit tails source
tails_fit given placed number [] source tails all h = subst (λ x. Fit x source) (same_ok _ _ h) tt
tails_fit given placed number (l ∷ shared) [] tails all h = subst (λ x. Fit x []) (same_ok _ _ h) tt
tails_fit given placed number (l ∷ shared) (s ∷ source) tails all h =
    let (t, one, more) = ok_of (tail_of (address_in given number (slice_get placed number)) number l s) _ tails h in
    let (ts, rest, is) = ok_of (tails_from given placed (number + 1) shared source) _ tails more in
    let own = tail_fits (address_in given number (slice_get placed number)) number l s t all.0 one in
    subst (λ x. Fit x (s ∷ source)) (same_ok _ _ is) (own.0, own.1, tails_fit given placed (number + 1) shared source ts all.1 rest)
