-- What is answered of a sandbox, a table or a name's address.
use Rattle.std.proofs.Common.{◌≡◌, ◌∙◌, ℕ, List, length, Some, refl, sym, ap, arith, None, Option, Result, Ok, Err, IfOk, IfErr, IsOkAnd, subst}
use Rattle.std.specs.Prelude.{slice_get}
use Rattle.std.proofs.lemmas.Option.{slice_get_within, get_or_from_slice_get}
use Rattle.sfi_image.specs.Spelling.{Part}
use Rattle.sfi_image.specs.Keeping.{IsSandboxOf, IsBeyond}
use Rattle.sfi_image.proofs.Facts.{one_image, never_both}
use Rattle.sfi_names.specs.declared.image.Missing.{Missing}
use Rattle.sfi_names.specs.declared.image.Missing.TheVariants.{NoImage, NoSandbox, NoTable, BadTable, NoName}
use Rattle.sfi_names.specs.Images.{IsInitOf, HasTableOf, HasNoTable, IsAnswer, IsEntryAnswer, of_kind}
use Rattle.sfi_names.specs.private.{HasNoInit}
use Rattle.sfi_names.specs.declared.names.Names.{Names}
use Rattle.sfi_names.specs.declared.image.Kind.{Kind}
use Rattle.sfi_names.specs.declared.image.Kind.TheVariants.{Exports, Imports}
use Rattle.std.specs.List.{All}
use Rattle.sfi_names.specs.declared.fault.NamesFault.TheVariants as faults
use Rattle.sfi_names.specs.Tables.{Named, Table, HasTable, IsNamesOf, IsName, IsNamed, address_of, named}
use Rattle.sfi_names.specs.declared.entry.NameEntry.{NameEntry}
use Rattle.sfi_names.specs.Faults.{IsFault}
use Rattle.sfi_names.proofs.Ends.{ends_in_magic, one_table}

-- ==== A sandbox of an image by its number: its first data bytes, or why there are none.

one_sandbox : (bytes : List ℕ) (number : ℕ) (p q : Part) → IsSandboxOf bytes number p → IsSandboxOf bytes number q → p ≡ q
one_sandbox bytes number p q h k =
    let same : h.parts ≡ k.parts = one_image bytes h.parts k.parts h.image k.image in
    let both : Some p ≡ Some q = sym h.sandbox_is ∙ ap (λ (l : List Part). slice_get l number) same ∙ k.sandbox_is in
    cc

pub same_init : (bytes : List ℕ) (number : ℕ) (x y : List ℕ) → IsInitOf bytes number x → IsInitOf bytes number y → x ≡ y
same_init bytes number x y h k = h.init_is ∙ ap (λ (p : Part). p.init) (one_sandbox bytes number h.sandbox k.sandbox h.sandbox_is k.sandbox_is) ∙ sym k.init_is

not_beyond : (bytes : List ℕ) (number : ℕ) (p : Part) → IsSandboxOf bytes number p → IsBeyond bytes number → ⊥
not_beyond bytes number p h b =
    let same : length h.parts ≡ length b.0 = ap length (one_image bytes h.parts b.0 h.image b.1) in
    let within = slice_get_within h.parts number p h.sandbox_is in
    let many = b.2 in
    omega arith

pub init_not_missing : (bytes : List ℕ) (number : ℕ) (x : List ℕ) (m : Missing) → IsInitOf bytes number x → HasNoInit bytes number m → ⊥
init_not_missing bytes number x NoImage h f = never_both bytes h.sandbox_is.parts f.0 h.sandbox_is.image f.1
init_not_missing bytes number x NoSandbox h b = not_beyond bytes number h.sandbox h.sandbox_is b
init_not_missing bytes number x NoTable h f = f
init_not_missing bytes number x BadTable h f = f
init_not_missing bytes number x NoName h f = f

pub same_missing : (bytes : List ℕ) (number : ℕ) (m n : Missing) → HasNoInit bytes number m → HasNoInit bytes number n → m ≡ n
same_missing bytes number NoImage NoImage f g = refl
same_missing bytes number NoImage NoSandbox f b = absurd (never_both bytes b.0 f.0 b.1 f.1)
same_missing bytes number NoImage NoTable f g = absurd g
same_missing bytes number NoImage BadTable f g = absurd g
same_missing bytes number NoImage NoName f g = absurd g
same_missing bytes number NoSandbox NoImage b f = absurd (never_both bytes b.0 f.0 b.1 f.1)
same_missing bytes number NoSandbox NoSandbox f g = refl
same_missing bytes number NoSandbox NoTable f g = absurd g
same_missing bytes number NoSandbox BadTable f g = absurd g
same_missing bytes number NoSandbox NoName f g = absurd g
same_missing bytes number NoTable n f g = absurd f
same_missing bytes number BadTable n f g = absurd f
same_missing bytes number NoName n f g = absurd f

-- ==== A question for a table, or for a name's address, has one answer.

-- ---- of first data bytes

-- they have a fault, and this is what is missing
data Lacks (init : List ℕ) (m : Missing) : Type 0 where
  none : IsFault init faults.NoTable → m ≡ NoTable → Lacks init m
  bad : IsFault init faults.BadTable → m ≡ BadTable → Lacks init m

same_lacks : (init : List ℕ) (m n : Missing) → Lacks init m → Lacks init n → m ≡ n
same_lacks init m n (none h e) (none k f) = e ∙ sym f
same_lacks init m n (none h e) (bad k f) = absurd (h k.0)
same_lacks init m n (bad h e) (none k f) = absurd (k h.0)
same_lacks init m n (bad h e) (bad k f) = e ∙ sym f

not_lacks : (init : List ℕ) (t : Table) (m : Missing) → HasTable init t → Lacks init m → ⊥
not_lacks init t m h (none k e) = k (ends_in_magic init t h)
not_lacks init t m h (bad k e) = k.1 t h

-- ---- of an image

-- there are no first data bytes, or they have a fault
data Misses (image : List ℕ) (number : ℕ) (m : Missing) : Type 0 where
  nowhere : HasNoInit image number m → Misses image number m
  there : (init : List ℕ) → IsInitOf image number init → Lacks init m → Misses image number m

misses : (image : List ℕ) (number : ℕ) (m : Missing) → HasNoTable image number m → Misses image number m
misses image number NoImage h = nowhere h
misses image number NoSandbox h = nowhere h
misses image number NoTable h = there h.0 h.1 (none h.2 refl)
misses image number BadTable h = there h.0 h.1 (bad h.2 refl)
misses image number NoName h = absurd h

same_misses : (image : List ℕ) (number : ℕ) (m n : Missing) → Misses image number m → Misses image number n → m ≡ n
same_misses image number m n (nowhere h) (nowhere k) = same_missing image number m n h k
same_misses image number m n (nowhere h) (there y k f) = absurd (init_not_missing image number y m k h)
same_misses image number m n (there x h e) (nowhere k) = absurd (init_not_missing image number x n h k)
same_misses image number m n (there x h e) (there y k f) = same_lacks y m n (subst (λ (z : List ℕ). Lacks z m) (same_init image number x y h k) e) f

same_none : (image : List ℕ) (number : ℕ) (m n : Missing) → HasNoTable image number m → HasNoTable image number n → m ≡ n
same_none image number m n h k = same_misses image number m n (misses image number m h) (misses image number n k)

same_table : (image : List ℕ) (number : ℕ) (t u : Table) → HasTableOf image number t → HasTableOf image number u → t ≡ u
same_table image number t u h k = one_table k.init t u (subst (λ (z : List ℕ). HasTable z t) (same_init image number h.init k.init h.init_is k.init_is) h.table) k.table

never_misses : (image : List ℕ) (number : ℕ) (t : Table) (m : Missing) → HasTableOf image number t → Misses image number m → ⊥
never_misses image number t m h (nowhere k) = init_not_missing image number h.init m h.init_is k
never_misses image number t m h (there y k f) = not_lacks y t m (subst (λ (z : List ℕ). HasTable z t) (same_init image number h.init y h.init_is k) h.table) f

never_found_and_missing : (image : List ℕ) (number : ℕ) (t : Table) (m : Missing) → HasTableOf image number t → HasNoTable image number m → ⊥
never_found_and_missing image number t m h k = never_misses image number t m h (misses image number m k)

-- ---- a table

abbrev Found : List ℕ → ℕ → Result Names Missing → Type 0
Found image number r = IfOk r (λ n. (t : Table) × HasTableOf image number t × IsNamesOf n t)

abbrev Lost : List ℕ → ℕ → Result Names Missing → Type 0
Lost image number r = IfErr r (λ m. HasNoTable image number m)

pub only_found : (image : List ℕ) (number : ℕ) (r : Result Names Missing) → Found image number r → Lost image number r → (t : Table) → HasTableOf image number t → IsOkAnd r (λ n. IsNamesOf n t)
only_found image number (Ok n) f l t h = subst (λ (u : Table). IsNamesOf n u) (same_table image number f.0 t f.1 h) f.2
only_found image number (Err m) f l t h = absurd (never_found_and_missing image number t m h l)

pub only_missing : (image : List ℕ) (number : ℕ) (r : Result Names Missing) → Found image number r → Lost image number r → (m : Missing) → HasNoTable image number m → r ≡ Err m
only_missing image number (Ok n) f l m h = absurd (never_found_and_missing image number f.0 m f.1 h)
only_missing image number (Err k) f l m h = ap Err (same_none image number k m l h)

-- ---- an address

told : Option ℕ → Result ℕ Missing
told (Some a) = Ok a
told None = Err NoName

data Looks (image : List ℕ) (number : ℕ) (kind : Kind) (name : List ℕ) (r : Result ℕ Missing) : Type 0 where
  read : (t : Table) → HasTableOf image number t → r ≡ told (address_of name (of_kind kind t)) → Looks image number kind name r
  missing : (m : Missing) → HasNoTable image number m → r ≡ Err m → Looks image number kind name r

looks : (image : List ℕ) (number : ℕ) (kind : Kind) (name : List ℕ) (r : Result ℕ Missing) → IsAnswer image number kind name r → Looks image number kind name r
unfolding told
looks image number kind name (Ok a) h = read h.0 h.1 (sym (ap told h.2))
looks image number kind name (Err NoName) h = read h.0 h.1 (sym (ap told h.2))
looks image number kind name (Err NoTable) h = missing NoTable h refl
looks image number kind name (Err BadTable) h = missing BadTable h refl
looks image number kind name (Err NoImage) h = missing NoImage h refl
looks image number kind name (Err NoSandbox) h = missing NoSandbox h refl

same_looks : (image : List ℕ) (number : ℕ) (kind : Kind) (name : List ℕ) (r s : Result ℕ Missing) → Looks image number kind name r → Looks image number kind name s → r ≡ s
same_looks image number kind name r s (read t h e) (read u k f) = e ∙ ap (λ (v : Table). told (address_of name (of_kind kind v))) (same_table image number t u h k) ∙ sym f
same_looks image number kind name r s (read t h e) (missing m k f) = absurd (never_found_and_missing image number t m h k)
same_looks image number kind name r s (missing m h e) (read u k f) = absurd (never_found_and_missing image number u m k h)
same_looks image number kind name r s (missing m h e) (missing n k f) = e ∙ ap Err (same_none image number m n h k) ∙ sym f

pub one_answer : (image : List ℕ) (number : ℕ) (kind : Kind) (name : List ℕ) (r s : Result ℕ Missing) → IsAnswer image number kind name r → IsAnswer image number kind name s → r ≡ s
one_answer image number kind name r s h k = same_looks image number kind name r s (looks image number kind name r h) (looks image number kind name s k)

-- ---- an entry

told_entry : Option Named → Result Named Missing
told_entry (Some e) = Ok e
told_entry None = Err NoName

data Picks (image : List ℕ) (number : ℕ) (kind : Kind) (index : ℕ) (r : Result Named Missing) : Type 0 where
  read : (t : Table) → HasTableOf image number t → r ≡ told_entry (slice_get (of_kind kind t) index) → Picks image number kind index r
  missing : (m : Missing) → HasNoTable image number m → r ≡ Err m → Picks image number kind index r

picks : (image : List ℕ) (number : ℕ) (kind : Kind) (index : ℕ) (r : Result Named Missing) → IsEntryAnswer image number kind index r → Picks image number kind index r
unfolding told_entry
picks image number kind index (Ok e) h = read h.0 h.1 (sym (ap told_entry h.2))
picks image number kind index (Err NoName) h = read h.0 h.1 (sym (ap told_entry h.2))
picks image number kind index (Err NoTable) h = missing NoTable h refl
picks image number kind index (Err BadTable) h = missing BadTable h refl
picks image number kind index (Err NoImage) h = missing NoImage h refl
picks image number kind index (Err NoSandbox) h = missing NoSandbox h refl

same_picks : (image : List ℕ) (number : ℕ) (kind : Kind) (index : ℕ) (r s : Result Named Missing) → Picks image number kind index r → Picks image number kind index s → r ≡ s
same_picks image number kind index r s (read t h e) (read u k f) = e ∙ ap (λ (v : Table). told_entry (slice_get (of_kind kind v) index)) (same_table image number t u h k) ∙ sym f
same_picks image number kind index r s (read t h e) (missing m k f) = absurd (never_found_and_missing image number t m h k)
same_picks image number kind index r s (missing m h e) (read u k f) = absurd (never_found_and_missing image number u m k h)
same_picks image number kind index r s (missing m h e) (missing n k f) = e ∙ ap Err (same_none image number m n h k) ∙ sym f

one_entry : (image : List ℕ) (number : ℕ) (kind : Kind) (index : ℕ) (r s : Result Named Missing) → IsEntryAnswer image number kind index r → IsEntryAnswer image number kind index s → r ≡ s
one_entry image number kind index r s h k = same_picks image number kind index r s (picks image number kind index r h) (picks image number kind index s k)

-- what the entry at an index is, as a reader hands it out
abbrev Picked : List ℕ → ℕ → Kind → ℕ → Result NameEntry Missing → Type 0
Picked image number kind index r = IfOk r (λ e. IsEntryAnswer image number kind index (Ok (named e)))

abbrev Unpicked : List ℕ → ℕ → Kind → ℕ → Result NameEntry Missing → Type 0
Unpicked image number kind index r = IfErr r (λ m. IsEntryAnswer image number kind index (Err m))

pub only_picked : (image : List ℕ) (number : ℕ) (kind : Kind) (index : ℕ) (r : Result NameEntry Missing) → Picked image number kind index r → Unpicked image number kind index r
    → (e : Named) → IsEntryAnswer image number kind index (Ok e) → IsOkAnd r (λ f. named f ≡ e)
only_picked image number kind index (Ok f) p u e h =
    let same = one_entry image number kind index (Ok (named f)) (Ok e) p h in
    let is : named f ≡ e = cc in
    is
only_picked image number kind index (Err m) p u e h = let wrong = one_entry image number kind index (Err m) (Ok e) u h in absurd cc

pub only_unpicked : (image : List ℕ) (number : ℕ) (kind : Kind) (index : ℕ) (r : Result NameEntry Missing) → Picked image number kind index r → Unpicked image number kind index r
    → (m : Missing) → IsEntryAnswer image number kind index (Err m) → r ≡ Err m
only_unpicked image number kind index (Ok f) p u m h = let wrong = one_entry image number kind index (Ok (named f)) (Err m) p h in absurd cc
only_unpicked image number kind index (Err n) p u m h =
    let same = one_entry image number kind index (Err n) (Err m) u h in
    let is : n ≡ m = cc in
    ap Err is

-- each entry of a table has a name
at_index : (es : List Named) (index : ℕ) (e : Named) → All IsNamed es → slice_get es index ≡ Some e → IsNamed e
at_index es index e all is =
    let at = get_or_from_slice_get es index e e is in
    subst IsNamed at (all index e (slice_get_within es index e is))

pub picked_name : (image : List ℕ) (number : ℕ) (kind : Kind) (index : ℕ) (e : Named) → IsEntryAnswer image number kind index (Ok e) → IsName e.name
picked_name image number Exports index e h = (at_index h.0.exports index e h.1.table.table.exports h.2).name
picked_name image number Imports index e h = (at_index h.0.imports index e h.1.table.table.imports h.2).name

pub picked_names : (image : List ℕ) (number : ℕ) (kind : Kind) (index : ℕ) (r : Result NameEntry Missing) → Picked image number kind index r → IfOk r (λ e. IsName e.name.now)
picked_names image number kind index (Ok e) p = picked_name image number kind index (named e) p
picked_names image number kind index (Err m) p = tt
