-- What stands at the end of bytes that end in a table.
use Rattle.std.proofs.Common.{◌≡◌, ℕ, ◌<◌, List, [], ◌++◌, length, refl, sym, ap, subst, ◌∙◌, arith, append_assoc, inl, inr}
use Rattle.std.specs.List.{All}
use Rattle.std.proofs.lemmas.List.{length-append, append-nil}
use Rattle.sfi_image.specs.Spelling.{IsWord}
unfoldable use Rattle.sfi_image.specs.Spelling.{number}
use Rattle.sfi_image.proofs.Fronts.{same_number, fronts}
use Rattle.sfi_names.specs.declared.names.Names.{Names}
use Rattle.sfi_names.specs.Tables.{Named, Table, magic, entry, entries, IsNamed, IsTable, EndsIn, HasTable, IsNamesOf}
unfoldable use Rattle.sfi_names.specs.Tables.{footer, spelling}
use Rattle.sfi_names.proofs.Entries.{same_end, same_entry, length-entry, AreEntries}

-- three numbers, as a table's footer has them
abbrev pub numbers : ℕ → ℕ → ℕ → List ℕ
numbers v e i = number v ++ (number e ++ number i)

pub length-numbers : (v e i : ℕ) → length (numbers v e i) ≡ 12
unfolding number
length-numbers v e i = omega arith

footer_is : (t : Table) → footer t ≡ numbers t.version (length (entries t.exports)) (length (entries t.imports))
unfolding footer
footer_is t = refl

pub same_numbers : (v e i x y z : ℕ) → IsWord v → IsWord e → IsWord i → IsWord x → IsWord y → IsWord z → numbers v e i ≡ numbers x y z → (v ≡ x) × (e ≡ y) × (i ≡ z)
same_numbers v e i x y z wv we wi wx wy wz g =
    let one = same_number v x (number e ++ number i) (number y ++ number z) wv wx g in
    let two = same_number e y (number i) (number z) we wy one.1 in
    let three = same_number i z [] [] wi wz (append-nil (number i) ∙ two.1 ∙ sym (append-nil (number z))) in
    (one.0, two.0, three.0)

-- entries that have the same bytes are the same
pub same_entries : (xs ys : List Named) → All IsNamed xs → All IsNamed ys → entries xs ≡ entries ys → xs ≡ ys
same_entries xs ys fx fy e =
    elim (fronts entry IsNamed same_entry xs ys [] [] fx fy (append-nil (entries xs) ∙ e ∙ sym (append-nil (entries ys)))) [
      | inl both ↦ both.0
      | inr (inl on) ↦ absurd (omega (arith, ap length on.5, length-entry on.0 on.2))
      | inr (inr on) ↦ absurd (omega (arith, ap length on.5, length-entry on.0 on.2))
    ]

-- the bytes before the magic: others, the exports, the imports, three numbers
pub record Before (bytes : List ℕ) (t : Table) : Type 0 where
  pub table : IsTable t
  pub others : List ℕ
  pub bytes_are : bytes ≡ (others ++ (entries t.exports ++ entries t.imports)) ++ numbers t.version (length (entries t.exports)) (length (entries t.imports))

spelling_ends : (t : Table) (b : List ℕ) → b ++ spelling t ≡ ((b ++ (entries t.exports ++ entries t.imports)) ++ footer t) ++ magic
unfolding spelling
spelling_ends t b = simp append_assoc

pub before : (bytes : List ℕ) (t : Table) → HasTable (bytes ++ magic) t → Before bytes t
before bytes t h =
    let e = same_end bytes ((h.ends.0 ++ (entries t.exports ++ entries t.imports)) ++ footer t) magic magic refl (h.ends.1 ∙ spelling_ends t h.ends.0) in
    record { table = h.table; others = h.ends.0; bytes_are = e.0 ∙ ap (λ (f : List ℕ). (h.ends.0 ++ (entries t.exports ++ entries t.imports)) ++ f) (footer_is t) }

pub has_table : (bytes : List ℕ) (t : Table) → Before bytes t → HasTable (bytes ++ magic) t
has_table bytes t h =
    let e : bytes ≡ (h.others ++ (entries t.exports ++ entries t.imports)) ++ footer t = h.bytes_are ∙ ap (λ (f : List ℕ). (h.others ++ (entries t.exports ++ entries t.imports)) ++ f) (sym (footer_is t)) in
    record { table = h.table; ends = (h.others, ap (λ (b : List ℕ). b ++ magic) e ∙ sym (spelling_ends t h.others)) }

-- what ends in a table ends in the magic
pub ends_in_magic : (bytes : List ℕ) (t : Table) → HasTable bytes t → EndsIn bytes magic
ends_in_magic bytes t h = ((h.ends.0 ++ (entries t.exports ++ entries t.imports)) ++ footer t, h.ends.1 ∙ spelling_ends t h.ends.0)

-- ---- what was read of the end

-- bytes, then three numbers of 32 bits
pub record IsCut (bytes body : List ℕ) (v e i : ℕ) : Type 0 where
  pub bytes_are : bytes ≡ body ++ numbers v e i
  pub version : IsWord v
  pub exports : IsWord e
  pub imports : IsWord i

-- what it says of the table
pub record Agrees (body : List ℕ) (v e i : ℕ) (t : Table) (others : List ℕ) : Type 0 where
  pub body_is : body ≡ others ++ (entries t.exports ++ entries t.imports)
  pub version : v ≡ t.version
  pub exports : e ≡ length (entries t.exports)
  pub imports : i ≡ length (entries t.imports)

pub agrees : (bytes body : List ℕ) (v e i : ℕ) (t : Table) → IsCut bytes body v e i → (h : Before bytes t) → Agrees body v e i t h.others
agrees bytes body v e i t c h =
    let x = length (entries t.exports) in
    let y = length (entries t.imports) in
    let both = same_end body (h.others ++ (entries t.exports ++ entries t.imports)) (numbers v e i) (numbers t.version x y) (length-numbers v e i ∙ sym (length-numbers t.version x y)) (sym c.bytes_are ∙ h.bytes_are) in
    let same = same_numbers v e i t.version x y c.version c.exports c.imports h.table.version h.table.exports_bytes h.table.imports_bytes both.1 in
    record { body_is = both.0; version = same.0; exports = same.1; imports = same.2 }

-- the parts of the body
pub record IsCutIn (body front exports imports : List ℕ) (e i : ℕ) : Type 0 where
  pub body_is : body ≡ (front ++ exports) ++ imports
  pub exports_bytes : length exports ≡ e
  pub imports_bytes : length imports ≡ i

pub joined : (body rest front exports imports : List ℕ) (e i : ℕ) → (body ≡ rest ++ imports) × (length imports ≡ i) → (rest ≡ front ++ exports) × (length exports ≡ e)
    → IsCutIn body front exports imports e i
joined body rest front exports imports e i im ex = record { body_is = im.0 ∙ ap (λ (b : List ℕ). b ++ imports) ex.0; exports_bytes = ex.1; imports_bytes = im.1 }

pub same_parts : (body front exports imports : List ℕ) (v e i : ℕ) (t : Table) (others : List ℕ) → IsCutIn body front exports imports e i → Agrees body v e i t others
    → (exports ≡ entries t.exports) × (imports ≡ entries t.imports)
same_parts body front exports imports v e i t others c a =
    let one = same_end (front ++ exports) (others ++ entries t.exports) imports (entries t.imports) (c.imports_bytes ∙ a.imports) (sym c.body_is ∙ a.body_is ∙ sym (append_assoc others (entries t.exports) (entries t.imports))) in
    let two = same_end front others exports (entries t.exports) (c.exports_bytes ∙ a.exports) one.0 in
    (two.1, one.1)

-- ---- one table at most

pub one_table : (bytes : List ℕ) (t u : Table) → HasTable bytes t → HasTable bytes u → t ≡ u
one_table bytes t u ht hu =
    let m = ends_in_magic bytes t ht in
    let bt = before m.0 t (subst (λ (b : List ℕ). HasTable b t) m.1 ht) in
    let bu = before m.0 u (subst (λ (b : List ℕ). HasTable b u) m.1 hu) in
    let cut : IsCut m.0 (bt.others ++ (entries t.exports ++ entries t.imports)) t.version (length (entries t.exports)) (length (entries t.imports)) =
    record { bytes_are = bt.bytes_are; version = bt.table.version; exports = bt.table.exports_bytes; imports = bt.table.imports_bytes } in
    let a = agrees m.0 _ _ _ _ u cut bu in
    let parts : IsCutIn (bt.others ++ (entries t.exports ++ entries t.imports)) bt.others (entries t.exports) (entries t.imports) (length (entries t.exports)) (length (entries t.imports)) =
    record { body_is = sym (append_assoc bt.others (entries t.exports) (entries t.imports)); exports_bytes = refl; imports_bytes = refl } in
    let same = same_parts _ _ _ _ _ _ _ u bu.others parts a in
    let ex = same_entries t.exports u.exports bt.table.exports bu.table.exports same.0 in
    let im = same_entries t.imports u.imports bt.table.imports bu.table.imports same.1 in
    λ k. record { version = a.version k; exports = ex k; imports = im k }

-- ---- whether there is a table

abbrev pub HasNone : List ℕ → Type 0
HasNone bytes = (t : Table) → HasTable (bytes ++ magic) t → ⊥

pub no_footer : (bytes : List ℕ) → length bytes < 12 → HasNone bytes
no_footer bytes short t has =
    let h = before bytes t has in
    let x = length (entries t.exports) in
    let y = length (entries t.imports) in
    omega (arith, short, ap length h.bytes_are, length-append (h.others ++ (entries t.exports ++ entries t.imports)) (numbers t.version x y), length-numbers t.version x y)

module _ (bytes body : List ℕ) (v e i : ℕ) (cut : IsCut bytes body v e i) where
  pub no_imports : length body < i → HasNone bytes
  no_imports short t has =
      let h = before bytes t has in
      let a = agrees bytes body v e i t cut h in
      omega (arith, short, a.imports, ap length a.body_is, length-append h.others (entries t.exports ++ entries t.imports), length-append (entries t.exports) (entries t.imports))

  pub no_exports : (rest imports : List ℕ) → body ≡ rest ++ imports → length imports ≡ i → length rest < e → HasNone bytes
  no_exports rest imports parts len short t has =
      let h = before bytes t has in
      let a = agrees bytes body v e i t cut h in
      omega (
        arith,
        short,
        len,
        a.exports,
        a.imports,
        ap length parts,
        ap length a.body_is,
        length-append rest imports,
        length-append h.others (entries t.exports ++ entries t.imports),
        length-append (entries t.exports) (entries t.imports),
      )

  module _ (front exports imports : List ℕ) (parts : IsCutIn body front exports imports e i) where
    same : (t : Table) → HasTable (bytes ++ magic) t → (exports ≡ entries t.exports) × (imports ≡ entries t.imports)
    same t has =
        let h = before bytes t has in
        same_parts body front exports imports v e i t h.others parts (agrees bytes body v e i t cut h)

    pub wrong_exports : (AreEntries exports → ⊥) → HasNone bytes
    wrong_exports none t has = none (t.exports, has.table.exports, (same t has).0)

    pub wrong_imports : (AreEntries imports → ⊥) → HasNone bytes
    wrong_imports none t has = none (t.imports, has.table.imports, (same t has).1)

    pub found : (n : Names) → n.version ≡ v → n.exports.now ≡ exports → n.imports.now ≡ imports → AreEntries exports → AreEntries imports
        → (t : Table) × HasTable (bytes ++ magic) t × IsNamesOf n t
    found n nv ne ni ex im =
        let t : Table = record { version = v; exports = ex.0; imports = im.0 } in
        let e_is : e ≡ length (entries ex.0) = sym parts.exports_bytes ∙ ap length ex.2 in
        let i_is : i ≡ length (entries im.0) = sym parts.imports_bytes ∙ ap length im.2 in
        let table : IsTable t = record {
          exports = ex.1;
          imports = im.1;
          version = cut.version;
          exports_bytes = subst IsWord e_is cut.exports;
          imports_bytes = subst IsWord i_is cut.imports;
        } in
        let body_is : body ≡ front ++ (entries ex.0 ++ entries im.0) = parts.body_is ∙ append_assoc front exports imports ∙ ap (λ (b : List ℕ). front ++ (b ++ imports)) ex.2 ∙ ap (λ (b : List ℕ). front ++ (entries ex.0 ++ b)) im.2 in
        let whole : Before bytes t = record {
          table = table;
          others = front;
          bytes_are = cut.bytes_are ∙ ap (λ (b : List ℕ). b ++ numbers v e i) body_is ∙ ap (λ (x : ℕ). (front ++ (entries ex.0 ++ entries im.0)) ++ numbers v x i) e_is
              ∙ ap (λ (y : ℕ). (front ++ (entries ex.0 ++ entries im.0)) ++ numbers v (length (entries ex.0)) y) i_is;
        } in
        (t, has_table bytes t whole, record { table = table; version_is = nv; exports_are = ne ∙ ex.2; imports_are = ni ∙ im.2 })
