-- A table of names, as its addresses are written one after another.
use Rattle.std.proofs.Common.{◌≡◌, ◌≢◌, ◌∙◌, ℕ, ◌+◌, ◌-◌, ◌<◌, ◌≤◌, ◌==◌, List, [], ◌∷◌, ◌++◌, length, map, get_or, take, drop, Bool, true, false, refl, sym, ap, subst, arith, append_assoc, inl, inr}
use Rattle.std.specs.Prelude.{if◌then◌else◌}
use Rattle.std.specs.List.{All}
use Rattle.std.proofs.Math.Seq.{get_or-append_seam}
use Rattle.std.proofs.Math.Seq.{take-append_seam}
use Rattle.std.proofs.lemmas.Bool.{eqb-true, eq-eqb}
use Rattle.std.proofs.lemmas.List.Elements.{All-append}
use Rattle.std.proofs.lemmas.List.{length-append, map-append, append-nil, get_or-append-add}
use Rattle.std.proofs.lemmas.Grind.{flat_map-append}
use Rattle.sfi_formats.specs.declared.place.Place.{Place}
use Rattle.sfi_image.specs.declared.fields.Fields.{Fields}
use Rattle.sfi_image.specs.Spelling.{number}
use Rattle.sfi_image.specs.Keeping.{LiesAt}
use Rattle.sfi_image.proofs.Seeking.{length-number}
use Rattle.sfi_image.proofs.Tests.{flat_split}
use Rattle.sfi_names.specs.Tables.{Named, Table, magic, entries, IsNamed, HasTable}
unfoldable use Rattle.sfi_names.specs.Tables.{entry, footer, spelling}
use Rattle.sfi_names.proofs.Entries.{entry_split, length-entry}
use Rattle.sfi_places.specs.Moving.{address_there, is_claim, entry_there, table_there, AreFirstThere}
use Rattle.sfi_places.specs.private.{IsReplaced}
use Rattle.sfi_places.proofs.Writing.{one_of, from_offset}

-- ==== One entry.

-- what lies so far after an offset
byte_at : (bytes before rest : List ℕ) (at n : ℕ) → at ≡ length before → bytes ≡ before ++ rest → get_or bytes (at + n) 0 ≡ get_or rest n 0
byte_at bytes before rest at n offset are =
    ap (λ (l : List ℕ). get_or l (at + n) 0) are ∙ ap (λ (k : ℕ). get_or (before ++ rest) (k + n) 0) offset ∙ get_or-append-add before rest n 0

after_number : (a n : ℕ) (rest : List ℕ) → get_or (number a ++ rest) (4 + n) 0 ≡ get_or rest n 0
after_number a n rest = ap (λ (k : ℕ). get_or (number a ++ rest) (k + n) 0) (sym (length-number a)) ∙ get_or-append-add (number a) rest n 0

module _ (bytes : List ℕ) (at : ℕ) (e : Named) (lies : LiesAt bytes at (entry e)) where
  whole : bytes ≡ lies.before ++ (number e.address ++ (length e.name ∷ (e.name ++ lies.after)))
  whole = lies.bytes_are ∙ ap (λ (l : List ℕ). lies.before ++ l) (entry_split e lies.after)

  pub entry_ends : at + length (entry e) ≤ length bytes
  entry_ends = omega (arith, ap length lies.bytes_are, length-append lies.before (entry e ++ lies.after), length-append (entry e) lies.after, lies.offset_is)

  pub entry_length : length (entry e) ≡ 5 + length e.name
  entry_length = omega (arith, length-entry e [], ap length (append-nil (entry e)))

  pub length_is : get_or bytes (at + 4) 0 ≡ length e.name
  length_is = byte_at bytes lies.before _ at 4 lies.offset_is whole ∙ after_number e.address 0 (length e.name ∷ (e.name ++ lies.after))

  first_is : get_or bytes (at + 5) 0 ≡ get_or (e.name ++ lies.after) 0 0
  first_is = byte_at bytes lies.before _ at 5 lies.offset_is whole ∙ after_number e.address 1 (length e.name ∷ (e.name ++ lies.after))

  claims : (name : List ℕ) → 1 ≤ length name → (get_or (name ++ lies.after) 0 0 == 46) ≡ is_claim name
  claims [] some = absurd (omega (arith, some))
  claims (b ∷ more) some = refl

  pub claim_is : IsNamed e → (get_or bytes (at + 5) 0 == 46) ≡ is_claim e.name
  claim_is named = ap (λ (b : ℕ). b == 46) first_is ∙ claims e.name named.name.at_least

  pub number_lies : LiesAt bytes at (number e.address)
  number_lies = record { before = lies.before; after = length e.name ∷ (e.name ++ lies.after); bytes_are = whole; offset_is = lies.offset_is }

-- the entry with another number
pub renumbered : (old new : List ℕ) (at value : ℕ) (e : Named) → IsReplaced old new at (number e.address) (number value) → IsReplaced old new at (entry e) (entry (record e { address = value }))
renumbered old new at value e step = λ before after offset are.
    step before (length e.name ∷ (e.name ++ after)) offset (are ∙ ap (λ (l : List ℕ). before ++ l) (entry_split e after))
    ∙ ap (λ (l : List ℕ). before ++ l) (sym (entry_split (record e { address = value }) after))

module _ (f : Fields) (to : Place) where
  abbrev there : Named → Named
  there = entry_there f to

  pub an_address : (e : Named) → is_claim e.name ≡ false → there e ≡ record e { address = address_there f to e.address }
  an_address e is = ap (λ (b : Bool). if b then e else (record e { address = address_there f to e.address })) is

  pub a_claim : (e : Named) → is_claim e.name ≡ true → there e ≡ e
  a_claim e is = ap (λ (b : Bool). if b then e else (record e { address = address_there f to e.address })) is

  -- where its name begins with no dot
  pub written_there : (old new : List ℕ) (at value : ℕ) (e : Named) → IsNamed e → LiesAt old at (entry e) → get_or old (at + 5) 0 ≢ 46 → value ≡ address_there f to e.address
      → IsReplaced old new at (number e.address) (number value) → IsReplaced old new at (entry e) (entry (there e))
  written_there old new at value e named lies other value_is step =
      let not_dot = other_byte (get_or old (at + 5) 0) (is_claim e.name) (claim_is old at e lies named) other in
      let same : record e { address = value } ≡ there e = ap (λ (k : ℕ). record e { address = k }) value_is ∙ sym (an_address e not_dot) in
      subst (λ (x : Named). IsReplaced old new at (entry e) (entry x)) same (renumbered old new at value e step)
    where
      other_byte : (x : ℕ) (b : Bool) → (x == 46) ≡ b → x ≢ 46 → b ≡ false
      other_byte x true is differs = absurd (differs (eqb-true x 46 is))
      other_byte x false is differs = refl

  -- where it begins with one
  pub kept_there : (bytes : List ℕ) (at : ℕ) (e : Named) → IsNamed e → LiesAt bytes at (entry e) → get_or bytes (at + 5) 0 ≡ 46 → there e ≡ e
  kept_there bytes at e named lies dot = a_claim e (sym (claim_is bytes at e lies named) ∙ eq-eqb (get_or bytes (at + 5) 0) 46 dot)

  same_name : (e : Named) (b : Bool) → is_claim e.name ≡ b → length (entry (there e)) ≡ length (entry e)
  same_name e true is = ap (λ (x : Named). length (entry x)) (a_claim e is)
  same_name e false is =
      let x : Named = record e { address = address_there f to e.address } in
      ap (λ (x : Named). length (entry x)) (an_address e is)
      ∙ omega (arith, length-entry x [], ap length (append-nil (entry x)), length-entry e [], ap length (append-nil (entry e)))

  -- ==== Entries, of which the first are written.

  pub same_length : (es : List Named) → length (entries (map there es)) ≡ length (entries es)
  same_length [] = refl
  same_length (e ∷ es) =
      omega (arith, length-append (entry (there e)) (entries (map there es)), length-append (entry e) (entries es), same_name e (is_claim e.name) refl, same_length es)

  pub record SomeWritten (es : List Named) (old mid : List ℕ) (begin at : ℕ) : Type 0 where
    pub done : List Named
    pub more : List Named
    pub es_are : es ≡ done ++ more
    pub at_is : at ≡ begin + length (entries done)
    pub replaced : IsReplaced old mid begin (entries es) (entries (map there done ++ more))

  abbrev pub Writes : List ℕ → List ℕ → ℕ → ℕ → ℕ → Type 0
  Writes old mid begin end at =
      (es : List Named) → All IsNamed es → end ≡ begin + length (entries es) → LiesAt old begin (entries es) → SomeWritten es old mid begin at

  around : (before : List ℕ) (xs : List Named) (e : Named) (ys : List Named) (after : List ℕ)
      → before ++ (entries (xs ++ e ∷ ys) ++ after) ≡ (before ++ entries xs) ++ (entry e ++ (entries ys ++ after))
  around before xs e ys after =
      ap (λ (l : List ℕ). before ++ l) (flat_split entry xs e ys after) ∙ sym (append_assoc before (entries xs) (entry e ++ (entries ys ++ after)))

  -- the next of them
  pub record Next (es : List Named) (old mid : List ℕ) (begin end at : ℕ) : Type 0 where
    pub done : List Named
    pub here : Named
    pub more : List Named
    pub es_are : es ≡ done ++ here ∷ more
    pub named : IsNamed here
    pub at_is : at ≡ begin + length (entries done)
    pub ends : at + length (entry here) ≤ end
    pub replaced : IsReplaced old mid begin (entries es) (entries (map there done ++ here ∷ more))

  pub next : (es : List Named) (old mid : List ℕ) (begin end at : ℕ) → All IsNamed es → end ≡ begin + length (entries es) → at < end → SomeWritten es old mid begin at → Next es old mid begin end at
  next es old mid begin end at named ends below s = one s.done s.more s.es_are s.at_is s.replaced
    where
      one : (done more : List Named) → es ≡ done ++ more → at ≡ begin + length (entries done) → IsReplaced old mid begin (entries es) (entries (map there done ++ more)) → Next es old mid begin end at
      one done [] are at_is replaced =
          let all : length (entries es) ≡ length (entries done) = ap (λ (l : List Named). length (entries l)) (are ∙ append-nil done) in
          absurd (omega (arith, all, at_is, ends, below))
      one done (e ∷ more) are at_is replaced =
          let split : entries es ≡ entries done ++ (entry e ++ entries more) = ap (λ (l : List Named). entries l) are ∙ flat_map-append entry done (e ∷ more) in
          record {
            done = done;
            here = e;
            more = more;
            es_are = are;
            named = one_of IsNamed done e more (subst (All IsNamed) are named);
            at_is = at_is;
            ends = omega (arith, at_is, ends, ap length split, length-append (entries done) (entry e ++ entries more), length-append (entry e) (entries more));
            replaced = replaced;
          }

  module _ (es : List Named) (old mid : List ℕ) (begin end at : ℕ) (n : Next es old mid begin end at) where
    far : (before : List ℕ) → begin ≡ length before → at ≡ length (before ++ entries (map there n.done))
    far before offset = omega (arith, offset, n.at_is, length-append before (entries (map there n.done)), same_length n.done)

    pub next_lies : LiesAt old begin (entries es) → LiesAt mid at (entry n.here)
    next_lies lies = record {
      before = lies.before ++ entries (map there n.done);
      after = entries n.more ++ lies.after;
      bytes_are = n.replaced lies.before lies.after lies.offset_is lies.bytes_are ∙ around lies.before (map there n.done) n.here n.more lies.after;
      offset_is = far lies.before lies.offset_is;
    }

    pub one_more : (new : List ℕ) (size : ℕ) → size ≡ length (entry n.here) → IsReplaced mid new at (entry n.here) (entry (there n.here)) → SomeWritten es old new begin (at + size)
    one_more new size size_is step = record {
      done = n.done ++ n.here ∷ [];
      more = n.more;
      es_are = n.es_are ∙ sym (append_assoc n.done (n.here ∷ []) n.more);
      at_is =
          let one : length (entries (n.done ++ n.here ∷ [])) ≡ length (entries n.done ++ (entry n.here ++ [])) = ap length (flat_map-append entry n.done (n.here ∷ [])) in
          omega (arith, n.at_is, size_is, one, length-append (entries n.done) (entry n.here ++ []), length-append (entry n.here) []);
      replaced = λ before after offset are.
          step (before ++ entries (map there n.done)) (entries n.more ++ after) (far before offset) (n.replaced before after offset are ∙ around before (map there n.done) n.here n.more after)
          ∙ sym (around before (map there n.done) (there n.here) n.more after)
          ∙ ap (λ (l : List Named). before ++ (entries l ++ after))
          (sym (append_assoc (map there n.done) (there n.here ∷ []) n.more) ∙ ap (λ (l : List Named). l ++ n.more) (sym (map-append there n.done (n.here ∷ []))));
    }

  pub all_written : (es : List Named) (old mid : List ℕ) (begin end at : ℕ) → end ≡ begin + length (entries es) → end ≤ at → SomeWritten es old mid begin at
      → IsReplaced old mid begin (entries es) (entries (map there es))
  all_written es old mid begin end at ends past s = all s.done s.more s.es_are s.at_is s.replaced
    where
      all : (done more : List Named) → es ≡ done ++ more → at ≡ begin + length (entries done) → IsReplaced old mid begin (entries es) (entries (map there done ++ more))
          → IsReplaced old mid begin (entries es) (entries (map there es))
      all done [] are at_is replaced =
          let same : map there done ++ [] ≡ map there es = append-nil (map there done) ∙ ap (map there) (sym (are ∙ append-nil done)) in
          subst (λ (l : List Named). IsReplaced old mid begin (entries es) (entries l)) same replaced
      all done (e ∷ more) are at_is replaced =
          let split : entries es ≡ entries done ++ (entry e ++ entries more) = ap (λ (l : List Named). entries l) are ∙ flat_map-append entry done (e ∷ more) in
          absurd (omega (
            arith,
            at_is,
            ends,
            past,
            ap length split,
            length-append (entries done) (entry e ++ entries more),
            length-append (entry e) (entries more),
            length-entry e (entries more),
            length-append (entry e) (entries more),
          ))

  -- ==== A table.

  spelled_out : (t : Table) → spelling t ≡ entries (t.exports ++ t.imports) ++ (footer t ++ magic)
  unfolding spelling
  spelled_out t =
      sym (append_assoc (entries t.exports) (entries t.imports) (footer t ++ magic)) ∙ ap (λ (l : List ℕ). l ++ (footer t ++ magic)) (sym (flat_map-append entry t.exports t.imports))

  same_footer : (t : Table) → footer (table_there f to t) ≡ footer t
  unfolding footer
  same_footer t =
      ap (λ (k : ℕ). number t.version ++ (number k ++ number (length (entries (map there t.imports))))) (same_length t.exports)
      ∙ ap (λ (k : ℕ). number t.version ++ (number (length (entries t.exports)) ++ number k)) (same_length t.imports)

  length-footer : (t : Table) → length (footer t) ≡ 12
  unfolding footer
  length-footer t =
      omega (
        arith,
        length-append (number t.version) (number (length (entries t.exports)) ++ number (length (entries t.imports))),
        length-append (number (length (entries t.exports))) (number (length (entries t.imports))),
        length-number t.version,
        length-number (length (entries t.exports)),
        length-number (length (entries t.imports)),
      )

  pub length-spelling : (t : Table) → length (spelling t) ≡ length (entries t.exports) + length (entries t.imports) + 16
  length-spelling t =
      omega (
        arith,
        ap length (spelled_out t),
        length-append (entries (t.exports ++ t.imports)) (footer t ++ magic),
        ap length (flat_map-append entry t.exports t.imports),
        length-append (entries t.exports) (entries t.imports),
        length-append (footer t) magic,
        length-footer t,
      )

  module _ (before after others : List ℕ) (t : Table) where
    pub at_entries : before ++ ((others ++ spelling t) ++ after) ≡ (before ++ others) ++ (entries (t.exports ++ t.imports) ++ ((footer t ++ magic) ++ after))
    at_entries =
        ap (λ (l : List ℕ). before ++ ((others ++ l) ++ after)) (spelled_out t)
        ∙ regroup (entries (t.exports ++ t.imports)) (footer t ++ magic)
      where
        regroup : (x y : List ℕ) → before ++ ((others ++ (x ++ y)) ++ after) ≡ (before ++ others) ++ (x ++ (y ++ after))
        regroup x y = simp append_assoc

  pub there_at_entries : (before after others : List ℕ) (t : Table) → before ++ ((others ++ spelling (table_there f to t)) ++ after)
      ≡ (before ++ others) ++ (entries (map there (t.exports ++ t.imports)) ++ ((footer t ++ magic) ++ after))
  there_at_entries before after others t =
      at_entries before after others (table_there f to t)
      ∙ ap (λ (l : List Named). (before ++ others) ++ (entries l ++ ((footer (table_there f to t) ++ magic) ++ after))) (sym (map-append there t.exports t.imports))
      ∙ ap (λ (l : List ℕ). (before ++ others) ++ (entries (map there (t.exports ++ t.imports)) ++ ((l ++ magic) ++ after))) (same_footer t)

-- the bytes from one offset to another
pub sliced : (bytes first : List ℕ) (begin end : ℕ) → LiesAt bytes begin first → end ≡ begin + length first → take (end - begin) (drop begin bytes) ≡ first
sliced bytes first begin end lies ends =
    let count : end - begin ≡ length first = omega (arith, ends) in
    ap (λ (n : ℕ). take n (drop begin bytes)) count
    ∙ ap (take (length first)) (from_offset bytes lies.before (first ++ lies.after) begin lies.offset_is lies.bytes_are)
    ∙ take-append_seam first lies.after

-- first data bytes that end in a table
module _ (f : Fields) (to : Place) (bytes first : List ℕ) (begin end len : ℕ) (t : Table) (ends : end ≡ begin + length first) (has : HasTable first t)
    (len_is : len ≡ length (entries t.exports) + length (entries t.imports)) where
  abbrev others : List ℕ
  others = has.ends.0

  length-first : length first ≡ length others + (len + 16)
  length-first = omega (arith, ap length has.ends.1, length-append others (spelling t), length-spelling f to t, len_is)

  pub has_footer : 16 ≤ end
  has_footer = omega (arith, ends, length-first)

  pub has_entries : len ≤ end - 16
  has_entries = omega (arith, ends, length-first)

  begins : end - 16 - len ≡ begin + length others
  begins = omega (arith, ends, length-first)

  pub all_named : All IsNamed (t.exports ++ t.imports)
  all_named = All-append IsNamed t.exports t.imports has.table.exports has.table.imports

  pub entries_end : end - 16 ≡ end - 16 - len + length (entries (t.exports ++ t.imports))
  entries_end = omega (arith, has_entries, len_is, ap length (flat_map-append entry t.exports t.imports), length-append (entries t.exports) (entries t.imports))

  pub entries_lie : LiesAt bytes begin first → LiesAt bytes (end - 16 - len) (entries (t.exports ++ t.imports))
  entries_lie lies = record {
    before = lies.before ++ others;
    after = (footer t ++ magic) ++ lies.after;
    bytes_are = lies.bytes_are ∙ ap (λ (l : List ℕ). lies.before ++ (l ++ lies.after)) has.ends.1 ∙ at_entries f to lies.before lies.after others t;
    offset_is = omega (arith, begins, lies.offset_is, length-append lies.before others);
  }

  abbrev pub now : List ℕ
  now = others ++ spelling (table_there f to t)

  pub are_there : AreFirstThere f to first now
  are_there = inl (record { before = others; table = t; is_table = has.table; first_are = has.ends.1; now_are = refl })

  pub names_written : (new : List ℕ) → IsReplaced bytes new (end - 16 - len) (entries (t.exports ++ t.imports)) (entries (map (entry_there f to) (t.exports ++ t.imports)))
      → IsReplaced bytes new begin first now
  names_written new step = λ before after offset are.
      step (before ++ others) ((footer t ++ magic) ++ after) (omega (arith, begins, offset, length-append before others))
      (are ∙ ap (λ (l : List ℕ). before ++ (l ++ after)) has.ends.1 ∙ at_entries f to before after others t)
      ∙ sym (there_at_entries f to before after others t)

-- they are as many
pub same_size : (f : Fields) (to : Place) (first new : List ℕ) → AreFirstThere f to first new → length new ≡ length first
same_size f to first new (inl e) =
    omega (
      arith,
      ap length e.first_are,
      ap length e.now_are,
      length-append e.before (spelling e.table),
      length-append e.before (spelling (table_there f to e.table)),
      length-spelling f to e.table,
      length-spelling f to (table_there f to e.table),
      same_length f to e.table.exports,
      same_length f to e.table.imports,
    )
same_size f to first new (inr e) = ap length e.1
