-- What a cursor has read after each step, and what it hands out.
use Rattle.sfi_image.proofs.Prelude.{◌≡◌, ◌≢◌, ℕ, zero, suc, ◌+◌, ◌*◌, ◌<◌, ◌≤◌, ◌-◌, List, [], ◌∷◌, ◌++◌, length, take, drop, take_all, length-drop, drop-drop, part, Some, refl, sym, ap, ◌∙◌, subst, arith, append_assoc, inl, inr, eqb_tells, All, All-head, All-tail, All-push, None, length_push, get_or_push, take_more, Result, Ok, Err, flat_map, slice_get, ne_eqb, eq-eqb, length-append, append-nil, Format, Gate, Fields, LayoutFault, Short, Trailing, Part, fields_of, number, fields, gate, AreFieldWords, AreGateWords, IsImage, IsFault, ImagePrefix, prefix_bytes, head, want_of, part_of, after_parts, after_init, after_code, after_gates, HasFaultWhateverFollows, AfterCount, InGates, InCode, InInit, Whole, LayoutReader, StandsFor, MayTake}
use Rattle.std.proofs.lemmas.Option.{slice_get_within, get_or_from_slice_get}
use Rattle.std.proofs.Math.Seq.{take-append_seam}
use Rattle.sfi_image.specs.declared.cursor.ImageCursor.{ImageCursor}
use Rattle.sfi_image.specs.declared.cursor.PartView.{PartView}
use Rattle.sfi_image.specs.declared.want.Want.TheVariants as wants
use Rattle.sfi_image.specs.Keeping.{HasRead, HasPassed, IsViewOf, unread}
use Rattle.sfi_image.specs.private.{Gives, LeadsOn}
use denote.Ref.{Bor}
use Rattle.sfi_image.proofs.Fronts.{same_fields, length-fields, length-gate}
use Rattle.sfi_image.proofs.Steps.{code_short, cut_short, trails, whole_is_image}
pub use Rattle.sfi_image.proofs.Tests.{past}
use Rattle.sfi_image.proofs.Standing.{region}
use Rattle.sfi_image.proofs.Formats.{same_format}
use Rattle.sfi_image.proofs.Following.{fields_again, parts_bytes, flat_gate, head_push}

-- ---- which prefix it is

pub more_gates : (n : ℕ) (ps : List Part) (f : Fields) (gs : List Gate) → length gs < f.gate_count → after_gates n ps f gs ≡ InGates n ps f gs
more_gates n ps f gs lt = rw (ne_eqb (length gs) f.gate_count (λ e. omega arith)) refl

pub all_gates : (n : ℕ) (ps : List Part) (f : Fields) (gs : List Gate) → length gs ≡ f.gate_count → after_gates n ps f gs ≡ InCode n ps f gs []
all_gates n ps f gs e = rw (eq-eqb (length gs) f.gate_count e) refl

pub all_code : (n : ℕ) (ps : List Part) (f : Fields) (gs : List Gate) (code : List ℕ) → length code ≡ f.code_size → after_code n ps f gs code ≡ after_init n ps f gs code []
all_code n ps f gs code e = rw (eq-eqb (length code) f.code_size e) refl

pub some_init : (n : ℕ) (ps : List Part) (f : Fields) (gs : List Gate) (code : List ℕ) → f.init_len ≢ 0 → after_init n ps f gs code [] ≡ InInit n ps f gs code []
some_init n ps f gs code some = rw (ne_eqb 0 f.init_len (λ e. some (sym e))) refl

pub all_init : (n : ℕ) (ps : List Part) (f : Fields) (gs : List Gate) (code init : List ℕ) → length init ≡ f.init_len → after_init n ps f gs code init ≡ after_parts f.format n (ps ++ part_of f gs code init ∷ [])
all_init n ps f gs code init e = rw (eq-eqb (length init) f.init_len e) refl

-- a cursor that has read one of two equal prefixes has read the other
pub at_front : {bytes : List ℕ} {x y : ImagePrefix} {c : ImageCursor} → x ≡ y → HasRead bytes x c → HasRead bytes y c
at_front {bytes = bytes} {c = c} e h = subst (λ (z : ImagePrefix). HasRead bytes z c) e h

-- ---- faults

-- fewer bytes are left than may be taken
pub short : (bytes : List ℕ) (x : ImagePrefix) (c : ImageCursor) (len : ℕ) → HasRead bytes x c → MayTake c.reader len → length (unread c) < len → IsFault bytes Short
short bytes x c len h may lt = subst (λ (l : List ℕ). IsFault l Short) (sym h.bytes_are) (less c.reader x len (unread c) h.stands may lt)
  where
    less : (r : LayoutReader) (x : ImagePrefix) (len : ℕ) (rest : List ℕ) → StandsFor r x → MayTake r len → length rest < len → IsFault (prefix_bytes x ++ rest) Short
    less r (InCode n ps f gs code) len rest h may lt =
        let inside = (rw (h.kept.0) at may.1).inside in
        let read = h.kept.1.code_read in
        let same : r.fields.code_size ≡ f.code_size = ap (λ (y : Fields). y.code_size) h.kept.1.head.fields in
        code_short n ps f gs code rest h.right (omega arith)
    less r (InInit n ps f gs code init) len rest h may lt =
        let most = (rw (h.kept.0) at may.1).1 in
        let read = h.kept.2 in
        let same : r.fields.init_len ≡ f.init_len = ap (λ (y : Fields). y.init_len) h.kept.1.fields in
        cut_short (InInit n ps f gs code init) rest h.right (omega arith)
    less r (Whole ps) len rest h may lt = absurd (rw (h.kept.0) at may.1)
    less r x len rest h may lt = cut_short x rest h.right (let is = rw (h.kept.0) at may.1 in omega arith)

-- a fault of the bytes taken is one of all of them
pub faulty : (bytes : List ℕ) (x : ImagePrefix) (c : ImageCursor) (s rest : List ℕ) (k : LayoutFault) → HasRead bytes x c → unread c ≡ s ++ rest → HasFaultWhateverFollows (prefix_bytes x ++ s) k → IsFault bytes k
faulty bytes x c s rest k h e f = subst (λ (l : List ℕ). IsFault l k) (append_assoc (prefix_bytes x) s rest ∙ ap (λ (l : List ℕ). prefix_bytes x ++ l) (sym e) ∙ sym h.bytes_are) (f rest)

-- what was at the front of bytes before these
pub taken_front : (all s rest : List ℕ) → all ≡ s ++ rest → take (length all - length rest) all ≡ s
taken_front all s rest e =
    let n : length all - length rest ≡ length s = omega (arith, ap length e, length-append s rest) in
    ap (λ (k : ℕ). take k all) n ∙ ap (λ (l : List ℕ). take (length s) l) e ∙ take-append_seam s rest

-- ---- the parts of a sandbox

-- its fields
pub fields_read : (bytes : List ℕ) (format : Format) (n : ℕ) (ps : List Part) (s rest : List ℕ) (len : ℕ) (old new : ImageCursor) (f : Fields) → LeadsOn bytes (AfterCount format n ps) len s old new
    → s ≡ fields f ++ rest → AreFieldWords f → f.format ≡ format → HasRead bytes (after_gates n ps f []) new
fields_read bytes format n ps s rest len old new f l e words kind =
    let there = l.follows in
    let read = at_front there.3 l.read in
    let same = same_fields there.0 f [] rest (there_words new.reader there.0 read.stands) words (there.1 ∙ sym kind) (append-nil (fields there.0) ∙ sym there.2 ∙ e) in
    subst (λ (g : Fields). HasRead bytes (after_gates n ps g []) new) same.0 read
  where
    there_words : (r : LayoutReader) (f : Fields) → StandsFor r (after_gates n ps f []) → AreFieldWords f
    there_words r f h =
        elim (eqb_tells 0 f.gate_count) [
          | inl e ↦ (rw (e.0) at h).right.0.words
          | inr e ↦ (rw (e.0) at h).right.0.words
        ]

-- `count` gates of the sandbox are read: `all` is their bytes, and then those still unread
pub record GatesTaken (bytes : List ℕ) (n : ℕ) (ps : List Part) (f : Fields) (count : ℕ) (all : List ℕ) (c : ImageCursor) : Type 0 where
  pub gates : List Gate
  pub read : HasRead bytes (after_gates n ps f gates) c
  pub count_is : length gates ≡ count
  pub all_are : all ≡ flat_map gate gates ++ unread c

pub one_more : (bytes : List ℕ) (n : ℕ) (ps : List Part) (f : Fields) (count : ℕ) (all s : List ℕ) (len : ℕ) (old new : ImageCursor) (h : GatesTaken bytes n ps f count all old)
    → LeadsOn bytes (InGates n ps f h.gates) len s old new → GatesTaken bytes n ps f (count + 1) all new
one_more bytes n ps f count all s len old new h l =
    let g = l.follows.0 in
    record {
      gates = h.gates ++ g ∷ [];
      read = at_front l.follows.2 l.read;
      count_is = omega (arith, length-append h.gates (g ∷ []), h.count_is);
      all_are = h.all_are ∙ ap (λ (t : List ℕ). flat_map gate h.gates ++ t) (l.taken ∙ ap (λ (t : List ℕ). t ++ unread new) l.follows.1)
          ∙ sym (append_assoc (flat_map gate h.gates) (gate g) (unread new)) ∙ ap (λ (t : List ℕ). t ++ unread new) (sym (flat_gate h.gates g));
    }

-- all of its code may be taken
pub code_taken : (r : LayoutReader) (n : ℕ) (ps : List Part) (f : Fields) (gs : List Gate) → StandsFor r (InCode n ps f gs []) → MayTake r f.code_size
code_taken r n ps f gs h =
    let reg = region ps f h.right.0.words h.right.0.passed in
    let some = reg.some in
    let size_is = reg.size_is in
    (inr (InCode n ps f gs [], h), rw (h.kept.0, h.kept.1.head.fields, h.kept.1.code_read) (record { some = omega arith; whole = omega arith; inside = omega arith }))

-- its code
pub code_read : (bytes : List ℕ) (n : ℕ) (ps : List Part) (f : Fields) (gs : List Gate) (old new : ImageCursor) (r : Result (Bor (List ℕ)) LayoutFault)
    → Gives (λ s. LeadsOn bytes (InCode n ps f gs []) f.code_size s.now old new) (IsFault bytes) r
    → Gives (λ s. (length s.now ≡ f.code_size) × HasRead bytes (after_init n ps f gs s.now []) new) (IsFault bytes) r
code_read bytes n ps f gs old new (Ok s) l = (l.len_is, at_front (l.follows ∙ all_code n ps f gs s.now l.len_is) l.read)
code_read bytes n ps f gs old new (Err k) h = h

-- its first data bytes
pub init_read : (bytes : List ℕ) (n : ℕ) (ps : List Part) (f : Fields) (gs : List Gate) (code : List ℕ) (old new : ImageCursor) (r : Result (Bor (List ℕ)) LayoutFault)
    → Gives (λ s. LeadsOn bytes (InInit n ps f gs code []) f.init_len s.now old new) (IsFault bytes) r
    → Gives (λ s. (length s.now ≡ f.init_len) × HasRead bytes (after_parts f.format n (ps ++ part_of f gs code s.now ∷ [])) new) (IsFault bytes) r
init_read bytes n ps f gs code old new (Ok s) l = (l.len_is, at_front (l.follows ∙ all_init n ps f gs code s.now l.len_is) l.read)
init_read bytes n ps f gs code old new (Err k) h = h

-- ---- a sandbox

pub viewed : (f : Fields) (gs : List Gate) (v : PartView) → v.fields ≡ f → v.gates.now ≡ flat_map gate gs → length gs ≡ f.gate_count → length v.code.now ≡ f.code_size → length v.init.now ≡ f.init_len
    → All AreGateWords gs → IsViewOf v (part_of f gs v.code.now v.init.now)
viewed f gs v e gates g c i words = record {
  fields_are = e ∙ sym (fields_again f gs v.code.now v.init.now g c i);
  gates_are = gates;
  code_is = refl;
  init_is = refl;
  words = words;
}

-- ---- from sandbox to sandbox

module _ (bytes : List ℕ) (format : Format) (n : ℕ) (ps : List Part) (c : ImageCursor) (h : HasPassed bytes format n ps c) where
  -- the reader keeps the format
  pub format_kept : c.reader.fields.format ≡ format
  format_kept =
      elim (eqb_tells (length ps) n) [
        | inl e ↦ (let w = rw (e.0) at h.read in w.stands.kept.1 ∙ same_format ps h.one_format w.stands.right.at_least)
        | inr e ↦ (rw (e.0) at h.read).stands.kept.1.of
      ]

  -- there is one more
  pub before_part : (want_of (after_parts format n ps) ≡ wants.End → ⊥) → HasRead bytes (AfterCount format n ps) c
  before_part more =
      elim (eqb_tells (length ps) n) [
        | inl e ↦ absurd (more (rw (e.0) refl))
        | inr e ↦ rw (e.0) at h.read
      ]

  -- all are passed
  at_end : want_of (after_parts format n ps) ≡ wants.End → HasRead bytes (Whole ps) c
  at_end end =
      elim (eqb_tells (length ps) n) [
        | inl e ↦ rw (e.0) at h.read
        | inr e ↦ (let no = rw (e.0) at end in absurd cc)
      ]

  pub image : want_of (after_parts format n ps) ≡ wants.End → unread c ≡ [] → IsImage bytes ps
  image end none =
      let w = at_end end in
      subst (λ (l : List ℕ). IsImage l ps) (sym (w.bytes_are ∙ ap (λ (l : List ℕ). prefix_bytes (Whole ps) ++ l) none ∙ append-nil (prefix_bytes (Whole ps)))) (whole_is_image ps w.stands.right)

  pub trailing : want_of (after_parts format n ps) ≡ wants.End → 0 < length (unread c) → IsFault bytes Trailing
  trailing end some =
      let w = at_end end in
      subst (λ (l : List ℕ). IsFault l Trailing) (sym w.bytes_are) (trails ps (unread c) w.stands.right some)

-- the sandbox is passed
pub one_passed : (bytes : List ℕ) (format : Format) (n : ℕ) (ps : List Part) (p : Part) (old new : ImageCursor) → HasPassed bytes format n ps old → p.format ≡ format
    → HasRead bytes (after_parts format n (ps ++ p ∷ [])) new → HasPassed bytes format n (ps ++ p ∷ []) new
one_passed bytes format n ps p old new h of read = record {
  one_format = All-push (λ (q : Part). q.format ≡ format) ps p h.one_format of;
  read = read;
}

-- the bytes are those passed and those left
pub passed_bytes : (bytes : List ℕ) (format : Format) (n : ℕ) (ps : List Part) (c : ImageCursor) → HasPassed bytes format n ps c → bytes ≡ head format n ps ++ unread c
passed_bytes bytes format n ps c h = h.read.bytes_are ∙ ap (λ (l : List ℕ). l ++ unread c) (parts_bytes format n ps some h.one_format)
  where
    some : 1 ≤ n
    some = elim (eqb_tells (length ps) n) [
      | inl e ↦ (let r = rw (e.0) at h.read in omega (arith, r.stands.right.at_least, e.1))
      | inr e ↦ (let r = rw (e.0) at h.read in r.stands.right.0.at_least)
    ]

-- a sandbox has bytes
some_bytes : (p : Part) → 0 < length (part p)
unfolding part
some_bytes p = omega (arith, length-fields (fields_of p) (flat_map gate p.gates ++ (p.code ++ p.init)))

-- after a sandbox is read, fewer bytes are left
pub fewer_left : (bytes : List ℕ) (format : Format) (n : ℕ) (ps : List Part) (p : Part) (old new : ImageCursor) → HasPassed bytes format n ps old → HasPassed bytes format n (ps ++ p ∷ []) new
    → length (unread new) < length (unread old)
fewer_left bytes format n ps p old new h g =
    let same : head format n ps ++ unread old ≡ (head format n ps ++ part p) ++ unread new =
    sym (passed_bytes bytes format n ps old h) ∙ passed_bytes bytes format n (ps ++ p ∷ []) new g ∙ ap (λ (l : List ℕ). l ++ unread new) (head_push format n ps p) in
    omega (arith, ap length same, length-append (head format n ps) (unread old), length-append (head format n ps ++ part p) (unread new), length-append (head format n ps) (part p), some_bytes p)

-- ---- what is handed out

-- the gate of that index, and its bytes
pub record IsGateThere (v : PartView) (p : Part) (i : ℕ) : Type 0 where
  pub one : Gate
  pub after : List ℕ
  pub one_is : slice_get p.gates i ≡ Some one
  pub words : AreGateWords one
  pub within : 8 * i ≤ length v.gates.now
  pub bytes_are : take (length v.gates.now - 8 * i) (drop (8 * i) v.gates.now) ≡ gate one ++ after

drop_gate : (g : Gate) (r : List ℕ) (k : ℕ) → drop (8 + k) (gate g ++ r) ≡ drop k r
unfolding gate number
drop_gate g r k = sym (drop-drop k 8 (gate g ++ r)) ∙ refl

gate_lies : (gs : List Gate) (i : ℕ) → i < length gs → All AreGateWords gs
    → (g : Gate) × (slice_get gs i ≡ Some g) × AreGateWords g × (8 * i ≤ length (flat_map gate gs)) × (drop (8 * i) (flat_map gate gs) ≡ gate g ++ flat_map gate (drop (suc i) gs))
gate_lies [] i lt words = absurd (omega arith)
gate_lies (g ∷ gs) zero lt words = (g, refl, All-head AreGateWords g gs words, omega arith, refl)
gate_lies (g ∷ gs) (suc i) lt words =
    let t = gate_lies gs i (omega arith) (All-tail AreGateWords g gs words) in
    let next : 8 * suc i ≡ 8 + 8 * i = omega arith in
    (t.0, t.1, t.2, omega (arith, t.3, length-gate g (flat_map gate gs)), ap (λ (k : ℕ). drop k (gate g ++ flat_map gate gs)) next ∙ drop_gate g (flat_map gate gs) (8 * i) ∙ t.4)

pub gate_there : (v : PartView) (p : Part) (i : ℕ) → IsViewOf v p → i < v.fields.gate_count → IsGateThere v p i
gate_there v p i h lt =
    let t = gate_lies p.gates i (omega (arith, ap (λ (f : Fields). f.gate_count) h.fields_are)) h.words in
    let s = v.gates.now in
    record {
      one = t.0;
      after = flat_map gate (drop (suc i) p.gates);
      one_is = t.1;
      words = t.2;
      within = omega (arith, t.3, ap length h.gates_are);
      bytes_are = take_all (length s - 8 * i) (drop (8 * i) s) (omega (arith, length-drop (8 * i) s)) ∙ ap (drop (8 * i)) h.gates_are ∙ t.4;
    }

-- these are the first gates of the sandbox
pub record AreFirstGates (p : Part) (gs : List Gate) : Type 0 where
  pub front : gs ≡ take (length gs) p.gates
  pub most : length gs ≤ length p.gates

-- with the next one
pub one_gate_more : (p : Part) (gs : List Gate) (g : Gate) → AreFirstGates p gs → Some g ≡ slice_get p.gates (length gs) → AreFirstGates p (gs ++ g ∷ [])
one_gate_more p gs g h e =
    let lt = slice_get_within p.gates (length gs) g (sym e) in
    let len = length_push gs g in
    record {
      front = ap (λ (l : List Gate). l ++ g ∷ []) h.front ∙ ap (λ (x : Gate). take (length gs) p.gates ++ x ∷ []) (sym (get_or_from_slice_get p.gates (length gs) g g (sym e)))
          ∙ sym (take_more p.gates (length gs) g lt) ∙ ap (λ (k : ℕ). take k p.gates) (sym len);
      most = omega (arith, len);
    }

-- all of them, where there is no next one
pub all_first : (p : Part) (gs : List Gate) → AreFirstGates p gs → None ≡ slice_get p.gates (length gs) → gs ≡ p.gates
all_first p gs h e = h.front ∙ take_all (length gs) p.gates (past p.gates (length gs) e)

-- the sandbox that a view and these gates make
abbrev with_gates : PartView → Format → List Gate → Part
with_gates v format gs = part_of (record v.fields { format = format }) gs v.code.now v.init.now

-- is the one that is viewed
pub part_again : (v : PartView) (p : Part) (gs : List Gate) → IsViewOf v p → gs ≡ p.gates → with_gates v p.format gs ≡ p
part_again v p gs h e = rw (h.fields_are, e, h.code_is, h.init_is) refl

-- the last sandbox that was read has the image's format
pub last_format : (bytes : List ℕ) (format : Format) (n : ℕ) (ps : List Part) (p : Part) (c : ImageCursor) → HasPassed bytes format n (ps ++ p ∷ []) c → p.format ≡ format
last_format bytes format n ps p c h =
    subst (λ (q : Part). q.format ≡ format) (get_or_push ps p p (length ps) refl) (h.one_format (length ps) p (omega (arith, length_push ps p)))
