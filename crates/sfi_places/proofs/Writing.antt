-- What is written for another place.
use Rattle.std.proofs.Common.{◌≡◌, ◌∙◌, ℕ, zero, suc, ◌+◌, ◌-◌, ◌*◌, ◌<◌, ◌≤◌, List, [], ◌∷◌, ◌++◌, length, refl, sym, ap, subst, arith, take, drop, map, append_assoc}
use Rattle.std.specs.List.{All, flat_map}
use Rattle.std.proofs.Math.Seq.{take-append_seam, drop-append_seam}
use Rattle.std.proofs.lemmas.List.{length-append, length-drop, length-map, append-nil, map-append, take-append-drop, take_all}
use Rattle.std.proofs.lemmas.List.Elements.{All-head, All-tail}
use Rattle.byteorder.specs.Endian.{little_number, little_bytes}
use Rattle.byteorder.specs.Numbers.{little_number-reads_back}
use Rattle.sfi_image.specs.declared.part.Gate.{Gate}
use Rattle.sfi_image.specs.Spelling.{IsWord}
unfoldable use Rattle.sfi_image.specs.Spelling.{number, gate}
use Rattle.sfi_image.proofs.Fronts.{gate_split}
use Rattle.sfi_image.proofs.Tests.{flat_split}
use Rattle.sfi_places.specs.Moving.{moved_address, moved_gate}
use Rattle.sfi_image.specs.Keeping.{LiesAt}
use Rattle.sfi_places.specs.private.{IsReplaced, GoesTo, GatesGo}
use Rattle.sfi_image.proofs.Seeking.{length-number, length-gates}

-- ---- an address

-- what lies from its offset on
pub from_offset : (bytes before rest : List ℕ) (offset : ℕ) → offset ≡ length before → bytes ≡ before ++ rest → drop offset bytes ≡ rest
from_offset bytes before rest offset e is = ap (drop offset) is ∙ ap (λ (n : ℕ). drop n (before ++ rest)) e ∙ drop-append_seam before rest

pub up_to_offset : (bytes before rest : List ℕ) (offset : ℕ) → offset ≡ length before → bytes ≡ before ++ rest → take offset bytes ≡ before
up_to_offset bytes before rest offset e is = ap (take offset) is ∙ ap (λ (n : ℕ). take n (before ++ rest)) e ∙ take-append_seam before rest

-- it is read back
pub reads : (at : ℕ) (rest : List ℕ) → IsWord at → little_number 4 (number at ++ rest) ≡ at
unfolding number
reads at rest word = little_number-reads_back 4 at rest (omega (arith, word))

pub is_read : (bytes before after : List ℕ) (offset at value : ℕ) → IsWord at → offset ≡ length before → bytes ≡ before ++ (number at ++ after) → value ≡ little_number 4 (drop offset bytes) → value ≡ at
is_read bytes before after offset at value word e is got =
    got ∙ ap (little_number 4) (from_offset bytes before (number at ++ after) offset e is) ∙ reads at after word

-- it is long enough
pub has_room : (bytes : List ℕ) (offset at : ℕ) → LiesAt bytes offset (number at) → offset + 4 ≤ length bytes
has_room bytes offset at lies =
    omega (arith, ap length lies.bytes_are, length-append lies.before (number at ++ lies.after), length-append (number at) lies.after, length-number at, lies.offset_is)

-- what lies from the offset on, as it is borrowed
pub borrowed : (bytes : List ℕ) (offset : ℕ) → take (length bytes - offset) (drop offset bytes) ≡ drop offset bytes
borrowed bytes offset = take_all (length bytes - offset) (drop offset bytes) (omega (arith, length-drop offset bytes))

pub long : (bytes : List ℕ) (offset : ℕ) → offset + 4 ≤ length bytes → 4 ≤ length (take (length bytes - offset) (drop offset bytes))
long bytes offset room = omega (arith, room, ap length (borrowed bytes offset), length-drop offset bytes)

-- it is written over
pub written : (before after : List ℕ) (at value : ℕ) → little_bytes 4 value ++ drop 4 (number at ++ after) ≡ number value ++ after
unfolding number
written before after at value = refl

pub is_written : (bytes before after : List ℕ) (offset at value : ℕ) → offset ≡ length before → bytes ≡ before ++ (number at ++ after)
    → take offset bytes ++ (little_bytes 4 value ++ drop 4 (drop offset bytes)) ≡ before ++ (number value ++ after)
is_written bytes before after offset at value e is =
    ap (λ (l : List ℕ). l ++ (little_bytes 4 value ++ drop 4 (drop offset bytes))) (up_to_offset bytes before (number at ++ after) offset e is)
    ∙ ap (λ (l : List ℕ). before ++ (little_bytes 4 value ++ drop 4 l)) (from_offset bytes before (number at ++ after) offset e is)
    ∙ ap (λ (l : List ℕ). before ++ l) (written before after at value)

-- the rest of bytes, from an offset on, is these
pub rest_is : (bytes rest new : List ℕ) (offset n : ℕ) → n ≡ length bytes → take n new ≡ take offset bytes ++ rest → drop n new ≡ drop n bytes → new ≡ take offset bytes ++ rest
rest_is bytes rest new offset n all front past =
    sym (take-append-drop n new) ∙ ap (λ (l : List ℕ). l ++ drop n new) front
    ∙ ap (λ (l : List ℕ). (take offset bytes ++ rest) ++ l) (past ∙ from_offset bytes bytes [] n all (sym (append-nil bytes))) ∙ append-nil (take offset bytes ++ rest)

pub length-rest : (value : ℕ) (s : List ℕ) → 4 ≤ length s → length (little_bytes 4 value ++ drop 4 s) ≡ length s
length-rest value s long = omega (arith, long, length-append (little_bytes 4 value) (drop 4 s), length-drop 4 s)

-- ---- gates

-- those before one of them, it, and those after it
pub record IsAmong (gs : List Gate) (i : ℕ) : Type 0 where
  pub done : List Gate
  pub here : Gate
  pub more : List Gate
  pub gates_are : gs ≡ done ++ here ∷ more
  pub length_is : length done ≡ i

pub among : (gs : List Gate) (i : ℕ) → i < length gs → IsAmong gs i
among [] i lt = absurd (omega arith)
among (g ∷ gs) zero lt = record { done = []; here = g; more = gs; gates_are = refl; length_is = refl }
among (g ∷ gs) (suc i) lt =
    let h = among gs i (omega (arith, lt)) in
    record { done = g ∷ h.done; here = h.here; more = h.more; gates_are = ap (λ (l : List Gate). g ∷ l) h.gates_are; length_is = omega (arith, h.length_is) }

pub one_of : {X : Type 0} (P : X → Type 0) (done : List X) (x : X) (more : List X) → All P (done ++ x ∷ more) → P x
one_of P [] x more all = All-head P x more all
one_of P (y ∷ done) x more all = one_of P done x more (All-tail P y (done ++ x ∷ more) all)

module _ (from to : ℕ) where
  abbrev there : Gate → Gate
  there = moved_gate from to

  -- the gates, of which the first `i` are moved to the other place
  abbrev pub some_moved : List Gate → ℕ → List Gate
  some_moved gs i = map there (take i gs) ++ drop i gs

  seam : (gs : List Gate) (i : ℕ) (done more : List Gate) → gs ≡ done ++ more → length done ≡ i → some_moved gs i ≡ map there done ++ more
  seam gs i done more is len =
      ap (λ (l : List Gate). map there l ++ drop i gs) (up_to i (sym len) gs is) ∙ ap (λ (l : List Gate). map there done ++ l) (past i (sym len) gs is)
    where
      up_to : (k : ℕ) → k ≡ length done → (hs : List Gate) → hs ≡ done ++ more → take k hs ≡ done
      up_to k e hs are = ap (take k) are ∙ ap (λ (n : ℕ). take n (done ++ more)) e ∙ take-append_seam done more

      past : (k : ℕ) → k ≡ length done → (hs : List Gate) → hs ≡ done ++ more → drop k hs ≡ more
      past k e hs are = ap (drop k) are ∙ ap (λ (n : ℕ). drop n (done ++ more)) e ∙ drop-append_seam done more

  -- one of the gates in the middle of bytes
  around : (before : List ℕ) (xs : List Gate) (g : Gate) (ys : List Gate) (after : List ℕ)
      → before ++ (flat_map gate (xs ++ g ∷ ys) ++ after) ≡ (before ++ flat_map gate xs) ++ (number g.address ++ (number g.service ++ (flat_map gate ys ++ after)))
  around before xs g ys after =
      ap (λ (l : List ℕ). before ++ l) (flat_split gate xs g ys after ∙ ap (λ (l : List ℕ). flat_map gate xs ++ l) (gate_split g (flat_map gate ys ++ after)))
      ∙ sym (append_assoc before (flat_map gate xs) (number g.address ++ (number g.service ++ (flat_map gate ys ++ after))))

  module _ (gs : List Gate) (i : ℕ) (lt : i < length gs) where
    abbrev a : IsAmong gs i
    a = among gs i lt

    now : some_moved gs i ≡ map there a.done ++ a.here ∷ a.more
    now = seam gs i a.done (a.here ∷ a.more) a.gates_are a.length_is

    next : some_moved gs (i + 1) ≡ map there a.done ++ there a.here ∷ a.more
    next =
        seam gs (i + 1) (a.done ++ a.here ∷ []) a.more (a.gates_are ∙ sym (append_assoc a.done (a.here ∷ []) a.more)) (omega (arith, length-append a.done (a.here ∷ []), a.length_is))
        ∙ ap (λ (l : List Gate). l ++ a.more) (map-append there a.done (a.here ∷ [])) ∙ append_assoc (map there a.done) (there a.here ∷ []) a.more

    pub goes : GatesGo from to gs → GoesTo from to a.here.address
    goes go = one_of (λ (g : Gate). GoesTo from to g.address) a.done a.here a.more (subst (GatesGo from to) a.gates_are go)

    -- how far it lies
    far : (before : List ℕ) (offset : ℕ) → offset ≡ length before → offset + 8 * i ≡ length (before ++ flat_map gate (map there a.done))
    far before offset e = omega (arith, e, length-append before (flat_map gate (map there a.done)), length-gates (map there a.done), length-map a.done there, a.length_is)

    -- its address lies there
    pub next_lies : (old mid : List ℕ) (offset : ℕ) → LiesAt old offset (flat_map gate gs) → IsReplaced old mid offset (flat_map gate gs) (flat_map gate (some_moved gs i)) → LiesAt mid (offset + 8 * i) (number a.here.address)
    next_lies old mid offset lies is = record {
      before = lies.before ++ flat_map gate (map there a.done);
      after = number a.here.service ++ (flat_map gate a.more ++ lies.after);
      bytes_are = is lies.before lies.after lies.offset_is lies.bytes_are ∙ ap (λ (l : List Gate). lies.before ++ (flat_map gate l ++ lies.after)) now ∙ around lies.before (map there a.done) a.here a.more lies.after;
      offset_is = far lies.before offset lies.offset_is;
    }

    -- and one more is moved
    pub one_more : (old mid new : List ℕ) (offset : ℕ) → GatesGo from to gs → IsReplaced old mid offset (flat_map gate gs) (flat_map gate (some_moved gs i))
        → ((at : ℕ) → GoesTo from to at → IsReplaced mid new (offset + 8 * i) (number at) (number (moved_address from to at)))
        → IsReplaced old new offset (flat_map gate gs) (flat_map gate (some_moved gs (i + 1)))
    one_more old mid new offset go is step = λ before after e are.
        step a.here.address (goes go) (before ++ flat_map gate (map there a.done)) (number a.here.service ++ (flat_map gate a.more ++ after)) (far before offset e)
        (is before after e are ∙ ap (λ (l : List Gate). before ++ (flat_map gate l ++ after)) now ∙ around before (map there a.done) a.here a.more after)
        ∙ sym (around before (map there a.done) (there a.here) a.more after) ∙ ap (λ (l : List Gate). before ++ (flat_map gate l ++ after)) (sym next)
