-- A sandbox that is sought by its number, and where it lies in the bytes.
use Rattle.std.proofs.Common.{◌≡◌, ◌∙◌, ℕ, suc, ◌+◌, ◌*◌, List, [], ◌∷◌, ◌++◌, length, Some, refl, sym, ap, arith, take, drop, append_assoc, take-append-drop, drop-cons, ◌≢◌, zero, ◌-◌, ◌<◌, ◌≤◌, Option, None}
use Rattle.std.specs.Prelude.{slice_get, IfSome, IfNone}
use Rattle.std.specs.List.{flat_map}
use Rattle.std.proofs.lemmas.Grind.{flat_map-append}
use Rattle.std.proofs.lemmas.List.{length-append, length_push, take-append-le}
use Rattle.std.proofs.lemmas.Option.{get_or_from_slice_get, slice_get_within}
unfoldable use Rattle.sfi_formats.specs.Formats.{magic}
use Rattle.sfi_formats.specs.declared.format.Format.{Format}
use Rattle.sfi_image.specs.declared.part.Gate.{Gate}
use Rattle.sfi_image.specs.Spelling.{Part, fields_of, format_of}
unfoldable use Rattle.sfi_image.specs.Spelling.{number, fields, gate, part, spelling}
use Rattle.sfi_image.specs.Prefixes.{head}
use Rattle.sfi_image.specs.Parts.{IsImage}
use Rattle.sfi_image.proofs.Fronts.{length-fields, length-gate}
use Rattle.sfi_image.proofs.Formats.{length-magic}
use Rattle.sfi_image.specs.Keeping.{IsSandboxOf, LiesAt, sandbox_offset, HasPassed, IsViewOf, unread, IsBeyond}
use Rattle.std.proofs.Math.Seq.{take-append_seam}
use Rattle.sfi_image.specs.declared.cursor.ImageCursor.{ImageCursor}
use Rattle.sfi_image.specs.declared.cursor.PartView.{PartView}
use Rattle.sfi_image.proofs.CursorSteps.{passed_bytes}

-- ==== Where a sandbox lies in the bytes of an image.

-- ---- lengths

pub length-number : (n : ℕ) → length (number n) ≡ 4
unfolding number
length-number n = refl

pub length-gates : (gs : List Gate) → length (flat_map gate gs) ≡ 8 * length gs
length-gates [] = refl
length-gates (g ∷ gs) = omega (arith, length-gate g (flat_map gate gs), length-gates gs)

pub length-part : (p : Part) → length (part p) ≡ 28 + 8 * length p.gates + length p.code + length p.init
unfolding part
length-part p = omega (
  arith,
  length-fields (fields_of p) (flat_map gate p.gates ++ (p.code ++ p.init)),
  length-append (flat_map gate p.gates) (p.code ++ p.init),
  length-append p.code p.init,
  length-gates p.gates,
)

-- after the magic and the count
pub length-head : (format : Format) (n : ℕ) (ps : List Part) → length (head format n ps) ≡ 8 + length (flat_map part ps)
length-head format n ps = omega (arith, length-magic format (number n ++ flat_map part ps), length-append (number n) (flat_map part ps), length-number n)

-- ---- one of a list

-- those before it, it, and those after it
pub split_at : (ps : List Part) (i : ℕ) (p : Part) → slice_get ps i ≡ Some p → ps ≡ take i ps ++ p ∷ drop (suc i) ps
split_at ps i p here =
    sym (take-append-drop i ps)
    ∙ ap (λ (l : List Part). take i ps ++ l) (drop-cons ps i p (slice_get_within ps i p here) ∙ ap (λ (q : Part). q ∷ drop (suc i) ps) (get_or_from_slice_get ps i p p here))

-- the bytes of sandboxes of which one is in the middle
pub spelled_round : (format : Format) (n : ℕ) (front : List Part) (p : Part) (back : List Part)
    → magic format ++ (number n ++ flat_map part (front ++ p ∷ back)) ≡ head format n front ++ (part p ++ flat_map part back)
spelled_round format n front p back =
    let regroup : head format n front ++ (part p ++ flat_map part back) ≡ magic format ++ (number n ++ (flat_map part front ++ (part p ++ flat_map part back))) = simp append_assoc in
    ap (λ (l : List ℕ). magic format ++ (number n ++ l)) (flat_map-append part front (p ∷ back)) ∙ sym regroup

pub spelled : (ps : List Part) → spelling ps ≡ magic (format_of ps) ++ (number (length ps) ++ flat_map part ps)
unfolding spelling
spelled ps = refl

-- the image's bytes before it, it, and those after it
pub image_split : (bytes : List ℕ) (ps : List Part) (i : ℕ) (p : Part) → IsImage bytes ps → slice_get ps i ≡ Some p
    → bytes ≡ head (format_of ps) (length ps) (take i ps) ++ (part p ++ flat_map part (drop (suc i) ps))
image_split bytes ps i p image here =
    image.bytes_are ∙ spelled ps ∙ ap (λ (l : List Part). magic (format_of ps) ++ (number (length ps) ++ flat_map part l)) (split_at ps i p here)
    ∙ spelled_round (format_of ps) (length ps) (take i ps) p (drop (suc i) ps)

pub sandbox_lies : {bytes : List ℕ} {i : ℕ} {p : Part} (h : IsSandboxOf bytes i p) → LiesAt bytes (sandbox_offset h.parts i) (part p)
sandbox_lies {bytes = bytes} {i = i} {p = p} h = record {
  before = head (format_of h.parts) (length h.parts) (take i h.parts);
  after = flat_map part (drop (suc i) h.parts);
  bytes_are = image_split bytes h.parts i p h.image h.sandbox_is;
  offset_is = sym (length-head (format_of h.parts) (length h.parts) (take i h.parts));
}

-- ==== A sandbox that is sought by its number, one sandbox after another.

-- of these sandboxes the one of that number was found, and its end; or there are fewer
abbrev pub IsSought : ℕ → List Part → Option (PartView × ℕ) → Type 0
IsSought number ps (Some f) = (p : Part) × (slice_get ps number ≡ Some p) × IsViewOf f.0 p × (f.1 ≡ sandbox_offset ps number + length (part p))
IsSought number ps None = length ps ≤ number

-- so far
pub record HasSought (bytes : List ℕ) (number passed : ℕ) (c : ImageCursor) (found : Option (PartView × ℕ)) : Type 0 where
  pub format : Format
  pub count : ℕ
  pub parts : List Part
  pub cursor : HasPassed bytes format count parts c
  pub passed_is : passed ≡ length parts
  pub room : passed + length (unread c) ≤ length bytes
  pub sought : IsSought number parts found

pub begun : (bytes : List ℕ) (number n : ℕ) (format : Format) (c : ImageCursor) → HasPassed bytes format n [] c → HasSought bytes number 0 c None
begun bytes number n format c h = record {
  format = format;
  count = n;
  parts = [];
  cursor = h;
  passed_is = refl;
  room = omega (arith, ap length (passed_bytes bytes format n [] c h), length-append (head format n []) (unread c));
  sought = omega arith;
}

last_one : (xs : List Part) (x : Part) → slice_get (xs ++ x ∷ []) (length xs) ≡ Some x
last_one [] x = refl
last_one (y ∷ xs) x = last_one xs x

same_one : (xs : List Part) (x y : Part) (i : ℕ) → slice_get xs i ≡ Some y → slice_get (xs ++ x ∷ []) i ≡ Some y
same_one [] x y i e = absurd cc
same_one (z ∷ xs) x y zero e = e
same_one (z ∷ xs) x y (suc i) e = same_one xs x y i e

module _ (bytes : List ℕ) (number passed : ℕ) (old new : ImageCursor) (found : Option (PartView × ℕ)) (h : HasSought bytes number passed old found) (p : Part)
    (on : HasPassed bytes h.format h.count (h.parts ++ p ∷ []) new) (falls : length (unread new) < length (unread old)) where
  one_on : {s : Option (PartView × ℕ)} → IsSought number (h.parts ++ p ∷ []) s → HasSought bytes number (passed + 1) new s
  one_on sought = record {
    format = h.format;
    count = h.count;
    parts = h.parts ++ p ∷ [];
    cursor = on;
    passed_is = omega (arith, h.passed_is, length_push h.parts p);
    room = omega (arith, h.room);
    sought = sought;
  }

  -- it is the one
  pub found_here : (v : PartView) → IsViewOf v p → passed ≡ number → (left : List ℕ) → left ≡ unread new → HasSought bytes number (passed + 1) new (Some (v, length bytes - length left))
  found_here v viewed e left left_is =
      let all = passed_bytes bytes h.format h.count (h.parts ++ p ∷ []) new on in
      let at : length h.parts ≡ number = sym h.passed_is ∙ e in
      let front : take number (h.parts ++ p ∷ []) ≡ h.parts = ap (λ (k : ℕ). take k (h.parts ++ p ∷ [])) (sym at) ∙ take-append_seam h.parts (p ∷ []) in
      one_on (
        p,
        ap (slice_get (h.parts ++ p ∷ [])) (sym at) ∙ last_one h.parts p,
        viewed,
        omega (
          arith,
          ap length left_is,
          ap length all,
          ap (λ (l : List Part). length (flat_map part l)) front,
          length-append (head h.format h.count (h.parts ++ p ∷ [])) (unread new),
          length-head h.format h.count (h.parts ++ p ∷ []),
          ap length (flat_map-append part h.parts (p ∷ [])),
          length-append (flat_map part h.parts) (part p ++ []),
          length-append (part p) [],
        ),
      )

  -- it isn't
  pub not_here : passed ≢ number → HasSought bytes number (passed + 1) new found
  not_here other = one_on (longer found h.sought)
    where
      longer : (s : Option (PartView × ℕ)) → IsSought number h.parts s → IsSought number (h.parts ++ p ∷ []) s
      longer (Some f) s =
          let front = take-append-le number h.parts (p ∷ []) (let lt = slice_get_within h.parts number s.0 s.1 in omega arith) in
          (s.0, same_one h.parts p s.0 number s.1, s.2, s.3 ∙ ap (λ (l : List Part). 8 + length (flat_map part l) + length (part s.0)) (sym front))
      longer None s = omega (arith, s, h.passed_is, length_push h.parts p)

-- all were passed
pub all_found : (bytes : List ℕ) (number : ℕ) (ps : List Part) (found : Option (PartView × ℕ)) → IsImage bytes ps → IsSought number ps found
    → IfSome found (λ f. (p : Part) × (h : IsSandboxOf bytes number p) × IsViewOf f.0 p × (f.1 ≡ sandbox_offset h.parts number + length (part p)))
all_found bytes number ps (Some f) image s = (s.0, record { parts = ps; image = image; sandbox_is = s.1 }, s.2, s.3)
all_found bytes number ps None image s = tt

pub all_beyond : (bytes : List ℕ) (number : ℕ) (ps : List Part) (found : Option (PartView × ℕ)) → IsImage bytes ps → IsSought number ps found → IfNone found (IsBeyond bytes number)
all_beyond bytes number ps (Some f) image s = tt
all_beyond bytes number ps None image s = (ps, image, s)
