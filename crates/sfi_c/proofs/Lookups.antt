-- Which sandbox a look-up finds, and where it lies.
use Rattle.std.proofs.Common.{append_assoc, ◌↔◌, ◌≢◌, Result, Ok, Err, IfErr, inl, Bool, true, false, subst}
use Rattle.std.specs.List.{flat_map, All}
use Rattle.sfi_image.specs.declared.cursor.PartView.{PartView}
use Rattle.sfi_image.specs.declared.fields.Fields.{Fields}
use Rattle.sfi_image.specs.Spelling.{fields_of, fields, gate, part, AreApart, code_region, guarded_region, spans, zone_end, zone_ends, IsClear, AreClear}
use Rattle.sfi_image.proofs.Fronts.{length-fields}
use Rattle.sfi_c.specs.declared.part.SfiPart.{SfiPart}
use Rattle.sfi_c.specs.Parts.{Tells, told_at, told_part, lookup_number, IsBeyondGates}
use Rattle.sfi_image.specs.Keeping.{LiesAt, IsBeyond}
use Rattle.sfi_image.proofs.Seeking.{length-gates, length-part, sandbox_lies}
use Rattle.std.proofs.lemmas.List.Elements.{All-head, All-tail, All-nil, All-cons, All-from_recursion}
use Rattle.sfi_image.specs.declared.span.Span.{Span}
use Rattle.sfi_places.specs.Beside.{AreBeside}
use Rattle.sfi_formats.specs.declared.format.Format.{Format}
use Rattle.sfi_formats.specs.declared.format.Format.TheVariants.{Sfi1, Sfi2, Sfiw, Sfis}
use Rattle.sfi_formats.specs.Formats.{has_single_mask}
use Rattle.sfi_formats.specs.Numbers.{format_number, format_numbered}
use Rattle.sfi_c.specs.Moves.{told_bounds, AreToldApart}
use Rattle.sfi_image.specs.Bounds.{IsClearOf}
use Rattle.std.specs.Prelude.{slice_get}
use Rattle.sfi_image.proofs.Facts.{one_image, never_both}
use Rattle.sfi_c.specs.declared.looking.Lookup.{Lookup}
use Rattle.sfi_c.specs.declared.looking.Lookup.TheVariants.{NoImage}
use Rattle.sfi_c.specs.private.{HasPart, HasGate, HasFault, IsSaid, said_by}
use Rattle.sfi_c.proofs.Prelude.{◌≡◌, ◌∙◌, ℕ, ◌+◌, ◌*◌, List, [], ◌++◌, length, refl, sym, ap, arith, length-append, Part, IsViewOf, IsSandboxOf, sandbox_offset, ◌∷◌, ◌<◌, Some, inr, slice_get_within, Found, Beyond}

-- ==== Where a sandbox lies in the bytes of an image.

-- ---- pieces

-- what follows the front of a piece lies after it
rest_lies : (bytes : List ℕ) (o m : ℕ) (s t : List ℕ) → m ≡ o + length s → LiesAt bytes o (s ++ t) → LiesAt bytes m t
rest_lies bytes o m s t e h = record {
  before = h.before ++ s;
  after = h.after;
  bytes_are = h.bytes_are ∙ ap (λ (l : List ℕ). h.before ++ l) (append_assoc s t h.after) ∙ sym (append_assoc h.before s (t ++ h.after));
  offset_is = omega (arith, length-append h.before s, h.offset_is, e);
}

front_lies : (bytes : List ℕ) (o : ℕ) (s t : List ℕ) → LiesAt bytes o (s ++ t) → LiesAt bytes o s
front_lies bytes o s t h = record {
  before = h.before;
  after = t ++ h.after;
  bytes_are = h.bytes_are ∙ ap (λ (l : List ℕ). h.before ++ l) (append_assoc s t h.after);
  offset_is = h.offset_is;
}

-- ---- a sandbox

-- what is told of it at its place
pub tells : (bytes : List ℕ) (i : ℕ) (p : Part) (t : SfiPart) (h : IsSandboxOf bytes i p) → t ≡ told_at p (sandbox_offset h.parts i) → Tells bytes h.parts i p t
unfolding part
tells bytes i p t h is =
    let o = sandbox_offset h.parts i in
    let gs = flat_map gate p.gates in
    let all : LiesAt bytes (o + 28 + 8 * length p.gates) (p.code ++ p.init) =
    rest_lies bytes (o + 28) _ gs (p.code ++ p.init) (omega (arith, length-gates p.gates))
    (rest_lies bytes o (o + 28) (fields (fields_of p)) (gs ++ (p.code ++ p.init)) (omega (arith, length-fields (fields_of p) [], length-append (fields (fields_of p)) [])) (sandbox_lies h)) in
    rw (is) (record {
      told_is = refl;
      code = front_lies bytes _ p.code p.init all;
      init = rest_lies bytes _ _ p.code p.init refl all;
    })

-- ---- what is told

pub part_is : (v : PartView) (p : Part) (o end : ℕ) → IsViewOf v p → end ≡ o + length (part p) → o + 28 + 8 * v.fields.gate_count + v.fields.code_size + v.fields.init_len ≡ end
part_is v p o end h e =
    omega (arith, e, length-part p, ap (λ (f : Fields). f.gate_count) h.fields_are, ap (λ (f : Fields). f.code_size) h.fields_are, ap (λ (f : Fields). f.init_len) h.fields_are)

-- ==== Sandboxes of images by what is told of them.

-- all of the two spans of a sandbox
two : (P : Span → Type 0) (p : Part) → P (code_region p) → P (guarded_region p) → All P (spans (p ∷ []))
two P p code guarded = All-from_recursion P (spans (p ∷ [])) (code, (guarded, tt))

first : (P : Span → Type 0) (p : Part) → All P (spans (p ∷ [])) → P (code_region p)
first P p all = All-head P (code_region p) (guarded_region p ∷ []) all

second : (P : Span → Type 0) (p : Part) → All P (spans (p ∷ [])) → P (guarded_region p)
second P p all = All-head P (guarded_region p) [] (All-tail P (code_region p) (guarded_region p ∷ []) all)

-- ---- a zone at zero

format_told : (f : Format) → format_numbered (format_number f) ≡ f
format_told Sfi1 = refl
format_told Sfi2 = refl
format_told Sfiw = refl
format_told Sfis = refl

-- the span lies clear of the zones with these ends
abbrev Lies : List ℕ → Span → Type 0
Lies ends s = All (λ end. IsClear end s) ends

-- where the format has single masks, the two spans of the second lie clear of the zone at zero of the first
abbrev AreBothClear : Part → Part → Type 0
AreBothClear p q = has_single_mask p.format ≡ true → IsClear (zone_end p.data_size) (code_region q) × IsClear (zone_end p.data_size) (guarded_region q)

lie_clear : (p q : Part) → AreBothClear p q → AreClear (zone_ends (p ∷ [])) (spans (q ∷ []))
lie_clear p q both = by (has_single_mask p.format) refl
  where
    by : (b : Bool) → has_single_mask p.format ≡ b → AreClear (zone_ends (p ∷ [])) (spans (q ∷ []))
    by true one_step =
        let end = zone_end p.data_size in
        let ends : end ∷ [] ≡ zone_ends (p ∷ []) = rw (one_step) refl in
        let one = λ (s : Span) (clear : IsClear end s). All-cons (λ e. IsClear e s) end [] clear (All-nil (λ e. IsClear e s)) in
        subst (λ (es : List ℕ). AreClear es (spans (q ∷ []))) ends (two (Lies (end ∷ [])) q (one (code_region q) (both one_step).0) (one (guarded_region q) (both one_step).1))
    by false two_steps =
        let none : [] ≡ zone_ends (p ∷ []) = rw (two_steps) refl in
        subst (λ (es : List ℕ). AreClear es (spans (q ∷ []))) none (λ k d lt. All-nil _)

both_clear : (p q : Part) → AreClear (zone_ends (p ∷ [])) (spans (q ∷ [])) → AreBothClear p q
both_clear p q clear one_step =
    let end = zone_end p.data_size in
    let ends : zone_ends (p ∷ []) ≡ end ∷ [] = rw (one_step) refl in
    let all = subst (λ (es : List ℕ). AreClear es (spans (q ∷ []))) ends clear in
    (All-head (λ e. IsClear e (code_region q)) end [] (first (Lies (end ∷ [])) q all), All-head (λ e. IsClear e (guarded_region q)) end [] (second (Lies (end ∷ [])) q all))

-- by what is told of the two, wherever their code and first data bytes stand
told_clear : (p q : Part) → IsClearOf (told_bounds (told_part p 0 0)) (told_bounds (told_part q 0 0)) ↔ AreClear (zone_ends (p ∷ [])) (spans (q ∷ []))
told_clear p q =
    let is = ap has_single_mask (format_told p.format) in (
      λ told. lie_clear p q (λ one_step. (told.code (is ∙ one_step), told.guarded (is ∙ one_step))),
      λ clear. record { code = λ one_step. (both_clear p q clear (sym is ∙ one_step)).0; guarded = λ one_step. (both_clear p q clear (sym is ∙ one_step)).1 },
    )

-- ---- both

pub beside : (bytes others : List ℕ) (number further : ℕ) (p q : Part) (one other : SfiPart) → (h : IsSandboxOf bytes number p) → (g : IsSandboxOf others further q)
    → Tells bytes h.parts number p one → Tells others g.parts further q other → AreToldApart one other ↔ AreBeside (p ∷ []) (q ∷ [])
beside bytes others number further p q one other h g of_p of_q =
    let is = of_p.told_is in
    let too = of_q.told_is in
    rw (is, too) (
      λ apart. record {
        apart = two (λ (s : Span). All (λ (t : Span). AreApart s t) (spans (q ∷ []))) p
            (two (AreApart (code_region p)) q apart.regions.code_code apart.regions.code_guarded) (two (AreApart (guarded_region p)) q apart.regions.guarded_code apart.regions.guarded_guarded);
        clear = (told_clear p q).0 apart.clear;
        other_clear = (told_clear q p).0 apart.other_clear;
      },
      λ all.
          let code = first (λ (s : Span). All (λ (t : Span). AreApart s t) (spans (q ∷ []))) p all.apart in
          let guarded = second (λ (s : Span). All (λ (t : Span). AreApart s t) (spans (q ∷ []))) p all.apart in
          record {
            regions = record {
              code_code = first (AreApart (code_region p)) q code;
              code_guarded = second (AreApart (code_region p)) q code;
              guarded_code = first (AreApart (guarded_region p)) q guarded;
              guarded_guarded = second (AreApart (guarded_region p)) q guarded;
            };
            clear = (told_clear p q).1 all.clear;
            other_clear = (told_clear q p).1 all.other_clear;
          },
    )

-- ==== What a look-up says, and of which bytes.

pub is_found : (l : Lookup) → lookup_number l ≡ 0 → l ≡ Found
is_found Found e = refl
is_found _ e = absurd (omega arith)

-- what is said to be found is there
pub found_there : {X : Type 0} (r : Result X Lookup) → IfErr r (λ l. l ≢ Found) → said_by r ≡ Found → (x : X) × (r ≡ Ok x)
found_there (Ok x) missing e = (x, refl)
found_there (Err l) missing e = absurd (missing e)

-- an index has one element
pub same_element : {X : Type 0} (xs : List X) (i : ℕ) (x y : X) → slice_get xs i ≡ Some x → slice_get xs i ≡ Some y → x ≡ y
same_element xs i x y e f = let both : Some x ≡ Some y = sym e ∙ f in cc

-- the image has more sandboxes than the number of one
pub within : {bytes : List ℕ} {number : ℕ} {p : Part} → (h : IsSandboxOf bytes number p) → number < length h.parts
within {number = number} {p = p} h = slice_get_within h.parts number p h.sandbox_is

-- ---- what is said

-- what it means, where these are the three things
abbrev pub Means : Type 0 → Type 0 → Type 0 → Lookup → Type 0
Means there further fault Found = there
Means there further fault Beyond = further
Means there further fault NoImage = fault

-- where never two of them hold, the one that is said holds alone
is_said : {T B F : Type 0} → (T → B → ⊥) → (T → F → ⊥) → (B → F → ⊥) → (l : Lookup) → Means T B F l → IsSaid T B F l
is_said tb tf bf Found h = record { found = (λ _. h, λ _. refl); beyond = (λ e. absurd cc, λ b. absurd (tb h b)); layout = (λ e. absurd cc, λ f. absurd (tf h f)) }
is_said tb tf bf Beyond h = record { found = (λ e. absurd cc, λ t. absurd (tb t h)); beyond = (λ _. h, λ _. refl); layout = (λ e. absurd cc, λ f. absurd (bf h f)) }
is_said tb tf bf NoImage h = record { found = (λ e. absurd cc, λ t. absurd (tf t h)); beyond = (λ e. absurd cc, λ b. absurd (bf b h)); layout = (λ _. h, λ _. refl) }

module _ (bytes : List ℕ) (number : ℕ) where
  -- ---- of a sandbox

  both : HasPart bytes number → IsBeyond bytes number → ⊥
  both h b =
      let same : length h.1.parts ≡ length b.0 = ap length (one_image bytes h.1.parts b.0 h.1.image b.1) in
      let few = within h.1 in
      let many = b.2 in
      omega arith

  pub part_said : (l : Lookup) → Means (HasPart bytes number) (IsBeyond bytes number) (HasFault bytes) l → IsSaid (HasPart bytes number) (IsBeyond bytes number) (HasFault bytes) l
  part_said l h = is_said both (λ t f. never_both bytes t.1.parts f.0 t.1.image f.1) (λ b f. never_both bytes b.0 f.0 b.1 f.1) l h

  -- ---- of a gate

  module _ (index : ℕ) where
    both_gates : HasGate bytes number index → IsBeyondGates bytes number index → ⊥
    both_gates h (inl b) = both (h.0, h.1) b
    both_gates h (inr b) =
        let same = one_image bytes h.1.parts b.1.parts h.1.image b.1.image in
        let sandbox = same_element b.1.parts number h.0 b.0 (ap (λ (l : List Part). slice_get l number) (sym same) ∙ h.1.sandbox_is) b.1.sandbox_is in
        let long : length h.0.gates ≡ length b.0.gates = ap (λ (p : Part). length p.gates) sandbox in
        let few = h.2 in
        let many = b.2 in
        omega arith

    beyond_fault : IsBeyondGates bytes number index → HasFault bytes → ⊥
    beyond_fault (inl b) f = never_both bytes b.0 f.0 b.1 f.1
    beyond_fault (inr b) f = never_both bytes b.1.parts f.0 b.1.image f.1

    pub gate_said : (l : Lookup) → Means (HasGate bytes number index) (IsBeyondGates bytes number index) (HasFault bytes) l → IsSaid (HasGate bytes number index) (IsBeyondGates bytes number index) (HasFault bytes) l
    gate_said l h = is_said both_gates (λ t f. never_both bytes t.1.parts f.0 t.1.image f.1) beyond_fault l h

    -- where there is no such sandbox
    pub none_said : (l : Lookup) → l ≢ Found → IsSaid (HasPart bytes number) (IsBeyond bytes number) (HasFault bytes) l → IsSaid (HasGate bytes number index) (IsBeyondGates bytes number index) (HasFault bytes) l
    none_said Found other h = absurd (other refl)
    none_said Beyond other h = gate_said Beyond (inl (h.beyond.0 refl))
    none_said NoImage other h = gate_said NoImage (h.layout.0 refl)
