-- Each item of a source does in the image what its instruction does.
use Rattle.sfi_link.proofs.Prelude.{◌≡◌, ℕ, ◌+◌, ◌*◌, List, [], ◌∷◌, ◌++◌, length, length-append, replicate, Some, Bool, true, false, refl, sym, ap, ◌∙◌, subst, arith, append_assoc, inl, inr, pos, ℤ, negsuc, zero, suc, ◌-ℤ◌, MatchBool, slice_get, repeat, All, Instr, Op, OpImm, Load, Store, Branch, Jal, Jalr, Lui, Addi, Format, is_stack, upper, lower, Sandbox, IsSandbox, IsBody, Part, stub_of, BundleSlot, Wide, Short, Jump, Upper, Lower, Region, PlacedName, slot_size, size_of, resolved, slots_of, c_nop, Placement, Place, Bases, bases_of, with_offset, target_at, value_at, base_at, AreSlots, c_ebreak, IsLinked, AreLinkedFrom, All-head, All-tail}
use Rattle.rv_mem.specs.Laws.{Holds}
use Rattle.rv_step.specs.State.{State}
use Rattle.sfi_source.specs.declared.item.Body.{Body}
use Rattle.sfi_source.specs.declared.item.Body.TheVariants.{Plain, To, High, Low, Base}
use Rattle.sfi_source.specs.declared.item.Item.{Item}
use Rattle.sfi_image.specs.Parts.{IsRightPart}
use Rattle.sfi_link.specs.Standing.{IsResolvedTo, AreResolvedTo, RunsAt, RunsAs, WordRunsAs, RunsAsIn, LinkedRunsAs, LinkedImagesRunAs, SandboxesRunAs}
use Rattle.sfi_rewrite.specs.Expansion.{jump_slots, IsAlone, IsMasked, IsExpansionOf, is_on_stack, stack_pair, put_back, writes_stack}
use Rattle.sfi_rewrite.specs.Rewriting.{IsRewritten, AreRewritten}
use Rattle.sfi_formats.specs.Formats.{has_words, has_single_mask, is_data_register}
use Rattle.sfi_rewrite.specs.Transparency.{IsAimed, MayBe, SlotsStand, StandsTransparent}
use Rattle.sfi_rewrite.specs.words.Transparency as words
use Rattle.sfi_rewrite.specs.words.Expansion as words_expansion
use Rattle.sfi_rewrite.specs.words.Expansion.{data_mask, is_made_on_x26, base_of, before, after, mask_after, IsConfined, IsAround, is_move, moved, is_step_before_use}
use Rattle.rv_word.specs.Outlines.{destination}
use Rattle.std.specs.Prelude.{not, ◌&&◌, ◌||◌, drop, Option, None, if◌then◌else◌}
use Rattle.sfi_rewrite.proofs.Facts.{rewritten_is_transparent}
use Rattle.sfi_rewrite.proofs.Standing.{body_laid}
use Rattle.sfi_link.proofs.CleanPlaces.{made}
use Rattle.sfi_link.proofs.Pushed.{which_base, held_part, slots_there}
use Rattle.rv_word.specs.declared.instr.RegOp.TheVariants.{Add, And, Or}
use Rattle.sfi_link.proofs.Bytes.{length_stubs}
use Rattle.sfi_link.proofs.Region.{AreCut, cut}
use Rattle.sfi_rewrite.proofs.Sizes.{size_of-append, size_nops}
use Rattle.sfi_link.proofs.Parts.{slots_length, linked_right}

-- ---- slots that wait for no name

-- none of the slots waits for a name
abbrev AreBare : List BundleSlot → Type 0
AreBare [] = Unit {0}
AreBare (Wide i ∷ slots) = AreBare slots
AreBare (Short f ∷ slots) = AreBare slots
AreBare (s ∷ slots) = ⊥

bare_append : (xs ys : List BundleSlot) → AreBare xs → AreBare ys → AreBare (xs ++ ys)
bare_append [] ys a b = b
bare_append (Wide i ∷ xs) ys a b = bare_append xs ys a b
bare_append (Short f ∷ xs) ys a b = bare_append xs ys a b
bare_append (s ∷ xs) ys a b = absurd a

bare_goes : (at : Bases) (names : List PlacedName) (here : ℕ) (i : Instr) (slots : List BundleSlot) → AreBare slots → AreResolvedTo at names here i slots
bare_goes at names here i [] h = tt
bare_goes at names here i (Wide j ∷ slots) h = (tt, bare_goes at names (here + 4) i slots h)
bare_goes at names here i (Short f ∷ slots) h = (tt, bare_goes at names (here + 2) i slots h)
bare_goes at names here i (s ∷ slots) h = absurd h

bare_if : (b : Bool) (xs ys : List BundleSlot) → AreBare xs → AreBare ys → AreBare (if b then xs else ys)
bare_if true xs ys a b = a
bare_if false xs ys a b = b

bare_data : (f : Format) (d a : ℕ) → AreBare (data_mask f d a)
bare_data f d a = bare_if (has_single_mask f) (Wide (Op And d a 27) ∷ []) (Wide (Op And 31 a 27) ∷ Wide (Op Or d 31 26) ∷ []) tt tt

bare_mask : (f : Format) (to : Option ℕ) → AreBare (mask_after f to)
bare_mask f None = tt
bare_mask f (Some d) = bare_if (is_data_register d) (data_mask f d d) [] (bare_data f d d) tt

bare_alone : (rvc : Bool) (i : Instr) (slots : List BundleSlot) → IsAlone rvc i slots → AreBare slots
bare_alone false i slots e = subst AreBare (sym e) tt
bare_alone true i slots (inl s) = subst AreBare (sym s.2) tt
bare_alone true i slots (inr w) = subst AreBare (sym w.1) tt

bare_before : (f : Format) (i : Instr) → AreBare (before f i)
bare_before f (Load kind rd a imm) = bare_if (is_data_register a || is_made_on_x26 f a) [] (data_mask f 29 a) tt (bare_data f 29 a)
bare_before f (Store width a rs2 imm) = bare_if (is_data_register a || is_made_on_x26 f a) [] (data_mask f 29 a) tt (bare_data f 29 a)
bare_before f _ = tt

bare_confined : (f : Format) (rvc : Bool) (i : Instr) (slots : List BundleSlot) → IsConfined f rvc i slots → AreBare slots
bare_confined f rvc (Load kind rd a imm) slots e = bare_alone rvc (Load kind rd (base_of f a) imm) slots e
bare_confined f rvc (Store width a rs2 imm) slots e = bare_alone rvc (Store width (base_of f a) rs2 imm) slots e
bare_confined f rvc (Jalr rd a imm) slots e = subst AreBare (sym e) tt
bare_confined f rvc i slots e = bare_alone rvc i slots e

bare_after : (f : Format) (step : Bool) (i : Instr) → AreBare (after f step i)
bare_after f step i = bare_if step [] (mask_after f (destination i)) tt (bare_mask f (destination i))

bare_moved : (f : Format) (i : Instr) → AreBare (moved f i)
bare_moved f (OpImm op d a imm) = bare_data f d a
bare_moved f (Op op d b a) = bare_data f d a
bare_moved f _ = tt

bare_plain : (f : Format) (moves rvc step : Bool) (i : Instr) (slots : List BundleSlot) → MatchBool moves (slots ≡ moved f i) (IsAround f rvc step i slots) → AreBare slots
bare_plain f true rvc step i slots e = subst AreBare (sym e) (bare_moved f i)
bare_plain f false rvc step i slots e =
    subst AreBare (sym e.2) (bare_append (before f i) (e.0 ++ after f step i) (bare_before f i) (bare_append e.0 (after f step i) (bare_confined f rvc i e.0 e.1) (bare_after f step i)))

-- in bundles
bare_jump : (rd a : ℕ) (imm : ℤ) → AreBare (jump_slots rd a imm)
bare_jump rd a (pos zero) = tt
bare_jump rd a (pos (suc n)) = tt
bare_jump rd a (negsuc n) = tt

bare_masked : (rvc : Bool) (i : Instr) (slots : List BundleSlot) → IsMasked rvc i slots → AreBare slots
bare_masked rvc (Load kind rd a imm) slots e = subst AreBare (sym e) tt
bare_masked rvc (Store width a rs2 imm) slots e = subst AreBare (sym e) tt
bare_masked rvc (Jalr rd a imm) slots e = subst AreBare (sym e) (bare_jump rd a imm)
bare_masked rvc i slots e = bare_alone rvc i slots e

bare_bundled : (writes on rvc : Bool) (i : Instr) (slots : List BundleSlot)
    → MatchBool writes (slots ≡ Wide i ∷ stack_pair) (MatchBool on (IsAlone rvc i slots) (IsMasked rvc i slots)) → AreBare slots
bare_bundled true on rvc i slots e = subst AreBare (sym e) tt
bare_bundled false true rvc i slots e = bare_alone rvc i slots e
bare_bundled false false rvc i slots e = bare_masked rvc i slots e

bare_pair : (writes : Bool) → AreBare (put_back writes)
bare_pair false = tt
bare_pair true = tt

-- ---- which instruction an item becomes

-- of an item's slots the first waits for its name, if it has one, and no other
abbrev AwaitName : Body → List BundleSlot → Type 0
AwaitName (Plain i) slots = AreBare slots
AwaitName (To i name) slots = (line : ℕ) × (rest : List BundleSlot) × (slots ≡ Jump i name line ∷ rest) × AreBare rest
AwaitName (High rd name) slots = (line : ℕ) × (rest : List BundleSlot) × (slots ≡ Upper rd name line ∷ rest) × AreBare rest
AwaitName (Low rd name) slots = (line : ℕ) × (rest : List BundleSlot) × (slots ≡ Lower rd name line ∷ rest) × AreBare rest
AwaitName (Base rd name) slots = (line : ℕ) × (rest : List BundleSlot) × (slots ≡ Region rd name line ∷ rest) × AreBare rest

await_in_bundles : (f : Format) (line : ℕ) (rvc : Bool) (body : Body) (slots : List BundleSlot) → IsExpansionOf f line rvc body slots → AwaitName body slots
await_in_bundles f line rvc (Plain i) slots e = bare_bundled (writes_stack f i) (is_on_stack f i) rvc i slots e
await_in_bundles f line rvc (To i name) slots e = (line, [], e, tt)
await_in_bundles f line rvc (High rd name) slots e = (line, put_back (is_stack f rd), e, bare_pair (is_stack f rd))
await_in_bundles f line rvc (Low rd name) slots e = (line, put_back (is_stack f rd), e, bare_pair (is_stack f rd))
await_in_bundles f line rvc (Base rd name) slots e = (line, put_back (is_stack f rd), e, bare_pair (is_stack f rd))

await_in_words : (f : Format) (line : ℕ) (rvc step : Bool) (body : Body) (slots : List BundleSlot) → words_expansion.IsExpansionOf f line rvc step body slots → AwaitName body slots
await_in_words f line rvc step (Plain i) slots e = bare_plain f (is_move i && not step) rvc step i slots e
await_in_words f line rvc step (To i name) slots e = (line, [], e, tt)
await_in_words f line rvc step (High rd name) slots e = (line, mask_after f (Some rd), e, bare_mask f (Some rd))
await_in_words f line rvc step (Low rd name) slots e = (line, mask_after f (Some rd), e, bare_mask f (Some rd))
await_in_words f line rvc step (Base rd name) slots e = (line, mask_after f (Some rd), e, bare_mask f (Some rd))

aimed : (j i : Instr) (z : ℤ) (count name : ℕ) → IsBody count (To j name) → i ≡ with_offset z j → IsAimed j i
aimed (Jal rd offset) i z count name b e = (z, e)
aimed (Branch cond rs1 rs2 offset) i z count name b e = (z, e)
aimed _ i z count name b e = absurd b.1

record Becomes (at : Bases) (names : List PlacedName) (here : ℕ) (body : Body) (slots : List BundleSlot) : Type 0 where
  instr : Instr
  may_be : MayBe body instr
  goes : AreResolvedTo at names here instr slots

-- the instruction that the first of the slots becomes, where the others wait for no name
first_waits : (at : Bases) (names : List PlacedName) (here : ℕ) (x : BundleSlot) (rest slots : List BundleSlot) (bytes : List ℕ) → slots ≡ x ∷ rest → AreBare rest → ((i : Instr) → resolved at names here x ≡ Some i → IsResolvedTo at names here i x) → AreSlots at names here slots bytes
    → (i : Instr) × (resolved at names here x ≡ Some i) × AreResolvedTo at names here i slots
first_waits at names here x rest slots bytes e bare goes h =
    let g = subst (λ (l : List BundleSlot). AreSlots at names here l bytes) e h in
    (g.2.instr, g.2.resolves, subst (λ (l : List BundleSlot). AreResolvedTo at names here g.2.instr l) (sym e) (goes g.2.instr g.2.resolves, bare_goes at names (here + slot_size x) g.2.instr rest bare))

becomes : (at : Bases) (names : List PlacedName) (here count : ℕ) (body : Body) (slots : List BundleSlot) (bytes : List ℕ)
    → IsBody count body → AwaitName body slots → AreSlots at names here slots bytes → Becomes at names here body slots
becomes at names here count (Plain i) slots bytes b w h = record { instr = i; may_be = refl; goes = bare_goes at names here i slots w }
becomes at names here count (To j name) slots bytes b (line, rest, e, bare) h =
    let w = first_waits at names here (Jump j name line) rest slots bytes e bare (λ i r. r) h in
    let m = made (λ to. with_offset (pos to -ℤ pos here) j) (target_at at names name) w.0 w.1 in
    record { instr = w.0; may_be = aimed j w.0 (pos m.0 -ℤ pos here) count name b m.2; goes = w.2 }
becomes at names here count (High rd name) slots bytes b (line, rest, e, bare) h =
    let w = first_waits at names here (Upper rd name line) rest slots bytes e bare (λ i r. r) h in
    let m = made (λ address. Lui rd (upper (pos address))) (value_at at names name) w.0 w.1 in
    record { instr = w.0; may_be = (upper (pos m.0), m.2); goes = w.2 }
becomes at names here count (Low rd name) slots bytes b (line, rest, e, bare) h =
    let w = first_waits at names here (Lower rd name line) rest slots bytes e bare (λ i r. r) h in
    let m = made (λ address. OpImm Addi rd rd (lower (pos address))) (value_at at names name) w.0 w.1 in
    record { instr = w.0; may_be = (lower (pos m.0), m.2); goes = w.2 }
becomes at names here count (Base rd name) slots bytes b (line, rest, e, bare) h =
    let w = first_waits at names here (Region rd name line) rest slots bytes e bare (λ i r. r) h in
    let m = made (λ base. Op Add rd rd base) (base_at names name) w.0 w.1 in
    record {
      instr = w.0;
      may_be = elim (which_base names name m.0 m.1) [ inl d ↦ inl (m.2 ∙ ap (λ base. Op Add rd rd base) d) | inr c ↦ inr (m.2 ∙ ap (λ base. Op Add rd rd base) c) ];
      goes = w.2;
    }

-- ---- where it stands in the code

-- slots among those of the code: their bytes, and that they stand where a memory holds the code
record AreThere (at : Bases) (names : List PlacedName) (q : Part) (lead own : List BundleSlot) : Type 0 where
  bytes : List ℕ
  slots : AreSlots at names (q.start + size_of lead) own bytes
  stand :
      (i : Instr) → AreResolvedTo at names (q.start + size_of lead) i own → (s : State) → Holds s.memory q.code_base (length q.code) q.code
      → s.hart.pc ≡ q.start + size_of lead → SlotsStand i s own

are_there : (given : List Place) → (number : ℕ) (p : Placement) (q : Part) (lead own after : List BundleSlot) → IsLinked given number p q → slots_of p.bundles ≡ lead ++ (own ++ after) → AreThere (bases_of given number p) p.names q lead own
are_there given number p q lead own after linked placed =
    let b = bases_of given number p in
    let fill = replicate linked.code.fill c_ebreak in
    let stubs = repeat (length p.gates) (stub_of p.format) in
    let here = b.start + size_of lead in
    let grouped : slots_of p.bundles ++ fill ≡ lead ++ (own ++ (after ++ fill)) =
    ap (λ v. v ++ fill) placed ∙ append_assoc lead (own ++ after) fill ∙ ap (λ v. lead ++ v) (append_assoc own after fill) in
    let one : AreCut b p.names b.start lead (own ++ (after ++ fill)) linked.code.bytes =
    cut b p.names b.start lead (own ++ (after ++ fill)) linked.code.bytes
    (subst (λ (l : List BundleSlot). AreSlots b p.names b.start l linked.code.bytes) grouped linked.code.slots) in
    let two : AreCut b p.names here own (after ++ fill) one.rest = cut b p.names here own (after ++ fill) one.rest one.second in
    let all : q.code ≡ (stubs ++ one.front) ++ (two.front ++ two.rest) = linked.code.code_is ∙ ap (λ v. stubs ++ v) (one.whole ∙ ap (λ v. one.front ++ v) two.whole) ∙ sym (append_assoc stubs one.front (two.front ++ two.rest)) in
    let front_size : length (stubs ++ one.front) ≡ 16 * length p.gates + size_of lead =
    length-append stubs one.front
    ∙ (let a = length_stubs p.format (length p.gates) in
    let c = slots_length b p.names b.start lead one.front one.first in
    omega arith) in
    let start_is : q.start ≡ b.start = ap (λ (r : Part). r.start) linked.is in
    let place : here ≡ q.start + size_of lead = ap (λ n. n + size_of lead) (sym start_is) in
    let start : q.start ≡ q.code_base + 16 * length p.gates = (let c : q.code_base ≡ b.code = ap (λ (r : Part). r.code_base) linked.is in omega arith) in
    record {
      bytes = two.front;
      slots = subst (λ (n : ℕ). AreSlots b p.names n own two.front) place two.first;
      stand = λ i goes t code pc.
          let there : t.hart.pc ≡ q.code_base + length (stubs ++ one.front) = omega arith in
          let held = held_part t.memory q.code_base t.hart.pc (stubs ++ one.front) two.front two.rest q.code (λ k. omega arith) all code in
          slots_there b p.names here i own two.front t two.first (subst (λ (n : ℕ). AreResolvedTo b p.names n i own) (sym place) goes) held;
    }

-- ---- an item

runs_at : (given : List Place) → (number : ℕ) (p : Placement) (q : Part) (x : Item) (count : ℕ) (lead own after : List BundleSlot) (offset : ℕ) → IsBody count x.body → IsRightPart q → IsLinked given number p q
    → slots_of p.bundles ≡ lead ++ (own ++ after) → size_of lead ≡ offset → AwaitName x.body own → RunsAt given number p q x own offset
runs_at given number p q x count lead own after offset body right linked placed size waits =
    let b = bases_of given number p in
    let there = are_there given number p q lead own after linked placed in
    let is = becomes b p.names (q.start + size_of lead) count x.body own there.bytes body waits there.slots in
    let place : q.start + size_of lead ≡ q.start + offset = ap (λ n. q.start + n) size in
    record {
      instr = is.instr;
      may_be = is.may_be;
      resolves = subst (λ (n : ℕ). AreResolvedTo b p.names n is.instr own) place is.goes;
      regions = record { format = q.format; code_placed = right.code_placed; data_placed = right.data_placed };
      masked_base = right.one_bit;
      stands = λ t code pc. there.stand is.instr is.goes t code (pc ∙ sym place);
    }

bundled_runs_as : (given : List Place) → (number : ℕ) (s : Sandbox) (p : Placement) (q : Part) (k : ℕ) (x : Item) → IsBody (length s.names) x.body → IsRightPart q → IsLinked given number p q
    → StandsTransparent s.format s.items p k x → RunsAs given number s.format s.items p q k x
bundled_runs_as given number s p q k x body right linked st =
    let nops = replicate st.nops c_nop in
    let size : size_of (st.before ++ nops) ≡ size_of st.before + 2 * st.nops =
    (let d = size_of-append st.before nops in
    let e = size_nops st.nops in
    omega arith) in
    let waits = await_in_bundles s.format x.line x.rvc x.body st.expanded st.next.expansion in
    (st, runs_at given number p q x (length s.names) (st.before ++ nops) st.expanded st.after (size_of st.before + 2 * st.nops) body right linked (st.placed ∙ sym (append_assoc st.before nops (st.expanded ++ st.after))) size waits)

words_run_as : (given : List Place) → (number : ℕ) (s : Sandbox) (p : Placement) (q : Part) (k : ℕ) (x : Item) → IsBody (length s.names) x.body → IsRightPart q → IsLinked given number p q
    → words.StandsTransparent s.format s.items p k x → WordRunsAs given number s.format s.items p q k x
words_run_as given number s p q k x body right linked st =
    let step = is_step_before_use x (drop (k + 1) s.items) in
    let laid = body_laid s.format x.line x.rvc step x.body st.expanded st.own st.is_expansion st.stands in
    (st, runs_at given number p q x (length s.names) st.before st.own st.after (size_of st.before) body right linked st.placed refl (await_in_words s.format x.line laid.0 step x.body st.own laid.1))

item_runs_as : (given : List Place) → (number : ℕ) (s : Sandbox) (p : Placement) (q : Part) (k : ℕ) (x : Item) → IsSandbox s → IsRewritten s p → IsRightPart q
    → IsLinked given number p q → slice_get s.items k ≡ Some x → RunsAsIn given number s.format s.items p q k x
item_runs_as given number s p q k x sandbox r right linked at = by (has_words s.format) (rewritten_is_transparent s p r k x at)
  where
    body : IsBody (length s.names) x.body
    body = (sandbox.items k x at).body

    by : (w : Bool) → MatchBool w (words.StandsTransparent s.format s.items p k x) (StandsTransparent s.format s.items p k x) → MatchBool w (WordRunsAs given number s.format s.items p q k x) (RunsAs given number s.format s.items p q k x)
    by true st = words_run_as given number s p q k x body right linked st
    by false st = bundled_runs_as given number s p q k x body right linked st

pub runs_as : LinkedRunsAs
runs_as given number s p q k x sandbox r placed linked at =
    item_runs_as given number s p q k x sandbox r (linked_right given number p q placed linked) linked at

-- ---- a build

sandboxes_run_as : (given : List Place) → (number : ℕ) (source : List Sandbox) (placed : List Placement) (parts : List Part) → All IsSandbox source → AreRewritten source placed
    → All IsRightPart parts → AreLinkedFrom given number placed parts → SandboxesRunAs given number source parts
sandboxes_run_as given number [] [] parts sandboxes rewritten right linked = linked
sandboxes_run_as given number [] (p ∷ placed) parts sandboxes rewritten right linked = absurd rewritten
sandboxes_run_as given number (s ∷ source) [] parts sandboxes rewritten right linked = absurd rewritten
sandboxes_run_as given number (s ∷ source) (p ∷ placed) [] sandboxes rewritten right linked = absurd linked
sandboxes_run_as given number (s ∷ source) (p ∷ placed) (q ∷ parts) sandboxes rewritten right linked = (
  record {
    placed = p;
    placement = rewritten.0.placement;
    linked = linked.0;
    each = λ k x at. item_runs_as given number s p q k x (All-head IsSandbox s source sandboxes) rewritten.0 (All-head IsRightPart q parts right) linked.0 at;
  },
  sandboxes_run_as given (number + 1) source placed parts (All-tail IsSandbox s source sandboxes) rewritten.1 (All-tail IsRightPart q parts right) linked.1,
)

pub images_run_as : LinkedImagesRunAs
images_run_as given source placed bytes right rewritten image =
    let layout = image.image.layout in
    record {
      parts = image.parts;
      image = image.image;
      each = sandboxes_run_as given 0 source placed image.parts right.each rewritten layout.right.each image.linked.each;
    }
