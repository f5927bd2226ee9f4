-- The expansions of items in words break no rule, as they are laid: before each of them nothing is
-- owed, or it is the use of the step before it.
use Rattle.sfi_link.proofs.Prelude.{◌≡◌, ◌⊎◌, ℕ, ◌+◌, ◌^◌, ◌<◌, ◌≤◌, List, [], ◌∷◌, ◌++◌, map, Option, Some, None, Bool, true, false, refl, sym, ap, ◌∙◌, subst, arith, inl, inr, append-nil, ◌==◌, ◌&&◌, ◌||◌, not, or_parts, and_parts, eqb-true, ℤ, pos, negsuc, ◌-ℤ◌, MatchBool, Addi, All, All-head, All-tail, Instr, Op, OpImm, Load, Store, Branch, Jal, Jalr, Lui, Auipc, Fence, Ecall, Ebreak, IsBody, upper, lower, BundleSlot, Wide, Upper, Lower, Region, PlacedName, slot_size, size_of, Bases, target_at, value_at, base_at, with_offset, resolved, made_of}
use Rattle.std.specs.Prelude.{if◌then◌else◌}
use Rattle.std.proofs.lemmas.Bool.{true≢false, not-false, or_right}
use Rattle.std.proofs.lemmas.List.{map-append}
use Rattle.rv_word.specs.Spelling.{offset_by}
use Rattle.rv_word.specs.Outlines.{destination}
use Rattle.rv_word.specs.declared.instr.RegOp.TheVariants.{Add, And, Or}
use Rattle.rv_word.specs.declared.instr.LoadKind.{LoadKind}
use Rattle.rv_word.specs.declared.instr.StoreWidth.{StoreWidth}
use Rattle.sfi_source.specs.declared.item.Body.{Body}
use Rattle.sfi_source.specs.declared.item.Body.TheVariants.{Plain, To, High, Low, Base}
use Rattle.sfi_source.specs.declared.item.Item.{Item}
use Rattle.sfi_formats.specs.declared.format.Format.{Format}
use Rattle.sfi_formats.specs.Formats.{is_data_register, is_data_register_in, has_words, has_single_mask}
use Rattle.sfi_rewrite.specs.Expansion.{IsAlone, is_withheld, names_withheld, item_names_withheld, is_ecall}
use Rattle.sfi_rewrite.specs.Rewriting.{IsPermitted}
use Rattle.sfi_rewrite.specs.words.Expansion.{is_made_on_x26, data_mask, IsAround, IsExpansionOf, IsExpansion, mask_after, is_step_to, is_step_before_use, is_zero, is_move, moved, is_barred_jump, Marked, marked, AreExpanded}
use Rattle.sfi_rewrite.specs.words.Transparency.{AreAsLaid}
use Rattle.sfi_rules.specs.declared.owed.Owed.{Owed}
use Rattle.sfi_rules.specs.declared.owed.Owed.TheVariants as kind
use Rattle.sfi_rules.specs.Readings.{is_jump}
use Rattle.sfi_pairs.specs.Pairs.{uses}
use Rattle.sfi_rules.specs.words.Rules.{is_word_start, may_access, places, masks, breaks_ecall, left}
use Rattle.sfi_rewrite.proofs.Sizes.{size_of-append}
use Rattle.sfi_rewrite.proofs.WordKept.{unbarred}
use Rattle.sfi_rewrite.proofs.Standing.{apart, body_laid, slots_of_marked}
use Rattle.sfi_link.proofs.CleanPlaces.{is_calm, lands, made}
use Rattle.sfi_link.proofs.WordSlots.{IsLawful, Meets, lawful_by, meets_by, IsRight, AreRight, right_append, right_known, right_alone, mask_right, after_right}
use Rattle.sfi_link.proofs.WordOwing.{of_data, IsFree, free, neither, free_one, IsFreeOne, unreserved, no_offset, IsMaskOwed, Owes, owing, owing_as_named}

-- ---- names

-- each name to which a jump may lead is a word's start of the region
abbrev pub AreWordStarts : ℕ → ℕ → Bases → List PlacedName → Type 0
AreWordStarts base size at names = (place to : ℕ) → target_at at names place ≡ Some to → (is_word_start base size to ≡ true) × (to < 2 ^ 32)

-- ---- what is owed before an item

-- the item is a use of the data register d
abbrev pub IsUse : ℕ → Body → Type 0
IsUse d (Plain i) = (is_data_register d ≡ true) × (uses d i ≡ true)
IsUse d _ = ⊥

-- nothing is owed before the item, or a use that it is
abbrev pub IsOwedTo : Owed → Body → Type 0
IsOwedTo owed body = (owed ≡ kind.Nothing) ⊎ ((d : ℕ) × (owed ≡ kind.MaskOrUse d) × IsUse d body)

abbrev pub IsOwedBefore : Owed → List Item → Type 0
IsOwedBefore owed [] = owed ≡ kind.Nothing
IsOwedBefore owed (x ∷ items) = IsOwedTo owed x.body

-- what is owed after an item, which is a step or not
abbrev pub owed_past : Bool → Body → Owed
owed_past true (Plain (OpImm op d a imm)) = kind.MaskOrUse d
owed_past _ body = kind.Nothing

-- ---- an instruction as it is

-- what is calm breaks no rule wherever it stands, where it writes what is free
calm_lawful : (f : Format) (base size here : ℕ) (i : Instr) → is_calm i ≡ true → IsFreeOne (destination i) → IsLawful f base size here i
calm_lawful f base size here (Op op rd rs1 rs2) c h = lawful_by (unreserved f (Some rd) h) refl refl refl (no_offset f (Op op rd rs1 rs2) (Some rd) refl h)
calm_lawful f base size here (OpImm op rd rs1 imm) c h = lawful_by (unreserved f (Some rd) h) refl refl refl (no_offset f (OpImm op rd rs1 imm) (Some rd) refl h)
calm_lawful f base size here (Lui rd imm) c h = lawful_by (unreserved f (Some rd) h) refl refl refl (no_offset f (Lui rd imm) (Some rd) refl h)
calm_lawful f base size here (Auipc rd imm) c h = lawful_by (unreserved f (Some rd) h) refl refl refl (no_offset f (Auipc rd imm) (Some rd) refl h)
calm_lawful f base size here (Fence imm rd rs1) c h = lawful_by refl refl refl refl refl
calm_lawful f base size here Ebreak c h = lawful_by refl refl refl refl refl
calm_lawful f base size here _ c h = absurd (true≢false (sym c))

calm_no_ecall : (i : Instr) → is_calm i ≡ true → (gate : Bool) → breaks_ecall gate i ≡ false
calm_no_ecall Ecall c gate = absurd (true≢false (sym c))
calm_no_ecall _ c gate = refl

-- where nothing is owed, or all of it is paid
paid : (f : Format) (owed : Owed) (i : Instr) (to : Option ℕ) → left f owed i ≡ Some kind.Nothing → (w : Owes f i to) → Meets f owed i w.own
paid f owed i to l w = meets_by kind.Nothing w.own l w.owes refl

-- only a load or a store is a use
abbrev is_access : Instr → Bool
is_access (Load kind rd a imm) = true
is_access (Store width a rs2 imm) = true
is_access _ = false

use_accesses : (d : ℕ) (i : Instr) → uses d i ≡ true → is_access i ≡ true
use_accesses d (Load kind rd a imm) h = refl
use_accesses d (Store width a rs2 imm) h = refl
use_accesses d _ h = absurd (true≢false (sym h))

-- before an instruction that is neither a load nor a store nothing is owed
nothing_before : (owed : Owed) (i : Instr) → is_access i ≡ false → IsOwedTo owed (Plain i) → owed ≡ kind.Nothing
nothing_before owed i n (inl e) = e
nothing_before owed i n (inr u) = absurd (true≢false (sym (use_accesses u.0 i u.2.1) ∙ n))

-- ---- an access

-- a use pays for it
use_pays : (f : Format) (d : ℕ) (i : Instr) → masks f d i ≡ false → uses d i ≡ true → left f (kind.MaskOrUse d) i ≡ Some kind.Nothing
use_pays f d i m u = rw (m, u) refl

-- an access, for each register that it may be on
record IsAccess (f : Format) (base size here : ℕ) (g : ℕ → Instr) (to : Option ℕ) : Type 0 where
  lawful : (b : ℕ) → may_access f b ≡ true → IsLawful f base size here (g b)
  no_ecall : (b : ℕ) (gate : Bool) → breaks_ecall gate (g b) ≡ false
  owes : (b : ℕ) → Owes f (g b) to
  masks_none : (b d : ℕ) → masks f d (g b) ≡ false
  is_on : (b d : ℕ) → uses d (g b) ≡ true → b ≡ d

-- nothing is owed before an access on another register than a data register
unowed_base : (f : Format) (base size here : ℕ) (owed : Owed) (g : ℕ → Instr) (to : Option ℕ) (a : ℕ) → IsAccess f base size here g to → is_data_register a ≡ false → IsOwedTo owed (Plain (g a)) → owed ≡ kind.Nothing
unowed_base f base size here owed g to a is typed (inl e) = e
unowed_base f base size here owed g to a is typed (inr u) = absurd (true≢false (sym u.2.0 ∙ sym (ap is_data_register (is.is_on a u.0 u.2.1)) ∙ typed))

access_right : (f : Format) (base size : ℕ) (at : Bases) (names : List PlacedName) (here : ℕ) (owed : Owed) (rvc : Bool) (g : ℕ → Instr) (to : Option ℕ) (a : ℕ) (data_one made : Bool) (confined slots : List BundleSlot)
    → ((there : ℕ) → IsAccess f base size there g to) → is_data_register a ≡ data_one → is_made_on_x26 f a ≡ made → IsOwedTo owed (Plain (g a))
    → IsAlone rvc (g (if data_one then a else if made then 26 else 29)) confined
    → slots ≡ (if data_one || made then [] else data_mask f 29 a) ++ (confined ++ mask_after f to) → AreRight f base size at names here owed slots kind.Nothing
access_right f base size at names here owed rvc g to a true made confined slots is typed z o alone e =
    let x = is here in
    let pays : left f owed (g a) ≡ Some kind.Nothing = elim o [
      | inl none ↦ ap (λ o. left f o (g a)) none
      | inr u ↦ ap (λ p. left f p (g a)) u.1 ∙ use_pays f u.0 (g a) (x.masks_none a u.0) u.2.1
    ] in
    let w = x.owes a in
    let one = right_alone f base size at names here owed w.own rvc (g a) confined alone (record { no_ecall = x.no_ecall a; lawful = x.lawful a (rw typed refl); meets = paid f owed (g a) to pays w }) in
    subst (λ v. AreRight f base size at names here owed v kind.Nothing) (sym e)
    (right_append f base size at names here owed w.own kind.Nothing confined (mask_after f to) one (after_right f base size at names (here + size_of confined) w.own to w.is))
access_right f base size at names here owed rvc g to a false true confined slots is typed z o alone e =
    let x = is here in
    let w = x.owes 26 in
    let one = right_alone f base size at names here owed w.own rvc (g 26) confined alone (record { no_ecall = x.no_ecall 26; lawful = x.lawful 26 (or_right (is_data_register_in f 26) true refl); meets = paid f owed (g 26) to (ap (λ o. left f o (g 26)) (unowed_base f base size here owed g to a (is here) typed o)) w }) in
    subst (λ v. AreRight f base size at names here owed v kind.Nothing) (sym e)
    (right_append f base size at names here owed w.own kind.Nothing confined (mask_after f to) one (after_right f base size at names (here + size_of confined) w.own to w.is))
access_right f base size at names here owed rvc g to a false false confined slots is typed z o alone e =
    let after_mask = here + size_of (data_mask f 29 a) in
    let x = is after_mask in
    let w = x.owes 29 in
    let first = subst (λ p. AreRight f base size at names here p (data_mask f 29 a) kind.Nothing) (sym (unowed_base f base size here owed g to a (is here) typed o)) (mask_right f base size at names here 29 a refl) in
    let one = right_alone f base size at names after_mask kind.Nothing w.own rvc (g 29) confined alone (record { no_ecall = x.no_ecall 29; lawful = x.lawful 29 refl; meets = paid f kind.Nothing (g 29) to refl w }) in
    subst (λ v. AreRight f base size at names here owed v kind.Nothing) (sym e)
    (right_append f base size at names here owed kind.Nothing kind.Nothing (data_mask f 29 a) (confined ++ mask_after f to) first
    (right_append f base size at names after_mask kind.Nothing w.own kind.Nothing confined (mask_after f to) one (after_right f base size at names (after_mask + size_of confined) w.own to w.is)))

load_access : (f : Format) (base size here : ℕ) (kind_of : LoadKind) (rd : ℕ) (imm : ℤ) → IsFree rd → IsAccess f base size here (λ b. Load kind_of rd b imm) (Some rd)
load_access f base size here kind_of rd imm h = record {
  lawful = λ b may. lawful_by (unreserved f (Some rd) h) (ap not may) refl refl (no_offset f (Load kind_of rd b imm) (Some rd) refl h);
  no_ecall = λ b gate. refl;
  owes = λ b. owing f (Load kind_of rd b imm) (Some rd) refl (h, neither (has_single_mask f) refl refl, λ typed. refl);
  masks_none = λ b d. neither (has_single_mask f) refl refl;
  is_on = λ b d u. eqb-true b d (and_parts (b == d) _ (and_parts _ (not (rd == 0)) u).0).0;
}

store_access : (f : Format) (base size here : ℕ) (width : StoreWidth) (rs2 : ℕ) (imm : ℤ) → IsAccess f base size here (λ b. Store width b rs2 imm) None
store_access f base size here width rs2 imm = record {
  lawful = λ b may. lawful_by refl (ap not may) refl refl refl;
  no_ecall = λ b gate. refl;
  owes = λ b. owing f (Store width b rs2 imm) None refl tt;
  masks_none = λ b d. neither (has_single_mask f) refl refl;
  is_on = λ b d u. eqb-true b d (and_parts (b == d) _ u).0;
}

-- ---- an indirect jump

-- the pair by which x30 becomes a word's start, and the jump by it
jump_right : (f : Format) (base size : ℕ) (at : Bases) (names : List PlacedName) (here rd a : ℕ) (imm : ℤ) (slots : List BundleSlot) → IsFree rd → is_data_register rd ≡ false → imm ≡ pos 0
    → slots ≡ Wide (Op And 30 a 25) ∷ Wide (Op Or 30 30 24) ∷ Wide (Jalr rd 30 imm) ∷ mask_after f (Some rd) → AreRight f base size at names here kind.Nothing slots kind.Nothing
jump_right f base size at names here rd a imm slots h untyped zero_is e =
    let w = owing f (Jalr rd 30 (pos 0)) (Some rd) refl (h, neither (has_single_mask f) refl refl, λ typed. absurd (true≢false (sym typed ∙ untyped))) in
    subst (λ v. AreRight f base size at names here kind.Nothing v kind.Nothing) (sym (e ∙ ap (λ z. Wide (Op And 30 a 25) ∷ Wide (Op Or 30 30 24) ∷ Wide (Jalr rd 30 z) ∷ mask_after f (Some rd)) zero_is))
    (right_known f base size at names here kind.Nothing kind.Code kind.Nothing (Wide (Op And 30 a 25)) (Op And 30 a 25) (Wide (Op Or 30 30 24) ∷ Wide (Jalr rd 30 (pos 0)) ∷ mask_after f (Some rd)) refl
    (record { no_ecall = λ gate. refl; lawful = lawful_by refl refl refl refl refl; meets = meets_by kind.Nothing kind.Code refl refl refl })
    (right_known f base size at names (here + 4) kind.Code kind.Nothing kind.Nothing (Wide (Op Or 30 30 24)) (Op Or 30 30 24) (Wide (Jalr rd 30 (pos 0)) ∷ mask_after f (Some rd)) refl
    (record { no_ecall = λ gate. refl; lawful = lawful_by refl refl refl refl refl; meets = meets_by kind.Nothing kind.Nothing refl refl refl })
    (right_known f base size at names (here + 4 + 4) kind.Nothing w.own kind.Nothing (Wide (Jalr rd 30 (pos 0))) (Jalr rd 30 (pos 0)) (mask_after f (Some rd)) refl
    (record {
      no_ecall = λ gate. refl;
      lawful = lawful_by (unreserved f (Some rd) h) refl refl refl (no_offset f (Jalr rd 30 (pos 0)) (Some rd) refl h);
      meets = paid f kind.Nothing (Jalr rd 30 (pos 0)) (Some rd) refl w;
    })
    (after_right f base size at names (here + 4 + 4 + 4) w.own (Some rd) w.is))))

-- ---- an instruction

-- one that stays as it is, before the mask of what it writes
calm_right : (f : Format) (base size : ℕ) (at : Bases) (names : List PlacedName) (here : ℕ) (owed : Owed) (rvc : Bool) (i : Instr) (confined slots : List BundleSlot) → is_calm i ≡ true → is_access i ≡ false → has_words f ≡ true → names_withheld f i ≡ false
    → is_barred_jump (Plain i) ≡ false → IsOwedTo owed (Plain i) → IsAlone rvc i confined → slots ≡ confined ++ mask_after f (destination i) → AreRight f base size at names here owed slots kind.Nothing
calm_right f base size at names here owed rvc i confined slots c access is_in_words n b o alone e =
    let w = owing_as_named f i is_in_words n b in
    let one = right_alone f base size at names here owed w.own rvc i confined alone
    (record { no_ecall = calm_no_ecall i c; lawful = calm_lawful f base size here i c (free_one f i is_in_words n); meets = paid f owed i (destination i) (ap (λ o. left f o i) (nothing_before owed i access o)) w }) in
    subst (λ v. AreRight f base size at names here owed v kind.Nothing) (sym e)
    (right_append f base size at names here owed w.own kind.Nothing confined (mask_after f (destination i)) one (after_right f base size at names (here + size_of confined) w.own (destination i) w.is))

zero_is : (imm : ℤ) → is_zero imm ≡ true → imm ≡ pos 0
zero_is (pos n) h = ap pos (eqb-true n 0 h)
zero_is (negsuc n) h = absurd (true≢false (sym h))

-- of no step
around_right : (f : Format) (base size : ℕ) (at : Bases) (names : List PlacedName) (here : ℕ) (owed : Owed) (rvc : Bool) (i : Instr) (count : ℕ) (slots : List BundleSlot) → IsOwedTo owed (Plain i) → IsBody count (Plain i) → has_words f ≡ true → names_withheld f i ≡ false
    → is_ecall (Plain i) ≡ false → is_barred_jump (Plain i) ≡ false → IsAround f rvc false i slots → AreRight f base size at names here owed slots kind.Nothing
around_right f base size at names here owed rvc (Load k rd a imm) count slots o body is_in_words n c b x =
    access_right f base size at names here owed rvc (λ r. Load k rd r imm) (Some rd) a (is_data_register a) (is_made_on_x26 f a) x.0 slots (λ there. load_access f base size there k rd imm (free f rd is_in_words (or_parts (is_withheld f rd) (is_withheld f a) n).0)) refl refl o x.1 x.2
around_right f base size at names here owed rvc (Store width a rs2 imm) count slots o body is_in_words n c b x =
    access_right f base size at names here owed rvc (λ r. Store width r rs2 imm) None a (is_data_register a) (is_made_on_x26 f a) x.0 slots (λ there. store_access f base size there width rs2 imm) refl refl o x.1 x.2
around_right f base size at names here owed rvc (Jalr rd a imm) count slots o body is_in_words n c b x =
    let parts = or_parts (is_data_register rd) (not (is_zero imm)) b in
    let none = nothing_before owed (Jalr rd a imm) refl o in
    subst (λ p. AreRight f base size at names here p slots kind.Nothing) (sym none)
    (jump_right f base size at names here rd a imm slots (free f rd is_in_words (or_parts (is_withheld f rd) (is_withheld f a) n).0) parts.0 (zero_is imm (not-false (is_zero imm) parts.1))
    (x.2 ∙ ap (λ v. Wide (Op And 30 a 25) ∷ Wide (Op Or 30 30 24) ∷ (v ++ mask_after f (Some rd))) x.1))
around_right f base size at names here owed rvc Ecall count slots o body is_in_words n c b x = absurd (true≢false c)
around_right f base size at names here owed rvc (Branch cond rs1 rs2 offset) count slots o body is_in_words n c b x = absurd body.1
around_right f base size at names here owed rvc (Jal rd offset) count slots o body is_in_words n c b x = absurd body.1
around_right f base size at names here owed rvc i count slots o body is_in_words n c b x = calm_right f base size at names here owed rvc i x.0 slots refl refl is_in_words n b o x.1 x.2

-- a step leaves its mask or a use of it owed
step_meets : (f : Format) (d : ℕ) (k : ℤ) → is_data_register d ≡ true → Meets f kind.Nothing (OpImm Addi d d k) (kind.MaskOrUse d)
step_meets f d k typed = by (has_single_mask f) refl
  where
    by : (one : Bool) → has_single_mask f ≡ one → Meets f kind.Nothing (OpImm Addi d d k) (kind.MaskOrUse d)
    by true e = of_data (λ r. Meets f kind.Nothing (OpImm Addi r r k) (kind.MaskOrUse r)) (meets_by kind.Nothing (kind.MaskOrUse 2) refl (rw e refl) refl) (meets_by kind.Nothing (kind.MaskOrUse 3) refl (rw e refl) refl)
        (meets_by kind.Nothing (kind.MaskOrUse 4) refl (rw e refl) refl) (meets_by kind.Nothing (kind.MaskOrUse 29) refl (rw e refl) refl) d typed
    by false e = of_data (λ r. Meets f kind.Nothing (OpImm Addi r r k) (kind.MaskOrUse r)) (meets_by kind.Nothing (kind.MaskOrUse 2) refl (rw e refl) refl) (meets_by kind.Nothing (kind.MaskOrUse 3) refl (rw e refl) refl)
        (meets_by kind.Nothing (kind.MaskOrUse 4) refl (rw e refl) refl) (meets_by kind.Nothing (kind.MaskOrUse 29) refl (rw e refl) refl) d typed

-- what a step is
pub record IsStep (body : Body) : Type 0 where
  pub data_one : ℕ
  pub by : ℤ
  pub typed : is_data_register data_one ≡ true
  pub is : body ≡ Plain (OpImm Addi data_one data_one by)

step_right : (f : Format) (base size : ℕ) (at : Bases) (names : List PlacedName) (here : ℕ) (owed : Owed) (rvc : Bool) (d : ℕ) (k : ℤ) (slots : List BundleSlot) → IsOwedTo owed (Plain (OpImm Addi d d k)) → is_data_register d ≡ true → has_words f ≡ true → names_withheld f (OpImm Addi d d k) ≡ false
    → IsAround f rvc true (OpImm Addi d d k) slots → AreRight f base size at names here owed slots (kind.MaskOrUse d)
step_right f base size at names here owed rvc d k slots o typed is_in_words n x =
    let none = nothing_before owed (OpImm Addi d d k) refl o in
    let one = right_alone f base size at names here kind.Nothing (kind.MaskOrUse d) rvc (OpImm Addi d d k) x.0 x.1
    (record { no_ecall = λ gate. refl; lawful = calm_lawful f base size here (OpImm Addi d d k) refl (free_one f (OpImm Addi d d k) is_in_words n); meets = step_meets f d k typed }) in
    subst (λ p. AreRight f base size at names here p slots (kind.MaskOrUse d)) (sym none)
    (subst (λ v. AreRight f base size at names here kind.Nothing v (kind.MaskOrUse d)) (sym (x.2 ∙ append-nil x.0)) one)

-- a move by the mask alone
move_right : (f : Format) (base size : ℕ) (at : Bases) (names : List PlacedName) (here : ℕ) (owed : Owed) (i : Instr) → IsOwedTo owed (Plain i) → is_move i ≡ true → AreRight f base size at names here owed (moved f i) kind.Nothing
move_right f base size at names here owed (OpImm Addi d a imm) o m =
    subst (λ p. AreRight f base size at names here p (data_mask f d a) kind.Nothing) (sym (nothing_before owed (OpImm Addi d a imm) refl o)) (mask_right f base size at names here d a (and_parts (is_data_register d) (is_zero imm) m).0)
move_right f base size at names here owed (Op Add d b a) o m =
    subst (λ p. AreRight f base size at names here p (data_mask f d a) kind.Nothing) (sym (nothing_before owed (Op Add d b a) refl o)) (mask_right f base size at names here d a (and_parts (is_data_register d) (b == 0) m).0)
move_right f base size at names here owed _ o m = absurd (true≢false (sym m))

plain_right : (f : Format) (base size : ℕ) (at : Bases) (names : List PlacedName) (here : ℕ) (owed : Owed) (moves rvc step : Bool) (i : Instr) (count : ℕ) (slots : List BundleSlot) → (is_move i && not step) ≡ moves → IsOwedTo owed (Plain i) → IsBody count (Plain i)
    → has_words f ≡ true → names_withheld f i ≡ false → is_ecall (Plain i) ≡ false → is_barred_jump (Plain i) ≡ false → (step ≡ true → IsStep (Plain i)) → MatchBool moves (slots ≡ moved f i) (IsAround f rvc step i slots)
    → AreRight f base size at names here owed slots (owed_past step (Plain i))
plain_right f base size at names here owed true rvc true i count slots m o body is_in_words n c b s x = absurd (true≢false (sym (and_parts (is_move i) false m).1))
plain_right f base size at names here owed true rvc false i count slots m o body is_in_words n c b s x =
    subst (λ v. AreRight f base size at names here owed v kind.Nothing) (sym x) (move_right f base size at names here owed i o (and_parts (is_move i) true m).0)
plain_right f base size at names here owed false rvc true i count slots m o body is_in_words n c b s x = as_step (s refl)
  where
    plain_of : Instr → Body → Instr
    plain_of j (Plain k) = k
    plain_of j _ = j

    as_step : IsStep (Plain i) → AreRight f base size at names here owed slots (owed_past true (Plain i))
    as_step t =
        let same : i ≡ OpImm Addi t.data_one t.data_one t.by = ap (plain_of i) t.is in
        let P : Instr → Type 0 = λ j. IsOwedTo owed (Plain j) → names_withheld f j ≡ false → IsAround f rvc true j slots → AreRight f base size at names here owed slots (owed_past true (Plain j)) in
        subst P (sym same) (λ o n x. step_right f base size at names here owed rvc t.data_one t.by slots o t.typed is_in_words n x) o n x
plain_right f base size at names here owed false rvc false i count slots m o body is_in_words n c b s x = around_right f base size at names here owed rvc i count slots o body is_in_words n c b x

-- ---- an item

-- a jal or branch to a word's start
aimed_right : (f : Format) (base size here to : ℕ) (j : Instr) (count name : ℕ) → IsBody count (To j name) → has_words f ≡ true → names_withheld f j ≡ false → is_barred_jump (To j name) ≡ false → here < 2 ^ 32 → is_word_start base size to ≡ true → to < 2 ^ 32
    → IsRight f base size here kind.Nothing (with_offset (pos to -ℤ pos here) j) kind.Nothing
aimed_right f base size here to (Jal rd offset) count name body is_in_words n b low start near =
    let lands_there : offset_by here (pos to -ℤ pos here) ≡ to = lands (pos to -ℤ pos here) here to refl low near in
    let h = free f rd is_in_words n in
    let w = owing f (Jal rd (pos to -ℤ pos here)) (Some rd) refl (h, neither (has_single_mask f) refl refl, λ typed. absurd (true≢false (sym typed ∙ b))) in
    record {
      no_ecall = λ gate. refl;
      lawful = lawful_by (unreserved f (Some rd) h) refl refl (ap (λ a. not (is_word_start base size a)) lands_there ∙ ap not start) (no_offset f (Jal rd (pos to -ℤ pos here)) (Some rd) refl h);
      meets = meets_by kind.Nothing w.own refl w.owes (untyped rd w.own b w.is);
    }
  where
    untyped : (rd : ℕ) (own : Owed) → is_data_register rd ≡ false → IsMaskOwed own (Some rd) → own ≡ kind.Nothing
    untyped rd own e m = subst (λ t. MatchBool t ((own ≡ kind.Mask rd) ⊎ (own ≡ kind.MaskOrUse rd)) (own ≡ kind.Nothing)) e m
aimed_right f base size here to (Branch cond rs1 rs2 offset) count name body is_in_words n b low start near =
    let lands_there : offset_by here (pos to -ℤ pos here) ≡ to = lands (pos to -ℤ pos here) here to refl low near in
    record {
      no_ecall = λ gate. refl;
      lawful = lawful_by refl refl refl (ap (λ a. not (is_word_start base size a)) lands_there ∙ ap not start) refl;
      meets = meets_by kind.Nothing kind.Nothing refl refl refl;
    }
aimed_right f base size here to _ count name body is_in_words n b low start near = absurd body.1

-- an instruction made of a name's address, before the mask of what it writes
made_right : (f : Format) (base size : ℕ) (at : Bases) (names : List PlacedName) (here : ℕ) (x : BundleSlot) (g : ℕ → Instr) (o : Option ℕ) (rd : ℕ) → slot_size x ≡ 4 → resolved at names here x ≡ made_of g o → IsFree rd
    → ((a : ℕ) → (is_calm (g a) ≡ true) × (destination (g a) ≡ Some rd) × (places f rd (g a) ≡ false) × (is_jump (g a) ≡ false)) → AreRight f base size at names here kind.Nothing (x ∷ mask_after f (Some rd)) kind.Nothing
made_right f base size at names here x g o rd four r h calmly = λ i q.
    let m = made g o i (sym r ∙ q) in
    let k = calmly m.0 in
    let w = owing f (g m.0) (Some rd) k.1 (h, k.2, λ typed. k.3) in
    let one : IsRight f base size here kind.Nothing (g m.0) w.own =
    record { no_ecall = calm_no_ecall (g m.0) k.0; lawful = calm_lawful f base size here (g m.0) k.0 (subst IsFreeOne (sym k.1) h); meets = paid f kind.Nothing (g m.0) (Some rd) refl w } in
    (w.own, subst (λ j. IsRight f base size here kind.Nothing j w.own) (sym m.2) one, after_right f base size at names (here + slot_size x) w.own (Some rd) w.is)

-- nothing is owed before an item with a name, nor after it
abbrev has_name : Body → Bool
has_name (Plain i) = false
has_name _ = true

unowed : (owed : Owed) (body : Body) → has_name body ≡ true → IsOwedTo owed body → owed ≡ kind.Nothing
unowed owed body n (inl e) = e
unowed owed (Plain i) n (inr u) = absurd (true≢false (sym n))
unowed owed _ n (inr u) = absurd u.2

none_past : (step : Bool) (body : Body) → has_name body ≡ true → owed_past step body ≡ kind.Nothing
none_past step (Plain i) n = absurd (true≢false (sym n))
none_past true _ n = refl
none_past false _ n = refl

named_right : (f : Format) (base size : ℕ) (at : Bases) (names : List PlacedName) (here : ℕ) (owed : Owed) (step : Bool) (body : Body) (slots : List BundleSlot) → has_name body ≡ true → IsOwedTo owed body
    → AreRight f base size at names here kind.Nothing slots kind.Nothing → AreRight f base size at names here owed slots (owed_past step body)
named_right f base size at names here owed step body slots n o right =
    subst (λ p. AreRight f base size at names here p slots (owed_past step body)) (sym (unowed owed body n o))
    (subst (λ p. AreRight f base size at names here kind.Nothing slots p) (sym (none_past step body n)) right)

body_right : (f : Format) (base size : ℕ) (at : Bases) (names : List PlacedName) → AreWordStarts base size at names → (here : ℕ) (owed : Owed) (line : ℕ) (rvc step : Bool) (body : Body) (count : ℕ) (slots : List BundleSlot) → here + size_of slots ≤ 2 ^ 32
    → IsOwedTo owed body → IsBody count body → has_words f ≡ true → item_names_withheld f body ≡ false → is_ecall body ≡ false → is_barred_jump body ≡ false → (step ≡ true → IsStep body) → IsExpansionOf f line rvc step body slots
    → AreRight f base size at names here owed slots (owed_past step body)
body_right f base size at names starts here owed line rvc step (Plain i) count slots room o is is_in_words n c b s x =
    plain_right f base size at names here owed (is_move i && not step) rvc step i count slots refl o is is_in_words n c b s x
body_right f base size at names starts here owed line rvc step (To j k) count slots room o is is_in_words n c b s x =
    let size_is = ap size_of x in
    named_right f base size at names here owed step (To j k) slots refl o
    (subst (λ v. AreRight f base size at names here kind.Nothing v kind.Nothing) (sym x) (λ i q.
    let m = made (λ to. with_offset (pos to -ℤ pos here) j) (target_at at names k) i q in
    let t = starts k m.0 m.1 in
    (kind.Nothing, subst (λ z. IsRight f base size here kind.Nothing z kind.Nothing) (sym m.2) (aimed_right f base size here m.0 j count k is is_in_words n b (omega arith) t.0 t.1), refl)))
body_right f base size at names starts here owed line rvc step (High rd k) count slots room o is is_in_words n c b s x =
    named_right f base size at names here owed step (High rd k) slots refl o
    (subst (λ v. AreRight f base size at names here kind.Nothing v kind.Nothing) (sym x)
    (made_right f base size at names here (Upper rd k line) (λ address. Lui rd (upper (pos address))) (value_at at names k) rd refl refl (free f rd is_in_words n) (λ a. (refl, refl, neither (has_single_mask f) refl refl, refl))))
body_right f base size at names starts here owed line rvc step (Low rd k) count slots room o is is_in_words n c b s x =
    named_right f base size at names here owed step (Low rd k) slots refl o
    (subst (λ v. AreRight f base size at names here kind.Nothing v kind.Nothing) (sym x)
    (made_right f base size at names here (Lower rd k line) (λ address. OpImm Addi rd rd (lower (pos address))) (value_at at names k) rd refl refl (free f rd is_in_words n) (λ a. (refl, refl, neither (has_single_mask f) refl refl, refl))))
body_right f base size at names starts here owed line rvc step (Base rd k) count slots room o is is_in_words n c b s x =
    named_right f base size at names here owed step (Base rd k) slots refl o
    (subst (λ v. AreRight f base size at names here kind.Nothing v kind.Nothing) (sym x)
    (made_right f base size at names here (Region rd k line) (λ r. Op Add rd rd r) (base_at names k) rd refl refl (free f rd is_in_words n) (λ a. (refl, refl, neither (has_single_mask f) refl refl, refl))))

-- ---- items

-- a step to an item is one, which that uses
step_to : (x y : Body) → is_step_to x y ≡ true → IsStep x × IsOwedTo (owed_past true x) y
step_to (Plain (OpImm Addi d a k)) (Plain i) h =
    let one = and_parts (is_data_register d && (a == d)) (uses d i) h in
    let two = and_parts (is_data_register d) (a == d) one.0 in
    let same = eqb-true a d two.1 in
    (record { data_one = d; by = k; typed = two.0; is = ap (λ r. Plain (OpImm Addi d r k)) same }, inr (d, refl, (two.0, one.1)))
step_to _ _ h = absurd (true≢false (sym h))

-- after an item what is owed is owed to the next one
record IsFollowed (step : Bool) (x : Body) (later : List Item) : Type 0 where
  steps : step ≡ true → IsStep x
  owed_next : IsOwedBefore (owed_past step x) later

followed : (x : Item) (later : List Item) → IsFollowed (is_step_before_use x later) x.body later
followed x [] = record { steps = λ h. absurd (true≢false (sym h)); owed_next = refl }
followed x (y ∷ later) = by (not y.labelled) (is_step_to x.body y.body) refl
  where
    by : (l t : Bool) → is_step_to x.body y.body ≡ t → IsFollowed (l && t) x.body (y ∷ later)
    by true true e = let s = step_to x.body y.body e in record { steps = λ h. s.0; owed_next = s.1 }
    by true false e = record { steps = λ h. absurd (true≢false (sym h)); owed_next = inl refl }
    by false t e = record { steps = λ h. absurd (true≢false (sym h)); owed_next = inl refl }

-- nothing is, before any items
pub nothing_owed : (items : List Item) → IsOwedBefore kind.Nothing items
nothing_owed [] = refl
nothing_owed (x ∷ items) = inl refl

-- The slots of items as they are laid. Before them nothing is owed, or it is the use that the first
-- of them is; after the last nothing.
pub items_right : (f : Format) (base size : ℕ) (at : Bases) (names : List PlacedName) → AreWordStarts base size at names → (count here : ℕ) (owed : Owed) (items : List Item) (expanded : List Marked) (laid : List BundleSlot) → here + size_of laid ≤ 2 ^ 32
    → has_words f ≡ true → All (IsPermitted f) items → All (λ x. IsBody count x.body) items → IsOwedBefore owed items → AreExpanded f items [] expanded → AreAsLaid (map (λ m. m.1) expanded) laid → AreRight f base size at names here owed laid kind.Nothing
items_right f base size at names starts count here owed [] expanded laid room is_in_words permitted bodies o e l =
    empty laid (subst (λ v. AreAsLaid (map (λ m. m.1) v) laid) e l)
  where
    empty : (laid : List BundleSlot) → AreAsLaid [] laid → AreRight f base size at names here owed laid kind.Nothing
    empty [] l = sym o
    empty (x ∷ laid) l = absurd l
items_right f base size at names starts count here owed (x ∷ items) expanded laid room is_in_words permitted bodies o e l =
    let own = e.0 in
    let rest = e.1 in
    let slots : map (λ m. m.1) expanded ≡ own ++ map (λ m. m.1) rest =
    ap (λ v. map (λ m. m.1) v) e.3 ∙ map-append (λ m. m.1) (marked x.labelled own) rest ∙ ap (λ v. v ++ map (λ m. m.1) rest) (slots_of_marked x.labelled own) in
    let two = apart own (map (λ m. m.1) rest) laid (subst (λ v. AreAsLaid v laid) slots l) in
    let sized = ap size_of two.both ∙ size_of-append two.first two.rest in
    let may = All-head (IsPermitted f) x items permitted in
    let body = All-head (λ y. IsBody count y.body) x items bodies in
    let is = subst (λ v. IsExpansion f x v own) (append-nil items) e.2 in
    let next_one = followed x items in
    let laid_is = body_laid f x.line x.rvc (is_step_before_use x items) x.body own two.first is two.are_first in
    let first = body_right f base size at names starts here owed x.line laid_is.0 (is_step_before_use x items) x.body count two.first (omega arith) o body is_in_words may.operands may.no_ecall (unbarred f x is_in_words may) next_one.steps laid_is.1 in
    let later = items_right f base size at names starts count (here + size_of two.first) (owed_past (is_step_before_use x items) x.body) items rest two.rest (omega arith) is_in_words (All-tail (IsPermitted f) x items permitted) (All-tail (λ y. IsBody count y.body) x items bodies) next_one.owed_next e.4 two.are_rest in
    subst (λ v. AreRight f base size at names here owed v kind.Nothing) (sym two.both) (right_append f base size at names here owed (owed_past (is_step_before_use x items) x.body) kind.Nothing two.first two.rest first later)
