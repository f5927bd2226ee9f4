-- Where an access lies in the data, and in the host.
use Rattle.std.proofs.Common.{◌≡◌, ℕ, zero, suc, ◌+◌, ◌-◌, ◌*◌, ◌%◌, ◌^◌, ◌<◌, ◌≤◌, true, Some, None, Option, List, map, refl, ap, ◌∙◌, arith}
use Rattle.std.specs.Prelude.{ℤ, pos, negsuc, is_some}
use Rattle.std.specs.List.{range_with_len}
use Rattle.std.specs.Option.{option_map}
use Rattle.std.proofs.lemmas.Bool.{false≢true, leb-true, le-ltb, lt-ltb, ne_eqb}
use Rattle.std.proofs.lemmas.Int.{ints}
use Rattle.rv_word.specs.Spelling.{IsImm12, offset_by}
unfoldable use Rattle.rv_word.specs.Spelling.{InRange}
use Rattle.rv_mem.specs.Bytes.{address_after, addresses, byte_at, bytes_at, in_front, number_of}
use Rattle.rv_step.specs.Step.{word}
use Rattle.sfi_image.specs.Parts.{HasGuardRoom}
use Rattle.sfi_image.specs.Spelling.{Part}
use Rattle.sfi_translate.specs.Machine.{Going, is_tested}
use Rattle.x86_instr.specs.declared.operand.Register.{Register}
use Rattle.x86_instr.specs.Spelling.{number}
use Rattle.x86_step.specs.State.{Core, joined, number_at}
use Rattle.x86_step.specs.Step.{address, sign_extended}
unfoldable use Rattle.x86_step.specs.Step.{computes}
use Rattle.sfi_native.specs.declared.layout.Layout.{Layout}
use Rattle.sfi_native.specs.Layout.{IsLayout, IsRelated, origin, value}
use Rattle.sfi_native.specs.Code.{data_address}
use Rattle.sfi_native.proofs.Kept.{Kept}

-- ==== Bytes that both have.

both : (o : Option ℕ) (q : Option (List ℕ)) → joined o (option_map number_of q) ≡ option_map number_of (in_front o q)
both None None = refl
both None (Some bs) = refl
both (Some b) None = refl
both (Some b) (Some bs) = refl

module _ (p : Part) (l : Layout) (g : Going) (c : Core) (is : IsRelated p l g c) (room : HasGuardRoom p.data_base p.data_size) where
  same_number : (n j i : ℕ) → j + i + n ≤ p.data_size
      → number_at c.memory n (l.data_start + j + i) ≡ option_map number_of (bytes_at g.state.memory (map (address_after (p.data_base + j)) (range_with_len i n)))
  same_number zero j i within = refl
  same_number (suc n) j i within =
      let place : l.data_start + j + i ≡ l.data_start + (j + i) = omega arith in
      let there : p.data_base + (j + i) ≡ address_after (p.data_base + j) i = omega (arith, within, room.above) in
      let first : c.memory (l.data_start + j + i) ≡ byte_at g.state.memory (address_after (p.data_base + j) i) =
      ap c.memory place ∙ is.bytes (j + i) (omega (arith, within)) ∙ ap (byte_at g.state.memory) there in
      let next : l.data_start + j + i + 1 ≡ l.data_start + j + (i + 1) = omega arith in
      let rest = ap (number_at c.memory n) next ∙ same_number n j (i + 1) (omega (arith, within)) in
      ap (λ b. joined b (number_at c.memory n (l.data_start + j + i + 1))) first
      ∙ ap (joined (byte_at g.state.memory (address_after (p.data_base + j) i))) rest
      ∙ both (byte_at g.state.memory (address_after (p.data_base + j) i)) (bytes_at g.state.memory (map (address_after (p.data_base + j)) (range_with_len (i + 1) n)))

pub some_number : (q : Option (List ℕ)) → is_some q ≡ true → (n : ℕ) × (option_map number_of q ≡ Some n)
some_number None e = absurd (false≢true e)
some_number (Some bs) e = (number_of bs, refl)

-- ==== Where an access goes.

-- an address at an offset, computed in 32 bits
pub offset_is : (a : ℕ) (imm : ℤ) → offset_by a imm ≡ (a % 2 ^ 32 + word imm) % 2 ^ 32
offset_is a (pos n) = omega (arith, ints)
offset_is a (negsuc n) = grind (arith, ints)

pub negative_small : (k : ℕ) → IsImm12 (negsuc k) → k < 2048
negative_small k range = omega (arith, ints, range.0)

pub positive_small : (k : ℕ) → IsImm12 (pos k) → k < 2048
positive_small k range = omega (arith, ints, range.1)

-- An offset of 12 bits that leads into the data doesn't wrap: there is room for guard zones before and behind.
module _ (a base size n start : ℕ) (low : 4096 ≤ base) (high : base + size + 4096 ≤ 2 ^ 32) (few : n ≤ size) (some : 0 < n) (fits : a < 2 ^ 32) (ends : start + size ≤ 2 ^ 64) where
  abbrev Inside : ℕ → Type 0
  Inside at = (base ≤ at) × (at - base + n ≤ size)

  inside_at : (at : ℕ) → at < 2 ^ 32 → (at + (2 ^ 32 - base)) % 2 ^ 32 ≤ size - n → Inside at
  inside_at at small tested = (omega (arith, low, high, few, some, small, tested), omega (arith, low, high, few, some, small, tested))

  in_host : (imm : ℤ) → IsImm12 imm → (offset_by a imm + (2 ^ 32 - base)) % 2 ^ 32 ≤ size - n
      → ((start + (2 ^ 64 - base)) % 2 ^ 64 + a * 2 ^ 0 + sign_extended (word imm)) % 2 ^ 64 ≡ start + (offset_by a imm - base)
  in_host (pos k) range tested =
      let small = positive_small k range in
      let at_is : offset_by a (pos k) ≡ (a + k) % 2 ^ 32 = omega (arith, ints, fits, small) in
      let at = inside_at (offset_by a (pos k)) (omega (arith, at_is)) tested in
      let whole : offset_by a (pos k) ≡ a + k = omega (arith, at_is, at.0, low, small, fits) in
      let d : word (pos k) ≡ k = omega (arith, ints, small) in
      let near : sign_extended (word (pos k)) ≡ k = ap sign_extended d ∙ (rw (lt-ltb k (2 ^ 31) (omega (arith, small))) refl) in
      omega (arith, near, whole, at.0, at.1, ends, low, high)
  in_host (negsuc k) range tested =
      let small = negative_small k range in
      let at_is : offset_by a (negsuc k) ≡ (a + (2 ^ 32 - 1 - k)) % 2 ^ 32 = grind (arith, ints) in
      let at = inside_at (offset_by a (negsuc k)) (omega (arith, at_is)) tested in
      let whole : offset_by a (negsuc k) + 1 + k ≡ a = omega (arith, at_is, at.0, at.1, low, high, small, fits) in
      let d : word (negsuc k) ≡ 2 ^ 32 - 1 - k = omega (arith, ints, small) in
      let far : sign_extended (word (negsuc k)) ≡ 2 ^ 64 - 1 - k = ap sign_extended d ∙ (rw (le-ltb (2 ^ 32 - 1 - k) (2 ^ 31) (omega (arith, small))) (omega (arith, small))) in
      omega (arith, far, whole, at.0, at.1, ends, low, high, small)

pub address_is : (d : Core) (x : Register) (n o a : ℕ) → d.registers 15 ≡ o → (number x ≡ 4 → ⊥) → d.registers (number x) ≡ a
    → address d (data_address x n) ≡ (o + a * 2 ^ 0 + sign_extended n) % 2 ^ 64
address_is d x n o a base index has = rw (ne_eqb (number x) 4 index, base, has) refl

-- an access of n bytes that is in the data
module _ (p : Part) (l : Layout) (layout : IsLayout p l) (g : Going) (c : Core) (is : IsRelated p l g c) (room : HasGuardRoom p.data_base p.data_size)
    (n : ℕ) (some : 0 < n) (few : n ≤ p.data_size) (rs1 : ℕ) (imm : ℤ) (range : IsImm12 imm) (tested : is_tested p (offset_by (value p g rs1) imm) n ≡ true) where
  abbrev at : ℕ
  at = offset_by (value p g rs1) imm

  close : (at + (2 ^ 32 - p.data_base)) % 2 ^ 32 ≤ p.data_size - n
  close = leb-true _ (p.data_size - n) tested

  below : at < 2 ^ 32
  below = omega (arith, offset_is (value p g rs1) imm)

  pub within : (p.data_base ≤ at) × (at - p.data_base + n ≤ p.data_size)
  within = inside_at (value p g rs1) p.data_base p.data_size n l.data_start room.below room.above few some (is.words rs1) (omega (arith, layout.window_ends)) at below close

  pub place_is : (d : Core) (x : Register) → Kept c d → (number x ≡ 4 → ⊥) → d.registers (number x) ≡ value p g rs1
      → address d (data_address x (word imm)) ≡ l.data_start + (at - p.data_base)
  place_is d x kept index has =
      address_is d x (word imm) (origin p.data_base l) (value p g rs1) (kept.registers 15 (omega arith) ∙ is.origin_is) index has
      ∙ in_host (value p g rs1) p.data_base p.data_size n l.data_start room.below room.above few some (is.words rs1) (omega (arith, layout.window_ends)) imm range close

  -- what both have there
  pub number_is : number_at c.memory n (l.data_start + (at - p.data_base)) ≡ option_map number_of (bytes_at g.state.memory (addresses at n))
  number_is =
      let j = at - p.data_base in
      let z : l.data_start + j ≡ l.data_start + j + 0 = omega arith in
      let back : p.data_base + j ≡ at = omega (arith, within.0) in
      ap (number_at c.memory n) z
      ∙ same_number p l g c is room n j 0 (omega (arith, within.1))
      ∙ ap (λ x. option_map number_of (bytes_at g.state.memory (addresses x n))) back
