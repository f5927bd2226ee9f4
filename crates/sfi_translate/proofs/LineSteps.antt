-- What a line does: a slow step at it, and where it passes its test.
use Rattle.sfi_translate.proofs.Prelude.{◌≡◌, ℕ, ◌+◌, ◌-◌, ◌≤◌, refl, sym, ap, ◌∙◌, subst, arith, Part, zero, suc, List}
use Rattle.std.proofs.Common.{◌%◌, ◌^◌, ◌<◌, ◌⊎◌, Bool, true, false, cond, Option, Some, None, map, IsSome, length, set, get_or}
use Rattle.std.specs.Prelude.{is_some, ℤ}
use Rattle.std.specs.List.{Contains, range_with_len}
use Rattle.std.proofs.lemmas.Bool.{le-leb, cond_both, false≢true, leb-true}
use Rattle.rv_word.specs.declared.instr.Instr.{Instr}
use Rattle.rv_word.specs.declared.instr.Instr.TheVariants.{Op, OpImm, Load, Store, Branch, Jal, Jalr, Lui, Auipc, Fence, Ecall, Ebreak}
use Rattle.rv_word.specs.declared.instr.LoadKind.{LoadKind}
use Rattle.rv_word.specs.declared.instr.StoreWidth.{StoreWidth}
use Rattle.rv_word.specs.Spelling.{offset_by}
use Rattle.rv_comp.specs.declared.front.Front.TheVariants.{Read}
use Rattle.rv_mem.specs.Bytes.{bytes_at, loaded, stored, addresses, address_after, Bytes, byte_at, in_front, number_of}
use Rattle.rv_mem.proofs.Facts.{addresses_are_these}
use Rattle.rv_step.specs.Step.{Accesses, Stepped, Stands, IsStep, effect, after_load, next, unchanged, load_size, store_size}
use Rattle.rv_step.specs.declared.outcome.Outcome.TheVariants.{Next, Trap}
use Rattle.rv_step.specs.declared.outcome.Cause.TheVariants as cause
use Rattle.rv_step.specs.State.{State, register, past, Hart}
use Rattle.sfi_image.specs.Parts.{IsRightPart, HasReserved, data_mask_of, reserved_of}
use Rattle.sfi_image.specs.Spelling.{AreApart, code_region, data_region, guarded_region}
use Rattle.sfi_safe_runs.specs.Runs.{InData, InGuard, Empty}
use Rattle.sfi_safe_runs.specs.Calling.{KeepsAll}
use Rattle.sfi_safe_runs.proofs.Accessing.{load_sized, store_sized}
use Rattle.sfi_safe_runs.proofs.Stepping.{in_data}
use Rattle.sfi_translate.specs.Machine.{is_tested, row_step, is_done, fixed, with_data_base}
use Rattle.std.specs.Option.{option_map}
use Rattle.std.proofs.lemmas.List.{set-get_or}
use Rattle.sfi_formats.specs.Formats.{has_single_mask, unit}
use Rattle.sfi_translate.specs.Laws.{HasData}

-- ==== What a slow step does at a line is a step: an access that doesn't pass its test traps.

-- an access of some bytes whose first and last lie in a region passes its test
passes : (at base size n : ℕ) → 0 < n → base ≤ address_after at 0 → address_after at (n - 1) < base + size → address_after at 0 < base + size → n ≤ 4 → base + size + 4096 ≤ 2 ^ 32 → (at + (2 ^ 32 - base)) % 2 ^ 32 ≤ size - n
passes at base size n some from below first few room = omega (arith, some, from, below, first, few, room)

module _ (p : Part) (right : IsRightPart p) (apart : AreApart (code_region p) (guarded_region p)) (s : State) (kept : KeepsAll p s) where
  pub tested_of : (at n : ℕ) → 0 < n → n ≤ 4 → ((a : ℕ) → Contains (addresses at n) a → InData p a) → is_tested p at n ≡ true
  tested_of at n some few inside =
      let first = inside (address_after at 0) ((addresses_are_these at n (address_after at 0)).1 (0, some, refl)) in
      let below : n - 1 < n = omega (arith, some) in
      let last = inside (address_after at (n - 1)) ((addresses_are_these at n (address_after at (n - 1))).1 (n - 1, below, refl)) in
      le-leb _ (p.data_size - n) (passes at p.data_base p.data_size n some first.0 last.1 first.1 few right.guard_room.above)

  module _ (i : Instr) (n : ℕ) (stands : Stands s i n) (near : (a : ℕ) → Accesses i s.hart a → InData p a ⊎ InGuard p a) where
    step_here : IsStep s (effect i n s.hart s.memory)
    step_here = record { front = Read i n; at_pc = stands; result = refl }

    inside : (effect i n s.hart s.memory).outcome ≡ Next → (a : ℕ) → Accesses i s.hart a → InData p a
    inside = in_data p right apart Empty s kept i n stands near (effect i n s.hart s.memory) step_here kept.guards

  not_tested : (t : Bool) → t ≡ true → t ≡ false → ⊥
  not_tested t yes_is no_is = false≢true (sym no_is ∙ yes_is)

  load_traps : (kind : LoadKind) (rd rs1 : ℕ) (imm : ℤ) (n : ℕ) → Stands s (Load kind rd rs1 imm) n → ((a : ℕ) → Accesses (Load kind rd rs1 imm) s.hart a → InData p a ⊎ InGuard p a) → (o : Option ℕ)
      → loaded s.memory (offset_by (register s.hart rs1) imm) (load_size kind) ≡ o → is_tested p (offset_by (register s.hart rs1) imm) (load_size kind) ≡ false
      → after_load o kind rd (offset_by (register s.hart rs1) imm) n s.hart s.memory ≡ unchanged (Trap cause.Load (offset_by (register s.hart rs1) imm)) s.hart s.memory
  load_traps kind rd rs1 imm n stands near None is fails = refl
  load_traps kind rd rs1 imm n stands near (Some v) is fails =
      let at = offset_by (register s.hart rs1) imm in
      let done : (effect (Load kind rd rs1 imm) n s.hart s.memory).outcome ≡ Next = ap (λ (o : Option ℕ). (after_load o kind rd at n s.hart s.memory).outcome) is in
      absurd (not_tested (is_tested p at (load_size kind)) (tested_of at (load_size kind) (load_sized kind).some (load_sized kind).most (λ a has. inside (Load kind rd rs1 imm) n stands near done a has)) fails)

  store_traps : (width : StoreWidth) (rs1 rs2 : ℕ) (imm : ℤ) (n : ℕ) → Stands s (Store width rs1 rs2 imm) n → ((a : ℕ) → Accesses (Store width rs1 rs2 imm) s.hart a → InData p a ⊎ InGuard p a) → (b : Bool)
      → is_some (bytes_at s.memory (addresses (offset_by (register s.hart rs1) imm) (store_size width))) ≡ b → is_tested p (offset_by (register s.hart rs1) imm) (store_size width) ≡ false
      → cond b (next (past s.hart n) (stored s.memory (offset_by (register s.hart rs1) imm) (store_size width) (register s.hart rs2))) (unchanged (Trap cause.Store (offset_by (register s.hart rs1) imm)) s.hart s.memory)
      ≡ unchanged (Trap cause.Store (offset_by (register s.hart rs1) imm)) s.hart s.memory
  store_traps width rs1 rs2 imm n stands near false is fails = refl
  store_traps width rs1 rs2 imm n stands near true is fails =
      let at = offset_by (register s.hart rs1) imm in
      let done : (effect (Store width rs1 rs2 imm) n s.hart s.memory).outcome ≡ Next =
      ap (λ (b : Bool). (cond b (next (past s.hart n) (stored s.memory at (store_size width) (register s.hart rs2))) (unchanged (Trap cause.Store at) s.hart s.memory)).outcome) is in
      absurd (not_tested (is_tested p at (store_size width)) (tested_of at (store_size width) (store_sized width).some (store_sized width).most (λ a has. inside (Store width rs1 rs2 imm) n stands near done a has)) fails)

  pub row_is_step : (i : Instr) (n : ℕ) → Stands s i n → ((a : ℕ) → Accesses i s.hart a → InData p a ⊎ InGuard p a) → IsStep s (row_step p i n s)
  row_is_step (Load kind rd rs1 imm) n stands near =
      let at = offset_by (register s.hart rs1) imm in
      let step = step_here (Load kind rd rs1 imm) n stands near in
      cond_both (is_tested p at (load_size kind)) (effect (Load kind rd rs1 imm) n s.hart s.memory) (unchanged (Trap cause.Load at) s.hart s.memory) (λ (r : Stepped). IsStep s r) (λ e. step)
      (λ e. subst (λ (r : Stepped). IsStep s r) (load_traps kind rd rs1 imm n stands near (loaded s.memory at (load_size kind)) refl e) step)
  row_is_step (Store width rs1 rs2 imm) n stands near =
      let at = offset_by (register s.hart rs1) imm in
      let step = step_here (Store width rs1 rs2 imm) n stands near in
      cond_both (is_tested p at (store_size width)) (effect (Store width rs1 rs2 imm) n s.hart s.memory) (unchanged (Trap cause.Store at) s.hart s.memory) (λ (r : Stepped). IsStep s r) (λ e. step)
      (λ e. subst (λ (r : Stepped). IsStep s r) (store_traps width rs1 rs2 imm n stands near (is_some (bytes_at s.memory (addresses at (store_size width)))) refl e) step)
  row_is_step (Op op rd rs1 rs2) n stands near = step_here (Op op rd rs1 rs2) n stands near
  row_is_step (OpImm op rd rs1 imm) n stands near = step_here (OpImm op rd rs1 imm) n stands near
  row_is_step (Branch c rs1 rs2 offset) n stands near = step_here (Branch c rs1 rs2 offset) n stands near
  row_is_step (Jal rd offset) n stands near = step_here (Jal rd offset) n stands near
  row_is_step (Jalr rd rs1 imm) n stands near = step_here (Jalr rd rs1 imm) n stands near
  row_is_step (Lui rd imm) n stands near = step_here (Lui rd imm) n stands near
  row_is_step (Auipc rd imm) n stands near = step_here (Auipc rd imm) n stands near
  row_is_step (Fence imm rd rs1) n stands near = step_here (Fence imm rd rs1) n stands near
  row_is_step Ecall n stands near = step_here Ecall n stands near
  row_is_step Ebreak n stands near = step_here Ebreak n stands near

-- ==== What a line does that passes its test is done, and what lines take for granted of registers is so.

-- ---- bytes that are there

both_there : (o : Option ℕ) (q : Option (List ℕ)) → IsSome o → IsSome q → IsSome (in_front o q)
both_there None q a b = absurd (false≢true a)
both_there (Some x) None a b = absurd (false≢true b)
both_there (Some x) (Some xs) a b = refl

all_there : (m : Bytes) (f : ℕ → ℕ) (a n : ℕ) → ((k : ℕ) → k < n → IsSome (byte_at m (f (a + k)))) → IsSome (bytes_at m (map f (range_with_len a n)))
all_there m f a zero each = refl
all_there m f a (suc n) each =
    let z : a + 0 ≡ a = omega arith in
    both_there (byte_at m (f a)) (bytes_at m (map f (range_with_len (a + 1) n)))
    (subst (λ (x : ℕ). IsSome (byte_at m (f x))) z (each 0 (omega arith)))
    (all_there m f (a + 1) n (λ k below. let e : a + suc k ≡ a + 1 + k = omega arith in subst (λ (x : ℕ). IsSome (byte_at m (f x))) e (each (suc k) (omega (arith, below)))))

address_in : (at base size n k : ℕ) → base + size + 4096 ≤ 2 ^ 32 → 256 ≤ size → n ≤ 4 → k < n → (at + (2 ^ 32 - base)) % 2 ^ 32 ≤ size - n → (base ≤ address_after at k) × (address_after at k < base + size)
address_in at base size n k room least few below tested = (omega (arith, room, least, few, below, tested), omega (arith, room, least, few, below, tested))

module _ (p : Part) (right : IsRightPart p) (m : Bytes) (has : HasData p m) where
  pub access_there : (at n : ℕ) → n ≤ 4 → is_tested p at n ≡ true → IsSome (bytes_at m (addresses at n))
  access_there at n few tested =
      all_there m (address_after at) 0 n (λ k below.
      let e : k ≡ 0 + k = omega arith in
      subst (λ (x : ℕ). IsSome (byte_at m (address_after at x))) e
      (has (address_after at k) (address_in at p.data_base p.data_size n k right.guard_room.above right.data_placed.at_least few below (leb-true _ (p.data_size - n) tested))))

  load_done : (o : Option (List ℕ)) (kind : LoadKind) (rd at n : ℕ) (h : Hart) → IsSome o → (after_load (option_map number_of o) kind rd at n h m).outcome ≡ Next
  load_done None kind rd at n h some = absurd (false≢true some)
  load_done (Some bs) kind rd at n h some = refl

  store_done : (b : Bool) (at : ℕ) (h k : Hart) (w : Bytes) → b ≡ true → (cond b (next k w) (unchanged (Trap cause.Store at) h m)).outcome ≡ Next
  store_done true at h k w e = refl
  store_done false at h k w e = absurd (false≢true e)

  -- a line that does its instruction does it
  pub done_next : (i : Instr) (n : ℕ) (h : Hart) → is_done p i h ≡ true → (effect i n h m).outcome ≡ Next
  done_next (Load kind rd rs1 imm) n h done =
      let at = offset_by (register h rs1) imm in
      load_done (bytes_at m (addresses at (load_size kind))) kind rd at n h (access_there at (load_size kind) (load_sized kind).most done)
  done_next (Store width rs1 rs2 imm) n h done =
      let at = offset_by (register h rs1) imm in
      store_done (is_some (bytes_at m (addresses at (store_size width)))) at h _ _ (access_there at (store_size width) (store_sized width).most done)
  done_next (Op op rd rs1 rs2) n h done = refl
  done_next (OpImm op rd rs1 imm) n h done = refl
  done_next (Branch cond rs1 rs2 offset) n h done = refl
  done_next (Jal rd offset) n h done = refl
  done_next (Jalr rd rs1 imm) n h done = refl
  done_next (Lui rd imm) n h done = refl
  done_next (Auipc rd imm) n h done = refl
  done_next (Fence imm rd rs1) n h done = refl
  done_next Ecall n h done = absurd (false≢true done)
  done_next Ebreak n h done = absurd (false≢true done)

-- ---- registers with one value

same_set : (l : List ℕ) (k v : ℕ) → get_or l k 0 ≡ v → set l k v ≡ l
same_set l k v e = ap (λ (x : ℕ). set l k x) (sym e) ∙ set-get_or l k 0

same_base : (p : Part) (l : List ℕ) → HasReserved p.format (reserved_of p) l → (o : Bool) → has_single_mask p.format ≡ o → with_data_base p l ≡ l
same_base p l has true one = rw one refl
same_base p l has false two = rw two (same_set l 26 p.data_base (has.data_base two))

-- a hart that has these values is as lines take it
pub fixed_is : (p : Part) (h : Hart) → register h 0 ≡ 0 → HasReserved p.format (reserved_of p) h.registers → fixed p h ≡ h
fixed_is p h zero_is has =
    let l = h.registers in
    let code = length p.code - unit p.format in
    let last = data_mask_of p.format (data_region p) in
    ap (λ (x : List ℕ). record { pc = h.pc; registers = x })
    (ap (λ (x : List ℕ). set (with_data_base p (set (set x 24 p.code_base) 25 code)) 27 last) (same_set l 0 0 zero_is)
    ∙ ap (λ (x : List ℕ). set (with_data_base p (set x 25 code)) 27 last) (same_set l 24 p.code_base has.code_base)
    ∙ ap (λ (x : List ℕ). set (with_data_base p x) 27 last) (same_set l 25 code has.code_mask)
    ∙ ap (λ (x : List ℕ). set x 27 last) (same_base p l has (has_single_mask p.format) refl)
    ∙ same_set l 27 last has.data_mask)
