-- The code of stores to the data.
use Rattle.std.proofs.Common.{◌≡◌, ℕ, zero, suc, ◌+◌, ◌-◌, ◌*◌, ◌/◌, ◌%◌, ◌^◌, ◌<◌, ◌≤◌, ◌⊎◌, true, Option, Some, None, [], ◌∷◌, ◌++◌, refl, sym, ap, ◌∙◌, subst, arith, inl, inr}
use Rattle.std.specs.Prelude.{Ok, ℤ}
use Rattle.std.specs.Int.{bytes_low_first}
use Rattle.std.proofs.lemmas.Bool.{cases_lt}
use Rattle.rv_word.specs.declared.instr.StoreWidth.{StoreWidth}
use Rattle.rv_word.specs.declared.instr.StoreWidth.TheVariants.{Sb, Sh, Sw}
use Rattle.rv_word.specs.Spelling.{IsImm12, offset_by}
unfoldable use Rattle.rv_word.specs.Spelling.{InRange}
use Rattle.rv_mem.specs.Bytes.{Bytes, IsThere, address_after, addresses, byte_at, bytes_at, stored}
use Rattle.rv_mem.proofs.Facts.{addresses_are_these, others_stay, written_is_there}
use Rattle.rv_step.specs.Step.{store_size, word}
use Rattle.sfi_safe_runs.proofs.Accessing.{store_sized}
use Rattle.sfi_image.specs.Spelling.{Part}
use Rattle.sfi_translate.specs.Machine.{Before, Going}
use Rattle.x86_instr.specs.declared.operand.Register.{Register}
use Rattle.x86_instr.specs.declared.operand.Register.TheVariants.{Rax, Rcx}
use Rattle.x86_instr.specs.Spelling.{number}
use Rattle.x86_instr.specs.declared.operand.Address.{Address}
use Rattle.x86_step.specs.State.{Core, may_write, number_at, with_memory, written}
use Rattle.x86_step.specs.Step.{address, stored as stores}
unfoldable use Rattle.x86_step.specs.Step.{computes}
use Rattle.x86_step.specs.Running.{are_straight, exec}
use Rattle.x86_step.proofs.Running.{exec_append, in_more}
use Rattle.sfi_native.specs.declared.layout.Layout.{Layout}
use Rattle.sfi_native.specs.Layout.{IsLayout, IsRelated, OthersStay, owing, value}
use Rattle.sfi_native.specs.Laws.{IsInData, StoreLinesRun, line_most}
use Rattle.sfi_native.specs.Registers.{assigned}
use Rattle.sfi_native.proofs.Assigned.{holds_on, not_frame, not_free}
use Rattle.sfi_native.specs.Code.{data_address, read, register_or, store_code, store_to}
use Rattle.sfi_native.proofs.Accessing.{number_is, place_is, some_number, within}
use Rattle.sfi_native.proofs.Kept.{kept_join, others_join, others_kept}
use Rattle.sfi_native.proofs.Runs.{straight_runs}
use Rattle.sfi_native.proofs.Fetching.{reads, related_kept}
use Rattle.sfi_native.proofs.Lines.{Comes, none_comes, then_counted, turn_with}
use Rattle.sfi_native.proofs.Memory.{may_write_each, number_elsewhere, store_there, written_elsewhere, written_here}
use Rattle.sfi_native.proofs.Lengths.{store_few}

-- ==== The memory of the machine after a store.

new_byte : (m : Bytes) (at : ℕ) (width : StoreWidth) (v i : ℕ) → at + store_size width ≤ 2 ^ 32 → i < store_size width
    → byte_at (stored m at (store_size width) v) (at + i) ≡ Some (v / 256 ^ i % 256)
new_byte m at Sb v zero room few = written_is_there m at (bytes_low_first 0 1 v) 0 room few ∙ ap Some (omega arith)
new_byte m at Sb v (suc i) room few = absurd (omega (arith, few))
new_byte m at Sh v zero room few = written_is_there m at (bytes_low_first 0 2 v) 0 room few ∙ ap Some (omega arith)
new_byte m at Sh v (suc zero) room few = written_is_there m at (bytes_low_first 0 2 v) 1 room few ∙ ap Some (omega arith)
new_byte m at Sh v (suc (suc i)) room few = absurd (omega (arith, few))
new_byte m at Sw v zero room few = written_is_there m at (bytes_low_first 0 4 v) 0 room few ∙ ap Some (omega arith)
new_byte m at Sw v (suc zero) room few = written_is_there m at (bytes_low_first 0 4 v) 1 room few ∙ ap Some (omega arith)
new_byte m at Sw v (suc (suc zero)) room few = written_is_there m at (bytes_low_first 0 4 v) 2 room few ∙ ap Some (omega arith)
new_byte m at Sw v (suc (suc (suc zero))) room few = written_is_there m at (bytes_low_first 0 4 v) 3 room few ∙ ap Some (omega arith)
new_byte m at Sw v (suc (suc (suc (suc i)))) room few = absurd (omega (arith, few))

old_byte : (m : Bytes) (at n v a : ℕ) → at + n ≤ 2 ^ 32 → (a < at) ⊎ (at + n ≤ a) → byte_at (stored m at n v) a ≡ byte_at m a
old_byte m at n v a room apart = others_stay m (addresses at n) (bytes_low_first 0 n v) a (λ has.
    let one = (addresses_are_these at n a).0 has in
    let e : a ≡ at + one.0 = omega (arith, one.1, one.2, room) in
    elim apart [ inl h ↦ omega (arith, e, h) | inr h ↦ omega (arith, e, h, one.1) ])

-- ==== Both memories after it.

module _ (p : Part) (l : Layout) (layout : IsLayout p l) (g : Going) (c : Core) (is : IsRelated p l g c) (width : StoreWidth) (at v : ℕ)
    (low : p.data_base ≤ at) (high : at - p.data_base + store_size width ≤ p.data_size) (room : p.data_base + p.data_size ≤ 2 ^ 32) where
  abbrev place : ℕ
  place = l.data_start + (at - p.data_base)

  abbrev pub turned : Going
  turned = record { place = g.place; state = record { hart = g.state.hart; memory = stored g.state.memory at (store_size width) v }; left = g.left }

  ends : at + store_size width ≤ 2 ^ 32
  ends = omega (arith, low, high, room)

  new : (i : ℕ) → i < store_size width → written c.memory (store_size width) place v (place + i) ≡ byte_at turned.state.memory (at + i)
  new i few = written_here c.memory (store_size width) place v i few ∙ sym (new_byte g.state.memory at width v i ends few)

  old : (k : ℕ) → k < p.data_size → (k < at - p.data_base) ⊎ (at - p.data_base + store_size width ≤ k)
      → written c.memory (store_size width) place v (l.data_start + k) ≡ byte_at turned.state.memory (p.data_base + k)
  old k inside apart =
      written_elsewhere c.memory (store_size width) place v (l.data_start + k) (elim apart [ inl h ↦ inl (omega (arith, h)) | inr h ↦ inr (omega (arith, h)) ])
      ∙ is.bytes k inside
      ∙ sym (old_byte g.state.memory at (store_size width) v (p.data_base + k) ends (elim apart [ inl h ↦ inl (omega (arith, h, low)) | inr h ↦ inr (omega (arith, h, low)) ]))

  same : (k : ℕ) → k < p.data_size → written c.memory (store_size width) place v (l.data_start + k) ≡ byte_at turned.state.memory (p.data_base + k)
  same k inside = elim (cases_lt k (at - p.data_base)) [
    | inl before ↦ old k inside (inl before)
    | inr from ↦ elim (cases_lt k (at - p.data_base + store_size width)) [
      | inl here ↦
          let i = k - (at - p.data_base) in
          let e1 : l.data_start + k ≡ place + i = omega (arith, from) in
          let e2 : at + i ≡ p.data_base + k = omega (arith, from, low) in
          ap (written c.memory (store_size width) place v) e1 ∙ new i (omega (arith, here, from)) ∙ ap (byte_at turned.state.memory) e2
      | inr after ↦ old k inside (inr after)
    ]
  ]

  pub related_stored : IsRelated p l turned (with_memory c (written c.memory (store_size width) place v))
  related_stored = record {
    register_count = is.register_count;
    words = is.words;
    registers = λ r small. holds_on l c (with_memory c (written c.memory (store_size width) place v)) r (value p g r) (assigned l.plan r)
        (λ e. number_elsewhere c.memory (store_size width) place v 4 (l.frame + 4 * r) (elim layout.apart [
          | inl above ↦ inl (omega (arith, above, small))
          | inr below ↦ inr (omega (arith, below, high))
        ]))
        (λ q e. refl) (is.registers r small);
    frame = is.frame;
    frame_is_written = is.frame_is_written;
    few = is.few;
    left = is.left;
    bytes = same;
    bytes_are_written = is.bytes_are_written;
    origin_is = is.origin_is;
  }

  pub data_stored : OthersStay p l c (with_memory c (written c.memory (store_size width) place v))
  data_stored = record {
    others = λ k more other apart. refl;
    elsewhere = λ a by_frame by_data. written_elsewhere c.memory (store_size width) place v a (elim by_data [
      | inl before ↦ inl (omega (arith, before))
      | inr after ↦ inr (omega (arith, after, high))
    ]);
    writable = refl;
  }

  pub may_be_written : may_write c.writable (store_size width) place ≡ true
  may_be_written = may_write_each c.writable (store_size width) place (λ k few.
      let e : l.data_start + (at - p.data_base + k) ≡ place + k = omega arith in
      subst (λ a. c.writable a ≡ true) e (is.bytes_are_written (at - p.data_base + k) (omega (arith, few, high))))

-- ==== A store.

store_straight : (width : StoreWidth) (a : Address) (src : Register) → are_straight (store_to width a src ∷ []) ≡ true
store_straight Sb a src = refl
store_straight _ a src = refl

code_straight : (width : StoreWidth) (a : Address) (src : Register) (rs1 rs2 : ℕ) (first second : Option Register)
    → are_straight (read first Rax rs1 ++ (read second Rcx rs2 ++ (store_to width a src ∷ []))) ≡ true
code_straight width a src rs1 rs2 None None = store_straight width a src
code_straight width a src rs1 rs2 None (Some k) = store_straight width a src
code_straight width a src rs1 rs2 (Some q) None = store_straight width a src
code_straight width a src rs1 rs2 (Some q) (Some k) = store_straight width a src

-- the register goes to the place
puts : (width : StoreWidth) (a : Address) (src : Register) (c d : Core) → stores c (store_size width) (address c a) (c.registers (number src)) ≡ Ok d → exec (store_to width a src ∷ []) c ≡ Ok d
unfolding computes
puts Sb a src c d is = rw is refl
puts Sh a src c d is = rw is refl
puts Sw a src c d is = rw is refl

-- what a store leaves
store_comes : (p : Part) (l : Layout) (layout : IsLayout p l) (g : Going) (c : Core) (is : IsRelated p l g c) (width : StoreWidth) (rs1 rs2 : ℕ) (imm : ℤ) → rs1 < 32 → rs2 < 32 → IsImm12 imm
    → IsInData p (offset_by (value p g rs1) imm) (store_size width) → IsThere g.state.memory (offset_by (value p g rs1) imm) (store_size width)
    → Comes (store_code l.plan width rs1 rs2 (word imm)) p l c
    (record { place = g.place; state = record { hart = g.state.hart; memory = stored g.state.memory (offset_by (value p g rs1) imm) (store_size width) (value p g rs2) }; left = g.left })
store_comes p l layout g c is width rs1 rs2 imm f1 f2 range in_data there =
    let n = store_size width in
    let sized = store_sized width in
    let a = value p g rs1 in
    let b = value p g rs2 in
    let o1 = assigned l.plan rs1 in
    let o2 = assigned l.plan rs2 in
    let x = register_or o1 Rax in
    let y = register_or o2 Rcx in
    let to = data_address x (word imm) in
    let right = layout.plan_is_right in
    let first = reads p l layout g c Rax (omega arith) rs1 f1 is in
    let c1 = first.core in
    let is1 = related_kept p l layout g c c1 is first.kept in
    let second = reads p l layout g c1 Rcx (omega arith) rs2 f2 is1 in
    let c2 = second.core in
    let kept = kept_join c c1 c2 first.kept second.kept in
    let is2 = related_kept p l layout g c c2 is kept in
    let w = within p l layout g c is in_data.room n sized.some in_data.fits rs1 imm range in_data.tested in
    let place = l.data_start + (offset_by a imm - p.data_base) in
    let old = some_number (bytes_at g.state.memory (addresses (offset_by a imm) n)) there in
    let held : number_at c2.memory n place ≡ Some old.0 = ap (λ m. number_at m n place) kept.memory
    ∙ number_is p l layout g c is in_data.room n sized.some in_data.fits rs1 imm range in_data.tested ∙ old.1 in
    let inside : p.data_base + p.data_size ≤ 2 ^ 32 = omega (arith, in_data.room.above) in
    let c3 = with_memory c2 (written c2.memory n place b) in
    let in_x : c2.registers (number x) ≡ a = second.others (number x) (not_free l.plan right rs1 o1 refl Rax 1 (omega arith) (λ e. omega (arith, e))) ∙ first.result in
    let where_is : address c2 to ≡ place = place_is p l layout g c is in_data.room n sized.some in_data.fits rs1 imm range in_data.tested c2 x kept (not_frame l.plan right rs1 o1 refl Rax (omega arith)) in_x in
    let put : stores c2 n (address c2 to) (c2.registers (number y)) ≡ Ok c3 =
    ap (stores c2 n (address c2 to)) second.result ∙ ap (λ q. stores c2 n q b) where_is
    ∙ store_there c2 n place old.0 b (omega (arith, w.1, layout.window_ends)) held (may_be_written p l layout g c2 is2 width (offset_by a imm) b w.0 w.1 inside) in
    let runs : exec (store_code l.plan width rs1 rs2 (word imm)) c ≡ Ok c3 =
    exec_append (read o1 Rax rs1) (read o2 Rcx rs2 ++ (store_to width to y ∷ [])) c c1 first.runs
    ∙ exec_append (read o2 Rcx rs2) (store_to width to y ∷ []) c1 c2 second.runs
    ∙ puts width to y c2 c3 put in
    record {
      core = c3;
      runs = straight_runs (store_code l.plan width rs1 rs2 (word imm)) c c3 (code_straight width to y rs1 rs2 o1 o2) runs;
      related = related_stored p l layout g c2 is2 width (offset_by a imm) b w.0 w.1 inside;
      others = others_join p l c c2 c3 (others_kept p l c c2 kept) (data_stored p l layout g c2 is2 width (offset_by a imm) b w.0 w.1 inside);
    }

pub store_lines_run : StoreLinesRun
unfolding InRange
store_lines_run target p code rest own size owed next width rs1 rs2 imm l t at g c range below in_data there here =
    let does = store_code l.plan width rs1 rs2 (word imm) in
    let put = store_comes p l here.layout (owing owed g) c here.related width rs1 rs2 imm range.0 range.1 range.2 in_data there in
    let still = none_comes p l here.layout _ put.core put.related (Before rest) (address_after own size) in
    let moved : Comes does p l c (turn_with p l here.layout _ put.core put.related (Before rest) (address_after own size) 0 0 (g.left + owed)) = record { core = put.core; runs = put.runs; related = still; others = put.others } in
    let done = then_counted target p code rest own size owed next l here.layout g below c here.related does _ refl moved in
    rw (in_data.tested, there) (record {
      after = done.core;
      reached = in_more t _ line_most _ _ (store_few l.plan owed next width rs1 rs2 (word imm)) (done.runs t at here.text_is_fixed here.text_is_low here.stands);
      related = done.related;
      others = done.others;
    })
