-- A processor that has a turn's state.
use Rattle.std.proofs.Common.{List, [], sym, append-nil, ◌≡◌, ℕ, ◌+◌, ◌-◌, ◌*◌, ◌/◌, ◌%◌, ◌^◌, ◌<◌, ◌≤◌, ◌==◌, ◌&&◌, ◌⊎◌, inl, inr, Bool, true, false, Option, Some, None, length, refl, ap, ◌∙◌, arith, if◌then◌else◌, nat_lt}
use Rattle.std.specs.Prelude.{nat_le, ◌||◌}
use Rattle.std.proofs.lemmas.Bool.{cases_Bool, le-leb, lt-ltb, le-ltb, lt-leb}
use Rattle.rv_mem.specs.Bytes.{byte_at}
use Rattle.sfi_image.specs.Spelling.{Part}
use Rattle.sfi_translate.specs.Machine.{Going}
use Rattle.x86_instr.specs.declared.operand.Register.{Register}
use Rattle.x86_step.specs.State.{Core, Fixup, IsFixed, number_at}
use Rattle.x86_step.specs.Step.{unknown}
use Rattle.x86_step.specs.Running.{spellings}
use Rattle.sfi_native.specs.declared.layout.Layout.{Layout}
use Rattle.sfi_native.specs.Laws.{EachCodeCanBeRun}
use Rattle.sfi_native.specs.Layout.{DoNotMeet, IsClosed, Holds, IsLayout, IsRelated, frame_size, window, origin, slots_size, value}
use Rattle.sfi_native.specs.Registers.{IsRightPlan, assigned}
use Rattle.sfi_native.proofs.Assigned.{has_value, not_assigned, other_register, with_values}
use Rattle.sfi_native.proofs.Kept.{beside_frame, outside_slots}
use Rattle.sfi_native.proofs.Memory.{number_of_bytes}

module _ (p : Part) (l : Layout) (g : Going) (layout : IsLayout p l) where
  abbrev pub in_frame : ℕ → Bool
  in_frame a = nat_le l.frame a && nat_lt a (l.frame + slots_size)

  abbrev pub in_data : ℕ → Bool
  in_data a = nat_le l.data_start a && nat_lt a (l.data_start + p.data_size)

  -- byte k of the frame
  abbrev pub frame_byte : ℕ → ℕ
  frame_byte k = value p g (k / 4) / 256 ^ (k % 4) % 256

  abbrev bytes : ℕ → Option ℕ
  bytes a =
      if in_frame a then Some (frame_byte (a - l.frame))
      else if in_data a then byte_at g.state.memory (p.data_base + (a - l.data_start)) else None

  abbrev base_registers : ℕ → ℕ
  base_registers r = if r == 4 then l.frame else if r == 14 then g.left else origin p.data_base l

  abbrev registers : ℕ → ℕ
  registers = with_values l.plan (value p g) 32 base_registers

  abbrev held : Core
  held = record { registers = registers; flags = unknown; memory = bytes; writable = λ a. in_frame a || in_data a }

  pub frame_has : (k : ℕ) → k < slots_size → in_frame (l.frame + k) ≡ true
  frame_has k small =
      let low : nat_le l.frame (l.frame + k) ≡ true = le-leb l.frame (l.frame + k) (omega arith) in
      let high : nat_lt (l.frame + k) (l.frame + slots_size) ≡ true = lt-ltb (l.frame + k) (l.frame + slots_size) (omega (arith, small)) in
      rw (low, high) refl

  pub frame_lacks : (a : ℕ) → (a < l.frame) ⊎ (l.frame + slots_size ≤ a) → in_frame a ≡ false
  frame_lacks a (inl below) = rw (lt-leb l.frame a below) refl
  frame_lacks a (inr above) = elim (cases_Bool (nat_le l.frame a)) [
    | inl e ↦ rw (e, le-ltb a (l.frame + slots_size) above) refl
    | inr e ↦ rw e refl
  ]

  pub data_has : (k : ℕ) → k < p.data_size → in_data (l.data_start + k) ≡ true
  data_has k small =
      let low : nat_le l.data_start (l.data_start + k) ≡ true = le-leb l.data_start (l.data_start + k) (omega arith) in
      let high : nat_lt (l.data_start + k) (l.data_start + p.data_size) ≡ true = lt-ltb (l.data_start + k) (l.data_start + p.data_size) (omega (arith, small)) in
      rw (low, high) refl

  pub apart : (k : ℕ) → k < p.data_size → in_frame (l.data_start + k) ≡ false
  apart k small = frame_lacks (l.data_start + k) (elim layout.apart [
    | inl above ↦ inr (omega (arith, above, layout.window_begins))
    | inr below ↦ inl (omega (arith, below, small, layout.window_begins))
  ])

  byte_is : (k a : ℕ) → k < slots_size → a ≡ l.frame + k → bytes a ≡ Some (frame_byte k)
  byte_is k a small is =
      let place : l.frame + k - l.frame ≡ k = omega arith in
      let there : bytes (l.frame + k) ≡ Some (frame_byte k) = rw (frame_has k small, place) refl in
      ap bytes is ∙ there

  slot_byte : (r j : ℕ) → r < 32 → j < 4 → bytes (l.frame + 4 * r + j) ≡ Some (value p g r / 256 ^ j % 256)
  slot_byte r j small few =
      let quotient : (4 * r + j) / 4 ≡ r = omega (arith, few) in
      let rest : (4 * r + j) % 4 ≡ j = omega (arith, few) in
      byte_is (4 * r + j) (l.frame + 4 * r + j) (omega (arith, small, few)) (omega arith)
      ∙ ap (λ q. Some (value p g q / 256 ^ ((4 * r + j) % 4) % 256)) quotient ∙ ap (λ k. Some (value p g r / 256 ^ k % 256)) rest

  slot_holds : (r : ℕ) → r < 32 → value p g r < 2 ^ 32 → number_at bytes 4 (l.frame + 4 * r) ≡ Some (value p g r)
  slot_holds r small fits = number_of_bytes bytes (l.frame + 4 * r) (value p g r) fits (λ j few. slot_byte r j small few)

  right : IsRightPlan l.plan
  right = layout.plan_is_right

  holds : (r : ℕ) → r < 32 → value p g r < 2 ^ 32 → (o : Option Register) → assigned l.plan r ≡ o → Holds l held r o (value p g r)
  holds r small fits None e = slot_holds r small fits
  holds r small fits (Some q) e = has_value l.plan right (value p g) base_registers 32 r q small e

  own_register : (k : ℕ) → (k < 3) ⊎ ((13 < k) ⊎ (k ≡ 4)) → registers k ≡ base_registers k
  own_register k own = other_register l.plan right (value p g) base_registers 32 k (not_assigned l.plan right k own)

  data_is : (k : ℕ) → k < p.data_size → bytes (l.data_start + k) ≡ byte_at g.state.memory (p.data_base + k)
  data_is k small =
      let place : l.data_start + k - l.data_start ≡ k = omega arith in
      rw (apart k small, data_has k small, place) refl

  held_is : length g.state.hart.registers ≡ 32 → ((r : ℕ) → value p g r < 2 ^ 32) → g.left < 2 ^ 32 → IsRelated p l g held
  held_is count words few = record {
    register_count = count;
    words = words;
    registers = λ r small. holds r small (words r) (assigned l.plan r) refl;
    frame = own_register 4 (inr (inr refl));
    frame_is_written = λ k small. rw (frame_has k small) refl;
    few = few;
    left = own_register 14 (inr (inl (omega arith)));
    bytes = data_is;
    bytes_are_written = λ k small. rw (apart k small, data_has k small) refl;
    origin_is = own_register 15 (inr (inl (omega arith)));
  }

  pub data_lacks : (a : ℕ) → (a < l.data_start) ⊎ (l.data_start + p.data_size ≤ a) → in_data a ≡ false
  data_lacks a (inl below) = rw (lt-leb l.data_start a below) refl
  data_lacks a (inr above) = elim (cases_Bool (nat_le l.data_start a)) [
    | inl e ↦ rw (e, le-ltb a (l.data_start + p.data_size) above) refl
    | inr e ↦ rw e refl
  ]

  held_closed : IsClosed p l held
  held_closed a is outside =
      let lacks : in_frame a ≡ false = frame_lacks a (outside_slots a l.frame (beside_frame p l layout a is)) in
      let none : in_data a ≡ false = data_lacks a outside in
      rw (lacks, none) refl

  beside : (at n b m a : ℕ) → DoNotMeet at n b m → at ≤ a → a < at + n → (a < b) ⊎ (b + m ≤ a)
  beside at n b m a (inl before) low high = inl (omega (arith, before, high))
  beside at n b m a (inr after) low high = inr (omega (arith, after, low))

  fixed_is : (bytes : List ℕ) (fixups : ℕ → Option Fixup) (at : ℕ) → at + length bytes < 2 ^ 64 → DoNotMeet at (length bytes) l.frame frame_size → DoNotMeet at (length bytes) l.data_start p.data_size
      → IsFixed (record { base = at; bytes = bytes; fixups = fixups; handled = window p l }) held
  fixed_is bytes fixups at ends frame data_apart = record {
    ends = ends;
    apart = λ a low high.
        let e1 : in_frame a ≡ false = frame_lacks a (outside_slots a l.frame (beside at (length bytes) l.frame frame_size a frame low high)) in
        let e2 : in_data a ≡ false = data_lacks a (beside at (length bytes) l.data_start p.data_size a data_apart low high) in
        rw (e1, e2) refl;
  }

pub each_code_can_be_run : EachCodeCanBeRun
each_code_can_be_run is fixups at p l g layout count words few ends frame data_apart = (
  held p l g layout,
  record {
    layout = layout;
    text_is_fixed = fixed_is p l g layout (spellings is) fixups at (omega (arith, ends)) frame data_apart;
    text_is_low = ends;
    faults_are_handled = refl;
    stands = record { before = []; after = []; bytes_are = sym (append-nil (spellings is)); at_is = omega arith };
    related = held_is p l g layout count words few;
    closed = held_closed p l g layout;
  },
)
