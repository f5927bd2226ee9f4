-- The code of loads from the data.
use Rattle.std.proofs.Common.{◌≡◌, ℕ, ◌+◌, ◌-◌, ◌^◌, ◌<◌, ◌≤◌, true, Option, Some, [], ◌∷◌, ◌++◌, refl, ap, ◌∙◌, subst, append_assoc, arith}
use Rattle.std.specs.Prelude.{Ok, ℤ}
use Rattle.std.proofs.lemmas.Int.{ints}
use Rattle.rv_word.specs.declared.instr.LoadKind.{LoadKind}
use Rattle.rv_word.specs.declared.instr.LoadKind.TheVariants.{Lb, Lh, Lw, Lbu, Lhu}
use Rattle.rv_word.specs.Spelling.{IsImm12, offset_by}
unfoldable use Rattle.rv_word.specs.Spelling.{InRange}
use Rattle.rv_mem.specs.Bytes.{IsMemory, address_after, addresses, bytes_at, loaded as read_at}
use Rattle.rv_step.specs.Step.{extended, load_size, word}
use Rattle.rv_step.proofs.States.{extended_fits, loaded_fits}
use Rattle.sfi_safe_runs.proofs.Accessing.{load_sized}
use Rattle.sfi_image.specs.Parts.{HasGuardRoom}
use Rattle.sfi_image.specs.Spelling.{Part}
use Rattle.sfi_translate.specs.Machine.{Before, Going, is_tested}
use Rattle.x86_instr.specs.declared.operand.Register.{Register}
use Rattle.x86_instr.specs.declared.operand.Register.TheVariants.{Rax}
use Rattle.x86_instr.specs.declared.instr.Instr.{Instr as Native}
use Rattle.x86_instr.specs.Spelling.{number}
use Rattle.x86_instr.specs.declared.operand.Address.{Address}
use Rattle.x86_instr.specs.declared.instr.Narrow.TheVariants.{Byte, Word}
use Rattle.x86_instr.specs.declared.instr.Extension.TheVariants.{Sign}
use Rattle.x86_step.specs.State.{Core, number_at, with_register}
use Rattle.x86_step.specs.Step.{address, loaded, extended as extended_by}
unfoldable use Rattle.x86_step.specs.Step.{computes}
use Rattle.x86_step.specs.Running.{are_straight, exec}
use Rattle.sfi_native.specs.declared.layout.Layout.{Layout}
use Rattle.sfi_native.specs.Layout.{IsLayout, IsRelated, owing, value}
use Rattle.sfi_native.specs.Laws.{LoadLinesRun, line_most}
use Rattle.sfi_native.specs.Code.{data_address, load_code, load_from, read, register_or, result_in, settle}
use Rattle.sfi_native.specs.Registers.{assigned}
use Rattle.sfi_native.proofs.Assigned.{not_frame, updated_same}
use Rattle.sfi_native.proofs.Accessing.{number_is, place_is, some_number, within}
use Rattle.sfi_native.proofs.Runs.{runs_join, straight_runs}
use Rattle.sfi_native.proofs.Kept.{Leaves, but_join, but_register, kept_but}
use Rattle.sfi_native.proofs.Fetching.{reads}
use Rattle.sfi_native.proofs.Lines.{Comes, settled, then_counted, turn_with}
use Rattle.sfi_native.proofs.Memory.{load_there}
use Rattle.x86_step.proofs.Running.{in_more}
use Rattle.sfi_native.proofs.Lengths.{load_few}

byte_extended : (v : ℕ) → v < 256 → extended_by Sign Byte v ≡ extended Lb v
byte_extended v small = grind (arith, ints)

word_extended : (v : ℕ) → v < 65536 → extended_by Sign Word v ≡ extended Lh v
word_extended v small = grind (arith, ints)

-- what is read goes to that register
loads : (kind : LoadKind) (dst : Register) (a : Address) (c : Core) (v : ℕ) → v < 256 ^ load_size kind → loaded c (load_size kind) (address c a) ≡ Ok v
    → exec (load_from kind dst a ∷ []) c ≡ Ok (with_register c (number dst) (extended kind v))
unfolding computes
loads Lb dst a c v fits is = rw is (ap (λ x. Ok (with_register c (number dst) x)) (byte_extended v fits))
loads Lh dst a c v fits is = rw is (ap (λ x. Ok (with_register c (number dst) x)) (word_extended v fits))
loads Lw dst a c v fits is = rw is refl
loads Lbu dst a c v fits is = rw is refl
loads Lhu dst a c v fits is = rw is refl

load_straight : (kind : LoadKind) (dst : Register) (a : Address) → are_straight (load_from kind dst a ∷ []) ≡ true
load_straight Lb dst a = refl
load_straight _ dst a = refl

module _ (p : Part) (l : Layout) (layout : IsLayout p l) (g : Going) (c : Core) (is : IsRelated p l g c) (room : HasGuardRoom p.data_base p.data_size) (memory : IsMemory g.state.memory) (kind : LoadKind) (few : load_size kind ≤ p.data_size) (rs1 : ℕ) (imm : ℤ) (v : ℕ) (small : rs1 < 32) (range : IsImm12 imm)
    (tested : is_tested p (offset_by (value p g rs1) imm) (load_size kind) ≡ true) (reads_it : read_at g.state.memory (offset_by (value p g rs1) imm) (load_size kind) ≡ Some v) where
  abbrev at : ℕ
  at = offset_by (value p g rs1) imm

  inside : (p.data_base ≤ at) × (at - p.data_base + load_size kind ≤ p.data_size)
  inside = within p l layout g c is room (load_size kind) (load_sized kind).some few rs1 imm range tested

  there : number_at c.memory (load_size kind) (l.data_start + (at - p.data_base)) ≡ Some v
  there = number_is p l layout g c is room (load_size kind) (load_sized kind).some few rs1 imm range tested ∙ reads_it

  fits : v < 256 ^ load_size kind
  fits = loaded_fits g.state.memory at v kind memory reads_it

  abbrev base : Option Register
  base = assigned l.plan rs1

  abbrev pub load_in : Register → Native
  load_in dst = load_from kind dst (data_address (register_or base Rax) (word imm))

  pub load_leaves : (dst : Register) → Leaves (number dst) (read base Rax rs1 ++ (load_in dst ∷ [])) c (extended kind v)
  load_leaves dst =
      let n = load_size kind in
      let x = register_or base Rax in
      let to = data_address x (word imm) in
      let first = reads p l layout g c Rax (omega arith) rs1 small is in
      let d = first.core in
      let place = place_is p l layout g c is room n (load_sized kind).some few rs1 imm range tested d x first.kept (not_frame l.plan layout.plan_is_right rs1 base refl Rax (omega arith)) first.result in
      let load : loaded d n (address d to) ≡ Ok v =
      ap (loaded d n) place
      ∙ load_there d n (l.data_start + (at - p.data_base)) v (omega (arith, inside.1, layout.window_ends)) (ap (λ m. number_at m n (l.data_start + (at - p.data_base))) first.kept.memory ∙ there) in
      let after = with_register d (number dst) (extended kind v) in
      record {
        after = after;
        runs = runs_join (read base Rax rs1) (load_in dst ∷ []) c d after (straight_runs (read base Rax rs1) c d first.straight first.runs)
            (straight_runs (load_in dst ∷ []) d after (load_straight kind dst to) (loads kind dst to d v fits load));
        result = updated_same d.registers (number dst) (extended kind v);
        kept = but_join (number dst) c d after (kept_but (number dst) c d first.kept) (but_register d (number dst) (extended kind v));
      }

pub load_lines_run : LoadLinesRun
unfolding InRange
load_lines_run target p code rest address size owed next kind rd rs1 imm l t at g c range below in_data memory there here =
    let found = some_number (bytes_at g.state.memory (addresses (offset_by (value p g rs1) imm) (load_size kind))) there in
    let v = found.0 in
    let has : read_at g.state.memory (offset_by (value p g rs1) imm) (load_size kind) ≡ Some v = found.1 in
    let value_fits = extended_fits kind v (loaded_fits g.state.memory (offset_by (value p g rs1) imm) v kind memory has) in
    let place = assigned l.plan rd in
    let dst = result_in place in
    let front = read (assigned l.plan rs1) Rax rs1 in
    let load = load_from kind dst (data_address (register_or (assigned l.plan rs1) Rax) (word imm)) in
    let k = owing owed g in
    let leaves = load_leaves p l here.layout k c here.related in_data.room memory kind in_data.fits rs1 imm v range.1 range.2 in_data.tested has dst in
    let written = settled p l here.layout k c here.related (Before rest) (address_after address size) (front ++ (load ∷ [])) place rd (extended kind v) range.0 value_fits (λ q e. e) leaves in
    let turn = turn_with p l here.layout k c here.related (Before rest) (address_after address size) rd (extended kind v) k.left in
    let whole = subst (λ is. Comes is p l c turn) (append_assoc front (load ∷ []) (settle l.plan place rd)) written in
    let done = then_counted target p code rest address size owed next l here.layout g below c here.related (load_code l.plan kind rd rs1 (word imm)) turn refl whole in
    rw (in_data.tested, has) (record {
      after = done.core;
      reached = in_more t _ line_most _ _ (load_few l.plan owed next kind rd rs1 (word imm)) (done.runs t at here.text_is_fixed here.text_is_low here.stands);
      related = done.related;
      others = done.others;
    })
