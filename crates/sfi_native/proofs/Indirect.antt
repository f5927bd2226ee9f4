-- The code of a jalr, from its first instruction to where it goes out.
use Rattle.std.proofs.Common.{◌≡◌, ℕ, ◌+◌, ◌-◌, ◌%◌, ◌^◌, ◌<◌, ◌≤◌, Bool, true, false, List, [], ◌∷◌, ◌++◌, refl, ap, ◌∙◌, subst, arith, not, if◌then◌else◌, length}
use Rattle.std.specs.Prelude.{Ok, ℤ, bit_and}
use Rattle.std.proofs.lemmas.Nat.Bits.{and_high}
unfoldable use Rattle.rv_word.specs.Spelling.{InRange}
use Rattle.rv_word.specs.Spelling.{offset_by}
use Rattle.rv_mem.specs.Bytes.{address_after}
use Rattle.rv_step.specs.State.{even_of}
use Rattle.rv_step.specs.Step.{word}
use Rattle.sfi_image.specs.Spelling.{Part}
use Rattle.rv_word.specs.declared.instr.Instr.TheVariants.{Jalr}
use Rattle.sfi_translate.specs.Lines.{Line, Does}
use Rattle.sfi_translate.specs.Machine.{Assembly, Going, at_head, enters as enters_at, is_short, label, line_step, one_less}
use Rattle.x86_instr.specs.declared.operand.Register.TheVariants.{Rdx}
use Rattle.x86_instr.specs.declared.operand.Operand.TheVariants.{Reg}
use Rattle.x86_instr.specs.declared.instr.AluOp.TheVariants as alu
use Rattle.x86_instr.specs.declared.instr.Width.TheVariants.{Dword}
use Rattle.x86_instr.specs.declared.instr.Instr.TheVariants.{AluImm, Jmp}
use Rattle.x86_step.specs.State.{Core, IsFixed, Text, with_flags, with_register}
use Rattle.x86_step.specs.Step.{Reaches, is_canonical, jumped, logical, low, sum}
unfoldable use Rattle.x86_step.specs.Step.{computes}
use Rattle.x86_step.specs.Running.{HasAt, exec, spellings}
use Rattle.x86_step.proofs.Facts.{fixed_stays, steps_join}
use Rattle.x86_step.proofs.Running.{exec_append, has_back, has_front, spellings_append, in_more}
use Rattle.sfi_native.specs.declared.layout.Layout.{Layout}
use Rattle.sfi_native.specs.Layout.{IsLayout, IsRelated, OthersStay, owing, value}
use Rattle.sfi_native.specs.Laws.{IsLow, JalrLinesRun, end_of, jalr_owed, jalr_place, line_most}
use Rattle.sfi_native.specs.Code.{count, enter_code, enter_size, fetch, indirect_jump, jalr_line, number_code, start_code, start_size, steps_code, target_code}
use Rattle.sfi_native.specs.Entries.{entry_of, owed_at_entry}
use Rattle.sfi_native.specs.Places.{exit_of}
use Rattle.sfi_native.specs.Table.{HasTable, LieInCode, is_unit_start}
use Rattle.sfi_native.proofs.Accessing.{offset_is}
use Rattle.sfi_native.proofs.Counting.{counts}
use Rattle.sfi_native.proofs.Entering.{enters, has_steps, starts}
use Rattle.sfi_native.proofs.Fetching.{fetched, related_kept}
use Rattle.sfi_native.proofs.Kept.{Kept, kept_join, kept_register, kept_result, others_join, others_kept}
use Rattle.sfi_native.proofs.Lines.{number_written}
use Rattle.sfi_native.proofs.Lists.{enter_bytes, start_bytes}
use Rattle.sfi_native.proofs.Runs.{end_append, jal_effect, jumps_to, out_over, runs_join, straight_runs}
use Rattle.sfi_native.proofs.Table.{table_kept, table_stays}
use Rattle.sfi_native.proofs.Lengths.{jalr_front_few}

-- all bits but the lowest
masked : (n : ℕ) → n < 2 ^ 32 → bit_and n (2 ^ 32 - 2) ≡ even_of n
masked n small = and_high n 31 1 ∙ omega (arith, small)

target_is : (a : ℕ) (imm : ℤ) → a < 2 ^ 32 → bit_and (low Dword (low Dword (low Dword a + word imm))) (2 ^ 32 - 2) ≡ even_of (offset_by a imm)
target_is a imm small =
    let sum_is : low Dword (low Dword (low Dword a + word imm)) ≡ offset_by a imm = omega (arith, small, offset_is a imm) in
    ap (λ n. bit_and n (2 ^ 32 - 2)) sum_is ∙ masked (offset_by a imm) (omega (arith, offset_is a imm))

target_fits : (a : ℕ) (imm : ℤ) → even_of (offset_by a imm) < 2 ^ 32
target_fits a imm = omega (arith, offset_is a imm)

module _ (p : Part) (l : Layout) (layout : IsLayout p l) (g : Going) (c : Core) (is : IsRelated p l g c) where
  pub record Targets (rs1 : ℕ) (imm : ℤ) : Type 0 where
    pub core : Core
    pub runs : exec (target_code l.plan rs1 (word imm)) c ≡ Ok core
    pub kept : Kept c core
    pub edx : core.registers 2 ≡ even_of (offset_by (value p g rs1) imm)

  pub targets : (rs1 : ℕ) (imm : ℤ) → rs1 < 32 → Targets rs1 imm
  unfolding computes
  targets rs1 imm small =
      let a = value p g rs1 in
      let c1 = with_register c 2 a in
      let s = sum Dword (low Dword a) (word imm) in
      let c2 = with_flags (with_register c1 2 s.result) s.flags in
      let n = bit_and (low Dword (low Dword (low Dword a + word imm))) (2 ^ 32 - 2) in
      let c3 = with_flags (with_register c2 2 n) (logical Dword n).flags in
      record {
        core = c3;
        runs = exec_append (fetch l.plan Rdx rs1) (AluImm alu.Add Dword (Reg Rdx) (word imm) ∷ AluImm alu.And Dword (Reg Rdx) (2 ^ 32 - 2) ∷ []) c c1 (fetched p l layout g c Rdx rs1 small is) ∙ refl;
        kept = kept_join c c1 c3 (kept_register c 2 a (omega arith)) (kept_join c1 c2 c3 (kept_result c1 2 s.result s.flags (omega arith)) (kept_result c2 2 n (logical Dword n).flags (omega arith)));
        edx = target_is a imm (is.words rs1);
      }

-- ==== From the target in edx on.

module _ (p : Part) (l : Layout) (layout : IsLayout p l) (base : ℕ) (code : List Line) (lie : LieInCode p code) (t : Text) (low_text : IsLow t) (in_reach : base + exit_of l.plan code < 2 ^ 47) (k : Going) (few : k.left < 2 ^ 31) where
  module _ (d : Core) (is : IsRelated p l (owing 0 k) d) (has : HasTable p l base code d) (to : ℕ) (edx : d.registers 2 ≡ to) (fits : to < 2 ^ 32)
      (at distance : ℕ) (ahead : distance + (start_size + enter_size) < 2 ^ 31) where
    abbrev steps_end : ℕ
    steps_end = end_of at (steps_code distance)

    abbrev start_end : ℕ
    start_end = end_of steps_end (start_code distance)

    abbrev end : ℕ
    end = end_of at (indirect_jump distance)

    end_is : (end ≡ steps_end + (start_size + enter_size)) × (end ≡ start_end + enter_size)
    end_is =
        let one = end_append at (steps_code distance) (start_code distance ++ enter_code) in
        let two = end_append steps_end (start_code distance) enter_code in
        (omega (arith, one, two, start_bytes distance, enter_bytes), omega (arith, one, two, enter_bytes))

    pub record Goes (place owed : ℕ) : Type 0 where
      pub after : Core
      pub reached : Reaches t 12 (record { rip = at; core = d }) (record { rip = place; core = after })
      pub related : IsRelated p l (owing owed k) after
      pub others : OthersStay p l d after
      pub target : after.registers 2 ≡ to

    -- out, with nothing owed
    goes_out : (most place : ℕ) (e : Core) → most ≤ 12 → Reaches t most (record { rip = at; core = d }) (record { rip = place; core = e }) → Kept d e → e.registers 2 ≡ to → IsLayout p l → Goes place 0
    goes_out most place e fewer reached kept same right = record {
      after = e;
      reached = in_more t most 12 _ _ fewer reached;
      related = related_kept p l right (owing 0 k) d e is kept;
      others = others_kept p l d e kept;
      target = same;
    }

    module _ (fixed_text : IsFixed t d) (stands : HasAt t at (spellings (indirect_jump distance))) (canonical : is_canonical (jumped end distance) ≡ true) where
      parts : HasAt t at (spellings (steps_code distance) ++ spellings (start_code distance ++ enter_code))
      parts = subst (λ bytes. HasAt t at bytes) (spellings_append (steps_code distance) (start_code distance ++ enter_code)) stands

      more : HasAt t steps_end (spellings (start_code distance) ++ spellings enter_code)
      more = subst (λ bytes. HasAt t steps_end bytes) (spellings_append (start_code distance) enter_code) (has_back t at (spellings (steps_code distance)) (spellings (start_code distance ++ enter_code)) parts)

      short_out : jumped steps_end ((distance + (start_size + enter_size)) % 2 ^ 32) ≡ jumped end distance
      short_out = out_over steps_end end (start_size + enter_size) distance end_is.0 ahead

      start_out : jumped start_end ((distance + enter_size) % 2 ^ 32) ≡ jumped end distance
      start_out = out_over start_end end enter_size distance end_is.1 (omega (arith, ahead))

      abbrev entry : ℕ
      entry = base + entry_of l.plan code (label to code)

      abbrev entry_owed : ℕ
      entry_owed = owed_at_entry l.plan p (label to code)

      -- at a unit's start
      from_start : (e : Core) → Reaches t 7 (record { rip = at; core = d }) (record { rip = start_end; core = e }) → Kept d e → e.registers 2 ≡ to → is_unit_start p to ≡ true → Goes entry entry_owed
      from_start e reached kept same start =
          let own = has_back t steps_end (spellings (start_code distance)) (spellings enter_code) more in
          let it = enters p l layout base code lie t low_text in_reach e (table_kept p l layout base code d e kept has) to same start k few (related_kept p l layout (owing 0 k) d e is kept) start_end (fixed_stays t _ _ _ reached) own in
          record { after = it.after; reached = steps_join t 7 5 _ _ _ reached it.reached; related = it.related; others = others_join p l d e it.after (others_kept p l d e kept) it.others; target = it.target }

      by_start : (start : Bool) → is_unit_start p to ≡ start → (e : Core)
          → Reaches t 7 (record { rip = at; core = d }) (record { rip = if not start then jumped start_end ((distance + enter_size) % 2 ^ 32) else start_end; core = e })
          → Kept d e → e.registers 2 ≡ to → Goes (if start then entry else jumped end distance) (if start then entry_owed else 0)
      by_start true is_start e reached kept same = from_start e reached kept same is_start
      by_start false is_start e reached kept same =
          goes_out 7 (jumped end distance) e (omega arith) (subst (λ a. Reaches t 7 (record { rip = at; core = d }) (record { rip = a; core = e })) start_out reached) kept same layout

      -- with enough steps
      from_steps : (e : Core) → Reaches t 2 (record { rip = at; core = d }) (record { rip = steps_end; core = e }) → Kept d e → e.registers 2 ≡ to
          → Goes (if is_unit_start p to then entry else jumped end distance) (if is_unit_start p to then entry_owed else 0)
      from_steps e reached kept same =
          let own = has_front t steps_end (spellings (start_code distance)) (spellings enter_code) more in
          let it = starts p l layout code lie t low_text (owing 0 k) e (related_kept p l layout (owing 0 k) d e is kept) to same fits steps_end distance (fixed_stays t _ _ _ reached) own (ap is_canonical start_out ∙ canonical) in
          by_start (is_unit_start p to) refl it.after (steps_join t 2 5 _ _ _ reached it.reached) (kept_join d e it.after kept it.kept) it.target

      by_steps : (short : Bool) → (e : Core)
          → Reaches t 2 (record { rip = at; core = d }) (record { rip = if short then jumped steps_end ((distance + (start_size + enter_size)) % 2 ^ 32) else steps_end; core = e })
          → Kept d e → e.registers 2 ≡ to
          → Goes (if short then jumped end distance else if is_unit_start p to then entry else jumped end distance) (if short then 0 else if is_unit_start p to then entry_owed else 0)
      by_steps true e reached kept same =
          goes_out 2 (jumped end distance) e (omega arith) (subst (λ a. Reaches t 2 (record { rip = at; core = d }) (record { rip = a; core = e })) short_out reached) kept same layout
      by_steps false e reached kept same = from_steps e reached kept same

      pub goes_on : Goes (jalr_place l.plan p code base end distance to k.left) (jalr_owed l.plan p code to k.left)
      goes_on =
          let own = has_front t at (spellings (steps_code distance)) (spellings (start_code distance ++ enter_code)) parts in
          let it = has_steps t low_text d to edx k.left (omega (arith, is.left, few)) at distance fixed_text own (ap is_canonical short_out ∙ canonical) in
          by_steps (is_short Assembly k.left) it.after it.reached it.kept it.target

pub jalr_lines_run : JalrLinesRun
unfolding InRange computes
jalr_lines_run target p code rest address size owed rd rs1 imm distance base shared l t at g c range below arrives near stands canonical in_reach lie has here =
    let v = address_after address size in
    let to = even_of (offset_by (value p g rs1) imm) in
    let left = one_less g.left in
    let place = at_head target left (enters_at target p code address to) in
    let first = targets p l here.layout (owing owed g) c here.related rs1 imm range.1 in
    let k = first.core in
    let is = related_kept p l here.layout (owing owed g) c k here.related first.kept in
    let number = number_written p l here.layout (owing owed g) k is place to rd v range.0 (omega arith) in
    let w = number.0 in
    let few : left < 2 ^ 31 = omega (arith, below.some, below.left) in
    let after : Going = record { place = place; state = (line_step target p code (Does address size (Jalr rd rs1 imm) ∷ rest) g).state; left = left } in
    let last = counts p l here.layout _ w.core w.related (owed + 1) 0 left (omega (arith, below.some, below.left)) (omega (arith, few)) (omega (arith, below.few)) (omega arith) in
    let counting = count (owed + 1) 0 in
    let target_runs = straight_runs (target_code l.plan rs1 (word imm)) c k refl first.runs in
    let count_runs = runs_join (number_code l.plan rd v) counting k w.core last.core w.runs (straight_runs counting w.core last.core last.straight last.runs) in
    let front = target_code l.plan rs1 (word imm) ++ (number_code l.plan rd v ++ counting) in
    let runs = runs_join (target_code l.plan rs1 (word imm)) (number_code l.plan rd v ++ counting) c k last.core target_runs count_runs in
    let edx : last.core.registers 2 ≡ to = last.others 2 (λ e. omega (arith, e)) ∙ number.1 ∙ first.edx in
    let stay = others_join p l c k last.core (others_kept p l c k first.kept) (others_join p l k w.core last.core w.others last.stay) in
    let end = end_of at (jalr_line l.plan owed rd rs1 (word imm) v distance) in
    let jump = jumps_to t at front (Jmp distance) c last.core here.text_is_fixed here.text_is_low here.stands runs (jumped end distance)
    (λ after e. jal_effect distance after end last.core e (ap is_canonical arrives ∙ near)) in
    let jumps : Reaches t (length front + 1) (record { rip = at; core = c }) (record { rip = shared; core = last.core }) =
    subst (λ a. Reaches t (length front + 1) (record { rip = at; core = c }) (record { rip = a; core = last.core })) arrives jump in
    let it = goes_on p l here.layout base code lie t here.text_is_low in_reach after few last.core last.related (table_stays p l here.layout base code c last.core stay has) to edx (target_fits (value p g rs1) imm) shared 0 (omega arith)
    (fixed_stays t _ _ _ jumps) stands canonical in (
      record {
        after = it.after;
        reached = in_more t (length front + 1 + 12) line_most _ _ (omega (arith, jalr_front_few l.plan owed rd rs1 (word imm) v)) (steps_join t (length front + 1) 12 _ _ _ jumps it.reached);
        related = it.related;
        others = others_join p l c last.core it.after stay it.others;
      },
      it.target,
    )
