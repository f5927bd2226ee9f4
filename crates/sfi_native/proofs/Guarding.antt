-- The code of accesses that miss the data.
use Rattle.std.proofs.Common.{◌≡◌, ℕ, ◌+◌, ◌-◌, ◌*◌, ◌%◌, ◌^◌, ◌<◌, ◌≤◌, true, Option, Some, None, List, ◌∷◌, ◌++◌, refl, ap, ◌∙◌, sym, subst, append_assoc, arith, inl, inr, length}
use Rattle.std.specs.Prelude.{Err, ℤ, pos, negsuc, int_le, ◌+ℤ◌}
use Rattle.std.proofs.lemmas.Bool.{cases_lt, leb-false, le-ltb, lt-ltb}
use Rattle.std.proofs.lemmas.Int.{ints}
use Rattle.rv_word.specs.declared.instr.Instr.TheVariants.{Load, Store}
use Rattle.rv_word.specs.declared.instr.LoadKind.{LoadKind}
use Rattle.rv_word.specs.declared.instr.LoadKind.TheVariants.{Lb, Lh, Lw, Lbu, Lhu}
use Rattle.rv_word.specs.declared.instr.StoreWidth.{StoreWidth}
use Rattle.rv_word.specs.declared.instr.StoreWidth.TheVariants.{Sb, Sh, Sw}
use Rattle.rv_word.specs.Spelling.{IsImm12, offset_by}
unfoldable use Rattle.rv_word.specs.Spelling.{InRange}
use Rattle.rv_step.specs.Step.{load_size, store_size, word}
use Rattle.sfi_image.specs.Spelling.{Part}
use Rattle.sfi_safe_runs.proofs.Accessing.{load_sized, store_sized}
use Rattle.sfi_translate.specs.Machine.{Going, Slow, goes_with}
use Rattle.x86_instr.specs.declared.operand.Register.{Register}
use Rattle.x86_instr.specs.declared.operand.Register.TheVariants.{Rax, Rcx}
use Rattle.x86_instr.specs.Spelling.{number}
use Rattle.x86_instr.specs.declared.operand.Address.{Address}
use Rattle.x86_instr.specs.declared.instr.Instr.{Instr as Native}
use Rattle.x86_instr.specs.Spelling.{spelling}
use Rattle.x86_step.specs.declared.machine.Stop.TheVariants.{Fault}
use Rattle.x86_step.specs.State.{Core, Fixup, IsIn, Span, Text, number_at, with_register}
use Rattle.x86_step.specs.Step.{IsHandled, LiesIn, address, effect, loaded, resumed, sign_extended}
unfoldable use Rattle.x86_step.specs.Step.{accessed, computes}
use Rattle.x86_step.specs.Running.{spellings}
use Rattle.x86_step.proofs.Facts.{faults_resume}
use Rattle.x86_step.proofs.Missing.{load_missing, number_missing}
use Rattle.x86_step.proofs.Running.{has_front, in_more}
use Rattle.sfi_native.specs.declared.layout.Layout.{Layout}
use Rattle.sfi_native.specs.Layout.{IsClosed, IsLayout, IsRelated, closed_above, closed_below, origin, owing, value, window}
use Rattle.sfi_native.specs.Laws.{CountsBelow, FaultingLinesRun, IsBefore, LeavesData, LeadsTo, end_of, line_most}
use Rattle.sfi_native.specs.Code.{count, data_address, load_from, read, register_or, result_in, settle, store_to}
use Rattle.sfi_native.specs.Registers.{assigned, owed}
use Rattle.sfi_native.specs.Places.{owed_behind}
use Rattle.sfi_native.proofs.Accessing.{address_is, negative_small, positive_small}
use Rattle.sfi_native.proofs.Assigned.{not_frame, not_free}
use Rattle.sfi_native.proofs.Fetching.{reads, related_goes, related_kept}
use Rattle.sfi_native.proofs.Counting.{counted_core, counted_related, counted_stay, having}
use Rattle.sfi_native.proofs.Fronts.{store_parts}
use Rattle.sfi_native.proofs.Kept.{Kept, kept_join, kept_register, others_join, others_kept}
use Rattle.sfi_native.proofs.Runs.{Runs, back_fixed, back_stands, runs_join, straight_runs, then_reaches}

-- ==== Where the access goes.

-- An access of n bytes at an offset of 12 bits that stays in the window is there in the host, too. (r15 has the data's start less their
-- base, to which a register's 32 bits and the offset are added.)
module _ (a base size n start below above : ℕ) (low : 4096 ≤ base) (high : base + size + 4096 ≤ 2 ^ 32) (fits : a < 2 ^ 32) (some : 0 < n)
    (begins : below ≤ start) (ends : start + size + above ≤ 2 ^ 47) where
  pub record Reach (imm : ℤ) : Type 0 where
    pub place : ℕ
    pub place_is : ((start + (2 ^ 64 - base)) % 2 ^ 64 + a * 2 ^ 0 + sign_extended (word imm)) % 2 ^ 64 ≡ place
    pub from : start ≤ place + below
    pub to : place + n ≤ start + size + above
    pub inside : start ≤ place → place + n ≤ start + size → (offset_by a imm + (2 ^ 32 - base)) % 2 ^ 32 ≤ size - n

  in_host : (imm : ℤ) → IsImm12 imm → int_le (pos base) (pos a +ℤ imm +ℤ pos below) ≡ true
      → int_le (pos a +ℤ imm +ℤ pos n) (pos (base + size + above)) ≡ true → Reach imm
  in_host (pos k) range from to =
      let small = positive_small k range in
      let at_is : offset_by a (pos k) ≡ (a + k) % 2 ^ 32 = omega (arith, ints, fits, small) in
      let f : base ≤ a + k + below = omega (arith, ints, from) in
      let t : a + k + n ≤ base + size + above = omega (arith, ints, to) in
      let d : word (pos k) ≡ k = omega (arith, ints, small) in
      let near : sign_extended (word (pos k)) ≡ k = ap sign_extended d ∙ (rw (lt-ltb k (2 ^ 31) (omega (arith, small))) refl) in
      record {
        place = start + a + k - base;
        place_is = omega (arith, near, f, t, ends, begins, low, high);
        from = omega (arith, f, begins);
        to = omega (arith, t, f, begins);
        inside = λ first last. omega (arith, at_is, first, last, f, begins, high, low, some);
      }
  in_host (negsuc k) range from to =
      let small = negative_small k range in
      let at_is : offset_by a (negsuc k) ≡ (a + (2 ^ 32 - 1 - k)) % 2 ^ 32 = grind (arith, ints) in
      let f : base + k + 1 ≤ a + below = omega (arith, ints, from) in
      let t : a + n ≤ base + size + above + k + 1 = omega (arith, ints, to) in
      let d : word (negsuc k) ≡ 2 ^ 32 - 1 - k = omega (arith, ints, small) in
      let far : sign_extended (word (negsuc k)) ≡ 2 ^ 64 - 1 - k = ap sign_extended d ∙ (rw (le-ltb (2 ^ 32 - 1 - k) (2 ^ 31) (omega (arith, small))) (omega (arith, small))) in
      record {
        place = start + a - (base + k + 1);
        place_is = omega (arith, far, f, t, ends, begins, low, high, small);
        from = omega (arith, f, begins);
        to = omega (arith, t, f, begins);
        inside = λ first last. omega (arith, at_is, first, last, f, begins, high, low, some, small);
      }

module _ (p : Part) (l : Layout) (layout : IsLayout p l) (g : Going) (c : Core) (is : IsRelated p l g c) (closed : IsClosed p l c)
    (n : ℕ) (some : 0 < n) (rs1 : ℕ) (imm : ℤ) (range : IsImm12 imm) (access : LeavesData p (value p g rs1) imm n) where
  reach : Reach (value p g rs1) p.data_base p.data_size n l.data_start (closed_below p) (closed_above p) access.room.below access.room.above (is.words rs1) some layout.window_begins layout.window_ends imm
  reach = in_host (value p g rs1) p.data_base p.data_size n l.data_start (closed_below p) (closed_above p) access.room.below access.room.above (is.words rs1) some layout.window_begins layout.window_ends imm range access.low access.high

  abbrev place : ℕ
  place = reach.place

  in_window : (k : ℕ) → k < n → IsIn (window p l) (place + k)
  in_window k small = (omega (arith, reach.from), omega (arith, reach.to, small, layout.window_begins))

  -- one of its bytes is closed
  missing : number_at c.memory n place ≡ None
  missing = elim (cases_lt place l.data_start) [
    | inl before ↦
        number_missing c.memory n 0 place some (closed (place + 0) (in_window 0 some) (inl (omega (arith, before))))
    | inr behind ↦ elim (cases_lt (l.data_start + p.data_size) (place + n)) [
      | inl over ↦
          number_missing c.memory n (n - 1) place (omega (arith, some))
          (closed (place + (n - 1)) (in_window (n - 1) (omega (arith, some))) (inr (omega (arith, over, some))))
      | inr inside ↦
          let far : p.data_size - n < (offset_by (value p g rs1) imm + (2 ^ 32 - p.data_base)) % 2 ^ 32 = leb-false _ _ access.tested in
          let close = reach.inside behind inside in
          absurd (omega (arith, far, close))
    ]
  ]

  host_place : (d : Core) (x : Register) → (number x ≡ 4 → ⊥) → d.registers (number x) ≡ value p g rs1 → Kept c d → address d (data_address x (word imm)) ≡ place
  host_place d x index has kept = address_is d x (word imm) (origin p.data_base l) (value p g rs1) (kept.registers 15 (omega arith) ∙ is.origin_is) index has ∙ reach.place_is

  abbrev Handled : ℕ → Type 0
  Handled to = LiesIn (IsIn (window p l)) (Some (record { at = to; size = n }))

  handled_there : Handled place
  handled_there a from below = (omega (arith, reach.from, from), omega (arith, reach.to, below, layout.window_begins))

  -- all of its bytes lie where faults are handled
  pub handled : (d : Core) (x : Register) → (number x ≡ 4 → ⊥) → d.registers (number x) ≡ value p g rs1 → Kept c d → Handled (address d (data_address x (word imm)))
  handled d x index has kept = subst Handled (sym (host_place d x index has kept)) handled_there

  -- whatever the other free registers have
  pub faults : (d : Core) (x : Register) → (number x ≡ 4 → ⊥) → d.registers (number x) ≡ value p g rs1 → Kept c d → loaded d n (address d (data_address x (word imm))) ≡ Err Fault
  faults d x index has kept =
      ap (loaded d n) (host_place d x index has kept) ∙ load_missing d n place (ap (λ m. number_at m n place) kept.memory ∙ missing)

-- ==== The instruction.

load_faults : (kind : LoadKind) (dst : Register) (a : Address) (after : ℕ) (c : Core) → loaded c (load_size kind) (address c a) ≡ Err Fault → effect (load_from kind dst a) after c ≡ Err Fault
unfolding computes
load_faults Lb dst a after c is = rw is refl
load_faults Lh dst a after c is = rw is refl
load_faults Lw dst a after c is = rw is refl
load_faults Lbu dst a after c is = rw is refl
load_faults Lhu dst a after c is = rw is refl

store_faults : (width : StoreWidth) (a : Address) (src : Register) (after : ℕ) (c : Core) → loaded c (store_size width) (address c a) ≡ Err Fault → effect (store_to width a src) after c ≡ Err Fault
unfolding computes
store_faults Sb a src after c is = rw is refl
store_faults Sh a src after c is = rw is refl
store_faults Sw a src after c is = rw is refl

load_access : (kind : LoadKind) (dst : Register) (a : Address) (c : Core) → accessed (load_from kind dst a) c ≡ Some (record { at = address c a; size = load_size kind })
unfolding accessed
load_access Lb dst a c = refl
load_access Lh dst a c = refl
load_access Lw dst a c = refl
load_access Lbu dst a c = refl
load_access Lhu dst a c = refl

store_access : (width : StoreWidth) (a : Address) (src : Register) (c : Core) → accessed (store_to width a src) c ≡ Some (record { at = address c a; size = store_size width })
unfolding accessed
store_access Sb a src c = refl
store_access Sh a src c = refl
store_access Sw a src c = refl

-- at most one instruction reads a register
read_few : (o : Option Register) (r : ℕ) → length (read o Rax r) ≤ 2
read_few None r = omega arith
read_few (Some q) r = omega arith

two_few : (o1 o2 : Option Register) (r1 r2 : ℕ) → length (read o1 Rax r1 ++ read o2 Rcx r2) ≤ 2
two_few None None r1 r2 = omega arith
two_few None (Some k) r1 r2 = omega arith
two_few (Some q) None r1 r2 = omega arith
two_few (Some q) (Some k) r1 r2 = omega arith

-- an access that lies in the window is one of an instruction whose faults are handled
handled_by : (p : Part) (l : Layout) (t : Text) (access : Native) (d : Core) (span : Span) → t.handled ≡ window p l → accessed access d ≡ Some span
    → LiesIn (IsIn (window p l)) (Some span) → IsHandled t.handled (accessed access d)
handled_by p l t access d span there is lies =
    subst (λ own. IsHandled own (accessed access d)) (sym there) (subst (λ own. IsHandled (window p l) own) (sym is) lies)

-- Behind code that only changes free registers, an instruction that faults goes on by its fixup, which subtracts what is owed.
module _ (p : Part) (l : Layout) (t : Text) (at : ℕ) (f : Fixup) (g : Going) (owed address : ℕ) (below : CountsBelow g owed 0) (subtracts : f.subtracted ≡ owed) where
  pub record Resumes (c : Core) : Type 0 where
    pub leads : LeadsTo t at f.to p l c (goes_with g Slow address)
    pub edx : leads.after.registers 2 ≡ f.rdx

  goes_on : (front back : List Native) (access : Native) (c d : Core)
      → IsBefore (front ++ (access ∷ back)) t at p l (owing owed g) c → Runs front c d → Kept c d → ((after : ℕ) → effect access after d ≡ Err Fault)
      → length front ≤ 2 → t.fixups (end_of at front) ≡ Some f → IsHandled t.handled (accessed access d) → Resumes c
  goes_on front back access c d here runs kept faults few has lies =
      let behind = access ∷ back in
      let own = has_front t (end_of at front) (spelling access) (spellings back) (back_stands t at front behind c d here.text_is_fixed here.text_is_low here.stands runs) in
      let fixed_here = back_fixed t at front behind c d here.text_is_fixed here.text_is_low here.stands runs in
      let k = with_register d 2 f.rdx in
      let all = kept_join c d k kept (kept_register d 2 f.rdx (omega arith)) in
      let related = related_kept p l here.layout (owing owed g) c k here.related all in
      let less = (d.registers 14 + (2 ^ 32 - f.subtracted)) % 2 ^ 32 in
      let less_is : less ≡ g.left = omega (arith, related.left, subtracts, below.left, below.few) in
      let fits : g.left < 2 ^ 32 = omega (arith, below.left) in
      let counted = counted_related p l here.layout (owing owed g) k related g.left less k.flags less_is fits in
      let stay = counted_stay p l here.layout (owing owed g) k related g.left less k.flags less_is fits in
      record {
        leads = record {
          after = counted_core k less k.flags;
          reached = in_more t _ line_most _ _ (omega (arith, few)) (then_reaches t at front behind c d here.text_is_fixed here.text_is_low here.stands runs 1 (resumed f d)
              (faults_resume t (end_of at front) access d f fixed_here own (faults _) has lies));
          related = related_goes p l (having g.left (owing owed g)) (counted_core k less k.flags) Slow address counted;
          others = others_join p l c k (counted_core k less k.flags) (others_kept p l c k all) stay;
        };
        edx = refl;
      }

pub faulting_lines_run : FaultingLinesRun
unfolding InRange
faulting_lines_run target p code rest address size (Load kind rd rs1 imm) distance out f l t at g c range below access here has subtracts =
    let o = assigned l.plan rs1 in
    let place = assigned l.plan rd in
    let x = register_or o Rax in
    let to = data_address x (word imm) in
    let load = load_from kind (result_in place) to in
    let front = read o Rax rs1 in
    let n = owed l.plan address in
    let last = count (n + 1) (owed_behind l.plan address size) in
    let back = settle l.plan place rd ++ last in
    let stands = subst (λ is. IsBefore is t at p l (owing n g) c) (append_assoc front (load ∷ settle l.plan place rd) last) here in
    let first = reads p l here.layout (owing n g) c Rax (omega arith) rs1 range.1 here.related in
    let index = not_frame l.plan here.layout.plan_is_right rs1 o refl Rax (omega arith) in
    let it = goes_on p l t at f g n address below subtracts front back load c first.core stands
    (straight_runs front c first.core first.straight first.runs) first.kept
    (λ after. load_faults kind (result_in place) to after first.core
    (faults p l here.layout (owing n g) c here.related here.closed (load_size kind) (load_sized kind).some rs1 imm range.2 access first.core x index first.result first.kept))
    (read_few o rs1) has
    (handled_by p l t load first.core _ here.faults_are_handled (load_access kind (result_in place) to first.core)
    (handled p l here.layout (owing n g) c here.related here.closed (load_size kind) (load_sized kind).some rs1 imm range.2 access first.core x index first.result first.kept)) in
    rw access.tested (it.leads, it.edx)
faulting_lines_run target p code rest address size (Store width rs1 rs2 imm) distance out f l t at g c range below access here has subtracts =
    let o1 = assigned l.plan rs1 in
    let o2 = assigned l.plan rs2 in
    let x = register_or o1 Rax in
    let y = register_or o2 Rcx in
    let to = data_address x (word imm) in
    let store = store_to width to y in
    let right = here.layout.plan_is_right in
    let one = read o1 Rax rs1 in
    let two = read o2 Rcx rs2 in
    let n = owed l.plan address in
    let last = count (n + 1) (owed_behind l.plan address size) in
    let stands = subst (λ is. IsBefore is t at p l (owing n g) c) (sym (store_parts one two last store)) here in
    let first = reads p l here.layout (owing n g) c Rax (omega arith) rs1 range.0 here.related in
    let second = reads p l here.layout (owing n g) first.core Rcx (omega arith) rs2 range.1 (related_kept p l here.layout (owing n g) c first.core here.related first.kept) in
    let d = second.core in
    let kept = kept_join c first.core d first.kept second.kept in
    let in_x = second.others (number x) (not_free l.plan right rs1 o1 refl Rax 1 (omega arith) (λ e. omega (arith, e))) ∙ first.result in
    let index = not_frame l.plan right rs1 o1 refl Rax (omega arith) in
    let it = goes_on p l t at f g n address below subtracts (one ++ two) last store c d stands
    (runs_join one two c first.core d (straight_runs one c first.core first.straight first.runs) (straight_runs two first.core d second.straight second.runs)) kept
    (λ after. store_faults width to y after d
    (faults p l here.layout (owing n g) c here.related here.closed (store_size width) (store_sized width).some rs1 imm range.2 access d x index in_x kept))
    (two_few o1 o2 rs1 rs2) has
    (handled_by p l t store d _ here.faults_are_handled (store_access width to y d)
    (handled p l here.layout (owing n g) c here.related here.closed (store_size width) (store_sized width).some rs1 imm range.2 access d x index in_x kept)) in
    rw access.tested (it.leads, it.edx)
faulting_lines_run target p code rest address size i distance out f l t at g c range below access here has subtracts = absurd access
