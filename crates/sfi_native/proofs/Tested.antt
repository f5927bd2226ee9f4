-- A jump, with a test of the steps left or without one, from its first instruction to where it leads.
use Rattle.std.proofs.Common.{◌≡◌, ℕ, ◌+◌, ◌-◌, ◌%◌, ◌^◌, ◌<◌, ◌≤◌, ◌⊎◌, ◌&&◌, Bool, true, false, Some, [], ◌∷◌, length, refl, sym, ap, ◌∙◌, subst, arith, if◌then◌else◌, inl, inr, nat_lt, not}
use Rattle.std.proofs.lemmas.Bool.{cases_lt, false≢true, le-ltb, lt-ltb}
use Rattle.sfi_image.specs.Spelling.{Part}
use Rattle.sfi_translate.specs.Machine.{Assembly, Going, is_short, most}
use Rattle.x86_instr.specs.declared.operand.Register.TheVariants.{R14}
use Rattle.x86_instr.specs.declared.operand.Operand.TheVariants.{Reg}
use Rattle.x86_instr.specs.declared.instr.AluOp.TheVariants as alu
use Rattle.x86_instr.specs.declared.instr.Condition.TheVariants.{AboveOrEqual}
use Rattle.x86_instr.specs.declared.instr.Instr.TheVariants.{AluImm, Jcc, Jmp}
use Rattle.x86_instr.specs.declared.instr.Width.TheVariants.{Dword}
use Rattle.x86_step.specs.State.{Core, Text, with_flags}
use Rattle.x86_step.specs.Step.{Reaches, difference, is_canonical, is_met, jumped, low}
unfoldable use Rattle.x86_step.specs.Step.{computes}
use Rattle.x86_step.specs.Running.{HasAt, spellings}
use Rattle.x86_step.proofs.Facts.{fixed_stays, steps_join}
use Rattle.x86_step.proofs.Running.{has_back, has_front, in_more, spellings_append}
use Rattle.sfi_native.specs.declared.jump.Jump.{Jump}
use Rattle.sfi_native.specs.declared.layout.Layout.{Layout}
use Rattle.sfi_native.specs.Layout.{IsRelated, OthersStay, owing}
use Rattle.sfi_native.specs.Laws.{IsBefore, IsJump, end_of, is_slow, jump_owed, jump_place}
use Rattle.sfi_native.specs.Code.{count, count_size, has_test, leap, leave_line, leave_line_size, test_code, tested, tested_jump}
use Rattle.sfi_native.proofs.Counted.{before, behind as reaches_behind, ends, it, size_most}
use Rattle.sfi_native.proofs.Fetching.{related_kept}
use Rattle.sfi_native.proofs.Heads.{leave_line_runs}
use Rattle.sfi_native.proofs.Kept.{closed_kept, kept_flags, others_join, others_kept, others_same}
use Rattle.sfi_native.proofs.Lists.{leave_line_bytes, tested_size}
use Rattle.sfi_native.proofs.Runs.{branch_effect, end_append, jal_effect, jumps_to, out_over, straight_runs}

-- few enough to be skipped
pub tested_few : (owed : ℕ) (j : Jump) → owed < 65 → j.label_owed < 63 → length (spellings (tested_jump owed j)) < 2 ^ 31
tested_few owed j few few_label = by (has_test j) (tested_size owed j (omega (arith, few)) few_label)
  where
    by : (tested : Bool) → length (spellings (tested_jump owed j)) ≡ count_size owed j.label_owed + (if tested then 10 + leave_line_size j.label_owed else 5) → length (spellings (tested_jump owed j)) < 2 ^ 31
    by true is = omega (arith, is, size_most owed j.label_owed, size_most j.label_owed 0)
    by false is = omega (arith, is, size_most owed j.label_owed)

-- What is owed is on both sides of the test.
owed_beside : (left owed n : ℕ) → nat_lt (left + owed) (n + owed) ≡ nat_lt left n
owed_beside left owed n = elim (cases_lt left n) [
  | inl less ↦ lt-ltb (left + owed) (n + owed) (omega (arith, less)) ∙ sym (lt-ltb left n less)
  | inr more ↦ le-ltb (left + owed) (n + owed) (omega (arith, more)) ∙ sym (le-ltb left n more)
]

-- to a label over a distance from an end that is so many bytes on
label_over : (from end more distance : ℕ) → end ≡ from + more → distance < 2 ^ 32 → (distance + more < 2 ^ 31) ⊎ (2 ^ 31 ≤ distance) → more < 2 ^ 31
    → jumped from ((distance + more) % 2 ^ 32) ≡ jumped end distance
label_over from end more distance is fits (inl ahead) small = out_over from end more distance is ahead
label_over from end more distance is fits (inr back) small =
    let far : nat_lt distance (2 ^ 31) ≡ false = le-ltb distance (2 ^ 31) back in
    elim (cases_lt (distance + more) (2 ^ 32)) [
      | inl below ↦
          let same : (distance + more) % 2 ^ 32 ≡ distance + more = omega (arith, below) in
          let farther : nat_lt (distance + more) (2 ^ 31) ≡ false = le-ltb (distance + more) (2 ^ 31) (omega (arith, back)) in
          ap (jumped from) same ∙ (rw (far, farther) (omega (arith, is)))
      | inr over ↦
          let less : (distance + more) % 2 ^ 32 ≡ distance + more - 2 ^ 32 = omega (arith, over, fits, small) in
          let near : nat_lt (distance + more - 2 ^ 32) (2 ^ 31) ≡ true = lt-ltb (distance + more - 2 ^ 32) (2 ^ 31) (omega (arith, over, fits, small)) in
          ap (jumped from) less ∙ (rw (far, near) (omega (arith, is, over, fits)))
    ]

-- it leads there, where so many steps are owed
pub record Leads (t : Text) (p : Part) (l : Layout) (g : Going) (most from to owed : ℕ) (d : Core) : Type 0 where
  pub after : Core
  pub reached : Reaches t most (record { rip = from; core = d }) (record { rip = to; core = after })
  pub related : IsRelated p l (owing owed g) after
  pub others : OthersStay p l d after

-- ==== A test.

-- where it leads is canonical, and not too far ahead to be reached from before the way out
pub record CanLead (end owed label exit : ℕ) : Type 0 where
  pub fits : label < 2 ^ 32
  pub near : (label + leave_line_size owed < 2 ^ 31) ⊎ (2 ^ 31 ≤ label)
  pub label_is : is_canonical (jumped end label) ≡ true
  pub exit_is : is_canonical (jumped end exit) ≡ true

module _ (t : Text) (p : Part) (l : Layout) (to owed label exit : ℕ) (few : owed < 63) (g : Going) (below : g.left < 2 ^ 31) (at : ℕ) (d : Core) where
  abbrev pub end : ℕ
  end = end_of at (tested to owed label exit)

  -- to the label, or out where too few steps are left
  pub record Tests (short : Bool) : Type 0 where
    pub leads : Leads t p l g 5 at (jumped end (if short then exit else label)) (if short then 0 else owed) d
    pub edx : short ≡ true → leads.after.registers 2 ≡ to

  abbrev over : ℕ
  over = (label + leave_line_size owed) % 2 ^ 32

  abbrev test_end : ℕ
  test_end = end_of at (test_code owed label)

  end_is : end ≡ test_end + leave_line_size owed
  end_is = sym (end_append at (test_code owed label) (leave_line to owed exit)) ∙ ap (λ n. test_end + n) (leave_line_bytes to owed exit few)

  over_is : CanLead end owed label exit → jumped test_end over ≡ jumped end label
  over_is can = label_over test_end end (leave_line_size owed) label end_is can.fits can.near (omega (arith, size_most owed 0))

  -- the flags are those of the comparison
  abbrev compared : Core
  compared = with_flags d (difference Dword (low Dword (d.registers 14)) (most + owed)).flags

  by_outcome : (short : Bool) → IsBefore (tested to owed label exit) t at p l (owing owed g) d → CanLead end owed label exit
      → Reaches t 2 (record { rip = at; core = d }) (record { rip = if not short then jumped test_end over else test_end; core = compared }) → Tests short
  by_outcome false here can reached = record {
    leads = record {
      after = compared;
      reached = subst (λ a. Reaches t 5 (record { rip = at; core = d }) (record { rip = a; core = compared })) (over_is can) (in_more t 2 5 _ _ (omega arith) reached);
      related = related_kept p l here.layout (owing owed g) d compared here.related (kept_flags d compared.flags);
      others = others_kept p l d compared (kept_flags d compared.flags);
    };
    edx = λ e. absurd (false≢true e);
  }
  by_outcome true here can reached =
      let parts = subst (λ bytes. HasAt t at bytes) (spellings_append (test_code owed label) (leave_line to owed exit)) here.stands in
      let kept = kept_flags d compared.flags in
      let others = others_kept p l d compared kept in
      let own : IsBefore (leave_line to owed exit) t test_end p l (owing owed g) compared = record {
        layout = here.layout;
        text_is_fixed = fixed_stays t _ _ _ reached;
        text_is_low = here.text_is_low;
        faults_are_handled = here.faults_are_handled;
        stands = has_back t at (spellings (test_code owed label)) (spellings (leave_line to owed exit)) parts;
        related = related_kept p l here.layout (owing owed g) d compared here.related kept;
        closed = closed_kept p l here.layout d compared others here.closed;
      } in
      let same : end_of test_end (leave_line to owed exit) ≡ end = end_append at (test_code owed label) (leave_line to owed exit) in
      let out = leave_line_runs p l t test_end to owed exit few g below compared own (ap (λ a. is_canonical (jumped a exit)) same ∙ can.exit_is) in
      record {
        leads = record {
          after = out.after;
          reached = subst (λ a. Reaches t 5 (record { rip = at; core = d }) (record { rip = jumped a exit; core = out.after })) same (steps_join t 2 3 _ _ _ reached out.reached);
          related = out.related;
          others = others_join p l d compared out.after others out.others;
        };
        edx = λ e. out.edx;
      }

  pub tests : IsBefore (tested to owed label exit) t at p l (owing owed g) d → CanLead end owed label exit → Tests (is_short Assembly g.left)
  unfolding computes
  tests here can =
      let compare = AluImm alu.Cmp Dword (Reg R14) (most + owed) ∷ [] in
      let short = is_short Assembly g.left in
      let same : low Dword (d.registers 14) ≡ g.left + owed = omega (arith, here.related.left, here.related.few) in
      let counted : g.left % 2 ^ 31 ≡ g.left = omega (arith, below) in
      let less : nat_lt (low Dword (d.registers 14)) (most + owed) ≡ short =
      ap (λ n. nat_lt n (most + owed)) same ∙ owed_beside g.left owed most ∙ ap (λ n. nat_lt n most) (sym counted) in
      let met : is_met AboveOrEqual compared.flags ≡ Some (not short) = ap (λ t. Some (not t)) less in
      let parts = subst (λ bytes. HasAt t at bytes) (spellings_append (test_code owed label) (leave_line to owed exit)) here.stands in
      let reached = jumps_to t at compare (Jcc AboveOrEqual over) d compared here.text_is_fixed here.text_is_low (has_front t at (spellings (test_code owed label)) (spellings (leave_line to owed exit)) parts)
      (straight_runs compare d compared refl refl) (if not short then jumped test_end over else test_end)
      (λ after e. branch_effect AboveOrEqual over after test_end compared (not short) e met (ap is_canonical (over_is can) ∙ can.label_is)) in
      by_outcome short here can reached

-- ==== A jump behind its count.

module _ (t : Text) (p : Part) (l : Layout) (j : Jump) (g : Going) (below : g.left < 2 ^ 31) (few : j.label_owed < 63) (at : ℕ) (d : Core) where
  abbrev end_by : Bool → ℕ
  end_by by_test = end_of at (leap by_test j)

  pub record Leaps (by_test : Bool) : Type 0 where
    pub leads : Leads t p l g 5 at (jumped (end_by by_test) (if by_test && is_short Assembly g.left then j.exit else j.label)) (if by_test && is_short Assembly g.left then 0 else j.label_owed) d
    pub edx : by_test && is_short Assembly g.left ≡ true → leads.after.registers 2 ≡ j.to

  leaps : (by_test : Bool) → IsBefore (leap by_test j) t at p l (owing j.label_owed g) d → IsJump (end_by by_test) j → Leaps by_test
  leaps false here jump =
      let to = jumped (end_by false) j.label in
      let reached = jumps_to t at [] (Jmp j.label) d d here.text_is_fixed here.text_is_low here.stands (straight_runs [] d d refl refl) to
      (λ after e. jal_effect j.label after (end_by false) d e jump.label) in
      record {
        leads = record { after = d; reached = in_more t 1 5 _ _ (omega arith) reached; related = here.related; others = others_same p l d };
        edx = λ e. absurd (false≢true e);
      }
  leaps true here jump =
      let it = tests t p l j.to j.label_owed j.label j.exit few g below at d here (record { fits = jump.fits; near = jump.near; label_is = jump.label; exit_is = jump.exit }) in
      record { leads = it.leads; edx = it.edx }

-- ==== From its count on.

module _ (t : Text) (p : Part) (l : Layout) (j : Jump) (g : Going) (below : g.left < 2 ^ 31) (at owed : ℕ) (few_owed : owed < 65) (d : Core) where
  abbrev jump_end : ℕ
  jump_end = end_of at (tested_jump owed j)

  pub record TestedJump : Type 0 where
    pub leads : Leads t p l g 6 at (jump_place jump_end j g.left) (jump_owed j g.left) d
    pub edx : is_slow j g.left ≡ true → leads.after.registers 2 ≡ j.to

  pub jumps_by_test : IsBefore (tested_jump owed j) t at p l (owing owed g) d → IsJump jump_end j → TestedJump
  jumps_by_test here jump =
      let fits : g.left + j.label_owed < 2 ^ 32 = omega (arith, below, jump.few) in
      let few : owed < 2 ^ 31 = omega (arith, few_owed) in
      let few_label : j.label_owed < 2 ^ 31 = omega (arith, jump.few) in
      let js = leap (has_test j) j in
      let counted = it t at p l (owing owed g) d owed j.label_owed g.left refl fits few few_label js here in
      let own = before t at p l (owing owed g) d owed j.label_owed g.left refl fits few few_label js here in
      let same = ends t at p l (owing owed g) d owed j.label_owed g.left refl fits few few_label js here in
      let from = end_of at (count owed j.label_owed) in
      let more = leaps t p l j g below jump.few from counted.core (has_test j) own (subst (λ a. IsJump a j) (sym same) jump) in
      let to = jump_place jump_end j g.left in
      let reached = subst (λ a. Reaches t 5 (record { rip = from; core = counted.core }) (record { rip = jumped a (if is_slow j g.left then j.exit else j.label); core = more.leads.after })) same more.leads.reached in
      record {
        leads = record {
          after = more.leads.after;
          reached = reaches_behind t at p l (owing owed g) d owed j.label_owed g.left refl fits few few_label js here 5 (record { rip = to; core = more.leads.after }) reached;
          related = more.leads.related;
          others = others_join p l d counted.core more.leads.after counted.stay more.leads.others;
        };
        edx = more.edx;
      }
