-- What a host reads, and what stays where it works.
use Rattle.std.proofs.Common.{◌/◌, ◌≡◌, ℕ, ◌+◌, ◌-◌, ◌*◌, ◌<◌, ◌≤◌, ◌⊎◌, inl, inr, List, length, refl, sym, ap, ◌∙◌, subst, arith, ⊎_elim}
use Rattle.rv_step.specs.State.{register}
use Rattle.sfi_formats.specs.Formats.{unit}
use Rattle.sfi_image.specs.Spelling.{Part}
use Rattle.sfi_translate.specs.Lines.{Line}
use Rattle.sfi_translate.specs.Machine.{Assembly, Before, ControlPoint, Going, IsTranslatedStepAt, Lost, Loop, Slow, Stopped}
use Rattle.sfi_translate.specs.Laws.{IsOver}
use Rattle.sfi_translate.proofs.LinesStand.{units}
use Rattle.x86_step.specs.State.{Core, number_at, Machine, Text}
use Rattle.sfi_native.specs.declared.layout.Layout.{Layout}
use Rattle.sfi_native.specs.Registers.{assigned}
use Rattle.sfi_native.specs.declared.plan.Plan.{Plan}
use Rattle.sfi_native.specs.Layout.{Holds, IsLayout, IsOutside, OthersStay, frame_size, slots_size, window}
use Rattle.sfi_native.specs.Laws.{IsBefore}
use Rattle.sfi_native.specs.Host.{Host, HostMoves, HostReads, IsHosts, IsInCode, Serves, Spares, SparesMemory, arrives, makes}
use Rattle.sfi_native.specs.Places.{IsAt, IsAtPlace, end_address, exit_of, owed_there, whole_code, with_owed}
use Rattle.sfi_native.specs.Table.{HasTable, table_size}
use Rattle.sfi_native.specs.Whole.{AreApart}
use Rattle.sfi_native.proofs.Kept.{beside_frame, outside_slots, pointers_stay}
use Rattle.sfi_native.proofs.Table.{number_same, outside, pointer_same, unit_within}

-- ==== What a host reads.

out_with_pc : (plan : Plan) (base : ℕ) (code : List Line) (place : ControlPoint) (pc : ℕ) (m : Machine) → IsHosts place → IsAtPlace plan base code place pc m → m.core.registers 2 ≡ pc
out_with_pc plan base code Slow pc m is at = at.1
out_with_pc plan base code Loop pc m is at = at.1
out_with_pc plan base code place pc m is at = absurd is

host_owes : (p : Part) (l : Layout) (place : ControlPoint) → IsHosts place → owed_there l.plan p place ≡ 0
host_owes p l Slow is = refl
host_owes p l Loop is = refl
host_owes p l place is = absurd is

pub host_reads : HostReads
host_reads p l base code g m is proper alike = (
  record {
    pc = out_with_pc l.plan base code g.place g.state.hart.pc m is alike.is_at;
    registers = λ r small. subst (λ h. Holds l m.core r (assigned l.plan r) (register h r)) proper.fixed_is (alike.related.registers r small);
    bytes = alike.related.bytes;
  },
  omega (arith, alike.related.left, host_owes p l g.place is),
)

-- ==== A host's moves lead one way.

same_step : (p : Part) (code : List Line) (g h k : Going) (place : ControlPoint) → IsTranslatedStepAt place Assembly p code g h → IsTranslatedStepAt place Assembly p code g k → h ≡ k
same_step p code g h k (Before lines) one two = one.1 ∙ sym two.1
same_step p code g h k Slow one two = one.1 ∙ sym two.1
same_step p code g h k Loop one two = one.1 ∙ sym two.1
same_step p code g h k (Stopped o) one two = absurd one
same_step p code g h k Lost one two = absurd one

-- where code is entered or the turn is over a host makes no move
pub stays_there : (p : Part) (code : List Line) (g k : Going) (place : ControlPoint) → g.place ≡ place → IsHosts place → IsTranslatedStepAt place Assembly p code g k → IsInCode place ⊎ IsOver g → ⊥
stays_there p code g k Slow e is step (inl inside) = inside
stays_there p code g k Slow e is step (inr over) = ⊎_elim (λ one. let clash : Slow ≡ Stopped one.0 = sym e ∙ one.1 in cc) (λ one. let clash : Slow ≡ Loop = sym e ∙ one.0 in cc) over
stays_there p code g k Loop e is step (inl inside) = inside
stays_there p code g k Loop e is step (inr over) = ⊎_elim (λ one. let clash : Loop ≡ Stopped one.0 = sym e ∙ one.1 in cc) (λ one. let none = one.1 in let some = step.0 in omega (arith, none, some)) over
stays_there p code g k place e is step handed = absurd is

pub one_way : (p : Part) (code : List Line) (g h k : Going) → HostMoves p code g h → HostMoves p code g k → h ≡ k
one_way p code g h k (arrives _ _) (arrives _ _) = refl
one_way p code g h k (arrives _ handed) (makes _ b _ is step more) = absurd (stays_there p code g b g.place refl is step handed)
one_way p code g h k (makes _ a _ is step more) (arrives _ handed) = absurd (stays_there p code g a g.place refl is step handed)
one_way p code g h k (makes _ a _ is step more) (makes _ b _ too other others) =
    one_way p code a h k more (subst (λ x. HostMoves p code x k) (same_step p code g b a g.place other step) others)

-- ==== What stays.

module _ (p : Part) (l : Layout) (own : ℕ → Type 0) where
  pub spares_others : IsLayout p l → (c d : Core) → OthersStay p l c d → Spares p l own c d
  spares_others layout c d stay = record {
    pointers = pointers_stay p l layout c d stay;
    memory = record { elsewhere = λ a not_own by_frame by_data. stay.elsewhere a (outside_slots a l.frame by_frame) by_data; writable = λ a not_own. ap (λ w. w a) stay.writable };
  }

  pub spares_same : (c : Core) → Spares p l own c c
  spares_same c = record { pointers = λ k behind small. refl; memory = record { elsewhere = λ a not_own by_frame by_data. refl; writable = λ a not_own. refl } }

  pub memory_join : (c d e : Core) → SparesMemory p l own c d → SparesMemory p l own d e → SparesMemory p l own c e
  memory_join c d e a b = record {
    elsewhere = λ at not_own by_frame by_data. b.elsewhere at not_own by_frame by_data ∙ a.elsewhere at not_own by_frame by_data;
    writable = λ at not_own. b.writable at not_own ∙ a.writable at not_own;
  }

  pub spares_join : (c d e : Core) → Spares p l own c d → Spares p l own d e → Spares p l own c e
  spares_join c d e a b = record {
    pointers = λ k behind small. b.pointers k behind small ∙ a.pointers k behind small;
    memory = memory_join c d e a.memory b.memory;
  }

inside : (a from n : ℕ) → from ≤ a → a < from + n → IsOutside a from n → ⊥
inside a from n low high (inl before) = omega (arith, low, before)
inside a from n low high (inr behind) = omega (arith, high, behind)

-- ==== A processor in which the host has entered code.

module _ (p : Part) (code : List Line) (l : Layout) (t : Text) (base table_at : ℕ) (host : Host) where
  -- it stands before code, with its table, and with what the host relies on
  pub record Ready (g : Going) (m : Machine) : Type 0 where
    pub is_at : IsAt l.plan base code g m
    pub stands : IsBefore (whole_code l.plan (end_address p) code) t base p l (with_owed l.plan p g) m.core
    pub table : HasTable p l base code m.core
    pub table_is : table.at ≡ table_at
    pub apart : AreApart p l base code table.at host.own
    pub relies : host.relies m.core

  module _ (begins : t.base ≡ base) (size : length t.bytes ≡ exit_of l.plan code) where
    pub ready_on : (g k : Going) (m n : Machine) → Ready g m → Serves p l base code host.own k m n → host.relies n.core → Ready k n
    ready_on g k m n here it relies =
        let layout = here.stands.layout in
        let spares = it.spares in
        let own = here.apart in
        let has = here.table in
        let same_there = λ (from : ℕ) (fits : from + 4 ≤ table_size p). number_same m.core.memory n.core.memory 4 (has.at + from) (λ j few.
        let a = has.at + from + j in
        let high : a < has.at + table_size p = omega (arith, fits, few) in
        spares.memory.elsewhere a (λ is. inside a has.at (table_size p) (omega arith) high (own.own_from_table a is))
        (outside has.at (table_size p) l.frame frame_size a has.frame_apart (omega arith) high)
        (outside has.at (table_size p) l.data_start p.data_size a has.data_apart (omega arith) high)) in
        let within = λ (number : ℕ) (below : number < length p.code / unit p.format). unit_within (unit p.format) (length p.code) number (units p.format) below in
        record {
          is_at = it.is_at;
          stands = record {
            layout = layout;
            text_is_fixed = record {
              ends = here.stands.text_is_fixed.ends;
              apart = λ a from below.
                  spares.memory.writable a (λ is. inside a base (exit_of l.plan code) (omega (arith, begins, from)) (omega (arith, begins, size, below)) (own.own_from_text a is))
                  ∙ here.stands.text_is_fixed.apart a from below;
            };
            text_is_low = here.stands.text_is_low;
            faults_are_handled = here.stands.faults_are_handled;
            stands = here.stands.stands;
            related = it.related;
            closed = λ a is outside.
                spares.memory.elsewhere a (λ its. inside a (window p l).at (window p l).size is.0 is.1 (own.own_from_window a its))
                (beside_frame p l layout a is) outside ∙ here.stands.closed a is outside;
          };
          table = record {
            table = has.table;
            entries = has.entries;
            at = has.at;
            ends = has.ends;
            frame_apart = has.frame_apart;
            data_apart = has.data_apart;
            holds = λ number below. same_there (2 * (unit p.format * number)) (omega (arith, within number below)) ∙ has.holds number below;
            holds_owed = λ number below.
                let at : has.at + (2 * (unit p.format * number) + 4) ≡ has.at + 2 * (unit p.format * number) + 4 = omega arith in
                subst (λ a. number_at n.core.memory 4 a ≡ number_at m.core.memory 4 a) at (same_there (2 * (unit p.format * number) + 4) (omega (arith, within number below))) ∙ has.holds_owed number below;
            origin_is = pointer_same l m.core.memory n.core.memory spares.pointers slots_size (omega arith) (omega arith) ∙ has.origin_is;
            code_is = pointer_same l m.core.memory n.core.memory spares.pointers (slots_size + 8) (omega arith) (omega arith) ∙ has.code_is;
          };
          table_is = here.table_is;
          apart = own;
          relies = relies;
        }
