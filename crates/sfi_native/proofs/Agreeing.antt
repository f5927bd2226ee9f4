-- There is a host: states of a turn that a processor can't tell apart are led to such states.
use Rattle.std.proofs.Common.{◌≡◌, ℕ, zero, suc, ◌+◌, ◌-◌, ◌%◌, ◌^◌, ◌<◌, ◌≤◌, ◌⊎◌, inl, inr, ◌==◌, Bool, true, false, cond, List, [], ◌∷◌, length, map, Option, Some, None, is_some, refl, sym, ap, ◌∙◌, subst, arith, if◌then◌else◌, ⊎_elim}
use Rattle.std.proofs.lemmas.Bool.{leb-true}
use Rattle.std.proofs.lemmas.List.{ext_get_or}
use Rattle.std.specs.FinMap.{insert}
use Rattle.std.specs.List.{range_with_len}
use Rattle.std.specs.Option.{option_map}
use Rattle.rv_word.specs.declared.instr.Instr.{Instr}
use Rattle.rv_word.specs.declared.instr.Instr.TheVariants.{Op, Load, Store}
use Rattle.rv_word.specs.declared.instr.LoadKind.{LoadKind}
use Rattle.rv_word.specs.declared.instr.LoadKind.TheVariants.{Lb, Lh, Lw, Lbu, Lhu}
use Rattle.rv_word.specs.declared.instr.StoreWidth.{StoreWidth}
use Rattle.rv_word.specs.declared.instr.StoreWidth.TheVariants.{Sb, Sh, Sw}
use Rattle.rv_word.specs.Spelling.{offset_by}
use Rattle.rv_mem.specs.Bytes.{Bytes, address_after, addresses, byte_at, bytes_at, in_front, loaded, number_of, stored, with_bytes}
use Rattle.rv_mem.proofs.Accesses.{byte_at-insert}
use Rattle.rv_step.specs.declared.outcome.Cause.TheVariants as cause
use Rattle.rv_step.specs.declared.outcome.Outcome.{Outcome}
use Rattle.rv_step.specs.declared.outcome.Outcome.TheVariants.{Next, Call, Trap}
use Rattle.rv_step.specs.State.{Hart, State, past, register}
use Rattle.rv_step.specs.Step.{Stepped, after_load, load_size, next, store_size, unchanged}
use Rattle.sfi_image.specs.Parts.{IsRightPart}
use Rattle.sfi_image.specs.Spelling.{Part}
use Rattle.sfi_translate.specs.Lines.{Line, Function, End, Entry, Head, Does}
use Rattle.sfi_translate.specs.Laws.{IsOver}
use Rattle.sfi_translate.specs.Machine.{Assembly, Before, ControlPoint, Going, IsTranslatedStepAt, Loop, Lost, Slow, Stopped, fixed, from_loop, goes, is_tested, label, one_less, row_step, slow_step, step_done}
use Rattle.x86_step.specs.State.{Core, Machine}
use Rattle.sfi_native.specs.declared.layout.Layout.{Layout}
use Rattle.sfi_native.specs.Host.{Answers, Ending, Host, HostMoves, IsHosts, IsInCode, IsProper, Serves, ThereIsAHost, Works, answer_of, arrives, host_of, makes}
use Rattle.sfi_native.specs.Laws.{IsAlike}
use Rattle.x86_instr.specs.declared.operand.Register.{Register}
use Rattle.sfi_native.specs.Registers.{assigned}
use Rattle.sfi_native.specs.Layout.{Holds, IsLayout, IsRelated, owing}
use Rattle.sfi_native.specs.Places.{IsAt, IsAtPlace, owed_there, with_owed}
use Rattle.sfi_native.proofs.Counting.{related_as}
use Rattle.sfi_native.proofs.Hosts.{stays_there}
use Rattle.sfi_native.proofs.Served.{each_work_can_be_done, handed_over}

-- ==== Reading and writing.

run_same : (m w : Bytes) (f : ℕ → ℕ) (a n : ℕ) → ((k : ℕ) → k < n → byte_at w (f (a + k)) ≡ byte_at m (f (a + k))) → bytes_at w (map f (range_with_len a n)) ≡ bytes_at m (map f (range_with_len a n))
run_same m w f a zero e = refl
run_same m w f a (suc n) e =
    let z : a + 0 ≡ a = omega arith in
    let here : byte_at w (f a) ≡ byte_at m (f a) = subst (λ (x : ℕ). byte_at w (f x) ≡ byte_at m (f x)) z (e 0 (omega arith)) in
    let rest = run_same m w f (a + 1) n (λ k below. let next : a + suc k ≡ a + 1 + k = omega arith in subst (λ (x : ℕ). byte_at w (f x) ≡ byte_at m (f x)) next (e (suc k) (omega (arith, below)))) in
    ap (λ (o : Option ℕ). in_front o (bytes_at w (map f (range_with_len (a + 1) n)))) here ∙ ap (λ (o : Option (List ℕ)). in_front (byte_at m (f a)) o) rest

written_same : (m w : Bytes) (at bs : List ℕ) (q : ℕ) → byte_at w q ≡ byte_at m q → byte_at (with_bytes w at bs) q ≡ byte_at (with_bytes m at bs) q
written_same m w [] bs q e = e
written_same m w (a ∷ more) [] q e = e
written_same m w (a ∷ more) (b ∷ bs) q e =
    written_same (insert m a b) (insert w a b) more bs q
    (byte_at-insert w a b q ∙ ap (λ (o : Option ℕ). cond (q == a) (Some b) o) e ∙ sym (byte_at-insert m a b q))

-- ==== Slow steps.

load_few : (kind : LoadKind) → load_size kind ≤ 4
load_few Lb = omega arith
load_few Lh = omega arith
load_few Lw = omega arith
load_few Lbu = omega arith
load_few Lhu = omega arith

store_few : (width : StoreWidth) → store_size width ≤ 4
store_few Sb = omega arith
store_few Sh = omega arith
store_few Sw = omega arith

module _ (p : Part) (right : IsRightPart p) where
  abbrev Same : Bytes → Bytes → Type 0
  Same m w = (k : ℕ) → k < p.data_size → byte_at w (p.data_base + k) ≡ byte_at m (p.data_base + k)

  -- an access in the data reads the same there
  read_same : (m w : Bytes) (at n : ℕ) → n ≤ 4 → Same m w → is_tested p at n ≡ true → bytes_at w (addresses at n) ≡ bytes_at m (addresses at n)
  read_same m w at n few same tested =
      let room = right.guard_room.above in
      let least = right.data_placed.at_least in
      let within : (at + (2 ^ 32 - p.data_base)) % 2 ^ 32 ≤ p.data_size - n = leb-true _ _ tested in
      run_same m w (address_after at) 0 n
      (λ k below.
      let d = (at + (2 ^ 32 - p.data_base)) % 2 ^ 32 + k in
      let is : address_after at (0 + k) ≡ p.data_base + d = omega (arith, within, room, least, few, below) in
      subst (λ a. byte_at w a ≡ byte_at m a) (sym is) (same d (omega (arith, within, least, few, below))))

  record SameRow (r q : Stepped) : Type 0 where
    outcome : q.outcome ≡ r.outcome
    hart : q.state.hart ≡ r.state.hart
    bytes : Same r.state.memory q.state.memory

  load_same : (o : Option ℕ) (kind : LoadKind) (rd at n : ℕ) (h : Hart) (m w : Bytes) → Same m w → SameRow (after_load o kind rd at n h m) (after_load o kind rd at n h w)
  load_same None kind rd at n h m w same = record { outcome = refl; hart = refl; bytes = same }
  load_same (Some v) kind rd at n h m w same = record { outcome = refl; hart = refl; bytes = same }

  load_row : (t : Bool) (kind : LoadKind) (rd at n : ℕ) (h : Hart) (m w : Bytes) → Same m w → (t ≡ true → loaded w at (load_size kind) ≡ loaded m at (load_size kind))
      → SameRow (if t then after_load (loaded m at (load_size kind)) kind rd at n h m else unchanged (Trap cause.Load at) h m) (if t then after_load (loaded w at (load_size kind)) kind rd at n h w else unchanged (Trap cause.Load at) h w)
  load_row true kind rd at n h m w same reads =
      subst (λ o. SameRow (after_load (loaded m at (load_size kind)) kind rd at n h m) (after_load o kind rd at n h w)) (sym (reads refl)) (load_same (loaded m at (load_size kind)) kind rd at n h m w same)
  load_row false kind rd at n h m w same reads = record { outcome = refl; hart = refl; bytes = same }

  store_same : (b : Bool) (at size v : ℕ) (k h : Hart) (m w : Bytes) → Same m w
      → SameRow (if b then next k (stored m at size v) else unchanged (Trap cause.Store at) h m) (if b then next k (stored w at size v) else unchanged (Trap cause.Store at) h w)
  store_same true at size v k h m w same = record { outcome = refl; hart = refl; bytes = λ j small. written_same m w (addresses at size) _ (p.data_base + j) (same j small) }
  store_same false at size v k h m w same = record { outcome = refl; hart = refl; bytes = same }

  store_row : (t : Bool) (at size v : ℕ) (k h : Hart) (m w : Bytes) → Same m w → (t ≡ true → bytes_at w (addresses at size) ≡ bytes_at m (addresses at size))
      → SameRow (if t then (if is_some (bytes_at m (addresses at size)) then next k (stored m at size v) else unchanged (Trap cause.Store at) h m) else unchanged (Trap cause.Store at) h m)
      (if t then (if is_some (bytes_at w (addresses at size)) then next k (stored w at size v) else unchanged (Trap cause.Store at) h w) else unchanged (Trap cause.Store at) h w)
  store_row true at size v k h m w same reads =
      subst (λ (o : Option (List ℕ)). SameRow (if is_some (bytes_at m (addresses at size)) then next k (stored m at size v) else unchanged (Trap cause.Store at) h m) (if is_some o then next k (stored w at size v) else unchanged (Trap cause.Store at) h w))
      (sym (reads refl)) (store_same (is_some (bytes_at m (addresses at size))) at size v k h m w same)
  store_row false at size v k h m w same reads = record { outcome = refl; hart = refl; bytes = same }

  row_same : (i : Instr) (n : ℕ) (h : Hart) (m w : Bytes) → Same m w → SameRow (row_step p i n (record { hart = h; memory = m })) (row_step p i n (record { hart = h; memory = w }))
  row_same (Load kind rd rs1 imm) n h m w same =
      let at = offset_by (register h rs1) imm in
      load_row (is_tested p at (load_size kind)) kind rd at n h m w same
      (λ tested. ap (λ (o : Option (List ℕ)). option_map number_of o) (read_same m w at (load_size kind) (load_few kind) same tested))
  row_same (Store width rs1 rs2 imm) n h m w same =
      let at = offset_by (register h rs1) imm in
      store_row (is_tested p at (store_size width)) at (store_size width) (register h rs2) (past h n) h m w same
      (λ tested. read_same m w at (store_size width) (store_few width) same tested)
  row_same (Op op rd rs1 rs2) n h m w same = record { outcome = refl; hart = refl; bytes = same }
  row_same _ n h m w same = record { outcome = refl; hart = refl; bytes = same }

  -- ==== Moves.

  -- at one place, with one hart, the same data and the same steps left
  record IsLike (g h : Going) : Type 0 where
    place : h.place ≡ g.place
    hart : h.state.hart ≡ g.state.hart
    left : h.left ≡ g.left
    bytes : Same g.state.memory h.state.memory

  done_same : (o : Outcome) (s u : State) (left more : ℕ) → more ≡ left → u.hart ≡ s.hart → Same s.memory u.memory → IsLike (step_done o s left) (step_done o u more)
  done_same Next s u left more e hart bytes = record { place = refl; hart = hart; left = ap one_less e; bytes = bytes }
  done_same Call s u left more e hart bytes = record { place = refl; hart = hart; left = e; bytes = bytes }
  done_same (Trap cause at) s u left more e hart bytes = record { place = refl; hart = hart; left = e; bytes = bytes }

  elsewhere : (g h : Going) (place other : ControlPoint) → other ≡ place → IsLike g h → IsLike (goes g place) (goes h other)
  elsewhere g h place other e like = record { place = e; hart = like.hart; left = like.left; bytes = like.bytes }

  slow_same : (o : Option (List Line)) (g h : Going) → IsLike g h → IsLike (slow_step p o g) (slow_step p o h)
  slow_same (Some (Does at n i ∷ rest)) g h like =
      let row = subst (λ (x : Hart). SameRow (row_step p i n g.state) (row_step p i n (record { hart = x; memory = h.state.memory }))) (sym like.hart) (row_same i n g.state.hart g.state.memory h.state.memory like.bytes) in
      let r = row_step p i n g.state in
      let q = row_step p i n h.state in
      subst (λ (o : Outcome). IsLike (step_done r.outcome r.state g.left) (step_done o q.state h.left)) (sym row.outcome)
      (done_same r.outcome r.state q.state g.left h.left like.left row.hart row.bytes)
  slow_same None g h like = elsewhere g h Lost Lost refl like
  slow_same (Some []) g h like = elsewhere g h Lost Lost refl like
  slow_same (Some (Function sandbox at ∷ more)) g h like = elsewhere g h Lost Lost refl like
  slow_same (Some (End at ∷ more)) g h like = elsewhere g h Lost Lost refl like
  slow_same (Some (Entry at ∷ more)) g h like = elsewhere g h Lost Lost refl like
  slow_same (Some (Head at ∷ more)) g h like = elsewhere g h Lost Lost refl like

  module _ (code : List Line) where
    step_same : (g h a b : Going) (place : ControlPoint) → IsHosts place → IsLike g h → IsTranslatedStepAt place Assembly p code g a → IsTranslatedStepAt place Assembly p code h b → IsLike a b
    step_same g h a b Slow is like one two =
        let same : slow_step p (label h.state.hart.pc code) h ≡ slow_step p (label g.state.hart.pc code) h = ap (λ (x : Hart). slow_step p (label x.pc code) h) like.hart in
        subst (λ x. IsLike x b) (sym one.1) (subst (λ x. IsLike (slow_step p (label g.state.hart.pc code) g) x) (sym (two.1 ∙ same)) (slow_same (label g.state.hart.pc code) g h like))
    step_same g h a b Loop is like one two =
        let same = ap (λ (x : Hart). from_loop Assembly p code x.pc h.left) like.hart ∙ ap (λ n. from_loop Assembly p code g.state.hart.pc n) like.left in
        subst (λ x. IsLike x b) (sym one.1) (subst (λ x. IsLike (goes g (from_loop Assembly p code g.state.hart.pc g.left)) x) (sym two.1) (elsewhere g h _ _ same like))
    step_same g h a b place is like one two = absurd is

    handed_same : (g h : Going) → g.place ≡ h.place → g.left ≡ h.left → IsInCode g.place ⊎ IsOver g → IsInCode h.place ⊎ IsOver h
    handed_same g h place left (inl inside) = inl (subst IsInCode place inside)
    handed_same g h place left (inr (inl (o, stopped))) = inr (inl (o, sym place ∙ stopped))
    handed_same g h place left (inr (inr (looped, none))) = inr (inr (sym place ∙ looped, sym left ∙ none))

    moves_same : (g h j k : Going) → IsLike g h → HostMoves p code g j → HostMoves p code h k → IsLike j k
    moves_same g h j k like (arrives _ _) (arrives _ _) = like
    moves_same g h j k like (arrives _ handed) (makes _ b _ is step more) =
        absurd (stays_there p code h b h.place refl is step (handed_same g h (sym like.place) (sym like.left) handed))
    moves_same g h j k like (makes _ a _ is step more) (arrives _ handed) =
        absurd (stays_there p code g a g.place refl is step (handed_same h g like.place like.left handed))
    moves_same g h j k like (makes _ a _ is step more) (makes _ b _ too other others) =
        moves_same a b j k (step_same g h a b g.place is like step (subst (λ q. IsTranslatedStepAt q Assembly p code h b) like.place other)) more others

  -- ==== What a processor tells.

  one_value : (l : Layout) (c : Core) (r : ℕ) (o : Option Register) (v w : ℕ) → Holds l c r o v → Holds l c r o w → v ≡ w
  one_value l c r None v w a b = let e : Some v ≡ Some w = sym a ∙ b in cc
  one_value l c r (Some q) v w a b = sym a ∙ b

  module _ (l : Layout) where
    hart_same : (g h : Going) (c : Core) → IsProper p g.state → IsProper p h.state → g.state.hart.pc ≡ h.state.hart.pc → IsRelated p l g c → IsRelated p l h c → h.state.hart ≡ g.state.hart
    hart_same g h c one two pc first second =
        let register_is : (r : ℕ) → r < 32 → register h.state.hart r ≡ register g.state.hart r = λ r small.
        let a = subst (λ (x : Hart). Holds l c r (assigned l.plan r) (register x r)) one.fixed_is (first.registers r small) in
        let b = subst (λ (x : Hart). Holds l c r (assigned l.plan r) (register x r)) two.fixed_is (second.registers r small) in
        one_value l c r (assigned l.plan r) (register h.state.hart r) (register g.state.hart r) b a in
        let count = second.register_count in
        let registers : h.state.hart.registers ≡ g.state.hart.registers = ext_get_or 0 _ _ (count ∙ sym first.register_count) (λ r small. register_is r (omega (arith, small, count))) in
        λ i. record { pc = (sym pc) i; registers = registers i }

    related_like : (g h : Going) (c : Core) → IsLike g h → IsRelated p l h c → IsRelated p l g c
    related_like g h c like is = record {
      register_count = subst (λ (x : Hart). length x.registers ≡ 32) like.hart is.register_count;
      words = subst (λ (x : Hart). (r : ℕ) → register (fixed p x) r < 2 ^ 32) like.hart is.words;
      registers = subst (λ (x : Hart). (r : ℕ) → r < 32 → Holds l c r (assigned l.plan r) (register (fixed p x) r)) like.hart is.registers;
      frame = is.frame;
      frame_is_written = is.frame_is_written;
      few = subst (λ n. n < 2 ^ 32) like.left is.few;
      left = is.left ∙ like.left;
      bytes = λ k small. is.bytes k small ∙ like.bytes k small;
      bytes_are_written = is.bytes_are_written;
      origin_is = is.origin_is;
    }

    module _ (base : ℕ) (code : List Line) (own : ℕ → Type 0) where
      at_slow : (g : Going) (m : Machine) → g.place ≡ Slow → IsAt l.plan base code g m → m.core.registers 2 ≡ g.state.hart.pc
      at_slow g m slow at = (subst (λ q. IsAtPlace l.plan base code q g.state.hart.pc m) slow at).1

      -- nothing is owed there
      slow_related : (g : Going) (m : Machine) → g.place ≡ Slow → IsAlike p l base code g m → IsRelated p l g m.core
      slow_related g m slow alike =
          related_as p l (owing 0 g) m.core g.place g.left (subst (λ q. IsRelated p l (owing (owed_there l.plan p q) g) m.core) slow alike.related) (omega arith)

      like_owed : (k to : Going) → IsLike k to → IsLike (with_owed l.plan p k) (with_owed l.plan p to)
      like_owed k to same = record {
        place = same.place;
        hart = same.hart;
        left = ap (λ n. n + owed_there l.plan p to.place) same.left ∙ ap (λ q. k.left + owed_there l.plan p q) same.place;
        bytes = same.bytes;
      }

      -- a move of a host that does all that it may
      record DoesWork (m : Machine) (a : Option Ending) (n : Machine) : Type 0 where
        from : Going
        to : Going
        slow : from.place ≡ Slow
        proper : IsProper p from.state
        alike : IsAlike p l base code from m
        leads : HostMoves p code from to
        answers : Answers p l base code own to m a n

      abbrev host : Host
      host = host_of DoesWork own

      like : (g : Going) (m : Machine) (a : Option Ending) (n : Machine) → g.place ≡ Slow → IsProper p g.state → IsAlike p l base code g m → (it : DoesWork m a n) → IsLike g it.from
      like g m a n slow proper alike it = record {
        place = it.slow ∙ sym slow;
        hart = hart_same g it.from m.core proper it.proper (sym (at_slow g m slow alike.is_at) ∙ at_slow it.from m it.slow it.alike.is_at) (slow_related g m slow alike) (slow_related it.from m it.slow it.alike);
        left = sym (slow_related it.from m it.slow it.alike).left ∙ (slow_related g m slow alike).left;
        bytes = λ k small. sym (it.alike.related.bytes k small) ∙ alike.related.bytes k small;
      }

      -- what is right for one of two like states of a turn is for the other
      answers_same : (k to : Going) (m : Machine) (a : Option Ending) (n : Machine) → IsLike k to → Answers p l base code own to m a n → Answers p l base code own k m a n
      answers_same k to m None n same it = (
        it.0 ∙ ap answer_of same.place,
        record {
          related = related_like (with_owed l.plan p k) (with_owed l.plan p to) n.core (like_owed k to same) it.1.related;
          is_at = subst (λ q. IsAtPlace l.plan base code q k.state.hart.pc n) same.place (subst (λ (x : Hart). IsAtPlace l.plan base code to.place x.pc n) same.hart it.1.is_at);
          spares = it.1.spares;
        },
      )
      answers_same k to m (Some e) n same it = record {
        outcome = it.outcome ∙ ap answer_of same.place;
        hart = it.hart ∙ same.hart;
        left = it.left ∙ same.left;
        bytes = λ j small. it.bytes j small ∙ same.bytes j small;
        spares = it.spares;
      }

      inside_answer : (place : ControlPoint) → IsInCode place → None ≡ answer_of place
      inside_answer (Before lines) is = refl
      inside_answer Slow is = absurd is
      inside_answer Loop is = absurd is
      inside_answer (Stopped o) is = absurd is
      inside_answer Lost is = absurd is

      -- what is done where a processor serves
      served_answer : (k : Going) (m n : Machine) → Serves p l base code own k m n → IsInCode k.place ⊎ IsOver k → (a : Option Ending) × Answers p l base code own k m a n
      served_answer k m n it (inl inside) = (None, (inside_answer k.place inside, it))
      served_answer k m n it (inr over) =
          let answer : (o : Outcome) × (Some o ≡ answer_of k.place) = ⊎_elim (λ one. (one.0, ap answer_of (sym one.1))) (λ one. (Next, ap answer_of (sym one.0))) over in (
            Some (record { outcome = answer.0; hart = k.state.hart; left = k.left }),
            record { outcome = answer.1; hart = refl; left = refl; bytes = it.related.bytes; spares = it.spares.memory },
          )

      works : IsLayout p l → (g k : Going) (m : Machine) → g.place ≡ Slow → g.left < 2 ^ 31 → IsProper p g.state → IsProper p k.state → IsAlike p l base code g m → HostMoves p code g k → Works p l base code host k m
      works layout g k m slow few proper proper_then alike leads =
          let n = each_work_can_be_done p l base code own g k m layout proper_then (subst IsHosts (sym slow) tt) few (slow_related g m slow alike) leads in
          let answer = served_answer k m n.0 n.1 (handed_over p code g k leads) in
          record {
            answers = (answer.0, n.0, record { from = g; to = k; slow = slow; proper = proper; alike = alike; leads = leads; answers = answer.1 });
            right = λ a o it. answers_same k it.to m a o (moves_same code g it.from k it.to (like g m a o slow proper alike it) leads it.leads) it.answers;
            relies = λ o it. tt;
          }

pub there_is_a_host : ThereIsAHost
there_is_a_host p l base code own right layout =
    (DoesWork p right l base code own, record { kept = λ c d stay relies. tt; works = λ g k m slow few proper whole proper_then alike relies leads. works p right l base code own layout g k m slow few proper proper_then alike leads })
