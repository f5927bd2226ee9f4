use Rattle.rv_mem.proofs.Prelude.{◌≡◌, ◌/◌, ◌==◌, true, false, ◌∙◌, ℕ, List, slice_index, sym, ap, refl, arith}
use Rattle.std.proofs.lemmas.Bool.{eq-eqb, ne_eqb}
use Rattle.rv_mem.proofs.Paging.{memory_is}
use Rattle.rv_mem.proofs.Counts.{keeps_one, set_is, number_there}
use Rattle.rv_mem.proofs.Kept.{of_value, own_made, keeps_set}
use Rattle.rv_mem.proofs.pages.Pages.own_frame.Goals as goal

pub append_frame-requires : goal.append_frame-requires
append_frame-requires c =
    let one = keeps_one c.args.self.now.table c.args.page c.requires (omega (arith, c.number-number.ensures, c.if-number-gt-ZEROS.false)) in
    let count = c.args.self.now.counted in
    let room = c.args.self.now.room in
    omega (arith, one, count, room)

pub overflow_sub-self : goal.overflow_sub-self
overflow_sub-self c =
    let one = keeps_one c.args.self.now.table c.args.page c.requires (omega (arith, c.number-number.ensures, c.if-number-gt-ZEROS.false)) in
    let count = c.args.self.now.counted in
    omega (arith, one, count)

pub invariant_of-self-clause-are_pages : goal.invariant_of-self-clause-are_pages
invariant_of-self-clause-are_pages c =
    (own_made c.args.self.now.table c.set.new.self c.args.self.now.cells.items c.append_frame.new.cells.items c.args.self.now.are_pages c.args.page (c.len-frames.result / 1024) c.from.result c.requires (omega (arith, c.number-number.ensures, c.if-number-gt-ZEROS.false))
    (λ e. let two : (c.number-number.result == 2) ≡ true = eq-eqb c.number-number.result 2 (c.number-number.ensures ∙ e) in c.from.ensures ∙ rw two refl)
    (λ other. let two : (c.number-number.result == 2) ≡ false = ne_eqb c.number-number.result 2 (λ e. other (sym c.number-number.ensures ∙ e)) in c.from.ensures ∙ rw two refl)
    (ap (λ (n : ℕ). n / 1024) (c.len-frames.ensures ∙ c.args.self.now.cells.ok.0)) c.append_frame.ensures.gained (of_value c.set.result _ c.set.ensures.ok (c.set.ensures.there c.requires))).0

pub invariant_of-self-clause-in_range : goal.invariant_of-self-clause-in_range
invariant_of-self-clause-in_range c = memory_is _ _ (invariant_of-self-clause-are_pages c)

pub invariant_of-self-clause-counted : goal.invariant_of-self-clause-counted
invariant_of-self-clause-counted c =
    let count = c.args.self.now.counted in
    let less =
    (own_made c.args.self.now.table c.set.new.self c.args.self.now.cells.items c.append_frame.new.cells.items c.args.self.now.are_pages c.args.page (c.len-frames.result / 1024) c.from.result c.requires (omega (arith, c.number-number.ensures, c.if-number-gt-ZEROS.false))
    (λ e. let two : (c.number-number.result == 2) ≡ true = eq-eqb c.number-number.result 2 (c.number-number.ensures ∙ e) in c.from.ensures ∙ rw two refl)
    (λ other. let two : (c.number-number.result == 2) ≡ false = ne_eqb c.number-number.result 2 (λ e. other (sym c.number-number.ensures ∙ e)) in c.from.ensures ∙ rw two refl)
    (ap (λ (n : ℕ). n / 1024) (c.len-frames.ensures ∙ c.args.self.now.cells.ok.0)) c.append_frame.ensures.gained (of_value c.set.result _ c.set.ensures.ok (c.set.ensures.there c.requires))).2 in
    omega (arith, count, less)

pub invariant_of-self-clause-room : goal.invariant_of-self-clause-room
invariant_of-self-clause-room c =
    let one = keeps_one c.args.self.now.table c.args.page c.requires (omega (arith, c.number-number.ensures, c.if-number-gt-ZEROS.false)) in
    let count = c.args.self.now.counted in
    let room = c.args.self.now.room in
    omega (arith, one, count, room, c.append_frame.ensures.len, c.append_frame.ensures.capacity)

pub invariant_of-self-clause-most : goal.invariant_of-self-clause-most
invariant_of-self-clause-most c =
    let one = keeps_one c.args.self.now.table c.args.page c.requires (omega (arith, c.number-number.ensures, c.if-number-gt-ZEROS.false)) in
    let count = c.args.self.now.counted in
    let most = c.args.self.now.most in
    omega (arith, one, count, most, c.append_frame.ensures.len)

pub returns-clause-same : goal.returns-clause-same
returns-clause-same c =
    (own_made c.args.self.now.table c.set.new.self c.args.self.now.cells.items c.append_frame.new.cells.items c.args.self.now.are_pages c.args.page (c.len-frames.result / 1024) c.from.result c.requires (omega (arith, c.number-number.ensures, c.if-number-gt-ZEROS.false))
    (λ e. let two : (c.number-number.result == 2) ≡ true = eq-eqb c.number-number.result 2 (c.number-number.ensures ∙ e) in c.from.ensures ∙ rw two refl)
    (λ other. let two : (c.number-number.result == 2) ≡ false = ne_eqb c.number-number.result 2 (λ e. other (sym c.number-number.ensures ∙ e)) in c.from.ensures ∙ rw two refl)
    (ap (λ (n : ℕ). n / 1024) (c.len-frames.ensures ∙ c.args.self.now.cells.ok.0)) c.append_frame.ensures.gained (of_value c.set.result _ c.set.ensures.ok (c.set.ensures.there c.requires))).1

pub returns-clause-own : goal.returns-clause-own
returns-clause-own c =
    (own_made c.args.self.now.table c.set.new.self c.args.self.now.cells.items c.append_frame.new.cells.items c.args.self.now.are_pages c.args.page (c.len-frames.result / 1024) c.from.result c.requires (omega (arith, c.number-number.ensures, c.if-number-gt-ZEROS.false))
    (λ e. let two : (c.number-number.result == 2) ≡ true = eq-eqb c.number-number.result 2 (c.number-number.ensures ∙ e) in c.from.ensures ∙ rw two refl)
    (λ other. let two : (c.number-number.result == 2) ≡ false = ne_eqb c.number-number.result 2 (λ e. other (sym c.number-number.ensures ∙ e)) in c.from.ensures ∙ rw two refl)
    (ap (λ (n : ℕ). n / 1024) (c.len-frames.ensures ∙ c.args.self.now.cells.ok.0)) c.append_frame.ensures.gained (of_value c.set.result _ c.set.ensures.ok (c.set.ensures.there c.requires))).3

pub returns-clause-kept : goal.returns-clause-kept
returns-clause-kept c =
    let own =
    (own_made c.args.self.now.table c.set.new.self c.args.self.now.cells.items c.append_frame.new.cells.items c.args.self.now.are_pages c.args.page (c.len-frames.result / 1024) c.from.result c.requires (omega (arith, c.number-number.ensures, c.if-number-gt-ZEROS.false))
    (λ e. let two : (c.number-number.result == 2) ≡ true = eq-eqb c.number-number.result 2 (c.number-number.ensures ∙ e) in c.from.ensures ∙ rw two refl)
    (λ other. let two : (c.number-number.result == 2) ≡ false = ne_eqb c.number-number.result 2 (λ e. other (sym c.number-number.ensures ∙ e)) in c.from.ensures ∙ rw two refl)
    (ap (λ (n : ℕ). n / 1024) (c.len-frames.ensures ∙ c.args.self.now.cells.ok.0)) c.append_frame.ensures.gained (of_value c.set.result _ c.set.ensures.ok (c.set.ensures.there c.requires))).3 in
    let is = of_value c.set.result _ c.set.ensures.ok (c.set.ensures.there c.requires) in
    keeps_set c.args.self.now.table _ c.args.page (c.len-frames.result / 1024) is (let here = set_is c.args.self.now.table c.args.page (c.len-frames.result / 1024) c.args.page (number_there c.args.self.now.table c.args.page c.requires) refl in
    let there = ap (λ (l : List ℕ). slice_index l c.args.page) is ∙ here in λ none. omega (arith, own, there, none))
