use Rattle.std.proofs.Common.{◌≡◌, ℕ, List, rules, length, subst, sym}
use Rattle.sfi_places.specs.Moving.{IsMoved, IsMoveFault}
use Rattle.sfi_places.specs.declared.moving.MoveFault.{MoveFault}
use Rattle.sfi_answers.proofs.Moves.{copied, no_move, of_copy, whole}
use Rattle.sfi_answers.proofs.moving.moved_copy.Goals.{After-deref_mut}
use Rattle.sfi_answers.proofs.moving.moved_copy.Goals as goal

same : (c : After-deref_mut) → c.deref_mut.result.now ≡ c.args.bytes.now
same c = search rules

fault_of_copy : (c : After-deref_mut) (e f : MoveFault) → e ≡ f → IsMoveFault c.deref_mut.result.now c.args.number c.args.to e → IsMoveFault c.args.bytes.now c.args.number c.args.to f
fault_of_copy c e f is wrong = of_copy _ _ _ _ f (same c) (subst (IsMoveFault c.deref_mut.result.now c.args.number c.args.to) is wrong)

none_moves : (c : After-deref_mut) → ((now : List ℕ) → IsMoved c.deref_mut.result.now c.args.number c.args.to now → ⊥) → (now : List ℕ) → IsMoved c.args.bytes.now c.args.number c.args.to now → ⊥
none_moves c none = no_move _ _ _ _ (same c) none

pub returns-in-Ok-clause-moved : goal.returns-in-Ok-clause-moved
returns-in-Ok-clause-moved c =
    let all : length c.move_sandbox.new.image ≡ c.extend_from_slice.new.self.len = search rules in
    copied _ _ c.move_sandbox.new.image _ c.args.number c.args.to (same (goal.at.returns-in-Ok-clause-moved c).After-deref_mut) (whole _ _ _ all) c.in-Ok.ensures.moved c.in-Ok.ensures.accepted

pub returns-in-Ok-clause-only_fault : goal.returns-in-Ok-clause-only_fault
returns-in-Ok-clause-only_fault c e wrong =
    let same = sym (same (goal.at.returns-in-Ok-clause-only_fault c).After-deref_mut) in
    let no = c.in-Ok.ensures.only_fault e (of_copy _ _ c.args.number c.args.to e same wrong) in
    absurd cc

pub returns-in-Err-NoImage-clause-stop : goal.returns-in-Err-NoImage-clause-stop
returns-in-Err-NoImage-clause-stop c = fault_of_copy (goal.at.returns-in-Err-NoImage-clause-stop c).After-deref_mut _ _ c.in-Err-NoImage.field-0-is c.in-Err-NoImage.ensures.fault

pub returns-in-Err-NoSandbox-clause-stop : goal.returns-in-Err-NoSandbox-clause-stop
returns-in-Err-NoSandbox-clause-stop c = fault_of_copy (goal.at.returns-in-Err-NoSandbox-clause-stop c).After-deref_mut _ _ c.in-Err-NoSandbox.field-0-is c.in-Err-NoSandbox.ensures.fault

pub returns-clause-stop : goal.returns-clause-stop
returns-clause-stop c = fault_of_copy (goal.at.returns-clause-stop c).After-deref_mut _ _ c.in-Err-NoPlace.field-0-is c.in-Err-NoPlace.ensures.fault

pub returns-in-Err-NoImage-clause-only_moved : goal.returns-in-Err-NoImage-clause-only_moved
returns-in-Err-NoImage-clause-only_moved c = none_moves (goal.at.returns-in-Err-NoImage-clause-only_moved c).After-deref_mut (λ now h. let x = c.in-Err-NoImage.ensures.only_moved now h in absurd cc)

pub returns-in-Err-NoSandbox-clause-only_moved : goal.returns-in-Err-NoSandbox-clause-only_moved
returns-in-Err-NoSandbox-clause-only_moved c = none_moves (goal.at.returns-in-Err-NoSandbox-clause-only_moved c).After-deref_mut (λ now h. let x = c.in-Err-NoSandbox.ensures.only_moved now h in absurd cc)

pub returns-clause-only_moved : goal.returns-clause-only_moved
returns-clause-only_moved c = none_moves (goal.at.returns-clause-only_moved c).After-deref_mut (λ now h. let x = c.in-Err-NoPlace.ensures.only_moved now h in absurd cc)
