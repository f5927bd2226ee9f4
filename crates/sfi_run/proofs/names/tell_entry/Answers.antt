use Rattle.std.proofs.Common.{◌≡◌, List, ℕ, ◌++◌, drop, length, refl, subst, rules}
use Rattle.sfi_names.specs.Tables.{Named}
use Rattle.sfi_run.specs.Names.{IsToldEntry}
use Rattle.sfi_run.proofs.names.tell_entry.Goals as goal

told : (e : Named) (old new name : List ℕ) (address : ℕ) → new ≡ name ++ drop (length name) old
    → record { address = address; name = name } ≡ e → IsToldEntry e old new (length name) address
told e old new name address written is = subst (λ (x : Named). IsToldEntry x old new (length name) address) is (record { name_is = written; size_is = refl; address_is = refl })

pub returns-in-Ok-clause-only_found : goal.returns-in-Ok-clause-only_found
returns-in-Ok-clause-only_found c = λ e h.
    let entry = c.in-Ok.entry in
    (refl, told e c.args.name.now _ entry.name.now entry.address (search rules) (c.in-Ok.ensures.only_found e h))

pub returns-in-Err-clause-only_found : goal.returns-in-Err-clause-only_found
returns-in-Err-clause-only_found c = λ e h. absurd (c.in-Err.ensures.only_found e h)
