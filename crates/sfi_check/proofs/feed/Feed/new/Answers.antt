use Rattle.sfi_check.proofs.Prelude.{refl}
use Rattle.sfi_check.proofs.Feeding.{nothing_fed}
use Rattle.sfi_check.proofs.feed.Feed.new.Goals as goal

pub returns-clause-fed : goal.returns-clause-fed
returns-clause-fed c = nothing_fed _ _ c.new.ensures refl refl refl refl refl refl refl tt

pub returns-clause-none_found : goal.returns-clause-none_found
returns-clause-none_found c = nothing_fed _ _ c.new.ensures refl refl refl refl refl refl refl refl
