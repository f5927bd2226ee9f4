use Rattle.sfi_build.specs.Texts.{IsTextBuild}
use Rattle.sfi_build.proofs.Building.{one_build, never_built, only_one, only_fault, text_build, means_clean, build_runs_as, never_place_built}
use Rattle.sfi_build.proofs.builder.build_at.Goals as goal

pub returns-clause-build : goal.returns-clause-build
returns-clause-build c = text_build _ _ _ c.build_from_text.ensures.built

pub returns-clause-clean : goal.returns-clause-clean
returns-clause-clean c = means_clean _ _ _ c.build_from_text.ensures.built

pub returns-clause-only_built : goal.returns-clause-only_built
returns-clause-only_built c =
    only_one (IsTextBuild c.args.places.now c.args.text.now) _ _ (one_build _ _) (never_built _ _) _ (c.build_from_text.ensures.built, c.build_from_text.ensures.fault)

pub returns-clause-only_fault : goal.returns-clause-only_fault
returns-clause-only_fault c =
    only_fault (IsTextBuild c.args.places.now c.args.text.now) _ _ (never_built _ _) _ (c.build_from_text.ensures.built, c.build_from_text.ensures.fault)

pub returns-clause-runs_as : goal.returns-clause-runs_as
returns-clause-runs_as c = build_runs_as _ _ _ c.build_from_text.ensures.built

pub returns-clause-no_place : goal.returns-clause-no_place
returns-clause-no_place c = never_place_built _ _ _ c.build_from_text.ensures.fault
