use Rattle.std.proofs.Common.{rules}
use Rattle.sfi_text.specs.Texts.{MeansSource}
use Rattle.sfi_text.proofs.Facts.{sources_are_right}
use Rattle.sfi_text.proofs.progress.Progress.finish.Goals as goal

pub new-requires : goal.new-requires
new-requires c =
    let means : MeansSource c.args.text.now c.push.new.self.items = search rules in
    sources_are_right _ _ means
