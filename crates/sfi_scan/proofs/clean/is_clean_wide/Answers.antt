use Rattle.sfi_scan.proofs.Prelude.{◌+◌, AreWordsFrom}
use Rattle.sfi_scan.proofs.TableEntries.{clean_access}
use Rattle.sfi_scan.proofs.clean.is_clean_wide.Goals as goal

pub returns-in-Some : goal.returns-in-Some
returns-in-Some c =
    clean_access c.args.place.now (c.args.place.now.address + c.args.at) (AreWordsFrom c.args.bytes.now c.args.at c.args.from) c.words_before.result c.args.word c.in-Some.access c.in-Some.ensures.found
    c.words_before.ensures c.is_clean_access.result (λ earlier before. c.is_clean_access.ensures c.args.place.now earlier c.requires.stack before)
