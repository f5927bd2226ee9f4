use Rattle.sfi_scan.proofs.Prelude.{◌≡◌, length, false, sym, subst, arith, BundlePlace, IsWithin, IsWithinBlock, OnTrue_at}
use Rattle.sfi_scan.proofs.Fronts.{start_at, within_stretch}
use Rattle.sfi_scan.proofs.code.block_start.Goals as goal

pub place_after-first-requires : goal.place_after-first-requires
place_after-first-requires g c =
    let run = c.requires.2 in
    let whole = run.whole in
    let end = run.end in
    let at = c.requires.3 in
    let less = c.requires.4 in
    omega (arith, whole, end, run.addresses, at, less, c.min-start.ensures)

pub is_within_block-requires : goal.is_within_block-requires
is_within_block-requires g c =
    let run = c.requires.2 in
    let code = c.args.code.now in
    let start = start_at c.requires.0 c.requires.1 c.args.at c.min-start.result (length code) run.whole c.requires.3 c.requires.4 c.if-code-lt-BLOCK_BYTES.false c.min-start.ensures in
    subst IsWithin (sym (c.place_after-first.ensures start.first start.start_is)) (within_stretch c.args.place.now code c.requires.0 start.first run start.below)

pub returns-clause-ahead : goal.returns-clause-ahead
returns-clause-ahead g c =
    let run = c.requires.2 in
    let whole = run.whole in
    let at = c.requires.3 in
    let less = c.requires.4 in
    record {
      addresses = omega (arith, whole, run.end, run.addresses, at, less, c.min-start.ensures);
      low = omega (arith, c.min-start.ensures);
      high = omega (arith, whole, at, less, c.min-start.ensures);
      whole = omega (arith, c.min-start.ensures, c.if-code-lt-BLOCK_BYTES.false);
    }

pub returns-clause-block : goal.returns-clause-block
returns-clause-block g c = λ k at.
    let run = c.requires.2 in
    let there = c.requires.3 in
    let inside = c.requires.4 in
    let start = start_at c.requires.0 k c.args.at c.min-start.result (length c.args.code.now) run.whole at (omega (arith, at, there, inside)) c.if-code-lt-BLOCK_BYTES.false c.min-start.ensures in
    let first = c.place_after-first.ensures start.first start.start_is in
    record {
      first = start.first;
      before = start.before;
      is = start.is;
      inside = start.inside;
      start_is = start.start_is;
      whole = start.whole;
      within = subst IsWithinBlock first (OnTrue_at c.if-not-is_within_block.false c.is_within_block.ensures);
      plain = subst (λ (x : BundlePlace). x.listed ≡ false) first c.if-first.false;
    }
