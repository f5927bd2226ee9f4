use Rattle.sfi_scan.proofs.Prelude.{bit_and, ◌≡◌, ◌+◌, ◌*◌, true, false, sym, ap, ◌∙◌, inl, arith, is_in}
use Rattle.sfi_scan.proofs.Marks.{after_two_is, in_all, in_zero}
use Rattle.sfi_scan.proofs.Joining.{joined}
use Rattle.sfi_scan.proofs.Starts.{seen, free_start, access_inside, access_free}
use Rattle.sfi_scan.proofs.block.doubtful_places.Goals as goal

pub returns-then-not-are_starts : goal.returns-then-not-are_starts
returns-then-not-are_starts g c k lt none =
    absurd (let no_bit : true ≡ false = sym (in_all (8 * k + 0) (omega (arith, lt))) ∙ none 0 (omega arith) in cc)

pub returns-then-left-eq0 : goal.returns-then-left-eq0
returns-then-left-eq0 g c k lt none =
    let starts = c.starts_of-starts.result in
    let words = bit_and starts c.masks_of-masks.result.long in
    joined c.args.place.now c.args.block.now starts words _ k c.told-block lt c.requires.within c.if-not-are_starts.ensures (after_two_is words)
    (λ j below start.
    let out = ap (λ m. is_in m (8 * k + j)) c.if-left-eq0.true ∙ in_zero (8 * k + j) in
    inl (free_start c.args.place.now c.args.block.now _ starts c.masks_of-masks.result _ c.bits_without-left.result (8 * k + j) c.requires.stack c.masks_of-masks.ensures c.if-not-are_starts.ensures c.bits_without-left.ensures
    (omega (arith, lt, below)) out start))

pub clean_accesses-accesses-requires-clause-inside :
    goal.clean_accesses-accesses-requires-clause-inside
clean_accesses-accesses-requires-clause-inside g c = access_inside c.starts_of-starts.result c.bits_without-left.result c.masks_of-masks.result c.if-not-are_starts.ensures

pub clean_accesses-accesses-requires-clause-access :
    goal.clean_accesses-accesses-requires-clause-access
clean_accesses-accesses-requires-clause-access g c =
    access_free _ c.args.block.now c.starts_of-starts.result c.bits_without-left.result c.masks_of-masks.result c.masks_of-masks.ensures c.if-not-are_starts.ensures

pub returns : goal.returns
returns g c k lt none =
    let starts = c.starts_of-starts.result in
    let words = bit_and starts c.masks_of-masks.result.long in
    joined c.args.place.now c.args.block.now starts words c.after_two-after.result k c.told-block lt c.requires.within c.if-not-are_starts.ensures c.after_two-after.ensures
    (λ j below start.
    seen c.args.place.now c.args.block.now _ starts c.masks_of-masks.result c.after_two-after.result c.bits_without-left.result c.clean_accesses-accesses.result c.bits_without-others.result c.clean_others.result c.bits_without-rest.result c.stack_writes.result c.bits_without.result (8 * k + j)
    c.requires.stack c.masks_of-masks.ensures c.if-not-are_starts.ensures c.bits_without-left.ensures c.bits_without-others.ensures c.bits_without-rest.ensures c.bits_without.ensures (omega (arith, lt, below))
    c.clean_accesses-accesses.ensures.within c.clean_accesses-accesses.ensures.clean c.clean_others.ensures c.stack_writes.ensures.stack c.stack_writes.ensures.writes (none j below) start)
