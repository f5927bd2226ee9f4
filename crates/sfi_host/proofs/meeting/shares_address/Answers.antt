use Rattle.sfi_host.proofs.Prelude.{refl, bounds_of, seat_of}
use Rattle.sfi_host.specs.Modules.{part_of}
use Rattle.sfi_host.proofs.Meetings.{by_codes, by_first, by_second, by_last, code_bounded}
use Rattle.sfi_host.proofs.meeting.shares_address.Goals as goal

pub have_common_address-requires-clause-other : goal.have_common_address-requires-clause-other
have_common_address-requires-clause-other c = code_bounded (part_of c.args.format c.args.part.now) c.code_of-part_code.result c.requires.right (c.code_of-part_code.ensures c.args.format)

pub have_common_address-requires-3-clause-other : goal.have_common_address-requires-3-clause-other
have_common_address-requires-3-clause-other c = code_bounded (part_of c.args.format c.args.part.now) c.code_of-part_code.result c.requires.right (c.code_of-part_code.ensures c.args.format)

pub returns-then-have_common_address : goal.returns-then-have_common_address
returns-then-have_common_address c =
    (λ t. by_codes (seat_of c.args.sandbox.now).bounds (bounds_of (part_of c.args.format c.args.part.now)) _ _ _ _ c.code_span-code.ensures c.with_guards-guarded.ensures (c.code_of-part_code.ensures c.args.format) c.with_guards-part_guarded.ensures (c.if-have_common_address.ensures.0 refl), λ m. refl)

pub returns-then-have_common_address-2 : goal.returns-then-have_common_address-2
returns-then-have_common_address-2 c =
    (λ t. by_first (seat_of c.args.sandbox.now).bounds (bounds_of (part_of c.args.format c.args.part.now)) _ _ _ _ c.code_span-code.ensures c.with_guards-guarded.ensures (c.code_of-part_code.ensures c.args.format) c.with_guards-part_guarded.ensures (c.if-have_common_address-2.ensures.0 refl), λ m. refl)

pub returns-then-have_common_address-3 : goal.returns-then-have_common_address-3
returns-then-have_common_address-3 c =
    (λ t. by_second (seat_of c.args.sandbox.now).bounds (bounds_of (part_of c.args.format c.args.part.now)) _ _ _ _ c.code_span-code.ensures c.with_guards-guarded.ensures (c.code_of-part_code.ensures c.args.format) c.with_guards-part_guarded.ensures (c.if-have_common_address-3.ensures.0 refl), λ m. refl)

pub returns : goal.returns
returns c =
    by_last (seat_of c.args.sandbox.now).bounds (bounds_of (part_of c.args.format c.args.part.now)) _ _ _ _ c.code_span-code.ensures c.with_guards-guarded.ensures (c.code_of-part_code.ensures c.args.format) c.with_guards-part_guarded.ensures
    _ c.have_common_address-4.ensures (λ x. absurd (let e = c.if-have_common_address.ensures.1 x in cc)) (λ x. absurd (let e = c.if-have_common_address-2.ensures.1 x in cc)) (λ x. absurd (let e = c.if-have_common_address-3.ensures.1 x in cc))
