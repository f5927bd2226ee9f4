use Rattle.sfi_image.proofs.Prelude.{◌≡◌, ℕ, ◌<◌, [], refl, inr, arith, err_from_is_err_and, ne_eqb, Format, Empty, AfterMagic, AfterCount, after_parts}
use Rattle.sfi_image.proofs.CursorSteps.{at_front}
use Rattle.sfi_image.proofs.cursor.ImageCursor.new.Goals as goal

before_first : (format : Format) (n : ℕ) → 0 < n → AfterCount format n [] ≡ after_parts format n []
before_first format n some = rw (ne_eqb 0 n (λ e. omega arith)) refl

pub returns-in_err-take-clause-fault : goal.returns-in_err-take-clause-fault
returns-in_err-take-clause-fault c =
    let p = err_from_is_err_and c.from_residual.result c.from_residual.ensures.1 in
    rw (p.1, p.2) (c.in_err-take.ensures c.args.bytes.now Empty (record { stands = c.new.ensures; bytes_are = refl }))

pub take-requires-2 : goal.take-requires-2
take-requires-2 c =
    let l = c.in_ok-take.ensures c.args.bytes.now Empty (record { stands = c.new.ensures; bytes_are = refl }) in
    let read = at_front l.follows.2 l.read in
    (inr (AfterMagic l.follows.0, read.stands), rw (read.stands.kept.0) refl)

pub returns-in_err-take-2-clause-fault : goal.returns-in_err-take-2-clause-fault
returns-in_err-take-2-clause-fault c =
    let p = err_from_is_err_and c.from_residual-in_err-take-2.result c.from_residual-in_err-take-2.ensures.1 in
    let l = c.in_ok-take.ensures c.args.bytes.now Empty (record { stands = c.new.ensures; bytes_are = refl }) in
    rw (p.1, p.2) (c.in_err-take-2.ensures c.args.bytes.now (AfterMagic l.follows.0) (at_front l.follows.2 l.read))

pub returns-clause-begun : goal.returns-clause-begun
returns-clause-begun c =
    let l = c.in_ok-take.ensures c.args.bytes.now Empty (record { stands = c.new.ensures; bytes_are = refl }) in
    let m = c.in_ok-take-2.ensures c.args.bytes.now (AfterMagic l.follows.0) (at_front l.follows.2 l.read) in
    let read = at_front m.follows.2 m.read in (
      l.follows.0,
      m.follows.0,
      record { one_format = read.stands.right.0.one_format; read = at_front (before_first l.follows.0 m.follows.0 read.stands.right.1) read },
    )
