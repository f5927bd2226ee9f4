use Rattle.sfi_host.proofs.Prelude.{◌≡◌, List, ℕ, Some, length, ap, arith, subst, sym, bytes_at, bytes_in, range_with_len, span_of}
use Rattle.sfi_host.proofs.Copied.{copied, listed_length}
use Rattle.sfi_host.proofs.copying.copy_piece.Goals as goal

pub add-requires : goal.add-requires
add-requires g c =
    let r = span_of c.args.region in
    let many : length c.in_ok-bytes.bytes.items ≡ r.size = listed_length (bytes_in r (g.M.Memory.bytes c.args.from.now)) r.base r.size c.in_ok-bytes.bytes.items c.in_ok-bytes.ensures in
    let same : length c.deref.result.now ≡ length c.in_ok-bytes.bytes.items = ap (λ (l : List ℕ). length l) c.deref.ensures.value in
    omega (arith, many, same)

pub returns-in-Ok : goal.returns-in-Ok
returns-in-Ok g c =
    let r = span_of c.args.region in
    let from = g.M.Memory.bytes c.args.from.now in
    let read : bytes_at (bytes_in r from) (range_with_len r.base r.size) ≡ Some c.deref.result.now =
    subst (λ (l : List ℕ). bytes_at (bytes_in r from) (range_with_len r.base r.size) ≡ Some l) (sym c.deref.ensures.value) c.in_ok-bytes.ensures in
    copied r from (g.M.Memory.bytes c.args.to.now) _ c.deref.result.now c.requires.end read (listed_length (bytes_in r from) r.base r.size c.deref.result.now read) c.in-Ok.ensures.ok
