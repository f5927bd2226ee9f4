use Rattle.std.proofs.Common.{◌≡◌, ℕ, ◌+◌, ◌-◌, ◌^◌, ◌<◌, ◌≤◌, List, ◌++◌, length, Some, Result, Ok, Err, OnOk, is_some, replicate, slice_index, sym, ap, ◌∙◌, subst, arith}
use Rattle.std.proofs.lemmas.Grind.{common_steps}
use Rattle.rv_mem.specs.Bytes.{Bytes, byte_at, with_bytes, addresses, added}
use Rattle.rv_mem.specs.Segments.{bytes_of}
use Rattle.rv_mem.proofs.Facts.{written_is_there}
use Rattle.sfi_image.specs.declared.span.Span.{Span}
use Rattle.sfi_host.specs.Slots.{bytes_in, IsWhole}
use Rattle.sfi_host.proofs.RegionBytes.{byte_in, is_in-Holds}
use Rattle.sfi_host_tests.proofs.tests.guests.memory.Goals as goal

-- a region that was added is whole
added_whole : (m : Bytes) (base size : ℕ) (front : List ℕ) → base + size ≤ 2 ^ 32 → length front ≤ size
    → IsWhole (record { base = base; size = size }) (bytes_in (record { base = base; size = size }) (added m base size front))
added_whole m base size front room few = λ a h.
    let all : List ℕ = front ++ replicate (size - length front) 0 in
    let many : length all ≡ size = grind (arith, common_steps) in
    let k : base + (a - base) ≡ a = omega (arith, h.0) in
    let below : a - base < length all = omega (arith, many, h.0, h.1) in
    let there = written_is_there m base all (a - base) (omega (arith, many)) below in
    let at : byte_at (added m base size front) a ≡ Some (slice_index all (a - base)) =
    ap (λ n. byte_at (with_bytes m (addresses base n) all) a) (sym many) ∙ ap (byte_at (with_bytes m (addresses base (length all)) all)) (sym k) ∙ there in
    ap is_some (byte_in (record { base = base; size = size }) (added m base size front) a (is_in-Holds (record { base = base; size = size }) a h)) ∙ ap is_some at

on_ok : {A B : Type 0} (r : Result A B) (x : A) (P : Type 0) → OnOk r P → r ≡ Ok x → P
on_ok (Ok y) x P h e = h
on_ok (Err y) x P h e = absurd (cc)

abbrev test_data : Span
test_data = record { base = 25165824; size = 256 }

pub returns : goal.returns
returns g c =
    let bytes : bytes_of c.add-3.new.self ≡ added (bytes_of c.add-2.new.self) 25165824 256 c.args.front.now = on_ok c.add-3.result c.expect.result _ c.add-3.ensures.ok c.expect.ensures in
    subst (λ m. IsWhole test_data (bytes_in test_data m)) (sym bytes) (added_whole (bytes_of c.add-2.new.self) 25165824 256 c.args.front.now (omega arith) c.requires)
