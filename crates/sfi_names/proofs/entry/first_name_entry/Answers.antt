use Rattle.std.proofs.Common.{◌≡◌, ◌++◌, length, get_or, arith, true}
use Rattle.std.specs.List.{between}
use Rattle.sfi_names.specs.Tables.{IsName}
use Rattle.sfi_names.proofs.Entries.{too_few, too_short, no_name, reads, parts_of}
use Rattle.sfi_names.proofs.entry.first_name_entry.Goals as goal

pub returns-then-bytes-le-NUMBER_BYTES-clause-none : goal.returns-then-bytes-le-NUMBER_BYTES-clause-none
returns-then-bytes-le-NUMBER_BYTES-clause-none c = too_few c.args.bytes.now (omega arith)

pub returns-then-rest-size-clause-none : goal.returns-then-rest-size-clause-none
returns-then-rest-size-clause-none c =
    let n = c.number_at-address in
    too_short c.args.bytes.now n.result.1.now n.result.0 n.ensures.word n.ensures.front (omega arith) c.if-rest-size.true

pub returns-then-is_name-clause-found : goal.returns-then-is_name-clause-found
returns-then-is_name-clause-found c =
    let n = c.number_at-address in
    let tail = n.result.1.now in
    let name = c.split_at.result.0.now in
    let rest = c.split_at.result.1.now in
    let parts : between 1 (length tail) tail ≡ name ++ rest = parts_of (between 1 (length tail) tail) name rest (get_or tail 0 0) c.split_at.ensures.front c.split_at.ensures.back in
    (record { address = n.ensures.word; name = c.is_name.ensures.0 c.if-is_name.true }, reads c.args.bytes.now tail n.result.0 n.ensures.word n.ensures.front name rest (omega arith) c.split_at.ensures.front_len parts)

pub returns-else-is_name-clause-none : goal.returns-else-is_name-clause-none
returns-else-is_name-clause-none c =
    let n = c.number_at-address in
    let tail = n.result.1.now in
    let name = c.split_at.result.0.now in
    let rest = c.split_at.result.1.now in
    let parts : between 1 (length tail) tail ≡ name ++ rest = parts_of (between 1 (length tail) tail) name rest (get_or tail 0 0) c.split_at.ensures.front c.split_at.ensures.back in
    let none : IsName name → c.is_name.result ≡ true = c.is_name.ensures.1 in
    no_name c.args.bytes.now tail n.result.0 n.ensures.word n.ensures.front name rest (omega arith) c.split_at.ensures.front_len parts (λ is. let e = none is in let f = c.if-is_name.false in absurd cc)
