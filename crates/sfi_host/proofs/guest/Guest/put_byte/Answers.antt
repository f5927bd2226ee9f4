use Rattle.sfi_host.proofs.Prelude.{◌≡◌, true, sym, ◌∙◌, ap, is_some, rules, Bytes, is_in, data_of, call_by}
use Rattle.sfi_host.proofs.RegionBytes.{byte_out, store_puts, put_there, put_kept, put_outside, put_whole, put_region}
use Rattle.sfi_host.proofs.guest.Guest.put_byte.Goals as goal

pub returns-then-not-holds-clause-there : goal.returns-then-not-holds-clause-there
returns-then-not-holds-clause-there g c =
    let missing = byte_out (data_of c.args.self.now) (g.M.Memory.bytes c.args.self.now.memory.now) c.args.at (cc) in
    (λ t. ap is_some (sym missing) ∙ t, λ t. ap is_some missing ∙ t)

pub returns : goal.returns
returns g c =
    let within : is_in (data_of c.args.self.now) c.args.at ≡ true = cc in
    let puts = store_puts _ _ _ _ _ _ _ within c.ranges.at.fits c.from.ensures c.ranges.byte.fits c.store.ensures.there c.store.ensures.done c.store.ensures.refused in
    let call = λ (x : Bytes). call_by c.args.self.now.request x in
    record {
      same_reference = search rules;
      done = put_kept _ _ _ _ _ _ call puts;
      refused = search rules;
      there = put_there _ _ _ _ _ _ puts;
      region = put_region _ _ _ _ _ _ puts;
      has_data = put_whole _ _ _ _ _ _ puts;
      outside = put_outside _ _ _ _ _ _ puts;
      place = search rules;
    }
