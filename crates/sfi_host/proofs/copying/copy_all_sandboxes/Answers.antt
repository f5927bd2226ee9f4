use Rattle.sfi_host.proofs.Prelude.{◌∙◌, arith, length-map, seat_of, world_of}
use Rattle.sfi_host.proofs.Copied.{all_copied}
use Rattle.sfi_host.proofs.copying.copy_all_sandboxes.Goals as goal

pub returns : goal.returns
returns g c =
    let many = length-map c.args.sandboxes.now seat_of in
    c.in_ok-copy_other_sandboxes.ensures ∙ all_copied (world_of (g.M.Memory.bytes c.args.from.now) c.args.sandboxes.now) c.requires.owned _ (omega (arith, many))
