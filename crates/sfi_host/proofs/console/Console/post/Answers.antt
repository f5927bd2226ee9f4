use Rattle.sfi_host.proofs.Prelude.{◌≡◌, refl, sym, ap, ◌∙◌, if◌then◌else◌, Some, slice_get_read, message_of, asked}
use Rattle.sfi_host.specs.Consoles.{Message}
use Rattle.std.specs.List.{slice_get}
use Rattle.sfi_host.proofs.Serving.{posted_at}
use Rattle.sfi_host.proofs.console.Console.post.Goals.{then-deliver, else-deliver}
use Rattle.sfi_host.proofs.console.Console.post.Goals as goal

pub returns-clause-answered : goal.returns-clause-answered
returns-clause-answered g c _ =
    let items = c.self.inside.sessions.items in
    let there : slice_get items c.arg0.result ≡ Some c.in-Some.session.now = slice_get_read items _ c.arg0.result c.in-Some.session.now c.self.inside.sessions.ok.0 (c.in-Some.ensures.variant.0 refl) c.in-Some.ensures.value in
    let m : Message = record { sender = c.sandbox.result; word = c.arg1.result } in
    let says : m ≡ message_of (asked g.M.Memory.bytes c.args.guest.now) = cc in
    let a0 : c.if-deliver.set0 ≡ (if c.deliver.result then 0 else 1) = elim c.if-deliver.branch [
      | then-deliver w ↦ w.set0-is ∙ ap (λ b. if b then 0 else 1) (sym w.if-deliver.true)
      | else-deliver w ↦ w.set0-is ∙ ap (λ b. if b then 0 else 1) (sym w.if-deliver.false)
    ] in
    posted_at g.M.Memory.bytes _ c.args.self.now c.args.guest.now c.set0.new.self c.in-Some.session.now c.deliver.new.self c.arg0.result c.if-deliver.set0 m c.deliver.result
    c.self.view_is c.arg0.ensures there says c.deliver.ensures.room c.deliver.ensures.delivered c.deliver.ensures.full a0 c.set0.ensures.asked
