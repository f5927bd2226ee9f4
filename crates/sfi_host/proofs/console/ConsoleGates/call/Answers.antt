use Rattle.sfi_host.proofs.Prelude.{◌≡◌, ◌≢◌, ◌<◌, ◌≤◌, length, sym, ap, ◌∙◌, Some, arith, slice_get_read, ConsoleState, asked}
use Rattle.sfi_host.specs.Consoles.{exit_service, yield_service, post_service}
use Rattle.std.specs.Vec.{vec_len}
use Rattle.std.specs.List.{slice_get}
use Rattle.sfi_host.proofs.Serving.{given_at, refusal_at, posts_at, unknown_at}
use Rattle.sfi_host.proofs.console.ConsoleGates.call.Goals as goal

pub returns-then-caller-len-clause-answered : goal.returns-then-caller-len-clause-answered
returns-then-caller-len-clause-answered g c _ =
    let not_exit : (asked g.M.Memory.bytes c.args.guest.now).service ≢ exit_service = grind arith in
    let not_yield : (asked g.M.Memory.bytes c.args.guest.now).service ≢ yield_service = grind arith in
    let count : length c.args.self.now.sessions ≡ c.len.result = ap (λ (s : ConsoleState). length s.sessions) (sym c.self.view_is) ∙ sym c.self.inside.sessions.ok.0 ∙ sym c.len.ensures in
    let past : length c.args.self.now.sessions ≤ (asked g.M.Memory.bytes c.args.guest.now).caller = omega (arith, count, c.if-caller-len.true, c.sandbox-caller.ensures) in
    unknown_at g.M.Memory.bytes c.args.self.now c.args.guest.now c.refuse.new.guest c.refuse.result not_exit not_yield past c.refuse.ensures.replied c.refuse.ensures.asked

pub returns-then-service-eq-POST-clause-answered : goal.returns-then-service-eq-POST-clause-answered
returns-then-service-eq-POST-clause-answered g c h =
    let count : length c.args.self.now.sessions ≡ c.len.result = ap (λ (s : ConsoleState). length s.sessions) (sym c.self.view_is) ∙ sym c.self.inside.sessions.ok.0 ∙ sym c.len.ensures in
    let known : (asked g.M.Memory.bytes c.args.guest.now).caller < length c.args.self.now.sessions = omega (arith, count, c.if-caller-len.false, c.sandbox-caller.ensures) in
    posts_at g.M.Memory.bytes c.args.self.now c.post.new.self c.args.guest.now c.post.new.guest c.post.result (sym c.service-2.ensures ∙ c.if-service-eq-POST.true) known (c.post.ensures.answered h)

pub returns : goal.returns
returns g c =
    let i = c.sandbox-caller.result in
    let known : i < vec_len c.self.inside.sessions = omega (arith, c.len.ensures, c.if-caller-len.false) in
    let there : slice_get c.self.inside.sessions.items i ≡ Some c.index_mut.result.now = slice_get_read c.self.inside.sessions.items _ i c.index_mut.result.now c.self.inside.sessions.ok.0 known c.index_mut.ensures.value in
    let not_exit : (asked g.M.Memory.bytes c.args.guest.now).service ≢ exit_service = grind arith in
    let not_yield : (asked g.M.Memory.bytes c.args.guest.now).service ≢ yield_service = grind arith in
    let no_post : (asked g.M.Memory.bytes c.args.guest.now).service ≢ post_service = λ e. c.if-service-eq-POST.false (c.service-2.ensures ∙ e) in
    record {
      same_reference = c.serve.ensures.same_reference;
      others = c.serve.ensures.others;
      answered = λ h. given_at g.M.Memory.bytes _ c.args.self.now c.args.guest.now c.serve.new.guest c.index_mut.result.now c.serve.new.self i c.deref.result.now c.serve.result
          c.self.view_is c.sandbox-caller.ensures c.deref.ensures.value there not_exit not_yield no_post (c.serve.ensures.answered h);
      refused = λ h. refusal_at g.M.Memory.bytes _ c.args.self.now c.args.guest.now c.serve.new.guest c.index_mut.result.now c.serve.new.self i c.self.view_is c.sandbox-caller.ensures there (c.serve.ensures.refused h);
    }
