use Rattle.sfi_host.proofs.Prelude.{◌≡◌, ap, ◌∙◌, sym, subst, IsMemory, Sandbox, call_by, call_of, bytes_in, IsWhole, seat_of, IsReplied, IsNotReplied, slot_of, StaysSafe, StaysOutside}
use Rattle.sfi_host.proofs.AfterCalls.{whole_in, whole_of, stays_outside, asked_is, still_ready, bounds_after, safe_after, replies, refuses}
use Rattle.sfi_host.proofs.calls.ask.Goals as goal

pub call_gate-host_answer-requires : goal.call_gate-host_answer-requires
call_gate-host_answer-requires g c = whole_in (seat_of c.args.sandbox.now).bounds.data (g.M.Memory.bytes c.args.memory.now) c.requires.safe.has_data

pub returns : goal.returns
returns g c =
    let s = c.args.sandbox.now in
    let m = g.M.Memory.bytes c.args.memory.now in
    let n = g.M.Memory.bytes c.call_gate-host_answer.new.memory in
    let host_answer = c.call_gate-host_answer.result in
    let after = c.put_answer.ensures.after in
    let next = c.put_answer.ensures.next in
    let call = call_by c.request_of-request.result (bytes_in (seat_of s).bounds.data m) in
    let asks : call ≡ call_of c.args.number (slot_of m (seat_of s)) = asked_is c.args.number c.request_of-request.result m s c.request_of-request.ensures in
    let others : StaysOutside (seat_of s).bounds.data m n = stays_outside (seat_of s).bounds.data m n c.call_gate-host_answer.ensures.outside in
    let memory : IsMemory n = g.met.M.Memory.in_range c.call_gate-host_answer.new.memory in
    let whole : IsWhole (seat_of s).bounds.data n = whole_of (seat_of s).bounds.data n c.call_gate-host_answer.ensures.has_data in
    record {
      ready = λ more. ap (λ (x : Sandbox). x.status) after ∙ still_ready host_answer.answer s host_answer c.put_answer.result next more c.requires.ready;
      stays = subst (λ (x : Sandbox). StaysSafe m (seat_of s) n (seat_of x)) (sym after) (record {
        bounds = bounds_after host_answer.answer s host_answer;
        safe = safe_after m n s host_answer host_answer.answer c.requires.called.0 c.requires.safe c.requires.ready c.requires.called.1 memory others whole c.call_gate-host_answer.ensures.a0 c.call_gate-host_answer.ensures.a1;
        others = others;
      });
      replied = λ goes_on.
          subst (λ (x : Sandbox). IsReplied g.G.Gates.answer c.args.number (slot_of m (seat_of s)) c.args.gates.now (slot_of n (seat_of x)) c.call_gate-host_answer.new.gates c.put_answer.result) (sym after)
          (replies m n s host_answer call c.args.number c.args.gates.now c.call_gate-host_answer.new.gates c.put_answer.result asks others next
          g.G.Gates.answer c.requires.ready c.call_gate-host_answer.ensures.a0 c.call_gate-host_answer.ensures.a1 memory whole c.call_gate-host_answer.ensures.answered goes_on);
      refused = λ ends.
          subst (λ (x : Sandbox). IsNotReplied g.G.Gates.may_refuse c.args.number (slot_of m (seat_of s)) c.args.gates.now (slot_of n (seat_of x)) c.call_gate-host_answer.new.gates) (sym after)
          (refuses m n s host_answer call c.args.number c.args.gates.now c.call_gate-host_answer.new.gates c.put_answer.result asks others next g.G.Gates.may_refuse c.call_gate-host_answer.ensures.refused ends);
    }
