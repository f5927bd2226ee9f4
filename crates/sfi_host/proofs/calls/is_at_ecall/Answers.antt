use Rattle.sfi_host.proofs.Prelude.{◌∙◌, ℕ, ap, loaded}
use Rattle.sfi_host.proofs.Stops.{is_word, no_word}
use Rattle.sfi_host.proofs.calls.is_at_ecall.Goals as goal

pub returns-in_default : goal.returns-in_default
returns-in_default g c =
    let m = g.M.Memory.bytes c.args.memory.now in
    no_word (record { hart = c.args.cpu.now; memory = m }) c.load.result (c.load.ensures.value ∙ ap (λ (a : ℕ). loaded m a 4) c.pc.ensures.value) c.in_default.not-Some

pub returns : goal.returns
returns g c =
    let m = g.M.Memory.bytes c.args.memory.now in
    is_word (record { hart = c.args.cpu.now; memory = m }) c.load.result (c.load.ensures.value ∙ ap (λ (a : ℕ). loaded m a 4) c.pc.ensures.value) c.in-Some.word c.in-Some.is
