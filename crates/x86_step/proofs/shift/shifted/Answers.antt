use Rattle.std.proofs.Common.{◌≡◌, ◌-◌, ◌/◌, ◌%◌, ◌^◌, ◌<◌, ◌∙◌, ap, arith, rules, subst, if◌then◌else◌}
use Rattle.std.proofs.lemmas.Grind.{common_steps}
use Rattle.std.specs.Prelude.{nat_le}
use Rattle.x86_step.specs.Step.{bits_of, low}
use Rattle.x86_step.proofs.Shifts.{complement_shifted}
use Rattle.x86_step.proofs.shift.shifted.Goals as goal

pub returns-in-Sar-Dword : goal.returns-in-Sar-Dword
returns-in-Sar-Dword c =
    let a = c.args.a in
    let n = c.args.n in
    let fits : a ≡ a % 2 ^ 32 = subst (λ w. a ≡ low w a) c.in-Sar-Dword.is-1 c.requires.a in
    let few : n < 32 = subst (λ w. n < bits_of w) c.in-Sar-Dword.is-1 c.requires.n in
    let shifted : c.from.result ≡ (if nat_le (2 ^ 31) a then 2 ^ 32 - 1 - (2 ^ 32 - 1 - a) / 2 ^ n else a / 2 ^ n) = search rules in
    rw (c.in-Sar-Dword.is-0, c.in-Sar-Dword.is-1)
    (shifted ∙ ap (λ k. if nat_le (2 ^ 31) a then k else a / 2 ^ n) (complement_shifted a 32 n (omega (arith, fits)) (omega (arith, few))))

pub returns-in-Sar-Qword : goal.returns-in-Sar-Qword
returns-in-Sar-Qword c =
    let a = c.args.a in
    let n = c.args.n in
    let fits : a ≡ a % 2 ^ 64 = subst (λ w. a ≡ low w a) c.in-Sar-Qword.is-1 c.requires.a in
    let few : n < 64 = subst (λ w. n < bits_of w) c.in-Sar-Qword.is-1 c.requires.n in
    let shifted : c.cast_unsigned-in-Sar-Qword.result ≡ (if nat_le (2 ^ 63) a then 2 ^ 64 - 1 - (2 ^ 64 - 1 - a) / 2 ^ n else a / 2 ^ n) = grind (arith, common_steps) in
    rw (c.in-Sar-Qword.is-0, c.in-Sar-Qword.is-1)
    (shifted ∙ ap (λ k. if nat_le (2 ^ 63) a then k else a / 2 ^ n) (complement_shifted a 64 n (omega (arith, fits)) (omega (arith, few))))
