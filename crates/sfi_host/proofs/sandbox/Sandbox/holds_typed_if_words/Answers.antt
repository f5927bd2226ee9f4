use Rattle.std.proofs.Common.{refl}
use Rattle.sfi_host.specs.Slots.{span_of}
use Rattle.sfi_host.proofs.FromOutside.{all_near, typed_near}
use Rattle.sfi_host.proofs.sandbox.Sandbox.holds_typed_if_words.Goals as goal

pub returns-then-not-lie_near : goal.returns-then-not-lie_near
returns-then-not-lie_near c = (
  λ f. absurd cc,
  λ typed. c.if-not-lie_near.ensures.1 (typed_near c.args.self.now.format (span_of c.args.self.now.code) (span_of c.args.self.now.data) c.args.cpu.now.registers typed),
)

pub returns : goal.returns
returns c = (
  λ t. record {
    each_data = all_near c.args.self.now.format (span_of c.args.self.now.data) c.args.cpu.now.registers (c.if-not-lie_near.ensures.0 refl);
    code = c.if-not-holds_word_start.ensures.0 refl;
    offset = c.holds_offset.ensures.0 t;
  },
  λ typed. c.holds_offset.ensures.1 typed.offset,
)
