use Rattle.sfi_report.proofs.Prelude.{◌∙◌, ◌++◌, ap, subst, List, ℕ, ◌≡◌, string_bytes, view, Part, registers_text, Adds}
use Rattle.sfi_report.specs.State.{code_from, state_front, IsStateText}
use Rattle.sfi_report.specs.private.{IsPlaceLine}
use Rattle.rv_step.specs.State.{Hart}
use Rattle.sfi_report.proofs.state.state_text.Goals as goal

-- the text of its pieces
whole_state : (sandbox : ℕ) (p : Part) (h : Hart) (code first placed text : List ℕ) → code ≡ code_from p h.pc
    → first ≡ state_front sandbox
    → Adds first placed (IsPlaceLine h.pc code)
    → text ≡ placed ++ registers_text h 31
    → IsStateText sandbox p h text
whole_state sandbox p h code first placed text is begins a e =
    let place = subst (λ (l : List ℕ). IsPlaceLine h.pc l a.text) is a.text_is in
    record {
      front = place.front;
      front_is = place.front_is;
      text_is = e
          ∙ ap (λ (l : List ℕ). l ++ registers_text h 31)
          (a.new_is ∙ ap (λ (l : List ℕ). l ++ a.text) begins
          ∙ ap (λ (l : List ℕ). state_front sandbox ++ l) place.text_is);
    }

pub returns : goal.returns
returns c = record {
  text = λ format. whole_state c.args.sandbox (view format c.args.part.now) c.args.cpu.now c.code_from.result.now (string_bytes c.push_state_front.new.out) (string_bytes c.push_place_line.new.out) _
      (c.code_from.ensures format ∙ ap (code_from (view format c.args.part.now)) c.pc-2.ensures.value)
      (c.in_ok-push_state_front.ensures ∙ ap (λ (l : List ℕ). l ++ state_front c.args.sandbox) c.new-out.ensures.bytes)
      (subst (λ n. Adds (string_bytes c.push_state_front.new.out) (string_bytes c.push_place_line.new.out) (IsPlaceLine n c.code_from.result.now)) c.pc.ensures.value c.in_ok-push_place_line.ensures)
      c.in_ok-push_registers.ensures;
}
