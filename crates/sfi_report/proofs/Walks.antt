-- The walk over a unit of code, instruction by instruction: `Is` says of an address, bytes there and a text whether
-- this is theirs.
use Rattle.std.proofs.Common.{length-drop}
use Rattle.std.proofs.lemmas.List.{drop_all}
use Rattle.sfi_report.proofs.Prelude.{◌≡◌, ℕ, [], length, arith, ◌+◌, ◌≤◌, List, ◌++◌, drop, sym, ap, ◌∙◌, subst, append_assoc, append-nil, drop-drop, Adds}

-- at this place, with these lines so far
pub record Leads (Is : ℕ → List ℕ → List ℕ → Type 0) (address : ℕ) (bytes : List ℕ) (at : ℕ) (old new : List ℕ) : Type 0 where
  pub lines : List ℕ
  pub new_is : new ≡ old ++ lines
  pub within : at ≤ length bytes
  pub leads : (rest : List ℕ) → Is (address + at) (drop at bytes) rest → Is address bytes (lines ++ rest)

module _ (Is : ℕ → List ℕ → List ℕ → Type 0) (address : ℕ) (bytes : List ℕ) where
  pub at_first : (old : List ℕ) → Leads Is address bytes 0 old old
  at_first old = record {
    lines = [];
    new_is = sym (append-nil old);
    within = omega arith;
    leads = λ rest h. subst (λ a. Is a bytes rest) (let same : address + 0 ≡ address = omega arith in same) h;
  }

  -- after an instruction of n bytes
  pub next : (at n : ℕ) (rest old new more line : List ℕ) → rest ≡ drop at bytes → Leads Is address bytes at old new → n ≤ length rest
      → ((later : List ℕ) → Is (address + at + n) (drop n rest) later → Is (address + at) rest (line ++ later)) → more ≡ new ++ line → Leads Is address bytes (at + n) old more
  next at n rest old new more line is so_far fits then e = record {
    lines = so_far.lines ++ line;
    new_is = e ∙ ap (λ t. t ++ line) so_far.new_is ∙ append_assoc old so_far.lines line;
    within = omega (arith, fits, ap length is, length-drop at bytes, so_far.within);
    leads = λ later h.
        let moved = subst (λ a. Is a (drop (at + n) bytes) later) (let same : address + (at + n) ≡ address + at + n = omega arith in same) h in
        let left : drop (at + n) bytes ≡ drop n rest = sym (drop-drop n at bytes) ∙ ap (drop n) (sym is) in
        let here = then later (subst (λ (b : List ℕ). Is (address + at + n) b later) left moved) in
        subst (λ (t : List ℕ). Is address bytes t) (sym (append_assoc so_far.lines line later))
        (so_far.leads (line ++ later) (subst (λ (b : List ℕ). Is (address + at) b (line ++ later)) is here));
  }

  -- where no more is read
  pub at_rest : (at : ℕ) (rest old new more line : List ℕ) → rest ≡ drop at bytes → Leads Is address bytes at old new → Is (address + at) rest line → more ≡ new ++ line → Adds old more (Is address bytes)
  at_rest at rest old new more line is so_far here e = record {
    text = so_far.lines ++ line;
    text_is = so_far.leads line (subst (λ (b : List ℕ). Is (address + at) b line) is here);
    new_is = e ∙ ap (λ t. t ++ line) so_far.new_is ∙ append_assoc old so_far.lines line;
  }

  -- after the last byte
  pub at_last : (at : ℕ) (old new : List ℕ) → length bytes ≤ at → Leads Is address bytes at old new → Is (address + at) [] [] → Adds old new (Is address bytes)
  at_last at old new over so_far here = at_rest at [] old new new [] (sym (drop_all at bytes over)) so_far here (sym (append-nil new))
