-- The lines of accesses, by what stands before the access and what behind it.
use Rattle.std.proofs.Common.{◌≡◌, ℕ, ◌<◌, List, [], ◌∷◌, ◌++◌, length, length-append, sym, ap, ◌∙◌, arith, append_assoc}
use Rattle.rv_word.specs.declared.instr.LoadKind.{LoadKind}
use Rattle.rv_word.specs.declared.instr.LoadKind.TheVariants.{Lb, Lh, Lw, Lbu, Lhu}
use Rattle.rv_word.specs.declared.instr.StoreWidth.{StoreWidth}
use Rattle.rv_word.specs.declared.instr.StoreWidth.TheVariants.{Sb, Sh, Sw}
use Rattle.x86_instr.specs.declared.operand.Register.{Register}
use Rattle.x86_instr.specs.declared.operand.Address.{Address}
use Rattle.x86_instr.specs.declared.instr.Instr.{Instr as Native}
unfoldable use Rattle.x86_instr.specs.Spelling.{spelling}
use Rattle.x86_step.specs.Running.{spellings}
use Rattle.x86_step.proofs.Running.{spellings_append}
use Rattle.sfi_native.specs.Code.{load_from, store_to}

-- ==== An access has bytes.

behind_some : (xs ys : List ℕ) (y : ℕ) → 0 < length (xs ++ (y ∷ ys))
behind_some xs ys y = omega (arith, length-append xs (y ∷ ys))

pub load_some : (kind : LoadKind) (dst : Register) (a : Address) → 0 < length (spelling (load_from kind dst a))
unfolding spelling
load_some Lb dst a = omega arith
load_some Lh dst a = omega arith
load_some Lw dst a = behind_some _ _ _
load_some Lbu dst a = omega arith
load_some Lhu dst a = omega arith

pub store_some : (width : StoreWidth) (a : Address) (src : Register) → 0 < length (spelling (store_to width a src))
unfolding spelling
store_some Sb a src = omega arith
store_some Sh a src = omega arith
store_some Sw a src = behind_some _ _ _

pub front_ends : (front back : List Native) (i : Native) → 0 < length (spelling i) → length (spellings front) < length (spellings (front ++ (i ∷ back)))
front_ends front back i some =
    omega (arith, some, ap length (spellings_append front (i ∷ back)), length-append (spellings front) (spellings (i ∷ back)), length-append (spelling i) (spellings back))

-- ==== Before and behind it.

pub load_parts : (front settled last : List Native) (load : Native) → front ++ (load ∷ (settled ++ last)) ≡ (front ++ (load ∷ settled)) ++ last
load_parts front settled last load = sym (append_assoc front (load ∷ settled) last)

pub store_parts : (one two last : List Native) (store : Native) → (one ++ two) ++ (store ∷ last) ≡ (one ++ (two ++ (store ∷ []))) ++ last
store_parts one two last store =
    append_assoc one two (store ∷ last) ∙ ap (λ is. one ++ is) (sym (append_assoc two (store ∷ []) last)) ∙ sym (append_assoc one (two ++ (store ∷ [])) last)
