-- Lines that are written one after another.
use Rattle.std.proofs.Common.{◌≡◌, ℕ, zero, suc, ◌+◌, ◌-◌, ◌%◌, ◌^◌, ◌<◌, ◌≤◌, List, [], ◌∷◌, ◌++◌, length, map, drop, get_or, Option, Some, None, refl, sym, ap, ◌∙◌, arith, length-append, drop-cons}
use Rattle.std.specs.BTreeMap.{BTreeMap, get}
use Rattle.std.specs.Ordering.{nat_cmp}
use Rattle.std.specs.Option.{option_map}
use Rattle.rv_word.specs.declared.instr.Instr.TheVariants.{Branch, Jal}
use Rattle.rv_word.specs.Spelling.{offset_by}
use Rattle.sfi_translate.specs.Lines.{Line, Does}
use Rattle.sfi_translate.specs.Machine.{label}
use Rattle.x86_step.specs.Running.{spellings}
use Rattle.sfi_native.specs.declared.plan.Plan.{Plan}
use Rattle.sfi_native.specs.Registers.{nop, owed}
use Rattle.sfi_native.specs.Code.{branch_line, jal_line}
use Rattle.sfi_native.specs.Lines.{AreMeasured, line_of, target_of}
use Rattle.sfi_native.specs.declared.line.Line.{Line as Held}
use Rattle.sfi_native.specs.Places.{AreLast, code_of, distance, distance_out, distances, jump_of, line_code, nop_code, owed_behind, placed, size_of, size_of_all, start, start_or_end}
use Rattle.sfi_native.proofs.Lists.{two_parts}
use Rattle.sfi_native.proofs.Places.{code_size, label_last, last_below, one_more}
use Rattle.rv_mem.specs.Bytes.{address_after}

-- a line has one label at most
line_same : (plan : Plan) (d : ℕ → ℕ) (n exit : ℕ) (line : Line) → ((to : ℕ) → target_of line ≡ Some to → n ≡ d to) → line_code plan (λ to. n) exit line ≡ line_code plan d exit line
line_same plan d n exit (Does at size (Branch cond rs1 rs2 offset)) is = ap (λ x. nop_code (nop plan at) ++ branch_line plan (owed plan at) (owed_behind plan at size) cond rs1 rs2 (jump_of plan (λ to. x) exit at (offset_by at offset))) (is _ refl)
line_same plan d n exit (Does at size (Jal rd offset)) is = ap (λ x. nop_code (nop plan at) ++ jal_line plan (owed plan at) rd (address_after at size) (jump_of plan (λ to. x) exit at (offset_by at offset))) (is _ refl)
line_same plan d n exit (Does at size i) is = refl
line_same plan d n exit line is = refl

label_left : (plan : Plan) (code : List Line) (to left : ℕ) (o : Option (List Line)) → label to code ≡ o → option_map (size_of_all plan) o ≡ Some left → (left ≤ size_of_all plan code) × (start_or_end plan code o ≡ size_of_all plan code - left)
label_left plan code to left None is e = absurd (cc)
label_left plan code to left (Some rest) is e =
    let same : size_of_all plan rest ≡ left = cc in
    (omega (arith, last_below plan code rest (label_last to code rest is), same), ap (λ n. size_of_all plan code - n) same)

-- a label's distance
pub label_far : (plan : Plan) (code rest : List Line) (bytes : List ℕ) (labels : BTreeMap ℕ ℕ) (to left all end : ℕ) → AreMeasured plan code bytes labels → all ≡ size_of_all plan code → end ≡ start plan code rest
    → get nat_cmp labels to ≡ Some left → distance end ((all + (2 ^ 32 - left)) % 2 ^ 32) ≡ distances plan code rest to
label_far plan code rest bytes labels to left all end measured all_is end_is held =
    let it = label_left plan code to left (label to code) refl (sym (measured.left to) ∙ held) in
    let place : (all + (2 ^ 32 - left)) % 2 ^ 32 ≡ start_or_end plan code (label to code) = omega (arith, it.0, it.1, all_is, measured.few) in
    ap (λ x. distance end x) place ∙ ap (λ x. distance x (start_or_end plan code (label to code))) end_is

-- a line's bytes, by the numbers that it is written with
pub line_placed : (plan : Plan) (code rest : List Line) (line : Line) (old : List ℕ) (size n all end : ℕ) → all ≡ size_of_all plan code → AreLast code (line ∷ rest) → length old ≡ start plan code (line ∷ rest)
    → size ≡ size_of plan line → end ≡ length old + size → (end ≡ start plan code rest → (to : ℕ) → target_of line ≡ Some to → n ≡ distances plan code rest to)
    → old ++ spellings (line_code plan (λ to. n) (distance end ((all + 68) % 2 ^ 32)) line) ≡ old ++ spellings (placed plan code rest line)
line_placed plan code rest line old size n all end all_is last old_is size_is end_is far =
    let here : end ≡ start plan code rest = omega (arith, end_is, old_is, size_is, last_below plan code (line ∷ rest) last) in
    let out : distance end ((all + 68) % 2 ^ 32) ≡ distance_out plan code rest = ap (λ x. distance x ((all + 68) % 2 ^ 32)) here ∙ ap (λ x. distance (start plan code rest) ((x + 68) % 2 ^ 32)) all_is ∙ omega arith in
    ap (λ is. old ++ spellings is) (line_same plan (distances plan code rest) n (distance end ((all + 68) % 2 ^ 32)) line (far here) ∙ ap (λ x. line_code plan (distances plan code rest) x line) out)

-- A line behind those before it.
pub next_placed : (plan : Plan) (code rest : List Line) (line : Line) (out more all_bytes : List ℕ) → AreLast code (line ∷ rest) → out ++ spellings (code_of plan code (line ∷ rest)) ≡ all_bytes
    → more ≡ out ++ spellings (placed plan code rest line) → more ++ spellings (code_of plan code rest) ≡ all_bytes
next_placed plan code rest line out more all_bytes last is more_is =
    ap (λ x. x ++ spellings (code_of plan code rest)) more_is ∙ two_parts out (placed plan code rest line) (code_of plan code rest) ∙ is

-- how many bytes come before
pub placed_length : (plan : Plan) (code rest : List Line) (out : List ℕ) → out ++ spellings (code_of plan code rest) ≡ spellings (code_of plan code code) → length out ≡ start plan code rest
placed_length plan code rest out is =
    omega (arith, ap length is, length-append out (spellings (code_of plan code rest)), code_size plan code rest, code_size plan code code)

-- ==== Lines as the code has them.

pub dropped_last : (lines : List Held) (n : ℕ) → AreLast (map line_of lines) (map line_of (drop n lines))
dropped_last lines zero = record { front = []; is = refl }
dropped_last [] (suc n) = record { front = []; is = refl }
dropped_last (x ∷ lines) (suc n) = one_more (line_of x) (map line_of lines) (map line_of (drop n lines)) (dropped_last lines n)

pub dropped_is : (lines : List Held) (n : ℕ) (x : Held) → n < length lines → x ≡ get_or lines n x → map line_of (drop n lines) ≡ line_of x ∷ map line_of (drop (n + 1) lines)
dropped_is lines n x below is =
    let next : suc n ≡ n + 1 = omega arith in
    ap (map line_of) (drop-cons lines n x below) ∙ ap (λ y. line_of y ∷ map line_of (drop (suc n) lines)) (sym is) ∙ ap (λ k. line_of x ∷ map line_of (drop k lines)) next

-- the next line's bytes are few, too
pub next_fits : (plan : Plan) (lines : List Held) (n : ℕ) (x : Held) (out : List ℕ) → n < length lines → x ≡ get_or lines n x → size_of_all plan (map line_of lines) < 2 ^ 31
    → out ++ spellings (code_of plan (map line_of lines) (map line_of (drop n lines))) ≡ spellings (code_of plan (map line_of lines) (map line_of lines)) → length out + size_of plan (line_of x) < 2 ^ 31
next_fits plan lines n x out below is few stands =
    let code = map line_of lines in
    let rest = map line_of (drop n lines) in
    omega (arith, few, placed_length plan code rest out stands, last_below plan code rest (dropped_last lines n), ap (size_of_all plan) (dropped_is lines n x below is))
