-- Bytes that stand in a text run as their instructions.
use Rattle.std.proofs.Common.{◌≤◌, zero, suc, ◌≡◌, ℕ, ◌+◌, ◌-◌, true, List, [], ◌∷◌, ◌++◌, length, drop, refl, sym, ap, ◌∙◌, subst, arith, append_assoc, length-append}
use Rattle.std.specs.Prelude.{Result, Ok, Err, nat_le}
use Rattle.std.proofs.lemmas.Bool.{and_parts, false≢true, le-leb}
use Rattle.std.proofs.lemmas.List.{drop_at}
use Rattle.x86_instr.specs.declared.instr.Instr.{Instr}
use Rattle.x86_instr.specs.declared.instr.Instr.TheVariants.{Jcc, Jmp, JmpTo}
use Rattle.x86_instr.specs.Spelling.{spelling}
use Rattle.x86_instr.proofs.Facts.{spelling_decodes}
use Rattle.x86_step.specs.declared.machine.Stop.{Stop}
use Rattle.x86_step.specs.Laws.{FaultsResume, SpelledAccesses, SpelledRun, SpelledSteps, StepsJoin}
use Rattle.x86_step.specs.Running.{HasAt, are_straight, exec, is_straight, spellings}
use Rattle.x86_step.specs.State.{Core, IsFixed, Machine, Text}
use Rattle.x86_step.specs.Step.{◌>>=◌, IsHandled, Reaches, Steps, stay, go, resume, computes, goes_to, next_access, resumed, step}

-- ==== Where bytes stand.

pub has_front : (t : Text) (at : ℕ) (a b : List ℕ) → HasAt t at (a ++ b) → HasAt t at a
has_front t at a b has = record {
  before = has.before;
  after = b ++ has.after;
  bytes_are = has.bytes_are ∙ ap (λ x. has.before ++ x) (append_assoc a b has.after);
  at_is = has.at_is;
}

pub has_back : (t : Text) (at : ℕ) (a b : List ℕ) → HasAt t at (a ++ b) → HasAt t (at + length a) b
has_back t at a b has = record {
  before = has.before ++ a;
  after = has.after;
  bytes_are = has.bytes_are ∙ ap (λ x. has.before ++ x) (append_assoc a b has.after) ∙ sym (append_assoc has.before a (b ++ has.after));
  at_is = omega (arith, has.at_is, length-append has.before a);
}

-- ==== A step.

pub spelled_steps : SpelledSteps
unfolding step
spelled_steps t at i c has =
    let bytes = spelling i ++ has.after in
    let low : nat_le t.base at ≡ true = le-leb t.base at (omega (arith, has.at_is)) in
    let gap : length has.before ≡ at - t.base = omega (arith, has.at_is) in
    let there : drop (at - t.base) t.bytes ≡ bytes = ap (drop (at - t.base)) has.bytes_are ∙ drop_at has.before bytes (at - t.base) gap in
    let size : length bytes - length has.after ≡ length (spelling i) = omega (arith, length-append (spelling i) has.after) in
    rw (low, there, spelling_decodes i has.after, size) refl

pub spelled_accesses : SpelledAccesses
unfolding next_access
spelled_accesses t at i c has =
    let bytes = spelling i ++ has.after in
    let low : nat_le t.base at ≡ true = le-leb t.base at (omega (arith, has.at_is)) in
    let gap : length has.before ≡ at - t.base = omega (arith, has.at_is) in
    let there : drop (at - t.base) t.bytes ≡ bytes = ap (drop (at - t.base)) has.bytes_are ∙ drop_at has.before bytes (at - t.base) gap in
    rw (low, there, spelling_decodes i has.after) refl

pub faults_resume : FaultsResume
faults_resume t at i c f fixed has faults there lies =
    record {
      fixed = fixed;
      count = 1;
      few = omega arith;
      steps = resume 0 (record { rip = at; core = c }) (resumed f c) f (spelled_steps t at i c has ∙ faults) there
          (subst (λ access. IsHandled t.handled access) (sym (spelled_accesses t at i c has)) lies) (stay (resumed f c));
    }

-- ==== Several steps.

none_more : (more : ℕ) → more ≡ 0 + more
none_more more = omega arith

one_more : (first more : ℕ) → suc (first + more) ≡ suc first + more
one_more first more = omega arith

steps_join : (t : Text) (first more : ℕ) (m n k : Machine) → Steps t first m n → Steps t more n k → Steps t (first + more) m k
steps_join t zero more m n k (stay a) rest = subst (λ all. Steps t all m k) (none_more more) rest
steps_join t (suc first) more m n k (go steps a b z one then) rest =
    subst (λ all. Steps t all m k) (one_more first more) (go (first + more) a b k one (steps_join t first more b z k then rest))
steps_join t (suc first) more m n k (resume steps a z f faults has lies then) rest =
    subst (λ all. Steps t all m k) (one_more first more) (resume (first + more) a k f faults has lies (steps_join t first more (resumed f a.core) z k then rest))

pub reaches_join : StepsJoin
reaches_join t first more m n k one then =
    let few = one.few in
    let fewer = then.few in
    record {
      fixed = one.fixed;
      count = one.count + then.count;
      few = omega (arith, few, fewer);
      steps = steps_join t one.count then.count m n k one.steps then.steps;
    }

pub in_more : (t : Text) (few more : ℕ) (m k : Machine) → few ≤ more → Reaches t few m k → Reaches t more m k
in_more t few more m k less reached =
    let below = reached.few in
    record { fixed = reached.fixed; count = reached.count; few = omega (arith, below, less); steps = reached.steps }

pub stays : (t : Text) (m : Machine) → IsFixed t m.core → Reaches t 0 m m
stays t m fixed = record { fixed = fixed; count = 0; few = omega arith; steps = stay m }

straight_goes : (i : Instr) (after : ℕ) (c : Core) → is_straight i ≡ true → goes_to i after c ≡ Ok after
straight_goes (Jcc condition distance) after c straight = absurd (false≢true straight)
straight_goes (Jmp distance) after c straight = absurd (false≢true straight)
straight_goes (JmpTo target) after c straight = absurd (false≢true straight)
straight_goes i after c straight = refl

straight_steps : (t : Text) (at : ℕ) (i : Instr) (c d : Core) → is_straight i ≡ true → HasAt t at (spelling i) → computes i c ≡ Ok d
    → step t (record { rip = at; core = c }) ≡ Ok (record { rip = at + length (spelling i); core = d })
straight_steps t at i c d straight has is =
    let after = at + length (spelling i) in
    spelled_steps t at i c has
    ∙ ap (λ to. to >>= λ r. computes i c >>= λ k. Ok (record { rip = r; core = k })) (straight_goes i after c straight)
    ∙ ap (λ k. k >>= λ k. Ok (record { rip = after; core = k })) is

same_core : (c d : Core) → exec [] c ≡ Ok d → c ≡ d
same_core c d e = cc

run_on : (t : Text) (at : ℕ) (i : Instr) (is : List Instr) (c d : Core) → is_straight i ≡ true → HasAt t at (spelling i)
    → ((k : Core) → exec is k ≡ Ok d → Steps t (length is) (record { rip = at + length (spelling i); core = k }) (record { rip = at + length (spelling i) + length (spellings is); core = d }))
    → (r : Result Core Stop) → computes i c ≡ r → (r >>= exec is) ≡ Ok d
    → Steps t (suc (length is)) (record { rip = at; core = c }) (record { rip = at + length (spelling i) + length (spellings is); core = d })
run_on t at i is c d straight has rest (Ok k) first e =
    go (length is) (record { rip = at; core = c }) (record { rip = at + length (spelling i); core = k }) _ (straight_steps t at i c k straight has first) (rest k e)
run_on t at i is c d straight has rest (Err s) first e = absurd (cc)

steps_run : (t : Text) (at : ℕ) (is : List Instr) (c d : Core) → are_straight is ≡ true → HasAt t at (spellings is) → exec is c ≡ Ok d
    → Steps t (length is) (record { rip = at; core = c }) (record { rip = at + length (spellings is); core = d })
steps_run t at [] c d straight has e =
    let sum : at ≡ at + 0 = omega arith in
    subst (λ n. Steps t 0 (record { rip = at; core = c }) (record { rip = n; core = d })) sum
    (subst (λ k. Steps t 0 (record { rip = at; core = c }) (record { rip = at; core = k })) (same_core c d e) (stay _))
steps_run t at (i ∷ is) c d straight has e =
    let both = and_parts (is_straight i) (are_straight is) straight in
    let sum : at + length (spelling i) + length (spellings is) ≡ at + length (spelling i ++ spellings is) = omega (arith, length-append (spelling i) (spellings is)) in
    subst (λ n. Steps t (suc (length is)) (record { rip = at; core = c }) (record { rip = n; core = d })) sum
    (run_on t at i is c d both.0 (has_front t at (spelling i) (spellings is) has)
    (λ k x. steps_run t (at + length (spelling i)) is k d both.1 (has_back t at (spelling i) (spellings is) has) x)
    (computes i c) refl e)

pub spelled_run : SpelledRun
spelled_run t at is c d fixed straight has e = record { fixed = fixed; count = length is; few = omega arith; steps = steps_run t at is c d straight has e }

-- ==== Lists of instructions that are put together.

pub spellings_append : (is js : List Instr) → spellings (is ++ js) ≡ spellings is ++ spellings js
spellings_append [] js = refl
spellings_append (i ∷ is) js = ap (λ x. spelling i ++ x) (spellings_append is js) ∙ sym (append_assoc (spelling i) (spellings is) (spellings js))

append_on : (r : Result Core Stop) (is js : List Instr) (d : Core) → ((k : Core) → exec is k ≡ Ok d → exec (is ++ js) k ≡ exec js d)
    → (r >>= exec is) ≡ Ok d → (r >>= exec (is ++ js)) ≡ exec js d
append_on (Ok k) is js d each e = each k e
append_on (Err s) is js d each e = absurd (cc)

pub exec_append : (is js : List Instr) (c d : Core) → exec is c ≡ Ok d → exec (is ++ js) c ≡ exec js d
exec_append [] js c d e = ap (exec js) (same_core c d e)
exec_append (i ∷ is) js c d e = append_on (computes i c) is js d (λ k x. exec_append is js k d x) e

pub straight_append : (is js : List Instr) → are_straight is ≡ true → are_straight js ≡ true → are_straight (is ++ js) ≡ true
straight_append [] js a b = b
straight_append (i ∷ is) js a b =
    let both = and_parts (is_straight i) (are_straight is) a in
    rw (both.0, straight_append is js both.1 b) refl
