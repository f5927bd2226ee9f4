-- Code with jumps within it, from its start to its end.
use Rattle.std.proofs.Common.{suc, ◌≡◌, ℕ, ◌+◌, ◌%◌, ◌^◌, ◌<◌, ◌≤◌, true, false, Bool, Some, List, [], ◌∷◌, ◌++◌, length, refl, ap, ◌∙◌, subst, arith, if◌then◌else◌, append-nil, length-append, nat_lt}
use Rattle.std.specs.Prelude.{Ok}
use Rattle.std.proofs.lemmas.Bool.{lt-ltb}
use Rattle.x86_instr.specs.declared.instr.Condition.{Condition}
use Rattle.x86_instr.specs.declared.instr.Instr.{Instr as Native}
use Rattle.x86_instr.specs.declared.instr.Instr.TheVariants.{Jcc, Jmp}
use Rattle.x86_instr.specs.Spelling.{spelling}
use Rattle.x86_step.specs.State.{Core, IsFixed, Machine, Text}
use Rattle.x86_step.specs.Step.{Reaches, stay, go, effect, is_canonical, is_met, jumped, step}
unfoldable use Rattle.x86_step.specs.Step.{computes}
use Rattle.x86_step.specs.Running.{HasAt, are_straight, exec, is_straight, spellings}
use Rattle.x86_step.proofs.Facts.{fixed_stays, spelled_run, spelled_steps, steps_join}
use Rattle.x86_step.proofs.Running.{has_back, has_front, spellings_append, in_more}
use Rattle.sfi_native.specs.Laws.{IsLow, end_of}
use Rattle.sfi_native.specs.Code.{unless}

-- wherever the bytes stand in a fixed text
abbrev pub Runs : List Native → Core → Core → Type 0
Runs is c d =
    (t : Text) (at : ℕ) → IsFixed t c → IsLow t → HasAt t at (spellings is)
    → Reaches t (length is) (record { rip = at; core = c }) (record { rip = end_of at is; core = d })

pub straight_runs : (is : List Native) (c d : Core) → are_straight is ≡ true → exec is c ≡ Ok d → Runs is c d
straight_runs is c d straight e t at fixed low has = spelled_run t at is c d fixed straight has e

pub end_append : (at : ℕ) (is js : List Native) → end_of (end_of at is) js ≡ end_of at (is ++ js)
end_append at is js = omega (arith, ap length (spellings_append is js), length-append (spellings is) (spellings js))

pub runs_join : (is js : List Native) (c d e : Core) → Runs is c d → Runs js d e → Runs (is ++ js) c e
runs_join is js c d e one more t at fixed low has =
    let parts : HasAt t at (spellings is ++ spellings js) = subst (λ bytes. HasAt t at bytes) (spellings_append is js) has in
    let first = one t at fixed low (has_front t at (spellings is) (spellings js) parts) in
    let second = more t (end_of at is) (fixed_stays t _ _ _ first) low (has_back t at (spellings is) (spellings js) parts) in
    let both = in_more t (length is + length js) (length (is ++ js)) _ _ (omega (arith, length-append is js)) (steps_join t _ _ _ _ _ first second) in
    subst (λ to. Reaches t (length (is ++ js)) (record { rip = at; core = c }) (record { rip = to; core = e })) (end_append at is js) both

-- ==== Jumps.

pub bytes_end : (t : Text) (at : ℕ) (bytes : List ℕ) → HasAt t at bytes → at + length bytes ≤ t.base + length t.bytes
bytes_end t at bytes has =
    omega (arith, has.at_is, ap length has.bytes_are, length-append has.before (bytes ++ has.after), length-append bytes has.after)

pub low_canonical : (a : ℕ) → a < 2 ^ 47 → is_canonical a ≡ true
low_canonical a low = rw (lt-ltb a (2 ^ 47) low) refl

-- out over a distance from an end that is so many bytes on
pub out_over : (from end more distance : ℕ) → end ≡ from + more → distance + more < 2 ^ 31 → jumped from ((distance + more) % 2 ^ 32) ≡ jumped end distance
out_over from end more distance is ahead =
    let small : (distance + more) % 2 ^ 32 ≡ distance + more = omega (arith, ahead) in
    let near : nat_lt (distance + more) (2 ^ 31) ≡ true = lt-ltb (distance + more) (2 ^ 31) ahead in
    let nearer : nat_lt distance (2 ^ 31) ≡ true = lt-ltb distance (2 ^ 31) (omega (arith, ahead)) in
    ap (jumped from) small ∙ (rw (near, nearer) (omega (arith, is)))

pub branch_effect : (condition : Condition) (distance after end : ℕ) (d : Core) (t : Bool) → after ≡ end → is_met condition d.flags ≡ Some t → is_canonical (jumped end distance) ≡ true
    → effect (Jcc condition distance) after d ≡ Ok (record { rip = if t then jumped end distance else end; core = d })
unfolding computes
branch_effect condition distance after end d true is met canonical = rw (met, is, canonical) refl
branch_effect condition distance after end d false is met canonical = rw (met, is) refl

-- one instruction
pub one_step : (t : Text) (at to : ℕ) (i : Native) (c d : Core) → IsFixed t c → HasAt t at (spelling i) → effect i (at + length (spelling i)) c ≡ Ok (record { rip = to; core = d })
    → Reaches t 1 (record { rip = at; core = c }) (record { rip = to; core = d })
one_step t at to i c d fixed has does =
    let last : Machine = record { rip = to; core = d } in
    let one : step t (record { rip = at; core = c }) ≡ Ok last = spelled_steps t at i c has ∙ does in
    record { fixed = fixed; count = 1; few = omega arith; steps = go 0 (record { rip = at; core = c }) last last one (stay last) }

pub jal_effect : (distance after end : ℕ) (d : Core) → after ≡ end → is_canonical (jumped end distance) ≡ true → effect (Jmp distance) after d ≡ Ok (record { rip = jumped end distance; core = d })
unfolding computes
jal_effect distance after end d is canonical = rw (is, canonical) refl

one_at_least : (n : ℕ) → 1 ≤ suc n
one_at_least n = omega arith

-- Instructions that a condition skips.
module _ (condition : Condition) (is : List Native) (k : Core) where
  abbrev jump : Native
  jump = Jcc condition (length (spellings is))

  over_is : nat_lt (length (spellings is)) (2 ^ 31) ≡ true → (at : ℕ) → end_of at (jump ∷ is) < 2 ^ 47 → jumped (at + length (spelling jump)) (length (spellings is)) ≡ end_of at (jump ∷ is)
  over_is few at low = rw few (omega (arith, low, length-append (spelling jump) (spellings is)))

  pub skipped : nat_lt (length (spellings is)) (2 ^ 31) ≡ true → is_met condition k.flags ≡ Some true → Runs (unless condition is) k k
  skipped few met t at fixed low has =
      let ends : end_of at (jump ∷ is) < 2 ^ 47 = omega (arith, bytes_end t at (spellings (jump ∷ is)) has, low) in
      let to = jumped (at + length (spelling jump)) (length (spellings is)) in
      let canonical : is_canonical to ≡ true = ap is_canonical (over_is few at ends) ∙ low_canonical (end_of at (jump ∷ is)) ends in
      subst (λ a. Reaches t (length (unless condition is)) (record { rip = at; core = k }) (record { rip = a; core = k })) (over_is few at ends)
      (in_more t 1 (length (unless condition is)) _ _ (one_at_least (length is)) (one_step t at to jump k k fixed (has_front t at (spelling jump) (spellings is) has) (branch_effect condition (length (spellings is)) _ _ k true refl met canonical)))

  pub falls : is_met condition k.flags ≡ Some false → Runs (jump ∷ []) k k
  unfolding computes
  falls met t at fixed low has =
      let own : HasAt t at (spelling jump) = has_front t at (spelling jump) [] has in
      let end : at + length (spelling jump) ≡ end_of at (jump ∷ []) = omega (arith, ap length (append-nil (spelling jump))) in
      subst (λ a. Reaches t 1 (record { rip = at; core = k }) (record { rip = a; core = k })) end
      (one_step t at (at + length (spelling jump)) jump k k fixed own (rw met refl))

-- A test before them.
module _ (test : Native) (condition : Condition) (is : List Native) (c k : Core) (straight : is_straight test ≡ true) (tests : computes test c ≡ Ok k)
    (few : nat_lt (length (spellings is)) (2 ^ 31) ≡ true) where
  tested : Runs (test ∷ []) c k
  tested = straight_runs (test ∷ []) c k (rw straight refl) (rw tests refl)

  pub over : is_met condition k.flags ≡ Some true → Runs (test ∷ unless condition is) c k
  over met = runs_join (test ∷ []) (unless condition is) c k k tested (skipped condition is k few met)

  pub into : (d : Core) → is_met condition k.flags ≡ Some false → Runs is k d → Runs (test ∷ unless condition is) c d
  into d met rest = runs_join (test ∷ []) (unless condition is) c k d tested (runs_join (jump condition is k ∷ []) is k k d (falls condition is k met) rest)

-- ==== Code behind instructions.

module _ (t : Text) (at : ℕ) (front back : List Native) (c d : Core) (fixed_text : IsFixed t c) (low : IsLow t)
    (stands : HasAt t at (spellings (front ++ back))) (runs : Runs front c d) where
  parts : HasAt t at (spellings front ++ spellings back)
  parts = subst (λ bytes. HasAt t at bytes) (spellings_append front back) stands

  first : Reaches t (length front) (record { rip = at; core = c }) (record { rip = end_of at front; core = d })
  first = runs t at fixed_text low (has_front t at (spellings front) (spellings back) parts)

  pub back_stands : HasAt t (end_of at front) (spellings back)
  back_stands = has_back t at (spellings front) (spellings back) parts

  pub back_fixed : IsFixed t d
  back_fixed = fixed_stays t _ _ _ first

  pub then_reaches : (most : ℕ) (k : Machine) → Reaches t most (record { rip = end_of at front; core = d }) k → Reaches t (length front + most) (record { rip = at; core = c }) k
  then_reaches most k more = steps_join t (length front) most _ _ _ first more

-- a jump
pub jumps_to : (t : Text) (at : ℕ) (front : List Native) (jump : Native) (c d : Core) → IsFixed t c → IsLow t → HasAt t at (spellings (front ++ (jump ∷ []))) → Runs front c d
    → (to : ℕ) → ((after : ℕ) → after ≡ end_of at (front ++ (jump ∷ [])) → effect jump after d ≡ Ok (record { rip = to; core = d }))
    → Reaches t (length front + 1) (record { rip = at; core = c }) (record { rip = to; core = d })
jumps_to t at front jump c d fixed low stands runs to does =
    let own = subst (λ bytes. HasAt t (end_of at front) bytes) (append-nil (spelling jump)) (back_stands t at front (jump ∷ []) c d fixed low stands runs) in
    let end : end_of at front + length (spelling jump) ≡ end_of at (front ++ (jump ∷ [])) = omega (arith, end_append at front (jump ∷ []), ap length (append-nil (spelling jump))) in
    then_reaches t at front (jump ∷ []) c d fixed low stands runs 1 (record { rip = to; core = d })
    (one_step t (end_of at front) to jump d d (back_fixed t at front (jump ∷ []) c d fixed low stands runs) own (does (end_of at front + length (spelling jump)) end))
