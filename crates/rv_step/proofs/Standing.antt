-- What stands at pc: the bytes, the instruction, and how it is fetched.
use Rattle.rv_step.proofs.Prelude.{◌≡◌, ℕ, suc, ◌⊎◌, inl, inr, List, [], ◌∷◌, ◌++◌, length, map, take, Option, Some, None, refl, sym, ap, ◌∙◌, subst, arith, range_with_len, Instr, Front, Read, Short, Bad, Bytes, byte_at, bytes_at, address_after, addresses, in_front, AtPcIsFront, State, Stands, present_then, present_at, bytes_at_pc, IsAtPc, ◌<◌, slice_index, OneInstruction, ◌+◌, ◌*◌, ◌/◌, ◌%◌, ◌^◌, option_map, IsMemory, number_of, loaded}
use Rattle.rv_comp.specs.Fronts.{Spells, IsFront, SpellsNothing, IsCutShort}
use Rattle.rv_comp.proofs.Facts.{two_lengths, one_spelling}
use Rattle.rv_mem.proofs.Facts.{read_is_held}
use Rattle.rv_word.specs.Spelling.{length_of}
use Rattle.rv_word.specs.declared.length.Length.TheVariants.{Wide}
use Rattle.std.specs.Int.{w16, w32, from_le_bytes}
use Rattle.rv_word.proofs.Facts.{spellings_are_wide}

-- ==== The bytes from pc on, up to the first that is missing, and the instruction that they spell.

-- ---- runs of bytes

one_first : (o : Option ℕ) (p : Option (List ℕ)) (n : ℕ) (run bs : List ℕ) → in_front o p ≡ Some bs → ((cs : List ℕ) → p ≡ Some cs → take n run ≡ cs) → take (suc n) (present_then o run) ≡ bs
one_first None p n run bs e others = absurd (cc)
one_first (Some b) None n run bs e others = absurd (cc)
one_first (Some b) (Some cs) n run bs e others =
    let all : b ∷ cs ≡ bs = cc in
    ap (λ (l : List ℕ). b ∷ l) (others cs refl) ∙ all

-- where the first addresses all have a byte, the run begins with these
begins : (m : Bytes) (at more bs : List ℕ) → bytes_at m at ≡ Some bs → take (length at) (present_at m (at ++ more)) ≡ bs
begins m [] more bs e = cc
begins m (a ∷ at) more bs e = one_first (byte_at m a) (bytes_at m at) (length at) (present_at m (at ++ more)) bs e (begins m at more)

one_more : (o : Option ℕ) (p : Option (List ℕ)) (n : ℕ) (run : List ℕ) → length (take (suc n) (present_then o run)) ≡ suc n → (length (take n run) ≡ n → p ≡ Some (take n run))
    → in_front o p ≡ Some (take (suc n) (present_then o run))
one_more None p n run e others = absurd (omega arith)
one_more (Some b) p n run e others = ap (λ (q : Option (List ℕ)). in_front (Some b) q) (others (omega arith))

-- where the run is as long as the first addresses, they all have a byte
all_there : (m : Bytes) (at more : List ℕ) → length (take (length at) (present_at m (at ++ more))) ≡ length at → bytes_at m at ≡ Some (take (length at) (present_at m (at ++ more)))
all_there m [] more e = refl
all_there m (a ∷ at) more e = one_more (byte_at m a) (bytes_at m at) (length at) (present_at m (at ++ more)) e (all_there m at more)

-- ---- the instruction at pc

spelled_size : (bs : List ℕ) (i : Instr) (n : ℕ) → Spells bs i n → length bs ≡ n
spelled_size bs i n (inl s) = s.all ∙ sym s.size
spelled_size bs i n (inr s) = s.all ∙ sym s.size

-- the last two of the four addresses from pc on
abbrev last_two : ℕ → List ℕ
last_two pc = map (address_after pc) (range_with_len 2 2)

-- the bytes from pc on spell what stands there
spelled_at : (s : State) (i : Instr) (n : ℕ) → Stands s i n → Spells (take n (bytes_at_pc s)) i n
spelled_at s i n st = subst (λ (bs : List ℕ). Spells bs i n) (sym (of (two_lengths st.bytes i n st.spelled))) st.spelled
  where
    there : (k : ℕ) → n ≡ k → bytes_at s.memory (addresses s.hart.pc k) ≡ Some st.bytes
    there k e = ap (λ (j : ℕ). bytes_at s.memory (addresses s.hart.pc j)) (sym e) ∙ st.there

    of : (n ≡ 2) ⊎ (n ≡ 4) → take n (bytes_at_pc s) ≡ st.bytes
    of (inl e) = ap (λ (j : ℕ). take j (bytes_at_pc s)) e ∙ begins s.memory (addresses s.hart.pc 2) (last_two s.hart.pc) st.bytes (there 2 e)
    of (inr e) = ap (λ (j : ℕ). take j (bytes_at_pc s)) e ∙ begins s.memory (addresses s.hart.pc 4) [] st.bytes (there 4 e)

-- what the bytes from pc on spell stands there
stands_at : (s : State) (i : Instr) (n : ℕ) → Spells (take n (bytes_at_pc s)) i n → Stands s i n
stands_at s i n spelled = record { bytes = take n (bytes_at_pc s); there = of (two_lengths (take n (bytes_at_pc s)) i n spelled); spelled = spelled }
  where
    enough : (k : ℕ) → n ≡ k → length (take k (bytes_at_pc s)) ≡ k
    enough k e = subst (λ (j : ℕ). length (take j (bytes_at_pc s)) ≡ j) e (spelled_size _ i n spelled)

    at : (k : ℕ) → n ≡ k → bytes_at s.memory (addresses s.hart.pc k) ≡ Some (take k (bytes_at_pc s)) → bytes_at s.memory (addresses s.hart.pc n) ≡ Some (take n (bytes_at_pc s))
    at k e there = subst (λ (j : ℕ). bytes_at s.memory (addresses s.hart.pc j) ≡ Some (take j (bytes_at_pc s))) (sym e) there

    of : (n ≡ 2) ⊎ (n ≡ 4) → bytes_at s.memory (addresses s.hart.pc n) ≡ Some (take n (bytes_at_pc s))
    of (inl e) = at 2 e (all_there s.memory (addresses s.hart.pc 2) (last_two s.hart.pc) (enough 2 e))
    of (inr e) = at 4 e (all_there s.memory (addresses s.hart.pc 4) [] (enough 4 e))

-- ---- what is at pc

to_front : (s : State) (f : Front) → IsAtPc s f → IsFront (bytes_at_pc s) f
to_front s (Read i n) at = spelled_at s i n at
to_front s Short at = at
to_front s Bad at = at

pub from_front : (s : State) (f : Front) → IsFront (bytes_at_pc s) f → IsAtPc s f
from_front s (Read i n) front = stands_at s i n front
from_front s Short front = front
from_front s Bad front = front

pub at_pc_front : AtPcIsFront
at_pc_front s f = (to_front s f, from_front s f)

-- ==== The instruction at pc, by its bytes.

-- the bytes of an instruction stand one after another
standing : (s : State) (i : Instr) (n k : ℕ) (st : Stands s i n) → k < n → byte_at s.memory (address_after s.hart.pc k) ≡ Some (slice_index st.bytes k)
standing s i n k st h = ((read_is_held s.memory s.hart.pc n st.bytes).0 st.there).each k h

same_value : (o : Option ℕ) (a b : ℕ) → o ≡ Some a → o ≡ Some b → a ≡ b
same_value o a b d e = cc

pub instruction_one : OneInstruction
instruction_one s i j m n st su =
    one_spelling st.bytes su.bytes i j m n st.spelled su.spelled
    (λ k below_m below_n. same_value _ _ _ (standing s i m k st below_m) (standing s j n k su below_n))

-- ==== What is at pc, by one parcel and by two.

-- the two bytes of a parcel
abbrev pub parcel : ℕ → List ℕ
parcel n = n % 256 ∷ n / 256 % 256 ∷ []

-- ---- options of bytes

-- two bytes make a parcel
two : (o p : Option ℕ) (n : ℕ) → ((a : ℕ) → o ≡ Some a → a < 256) → ((b : ℕ) → p ≡ Some b → b < 256) → Some n ≡ option_map number_of (in_front o (in_front p (Some [])))
    → (o ≡ Some (n % 256)) × (p ≡ Some (n / 256 % 256))
two None p n f g e = absurd (cc)
two (Some a) None n f g e = absurd (cc)
two (Some a) (Some b) n f g e =
    let is : n ≡ a + 256 * (b + 256 * 0) = cc in
    let small : a < 256 = f a refl in
    let small' : b < 256 = g b refl in
    let x : a ≡ n % 256 = omega arith in
    let y : b ≡ n / 256 % 256 = omega arith in
    (ap Some x, ap Some y)

-- where the two are not both there, the run has fewer
few : (o p : Option ℕ) (run : List ℕ) → None ≡ option_map number_of (in_front o (in_front p (Some []))) → length (present_then o (present_then p run)) < 2
few None p run e = omega arith
few (Some a) None run e = omega arith
few (Some a) (Some b) run e = absurd (cc)

-- ---- parcels at pc

record HasParcel (m : Bytes) (at n : ℕ) : Type 0 where
  low : byte_at m (address_after at 0) ≡ Some (n % 256)
  high : byte_at m (address_after at 1) ≡ Some (n / 256 % 256)

has_parcel : (m : Bytes) (at n : ℕ) → IsMemory m → Some n ≡ loaded m at 2 → HasParcel m at n
has_parcel m at n is e =
    let t = two (byte_at m (address_after at 0)) (byte_at m (address_after at 1)) n (is.bytes _) (is.bytes _) e in
    record { low = t.0; high = t.1 }

-- the second parcel's addresses
second_low : (pc : ℕ) → address_after (address_after pc 2) 0 ≡ address_after pc 2
second_low pc = omega arith

second_high : (pc : ℕ) → address_after (address_after pc 2) 1 ≡ address_after pc 3
second_high pc = omega arith

second_none : (m : Bytes) (pc : ℕ) → None ≡ loaded m (address_after pc 2) 2 → None ≡ option_map number_of (in_front (byte_at m (address_after pc 2)) (in_front (byte_at m (address_after pc 3)) (Some [])))
second_none m pc e =
    e ∙ ap (λ (k : ℕ). option_map number_of (in_front (byte_at m k) (in_front (byte_at m (address_after (address_after pc 2) 1)) (Some [])))) (second_low pc)
    ∙ ap (λ (k : ℕ). option_map number_of (in_front (byte_at m (address_after pc 2)) (in_front (byte_at m k) (Some [])))) (second_high pc)

-- the bytes after the first parcel
abbrev second : Bytes → ℕ → List ℕ
second m pc = present_at m (map (address_after pc) (range_with_len 2 2))

-- the bytes from pc on begin with the first parcel
first_parcel : (m : Bytes) (pc n : ℕ) → HasParcel m pc n → present_at m (addresses pc 4) ≡ n % 256 ∷ n / 256 % 256 ∷ second m pc
first_parcel m pc n h = rw (h.low, h.high) refl

two_parcels : (m : Bytes) (pc n k : ℕ) → HasParcel m pc n → HasParcel m (address_after pc 2) k → present_at m (addresses pc 4) ≡ n % 256 ∷ n / 256 % 256 ∷ parcel k
two_parcels m pc n k h l =
    let low : byte_at m (address_after pc 2) ≡ Some (k % 256) = ap (byte_at m) (sym (second_low pc)) ∙ l.low in
    let high : byte_at m (address_after pc 3) ≡ Some (k / 256 % 256) = ap (byte_at m) (sym (second_high pc)) ∙ l.high in
    rw (h.low, h.high, low, high) refl

-- ---- what the first two bytes tell

-- two bytes spell nothing of four
not_four : (a b : ℕ) (i : Instr) → Spells (a ∷ b ∷ []) i 4 → ⊥
not_four a b i (inl s) = let e = s.size in omega arith
not_four a b i (inr s) = let e = s.all in omega arith

word_begins : (a b c d : ℕ) → a < 256 → b < 256 → from_le_bytes w32 (a ∷ b ∷ c ∷ d ∷ []) % 2 ^ 16 ≡ from_le_bytes w16 (a ∷ b ∷ [])
word_begins a b c d f g = omega arith

-- four bytes that are spelled begin with a wide halfword
wide_first : (a b : ℕ) (rest : List ℕ) (i : Instr) → a < 256 → b < 256 → Spells (take 4 (a ∷ b ∷ rest)) i 4 → length_of (from_le_bytes w16 (a ∷ b ∷ [])) ≡ Wide
wide_first a b rest i f g (inl s) = let e = s.size in absurd (omega arith)
wide_first a b [] i f g (inr s) = let e = s.all in absurd (omega arith)
wide_first a b (c ∷ []) i f g (inr s) = let e = s.all in absurd (omega arith)
wide_first a b (c ∷ d ∷ rest) i f g (inr s) =
    ap length_of (sym (word_begins a b c d f g)) ∙ (spellings_are_wide (from_le_bytes w32 (a ∷ b ∷ c ∷ d ∷ [])) i s.spelled).1

two_read : (a b : ℕ) (rest : List ℕ) (i : Instr) (n : ℕ) → (n ≡ 2) ⊎ (n ≡ 4) → Spells (take n (a ∷ b ∷ [])) i n → Spells (take n (a ∷ b ∷ rest)) i n
two_read a b rest i n (inl e) spelled =
    subst (λ (k : ℕ). Spells (take k (a ∷ b ∷ rest)) i k) (sym e) (subst (λ (k : ℕ). Spells (take k (a ∷ b ∷ [])) i k) e spelled)
two_read a b rest i n (inr e) spelled = absurd (not_four a b i (subst (λ (k : ℕ). Spells (take k (a ∷ b ∷ [])) i k) e spelled))

two_bad : (a b : ℕ) (rest : List ℕ) → a < 256 → b < 256 → SpellsNothing (a ∷ b ∷ []) → SpellsNothing (a ∷ b ∷ rest)
two_bad a b rest f g none = record { enough = enough; unspelled = λ i n spelled. unspelled i n (two_lengths _ i n spelled) spelled }
  where
    enough : IsCutShort (a ∷ b ∷ rest) → ⊥
    enough (inl less) = omega arith
    enough (inr cut) = none.enough (inr (omega arith, cut.1))

    unspelled : (i : Instr) (n : ℕ) → (n ≡ 2) ⊎ (n ≡ 4) → Spells (take n (a ∷ b ∷ rest)) i n → ⊥
    unspelled i n (inl e) spelled = none.unspelled i 2 (subst (λ (k : ℕ). Spells (take k (a ∷ b ∷ rest)) i k) e spelled)
    unspelled i n (inr e) spelled =
        none.enough (inr (omega arith, wide_first a b rest i f g (subst (λ (k : ℕ). Spells (take k (a ∷ b ∷ rest)) i k) e spelled)))

-- the front of two bytes, where they are not cut short, is that of all that begin with them
two_tell : (a b : ℕ) (rest : List ℕ) (front : Front) → a < 256 → b < 256 → IsFront (a ∷ b ∷ []) front → (front ≡ Short → ⊥) → IsFront (a ∷ b ∷ rest) front
two_tell a b rest (Read i n) f g front asks = two_read a b rest i n (two_lengths (take n (a ∷ b ∷ [])) i n front) front
two_tell a b rest Short f g front asks = absurd (asks refl)
two_tell a b rest Bad f g front asks = two_bad a b rest f g front

still_short : (a b : ℕ) (rest : List ℕ) → length rest < 2 → IsCutShort (a ∷ b ∷ []) → IsCutShort (a ∷ b ∷ rest)
still_short a b rest less (inl none) = absurd (omega arith)
still_short a b rest less (inr cut) = inr (omega arith, cut.1)

-- ---- what is at pc

-- the first parcel is missing
pub no_parcel : (s : State) → None ≡ loaded s.memory s.hart.pc 2 → IsAtPc s Short
no_parcel s e = inl (few _ _ _ e)

-- the first parcel tells all
pub told : (s : State) (low : ℕ) (f : Front) → IsMemory s.memory → Some low ≡ loaded s.memory s.hart.pc 2 → IsFront (parcel low) f → (f ≡ Short → ⊥) → IsAtPc s f
told s low f is e front asks =
    let begins = first_parcel s.memory s.hart.pc low (has_parcel s.memory s.hart.pc low is e) in
    from_front s f (subst (λ (bs : List ℕ). IsFront bs f) (sym begins)
    (two_tell (low % 256) (low / 256 % 256) (second s.memory s.hart.pc) f (omega arith) (omega arith) front asks))

-- the second one is missing
pub cut_short : (s : State) (low : ℕ) (f : Front) → IsMemory s.memory → Some low ≡ loaded s.memory s.hart.pc 2 → f ≡ Short → IsFront (parcel low) f
    → None ≡ loaded s.memory (address_after s.hart.pc 2) 2 → IsAtPc s Short
cut_short s low f is e short front missing =
    let begins = first_parcel s.memory s.hart.pc low (has_parcel s.memory s.hart.pc low is e) in
    subst (λ (bs : List ℕ). IsCutShort bs) (sym begins)
    (still_short (low % 256) (low / 256 % 256) (second s.memory s.hart.pc) (few _ _ [] (second_none s.memory s.hart.pc missing)) (subst (λ (t : Front). IsFront (parcel low) t) short front))

-- both are there
pub both : (s : State) (low high : ℕ) (f : Front) → IsMemory s.memory → Some low ≡ loaded s.memory s.hart.pc 2 → Some high ≡ loaded s.memory (address_after s.hart.pc 2) 2
    → IsFront (low % 256 ∷ low / 256 % 256 ∷ parcel high) f → IsAtPc s f
both s low high f is e g front =
    let all = two_parcels s.memory s.hart.pc low high (has_parcel s.memory s.hart.pc low is e) (has_parcel s.memory (address_after s.hart.pc 2) high is g) in
    from_front s f (subst (λ (bs : List ℕ). IsFront bs f) (sym all) front)
