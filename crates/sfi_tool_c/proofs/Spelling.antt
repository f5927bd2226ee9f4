-- Which words bytes spell, and what follows where there are none.
use Rattle.std.proofs.Common.{◌≡◌, ◌≢◌, ◌≤◌, ◌<◌, ◌++◌, ◌∷◌, [], ◌∙◌, ◌-◌, ◌+◌, ℕ, List, suc, take, drop, length, get_or, ap, sym, arith, append_assoc, refl, Result, Ok, Err, IfOk}
use Rattle.std.specs.List.{flat_map, All, AllWithin}
use Rattle.std.specs.Prelude.{IsUtf8}
use Rattle.std.proofs.Math.Path.{subst}
use Rattle.std.proofs.lemmas.List.{get_or-take, get_or-drop, get_or_default, length-take, flat_map_more, append-nil, take-append-drop, take_all, length-drop}
use Rattle.std.proofs.lemmas.List.Elements.{All-append, All-same, All-replicate, AllWithin-more, All-head, All-tail}
use Rattle.std.proofs.Math.Seq.{take-suc, take-add}
use Rattle.clap.specs.Walk.{Text}
use Rattle.sfi_tool_c.specs.CommandAnswers.{SpellsWords, ended, HasNoZero}
use Rattle.sfi_command.specs.Command.{AsksNoInput, AsksNothing, IsFaultOf, number_of}
use Rattle.sfi_command.specs.declared.job.JobFault.{JobFault}
use Rattle.sfi_command.specs.declared.job.JobFault.TheVariants.{Usage, Hex, Memory}

-- ==== A word more.

-- the bytes before `at` are those before `from` and those between
pub between : (bytes : List ℕ) (from at : ℕ) → from ≤ at → take from bytes ++ take (at - from) (drop from bytes) ≡ take at bytes
between bytes from at up =
    let e : from + (at - from) ≡ at = omega (arith, up) in
    sym (take-add from (at - from) bytes) ∙ ap (λ (n : ℕ). take n bytes) e

-- where a zero byte ends a word, the bytes up to it are the words before and that word
pub next_word : (bytes : List ℕ) (from at next : ℕ) (ws more : List Text) (word : Text) → from ≤ at → at < length bytes
    → take from bytes ≡ flat_map ended ws → word ≡ take (at - from) (drop from bytes) → get_or bytes at 0 ≡ 0
    → next ≡ at + 1 → more ≡ ws ++ word ∷ [] → take next bytes ≡ flat_map ended more
next_word bytes from at next ws more word up in_bytes before is zero next_is more_is =
    let e : next ≡ suc at = omega (arith, next_is) in
    ap (λ (n : ℕ). take n bytes) e ∙ take-suc bytes at 0 in_bytes ∙ ap (λ (z : ℕ). take at bytes ++ z ∷ []) zero
    ∙ ap (λ (t : List ℕ). t ++ 0 ∷ []) (sym (between bytes from at up) ∙ ap (λ (w : List ℕ). take from bytes ++ w) (sym is) ∙ ap (λ (b : List ℕ). b ++ word) before)
    ∙ append_assoc (flat_map ended ws) word (0 ∷ []) ∙ flat_map_more ended [] ws word
    ∙ ap (λ (all : List Text). flat_map ended all) (sym more_is)

-- a part of the bytes without a zero byte, as a word
pub unbroken_word : (bytes : List ℕ) (from at : ℕ) → AllWithin (λ (b : ℕ). b ≢ 0) bytes from at → HasNoZero (take (at - from) (drop from bytes))
unbroken_word bytes from at within k d in_word =
    let short : length (take (at - from) (drop from bytes)) ≤ at - from = grind (arith, length-take (at - from) (drop from bytes)) in
    let less : k < at - from = omega (arith, short, in_word) in
    let e : get_or (take (at - from) (drop from bytes)) k d ≡ get_or bytes (from + k) d =
    get_or-take (at - from) (drop from bytes) k d less ∙ get_or-drop from bytes k d in
    λ zero. within (from + k) d (omega (arith)) (omega (arith, less)) (sym e ∙ zero)

-- a word more without a zero byte
pub unbroken_more : (ws more : List Text) (word read : Text) → All HasNoZero ws → HasNoZero read → word ≡ read → more ≡ ws ++ word ∷ [] → All HasNoZero more
unbroken_more ws more word read all one is more_is =
    All-same HasNoZero more (ws ++ word ∷ []) more_is
    (All-append HasNoZero ws (word ∷ []) all (All-replicate HasNoZero 1 word (All-same (λ (b : ℕ). b ≢ 0) word read is one)))

-- a byte more that isn't zero
pub unbroken_byte : (bytes : List ℕ) (from at next : ℕ) → at < length bytes → AllWithin (λ (b : ℕ). b ≢ 0) bytes from at → get_or bytes at 0 ≢ 0
    → next ≡ at + 1 → AllWithin (λ (b : ℕ). b ≢ 0) bytes from next
unbroken_byte bytes from at next in_bytes within other next_is =
    subst (λ (n : ℕ). AllWithin (λ (b : ℕ). b ≢ 0) bytes from n) (sym next_is)
    (AllWithin-more (λ (b : ℕ). b ≢ 0) bytes from at within (λ d zero. other (get_or_default bytes at 0 d in_bytes ∙ zero)))

-- a word more in UTF-8
pub utf8_more : (ws more : List Text) (word read : Text) → All IsUtf8 ws → IsUtf8 read → word ≡ read → more ≡ ws ++ word ∷ [] → All IsUtf8 more
utf8_more ws more word read all one is more_is =
    All-same IsUtf8 more (ws ++ word ∷ []) more_is (All-append IsUtf8 ws (word ∷ []) all (All-replicate IsUtf8 1 word (subst IsUtf8 (sym is) one)))

-- equal words are spelled by the same bytes
pub same_spelled : (bytes : List ℕ) (ws more : List Text) → SpellsWords bytes ws → ws ≡ more → SpellsWords bytes more
same_spelled bytes ws more spelled is = subst (λ (all : List Text). SpellsWords bytes all) is spelled

-- ==== Which words bytes spell: at most one list, and none where a word isn't UTF-8 or isn't ended.

-- what a zero byte stands in is not empty
some_byte : (front rest : List ℕ) → front ++ 0 ∷ rest ≡ [] → ⊥
some_byte [] rest e = absurd (cc)
some_byte (b ∷ front) rest e = absurd (cc)

-- and holds one
has_zero : (front rest : List ℕ) → HasNoZero (front ++ 0 ∷ rest) → ⊥
has_zero [] rest none = All-head (λ (b : ℕ). b ≢ 0) 0 rest none refl
has_zero (b ∷ front) rest none = has_zero front rest (All-tail (λ (b : ℕ). b ≢ 0) b (front ++ 0 ∷ rest) none)

-- the first zero byte is in one place
one_end : (a b x y : List ℕ) → HasNoZero a → HasNoZero b → a ++ 0 ∷ x ≡ b ++ 0 ∷ y → (a ≡ b) × (x ≡ y)
one_end [] [] x y none others e = (refl, cc)
one_end [] (c ∷ b) x y none others e = absurd (All-head (λ (b : ℕ). b ≢ 0) c b others (let same : 0 ≡ c = cc in sym same))
one_end (c ∷ a) [] x y none others e = absurd (All-head (λ (b : ℕ). b ≢ 0) c a none (let same : c ≡ 0 = cc in same))
one_end (c ∷ a) (d ∷ b) x y none others e =
    let head : c ≡ d = cc in
    let tail : a ++ 0 ∷ x ≡ b ++ 0 ∷ y = cc in
    let ends = one_end a b x y (All-tail (λ (b : ℕ). b ≢ 0) c a none) (All-tail (λ (b : ℕ). b ≢ 0) d b others) tail in
    (λ i. head i ∷ ends.0 i, ends.1)

-- a word, its zero byte, and what follows
ended_first : (word : Text) (words : List Text) (rest : List ℕ) → flat_map ended (word ∷ words) ++ rest ≡ word ++ 0 ∷ (flat_map ended words ++ rest)
ended_first word words rest = append_assoc (word ++ 0 ∷ []) (flat_map ended words) rest ∙ append_assoc word (0 ∷ []) (flat_map ended words ++ rest)

-- words that bytes begin with are the first of those that they spell
pub record Follows (words others : List Text) (rest : List ℕ) : Type 0 where
  pub more : List Text
  pub others_are : others ≡ words ++ more
  pub rest_is : rest ≡ flat_map ended more

first_words : (words others : List Text) (rest : List ℕ) → All HasNoZero words → All HasNoZero others → flat_map ended words ++ rest ≡ flat_map ended others → Follows words others rest
first_words [] others rest none each e = record { more = others; others_are = refl; rest_is = e }
first_words (word ∷ words) [] rest none each e = absurd (some_byte word (flat_map ended words ++ rest) (sym (ended_first word words rest) ∙ e))
first_words (word ∷ words) (other ∷ others) rest none each e =
    let joined : word ++ 0 ∷ (flat_map ended words ++ rest) ≡ other ++ 0 ∷ flat_map ended others =
    sym (ended_first word words rest) ∙ e ∙ append_assoc other (0 ∷ []) (flat_map ended others) in
    let ends = one_end word other (flat_map ended words ++ rest) (flat_map ended others) (All-head HasNoZero word words none) (All-head HasNoZero other others each) joined in
    let then_ = first_words words others rest (All-tail HasNoZero word words none) (All-tail HasNoZero other others each) ends.1 in
    record { more = then_.more; others_are = λ i. sym ends.0 i ∷ then_.others_are i; rest_is = then_.rest_is }

-- nothing more is spelled by no bytes
nothing_more : (words others more : List Text) → others ≡ words ++ more → [] ≡ flat_map ended more → words ≡ others
nothing_more words others [] is e = sym (is ∙ append-nil words)
nothing_more words others (word ∷ more) is e = absurd (some_byte word (flat_map ended more) (sym (append_assoc word (0 ∷ []) (flat_map ended more)) ∙ sym e))

pub same_words : (bytes : List ℕ) (words others : List Text) → SpellsWords bytes words → SpellsWords bytes others → words ≡ others
same_words bytes words others is are =
    let f = first_words words others [] is.unbroken are.unbroken (append-nil (flat_map ended words) ∙ sym is.bytes_are ∙ are.bytes_are) in
    nothing_more words others f.more f.others_are f.rest_is

-- where a byte that isn't zero comes last, bytes spell no words
unended : (more : List Text) (rest : List ℕ) → 0 < length rest → HasNoZero rest → rest ≡ flat_map ended more → ⊥
unended [] rest some none e = absurd (omega (arith, some, ap length e))
unended (word ∷ more) rest some none e =
    has_zero word (flat_map ended more) (subst HasNoZero (e ∙ append_assoc word (0 ∷ []) (flat_map ended more)) none)

pub spells_none_unended : (bytes : List ℕ) (from : ℕ) (words others : List Text) → take from bytes ≡ flat_map ended words → All HasNoZero words
    → from < length bytes → AllWithin (λ (b : ℕ). b ≢ 0) bytes from (length bytes) → ¬ SpellsWords bytes others
spells_none_unended bytes from words others before none short within are =
    let rest = drop from bytes in
    let whole : flat_map ended words ++ rest ≡ flat_map ended others = ap (λ (t : List ℕ). t ++ rest) (sym before) ∙ take-append-drop from bytes ∙ are.bytes_are in
    let f = first_words words others rest none are.unbroken whole in
    let size : length rest ≡ length bytes - from = length-drop from bytes in
    let all : take (length bytes - from) rest ≡ rest = take_all (length bytes - from) rest (omega (arith, size)) in
    unended f.more rest (omega (arith, size, short)) (subst HasNoZero all (unbroken_word bytes from (length bytes) within)) f.rest_is

-- where a word is no UTF-8, neither
last_of : (words more : List Text) (word : Text) → All IsUtf8 (words ++ word ∷ more) → IsUtf8 word
last_of [] more word all = All-head IsUtf8 word more all
last_of (first ∷ words) more word all = last_of words more word (All-tail IsUtf8 first (words ++ word ∷ more) all)

bad_word : (words others more : List Text) (word : Text) (rest : List ℕ) → All IsUtf8 others → All HasNoZero others → others ≡ words ++ more → word ++ 0 ∷ rest ≡ flat_map ended more
    → HasNoZero word → (IsUtf8 word → ⊥) → ⊥
bad_word words others [] word rest each none is e unbroken bad = some_byte word rest e
bad_word words others (other ∷ more) word rest each none is e unbroken bad =
    let all : All IsUtf8 (words ++ other ∷ more) = subst (λ (ws : List Text). All IsUtf8 ws) is each in
    let clean = last_clean words more other (subst (λ (ws : List Text). All HasNoZero ws) is none) in
    let ends = one_end word other rest (flat_map ended more) unbroken clean (e ∙ append_assoc other (0 ∷ []) (flat_map ended more)) in
    bad (subst IsUtf8 (sym ends.0) (last_of words more other all))
  where
    last_clean : (words more : List Text) (word : Text) → All HasNoZero (words ++ word ∷ more) → HasNoZero word
    last_clean [] more word all = All-head HasNoZero word more all
    last_clean (first ∷ words) more word all = last_clean words more word (All-tail HasNoZero first (words ++ word ∷ more) all)

-- what stands before a zero byte, and behind it
pub around_zero : (bytes : List ℕ) (at : ℕ) → at < length bytes → get_or bytes at 0 ≡ 0 → take at bytes ++ 0 ∷ drop (suc at) bytes ≡ bytes
around_zero bytes at in_bytes zero =
    sym (append_assoc (take at bytes) (0 ∷ []) (drop (suc at) bytes))
    ∙ ap (λ (t : List ℕ). t ++ drop (suc at) bytes) (ap (λ (z : ℕ). take at bytes ++ z ∷ []) (sym zero) ∙ sym (take-suc bytes at 0 in_bytes))
    ∙ take-append-drop (suc at) bytes

pub spells_none_bad : (bytes : List ℕ) (from at : ℕ) (words others : List Text) (word : Text) → take from bytes ≡ flat_map ended words → All HasNoZero words
    → take at bytes ++ 0 ∷ drop (suc at) bytes ≡ bytes → take from bytes ++ word ≡ take at bytes → HasNoZero word → (IsUtf8 word → ⊥) → ¬ SpellsWords bytes others
spells_none_bad bytes from at words others word before none zero joined unbroken bad are =
    let rest = word ++ 0 ∷ drop (suc at) bytes in
    let whole : flat_map ended words ++ rest ≡ flat_map ended others =
    ap (λ (t : List ℕ). t ++ rest) (sym before) ∙ sym (append_assoc (take from bytes) word (0 ∷ drop (suc at) bytes))
    ∙ ap (λ (t : List ℕ). t ++ 0 ∷ drop (suc at) bytes) joined ∙ zero ∙ are.bytes_are in
    let f = first_words words others rest none are.unbroken whole in
    bad_word words others f.more word (drop (suc at) bytes) are.utf8 are.unbroken f.others_are f.rest_is unbroken bad

-- ==== What follows from why there is no answer.

-- the fault with the number 1
pub of_usage : (words : List Text) (fault : JobFault) → IsFaultOf words fault → number_of fault ≡ 1 → AsksNothing words
of_usage words (Usage text) is one = is
of_usage words Hex is one = absurd (cc)
of_usage words Memory is one = absurd (cc)

-- the fault with the number 2
pub of_hex : (words : List Text) (fault : JobFault) → IsFaultOf words fault → number_of fault ≡ 2 → AsksNoInput words
of_hex words (Usage text) is two = absurd (cc)
of_hex words Hex is two = is
of_hex words Memory is two = absurd (cc)

-- what follows from two things that hold of the same
pub if_both : {A E : Type 0} (r : Result A E) (P Q S : A → Type 0) → ((a : A) → P a → Q a → S a) → IfOk r P → IfOk r Q → IfOk r S
if_both (Ok a) P Q S follows p q = follows a p q
if_both (Err e) P Q S follows p q = tt
