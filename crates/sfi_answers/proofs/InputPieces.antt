-- What is answered on input that is read in pieces: an image's own bytes, or those that a text spells.
use Rattle.std.proofs.Common.{◌≡◌, ◌≢◌, ◌<◌, ◌+◌, ℕ, ◌⊎◌, arith, Bool, true, false, List, [], ◌∷◌, ◌++◌, Option, Some, None, Result, Ok, Err, length, cond, refl, sym, ap, ◌∙◌, subst, inl, inr, IfSome}
use Rattle.std.specs.Prelude.{◌||◌, IsOk, filter, nat_lt, option_map, if◌then◌else◌}
use Rattle.std.proofs.lemmas.Bool.Decides.{nat_tests}
use Rattle.hex.specs.Hex.{decode_of}
use Rattle.hex.specs.declared.error.FromHexError.{FromHexError}
use Rattle.hex.specs.declared.error.FromHexError.TheVariants.{OddLength, InvalidHexCharacter, InvalidStringLength, OutOfMemory}
use Rattle.sfi_image.specs.Sources.{OneRead, IsChain, Streams, bytes_handed_out, bytes_of, finds_end, is_end}
use Rattle.sfi_check.specs.Verdict.{IsVerdictOn}
use Rattle.sfi_check.specs.declared.stream_answer.StreamAnswer.{StreamAnswer}
use Rattle.sfi_answers.specs.Answers.{Meaning, check, on_image}
use Rattle.sfi_answers.specs.FaultTexts.{IsFaultLine, stop_text}
use Rattle.sfi_answers.specs.declared.fault.InputFault.TheVariants.{Hex}
use Rattle.sfi_answers.specs.declared.fault.InputFault.TheVariants as input_faults
use Rattle.sfi_answers.specs.declared.fault.Stop.TheVariants as stops
use Rattle.sfi_io.specs.Hexadecimal.{BeginsAsImage, is_kept, limit}
use Rattle.sfi_io.specs.declared.hexadecimal.HexFault.{HexFault}
use Rattle.sfi_io.specs.Pieces.{Leads, or_fault, outcome, prepend, start_of}
use Rattle.sfi_io.specs.declared.text.TextStop.{TextStop}
use Rattle.sfi_io.specs.declared.text.TextStop.TheVariants.{Fault, TooLarge, Failed}
use Rattle.sfi_io.proofs.Facts.{comes_to_its_bytes, comes_to_its_fault}
use Rattle.sfi_io.proofs.Leads.{failed_leads, leads_more, leads_nowhere, of_leads}
use Rattle.sfi_answers.specs.private.{HandsOut, IsJudged, IsLineOf, SaysOf, own_to_come}

end_is_none : (len : ℕ) (answer : Option (List ℕ)) → is_end len answer ≡ true → bytes_of answer ≡ []
end_is_none len None e = cc e
end_is_none len (Some []) e = refl
end_is_none len (Some (b ∷ bs)) e = cc e

no_more : (bytes : List ℕ) (r : Result (List ℕ) TextStop) → Ok [] ≡ prepend bytes r → bytes ≡ []
no_more [] r e = refl
no_more (b ∷ bytes) (Ok rest) e = absurd (cc)
no_more (b ∷ bytes) (Err stop) e = absurd (cc)

-- after the end nothing comes
ended : (a b c : Option (Result (List ℕ) TextStop)) (bytes : List ℕ) → Leads a b [] → IfSome b (λ r. r ≡ Ok []) → Leads b c bytes → Leads a c []
ended None b c bytes p none q = tt
ended (Some a) None c bytes p none q = absurd p
ended (Some a) (Some b) None bytes p none q = absurd q
ended (Some a) (Some b) (Some c) bytes p none q = elim (of_leads b c bytes q) [
  | inl failed ↦ failed_leads a c [] failed
  | inr same ↦
      let no : bytes ≡ [] = no_more bytes c (sym none ∙ same) in
      leads_more (Some a) (Some b) (Some c) [] [] p (subst (λ (l : List ℕ). Leads (Some b) (Some c) l) no q)
]

none_comes : (a b c : Option (Result (List ℕ) TextStop)) (first : Result (List ℕ) TextStop) (bytes rest : List ℕ) → a ≡ Some first → Leads a b [] → IfSome b (λ r. r ≡ Ok []) → Leads b c bytes → c ≡ Some (Ok rest) → rest ≡ []
none_comes None b c first bytes rest known p none q is = absurd (cc)
none_comes (Some a) None c first bytes rest known p none q is = absurd p
none_comes (Some a) (Some b) c first bytes rest known p none q is =
    let there : Leads (Some b) (Some (Ok rest)) bytes = subst (λ (k : Option (Result (List ℕ) TextStop)). Leads (Some b) k bytes) is q in
    let all : Ok [] ≡ Ok (bytes ++ rest) = sym none ∙ there in
    empty bytes rest (let same : [] ≡ bytes ++ rest = cc in same)
  where
    empty : (bytes rest : List ℕ) → [] ≡ bytes ++ rest → rest ≡ []
    empty [] rest e = sym e
    empty (b ∷ bytes) rest e = absurd (cc)

pick : (a c : Option (Result (List ℕ) TextStop)) (b : Bool) (bytes : List ℕ) → (b ≡ true → Leads a c []) → (b ≡ false → Leads a c bytes) → Leads a c (cond b [] bytes)
pick a c true bytes f g = f refl
pick a c false bytes f g = g refl

either : (a b : Bool) → (a || b) ≡ true → (a ≡ true) ⊎ (b ≡ true)
either true b e = inl refl
either false b e = inr e

-- what is known stays known
after : (first : Result (List ℕ) TextStop) (bytes rest : List ℕ) (k : Option (Result (List ℕ) TextStop)) → Leads (Some first) k bytes → ((next : Result (List ℕ) TextStop) → k ≡ Some next → rest ≡ []) → rest ≡ []
after first bytes rest None leads ih = absurd leads
after first bytes rest (Some next) leads ih = ih next refl

module _ {S : Type 0} (told : S → Option (Result (List ℕ) TextStop)) (failed : S → Bool) where
  abbrev pub reads_spelled : S → ℕ → Option (List ℕ) → S → Type 0
  reads_spelled s n answer t = HandsOut (told s) (failed s) n answer (told t) (failed t)

  -- what a chain of reads hands out is what comes of the text, and all of it where it found the end
  spelled_front : (rs : List (OneRead S)) (s t : S) → IsChain reads_spelled s rs t
      → Leads (told s) (told t) (bytes_handed_out rs) × (finds_end rs ≡ true → (first : Result (List ℕ) TextStop) (rest : List ℕ) → told s ≡ Some first → told t ≡ Some (Ok rest) → rest ≡ [])
  spelled_front [] s t h = (subst (λ (x : S). Leads (told s) (told x) []) (sym h) (leads_nowhere (told s)), λ e. absurd cc)
  spelled_front (r ∷ rs) s t h =
      let step = h.0 in
      let ih = spelled_front rs r.after t h.1 in
      let last : is_end r.buffer_length r.answer ≡ true → Leads (told s) (told r.after) [] =
      λ e. subst (λ (l : List ℕ). Leads (told s) (told r.after) l) (end_is_none r.buffer_length r.answer e) step.leads in (
        pick (told s) (told t) (is_end r.buffer_length r.answer) (bytes_of r.answer ++ bytes_handed_out rs)
            (λ e. ended (told s) (told r.after) (told t) (bytes_handed_out rs) (last e) (step.at_end e) ih.0)
            (λ e. leads_more (told s) (told r.after) (told t) (bytes_of r.answer) (bytes_handed_out rs) step.leads ih.0),
        λ e first rest known is. elim (either (is_end r.buffer_length r.answer) (finds_end rs) e) [
          | inl here ↦ none_comes (told s) (told r.after) (told t) first (bytes_handed_out rs) rest known (last here) (step.at_end here) ih.0 is
          | inr later ↦ after first (bytes_of r.answer) rest (told r.after) (subst (λ (k : Option (Result (List ℕ) TextStop)). Leads k (told r.after) (bytes_of r.answer)) known step.leads) (λ next there. ih.1 later next rest there is)
        ],
      )

  -- the bytes that come are those, and then the rest
  judged_front : (s t : S) (first : Result (List ℕ) TextStop) (answer : StreamAnswer) → told s ≡ Some first
      → (h : (bytes : List ℕ) × (ends : Bool) × Streams reads_spelled 4096 s t bytes ends × IsVerdictOn bytes ends answer) → IfSome (told t) (λ r. IsOk r)
      → (all : List ℕ) × (first ≡ Ok all) × IsJudged answer all
  judged_front s t first answer e h ok = by (told t) refl
    where
      front : Leads (told s) (told t) (bytes_handed_out h.2.chain) × (finds_end h.2.chain ≡ true → (first : Result (List ℕ) TextStop) (rest : List ℕ) → told s ≡ Some first → told t ≡ Some (Ok rest) → rest ≡ [])
      front = spelled_front h.2.chain s t h.2.is_chain

      there : Leads (Some first) (told t) (bytes_handed_out h.2.chain)
      there = subst (λ (k : Option (Result (List ℕ) TextStop)). Leads k (told t) (bytes_handed_out h.2.chain)) e front.0

      by : (k : Option (Result (List ℕ) TextStop)) → told t ≡ k → (all : List ℕ) × (first ≡ Ok all) × IsJudged answer all
      by None is = absurd (subst (λ (k : Option (Result (List ℕ) TextStop)). Leads (Some first) k (bytes_handed_out h.2.chain)) is there)
      by (Some (Ok rest)) is = (
        bytes_handed_out h.2.chain ++ rest,
        subst (λ (k : Option (Result (List ℕ) TextStop)). Leads (Some first) k (bytes_handed_out h.2.chain)) is there,
        record {
          given = h.0;
          rest = rest;
          ends = h.1;
          all_are = ap (λ (l : List ℕ). l ++ rest) (sym h.2.bytes_are);
          none_left = λ ends. front.1 (sym h.2.ends_is ∙ ends) first rest e is;
          verdict = h.3;
        },
      )
      by (Some (Err stop)) is = let no = subst (λ (k : Option (Result (List ℕ) TextStop)). IfSome k (λ r. IsOk r)) is ok in absurd (cc)

-- ---- of all that comes

-- where the input was read to its end, the verdict is one on the bytes that come
pub says_pieces : {S : Type 0} (told : S → Option (Result (List ℕ) TextStop)) (failed : S → Bool) (s t : S) (answer : StreamAnswer) (comes : Option (Result (List ℕ) TextStop)) (P : Result (List ℕ) TextStop → Type 0) → told s ≡ comes
    → ((bytes : List ℕ) × (ends : Bool) × Streams (reads_spelled told failed) 4096 s t bytes ends × IsVerdictOn bytes ends answer) → IfSome (told t) (λ r. IsOk r)
    → ((all : List ℕ) → IsJudged answer all → P (Ok all)) → IfSome comes P
says_pieces told failed s t answer None P e h ok holds = tt
says_pieces told failed s t answer (Some first) P e h ok holds =
    let all = judged_front told failed s t first answer e h ok in
    subst P (sym all.1) (holds all.0 all.2)

-- where it was stopped, that is what comes
pub stops_pieces : {S : Type 0} (told : S → Option (Result (List ℕ) TextStop)) (failed : S → Bool) (s t : S) (answer : StreamAnswer) (comes : Option (Result (List ℕ) TextStop)) (stop : TextStop) (P : Result (List ℕ) TextStop → Type 0) → told s ≡ comes
    → ((bytes : List ℕ) × (ends : Bool) × Streams (reads_spelled told failed) 4096 s t bytes ends × IsVerdictOn bytes ends answer) → Leads (told t) (Some (Err stop)) [] → stop ≢ Failed
    → P (Err stop) → IfSome comes P
stops_pieces told failed s t answer None stop P e h leads named holds = tt
stops_pieces told failed s t answer (Some first) stop P e h leads named holds =
    let front = spelled_front told failed h.2.chain s t h.2.is_chain in
    let there = subst (λ (k : Option (Result (List ℕ) TextStop)). Leads k (told t) (bytes_handed_out h.2.chain)) e front.0 in
    elim (of_leads first (Err stop) (bytes_handed_out h.2.chain ++ []) (leads_more (Some first) (told t) (Some (Err stop)) (bytes_handed_out h.2.chain) [] there leads)) [
      | inl failed ↦ absurd (named (cc))
      | inr is ↦ subst P (sym is) holds
    ]

-- ---- of a text

-- the line of its fault
line_of_fault : (command : Meaning) (text : List ℕ) (fault : HexFault) (line : List ℕ) → outcome (start_of text) ≡ Err (Fault fault) → line ≡ stop_text (stops.Input (Hex fault))
    → (¬ BeginsAsImage text) → IsFaultLine (on_image command) text line
line_of_fault command text fault line comes is other =
    let has = (comes_to_its_fault text fault).0 comes in
    (stops.Input (Hex fault), inl (has.0, other, has.1), is)

-- the line where it is above its limit
line_of_large_text : (command : Meaning) (text line : List ℕ) → outcome (start_of text) ≡ Err TooLarge → line ≡ stop_text (stops.Input input_faults.TooLarge) → (¬ BeginsAsImage text)
    → IsFaultLine (on_image command) text line
line_of_large_text command text line comes is other = (stops.Input input_faults.TooLarge, inl (over (nat_lt limit (length text)) refl), is)
  where
    no_large : (d : Result (List ℕ) FromHexError) → or_fault d ≡ Err TooLarge → ⊥
    no_large (Ok bytes) e = absurd (cc)
    no_large (Err OddLength) e = absurd (cc)
    no_large (Err (InvalidHexCharacter byte place)) e = absurd (cc)
    no_large (Err InvalidStringLength) e = absurd (cc)
    no_large (Err OutOfMemory) e = absurd (cc)

    over : (b : Bool) → nat_lt limit (length text) ≡ b → limit < length text
    over true is = grind (arith, nat_tests, is)
    over false is = absurd (no_large _ (sym (ap (λ (b : Bool). if b then Err TooLarge else or_fault (decode_of (filter is_kept text))) is) ∙ comes))

-- what is said of the bytes that come is said of the text
pub says_text : (read : Option (List ℕ)) (status : ℕ) (answer : List ℕ) → IfSome (option_map (λ text. outcome (start_of text)) read) (λ r. SaysOf r status answer)
    → IfSome read (λ text. (¬ BeginsAsImage text) → (on_image (check false)).says text status answer)
says_text None status answer h = tt
says_text (Some text) status answer h = λ other. by (outcome (start_of text)) refl
  where
    by : (r : Result (List ℕ) TextStop) → outcome (start_of text) ≡ r → (on_image (check false)).says text status answer
    by (Ok all) is = (all, inr ((comes_to_its_bytes text all).0 is), subst (λ (r : Result (List ℕ) TextStop). SaysOf r status answer) is h)
    by (Err stop) is = absurd (subst (λ (r : Result (List ℕ) TextStop). SaysOf r status answer) is h)

pub line_of_text : (read : Option (List ℕ)) (line : List ℕ) → IfSome (option_map (λ text. outcome (start_of text)) read) (λ r. IsLineOf r line)
    → IfSome read (λ text. (¬ BeginsAsImage text) → IsFaultLine (on_image (check false)) text line)
line_of_text None line h = tt
line_of_text (Some text) line h = λ other. by other (outcome (start_of text)) refl
  where
    told : (r : Result (List ℕ) TextStop) → outcome (start_of text) ≡ r → IsLineOf r line
    told r is = subst (λ (r : Result (List ℕ) TextStop). IsLineOf r line) is h

    by : (¬ BeginsAsImage text) → (r : Result (List ℕ) TextStop) → outcome (start_of text) ≡ r → IsFaultLine (on_image (check false)) text line
    by other (Ok all) is = let f = told (Ok all) is in (f.0, inr (all, inr ((comes_to_its_bytes text all).0 is), f.1), f.2)
    by other (Err (Fault fault)) is = line_of_fault (check false) text fault line is (told (Err (Fault fault)) is) other
    by other (Err TooLarge) is = line_of_large_text (check false) text line is (told (Err TooLarge) is) other
    by other (Err Failed) is = absurd (told (Err Failed) is)

-- ---- of an image's own bytes

-- what is said of the bytes that come is said of the input
pub says_own : (read : Option (List ℕ)) (status : ℕ) (answer : List ℕ) → IfSome (own_to_come 0 read) (λ r. SaysOf r status answer)
    → IfSome read (λ input. BeginsAsImage input → (on_image (check false)).says input status answer)
says_own None status answer h = tt
says_own (Some input) status answer h = λ begins. by begins (nat_lt limit (0 + length input)) refl
  where
    told : (b : Bool) → nat_lt limit (0 + length input) ≡ b → SaysOf (if b then Err TooLarge else Ok input) status answer
    told b is = subst (λ (b : Bool). SaysOf (if b then Err TooLarge else Ok input) status answer) is h

    by : BeginsAsImage input → (b : Bool) → nat_lt limit (0 + length input) ≡ b → (on_image (check false)).says input status answer
    by begins true is = absurd (told true is)
    by begins false is = (input, inl (record { begins = begins; short = grind (arith, nat_tests, is); same = refl }), told false is)

pub line_of_own : (read : Option (List ℕ)) (line : List ℕ) → IfSome (own_to_come 0 read) (λ r. IsLineOf r line)
    → IfSome read (λ input. BeginsAsImage input → IsFaultLine (on_image (check false)) input line)
line_of_own None line h = tt
line_of_own (Some input) line h = λ begins. by begins (nat_lt limit (0 + length input)) refl
  where
    told : (b : Bool) → nat_lt limit (0 + length input) ≡ b → IsLineOf (if b then Err TooLarge else Ok input) line
    told b is = subst (λ (b : Bool). IsLineOf (if b then Err TooLarge else Ok input) line) is h

    by : BeginsAsImage input → (b : Bool) → nat_lt limit (0 + length input) ≡ b → IsFaultLine (on_image (check false)) input line
    by begins true is = let over : limit < length input = grind (arith, nat_tests, is) in (stops.Input input_faults.TooLarge, inl over, told true is)
    by begins false is = let f = told false is in (f.0, inr (input, inl (record { begins = begins; short = grind (arith, nat_tests, is); same = refl }), f.1), f.2)
