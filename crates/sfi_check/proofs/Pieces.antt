-- The loop over a stream's pieces, and reads one after another.
use Rattle.sfi_check.proofs.Prelude.{◌≡◌, ℕ, ◌<◌, ◌≤◌, Bool, true, false, cond, List, [], ◌∷◌, ◌++◌, length, Option, Some, None, refl, sym, ap, ◌∙◌, subst, arith, append_assoc, ◌||◌, lt-ltb, append-nil, Finding, StreamAnswer, IsFed, IsFedFinding, IsVerdictOn, AreHandedOver, LayoutFault}
use Rattle.sfi_image.specs.Sources.{OneRead, IsChain, is_end, bytes_handed_out, finds_end, Streams, bytes_of}
use Rattle.std.proofs.lemmas.List.Elements.{All-push}
use Rattle.sfi_check.specs.declared.feed.Feed.{Feed}
use Rattle.sfi_check.specs.declared.stream_answer.StreamAnswer.TheVariants as answers
use Rattle.sfi_check.proofs.Feeding.{fed_weaker, listed, fed_fault, judged_onwards, judged_failed}

-- ==== Reads one after another.

module _ {S : Type 0} (reads : S → ℕ → Option (List ℕ) → S → Type 0) where
  chain_push : (s : S) (rs : List (OneRead S)) (t : S) (r : OneRead S) → IsChain reads s rs t → reads t r.buffer_length r.answer r.after → IsChain reads s (rs ++ r ∷ []) r.after
  chain_push s [] t r h one = (subst (λ (u : S). reads u r.buffer_length r.answer r.after) h one, refl)
  chain_push s (q ∷ rs) t r h one = (h.0, chain_push q.after rs t r h.1 one)

  handed_by : (q : OneRead S) (rs : List (OneRead S)) (r : OneRead S) (b : Bool) → is_end q.buffer_length q.answer ≡ b → finds_end (q ∷ rs) ≡ false
      → (finds_end rs ≡ false → bytes_handed_out (rs ++ r ∷ []) ≡ bytes_handed_out rs ++ cond (is_end r.buffer_length r.answer) [] (bytes_of r.answer))
      → bytes_handed_out (q ∷ (rs ++ r ∷ [])) ≡ bytes_handed_out (q ∷ rs) ++ cond (is_end r.buffer_length r.answer) [] (bytes_of r.answer)
  handed_by q rs r true is e ih = let t : finds_end (q ∷ rs) ≡ true = rw is refl in absurd cc
  handed_by q rs r false is e ih =
      let f : finds_end rs ≡ false = rw is at e in
      rw is (ap (λ (l : List ℕ). bytes_of q.answer ++ l) (ih f) ∙ sym (append_assoc (bytes_of q.answer) (bytes_handed_out rs) (cond (is_end r.buffer_length r.answer) [] (bytes_of r.answer))))

  handed_push : (rs : List (OneRead S)) (r : OneRead S) → finds_end rs ≡ false → bytes_handed_out (rs ++ r ∷ []) ≡ bytes_handed_out rs ++ cond (is_end r.buffer_length r.answer) [] (bytes_of r.answer)
  handed_push [] r e = ap (λ (l : List ℕ). cond (is_end r.buffer_length r.answer) [] l) (append-nil (bytes_of r.answer))
  handed_push (q ∷ rs) r e = handed_by q rs r (is_end q.buffer_length q.answer) refl e (λ f. handed_push rs r f)

  or_false : (b : Bool) → (b || false) ≡ b
  or_false true = refl
  or_false false = refl

  ended_by : (q : OneRead S) (rs : List (OneRead S)) (r : OneRead S) (b : Bool) → is_end q.buffer_length q.answer ≡ b → finds_end (q ∷ rs) ≡ false
      → (finds_end rs ≡ false → finds_end (rs ++ r ∷ []) ≡ is_end r.buffer_length r.answer) → finds_end (q ∷ (rs ++ r ∷ [])) ≡ is_end r.buffer_length r.answer
  ended_by q rs r true is e ih = let t : finds_end (q ∷ rs) ≡ true = rw is refl in absurd cc
  ended_by q rs r false is e ih = let f : finds_end rs ≡ false = rw is at e in rw is (ih f)

  ended_push : (rs : List (OneRead S)) (r : OneRead S) → finds_end rs ≡ false → finds_end (rs ++ r ∷ []) ≡ is_end r.buffer_length r.answer
  ended_push [] r e = or_false (is_end r.buffer_length r.answer)
  ended_push (q ∷ rs) r e = ended_by q rs r (is_end q.buffer_length q.answer) refl e (λ f. ended_push rs r f)

  pub no_reads : (s : S) → Streams reads 4096 s s [] false
  no_reads s = record { chain = []; is_chain = refl; bytes_are = refl; ends_is = refl; pieces = λ k d h. absurd (omega arith) }

  one_more : (s t u : S) (bytes new : List ℕ) (buffer_length : ℕ) (answer : Option (List ℕ)) → Streams reads 4096 s t bytes false → reads t buffer_length answer u → buffer_length ≤ 4096
      → new ≡ bytes ++ cond (is_end buffer_length answer) [] (bytes_of answer) → Streams reads 4096 s u new (is_end buffer_length answer)
  one_more s t u bytes new buffer_length answer h one le e =
      let r : OneRead S = record { buffer_length = buffer_length; answer = answer; after = u } in
      let goes = sym h.ends_is in
      record {
        chain = h.chain ++ r ∷ [];
        is_chain = chain_push s h.chain t r h.is_chain one;
        bytes_are = e ∙ ap (λ (l : List ℕ). l ++ cond (is_end buffer_length answer) [] (bytes_of answer)) h.bytes_are ∙ sym (handed_push h.chain r goes);
        ends_is = sym (ended_push h.chain r goes);
        pieces = All-push (λ (q : OneRead S). q.buffer_length ≤ 4096) h.chain r h.pieces le;
      }

  -- after a read that hands out bytes
  pub some_read : (s t u : S) (bytes more : List ℕ) (buffer_length : ℕ) → Streams reads 4096 s t bytes false → reads t buffer_length (Some more) u → buffer_length ≤ 4096 → 0 < length more → Streams reads 4096 s u (bytes ++ more) false
  some_read s t u bytes [] buffer_length h one le some = absurd (omega arith)
  some_read s t u bytes (b ∷ more) buffer_length h one le some = one_more s t u bytes (bytes ++ b ∷ more) buffer_length (Some (b ∷ more)) h one le refl

  -- after one that finds the end
  pub end_read : (s t u : S) (bytes : List ℕ) (buffer_length : ℕ) → Streams reads 4096 s t bytes false → reads t buffer_length (Some []) u → buffer_length ≤ 4096 → 0 < buffer_length → Streams reads 4096 s u bytes true
  end_read s t u bytes buffer_length h one le some =
      let ends : is_end buffer_length (Some []) ≡ true = lt-ltb 0 buffer_length some in
      subst (λ (b : Bool). Streams reads 4096 s u bytes b) ends (one_more s t u bytes bytes buffer_length (Some []) h one le (sym (rw (ends) (append-nil bytes))))

  -- after one that fails
  pub failed_read : (s t u : S) (bytes : List ℕ) (buffer_length : ℕ) → Streams reads 4096 s t bytes false → reads t buffer_length None u → buffer_length ≤ 4096 → Streams reads 4096 s u bytes false
  failed_read s t u bytes buffer_length h one le = one_more s t u bytes bytes buffer_length None h one le (sym (append-nil bytes))

-- ==== The loop over a stream's pieces: what it keeps, and what each of its ends answers.

-- the feed was fed what the stream has handed out so far
pub record IsBetween {S : Type 0} (reads : S → ℕ → Option (List ℕ) → S → Type 0) (holds : List Finding → Type 0) (s t : S) (feed : Feed) : Type 0 where
  pub bytes : List ℕ
  pub fed : IsFedFinding holds feed bytes
  pub streams : Streams reads 4096 s t bytes false

module _ {S : Type 0} {reads : S → ℕ → Option (List ℕ) → S → Type 0} {holds : List Finding → Type 0} {s t : S} {feed : Feed} (i : IsBetween reads holds s t feed) where
  -- the answer is the verdict on what the stream has handed out up to there
  abbrev pub IsJudged : S → StreamAnswer → Type 0
  IsJudged u answer = (bytes : List ℕ) × (ends : Bool) × (found : List Finding) × Streams reads 4096 s u bytes ends × IsVerdictOn bytes ends answer
      × holds found × AreHandedOver bytes found answer

  -- a read fails
  pub fails : (u : S) (n : ℕ) → reads t n None u → n ≤ 4096 → IsJudged u answers.ReadFault
  fails u n read few =
      let h = listed feed i.bytes i.fed in
      (i.bytes, false, h.0, failed_read reads s t u i.bytes n i.streams read few, judged_failed i.bytes, h.1, record { findings = tt; accepted = tt })

  -- the layout has a fault
  pub faulty : (k : LayoutFault) → feed.fault ≡ Some k → IsJudged t (answers.Layout k)
  faulty k e =
      let h = fed_fault feed i.bytes k e i.fed in
      (i.bytes, false, h.1.0, i.streams, judged_onwards i.bytes k h.0, h.1.1, record { findings = tt; accepted = tt })

  -- the stream ends
  pub ends_here : (u : S) (n : ℕ) (answer : StreamAnswer) → reads t n (Some []) u → n ≤ 4096 → 0 < n → ((bytes : List ℕ) → IsFed feed bytes → IsVerdictOn bytes true answer)
      → ((bytes : List ℕ) (found : List Finding) → IsFedFinding (λ all. all ≡ found) feed bytes → AreHandedOver bytes found answer) → IsJudged u answer
  ends_here u n answer read few some judged handed =
      let h = listed feed i.bytes i.fed in (
        i.bytes,
        true,
        h.0,
        end_read reads s t u i.bytes n i.streams read few some,
        judged i.bytes (fed_weaker feed i.bytes (λ found holds. tt) i.fed),
        h.1,
        handed i.bytes h.0 h.2,
      )

  -- the stream goes on, and what was read is fed
  pub reads_on : {after : List Finding → Type 0} (u : S) (n : ℕ) (more : List ℕ) (new : Feed) → reads t n (Some more) u → n ≤ 4096 → 0 < length more
      → IsFedFinding after new (i.bytes ++ more) → IsBetween reads after s u new
  reads_on u n more new read few some fed = record { bytes = i.bytes ++ more; fed = fed; streams = some_read reads s t u i.bytes more n i.streams read few some }
