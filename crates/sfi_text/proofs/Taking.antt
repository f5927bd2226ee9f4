-- The first token of a text, what follows it, and what is refused there.
use Rattle.std.proofs.Math.ListN.{drop_of_length-le}
use Rattle.std.proofs.Math.Seq.{take-append_seam, drop-append_seam}
use Rattle.std.proofs.lemmas.List.Folds.{length-prefix_len}
use Rattle.std.specs.Str.{IsUtf8, IsCharBoundary}
use Rattle.sfi_text.specs.private.Reading.{body_of, token_len}
use Rattle.sfi_text.proofs.Lexing.{front_passes, token_within, token_found, token_begins, token_len-le, cut_after_ascii, blank_ascii, token_ascii}
use Rattle.sfi_text.proofs.Prelude.{◌≡◌, ℕ, ◌<◌, false, List, [], ◌∷◌, ◌++◌, length, take, drop, refl, sym, ap, ◌∙◌, subst, arith, take-append-drop, length-append, length-take-le, length-drop, take_all, prefix_len, is_space, IsBlank, IsToken, Takes, IsStuck, ◌⊎◌, inl, inr, subst₂, TextCause, Unformed, Missing}

-- ==== The first token of a text is what the lexer computes, and so is what follows it.

skips : (gap : List ℕ) (c : ℕ) (cs : List ℕ) → IsBlank gap → is_space c ≡ false → prefix_len is_space (gap ++ (c ∷ cs)) ≡ length gap
skips [] c cs h e = rw e refl
skips (g ∷ gs) c cs h e = rw h.0 (omega (arith, skips gs c cs h.1 e))

-- what follows the spaces is the token and the rest
pub takes_body : {text token rest : List ℕ} → Takes text token rest → body_of text ≡ token ++ rest
unfolding body_of
takes_body {text} {token} {rest} t =
    let first = token_begins token t.is_token in
    let shape : token ++ rest ≡ first.0 ∷ (first.1 ++ rest) = ap (λ x. x ++ rest) first.2 in
    let whole : text ≡ t.gap ++ (first.0 ∷ (first.1 ++ rest)) = t.whole ∙ ap (λ x. t.gap ++ x) shape in
    let skip : prefix_len is_space text ≡ length t.gap = ap (prefix_len is_space) whole ∙ skips t.gap first.0 (first.1 ++ rest) t.blank first.3 in
    ap (λ k. drop k text) skip ∙ ap (λ x. drop (length t.gap) x) t.whole ∙ drop-append_seam t.gap (token ++ rest)

-- the token's length is the computed one
takes_len : {text token rest : List ℕ} → Takes text token rest → token_len (body_of text) ≡ length token
takes_len {text} {token} {rest} t =
    let body = takes_body t in
    let within = token_within token rest t.is_token in
    let same : token_len (body_of text) ≡ token_len (token ++ rest) = ap token_len body in
    let found = token_found (token ++ rest) (omega arith) in
    let split : token ++ rest ≡ take (token_len (token ++ rest)) (token ++ rest) ++ drop (token_len (token ++ rest)) (token ++ rest) = sym (take-append-drop (token_len (token ++ rest)) (token ++ rest)) in
    let no_longer = t.longest _ _ split found in
    let is_len : length (take (token_len (token ++ rest)) (token ++ rest)) ≡ token_len (token ++ rest) = length-take-le _ _ (token_len-le (token ++ rest)) in
    omega arith

pub takes_is : {text token rest : List ℕ} → Takes text token rest → (token ≡ take (token_len (body_of text)) (body_of text)) × (rest ≡ drop (token_len (body_of text)) (body_of text))
takes_is {text} {token} {rest} t =
    let body = takes_body t in
    let len = takes_len t in (
      sym (ap (λ k. take k (body_of text)) len ∙ ap (take (length token)) body ∙ take-append_seam token rest),
      sym (ap (λ k. drop k (body_of text)) len ∙ ap (drop (length token)) body ∙ drop-append_seam token rest),
    )

-- a text has one first token
pub takes_unique : {text a x b y : List ℕ} → Takes text a x → Takes text b y → (a ≡ b) × (x ≡ y)
takes_unique s t = let p = takes_is s in let q = takes_is t in (p.0 ∙ sym q.0, p.1 ∙ sym q.1)

-- what follows a token is shorter than the text
pub takes_shorter : {text token rest : List ℕ} → Takes text token rest → length rest < length text
takes_shorter {text} {token} {rest} t =
    let first = token_begins token t.is_token in
    omega (arith, ap length t.whole, ap length first.2, length-append t.gap (token ++ rest), length-append token rest)

takes_some : {text token rest : List ℕ} → Takes text token rest → 0 < token_len (body_of text)
takes_some {text} {token} {rest} t = let within = token_within token rest t.is_token in omega (arith, takes_len t)

pub takes_found : (text token rest : List ℕ) → 0 < token_len (body_of text) → token ≡ take (token_len (body_of text)) (body_of text) → rest ≡ drop (token_len (body_of text)) (body_of text) → Takes text token rest
unfolding body_of
takes_found text token rest h e f =
    let body = drop (prefix_len is_space text) text in
    let joined : token ++ rest ≡ body = (λ i. e i ++ f i) ∙ take-append-drop (token_len body) body in
    let is_len : length token ≡ token_len body = ap length e ∙ length-take-le (token_len body) body (token_len-le body) in
    record {
      gap = take (prefix_len is_space text) text;
      blank = front_passes is_space text;
      whole = sym (take-append-drop (prefix_len is_space text) text) ∙ ap (λ x. take (prefix_len is_space text) text ++ x) (sym joined);
      is_token = subst IsToken (sym e) (token_found body h);
      longest = λ other more same is_token.
          let within = token_within other more is_token in
          let same_len : token_len body ≡ token_len (other ++ more) = ap token_len (sym joined ∙ same) in
          omega arith;
    }

pub no_token : (text : List ℕ) → token_len (body_of text) ≡ 0 → (token rest : List ℕ) → Takes text token rest → ⊥
no_token text e token rest t = omega (arith, takes_some t)

blank_len : (text : List ℕ) → IsBlank text → prefix_len is_space text ≡ length text
blank_len [] h = refl
blank_len (c ∷ cs) h = rw h.0 (omega (arith, blank_len cs h.1))

-- a blank text has nothing after its spaces
pub blank_body : (text : List ℕ) → IsBlank text → body_of text ≡ []
unfolding body_of
blank_body text h = drop_of_length-le text (omega (arith, blank_len text h))

pub body_blank : (text : List ℕ) → length (body_of text) ≡ 0 → IsBlank text
unfolding body_of
body_blank text e =
    let all : take (prefix_len is_space text) text ≡ text = take_all _ text (omega (arith, length-drop (prefix_len is_space text) text)) in
    subst IsBlank all (front_passes is_space text)

none_at_end : token_len [] ≡ 0
unfolding token_len
none_at_end = refl

pub blank_takes_none : (text token rest : List ℕ) → IsBlank text → Takes text token rest → ⊥
blank_takes_none text token rest h t = no_token text (ap token_len (blank_body text h) ∙ none_at_end) token rest t

pub stuck : (text : List ℕ) → token_len (body_of text) ≡ 0 → 0 < length (body_of text) → IsStuck text
stuck text e h = record { nothing = no_token text e; something = λ b. omega (arith, ap length (blank_body text b)) }

-- a text may be cut after its leading spaces, and its body after its first token
pub gap_boundary : (text : List ℕ) → IsUtf8 text → IsCharBoundary text (prefix_len is_space text)
gap_boundary text u =
    subst (IsCharBoundary text) (length-prefix_len is_space text)
    (cut_after_ascii (take (prefix_len is_space text) text) text u (blank_ascii _ (front_passes is_space text)) (drop (prefix_len is_space text) text) (sym (take-append-drop (prefix_len is_space text) text)))

pub token_boundary : (body : List ℕ) → IsUtf8 body → 0 < token_len body → IsCharBoundary body (token_len body)
token_boundary body u h =
    subst (IsCharBoundary body) (length-take-le (token_len body) body (token_len-le body))
    (cut_after_ascii (take (token_len body) body) body u (token_ascii _ (token_found body h)) (drop (token_len body) body) (sym (take-append-drop (token_len body) body)))

-- ==== A text has one first token, and what is refused there has one cause, if what that token says has one.

-- this holds for one cause at most
abbrev pub One : (TextCause → Type 0) → Type 0
One P = (e f : TextCause) → P e → P f → e ≡ f

pub either_one : (P Q : TextCause → Type 0) → One P → One Q → ((e f : TextCause) → P e → Q f → ⊥) → One (λ e. P e ⊎ Q e)
either_one P Q p q apart e f (inl h) (inl k) = p e f h k
either_one P Q p q apart e f (inl h) (inr k) = absurd (apart e f h k)
either_one P Q p q apart e f (inr h) (inl k) = absurd (apart f e k h)
either_one P Q p q apart e f (inr h) (inr k) = q e f h k

pub fixed_one : (A : Type 0) (c : TextCause) → One (λ e. A × (e ≡ c))
fixed_one A c e f h k = h.1 ∙ sym k.1

-- what the first token says holds however it is taken
pub along : (R : List ℕ → List ℕ → Type 0) {text token rest other more : List ℕ} → Takes text token rest → Takes text other more → R token rest → R other more
along R takes taken h = let same = takes_unique takes taken in subst₂ R same.0 same.1 h

module _ (text : List ℕ) (At : List ℕ → List ℕ → TextCause → Type 0) where
  -- the first token and what follows it are refused for this cause
  abbrev AtToken : TextCause → Type 0
  AtToken e = (token : List ℕ) × (rest : List ℕ) × Takes text token rest × At token rest e

  pub token_at : (token rest : List ℕ) (e : TextCause) → Takes text token rest → Unformed text e ⊎ AtToken e → At token rest e
  token_at token rest e takes (inl stuck) = absurd (stuck.0.nothing token rest takes)
  token_at token rest e takes (inr (other, more, taken, h)) = along (λ t r. At t r e) taken takes h

  pub front_at : (token rest : List ℕ) (e : TextCause) → Takes text token rest → Unformed text e ⊎ (Missing text e ⊎ AtToken e) → At token rest e
  front_at token rest e takes (inl stuck) = absurd (stuck.0.nothing token rest takes)
  front_at token rest e takes (inr (inl missing)) = absurd (blank_takes_none text token rest missing.0 takes)
  front_at token rest e takes (inr (inr h)) = token_at token rest e takes (inr h)

  pub token_one : ((token rest : List ℕ) → One (At token rest)) → One (λ e. Unformed text e ⊎ AtToken e)
  token_one one e f (inl stuck) (inl other) = stuck.1 ∙ sym other.1
  token_one one e f (inl stuck) (inr (token, rest, takes, k)) = absurd (stuck.0.nothing token rest takes)
  token_one one e f (inr (token, rest, takes, h)) k = one token rest e f h (token_at token rest f takes k)

  pub front_one : ((token rest : List ℕ) → One (At token rest)) → One (λ e. Unformed text e ⊎ (Missing text e ⊎ AtToken e))
  front_one one e f (inl stuck) (inl other) = stuck.1 ∙ sym other.1
  front_one one e f (inl stuck) (inr (inl missing)) = absurd (stuck.0.something missing.0)
  front_one one e f (inl stuck) (inr (inr (token, rest, takes, k))) = absurd (stuck.0.nothing token rest takes)
  front_one one e f (inr (inl missing)) (inl stuck) = absurd (stuck.0.something missing.0)
  front_one one e f (inr (inl missing)) (inr (inl other)) = missing.1 ∙ sym other.1
  front_one one e f (inr (inl missing)) (inr (inr (token, rest, takes, k))) = absurd (blank_takes_none text token rest missing.0 takes)
  front_one one e f (inr (inr (token, rest, takes, h))) k = one token rest e f h (front_at token rest f takes k)
