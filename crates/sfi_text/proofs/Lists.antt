-- A list of data is read in one way.
use Rattle.sfi_text.proofs.Prelude.{◌≡◌, ℕ, List, [], ◌∷◌, ◌++◌, ◌⊎◌, inl, inr, refl, sym, ap, ◌∙◌, subst, ℤ, pos, Some, codes, flat_map, TextCause, NumberKind, Number, Comma, DataWidth, Takes, IsBlank, AreTokens, IsNumber, IsNumberOf, Differs, data_kind, data_bytes, operands, Writes, AreMore, LeadsByMore, NumberDeparts, MoreDeparts, ListDeparts}
use Rattle.sfi_text.specs.private.Lines.{ReadsNumber, ReadsList, ReadsAnother}
use Rattle.std.proofs.lemmas.List.{flat_map_more}
use Rattle.sfi_text.specs.declared.cause.TextCause.TheVariants as cause
use Rattle.sfi_text.proofs.Numbers.{number_unique}
use Rattle.sfi_text.proofs.Taking.{takes_unique, blank_takes_none, One, either_one, along, token_at, front_at, token_one, front_one}

module _ (kind : NumberKind) where
  -- another number stands there after a comma
  abbrev pub Continues : List ℕ → Type 0
  Continues text =
      (comma : List ℕ) × (after : List ℕ) × (token : List ℕ) × (next : List ℕ) × (z : ℤ)
      × Takes text comma after × (comma ≡ codes ",") × Takes after token next × Writes kind token z

  -- the text's number, and what follows it
  reads_number_one : (text : List ℕ) (y z : ℤ) (a b : List ℕ) → ReadsNumber kind text y a → ReadsNumber kind text z b → (y ≡ z) × (a ≡ b)
  reads_number_one text y z a b (t, takes, writes) (u, other, wrote) =
      let same = takes_unique takes other in
      (number_unique u y z (subst (λ (x : List ℕ). IsNumber x y) same.0 writes.0) wrote.0, same.1)

  -- two ways through a list, each as far as it goes, are one
  ways_one : (ns ms : List ℤ) (text a b : List ℕ) → LeadsByMore kind ns text a → (Continues a → ⊥) → LeadsByMore kind ms text b → (Continues b → ⊥) → (ns ≡ ms) × (a ≡ b)
  ways_one [] [] text a b h stops k stopped = (refl, sym h ∙ k)
  ways_one [] (m ∷ ms) text a b h stops (c, after, t, next, takes, is, taken, writes, leads) stopped =
      absurd (stops (subst Continues h (c, after, t, next, m, takes, is, taken, writes)))
  ways_one (n ∷ ns) [] text a b (c, after, t, next, takes, is, taken, writes, leads) stops k stopped =
      absurd (stopped (subst Continues k (c, after, t, next, n, takes, is, taken, writes)))
  ways_one (n ∷ ns) (m ∷ ms) text a b (c, after, t, next, takes, is, taken, writes, leads) stops (d, beyond, u, later, takes', is', taken', wrote, led) stopped =
      let second = along (λ _ x. Takes x t next) takes takes' taken in
      let number = number_unique u n m (along (λ (x _ : List ℕ). IsNumber x n) second taken' writes.0) wrote.0 in
      let same = ways_one ns ms later a b (along (λ _ x. LeadsByMore kind ns x a) second taken' leads) stops led stopped in
      ((λ i. number i ∷ same.0 i), same.1)

  blank_stops : (text : List ℕ) → IsBlank text → Continues text → ⊥
  blank_stops text blank (c, after, t, next, z, takes, is, taken, writes) = blank_takes_none text c after blank takes

  number_departs_not : (text token rest : List ℕ) (z : ℤ) (e : TextCause) → Takes text token rest → Writes kind token z → NumberDeparts kind text e → ⊥
  number_departs_not text token rest z e takes writes departs =
      (front_at text (λ t r f. Differs (Number kind) t f) token rest e takes departs).0 (operands 0 0 0 z) writes

  -- the first token is no comma, or no number stands after it
  abbrev AtComma : List ℕ → List ℕ → TextCause → Type 0
  AtComma token rest e = Differs Comma token e ⊎ ((token ≡ codes ",") × NumberDeparts kind rest e)

  departs_stops : (text : List ℕ) (e : TextCause) → MoreDeparts kind text e → Continues text → ⊥
  departs_stops text e departs (c, after, t, next, z, takes, is, taken, writes) =
      elim (token_at text AtComma c after e takes departs) [
        | inl differs ↦ differs.0 (operands 0 0 0 z) is
        | inr comma ↦ number_departs_not after t next z e taken writes comma.1
      ]

  blank_not_departs : (text : List ℕ) (e : TextCause) → IsBlank text → MoreDeparts kind text e → ⊥
  blank_not_departs text e blank (inl stuck) = stuck.0.something blank
  blank_not_departs text e blank (inr (u, v, takes, h)) = blank_takes_none text u v blank takes

  -- one cause
  number_departs_one : (text : List ℕ) → One (NumberDeparts kind text)
  number_departs_one text = front_one text (λ token rest e. Differs (Number kind) token e) (λ token rest e f h k. h.1 ∙ sym k.1)

  more_departs_one : (text : List ℕ) → One (MoreDeparts kind text)
  more_departs_one text = token_one text AtComma at_comma
    where
      at_comma : (token rest : List ℕ) → One (AtComma token rest)
      at_comma token rest =
          either_one _ _ (λ e f h k. h.1 ∙ sym k.1) (λ e f h k. number_departs_one rest e f h.1 k.1) (λ e f differs comma. differs.0 (operands 0 0 0 (pos 0)) comma.0)

  pub departs_list_one : (text : List ℕ) → One (ListDeparts kind text)
  departs_list_one text e f (inl d) (inl c) = number_departs_one text e f d c
  departs_list_one text e f (inl d) (inr (t, r, z, takes, writes, more)) = absurd (number_departs_not text t r z e takes writes d)
  departs_list_one text e f (inr (t, r, z, takes, writes, more)) (inl d) = absurd (number_departs_not text t r z f takes writes d)
  departs_list_one text e f (inr (t, r, z, takes, writes, (ns, a, leads, c))) (inr (u, v, y, other, wrote, (ms, b, led, d))) =
      let same = ways_one ns ms v a b (along (λ _ x. LeadsByMore kind ns x a) takes other leads) (departs_stops a e c) led (departs_stops b f d) in
      more_departs_one b e f (subst (λ x. MoreDeparts kind x e) same.1 c) d

  -- the tokens of a way through a list
  pub more_tokens : (ns : List ℤ) (text last : List ℕ) → LeadsByMore kind ns text last → IsBlank last → (tokens : List (List ℕ)) × AreTokens text tokens × AreMore kind ns tokens
  more_tokens [] text last h blank = ([], (last, h, blank), tt)
  more_tokens (n ∷ ns) text last (c, after, t, next, takes, is, taken, writes, leads) blank =
      let more = more_tokens ns next last leads blank in
      (c ∷ t ∷ more.0, (more.1.0, (after, takes, (next, taken, more.1.1)), more.1.2), (is, writes, more.2))

  pub more_leads : (ns : List ℤ) (tokens : List (List ℕ)) (text : List ℕ) → AreTokens text tokens → AreMore kind ns tokens → (last : List ℕ) × LeadsByMore kind ns text last × IsBlank last
  more_leads [] [] text (rest, leads, blank) h = (rest, leads, blank)
  more_leads [] (t ∷ tokens) text leads h = absurd h
  more_leads (n ∷ ns) [] text leads h = absurd h
  more_leads (n ∷ ns) (c ∷ []) text leads h = absurd h
  more_leads (n ∷ ns) (c ∷ t ∷ tokens) text (rest, (after, takes, (next, taken, leads)), blank) (is, writes, more) =
      let later = more_leads ns tokens next (rest, leads, blank) more in
      (later.0, (c, after, t, next, takes, is, taken, writes, later.1), later.2)

  -- how the readers depart
  pub number_departs : (text token rest : List ℕ) (e : TextCause) → Takes text token rest → ((z : ℤ) → IsNumber token z → IsNumberOf kind z → ⊥) → e ≡ cause.Number → NumberDeparts kind text e
  number_departs text token rest e takes none is = inr (inr (token, rest, takes, (λ o h. none o.number h.0 h.1, is)))

  pub more_departs : (text comma after : List ℕ) (e : TextCause) → Takes text comma after → comma ≡ codes "," → (e ≡ cause.Memory) ⊎ NumberDeparts kind after e → (e ≡ cause.Memory) ⊎ MoreDeparts kind text e
  more_departs text comma after e takes is (inl memory) = inl memory
  more_departs text comma after e takes is (inr departs) = inr (inr (comma, after, takes, inr (is, departs)))

  -- a way through a list, and one number more
  pub leads_on : (ns : List ℤ) (z : ℤ) (text a comma after token next : List ℕ) → LeadsByMore kind ns text a → Takes a comma after → comma ≡ codes "," → Takes after token next → Writes kind token z → LeadsByMore kind (ns ++ (z ∷ [])) text next
  leads_on [] z text a comma after token next h takes is taken writes = (comma, after, token, next, subst (λ x. Takes x comma after) (sym h) takes, is, taken, writes, refl)
  leads_on (n ∷ ns) z text a comma after token next (c, beyond, t, later, takes', is', taken', wrote, leads) takes is taken writes =
      (c, beyond, t, later, takes', is', taken', wrote, leads_on ns z later a comma after token next leads takes is taken writes)

module _ (width : DataWidth) where
  pub reads_on : (old was now text rest next : List ℕ) → ((ns : List ℤ) × LeadsByMore (data_kind width) ns text rest × (was ≡ old ++ flat_map (data_bytes width) ns)) → ReadsAnother width was now rest (Some next) → (ns : List ℤ) × LeadsByMore (data_kind width) ns text next × (now ≡ old ++ flat_map (data_bytes width) ns)
  reads_on old was now text rest next (ns, leads, e) (comma, after, takes, is, (z, (token, taken, writes), f)) = (
    ns ++ (z ∷ []),
    leads_on (data_kind width) ns z text rest comma after token next leads takes is taken writes,
    f ∙ ap (λ x. x ++ data_bytes width z) e ∙ flat_map_more (data_bytes width) old ns z,
  )

  pub first_departs : (text : List ℕ) (e : TextCause) → (e ≡ cause.Memory) ⊎ NumberDeparts (data_kind width) text e → (e ≡ cause.Memory) ⊎ ListDeparts (data_kind width) text e
  first_departs text e (inl memory) = inl memory
  first_departs text e (inr departs) = inr (inl departs)

  pub list_one : (text b c : List ℕ) → ReadsList width text b → ReadsList width text c → b ≡ c
  list_one text b c (y, r, first, (ns, a, leads, blank, e)) (z, s, other, (ms, d, led, empty, f)) =
      let same = reads_number_one (data_kind width) text y z r s first other in
      let leads' = subst (λ x. LeadsByMore (data_kind width) ns x a) same.1 leads in
      let numbers = ways_one (data_kind width) ns ms s a d leads' (blank_stops (data_kind width) a blank) led (blank_stops (data_kind width) d empty) in
      e ∙ (λ i. data_bytes width (same.0 i) ++ flat_map (data_bytes width) (numbers.0 i)) ∙ sym f

  pub list_not_refused : (text b : List ℕ) (e : TextCause) → ReadsList width text b → ListDeparts (data_kind width) text e → ⊥
  list_not_refused text b e (y, r, (t, takes, writes), more) (inl departs) = number_departs_not (data_kind width) text t r y e takes writes departs
  list_not_refused text b e (y, r, (t, takes, writes), (ns, a, leads, blank, is)) (inr (u, v, z, other, wrote, (ms, d, led, departs))) =
      let leads' = along (λ _ x. LeadsByMore (data_kind width) ns x a) takes other leads in
      let same = ways_one (data_kind width) ns ms v a d leads' (blank_stops (data_kind width) a blank) led (departs_stops (data_kind width) d e departs) in
      blank_not_departs (data_kind width) d e (subst IsBlank same.1 blank) departs
