-- What a stream of a reader hands out, whose bytes are known. Crates above cite this.
use Rattle.sfi_image.proofs.Prelude.{◌≡◌, ℕ, Bool, true, List, [], ◌∷◌, ◌++◌, Option, Some, None, refl, sym, ap, ◌∙◌, subst, inl, inr, append_assoc, cases_Bool, ltb-true}
use Rattle.sfi_image.specs.Sources.{ReadsOf, OneRead, IsChain, bytes_of, bytes_handed_out, finds_end, is_end, Streams}

-- one read hands out the front of the known bytes, and none where it finds the end, at which none are left
handed : (n : ℕ) (answer new : Option (List ℕ)) (was is : Bool) (all : List ℕ) → ReadsOf (Some all) was n answer new is
    → (left : List ℕ) × (new ≡ Some left) × (all ≡ bytes_of answer ++ left) × (is_end n answer ≡ true → all ≡ [])
handed n None None was is all h = absurd h.1
handed n None (Some left) was is all h = (left, refl, sym h.1, λ e. absurd cc)
handed n (Some bytes) None was is all h = absurd h.1
handed n (Some []) (Some left) was is all h = (left, refl, h.1, λ e. h.1 ∙ h.3 refl (ltb-true 0 n e))
handed n (Some (b ∷ bs)) (Some left) was is all h = (left, refl, h.1, λ e. absurd cc)

module _ {S : Type 0} (known : S → Option (List ℕ)) (failed : S → Bool) where
  abbrev pub reads_known : S → ℕ → Option (List ℕ) → S → Type 0
  reads_known s n answer t = ReadsOf (known s) (failed s) n answer (known t) (failed t)

  -- what a chain of reads hands out is the front of the reader's bytes, and all of them where it found the end
  known_front : (rs : List (OneRead S)) (s t : S) (all : List ℕ) → IsChain reads_known s rs t → known s ≡ Some all
      → (rest : List ℕ) × (all ≡ bytes_handed_out rs ++ rest) × (finds_end rs ≡ true → rest ≡ [])
  known_front [] s t all h e = (all, refl, λ f. absurd cc)
  known_front (r ∷ rs) s t all h e =
      let one = handed r.buffer_length r.answer (known r.after) (failed s) (failed r.after) all (subst (λ (o : Option (List ℕ)). ReadsOf o (failed s) r.buffer_length r.answer (known r.after) (failed r.after)) e h.0) in
      let more = known_front rs r.after t one.0 h.1 one.1 in
      elim (cases_Bool (is_end r.buffer_length r.answer)) [
        | inl ends ↦ rw (ends) ([], one.3 ends, λ _. refl)
        | inr goes ↦ rw (goes) (more.0, one.2 ∙ ap (λ (l : List ℕ). bytes_of r.answer ++ l) more.1 ∙ sym (append_assoc (bytes_of r.answer) (bytes_handed_out rs) more.0), more.2)
      ]

  -- the bytes of a stream are the front of the reader's bytes, and all of them where the end was
  -- found
  pub handed_out : (most : ℕ) (s t : S) (bytes all : List ℕ) (ends : Bool) → Streams reads_known most s t bytes ends → known s ≡ Some all
      → (rest : List ℕ) × (all ≡ bytes ++ rest) × (ends ≡ true → rest ≡ [])
  handed_out most s t bytes all ends h e =
      let front = known_front h.chain s t all h.is_chain e in
      (front.0, front.1 ∙ ap (λ (l : List ℕ). l ++ front.0) (sym h.bytes_are), λ is. front.2 (sym h.ends_is ∙ is))
