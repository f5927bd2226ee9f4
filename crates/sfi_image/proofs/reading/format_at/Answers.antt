use Rattle.sfi_image.proofs.Prelude.{◌≡◌, ℕ, List, Format, Sfi1, Sfi2, Sfiw, Sfis, magic}

neither : (front : List ℕ) → (front ≡ magic Sfi1 → ⊥) → (front ≡ magic Sfi2 → ⊥) → (front ≡ magic Sfiw → ⊥) → (front ≡ magic Sfis → ⊥) → (format : Format) → front ≡ magic format → ⊥
neither front one two three four Sfi1 = one
neither front one two three four Sfi2 = two
neither front one two three four Sfiw = three
neither front one two three four Sfis = four
