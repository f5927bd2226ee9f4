-- The file of native code, one sandbox more.
use Rattle.std.proofs.Common.{◌≡◌, ℕ, ◌+◌, ◌<◌, ◌≤◌, List, [], ◌∷◌, ◌++◌, length, take, get_or, refl, sym, ap, ◌∙◌, subst, arith, append_assoc, append-nil, add-zero}
use Rattle.std.proofs.lemmas.List.{get_or-map, length-map, length-take, take_all, take_more}
use Rattle.sfi_formats.specs.declared.format.Format.{Format}
use Rattle.sfi_image.specs.Spelling.{Part, view, views}
use Rattle.sfi_image.specs.declared.part.SandboxPart.{SandboxPart}
use Rattle.sfi_report.specs.private.{Adds}
use Rattle.sfi_native.specs.File.{AreSandboxFiles, IsSandboxFile}

appended : (n m : ℕ) (parts : List Part) (p : Part) (bytes last : List ℕ) → AreSandboxFiles n parts bytes → IsSandboxFile m p last → m ≡ n + length parts → AreSandboxFiles n (parts ++ p ∷ []) (bytes ++ last)
appended n m [] p bytes last h here e =
    let at : m ≡ n = e ∙ add-zero n in
    (last, [], subst (λ k. IsSandboxFile k p last) at here, refl, ap (λ (l : List ℕ). l ++ last) h ∙ sym (append-nil last))
appended n m (q ∷ parts) p bytes last h here e =
    let rest = appended (n + 1) m parts p h.1 last h.3 here (omega arith) in
    (h.0, h.1 ++ last, h.2, rest, ap (λ (l : List ℕ). l ++ last) h.4 ∙ append_assoc h.0 h.1 last)

-- after what was there, the first sandboxes
abbrev pub AreFirst : List Part → ℕ → List ℕ → List ℕ → Type 0
AreFirst image n old new = Adds old new (AreSandboxFiles 0 (take n image))

pub none_yet : (image : List Part) (old : List ℕ) → AreFirst image 0 old old
none_yet image old = record { text = []; text_is = refl; new_is = sym (append-nil old) }

pub one_sandbox_more : (format : Format) (image : List Part) (items : List SandboxPart) (i : ℕ) (d : SandboxPart) (old new more : List ℕ) → views format items ≡ image → i < length items
    → AreFirst image i old new → Adds new more (IsSandboxFile i (view format (get_or items i d))) → AreFirst image (i + 1) old more
one_sandbox_more format image items i d old new more e h before here =
    let within : i < length (views format items) = omega (arith, length-map items (view format)) in
    let longer : take (i + 1) (views format items) ≡ take i (views format items) ++ view format (get_or items i d) ∷ [] =
    take_more (views format items) i (view format d) within ∙ ap (λ (p : Part). take i (views format items) ++ p ∷ []) (get_or-map (view format) items i d (view format d) h) in
    let count : i ≡ 0 + length (take i (views format items)) = omega (arith, length-take i (views format items)) in
    let before' = subst (λ (l : List Part). AreSandboxFiles 0 (take i l) before.text) (sym e) before.text_is in
    let written = appended 0 i (take i (views format items)) (view format (get_or items i d)) before.text here.text before' here.text_is count in
    record {
      text = before.text ++ here.text;
      text_is = subst (λ (l : List Part). AreSandboxFiles 0 l (before.text ++ here.text)) (sym longer ∙ ap (take (i + 1)) e) written;
      new_is = here.new_is ∙ ap (λ t. t ++ here.text) before.new_is ∙ append_assoc old before.text here.text;
    }

pub all_sandboxes : (format : Format) (image : List Part) (items : List SandboxPart) (i : ℕ) (old new : List ℕ) → views format items ≡ image → length items ≤ i → AreFirst image i old new
    → Adds old new (AreSandboxFiles 0 image)
all_sandboxes format image items i old new e h before =
    let all : length image ≤ i = omega (arith, length-map items (view format), ap length e) in
    subst (λ (l : List Part). Adds old new (AreSandboxFiles 0 l)) (take_all i image all) before
