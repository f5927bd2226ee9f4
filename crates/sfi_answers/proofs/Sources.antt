-- What is answered on a source text: of which nothing is made, and its map.
use Rattle.std.proofs.Common.{◌≡◌, ◌⊎◌, ℕ, List, Result, Ok, Err, refl, sym, subst, inl, inr, ◌∙◌, ◌+◌, ◌<◌, ◌≤◌, arith, [], ◌∷◌, ◌++◌, length, take, get_or, ap, add-zero, append_assoc}
use Rattle.std.specs.Prelude.{IsErrAnd, IsUtf8}
use Rattle.sfi_build.specs.declared.fault.BuildFault.{BuildFault}
use Rattle.sfi_build.specs.Texts.{IsBuildFault, IsWantOfMemory}
use Rattle.sfi_formats.specs.declared.place.Place.{Place}
use Rattle.sfi_answers.specs.Building.{of_source, lines_in, IsNotMade, IsSourceText, IsTableText, IsMapFrom}
use Rattle.sfi_answers.specs.declared.fault.InputFault.TheVariants as input
use Rattle.sfi_io.specs.Hexadecimal.{limit}
use Rattle.sfi_answers.specs.Answers.{Answers, StopsBuild}
use Rattle.sfi_answers.specs.declared.fault.Stop.{Stop}
use Rattle.sfi_answers.specs.declared.fault.Stop.TheVariants as stop
use Rattle.sfi_answers.specs.declared.verdict.Answer.{Answer}
use Rattle.std.proofs.lemmas.List.{take_all, take_more, append-nil, length-take, length-map, get_or-map}
use Rattle.sfi_formats.specs.declared.format.Format.{Format}
use Rattle.sfi_image.specs.Spelling.{Part, view, views}
use Rattle.sfi_image.specs.declared.part.SandboxPart.{SandboxPart}
use Rattle.sfi_link.specs.Names.{MapEntry}

-- ==== What is answered on a source text of which nothing is made.

fault_of : (places : List Place) (source : List ℕ) (f : BuildFault) → (¬ IsWantOfMemory f) → IsWantOfMemory f ⊎ IsBuildFault places source f → IsBuildFault places source f
fault_of places source f enough (inl want) = absurd (enough want)
fault_of places source f enough (inr is) = is

pub not_made : {A : Type 0} (places : List Place) (is_made : List Place → List ℕ → A → Type 0) (text_of : A → List ℕ) (text source : List ℕ) (f : BuildFault) (r : Result Answer Stop)
    → source ≡ text → IsSourceText source → IsWantOfMemory f ⊎ IsBuildFault places source f → ((x : A) → is_made places source x → IsWantOfMemory f) → IsErrAnd r (StopsBuild f)
    → Answers (of_source is_made text_of places) text r
not_made places is_made text_of text source f (Err (stop.Build fault)) same is why only stops = record {
  says = tt;
  which = (
    subst IsSourceText same is,
    subst (IsBuildFault places text) (sym stops.0) (subst (λ (t : List ℕ). IsBuildFault places t f) same (fault_of places source f stops.1 why)),
  );
  only_done = λ h. stops.1 (only h.0 (subst (λ (t : List ℕ). is_made places t h.0) (sym same) h.2));
  only_refused = λ h. absurd h;
  only_fault = λ _ _. refl;
}
not_made places is_made text_of text source f (Err stop.Memory) same is why only stops = record {
  says = tt;
  which = tt;
  only_done = λ _. tt;
  only_refused = λ _. tt;
  only_fault = λ _ _. refl;
}
not_made places is_made text_of text source f _ same is why only stops = absurd stops

-- of what is no UTF-8 nothing is made
pub no_source : {A : Type 0} (places : List Place) (is_made : List Place → List ℕ → A → Type 0) (text_of : A → List ℕ) (text : List ℕ) (why : Stop) (r : Result Answer Stop)
    → length text ≤ limit → (why ≡ stop.Input input.Utf8) × ¬ IsUtf8 text → IsErrAnd r (λ (s : Stop). s ≡ why) → Answers (of_source is_made text_of places) text r
no_source places is_made text_of text why (Ok a) short is stops = absurd stops
no_source places is_made text_of text why (Err s) short is stops =
    subst (λ (x : Stop). Answers (of_source is_made text_of places) text (Err x)) (sym (stops ∙ is.0)) (record {
      says = tt;
      which = (short, is.1);
      only_done = λ h. absurd (is.1 h.1.utf8);
      only_refused = λ h. absurd h;
      only_fault = λ _ _. refl;
    })

-- and of a source text of which something is made there is no fault
pub no_fault : {P : Type 0} (places : List Place) (text : List ℕ) (why : Stop) → IsSourceText text → ((f : BuildFault) → IsBuildFault places text f → P) → IsNotMade places text why → P
no_fault places text (stop.Input input.TooLarge) source none over = absurd (omega (arith, source.short, over))
no_fault places text (stop.Input input.Utf8) source none wrong = absurd (wrong.1 source.utf8)
no_fault places text (stop.Build f) source none wrong = none f wrong.1
no_fault places text _ source none wrong = absurd wrong

-- ==== The map of an image, one sandbox more.

-- what is said of a sandbox is written after the text
abbrev pub Maps : ℕ → List MapEntry → Part → List ℕ → List ℕ → Type 0
Maps sandbox entries p old new =
    (table : List ℕ) × IsTableText p.format p.init table × (new ≡ old ++ (lines_in sandbox entries ++ table))

map_append : (entries : List MapEntry) (n m : ℕ) (parts : List Part) (p : Part) (text more : List ℕ) → IsMapFrom n entries parts text → Maps m entries p text more → m ≡ n + length parts
    → IsMapFrom n entries (parts ++ p ∷ []) more
map_append entries n m [] p text more h here e =
    let at : m ≡ n = e ∙ add-zero n in
    (here.0, [], here.1, refl, here.2 ∙ ap (λ (l : List ℕ). l ++ (lines_in m entries ++ here.0)) h ∙ ap (λ (k : ℕ). lines_in k entries ++ here.0) at ∙ sym (append-nil (lines_in n entries ++ here.0)))
map_append entries n m (q ∷ parts) p text more h here e =
    let last = lines_in m entries ++ here.0 in
    let rest : IsMapFrom (n + 1) entries (parts ++ p ∷ []) (h.1 ++ last) = map_append entries (n + 1) m parts p h.1 (h.1 ++ last) h.3 (here.0, here.1, refl) (omega arith) in
    (h.0, h.1 ++ last, h.2, rest, here.2 ∙ ap (λ (l : List ℕ). l ++ last) h.4 ∙ append_assoc (lines_in n entries ++ h.0) h.1 last)

-- the map of the first sandboxes
abbrev pub AreMapped : List MapEntry → List Part → ℕ → List ℕ → Type 0
AreMapped entries image i text = IsMapFrom 0 entries (take i image) text

pub one_mapped_more : (entries : List MapEntry) (format : Format) (image : List Part) (items : List SandboxPart) (i : ℕ) (d : SandboxPart) (text more : List ℕ) → views format items ≡ image → i < length items
    → AreMapped entries image i text → Maps i entries (view format (get_or items i d)) text more → AreMapped entries image (i + 1) more
one_mapped_more entries format image items i d text more e h before here =
    let within : i < length (views format items) = omega (arith, length-map items (view format)) in
    let longer : take (i + 1) (views format items) ≡ take i (views format items) ++ view format (get_or items i d) ∷ [] =
    take_more (views format items) i (view format d) within ∙ ap (λ (p : Part). take i (views format items) ++ p ∷ []) (get_or-map (view format) items i d (view format d) h) in
    let count : i ≡ 0 + length (take i (views format items)) = omega (arith, length-take i (views format items)) in
    let before' = subst (λ (l : List Part). IsMapFrom 0 entries (take i l) text) (sym e) before in
    let mapped = map_append entries 0 i (take i (views format items)) (view format (get_or items i d)) text more before' here count in
    subst (λ (l : List Part). IsMapFrom 0 entries l more) (sym longer ∙ ap (take (i + 1)) e) mapped

pub all_mapped : (entries : List MapEntry) (format : Format) (image : List Part) (items : List SandboxPart) (i : ℕ) (text : List ℕ) → views format items ≡ image → length items ≤ i
    → AreMapped entries image i text → IsMapFrom 0 entries image text
all_mapped entries format image items i text e h before =
    let all : length image ≤ i = omega (arith, length-map items (view format), ap length e) in
    subst (λ (l : List Part). IsMapFrom 0 entries l text) (take_all i image all) before
