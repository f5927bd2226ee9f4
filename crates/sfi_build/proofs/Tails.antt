-- A source whose first data bytes end in tables is right, and is placed as it is without them.
use Rattle.sfi_link.proofs.Prelude.{◌≡◌, refl, sym, ap, subst, ℕ, zero, suc, ◌+◌, ◌<◌, ◌≤◌, List, [], ◌∷◌, ◌++◌, length, length-append, arith, map, slice_get, All, All-append, Sandbox, IsSandbox, Placement, Place, bases_of, with_bytes, each_with, entries_in, map_from, PlacedName}
use Rattle.sfi_link.specs.declared.bases.Bases.{Bases}
use Rattle.std.specs.List.{AllByRecursion}
use Rattle.std.proofs.lemmas.List.Elements.{All-from_recursion, recursion_from_All}
use Rattle.sfi_formats.specs.declared.format.Format.{Format}
use Rattle.sfi_source.specs.Source.{IsSource, IsThere, AreOf, format_of}
use Rattle.sfi_source.specs.declared.item.Named.{Named}
use Rattle.sfi_source.specs.declared.item.Named.TheVariants.{Gate, Code, Data, Unknown}
use Rattle.sfi_rewrite.specs.Rewriting.{IsRewritten, AreRewritten}
use Rattle.sfi_link.proofs.Linking.{length-each_with}
use Rattle.sfi_build.specs.Tables.{sandbox_with}

-- ---- first data bytes of a list in the place of those that are there

abbrev pub sandbox_of : List ℕ → Sandbox → Sandbox
sandbox_of b s = record s { bytes = b }

-- the first data bytes of all sandboxes
abbrev pub inits_of : List Sandbox → List (List ℕ)
inits_of source = map (λ s. s.bytes) source

-- with tails they are such as the list of all of them says
pub tails_as_inits : (tails : List (List ℕ)) (source : List Sandbox) → each_with sandbox_with tails source ≡ each_with sandbox_of (inits_of (each_with sandbox_with tails source)) source
tails_as_inits [] [] = refl
tails_as_inits [] (s ∷ source) = ap (λ l. s ∷ l) (tails_as_inits [] source)
tails_as_inits (t ∷ tails) [] = refl
tails_as_inits (t ∷ tails) (s ∷ source) = ap (λ l. sandbox_with t s ∷ l) (tails_as_inits tails source)

-- ---- placed

part_as : (b : List ℕ) (s : Sandbox) (p : Placement) → IsRewritten s p → IsRewritten (sandbox_of b s) (with_bytes b p)
part_as b s p h =
    let l = h.placement in
    record {
      faultless = h.faultless;
      placement = record {
        format = l.format;
        movable = l.movable;
        data_size = l.data_size;
        gates = l.gates;
        bytes = refl;
        names = l.names;
        slots = l.slots;
        laid = l.laid;
        nops = l.nops;
        end = l.end;
        code = l.code;
        bundles = l.bundles;
      };
    }

pub rewritten_as : (bs : List (List ℕ)) (source : List Sandbox) (placed : List Placement) → AreRewritten source placed
    → AreRewritten (each_with sandbox_of bs source) (each_with with_bytes bs placed)
rewritten_as [] source placed h = h
rewritten_as (b ∷ bs) [] [] h = h
rewritten_as (b ∷ bs) [] (p ∷ placed) h = h
rewritten_as (b ∷ bs) (s ∷ source) [] h = h
rewritten_as (b ∷ bs) (s ∷ source) (p ∷ placed) h = (part_as b s p h.0, rewritten_as bs source placed h.1)

-- ---- right

there_stays : (s : Sandbox) (t : List ℕ) (what : Named) → IsThere s what → IsThere (sandbox_with t s) what
there_stays s t (Gate k) h = h
there_stays s t (Code k) h = h
there_stays s t (Data offset) h = omega (arith, h, length-append s.bytes t)
there_stays s t Unknown h = tt

sandbox_right : (t : List ℕ) (s : Sandbox) → length s.bytes + length t ≤ s.data_size → All (λ b. b < 256) t → IsSandbox s → IsSandbox (sandbox_with t s)
sandbox_right t s fits all h = record {
  data_size = h.data_size;
  gate_count = h.gate_count;
  gates = λ k g at. record { service = (h.gates k g at).service; name = (h.gates k g at).name };
  names = λ k d l. record { name = (h.names k d l).name; there = there_stays s t _ (h.names k d l).there };
  differ = h.differ;
  item_count = h.item_count;
  items = λ k i at. record { labelled = (h.items k i at).labelled; body = (h.items k i at).body };
  byte_count = omega (arith, fits, length-append s.bytes t);
  bytes = All-append (λ b. b < 256) s.bytes t h.bytes all;
}

-- each tail has room after the first data bytes of its sandbox
abbrev pub Fit : List (List ℕ) → List Sandbox → Type 0
Fit (t ∷ tails) (s ∷ source) = (length s.bytes + length t ≤ s.data_size) × All (λ b. b < 256) t × Fit tails source
Fit _ _ = Unit {0}

each_right : (tails : List (List ℕ)) (source : List Sandbox) → Fit tails source → AllByRecursion IsSandbox source → AllByRecursion IsSandbox (each_with sandbox_with tails source)
each_right [] source fit h = h
each_right (t ∷ tails) [] fit h = h
each_right (t ∷ tails) (s ∷ source) fit h = (sandbox_right t s fit.0 fit.1 h.0, each_right tails source fit.2 h.1)

each_of : (f : Format) (tails : List (List ℕ)) (source : List Sandbox) → AllByRecursion (λ s. s.format ≡ f) source → AllByRecursion (λ s. s.format ≡ f) (each_with sandbox_with tails source)
each_of f [] source h = h
each_of f (t ∷ tails) [] h = h
each_of f (t ∷ tails) (s ∷ source) h = (h.0, each_of f tails source h.1)

same_format : (tails : List (List ℕ)) (source : List Sandbox) → format_of (each_with sandbox_with tails source) ≡ format_of source
same_format [] source = refl
same_format (t ∷ tails) [] = refl
same_format (t ∷ tails) (s ∷ source) = refl

pub source_right : (tails : List (List ℕ)) (source : List Sandbox) → Fit tails source → IsSource source → IsSource (each_with sandbox_with tails source)
source_right tails source fit h =
    let whole = each_with sandbox_with tails source in
    let count = length-each_with sandbox_with tails source in
    record {
      at_least_one = omega (arith, h.at_least_one, count);
      numbered = omega (arith, h.numbered, count);
      each = All-from_recursion IsSandbox whole (each_right tails source fit (recursion_from_All IsSandbox source h.each));
      one_format = subst (λ (f : Format). AreOf f whole) (sym (same_format tails source))
          (All-from_recursion (λ s. s.format ≡ format_of source) whole (each_of (format_of source) tails source (recursion_from_All (λ s. s.format ≡ format_of source) source h.one_format)));
    }

-- ---- the map

entries_stay : (number : ℕ) (at : Bases) (names : List PlacedName) (bs : List (List ℕ)) (source : List Sandbox) (k : ℕ)
    → entries_in number at (slice_get (each_with sandbox_of bs source) k) names ≡ entries_in number at (slice_get source k) names
entries_stay number at names [] source k = refl
entries_stay number at names (b ∷ bs) [] k = refl
entries_stay number at names (b ∷ bs) (s ∷ source) zero = refl
entries_stay number at names (b ∷ bs) (s ∷ source) (suc k) = entries_stay number at names bs source k

pub map_as : (given : List Place) (number : ℕ) (bs : List (List ℕ)) (source : List Sandbox) (cs : List (List ℕ)) (placed : List Placement)
    → map_from given number (each_with sandbox_of bs source) (each_with with_bytes cs placed) ≡ map_from given number source placed
map_as given number bs source [] [] = refl
map_as given number bs source (c ∷ cs) [] = refl
map_as given number bs source [] (p ∷ placed) =
    λ i. entries_stay number (bases_of given number p) p.names bs source number i ++ map_as given (number + 1) bs source [] placed i
map_as given number bs source (c ∷ cs) (p ∷ placed) =
    λ i. entries_stay number (bases_of given number p) p.names bs source number i ++ map_as given (number + 1) bs source cs placed i
