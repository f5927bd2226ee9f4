-- Words of private contracts: the scan of a stretch.
use Rattle.std.specs.Prelude.{◌+◌, ◌≤◌, ℕ, ◌≡◌, ◌-◌, ◌*◌, ◌^◌, ◌<◌, length, drop, false}
use Rattle.sfi_image.specs.declared.bundle.BundlePlace.{BundlePlace}
use Rattle.std.proofs.Common.{List, Bool, [], ◌++◌, ap, sym, ◌∙◌, append_assoc}
use Rattle.std.proofs.lemmas.List.{append-nil}
use Rattle.sfi_rules.specs.declared.finding.Finding.{Finding}
use Rattle.sfi_scan.specs.Stretches.{Lists, stretch_place, findings_most, IsScanned, AreWordStretchFindings}
use Rattle.sfi_formats.specs.Limits.{bundle_size}
use Rattle.sfi_rules.specs.Readings.{IsWithinBlock}
use Rattle.sfi_rules.specs.declared.owed.Owed.{Owed}

-- ==== Where bytes lie in a bundle's code region.

-- `size` bytes from the address on lie in the code region
pub record IsInside (b : BundlePlace) (address size : ℕ) : Type 0 where
  pub from : b.code_base ≤ address
  pub to : address + size ≤ b.code_base + b.code_size

-- ==== Lemmas that `FindingList`'s impl cites: it takes no findings, and some findings after
-- others.

pub lists_none : (old : List Finding) (lacked : Bool) → Lists old lacked [] old lacked
lists_none old lacked = λ had. (had, sym (append-nil old))

pub lists_more : (a : List Finding) (p : Bool) (xs b : List Finding) (q : Bool) (ys c : List Finding) (r : Bool) → Lists a p xs b q → Lists b q ys c r → Lists a p (xs ++ ys) c r
lists_more a p xs b q ys c r one two = λ had.
    let second = two had in
    let first = one second.0 in
    (first.0, second.1 ∙ ap (λ (l : List Finding). l ++ ys) first.1 ∙ append_assoc a xs ys)

-- ==== The scan of a stretch, front by front.

-- a plain block of the stretch begins at byte `start`, before its region's last bundle, and has the
-- stretch's bundle k
pub record IsBlockStart (b : BundlePlace) (bytes : List ℕ) (k start : ℕ) : Type 0 where
  pub first : ℕ
  pub before : ℕ
  pub is : k ≡ first + before
  pub inside : before < 8
  pub start_is : start ≡ bundle_size * first
  pub whole : start + 8 * bundle_size ≤ length bytes
  pub within : IsWithinBlock (stretch_place b first)
  pub plain : (stretch_place b first).listed ≡ false

-- 128 bytes of the stretch from `start` on, among them byte `at`; `start` has an address below 2^32
pub record IsInBytesOfBlock (b : BundlePlace) (bytes : List ℕ) (at start : ℕ) : Type 0 where
  pub addresses : b.address + start < 2 ^ 32
  pub low : start ≤ at
  pub high : at < start + 8 * bundle_size
  pub whole : start + 8 * bundle_size ≤ length bytes

-- the block's bundles from number `from` on are scanned: the sink took their findings
abbrev pub IsBlockScanned : {F : Type 0} → (F → List Finding → F → Type 0) → BundlePlace → List ℕ
    → ℕ → F → F → Type 0
IsBlockScanned takes b block from before after =
    IsScanned takes (stretch_place b from) (drop (bundle_size * from) block) (8 - from) before after

-- the bytes from the stretch's bundle k to byte `end` are whole bundles, and `holds` is so of their number
pub record AreBundlesTo (bytes : List ℕ) (k end : ℕ) (holds : ℕ → Type 0) : Type 0 where
  pub bundles : ℕ
  pub end_is : end ≡ bundle_size * (k + bundles)
  pub inside : end ≤ length bytes
  pub told : holds bundles

-- the bytes from the stretch's bundle k to byte `end` are whole bundles, at least one, and `holds`
-- is so of their number
abbrev pub AreSomeBundlesTo : List ℕ → ℕ → ℕ → (ℕ → Type 0) → Type 0
AreSomeBundlesTo bytes k end holds = AreBundlesTo bytes k end (λ n. (1 ≤ n) × holds n)

-- the bundles from bundle k to byte `end`, at least one, are scanned
abbrev pub IsFrontScanned : {F : Type 0} → (F → List Finding → F → Type 0) → BundlePlace → List ℕ → ℕ
    → ℕ → F → F → Type 0
IsFrontScanned takes b bytes k end before after =
    AreSomeBundlesTo bytes k end (λ n.
    IsScanned takes (stretch_place b k) (drop (bundle_size * k) bytes) n before after)

-- the first n bundles of a stretch of code in words are scanned: the sink took their findings
pub record IsWordCodeScanned {F : Type 0} (takes : F → List Finding → F → Type 0)
    (b : BundlePlace) (owed : Owed) (bytes : List ℕ) (n : ℕ) (next : Owed)
    (before after : F) : Type 0 where
  pub found : List Finding
  pub found_are : AreWordStretchFindings b owed bytes n found next
  pub few : length found ≤ findings_most * n
  pub handed : takes before found after

-- the bundles from bundle k to byte `end`, at least one, are scanned as code in words, with `owed`
-- before them and `next` after them
abbrev pub IsWordFrontScanned : {F : Type 0} → (F → List Finding → F → Type 0) → BundlePlace → Owed
    → List ℕ → ℕ → ℕ → Owed → F → F → Type 0
IsWordFrontScanned takes b owed bytes k end next before after =
    AreSomeBundlesTo bytes k end (λ n. IsWordCodeScanned takes (stretch_place b k) owed
    (drop (bundle_size * k) bytes) n next before after)

-- the bundles from bundle k to byte `end`, if there are any, break no rule as code in words
abbrev pub IsRunClean : BundlePlace → Owed → List ℕ → ℕ → ℕ → Owed → Type 0
IsRunClean b owed bytes k end next =
    AreBundlesTo bytes k end (λ n.
    AreWordStretchFindings (stretch_place b k) owed (drop (bundle_size * k) bytes) n [] next)
