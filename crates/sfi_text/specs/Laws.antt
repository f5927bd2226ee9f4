-- Laws of the text of an instruction, and of the text of a source.
use Rattle.std.specs.Prelude.{◌≡◌, ◌⊎◌, ℕ, ◌*◌, List, ℤ, pos, ◌+ℤ◌}
use Rattle.rv_word.specs.declared.instr.Instr.{Instr}
use Rattle.rv_word.specs.Spelling.{modulo, InRange}
use Rattle.sfi_text.specs.declared.cause.TextCause.{TextCause}
use Rattle.sfi_text.specs.Statement.{Means, Refused, printed}
use Rattle.sfi_text.specs.declared.fault.TextFault.{TextFault}
use Rattle.sfi_source.specs.Source.{Sandbox, upper, lower}
use Rattle.sfi_text.specs.SoFar.{SharedNames, SoFar}
use Rattle.sfi_text.specs.Texts.{Leads, LineRefused, MeansSource, MeansText, IsFault}

-- a text means one instruction at most
abbrev pub OneMeaning : Type 0
OneMeaning = (text : List ℕ) (i j : Instr) → Means text i → Means text j → i ≡ j

-- a text is refused for one cause at most
abbrev pub OneCause : Type 0
OneCause = (text : List ℕ) (e f : TextCause) → Refused text e → Refused text f → e ≡ f

-- a text that means an instruction is refused for no cause
abbrev pub MeantIsNotRefused : Type 0
MeantIsNotRefused = (text : List ℕ) (i : Instr) (e : TextCause) → Means text i → Refused text e → ⊥

-- each text means an instruction or is refused
abbrev pub SomeMeaning : Type 0
SomeMeaning = (text : List ℕ) → ((i : Instr) × Means text i) ⊎ ((e : TextCause) × Refused text e)

-- what a text means is in range, so that a word spells it
abbrev pub MeaningsAreInRange : Type 0
MeaningsAreInRange = (text : List ℕ) (i : Instr) → Means text i → InRange i

-- a printed instruction whose fields are in range means that instruction
abbrev pub PrintedReadsBack : Type 0
PrintedReadsBack = (i : Instr) → InRange i → Means (printed i) i

-- a line leads from a source so far to one next one at most
abbrev pub LeadsOnce : Type 0
LeadsOnce = (line : ℕ) (old a b : SoFar) (text : List ℕ) → Leads line old text a
    → Leads line old text b → a ≡ b

-- a line that leads on is refused for no cause: where it is refused it leads nowhere
abbrev pub LeadingIsNotRefused : Type 0
LeadingIsNotRefused =
    (line : ℕ) (old new : SoFar) (text : List ℕ) (e : TextCause) → Leads line old text new
    → LineRefused old text e → ⊥

-- a line is refused for one cause at most
abbrev pub RefusedOnce : Type 0
RefusedOnce = (old : SoFar) (text : List ℕ) (e f : TextCause) → LineRefused old text e
    → LineRefused old text f → e ≡ f

-- a text means one source at most
abbrev pub OneSource : Type 0
OneSource = (text : List ℕ) (p q : List Sandbox) → MeansSource text p → MeansSource text q → p ≡ q

-- a text means one source at most, with one list for each table
abbrev pub OneText : Type 0
OneText = (text : List ℕ) (p q : List Sandbox) (s t : List SharedNames)
    → MeansText text p s → MeansText text q t → (p ≡ q) × (s ≡ t)

-- a text has one fault at most
abbrev pub OneFault : Type 0
OneFault = (text : List ℕ) (f g : TextFault) → IsFault text f → IsFault text g → f ≡ g

-- each text means a source or has a fault
abbrev pub SomeSource : Type 0
SomeSource = (text : List ℕ)
    → ((parts : List Sandbox) × MeansSource text parts) ⊎ ((f : TextFault) × IsFault text f)

-- a text that means a source has no fault
abbrev pub MeantHasNoFault : Type 0
MeantHasNoFault =
    (text : List ℕ) (p : List Sandbox) (f : TextFault) → MeansSource text p → IsFault text f → ⊥

-- the lui and the addi of a number add up to it, as 32 bits hold it
abbrev pub ConstantsAddUp : Type 0
ConstantsAddUp = (z : ℤ) → modulo 32 (pos (4096 * upper z) +ℤ lower z) ≡ modulo 32 z
