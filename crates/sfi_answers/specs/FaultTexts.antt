-- The lines that name faults: what kind it is, its number and its name, and where it is.
use Rattle.std.specs.Prelude.{◌≡◌, ℕ, List, [], ◌++◌, codes, decimal}
use Rattle.sfi_report.specs.Listing.{line_end}
use Rattle.sfi_io.specs.declared.hexadecimal.HexFault.TheVariants.{Odd, Digit}
use Rattle.sfi_image.specs.Faults as layouts
use Rattle.sfi_check.specs.Converting as converting
use Rattle.sfi_check.specs.declared.conversion.ConvertFault.TheVariants as conversion
use Rattle.sfi_image.specs.declared.fault.LayoutFault.{LayoutFault}
use Rattle.sfi_image.specs.declared.fault.LayoutFault.TheVariants as layout
use Rattle.sfi_text.specs.Tokens.{cause_number}
use Rattle.sfi_text.specs.declared.cause.TextCause.{TextCause}
use Rattle.sfi_text.specs.declared.cause.TextCause.TheVariants as cause
use Rattle.sfi_text.specs.declared.fault.TextFault.{TextFault}
use Rattle.sfi_rewrite.specs.Rewriting as rewriting
use Rattle.sfi_rewrite.specs.declared.fault.RewriteFault.{RewriteFault}
use Rattle.sfi_rewrite.specs.declared.fault.RewriteFault.TheVariants as rewriter
use Rattle.sfi_link.specs.Faults as linking
use Rattle.sfi_link.specs.declared.fault.LinkFault.{LinkFault}
use Rattle.sfi_link.specs.declared.fault.LinkFault.TheVariants as linker
use Rattle.sfi_build.specs.Tables as tables
use Rattle.sfi_build.specs.declared.table_fault.TableFault.{TableFault}
use Rattle.sfi_build.specs.declared.table_fault.TableFault.TheVariants as table
use Rattle.sfi_build.specs.declared.fault.BuildFault.{BuildFault}
use Rattle.sfi_build.specs.declared.fault.BuildFault.TheVariants as build
use Rattle.sfi_answers.specs.declared.fault.InputFault.{InputFault}
use Rattle.sfi_answers.specs.declared.fault.InputFault.TheVariants.{Hex, Utf8, TooLarge, NotOld, Words, NoSandbox, NoPlace, NoFile}
use Rattle.sfi_answers.specs.declared.fault.Stop.{Stop}
use Rattle.sfi_answers.specs.declared.fault.Stop.TheVariants as stop
use Rattle.sfi_answers.specs.Answers.{Meaning}

-- the line of a fault of this kind, with its number, and what it is: its name and where it is
abbrev pub fault_text : List ℕ → ℕ → List ℕ → List ℕ
fault_text kind number what =
    kind ++ codes " fault " ++ decimal number ++ codes " " ++ what ++ line_end

-- ---- of a layout

abbrev pub layout_name : LayoutFault → List ℕ
layout_name layout.Magic = codes "Magic"
layout_name layout.Count = codes "Count"
layout_name layout.Short = codes "Short"
layout_name layout.Code = codes "Code"
layout_name layout.Data = codes "Data"
layout_name layout.GuardRoom = codes "GuardRoom"
layout_name layout.Start = codes "Start"
layout_name layout.Gates = codes "Gates"
layout_name layout.Init = codes "Init"
layout_name layout.Overlap = codes "Overlap"
layout_name layout.Trailing = codes "Trailing"

abbrev pub layout_text : LayoutFault → List ℕ
layout_text k = fault_text (codes "layout") (layouts.number_of k) (layout_name k)

-- ---- of what was read

-- a fault of `convert`, `move` and `exec` by its number among theirs
abbrev pub input_text : InputFault → List ℕ
input_text (Hex Odd) = codes "input fault hex odd" ++ line_end
input_text (Hex (Digit place)) = codes "input fault hex digit " ++ decimal place ++ line_end
input_text Utf8 = codes "input fault utf8" ++ line_end
input_text TooLarge = codes "input fault too large" ++ line_end
input_text NotOld =
    fault_text (codes "convert") (converting.number_of conversion.NotOld) (codes "NotOld")
input_text Words =
    fault_text (codes "convert") (converting.number_of conversion.Words) (codes "Words")
input_text NoSandbox = codes "move fault 2 NoSandbox" ++ line_end
input_text NoPlace = codes "move fault 3 NoPlace" ++ line_end
input_text NoFile = codes "exec fault 7 NoFile" ++ line_end

-- ---- of a source, by the line or the sandbox where it is

abbrev pub cause_name : TextCause → List ℕ
cause_name cause.Word = codes "Word"
cause_name cause.Register = codes "Register"
cause_name cause.Number = codes "Number"
cause_name cause.Operands = codes "Operands"
cause_name cause.LabelTwice = codes "LabelTwice"
cause_name cause.Directive = codes "Directive"
cause_name cause.Limit = codes "Limit"
cause_name cause.Memory = codes "Memory"

abbrev pub source_name : TextFault → List ℕ
source_name f = cause_name f.cause ++ codes " line " ++ decimal f.line

abbrev pub rewrite_name : RewriteFault → List ℕ
rewrite_name (rewriter.ReservedRegister line) = codes "ReservedRegister line " ++ decimal line
rewrite_name (rewriter.Ecall line) = codes "Ecall line " ++ decimal line
rewrite_name (rewriter.TooLarge sandbox) = codes "TooLarge sandbox " ++ decimal sandbox
rewrite_name (rewriter.StackWrite line) = codes "StackWrite line " ++ decimal line
rewrite_name (rewriter.Jump line) = codes "Jump line " ++ decimal line
rewrite_name rewriter.Memory = codes "Memory"

abbrev pub link_name : LinkFault → List ℕ
link_name (linker.UnknownName line) = codes "UnknownName line " ++ decimal line
link_name (linker.BranchReach line) = codes "BranchReach line " ++ decimal line
link_name (linker.TooLarge sandbox) = codes "TooLarge sandbox " ++ decimal sandbox
link_name linker.TooManySandboxes = codes "TooManySandboxes"
link_name linker.Memory = codes "Memory"
link_name (linker.Place sandbox) = codes "Place sandbox " ++ decimal sandbox

abbrev pub table_name : TableFault → List ℕ
table_name (table.Unknown line) = codes "Unknown line " ++ decimal line
table_name (table.NoRoom sandbox) = codes "NoRoom sandbox " ++ decimal sandbox

abbrev pub build_text : BuildFault → List ℕ
build_text (build.Text f) = fault_text (codes "source") (cause_number f.cause) (source_name f)
build_text (build.Rewrite f) = fault_text (codes "rewrite") (rewriting.number_of f) (rewrite_name f)
build_text (build.Link f) = fault_text (codes "link") (linking.number_of f) (link_name f)
build_text (build.Names f) = fault_text (codes "names") (tables.number_of f) (table_name f)

-- ---- of a command that stops; nothing is said of want of memory

abbrev pub stop_text : Stop → List ℕ
stop_text (stop.Input fault) = input_text fault
stop_text (stop.Layout fault) = layout_text fault
stop_text (stop.Build fault) = build_text fault
stop_text stop.Memory = []

-- the line of the fault that the command has on what was read
abbrev pub IsFaultLine : Meaning → List ℕ → List ℕ → Type 0
IsFaultLine command input line =
    (fault : Stop) × command.why input fault × (line ≡ stop_text fault)
