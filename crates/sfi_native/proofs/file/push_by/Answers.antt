use Rattle.std.proofs.Common.{◌≡◌, List, ℕ, ◌+◌, ◌*◌, ◌≤◌, arith, map, ap, ◌∙◌, refl, rules, length}
use Rattle.sfi_image.specs.Spelling.{view}
use Rattle.x86_step.specs.Running.{spellings}
use Rattle.sfi_native.specs.Code.{end_size}
use Rattle.sfi_native.specs.Entries.{AreEntries}
use Rattle.sfi_native.specs.Faults.{accesses_of}
use Rattle.sfi_native.specs.declared.faults.Access.{Access}
use Rattle.sfi_native.specs.File.{sandbox_bytes}
use Rattle.sfi_native.specs.Lines.{line_of}
use Rattle.sfi_native.specs.Places.{end_address, exit_of, whole_code}
use Rattle.sfi_native.specs.Sizes.{bytes_most}
use Rattle.sfi_native.proofs.CodeSizes.{code_few, whole_size}
use Rattle.sfi_native.proofs.file.push_by.Goals as goal

-- too many bytes
pub returns-then-len-part-clause-many : goal.returns-then-len-part-clause-many
returns-then-len-part-clause-many c = λ _.
    let p = view c.args.format c.args.part.now in
    let plan = c.args.plan.now in
    let lines = map line_of c.args.lines.now in
    let bytes : c.in-Some.code.bytes.items ≡ spellings (whole_code plan (end_address p) lines) = search rules in
    (omega (arith, c.if-len-part.true, c.len.ensures, ap length bytes, whole_size plan (end_address p) lines, code_few p c.requires.part), refl)

pub returns-clause-adds : goal.returns-clause-adds
returns-clause-adds c = λ _.
    let p = view c.args.format c.args.part.now in
    let plan = c.args.plan.now in
    let lines = map line_of c.args.lines.now in
    let table = c.in-Some.code.entries.items in
    let entries : AreEntries plan p lines table = search rules in
    let accesses : c.in-Some.code.accesses.items ≡ accesses_of plan lines lines = search rules in
    let bytes : c.in-Some.code.bytes.items ≡ spellings (whole_code plan (end_address p) lines) = search rules in
    let small : exit_of plan lines ≤ bytes_most * length p.code + end_size =
    omega (arith, c.if-len-part.false, c.len.ensures, ap length bytes, whole_size plan (end_address p) lines, code_few p c.requires.part) in
    record {
      text = sandbox_bytes plan p table c.in-Some.code.accesses.items c.in-Some.code.bytes.items;
      text_is = record {
        lines = lines;
        lines_are = c.requires.lines;
        plan = plan;
        plan_is_right = c.requires.plan;
        format_is = c.requires.plan_format;
        table = table;
        entries = entries;
        small = small;
        bytes_are = ap (λ (code : List ℕ). sandbox_bytes plan p table c.in-Some.code.accesses.items code) bytes
            ∙ ap (λ (a : List Access). sandbox_bytes plan p table a (spellings (whole_code plan (end_address p) lines))) accesses;
      };
      new_is = c.in_ok-push_code.ensures c.args.format;
    }
