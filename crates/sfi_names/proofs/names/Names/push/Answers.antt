use Rattle.std.proofs.Common.{rules}
use Rattle.sfi_names.proofs.Entries.{written}
use Rattle.sfi_names.proofs.names.Names.push.Goals as goal

pub returns : goal.returns
returns c = λ t h.
    written c.args.bytes.now.items c.extend_from_slice.new.self.items c.extend_from_slice-2.new.self.items
    c.push_number.new.bytes.items c.push_number-2.new.bytes.items c.push_number-3.new.bytes.items c.extend_from_slice-3.new.self.items
    c.args.self.now.exports.now c.args.self.now.imports.now c.args.self.now.version t
    (search rules) (search rules) (search rules) (search rules) (search rules) (search rules) h.version_is h.exports_are h.imports_are
