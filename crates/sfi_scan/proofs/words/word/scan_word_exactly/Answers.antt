use Rattle.sfi_scan.proofs.Prelude.{arith, inl}
use Rattle.sfi_scan.proofs.Readings.{stuck_of, two_of, word_bad, adds_wide, adds_two, adds_cut, adds_bad}
use Rattle.sfi_scan.proofs.words.word.scan_word_exactly.Goals as goal

pub returns-in-Short : goal.returns-in-Short
returns-in-Short c = (_, c.add_finding.ensures, omega arith, word_bad c.args.place.now c.args.address c.args.owed c.args.word.now c.requires.whole (stuck_of c.args.word.now c.read_front.result c.in-Short.is c.read_front.ensures.only))

pub scan_instruction-requires-clause-room : goal.scan_instruction-requires-clause-room
scan_instruction-requires-clause-room c = let few = c.scan_instruction-owed.ensures.few in let room = c.requires.room in omega arith

pub add_finding-requires-in-Short-read_front : goal.add_finding-requires-in-Short-read_front
add_finding-requires-in-Short-read_front c = let few = c.scan_instruction-owed.ensures.few in let room = c.requires.room in omega arith

pub add_finding-requires-in-Bad : goal.add_finding-requires-in-Bad
add_finding-requires-in-Bad c = let few = c.scan_instruction-owed.ensures.few in let room = c.requires.room in omega arith

pub returns-then-size-eq4 : goal.returns-then-size-eq4
returns-then-size-eq4 c = adds_wide c.args.place.now c.args.address c.args.owed c.args.word.now c.requires.whole c.args.found.now c.in-Read.first c.in-Read.size c.in-Read.ensures.front c.scan_instruction-owed.new.found c.scan_instruction-owed.result
    c.scan_instruction-owed.ensures.found c.scan_instruction-owed.ensures.next c.if-size-eq4.true

pub returns-in-Read-read_front : goal.returns-in-Read-read_front
returns-in-Read-read_front c = adds_two c.args.place.now c.args.address c.args.owed c.args.word.now c.requires.whole c.args.found.now c.in-Read.first c.in-Read.size c.in-Read.ensures.front c.scan_instruction-owed.new.found c.scan_instruction-owed.result
    c.scan_instruction-owed.ensures.found c.scan_instruction-owed.ensures.next (two_of c.args.word.now c.in-Read.first c.in-Read.size c.in-Read.ensures.front c.if-size-eq4.false)
    c.in-Read-read_front.second c.in-Read-read_front.size c.scan_instruction.new.found c.scan_instruction.result c.in-Read-read_front.ensures.front c.scan_instruction.ensures.found c.scan_instruction.ensures.next

pub returns-in-Short-read_front : goal.returns-in-Short-read_front
returns-in-Short-read_front c = adds_cut c.args.place.now c.args.address c.args.owed c.args.word.now c.requires.whole c.args.found.now c.in-Read.first c.in-Read.size c.in-Read.ensures.front c.scan_instruction-owed.new.found c.scan_instruction-owed.result
    c.scan_instruction-owed.ensures.found c.scan_instruction-owed.ensures.next (two_of c.args.word.now c.in-Read.first c.in-Read.size c.in-Read.ensures.front c.if-size-eq4.false)
    c.add_finding-in-Short-read_front.new.found (stuck_of _ c.read_front-2.result (inl c.in-Short-read_front.is) c.read_front-2.ensures.only) c.in-Short-read_front.ensures.front c.add_finding-in-Short-read_front.ensures

pub returns-in-Bad : goal.returns-in-Bad
returns-in-Bad c = adds_bad c.args.place.now c.args.address c.args.owed c.args.word.now c.requires.whole c.args.found.now c.in-Read.first c.in-Read.size c.in-Read.ensures.front c.scan_instruction-owed.new.found c.scan_instruction-owed.result
    c.scan_instruction-owed.ensures.found c.scan_instruction-owed.ensures.next (two_of c.args.word.now c.in-Read.first c.in-Read.size c.in-Read.ensures.front c.if-size-eq4.false)
    c.add_finding-in-Bad.new.found c.in-Bad.ensures.front c.add_finding-in-Bad.ensures
