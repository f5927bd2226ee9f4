use Rattle.sfi_image.proofs.Prelude.{◌≡◌, sym, subst, arith, ap, ◌∙◌, append_assoc, ◌++◌, take, length, List, flat_map, take_all, length-map, magic, view, views, part, spelling, format_of, number, IsRightPart}
use Rattle.sfi_image.specs.declared.part.SandboxPart.{SandboxPart}
use Rattle.sfi_image.proofs.Formats.{format_is}
use Rattle.sfi_image.proofs.Refused.{map_at}
use Rattle.sfi_image.proofs.writing.write_valid_parts.Goals as goal

pub push_part-requires : goal.push_part-requires
push_part-requires c =
    let ps = c.args.parts.now in
    let i = c.loop-one.one-index in
    let same = length-map ps (view c.args.format) in
    (c.args.format, subst IsRightPart (map_at (view c.args.format) ps i c.one-item.result c.one-item.is) (c.requires.right.each i (view c.args.format c.one-item.result) (omega arith)))

pub returns : goal.returns
unfolding spelling
returns c =
    let ps = c.args.parts.now in
    let whole : take c.loop-one.one-index ps ≡ ps = take_all c.loop-one.one-index ps (omega arith) in
    let same = length-map ps (view c.args.format) in
    let front : c.extend_from_slice.new.self.items ≡ magic c.args.format = c.in_ok-extend_from_slice.ensures.items ∙ ap (λ l. l ++ c.magic.result) c.new-bytes.ensures.items ∙ c.magic.ensures in
    let kind : magic (format_of (views c.args.format ps)) ≡ magic c.args.format = ap magic (format_is c.args.format ps c.requires.at_least_one) in
    let all = subst (λ (qs : List SandboxPart). c.loop-one.bytes.items ≡ c.push_number.new.bytes.items ++ flat_map part (views c.args.format qs)) whole (c.loop-one.invariant c.args.format) in
    all ∙ ap (λ l. l ++ flat_map part (views c.args.format ps)) (c.in_ok-push_number.ensures ∙ ap (λ l. l ++ number (length ps)) front ∙ ap (λ n. magic c.args.format ++ number n) (sym same))
    ∙ append_assoc (magic c.args.format) (number (length (views c.args.format ps))) (flat_map part (views c.args.format ps)) ∙ ap (λ m. m ++ (number (length (views c.args.format ps)) ++ flat_map part (views c.args.format ps))) (sym kind)
