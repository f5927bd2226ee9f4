use Rattle.std.proofs.Common.{◌≡◌, ◌∙◌, ℕ, List, ◌++◌, ap, append_assoc, codes, decimal}
use Rattle.sfi_rules.specs.Rules.{number_of}
use Rattle.sfi_rules.specs.declared.finding.Finding.{Finding}
use Rattle.sfi_report.specs.Listing.{hex_digits, line_end}
use Rattle.sfi_answers.specs.Answers.{refused_text}
use Rattle.sfi_answers.proofs.verdict.refused_line.Goals as goal

-- seven pieces, grouped to the right and to the left
regroup : (a b c d e f g : List ℕ) → a ++ (b ++ (c ++ (d ++ (e ++ (f ++ g))))) ≡ a ++ b ++ c ++ d ++ e ++ f ++ g
regroup a b c d e f g = simp append_assoc

-- the line's front, the address after it, and the end
line_of_pieces : (count : ℕ) (first : Finding) (front placed whole : List ℕ)
    → front ≡ codes "refused findings=" ++ (decimal count ++ (codes " first=V" ++ (decimal (number_of first.rule)
    ++ (codes " sandbox=" ++ (decimal first.sandbox ++ codes " at=")))))
    → placed ≡ front ++ hex_digits 8 first.address → whole ≡ placed ++ line_end → whole ≡ refused_text count first
unfolding refused_text
line_of_pieces count first front placed whole is at end =
    let grouped = is ∙ regroup (codes "refused findings=") (decimal count) (codes " first=V") (decimal (number_of first.rule))
    (codes " sandbox=") (decimal first.sandbox) (codes " at=") in
    end ∙ ap (λ (t : List ℕ). t ++ line_end) (at ∙ ap (λ (t : List ℕ). t ++ hex_digits 8 first.address) grouped)

pub returns : goal.returns
returns c =
    line_of_pieces c.args.count c.args.first _ _ _ (simp c.number-number.ensures at c.in_ok-line.ensures.ok)
    c.in_ok-push_eight_digits.ensures c.in_ok-push_str.ensures.bytes
