use Rattle.std.proofs.Common.{◌≡◌, ◌∙◌, ◌++◌, ℕ, List, ap, sym, refl, append_assoc}
use Rattle.std.specs.Prelude.{codes}
use Rattle.std.specs.Fmt.{decimal}
use Rattle.report_verify.specs.declared.fault.VerifyFault.TheVariants.{NotUndecided}
use Rattle.harmscan_core.specs.Lines.{verify_text}
use Rattle.harmscan_core.proofs.lines.push_verify_refusal.Goals as goal

undecided_text : (n : ℕ) → codes "6 NotUndecided " ++ decimal n ≡ verify_text (NotUndecided n)
undecided_text n = refl

pub returns-in-NotUndecided-clause-text : goal.returns-in-NotUndecided-clause-text
returns-in-NotUndecided-clause-text c =
    c.push_at_line-in-NotUndecided.ensures.text ∙ append_assoc c.args.line.now _ _
    ∙ ap (λ (t : List ℕ). c.args.line.now ++ t) (undecided_text c.in-NotUndecided.number ∙ ap verify_text (sym c.in-NotUndecided.is))
