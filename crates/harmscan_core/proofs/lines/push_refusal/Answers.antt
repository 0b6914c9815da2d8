use Rattle.std.proofs.Common.{◌∙◌, ◌++◌, List, ℕ, ap, sym, append_assoc}
use Rattle.spectrum_reader.specs.Faults.{levels_printed}
use Rattle.harmscan_core.specs.Lines.{printed_text, report_text, verify_text, refused_text}
use Rattle.harmscan_core.specs.declared.files.Refusal.{Refusal}
use Rattle.harmscan_core.proofs.lines.push_refusal.Goals as goal

pub returns-in-Levels-clause-text : goal.returns-in-Levels-clause-text
returns-in-Levels-clause-text c =
    c.push_levels_refusal.ensures.text ∙ ap (λ (t : List ℕ). t ++ printed_text (levels_printed c.in-Levels.fault)) c.push_text-in-Levels.ensures.text
    ∙ append_assoc c.args.line.now _ _ ∙ ap (λ (r : Refusal). c.args.line.now ++ refused_text r) (sym c.in-Levels.is)

pub returns-in-Report-clause-text : goal.returns-in-Report-clause-text
returns-in-Report-clause-text c =
    c.push_report_refusal.ensures.text ∙ ap (λ (t : List ℕ). t ++ report_text c.in-Report.fault) c.push_text-in-Report.ensures.text
    ∙ append_assoc c.args.line.now _ _ ∙ ap (λ (r : Refusal). c.args.line.now ++ refused_text r) (sym c.in-Report.is)

pub returns-in-Verify-clause-text : goal.returns-in-Verify-clause-text
returns-in-Verify-clause-text c =
    c.push_verify_refusal.ensures.text ∙ ap (λ (t : List ℕ). t ++ verify_text c.in-Verify.fault) c.push_text-in-Verify.ensures.text
    ∙ append_assoc c.args.line.now _ _ ∙ ap (λ (r : Refusal). c.args.line.now ++ refused_text r) (sym c.in-Verify.is)
