use Rattle.std.proofs.Common.{◌≡◌, List, None, Option, sym, subst, ◌∙◌, ap}
use Rattle.std.specs.List.{AllByRecursion}
use Rattle.scan_report.specs.Reading.{between, ended, IsRow}
use Rattle.scan_report.specs.declared.rows.Row.{Row}
use Rattle.report_verify.specs.FirstFault.{first_fault}
use Rattle.report_verify.proofs.Holds.{report_holds}
use Rattle.report_verify.proofs.Steps.{order_rows}
use Rattle.report_verify.proofs.verifying.verify.Goals as goal

pub fault_of-requires-clause-rows : goal.fault_of-requires-clause-rows
fault_of-requires-clause-rows c = subst (AllByRecursion IsRow) (sym c.as_slice-rows.ensures) (order_rows between ended c.args.report.now.rows c.requires.order)

pub returns-in-None-clause-holds : goal.returns-in-None-clause-holds
returns-in-None-clause-holds c =
    let none : first_fault c.args.study.now c.args.report.now.rows ≡ None = ap (first_fault c.args.study.now) (sym c.as_slice-rows.ensures) ∙ c.in-None.ensures.none in
    report_holds c.args.study.now c.args.networks.now c.args.report.now.rows c.requires.study c.requires.networks c.requires.order none
