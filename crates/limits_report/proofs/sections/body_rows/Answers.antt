use Rattle.std.proofs.Common.{◌∙◌, sym, subst, List}
use Rattle.std.specs.List.{AllByRecursion}
use Rattle.study_model.specs.Lawful.{IsLawfulPcc}
use Rattle.study_model.specs.declared.records.Pcc.{Pcc}
use Rattle.limits_report.specs.declared.site.Site.{Site}
use Rattle.limits_report.specs.Sites.{IsLawfulSubject}
use Rattle.limits_report.proofs.Places.{lawful_buses, lawful_points}
use Rattle.limits_report.proofs.sections.body_rows.Goals as goal

pub push_section-requires-clause-sites : goal.push_section-requires-clause-sites
push_section-requires-clause-sites c =
    subst (λ (sites : List Site). AllByRecursion (λ site. IsLawfulSubject c.args.study.now site.subject) sites) (sym (c.as_slice.ensures ∙ c.in_ok-sites.ensures))
    (lawful_buses c.args.study.now c.args.study.now.model 0 c.args.study.now.buses)

pub push_points_from-requires-clause-points : goal.push_points_from-requires-clause-points
push_points_from-requires-clause-points c =
    subst (λ (points : List Pcc). AllByRecursion (IsLawfulPcc c.args.study.now) points) (sym c.as_slice-3.ensures) (lawful_points c.args.study.now c.requires.study)
