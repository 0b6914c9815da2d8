use Rattle.std.proofs.Common.{◌≡◌, None, Some, subst, sym}
use Rattle.toml.specs.Data.{Members}
use Rattle.toml.specs.Errors.{IsMemory}
use Rattle.toml.specs.View.{table_view}
use Rattle.toml.specs.Parse.{parse_document}
use Rattle.study_model.specs.declared.fault.StudyFault.{StudyFault}
use Rattle.study_model.specs.declared.fault.StudyFault.TheVariants.{NotToml}
use Rattle.study_reader.specs.StudyOf.{HasTable, Refused, no_table, first}
use Rattle.study_reader.proofs.study.read_study.Goals as goal

pub returns-in-Err-clause-refused : goal.returns-in-Err-clause-refused
returns-in-Err-clause-refused c = λ other.
    let readable : IsMemory c.in-Err.error → ⊥ = λ m. other (c.fault_of.ensures.memory m) in
    let same : c.fault_of.result ≡ NotToml = c.fault_of.ensures.none readable in
    subst (λ (fault : StudyFault). Refused c.args.bytes.now fault) (sym same) (no_table (λ (ms : Members). λ (has : HasTable c.args.bytes.now ms).
    let none : parse_document c.args.bytes.now ≡ None = c.in-Err.ensures.refused readable has.0 in
    let some : parse_document c.args.bytes.now ≡ Some ms = has.1 in cc))

pub returns-in-Err-study_of-clause-refused : goal.returns-in-Err-study_of-clause-refused
returns-in-Err-study_of-clause-refused c = λ other. first (table_view c.in-Ok.table) c.in-Err-study_of.fault c.in-Ok.ensures.ok (c.in-Err-study_of.ensures.read other)
