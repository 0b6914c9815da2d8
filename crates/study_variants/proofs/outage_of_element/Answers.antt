use Rattle.study_variants.proofs.LeftBranches.{outage_of_element}
use Rattle.study_variants.proofs.outage_of_element.Goals as goal

pub returns : goal.returns
returns c = record { law = outage_of_element }
