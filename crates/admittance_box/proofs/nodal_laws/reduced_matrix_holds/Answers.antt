use Rattle.admittance_box.proofs.ReducedMatrices.{reduced_matrix_holds}
use Rattle.admittance_box.proofs.nodal_laws.reduced_matrix_holds.Goals as goal

pub returns : goal.returns
returns c = record { law = reduced_matrix_holds }
