use Rattle.admittance_box.proofs.HeldMatrices.{box_matrix_holds}
use Rattle.admittance_box.proofs.nodal_laws.box_matrix_holds.Goals as goal

pub returns : goal.returns
returns c = record { law = box_matrix_holds }
