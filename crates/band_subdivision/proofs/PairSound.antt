-- The test of a pair of networks is sound.
use Rattle.network_theory.specs.Extra.{scanned_network}
use Rattle.branchwise_test.specs.Enclosed.{impedance_near_with}
use Rattle.branchwise_test.proofs.Extra.{impedance_is_near}
use Rattle.band_subdivision.specs.PairTest.{pair_value, pair_enclosure}
use Rattle.band_subdivision.specs.PairTruth.{PairTestIsSound, scanned_with}
use Rattle.band_subdivision.specs.Truth.{EstimatesImpedance}
use Rattle.band_subdivision.proofs.BranchwiseSound.{branchwise_is_sound}
use Rattle.band_subdivision.proofs.Enclosures.{pair_encloses}
use Rattle.band_subdivision.proofs.InverseSound.{inverse_is_sound}
use Rattle.band_subdivision.proofs.PairTests.{pair_reduces}
use Rattle.band_subdivision.proofs.PartTests.{parts_are_sound, second_is_sound}
use Rattle.band_subdivision.proofs.Sound.{test_is_sound}

pub pair_is_sound : PairTestIsSound
pair_is_sound scale from threshold kv mva asked low high driven ordering e of can natural network between =
    let s = scanned_with threshold kv mva network driven e in
    let elimination = test_is_sound scale from threshold kv mva asked.levels (pair_value scale low high ordering e) (scanned_network network driven e) driven of (pair_reduces scale from low high driven ordering e can natural network between) in
    let inverse = inverse_is_sound scale from threshold kv mva asked.levels (pair_enclosure scale low high ordering e) (scanned_network network driven e) driven of (pair_encloses scale from low high driven ordering e can natural network between) in
    let estimates : EstimatesImpedance scale from (impedance_near_with scale low high ordering e) (scanned_network network driven e) driven = record { at_each = λ lo hi near h testable made is_order inside. impedance_is_near scale low high driven ordering can e lo hi near made h is_order inside network between } in
    let branchwise = branchwise_is_sound scale from threshold kv mva asked.levels (impedance_near_with scale low high ordering e) (scanned_network network driven e) driven of estimates in
    parts_are_sound.either from s _ _ elimination (second_is_sound from s asked.method asked.locate _ _ inverse branchwise)
