-- Nodes that are marked, or aren't.
use Rattle.std.proofs.Common.{◌≡◌, ◌∙◌, ◌<◌, ◌≤◌, Bool, true, false, ℕ, List, [], ◌∷◌, length, get_or, ap, sym, refl, arith}
use Rattle.std.specs.Prelude.{not}
use Rattle.std.specs.List.{AllByRecursion}
use Rattle.std.proofs.lemmas.List.Elements.{recursion_from_All}
use Rattle.network_theory.specs.Reach.{is_live}
use Rattle.network_theory.proofs.Reach.{live_in_rounds}
use Rattle.net_branch.specs.Exact.{exact_network}
use Rattle.net_branch.specs.LiveNodes.{AreLive}
use Rattle.net_branch.specs.Whole.{IsWholeNetwork}
use Rattle.net_branch.specs.declared.network.Network.{Network}
use Rattle.study_model.specs.Lawful.{IsLawful, IsLawfulScan}
use Rattle.study_model.specs.declared.records.ScanItem.{ScanItem}
use Rattle.study_model.specs.declared.records.Study.{Study}

pub dead_is : (network : Network) (marks : List Bool) (n : ℕ) → IsWholeNetwork network → AreLive network marks → n < network.nodes → not (get_or marks n false) ≡ not (is_live (exact_network network) n)
dead_is network marks n whole are inside = ap not (go (get_or marks n false) (is_live (exact_network network) n) refl refl)
  where
    go : (b t : Bool) → get_or marks n false ≡ b → is_live (exact_network network) n ≡ t → get_or marks n false ≡ is_live (exact_network network) n
    go true t e f = e ∙ sym ((live_in_rounds (exact_network network) whole.exact n).1 ((are.each n inside).0 e))
    go false true e f = (are.each n inside).1 ((live_in_rounds (exact_network network) whole.exact n).0 f) ∙ sym f
    go false false e f = e ∙ sym f

buses_in : (study : Study) (scans : List ScanItem) (nodes : ℕ) → length study.buses ≤ nodes → AllByRecursion (IsLawfulScan study.version study.model study.buses) scans → AllByRecursion (λ scan. scan.bus < nodes) scans
buses_in study [] nodes h all = tt
buses_in study (scan ∷ scans) nodes h all = let bus = all.0.bus in (omega (arith, h, bus), buses_in study scans nodes h all.1)

pub lawful_scans : (study : Study) → IsLawful study → AllByRecursion (IsLawfulScan study.version study.model study.buses) study.scans
lawful_scans study h = recursion_from_All (IsLawfulScan study.version study.model study.buses) study.scans h.scans

-- the buses of a study's scans are nodes
pub scans_within : (study : Study) (nodes : ℕ) → IsLawful study → length study.buses ≤ nodes → AllByRecursion (λ scan. scan.bus < nodes) study.scans
scans_within study nodes h few = buses_in study study.scans nodes few (lawful_scans study h)
