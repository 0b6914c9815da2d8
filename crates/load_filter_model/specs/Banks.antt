-- Capacitor banks as branches.
use Rattle.std.specs.Prelude.{ℕ, [], ◌∷◌, Option, if◌then◌else◌}
use Rattle.network_theory.specs.Branch.{Shunt}
use Rattle.study_model.specs.declared.words.Sequence.{Sequence}
use Rattle.study_model.specs.declared.words.Phase.{Phase}
use Rattle.study_model.specs.declared.records.Bank.{Bank}
use Rattle.study_model.specs.declared.records.Study.{Study}
use Rattle.element_parts.specs.PerUnit.{susceptance_of_rating}
use Rattle.element_parts.specs.Expansion.{Expansion, grounded_at}
use Rattle.element_parts.specs.Phases.{power_in}
use Rattle.load_filter_model.specs.Presence.{is_present}
use Rattle.load_filter_model.specs.Ports.{Port, single, at_phases}

-- Shunt b = q/s to ground; in the zero network the same where grounded, else open
unfoldable pub bank_expansion : Study → Bank → ℕ → Sequence → Expansion
bank_expansion study e owner sequence =
    grounded_at e.bus (if is_present sequence e.grounded e.phase then Shunt (susceptance_of_rating e.q study.mva) ∷ [] else []) owner

-- the same at a node, where its rating is as written or three times that
abbrev pub bank_port : Study → Bank → Option Phase → Port
bank_port study e phase = single (Shunt (susceptance_of_rating (power_in phase e.q) study.mva))

-- in the network of three phases
unfoldable pub bank_phases : Study → Bank → ℕ → ℕ → Expansion
bank_phases study e owner next = at_phases (bank_port study e e.phase) e.grounded e.phase e.bus next owner
