-- Lines as branches: a line is a cascade of nominal pi sections.
use Rattle.std.specs.Prelude.{ℕ, zero, suc, ◌+◌, ◌-◌, ◌*◌, ℤ, pos, int_lt, List, ◌∷◌, ◌++◌, map, Option, Some}
use Rattle.network_theory.specs.Branch.{Law, Shunt, Branch}
use Rattle.study_model.specs.declared.words.Sequence.{Sequence}
use Rattle.study_model.specs.declared.words.Sequence.TheVariants.{Positive, Zero}
use Rattle.study_model.specs.declared.records.Line.{Line}
use Rattle.study_model.specs.declared.records.Study.{Study}
use Rattle.study_model.specs.Voltages.{kv_of}
use Rattle.element_parts.specs.PerUnit.{impedance_share, susceptance_share}
use Rattle.element_parts.specs.Expansion.{Expansion, to_ground, between, skin_series, open_circuit, law_where}

-- a section between two nodes: its impedance, then the laws of an end to ground at its near end and at its far end
abbrev pub pi_section : Law → List Law → ℕ → ℕ → ℕ → List Branch
pi_section series end near far owner =
    between near far series owner ∷ (map (λ law. to_ground near law owner) end ++ map (λ law. to_ground far law owner) end)

-- sections from a node over so many inner nodes, the first of them `next`, to another node
abbrev pub cascade : Law → List Law → ℕ → ℕ → ℕ → ℕ → ℕ → List Branch
cascade series end near next zero far owner = pi_section series end near far owner
cascade series end near next (suc inner) far owner = pi_section series end near next owner ++ cascade series end next (next + 1) inner far owner

-- the impedance of one of N sections: Series r/N, x/N
abbrev pub section_series : Study → Line → ℤ → ℤ → Law
section_series study e r x =
    let v = kv_of study.buses e.from in
    skin_series (impedance_share r study.mva v e.sections) e.skin_k e.skin_m (impedance_share x study.mva v e.sections)

-- at an end of a section, where b is above 0: Shunt b/(2N)
abbrev pub end_laws : Study → Line → ℤ → List Law
end_laws study e b = law_where (int_lt (pos 0) b) (Shunt (susceptance_share b study.mva (kv_of study.buses e.from) (2 * e.sections)))

-- a line of r and x ohms and b microsiemens, with N - 1 inner nodes
abbrev pub line_of : Study → Line → ℕ → ℕ → ℤ → ℤ → ℤ → Expansion
line_of study e owner next r x b =
    record { inner = e.sections - 1; branches = cascade (section_series study e r x) (end_laws study e b) e.from next (e.sections - 1) e.to owner }

-- in the zero network the same with r0, x0 and b0 where r0 is given, else open
abbrev pub line_in : Study → Line → ℕ → ℕ → Sequence → Option ℤ → Option ℤ → Expansion
line_in study e owner next Positive r0 x0 = line_of study e owner next e.r e.x e.b
line_in study e owner next Zero (Some r0) (Some x0) = line_of study e owner next r0 x0 e.b0
line_in study e owner next Zero _ _ = open_circuit

unfoldable pub line_expansion : Study → Line → ℕ → Sequence → ℕ → Expansion
line_expansion study e owner sequence next = line_in study e owner next sequence e.r0 e.x0
