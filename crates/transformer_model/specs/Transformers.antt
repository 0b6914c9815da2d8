-- Transformers as branches.
use Rattle.std.specs.Prelude.{ℕ, ◌+◌, ℤ, pos, negsuc, ◌*ℤ◌, int_lt, ◌||◌, List, [], ◌∷◌, ◌++◌, map, length}
use Rattle.exact_algebra.specs.Ratio.{Ratio, whole}
use Rattle.network_theory.specs.Branch.{Law, Branch}
use Rattle.study_model.specs.declared.words.Sequence.{Sequence}
use Rattle.study_model.specs.declared.words.Sequence.TheVariants.{Positive, Zero}
use Rattle.study_model.specs.declared.words.Connection.{Connection}
use Rattle.study_model.specs.declared.words.Connection.TheVariants.{Grounded, Delta}
use Rattle.study_model.specs.declared.records.Transformer.{Transformer}
use Rattle.study_model.specs.declared.records.Study.{Study}
use Rattle.study_model.specs.Voltages.{kv_of}
use Rattle.element_parts.specs.PerUnit.{impedance_per_unit, percent_per_unit, inverse_ratio}
use Rattle.element_parts.specs.Expansion.{Expansion, between, skin_series, open_circuit, law_where}

-- the leakage impedance Z
abbrev pub leakage : Study → Transformer → Law
leakage study e = skin_series (percent_per_unit e.r study.mva e.mva) e.skin_k e.skin_m (percent_per_unit e.x study.mva e.mva)

-- between the from side and the to side: Series Z with the ratios 1/t and -1
abbrev pub windings : Study → Transformer → ℕ → ℕ → ℕ → Branch
windings study e from to owner =
    record { taps = record { node = from; ratio = inverse_ratio e.ratio } ∷ record { node = to; ratio = whole (negsuc 0) } ∷ []; law = leakage study e; group = 0; owner = owner }

-- from one side to ground: Series Z with one tap
abbrev pub winding : Study → Transformer → ℕ → Ratio → ℕ → Branch
winding study e node ratio owner = record { taps = record { node = node; ratio = ratio } ∷ []; law = leakage study e; group = 0; owner = owner }

-- the neutral of a grounded side at a bus, where its impedance isn't 0: Series 3·rn, 3·xn
abbrev pub neutral_laws : Study → Transformer → ℕ → ℤ → ℤ → List Law
neutral_laws study e bus rn xn =
    let v = kv_of study.buses bus in
    law_where (int_lt (pos 0) rn || int_lt (pos 0) xn)
    (skin_series (impedance_per_unit (pos 3 *ℤ rn) study.mva v) e.skin_k e.skin_m (impedance_per_unit (pos 3 *ℤ xn) study.mva v))

-- where a neutral has an impedance, it goes from the bus to an inner node, which then stands for the bus
abbrev pub neutral : ℕ → ℕ → List Law → ℕ → List Branch
neutral bus next laws owner = map (λ law. between bus next law owner) laws

abbrev pub behind : ℕ → ℕ → List Law → ℕ
behind bus next [] = bus
behind bus next (law ∷ laws) = next

-- both sides grounded: the from side's neutral and the to side's, then the windings
abbrev pub both_grounded : Study → Transformer → ℕ → ℕ → List Law → List Law → Expansion
both_grounded study e owner next from to =
    let second = next + length from in
    record {
      inner = length from + length to;
      branches = neutral e.from next from owner ++ (neutral e.to second to owner ++ windings study e (behind e.from next from) (behind e.to second to) owner ∷ []);
    }

-- one side grounded and the other in delta: the grounded side's neutral, then its winding
abbrev pub one_grounded : Study → Transformer → ℕ → ℕ → ℕ → Ratio → List Law → Expansion
one_grounded study e owner next bus ratio laws =
    record { inner = length laws; branches = neutral bus next laws owner ++ winding study e (behind bus next laws) ratio owner ∷ [] }

-- the zero network, by the connections of the from side and the to side
abbrev pub zero_transformer : Study → Transformer → ℕ → ℕ → Connection → Connection → Expansion
zero_transformer study e owner next Grounded Grounded =
    both_grounded study e owner next (neutral_laws study e e.from e.from_rn e.from_xn) (neutral_laws study e e.to e.to_rn e.to_xn)
zero_transformer study e owner next Grounded Delta =
    one_grounded study e owner next e.from (inverse_ratio e.ratio) (neutral_laws study e e.from e.from_rn e.from_xn)
zero_transformer study e owner next Delta Grounded =
    one_grounded study e owner next e.to (whole (pos 1)) (neutral_laws study e e.to e.to_rn e.to_xn)
zero_transformer study e owner next _ _ = open_circuit

abbrev pub transformer_in : Study → Transformer → ℕ → ℕ → Sequence → Expansion
transformer_in study e owner next Positive = record { inner = 0; branches = windings study e e.from e.to owner ∷ [] }
transformer_in study e owner next Zero = zero_transformer study e owner next e.from_conn e.to_conn

unfoldable pub transformer_expansion : Study → Transformer → ℕ → Sequence → ℕ → Expansion
transformer_expansion study e owner sequence next = transformer_in study e owner next sequence
