use Rattle.std.proofs.Common.{◌≡◌, ◌++◌, [], ◌∷◌, sym, subst, ap, ◌∙◌}
use Rattle.std.proofs.lemmas.List.Elements.{All-nil, All-cons, All-same}
use Rattle.drop_bench.specs.Bench.{BenchSize}
use Rattle.drop_bench.specs.Drops.{IsInside}
use Rattle.branchwise_cases.proofs.estimates.outcome.Goals as goal

pub estimate-requires-clause-inside : goal.estimate-requires-clause-inside
estimate-requires-clause-inside c =
    let d = c.in_ok-node_drop.field-0 in
    let n = c.in_ok-bench.bench.nodes in
    let one : n ≡ 1 = ap (λ (b : BenchSize). b.nodes) c.in_ok-bench.ensures in
    let is : c.as_slice.result.now ≡ d ∷ [] = c.as_slice.ensures.value ∙ c.in_ok-push.ensures.items ∙ ap (λ l. l ++ d ∷ []) c.new-drops.ensures.items in
    All-same (IsInside n) c.as_slice.result.now (d ∷ []) is (All-cons (IsInside n) d [] (subst (λ m. IsInside m d) (sym one) c.in_ok-node_drop.ensures) (All-nil (IsInside n)))
