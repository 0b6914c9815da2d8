-- The scale of a lawful study.
use Rattle.std.proofs.Common.{◌≡◌, ℕ, ◌≤◌, ◌⊎◌, inl, inr, arith}
use Rattle.study_model.specs.Lawful.{IsLawful}
use Rattle.study_model.specs.declared.records.Study.{Study}

by_scale : (scale : ℕ) → (scale ≡ 40) ⊎ (scale ≡ 48) → scale ≤ 48
by_scale scale (inl e) = omega arith
by_scale scale (inr e) = omega arith

pub within : (study : Study) → IsLawful study → study.scale ≤ 48
within study h = by_scale study.scale h.scale
