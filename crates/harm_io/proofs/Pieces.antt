-- A piece that a writer takes in several writes.
use Rattle.std.proofs.Common.{ℕ, ◌+◌, List, [], take, drop, Option, Some, None, sym, ◌∙◌, subst, append-nil, take-add}
use Rattle.std.proofs.KnownBytes.{Appends-trans}
use Rattle.std.specs.Io.KnownBytes.{Appends, Keeps}

pub kept_nothing : (before now : Option (List ℕ)) → Keeps before now → Appends before now []
kept_nothing None now h = tt
kept_nothing (Some xs) None h = h
kept_nothing (Some xs) (Some ys) h = h ∙ sym (append-nil xs)

-- the first n bytes, and then the next m
pub wrote_more : (before now after : Option (List ℕ)) (piece : List ℕ) (n m : ℕ) → Appends before now (take n piece) → Appends now after (take m (drop n piece))
    → Appends before after (take (n + m) piece)
wrote_more before now after piece n m first next =
    subst (Appends before after) (sym (take-add n m piece)) (Appends-trans before now after (take n piece) (take m (drop n piece)) first next)

pub ruleset piece_steps = (kept_nothing, wrote_more)
