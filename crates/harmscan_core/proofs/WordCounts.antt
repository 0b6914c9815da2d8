-- Words that are read, and words that are too few or too many.
use Rattle.std.proofs.Common.{◌≡◌, ◌∙◌, ◌<◌, ◌≤◌, List, [], ◌∷◌, length, Option, Some, None, String, Global, refl, ap, sym, arith}
use Rattle.std.specs.Prelude.{option_map}
use Rattle.harm_io.specs.Memory.{names_of}
use Rattle.harmscan_core.specs.Words.{Reading, reading, seen}
use Rattle.harmscan_core.specs.declared.words.Command.{Command}

-- words that are read as a command
pub read_as : (read : Option Command) (found command : Command) (w : Option Reading) → option_map seen read ≡ w → read ≡ Some found → found ≡ command → Some (seen command) ≡ w
read_as read found command w e is one = ap (λ (c : Command). Some (seen c)) (sym one) ∙ ap (option_map seen) (sym is) ∙ e

pub reading_few : (ws : List (String Global)) → length ws < 2 → reading (names_of ws) ≡ None
reading_few [] h = refl
reading_few (a ∷ []) h = refl
reading_few (a ∷ b ∷ ws) h = absurd (omega arith)

pub reading_more : (ws : List (String Global)) → 5 ≤ length ws → reading (names_of ws) ≡ None
reading_more [] h = absurd (omega arith)
reading_more (a ∷ []) h = absurd (omega arith)
reading_more (a ∷ b ∷ []) h = absurd (omega arith)
reading_more (a ∷ b ∷ c ∷ []) h = absurd (omega arith)
reading_more (a ∷ b ∷ c ∷ d ∷ []) h = absurd (omega arith)
reading_more (a ∷ b ∷ c ∷ d ∷ e ∷ ws) h = refl
