-- The drill of number 7, with numbers that another program drew.
use Rattle.std.specs.Prelude.{◌≡◌, pos}
use Rattle.drill_study.specs.Draws.{after}
use Rattle.drill_study.specs.Drill.{line_of}

-- its first two lines, from bus 0 to 36 and from bus 1 to 53
pub record WorkedDrill : Type 0 where
  pub to : (line_of 0 7).to ≡ 36
  pub r : (line_of 0 7).r ≡ pos 16000
  pub x : (line_of 0 7).x ≡ pos 168000
  pub b : (line_of 0 7).b ≡ pos 94000000
  pub next_to : (line_of 1 (after 4 7)).to ≡ 53
  pub next_r : (line_of 1 (after 4 7)).r ≡ pos 25000
  pub next_x : (line_of 1 (after 4 7)).x ≡ pos 134000
  pub next_b : (line_of 1 (after 4 7)).b ≡ pos 210000000
