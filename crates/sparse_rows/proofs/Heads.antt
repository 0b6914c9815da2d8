-- The entries of one column stay where a row is written behind that column.
use Rattle.std.proofs.Common.{◌≡◌, ℕ, ◌+◌, ◌*◌, ◌<◌, ◌≤◌, List, get_or, take, drop, map, inl, inr, arith}
use Rattle.std.proofs.Math.Nat.{mul-le-mul_right}
use Rattle.complex_interval.specs.Rectangles.{Rectangle}
use Rattle.plain_elimination.specs.Matrix.{nought_rectangle}
use Rattle.plain_elimination.proofs.Layouts.{row_fits}
use Rattle.sparse_rows.proofs.Outside.{by_lt, front_or_back}

pub head_stays : {R : Type 0} (h : R → Rectangle) (cells new : List R) (n w c i r : ℕ) → w ≡ c + 1 + n → r < n → take (i * w + c + 1) new ≡ take (i * w + c + 1) cells → drop (i * w + c + 1 + n) new ≡ drop (i * w + c + 1 + n) cells
    → get_or (map h new) (r * w + c) nought_rectangle ≡ get_or (map h cells) (r * w + c) nought_rectangle
head_stays h cells new n w c i r e l before after =
    by_lt i r
    (λ (p : i < r). let rows = row_fits i r w p in front_or_back h new cells (i * w + c + 1) (i * w + c + 1 + n) (r * w + c) before after (inr (omega arith)))
    (λ (p : r ≤ i). let rows : r * w ≤ i * w = mul-le-mul_right w p in front_or_back h new cells (i * w + c + 1) (i * w + c + 1 + n) (r * w + c) before after (inl (omega arith)))
