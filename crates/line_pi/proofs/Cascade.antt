-- A cascade as one section after another.
use Rattle.std.proofs.Common.{◌≡◌, ℕ, ◌+◌, ◌-◌, ◌<◌, ◌++◌, suc, List, refl, append_assoc, arith}
use Rattle.network_theory.specs.Branch.{Law, Branch}
use Rattle.line_pi.specs.Lines.{pi_section, cascade}

-- the first section of those over a number of inner nodes above 0
first_section : (series : Law) (end : List Law) (near next count rest after far owner : ℕ) → count ≡ suc rest → after ≡ next + 1
    → cascade series end near next count far owner ≡ pi_section series end near next owner ++ cascade series end next after rest far owner
first_section series end near next count rest after far owner e f = rw (e, f) refl

-- the section that ends at the inner node after the first i, and what remains after it
next_section : (series : Law) (end : List Law) (near first i inner far owner : ℕ) → i < inner
    → cascade series end near (first + i) (inner - i) far owner ≡ pi_section series end near (first + i) owner ++ cascade series end (first + i) (first + (i + 1)) (inner - (i + 1)) far owner
next_section series end near first i inner far owner h =
    first_section series end near (first + i) (inner - i) (inner - (i + 1)) (first + (i + 1)) far owner (omega arith) (omega arith)

-- branches so far with one more section, before what remains after it
pub one_more : (series : Law) (end : List Law) (near first i inner far owner : ℕ) (old new whole : List Branch) → i < inner → new ≡ old ++ pi_section series end near (first + i) owner
    → old ++ cascade series end near (first + i) (inner - i) far owner ≡ whole
    → new ++ cascade series end (first + i) (first + (i + 1)) (inner - (i + 1)) far owner ≡ whole
one_more series end near first i inner far owner old new whole h e k = rw (e, append_assoc, ← next_section series end near first i inner far owner h) k
