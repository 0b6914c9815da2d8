-- A name and the zeros after it.
use Rattle.std.proofs.Common.{◌≡◌, ℕ, ◌-◌, ◌≤◌, List, ◌++◌, length, take, drop, refl, arith, length-append, true, nat_le, ◌&&◌}
use Rattle.std.proofs.lemmas.Bool.{and_parts}
use Rattle.std.proofs.lemmas.Bool.Decides.{nat_tests}
use Rattle.std.specs.Prelude.{replicate}
use Rattle.study_model.specs.Name.{IsPadded}
use Rattle.study_model.specs.NameText.{is_name, is_name_byte}
use Rattle.std.specs.List.{list_all}
use Rattle.std.proofs.Math.Seq.{drop-append_seam, take-append_seam}
use Rattle.std.proofs.lemmas.List.{length-replicate, drop-replicate}

-- what is left of 32 zeros
pub zeros_left : (n : ℕ) → drop {A = ℕ} n (replicate 32 0) ≡ replicate (32 - n) 0
zeros_left n = drop-replicate n 32 0

test_le : (m n : ℕ) → nat_le m n ≡ true → m ≤ n
test_le m n h = grind (arith, nat_tests)

pub name_parts : (text : List ℕ) → is_name text ≡ true → (1 ≤ length text) × (length text ≤ 32) × (list_all is_name_byte text ≡ true)
name_parts text h =
    let outer = and_parts (nat_le 1 (length text) && nat_le (length text) 32) (list_all is_name_byte text) h in
    let inner = and_parts (nat_le 1 (length text)) (nat_le (length text) 32) outer.0 in
    (test_le 1 (length text) inner.0, test_le (length text) 32 inner.1, outer.1)

-- a name of these bytes lies so
pub padded_name : (text bytes : List ℕ) → is_name text ≡ true → bytes ≡ text ++ replicate (32 - length text) 0 → IsPadded (length text) bytes
padded_name text bytes named e =
    let parts = name_parts text named in
    let front : take (length text) bytes ≡ text = rw e (take-append_seam text (replicate (32 - length text) 0)) in
    record {
      some = parts.0;
      fits = parts.1;
      whole = let fits : length text ≤ 32 = parts.1 in rw (e, length-append, length-replicate) (omega arith);
      letters = rw (front, parts.2) refl;
      zeros = rw e (drop-append_seam text (replicate (32 - length text) 0));
    }

pub padded_text : (text bytes : List ℕ) → bytes ≡ text ++ replicate (32 - length text) 0 → take (length text) bytes ≡ text
padded_text text bytes e = rw e (take-append_seam text (replicate (32 - length text) 0))

pub ruleset name_steps = (name_parts, padded_name, padded_text)
