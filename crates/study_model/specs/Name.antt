-- Where a name lies.
use Rattle.std.specs.Prelude.{◌≡◌, ℕ, ◌-◌, ◌≤◌, IsTrue, List, ◌++◌, length, take, drop, replicate}
use Rattle.std.specs.List.{list_all}
use Rattle.std.proofs.Common.{◌∙◌, ap, arith, sym}
use Rattle.std.proofs.lemmas.List.{length-take-le, take-append-drop}
use Rattle.study_model.specs.NameText.{is_name_byte}
use Rattle.study_model.specs.declared.name.Name.TheInside.{Inside}

-- 1 to 32 bytes of a name, and zeros after them
pub record IsPadded (len : ℕ) (bytes : List ℕ) : Type 0 where
  pub some : 1 ≤ len
  pub fits : len ≤ 32
  pub whole : length bytes ≡ 32
  pub letters : IsTrue (list_all is_name_byte (take len bytes))
  pub zeros : drop len bytes ≡ replicate (32 - len) 0

-- how a name lies: its bytes, and zeros after them
abbrev pub inverse_of : List ℕ → Inside
inverse_of text = record { len = length text; bytes = text ++ replicate (32 - length text) 0 }

-- equal lengths and bytes are equal names
inside_is : {n n' : ℕ} {bs bs' : List ℕ} → n ≡ n' → bs ≡ bs' → ◌≡◌ {A = Inside} (record { len = n; bytes = bs }) (record { len = n'; bytes = bs' })
inside_is p q = cc

-- a name lies as its bytes say
pub inverse_is : (a : Inside) → IsPadded a.len a.bytes → inverse_of (take a.len a.bytes) ≡ a
inverse_is a h =
    let long : a.len ≤ length a.bytes = omega (arith, h.whole, h.fits) in
    let len : length (take a.len a.bytes) ≡ a.len = length-take-le a.len a.bytes long in
    let bytes : take a.len a.bytes ++ replicate (32 - length (take a.len a.bytes)) 0 ≡ a.bytes
    = ap (λ n. take a.len a.bytes ++ replicate (32 - n) 0) len ∙ ap (λ z. take a.len a.bytes ++ z) (sym h.zeros) ∙ take-append-drop a.len a.bytes in
    inside_is len bytes
