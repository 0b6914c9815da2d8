-- Results of the code as contracts see them.
use Rattle.std.specs.Prelude.{Result, Ok, Err}
use Rattle.branchwise_test.specs.declared.fault.BranchwiseFault.{BranchwiseFault}

-- f of the value, or the fault
abbrev pub result_of : {X Y : Type 0} → (X → Y) → Result X BranchwiseFault → Result Y BranchwiseFault
result_of f (Ok x) = Ok (f x)
result_of f (Err e) = Err e
